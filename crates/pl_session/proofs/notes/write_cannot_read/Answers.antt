use Rattle.pl_session.proofs.Pieces.{line_first, line_second, line_third, line_whole, on_err, on_err_from, on_ok_from}
use Rattle.pl_session.proofs.notes.write_cannot_read.Goals as goal

pub returns-in_err-write_all-clause-prefix : goal.returns-in_err-write_all-clause-prefix
returns-in_err-write_all-clause-prefix g c =
    on_err c.from_residual.result (line_first (g.N.Sink.written c.args.notes.now) (g.N.Sink.written c.write_all.new.sink) c.args.name.now c.in_err-write_all.ensures.prefix)

pub returns-in_err-write_all-2-clause-prefix : goal.returns-in_err-write_all-2-clause-prefix
returns-in_err-write_all-2-clause-prefix g c =
    on_err c.from_residual-in_err-write_all-2.result (line_second (g.N.Sink.written c.args.notes.now) (g.N.Sink.written c.write_all.new.sink) (g.N.Sink.written c.write_all-2.new.sink) c.args.name.now c.in_ok-write_all.ensures.all c.in_err-write_all-2.ensures.prefix)

pub returns-clause-all : goal.returns-clause-all
returns-clause-all g c =
    on_ok_from c.write_all-3.result c.write_all-3.ensures.all (line_whole (g.N.Sink.written c.args.notes.now) (g.N.Sink.written c.write_all.new.sink) (g.N.Sink.written c.write_all-2.new.sink) (g.N.Sink.written c.write_all-3.new.sink) c.args.name.now c.in_ok-write_all.ensures.all c.in_ok-write_all-2.ensures.all)

pub returns-clause-prefix : goal.returns-clause-prefix
returns-clause-prefix g c =
    on_err_from c.write_all-3.result c.write_all-3.ensures.prefix (line_third (g.N.Sink.written c.args.notes.now) (g.N.Sink.written c.write_all.new.sink) (g.N.Sink.written c.write_all-2.new.sink) (g.N.Sink.written c.write_all-3.new.sink) c.args.name.now c.in_ok-write_all.ensures.all c.in_ok-write_all-2.ensures.all)
