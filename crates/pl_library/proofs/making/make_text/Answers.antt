use Rattle.std.proofs.lemmas.Result.{IfOk-weaker}
use Rattle.pl_operators.specs.Operands.{and_then}
use Rattle.pl_meaning.specs.Library.{text_by, text_row}
use Rattle.pl_library.proofs.Parts.{sprintf_is, went_as, halts_as}
use Rattle.pl_library.proofs.making.make_text.Goals as goal

pub returns-in-false-clause-ok : goal.returns-in-false-clause-ok
returns-in-false-clause-ok c =
    IfOk-weaker c.give.result _ _ (λ v w m. went_as m v.items m (sprintf_is c.args.place c.args.wanted c.args.given.items c.in-false.is) (w (and_then (text_by c.args.given.items) text_row) (c.text_row.ensures.ok, c.text_row.ensures.err) m)) c.give.ensures.ok

pub returns-in-false-clause-err : goal.returns-in-false-clause-err
returns-in-false-clause-err c =
    λ x e m. halts_as m x m (sprintf_is c.args.place c.args.wanted c.args.given.items c.in-false.is) (c.give.ensures.err x e (and_then (text_by c.args.given.items) text_row) (c.text_row.ensures.ok, c.text_row.ensures.err) m)
