use Rattle.std.proofs.Common.{rules, arith, ◌≡◌, ◌++◌, take, length, Ok}
use Rattle.std.proofs.lemmas.Grind.{common_steps}
use Rattle.pl_io.proofs.Fronts.{read_more}
use Rattle.pl_io.proofs.whole.read_piece.Goals as goal

pub returns-clause-front : goal.returns-clause-front
returns-clause-front g c =
    let e : c.read_at.result ≡ Ok c.in_ok-count.count = grind (arith, common_steps) in
    let here : c.len.result ≡ length c.args.bytes.now.items = search rules in
    let is : c.extend_from_slice.new.self.items ≡ c.args.bytes.now.items ++ take c.in_ok-count.count c.read_at.new.into = grind (arith, common_steps) in
    read_more _ _ _ _ c.len.result _ c.read_at.result e here c.read_at.ensures.bound is c.read_at.ensures.part
