use Rattle.std.proofs.Common.{[]}
use Rattle.pl_library.proofs.printing.print_text.Goals as goal

pub returns-in-Ok-clause-ok : goal.returns-in-Ok-clause-ok
returns-in-Ok-clause-ok g c =
    let told = rw c.from_vec.ensures at c.in-Ok.ensures.ok in
    rw c.new.ensures.items (λ k h all b. told (λ u. k []) h all b)

pub returns-in-Err-clause-err : goal.returns-in-Err-clause-err
returns-in-Err-clause-err g c =
    let told = rw c.from_vec.ensures at c.in-Err.ensures.err in
    λ x e k h all b. told x (cc) (λ u. k []) h all b
