-- A fault that has its line is the rule's with its line.
use Rattle.std.proofs.Common.{◌≡◌, ℕ, ap}
use Rattle.std.specs.Result.{IsErrAnd}
use Rattle.std.specs.Prelude.{Result, Ok, Err}
use Rattle.pl_base.specs.declared.memory.Or.{Or}
use Rattle.pl_base.specs.declared.memory.Or.TheVariants as or
use Rattle.pl_cases.specs.declared.malformed.Reason.{Reason}
use Rattle.pl_cases.specs.Answers.{at, Fails, Gives, Leaves, placed}

pub gives_at : {A : Type 0} (n : ℕ) (r : Result A (Or Reason)) (rule : Result A Reason) → Gives r rule → Gives (placed n r) (at n rule)
gives_at n (Ok x) rule g = ap (at n) g
gives_at n (Err or.Memory) rule g = tt
gives_at n (Err (or.Is reason)) rule g = ap (at n) g

pub leaves_at : {A B : Type 0} (n : ℕ) (r : Result B (Or Reason)) (new : A) (rule : Result A Reason) → Leaves r new rule → Leaves (placed n r) new (at n rule)
leaves_at n (Ok x) new rule g = ap (at n) g
leaves_at n (Err or.Memory) new rule g = tt
leaves_at n (Err (or.Is reason)) new rule g = ap (at n) g

-- a `?` hands on what a call fails with
pub at_exit : {A E : Type 0} (r : Result A (Or E)) (e : Or E) (rule : Result A E) → IsErrAnd r (λ x. x ≡ e) → Fails e rule → Gives r rule
at_exit (Ok x) e rule is f = absurd is
at_exit (Err y) e rule is f = rw is f
