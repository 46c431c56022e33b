-- One step of the code is one of the run.
use Rattle.std.proofs.Common.{◌≡◌, ◌∙◌, ℕ, ◌+◌, ◌-◌, ◌<◌, suc, List, [], ◌∷◌, length, drop, take, Ok, Err, refl, ap, arith, add-one}
use Rattle.std.proofs.lemmas.List.{take_rest, length-drop}
use Rattle.pl_lex.specs.declared.state.Before.{Before}
use Rattle.pl_lex.specs.declared.scan.Found.{Found}
use Rattle.pl_lex.specs.declared.token.Token.{Token}
use Rattle.pl_lex.specs.declared.token.LexKind.{LexKind}
use Rattle.pl_lex.specs.State.{behind}
use Rattle.pl_lex.specs.Scan.{head, told, run}
use Rattle.pl_lex.proofs.Runs.{run-skip}

-- a fault at the front stops the run
pub run_fault : (done : List Token) (b : Before) (at : ℕ) (xs : List ℕ) (kind : LexKind) → 0 < length xs → head b xs ≡ Err kind → run done b at 0 xs ≡ Err (kind, at)
run_fault done b at [] kind h e = absurd (omega arith)
run_fault done b at (c ∷ cs) kind h e = rw e refl

-- a piece at the front is told and passed
pub run_piece : (done : List Token) (b : Before) (at : ℕ) (xs : List ℕ) (f : Found) → 0 < length xs → head b xs ≡ Ok f
    → run done b at 0 xs ≡ run (told done f at b) (behind f.part (take (f.more + 1) xs) b) (at + (f.more + 1)) 0 (drop (f.more + 1) xs)
run_piece done b at [] f h e = absurd (omega arith)
run_piece done b at (c ∷ cs) f h e =
    let b' : Before = behind f.part (take (suc f.more) (c ∷ cs)) b in
    let n : at + 1 + f.more ≡ at + suc f.more = omega arith in
    rw (e, add-one f.more) (run-skip (told done f at b) b' (at + 1) f.more cs ∙ ap (λ m. run (told done f at b) b' m 0 (drop f.more cs)) n)

-- the same at a place of the source, with the slice that the code looks at
pub run_fault_at : (done : List Token) (b : Before) (at : ℕ) (source : List ℕ) (kind : LexKind) → at < length source → head b (take (length source - at) (drop at source)) ≡ Err kind
    → run done b at 0 (drop at source) ≡ Err (kind, at)
run_fault_at done b at source kind h e = run_fault done b at (drop at source) kind (omega (arith, length-drop at source)) (rw take_rest at e)

pub run_piece_at : (done : List Token) (b : Before) (at : ℕ) (source : List ℕ) (f : Found) → at < length source → head b (take (length source - at) (drop at source)) ≡ Ok f
    → run done b at 0 (drop at source)
    ≡ run (told done f at b) (behind f.part (take (f.more + 1) (take (length source - at) (drop at source))) b) (at + (f.more + 1)) 0 (drop (f.more + 1) (drop at source))
run_piece_at done b at source f h e = rw take_rest (run_piece done b at (drop at source) f (omega (arith, length-drop at source)) (rw take_rest at e))
