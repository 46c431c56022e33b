-- A run over the terminals that are left, one after another.
use Rattle.std.proofs.Common.{◌≡◌, ℕ, zero, suc, ◌+◌, ◌<◌, ◌≤◌, List, [], ◌∷◌, length, drop, get_or, Ok, Err, refl, sym, ◌∙◌, ap, arith, add-one}
use Rattle.pl_grammar.specs.declared.fault.FaultKind.{FaultKind}
use Rattle.pl_grammar.specs.declared.terminal.Terminal.{Terminal}
use Rattle.pl_frames.specs.declared.state.State.{State}
use Rattle.pl_states.specs.Run.{step, run, finish, onward}

run_suc : (st next : State) (ts : List Terminal) (i : ℕ) (t : Terminal) → i < length ts → t ≡ get_or ts i t → step st t ≡ Ok next → run st (drop i ts) ≡ run next (drop (suc i) ts)
run_suc st next [] i t h e s = absurd (omega arith)
run_suc st next (x ∷ xs) zero t h e s = rw (← e, s) refl
run_suc st next (x ∷ xs) (suc i) t h e s = run_suc st next xs i t (omega arith) e s

-- a terminal that is taken
pub run_on : (st next : State) (ts : List Terminal) (i : ℕ) (t : Terminal) → i < length ts → t ≡ get_or ts i t → step st t ≡ Ok next → run st (drop i ts) ≡ run next (drop (i + 1) ts)
run_on st next ts i t h e s = rw add-one (run_suc st next ts i t h e s)

-- a terminal that is refused, and how many are left from it on
pub run_stops : (st : State) (kind : FaultKind) (ts : List Terminal) (i left : ℕ) (t : Terminal) → i < length ts → t ≡ get_or ts i t → step st t ≡ Err kind → left + i ≡ length ts → run st (drop i ts) ≡ Err (record { kind = kind; left = left })
run_stops st kind [] i left t h e s n = absurd (omega arith)
run_stops st kind (x ∷ xs) zero left t h e s n = let m : suc (length xs) ≡ left = omega arith in rw (← e, s, m) refl
run_stops st kind (x ∷ xs) (suc i) left t h e s n = run_stops st kind xs i left t (omega arith) e s (omega arith)

-- none is left
pub run_ends : (st : State) (ts : List Terminal) (i : ℕ) → length ts ≤ i → run st (drop i ts) ≡ finish st
run_ends st [] zero h = refl
run_ends st [] (suc i) h = refl
run_ends st (x ∷ xs) zero h = absurd (omega arith)
run_ends st (x ∷ xs) (suc i) h = run_ends st xs i (omega arith)
