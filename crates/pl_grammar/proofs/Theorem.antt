-- The answer of the machine is the program of the terminals, or their fault, and there is one.
use Rattle.std.proofs.Common.{◌≡◌, ◌∙◌, ℕ, suc, zero, ◌+◌, ◌-◌, ◌<◌, ◌≤◌, Bool, true, false, not, ◌&&◌, ◌⊎◌, if◌then◌else◌, Option, Some, None, List, [], ◌∷◌, ◌++◌, length, take, Ok, Err, refl, ap, sym, subst, arith, append_assoc}
use Rattle.std.specs.Prelude.{max}
use Rattle.std.proofs.Common.{inl, inr}
use Rattle.std.proofs.Math.Nat.{le-max_left, le-max_right}
use Rattle.std.proofs.lemmas.List.{length-append}
use Rattle.std.proofs.Math.Seq.{take-append_seam}
use Rattle.pl_syntax.specs.declared.stmt.Program.{Program}
use Rattle.pl_grammar.specs.declared.fault.FaultKind.{FaultKind}
use Rattle.pl_grammar.specs.declared.fault.FaultKind.TheVariants.{Unexpected, MissingEnd, TooDeep, FunctionTwice}
use Rattle.pl_grammar.specs.declared.terminal.Terminal.{Terminal}
use Rattle.pl_grammar.specs.Derivations.{Prog, whole_of, unended, Top, script, define, spaced}
use Rattle.pl_grammar.specs.Trees.{program_of}
use Rattle.pl_grammar.specs.Nesting.{prog_height}
use Rattle.pl_grammar.specs.Sound.{has_function, fun_name, SoundTop, SoundProg}
use Rattle.pl_grammar.specs.Programs.{Rules, strict, Parses, Begins, has_end, WantsEnd, EndsSo, Explains, ParseFault}
use Rattle.pl_grammar.specs.Machine.{State, beginning, is_open}
use Rattle.pl_grammar.specs.Steps.{Step, Answer, Refusal, step, onward, run, ended, finish_with}
use Rattle.pl_grammar.proofs.Statements.{reads}
use Rattle.pl_grammar.proofs.Kept.{run_keeps}
use Rattle.pl_grammar.proofs.Sites.{Good, Fine}
use Rattle.pl_grammar.proofs.Invariant.{good, good_beginning, run_good}
use Rattle.pl_grammar.proofs.Closing.{Closes, closing}
use Rattle.pl_grammar.proofs.Relaxing.{Allows}
use Rattle.pl_grammar.proofs.RelaxingRuns.{Becomes, relaxed, room_for, roomy_step, still_deep, wants_end}

-- ---- walking along terminals

abbrev pub on_step : Step → (State → Step) → Step
on_step (Ok st) f = f st
on_step (Err k) f = Err k

abbrev pub walk : Rules → State → List Terminal → Step
walk r st [] = Ok st
walk r st (t ∷ ts) = on_step (step r st t) (λ next. walk r next ts)

walk_run : (r : Rules) (pre more : List Terminal) (st next : State) → walk r st pre ≡ Ok next → run r st (pre ++ more) ≡ run r next more
walk_run r [] more st next h = let e : st ≡ next = cc in ap (λ x. run r x more) e
walk_run r (t ∷ ts) more st next h = by_step (λ mid g. walk_run r ts more mid next g) (step r st t) refl h
  where
    by_step : ((mid : State) → walk r mid ts ≡ Ok next → run r mid (ts ++ more) ≡ run r next more) → (s : Step) → step r st t ≡ s → on_step s (λ x. walk r x ts) ≡ Ok next → run r st (t ∷ ts ++ more) ≡ run r next more
    by_step ih (Err k) e g = cc
    by_step ih (Ok mid) e g = rw e (ih mid g)

walk_good : (r : Rules) (pre : List Terminal) (st next : State) → Good r st → walk r st pre ≡ Ok next → Good r next
walk_good r [] st next g h = let e : st ≡ next = cc in subst (λ x. Good r x) e g
walk_good r (t ∷ ts) st next g h = by_step (λ mid i j. walk_good r ts mid next i j) (step r st t) refl h
  where
    by_step : ((mid : State) → Good r mid → walk r mid ts ≡ Ok next → Good r next) → (s : Step) → step r st t ≡ s → on_step s (λ x. walk r x ts) ≡ Ok next → Good r next
    by_step ih (Err k) e i = cc
    by_step ih (Ok mid) e i = let x : Fine r (Ok mid) = rw e at (good r st t g) in ih mid x i

walk_relaxed : (r q : Rules) (pre : List Terminal) (st next : State) → Allows r q → walk r st pre ≡ Ok next → walk q st pre ≡ Ok next
walk_relaxed r q [] st next a h = h
walk_relaxed r q (t ∷ ts) st next a h = by_step (λ mid g. walk_relaxed r q ts mid next a g) (step r st t) (step q st t) refl refl h
  where
    by_step : ((mid : State) → walk r mid ts ≡ Ok next → walk q mid ts ≡ Ok next) → (s u : Step) → step r st t ≡ s → step q st t ≡ u → on_step s (λ x. walk r x ts) ≡ Ok next → on_step (step q st t) (λ x. walk q x ts) ≡ Ok next
    by_step ih (Err k) u e f g = cc
    by_step ih (Ok mid) (Ok other) e f g = let x : Becomes q (Ok mid) (Ok other) = rw (e, f) at (relaxed r q st t a) in rw (f, ← x) (ih mid g)
    by_step ih (Ok mid) (Err k) e f g = let x : Becomes q (Ok mid) (Err k) = rw (e, f) at (relaxed r q st t a) in absurd x

walk_on : (r : Rules) (pre : List Terminal) (st mid next : State) (t : Terminal) → walk r st pre ≡ Ok mid → step r mid t ≡ Ok next → walk r st (pre ++ t ∷ []) ≡ Ok next
walk_on r [] st mid next t h e = let f : st ≡ mid = cc in let g : step r st t ≡ Ok next = ap (λ x. step r x t) f ∙ e in rw g refl
walk_on r (u ∷ ts) st mid next t h e = by_step (λ x g. walk_on r ts x mid next t g e) (step r st u) refl h
  where
    by_step : ((x : State) → walk r x ts ≡ Ok mid → walk r x (ts ++ t ∷ []) ≡ Ok next) → (s : Step) → step r st u ≡ s → on_step s (λ x. walk r x ts) ≡ Ok mid → on_step (step r st u) (λ x. walk r x (ts ++ t ∷ [])) ≡ Ok next
    by_step ih (Err k) f g = cc
    by_step ih (Ok x) f g = rw f (ih x g)

-- ---- where a run stops

abbrev HaltsAt : Rules → State → List Terminal → Refusal → Type 0
HaltsAt r next [] f = f ≡ record { kind = if is_open next then MissingEnd else Unexpected; left = 0 }
HaltsAt r next (t ∷ rest) f = (step r next t ≡ Err f.kind) × (f.left ≡ suc (length rest))

record Halt (r : Rules) (st : State) (ts : List Terminal) (f : Refusal) : Type 0 where
  pre : List Terminal
  post : List Terminal
  next : State
  split : ts ≡ pre ++ post
  reached : walk r st pre ≡ Ok next
  stops : HaltsAt r next post f

halts : (r : Rules) (ts : List Terminal) (st : State) (f : Refusal) → run r st ts ≡ Err f → Halt r st ts f
halts r [] st f h = by_end (ended st) h
  where
    by_end : (x : Option Prog) → finish_with st x ≡ Err f → Halt r st [] f
    by_end (Some p) e = cc
    by_end None e = let i : record { kind = if is_open st then MissingEnd else Unexpected; left = 0 } ≡ f = cc in record { pre = []; post = []; next = st; split = refl; reached = refl; stops = sym i }
halts r (t ∷ ts) st f h = by_step (λ mid g. halts r ts mid f g) (step r st t) refl h
  where
    by_step : ((mid : State) → run r mid ts ≡ Err f → Halt r mid ts f) → (s : Step) → step r st t ≡ s → onward s (λ x. run r x ts) (suc (length ts)) ≡ Err f → Halt r st (t ∷ ts) f
    by_step ih (Err k) e g =
        let i : record { kind = k; left = suc (length ts) } ≡ f = cc in
        record { pre = []; post = t ∷ ts; next = st; split = refl; reached = refl; stops = (e ∙ ap (λ x. Err x.kind) i, ap (λ x. x.left) (sym i)) }
    by_step ih (Ok mid) e g =
        let k : Halt r mid ts f = ih mid g in
        record { pre = t ∷ k.pre; post = k.post; next = k.next; split = ap (λ x. t ∷ x) k.split; reached = rw e k.reached; stops = k.stops }

-- ---- programs

-- what a run finds is the program of the terminals
pub found : (r : Rules) (ts : List Terminal) (p : Prog) → run r beginning ts ≡ Ok p → Parses r ts (program_of p)
found r ts p h = let s : SoundProg r.twice p × (prog_height p ≤ r.limit) = run_good r ts beginning p (good_beginning r) h in record { rules = p; spelled = run_keeps r ts beginning p h; means = refl; sound = s.0; nested = s.1 }

-- a program is what the run finds
pub answered : (r : Rules) (ts : List Terminal) (program : Program) (x : Parses r ts program) → run r beginning ts ≡ Ok x.rules
answered r ts program x = ap (λ y. run r beginning y) (sym x.spelled) ∙ reads r x.rules x.sound x.nested

pub one_program : (r : Rules) (ts : List Terminal) (program other : Program) → Parses r ts program → Parses r ts other → program ≡ other
one_program r ts program other x y =
    let e : Ok x.rules ≡ Ok y.rules = sym (answered r ts program x) ∙ answered r ts other y in
    let f : x.rules ≡ y.rules = cc in
    sym x.means ∙ ap program_of f ∙ y.means

-- terminals that lead to a state begin a program
begins : (r : Rules) (pre : List Terminal) (next : State) → walk r beginning pre ≡ Ok next → Begins r pre
begins r pre next h =
    let c : Closes r next = closing r next (walk_good r pre beginning next (good_beginning r) h) in
    record { more = c.more; program = program_of c.program; parses = found r (pre ++ c.more) c.program (walk_run r pre c.more beginning next h ∙ c.ends) }

-- a terminal that is refused begins none
no_begin : (r : Rules) (pre : List Terminal) (next : State) (t : Terminal) (k : FaultKind) → walk r beginning pre ≡ Ok next → step r next t ≡ Err k → Begins r (pre ++ t ∷ []) → ⊥
no_begin r pre next t k h e b =
    let x : run r beginning ((pre ++ t ∷ []) ++ b.more) ≡ Ok b.parses.rules = answered r ((pre ++ t ∷ []) ++ b.more) b.program b.parses in
    let y : run r beginning (pre ++ (t ∷ b.more)) ≡ Ok b.parses.rules = ap (λ z. run r beginning z) (sym (append_assoc pre (t ∷ []) b.more)) ∙ x in
    let z : run r next (t ∷ b.more) ≡ Ok b.parses.rules = sym (walk_run r pre (t ∷ b.more) beginning next h) ∙ y in
    let u : onward (Err k) (λ x. run r x b.more) (suc (length b.more)) ≡ Ok b.parses.rules = rw e at z in cc

-- ---- more permissive rules

top_relaxed : (u v : Bool) (t : Top) → (v ≡ false → u ≡ false) → SoundTop u t → SoundTop v t
top_relaxed u v (script b) a h = h
top_relaxed u v (define t f) a h = (top_relaxed u v t a h.0, by_twice u v a h.1, h.2)
  where
    by_twice : (x y : Bool) → (y ≡ false → x ≡ false) → (not x && has_function (fun_name f) t) ≡ false → (not y && has_function (fun_name f) t) ≡ false
    by_twice x true c g = refl
    by_twice true false c g = let bad : true ≡ false = c refl in cc
    by_twice false false c g = g
top_relaxed u v (spaced t s) a h = (top_relaxed u v t a h.0, h.1)

prog_relaxed : (u v : Bool) (p : Prog) → (v ≡ false → u ≡ false) → SoundProg u p → SoundProg v p
prog_relaxed u v (whole_of t) a h = top_relaxed u v t a h
prog_relaxed u v (unended b s) a h = h

pub begins_relaxed : (r q : Rules) (ts : List Terminal) → Allows r q → Begins r ts → Begins q ts
begins_relaxed r q ts a b = record { more = b.more; program = b.program; parses = record { rules = b.parses.rules; spelled = b.parses.spelled; means = b.parses.means; sound = prog_relaxed r.twice q.twice b.parses.rules a.1 b.parses.sound; nested = omega (arith, b.parses.nested, a.0) } }

-- what begins a program begins one where it is cut off
begins_cut : (r : Rules) (pre post : List Terminal) → Begins r (pre ++ post) → Begins r pre
begins_cut r pre post b = record { more = post ++ b.more; program = b.program; parses = subst (λ x. Parses r x b.program) (append_assoc pre post b.more) b.parses }

-- ---- the fault that a run answers

no_missing : (r : Rules) (st : State) (t : Terminal) → step r st t ≡ Err MissingEnd → ⊥
no_missing r st t e = let x : Becomes r (Err MissingEnd) (step r st t) = rw e at (relaxed r r st t (omega arith, λ h. h)) in x

-- with enough room a terminal that only room was wanting for is taken
deeper : (limit : ℕ) (st : State) (t : Terminal) → step (strict limit) st t ≡ Err TooDeep → (more : ℕ) × ((limit ≤ more) × ((next : State) × (step (strict more) st t ≡ Ok next)))
deeper limit st t e = by_step (step (strict more) st t) refl
  where
    more : ℕ
    more = max limit (room_for st t)

    by_step : (s : Step) → step (strict more) st t ≡ s → (m : ℕ) × ((limit ≤ m) × ((next : State) × (step (strict m) st t ≡ Ok next)))
    by_step (Ok next) f = (more, (le-max_left limit (room_for st t), (next, f)))
    by_step (Err TooDeep) f = absurd (roomy_step (strict more) st t (le-max_right limit (room_for st t)) f)
    by_step (Err Unexpected) f = let x : Becomes (strict more) (Err TooDeep) (Err Unexpected) = rw (e, f) at (relaxed (strict limit) (strict more) st t (le-max_left limit (room_for st t), λ h. h)) in absurd x
    by_step (Err MissingEnd) f = let x : Becomes (strict more) (Err TooDeep) (Err MissingEnd) = rw (e, f) at (relaxed (strict limit) (strict more) st t (le-max_left limit (room_for st t), λ h. h)) in absurd x
    by_step (Err FunctionTwice) f = let x : Becomes (strict more) (Err TooDeep) (Err FunctionTwice) = rw (e, f) at (relaxed (strict limit) (strict more) st t (le-max_left limit (room_for st t), λ h. h)) in absurd x

-- a terminal that nothing allows stays refused
never : (limit : ℕ) (q : Rules) (st : State) (t : Terminal) → limit ≤ q.limit → step (strict limit) st t ≡ Err Unexpected → step q st t ≡ Err Unexpected
never limit q st t l e = by_step (step q st t) refl
  where
    by_step : (s : Step) → step q st t ≡ s → step q st t ≡ Err Unexpected
    by_step (Err Unexpected) f = f
    by_step (Ok next) f = let x : Becomes q (Err Unexpected) (Ok next) = rw (e, f) at (relaxed (strict limit) q st t (l, λ h. refl)) in absurd x
    by_step (Err TooDeep) f = let x : Becomes q (Err Unexpected) (Err TooDeep) = rw (e, f) at (relaxed (strict limit) q st t (l, λ h. refl)) in absurd x
    by_step (Err MissingEnd) f = let x : Becomes q (Err Unexpected) (Err MissingEnd) = rw (e, f) at (relaxed (strict limit) q st t (l, λ h. refl)) in absurd x
    by_step (Err FunctionTwice) f = let x : Becomes q (Err Unexpected) (Err FunctionTwice) = rw (e, f) at (relaxed (strict limit) q st t (l, λ h. refl)) in absurd x

-- a name that stands twice is taken where it may
double : (limit : ℕ) (st : State) (t : Terminal) → step (strict limit) st t ≡ Err FunctionTwice → (next : State) × (step (record { limit = limit; twice = true }) st t ≡ Ok next)
double limit st t e = by_step (step (record { limit = limit; twice = true }) st t) refl
  where
    q : Rules
    q = record { limit = limit; twice = true }

    by_step : (s : Step) → step (record { limit = limit; twice = true }) st t ≡ s → (next : State) × (step (record { limit = limit; twice = true }) st t ≡ Ok next)
    by_step (Ok next) f = (next, f)
    by_step (Err FunctionTwice) f = let x : Becomes (record { limit = limit; twice = true }) (Err FunctionTwice) (Err FunctionTwice) = rw (e, f) at (relaxed (strict limit) (record { limit = limit; twice = true }) st t (omega arith, λ h. refl)) in let bad : true ≡ false = x in cc
    by_step (Err TooDeep) f = let x : Becomes (record { limit = limit; twice = true }) (Err FunctionTwice) (Err TooDeep) = rw (e, f) at (relaxed (strict limit) (record { limit = limit; twice = true }) st t (omega arith, λ h. refl)) in absurd x
    by_step (Err MissingEnd) f = let x : Becomes (record { limit = limit; twice = true }) (Err FunctionTwice) (Err MissingEnd) = rw (e, f) at (relaxed (strict limit) (record { limit = limit; twice = true }) st t (omega arith, λ h. refl)) in absurd x
    by_step (Err Unexpected) f = let x : Becomes (record { limit = limit; twice = true }) (Err FunctionTwice) (Err Unexpected) = rw (e, f) at (relaxed (strict limit) (record { limit = limit; twice = true }) st t (omega arith, λ h. refl)) in absurd x

abbrev double_rules : ℕ → Rules
double_rules limit = record { limit = limit; twice = true }

cut_one : (ps : List Terminal) (u : Terminal) (us : List Terminal) → take (suc (length ps)) (ps ++ (u ∷ us)) ≡ ps ++ u ∷ []
cut_one [] u us = refl
cut_one (p ∷ ps) u us = ap (λ x. p ∷ x) (cut_one ps u us)

-- the explanation, where a terminal is refused behind others
explained : (limit : ℕ) (pre : List Terminal) (next : State) (t : Terminal) (k : FaultKind) → walk (strict limit) beginning pre ≡ Ok next → step (strict limit) next t ≡ Err k
    → (rest : List Terminal) → Explains limit k (pre ++ (t ∷ rest)) (length pre)
explained limit pre next t TooDeep h e rest =
    let d : (more : ℕ) × ((limit ≤ more) × ((mid : State) × (step (strict more) next t ≡ Ok mid))) = deeper limit next t e in
    let w : walk (strict d.0) beginning pre ≡ Ok next = walk_relaxed (strict limit) (strict d.0) pre beginning next (d.1.0, λ q. q) h in
    (omega (arith, length-append pre (t ∷ rest)), (d.0, subst (λ x. Begins (strict d.0) x) (sym (cut_one pre t rest)) (begins (strict d.0) (pre ++ t ∷ []) d.1.1.0 (walk_on (strict d.0) pre beginning next d.1.1.0 t w d.1.1.1))))
explained limit pre next t FunctionTwice h e rest =
    let d : (mid : State) × (step (double_rules limit) next t ≡ Ok mid) = double limit next t e in
    let w : walk (double_rules limit) beginning pre ≡ Ok next = walk_relaxed (strict limit) (double_rules limit) pre beginning next (omega arith, λ q. refl) h in
    (omega (arith, length-append pre (t ∷ rest)), subst (λ x. Begins (double_rules limit) x) (sym (cut_one pre t rest)) (begins (double_rules limit) (pre ++ t ∷ []) d.0 (walk_on (double_rules limit) pre beginning next d.0 t w d.1)))
explained limit pre next t MissingEnd h e rest = absurd (no_missing (strict limit) next t e)
explained limit pre next t Unexpected h e rest = (
  (λ l more b.
      let q : Rules = double_rules (max limit more) in
      let c : Begins q (take (suc (length pre)) (pre ++ (t ∷ rest))) = begins_relaxed (double_rules more) q (take (suc (length pre)) (pre ++ (t ∷ rest))) (le-max_right limit more, λ x. x) b in
      let d : Begins q (pre ++ t ∷ []) = subst (λ x. Begins q x) (cut_one pre t rest) c in
      let w : walk q beginning pre ≡ Ok next = walk_relaxed (strict limit) q pre beginning next (le-max_left limit more, λ x. refl) h in
      no_begin q pre next t Unexpected w (never limit q next t (le-max_left limit more) e) d),
  (λ l. absurd (omega (arith, l, length-append pre (t ∷ rest)))),
)

-- the explanation, where the terminals are at their end
ended_so : (limit : ℕ) (ts : List Terminal) (next : State) (v : Bool) → is_open next ≡ v → walk (strict limit) beginning ts ≡ Ok next → Explains limit (if v then MissingEnd else Unexpected) ts (length ts)
ended_so limit ts next true o h = (
  refl,
  λ more program x.
      let a : run (strict limit) beginning (ts ++ more) ≡ Ok x.rules = answered (strict limit) (ts ++ more) program x in
      wants_end (strict limit) more next x.rules o (sym (walk_run (strict limit) ts more beginning next h) ∙ a),
)
ended_so limit ts next false o h = (
  (λ l more b. absurd (omega (arith, l))),
  (λ l.
      let c : Closes (strict limit) next = closing (strict limit) next (walk_good (strict limit) ts beginning next (good_beginning (strict limit)) h) in
      record { more = c.more; program = program_of c.program; parses = found (strict limit) (ts ++ c.more) c.program (walk_run (strict limit) ts c.more beginning next h ∙ c.ends); endless = c.endless o }),
)

append_none : (ts : List Terminal) → ts ++ [] ≡ ts
append_none [] = refl
append_none (t ∷ ts) = ap (λ x. t ∷ x) (append_none ts)

take_all : (ts : List Terminal) → take (length ts) ts ≡ ts
take_all [] = refl
take_all (t ∷ ts) = ap (λ x. t ∷ x) (take_all ts)

not_program : (limit : ℕ) (ts : List Terminal) (f : Refusal) → run (strict limit) beginning ts ≡ Err f → (program : Program) → Parses (strict limit) ts program → ⊥
not_program limit ts f h program x = let a : Err f ≡ Ok x.rules = sym h ∙ answered (strict limit) ts program x in cc

fault_within : (limit : ℕ) (pre : List Terminal) (next : State) (t : Terminal) (rest : List Terminal) (k : FaultKind) → walk (strict limit) beginning pre ≡ Ok next → step (strict limit) next t ≡ Err k
    → ((program : Program) → Parses (strict limit) (pre ++ (t ∷ rest)) program → ⊥) → ParseFault limit (pre ++ (t ∷ rest)) (length pre) k
fault_within limit pre next t rest k h e u = record {
  within = omega (arith, length-append pre (t ∷ rest));
  begun = subst (λ x. Begins (strict limit) x) (sym (take-append_seam pre (t ∷ rest))) (begins (strict limit) pre next h);
  stopped = λ l b. no_begin (strict limit) pre next t k h e (subst (λ x. Begins (strict limit) x) (cut_one pre t rest) b);
  unfinished = u;
  why = explained limit pre next t k h e rest;
}

fault_at_end : (limit : ℕ) (ts : List Terminal) (next : State) → walk (strict limit) beginning ts ≡ Ok next → ((program : Program) → Parses (strict limit) ts program → ⊥) → ParseFault limit ts (length ts) (if is_open next then MissingEnd else Unexpected)
fault_at_end limit ts next h u = record {
  within = omega arith;
  begun = subst (λ x. Begins (strict limit) x) (sym (take_all ts)) (begins (strict limit) ts next h);
  stopped = λ l b. absurd (omega (arith, l));
  unfinished = u;
  why = ended_so limit ts next (is_open next) refl h;
}

fault_of : (limit : ℕ) (f : Refusal) (pre post : List Terminal) (next : State) → walk (strict limit) beginning pre ≡ Ok next → HaltsAt (strict limit) next post f
    → ((program : Program) → Parses (strict limit) (pre ++ post) program → ⊥) → ParseFault limit (pre ++ post) (length (pre ++ post) - f.left) f.kind
fault_of limit f pre (t ∷ rest) next h s u =
    let e : length pre ≡ length (pre ++ (t ∷ rest)) - f.left = omega (arith, length-append pre (t ∷ rest), s.1) in
    subst (λ n. ParseFault limit (pre ++ (t ∷ rest)) n f.kind) e (fault_within limit pre next t rest f.kind h s.0 u)
fault_of limit f pre [] next h s u =
    let g : Refusal = record { kind = if is_open next then MissingEnd else Unexpected; left = 0 } in
    let e : pre ++ [] ≡ pre = append_none pre in
    let v : (program : Program) → Parses (strict limit) pre program → ⊥ = subst (λ x. (program : Program) → Parses (strict limit) x program → ⊥) e u in
    let k : ParseFault limit pre (length pre - 0) (if is_open next then MissingEnd else Unexpected) = subst (λ n. ParseFault limit pre n (if is_open next then MissingEnd else Unexpected)) (omega arith) (fault_at_end limit pre next h v) in
    let m : ParseFault limit (pre ++ []) (length (pre ++ []) - 0) (if is_open next then MissingEnd else Unexpected) = subst (λ x. ParseFault limit x (length x - 0) (if is_open next then MissingEnd else Unexpected)) (sym e) k in
    subst (λ x. ParseFault limit (pre ++ []) (length (pre ++ []) - x.left) x.kind) (sym s) m

-- where a run is refused is the fault of the terminals
pub faulted : (limit : ℕ) (ts : List Terminal) (f : Refusal) → run (strict limit) beginning ts ≡ Err f → ParseFault limit ts (length ts - f.left) f.kind
faulted limit ts f h =
    let k : Halt (strict limit) beginning ts f = halts (strict limit) ts beginning f h in
    let u : (program : Program) → Parses (strict limit) (k.pre ++ k.post) program → ⊥ = subst (λ x. (program : Program) → Parses (strict limit) x program → ⊥) k.split (not_program limit ts f h) in
    subst (λ x. ParseFault limit x (length x - f.left) f.kind) (sym k.split) (fault_of limit f k.pre k.post k.next k.reached k.stops u)

-- each list of terminals is a program or has a fault
pub some_answer : (limit : ℕ) (ts : List Terminal) → ((program : Program) × Parses (strict limit) ts program) ⊎ ((kind : FaultKind) × ((at : ℕ) × ParseFault limit ts at kind))
some_answer limit ts = by_run (run (strict limit) beginning ts) refl
  where
    by_run : (x : Answer) → run (strict limit) beginning ts ≡ x → ((program : Program) × Parses (strict limit) ts program) ⊎ ((kind : FaultKind) × ((at : ℕ) × ParseFault limit ts at kind))
    by_run (Ok p) e = inl (program_of p, found (strict limit) ts p e)
    by_run (Err f) e = inr (f.kind, (length ts - f.left, faulted limit ts f e))

pub never_both : (limit : ℕ) (ts : List Terminal) (program : Program) (at : ℕ) (kind : FaultKind) → Parses (strict limit) ts program → ParseFault limit ts at kind → ⊥
never_both limit ts program at kind x f = f.unfinished program x

-- ---- one fault

-- a name that stands twice is no want of room
still_twice : (limit more : ℕ) (st : State) (t : Terminal) → limit ≤ more → step (strict limit) st t ≡ Err FunctionTwice → step (strict more) st t ≡ Err FunctionTwice
still_twice limit more st t l e = by_step (step (strict more) st t) refl
  where
    by_step : (s : Step) → step (strict more) st t ≡ s → step (strict more) st t ≡ Err FunctionTwice
    by_step (Err FunctionTwice) f = f
    by_step (Ok next) f = let x : Becomes (strict more) (Err FunctionTwice) (Ok next) = rw (e, f) at (relaxed (strict limit) (strict more) st t (l, λ h. h)) in let bad : false ≡ true = x in cc
    by_step (Err TooDeep) f = let x : Becomes (strict more) (Err FunctionTwice) (Err TooDeep) = rw (e, f) at (relaxed (strict limit) (strict more) st t (l, λ h. h)) in absurd x
    by_step (Err MissingEnd) f = let x : Becomes (strict more) (Err FunctionTwice) (Err MissingEnd) = rw (e, f) at (relaxed (strict limit) (strict more) st t (l, λ h. h)) in absurd x
    by_step (Err Unexpected) f = let x : Becomes (strict more) (Err FunctionTwice) (Err Unexpected) = rw (e, f) at (relaxed (strict limit) (strict more) st t (l, λ h. h)) in absurd x

-- what more room takes and what a second name takes are not one terminal
exclusive : (limit more : ℕ) (pre : List Terminal) (next : State) (t : Terminal) (k : FaultKind) → walk (strict limit) beginning pre ≡ Ok next → step (strict limit) next t ≡ Err k
    → Begins (strict more) (pre ++ t ∷ []) → Begins (double_rules limit) (pre ++ t ∷ []) → ⊥
exclusive limit more pre next t TooDeep h e b c =
    no_begin (double_rules limit) pre next t TooDeep (walk_relaxed (strict limit) (double_rules limit) pre beginning next (omega arith, λ q. refl) h) (still_deep (strict limit) (double_rules limit) next t refl e) c
exclusive limit more pre next t FunctionTwice h e b c =
    let m : ℕ = max limit more in
    no_begin (strict m) pre next t FunctionTwice (walk_relaxed (strict limit) (strict m) pre beginning next (le-max_left limit more, λ q. q) h) (still_twice limit m next t (le-max_left limit more) e)
    (begins_relaxed (strict more) (strict m) (pre ++ t ∷ []) (le-max_right limit more, λ q. q) b)
exclusive limit more pre next t MissingEnd h e b c = no_missing (strict limit) next t e
exclusive limit more pre next t Unexpected h e b c =
    no_begin (double_rules limit) pre next t Unexpected (walk_relaxed (strict limit) (double_rules limit) pre beginning next (omega arith, λ q. refl) h) (never limit (double_rules limit) next t (omega arith) e) c

cut_at : (n m : ℕ) (ts : List Terminal) → n ≤ m → (rest : List Terminal) × (take m ts ≡ take n ts ++ rest)
cut_at zero m ts l = (take m ts, refl)
cut_at (suc n) zero ts l = absurd (omega (arith, l))
cut_at (suc n) (suc m) [] l = ([], refl)
cut_at (suc n) (suc m) (t ∷ ts) l = let c : (rest : List Terminal) × (take m ts ≡ take n ts ++ rest) = cut_at n m ts (omega (arith, l)) in (c.0, ap (λ x. t ∷ x) c.1)

not_before : (limit : ℕ) (ts : List Terminal) (n m : ℕ) (k j : FaultKind) → ParseFault limit ts n k → ParseFault limit ts m j → n < m → ⊥
not_before limit ts n m k j a b l =
    let c : (rest : List Terminal) × (take m ts ≡ take (suc n) ts ++ rest) = cut_at (suc n) m ts l in
    a.stopped (omega (arith, l, b.within)) (begins_cut (strict limit) (take (suc n) ts) c.0 (subst (λ x. Begins (strict limit) x) c.1 b.begun))

one_place : (limit : ℕ) (ts : List Terminal) (n m : ℕ) (k j : FaultKind) → ParseFault limit ts n k → ParseFault limit ts m j → n ≡ m
one_place limit ts n m k j a b = omega (arith, by_less n m (λ l. not_before limit ts n m k j a b l), by_less m n (λ l. not_before limit ts m n j k b a l))
  where
    by_less : (x y : ℕ) → (x < y → ⊥) → y ≤ x
    by_less x y h = by_order (Rattle.std.specs.Prelude.leb y x) refl
      where
        by_order : (v : Bool) → Rattle.std.specs.Prelude.leb y x ≡ v → y ≤ x
        by_order true e = Rattle.std.proofs.lemmas.Bool.leb-true y x e
        by_order false e = absurd (h (Rattle.std.proofs.lemmas.Bool.leb-false y x e))

-- room and second names, at one place of the terminals
apart_at : (limit more : ℕ) (ts : List Terminal) (n : ℕ) (f : Refusal) → run (strict limit) beginning ts ≡ Err f → n ≡ length ts - f.left → n < length ts
    → Begins (strict more) (take (suc n) ts) → Begins (double_rules limit) (take (suc n) ts) → ⊥
apart_at limit more ts n f h e l b c =
    let k : Halt (strict limit) beginning ts f = halts (strict limit) ts beginning f h in by_post k.pre k.post k.next k.split k.reached k.stops
  where
    by_post : (pre post : List Terminal) (next : State) → ts ≡ pre ++ post → walk (strict limit) beginning pre ≡ Ok next → HaltsAt (strict limit) next post f → ⊥
    by_post pre [] next s w i = let z : f.left ≡ 0 = ap (λ x. x.left) i in absurd (omega (arith, z, e, l))
    by_post pre (t ∷ rest) next s w i =
        let len : length ts ≡ length pre + suc (length rest) = ap length s ∙ length-append pre (t ∷ rest) in
        let at : n ≡ length pre = omega (arith, len, e, i.1) in
        let cut : take (suc n) ts ≡ pre ++ t ∷ [] = ap (λ x. take (suc x) ts) at ∙ ap (λ x. take (suc (length pre)) x) s ∙ cut_one pre t rest in
        exclusive limit more pre next t f.kind w i.0 (subst (λ x. Begins (strict more) x) cut b) (subst (λ x. Begins (double_rules limit) x) cut c)

both_ends : (limit : ℕ) (ts : List Terminal) → WantsEnd (strict limit) ts → EndsSo (strict limit) ts → ⊥
both_ends limit ts h x = let a : has_end x.more ≡ true = h x.more x.program x.parses in let bad : true ≡ false = sym a ∙ x.endless in cc

one_kind : (limit : ℕ) (ts : List Terminal) (n : ℕ) (f : Refusal) (k j : FaultKind) → run (strict limit) beginning ts ≡ Err f → n ≡ length ts - f.left → Explains limit k ts n → Explains limit j ts n → k ≡ j
one_kind limit ts n f TooDeep TooDeep h e a b = refl
one_kind limit ts n f FunctionTwice FunctionTwice h e a b = refl
one_kind limit ts n f MissingEnd MissingEnd h e a b = refl
one_kind limit ts n f Unexpected Unexpected h e a b = refl
one_kind limit ts n f TooDeep FunctionTwice h e a b = absurd (apart_at limit a.1.0 ts n f h e a.0 a.1.1 b.1)
one_kind limit ts n f FunctionTwice TooDeep h e a b = absurd (apart_at limit b.1.0 ts n f h e b.0 b.1.1 a.1)
one_kind limit ts n f TooDeep MissingEnd h e a b = absurd (omega (arith, a.0, b.0))
one_kind limit ts n f MissingEnd TooDeep h e a b = absurd (omega (arith, a.0, b.0))
one_kind limit ts n f FunctionTwice MissingEnd h e a b = absurd (omega (arith, a.0, b.0))
one_kind limit ts n f MissingEnd FunctionTwice h e a b = absurd (omega (arith, a.0, b.0))
one_kind limit ts n f TooDeep Unexpected h e a b = absurd (b.0 a.0 a.1.0 (begins_relaxed (strict a.1.0) (double_rules a.1.0) (take (suc n) ts) (omega arith, λ q. refl) a.1.1))
one_kind limit ts n f Unexpected TooDeep h e a b = absurd (a.0 b.0 b.1.0 (begins_relaxed (strict b.1.0) (double_rules b.1.0) (take (suc n) ts) (omega arith, λ q. refl) b.1.1))
one_kind limit ts n f FunctionTwice Unexpected h e a b = absurd (b.0 a.0 limit a.1)
one_kind limit ts n f Unexpected FunctionTwice h e a b = absurd (a.0 b.0 limit b.1)
one_kind limit ts n f MissingEnd Unexpected h e a b = absurd (both_ends limit ts a.1 (b.1 a.0))
one_kind limit ts n f Unexpected MissingEnd h e a b = absurd (both_ends limit ts b.1 (a.1 b.0))

-- two faults of one list of terminals are one
pub one_fault : (limit : ℕ) (ts : List Terminal) (at other : ℕ) (kind otherwise : FaultKind) → ParseFault limit ts at kind → ParseFault limit ts other otherwise → (at ≡ other) × (kind ≡ otherwise)
one_fault limit ts at other kind otherwise a b = by_run (run (strict limit) beginning ts) refl
  where
    same : at ≡ other
    same = one_place limit ts at other kind otherwise a b

    by_run : (x : Answer) → run (strict limit) beginning ts ≡ x → (at ≡ other) × (kind ≡ otherwise)
    by_run (Ok p) e = absurd (a.unfinished (program_of p) (found (strict limit) ts p e))
    by_run (Err f) e =
        let g : ParseFault limit ts (length ts - f.left) f.kind = faulted limit ts f e in
        let i : at ≡ length ts - f.left = one_place limit ts at (length ts - f.left) kind f.kind a g in
        (same, one_kind limit ts at f kind otherwise e i a.why (subst (λ n. Explains limit otherwise ts n) (sym same) b.why))
