-- The titles of functions, where names that stand twice may be wanting, and then every step and run.
use Rattle.std.proofs.Common.{◌≡◌, ◌∙◌, ℕ, suc, Bool, true, false, not, ◌&&◌, if◌then◌else◌, None, List, [], ◌∷◌, length, Ok, Err, refl, sym, subst, ◌≤◌}
use Rattle.pl_grammar.specs.declared.fault.FaultKind.TheVariants.{Unexpected, MissingEnd, TooDeep, FunctionTwice}
use Rattle.pl_grammar.specs.Machine.{is_open, stack_open}
use Rattle.pl_grammar.specs.declared.terminal.Terminal.{Terminal}
use Rattle.pl_grammar.specs.declared.terminal.Word.{Word}
use Rattle.pl_grammar.specs.declared.terminal.Word.TheVariants as w
use Rattle.pl_grammar.specs.declared.terminal.Keyword.TheVariants as k
use Rattle.pl_grammar.specs.Words.{Mark, mark_of, Named}
use Rattle.pl_grammar.specs.Derivations.{Ex, each, each_in, empty, statement, Params, Listing, Outs, no_outs, single, no_list, Title, title, Top, spaced, Prog}
use Rattle.pl_grammar.specs.Sound.{has_function}
use Rattle.pl_grammar.specs.Programs.{Rules}
use Rattle.pl_grammar.specs.Machine.{Waiting, fresh_params, behind_params, main, body, within, Stack, goal_of, lead_of, inner_of, outputs_of, op_of, paren_of, args_of, brace_of, row_of, Titling, begun_title, worded, outs_of, out_of, outs_shut, naming, entitled, params_of, param_of, titled, State, start, finished, operand, after, coloned, torn, at_sign, stemmed, dot, output, output_read, outputs_shut, loop, loop_in, index, index_in, ready, titling, between}
use Rattle.pl_grammar.specs.Steps
use Rattle.pl_grammar.specs.Steps.{Step, Held, roomy, room, refused, reduce, run, step, onward, Answer, callee_tgt, tgt_of, set_out, set_tgt, pass, element_outputs, item_outputs, behind_all, row_outputs, pending_outputs, Outlist, as_outputs, called, embraced, read_operand, go_on, read_after, settle, ended}
use Rattle.pl_grammar.specs.Programs.{is_end_word, has_end}
use Rattle.pl_grammar.proofs.Relaxing.{Relates, Allows, Lax, Tame, lax_const, Stays, operand_lax}
use Rattle.pl_grammar.proofs.RelaxingSteps.{after_lax, untear_lax, colon_tame, at_tame, dot_tame, stem_tame, output_lax, behind_output_lax, outputs_tame, on_sep_tame, start_lax, loop_tame, loop_in_tame, index_tame, ready_tame}

-- what a step is under more permissive rules, which may allow names twice
abbrev pub Becomes : Rules → Step → Step → Type 0
Becomes q (Ok a) t = Relates (Ok a) t
Becomes q (Err Unexpected) t = Relates (Err Unexpected) t
Becomes q (Err TooDeep) t = Relates (Err TooDeep) t
Becomes q (Err MissingEnd) t = ⊥
Becomes q (Err FunctionTwice) (Ok b) = q.twice ≡ true
Becomes q (Err FunctionTwice) (Err FunctionTwice) = q.twice ≡ false
Becomes q (Err FunctionTwice) (Err Unexpected) = ⊥
Becomes q (Err FunctionTwice) (Err TooDeep) = ⊥
Becomes q (Err FunctionTwice) (Err MissingEnd) = ⊥

pub record Yields (v : Bool) (f : Rules → Step) : Type 0 where
  pub relax : (r q : Rules) → Allows r q → Becomes q (f r) (f q)
  pub bound : ℕ
  pub enough : (q : Rules) → bound ≤ q.limit → f q ≡ Err TooDeep → ⊥
  pub opens : (r : Rules) (next : State) → f r ≡ Ok next → v ≡ true → is_open next ≡ true
  pub deep : (r q : Rules) → r.limit ≡ q.limit → f r ≡ Err TooDeep → f q ≡ Err TooDeep

becomes : (q : Rules) (s t : Step) → Relates s t → Becomes q s t
becomes q (Ok a) t h = h
becomes q (Err Unexpected) t h = h
becomes q (Err TooDeep) t h = h
becomes q (Err MissingEnd) t h = h
becomes q (Err FunctionTwice) t h = absurd h

yields : (v : Bool) (f : Rules → Step) → Lax v f → Yields v f
yields v f h = record { relax = λ r q a. becomes q (f r) (f q) (h.relax r q a); bound = h.bound; enough = h.enough; opens = h.opens; deep = λ r q e i. sym (h.same r q e) ∙ i }

tame_yields : (v : Bool) (s : Step) → Tame v s → Yields v (λ r. s)
tame_yields v s h = yields v (λ r. s) (lax_const v s h)

-- ---- titles

unique_becomes : (r q : Rules) (x : Bool) (st : State) → Allows r q → Becomes q (if not r.twice && x then Err FunctionTwice else Ok st) (if not q.twice && x then Err FunctionTwice else Ok st)
unique_becomes r q x st a = by_twice r.twice q.twice refl refl
  where
    by_name : (y : Bool) → q.twice ≡ false → Becomes q (if y then Err FunctionTwice else Ok st) (if y then Err FunctionTwice else Ok st)
    by_name true h = h
    by_name false h = refl

    by_once : (y : Bool) → q.twice ≡ true → Becomes q (if y then Err FunctionTwice else Ok st) (Ok st)
    by_once true h = h
    by_once false h = refl

    by_twice : (u v : Bool) → r.twice ≡ u → q.twice ≡ v → Becomes q (if not u && x then Err FunctionTwice else Ok st) (if not v && x then Err FunctionTwice else Ok st)
    by_twice true true g h = refl
    by_twice true false g h = let i : r.twice ≡ false = a.1 h in let bad : true ≡ false = rw g at i in cc
    by_twice false true g h = by_once x h
    by_twice false false g h = by_name x h

never_deep : (x : Bool) (st : State) → (if x then Err FunctionTwice else Ok st) ≡ Err TooDeep → ⊥
never_deep true st e = cc
never_deep false st e = cc

only_ok : (x : Bool) (st next : State) → (if x then Err FunctionTwice else Ok st) ≡ Ok next → st ≡ next
only_ok true st next e = cc
only_ok false st next e = cc

unique_yields : (v : Bool) (text : List ℕ) (t : Top) (st : State) → (v ≡ true → is_open st ≡ true) → Yields v (λ r. Steps.unique r text t (Ok st))
unique_yields v text t st h = record {
  relax = λ r q a. unique_becomes r q (has_function text t) st a;
  bound = 0;
  enough = λ q l e. never_deep (not q.twice && has_function text t) st e;
  opens = λ r next e i. subst (λ y. is_open y ≡ true) (only_ok (not r.twice && has_function text t) st next e) (h i);
  deep = λ r q e i. absurd (never_deep (not r.twice && has_function text t) st i);
}

unless_yields : (v : Bool) (text : List ℕ) (t : Top) (s : Step) → Tame v s → Yields v (λ r. Steps.unless_twice r text t s)
unless_yields v text t (Ok st) h = unique_yields v text t st h
unless_yields v text t (Err Unexpected) h = tame_yields v (Err Unexpected) tt
unless_yields v text t (Err TooDeep) h = absurd h
unless_yields v text t (Err MissingEnd) h = absurd h
unless_yields v text t (Err FunctionTwice) h = absurd h

titled_tame : (v : Bool) (word : Word) (m : Mark) (t : Top) (l : Title) → Tame v (Steps.titled_end word m t l)
titled_tame v word m t l = on_sep_tame v word m (λ s. Ok (start (body t l s) empty)) (λ s q. refl)

title_tame : (v : Bool) (word : Word) (m : Mark) (t : Top) (f : Mark) (o : Outs) (n : Named) → Tame v (Steps.behind_title word m t f o n)
title_tame v w.Open m t f o n = λ q. refl
title_tame v (w.Name x) m t f o n = titled_tame v (w.Name x) m t (title f o n no_list)
title_tame v (w.Chars x) m t f o n = titled_tame v (w.Chars x) m t (title f o n no_list)
title_tame v (w.Number x) m t f o n = titled_tame v (w.Number x) m t (title f o n no_list)
title_tame v (w.Binary x) m t f o n = titled_tame v (w.Binary x) m t (title f o n no_list)
title_tame v w.Not m t f o n = titled_tame v w.Not m t (title f o n no_list)
title_tame v w.Quote m t f o n = titled_tame v w.Quote m t (title f o n no_list)
title_tame v w.Equal m t f o n = titled_tame v w.Equal m t (title f o n no_list)
title_tame v w.Colon m t f o n = titled_tame v w.Colon m t (title f o n no_list)
title_tame v w.Comma m t f o n = titled_tame v w.Comma m t (title f o n no_list)
title_tame v w.Semicolon m t f o n = titled_tame v w.Semicolon m t (title f o n no_list)
title_tame v w.LineEnd m t f o n = titled_tame v w.LineEnd m t (title f o n no_list)
title_tame v w.Close m t f o n = titled_tame v w.Close m t (title f o n no_list)
title_tame v w.OpenSquare m t f o n = titled_tame v w.OpenSquare m t (title f o n no_list)
title_tame v w.CloseSquare m t f o n = titled_tame v w.CloseSquare m t (title f o n no_list)
title_tame v w.OpenBrace m t f o n = titled_tame v w.OpenBrace m t (title f o n no_list)
title_tame v w.CloseBrace m t f o n = titled_tame v w.CloseBrace m t (title f o n no_list)
title_tame v w.At m t f o n = titled_tame v w.At m t (title f o n no_list)
title_tame v w.Dot m t f o n = titled_tame v w.Dot m t (title f o n no_list)
title_tame v (w.Key x) m t f o n = titled_tame v (w.Key x) m t (title f o n no_list)

word_yields : (v : Bool) (word : Word) (m : Mark) (t : Top) (f : Mark) (n : Named) → Yields v (λ r. Steps.behind_word r word m t f n)
word_yields v w.Equal m t f n = tame_yields v (Ok (titling t (naming f (single n m)))) (λ q. refl)
word_yields v (w.Name x) m t f n = unless_yields v n.text t (Steps.behind_title (w.Name x) m t f no_outs n) (title_tame v (w.Name x) m t f no_outs n)
word_yields v (w.Chars x) m t f n = unless_yields v n.text t (Steps.behind_title (w.Chars x) m t f no_outs n) (title_tame v (w.Chars x) m t f no_outs n)
word_yields v (w.Number x) m t f n = unless_yields v n.text t (Steps.behind_title (w.Number x) m t f no_outs n) (title_tame v (w.Number x) m t f no_outs n)
word_yields v (w.Binary x) m t f n = unless_yields v n.text t (Steps.behind_title (w.Binary x) m t f no_outs n) (title_tame v (w.Binary x) m t f no_outs n)
word_yields v w.Not m t f n = unless_yields v n.text t (Steps.behind_title w.Not m t f no_outs n) (title_tame v w.Not m t f no_outs n)
word_yields v w.Quote m t f n = unless_yields v n.text t (Steps.behind_title w.Quote m t f no_outs n) (title_tame v w.Quote m t f no_outs n)
word_yields v w.Colon m t f n = unless_yields v n.text t (Steps.behind_title w.Colon m t f no_outs n) (title_tame v w.Colon m t f no_outs n)
word_yields v w.Comma m t f n = unless_yields v n.text t (Steps.behind_title w.Comma m t f no_outs n) (title_tame v w.Comma m t f no_outs n)
word_yields v w.Semicolon m t f n = unless_yields v n.text t (Steps.behind_title w.Semicolon m t f no_outs n) (title_tame v w.Semicolon m t f no_outs n)
word_yields v w.LineEnd m t f n = unless_yields v n.text t (Steps.behind_title w.LineEnd m t f no_outs n) (title_tame v w.LineEnd m t f no_outs n)
word_yields v w.Open m t f n = unless_yields v n.text t (Steps.behind_title w.Open m t f no_outs n) (title_tame v w.Open m t f no_outs n)
word_yields v w.Close m t f n = unless_yields v n.text t (Steps.behind_title w.Close m t f no_outs n) (title_tame v w.Close m t f no_outs n)
word_yields v w.OpenSquare m t f n = unless_yields v n.text t (Steps.behind_title w.OpenSquare m t f no_outs n) (title_tame v w.OpenSquare m t f no_outs n)
word_yields v w.CloseSquare m t f n = unless_yields v n.text t (Steps.behind_title w.CloseSquare m t f no_outs n) (title_tame v w.CloseSquare m t f no_outs n)
word_yields v w.OpenBrace m t f n = unless_yields v n.text t (Steps.behind_title w.OpenBrace m t f no_outs n) (title_tame v w.OpenBrace m t f no_outs n)
word_yields v w.CloseBrace m t f n = unless_yields v n.text t (Steps.behind_title w.CloseBrace m t f no_outs n) (title_tame v w.CloseBrace m t f no_outs n)
word_yields v w.At m t f n = unless_yields v n.text t (Steps.behind_title w.At m t f no_outs n) (title_tame v w.At m t f no_outs n)
word_yields v w.Dot m t f n = unless_yields v n.text t (Steps.behind_title w.Dot m t f no_outs n) (title_tame v w.Dot m t f no_outs n)
word_yields v (w.Key x) m t f n = unless_yields v n.text t (Steps.behind_title (w.Key x) m t f no_outs n) (title_tame v (w.Key x) m t f no_outs n)

begun_tame : (v : Bool) (word : Word) (m : Mark) (t : Top) (f : Mark) → Tame v (Steps.read_title word m t f)
begun_tame v (w.Name n) m t f = λ q. refl
begun_tame v w.OpenSquare m t f = λ q. refl
begun_tame v word m t f = tt

close_outs_tame : (v : Bool) (p : Waiting) (z : Mark) (t : Top) (f o : Mark) → Tame v (Steps.close_outs p z t f o)
close_outs_tame v fresh_params z t f o = λ q. refl
close_outs_tame v (behind_params ps c) z t f o = tt

out_tame : (v : Bool) (word : Word) (m : Mark) (t : Top) (f o : Mark) (p : Waiting) → Tame v (Steps.read_out word m t f o p)
out_tame v (w.Name n) m t f o p = λ q. refl
out_tame v w.CloseSquare m t f o p = close_outs_tame v p m t f o
out_tame v word m t f o p = tt

behind_out_tame : (v : Bool) (word : Word) (m : Mark) (t : Top) (f o : Mark) (ps : Params) → Tame v (Steps.behind_out word m t f o ps)
behind_out_tame v w.Comma m t f o ps = λ q. refl
behind_out_tame v w.CloseSquare m t f o ps = λ q. refl
behind_out_tame v word m t f o ps = tt

shut_tame : (v : Bool) (word : Word) (q : Mark) (t : Top) (f o : Mark) (l : Listing) (z : Mark) → Tame v (Steps.behind_outs_shut word q t f o l z)
shut_tame v w.Equal q t f o l z = λ x. refl
shut_tame v word q t f o l z = tt

naming_yields : (v : Bool) (word : Word) (m : Mark) (t : Top) (f : Mark) (o : Outs) → Yields v (λ r. Steps.read_name r word m t f o)
naming_yields v (w.Name n) m t f o = unique_yields v n t (titling t (entitled f o (record { mark = m; text = n }))) (λ q. refl)
naming_yields v word m t f o = tame_yields v refused tt

close_params_tame : (v : Bool) (p : Waiting) (z : Mark) (t : Top) (f : Mark) (o : Outs) (n : Named) (m : Mark) → Tame v (Steps.close_params p z t f o n m)
close_params_tame v fresh_params z t f o n m = λ q. refl
close_params_tame v (behind_params ps c) z t f o n m = tt

param_tame : (v : Bool) (word : Word) (m : Mark) (t : Top) (f : Mark) (o : Outs) (n : Named) (z : Mark) (p : Waiting) → Tame v (Steps.read_param word m t f o n z p)
param_tame v (w.Name x) m t f o n z p = λ q. refl
param_tame v w.Not m t f o n z p = λ q. refl
param_tame v w.Close m t f o n z p = close_params_tame v p m t f o n z
param_tame v word m t f o n z p = tt

behind_param_tame : (v : Bool) (word : Word) (m : Mark) (t : Top) (f : Mark) (o : Outs) (n : Named) (z : Mark) (ps : Params) → Tame v (Steps.behind_param word m t f o n z ps)
behind_param_tame v w.Comma m t f o n z ps = λ q. refl
behind_param_tame v w.Close m t f o n z ps = λ q. refl
behind_param_tame v word m t f o n z ps = tt

titling_yields : (v : Bool) (word : Word) (m : Mark) (t : Top) (l : Titling) → Yields v (λ r. Steps.read_titling r word m t l)
titling_yields v word m t (begun_title f) = tame_yields v (Steps.read_title word m t f) (begun_tame v word m t f)
titling_yields v word m t (worded f n) = word_yields v word m t f n
titling_yields v word m t (outs_of f o p) = tame_yields v (Steps.read_out word m t f o p) (out_tame v word m t f o p)
titling_yields v word m t (out_of f o ps) = tame_yields v (Steps.behind_out word m t f o ps) (behind_out_tame v word m t f o ps)
titling_yields v word m t (outs_shut f o l z) = tame_yields v (Steps.behind_outs_shut word m t f o l z) (shut_tame v word m t f o l z)
titling_yields v word m t (naming f o) = naming_yields v word m t f o
titling_yields v word m t (entitled f o n) = tame_yields v (Steps.behind_title word m t f o n) (title_tame v word m t f o n)
titling_yields v word m t (params_of f o n z p) = tame_yields v (Steps.read_param word m t f o n z p) (param_tame v word m t f o n z p)
titling_yields v word m t (param_of f o n z ps) = tame_yields v (Steps.behind_param word m t f o n z ps) (behind_param_tame v word m t f o n z ps)
titling_yields v word m t (titled l) = tame_yields v (Steps.titled_end word m t l) (titled_tame v word m t l)

between_tame : (v : Bool) (word : Word) (m : Mark) (t : Top) → v ≡ false → Tame v (Steps.behind_function word m t)
between_tame v (w.Key k.Function) m t h = λ q. refl
between_tame v (w.Key k.Break) m t h = tt
between_tame v (w.Key k.Case) m t h = tt
between_tame v (w.Key k.Catch) m t h = tt
between_tame v (w.Key k.Classdef) m t h = tt
between_tame v (w.Key k.Continue) m t h = tt
between_tame v (w.Key k.Else) m t h = tt
between_tame v (w.Key k.Elseif) m t h = tt
between_tame v (w.Key k.End) m t h = tt
between_tame v (w.Key k.For) m t h = tt
between_tame v (w.Key k.Global) m t h = tt
between_tame v (w.Key k.If) m t h = tt
between_tame v (w.Key k.Otherwise) m t h = tt
between_tame v (w.Key k.Parfor) m t h = tt
between_tame v (w.Key k.Persistent) m t h = tt
between_tame v (w.Key k.Return) m t h = tt
between_tame v (w.Key k.Spmd) m t h = tt
between_tame v (w.Key k.Switch) m t h = tt
between_tame v (w.Key k.Try) m t h = tt
between_tame v (w.Key k.While) m t h = tt
between_tame v (w.Name x) m t h = on_sep_tame v (w.Name x) m (λ s. Ok (between (spaced t s))) (λ s q. let bad : true ≡ false = rw q at h in cc)
between_tame v (w.Chars x) m t h = on_sep_tame v (w.Chars x) m (λ s. Ok (between (spaced t s))) (λ s q. let bad : true ≡ false = rw q at h in cc)
between_tame v (w.Number x) m t h = on_sep_tame v (w.Number x) m (λ s. Ok (between (spaced t s))) (λ s q. let bad : true ≡ false = rw q at h in cc)
between_tame v (w.Binary x) m t h = on_sep_tame v (w.Binary x) m (λ s. Ok (between (spaced t s))) (λ s q. let bad : true ≡ false = rw q at h in cc)
between_tame v w.Not m t h = on_sep_tame v w.Not m (λ s. Ok (between (spaced t s))) (λ s q. let bad : true ≡ false = rw q at h in cc)
between_tame v w.Quote m t h = on_sep_tame v w.Quote m (λ s. Ok (between (spaced t s))) (λ s q. let bad : true ≡ false = rw q at h in cc)
between_tame v w.Equal m t h = on_sep_tame v w.Equal m (λ s. Ok (between (spaced t s))) (λ s q. let bad : true ≡ false = rw q at h in cc)
between_tame v w.Colon m t h = on_sep_tame v w.Colon m (λ s. Ok (between (spaced t s))) (λ s q. let bad : true ≡ false = rw q at h in cc)
between_tame v w.Comma m t h = on_sep_tame v w.Comma m (λ s. Ok (between (spaced t s))) (λ s q. let bad : true ≡ false = rw q at h in cc)
between_tame v w.Semicolon m t h = on_sep_tame v w.Semicolon m (λ s. Ok (between (spaced t s))) (λ s q. let bad : true ≡ false = rw q at h in cc)
between_tame v w.LineEnd m t h = on_sep_tame v w.LineEnd m (λ s. Ok (between (spaced t s))) (λ s q. let bad : true ≡ false = rw q at h in cc)
between_tame v w.Open m t h = on_sep_tame v w.Open m (λ s. Ok (between (spaced t s))) (λ s q. let bad : true ≡ false = rw q at h in cc)
between_tame v w.Close m t h = on_sep_tame v w.Close m (λ s. Ok (between (spaced t s))) (λ s q. let bad : true ≡ false = rw q at h in cc)
between_tame v w.OpenSquare m t h = on_sep_tame v w.OpenSquare m (λ s. Ok (between (spaced t s))) (λ s q. let bad : true ≡ false = rw q at h in cc)
between_tame v w.CloseSquare m t h = on_sep_tame v w.CloseSquare m (λ s. Ok (between (spaced t s))) (λ s q. let bad : true ≡ false = rw q at h in cc)
between_tame v w.OpenBrace m t h = on_sep_tame v w.OpenBrace m (λ s. Ok (between (spaced t s))) (λ s q. let bad : true ≡ false = rw q at h in cc)
between_tame v w.CloseBrace m t h = on_sep_tame v w.CloseBrace m (λ s. Ok (between (spaced t s))) (λ s q. let bad : true ≡ false = rw q at h in cc)
between_tame v w.At m t h = on_sep_tame v w.At m (λ s. Ok (between (spaced t s))) (λ s q. let bad : true ≡ false = rw q at h in cc)
between_tame v w.Dot m t h = on_sep_tame v w.Dot m (λ s. Ok (between (spaced t s))) (λ s q. let bad : true ≡ false = rw q at h in cc)

-- ---- every step

not_open : (v : Bool) → (v ≡ true → false ≡ true) → v ≡ false
not_open true h = let bad : false ≡ true = h refl in cc
not_open false h = refl

pub step_yields : (v : Bool) (st : State) (word : Word) (m : Mark) → (is_end_word word ≡ true → v ≡ false) → (v ≡ true → is_open st ≡ true) → Yields v (λ r. Steps.on_word r st word m)
step_yields v (start site b) word m i h = yields v (λ r. Steps.read_start r word m site b) (start_lax v word m site b i h)
step_yields v (finished s site b) word m i h = tame_yields v (Steps.on_sep (Steps.sep_kind word) m (λ e. Ok (start site (statement b s e)))) (on_sep_tame v word m (λ e. Ok (start site (statement b s e))) (λ e. h))
step_yields v (operand S) word m i h = yields v (λ r. read_operand r word m S) (operand_lax v word m S h)
step_yields v (after e S) word m i h = yields v (λ r. read_after r word m e S) (after_lax v word m e S h)
step_yields v (coloned c S) word m i h = tame_yields v (Steps.behind_colon word m c S) (colon_tame v word m c S h)
step_yields v (torn e a n S) word m i h = yields v (λ r. Steps.untear r e a n S word m) (untear_lax v e a n S word m h)
step_yields v (at_sign a S) word m i h = tame_yields v (Steps.behind_at word m a S) (at_tame v word m a S h)
step_yields v (stemmed x S) word m i h = tame_yields v (Steps.behind_stem word m x S) (stem_tame v word m x S h)
step_yields v (dot e d S) word m i h = tame_yields v (Steps.behind_dot word m e d S) (dot_tame v word m e d S h)
step_yields v (output o p site b) word m i h = yields v (λ r. Steps.read_output r word m o p site b) (output_lax v word m o p site b h)
step_yields v (output_read o p t site b) word m i h = yields v (λ r. Steps.behind_output r word m o p t site b) (behind_output_lax v word m o p t site b h)
step_yields v (outputs_shut o os z site b) word m i h = tame_yields v (Steps.behind_outputs word m o os z site b) (outputs_tame v word m o os z site b h)
step_yields v (loop key o spot) word m i h = tame_yields v (Steps.behind_loop word m key o spot) (loop_tame v word m key o spot)
step_yields v (loop_in key o p spot) word m i h = tame_yields v (Steps.behind_loop_in word m key o p spot) (loop_in_tame v word m key o p spot)
step_yields v (index key o n spot) word m i h = tame_yields v (Steps.behind_index word m (λ q. operand (lead_of (each key o n q) spot))) (index_tame v word m (λ q. operand (lead_of (each key o n q) spot)) refl)
step_yields v (index_in key o p n spot) word m i h = tame_yields v (Steps.behind_index word m (λ q. operand (inner_of (each_in key o p n q) spot))) (index_tame v word m (λ q. operand (inner_of (each_in key o p n q) spot)) refl)
step_yields v (ready x spot) word m i h = tame_yields v (Steps.behind_heading word m x spot) (ready_tame v word m x spot)
step_yields v (titling t l) word m i h = titling_yields v word m t l
step_yields v (between t) word m i h = tame_yields v (Steps.behind_function word m t) (between_tame v word m t (not_open v h))

-- the step under more permissive rules
pub relaxed : (r q : Rules) (st : State) (t : Terminal) → Allows r q → Becomes q (step r st t) (step q st t)
relaxed r q st t a = (step_yields false st t.word (mark_of t) (λ e. refl) (λ e. cc)).relax r q a

-- some room is enough for each step
pub room_for : (st : State) (t : Terminal) → ℕ
room_for st t = (step_yields false st t.word (mark_of t) (λ e. refl) (λ e. cc)).bound

pub roomy_step : (q : Rules) (st : State) (t : Terminal) → room_for st t ≤ q.limit → step q st t ≡ Err TooDeep → ⊥
unfolding room_for
roomy_step q st t l e = (step_yields false st t.word (mark_of t) (λ e. refl) (λ e. cc)).enough q l e

-- a name that may stand twice makes no room
pub still_deep : (r q : Rules) (st : State) (t : Terminal) → r.limit ≡ q.limit → step r st t ≡ Err TooDeep → step q st t ≡ Err TooDeep
still_deep r q st t l e = (step_yields false st t.word (mark_of t) (λ f. refl) (λ f. cc)).deep r q l e

-- a terminal other than `end` leaves open what is
stays_open : (r : Rules) (st next : State) (t : Terminal) → is_end_word t.word ≡ false → is_open st ≡ true → step r st t ≡ Ok next → is_open next ≡ true
stays_open r st next t w o e = (step_yields true st t.word (mark_of t) (λ h. let bad : true ≡ false = rw h at w in cc) (λ h. o)).opens r next e refl

-- where something is open, a run that ends well meets an `end`
pub wants_end : (r : Rules) (ts : List Terminal) (st : State) (p : Prog) → is_open st ≡ true → run r st ts ≡ Ok p → has_end ts ≡ true
wants_end r [] st p o h = by_state st o h
  where
    by_stack : (S : Stack) (e : Ex) → stack_open S ≡ true → Steps.end_after e S ≡ None
    by_stack (goal_of g main b) e i = cc
    by_stack (goal_of g (body t l s) b) e i = refl
    by_stack (goal_of g (within x site before) b) e i = refl
    by_stack (lead_of l spot) e i = refl
    by_stack (inner_of x spot) e i = refl
    by_stack (outputs_of m q site b) e i = refl
    by_stack (op_of q S) e i = refl
    by_stack (paren_of m S) e i = refl
    by_stack (args_of c m q S) e i = refl
    by_stack (brace_of n m S) e i = refl
    by_stack (row_of m rs q S) e i = refl

    by_after : (e : Ex) (S : Stack) → stack_open S ≡ true → Steps.finish_with (after e S) (Steps.end_after (reduce 0 e S).operand (reduce 0 e S).stack) ≡ Ok p → has_end [] ≡ true
    by_after e S i f = let x : Steps.end_after (reduce 0 e S).operand (reduce 0 e S).stack ≡ None = by_stack (reduce 0 e S).stack (reduce 0 e S).operand (Rattle.pl_grammar.proofs.Relaxing.reduced_open 0 e S ∙ i) in let bad : Steps.unfinished (after e S) ≡ Ok p = rw x at f in cc

    by_state : (x : State) → is_open x ≡ true → Steps.finish x ≡ Ok p → has_end [] ≡ true
    by_state (start main b) i f = cc
    by_state (start (body t l s) b) i f = cc
    by_state (start (within x site before) b) i f = cc
    by_state (finished s main b) i f = cc
    by_state (finished s (body t l x) b) i f = cc
    by_state (finished s (within x site before) b) i f = cc
    by_state (after e S) i f = by_after e S i f
    by_state (between t) i f = cc
    by_state (operand S) i f = cc
    by_state x i f = cc
wants_end r (t ∷ ts) st p o h = by_word (λ next i g. wants_end r ts next p i g) (is_end_word t.word) refl
  where
    by_next : (s : Step) → step r st t ≡ s → is_end_word t.word ≡ false → onward s (λ next. run r next ts) (suc (length ts)) ≡ Ok p → ((next : State) → is_open next ≡ true → run r next ts ≡ Ok p → has_end ts ≡ true) → has_end ts ≡ true
    by_next (Err f) e i g ih = cc
    by_next (Ok next) e i g ih = ih next (stays_open r st next t i o e) g

    by_word : ((next : State) → is_open next ≡ true → run r next ts ≡ Ok p → has_end ts ≡ true) → (v : Bool) → is_end_word t.word ≡ v → has_end (t ∷ ts) ≡ true
    by_word ih true e = rw e refl
    by_word ih false e = rw e (by_next (step r st t) refl e h ih)
