-- Worked rows of the grammar, by computing: faults at their terminals, and derivations.
use Rattle.std.proofs.Common.{◌≡◌, ℕ, pos, true, false, List, [], ◌∷◌, Ok, Err, refl}
use Rattle.std.specs.Prelude.{codes, replicate, ◌++◌}
use Rattle.pl_syntax.specs.declared.expr.Bin.TheVariants as bin
use Rattle.pl_grammar.specs.declared.fault.FaultKind.{FaultKind}
use Rattle.pl_grammar.specs.declared.fault.FaultKind.TheVariants.{Unexpected, MissingEnd, TooDeep, FunctionTwice}
use Rattle.pl_grammar.specs.declared.terminal.Terminal.{Terminal}
use Rattle.pl_grammar.specs.declared.terminal.Word.{Word}
use Rattle.pl_grammar.specs.declared.terminal.Word.TheVariants as w
use Rattle.pl_grammar.specs.declared.terminal.Keyword.TheVariants as k
use Rattle.pl_grammar.specs.Words.{Mark, term, Named, minus, additive, semicolon, line, comma, dots, is_state}
use Rattle.pl_grammar.specs.Derivations
use Rattle.pl_grammar.specs.Derivations.{alone, no_signs, more_signs, written, space, no_trail, trail, Ex, number, bare, call, paren, rows, rows_to, last, under, transposed, joined, signed, from, stepped, head, braced, no_args, listed, one, also, value, colon, no_rows, filled, entire, indexed, to, skip, only, beside, shown, into, spread, test, simple, delete, compound, empty, blank, statement, first, headed, upto, script, Prog, whole_of, unended}
use Rattle.pl_grammar.specs.Programs.{strict}
use Rattle.pl_grammar.specs.Machine.{beginning}
use Rattle.pl_grammar.specs.Steps.{run, Answer}

-- every terminal at one place, without white space and with it
abbrev pub m : Mark
m = record { gap = false; place = record { line = 1; col = 1; at = 0 } }

abbrev pub g : Mark
g = record { gap = true; place = record { line = 1; col = 1; at = 0 } }

abbrev pub t : Word → Terminal
t word = term word m

abbrev pub s : Word → Terminal
s word = term word g

abbrev pub v : List ℕ → Terminal
v n = term (w.Name n) m

abbrev pub vs : List ℕ → Terminal
vs n = term (w.Name n) g

abbrev pub z : ℕ → Terminal
z n = term (w.Number (pos n)) m

abbrev pub reads : List Terminal → Answer
reads ts = run (strict 200) beginning ts

abbrev pub fault : FaultKind → ℕ → Answer
fault kind left = Err (record { kind = kind; left = left })

abbrev pub n : List ℕ → Named
n text = record { mark = m; text = text }

abbrev pub var : List ℕ → Ex
var text = bare (head (alone (n text)))

abbrev pub num : ℕ → Ex
num x = number m (pos x)

-- `x = ;`
no_value_at_all : reads (v (codes "x") ∷ t w.Equal ∷ t w.Semicolon ∷ []) ≡ fault Unexpected 1
no_value_at_all = refl

-- `parfor i = 1:3`, and the end of the file
parfor_without_end : reads (t (w.Key k.Parfor) ∷ v (codes "i") ∷ t w.Equal ∷ z 1 ∷ t w.Colon ∷ z 3 ∷ []) ≡ fault MissingEnd 0
parfor_without_end = refl

-- `1:2:3:4`
third_colon : reads (z 1 ∷ t w.Colon ∷ z 2 ∷ t w.Colon ∷ z 3 ∷ t w.Colon ∷ z 4 ∷ []) ≡ fault Unexpected 2
third_colon = refl

-- `-2^2`
minus_power : reads (t (w.Binary bin.Sub) ∷ z 2 ∷ t (w.Binary bin.Pow) ∷ z 2 ∷ []) ≡ Ok (unended empty (simple shown (under (signed m (additive minus)) (under (joined (num 2) bin.Pow m no_signs) (num 2)))))
minus_power = refl

-- `2^-1*x'`
signs_of_power : reads (z 2 ∷ t (w.Binary bin.Pow) ∷ t (w.Binary bin.Sub) ∷ z 1 ∷ t (w.Binary bin.Mul) ∷ v (codes "x") ∷ t w.Quote ∷ [])
    ≡ Ok (unended empty (simple shown (under (joined (under (joined (num 2) bin.Pow m (more_signs no_signs m (additive minus))) (num 1)) bin.Mul m no_signs) (transposed (var (codes "x")) m))))
signs_of_power = refl

-- `[a b] = f(1)`
output_list : reads (t w.OpenSquare ∷ v (codes "a") ∷ vs (codes "b") ∷ t w.CloseSquare ∷ t w.Equal ∷ v (codes "f") ∷ t w.Open ∷ z 1 ∷ t w.Close ∷ [])
    ≡ Ok (unended empty (simple (spread m (beside (only (to (entire (n (codes "a"))))) space (to (entire (record { mark = g; text = codes "b" })))) m m) (call (head (alone (n (codes "f")))) m (listed (one (value (num 1)))) m)))
output_list = refl

-- `[a b]`
row_of_two : reads (t w.OpenSquare ∷ v (codes "a") ∷ vs (codes "b") ∷ t w.CloseSquare ∷ [])
    ≡ Ok (unended empty (simple shown (rows_to m no_rows (also (one (value (var (codes "a")))) space (value (bare (head (alone (record { mark = g; text = codes "b" })))))) no_trail m)))
row_of_two = refl

-- `x(1) = []`
deletion : reads (v (codes "x") ∷ t w.Open ∷ z 1 ∷ t w.Close ∷ t w.Equal ∷ t w.OpenSquare ∷ t w.CloseSquare ∷ [])
    ≡ Ok (unended empty (delete (n (codes "x")) m (listed (one (value (num 1)))) m m m m))
deletion = refl

-- `x(1) = ([])`
no_deletion : reads (v (codes "x") ∷ t w.Open ∷ z 1 ∷ t w.Close ∷ t w.Equal ∷ t w.Open ∷ t w.OpenSquare ∷ t w.CloseSquare ∷ t w.Close ∷ [])
    ≡ Ok (unended empty (simple (into (indexed (n (codes "x")) m (listed (one (value (num 1)))) m) m) (paren m (rows m no_rows m) m)))
no_deletion = refl

-- `[a -b]`
two_elements : reads (t w.OpenSquare ∷ v (codes "a") ∷ s (w.Binary bin.Sub) ∷ v (codes "b") ∷ t w.CloseSquare ∷ [])
    ≡ Ok (unended empty (simple shown (rows_to m no_rows (also (one (value (var (codes "a")))) space (value (under (signed g (additive minus)) (var (codes "b"))))) no_trail m)))
two_elements = refl

-- `[a - b]`
one_element : reads (t w.OpenSquare ∷ v (codes "a") ∷ s (w.Binary bin.Sub) ∷ vs (codes "b") ∷ t w.CloseSquare ∷ [])
    ≡ Ok (unended empty (simple shown (rows_to m no_rows (one (value (under (joined (var (codes "a")) bin.Sub g no_signs) (bare (head (alone (record { mark = g; text = codes "b" }))))))) no_trail m)))
one_element = refl

-- `[a' b']`
two_transposed : reads (t w.OpenSquare ∷ v (codes "a") ∷ t w.Quote ∷ vs (codes "b") ∷ t w.Quote ∷ t w.CloseSquare ∷ [])
    ≡ Ok (unended empty (simple shown (rows_to m no_rows (also (one (value (transposed (var (codes "a")) m))) space (value (transposed (bare (head (alone (record { mark = g; text = codes "b" })))) m))) no_trail m)))
two_transposed = refl

-- `if x, end`
empty_if : reads (t (w.Key k.If) ∷ v (codes "x") ∷ t w.Comma ∷ t (w.Key k.End) ∷ [])
    ≡ Ok (unended empty (compound (first (headed (upto (test k.If m) (var (codes "x"))) (record { kind = comma; mark = m }))) empty m))
empty_if = refl

-- `1:2:3`
stepped_range : reads (z 1 ∷ t w.Colon ∷ z 2 ∷ t w.Colon ∷ z 3 ∷ []) ≡ Ok (unended empty (simple shown (under (stepped (num 1) m (num 2) m) (num 3))))
stepped_range = refl

-- `x(y(end))`
nested_end : reads (v (codes "x") ∷ t w.Open ∷ v (codes "y") ∷ t w.Open ∷ t (w.Key k.End) ∷ t w.Close ∷ t w.Close ∷ [])
    ≡ Ok (unended empty (simple shown (call (head (alone (n (codes "x")))) m (listed (one (value (call (head (alone (n (codes "y")))) m (listed (one (value (last m)))) m)))) m)))
nested_end = refl

-- `[~, a] = f`, `[~ a] = f`: outputs
first_ignored : reads (t w.OpenSquare ∷ t w.Not ∷ t w.Comma ∷ v (codes "a") ∷ t w.CloseSquare ∷ t w.Equal ∷ v (codes "f") ∷ [])
    ≡ Ok (unended empty (simple (spread m (beside (only (skip m)) (written m) (to (entire (n (codes "a"))))) m m) (var (codes "f"))))
first_ignored = refl

ignored_by_space : reads (t w.OpenSquare ∷ t w.Not ∷ vs (codes "a") ∷ t w.CloseSquare ∷ t w.Equal ∷ v (codes "f") ∷ [])
    ≡ Ok (unended empty (simple (spread m (beside (only (skip m)) space (to (entire (record { mark = g; text = codes "a" })))) m m) (var (codes "f"))))
ignored_by_space = refl

-- `[~a] = f`: no outputs
negation_is_no_output : reads (t w.OpenSquare ∷ t w.Not ∷ v (codes "a") ∷ t w.CloseSquare ∷ t w.Equal ∷ v (codes "f") ∷ []) ≡ fault Unexpected 2
negation_is_no_output = refl

-- `[a,] = f`, `[,]`, `[1,,2]`, `[~, 1`
trailing_comma : reads (t w.OpenSquare ∷ v (codes "a") ∷ t w.Comma ∷ t w.CloseSquare ∷ t w.Equal ∷ v (codes "f") ∷ []) ≡ fault Unexpected 2
trailing_comma = refl

comma_alone : reads (t w.OpenSquare ∷ t w.Comma ∷ t w.CloseSquare ∷ []) ≡ fault Unexpected 2
comma_alone = refl

two_commas : reads (t w.OpenSquare ∷ z 1 ∷ t w.Comma ∷ t w.Comma ∷ z 2 ∷ []) ≡ fault Unexpected 2
two_commas = refl

number_is_no_output : reads (t w.OpenSquare ∷ t w.Not ∷ t w.Comma ∷ z 1 ∷ []) ≡ fault Unexpected 1
number_is_no_output = refl

-- `[1;2]` with breaks at both ends
two_rows : reads (t w.OpenSquare ∷ t w.LineEnd ∷ z 1 ∷ t w.Comma ∷ t w.Semicolon ∷ t w.LineEnd ∷ z 2 ∷ t w.Semicolon ∷ t w.CloseSquare ∷ [])
    ≡ Ok (unended empty (simple shown (rows m (filled (Derivations.broken (filled (Derivations.broken no_rows (record { kind = line; mark = m })) (one (value (num 1))) (trail m) (record { kind = semicolon; mark = m })) (record { kind = line; mark = m })) (one (value (num 2))) no_trail (record { kind = semicolon; mark = m })) m)))
two_rows = refl

-- `break` alone, `while x, spmd, break`, `spmd, return`
break_outside : reads (t (w.Key k.Break) ∷ []) ≡ fault Unexpected 1
break_outside = refl

break_leaves_spmd : reads (t (w.Key k.While) ∷ v (codes "x") ∷ t w.Comma ∷ t (w.Key k.Spmd) ∷ t w.Comma ∷ t (w.Key k.Break) ∷ []) ≡ fault Unexpected 1
break_leaves_spmd = refl

return_leaves_spmd : reads (t (w.Key k.Spmd) ∷ t w.Open ∷ z 2 ∷ t w.Close ∷ t w.LineEnd ∷ t (w.Key k.Return) ∷ []) ≡ fault Unexpected 1
return_leaves_spmd = refl

-- `parallel.pool.DataQueue`, `parallel.pool +`, `parallel.x`, `x.State`
queue : reads (v (codes "parallel") ∷ t w.Dot ∷ v (codes "pool") ∷ t w.Dot ∷ v (codes "DataQueue") ∷ [])
    ≡ Ok (unended empty (simple shown (bare (head (Derivations.dotted (Derivations.dotted (alone (n (codes "parallel"))) m (n (codes "pool"))) m (n (codes "DataQueue")))))))
unfolding dots is_state
queue = refl

stem_alone : reads (v (codes "parallel") ∷ t w.Dot ∷ v (codes "pool") ∷ t (w.Binary bin.Add) ∷ []) ≡ fault Unexpected 1
unfolding dots is_state
stem_alone = refl

unknown_dots : reads (v (codes "parallel") ∷ t w.Dot ∷ v (codes "x") ∷ []) ≡ fault Unexpected 1
unfolding dots is_state
unknown_dots = refl

-- `function f, end function f` and what follows; `function f = g, end`
twice : reads (t (w.Key k.Function) ∷ v (codes "f") ∷ t w.Comma ∷ t (w.Key k.End) ∷ t (w.Key k.Function) ∷ v (codes "f") ∷ t w.Comma ∷ []) ≡ fault FunctionTwice 1
twice = refl

-- `x(`, `if (x`, at the end of the file
open_parenthesis : reads (v (codes "x") ∷ t w.Open ∷ []) ≡ fault Unexpected 0
open_parenthesis = refl

open_if : reads (t (w.Key k.If) ∷ t w.Open ∷ v (codes "x") ∷ []) ≡ fault MissingEnd 0
open_if = refl

-- the limit of nesting: a statement and 199 parentheses, brackets or signs are 200 levels, one more is too deep at it
parens : reads (replicate 199 (t w.Open)) ≡ fault Unexpected 0
parens = refl

parens_too_deep : reads (replicate 200 (t w.Open)) ≡ fault TooDeep 1
parens_too_deep = refl

brackets_too_deep : reads (replicate 199 (t w.OpenSquare) ++ t w.OpenSquare ∷ t w.Comma ∷ []) ≡ fault TooDeep 2
brackets_too_deep = refl

signs_too_deep : reads (replicate 200 (t (w.Binary bin.Sub))) ≡ fault TooDeep 1
signs_too_deep = refl

-- 200 compound statements, and one more
deep_try : reads (replicate 200 (t (w.Key k.Try))) ≡ fault MissingEnd 0
deep_try = refl

try_too_deep : reads (replicate 201 (t (w.Key k.Try))) ≡ fault TooDeep 1
try_too_deep = refl
