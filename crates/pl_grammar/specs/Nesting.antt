-- How deep a derivation nests. Each enclosing statement, operator, parenthesis, bracket, brace and list of
-- arguments counts one; a literal, a name and what is part of one count none. In a list of outputs a `~`
-- counts as an operator over the outputs that white space alone separates from it.
use Rattle.std.specs.Prelude.{ℕ, suc, max, ◌+◌}
use Rattle.pl_grammar.specs.Derivations.{Signs, no_signs, more_signs, Comma, written, space, Ex, number, chars, bare, call, state, paren, rows, rows_to, func, last, under, transposed, Op, joined, signed, from, stepped, Callee, head, braced, Args, no_args, listed, Elements, one, also, Item, value, colon, Rows, no_rows, broken, filled, Tgt, entire, indexed, in_braces, Output, to, skip, Outputs, only, beside, Goal, shown, into, spread, Inner, each_in, bound, workers, Heading, upto, shut, no_value, Part, headed, unheaded, Smt, simple, delete, leave, compound, Block, empty, blank, statement, Opened, first, next, Fun, fun, Top, script, define, spaced, Prog, whole_of, unended}

abbrev pub count : Signs → ℕ
count no_signs = 0
count (more_signs us m s) = suc (count us)

-- what an operator puts over its last operand
abbrev pub weight : Op → ℕ
weight (joined a o m us) = suc (count us)
weight p = 1

abbrev mutual
  pub height : Ex → ℕ
  height (number m z) = 0
  height (chars m cs) = 0
  height (bare c) = callee_height c
  height (call c m a z) = max (callee_height c) (suc (args_height a))
  height (state e d m) = height e
  height (paren m e z) = suc (height e)
  height (rows m rs z) = suc (rows_height rs)
  height (rows_to m rs es t z) = suc (max (rows_height rs) (elements_height es))
  height (func m n) = 0
  height (last m) = 0
  height (under p e) = max (op_height p) (weight p + height e)
  height (transposed e m) = suc (height e)

  -- with the operands that stand before the last
  pub op_height : Op → ℕ
  op_height (joined a o m us) = suc (height a)
  op_height (signed m s) = 1
  op_height (from a m) = suc (height a)
  op_height (stepped a m b n) = suc (max (height a) (height b))

  pub callee_height : Callee → ℕ
  callee_height (head h) = 0
  callee_height (braced n m e z) = suc (height e)

  pub args_height : Args → ℕ
  args_height no_args = 0
  args_height (listed es) = elements_height es

  pub elements_height : Elements → ℕ
  elements_height (one i) = item_height i
  elements_height (also es c i) = max (elements_height es) (item_height i)

  pub item_height : Item → ℕ
  item_height (value e) = height e
  item_height (colon m) = 0

  pub rows_height : Rows → ℕ
  rows_height no_rows = 0
  rows_height (broken rs s) = rows_height rs
  rows_height (filled rs es t s) = max (rows_height rs) (elements_height es)

-- ---- statements

abbrev pub tgt_height : Tgt → ℕ
tgt_height (entire n) = 0
tgt_height (indexed n m a z) = suc (args_height a)
tgt_height (in_braces n m e z) = suc (height e)

abbrev pub output_height : Output → ℕ
output_height (to t) = tgt_height t
output_height (skip m) = 1

-- a `~` as the last output, and those before it that white space alone separates
abbrev pub skips : Output → ℕ → ℕ
skips (to t) n = 0
skips (skip m) n = suc n

-- what the outputs before put over one behind such a separator
abbrev pub across : Comma → ℕ → ℕ
across (written m) n = 0
across space n = n

abbrev pub run_of : Outputs → ℕ
run_of (only o) = skips o 0
run_of (beside os c o) = skips o (across c (run_of os))

abbrev pub outputs_height : Outputs → ℕ
outputs_height (only o) = output_height o
outputs_height (beside os c o) = max (outputs_height os) (across c (run_of os) + output_height o)

abbrev pub goal_height : Goal → ℕ
goal_height shown = 0
goal_height (into t q) = tgt_height t
goal_height (spread m os z q) = suc (outputs_height os)

abbrev pub inner_height : Inner → ℕ
inner_height (each_in word m o n q) = 0
inner_height (bound m o n q e c) = height e
inner_height (workers m o) = 0

abbrev pub heading_height : Heading → ℕ
heading_height (upto l e) = height e
heading_height (shut i e z) = max (inner_height i) (height e)
heading_height (no_value word m) = 0

abbrev pub part_height : Part → ℕ
part_height (headed h s) = heading_height h
part_height (unheaded word m) = 0

abbrev mutual
  pub smt_height : Smt → ℕ
  smt_height (simple g e) = suc (max (goal_height g) (height e))
  smt_height (delete n m a z q o y) = suc (suc (args_height a))
  smt_height (leave word m) = 1
  smt_height (compound o b m) = suc (max (opened_height o) (block_height b))

  pub block_height : Block → ℕ
  block_height empty = 0
  block_height (blank b s) = block_height b
  block_height (statement b s e) = max (block_height b) (smt_height s)

  pub opened_height : Opened → ℕ
  opened_height (first p) = part_height p
  opened_height (next o b p) = max (max (opened_height o) (block_height b)) (part_height p)

abbrev pub fun_height : Fun → ℕ
fun_height (fun t s b m) = block_height b

abbrev pub top_height : Top → ℕ
top_height (script b) = block_height b
top_height (define t f) = max (top_height t) (fun_height f)
top_height (spaced t s) = top_height t

abbrev pub prog_height : Prog → ℕ
prog_height (whole_of t) = top_height t
prog_height (unended b s) = max (block_height b) (smt_height s)
