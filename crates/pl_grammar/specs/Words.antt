-- The words of the grammar: signs before an operand, separators, levels of the operators, the parts of
-- compound statements, and the names with dots.
use Rattle.std.specs.Prelude.{ℕ, Bool, true, false, Option, Some, None, List, [], ◌∷◌, codes, nat_eq, if◌then◌else◌}
use Rattle.std.specs.List.{list_any}
use Rattle.std.specs.Cmp.Lexicographic.{pointwise}
use Rattle.pl_base.specs.declared.errors.Place.{Place}
use Rattle.pl_syntax.specs.declared.expr.Bin.{Bin}
use Rattle.pl_syntax.specs.declared.expr.Bin.TheVariants as bin
use Rattle.pl_grammar.specs.declared.terminal.Terminal.{Terminal}
use Rattle.pl_grammar.specs.declared.terminal.Word.{Word}
use Rattle.pl_grammar.specs.declared.terminal.Word.TheVariants as w
use Rattle.pl_grammar.specs.declared.terminal.Keyword.{Keyword}
use Rattle.pl_grammar.specs.declared.terminal.Keyword.TheVariants as k

-- what a terminal has beside its word: white space before it, and its place
pub record Mark : Type 0 where
  pub gap : Bool
  pub place : Place

abbrev pub term : Word → Mark → Terminal
term word m = record { word = word; gap = m.gap; place = m.place }

abbrev pub mark_of : Terminal → Mark
mark_of t = record { gap = t.gap; place = t.place }

-- a name where it stands
pub record Named : Type 0 where
  pub mark : Mark
  pub text : List ℕ

abbrev pub named : Named → Terminal
named n = term (w.Name n.text) n.mark

-- the signs that stand between operands and before one
pub data Additive : Type 0 where
  plus : Additive
  minus : Additive

-- the signs before an operand
pub data Sign : Type 0 where
  additive : Additive → Sign
  tilde : Sign

abbrev pub bin_of : Additive → Bin
bin_of plus = bin.Add
bin_of minus = bin.Sub

abbrev pub sign_word : Sign → Word
sign_word (additive a) = w.Binary (bin_of a)
sign_word tilde = w.Not

abbrev pub additive_of : Bin → Option Additive
additive_of bin.Add = Some plus
additive_of bin.Sub = Some minus
additive_of o = None

-- what ends a statement, a header or a row
pub data SepKind : Type 0 where
  comma : SepKind
  semicolon : SepKind
  line : SepKind

pub record Sep : Type 0 where
  pub kind : SepKind
  pub mark : Mark

abbrev pub sep_word : SepKind → Word
sep_word comma = w.Comma
sep_word semicolon = w.Semicolon
sep_word line = w.LineEnd

-- how tightly an operator of two operands binds
abbrev pub level : Bin → ℕ
level bin.OrElse = 1
level bin.AndAlso = 2
level bin.Or = 3
level bin.And = 4
level bin.Lt = 5
level bin.Le = 5
level bin.Gt = 5
level bin.Ge = 5
level bin.Eq = 5
level bin.Ne = 5
level bin.Add = 7
level bin.Sub = 7
level bin.Mul = 8
level bin.Div = 8
level bin.DotMul = 8
level bin.DotDiv = 8
level bin.Pow = 10
level bin.DotPow = 10

-- the power operators, whose right operand may have signs
abbrev pub is_power : Bin → Bool
is_power o = nat_eq (level o) 10

-- what a keyword is in a program
pub data Use : Type 0 where
  -- begins a part with a value: `if while switch elseif case`
  tests : Use
  loops : Use
  -- begins a part without a header: `else otherwise try`
  direct : Use
  -- begins a part with a separator: `catch spmd`
  plain : Use
  leaves : Use
  ends : Use
  defines : Use
  unused : Use

abbrev pub use_of : Keyword → Use
use_of k.If = tests
use_of k.While = tests
use_of k.Switch = tests
use_of k.Elseif = tests
use_of k.Case = tests
use_of k.For = loops
use_of k.Parfor = loops
use_of k.Else = direct
use_of k.Otherwise = direct
use_of k.Try = direct
use_of k.Catch = plain
use_of k.Spmd = plain
use_of k.Break = leaves
use_of k.Continue = leaves
use_of k.Return = leaves
use_of k.End = ends
use_of k.Function = defines
use_of k.Classdef = unused
use_of k.Global = unused
use_of k.Persistent = unused

-- the part goes on with the compound statement that stands before it
abbrev pub is_link : Keyword → Bool
is_link k.Elseif = true
is_link k.Else = true
is_link k.Case = true
is_link k.Otherwise = true
is_link k.Catch = true
is_link word = false

abbrev pub is_arm : Keyword → Bool
is_arm k.If = true
is_arm k.Elseif = true
is_arm word = false

abbrev pub is_choice : Keyword → Bool
is_choice k.Switch = true
is_choice k.Case = true
is_choice word = false

abbrev pub is_try : Keyword → Bool
is_try k.Try = true
is_try word = false

-- the second part may stand behind the first
abbrev pub follows : Keyword → Keyword → Bool
follows before k.Elseif = is_arm before
follows before k.Else = is_arm before
follows before k.Case = is_choice before
follows before k.Otherwise = is_choice before
follows before k.Catch = is_try before
follows before word = false

-- ---- names

abbrev pub same : List ℕ → List ℕ → Bool
same a b = pointwise nat_eq a b

-- what a text with a dot is
pub data Dots : Type 0 where
  -- a function of the language
  whole : Dots
  -- what one begins with, up to its second dot
  stem : Dots
  neither : Dots

abbrev pub dotted_names : List (List ℕ)
dotted_names = codes "parallel.pool.DataQueue" ∷ codes "parallel.pool.PollableDataQueue" ∷ codes "codistributed.build" ∷ codes "codistributed.zeros" ∷ codes "codistributed.ones" ∷ codes "codistributor1d.unsetPartition" ∷ []

unfoldable pub dots : List ℕ → Dots
dots text = if list_any (λ n. same n text) dotted_names then whole else (if same (codes "parallel.pool") text then stem else neither)

-- the word behind the dot in `x.State`
unfoldable pub is_state : List ℕ → Bool
is_state text = same (codes "State") text
