-- The first terminal of an expression: its mark, and that it begins an element of a row.
use Rattle.std.proofs.Common.{◌≡◌, ◌∙◌, Bool, true, false, not, List, [], ◌∷◌, refl}
use Rattle.std.specs.Prelude.{codes}
use Rattle.pl_grammar.specs.declared.terminal.Terminal.{Terminal}
use Rattle.pl_grammar.specs.declared.terminal.Word.{Word}
use Rattle.pl_grammar.specs.declared.terminal.Word.TheVariants as w
use Rattle.pl_grammar.specs.declared.terminal.Keyword.TheVariants as k
use Rattle.pl_grammar.specs.Words.{Mark, term, named, Additive, additive, tilde, bin_of}
use Rattle.pl_grammar.specs.Derivations.{Head, alone, dotted, Ex, number, chars, bare, call, state, paren, rows, rows_to, func, last, under, transposed, Op, joined, signed, from, stepped, Callee, head, braced}
use Rattle.pl_grammar.specs.Spelling.{head_words, ex, op, callee, args, row_words, elements, trail_words, signs}
use Rattle.pl_grammar.specs.Trees.{head_mark, mark, op_mark, callee_mark}
use Rattle.pl_grammar.specs.Sound.{sticks, op_sticks, SoundEx, SoundOp}
use Rattle.pl_grammar.specs.Machine.{Stack, in_index}
use Rattle.pl_grammar.specs.Steps.{begins_element}
use Rattle.pl_grammar.proofs.Basics.{sticks_next}

-- terminals that begin with this mark, by a word that begins an element, or by a sign
pub data Fore (S : Stack) (m : Mark) (sticky : Bool) (ts : List Terminal) : Type 0 where
  plainly : (word : Word) (rest : List Terminal) → ts ≡ term word m ∷ rest → begins_element word S ≡ true → Fore S m sticky ts
  by_sign : (a : Additive) (rest : List Terminal) → ts ≡ term (w.Binary (bin_of a)) m ∷ rest → (sticky ≡ true → sticks_next rest ≡ true) → Fore S m sticky ts

pub sticks_fore : (S : Stack) (m : Mark) (sticky : Bool) (ts : List Terminal) → Fore S m sticky ts → sticks_next ts ≡ not m.gap
sticks_fore S m sticky ts (plainly word rest e b) = rw e refl
sticks_fore S m sticky ts (by_sign a rest e h) = rw e refl

abbrev pub gap_next : List Terminal → Bool
gap_next [] = false
gap_next (t ∷ ts) = t.gap

pub gap_fore : (S : Stack) (m : Mark) (sticky : Bool) (ts : List Terminal) → Fore S m sticky ts → gap_next ts ≡ m.gap
gap_fore S m sticky ts (plainly word rest e b) = rw e refl
gap_fore S m sticky ts (by_sign a rest e h) = rw e refl

-- the front of a text that goes on
more_words : (S : Stack) (m : Mark) (ts : List Terminal) → Fore S m true ts → (sticky : Bool) → sticky ≡ true → Fore S m sticky ts
more_words S m ts (plainly word rest e b) sticky h = plainly word rest e b
more_words S m ts (by_sign a rest e f) sticky h = by_sign a rest e (λ q. f refl)

fore_head : (h : Head) (S : Stack) (sticky : Bool) (ts : List Terminal) → Fore S (head_mark h) sticky (head_words h ts)
fore_head (alone n) S sticky ts = plainly (w.Name n.text) ts refl refl
fore_head (dotted h m n) S sticky ts = fore_head h S sticky (term w.Dot m ∷ named n ∷ ts)

fore_callee : (c : Callee) (S : Stack) (sticky : Bool) (ts : List Terminal) → Fore S (callee_mark c) sticky (callee c ts)
fore_callee (head h) S sticky ts = fore_head h S sticky ts
fore_callee (braced n m e z) S sticky ts = plainly (w.Name n.text) (term w.OpenBrace m ∷ ex e (term w.CloseBrace z ∷ ts)) refl refl

mutual
  pub fore_ex : (e : Ex) (S : Stack) (row : Bool) (ts : List Terminal) → SoundEx row (in_index S) e → Fore S (mark e) (sticks e) (ex e ts)
  fore_ex (number m z) S row ts h = plainly (w.Number z) ts refl refl
  fore_ex (chars m cs) S row ts h = plainly (w.Chars cs) ts refl refl
  fore_ex (bare c) S row ts h = fore_callee c S true ts
  fore_ex (call c m a z) S row ts h = fore_callee c S true (term w.Open m ∷ args a (term w.Close z ∷ ts))
  fore_ex (state e d m) S row ts h = fore_ex e S row (term w.Dot d ∷ term (w.Name (codes "State")) m ∷ ts) h.1
  fore_ex (paren m e z) S row ts h = plainly w.Open (ex e (term w.Close z ∷ ts)) refl refl
  fore_ex (rows m rs z) S row ts h = plainly w.OpenSquare (row_words rs (term w.CloseSquare z ∷ ts)) refl refl
  fore_ex (rows_to m rs es t z) S row ts h = plainly w.OpenSquare (row_words rs (elements es (trail_words t (term w.CloseSquare z ∷ ts)))) refl refl
  fore_ex (func m n) S row ts h = plainly w.At (named n ∷ ts) refl refl
  fore_ex (last m) S row ts h = plainly (w.Key k.End) ts refl (rw h refl)
  fore_ex (under p e) S row ts h = fore_op p S row (mark e).gap (ex e ts) h.0 (sticks_fore S (mark e) (sticks e) (ex e ts) (fore_ex e S row ts h.3))
  fore_ex (transposed e m) S row ts h = fore_ex e S row (term w.Quote m ∷ ts) h.1

  pub fore_op : (p : Op) (S : Stack) (row : Bool) (gap : Bool) (ts : List Terminal) → SoundOp row (in_index S) p → sticks_next ts ≡ not gap → Fore S (op_mark p) (op_sticks p gap) (op p ts)
  fore_op (joined a o m us) S row gap ts h g = fore_ex a S row (term (w.Binary o) m ∷ signs us ts) h.2
  fore_op (signed m (additive a)) S row gap ts h g = by_sign a ts refl (λ q. g ∙ q)
  fore_op (signed m tilde) S row gap ts h g = plainly w.Not ts refl refl
  fore_op (from a m) S row gap ts h g = fore_ex a S row (term w.Colon m ∷ ts) h.1
  fore_op (stepped a m b n) S row gap ts h g = fore_ex a S row (term w.Colon m ∷ ex b (term w.Colon n ∷ ts)) h.2
