-- What each word is spelled as fits where it stands, and is read as that word.
use Rattle.std.proofs.Common.{◌≡◌, ◌∙◌, ℕ, ◌≤◌, ℤ, pos, negsuc, Bool, true, false, ◌&&◌, List, [], ◌∷◌, Some, refl, ap, sym, subst, arith}
use Rattle.std.specs.Prelude.{codes, ◌==◌, if◌then◌else◌}
use Rattle.std.specs.Fmt.{decimal, signed_decimal}
use Rattle.std.proofs.lemmas.Bool.{le-leb, ne_eqb, and_parts, not-true, not_from_false, eqb-true}
use Rattle.pl_syntax.specs.declared.expr.Bin.{Bin}
use Rattle.pl_syntax.specs.declared.expr.Bin.TheVariants as bin
use Rattle.pl_grammar.specs.declared.terminal.Word.{Word}
use Rattle.pl_grammar.specs.declared.terminal.Word.TheVariants as w
use Rattle.pl_grammar.specs.declared.terminal.Keyword.{Keyword}
use Rattle.pl_grammar.specs.declared.terminal.Keyword.TheVariants as k
use Rattle.pl_lex.specs.declared.token.Kind.{Kind}
use Rattle.pl_lex.specs.declared.token.Kind.TheVariants as kind
use Rattle.pl_lex.specs.Bytes.{class_of, part_class, blank_class, is_blank, is_part, is_digit, begins, Each, Stops}
use Rattle.pl_lex.specs.Keywords.{is_keyword}
use Rattle.pl_lex.specs.State.{behind, opens_text}
use Rattle.pl_lex.specs.Pieces.{Inner, plain, doubled, spelled, Inside, number_from, in_range, is_whole, FitsOutside}
use Rattle.pl_lex.specs.Tokens.{IsName, kind_of}
use Rattle.pl_lex.specs.Scan.{word, sign, outside}
use Rattle.pl_terminals.specs.Signs.{keyword, later_keyword}
use Rattle.pl_terminals.specs.Terminals.{word_of, unquoted}
use Rattle.pl_terminals.proofs.Undone.{numbers}
use Rattle.pl_syntax.specs.Signs.{binary_sign}
use Rattle.pl_layout.specs.Layout.{quoted, keyword_bytes, written}
use Rattle.pl_layout.specs.Shown.{Before, IsNumber, IsWord, in_line, OperatorStays, Stays, QuoteFits, beyond}
use Rattle.pl_layout.proofs.Parts.{Part, Brackets, Last, name_part, keyword_part, literal_part, chars_part, sign_part, line_part}
use Rattle.pl_layout.proofs.Decimals.{digits, Digits, decimals}

-- outside of comments, on a line that isn't joined to the one before
abbrev pub calm : Brackets → Last → Bool → Bool → Before
calm brackets last gap fresh = record { brackets = brackets; last = last; gap = gap; fresh = fresh; joined = false; blocks = 0 }

-- the bytes of a word are a piece that fits here, and are read as the word
pub record Spelt (word : Word) (bytes rest : List ℕ) (b : Before) : Type 0 where
  pub part : Part
  pub kind : Kind
  pub first : ℕ
  pub others : List ℕ
  pub spells : bytes ≡ first ∷ others
  pub unmarked : (first == 239) ≡ false
  pub solid : is_blank first ≡ false
  pub fits : FitsOutside part (class_of first) first others b rest
  pub is : kind_of part b ≡ Some kind
  pub means : word_of kind (first ∷ others) ≡ word
  pub leaves : behind part (first ∷ others) b ≡ beyond word bytes b

-- ---- names and keywords

other_byte : (c : ℕ) → part_class (class_of c) ≡ true → (c == 239) ≡ false
unfolding class_of
other_byte c h = ne_eqb c 239 (λ e. let P : ℕ → Type 0 = λ x. part_class (class_of x) ≡ true in let f : part_class (class_of 239) ≡ true = subst P e h in cc)

pub name : (text rest : List ℕ) (s : Brackets) (l : Last) (g f : Bool) → IsName text → Stops is_part rest → Spelt (w.Name text) text rest (calm s l g f)
unfolding word is_keyword behind
name [] rest s l g f h k = absurd h
name (c ∷ cs) rest s l g f h k = record { part = name_part; kind = kind.Name; first = c; others = cs; spells = refl; unmarked = other_byte c (ap part_class h.0); solid = ap blank_class h.0; fits = (h.0, h.1, k, h.2); is = refl; means = refl; leaves = refl }

abbrev all_parts : List ℕ → Bool
all_parts [] = true
all_parts (c ∷ cs) = is_part c && all_parts cs

each_part : (cs : List ℕ) → all_parts cs ≡ true → Each is_part cs
each_part [] h = tt
each_part (c ∷ cs) h = let e = and_parts (is_part c) (all_parts cs) h in (e.0, each_part cs e.1)

keyword_spelt : (key : Keyword) (c : ℕ) (cs rest : List ℕ) (s : Brackets) (l : Last) (g f : Bool) → keyword_bytes key ≡ c ∷ cs → (c == 239) ≡ false → class_of c ≡ class_of 97 → all_parts cs ≡ true → is_keyword (c ∷ cs) ≡ true → keyword (c ∷ cs) ≡ key
    → Stops is_part rest → Spelt (w.Key key) (keyword_bytes key) rest (calm s l g f)
unfolding word is_keyword behind class_of
keyword_spelt key c cs rest s l g f e u h a i m k = record {
  part = keyword_part;
  kind = kind.Keyword;
  first = c;
  others = cs;
  spells = e;
  unmarked = u;
  solid = ap blank_class h;
  fits = (h, each_part cs a, k, i);
  is = refl;
  means = ap w.Key m;
  leaves = ap (λ (bytes : List ℕ). beyond (w.Key key) bytes (calm s l g f)) (sym e);
}

pub key : (key : Keyword) (rest : List ℕ) (s : Brackets) (l : Last) (g f : Bool) → Stops is_part rest → Spelt (w.Key key) (keyword_bytes key) rest (calm s l g f)
unfolding class_of is_keyword keyword later_keyword
key k.Break rest s l g f h = keyword_spelt k.Break 98 (codes "reak") rest s l g f refl refl refl refl refl refl h
key k.Case rest s l g f h = keyword_spelt k.Case 99 (codes "ase") rest s l g f refl refl refl refl refl refl h
key k.Catch rest s l g f h = keyword_spelt k.Catch 99 (codes "atch") rest s l g f refl refl refl refl refl refl h
key k.Classdef rest s l g f h = keyword_spelt k.Classdef 99 (codes "lassdef") rest s l g f refl refl refl refl refl refl h
key k.Continue rest s l g f h = keyword_spelt k.Continue 99 (codes "ontinue") rest s l g f refl refl refl refl refl refl h
key k.Else rest s l g f h = keyword_spelt k.Else 101 (codes "lse") rest s l g f refl refl refl refl refl refl h
key k.Elseif rest s l g f h = keyword_spelt k.Elseif 101 (codes "lseif") rest s l g f refl refl refl refl refl refl h
key k.End rest s l g f h = keyword_spelt k.End 101 (codes "nd") rest s l g f refl refl refl refl refl refl h
key k.For rest s l g f h = keyword_spelt k.For 102 (codes "or") rest s l g f refl refl refl refl refl refl h
key k.Function rest s l g f h = keyword_spelt k.Function 102 (codes "unction") rest s l g f refl refl refl refl refl refl h
key k.Global rest s l g f h = keyword_spelt k.Global 103 (codes "lobal") rest s l g f refl refl refl refl refl refl h
key k.If rest s l g f h = keyword_spelt k.If 105 (codes "f") rest s l g f refl refl refl refl refl refl h
key k.Otherwise rest s l g f h = keyword_spelt k.Otherwise 111 (codes "therwise") rest s l g f refl refl refl refl refl refl h
key k.Parfor rest s l g f h = keyword_spelt k.Parfor 112 (codes "arfor") rest s l g f refl refl refl refl refl refl h
key k.Persistent rest s l g f h = keyword_spelt k.Persistent 112 (codes "ersistent") rest s l g f refl refl refl refl refl refl h
key k.Return rest s l g f h = keyword_spelt k.Return 114 (codes "eturn") rest s l g f refl refl refl refl refl refl h
key k.Spmd rest s l g f h = keyword_spelt k.Spmd 115 (codes "pmd") rest s l g f refl refl refl refl refl refl h
key k.Switch rest s l g f h = keyword_spelt k.Switch 115 (codes "witch") rest s l g f refl refl refl refl refl refl h
key k.Try rest s l g f h = keyword_spelt k.Try 116 (codes "ry") rest s l g f refl refl refl refl refl refl h
key k.While rest s l g f h = keyword_spelt k.While 119 (codes "hile") rest s l g f refl refl refl refl refl refl h

-- ---- numbers

literal : (n : ℕ) (ds rest : List ℕ) (s : Brackets) (l : Last) (g f : Bool) → n ≤ 9223372036854775807 → Digits n ds → Stops is_digit rest → is_whole rest ≡ true → Spelt (w.Number (pos n)) ds rest (calm s l g f)
unfolding behind class_of
literal n [] rest s l g f h d k v = absurd (omega (arith, d.2))
literal n (c ∷ cs) rest s l g f h d k v =
    let r : in_range (c ∷ cs) ≡ true = le-leb (number_from 0 (c ∷ cs)) 9223372036854775807 (omega (arith, d.1, h)) in
    record {
      part = literal_part;
      kind = kind.Literal;
      first = c;
      others = cs;
      spells = refl;
      unmarked = other_byte c (ap part_class d.0.0);
      solid = ap blank_class d.0.0;
      fits = (d.0.0, digits cs d.0.1, k, r, v);
      is = refl;
      means = ap w.Number (numbers (c ∷ cs) r ∙ ap pos d.1);
      leaves = refl;
    }

pub number_spelt : (z : ℤ) (rest : List ℕ) (s : Brackets) (l : Last) (g f : Bool) → IsNumber z → Stops is_digit rest → is_whole rest ≡ true → Spelt (w.Number z) (signed_decimal z) rest (calm s l g f)
number_spelt (pos n) rest s l g f h k v = literal n (decimal n) rest s l g f h (decimals n (omega arith)) k v
number_spelt (negsuc n) rest s l g f h k v = absurd h

-- ---- texts

abbrev inner_of : List ℕ → List Inner
inner_of [] = []
inner_of (c ∷ cs) = if c == 39 then doubled ∷ inner_of cs else plain c ∷ inner_of cs

inner_inside : (cs : List ℕ) → Each in_line cs → Inside 39 (inner_of cs)
inner_inside [] h = tt
inner_inside (c ∷ cs) h =
    elim (c == 39) as (λ v. (c == 39) ≡ v → Inside 39 (if v then doubled ∷ inner_of cs else plain c ∷ inner_of cs))
    [ true ↦ λ e. inner_inside cs h.1 | false ↦ λ e. (e, not-true (c == 10) h.0, inner_inside cs h.1) ] refl

inner_spells : (cs : List ℕ) → quoted cs ≡ spelled 39 (inner_of cs) (39 ∷ [])
inner_spells [] = refl
inner_spells (c ∷ cs) =
    elim (c == 39) as (λ v. (if v then 39 ∷ 39 ∷ quoted cs else c ∷ quoted cs) ≡ spelled 39 (if v then doubled ∷ inner_of cs else plain c ∷ inner_of cs) (39 ∷ []))
    [ true ↦ ap (λ xs. 39 ∷ 39 ∷ xs) (inner_spells cs) | false ↦ ap (λ xs. c ∷ xs) (inner_spells cs) ]

unquoted_quoted : (cs : List ℕ) → unquoted 39 false (quoted cs) ≡ cs
unquoted_quoted [] = refl
unquoted_quoted (c ∷ cs) =
    elim (c == 39) as (λ v. (c == 39) ≡ v → unquoted 39 false (if v then 39 ∷ 39 ∷ quoted cs else c ∷ quoted cs) ≡ c ∷ cs)
    [ true ↦ λ e. let same : c ≡ 39 = eqb-true c 39 e in ap (λ xs. 39 ∷ xs) (unquoted_quoted cs) ∙ ap (λ x. x ∷ cs) (sym same) | false ↦ λ e. rw e (ap (λ xs. c ∷ xs) (unquoted_quoted cs)) ] refl

pub chars : (text rest : List ℕ) (s : Brackets) (l : Last) (g f : Bool) → Each in_line text → opens_text (calm s l g f) ≡ true → begins 39 rest ≡ false → Spelt (w.Chars text) (39 ∷ quoted text) rest (calm s l g f)
unfolding behind class_of
chars text rest s l g f h o k = record {
  part = chars_part;
  kind = kind.Chars;
  first = 39;
  others = quoted text;
  spells = refl;
  unmarked = refl;
  solid = refl;
  fits = (o, record { inner = inner_of text; inside = inner_inside text h; spells = inner_spells text }, k);
  is = refl;
  means = ap w.Chars (unquoted_quoted text);
  leaves = refl;
}

-- ---- signs and line ends

pub transposed : (rest : List ℕ) (s : Brackets) (l : Last) (g f : Bool) → opens_text (calm s l g f) ≡ false → Spelt w.Quote (codes "'") rest (calm s l g f)
unfolding behind class_of sign
transposed rest s l g f h = record { part = sign_part; kind = kind.Sign; first = 39; others = []; spells = refl; unmarked = refl; solid = refl; fits = (not_from_false (opens_text (calm s l g f)) h, refl, refl); is = refl; means = refl; leaves = refl }

pub line_end : (rest : List ℕ) (s : Brackets) (l : Last) (g f : Bool) → Spelt w.LineEnd (codes "\n") rest (calm s l g f)
unfolding behind class_of outside
line_end rest s l g f = record { part = line_part; kind = kind.LineEnd; first = 10; others = []; spells = refl; unmarked = refl; solid = refl; fits = refl; is = refl; means = refl; leaves = refl }

pub operator : (o : Bin) (rest : List ℕ) (s : Brackets) (l : Last) (g f : Bool) → OperatorStays o rest → Spelt (w.Binary o) (binary_sign o) rest (calm s l g f)
unfolding behind class_of sign
operator bin.Add rest s l g f h = record { part = sign_part; kind = kind.Sign; first = 43; others = []; spells = refl; unmarked = refl; solid = refl; fits = (refl, refl, refl); is = refl; means = refl; leaves = refl }
operator bin.Sub rest s l g f h = record { part = sign_part; kind = kind.Sign; first = 45; others = []; spells = refl; unmarked = refl; solid = refl; fits = (refl, refl, refl); is = refl; means = refl; leaves = refl }
operator bin.Mul rest s l g f h = record { part = sign_part; kind = kind.Sign; first = 42; others = []; spells = refl; unmarked = refl; solid = refl; fits = (refl, refl, refl); is = refl; means = refl; leaves = refl }
operator bin.Div rest s l g f h = record { part = sign_part; kind = kind.Sign; first = 47; others = []; spells = refl; unmarked = refl; solid = refl; fits = (refl, refl, refl); is = refl; means = refl; leaves = refl }
operator bin.Pow rest s l g f h = record { part = sign_part; kind = kind.Sign; first = 94; others = []; spells = refl; unmarked = refl; solid = refl; fits = (refl, refl, refl); is = refl; means = refl; leaves = refl }
operator bin.DotMul rest s l g f h = record { part = sign_part; kind = kind.Sign; first = 46; others = 42 ∷ []; spells = refl; unmarked = refl; solid = refl; fits = (refl, refl, refl); is = refl; means = refl; leaves = refl }
operator bin.DotDiv rest s l g f h = record { part = sign_part; kind = kind.Sign; first = 46; others = 47 ∷ []; spells = refl; unmarked = refl; solid = refl; fits = (refl, refl, refl); is = refl; means = refl; leaves = refl }
operator bin.DotPow rest s l g f h = record { part = sign_part; kind = kind.Sign; first = 46; others = 94 ∷ []; spells = refl; unmarked = refl; solid = refl; fits = (refl, refl, refl); is = refl; means = refl; leaves = refl }
operator bin.Lt rest s l g f h = record { part = sign_part; kind = kind.Sign; first = 60; others = []; spells = refl; unmarked = refl; solid = refl; fits = (refl, refl, h); is = refl; means = refl; leaves = refl }
operator bin.Le rest s l g f h = record { part = sign_part; kind = kind.Sign; first = 60; others = 61 ∷ []; spells = refl; unmarked = refl; solid = refl; fits = (refl, refl, refl); is = refl; means = refl; leaves = refl }
operator bin.Gt rest s l g f h = record { part = sign_part; kind = kind.Sign; first = 62; others = []; spells = refl; unmarked = refl; solid = refl; fits = (refl, refl, h); is = refl; means = refl; leaves = refl }
operator bin.Ge rest s l g f h = record { part = sign_part; kind = kind.Sign; first = 62; others = 61 ∷ []; spells = refl; unmarked = refl; solid = refl; fits = (refl, refl, refl); is = refl; means = refl; leaves = refl }
operator bin.Eq rest s l g f h = record { part = sign_part; kind = kind.Sign; first = 61; others = 61 ∷ []; spells = refl; unmarked = refl; solid = refl; fits = (refl, refl, refl); is = refl; means = refl; leaves = refl }
operator bin.Ne rest s l g f h = record { part = sign_part; kind = kind.Sign; first = 126; others = 61 ∷ []; spells = refl; unmarked = refl; solid = refl; fits = (refl, refl, refl); is = refl; means = refl; leaves = refl }
operator bin.And rest s l g f h = record { part = sign_part; kind = kind.Sign; first = 38; others = []; spells = refl; unmarked = refl; solid = refl; fits = (refl, refl, h); is = refl; means = refl; leaves = refl }
operator bin.Or rest s l g f h = record { part = sign_part; kind = kind.Sign; first = 124; others = []; spells = refl; unmarked = refl; solid = refl; fits = (refl, refl, h); is = refl; means = refl; leaves = refl }
operator bin.AndAlso rest s l g f h = record { part = sign_part; kind = kind.Sign; first = 38; others = 38 ∷ []; spells = refl; unmarked = refl; solid = refl; fits = (refl, refl, refl); is = refl; means = refl; leaves = refl }
operator bin.OrElse rest s l g f h = record { part = sign_part; kind = kind.Sign; first = 124; others = 124 ∷ []; spells = refl; unmarked = refl; solid = refl; fits = (refl, refl, refl); is = refl; means = refl; leaves = refl }

-- each word where it is written
pub spelt : (word' : Word) (behind_text : Bool) (rest : List ℕ) (s : Brackets) (l : Last) (g f : Bool) → IsWord word' → QuoteFits behind_text word' (calm s l g f) → Stays word' rest → Spelt word' (written behind_text word') rest (calm s l g f)
unfolding behind class_of sign
spelt (w.Name text) t rest s l g f i q h = name text rest s l g f i h
spelt (w.Chars text) t rest s l g f i q h = chars text rest s l g f i q h
spelt (w.Number z) t rest s l g f i q h = number_spelt z rest s l g f i h.0 h.1
spelt (w.Key key') t rest s l g f i q h = key key' rest s l g f h
spelt (w.Binary o) t rest s l g f i q h = operator o rest s l g f h
spelt w.LineEnd t rest s l g f i q h = line_end rest s l g f
spelt w.Quote false rest s l g f i q h = transposed rest s l g f q
spelt w.Quote true rest s l g f i q h = record { part = sign_part; kind = kind.Sign; first = 46; others = 39 ∷ []; spells = refl; unmarked = refl; solid = refl; fits = (refl, refl, refl); is = refl; means = refl; leaves = refl }
spelt w.Not t rest s l g f i q h = record { part = sign_part; kind = kind.Sign; first = 126; others = []; spells = refl; unmarked = refl; solid = refl; fits = (refl, refl, h); is = refl; means = refl; leaves = refl }
spelt w.Equal t rest s l g f i q h = record { part = sign_part; kind = kind.Sign; first = 61; others = []; spells = refl; unmarked = refl; solid = refl; fits = (refl, refl, h); is = refl; means = refl; leaves = refl }
spelt w.Colon t rest s l g f i q h = record { part = sign_part; kind = kind.Sign; first = 58; others = []; spells = refl; unmarked = refl; solid = refl; fits = (refl, refl, refl); is = refl; means = refl; leaves = refl }
spelt w.Comma t rest s l g f i q h = record { part = sign_part; kind = kind.Sign; first = 44; others = []; spells = refl; unmarked = refl; solid = refl; fits = (refl, refl, refl); is = refl; means = refl; leaves = refl }
spelt w.Semicolon t rest s l g f i q h = record { part = sign_part; kind = kind.Sign; first = 59; others = []; spells = refl; unmarked = refl; solid = refl; fits = (refl, refl, refl); is = refl; means = refl; leaves = refl }
spelt w.Open t rest s l g f i q h = record { part = sign_part; kind = kind.Sign; first = 40; others = []; spells = refl; unmarked = refl; solid = refl; fits = (refl, refl, refl); is = refl; means = refl; leaves = refl }
spelt w.Close t rest s l g f i q h = record { part = sign_part; kind = kind.Sign; first = 41; others = []; spells = refl; unmarked = refl; solid = refl; fits = (refl, refl, refl); is = refl; means = refl; leaves = refl }
spelt w.OpenSquare t rest s l g f i q h = record { part = sign_part; kind = kind.Sign; first = 91; others = []; spells = refl; unmarked = refl; solid = refl; fits = (refl, refl, refl); is = refl; means = refl; leaves = refl }
spelt w.CloseSquare t rest s l g f i q h = record { part = sign_part; kind = kind.Sign; first = 93; others = []; spells = refl; unmarked = refl; solid = refl; fits = (refl, refl, refl); is = refl; means = refl; leaves = refl }
spelt w.OpenBrace t rest s l g f i q h = record { part = sign_part; kind = kind.Sign; first = 123; others = []; spells = refl; unmarked = refl; solid = refl; fits = (refl, refl, refl); is = refl; means = refl; leaves = refl }
spelt w.CloseBrace t rest s l g f i q h = record { part = sign_part; kind = kind.Sign; first = 125; others = []; spells = refl; unmarked = refl; solid = refl; fits = (refl, refl, refl); is = refl; means = refl; leaves = refl }
spelt w.At t rest s l g f i q h = record { part = sign_part; kind = kind.Sign; first = 64; others = []; spells = refl; unmarked = refl; solid = refl; fits = (refl, refl, refl); is = refl; means = refl; leaves = refl }
spelt w.Dot t rest s l g f i q h = record { part = sign_part; kind = kind.Sign; first = 46; others = []; spells = refl; unmarked = refl; solid = refl; fits = (refl, h.1, h.0); is = refl; means = refl; leaves = refl }
