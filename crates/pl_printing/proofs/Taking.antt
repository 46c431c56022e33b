-- Reading from the front of terminals that are alike what is printed.
use Rattle.std.proofs.Common.{◌≡◌, ℕ, ◌≤◌, Bool, true, List, [], ◌∷◌, ◌++◌, map, refl, ap, arith}
use Rattle.std.specs.Prelude.{max}
use Rattle.std.proofs.Math.Nat.{le-max_left, le-max_right}
use Rattle.pl_grammar.specs.declared.terminal.Terminal.{Terminal}
use Rattle.pl_grammar.specs.declared.terminal.Word.{Word}
use Rattle.pl_grammar.specs.declared.terminal.Word.TheVariants as w
use Rattle.pl_grammar.specs.Words.{Mark, term, Named, named}
use Rattle.pl_printing.specs.Canonical.{Words, terminal, directly, behind, separated, name_words}
use Rattle.pl_printing.specs.ReadingBack.{AreAlike}

-- what was read, spelled so and with this property, and what is left
pub record Read (X : Type 0) (spell : X → List Terminal → List Terminal) (Is : X → Type 0) (us r : List Terminal) : Type 0 where
  pub it : X
  pub rest : List Terminal
  pub spelled : us ≡ spell it rest
  pub alike : AreAlike rest r
  pub is : Is it

-- one terminal that was read
pub record Taken (word : Word) (gap : Bool) (us r : List Terminal) : Type 0 where
  pub m : Mark
  pub rest : List Terminal
  pub spelled : us ≡ term word m ∷ rest
  pub gap_is : m.gap ≡ gap
  pub alike : AreAlike rest r

abbrev with_word : Terminal → List Terminal → Word → List Terminal
with_word t ts word = record { word = word; gap = t.gap; place = t.place } ∷ ts

pub take : (word : Word) (gap : Bool) (us r : List Terminal) → AreAlike us (terminal gap word ∷ r) → Taken word gap us r
take word gap [] r h = elim h [ ]
take word gap (t ∷ ts) r h = record {
  m = record { gap = t.gap; place = t.place };
  rest = ts;
  spelled = ap (with_word t ts) h.0;
  gap_is = h.1;
  alike = h.2;
}

-- one name that was read
pub record Noted (text : List ℕ) (gap : Bool) (us r : List Terminal) : Type 0 where
  pub n : Named
  pub rest : List Terminal
  pub spelled : us ≡ named n ∷ rest
  pub text_is : n.text ≡ text
  pub gap_is : n.mark.gap ≡ gap
  pub alike : AreAlike rest r

pub note : (text : List ℕ) (gap : Bool) (us r : List Terminal) → AreAlike us (name_words text gap r) → Noted text gap us r
note text gap us r h =
    let a : Taken (w.Name text) gap us r = take (w.Name text) gap us r h in
    record { n = record { mark = a.m; text = text }; rest = a.rest; spelled = a.spelled; text_is = refl; gap_is = a.gap_is; alike = a.alike }

pub itself : (us : List Terminal) → AreAlike us us
itself [] = tt
itself (u ∷ us) = (refl, refl, itself us)

-- one more thing behind others
pub behind_snoc : (sign : Word) (xs : List Words) (y : Words) (r : List Terminal) → behind sign (xs ++ y ∷ []) r ≡ behind sign xs (directly sign ∷ y true r)
behind_snoc sign [] y r = refl
behind_snoc sign (x ∷ xs) y r = ap (λ z. directly sign ∷ x true z) (behind_snoc sign xs y r)

pub separated_snoc : (sign : Word) (x : Words) (xs : List Words) (y : Words) (gap : Bool) (r : List Terminal) → separated sign (x ∷ xs ++ y ∷ []) gap r ≡ separated sign (x ∷ xs) gap (directly sign ∷ y true r)
separated_snoc sign x xs y gap r = ap (x gap) (behind_snoc sign xs y r)

pub map_snoc : {A B : Type 0} (f : A → B) (xs : List A) (y : A) → map f (xs ++ y ∷ []) ≡ map f xs ++ f y ∷ []
map_snoc f [] y = refl
map_snoc f (x ∷ xs) y = ap (λ z. f x ∷ z) (map_snoc f xs y)

-- ---- maxima

pub over : (x y b : ℕ) → x ≤ b → y ≤ b → max x y ≤ b
over x y b h j = grind (arith, h, j)

pub max_grows : (a b c d : ℕ) → a ≤ c → b ≤ d → max a b ≤ max c d
max_grows a b c d h j = over a b (max c d) (omega (arith, h, le-max_left c d)) (omega (arith, j, le-max_right c d))
