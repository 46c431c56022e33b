-- The parts of a name with dots, one after another.
use Rattle.std.proofs.Common.{◌≡◌, ℕ, ◌+◌, ◌-◌, ◌≤◌, Bool, true, false, List, [], ◌∷◌, length, take, drop, refl, ap, arith, one-add}
use Rattle.std.proofs.lemmas.List.{take_rest}
use Rattle.pl_grammar.specs.declared.terminal.Terminal.{Terminal}
use Rattle.pl_grammar.specs.declared.terminal.Word.TheVariants as w
use Rattle.std.specs.Prelude.{not, ◌==◌, if◌then◌else◌, cond}
use Rattle.std.specs.List.{prefix_len}
use Rattle.pl_printing.specs.Canonical.{terminal, directly, onto, parts_of, behind_dots, dotted_words}
use Rattle.pl_print.specs.Pages.{no_dot}

-- the parts behind a first one, where its dot stands first
abbrev pub parts_behind : List ℕ → List (List ℕ)
parts_behind [] = []
parts_behind (c ∷ cs) = parts_of cs

pub first_part : (text : List ℕ) → parts_of text ≡ take (prefix_len no_dot text) text ∷ parts_behind (drop (prefix_len no_dot text) text)
first_part [] = refl
first_part (c ∷ cs) =
    let P : Bool → Type 0 = λ v. (if v then [] ∷ parts_of cs else onto c (parts_of cs)) ≡ take (cond (not v) (1 + prefix_len no_dot cs) 0) (c ∷ cs) ∷ parts_behind (drop (cond (not v) (1 + prefix_len no_dot cs) 0) (c ∷ cs)) in
    elim (c == 46) as P [ true ↦ refl | false ↦ rw one-add (ap (λ ps. onto c ps) (first_part cs)) ]

-- the first part, and those to come
pub begun : (text : List ℕ) (n : ℕ) → n ≡ prefix_len no_dot text → (gap : Bool) (rest : List Terminal) → terminal gap (w.Name (take n text)) ∷ behind_dots (parts_behind (take (length text - n) (drop n text))) rest ≡ dotted_words (parts_of text) gap rest
begun text n e gap rest = rw (take_rest, e, first_part text) refl

-- one more dot and part
pub went : (tail more : List ℕ) (n : ℕ) → 1 ≤ length tail → more ≡ take (length tail - 1) (drop 1 tail) → n ≡ prefix_len no_dot more
    → (rest : List Terminal) → directly w.Dot ∷ directly (w.Name (take n more)) ∷ behind_dots (parts_behind (take (length more - n) (drop n more))) rest ≡ behind_dots (parts_behind tail) rest
went [] more n h k e rest = absurd (omega arith)
went (c ∷ cs) more n h k e rest = let same : more ≡ cs = rw take_rest at k in rw (take_rest, e, same, first_part cs) refl
