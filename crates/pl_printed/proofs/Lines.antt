-- Lines can be laid out: keywords where a line begins, and statements each on its line.
use Rattle.std.proofs.Common.{◌≡◌, ℕ, suc, ◌+◌, ◌-◌, Bool, true, false, List, [], ◌∷◌, refl, sym, subst, arith}
use Rattle.std.proofs.lemmas.Bool.{eqb-true}
use Rattle.pl_grammar.specs.declared.terminal.Terminal.{Terminal}
use Rattle.pl_grammar.specs.declared.terminal.Keyword.{Keyword}
use Rattle.pl_grammar.specs.declared.terminal.Keyword.TheVariants as word
use Rattle.pl_grammar.specs.Words.{is_link}
use Rattle.pl_lex.specs.Bytes.{class_of, is_part, begins, Stops}
use Rattle.pl_lex.specs.Keywords.{is_end}
use Rattle.pl_layout.specs.Layout.{opens_block, text_from}
use Rattle.pl_layout.specs.Shown.{is_indented}
use Rattle.pl_printing.specs.Canonical.{Words, key, ending, lines, block_words, finish, arms_words, last_words}
use Rattle.pl_printing.proofs.Expressions.{no_state}
use Rattle.pl_printed.proofs.States.{Fits, at, other, one_less, Behind, behind_semicolon, behind_line}

-- the terminals can be laid out where a line begins, so many blocks being open
abbrev pub Begins : ℕ → List Terminal → Type 0
Begins d rest = Fits d 0 true false [] other rest

-- they can be laid out behind what a line holds
abbrev pub Ends : ℕ → List Terminal → Type 0
Ends d rest = Behind false d 0 [] rest

-- a statement without its end, and with it
abbrev pub Holds : Words → Type 0
Holds words = (d : ℕ) (gap : Bool) (rest : List Terminal) → gap ≡ is_indented d → Ends d rest → Begins d (words gap rest)

abbrev pub Stands : Words → Type 0
Stands words = (d : ℕ) (gap : Bool) (rest : List Terminal) → gap ≡ is_indented d → Begins d rest → Begins d (words gap rest)

pub ends_line : (d : ℕ) (rest : List Terminal) → Begins d rest → Ends d (ending true rest)
ends_line d rest h = behind_line false d 0 [] rest h

pub ends : (v : Bool) (d : ℕ) (rest : List Terminal) → Begins d rest → Ends d (ending v rest)
ends true d rest h = ends_line d rest h
ends false d rest h = behind_semicolon false d 0 [] (ending true rest) ((ends_line d rest h).shown false other refl)

-- ---- keywords

pub blank_stops : (bytes : List ℕ) → begins 32 bytes ≡ true → Stops is_part bytes
unfolding class_of
blank_stops [] h = tt
blank_stops (c ∷ cs) h = let P : ℕ → Type 0 = λ x. is_part x ≡ false in subst P (sym (eqb-true c 32 h)) refl

-- one that opens a block
pub opens_go : (key_word : Keyword) → opens_block key_word ≡ true → (d : ℕ) (gap : Bool) (rest : List Terminal) → gap ≡ is_indented d → Stops is_part (text_from (at (d + 1) 0 false false) rest) → Fits (d + 1) 0 false false [] other rest → Begins d (key gap key_word ∷ rest)
unfolding is_end
opens_go word.If o d gap rest g s h = (tt, g, tt, s, h)
opens_go word.While o d gap rest g s h = (tt, g, tt, s, h)
opens_go word.For o d gap rest g s h = (tt, g, tt, s, h)
opens_go word.Parfor o d gap rest g s h = (tt, g, tt, s, h)
opens_go word.Switch o d gap rest g s h = (tt, g, tt, s, h)
opens_go word.Try o d gap rest g s h = (tt, g, tt, s, h)
opens_go word.Spmd o d gap rest g s h = (tt, g, tt, s, h)
opens_go word.Function o d gap rest g s h = (tt, g, tt, s, h)
opens_go key_word o d gap rest g s h = no_state o

one_less_gap : (d : ℕ) (gap : Bool) → gap ≡ is_indented d → gap ≡ is_indented (d + 1 - 1)
one_less_gap d gap g = let P : ℕ → Type 0 = λ m. gap ≡ is_indented m in subst P (sym (one_less d)) g

-- one that goes on with a compound statement
pub links_go : (key_word : Keyword) → is_link key_word ≡ true → (d : ℕ) (gap : Bool) (rest : List Terminal) → gap ≡ is_indented d → Stops is_part (text_from (at (d + 1) 0 false false) rest) → Fits (d + 1) 0 false false [] other rest → Begins (d + 1) (key gap key_word ∷ rest)
unfolding is_end
links_go word.Elseif o d gap rest g s h = (tt, one_less_gap d gap g, tt, s, h)
links_go word.Else o d gap rest g s h = (tt, one_less_gap d gap g, tt, s, h)
links_go word.Case o d gap rest g s h = (tt, one_less_gap d gap g, tt, s, h)
links_go word.Otherwise o d gap rest g s h = (tt, one_less_gap d gap g, tt, s, h)
links_go word.Catch o d gap rest g s h = (tt, one_less_gap d gap g, tt, s, h)
links_go key_word o d gap rest g s h = no_state o

-- the key_word `end`
pub finish_goes : (d : ℕ) (gap : Bool) (rest : List Terminal) → gap ≡ is_indented d → Ends d rest → Begins (d + 1) (finish gap rest)
unfolding is_end
finish_goes d gap rest g h =
    let P : ℕ → Type 0 = λ m. Unit {0} × (gap ≡ is_indented m) × Unit {0} × Stops is_part (text_from (at m 0 false false) rest) × Fits m 0 false false [] other rest in
    subst P (sym (one_less d)) (tt, g, tt, h.parts false, h.shown false other refl)

-- ---- blocks

more_indented : (d : ℕ) → true ≡ is_indented (d + 1)
more_indented d = let P : ℕ → Type 0 = λ m. true ≡ is_indented m in let e : suc d ≡ d + 1 = omega arith in subst P e refl

abbrev pub AllStand : List Words → Type 0
AllStand [] = Unit {0}
AllStand (x ∷ xs) = Stands x × AllStand xs

pub lines_go : (xs : List Words) → AllStand xs → (d : ℕ) (gap : Bool) (rest : List Terminal) → gap ≡ is_indented d → Begins d rest → Begins d (lines gap xs rest)
lines_go [] h d gap rest g k = k
lines_go (x ∷ xs) h d gap rest g k = h.0 d gap (lines gap xs rest) g (lines_go xs h.1 d gap rest g k)

pub block_goes : (xs : List Words) → AllStand xs → (d : ℕ) (rest : List Terminal) → Begins (d + 1) rest → Ends (d + 1) (block_words xs rest)
block_goes xs h d rest k = behind_line false (d + 1) 0 [] (lines true xs rest) (lines_go xs h (d + 1) true rest (more_indented d) k)

-- ---- arms

pub record ArmGoes (a : Keyword → Words) : Type 0 where
  pub opens : (d : ℕ) (gap : Bool) (rest : List Terminal) → gap ≡ is_indented d → Begins (d + 1) rest → Begins d (a word.If gap rest)
  pub links : (key_word : Keyword) → is_link key_word ≡ true → (d : ℕ) (gap : Bool) (rest : List Terminal) → gap ≡ is_indented d → Begins (d + 1) rest → Begins (d + 1) (a key_word gap rest)

abbrev pub AllArms : List (Keyword → Words) → Type 0
AllArms [] = Unit {0}
AllArms (a ∷ arms) = ArmGoes a × AllArms arms

-- at least one
abbrev pub SomeArms : List (Keyword → Words) → Type 0
SomeArms [] = ⊥
SomeArms (a ∷ arms) = ArmGoes a × AllArms arms

pub arms_go : (key_word : Keyword) → is_link key_word ≡ true → (arms : List (Keyword → Words)) → AllArms arms → (d : ℕ) (gap : Bool) (rest : List Terminal) → gap ≡ is_indented d → Begins (d + 1) rest → Begins (d + 1) (arms_words key_word key_word arms gap rest)
arms_go key_word o [] h d gap rest g k = k
arms_go key_word o (a ∷ arms) h d gap rest g k = h.0.links key_word o d gap (arms_words key_word key_word arms gap rest) g (arms_go key_word o arms h.1 d gap rest g k)

pub if_goes : (arms : List (Keyword → Words)) → SomeArms arms → (d : ℕ) (gap : Bool) (rest : List Terminal) → gap ≡ is_indented d → Begins (d + 1) rest → Begins d (arms_words word.If word.Elseif arms gap rest)
if_goes [] h d gap rest g k = absurd h
if_goes (a ∷ arms) h d gap rest g k = h.0.opens d gap (arms_words word.Elseif word.Elseif arms gap rest) g (arms_go word.Elseif refl arms h.1 d gap rest g k)

-- the last block, with its keyword unless it is empty
pub last_goes : (key_word : Keyword) → is_link key_word ≡ true → (xs : List Words) → AllStand xs → (d : ℕ) (gap : Bool) (rest : List Terminal) → gap ≡ is_indented d → Begins (d + 1) rest → Begins (d + 1) (last_words key_word xs gap rest)
last_goes key_word o [] h d gap rest g k = k
last_goes key_word o (x ∷ xs) h d gap rest g k = let b = block_goes (x ∷ xs) h d rest k in links_go key_word o d gap (block_words (x ∷ xs) rest) g (b.parts false) (b.shown false other refl)
