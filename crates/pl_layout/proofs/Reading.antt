-- The tokens of a text from one word to the next.
use Rattle.std.proofs.Common.{◌≡◌, ◌∙◌, ℕ, suc, zero, ◌+◌, ◌-◌, Bool, true, false, List, [], ◌∷◌, ◌++◌, length, take, drop, map, refl, ap, sym, subst, arith, append_assoc}
use Rattle.std.proofs.lemmas.List.{length-append}
use Rattle.std.proofs.Math.Seq.{take-append_seam, drop-append_seam}
use Rattle.pl_grammar.specs.declared.terminal.Terminal.{Terminal}
use Rattle.pl_lex.specs.Bytes.{class_of, is_blank, begins, Each, Stops}
use Rattle.pl_lex.specs.State.{behind}
use Rattle.pl_lex.specs.Pieces.{Piece, clean, bytes_of, FitsOutside, Cut}
use Rattle.pl_lex.specs.Tokens.{tokens_of}
use Rattle.pl_terminals.specs.Terminals.{terminal_of, word_of}
use Rattle.pl_printing.specs.ReadingBack.{AreAlike}
use Rattle.pl_layout.specs.Shown.{Before, beyond}
use Rattle.pl_layout.proofs.Parts.{Brackets, Last, blank_part}
use Rattle.pl_layout.proofs.Spelt.{calm, Spelt}

-- from here on the text is cut into tokens, and these are the terminals; pre stands before it
pub record Read (pre : List ℕ) (b : Before) (bytes : List ℕ) (ts : List Terminal) : Type 0 where
  pub pieces : List Piece
  pub cut : Cut b pieces clean
  pub spells : bytes_of pieces clean ≡ bytes
  pub unmarked : begins 239 bytes ≡ false
  pub alike : AreAlike (map (terminal_of (pre ++ bytes)) (tokens_of (length pre) b pieces)) ts

pub read_end : (pre : List ℕ) (b : Before) → Read pre b [] []
read_end pre b = record { pieces = []; cut = tt; spells = refl; unmarked = refl; alike = tt }

-- behind some bytes the tokens stand where they do in the whole
moved : (pre bytes more : List ℕ) (b : Before) (ts : List Terminal) (pieces : List Piece) (n : ℕ) → length (pre ++ bytes) ≡ n → AreAlike (map (terminal_of ((pre ++ bytes) ++ more)) (tokens_of (length (pre ++ bytes)) b pieces)) ts
    → AreAlike (map (terminal_of (pre ++ (bytes ++ more))) (tokens_of n b pieces)) ts
moved pre bytes more b ts pieces n e h =
    let P : List ℕ → Type 0 = λ source. AreAlike (map (terminal_of source) (tokens_of (length (pre ++ bytes)) b pieces)) ts in
    let Q : ℕ → Type 0 = λ m. AreAlike (map (terminal_of (pre ++ (bytes ++ more))) (tokens_of m b pieces)) ts in
    subst Q e (subst P (append_assoc pre bytes more) h)

-- ---- white space

abbrev pub blanks : ℕ → List ℕ
blanks zero = []
blanks (suc n) = 32 ∷ blanks n

each_blank : (n : ℕ) → Each is_blank (blanks n)
unfolding class_of
each_blank zero = tt
each_blank (suc n) = (refl, each_blank n)

pub read_blanks : (n : ℕ) (pre : List ℕ) (s : Brackets) (l : Last) (f : Bool) (bytes : List ℕ) (ts : List Terminal) → Stops is_blank bytes
    → Read (pre ++ blanks (suc n)) (calm s l true f) bytes ts → Read pre (calm s l false f) (blanks (suc n) ++ bytes) ts
unfolding class_of behind
read_blanks n pre s l f bytes ts k r =
    let P : List ℕ → Type 0 = λ xs. Stops is_blank xs in
    let m : length (pre ++ blanks (suc n)) ≡ length pre + 1 + length (blanks n) = omega (arith, length-append pre (blanks (suc n))) in
    record {
      pieces = record { part = blank_part; first = 32; others = blanks n } ∷ r.pieces;
      cut = ((refl, each_blank n, subst P (sym r.spells) k), r.cut);
      spells = ap (λ xs. blanks (suc n) ++ xs) r.spells;
      unmarked = refl;
      alike = moved pre (blanks (suc n)) bytes (calm s l true f) ts r.pieces (length pre + 1 + length (blanks n)) m r.alike;
    }

-- ---- words

-- the bytes of a token are those of its piece
bytes-stand : (pre : List ℕ) (c : ℕ) (cs rest : List ℕ) → take (length pre + 1 + length cs - length pre) (drop (length pre) (pre ++ (c ∷ cs ++ rest))) ≡ c ∷ cs
bytes-stand pre c cs rest =
    let n : length pre + 1 + length cs - length pre ≡ length (c ∷ cs) = omega arith in
    let d : drop (length pre) (pre ++ (c ∷ cs ++ rest)) ≡ c ∷ cs ++ rest = drop-append_seam pre (c ∷ cs ++ rest) in
    rw (n, d) (take-append_seam (c ∷ cs) rest)

-- one word, of which the first byte is known
read_piece : (t : Terminal) (pre : List ℕ) (s : Brackets) (l : Last) (f : Bool) (rest : List ℕ) (ts : List Terminal) (bytes : List ℕ) (p : Spelt t.word bytes rest (calm s l t.gap f))
    → Read (pre ++ (p.first ∷ p.others)) (behind p.part (p.first ∷ p.others) (calm s l t.gap f)) rest ts → Read pre (calm s l t.gap f) (p.first ∷ p.others ++ rest) (t ∷ ts)
read_piece t pre s l f rest ts bytes p r =
    let b : Before = calm s l t.gap f in
    let P : List ℕ → Type 0 = λ xs. FitsOutside p.part (class_of p.first) p.first p.others b xs in
    let m : length (pre ++ (p.first ∷ p.others)) ≡ length pre + 1 + length p.others = omega (arith, length-append pre (p.first ∷ p.others)) in
    let after = moved pre (p.first ∷ p.others) rest (behind p.part (p.first ∷ p.others) b) ts r.pieces (length pre + 1 + length p.others) m r.alike in
    let e = bytes-stand pre p.first p.others rest in
    record {
      pieces = record { part = p.part; first = p.first; others = p.others } ∷ r.pieces;
      cut = (subst P (sym r.spells) p.fits, r.cut);
      spells = ap (λ xs. p.first ∷ p.others ++ xs) r.spells;
      unmarked = p.unmarked;
      alike = rw p.is (ap (word_of p.kind) e ∙ p.means, refl, after);
    }

pub read_word : (t : Terminal) (pre : List ℕ) (s : Brackets) (l : Last) (f : Bool) (rest : List ℕ) (ts : List Terminal) (bytes : List ℕ) → Spelt t.word bytes rest (calm s l t.gap f)
    → Read (pre ++ bytes) (beyond t.word bytes (calm s l t.gap f)) rest ts → Read pre (calm s l t.gap f) (bytes ++ rest) (t ∷ ts)
read_word t pre s l f rest ts bytes p r =
    let P : List ℕ → Type 0 = λ xs. Read (pre ++ xs) (beyond t.word bytes (calm s l t.gap f)) rest ts in
    let Q : Before → Type 0 = λ b. Read (pre ++ (p.first ∷ p.others)) b rest ts in
    let R : List ℕ → Type 0 = λ xs. Read pre (calm s l t.gap f) (xs ++ rest) (t ∷ ts) in
    subst R (sym p.spells) (read_piece t pre s l f rest ts bytes p (subst Q (sym p.leaves) (subst P p.spells r)))

-- a word's first byte is no blank
pub solid_bytes : (t : Terminal) (bytes rest more : List ℕ) (b : Before) → Spelt t.word bytes rest b → Stops is_blank (bytes ++ more)
solid_bytes t bytes rest more b p =
    let P : List ℕ → Type 0 = λ xs. Stops is_blank (xs ++ more) in
    subst P (sym p.spells) p.solid
