-- The law of texts.
use Rattle.std.proofs.Common.{◌≡◌, ℕ, suc, zero, Bool, true, false, List, [], ◌∷◌, ◌++◌, drop, map, refl, ap, sym, subst, nat_eq}
use Rattle.std.specs.Prelude.{if◌then◌else◌}
use Rattle.std.proofs.lemmas.Bool.{ne_eqb, eqb-false}
use Rattle.std.proofs.lemmas.List.{append-nil}
use Rattle.pl_syntax.specs.declared.expr.Bin.TheVariants as bin
use Rattle.pl_grammar.specs.declared.terminal.Terminal.{Terminal}
use Rattle.pl_grammar.specs.declared.terminal.Word.{Word}
use Rattle.pl_grammar.specs.declared.terminal.Word.TheVariants as w
use Rattle.pl_lex.specs.Bytes.{class_of, is_blank, begins, Stops}
use Rattle.pl_lex.specs.State.{start, signed}
use Rattle.pl_lex.specs.Pieces.{clean, bytes_of}
use Rattle.pl_lex.specs.Tokens.{mark_len, tokens_of}
use Rattle.pl_terminals.specs.Terminals.{terminal_of}
use Rattle.pl_layout.specs.Layout.{Line, first_line, written, level, past, lead, indent, blank, text_from, text}
use Rattle.pl_printing.specs.ReadingBack.{AreAlike}
use Rattle.pl_layout.specs.Shown.{Before, beyond, LineFits, AreShownFrom, TextLaw}
use Rattle.pl_layout.proofs.Parts.{Brackets, Last}
use Rattle.pl_layout.proofs.Spelt.{calm, Spelt, spelt}
use Rattle.pl_layout.proofs.Reading.{Read, read_end, blanks, read_blanks, read_word, solid_bytes}

-- behind a word nothing is left open but brackets
stays_calm : (word : Word) (t : Bool) (s : Brackets) (l : Last) (g f : Bool)
    → beyond word (written t word) (calm s l g f) ≡ calm (beyond word (written t word) (calm s l g f)).brackets (beyond word (written t word) (calm s l g f)).last false (beyond word (written t word) (calm s l g f)).fresh
unfolding class_of signed
stays_calm (w.Name text) t s l g f = refl
stays_calm (w.Chars text) t s l g f = refl
stays_calm (w.Number z) t s l g f = refl
stays_calm (w.Key word) t s l g f = refl
stays_calm (w.Binary bin.Add) t s l g f = refl
stays_calm (w.Binary o) t s l g f = refl
stays_calm w.Quote false s l g f = refl
stays_calm w.Quote true s l g f = refl
stays_calm w.Not t s l g f = refl
stays_calm w.Equal t s l g f = refl
stays_calm w.Colon t s l g f = refl
stays_calm w.Comma t s l g f = refl
stays_calm w.Semicolon t s l g f = refl
stays_calm w.LineEnd t s l g f = refl
stays_calm w.Open t s l g f = refl
stays_calm w.Close t s l g f = refl
stays_calm w.OpenSquare t s l g f = refl
stays_calm w.CloseSquare t s l g f = refl
stays_calm w.OpenBrace t s l g f = refl
stays_calm w.CloseBrace t s l g f = refl
stays_calm w.At t s l g f = refl
stays_calm w.Dot t s l g f = refl

-- ---- white space

abbrev twice : ℕ → ℕ
twice zero = zero
twice (suc n) = suc (suc (twice n))

indent_blanks : (n : ℕ) → indent n ≡ blanks (twice n)
indent_blanks zero = refl
indent_blanks (suc n) = ap (λ xs. 32 ∷ 32 ∷ xs) (indent_blanks n)

no_lead : (pre : List ℕ) (s : Brackets) (l : Last) (f gap : Bool) (bytes : List ℕ) (ts : List Terminal) → gap ≡ false → Read (pre ++ []) (calm s l gap f) bytes ts → Read pre (calm s l false f) bytes ts
no_lead pre s l f gap bytes ts e r =
    let P : Bool → Type 0 = λ g. Read (pre ++ []) (calm s l g f) bytes ts in
    let Q : List ℕ → Type 0 = λ xs. Read xs (calm s l false f) bytes ts in
    subst Q (append-nil pre) (subst P e r)

some_lead : (n : ℕ) (pre : List ℕ) (s : Brackets) (l : Last) (f gap : Bool) (bytes white : List ℕ) (ts : List Terminal) → gap ≡ true → white ≡ blanks (suc n) → Stops is_blank bytes
    → Read (pre ++ white) (calm s l gap f) bytes ts → Read pre (calm s l false f) (white ++ bytes) ts
some_lead n pre s l f gap bytes white ts e k h r =
    let P : Bool → Type 0 = λ g. Read (pre ++ white) (calm s l g f) bytes ts in
    let Q : List ℕ → Type 0 = λ xs. Read (pre ++ xs) (calm s l true f) bytes ts in
    let R : List ℕ → Type 0 = λ xs. Read pre (calm s l false f) (xs ++ bytes) ts in
    subst R (sym k) (read_blanks n pre s l f bytes ts h (subst Q k (subst P e r)))

led : (fresh gap : Bool) (n : ℕ) (pre : List ℕ) (s : Brackets) (l : Last) (f : Bool) (bytes : List ℕ) (ts : List Terminal) → LineFits fresh gap n → Stops is_blank bytes
    → Read (pre ++ (if fresh then indent n else blank gap)) (calm s l gap f) bytes ts → Read pre (calm s l false f) ((if fresh then indent n else blank gap) ++ bytes) ts
led false true n pre s l f bytes ts h k r = some_lead 0 pre s l f true bytes (32 ∷ []) ts refl refl k r
led false false n pre s l f bytes ts h k r = no_lead pre s l f false bytes ts refl r
led true gap zero pre s l f bytes ts h k r = no_lead pre s l f gap bytes ts h r
led true gap (suc n) pre s l f bytes ts h k r = some_lead (suc (twice n)) pre s l f gap bytes (indent (suc n)) ts h (ap (λ xs. 32 ∷ 32 ∷ xs) (indent_blanks n)) k r

-- ---- the whole

pub shown_reads : (ts : List Terminal) (line : Line) (pre : List ℕ) (s : Brackets) (l : Last) (f : Bool) → AreShownFrom line (calm s l false f) ts → Read pre (calm s l false f) (text_from line ts) ts
shown_reads [] line pre s l f h = read_end pre (calm s l false f)
shown_reads (t ∷ ts) line pre s l f h =
    let bytes : List ℕ = written line.behind_text t.word in
    let white : List ℕ = lead t line in
    let rest : List ℕ = text_from (past t.word line) ts in
    let b : Before = beyond t.word bytes (calm s l t.gap f) in
    let p : Spelt t.word bytes rest (calm s l t.gap f) = spelt t.word line.behind_text rest s l t.gap f h.0 h.2 h.3 in
    let e : b ≡ calm b.brackets b.last false b.fresh = stays_calm t.word line.behind_text s l t.gap f in
    let P : Before → Type 0 = λ x. AreShownFrom (past t.word line) x ts in
    let Q : Before → Type 0 = λ x. Read ((pre ++ white) ++ bytes) x rest ts in
    let after : Read ((pre ++ white) ++ bytes) b rest ts = subst Q (sym e) (shown_reads ts (past t.word line) ((pre ++ white) ++ bytes) b.brackets b.last b.fresh (subst P e h.4)) in
    led line.fresh t.gap (level t.word line) pre s l f (bytes ++ rest) (t ∷ ts) h.1 (solid_bytes t bytes rest rest (calm s l t.gap f) p) (read_word t (pre ++ white) s l f rest ts bytes p after)

unmarked : (source : List ℕ) → begins 239 source ≡ false → mark_len source ≡ 0
unfolding mark_len
unmarked [] h = refl
unmarked (c ∷ cs) h = let e : nat_eq 239 c ≡ false = ne_eqb 239 c (λ e. eqb-false c 239 h (sym e)) in rw e refl

pub text_law : TextLaw
text_law ts h =
    let r : Read [] start (text ts) ts = shown_reads ts first_line [] start.brackets start.last true h in
    let m : mark_len (text ts) ≡ 0 = unmarked (text ts) r.unmarked in
    let P : ℕ → Type 0 = λ n. bytes_of r.pieces clean ≡ drop n (text ts) in
    let Q : ℕ → Type 0 = λ n. AreAlike (map (terminal_of (text ts)) (tokens_of n start r.pieces)) ts in
    record {
      tokens = tokens_of (mark_len (text ts)) start r.pieces;
      lexes = record { pieces = r.pieces; cut = r.cut; spells = subst P (sym m) r.spells; tells = refl };
      alike = subst Q (sym m) r.alike;
    }
