-- Each terminal of a source has a word that can be written: a name, a literal in range, a text within its line.
use Rattle.std.proofs.Common.{◌≡◌, ℕ, ◌≤◌, Bool, true, false, not, List, [], ◌∷◌, map, ap, sym, subst, leb-true}
use Rattle.std.specs.Prelude.{◌==◌, if◌then◌else◌}
use Rattle.std.specs.List.{AllByRecursion}
use Rattle.std.proofs.lemmas.List.Elements.{recursion_from_All}
use Rattle.std.proofs.lemmas.Bool.{ne_eqb}
use Rattle.pl_grammar.specs.declared.terminal.Terminal.{Terminal}
use Rattle.pl_grammar.specs.declared.terminal.Word.{Word}
use Rattle.pl_lex.specs.declared.token.Token.{Token}
use Rattle.pl_lex.specs.declared.token.Kind.{Kind}
use Rattle.pl_lex.specs.declared.token.Kind.TheVariants as kind
use Rattle.pl_lex.specs.Bytes.{class_of, Each}
use Rattle.pl_lex.specs.Pieces.{Inner, plain, doubled, Inside, IsClosed, number_from}
use Rattle.pl_lex.specs.Tokens.{quote_class, IsLiteral, IsText, IsTextOf, IsTokenOf, Lexes}
use Rattle.pl_lex.proofs.Ranges.{token_ranges}
use Rattle.pl_terminals.specs.Signs.{bracket, lone, dotted, sign}
use Rattle.pl_terminals.specs.Terminals.{number, text, inner_bytes, word_of, terminal_of}
use Rattle.pl_terminals.proofs.Undone.{numbers, texts}
use Rattle.pl_layout.specs.Shown.{IsNumber, in_line, IsWord}

-- each has a word that can be written
abbrev pub AreWords : List Terminal → Type 0
AreWords [] = Unit {0}
AreWords (t ∷ ts) = IsWord t.word × AreWords ts

-- ---- literals and texts

number_is : (digits : List ℕ) → IsLiteral digits → IsNumber (number digits)
number_is [] h = absurd h
number_is (c ∷ cs) h =
    let k : number_from 0 (c ∷ cs) ≤ 9223372036854775807 = leb-true (number_from 0 (c ∷ cs)) 9223372036854775807 h.1 in
    subst IsNumber (sym (numbers (c ∷ cs) h.1)) k

quote_in_line : (q : ℕ) → quote_class (class_of q) ≡ true → in_line q ≡ true
unfolding class_of
quote_in_line q h = ap not (ne_eqb q 10 (λ e. let P : ℕ → Type 0 = λ x. quote_class (class_of x) ≡ true in let f : quote_class (class_of 10) ≡ true = subst P e h in cc))

inner_in_line : (q : ℕ) (inner : List Inner) → in_line q ≡ true → Inside q inner → Each in_line (inner_bytes q inner)
inner_in_line q [] k h = tt
inner_in_line q (plain c ∷ more) k h = (ap not h.1, inner_in_line q more k h.2)
inner_in_line q (doubled ∷ more) k h = (k, inner_in_line q more k h)

text_is : (bytes : List ℕ) → IsText bytes → Each in_line (text bytes)
text_is [] h = absurd h
text_is (q ∷ cs) h =
    let c : IsClosed q cs = h.1 in
    let P : List ℕ → Type 0 = λ xs. Each in_line (text (q ∷ xs)) in
    subst P (sym c.spells) (subst (Each in_line) (sym (texts q c.inner c.inside)) (inner_in_line q c.inner (quote_in_line q h.0) c.inside))

-- ---- signs

either : (b : Bool) (x y : Word) → IsWord x → IsWord y → IsWord (if b then x else y)
either true x y h k = h
either false x y h k = k

bracket_is : (c : ℕ) → IsWord (bracket c)
bracket_is c = either (c == 91) _ _ tt (either (c == 93) _ _ tt (either (c == 123) _ _ tt (either (c == 125) _ _ tt (either (c == 64) _ _ tt tt))))

lone_is : (c : ℕ) → IsWord (lone c)
lone_is c =
    either (c == 43) _ _ tt (either (c == 45) _ _ tt (either (c == 42) _ _ tt (either (c == 47) _ _ tt (either (c == 94) _ _ tt (either (c == 60) _ _ tt (either (c == 62) _ _ tt
    (either (c == 38) _ _ tt (either (c == 124) _ _ tt (either (c == 126) _ _ tt (either (c == 39) _ _ tt (either (c == 61) _ _ tt (either (c == 58) _ _ tt (either (c == 44) _ _ tt
    (either (c == 59) _ _ tt (either (c == 40) _ _ tt (either (c == 41) _ _ tt (bracket_is c)))))))))))))))))

dotted_is : (c : ℕ) → IsWord (dotted c)
dotted_is c = either (c == 42) _ _ tt (either (c == 47) _ _ tt (either (c == 94) _ _ tt tt))

sign_is : (bytes : List ℕ) → IsWord (sign bytes)
sign_is [] = tt
sign_is (c ∷ []) = lone_is c
sign_is (c ∷ d ∷ cs) = either (c == 46) _ _ (dotted_is d) (either (c == 60) _ _ tt (either (c == 62) _ _ tt (either (c == 61) _ _ tt (either (c == 126) _ _ tt (either (c == 38) _ _ tt tt)))))

-- ---- terminals

word_is : (k : Kind) (bytes : List ℕ) → IsTextOf k bytes → IsWord (word_of k bytes)
word_is kind.Name bytes h = h
word_is kind.Keyword bytes h = tt
word_is kind.Literal bytes h = number_is bytes h
word_is kind.Chars bytes h = text_is bytes h
word_is kind.Sign bytes h = sign_is bytes
word_is kind.LineEnd bytes h = tt

each_is : (source : List ℕ) (tokens : List Token) → AllByRecursion (IsTokenOf source) tokens → AreWords (map (terminal_of source) tokens)
each_is source [] h = tt
each_is source (t ∷ ts) h = (word_is t.kind _ h.0.bytes, each_is source ts h.1)

pub words_of_source : (source : List ℕ) (tokens : List Token) → Lexes source tokens → AreWords (map (terminal_of source) tokens)
words_of_source source tokens h = each_is source tokens (recursion_from_All (IsTokenOf source) tokens (token_ranges source tokens h))
