-- The tokens of a source are ranges of it, with bytes of their kinds.
use Rattle.std.proofs.Common.{◌≡◌, ◌∙◌, ℕ, ◌+◌, ◌-◌, ◌<◌, ◌≤◌, Bool, true, false, ◌&&◌, ◌||◌, if◌then◌else◌, List, [], ◌∷◌, ◌++◌, length, drop, take, refl, ap, sym, subst, arith, append_assoc, nat_eq, Some, None}
use Rattle.std.specs.List.{All, AllByRecursion, starts_with}
use Rattle.std.proofs.lemmas.List.{take-append-drop, length-append, length-take-le}
use Rattle.std.proofs.lemmas.List.Elements.{All-from_recursion}
use Rattle.std.proofs.Math.Seq.{take-append_seam, drop-append_seam}
use Rattle.pl_lex.specs.declared.bytes.Class.{Class}
use Rattle.pl_lex.specs.declared.bytes.Class.TheVariants.{Letter, Digit, Underscore, Blank, LineFeed, Return, Percent, Single, Double, Dot, Equal, Compare, Twice, Scale, Paren, Square, Brace, Close, Plain, Other}
use Rattle.pl_lex.specs.declared.state.Part.{Part}
use Rattle.pl_lex.specs.declared.state.Part.TheVariants as part
use Rattle.pl_lex.specs.declared.state.Before.{Before}
use Rattle.pl_lex.specs.declared.token.Token.{Token}
use Rattle.pl_lex.specs.declared.token.Kind.TheVariants as kind
use Rattle.pl_lex.specs.Bytes.{class_of, digit_class}
use Rattle.pl_lex.specs.State.{start, in_block, behind}
use Rattle.pl_lex.specs.Pieces.{Piece, Ending, clean, bytes_of, opens, IsBreak, IsLongest, FitsOutside, FitsInside, FitsBy, Cut}
use Rattle.pl_lex.specs.Tokens.{kind_of, token_of, tokens_of, mark_len, Lexes, quote_class, IsTextOf, IsTokenOf}

quote_opens : (k : Class) (b : Before) → opens k b ≡ true → quote_class k ≡ true
quote_opens Single b h = refl
quote_opens Double b h = refl
quote_opens Letter b h = cc
quote_opens Digit b h = cc
quote_opens Underscore b h = cc
quote_opens Blank b h = cc
quote_opens LineFeed b h = cc
quote_opens Return b h = cc
quote_opens Percent b h = cc
quote_opens Dot b h = cc
quote_opens Equal b h = cc
quote_opens Compare b h = cc
quote_opens Twice b h = cc
quote_opens Scale b h = cc
quote_opens Paren b h = cc
quote_opens Square b h = cc
quote_opens Brace b h = cc
quote_opens Close b h = cc
quote_opens Plain b h = cc
quote_opens Other b h = cc

short_break : (k : Class) (c : ℕ) (cs : List ℕ) → IsBreak k cs → length (c ∷ cs) ≤ 2
short_break k c [] h = omega arith
short_break k c (d ∷ []) h = omega arith
short_break k c (d ∷ e ∷ cs) h = absurd h

short_sign : (k : Class) (c : ℕ) (cs rest : List ℕ) → IsLongest k c cs rest → length (c ∷ cs) ≤ 2
short_sign k c [] rest h = omega arith
short_sign k c (d ∷ []) rest h = omega arith
short_sign k c (d ∷ e ∷ cs) rest h = absurd h

-- the token from one place to another is one of the source, where its bytes are of its kind
record Range (source : List ℕ) (from to : ℕ) (bytes : List ℕ) : Type 0 where
  filled : from < to
  within : to ≤ length source
  reads : take (to - from) (drop from source) ≡ bytes

one_token : (source : List ℕ) (t : Token) (bytes : List ℕ) → Range source t.from t.to bytes → IsTextOf t.kind bytes → AllByRecursion (IsTokenOf source) (t ∷ [])
one_token source t bytes r h = let P : List ℕ → Type 0 = λ xs. IsTextOf t.kind xs in (record { filled = r.filled; within = r.within; bytes = subst P (sym r.reads) h }, tt)

line_token : (source : List ℕ) (from to : ℕ) (c : ℕ) (cs : List ℕ) (b : Before) → IsBreak (class_of c) cs → Range source from to (c ∷ cs)
    → AllByRecursion (IsTokenOf source) (token_of (kind_of part.LineEnd b) from to b)
line_token source from to c cs b h r =
    elim (in_block b || b.joined) as (λ v. AllByRecursion (IsTokenOf source) (token_of (if v then None else Some kind.LineEnd) from to b))
    [ true ↦ tt | false ↦ one_token source (record { kind = kind.LineEnd; from = from; to = to; gap = b.gap }) (c ∷ cs) r (short_break (class_of c) c cs h) ]

outside_tokens : (p : Part) (source : List ℕ) (from to : ℕ) (c : ℕ) (cs : List ℕ) (b : Before) (rest : List ℕ) → FitsOutside p (class_of c) c cs b rest → Range source from to (c ∷ cs)
    → AllByRecursion (IsTokenOf source) (token_of (kind_of p b) from to b)
outside_tokens part.Blank source from to c cs b rest h r = tt
outside_tokens part.Continued source from to c cs b rest h r = tt
outside_tokens part.Comment source from to c cs b rest h r = tt
outside_tokens part.BlockStart source from to c cs b rest h r = tt
outside_tokens part.BlockEnd source from to c cs b rest h r = tt
outside_tokens part.LineEnd source from to c cs b rest h r = line_token source from to c cs b h r
outside_tokens part.Name source from to c cs b rest h r = one_token source (record { kind = kind.Name; from = from; to = to; gap = b.gap }) (c ∷ cs) r (h.0, h.1, h.3)
outside_tokens part.Keyword source from to c cs b rest h r = one_token source (record { kind = kind.Keyword; from = from; to = to; gap = b.gap }) (c ∷ cs) r h.3
outside_tokens part.Literal source from to c cs b rest h r = one_token source (record { kind = kind.Literal; from = from; to = to; gap = b.gap }) (c ∷ cs) r ((ap digit_class h.0, h.1), h.3)
outside_tokens part.Chars source from to c cs b rest h r = one_token source (record { kind = kind.Chars; from = from; to = to; gap = b.gap }) (c ∷ cs) r (quote_opens (class_of c) b h.0, h.1)
outside_tokens part.Sign source from to c cs b rest h r = one_token source (record { kind = kind.Sign; from = from; to = to; gap = b.gap }) (c ∷ cs) r (short_sign (class_of c) c cs rest h.2)

inside_tokens : (p : Part) (source : List ℕ) (from to : ℕ) (c : ℕ) (cs : List ℕ) (b : Before) (rest : List ℕ) → FitsInside p (class_of c) cs b rest → Range source from to (c ∷ cs)
    → AllByRecursion (IsTokenOf source) (token_of (kind_of p b) from to b)
inside_tokens part.Blank source from to c cs b rest h r = tt
inside_tokens part.Continued source from to c cs b rest h r = tt
inside_tokens part.Comment source from to c cs b rest h r = tt
inside_tokens part.BlockStart source from to c cs b rest h r = tt
inside_tokens part.BlockEnd source from to c cs b rest h r = tt
inside_tokens part.LineEnd source from to c cs b rest h r = line_token source from to c cs b h r
inside_tokens part.Name source from to c cs b rest h r = absurd h
inside_tokens part.Keyword source from to c cs b rest h r = absurd h
inside_tokens part.Literal source from to c cs b rest h r = absurd h
inside_tokens part.Chars source from to c cs b rest h r = absurd h
inside_tokens part.Sign source from to c cs b rest h r = absurd h

piece_tokens : (v : Bool) (p : Part) (source : List ℕ) (from to : ℕ) (c : ℕ) (cs : List ℕ) (b : Before) (rest : List ℕ) → FitsBy v p (class_of c) c cs b rest → Range source from to (c ∷ cs)
    → AllByRecursion (IsTokenOf source) (token_of (kind_of p b) from to b)
piece_tokens true p source from to c cs b rest h r = inside_tokens p source from to c cs b rest h r
piece_tokens false p source from to c cs b rest h r = outside_tokens p source from to c cs b rest h r

both : (P : Token → Type 0) (xs ys : List Token) → AllByRecursion P xs → AllByRecursion P ys → AllByRecursion P (xs ++ ys)
both P [] ys h k = k
both P (x ∷ xs) ys h k = (h.0, both P xs ys h.1 k)

-- the bytes of a piece are where they stand
piece_range : (pre : List ℕ) (c : ℕ) (cs rest : List ℕ) → Range (pre ++ (c ∷ cs ++ rest)) (length pre) (length pre + 1 + length cs) (c ∷ cs)
piece_range pre c cs rest =
    let n : length pre + 1 + length cs - length pre ≡ length (c ∷ cs) = omega arith in
    let d : drop (length pre) (pre ++ (c ∷ cs ++ rest)) ≡ c ∷ cs ++ rest = drop-append_seam pre (c ∷ cs ++ rest) in
    record {
      filled = omega arith;
      within = omega (arith, length-append pre (c ∷ cs ++ rest), length-append (c ∷ cs) rest);
      reads = rw (n, d) (take-append_seam (c ∷ cs) rest);
    }

-- the tokens of a cut behind some bytes
cut_tokens : (pre : List ℕ) (b : Before) (ps : List Piece) (e : Ending) → Cut b ps e → AllByRecursion (IsTokenOf (pre ++ bytes_of ps e)) (tokens_of (length pre) b ps)
cut_tokens pre b [] e h = tt
cut_tokens pre b (p ∷ ps) e h =
    let rest : List ℕ = bytes_of ps e in
    let source : List ℕ = pre ++ (p.first ∷ p.others ++ rest) in
    let b' : Before = behind p.part (p.first ∷ p.others) b in
    let here = piece_tokens (in_block b) p.part source (length pre) (length pre + 1 + length p.others) p.first p.others b rest h.0 (piece_range pre p.first p.others rest) in
    let n : length (pre ++ (p.first ∷ p.others)) ≡ length pre + 1 + length p.others = omega (arith, length-append pre (p.first ∷ p.others)) in
    let ih = cut_tokens (pre ++ (p.first ∷ p.others)) b' ps e h.1 in
    let P : List ℕ → Type 0 = λ xs. AllByRecursion (IsTokenOf xs) (tokens_of (length (pre ++ (p.first ∷ p.others))) b' ps) in
    let Q : ℕ → Type 0 = λ m. AllByRecursion (IsTokenOf source) (tokens_of m b' ps) in
    both (IsTokenOf source) (token_of (kind_of p.part b) (length pre) (length pre + 1 + length p.others) b) (tokens_of (length pre + 1 + length p.others) b' ps) here
    (subst Q n (subst P (append_assoc pre (p.first ∷ p.others) rest) ih))

-- ---- the mark

never_and : (u : Bool) → (u && false) ≡ true → ⊥
never_and true h = cc
never_and false h = cc

never_and_and : (u v : Bool) → (u && (v && false)) ≡ true → ⊥
never_and_and true v h = never_and v h
never_and_and false v h = cc

long_enough : (source : List ℕ) → starts_with nat_eq source (239 ∷ 187 ∷ 191 ∷ []) ≡ true → 3 ≤ length source
long_enough [] h = cc
long_enough (a ∷ []) h = absurd (never_and (nat_eq 239 a) h)
long_enough (a ∷ b ∷ []) h = absurd (never_and_and (nat_eq 239 a) (nat_eq 187 b) h)
long_enough (a ∷ b ∷ c ∷ rest) h = omega arith

pub mark_len-le : (source : List ℕ) → mark_len source ≤ length source
unfolding mark_len
mark_len-le source =
    elim (starts_with nat_eq source (239 ∷ 187 ∷ 191 ∷ [])) as (λ v. starts_with nat_eq source (239 ∷ 187 ∷ 191 ∷ []) ≡ v → (if v then 3 else 0) ≤ length source)
    [ true ↦ λ h. long_enough source h | false ↦ λ h. omega arith ] refl

-- ---- the law

pub token_ranges : (source : List ℕ) (tokens : List Token) → Lexes source tokens → All (IsTokenOf source) tokens
token_ranges source tokens l =
    let pre : List ℕ = take (mark_len source) source in
    let n : length pre ≡ mark_len source = length-take-le (mark_len source) source (mark_len-le source) in
    let whole : pre ++ bytes_of l.pieces clean ≡ source = ap (λ xs. pre ++ xs) l.spells ∙ take-append-drop (mark_len source) source in
    let P : List ℕ → Type 0 = λ xs. AllByRecursion (IsTokenOf xs) (tokens_of (length pre) start l.pieces) in
    let Q : ℕ → Type 0 = λ m. AllByRecursion (IsTokenOf source) (tokens_of m start l.pieces) in
    let R : List Token → Type 0 = λ ts. AllByRecursion (IsTokenOf source) ts in
    All-from_recursion (IsTokenOf source) tokens (subst R l.tells (subst Q n (subst P whole (cut_tokens pre start l.pieces clean l.cut))))
