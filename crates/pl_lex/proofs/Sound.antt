-- What is found fits: whatever the scan finds at the front of a text is a piece that fits there, or a fault.
use Rattle.std.proofs.Common.{◌≡◌, ℕ, ◌+◌, ◌≤◌, Bool, true, false, not, ◌&&◌, if◌then◌else◌, cond, List, [], ◌∷◌, ◌++◌, length, drop, take, Option, Some, None, Result, Ok, Err, refl, ap, sym, subst, arith, one-add}
use Rattle.std.specs.Prelude.{◌==◌}
use Rattle.std.specs.List.{prefix_len}
use Rattle.std.proofs.lemmas.Bool.{eqb-true}
use Rattle.std.proofs.lemmas.List.{take-append-drop}
use Rattle.std.proofs.lemmas.List.Sums.{prefix_len-le-length}
use Rattle.pl_lex.specs.declared.bytes.Class.{Class}
use Rattle.pl_lex.specs.declared.bytes.Class.TheVariants.{Letter, Digit, Underscore, Blank, LineFeed, Return, Percent, Single, Double, Dot, Equal, Compare, Twice, Scale, Paren, Square, Brace, Close, Plain, Other}
use Rattle.pl_lex.specs.declared.state.Part.TheVariants as part
use Rattle.pl_lex.specs.declared.state.Before.{Before}
use Rattle.pl_lex.specs.declared.scan.Found.{Found}
use Rattle.pl_lex.specs.declared.token.LexKind.{LexKind}
use Rattle.pl_lex.specs.declared.token.LexKind.TheVariants as kind
use Rattle.pl_lex.specs.Bytes.{class_of, is_part, is_digit, is_blank, begins, at_line_end, to_line_end, is_alone, Each, Stops, FillsLine}
use Rattle.pl_lex.specs.Keywords.{is_keyword}
use Rattle.pl_lex.specs.State.{in_block, opens_text}
use Rattle.pl_lex.specs.Pieces.{plain, doubled, IsClosed, IsOpen, HasDigits, in_range, is_whole, joins, continues, begins_sign, opens, marks, remarks, FitsOutside, FitsInside, FitsBy, Refuses}
use Rattle.pl_lex.specs.Scan.{found, blank, to_end, word, literal, more, text_len, text_of, quoted, sign, dotted, percent, outside, inside, head}

-- ---- lengths

Each-prefix : (p : ℕ → Bool) (xs : List ℕ) → Each p (take (prefix_len p xs) xs)
Each-prefix p [] = tt
Each-prefix p (x ∷ xs) =
    elim (p x) as (λ v. p x ≡ v → Each p (take (cond v (1 + prefix_len p xs) 0) (x ∷ xs)))
    [ true ↦ λ e. rw one-add (e, Each-prefix p xs) | false ↦ λ e. tt ] refl

Stops-prefix : (p : ℕ → Bool) (xs : List ℕ) → Stops p (drop (prefix_len p xs) xs)
Stops-prefix p [] = tt
Stops-prefix p (x ∷ xs) =
    elim (p x) as (λ v. p x ≡ v → Stops p (drop (cond v (1 + prefix_len p xs) 0) (x ∷ xs)))
    [ true ↦ λ e. rw one-add (Stops-prefix p xs) | false ↦ λ e. e ] refl

FillsLine-front : (xs : List ℕ) → FillsLine (take (to_line_end xs) xs) (drop (to_line_end xs) xs)
FillsLine-front [] = refl
FillsLine-front (c ∷ cs) =
    elim (at_line_end (c ∷ cs)) as (λ v. at_line_end (c ∷ cs) ≡ v → FillsLine (take (if v then 0 else 1 + to_line_end cs) (c ∷ cs)) (drop (if v then 0 else 1 + to_line_end cs) (c ∷ cs))) [
      | true ↦ λ e. e
      | false ↦ λ e.
          let P : List ℕ → Type 0 = λ xs. at_line_end (c ∷ xs) ≡ false in
          let k : at_line_end (c ∷ (take (to_line_end cs) cs ++ drop (to_line_end cs) cs)) ≡ false = subst P (sym (take-append-drop (to_line_end cs) cs)) e in
          rw one-add (k, FillsLine-front cs)
    ] refl

to_line_end-le : (xs : List ℕ) → to_line_end xs ≤ length xs
to_line_end-le [] = omega arith
to_line_end-le (c ∷ cs) =
    elim (at_line_end (c ∷ cs)) as (λ v. (if v then 0 else 1 + to_line_end cs) ≤ length (c ∷ cs)) [ true ↦ omega arith | false ↦ omega (arith, to_line_end-le cs) ]

-- ---- texts

-- how far a text goes is right, behind a first quote
abbrev TextSound : ℕ → List ℕ → Option ℕ → Type 0
TextSound q xs None = IsOpen q xs
TextSound q xs (Some n) = (n ≤ length xs) × IsClosed q (take n xs) × (begins q (drop n xs) ≡ false)

-- the same where the first byte is the second of two quotes
abbrev TwiceSound : ℕ → List ℕ → Option ℕ → Type 0
TwiceSound q [] r = Unit {0}
TwiceSound q (d ∷ ds) r = (n : Option ℕ) × ((r ≡ more n) × TextSound q ds n)

plain_sound : (q c : ℕ) (cs : List ℕ) (r : Option ℕ) → (c == q) ≡ false → (c == 10) ≡ false → TextSound q cs r → TextSound q (c ∷ cs) (more r)
plain_sound q c cs None e f h = record { inner = plain c ∷ h.inner; rest = h.rest; inside = (e, f, h.inside); ends = h.ends; spells = ap (λ xs. c ∷ xs) h.spells }
plain_sound q c cs (Some n) e f h =
    rw one-add (omega (arith, h.0), record { inner = plain c ∷ h.1.inner; inside = (e, f, h.1.inside); spells = ap (λ xs. c ∷ xs) h.1.spells }, h.2)

two_sound : (q : ℕ) (ds : List ℕ) (n : Option ℕ) → TextSound q ds n → TextSound q (q ∷ q ∷ ds) (more (more n))
two_sound q ds None h = record { inner = doubled ∷ h.inner; rest = h.rest; inside = h.inside; ends = h.ends; spells = ap (λ xs. q ∷ q ∷ xs) h.spells }
two_sound q ds (Some n) h =
    rw (one-add, one-add) (omega (arith, h.0), record { inner = doubled ∷ h.1.inner; inside = h.1.inside; spells = ap (λ xs. q ∷ q ∷ xs) h.1.spells }, h.2)

doubled_sound : (q : ℕ) (cs : List ℕ) (r : Option ℕ) → begins q cs ≡ true → TwiceSound q cs r → TextSound q (q ∷ cs) (more r)
doubled_sound q [] r k h = cc
doubled_sound q (d ∷ ds) r k h = let e : d ≡ q = eqb-true d q k in rw (e, h.1.0) (two_sound q ds h.0 h.1.1)

closing_sound : (q : ℕ) (cs : List ℕ) → begins q cs ≡ false → TextSound q (q ∷ cs) (Some 1)
closing_sound q [] k = (omega arith, record { inner = []; inside = tt; spells = refl }, k)
closing_sound q (d ∷ ds) k = (omega arith, record { inner = []; inside = tt; spells = refl }, k)

quote_sound : (q : ℕ) (cs : List ℕ) → TwiceSound q cs (text_len q true cs) → TextSound q (q ∷ cs) (if begins q cs then more (text_len q true cs) else Some 1)
quote_sound q cs h =
    elim (begins q cs) as (λ v. begins q cs ≡ v → TextSound q (q ∷ cs) (if v then more (text_len q true cs) else Some 1))
    [ true ↦ λ k. doubled_sound q cs (text_len q true cs) k h | false ↦ λ k. closing_sound q cs k ] refl

other_sound : (q c : ℕ) (cs : List ℕ) → (c == q) ≡ false → TextSound q cs (text_len q false cs) → TextSound q (c ∷ cs) (if c == 10 then None else more (text_len q false cs))
other_sound q c cs e h =
    elim (c == 10) as (λ v. (c == 10) ≡ v → TextSound q (c ∷ cs) (if v then None else more (text_len q false cs)))
    [ true ↦ λ f. record { inner = []; rest = c ∷ cs; inside = tt; ends = f; spells = refl } | false ↦ λ f. plain_sound q c cs (text_len q false cs) e f h ] refl

text_sound : (q : ℕ) (xs : List ℕ) → TextSound q xs (text_len q false xs) × TwiceSound q xs (text_len q true xs)
text_sound q [] = (record { inner = []; rest = []; inside = tt; ends = refl; spells = refl }, tt)
text_sound q (c ∷ cs) =
    let ih = text_sound q cs in
    let here : TextSound q (c ∷ cs) (text_len q false (c ∷ cs)) =
    elim (c == q) as (λ v. (c == q) ≡ v → TextSound q (c ∷ cs) (if v then (if begins q cs then more (text_len q true cs) else Some 1) else (if c == 10 then None else more (text_len q false cs))))
    [ true ↦ λ e. let same : c ≡ q = eqb-true c q e in rw same (quote_sound q cs ih.1) | false ↦ λ e. other_sound q c cs e ih.0 ] refl in
    (here, (text_len q false cs, (refl, ih.0)))

-- ---- what is found outside block comments

-- the piece, or the fault, is one of the grammar
abbrev pub OutsideSound : Class → ℕ → List ℕ → Before → Result Found LexKind → Type 0
OutsideSound k c cs b (Ok f) = (f.more ≤ length cs) × FitsOutside f.part k c (take f.more cs) b (drop f.more cs)
OutsideSound k c cs b (Err e) = Refuses e k c cs b

blank_sound : (c : ℕ) (cs : List ℕ) (b : Before) → OutsideSound Blank c cs b (Ok (blank (c ∷ cs)))
blank_sound c cs b = (prefix_len-le-length is_blank cs, (refl, Each-prefix is_blank cs, Stops-prefix is_blank cs))

word_sound : (c : ℕ) (cs : List ℕ) (b : Before) → OutsideSound Letter c cs b (Ok (word (c ∷ cs)))
unfolding word
word_sound c cs b =
    elim (is_keyword (c ∷ take (prefix_len is_part cs) cs)) as (λ v. is_keyword (c ∷ take (prefix_len is_part cs) cs) ≡ v → OutsideSound Letter c cs b (Ok (found (if v then part.Keyword else part.Name) (prefix_len is_part cs)))) [
      | true ↦ λ e. (prefix_len-le-length is_part cs, (refl, Each-prefix is_part cs, Stops-prefix is_part cs, e))
      | false ↦ λ e. (prefix_len-le-length is_part cs, (refl, Each-prefix is_part cs, Stops-prefix is_part cs, e))
    ] refl

abbrev some_digits : (cs : List ℕ) → HasDigits cs
some_digits cs = record { digits = take (prefix_len is_digit cs) cs; rest = drop (prefix_len is_digit cs) cs; each = Each-prefix is_digit cs; stops = Stops-prefix is_digit cs; spells = sym (take-append-drop (prefix_len is_digit cs) cs) }

whole_sound : (c : ℕ) (cs : List ℕ) (b : Before) → in_range (c ∷ take (prefix_len is_digit cs) cs) ≡ true
    → OutsideSound Digit c cs b (if is_whole (drop (prefix_len is_digit cs) cs) then Ok (found part.Literal (prefix_len is_digit cs)) else Err kind.NotWhole)
whole_sound c cs b r =
    elim (is_whole (drop (prefix_len is_digit cs) cs)) as (λ v. is_whole (drop (prefix_len is_digit cs) cs) ≡ v → OutsideSound Digit c cs b (if v then Ok (found part.Literal (prefix_len is_digit cs)) else Err kind.NotWhole)) [
      | true ↦ λ e. (prefix_len-le-length is_digit cs, (refl, Each-prefix is_digit cs, Stops-prefix is_digit cs, r, e))
      | false ↦ λ e. (refl, (some_digits cs, (r, e)))
    ] refl

literal_sound : (c : ℕ) (cs : List ℕ) (b : Before) → OutsideSound Digit c cs b (literal (c ∷ cs))
unfolding literal
literal_sound c cs b =
    elim (in_range (c ∷ take (prefix_len is_digit cs) cs)) as (λ v. in_range (c ∷ take (prefix_len is_digit cs) cs) ≡ v → OutsideSound Digit c cs b (if v then (if is_whole (drop (prefix_len is_digit cs) cs) then Ok (found part.Literal (prefix_len is_digit cs)) else Err kind.NotWhole) else Err kind.LiteralRange))
    [ true ↦ λ e. whole_sound c cs b e | false ↦ λ e. (refl, (some_digits cs, e)) ] refl

text_of_sound : (k : Class) (c : ℕ) (cs : List ℕ) (b : Before) (r : Option ℕ) → opens k b ≡ true → TextSound c cs r → OutsideSound k c cs b (text_of r)
text_of_sound k c cs b None o h = (o, h)
text_of_sound k c cs b (Some n) o h = (h.0, (o, h.1, h.2))

quoted_sound : (k : Class) (c : ℕ) (cs : List ℕ) (b : Before) → opens k b ≡ true → OutsideSound k c cs b (quoted (c ∷ cs))
unfolding quoted
quoted_sound k c cs b o = text_of_sound k c cs b (text_len c false cs) o (text_sound c cs).0

joins-nil : (k : Class) (c : ℕ) → joins k c [] ≡ false
joins-nil Dot c = refl
joins-nil Equal c = refl
joins-nil Compare c = refl
joins-nil Twice c = refl
joins-nil Letter c = refl
joins-nil Digit c = refl
joins-nil Underscore c = refl
joins-nil Blank c = refl
joins-nil LineFeed c = refl
joins-nil Return c = refl
joins-nil Percent c = refl
joins-nil Single c = refl
joins-nil Double c = refl
joins-nil Scale c = refl
joins-nil Paren c = refl
joins-nil Square c = refl
joins-nil Brace c = refl
joins-nil Close c = refl
joins-nil Plain c = refl
joins-nil Other c = refl

sign_sound : (k : Class) (c : ℕ) (cs : List ℕ) (b : Before) → begins_sign k b ≡ true → continues k cs ≡ false → OutsideSound k c cs b (Ok (sign k (c ∷ cs)))
unfolding sign
sign_sound k c [] b h n = let j : joins k c [] ≡ false = joins-nil k c in rw j (omega arith, (h, n, j))
sign_sound k c (d ∷ ds) b h n =
    elim (joins k c (d ∷ ds)) as (λ v. joins k c (d ∷ ds) ≡ v → OutsideSound k c (d ∷ ds) b (Ok (found part.Sign (if v then 1 else 0))))
    [ true ↦ λ e. (omega arith, (h, n, e)) | false ↦ λ e. (omega arith, (h, n, e)) ] refl

dotted_sound : (c : ℕ) (cs : List ℕ) (b : Before) → OutsideSound Dot c cs b (Ok (dotted (c ∷ cs)))
unfolding dotted
dotted_sound c cs b =
    elim (continues Dot cs) as (λ v. continues Dot cs ≡ v → OutsideSound Dot c cs b (Ok (if v then to_end part.Continued (c ∷ cs) else sign Dot (c ∷ cs)))) [
      | true ↦ λ e.
          let P : List ℕ → Type 0 = λ xs. continues Dot xs ≡ true in
          (to_line_end-le cs, (subst P (sym (take-append-drop (to_line_end cs) cs)) e, FillsLine-front cs))
      | false ↦ λ e. sign_sound Dot c cs b refl e
    ] refl

and_second : (u v w : Bool) → (u && (v && w)) ≡ true → v ≡ true
and_second true true w h = refl
and_second true false w h = h
and_second false v w h = cc

-- a mark has its second byte
mark_second : (m : ℕ) (b : Before) (cs : List ℕ) → marks m b cs ≡ true → begins m cs ≡ true
mark_second m b cs h = and_second b.fresh (begins m cs) (is_alone (drop 1 cs)) h

abbrev StartSound : ℕ → List ℕ → Before → Type 0
StartSound c cs b = (1 ≤ length cs) × ((Percent ≡ Percent) × (take 1 cs ≡ 123 ∷ []) × (marks 123 b (123 ∷ drop 1 cs) ≡ true))

start_sound : (c : ℕ) (cs : List ℕ) (b : Before) → marks 123 b cs ≡ true → StartSound c cs b
start_sound c [] b h = let k = mark_second 123 b [] h in cc
start_sound c (d ∷ ds) b h =
    let e : d ≡ 123 = eqb-true d 123 (mark_second 123 b (d ∷ ds) h) in
    (omega arith, (refl, ap (λ x. x ∷ []) e, rw e at h))

percent_sound : (c : ℕ) (cs : List ℕ) (b : Before) → OutsideSound Percent c cs b (Ok (percent b (c ∷ cs)))
unfolding percent
percent_sound c cs b =
    elim (marks 123 b cs) as (λ v. marks 123 b cs ≡ v → OutsideSound Percent c cs b (Ok (if v then found part.BlockStart 1 else to_end part.Comment (c ∷ cs)))) [
      | true ↦ λ e. start_sound c cs b e
      | false ↦ λ e.
          let P : List ℕ → Type 0 = λ xs. marks 123 b xs ≡ false in
          (to_line_end-le cs, (refl, subst P (sym (take-append-drop (to_line_end cs) cs)) e, FillsLine-front cs))
    ] refl

return_sound : (c : ℕ) (cs : List ℕ) (b : Before) → OutsideSound Return c cs b (if begins 10 cs then Ok (found part.LineEnd 1) else Err kind.BadByte)
return_sound c [] b = refl
return_sound c (d ∷ ds) b =
    elim (d == 10) as (λ v. (d == 10) ≡ v → OutsideSound Return c (d ∷ ds) b (if v then Ok (found part.LineEnd 1) else Err kind.BadByte))
    [ true ↦ λ e. (omega arith, (refl, eqb-true d 10 e)) | false ↦ λ e. ap not e ] refl

single_sound : (c : ℕ) (cs : List ℕ) (b : Before) → OutsideSound Single c cs b (if opens_text b then quoted (c ∷ cs) else Ok (sign Single (c ∷ cs)))
single_sound c cs b =
    elim (opens_text b) as (λ v. opens_text b ≡ v → OutsideSound Single c cs b (if v then quoted (c ∷ cs) else Ok (sign Single (c ∷ cs))))
    [ true ↦ λ e. quoted_sound Single c cs b e | false ↦ λ e. sign_sound Single c cs b (ap not e) refl ] refl

outside_sound : (k : Class) (c : ℕ) (cs : List ℕ) (b : Before) → OutsideSound k c cs b (outside k b (c ∷ cs))
unfolding outside
outside_sound Letter c cs b = word_sound c cs b
outside_sound Digit c cs b = literal_sound c cs b
outside_sound Underscore c cs b = refl
outside_sound Blank c cs b = blank_sound c cs b
outside_sound LineFeed c [] b = (omega arith, refl)
outside_sound LineFeed c (d ∷ ds) b = (omega arith, refl)
outside_sound Return c cs b = return_sound c cs b
outside_sound Percent c cs b = percent_sound c cs b
outside_sound Single c cs b = single_sound c cs b
outside_sound Double c cs b = quoted_sound Double c cs b refl
outside_sound Dot c cs b = dotted_sound c cs b
outside_sound Equal c cs b = sign_sound Equal c cs b refl refl
outside_sound Compare c cs b = sign_sound Compare c cs b refl refl
outside_sound Twice c cs b = sign_sound Twice c cs b refl refl
outside_sound Scale c cs b = sign_sound Scale c cs b refl refl
outside_sound Paren c cs b = sign_sound Paren c cs b refl refl
outside_sound Square c cs b = sign_sound Square c cs b refl refl
outside_sound Brace c cs b = sign_sound Brace c cs b refl refl
outside_sound Close c cs b = sign_sound Close c cs b refl refl
outside_sound Plain c cs b = sign_sound Plain c cs b refl refl
outside_sound Other c cs b = refl

-- ---- what is found inside

abbrev pub InsideSound : Class → ℕ → List ℕ → Before → Found → Type 0
InsideSound k c cs b f = (f.more ≤ length cs) × FitsInside f.part k (take f.more cs) b (drop f.more cs)

remark_sound : (k : Class) (c : ℕ) (cs : List ℕ) (b : Before) → remarks k b cs ≡ true → InsideSound k c cs b (to_end part.Comment (c ∷ cs))
remark_sound k c cs b h =
    let P : List ℕ → Type 0 = λ xs. remarks k b xs ≡ true in
    (to_line_end-le cs, (subst P (sym (take-append-drop (to_line_end cs) cs)) h, FillsLine-front cs))

inner_return_sound : (c : ℕ) (cs : List ℕ) (b : Before) → InsideSound Return c cs b (if begins 10 cs then found part.LineEnd 1 else to_end part.Comment (c ∷ cs))
inner_return_sound c [] b = remark_sound Return c [] b refl
inner_return_sound c (d ∷ ds) b =
    elim (d == 10) as (λ v. (d == 10) ≡ v → InsideSound Return c (d ∷ ds) b (if v then found part.LineEnd 1 else to_end part.Comment (c ∷ d ∷ ds)))
    [ true ↦ λ e. (omega arith, (refl, eqb-true d 10 e)) | false ↦ λ e. remark_sound Return c (d ∷ ds) b (ap not e) ] refl

inner_comment_sound : (c : ℕ) (cs : List ℕ) (b : Before) → marks 125 b cs ≡ false → InsideSound Percent c cs b (percent b (c ∷ cs))
unfolding percent
inner_comment_sound c cs b h =
    elim (marks 123 b cs) as (λ v. marks 123 b cs ≡ v → InsideSound Percent c cs b (if v then found part.BlockStart 1 else to_end part.Comment (c ∷ cs))) [
      | true ↦ λ e. start_sound c cs b e
      | false ↦ λ e. remark_sound Percent c cs b (rw (e, h) refl)
    ] refl

end_sound : (c : ℕ) (cs : List ℕ) (b : Before) → marks 125 b cs ≡ true → InsideSound Percent c cs b (found part.BlockEnd 1)
end_sound c [] b h = let k = mark_second 125 b [] h in cc
end_sound c (d ∷ ds) b h =
    let e : d ≡ 125 = eqb-true d 125 (mark_second 125 b (d ∷ ds) h) in
    (omega arith, (refl, ap (λ x. x ∷ []) e, rw e at h))

inner_percent_sound : (c : ℕ) (cs : List ℕ) (b : Before) → InsideSound Percent c cs b (if marks 125 b cs then found part.BlockEnd 1 else percent b (c ∷ cs))
inner_percent_sound c cs b =
    elim (marks 125 b cs) as (λ v. marks 125 b cs ≡ v → InsideSound Percent c cs b (if v then found part.BlockEnd 1 else percent b (c ∷ cs)))
    [ true ↦ λ e. end_sound c cs b e | false ↦ λ e. inner_comment_sound c cs b e ] refl

inside_sound : (k : Class) (c : ℕ) (cs : List ℕ) (b : Before) → InsideSound k c cs b (inside k b (c ∷ cs))
unfolding inside
inside_sound Blank c cs b = (prefix_len-le-length is_blank cs, (refl, Each-prefix is_blank cs, Stops-prefix is_blank cs))
inside_sound LineFeed c [] b = (omega arith, refl)
inside_sound LineFeed c (d ∷ ds) b = (omega arith, refl)
inside_sound Return c cs b = inner_return_sound c cs b
inside_sound Percent c cs b = inner_percent_sound c cs b
inside_sound Letter c cs b = remark_sound Letter c cs b refl
inside_sound Digit c cs b = remark_sound Digit c cs b refl
inside_sound Underscore c cs b = remark_sound Underscore c cs b refl
inside_sound Single c cs b = remark_sound Single c cs b refl
inside_sound Double c cs b = remark_sound Double c cs b refl
inside_sound Dot c cs b = remark_sound Dot c cs b refl
inside_sound Equal c cs b = remark_sound Equal c cs b refl
inside_sound Compare c cs b = remark_sound Compare c cs b refl
inside_sound Twice c cs b = remark_sound Twice c cs b refl
inside_sound Scale c cs b = remark_sound Scale c cs b refl
inside_sound Paren c cs b = remark_sound Paren c cs b refl
inside_sound Square c cs b = remark_sound Square c cs b refl
inside_sound Brace c cs b = remark_sound Brace c cs b refl
inside_sound Close c cs b = remark_sound Close c cs b refl
inside_sound Plain c cs b = remark_sound Plain c cs b refl
inside_sound Other c cs b = remark_sound Other c cs b refl

-- ---- what is found

-- the piece fits, or the fault is one, where the first byte is c and cs are behind it; v: in a block comment
abbrev pub HeadSound : Bool → Class → ℕ → List ℕ → Before → Result Found LexKind → Type 0
HeadSound v k c cs b (Ok f) = (f.more ≤ length cs) × FitsBy v f.part k c (take f.more cs) b (drop f.more cs)
HeadSound v k c cs b (Err e) = (v ≡ false) × Refuses e k c cs b

outside_head : (k : Class) (c : ℕ) (cs : List ℕ) (b : Before) (r : Result Found LexKind) → OutsideSound k c cs b r → HeadSound false k c cs b r
outside_head k c cs b (Ok f) h = h
outside_head k c cs b (Err e) h = (refl, h)

head_by : (v : Bool) (k : Class) (c : ℕ) (cs : List ℕ) (b : Before) → HeadSound v k c cs b (if v then Ok (inside k b (c ∷ cs)) else outside k b (c ∷ cs))
head_by true k c cs b = inside_sound k c cs b
head_by false k c cs b = outside_head k c cs b (outside k b (c ∷ cs)) (outside_sound k c cs b)

-- the scan is right
pub head_sound : (c : ℕ) (cs : List ℕ) (b : Before) → HeadSound (in_block b) (class_of c) c cs b (head b (c ∷ cs))
unfolding head
head_sound c cs b = head_by (in_block b) (class_of c) c cs b
