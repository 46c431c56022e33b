-- What fits is found: at the front of a text that begins with a piece that fits, the scan finds that piece.
use Rattle.std.proofs.Common.{◌≡◌, ◌∙◌, ℕ, Bool, true, false, not, ◌&&◌, ◌||◌, if◌then◌else◌, List, [], ◌∷◌, ◌++◌, length, Some, None, Ok, Err, refl, ap, arith, eq-eqb}
use Rattle.std.specs.Prelude.{◌==◌}
use Rattle.std.specs.List.{prefix_len}
use Rattle.std.proofs.lemmas.Bool.{ne_eqb, eqb-true}
use Rattle.std.proofs.Math.Seq.{take-append_seam, drop-append_seam}
use Rattle.pl_lex.specs.declared.bytes.Class.{Class}
use Rattle.pl_lex.specs.declared.bytes.Class.TheVariants.{Letter, Digit, Underscore, Blank, LineFeed, Return, Percent, Single, Double, Dot, Equal, Compare, Twice, Scale, Paren, Square, Brace, Close, Plain, Other}
use Rattle.pl_lex.specs.declared.state.Part.{Part}
use Rattle.pl_lex.specs.declared.state.Part.TheVariants as part
use Rattle.pl_lex.specs.declared.state.Before.{Before}
use Rattle.pl_lex.specs.declared.token.LexKind.{LexKind}
use Rattle.pl_lex.specs.declared.token.LexKind.TheVariants as kind
use Rattle.pl_lex.specs.Bytes.{class_of, is_part, is_digit, is_blank, begins, to_line_end, Each, Stops, FillsLine}
use Rattle.pl_lex.specs.Keywords.{is_keyword}
use Rattle.pl_lex.specs.State.{in_block, opens_text}
use Rattle.pl_lex.specs.Pieces.{Piece, fault, Inner, plain, doubled, spelled, Inside, IsClosed, IsOpen, HasDigits, at_feed, in_range, is_whole, joins, continues, begins_sign, IsLongest, opens, IsBreak, marks, remarks, is_bad, FitsOutside, FitsInside, FitsBy, Fits, Refuses, Ends}
use Rattle.pl_lex.specs.Scan.{found, word, literal, text_len, text_of, quoted, sign, dotted, percent, outside, inside, head}

-- ---- lengths

pub prefix_len-fits : (p : ℕ → Bool) (cs rest : List ℕ) → Each p cs → Stops p rest → prefix_len p (cs ++ rest) ≡ length cs
prefix_len-fits p [] [] e s = refl
prefix_len-fits p [] (c ∷ rest) e s = rw s refl
prefix_len-fits p (c ∷ cs) rest e s = rw e.0 (omega (arith, prefix_len-fits p cs rest e.1 s))

pub to_line_end-fits : (cs rest : List ℕ) → FillsLine cs rest → to_line_end (cs ++ rest) ≡ length cs
to_line_end-fits [] [] f = refl
to_line_end-fits [] (c ∷ rest) f = rw f refl
to_line_end-fits (c ∷ cs) rest f = rw f.0 (omega (arith, to_line_end-fits cs rest f.1))

same_byte : (q : ℕ) → (q == q) ≡ true
same_byte q = eq-eqb q q refl

pub text_len-closed : (q : ℕ) (inner : List Inner) (rest : List ℕ) → Inside q inner → begins q rest ≡ false
    → text_len q false (spelled q inner (q ∷ []) ++ rest) ≡ Some (length (spelled q inner (q ∷ [])))
text_len-closed q [] rest i s = rw (same_byte q, s) refl
text_len-closed q (plain c ∷ inner) rest i s = rw (i.0, i.1, text_len-closed q inner rest i.2 s) (ap Some (omega arith))
text_len-closed q (doubled ∷ inner) rest i s = simp (same_byte q, text_len-closed q inner rest i s) (ap Some (omega arith))

feed_first : (q c : ℕ) (rest : List ℕ) → c ≡ 10 → (10 == q) ≡ false → text_len q false (c ∷ rest) ≡ None
feed_first q c rest e n = rw (e, n) refl

pub text_len-open : (q : ℕ) (inner : List Inner) (rest : List ℕ) → Inside q inner → at_feed rest ≡ true → (10 == q) ≡ false → text_len q false (spelled q inner rest) ≡ None
text_len-open q [] [] i s n = refl
text_len-open q [] (c ∷ rest) i s n = feed_first q c rest (eqb-true c 10 s) n
text_len-open q (plain c ∷ inner) rest i s n = rw (i.0, i.1, text_len-open q inner rest i.2 s n) refl
text_len-open q (doubled ∷ inner) rest i s n = simp (same_byte q, text_len-open q inner rest i s n) refl

-- a quote is no line feed
feed_class : class_of 10 ≡ LineFeed
unfolding class_of
feed_class = refl

no_feed : (q : ℕ) (k : Class) (b : Before) → class_of q ≡ k → opens k b ≡ true → (10 == q) ≡ false
no_feed q k b e h = ne_eqb 10 q (λ same. let f : opens (class_of q) b ≡ true = rw e h in let g : opens (class_of 10) b ≡ true = rw same f in let i : opens LineFeed b ≡ true = rw feed_class at g in cc)

-- ---- signs

sign_len : (k : Class) (c : ℕ) (cs rest : List ℕ) → IsLongest k c cs rest → (if joins k c (cs ++ rest) then 1 else 0) ≡ length cs
sign_len k c [] rest h = rw h refl
sign_len k c (d ∷ []) rest h = rw h refl
sign_len k c (d ∷ e ∷ cs) rest h = absurd h

sign-fits : (k : Class) (c : ℕ) (cs rest : List ℕ) → IsLongest k c cs rest → sign k (c ∷ cs ++ rest) ≡ found part.Sign (length cs)
unfolding sign
sign-fits k c cs rest h = ap (λ n. found part.Sign n) (sign_len k c cs rest h)

not_true : (v : Bool) → not v ≡ true → v ≡ false
not_true true h = cc
not_true false h = refl

sign_outside : (k : Class) (c : ℕ) (cs : List ℕ) (b : Before) (rest : List ℕ) → begins_sign k b ≡ true → continues k (cs ++ rest) ≡ false → IsLongest k c cs rest
    → outside k b (c ∷ cs ++ rest) ≡ Ok (found part.Sign (length cs))
unfolding outside dotted
sign_outside Letter c cs b rest h n l = cc
sign_outside Digit c cs b rest h n l = cc
sign_outside Underscore c cs b rest h n l = cc
sign_outside Blank c cs b rest h n l = cc
sign_outside LineFeed c cs b rest h n l = cc
sign_outside Return c cs b rest h n l = cc
sign_outside Percent c cs b rest h n l = cc
sign_outside Single c cs b rest h n l = let o : opens_text b ≡ false = not_true (opens_text b) h in rw o (ap Ok (sign-fits Single c cs rest l))
sign_outside Double c cs b rest h n l = cc
sign_outside Dot c cs b rest h n l = rw n (ap Ok (sign-fits Dot c cs rest l))
sign_outside Equal c cs b rest h n l = ap Ok (sign-fits Equal c cs rest l)
sign_outside Compare c cs b rest h n l = ap Ok (sign-fits Compare c cs rest l)
sign_outside Twice c cs b rest h n l = ap Ok (sign-fits Twice c cs rest l)
sign_outside Scale c cs b rest h n l = ap Ok (sign-fits Scale c cs rest l)
sign_outside Paren c cs b rest h n l = ap Ok (sign-fits Paren c cs rest l)
sign_outside Square c cs b rest h n l = ap Ok (sign-fits Square c cs rest l)
sign_outside Brace c cs b rest h n l = ap Ok (sign-fits Brace c cs rest l)
sign_outside Close c cs b rest h n l = ap Ok (sign-fits Close c cs rest l)
sign_outside Plain c cs b rest h n l = ap Ok (sign-fits Plain c cs rest l)
sign_outside Other c cs b rest h n l = cc

-- ---- texts

quoted_outside : (k : Class) (b : Before) (text : List ℕ) → opens k b ≡ true → outside k b text ≡ quoted text
unfolding outside
quoted_outside Single b text h = rw h refl
quoted_outside Double b text h = refl
quoted_outside Letter b text h = cc
quoted_outside Digit b text h = cc
quoted_outside Underscore b text h = cc
quoted_outside Blank b text h = cc
quoted_outside LineFeed b text h = cc
quoted_outside Return b text h = cc
quoted_outside Percent b text h = cc
quoted_outside Dot b text h = cc
quoted_outside Equal b text h = cc
quoted_outside Compare b text h = cc
quoted_outside Twice b text h = cc
quoted_outside Scale b text h = cc
quoted_outside Paren b text h = cc
quoted_outside Square b text h = cc
quoted_outside Brace b text h = cc
quoted_outside Close b text h = cc
quoted_outside Plain b text h = cc
quoted_outside Other b text h = cc

quoted-closed : (c : ℕ) (cs rest : List ℕ) → IsClosed c cs → begins c rest ≡ false → quoted (c ∷ cs ++ rest) ≡ Ok (found part.Chars (length cs))
unfolding quoted
quoted-closed c cs rest h s = rw h.spells (ap text_of (text_len-closed c h.inner rest h.inside s))

quoted-open : (c : ℕ) (cs : List ℕ) → IsOpen c cs → (10 == c) ≡ false → quoted (c ∷ cs) ≡ Err kind.OpenText
unfolding quoted
quoted-open c cs h n = rw h.spells (ap text_of (text_len-open c h.inner h.rest h.inside h.ends n))

-- ---- words and literals

word-fits : (c : ℕ) (cs rest : List ℕ) (v : Bool) → Each is_part cs → Stops is_part rest → is_keyword (c ∷ cs) ≡ v
    → word (c ∷ cs ++ rest) ≡ found (if v then part.Keyword else part.Name) (length cs)
unfolding word
word-fits c cs rest v e s k = rw (prefix_len-fits is_part cs rest e s, take-append_seam cs rest, k) refl

literal-fits : (c : ℕ) (cs rest : List ℕ) (r w : Bool) → Each is_digit cs → Stops is_digit rest → in_range (c ∷ cs) ≡ r → is_whole rest ≡ w
    → literal (c ∷ cs ++ rest) ≡ (if r then (if w then Ok (found part.Literal (length cs)) else Err kind.NotWhole) else Err kind.LiteralRange)
unfolding literal
literal-fits c cs rest r w e s h k = rw (prefix_len-fits is_digit cs rest e s, take-append_seam cs rest, drop-append_seam cs rest, h, k) refl

-- ---- lines

break_outside : (k : Class) (c : ℕ) (cs : List ℕ) (b : Before) (rest : List ℕ) → IsBreak k cs → outside k b (c ∷ cs ++ rest) ≡ Ok (found part.LineEnd (length cs))
unfolding outside
break_outside k c [] b rest h = rw h refl
break_outside k c (d ∷ []) b rest h = rw (h.0, h.1) refl
break_outside k c (d ∷ e ∷ cs) b rest h = absurd h

break_inside : (k : Class) (c : ℕ) (cs : List ℕ) (b : Before) (rest : List ℕ) → IsBreak k cs → inside k b (c ∷ cs ++ rest) ≡ found part.LineEnd (length cs)
unfolding inside
break_inside k c [] b rest h = rw h refl
break_inside k c (d ∷ []) b rest h = rw (h.0, h.1) refl
break_inside k c (d ∷ e ∷ cs) b rest h = absurd h

continued_outside : (k : Class) (c : ℕ) (cs : List ℕ) (b : Before) (rest : List ℕ) → continues k (cs ++ rest) ≡ true → FillsLine cs rest
    → outside k b (c ∷ cs ++ rest) ≡ Ok (found part.Continued (length cs))
unfolding outside dotted
continued_outside Dot c cs b rest h f = rw h (ap (λ n. Ok (found part.Continued n)) (to_line_end-fits cs rest f))
continued_outside Letter c cs b rest h f = cc
continued_outside Digit c cs b rest h f = cc
continued_outside Underscore c cs b rest h f = cc
continued_outside Blank c cs b rest h f = cc
continued_outside LineFeed c cs b rest h f = cc
continued_outside Return c cs b rest h f = cc
continued_outside Percent c cs b rest h f = cc
continued_outside Single c cs b rest h f = cc
continued_outside Double c cs b rest h f = cc
continued_outside Equal c cs b rest h f = cc
continued_outside Compare c cs b rest h f = cc
continued_outside Twice c cs b rest h f = cc
continued_outside Scale c cs b rest h f = cc
continued_outside Paren c cs b rest h f = cc
continued_outside Square c cs b rest h f = cc
continued_outside Brace c cs b rest h f = cc
continued_outside Close c cs b rest h f = cc
continued_outside Plain c cs b rest h f = cc
continued_outside Other c cs b rest h f = cc

percent-comment : (c : ℕ) (cs : List ℕ) (b : Before) (rest : List ℕ) → marks 123 b (cs ++ rest) ≡ false → FillsLine cs rest → percent b (c ∷ cs ++ rest) ≡ found part.Comment (length cs)
unfolding percent
percent-comment c cs b rest m f = rw m (ap (λ n. found part.Comment n) (to_line_end-fits cs rest f))

percent-start : (c : ℕ) (cs : List ℕ) (b : Before) (rest : List ℕ) → cs ≡ 123 ∷ [] → marks 123 b (123 ∷ rest) ≡ true → percent b (c ∷ cs ++ rest) ≡ found part.BlockStart (length cs)
unfolding percent
percent-start c cs b rest e m = rw (e, m) refl

percent_outside : (b : Before) (text : List ℕ) → outside Percent b text ≡ Ok (percent b text)
unfolding outside
percent_outside b text = refl

-- ---- what fits outside block comments

blank_outside : (k : Class) (c : ℕ) (cs : List ℕ) (b : Before) (rest : List ℕ) → k ≡ Blank → Each is_blank cs → Stops is_blank rest → outside k b (c ∷ cs ++ rest) ≡ Ok (found part.Blank (length cs))
unfolding outside
blank_outside k c cs b rest h e s = rw h (ap (λ n. Ok (found part.Blank n)) (prefix_len-fits is_blank cs rest e s))

word_outside : (k : Class) (b : Before) (text : List ℕ) → k ≡ Letter → outside k b text ≡ Ok (word text)
unfolding outside
word_outside k b text h = rw h refl

literal_outside : (k : Class) (b : Before) (text : List ℕ) → k ≡ Digit → outside k b text ≡ literal text
unfolding outside
literal_outside k b text h = rw h refl

finds_outside : (p : Part) (k : Class) (c : ℕ) (cs : List ℕ) (b : Before) (rest : List ℕ) → FitsOutside p k c cs b rest → outside k b (c ∷ cs ++ rest) ≡ Ok (found p (length cs))
finds_outside part.Blank k c cs b rest h = blank_outside k c cs b rest h.0 h.1 h.2
finds_outside part.Continued k c cs b rest h = continued_outside k c cs b rest h.0 h.1
finds_outside part.Comment k c cs b rest h = rw h.0 (percent_outside b (c ∷ cs ++ rest) ∙ ap Ok (percent-comment c cs b rest h.1 h.2))
finds_outside part.BlockStart k c cs b rest h = rw h.0 (percent_outside b (c ∷ cs ++ rest) ∙ ap Ok (percent-start c cs b rest h.1 h.2))
finds_outside part.BlockEnd k c cs b rest h = absurd h
finds_outside part.LineEnd k c cs b rest h = break_outside k c cs b rest h
finds_outside part.Name k c cs b rest h = word_outside k b (c ∷ cs ++ rest) h.0 ∙ ap Ok (word-fits c cs rest false h.1 h.2 h.3)
finds_outside part.Keyword k c cs b rest h = word_outside k b (c ∷ cs ++ rest) h.0 ∙ ap Ok (word-fits c cs rest true h.1 h.2 h.3)
finds_outside part.Literal k c cs b rest h = literal_outside k b (c ∷ cs ++ rest) h.0 ∙ literal-fits c cs rest true true h.1 h.2 h.3 h.4
finds_outside part.Chars k c cs b rest h = quoted_outside k b (c ∷ cs ++ rest) h.0 ∙ quoted-closed c cs rest h.1 h.2
finds_outside part.Sign k c cs b rest h = sign_outside k c cs b rest h.0 h.1 h.2

-- ---- what fits inside

blank_inside : (k : Class) (c : ℕ) (cs : List ℕ) (b : Before) (rest : List ℕ) → k ≡ Blank → Each is_blank cs → Stops is_blank rest → inside k b (c ∷ cs ++ rest) ≡ found part.Blank (length cs)
unfolding inside
blank_inside k c cs b rest h e s = rw h (ap (λ n. found part.Blank n) (prefix_len-fits is_blank cs rest e s))

end_inside : (k : Class) (c : ℕ) (cs : List ℕ) (b : Before) (rest : List ℕ) → k ≡ Percent → cs ≡ 125 ∷ [] → marks 125 b (125 ∷ rest) ≡ true → inside k b (c ∷ cs ++ rest) ≡ found part.BlockEnd (length cs)
unfolding inside
end_inside k c cs b rest h e m = rw (h, e, m) refl

-- a line is not both marks
other_mark : (b : Before) (rest : List ℕ) → marks 125 b (123 ∷ rest) ≡ false
other_mark b rest = elim b.fresh as (λ v. (v && false) ≡ false) [ true ↦ refl | false ↦ refl ]

start_inside : (k : Class) (c : ℕ) (cs : List ℕ) (b : Before) (rest : List ℕ) → k ≡ Percent → cs ≡ 123 ∷ [] → marks 123 b (123 ∷ rest) ≡ true → inside k b (c ∷ cs ++ rest) ≡ found part.BlockStart (length cs)
unfolding inside
start_inside k c cs b rest h e m = rw (h, e, other_mark b rest) (percent-start c (123 ∷ []) b rest refl m)

neither : (v w : Bool) → not (v || w) ≡ true → (v ≡ false) × (w ≡ false)
neither true w h = cc
neither false true h = cc
neither false false h = (refl, refl)

remark_inside : (k : Class) (c : ℕ) (cs : List ℕ) (b : Before) (rest : List ℕ) → remarks k b (cs ++ rest) ≡ true → FillsLine cs rest → inside k b (c ∷ cs ++ rest) ≡ found part.Comment (length cs)
unfolding inside
remark_inside Blank c cs b rest h f = cc
remark_inside LineFeed c cs b rest h f = cc
remark_inside Return c cs b rest h f = rw (not_true (begins 10 (cs ++ rest)) h) (ap (λ n. found part.Comment n) (to_line_end-fits cs rest f))
remark_inside Percent c cs b rest h f =
    let n = neither (marks 123 b (cs ++ rest)) (marks 125 b (cs ++ rest)) h in
    rw n.1 (percent-comment c cs b rest n.0 f)
remark_inside Letter c cs b rest h f = ap (λ n. found part.Comment n) (to_line_end-fits cs rest f)
remark_inside Digit c cs b rest h f = ap (λ n. found part.Comment n) (to_line_end-fits cs rest f)
remark_inside Underscore c cs b rest h f = ap (λ n. found part.Comment n) (to_line_end-fits cs rest f)
remark_inside Single c cs b rest h f = ap (λ n. found part.Comment n) (to_line_end-fits cs rest f)
remark_inside Double c cs b rest h f = ap (λ n. found part.Comment n) (to_line_end-fits cs rest f)
remark_inside Dot c cs b rest h f = ap (λ n. found part.Comment n) (to_line_end-fits cs rest f)
remark_inside Equal c cs b rest h f = ap (λ n. found part.Comment n) (to_line_end-fits cs rest f)
remark_inside Compare c cs b rest h f = ap (λ n. found part.Comment n) (to_line_end-fits cs rest f)
remark_inside Twice c cs b rest h f = ap (λ n. found part.Comment n) (to_line_end-fits cs rest f)
remark_inside Scale c cs b rest h f = ap (λ n. found part.Comment n) (to_line_end-fits cs rest f)
remark_inside Paren c cs b rest h f = ap (λ n. found part.Comment n) (to_line_end-fits cs rest f)
remark_inside Square c cs b rest h f = ap (λ n. found part.Comment n) (to_line_end-fits cs rest f)
remark_inside Brace c cs b rest h f = ap (λ n. found part.Comment n) (to_line_end-fits cs rest f)
remark_inside Close c cs b rest h f = ap (λ n. found part.Comment n) (to_line_end-fits cs rest f)
remark_inside Plain c cs b rest h f = ap (λ n. found part.Comment n) (to_line_end-fits cs rest f)
remark_inside Other c cs b rest h f = ap (λ n. found part.Comment n) (to_line_end-fits cs rest f)

finds_inside : (p : Part) (k : Class) (c : ℕ) (cs : List ℕ) (b : Before) (rest : List ℕ) → FitsInside p k cs b rest → inside k b (c ∷ cs ++ rest) ≡ found p (length cs)
finds_inside part.Blank k c cs b rest h = blank_inside k c cs b rest h.0 h.1 h.2
finds_inside part.LineEnd k c cs b rest h = break_inside k c cs b rest h
finds_inside part.BlockStart k c cs b rest h = start_inside k c cs b rest h.0 h.1 h.2
finds_inside part.BlockEnd k c cs b rest h = end_inside k c cs b rest h.0 h.1 h.2
finds_inside part.Comment k c cs b rest h = remark_inside k c cs b rest h.0 h.1
finds_inside part.Continued k c cs b rest h = absurd h
finds_inside part.Name k c cs b rest h = absurd h
finds_inside part.Keyword k c cs b rest h = absurd h
finds_inside part.Literal k c cs b rest h = absurd h
finds_inside part.Chars k c cs b rest h = absurd h
finds_inside part.Sign k c cs b rest h = absurd h

finds_by : (v : Bool) (p : Part) (k : Class) (c : ℕ) (cs : List ℕ) (b : Before) (rest : List ℕ) → FitsBy v p k c cs b rest
    → (if v then Ok (inside k b (c ∷ cs ++ rest)) else outside k b (c ∷ cs ++ rest)) ≡ Ok (found p (length cs))
finds_by true p k c cs b rest h = ap Ok (finds_inside p k c cs b rest h)
finds_by false p k c cs b rest h = finds_outside p k c cs b rest h

-- a piece that fits is found
pub finds : (p : Piece) (b : Before) (rest : List ℕ) → Fits p b rest → head b (p.first ∷ p.others ++ rest) ≡ Ok (found p.part (length p.others))
unfolding head
finds p b rest h = finds_by (in_block b) p.part (class_of p.first) p.first p.others b rest h

-- ---- faults

bad_outside : (k : Class) (c : ℕ) (cs : List ℕ) (b : Before) → is_bad k cs ≡ true → outside k b (c ∷ cs) ≡ Err kind.BadByte
unfolding outside
bad_outside Other c cs b h = refl
bad_outside Underscore c cs b h = refl
bad_outside Return c cs b h = rw (not_true (begins 10 cs) h) refl
bad_outside Letter c cs b h = cc
bad_outside Digit c cs b h = cc
bad_outside Blank c cs b h = cc
bad_outside LineFeed c cs b h = cc
bad_outside Percent c cs b h = cc
bad_outside Single c cs b h = cc
bad_outside Double c cs b h = cc
bad_outside Dot c cs b h = cc
bad_outside Equal c cs b h = cc
bad_outside Compare c cs b h = cc
bad_outside Twice c cs b h = cc
bad_outside Scale c cs b h = cc
bad_outside Paren c cs b h = cc
bad_outside Square c cs b h = cc
bad_outside Brace c cs b h = cc
bad_outside Close c cs b h = cc
bad_outside Plain c cs b h = cc

number_refused : (c : ℕ) (cs : List ℕ) (d : HasDigits cs) (r w : Bool) → in_range (c ∷ d.digits) ≡ r → is_whole d.rest ≡ w
    → literal (c ∷ cs) ≡ (if r then (if w then Ok (found part.Literal (length d.digits)) else Err kind.NotWhole) else Err kind.LiteralRange)
number_refused c cs d r w h k = rw d.spells (literal-fits c d.digits d.rest r w d.each d.stops h k)

refused_outside : (f : LexKind) (k : Class) (c : ℕ) (cs : List ℕ) (b : Before) → class_of c ≡ k → Refuses f k c cs b → outside k b (c ∷ cs) ≡ Err f
refused_outside kind.BadByte k c cs b e h = bad_outside k c cs b h
refused_outside kind.OpenText k c cs b e h = quoted_outside k b (c ∷ cs) h.0 ∙ quoted-open c cs h.1 (no_feed c k b e h.0)
refused_outside kind.LiteralRange k c cs b e h = literal_outside k b (c ∷ cs) h.0 ∙ number_refused c cs h.1.0 false (is_whole h.1.0.rest) h.1.1 refl
refused_outside kind.NotWhole k c cs b e h = literal_outside k b (c ∷ cs) h.0 ∙ number_refused c cs h.1.0 true false h.1.1.0 h.1.1.1

-- a fault is found
pub refused : (f : LexKind) (c : ℕ) (cs : List ℕ) (b : Before) → Ends (fault f c cs) b → head b (c ∷ cs) ≡ Err f
unfolding head
refused f c cs b h = rw h.0 (refused_outside f (class_of c) c cs b refl h.1)
