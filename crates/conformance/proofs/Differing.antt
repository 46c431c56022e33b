-- The first line of a text, and what two texts that begin with the same lines have alike.
use Rattle.std.proofs.Common.{◌≡◌, ℕ, suc, ◌+◌, ◌-◌, ◌<◌, ◌^◌, ◌==◌, min, Bool, true, false, cond, not, List, [], ◌∷◌, ◌++◌, length, take, drop, refl, ap, sym, ◌∙◌, arith, append_assoc, length-append, length-drop}
use Rattle.std.specs.List.{common_prefix_len, onto_first, position_or_len}
use Rattle.std.specs.Prelude.{slice_get}
use Rattle.std.proofs.lemmas.Grind.{common_steps}
use Rattle.std.proofs.lemmas.Bool.{eq-eqb}
use Rattle.pl_io.specs.Counted.{counted}
use Rattle.pl_words.specs.Words.{same}
use Rattle.conformance.specs.Differences.{lines_of, alike}

-- the place of the first end, or the length
abbrev end_of : List ℕ → ℕ
end_of text = position_or_len (λ c. c == 10) text

abbrev cut : ℕ → List ℕ → List (List ℕ)
cut n text = take (suc n) text ∷ lines_of (drop (suc n) text)

-- the first byte is the end, or it isn't
by_byte : (is_end : Bool) (c : ℕ) (cs : List ℕ) → (0 < length cs → lines_of cs ≡ cut (end_of cs) cs) → cond is_end ((c ∷ []) ∷ lines_of cs) (onto_first c (lines_of cs)) ≡ cut (cond (not is_end) (1 + end_of cs) 0) (c ∷ cs)
by_byte true c cs behind = refl
by_byte false c [] behind = refl
by_byte false c (d ∷ ds) behind =
    let more : suc (end_of (d ∷ ds)) ≡ 1 + end_of (d ∷ ds) = omega arith in
    ap (onto_first c) (behind (omega arith)) ∙ ap (λ (n : ℕ). cut n (c ∷ d ∷ ds)) more

pub first_line : (text : List ℕ) → 0 < length text → lines_of text ≡ cut (end_of text) text
first_line [] some = absurd (omega arith)
first_line (c ∷ cs) some = by_byte (c == 10) c cs (first_line cs)

-- what is cut off past the end of a text is the whole
at_end : (n m : ℕ) (text : List ℕ) → n ≡ min m (length text) → take n text ≡ take m text
at_end n m text is = grind (arith, common_steps)

behind_end : (n m : ℕ) (text : List ℕ) → n ≡ min m (length text) → drop n text ≡ drop m text
behind_end n m text is = grind (arith, common_steps)

not_empty : (text : List ℕ) → (length text == 0) ≡ false → 0 < length text
not_empty [] some = absurd (grind arith)
not_empty (c ∷ cs) some = omega arith

-- a line that is cut off where it ends, or where the text does
pub split : (text front back : List ℕ) (n : ℕ) → (length text == 0) ≡ false → n ≡ min (end_of text + 1) (length text) → front ≡ take n text → back ≡ drop n text → (lines_of text ≡ front ∷ lines_of back) × (length back < length text)
split text front back n some is is_front is_back =
    let any : 0 < length text = not_empty text some in
    let more : end_of text + 1 ≡ suc (end_of text) = omega arith in
    let here : n ≡ min (suc (end_of text)) (length text) = is ∙ ap (λ (m : ℕ). min m (length text)) more in
    let whole : front ≡ take (suc (end_of text)) text = is_front ∙ at_end n (suc (end_of text)) text here in
    let behind : back ≡ drop (suc (end_of text)) text = is_back ∙ behind_end n (suc (end_of text)) text here in
    let left : length back ≡ length text - n = ap length is_back ∙ length-drop n text in
    (first_line text any ∙ ap (λ (line : List ℕ). line ∷ lines_of (drop (suc (end_of text)) text)) (sym whole) ∙ ap (λ (rest : List ℕ). front ∷ lines_of rest) (sym behind), omega arith)

same_self : (line : List ℕ) → same line line ≡ true
same_self [] = refl
same_self (c ∷ cs) = rw (eq-eqb c c refl) (same_self cs)

-- two lists that begin with the same lines are alike in those, and in what is alike behind them
pub alike_behind : (before xs ys : List (List ℕ)) → common_prefix_len same (before ++ xs) (before ++ ys) ≡ length before + common_prefix_len same xs ys
alike_behind [] xs ys = omega arith
alike_behind (line ∷ before) xs ys =
    let is : cond (same line line) (1 + common_prefix_len same (before ++ xs) (before ++ ys)) 0 ≡ 1 + common_prefix_len same (before ++ xs) (before ++ ys) =
    ap (λ (b : Bool). cond b (1 + common_prefix_len same (before ++ xs) (before ++ ys)) 0) (same_self line) in
    let more : common_prefix_len same (before ++ xs) (before ++ ys) ≡ length before + common_prefix_len same xs ys = alike_behind before xs ys in
    omega arith

at_seam : (before lines : List (List ℕ)) → slice_get (before ++ lines) (length before) ≡ slice_get lines 0
at_seam [] lines = refl
at_seam (line ∷ before) lines = at_seam before lines

-- what two texts have first behind the same lines, where that is not the same
pub apart : (wanted got more_wanted more_got : List ℕ) (before xs ys : List (List ℕ)) (line : ℕ) → lines_of wanted ≡ before ++ lines_of more_wanted → lines_of got ≡ before ++ lines_of more_got → line ≡ counted (length before) → lines_of more_wanted ≡ xs → lines_of more_got ≡ ys → common_prefix_len same xs ys ≡ 0 → (line ≡ counted (alike wanted got)) × (slice_get (lines_of wanted) (alike wanted got) ≡ slice_get xs 0) × (slice_get (lines_of got) (alike wanted got) ≡ slice_get ys 0)
apart wanted got more_wanted more_got before xs ys line begins_wanted begins_got counts is_xs is_ys none =
    let all_wanted : lines_of wanted ≡ before ++ xs = begins_wanted ∙ ap (λ (ls : List (List ℕ)). before ++ ls) is_xs in
    let all_got : lines_of got ≡ before ++ ys = begins_got ∙ ap (λ (ls : List (List ℕ)). before ++ ls) is_ys in
    let all : alike wanted got ≡ length before + common_prefix_len same xs ys =
    ap (λ (ls : List (List ℕ)). common_prefix_len same ls (lines_of got)) all_wanted ∙ ap (common_prefix_len same (before ++ xs)) all_got ∙ alike_behind before xs ys in
    let here : alike wanted got ≡ length before = omega arith in (
      counts ∙ ap counted (sym here),
      ap (slice_get (lines_of wanted)) here ∙ ap (λ (ls : List (List ℕ)). slice_get ls (length before)) all_wanted ∙ at_seam before xs,
      ap (slice_get (lines_of got)) here ∙ ap (λ (ls : List (List ℕ)). slice_get ls (length before)) all_got ∙ at_seam before ys,
    )

-- a line more of both, which is the same
pub goes_on : (text : List ℕ) (before more : List (List ℕ)) (line : List ℕ) (rest : List (List ℕ)) → lines_of text ≡ before ++ rest → rest ≡ line ∷ more → lines_of text ≡ (before ++ line ∷ []) ++ more
goes_on text before more line rest is first = is ∙ ap (λ (ls : List (List ℕ)). before ++ ls) first ∙ sym (append_assoc before (line ∷ []) more)

-- two lines that are not the same are the first that differ
pub apart_here : (line other : List ℕ) (xs ys : List (List ℕ)) → same line other ≡ false → common_prefix_len same (line ∷ xs) (other ∷ ys) ≡ 0
apart_here line other xs ys differ = ap (λ (b : Bool). cond b (1 + common_prefix_len same xs ys) 0) differ

-- one more is counted, up to 2^64 - 1
pub counts_on : (before : List (List ℕ)) (line : List ℕ) (n m : ℕ) → n ≡ counted (length before) → m ≡ min (n + 1) (2 ^ 64 - 1) → m ≡ counted (length (before ++ line ∷ []))
counts_on before line n m counts more =
    let all : length (before ++ line ∷ []) ≡ length before + 1 = length-append before (line ∷ []) in
    omega arith
