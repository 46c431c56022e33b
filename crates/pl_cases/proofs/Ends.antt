-- The lines of a text, of which the last piece is what stands behind them.
use Rattle.std.proofs.Common.{◌≡◌, ℕ, ◌+◌, ◌-◌, ◌<◌, ◌==◌, Bool, true, false, cond, List, [], ◌∷◌, ◌++◌, length, take, ap, sym, ◌∙◌, arith, length-append}
use Rattle.std.specs.Prelude.{Option, Some, Ok, Err, slice_get}
use Rattle.std.specs.List.{slice_split}
use Rattle.std.proofs.Math.Seq.{get_or-append_seam, take-append_seam}
use Rattle.std.proofs.lemmas.Option.{slice_get-get_or}
use Rattle.pl_cases.specs.declared.malformed.Malformed.{Malformed}
use Rattle.pl_cases.specs.declared.malformed.Reason.TheVariants as reason
use Rattle.pl_cases.specs.Lines.{is_nothing, ended, lines_of}

abbrev open_at : ℕ → Malformed
open_at n = record { line = n + 1; reason = reason.NoLineEnd }

at_seam : (lines : List (List ℕ)) (rest : List ℕ) → ended (length (lines ++ rest ∷ []) - 1) (lines ++ rest ∷ []) ≡ cond (length rest == 0) (Ok lines) (Err (open_at (length lines)))
at_seam lines rest =
    let all : length (lines ++ rest ∷ []) ≡ length lines + 1 = length-append lines (rest ∷ []) in
    let before : length (lines ++ rest ∷ []) - 1 ≡ length lines = omega arith in
    let within : length lines < length (lines ++ rest ∷ []) = omega arith in
    let got : slice_get (lines ++ rest ∷ []) (length lines) ≡ Some rest =
    slice_get-get_or (lines ++ rest ∷ []) (length lines) [] within ∙ ap Some (get_or-append_seam lines rest [] []) in
    ap (λ (n : ℕ). ended n (lines ++ rest ∷ [])) before
    ∙ ap (λ (o : Option (List ℕ)). cond (is_nothing o) (Ok (take (length lines) (lines ++ rest ∷ []))) (Err (open_at (length lines)))) got
    ∙ ap (λ (ls : List (List ℕ)). cond (length rest == 0) (Ok ls) (Err (open_at (length lines)))) (take-append_seam lines (rest ∷ []))

ended_parts : (source : List ℕ) (parts lines : List (List ℕ)) (rest : List ℕ) → parts ≡ slice_split (λ b. b == 10) source → parts ≡ lines ++ rest ∷ [] → lines_of source ≡ cond (length rest == 0) (Ok lines) (Err (open_at (length lines)))
ended_parts source parts lines rest split is =
    ap (λ (ps : List (List ℕ)). ended (length ps - 1) ps) (sym split ∙ is) ∙ at_seam lines rest

pub whole : (source : List ℕ) (parts lines : List (List ℕ)) (rest : List ℕ) → parts ≡ slice_split (λ b. b == 10) source → parts ≡ lines ++ rest ∷ [] → (length rest == 0) ≡ true → lines_of source ≡ Ok lines
whole source parts lines rest split is none = ended_parts source parts lines rest split is ∙ ap (λ (b : Bool). cond b (Ok lines) (Err (open_at (length lines)))) none

pub cut_off : (source : List ℕ) (parts lines : List (List ℕ)) (rest : List ℕ) → parts ≡ slice_split (λ b. b == 10) source → parts ≡ lines ++ rest ∷ [] → (length rest == 0) ≡ false → lines_of source ≡ Err (record { line = length lines + 1; reason = reason.NoLineEnd })
cut_off source parts lines rest split is some = ended_parts source parts lines rest split is ∙ ap (λ (b : Bool). cond b (Ok lines) (Err (open_at (length lines)))) some
