-- How a page grows.
use Rattle.std.proofs.Common.{◌≡◌, ◌∙◌, ℕ, suc, ◌+◌, ◌-◌, ◌<◌, Bool, true, false, List, [], ◌∷◌, ◌++◌, refl, ap, arith, append_assoc}
use Rattle.std.proofs.lemmas.List.{append-nil}
use Rattle.pl_grammar.specs.declared.terminal.Terminal.{Terminal}
use Rattle.pl_grammar.specs.declared.terminal.Word.TheVariants as w
use Rattle.pl_layout.specs.Layout.{Line, indent, quoted, lead, written, past, text_from, text}
use Rattle.pl_printing.specs.Canonical.{terminal}
use Rattle.pl_print.specs.Pages.{Writing, first_page, text_with, Writes}

pub indent_step : (n i : ℕ) → i < n → 32 ∷ 32 ∷ indent (n - (i + 1)) ≡ indent (n - i)
indent_step n i h = let e : n - i ≡ suc (n - (i + 1)) = omega arith in rw e refl

pub indent_more : (whole bytes more : List ℕ) (n i : ℕ) → i < n → bytes ++ indent (n - i) ≡ whole → more ≡ bytes ++ (32 ∷ 32 ∷ []) → more ++ indent (n - (i + 1)) ≡ whole
indent_more whole bytes more n i h k e = rw e (append_assoc bytes (32 ∷ 32 ∷ []) (indent (n - (i + 1))) ∙ ap (λ xs. bytes ++ xs) (indent_step n i h) ∙ k)

pub indent_all : (bytes : List ℕ) (n : ℕ) → bytes ++ indent (n - n) ≡ bytes
indent_all bytes n = let e : n - n ≡ 0 = omega arith in rw e (append-nil bytes)

-- a terminal that was written
pub wrote : (old new : Writing) (t : Terminal) → new.bytes ≡ old.bytes ++ (lead t old.line ++ written old.line.behind_text t.word) → new.line ≡ past t.word old.line → Writes old new (λ rest. t ∷ rest)
unfolding text_with
wrote old new t e k rest =
    let front : List ℕ = lead t old.line in
    let word : List ℕ = written old.line.behind_text t.word in
    let more : List ℕ = text_from (past t.word old.line) rest in
    ap (λ l. new.bytes ++ text_from l rest) k ∙ ap (λ xs. xs ++ more) e ∙ append_assoc old.bytes (front ++ word) more ∙ ap (λ xs. old.bytes ++ xs) (append_assoc front word more)

-- the first page, and the last
pub page_begins : (ts : List Terminal) → text_with first_page ts ≡ text ts
unfolding text_with
page_begins ts = refl

pub page_ends : (page : Writing) → text_with page [] ≡ page.bytes
unfolding text_with
page_ends page = append-nil page.bytes

-- a text in quotes that was written in two steps
pub wrote_chars : (old mid new : Writing) (gap : Bool) (bytes : List ℕ) → mid.bytes ≡ old.bytes ++ (lead (terminal gap (w.Chars bytes)) old.line ++ (39 ∷ [])) → mid.line ≡ record { depth = old.line.depth; brackets = old.line.brackets; fresh = false; behind_text = false }
    → new.bytes ≡ mid.bytes ++ quoted bytes → new.line ≡ record { depth = mid.line.depth; brackets = mid.line.brackets; fresh = mid.line.fresh; behind_text = true } → Writes old new (λ rest. terminal gap (w.Chars bytes) ∷ rest)
wrote_chars old mid new gap bytes e k f l =
    let white : List ℕ = lead (terminal gap (w.Chars bytes)) old.line in
    let all : new.bytes ≡ old.bytes ++ (white ++ (39 ∷ quoted bytes)) =
    f ∙ ap (λ xs. xs ++ quoted bytes) e ∙ append_assoc old.bytes (white ++ (39 ∷ [])) (quoted bytes) ∙ ap (λ xs. old.bytes ++ xs) (append_assoc white (39 ∷ []) (quoted bytes)) in
    wrote old new (terminal gap (w.Chars bytes)) all (l ∙ ap (λ (x : Line). record { depth = x.depth; brackets = x.brackets; fresh = x.fresh; behind_text = true }) k)
