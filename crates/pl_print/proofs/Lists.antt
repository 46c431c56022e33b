-- Lists that are empty, or have one element.
use Rattle.std.proofs.Common.{◌≡◌, ◌≢◌, ℕ, suc, ◌≤◌, drop, Bool, true, false, List, [], ◌∷◌, map, length, refl, ap, sym, arith, ◌∙◌}
use Rattle.std.specs.Prelude.{◌==◌}
use Rattle.std.proofs.lemmas.Bool.{ne_eqb}
use Rattle.std.proofs.Math.ListN.{drop_of_length-le}
use Rattle.pl_syntax.specs.declared.expr.Name.{Name}
use Rattle.pl_syntax.specs.declared.expr.Expr.{Expr}
use Rattle.pl_syntax.specs.declared.stmt.Stmt.{Stmt}
use Rattle.pl_syntax.specs.declared.stmt.Program.{Program}
use Rattle.pl_grammar.specs.declared.terminal.Terminal.{Terminal}
use Rattle.pl_grammar.specs.declared.terminal.Word.TheVariants as w
use Rattle.pl_printing.specs.Canonical.{Shown, all_shown, lines, stmt_words, functions_words, has_none, canonical, is_no_row, apart, directly, separated, out_words, outs_words}
use Rattle.pl_layout.specs.Layout.{text}
use Rattle.pl_print.specs.Pages.{Writing, first_page, text_with, more_rows}
use Rattle.pl_print.proofs.Grows.{page_begins, page_ends}

pub no_row : (rows : List (List Shown)) → is_no_row rows ≡ (length rows == 0)
no_row [] = refl
no_row (r ∷ rows) = let e : (suc (length rows) == 0) ≡ false = ne_eqb (suc (length rows)) 0 (λ h. absurd (omega (arith, h))) in sym e

-- one output, and several
pub single_out : (list : List Name) (n : Name) (more : List Name) → list ≡ n ∷ more → length more ≡ 0 → (rest : List Terminal) → out_words n true (apart w.Equal ∷ rest) ≡ outs_words list rest
single_out list n [] e h rest = rw e refl
single_out list n (m ∷ more) e h rest = absurd (omega (arith, h))

pub several_outs : (list : List Name) (n : Name) (more : List Name) → list ≡ n ∷ more → length more ≢ 0
    → (rest : List Terminal) → apart w.OpenSquare ∷ separated w.Comma (map out_words list) false (directly w.CloseSquare ∷ apart w.Equal ∷ rest) ≡ outs_words list rest
several_outs list n [] e h rest = absurd (h refl)
several_outs list n (m ∷ more) e h rest = rw e refl

-- the rows behind the last one, and the statements
pub rows_done : (is_first : Bool) (rows : List (List Expr)) (i : ℕ) → length rows ≤ i → (rest : List Terminal) → more_rows is_first (map all_shown (drop i rows)) rest ≡ rest
rows_done true rows i h rest = rw (drop_of_length-le rows h) refl
rows_done false rows i h rest = rw (drop_of_length-le rows h) refl

pub lines_done : (indented : Bool) (body : List Stmt) (i : ℕ) → length body ≤ i → (rest : List Terminal) → lines indented (map stmt_words (drop i body)) rest ≡ rest
lines_done indented body i h rest = rw (drop_of_length-le body h) refl

none : (body : List Stmt) → has_none body ≡ (length body == 0)
none [] = refl
none (s ∷ body) = let e : (suc (length body) == 0) ≡ false = ne_eqb (suc (length body)) 0 (λ h. absurd (omega (arith, h))) in sym e

-- the text of a program, where its statements and its functions are written
pub program_text : (program : Program) (body : List Stmt) (i : ℕ) (at_start : Bool) (here last : Writing) (bytes : List ℕ) → body ≡ program.body → length body ≤ i → at_start ≡ (length program.body == 0)
    → ((rest : List Terminal) → text_with here (lines false (map stmt_words (drop i body)) rest) ≡ text_with first_page (lines false (map stmt_words program.body) rest))
    → ((rest : List Terminal) → text_with last rest ≡ text_with here (functions_words at_start program.functions rest)) → bytes ≡ last.bytes → bytes ≡ text (canonical program)
program_text program body i at_start here last bytes e h a k f b =
    let fs : Bool → List Terminal = λ x. functions_words x program.functions [] in
    let start : at_start ≡ has_none program.body = a ∙ sym (none program.body) in
    b ∙ sym (page_ends last) ∙ f [] ∙ ap (λ ts. text_with here ts) (sym (lines_done false body i h (fs at_start))) ∙ k (fs at_start) ∙ ap (λ x. text_with first_page (lines false (map stmt_words program.body) (fs x))) start ∙ page_begins (canonical program)
