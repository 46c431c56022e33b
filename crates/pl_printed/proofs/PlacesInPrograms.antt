-- A program is printed the same whatever its places are, and so what is printed, read back and printed again is the same text.
use Rattle.std.proofs.Common.{◌≡◌, ◌∙◌, ◌≤◌, ℕ, max, Bool, true, false, List, [], ◌∷◌, Option, Some, None, map, refl, ap, sym, subst, arith}
use Rattle.std.specs.Prelude.{option_map}
use Rattle.pl_syntax.specs.declared.expr.Name.{Name}
use Rattle.pl_syntax.specs.declared.stmt.Stmt.{Stmt}
use Rattle.pl_syntax.specs.declared.stmt.Function.{Function}
use Rattle.pl_syntax.specs.declared.stmt.Program.{Program}
use Rattle.pl_lex.specs.declared.token.Token.{Token}
use Rattle.pl_lex.proofs.Laws.{one_list}
use Rattle.pl_grammar.specs.declared.terminal.Terminal.{Terminal}
use Rattle.pl_grammar.specs.declared.terminal.Word.TheVariants as w
use Rattle.pl_grammar.specs.declared.terminal.Keyword.TheVariants as k
use Rattle.pl_grammar.specs.Programs.{strict, Parses}
use Rattle.pl_grammar.proofs.Theorem.{one_program}
use Rattle.pl_terminals.specs.Terminals.{terminal_of}
use Rattle.pl_layout.specs.Layout.{text}
use Rattle.pl_printing.specs.Places.{moved, but_places_stmt, but_places_function, but_places}
use Rattle.pl_printing.specs.Canonical.{directly, apart, separated, name_words, line_end, block_words, finish, lines, param_words, out_words, outs_words, function_words, empty_line, functions_words, has_none, canonical, stmt_words}
use Rattle.pl_printed.specs.Printed.{printed, IsSourceOf, ReadsBack, PlacesAreNotPrinted, PrintedAgain}
use Rattle.pl_printed.proofs.PlacesInStatements.{kept_stmts}
use Rattle.pl_printed.proofs.Whole.{printed_law}

-- ---- functions

param_kept : (p : Option Name) → param_words (option_map moved p) ≡ param_words p
param_kept None = refl
param_kept (Some n) = refl

params_kept : (ps : List (Option Name)) → map param_words (map (option_map moved) ps) ≡ map param_words ps
params_kept [] = refl
params_kept (p ∷ ps) = λ i. param_kept p i ∷ params_kept ps i

names_kept : (ns : List Name) → map out_words (map moved ns) ≡ map out_words ns
names_kept [] = refl
names_kept (n ∷ ns) = ap (λ xs. out_words n ∷ xs) (names_kept ns)

outs_kept : (ns : List Name) → outs_words (map moved ns) ≡ outs_words ns
outs_kept [] = refl
outs_kept (n ∷ []) = refl
outs_kept (n ∷ m ∷ more) = λ i rest. apart w.OpenSquare ∷ separated w.Comma (names_kept (n ∷ m ∷ more) i) false (directly w.CloseSquare ∷ apart w.Equal ∷ rest)

function_kept : (f : Function) → function_words (but_places_function f) ≡ function_words f
function_kept f = λ i rest.
    directly (w.Key k.Function) ∷ outs_kept f.outs i (name_words f.name.text true (directly w.Open ∷ separated w.Comma (params_kept f.params i) false (directly w.Close
    ∷ block_words (kept_stmts f.body i) (finish false (line_end rest)))))

functions_kept : (at_start : Bool) (fs : List Function) → functions_words at_start (map but_places_function fs) ≡ functions_words at_start fs
functions_kept at_start [] = refl
functions_kept at_start (f ∷ fs) = λ i rest. empty_line at_start (function_kept f i (functions_kept false fs i rest))

-- ---- programs

none_kept : (ss : List Stmt) → has_none (map but_places_stmt ss) ≡ has_none ss
none_kept [] = refl
none_kept (s ∷ ss) = refl

pub canonical_kept : (p : Program) → canonical (but_places p) ≡ canonical p
canonical_kept p =
    (λ i. lines false (kept_stmts p.body i) (functions_words (none_kept p.body i) (but_places p).functions []))
    ∙ ap (λ (words : List Terminal → List Terminal). lines false (map stmt_words p.body) (words [])) (functions_kept (has_none p.body) p.functions)

pub places_are_not_printed : PlacesAreNotPrinted
places_are_not_printed p q h = ap text (sym (canonical_kept p) ∙ ap canonical h ∙ canonical_kept q)

-- ---- printed again

-- what is a program within a limit is one within each limit that is no less
within : (limit more : ℕ) (ts : List Terminal) (p : Program) → limit ≤ more → Parses (strict limit) ts p → Parses (strict more) ts p
within limit more ts p h x = record { rules = x.rules; spelled = x.spelled; means = x.means; sound = x.sound; nested = omega (arith, x.nested, h) }

-- a source has one program, whatever the limits
pub one_source : (limit other : ℕ) (source : List ℕ) (p q : Program) → IsSourceOf limit source p → IsSourceOf other source q → p ≡ q
one_source limit other source p q x y =
    let P : List Token → Type 0 = λ tokens. Parses (strict other) (map (terminal_of source) tokens) q in
    let parses : Parses (strict other) (map (terminal_of source) x.tokens) q = subst P (one_list source y.tokens x.tokens y.lexes x.lexes) y.parses in
    let both : ℕ = max limit other in
    one_program (strict both) (map (terminal_of source) x.tokens) p q (within limit both _ p (omega arith) x.parses) (within other both _ q (omega arith) parses)

pub printed_again : PrintedAgain
printed_again limit other source program again x y =
    let b : ReadsBack limit (printed program) program = printed_law limit source program x in
    let e : again ≡ b.again = one_source other limit (printed program) again b.again y b.is_source in
    places_are_not_printed again program (ap but_places e ∙ b.same)
