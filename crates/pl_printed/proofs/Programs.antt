-- Each function and each program of a source can be laid out.
use Rattle.std.proofs.Common.{◌≡◌, ℕ, Bool, true, false, Option, Some, None, List, [], ◌∷◌, ◌++◌, map, refl}
use Rattle.pl_syntax.specs.declared.expr.Name.{Name}
use Rattle.pl_syntax.specs.declared.stmt.Function.{Function}
use Rattle.pl_syntax.specs.declared.stmt.Program.{Program}
use Rattle.pl_grammar.specs.declared.terminal.Terminal.{Terminal}
use Rattle.pl_grammar.specs.declared.terminal.Word.TheVariants as w
use Rattle.pl_grammar.specs.declared.terminal.Keyword.TheVariants as k
use Rattle.pl_grammar.specs.Words.{term}
use Rattle.pl_grammar.specs.Derivations.{Param, taken, ignored, Params, lone, further, Listing, no_params, params, Outs, no_outs, single, several, Given, no_list, given, title, Fun, fun, Top, script, define, spaced, Prog, whole_of, unended}
use Rattle.pl_grammar.specs.Spelling as spelling
use Rattle.pl_grammar.specs.Spelling.{sep, smt, block, param, listing, given_words, title_words, fun_words, top, prog}
use Rattle.pl_grammar.specs.Trees.{stmts, param_name, param_names, listed_names, given_names, kept, out_names, fun_tree, body_of, functions_of, program_of}
use Rattle.pl_grammar.specs.Sound.{outermost, SoundFun, SoundTop, SoundProg}
use Rattle.pl_lex.specs.Bytes.{class_of, begins}
use Rattle.pl_lex.specs.State.{signed}
use Rattle.pl_lex.specs.Tokens.{IsName}
use Rattle.pl_layout.specs.Layout.{text_from}
use Rattle.pl_layout.specs.Shown.{AreShown}
use Rattle.pl_printing.specs.Canonical as canonical
use Rattle.pl_printing.specs.Canonical.{Words, directly, apart, separated, name_words, stmt_words, line_end, lines, block_words, finish, out_words, empty_line, function_words, functions_words, has_none, canonical as canonical_words}
use Rattle.pl_printed.proofs.States.{Fits, at, other, named, operand, called, squared, Behind, behind_close, behind_close_square, behind_equal}
use Rattle.pl_printed.proofs.Operands.{Goes, name_goes, AllGo, list_goes}
use Rattle.pl_printed.proofs.Nodes.{blank_is_not}
use Rattle.pl_printed.proofs.Words.{AreWords}
use Rattle.pl_printed.proofs.Lines.{Begins, Ends, ends_line, blank_stops, opens_go, finish_goes, lines_go, block_goes}
use Rattle.pl_printed.proofs.Simple.{not_goes}
use Rattle.pl_printed.proofs.Compound.{StmtsGo}
use Rattle.pl_printed.proofs.Statements.{good_smt, good_block, good_line}

-- ---- parameters and outputs

abbrev ParamGoes : Option Name → Type 0
ParamGoes None = Unit {0}
ParamGoes (Some n) = IsName n.text

abbrev ParamsGo : List (Option Name) → Type 0
ParamsGo [] = Unit {0}
ParamsGo (p ∷ ps) = ParamGoes p × ParamsGo ps

abbrev NamesGo : List Name → Type 0
NamesGo [] = Unit {0}
NamesGo (n ∷ ns) = IsName n.text × NamesGo ns

element : (text : List ℕ) → IsName text → Goes false false (name_words text)
element text h = record { starts = (name_goes text h).starts; shown = λ d n f t s gap rest j k b. (name_goes text h).shown d n f t s other gap rest k (b.parts false) (b.shown false named refl) }

params_go : (ps : List (Option Name)) → ParamsGo ps → AllGo false (map canonical.param_words ps)
params_go [] h = tt
params_go (None ∷ ps) h = (not_goes, params_go ps h.1)
params_go (Some n ∷ ps) h = (element n.text h.0, params_go ps h.1)

outs_go : (ns : List Name) → NamesGo ns → AllGo false (map out_words ns)
outs_go [] h = tt
outs_go (n ∷ ns) h = (element n.text h.0, outs_go ns h.1)

-- ---- functions

-- what stands behind the keyword: a blank first, and it can be laid out
record Titles (rest : List Terminal) : Type 0 where
  spaced : begins 32 (text_from (at 1 0 false false) rest) ≡ true
  fits : Fits 1 0 false false [] other rest

-- name ( params ), and the body
call_titles : (n : List ℕ) (ps : List (Option Name)) → IsName n → ParamsGo ps → (rest : List Terminal) → Ends 1 rest → Titles (name_words n true (directly w.Open ∷ separated w.Comma (map canonical.param_words ps) false (directly w.Close ∷ rest)))
unfolding class_of signed
call_titles n ps h g rest b =
    let z : Behind false 1 1 (called []) (directly w.Close ∷ rest) = behind_close false 1 0 [] (called []) rest refl (b.shown false operand refl) in
    let l : Fits 1 1 false false (called []) other (separated w.Comma (map canonical.param_words ps) false (directly w.Close ∷ rest)) = list_goes false (map canonical.param_words ps) (params_go ps g) 1 1 false (called []) false (directly w.Close ∷ rest) tt z in
    record {
      spaced = refl;
      fits = (name_goes n h).shown 1 0 false false [] other true (directly w.Open ∷ separated w.Comma (map canonical.param_words ps) false (directly w.Close ∷ rest)) tt refl (tt, tt, tt, tt, l);
    }

equals : (rest : List Terminal) → Titles rest → Ends 1 (apart w.Equal ∷ rest)
equals rest t = behind_equal false 1 0 [] rest (blank_is_not 61 (text_from (at 1 0 false false) rest) t.spaced refl) t.fits

outs_title : (ns : List Name) → NamesGo ns → (rest : List Terminal) → Titles rest → Titles (canonical.outs_words ns rest)
unfolding class_of signed
outs_title [] h rest t = t
outs_title (n ∷ []) h rest t =
    let q : Ends 1 (apart w.Equal ∷ rest) = equals rest t in
    record { spaced = refl; fits = (name_goes n.text h.0).shown 1 0 false false [] other true (apart w.Equal ∷ rest) tt (q.parts false) (q.shown false named refl) }
outs_title (n ∷ m ∷ more) h rest t =
    let q : Ends 1 (apart w.Equal ∷ rest) = equals rest t in
    let z : Behind false 1 1 (squared []) (directly w.CloseSquare ∷ apart w.Equal ∷ rest) = behind_close_square false 1 0 [] (squared []) (apart w.Equal ∷ rest) refl (q.shown false operand refl) in
    record { spaced = refl; fits = (tt, tt, tt, tt, list_goes false (map out_words (n ∷ m ∷ more)) (outs_go (n ∷ m ∷ more) h) 1 1 false (squared []) false (directly w.CloseSquare ∷ apart w.Equal ∷ rest) tt z) }

abbrev FunctionGoes : Function → Type 0
FunctionGoes f = IsName f.name.text × ParamsGo f.params × NamesGo f.outs × StmtsGo f.body

function_goes : (f : Function) → FunctionGoes f → (rest : List Terminal) → Begins 0 rest → Begins 0 (function_words f rest)
function_goes f h rest b =
    let body : Ends 1 (block_words (map stmt_words f.body) (finish false (line_end rest))) = block_goes (map stmt_words f.body) h.3 0 (finish false (line_end rest)) (finish_goes 0 false (line_end rest) refl (ends_line 0 rest b)) in
    let t : Titles _ = outs_title f.outs h.2 _ (call_titles f.name.text f.params h.0 h.1 _ body) in
    opens_go k.Function refl 0 false _ refl (blank_stops _ t.spaced) t.fits

abbrev FunctionsGo : List Function → Type 0
FunctionsGo [] = Unit {0}
FunctionsGo (f ∷ fs) = FunctionGoes f × FunctionsGo fs

empty_line_goes : (v : Bool) (rest : List Terminal) → Begins 0 rest → Begins 0 (empty_line v rest)
empty_line_goes true rest b = b
empty_line_goes false rest b = (tt, refl, tt, tt, b)

functions_go : (v : Bool) (fs : List Function) → FunctionsGo fs → Begins 0 (functions_words v fs [])
functions_go v [] h = tt
functions_go v (f ∷ fs) h = empty_line_goes v _ (function_goes f h.0 (functions_words false fs []) (functions_go false fs h.1))

-- ---- derivations

good_param : (p : Param) (rest : List Terminal) → AreWords (param p rest) → ParamGoes (param_name p) × AreWords rest
good_param (taken n) rest a = (a.0, a.1)
good_param (ignored m) rest a = (tt, a.1)

params_snoc : (ps : List (Option Name)) (p : Option Name) → ParamsGo ps → ParamGoes p → ParamsGo (ps ++ p ∷ [])
params_snoc [] p h g = (g, tt)
params_snoc (q ∷ ps) p h g = (h.0, params_snoc ps p h.1 g)

good_params : (ps : Params) (rest : List Terminal) → AreWords (spelling.param_words ps rest) → ParamsGo (param_names ps) × AreWords rest
good_params (lone p) rest a = let x = good_param p rest a in ((x.0, tt), x.1)
good_params (further ps c p) rest a =
    let x = good_params ps (term w.Comma c ∷ param p rest) a in
    let y = good_param p rest x.1.1 in
    (params_snoc (param_names ps) (param_name p) x.0 y.0, y.1)

good_listing : (l : Listing) (rest : List Terminal) → AreWords (listing l rest) → ParamsGo (listed_names l) × AreWords rest
good_listing no_params rest a = (tt, a)
good_listing (params ps) rest a = good_params ps rest a

good_given : (g : Given) (rest : List Terminal) → AreWords (given_words g rest) → ParamsGo (given_names g) × AreWords rest
good_given no_list rest a = (tt, a)
good_given (given m l z) rest a = let x = good_listing l (term w.Close z ∷ rest) a.1 in (x.0, x.1.1)

kept_go : (ps : List (Option Name)) → ParamsGo ps → NamesGo (kept ps)
kept_go [] h = tt
kept_go (None ∷ ps) h = kept_go ps h.1
kept_go (Some n ∷ ps) h = (h.0, kept_go ps h.1)

good_outs : (o : Outs) (rest : List Terminal) → AreWords (spelling.outs_words o rest) → NamesGo (out_names o) × AreWords rest
good_outs no_outs rest a = (tt, a)
good_outs (single n q) rest a = ((a.0, tt), a.1.1)
good_outs (several m l z q) rest a = let x = good_listing l (term w.CloseSquare z ∷ term w.Equal q ∷ rest) a.1 in (kept_go (listed_names l) x.0, x.1.1.1)

good_fun : (f : Fun) (rest : List Terminal) → SoundFun f → AreWords (fun_words f rest) → FunctionGoes (fun_tree f) × AreWords rest
good_fun (fun (title m o n g) e b z) rest s a =
    let x = good_outs o _ a.1 in
    let y = good_given g _ x.1.1 in
    let v = good_block b outermost (term (w.Key k.End) z ∷ rest) s.1 y.1.1 in
    ((x.1.0, y.0, x.0, v.0), v.1.1)

functions_snoc : (fs : List Function) (f : Function) → FunctionsGo fs → FunctionGoes f → FunctionsGo (fs ++ f ∷ [])
functions_snoc [] f h g = (g, tt)
functions_snoc (q ∷ fs) f h g = (h.0, functions_snoc fs f h.1 g)

good_top : (t : Top) (v : Bool) (rest : List Terminal) → SoundTop v t → AreWords (top t rest) → StmtsGo (body_of t) × FunctionsGo (functions_of t) × AreWords rest
good_top (script b) v rest s a = let x = good_block b outermost rest s a in (x.0, tt, x.1)
good_top (define t f) v rest s a =
    let x = good_top t v (fun_words f rest) s.0 a in
    let y = good_fun f rest s.2 x.2 in
    (x.0, functions_snoc (functions_of t) (fun_tree f) x.1 y.0, y.1)
good_top (spaced t e) v rest s a = let x = good_top t v (sep e rest) s.0 a in (x.0, x.1, x.2.1)

abbrev ProgramGoes : Program → Type 0
ProgramGoes p = StmtsGo p.body × FunctionsGo p.functions

good_prog : (p : Prog) (v : Bool) → SoundProg v p → AreWords (prog p) → ProgramGoes (program_of p)
good_prog (whole_of t) v s a = let x = good_top t v [] s a in (x.0, x.1)
good_prog (unended b t) v s a =
    let x = good_block b outermost (smt t []) s.0 a in
    let y = good_smt t outermost [] s.1 x.1 in
    (good_line t true (stmts b) x.0 y.0, tt)

-- ---- programs

program_goes : (p : Program) → ProgramGoes p → AreShown (canonical_words p)
program_goes p h = lines_go (map stmt_words p.body) h.0 0 false (functions_words (has_none p.body) p.functions []) refl (functions_go (has_none p.body) p.functions h.1)

-- a program that some words are can be laid out
pub shown_program : (p : Prog) (v : Bool) → SoundProg v p → AreWords (prog p) → AreShown (canonical_words (program_of p))
shown_program p v s a = program_goes (program_of p) (good_prog p v s a)
