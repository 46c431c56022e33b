-- Statements without blocks, and the headers of compound ones, can be laid out.
use Rattle.std.proofs.Common.{◌≡◌, ℕ, ◌+◌, Bool, true, false, Option, Some, None, List, [], ◌∷◌, map, refl}
use Rattle.pl_syntax.specs.declared.expr.Name.{Name}
use Rattle.pl_syntax.specs.declared.expr.Expr.{Expr}
use Rattle.pl_syntax.specs.declared.stmt.Target.{Target}
use Rattle.pl_syntax.specs.declared.stmt.Target.TheVariants as target
use Rattle.pl_syntax.specs.declared.stmt.StmtKind.TheOpen.{StmtKind-F}
use Rattle.pl_grammar.specs.declared.terminal.Terminal.{Terminal}
use Rattle.pl_grammar.specs.declared.terminal.Word.TheVariants as w
use Rattle.pl_grammar.specs.declared.terminal.Keyword.{Keyword}
use Rattle.pl_grammar.specs.declared.terminal.Keyword.TheVariants as word
use Rattle.pl_grammar.specs.Words.{is_link}
use Rattle.pl_lex.specs.Bytes.{class_of, begins}
use Rattle.pl_lex.specs.Keywords.{is_end}
use Rattle.pl_lex.specs.State.{signed}
use Rattle.pl_lex.specs.Tokens.{IsName}
use Rattle.pl_layout.specs.Layout.{opens_block, text_from}
use Rattle.pl_layout.specs.Shown.{is_indented}
use Rattle.pl_layout.proofs.Parts.{Brackets}
use Rattle.pl_printing.specs.Canonical.{Words, terminal, directly, apart, shown, all_shown, expr_words, in_brackets, in_braces, target_words, output_words, nothing_or, assigned, key, block_words, workers_words, each_words, parfor_words, of_stmt_kind, of_arm_layer}
use Rattle.pl_printed.proofs.States.{Fits, at, other, named, operand, grouped, squared, Behind, behind_comma, behind_semicolon, behind_close, behind_close_square, behind_equal, behind_operand}
use Rattle.pl_printed.proofs.Operands.{Opens, Goes, name_goes, AllGo, list_goes, Items, brackets_go, braces_go}
use Rattle.pl_printed.proofs.Nodes.{Good, blank_is_not}
use Rattle.pl_printed.proofs.Lines.{Begins, Ends, Holds, AllStand, blank_stops, opens_go, links_go, block_goes, ArmGoes}

-- a value with a blank before it
pub value_goes : (e : Expr) → Good false (shown e) → (d n : ℕ) (s : Brackets) (rest : List Terminal) → Behind false d n s rest → Fits d n false false s other (expr_words e true rest)
value_goes e h d n s rest b = h.words.shown d n false false s true rest tt tt (behind_operand d n s rest b)

-- ---- targets and outputs

abbrev pub TargetGoes : Target → Type 0
TargetGoes (target.Whole n) = IsName n.text
TargetGoes (target.Indexed n es) = IsName n.text × Items true (all_shown es)
TargetGoes (target.Braced n e) = IsName n.text × Good true (shown e)

pub target_goes : (t : Target) → TargetGoes t → Goes false false (target_words t)
unfolding class_of
target_goes (target.Whole n) h = record { starts = (name_goes n.text h).starts; shown = λ d n' f t s gap rest j k b. (name_goes n.text h).shown d n' f t s other gap rest k (b.parts false) (b.shown false named refl) }
target_goes (target.Indexed n es) h = record {
  starts = λ gap d n' t rest. (name_goes n.text h.0).starts gap d n' t (in_brackets (all_shown es) rest);
  shown = λ d n' f t s gap rest j k b. (name_goes n.text h.0).shown d n' f t s other gap (in_brackets (all_shown es) rest) k refl (brackets_go (all_shown es) h.1 d n' s rest (b.shown false operand refl));
}
target_goes (target.Braced n e) h = record {
  starts = λ gap d n' t rest. (name_goes n.text h.0).starts gap d n' t (in_braces (shown e) rest);
  shown = λ d n' f t s gap rest j k b. (name_goes n.text h.0).shown d n' f t s other gap (in_braces (shown e) rest) k refl (braces_go (shown e) h.1.words d n' s rest (b.shown false named refl));
}

-- `~` in place of a name
pub not_goes : Goes false false (λ gap rest. terminal gap w.Not ∷ rest)
unfolding class_of signed
not_goes = record { starts = starts; shown = λ d n f t s gap rest j k b. (tt, k, tt, b.equal false, b.shown false other refl) }
  where
    starts : (gap : Bool) (d n : ℕ) (t : Bool) (rest : List Terminal) → Opens gap (text_from (at d n false t) (terminal gap w.Not ∷ rest))
    starts true d n t rest = refl
    starts false d n t rest = refl

abbrev pub OutputGoes : Option Target → Type 0
OutputGoes None = Unit {0}
OutputGoes (Some t) = TargetGoes t

abbrev pub OutputsGo : List (Option Target) → Type 0
OutputsGo [] = Unit {0}
OutputsGo (o ∷ os) = OutputGoes o × OutputsGo os

outputs_go : (os : List (Option Target)) → OutputsGo os → AllGo false (map output_words os)
outputs_go [] h = tt
outputs_go (None ∷ os) h = (not_goes, outputs_go os h.1)
outputs_go (Some t ∷ os) h = (target_goes t h.0, outputs_go os h.1)

-- ---- simple statements

pub eval_holds : (e : Expr) → Good false (shown e) → Holds (of_stmt_kind (StmtKind-F.Eval e))
eval_holds e h d gap rest g b = h.words.shown d 0 true false [] gap rest tt g (behind_operand d 0 [] rest b)

-- what is assigned begins with a blank, and can be laid out
record Assigns (d : ℕ) (rest : List Terminal) : Type 0 where
  spaced : begins 32 (text_from (at d 0 false false) rest) ≡ true
  fits : Fits d 0 false false [] other rest

value_assigns : (e : Expr) → Good false (shown e) → (d : ℕ) (rest : List Terminal) → Ends d rest → Assigns d (expr_words e true rest)
value_assigns e h d rest b = record { spaced = h.words.starts true d 0 false rest; fits = value_goes e h d 0 [] rest b }

nothing_assigns : (v : Bool) (e : Expr) → Good false (shown e) → (d : ℕ) (rest : List Terminal) → Ends d rest → Assigns d (nothing_or v (expr_words e) rest)
unfolding class_of signed
nothing_assigns false e h d rest b = value_assigns e h d rest b
nothing_assigns true e h d rest b =
    let z : Behind false d 1 (squared []) (directly w.CloseSquare ∷ rest) = behind_close_square false d 0 [] (squared []) rest refl (b.shown false operand refl) in
    let y : Behind false d 1 (squared []) (directly w.Semicolon ∷ directly w.CloseSquare ∷ rest) = behind_semicolon false d 1 (squared []) (directly w.CloseSquare ∷ rest) (z.shown false other refl) in
    record { spaced = refl; fits = (tt, tt, tt, tt, y.shown false other refl) }

assigns : (t : Target) (e : Expr) → Good false (shown e) → (d : ℕ) (rest : List Terminal) → Ends d rest → Assigns d (assigned t (shown e) rest)
assigns (target.Whole n) e h d rest b = value_assigns e h d rest b
assigns (target.Indexed n es) e h d rest b = nothing_assigns (shown e).is_nothing e h d rest b
assigns (target.Braced n x) e h d rest b = value_assigns e h d rest b

equals : (d : ℕ) (rest : List Terminal) → Assigns d rest → Ends d (apart w.Equal ∷ rest)
equals d rest a = behind_equal false d 0 [] rest (blank_is_not 61 (text_from (at d 0 false false) rest) a.spaced refl) a.fits

pub assign_holds : (t : Target) (e : Expr) → TargetGoes t → Good false (shown e) → Holds (of_stmt_kind (StmtKind-F.Assign t e))
assign_holds t e h k d gap rest g b = (target_goes t h).shown d 0 true false [] gap (apart w.Equal ∷ assigned t (shown e) rest) tt g (equals d (assigned t (shown e) rest) (assigns t e k d rest b))

pub spread_holds : (os : List (Option Target)) (e : Expr) → OutputsGo os → Good false (shown e) → Holds (of_stmt_kind (StmtKind-F.AssignList os e))
unfolding class_of signed
spread_holds os e h k d gap rest g b =
    let q : Ends d (apart w.Equal ∷ expr_words e true rest) = equals d (expr_words e true rest) (value_assigns e k d rest b) in
    (tt, g, tt, tt, list_goes false (map output_words os) (outputs_go os h) d 1 false (squared []) false (directly w.CloseSquare ∷ apart w.Equal ∷ expr_words e true rest) tt (behind_close_square false d 0 [] (squared []) (apart w.Equal ∷ expr_words e true rest) refl (q.shown false operand refl)))

pub delete_holds : (n : Name) (es : List Expr) → IsName n.text → Items true (all_shown es) → Holds (of_stmt_kind (StmtKind-F.Delete n es))
unfolding class_of signed
delete_holds n es h k d gap rest g b =
    let z : Behind false d 1 (squared []) (directly w.CloseSquare ∷ rest) = behind_close_square false d 0 [] (squared []) rest refl (b.shown false operand refl) in
    let y : Assigns d (apart w.OpenSquare ∷ directly w.CloseSquare ∷ rest) = record { spaced = refl; fits = (tt, tt, tt, tt, z.shown false other refl) } in
    let q : Ends d (apart w.Equal ∷ apart w.OpenSquare ∷ directly w.CloseSquare ∷ rest) = equals d (apart w.OpenSquare ∷ directly w.CloseSquare ∷ rest) y in
    (name_goes n.text h).shown d 0 true false [] other gap (in_brackets (all_shown es) (apart w.Equal ∷ apart w.OpenSquare ∷ directly w.CloseSquare ∷ rest)) g refl (brackets_go (all_shown es) k d 0 [] (apart w.Equal ∷ apart w.OpenSquare ∷ directly w.CloseSquare ∷ rest) (q.shown false operand refl))

pub break_holds : Holds (of_stmt_kind StmtKind-F.Break)
unfolding is_end
break_holds d gap rest g b = (tt, g, tt, b.parts false, b.shown false other refl)

pub continue_holds : Holds (of_stmt_kind StmtKind-F.Continue)
unfolding is_end
continue_holds d gap rest g b = (tt, g, tt, b.parts false, b.shown false other refl)

pub return_holds : Holds (of_stmt_kind StmtKind-F.Return)
unfolding is_end
return_holds d gap rest g b = (tt, g, tt, b.parts false, b.shown false other refl)

-- ---- headers

-- a keyword and a value
pub test_goes : (key_word : Keyword) → opens_block key_word ≡ true → (e : Expr) → Good false (shown e) → (d : ℕ) (gap : Bool) (rest : List Terminal) → gap ≡ is_indented d → Ends (d + 1) rest → Begins d (key gap key_word ∷ expr_words e true rest)
test_goes key_word o e h d gap rest g b = opens_go key_word o d gap (expr_words e true rest) g (blank_stops _ (h.words.starts true (d + 1) 0 false rest)) (value_goes e h (d + 1) 0 [] rest b)

pub link_goes : (key_word : Keyword) → is_link key_word ≡ true → (e : Expr) → Good false (shown e) → (d : ℕ) (gap : Bool) (rest : List Terminal) → gap ≡ is_indented d → Ends (d + 1) rest → Begins (d + 1) (key gap key_word ∷ expr_words e true rest)
link_goes key_word o e h d gap rest g b = links_go key_word o d gap (expr_words e true rest) g (blank_stops _ (h.words.starts true (d + 1) 0 false rest)) (value_goes e h (d + 1) 0 [] rest b)

pub arm_goes : (e : Expr) (xs : List Words) → Good false (shown e) → AllStand xs → ArmGoes (of_arm_layer (record { test = e; body = xs }))
arm_goes e xs h b = record {
  opens = λ d gap rest g k. test_goes word.If refl e h d gap (block_words xs rest) g (block_goes xs b d rest k);
  links = λ key_word o d gap rest g k. link_goes key_word o e h d gap (block_words xs rest) g (block_goes xs b d rest k);
}

-- name = range
each_goes : (n : Name) (e : Expr) → IsName n.text → Good false (shown e) → (d m : ℕ) (s : Brackets) (gap : Bool) (rest : List Terminal) → Behind false d m s rest → Fits d m false false s other (each_words n e gap rest)
unfolding class_of
each_goes n e h k d m s gap rest b =
    let q : Behind false d m s (apart w.Equal ∷ expr_words e true rest) = behind_equal false d m s (expr_words e true rest) (blank_is_not 61 (text_from (at d m false false) (expr_words e true rest)) (k.words.starts true d m false rest) refl) (value_goes e k d m s rest b) in
    (name_goes n.text h).shown d m false false s other gap (apart w.Equal ∷ expr_words e true rest) tt (q.parts false) (q.shown false named refl)

pub for_goes : (key_word : Keyword) → opens_block key_word ≡ true → (n : Name) (e : Expr) → IsName n.text → Good false (shown e) → (d : ℕ) (gap : Bool) (rest : List Terminal) → gap ≡ is_indented d → Ends (d + 1) rest → Begins d (key gap key_word ∷ each_words n e true rest)
for_goes key_word o n e h k d gap rest g b = opens_go key_word o d gap (each_words n e true rest) g (blank_stops (text_from (at (d + 1) 0 false false) (each_words n e true rest)) ((name_goes n.text h).starts true (d + 1) 0 false (apart w.Equal ∷ expr_words e true rest))) (each_goes n e h k (d + 1) 0 [] true rest b)

abbrev pub PerhapsGood : Option Expr → Type 0
PerhapsGood None = Unit {0}
PerhapsGood (Some e) = Good false (shown e)

pub parfor_goes : (n : Name) (e : Expr) (bound : Option Expr) → IsName n.text → Good false (shown e) → PerhapsGood bound → (d : ℕ) (gap : Bool) (rest : List Terminal) → gap ≡ is_indented d → Ends (d + 1) rest → Begins d (key gap word.Parfor ∷ parfor_words n e bound rest)
unfolding class_of signed
parfor_goes n e None h k p d gap rest g b = for_goes word.Parfor refl n e h k d gap rest g b
parfor_goes n e (Some x) h k p d gap rest g b =
    let z : Behind false (d + 1) 1 (grouped []) (directly w.Close ∷ rest) = behind_close false (d + 1) 0 [] (grouped []) rest refl (b.shown false operand refl) in
    let y : Behind false (d + 1) 1 (grouped []) (directly w.Comma ∷ expr_words x true (directly w.Close ∷ rest)) = behind_comma false (d + 1) 1 (grouped []) (expr_words x true (directly w.Close ∷ rest)) (value_goes x p (d + 1) 1 (grouped []) (directly w.Close ∷ rest) z) in
    opens_go word.Parfor refl d gap (parfor_words n e (Some x) rest) g refl (tt, tt, tt, tt, each_goes n e h k (d + 1) 1 (grouped []) false (directly w.Comma ∷ expr_words x true (directly w.Close ∷ rest)) y)

pub spmd_goes : (bound : Option Expr) → PerhapsGood bound → (d : ℕ) (gap : Bool) (rest : List Terminal) → gap ≡ is_indented d → Ends (d + 1) rest → Begins d (key gap word.Spmd ∷ workers_words bound rest)
unfolding class_of signed
spmd_goes None p d gap rest g b = opens_go word.Spmd refl d gap rest g (b.parts false) (b.shown false other refl)
spmd_goes (Some x) p d gap rest g b =
    let z : Behind true (d + 1) 1 (grouped []) (directly w.Close ∷ rest) = behind_close true (d + 1) 0 [] (grouped []) rest refl (b.shown false operand refl) in
    opens_go word.Spmd refl d gap (workers_words (Some x) rest) g refl (tt, tt, tt, tt, p.words.shown (d + 1) 1 false false (grouped []) false (directly w.Close ∷ rest) tt tt z)
