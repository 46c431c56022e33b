-- Rows and frames that may be outputs are the same outputs for both machines.
use Rattle.std.proofs.Common.{◌≡◌, ◌∙◌, Bool, true, false, not, Option, Some, None, List, [], ◌∷◌, ◌++◌, refl, ap, sym, append_assoc}
use Rattle.std.specs.Prelude.{option_map, if◌then◌else◌}
use Rattle.pl_base.specs.declared.errors.Place.{Place}
use Rattle.pl_syntax.specs.declared.stmt.Target.{Target}
use Rattle.pl_grammar.specs.Words as g
use Rattle.pl_grammar.specs.Derivations as d
use Rattle.pl_grammar.specs.Trees as t
use Rattle.pl_grammar.specs.Machine as gm
use Rattle.pl_grammar.specs.Steps as gs
use Rattle.pl_frames.specs.declared.operand.Mark.{Mark}
use Rattle.pl_frames.specs.declared.operand.Form.{Form}
use Rattle.pl_frames.specs.declared.operand.Form.TheVariants as form
use Rattle.pl_frames.specs.declared.operand.Element.{Element}
use Rattle.pl_frames.specs.declared.operand.Element.TheVariants as element
use Rattle.pl_frames.specs.declared.outlist.Outlist.{Outlist}
use Rattle.pl_frames.specs.Trees as ct
use Rattle.pl_frames.specs.Rows as cr
use Rattle.pl_frames.specs.Outlist as co
use Rattle.pl_parse.specs.Image.{mark_of, apart, form_of, item_of, elements_of, site_of, frames_of, bottom_of, cells_of, is_space}

abbrev Targets : Type 0
Targets = List (Option Target)

-- ---- the elements of a row

-- what an element says of outputs
abbrev and_then : Option Targets → (Targets → Option Targets) → Option Targets
and_then None f = None
and_then (Some os) f = f os

row_append : (xs ys : List Element) (os : Targets) → co.row_outputs os (xs ++ ys) ≡ and_then (co.row_outputs os xs) (λ more. co.row_outputs more ys)
row_append [] ys os = refl
row_append (element.Outputs ms x ∷ xs) ys os = row_append xs ys (os ++ co.element_outputs ms x)
row_append (element.Tree e ∷ xs) ys os = refl

skips_snoc : (ms : List Mark) (m : Mark) → co.skips (ms ++ m ∷ []) ≡ None ∷ co.skips ms
skips_snoc [] m = refl
skips_snoc (x ∷ ms) m = ap (λ y. None ∷ y) (skips_snoc ms m)

abbrev outs_before : gm.Outgoing → Targets
outs_before gm.fresh_outs = []
outs_before (gm.behind_outs os c) = t.output_trees os

-- whether an element with white space before it, or none, may be outputs
abbrev far_from : gm.Outgoing → Bool → Bool
far_from gm.fresh_outs gap = true
far_from (gm.behind_outs os (d.written c)) gap = true
far_from (gm.behind_outs os d.space) gap = gap

-- the outputs before, and those of one element
abbrev with_form : Targets → Bool → Form → Place → Option Targets
with_form os far f p = co.row_outputs os (cr.form_element far f p ∷ [])

abbrev IsOther : Form → Type 0
IsOther (form.Target x) = ⊥
IsOther (form.Skips ms x) = ⊥
IsOther f = Unit {0}

other_form : (os : Targets) (far : Bool) (f : Form) (p : Place) → IsOther f → with_form os far f p ≡ None
other_form os far (form.Target x) p h = absurd h
other_form os far (form.Skips ms x) p h = absurd h
other_form os true (form.Dotted x) p h = refl
other_form os false (form.Dotted x) p h = refl
other_form os true f p h = refl
other_form os false f p h = refl

target_form : (p : gm.Outgoing) (gap : Bool) (x : d.Tgt) (q : Place) → with_form (outs_before p) (far_from p gap) (form.Target (t.tgt_tree x)) q ≡ option_map t.output_trees (gs.set_out p gap (d.to x))
target_form gm.fresh_outs gap x q = refl
target_form (gm.behind_outs os (d.written c)) gap x q = refl
target_form (gm.behind_outs os d.space) true x q = refl
target_form (gm.behind_outs os d.space) false x q = refl

-- `~` before what may be outputs
skip_form : (os : Targets) (m : Mark) (f : Form) (gap : Bool) (p q : Place) → with_form os true (ct.skip m f gap p) q ≡ with_form (os ++ None ∷ []) gap f p
skip_form os m (form.Target x) true p q = ap Some (sym (append_assoc os (None ∷ []) (Some x ∷ [])))
skip_form os m (form.Skips ms x) true p q = rw (skips_snoc ms m) (ap Some (sym (append_assoc os (None ∷ []) (co.skips ms ++ Some x ∷ []))))
skip_form os m (form.Target x) false p q = refl
skip_form os m (form.Skips ms x) false p q = refl
skip_form os m (form.Dotted x) true p q = refl
skip_form os m (form.Dotted x) false p q = refl
skip_form os m f true p q = refl
skip_form os m f false p q = refl

no_skip : (os : Targets) (m : Mark) (f : Form) (gap : Bool) (p q : Place) → with_form os false (ct.skip m f gap p) q ≡ None
no_skip os m (form.Target x) true p q = refl
no_skip os m (form.Skips ms x) true p q = refl
no_skip os m f gap p q = refl

-- `~` and an element behind it, whose outputs are known
skip_outs : (m : g.Mark) (e : d.Ex) (p : gm.Outgoing)
    → ((q : gm.Outgoing) → with_form (outs_before q) (far_from q (t.mark e).gap) (form_of e) (t.mark e).place ≡ option_map t.output_trees (gs.element_outputs q e))
    → with_form (outs_before p) (far_from p m.gap) (ct.skip (mark_of m) (form_of e) (t.mark e).gap (t.mark e).place) m.place ≡ option_map t.output_trees (gs.pass (gs.set_out p m.gap (d.skip m)) (λ q. gs.element_outputs q e))
skip_outs m e gm.fresh_outs ih = skip_form [] (mark_of m) (form_of e) (t.mark e).gap (t.mark e).place m.place ∙ ih (gm.behind_outs (d.only (d.skip m)) d.space)
skip_outs m e (gm.behind_outs os (d.written c)) ih = skip_form (t.output_trees os) (mark_of m) (form_of e) (t.mark e).gap (t.mark e).place m.place ∙ ih (gm.behind_outs (d.beside os (d.written c) (d.skip m)) d.space)
skip_outs m e (gm.behind_outs os d.space) ih = by_gap m.gap
  where
    by_gap : (gap : Bool) → with_form (t.output_trees os) gap (ct.skip (mark_of m) (form_of e) (t.mark e).gap (t.mark e).place) m.place ≡ option_map t.output_trees (gs.pass (gs.set_out (gm.behind_outs os d.space) gap (d.skip m)) (λ q. gs.element_outputs q e))
    by_gap true = skip_form (t.output_trees os) (mark_of m) (form_of e) (t.mark e).gap (t.mark e).place m.place ∙ ih (gm.behind_outs (d.beside os d.space (d.skip m)) d.space)
    by_gap false = no_skip (t.output_trees os) (mark_of m) (form_of e) (t.mark e).gap (t.mark e).place m.place

element_outs : (e : d.Ex) (p : gm.Outgoing) → with_form (outs_before p) (far_from p (t.mark e).gap) (form_of e) (t.mark e).place ≡ option_map t.output_trees (gs.element_outputs p e)
element_outs (d.under (d.signed m g.tilde) e) p = skip_outs m e p (λ q. element_outs e q)
element_outs (d.bare (d.head (d.alone x))) p = target_form p x.mark.gap (d.entire x) x.mark.place
element_outs (d.bare (d.braced x m e z)) p = target_form p x.mark.gap (d.in_braces x m e z) x.mark.place
element_outs (d.call (d.head (d.alone x)) m a z) p = target_form p x.mark.gap (d.indexed x m a z) x.mark.place
element_outs (d.call (d.head (d.dotted h q x)) m a z) p = other_form (outs_before p) (far_from p (t.head_mark h).gap) (form_of (d.call (d.head (d.dotted h q x)) m a z)) (t.head_mark h).place tt
element_outs (d.call (d.braced x q e y) m a z) p = other_form (outs_before p) (far_from p x.mark.gap) (form_of (d.call (d.braced x q e y) m a z)) x.mark.place tt
element_outs (d.rows m d.no_rows z) p = other_form (outs_before p) (far_from p m.gap) form.Nothing m.place tt
element_outs (d.rows m (d.broken rs s) z) p = other_form (outs_before p) (far_from p m.gap) (form_of (d.rows m (d.broken rs s) z)) m.place tt
element_outs (d.rows m (d.filled rs es x s) z) p = other_form (outs_before p) (far_from p m.gap) (form_of (d.rows m (d.filled rs es x s) z)) m.place tt
element_outs (d.rows_to m d.no_rows es d.no_trail z) p = other_form (outs_before p) (far_from p m.gap) (form.Row (elements_of es)) m.place tt
element_outs (d.rows_to m d.no_rows es (d.trail c) z) p = other_form (outs_before p) (far_from p m.gap) (form_of (d.rows_to m d.no_rows es (d.trail c) z)) m.place tt
element_outs (d.rows_to m (d.broken rs s) es x z) p = other_form (outs_before p) (far_from p m.gap) (form_of (d.rows_to m (d.broken rs s) es x z)) m.place tt
element_outs (d.rows_to m (d.filled rs xs y s) es x z) p = other_form (outs_before p) (far_from p m.gap) (form_of (d.rows_to m (d.filled rs xs y s) es x z)) m.place tt
element_outs e p = other_form (outs_before p) (far_from p (t.mark e).gap) (form_of e) (t.mark e).place tt

item_outs : (os : d.Outputs) (c : d.Comma) (i : d.Item) → co.row_outputs (t.output_trees os) (item_of (apart c i) i ∷ []) ≡ option_map t.output_trees (gs.item_outputs (gm.behind_outs os c) i)
item_outs os (d.written m) (d.value e) = element_outs e (gm.behind_outs os (d.written m))
item_outs os (d.written m) (d.colon c) = refl
item_outs os d.space (d.value e) = element_outs e (gm.behind_outs os d.space)
item_outs os d.space (d.colon c) = refl

-- the outputs that a row is
pub row_outs : (es : d.Elements) → co.row_outputs [] (elements_of es) ≡ option_map t.output_trees (gs.row_outputs es)
row_outs (d.one (d.value e)) = element_outs e gm.fresh_outs
row_outs (d.one (d.colon m)) = refl
row_outs (d.also es c i) = row_append (elements_of es) (item_of (apart c i) i ∷ []) [] ∙ (ap (λ x. and_then x (λ more. co.row_outputs more (item_of (apart c i) i ∷ []))) (row_outs es) ∙ by_outs (gs.row_outputs es))
  where
    by_outs : (x : Option d.Outputs) → and_then (option_map t.output_trees x) (λ more. co.row_outputs more (item_of (apart c i) i ∷ [])) ≡ option_map t.output_trees (gs.behind_all x c (λ p. gs.item_outputs p i))
    by_outs None = refl
    by_outs (Some os) = item_outs os c i

-- ---- frames that may be outputs

abbrev has_space : gm.Outgoing → Bool
has_space gm.fresh_outs = false
has_space (gm.behind_outs os (d.written c)) = false
has_space (gm.behind_outs os d.space) = true

-- both say the same of outputs and their place
abbrev pub Agree : Option Outlist → Option gs.Outlist → Type 0
Agree None None = Unit {0}
Agree (Some a) (Some b) = (a.mark ≡ mark_of b.mark) × (a.outputs ≡ outs_before b.outputs) × (a.space ≡ has_space b.outputs) × (a.site ≡ site_of b.site b.block)
Agree x y = ⊥

pending_agree : (m : g.Mark) (p : gm.Pending) (site : gm.Site) (b : d.Block) → Agree (co.cell_outputs (mark_of m) (cells_of p) (site_of site b)) (gs.outlist m site b (gs.pending_outputs p))
pending_agree m gm.fresh site b = (refl, refl, refl, refl)
pending_agree m (gm.behind es c) site b = rw (row_outs es) (by_outs (gs.row_outputs es) refl c)
  where
    by_outs : (x : Option d.Outputs) → gs.row_outputs es ≡ x → (c : d.Comma) → Agree (co.row_list (mark_of m) (option_map t.output_trees (gs.row_outputs es)) (is_space c) (site_of site b)) (gs.outlist m site b (gs.pending_outputs (gm.behind es c)))
    by_outs None e c = rw e tt
    by_outs (Some os) e (d.written m) = rw e (refl, refl, refl, refl)
    by_outs (Some os) e d.space = rw e (refl, refl, refl, refl)

skip_fields : (m : g.Mark) (a : Outlist) (b : gs.Outlist) (p : gm.Outgoing) → a.mark ≡ mark_of b.mark → a.outputs ≡ outs_before p → a.space ≡ has_space p → a.site ≡ site_of b.site b.block → Agree (co.skip_onto (mark_of m) (Some a)) (gs.skip_in m b (gs.set_out p m.gap (d.skip m)))
skip_fields m a b gm.fresh_outs e o s i = rw s (e, ap (λ x. x ++ None ∷ []) o, refl, i)
skip_fields m a b (gm.behind_outs os (d.written c)) e o s i = rw s (e, ap (λ x. x ++ None ∷ []) o, refl, i)
skip_fields m a b (gm.behind_outs os d.space) e o s i = rw s (by_gap m.gap)
  where
    by_gap : (gap : Bool) → Agree (if not gap then None else Some (co.outlist a.mark (a.outputs ++ None ∷ []) (ct.plus 1 a.run) true a.site)) (gs.skip_in m b (gs.set_out (gm.behind_outs os d.space) gap (d.skip m)))
    by_gap true = (e, ap (λ x. x ++ None ∷ []) o, refl, i)
    by_gap false = tt

skip_agree : (m : g.Mark) (x : Option Outlist) (y : Option gs.Outlist) → Agree x y → Agree (co.skip_onto (mark_of m) x) (gs.skip_onto m y)
skip_agree m None None h = tt
skip_agree m None (Some b) h = absurd h
skip_agree m (Some a) None h = absurd h
skip_agree m (Some a) (Some b) h = skip_fields m a b b.outputs h.0 h.1 h.2 h.3

as_agree : (S : gm.Stack) → Agree (co.as_outputs (frames_of S) (bottom_of S)) (gs.as_outputs S)
as_agree (gm.op_of (d.signed m g.tilde) S) = skip_agree m (co.as_outputs (frames_of S) (bottom_of S)) (gs.as_outputs S) (as_agree S)
as_agree (gm.op_of (d.signed m (g.additive g.plus)) S) = tt
as_agree (gm.op_of (d.signed m (g.additive g.minus)) S) = tt
as_agree (gm.row_of m d.no_rows p (gm.goal_of d.shown site b)) = pending_agree m p site b
as_agree S = tt

pub skipped_agree : (S : gm.Stack) → Agree (co.skipped (frames_of S) (bottom_of S)) (gs.skipped S)
unfolding co.skipped
skipped_agree (gm.op_of p S) = as_agree (gm.op_of p S)
skipped_agree S = tt

-- something stands in the outputs
abbrev pub IsFilled : Option gs.Outlist → Type 0
IsFilled None = Unit {0}
IsFilled (Some l) = IsBehind l.outputs
  where
    IsBehind : gm.Outgoing → Type 0
    IsBehind gm.fresh_outs = ⊥
    IsBehind (gm.behind_outs os c) = Unit {0}

skipped_in_filled : (m : g.Mark) (l : gs.Outlist) (x : Option d.Outputs) → IsFilled (gs.skip_in m l x)
skipped_in_filled m l None = tt
skipped_in_filled m l (Some os) = tt

skip_filled : (m : g.Mark) (x : Option gs.Outlist) → IsFilled (gs.skip_onto m x)
skip_filled m None = tt
skip_filled m (Some l) = skipped_in_filled m l (gs.set_out l.outputs m.gap (d.skip m))

pub skipped_filled : (S : gm.Stack) → IsFilled (gs.skipped S)
skipped_filled (gm.op_of (d.signed m g.tilde) S) = skip_filled m (gs.as_outputs S)
skipped_filled S = tt
