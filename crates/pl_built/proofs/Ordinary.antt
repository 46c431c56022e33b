-- A loop over workers of which a run asks meets what the laws of such loops suppose of its form and its workspace.
use Rattle.std.proofs.Common.{◌≡◌, ◌∙◌, ℕ, ◌<◌, ◌⊎◌, inl, inr, length, List, true, Option, Some, None, arith, refl, ap}
use Rattle.pl_resolve.specs.declared.resolved.Resolved.{Resolved}
use Rattle.pl_values.specs.declared.value.Value.{Value}
use Rattle.pl_values.specs.declared.value.Value.TheVariants as value
use Rattle.pl_values.specs.Workspaces.{value_at}
use Rattle.pl_meaning.specs.Forms.{is_form}
use Rattle.pl_meaning.specs.Loops.{body_frame}
use Rattle.pl_meaning.specs.Logs.{Workspace, LoopQuestion, OfLoop}
use Rattle.pl_meaning.specs.Names.{names_in, slot_of}
use Rattle.pl_unbuilt.specs.Unbuilt.{unbuilt_of}
use Rattle.pl_frame.specs.Ordering.{HasArray, IsNew, IsReady}
use Rattle.pl_frame.proofs.Ordinary.{ordinary}
use Rattle.pl_built.specs.Ordinary.{IsAsked, AreFull, ReadyLaw, AskedOrdinaryLaw}
use Rattle.pl_built.proofs.Doors.{place_within}
use Rattle.pl_built.proofs.Runs.{asked_law, slots_law, laid_there}

module _ (program : Resolved) (unbuilt : unbuilt_of program ≡ None) (q : LoopQuestion) (env : Workspace) (asked : IsAsked program q env) where
  form_there : is_form program (body_frame q) q.index q.body ≡ true
  form_there = asked_law program unbuilt asked.start asked.turns asked.depth asked.rules asked.choices (OfLoop q) env asked.stops

  -- a workspace with a slot for each name has one for each name
  slot_there : (name : List ℕ) (at : ℕ) → slot_of program (body_frame q) name ≡ Some at → at < length env
  slot_there name at is =
      let long : length env ≡ length (names_in program q.scope) = slots_law program unbuilt asked.start asked.turns asked.depth asked.rules asked.choices asked.begun q env asked.stops in
      let within : at < length (names_in program q.scope) = place_within (names_in program q.scope) name at is in
      omega arith

  -- an array that the checks found, or an empty slot
  ready_there : AreFull program q env → IsReady program q env
  ready_there full n slot among is = by_value (value_at env slot) refl
    where
      by_value : (o : Option Value) → value_at env slot ≡ o → HasArray env slot ⊎ IsNew env slot
      by_value None e = inr (slot_there n.text slot is, e)
      by_value (Some v) e =
          let found = laid_there program unbuilt asked.start asked.turns asked.depth asked.rules asked.choices q env asked.stops n slot among is v e in
          let array : value_at env slot ≡ Some (value.Array found.0) = e ∙ ap Some found.1 in
          inl (found.0, array, full n slot found.0 among is array)

pub asked_ready : ReadyLaw
asked_ready program unbuilt q env asked full = (form_there program unbuilt q env asked, slot_there program unbuilt q env asked q.index.text, ready_there program unbuilt q env asked full)

pub asked_ordinary : AskedOrdinaryLaw
asked_ordinary program unbuilt q env asked full turns depth levels c l answers ended =
    ordinary program turns depth levels q env c l (form_there program unbuilt q env asked) (slot_there program unbuilt q env asked q.index.text) (ready_there program unbuilt q env asked full) answers ended
