-- A function of the library looks at no workspace, and asks nothing: where an argument is remote, it raises an error.
use Rattle.std.specs.Prelude.{if◌then◌else◌, nat_lt, ◌&&◌, ◌||◌, not, is_none, length, replicate}
use Rattle.std.proofs.Common.{◌≡◌, ◌∙◌, ℕ, List, [], ◌∷◌, Bool, true, false, Option, Some, None, Result, Ok, Err, refl, ap}
use Rattle.pl_base.specs.declared.errors.ErrKind.{ErrKind}
use Rattle.pl_base.specs.declared.errors.ErrKind.TheVariants.{ArgCount, BadKind}
use Rattle.pl_base.specs.declared.errors.Place.{Place}
use Rattle.pl_base.specs.declared.errors.ScriptError.{ScriptError}
use Rattle.pl_base.specs.declared.mode.Mode.{Mode}
use Rattle.pl_errors.specs.Errors.{error_of}
use Rattle.pl_array.specs.Arrays.{Array}
use Rattle.pl_syntax.specs.declared.expr.Name.{Name}
use Rattle.pl_text.specs.Displayed.{displayed}
use Rattle.pl_text.specs.Literal.{mat2str_of}
use Rattle.pl_text.specs.Numerals.{num2str_of}
use Rattle.pl_values.specs.declared.value.Value.{Value}
use Rattle.pl_operators.specs.Operands.{and_then}
use Rattle.pl_resolve.specs.declared.resolved.Resolved.{Resolved}
use Rattle.pl_meaning.specs.declared.event.Event.TheVariants.{Print}
use Rattle.pl_meaning.specs.declared.known.Known.{Known}
use Rattle.pl_meaning.specs.declared.known.Known.TheVariants as known
use Rattle.pl_meaning.specs.declared.known.Own.{Own}
use Rattle.pl_meaning.specs.declared.known.Own.TheVariants.{Disp, Fprintf, Sprintf, Error, NumToStr, MatToStr, Feval}
use Rattle.pl_meaning.specs.declared.frame.Frame.{Frame}
use Rattle.pl_meaning.specs.Accesses.{fail, settle}
use Rattle.pl_meaning.specs.Extras.{is_remote, any_remote, is_lone, extra_of, function_door, extra}
use Rattle.pl_meaning.specs.Known.{known_of, is_feval}
use Rattle.pl_meaning.specs.Library.{offering, one_array, patterned, text_by, text_row, given_array, printed, error_by, own_of, empty_array, unless_counts, on_arrays, as_values, tabled, library}
use Rattle.pl_meaning.specs.Logs.{Workspace}
use Rattle.pl_meaning.specs.Forms.{is_plain}
use Rattle.pl_meaning.specs.Parts.{Level, known_call, dispatched, fed}
use Rattle.pl_meaning.specs.Running.{Running, raise, ◌>>=◌}
use Rattle.pl_frame.specs.Seeing.{has_doors}
use Rattle.pl_frame.proofs.Framed.{Both, framed_pure, framed_raise, framed_settle, framed_tell, framed_bind, framed_choice}
use Rattle.pl_frame.proofs.Doors.{none_asks, unless_asks, both_shut, raise_shut, Refused, then_refused, array_away, first_away, arrays_away}

-- ## Remote arguments are refused

abbrev Raises : {A : Type 0} → Running A → Type 0
Raises p = (e : ScriptError) × (p ≡ raise e)

settle_raises : {A B : Type 0} (place : Place) (r : Result A ErrKind) (g : A → Running B) → Refused r → Raises (settle place r >>= g)
settle_raises place r g R = (error_of R.0 place, ap (λ (x : Result _ ErrKind). settle place x >>= g) R.1)

offered_raises : {A : Type 0} (most nout : ℕ) (place : Place) (p : Running A) → Raises p → Raises (offering most nout place p)
offered_raises most nout place p P = by_count (nat_lt most nout)
  where
    by_count : (b : Bool) → Raises (if b then fail ArgCount place else p)
    by_count true = (error_of ArgCount place, refl)
    by_count false = P

one_away : (vs : List Value) → any_remote vs ≡ true → Refused (one_array vs)
one_away [] h = absurd (cc)
one_away (v ∷ []) h = array_away v (first_of (is_remote v) h)
  where
    first_of : (b : Bool) → (b || false) ≡ true → b ≡ true
    first_of true h = refl
    first_of false h = absurd (cc)
one_away (v ∷ w ∷ more) h = (ArgCount, refl)

text_away : (vs : List Value) → any_remote vs ≡ true → Refused (text_by vs)
text_away [] h = absurd (cc)
text_away (p ∷ vs) h = first_away p vs patterned (arrays_away vs) h

own_raises : (place : Place) (f : Own) (nout : ℕ) (vs : List Value) → any_remote vs ≡ true → Raises (own_of place f nout vs)
own_raises place Disp nout vs h = offered_raises 0 nout place _ (settle_raises place (one_array vs) (λ a. printed (displayed a)) (one_away vs h))
own_raises place Fprintf nout vs h = offered_raises 0 nout place _ (settle_raises place (text_by vs) (λ text. printed text) (text_away vs h))
own_raises place Sprintf nout vs h = offered_raises 1 nout place _ (settle_raises place (and_then (text_by vs) text_row) (λ a. given_array a) (then_refused (text_by vs) text_row (text_away vs h)))
own_raises place Error nout vs h = offered_raises 0 nout place _ (settle_raises place (text_by vs) (λ text. error_by place text) (text_away vs h))
own_raises place NumToStr nout vs h = offered_raises 1 nout place _ (settle_raises place (and_then (one_array vs) num2str_of) (λ a. given_array a) (then_refused (one_array vs) num2str_of (one_away vs h)))
own_raises place MatToStr nout vs h = offered_raises 1 nout place _ (settle_raises place (and_then (one_array vs) mat2str_of) (λ a. given_array a) (then_refused (one_array vs) mat2str_of (one_away vs h)))
own_raises place Feval nout vs h = (error_of BadKind place, refl)

counts_refused : (kind : ErrKind) (r : Result (List Array) ErrKind) → Refused (unless_counts kind r)
counts_refused kind (Ok arrays) = (kind, refl)
counts_refused kind (Err ArgCount) = (ArgCount, refl)
counts_refused kind (Err other) = (kind, refl)

tabled_raises : (place : Place) (call : List Array → Result (List Array) ErrKind) (vs : List Value) → any_remote vs ≡ true → Raises (tabled place call vs)
tabled_raises place call vs h =
    let R = arrays_away vs h in
    let C = counts_refused R.0 (call (replicate (length vs) empty_array)) in
    (error_of C.0 place, ap (λ (r : Result (List Array) ErrKind). settle place (as_values (on_arrays call (length vs) r))) R.1 ∙ ap (λ (r : Result (List Array) ErrKind). settle place (as_values r)) C.1)

library_raises : (mode : Mode) (place : Place) (f : Known) (nout : ℕ) (vs : List Value) → any_remote vs ≡ true → Raises (library mode place f nout vs)
unfolding library
library_raises mode place (known.Own f) nout vs h = own_raises place f nout vs h
library_raises mode place (known.Numbers f) nout vs h = tabled_raises place _ vs h
library_raises mode place (known.Sets f) nout vs h = tabled_raises place _ vs h

not_first_raises : {A : Type 0} (b : Bool) (p q : Running A) → not b ≡ true → Raises q → Raises (if b then p else q)
not_first_raises false p q h Q = Q
not_first_raises true p q h Q = absurd (cc)

module _ (one other : Workspace) where
  offered : {A : Type 0} (most nout : ℕ) (place : Place) (p p' : Running A) → Both one other p p' → Both one other (offering most nout place p) (offering most nout place p')
  offered most nout place p p' P = framed_choice one other (nat_lt most nout) (fail ArgCount place) (fail ArgCount place) p p' (framed_raise one other (error_of ArgCount place)) P

  print_framed : (text : List ℕ) → Both one other (printed text) (printed text)
  print_framed text = framed_bind one other _ _ (framed_tell one other (Print text)) (λ u. framed_pure one other [])

  own_framed : (place : Place) (f : Own) (nout : ℕ) (vs : List Value) → Both one other (own_of place f nout vs) (own_of place f nout vs)
  own_framed place Disp nout vs = offered 0 nout place _ _ (framed_bind one other _ _ (framed_settle one other place (one_array vs)) (λ a. print_framed (displayed a)))
  own_framed place Fprintf nout vs = offered 0 nout place _ _ (framed_bind one other _ _ (framed_settle one other place (text_by vs)) (λ text. print_framed text))
  own_framed place Sprintf nout vs = offered 1 nout place _ _ (framed_bind one other given_array given_array (framed_settle one other place (and_then (text_by vs) text_row)) (λ a. framed_pure one other _))
  own_framed place Error nout vs = offered 0 nout place _ _ (framed_bind one other _ _ (framed_settle one other place (text_by vs)) (λ text. framed_raise one other _))
  own_framed place NumToStr nout vs = offered 1 nout place _ _ (framed_bind one other given_array given_array (framed_settle one other place (and_then (one_array vs) num2str_of)) (λ a. framed_pure one other _))
  own_framed place MatToStr nout vs = offered 1 nout place _ _ (framed_bind one other given_array given_array (framed_settle one other place (and_then (one_array vs) mat2str_of)) (λ a. framed_pure one other _))
  own_framed place Feval nout vs = framed_raise one other (error_of BadKind place)

  library_framed : (mode : Mode) (place : Place) (f : Known) (nout : ℕ) (vs : List Value) → Both one other (library mode place f nout vs) (library mode place f nout vs)
  unfolding library
  library_framed mode place (known.Own f) nout vs = own_framed place f nout vs
  library_framed mode place (known.Numbers f) nout vs = framed_settle one other place _
  library_framed mode place (known.Sets f) nout vs = framed_settle one other place _

  not_first : {A : Type 0} (b : Bool) (p p' q q' : Running A) → not b ≡ true → Both one other q q' → Both one other (if b then p else q) (if b then p' else q')
  not_first false p p' q q' h Q = Q
  not_first true p p' q q' h Q = absurd (cc)

  -- a call by a name that stands for a function of the library, where the first frame has no doors
  pub dispatched_framed : (program : Resolved) (f : Frame) → has_doors program f ≡ false → (client : Bool) (d d' : Level) (n : Name) (nout : ℕ) (vs : List Value) (o : Option ℕ) (k : Option Known) → known_of n.text ≡ k → (is_none o && is_plain k) ≡ true → Both one other (dispatched program d f.client n nout vs o k) (dispatched program d' client n nout vs o k)
  dispatched_framed program f shut client d d' n nout vs None (Some k) is h = by_remote (any_remote vs) refl
    where
      here_shut : function_door program f.client n.text vs ≡ None
      here_shut = none_asks f.client (is_lone n.text (known_of n.text) || any_remote vs) program.extras n.text shut

      there_shut : any_remote vs ≡ false → function_door program client n.text vs ≡ None
      there_shut near = unless_asks client (is_lone n.text (known_of n.text) || any_remote vs) (extra_of program n.text) (ap (λ (x : Option Known). is_lone n.text x || any_remote vs) is ∙ near)

      by_remote : (b : Bool) → any_remote vs ≡ b → Both one other (dispatched program d f.client n nout vs None (Some k)) (dispatched program d' client n nout vs None (Some k))
      by_remote false near =
          both_shut one other (function_door program f.client n.text vs) (function_door program client n.text vs) (λ number. extra n.place number vs nout) (λ number. extra n.place number vs nout) (known_call program d f.client n.place nout vs (Some k)) (known_call program d' client n.place nout vs (Some k)) here_shut (there_shut near)
          (not_first (is_feval k) (fed program d f.client n.place nout vs) (fed program d' client n.place nout vs) (library program.mode n.place k nout vs) (library program.mode n.place k nout vs) h (library_framed program.mode n.place k nout vs))
      by_remote true away =
          let R = not_first_raises (is_feval k) (fed program d f.client n.place nout vs) (library program.mode n.place k nout vs) h (library_raises program.mode n.place k nout vs away) in
          raise_shut one other (function_door program f.client n.text vs) (λ number. extra n.place number vs nout) (known_call program d f.client n.place nout vs (Some k)) (dispatched program d' client n nout vs None (Some k)) R.0 here_shut R.1
  dispatched_framed program f shut client d d' n nout vs None None is h = absurd (cc)
  dispatched_framed program f shut client d d' n nout vs (Some i) k is h = absurd (cc)
