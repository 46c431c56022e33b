-- An operation by its door stops at no question but one of an extra of the program's table, if it doesn't where the door is shut.
use Rattle.std.specs.Prelude.{◌≡◌, ◌<◌, nat_lt, nat_eq, length, codes, ◌&&◌}
use Rattle.std.specs.Cmp.Lexicographic.{pointwise}
use Rattle.std.proofs.Common.{ℕ, List, [], ◌∷◌, Bool, true, false, Option, Some, None, Result, refl}
use Rattle.std.proofs.lemmas.Bool.{lt-ltb}
use Rattle.std.proofs.lemmas.List.Quantifiers.{position-Some}
use Rattle.pl_base.specs.declared.errors.ErrKind.{ErrKind}
use Rattle.pl_base.specs.declared.errors.Place.{Place}
use Rattle.pl_values.specs.declared.value.Value.{Value}
use Rattle.pl_values.specs.Workspaces.{value_at}
use Rattle.pl_operators.specs.declared.argument.Argument.{Argument}
use Rattle.pl_resolve.specs.declared.resolved.Resolved.{Resolved}
use Rattle.pl_resolve.specs.Functions.{place_in}
use Rattle.pl_meaning.specs.declared.event.Answer.{Answer}
use Rattle.pl_meaning.specs.declared.event.ExtraAnswer.{ExtraAnswer}
use Rattle.pl_meaning.specs.declared.event.ExtraAnswer.TheVariants.{Values, Raised}
use Rattle.pl_meaning.specs.Accesses.{read_part}
use Rattle.pl_meaning.specs.Extras.{extra_of, is_remote_read, open_where, operator_door, function_door, read_operands, read_door, by_door, counted, count_calls, replied, heard, extra}
use Rattle.pl_meaning.specs.Parts.{first_of, one_extra, operator, picked}
use Rattle.pl_meaning.specs.Running.{Running}
use Rattle.pl_built.proofs.Asking.{Good, pure_good, raise_good, bind_good, look_good, tell_good, ask_extra_good, settle_good, read_part_good, take_turn_good}

-- a name's place is one of the places
pub place_within : (names : List (List ℕ)) (name : List ℕ) (at : ℕ) → place_in names name ≡ Some at → at < length names
place_within names name at is = (position-Some (pointwise nat_eq name) names at [] is).0

none_some : (n : ℕ) → ◌≡◌ {A = Option ℕ} None (Some n) → ⊥
none_some n e = cc

module _ (program : Resolved) where
  abbrev IsGood : {A : Type 0} → Running A → Type 0
  IsGood p = Good program p

  -- a number of an extra of the table
  abbrev IsExtra : ℕ → Type 0
  IsExtra number = nat_lt number (length program.extras) ≡ true

  -- ## An extra

  count_good : (calls : ℕ) → IsGood (count_calls calls)
  unfolding count_calls
  count_good calls = record { at = λ n. record { fine = λ wide k k' h h' K H s w. K tt (record s { calls = counted s.calls calls }) w } }

  replied_good : (place : Place) (reply : ExtraAnswer) → IsGood (replied place reply)
  replied_good place (Values vs) = pure_good program vs
  replied_good place (Raised kind text at) = raise_good program _

  heard_good : (place : Place) (a : Answer) → IsGood (heard place a)
  heard_good place (Answer.Extra reply text calls) = bind_good program _ (tell_good program _) (λ u. bind_good program _ (count_good calls) (λ w. replied_good place reply))
  heard_good place a = raise_good program _

  pub extra_good : (place : Place) (number : ℕ) (vs : List Value) (nout : ℕ) → IsExtra number → IsGood (extra place number vs nout)
  unfolding extra
  extra_good place number vs nout within = bind_good program _ (take_turn_good program place) (λ u. bind_good program _ (ask_extra_good program number vs nout within) (λ a. heard_good place a))

  pub first_good : (place : Place) (vs : List Value) → IsGood (first_of place vs)
  first_good place [] = raise_good program _
  first_good place (v ∷ more) = pure_good program v

  one_good : (place : Place) (vs : List Value) (number : ℕ) → IsExtra number → IsGood (one_extra place vs number)
  one_good place vs number within = bind_good program _ (extra_good place number vs 1 within) (λ outs. first_good place outs)

  -- ## Doors

  extra_within : (text : List ℕ) (number : ℕ) → extra_of program text ≡ Some number → IsExtra number
  extra_within text number is = lt-ltb number (length program.extras) (place_within program.extras text number is)

  open_within : (asks : Bool) (text : List ℕ) (number : ℕ) → open_where asks (extra_of program text) ≡ Some number → IsExtra number
  open_within true text number is = extra_within text number is
  open_within false text number is = absurd (none_some number is)

  read_within : (client : Bool) (v : Option Value) (list : List Argument) (number : ℕ) → read_door program client v list ≡ Some number → IsExtra number
  read_within client None list number is = absurd (none_some number is)
  read_within client (Some v) list number is = open_within (client && is_remote_read v list) (codes "()") number is

  by_door_good : {A : Type 0} (door : Option ℕ) (asks : ℕ → Running A) (shut : Running A) → ((number : ℕ) → door ≡ Some number → IsGood (asks number)) → IsGood shut → IsGood (by_door door asks shut)
  by_door_good None asks shut A S = S
  by_door_good (Some number) asks shut A S = A number refl

  pub operator_good : (client : Bool) (place : Place) (sign : List ℕ) (vs : List Value) (r : Result Value ErrKind) → IsGood (operator program client place sign vs r)
  operator_good client place sign vs r = by_door_good (operator_door program client sign vs) (one_extra place vs) _ (λ number is. one_good place vs number (open_within _ sign number is)) (settle_good program place r)

  pub function_good : (client : Bool) (place : Place) (name : List ℕ) (nout : ℕ) (vs : List Value) (shut : Running (List Value)) → IsGood shut → IsGood (by_door (function_door program client name vs) (λ number. extra place number vs nout) shut)
  function_good client place name nout vs shut S = by_door_good (function_door program client name vs) (λ number. extra place number vs nout) shut (λ number is. extra_good place number vs nout (open_within _ name number is)) S

  pub picked_good : (client : Bool) (slot : ℕ) (place : Place) (list : List Argument) → IsGood (picked program client slot place list)
  unfolding picked
  picked_good client slot place list =
      look_good program (λ s. by_door (read_door program client (value_at s.env slot) list) (one_extra place (read_operands (value_at s.env slot) list)) (read_part slot place list))
      (λ s. by_door_good (read_door program client (value_at s.env slot) list) (one_extra place (read_operands (value_at s.env slot) list)) (read_part slot place list) (λ number is. one_good place (read_operands (value_at s.env slot) list) number (read_within client (value_at s.env slot) list number is)) (read_part_good program slot place list))
      (λ s. refl)
