-- Where no operation asks: in a frame without doors; and where the language has a value for it, as then no operand is remote.
use Rattle.std.specs.Prelude.{◌&&◌, ◌||◌}
use Rattle.std.proofs.Common.{◌≡◌, ◌∙◌, ℕ, List, [], ◌∷◌, Bool, true, false, Option, Some, None, Result, Ok, Err, refl, sym, ap, subst}
use Rattle.pl_base.specs.declared.errors.ErrKind.{ErrKind}
use Rattle.pl_base.specs.declared.errors.ErrKind.TheVariants.{BadKind}
use Rattle.pl_base.specs.declared.errors.ScriptError.{ScriptError}
use Rattle.pl_base.specs.declared.mode.Mode.{Mode}
use Rattle.pl_array.specs.Arrays.{Array}
use Rattle.pl_index.specs.declared.index.Index.{Index}
use Rattle.pl_index.specs.declared.index.Index.TheVariants as index
use Rattle.pl_index.specs.declared.index.Pos.{Pos}
use Rattle.pl_index.specs.declared.index.Pos.TheVariants.{At}
use Rattle.pl_index.specs.Choosing.{select_of}
use Rattle.pl_syntax.specs.declared.expr.Un.{Un}
use Rattle.pl_syntax.specs.declared.expr.Bin.{Bin}
use Rattle.pl_values.specs.declared.value.Value.{Value, out-Value}
use Rattle.pl_values.specs.declared.value.Value.TheOpen.{Value-F}
use Rattle.pl_operators.specs.declared.argument.Argument.{Argument}
use Rattle.pl_operators.specs.declared.argument.Argument.TheVariants.{Colon, Given}
use Rattle.pl_operators.specs.Operands.{and_then, valued, array_at, array_in, arrays_in}
use Rattle.pl_operators.specs.Operating.{unary_array, unary_of, binary_arrays, binary_of}
use Rattle.pl_operators.specs.Picking.{position_of, index_of, single_index, pick_call, select_at, select_value}
use Rattle.pl_resolve.specs.Functions.{place_in}
use Rattle.pl_meaning.specs.Extras.{is_remote_at, is_remote, any_remote, open_where, given_in, is_remote_read, by_door}
use Rattle.pl_meaning.specs.Logs.{Workspace}
use Rattle.pl_meaning.specs.Running.{Running, raise}
use Rattle.pl_frame.specs.Seeing.{has_some}
use Rattle.pl_frame.proofs.Framed.{Both, raise_any}

-- ## Doors

pub none_asks : (client asks : Bool) (extras : List (List ℕ)) (text : List ℕ) → (client && has_some extras) ≡ false → open_where (client && asks) (place_in extras text) ≡ None
none_asks false asks extras text h = refl
none_asks true true [] text h = refl
none_asks true false [] text h = refl
none_asks true asks (x ∷ more) text h = absurd (cc)

pub unless_asks : (client asks : Bool) (extra : Option ℕ) → asks ≡ false → open_where (client && asks) extra ≡ None
unless_asks false asks extra h = refl
unless_asks true false extra h = refl
unless_asks true true extra h = absurd (cc)

module _ (one other : Workspace) where
  pub both_shut : {A : Type 0} (d d' : Option ℕ) (asks asks' : ℕ → Running A) (p p' : Running A) → d ≡ None → d' ≡ None → Both one other p p' → Both one other (by_door d asks p) (by_door d' asks' p')
  both_shut None None asks asks' p p' h h' P = P
  both_shut None (Some n) asks asks' p p' h h' P = absurd (cc)
  both_shut (Some n) d' asks asks' p p' h h' P = absurd (cc)

  pub raise_shut : {A : Type 0} (d : Option ℕ) (asks : ℕ → Running A) (p p' : Running A) (e : ScriptError) → d ≡ None → p ≡ raise e → Both one other (by_door d asks p) p'
  raise_shut d asks p p' e h is = subst (λ (q : Running _). Both one other q p') (sym (ap (λ (x : Option ℕ). by_door x asks p) h ∙ is)) (raise_any one other e p')

-- ## Operands that are not remote

or_none : (a b : Bool) → a ≡ false → b ≡ false → (a || b) ≡ false
or_none false b h g = g
or_none true b h g = absurd (cc)

here_at : (layer : Value-F Value) (a : Array) → array_at layer ≡ Ok a → is_remote_at layer ≡ false
here_at (Value-F.Array x) a h = refl
here_at layer a h = absurd (cc)

pub array_here : (v : Value) (a : Array) → array_in v ≡ Ok a → is_remote v ≡ false
array_here v a h = here_at (out-Value v) a h

-- the array of an operand without which there is nothing
by_array : {B : Type 0} (v : Value) (r : Result Array ErrKind) → array_in v ≡ r → (g : Array → Result B ErrKind) (b : B) → and_then r g ≡ Ok b → is_remote v ≡ false
by_array v (Ok a) is g b h = array_here v a is
by_array v (Err kind) is g b h = absurd (cc)

valued_ok : (r : Result Array ErrKind) (w : Value) → valued r ≡ Ok w → (a : Array) × (r ≡ Ok a)
valued_ok (Ok a) w h = (a, refl)
valued_ok (Err kind) w h = absurd (cc)

pub unary_here : (mode : Mode) (op : Un) (x v : Value) → unary_of mode op x ≡ Ok v → any_remote (x ∷ []) ≡ false
unary_here mode op x v h =
    let a = valued_ok (and_then (array_in x) (unary_array mode op)) v h in
    or_none (is_remote x) false (by_array x (array_in x) refl (unary_array mode op) a.0 a.1) refl

second_here : (r : Result Array ErrKind) (y : Value) (g : Array → Array → Result Array ErrKind) (b : Array) → and_then r (λ a. and_then (array_in y) (g a)) ≡ Ok b → is_remote y ≡ false
second_here (Ok a) y g b h = by_array y (array_in y) refl (g a) b h
second_here (Err kind) y g b h = absurd (cc)

pub binary_here : (mode : Mode) (op : Bin) (x y v : Value) → binary_of mode op x y ≡ Ok v → any_remote (x ∷ y ∷ []) ≡ false
binary_here mode op x y v h =
    let a = valued_ok (and_then (array_in x) (λ a. and_then (array_in y) (binary_arrays mode op a))) v h in
    or_none (is_remote x) _ (by_array x (array_in x) refl (λ a. and_then (array_in y) (binary_arrays mode op a)) a.0 a.1) (or_none (is_remote y) false (second_here (array_in x) y (binary_arrays mode op) a.0 a.1) refl)

-- ## Indexed reads

position_here : (p : Argument) (more : List Argument) (a : Pos) → position_of p ≡ Ok a → any_remote (given_in more) ≡ false → any_remote (given_in (p ∷ more)) ≡ false
position_here Colon more a h rest = rest
position_here (Given v) more a h rest = or_none (is_remote v) (any_remote (given_in more)) (by_array v (array_in v) refl (λ x. Ok (At x)) a h) rest

index_here : (list : List Argument) (at : Index) → index_of list ≡ Ok at → any_remote (given_in list) ≡ false
index_here [] at h = refl
index_here (p ∷ []) at h = by_position (position_of p) refl h
  where
    by_position : (r : Result Pos ErrKind) → position_of p ≡ r → and_then r (λ a. Ok (index.One a)) ≡ Ok at → any_remote (given_in (p ∷ [])) ≡ false
    by_position (Ok a) is g = position_here p [] a is refl
    by_position (Err kind) is g = absurd (cc)
index_here (p ∷ q ∷ []) at h = by_positions (position_of p) (position_of q) refl refl h
  where
    by_positions : (r s : Result Pos ErrKind) → position_of p ≡ r → position_of q ≡ s → and_then r (λ a. and_then s (λ b. Ok (index.Two a b))) ≡ Ok at → any_remote (given_in (p ∷ q ∷ [])) ≡ false
    by_positions (Ok a) (Ok b) is js g = position_here p (q ∷ []) a is (position_here q [] b js refl)
    by_positions (Ok a) (Err kind) is js g = absurd (cc)
    by_positions (Err kind) s is js g = absurd (cc)
index_here (p ∷ q ∷ r ∷ more) at h = absurd (cc)

by_index : {B : Type 0} (list : List Argument) (r : Result Index ErrKind) → index_of list ≡ r → (g : Index → Result B ErrKind) (b : B) → and_then r g ≡ Ok b → any_remote (given_in list) ≡ false
by_index list (Ok at) is g b h = index_here list at is
by_index list (Err kind) is g b h = absurd (cc)

selected_at : (layer : Value-F Value) (list : List Argument) (x : Value) → select_at layer list ≡ Ok x → (is_remote_at layer || any_remote (given_in list)) ≡ false
selected_at (Value-F.Array a) list x h = let b = valued_ok (and_then (index_of list) (select_of a)) x h in by_index list (index_of list) refl (select_of a) b.0 b.1
selected_at (Value-F.Futures calls) list x h = by_index list (index_of list) refl (λ at. and_then (single_index at) (pick_call calls)) x h
selected_at layer list x h = absurd (cc)

and_none : (a b : Bool) → b ≡ false → (a && b) ≡ false
and_none true b h = h
and_none false b h = refl

pub selected_here : (v : Value) (list : List Argument) (x : Value) → select_value v list ≡ Ok x → is_remote_read v list ≡ false
selected_here v list x h = and_none _ (any_remote (v ∷ given_in list)) (selected_at (out-Value v) list x h)

-- ## Remote arguments are refused

abbrev pub Refused : {A : Type 0} → Result A ErrKind → Type 0
Refused r = (kind : ErrKind) × (r ≡ Err kind)

pub then_refused : {A B : Type 0} (r : Result A ErrKind) (g : A → Result B ErrKind) → Refused r → Refused (and_then r g)
then_refused r g R = (R.0, ap (λ (x : Result _ ErrKind). and_then x g) R.1)

away_at : (layer : Value-F Value) → is_remote_at layer ≡ true → array_at layer ≡ Err BadKind
away_at (Value-F.Array x) h = absurd (cc)
away_at layer h = refl

pub array_away : (v : Value) → is_remote v ≡ true → Refused (array_in v)
array_away v h = (BadKind, away_at (out-Value v) h)

-- one operand and then others
pub first_away : {B : Type 0} (v : Value) (vs : List Value) (g : Array → List Array → Result B ErrKind) → (any_remote vs ≡ true → Refused (arrays_in vs)) → any_remote (v ∷ vs) ≡ true → Refused (and_then (array_in v) (λ a. and_then (arrays_in vs) (g a)))
first_away v vs g rest h = by_first (is_remote v) refl h
  where
    behind : any_remote vs ≡ true → (r : Result Array ErrKind) → Refused (and_then r (λ a. and_then (arrays_in vs) (g a)))
    behind away (Ok a) = then_refused (arrays_in vs) (g a) (rest away)
    behind away (Err kind) = (kind, refl)

    by_first : (b : Bool) → is_remote v ≡ b → (b || any_remote vs) ≡ true → Refused (and_then (array_in v) (λ a. and_then (arrays_in vs) (g a)))
    by_first true is away = then_refused (array_in v) (λ a. and_then (arrays_in vs) (g a)) (array_away v is)
    by_first false is away = behind away (array_in v)

pub arrays_away : (vs : List Value) → any_remote vs ≡ true → Refused (arrays_in vs)
arrays_away [] h = absurd (cc)
arrays_away (v ∷ vs) h = first_away v vs (λ a more. Ok (a ∷ more)) (arrays_away vs) h
