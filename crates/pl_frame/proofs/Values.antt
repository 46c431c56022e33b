-- An expression of the form only reads its workspace, in a frame without doors; and where it has a value there, it has the same in a run with
-- more levels, on the client, and where the function in which it stands was called with other counts.
use Rattle.std.specs.Prelude.{if◌then◌else◌, codes, ◌&&◌, ◌||◌, not, is_none, is_some, option_map}
use Rattle.std.specs.List.{list_all}
use Rattle.std.specs.Cmp.Lexicographic.{same_text}
use Rattle.std.proofs.Common.{◌≡◌, ◌∙◌, ℕ, zero, suc, ◌≤◌, ℤ, List, [], ◌∷◌, ◌++◌, length, map, Bool, true, false, Option, Some, None, Result, Ok, Err, arith, refl, sym, ap}
use Rattle.pl_base.specs.declared.choice.Choice.{Choice}
use Rattle.pl_base.specs.declared.errors.Place.{Place}
use Rattle.pl_base.specs.declared.errors.ErrKind.{ErrKind}
use Rattle.pl_base.specs.declared.errors.ErrKind.TheVariants.{TooDeep, NoValue, ArgCount, BadKind, BadIndex, WrongPlace}
use Rattle.pl_base.specs.declared.errors.ScriptError.{ScriptError}
use Rattle.pl_errors.specs.Errors.{error_of}
use Rattle.pl_syntax.specs.Signs.{unary_sign, binary_sign}
use Rattle.pl_syntax.specs.declared.expr.Name.{Name}
use Rattle.pl_syntax.specs.declared.expr.Un.{Un}
use Rattle.pl_syntax.specs.declared.expr.Bin.{Bin}
use Rattle.pl_syntax.specs.declared.expr.Bin.TheVariants.{AndAlso, OrElse}
use Rattle.pl_syntax.specs.declared.expr.Expr.{Expr, out-Expr}
use Rattle.pl_syntax.specs.declared.expr.ExprKind.{ExprKind, out-ExprKind}
use Rattle.pl_syntax.specs.declared.expr.ExprKind.TheOpen.{ExprKind-F}
use Rattle.pl_values.specs.declared.value.Value.{Value}
use Rattle.pl_values.specs.Workspaces.{value_at}
use Rattle.pl_operators.specs.declared.argument.Argument.{Argument}
use Rattle.pl_operators.specs.declared.argument.Argument.TheVariants.{Colon, Given}
use Rattle.pl_operators.specs.Operating.{unary_of, binary_of, switch_of}
use Rattle.pl_operators.specs.Ranging.{range_of}
use Rattle.pl_operators.specs.Bracketing.{rows_of, chars_of, number_of}
use Rattle.pl_operators.specs.Picking.{select_value}
use Rattle.pl_resolve.specs.declared.resolved.Resolved.{Resolved}
use Rattle.pl_meaning.specs.declared.frame.Frame.{Frame}
use Rattle.pl_meaning.specs.declared.frame.Ends.{Ends}
use Rattle.pl_meaning.specs.Logs.{Workspace}
use Rattle.pl_meaning.specs.Names.{slot_of, function_of}
use Rattle.pl_meaning.specs.Known.{known_of, same}
use Rattle.pl_meaning.specs.Accesses.{fail, settle, read, read_of, check, check_of, read_part, selected_of, read_end, end_of}
use Rattle.pl_meaning.specs.Running.{Running, Rest, ◌>>=◌}
use Rattle.pl_meaning.specs.Extras.{any_remote, extra_of, operator_door, is_remote_read, read_operands, read_door, by_door}
use Rattle.pl_meaning.specs.Parts.{Level, enter, argument_at, argument_of, places_from, places, given_of, values_from, values, elements_from, elements, rows_from, rows, Values, unary, binary, switch, second, both, other as or_other, either, operated, step_of, range, bracket, one_extra, operator, picked, indexed, end_word, first_of, call_name, applied, called, variable_or_call, index_or_call, compound_of, compound, value_of, value_in, below}
use Rattle.pl_meaning.specs.Forms.{Read, read_of as read_expr, read_kind, is_among, all_fit, only_index, step_fits, stands, is_plain}
use Rattle.pl_meaning.specs.Loops.{own_places}
use Rattle.pl_frame.specs.Seeing.{Course, onward, standing, has_doors, Comes_to, Framed, Alike, same_end, inside_of}
use Rattle.pl_frame.proofs.Framed.{Both, framed_both, framed_pure, raise_any, framed_raise, framed_settle, framed_bind, framed_look, no_value}
use Rattle.pl_frame.proofs.Layers.{parts, read_parts}
use Rattle.pl_frame.proofs.Doors.{none_asks, unless_asks, both_shut, raise_shut, unary_here, binary_here, selected_here}
use Rattle.pl_frame.proofs.Functions.{dispatched_framed}
use Rattle.pl_frame.specs.Reading.{FrameLaw}

pub and_first : (a b : Bool) → (a && b) ≡ true → a ≡ true
and_first true b h = refl
and_first false b h = h

pub and_second : (a b : Bool) → (a && b) ≡ true → b ≡ true
and_second true b h = h
and_second false b h = absurd (cc)

pub not_true : (b : Bool) → not b ≡ true → b ≡ false
not_true false h = refl
not_true true h = absurd (cc)

module _ (program : Resolved) (f : Frame) (index : Name) (written : List Name) (i : ℤ) (at : ℕ) where
  -- the index has its value in any workspace that has it there
  abbrev At_index : Values → Frame → Type 0
  At_index value F = (ends : Option Ends) (e : Expr) → (read_expr program f index written e).is_index ≡ true → (env : Workspace) → value_at env at ≡ Some (number_of i) → Comes_to (argument_of value (inside_of F ends) e) env [] (Ok (Given (number_of i)))

  -- the index list of a variable that the body writes: the index alone
  own_list_by : (value : Values) (F : Frame) → At_index value F → (ends : Option Ends) (slot : ℕ) (es : List Expr) → only_index (map (read_expr program f index written) es) ≡ true → (env : Workspace) → value_at env at ≡ Some (number_of i) → Comes_to (places value (inside_of F ends) slot es) env [] (Ok (own_places i))
  unfolding places
  own_list_by value F I ends slot [] h env here = absurd (cc)
  own_list_by value F I ends slot (e ∷ []) h env here = λ k g t c r. I (Some (record { slot = slot; position = 0; count = 1 })) e h env here _ g t c r
  own_list_by value F I ends slot (e ∷ x ∷ more) h env here = absurd (cc)

module _ (program : Resolved) (f : Frame) (index : Name) (written : List Name) (i : ℤ) (one other : Workspace) (alike : Alike program f index written i one other) (at : ℕ) (at_is : slot_of program f index.text ≡ Some at) (client : Bool) (given wanted : ℕ) (shut : has_doors program f ≡ false) where
  -- the frame of the other run
  abbrev f' : Frame
  f' = record { client = client; scope = f.scope; given = given; wanted = wanted; ends = f.ends }

  abbrev read_it : Expr → Read
  read_it = read_expr program f index written

  -- expressions of a list, each of which only reads inside any index
  abbrev Each : Values → Values → List Expr → Type 0
  Each value value' [] = Unit {0}
  Each value value' (e ∷ es) = ((ends : Option Ends) → same_end one other ends → Both one other (value (inside_of f ends) e) (value' (inside_of f' ends) e)) × Each value value' es

  -- what is shown of the values at the levels of both runs
  pub record Framings (value value' : Values) : Type 0 where
    pub only_reads : (ends : Option Ends) → same_end one other ends → (e : Expr) → (read_it e).fits ≡ true → Both one other (value (inside_of f ends) e) (value' (inside_of f' ends) e)
    pub at_index : At_index program f index written i at value f
    pub there_at_index : At_index program f index written i at value' f'
    pub index_reads : (ends : Option Ends) (e : Expr) → (read_it e).is_index ≡ true → Both one other (value (inside_of f ends) e) (value' (inside_of f' ends) e)

  -- the other run has as many levels, or more
  abbrev Below : Option Level → Option Level → Type 0
  Below None l' = Unit {0}
  Below (Some d) None = ⊥
  Below (Some d) (Some d') = Framings d.value d'.value

  each_fits : (value value' : Values) → Framings value value' → (es : List Expr) → all_fit (map read_it es) ≡ true → Each value value' es
  each_fits value value' D [] h = tt
  each_fits value value' D (e ∷ es) h = (λ ends s. D.only_reads ends s e (and_first (read_it e).fits (all_fit (map read_it es)) h), each_fits value value' D es (and_second (read_it e).fits (all_fit (map read_it es)) h))

  each_index : (value value' : Values) → Framings value value' → (es : List Expr) → only_index (map read_it es) ≡ true → Each value value' es
  each_index value value' D [] h = tt
  each_index value value' D (e ∷ []) h = (λ ends s. D.index_reads ends e h, tt)
  each_index value value' D (e ∷ g ∷ more) h = absurd (cc)

  entering : {A : Type 0} (l l' : Option Level) → Below l l' → (place : Place) (g g' : Level → Running A) → ((d d' : Level) → Framings d.value d'.value → Both one other (g d) (g' d')) → Both one other (enter l place g) (enter l' place g')
  entering None l' L place g g' G = raise_any one other (error_of TooDeep place) _
  entering (Some d) None L place g g' G = absurd L
  entering (Some d) (Some d') L place g g' G = G d d' L

  -- ## Lists

  argument_kind : (p p' : Running Value) → Both one other p p' → (kind : ExprKind-F ExprKind Expr) → Both one other (argument_at p kind) (argument_at p' kind)
  argument_kind p p' P ExprKind-F.Colon = framed_pure one other Colon
  argument_kind p p' P kind = framed_bind one other _ _ P (λ v. framed_pure one other (Given v))

  argument_framed : (value value' : Values) (ends : Option Ends) (e : Expr) → Both one other (value (inside_of f ends) e) (value' (inside_of f' ends) e) → Both one other (argument_of value (inside_of f ends) e) (argument_of value' (inside_of f' ends) e)
  argument_framed value value' ends e P = argument_kind _ _ P (out-ExprKind (out-Expr e).kind)

  given_framed : (place : Place) (a : Argument) → Both one other (given_of place a) (given_of place a)
  given_framed place Colon = framed_raise one other (error_of BadKind place)
  given_framed place (Given v) = framed_pure one other v

  values_next : (value value' : Values) (ends : Option Ends) → same_end one other ends → (place : Place) (done : List Value) (es : List Expr) → Each value value' es → Both one other (values_from value (inside_of f ends) place done es) (values_from value' (inside_of f' ends) place done es)
  values_next value value' ends s place done [] each = framed_pure one other done
  values_next value value' ends s place done (e ∷ es) each =
      framed_bind one other _ _ (argument_framed value value' ends e (each.0 ends s)) (λ a. framed_bind one other _ _ (given_framed place a) (λ v. values_next value value' ends s place (done ++ v ∷ []) es each.1))

  elements_next : (value value' : Values) (ends : Option Ends) → same_end one other ends → (done : List Value) (es : List Expr) → Each value value' es → Both one other (elements_from value (inside_of f ends) done es) (elements_from value' (inside_of f' ends) done es)
  elements_next value value' ends s done [] each = framed_pure one other done
  elements_next value value' ends s done (e ∷ es) each = framed_bind one other _ _ (each.0 ends s) (λ v. elements_next value value' ends s (done ++ v ∷ []) es each.1)

  rows_next : (value value' : Values) → Framings value value' → (ends : Option Ends) → same_end one other ends → (done : List (List Value)) (ess : List (List Expr)) → list_all all_fit (map (map read_it) ess) ≡ true → Both one other (rows_from value (inside_of f ends) done ess) (rows_from value' (inside_of f' ends) done ess)
  unfolding elements
  rows_next value value' D ends s done [] h = framed_pure one other done
  rows_next value value' D ends s done (es ∷ more) h =
      let first : all_fit (map read_it es) ≡ true = and_first (all_fit (map read_it es)) (list_all all_fit (map (map read_it) more)) h in
      let next : list_all all_fit (map (map read_it) more) ≡ true = and_second (all_fit (map read_it es)) (list_all all_fit (map (map read_it) more)) h in
      framed_bind one other _ _ (elements_next value value' ends s [] es (each_fits value value' D es first)) (λ vs. rows_next value value' D ends s (done ++ vs ∷ []) more next)

  places_next : (value value' : Values) (ends : Option Ends) (slot count : ℕ) → value_at one slot ≡ value_at other slot → (done : List Argument) (es : List Expr) → Each value value' es → Both one other (places_from value (inside_of f ends) slot count done es) (places_from value' (inside_of f' ends) slot count done es)
  places_next value value' ends slot count s done [] each = framed_pure one other done
  places_next value value' ends slot count s done (e ∷ es) each =
      let inner : Option Ends = Some (record { slot = slot; position = length done; count = count }) in
      framed_bind one other _ _ (argument_framed value value' inner e (each.0 inner s)) (λ a. places_next value value' ends slot count s (done ++ a ∷ []) es each.1)

  -- ## Operators

  -- an operator of which the language has a value asks in neither frame
  operator_framed : (place : Place) (sign : List ℕ) (vs : List Value) (r : Result Value ErrKind) → ((v : Value) → r ≡ Ok v → any_remote vs ≡ false) → Both one other (operator program f.client place sign vs r) (operator program client place sign vs r)
  operator_framed place sign vs (Ok v) here =
      both_shut one other (operator_door program f.client sign vs) (operator_door program client sign vs) (one_extra place vs) (one_extra place vs) (settle place (Ok v)) (settle place (Ok v))
      (none_asks f.client (any_remote vs) program.extras sign shut) (unless_asks client (any_remote vs) (extra_of program sign) (here v refl)) (framed_pure one other v)
  operator_framed place sign vs (Err kind) here =
      raise_shut one other (operator_door program f.client sign vs) (one_extra place vs) (settle place (Err kind)) (operator program client place sign vs (Err kind)) (error_of kind place)
      (none_asks f.client (any_remote vs) program.extras sign shut) refl

  unary_framed : (value value' : Values) → Framings value value' → (ends : Option Ends) → same_end one other ends → (place : Place) (op : Un) (a : Expr) → (read_it a).fits ≡ true → Both one other (unary program value (inside_of f ends) place op a) (unary program value' (inside_of f' ends) place op a)
  unfolding unary
  unary_framed value value' D ends s place op a h = framed_bind one other _ _ (D.only_reads ends s a h) (λ x. operator_framed place (unary_sign op) (x ∷ []) (unary_of program.mode op x) (unary_here program.mode op x))

  switch_framed : (value value' : Values) → Framings value value' → (ends : Option Ends) → same_end one other ends → (place : Place) (a : Expr) → (read_it a).fits ≡ true → Both one other (switch value (inside_of f ends) place a) (switch value' (inside_of f' ends) place a)
  unfolding switch
  switch_framed value value' D ends s place a h = framed_bind one other _ _ (D.only_reads ends s a h) (λ x. framed_settle one other place (switch_of x))

  second_framed : (value value' : Values) → Framings value value' → (ends : Option Ends) → same_end one other ends → (place : Place) (b : Expr) → (read_it b).fits ≡ true → (left : Bool) → Both one other (second value (inside_of f ends) place b left) (second value' (inside_of f' ends) place b left)
  second_framed value value' D ends s place b h true = framed_bind one other _ _ (switch_framed value value' D ends s place b h) (λ x. framed_pure one other _)
  second_framed value value' D ends s place b h false = framed_pure one other _

  other_framed : (value value' : Values) → Framings value value' → (ends : Option Ends) → same_end one other ends → (place : Place) (b : Expr) → (read_it b).fits ≡ true → (left : Bool) → Both one other (or_other value (inside_of f ends) place b left) (or_other value' (inside_of f' ends) place b left)
  other_framed value value' D ends s place b h false = framed_bind one other _ _ (switch_framed value value' D ends s place b h) (λ x. framed_pure one other _)
  other_framed value value' D ends s place b h true = framed_pure one other _

  binary_framed : (value value' : Values) → Framings value value' → (ends : Option Ends) → same_end one other ends → (place : Place) (op : Bin) (a b : Expr) → (read_it a).fits ≡ true → (read_it b).fits ≡ true → Both one other (binary program value (inside_of f ends) place op a b) (binary program value' (inside_of f' ends) place op a b)
  unfolding binary
  binary_framed value value' D ends s place op a b h j = framed_bind one other _ _ (D.only_reads ends s a h) (λ x. framed_bind one other _ _ (D.only_reads ends s b j) (λ y. operator_framed place (binary_sign op) (x ∷ y ∷ []) (binary_of program.mode op x y) (binary_here program.mode op x y)))

  operated_framed : (value value' : Values) → Framings value value' → (ends : Option Ends) → same_end one other ends → (place : Place) (op : Bin) (a b : Expr) → (read_it a).fits ≡ true → (read_it b).fits ≡ true → Both one other (operated program value (inside_of f ends) place op a b) (operated program value' (inside_of f' ends) place op a b)
  unfolding both either
  operated_framed value value' D ends s place AndAlso a b h j = framed_bind one other _ _ (switch_framed value value' D ends s place a h) (second_framed value value' D ends s place b j)
  operated_framed value value' D ends s place OrElse a b h j = framed_bind one other _ _ (switch_framed value value' D ends s place a h) (other_framed value value' D ends s place b j)
  operated_framed value value' D ends s place op a b h j = binary_framed value value' D ends s place op a b h j

  step_framed : (value value' : Values) → Framings value value' → (ends : Option Ends) → same_end one other ends → (w : Option Expr) → step_fits (option_map read_it w) ≡ true → Both one other (step_of value (inside_of f ends) w) (step_of value' (inside_of f' ends) w)
  step_framed value value' D ends s None h = framed_pure one other None
  step_framed value value' D ends s (Some e) h = framed_bind one other _ _ (D.only_reads ends s e h) (λ v. framed_pure one other (Some v))

  range_framed : (value value' : Values) → Framings value value' → (ends : Option Ends) → same_end one other ends → (place : Place) (a : Expr) (w : Option Expr) (b : Expr) → (read_it a).fits ≡ true → step_fits (option_map read_it w) ≡ true → (read_it b).fits ≡ true → Both one other (range value (inside_of f ends) place a w b) (range value' (inside_of f' ends) place a w b)
  unfolding range
  range_framed value value' D ends s place a w b h j m =
      framed_bind one other _ _ (D.only_reads ends s a h) (λ x. framed_bind one other _ _ (step_framed value value' D ends s w j) (λ v. framed_bind one other _ _ (D.only_reads ends s b m) (λ y. framed_settle one other place (range_of x v y))))

  bracket_framed : (value value' : Values) → Framings value value' → (ends : Option Ends) → same_end one other ends → (place : Place) (ess : List (List Expr)) → list_all all_fit (map (map read_it) ess) ≡ true → Both one other (bracket value (inside_of f ends) place ess) (bracket value' (inside_of f' ends) place ess)
  unfolding bracket rows
  bracket_framed value value' D ends s place ess h = framed_bind one other _ _ (rows_next value value' D ends s [] ess h) (λ vss. framed_settle one other place (rows_of vss))

  end_framed : (ends : Option Ends) → same_end one other ends → (place : Place) → Both one other (end_word ends place) (end_word ends place)
  unfolding read_end
  end_framed None s place = framed_raise one other (error_of BadIndex place)
  end_framed (Some ends) s place = framed_bind one other _ _ (framed_look one other (end_of place ends) ends.slot s (framed_settle one other place _)) (λ extent. framed_pure one other _)

  -- ## Variables and calls

  settled_value : (place : Place) (v : Option Value) → Both one other (read_of place v) (read_of place v)
  settled_value place (Some v) = framed_pure one other v
  settled_value place None = framed_raise one other (error_of NoValue place)

  settled_check : (place : Place) (v : Option Value) → Both one other (check_of place v) (check_of place v)
  settled_check place (Some v) = framed_pure one other tt
  settled_check place None = framed_raise one other (error_of NoValue place)

  -- what an index selects of a variable, where no operation asks
  picked_by : (client : Bool) (W : Workspace) (slot : ℕ) (place : Place) (list : List Argument) (o : Option Value) → value_at W slot ≡ o → read_door program client o list ≡ None → (k : Value → Rest) (g : ScriptError → Rest) (t : ℕ) (c : List Choice) (r : Course) → picked program client slot place list k g (standing W t c r) ≡ selected_of place list o k g (standing W t c r)
  unfolding picked read_part
  picked_by client W slot place list o held door k g t c r =
      ap (λ (d : Option ℕ). by_door d (one_extra place (read_operands (value_at W slot) list)) (read_part slot place list) k g (standing W t c r)) (ap (λ (v : Option Value). read_door program client v list) held ∙ door)
      ∙ ap (λ (v : Option Value). selected_of place list v k g (standing W t c r)) held

  read_shut : (o : Option Value) (list : List Argument) → read_door program f.client o list ≡ None
  read_shut None list = refl
  read_shut (Some v) list = none_asks f.client (is_remote_read v list) program.extras (codes "()") shut

  picked_here : (slot : ℕ) (place : Place) (list : List Argument) (v : Value) → value_at one slot ≡ Some v → (r : Result Value ErrKind) → select_value v list ≡ r → (k : Value → Rest) (g : ScriptError → Rest) (t : ℕ) (c : List Choice) (co : Course) → picked program f.client slot place list k g (standing one t c co) ≡ settle place r k g (standing one t c co)
  picked_here slot place list v held r is k g t c co =
      picked_by f.client one slot place list (Some v) held (read_shut (Some v) list) k g t c co
      ∙ ap (λ (z : Result Value ErrKind). settle place z k g (standing one t c co)) is

  picked_there : (slot : ℕ) (place : Place) (list : List Argument) (w : Value) → value_at other slot ≡ Some w → (x : Value) → select_value w list ≡ Ok x → Comes_to (picked program client slot place list) other [] (Ok x)
  picked_there slot place list w held x is k g t c co =
      picked_by client other slot place list (Some w) held (unless_asks client (is_remote_read w list) (extra_of program (codes "()")) (selected_here w list x is)) k g t c co
      ∙ ap (λ (z : Result Value ErrKind). settle place z k g (standing other t c co)) is

  picked_framed : (slot : ℕ) → value_at one slot ≡ value_at other slot → (place : Place) (list : List Argument) (o : Option Value) → value_at one slot ≡ o → Both one other (picked program f.client slot place list) (picked program client slot place list)
  picked_framed slot equal place list None held = record {
    shown = [];
    gives = Err (error_of NoValue place);
    here = λ k g t c co. picked_by f.client one slot place list None held refl k g t c co;
    there = λ a gives. absurd (no_value (error_of NoValue place) a gives);
  }
  picked_framed slot equal place list (Some v) held = by_part (select_value v list) refl
    where
      by_part : (r : Result Value ErrKind) → select_value v list ≡ r → Both one other (picked program f.client slot place list) (picked program client slot place list)
      by_part (Ok x) is = record {
        shown = [];
        gives = Ok x;
        here = picked_here slot place list v held (Ok x) is;
        there = λ a gives k g t c co. picked_there slot place list v (sym equal ∙ held) x is k g t c co ∙ ap (λ o. onward k g o (standing other t c co)) gives;
      }
      by_part (Err kind) is = record {
        shown = [];
        gives = Err (error_of kind place);
        here = picked_here slot place list v held (Err kind) is;
        there = λ a gives. absurd (no_value (error_of kind place) a gives);
      }

  first_framed : (place : Place) (vs : List Value) → Both one other (first_of place vs) (first_of place vs)
  first_framed place [] = framed_raise one other (error_of ArgCount place)
  first_framed place (v ∷ vs) = framed_pure one other v

  applied_framed : (d d' : Level) (ends : Option Ends) → same_end one other ends → (n : Name) (nout : ℕ) (es : List Expr) → (is_none (function_of program n.text) && is_plain (known_of n.text)) ≡ true → Each d.value d'.value es → Both one other (applied program d (inside_of f ends) n nout es) (applied program d' (inside_of f' ends) n nout es)
  unfolding values call_name
  applied_framed d d' ends s n nout es known each =
      framed_bind one other _ _ (values_next d.value d'.value ends s n.place [] es each) (λ vs. dispatched_framed one other program f shut client d d' n nout vs (function_of program n.text) (known_of n.text) refl known)

  -- a name that stands for no variable stands for a function
  stands_for : (n : Name) (o : Option ℕ) → o ≡ None → (is_some o || (is_none (function_of program n.text) && is_plain (known_of n.text))) ≡ true → (is_none (function_of program n.text) && is_plain (known_of n.text)) ≡ true
  stands_for n None is h = h
  stands_for n (Some slot) is h = absurd (cc)

  variable_framed : (l l' : Option Level) → Below l l' → (ends : Option Ends) → same_end one other ends → (place : Place) (n : Name) → stands program f n ≡ true → is_among written n ≡ false → (o : Option ℕ) → slot_of program f n.text ≡ o → Both one other (variable_or_call program l (inside_of f ends) place n o) (variable_or_call program l' (inside_of f' ends) place n o)
  unfolding read called
  variable_framed l l' L ends s place n h apart (Some slot) is = framed_look one other (read_of n.place) slot (alike.unwritten n slot apart is) (settled_value n.place (value_at one slot))
  variable_framed l l' L ends s place n h apart None is =
      framed_bind one other _ _ (entering l l' L place (λ d. applied program d (inside_of f ends) n 1 []) (λ d'. applied program d' (inside_of f' ends) n 1 []) (λ d d' D. applied_framed d d' ends s n 1 [] (stands_for n (slot_of program f n.text) is h) tt)) (first_framed n.place)

  -- a variable that the body writes
  written_kept : (d d' : Level) → Framings d.value d'.value → (ends : Option Ends) (n : Name) (slot : ℕ) (es : List Expr) → slot_of program f n.text ≡ Some slot → is_among written n ≡ true → only_index (map read_it es) ≡ true → (v : Value) → value_at one slot ≡ Some v → (r : Result Value ErrKind) → select_value v (own_places i) ≡ r → Both one other (indexed program d.value (inside_of f ends) n slot es) (indexed program d'.value (inside_of f' ends) n slot es)
  unfolding indexed check
  written_kept d d' D ends n slot es is among h v held (Ok x) chosen = record {
    shown = [];
    gives = Ok x;
    here = λ k g t c r.
        ap (λ o. check_of n.place o (λ u. (places d.value (inside_of f ends) slot es >>= (λ list. picked program f.client slot n.place list)) k g) g (standing one t c r)) held
        ∙ own_list_by program f index written i at d.value f D.at_index ends slot es h one (alike.index_here at at_is) (λ list. picked program f.client slot n.place list k g) g t c r
        ∙ picked_here slot n.place (own_places i) v held _ chosen k g t c r;
    there = λ a gives k g t c r.
        let w = alike.parts n slot v x among is held chosen in
        ap (λ o. check_of n.place o (λ u. (places d'.value (inside_of f' ends) slot es >>= (λ list. picked program client slot n.place list)) k g) g (standing other t c r)) w.1
        ∙ own_list_by program f index written i at d'.value f' D.there_at_index ends slot es h other (alike.index_there at at_is) (λ list. picked program client slot n.place list k g) g t c r
        ∙ picked_there slot n.place (own_places i) w.0 w.1 x w.2 k g t c r
        ∙ ap (λ o. onward k g o (standing other t c r)) gives;
  }
  written_kept d d' D ends n slot es is among h v held (Err kind) chosen = record {
    shown = [];
    gives = Err (error_of kind n.place);
    here = λ k g t c r.
        ap (λ o. check_of n.place o (λ u. (places d.value (inside_of f ends) slot es >>= (λ list. picked program f.client slot n.place list)) k g) g (standing one t c r)) held
        ∙ own_list_by program f index written i at d.value f D.at_index ends slot es h one (alike.index_here at at_is) (λ list. picked program f.client slot n.place list k g) g t c r
        ∙ picked_here slot n.place (own_places i) v held _ chosen k g t c r;
    there = λ a gives. absurd (no_value (error_of kind n.place) a gives);
  }

  written_framed : (d d' : Level) → Framings d.value d'.value → (ends : Option Ends) (n : Name) (slot : ℕ) (es : List Expr) → slot_of program f n.text ≡ Some slot → is_among written n ≡ true → only_index (map read_it es) ≡ true → (o : Option Value) → value_at one slot ≡ o → Both one other (indexed program d.value (inside_of f ends) n slot es) (indexed program d'.value (inside_of f' ends) n slot es)
  unfolding indexed check
  written_framed d d' D ends n slot es is among h None held = record {
    shown = [];
    gives = Err (error_of NoValue n.place);
    here = λ k g t c r. ap (λ o. check_of n.place o (λ u. (places d.value (inside_of f ends) slot es >>= (λ list. picked program f.client slot n.place list)) k g) g (standing one t c r)) held;
    there = λ a gives. absurd (no_value (error_of NoValue n.place) a gives);
  }
  written_framed d d' D ends n slot es is among h (Some v) held = written_kept d d' D ends n slot es is among h v held (select_value v (own_places i)) refl

  indexed_framed : (d d' : Level) → Framings d.value d'.value → (ends : Option Ends) (n : Name) (slot : ℕ) (es : List Expr) → slot_of program f n.text ≡ Some slot → (b : Bool) → is_among written n ≡ b → (if b then only_index (map read_it es) else all_fit (map read_it es)) ≡ true → Both one other (indexed program d.value (inside_of f ends) n slot es) (indexed program d'.value (inside_of f' ends) n slot es)
  unfolding indexed check places
  indexed_framed d d' D ends n slot es is false apart h =
      let equal : value_at one slot ≡ value_at other slot = alike.unwritten n slot apart is in
      framed_bind one other _ _ (framed_look one other (check_of n.place) slot equal (settled_check n.place (value_at one slot))) (λ u.
      framed_bind one other _ _ (places_next d.value d'.value ends slot (length es) equal [] es (each_fits d.value d'.value D es h)) (λ list.
      picked_framed slot equal n.place list (value_at one slot) refl))
  indexed_framed d d' D ends n slot es is true among h = written_framed d d' D ends n slot es is among h (value_at one slot) refl

  each_of : (value value' : Values) → Framings value value' → (es : List Expr) (b : Bool) → (if b then only_index (map read_it es) else all_fit (map read_it es)) ≡ true → Each value value' es
  each_of value value' D es true h = each_index value value' D es h
  each_of value value' D es false h = each_fits value value' D es h

  apply_framed : (d d' : Level) → Framings d.value d'.value → (ends : Option Ends) → same_end one other ends → (n : Name) (es : List Expr) → stands program f n ≡ true → (if is_among written n then only_index (map read_it es) else all_fit (map read_it es)) ≡ true → (o : Option ℕ) → slot_of program f n.text ≡ o → Both one other (index_or_call program d (inside_of f ends) n es o) (index_or_call program d' (inside_of f' ends) n es o)
  apply_framed d d' D ends s n es h list (Some slot) is = indexed_framed d d' D ends n slot es is (is_among written n) refl list
  apply_framed d d' D ends s n es h list None is =
      framed_bind one other _ _ (applied_framed d d' ends s n 1 es (stands_for n (slot_of program f n.text) is h) (each_of d.value d'.value D es (is_among written n) list)) (first_framed n.place)

  -- ## Every node

  unbuilt_framed : {A : Type 0} (place : Place) → Both one other (fail {A = A} WrongPlace place) (fail {A = A} WrongPlace place)
  unbuilt_framed place = framed_raise one other (error_of WrongPlace place)

  compound_framed : (d d' : Level) → Framings d.value d'.value → (ends : Option Ends) → same_end one other ends → (place : Place) (kind : ExprKind-F ExprKind Expr) → (read_kind program f index written (parts program f index written kind)).fits ≡ true → Both one other (compound_of program d (inside_of f ends) place kind) (compound_of program d' (inside_of f' ends) place kind)
  compound_framed d d' D ends s place (ExprKind-F.Apply n es) h =
      apply_framed d d' D ends s n es (and_first (stands program f n) _ h) (and_second (stands program f n) _ h) (slot_of program f n.text) refl
  compound_framed d d' D ends s place (ExprKind-F.Unary op a) h = unary_framed d.value d'.value D ends s place op a h
  compound_framed d d' D ends s place (ExprKind-F.Binary op a b) h = operated_framed d.value d'.value D ends s place op a b (and_first (read_it a).fits _ h) (and_second (read_it a).fits _ h)
  compound_framed d d' D ends s place (ExprKind-F.Range a w b) h =
      let rest : (step_fits (option_map read_it w) && (read_it b).fits) ≡ true = and_second (read_it a).fits _ h in
      range_framed d.value d'.value D ends s place a w b (and_first (read_it a).fits _ h) (and_first (step_fits (option_map read_it w)) _ rest) (and_second (step_fits (option_map read_it w)) _ rest)
  compound_framed d d' D ends s place (ExprKind-F.Rows ess) h = bracket_framed d.value d'.value D ends s place ess h
  compound_framed d d' D ends s place ExprKind-F.End h = end_framed ends s place
  compound_framed d d' D ends s place (ExprKind-F.Func n) h = absurd (cc)
  compound_framed d d' D ends s place (ExprKind-F.Brace n b es) h = unbuilt_framed place
  compound_framed d d' D ends s place (ExprKind-F.StateOf a) h = unbuilt_framed place
  compound_framed d d' D ends s place (ExprKind-F.Number z) h = unbuilt_framed place
  compound_framed d d' D ends s place (ExprKind-F.Chars t) h = unbuilt_framed place
  compound_framed d d' D ends s place (ExprKind-F.Var n) h = unbuilt_framed place
  compound_framed d d' D ends s place ExprKind-F.Colon h = unbuilt_framed place

  node_framed : (l l' : Option Level) → Below l l' → (ends : Option Ends) → same_end one other ends → (e : Expr) (place : Place) → Both one other (enter l place (λ d. compound program d (inside_of f ends) e)) (enter l' place (λ d'. compound program d' (inside_of f' ends) e)) → (kind : ExprKind-F ExprKind Expr) → (read_kind program f index written (parts program f index written kind)).fits ≡ true → Both one other (value_of program l (inside_of f ends) e place kind) (value_of program l' (inside_of f' ends) e place kind)
  node_framed l l' L ends s e place C (ExprKind-F.Number z) h = framed_pure one other (number_of z)
  node_framed l l' L ends s e place C (ExprKind-F.Chars t) h = framed_pure one other (chars_of t)
  node_framed l l' L ends s e place C (ExprKind-F.Var n) h =
      variable_framed l l' L ends s place n (and_first (stands program f n) _ h) (not_true (is_among written n) (and_second (stands program f n) _ h)) (slot_of program f n.text) refl
  node_framed l l' L ends s e place C ExprKind-F.Colon h = framed_raise one other (error_of BadKind place)
  node_framed l l' L ends s e place C kind h = C

  value_framed : (l l' : Option Level) → Below l l' → (ends : Option Ends) → same_end one other ends → (e : Expr) → (read_it e).fits ≡ true → Both one other (value_in program l (inside_of f ends) e) (value_in program l' (inside_of f' ends) e)
  unfolding value_in compound
  value_framed l l' L ends s e h =
      let known : (read_kind program f index written (parts program f index written (out-ExprKind (out-Expr e).kind))).fits ≡ true = sym (ap (λ (r : Read). r.fits) (read_parts program f index written e)) ∙ h in
      node_framed l l' L ends s e (out-Expr e).place (entering l l' L (out-Expr e).place (λ d. compound program d (inside_of f ends) e) (λ d'. compound program d' (inside_of f' ends) e) (λ d d' D. compound_framed d d' D ends s (out-Expr e).place (out-ExprKind (out-Expr e).kind) known)) (out-ExprKind (out-Expr e).kind) known

  -- the index alone
  index_comes : (F : Frame) → slot_of program F index.text ≡ Some at → (l : Option Level) (ends : Option Ends) (e : Expr) (place : Place) (n : Name) → same n.text index.text ≡ true → (env : Workspace) → value_at env at ≡ Some (number_of i) → Comes_to (variable_or_call program l (inside_of F ends) place n (slot_of program F n.text)) env [] (Ok (number_of i))
  unfolding read
  index_comes F F_is l ends e place n h env held k g t c r =
      let slot : slot_of program F n.text ≡ Some at = ap (slot_of program F) (same_text n.text index.text (sym h)) ∙ F_is in
      ap (λ o. variable_or_call program l (inside_of F ends) place n o k g (standing env t c r)) slot
      ∙ ap (λ v. read_of n.place v k g (standing env t c r)) held

  index_argument : (F : Frame) → slot_of program F index.text ≡ Some at → (l : Option Level) (ends : Option Ends) (e : Expr) (place : Place) (kind : ExprKind-F ExprKind Expr) → (read_kind program f index written (parts program f index written kind)).is_index ≡ true → (env : Workspace) → value_at env at ≡ Some (number_of i) → Comes_to (argument_at (value_of program l (inside_of F ends) e place kind) kind) env [] (Ok (Given (number_of i)))
  index_argument F F_is l ends e place (ExprKind-F.Var n) h env held = λ k g t c r. index_comes F F_is l ends e place n h env held (λ v. k (Given v)) g t c r
  index_argument F F_is l ends e place (ExprKind-F.Number z) h env held = absurd (cc)
  index_argument F F_is l ends e place kind h env held = absurd (cc)

  index_value : (F : Frame) → slot_of program F index.text ≡ Some at → (l : Option Level) (ends : Option Ends) (e : Expr) (place : Place) (kind : ExprKind-F ExprKind Expr) → (read_kind program f index written (parts program f index written kind)).is_index ≡ true → (env : Workspace) → value_at env at ≡ Some (number_of i) → Comes_to (value_of program l (inside_of F ends) e place kind) env [] (Ok (number_of i))
  index_value F F_is l ends e place (ExprKind-F.Var n) h env held = index_comes F F_is l ends e place n h env held
  index_value F F_is l ends e place (ExprKind-F.Number z) h env held = absurd (cc)
  index_value F F_is l ends e place kind h env held = absurd (cc)

  known_index : (e : Expr) → (read_it e).is_index ≡ true → (read_kind program f index written (parts program f index written (out-ExprKind (out-Expr e).kind))).is_index ≡ true
  known_index e h = sym (ap (λ (r : Read). r.is_index) (read_parts program f index written e)) ∙ h

  framings : (l l' : Option Level) → Below l l' → Framings (value_in program l) (value_in program l')
  unfolding value_in
  framings l l' L = record {
    only_reads = value_framed l l' L;
    at_index = λ ends e h env held. index_argument f at_is l ends e (out-Expr e).place (out-ExprKind (out-Expr e).kind) (known_index e h) env held;
    there_at_index = λ ends e h env held. index_argument f' at_is l' ends e (out-Expr e).place (out-ExprKind (out-Expr e).kind) (known_index e h) env held;
    index_reads = λ ends e h. record {
      shown = [];
      gives = Ok (number_of i);
      here = index_value f at_is l ends e (out-Expr e).place (out-ExprKind (out-Expr e).kind) (known_index e h) one (alike.index_here at at_is);
      there = λ a is k g t c r. index_value f' at_is l' ends e (out-Expr e).place (out-ExprKind (out-Expr e).kind) (known_index e h) other (alike.index_there at at_is) k g t c r ∙ ap (λ o. onward k g o (standing other t c r)) is;
    };
  }

  below_framed : (m n : ℕ) → m ≤ n → Below (below program m) (below program n)
  unfolding below
  below_framed zero n h = tt
  below_framed (suc m) zero h = absurd (omega arith)
  below_framed (suc m) (suc n) h = framings (below program m) (below program n) (below_framed m n (omega arith))

  -- at every level, and at those above it
  pub both_framed : (m n : ℕ) → m ≤ n → Framings (value_in program (below program m)) (value_in program (below program n))
  both_framed m n h = framings (below program m) (below program n) (below_framed m n h)

  -- the index list of a variable that the body writes, in the other run
  pub there_own_list : (m n : ℕ) → m ≤ n → (ends : Option Ends) (slot : ℕ) (es : List Expr) → only_index (map read_it es) ≡ true → (env : Workspace) → value_at env at ≡ Some (number_of i) → Comes_to (places (value_in program (below program n)) (inside_of f' ends) slot es) env [] (Ok (own_places i))
  there_own_list m n h = own_list_by program f index written i at (value_in program (below program n)) f' (both_framed m n h).there_at_index

-- ## In one run

module _ (program : Resolved) (f : Frame) (index : Name) (written : List Name) (i : ℤ) (one other : Workspace) (alike : Alike program f index written i one other) (at : ℕ) (at_is : slot_of program f index.text ≡ Some at) where
  pub record Framing (value : Values) : Type 0 where
    pub only_reads : (ends : Option Ends) → same_end one other ends → (e : Expr) → (read_expr program f index written e).fits ≡ true → Framed one other (value (inside_of f ends) e)
    pub at_index : (ends : Option Ends) (e : Expr) → (read_expr program f index written e).is_index ≡ true → (env : Workspace) → value_at env at ≡ Some (number_of i) → Comes_to (argument_of value (inside_of f ends) e) env [] (Ok (Given (number_of i)))

  pub own_list : (value : Values) → Framing value → (ends : Option Ends) (slot : ℕ) (es : List Expr) → only_index (map (read_expr program f index written) es) ≡ true → (env : Workspace) → value_at env at ≡ Some (number_of i) → Comes_to (places value (inside_of f ends) slot es) env [] (Ok (own_places i))
  own_list value D = own_list_by program f index written i at value f D.at_index

  pub all_framed : has_doors program f ≡ false → (n : ℕ) → Framing (value_in program (below program n))
  all_framed shut n =
      let B = both_framed program f index written i one other alike at at_is f.client f.given f.wanted shut n n (omega arith) in
      record { only_reads = λ ends s e h. framed_both one other (B.only_reads ends s e h); at_index = B.at_index }

pub every_expression : FrameLaw
every_expression program f index written i one other at depth e shut is alike same h = (all_framed program f index written i one other alike at is shut depth).only_reads f.ends same e h
