-- An expression stops at no question but those of a built program, if the parts below it don't.
use Rattle.std.specs.Prelude.{◌≡◌, nat_lt, drop}
use Rattle.std.proofs.Common.{ℕ, ◌++◌, List, [], ◌∷◌, length, Bool, true, false, Option, Some, None}
use Rattle.pl_base.specs.declared.errors.Place.{Place}
use Rattle.pl_syntax.specs.declared.expr.Bin.{Bin}
use Rattle.pl_syntax.specs.declared.expr.Bin.TheVariants.{AndAlso, OrElse}
use Rattle.pl_syntax.specs.declared.expr.Expr.{Expr, out-Expr}
use Rattle.pl_syntax.specs.declared.expr.ExprKind.{ExprKind, out-ExprKind}
use Rattle.pl_syntax.specs.declared.expr.ExprKind.TheOpen.{ExprKind-F}
use Rattle.pl_syntax.specs.declared.expr.Name.{Name}
use Rattle.pl_syntax.specs.declared.expr.Un.{Un}
use Rattle.pl_syntax.specs.Signs.{unary_sign, binary_sign}
use Rattle.pl_syntax.specs.declared.stmt.Stmt.{Stmt}
use Rattle.pl_values.specs.declared.value.Value.{Value, out-Value}
use Rattle.pl_values.specs.declared.value.Value.TheOpen.{Value-F}
use Rattle.pl_operators.specs.declared.argument.Argument.{Argument}
use Rattle.pl_operators.specs.declared.argument.Argument.TheVariants.{Colon, Given}
use Rattle.pl_operators.specs.Operating.{unary_of, binary_of}
use Rattle.pl_resolve.specs.declared.resolved.Resolved.{Resolved}
use Rattle.pl_resolve.specs.Functions.{local_names, number_of as number_of_name}
use Rattle.pl_meaning.specs.declared.frame.Ends.{Ends}
use Rattle.pl_meaning.specs.declared.frame.Frame.{Frame}
use Rattle.pl_meaning.specs.declared.known.Known.{Known}
use Rattle.pl_meaning.specs.Known.{known_of, is_feval}
use Rattle.pl_meaning.specs.Names.{slot_of, function_of, callee_of, arguments_of}
use Rattle.pl_meaning.specs.Running.{Running}
use Rattle.pl_meaning.specs.Parts.{Level, Values, enter, argument_at, argument_of, within, places_from, places, given_of, values_from, values, elements_from, elements, rows_from, rows, unary, binary, switch, second, both, other, either, operated, step_of, range, bracket, indexed, end_word, handed_value, handed, by_known, by_table, locals, numbered, fed, known_call, dispatched, call_name, applied, called, handle_of, variable_or_call, index_or_call, compound_of, compound, value_of, value_in, outputs_by, outputs_in, listed_by, listed_in}
use Rattle.pl_unbuilt.specs.Nodes.{of_block, frame_of}
use Rattle.pl_built.proofs.Asking.{width, GoodAt, Good, pure_good, raise_good, bind_good, choice_good, settle_good, read_good, check_good, read_end_good, library_good}
use Rattle.pl_built.proofs.Doors.{first_good, operator_good, function_good, picked_good}

module _ (program : Resolved) where
  abbrev IsGood : {A : Type 0} → Running A → Type 0
  IsGood p = Good program p

  -- in a body without nodes
  abbrev pub IsCalm : ℕ → List Stmt → Type 0
  IsCalm scope body = of_block program (frame_of scope) body ≡ []

  -- what parts do one level further down
  pub record GoodLevel (d : Level) : Type 0 where
    pub value : (f : Frame) (e : Expr) → Good program (d.value f e)
    pub outputs : (f : Frame) (nout : ℕ) (e : Expr) → Good program (d.outputs f nout e)
    pub call : (client : Bool) (place : Place) (i nout : ℕ) (vs : List Value) → Good program (d.call client place i nout vs)
    pub block : (f : Frame) (body : List Stmt) → IsCalm f.scope body → GoodAt program (width program f.scope) (d.block f body)
    pub ends : (f : Frame) (e : Expr) → Good program (d.ends f e)

  abbrev pub GoodBelow : Option Level → Type 0
  GoodBelow None = Unit {0}
  GoodBelow (Some d) = GoodLevel d

  pub enter_good : {A : Type 0} (l : Option Level) → GoodBelow l → (place : Place) (p : Level → Running A) → ((d : Level) → GoodLevel d → IsGood (p d)) → IsGood (enter l place p)
  enter_good None L place p P = raise_good program _
  enter_good (Some d) L place p P = P d L

  pub enter_at : {A : Type 0} {n : ℕ} (l : Option Level) → GoodBelow l → (place : Place) (p : Level → Running A) → ((d : Level) → GoodLevel d → GoodAt program n (p d)) → GoodAt program n (enter l place p)
  enter_at {A} {n} None L place p P = (raise_good program _).at n
  enter_at (Some d) L place p P = P d L

  -- ## Lists of expressions

  abbrev pub AllGood : Values → Type 0
  AllGood value = (f : Frame) (e : Expr) → IsGood (value f e)

  argument_kind : (p : Running Value) → IsGood p → (kind : ExprKind-F ExprKind Expr) → IsGood (argument_at p kind)
  argument_kind p P ExprKind-F.Colon = pure_good program Colon
  argument_kind p P kind = bind_good program _ P (λ v. pure_good program (Given v))

  argument_good : (value : Values) → AllGood value → (f : Frame) (e : Expr) → IsGood (argument_of value f e)
  argument_good value V f e = argument_kind (value f e) (V f e) (out-ExprKind (out-Expr e).kind)

  places_next : (value : Values) → AllGood value → (f : Frame) (slot count : ℕ) (done : List Argument) (es : List Expr) → IsGood (places_from value f slot count done es)
  places_next value V f slot count done [] = pure_good program done
  places_next value V f slot count done (e ∷ more) = bind_good program _ (argument_good value V (within f slot (length done) count) e) (λ a. places_next value V f slot count (done ++ a ∷ []) more)

  pub places_good : (value : Values) → AllGood value → (f : Frame) (slot : ℕ) (es : List Expr) → IsGood (places value f slot es)
  unfolding places
  places_good value V f slot es = places_next value V f slot (length es) [] es

  given_good : (place : Place) (a : Argument) → IsGood (given_of place a)
  given_good place Colon = raise_good program _
  given_good place (Given v) = pure_good program v

  values_next : (value : Values) → AllGood value → (f : Frame) (place : Place) (done : List Value) (es : List Expr) → IsGood (values_from value f place done es)
  values_next value V f place done [] = pure_good program done
  values_next value V f place done (e ∷ more) = bind_good program _ (argument_good value V f e) (λ a. bind_good program _ (given_good place a) (λ v. values_next value V f place (done ++ v ∷ []) more))

  values_good : (value : Values) → AllGood value → (f : Frame) (place : Place) (es : List Expr) → IsGood (values value f place es)
  unfolding values
  values_good value V f place es = values_next value V f place [] es

  elements_next : (value : Values) → AllGood value → (f : Frame) (done : List Value) (es : List Expr) → IsGood (elements_from value f done es)
  elements_next value V f done [] = pure_good program done
  elements_next value V f done (e ∷ more) = bind_good program _ (V f e) (λ v. elements_next value V f (done ++ v ∷ []) more)

  elements_good : (value : Values) → AllGood value → (f : Frame) (es : List Expr) → IsGood (elements value f es)
  unfolding elements
  elements_good value V f es = elements_next value V f [] es

  rows_next : (value : Values) → AllGood value → (f : Frame) (done : List (List Value)) (ess : List (List Expr)) → IsGood (rows_from value f done ess)
  rows_next value V f done [] = pure_good program done
  rows_next value V f done (es ∷ more) = bind_good program _ (elements_good value V f es) (λ vs. rows_next value V f (done ++ vs ∷ []) more)

  rows_good : (value : Values) → AllGood value → (f : Frame) (ess : List (List Expr)) → IsGood (rows value f ess)
  unfolding rows
  rows_good value V f ess = rows_next value V f [] ess

  -- ## Operators

  unary_good : (value : Values) → AllGood value → (f : Frame) (place : Place) (op : Un) (a : Expr) → IsGood (unary program value f place op a)
  unfolding unary
  unary_good value V f place op a = bind_good program _ (V f a) (λ x. operator_good program f.client place (unary_sign op) (x ∷ []) (unary_of program.mode op x))

  binary_good : (value : Values) → AllGood value → (f : Frame) (place : Place) (op : Bin) (a b : Expr) → IsGood (binary program value f place op a b)
  unfolding binary
  binary_good value V f place op a b = bind_good program _ (V f a) (λ x. bind_good program _ (V f b) (λ y. operator_good program f.client place (binary_sign op) (x ∷ y ∷ []) (binary_of program.mode op x y)))

  switch_good : (value : Values) → AllGood value → (f : Frame) (place : Place) (a : Expr) → IsGood (switch value f place a)
  unfolding switch
  switch_good value V f place a = bind_good program _ (V f a) (λ x. settle_good program place _)

  second_good : (value : Values) → AllGood value → (f : Frame) (place : Place) (b : Expr) (left : Bool) → IsGood (second value f place b left)
  second_good value V f place b true = bind_good program _ (switch_good value V f place b) (λ right. pure_good program _)
  second_good value V f place b false = pure_good program _

  both_good : (value : Values) → AllGood value → (f : Frame) (place : Place) (a b : Expr) → IsGood (both value f place a b)
  unfolding both
  both_good value V f place a b = bind_good program _ (switch_good value V f place a) (second_good value V f place b)

  other_good : (value : Values) → AllGood value → (f : Frame) (place : Place) (b : Expr) (left : Bool) → IsGood (other value f place b left)
  other_good value V f place b true = pure_good program _
  other_good value V f place b false = bind_good program _ (switch_good value V f place b) (λ right. pure_good program _)

  either_good : (value : Values) → AllGood value → (f : Frame) (place : Place) (a b : Expr) → IsGood (either value f place a b)
  unfolding either
  either_good value V f place a b = bind_good program _ (switch_good value V f place a) (other_good value V f place b)

  operated_good : (value : Values) → AllGood value → (f : Frame) (place : Place) (op : Bin) (a b : Expr) → IsGood (operated program value f place op a b)
  operated_good value V f place AndAlso a b = both_good value V f place a b
  operated_good value V f place OrElse a b = either_good value V f place a b
  operated_good value V f place op a b = binary_good value V f place op a b

  step_good : (value : Values) → AllGood value → (f : Frame) (s : Option Expr) → IsGood (step_of value f s)
  step_good value V f None = pure_good program None
  step_good value V f (Some e) = bind_good program _ (V f e) (λ v. pure_good program (Some v))

  range_good : (value : Values) → AllGood value → (f : Frame) (place : Place) (a : Expr) (s : Option Expr) (b : Expr) → IsGood (range value f place a s b)
  unfolding range
  range_good value V f place a s b = bind_good program _ (V f a) (λ x. bind_good program _ (step_good value V f s) (λ w. bind_good program _ (V f b) (λ y. settle_good program place _)))

  bracket_good : (value : Values) → AllGood value → (f : Frame) (place : Place) (ess : List (List Expr)) → IsGood (bracket value f place ess)
  unfolding bracket
  bracket_good value V f place ess = bind_good program _ (rows_good value V f ess) (λ vss. settle_good program place _)

  indexed_good : (value : Values) → AllGood value → (f : Frame) (n : Name) (slot : ℕ) (es : List Expr) → IsGood (indexed program value f n slot es)
  unfolding indexed
  indexed_good value V f n slot es = bind_good program _ (check_good program slot n.place) (λ u. bind_good program _ (places_good value V f slot es) (λ list. picked_good program f.client slot n.place list))

  end_good : (ends : Option Ends) (place : Place) → IsGood (end_word ends place)
  end_good None place = raise_good program _
  end_good (Some ends) place = bind_good program _ (read_end_good program ends place) (λ extent. pure_good program _)

  -- ## Calls

  handed_kind : (place : Place) (v : Value-F Value) → IsGood (handed_value place v)
  handed_kind place (Value-F.Func i) = pure_good program i
  handed_kind place v = raise_good program _

  handed_good : (place : Place) (vs : List Value) → IsGood (handed place vs)
  handed_good place [] = raise_good program _
  handed_good place (v ∷ vs) = handed_kind place (out-Value v)

  by_known_good : (place : Place) (nout : ℕ) (vs : List Value) (f : Option Known) → IsGood (by_known program place nout vs f)
  by_known_good place nout vs None = raise_good program _
  by_known_good place nout vs (Some f) = library_good program program.mode place f nout vs

  by_table_good : (client : Bool) (place : Place) (nout : ℕ) (vs : List Value) (name : Option (List ℕ)) → IsGood (by_table program client place nout vs name)
  by_table_good client place nout vs None = raise_good program _
  by_table_good client place nout vs (Some name) = function_good program client place name nout vs _ (by_known_good place nout vs (known_of name))

  numbered_good : (d : Level) → GoodLevel d → (client : Bool) (place : Place) (i nout : ℕ) (vs : List Value) → IsGood (numbered program d client place i nout vs)
  unfolding numbered
  numbered_good d D client place i nout vs = choice_good program (nat_lt i (locals program)) _ _ (D.call client place i nout vs) (by_table_good client place nout vs _)

  fed_good : (d : Level) → GoodLevel d → (client : Bool) (place : Place) (nout : ℕ) (vs : List Value) → IsGood (fed program d client place nout vs)
  unfolding fed
  fed_good d D client place nout vs = bind_good program _ (handed_good place vs) (λ i. numbered_good d D client place i nout (drop 1 vs))

  known_good : (d : Level) → GoodLevel d → (client : Bool) (place : Place) (nout : ℕ) (vs : List Value) (f : Option Known) → IsGood (known_call program d client place nout vs f)
  known_good d D client place nout vs None = raise_good program _
  known_good d D client place nout vs (Some f) = choice_good program (is_feval f) _ _ (fed_good d D client place nout vs) (library_good program program.mode place f nout vs)

  dispatched_good : (d : Level) → GoodLevel d → (client : Bool) (n : Name) (nout : ℕ) (vs : List Value) (o : Option ℕ) (f : Option Known) → IsGood (dispatched program d client n nout vs o f)
  dispatched_good d D client n nout vs (Some i) f = D.call client n.place i nout vs
  dispatched_good d D client n nout vs None f = function_good program client n.place n.text nout vs _ (known_good d D client n.place nout vs f)

  call_name_good : (d : Level) → GoodLevel d → (client : Bool) (n : Name) (nout : ℕ) (vs : List Value) → IsGood (call_name program d client n nout vs)
  unfolding call_name
  call_name_good d D client n nout vs = dispatched_good d D client n nout vs (function_of program n.text) (known_of n.text)

  applied_good : (d : Level) → GoodLevel d → (f : Frame) (n : Name) (nout : ℕ) (es : List Expr) → IsGood (applied program d f n nout es)
  applied_good d D f n nout es = bind_good program _ (values_good d.value D.value f n.place es) (λ vs. call_name_good d D f.client n nout vs)

  called_good : (l : Option Level) → GoodBelow l → (f : Frame) (place : Place) (n : Name) (nout : ℕ) (es : List Expr) → IsGood (called program l f place n nout es)
  unfolding called
  called_good l L f place n nout es = enter_good l L place (λ d. applied program d f n nout es) (λ d D. applied_good d D f n nout es)

  handle_good : (place : Place) (o : Option ℕ) → IsGood (handle_of program place o)
  handle_good place None = raise_good program _
  handle_good place (Some i) = pure_good program _

  -- ## Expressions

  variable_good : (l : Option Level) → GoodBelow l → (f : Frame) (place : Place) (n : Name) (o : Option ℕ) → IsGood (variable_or_call program l f place n o)
  variable_good l L f place n (Some slot) = read_good program slot n.place
  variable_good l L f place n None = bind_good program _ (called_good l L f place n 1 []) (λ vs. first_good program n.place vs)

  index_good : (d : Level) → GoodLevel d → (f : Frame) (n : Name) (es : List Expr) (o : Option ℕ) → IsGood (index_or_call program d f n es o)
  index_good d D f n es (Some slot) = indexed_good d.value D.value f n slot es
  index_good d D f n es None = bind_good program _ (applied_good d D f n 1 es) (λ vs. first_good program n.place vs)

  compound_kind : (d : Level) → GoodLevel d → (f : Frame) (place : Place) (kind : ExprKind-F ExprKind Expr) → IsGood (compound_of program d f place kind)
  compound_kind d D f place (ExprKind-F.Apply n es) = index_good d D f n es (slot_of program f n.text)
  compound_kind d D f place (ExprKind-F.Unary op a) = unary_good d.value D.value f place op a
  compound_kind d D f place (ExprKind-F.Binary op a b) = operated_good d.value D.value f place op a b
  compound_kind d D f place (ExprKind-F.Range a s b) = range_good d.value D.value f place a s b
  compound_kind d D f place (ExprKind-F.Rows ess) = bracket_good d.value D.value f place ess
  compound_kind d D f place (ExprKind-F.Func n) = handle_good n.place (number_of_name (record { locals = local_names program.program.functions; extras = program.extras }) n.text)
  compound_kind d D f place ExprKind-F.End = end_good f.ends place
  compound_kind d D f place kind = raise_good program _

  compound_good : (d : Level) → GoodLevel d → (f : Frame) (e : Expr) → IsGood (compound program d f e)
  unfolding compound
  compound_good d D f e = compound_kind d D f (out-Expr e).place (out-ExprKind (out-Expr e).kind)

  value_kind : (l : Option Level) → GoodBelow l → (f : Frame) (e : Expr) (place : Place) (kind : ExprKind-F ExprKind Expr) → IsGood (value_of program l f e place kind)
  value_kind l L f e place (ExprKind-F.Number z) = pure_good program _
  value_kind l L f e place (ExprKind-F.Chars t) = pure_good program _
  value_kind l L f e place (ExprKind-F.Var n) = variable_good l L f place n (slot_of program f n.text)
  value_kind l L f e place ExprKind-F.Colon = raise_good program _
  value_kind l L f e place kind = enter_good l L place (λ d. compound program d f e) (λ d D. compound_good d D f e)

  pub value_good : (l : Option Level) → GoodBelow l → (f : Frame) (e : Expr) → IsGood (value_in program l f e)
  unfolding value_in
  value_good l L f e = value_kind l L f e (out-Expr e).place (out-ExprKind (out-Expr e).kind)

  outputs_kind : (l : Option Level) → GoodBelow l → (f : Frame) (nout : ℕ) (e : Expr) (o : Option Name) → IsGood (outputs_by program l f nout e o)
  outputs_kind l L f nout e None = bind_good program _ (value_good l L f e) (λ v. pure_good program _)
  outputs_kind l L f nout e (Some n) = called_good l L f (out-Expr e).place n nout (arguments_of e)

  pub outputs_good : (l : Option Level) → GoodBelow l → (f : Frame) (nout : ℕ) (e : Expr) → IsGood (outputs_in program l f nout e)
  unfolding outputs_in
  outputs_good l L f nout e = outputs_kind l L f nout e (callee_of program f e)

  listed_kind : (l : Option Level) → GoodBelow l → (f : Frame) (nout : ℕ) (e : Expr) (o : Option Name) → IsGood (listed_by program l f nout e o)
  listed_kind l L f nout e None = bind_good program _ (value_good l L f e) (λ v. raise_good program _)
  listed_kind l L f nout e (Some n) = called_good l L f (out-Expr e).place n nout (arguments_of e)

  pub listed_good : (l : Option Level) → GoodBelow l → (f : Frame) (nout : ℕ) (e : Expr) → IsGood (listed_in program l f nout e)
  unfolding listed_in
  listed_good l L f nout e = listed_kind l L f nout e (callee_of program f e)
