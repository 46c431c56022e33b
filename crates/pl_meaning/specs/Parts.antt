-- What the parts of a program do: expressions, calls, statements, by cases on the tree. A part stands at a
-- number of levels that are left. Each expression node but a number, a text, a variable and a colon, each compound
-- statement and each call of a local function goes down by one level, and where none is left the error is
-- TooDeep at its place.
use Rattle.std.specs.Prelude.{ℕ, zero, suc, ◌+◌, ◌-◌, nat_lt, List, [], ◌∷◌, ◌++◌, length, replicate, position, slice_get, slice_set, take, drop, Bool, true, false, codes, pos, ◌||◌, Option, Some, None, Result, if◌then◌else◌}
use Rattle.pl_base.specs.declared.errors.Place.{Place}
use Rattle.pl_base.specs.declared.mode.Mode.{Mode}
use Rattle.pl_base.specs.Numbers.{clamp}
use Rattle.pl_base.specs.declared.errors.ErrKind.{ErrKind}
use Rattle.pl_base.specs.declared.errors.ErrKind.TheVariants.{TooDeep, NoValue, ArgCount, BadKind, BadIndex, OutputUnset, WrongPlace, Spent}
use Rattle.pl_syntax.specs.declared.expr.Name.{Name}
use Rattle.pl_syntax.specs.declared.expr.Un.{Un}
use Rattle.pl_syntax.specs.declared.expr.Bin.{Bin}
use Rattle.pl_syntax.specs.declared.expr.Bin.TheVariants.{AndAlso, OrElse}
use Rattle.pl_syntax.specs.Signs.{unary_sign, binary_sign}
use Rattle.pl_syntax.specs.declared.expr.Expr.{Expr, out-Expr}
use Rattle.pl_syntax.specs.declared.expr.ExprKind.{ExprKind, out-ExprKind}
use Rattle.pl_syntax.specs.declared.expr.ExprKind.TheOpen.{ExprKind-F}
use Rattle.pl_syntax.specs.declared.stmt.Stmt.{Stmt, out-Stmt}
use Rattle.pl_syntax.specs.declared.stmt.StmtKind.{StmtKind, out-StmtKind}
use Rattle.pl_syntax.specs.declared.stmt.StmtKind.TheOpen.{StmtKind-F}
use Rattle.pl_syntax.specs.declared.stmt.Arm.{Arm, out-Arm}
use Rattle.pl_syntax.specs.declared.stmt.Target.{Target}
use Rattle.pl_syntax.specs.declared.stmt.Target.TheVariants.{Whole, Indexed, Braced}
use Rattle.pl_syntax.specs.declared.stmt.Function.{Function}
use Rattle.pl_resolve.specs.declared.resolved.Resolved.{Resolved}
use Rattle.pl_values.specs.declared.value.Value.{Value, out-Value}
use Rattle.pl_values.specs.declared.value.Value.TheOpen.{Value-F}
use Rattle.pl_array.specs.Arrays.{Array}
use Rattle.pl_values.specs.Workspaces.{value_at}
use Rattle.pl_operators.specs.declared.argument.Argument.{Argument}
use Rattle.pl_operators.specs.declared.argument.Argument.TheVariants.{Colon, Given}
use Rattle.pl_operators.specs.Operands.{array_in}
use Rattle.pl_operators.specs.Operating.{unary_of, binary_of, switch_of, logical_value, condition_of, case_fits}
use Rattle.pl_operators.specs.Ranging.{range_of}
use Rattle.pl_operators.specs.Bracketing.{rows_of, chars_of, number_of}
use Rattle.pl_operators.specs.Columns.{column_of}
use Rattle.pl_operators.specs.Showing.{shown_value}
use Rattle.pl_meaning.specs.declared.event.Event.TheVariants.{Print}
use Rattle.pl_meaning.specs.declared.frame.Frame.{Frame}
use Rattle.pl_meaning.specs.declared.frame.Ends.{Ends}
use Rattle.pl_meaning.specs.declared.frame.Exit.{Exit}
use Rattle.pl_meaning.specs.declared.frame.Exit.TheVariants.{Onward, Broke, Continued, Returned}
use Rattle.pl_meaning.specs.declared.event.Answer.{Answer}
use Rattle.pl_meaning.specs.declared.event.Output.{Output}
use Rattle.pl_meaning.specs.Logs.{Workspace, OfLoop}
use Rattle.pl_meaning.specs.Running.{Running, pure, raise, ◌>>=◌, attempt, inside, tell, ask}
use Rattle.pl_meaning.specs.Bounds.{bounds_of}
use Rattle.pl_meaning.specs.Accesses.{fail, settle, read, check, read_part, read_end, write, write_part, erase_part, take_turn}
use Rattle.pl_meaning.specs.declared.known.Known.{Known}
use Rattle.pl_resolve.specs.Functions.{function_names, local_names, number_of as number_of_name}
use Rattle.pl_meaning.specs.Names.{names_in, slot_of, function_of, callee_of, arguments_of}
use Rattle.pl_meaning.specs.Known.{known_of, is_feval}
use Rattle.pl_meaning.specs.Library.{library}
use Rattle.pl_meaning.specs.Extras.{operator_door, function_door, read_operands, read_door, by_door, extra}

-- what parts do one level further down
pub record Level : Type 0 where
  pub value : Frame → Expr → Running Value
  pub outputs : Frame → ℕ → Expr → Running (List Value)
  pub call : Bool → Place → ℕ → ℕ → List Value → Running (List Value)
  pub block : Frame → List Stmt → Running Exit
  pub ends : Frame → Expr → Running (Value × Value)

abbrev pub enter : {A : Type 0} → Option Level → Place → (Level → Running A) → Running A
enter None place f = fail TooDeep place
enter (Some d) place f = f d

-- ## Lists of expressions, from the left

-- a colon, or what an expression gives
abbrev pub argument_at : Running Value → ExprKind-F ExprKind Expr → Running Argument
argument_at value ExprKind-F.Colon = pure Colon
argument_at value kind = value >>= (λ v. pure (Given v))

abbrev pub argument_of : (Frame → Expr → Running Value) → Frame → Expr → Running Argument
argument_of value f e = argument_at (value f e) (out-ExprKind (out-Expr e).kind)

-- the frame of a position of an index of a variable
abbrev pub within : Frame → ℕ → ℕ → ℕ → Frame
within f slot position count = record f { ends = Some (record { slot = slot; position = position; count = count }) }

-- the index list of a variable, behind the positions that are done
abbrev pub places_from : (Frame → Expr → Running Value) → Frame → ℕ → ℕ → List Argument → List Expr → Running (List Argument)
places_from value f slot count done [] = pure done
places_from value f slot count done (e ∷ more) = argument_of value (within f slot (length done) count) e >>= (λ a. places_from value f slot count (done ++ a ∷ []) more)

unfoldable pub places : (Frame → Expr → Running Value) → Frame → ℕ → List Expr → Running (List Argument)
places value f slot es = places_from value f slot (length es) [] es

-- a value of a call's argument, which is no colon
abbrev pub given_of : Place → Argument → Running Value
given_of place Colon = fail BadKind place
given_of place (Given v) = pure v

-- the arguments of a call, behind those that are done
abbrev pub values_from : (Frame → Expr → Running Value) → Frame → Place → List Value → List Expr → Running (List Value)
values_from value f place done [] = pure done
values_from value f place done (e ∷ more) = argument_of value f e >>= (λ a. given_of place a >>= (λ v. values_from value f place (done ++ v ∷ []) more))

unfoldable pub values : (Frame → Expr → Running Value) → Frame → Place → List Expr → Running (List Value)
values value f place es = values_from value f place [] es

-- the elements of a row of square brackets, and then those of all rows
abbrev pub elements_from : (Frame → Expr → Running Value) → Frame → List Value → List Expr → Running (List Value)
elements_from value f done [] = pure done
elements_from value f done (e ∷ more) = value f e >>= (λ v. elements_from value f (done ++ v ∷ []) more)

unfoldable pub elements : (Frame → Expr → Running Value) → Frame → List Expr → Running (List Value)
elements value f es = elements_from value f [] es

abbrev pub rows_from : (Frame → Expr → Running Value) → Frame → List (List Value) → List (List Expr) → Running (List (List Value))
rows_from value f done [] = pure done
rows_from value f done (es ∷ more) = elements value f es >>= (λ vs. rows_from value f (done ++ vs ∷ []) more)

unfoldable pub rows : (Frame → Expr → Running Value) → Frame → List (List Expr) → Running (List (List Value))
rows value f ess = rows_from value f [] ess

-- ## Expressions

-- what is not built yet, and refused before a run
abbrev pub unbuilt : {A : Type 0} → Place → Running A
unbuilt place = fail WrongPlace place

abbrev pub Values : Type 0
Values = Frame → Expr → Running Value

-- the one output of a call that is used as a value
abbrev pub first_of : Place → List Value → Running Value
first_of place [] = fail ArgCount place
first_of place (v ∷ more) = pure v

-- an extra that is used as a value
abbrev pub one_extra : Place → List Value → ℕ → Running Value
one_extra place vs number = extra place number vs 1 >>= (λ outs. first_of place outs)

-- an operator: what it makes of its operands, or an extra
abbrev pub operator : Resolved → Bool → Place → List ℕ → List Value → Result Value ErrKind → Running Value
operator program client place sign vs r = by_door (operator_door program client sign vs) (one_extra place vs) (settle place r)

unfoldable pub unary : Resolved → Values → Frame → Place → Un → Expr → Running Value
unary program value f place op a = value f a >>= (λ x. operator program f.client place (unary_sign op) (x ∷ []) (unary_of program.mode op x))

-- both operands, the left one first
unfoldable pub binary : Resolved → Values → Frame → Place → Bin → Expr → Expr → Running Value
binary program value f place op a b = value f a >>= (λ x. value f b >>= (λ y. operator program f.client place (binary_sign op) (x ∷ y ∷ []) (binary_of program.mode op x y)))

-- an operand of `&&` or `||`
unfoldable pub switch : Values → Frame → Place → Expr → Running Bool
switch value f place a = value f a >>= (λ x. settle place (switch_of x))

-- the right operand only where the left one doesn't decide
abbrev pub second : Values → Frame → Place → Expr → Bool → Running Value
second value f place b true = switch value f place b >>= (λ right. pure (logical_value right))
second value f place b false = pure (logical_value false)

unfoldable pub both : Values → Frame → Place → Expr → Expr → Running Value
both value f place a b = switch value f place a >>= (λ left. second value f place b left)

abbrev pub other : Values → Frame → Place → Expr → Bool → Running Value
other value f place b true = pure (logical_value true)
other value f place b false = switch value f place b >>= (λ right. pure (logical_value right))

unfoldable pub either : Values → Frame → Place → Expr → Expr → Running Value
either value f place a b = switch value f place a >>= (λ left. other value f place b left)

abbrev pub operated : Resolved → Values → Frame → Place → Bin → Expr → Expr → Running Value
operated program value f place AndAlso a b = both value f place a b
operated program value f place OrElse a b = either value f place a b
operated program value f place op a b = binary program value f place op a b

-- a range's step, where it has one
abbrev pub step_of : Values → Frame → Option Expr → Running (Option Value)
step_of value f None = pure None
step_of value f (Some e) = value f e >>= (λ v. pure (Some v))

unfoldable pub range : Values → Frame → Place → Expr → Option Expr → Expr → Running Value
range value f place a s b = value f a >>= (λ x. step_of value f s >>= (λ w. value f b >>= (λ y. settle place (range_of x w y))))

unfoldable pub bracket : Values → Frame → Place → List (List Expr) → Running Value
bracket value f place ess = rows value f ess >>= (λ vss. settle place (rows_of vss))

-- what an index selects of a variable, or an extra
unfoldable pub picked : Resolved → Bool → ℕ → Place → List Argument → Running Value
picked program client slot place list = λ k h s. by_door (read_door program client (value_at s.env slot) list) (one_extra place (read_operands (value_at s.env slot) list)) (read_part slot place list) k h s

-- a variable that is indexed: that it has a value, then the index list, then what it selects
unfoldable pub indexed : Resolved → Values → Frame → Name → ℕ → List Expr → Running Value
indexed program value f n slot es = check slot n.place >>= (λ u. places value f slot es >>= (λ list. picked program f.client slot n.place list))

abbrev pub end_word : Option Ends → Place → Running Value
end_word None place = fail BadIndex place
end_word (Some ends) place = read_end ends place >>= (λ extent. pure (number_of (clamp (pos extent))))

-- a value in a slot, where there is one
abbrev pub with_slot : Workspace → Option ℕ → Value → Workspace
with_slot env None v = env
with_slot env (Some slot) v = slice_set env slot (Some v)

-- an output of a function: its value, or none where it wasn't assigned
abbrev pub output_of : Place → Option Value → Running Value
output_of place None = fail OutputUnset place
output_of place (Some v) = pure v

abbrev pub output_at : Option ℕ → Place → Running Value
output_at None place = fail OutputUnset place
output_at (Some slot) place = λ k h s. output_of place (value_at s.env slot) k h s

abbrev pub offered_of : Option Value → Running (List Value)
offered_of None = pure []
offered_of (Some v) = pure (v ∷ [])

abbrev pub offered : Option ℕ → Running (List Value)
offered None = pure []
offered (Some slot) = λ k h s. offered_of (value_at s.env slot) k h s

abbrev pub title_of : Option ℕ → Name → List ℕ
title_of (Some slot) n = n.text
title_of None n = codes "ans"

-- a statement's value is shown under a name
abbrev pub shown : Bool → List ℕ → Value → Running (Unit {0})
shown false name v = pure tt
shown true name v = tell (Print (shown_value name v))

abbrev pub shown_first : Bool → List ℕ → List Value → Running Exit
shown_first show name [] = pure Onward
shown_first show name (v ∷ more) = shown show name v >>= (λ u. pure Onward)

abbrev pub name_of : Target → Name
name_of (Whole n) = n
name_of (Indexed n es) = n
name_of (Braced n k) = n

-- the function that a call by a value is handed: its first argument
abbrev pub handed_value : Place → Value-F Value → Running ℕ
handed_value place (Value-F.Func i) = pure i
handed_value place v = fail BadKind place

abbrev pub handed : Place → List Value → Running ℕ
handed place [] = fail ArgCount place
handed place (v ∷ vs) = handed_value place (out-Value v)

-- ## Loops over workers: what needs no program

-- the variables that the statements of a body write a part of, in order
abbrev pub written_by : StmtKind-F StmtKind Arm Stmt → List Name
written_by (StmtKind-F.Assign (Indexed n es) e) = n ∷ []
written_by kind = []

abbrev pub written_in : List Stmt → List Name
written_in [] = []
written_in (s ∷ more) = written_by (out-StmtKind (out-Stmt s).kind) ++ written_in more

-- a variable that has a value before a loop has an array
abbrev pub laid_at : Place → Option Value → Running (Unit {0})
laid_at place None = pure tt
laid_at place (Some v) = settle place (array_in v) >>= (λ a. pure tt)

abbrev pub laid : Place → Option ℕ → Running (Unit {0})
laid place None = pure tt
laid place (Some slot) = λ k h s. laid_at place (value_at s.env slot) k h s

-- the variables of a loop that is done get their values
abbrev pub taken : List Output → Running (Unit {0})
taken [] = pure tt
taken (o ∷ more) = write o.slot o.value >>= (λ u. taken more)

abbrev pub answered : Place → Answer → Running Exit
answered place (Answer.Raised e) = raise e
answered place (Answer.Extra reply text calls) = fail WrongPlace place
answered place (Answer.Looped l) = tell (Print l.text) >>= (λ u. taken l.outputs >>= (λ w. pure Onward))

module _ (program : Resolved) where
  -- a function of the library
  abbrev pub by_known : Place → ℕ → List Value → Option Known → Running (List Value)
  by_known place nout vs None = unbuilt place
  by_known place nout vs (Some f) = library program.mode place f nout vs

  -- a function by its name in the table of names: an extra, or a function of the library
  abbrev pub by_table : Bool → Place → ℕ → List Value → Option (List ℕ) → Running (List Value)
  by_table client place nout vs None = unbuilt place
  by_table client place nout vs (Some name) = by_door (function_door program client name vs) (λ number. extra place number vs nout) (by_known place nout vs (known_of name))

  abbrev pub locals : ℕ
  locals = length program.program.functions

  -- a call by the number of a function: local ones first, then those of the table of names, and then the extras
  unfoldable pub numbered : Level → Bool → Place → ℕ → ℕ → List Value → Running (List Value)
  numbered d client place i nout vs = if nat_lt i locals then d.call client place i nout vs else by_table client place nout vs (slice_get (function_names ++ program.extras) (i - locals))

  -- `feval`: the first argument is the function, and the others are its arguments
  unfoldable pub fed : Level → Bool → Place → ℕ → List Value → Running (List Value)
  fed d client place nout vs = handed place vs >>= (λ i. numbered d client place i nout (drop 1 vs))

  abbrev pub by_library : Level → Bool → Place → ℕ → List Value → Known → Running (List Value)
  by_library d client place nout vs f = if is_feval f then fed d client place nout vs else library program.mode place f nout vs

  abbrev pub known_call : Level → Bool → Place → ℕ → List Value → Option Known → Running (List Value)
  known_call d client place nout vs None = unbuilt place
  known_call d client place nout vs (Some f) = by_library d client place nout vs f

  -- a call by a name: of a local function, of an extra, or else of a function of the library
  abbrev pub dispatched : Level → Bool → Name → ℕ → List Value → Option ℕ → Option Known → Running (List Value)
  dispatched d client n nout vs (Some i) f = d.call client n.place i nout vs
  dispatched d client n nout vs None f = by_door (function_door program client n.text vs) (λ number. extra n.place number vs nout) (known_call d client n.place nout vs f)

  unfoldable pub call_name : Level → Bool → Name → ℕ → List Value → Running (List Value)
  call_name d client n nout vs = dispatched d client n nout vs (function_of program n.text) (known_of n.text)

  abbrev pub applied : Level → Frame → Name → ℕ → List Expr → Running (List Value)
  applied d f n nout es = values d.value f n.place es >>= (λ vs. call_name d f.client n nout vs)

  -- a call's node, with so many outputs
  unfoldable pub called : Option Level → Frame → Place → Name → ℕ → List Expr → Running (List Value)
  called l f place n nout es = enter l place (λ d. applied d f n nout es)

  -- `@name`: the number of a function
  abbrev pub handle_of : Place → Option ℕ → Running Value
  handle_of place None = fail NoValue place
  handle_of place (Some i) = pure (Value.Func i)

  abbrev pub handle : Name → Running Value
  handle n = handle_of n.place (number_of_name (record { locals = local_names program.program.functions; extras = program.extras }) n.text)

  abbrev pub variable_or_call : Option Level → Frame → Place → Name → Option ℕ → Running Value
  variable_or_call l f place n (Some slot) = read slot n.place
  variable_or_call l f place n None = called l f place n 1 [] >>= (λ vs. first_of n.place vs)

  abbrev pub index_or_call : Level → Frame → Name → List Expr → Option ℕ → Running Value
  index_or_call d f n es (Some slot) = indexed program d.value f n slot es
  index_or_call d f n es None = applied d f n 1 es >>= (λ vs. first_of n.place vs)

  -- an expression that goes down by a level, below it
  abbrev pub compound_of : Level → Frame → Place → ExprKind-F ExprKind Expr → Running Value
  compound_of d f place (ExprKind-F.Apply n es) = index_or_call d f n es (slot_of program f n.text)
  compound_of d f place (ExprKind-F.Unary op a) = unary program d.value f place op a
  compound_of d f place (ExprKind-F.Binary op a b) = operated program d.value f place op a b
  compound_of d f place (ExprKind-F.Range a s b) = range d.value f place a s b
  compound_of d f place (ExprKind-F.Rows ess) = bracket d.value f place ess
  compound_of d f place (ExprKind-F.Func n) = handle n
  compound_of d f place ExprKind-F.End = end_word f.ends place
  compound_of d f place kind = unbuilt place

  unfoldable pub compound : Level → Frame → Expr → Running Value
  compound d f e = compound_of d f (out-Expr e).place (out-ExprKind (out-Expr e).kind)

  abbrev pub value_of : Option Level → Frame → Expr → Place → ExprKind-F ExprKind Expr → Running Value
  value_of l f e place (ExprKind-F.Number z) = pure (number_of z)
  value_of l f e place (ExprKind-F.Chars t) = pure (chars_of t)
  value_of l f e place (ExprKind-F.Var n) = variable_or_call l f place n (slot_of program f n.text)
  value_of l f e place ExprKind-F.Colon = fail BadKind place
  value_of l f e place kind = enter l place (λ d. compound d f e)

  -- the value of an expression
  unfoldable pub value_in : Option Level → Frame → Expr → Running Value
  value_in l f e = value_of l f e (out-Expr e).place (out-ExprKind (out-Expr e).kind)

  -- so many outputs of an expression; one that is no call has one value
  abbrev pub outputs_by : Option Level → Frame → ℕ → Expr → Option Name → Running (List Value)
  outputs_by l f nout e None = value_in l f e >>= (λ v. pure (v ∷ []))
  outputs_by l f nout e (Some n) = called l f (out-Expr e).place n nout (arguments_of e)

  unfoldable pub outputs_in : Option Level → Frame → ℕ → Expr → Running (List Value)
  outputs_in l f nout e = outputs_by l f nout e (callee_of program f e)

  -- the outputs for a list of targets: of a call alone
  abbrev pub listed_by : Option Level → Frame → ℕ → Expr → Option Name → Running (List Value)
  listed_by l f nout e None = value_in l f e >>= (λ v. fail ArgCount (out-Expr e).place)
  listed_by l f nout e (Some n) = called l f (out-Expr e).place n nout (arguments_of e)

  unfoldable pub listed_in : Option Level → Frame → ℕ → Expr → Running (List Value)
  listed_in l f nout e = listed_by l f nout e (callee_of program f e)

  -- ## Calls of local functions

  -- the arguments in the slots of the parameters; one without a name is let go
  abbrev pub bound_in : Frame → Workspace → Option Name → Value → Workspace
  bound_in f env None v = env
  bound_in f env (Some n) v = with_slot env (slot_of program f n.text) v

  abbrev pub bound : Frame → Workspace → List (Option Name) → List Value → Workspace
  bound f env [] vs = env
  bound f env (p ∷ ps) [] = env
  bound f env (p ∷ ps) (v ∷ vs) = bound f (bound_in f env p v) ps vs

  -- the counts of a call, in the slots of their names
  abbrev pub count_in : Frame → List ℕ → ℕ → Workspace → Workspace
  count_in f name n env = with_slot env (slot_of program f name) (number_of (clamp (pos n)))

  abbrev pub counted_in : Frame → Workspace → Workspace
  counted_in f env = count_in f (codes "nargout") f.wanted (count_in f (codes "nargin") f.given env)

  -- the workspace in which a function begins: the counts of its call, and then its arguments
  abbrev pub entry_of : Frame → Function → List Value → Workspace
  entry_of f g vs = bound f (counted_in f (replicate (length (names_in program f.scope)) None)) g.params vs

  -- an output that the function assigned
  abbrev pub output : Frame → Place → Name → Running Value
  output f place n = output_at (slot_of program f n.text) place

  -- the outputs that are asked for, in order
  abbrev pub results_from : Frame → Place → List Value → List Name → Running (List Value)
  results_from f place done [] = pure done
  results_from f place done (n ∷ outs) = output f place n >>= (λ v. results_from f place (done ++ v ∷ []) outs)

  -- where none is asked for: the first, if the function assigned it
  abbrev pub first_offered : Frame → List Name → Running (List Value)
  first_offered f [] = pure []
  first_offered f (n ∷ outs) = offered (slot_of program f n.text)

  abbrev pub results_of : Frame → Place → List Name → ℕ → Running (List Value)
  results_of f place outs zero = first_offered f outs
  results_of f place outs (suc more) = results_from f place [] (take (suc more) outs)

  unfoldable pub results : Frame → Place → Function → Running (List Value)
  results f place g = results_of f place g.outs f.wanted

  abbrev pub frame_of : Bool → ℕ → ℕ → ℕ → Frame
  frame_of client i given wanted = record { client = client; scope = i + 1; given = given; wanted = wanted; ends = None }

  -- its statements, and the outputs that are asked for
  abbrev pub ran : Level → Frame → Place → Function → Running (List Value)
  ran d f place g = d.block f g.body >>= (λ x. results f place g)

  abbrev pub body_of : Level → Frame → Place → Function → List Value → Running (List Value)
  body_of d f place g vs = inside (entry_of f g vs) (ran d f place g)

  -- a function: the counts, a turn, a level, and its body in a workspace of its own
  abbrev pub entered : Option Level → Bool → Place → ℕ → ℕ → List Value → Option Function → Running (List Value)
  entered l client place i nout vs None = fail NoValue place
  entered l client place i nout vs (Some g) =
      if nat_lt (length g.params) (length vs) || nat_lt (length g.outs) nout then fail ArgCount place else
      (take_turn place >>= (λ u. enter l place (λ d. body_of d (frame_of client i (length vs) nout) place g vs)))

  unfoldable pub call_in : Option Level → Bool → Place → ℕ → ℕ → List Value → Running (List Value)
  call_in l client place i nout vs = entered l client place i nout vs (slice_get program.program.functions i)

  -- ## Statements

  -- the name under which the value of an expression is shown
  abbrev pub title_at : Frame → ExprKind-F ExprKind Expr → List ℕ
  title_at f (ExprKind-F.Var n) = title_of (slot_of program f n.text) n
  title_at f kind = codes "ans"

  abbrev pub title : Frame → Expr → List ℕ
  title f e = title_at f (out-ExprKind (out-Expr e).kind)

  unfoldable pub evaluated : Option Level → Frame → Bool → Expr → Running Exit
  evaluated l f show e = outputs_in l f 0 e >>= (λ vs. shown_first show (title f e) vs)

  -- a target gets a value
  abbrev pub assigned_whole : Option ℕ → Name → Value → Running (Unit {0})
  assigned_whole None n v = fail NoValue n.place
  assigned_whole (Some slot) n v = write slot v

  abbrev pub assigned_part : Option Level → Frame → Option ℕ → Name → List Expr → Value → Running (Unit {0})
  assigned_part l f None n es v = fail NoValue n.place
  assigned_part l f (Some slot) n es v = places (value_in l) f slot es >>= (λ list. write_part slot n.place list v)

  abbrev pub assigned_at : Option Level → Frame → Target → Value → Running (Unit {0})
  assigned_at l f (Whole n) v = assigned_whole (slot_of program f n.text) n v
  assigned_at l f (Indexed n es) v = assigned_part l f (slot_of program f n.text) n es v
  assigned_at l f (Braced n k) v = unbuilt n.place

  unfoldable pub assigned : Option Level → Frame → Target → Value → Running (Unit {0})
  assigned l f t v = assigned_at l f t v

  -- a target is shown whole, as it stands behind the statement
  abbrev pub shown_slot : Name → Option ℕ → Running (Unit {0})
  shown_slot n None = fail NoValue n.place
  shown_slot n (Some slot) = read slot n.place >>= (λ v. tell (Print (shown_value n.text v)))

  abbrev pub shown_name : Bool → Frame → Name → Running (Unit {0})
  shown_name false f n = pure tt
  shown_name true f n = shown_slot n (slot_of program f n.text)

  unfoldable pub shown_target : Bool → Frame → Target → Running (Unit {0})
  shown_target show f t = shown_name show f (name_of t)

  -- the value first, then the target
  unfoldable pub assignment : Option Level → Frame → Bool → Target → Expr → Running Exit
  assignment l f show t e = value_in l f e >>= (λ v. assigned l f t v >>= (λ u. shown_target show f t >>= (λ w. pure Onward)))

  -- the targets from the left, each with its value; one without a name lets its value go
  abbrev pub target_of : Option Level → Frame → Option Target → Value → Running (Unit {0})
  target_of l f None v = pure tt
  target_of l f (Some t) v = assigned l f t v

  abbrev pub targets_from : Option Level → Frame → Place → List (Option Target) → List Value → Running (Unit {0})
  targets_from l f place [] vs = pure tt
  targets_from l f place (t ∷ ts) [] = fail ArgCount place
  targets_from l f place (t ∷ ts) (v ∷ vs) = target_of l f t v >>= (λ u. targets_from l f place ts vs)

  abbrev pub shown_target_of : Bool → Frame → Option Target → Running (Unit {0})
  shown_target_of show f None = pure tt
  shown_target_of show f (Some t) = shown_target show f t

  abbrev pub shown_targets : Bool → Frame → List (Option Target) → Running (Unit {0})
  shown_targets show f [] = pure tt
  shown_targets show f (t ∷ ts) = shown_target_of show f t >>= (λ u. shown_targets show f ts)

  unfoldable pub list_assignment : Option Level → Frame → Place → Bool → List (Option Target) → Expr → Running Exit
  list_assignment l f place show ts e = listed_in l f (length ts) e >>= (λ vs. targets_from l f place ts vs >>= (λ u. shown_targets show f ts >>= (λ w. pure Onward)))

  -- a part of a variable is taken out of it
  abbrev pub deleted : Option Level → Frame → Option ℕ → Name → List Expr → Running (Unit {0})
  deleted l f None n es = fail NoValue n.place
  deleted l f (Some slot) n es = check slot n.place >>= (λ u. places (value_in l) f slot es >>= (λ list. erase_part slot n.place list))

  unfoldable pub taken_out : Option Level → Frame → Name → List Expr → Running (Unit {0})
  taken_out l f n es = deleted l f (slot_of program f n.text) n es

  -- a deletion: the variable that is left is shown as a target is
  unfoldable pub deletion : Option Level → Frame → Bool → Name → List Expr → Running Exit
  deletion l f show n es = taken_out l f n es >>= (λ u. shown_target show f (Whole n) >>= (λ w. pure Onward))

  -- a test
  unfoldable pub tested : Values → Frame → Place → Expr → Running Bool
  tested value f place e = value f e >>= (λ v. settle place (condition_of v))

  -- the first arm whose test holds, else the other statements
  abbrev pub arms_from : Level → Frame → Place → List Stmt → List Arm → Running Exit
  arms_from d f place other [] = d.block f other
  arms_from d f place other (a ∷ more) = tested d.value f place (out-Arm a).test >>= (λ yes. if yes then d.block f (out-Arm a).body else arms_from d f place other more)

  unfoldable pub branches : Level → Frame → Place → List Arm → List Stmt → Running Exit
  branches d f place arms other = arms_from d f place other arms

  -- the first case that fits the value, else the other statements
  unfoldable pub fitted : Values → Frame → Place → Value → Expr → Running Bool
  fitted value f place v e = value f e >>= (λ w. settle place (case_fits v w))

  abbrev pub cases_from : Level → Frame → Place → List Stmt → Value → List Arm → Running Exit
  cases_from d f place other v [] = d.block f other
  cases_from d f place other v (a ∷ more) = fitted d.value f place v (out-Arm a).test >>= (λ yes. if yes then d.block f (out-Arm a).body else cases_from d f place other v more)

  unfoldable pub cases : Level → Frame → Place → Expr → List Arm → List Stmt → Running Exit
  cases d f place e arms other = d.value f e >>= (λ v. settle place (array_in v) >>= (λ a. cases_from d f place other v arms))

  -- what comes behind a pass of a loop
  abbrev pub after_pass : Exit → Running Exit → Running Exit
  after_pass Onward more = more
  after_pass Continued more = more
  after_pass Broke more = pure Onward
  after_pass Returned more = pure Returned

  -- at most so many passes: the test, a turn, the body. Each pass takes a turn, so there are no more than turns
  abbrev pub passes : Level → Frame → Place → Expr → List Stmt → ℕ → Running Exit
  passes d f place e body zero = fail Spent place
  passes d f place e body (suc most) = tested d.value f place e >>= (λ yes. if yes then (take_turn place >>= (λ u. d.block f body >>= (λ x. after_pass x (passes d f place e body most)))) else pure Onward)

  unfoldable pub looped : Level → Frame → Place → Expr → List Stmt → Running Exit
  looped d f place e body = λ k h s. passes d f place e body (s.turns + 1) k h s

  -- one pass for each column that is left: a turn, the index, the body
  abbrev pub columns_from : Level → Frame → Place → ℕ → Array → List Stmt → ℕ → ℕ → Running Exit
  columns_from d f place slot a body done zero = pure Onward
  columns_from d f place slot a body done (suc left) = take_turn place >>= (λ u. write slot (Value.Array (column_of a done)) >>= (λ w. d.block f body >>= (λ x. after_pass x (columns_from d f place slot a body (done + 1) left))))

  abbrev pub counted : Level → Frame → Place → Option ℕ → Array → List Stmt → Running Exit
  counted d f place None a body = fail NoValue place
  counted d f place (Some slot) a body = columns_from d f place slot a body 0 a.cols

  unfoldable pub columned : Level → Frame → Place → Name → Expr → List Stmt → Running Exit
  columned d f place n e body = d.value f e >>= (λ v. settle place (array_in v) >>= (λ a. counted d f place (slot_of program f n.text) a body))

  -- ## Loops over workers

  -- the two ends of a range; any other range isn't built yet
  abbrev pub ends_at : Option Level → Frame → Place → ExprKind-F ExprKind Expr → Running (Value × Value)
  ends_at l f place (ExprKind-F.Range a None b) = enter l place (λ d. d.value f a >>= (λ x. d.value f b >>= (λ y. pure (x, y))))
  ends_at l f place kind = unbuilt place

  unfoldable pub ends_in : Option Level → Frame → Expr → Running (Value × Value)
  ends_in l f e = ends_at l f (out-Expr e).place (out-ExprKind (out-Expr e).kind)

  -- each variable that a body writes, and that has a value before the loop, has an array
  abbrev pub all_laid : Frame → Place → List Name → Running (Unit {0})
  all_laid f place [] = pure tt
  all_laid f place (n ∷ more) = laid place (slot_of program f n.text) >>= (λ u. all_laid f place more)

  -- the checks before a loop, a turn for the question, and its answer
  unfoldable pub shared : Frame → Place → Name → List Stmt → Value → Value → Running Exit
  shared f place n body x y =
      settle place (bounds_of x y) >>= (λ b. all_laid f place (written_in body) >>= (λ u. take_turn place >>= (λ w.
      ask (OfLoop (record { scope = f.scope; place = place; index = n; body = body; first = b.first; count = b.count })) >>= answered place)))

  -- a loop without a bound on its workers; one with a bound isn't built yet
  abbrev pub divided : Level → Frame → Place → Name → Expr → Option Expr → List Stmt → Running Exit
  divided d f place n e None body = d.ends f e >>= (λ xy. shared f place n body xy.0 xy.1)
  divided d f place n e (Some most) body = unbuilt place

  -- a statement that goes down by a level, below it
  abbrev pub compound_at : Level → Frame → Place → StmtKind-F StmtKind Arm Stmt → Running Exit
  compound_at d f place (StmtKind-F.If arms other) = branches d f place arms other
  compound_at d f place (StmtKind-F.While e body) = looped d f place e body
  compound_at d f place (StmtKind-F.For n e body) = columned d f place n e body
  compound_at d f place (StmtKind-F.Switch e arms other) = cases d f place e arms other
  compound_at d f place (StmtKind-F.Try body handler) = attempt (d.block f body) (d.block f handler)
  compound_at d f place (StmtKind-F.Parfor n e most body) = divided d f place n e most body
  compound_at d f place kind = unbuilt place

  unfoldable pub compound_stmt : Level → Frame → Stmt → Running Exit
  compound_stmt d f s = compound_at d f (out-Stmt s).place (out-StmtKind (out-Stmt s).kind)

  abbrev pub stmt_at : Option Level → Frame → Stmt → Place → Bool → StmtKind-F StmtKind Arm Stmt → Running Exit
  stmt_at l f s place show (StmtKind-F.Eval e) = evaluated l f show e
  stmt_at l f s place show (StmtKind-F.Assign t e) = assignment l f show t e
  stmt_at l f s place show (StmtKind-F.AssignList ts e) = list_assignment l f place show ts e
  stmt_at l f s place show (StmtKind-F.Delete n es) = deletion l f show n es
  stmt_at l f s place show StmtKind-F.Break = pure Broke
  stmt_at l f s place show StmtKind-F.Continue = pure Continued
  stmt_at l f s place show StmtKind-F.Return = pure Returned
  stmt_at l f s place show kind = enter l place (λ d. compound_stmt d f s)

  unfoldable pub stmt_in : Option Level → Frame → Stmt → Running Exit
  stmt_in l f s = stmt_at l f s (out-Stmt s).place (out-Stmt s).show (out-StmtKind (out-Stmt s).kind)

  -- statements one after another, until one leaves them
  abbrev pub sequel : Exit → Running Exit → Running Exit
  sequel Onward more = more
  sequel x more = pure x

  abbrev pub block_from : Option Level → Frame → List Stmt → Running Exit
  block_from l f [] = pure Onward
  block_from l f (s ∷ more) = stmt_in l f s >>= (λ x. sequel x (block_from l f more))

  unfoldable pub block_in : Option Level → Frame → List Stmt → Running Exit
  block_in l f ss = block_from l f ss

  -- ## Levels

  abbrev pub level_at : Option Level → Level
  level_at l = record { value = value_in l; outputs = outputs_in l; call = call_in l; block = block_in l; ends = ends_in l }

  -- what parts do below so many levels
  unfoldable pub below : ℕ → Option Level
  below zero = None
  below (suc n) = Some (level_at (below n))
