-- A statement without nodes stops at no question but those of a built program, and at a loop's in a workspace of its scope, if the
-- parts below it don't.
use Rattle.std.specs.Prelude.{◌≡◌, nat_lt, ◌||◌, codes}
use Rattle.std.proofs.Common.{◌∙◌, ℕ, zero, suc, ◌+◌, ◌++◌, List, [], ◌∷◌, length, replicate, Bool, true, false, Option, Some, None, refl, sym, subst}
use Rattle.std.proofs.lemmas.List.{length-set, length-replicate}
use Rattle.pl_base.specs.declared.errors.Place.{Place}
use Rattle.pl_array.specs.Arrays.{Array}
use Rattle.pl_syntax.specs.declared.expr.Expr.{Expr, out-Expr}
use Rattle.pl_syntax.specs.declared.expr.ExprKind.{ExprKind, out-ExprKind}
use Rattle.pl_syntax.specs.declared.expr.ExprKind.TheOpen.{ExprKind-F}
use Rattle.pl_syntax.specs.declared.expr.Name.{Name}
use Rattle.pl_syntax.specs.declared.stmt.Arm.{Arm, out-Arm}
use Rattle.pl_syntax.specs.declared.stmt.Function.{Function}
use Rattle.pl_syntax.specs.declared.stmt.Stmt.{Stmt, out-Stmt}
use Rattle.pl_syntax.specs.declared.stmt.StmtKind.{StmtKind}
use Rattle.pl_syntax.specs.declared.stmt.StmtKind.TheOpen.{StmtKind-F}
use Rattle.pl_syntax.specs.declared.stmt.Target.{Target}
use Rattle.pl_syntax.specs.declared.stmt.Target.TheVariants.{Whole, Indexed, Braced}
use Rattle.pl_values.specs.declared.value.Value.{Value}
use Rattle.pl_values.specs.Workspaces.{value_at}
use Rattle.pl_resolve.specs.declared.resolved.Resolved.{Resolved}
use Rattle.pl_meaning.specs.declared.event.Answer.{Answer}
use Rattle.pl_meaning.specs.declared.event.Output.{Output}
use Rattle.pl_meaning.specs.declared.frame.Exit.{Exit}
use Rattle.pl_meaning.specs.declared.frame.Exit.TheVariants.{Onward, Broke, Continued, Returned}
use Rattle.pl_meaning.specs.declared.frame.Frame.{Frame}
use Rattle.pl_meaning.specs.Forms.{is_form}
use Rattle.pl_meaning.specs.Logs.{Workspace}
use Rattle.pl_meaning.specs.Names.{slot_of}
use Rattle.pl_meaning.specs.Running.{Running}
use Rattle.pl_meaning.specs.Parts.{Level, Values, enter, output_of, output_at, offered_of, offered, shown, shown_first, name_of, written_in, taken, answered, results_from, first_offered, results_of, results, frame_of as call_frame, with_slot, bound_in, bound, count_in, counted_in, entry_of, ran, body_of, entered, title, evaluated, assigned_whole, assigned_part, assigned_at, assigned, shown_slot, shown_name, shown_target, assignment, target_of, targets_from, shown_target_of, shown_targets, list_assignment, deleted, taken_out, deletion, tested, arms_from, branches, fitted, cases_from, cases, after_pass, passes, looped, columns_from, counted, columned, ends_at, ends_in, shared, divided, compound_at, compound_stmt, stmt_at, stmt_in, sequel, block_from, block_in, value_in}
use Rattle.pl_unbuilt.specs.Nodes.{of_expr, of_stmt, of_arm, of_arms, of_block, frame_of}
use Rattle.pl_built.specs.Built.{guarded, kind_of}
use Rattle.pl_built.proofs.Shapes.{nodes_at, nodes_are, arm_nodes_are, form_is}
use Rattle.pl_built.proofs.Standing.{left_none, right_none, built_where_none}
use Rattle.pl_built.proofs.Asking.{width, GoodAt, Good, pure_good, raise_good, bind_at, bind_good, choice_at, choice_good, attempt_at, inside_good, look_at, look_good, tell_good, bind_where, where_at, ask_where, take_turn_where, settle_good, read_good, check_good, write_good, write_part_good, erase_part_good, take_turn_good}
use Rattle.pl_built.proofs.Laying.{widened, all_laid_where}
use Rattle.pl_built.proofs.Expressions.{IsCalm, GoodLevel, GoodBelow, enter_good, enter_at, AllGood, places_good, value_good, outputs_good, listed_good}

module _ (program : Resolved) where
  abbrev IsGood : {A : Type 0} → Running A → Type 0
  IsGood p = Good program p

  -- in the workspaces of a frame's scope
  abbrev IsGoodIn : {A : Type 0} → Frame → Running A → Type 0
  IsGoodIn f p = GoodAt program (width program f.scope) p

  -- ## Calls of local functions

  slot_long : (env : Workspace) (slot : Option ℕ) (v : Value) → length (with_slot env slot v) ≡ length env
  slot_long env None v = refl
  slot_long env (Some slot) v = length-set env slot (Some v)

  param_long : (f : Frame) (env : Workspace) (p : Option Name) (v : Value) → length (bound_in program f env p v) ≡ length env
  param_long f env None v = refl
  param_long f env (Some n) v = slot_long env (slot_of program f n.text) v

  bound_long : (f : Frame) (env : Workspace) (ps : List (Option Name)) (vs : List Value) → length (bound program f env ps vs) ≡ length env
  bound_long f env [] vs = refl
  bound_long f env (p ∷ ps) [] = refl
  bound_long f env (p ∷ ps) (v ∷ vs) = bound_long f (bound_in program f env p v) ps vs ∙ param_long f env p v

  count_long : (f : Frame) (name : List ℕ) (n : ℕ) (env : Workspace) → length (count_in program f name n env) ≡ length env
  count_long f name n env = slot_long env (slot_of program f name) _

  -- a function begins in a workspace as long as its scope
  entry_long : (f : Frame) (g : Function) (vs : List Value) → length (entry_of program f g vs) ≡ width program f.scope
  entry_long f g vs =
      bound_long f (counted_in program f (replicate (width program f.scope) None)) g.params vs
      ∙ count_long f (codes "nargout") f.wanted (count_in program f (codes "nargin") f.given (replicate (width program f.scope) None))
      ∙ count_long f (codes "nargin") f.given (replicate (width program f.scope) None)
      ∙ length-replicate (width program f.scope) None

  output_of_good : (place : Place) (v : Option Value) → IsGood (output_of place v)
  output_of_good place None = raise_good program _
  output_of_good place (Some v) = pure_good program v

  output_good : (place : Place) (slot : Option ℕ) → IsGood (output_at slot place)
  output_good place None = raise_good program _
  output_good place (Some slot) = look_good program (λ s. output_of place (value_at s.env slot)) (λ s. output_of_good place _) (λ s. refl)

  offered_of_good : (v : Option Value) → IsGood (offered_of v)
  offered_of_good None = pure_good program []
  offered_of_good (Some v) = pure_good program _

  offered_good : (slot : Option ℕ) → IsGood (offered slot)
  offered_good None = pure_good program []
  offered_good (Some slot) = look_good program (λ s. offered_of (value_at s.env slot)) (λ s. offered_of_good _) (λ s. refl)

  results_next : (f : Frame) (place : Place) (done : List Value) (outs : List Name) → IsGood (results_from program f place done outs)
  results_next f place done [] = pure_good program done
  results_next f place done (n ∷ outs) = bind_good program _ (output_good place (slot_of program f n.text)) (λ v. results_next f place (done ++ v ∷ []) outs)

  first_good : (f : Frame) (outs : List Name) → IsGood (first_offered program f outs)
  first_good f [] = pure_good program []
  first_good f (n ∷ outs) = offered_good (slot_of program f n.text)

  results_by : (f : Frame) (place : Place) (outs : List Name) (wanted : ℕ) → IsGood (results_of program f place outs wanted)
  results_by f place outs zero = first_good f outs
  results_by f place outs (suc more) = results_next f place [] _

  results_good : (f : Frame) (place : Place) (g : Function) → IsGood (results program f place g)
  unfolding results
  results_good f place g = results_by f place g.outs f.wanted

  body_good : (d : Level) → GoodLevel program d → (f : Frame) (place : Place) (g : Function) (vs : List Value) → IsCalm program f.scope g.body → IsGood (body_of program d f place g vs)
  body_good d D f place g vs calm = inside_good program (entry_of program f g vs) (ran program d f place g) (subst (λ n. GoodAt program n (ran program d f place g)) (sym (entry_long f g vs)) (bind_at program _ (D.block f g.body calm) (λ x. (results_good f place g).at (width program f.scope))))

  pub entered_good : (l : Option Level) → GoodBelow program l → (client : Bool) (place : Place) (i nout : ℕ) (vs : List Value) (o : Option Function) → ((g : Function) → o ≡ Some g → IsCalm program (i + 1) g.body) → IsGood (entered program l client place i nout vs o)
  entered_good l L client place i nout vs None calm = raise_good program _
  entered_good l L client place i nout vs (Some g) calm =
      choice_good program (nat_lt (length g.params) (length vs) || nat_lt (length g.outs) nout) _ _ (raise_good program _)
      (bind_good program _ (take_turn_good program place) (λ u. enter_good program l L place (λ d. body_of program d (call_frame program client i (length vs) nout) place g vs) (λ d D. body_good d D (call_frame program client i (length vs) nout) place g vs (calm g refl))))

  -- ## Simple statements

  shown_good : (show : Bool) (name : List ℕ) (v : Value) → IsGood (shown show name v)
  shown_good false name v = pure_good program tt
  shown_good true name v = tell_good program _

  shown_first_good : (show : Bool) (name : List ℕ) (vs : List Value) → IsGood (shown_first show name vs)
  shown_first_good show name [] = pure_good program Onward
  shown_first_good show name (v ∷ more) = bind_good program _ (shown_good show name v) (λ u. pure_good program Onward)

  whole_good : (slot : Option ℕ) (n : Name) (v : Value) → IsGood (assigned_whole program slot n v)
  whole_good None n v = raise_good program _
  whole_good (Some slot) n v = write_good program slot v

  shown_slot_good : (n : Name) (slot : Option ℕ) → IsGood (shown_slot program n slot)
  shown_slot_good n None = raise_good program _
  shown_slot_good n (Some slot) = bind_good program _ (read_good program slot n.place) (λ v. tell_good program _)

  shown_name_good : (show : Bool) (f : Frame) (n : Name) → IsGood (shown_name program show f n)
  shown_name_good false f n = pure_good program tt
  shown_name_good true f n = shown_slot_good n (slot_of program f n.text)

  shown_target_good : (show : Bool) (f : Frame) (t : Target) → IsGood (shown_target program show f t)
  unfolding shown_target
  shown_target_good show f t = shown_name_good show f (name_of t)

  shown_output_good : (show : Bool) (f : Frame) (t : Option Target) → IsGood (shown_target_of program show f t)
  shown_output_good show f None = pure_good program tt
  shown_output_good show f (Some t) = shown_target_good show f t

  shown_targets_good : (show : Bool) (f : Frame) (ts : List (Option Target)) → IsGood (shown_targets program show f ts)
  shown_targets_good show f [] = pure_good program tt
  shown_targets_good show f (t ∷ ts) = bind_good program _ (shown_output_good show f t) (λ u. shown_targets_good show f ts)

  -- ## Loops over workers

  taken_good : (outs : List Output) → IsGood (taken outs)
  taken_good [] = pure_good program tt
  taken_good (o ∷ more) = bind_good program _ (write_good program o.slot o.value) (λ u. taken_good more)

  answered_good : (place : Place) (a : Answer) → IsGood (answered place a)
  answered_good place (Answer.Raised e) = raise_good program e
  answered_good place (Answer.Extra reply text calls) = raise_good program _
  answered_good place (Answer.Looped l) = bind_good program _ (tell_good program _) (λ u. bind_good program _ (taken_good l.outputs) (λ w. pure_good program Onward))

  -- the question of a loop of the form
  shared_good : (f : Frame) (place : Place) (n : Name) (body : List Stmt) (x y : Value) → is_form program (frame_of f.scope) n body ≡ true → IsGoodIn f (shared program f place n body x y)
  unfolding shared
  shared_good f place n body x y form =
      bind_at program _ ((settle_good program place _).at _) (λ b. where_at program (λ env. tt) (all_laid_where program (λ env. Unit {0}) f place (written_in body) _ (take_turn_where program place _ (bind_where program _ (widened program (λ env has. has.1) (ask_where program _ form)) (λ a. (answered_good place a).at _)))))

  ends_kind : (l : Option Level) → GoodBelow program l → (f : Frame) (place : Place) (kind : ExprKind-F ExprKind Expr) → IsGood (ends_at program l f place kind)
  ends_kind l L f place (ExprKind-F.Range a None b) = enter_good program l L place _ (λ d D. bind_good program _ (D.value f a) (λ x. bind_good program _ (D.value f b) (λ y. pure_good program (x, y))))
  ends_kind l L f place kind = raise_good program _

  pub ends_good : (l : Option Level) → GoodBelow program l → (f : Frame) (e : Expr) → IsGood (ends_in program l f e)
  unfolding ends_in
  ends_good l L f e = ends_kind l L f (out-Expr e).place (out-ExprKind (out-Expr e).kind)

  divided_good : (d : Level) → GoodLevel program d → (f : Frame) (place : Place) (n : Name) (e : Expr) (most : Option Expr) (body : List Stmt) → is_form program (frame_of f.scope) n body ≡ true → IsGoodIn f (divided program d f place n e most body)
  divided_good d D f place n e None body form = bind_at program _ ((D.ends f e).at _) (λ xy. shared_good f place n body xy.0 xy.1 form)
  divided_good d D f place n e (Some most) body form = (raise_good program _).at _

  -- ## Branches and loops

  tested_good : (value : Values) → AllGood program value → (f : Frame) (place : Place) (e : Expr) → IsGood (tested program value f place e)
  unfolding tested
  tested_good value V f place e = bind_good program _ (V f e) (λ v. settle_good program place _)

  fitted_good : (value : Values) → AllGood program value → (f : Frame) (place : Place) (v : Value) (e : Expr) → IsGood (fitted program value f place v e)
  unfolding fitted
  fitted_good value V f place v e = bind_good program _ (V f e) (λ w. settle_good program place _)

  after_good : (f : Frame) (x : Exit) (more : Running Exit) → IsGoodIn f more → IsGoodIn f (after_pass program x more)
  after_good f Onward more P = P
  after_good f Continued more P = P
  after_good f Broke more P = (pure_good program Onward).at _
  after_good f Returned more P = (pure_good program Returned).at _

  module _ (d : Level) (D : GoodLevel program d) (f : Frame) (place : Place) where
    abbrev Calm : List Stmt → Type 0
    Calm body = IsCalm program f.scope body

    abbrev AreCalm : List Arm → Type 0
    AreCalm arms = of_arms program (frame_of f.scope) arms ≡ []

    first_calm : (a : Arm) (more : List Arm) → AreCalm (a ∷ more) → Calm (guarded a)
    first_calm a more calm = right_none (of_expr (out-Arm a).test) (of_block program (frame_of f.scope) (guarded a)) (sym (arm_nodes_are program (frame_of f.scope) a) ∙ left_none (of_arm program (frame_of f.scope) a) (of_arms program (frame_of f.scope) more) calm)

    more_calm : (a : Arm) (more : List Arm) → AreCalm (a ∷ more) → AreCalm more
    more_calm a more calm = right_none (of_arm program (frame_of f.scope) a) (of_arms program (frame_of f.scope) more) calm

    arms_good : (last : List Stmt) (arms : List Arm) → AreCalm arms → Calm last → IsGoodIn f (arms_from program d f place last arms)
    arms_good last [] calm calm_last = D.block f last calm_last
    arms_good last (a ∷ more) calm calm_last = bind_at program _ ((tested_good d.value D.value f place (out-Arm a).test).at _) (λ yes'. choice_at program yes' _ _ (D.block f (guarded a) (first_calm a more calm)) (arms_good last more (more_calm a more calm) calm_last))

    branches_good : (arms : List Arm) (last : List Stmt) → AreCalm arms → Calm last → IsGoodIn f (branches program d f place arms last)
    unfolding branches
    branches_good arms last calm calm_last = arms_good last arms calm calm_last

    cases_next : (last : List Stmt) (v : Value) (arms : List Arm) → AreCalm arms → Calm last → IsGoodIn f (cases_from program d f place last v arms)
    cases_next last v [] calm calm_last = D.block f last calm_last
    cases_next last v (a ∷ more) calm calm_last = bind_at program _ ((fitted_good d.value D.value f place v (out-Arm a).test).at _) (λ yes'. choice_at program yes' _ _ (D.block f (guarded a) (first_calm a more calm)) (cases_next last v more (more_calm a more calm) calm_last))

    cases_good : (e : Expr) (arms : List Arm) (last : List Stmt) → AreCalm arms → Calm last → IsGoodIn f (cases program d f place e arms last)
    unfolding cases
    cases_good e arms last calm calm_last = bind_at program _ ((D.value f e).at _) (λ v. bind_at program _ ((settle_good program place _).at _) (λ a. cases_next last v arms calm calm_last))

    passes_good : (e : Expr) (body : List Stmt) → Calm body → (most : ℕ) → IsGoodIn f (passes program d f place e body most)
    passes_good e body calm zero = (raise_good program _).at _
    passes_good e body calm (suc most) = bind_at program _ ((tested_good d.value D.value f place e).at _) (λ yes'. choice_at program yes' _ _ (bind_at program _ ((take_turn_good program place).at _) (λ u. bind_at program _ (D.block f body calm) (λ x. after_good f x _ (passes_good e body calm most)))) ((pure_good program Onward).at _))

    looped_good : (e : Expr) (body : List Stmt) → Calm body → IsGoodIn f (looped program d f place e body)
    unfolding looped
    looped_good e body calm = look_at program (λ s. passes program d f place e body (s.turns + 1)) (λ s. passes_good e body calm (s.turns + 1)) (λ s. refl)

    columns_next : (slot : ℕ) (a : Array) (body : List Stmt) → Calm body → (done left : ℕ) → IsGoodIn f (columns_from program d f place slot a body done left)
    columns_next slot a body calm done zero = (pure_good program Onward).at _
    columns_next slot a body calm done (suc left) = bind_at program _ ((take_turn_good program place).at _) (λ u. bind_at program _ ((write_good program slot _).at _) (λ w. bind_at program _ (D.block f body calm) (λ x. after_good f x _ (columns_next slot a body calm (done + 1) left))))

    counted_good : (slot : Option ℕ) (a : Array) (body : List Stmt) → Calm body → IsGoodIn f (counted program d f place slot a body)
    counted_good None a body calm = (raise_good program _).at _
    counted_good (Some slot) a body calm = columns_next slot a body calm 0 a.cols

    columned_good : (n : Name) (e : Expr) (body : List Stmt) → Calm body → IsGoodIn f (columned program d f place n e body)
    unfolding columned
    columned_good n e body calm = bind_at program _ ((D.value f e).at _) (λ v. bind_at program _ ((settle_good program place _).at _) (λ a. counted_good (slot_of program f n.text) a body calm))

    -- ## Statements below a level

    compound_kind : (o : StmtKind-F StmtKind Arm Stmt) (at : Place) → nodes_at program (frame_of f.scope) o at ≡ [] → IsGoodIn f (compound_at program d f place o)
    compound_kind (StmtKind-F.If arms last) at none = branches_good arms last (left_none (of_arms program (frame_of f.scope) arms) (of_block program (frame_of f.scope) last) none) (right_none (of_arms program (frame_of f.scope) arms) (of_block program (frame_of f.scope) last) none)
    compound_kind (StmtKind-F.While e body) at none = looped_good e body (right_none (of_expr e) (of_block program (frame_of f.scope) body) none)
    compound_kind (StmtKind-F.For n e body) at none = columned_good n e body (right_none (of_expr e) (of_block program (frame_of f.scope) body) none)
    compound_kind (StmtKind-F.Switch e arms last) at none =
        let more : of_arms program (frame_of f.scope) arms ++ of_block program (frame_of f.scope) last ≡ [] = right_none (of_expr e) (of_arms program (frame_of f.scope) arms ++ of_block program (frame_of f.scope) last) none in
        cases_good e arms last (left_none (of_arms program (frame_of f.scope) arms) (of_block program (frame_of f.scope) last) more) (right_none (of_arms program (frame_of f.scope) arms) (of_block program (frame_of f.scope) last) more)
    compound_kind (StmtKind-F.Try body handler) at none = attempt_at program (d.block f body) (d.block f handler) (D.block f body (left_none (of_block program (frame_of f.scope) body) (of_block program (frame_of f.scope) handler) none)) (D.block f handler (right_none (of_block program (frame_of f.scope) body) (of_block program (frame_of f.scope) handler) none))
    compound_kind (StmtKind-F.Parfor n e most body) at none = divided_good d D f place n e most body (sym (form_is program (frame_of f.scope) n body) ∙ (built_where_none e most _ at none).form)
    compound_kind o at none = (raise_good program _).at _

  compound_good : (d : Level) → GoodLevel program d → (f : Frame) (s : Stmt) → of_stmt program (frame_of f.scope) s ≡ [] → IsGoodIn f (compound_stmt program d f s)
  unfolding compound_stmt
  compound_good d D f s none = compound_kind d D f (out-Stmt s).place (kind_of s) s.place (sym (nodes_are program (frame_of f.scope) s) ∙ none)

  -- ## Statements

  module _ (l : Option Level) (L : GoodBelow program l) (f : Frame) where
    evaluated_good : (show : Bool) (e : Expr) → IsGood (evaluated program l f show e)
    unfolding evaluated
    evaluated_good show e = bind_good program _ (outputs_good program l L f 0 e) (λ vs. shown_first_good show (title program f e) vs)

    part_good : (slot : Option ℕ) (n : Name) (es : List Expr) (v : Value) → IsGood (assigned_part program l f slot n es v)
    part_good None n es v = raise_good program _
    part_good (Some slot) n es v = bind_good program _ (places_good program (value_in program l) (value_good program l L) f slot es) (λ list. write_part_good program slot n.place list v)

    assigned_kind : (t : Target) (v : Value) → IsGood (assigned_at program l f t v)
    assigned_kind (Whole n) v = whole_good (slot_of program f n.text) n v
    assigned_kind (Indexed n es) v = part_good (slot_of program f n.text) n es v
    assigned_kind (Braced n k) v = raise_good program _

    assigned_good : (t : Target) (v : Value) → IsGood (assigned program l f t v)
    unfolding assigned
    assigned_good t v = assigned_kind t v

    assignment_good : (show : Bool) (t : Target) (e : Expr) → IsGood (assignment program l f show t e)
    unfolding assignment
    assignment_good show t e = bind_good program _ (value_good program l L f e) (λ v. bind_good program _ (assigned_good t v) (λ u. bind_good program _ (shown_target_good show f t) (λ w. pure_good program Onward)))

    target_good : (t : Option Target) (v : Value) → IsGood (target_of program l f t v)
    target_good None v = pure_good program tt
    target_good (Some t) v = assigned_good t v

    targets_next : (place : Place) (ts : List (Option Target)) (vs : List Value) → IsGood (targets_from program l f place ts vs)
    targets_next place [] vs = pure_good program tt
    targets_next place (t ∷ ts) [] = raise_good program _
    targets_next place (t ∷ ts) (v ∷ vs) = bind_good program _ (target_good t v) (λ u. targets_next place ts vs)

    list_good : (place : Place) (show : Bool) (ts : List (Option Target)) (e : Expr) → IsGood (list_assignment program l f place show ts e)
    unfolding list_assignment
    list_good place show ts e = bind_good program _ (listed_good program l L f (length ts) e) (λ vs. bind_good program _ (targets_next place ts vs) (λ u. bind_good program _ (shown_targets_good show f ts) (λ w. pure_good program Onward)))

    deleted_good : (slot : Option ℕ) (n : Name) (es : List Expr) → IsGood (deleted program l f slot n es)
    deleted_good None n es = raise_good program _
    deleted_good (Some slot) n es = bind_good program _ (check_good program slot n.place) (λ u. bind_good program _ (places_good program (value_in program l) (value_good program l L) f slot es) (λ list. erase_part_good program slot n.place list))

    taken_out_good : (n : Name) (es : List Expr) → IsGood (taken_out program l f n es)
    unfolding taken_out
    taken_out_good n es = deleted_good (slot_of program f n.text) n es

    deletion_good : (show : Bool) (n : Name) (es : List Expr) → IsGood (deletion program l f show n es)
    unfolding deletion
    deletion_good show n es = bind_good program _ (taken_out_good n es) (λ u. bind_good program _ (shown_target_good show f (Whole n)) (λ w. pure_good program Onward))

    entering_good : (s : Stmt) (place : Place) → of_stmt program (frame_of f.scope) s ≡ [] → IsGoodIn f (enter l place (λ d. compound_stmt program d f s))
    entering_good s place none = enter_at program l L place (λ d. compound_stmt program d f s) (λ d D. compound_good d D f s none)

    stmt_kind : (s : Stmt) → of_stmt program (frame_of f.scope) s ≡ [] → (place : Place) (show : Bool) (o : StmtKind-F StmtKind Arm Stmt) → IsGoodIn f (stmt_at program l f s place show o)
    stmt_kind s none place show (StmtKind-F.Eval e) = (evaluated_good show e).at _
    stmt_kind s none place show (StmtKind-F.Assign t e) = (assignment_good show t e).at _
    stmt_kind s none place show (StmtKind-F.AssignList ts e) = (list_good place show ts e).at _
    stmt_kind s none place show (StmtKind-F.Delete n es) = (deletion_good show n es).at _
    stmt_kind s none place show StmtKind-F.Break = (pure_good program Broke).at _
    stmt_kind s none place show StmtKind-F.Continue = (pure_good program Continued).at _
    stmt_kind s none place show StmtKind-F.Return = (pure_good program Returned).at _
    stmt_kind s none place show o = entering_good s place none

    stmt_good : (s : Stmt) → of_stmt program (frame_of f.scope) s ≡ [] → IsGoodIn f (stmt_in program l f s)
    unfolding stmt_in
    stmt_good s none = stmt_kind s none (out-Stmt s).place (out-Stmt s).show (kind_of s)

    sequel_good : (x : Exit) (more : Running Exit) → IsGoodIn f more → IsGoodIn f (sequel program x more)
    sequel_good Onward more P = P
    sequel_good x more P = (pure_good program x).at _

    block_next : (body : List Stmt) → IsCalm program f.scope body → IsGoodIn f (block_from program l f body)
    block_next [] none = (pure_good program Onward).at _
    block_next (s ∷ more) none = bind_at program _ (stmt_good s (left_none (of_stmt program (frame_of f.scope) s) (of_block program (frame_of f.scope) more) none)) (λ x. sequel_good x _ (block_next more (right_none (of_stmt program (frame_of f.scope) s) (of_block program (frame_of f.scope) more) none)))

    pub block_good : (body : List Stmt) → IsCalm program f.scope body → IsGoodIn f (block_in program l f body)
    unfolding block_in
    block_good body none = block_next body none
