use Rattle.std.proofs.Common.{◌≡◌, ◌+◌, ◌-◌, ◌<◌, [], ◌∷◌, ◌++◌, length, drop, true, false, refl, ◌∙◌, sym, ap, arith}
use Rattle.pl_meaning.specs.declared.halt.Halt.{Halt}
use Rattle.pl_meaning.specs.Promises.{view, at, from}
use Rattle.pl_meaning.specs.Parts.{below, level_at, value_in, outputs_in, listed_in, evaluated, shown_first, title, after_pass, columns_from, passes, looped, first_of, applied, call_name, unary, binary, operator, taken_out, entry_of, ran, argument_of, values_from, given_of, elements_from, elements as elements_part, rows_from, tested, stmt_in, sequel, block_from, values as values_part, rows as rows_part, block_in, called}
use Rattle.pl_eval.proofs.Chains.{after_halts, after_went, comes_after, comes_cut, comes_halts, comes_item, comes_pass, first_halts, goes_on, inside_halts, inside_went, keeps_on, ok_more, same_err, same_halt}
use Rattle.pl_eval.proofs.Nodes.{call_counted, call_found, compound_apply, compound_binary, compound_func, compound_range, compound_rows, compound_unary, ends_range, inner_for, inner_if, inner_parfor, inner_switch, inner_try, inner_while, stmt_assign, stmt_assign_list, stmt_delete, stmt_eval, stmt_nested, value_chars, value_nested, value_var}
use Rattle.std.specs.Option.{option_copied}
use Rattle.pl_eval.proofs.+running.Goals.{loops::repeat-else-loop-pass-test, loops::repeat-then-loop-pass-test+in_ok-test+else-not-branch+in_ok-take_turn+in_ok-block+in-Onward+else-pass-most}
use Rattle.pl_operators.specs.Bracketing.{chars_of}
use Rattle.pl_operators.specs.Operating.{unary_of, binary_of}
use Rattle.pl_syntax.specs.Signs.{unary_sign, binary_sign}
use Rattle.pl_operators.specs.Columns.{column_of}
use Rattle.pl_values.specs.declared.value.Value.{Value}
use Rattle.pl_meaning.specs.Accesses.{fail, take_turn, write}
use Rattle.pl_base.specs.declared.errors.ErrKind.TheVariants.{Spent}
use Rattle.pl_meaning.specs.declared.frame.Exit.TheVariants.{Onward}
use Rattle.std.specs.Prelude.{Bool, if◌then◌else◌}
use Rattle.pl_meaning.specs.Running.{pure}
use Rattle.std.proofs.lemmas.Option.{slice_get_read}
use Rattle.pl_meaning.specs.Running.{◌>>=◌}
use Rattle.pl_meaning.specs.Running.{recover as recover_part}
use Rattle.pl_eval.proofs.+running.Goals as goal

pub expressions::value-returns-in-Var-clause-ok : goal.expressions::value-returns-in-Var-clause-ok
expressions::value-returns-in-Var-clause-ok g t c = rw (value_var c.args.program.now (below c.args.program.now c.args.levels) c.args.frame c.args.e.now _ c.in-Var.is) (c.variable.ensures.ok)

pub expressions::value-returns-in-Var-clause-err : goal.expressions::value-returns-in-Var-clause-err
expressions::value-returns-in-Var-clause-err g t c = rw (value_var c.args.program.now (below c.args.program.now c.args.levels) c.args.frame c.args.e.now _ c.in-Var.is) (c.variable.ensures.err)

pub expressions::compound-returns-in-Apply-clause-ok : goal.expressions::compound-returns-in-Apply-clause-ok
expressions::compound-returns-in-Apply-clause-ok g t c = rw (compound_apply c.args.program.now (level_at c.args.program.now (below c.args.program.now c.args.levels)) c.args.frame c.args.e.now _ _ c.in-Apply.is) (rw (c.as_slice.ensures) at (c.application.ensures.ok))

pub expressions::compound-returns-in-Apply-clause-err : goal.expressions::compound-returns-in-Apply-clause-err
expressions::compound-returns-in-Apply-clause-err g t c = rw (compound_apply c.args.program.now (level_at c.args.program.now (below c.args.program.now c.args.levels)) c.args.frame c.args.e.now _ _ c.in-Apply.is) (rw (c.as_slice.ensures) at (c.application.ensures.err))

pub expressions::compound-returns-in-Unary-clause-ok : goal.expressions::compound-returns-in-Unary-clause-ok
expressions::compound-returns-in-Unary-clause-ok g t c = rw (compound_unary c.args.program.now (level_at c.args.program.now (below c.args.program.now c.args.levels)) c.args.frame c.args.e.now _ _ c.in-Unary.is) (rw (c.get.ensures) at (c.unary.ensures.ok))

pub expressions::compound-returns-in-Unary-clause-err : goal.expressions::compound-returns-in-Unary-clause-err
expressions::compound-returns-in-Unary-clause-err g t c = rw (compound_unary c.args.program.now (level_at c.args.program.now (below c.args.program.now c.args.levels)) c.args.frame c.args.e.now _ _ c.in-Unary.is) (rw (c.get.ensures) at (c.unary.ensures.err))

pub expressions::compound-returns-in-Binary-clause-ok : goal.expressions::compound-returns-in-Binary-clause-ok
expressions::compound-returns-in-Binary-clause-ok g t c = rw (compound_binary c.args.program.now (level_at c.args.program.now (below c.args.program.now c.args.levels)) c.args.frame c.args.e.now _ _ _ c.in-Binary.is) (rw (c.get-in-Binary.ensures, c.get-in-Binary-2.ensures) at (c.operation.ensures.ok))

pub expressions::compound-returns-in-Binary-clause-err : goal.expressions::compound-returns-in-Binary-clause-err
expressions::compound-returns-in-Binary-clause-err g t c = rw (compound_binary c.args.program.now (level_at c.args.program.now (below c.args.program.now c.args.levels)) c.args.frame c.args.e.now _ _ _ c.in-Binary.is) (rw (c.get-in-Binary.ensures, c.get-in-Binary-2.ensures) at (c.operation.ensures.err))

pub expressions::compound-returns-in-Range-clause-ok : goal.expressions::compound-returns-in-Range-clause-ok
expressions::compound-returns-in-Range-clause-ok g t c = rw (compound_range c.args.program.now (level_at c.args.program.now (below c.args.program.now c.args.levels)) c.args.frame c.args.e.now _ _ _ c.in-Range.is) (rw (c.get-in-Range.ensures, c.get-in-Range-2.ensures) at (c.span.ensures.ok))

pub expressions::compound-returns-in-Range-clause-err : goal.expressions::compound-returns-in-Range-clause-err
expressions::compound-returns-in-Range-clause-err g t c = rw (compound_range c.args.program.now (level_at c.args.program.now (below c.args.program.now c.args.levels)) c.args.frame c.args.e.now _ _ _ c.in-Range.is) (rw (c.get-in-Range.ensures, c.get-in-Range-2.ensures) at (c.span.ensures.err))

pub expressions::compound-returns-in-Rows-clause-ok : goal.expressions::compound-returns-in-Rows-clause-ok
expressions::compound-returns-in-Rows-clause-ok g t c = rw (compound_rows c.args.program.now (level_at c.args.program.now (below c.args.program.now c.args.levels)) c.args.frame c.args.e.now _ c.in-Rows.is) (c.bracket.ensures.ok)

pub expressions::compound-returns-in-Rows-clause-err : goal.expressions::compound-returns-in-Rows-clause-err
expressions::compound-returns-in-Rows-clause-err g t c = rw (compound_rows c.args.program.now (level_at c.args.program.now (below c.args.program.now c.args.levels)) c.args.frame c.args.e.now _ c.in-Rows.is) (c.bracket.ensures.err)

pub statements::statement-returns-in-Eval-clause-ok : goal.statements::statement-returns-in-Eval-clause-ok
statements::statement-returns-in-Eval-clause-ok g t c = rw (stmt_eval c.args.program.now (below c.args.program.now c.args.levels) c.args.frame c.args.s.now _ c.in-Eval.is) (c.evaluation.ensures.ok)

pub statements::statement-returns-in-Eval-clause-err : goal.statements::statement-returns-in-Eval-clause-err
statements::statement-returns-in-Eval-clause-err g t c = rw (stmt_eval c.args.program.now (below c.args.program.now c.args.levels) c.args.frame c.args.s.now _ c.in-Eval.is) (c.evaluation.ensures.err)

pub statements::statement-returns-in-Assign-clause-ok : goal.statements::statement-returns-in-Assign-clause-ok
statements::statement-returns-in-Assign-clause-ok g t c = rw (stmt_assign c.args.program.now (below c.args.program.now c.args.levels) c.args.frame c.args.s.now _ _ c.in-Assign.is) (c.assignment.ensures.ok)

pub statements::statement-returns-in-Assign-clause-err : goal.statements::statement-returns-in-Assign-clause-err
statements::statement-returns-in-Assign-clause-err g t c = rw (stmt_assign c.args.program.now (below c.args.program.now c.args.levels) c.args.frame c.args.s.now _ _ c.in-Assign.is) (c.assignment.ensures.err)

pub statements::statement-returns-in-AssignList-clause-ok : goal.statements::statement-returns-in-AssignList-clause-ok
statements::statement-returns-in-AssignList-clause-ok g t c = rw (stmt_assign_list c.args.program.now (below c.args.program.now c.args.levels) c.args.frame c.args.s.now _ _ c.in-AssignList.is) (rw (c.as_slice.ensures) at (c.list_assignment.ensures.ok))

pub statements::statement-returns-in-AssignList-clause-err : goal.statements::statement-returns-in-AssignList-clause-err
statements::statement-returns-in-AssignList-clause-err g t c = rw (stmt_assign_list c.args.program.now (below c.args.program.now c.args.levels) c.args.frame c.args.s.now _ _ c.in-AssignList.is) (rw (c.as_slice.ensures) at (c.list_assignment.ensures.err))

pub statements::statement-returns-in-Delete-clause-ok : goal.statements::statement-returns-in-Delete-clause-ok
statements::statement-returns-in-Delete-clause-ok g t c = rw (stmt_delete c.args.program.now (below c.args.program.now c.args.levels) c.args.frame c.args.s.now _ _ c.in-Delete.is) (rw (c.as_slice-in-Delete.ensures) at (c.deletion.ensures.ok))

pub statements::statement-returns-in-Delete-clause-err : goal.statements::statement-returns-in-Delete-clause-err
statements::statement-returns-in-Delete-clause-err g t c = rw (stmt_delete c.args.program.now (below c.args.program.now c.args.levels) c.args.frame c.args.s.now _ _ c.in-Delete.is) (rw (c.as_slice-in-Delete.ensures) at (c.deletion.ensures.err))

pub statements::compound-returns-in-If-clause-ok : goal.statements::compound-returns-in-If-clause-ok
statements::compound-returns-in-If-clause-ok g t c = rw (inner_if c.args.program.now (level_at c.args.program.now (below c.args.program.now c.args.levels)) c.args.frame c.args.s.now _ _ c.in-If.is) (rw (c.as_slice.ensures) at (c.branches.ensures.ok))

pub statements::compound-returns-in-If-clause-err : goal.statements::compound-returns-in-If-clause-err
statements::compound-returns-in-If-clause-err g t c = rw (inner_if c.args.program.now (level_at c.args.program.now (below c.args.program.now c.args.levels)) c.args.frame c.args.s.now _ _ c.in-If.is) (rw (c.as_slice.ensures) at (c.branches.ensures.err))

pub statements::compound-returns-in-While-clause-ok : goal.statements::compound-returns-in-While-clause-ok
statements::compound-returns-in-While-clause-ok g t c = rw (inner_while c.args.program.now (level_at c.args.program.now (below c.args.program.now c.args.levels)) c.args.frame c.args.s.now _ _ c.in-While.is) (c.repeat.ensures.ok)

pub statements::compound-returns-in-While-clause-err : goal.statements::compound-returns-in-While-clause-err
statements::compound-returns-in-While-clause-err g t c = rw (inner_while c.args.program.now (level_at c.args.program.now (below c.args.program.now c.args.levels)) c.args.frame c.args.s.now _ _ c.in-While.is) (c.repeat.ensures.err)

pub statements::compound-returns-in-For-clause-ok : goal.statements::compound-returns-in-For-clause-ok
statements::compound-returns-in-For-clause-ok g t c = rw (inner_for c.args.program.now (level_at c.args.program.now (below c.args.program.now c.args.levels)) c.args.frame c.args.s.now _ _ _ c.in-For.is) (c.count.ensures.ok)

pub statements::compound-returns-in-For-clause-err : goal.statements::compound-returns-in-For-clause-err
statements::compound-returns-in-For-clause-err g t c = rw (inner_for c.args.program.now (level_at c.args.program.now (below c.args.program.now c.args.levels)) c.args.frame c.args.s.now _ _ _ c.in-For.is) (c.count.ensures.err)

pub statements::compound-returns-in-Switch-clause-ok : goal.statements::compound-returns-in-Switch-clause-ok
statements::compound-returns-in-Switch-clause-ok g t c = rw (inner_switch c.args.program.now (level_at c.args.program.now (below c.args.program.now c.args.levels)) c.args.frame c.args.s.now _ _ _ c.in-Switch.is) (rw (c.as_slice-in-Switch.ensures) at (c.cases.ensures.ok))

pub statements::compound-returns-in-Switch-clause-err : goal.statements::compound-returns-in-Switch-clause-err
statements::compound-returns-in-Switch-clause-err g t c = rw (inner_switch c.args.program.now (level_at c.args.program.now (below c.args.program.now c.args.levels)) c.args.frame c.args.s.now _ _ _ c.in-Switch.is) (rw (c.as_slice-in-Switch.ensures) at (c.cases.ensures.err))

pub statements::compound-returns-in-Try-clause-ok : goal.statements::compound-returns-in-Try-clause-ok
statements::compound-returns-in-Try-clause-ok g t c = rw (inner_try c.args.program.now (level_at c.args.program.now (below c.args.program.now c.args.levels)) c.args.frame c.args.s.now _ _ c.in-Try.is) (c.attempt.ensures.ok)

pub statements::compound-returns-in-Try-clause-err : goal.statements::compound-returns-in-Try-clause-err
statements::compound-returns-in-Try-clause-err g t c = rw (inner_try c.args.program.now (level_at c.args.program.now (below c.args.program.now c.args.levels)) c.args.frame c.args.s.now _ _ c.in-Try.is) (c.attempt.ensures.err)

pub statements::compound-returns-in-Parfor-clause-ok : goal.statements::compound-returns-in-Parfor-clause-ok
statements::compound-returns-in-Parfor-clause-ok g t c = rw (inner_parfor c.args.program.now (level_at c.args.program.now (below c.args.program.now c.args.levels)) c.args.frame c.args.s.now _ _ _ _ c.in-Parfor.is) (c.divide.ensures.ok)

pub statements::compound-returns-in-Parfor-clause-err : goal.statements::compound-returns-in-Parfor-clause-err
statements::compound-returns-in-Parfor-clause-err g t c = rw (inner_parfor c.args.program.now (level_at c.args.program.now (below c.args.program.now c.args.levels)) c.args.frame c.args.s.now _ _ _ _ c.in-Parfor.is) (c.divide.ensures.err)

pub sharing::ends-returns-in-Range-clause-ok : goal.sharing::ends-returns-in-Range-clause-ok
sharing::ends-returns-in-Range-clause-ok g t c = rw (ends_range c.args.program.now (below c.args.program.now c.args.levels) c.args.frame c.args.e.now _ _ _ c.in-Range.is) (rw (c.get.ensures, c.get-in-Range.ensures) at (c.range_ends.ensures.ok))

pub sharing::ends-returns-in-Range-clause-err : goal.sharing::ends-returns-in-Range-clause-err
sharing::ends-returns-in-Range-clause-err g t c = rw (ends_range c.args.program.now (below c.args.program.now c.args.levels) c.args.frame c.args.e.now _ _ _ c.in-Range.is) (rw (c.get.ensures, c.get-in-Range.ensures) at (c.range_ends.ensures.err))

pub sharing::inner_ends-returns-clause-ok : goal.sharing::inner_ends-returns-clause-ok
sharing::inner_ends-returns-clause-ok g t c = rw c.in_ok-levels.ensures.ok (c.both_ends.ensures.ok)

pub sharing::inner_ends-returns-clause-err : goal.sharing::inner_ends-returns-clause-err
sharing::inner_ends-returns-clause-err g t c = rw c.in_ok-levels.ensures.ok (c.both_ends.ensures.err)

pub expressions::nested-returns-clause-ok : goal.expressions::nested-returns-clause-ok
expressions::nested-returns-clause-ok g t c = rw c.in_ok-levels.ensures.ok (c.compound.ensures.ok)

pub expressions::nested-returns-clause-err : goal.expressions::nested-returns-clause-err
expressions::nested-returns-clause-err g t c = rw c.in_ok-levels.ensures.ok (c.compound.ensures.err)

pub statements::nested-returns-clause-ok : goal.statements::nested-returns-clause-ok
statements::nested-returns-clause-ok g t c = rw c.in_ok-levels.ensures.ok (c.compound.ensures.ok)

pub statements::nested-returns-clause-err : goal.statements::nested-returns-clause-err
statements::nested-returns-clause-err g t c = rw c.in_ok-levels.ensures.ok (c.compound.ensures.err)

pub calling::called-returns-clause-ok : goal.calling::called-returns-clause-ok
unfolding called
calling::called-returns-clause-ok g t c = rw c.in_ok-levels.ensures.ok (c.applied.ensures.ok)

pub calling::called-returns-clause-err : goal.calling::called-returns-clause-err
unfolding called
calling::called-returns-clause-err g t c = rw c.in_ok-levels.ensures.ok (c.applied.ensures.err)

pub local::enter_body-returns-clause-ok : goal.local::enter_body-returns-clause-ok
local::enter_body-returns-clause-ok g t c = rw c.in_ok-levels.ensures.ok (c.body.ensures.ok)

pub local::enter_body-returns-clause-err : goal.local::enter_body-returns-clause-err
local::enter_body-returns-clause-err g t c = rw c.in_ok-levels.ensures.ok (c.body.ensures.err)

pub lists::elements-returns-in_err-push-clause-err : goal.lists::elements-returns-in_err-push-clause-err
unfolding elements_part
lists::elements-returns-in_err-push-clause-err g t c = let within : c.loop-e.e-index < length c.args.list.now = omega (arith) in let item0 = comes_item (elements_from (value_in c.args.program.now (below c.args.program.now c.args.levels)) c.args.frame c.loop-e.done) (elements_from (value_in c.args.program.now (below c.args.program.now c.args.levels)) c.args.frame [] c.args.list.now) c.args.list.now c.loop-e.e-index c.e-item.result (at c.args.memory.now (g.W.World.log c.args.world.now)) (at c.loop-e.memory (g.W.World.log c.loop-e.world)) c.loop-e.invariant within (c.e-item.is) in let item1 = comes_after (elements_from (value_in c.args.program.now (below c.args.program.now c.args.levels)) c.args.frame [] c.args.list.now) ((value_in c.args.program.now (below c.args.program.now c.args.levels)) c.args.frame c.e-item.result) (λ v. elements_from (value_in c.args.program.now (below c.args.program.now c.args.levels)) c.args.frame (c.loop-e.done ++ v ∷ []) (drop (c.loop-e.e-index + 1) c.args.list.now)) c.in_ok-v.v (at c.args.memory.now (g.W.World.log c.args.world.now)) (at c.loop-e.memory (g.W.World.log c.loop-e.world)) (at c.value.new.memory (g.W.World.log c.value.new.world)) item0 (c.in_ok-v.ensures.ok) c.in_ok-v.ensures.keeps in λ x e. rw (same_halt e c.from_residual-in_err-push.ensures.1) (comes_cut (elements_from (value_in c.args.program.now (below c.args.program.now c.args.levels)) c.args.frame [] c.args.list.now) (elements_from (value_in c.args.program.now (below c.args.program.now c.args.levels)) c.args.frame (c.loop-e.done ++ c.in_ok-v.v ∷ []) (drop (c.loop-e.e-index + 1) c.args.list.now)) (at c.args.memory.now (g.W.World.log c.args.world.now)) (at c.value.new.memory (g.W.World.log c.value.new.world)) item1)

pub lists::elements-loop-e-preserved : goal.lists::elements-loop-e-preserved
lists::elements-loop-e-preserved g t c = let within : c.loop-e.e-index < length c.args.list.now = omega (arith) in let item0 = comes_item (elements_from (value_in c.args.program.now (below c.args.program.now c.args.levels)) c.args.frame c.loop-e.done) (elements_from (value_in c.args.program.now (below c.args.program.now c.args.levels)) c.args.frame [] c.args.list.now) c.args.list.now c.loop-e.e-index c.e-item.result (at c.args.memory.now (g.W.World.log c.args.world.now)) (at c.loop-e.memory (g.W.World.log c.loop-e.world)) c.loop-e.invariant within (c.e-item.is) in let item1 = comes_after (elements_from (value_in c.args.program.now (below c.args.program.now c.args.levels)) c.args.frame [] c.args.list.now) ((value_in c.args.program.now (below c.args.program.now c.args.levels)) c.args.frame c.e-item.result) (λ v. elements_from (value_in c.args.program.now (below c.args.program.now c.args.levels)) c.args.frame (c.loop-e.done ++ v ∷ []) (drop (c.loop-e.e-index + 1) c.args.list.now)) c.in_ok-v.v (at c.args.memory.now (g.W.World.log c.args.world.now)) (at c.loop-e.memory (g.W.World.log c.loop-e.world)) (at c.value.new.memory (g.W.World.log c.value.new.world)) item0 (c.in_ok-v.ensures.ok) c.in_ok-v.ensures.keeps in rw c.in_ok-push.ensures.ok (item1, keeps_on (at c.args.memory.now (g.W.World.log c.args.world.now)) (at c.loop-e.memory (g.W.World.log c.loop-e.world)) (at c.value.new.memory (g.W.World.log c.value.new.world)) c.loop-e.invariant.1 (c.in_ok-v.ensures.keeps))

pub lists::rows-returns-in_err-push-clause-err : goal.lists::rows-returns-in_err-push-clause-err
unfolding rows_part
lists::rows-returns-in_err-push-clause-err g t c = let within : c.loop-list.list-index < length c.args.lists.now = omega (arith) in let item0 = comes_item (rows_from (value_in c.args.program.now (below c.args.program.now c.args.levels)) c.args.frame c.loop-list.done.items) (rows_from (value_in c.args.program.now (below c.args.program.now c.args.levels)) c.args.frame [] c.args.lists.now) c.args.lists.now c.loop-list.list-index c.list-item.result (at c.args.memory.now (g.W.World.log c.args.world.now)) (at c.loop-list.memory (g.W.World.log c.loop-list.world)) c.loop-list.invariant within (c.list-item.is) in let item1 = comes_after (rows_from (value_in c.args.program.now (below c.args.program.now c.args.levels)) c.args.frame [] c.args.lists.now) (elements_part (value_in c.args.program.now (below c.args.program.now c.args.levels)) c.args.frame c.list-item.result) (λ v. rows_from (value_in c.args.program.now (below c.args.program.now c.args.levels)) c.args.frame (c.loop-list.done.items ++ v ∷ []) (drop (c.loop-list.list-index + 1) c.args.lists.now)) c.in_ok-row.row (at c.args.memory.now (g.W.World.log c.args.world.now)) (at c.loop-list.memory (g.W.World.log c.loop-list.world)) (at c.elements.new.memory (g.W.World.log c.elements.new.world)) item0 (rw c.as_slice.ensures at c.in_ok-row.ensures.ok) c.in_ok-row.ensures.keeps in λ x e. rw (same_halt e c.from_residual-in_err-push.ensures.1) (comes_cut (rows_from (value_in c.args.program.now (below c.args.program.now c.args.levels)) c.args.frame [] c.args.lists.now) (rows_from (value_in c.args.program.now (below c.args.program.now c.args.levels)) c.args.frame (c.loop-list.done.items ++ c.in_ok-row.row ∷ []) (drop (c.loop-list.list-index + 1) c.args.lists.now)) (at c.args.memory.now (g.W.World.log c.args.world.now)) (at c.elements.new.memory (g.W.World.log c.elements.new.world)) item1)

pub lists::rows-loop-list-preserved : goal.lists::rows-loop-list-preserved
lists::rows-loop-list-preserved g t c = let within : c.loop-list.list-index < length c.args.lists.now = omega (arith) in let item0 = comes_item (rows_from (value_in c.args.program.now (below c.args.program.now c.args.levels)) c.args.frame c.loop-list.done.items) (rows_from (value_in c.args.program.now (below c.args.program.now c.args.levels)) c.args.frame [] c.args.lists.now) c.args.lists.now c.loop-list.list-index c.list-item.result (at c.args.memory.now (g.W.World.log c.args.world.now)) (at c.loop-list.memory (g.W.World.log c.loop-list.world)) c.loop-list.invariant within (c.list-item.is) in let item1 = comes_after (rows_from (value_in c.args.program.now (below c.args.program.now c.args.levels)) c.args.frame [] c.args.lists.now) (elements_part (value_in c.args.program.now (below c.args.program.now c.args.levels)) c.args.frame c.list-item.result) (λ v. rows_from (value_in c.args.program.now (below c.args.program.now c.args.levels)) c.args.frame (c.loop-list.done.items ++ v ∷ []) (drop (c.loop-list.list-index + 1) c.args.lists.now)) c.in_ok-row.row (at c.args.memory.now (g.W.World.log c.args.world.now)) (at c.loop-list.memory (g.W.World.log c.loop-list.world)) (at c.elements.new.memory (g.W.World.log c.elements.new.world)) item0 (rw c.as_slice.ensures at c.in_ok-row.ensures.ok) c.in_ok-row.ensures.keeps in rw c.in_ok-push.ensures.items (item1, keeps_on (at c.args.memory.now (g.W.World.log c.args.world.now)) (at c.loop-list.memory (g.W.World.log c.loop-list.world)) (at c.elements.new.memory (g.W.World.log c.elements.new.world)) c.loop-list.invariant.1 (c.in_ok-row.ensures.keeps))

pub lists::values-returns-in_err-push-clause-err : goal.lists::values-returns-in_err-push-clause-err
unfolding values_part
lists::values-returns-in_err-push-clause-err g t c = let within : c.loop-e.e-index < length c.args.list.now = omega (arith) in let item0 = comes_item (values_from (value_in c.args.program.now (below c.args.program.now c.args.levels)) c.args.frame c.args.place c.loop-e.done.items) (values_from (value_in c.args.program.now (below c.args.program.now c.args.levels)) c.args.frame c.args.place [] c.args.list.now) c.args.list.now c.loop-e.e-index c.e-item.result (at c.args.memory.now (g.W.World.log c.args.world.now)) (at c.loop-e.memory (g.W.World.log c.loop-e.world)) c.loop-e.invariant within (c.e-item.is) in let item1 = comes_after (values_from (value_in c.args.program.now (below c.args.program.now c.args.levels)) c.args.frame c.args.place [] c.args.list.now) (argument_of (value_in c.args.program.now (below c.args.program.now c.args.levels)) c.args.frame c.e-item.result) (λ a. given_of c.args.place a >>= (λ v. values_from (value_in c.args.program.now (below c.args.program.now c.args.levels)) c.args.frame c.args.place (c.loop-e.done.items ++ v ∷ []) (drop (c.loop-e.e-index + 1) c.args.list.now))) c.in_ok-a.a (at c.args.memory.now (g.W.World.log c.args.world.now)) (at c.loop-e.memory (g.W.World.log c.loop-e.world)) (at c.argument.new.memory (g.W.World.log c.argument.new.world)) item0 (c.in_ok-a.ensures.ok) c.in_ok-a.ensures.keeps in let item2 = comes_after (values_from (value_in c.args.program.now (below c.args.program.now c.args.levels)) c.args.frame c.args.place [] c.args.list.now) (given_of c.args.place c.in_ok-a.a) (λ v. values_from (value_in c.args.program.now (below c.args.program.now c.args.levels)) c.args.frame c.args.place (c.loop-e.done.items ++ v ∷ []) (drop (c.loop-e.e-index + 1) c.args.list.now)) c.in_ok-v.v (at c.args.memory.now (g.W.World.log c.args.world.now)) (at c.argument.new.memory (g.W.World.log c.argument.new.world)) (at c.argument.new.memory (g.W.World.log c.argument.new.world)) item1 (c.in_ok-v.ensures.ok c.argument.new.memory.env c.argument.new.memory.turns c.argument.new.memory.calls (g.W.World.log c.argument.new.world)) ((λ all f. f), (λ ts b. b)) in λ x e. rw (same_halt e c.from_residual-in_err-push.ensures.1) (comes_cut (values_from (value_in c.args.program.now (below c.args.program.now c.args.levels)) c.args.frame c.args.place [] c.args.list.now) (values_from (value_in c.args.program.now (below c.args.program.now c.args.levels)) c.args.frame c.args.place (c.loop-e.done.items ++ c.in_ok-v.v ∷ []) (drop (c.loop-e.e-index + 1) c.args.list.now)) (at c.args.memory.now (g.W.World.log c.args.world.now)) (at c.argument.new.memory (g.W.World.log c.argument.new.world)) item2)

pub lists::values-loop-e-preserved : goal.lists::values-loop-e-preserved
lists::values-loop-e-preserved g t c = let within : c.loop-e.e-index < length c.args.list.now = omega (arith) in let item0 = comes_item (values_from (value_in c.args.program.now (below c.args.program.now c.args.levels)) c.args.frame c.args.place c.loop-e.done.items) (values_from (value_in c.args.program.now (below c.args.program.now c.args.levels)) c.args.frame c.args.place [] c.args.list.now) c.args.list.now c.loop-e.e-index c.e-item.result (at c.args.memory.now (g.W.World.log c.args.world.now)) (at c.loop-e.memory (g.W.World.log c.loop-e.world)) c.loop-e.invariant within (c.e-item.is) in let item1 = comes_after (values_from (value_in c.args.program.now (below c.args.program.now c.args.levels)) c.args.frame c.args.place [] c.args.list.now) (argument_of (value_in c.args.program.now (below c.args.program.now c.args.levels)) c.args.frame c.e-item.result) (λ a. given_of c.args.place a >>= (λ v. values_from (value_in c.args.program.now (below c.args.program.now c.args.levels)) c.args.frame c.args.place (c.loop-e.done.items ++ v ∷ []) (drop (c.loop-e.e-index + 1) c.args.list.now))) c.in_ok-a.a (at c.args.memory.now (g.W.World.log c.args.world.now)) (at c.loop-e.memory (g.W.World.log c.loop-e.world)) (at c.argument.new.memory (g.W.World.log c.argument.new.world)) item0 (c.in_ok-a.ensures.ok) c.in_ok-a.ensures.keeps in let item2 = comes_after (values_from (value_in c.args.program.now (below c.args.program.now c.args.levels)) c.args.frame c.args.place [] c.args.list.now) (given_of c.args.place c.in_ok-a.a) (λ v. values_from (value_in c.args.program.now (below c.args.program.now c.args.levels)) c.args.frame c.args.place (c.loop-e.done.items ++ v ∷ []) (drop (c.loop-e.e-index + 1) c.args.list.now)) c.in_ok-v.v (at c.args.memory.now (g.W.World.log c.args.world.now)) (at c.argument.new.memory (g.W.World.log c.argument.new.world)) (at c.argument.new.memory (g.W.World.log c.argument.new.world)) item1 (c.in_ok-v.ensures.ok c.argument.new.memory.env c.argument.new.memory.turns c.argument.new.memory.calls (g.W.World.log c.argument.new.world)) ((λ all f. f), (λ ts b. b)) in rw c.in_ok-push.ensures.items (item2, keeps_on (at c.args.memory.now (g.W.World.log c.args.world.now)) (at c.loop-e.memory (g.W.World.log c.loop-e.world)) (at c.argument.new.memory (g.W.World.log c.argument.new.world)) c.loop-e.invariant.1 (c.in_ok-a.ensures.keeps))

pub statements::block-loop-s-preserved : goal.statements::block-loop-s-preserved
statements::block-loop-s-preserved g t c = let within : c.loop-s.s-index < length c.args.statements.now = omega (arith, ap length c.as_slice-s-items.ensures) in let item0 = comes_item (block_from c.args.program.now (below c.args.program.now c.args.levels) c.args.frame) (block_from c.args.program.now (below c.args.program.now c.args.levels) c.args.frame c.args.statements.now) c.args.statements.now c.loop-s.s-index c.s-item.result (at c.args.memory.now (g.W.World.log c.args.world.now)) (at c.loop-s.memory (g.W.World.log c.loop-s.world)) c.loop-s.invariant within (rw c.as_slice-s-items.ensures at c.s-item.is) in let item1 = comes_after (block_from c.args.program.now (below c.args.program.now c.args.levels) c.args.frame c.args.statements.now) (stmt_in c.args.program.now (below c.args.program.now c.args.levels) c.args.frame c.s-item.result) (λ x. sequel c.args.program.now x (block_from c.args.program.now (below c.args.program.now c.args.levels) c.args.frame (drop (c.loop-s.s-index + 1) c.args.statements.now))) c.in_ok-statement.field-0 (at c.args.memory.now (g.W.World.log c.args.world.now)) (at c.loop-s.memory (g.W.World.log c.loop-s.world)) (at c.statement.new.memory (g.W.World.log c.statement.new.world)) item0 (c.in_ok-statement.ensures.ok) c.in_ok-statement.ensures.keeps in (rw c.in-Onward.is at item1, keeps_on (at c.args.memory.now (g.W.World.log c.args.world.now)) (at c.loop-s.memory (g.W.World.log c.loop-s.world)) (at c.statement.new.memory (g.W.World.log c.statement.new.world)) c.loop-s.invariant.1 c.in_ok-statement.ensures.keeps)

pub statements::block-returns-in-Broke-clause-ok : goal.statements::block-returns-in-Broke-clause-ok
unfolding block_in
statements::block-returns-in-Broke-clause-ok g t c = let within : c.loop-s.s-index < length c.args.statements.now = omega (arith, ap length c.as_slice-s-items.ensures) in let item0 = comes_item (block_from c.args.program.now (below c.args.program.now c.args.levels) c.args.frame) (block_from c.args.program.now (below c.args.program.now c.args.levels) c.args.frame c.args.statements.now) c.args.statements.now c.loop-s.s-index c.s-item.result (at c.args.memory.now (g.W.World.log c.args.world.now)) (at c.loop-s.memory (g.W.World.log c.loop-s.world)) c.loop-s.invariant within (rw c.as_slice-s-items.ensures at c.s-item.is) in let item1 = comes_after (block_from c.args.program.now (below c.args.program.now c.args.levels) c.args.frame c.args.statements.now) (stmt_in c.args.program.now (below c.args.program.now c.args.levels) c.args.frame c.s-item.result) (λ x. sequel c.args.program.now x (block_from c.args.program.now (below c.args.program.now c.args.levels) c.args.frame (drop (c.loop-s.s-index + 1) c.args.statements.now))) c.in_ok-statement.field-0 (at c.args.memory.now (g.W.World.log c.args.world.now)) (at c.loop-s.memory (g.W.World.log c.loop-s.world)) (at c.statement.new.memory (g.W.World.log c.statement.new.world)) item0 (c.in_ok-statement.ensures.ok) c.in_ok-statement.ensures.keeps in rw c.in-Broke.is at item1

pub statements::block-returns-in-Continued-clause-ok : goal.statements::block-returns-in-Continued-clause-ok
unfolding block_in
statements::block-returns-in-Continued-clause-ok g t c = let within : c.loop-s.s-index < length c.args.statements.now = omega (arith, ap length c.as_slice-s-items.ensures) in let item0 = comes_item (block_from c.args.program.now (below c.args.program.now c.args.levels) c.args.frame) (block_from c.args.program.now (below c.args.program.now c.args.levels) c.args.frame c.args.statements.now) c.args.statements.now c.loop-s.s-index c.s-item.result (at c.args.memory.now (g.W.World.log c.args.world.now)) (at c.loop-s.memory (g.W.World.log c.loop-s.world)) c.loop-s.invariant within (rw c.as_slice-s-items.ensures at c.s-item.is) in let item1 = comes_after (block_from c.args.program.now (below c.args.program.now c.args.levels) c.args.frame c.args.statements.now) (stmt_in c.args.program.now (below c.args.program.now c.args.levels) c.args.frame c.s-item.result) (λ x. sequel c.args.program.now x (block_from c.args.program.now (below c.args.program.now c.args.levels) c.args.frame (drop (c.loop-s.s-index + 1) c.args.statements.now))) c.in_ok-statement.field-0 (at c.args.memory.now (g.W.World.log c.args.world.now)) (at c.loop-s.memory (g.W.World.log c.loop-s.world)) (at c.statement.new.memory (g.W.World.log c.statement.new.world)) item0 (c.in_ok-statement.ensures.ok) c.in_ok-statement.ensures.keeps in rw c.in-Continued.is at item1

pub statements::block-returns-in-Returned-clause-ok : goal.statements::block-returns-in-Returned-clause-ok
unfolding block_in
statements::block-returns-in-Returned-clause-ok g t c = let within : c.loop-s.s-index < length c.args.statements.now = omega (arith, ap length c.as_slice-s-items.ensures) in let item0 = comes_item (block_from c.args.program.now (below c.args.program.now c.args.levels) c.args.frame) (block_from c.args.program.now (below c.args.program.now c.args.levels) c.args.frame c.args.statements.now) c.args.statements.now c.loop-s.s-index c.s-item.result (at c.args.memory.now (g.W.World.log c.args.world.now)) (at c.loop-s.memory (g.W.World.log c.loop-s.world)) c.loop-s.invariant within (rw c.as_slice-s-items.ensures at c.s-item.is) in let item1 = comes_after (block_from c.args.program.now (below c.args.program.now c.args.levels) c.args.frame c.args.statements.now) (stmt_in c.args.program.now (below c.args.program.now c.args.levels) c.args.frame c.s-item.result) (λ x. sequel c.args.program.now x (block_from c.args.program.now (below c.args.program.now c.args.levels) c.args.frame (drop (c.loop-s.s-index + 1) c.args.statements.now))) c.in_ok-statement.field-0 (at c.args.memory.now (g.W.World.log c.args.world.now)) (at c.loop-s.memory (g.W.World.log c.loop-s.world)) (at c.statement.new.memory (g.W.World.log c.statement.new.world)) item0 (c.in_ok-statement.ensures.ok) c.in_ok-statement.ensures.keeps in rw c.in-Returned.is at item1

pub branching::attempt-returns-in-Err-Raise-clause-ok : goal.branching::attempt-returns-in-Err-Raise-clause-ok
branching::attempt-returns-in-Err-Raise-clause-ok g t c = ok_more c.recover.result _ _ (λ v w k h all f. (c.in-Err-Raise.ensures.err (Halt.Raise c.in-Err-Raise.error) (cc)) k (λ y. recover_part y (block_in c.args.program.now (below c.args.program.now c.args.levels) c.args.frame c.args.handler.now) k h) all (c.recover.ensures.keeps.0 all f) ∙ w k h all f) (c.recover.ensures.ok)

pub branching::attempt-returns-in-Err-Raise-clause-err : goal.branching::attempt-returns-in-Err-Raise-clause-err
branching::attempt-returns-in-Err-Raise-clause-err g t c = λ x e k h all f. ap (view x (g.W.World.log c.recover.new.world)) ((c.in-Err-Raise.ensures.err (Halt.Raise c.in-Err-Raise.error) (cc)) k (λ y. recover_part y (block_in c.args.program.now (below c.args.program.now c.args.levels) c.args.frame c.args.handler.now) k h) all (c.recover.ensures.keeps.0 all f)) ∙ c.recover.ensures.err x e k h all f

pub expressions::variable-returns-in-None-clause-ok : goal.expressions::variable-returns-in-None-clause-ok
expressions::variable-returns-in-None-clause-ok g t c = rw (sym c.slot_of.ensures ∙ c.in-None.is) (c.called_alone.ensures.ok)

pub expressions::variable-returns-in-None-clause-err : goal.expressions::variable-returns-in-None-clause-err
expressions::variable-returns-in-None-clause-err g t c = rw (sym c.slot_of.ensures ∙ c.in-None.is) (c.called_alone.ensures.err)

pub applying::application-returns-in-None-clause-ok : goal.applying::application-returns-in-None-clause-ok
applying::application-returns-in-None-clause-ok g t c = rw (sym c.slot_of.ensures ∙ c.in-None.is) (c.applied_once.ensures.ok)

pub applying::application-returns-in-None-clause-err : goal.applying::application-returns-in-None-clause-err
applying::application-returns-in-None-clause-err g t c = rw (sym c.slot_of.ensures ∙ c.in-None.is) (c.applied_once.ensures.err)

pub statements::take_out-returns-in-Some-clause-ok : goal.statements::take_out-returns-in-Some-clause-ok
unfolding taken_out
statements::take_out-returns-in-Some-clause-ok g t c = rw (sym c.slot_of.ensures ∙ c.in-Some.is) (c.delete_at.ensures.ok)

pub statements::take_out-returns-in-Some-clause-err : goal.statements::take_out-returns-in-Some-clause-err
unfolding taken_out
statements::take_out-returns-in-Some-clause-err g t c = rw (sym c.slot_of.ensures ∙ c.in-Some.is) (c.delete_at.ensures.err)

pub calling::call_known-returns-in-Some-clause-ok : goal.calling::call_known-returns-in-Some-clause-ok
calling::call_known-returns-in-Some-clause-ok g t c = rw c.in-Some.is (c.call_library.ensures.ok)

pub calling::call_known-returns-in-Some-clause-err : goal.calling::call_known-returns-in-Some-clause-err
calling::call_known-returns-in-Some-clause-err g t c = rw c.in-Some.is (c.call_library.ensures.err)

pub local::call-returns-clause-ok : goal.local::call-returns-clause-ok
local::call-returns-clause-ok g t c = rw (call_found c.args.program.now (below c.args.program.now c.args.levels) c.args.client c.args.place c.args.i c.args.wanted c.args.given.items c.index-functions-i.result (slice_get_read c.args.program.now.program.functions _ c.args.i c.index-functions-i.result refl (omega (arith, ap length c.as_slice-functions.ensures)) (rw c.as_slice-functions.ensures at c.index-functions-i.is))) (rw (c.frame_of-frame.ensures, c.len.ensures, c.args.given.ok.0) at (c.checked.ensures.ok))

pub local::call-returns-clause-err : goal.local::call-returns-clause-err
local::call-returns-clause-err g t c = rw (call_found c.args.program.now (below c.args.program.now c.args.levels) c.args.client c.args.place c.args.i c.args.wanted c.args.given.items c.index-functions-i.result (slice_get_read c.args.program.now.program.functions _ c.args.i c.index-functions-i.result refl (omega (arith, ap length c.as_slice-functions.ensures)) (rw c.as_slice-functions.ensures at c.index-functions-i.is))) (rw (c.frame_of-frame.ensures, c.len.ensures, c.args.given.ok.0) at (c.checked.ensures.err))

pub local::body-returns-clause-ok : goal.local::body-returns-clause-ok
local::body-returns-clause-ok g t c = rw c.replace-caller.ensures.value (ok_more c.results_of-outputs.result _ _ (λ v w. inside_went (entry_of c.args.program.now c.args.frame c.args.g.now c.args.given.items) (ran c.args.program.now (level_at c.args.program.now (below c.args.program.now c.args.levels)) c.args.frame c.args.place c.args.g.now) (at c.args.memory.now (g.W.World.log c.args.world.now)) (at c.results_of-outputs.new.memory (g.W.World.log c.results_of-outputs.new.world)) v.items w) (rw (c.replace-caller.ensures.after ∙ c.in_ok-env.ensures.ok) at (c.results_of-outputs.ensures.ok)))

pub local::body-returns-clause-err : goal.local::body-returns-clause-err
local::body-returns-clause-err g t c = λ x e. rw c.replace-caller.ensures.value (inside_halts (entry_of c.args.program.now c.args.frame c.args.g.now c.args.given.items) (ran c.args.program.now (level_at c.args.program.now (below c.args.program.now c.args.levels)) c.args.frame c.args.place c.args.g.now) (at c.args.memory.now (g.W.World.log c.args.world.now)) (at c.results_of-outputs.new.memory (g.W.World.log c.results_of-outputs.new.world)) x (rw (c.replace-caller.ensures.after ∙ c.in_ok-env.ensures.ok) at (c.results_of-outputs.ensures.err x e)))

pub local::checked-returns-in-false-clause-ok : goal.local::checked-returns-in-false-clause-ok
local::checked-returns-in-false-clause-ok g t c = rw (call_counted c.args.program.now (below c.args.program.now c.args.levels) c.args.frame c.args.place c.args.g.now c.args.given.items (cc)) (c.begin.ensures.ok)

pub local::checked-returns-in-false-clause-err : goal.local::checked-returns-in-false-clause-err
local::checked-returns-in-false-clause-err g t c = rw (call_counted c.args.program.now (below c.args.program.now c.args.levels) c.args.frame c.args.place c.args.g.now c.args.given.items (cc)) (c.begin.ensures.err)

pub expressions::compound-returns-in-Func-clause-ok : goal.expressions::compound-returns-in-Func-clause-ok
expressions::compound-returns-in-Func-clause-ok g t c = rw (compound_func c.args.program.now (level_at c.args.program.now (below c.args.program.now c.args.levels)) c.args.frame c.args.e.now _ c.in-Func.is) (ok_more c.handle.result _ _ (λ v w. w c.args.memory.now.env c.args.memory.now.turns c.args.memory.now.calls (g.W.World.log c.args.world.now)) (c.handle.ensures.ok))

pub expressions::compound-returns-in-Func-clause-err : goal.expressions::compound-returns-in-Func-clause-err
expressions::compound-returns-in-Func-clause-err g t c = rw (compound_func c.args.program.now (level_at c.args.program.now (below c.args.program.now c.args.levels)) c.args.frame c.args.e.now _ c.in-Func.is) (λ x e. c.handle.ensures.err x e c.args.memory.now.env c.args.memory.now.turns c.args.memory.now.calls (g.W.World.log c.args.world.now))

pub expressions::value-returns-in_ok-chars-in-Chars-clause-ok : goal.expressions::value-returns-in_ok-chars-in-Chars-clause-ok
expressions::value-returns-in_ok-chars-in-Chars-clause-ok g t c = λ k h all f. rw (value_chars c.args.program.now (below c.args.program.now c.args.levels) c.args.frame c.args.e.now _ c.in-Chars.is) (ap (λ (v : _). from all (at c.args.memory.now (g.W.World.log c.args.world.now)) (k v)) (sym (c.in_ok-chars-in-Chars.ensures ∙ ap chars_of c.bytes.ensures)))

pub expressions::called_alone-returns-clause-ok : goal.expressions::called_alone-returns-clause-ok
expressions::called_alone-returns-clause-ok g t c = ok_more c.first_of.result _ _ (λ v w. after_went (called c.args.program.now (below c.args.program.now c.args.levels) c.args.frame c.args.place c.args.name.now 1 []) (λ vs. first_of c.args.name.now.place vs) (at c.args.memory.now (g.W.World.log c.args.world.now)) (at c.called.new.memory (g.W.World.log c.called.new.world)) (at c.called.new.memory (g.W.World.log c.called.new.world)) c.in_ok-outputs.outputs.items v (c.in_ok-outputs.ensures.ok) ((λ all f. f), (λ ts b. b)) (w c.called.new.memory.env c.called.new.memory.turns c.called.new.memory.calls (g.W.World.log c.called.new.world))) (c.first_of.ensures.ok)

pub expressions::called_alone-returns-clause-err : goal.expressions::called_alone-returns-clause-err
expressions::called_alone-returns-clause-err g t c = λ x e. after_halts (called c.args.program.now (below c.args.program.now c.args.levels) c.args.frame c.args.place c.args.name.now 1 []) (λ vs. first_of c.args.name.now.place vs) (at c.args.memory.now (g.W.World.log c.args.world.now)) (at c.called.new.memory (g.W.World.log c.called.new.world)) (at c.called.new.memory (g.W.World.log c.called.new.world)) c.in_ok-outputs.outputs.items x (c.in_ok-outputs.ensures.ok) ((λ all f. f), (λ ts b. b)) (c.first_of.ensures.err x e c.called.new.memory.env c.called.new.memory.turns c.called.new.memory.calls (g.W.World.log c.called.new.world))

pub applying::applied_once-returns-clause-ok : goal.applying::applied_once-returns-clause-ok
applying::applied_once-returns-clause-ok g t c = ok_more c.first_of.result _ _ (λ v w. after_went (applied c.args.program.now (level_at c.args.program.now (below c.args.program.now c.args.levels)) c.args.frame c.args.name.now 1 c.args.list.now) (λ vs. first_of c.args.name.now.place vs) (at c.args.memory.now (g.W.World.log c.args.world.now)) (at c.applied.new.memory (g.W.World.log c.applied.new.world)) (at c.applied.new.memory (g.W.World.log c.applied.new.world)) c.in_ok-outputs.outputs.items v (c.in_ok-outputs.ensures.ok) ((λ all f. f), (λ ts b. b)) (w c.applied.new.memory.env c.applied.new.memory.turns c.applied.new.memory.calls (g.W.World.log c.applied.new.world))) (c.first_of.ensures.ok)

pub applying::applied_once-returns-clause-err : goal.applying::applied_once-returns-clause-err
applying::applied_once-returns-clause-err g t c = λ x e. after_halts (applied c.args.program.now (level_at c.args.program.now (below c.args.program.now c.args.levels)) c.args.frame c.args.name.now 1 c.args.list.now) (λ vs. first_of c.args.name.now.place vs) (at c.args.memory.now (g.W.World.log c.args.world.now)) (at c.applied.new.memory (g.W.World.log c.applied.new.world)) (at c.applied.new.memory (g.W.World.log c.applied.new.world)) c.in_ok-outputs.outputs.items x (c.in_ok-outputs.ensures.ok) ((λ all f. f), (λ ts b. b)) (c.first_of.ensures.err x e c.applied.new.memory.env c.applied.new.memory.turns c.applied.new.memory.calls (g.W.World.log c.applied.new.world))

pub applying::applied_once-returns-in_err-outputs-clause-err : goal.applying::applied_once-returns-in_err-outputs-clause-err
applying::applied_once-returns-in_err-outputs-clause-err g t c = λ x e. rw (same_halt e c.from_residual.ensures.1) (first_halts (applied c.args.program.now (level_at c.args.program.now (below c.args.program.now c.args.levels)) c.args.frame c.args.name.now 1 c.args.list.now) (λ vs. first_of c.args.name.now.place vs) (at c.args.memory.now (g.W.World.log c.args.world.now)) (at c.applied.new.memory (g.W.World.log c.applied.new.world)) _ (c.in_err-outputs.ensures.err _ refl))

pub loops::each_column-returns-in_err-take_turn-clause-err : goal.loops::each_column-returns-in_err-take_turn-clause-err
loops::each_column-returns-in_err-take_turn-clause-err g t c = λ x e. let item0 = comes_pass (columns_from c.args.program.now (level_at c.args.program.now (below c.args.program.now c.args.levels)) c.args.frame c.args.place c.args.slot c.args.a.now c.args.body.now c.loop-j.j) (columns_from c.args.program.now (level_at c.args.program.now (below c.args.program.now c.args.levels)) c.args.frame c.args.place c.args.slot c.args.a.now c.args.body.now 0 c.args.a.now.cols) c.args.a.now.cols c.loop-j.j (at c.args.memory.now (g.W.World.log c.args.world.now)) (at c.loop-j.memory (g.W.World.log c.loop-j.world)) c.loop-j.invariant.0 (omega (arith, ap (λ (s : _). s.cols) c.shape-j-end.ensures.shape)) in rw (same_halt e c.from_residual.ensures.1) (comes_halts (columns_from c.args.program.now (level_at c.args.program.now (below c.args.program.now c.args.levels)) c.args.frame c.args.place c.args.slot c.args.a.now c.args.body.now 0 c.args.a.now.cols) ((take_turn c.args.place) >>= (λ u. (write c.args.slot (Value.Array (column_of c.args.a.now c.loop-j.j))) >>= (λ w. (block_in c.args.program.now (below c.args.program.now c.args.levels) c.args.frame c.args.body.now) >>= (λ x. after_pass c.args.program.now x (columns_from c.args.program.now (level_at c.args.program.now (below c.args.program.now c.args.levels)) c.args.frame c.args.place c.args.slot c.args.a.now c.args.body.now (c.loop-j.j + 1) (c.args.a.now.cols - (c.loop-j.j + 1))))))) (at c.args.memory.now (g.W.World.log c.args.world.now)) (at c.loop-j.memory (g.W.World.log c.loop-j.world)) (at c.take_turn.new.memory (g.W.World.log c.loop-j.world)) _ item0 ((λ all f. f), (λ ts b. b)) (first_halts (take_turn c.args.place) (λ u. (write c.args.slot (Value.Array (column_of c.args.a.now c.loop-j.j))) >>= (λ w. (block_in c.args.program.now (below c.args.program.now c.args.levels) c.args.frame c.args.body.now) >>= (λ x. after_pass c.args.program.now x (columns_from c.args.program.now (level_at c.args.program.now (below c.args.program.now c.args.levels)) c.args.frame c.args.place c.args.slot c.args.a.now c.args.body.now (c.loop-j.j + 1) (c.args.a.now.cols - (c.loop-j.j + 1)))))) (at c.loop-j.memory (g.W.World.log c.loop-j.world)) (at c.take_turn.new.memory (g.W.World.log c.loop-j.world)) _ (c.in_err-take_turn.ensures.err _ refl)))

pub loops::each_column-returns-in_err-write-clause-err : goal.loops::each_column-returns-in_err-write-clause-err
loops::each_column-returns-in_err-write-clause-err g t c = λ x e. let item0 = comes_pass (columns_from c.args.program.now (level_at c.args.program.now (below c.args.program.now c.args.levels)) c.args.frame c.args.place c.args.slot c.args.a.now c.args.body.now c.loop-j.j) (columns_from c.args.program.now (level_at c.args.program.now (below c.args.program.now c.args.levels)) c.args.frame c.args.place c.args.slot c.args.a.now c.args.body.now 0 c.args.a.now.cols) c.args.a.now.cols c.loop-j.j (at c.args.memory.now (g.W.World.log c.args.world.now)) (at c.loop-j.memory (g.W.World.log c.loop-j.world)) c.loop-j.invariant.0 (omega (arith, ap (λ (s : _). s.cols) c.shape-j-end.ensures.shape)) in let item1 = comes_after (columns_from c.args.program.now (level_at c.args.program.now (below c.args.program.now c.args.levels)) c.args.frame c.args.place c.args.slot c.args.a.now c.args.body.now 0 c.args.a.now.cols) (take_turn c.args.place) (λ u. (write c.args.slot (Value.Array (column_of c.args.a.now c.loop-j.j))) >>= (λ w. (block_in c.args.program.now (below c.args.program.now c.args.levels) c.args.frame c.args.body.now) >>= (λ x. after_pass c.args.program.now x (columns_from c.args.program.now (level_at c.args.program.now (below c.args.program.now c.args.levels)) c.args.frame c.args.place c.args.slot c.args.a.now c.args.body.now (c.loop-j.j + 1) (c.args.a.now.cols - (c.loop-j.j + 1)))))) c.in_ok-take_turn.field-0 (at c.args.memory.now (g.W.World.log c.args.world.now)) (at c.loop-j.memory (g.W.World.log c.loop-j.world)) (at c.take_turn.new.memory (g.W.World.log c.loop-j.world)) item0 (c.in_ok-take_turn.ensures.ok) ((λ all f. f), (λ ts b. b)) in rw (same_halt e c.from_residual-in_err-write.ensures.1) (comes_halts (columns_from c.args.program.now (level_at c.args.program.now (below c.args.program.now c.args.levels)) c.args.frame c.args.place c.args.slot c.args.a.now c.args.body.now 0 c.args.a.now.cols) ((write c.args.slot (Value.Array (column_of c.args.a.now c.loop-j.j))) >>= (λ w. (block_in c.args.program.now (below c.args.program.now c.args.levels) c.args.frame c.args.body.now) >>= (λ x. after_pass c.args.program.now x (columns_from c.args.program.now (level_at c.args.program.now (below c.args.program.now c.args.levels)) c.args.frame c.args.place c.args.slot c.args.a.now c.args.body.now (c.loop-j.j + 1) (c.args.a.now.cols - (c.loop-j.j + 1)))))) (at c.args.memory.now (g.W.World.log c.args.world.now)) (at c.take_turn.new.memory (g.W.World.log c.loop-j.world)) (at c.write.new.memory (g.W.World.log c.loop-j.world)) _ item1 ((λ all f. f), (λ ts b. b)) (first_halts (write c.args.slot (Value.Array (column_of c.args.a.now c.loop-j.j))) (λ w. (block_in c.args.program.now (below c.args.program.now c.args.levels) c.args.frame c.args.body.now) >>= (λ x. after_pass c.args.program.now x (columns_from c.args.program.now (level_at c.args.program.now (below c.args.program.now c.args.levels)) c.args.frame c.args.place c.args.slot c.args.a.now c.args.body.now (c.loop-j.j + 1) (c.args.a.now.cols - (c.loop-j.j + 1))))) (at c.take_turn.new.memory (g.W.World.log c.loop-j.world)) (at c.write.new.memory (g.W.World.log c.loop-j.world)) _ (rw c.in_ok-column.ensures at (c.in_err-write.ensures.err _ refl))))

pub loops::each_column-returns-in_err-block-clause-err : goal.loops::each_column-returns-in_err-block-clause-err
loops::each_column-returns-in_err-block-clause-err g t c = λ x e. let item0 = comes_pass (columns_from c.args.program.now (level_at c.args.program.now (below c.args.program.now c.args.levels)) c.args.frame c.args.place c.args.slot c.args.a.now c.args.body.now c.loop-j.j) (columns_from c.args.program.now (level_at c.args.program.now (below c.args.program.now c.args.levels)) c.args.frame c.args.place c.args.slot c.args.a.now c.args.body.now 0 c.args.a.now.cols) c.args.a.now.cols c.loop-j.j (at c.args.memory.now (g.W.World.log c.args.world.now)) (at c.loop-j.memory (g.W.World.log c.loop-j.world)) c.loop-j.invariant.0 (omega (arith, ap (λ (s : _). s.cols) c.shape-j-end.ensures.shape)) in let item1 = comes_after (columns_from c.args.program.now (level_at c.args.program.now (below c.args.program.now c.args.levels)) c.args.frame c.args.place c.args.slot c.args.a.now c.args.body.now 0 c.args.a.now.cols) (take_turn c.args.place) (λ u. (write c.args.slot (Value.Array (column_of c.args.a.now c.loop-j.j))) >>= (λ w. (block_in c.args.program.now (below c.args.program.now c.args.levels) c.args.frame c.args.body.now) >>= (λ x. after_pass c.args.program.now x (columns_from c.args.program.now (level_at c.args.program.now (below c.args.program.now c.args.levels)) c.args.frame c.args.place c.args.slot c.args.a.now c.args.body.now (c.loop-j.j + 1) (c.args.a.now.cols - (c.loop-j.j + 1)))))) c.in_ok-take_turn.field-0 (at c.args.memory.now (g.W.World.log c.args.world.now)) (at c.loop-j.memory (g.W.World.log c.loop-j.world)) (at c.take_turn.new.memory (g.W.World.log c.loop-j.world)) item0 (c.in_ok-take_turn.ensures.ok) ((λ all f. f), (λ ts b. b)) in let item2 = comes_after (columns_from c.args.program.now (level_at c.args.program.now (below c.args.program.now c.args.levels)) c.args.frame c.args.place c.args.slot c.args.a.now c.args.body.now 0 c.args.a.now.cols) (write c.args.slot (Value.Array (column_of c.args.a.now c.loop-j.j))) (λ w. (block_in c.args.program.now (below c.args.program.now c.args.levels) c.args.frame c.args.body.now) >>= (λ x. after_pass c.args.program.now x (columns_from c.args.program.now (level_at c.args.program.now (below c.args.program.now c.args.levels)) c.args.frame c.args.place c.args.slot c.args.a.now c.args.body.now (c.loop-j.j + 1) (c.args.a.now.cols - (c.loop-j.j + 1))))) c.in_ok-write.field-0 (at c.args.memory.now (g.W.World.log c.args.world.now)) (at c.take_turn.new.memory (g.W.World.log c.loop-j.world)) (at c.write.new.memory (g.W.World.log c.loop-j.world)) item1 (rw c.in_ok-column.ensures at (c.in_ok-write.ensures.ok)) ((λ all f. f), (λ ts b. b)) in rw (same_halt e c.from_residual-in_err-block.ensures.1) (comes_halts (columns_from c.args.program.now (level_at c.args.program.now (below c.args.program.now c.args.levels)) c.args.frame c.args.place c.args.slot c.args.a.now c.args.body.now 0 c.args.a.now.cols) ((block_in c.args.program.now (below c.args.program.now c.args.levels) c.args.frame c.args.body.now) >>= (λ x. after_pass c.args.program.now x (columns_from c.args.program.now (level_at c.args.program.now (below c.args.program.now c.args.levels)) c.args.frame c.args.place c.args.slot c.args.a.now c.args.body.now (c.loop-j.j + 1) (c.args.a.now.cols - (c.loop-j.j + 1))))) (at c.args.memory.now (g.W.World.log c.args.world.now)) (at c.write.new.memory (g.W.World.log c.loop-j.world)) (at c.block.new.memory (g.W.World.log c.block.new.world)) _ item2 c.in_err-block.ensures.keeps (first_halts (block_in c.args.program.now (below c.args.program.now c.args.levels) c.args.frame c.args.body.now) (λ x. after_pass c.args.program.now x (columns_from c.args.program.now (level_at c.args.program.now (below c.args.program.now c.args.levels)) c.args.frame c.args.place c.args.slot c.args.a.now c.args.body.now (c.loop-j.j + 1) (c.args.a.now.cols - (c.loop-j.j + 1)))) (at c.write.new.memory (g.W.World.log c.loop-j.world)) (at c.block.new.memory (g.W.World.log c.block.new.world)) _ (c.in_err-block.ensures.err _ refl)))

pub loops::each_column-returns-in-Broke-clause-ok : goal.loops::each_column-returns-in-Broke-clause-ok
loops::each_column-returns-in-Broke-clause-ok g t c = let item0 = comes_pass (columns_from c.args.program.now (level_at c.args.program.now (below c.args.program.now c.args.levels)) c.args.frame c.args.place c.args.slot c.args.a.now c.args.body.now c.loop-j.j) (columns_from c.args.program.now (level_at c.args.program.now (below c.args.program.now c.args.levels)) c.args.frame c.args.place c.args.slot c.args.a.now c.args.body.now 0 c.args.a.now.cols) c.args.a.now.cols c.loop-j.j (at c.args.memory.now (g.W.World.log c.args.world.now)) (at c.loop-j.memory (g.W.World.log c.loop-j.world)) c.loop-j.invariant.0 (omega (arith, ap (λ (s : _). s.cols) c.shape-j-end.ensures.shape)) in let item1 = comes_after (columns_from c.args.program.now (level_at c.args.program.now (below c.args.program.now c.args.levels)) c.args.frame c.args.place c.args.slot c.args.a.now c.args.body.now 0 c.args.a.now.cols) (take_turn c.args.place) (λ u. (write c.args.slot (Value.Array (column_of c.args.a.now c.loop-j.j))) >>= (λ w. (block_in c.args.program.now (below c.args.program.now c.args.levels) c.args.frame c.args.body.now) >>= (λ x. after_pass c.args.program.now x (columns_from c.args.program.now (level_at c.args.program.now (below c.args.program.now c.args.levels)) c.args.frame c.args.place c.args.slot c.args.a.now c.args.body.now (c.loop-j.j + 1) (c.args.a.now.cols - (c.loop-j.j + 1)))))) c.in_ok-take_turn.field-0 (at c.args.memory.now (g.W.World.log c.args.world.now)) (at c.loop-j.memory (g.W.World.log c.loop-j.world)) (at c.take_turn.new.memory (g.W.World.log c.loop-j.world)) item0 (c.in_ok-take_turn.ensures.ok) ((λ all f. f), (λ ts b. b)) in let item2 = comes_after (columns_from c.args.program.now (level_at c.args.program.now (below c.args.program.now c.args.levels)) c.args.frame c.args.place c.args.slot c.args.a.now c.args.body.now 0 c.args.a.now.cols) (write c.args.slot (Value.Array (column_of c.args.a.now c.loop-j.j))) (λ w. (block_in c.args.program.now (below c.args.program.now c.args.levels) c.args.frame c.args.body.now) >>= (λ x. after_pass c.args.program.now x (columns_from c.args.program.now (level_at c.args.program.now (below c.args.program.now c.args.levels)) c.args.frame c.args.place c.args.slot c.args.a.now c.args.body.now (c.loop-j.j + 1) (c.args.a.now.cols - (c.loop-j.j + 1))))) c.in_ok-write.field-0 (at c.args.memory.now (g.W.World.log c.args.world.now)) (at c.take_turn.new.memory (g.W.World.log c.loop-j.world)) (at c.write.new.memory (g.W.World.log c.loop-j.world)) item1 (rw c.in_ok-column.ensures at (c.in_ok-write.ensures.ok)) ((λ all f. f), (λ ts b. b)) in let item3 = comes_after (columns_from c.args.program.now (level_at c.args.program.now (below c.args.program.now c.args.levels)) c.args.frame c.args.place c.args.slot c.args.a.now c.args.body.now 0 c.args.a.now.cols) (block_in c.args.program.now (below c.args.program.now c.args.levels) c.args.frame c.args.body.now) (λ x. after_pass c.args.program.now x (columns_from c.args.program.now (level_at c.args.program.now (below c.args.program.now c.args.levels)) c.args.frame c.args.place c.args.slot c.args.a.now c.args.body.now (c.loop-j.j + 1) (c.args.a.now.cols - (c.loop-j.j + 1)))) c.in_ok-block.field-0 (at c.args.memory.now (g.W.World.log c.args.world.now)) (at c.write.new.memory (g.W.World.log c.loop-j.world)) (at c.block.new.memory (g.W.World.log c.block.new.world)) item2 (c.in_ok-block.ensures.ok) c.in_ok-block.ensures.keeps in rw c.in-Broke.is at item3

pub loops::each_column-returns-in-Returned-clause-ok : goal.loops::each_column-returns-in-Returned-clause-ok
loops::each_column-returns-in-Returned-clause-ok g t c = let item0 = comes_pass (columns_from c.args.program.now (level_at c.args.program.now (below c.args.program.now c.args.levels)) c.args.frame c.args.place c.args.slot c.args.a.now c.args.body.now c.loop-j.j) (columns_from c.args.program.now (level_at c.args.program.now (below c.args.program.now c.args.levels)) c.args.frame c.args.place c.args.slot c.args.a.now c.args.body.now 0 c.args.a.now.cols) c.args.a.now.cols c.loop-j.j (at c.args.memory.now (g.W.World.log c.args.world.now)) (at c.loop-j.memory (g.W.World.log c.loop-j.world)) c.loop-j.invariant.0 (omega (arith, ap (λ (s : _). s.cols) c.shape-j-end.ensures.shape)) in let item1 = comes_after (columns_from c.args.program.now (level_at c.args.program.now (below c.args.program.now c.args.levels)) c.args.frame c.args.place c.args.slot c.args.a.now c.args.body.now 0 c.args.a.now.cols) (take_turn c.args.place) (λ u. (write c.args.slot (Value.Array (column_of c.args.a.now c.loop-j.j))) >>= (λ w. (block_in c.args.program.now (below c.args.program.now c.args.levels) c.args.frame c.args.body.now) >>= (λ x. after_pass c.args.program.now x (columns_from c.args.program.now (level_at c.args.program.now (below c.args.program.now c.args.levels)) c.args.frame c.args.place c.args.slot c.args.a.now c.args.body.now (c.loop-j.j + 1) (c.args.a.now.cols - (c.loop-j.j + 1)))))) c.in_ok-take_turn.field-0 (at c.args.memory.now (g.W.World.log c.args.world.now)) (at c.loop-j.memory (g.W.World.log c.loop-j.world)) (at c.take_turn.new.memory (g.W.World.log c.loop-j.world)) item0 (c.in_ok-take_turn.ensures.ok) ((λ all f. f), (λ ts b. b)) in let item2 = comes_after (columns_from c.args.program.now (level_at c.args.program.now (below c.args.program.now c.args.levels)) c.args.frame c.args.place c.args.slot c.args.a.now c.args.body.now 0 c.args.a.now.cols) (write c.args.slot (Value.Array (column_of c.args.a.now c.loop-j.j))) (λ w. (block_in c.args.program.now (below c.args.program.now c.args.levels) c.args.frame c.args.body.now) >>= (λ x. after_pass c.args.program.now x (columns_from c.args.program.now (level_at c.args.program.now (below c.args.program.now c.args.levels)) c.args.frame c.args.place c.args.slot c.args.a.now c.args.body.now (c.loop-j.j + 1) (c.args.a.now.cols - (c.loop-j.j + 1))))) c.in_ok-write.field-0 (at c.args.memory.now (g.W.World.log c.args.world.now)) (at c.take_turn.new.memory (g.W.World.log c.loop-j.world)) (at c.write.new.memory (g.W.World.log c.loop-j.world)) item1 (rw c.in_ok-column.ensures at (c.in_ok-write.ensures.ok)) ((λ all f. f), (λ ts b. b)) in let item3 = comes_after (columns_from c.args.program.now (level_at c.args.program.now (below c.args.program.now c.args.levels)) c.args.frame c.args.place c.args.slot c.args.a.now c.args.body.now 0 c.args.a.now.cols) (block_in c.args.program.now (below c.args.program.now c.args.levels) c.args.frame c.args.body.now) (λ x. after_pass c.args.program.now x (columns_from c.args.program.now (level_at c.args.program.now (below c.args.program.now c.args.levels)) c.args.frame c.args.place c.args.slot c.args.a.now c.args.body.now (c.loop-j.j + 1) (c.args.a.now.cols - (c.loop-j.j + 1)))) c.in_ok-block.field-0 (at c.args.memory.now (g.W.World.log c.args.world.now)) (at c.write.new.memory (g.W.World.log c.loop-j.world)) (at c.block.new.memory (g.W.World.log c.block.new.world)) item2 (c.in_ok-block.ensures.ok) c.in_ok-block.ensures.keeps in rw c.in-Returned.is at item3

pub loops::each_column-loop-j-preserved : goal.loops::each_column-loop-j-preserved
loops::each_column-loop-j-preserved g t c = let item0 = comes_pass (columns_from c.args.program.now (level_at c.args.program.now (below c.args.program.now c.args.levels)) c.args.frame c.args.place c.args.slot c.args.a.now c.args.body.now c.loop-j.j) (columns_from c.args.program.now (level_at c.args.program.now (below c.args.program.now c.args.levels)) c.args.frame c.args.place c.args.slot c.args.a.now c.args.body.now 0 c.args.a.now.cols) c.args.a.now.cols c.loop-j.j (at c.args.memory.now (g.W.World.log c.args.world.now)) (at c.loop-j.memory (g.W.World.log c.loop-j.world)) c.loop-j.invariant.0 (omega (arith, ap (λ (s : _). s.cols) c.shape-j-end.ensures.shape)) in let item1 = comes_after (columns_from c.args.program.now (level_at c.args.program.now (below c.args.program.now c.args.levels)) c.args.frame c.args.place c.args.slot c.args.a.now c.args.body.now 0 c.args.a.now.cols) (take_turn c.args.place) (λ u. (write c.args.slot (Value.Array (column_of c.args.a.now c.loop-j.j))) >>= (λ w. (block_in c.args.program.now (below c.args.program.now c.args.levels) c.args.frame c.args.body.now) >>= (λ x. after_pass c.args.program.now x (columns_from c.args.program.now (level_at c.args.program.now (below c.args.program.now c.args.levels)) c.args.frame c.args.place c.args.slot c.args.a.now c.args.body.now (c.loop-j.j + 1) (c.args.a.now.cols - (c.loop-j.j + 1)))))) c.in_ok-take_turn.field-0 (at c.args.memory.now (g.W.World.log c.args.world.now)) (at c.loop-j.memory (g.W.World.log c.loop-j.world)) (at c.take_turn.new.memory (g.W.World.log c.loop-j.world)) item0 (c.in_ok-take_turn.ensures.ok) ((λ all f. f), (λ ts b. b)) in let item2 = comes_after (columns_from c.args.program.now (level_at c.args.program.now (below c.args.program.now c.args.levels)) c.args.frame c.args.place c.args.slot c.args.a.now c.args.body.now 0 c.args.a.now.cols) (write c.args.slot (Value.Array (column_of c.args.a.now c.loop-j.j))) (λ w. (block_in c.args.program.now (below c.args.program.now c.args.levels) c.args.frame c.args.body.now) >>= (λ x. after_pass c.args.program.now x (columns_from c.args.program.now (level_at c.args.program.now (below c.args.program.now c.args.levels)) c.args.frame c.args.place c.args.slot c.args.a.now c.args.body.now (c.loop-j.j + 1) (c.args.a.now.cols - (c.loop-j.j + 1))))) c.in_ok-write.field-0 (at c.args.memory.now (g.W.World.log c.args.world.now)) (at c.take_turn.new.memory (g.W.World.log c.loop-j.world)) (at c.write.new.memory (g.W.World.log c.loop-j.world)) item1 (rw c.in_ok-column.ensures at (c.in_ok-write.ensures.ok)) ((λ all f. f), (λ ts b. b)) in let item3 = comes_after (columns_from c.args.program.now (level_at c.args.program.now (below c.args.program.now c.args.levels)) c.args.frame c.args.place c.args.slot c.args.a.now c.args.body.now 0 c.args.a.now.cols) (block_in c.args.program.now (below c.args.program.now c.args.levels) c.args.frame c.args.body.now) (λ x. after_pass c.args.program.now x (columns_from c.args.program.now (level_at c.args.program.now (below c.args.program.now c.args.levels)) c.args.frame c.args.place c.args.slot c.args.a.now c.args.body.now (c.loop-j.j + 1) (c.args.a.now.cols - (c.loop-j.j + 1)))) c.in_ok-block.field-0 (at c.args.memory.now (g.W.World.log c.args.world.now)) (at c.write.new.memory (g.W.World.log c.loop-j.world)) (at c.block.new.memory (g.W.World.log c.block.new.world)) item2 (c.in_ok-block.ensures.ok) c.in_ok-block.ensures.keeps in (rw (goes_on c.args.program.now c.in_ok-block.field-0 (columns_from c.args.program.now (level_at c.args.program.now (below c.args.program.now c.args.levels)) c.args.frame c.args.place c.args.slot c.args.a.now c.args.body.now (c.loop-j.j + 1) (c.args.a.now.cols - (c.loop-j.j + 1))) c.in-Onward.is) at item3, keeps_on (at c.args.memory.now (g.W.World.log c.args.world.now)) (at c.loop-j.memory (g.W.World.log c.loop-j.world)) (at c.block.new.memory (g.W.World.log c.block.new.world)) c.loop-j.invariant.1 (c.in_ok-block.ensures.keeps))

pub loops::repeat-returns-in_err-test-clause-err : goal.loops::repeat-returns-in_err-test-clause-err
unfolding looped
loops::repeat-returns-in_err-test-clause-err g t c = λ x e. let item0 = comes_pass (passes c.args.program.now (level_at c.args.program.now (below c.args.program.now c.args.levels)) c.args.frame c.args.place c.args.e.now c.args.body.now) (passes c.args.program.now (level_at c.args.program.now (below c.args.program.now c.args.levels)) c.args.frame c.args.place c.args.e.now c.args.body.now (c.args.memory.now.turns + 1)) (c.args.memory.now.turns + 1) c.loop-pass._pass (at c.args.memory.now (g.W.World.log c.args.world.now)) (at c.loop-pass.memory (g.W.World.log c.loop-pass.world)) c.loop-pass.invariant.0 (omega (arith)) in rw (same_halt e c.from_residual.ensures.1) (comes_halts (passes c.args.program.now (level_at c.args.program.now (below c.args.program.now c.args.levels)) c.args.frame c.args.place c.args.e.now c.args.body.now (c.args.memory.now.turns + 1)) ((tested c.args.program.now (value_in c.args.program.now (below c.args.program.now c.args.levels)) c.args.frame c.args.place c.args.e.now) >>= (λ (yes : Bool). if yes then ((take_turn c.args.place) >>= (λ u. (block_in c.args.program.now (below c.args.program.now c.args.levels) c.args.frame c.args.body.now) >>= (λ x. after_pass c.args.program.now x (passes c.args.program.now (level_at c.args.program.now (below c.args.program.now c.args.levels)) c.args.frame c.args.place c.args.e.now c.args.body.now (c.args.memory.now.turns + 1 - (c.loop-pass._pass + 1)))))) else pure Onward)) (at c.args.memory.now (g.W.World.log c.args.world.now)) (at c.loop-pass.memory (g.W.World.log c.loop-pass.world)) (at c.test.new.memory (g.W.World.log c.test.new.world)) _ item0 c.in_err-test.ensures.keeps (first_halts (tested c.args.program.now (value_in c.args.program.now (below c.args.program.now c.args.levels)) c.args.frame c.args.place c.args.e.now) (λ (yes : Bool). if yes then ((take_turn c.args.place) >>= (λ u. (block_in c.args.program.now (below c.args.program.now c.args.levels) c.args.frame c.args.body.now) >>= (λ x. after_pass c.args.program.now x (passes c.args.program.now (level_at c.args.program.now (below c.args.program.now c.args.levels)) c.args.frame c.args.place c.args.e.now c.args.body.now (c.args.memory.now.turns + 1 - (c.loop-pass._pass + 1)))))) else pure Onward) (at c.loop-pass.memory (g.W.World.log c.loop-pass.world)) (at c.test.new.memory (g.W.World.log c.test.new.world)) _ (c.in_err-test.ensures.err _ refl)))

pub loops::repeat-returns-then-not-branch-clause-ok : goal.loops::repeat-returns-then-not-branch-clause-ok
unfolding looped
loops::repeat-returns-then-not-branch-clause-ok g t c = let item0 = comes_pass (passes c.args.program.now (level_at c.args.program.now (below c.args.program.now c.args.levels)) c.args.frame c.args.place c.args.e.now c.args.body.now) (passes c.args.program.now (level_at c.args.program.now (below c.args.program.now c.args.levels)) c.args.frame c.args.place c.args.e.now c.args.body.now (c.args.memory.now.turns + 1)) (c.args.memory.now.turns + 1) c.loop-pass._pass (at c.args.memory.now (g.W.World.log c.args.world.now)) (at c.loop-pass.memory (g.W.World.log c.loop-pass.world)) c.loop-pass.invariant.0 (omega (arith)) in let item1 = comes_after (passes c.args.program.now (level_at c.args.program.now (below c.args.program.now c.args.levels)) c.args.frame c.args.place c.args.e.now c.args.body.now (c.args.memory.now.turns + 1)) (tested c.args.program.now (value_in c.args.program.now (below c.args.program.now c.args.levels)) c.args.frame c.args.place c.args.e.now) (λ (yes : Bool). if yes then ((take_turn c.args.place) >>= (λ u. (block_in c.args.program.now (below c.args.program.now c.args.levels) c.args.frame c.args.body.now) >>= (λ x. after_pass c.args.program.now x (passes c.args.program.now (level_at c.args.program.now (below c.args.program.now c.args.levels)) c.args.frame c.args.place c.args.e.now c.args.body.now (c.args.memory.now.turns + 1 - (c.loop-pass._pass + 1)))))) else pure Onward) c.in_ok-test.field-0 (at c.args.memory.now (g.W.World.log c.args.world.now)) (at c.loop-pass.memory (g.W.World.log c.loop-pass.world)) (at c.test.new.memory (g.W.World.log c.test.new.world)) item0 (c.in_ok-test.ensures.ok) c.in_ok-test.ensures.keeps in let no : c.in_ok-test.field-0 ≡ false = (cc) in rw no at item1

pub loops::repeat-returns-in_err-take_turn-clause-err : goal.loops::repeat-returns-in_err-take_turn-clause-err
unfolding looped
loops::repeat-returns-in_err-take_turn-clause-err g t c = λ x e. let item0 = comes_pass (passes c.args.program.now (level_at c.args.program.now (below c.args.program.now c.args.levels)) c.args.frame c.args.place c.args.e.now c.args.body.now) (passes c.args.program.now (level_at c.args.program.now (below c.args.program.now c.args.levels)) c.args.frame c.args.place c.args.e.now c.args.body.now (c.args.memory.now.turns + 1)) (c.args.memory.now.turns + 1) c.loop-pass._pass (at c.args.memory.now (g.W.World.log c.args.world.now)) (at c.loop-pass.memory (g.W.World.log c.loop-pass.world)) c.loop-pass.invariant.0 (omega (arith)) in let item1 = comes_after (passes c.args.program.now (level_at c.args.program.now (below c.args.program.now c.args.levels)) c.args.frame c.args.place c.args.e.now c.args.body.now (c.args.memory.now.turns + 1)) (tested c.args.program.now (value_in c.args.program.now (below c.args.program.now c.args.levels)) c.args.frame c.args.place c.args.e.now) (λ (yes : Bool). if yes then ((take_turn c.args.place) >>= (λ u. (block_in c.args.program.now (below c.args.program.now c.args.levels) c.args.frame c.args.body.now) >>= (λ x. after_pass c.args.program.now x (passes c.args.program.now (level_at c.args.program.now (below c.args.program.now c.args.levels)) c.args.frame c.args.place c.args.e.now c.args.body.now (c.args.memory.now.turns + 1 - (c.loop-pass._pass + 1)))))) else pure Onward) c.in_ok-test.field-0 (at c.args.memory.now (g.W.World.log c.args.world.now)) (at c.loop-pass.memory (g.W.World.log c.loop-pass.world)) (at c.test.new.memory (g.W.World.log c.test.new.world)) item0 (c.in_ok-test.ensures.ok) c.in_ok-test.ensures.keeps in let yes : c.in_ok-test.field-0 ≡ true = (cc) in rw (same_halt e c.from_residual-in_err-take_turn.ensures.1) (comes_halts (passes c.args.program.now (level_at c.args.program.now (below c.args.program.now c.args.levels)) c.args.frame c.args.place c.args.e.now c.args.body.now (c.args.memory.now.turns + 1)) ((take_turn c.args.place) >>= (λ u. (block_in c.args.program.now (below c.args.program.now c.args.levels) c.args.frame c.args.body.now) >>= (λ x. after_pass c.args.program.now x (passes c.args.program.now (level_at c.args.program.now (below c.args.program.now c.args.levels)) c.args.frame c.args.place c.args.e.now c.args.body.now (c.args.memory.now.turns + 1 - (c.loop-pass._pass + 1)))))) (at c.args.memory.now (g.W.World.log c.args.world.now)) (at c.test.new.memory (g.W.World.log c.test.new.world)) (at c.take_turn.new.memory (g.W.World.log c.test.new.world)) _ (rw yes at item1) ((λ all f. f), (λ ts b. b)) (first_halts (take_turn c.args.place) (λ u. (block_in c.args.program.now (below c.args.program.now c.args.levels) c.args.frame c.args.body.now) >>= (λ x. after_pass c.args.program.now x (passes c.args.program.now (level_at c.args.program.now (below c.args.program.now c.args.levels)) c.args.frame c.args.place c.args.e.now c.args.body.now (c.args.memory.now.turns + 1 - (c.loop-pass._pass + 1))))) (at c.test.new.memory (g.W.World.log c.test.new.world)) (at c.take_turn.new.memory (g.W.World.log c.test.new.world)) _ (c.in_err-take_turn.ensures.err _ refl)))

pub loops::repeat-returns-in_err-block-clause-err : goal.loops::repeat-returns-in_err-block-clause-err
unfolding looped
loops::repeat-returns-in_err-block-clause-err g t c = λ x e. let item0 = comes_pass (passes c.args.program.now (level_at c.args.program.now (below c.args.program.now c.args.levels)) c.args.frame c.args.place c.args.e.now c.args.body.now) (passes c.args.program.now (level_at c.args.program.now (below c.args.program.now c.args.levels)) c.args.frame c.args.place c.args.e.now c.args.body.now (c.args.memory.now.turns + 1)) (c.args.memory.now.turns + 1) c.loop-pass._pass (at c.args.memory.now (g.W.World.log c.args.world.now)) (at c.loop-pass.memory (g.W.World.log c.loop-pass.world)) c.loop-pass.invariant.0 (omega (arith)) in let item1 = comes_after (passes c.args.program.now (level_at c.args.program.now (below c.args.program.now c.args.levels)) c.args.frame c.args.place c.args.e.now c.args.body.now (c.args.memory.now.turns + 1)) (tested c.args.program.now (value_in c.args.program.now (below c.args.program.now c.args.levels)) c.args.frame c.args.place c.args.e.now) (λ (yes : Bool). if yes then ((take_turn c.args.place) >>= (λ u. (block_in c.args.program.now (below c.args.program.now c.args.levels) c.args.frame c.args.body.now) >>= (λ x. after_pass c.args.program.now x (passes c.args.program.now (level_at c.args.program.now (below c.args.program.now c.args.levels)) c.args.frame c.args.place c.args.e.now c.args.body.now (c.args.memory.now.turns + 1 - (c.loop-pass._pass + 1)))))) else pure Onward) c.in_ok-test.field-0 (at c.args.memory.now (g.W.World.log c.args.world.now)) (at c.loop-pass.memory (g.W.World.log c.loop-pass.world)) (at c.test.new.memory (g.W.World.log c.test.new.world)) item0 (c.in_ok-test.ensures.ok) c.in_ok-test.ensures.keeps in let yes : c.in_ok-test.field-0 ≡ true = (cc) in let item2 = comes_after (passes c.args.program.now (level_at c.args.program.now (below c.args.program.now c.args.levels)) c.args.frame c.args.place c.args.e.now c.args.body.now (c.args.memory.now.turns + 1)) (take_turn c.args.place) (λ u. (block_in c.args.program.now (below c.args.program.now c.args.levels) c.args.frame c.args.body.now) >>= (λ x. after_pass c.args.program.now x (passes c.args.program.now (level_at c.args.program.now (below c.args.program.now c.args.levels)) c.args.frame c.args.place c.args.e.now c.args.body.now (c.args.memory.now.turns + 1 - (c.loop-pass._pass + 1))))) c.in_ok-take_turn.field-0 (at c.args.memory.now (g.W.World.log c.args.world.now)) (at c.test.new.memory (g.W.World.log c.test.new.world)) (at c.take_turn.new.memory (g.W.World.log c.test.new.world)) (rw yes at item1) (c.in_ok-take_turn.ensures.ok) ((λ all f. f), (λ ts b. b)) in rw (same_halt e c.from_residual-in_err-block.ensures.1) (comes_halts (passes c.args.program.now (level_at c.args.program.now (below c.args.program.now c.args.levels)) c.args.frame c.args.place c.args.e.now c.args.body.now (c.args.memory.now.turns + 1)) ((block_in c.args.program.now (below c.args.program.now c.args.levels) c.args.frame c.args.body.now) >>= (λ x. after_pass c.args.program.now x (passes c.args.program.now (level_at c.args.program.now (below c.args.program.now c.args.levels)) c.args.frame c.args.place c.args.e.now c.args.body.now (c.args.memory.now.turns + 1 - (c.loop-pass._pass + 1))))) (at c.args.memory.now (g.W.World.log c.args.world.now)) (at c.take_turn.new.memory (g.W.World.log c.test.new.world)) (at c.block.new.memory (g.W.World.log c.block.new.world)) _ item2 c.in_err-block.ensures.keeps (first_halts (block_in c.args.program.now (below c.args.program.now c.args.levels) c.args.frame c.args.body.now) (λ x. after_pass c.args.program.now x (passes c.args.program.now (level_at c.args.program.now (below c.args.program.now c.args.levels)) c.args.frame c.args.place c.args.e.now c.args.body.now (c.args.memory.now.turns + 1 - (c.loop-pass._pass + 1)))) (at c.take_turn.new.memory (g.W.World.log c.test.new.world)) (at c.block.new.memory (g.W.World.log c.block.new.world)) _ (c.in_err-block.ensures.err _ refl)))

pub loops::repeat-returns-in-Broke-clause-ok : goal.loops::repeat-returns-in-Broke-clause-ok
unfolding looped
loops::repeat-returns-in-Broke-clause-ok g t c = let item0 = comes_pass (passes c.args.program.now (level_at c.args.program.now (below c.args.program.now c.args.levels)) c.args.frame c.args.place c.args.e.now c.args.body.now) (passes c.args.program.now (level_at c.args.program.now (below c.args.program.now c.args.levels)) c.args.frame c.args.place c.args.e.now c.args.body.now (c.args.memory.now.turns + 1)) (c.args.memory.now.turns + 1) c.loop-pass._pass (at c.args.memory.now (g.W.World.log c.args.world.now)) (at c.loop-pass.memory (g.W.World.log c.loop-pass.world)) c.loop-pass.invariant.0 (omega (arith)) in let item1 = comes_after (passes c.args.program.now (level_at c.args.program.now (below c.args.program.now c.args.levels)) c.args.frame c.args.place c.args.e.now c.args.body.now (c.args.memory.now.turns + 1)) (tested c.args.program.now (value_in c.args.program.now (below c.args.program.now c.args.levels)) c.args.frame c.args.place c.args.e.now) (λ (yes : Bool). if yes then ((take_turn c.args.place) >>= (λ u. (block_in c.args.program.now (below c.args.program.now c.args.levels) c.args.frame c.args.body.now) >>= (λ x. after_pass c.args.program.now x (passes c.args.program.now (level_at c.args.program.now (below c.args.program.now c.args.levels)) c.args.frame c.args.place c.args.e.now c.args.body.now (c.args.memory.now.turns + 1 - (c.loop-pass._pass + 1)))))) else pure Onward) c.in_ok-test.field-0 (at c.args.memory.now (g.W.World.log c.args.world.now)) (at c.loop-pass.memory (g.W.World.log c.loop-pass.world)) (at c.test.new.memory (g.W.World.log c.test.new.world)) item0 (c.in_ok-test.ensures.ok) c.in_ok-test.ensures.keeps in let yes : c.in_ok-test.field-0 ≡ true = (cc) in let item2 = comes_after (passes c.args.program.now (level_at c.args.program.now (below c.args.program.now c.args.levels)) c.args.frame c.args.place c.args.e.now c.args.body.now (c.args.memory.now.turns + 1)) (take_turn c.args.place) (λ u. (block_in c.args.program.now (below c.args.program.now c.args.levels) c.args.frame c.args.body.now) >>= (λ x. after_pass c.args.program.now x (passes c.args.program.now (level_at c.args.program.now (below c.args.program.now c.args.levels)) c.args.frame c.args.place c.args.e.now c.args.body.now (c.args.memory.now.turns + 1 - (c.loop-pass._pass + 1))))) c.in_ok-take_turn.field-0 (at c.args.memory.now (g.W.World.log c.args.world.now)) (at c.test.new.memory (g.W.World.log c.test.new.world)) (at c.take_turn.new.memory (g.W.World.log c.test.new.world)) (rw yes at item1) (c.in_ok-take_turn.ensures.ok) ((λ all f. f), (λ ts b. b)) in let item3 = comes_after (passes c.args.program.now (level_at c.args.program.now (below c.args.program.now c.args.levels)) c.args.frame c.args.place c.args.e.now c.args.body.now (c.args.memory.now.turns + 1)) (block_in c.args.program.now (below c.args.program.now c.args.levels) c.args.frame c.args.body.now) (λ x. after_pass c.args.program.now x (passes c.args.program.now (level_at c.args.program.now (below c.args.program.now c.args.levels)) c.args.frame c.args.place c.args.e.now c.args.body.now (c.args.memory.now.turns + 1 - (c.loop-pass._pass + 1)))) c.in_ok-block.field-0 (at c.args.memory.now (g.W.World.log c.args.world.now)) (at c.take_turn.new.memory (g.W.World.log c.test.new.world)) (at c.block.new.memory (g.W.World.log c.block.new.world)) item2 (c.in_ok-block.ensures.ok) c.in_ok-block.ensures.keeps in rw c.in-Broke.is at item3

pub loops::repeat-returns-in-Returned-clause-ok : goal.loops::repeat-returns-in-Returned-clause-ok
unfolding looped
loops::repeat-returns-in-Returned-clause-ok g t c = let item0 = comes_pass (passes c.args.program.now (level_at c.args.program.now (below c.args.program.now c.args.levels)) c.args.frame c.args.place c.args.e.now c.args.body.now) (passes c.args.program.now (level_at c.args.program.now (below c.args.program.now c.args.levels)) c.args.frame c.args.place c.args.e.now c.args.body.now (c.args.memory.now.turns + 1)) (c.args.memory.now.turns + 1) c.loop-pass._pass (at c.args.memory.now (g.W.World.log c.args.world.now)) (at c.loop-pass.memory (g.W.World.log c.loop-pass.world)) c.loop-pass.invariant.0 (omega (arith)) in let item1 = comes_after (passes c.args.program.now (level_at c.args.program.now (below c.args.program.now c.args.levels)) c.args.frame c.args.place c.args.e.now c.args.body.now (c.args.memory.now.turns + 1)) (tested c.args.program.now (value_in c.args.program.now (below c.args.program.now c.args.levels)) c.args.frame c.args.place c.args.e.now) (λ (yes : Bool). if yes then ((take_turn c.args.place) >>= (λ u. (block_in c.args.program.now (below c.args.program.now c.args.levels) c.args.frame c.args.body.now) >>= (λ x. after_pass c.args.program.now x (passes c.args.program.now (level_at c.args.program.now (below c.args.program.now c.args.levels)) c.args.frame c.args.place c.args.e.now c.args.body.now (c.args.memory.now.turns + 1 - (c.loop-pass._pass + 1)))))) else pure Onward) c.in_ok-test.field-0 (at c.args.memory.now (g.W.World.log c.args.world.now)) (at c.loop-pass.memory (g.W.World.log c.loop-pass.world)) (at c.test.new.memory (g.W.World.log c.test.new.world)) item0 (c.in_ok-test.ensures.ok) c.in_ok-test.ensures.keeps in let yes : c.in_ok-test.field-0 ≡ true = (cc) in let item2 = comes_after (passes c.args.program.now (level_at c.args.program.now (below c.args.program.now c.args.levels)) c.args.frame c.args.place c.args.e.now c.args.body.now (c.args.memory.now.turns + 1)) (take_turn c.args.place) (λ u. (block_in c.args.program.now (below c.args.program.now c.args.levels) c.args.frame c.args.body.now) >>= (λ x. after_pass c.args.program.now x (passes c.args.program.now (level_at c.args.program.now (below c.args.program.now c.args.levels)) c.args.frame c.args.place c.args.e.now c.args.body.now (c.args.memory.now.turns + 1 - (c.loop-pass._pass + 1))))) c.in_ok-take_turn.field-0 (at c.args.memory.now (g.W.World.log c.args.world.now)) (at c.test.new.memory (g.W.World.log c.test.new.world)) (at c.take_turn.new.memory (g.W.World.log c.test.new.world)) (rw yes at item1) (c.in_ok-take_turn.ensures.ok) ((λ all f. f), (λ ts b. b)) in let item3 = comes_after (passes c.args.program.now (level_at c.args.program.now (below c.args.program.now c.args.levels)) c.args.frame c.args.place c.args.e.now c.args.body.now (c.args.memory.now.turns + 1)) (block_in c.args.program.now (below c.args.program.now c.args.levels) c.args.frame c.args.body.now) (λ x. after_pass c.args.program.now x (passes c.args.program.now (level_at c.args.program.now (below c.args.program.now c.args.levels)) c.args.frame c.args.place c.args.e.now c.args.body.now (c.args.memory.now.turns + 1 - (c.loop-pass._pass + 1)))) c.in_ok-block.field-0 (at c.args.memory.now (g.W.World.log c.args.world.now)) (at c.take_turn.new.memory (g.W.World.log c.test.new.world)) (at c.block.new.memory (g.W.World.log c.block.new.world)) item2 (c.in_ok-block.ensures.ok) c.in_ok-block.ensures.keeps in rw c.in-Returned.is at item3

pub loops::repeat-loop-pass-preserved : goal.loops::repeat-loop-pass-preserved
loops::repeat-loop-pass-preserved g t c = let item0 = comes_pass (passes c.args.program.now (level_at c.args.program.now (below c.args.program.now c.args.levels)) c.args.frame c.args.place c.args.e.now c.args.body.now) (passes c.args.program.now (level_at c.args.program.now (below c.args.program.now c.args.levels)) c.args.frame c.args.place c.args.e.now c.args.body.now (c.args.memory.now.turns + 1)) (c.args.memory.now.turns + 1) c.loop-pass._pass (at c.args.memory.now (g.W.World.log c.args.world.now)) (at c.loop-pass.memory (g.W.World.log c.loop-pass.world)) c.loop-pass.invariant.0 (omega (arith)) in let item1 = comes_after (passes c.args.program.now (level_at c.args.program.now (below c.args.program.now c.args.levels)) c.args.frame c.args.place c.args.e.now c.args.body.now (c.args.memory.now.turns + 1)) (tested c.args.program.now (value_in c.args.program.now (below c.args.program.now c.args.levels)) c.args.frame c.args.place c.args.e.now) (λ (yes : Bool). if yes then ((take_turn c.args.place) >>= (λ u. (block_in c.args.program.now (below c.args.program.now c.args.levels) c.args.frame c.args.body.now) >>= (λ x. after_pass c.args.program.now x (passes c.args.program.now (level_at c.args.program.now (below c.args.program.now c.args.levels)) c.args.frame c.args.place c.args.e.now c.args.body.now (c.args.memory.now.turns + 1 - (c.loop-pass._pass + 1)))))) else pure Onward) c.in_ok-test.field-0 (at c.args.memory.now (g.W.World.log c.args.world.now)) (at c.loop-pass.memory (g.W.World.log c.loop-pass.world)) (at c.test.new.memory (g.W.World.log c.test.new.world)) item0 (c.in_ok-test.ensures.ok) c.in_ok-test.ensures.keeps in let yes : c.in_ok-test.field-0 ≡ true = (cc) in let item2 = comes_after (passes c.args.program.now (level_at c.args.program.now (below c.args.program.now c.args.levels)) c.args.frame c.args.place c.args.e.now c.args.body.now (c.args.memory.now.turns + 1)) (take_turn c.args.place) (λ u. (block_in c.args.program.now (below c.args.program.now c.args.levels) c.args.frame c.args.body.now) >>= (λ x. after_pass c.args.program.now x (passes c.args.program.now (level_at c.args.program.now (below c.args.program.now c.args.levels)) c.args.frame c.args.place c.args.e.now c.args.body.now (c.args.memory.now.turns + 1 - (c.loop-pass._pass + 1))))) c.in_ok-take_turn.field-0 (at c.args.memory.now (g.W.World.log c.args.world.now)) (at c.test.new.memory (g.W.World.log c.test.new.world)) (at c.take_turn.new.memory (g.W.World.log c.test.new.world)) (rw yes at item1) (c.in_ok-take_turn.ensures.ok) ((λ all f. f), (λ ts b. b)) in let item3 = comes_after (passes c.args.program.now (level_at c.args.program.now (below c.args.program.now c.args.levels)) c.args.frame c.args.place c.args.e.now c.args.body.now (c.args.memory.now.turns + 1)) (block_in c.args.program.now (below c.args.program.now c.args.levels) c.args.frame c.args.body.now) (λ x. after_pass c.args.program.now x (passes c.args.program.now (level_at c.args.program.now (below c.args.program.now c.args.levels)) c.args.frame c.args.place c.args.e.now c.args.body.now (c.args.memory.now.turns + 1 - (c.loop-pass._pass + 1)))) c.in_ok-block.field-0 (at c.args.memory.now (g.W.World.log c.args.world.now)) (at c.take_turn.new.memory (g.W.World.log c.test.new.world)) (at c.block.new.memory (g.W.World.log c.block.new.world)) item2 (c.in_ok-block.ensures.ok) c.in_ok-block.ensures.keeps in (rw (goes_on c.args.program.now c.in_ok-block.field-0 (passes c.args.program.now (level_at c.args.program.now (below c.args.program.now c.args.levels)) c.args.frame c.args.place c.args.e.now c.args.body.now (c.args.memory.now.turns + 1 - (c.loop-pass._pass + 1))) c.in-Onward.is) at item3, keeps_on (at c.args.memory.now (g.W.World.log c.args.world.now)) (at c.loop-pass.memory (g.W.World.log c.loop-pass.world)) (at c.block.new.memory (g.W.World.log c.block.new.world)) c.loop-pass.invariant.1 (keeps_on (at c.loop-pass.memory (g.W.World.log c.loop-pass.world)) (at c.test.new.memory (g.W.World.log c.test.new.world)) (at c.block.new.memory (g.W.World.log c.block.new.world)) c.in_ok-test.ensures.keeps c.in_ok-block.ensures.keeps))

pub loops::repeat-returns-clause-err : goal.loops::repeat-returns-clause-err
unfolding looped
loops::repeat-returns-clause-err g t c = λ x e. elim c.loop-pass-test.branch [ loops::repeat-else-loop-pass-test w ↦ absurd (omega (arith, w.loop-pass-test.false)) | loops::repeat-then-loop-pass-test+in_ok-test+else-not-branch+in_ok-take_turn+in_ok-block+in-Onward+else-pass-most w ↦ let item0 = comes_pass (passes c.args.program.now (level_at c.args.program.now (below c.args.program.now c.args.levels)) c.args.frame c.args.place c.args.e.now c.args.body.now) (passes c.args.program.now (level_at c.args.program.now (below c.args.program.now c.args.levels)) c.args.frame c.args.place c.args.e.now c.args.body.now (c.args.memory.now.turns + 1)) (c.args.memory.now.turns + 1) c.loop-pass._pass (at c.args.memory.now (g.W.World.log c.args.world.now)) (at c.loop-pass.memory (g.W.World.log c.loop-pass.world)) c.loop-pass.invariant.0 (omega (arith)) in let item1 = comes_after (passes c.args.program.now (level_at c.args.program.now (below c.args.program.now c.args.levels)) c.args.frame c.args.place c.args.e.now c.args.body.now (c.args.memory.now.turns + 1)) (tested c.args.program.now (value_in c.args.program.now (below c.args.program.now c.args.levels)) c.args.frame c.args.place c.args.e.now) (λ (yes : Bool). if yes then ((take_turn c.args.place) >>= (λ u. (block_in c.args.program.now (below c.args.program.now c.args.levels) c.args.frame c.args.body.now) >>= (λ x. after_pass c.args.program.now x (passes c.args.program.now (level_at c.args.program.now (below c.args.program.now c.args.levels)) c.args.frame c.args.place c.args.e.now c.args.body.now (c.args.memory.now.turns + 1 - (c.loop-pass._pass + 1)))))) else pure Onward) w.in_ok-test.field-0 (at c.args.memory.now (g.W.World.log c.args.world.now)) (at c.loop-pass.memory (g.W.World.log c.loop-pass.world)) (at w.test.new.memory (g.W.World.log w.test.new.world)) item0 (w.in_ok-test.ensures.ok) w.in_ok-test.ensures.keeps in let yes : w.in_ok-test.field-0 ≡ true = (cc) in let item2 = comes_after (passes c.args.program.now (level_at c.args.program.now (below c.args.program.now c.args.levels)) c.args.frame c.args.place c.args.e.now c.args.body.now (c.args.memory.now.turns + 1)) (take_turn c.args.place) (λ u. (block_in c.args.program.now (below c.args.program.now c.args.levels) c.args.frame c.args.body.now) >>= (λ x. after_pass c.args.program.now x (passes c.args.program.now (level_at c.args.program.now (below c.args.program.now c.args.levels)) c.args.frame c.args.place c.args.e.now c.args.body.now (c.args.memory.now.turns + 1 - (c.loop-pass._pass + 1))))) w.in_ok-take_turn.field-0 (at c.args.memory.now (g.W.World.log c.args.world.now)) (at w.test.new.memory (g.W.World.log w.test.new.world)) (at w.take_turn.new.memory (g.W.World.log w.test.new.world)) (rw yes at item1) (w.in_ok-take_turn.ensures.ok) ((λ all f. f), (λ ts b. b)) in let item3 = comes_after (passes c.args.program.now (level_at c.args.program.now (below c.args.program.now c.args.levels)) c.args.frame c.args.place c.args.e.now c.args.body.now (c.args.memory.now.turns + 1)) (block_in c.args.program.now (below c.args.program.now c.args.levels) c.args.frame c.args.body.now) (λ x. after_pass c.args.program.now x (passes c.args.program.now (level_at c.args.program.now (below c.args.program.now c.args.levels)) c.args.frame c.args.place c.args.e.now c.args.body.now (c.args.memory.now.turns + 1 - (c.loop-pass._pass + 1)))) w.in_ok-block.field-0 (at c.args.memory.now (g.W.World.log c.args.world.now)) (at w.take_turn.new.memory (g.W.World.log w.test.new.world)) (at w.block.new.memory (g.W.World.log w.block.new.world)) item2 (w.in_ok-block.ensures.ok) w.in_ok-block.ensures.keeps in let more = rw (goes_on c.args.program.now w.in_ok-block.field-0 (passes c.args.program.now (level_at c.args.program.now (below c.args.program.now c.args.levels)) c.args.frame c.args.place c.args.e.now c.args.body.now (c.args.memory.now.turns + 1 - (c.loop-pass._pass + 1))) w.in-Onward.is) at item3 in let zero : c.args.memory.now.turns + 1 - (c.loop-pass._pass + 1) ≡ 0 = omega (arith) in let spent = rw zero at more in rw (w.memory-is, w.world-is, same_err e) (comes_halts (passes c.args.program.now (level_at c.args.program.now (below c.args.program.now c.args.levels)) c.args.frame c.args.place c.args.e.now c.args.body.now (c.args.memory.now.turns + 1)) (fail Spent c.args.place) (at c.args.memory.now (g.W.World.log c.args.world.now)) (at w.block.new.memory (g.W.World.log w.block.new.world)) (at w.block.new.memory (g.W.World.log w.block.new.world)) _ spent ((λ all f. f), (λ ts b. b)) (λ k h all f. c.fail.ensures w.block.new.memory.env w.block.new.memory.turns w.block.new.memory.calls (g.W.World.log w.block.new.world) h all)) ]

pub outputs::outputs-returns-in-None-clause-ok : goal.outputs::outputs-returns-in-None-clause-ok
unfolding outputs_in
outputs::outputs-returns-in-None-clause-ok g t c = rw (sym c.callee_of.ensures ∙ ap option_copied c.in-None.is) (c.alone.ensures.ok)

pub outputs::listed-returns-in-None-clause-ok : goal.outputs::listed-returns-in-None-clause-ok
unfolding listed_in
outputs::listed-returns-in-None-clause-ok g t c = rw (sym c.callee_of.ensures ∙ ap option_copied c.in-None.is) (c.refused.ensures.ok)

pub outputs::outputs-returns-in-None-clause-err : goal.outputs::outputs-returns-in-None-clause-err
unfolding outputs_in
outputs::outputs-returns-in-None-clause-err g t c = rw (sym c.callee_of.ensures ∙ ap option_copied c.in-None.is) (c.alone.ensures.err)

pub outputs::listed-returns-in-None-clause-err : goal.outputs::listed-returns-in-None-clause-err
unfolding listed_in
outputs::listed-returns-in-None-clause-err g t c = rw (sym c.callee_of.ensures ∙ ap option_copied c.in-None.is) (c.refused.ensures.err)

pub assigning::assign_part-returns-in-Some-clause-err : goal.assigning::assign_part-returns-in-Some-clause-err
assigning::assign_part-returns-in-Some-clause-err g t c = rw c.in-Some.is (c.assign_places.ensures.err)

pub statements::evaluation-returns-clause-ok : goal.statements::evaluation-returns-clause-ok
unfolding evaluated
statements::evaluation-returns-clause-ok g t c = ok_more c.show_first.result _ _ (λ v w. after_went (outputs_in c.args.program.now (below c.args.program.now c.args.levels) c.args.frame 0 c.args.e.now) (λ vs. shown_first c.args.show (title c.args.program.now c.args.frame c.args.e.now) vs) (at c.args.memory.now (g.W.World.log c.args.world.now)) (at c.outputs.new.memory (g.W.World.log c.outputs.new.world)) (at c.outputs.new.memory (g.W.World.log c.show_first.new.world)) c.in_ok-values.values.items v (c.in_ok-values.ensures.ok) (c.show_first.ensures.keeps) w) (rw (c.as_slice.ensures.value) at (c.show_first.ensures.ok))

pub statements::evaluation-returns-clause-err : goal.statements::evaluation-returns-clause-err
unfolding evaluated
statements::evaluation-returns-clause-err g t c = λ x e. after_halts (outputs_in c.args.program.now (below c.args.program.now c.args.levels) c.args.frame 0 c.args.e.now) (λ vs. shown_first c.args.show (title c.args.program.now c.args.frame c.args.e.now) vs) (at c.args.memory.now (g.W.World.log c.args.world.now)) (at c.outputs.new.memory (g.W.World.log c.outputs.new.world)) (at c.outputs.new.memory (g.W.World.log c.show_first.new.world)) c.in_ok-values.values.items x (c.in_ok-values.ensures.ok) (c.show_first.ensures.keeps) (rw (c.as_slice.ensures.value) at (c.show_first.ensures.err x e))

pub sharing::range_ends-returns-in-None-clause-ok : goal.sharing::range_ends-returns-in-None-clause-ok
sharing::range_ends-returns-in-None-clause-ok g t c = rw c.in-None.is (c.inner_ends.ensures.ok)

pub sharing::range_ends-returns-in-None-clause-err : goal.sharing::range_ends-returns-in-None-clause-err
sharing::range_ends-returns-in-None-clause-err g t c = rw c.in-None.is (c.inner_ends.ensures.err)

pub expressions::value-returns-in-Apply-clause-ok : goal.expressions::value-returns-in-Apply-clause-ok
expressions::value-returns-in-Apply-clause-ok g t c = rw (value_nested c.args.program.now (below c.args.program.now c.args.levels) c.args.frame c.args.e.now c.in-Apply.is) (c.nested.ensures.ok)

pub expressions::value-returns-in-Apply-clause-err : goal.expressions::value-returns-in-Apply-clause-err
expressions::value-returns-in-Apply-clause-err g t c = rw (value_nested c.args.program.now (below c.args.program.now c.args.levels) c.args.frame c.args.e.now c.in-Apply.is) (c.nested.ensures.err)

pub statements::statement-returns-in-If-clause-ok : goal.statements::statement-returns-in-If-clause-ok
statements::statement-returns-in-If-clause-ok g t c = rw (stmt_nested c.args.program.now (below c.args.program.now c.args.levels) c.args.frame c.args.s.now c.in-If.is) (c.nested.ensures.ok)

pub statements::statement-returns-in-If-clause-err : goal.statements::statement-returns-in-If-clause-err
statements::statement-returns-in-If-clause-err g t c = rw (stmt_nested c.args.program.now (below c.args.program.now c.args.levels) c.args.frame c.args.s.now c.in-If.is) (c.nested.ensures.err)

pub operators::unary-returns-clause-ok : goal.operators::unary-returns-clause-ok
unfolding unary
operators::unary-returns-clause-ok g t c = ok_more c.operate_on_one.result _ _ (λ v w. after_went (value_in c.args.program.now (below c.args.program.now c.args.levels) c.args.frame c.args.a.now) (λ x. operator c.args.program.now c.args.frame.client c.args.place (unary_sign c.args.op) (x ∷ []) (unary_of c.args.program.now.mode c.args.op x)) (at c.args.memory.now (g.W.World.log c.args.world.now)) (at c.value.new.memory (g.W.World.log c.value.new.world)) (at c.operate_on_one.new.memory (g.W.World.log c.operate_on_one.new.world)) c.in_ok-x.x v (c.in_ok-x.ensures.ok) (c.operate_on_one.ensures.keeps) w) (c.operate_on_one.ensures.ok)

pub operators::unary-returns-clause-err : goal.operators::unary-returns-clause-err
unfolding unary
operators::unary-returns-clause-err g t c = λ x e. after_halts (value_in c.args.program.now (below c.args.program.now c.args.levels) c.args.frame c.args.a.now) (λ x. operator c.args.program.now c.args.frame.client c.args.place (unary_sign c.args.op) (x ∷ []) (unary_of c.args.program.now.mode c.args.op x)) (at c.args.memory.now (g.W.World.log c.args.world.now)) (at c.value.new.memory (g.W.World.log c.value.new.world)) (at c.operate_on_one.new.memory (g.W.World.log c.operate_on_one.new.world)) c.in_ok-x.x x (c.in_ok-x.ensures.ok) (c.operate_on_one.ensures.keeps) (c.operate_on_one.ensures.err x e)

pub calling::call_name-returns-in-None-clause-ok : goal.calling::call_name-returns-in-None-clause-ok
unfolding call_name
calling::call_name-returns-in-None-clause-ok g t c = rw (sym c.function_of.ensures ∙ c.in-None.is) (c.call_named.ensures.ok)

pub calling::call_name-returns-in-None-clause-err : goal.calling::call_name-returns-in-None-clause-err
unfolding call_name
calling::call_name-returns-in-None-clause-err g t c = rw (sym c.function_of.ensures ∙ c.in-None.is) (c.call_named.ensures.err)

pub calling::call_named-returns-in-Some-clause-ok : goal.calling::call_named-returns-in-Some-clause-ok
calling::call_named-returns-in-Some-clause-ok g t c = rw (sym c.call_door.ensures ∙ c.in-Some.is) (c.extra.ensures.ok)

pub calling::call_named-returns-in-Some-clause-err : goal.calling::call_named-returns-in-Some-clause-err
calling::call_named-returns-in-Some-clause-err g t c = rw (sym c.call_door.ensures ∙ c.in-Some.is) (c.extra.ensures.err)

pub calling::call_named-returns-in-None-clause-ok : goal.calling::call_named-returns-in-None-clause-ok
calling::call_named-returns-in-None-clause-ok g t c = rw (sym c.call_door.ensures ∙ c.in-None.is) (rw c.known_named-known.ensures at (c.call_known.ensures.ok))

pub calling::call_named-returns-in-None-clause-err : goal.calling::call_named-returns-in-None-clause-err
calling::call_named-returns-in-None-clause-err g t c = rw (sym c.call_door.ensures ∙ c.in-None.is) (rw c.known_named-known.ensures at (c.call_known.ensures.err))

pub operators::binary-returns-clause-ok : goal.operators::binary-returns-clause-ok
unfolding binary
operators::binary-returns-clause-ok g t c = ok_more c.operate_on_two.result _ _ (λ v w. after_went (value_in c.args.program.now (below c.args.program.now c.args.levels) c.args.frame c.args.a.now) (λ x. (value_in c.args.program.now (below c.args.program.now c.args.levels) c.args.frame c.args.b.now) >>= (λ y. operator c.args.program.now c.args.frame.client c.args.place (binary_sign c.args.op) (x ∷ y ∷ []) (binary_of c.args.program.now.mode c.args.op x y))) (at c.args.memory.now (g.W.World.log c.args.world.now)) (at c.value.new.memory (g.W.World.log c.value.new.world)) (at c.operate_on_two.new.memory (g.W.World.log c.operate_on_two.new.world)) c.in_ok-x.x v (c.in_ok-x.ensures.ok) (keeps_on (at c.value.new.memory (g.W.World.log c.value.new.world)) (at c.value-2.new.memory (g.W.World.log c.value-2.new.world)) (at c.operate_on_two.new.memory (g.W.World.log c.operate_on_two.new.world)) (c.value-2.ensures.keeps) (c.operate_on_two.ensures.keeps)) (after_went (value_in c.args.program.now (below c.args.program.now c.args.levels) c.args.frame c.args.b.now) (λ y. operator c.args.program.now c.args.frame.client c.args.place (binary_sign c.args.op) (c.in_ok-x.x ∷ y ∷ []) (binary_of c.args.program.now.mode c.args.op c.in_ok-x.x y)) (at c.value.new.memory (g.W.World.log c.value.new.world)) (at c.value-2.new.memory (g.W.World.log c.value-2.new.world)) (at c.operate_on_two.new.memory (g.W.World.log c.operate_on_two.new.world)) c.in_ok-y.y v (c.in_ok-y.ensures.ok) (c.operate_on_two.ensures.keeps) w)) (c.operate_on_two.ensures.ok)

pub operators::binary-returns-clause-err : goal.operators::binary-returns-clause-err
unfolding binary
operators::binary-returns-clause-err g t c = λ x e. after_halts (value_in c.args.program.now (below c.args.program.now c.args.levels) c.args.frame c.args.a.now) (λ x. (value_in c.args.program.now (below c.args.program.now c.args.levels) c.args.frame c.args.b.now) >>= (λ y. operator c.args.program.now c.args.frame.client c.args.place (binary_sign c.args.op) (x ∷ y ∷ []) (binary_of c.args.program.now.mode c.args.op x y))) (at c.args.memory.now (g.W.World.log c.args.world.now)) (at c.value.new.memory (g.W.World.log c.value.new.world)) (at c.operate_on_two.new.memory (g.W.World.log c.operate_on_two.new.world)) c.in_ok-x.x x (c.in_ok-x.ensures.ok) (keeps_on (at c.value.new.memory (g.W.World.log c.value.new.world)) (at c.value-2.new.memory (g.W.World.log c.value-2.new.world)) (at c.operate_on_two.new.memory (g.W.World.log c.operate_on_two.new.world)) (c.value-2.ensures.keeps) (c.operate_on_two.ensures.keeps)) (after_halts (value_in c.args.program.now (below c.args.program.now c.args.levels) c.args.frame c.args.b.now) (λ y. operator c.args.program.now c.args.frame.client c.args.place (binary_sign c.args.op) (c.in_ok-x.x ∷ y ∷ []) (binary_of c.args.program.now.mode c.args.op c.in_ok-x.x y)) (at c.value.new.memory (g.W.World.log c.value.new.world)) (at c.value-2.new.memory (g.W.World.log c.value-2.new.world)) (at c.operate_on_two.new.memory (g.W.World.log c.operate_on_two.new.world)) c.in_ok-y.y x (c.in_ok-y.ensures.ok) (c.operate_on_two.ensures.keeps) (c.operate_on_two.ensures.err x e))
