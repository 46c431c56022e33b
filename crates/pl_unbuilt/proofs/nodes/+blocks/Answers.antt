use Rattle.std.proofs.Common.{◌++◌, ◌∙◌, sym, ap}
use Rattle.pl_unbuilt.specs.Nodes.{of_expr, of_arms, of_block, of_workers}
use Rattle.pl_unbuilt.proofs.Shapes.{then_more, at_while, at_switch, at_try, at_parfor, form_fits}
use Rattle.pl_unbuilt.proofs.nodes.+blocks.Goals as goal

pub add_stmt-returns-in_ok-add_block-in-While : goal.add_stmt-returns-in_ok-add_block-in-While
add_stmt-returns-in_ok-add_block-in-While t c =
    then_more _ _ _ c.in_ok-add_expr-in-While.ensures c.in_ok-add_block-in-While.ensures
    ∙ ap (λ l. c.args.out.now.items ++ l) (sym (at_while c.args.program.now c.args.frame c.args.s.now c.in-While.test c.in-While.body c.in-While.is))

pub add_stmt-returns-in_ok-add_block-in-Switch : goal.add_stmt-returns-in_ok-add_block-in-Switch
add_stmt-returns-in_ok-add_block-in-Switch t c =
    then_more c.args.out.now.items (of_expr c.in-Switch.value) (of_arms c.args.program.now c.args.frame c.in-Switch.cases ++ of_block c.args.program.now c.args.frame c.in-Switch.last) c.in_ok-add_expr-in-Switch.ensures (then_more c.add_expr-in-Switch.new.out.items (of_arms c.args.program.now c.args.frame c.in-Switch.cases) (of_block c.args.program.now c.args.frame c.in-Switch.last) c.in_ok-add_arms-in-Switch.ensures c.in_ok-add_block-in-Switch.ensures)
    ∙ ap (λ l. c.args.out.now.items ++ l) (sym (at_switch c.args.program.now c.args.frame c.args.s.now c.in-Switch.value c.in-Switch.cases c.in-Switch.last c.in-Switch.is))

pub add_stmt-returns-in_ok-add_block-in-Try-2 : goal.add_stmt-returns-in_ok-add_block-in-Try-2
add_stmt-returns-in_ok-add_block-in-Try-2 t c =
    then_more _ _ _ c.in_ok-add_block-in-Try.ensures c.in_ok-add_block-in-Try-2.ensures
    ∙ ap (λ l. c.args.out.now.items ++ l) (sym (at_try c.args.program.now c.args.frame c.args.s.now c.in-Try.body c.in-Try.handler c.in-Try.is))

pub add_stmt-returns-in_ok-add_workers-in-Parfor : goal.add_stmt-returns-in_ok-add_workers-in-Parfor
add_stmt-returns-in_ok-add_workers-in-Parfor t c =
    c.in_ok-add_workers-in-Parfor.ensures
    ∙ ap (λ b. c.args.out.now.items ++ of_workers c.in-Parfor.range c.in-Parfor.most b c.args.s.now.place) (c.in_ok-fits-in-Parfor.ensures ∙ sym (form_fits c.args.program.now c.args.frame c.in-Parfor.index c.in-Parfor.body))
    ∙ ap (λ l. c.args.out.now.items ++ l) (sym (at_parfor c.args.program.now c.args.frame c.args.s.now c.in-Parfor.index c.in-Parfor.range c.in-Parfor.most c.in-Parfor.body c.in-Parfor.is))
