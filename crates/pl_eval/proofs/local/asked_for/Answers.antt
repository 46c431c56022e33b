use Rattle.std.proofs.Common.{◌+◌, ◌<◌, [], ◌∷◌, ◌++◌, length, drop, refl, arith}
use Rattle.pl_meaning.specs.Promises.{at}
use Rattle.pl_meaning.specs.Parts.{results_from, output as output_part}
use Rattle.pl_eval.proofs.Chains.{comes_after, comes_halts, comes_next, first_halts, keeps_self, same_halt}
use Rattle.pl_eval.proofs.local.asked_for.Goals as goal

pub returns-in_err-v-clause-err : goal.returns-in_err-v-clause-err
returns-in_err-v-clause-err c = λ x e l.
    let within : c.loop-name.name-index < length c.args.names.now = omega (arith) in
    let item = comes_next (results_from c.args.program.now c.args.frame c.args.place c.loop-name.done.items) (results_from c.args.program.now c.args.frame c.args.place [] c.args.names.now) c.args.names.now c.loop-name.name-index c.name-item.result (at c.args.memory.now l) (at c.args.memory.now l) (c.loop-name.invariant l) within c.name-item.is in
    rw (same_halt e c.from_residual.ensures.1) (comes_halts (results_from c.args.program.now c.args.frame c.args.place [] c.args.names.now) (results_from c.args.program.now c.args.frame c.args.place c.loop-name.done.items (c.name-item.result ∷ drop (c.loop-name.name-index + 1) c.args.names.now)) (at c.args.memory.now l) (at c.args.memory.now l) (at c.args.memory.now l) _ item (keeps_self (at c.args.memory.now l)) (first_halts (output_part c.args.program.now c.args.frame c.args.place c.name-item.result) (λ v. results_from c.args.program.now c.args.frame c.args.place (c.loop-name.done.items ++ v ∷ []) (drop (c.loop-name.name-index + 1) c.args.names.now)) (at c.args.memory.now l) (at c.args.memory.now l) _ (c.in_err-v.ensures.err _ refl l)))

pub loop-name-preserved : goal.loop-name-preserved
loop-name-preserved c = λ m.
    let within : c.loop-name.name-index < length c.args.names.now = omega (arith) in
    let item = comes_next (results_from c.args.program.now c.args.frame c.args.place c.loop-name.done.items) (results_from c.args.program.now c.args.frame c.args.place [] c.args.names.now) c.args.names.now c.loop-name.name-index c.name-item.result (at c.args.memory.now m) (at c.args.memory.now m) (c.loop-name.invariant m) within c.name-item.is in
    let one = comes_after (results_from c.args.program.now c.args.frame c.args.place [] c.args.names.now) (output_part c.args.program.now c.args.frame c.args.place c.name-item.result) (λ v. results_from c.args.program.now c.args.frame c.args.place (c.loop-name.done.items ++ v ∷ []) (drop (c.loop-name.name-index + 1) c.args.names.now)) c.in_ok-v.v (at c.args.memory.now m) (at c.args.memory.now m) (at c.args.memory.now m) item (c.in_ok-v.ensures.ok m) (keeps_self (at c.args.memory.now m)) in
    rw c.in_ok-push.ensures.items one
