use Rattle.source_tests.proofs.parse.answer.Goals as goal

pub parse-requires-clause-ranges : goal.parse-requires-clause-ranges
parse-requires-clause-ranges c = rw c.deref.ensures.value (c.token_ranges.ensures c.args.source.now c.in-Ok.tokens.items c.in-Ok.ensures.found)
