use Rattle.pl_source.proofs.reading.program.Goals as goal

-- tokens of a source are ranges of it
pub parse-requires-clause-ranges : goal.parse-requires-clause-ranges
parse-requires-clause-ranges c = c.token_ranges.ensures c.args.source.now c.args.tokens.now c.requires.lexed
