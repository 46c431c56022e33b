use Rattle.std.proofs.Common.{refl}
use Rattle.std.proofs.lemmas.Str.Ascii.{trim_ascii_is}
use Rattle.pl_cases.proofs.bytes.trimmed.Goals as goal

-- what std's call gives, as a function of the line
pub returns : goal.returns
returns c = trim_ascii_is c.args.line.now c.trim_ascii.result.now _ refl c.trim_ascii.ensures.value
