use Rattle.std.proofs.Common.{◌≡◌, drop}
use Rattle.pl_text.specs.Pattern.{parts_of, found}
use Rattle.pl_text.specs.declared.pattern.Half.TheVariants.{Outside}
use Rattle.pl_text.proofs.pattern.parse.Given as goal

-- the parts so far and those of the bytes that are left are all
abbrev pub invariant-loop-byte : goal.invariant-loop-byte
invariant-loop-byte l = found l.parts.items (parts_of l.half (drop l.byte-index l.pattern)) ≡ parts_of Outside l.pattern
