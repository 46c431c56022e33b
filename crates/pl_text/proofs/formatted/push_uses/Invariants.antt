use Rattle.std.proofs.Common.{◌≡◌, ◌<◌, ◌-◌, ◌++◌, drop, length}
use Rattle.pl_text.specs.Formatted.{uses}
use Rattle.pl_text.proofs.formatted.push_uses.Given as goal

-- the text so far and what further uses make of the items that are left are all
abbrev pub invariant-loop-use : goal.invariant-loop-use
invariant-loop-use l = record {
  left : l.at < length l.items;
  all : l.text.items ++ uses (length l.items - l._use) l.parts (drop l.at l.items) ≡ l.fn.text.items ++ uses (length l.items) l.parts l.items;
}
