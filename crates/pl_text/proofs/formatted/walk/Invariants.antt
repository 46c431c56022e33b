use Rattle.std.proofs.Common.{◌≡◌, ◌≤◌, ℕ, List, ◌++◌, drop, length}
use Rattle.pl_text.specs.declared.items.Item.{Item}
use Rattle.pl_text.specs.Formatted.{walk}
use Rattle.pl_text.proofs.formatted.walk.Given as goal

-- the text so far and what the parts that are left make of the items that are left are all
abbrev pub invariant-loop-part : goal.invariant-loop-part
invariant-loop-part l = record {
  within : l.at ≤ length l.items;
  all : (next : List Item → List ℕ) → l.text.items ++ walk (drop l.part-index l.parts) (drop l.at l.items) next ≡ l.fn.text.items ++ walk l.parts (drop l.from l.items) next;
}
