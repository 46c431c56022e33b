-- All statements are items where those to come are.
use Rattle.std.proofs.Common.{◌≡◌, drop}
use Rattle.std.specs.List.{list_all}
use Rattle.pl_meaning.specs.Parts.{written_in}
use Rattle.pl_meaning.specs.Forms.{is_item}
use Rattle.pl_forms.proofs.forms.all_items.Given as goal

abbrev pub invariant-loop-s : goal.invariant-loop-s
invariant-loop-s l = list_all (is_item l.body.program.now l.body.frame l.body.index.now (written_in l.body.items.now)) (drop l.s-index l.s-items) ≡ list_all (is_item l.body.program.now l.body.frame l.body.index.now (written_in l.body.items.now)) l.body.items.now
