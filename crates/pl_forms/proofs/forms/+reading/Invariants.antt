-- All have the form where those to come do.
use Rattle.std.proofs.Common.{◌≡◌, map, drop}
use Rattle.std.specs.List.{list_all}
use Rattle.pl_meaning.specs.Parts.{written_in}
use Rattle.pl_meaning.specs.Forms.{all_fit, read_of}
use Rattle.pl_forms.proofs.forms.+reading.Given as goal

abbrev pub invariant-all_fit-loop-e : goal.invariant-all_fit-loop-e
invariant-all_fit-loop-e l = all_fit (map (read_of l.body.program.now l.body.frame l.body.index.now (written_in l.body.items.now)) (drop l.e-index l.e-items)) ≡ all_fit (map (read_of l.body.program.now l.body.frame l.body.index.now (written_in l.body.items.now)) l.list)

abbrev pub invariant-fits-loop-row : goal.invariant-fits-loop-row
invariant-fits-loop-row l = list_all all_fit (map (map (read_of l.body.program.now l.body.frame l.body.index.now (written_in l.body.items.now))) (drop l.row-index l.row-items)) ≡ list_all all_fit (map (map (read_of l.body.program.now l.body.frame l.body.index.now (written_in l.body.items.now))) l.row-items)
