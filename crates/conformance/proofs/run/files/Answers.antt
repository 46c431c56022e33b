use Rattle.std.proofs.Common.{ℕ, List, map, ap, ◌∙◌}
use Rattle.pl_io.specs.Named.{at_name}
use Rattle.pl_io.specs.declared.mem_files.MemFiles.{MemFiles}
use Rattle.conformance.proofs.Named.{at_name_map}
use Rattle.conformance.proofs.run.files.Goals as goal

-- the names, the bytes and the calls that are to fail are copies
pub returns : goal.returns
returns c = (
  λ name.
      c.new.ensures.told name
      ∙ at_name_map (λ v. v.items) c.in_ok-copies.field-0.items c.in_ok-bytes.field-0.items name
      ∙ ap (λ (ns : List (List ℕ)). at_name ns (map (λ v. v.items) c.in_ok-bytes.field-0.items) name) (c.in_ok-copies.ensures ∙ c.items.ensures)
      ∙ ap (λ (bs : List (List ℕ)). at_name c.args.given.now.names bs name) (c.in_ok-bytes.ensures ∙ c.items-2.ensures),
  ap (λ (f : MemFiles). f.fails.items) c.new.ensures.fresh ∙ c.in_ok-from_slice.ensures.items ∙ c.items-3.ensures,
  ap (λ (f : MemFiles). f.calls) c.new.ensures.fresh,
  ap (λ (f : MemFiles). f.faults) c.new.ensures.fresh,
)
