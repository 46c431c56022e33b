-- Int64 numbers and chars are kept.
use Rattle.std.proofs.Common.{Ok, ap, sym, ◌∙◌}
use Rattle.std.specs.List.{list_any}
use Rattle.pl_array.specs.Joining.{is_no_char}
use Rattle.pl_array.proofs.Kept.{kept_array}
use Rattle.pl_array.proofs.conversion.convert.Goals as goal

pub returns-in_ok-recast-in_default : goal.returns-in_ok-recast-in_default
returns-in_ok-recast-in_default c =
    let chars = c.if-has_no_char.ensures ∙ ap (list_any (is_no_char c.args.class)) c.cells.ensures.cells in
    record {
      ok = kept_array c.args.a.now c.args.class c.in_default.not-Logical chars ∙ ap Ok (sym c.in_ok-recast-in_default.ensures);
      err = λ kind p. absurd (cc);
    }
