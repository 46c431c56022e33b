-- What is read of an expression is read of its parts.
use Rattle.std.proofs.Common.{◌≡◌, ◌∙◌, List, map, Some, None, sym, ap}
use Rattle.std.specs.Prelude.{option_map}
use Rattle.pl_syntax.specs.declared.expr.Name.{Name}
use Rattle.pl_syntax.specs.declared.expr.Expr.{Expr, out-Expr, fold_out-Expr}
use Rattle.pl_syntax.specs.declared.expr.ExprKind.{ExprKind, out-ExprKind, roll-ExprKind, fold-ExprKind, roll-out-ExprKind, fold-roll-ExprKind}
use Rattle.pl_syntax.specs.declared.expr.ExprKind.TheOpen.{ExprKind-F}
use Rattle.pl_resolve.specs.declared.resolved.Resolved.{Resolved}
use Rattle.pl_meaning.specs.declared.frame.Frame.{Frame}
use Rattle.pl_meaning.specs.Forms.{Read, read_kind, read_layer, read_of}

module _ (program : Resolved) (f : Frame) (index : Name) (written : List Name) where
  -- a layer with what is read of each part
  abbrev pub parts : ExprKind-F ExprKind Expr → ExprKind-F Read Read
  parts (ExprKind-F.Number z) = ExprKind-F.Number z
  parts (ExprKind-F.Chars t) = ExprKind-F.Chars t
  parts (ExprKind-F.Var n) = ExprKind-F.Var n
  parts (ExprKind-F.Apply n es) = ExprKind-F.Apply n (map (read_of program f index written) es)
  parts (ExprKind-F.Brace n b es) = ExprKind-F.Brace n (read_of program f index written b) (option_map (map (read_of program f index written)) es)
  parts (ExprKind-F.Unary op a) = ExprKind-F.Unary op (read_of program f index written a)
  parts (ExprKind-F.Binary op a b) = ExprKind-F.Binary op (read_of program f index written a) (read_of program f index written b)
  parts (ExprKind-F.Range a s b) = ExprKind-F.Range (read_of program f index written a) (option_map (read_of program f index written) s) (read_of program f index written b)
  parts (ExprKind-F.Rows rows) = ExprKind-F.Rows (map (map (read_of program f index written)) rows)
  parts (ExprKind-F.Func n) = ExprKind-F.Func n
  parts ExprKind-F.End = ExprKind-F.End
  parts ExprKind-F.Colon = ExprKind-F.Colon
  parts (ExprKind-F.StateOf a) = ExprKind-F.StateOf (read_of program f index written a)

  layered : (k : ExprKind-F ExprKind Expr) → fold-ExprKind Read Read (read_kind program f index written) (read_layer program f) (roll-ExprKind k) ≡ read_kind program f index written (parts k)
  layered (ExprKind-F.Number z) = fold-roll-ExprKind Read Read (read_kind program f index written) (read_layer program f) (ExprKind-F.Number z)
  layered (ExprKind-F.Chars t) = fold-roll-ExprKind Read Read (read_kind program f index written) (read_layer program f) (ExprKind-F.Chars t)
  layered (ExprKind-F.Var n) = fold-roll-ExprKind Read Read (read_kind program f index written) (read_layer program f) (ExprKind-F.Var n)
  layered (ExprKind-F.Apply n es) = fold-roll-ExprKind Read Read (read_kind program f index written) (read_layer program f) (ExprKind-F.Apply n es)
  layered (ExprKind-F.Brace n b es) = fold-roll-ExprKind Read Read (read_kind program f index written) (read_layer program f) (ExprKind-F.Brace n b es)
  layered (ExprKind-F.Unary op a) = fold-roll-ExprKind Read Read (read_kind program f index written) (read_layer program f) (ExprKind-F.Unary op a)
  layered (ExprKind-F.Binary op a b) = fold-roll-ExprKind Read Read (read_kind program f index written) (read_layer program f) (ExprKind-F.Binary op a b)
  layered (ExprKind-F.Range a None b) = fold-roll-ExprKind Read Read (read_kind program f index written) (read_layer program f) (ExprKind-F.Range a None b)
  layered (ExprKind-F.Range a (Some s) b) = fold-roll-ExprKind Read Read (read_kind program f index written) (read_layer program f) (ExprKind-F.Range a (Some s) b)
  layered (ExprKind-F.Rows rows) = fold-roll-ExprKind Read Read (read_kind program f index written) (read_layer program f) (ExprKind-F.Rows rows)
  layered (ExprKind-F.Func n) = fold-roll-ExprKind Read Read (read_kind program f index written) (read_layer program f) (ExprKind-F.Func n)
  layered ExprKind-F.End = fold-roll-ExprKind Read Read (read_kind program f index written) (read_layer program f) ExprKind-F.End
  layered ExprKind-F.Colon = fold-roll-ExprKind Read Read (read_kind program f index written) (read_layer program f) ExprKind-F.Colon
  layered (ExprKind-F.StateOf a) = fold-roll-ExprKind Read Read (read_kind program f index written) (read_layer program f) (ExprKind-F.StateOf a)

  pub read_parts : (e : Expr) → read_of program f index written e ≡ read_kind program f index written (parts (out-ExprKind (out-Expr e).kind))
  read_parts e =
      fold_out-Expr Read Read (read_kind program f index written) (read_layer program f) e
      ∙ ap (fold-ExprKind Read Read (read_kind program f index written) (read_layer program f)) (sym (roll-out-ExprKind e.kind))
      ∙ layered (out-ExprKind (out-Expr e).kind)
