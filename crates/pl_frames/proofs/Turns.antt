-- What a further part with a value makes of a statement, in two steps.
use Rattle.std.proofs.Common.{◌≡◌, List, refl, ◌∙◌}
use Rattle.pl_syntax.specs.declared.expr.Expr.{Expr}
use Rattle.pl_syntax.specs.declared.stmt.Stmt.{Stmt}
use Rattle.pl_grammar.specs.declared.owner.Owner.{Owner}
use Rattle.pl_grammar.specs.declared.owner.Owner.TheVariants as own
use Rattle.pl_grammar.specs.Trees.{with_value}
use Rattle.pl_frames.specs.Parts.{turn_of, turned}

turned_value : (o : Owner) (ss : List Stmt) (e : Expr) → turned (turn_of o) ss e ≡ with_value o ss e
turned_value (own.If arms t) ss e = refl
turned_value (own.Switch v) ss e = refl
turned_value (own.Case v arms t) ss e = refl
turned_value (own.Else arms) ss e = refl
turned_value (own.While t) ss e = refl
turned_value (own.For n r) ss e = refl
turned_value (own.Parfor n r w) ss e = refl
turned_value (own.Otherwise v arms) ss e = refl
turned_value own.Try ss e = refl
turned_value (own.Catch body) ss e = refl
turned_value (own.Spmd w) ss e = refl

-- both steps are the one
pub turned_is : (made o : Owner) (ss : List Stmt) (e : Expr) → made ≡ turned (turn_of o) ss e → made ≡ with_value o ss e
turned_is made o ss e h = h ∙ turned_value o ss e
