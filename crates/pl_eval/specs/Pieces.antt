-- Pieces of the definition of a run, each with the name of the function that carries it out.
use Rattle.std.specs.Prelude.{List, [], ◌∷◌, Option, Some, None, nat_lt, length, ◌||◌, if◌then◌else◌}
use Rattle.pl_base.specs.declared.errors.Place.{Place}
use Rattle.pl_base.specs.declared.errors.ErrKind.TheVariants.{ArgCount}
use Rattle.pl_syntax.specs.declared.expr.Name.{Name}
use Rattle.pl_syntax.specs.declared.expr.Expr.{Expr}
use Rattle.pl_syntax.specs.declared.stmt.Function.{Function}
use Rattle.pl_syntax.specs.declared.stmt.Stmt.{Stmt, out-Stmt}
use Rattle.pl_syntax.specs.declared.stmt.StmtKind.{out-StmtKind}
use Rattle.pl_resolve.specs.declared.resolved.Resolved.{Resolved}
use Rattle.pl_values.specs.declared.value.Value.{Value}
use Rattle.pl_meaning.specs.declared.frame.Frame.{Frame}
use Rattle.pl_meaning.specs.Running.{Running, pure, ◌>>=◌}
use Rattle.pl_meaning.specs.Accesses.{fail, take_turn}
use Rattle.pl_meaning.specs.Parts.{Level, Values, enter, value_in, called, applied, first_of, body_of, unbuilt, written_by}

-- a call without arguments that is used as a value
abbrev pub called_value : Resolved → Option Level → Frame → Place → Name → Running Value
called_value program l f place n = called program l f place n 1 [] >>= (λ vs. first_of n.place vs)

-- a call that is used as a value
abbrev pub applied_value : Resolved → Level → Frame → Name → List Expr → Running Value
applied_value program d f n es = applied program d f n 1 es >>= (λ vs. first_of n.place vs)

-- an expression that is no call, as the one output
abbrev pub lone_value : Resolved → Option Level → Frame → Expr → Running (List Value)
lone_value program l f e = value_in program l f e >>= (λ v. pure (v ∷ []))

-- the same where outputs are listed
abbrev pub refused_value : Resolved → Option Level → Frame → Expr → Running (List Value)
refused_value program l f e = value_in program l f e >>= (λ v. fail ArgCount e.place)

-- a function's body a level down
abbrev pub entered_body : Resolved → Option Level → Frame → Place → Function → List Value → Running (List Value)
entered_body program l f place g vs = enter l place (λ d. body_of program d f place g vs)

-- a function behind its counts: a turn, and then the body
abbrev pub begun : Resolved → Option Level → Frame → Place → Function → List Value → Running (List Value)
begun program l f place g vs = take_turn place >>= (λ u. entered_body program l f place g vs)

-- a function: its counts, and then the rest
abbrev pub counted_call : Resolved → Option Level → Frame → Place → Function → List Value → Running (List Value)
counted_call program l f place g vs = if nat_lt (length g.params) (length vs) || nat_lt (length g.outs) f.wanted then fail ArgCount place else begun program l f place g vs

-- both ends of a range, the left one first
abbrev pub both_ends : Values → Frame → Expr → Expr → Running (Value × Value)
both_ends value f a b = value f a >>= (λ x. value f b >>= (λ y. pure (x, y)))

-- the same, a level down
abbrev pub inner_ends : Option Level → Frame → Place → Expr → Expr → Running (Value × Value)
inner_ends l f place a b = enter l place (λ d. both_ends d.value f a b)

-- the two ends of a range with perhaps a step
abbrev pub range_ends : Option Level → Frame → Place → Expr → Option Expr → Expr → Running (Value × Value)
range_ends l f place a None b = inner_ends l f place a b
range_ends l f place a (Some w) b = unbuilt place

-- the variable of which a statement writes a part, if it does
abbrev pub written_part : Stmt → List Name
written_part s = written_by (out-StmtKind (out-Stmt s).kind)
