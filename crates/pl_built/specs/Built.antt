-- The laws of built programs: their loops over workers are of the form of which the laws of loops speak, and a run asks of no others,
-- from workspaces as long as their scopes, nor of extras that the program's table doesn't have.
use Rattle.std.specs.Prelude.{◌≡◌, ◌⊎◌, ℕ, zero, suc, nat_lt, List, [], ◌∷◌, length, map, slice_get, Bool, true, Option, Some, None, if◌then◌else◌}
use Rattle.pl_base.specs.declared.choice.Choice.{Choice}
use Rattle.pl_syntax.specs.declared.expr.Expr.{Expr}
use Rattle.pl_syntax.specs.declared.stmt.Arm.{Arm, out-Arm}
use Rattle.pl_syntax.specs.declared.stmt.Stmt.{Stmt, out-Stmt}
use Rattle.pl_syntax.specs.declared.stmt.StmtKind.{StmtKind, out-StmtKind}
use Rattle.pl_syntax.specs.declared.stmt.StmtKind.TheOpen.{StmtKind-F}
use Rattle.pl_syntax.specs.declared.stmt.Function.{Function}
use Rattle.pl_resolve.specs.declared.resolved.Resolved.{Resolved}
use Rattle.pl_meaning.specs.Logs.{Workspace, LoopQuestion, Asked, OfLoop, OfExtra, Rules}
use Rattle.pl_meaning.specs.Forms.{is_form}
use Rattle.pl_meaning.specs.Loops.{body_frame}
use Rattle.pl_meaning.specs.Names.{names_in}
use Rattle.pl_meaning.specs.Running.{Asks}
use Rattle.pl_meaning.specs.Runs.{Run}
use Rattle.pl_unbuilt.specs.Nodes.{is_between}
use Rattle.pl_unbuilt.specs.Unbuilt.{unbuilt_of}

-- one of a list
abbrev pub IsOneOf : {A : Type 0} → List A → A → Type 0
IsOneOf [] x = ⊥
IsOneOf (y ∷ ys) x = (y ≡ x) ⊎ IsOneOf ys x

abbrev pub guarded : Arm → List Stmt
guarded arm = (out-Arm arm).body

-- the blocks of a statement: what it guards, repeats or tries
abbrev pub blocks_at : StmtKind-F StmtKind Arm Stmt → List (List Stmt)
blocks_at (StmtKind-F.If arms last) = last ∷ map guarded arms
blocks_at (StmtKind-F.While test body) = body ∷ []
blocks_at (StmtKind-F.For index range body) = body ∷ []
blocks_at (StmtKind-F.Parfor index range most body) = body ∷ []
blocks_at (StmtKind-F.Switch value cases last) = last ∷ map guarded cases
blocks_at (StmtKind-F.Try body handler) = body ∷ handler ∷ []
blocks_at (StmtKind-F.Spmd workers body) = body ∷ []
blocks_at kind = []

abbrev pub kind_of : Stmt → StmtKind-F StmtKind Arm Stmt
kind_of s = out-StmtKind (out-Stmt s).kind

-- a statement stands in a body: it is one of its statements, or stands in a block of one of them
pub data StandsIn : List Stmt → Stmt → Type 0 where
  directly : {body : List Stmt} {s : Stmt} → IsOneOf body s → StandsIn body s
  within : {body : List Stmt} {s : Stmt} (outer : Stmt) (block : List Stmt) → IsOneOf body outer → IsOneOf (blocks_at (kind_of outer)) block → StandsIn block s → StandsIn body s

-- the statements of a scope: those of the script, and then those of each function
abbrev pub body_of : Option Function → List Stmt
body_of None = []
body_of (Some g) = g.body

abbrev pub statements_of : Resolved → ℕ → List Stmt
statements_of program zero = program.program.body
statements_of program (suc i) = body_of (slice_get program.program.functions i)

-- in a program of which nothing isn't built, each loop over workers, whatever question it asks, has a body of the form,
-- no bound on its workers, and a range from one number to another
abbrev pub BuiltLaw : Type 0
BuiltLaw = (program : Resolved)
    → unbuilt_of program ≡ None
    → (q : LoopQuestion) (s : Stmt) (range : Expr) (most : Option Expr)
    → StandsIn (statements_of program q.scope) s
    → kind_of s ≡ StmtKind-F.Parfor q.index range most q.body
    → (is_form program (body_frame q) q.index q.body ≡ true) × (most ≡ None) × (is_between range ≡ true)

-- a question of a loop whose body is of the form, or of an extra that the program's table has
abbrev pub is_built_question : Resolved → Asked → Bool
is_built_question program (OfLoop q) = is_form program (body_frame q) q.index q.body
is_built_question program (OfExtra number operands outputs) = nat_lt number (length program.extras)

-- a run of such a program, by whatever rules under whatever choices, stops at no other question
abbrev pub AskedLaw : Type 0
AskedLaw = (program : Resolved)
    → unbuilt_of program ≡ None
    → (start : Workspace) (turns depth : ℕ) (rules : Rules) (choices : List Choice) (q : Asked) (env : Workspace)
    → (Run program start turns depth rules choices).ending ≡ Asks q env
    → is_built_question program q ≡ true

-- and where it began in a workspace with a slot for each name of the script, the question of a loop comes from a workspace with a
-- slot for each name of the loop's scope
abbrev pub SlotsLaw : Type 0
SlotsLaw = (program : Resolved)
    → unbuilt_of program ≡ None
    → (start : Workspace) (turns depth : ℕ) (rules : Rules) (choices : List Choice)
    → length start ≡ length (names_in program 0)
    → (q : LoopQuestion) (env : Workspace)
    → (Run program start turns depth rules choices).ending ≡ Asks (OfLoop q) env
    → length env ≡ length (names_in program q.scope)

-- the same rules, but that they answer such questions alone
abbrev pub built_rules : Resolved → Rules → Rules
built_rules program rules = record { kept = rules.kept; reply = λ kept q env choices. if is_built_question program q then rules.reply kept q env choices else None }

-- and the run is the same by those rules: what its choices answer are such questions
abbrev pub RulesLaw : Type 0
RulesLaw = (program : Resolved)
    → unbuilt_of program ≡ None
    → (start : Workspace) (turns depth : ℕ) (rules : Rules) (choices : List Choice)
    → Run program start turns depth rules choices ≡ Run program start turns depth (built_rules program rules) choices
