-- What each node of a tree comes to.
use Rattle.std.specs.Prelude.{nat_lt, ◌||◌, if◌then◌else◌}
use Rattle.std.proofs.Common.{◌≡◌, ◌≤◌, ◌⊎◌, inl, inr, Bool, false, ℕ, List, length, slice_get, Option, Some, None, refl, ap, ◌∙◌}
use Rattle.std.proofs.lemmas.Option.{slice_get_past}
use Rattle.pl_base.specs.declared.errors.Place.{Place}
use Rattle.pl_base.specs.declared.errors.ErrKind.TheVariants.{NoValue, ArgCount}
use Rattle.pl_syntax.specs.declared.stmt.Function.{Function}
use Rattle.pl_values.specs.declared.value.Value.{Value}
use Rattle.pl_meaning.specs.Accesses.{fail}
use Rattle.pl_eval.specs.Pieces.{counted_call, begun, range_ends}
use Rattle.pl_syntax.specs.declared.expr.Name.{Name}
use Rattle.pl_syntax.specs.declared.expr.Un.{Un}
use Rattle.pl_syntax.specs.declared.expr.Bin.{Bin}
use Rattle.pl_syntax.specs.declared.expr.Expr.{Expr}
use Rattle.pl_syntax.specs.declared.expr.ExprKind.{out-ExprKind}
use Rattle.pl_syntax.specs.declared.expr.ExprKind as expr
use Rattle.pl_syntax.specs.declared.expr.ExprKind.TheOpen.{ExprKind-F}
use Rattle.pl_syntax.specs.declared.expr.ExprKind.TheVariants.{outs-Chars, outs-Var, outs-Apply, outs-Brace, outs-Unary, outs-Binary, outs-Range, outs-Rows, outs-Func, outs-End, outs-StateOf}
use Rattle.pl_syntax.specs.declared.stmt.Stmt.{Stmt}
use Rattle.pl_syntax.specs.declared.stmt.StmtKind.{out-StmtKind}
use Rattle.pl_syntax.specs.declared.stmt.StmtKind as stmt
use Rattle.pl_syntax.specs.declared.stmt.StmtKind.TheVariants.{outs-Eval, outs-Assign, outs-AssignList, outs-Delete, outs-If, outs-While, outs-For, outs-Parfor, outs-Switch, outs-Try, outs-Spmd}
use Rattle.pl_syntax.specs.declared.stmt.Arm.{Arm}
use Rattle.pl_syntax.specs.declared.stmt.Target.{Target}
use Rattle.pl_resolve.specs.declared.resolved.Resolved.{Resolved}
use Rattle.pl_meaning.specs.declared.frame.Frame.{Frame}
use Rattle.pl_meaning.specs.Running.{attempt, pure}
use Rattle.pl_operators.specs.Bracketing.{chars_of}
use Rattle.pl_meaning.specs.Names.{slot_of}
use Rattle.pl_meaning.specs.Parts.{Level, call_in, entered, frame_of, enter, value_in, value_of, variable_or_call, compound, compound_of, index_or_call, unary, operated, range, bracket, handle, end_word, stmt_in, stmt_at, evaluated, assignment, list_assignment, deletion, compound_stmt, compound_at, branches, looped, columned, cases, divided, ends_at, ends_in}

pub value_var : (program : Resolved) (l : Option Level) (f : Frame) (e : Expr) (n : Name) → e.kind ≡ expr.Var n → value_in program l f e ≡ variable_or_call program l f e.place n (slot_of program f n.text)
unfolding value_in
value_var program l f e n is = ap (value_of program l f e e.place) (ap out-ExprKind is ∙ outs-Var n)

pub value_chars : (program : Resolved) (l : Option Level) (f : Frame) (e : Expr) (t : List ℕ) → e.kind ≡ expr.Chars t → value_in program l f e ≡ pure (chars_of t)
unfolding value_in
value_chars program l f e t is = ap (value_of program l f e e.place) (ap out-ExprKind is ∙ outs-Chars t)

pub value_apply : (program : Resolved) (l : Option Level) (f : Frame) (e : Expr) (n : Name) (es : List Expr) → e.kind ≡ expr.Apply n es → value_in program l f e ≡ enter l e.place (λ d. compound program d f e)
unfolding value_in
value_apply program l f e n es is = ap (value_of program l f e e.place) (ap out-ExprKind is ∙ outs-Apply n es)

pub value_brace : (program : Resolved) (l : Option Level) (f : Frame) (e : Expr) (n : Name) (b : Expr) (es : Option (List Expr)) → e.kind ≡ expr.Brace n b es → value_in program l f e ≡ enter l e.place (λ d. compound program d f e)
unfolding value_in
value_brace program l f e n b es is = ap (value_of program l f e e.place) (ap out-ExprKind is ∙ outs-Brace n b es)

pub value_unary : (program : Resolved) (l : Option Level) (f : Frame) (e : Expr) (op : Un) (a : Expr) → e.kind ≡ expr.Unary op a → value_in program l f e ≡ enter l e.place (λ d. compound program d f e)
unfolding value_in
value_unary program l f e op a is = ap (value_of program l f e e.place) (ap out-ExprKind is ∙ outs-Unary op a)

pub value_binary : (program : Resolved) (l : Option Level) (f : Frame) (e : Expr) (op : Bin) (a : Expr) (b : Expr) → e.kind ≡ expr.Binary op a b → value_in program l f e ≡ enter l e.place (λ d. compound program d f e)
unfolding value_in
value_binary program l f e op a b is = ap (value_of program l f e e.place) (ap out-ExprKind is ∙ outs-Binary op a b)

pub value_range : (program : Resolved) (l : Option Level) (f : Frame) (e : Expr) (a : Expr) (w : Option Expr) (b : Expr) → e.kind ≡ expr.Range a w b → value_in program l f e ≡ enter l e.place (λ d. compound program d f e)
unfolding value_in
value_range program l f e a w b is = ap (value_of program l f e e.place) (ap out-ExprKind is ∙ outs-Range a w b)

pub value_rows : (program : Resolved) (l : Option Level) (f : Frame) (e : Expr) (ess : List (List Expr)) → e.kind ≡ expr.Rows ess → value_in program l f e ≡ enter l e.place (λ d. compound program d f e)
unfolding value_in
value_rows program l f e ess is = ap (value_of program l f e e.place) (ap out-ExprKind is ∙ outs-Rows ess)

pub value_func : (program : Resolved) (l : Option Level) (f : Frame) (e : Expr) (n : Name) → e.kind ≡ expr.Func n → value_in program l f e ≡ enter l e.place (λ d. compound program d f e)
unfolding value_in
value_func program l f e n is = ap (value_of program l f e e.place) (ap out-ExprKind is ∙ outs-Func n)

pub value_end : (program : Resolved) (l : Option Level) (f : Frame) (e : Expr) → e.kind ≡ expr.End → value_in program l f e ≡ enter l e.place (λ d. compound program d f e)
unfolding value_in
value_end program l f e is = ap (value_of program l f e e.place) (ap out-ExprKind is ∙ outs-End)

pub value_state_of : (program : Resolved) (l : Option Level) (f : Frame) (e : Expr) (a : Expr) → e.kind ≡ expr.StateOf a → value_in program l f e ≡ enter l e.place (λ d. compound program d f e)
unfolding value_in
value_state_of program l f e a is = ap (value_of program l f e e.place) (ap out-ExprKind is ∙ outs-StateOf a)

pub compound_apply : (program : Resolved) (d : Level) (f : Frame) (e : Expr) (n : Name) (es : List Expr) → e.kind ≡ expr.Apply n es → compound program d f e ≡ index_or_call program d f n es (slot_of program f n.text)
unfolding compound
compound_apply program d f e n es is = ap (compound_of program d f e.place) (ap out-ExprKind is ∙ outs-Apply n es)

pub compound_unary : (program : Resolved) (d : Level) (f : Frame) (e : Expr) (op : Un) (a : Expr) → e.kind ≡ expr.Unary op a → compound program d f e ≡ unary program d.value f e.place op a
unfolding compound
compound_unary program d f e op a is = ap (compound_of program d f e.place) (ap out-ExprKind is ∙ outs-Unary op a)

pub compound_binary : (program : Resolved) (d : Level) (f : Frame) (e : Expr) (op : Bin) (a : Expr) (b : Expr) → e.kind ≡ expr.Binary op a b → compound program d f e ≡ operated program d.value f e.place op a b
unfolding compound
compound_binary program d f e op a b is = ap (compound_of program d f e.place) (ap out-ExprKind is ∙ outs-Binary op a b)

pub compound_range : (program : Resolved) (d : Level) (f : Frame) (e : Expr) (a : Expr) (w : Option Expr) (b : Expr) → e.kind ≡ expr.Range a w b → compound program d f e ≡ range d.value f e.place a w b
unfolding compound
compound_range program d f e a w b is = ap (compound_of program d f e.place) (ap out-ExprKind is ∙ outs-Range a w b)

pub compound_rows : (program : Resolved) (d : Level) (f : Frame) (e : Expr) (ess : List (List Expr)) → e.kind ≡ expr.Rows ess → compound program d f e ≡ bracket d.value f e.place ess
unfolding compound
compound_rows program d f e ess is = ap (compound_of program d f e.place) (ap out-ExprKind is ∙ outs-Rows ess)

pub compound_func : (program : Resolved) (d : Level) (f : Frame) (e : Expr) (n : Name) → e.kind ≡ expr.Func n → compound program d f e ≡ handle program n
unfolding compound
compound_func program d f e n is = ap (compound_of program d f e.place) (ap out-ExprKind is ∙ outs-Func n)

pub compound_end : (program : Resolved) (d : Level) (f : Frame) (e : Expr) → e.kind ≡ expr.End → compound program d f e ≡ end_word f.ends e.place
unfolding compound
compound_end program d f e is = ap (compound_of program d f e.place) (ap out-ExprKind is ∙ outs-End)

pub stmt_eval : (program : Resolved) (l : Option Level) (f : Frame) (s : Stmt) (e : Expr) → s.kind ≡ stmt.Eval e → stmt_in program l f s ≡ evaluated program l f s.show e
unfolding stmt_in
stmt_eval program l f s e is = ap (stmt_at program l f s s.place s.show) (ap out-StmtKind is ∙ outs-Eval e)

pub stmt_assign : (program : Resolved) (l : Option Level) (f : Frame) (s : Stmt) (t : Target) (e : Expr) → s.kind ≡ stmt.Assign t e → stmt_in program l f s ≡ assignment program l f s.show t e
unfolding stmt_in
stmt_assign program l f s t e is = ap (stmt_at program l f s s.place s.show) (ap out-StmtKind is ∙ outs-Assign t e)

pub stmt_assign_list : (program : Resolved) (l : Option Level) (f : Frame) (s : Stmt) (ts : List (Option Target)) (e : Expr) → s.kind ≡ stmt.AssignList ts e → stmt_in program l f s ≡ list_assignment program l f s.place s.show ts e
unfolding stmt_in
stmt_assign_list program l f s ts e is = ap (stmt_at program l f s s.place s.show) (ap out-StmtKind is ∙ outs-AssignList ts e)

pub stmt_delete : (program : Resolved) (l : Option Level) (f : Frame) (s : Stmt) (n : Name) (es : List Expr) → s.kind ≡ stmt.Delete n es → stmt_in program l f s ≡ deletion program l f s.show n es
unfolding stmt_in
stmt_delete program l f s n es is = ap (stmt_at program l f s s.place s.show) (ap out-StmtKind is ∙ outs-Delete n es)

pub stmt_if : (program : Resolved) (l : Option Level) (f : Frame) (s : Stmt) (arms : List Arm) (other : List Stmt) → s.kind ≡ stmt.If arms other → stmt_in program l f s ≡ enter l s.place (λ d. compound_stmt program d f s)
unfolding stmt_in
stmt_if program l f s arms other is = ap (stmt_at program l f s s.place s.show) (ap out-StmtKind is ∙ outs-If arms other)

pub stmt_while : (program : Resolved) (l : Option Level) (f : Frame) (s : Stmt) (e : Expr) (body : List Stmt) → s.kind ≡ stmt.While e body → stmt_in program l f s ≡ enter l s.place (λ d. compound_stmt program d f s)
unfolding stmt_in
stmt_while program l f s e body is = ap (stmt_at program l f s s.place s.show) (ap out-StmtKind is ∙ outs-While e body)

pub stmt_for : (program : Resolved) (l : Option Level) (f : Frame) (s : Stmt) (n : Name) (e : Expr) (body : List Stmt) → s.kind ≡ stmt.For n e body → stmt_in program l f s ≡ enter l s.place (λ d. compound_stmt program d f s)
unfolding stmt_in
stmt_for program l f s n e body is = ap (stmt_at program l f s s.place s.show) (ap out-StmtKind is ∙ outs-For n e body)

pub stmt_parfor : (program : Resolved) (l : Option Level) (f : Frame) (s : Stmt) (n : Name) (e : Expr) (most : Option Expr) (body : List Stmt) → s.kind ≡ stmt.Parfor n e most body → stmt_in program l f s ≡ enter l s.place (λ d. compound_stmt program d f s)
unfolding stmt_in
stmt_parfor program l f s n e most body is = ap (stmt_at program l f s s.place s.show) (ap out-StmtKind is ∙ outs-Parfor n e most body)

pub stmt_switch : (program : Resolved) (l : Option Level) (f : Frame) (s : Stmt) (e : Expr) (arms : List Arm) (other : List Stmt) → s.kind ≡ stmt.Switch e arms other → stmt_in program l f s ≡ enter l s.place (λ d. compound_stmt program d f s)
unfolding stmt_in
stmt_switch program l f s e arms other is = ap (stmt_at program l f s s.place s.show) (ap out-StmtKind is ∙ outs-Switch e arms other)

pub stmt_try : (program : Resolved) (l : Option Level) (f : Frame) (s : Stmt) (body : List Stmt) (handler : List Stmt) → s.kind ≡ stmt.Try body handler → stmt_in program l f s ≡ enter l s.place (λ d. compound_stmt program d f s)
unfolding stmt_in
stmt_try program l f s body handler is = ap (stmt_at program l f s s.place s.show) (ap out-StmtKind is ∙ outs-Try body handler)

pub stmt_spmd : (program : Resolved) (l : Option Level) (f : Frame) (s : Stmt) (n : Option Expr) (body : List Stmt) → s.kind ≡ stmt.Spmd n body → stmt_in program l f s ≡ enter l s.place (λ d. compound_stmt program d f s)
unfolding stmt_in
stmt_spmd program l f s n body is = ap (stmt_at program l f s s.place s.show) (ap out-StmtKind is ∙ outs-Spmd n body)

pub inner_if : (program : Resolved) (d : Level) (f : Frame) (s : Stmt) (arms : List Arm) (other : List Stmt) → s.kind ≡ stmt.If arms other → compound_stmt program d f s ≡ branches program d f s.place arms other
unfolding compound_stmt
inner_if program d f s arms other is = ap (compound_at program d f s.place) (ap out-StmtKind is ∙ outs-If arms other)

pub inner_while : (program : Resolved) (d : Level) (f : Frame) (s : Stmt) (e : Expr) (body : List Stmt) → s.kind ≡ stmt.While e body → compound_stmt program d f s ≡ looped program d f s.place e body
unfolding compound_stmt
inner_while program d f s e body is = ap (compound_at program d f s.place) (ap out-StmtKind is ∙ outs-While e body)

pub inner_for : (program : Resolved) (d : Level) (f : Frame) (s : Stmt) (n : Name) (e : Expr) (body : List Stmt) → s.kind ≡ stmt.For n e body → compound_stmt program d f s ≡ columned program d f s.place n e body
unfolding compound_stmt
inner_for program d f s n e body is = ap (compound_at program d f s.place) (ap out-StmtKind is ∙ outs-For n e body)

pub inner_switch : (program : Resolved) (d : Level) (f : Frame) (s : Stmt) (e : Expr) (arms : List Arm) (other : List Stmt) → s.kind ≡ stmt.Switch e arms other → compound_stmt program d f s ≡ cases program d f s.place e arms other
unfolding compound_stmt
inner_switch program d f s e arms other is = ap (compound_at program d f s.place) (ap out-StmtKind is ∙ outs-Switch e arms other)

pub inner_try : (program : Resolved) (d : Level) (f : Frame) (s : Stmt) (body : List Stmt) (handler : List Stmt) → s.kind ≡ stmt.Try body handler → compound_stmt program d f s ≡ attempt (d.block f body) (d.block f handler)
unfolding compound_stmt
inner_try program d f s body handler is = ap (compound_at program d f s.place) (ap out-StmtKind is ∙ outs-Try body handler)

pub inner_parfor : (program : Resolved) (d : Level) (f : Frame) (s : Stmt) (n : Name) (e : Expr) (most : Option Expr) (body : List Stmt) → s.kind ≡ stmt.Parfor n e most body → compound_stmt program d f s ≡ divided program d f s.place n e most body
unfolding compound_stmt
inner_parfor program d f s n e most body is = ap (compound_at program d f s.place) (ap out-StmtKind is ∙ outs-Parfor n e most body)

range_cases : (program : Resolved) (l : Option Level) (f : Frame) (place : Place) (a : Expr) (w : Option Expr) (b : Expr) → ends_at program l f place (ExprKind-F.Range a w b) ≡ range_ends l f place a w b
range_cases program l f place a None b = refl
range_cases program l f place a (Some w) b = refl

pub ends_range : (program : Resolved) (l : Option Level) (f : Frame) (e : Expr) (a : Expr) (w : Option Expr) (b : Expr) → e.kind ≡ expr.Range a w b → ends_in program l f e ≡ range_ends l f e.place a w b
unfolding ends_in
ends_range program l f e a w b is = ap (ends_at program l f e.place) (ap out-ExprKind is ∙ outs-Range a w b) ∙ range_cases program l f e.place a w b

pub call_found : (program : Resolved) (l : Option Level) (client : Bool) (place : Place) (i : ℕ) (nout : ℕ) (vs : List Value) (g : Function) → slice_get program.program.functions i ≡ Some g → call_in program l client place i nout vs ≡ counted_call program l (frame_of program client i (length vs) nout) place g vs
unfolding call_in
call_found program l client place i nout vs g is = ap (entered program l client place i nout vs) is

pub call_missing : (program : Resolved) (l : Option Level) (client : Bool) (place : Place) (i : ℕ) (nout : ℕ) (vs : List Value) → length program.program.functions ≤ i → call_in program l client place i nout vs ≡ fail NoValue place
unfolding call_in
call_missing program l client place i nout vs past = ap (entered program l client place i nout vs) (slice_get_past program.program.functions i past)

pub call_counted : (program : Resolved) (l : Option Level) (f : Frame) (place : Place) (g : Function) (vs : List Value) → (nat_lt (length g.params) (length vs) || nat_lt (length g.outs) f.wanted) ≡ false → counted_call program l f place g vs ≡ begun program l f place g vs
call_counted program l f place g vs is = ap (λ (b : Bool). if b then fail ArgCount place else begun program l f place g vs) is

-- an expression that goes down by a level
pub value_nested : (program : Resolved) (l : Option Level) (f : Frame) (e : Expr) →
    (((n : Name) × (es : List Expr) × (e.kind ≡ expr.Apply n es)) ⊎ (
    ((n : Name) × (b : Expr) × (es : Option (List Expr)) × (e.kind ≡ expr.Brace n b es)) ⊎ (
    ((op : Un) × (a : Expr) × (e.kind ≡ expr.Unary op a)) ⊎ (
    ((op : Bin) × (a : Expr) × (b : Expr) × (e.kind ≡ expr.Binary op a b)) ⊎ (
    ((a : Expr) × (w : Option Expr) × (b : Expr) × (e.kind ≡ expr.Range a w b)) ⊎ (
    ((ess : List (List Expr)) × (e.kind ≡ expr.Rows ess)) ⊎ (
    ((n : Name) × (e.kind ≡ expr.Func n)) ⊎ (
    ((e.kind ≡ expr.End)) ⊎ (
    ((a : Expr) × (e.kind ≡ expr.StateOf a)))))))))))
    → value_in program l f e ≡ enter l e.place (λ d. compound program d f e)
value_nested program l f e (inl (n, es, is)) = value_apply program l f e n es is
value_nested program l f e (inr (inl (n, b, es, is))) = value_brace program l f e n b es is
value_nested program l f e (inr (inr (inl (op, a, is)))) = value_unary program l f e op a is
value_nested program l f e (inr (inr (inr (inl (op, a, b, is))))) = value_binary program l f e op a b is
value_nested program l f e (inr (inr (inr (inr (inl (a, w, b, is)))))) = value_range program l f e a w b is
value_nested program l f e (inr (inr (inr (inr (inr (inl (ess, is))))))) = value_rows program l f e ess is
value_nested program l f e (inr (inr (inr (inr (inr (inr (inl (n, is)))))))) = value_func program l f e n is
value_nested program l f e (inr (inr (inr (inr (inr (inr (inr (inl is)))))))) = value_end program l f e is
value_nested program l f e (inr (inr (inr (inr (inr (inr (inr (inr (a, is))))))))) = value_state_of program l f e a is

-- a statement that goes down by a level
pub stmt_nested : (program : Resolved) (l : Option Level) (f : Frame) (s : Stmt) →
    (((arms : List Arm) × (other : List Stmt) × (s.kind ≡ stmt.If arms other)) ⊎ (
    ((e : Expr) × (body : List Stmt) × (s.kind ≡ stmt.While e body)) ⊎ (
    ((n : Name) × (e : Expr) × (body : List Stmt) × (s.kind ≡ stmt.For n e body)) ⊎ (
    ((e : Expr) × (arms : List Arm) × (other : List Stmt) × (s.kind ≡ stmt.Switch e arms other)) ⊎ (
    ((body : List Stmt) × (handler : List Stmt) × (s.kind ≡ stmt.Try body handler)) ⊎ (
    ((n : Name) × (e : Expr) × (most : Option Expr) × (body : List Stmt) × (s.kind ≡ stmt.Parfor n e most body)) ⊎ (
    ((n : Option Expr) × (body : List Stmt) × (s.kind ≡ stmt.Spmd n body)))))))))
    → stmt_in program l f s ≡ enter l s.place (λ d. compound_stmt program d f s)
stmt_nested program l f s (inl (arms, other, is)) = stmt_if program l f s arms other is
stmt_nested program l f s (inr (inl (e, body, is))) = stmt_while program l f s e body is
stmt_nested program l f s (inr (inr (inl (n, e, body, is)))) = stmt_for program l f s n e body is
stmt_nested program l f s (inr (inr (inr (inl (e, arms, other, is))))) = stmt_switch program l f s e arms other is
stmt_nested program l f s (inr (inr (inr (inr (inl (body, handler, is)))))) = stmt_try program l f s body handler is
stmt_nested program l f s (inr (inr (inr (inr (inr (inl (n, e, most, body, is))))))) = stmt_parfor program l f s n e most body is
stmt_nested program l f s (inr (inr (inr (inr (inr (inr (n, body, is))))))) = stmt_spmd program l f s n body is
