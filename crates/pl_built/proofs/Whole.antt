-- The law of built programs.
use Rattle.std.specs.Prelude.{◌≡◌, nat_lt}
use Rattle.std.proofs.Common.{◌∙◌, ℕ, zero, suc, ◌+◌, Bool, true, false, cond, List, [], ◌∷◌, slice_get, Option, Some, None, arith, refl, ap}
use Rattle.pl_base.specs.declared.errors.Place.{Place}
use Rattle.pl_syntax.specs.declared.stmt.Function.{Function}
use Rattle.pl_resolve.specs.declared.resolved.Resolved.{Resolved}
use Rattle.pl_meaning.specs.Forms.{is_form}
use Rattle.pl_unbuilt.specs.Nodes.{of_block, frame_of, of_functions, of_program}
use Rattle.pl_unbuilt.specs.Unbuilt.{first_of, earlier, name_of}
use Rattle.pl_built.specs.Built.{body_of, statements_of, BuiltLaw}
use Rattle.pl_built.proofs.Standing.{left_none, right_none, IsBuilt, loops_built}

some_none : {A : Type 0} (a : A) → ◌≡◌ {A = Option A} (Some a) None → ⊥
some_none a e = cc

chosen : (b : Bool) (p q : Place) → cond b (Some q) (Some p) ≡ None → ⊥
chosen true p q e = some_none q e
chosen false p q e = some_none p e

-- where no place is the earlier one, there are no nodes
pub no_nodes : (nodes : List Place) (name : Option Place) → earlier (first_of nodes) name ≡ None → nodes ≡ []
no_nodes [] name e = refl
no_nodes (p ∷ nodes) None e = absurd (some_none p e)
no_nodes (p ∷ nodes) (Some q) e = absurd (chosen (nat_lt q.at p.at) p q e)

none_of_function : (program : Resolved) (k : ℕ) (functions : List Function) (i : ℕ) → of_functions program k functions ≡ [] → of_block program (frame_of (k + i)) (body_of (slice_get functions i)) ≡ []
none_of_function program k [] i none = refl
none_of_function program k (g ∷ functions) zero none = ap (λ n. of_block program (frame_of n) g.body) (omega arith) ∙ left_none (of_block program (frame_of k) g.body) (of_functions program (suc k) functions) none
none_of_function program k (g ∷ functions) (suc i) none =
    ap (λ n. of_block program (frame_of n) (body_of (slice_get functions i))) (omega arith)
    ∙ none_of_function program (suc k) functions i (right_none (of_block program (frame_of k) g.body) (of_functions program (suc k) functions) none)

-- no scope of the program has nodes
pub none_of_scope : (program : Resolved) (scope : ℕ) → of_program program ≡ [] → of_block program (frame_of scope) (statements_of program scope) ≡ []
none_of_scope program zero none = left_none (of_block program (frame_of 0) program.program.body) (of_functions program 1 program.program.functions) none
none_of_scope program (suc i) none =
    ap (λ n. of_block program (frame_of n) (body_of (slice_get program.program.functions i))) (omega arith)
    ∙ none_of_function program 1 program.program.functions i (right_none (of_block program (frame_of 0) program.program.body) (of_functions program 1 program.program.functions) none)

pub built_law : BuiltLaw
built_law program unbuilt q s range most stands is =
    let none : of_program program ≡ [] = no_nodes (of_program program) (name_of program) unbuilt in
    let built : IsBuilt range most (is_form program (frame_of q.scope) q.index q.body) = loops_built program (frame_of q.scope) (statements_of program q.scope) s q.index range most q.body (none_of_scope program q.scope none) stands is in
    (built.form, built.unbounded, built.between)
