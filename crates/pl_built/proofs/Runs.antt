-- The law of what runs ask.
use Rattle.std.specs.Prelude.{◌≡◌, slice_get}
use Rattle.std.proofs.Common.{refl, ◌∙◌, ℕ, zero, suc, ◌+◌, Bool, true, false, List, [], Option, Some, None, arith, sym, ap}
use Rattle.pl_base.specs.declared.choice.Choice.{Choice}
use Rattle.pl_base.specs.declared.errors.ScriptError.{ScriptError}
use Rattle.pl_base.specs.declared.errors.Place.{Place}
use Rattle.pl_syntax.specs.declared.stmt.Function.{Function}
use Rattle.pl_values.specs.declared.value.Value.{Value}
use Rattle.pl_resolve.specs.declared.resolved.Resolved.{Resolved}
use Rattle.pl_meaning.specs.Logs.{Workspace, LoopQuestion, Asked, OfLoop, Rules}
use Rattle.pl_meaning.specs.Running.{Done, Raised, Asks}
use Rattle.pl_meaning.specs.Runs.{outermost, finished, failed, Run}
use Rattle.pl_meaning.specs.Parts.{Level, level_at, below, call_in}
use Rattle.pl_unbuilt.specs.Nodes.{of_block, frame_of, of_program}
use Rattle.pl_unbuilt.specs.Unbuilt.{unbuilt_of, name_of}
use Rattle.pl_built.specs.Built.{body_of, AskedLaw, built_rules, RulesLaw, SlotsLaw}
use Rattle.pl_built.proofs.Whole.{no_nodes, none_of_scope}
use Rattle.pl_built.proofs.Asking.{width, AreLaid, IsLong, Fine, Good}
use Rattle.pl_built.proofs.Expressions.{IsCalm, GoodLevel, GoodBelow, value_good, outputs_good}
use Rattle.pl_built.proofs.Statements.{entered_good, ends_good, block_good}

done_asks : (u v : Workspace) (left : List Choice) (q : Asked) → Done u left ≡ Asks q v → ⊥
done_asks u v left q e = cc

raised_asks : (x : ScriptError) (v : Workspace) (left : List Choice) (q : Asked) → Raised x left ≡ Asks q v → ⊥
raised_asks x v left q e = cc

module _ (program : Resolved) (none : of_program program ≡ []) where
  function_calm : (i : ℕ) (g : Function) → slice_get program.program.functions i ≡ Some g → IsCalm program (i + 1) g.body
  function_calm i g is =
      ap (λ n. of_block program (frame_of n) g.body) (omega arith)
      ∙ ap (λ o. of_block program (frame_of (suc i)) (body_of o)) (sym is)
      ∙ none_of_scope program (suc i) none

  call_good : (l : Option Level) → GoodBelow program l → (client : Bool) (place : Place) (i nout : ℕ) (vs : List Value) → Good program (call_in program l client place i nout vs)
  unfolding call_in
  call_good l L client place i nout vs = entered_good program l L client place i nout vs (slice_get program.program.functions i) (function_calm i)

  level_good : (l : Option Level) → GoodBelow program l → GoodLevel program (level_at program l)
  level_good l L = record {
    value = value_good program l L;
    outputs = outputs_good program l L;
    call = call_good l L;
    block = block_good program l L;
    ends = ends_good program l L;
  }

  -- however many levels are left
  below_good : (n : ℕ) → GoodBelow program (below program n)
  unfolding below
  below_good zero = tt
  below_good (suc n) = level_good (below program n) (below_good n)

  -- the whole run
  run_fine : (wide : Bool) (start : Workspace) (turns depth : ℕ) (rules : Rules) (choices : List Choice) → IsLong program wide (width program 0) start → Fine program wide (Run program start turns depth rules choices) (Run program start turns depth (built_rules program rules) choices)
  unfolding Run
  run_fine wide start turns depth rules choices begun =
      (block_good program (below program depth) (below_good depth) outermost program.program.body (none_of_scope program 0 none)).fine wide finished finished failed failed
      (λ x s w. record { asks = λ q v e. absurd (done_asks s.env v s.choices q e); long = λ q v e. absurd (done_asks s.env v s.choices (OfLoop q) e); laid = λ q v e. absurd (done_asks s.env v s.choices (OfLoop q) e); same = refl })
      (λ x s w. record { asks = λ q v e. absurd (raised_asks x v s.choices q e); long = λ q v e. absurd (raised_asks x v s.choices (OfLoop q) e); laid = λ q v e. absurd (raised_asks x v s.choices (OfLoop q) e); same = refl })
      (record { env = start; turns = turns; calls = 0; choices = choices; rules = rules }) begun

  -- from whatever workspace
  any_fine : (start : Workspace) (turns depth : ℕ) (rules : Rules) (choices : List Choice) → Fine program false (Run program start turns depth rules choices) (Run program start turns depth (built_rules program rules) choices)
  any_fine start turns depth rules choices = run_fine false start turns depth rules choices (λ e. absurd (cc))

pub asked_law : AskedLaw
asked_law program unbuilt start turns depth rules choices q env is = (any_fine program (no_nodes (of_program program) (name_of program) unbuilt) start turns depth rules choices).asks q env is

pub rules_law : RulesLaw
rules_law program unbuilt start turns depth rules choices = (any_fine program (no_nodes (of_program program) (name_of program) unbuilt) start turns depth rules choices).same

pub slots_law : SlotsLaw
slots_law program unbuilt start turns depth rules choices long q env is = (run_fine program (no_nodes (of_program program) (name_of program) unbuilt) true start turns depth rules choices (λ yes'. long)).long q env is refl

-- the variables that the body of a loop that is asked of writes have arrays, or no value
pub laid_there : (program : Resolved) → unbuilt_of program ≡ None → (start : Workspace) (turns depth : ℕ) (rules : Rules) (choices : List Choice) (q : LoopQuestion) (env : Workspace) → (Run program start turns depth rules choices).ending ≡ Asks (OfLoop q) env → AreLaid program q env
laid_there program unbuilt start turns depth rules choices q env is = (any_fine program (no_nodes (of_program program) (name_of program) unbuilt) start turns depth rules choices).laid q env is
