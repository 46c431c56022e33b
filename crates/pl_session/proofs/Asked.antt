-- What a session answers a question of its run: the rules say it.
use Rattle.std.proofs.Common.{◌≡◌, ℕ, List, [], ◌∷◌, ◌++◌, Option, Some, Ok, sym, ap, subst}
use Rattle.std.proofs.lemmas.List.{append-nil}
use Rattle.std.specs.Borrow.{GName}
use Rattle.pl_base.specs.declared.choice.Choice.{Choice}
use Rattle.pl_values.specs.declared.value.Value.{Value}
use Rattle.pl_resolve.specs.declared.resolved.Resolved.{Resolved}
use Rattle.pl_meaning.specs.declared.event.Answer.{Answer}
use Rattle.pl_meaning.specs.declared.event.Loop.{Loop}
use Rattle.pl_meaning.specs.declared.event.Question.{Question}
use Rattle.pl_meaning.specs.Logs.{Workspace, Trace, Log, Answered, question_of, loop_question}
use Rattle.pl_meaning.specs.Loops.{loop_answer, loop_rules, reply_of, no_extra}
use Rattle.pl_session.specs.Levels.{levels}

module _ (program : Resolved) (turns : ℕ) (env : Workspace) (shown : Option (List Trace)) (stops : ℕ) (sink : Option GName) where
  -- the log of a session's world that answered under these choices
  abbrev pub logged : List Choice → Log
  logged given = record { given = given; shown = shown; stops = stops; sink = sink; rules = loop_rules program turns levels }

  -- a loop, under a choice that is legal
  pub loop_answered : (asked : Question) (l : Loop) (c : Choice) (a : Answer) (given new : List Choice) → asked ≡ Question.Loop l → loop_answer program turns levels (loop_question l) env c ≡ Some a → new ≡ given ++ c ∷ [] → Answered env (question_of asked) (Ok a) (logged given) (logged new)
  unfolding loop_rules
  loop_answered asked l c a given new is legal grew = subst (λ (q : Question). Answered env (question_of q) (Ok a) (logged given) (logged new)) (sym is) (c ∷ [], ([], (λ more. ap (reply_of [] more) legal), ap logged grew))

  -- an extra, under no choice
  pub extra_refused : (asked : Question) (number outputs : ℕ) (operands : List Value) (a : Answer) (given : List Choice) → asked ≡ Question.Extra number operands outputs → a ≡ no_extra → Answered env (question_of asked) (Ok a) (logged given) (logged given)
  unfolding loop_rules
  extra_refused asked number outputs operands a given is refused = subst (λ (q : Question). Answered env (question_of q) (Ok a) (logged given) (logged given)) (sym is) ([], ([], (λ more. ap (λ (x : Answer). Some (record { answer = x; kept = []; left = more })) (sym refused)), ap logged (sym (append-nil given))))
