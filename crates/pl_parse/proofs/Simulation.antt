-- The parser's machine is the grammar's, over trees.
use Rattle.std.proofs.Common.{◌≡◌, suc, true, Option, Some, None, Ok, Err, List, [], ◌∷◌, length, refl}
use Rattle.pl_syntax.specs.declared.stmt.Program.{Program}
use Rattle.pl_grammar.specs.declared.terminal.Terminal.{Terminal}
use Rattle.pl_grammar.specs.declared.terminal.Word.{Word}
use Rattle.pl_grammar.specs.Words as g
use Rattle.pl_grammar.specs.Derivations as d
use Rattle.pl_grammar.specs.Trees as t
use Rattle.pl_grammar.specs.Machine as gm
use Rattle.pl_grammar.specs.Steps as gs
use Rattle.pl_states.specs.Run as ru
use Rattle.pl_parse.specs.Image.{mark_of, site_of, done_of, state_of, step_of, answer_of}
use Rattle.pl_parse.proofs.Places.{rules, site_open_same, stack_open_same}
use Rattle.pl_parse.proofs.Shapes.{held_of, reduce_same}
use Rattle.pl_parse.proofs.Operands.{operand_same}
use Rattle.pl_parse.proofs.Endings.{settle_same, smt_same}
use Rattle.pl_parse.proofs.After.{after_same, untear_same, colon_word_same, at_same, dot_word_same, stem_same, output_same, behind_output_same, outputs_same}
use Rattle.pl_parse.proofs.Sentences.{start_same, statement_same, loop_same, loop_in_same, index_word_same, index_in_same, heading_same, titling_same, function_same}

-- ---- a step

word_same : (x : gm.State) (word : Word) (m : g.Mark) → ru.on_word (state_of x) word (mark_of m) ≡ step_of (gs.on_word rules x word m)
unfolding ru.on_word ru.on_rest
word_same (gm.start site b) word m = start_same word m site b
word_same (gm.finished s site b) word m = statement_same word m s site b
word_same (gm.operand S) word m = operand_same word m S
word_same (gm.after e S) word m = after_same word m e S
word_same (gm.coloned c S) word m = colon_word_same word m c S
word_same (gm.torn e a x S) word m = untear_same e a x S word m
word_same (gm.at_sign a S) word m = at_same word m a S
word_same (gm.stemmed h S) word m = stem_same word m h S
word_same (gm.dot e q S) word m = dot_word_same word m e q S
word_same (gm.output o p site b) word m = output_same word m o p site b
word_same (gm.output_read o p y site b) word m = behind_output_same word m o p y site b
word_same (gm.outputs_shut o os z site b) word m = outputs_same word m o os z site b
word_same (gm.loop key o spot) word m = loop_same word m key o spot
word_same (gm.loop_in key o p spot) word m = loop_in_same word m key o p spot
word_same (gm.index key o x spot) word m = index_word_same word m key o x spot
word_same (gm.index_in key o p x spot) word m = index_in_same word m key o p x spot
word_same (gm.ready h spot) word m = heading_same word m h spot
word_same (gm.titling x l) word m = titling_same word m x l
word_same (gm.between x) word m = function_same word m x

-- a terminal does the same to both
pub step_same : (x : gm.State) (y : Terminal) → ru.step (state_of x) y ≡ step_of (gs.step rules x y)
step_same x y = word_same x y.word (g.mark_of y)

-- ---- the end

pub open_same : (x : gm.State) → ru.is_open (state_of x) ≡ gm.is_open x
unfolding ru.is_open
open_same (gm.start site b) = site_open_same site b
open_same (gm.finished s site b) = site_open_same site b
open_same (gm.operand S) = stack_open_same S
open_same (gm.after e S) = stack_open_same S
open_same (gm.coloned m S) = stack_open_same S
open_same (gm.torn e a m S) = stack_open_same S
open_same (gm.at_sign m S) = stack_open_same S
open_same (gm.stemmed h S) = stack_open_same S
open_same (gm.dot e m S) = stack_open_same S
open_same (gm.output m p site b) = site_open_same site b
open_same (gm.output_read m p o site b) = site_open_same site b
open_same (gm.outputs_shut m os z site b) = site_open_same site b
open_same (gm.between x) = refl
open_same x = refl

abbrev programs : Option d.Prog → Option Program
programs None = None
programs (Some p) = Some (t.program_of p)

statement_ends : (x : d.Smt) (site : gm.Site) (b : d.Block) → ru.unended (done_of x) (site_of site b) ≡ programs (gs.ended (gm.finished x site b))
statement_ends x gm.main b = rw (smt_same x true)
statement_ends x (gm.body y l z) b = refl
statement_ends x (gm.within o site before) b = refl

operand_ends : (e : d.Ex) (S : gm.Stack) → ru.end_after (held_of (record { operand = e; stack = S })) ≡ programs (gs.end_after e S)
operand_ends e (gm.goal_of x gm.main b) = rw (settle_same x e) (statement_ends (gs.settle x e) gm.main b)
operand_ends e (gm.goal_of x (gm.body y l z) b) = refl
operand_ends e (gm.goal_of x (gm.within o site before) b) = refl
operand_ends e S = refl

pub ended_state : (x : gm.State) → ru.ended (state_of x) ≡ programs (gs.ended x)
unfolding ru.ended
ended_state (gm.start gm.main b) = refl
ended_state (gm.start (gm.body x l z) b) = refl
ended_state (gm.start (gm.within o site before) b) = refl
ended_state (gm.finished s site b) = statement_ends s site b
ended_state (gm.after e S) = rw (reduce_same 0 e S) (operand_ends (gs.reduce 0 e S).operand (gs.reduce 0 e S).stack)
ended_state (gm.between x) = refl
ended_state x = refl

-- ---- whole runs

finish_same : (x : gm.State) → ru.finish (state_of x) ≡ answer_of (gs.finish x)
finish_same x = rw (open_same x, ended_state x) (by_end (gs.ended x))
  where
    by_end : (p : Option d.Prog) → ru.finish_with (gm.is_open x) (programs p) ≡ answer_of (gs.finish_with x p)
    by_end (Some p) = refl
    by_end None = refl

pub run_same : (ts : List Terminal) (x : gm.State) → ru.run (state_of x) ts ≡ answer_of (gs.run rules x ts)
run_same [] x = finish_same x
run_same (y ∷ ts) x = rw (step_same x y) (by_step (λ next. run_same ts next) (gs.step rules x y))
  where
    by_step : ((next : gm.State) → ru.run (state_of next) ts ≡ answer_of (gs.run rules next ts)) → (z : gs.Step) → ru.onward (step_of z) (λ next. ru.run next ts) (suc (length ts)) ≡ answer_of (gs.onward z (λ next. gs.run rules next ts) (suc (length ts)))
    by_step ih (Ok next) = ih next
    by_step ih (Err f) = refl
