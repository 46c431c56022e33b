-- The states of the machine that reads terminals. What has been read of a rule is a frame; the frames of an
-- expression lie on the place of its statement, and that place says what it is inside of. Each state stands
-- for the terminals that led to it (`told`).
use Rattle.std.specs.Prelude.{ℕ, suc, ◌+◌, Bool, true, false, List, ◌∷◌}
use Rattle.pl_grammar.specs.declared.terminal.Terminal.{Terminal}
use Rattle.pl_grammar.specs.declared.terminal.Word.TheVariants as w
use Rattle.pl_grammar.specs.declared.terminal.Keyword.{Keyword}
use Rattle.pl_grammar.specs.declared.terminal.Keyword.TheVariants as k
use Rattle.pl_grammar.specs.Words.{Mark, term, Named, named, Additive, bin_of, Sep}
use Rattle.pl_grammar.specs.Derivations.{Head, Comma, Ex, Op, Callee, Elements, one, also, Item, Rows, Output, Outputs, only, beside, Goal, Lead, Inner, Heading, Part, Smt, Block, empty, Opened, first, next, Param, Params, lone, further, Listing, Outs, Title, Top}
use Rattle.pl_grammar.specs.Spelling.{sep, head_words, comma_words, ex, op, callee, elements, row_words, outputs, goal, lead, inner, heading, smt, block, opened, param_words, listing, outs_words, title_words, top}
use Rattle.pl_grammar.specs.Nesting.{weight, across, run_of}
use Rattle.pl_grammar.specs.Sound.{Scene, outermost, inside, opened_word}

-- what stands before the next element: nothing, or elements and a separator
pub data Pending : Type 0 where
  fresh : Pending
  behind : Elements → Comma → Pending

-- what stands before the next output
pub data Outgoing : Type 0 where
  fresh_outs : Outgoing
  behind_outs : Outputs → Comma → Outgoing

-- what stands before the next name in a function's title
pub data Waiting : Type 0 where
  fresh_params : Waiting
  behind_params : Params → Mark → Waiting

abbrev pub put : Pending → Item → Elements
put fresh i = one i
put (behind es c) i = also es c i

abbrev pub put_out : Outgoing → Output → Outputs
put_out fresh_outs o = only o
put_out (behind_outs os c) o = beside os c o

abbrev pub put_param : Waiting → Param → Params
put_param fresh_params p = lone p
put_param (behind_params ps c) p = further ps c p

-- where a statement stands: in the script, in a function, or in a compound statement, which stands with its
-- site and the statements before it
pub data Site : Type 0 where
  main : Site
  body : Top → Title → Sep → Site
  within : Opened → Site → Block → Site

-- where a part of a compound statement begins: a new one, or behind a block of one
pub data Spot : Type 0 where
  here : Site → Block → Spot
  linked : Opened → Block → Site → Block → Spot

-- the frames of an expression, the innermost outermost in the data
pub data Stack : Type 0 where
  goal_of : Goal → Site → Block → Stack
  lead_of : Lead → Spot → Stack
  inner_of : Inner → Spot → Stack
  -- an output's own list or braces, in outputs that are no expressions
  outputs_of : Mark → Outgoing → Site → Block → Stack
  op_of : Op → Stack → Stack
  paren_of : Mark → Stack → Stack
  args_of : Callee → Mark → Pending → Stack → Stack
  brace_of : Named → Mark → Stack → Stack
  row_of : Mark → Rows → Pending → Stack → Stack

-- the title of a function, as far as it has been read
pub data Titling : Type 0 where
  -- function
  begun_title : Mark → Titling
  -- function name: its own or its output's
  worded : Mark → Named → Titling
  -- function [ names ,
  outs_of : Mark → Mark → Waiting → Titling
  -- function [ names
  out_of : Mark → Mark → Params → Titling
  -- function [ names ]
  outs_shut : Mark → Mark → Listing → Mark → Titling
  -- function outs =
  naming : Mark → Outs → Titling
  -- function outs name
  entitled : Mark → Outs → Named → Titling
  -- function outs name ( names ,
  params_of : Mark → Outs → Named → Mark → Waiting → Titling
  -- function outs name ( names
  param_of : Mark → Outs → Named → Mark → Params → Titling
  -- function outs name ( names )
  titled : Title → Titling

pub data State : Type 0 where
  -- a statement may come
  start : Site → Block → State
  -- a statement that wants its separator
  finished : Smt → Site → Block → State
  -- an operand has to come
  operand : Stack → State
  -- an operand has come
  after : Ex → Stack → State
  -- behind a colon that is an argument
  coloned : Mark → Stack → State
  -- in a row, behind `+` or `-` with white space before it: the next terminal says what it is
  torn : Ex → Additive → Mark → Stack → State
  -- behind `@`
  at_sign : Mark → Stack → State
  -- behind names that only a dot can follow
  stemmed : Head → Stack → State
  -- behind a dot
  dot : Ex → Mark → Stack → State
  -- in outputs that are no expressions: an output has to come, has come, and all have
  output : Mark → Outgoing → Site → Block → State
  output_read : Mark → Outgoing → Output → Site → Block → State
  outputs_shut : Mark → Outputs → Mark → Site → Block → State
  -- behind `for`, behind its parenthesis, and behind its name
  loop : Keyword → Mark → Spot → State
  loop_in : Keyword → Mark → Mark → Spot → State
  index : Keyword → Mark → Named → Spot → State
  index_in : Keyword → Mark → Mark → Named → Spot → State
  -- a header that wants its separator
  ready : Heading → Spot → State
  titling : Top → Titling → State
  -- behind a function
  between : Top → State

abbrev pub beginning : State
beginning = start main empty

-- ---- the terminals that a state stands for, and then the rest

abbrev pub pending_words : Pending → List Terminal → List Terminal
pending_words fresh rest = rest
pending_words (behind es c) rest = elements es (comma_words c rest)

abbrev pub outgoing_words : Outgoing → List Terminal → List Terminal
outgoing_words fresh_outs rest = rest
outgoing_words (behind_outs os c) rest = outputs os (comma_words c rest)

abbrev pub waiting_words : Waiting → List Terminal → List Terminal
waiting_words fresh_params rest = rest
waiting_words (behind_params ps c) rest = param_words ps (term w.Comma c ∷ rest)

abbrev pub site_words : Site → List Terminal → List Terminal
site_words main rest = rest
site_words (body t l s) rest = top t (title_words l (sep s rest))
site_words (within o site b) rest = site_words site (block b (opened o rest))

abbrev pub spot_words : Spot → List Terminal → List Terminal
spot_words (here site b) rest = site_words site (block b rest)
spot_words (linked o b site before) rest = site_words site (block before (opened o (block b rest)))

abbrev pub stack_words : Stack → List Terminal → List Terminal
stack_words (goal_of g site b) rest = site_words site (block b (goal g rest))
stack_words (lead_of l spot) rest = spot_words spot (lead l rest)
stack_words (inner_of i spot) rest = spot_words spot (inner i rest)
stack_words (outputs_of m p site b) rest = site_words site (block b (term w.OpenSquare m ∷ outgoing_words p rest))
stack_words (op_of p S) rest = stack_words S (op p rest)
stack_words (paren_of m S) rest = stack_words S (term w.Open m ∷ rest)
stack_words (args_of c m p S) rest = stack_words S (callee c (term w.Open m ∷ pending_words p rest))
stack_words (brace_of n m S) rest = stack_words S (named n ∷ term w.OpenBrace m ∷ rest)
stack_words (row_of m rs p S) rest = stack_words S (term w.OpenSquare m ∷ row_words rs (pending_words p rest))

abbrev pub titling_words : Titling → List Terminal → List Terminal
titling_words (begun_title m) rest = term (w.Key k.Function) m ∷ rest
titling_words (worded m n) rest = term (w.Key k.Function) m ∷ named n ∷ rest
titling_words (outs_of m o p) rest = term (w.Key k.Function) m ∷ term w.OpenSquare o ∷ waiting_words p rest
titling_words (out_of m o ps) rest = term (w.Key k.Function) m ∷ term w.OpenSquare o ∷ param_words ps rest
titling_words (outs_shut m o l z) rest = term (w.Key k.Function) m ∷ term w.OpenSquare o ∷ listing l (term w.CloseSquare z ∷ rest)
titling_words (naming m o) rest = term (w.Key k.Function) m ∷ outs_words o rest
titling_words (entitled m o n) rest = term (w.Key k.Function) m ∷ outs_words o (named n ∷ rest)
titling_words (params_of m o n z p) rest = term (w.Key k.Function) m ∷ outs_words o (named n ∷ term w.Open z ∷ waiting_words p rest)
titling_words (param_of m o n z ps) rest = term (w.Key k.Function) m ∷ outs_words o (named n ∷ term w.Open z ∷ param_words ps rest)
titling_words (titled t) rest = title_words t rest

abbrev pub told : State → List Terminal → List Terminal
told (start site b) rest = site_words site (block b rest)
told (finished s site b) rest = site_words site (block b (smt s rest))
told (operand S) rest = stack_words S rest
told (after e S) rest = stack_words S (ex e rest)
told (coloned m S) rest = stack_words S (term w.Colon m ∷ rest)
told (torn e a m S) rest = stack_words S (ex e (term (w.Binary (bin_of a)) m ∷ rest))
told (at_sign m S) rest = stack_words S (term w.At m ∷ rest)
told (stemmed h S) rest = stack_words S (head_words h rest)
told (dot e m S) rest = stack_words S (ex e (term w.Dot m ∷ rest))
told (output m p site b) rest = site_words site (block b (term w.OpenSquare m ∷ outgoing_words p rest))
told (output_read m p o site b) rest = site_words site (block b (term w.OpenSquare m ∷ outputs (put_out p o) rest))
told (outputs_shut m os z site b) rest = site_words site (block b (term w.OpenSquare m ∷ outputs os (term w.CloseSquare z ∷ rest)))
told (loop word m spot) rest = spot_words spot (term (w.Key word) m ∷ rest)
told (loop_in word m o spot) rest = spot_words spot (term (w.Key word) m ∷ term w.Open o ∷ rest)
told (index word m n spot) rest = spot_words spot (term (w.Key word) m ∷ named n ∷ rest)
told (index_in word m o n spot) rest = spot_words spot (term (w.Key word) m ∷ term w.Open o ∷ named n ∷ rest)
told (ready h spot) rest = spot_words spot (heading h rest)
told (titling t l) rest = top t (titling_words l rest)
told (between t) rest = top t rest

-- ---- what the frames below say

-- how many levels enclose the statements of a site, a part's header, an operand
abbrev pub site_nests : Site → ℕ
site_nests main = 0
site_nests (body t l s) = 0
site_nests (within o site b) = suc (site_nests site)

abbrev pub spot_site : Spot → Site
spot_site (here site b) = site
spot_site (linked o b site before) = site

-- the outputs before put so much over the next one
abbrev pub outgoing_run : Outgoing → ℕ
outgoing_run fresh_outs = 0
outgoing_run (behind_outs os c) = across c (run_of os)

abbrev pub nests : Stack → ℕ
nests (goal_of g site b) = suc (site_nests site)
nests (lead_of l spot) = suc (site_nests (spot_site spot))
nests (inner_of i spot) = suc (site_nests (spot_site spot))
nests (outputs_of m p site b) = outgoing_run p + suc (suc (site_nests site))
nests (op_of p S) = weight p + nests S
nests (paren_of m S) = suc (nests S)
nests (args_of c m p S) = suc (nests S)
nests (brace_of n m S) = suc (nests S)
nests (row_of m rs p S) = suc (nests S)

-- the innermost open bracket is a square one
abbrev pub in_row : Stack → Bool
in_row (op_of p S) = in_row S
in_row (row_of m rs p S) = true
in_row S = false

-- some open bracket is a list's parenthesis or a brace
abbrev pub in_index : Stack → Bool
in_index (op_of p S) = in_index S
in_index (paren_of m S) = in_index S
in_index (args_of c m p S) = true
in_index (brace_of n m S) = true
in_index (row_of m rs p S) = in_index S
in_index S = false

abbrev pub scene : Site → Scene
scene main = outermost
scene (body t l s) = outermost
scene (within o site b) = inside (opened_word o) (scene site)

-- the site of a part's block
abbrev pub enter : Part → Spot → Site
enter p (here site b) = within (first p) site b
enter p (linked o b site before) = within (next o b p) site before

-- ---- whether an `end` has to come

abbrev pub site_open : Site → Bool
site_open main = false
site_open (body t l s) = true
site_open (within o site b) = true

abbrev pub stack_open : Stack → Bool
stack_open (goal_of g site b) = site_open site
stack_open (lead_of l spot) = true
stack_open (inner_of i spot) = true
stack_open (outputs_of m p site b) = site_open site
stack_open (op_of p S) = stack_open S
stack_open (paren_of m S) = stack_open S
stack_open (args_of c m p S) = stack_open S
stack_open (brace_of n m S) = stack_open S
stack_open (row_of m rs p S) = stack_open S

abbrev pub is_open : State → Bool
is_open (start site b) = site_open site
is_open (finished s site b) = site_open site
is_open (operand S) = stack_open S
is_open (after e S) = stack_open S
is_open (coloned m S) = stack_open S
is_open (torn e a m S) = stack_open S
is_open (at_sign m S) = stack_open S
is_open (stemmed h S) = stack_open S
is_open (dot e m S) = stack_open S
is_open (output m p site b) = site_open site
is_open (output_read m p o site b) = site_open site
is_open (outputs_shut m os z site b) = site_open site
is_open (loop word m spot) = true
is_open (loop_in word m o spot) = true
is_open (index word m n spot) = true
is_open (index_in word m o n spot) = true
is_open (ready h spot) = true
is_open (titling t l) = true
is_open (between t) = false
