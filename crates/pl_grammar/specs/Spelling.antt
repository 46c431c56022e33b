-- The terminals of a derivation, and then the rest.
use Rattle.std.specs.Prelude.{List, [], ◌∷◌, codes}
use Rattle.pl_grammar.specs.declared.terminal.Terminal.{Terminal}
use Rattle.pl_grammar.specs.declared.terminal.Word.TheVariants as w
use Rattle.pl_grammar.specs.declared.terminal.Keyword.TheVariants as k
use Rattle.pl_grammar.specs.Words.{term, named, sign_word, Sep, sep_word}
use Rattle.pl_grammar.specs.Derivations.{Head, alone, dotted, Signs, no_signs, more_signs, Comma, written, space, Trail, no_trail, trail, Ex, number, chars, bare, call, state, paren, rows, rows_to, func, last, under, transposed, Op, joined, signed, from, stepped, Callee, head, braced, Args, no_args, listed, Elements, one, also, Item, value, colon, Rows, no_rows, broken, filled, Tgt, entire, indexed, in_braces, Output, to, skip, Outputs, only, beside, Goal, shown, into, spread, Lead, test, each, Inner, each_in, bound, workers, Heading, upto, shut, no_value, Part, headed, unheaded, Smt, simple, delete, leave, compound, Block, empty, blank, statement, Opened, first, next, Param, taken, ignored, Params, lone, further, Listing, no_params, params, Outs, no_outs, single, several, Given, no_list, given, Title, title, Fun, fun, Top, script, define, spaced, Prog, whole_of, unended}

abbrev pub sep : Sep → List Terminal → List Terminal
sep s rest = term (sep_word s.kind) s.mark ∷ rest

abbrev pub head_words : Head → List Terminal → List Terminal
head_words (alone n) rest = named n ∷ rest
head_words (dotted h m n) rest = head_words h (term w.Dot m ∷ named n ∷ rest)

abbrev pub signs : Signs → List Terminal → List Terminal
signs no_signs rest = rest
signs (more_signs us m s) rest = signs us (term (sign_word s) m ∷ rest)

abbrev pub comma_words : Comma → List Terminal → List Terminal
comma_words (written m) rest = term w.Comma m ∷ rest
comma_words space rest = rest

abbrev pub trail_words : Trail → List Terminal → List Terminal
trail_words no_trail rest = rest
trail_words (trail m) rest = term w.Comma m ∷ rest

abbrev mutual
  pub ex : Ex → List Terminal → List Terminal
  ex (number m z) rest = term (w.Number z) m ∷ rest
  ex (chars m cs) rest = term (w.Chars cs) m ∷ rest
  ex (bare c) rest = callee c rest
  ex (call c m a z) rest = callee c (term w.Open m ∷ args a (term w.Close z ∷ rest))
  ex (state e d m) rest = ex e (term w.Dot d ∷ term (w.Name (codes "State")) m ∷ rest)
  ex (paren m e z) rest = term w.Open m ∷ ex e (term w.Close z ∷ rest)
  ex (rows m rs z) rest = term w.OpenSquare m ∷ row_words rs (term w.CloseSquare z ∷ rest)
  ex (rows_to m rs es t z) rest = term w.OpenSquare m ∷ row_words rs (elements es (trail_words t (term w.CloseSquare z ∷ rest)))
  ex (func m n) rest = term w.At m ∷ named n ∷ rest
  ex (last m) rest = term (w.Key k.End) m ∷ rest
  ex (under p e) rest = op p (ex e rest)
  ex (transposed e m) rest = ex e (term w.Quote m ∷ rest)

  pub op : Op → List Terminal → List Terminal
  op (joined a o m us) rest = ex a (term (w.Binary o) m ∷ signs us rest)
  op (signed m s) rest = term (sign_word s) m ∷ rest
  op (from a m) rest = ex a (term w.Colon m ∷ rest)
  op (stepped a m b n) rest = ex a (term w.Colon m ∷ ex b (term w.Colon n ∷ rest))

  pub callee : Callee → List Terminal → List Terminal
  callee (head h) rest = head_words h rest
  callee (braced n m e z) rest = named n ∷ term w.OpenBrace m ∷ ex e (term w.CloseBrace z ∷ rest)

  pub args : Args → List Terminal → List Terminal
  args no_args rest = rest
  args (listed es) rest = elements es rest

  pub elements : Elements → List Terminal → List Terminal
  elements (one i) rest = item i rest
  elements (also es c i) rest = elements es (comma_words c (item i rest))

  pub item : Item → List Terminal → List Terminal
  item (value e) rest = ex e rest
  item (colon m) rest = term w.Colon m ∷ rest

  pub row_words : Rows → List Terminal → List Terminal
  row_words no_rows rest = rest
  row_words (broken rs s) rest = row_words rs (sep s rest)
  row_words (filled rs es t s) rest = row_words rs (elements es (trail_words t (sep s rest)))

-- ---- statements

abbrev pub tgt : Tgt → List Terminal → List Terminal
tgt (entire n) rest = named n ∷ rest
tgt (indexed n m a z) rest = named n ∷ term w.Open m ∷ args a (term w.Close z ∷ rest)
tgt (in_braces n m e z) rest = named n ∷ term w.OpenBrace m ∷ ex e (term w.CloseBrace z ∷ rest)

abbrev pub output_words : Output → List Terminal → List Terminal
output_words (to t) rest = tgt t rest
output_words (skip m) rest = term w.Not m ∷ rest

abbrev pub outputs : Outputs → List Terminal → List Terminal
outputs (only o) rest = output_words o rest
outputs (beside os c o) rest = outputs os (comma_words c (output_words o rest))

abbrev pub goal : Goal → List Terminal → List Terminal
goal shown rest = rest
goal (into t q) rest = tgt t (term w.Equal q ∷ rest)
goal (spread m os z q) rest = term w.OpenSquare m ∷ outputs os (term w.CloseSquare z ∷ term w.Equal q ∷ rest)

abbrev pub lead : Lead → List Terminal → List Terminal
lead (test word m) rest = term (w.Key word) m ∷ rest
lead (each word m n q) rest = term (w.Key word) m ∷ named n ∷ term w.Equal q ∷ rest

abbrev pub inner : Inner → List Terminal → List Terminal
inner (each_in word m o n q) rest = term (w.Key word) m ∷ term w.Open o ∷ named n ∷ term w.Equal q ∷ rest
inner (bound m o n q e c) rest = term (w.Key k.Parfor) m ∷ term w.Open o ∷ named n ∷ term w.Equal q ∷ ex e (term w.Comma c ∷ rest)
inner (workers m o) rest = term (w.Key k.Spmd) m ∷ term w.Open o ∷ rest

abbrev pub heading : Heading → List Terminal → List Terminal
heading (upto l e) rest = lead l (ex e rest)
heading (shut i e z) rest = inner i (ex e (term w.Close z ∷ rest))
heading (no_value word m) rest = term (w.Key word) m ∷ rest

abbrev pub part : Part → List Terminal → List Terminal
part (headed h s) rest = heading h (sep s rest)
part (unheaded word m) rest = term (w.Key word) m ∷ rest

abbrev mutual
  pub smt : Smt → List Terminal → List Terminal
  smt (simple g e) rest = goal g (ex e rest)
  smt (delete n m a z q o y) rest = named n ∷ term w.Open m ∷ args a (term w.Close z ∷ term w.Equal q ∷ term w.OpenSquare o ∷ term w.CloseSquare y ∷ rest)
  smt (leave word m) rest = term (w.Key word) m ∷ rest
  smt (compound o b m) rest = opened o (block b (term (w.Key k.End) m ∷ rest))

  pub block : Block → List Terminal → List Terminal
  block empty rest = rest
  block (blank b s) rest = block b (sep s rest)
  block (statement b s e) rest = block b (smt s (sep e rest))

  pub opened : Opened → List Terminal → List Terminal
  opened (first p) rest = part p rest
  opened (next o b p) rest = opened o (block b (part p rest))

-- ---- functions and programs

abbrev pub param : Param → List Terminal → List Terminal
param (taken n) rest = named n ∷ rest
param (ignored m) rest = term w.Not m ∷ rest

abbrev pub param_words : Params → List Terminal → List Terminal
param_words (lone p) rest = param p rest
param_words (further ps c p) rest = param_words ps (term w.Comma c ∷ param p rest)

abbrev pub listing : Listing → List Terminal → List Terminal
listing no_params rest = rest
listing (params ps) rest = param_words ps rest

abbrev pub outs_words : Outs → List Terminal → List Terminal
outs_words no_outs rest = rest
outs_words (single n q) rest = named n ∷ term w.Equal q ∷ rest
outs_words (several m l z q) rest = term w.OpenSquare m ∷ listing l (term w.CloseSquare z ∷ term w.Equal q ∷ rest)

abbrev pub given_words : Given → List Terminal → List Terminal
given_words no_list rest = rest
given_words (given m l z) rest = term w.Open m ∷ listing l (term w.Close z ∷ rest)

abbrev pub title_words : Title → List Terminal → List Terminal
title_words (title m o n g) rest = term (w.Key k.Function) m ∷ outs_words o (named n ∷ given_words g rest)

abbrev pub fun_words : Fun → List Terminal → List Terminal
fun_words (fun t s b m) rest = title_words t (sep s (block b (term (w.Key k.End) m ∷ rest)))

abbrev pub top : Top → List Terminal → List Terminal
top (script b) rest = block b rest
top (define t f) rest = top t (fun_words f rest)
top (spaced t s) rest = top t (sep s rest)

abbrev pub prog : Prog → List Terminal
prog (whole_of t) = top t []
prog (unended b s) = block b (smt s [])
