-- Each step leaves what has been told, and so a run that ends has told its program's terminals.
use Rattle.std.proofs.Common.{◌≡◌, ◌∙◌, ℕ, suc, ◌+◌, Bool, true, false, not, ◌&&◌, if◌then◌else◌, Option, Some, None, List, [], ◌∷◌, length, Ok, Err, refl, ap, sym}
use Rattle.std.specs.Prelude.{nat_eq, codes}
use Rattle.std.specs.Cmp.{first_so, second_so}
use Rattle.std.specs.Cmp.Lexicographic.{pointwise}
use Rattle.std.proofs.lemmas.Bool.{eqb-true}
use Rattle.pl_grammar.specs.declared.terminal.Terminal.{Terminal}
use Rattle.pl_grammar.specs.declared.terminal.Word.{Word}
use Rattle.pl_grammar.specs.declared.terminal.Word.TheVariants as w
use Rattle.pl_grammar.specs.declared.terminal.Keyword.{Keyword}
use Rattle.pl_grammar.specs.declared.terminal.Keyword.TheVariants as k
use Rattle.pl_grammar.specs.Words.{Mark, term, mark_of, Named, named, comma, semicolon, line, Sep, Use, tests, loops, direct, plain, leaves, ends, defines, unused, use_of, is_link, follows, Dots, whole, stem, neither, dots, is_state}
use Rattle.pl_grammar.specs.Derivations.{Head, alone, dotted, space, Ex, bare, state, head, braced, listed, colon, entire, indexed, in_braces, Output, to, skip, Outputs, shown, test, each, each_in, Heading, upto, shut, no_value, headed, unheaded, leave, Block, empty, statement, taken, ignored, Params, Listing, Outs, no_outs, no_list, Title, title, Top, spaced, Prog}
use Rattle.pl_grammar.specs.Spelling.{sep, ex, callee, elements, outputs, heading, smt, block, param_words, listing, outs_words, title_words, top, prog}
use Rattle.pl_grammar.specs.Sound.{has_state, may}
use Rattle.pl_grammar.specs.Programs.{Rules}
use Rattle.pl_grammar.specs.Machine.{fresh, Outgoing, behind_outs, Waiting, fresh_params, behind_params, put, put_out, Site, main, body, within, Spot, here, linked, Stack, goal_of, lead_of, inner_of, outputs_of, op_of, paren_of, args_of, brace_of, row_of, Titling, begun_title, worded, outs_of, out_of, outs_shut, naming, entitled, params_of, param_of, titled, State, start, finished, operand, after, coloned, torn, at_sign, stemmed, dot, output, output_read, outputs_shut, loop, loop_in, index, index_in, ready, titling, between, pending_words, outgoing_words, waiting_words, site_words, spot_words, stack_words, told, titling_words, spot_site, site_nests, outgoing_run, scene, enter, nests}
use Rattle.pl_grammar.specs.Steps
use Rattle.pl_grammar.specs.Steps.{Step, Held, roomy, room, refused, reduce, run, step, onward, Answer, callee_tgt, tgt_of, set_out, set_tgt, pass, element_outputs, item_outputs, behind_all, row_outputs, pending_outputs, Outlist, as_outputs, called, embraced, read_operand, go_on, read_after, settle, ended}
use Rattle.pl_grammar.proofs.Reading.{pick}
use Rattle.pl_grammar.proofs.Keeping.{Tells, roomy_tells, retell, choose, put_words, put_out_words, put_param_words, reduce_tells, called_tells, operand_tells, after_tells, untear_tells, settle_words, enter_words}

-- ---- names

pub same_lists : (a b : List ℕ) → pointwise nat_eq a b ≡ true → a ≡ b
same_lists [] [] h = refl
same_lists [] (y ∷ ys) h = cc
same_lists (x ∷ xs) [] h = cc
same_lists (x ∷ xs) (y ∷ ys) h =
    let e : x ≡ y = eqb-true x y (first_so (nat_eq x y) (pointwise nat_eq xs ys) h) in
    let f : xs ≡ ys = same_lists xs ys (second_so (nat_eq x y) (pointwise nat_eq xs ys) h) in
    ap (λ z. z ∷ xs) e ∙ ap (λ z. y ∷ z) f

state_text : (text : List ℕ) → is_state text ≡ true → codes "State" ≡ text
unfolding is_state
state_text text h = same_lists (codes "State") text h

module _ (r : Rules) where
  -- ---- lists of arguments with a colon, names

  colon_tells : (word : Word) (m c : Mark) (S : Stack) (rest : List Terminal) → Tells (Steps.behind_colon word m c S) rest (stack_words S (term w.Colon c ∷ term word m ∷ rest))
  colon_tells w.Comma m c (args_of f n p S) rest = ap (λ x. stack_words S (callee f (term w.Open n ∷ x))) (put_words p (colon c) (term w.Comma m ∷ rest))
  colon_tells w.Close m c (args_of f n p S) rest = retell (called f n (listed (put p (colon c))) m S) rest (stack_words S (callee f (term w.Open n ∷ elements (put p (colon c)) (term w.Close m ∷ rest)))) (stack_words S (callee f (term w.Open n ∷ pending_words p (term w.Colon c ∷ term w.Close m ∷ rest)))) (ap (λ x. stack_words S (callee f (term w.Open n ∷ x))) (put_words p (colon c) (term w.Close m ∷ rest))) (called_tells f n (listed (put p (colon c))) m S rest)
  colon_tells w.Comma m c (goal_of g site b) rest = tt
  colon_tells w.Comma m c (lead_of l spot) rest = tt
  colon_tells w.Comma m c (inner_of i spot) rest = tt
  colon_tells w.Comma m c (outputs_of o q site b) rest = tt
  colon_tells w.Comma m c (op_of p S) rest = tt
  colon_tells w.Comma m c (paren_of o S) rest = tt
  colon_tells w.Comma m c (brace_of o q S) rest = tt
  colon_tells w.Comma m c (row_of o rs q S) rest = tt
  colon_tells w.Close m c (goal_of g site b) rest = tt
  colon_tells w.Close m c (lead_of l spot) rest = tt
  colon_tells w.Close m c (inner_of i spot) rest = tt
  colon_tells w.Close m c (outputs_of o q site b) rest = tt
  colon_tells w.Close m c (op_of p S) rest = tt
  colon_tells w.Close m c (paren_of o S) rest = tt
  colon_tells w.Close m c (brace_of o q S) rest = tt
  colon_tells w.Close m c (row_of o rs q S) rest = tt
  colon_tells (w.Name x) m c S rest = tt
  colon_tells (w.Chars x) m c S rest = tt
  colon_tells (w.Number x) m c S rest = tt
  colon_tells (w.Binary x) m c S rest = tt
  colon_tells w.Not m c S rest = tt
  colon_tells w.Quote m c S rest = tt
  colon_tells w.Equal m c S rest = tt
  colon_tells w.Colon m c S rest = tt
  colon_tells w.Semicolon m c S rest = tt
  colon_tells w.LineEnd m c S rest = tt
  colon_tells w.Open m c S rest = tt
  colon_tells w.OpenSquare m c S rest = tt
  colon_tells w.CloseSquare m c S rest = tt
  colon_tells w.OpenBrace m c S rest = tt
  colon_tells w.CloseBrace m c S rest = tt
  colon_tells w.At m c S rest = tt
  colon_tells w.Dot m c S rest = tt
  colon_tells (w.Key x) m c S rest = tt

  at_tells : (word : Word) (m a : Mark) (S : Stack) (rest : List Terminal) → Tells (Steps.behind_at word m a S) rest (stack_words S (term w.At a ∷ term word m ∷ rest))
  at_tells (w.Name n) m a S rest = refl
  at_tells word m a S rest = tt

  dot_or_tells : (x : Dots) (h : Head) (S : Stack) (rest : List Terminal) → Tells (Steps.dot_or x h S) rest (stack_words S (callee (head h) rest))
  dot_or_tells whole h S rest = refl
  dot_or_tells stem h S rest = refl
  dot_or_tells neither h S rest = tt

  longer_tells : (e : Ex) (d : Mark) (n : Named) (S : Stack) (rest : List Terminal) → Tells (Steps.longer e d n S) rest (stack_words S (ex e (term w.Dot d ∷ named n ∷ rest)))
  longer_tells (bare (head h)) d n S rest = dot_or_tells (dots (Rattle.pl_grammar.specs.Trees.head_text (dotted h d n))) (dotted h d n) S rest
  longer_tells (bare (braced x y z u)) d n S rest = tt
  longer_tells e d n S rest = tt

  name_tells : (v : Bool) (e : Ex) (d : Mark) (n : Named) (S : Stack) (rest : List Terminal) → is_state n.text ≡ v
      → Tells (if v then (if has_state e then Ok (after (state e d n.mark) S) else refused) else Steps.longer e d n S) rest (stack_words S (ex e (term w.Dot d ∷ named n ∷ rest)))
  name_tells true e d n S rest h = choose (has_state e) (Ok (after (state e d n.mark) S)) refused rest (stack_words S (ex e (term w.Dot d ∷ named n ∷ rest))) (ap (λ x. stack_words S (ex e (term w.Dot d ∷ term (w.Name x) n.mark ∷ rest))) (state_text n.text h)) tt
  name_tells false e d n S rest h = longer_tells e d n S rest

  dot_tells : (word : Word) (m : Mark) (e : Ex) (d : Mark) (S : Stack) (rest : List Terminal) → Tells (Steps.behind_dot word m e d S) rest (stack_words S (ex e (term w.Dot d ∷ term word m ∷ rest)))
  dot_tells (w.Name n) m e d S rest = name_tells (is_state n) e d (record { mark = m; text = n }) S rest refl
  dot_tells word m e d S rest = tt

  stem_tells : (word : Word) (m : Mark) (h : Head) (S : Stack) (rest : List Terminal) → Tells (Steps.behind_stem word m h S) rest (stack_words S (callee (head h) (term word m ∷ rest)))
  stem_tells w.Dot m h S rest = refl
  stem_tells word m h S rest = tt

  -- ---- outputs

  abbrev list_words : Mark → Site → Block → List Terminal → List Terminal
  list_words o site b ts = site_words site (block b (term w.OpenSquare o ∷ ts))

  output_tells : (word : Word) (m o : Mark) (p : Outgoing) (site : Site) (b : Block) (rest : List Terminal) → Tells (Steps.read_output r word m o p site b) rest (list_words o site b (outgoing_words p (term word m ∷ rest)))
  output_tells (w.Name n) m o p site b rest = ap (λ x. list_words o site b x) (put_out_words p (to (entire (record { mark = m; text = n }))) rest)
  output_tells w.Not m o p site b rest = roomy_tells (room r (suc (outgoing_run p + suc (suc (site_nests site))))) (Ok (output_read o p (skip m) site b)) rest (list_words o site b (outgoing_words p (term w.Not m ∷ rest))) (ap (λ x. list_words o site b x) (put_out_words p (skip m) rest))
  output_tells (w.Chars x) m o p site b rest = tt
  output_tells (w.Number x) m o p site b rest = tt
  output_tells (w.Binary x) m o p site b rest = tt
  output_tells w.Quote m o p site b rest = tt
  output_tells w.Equal m o p site b rest = tt
  output_tells w.Colon m o p site b rest = tt
  output_tells w.Comma m o p site b rest = tt
  output_tells w.Semicolon m o p site b rest = tt
  output_tells w.LineEnd m o p site b rest = tt
  output_tells w.Open m o p site b rest = tt
  output_tells w.Close m o p site b rest = tt
  output_tells w.OpenSquare m o p site b rest = tt
  output_tells w.CloseSquare m o p site b rest = tt
  output_tells w.OpenBrace m o p site b rest = tt
  output_tells w.CloseBrace m o p site b rest = tt
  output_tells w.At m o p site b rest = tt
  output_tells w.Dot m o p site b rest = tt
  output_tells (w.Key x) m o p site b rest = tt

  output_list_tells : (m o : Mark) (p : Outgoing) (t : Output) (site : Site) (b : Block) (rest : List Terminal) → Tells (Steps.output_list r m o p t site b) rest (list_words o site b (outputs (put_out p t) (term w.Open m ∷ rest)))
  output_list_tells m o p (to (entire n)) site b rest = roomy_tells (room r (suc (nests (outputs_of o p site b)))) (Ok (operand (args_of (head (alone n)) m fresh (outputs_of o p site b)))) rest (list_words o site b (outputs (put_out p (to (entire n))) (term w.Open m ∷ rest))) (ap (λ x. list_words o site b x) (sym (put_out_words p (to (entire n)) (term w.Open m ∷ rest))))
  output_list_tells m o p (to (indexed n i a z)) site b rest = tt
  output_list_tells m o p (to (in_braces n i a z)) site b rest = tt
  output_list_tells m o p (skip i) site b rest = tt

  output_brace_tells : (m o : Mark) (p : Outgoing) (t : Output) (site : Site) (b : Block) (rest : List Terminal) → Tells (Steps.output_brace r m o p t site b) rest (list_words o site b (outputs (put_out p t) (term w.OpenBrace m ∷ rest)))
  output_brace_tells m o p (to (entire n)) site b rest = roomy_tells (room r (suc (nests (outputs_of o p site b)))) (Ok (operand (brace_of n m (outputs_of o p site b)))) rest (list_words o site b (outputs (put_out p (to (entire n))) (term w.OpenBrace m ∷ rest))) (ap (λ x. list_words o site b x) (sym (put_out_words p (to (entire n)) (term w.OpenBrace m ∷ rest))))
  output_brace_tells m o p (to (indexed n i a z)) site b rest = tt
  output_brace_tells m o p (to (in_braces n i a z)) site b rest = tt
  output_brace_tells m o p (skip i) site b rest = tt

  next_output_tells : (word : Word) (m o : Mark) (os : Outputs) (site : Site) (b : Block) (rest : List Terminal) → Tells (Steps.next_output r word m o os site b) rest (list_words o site b (outputs os (term word m ∷ rest)))
  next_output_tells word m o os site b rest = choose m.gap (Steps.read_output r word m o (behind_outs os space) site b) refused rest (list_words o site b (outputs os (term word m ∷ rest))) (output_tells word m o (behind_outs os space) site b rest) tt

  behind_output_tells : (word : Word) (m o : Mark) (p : Outgoing) (t : Output) (site : Site) (b : Block) (rest : List Terminal) → Tells (Steps.behind_output r word m o p t site b) rest (list_words o site b (outputs (put_out p t) (term word m ∷ rest)))
  behind_output_tells w.Comma m o p t site b rest = refl
  behind_output_tells w.CloseSquare m o p t site b rest = refl
  behind_output_tells w.Open m o p t site b rest = choose m.gap refused (Steps.output_list r m o p t site b) rest (list_words o site b (outputs (put_out p t) (term w.Open m ∷ rest))) tt (output_list_tells m o p t site b rest)
  behind_output_tells w.OpenBrace m o p t site b rest = output_brace_tells m o p t site b rest
  behind_output_tells word m o p t site b rest = next_output_tells word m o (put_out p t) site b rest

  outputs_tells : (word : Word) (m o : Mark) (os : Outputs) (z : Mark) (site : Site) (b : Block) (rest : List Terminal) → Tells (Steps.behind_outputs word m o os z site b) rest (list_words o site b (outputs os (term w.CloseSquare z ∷ term word m ∷ rest)))
  outputs_tells w.Equal m o os z site b rest = refl
  outputs_tells word m o os z site b rest = tt

  -- ---- statements and headers

  on_sep_tells : (word : Word) (m : Mark) (go : Sep → Step) (rest : List Terminal) (ts : List Terminal → List Terminal) → ((s : Sep) → Tells (go s) rest (ts (sep s rest))) → Tells (Steps.on_sep (Steps.sep_kind word) m go) rest (ts (term word m ∷ rest))
  on_sep_tells w.Comma m go rest ts h = h (record { kind = comma; mark = m })
  on_sep_tells w.Semicolon m go rest ts h = h (record { kind = semicolon; mark = m })
  on_sep_tells w.LineEnd m go rest ts h = h (record { kind = line; mark = m })
  on_sep_tells word m go rest ts h = tt

  -- the spot stands for the terminals before the keyword
  abbrev IsSpotOf : Site → Block → Option Spot → Type 0
  IsSpotOf site b None = Unit {0}
  IsSpotOf site b (Some spot) = (rest : List Terminal) → spot_words spot rest ≡ site_words site (block b rest)

  link_words : (word : Keyword) (site : Site) (b : Block) → IsSpotOf site b (Steps.link_spot word site b)
  link_words word (within o site before) b = pick (λ x. IsSpotOf (within o site before) b x) (follows (Rattle.pl_grammar.specs.Sound.opened_word o) word) (Some (linked o b site before)) None (λ rest. refl) tt
  link_words word main b = tt
  link_words word (body t l s) b = tt

  spot_of_words : (word : Keyword) (site : Site) (b : Block) → IsSpotOf site b (Steps.spot_of word site b)
  spot_of_words word site b = pick (λ x. IsSpotOf site b x) (is_link word) (Steps.link_spot word site b) (if (scene site).holds && may (scene site) word then Some (here site b) else None) (link_words word site b)
      (pick (λ x. IsSpotOf site b x) ((scene site).holds && may (scene site) word) (Some (here site b)) None (λ rest. refl) tt)

  on_spot_tells : (x : Option Spot) (site : Site) (b : Block) (go : Spot → Step) (rest us : List Terminal) → IsSpotOf site b x → ((spot : Spot) → Tells (go spot) rest (spot_words spot us)) → Tells (Steps.on_spot r x go) rest (site_words site (block b us))
  on_spot_tells None site b go rest us h f = tt
  on_spot_tells (Some spot) site b go rest us h f = roomy_tells (room r (suc (site_nests (spot_site spot)))) (go spot) rest (site_words site (block b us)) (retell (go spot) rest (spot_words spot us) (site_words site (block b us)) (h us) (f spot))

  ending_tells : (m : Mark) (site : Site) (b : Block) (rest : List Terminal) → Tells (Steps.ending m site b) rest (site_words site (block b (term (w.Key k.End) m ∷ rest)))
  ending_tells m main b rest = tt
  ending_tells m (body t l s) b rest = refl
  ending_tells m (within o site before) b rest = refl

  defining_tells : (m : Mark) (site : Site) (b : Block) (rest : List Terminal) → Tells (Steps.defining m site b) rest (site_words site (block b (term (w.Key k.Function) m ∷ rest)))
  defining_tells m main b rest = refl
  defining_tells m (body t l s) b rest = tt
  defining_tells m (within o site before) b rest = tt

  use_tells : (u : Use) (word : Keyword) (m : Mark) (site : Site) (b : Block) (rest : List Terminal) → use_of word ≡ u → Tells (Steps.by_use r u word m site b) rest (site_words site (block b (term (w.Key word) m ∷ rest)))
  use_tells tests word m site b rest h = on_spot_tells (Steps.spot_of word site b) site b (λ spot. Ok (operand (lead_of (test word m) spot))) rest (term (w.Key word) m ∷ rest) (spot_of_words word site b) (λ spot. refl)
  use_tells loops word m site b rest h = on_spot_tells (Steps.spot_of word site b) site b (λ spot. Ok (loop word m spot)) rest (term (w.Key word) m ∷ rest) (spot_of_words word site b) (λ spot. refl)
  use_tells direct word m site b rest h = on_spot_tells (Steps.spot_of word site b) site b (λ spot. Ok (start (enter (unheaded word m) spot) empty)) rest (term (w.Key word) m ∷ rest) (spot_of_words word site b) (λ spot. enter_words r (unheaded word m) spot rest)
  use_tells plain word m site b rest h = on_spot_tells (Steps.spot_of word site b) site b (λ spot. Ok (ready (no_value word m) spot)) rest (term (w.Key word) m ∷ rest) (spot_of_words word site b) (λ spot. refl)
  use_tells leaves word m site b rest h =
      let ts : List Terminal = site_words site (block b (term (w.Key word) m ∷ rest)) in
      choose ((scene site).holds && may (scene site) word) (roomy (room r (suc (site_nests site))) (Ok (finished (leave word m) site b))) refused rest ts (roomy_tells (room r (suc (site_nests site))) (Ok (finished (leave word m) site b)) rest ts refl) tt
  use_tells ends k.End m site b rest h = ending_tells m site b rest
  use_tells ends k.Break m site b rest h = cc
  use_tells ends k.Case m site b rest h = cc
  use_tells ends k.Catch m site b rest h = cc
  use_tells ends k.Classdef m site b rest h = cc
  use_tells ends k.Continue m site b rest h = cc
  use_tells ends k.Else m site b rest h = cc
  use_tells ends k.Elseif m site b rest h = cc
  use_tells ends k.For m site b rest h = cc
  use_tells ends k.Function m site b rest h = cc
  use_tells ends k.Global m site b rest h = cc
  use_tells ends k.If m site b rest h = cc
  use_tells ends k.Otherwise m site b rest h = cc
  use_tells ends k.Parfor m site b rest h = cc
  use_tells ends k.Persistent m site b rest h = cc
  use_tells ends k.Return m site b rest h = cc
  use_tells ends k.Spmd m site b rest h = cc
  use_tells ends k.Switch m site b rest h = cc
  use_tells ends k.Try m site b rest h = cc
  use_tells ends k.While m site b rest h = cc
  use_tells defines k.Function m site b rest h = defining_tells m site b rest
  use_tells defines k.Break m site b rest h = cc
  use_tells defines k.Case m site b rest h = cc
  use_tells defines k.Catch m site b rest h = cc
  use_tells defines k.Classdef m site b rest h = cc
  use_tells defines k.Continue m site b rest h = cc
  use_tells defines k.Else m site b rest h = cc
  use_tells defines k.Elseif m site b rest h = cc
  use_tells defines k.End m site b rest h = cc
  use_tells defines k.For m site b rest h = cc
  use_tells defines k.Global m site b rest h = cc
  use_tells defines k.If m site b rest h = cc
  use_tells defines k.Otherwise m site b rest h = cc
  use_tells defines k.Parfor m site b rest h = cc
  use_tells defines k.Persistent m site b rest h = cc
  use_tells defines k.Return m site b rest h = cc
  use_tells defines k.Spmd m site b rest h = cc
  use_tells defines k.Switch m site b rest h = cc
  use_tells defines k.Try m site b rest h = cc
  use_tells defines k.While m site b rest h = cc
  use_tells unused word m site b rest h = tt

  begin_tells : (word : Word) (m : Mark) (site : Site) (b : Block) (rest : List Terminal) → Tells (Steps.begin r word m site b) rest (site_words site (block b (term word m ∷ rest)))
  begin_tells word m site b rest =
      let ts : List Terminal = site_words site (block b (term word m ∷ rest)) in
      choose (scene site).holds (roomy (room r (suc (site_nests site))) (read_operand r word m (goal_of shown site b))) refused rest ts (roomy_tells (room r (suc (site_nests site))) (read_operand r word m (goal_of shown site b)) rest ts (operand_tells r word m (goal_of shown site b) rest)) tt

  start_tells : (word : Word) (m : Mark) (site : Site) (b : Block) (rest : List Terminal) → Tells (Steps.read_start r word m site b) rest (site_words site (block b (term word m ∷ rest)))
  start_tells w.Comma m site b rest = refl
  start_tells w.Semicolon m site b rest = refl
  start_tells w.LineEnd m site b rest = refl
  start_tells (w.Key word) m site b rest = use_tells (use_of word) word m site b rest refl
  start_tells word m site b rest = begin_tells word m site b rest

  loop_tells : (other : Word) (m : Mark) (word : Keyword) (o : Mark) (spot : Spot) (rest : List Terminal) → Tells (Steps.behind_loop other m word o spot) rest (spot_words spot (term (w.Key word) o ∷ term other m ∷ rest))
  loop_tells (w.Name n) m word o spot rest = refl
  loop_tells w.Open m word o spot rest = refl
  loop_tells other m word o spot rest = tt

  loop_in_tells : (other : Word) (m : Mark) (word : Keyword) (o p : Mark) (spot : Spot) (rest : List Terminal) → Tells (Steps.behind_loop_in other m word o p spot) rest (spot_words spot (term (w.Key word) o ∷ term w.Open p ∷ term other m ∷ rest))
  loop_in_tells (w.Name n) m word o p spot rest = refl
  loop_in_tells other m word o p spot rest = tt

  index_tells : (other : Word) (m : Mark) (go : Mark → State) (rest : List Terminal) (ts : List Terminal → List Terminal) → told (go m) rest ≡ ts (term w.Equal m ∷ rest) → Tells (Steps.behind_index other m go) rest (ts (term other m ∷ rest))
  index_tells w.Equal m go rest ts h = h
  index_tells other m go rest ts h = tt

  count_tells : (o : Mark) (h : Heading) (spot : Spot) (rest : List Terminal) → Tells (Steps.count_of o h spot) rest (spot_words spot (heading h (term w.Open o ∷ rest)))
  count_tells o (no_value k.Spmd m) spot rest = refl
  count_tells o (no_value k.Break m) spot rest = tt
  count_tells o (no_value k.Case m) spot rest = tt
  count_tells o (no_value k.Catch m) spot rest = tt
  count_tells o (no_value k.Classdef m) spot rest = tt
  count_tells o (no_value k.Continue m) spot rest = tt
  count_tells o (no_value k.Else m) spot rest = tt
  count_tells o (no_value k.Elseif m) spot rest = tt
  count_tells o (no_value k.End m) spot rest = tt
  count_tells o (no_value k.For m) spot rest = tt
  count_tells o (no_value k.Function m) spot rest = tt
  count_tells o (no_value k.Global m) spot rest = tt
  count_tells o (no_value k.If m) spot rest = tt
  count_tells o (no_value k.Otherwise m) spot rest = tt
  count_tells o (no_value k.Parfor m) spot rest = tt
  count_tells o (no_value k.Persistent m) spot rest = tt
  count_tells o (no_value k.Return m) spot rest = tt
  count_tells o (no_value k.Switch m) spot rest = tt
  count_tells o (no_value k.Try m) spot rest = tt
  count_tells o (no_value k.While m) spot rest = tt
  count_tells o (upto l e) spot rest = tt
  count_tells o (shut i e z) spot rest = tt

  ready_tells : (word : Word) (m : Mark) (h : Heading) (spot : Spot) (rest : List Terminal) → Tells (Steps.behind_heading word m h spot) rest (spot_words spot (heading h (term word m ∷ rest)))
  ready_tells w.Open m h spot rest = count_tells m h spot rest
  ready_tells (w.Name x) m h spot rest = on_sep_tells (w.Name x) m (λ s. Ok (start (enter (headed h s) spot) empty)) rest (λ ts. spot_words spot (heading h ts)) (λ s. enter_words r (headed h s) spot rest)
  ready_tells (w.Chars x) m h spot rest = on_sep_tells (w.Chars x) m (λ s. Ok (start (enter (headed h s) spot) empty)) rest (λ ts. spot_words spot (heading h ts)) (λ s. enter_words r (headed h s) spot rest)
  ready_tells (w.Number x) m h spot rest = on_sep_tells (w.Number x) m (λ s. Ok (start (enter (headed h s) spot) empty)) rest (λ ts. spot_words spot (heading h ts)) (λ s. enter_words r (headed h s) spot rest)
  ready_tells (w.Binary x) m h spot rest = on_sep_tells (w.Binary x) m (λ s. Ok (start (enter (headed h s) spot) empty)) rest (λ ts. spot_words spot (heading h ts)) (λ s. enter_words r (headed h s) spot rest)
  ready_tells w.Not m h spot rest = on_sep_tells w.Not m (λ s. Ok (start (enter (headed h s) spot) empty)) rest (λ ts. spot_words spot (heading h ts)) (λ s. enter_words r (headed h s) spot rest)
  ready_tells w.Quote m h spot rest = on_sep_tells w.Quote m (λ s. Ok (start (enter (headed h s) spot) empty)) rest (λ ts. spot_words spot (heading h ts)) (λ s. enter_words r (headed h s) spot rest)
  ready_tells w.Equal m h spot rest = on_sep_tells w.Equal m (λ s. Ok (start (enter (headed h s) spot) empty)) rest (λ ts. spot_words spot (heading h ts)) (λ s. enter_words r (headed h s) spot rest)
  ready_tells w.Colon m h spot rest = on_sep_tells w.Colon m (λ s. Ok (start (enter (headed h s) spot) empty)) rest (λ ts. spot_words spot (heading h ts)) (λ s. enter_words r (headed h s) spot rest)
  ready_tells w.Comma m h spot rest = on_sep_tells w.Comma m (λ s. Ok (start (enter (headed h s) spot) empty)) rest (λ ts. spot_words spot (heading h ts)) (λ s. enter_words r (headed h s) spot rest)
  ready_tells w.Semicolon m h spot rest = on_sep_tells w.Semicolon m (λ s. Ok (start (enter (headed h s) spot) empty)) rest (λ ts. spot_words spot (heading h ts)) (λ s. enter_words r (headed h s) spot rest)
  ready_tells w.LineEnd m h spot rest = on_sep_tells w.LineEnd m (λ s. Ok (start (enter (headed h s) spot) empty)) rest (λ ts. spot_words spot (heading h ts)) (λ s. enter_words r (headed h s) spot rest)
  ready_tells w.Close m h spot rest = on_sep_tells w.Close m (λ s. Ok (start (enter (headed h s) spot) empty)) rest (λ ts. spot_words spot (heading h ts)) (λ s. enter_words r (headed h s) spot rest)
  ready_tells w.OpenSquare m h spot rest = on_sep_tells w.OpenSquare m (λ s. Ok (start (enter (headed h s) spot) empty)) rest (λ ts. spot_words spot (heading h ts)) (λ s. enter_words r (headed h s) spot rest)
  ready_tells w.CloseSquare m h spot rest = on_sep_tells w.CloseSquare m (λ s. Ok (start (enter (headed h s) spot) empty)) rest (λ ts. spot_words spot (heading h ts)) (λ s. enter_words r (headed h s) spot rest)
  ready_tells w.OpenBrace m h spot rest = on_sep_tells w.OpenBrace m (λ s. Ok (start (enter (headed h s) spot) empty)) rest (λ ts. spot_words spot (heading h ts)) (λ s. enter_words r (headed h s) spot rest)
  ready_tells w.CloseBrace m h spot rest = on_sep_tells w.CloseBrace m (λ s. Ok (start (enter (headed h s) spot) empty)) rest (λ ts. spot_words spot (heading h ts)) (λ s. enter_words r (headed h s) spot rest)
  ready_tells w.At m h spot rest = on_sep_tells w.At m (λ s. Ok (start (enter (headed h s) spot) empty)) rest (λ ts. spot_words spot (heading h ts)) (λ s. enter_words r (headed h s) spot rest)
  ready_tells w.Dot m h spot rest = on_sep_tells w.Dot m (λ s. Ok (start (enter (headed h s) spot) empty)) rest (λ ts. spot_words spot (heading h ts)) (λ s. enter_words r (headed h s) spot rest)
  ready_tells (w.Key x) m h spot rest = on_sep_tells (w.Key x) m (λ s. Ok (start (enter (headed h s) spot) empty)) rest (λ ts. spot_words spot (heading h ts)) (λ s. enter_words r (headed h s) spot rest)

  -- ---- functions

  unique_tells : (text : List ℕ) (t : Top) (s : Step) (rest ts : List Terminal) → Tells s rest ts → Tells (Steps.unique r text t s) rest ts
  unique_tells text t s rest ts h = choose (not r.twice && Rattle.pl_grammar.specs.Sound.has_function text t) (Err Rattle.pl_grammar.specs.declared.fault.FaultKind.TheVariants.FunctionTwice) s rest ts tt h

  unless_tells : (text : List ℕ) (t : Top) (s : Step) (rest ts : List Terminal) → Tells s rest ts → Tells (Steps.unless_twice r text t s) rest ts
  unless_tells text t (Ok st) rest ts h = unique_tells text t (Ok st) rest ts h
  unless_tells text t (Err f) rest ts h = tt

  titled_tells : (word : Word) (m : Mark) (t : Top) (l : Title) (rest : List Terminal) → Tells (Steps.titled_end word m t l) rest (top t (title_words l (term word m ∷ rest)))
  titled_tells word m t l rest = on_sep_tells word m (λ s. Ok (start (body t l s) empty)) rest (λ ts. top t (title_words l ts)) (λ s. refl)

  title_tells : (word : Word) (m : Mark) (t : Top) (f : Mark) (o : Outs) (n : Named) (rest : List Terminal) → Tells (Steps.behind_title word m t f o n) rest (top t (term (w.Key k.Function) f ∷ outs_words o (named n ∷ term word m ∷ rest)))
  title_tells w.Open m t f o n rest = refl
  title_tells (w.Name x) m t f o n rest = titled_tells (w.Name x) m t (title f o n no_list) rest
  title_tells (w.Chars x) m t f o n rest = titled_tells (w.Chars x) m t (title f o n no_list) rest
  title_tells (w.Number x) m t f o n rest = titled_tells (w.Number x) m t (title f o n no_list) rest
  title_tells (w.Binary x) m t f o n rest = titled_tells (w.Binary x) m t (title f o n no_list) rest
  title_tells w.Not m t f o n rest = titled_tells w.Not m t (title f o n no_list) rest
  title_tells w.Quote m t f o n rest = titled_tells w.Quote m t (title f o n no_list) rest
  title_tells w.Equal m t f o n rest = titled_tells w.Equal m t (title f o n no_list) rest
  title_tells w.Colon m t f o n rest = titled_tells w.Colon m t (title f o n no_list) rest
  title_tells w.Comma m t f o n rest = titled_tells w.Comma m t (title f o n no_list) rest
  title_tells w.Semicolon m t f o n rest = titled_tells w.Semicolon m t (title f o n no_list) rest
  title_tells w.LineEnd m t f o n rest = titled_tells w.LineEnd m t (title f o n no_list) rest
  title_tells w.Close m t f o n rest = titled_tells w.Close m t (title f o n no_list) rest
  title_tells w.OpenSquare m t f o n rest = titled_tells w.OpenSquare m t (title f o n no_list) rest
  title_tells w.CloseSquare m t f o n rest = titled_tells w.CloseSquare m t (title f o n no_list) rest
  title_tells w.OpenBrace m t f o n rest = titled_tells w.OpenBrace m t (title f o n no_list) rest
  title_tells w.CloseBrace m t f o n rest = titled_tells w.CloseBrace m t (title f o n no_list) rest
  title_tells w.At m t f o n rest = titled_tells w.At m t (title f o n no_list) rest
  title_tells w.Dot m t f o n rest = titled_tells w.Dot m t (title f o n no_list) rest
  title_tells (w.Key x) m t f o n rest = titled_tells (w.Key x) m t (title f o n no_list) rest

  word_tells : (word : Word) (m : Mark) (t : Top) (f : Mark) (n : Named) (rest : List Terminal) → Tells (Steps.behind_word r word m t f n) rest (top t (term (w.Key k.Function) f ∷ named n ∷ term word m ∷ rest))
  word_tells w.Equal m t f n rest = refl
  word_tells (w.Name x) m t f n rest = unless_tells n.text t (Steps.behind_title (w.Name x) m t f no_outs n) rest (top t (term (w.Key k.Function) f ∷ named n ∷ term (w.Name x) m ∷ rest)) (title_tells (w.Name x) m t f no_outs n rest)
  word_tells (w.Chars x) m t f n rest = unless_tells n.text t (Steps.behind_title (w.Chars x) m t f no_outs n) rest (top t (term (w.Key k.Function) f ∷ named n ∷ term (w.Chars x) m ∷ rest)) (title_tells (w.Chars x) m t f no_outs n rest)
  word_tells (w.Number x) m t f n rest = unless_tells n.text t (Steps.behind_title (w.Number x) m t f no_outs n) rest (top t (term (w.Key k.Function) f ∷ named n ∷ term (w.Number x) m ∷ rest)) (title_tells (w.Number x) m t f no_outs n rest)
  word_tells (w.Binary x) m t f n rest = unless_tells n.text t (Steps.behind_title (w.Binary x) m t f no_outs n) rest (top t (term (w.Key k.Function) f ∷ named n ∷ term (w.Binary x) m ∷ rest)) (title_tells (w.Binary x) m t f no_outs n rest)
  word_tells w.Not m t f n rest = unless_tells n.text t (Steps.behind_title w.Not m t f no_outs n) rest (top t (term (w.Key k.Function) f ∷ named n ∷ term w.Not m ∷ rest)) (title_tells w.Not m t f no_outs n rest)
  word_tells w.Quote m t f n rest = unless_tells n.text t (Steps.behind_title w.Quote m t f no_outs n) rest (top t (term (w.Key k.Function) f ∷ named n ∷ term w.Quote m ∷ rest)) (title_tells w.Quote m t f no_outs n rest)
  word_tells w.Colon m t f n rest = unless_tells n.text t (Steps.behind_title w.Colon m t f no_outs n) rest (top t (term (w.Key k.Function) f ∷ named n ∷ term w.Colon m ∷ rest)) (title_tells w.Colon m t f no_outs n rest)
  word_tells w.Comma m t f n rest = unless_tells n.text t (Steps.behind_title w.Comma m t f no_outs n) rest (top t (term (w.Key k.Function) f ∷ named n ∷ term w.Comma m ∷ rest)) (title_tells w.Comma m t f no_outs n rest)
  word_tells w.Semicolon m t f n rest = unless_tells n.text t (Steps.behind_title w.Semicolon m t f no_outs n) rest (top t (term (w.Key k.Function) f ∷ named n ∷ term w.Semicolon m ∷ rest)) (title_tells w.Semicolon m t f no_outs n rest)
  word_tells w.LineEnd m t f n rest = unless_tells n.text t (Steps.behind_title w.LineEnd m t f no_outs n) rest (top t (term (w.Key k.Function) f ∷ named n ∷ term w.LineEnd m ∷ rest)) (title_tells w.LineEnd m t f no_outs n rest)
  word_tells w.Open m t f n rest = unless_tells n.text t (Steps.behind_title w.Open m t f no_outs n) rest (top t (term (w.Key k.Function) f ∷ named n ∷ term w.Open m ∷ rest)) (title_tells w.Open m t f no_outs n rest)
  word_tells w.Close m t f n rest = unless_tells n.text t (Steps.behind_title w.Close m t f no_outs n) rest (top t (term (w.Key k.Function) f ∷ named n ∷ term w.Close m ∷ rest)) (title_tells w.Close m t f no_outs n rest)
  word_tells w.OpenSquare m t f n rest = unless_tells n.text t (Steps.behind_title w.OpenSquare m t f no_outs n) rest (top t (term (w.Key k.Function) f ∷ named n ∷ term w.OpenSquare m ∷ rest)) (title_tells w.OpenSquare m t f no_outs n rest)
  word_tells w.CloseSquare m t f n rest = unless_tells n.text t (Steps.behind_title w.CloseSquare m t f no_outs n) rest (top t (term (w.Key k.Function) f ∷ named n ∷ term w.CloseSquare m ∷ rest)) (title_tells w.CloseSquare m t f no_outs n rest)
  word_tells w.OpenBrace m t f n rest = unless_tells n.text t (Steps.behind_title w.OpenBrace m t f no_outs n) rest (top t (term (w.Key k.Function) f ∷ named n ∷ term w.OpenBrace m ∷ rest)) (title_tells w.OpenBrace m t f no_outs n rest)
  word_tells w.CloseBrace m t f n rest = unless_tells n.text t (Steps.behind_title w.CloseBrace m t f no_outs n) rest (top t (term (w.Key k.Function) f ∷ named n ∷ term w.CloseBrace m ∷ rest)) (title_tells w.CloseBrace m t f no_outs n rest)
  word_tells w.At m t f n rest = unless_tells n.text t (Steps.behind_title w.At m t f no_outs n) rest (top t (term (w.Key k.Function) f ∷ named n ∷ term w.At m ∷ rest)) (title_tells w.At m t f no_outs n rest)
  word_tells w.Dot m t f n rest = unless_tells n.text t (Steps.behind_title w.Dot m t f no_outs n) rest (top t (term (w.Key k.Function) f ∷ named n ∷ term w.Dot m ∷ rest)) (title_tells w.Dot m t f no_outs n rest)
  word_tells (w.Key x) m t f n rest = unless_tells n.text t (Steps.behind_title (w.Key x) m t f no_outs n) rest (top t (term (w.Key k.Function) f ∷ named n ∷ term (w.Key x) m ∷ rest)) (title_tells (w.Key x) m t f no_outs n rest)

  begun_tells : (word : Word) (m : Mark) (t : Top) (f : Mark) (rest : List Terminal) → Tells (Steps.read_title word m t f) rest (top t (term (w.Key k.Function) f ∷ term word m ∷ rest))
  begun_tells (w.Name n) m t f rest = refl
  begun_tells w.OpenSquare m t f rest = refl
  begun_tells word m t f rest = tt

  close_outs_tells : (p : Waiting) (z : Mark) (t : Top) (f o : Mark) (rest : List Terminal) → Tells (Steps.close_outs p z t f o) rest (top t (term (w.Key k.Function) f ∷ term w.OpenSquare o ∷ waiting_words p (term w.CloseSquare z ∷ rest)))
  close_outs_tells fresh_params z t f o rest = refl
  close_outs_tells (behind_params ps c) z t f o rest = tt

  out_tells : (word : Word) (m : Mark) (t : Top) (f o : Mark) (p : Waiting) (rest : List Terminal) → Tells (Steps.read_out word m t f o p) rest (top t (term (w.Key k.Function) f ∷ term w.OpenSquare o ∷ waiting_words p (term word m ∷ rest)))
  out_tells (w.Name n) m t f o p rest = ap (λ x. top t (term (w.Key k.Function) f ∷ term w.OpenSquare o ∷ x)) (put_param_words p (taken (record { mark = m; text = n })) rest)
  out_tells w.CloseSquare m t f o p rest = close_outs_tells p m t f o rest
  out_tells word m t f o p rest = tt

  behind_out_tells : (word : Word) (m : Mark) (t : Top) (f o : Mark) (ps : Params) (rest : List Terminal) → Tells (Steps.behind_out word m t f o ps) rest (top t (term (w.Key k.Function) f ∷ term w.OpenSquare o ∷ param_words ps (term word m ∷ rest)))
  behind_out_tells w.Comma m t f o ps rest = refl
  behind_out_tells w.CloseSquare m t f o ps rest = refl
  behind_out_tells word m t f o ps rest = tt

  shut_tells : (word : Word) (q : Mark) (t : Top) (f o : Mark) (l : Listing) (z : Mark) (rest : List Terminal) → Tells (Steps.behind_outs_shut word q t f o l z) rest (top t (term (w.Key k.Function) f ∷ term w.OpenSquare o ∷ listing l (term w.CloseSquare z ∷ term word q ∷ rest)))
  shut_tells w.Equal q t f o l z rest = refl
  shut_tells word q t f o l z rest = tt

  naming_tells : (word : Word) (m : Mark) (t : Top) (f : Mark) (o : Outs) (rest : List Terminal) → Tells (Steps.read_name r word m t f o) rest (top t (term (w.Key k.Function) f ∷ outs_words o (term word m ∷ rest)))
  naming_tells (w.Name n) m t f o rest = unique_tells n t (Ok (titling t (entitled f o (record { mark = m; text = n })))) rest (top t (term (w.Key k.Function) f ∷ outs_words o (term (w.Name n) m ∷ rest))) refl
  naming_tells word m t f o rest = tt

  close_params_tells : (p : Waiting) (z : Mark) (t : Top) (f : Mark) (o : Outs) (n : Named) (m : Mark) (rest : List Terminal) → Tells (Steps.close_params p z t f o n m) rest (top t (term (w.Key k.Function) f ∷ outs_words o (named n ∷ term w.Open m ∷ waiting_words p (term w.Close z ∷ rest))))
  close_params_tells fresh_params z t f o n m rest = refl
  close_params_tells (behind_params ps c) z t f o n m rest = tt

  param_tells : (word : Word) (m : Mark) (t : Top) (f : Mark) (o : Outs) (n : Named) (z : Mark) (p : Waiting) (rest : List Terminal) → Tells (Steps.read_param word m t f o n z p) rest (top t (term (w.Key k.Function) f ∷ outs_words o (named n ∷ term w.Open z ∷ waiting_words p (term word m ∷ rest))))
  param_tells (w.Name x) m t f o n z p rest = ap (λ y. top t (term (w.Key k.Function) f ∷ outs_words o (named n ∷ term w.Open z ∷ y))) (put_param_words p (taken (record { mark = m; text = x })) rest)
  param_tells w.Not m t f o n z p rest = ap (λ y. top t (term (w.Key k.Function) f ∷ outs_words o (named n ∷ term w.Open z ∷ y))) (put_param_words p (ignored m) rest)
  param_tells w.Close m t f o n z p rest = close_params_tells p m t f o n z rest
  param_tells word m t f o n z p rest = tt

  behind_param_tells : (word : Word) (m : Mark) (t : Top) (f : Mark) (o : Outs) (n : Named) (z : Mark) (ps : Params) (rest : List Terminal) → Tells (Steps.behind_param word m t f o n z ps) rest (top t (term (w.Key k.Function) f ∷ outs_words o (named n ∷ term w.Open z ∷ param_words ps (term word m ∷ rest))))
  behind_param_tells w.Comma m t f o n z ps rest = refl
  behind_param_tells w.Close m t f o n z ps rest = refl
  behind_param_tells word m t f o n z ps rest = tt

  titling_tells : (word : Word) (m : Mark) (t : Top) (l : Titling) (rest : List Terminal) → Tells (Steps.read_titling r word m t l) rest (top t (titling_words l (term word m ∷ rest)))
  titling_tells word m t (begun_title f) rest = begun_tells word m t f rest
  titling_tells word m t (worded f n) rest = word_tells word m t f n rest
  titling_tells word m t (outs_of f o p) rest = out_tells word m t f o p rest
  titling_tells word m t (out_of f o ps) rest = behind_out_tells word m t f o ps rest
  titling_tells word m t (outs_shut f o l z) rest = shut_tells word m t f o l z rest
  titling_tells word m t (naming f o) rest = naming_tells word m t f o rest
  titling_tells word m t (entitled f o n) rest = title_tells word m t f o n rest
  titling_tells word m t (params_of f o n z p) rest = param_tells word m t f o n z p rest
  titling_tells word m t (param_of f o n z ps) rest = behind_param_tells word m t f o n z ps rest
  titling_tells word m t (titled l) rest = titled_tells word m t l rest

  between_tells : (word : Word) (m : Mark) (t : Top) (rest : List Terminal) → Tells (Steps.behind_function word m t) rest (top t (term word m ∷ rest))
  between_tells (w.Key k.Function) m t rest = refl
  between_tells (w.Key k.Break) m t rest = tt
  between_tells (w.Key k.Case) m t rest = tt
  between_tells (w.Key k.Catch) m t rest = tt
  between_tells (w.Key k.Classdef) m t rest = tt
  between_tells (w.Key k.Continue) m t rest = tt
  between_tells (w.Key k.Else) m t rest = tt
  between_tells (w.Key k.Elseif) m t rest = tt
  between_tells (w.Key k.End) m t rest = tt
  between_tells (w.Key k.For) m t rest = tt
  between_tells (w.Key k.Global) m t rest = tt
  between_tells (w.Key k.If) m t rest = tt
  between_tells (w.Key k.Otherwise) m t rest = tt
  between_tells (w.Key k.Parfor) m t rest = tt
  between_tells (w.Key k.Persistent) m t rest = tt
  between_tells (w.Key k.Return) m t rest = tt
  between_tells (w.Key k.Spmd) m t rest = tt
  between_tells (w.Key k.Switch) m t rest = tt
  between_tells (w.Key k.Try) m t rest = tt
  between_tells (w.Key k.While) m t rest = tt
  between_tells (w.Name x) m t rest = on_sep_tells (w.Name x) m (λ s. Ok (between (spaced t s))) rest (λ ts. top t ts) (λ s. refl)
  between_tells (w.Chars x) m t rest = on_sep_tells (w.Chars x) m (λ s. Ok (between (spaced t s))) rest (λ ts. top t ts) (λ s. refl)
  between_tells (w.Number x) m t rest = on_sep_tells (w.Number x) m (λ s. Ok (between (spaced t s))) rest (λ ts. top t ts) (λ s. refl)
  between_tells (w.Binary x) m t rest = on_sep_tells (w.Binary x) m (λ s. Ok (between (spaced t s))) rest (λ ts. top t ts) (λ s. refl)
  between_tells w.Not m t rest = on_sep_tells w.Not m (λ s. Ok (between (spaced t s))) rest (λ ts. top t ts) (λ s. refl)
  between_tells w.Quote m t rest = on_sep_tells w.Quote m (λ s. Ok (between (spaced t s))) rest (λ ts. top t ts) (λ s. refl)
  between_tells w.Equal m t rest = on_sep_tells w.Equal m (λ s. Ok (between (spaced t s))) rest (λ ts. top t ts) (λ s. refl)
  between_tells w.Colon m t rest = on_sep_tells w.Colon m (λ s. Ok (between (spaced t s))) rest (λ ts. top t ts) (λ s. refl)
  between_tells w.Comma m t rest = on_sep_tells w.Comma m (λ s. Ok (between (spaced t s))) rest (λ ts. top t ts) (λ s. refl)
  between_tells w.Semicolon m t rest = on_sep_tells w.Semicolon m (λ s. Ok (between (spaced t s))) rest (λ ts. top t ts) (λ s. refl)
  between_tells w.LineEnd m t rest = on_sep_tells w.LineEnd m (λ s. Ok (between (spaced t s))) rest (λ ts. top t ts) (λ s. refl)
  between_tells w.Open m t rest = on_sep_tells w.Open m (λ s. Ok (between (spaced t s))) rest (λ ts. top t ts) (λ s. refl)
  between_tells w.Close m t rest = on_sep_tells w.Close m (λ s. Ok (between (spaced t s))) rest (λ ts. top t ts) (λ s. refl)
  between_tells w.OpenSquare m t rest = on_sep_tells w.OpenSquare m (λ s. Ok (between (spaced t s))) rest (λ ts. top t ts) (λ s. refl)
  between_tells w.CloseSquare m t rest = on_sep_tells w.CloseSquare m (λ s. Ok (between (spaced t s))) rest (λ ts. top t ts) (λ s. refl)
  between_tells w.OpenBrace m t rest = on_sep_tells w.OpenBrace m (λ s. Ok (between (spaced t s))) rest (λ ts. top t ts) (λ s. refl)
  between_tells w.CloseBrace m t rest = on_sep_tells w.CloseBrace m (λ s. Ok (between (spaced t s))) rest (λ ts. top t ts) (λ s. refl)
  between_tells w.At m t rest = on_sep_tells w.At m (λ s. Ok (between (spaced t s))) rest (λ ts. top t ts) (λ s. refl)
  between_tells w.Dot m t rest = on_sep_tells w.Dot m (λ s. Ok (between (spaced t s))) rest (λ ts. top t ts) (λ s. refl)

  -- ---- a step, and a run

  word_keeps : (st : State) (word : Word) (m : Mark) (rest : List Terminal) → Tells (Steps.on_word r st word m) rest (told st (term word m ∷ rest))
  word_keeps (start site b) word m rest = start_tells word m site b rest
  word_keeps (finished s site b) word m rest = on_sep_tells word m (λ e. Ok (start site (statement b s e))) rest (λ ts. site_words site (block b (smt s ts))) (λ e. refl)
  word_keeps (operand S) word m rest = operand_tells r word m S rest
  word_keeps (after e S) word m rest = after_tells r word m e S rest
  word_keeps (coloned c S) word m rest = colon_tells word m c S rest
  word_keeps (torn e a n S) word m rest = untear_tells r e a n S word m rest
  word_keeps (at_sign a S) word m rest = at_tells word m a S rest
  word_keeps (stemmed h S) word m rest = stem_tells word m h S rest
  word_keeps (dot e d S) word m rest = dot_tells word m e d S rest
  word_keeps (output o p site b) word m rest = output_tells word m o p site b rest
  word_keeps (output_read o p t site b) word m rest = behind_output_tells word m o p t site b rest
  word_keeps (outputs_shut o os z site b) word m rest = outputs_tells word m o os z site b rest
  word_keeps (loop key o spot) word m rest = loop_tells word m key o spot rest
  word_keeps (loop_in key o p spot) word m rest = loop_in_tells word m key o p spot rest
  word_keeps (index key o n spot) word m rest = index_tells word m (λ q. operand (lead_of (each key o n q) spot)) rest (λ ts. spot_words spot (term (w.Key key) o ∷ named n ∷ ts)) refl
  word_keeps (index_in key o p n spot) word m rest = index_tells word m (λ q. operand (inner_of (each_in key o p n q) spot)) rest (λ ts. spot_words spot (term (w.Key key) o ∷ term w.Open p ∷ named n ∷ ts)) refl
  word_keeps (ready h spot) word m rest = ready_tells word m h spot rest
  word_keeps (titling t l) word m rest = titling_tells word m t l rest
  word_keeps (between t) word m rest = between_tells word m t rest

  -- a step that leads on leaves what has been told
  pub keeps : (st : State) (t : Terminal) (rest : List Terminal) → Tells (step r st t) rest (told st (t ∷ rest))
  keeps st t rest = word_keeps st t.word (mark_of t) rest

  -- where a run may end, what has been told are the program's terminals
  abbrev Ends : State → Option Prog → Type 0
  Ends st None = Unit {0}
  Ends st (Some p) = prog p ≡ told st []

  after_ends : (e : Ex) (S : Stack) → Ends (after e S) (Steps.end_after e S)
  after_ends e (goal_of g main b) = ap (λ x. block b x) (settle_words r g e [])
  after_ends e (goal_of g (body t l s) b) = tt
  after_ends e (goal_of g (within o site before) b) = tt
  after_ends e (lead_of l spot) = tt
  after_ends e (inner_of i spot) = tt
  after_ends e (outputs_of o q site b) = tt
  after_ends e (op_of p S) = tt
  after_ends e (paren_of o S) = tt
  after_ends e (args_of f o q S) = tt
  after_ends e (brace_of o q S) = tt
  after_ends e (row_of o rs q S) = tt

  end_reduced : (e : Ex) (S : Stack) (x : Option Prog) → Steps.end_after (reduce 0 e S).operand (reduce 0 e S).stack ≡ x → Ends (after e S) x
  end_reduced e S None h = tt
  end_reduced e S (Some p) h = let f : Ends (after (reduce 0 e S).operand (reduce 0 e S).stack) (Some p) = rw h at (after_ends (reduce 0 e S).operand (reduce 0 e S).stack) in f ∙ reduce_tells 0 e S []

  ends_told : (st : State) → Ends st (ended st)
  ends_told (start main b) = refl
  ends_told (start (body t l s) b) = tt
  ends_told (start (within o site before) b) = tt
  ends_told (finished s main b) = refl
  ends_told (finished s (body t l x) b) = tt
  ends_told (finished s (within o site before) b) = tt
  ends_told (after e S) = end_reduced e S (Steps.end_after (reduce 0 e S).operand (reduce 0 e S).stack) refl
  ends_told (between t) = refl
  ends_told st = tt

  -- a run that ends well has told the terminals of its program
  pub run_keeps : (ts : List Terminal) (st : State) (p : Prog) → run r st ts ≡ Ok p → prog p ≡ told st ts
  run_keeps [] st p h = by_end (ended st) refl h
    where
      by_end : (x : Option Prog) → ended st ≡ x → Steps.finish_with st x ≡ Ok p → prog p ≡ told st []
      by_end None g f = cc
      by_end (Some q) g f = let e : q ≡ p = cc in let x : Ends st (Some q) = rw g at (ends_told st) in ap prog (sym e) ∙ x
  run_keeps (t ∷ ts) st p h = by_step (λ next g. run_keeps ts next p g) (step r st t) refl h
    where
      by_step : ((next : State) → run r next ts ≡ Ok p → prog p ≡ told next ts) → (s : Step) → step r st t ≡ s → onward s (λ next. run r next ts) (suc (length ts)) ≡ Ok p → prog p ≡ told st (t ∷ ts)
      by_step ih (Err f) g e = cc
      by_step ih (Ok next) g e = let x : Tells (Ok next) ts (told st (t ∷ ts)) = rw g at (keeps st t ts) in ih next e ∙ x
