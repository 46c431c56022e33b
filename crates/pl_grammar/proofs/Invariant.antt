-- Each step leads from a good state to a good one, and so a run that ends well has read a sound program.
use Rattle.std.proofs.Common.{◌≡◌, ℕ, suc, ◌+◌, true, false, not, ◌&&◌, if◌then◌else◌, Option, Some, None, List, [], ◌∷◌, length, Ok, Err, refl, subst, arith, ◌≤◌}
use Rattle.std.specs.Prelude.{max}
use Rattle.pl_grammar.specs.declared.fault.FaultKind.TheVariants.{FunctionTwice}
use Rattle.pl_grammar.specs.declared.terminal.Terminal.{Terminal}
use Rattle.pl_grammar.specs.declared.terminal.Word.{Word}
use Rattle.pl_grammar.specs.declared.terminal.Word.TheVariants as w
use Rattle.pl_grammar.specs.declared.terminal.Keyword.{Keyword}
use Rattle.pl_grammar.specs.declared.terminal.Keyword.TheVariants as k
use Rattle.pl_grammar.specs.Words.{Mark, mark_of, Named, SepKind, Sep, Use, tests, loops, direct, plain, leaves, ends, defines, unused, use_of, is_link, follows, Dots, whole, stem, neither, dots, is_state}
use Rattle.pl_grammar.specs.Derivations.{Head, alone, dotted, space, Ex, number, bare, call, state, head, braced, listed, colon, entire, indexed, in_braces, Output, to, skip, Outputs, shown, test, each, each_in, Heading, upto, shut, no_value, headed, unheaded, leave, Block, empty, statement, taken, Params, Listing, Outs, no_outs, no_list, Title, title, Top, spaced, Prog}
use Rattle.pl_grammar.specs.Trees.{head_mark, mark, op_mark, callee_mark, tgt_mark}
use Rattle.pl_grammar.specs.Nesting.{output_height, across, run_of, outputs_height, smt_height, block_height, opened_height, top_height, prog_height}
use Rattle.pl_grammar.specs.Sound.{IsStem, has_state, SoundOutput, output_mark, SoundOutputs, outermost, may, opened_word, AreNamed, ListsNames, SoundOuts, title_name, has_function, SoundTitle, SoundProg}
use Rattle.pl_grammar.specs.Programs.{Rules}
use Rattle.pl_grammar.specs.Machine.{fresh, Outgoing, fresh_outs, behind_outs, Waiting, fresh_params, behind_params, put, put_out, put_param, Site, main, body, within, Spot, here, linked, Stack, goal_of, lead_of, inner_of, outputs_of, op_of, paren_of, args_of, brace_of, row_of, Titling, begun_title, worded, outs_of, out_of, outs_shut, naming, entitled, params_of, param_of, titled, State, start, finished, operand, after, coloned, torn, at_sign, stemmed, dot, output, output_read, outputs_shut, loop, loop_in, index, index_in, ready, titling, between, spot_site, site_nests, outgoing_run, scene, enter, nests, in_row, beginning}
use Rattle.pl_grammar.specs.Steps
use Rattle.pl_grammar.specs.Steps.{Step, Held, roomy, room, refused, reduce, run, step, onward, Answer, callee_tgt, tgt_of, set_out, set_tgt, pass, element_outputs, item_outputs, behind_all, row_outputs, pending_outputs, Outlist, as_outputs, called, embraced, read_operand, go_on, read_after, settle, ended}
use Rattle.pl_grammar.proofs.Basics.{Accepts}
use Rattle.pl_grammar.proofs.Operands.{max_room, decide, both_true, fine_roomy, Left, reduce_good, enters_free, called_good, operand_good}
use Rattle.pl_grammar.proofs.Follows.{put_args, put_height, settle_good, settle_height, enter_good, after_good, untear_good}
use Rattle.pl_grammar.proofs.Sites.{Placed, OutsSound, outs_height, IsNextOut, WaitingNames, Unique, TopGood, BlockGood, SpotGood, Fits, spot_room, OutsGood, StackGood, Fitting, AfterGood, IsList, TitlingGood, Good, Fine}

put_out_sound : (p : Outgoing) (o : Output) → OutsSound p → IsNextOut p o → SoundOutput o → SoundOutputs (put_out p o)
put_out_sound fresh_outs o h n d = d
put_out_sound (behind_outs os c) o h n d = (h, n, d)

put_out_height : (p : Outgoing) (o : Output) (n l : ℕ) → outs_height p + n ≤ l → outgoing_run p + output_height o + n ≤ l → outputs_height (put_out p o) + n ≤ l
put_out_height fresh_outs o n l h j = omega (arith, j)
put_out_height (behind_outs os c) o n l h j = max_room (outputs_height os) (across c (run_of os) + output_height o) n l h j

put_out_run : (p : Outgoing) (o : Output) (n l : ℕ) → outgoing_run p + output_height o + n ≤ l → run_of (put_out p o) + n ≤ l
put_out_run fresh_outs (to t) n l h = omega (arith, h)
put_out_run fresh_outs (skip m) n l h = omega (arith, h)
put_out_run (behind_outs os c) (to t) n l h = omega (arith, h)
put_out_run (behind_outs os c) (skip m) n l h = omega (arith, h)

put_names : (p : Waiting) (n : Named) → WaitingNames p → AreNamed (put_param p (taken n))
put_names fresh_params n h = tt
put_names (behind_params ps c) n h = (h, tt)

module _ (r : Rules) where
  -- ---- names and lists

  colon_good : (word : Word) (m c : Mark) (S : Stack) → StackGood r S → IsList r S → Fine r (Steps.behind_colon word m c S)
  colon_good w.Comma m c (args_of f n p S) g i = ((g.0, g.1, (put_args p (colon c) g.2 refl, tt), put_height p (colon c) (suc (nests S)) r.limit g.3 (omega (arith, g.3)), g.4, g.5), (λ gap sticky. tt), tt)
  colon_good w.Close m c (args_of f n p S) g i = called_good r f n (listed (put p (colon c))) m S g.0 g.1 (put_args p (colon c) g.2 refl) g.4 (put_height p (colon c) (suc (nests S)) r.limit g.3 (omega (arith, g.3))) g.5
  colon_good w.Comma m c (goal_of g site b) h i' = tt
  colon_good w.Comma m c (lead_of l spot) h i' = tt
  colon_good w.Comma m c (inner_of x spot) h i' = tt
  colon_good w.Comma m c (outputs_of o q site b) h i' = tt
  colon_good w.Comma m c (op_of p S) h i' = tt
  colon_good w.Comma m c (paren_of o S) h i' = tt
  colon_good w.Comma m c (brace_of o q S) h i' = tt
  colon_good w.Comma m c (row_of o rs q S) h i' = tt
  colon_good w.Close m c (goal_of g site b) h i' = tt
  colon_good w.Close m c (lead_of l spot) h i' = tt
  colon_good w.Close m c (inner_of x spot) h i' = tt
  colon_good w.Close m c (outputs_of o q site b) h i' = tt
  colon_good w.Close m c (op_of p S) h i' = tt
  colon_good w.Close m c (paren_of o S) h i' = tt
  colon_good w.Close m c (brace_of o q S) h i' = tt
  colon_good w.Close m c (row_of o rs q S) h i' = tt
  colon_good (w.Name x) m c S g i = tt
  colon_good (w.Chars x) m c S g i = tt
  colon_good (w.Number x) m c S g i = tt
  colon_good (w.Binary x) m c S g i = tt
  colon_good w.Not m c S g i = tt
  colon_good w.Quote m c S g i = tt
  colon_good w.Equal m c S g i = tt
  colon_good w.Colon m c S g i = tt
  colon_good w.Semicolon m c S g i = tt
  colon_good w.LineEnd m c S g i = tt
  colon_good w.Open m c S g i = tt
  colon_good w.OpenSquare m c S g i = tt
  colon_good w.CloseSquare m c S g i = tt
  colon_good w.OpenBrace m c S g i = tt
  colon_good w.CloseBrace m c S g i = tt
  colon_good w.At m c S g i = tt
  colon_good w.Dot m c S g i = tt
  colon_good (w.Key x) m c S g i = tt

  at_good : (word : Word) (m a : Mark) (S : Stack) → Good r (at_sign a S) → Fine r (Steps.behind_at word m a S)
  at_good (w.Name n) m a S h = ((h.0, tt, h.1, omega (arith, h.3), h.2), omega arith)
  at_good word m a S h = tt

  dot_or_good : (x : Dots) (h : Head) (d : Mark) (n : Named) (S : Stack) → dots (Rattle.pl_grammar.specs.Trees.head_text (dotted h d n)) ≡ x → is_state n.text ≡ false → StackGood r S → Accepts S 11 → Placed (head_mark h).gap true S → nests S ≤ r.limit → IsStem h
      → Fine r (Steps.dot_or x (dotted h d n) S)
  dot_or_good whole h d n S e f g a p l i = ((g, (f, e, i), a, omega (arith, l), p), omega arith)
  dot_or_good stem h d n S e f g a p l i = (g, a, p, l, (f, e, i))
  dot_or_good neither h d n S e f g a p l i = tt

  longer_good : (e : Ex) (d : Mark) (n : Named) (S : Stack) → is_state n.text ≡ false → Good r (dot e d S) → Fine r (Steps.longer e d n S)
  longer_good (bare (head h)) d n S f g = dot_or_good (dots (Rattle.pl_grammar.specs.Trees.head_text (dotted h d n))) h d n S refl f g.0 g.1 g.2 (omega (arith, g.3)) g.4
  longer_good (bare (braced x y z u)) d n S f g = tt
  longer_good e d n S f g = tt

  state_good : (e : Ex) (d : Mark) (n : Named) (S : Stack) → has_state e ≡ true → Good r (dot e d S) → AfterGood r (state e d n.mark) S
  state_good (bare (head (alone x))) d n S h g = ((g.0, (h, tt), g.1, g.3, g.2), omega arith)
  state_good (call (head (alone x)) i a z) d n S h g = ((g.0, (h, g.4.1), g.1, g.3, g.2), omega arith)
  state_good (bare (head (dotted x y z))) d n S h g = cc
  state_good (bare (braced x y z u)) d n S h g = cc
  state_good (call (head (dotted x y z)) i a u) d n S h g = cc
  state_good (call (braced x y z u) i a t) d n S h g = cc
  state_good (number i z) d n S h g = cc
  state_good e d n S h g = cc

  name_good : (e : Ex) (d : Mark) (n : Named) (S : Stack) → Good r (dot e d S) → Fine r (Steps.dot_name e d n S)
  name_good e d n S g = decide (λ x. Fine r x) (is_state n.text) (if has_state e then Ok (after (state e d n.mark) S) else refused) (Steps.longer e d n S)
      (λ f. decide (λ x. Fine r x) (has_state e) (Ok (after (state e d n.mark) S)) refused (λ h. state_good e d n S h g) (λ h. tt)) (λ f. longer_good e d n S f g)

  dot_word_good : (word : Word) (m : Mark) (e : Ex) (d : Mark) (S : Stack) → Good r (dot e d S) → Fine r (Steps.behind_dot word m e d S)
  dot_word_good (w.Name n) m e d S g = name_good e d (record { mark = m; text = n }) S g
  dot_word_good word m e d S g = tt

  stem_good : (word : Word) (m : Mark) (h : Head) (S : Stack) → Good r (stemmed h S) → Fine r (Steps.behind_stem word m h S)
  stem_good w.Dot m h S g = (g.0, g.1, g.2, omega (arith, g.3), g.4)
  stem_good word m h S g = tt

  -- ---- outputs

  output_good : (word : Word) (m o : Mark) (p : Outgoing) (site : Site) (b : Block) → OutsGood r p site b → ((x : Output) → output_mark x ≡ m → IsNextOut p x) → Fine r (Steps.read_output r word m o p site b)
  output_good (w.Name n) m o p site b g f = (g, f (to (entire (record { mark = m; text = n }))) refl, tt, omega (arith, g.4))
  output_good w.Not m o p site b g f = fine_roomy r (suc (outgoing_run p + suc (suc (site_nests site)))) (Ok (output_read o p (skip m) site b)) (λ l. (g, f (skip m) refl, tt, omega (arith, l)))
  output_good (w.Chars x) m o p site b g f = tt
  output_good (w.Number x) m o p site b g f = tt
  output_good (w.Binary x) m o p site b g f = tt
  output_good w.Quote m o p site b g f = tt
  output_good w.Equal m o p site b g f = tt
  output_good w.Colon m o p site b g f = tt
  output_good w.Comma m o p site b g f = tt
  output_good w.Semicolon m o p site b g f = tt
  output_good w.LineEnd m o p site b g f = tt
  output_good w.Open m o p site b g f = tt
  output_good w.Close m o p site b g f = tt
  output_good w.OpenSquare m o p site b g f = tt
  output_good w.CloseSquare m o p site b g f = tt
  output_good w.OpenBrace m o p site b g f = tt
  output_good w.CloseBrace m o p site b g f = tt
  output_good w.At m o p site b g f = tt
  output_good w.Dot m o p site b g f = tt
  output_good (w.Key x) m o p site b g f = tt

  output_list_good : (m o : Mark) (p : Outgoing) (t : Output) (site : Site) (b : Block) → OutsGood r p site b → IsNextOut p t → m.gap ≡ false → Fine r (Steps.output_list r m o p t site b)
  output_list_good m o p (to (entire n)) site b g f e = fine_roomy r (suc (nests (outputs_of o p site b))) (Ok (operand (args_of (head (alone n)) m fresh (outputs_of o p site b)))) (λ l. ((g, tt, tt, omega (arith, l), omega (arith, l), (e, f)), (λ gap sticky. tt), tt))
  output_list_good m o p (to (indexed n i a z)) site b g f e = tt
  output_list_good m o p (to (in_braces n i a z)) site b g f e = tt
  output_list_good m o p (skip i) site b g f e = tt

  output_brace_good : (m o : Mark) (p : Outgoing) (t : Output) (site : Site) (b : Block) → OutsGood r p site b → IsNextOut p t → Fine r (Steps.output_brace r m o p t site b)
  output_brace_good m o p (to (entire n)) site b g f = fine_roomy r (suc (nests (outputs_of o p site b))) (Ok (operand (brace_of n m (outputs_of o p site b)))) (λ l. ((g, l, f), (λ gap sticky. tt), tt))
  output_brace_good m o p (to (indexed n i a z)) site b g f = tt
  output_brace_good m o p (to (in_braces n i a z)) site b g f = tt
  output_brace_good m o p (skip i) site b g f = tt

  next_output_good : (word : Word) (m o : Mark) (p : Outgoing) (t : Output) (site : Site) (b : Block) → Good r (output_read o p t site b) → Fine r (Steps.next_output r word m o (put_out p t) site b)
  next_output_good word m o p t site b g =
      let n : ℕ = suc (suc (site_nests site)) in
      decide (λ x. Fine r x) m.gap (Steps.read_output r word m o (behind_outs (put_out p t) space) site b) refused
      (λ e. output_good word m o (behind_outs (put_out p t) space) site b
      (g.0.0, g.0.1, put_out_sound p t g.0.2 g.1 g.2, put_out_height p t n r.limit g.0.3 g.3, put_out_run p t n r.limit g.3) (λ x f. rw f e))
      (λ e. tt)

  behind_output_good : (word : Word) (m o : Mark) (p : Outgoing) (t : Output) (site : Site) (b : Block) → Good r (output_read o p t site b) → Fine r (Steps.behind_output r word m o p t site b)
  behind_output_good w.Comma m o p t site b g =
      let v : outputs_height (put_out p t) + suc (suc (site_nests site)) ≤ r.limit = put_out_height p t (suc (suc (site_nests site))) r.limit g.0.3 g.3 in
      ((g.0.0, g.0.1, put_out_sound p t g.0.2 g.1 g.2, v, omega (arith, v)), (λ x. tt))
  behind_output_good w.CloseSquare m o p t site b g = (g.0.0, g.0.1, put_out_sound p t g.0.2 g.1 g.2, put_out_height p t (suc (suc (site_nests site))) r.limit g.0.3 g.3)
  behind_output_good w.Open m o p t site b g = decide (λ x. Fine r x) m.gap refused (Steps.output_list r m o p t site b) (λ e. tt) (λ e. output_list_good m o p t site b g.0 g.1 e)
  behind_output_good w.OpenBrace m o p t site b g = output_brace_good m o p t site b g.0 g.1
  behind_output_good (w.Name x) m o p t site b g = next_output_good (w.Name x) m o p t site b g
  behind_output_good (w.Chars x) m o p t site b g = next_output_good (w.Chars x) m o p t site b g
  behind_output_good (w.Number x) m o p t site b g = next_output_good (w.Number x) m o p t site b g
  behind_output_good (w.Binary x) m o p t site b g = next_output_good (w.Binary x) m o p t site b g
  behind_output_good w.Not m o p t site b g = next_output_good w.Not m o p t site b g
  behind_output_good w.Quote m o p t site b g = next_output_good w.Quote m o p t site b g
  behind_output_good w.Equal m o p t site b g = next_output_good w.Equal m o p t site b g
  behind_output_good w.Colon m o p t site b g = next_output_good w.Colon m o p t site b g
  behind_output_good w.Semicolon m o p t site b g = next_output_good w.Semicolon m o p t site b g
  behind_output_good w.LineEnd m o p t site b g = next_output_good w.LineEnd m o p t site b g
  behind_output_good w.Close m o p t site b g = next_output_good w.Close m o p t site b g
  behind_output_good w.OpenSquare m o p t site b g = next_output_good w.OpenSquare m o p t site b g
  behind_output_good w.CloseBrace m o p t site b g = next_output_good w.CloseBrace m o p t site b g
  behind_output_good w.At m o p t site b g = next_output_good w.At m o p t site b g
  behind_output_good w.Dot m o p t site b g = next_output_good w.Dot m o p t site b g
  behind_output_good (w.Key x) m o p t site b g = next_output_good (w.Key x) m o p t site b g

  outputs_good : (word : Word) (m o : Mark) (os : Outputs) (z : Mark) (site : Site) (b : Block) → Good r (outputs_shut o os z site b) → Fine r (Steps.behind_outputs word m o os z site b)
  outputs_good w.Equal m o os z site b g = ((g.0, g.1, g.2, omega (arith, g.3)), (λ gap sticky. tt), tt)
  outputs_good word m o os z site b g = tt

  -- ---- statements and headers

  on_sep_good : (word : Word) (m : Mark) (go : Sep → Step) → ((s : Sep) → Fine r (go s)) → Fine r (Steps.on_sep (Steps.sep_kind word) m go)
  on_sep_good word m go h = by_kind (Steps.sep_kind word)
    where
      by_kind : (x : Option SepKind) → Fine r (Steps.on_sep x m go)
      by_kind None = tt
      by_kind (Some k) = h (record { kind = k; mark = m })

  abbrev SpotOk : Keyword → Option Spot → Type 0
  SpotOk word None = Unit {0}
  SpotOk word (Some spot) = SpotGood r spot × Fits r spot word

  link_good : (word : Keyword) (site : Site) (b : Block) → BlockGood r site b → SpotOk word (Steps.link_spot word site b)
  link_good word (within o site before) b g = decide (λ x. SpotOk word x) (follows (opened_word o) word) (Some (linked o b site before)) None (λ e. ((g.0.0, g.0.1, g.0.2, g.0.3, g.1, g.2), e)) (λ e. tt)
  link_good word main b g = tt
  link_good word (body t l s) b g = tt

  spot_good : (word : Keyword) (site : Site) (b : Block) → BlockGood r site b → SpotOk word (Steps.spot_of word site b)
  spot_good word site b g = decide (λ x. SpotOk word x) (is_link word) (Steps.link_spot word site b) (if (scene site).holds && may (scene site) word then Some (here site b) else None) (λ e. link_good word site b g)
      (λ e. decide (λ x. SpotOk word x) ((scene site).holds && may (scene site) word) (Some (here site b)) None (λ f. let q : ((scene site).holds ≡ true) × (may (scene site) word ≡ true) = both_true (scene site).holds (may (scene site) word) f in ((g, q.0), (e, q.1))) (λ f. tt))

  on_spot_good : (word : Keyword) (x : Option Spot) (go : Spot → Step) → SpotOk word x → ((spot : Spot) → SpotGood r spot → Fits r spot word → spot_room r spot ≤ r.limit → Fine r (go spot)) → Fine r (Steps.on_spot r x go)
  on_spot_good word None go h f = tt
  on_spot_good word (Some spot) go h f = fine_roomy r (suc (site_nests (spot_site spot))) (go spot) (λ l. f spot h.0 h.1 l)

  ending_good : (m : Mark) (site : Site) (b : Block) → BlockGood r site b → Fine r (Steps.ending m site b)
  ending_good m main b g = tt
  ending_good m (body t l s) b g =
      let v : max (top_height t) (block_height b) + 0 ≤ r.limit = max_room (top_height t) (block_height b) 0 r.limit (omega (arith, g.0.0.1)) g.2 in
      (((g.0.0.0, g.0.2, (g.0.1, g.1)), omega (arith, v)), tt)
  ending_good m (within o site before) b g =
      let v : max (opened_height o) (block_height b) + suc (site_nests site) ≤ r.limit = max_room (opened_height o) (block_height b) (suc (site_nests site)) r.limit g.0.3 g.2 in
      (g.0.0, g.0.1, (g.0.2, g.1), omega (arith, v))

  defining_good : (m : Mark) (site : Site) (b : Block) → BlockGood r site b → Fine r (Steps.defining m site b)
  defining_good m main b g = ((g.1, omega (arith, g.2)), tt)
  defining_good m (body t l s) b g = tt
  defining_good m (within o site before) b g = tt

  use_good : (u : Use) (word : Keyword) (m : Mark) (site : Site) (b : Block) → use_of word ≡ u → BlockGood r site b → Fine r (Steps.by_use r u word m site b)
  use_good tests word m site b e g = on_spot_good word (Steps.spot_of word site b) (λ spot. Ok (operand (lead_of (test word m) spot))) (spot_good word site b g) (λ spot h f l. ((h, f, e, l), (λ gap sticky. tt), tt))
  use_good loops word m site b e g = on_spot_good word (Steps.spot_of word site b) (λ spot. Ok (loop word m spot)) (spot_good word site b g) (λ spot h f l. (h, f, e, l))
  use_good direct word m site b e g = on_spot_good word (Steps.spot_of word site b) (λ spot. Ok (start (enter (unheaded word m) spot) empty)) (spot_good word site b g) (λ spot h f l. enter_good r (unheaded word m) spot h f e (omega (arith, l)))
  use_good plain word m site b e g = on_spot_good word (Steps.spot_of word site b) (λ spot. Ok (ready (no_value word m) spot)) (spot_good word site b g) (λ spot h f l. (h, f, e, omega (arith, l)))
  use_good leaves word m site b e g = decide (λ x. Fine r x) ((scene site).holds && may (scene site) word) (roomy (room r (suc (site_nests site))) (Ok (finished (leave word m) site b))) refused
      (λ f. let q : ((scene site).holds ≡ true) × (may (scene site) word ≡ true) = both_true (scene site).holds (may (scene site) word) f in fine_roomy r (suc (site_nests site)) (Ok (finished (leave word m) site b)) (λ l. (g, q.0, (e, q.1), omega (arith, l)))) (λ f. tt)
  use_good ends word m site b e g = ending_good m site b g
  use_good defines word m site b e g = defining_good m site b g
  use_good unused word m site b e g = tt

  begin_good : (word : Word) (m : Mark) (site : Site) (b : Block) → BlockGood r site b → Fine r (Steps.begin r word m site b)
  begin_good word m site b g = decide (λ x. Fine r x) (scene site).holds (roomy (room r (suc (site_nests site))) (read_operand r word m (goal_of shown site b))) refused
      (λ f. fine_roomy r (suc (site_nests site)) (read_operand r word m (goal_of shown site b)) (λ l. operand_good r word m (goal_of shown site b) (g, f, tt, omega (arith, l)) tt (enters_free r word m (goal_of shown site b) (λ gap sticky. tt)))) (λ f. tt)

  start_good : (word : Word) (m : Mark) (site : Site) (b : Block) → BlockGood r site b → Fine r (Steps.read_start r word m site b)
  start_good w.Comma m site b g = g
  start_good w.Semicolon m site b g = g
  start_good w.LineEnd m site b g = g
  start_good (w.Key word) m site b g = use_good (use_of word) word m site b refl g
  start_good word m site b g = begin_good word m site b g

  loop_good : (other : Word) (m : Mark) (word : Keyword) (o : Mark) (spot : Spot) → Good r (loop word o spot) → Fine r (Steps.behind_loop other m word o spot)
  loop_good (w.Name n) m word o spot g = g
  loop_good w.Open m word o spot g = g
  loop_good other m word o spot g = tt

  loop_in_good : (other : Word) (m : Mark) (word : Keyword) (o p : Mark) (spot : Spot) → Good r (loop_in word o p spot) → Fine r (Steps.behind_loop_in other m word o p spot)
  loop_in_good (w.Name n) m word o p spot g = g
  loop_in_good other m word o p spot g = tt

  index_good : (other : Word) (q : Mark) (go : Mark → State) → Good r (go q) → Fine r (Steps.behind_index other q go)
  index_good w.Equal q go g = g
  index_good other q go g = tt

  count_good : (o : Mark) (h : Heading) (spot : Spot) → Good r (ready h spot) → Fine r (Steps.count_of o h spot)
  count_good o (no_value k.Spmd m) spot g = ((g.0, g.1, tt, g.3), (λ gap sticky. tt), tt)
  count_good o (no_value k.Break m) spot g = tt
  count_good o (no_value k.Case m) spot g = tt
  count_good o (no_value k.Catch m) spot g = tt
  count_good o (no_value k.Classdef m) spot g = tt
  count_good o (no_value k.Continue m) spot g = tt
  count_good o (no_value k.Else m) spot g = tt
  count_good o (no_value k.Elseif m) spot g = tt
  count_good o (no_value k.End m) spot g = tt
  count_good o (no_value k.For m) spot g = tt
  count_good o (no_value k.Function m) spot g = tt
  count_good o (no_value k.Global m) spot g = tt
  count_good o (no_value k.If m) spot g = tt
  count_good o (no_value k.Otherwise m) spot g = tt
  count_good o (no_value k.Parfor m) spot g = tt
  count_good o (no_value k.Persistent m) spot g = tt
  count_good o (no_value k.Return m) spot g = tt
  count_good o (no_value k.Switch m) spot g = tt
  count_good o (no_value k.Try m) spot g = tt
  count_good o (no_value k.While m) spot g = tt
  count_good o (upto l e) spot g = tt
  count_good o (shut i e z) spot g = tt

  ready_good : (word : Word) (m : Mark) (h : Heading) (spot : Spot) → Good r (ready h spot) → Fine r (Steps.behind_heading word m h spot)
  ready_good w.Open m h spot g = count_good m h spot g
  ready_good (w.Name x) m h spot g = on_sep_good (w.Name x) m (λ s. Ok (start (enter (headed h s) spot) empty)) (λ s. enter_good r (headed h s) spot g.0 g.1 g.2 g.3)
  ready_good (w.Chars x) m h spot g = on_sep_good (w.Chars x) m (λ s. Ok (start (enter (headed h s) spot) empty)) (λ s. enter_good r (headed h s) spot g.0 g.1 g.2 g.3)
  ready_good (w.Number x) m h spot g = on_sep_good (w.Number x) m (λ s. Ok (start (enter (headed h s) spot) empty)) (λ s. enter_good r (headed h s) spot g.0 g.1 g.2 g.3)
  ready_good (w.Binary x) m h spot g = on_sep_good (w.Binary x) m (λ s. Ok (start (enter (headed h s) spot) empty)) (λ s. enter_good r (headed h s) spot g.0 g.1 g.2 g.3)
  ready_good w.Not m h spot g = on_sep_good w.Not m (λ s. Ok (start (enter (headed h s) spot) empty)) (λ s. enter_good r (headed h s) spot g.0 g.1 g.2 g.3)
  ready_good w.Quote m h spot g = on_sep_good w.Quote m (λ s. Ok (start (enter (headed h s) spot) empty)) (λ s. enter_good r (headed h s) spot g.0 g.1 g.2 g.3)
  ready_good w.Equal m h spot g = on_sep_good w.Equal m (λ s. Ok (start (enter (headed h s) spot) empty)) (λ s. enter_good r (headed h s) spot g.0 g.1 g.2 g.3)
  ready_good w.Colon m h spot g = on_sep_good w.Colon m (λ s. Ok (start (enter (headed h s) spot) empty)) (λ s. enter_good r (headed h s) spot g.0 g.1 g.2 g.3)
  ready_good w.Comma m h spot g = on_sep_good w.Comma m (λ s. Ok (start (enter (headed h s) spot) empty)) (λ s. enter_good r (headed h s) spot g.0 g.1 g.2 g.3)
  ready_good w.Semicolon m h spot g = on_sep_good w.Semicolon m (λ s. Ok (start (enter (headed h s) spot) empty)) (λ s. enter_good r (headed h s) spot g.0 g.1 g.2 g.3)
  ready_good w.LineEnd m h spot g = on_sep_good w.LineEnd m (λ s. Ok (start (enter (headed h s) spot) empty)) (λ s. enter_good r (headed h s) spot g.0 g.1 g.2 g.3)
  ready_good w.Close m h spot g = on_sep_good w.Close m (λ s. Ok (start (enter (headed h s) spot) empty)) (λ s. enter_good r (headed h s) spot g.0 g.1 g.2 g.3)
  ready_good w.OpenSquare m h spot g = on_sep_good w.OpenSquare m (λ s. Ok (start (enter (headed h s) spot) empty)) (λ s. enter_good r (headed h s) spot g.0 g.1 g.2 g.3)
  ready_good w.CloseSquare m h spot g = on_sep_good w.CloseSquare m (λ s. Ok (start (enter (headed h s) spot) empty)) (λ s. enter_good r (headed h s) spot g.0 g.1 g.2 g.3)
  ready_good w.OpenBrace m h spot g = on_sep_good w.OpenBrace m (λ s. Ok (start (enter (headed h s) spot) empty)) (λ s. enter_good r (headed h s) spot g.0 g.1 g.2 g.3)
  ready_good w.CloseBrace m h spot g = on_sep_good w.CloseBrace m (λ s. Ok (start (enter (headed h s) spot) empty)) (λ s. enter_good r (headed h s) spot g.0 g.1 g.2 g.3)
  ready_good w.At m h spot g = on_sep_good w.At m (λ s. Ok (start (enter (headed h s) spot) empty)) (λ s. enter_good r (headed h s) spot g.0 g.1 g.2 g.3)
  ready_good w.Dot m h spot g = on_sep_good w.Dot m (λ s. Ok (start (enter (headed h s) spot) empty)) (λ s. enter_good r (headed h s) spot g.0 g.1 g.2 g.3)
  ready_good (w.Key x) m h spot g = on_sep_good (w.Key x) m (λ s. Ok (start (enter (headed h s) spot) empty)) (λ s. enter_good r (headed h s) spot g.0 g.1 g.2 g.3)

  -- ---- functions

  unique_good : (text : List ℕ) (t : Top) (s : Step) → (Unique r text t → Fine r s) → Fine r (Steps.unique r text t s)
  unique_good text t s h = decide (λ x. Fine r x) (not r.twice && has_function text t) (Err FunctionTwice) s (λ e. tt) h

  unless_good : (text : List ℕ) (t : Top) (s : Step) → (Unique r text t → Fine r s) → Fine r (Steps.unless_twice r text t s)
  unless_good text t (Ok st) h = unique_good text t (Ok st) h
  unless_good text t (Err f) h = tt

  titled_good : (word : Word) (m : Mark) (t : Top) (l : Title) → TopGood r t → SoundTitle l → Unique r (title_name l) t → Fine r (Steps.titled_end word m t l)
  titled_good word m t l g d u = on_sep_good word m (λ s. Ok (start (body t l s) empty)) (λ s. ((g, d, u), tt, omega arith))

  title_good : (word : Word) (m : Mark) (t : Top) (f : Mark) (o : Outs) (n : Named) → TopGood r t → SoundOuts o → Unique r n.text t → Fine r (Steps.behind_title word m t f o n)
  title_good w.Open m t f o n g d u = (g, (d, u))
  title_good (w.Name x) m t f o n g d u = titled_good (w.Name x) m t (title f o n no_list) g d u
  title_good (w.Chars x) m t f o n g d u = titled_good (w.Chars x) m t (title f o n no_list) g d u
  title_good (w.Number x) m t f o n g d u = titled_good (w.Number x) m t (title f o n no_list) g d u
  title_good (w.Binary x) m t f o n g d u = titled_good (w.Binary x) m t (title f o n no_list) g d u
  title_good w.Not m t f o n g d u = titled_good w.Not m t (title f o n no_list) g d u
  title_good w.Quote m t f o n g d u = titled_good w.Quote m t (title f o n no_list) g d u
  title_good w.Equal m t f o n g d u = titled_good w.Equal m t (title f o n no_list) g d u
  title_good w.Colon m t f o n g d u = titled_good w.Colon m t (title f o n no_list) g d u
  title_good w.Comma m t f o n g d u = titled_good w.Comma m t (title f o n no_list) g d u
  title_good w.Semicolon m t f o n g d u = titled_good w.Semicolon m t (title f o n no_list) g d u
  title_good w.LineEnd m t f o n g d u = titled_good w.LineEnd m t (title f o n no_list) g d u
  title_good w.Close m t f o n g d u = titled_good w.Close m t (title f o n no_list) g d u
  title_good w.OpenSquare m t f o n g d u = titled_good w.OpenSquare m t (title f o n no_list) g d u
  title_good w.CloseSquare m t f o n g d u = titled_good w.CloseSquare m t (title f o n no_list) g d u
  title_good w.OpenBrace m t f o n g d u = titled_good w.OpenBrace m t (title f o n no_list) g d u
  title_good w.CloseBrace m t f o n g d u = titled_good w.CloseBrace m t (title f o n no_list) g d u
  title_good w.At m t f o n g d u = titled_good w.At m t (title f o n no_list) g d u
  title_good w.Dot m t f o n g d u = titled_good w.Dot m t (title f o n no_list) g d u
  title_good (w.Key x) m t f o n g d u = titled_good (w.Key x) m t (title f o n no_list) g d u

  word_good : (word : Word) (m : Mark) (t : Top) (f : Mark) (n : Named) → TopGood r t → Fine r (Steps.behind_word r word m t f n)
  word_good w.Equal m t f n g = (g, tt)
  word_good (w.Name x) m t f n g = unless_good n.text t (Steps.behind_title (w.Name x) m t f no_outs n) (λ u. title_good (w.Name x) m t f no_outs n g tt u)
  word_good (w.Chars x) m t f n g = unless_good n.text t (Steps.behind_title (w.Chars x) m t f no_outs n) (λ u. title_good (w.Chars x) m t f no_outs n g tt u)
  word_good (w.Number x) m t f n g = unless_good n.text t (Steps.behind_title (w.Number x) m t f no_outs n) (λ u. title_good (w.Number x) m t f no_outs n g tt u)
  word_good (w.Binary x) m t f n g = unless_good n.text t (Steps.behind_title (w.Binary x) m t f no_outs n) (λ u. title_good (w.Binary x) m t f no_outs n g tt u)
  word_good w.Not m t f n g = unless_good n.text t (Steps.behind_title w.Not m t f no_outs n) (λ u. title_good w.Not m t f no_outs n g tt u)
  word_good w.Quote m t f n g = unless_good n.text t (Steps.behind_title w.Quote m t f no_outs n) (λ u. title_good w.Quote m t f no_outs n g tt u)
  word_good w.Colon m t f n g = unless_good n.text t (Steps.behind_title w.Colon m t f no_outs n) (λ u. title_good w.Colon m t f no_outs n g tt u)
  word_good w.Comma m t f n g = unless_good n.text t (Steps.behind_title w.Comma m t f no_outs n) (λ u. title_good w.Comma m t f no_outs n g tt u)
  word_good w.Semicolon m t f n g = unless_good n.text t (Steps.behind_title w.Semicolon m t f no_outs n) (λ u. title_good w.Semicolon m t f no_outs n g tt u)
  word_good w.LineEnd m t f n g = unless_good n.text t (Steps.behind_title w.LineEnd m t f no_outs n) (λ u. title_good w.LineEnd m t f no_outs n g tt u)
  word_good w.Open m t f n g = unless_good n.text t (Steps.behind_title w.Open m t f no_outs n) (λ u. title_good w.Open m t f no_outs n g tt u)
  word_good w.Close m t f n g = unless_good n.text t (Steps.behind_title w.Close m t f no_outs n) (λ u. title_good w.Close m t f no_outs n g tt u)
  word_good w.OpenSquare m t f n g = unless_good n.text t (Steps.behind_title w.OpenSquare m t f no_outs n) (λ u. title_good w.OpenSquare m t f no_outs n g tt u)
  word_good w.CloseSquare m t f n g = unless_good n.text t (Steps.behind_title w.CloseSquare m t f no_outs n) (λ u. title_good w.CloseSquare m t f no_outs n g tt u)
  word_good w.OpenBrace m t f n g = unless_good n.text t (Steps.behind_title w.OpenBrace m t f no_outs n) (λ u. title_good w.OpenBrace m t f no_outs n g tt u)
  word_good w.CloseBrace m t f n g = unless_good n.text t (Steps.behind_title w.CloseBrace m t f no_outs n) (λ u. title_good w.CloseBrace m t f no_outs n g tt u)
  word_good w.At m t f n g = unless_good n.text t (Steps.behind_title w.At m t f no_outs n) (λ u. title_good w.At m t f no_outs n g tt u)
  word_good w.Dot m t f n g = unless_good n.text t (Steps.behind_title w.Dot m t f no_outs n) (λ u. title_good w.Dot m t f no_outs n g tt u)
  word_good (w.Key x) m t f n g = unless_good n.text t (Steps.behind_title (w.Key x) m t f no_outs n) (λ u. title_good (w.Key x) m t f no_outs n g tt u)

  begun_good : (word : Word) (m : Mark) (t : Top) (f : Mark) → TopGood r t → Fine r (Steps.read_title word m t f)
  begun_good (w.Name n) m t f g = (g, tt)
  begun_good w.OpenSquare m t f g = (g, tt)
  begun_good word m t f g = tt

  close_outs_good : (p : Waiting) (z : Mark) (t : Top) (f o : Mark) → TopGood r t → Fine r (Steps.close_outs p z t f o)
  close_outs_good fresh_params z t f o g = (g, tt)
  close_outs_good (behind_params ps c) z t f o g = tt

  out_good : (word : Word) (m : Mark) (t : Top) (f o : Mark) (p : Waiting) → TopGood r t → WaitingNames p → Fine r (Steps.read_out word m t f o p)
  out_good (w.Name n) m t f o p g d = (g, put_names p (record { mark = m; text = n }) d)
  out_good w.CloseSquare m t f o p g d = close_outs_good p m t f o g
  out_good word m t f o p g d = tt

  behind_out_good : (word : Word) (m : Mark) (t : Top) (f o : Mark) (ps : Params) → TopGood r t → AreNamed ps → Fine r (Steps.behind_out word m t f o ps)
  behind_out_good w.Comma m t f o ps g d = (g, d)
  behind_out_good w.CloseSquare m t f o ps g d = (g, d)
  behind_out_good word m t f o ps g d = tt

  shut_good : (word : Word) (q : Mark) (t : Top) (f o : Mark) (l : Listing) (z : Mark) → TopGood r t → ListsNames l → Fine r (Steps.behind_outs_shut word q t f o l z)
  shut_good w.Equal q t f o l z g d = (g, d)
  shut_good word q t f o l z g d = tt

  naming_good : (word : Word) (m : Mark) (t : Top) (f : Mark) (o : Outs) → TopGood r t → SoundOuts o → Fine r (Steps.read_name r word m t f o)
  naming_good (w.Name n) m t f o g d = unique_good n t (Ok (titling t (entitled f o (record { mark = m; text = n })))) (λ u. (g, (d, u)))
  naming_good word m t f o g d = tt

  close_params_good : (p : Waiting) (z : Mark) (t : Top) (f : Mark) (o : Outs) (n : Named) (m : Mark) → TopGood r t → SoundOuts o × Unique r n.text t → Fine r (Steps.close_params p z t f o n m)
  close_params_good fresh_params z t f o n m g d = (g, d)
  close_params_good (behind_params ps c) z t f o n m g d = tt

  param_good : (word : Word) (m : Mark) (t : Top) (f : Mark) (o : Outs) (n : Named) (z : Mark) (p : Waiting) → TopGood r t → SoundOuts o × Unique r n.text t → Fine r (Steps.read_param word m t f o n z p)
  param_good (w.Name x) m t f o n z p g d = (g, d)
  param_good w.Not m t f o n z p g d = (g, d)
  param_good w.Close m t f o n z p g d = close_params_good p m t f o n z g d
  param_good word m t f o n z p g d = tt

  behind_param_good : (word : Word) (m : Mark) (t : Top) (f : Mark) (o : Outs) (n : Named) (z : Mark) (ps : Params) → TopGood r t → SoundOuts o × Unique r n.text t → Fine r (Steps.behind_param word m t f o n z ps)
  behind_param_good w.Comma m t f o n z ps g d = (g, d)
  behind_param_good w.Close m t f o n z ps g d = (g, d)
  behind_param_good word m t f o n z ps g d = tt

  titling_good : (word : Word) (m : Mark) (t : Top) (l : Titling) → TopGood r t → TitlingGood r t l → Fine r (Steps.read_titling r word m t l)
  titling_good word m t (begun_title f) g d = begun_good word m t f g
  titling_good word m t (worded f n) g d = word_good word m t f n g
  titling_good word m t (outs_of f o p) g d = out_good word m t f o p g d
  titling_good word m t (out_of f o ps) g d = behind_out_good word m t f o ps g d
  titling_good word m t (outs_shut f o l z) g d = shut_good word m t f o l z g d
  titling_good word m t (naming f o) g d = naming_good word m t f o g d
  titling_good word m t (entitled f o n) g d = title_good word m t f o n g d.0 d.1
  titling_good word m t (params_of f o n z p) g d = param_good word m t f o n z p g d
  titling_good word m t (param_of f o n z ps) g d = behind_param_good word m t f o n z ps g d
  titling_good word m t (titled l) g d = titled_good word m t l g d.0 d.1

  between_good : (word : Word) (m : Mark) (t : Top) → Good r (between t) → Fine r (Steps.behind_function word m t)
  between_good (w.Key k.Function) m t g = (g.0, tt)
  between_good (w.Key k.Break) m t g = tt
  between_good (w.Key k.Case) m t g = tt
  between_good (w.Key k.Catch) m t g = tt
  between_good (w.Key k.Classdef) m t g = tt
  between_good (w.Key k.Continue) m t g = tt
  between_good (w.Key k.Else) m t g = tt
  between_good (w.Key k.Elseif) m t g = tt
  between_good (w.Key k.End) m t g = tt
  between_good (w.Key k.For) m t g = tt
  between_good (w.Key k.Global) m t g = tt
  between_good (w.Key k.If) m t g = tt
  between_good (w.Key k.Otherwise) m t g = tt
  between_good (w.Key k.Parfor) m t g = tt
  between_good (w.Key k.Persistent) m t g = tt
  between_good (w.Key k.Return) m t g = tt
  between_good (w.Key k.Spmd) m t g = tt
  between_good (w.Key k.Switch) m t g = tt
  between_good (w.Key k.Try) m t g = tt
  between_good (w.Key k.While) m t g = tt
  between_good (w.Name x) m t g = on_sep_good (w.Name x) m (λ s. Ok (between (spaced t s))) (λ s. (((g.0.0, g.1), g.0.1), tt))
  between_good (w.Chars x) m t g = on_sep_good (w.Chars x) m (λ s. Ok (between (spaced t s))) (λ s. (((g.0.0, g.1), g.0.1), tt))
  between_good (w.Number x) m t g = on_sep_good (w.Number x) m (λ s. Ok (between (spaced t s))) (λ s. (((g.0.0, g.1), g.0.1), tt))
  between_good (w.Binary x) m t g = on_sep_good (w.Binary x) m (λ s. Ok (between (spaced t s))) (λ s. (((g.0.0, g.1), g.0.1), tt))
  between_good w.Not m t g = on_sep_good w.Not m (λ s. Ok (between (spaced t s))) (λ s. (((g.0.0, g.1), g.0.1), tt))
  between_good w.Quote m t g = on_sep_good w.Quote m (λ s. Ok (between (spaced t s))) (λ s. (((g.0.0, g.1), g.0.1), tt))
  between_good w.Equal m t g = on_sep_good w.Equal m (λ s. Ok (between (spaced t s))) (λ s. (((g.0.0, g.1), g.0.1), tt))
  between_good w.Colon m t g = on_sep_good w.Colon m (λ s. Ok (between (spaced t s))) (λ s. (((g.0.0, g.1), g.0.1), tt))
  between_good w.Comma m t g = on_sep_good w.Comma m (λ s. Ok (between (spaced t s))) (λ s. (((g.0.0, g.1), g.0.1), tt))
  between_good w.Semicolon m t g = on_sep_good w.Semicolon m (λ s. Ok (between (spaced t s))) (λ s. (((g.0.0, g.1), g.0.1), tt))
  between_good w.LineEnd m t g = on_sep_good w.LineEnd m (λ s. Ok (between (spaced t s))) (λ s. (((g.0.0, g.1), g.0.1), tt))
  between_good w.Open m t g = on_sep_good w.Open m (λ s. Ok (between (spaced t s))) (λ s. (((g.0.0, g.1), g.0.1), tt))
  between_good w.Close m t g = on_sep_good w.Close m (λ s. Ok (between (spaced t s))) (λ s. (((g.0.0, g.1), g.0.1), tt))
  between_good w.OpenSquare m t g = on_sep_good w.OpenSquare m (λ s. Ok (between (spaced t s))) (λ s. (((g.0.0, g.1), g.0.1), tt))
  between_good w.CloseSquare m t g = on_sep_good w.CloseSquare m (λ s. Ok (between (spaced t s))) (λ s. (((g.0.0, g.1), g.0.1), tt))
  between_good w.OpenBrace m t g = on_sep_good w.OpenBrace m (λ s. Ok (between (spaced t s))) (λ s. (((g.0.0, g.1), g.0.1), tt))
  between_good w.CloseBrace m t g = on_sep_good w.CloseBrace m (λ s. Ok (between (spaced t s))) (λ s. (((g.0.0, g.1), g.0.1), tt))
  between_good w.At m t g = on_sep_good w.At m (λ s. Ok (between (spaced t s))) (λ s. (((g.0.0, g.1), g.0.1), tt))
  between_good w.Dot m t g = on_sep_good w.Dot m (λ s. Ok (between (spaced t s))) (λ s. (((g.0.0, g.1), g.0.1), tt))

  -- ---- a step, and a run

  word_good_on : (st : State) (word : Word) (m : Mark) → Good r st → Fine r (Steps.on_word r st word m)
  word_good_on (start site b) word m g = start_good word m site b g
  word_good_on (finished s site b) word m g = on_sep_good word m (λ e. Ok (start site (statement b s e))) (λ e. (g.0.0, (g.0.1, g.1, g.2), max_room (block_height b) (smt_height s) (site_nests site) r.limit g.0.2 g.3))
  word_good_on (operand S) word m g = operand_good r word m S g.0 g.2 (enters_free r word m S g.1)
  word_good_on (after e S) word m g = after_good r word m e S g
  word_good_on (coloned c S) word m g = colon_good word m c S g.0 g.1
  word_good_on (torn e a n S) word m g = untear_good r e a n S word m g
  word_good_on (at_sign a S) word m g = at_good word m a S g
  word_good_on (stemmed h S) word m g = stem_good word m h S g
  word_good_on (dot e d S) word m g = dot_word_good word m e d S g
  word_good_on (output o p site b) word m g = output_good word m o p site b g.0 (λ x e. g.1 x)
  word_good_on (output_read o p t site b) word m g = behind_output_good word m o p t site b g
  word_good_on (outputs_shut o os z site b) word m g = outputs_good word m o os z site b g
  word_good_on (loop key o spot) word m g = loop_good word m key o spot g
  word_good_on (loop_in key o p spot) word m g = loop_in_good word m key o p spot g
  word_good_on (index key o n spot) word m g = index_good word m (λ q. operand (lead_of (each key o n q) spot)) (g, (λ gap sticky. tt), tt)
  word_good_on (index_in key o p n spot) word m g = index_good word m (λ q. operand (inner_of (each_in key o p n q) spot)) ((g.0, g.1, g.2, omega (arith, g.3)), (λ gap sticky. tt), tt)
  word_good_on (ready h spot) word m g = ready_good word m h spot g
  word_good_on (titling t l) word m g = titling_good word m t l g.0 g.1
  word_good_on (between t) word m g = between_good word m t g

  pub good : (st : State) (t : Terminal) → Good r st → Fine r (step r st t)
  good st t g = word_good_on st t.word (mark_of t) g

  pub good_beginning : Good r beginning
  good_beginning = (tt, tt, omega arith)

  -- the program is sound, and there is room for it
  abbrev pub Sound : Prog → Type 0
  Sound p = SoundProg r.twice p × (prog_height p ≤ r.limit)

  abbrev SoundEnd : Option Prog → Type 0
  SoundEnd None = Unit {0}
  SoundEnd (Some p) = Sound p

  after_end : (e : Ex) (S : Stack) → Fitting r e S → SoundEnd (Steps.end_after e S)
  after_end e (goal_of g main b) h =
      let k : StackGood r (goal_of g main b) = h.0 in
      let v : max (block_height b) (smt_height (settle g e)) + 0 ≤ r.limit = max_room (block_height b) (smt_height (settle g e)) 0 r.limit k.0.2 (settle_height r g e 0 r.limit k.3 h.3) in
      ((k.0.1, settle_good r outermost g e k.2 h.1), omega (arith, v))
  after_end e (goal_of g (body t l s) b) h = tt
  after_end e (goal_of g (within o site before) b) h = tt
  after_end e (lead_of l spot) h = tt
  after_end e (inner_of i spot) h = tt
  after_end e (outputs_of o q site b) h = tt
  after_end e (op_of p S) h = tt
  after_end e (paren_of o S) h = tt
  after_end e (args_of f o q S) h = tt
  after_end e (brace_of o q S) h = tt
  after_end e (row_of o rs q S) h = tt

  end_good : (st : State) → Good r st → SoundEnd (ended st)
  end_good (start main b) g = (g.1, omega (arith, g.2))
  end_good (start (body t l s) b) g = tt
  end_good (start (within o site before) b) g = tt
  end_good (finished s main b) g = let v : max (block_height b) (smt_height s) + 0 ≤ r.limit = max_room (block_height b) (smt_height s) 0 r.limit g.0.2 g.3 in ((g.0.1, g.2), omega (arith, v))
  end_good (finished s (body t l x) b) g = tt
  end_good (finished s (within o site before) b) g = tt
  end_good (after e S) g = let R : Left r 0 (in_row S) (reduce 0 e S) = reduce_good r 0 e S g.0 (omega arith) in after_end (reduce 0 e S).operand (reduce 0 e S).stack R.0
  end_good (between t) g = g.0
  end_good st g = tt

  pub run_good : (ts : List Terminal) (st : State) (p : Prog) → Good r st → run r st ts ≡ Ok p → Sound p
  run_good [] st p g h = by_end (ended st) refl h
    where
      by_end : (x : Option Prog) → ended st ≡ x → Steps.finish_with st x ≡ Ok p → Sound p
      by_end None e f = cc
      by_end (Some q) e f = let i : q ≡ p = cc in let x : SoundEnd (Some q) = rw e at (end_good st g) in subst (λ y. Sound y) i x
  run_good (t ∷ ts) st p g h = by_step (λ next f e. run_good ts next p f e) (step r st t) refl h
    where
      by_step : ((next : State) → Good r next → run r next ts ≡ Ok p → Sound p) → (s : Step) → step r st t ≡ s → onward s (λ next. run r next ts) (suc (length ts)) ≡ Ok p → Sound p
      by_step ih (Err f) e i = cc
      by_step ih (Ok next) e i = let x : Fine r (Ok next) = rw e at (good st t g) in ih next x i
