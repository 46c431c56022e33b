-- Functions and whole programs are read back: the law.
use Rattle.std.proofs.Common.{◌≡◌, ◌∙◌, ℕ, ◌≤◌, Bool, true, false, ◌||◌, Option, Some, None, List, [], ◌∷◌, ◌++◌, map, refl, ap, sym, subst, arith}
use Rattle.std.specs.Prelude.{option_map}
use Rattle.std.proofs.lemmas.List.{append_assoc, append-nil}
use Rattle.pl_syntax.specs.declared.expr.Name.{Name}
use Rattle.pl_syntax.specs.declared.stmt.Stmt.{Stmt}
use Rattle.pl_syntax.specs.declared.stmt.Function.{Function}
use Rattle.pl_syntax.specs.declared.stmt.Program.{Program}
use Rattle.pl_grammar.specs.declared.terminal.Terminal.{Terminal}
use Rattle.pl_grammar.specs.declared.terminal.Word.TheVariants as w
use Rattle.pl_grammar.specs.declared.terminal.Keyword.TheVariants as k
use Rattle.pl_grammar.specs.Words.{term, Named, named, Sep, line, same}
use Rattle.pl_grammar.specs.Derivations.{Block, empty, blank, statement, Param, taken, ignored, Params, lone, further, Listing, no_params, params, Outs, no_outs, single, several, Given, no_list, given, title, Fun, fun, Top, script, define, spaced, Prog, whole_of, unended}
use Rattle.pl_grammar.specs.Spelling.{sep, block, param, param_words, listing, outs_words, fun_words, top}
use Rattle.pl_grammar.specs.Trees.{name_of, stmts, param_name, param_names, listed_names, given_names, kept, out_names, fun_tree, body_of, functions_of, program_of}
use Rattle.pl_grammar.specs.Nesting.{fun_height, top_height, prog_height}
use Rattle.pl_grammar.specs.Sound.{outermost, SoundBlock, AreNamed, SoundOuts, SoundFun, fun_name, has_function, SoundTop, SoundProg}
use Rattle.pl_printing.specs.Places.{nowhere, moved, but_places_function, but_places}
use Rattle.pl_printing.specs.Canonical as canonical
use Rattle.pl_printing.specs.Canonical.{Words, terminal, directly, apart, separated, name_words, stmt_words, line_end, lines, block_words, finish, out_words, empty_line, function_words, functions_words, has_none}
use Rattle.pl_printing.specs.ReadingBack.{AreAlike, ReadsAs, ReadBack}
use Rattle.pl_printing.proofs.Taking.{Read, Taken, take, Noted, note, max_grows, map_snoc}
use Rattle.pl_printing.proofs.Simple.{another}
use Rattle.pl_printing.proofs.Owners.{but_stmts}
use Rattle.pl_printing.proofs.Parts.{nothing_yet}
use Rattle.pl_printing.proofs.Statements.{ReadBlock, printed_block}

-- ---- parameters

abbrev moved_param : Option Name → Option Name
moved_param n = option_map moved n

abbrev moved_params : List (Option Name) → List (Option Name)
moved_params ns = map moved_param ns

moved_name : (n : Named) (text : List ℕ) → n.text ≡ text → moved (name_of n) ≡ record { text = text; place = nowhere }
moved_name n text h = ap (λ (x : List ℕ). record { text = x; place = nowhere }) h

record IsParam (p : Param) (q : Param) : Type 0 where
  name_is : moved_param (param_name q) ≡ moved_param (param_name p)

record IsParams (p : Params) (q : Params) : Type 0 where
  names_are : moved_params (param_names q) ≡ moved_params (param_names p)

abbrev params_list : List (Option Name) → Words
params_list ns = separated w.Comma (map canonical.param_words ns)

read_param : (p : Param) (gap : Bool) (us r : List Terminal) → AreAlike us (canonical.param_words (param_name p) gap r) → Read Param param (IsParam p) us r
read_param (taken n) gap us r a =
    let x : Noted n.text gap us r = note n.text gap us r a in
    record { it = taken x.n; rest = x.rest; spelled = x.spelled; alike = x.alike; is = record { name_is = ap (λ (v : Name). Some v) (moved_name x.n n.text x.text_is) } }
read_param (ignored m) gap us r a =
    let x : Taken w.Not gap us r = take w.Not gap us r a in
    record { it = ignored x.m; rest = x.rest; spelled = x.spelled; alike = x.alike; is = record { name_is = refl } }

first_param : (ps : Params) → (z : Option Name) × (zs : List (Option Name)) × (param_names ps ≡ z ∷ zs)
first_param (lone p) = (param_name p, [], refl)
first_param (further ps c p) =
    let f : (z : Option Name) × (zs : List (Option Name)) × (param_names ps ≡ z ∷ zs) = first_param ps in
    (f.0, f.1 ++ param_name p ∷ [], ap (λ l. l ++ param_name p ∷ []) f.2)

read_params : (ps : Params) (gap : Bool) (us r : List Terminal) → AreAlike us (params_list (param_names ps) gap r) → Read Params param_words (IsParams ps) us r
read_params (lone p) gap us r a =
    let x : Read Param param (IsParam p) us r = read_param p gap us r a in
    record { it = lone x.it; rest = x.rest; spelled = x.spelled; alike = x.alike; is = record { names_are = ap (λ v. v ∷ []) x.is.name_is } }
read_params (further ps c p) gap us r a =
    let r1 : List Terminal = canonical.param_words (param_name p) true r in
    let q : (z : Option Name) × (zs : List (Option Name)) × (param_names ps ≡ z ∷ zs) = first_param ps in
    let x : Read Params param_words (IsParams ps) us (directly w.Comma ∷ r1) = read_params ps gap us (directly w.Comma ∷ r1) (subst (AreAlike us) (another canonical.param_words (param_names ps) q.0 q.1 (param_name p) gap r q.2) a) in
    let k : Taken w.Comma false x.rest r1 = take w.Comma false x.rest r1 x.alike in
    let y : Read Param param (IsParam p) k.rest r = read_param p true k.rest r k.alike in
    record {
      it = further x.it k.m y.it;
      rest = y.rest;
      spelled = x.spelled ∙ ap (param_words x.it) (k.spelled ∙ ap (λ v. term w.Comma k.m ∷ v) y.spelled);
      alike = y.alike;
      is = record { names_are = map_snoc moved_param (param_names x.it) (param_name y.it) ∙ ap (λ v. v ++ moved_param (param_name y.it) ∷ []) x.is.names_are ∙ ap (λ v. moved_params (param_names ps) ++ v ∷ []) y.is.name_is ∙ sym (map_snoc moved_param (param_names ps) (param_name p)) };
    }

record IsListing (ns : List (Option Name)) (q : Listing) : Type 0 where
  names_are : moved_params (listed_names q) ≡ moved_params ns

read_listing : (l : Listing) (us r : List Terminal) → AreAlike us (params_list (listed_names l) false r) → Read Listing listing (IsListing (listed_names l)) us r
read_listing no_params us r a = record { it = no_params; rest = us; spelled = refl; alike = a; is = record { names_are = refl } }
read_listing (params ps) us r a =
    let x : Read Params param_words (IsParams ps) us r = read_params ps false us r a in
    record { it = params x.it; rest = x.rest; spelled = x.spelled; alike = x.alike; is = record { names_are = x.is.names_are } }

read_given : (g : Given) (us r : List Terminal) → AreAlike us (params_list (given_names g) false r) → Read Listing listing (IsListing (given_names g)) us r
read_given no_list us r a = read_listing no_params us r a
read_given (given m l z) us r a = read_listing l us r a

-- ---- outputs

abbrev moved_names : List Name → List Name
moved_names ns = map moved ns

-- names that were read for names
record IsNames (ns : List Name) (q : Params) : Type 0 where
  named : AreNamed q
  names_are : moved_names (kept (param_names q)) ≡ moved_names ns

kept_snoc : (ns : List (Option Name)) (n : Name) → kept (ns ++ Some n ∷ []) ≡ kept ns ++ n ∷ []
kept_snoc [] n = refl
kept_snoc (Some m ∷ ns) n = ap (λ v. m ∷ v) (kept_snoc ns n)
kept_snoc (None ∷ ns) n = kept_snoc ns n

-- names behind others
more_names : (done : List Name) (q : Params) → IsNames done q → (ns : List Name) (us r : List Terminal) → AreAlike us (canonical.behind w.Comma (map out_words ns) r) → (before : List Terminal) → before ≡ param_words q us → Read Params param_words (IsNames (done ++ ns)) before r
more_names done q h [] us r a before e = record { it = q; rest = us; spelled = e; alike = a; is = record { named = h.named; names_are = h.names_are ∙ ap moved_names (sym (append-nil done)) } }
more_names done q h (n ∷ ns) us r a before e =
    let r1 : List Terminal = canonical.behind w.Comma (map out_words ns) r in
    let c : Taken w.Comma false us (name_words n.text true r1) = take w.Comma false us (name_words n.text true r1) a in
    let x : Noted n.text true c.rest r1 = note n.text true c.rest r1 c.alike in
    let q1 : Params = further q c.m (taken x.n) in
    let h1 : IsNames (done ++ n ∷ []) q1 = record {
      named = (h.named, tt);
      names_are = ap moved_names (kept_snoc (param_names q) (name_of x.n)) ∙ map_snoc moved (kept (param_names q)) (name_of x.n) ∙ ap (λ v. v ++ moved (name_of x.n) ∷ []) h.names_are ∙ ap (λ (v : Name). moved_names done ++ v ∷ []) (moved_name x.n n.text x.text_is) ∙ sym (map_snoc moved done n);
    } in
    let y : Read Params param_words (IsNames ((done ++ n ∷ []) ++ ns)) before r = more_names (done ++ n ∷ []) q1 h1 ns x.rest r x.alike before (e ∙ ap (param_words q) (c.spelled ∙ ap (λ v. term w.Comma c.m ∷ v) x.spelled)) in
    subst (λ v. Read Params param_words (IsNames v) before r) (append_assoc done (n ∷ []) ns) y

record IsOuts (ns : List Name) (o : Outs) : Type 0 where
  sound : SoundOuts o
  names_are : moved_names (out_names o) ≡ moved_names ns

read_outs : (ns : List Name) (us r : List Terminal) → AreAlike us (canonical.outs_words ns r) → Read Outs outs_words (IsOuts ns) us r
read_outs [] us r a = record { it = no_outs; rest = us; spelled = refl; alike = a; is = record { sound = tt; names_are = refl } }
read_outs (n ∷ []) us r a =
    let x : Noted n.text true us (apart w.Equal ∷ r) = note n.text true us (apart w.Equal ∷ r) a in
    let q : Taken w.Equal true x.rest r = take w.Equal true x.rest r x.alike in
    record { it = single x.n q.m; rest = q.rest; spelled = x.spelled ∙ ap (λ v. named x.n ∷ v) q.spelled; alike = q.alike; is = record { sound = tt; names_are = ap (λ (v : Name). v ∷ []) (moved_name x.n n.text x.text_is) } }
read_outs (n ∷ m ∷ more) us r a =
    let r2 : List Terminal = directly w.CloseSquare ∷ apart w.Equal ∷ r in
    let r1 : List Terminal = canonical.behind w.Comma (map out_words (m ∷ more)) r2 in
    let o : Taken w.OpenSquare true us (name_words n.text false r1) = take w.OpenSquare true us (name_words n.text false r1) a in
    let x : Noted n.text false o.rest r1 = note n.text false o.rest r1 o.alike in
    let h : IsNames (n ∷ []) (lone (taken x.n)) = record { named = tt; names_are = ap (λ (v : Name). v ∷ []) (moved_name x.n n.text x.text_is) } in
    let y : Read Params param_words (IsNames (n ∷ m ∷ more)) o.rest r2 = more_names (n ∷ []) (lone (taken x.n)) h (m ∷ more) x.rest r2 x.alike o.rest x.spelled in
    let c : Taken w.CloseSquare false y.rest (apart w.Equal ∷ r) = take w.CloseSquare false y.rest (apart w.Equal ∷ r) y.alike in
    let q : Taken w.Equal true c.rest r = take w.Equal true c.rest r c.alike in
    record {
      it = several o.m (params y.it) c.m q.m;
      rest = q.rest;
      spelled = o.spelled ∙ ap (λ v. term w.OpenSquare o.m ∷ v) (y.spelled ∙ ap (param_words y.it) (c.spelled ∙ ap (λ v. term w.CloseSquare c.m ∷ v) q.spelled));
      alike = q.alike;
      is = record { sound = y.is.named; names_are = y.is.names_are };
    }

-- ---- functions

record IsFun (f : Fun) (q : Fun) : Type 0 where
  sound : SoundFun q
  low : fun_height q ≤ fun_height f
  tree_is : but_places_function (fun_tree q) ≡ but_places_function (fun_tree f)
  name_is : fun_name q ≡ fun_name f

function_same : (a b : List ℕ) (ps qs : List (Option Name)) (os ts : List Name) (ss rs : List Stmt) → a ≡ b → moved_params ps ≡ moved_params qs → moved_names os ≡ moved_names ts → but_stmts ss ≡ but_stmts rs
    → but_places_function (record { name = record { text = a; place = nowhere }; params = ps; outs = os; body = ss }) ≡ but_places_function (record { name = record { text = b; place = nowhere }; params = qs; outs = ts; body = rs })
function_same a b ps qs os ts ss rs e f g h =
    ap (λ (x : List ℕ). record { name = record { text = x; place = nowhere }; params = moved_params ps; outs = moved_names os; body = but_stmts ss }) e
    ∙ ap (λ (x : List (Option Name)). record { name = record { text = b; place = nowhere }; params = x; outs = moved_names os; body = but_stmts ss }) f
    ∙ ap (λ (x : List Name). record { name = record { text = b; place = nowhere }; params = moved_params qs; outs = x; body = but_stmts ss }) g
    ∙ ap (λ (x : List Stmt). record { name = record { text = b; place = nowhere }; params = moved_params qs; outs = moved_names ts; body = x }) h

read_fun : (f : Fun) → SoundFun f → (us r : List Terminal) → AreAlike us (function_words (fun_tree f) r) → Read Fun fun_words (IsFun f) us (line_end r)
read_fun (fun (title m o n g) s b z) h us r a =
    let r4 : List Terminal = finish false (line_end r) in
    let r3 : List Terminal = lines true (map stmt_words (stmts b)) r4 in
    let r2 : List Terminal = params_list (given_names g) false (directly w.Close ∷ line_end r3) in
    let r1 : List Terminal = name_words n.text true (directly w.Open ∷ r2) in
    let x : Taken (w.Key k.Function) false us (canonical.outs_words (out_names o) r1) = take (w.Key k.Function) false us (canonical.outs_words (out_names o) r1) a in
    let y : Read Outs outs_words (IsOuts (out_names o)) x.rest r1 = read_outs (out_names o) x.rest r1 x.alike in
    let i : Noted n.text true y.rest (directly w.Open ∷ r2) = note n.text true y.rest (directly w.Open ∷ r2) y.alike in
    let p : Taken w.Open false i.rest r2 = take w.Open false i.rest r2 i.alike in
    let l : Read Listing listing (IsListing (given_names g)) p.rest (directly w.Close ∷ line_end r3) = read_given g p.rest (directly w.Close ∷ line_end r3) p.alike in
    let c : Taken w.Close false l.rest (line_end r3) = take w.Close false l.rest (line_end r3) l.alike in
    let e : Taken w.LineEnd false c.rest r3 = take w.LineEnd false c.rest r3 c.alike in
    let d : ReadBlock b empty outermost e.rest r4 = printed_block b outermost h.1 true empty nothing_yet e.rest r4 e.alike in
    let v : Taken (w.Key k.End) false d.rest (line_end r) = take (w.Key k.End) false d.rest (line_end r) d.alike in
    record {
      it = fun (title x.m y.it i.n (given p.m l.it c.m)) (record { kind = line; mark = e.m }) d.it v.m;
      rest = v.rest;
      spelled = x.spelled ∙ ap (λ j. term (w.Key k.Function) x.m ∷ j) (y.spelled ∙ ap (outs_words y.it) (i.spelled ∙ ap (λ j. named i.n ∷ j) (p.spelled ∙ ap (λ j. term w.Open p.m ∷ j) (l.spelled ∙ ap (listing l.it) (c.spelled ∙ ap (λ j. term w.Close c.m ∷ j) (e.spelled ∙ ap (λ j. term w.LineEnd e.m ∷ j) (d.spelled ∙ ap (block d.it) v.spelled)))))));
      alike = v.alike;
      is = record {
        sound = (y.is.sound, d.sound);
        low = d.low;
        tree_is = function_same i.n.text n.text (listed_names l.it) (given_names g) (out_names y.it) (out_names o) (stmts d.it) (stmts b) i.text_is l.is.names_are y.is.names_are d.trees_are;
        name_is = i.text_is;
      };
    }

-- ---- programs

-- a separator behind a program
abbrev then_sep : Top → Sep → Top
then_sep (script b) s = script (blank b s)
then_sep (define t f) s = spaced (define t f) s
then_sep (spaced t z) s = spaced (spaced t z) s

sep_spelled : (t : Top) (s : Sep) (r : List Terminal) → top (then_sep t s) r ≡ top t (sep s r)
sep_spelled (script b) s r = refl
sep_spelled (define t f) s r = refl
sep_spelled (spaced t z) s r = refl

-- a program of the same statements and functions, and no higher
record IsTop (t : Top) (q : Top) : Type 0 where
  sound : SoundTop false q
  low : top_height q ≤ top_height t
  body_is : but_stmts (body_of q) ≡ but_stmts (body_of t)
  functions_are : map but_places_function (functions_of q) ≡ map but_places_function (functions_of t)
  has_is : (text : List ℕ) → has_function text q ≡ has_function text t

sep_is : (t q : Top) (s : Sep) → IsTop t q → IsTop t (then_sep q s)
sep_is t (script b) s x = record { sound = x.sound; low = x.low; body_is = x.body_is; functions_are = x.functions_are; has_is = x.has_is }
sep_is t (define q f) s x = record { sound = (x.sound, tt); low = x.low; body_is = x.body_is; functions_are = x.functions_are; has_is = x.has_is }
sep_is t (spaced q z) s x = record { sound = (x.sound, tt); low = x.low; body_is = x.body_is; functions_are = x.functions_are; has_is = x.has_is }

abbrev top_words : Top → List Terminal → List Terminal
top_words t r = lines false (map stmt_words (body_of t)) (functions_words (has_none (body_of t)) (functions_of t) r)

-- one more function behind functions, perhaps with an empty line before it
functions_more : (b : Bool) (fs : List Function) (g : Function) (r : List Terminal) → (c : Bool) × (functions_words b (fs ++ g ∷ []) r ≡ functions_words b fs (empty_line c (function_words g r)))
functions_more b [] g r = (b, refl)
functions_more b (f ∷ fs) g r =
    let q : (c : Bool) × (functions_words false (fs ++ g ∷ []) r ≡ functions_words false fs (empty_line c (function_words g r))) = functions_more false fs g r in
    (q.0, ap (λ x. empty_line b (function_words f x)) q.1)

-- perhaps an empty line
read_empty_line : (t : Top) (c : Bool) (us r : List Terminal) → AreAlike us (empty_line c r) → (before : List Terminal) (q : Top) → before ≡ top q us → IsTop t q → Read Top top (IsTop t) before r
read_empty_line t true us r a before q e x = record { it = q; rest = us; spelled = e; alike = a; is = x }
read_empty_line t false us r a before q e x =
    let l : Taken w.LineEnd false us r = take w.LineEnd false us r a in
    record { it = then_sep q (record { kind = line; mark = l.m }); rest = l.rest; spelled = e ∙ ap (top q) l.spelled ∙ sym (sep_spelled q (record { kind = line; mark = l.m }) l.rest); alike = l.alike; is = sep_is t q (record { kind = line; mark = l.m }) x }

functions_same : (fs gs : List Function) (f g : Function) → map but_places_function fs ≡ map but_places_function gs → but_places_function f ≡ but_places_function g → map but_places_function (fs ++ f ∷ []) ≡ map but_places_function (gs ++ g ∷ [])
functions_same fs gs f g e h = map_snoc but_places_function fs f ∙ ap (λ x. x ++ but_places_function f ∷ []) e ∙ ap (λ x. map but_places_function gs ++ x ∷ []) h ∙ sym (map_snoc but_places_function gs g)

has_same : (t q : Top) (f h : Fun) (text : List ℕ) → has_function text q ≡ has_function text t → fun_name h ≡ fun_name f → has_function text (define q h) ≡ has_function text (define t f)
has_same t q f h text e g = ap (λ v. v || same (fun_name h) text) e ∙ ap (λ v. has_function text t || same v text) g

reads_define : (t : Top) (f : Fun) → SoundTop false (define t f) → ((us r : List Terminal) → AreAlike us (top_words t r) → Read Top top (IsTop t) us r) → (us r : List Terminal) → AreAlike us (top_words (define t f) r) → Read Top top (IsTop (define t f)) us r
reads_define t f h old us r a =
    let q : (c : Bool) × (functions_words (has_none (body_of t)) (functions_of t ++ fun_tree f ∷ []) r ≡ functions_words (has_none (body_of t)) (functions_of t) (empty_line c (function_words (fun_tree f) r))) = functions_more (has_none (body_of t)) (functions_of t) (fun_tree f) r in
    let r1 : List Terminal = function_words (fun_tree f) r in
    let x : Read Top top (IsTop t) us (empty_line q.0 r1) = old us (empty_line q.0 r1) (subst (λ v. AreAlike us (lines false (map stmt_words (body_of t)) v)) q.1 a) in
    let y : Read Top top (IsTop t) us r1 = read_empty_line t q.0 x.rest r1 x.alike us x.it x.spelled x.is in
    let z : Read Fun fun_words (IsFun f) y.rest (line_end r) = read_fun f h.2 y.rest r y.alike in
    let l : Taken w.LineEnd false z.rest r = take w.LineEnd false z.rest r z.alike in
    record {
      it = spaced (define y.it z.it) (record { kind = line; mark = l.m });
      rest = l.rest;
      spelled = y.spelled ∙ ap (top y.it) (z.spelled ∙ ap (fun_words z.it) l.spelled);
      alike = l.alike;
      is = record {
        sound = ((y.is.sound, ap (λ v. has_function v y.it) z.is.name_is ∙ y.is.has_is (fun_name f) ∙ h.1, z.is.sound), tt);
        low = max_grows (top_height y.it) (fun_height z.it) (top_height t) (fun_height f) y.is.low z.is.low;
        body_is = y.is.body_is;
        functions_are = functions_same (functions_of y.it) (functions_of t) (fun_tree z.it) (fun_tree f) y.is.functions_are z.is.tree_is;
        has_is = λ text. has_same t y.it f z.it text (y.is.has_is text) z.is.name_is;
      };
    }

reads_script : (b : Block) → SoundBlock outermost b → (us r : List Terminal) → AreAlike us (top_words (script b) r) → Read Top top (IsTop (script b)) us r
reads_script b h us r a =
    let x : ReadBlock b empty outermost us r = printed_block b outermost h false empty nothing_yet us r a in
    record { it = script x.it; rest = x.rest; spelled = x.spelled; alike = x.alike; is = record { sound = x.sound; low = x.low; body_is = x.trees_are; functions_are = refl; has_is = λ text. refl } }

read_top : (t : Top) → SoundTop false t → (us r : List Terminal) → AreAlike us (top_words t r) → Read Top top (IsTop t) us r
read_top (script b) h us r a = reads_script b h us r a
read_top (define t f) h us r a = reads_define t f h (read_top t h.0) us r a
read_top (spaced t s) h us r a =
    let x : Read Top top (IsTop t) us r = read_top t h.0 us r a in
    record { it = x.it; rest = x.rest; spelled = x.spelled; alike = x.alike; is = record { sound = x.is.sound; low = x.is.low; body_is = x.is.body_is; functions_are = x.is.functions_are; has_is = x.is.has_is } }

-- ---- the law

nothing_left : (us : List Terminal) → AreAlike us [] → us ≡ []
nothing_left [] a = refl
nothing_left (u ∷ us) a = elim a [ ]

program_same : (a b : Program) → but_stmts a.body ≡ but_stmts b.body → map but_places_function a.functions ≡ map but_places_function b.functions → but_places a ≡ but_places b
program_same a b e f = ap (λ (x : List Stmt). record { body = x; functions = map but_places_function a.functions }) e ∙ ap (λ (x : List Function). record { body = but_stmts b.body; functions = x }) f

back_top : (limit : ℕ) (t : Top) → SoundTop false t → top_height t ≤ limit → (us : List Terminal) → AreAlike us (top_words t []) → ReadsAs limit us (program_of (whole_of t))
back_top limit t h low us a =
    let x : Read Top top (IsTop t) us [] = read_top t h us [] a in
    record {
      again = program_of (whole_of x.it);
      parses = record { rules = whole_of x.it; spelled = sym (x.spelled ∙ ap (top x.it) (nothing_left x.rest x.alike)); means = refl; sound = x.is.sound; nested = omega (arith, x.is.low, low) };
      same = program_same (program_of (whole_of x.it)) (program_of (whole_of t)) x.is.body_is x.is.functions_are;
    }

-- a script whose last statement has no separator is printed as if it had one
back_prog : (limit : ℕ) (p : Prog) → SoundProg false p → prog_height p ≤ limit → (us : List Terminal) → AreAlike us (canonical.canonical (program_of p)) → ReadsAs limit us (program_of p)
back_prog limit (whole_of t) h low us a = back_top limit t h low us a
back_prog limit (unended b s) h low us a = back_top limit (script (statement b s (record { kind = line; mark = record { gap = false; place = nowhere } }))) (h.0, refl, h.1) low us a

pub read_back : ReadBack
read_back limit source program x us = subst (λ p. AreAlike us (canonical.canonical p) → ReadsAs limit us p) x.means (back_prog limit x.rules x.sound x.nested us)
