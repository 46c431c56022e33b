-- Compound statements can be laid out.
use Rattle.std.proofs.Common.{◌≡◌, ◌+◌, false, Option, List, [], ◌∷◌, ◌++◌, map, refl, sym, subst}
use Rattle.pl_syntax.specs.declared.expr.Name.{Name}
use Rattle.pl_syntax.specs.declared.expr.Expr.{Expr}
use Rattle.pl_syntax.specs.declared.stmt.Stmt.{Stmt}
use Rattle.pl_syntax.specs.declared.stmt.Arm.{Arm}
use Rattle.pl_syntax.specs.declared.stmt.StmtKind as what
use Rattle.pl_syntax.specs.declared.stmt.StmtKind.TheOpen.{StmtKind-F}
use Rattle.pl_grammar.specs.declared.owner.Owner.{Owner}
use Rattle.pl_grammar.specs.declared.owner.Owner.TheVariants as own
use Rattle.pl_grammar.specs.declared.terminal.Keyword.{Keyword}
use Rattle.pl_grammar.specs.declared.terminal.Keyword.TheVariants as word
use Rattle.pl_grammar.specs.Trees.{arm, with_value, with_none, closed}
use Rattle.pl_lex.specs.Tokens.{IsName}
use Rattle.pl_printing.specs.Canonical.{Words, shown, block_words, line_end, finish, arms_words, last_words, of_stmt_kind, of_arm_layer, of_stmt_layer, stmt_words}
use Rattle.pl_printing.proofs.Folds.{at_arm, at_if, at_while, at_for, at_parfor, at_switch, at_try, at_spmd}
use Rattle.pl_printing.proofs.Simple.{what_words}
use Rattle.pl_printing.proofs.Owners.{arm_words}
use Rattle.pl_printed.proofs.States.{other}
use Rattle.pl_printed.proofs.Nodes.{Good}
use Rattle.pl_printed.proofs.Lines.{Ends, Holds, AllStand, ends_line, opens_go, finish_goes, block_goes, ArmGoes, AllArms, SomeArms, arms_go, if_goes, last_goes}
use Rattle.pl_printed.proofs.Simple.{test_goes, arm_goes, for_goes, PerhapsGood, parfor_goes, spmd_goes}

-- ---- each kind, by its parts

if_holds : (arms : List (Keyword → Words)) (last : List Words) → SomeArms arms → AllStand last → Holds (of_stmt_kind (StmtKind-F.If arms last))
if_holds arms last h k d gap rest g b = if_goes arms h d gap (last_words word.Else last gap (finish gap rest)) g (last_goes word.Else refl last k d gap (finish gap rest) g (finish_goes d gap rest g b))

while_holds : (e : Expr) (body : List Words) → Good false (shown e) → AllStand body → Holds (of_stmt_kind (StmtKind-F.While e body))
while_holds e body h k d gap rest g b = test_goes word.While refl e h d gap (block_words body (finish gap rest)) g (block_goes body k d (finish gap rest) (finish_goes d gap rest g b))

for_holds : (n : Name) (e : Expr) (body : List Words) → IsName n.text → Good false (shown e) → AllStand body → Holds (of_stmt_kind (StmtKind-F.For n e body))
for_holds n e body i h k d gap rest g b = for_goes word.For refl n e i h d gap (block_words body (finish gap rest)) g (block_goes body k d (finish gap rest) (finish_goes d gap rest g b))

parfor_holds : (n : Name) (e : Expr) (bound : Option Expr) (body : List Words) → IsName n.text → Good false (shown e) → PerhapsGood bound → AllStand body → Holds (of_stmt_kind (StmtKind-F.Parfor n e bound body))
parfor_holds n e bound body i h p k d gap rest g b = parfor_goes n e bound i h p d gap (block_words body (finish gap rest)) g (block_goes body k d (finish gap rest) (finish_goes d gap rest g b))

switch_holds : (e : Expr) (cases : List (Keyword → Words)) (last : List Words) → Good false (shown e) → AllArms cases → AllStand last → Holds (of_stmt_kind (StmtKind-F.Switch e cases last))
switch_holds e cases last h a k d gap rest g b =
    test_goes word.Switch refl e h d gap (line_end (arms_words word.Case word.Case cases gap (last_words word.Otherwise last gap (finish gap rest)))) g
    (ends_line (d + 1) (arms_words word.Case word.Case cases gap (last_words word.Otherwise last gap (finish gap rest)))
    (arms_go word.Case refl cases a d gap (last_words word.Otherwise last gap (finish gap rest)) g (last_goes word.Otherwise refl last k d gap (finish gap rest) g (finish_goes d gap rest g b))))

try_holds : (body handler : List Words) → AllStand body → AllStand handler → Holds (of_stmt_kind (StmtKind-F.Try body handler))
try_holds body handler h k d gap rest g b =
    let x : Ends (d + 1) (block_words body (last_words word.Catch handler gap (finish gap rest))) = block_goes body h d (last_words word.Catch handler gap (finish gap rest)) (last_goes word.Catch refl handler k d gap (finish gap rest) g (finish_goes d gap rest g b)) in
    opens_go word.Try refl d gap (block_words body (last_words word.Catch handler gap (finish gap rest))) g (x.parts false) (x.shown false other refl)

spmd_holds : (bound : Option Expr) (body : List Words) → PerhapsGood bound → AllStand body → Holds (of_stmt_kind (StmtKind-F.Spmd bound body))
spmd_holds bound body p k d gap rest g b = spmd_goes bound p d gap (block_words body (finish gap rest)) g (block_goes body k d (finish gap rest) (finish_goes d gap rest g b))

-- ---- a compound statement whose last block is still being read

abbrev pub StmtsGo : List Stmt → Type 0
StmtsGo ss = AllStand (map stmt_words ss)

abbrev ArmsGo : List Arm → Type 0
ArmsGo arms = AllArms (map arm_words arms)

abbrev pub OwnerGoes : Owner → Type 0
OwnerGoes (own.If arms t) = ArmsGo arms × Good false (shown t)
OwnerGoes (own.Else arms) = SomeArms (map arm_words arms)
OwnerGoes (own.While e) = Good false (shown e)
OwnerGoes (own.For n e) = IsName n.text × Good false (shown e)
OwnerGoes (own.Parfor n e b) = IsName n.text × Good false (shown e) × PerhapsGood b
OwnerGoes (own.Switch v) = Good false (shown v)
OwnerGoes (own.Case v arms t) = Good false (shown v) × ArmsGo arms × Good false (shown t)
OwnerGoes (own.Otherwise v arms) = Good false (shown v) × ArmsGo arms
OwnerGoes own.Try = Unit {0}
OwnerGoes (own.Catch ss) = StmtsGo ss
OwnerGoes (own.Spmd b) = PerhapsGood b

arm_is : (t : Expr) (ss : List Stmt) → Good false (shown t) → StmtsGo ss → ArmGoes (arm_words (arm t ss))
arm_is t ss h k = subst ArmGoes (sym (at_arm Words (Keyword → Words) Words of_stmt_kind of_arm_layer of_stmt_layer t ss)) (arm_goes t (map stmt_words ss) h k)

arms_snoc : (arms : List Arm) (t : Expr) (ss : List Stmt) → ArmsGo arms → Good false (shown t) → StmtsGo ss → ArmsGo (arms ++ arm t ss ∷ [])
arms_snoc [] t ss h g k = (arm_is t ss g k, tt)
arms_snoc (a ∷ arms) t ss h g k = (h.0, arms_snoc arms t ss h.1 g k)

some_snoc : (arms : List Arm) (t : Expr) (ss : List Stmt) → ArmsGo arms → Good false (shown t) → StmtsGo ss → SomeArms (map arm_words (arms ++ arm t ss ∷ []))
some_snoc [] t ss h g k = (arm_is t ss g k, tt)
some_snoc (a ∷ arms) t ss h g k = (h.0, arms_snoc arms t ss h.1 g k)

-- a further part with a value, or with none
pub value_owner : (o : Owner) (ss : List Stmt) (e : Expr) → OwnerGoes o → StmtsGo ss → Good false (shown e) → OwnerGoes (with_value o ss e)
value_owner (own.If arms t) ss e h k g = (arms_snoc arms t ss h.0 h.1 k, g)
value_owner (own.Switch v) ss e h k g = (h, tt, g)
value_owner (own.Case v arms t) ss e h k g = (h.0, arms_snoc arms t ss h.1 h.2 k, g)
value_owner (own.Else arms) ss e h k g = h
value_owner (own.While x) ss e h k g = h
value_owner (own.For n x) ss e h k g = h
value_owner (own.Parfor n x b) ss e h k g = h
value_owner (own.Otherwise v arms) ss e h k g = h
value_owner own.Try ss e h k g = h
value_owner (own.Catch hs) ss e h k g = h
value_owner (own.Spmd b) ss e h k g = h

pub none_owner : (o : Owner) (ss : List Stmt) → OwnerGoes o → StmtsGo ss → OwnerGoes (with_none o ss)
none_owner (own.If arms t) ss h k = some_snoc arms t ss h.0 h.1 k
none_owner (own.Switch v) ss h k = (h, tt)
none_owner (own.Case v arms t) ss h k = (h.0, arms_snoc arms t ss h.1 h.2 k)
none_owner (own.Else arms) ss h k = h
none_owner (own.While x) ss h k = h
none_owner (own.For n x) ss h k = h
none_owner (own.Parfor n x b) ss h k = h
none_owner (own.Otherwise v arms) ss h k = h
none_owner own.Try ss h k = h
none_owner (own.Catch hs) ss h k = h
none_owner (own.Spmd b) ss h k = h

-- what a fold makes of a statement holds
pub made : (s : what.StmtKind) (words : Words) → what_words s ≡ words → Holds words → Holds (what_words s)
made s words e h = subst Holds (sym e) h

-- the last block is done
pub closed_holds : (o : Owner) (ss : List Stmt) → OwnerGoes o → StmtsGo ss → Holds (what_words (closed o ss))
closed_holds (own.If arms t) ss h k = made _ _ (at_if Words (Keyword → Words) Words of_stmt_kind of_arm_layer of_stmt_layer (arms ++ arm t ss ∷ []) []) (if_holds _ [] (some_snoc arms t ss h.0 h.1 k) tt)
closed_holds (own.Else arms) ss h k = made _ _ (at_if Words (Keyword → Words) Words of_stmt_kind of_arm_layer of_stmt_layer arms ss) (if_holds _ _ h k)
closed_holds (own.While e) ss h k = made _ _ (at_while Words (Keyword → Words) Words of_stmt_kind of_arm_layer of_stmt_layer e ss) (while_holds e _ h k)
closed_holds (own.For n e) ss h k = made _ _ (at_for Words (Keyword → Words) Words of_stmt_kind of_arm_layer of_stmt_layer n e ss) (for_holds n e _ h.0 h.1 k)
closed_holds (own.Parfor n e b) ss h k = made _ _ (at_parfor Words (Keyword → Words) Words of_stmt_kind of_arm_layer of_stmt_layer n e b ss) (parfor_holds n e b _ h.0 h.1 h.2 k)
closed_holds (own.Switch v) ss h k = made _ _ (at_switch Words (Keyword → Words) Words of_stmt_kind of_arm_layer of_stmt_layer v [] []) (switch_holds v [] [] h tt tt)
closed_holds (own.Case v arms t) ss h k = made _ _ (at_switch Words (Keyword → Words) Words of_stmt_kind of_arm_layer of_stmt_layer v (arms ++ arm t ss ∷ []) []) (switch_holds v _ [] h.0 (arms_snoc arms t ss h.1 h.2 k) tt)
closed_holds (own.Otherwise v arms) ss h k = made _ _ (at_switch Words (Keyword → Words) Words of_stmt_kind of_arm_layer of_stmt_layer v arms ss) (switch_holds v _ _ h.0 h.1 k)
closed_holds own.Try ss h k = made _ _ (at_try Words (Keyword → Words) Words of_stmt_kind of_arm_layer of_stmt_layer ss []) (try_holds _ [] k tt)
closed_holds (own.Catch hs) ss h k = made _ _ (at_try Words (Keyword → Words) Words of_stmt_kind of_arm_layer of_stmt_layer hs ss) (try_holds _ _ h k)
closed_holds (own.Spmd b) ss h k = made _ _ (at_spmd Words (Keyword → Words) Words of_stmt_kind of_arm_layer of_stmt_layer b ss) (spmd_holds b _ h k)
