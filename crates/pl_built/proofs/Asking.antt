-- A run asks only of loops of the form, from workspaces as long as their scopes, and of extras of its program's table: how parts
-- that do so are put together, and those that no statement stands in.
use Rattle.std.specs.Prelude.{◌≡◌, nat_lt, length, if◌then◌else◌, slice_set}
use Rattle.std.proofs.Common.{◌∙◌, refl, ap, ℕ, zero, suc, List, [], Bool, true, false, Option, Some, None, Result, Ok, Err, subst}
use Rattle.std.proofs.lemmas.List.{length-set}
use Rattle.pl_base.specs.declared.errors.ErrKind.{ErrKind}
use Rattle.pl_base.specs.declared.errors.Place.{Place}
use Rattle.pl_base.specs.declared.errors.ScriptError.{ScriptError}
use Rattle.pl_base.specs.declared.mode.Mode.{Mode}
use Rattle.pl_array.specs.Arrays.{Array}
use Rattle.pl_syntax.specs.declared.expr.Name.{Name}
use Rattle.pl_values.specs.declared.value.Value.{Value}
use Rattle.pl_values.specs.declared.value.Value.TheVariants as value
use Rattle.pl_values.specs.Workspaces.{value_at}
use Rattle.pl_operators.specs.declared.argument.Argument.{Argument}
use Rattle.pl_operators.specs.Picking.{assign_value}
use Rattle.pl_resolve.specs.declared.resolved.Resolved.{Resolved}
use Rattle.pl_meaning.specs.declared.event.Answer.{Answer}
use Rattle.pl_meaning.specs.declared.event.Event.{Event}
use Rattle.pl_meaning.specs.declared.frame.Ends.{Ends}
use Rattle.pl_meaning.specs.declared.known.Known.{Known}
use Rattle.pl_meaning.specs.declared.known.Known.TheVariants as known
use Rattle.pl_meaning.specs.declared.known.Own.{Own}
use Rattle.pl_meaning.specs.declared.known.Own.TheVariants.{Disp, Fprintf, Sprintf, Error, NumToStr, MatToStr, Feval}
use Rattle.pl_meaning.specs.Accesses.{settle, read_of, read, check_of, check, selected_of, read_part, end_of, read_end, write, put, write_part, erased_of, erase_part, turn_of, take_turn}
use Rattle.pl_meaning.specs.Forms.{is_among}
use Rattle.pl_meaning.specs.Library.{offering, printed, own_of, library}
use Rattle.pl_meaning.specs.Logs.{shows, Workspace, LoopQuestion, Asked, OfLoop, OfExtra, Reply, keeping}
use Rattle.pl_meaning.specs.Loops.{body_frame}
use Rattle.pl_meaning.specs.Names.{names_in, slot_of}
use Rattle.pl_meaning.specs.Parts.{written_in}
use Rattle.pl_built.specs.Built.{is_built_question, built_rules}
use Rattle.pl_meaning.specs.Running.{before, State, Outcome, Asks, Rest, Running, pure, raise, ◌>>=◌, is_fatal, attempt, inside, tell, waits, answered_by, ask}

asks_same : (q r : Asked) (u v : Workspace) → Asks q u ≡ Asks r v → q ≡ r
asks_same q r u v e = cc

asks_there : (q r : Asked) (u v : Workspace) → Asks q u ≡ Asks r v → u ≡ v
asks_there q r u v e = cc

loop_same : (q r : LoopQuestion) (u v : Workspace) → Asks (OfLoop q) u ≡ Asks (OfLoop r) v → q ≡ r
loop_same q r u v e = cc

no_loop : (number : ℕ) (vs : List Value) (nout : ℕ) (r : LoopQuestion) (u v : Workspace) → Asks (OfExtra number vs nout) u ≡ Asks (OfLoop r) v → ⊥
no_loop number vs nout r u v e = cc

-- where a slot has a value, it has an array
abbrev pub IsLaid : Workspace → ℕ → Type 0
IsLaid env slot = (v : Value) → value_at env slot ≡ Some v → (a : Array) × (v ≡ value.Array a)

module _ (program : Resolved) where
  -- a question of a loop of the form, or of an extra of the table
  abbrev pub IsBuiltQuestion : Asked → Type 0
  IsBuiltQuestion q = is_built_question program q ≡ true

  -- how many variables a scope has
  abbrev pub width : ℕ → ℕ
  width scope = length (names_in program scope)

  -- a workspace has this length, in a run that began in one as long as the script's scope
  abbrev pub IsLong : Bool → ℕ → Workspace → Type 0
  IsLong wide n env = wide ≡ true → length env ≡ n

  -- that holds of each variable that the loop's body writes
  abbrev pub AreLaid : LoopQuestion → Workspace → Type 0
  AreLaid q env = (n : Name) (slot : ℕ) → is_among (written_in q.body) n ≡ true → slot_of program (body_frame q) n.text ≡ Some slot → IsLaid env slot

  -- from here by rules that answer no other question
  abbrev pub strict : State → State
  strict s = record s { rules = built_rules program s.rules }

  -- what stops at no other question, and from no other workspace, and is the same by those rules
  pub record Fine (wide : Bool) (o other : Outcome) : Type 0 where
    pub asks : (q : Asked) (env : Workspace) → o.ending ≡ Asks q env → IsBuiltQuestion q
    pub long : (q : LoopQuestion) (env : Workspace) → o.ending ≡ Asks (OfLoop q) env → IsLong wide (width q.scope) env
    pub laid : (q : LoopQuestion) (env : Workspace) → o.ending ≡ Asks (OfLoop q) env → AreLaid q env
    pub same : o ≡ other

  abbrev pub Onwards : {A : Type 0} → Bool → ℕ → (A → Rest) → (A → Rest) → Type 0
  Onwards {A} wide n k k' = (a : A) (s : State) → IsLong wide n s.env → Fine wide (k a s) (k' a (strict s))

  -- a part of which that holds in workspaces of this length, if it holds of what comes behind it
  pub record GoodAt {A : Type 0} (n : ℕ) (p : Running A) : Type 0 where
    pub fine : (wide : Bool) (k k' : A → Rest) (h h' : ScriptError → Rest) → Onwards wide n k k' → Onwards wide n h h' → (s : State) → IsLong wide n s.env → Fine wide (p k h s) (p k' h' (strict s))

  -- and one of which it holds in those of them of which this holds
  pub record GoodWhere {A : Type 0} (P : Workspace → Type 0) (n : ℕ) (p : Running A) : Type 0 where
    pub fine : (wide : Bool) (k k' : A → Rest) (h h' : ScriptError → Rest) → Onwards wide n k k' → Onwards wide n h h' → (s : State) → IsLong wide n s.env → P s.env → Fine wide (p k h s) (p k' h' (strict s))

  -- and one of which it holds in every workspace
  pub record Good {A : Type 0} (p : Running A) : Type 0 where
    pub at : (n : ℕ) → GoodAt n p

  -- ## Parts put together

  pub pure_good : {A : Type 0} (a : A) → Good (pure a)
  pure_good a = record { at = λ n. record { fine = λ wide k k' h h' K H s w. K a s w } }

  pub raise_good : {A : Type 0} (e : ScriptError) → Good (raise {A = A} e)
  raise_good e = record { at = λ n. record { fine = λ wide k k' h h' K H s w. H e s w } }

  pub bind_at : {A B : Type 0} {n : ℕ} {p : Running A} (f : A → Running B) → GoodAt n p → ((a : A) → GoodAt n (f a)) → GoodAt n (p >>= f)
  bind_at f P F = record { fine = λ wide k k' h h' K H s w. P.fine wide (λ a. f a k h) (λ a. f a k' h') h h' (λ a t v. (F a).fine wide k k' h h' K H t v) H s w }

  pub bind_good : {A B : Type 0} {p : Running A} (f : A → Running B) → Good p → ((a : A) → Good (f a)) → Good (p >>= f)
  bind_good f P F = record { at = λ n. bind_at f (P.at n) (λ a. (F a).at n) }

  pub choice_at : {A : Type 0} {n : ℕ} (b : Bool) (p q : Running A) → GoodAt n p → GoodAt n q → GoodAt n (if b then p else q)
  choice_at true p q P Q = P
  choice_at false p q P Q = Q

  pub choice_good : {A : Type 0} (b : Bool) (p q : Running A) → Good p → Good q → Good (if b then p else q)
  choice_good true p q P Q = P
  choice_good false p q P Q = Q

  recovered : {A : Type 0} {n : ℕ} (b : Bool) (e : ScriptError) (q : Running A) → GoodAt n q → (wide : Bool) (k k' : A → Rest) (h h' : ScriptError → Rest) → Onwards wide n k k' → Onwards wide n h h' → (s : State) → IsLong wide n s.env → Fine wide ((if b then h e else q k h) s) ((if b then h' e else q k' h') (strict s))
  recovered true e q Q wide k k' h h' K H s w = H e s w
  recovered false e q Q wide k k' h h' K H s w = Q.fine wide k k' h h' K H s w

  pub attempt_at : {A : Type 0} {n : ℕ} (p q : Running A) → GoodAt n p → GoodAt n q → GoodAt n (attempt p q)
  attempt_at p q P Q = record { fine = λ wide k k' h h' K H s w. P.fine wide k k' _ _ K (λ e t v. recovered (is_fatal e.kind) e q Q wide k k' h h' K H t v) s w }

  -- a part in a workspace of its own: behind it the run stands in the one before
  pub inside_good : {A : Type 0} (env : Workspace) (p : Running A) → GoodAt (length env) p → Good (inside env p)
  inside_good env p P = record { at = λ n. record { fine = λ wide k k' h h' K H s w. P.fine wide _ _ _ _ (λ a t v. K a (record t { env = s.env }) w) (λ e t v. H e (record t { env = s.env }) w) (record s { env = env }) (λ yes'. refl) } }

  -- a part that looks where the run stands, but not at its rules
  pub look_at : {A : Type 0} {n : ℕ} (p : State → Running A) → ((s : State) → GoodAt n (p s)) → ((s : State) → p s ≡ p (strict s)) → GoodAt n (λ k h s. p s k h s)
  look_at p P same = record { fine = λ wide k k' h h' K H s w. subst (λ r. Fine wide (p s k h s) (r k' h' (strict s))) (same s) ((P s).fine wide k k' h h' K H s w) }

  pub look_good : {A : Type 0} (p : State → Running A) → ((s : State) → Good (p s)) → ((s : State) → p s ≡ p (strict s)) → Good (λ k h s. p s k h s)
  look_good p P same = record { at = λ n. look_at p (λ s. (P s).at n) same }

  pub tell_good : (e : Event) → Good (tell e)
  unfolding tell
  tell_good e = record { at = λ n. record { fine = λ wide k k' h h' K H s w. record { asks = (K tt s w).asks; long = (K tt s w).long; laid = (K tt s w).laid; same = ap (before (shows e)) (K tt s w).same } } }

  pub bind_where : {A B : Type 0} {P : Workspace → Type 0} {n : ℕ} {p : Running A} (f : A → Running B) → GoodWhere P n p → ((a : A) → GoodAt n (f a)) → GoodWhere P n (p >>= f)
  bind_where f G F = record { fine = λ wide k k' h h' K H s w has. G.fine wide (λ a. f a k h) (λ a. f a k' h') h h' (λ a t v. (F a).fine wide k k' h h' K H t v) H s w has }

  pub where_at : {A : Type 0} {P : Workspace → Type 0} {n : ℕ} {p : Running A} → ((env : Workspace) → P env) → GoodWhere P n p → GoodAt n p
  where_at all G = record { fine = λ wide k k' h h' K H s w. G.fine wide k k' h h' K H s w (all s.env) }

  -- a question of a loop of the form, in a workspace of its scope in which the variables that its body writes have arrays
  waits_where : (q : LoopQuestion) → IsBuiltQuestion (OfLoop q) → GoodWhere (AreLaid q) (width q.scope) (waits {A = Answer} (OfLoop q))
  waits_where q form = record {
    fine = λ wide k k' h h' K H s w has. record {
      asks = λ r env e. subst IsBuiltQuestion (asks_same (OfLoop q) r s.env env e) form;
      long = λ r env e. subst (λ v. IsLong wide (width r.scope) v) (asks_there (OfLoop q) (OfLoop r) s.env env e) (subst (λ r. IsLong wide (width r.scope) s.env) (loop_same q r s.env env e) w);
      laid = λ r env e. subst (λ v. AreLaid r v) (asks_there (OfLoop q) (OfLoop r) s.env env e) (subst (λ r. AreLaid r s.env) (loop_same q r s.env env e) has);
      same = refl;
    };
  }

  -- a question of an extra of the table, in any workspace
  waits_extra : (n number : ℕ) (vs : List Value) (nout : ℕ) → IsBuiltQuestion (OfExtra number vs nout) → GoodWhere (λ env. Unit {0}) n (waits {A = Answer} (OfExtra number vs nout))
  waits_extra n number vs nout within = record {
    fine = λ wide k k' h h' K H s w has. record {
      asks = λ r env e. subst IsBuiltQuestion (asks_same (OfExtra number vs nout) r s.env env e) within;
      long = λ r env e. absurd (no_loop number vs nout r s.env env e);
      laid = λ r env e. absurd (no_loop number vs nout r s.env env e);
      same = refl;
    };
  }

  answered_by_where : {P : Workspace → Type 0} {n : ℕ} (q : Asked) → GoodWhere P n (waits {A = Answer} q) → (o : Option Reply) → GoodWhere P n (answered_by q o)
  answered_by_where q W None = W
  answered_by_where q W (Some r) = record { fine = λ wide k k' h h' K H s w has. K r.answer (record s { choices = r.left; rules = keeping s.rules r.kept }) w }

  -- which those rules answer, too
  chosen : (b : Bool) (o : Option Reply) → b ≡ true → o ≡ (if b then o else None)
  chosen true o e = refl
  chosen false o e = absurd (cc)

  asked_where : {P : Workspace → Type 0} {n : ℕ} (q : Asked) → IsBuiltQuestion q → GoodWhere P n (waits {A = Answer} q) → GoodWhere P n (ask q)
  unfolding ask
  asked_where q built W = record {
    fine = λ wide k k' h h' K H s w has.
        subst (λ o. Fine wide (answered_by q (s.rules.reply s.rules.kept q s.env s.choices) k h s) (answered_by q o k' h' (strict s)))
        (chosen (is_built_question program q) (s.rules.reply s.rules.kept q s.env s.choices) built)
        ((answered_by_where q W (s.rules.reply s.rules.kept q s.env s.choices)).fine wide k k' h h' K H s w has);
  }

  pub ask_where : (q : LoopQuestion) → IsBuiltQuestion (OfLoop q) → GoodWhere (AreLaid q) (width q.scope) (ask (OfLoop q))
  ask_where q form = asked_where (OfLoop q) form (waits_where q form)

  pub ask_extra_good : (number : ℕ) (vs : List Value) (nout : ℕ) → IsBuiltQuestion (OfExtra number vs nout) → Good (ask (OfExtra number vs nout))
  ask_extra_good number vs nout within = record { at = λ n. where_at (λ env. tt) (asked_where (OfExtra number vs nout) within (waits_extra n number vs nout within)) }

  -- ## Accesses

  pub settle_good : {A : Type 0} (place : Place) (r : Result A ErrKind) → Good (settle place r)
  settle_good place (Ok a) = pure_good a
  settle_good place (Err kind) = raise_good _

  read_of_good : (place : Place) (v : Option Value) → Good (read_of place v)
  read_of_good place (Some v) = pure_good v
  read_of_good place None = raise_good _

  pub read_good : (slot : ℕ) (place : Place) → Good (read slot place)
  unfolding read
  read_good slot place = look_good (λ s. read_of place (value_at s.env slot)) (λ s. read_of_good place _) (λ s. refl)

  check_of_good : (place : Place) (v : Option Value) → Good (check_of place v)
  check_of_good place (Some v) = pure_good tt
  check_of_good place None = raise_good _

  pub check_good : (slot : ℕ) (place : Place) → Good (check slot place)
  unfolding check
  check_good slot place = look_good (λ s. check_of place (value_at s.env slot)) (λ s. check_of_good place _) (λ s. refl)

  selected_good : (place : Place) (list : List Argument) (v : Option Value) → Good (selected_of place list v)
  selected_good place list (Some v) = settle_good place _
  selected_good place list None = raise_good _

  pub read_part_good : (slot : ℕ) (place : Place) (list : List Argument) → Good (read_part slot place list)
  unfolding read_part
  read_part_good slot place list = look_good (λ s. selected_of place list (value_at s.env slot)) (λ s. selected_good place list _) (λ s. refl)

  pub read_end_good : (ends : Ends) (place : Place) → Good (read_end ends place)
  unfolding read_end
  read_end_good ends place = look_good (λ s. end_of place ends (value_at s.env ends.slot)) (λ s. settle_good place _) (λ s. refl)

  pub write_good : (slot : ℕ) (v : Value) → Good (write slot v)
  unfolding write
  write_good slot v = record { at = λ n. record { fine = λ wide k k' h h' K H s w. K tt (record s { env = slice_set s.env slot (Some v) }) (λ yes'. length-set s.env slot (Some v) ∙ w yes') } }

  put_good : (slot : ℕ) (place : Place) (r : Result Value ErrKind) → Good (put slot place r)
  put_good slot place (Ok v) = record { at = λ n. record { fine = λ wide k k' h h' K H s w. K tt (record s { env = slice_set s.env slot (Some v) }) (λ yes'. length-set s.env slot (Some v) ∙ w yes') } }
  put_good slot place (Err kind) = raise_good _

  pub write_part_good : (slot : ℕ) (place : Place) (list : List Argument) (v : Value) → Good (write_part slot place list v)
  unfolding write_part
  write_part_good slot place list v = look_good (λ s. put slot place (assign_value (value_at s.env slot) list v)) (λ s. put_good slot place _) (λ s. refl)

  erased_good : (slot : ℕ) (place : Place) (list : List Argument) (v : Option Value) → Good (erased_of slot place list v)
  erased_good slot place list (Some v) = put_good slot place _
  erased_good slot place list None = raise_good _

  pub erase_part_good : (slot : ℕ) (place : Place) (list : List Argument) → Good (erase_part slot place list)
  unfolding erase_part
  erase_part_good slot place list = look_good (λ s. erased_of slot place list (value_at s.env slot)) (λ s. erased_good slot place list _) (λ s. refl)

  turn_good : (place : Place) (turns : ℕ) → Good (turn_of place turns)
  turn_good place zero = raise_good _
  turn_good place (suc left) = record { at = λ n. record { fine = λ wide k k' h h' K H s w. K tt (record s { turns = left }) w } }

  pub take_turn_good : (place : Place) → Good (take_turn place)
  unfolding take_turn
  take_turn_good place = look_good (λ s. turn_of place s.turns) (λ s. turn_good place s.turns) (λ s. refl)

  turn_where : {A : Type 0} {P : Workspace → Type 0} {n : ℕ} (place : Place) (p : Running A) → GoodWhere P n p → (turns : ℕ) → GoodWhere P n (turn_of place turns >>= (λ u. p))
  turn_where place p G zero = record { fine = λ wide k k' h h' K H s w has. H _ s w }
  turn_where place p G (suc left) = record { fine = λ wide k k' h h' K H s w has. G.fine wide k k' h h' K H (record s { turns = left }) w has }

  pub take_turn_where : {A : Type 0} {P : Workspace → Type 0} {n : ℕ} (place : Place) (p : Running A) → GoodWhere P n p → GoodWhere P n (take_turn place >>= (λ u. p))
  unfolding take_turn
  take_turn_where place p G = record { fine = λ wide k k' h h' K H s w has. (turn_where place p G s.turns).fine wide k k' h h' K H s w has }

  -- ## The library

  offered_good : {A : Type 0} (most nout : ℕ) (place : Place) (p : Running A) → Good p → Good (offering most nout place p)
  offered_good most nout place p P = choice_good (nat_lt most nout) _ p (raise_good _) P

  printed_good : (text : List ℕ) → Good (printed text)
  printed_good text = bind_good _ (tell_good _) (λ u. pure_good [])

  own_good : (place : Place) (f : Own) (nout : ℕ) (vs : List Value) → Good (own_of place f nout vs)
  own_good place Disp nout vs = offered_good 0 nout place _ (bind_good _ (settle_good place _) (λ a. printed_good _))
  own_good place Fprintf nout vs = offered_good 0 nout place _ (bind_good _ (settle_good place _) (λ text. printed_good text))
  own_good place Sprintf nout vs = offered_good 1 nout place _ (bind_good _ (settle_good place _) (λ a. pure_good _))
  own_good place Error nout vs = offered_good 0 nout place _ (bind_good _ (settle_good place _) (λ text. raise_good _))
  own_good place NumToStr nout vs = offered_good 1 nout place _ (bind_good _ (settle_good place _) (λ a. pure_good _))
  own_good place MatToStr nout vs = offered_good 1 nout place _ (bind_good _ (settle_good place _) (λ a. pure_good _))
  own_good place Feval nout vs = raise_good _

  pub library_good : (mode : Mode) (place : Place) (f : Known) (nout : ℕ) (vs : List Value) → Good (library mode place f nout vs)
  unfolding library
  library_good mode place (known.Own f) nout vs = own_good place f nout vs
  library_good mode place (known.Numbers f) nout vs = settle_good place _
  library_good mode place (known.Sets f) nout vs = settle_good place _
