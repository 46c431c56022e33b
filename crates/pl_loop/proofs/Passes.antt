-- A statement more of a pass, a pass more, and the answer of a loop of which all passes ended.
use Rattle.std.specs.Prelude.{slice_get, slice_set}
use Rattle.std.proofs.Common.{◌≡◌, ◌⊎◌, ◌∙◌, ℕ, ◌+◌, ℤ, pos, ◌+ℤ◌, List, [], ◌∷◌, ◌++◌, drop, Bool, true, Some, None, Ok, Err, Result, IfOk, refl, sym, ap, subst, add-one}
use Rattle.pl_base.specs.declared.memory.NoMemory.{NoMemory}
use Rattle.pl_syntax.specs.declared.expr.Name.{Name}
use Rattle.pl_syntax.specs.declared.expr.Expr.{Expr}
use Rattle.pl_syntax.specs.declared.stmt.Stmt.{Stmt, out-Stmt}
use Rattle.pl_syntax.specs.declared.stmt.StmtKind as stmt
use Rattle.pl_syntax.specs.declared.stmt.StmtKind.{out-StmtKind}
use Rattle.pl_syntax.specs.declared.stmt.StmtKind.TheOpen.{StmtKind-F}
use Rattle.pl_syntax.specs.declared.stmt.StmtKind.TheVariants.{outs-Assign}
use Rattle.pl_syntax.specs.declared.stmt.Target.{Target}
use Rattle.pl_syntax.specs.declared.stmt.Target.TheVariants.{Indexed}
use Rattle.pl_values.specs.Workspaces.{value_at}
use Rattle.pl_operators.specs.Picking.{assign_value}
use Rattle.pl_resolve.specs.declared.resolved.Resolved.{Resolved}
use Rattle.pl_meaning.specs.declared.event.Output.{Output}
use Rattle.pl_meaning.specs.Logs.{Workspace, LoopQuestion, Log}
use Rattle.pl_meaning.specs.Promises.{At}
use Rattle.pl_meaning.specs.declared.frame.Frame.{Frame}
use Rattle.pl_meaning.specs.Forms.{is_form}
use Rattle.pl_meaning.specs.Loops.{body_frame, start_of, own_places, written_slots, come_to, loop_answer}
use Rattle.pl_frame.specs.Ordering.{Each, HasSlot, HasArray, IsNew}
use Rattle.pl_frame.specs.Rising.{suits, Passing, Pass, Risen, output_with, outputs_in}
use Rattle.pl_frame.proofs.Passing.{ready_slots, went_in_pass, drop_next}
use Rattle.pl_frame.proofs.Rising.{rising_order}
use Rattle.pl_frame.proofs.Outputs.{moved_out, output_last}
use Rattle.pl_loop.specs.declared.running.Done.{Done}
use Rattle.pl_loop.specs.Coming.{ending_of}
use Rattle.pl_loop.specs.Passes.{Assigned, EachOnce, Founded, Stepped, printer_log}
use Rattle.pl_loop.proofs.Steps.{printed}
use Rattle.pl_loop.proofs.Answering.{passed_ok}

-- an assignment to a part of a variable, by its parts
pub kind_of : (s : Stmt) (t : Target) (name : Name) (list : List Expr) (e : Expr) → s.kind ≡ stmt.Assign t e → t ≡ Indexed name list → out-StmtKind (out-Stmt s).kind ≡ StmtKind-F.Assign (Indexed name list) e
kind_of s t name list e is part = ap out-StmtKind (is ∙ ap (λ (x : Target). stmt.Assign x e) part) ∙ outs-Assign (Indexed name list) e

-- what was tested is what the passes rest on
pub founded : (program : Resolved) (q : LoopQuestion) (env : Workspace) (f : Frame) (slots : List ℕ) → f ≡ body_frame q → slots ≡ written_slots program q → is_form program f q.index q.body ≡ true → HasSlot program q env → Each (λ (s : ℕ). HasArray env s ⊎ IsNew env s) slots → Founded program q env
founded program q env f slots at are form index ready = record {
  form = subst (λ (g : Frame). is_form program g q.index q.body ≡ true) at form;
  index = index;
  ready = ready_slots program q env (subst (λ (l : List ℕ). Each (λ (s : ℕ). HasArray env s ⊎ IsNew env s) l) are ready);
}

-- where a run stands with a printer that keeps this text
abbrev pub printing : Workspace → ℕ → ℕ → List ℕ → At
printing env turns calls text = record { env = env; turns = turns; calls = calls; log = printer_log text }

module _ (program : Resolved) (depth : ℕ) (q : LoopQuestion) (env : Workspace) where
  pub one_more : Founded program q env → (k : ℕ) (i : ℤ) (before : Workspace) (told : List ℕ) → Risen program depth q env k before told → (n : ℕ) (now : Workspace) (text : List ℕ) → Passing program depth q env i (start_of program q before i) told n now text → (s : Stmt) → slice_get q.body n ≡ Some s → (next : Workspace) (more : List ℕ) (turns left calls started : ℕ) → Stepped program depth q env i s (printing now turns calls text) (printing next left started more) → Passing program depth q env i (start_of program q before i) told (n + 1) next more
  one_more F k i before told R n now text P s is next more turns left calls started S =
      let A = S.assigned in
      let w = went_in_pass program depth q env F.form F.index k i before told R n now told text P s is S.name S.list S.expr S.kind (printing now turns calls text) A.between A.gained refl A.went in
      subst (λ (m : ℕ). Passing program depth q env i (start_of program q before i) told m next more) (sym (add-one n)) (record {
        now = now;
        told = text;
        come = P;
        stmt = s;
        is = is;
        shown = w.0;
        assigns = record {
          name = S.name;
          list = S.list;
          expr = S.expr;
          kind = S.kind;
          slot = A.slot;
          slot_is = A.slot_is;
          gained = A.gained;
          comes = w.1;
          may = subst (λ (W : Workspace). suits (value_at env A.slot) (value_at W A.slot) A.gained ≡ true) w.2 A.put.may;
          made = A.put.made;
          makes = subst (λ (W : Workspace). assign_value (value_at W A.slot) (own_places i) A.gained ≡ Ok A.put.made) w.2 A.put.makes;
          leaves = A.put.leaves ∙ ap (λ (W : Workspace). slice_set W A.slot (Some A.put.made)) w.2;
        };
        grown = printed text more w.0 (ap (λ (l : Log). l.shown) A.log ∙ w.5);
      })

  -- a statement that is such an assignment was carried out where it was assigned
  stepped : (i : ℤ) (s : Stmt) (t : Target) (name : Name) (list : List Expr) (e : Expr) (old new : At) (r : Result Bool NoMemory) → s.kind ≡ stmt.Assign t e → t ≡ Indexed name list → IfOk r (λ is. is ≡ true → Assigned program depth q env i name e old new) → IfOk r (λ is. is ≡ true → Stepped program depth q env i s old new)
  stepped i s t name list e old new (Ok is) kind part h = λ yes. record { name = name; list = list; expr = e; kind = kind_of s t name list e kind part; assigned = h yes }
  stepped i s t name list e old new (Err x) kind part h = h

  -- the same, where the value of the index is told in other words
  pub stepped_near : (i z : ℤ) (s : Stmt) (t : Target) (name : Name) (list : List Expr) (e : Expr) (old new : At) (r : Result Bool NoMemory) → s.kind ≡ stmt.Assign t e → t ≡ Indexed name list → IfOk r (λ is. is ≡ true → Assigned program depth q env z name e old new) → z ≡ i → IfOk r (λ is. is ≡ true → Stepped program depth q env i s old new)
  stepped_near i z s t name list e old new r kind part h at = subst (λ (x : ℤ). IfOk r (λ is. is ≡ true → Stepped program depth q env x s old new)) at (stepped z s t name list e old new r kind part h)

  pub one_higher : (k : ℕ) (i : ℤ) → i ≡ q.first +ℤ pos k → (before : Workspace) (told : List ℕ) → Risen program depth q env k before told → (now : Workspace) (text : List ℕ) → Pass program depth q env i before told now text → Risen program depth q env (k + 1) now text
  one_higher k i is before told R now text P =
      let mine : Pass program depth q env (q.first +ℤ pos k) before told now text = subst (λ (z : ℤ). Pass program depth q env z before told now text) is P in
      subst (λ (n : ℕ). Risen program depth q env n now text) (sym (add-one k)) (record { now = before; told = told; come = R; pass = mine })

  -- the answer of a loop of which all passes ended
  pub risen_ok : (turns : ℕ) → Founded program q env → (end : Workspace) (text : List ℕ) → Risen program depth q env q.count end text → (slots : List ℕ) → slots ≡ written_slots program q → (r : Result Done NoMemory) → IfOk r (λ d. (p : Resolved) → d ≡ ending_of p q text (Ok (outputs_in end slots))) → IfOk r (λ d. loop_answer program turns depth q env d.choice ≡ Some d.answer)
  risen_ok turns F end text R slots are r h =
      let law = rising_order program turns depth q env end text F.form F.index F.ready R in
      let come : come_to program turns depth q env ≡ Ok (outputs_in end slots) = law.2 ∙ ap (λ (l : List ℕ). Ok (outputs_in end l)) (sym are) in
      passed_ok program turns depth q env r text (outputs_in end slots) law.0 law.1 come h

-- ## The variables at the end

-- those that were moved out, and then those of the slots to come
abbrev pub Left : Workspace → List ℕ → ℕ → List Output → Workspace → Type 0
Left end slots n done left = EachOnce (drop n slots) × (outputs_in end slots ≡ done ++ outputs_in left (drop n slots))

left_more : (end left : Workspace) (x : ℕ) (rest : List ℕ) (all done : List Output) → EachOnce (x ∷ rest) → all ≡ done ++ outputs_in left (x ∷ rest) → all ≡ (done ++ output_with x (value_at left x) []) ++ outputs_in (slice_set left x None) rest
left_more end left x rest all done once e = e ∙ ap (λ (outs : List Output). done ++ outs) (moved_out left x rest once) ∙ output_last done x (value_at left x) (outputs_in (slice_set left x None) rest)

pub left_next : (end left : Workspace) (slots : List ℕ) (n x : ℕ) (done : List Output) → slice_get slots n ≡ Some x → Left end slots n done left → Left end slots (n + 1) (done ++ output_with x (value_at left x) []) (slice_set left x None)
left_next end left slots n x done is L =
    let here : drop n slots ≡ x ∷ drop (n + 1) slots = drop_next slots n x is ∙ ap (λ (k : ℕ). x ∷ drop k slots) (sym (add-one n)) in
    let once : EachOnce (x ∷ drop (n + 1) slots) = subst (λ (xs : List ℕ). EachOnce xs) here L.0 in
    let all : outputs_in end slots ≡ done ++ outputs_in left (x ∷ drop (n + 1) slots) = L.1 ∙ ap (λ (xs : List ℕ). done ++ outputs_in left xs) here in
    (once.1, left_more end left x (drop (n + 1) slots) (outputs_in end slots) done once all)
