-- What is found before what a rule finds.
use Rattle.std.proofs.Common.{◌≡◌, ◌≤◌, ◌<◌, ℕ, ◌+◌, ◌-◌, List, [], ◌∷◌, ◌++◌, length, get_or, take, drop, refl, ap, sym, ◌∙◌, append_assoc, append-nil, cond, suc, arith}
use Rattle.std.proofs.lemmas.List.{take_all}
use Rattle.std.specs.Prelude.{Result, Ok, Err}
use Rattle.pl_base.specs.declared.memory.Or.{Or}
use Rattle.pl_base.specs.declared.memory.Or.TheVariants as or
use Rattle.pl_cases.specs.declared.cases.Case.{Case}
use Rattle.pl_cases.specs.declared.malformed.Malformed.{Malformed}
use Rattle.pl_cases.specs.declared.line.Head.{Head}
use Rattle.pl_cases.specs.declared.line.Head.TheVariants as head
use Rattle.pl_cases.specs.declared.section.Section.{Section}
use Rattle.pl_cases.specs.Answers.{◌>>=◌, each, with_front, Fails}
use Rattle.pl_cases.specs.Lines.{is_case}
use Rattle.pl_cases.specs.Cases.{Groups, group, before, grouped, to_next_case, case_of, case_at, cases_in}

-- one more at the front
pub front_more : {A E : Type 0} (xs : List A) (x : A) (found : Result (List A) E) → with_front (xs ++ x ∷ []) found ≡ with_front xs (found >>= λ ys. Ok (x ∷ ys))
front_more xs x (Ok ys) = ap Ok (append_assoc xs (x ∷ []) ys)
front_more xs x (Err e) = refl

pub front_none : {A E : Type 0} (found : Result (List A) E) → with_front [] found ≡ found
front_none (Ok ys) = refl
front_none (Err e) = refl

-- the sections before the next case are loose, and behind them the cases are the same
pub record Parted (sections : List Section) (g : Groups) : Type 0 where
  pub loose : g.loose ≡ take (to_next_case sections) sections
  pub cases : grouped (drop (to_next_case sections) sections) ≡ record { loose = []; cases = g.cases }

parted_at : (s : Section) (sections : List Section) (h : Head) → s.head ≡ h → Parted sections (grouped sections) → Parted (s ∷ sections) (before s h (grouped sections))
parted_at s sections (head.Case name) is p =
    let none : to_next_case (s ∷ sections) ≡ 0 = ap (λ (h : Head). cond (is_case h) 0 (1 + to_next_case sections)) is in
    record {
      loose = ap (λ (n : ℕ). take n (s ∷ sections)) (sym none);
      cases = ap (λ (n : ℕ). grouped (drop n (s ∷ sections))) none ∙ ap (λ (h : Head). before s h (grouped sections)) is;
    }
parted_at s sections (head.Command words) is p =
    let one : to_next_case (s ∷ sections) ≡ 1 + to_next_case sections = ap (λ (h : Head). cond (is_case h) 0 (1 + to_next_case sections)) is in
    let more : to_next_case (s ∷ sections) ≡ suc (to_next_case sections) = omega arith in
    record {
      loose = ap (λ (l : List Section). s ∷ l) p.loose ∙ ap (λ (n : ℕ). take n (s ∷ sections)) (sym more);
      cases = ap (λ (n : ℕ). grouped (drop n (s ∷ sections))) more ∙ p.cases;
    }
parted_at s sections (head.Mark m) is p =
    let one : to_next_case (s ∷ sections) ≡ 1 + to_next_case sections = ap (λ (h : Head). cond (is_case h) 0 (1 + to_next_case sections)) is in
    let more : to_next_case (s ∷ sections) ≡ suc (to_next_case sections) = omega arith in
    record {
      loose = ap (λ (l : List Section). s ∷ l) p.loose ∙ ap (λ (n : ℕ). take n (s ∷ sections)) (sym more);
      cases = ap (λ (n : ℕ). grouped (drop n (s ∷ sections))) more ∙ p.cases;
    }

pub parted : (sections : List Section) → Parted sections (grouped sections)
parted [] = record { loose = refl; cases = refl }
parted (s ∷ sections) = parted_at s sections s.head refl (parted sections)

-- what the cases are behind those that were found, where the next one is found, or a fault
next_at : (s : Section) (behind said : List Section) (h : Head) (case : Case) → s.head ≡ h → said ≡ take (to_next_case behind) behind → case_at s h said ≡ Ok case → cases_in (grouped (s ∷ behind)) ≡ (cases_in (grouped (drop (to_next_case behind) behind)) >>= λ ys. Ok (case ∷ ys))
next_at s behind said (head.Case name) case is front found =
    let p = parted behind in
    ap (λ (h : Head). cases_in (before s h (grouped behind))) is
    ∙ ap (λ (l : List Section). case_of (group s.line name l) >>= λ y. each case_of (grouped behind).cases >>= λ ys. Ok (y ∷ ys)) (p.loose ∙ sym front)
    ∙ ap (λ (r : Result Case Malformed). r >>= λ y. each case_of (grouped behind).cases >>= λ ys. Ok (y ∷ ys)) found
    ∙ sym (ap (λ (g : Groups). cases_in g >>= λ ys. Ok (case ∷ ys)) p.cases)
next_at s behind said (head.Command words) case is front found = absurd cc
next_at s behind said (head.Mark m) case is front found = absurd cc

pub next_case : (cases : List Case) (s : Section) (behind said more : List Section) (case : Case) → said ≡ take (to_next_case behind) behind → more ≡ drop (to_next_case behind) behind → case_at s s.head said ≡ Ok case → with_front (cases ++ case ∷ []) (cases_in (grouped more)) ≡ with_front cases (cases_in (grouped (s ∷ behind)))
next_case cases s behind said more case front rest found =
    ap (λ (l : List Section). with_front (cases ++ case ∷ []) (cases_in (grouped l))) rest
    ∙ front_more cases case (cases_in (grouped (drop (to_next_case behind) behind)))
    ∙ ap (λ (r : Result (List Case) Malformed). with_front cases r) (sym (next_at s behind said s.head case refl front found))

fault_at : (s : Section) (behind said : List Section) (h : Head) (fault : Malformed) → s.head ≡ h → said ≡ take (to_next_case behind) behind → case_at s h said ≡ Err fault → cases_in (grouped (s ∷ behind)) ≡ Err fault
fault_at s behind said (head.Case name) fault is front found =
    ap (λ (h : Head). cases_in (before s h (grouped behind))) is
    ∙ ap (λ (l : List Section). case_of (group s.line name l) >>= λ y. each case_of (grouped behind).cases >>= λ ys. Ok (y ∷ ys)) ((parted behind).loose ∙ sym front)
    ∙ ap (λ (r : Result Case Malformed). r >>= λ y. each case_of (grouped behind).cases >>= λ ys. Ok (y ∷ ys)) found
fault_at s behind said (head.Command words) fault is front found = ap (λ (h : Head). cases_in (before s h (grouped behind))) is ∙ ap (λ (r : Result Case Malformed). r >>= λ y. Ok (y ∷ [])) found
fault_at s behind said (head.Mark m) fault is front found = ap (λ (h : Head). cases_in (before s h (grouped behind))) is ∙ ap (λ (r : Result Case Malformed). r >>= λ y. Ok (y ∷ [])) found

pub next_fault : (cases : List Case) (s : Section) (behind said : List Section) (fault : Malformed) → said ≡ take (to_next_case behind) behind → case_at s s.head said ≡ Err fault → with_front cases (cases_in (grouped (s ∷ behind))) ≡ Err fault
next_fault cases s behind said fault front found = ap (λ (r : Result (List Case) Malformed). with_front cases r) (fault_at s behind said s.head fault refl front found)

-- all but the first, as a pattern of a slice has them
abbrev pub behind_of : List Section → List Section
behind_of rest = take (length rest - 1) (drop 1 rest)

-- a case more is found
pub goes_on : (cases : List Case) (rest : List Section) (s d : Section) (said more : List Section) (n : ℕ) (case : Case) → 1 ≤ length rest → s ≡ get_or rest 0 d → n ≡ to_next_case (behind_of rest) → said ≡ take n (behind_of rest) → more ≡ drop n (behind_of rest) → case_at s s.head said ≡ Ok case → with_front (cases ++ case ∷ []) (cases_in (grouped more)) ≡ with_front cases (cases_in (grouped rest))
goes_on cases [] s d said more n case within is count front back found = absurd (omega arith)
goes_on cases (x ∷ behind) s d said more n case within is count front back found =
    let whole : behind_of (x ∷ behind) ≡ behind = take_all (length (x ∷ behind) - 1) behind (omega arith) in
    let count : n ≡ to_next_case behind = count ∙ ap to_next_case whole in
    let front : said ≡ take (to_next_case behind) behind = front ∙ ap (take n) whole ∙ ap (λ (k : ℕ). take k behind) count in
    let back : more ≡ drop (to_next_case behind) behind = back ∙ ap (drop n) whole ∙ ap (λ (k : ℕ). drop k behind) count in
    next_case cases s behind said more case front back found ∙ ap (λ (y : Section). with_front cases (cases_in (grouped (y ∷ behind)))) is

-- the next case has a fault
falls : (cases : List Case) (rest : List Section) (s d : Section) (said : List Section) (n : ℕ) (fault : Malformed) → 1 ≤ length rest → s ≡ get_or rest 0 d → n ≡ to_next_case (behind_of rest) → said ≡ take n (behind_of rest) → case_at s s.head said ≡ Err fault → with_front cases (cases_in (grouped rest)) ≡ Err fault
falls cases [] s d said n fault within is count front found = absurd (omega arith)
falls cases (x ∷ behind) s d said n fault within is count front found =
    let whole : behind_of (x ∷ behind) ≡ behind = take_all (length (x ∷ behind) - 1) behind (omega arith) in
    let count : n ≡ to_next_case behind = count ∙ ap to_next_case whole in
    let front : said ≡ take (to_next_case behind) behind = front ∙ ap (take n) whole ∙ ap (λ (k : ℕ). take k behind) count in
    ap (λ (y : Section). with_front cases (cases_in (grouped (y ∷ behind)))) (sym is) ∙ next_fault cases s behind said fault front found

pub fails_on : (cases : List Case) (rest : List Section) (s d : Section) (said : List Section) (n : ℕ) (e : Or Malformed) → 1 ≤ length rest → s ≡ get_or rest 0 d → n ≡ to_next_case (behind_of rest) → said ≡ take n (behind_of rest) → Fails e (case_at s s.head said) → Fails e (with_front cases (cases_in (grouped rest)))
fails_on cases rest s d said n or.Memory within is count front f = tt
fails_on cases rest s d said n (or.Is fault) within is count front f = falls cases rest s d said n fault within is count front f

-- all cases are found
pub ends : (cases : List Case) (rest : List Section) → length rest < 1 → with_front cases (cases_in (grouped rest)) ≡ Ok cases
ends cases [] few = ap Ok (append-nil cases)
ends cases (x ∷ rest) few = absurd (omega arith)
