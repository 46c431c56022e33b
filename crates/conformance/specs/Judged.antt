-- How cases are judged, and what is counted of it.
use Rattle.std.specs.Prelude.{◌≡◌, ℕ, ◌<◌, Bool, true, false, Ok, Err, List, [], ◌∷◌, ◌++◌, length, All, Contains}
use Rattle.std.specs.List.{AllZip}
use Rattle.pl_io.specs.Counted.{counted}
use Rattle.pl_cases.specs.declared.cases.Case.{Case}
use Rattle.pl_cases.specs.Cases.{cases_of}
use Rattle.conformance.specs.declared.contents.Contents.{Contents}
use Rattle.conformance.specs.declared.contents.Contents.TheVariants.{Cases, Malformed, Unreadable}
use Rattle.conformance.specs.declared.compare.Seen.{Seen}
use Rattle.conformance.specs.declared.report.Tally.{Tally}
use Rattle.conformance.specs.Passes.{Passes}
use Rattle.conformance.specs.Runs.{command_lines_of, Leaves}

-- a run of the case with this command line left what is wanted, or something else
abbrev pub IsRunJudged : Case → List (List ℕ) → Bool → Type 0
IsRunJudged case words true = (seen : Seen) × Leaves case words seen × Passes case.wanted seen
IsRunJudged case words false = (seen : Seen) × Leaves case words seen × (Passes case.wanted seen → ⊥)

-- a case passes where it does with each of its command lines, and fails where it does with one
abbrev pub IsJudged : Case → Bool → Type 0
IsJudged case true = All (λ words. IsRunJudged case words true) (command_lines_of case)
IsJudged case false = (words : List (List ℕ)) × Contains (command_lines_of case) words × IsRunJudged case words false

-- the judgements of what is in a file: one for each case, in their order; of a text that is malformed, or can't be read, a failure
abbrev pub AreJudged : Contents → List Bool → Type 0
AreJudged (Cases cases) judged = AllZip IsJudged cases judged
AreJudged (Malformed malformed) judged = judged ≡ false ∷ []
AreJudged Unreadable judged = judged ≡ false ∷ []

-- the cases are those of some text, the fault is that of some text, or there is no text
abbrev pub IsRead : Contents → Type 0
IsRead (Cases cases) = (text : List ℕ) × (cases_of text ≡ Ok cases)
IsRead (Malformed fault) = (text : List ℕ) × (cases_of text ≡ Err fault)
IsRead Unreadable = Unit {0}

-- the judgements of a file, whatever text is in it
abbrev pub IsFileJudged : List Bool → Type 0
IsFileJudged judged = (contents : Contents) × IsRead contents × AreJudged contents judged

-- the judgements of all files
abbrev pub joined : List (List Bool) → List Bool
joined [] = []
joined (judged ∷ more) = judged ++ joined more

-- the counts with those of these judgements
abbrev pub tallied : Tally → List Bool → Tally
tallied tally [] = tally
tallied tally (true ∷ judged) = tallied (record tally { passed = counted tally.passed }) judged
tallied tally (false ∷ judged) = tallied (record tally { failed = counted tally.failed }) judged

-- there is a case, and none failed
pub record IsSuccess (judged : List Bool) : Type 0 where
  pub some : 0 < length judged
  pub none_failed : All (λ passed. passed ≡ true) judged
