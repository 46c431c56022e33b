-- What it is for a case to pass, and what a verdict tells.
use Rattle.std.specs.Prelude.{◌≡◌, IfSome, Contains}
use Rattle.pl_cases.specs.declared.cases.Wanted.{Wanted}
use Rattle.conformance.specs.declared.compare.Seen.{Seen}
use Rattle.conformance.specs.declared.compare.Verdict.{Verdict}
use Rattle.conformance.specs.declared.compare.Verdict.TheVariants as verdict

abbrev pub HasChoices : Wanted → Seen → Type 0
HasChoices wanted seen = IfSome wanted.choices (λ c. c ≡ seen.choices)

-- the status and the notes are those that are wanted, and so are the choices, where any are; and the output is one of those
-- that are allowed
pub record Passes (wanted : Wanted) (seen : Seen) : Type 0 where
  pub status : seen.status ≡ wanted.status
  pub out : Contains wanted.outs seen.out
  pub notes : seen.notes ≡ wanted.notes
  pub choices : HasChoices wanted seen

-- the verdict is the first of status, output, notes and choices that is wrong
abbrev pub Tells : Wanted → Seen → Verdict → Type 0
Tells wanted seen verdict.Passed = Passes wanted seen
Tells wanted seen verdict.WrongStatus = seen.status ≡ wanted.status → ⊥
Tells wanted seen verdict.WrongOut = (seen.status ≡ wanted.status) × (Contains wanted.outs seen.out → ⊥)
Tells wanted seen verdict.WrongNotes = (seen.status ≡ wanted.status) × Contains wanted.outs seen.out × (seen.notes ≡ wanted.notes → ⊥)
Tells wanted seen verdict.WrongChoices = (seen.status ≡ wanted.status) × Contains wanted.outs seen.out × (seen.notes ≡ wanted.notes) × (HasChoices wanted seen → ⊥)
