-- The cases of a text.
use Rattle.std.specs.Prelude.{ℕ, ◌+◌, if◌then◌else◌, Result, Ok, Err, List, [], ◌∷◌}
use Rattle.pl_cases.specs.declared.cases.Case.{Case}
use Rattle.pl_cases.specs.declared.malformed.Malformed.{Malformed}
use Rattle.pl_cases.specs.declared.malformed.Reason.TheVariants as reason
use Rattle.pl_cases.specs.declared.line.Head.{Head}
use Rattle.pl_cases.specs.declared.line.Head.TheVariants as head
use Rattle.pl_cases.specs.declared.section.Section.{Section}
use Rattle.pl_cases.specs.declared.draft.Draft.{Draft}
use Rattle.pl_cases.specs.Answers.{◌>>=◌, at, each}
use Rattle.pl_cases.specs.Lines.{lines_of, is_case}
use Rattle.pl_cases.specs.Sections.{sections_from, outside}
use Rattle.pl_cases.specs.Drafts.{begun_case, said, finished}

-- a case's line and name, and the sections behind it up to the next case
pub record Group : Type 0 where
  pub line : ℕ
  pub name : List ℕ
  pub sections : List Section

abbrev pub group : ℕ → List ℕ → List Section → Group
group line name sections = record { line = line; name = name; sections = sections }

-- sections before the first case, and the cases behind them
pub record Groups : Type 0 where
  pub loose : List Section
  pub cases : List Group

abbrev pub before : Section → Head → Groups → Groups
before s (head.Case name) g = record { loose = []; cases = group s.line name g.loose ∷ g.cases }
before s (head.Command words) g = record { loose = s ∷ g.loose; cases = g.cases }
before s (head.Mark m) g = record { loose = s ∷ g.loose; cases = g.cases }

abbrev pub grouped : List Section → Groups
grouped [] = record { loose = []; cases = [] }
grouped (s ∷ sections) = before s s.head (grouped sections)

-- how many sections stand before the next case
abbrev pub to_next_case : List Section → ℕ
to_next_case [] = 0
to_next_case (s ∷ sections) = if is_case s.head then 0 else 1 + to_next_case sections

-- what a section says; a fault is told of its line
abbrev pub said_at : Draft → Section → Result Draft Malformed
said_at d s = at s.line (said d s.text s.head)

-- what these sections say, in their order, behind what was said before
abbrev pub said_by_all : Draft → List Section → Result Draft Malformed
said_by_all d [] = Ok d
said_by_all d (s ∷ sections) = said_at d s >>= λ more. said_by_all more sections

-- the case of a group; what it lacks is told of its own line
abbrev pub case_of : Group → Result Case Malformed
case_of g = begun_case g.name g.line >>= λ d. said_by_all d g.sections >>= λ all. finished all all.words

-- the case that a section begins, of which these are what is said of it
abbrev pub case_at : Section → Head → List Section → Result Case Malformed
case_at s (head.Case name) said = case_of (group s.line name said)
case_at s _ said = Err (record { line = s.line; reason = reason.NoCase })

-- each section belongs to a case
abbrev pub cases_behind : List Section → List Group → Result (List Case) Malformed
cases_behind [] groups = each case_of groups
cases_behind (s ∷ _) groups = Err (record { line = s.line; reason = reason.NoCase })

abbrev pub cases_in : Groups → Result (List Case) Malformed
cases_in g = cases_behind g.loose g.cases

-- The cases of a text in their order, or the first fault: of its end, else of its first wrong line, else of its first wrong case.
unfoldable pub cases_of : List ℕ → Result (List Case) Malformed
cases_of source = lines_of source >>= λ lines. sections_from outside 1 lines >>= λ sections. cases_in (grouped sections)
