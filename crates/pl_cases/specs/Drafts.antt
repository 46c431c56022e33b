-- What is said of a case, section by section, and the case that it makes.
use Rattle.std.specs.Prelude.{ℕ, Bool, true, false, if◌then◌else◌, Option, Some, None, unwrap_or, Result, Ok, Err, List, [], ◌∷◌, ◌++◌}
use Rattle.std.specs.List.{list_any}
use Rattle.pl_cases.specs.declared.cases.Limits.{Limits}
use Rattle.pl_cases.specs.declared.cases.Wanted.{Wanted}
use Rattle.pl_cases.specs.declared.cases.Case.{Case}
use Rattle.pl_cases.specs.declared.malformed.Malformed.{Malformed}
use Rattle.pl_cases.specs.declared.malformed.Reason.{Reason}
use Rattle.pl_cases.specs.declared.malformed.Reason.TheVariants as reason
use Rattle.pl_cases.specs.declared.mark.Object.{Object}
use Rattle.pl_cases.specs.declared.mark.Object.TheVariants as object
use Rattle.pl_cases.specs.declared.mark.Mark.{Mark}
use Rattle.pl_cases.specs.declared.mark.Mark.TheVariants as mark
use Rattle.pl_cases.specs.declared.line.Head.{Head}
use Rattle.pl_cases.specs.declared.line.Head.TheVariants as head
use Rattle.pl_cases.specs.declared.draft.Draft.{Draft}
use Rattle.pl_cases.specs.Answers.{◌>>=◌}
use Rattle.pl_words.specs.Words.{same}

-- a case has a name; nothing is said of it yet
abbrev pub begun_case : List ℕ → ℕ → Result Draft Malformed
begun_case [] line = Err (record { line = line; reason = reason.NoName })
begun_case (c ∷ cs) line = Ok (record {
  name = c ∷ cs;
  line = line;
  words = None;
  given = record { names = []; bytes = []; fails = [] };
  out_room = None;
  out_fails = [];
  notes_room = None;
  notes_fails = [];
  status = None;
  outs = [];
  notes = None;
  choices = None;
  with_all_workers = false;
})

-- what may be said once is said
abbrev pub once : {A : Type 0} → Option A → A → Result (Option A) Reason
once None x = Ok (Some x)
once (Some _) x = Err reason.Twice

-- one command line
abbrev pub with_command : Draft → Option (List (List ℕ)) → List (List ℕ) → Result Draft Reason
with_command d None words = Ok (record d { words = Some words })
with_command d (Some _) words = Err reason.SecondCommand

-- one file of a name
abbrev pub with_file : Draft → List ℕ → List ℕ → Result Draft Reason
with_file d name bytes =
    if list_any (same name) d.given.names then Err reason.Twice else
    Ok (record d { given = record { names = d.given.names ++ name ∷ []; bytes = d.given.bytes ++ bytes ∷ []; fails = d.given.fails } })

-- one output, behind which others may be allowed
abbrev pub with_out : Draft → List (List ℕ) → List ℕ → Result Draft Reason
with_out d [] text = Ok (record d { outs = text ∷ [] })
with_out d (_ ∷ _) text = Err reason.Twice

abbrev pub with_other_out : Draft → List (List ℕ) → List ℕ → Result Draft Reason
with_other_out d [] text = Err reason.OrWithoutOut
with_other_out d (out ∷ outs) text = Ok (record d { outs = (out ∷ outs) ++ text ∷ [] })

-- calls that fail, as many as one likes
abbrev pub with_fail : Draft → ℕ → Object → Result Draft Reason
with_fail d call object.Files = Ok (record d { given = record { names = d.given.names; bytes = d.given.bytes; fails = d.given.fails ++ call ∷ [] } })
with_fail d call object.Out = Ok (record d { out_fails = d.out_fails ++ call ∷ [] })
with_fail d call object.Notes = Ok (record d { notes_fails = d.notes_fails ++ call ∷ [] })

abbrev pub with_all : Draft → Bool → Result Draft Reason
with_all d false = Ok (record d { with_all_workers = true })
with_all d true = Err reason.Twice

-- what was said and a mark with its text
abbrev pub said_by_mark : Draft → List ℕ → Mark → Result Draft Reason
said_by_mark d text (mark.File name) = with_file d name text
said_by_mark d text mark.Out = with_out d d.outs text
said_by_mark d text mark.Or = with_other_out d d.outs text
said_by_mark d text mark.Notes = once d.notes text >>= λ notes. Ok (record d { notes = notes })
said_by_mark d text mark.Choices = once d.choices text >>= λ choices. Ok (record d { choices = choices })
said_by_mark d text (mark.Status n) = once d.status n >>= λ status. Ok (record d { status = status })
said_by_mark d text (mark.Fail o call) = with_fail d call o
said_by_mark d text (mark.OutRoom n) = once d.out_room n >>= λ room. Ok (record d { out_room = room })
said_by_mark d text (mark.NotesRoom n) = once d.notes_room n >>= λ room. Ok (record d { notes_room = room })
said_by_mark d text mark.AllWorkers = with_all d d.with_all_workers

-- what was said and a section with its text; one that begins a case says nothing of this one
abbrev pub said : Draft → List ℕ → Head → Result Draft Reason
said d text (head.Case name) = Ok d
said d text (head.Command words) = with_command d d.words words
said d text (head.Mark m) = said_by_mark d text m

-- a sink takes 1,000,000 bytes where nothing is said
abbrev pub limits : Option ℕ → List ℕ → Limits
limits room fails = record { room = unwrap_or room 1000000; fails = fails }

-- one output without bytes is allowed where none is named
abbrev pub some_out : List (List ℕ) → List (List ℕ)
some_out [] = [] ∷ []
some_out (out ∷ outs) = out ∷ outs

-- the status is 0 and there are no notes where nothing is said; the choices may be any
abbrev pub wanted : Option ℕ → List (List ℕ) → Option (List ℕ) → Option (List ℕ) → Wanted
wanted status outs notes choices = record { status = unwrap_or status 0; outs = some_out outs; notes = unwrap_or notes []; choices = choices }

-- the case of which all is said: it has a command line
abbrev pub finished : Draft → Option (List (List ℕ)) → Result Case Malformed
finished d None = Err (record { line = d.line; reason = reason.NoCommand })
finished d (Some words) = Ok (record {
  name = d.name;
  line = d.line;
  words = words;
  given = d.given;
  out = limits d.out_room d.out_fails;
  notes = limits d.notes_room d.notes_fails;
  wanted = wanted d.status d.outs d.notes d.choices;
  with_all_workers = d.with_all_workers;
})
