-- The law of printed texts.
use Rattle.std.proofs.Common.{ℕ, List, map, sym, subst}
use Rattle.pl_syntax.specs.declared.stmt.Program.{Program}
use Rattle.pl_grammar.specs.declared.terminal.Terminal.{Terminal}
use Rattle.pl_grammar.specs.Programs.{strict}
use Rattle.pl_terminals.specs.Terminals.{terminal_of}
use Rattle.pl_layout.specs.Shown.{AreShown, ReadAs}
use Rattle.pl_layout.proofs.Law.{text_law}
use Rattle.pl_printing.specs.Canonical.{canonical}
use Rattle.pl_printing.specs.ReadingBack.{ReadsAs}
use Rattle.pl_printing.proofs.Programs.{read_back}
use Rattle.pl_printed.specs.Printed.{printed, IsSourceOf, PrintedLaw}
use Rattle.pl_printed.proofs.Words.{AreWords, words_of_source}
use Rattle.pl_printed.proofs.Programs.{shown_program}

-- what a program is printed as can be laid out
pub shown : (limit : ℕ) (source : List ℕ) (program : Program) → IsSourceOf limit source program → AreShown (canonical program)
shown limit source program x =
    let words : AreWords (map (terminal_of source) x.tokens) = words_of_source source x.tokens x.lexes in
    let P : Program → Type 0 = λ p. AreShown (canonical p) in
    subst P x.parses.means (shown_program x.parses.rules (strict limit).twice x.parses.sound (subst AreWords (sym x.parses.spelled) words))

pub printed_law : PrintedLaw
printed_law limit source program x =
    let r : ReadAs (printed program) (canonical program) = text_law (canonical program) (shown limit source program x) in
    let b : ReadsAs limit (map (terminal_of (printed program)) r.tokens) program = read_back limit (map (terminal_of source) x.tokens) program x.parses (map (terminal_of (printed program)) r.tokens) r.alike in
    record { again = b.again; is_source = record { tokens = r.tokens; lexes = r.lexes; parses = b.parses }; same = b.same }
