-- Which program the tokens of a source are, what their fault is, and where: the relations of the grammar, with the
-- place of a terminal for their number.
use Rattle.std.specs.Prelude.{◌≡◌, ℕ, ◌-◌, List, [], ◌∷◌, length, drop, map}
use Rattle.pl_base.specs.declared.memory.Or.{Or}
use Rattle.pl_base.specs.declared.memory.Or.TheVariants as or
use Rattle.pl_base.specs.declared.errors.Place.{Place}
use Rattle.pl_syntax.specs.declared.stmt.Program.{Program}
use Rattle.pl_grammar.specs.declared.fault.FaultKind.{FaultKind}
use Rattle.pl_grammar.specs.declared.terminal.Terminal.{Terminal}
use Rattle.pl_grammar.specs.Programs.{strict, Parses, shown_at, ParseFault as FaultAt}
use Rattle.pl_lex.specs.declared.token.Token.{Token}
use Rattle.pl_lex.specs.Tokens.{place_of}
use Rattle.pl_terminals.specs.Terminals.{terminal_of}
use Rattle.pl_states.specs.declared.parser.Refusal.{Refusal}
use Rattle.pl_parse.specs.declared.fault.ParseFault.{ParseFault}

abbrev pub terminals_of : List ℕ → List Token → List Terminal
terminals_of source tokens = map (terminal_of source) tokens

-- the tokens are this program, of a nesting up to 200
abbrev pub IsProgram : List ℕ → List Token → Program → Type 0
IsProgram source tokens program = Parses (strict 200) (terminals_of source tokens) program

-- the place of the first of these terminals, or the end of the file
abbrev pub front_place : List ℕ → List Terminal → Place
front_place source [] = place_of source (length source)
front_place source (t ∷ ts) = t.place

-- where a fault is shown before which so many terminals stand
abbrev pub shown_place : List ℕ → List Terminal → FaultKind → ℕ → Place
shown_place source terminals kind at = front_place source (drop (shown_at kind terminals at) terminals)

-- the tokens have this fault
abbrev pub Faults : List ℕ → List Token → FaultKind → Place → Type 0
Faults source tokens kind place = (at : ℕ) × FaultAt 200 (terminals_of source tokens) at kind × (place ≡ shown_place source (terminals_of source tokens) kind at)

-- memory ran out
abbrev pub IsMemory : Or ParseFault → Type 0
IsMemory or.Memory = Unit {0}
IsMemory (or.Is f) = ⊥

-- the fault is the tokens', unless memory ran out
abbrev pub IsFaultOf : List ℕ → List Token → Or ParseFault → Type 0
IsFaultOf source tokens or.Memory = Unit {0}
IsFaultOf source tokens (or.Is f) = Faults source tokens f.kind f.place

-- the fault has this kind and place, unless memory ran out
abbrev pub IsFault : FaultKind → Place → Or ParseFault → Type 0
IsFault kind place or.Memory = Unit {0}
IsFault kind place (or.Is f) = (f.kind ≡ kind) × (f.place ≡ place)

-- the fault that a refusal is
abbrev pub fault_of : Refusal → List Terminal → List ℕ → ParseFault
fault_of r terminals source = record { kind = r.kind; place = shown_place source terminals r.kind (length terminals - r.left) }
