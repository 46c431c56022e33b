-- What the lexer's calls answer.
use Rattle.std.specs.Prelude.{◌≡◌, ℕ, ◌+◌, ◌≤◌, List, length, drop, Result, Ok, Err}
use Rattle.pl_base.specs.declared.memory.Or.{Or}
use Rattle.pl_base.specs.declared.memory.Or.TheVariants as or
use Rattle.pl_base.specs.declared.errors.Place.{Place}
use Rattle.pl_lex.specs.declared.state.Before.{Before}
use Rattle.pl_lex.specs.declared.lexer.Stop.{Stop}
use Rattle.pl_lex.specs.declared.token.Token.{Token}
use Rattle.pl_lex.specs.declared.token.LexKind.{LexKind}
use Rattle.pl_lex.specs.declared.token.LexFault.{LexFault}
use Rattle.pl_lex.specs.Tokens.{mark_len, Faults}
use Rattle.pl_lex.specs.Scan.{run, answer}

-- a step leads the run on, or to its fault
abbrev pub Steps : Result ℕ (Or Stop) → List Token → Before → ℕ → List ℕ → List Token → Before → Type 0
Steps (Ok n) done b at text done' b' = run done b at 0 text ≡ run done' b' (at + n) 0 (drop n text)
Steps (Err or.Memory) done b at text done' b' = Unit {0}
Steps (Err (or.Is stop)) done b at text done' b' = (run done b at 0 text ≡ Err (stop.kind, at)) × (stop.at ≡ at)

-- the source's answer is this fault, which stands in it
abbrev pub StopsAt : List ℕ → Or Stop → Type 0
StopsAt source or.Memory = Unit {0}
StopsAt source (or.Is stop) = (answer source ≡ Err (stop.kind, stop.at)) × (mark_len source ≤ stop.at) × (stop.at ≤ length source)

-- memory ran out
abbrev pub IsMemory : Or LexFault → Type 0
IsMemory or.Memory = Unit {0}
IsMemory (or.Is f) = ⊥

-- the fault is the source's, unless memory ran out
abbrev pub IsFaultOf : List ℕ → Or LexFault → Type 0
IsFaultOf source or.Memory = Unit {0}
IsFaultOf source (or.Is f) = Faults source f.kind f.place

-- the fault has this kind and place, unless memory ran out
abbrev pub IsFault : LexKind → Place → Or LexFault → Type 0
IsFault kind place or.Memory = Unit {0}
IsFault kind place (or.Is f) = (f.kind ≡ kind) × (f.place ≡ place)
