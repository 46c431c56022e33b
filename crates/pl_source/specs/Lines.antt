-- The lines that refuse a source.
use Rattle.std.specs.Prelude.{ℕ, List, ◌++◌, codes}
use Rattle.pl_base.specs.declared.errors.Place.{Place}
use Rattle.pl_lex.specs.declared.token.LexKind.{LexKind}
use Rattle.pl_lex.specs.declared.token.LexKind.TheVariants.{BadByte, OpenText, LiteralRange, NotWhole}
use Rattle.pl_grammar.specs.declared.fault.FaultKind.{FaultKind}
use Rattle.pl_grammar.specs.declared.fault.FaultKind.TheVariants.{Unexpected, MissingEnd, FunctionTwice, TooDeep}
use Rattle.pl_resolve.specs.declared.fault.NameFault.{NameFault}
use Rattle.std.specs.Fmt.{decimal}

abbrev pub lex_name : LexKind → List ℕ
lex_name BadByte = codes "BadByte"
lex_name OpenText = codes "OpenText"
lex_name LiteralRange = codes "LiteralRange"
lex_name NotWhole = codes "NotWhole"

abbrev pub fault_name : FaultKind → List ℕ
fault_name Unexpected = codes "Unexpected"
fault_name MissingEnd = codes "MissingEnd"
fault_name FunctionTwice = codes "FunctionTwice"
fault_name TooDeep = codes "TooDeep"

-- a text, a place by line and column, and the line's end
abbrev pub line_at : List ℕ → Place → List ℕ
line_at text place = text ++ codes " at " ++ decimal place.line ++ codes ":" ++ decimal place.col ++ codes "\n"

abbrev pub syntax_line : List ℕ → Place → List ℕ
syntax_line kind place = line_at (codes "parlab: syntax error " ++ kind) place

abbrev pub unknown_line : NameFault → List ℕ
unknown_line f = line_at (codes "parlab: unknown name " ++ f.name) f.place

abbrev pub not_built_line : Place → List ℕ
not_built_line place = line_at (codes "parlab: not built") place
