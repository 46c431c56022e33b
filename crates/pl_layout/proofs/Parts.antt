-- The lexer's sorts of pieces, by what its scan finds: their names are its own.
use Rattle.std.proofs.Common.{[], ◌∷◌, Result, Ok, Err, Some}
use Rattle.std.specs.Prelude.{codes}
use Rattle.pl_lex.specs.declared.token.LexKind.{LexKind}
use Rattle.pl_lex.specs.Bytes.{class_of}
use Rattle.pl_lex.specs.State.{start}
use Rattle.pl_lex.specs.Scan.{blank, word, literal_of, text_of, sign, outside}
use Rattle.pl_layout.specs.Shown.{type_of}

abbrev pub Part : Type 0
Part = type_of (blank []).part

abbrev pub Brackets : Type 0
Brackets = type_of start.brackets

abbrev pub Last : Type 0
Last = type_of start.last

abbrev pub part_in : Result (type_of (blank [])) LexKind → Part
part_in (Ok f) = f.part
part_in (Err e) = (blank []).part

abbrev pub blank_part : Part
blank_part = (blank []).part

abbrev pub name_part : Part
name_part = (word (codes "x")).part

abbrev pub keyword_part : Part
keyword_part = (word (codes "end")).part

abbrev pub literal_part : Part
literal_part = part_in (literal_of 0 (48 ∷ []))

abbrev pub chars_part : Part
chars_part = part_in (text_of (Some 0))

abbrev pub sign_part : Part
sign_part = (sign (class_of 43) (43 ∷ [])).part

abbrev pub line_part : Part
line_part = part_in (outside (class_of 10) start (10 ∷ []))
