-- What a source is: a program that can be run, or refused for its first fault.
use Rattle.std.specs.Prelude.{◌≡◌, ℕ, ◌⊎◌, List, Option, None, Some}
use Rattle.pl_base.specs.declared.mode.Mode.TheVariants.{Saturate}
use Rattle.pl_base.specs.declared.errors.Place.{Place}
use Rattle.pl_syntax.specs.declared.stmt.Program.{Program}
use Rattle.pl_lex.specs.declared.token.Token.{Token}
use Rattle.pl_lex.specs.declared.token.LexKind.{LexKind}
use Rattle.pl_lex.specs.Tokens.{Lexes, Faults}
use Rattle.pl_grammar.specs.declared.fault.FaultKind.{FaultKind}
use Rattle.pl_parse.specs.Faults.{IsProgram, Faults as FaultsOf}
use Rattle.pl_resolve.specs.declared.resolved.Resolved.{Resolved}
use Rattle.pl_resolve.specs.declared.fault.NameFault.{NameFault}
use Rattle.pl_resolve.specs.Functions.{extra_names}
use Rattle.pl_resolve.specs.Scopes.{scopes_of, unknown_of}
use Rattle.pl_unbuilt.specs.Unbuilt.{unbuilt_of}
use Rattle.pl_source.specs.Lines.{lex_name, fault_name, syntax_line, unknown_line, not_built_line}

-- the source is this program
pub record Reads (source : List ℕ) (program : Program) : Type 0 where
  pub tokens : List Token
  pub lexes : Lexes source tokens
  pub parses : IsProgram source tokens program

-- a program with its scopes, beside the extras that are built
abbrev pub resolved : Program → Resolved
resolved p = record { program = p; scopes = scopes_of p; mode = Saturate; extras = extra_names }

-- the source is a program all of which can be carried out
pub record Ready (source : List ℕ) (r : Resolved) : Type 0 where
  pub program : Program
  pub reads : Reads source program
  pub known : unknown_of program ≡ None
  pub whole : r ≡ resolved program
  pub built : unbuilt_of r ≡ None

-- the source isn't cut into tokens
pub record BadTokens (source : List ℕ) (line : List ℕ) : Type 0 where
  pub kind : LexKind
  pub place : Place
  pub faults : Faults source kind place
  pub tells : line ≡ syntax_line (lex_name kind) place

-- its tokens are no program
pub record BadGrammar (source : List ℕ) (line : List ℕ) : Type 0 where
  pub tokens : List Token
  pub kind : FaultKind
  pub place : Place
  pub lexes : Lexes source tokens
  pub faults : FaultsOf source tokens kind place
  pub tells : line ≡ syntax_line (fault_name kind) place

-- a name of the program stands for nothing
pub record UnknownName (source : List ℕ) (line : List ℕ) : Type 0 where
  pub program : Program
  pub fault : NameFault
  pub reads : Reads source program
  pub unknown : unknown_of program ≡ Some fault
  pub tells : line ≡ unknown_line fault

-- the program uses what nothing carries out yet
pub record NotBuilt (source : List ℕ) (line : List ℕ) : Type 0 where
  pub program : Program
  pub place : Place
  pub reads : Reads source program
  pub known : unknown_of program ≡ None
  pub first : unbuilt_of (resolved program) ≡ Some place
  pub tells : line ≡ not_built_line place

-- the source is refused with this status and this line
abbrev pub Refuses : List ℕ → ℕ → List ℕ → Type 0
Refuses source status line =
    ((status ≡ 5) × (BadTokens source line ⊎ BadGrammar source line ⊎ NotBuilt source line)) ⊎
    ((status ≡ 7) × UnknownName source line)
