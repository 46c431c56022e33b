-- A source is one program at most, and one that is a program isn't refused: as its tokens are one list, and their terminals one program.
use Rattle.std.proofs.Common.{◌≡◌, ◌∙◌, ℕ, List, Option, Some, None, inl, inr, sym, ap, subst}
use Rattle.pl_base.specs.declared.errors.Place.{Place}
use Rattle.pl_syntax.specs.declared.stmt.Program.{Program}
use Rattle.pl_lex.specs.declared.token.Token.{Token}
use Rattle.pl_lex.specs.declared.token.LexKind.{LexKind}
use Rattle.pl_lex.specs.Tokens.{Lexes, Faults}
use Rattle.pl_grammar.specs.declared.fault.FaultKind.{FaultKind}
use Rattle.pl_grammar.specs.declared.terminal.Terminal.{Terminal}
use Rattle.pl_grammar.specs.Programs.{strict, Parses, ParseFault}
use Rattle.pl_parse.specs.Faults.{terminals_of, IsProgram}
use Rattle.pl_resolve.specs.declared.resolved.Resolved.{Resolved}
use Rattle.pl_resolve.specs.Scopes.{unknown_of}
use Rattle.pl_unbuilt.specs.Unbuilt.{unbuilt_of}
use Rattle.pl_source.specs.Sources.{Reads, resolved, Ready, BadGrammar, UnknownName, NotBuilt, Refuses}

-- none and something aren't one
not_both : {A : Type 0} {x : Option A} {v : A} → x ≡ None → x ≡ Some v → ⊥
not_both none some = cc

module _ (one_list : (source : List ℕ) (tokens others : List Token) → Lexes source tokens → Lexes source others → tokens ≡ others)
    (never_fault : (source : List ℕ) (tokens : List Token) (kind : LexKind) (place : Place) → Lexes source tokens → Faults source kind place → ⊥)
    (one_program : (limit : ℕ) (terminals : List Terminal) (program other : Program) → Parses (strict limit) terminals program → Parses (strict limit) terminals other → program ≡ other)
    (never_both : (limit : ℕ) (terminals : List Terminal) (program : Program) (at : ℕ) (kind : FaultKind) → Parses (strict limit) terminals program → ParseFault limit terminals at kind → ⊥) where
  same_program : (source : List ℕ) (p q : Program) → Reads source p → Reads source q → p ≡ q
  same_program source p q a b =
      one_program 200 (terminals_of source a.tokens) p q a.parses (subst (λ (tokens : List Token). IsProgram source tokens q) (one_list source b.tokens a.tokens b.lexes a.lexes) b.parses)

  pub one_ready : (source : List ℕ) (r other : Resolved) → Ready source r → Ready source other → r ≡ other
  one_ready source r other a b = a.whole ∙ ap resolved (same_program source a.program b.program a.reads b.reads) ∙ sym b.whole

  no_grammar : (source line : List ℕ) (p : Program) → Reads source p → BadGrammar source line → ⊥
  no_grammar source line p a b =
      never_both 200 (terminals_of source b.tokens) p b.faults.0 b.kind (subst (λ (tokens : List Token). IsProgram source tokens p) (one_list source a.tokens b.tokens a.lexes b.lexes) a.parses) b.faults.1

  no_place : (source line : List ℕ) (r : Resolved) → Ready source r → NotBuilt source line → ⊥
  no_place source line r a b =
      not_both (ap (λ (p : Program). unbuilt_of (resolved p)) (same_program source b.program a.program b.reads a.reads) ∙ ap unbuilt_of (sym a.whole) ∙ a.built) b.first

  no_name : (source line : List ℕ) (r : Resolved) → Ready source r → UnknownName source line → ⊥
  no_name source line r a b = not_both (ap unknown_of (same_program source b.program a.program b.reads a.reads) ∙ a.known) b.unknown

  pub not_refused : (source : List ℕ) (r : Resolved) (status : ℕ) (line : List ℕ) → Ready source r → Refuses source status line → ⊥
  not_refused source r status line a (inl (five, inl bad)) = never_fault source a.reads.tokens bad.kind bad.place a.reads.lexes bad.faults
  not_refused source r status line a (inl (five, inr (inl bad))) = no_grammar source line a.program a.reads bad
  not_refused source r status line a (inl (five, inr (inr bad))) = no_place source line r a bad
  not_refused source r status line a (inr (seven, bad)) = no_name source line r a bad
