-- The laws of the answer: it is the grammar's, both ways.
use Rattle.std.proofs.Common.{◌≡◌, ◌∙◌, ◌⊎◌, ℕ, List, Result, Ok, Err, inl, inr, refl, ap, sym}
use Rattle.pl_base.specs.declared.errors.Place.{Place}
use Rattle.pl_lex.specs.declared.token.Token.{Token}
use Rattle.pl_lex.specs.declared.token.LexKind.{LexKind}
use Rattle.pl_lex.specs.Tokens.{place_of, Lexes, Faults}
use Rattle.pl_lex.specs.Scan.{answer}
use Rattle.pl_lex.proofs.Runs as runs

abbrev list_of : List Token → Result (List Token) (LexKind × ℕ) → List Token
list_of d (Ok tokens) = tokens
list_of d (Err f) = d

abbrev kind_in : LexKind → Result (List Token) (LexKind × ℕ) → LexKind
kind_in d (Ok tokens) = d
kind_in d (Err f) = f.0

abbrev at_in : Result (List Token) (LexKind × ℕ) → ℕ
at_in (Ok tokens) = 0
at_in (Err f) = f.1

pub lexes_found : (source : List ℕ) (tokens : List Token) → answer source ≡ Ok tokens → Lexes source tokens
lexes_found source tokens a = runs.lexes_found source tokens a

pub only_list : (source : List ℕ) (tokens others : List Token) → answer source ≡ Ok tokens → Lexes source others → tokens ≡ others
only_list source tokens others a l = ap (list_of tokens) (sym a ∙ runs.answer_only source others l)

pub no_tokens : (source : List ℕ) (kind : LexKind) (at : ℕ) (tokens : List Token) → answer source ≡ Err (kind, at) → Lexes source tokens → ⊥
no_tokens source kind at tokens a l = let e = runs.answer_only source tokens l in cc

pub no_fault : (source : List ℕ) (tokens : List Token) (kind : LexKind) (place : Place) → answer source ≡ Ok tokens → Faults source kind place → ⊥
no_fault source tokens kind place a f = let e = (runs.fault_only source kind place f).answers in cc

pub fault_here : (source : List ℕ) (kind : LexKind) (at : ℕ) (place : Place) → answer source ≡ Err (kind, at) → place ≡ place_of source at → Faults source kind place
fault_here source kind at place a e = rw e (runs.fault_found source kind at a)

pub only_fault : (source : List ℕ) (kind kind' : LexKind) (at : ℕ) (place place' : Place) → answer source ≡ Err (kind, at) → place ≡ place_of source at → Faults source kind' place'
    → (kind ≡ kind') × (place ≡ place')
only_fault source kind kind' at place place' a e f =
    let g = runs.fault_only source kind' place' f in
    let here : at ≡ g.at = ap at_in (sym a ∙ g.answers) in
    (ap (kind_in kind) (sym a ∙ g.answers), e ∙ ap (λ n. place_of source n) here ∙ g.stands)

-- each source has tokens or a fault
some_by : (source : List ℕ) (r : Result (List Token) (LexKind × ℕ)) → answer source ≡ r → ((tokens : List Token) × Lexes source tokens) ⊎ ((kind : LexKind) × ((place : Place) × Faults source kind place))
some_by source (Ok tokens) a = inl (tokens, runs.lexes_found source tokens a)
some_by source (Err f) a = inr (f.0, (place_of source f.1, runs.fault_found source f.0 f.1 a))

pub some_answer : (source : List ℕ) → ((tokens : List Token) × Lexes source tokens) ⊎ ((kind : LexKind) × ((place : Place) × Faults source kind place))
some_answer source = some_by source (answer source) refl

pub one_list : (source : List ℕ) (tokens others : List Token) → Lexes source tokens → Lexes source others → tokens ≡ others
one_list source tokens others l m = only_list source tokens others (runs.answer_only source tokens l) m

pub one_fault : (source : List ℕ) (kind other : LexKind) (place elsewhere : Place) → Faults source kind place → Faults source other elsewhere → (kind ≡ other) × (place ≡ elsewhere)
one_fault source kind other place elsewhere f g =
    let h = runs.fault_only source kind place f in
    only_fault source kind other h.at place elsewhere h.answers (sym h.stands) g

pub never_both : (source : List ℕ) (tokens : List Token) (kind : LexKind) (place : Place) → Lexes source tokens → Faults source kind place → ⊥
never_both source tokens kind place l f = no_fault source tokens kind place (runs.answer_only source tokens l) f
