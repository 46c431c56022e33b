-- The run over a source answers what its cut says, and every source has a cut.
use Rattle.std.proofs.Common.{◌≡◌, ◌∙◌, ℕ, ◌+◌, ◌-◌, suc, zero, List, [], ◌∷◌, ◌++◌, length, drop, take, Result, Ok, Err, refl, ap, sym, subst, arith, add-zero, append_assoc}
use Rattle.std.proofs.lemmas.List.{take-append-drop, append-nil, length-append}
use Rattle.std.proofs.Math.Seq.{take-append_seam}
use Rattle.pl_base.specs.declared.errors.Place.{Place}
use Rattle.pl_lex.specs.declared.state.Before.{Before}
use Rattle.pl_lex.specs.declared.scan.Found.{Found}
use Rattle.pl_lex.specs.declared.token.Token.{Token}
use Rattle.pl_lex.specs.declared.token.LexKind.{LexKind}
use Rattle.pl_lex.specs.Bytes.{class_of}
use Rattle.pl_lex.specs.State.{start, in_block, behind}
use Rattle.pl_lex.specs.Pieces.{Piece, Ending, clean, fault, ending_bytes, bytes_of, FitsBy, Ends, Cut}
use Rattle.pl_lex.specs.Tokens.{kind_of, token_of, tokens_of, mark_len, first_place, past, place_of, Lexes, Faults}
use Rattle.pl_lex.specs.Scan.{found, head, run, answer}
use Rattle.pl_lex.proofs.Finds.{finds, refused}
use Rattle.pl_lex.proofs.Sound.{HeadSound, head_sound}

-- ---- the bytes of a piece that was found are passed

pub run-skip : (done : List Token) (b : Before) (at n : ℕ) (xs : List ℕ) → run done b at n xs ≡ run done b (at + n) 0 (drop n xs)
run-skip done b at zero [] = refl
run-skip done b at (suc n) [] = refl
run-skip done b at zero (c ∷ cs) = rw add-zero refl
run-skip done b at (suc n) (c ∷ cs) = let e : at + 1 + n ≡ at + suc n = omega arith in run-skip done b (at + 1) n cs ∙ ap (λ m. run done b m 0 (drop n cs)) e

run-past : (done : List Token) (b : Before) (at : ℕ) (xs rest : List ℕ) → run done b at (length xs) (xs ++ rest) ≡ run done b (at + length xs) 0 rest
run-past done b at [] rest = rw add-zero refl
run-past done b at (c ∷ cs) rest = let e : at + 1 + length cs ≡ at + suc (length cs) = omega arith in run-past done b (at + 1) cs rest ∙ ap (λ m. run done b m 0 rest) e

-- ---- what a cut answers is what the run answers

-- the answer of a cut with this ending: its tokens, or its fault behind n bytes
abbrev pub answer_of : Ending → List Token → ℕ → Result (List Token) (LexKind × ℕ)
answer_of clean tokens n = Ok tokens
answer_of (fault kind c cs) tokens n = Err (kind, n)

end_runs : (done : List Token) (b : Before) (at : ℕ) (e : Ending) → Ends e b → run done b at 0 (ending_bytes e) ≡ answer_of e (done ++ []) (at + 0)
end_runs done b at clean h = rw append-nil refl
end_runs done b at (fault kind c cs) h = let f : head b (c ∷ cs) ≡ Err kind = refused kind c cs b h in rw (f, add-zero) refl

pub cut_runs : (done : List Token) (b : Before) (at : ℕ) (ps : List Piece) (e : Ending) → Cut b ps e
    → run done b at 0 (bytes_of ps e) ≡ answer_of e (done ++ tokens_of at b ps) (at + length (bytes_of ps clean))
cut_runs done b at [] e h = end_runs done b at e h
cut_runs done b at (p ∷ ps) e h =
    let rest : List ℕ = bytes_of ps e in
    let t : List Token = token_of (kind_of p.part b) at (at + 1 + length p.others) b in
    let b' : Before = behind p.part (p.first ∷ p.others) b in
    let f : head b (p.first ∷ p.others ++ rest) ≡ Ok (found p.part (length p.others)) = finds p b rest h.0 in
    let k : take (length p.others) (p.others ++ rest) ≡ p.others = take-append_seam p.others rest in
    let ts : List Token = tokens_of (at + 1 + length p.others) b' ps in
    let n : ℕ = at + 1 + length p.others + length (bytes_of ps clean) in
    let m : ℕ = at + suc (length (p.others ++ bytes_of ps clean)) in
    let same : n ≡ m = omega (arith, length-append p.others (bytes_of ps clean)) in
    let ih : run (done ++ t) b' (at + 1 + length p.others) 0 rest ≡ answer_of e ((done ++ t) ++ tokens_of (at + 1 + length p.others) b' ps) (at + 1 + length p.others + length (bytes_of ps clean)) = cut_runs (done ++ t) b' (at + 1 + length p.others) ps e h.1 in
    let on : answer_of e ((done ++ t) ++ ts) n ≡ answer_of e (done ++ (t ++ ts)) m = ap (λ x. answer_of e x n) (append_assoc done t ts) ∙ ap (λ x. answer_of e (done ++ (t ++ ts)) x) same in
    rw (f, k) (run-past (done ++ t) b' (at + 1) p.others rest ∙ ih ∙ on)

-- ---- every source has a cut

pub record HasCut (b : Before) (bytes : List ℕ) : Type 0 where
  pub pieces : List Piece
  pub ending : Ending
  pub cut : Cut b pieces ending
  pub spells : bytes_of pieces ending ≡ bytes

-- the first piece, or the fault, with what comes after it
first_cut : (c : ℕ) (cs : List ℕ) (b : Before) (r : Result Found LexKind) → HeadSound (in_block b) (class_of c) c cs b r
    → ((b' : Before) (n : ℕ) → HasCut b' (drop n cs)) → HasCut b (c ∷ cs)
first_cut c cs b (Ok f) h go =
    let rest = go (behind f.part (c ∷ take f.more cs) b) f.more in
    let P : List ℕ → Type 0 = λ xs. FitsBy (in_block b) f.part (class_of c) c (take f.more cs) b xs in
    record {
      pieces = record { part = f.part; first = c; others = take f.more cs } ∷ rest.pieces;
      ending = rest.ending;
      cut = (subst P (sym rest.spells) h.1, rest.cut);
      spells = ap (λ xs. c ∷ (take f.more cs ++ xs)) rest.spells ∙ ap (λ xs. c ∷ xs) (take-append-drop f.more cs);
    }
first_cut c cs b (Err kind) h go = record { pieces = []; ending = fault kind c cs; cut = h; spells = refl }

no_cut : (b : Before) → HasCut b []
no_cut b = record { pieces = []; ending = clean; cut = tt; spells = refl }

pub cut_of : (bytes : List ℕ) (b : Before) (n : ℕ) → HasCut b (drop n bytes)
cut_of [] b zero = no_cut b
cut_of [] b (suc n) = no_cut b
cut_of (c ∷ cs) b (suc n) = cut_of cs b n
cut_of (c ∷ cs) b zero = first_cut c cs b (head b (c ∷ cs)) (head_sound c cs b) (λ b' n. cut_of cs b' n)

-- ---- the answer is that of the grammar

-- what a cut of the source says is the answer
answer-cut : (source : List ℕ) (ps : List Piece) (e : Ending) → Cut start ps e → bytes_of ps e ≡ drop (mark_len source) source
    → answer source ≡ answer_of e (tokens_of (mark_len source) start ps) (mark_len source + length (bytes_of ps clean))
unfolding answer
answer-cut source ps e h s = rw (← s) (cut_runs [] start (mark_len source) ps e h)

pub answer_only : (source : List ℕ) (tokens : List Token) → Lexes source tokens → answer source ≡ Ok tokens
answer_only source tokens l = answer-cut source l.pieces clean l.cut l.spells ∙ ap Ok l.tells

-- the bytes of the pieces stand before those of the ending
bytes_of-split : (ps : List Piece) (e : Ending) → bytes_of ps e ≡ bytes_of ps clean ++ ending_bytes e
bytes_of-split [] e = refl
bytes_of-split (p ∷ ps) e = ap (λ xs. p.first ∷ (p.others ++ xs)) (bytes_of-split ps e) ∙ ap (λ xs. p.first ∷ xs) (sym (append_assoc p.others (bytes_of ps clean) (ending_bytes e)))

place-behind : (source : List ℕ) (ps : List Piece) (e : Ending) → bytes_of ps e ≡ drop (mark_len source) source
    → place_of source (mark_len source + length (bytes_of ps clean)) ≡ past (first_place source) (bytes_of ps clean)
unfolding place_of
place-behind source ps e s =
    let xs : List ℕ = bytes_of ps clean in
    let n : mark_len source + length xs - mark_len source ≡ length xs = omega arith in
    let t : take (length xs) (drop (mark_len source) source) ≡ xs = ap (λ l. take (length xs) l) (sym s ∙ bytes_of-split ps e) ∙ take-append_seam xs (ending_bytes e) in
    rw (n, t) refl

-- a fault of the grammar is the answer, and stands at its place
pub record FoundFault (source : List ℕ) (kind : LexKind) (place : Place) : Type 0 where
  pub at : ℕ
  pub answers : answer source ≡ Err (kind, at)
  pub stands : place_of source at ≡ place

pub fault_only : (source : List ℕ) (kind : LexKind) (place : Place) → Faults source kind place → FoundFault source kind place
fault_only source kind place f = record {
  at = mark_len source + length (bytes_of f.pieces clean);
  answers = answer-cut source f.pieces (fault kind f.first f.rest) f.cut f.spells;
  stands = place-behind source f.pieces (fault kind f.first f.rest) f.spells ∙ f.stands;
}

source_cut : (xs : List ℕ) → HasCut start xs
source_cut [] = no_cut start
source_cut (c ∷ cs) = cut_of (c ∷ cs) start 0

found_by : (source : List ℕ) (tokens : List Token) (ps : List Piece) (e : Ending) → Cut start ps e → bytes_of ps e ≡ drop (mark_len source) source → answer source ≡ Ok tokens → Lexes source tokens
found_by source tokens ps clean h s a =
    let k = answer-cut source ps clean h s in
    record { pieces = ps; cut = h; spells = s; tells = cc }
found_by source tokens ps (fault kind c cs) h s a = let k = answer-cut source ps (fault kind c cs) h s in cc

-- an answer of tokens is in the grammar
pub lexes_found : (source : List ℕ) (tokens : List Token) → answer source ≡ Ok tokens → Lexes source tokens
lexes_found source tokens a = let c = source_cut (drop (mark_len source) source) in found_by source tokens c.pieces c.ending c.cut c.spells a

-- the kind and the place of a fault
abbrev fault_kind : LexKind → Result (List Token) (LexKind × ℕ) → LexKind
fault_kind d (Ok tokens) = d
fault_kind d (Err f) = f.0

abbrev fault_at : Result (List Token) (LexKind × ℕ) → ℕ
fault_at (Ok tokens) = 0
fault_at (Err f) = f.1

fault_by : (source : List ℕ) (kind : LexKind) (at : ℕ) (ps : List Piece) (e : Ending) → Cut start ps e → bytes_of ps e ≡ drop (mark_len source) source → answer source ≡ Err (kind, at) → Faults source kind (place_of source at)
fault_by source kind at ps clean h s a = let k = answer-cut source ps clean h s in cc
fault_by source kind at ps (fault kind' c cs) h s a =
    let k : answer source ≡ Err (kind', mark_len source + length (bytes_of ps clean)) = answer-cut source ps (fault kind' c cs) h s in
    let same : kind' ≡ kind = ap (fault_kind kind) (sym k ∙ a) in
    let here : mark_len source + length (bytes_of ps clean) ≡ at = ap fault_at (sym k ∙ a) in
    let P : LexKind → Type 0 = λ x. Cut start ps (fault x c cs) in
    let Q : LexKind → Type 0 = λ x. bytes_of ps (fault x c cs) ≡ drop (mark_len source) source in
    record {
      pieces = ps;
      first = c;
      rest = cs;
      cut = subst P same h;
      spells = subst Q same s;
      stands = sym (place-behind source ps (fault kind' c cs) s) ∙ ap (λ n. place_of source n) here;
    }

-- an answer of a fault is one of the grammar
pub fault_found : (source : List ℕ) (kind : LexKind) (at : ℕ) → answer source ≡ Err (kind, at) → Faults source kind (place_of source at)
fault_found source kind at a = let c = source_cut (drop (mark_len source) source) in fault_by source kind at c.pieces c.ending c.cut c.spells a
