-- A name is among names where it is among the same names, each once.
use Rattle.std.specs.List.{list_any}
use Rattle.std.specs.Prelude.{◌||◌}
use Rattle.std.specs.Cmp.Lexicographic.{pointwise, nat_list_eq_equiv}
use Rattle.std.proofs.Common.{◌≡◌, ◌∙◌, ℕ, nat_eq, Bool, true, false, List, [], ◌∷◌, ◌++◌, map, if◌then◌else◌, refl, sym, ap}
use Rattle.std.proofs.Math.Bool.{or-false}
use Rattle.indexmap.specs.IndexSet.{insert_key, insert_all}
use Rattle.pl_syntax.specs.declared.expr.Name.{Name}
use Rattle.pl_resolve.specs.Scopes.{distinct}
use Rattle.pl_meaning.specs.Known.{same}
use Rattle.pl_meaning.specs.Forms.{is_among}

-- whether a text is among these
abbrev pub any : List ℕ → List (List ℕ) → Bool
any x ks = list_any (pointwise nat_eq x) ks

or_assoc : (a b c : Bool) → ((a || b) || c) ≡ (a || (b || c))
or_assoc true b c = refl
or_assoc false b c = refl

any_behind : (x : List ℕ) (ks : List (List ℕ)) (y : List ℕ) → any x (ks ++ y ∷ []) ≡ (any x ks || same x y)
any_behind x [] y = or-false (same x y)
any_behind x (k ∷ ks) y = ap (λ b. same x k || b) (any_behind x ks y) ∙ sym (or_assoc (same x k) (any x ks) (same x y))

any_same : (x y : List ℕ) → same x y ≡ true → (ks : List (List ℕ)) → any x ks ≡ any y ks
any_same x y e [] = refl
any_same x y e (k ∷ ks) = ap (λ b. b || any x ks) (nat_list_eq_equiv.congr x y k e) ∙ ap (λ b. same y k || b) (any_same x y e ks)

-- a text that is there already adds nothing
held : (x y : List ℕ) (ks : List (List ℕ)) → any y ks ≡ true → (b : Bool) → same x y ≡ b → any x ks ≡ (any x ks || b)
held x y ks there true e = let found : any x ks ≡ true = any_same x y e ks ∙ there in rw found refl
held x y ks there false e = sym (or-false (any x ks))

any_one : (x : List ℕ) (ks : List (List ℕ)) (y : List ℕ) (b : Bool) → any y ks ≡ b → any x (if b then ks else ks ++ y ∷ []) ≡ (any x ks || same x y)
any_one x ks y true e = held x y ks e (same x y) refl
any_one x ks y false e = any_behind x ks y

any_all : (x : List ℕ) (ks xs : List (List ℕ)) → any x (insert_all (pointwise nat_eq) ks xs) ≡ (any x ks || any x xs)
any_all x ks [] = sym (or-false (any x ks))
any_all x ks (y ∷ ys) = any_all x (insert_key (pointwise nat_eq) ks y) ys ∙ ap (λ b. b || any x ys) (any_one x ks y (any y ks) refl) ∙ or_assoc (any x ks) (same x y) (any x ys)

among : (n : Name) (names : List Name) → any n.text (map (λ m. m.text) names) ≡ is_among names n
among n [] = refl
among n (m ∷ names) = ap (λ b. b || any n.text (map (λ k. k.text) names)) (nat_list_eq_equiv.symm n.text m.text) ∙ ap (λ b. same m.text n.text || b) (among n names)

pub among_distinct : (n : Name) (names : List Name) → any n.text (distinct (map (λ m. m.text) names)) ≡ is_among names n
among_distinct n names = any_all n.text [] (map (λ m. m.text) names) ∙ among n names
