-- Promises of parts in a row.
use Rattle.std.proofs.Common.{◌≡◌, ◌⊎◌, inl, inr, ℕ, suc, ◌-◌, arith, ◌+◌, ◌<◌, List, ◌∷◌, get_or, drop, length, Result, Err, ap, ◌∙◌, sym}
use Rattle.std.specs.Prelude.{IsErrAnd, IfOk, Ok}
use Rattle.std.proofs.lemmas.List.{drop_more}
use Rattle.pl_meaning.specs.declared.halt.Halt.{Halt}
use Rattle.pl_meaning.specs.Logs.{Workspace}
use Rattle.pl_meaning.specs.Running.{Running, ◌>>=◌, inside}
use Rattle.pl_resolve.specs.declared.resolved.Resolved.{Resolved}
use Rattle.pl_meaning.specs.declared.frame.Exit.{Exit}
use Rattle.pl_meaning.specs.declared.frame.Exit.TheVariants.{Onward, Continued}
use Rattle.pl_meaning.specs.Parts.{after_pass}
use Rattle.pl_meaning.proofs.Cut.{cut}
use Rattle.pl_meaning.specs.Promises.{At, from, view, Went, Halts, Keeps, Comes}

-- what a `?` hands on
pub same_halt : {A : Type 0} {r : Result A Halt} {x y : Halt} → r ≡ Err x → IsErrAnd r (λ z. z ≡ y) → x ≡ y
same_halt e is = rw e at is

-- one part went on, and then the next one did, or didn't
pub after_went : {A B : Type 0} (p : Running A) (f : A → Running B) (s t u : At) (a : A) (b : B) → Went p s a t → Keeps t u → Went (f a) t b u → Went (p >>= f) s b u
after_went p f s t u a b w keep v = λ k h all fit. w (λ x. f x k h) h all (keep.0 all fit) ∙ v k h all fit

pub after_halts : {A B : Type 0} (p : Running A) (f : A → Running B) (s t u : At) (a : A) (x : Halt) → Went p s a t → Keeps t u → Halts (f a) t x u → Halts (p >>= f) s x u
after_halts p f s t u a x w keep v = λ k h all fit. ap (view x u.log) (w (λ y. f y k h) h all (keep.0 all fit)) ∙ v k h all fit

-- a part that has come so far goes on, or doesn't, as what is left of it does
pub comes_went : {A : Type 0} (p q : Running A) (s t u : At) (a : A) → Comes p s q t → Keeps t u → Went q t a u → Went p s a u
comes_went p q s t u a come keep w = λ k h all fit. come k h all (keep.0 all fit) ∙ w k h all fit

pub comes_halts : {A : Type 0} (p q : Running A) (s t u : At) (x : Halt) → Comes p s q t → Keeps t u → Halts q t x u → Halts p s x u
comes_halts p q s t u x come keep w = λ k h all fit. ap (view x u.log) (come k h all (keep.0 all fit)) ∙ w k h all fit

pub comes_cut : {A : Type 0} (p q : Running A) (s t : At) → Comes p s q t → Halts p s Halt.Memory t
comes_cut p q s t come = λ k h all fit. ap (view Halt.Memory t.log) (come k h all fit) ∙ cut all t (q k h) (λ e. from all t (h e))

-- an element of a list and those behind it
pub next_item : {X : Type 0} (xs : List X) (i : ℕ) (x : X) → i < length xs → x ≡ get_or xs i x → drop i xs ≡ x ∷ drop (i + 1) xs
next_item xs i x within is = drop_more xs i x within ∙ ap (λ (y : _). y ∷ drop (i + 1) xs) (sym is)

-- a pass of a loop over a list has come to its first element and those behind it
pub comes_item : {X A : Type 0} (F : List X → Running A) (whole : Running A) (xs : List X) (i : ℕ) (x : X) (s t : At)
    → Comes whole s (F (drop i xs)) t × Keeps s t → i < length xs → x ≡ get_or xs i x → Comes whole s (F (x ∷ drop (i + 1) xs)) t
comes_item F whole xs i x s t come within is = λ k h all fit. come.0 k h all fit ∙ ap (λ (q : Running _). from all t (q k h)) (ap F (next_item xs i x within is))

-- the first part of what is left went on
pub comes_after : {A B : Type 0} (whole : Running A) (p : Running B) (f : B → Running A) (b : B) (s t u : At) → Comes whole s (p >>= f) t → Went p t b u → Keeps t u → Comes whole s (f b) u
comes_after whole p f b s t u come went keep = λ k h all fit. come k h all (keep.0 all fit) ∙ went (λ v. f v k h) h all fit

-- what is kept twice
pub keeps_on : (s t u : At) → Keeps s t → Keeps t u → Keeps s u
keeps_on s t u one two = ((λ all fit. one.0 all (two.0 all fit)), (λ ts b. one.1 ts (two.1 ts b)))

-- a part in a workspace of its own
pub inside_went : {A : Type 0} (env : Workspace) (p : Running A) (old mid : At) (a : A) → Went p (record old { env = env }) a mid → Went (inside env p) old a (record mid { env = old.env })
inside_went env p old mid a w = λ k h all fit. w (λ b t. k b (record t { env = old.env })) (λ e t. h e (record t { env = old.env })) all fit

pub inside_halts : {A : Type 0} (env : Workspace) (p : Running A) (old mid : At) (x : Halt) → Halts p (record old { env = env }) x mid → Halts (inside env p) old x (record mid { env = old.env })
inside_halts env p old mid (Halt.Raise y) w = λ k h all fit. w (λ b t. k b (record t { env = old.env })) (λ e t. h e (record t { env = old.env })) all fit
inside_halts env p old mid Halt.Stopped w = λ k h all fit. w (λ b t. k b (record t { env = old.env })) (λ e t. h e (record t { env = old.env })) all fit
inside_halts env p old mid Halt.Memory w = λ k h all fit. w (λ b t. k b (record t { env = old.env })) (λ e t. h e (record t { env = old.env })) all fit

-- the same of a loop's list alone
pub comes_next : {X A : Type 0} (F : List X → Running A) (whole : Running A) (xs : List X) (i : ℕ) (x : X) (s t : At) → Comes whole s (F (drop i xs)) t → i < length xs → x ≡ get_or xs i x → Comes whole s (F (x ∷ drop (i + 1) xs)) t
comes_next F whole xs i x s t come within is = λ k h all fit. come k h all fit ∙ ap (λ (q : Running _). from all t (q k h)) (ap F (next_item xs i x within is))

pub keeps_self : (s : At) → Keeps s s
keeps_self s = ((λ all f. f), (λ ts b. b))

-- the first of two parts didn't go on
pub first_halts : {A B : Type 0} (p : Running A) (f : A → Running B) (s t : At) (x : Halt) → Halts p s x t → Halts (p >>= f) s x t
first_halts p f s t x w = λ k h all fit. w (λ a. f a k h) h all fit

-- what a function promises of a value that it hands on
pub ok_more : {A : Type 0} (r : Result A Halt) (P Q : A → Type 0) → ((a : A) → P a → Q a) → IfOk r P → IfOk r Q
ok_more (Ok a) P Q more p = more a p
ok_more (Err x) P Q more p = p

-- a pass of a loop that counts its passes
pub comes_pass : {A : Type 0} (F : ℕ → Running A) (whole : Running A) (n i : ℕ) (s t : At) → Comes whole s (F (n - i)) t → i < n → Comes whole s (F (suc (n - (i + 1)))) t
comes_pass F whole n i s t come within = λ k h all fit.
    let less : n - i ≡ suc (n - (i + 1)) = omega (arith) in
    come k h all fit ∙ ap (λ (q : Running _). from all t (q k h)) (ap F less)

-- behind a pass that a loop goes on from
pub goes_on : (program : Resolved) (x : Exit) (more : Running Exit) → (x ≡ Onward) ⊎ (x ≡ Continued) → after_pass program x more ≡ more
goes_on program x more (inl is) = ap (λ (y : Exit). after_pass program y more) is
goes_on program x more (inr is) = ap (λ (y : Exit). after_pass program y more) is

pub same_err : {A : Type 0} {x y : Halt} → ◌≡◌ {A = Result A Halt} (Err x) (Err y) → y ≡ x
same_err e = cc
