-- What is appended in pieces.
use Rattle.std.proofs.Common.{ℕ, ◌+◌, Option, Some, None, List, [], ◌∷◌, ◌++◌, length, take, sym, ◌∙◌, ap, arith, append_assoc, length-append, subst, Result, Ok, Err, OnOk, OnErr}
use Rattle.std.specs.Prelude.{codes}
use Rattle.pl_session.specs.Lines.{cannot_read_line}
use Rattle.std.proofs.Math.Seq.{take-append-add}
use Rattle.std.proofs.lemmas.List.{take-append-le, take_all}
use Rattle.std.specs.Io.KnownBytes.{Appends}
use Rattle.pl_io.specs.Told.{AppendsPrefix}

pub two_whole : (old mid new : Option (List ℕ)) (a b : List ℕ) → Appends old mid a → Appends mid new b → Appends old new (a ++ b)
two_whole None mid new a b first second = tt
two_whole (Some xs) None new a b first second = absurd first
two_whole (Some xs) (Some ys) None a b first second = absurd second
two_whole (Some xs) (Some ys) (Some zs) a b first second = second ∙ ap (λ (v : List ℕ). v ++ b) first ∙ append_assoc xs a b

pub two_prefix : (old mid new : Option (List ℕ)) (a b : List ℕ) → Appends old mid a → AppendsPrefix mid new b → AppendsPrefix old new (a ++ b)
two_prefix old mid new a b first second = (
  length a + second.0,
  omega (arith, second.1, length-append a b),
  subst (Appends old new) (sym (take-append-add a b second.0)) (two_whole old mid new a (take second.0 b) first second.2),
)

pub first_prefix : (old new : Option (List ℕ)) (a b : List ℕ) → AppendsPrefix old new a → AppendsPrefix old new (a ++ b)
first_prefix old new a b first = (
  first.0,
  omega (arith, first.1, length-append a b),
  subst (Appends old new) (sym (take-append-le first.0 a b first.1)) first.2,
)

-- the line of a file that can't be read, in its three pieces
abbrev head : List ℕ
head = codes "parlab: cannot read "

pub line_first : (old new : Option (List ℕ)) (name : List ℕ) → AppendsPrefix old new (codes "parlab: cannot read ") → AppendsPrefix old new (cannot_read_line name)
line_first old new name first = first_prefix old new (head ++ name) (10 ∷ []) (first_prefix old new head name first)

pub line_second : (old mid new : Option (List ℕ)) (name : List ℕ) → Appends old mid (codes "parlab: cannot read ") → AppendsPrefix mid new name → AppendsPrefix old new (cannot_read_line name)
line_second old mid new name first second = first_prefix old new (head ++ name) (10 ∷ []) (two_prefix old mid new head name first second)

pub line_third : (old mid more new : Option (List ℕ)) (name : List ℕ) → Appends old mid (codes "parlab: cannot read ") → Appends mid more name → AppendsPrefix more new (10 ∷ []) → AppendsPrefix old new (cannot_read_line name)
line_third old mid more new name first second third = two_prefix old more new (head ++ name) (10 ∷ []) (two_whole old mid more head name first second) third

pub line_whole : (old mid more new : Option (List ℕ)) (name : List ℕ) → Appends old mid (codes "parlab: cannot read ") → Appends mid more name → Appends more new (10 ∷ []) → Appends old new (cannot_read_line name)
line_whole old mid more new name first second third = two_whole old more new (head ++ name) (10 ∷ []) (two_whole old mid more head name first second) third

-- what holds holds of either answer
pub on_err : {T E : Type 0} {P : Type 0} (r : Result T E) → P → OnErr r P
on_err (Ok x) p = tt
on_err (Err e) p = p

pub on_err_from : {T E : Type 0} {P Q : Type 0} (r : Result T E) → OnErr r P → (P → Q) → OnErr r Q
on_err_from (Ok x) p f = tt
on_err_from (Err e) p f = f p

pub on_ok_from : {T E : Type 0} {P Q : Type 0} (r : Result T E) → OnOk r P → (P → Q) → OnOk r Q
on_ok_from (Ok x) p f = f p
on_ok_from (Err e) p f = tt

-- all of the bytes are a first part of them
pub whole_prefix : (old new : Option (List ℕ)) (bs : List ℕ) → Appends old new bs → AppendsPrefix old new bs
whole_prefix old new bs a = (length bs, omega arith, subst (Appends old new) (sym (take_all (length bs) bs (omega arith))) a)
