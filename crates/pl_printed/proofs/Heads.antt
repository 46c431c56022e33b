-- Names that may have dots can be laid out.
use Rattle.std.specs.List.{list_any}
use Rattle.std.proofs.Common.{◌≡◌, ℕ, Bool, true, false, ◌&&◌, ◌||◌, List, [], ◌∷◌, refl, sym, subst}
use Rattle.std.specs.Prelude.{codes, if◌then◌else◌}
use Rattle.std.proofs.lemmas.Bool.{and_parts}
use Rattle.pl_grammar.specs.Words.{same, whole, stem, neither, dotted_names, dots}
use Rattle.pl_grammar.proofs.Kept.{same_lists}
use Rattle.pl_lex.specs.Bytes.{class_of, is_part, Each}
use Rattle.pl_lex.specs.Keywords.{is_keyword}
use Rattle.pl_lex.specs.Tokens.{IsName}
use Rattle.pl_printing.specs.Canonical.{parts_of, dotted_words, is_whole, split_words, head_words}
use Rattle.pl_printed.proofs.Operands.{Names, AreNames, name_goes, dotted_goes}

abbrev all_parts : List ℕ → Bool
all_parts [] = true
all_parts (c ∷ cs) = is_part c && all_parts cs

each_part : (cs : List ℕ) → all_parts cs ≡ true → Each is_part cs
each_part [] h = tt
each_part (c ∷ cs) h = let e = and_parts (is_part c) (all_parts cs) h in (e.0, each_part cs e.1)

-- a text that is split into names
abbrev Splits : List ℕ → Type 0
Splits text = Names (split_words true text)

splits : (text part : List ℕ) (parts : List (List ℕ)) → parts_of text ≡ part ∷ parts → AreNames (part ∷ parts) → Splits text
splits text part parts e h = let P : List (List ℕ) → Type 0 = λ ps. Names (dotted_words ps) in subst P (sym e) (dotted_goes part parts h)

-- the names of the language
parallel : IsName (codes "parallel")
unfolding class_of is_keyword
parallel = (refl, each_part (codes "arallel") refl, refl)

pool : IsName (codes "pool")
unfolding class_of is_keyword
pool = (refl, each_part (codes "ool") refl, refl)

codistributed : IsName (codes "codistributed")
unfolding class_of is_keyword
codistributed = (refl, each_part (codes "odistributed") refl, refl)

queue : Splits (codes "parallel.pool.DataQueue")
unfolding class_of is_keyword
queue = splits (codes "parallel.pool.DataQueue") (codes "parallel") (codes "pool" ∷ codes "DataQueue" ∷ []) refl (parallel, (pool, ((refl, each_part (codes "ataQueue") refl, refl), tt)))

pollable : Splits (codes "parallel.pool.PollableDataQueue")
unfolding class_of is_keyword
pollable = splits (codes "parallel.pool.PollableDataQueue") (codes "parallel") (codes "pool" ∷ codes "PollableDataQueue" ∷ []) refl (parallel, (pool, ((refl, each_part (codes "ollableDataQueue") refl, refl), tt)))

build : Splits (codes "codistributed.build")
unfolding class_of is_keyword
build = splits (codes "codistributed.build") (codes "codistributed") (codes "build" ∷ []) refl (codistributed, ((refl, each_part (codes "uild") refl, refl), tt))

zeros : Splits (codes "codistributed.zeros")
unfolding class_of is_keyword
zeros = splits (codes "codistributed.zeros") (codes "codistributed") (codes "zeros" ∷ []) refl (codistributed, ((refl, each_part (codes "eros") refl, refl), tt))

ones : Splits (codes "codistributed.ones")
unfolding class_of is_keyword
ones = splits (codes "codistributed.ones") (codes "codistributed") (codes "ones" ∷ []) refl (codistributed, ((refl, each_part (codes "nes") refl, refl), tt))

unset : Splits (codes "codistributor1d.unsetPartition")
unfolding class_of is_keyword
unset = splits (codes "codistributor1d.unsetPartition") (codes "codistributor1d") (codes "unsetPartition" ∷ []) refl ((refl, each_part (codes "odistributor1d") refl, refl), ((refl, each_part (codes "nsetPartition") refl, refl), tt))

-- each of these
abbrev AllSplit : List (List ℕ) → Type 0
AllSplit [] = Unit {0}
AllSplit (n ∷ ns) = Splits n × AllSplit ns

among : (ns : List (List ℕ)) (text : List ℕ) → AllSplit ns → list_any (λ n. same n text) ns ≡ true → Splits text
among [] text all h = elim (no h) [ ]
  where
    no : false ≡ true → ⊥
    no e = cc
among (n ∷ ns) text all h = by_test (among ns text all.1) (same n text) refl h
  where
    by_test : (list_any (λ m. same m text) ns ≡ true → Splits text) → (v : Bool) → same n text ≡ v → v || list_any (λ m. same m text) ns ≡ true → Splits text
    by_test others true e g = subst Splits (same_lists n text e) all.0
    by_test others false e g = others g

all_known : AllSplit dotted_names
all_known = (queue, (pollable, (build, (zeros, (ones, (unset, tt))))))

known : (text : List ℕ) → is_whole (dots text) ≡ true → list_any (λ n. same n text) dotted_names ≡ true
unfolding dots
known text h = by_test (list_any (λ n. same n text) dotted_names) h
  where
    by_test : (v : Bool) → is_whole (if v then whole else (if same (codes "parallel.pool") text then stem else neither)) ≡ true → v ≡ true
    by_test true e = refl
    by_test false e = elim (no_whole (same (codes "parallel.pool") text) e) [ ]
      where
        no_whole : (v : Bool) → is_whole (if v then stem else neither) ≡ true → ⊥
        no_whole true e = cc
        no_whole false e = cc

-- a name, or a function of the language
abbrev pub IsHeadText : List ℕ → Type 0
IsHeadText text = is_whole (dots text) ≡ false → IsName text

pub head_goes : (text : List ℕ) → IsHeadText text → Names (head_words text)
head_goes text h = by_dots (is_whole (dots text)) refl
  where
    by_dots : (v : Bool) → is_whole (dots text) ≡ v → Names (split_words v text)
    by_dots true e = among dotted_names text all_known (known text e)
    by_dots false e = name_goes text (h e)
