use Rattle.std.proofs.Common.{◌≡◌, ℕ, List, [], ◌∷◌, ◌++◌, refl, ap, sym, ◌∙◌}
use Rattle.std.specs.Cmp.Lexicographic.{same_text}
use Rattle.conformance.specs.Differences.{lines_of}
use Rattle.conformance.proofs.Differing.{apart, apart_here, goes_on, counts_on}
use Rattle.conformance.proofs.difference.first_difference.Goals as goal

-- what was got has ended
pub returns-in_default-split_line-clause-line : goal.returns-in_default-split_line-clause-line
returns-in_default-split_line-clause-line c =
    (apart c.args.wanted.now c.args.got.now
    c.loop-wanted_line.wanted_rest.now c.loop-wanted_line.got_rest.now c.loop-wanted_line.invariant.0 (c.in-Some.wanted_line.now ∷ lines_of c.in-Some.wanted_more.now) ([])
    c.loop-wanted_line.line c.loop-wanted_line.invariant.1 c.loop-wanted_line.invariant.2 c.loop-wanted_line.invariant.3
    c.in-Some.ensures.0 c.in_default-split_line.ensures refl).0

pub returns-in_default-split_line-clause-wanted : goal.returns-in_default-split_line-clause-wanted
returns-in_default-split_line-clause-wanted c =
    (apart c.args.wanted.now c.args.got.now
    c.loop-wanted_line.wanted_rest.now c.loop-wanted_line.got_rest.now c.loop-wanted_line.invariant.0 (c.in-Some.wanted_line.now ∷ lines_of c.in-Some.wanted_more.now) ([])
    c.loop-wanted_line.line c.loop-wanted_line.invariant.1 c.loop-wanted_line.invariant.2 c.loop-wanted_line.invariant.3
    c.in-Some.ensures.0 c.in_default-split_line.ensures refl).1

pub returns-in_default-split_line-clause-got : goal.returns-in_default-split_line-clause-got
returns-in_default-split_line-clause-got c =
    (apart c.args.wanted.now c.args.got.now
    c.loop-wanted_line.wanted_rest.now c.loop-wanted_line.got_rest.now c.loop-wanted_line.invariant.0 (c.in-Some.wanted_line.now ∷ lines_of c.in-Some.wanted_more.now) ([])
    c.loop-wanted_line.line c.loop-wanted_line.invariant.1 c.loop-wanted_line.invariant.2 c.loop-wanted_line.invariant.3
    c.in-Some.ensures.0 c.in_default-split_line.ensures refl).2

-- the lines differ
pub returns-then-not-same-clause-line : goal.returns-then-not-same-clause-line
returns-then-not-same-clause-line c =
    (apart c.args.wanted.now c.args.got.now
    c.loop-wanted_line.wanted_rest.now c.loop-wanted_line.got_rest.now c.loop-wanted_line.invariant.0 (c.in-Some.wanted_line.now ∷ lines_of c.in-Some.wanted_more.now) (c.in-Some-split_line.got_line.now ∷ lines_of c.in-Some-split_line.got_more.now)
    c.loop-wanted_line.line c.loop-wanted_line.invariant.1 c.loop-wanted_line.invariant.2 c.loop-wanted_line.invariant.3
    c.in-Some.ensures.0 c.in-Some-split_line.ensures.0 (apart_here c.in-Some.wanted_line.now c.in-Some-split_line.got_line.now (lines_of c.in-Some.wanted_more.now) (lines_of c.in-Some-split_line.got_more.now) (sym c.same.ensures ∙ c.if-not-same.true))).0

pub returns-then-not-same-clause-wanted : goal.returns-then-not-same-clause-wanted
returns-then-not-same-clause-wanted c =
    (apart c.args.wanted.now c.args.got.now
    c.loop-wanted_line.wanted_rest.now c.loop-wanted_line.got_rest.now c.loop-wanted_line.invariant.0 (c.in-Some.wanted_line.now ∷ lines_of c.in-Some.wanted_more.now) (c.in-Some-split_line.got_line.now ∷ lines_of c.in-Some-split_line.got_more.now)
    c.loop-wanted_line.line c.loop-wanted_line.invariant.1 c.loop-wanted_line.invariant.2 c.loop-wanted_line.invariant.3
    c.in-Some.ensures.0 c.in-Some-split_line.ensures.0 (apart_here c.in-Some.wanted_line.now c.in-Some-split_line.got_line.now (lines_of c.in-Some.wanted_more.now) (lines_of c.in-Some-split_line.got_more.now) (sym c.same.ensures ∙ c.if-not-same.true))).1

pub returns-then-not-same-clause-got : goal.returns-then-not-same-clause-got
returns-then-not-same-clause-got c =
    (apart c.args.wanted.now c.args.got.now
    c.loop-wanted_line.wanted_rest.now c.loop-wanted_line.got_rest.now c.loop-wanted_line.invariant.0 (c.in-Some.wanted_line.now ∷ lines_of c.in-Some.wanted_more.now) (c.in-Some-split_line.got_line.now ∷ lines_of c.in-Some-split_line.got_more.now)
    c.loop-wanted_line.line c.loop-wanted_line.invariant.1 c.loop-wanted_line.invariant.2 c.loop-wanted_line.invariant.3
    c.in-Some.ensures.0 c.in-Some-split_line.ensures.0 (apart_here c.in-Some.wanted_line.now c.in-Some-split_line.got_line.now (lines_of c.in-Some.wanted_more.now) (lines_of c.in-Some-split_line.got_more.now) (sym c.same.ensures ∙ c.if-not-same.true))).2

-- what was wanted has ended
pub returns-clause-line : goal.returns-clause-line
returns-clause-line c =
    (apart c.args.wanted.now c.args.got.now
    c.loop-wanted_line.wanted_rest.now c.loop-wanted_line.got_rest.now c.loop-wanted_line.invariant.0 ([]) (lines_of c.loop-wanted_line.got_rest.now)
    c.loop-wanted_line.line c.loop-wanted_line.invariant.1 c.loop-wanted_line.invariant.2 c.loop-wanted_line.invariant.3
    c.in_default.ensures refl refl).0

pub returns-clause-wanted : goal.returns-clause-wanted
returns-clause-wanted c =
    (apart c.args.wanted.now c.args.got.now
    c.loop-wanted_line.wanted_rest.now c.loop-wanted_line.got_rest.now c.loop-wanted_line.invariant.0 ([]) (lines_of c.loop-wanted_line.got_rest.now)
    c.loop-wanted_line.line c.loop-wanted_line.invariant.1 c.loop-wanted_line.invariant.2 c.loop-wanted_line.invariant.3
    c.in_default.ensures refl refl).1

pub returns-clause-got : goal.returns-clause-got
returns-clause-got c =
    rw ((apart c.args.wanted.now c.args.got.now
    c.loop-wanted_line.wanted_rest.now c.loop-wanted_line.got_rest.now c.loop-wanted_line.invariant.0 ([]) (lines_of c.loop-wanted_line.got_rest.now)
    c.loop-wanted_line.line c.loop-wanted_line.invariant.1 c.loop-wanted_line.invariant.2 c.loop-wanted_line.invariant.3
    c.in_default.ensures refl refl).2)
    c.first_line.ensures

-- a line more is the same
pub loop-wanted_line-preserved : goal.loop-wanted_line-preserved
loop-wanted_line-preserved c =
    let alike : c.in-Some.wanted_line.now ≡ c.in-Some-split_line.got_line.now = same_text c.in-Some.wanted_line.now c.in-Some-split_line.got_line.now (sym c.if-not-same.false ∙ c.same.ensures) in
    let is_got : lines_of c.loop-wanted_line.got_rest.now ≡ c.in-Some.wanted_line.now ∷ lines_of c.in-Some-split_line.got_more.now = c.in-Some-split_line.ensures.0 ∙ ap (λ (line : List ℕ). line ∷ lines_of c.in-Some-split_line.got_more.now) (sym alike) in (
      c.loop-wanted_line.invariant.0 ++ c.in-Some.wanted_line.now ∷ [],
      goes_on c.args.wanted.now c.loop-wanted_line.invariant.0 (lines_of c.in-Some.wanted_more.now) c.in-Some.wanted_line.now (lines_of c.loop-wanted_line.wanted_rest.now) c.loop-wanted_line.invariant.1 c.in-Some.ensures.0,
      goes_on c.args.got.now c.loop-wanted_line.invariant.0 (lines_of c.in-Some-split_line.got_more.now) c.in-Some.wanted_line.now (lines_of c.loop-wanted_line.got_rest.now) c.loop-wanted_line.invariant.2 is_got,
      counts_on c.loop-wanted_line.invariant.0 c.in-Some.wanted_line.now c.loop-wanted_line.line c.saturating_add-line.result c.loop-wanted_line.invariant.3 c.saturating_add-line.ensures,
    )
