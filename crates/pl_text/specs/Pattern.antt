-- Patterns, and what they make of items.
use Rattle.std.specs.Prelude.{◌≡◌, ℕ, ◌+◌, ◌*◌, ◌-◌, ◌==◌, ◌&&◌, ◌||◌, nat_le, Bool, if◌then◌else◌, Option, Some, None, Result, Ok, Err, List, [], ◌∷◌, ◌++◌, option_map}
use Rattle.std.specs.Global.{Vec}
use Rattle.pl_base.specs.declared.memory.Or.{Or}
use Rattle.pl_base.specs.declared.errors.ErrKind.{ErrKind}
use Rattle.pl_base.specs.declared.errors.ErrKind.TheVariants.{FormatBad}
use Rattle.pl_text.specs.declared.pattern.Flag.{Flag}
use Rattle.pl_text.specs.declared.pattern.Flag.TheVariants.{Plain, Left, Zeros}
use Rattle.pl_text.specs.declared.pattern.Sort.{Sort}
use Rattle.pl_text.specs.declared.pattern.Sort.TheVariants.{Decimal, Characters}
use Rattle.pl_text.specs.declared.pattern.Conversion.{Conversion}
use Rattle.pl_text.specs.declared.pattern.Part.{Part}
use Rattle.pl_text.specs.declared.pattern.Part.TheVariants.{Byte, Show}
use Rattle.pl_text.specs.declared.pattern.Half.{Half}
use Rattle.pl_text.specs.declared.pattern.Half.TheVariants as half

-- a part before those that come
abbrev pub put : Part → Option (List Part) → Option (List Part)
put p more = option_map (λ ps. p ∷ ps) more

abbrev pub Going : Type 0
Going = Half → Option (List Part)

abbrev pub conversion : Flag → ℕ → Sort → Part
conversion f w s = Show (record { flag = f; width = w; sort = s })

-- the letter of a conversion
abbrev pub letter : Flag → ℕ → ℕ → Going → Option (List Part)
letter f w c go =
    if c == 100 || c == 105 then put (conversion f w Decimal) (go half.Outside) else
    if c == 115 then put (conversion f w Characters) (go half.Outside) else None

abbrev pub is_digit : ℕ → Bool
is_digit c = nat_le 48 c && nat_le c 57

-- what an escape stands for
abbrev pub escape : ℕ → Going → Option (List Part)
escape c go =
    if c == 110 then put (Byte 10) (go half.Outside) else
    if c == 116 then put (Byte 9) (go half.Outside) else
    if c == 114 then put (Byte 13) (go half.Outside) else
    if c == 92 then put (Byte 92) (go half.Outside) else None

-- behind a percent sign
abbrev pub percent : ℕ → Going → Option (List Part)
percent c go =
    if c == 37 then put (Byte 37) (go half.Outside) else
    if c == 45 then go (half.Flagged Left) else
    if c == 48 then go (half.Flagged Zeros) else
    if is_digit c then go (half.OneDigit Plain (c - 48)) else letter Plain 0 c go

-- outside of conversions and escapes
abbrev pub plain : ℕ → Going → Option (List Part)
plain c go = if c == 37 then go half.Percent else (if c == 92 then go half.Escape else put (Byte c) (go half.Outside))

-- a byte, by what was begun: a width has one or two digits
unfoldable pub step : Half → ℕ → Going → Option (List Part)
step half.Outside c go = plain c go
step half.Escape c go = escape c go
step half.Percent c go = percent c go
step (half.Flagged f) c go = if is_digit c then go (half.OneDigit f (c - 48)) else letter f 0 c go
step (half.OneDigit f w) c go = if is_digit c then go (half.TwoDigits f (w * 10 + (c - 48))) else letter f w c go
step (half.TwoDigits f w) c go = letter f w c go

-- the end of the pattern
abbrev pub close : Half → Option (List Part)
close half.Outside = Some []
close half.Escape = None
close half.Percent = None
close (half.Flagged f) = None
close (half.OneDigit f w) = None
close (half.TwoDigits f w) = None

-- the parts of a pattern; none where it is bad
abbrev pub parts_of : Half → List ℕ → Option (List Part)
parts_of h [] = close h
parts_of h (c ∷ cs) = step h c (λ next. parts_of next cs)

-- a function that took a byte goes on so with the parts that it found, or the pattern is bad
abbrev pub found : List Part → Option (List Part) → Option (List Part)
found done more = option_map (λ ps. done ++ ps) more

abbrev pub Takes : List Part → Result Half (Or ErrKind) → List Part → (Going → Option (List Part)) → Type 0
Takes old (Ok next) new f = (go : Going) → found old (f go) ≡ found new (go next)
Takes old (Err Or.Memory) new f = Unit {0}
Takes old (Err (Or.Is e)) new f = (e ≡ FormatBad) × ((go : Going) → f go ≡ None)

-- all parts, or a refusal where the pattern is bad
abbrev pub Parses : Result (Vec Part) (Or ErrKind) → Option (List Part) → Type 0
Parses (Ok v) parts = parts ≡ Some v.items
Parses (Err Or.Memory) parts = Unit {0}
Parses (Err (Or.Is e)) parts = (e ≡ FormatBad) × (parts ≡ None)
