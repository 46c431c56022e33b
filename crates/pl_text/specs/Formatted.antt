-- What a pattern makes of items: each text of characters is one item, and each cell of another array.
use Rattle.std.specs.Prelude.{◌≡◌, ℕ, zero, suc, ◌+◌, ◌-◌, ◌==◌, ◌&&◌, ◌||◌, nat_le, ℤ, pos, negsuc, Bool, true, false, not, if◌then◌else◌, Option, Some, None, Result, Ok, Err, List, [], ◌∷◌, ◌++◌, length, map, replicate, drop, unsigned_abs}
use Rattle.std.specs.List.{flat_map, list_any}
use Rattle.std.specs.Fmt.{decimal, signed_decimal}
use Rattle.std.specs.Global.{Vec}
use Rattle.pl_base.specs.declared.memory.Or.{Or}
use Rattle.pl_base.specs.declared.errors.ErrKind.{ErrKind}
use Rattle.pl_base.specs.declared.errors.ErrKind.TheVariants.{FormatBad}
use Rattle.pl_array.specs.Arrays.{Array}
use Rattle.pl_text.specs.declared.pattern.Flag.{Flag}
use Rattle.pl_text.specs.declared.pattern.Flag.TheVariants.{Plain, Left, Zeros}
use Rattle.pl_text.specs.declared.pattern.Sort.{Sort}
use Rattle.pl_text.specs.declared.pattern.Sort.TheVariants.{Decimal, Characters}
use Rattle.pl_text.specs.declared.pattern.Conversion.{Conversion}
use Rattle.pl_text.specs.declared.pattern.Part.{Part}
use Rattle.pl_text.specs.declared.pattern.Part.TheVariants.{Byte, Show}
use Rattle.pl_text.specs.declared.pattern.Half.TheVariants.{Outside}
use Rattle.pl_text.specs.declared.items.Item.{Item}
use Rattle.pl_text.specs.declared.items.Item.TheVariants as item
use Rattle.pl_text.specs.Cells.{byte_of, set_right}
use Rattle.pl_text.specs.Displayed.{is_char}
use Rattle.pl_text.specs.Pattern.{parts_of}

-- the characters of an array, by columns
abbrev pub characters_of : Array → List ℕ
characters_of a = map byte_of a.cells

-- the items of an argument
abbrev pub item_list : Array → List Item
item_list a = if is_char a.class then item.Characters (characters_of a) ∷ [] else map (λ z. item.Number z) a.cells

abbrev pub items_of : List Array → List Item
items_of args = flat_map item_list args

-- a text in a field, filled with blanks
abbrev pub in_field : Flag → ℕ → List ℕ → List ℕ
in_field Plain width text = set_right width text
in_field Zeros width text = set_right width text
in_field Left width text = text ++ replicate (width - length text) 32

abbrev pub sign_of : ℤ → List ℕ
sign_of (pos n) = []
sign_of (negsuc n) = 45 ∷ []

-- a number in a field; zeros stand behind its sign
abbrev pub number_in : Flag → ℕ → ℤ → List ℕ
number_in Plain width z = in_field Plain width (signed_decimal z)
number_in Left width z = in_field Left width (signed_decimal z)
number_in Zeros width z = sign_of z ++ replicate (width - length (signed_decimal z)) 48 ++ decimal (unsigned_abs z)

-- a number that is shown as a character: 1 to 255
abbrev pub is_character : ℤ → Bool
is_character (pos n) = nat_le 1 n && nat_le n 255
is_character (negsuc n) = false

abbrev pub number_shown : Conversion → Sort → ℤ → List ℕ
number_shown v Decimal z = number_in v.flag v.width z
number_shown v Characters z = if is_character z then in_field v.flag v.width (byte_of z ∷ []) else number_in v.flag v.width z

-- what a conversion makes of an item
abbrev pub shown : Conversion → Item → List ℕ
shown v (item.Number z) = number_shown v v.sort z
shown v (item.Characters t) = in_field v.flag v.width t

-- the parts without their conversions
abbrev pub byte_in : Part → List ℕ
byte_in (Byte c) = c ∷ []
byte_in (Show v) = []

abbrev pub bytes_in : List Part → List ℕ
bytes_in parts = flat_map byte_in parts

abbrev pub is_show : Part → Bool
is_show (Byte c) = false
is_show (Show v) = true

abbrev pub has_show : List Part → Bool
has_show parts = list_any is_show parts

-- one use of the pattern, and then what next makes of the items that are left; it stops before the first
-- conversion without an item
abbrev pub walk : List Part → List Item → (List Item → List ℕ) → List ℕ
walk [] items next = next items
walk (Byte c ∷ ps) items next = c ∷ walk ps items next
walk (Show v ∷ ps) [] next = []
walk (Show v ∷ ps) (i ∷ is) next = shown v i ++ walk ps is next

-- the pattern is used again while items are left
abbrev pub goes_on : (List Item → List ℕ) → List Item → List ℕ
goes_on next [] = []
goes_on next (i ∷ is) = next (i ∷ is)

-- as often as there are items, at most: each use takes one at least
abbrev pub uses : ℕ → List Part → List Item → List ℕ
uses zero parts items = []
uses (suc n) parts items = walk parts items (goes_on (uses n parts))

-- without items a conversion prints nothing, and a pattern without conversions is used once
abbrev pub formatted : List Part → List Item → List ℕ
formatted parts items = if length items == 0 || not (has_show parts) then bytes_in parts else uses (length items) parts items

abbrev pub formatted_by : Option (List Part) → List Item → Result (List ℕ) ErrKind
formatted_by None items = Err FormatBad
formatted_by (Some parts) items = Ok (formatted parts items)

abbrev pub format_of : Array → List Array → Result (List ℕ) ErrKind
format_of pattern args = formatted_by (parts_of Outside (characters_of pattern)) (items_of args)

-- one use of the pattern: it went on to its end with so many items used, or stopped
abbrev pub Walks : {E : Type 0} → Result (Option ℕ) E → List ℕ → List ℕ → List Part → List Item → List Item → Type 0
Walks (Ok (Some used)) old new parts items all = (next : List Item → List ℕ) → new ++ next (drop used all) ≡ old ++ walk parts items next
Walks (Ok None) old new parts items all = (next : List Item → List ℕ) → new ≡ old ++ walk parts items next
Walks (Err e) old new parts items all = Unit {0}
