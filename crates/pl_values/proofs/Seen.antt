-- What a layer shows, slot by slot, and after a write.
use Rattle.std.proofs.Common.{◌≡◌, ℕ, zero, suc, ◌+◌, ◌<◌, Bool, true, false, true≢false, nat_eq, length, replicate, slice_set, take, get_or, List, [], ◌∷◌, ◌++◌, Option, Some, None, is_some, refl, sym, ap, ◌∙◌, if◌then◌else◌, arith}
use Rattle.std.proofs.lemmas.List.{take_more}
use Rattle.std.specs.Map.{lookup}
use Rattle.pl_values.specs.declared.value.Value.{Value}
use Rattle.pl_values.specs.declared.layers.Layer.{Layer}
use Rattle.pl_values.specs.Workspaces.{value_at}
use Rattle.pl_values.specs.Inner.{seen, first_of, find_in, laid, shows_at}

get_seen : (find : ℕ → Option Value) (marks : List Bool) (i : ℕ) → value_at (seen find marks) i ≡ (if shows_at marks i then find i else None)
get_seen find [] i = refl
get_seen find (true ∷ marks) zero = refl
get_seen find (false ∷ marks) zero = refl
get_seen find (m ∷ marks) (suc i) = get_seen (λ q. find (suc q)) marks i

length_seen : (find : ℕ → Option Value) (marks : List Bool) → length (seen find marks) ≡ length marks
length_seen find [] = refl
length_seen find (m ∷ marks) = ap suc (length_seen (λ q. find (suc q)) marks)

fresh_seen : (below : List (Option Value)) → seen (value_at below) (replicate (length below) false) ≡ below
fresh_seen [] = refl
fresh_seen (x ∷ below) = ap (λ l. x ∷ l) (fresh_seen below)

same_seen : (find other : ℕ → Option Value) (marks : List Bool) → ((q : ℕ) → find q ≡ other q) → seen find marks ≡ seen other marks
same_seen find other marks same = λ j. seen (λ q. same q j) marks

apart : (q : ℕ) → nat_eq 0 (suc q) ≡ false
apart q = grind arith

apart_back : (i : ℕ) → nat_eq (suc i) 0 ≡ false
apart_back i = grind arith

shifted : (i q : ℕ) → nat_eq i q ≡ false → nat_eq (suc i) (suc q) ≡ false
shifted i q e = grind arith

-- a write of a mark, where the other slots are as they were
put_seen : (find other : ℕ → Option Value) (marks : List Bool) (i : ℕ) (g : Bool) → ((q : ℕ) → nat_eq i q ≡ false → other q ≡ find q) → seen other (slice_set marks i g) ≡ slice_set (seen find marks) i (if g then None else other i)
put_seen find other [] i g same = refl
put_seen find other (m ∷ marks) zero g same = ap (λ l. (if g then None else other 0) ∷ l) (same_seen (λ q. other (suc q)) (λ q. find (suc q)) marks (λ q. same (suc q) (apart q)))
put_seen find other (m ∷ marks) (suc i) g same =
    ap (λ x. (if m then None else x) ∷ seen (λ q. other (suc q)) (slice_set marks i g)) (same 0 (apart_back i))
    ∙ ap (λ l. (if m then None else find 0) ∷ l) (put_seen (λ q. find (suc q)) (λ q. other (suc q)) marks i g (λ q e. same (suc q) (shifted i q e)))

others : (old new : List (ℕ × Value)) (k : ℕ) (below : List (Option Value)) → ((q : ℕ) → nat_eq k q ≡ false → lookup (nat_eq q) new ≡ lookup (nat_eq q) old) → (q : ℕ) → nat_eq k q ≡ false → find_in new below q ≡ find_in old below q
others old new k below same q e = ap (λ v. first_of v (value_at below q)) (same q e)

-- a layer after a value was set
pub set_laid : (old new : Layer) (k : ℕ) (v : Value) → ((q : ℕ) → nat_eq k q ≡ false → lookup (nat_eq q) new.values.entries ≡ lookup (nat_eq q) old.values.entries) → lookup (nat_eq k) new.values.entries ≡ Some v → new.cleared.items ≡ slice_set old.cleared.items k false → (below : List (Option Value)) → laid new below ≡ slice_set (laid old below) k (Some v)
set_laid old new k v same there marks below =
    ap (λ m. seen (find_in new.values.entries below) m) marks
    ∙ put_seen (find_in old.values.entries below) (find_in new.values.entries below) old.cleared.items k false (others old.values.entries new.values.entries k below same)
    ∙ ap (λ w. slice_set (laid old below) k (first_of w (value_at below k))) there

-- and after a slot was emptied
pub clear_laid : (old new : Layer) (k : ℕ) → ((q : ℕ) → nat_eq k q ≡ false → lookup (nat_eq q) new.values.entries ≡ lookup (nat_eq q) old.values.entries) → new.cleared.items ≡ slice_set old.cleared.items k true → (below : List (Option Value)) → laid new below ≡ slice_set (laid old below) k None
clear_laid old new k same marks below =
    ap (λ m. seen (find_in new.values.entries below) m) marks
    ∙ put_seen (find_in old.values.entries below) (find_in new.values.entries below) old.cleared.items k true (others old.values.entries new.values.entries k below same)

pub length_laid : (layer : Layer) (below : List (Option Value)) → length (laid layer below) ≡ length layer.cleared.items
length_laid layer below = length_seen (find_in layer.values.entries below) layer.cleared.items

-- what is read through a layer
pub shown_laid : (layer : Layer) (below : List (Option Value)) (k : ℕ) → shows_at layer.cleared.items k ≡ true → value_at (laid layer below) k ≡ first_of (lookup (nat_eq k) layer.values.entries) (value_at below k)
shown_laid layer below k shows = get_seen (find_in layer.values.entries below) layer.cleared.items k ∙ ap (λ b. if b then find_in layer.values.entries below k else None) shows

pub hidden_laid : (layer : Layer) (below : List (Option Value)) (k : ℕ) → shows_at layer.cleared.items k ≡ false → value_at (laid layer below) k ≡ None
hidden_laid layer below k shows = get_seen (find_in layer.values.entries below) layer.cleared.items k ∙ ap (λ b. if b then find_in layer.values.entries below k else None) shows

-- a layer without changes
pub fresh_laid : (layer : Layer) (below : List (Option Value)) → layer.values.entries ≡ [] → layer.cleared.items ≡ replicate (length below) false → laid layer below ≡ below
fresh_laid layer below none marks = (λ j. seen (find_in (none j) below) (marks j)) ∙ fresh_seen below

-- what a look-up finds: nothing at a slot that isn't shown, the layer's own value, or the value below
pub read_hidden : (layer : Layer) (below : List (Option Value)) (k : ℕ) → shows_at layer.cleared.items k ≡ false → None ≡ value_at (laid layer below) k
read_hidden layer below k shows = sym (hidden_laid layer below k shows)

pub read_own : (layer : Layer) (below : List (Option Value)) (k : ℕ) (v : Value) → shows_at layer.cleared.items k ≡ true → Some v ≡ lookup (nat_eq k) layer.values.entries → Some v ≡ value_at (laid layer below) k
read_own layer below k v shows found = ap (λ w. first_of w (value_at below k)) found ∙ sym (shown_laid layer below k shows)

pub read_below : (layer : Layer) (below : List (Option Value)) (k : ℕ) → shows_at layer.cleared.items k ≡ true → None ≡ lookup (nat_eq k) layer.values.entries → value_at below k ≡ value_at (laid layer below) k
read_below layer below k shows found = ap (λ w. first_of w (value_at below k)) found ∙ sym (shown_laid layer below k shows)

-- emptying a slot that isn't shown changes nothing
unset_seen : (find : ℕ → Option Value) (marks : List Bool) (k : ℕ) → shows_at marks k ≡ false → seen find marks ≡ slice_set (seen find marks) k None
unset_seen find [] k hidden = refl
unset_seen find (true ∷ marks) zero hidden = refl
unset_seen find (false ∷ marks) zero hidden = absurd (true≢false hidden)
unset_seen find (m ∷ marks) (suc k) hidden = ap (λ l. (if m then None else find 0) ∷ l) (unset_seen (λ q. find (suc q)) marks k hidden)

pub unset_laid : (layer : Layer) (below : List (Option Value)) (k : ℕ) → shows_at layer.cleared.items k ≡ false → laid layer below ≡ slice_set (laid layer below) k None
unset_laid layer below k hidden = unset_seen (find_in layer.values.entries below) layer.cleared.items k hidden

kept : (x y : Option Value) → is_some x ≡ true → x ≡ first_of x y
kept (Some v) y some = refl
kept None y some = absurd (true≢false (sym some))

passed : (x y : Option Value) → is_some x ≡ false → y ≡ first_of x y
passed (Some v) y none = absurd (true≢false none)
passed None y none = refl

-- the same look-ups, by whether the layer has a value of its own
pub take_own : (layer : Layer) (below : List (Option Value)) (k : ℕ) → shows_at layer.cleared.items k ≡ true → is_some (lookup (nat_eq k) layer.values.entries) ≡ true → lookup (nat_eq k) layer.values.entries ≡ value_at (laid layer below) k
take_own layer below k shows some = kept (lookup (nat_eq k) layer.values.entries) (value_at below k) some ∙ sym (shown_laid layer below k shows)

pub take_below : (layer : Layer) (below : List (Option Value)) (k : ℕ) → shows_at layer.cleared.items k ≡ true → is_some (lookup (nat_eq k) layer.values.entries) ≡ false → value_at below k ≡ value_at (laid layer below) k
take_below layer below k shows none = passed (lookup (nat_eq k) layer.values.entries) (value_at below k) none ∙ sym (shown_laid layer below k shows)

read_or : (slots : List (Option Value)) (i : ℕ) → get_or slots i None ≡ value_at slots i
read_or [] i = refl
read_or (x ∷ slots) zero = refl
read_or (x ∷ slots) (suc i) = read_or slots i

-- one slot more
pub one_more : (slots : List (Option Value)) (i : ℕ) → i < length slots → take (i + 1) slots ≡ take i slots ++ value_at slots i ∷ []
one_more slots i within = take_more slots i None within ∙ ap (λ x. take i slots ++ x ∷ []) (read_or slots i)
