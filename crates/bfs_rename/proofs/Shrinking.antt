-- Attributes that are taken out of small data, the longest first.
use Rattle.std.proofs.Common.{◌≡◌, ◌⊎◌, ◌≤◌, ◌<◌, ◌+◌, ◌-◌, ◌*◌, ◌/◌, inl, inr, ℕ, zero, suc, List, [], ◌∷◌, length, Option, Some, None, Bool, true, false, cond, not, refl, sym, ap, ◌∙◌, subst, arith}
use Rattle.std.specs.Prelude.{nat_le, sum_by, count_by, IsSome, IfSome, ◌&&◌, ◌==◌}
use Rattle.std.specs.Option.{option_map_or}
use Rattle.std.specs.Str.{bytes_eq}
use Rattle.std.proofs.lemmas.List.Sums.{sum_by-cons}
use Rattle.std.proofs.Math.Nat.{mul-div-le}
use Rattle.bfs_super.specs.Conditions.{ceil}
use Rattle.bfs_smalldata.specs.Items.{Item, items_of, size_of, sizes_of}
use Rattle.bfs_smalldata.specs.Edits.{AreDistinct, named, without}
use Rattle.bfs_smalldata.proofs.Naming.{same_name, without_first, without_later, named_first, named_later}
use Rattle.bfs_smalldata.proofs.Listing.{area_from}
use Rattle.bfs_smalldata.proofs.Standing.{stand_size}
use Rattle.bfs_sound.specs.Attributes.{is_name_item, own_name}
use Rattle.bfs_sound.specs.Need.{longer, longest, moving, moving_from}
use Rattle.bfs_rename.specs.Moving.{ArePlain, AreMoving, attributes, IsTakenFrom, count_in}

pub plain_all : (xs : List Item) → ArePlain xs → attributes xs ≡ xs
plain_all [] plain = refl
plain_all (x ∷ xs) plain =
    ap (λ (t : Bool). cond (not t) (x ∷ attributes xs) (attributes xs)) plain.0 ∙ ap (λ (l : List Item). x ∷ l) (plain_all xs plain.1)

plain_attributes : (xs : List Item) → ArePlain (attributes xs)
plain_attributes [] = tt
plain_attributes (x ∷ xs) = by_test (is_name_item x) refl (plain_attributes xs)
  where
    by_test : (t : Bool) → is_name_item x ≡ t → ArePlain (attributes xs) → ArePlain (cond (not t) (x ∷ attributes xs) (attributes xs))
    by_test true e rest = rest
    by_test false e rest = (e, rest)

plain_without : (name : List ℕ) (xs : List Item) → ArePlain xs → ArePlain (without name xs)
plain_without name [] plain = tt
plain_without name (x ∷ xs) plain = by_test (bytes_eq x.name name) (plain_without name xs plain.1)
  where
    by_test : (t : Bool) → ArePlain (without name xs) → ArePlain (cond t xs (x ∷ without name xs))
    by_test true rest = plain.1
    by_test false rest = (plain.0, rest)

-- ---- the longest of some items is one of them

abbrev IsAmong : Item → List Item → Type 0
IsAmong item [] = ⊥
IsAmong item (x ∷ xs) = (x ≡ item) ⊎ IsAmong item xs

longest_among : (xs : List Item) (item : Item) → longest xs ≡ Some item → IsAmong item xs
longest_among [] item e = let bad : None ≡ Some item = e in absurd cc
longest_among (x ∷ xs) item e = by_rest (longest_among xs item) (longest xs) refl (let one : Some (longer x (longest xs)) ≡ Some item = e in cc)
  where
    by_length : (longest xs ≡ Some item → IsAmong item xs) → (other : Item) (t : Bool) → longest xs ≡ Some other → cond t other x ≡ item → IsAmong item (x ∷ xs)
    by_length rest other true is f = inr (rest (is ∙ ap (λ (i : Item). Some i) f))
    by_length rest other false is f = inl f

    by_rest : (longest xs ≡ Some item → IsAmong item xs) → (o : Option Item) → longest xs ≡ o → longer x (longest xs) ≡ item → IsAmong item (x ∷ xs)
    by_rest rest None is f = inl (sym (ap (longer x) is) ∙ f)
    by_rest rest (Some other) is f = by_length rest other (nat_le (size_of x) (size_of other)) is (sym (ap (longer x) is) ∙ f)

one_less : (item : Item) (xs : List Item) → IsAmong item xs → length xs ≡ suc (length (without item.name xs))
one_less item [] in_it = absurd in_it
one_less item (x ∷ xs) in_it = by_test (one_less item xs) (bytes_eq x.name item.name) refl in_it
  where
    by_test : (IsAmong item xs → length xs ≡ suc (length (without item.name xs))) → (t : Bool) → bytes_eq x.name item.name ≡ t → (x ≡ item) ⊎ IsAmong item xs → length (x ∷ xs) ≡ suc (length (without item.name (x ∷ xs)))
    by_test rest true e h = ap (λ (l : List Item). suc (length l)) (sym (without_first item.name x xs e))
    by_test rest false e (inl same) =
        let bad : true ≡ false = sym (same_name item.name) ∙ ap (λ (i : Item). bytes_eq i.name item.name) (sym same) ∙ e in
        absurd cc
    by_test rest false e (inr later) = ap (λ (n : ℕ). suc n) (rest later) ∙ ap (λ (l : List Item). suc (length l)) (sym (without_later item.name x xs e))

attribute_among : (xs : List Item) (item : Item) → IsAmong item (attributes xs) → IsAmong item xs
attribute_among [] item bad = absurd bad
attribute_among (x ∷ xs) item h = by_test (attribute_among xs item) (is_name_item x) h
  where
    by_test : (IsAmong item (attributes xs) → IsAmong item xs) → (t : Bool) → IsAmong item (cond (not t) (x ∷ attributes xs) (attributes xs)) → IsAmong item (x ∷ xs)
    by_test rest true h = inr (rest h)
    by_test rest false (inl same) = inl same
    by_test rest false (inr later) = inr (rest later)

-- an item was taken: there is one less
pub taken_less : (xs : List Item) (item : Item) → longest (attributes xs) ≡ Some item → length xs ≡ suc (length (without item.name xs))
taken_less xs item e = one_less item xs (attribute_among xs item (longest_among (attributes xs) item e))

-- ---- one after the other

-- of the attributes that move, so many are out, and these are left
pub record IsOnMove (block_size room : ℕ) (items : List Item) (area : List ℕ) (count blocks : ℕ) : Type 0 where
  pub left : List Item
  pub is : items_of area ≡ Some left
  pub plain : ArePlain left
  pub count_is : count + length (moving (length left) room left) ≡ length (moving (length items) room items)
  pub blocks_are : blocks + sum_by (λ (item : Item). ceil (length item.bytes) block_size) (moving (length left) room left)
      ≡ sum_by (λ (item : Item). ceil (length item.bytes) block_size) (moving (length items) room items)

too_long : (a b : ℕ) → b < a → nat_le a b ≡ false
too_long a b h = grind (arith, h)

fits : (a b : ℕ) → a ≤ b → nat_le a b ≡ true
fits a b h = grind (arith, h)

some_longest : (xs : List Item) (room : ℕ) → room < sizes_of xs → longest xs ≡ None → ⊥
some_longest [] room h e = omega (arith, h)
some_longest (x ∷ xs) room h e = let bad : Some (longer x (longest xs)) ≡ None = e in cc

-- the next one moves
moves_on : (xs : List Item) (room : ℕ) (item : Item) → room < sizes_of xs → longest xs ≡ Some item → length xs ≡ suc (length (without item.name xs))
    → moving (length xs) room xs ≡ item ∷ moving (length (without item.name xs)) room (without item.name xs)
moves_on xs room item long first less =
    ap (λ (n : ℕ). moving n room xs) less
    ∙ ap (λ (t : Bool). cond t [] (option_map_or (λ (i : Item). i ∷ moving (length (without item.name xs)) room (without i.name xs)) (longest xs) [])) (too_long (sizes_of xs) room long)
    ∙ ap (λ (o : Option Item). option_map_or (λ (i : Item). i ∷ moving (length (without item.name xs)) room (without i.name xs)) o []) first

no_more : (n room : ℕ) (xs : List Item) → sizes_of xs ≤ room → moving n room xs ≡ []
no_more zero room xs h = refl
no_more (suc n) room xs h = ap (λ (t : Bool). cond t [] (option_map_or (λ (i : Item). i ∷ moving n room (without i.name xs)) (longest xs) [])) (fits (sizes_of xs) room h)

module _ (block_size room : ℕ) (items : List Item) (area : List ℕ) (count blocks : ℕ) (p : IsOnMove block_size room items area count blocks) where
  abbrev fills : Item → ℕ
  fills item = ceil (length item.bytes) block_size

  first_is : (item : Item) → longest (attributes p.left) ≡ Some item → longest p.left ≡ Some item
  first_is item e = ap longest (sym (plain_all p.left p.plain)) ∙ e

  pub goes : (now : List ℕ) (item : Item) → room < sizes_of p.left → longest (attributes p.left) ≡ Some item → items_of now ≡ Some (without item.name p.left)
      → IsOnMove block_size room items now (count + 1) (blocks + ceil (length item.bytes) block_size)
  goes now item long first is =
      let less : length p.left ≡ suc (length (without item.name p.left)) = taken_less p.left item first in
      let next : moving (length p.left) room p.left ≡ item ∷ moving (length (without item.name p.left)) room (without item.name p.left) = moves_on p.left room item long (first_is item first) less in
      let many : length (moving (length p.left) room p.left) ≡ suc (length (moving (length (without item.name p.left)) room (without item.name p.left))) = ap (λ (l : List Item). length l) next in
      let fill : sum_by fills (moving (length p.left) room p.left) ≡ fills item + sum_by fills (moving (length (without item.name p.left)) room (without item.name p.left)) = ap (sum_by fills) next ∙ sum_by-cons fills item (moving (length (without item.name p.left)) room (without item.name p.left)) in
      let was = p.count_is in
      let had = p.blocks_are in
      record {
        left = without item.name p.left;
        is = is;
        plain = plain_without item.name p.left p.plain;
        count_is = omega (arith, many, was);
        blocks_are = omega (arith, fill, had);
      }

  pub never_none : room < sizes_of p.left → longest (attributes p.left) ≡ None → ⊥
  never_none long none = some_longest p.left room long (ap longest (sym (plain_all p.left p.plain)) ∙ none)

  pub is_done : sizes_of p.left ≤ room → AreMoving block_size (moving (length items) room items) (record { count = count; blocks = blocks })
  is_done short =
      let none : moving (length p.left) room p.left ≡ [] = no_more (length p.left) room p.left short in
      let many : length (moving (length p.left) room p.left) ≡ 0 = ap (λ (l : List Item). length l) none in
      let fill : sum_by fills (moving (length p.left) room p.left) ≡ 0 = ap (sum_by fills) none in
      let was = p.count_is in
      let had = p.blocks_are in
      record { count = omega (arith, many, was); blocks = omega (arith, fill, had) }

-- the blocks that so many bytes fill
pub fills_few : (n size : ℕ) → n ≤ 65535 → 1024 ≤ size → size ≤ 8192 → ceil n size ≤ 72
fills_few n size few long short =
    let d : size * ((n + (size - 1)) / size) ≤ n + (size - 1) = mul-div-le (n + (size - 1)) size in
    let w : 1024 * ((n + (size - 1)) / size) ≤ size * ((n + (size - 1)) / size) = wider ((n + (size - 1)) / size) in
    omega (arith, d, w, short, few)
  where
    wider : (k : ℕ) → 1024 * k ≤ size * k
    wider k = grind (arith, long)

-- ---- how many items there are

-- an item was taken out of an area
pub went : (old now : List ℕ) (n : ℕ) → IsSome (items_of old) → IfSome (items_of old) (λ items. IsTakenFrom items (items_of now) (Some n)) → IsSome (items_of now) × (count_in old ≡ suc (count_in now))
went old now n some taken = by_items (items_of old) refl some taken
  where
    by_items : (o : Option (List Item)) → items_of old ≡ o → IsSome o → IfSome o (λ items. IsTakenFrom items (items_of now) (Some n)) → IsSome (items_of now) × (option_map_or (λ (items : List Item). length items) o 0 ≡ suc (count_in now))
    by_items None e is t = let bad : false ≡ true = is in absurd cc
    by_items (Some xs) e is t = (
      subst IsSome (sym t.2) refl,
      taken_less xs t.0 t.1 ∙ ap (λ (k : ℕ). suc k) (sym (ap (λ (o : Option (List Item)). option_map_or (λ (items : List Item). length items) o 0) t.2)),
    )

few_items : (xs : List Item) → length xs ≤ sizes_of xs
few_items [] = omega arith
few_items (x ∷ xs) = let rest = few_items xs in omega (arith, rest)

pub count_few : (area : List ℕ) (most : ℕ) → length area ≤ most → count_in area ≤ most
count_few area most short = by_items (items_of area) refl
  where
    by_items : (o : Option (List Item)) → items_of area ≡ o → option_map_or (λ (items : List Item). length items) o 0 ≤ most
    by_items None e = omega arith
    by_items (Some xs) e = let inside = stand_size xs area (area_from area xs e).0 in let few = few_items xs in omega (arith, inside, few, short)

-- ---- the items without the one with the node's own name

abbrev how_many : List Item → ℕ
how_many items = count_by (λ item. bytes_eq item.name own_name) items

many_first : (x : Item) (xs : List Item) → bytes_eq x.name own_name ≡ true → how_many (x ∷ xs) ≡ how_many xs + 1
many_first x xs same =
    let one : ◌≡◌ {A = ℕ} (cond (bytes_eq x.name own_name) 1 0) 1 = ap (λ (t : Bool). cond {A = ℕ} t 1 0) same in
    omega (arith, sum_by-cons (λ (item : Item). cond (bytes_eq item.name own_name) 1 0) x xs, one)

many_later : (x : Item) (xs : List Item) → bytes_eq x.name own_name ≡ false → how_many (x ∷ xs) ≡ how_many xs
many_later x xs other =
    let none : ◌≡◌ {A = ℕ} (cond (bytes_eq x.name own_name) 1 0) 0 = ap (λ (t : Bool). cond {A = ℕ} t 1 0) other in
    omega (arith, sum_by-cons (λ (item : Item). cond (bytes_eq item.name own_name) 1 0) x xs, none)

not_name : (b : Bool) → (b && false) ≡ false
not_name true = refl
not_name false = refl

other_item : (x : Item) → bytes_eq x.name own_name ≡ false → is_name_item x ≡ false
other_item x e = ap (λ (t : Bool). (x.kind == 0x43535452) && t) e ∙ not_name (x.kind == 0x43535452)

none_own : (xs : List Item) → how_many xs ≡ 0 → ArePlain xs
none_own [] none = tt
none_own (x ∷ xs) none = by_test (none_own xs) (bytes_eq x.name own_name) refl
  where
    by_test : (how_many xs ≡ 0 → ArePlain xs) → (t : Bool) → bytes_eq x.name own_name ≡ t → ArePlain (x ∷ xs)
    by_test rest true e = let more = many_first x xs e in absurd (omega (arith, none, more))
    by_test rest false e = let less = many_later x xs e in (other_item x e, rest (omega (arith, none, less)))

-- they are the attributes
pub without_own : (xs : List Item) (item : Item) → how_many xs ≤ 1 → named own_name xs ≡ Some item → is_name_item item ≡ true → attributes xs ≡ without own_name xs
without_own [] item few found own = refl
without_own (x ∷ xs) item few found own = by_test (λ a b. without_own xs item a b own) (bytes_eq x.name own_name) refl
  where
    by_test : (how_many xs ≤ 1 → named own_name xs ≡ Some item → attributes xs ≡ without own_name xs) → (t : Bool) → bytes_eq x.name own_name ≡ t → attributes (x ∷ xs) ≡ without own_name (x ∷ xs)
    by_test rest true e =
        let more = many_first x xs e in
        let same : x ≡ item = (let both : Some x ≡ Some item = sym (named_first own_name x xs e) ∙ found in cc) in
        ap (λ (t : Bool). cond (not t) (x ∷ attributes xs) (attributes xs)) (ap is_name_item same ∙ own)
        ∙ plain_all xs (none_own xs (omega (arith, few, more)))
        ∙ sym (without_first own_name x xs e)
    by_test rest false e =
        let less = many_later x xs e in
        ap (λ (t : Bool). cond (not t) (x ∷ attributes xs) (attributes xs)) (other_item x e)
        ∙ ap (λ (l : List Item). x ∷ l) (rest (omega (arith, few, less)) (sym (named_later own_name x xs e) ∙ found))
        ∙ sym (without_later own_name x xs e)

pub own_plain : (xs : List Item) (item : Item) → AreDistinct xs → named own_name xs ≡ Some item → is_name_item item ≡ true → ArePlain (without own_name xs)
own_plain xs item distinct found own = subst ArePlain (without_own xs item (distinct own_name) found own) (plain_attributes xs)

pub from_own : (size name : ℕ) (o : Option (List Item)) (xs : List Item) (item : Item) → o ≡ Some xs → AreDistinct xs → named own_name xs ≡ Some item → is_name_item item ≡ true
    → moving (length (without own_name xs)) (size - (8 + length own_name + 3 + name + 1)) (without own_name xs) ≡ moving_from size name o
from_own size name o xs item e distinct found own =
    ap (λ (l : List Item). moving (length l) (size - (8 + length own_name + 3 + name + 1)) l) (sym (without_own xs item (distinct own_name) found own))
    ∙ sym (ap (moving_from size name) e)
