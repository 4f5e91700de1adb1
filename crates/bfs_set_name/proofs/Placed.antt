-- Where the longest attribute begins in the block of an inode.
use Rattle.std.proofs.Common.{◌≡◌, ◌≤◌, ◌+◌, ◌-◌, ◌∙◌, ℕ, List, take, drop, length, not, Option, Some, None, refl, sym, ap, subst, arith, length-drop, drop-drop}
use Rattle.std.specs.Prelude.{IsSome, IfSome}
use Rattle.std.specs.List.{filter}
use Rattle.std.specs.Option.{option_map, option_and_then}
use Rattle.std.proofs.lemmas.List.{take_all}
use Rattle.bfs_smalldata.specs.Items.{Item, Begins, items_of, item_in}
use Rattle.bfs_sound.specs.Attributes.{is_name_item}
use Rattle.bfs_sound.specs.Need.{longest}
use Rattle.bfs_attr.specs.Longest.{IsLongestAt}
use Rattle.bfs_attr.proofs.Tops.{area_is}
use Rattle.bfs_set_name.specs.Renamed.{IsPlaced, longest_in}

-- the longest of some items
abbrev pub longest_of : List Item → Option Item
longest_of items = longest (filter (λ item. not (is_name_item item)) items)

module _ (block : List ℕ) where
  abbrev area : List ℕ
  area = drop 232 block

  -- a place of the small data is one of the block
  pub placed_in : (o : Option Item) (found : Option ℕ) → IsLongestAt area o found → IsPlaced block o (option_map (λ at. 232 + at) found)
  placed_in None None h = tt
  placed_in None (Some at) h = absurd h
  placed_in (Some item) None h = absurd h
  placed_in (Some item) (Some at) h = subst (λ (l : List ℕ). Begins l item) (drop-drop at 232 block) h

  pub placed : (found : Option ℕ) → IsSome (items_of area) → IfSome (items_of area) (λ items. IsLongestAt area (longest_of items) found) → IsPlaced block (longest_in area) (option_map (λ at. 232 + at) found)
  placed found some h = by_items (items_of area) some h
    where
      by_items : (o : Option (List Item)) → IsSome o → IfSome o (λ items. IsLongestAt area (longest_of items) found) → IsPlaced block (option_and_then longest_of o) (option_map (λ at. 232 + at) found)
      by_items None some h = cc
      by_items (Some items) some h = placed_in (longest_of items) found h

  pub placed_none : items_of area ≡ None → IsPlaced block (longest_in area) None
  placed_none none = subst (λ (o : Option (List Item)). IsPlaced block (option_and_then longest_of o) None) (sym none) tt

  pub place_inside : (o : Option Item) (found : Option ℕ) → IsPlaced block o found → IfSome found (λ at. at + 8 ≤ length block)
  place_inside None None h = tt
  place_inside None (Some at) h = absurd h
  place_inside (Some item) None h = tt
  place_inside (Some item) (Some at) h = omega (arith, h.goes_on.0, length-drop at block)

  -- the same of the small data as it was cut out of the block
  pub some_list : (items : List Item) → items_of (take (length block - 232) (drop 232 block)) ≡ Some items → IsSome (items_of area)
  some_list items is = subst IsSome (sym (sym (ap items_of (area_is block block refl)) ∙ is)) refl

  pub at_area : (found : Option ℕ) → IfSome (items_of (take (length block - 232) (drop 232 block))) (λ items. IsLongestAt (take (length block - 232) (drop 232 block)) (longest_of items) found) → IfSome (items_of area) (λ items. IsLongestAt area (longest_of items) found)
  at_area found h = subst (λ (l : List ℕ). IfSome (items_of l) (λ items. IsLongestAt l (longest_of items) found)) (area_is block block refl) h

-- the item that the bytes from a place on begin with
module _ (block other : List ℕ) (at : ℕ) (same : other ≡ block) where
  abbrev pub part : List ℕ
  part = take (length other - at) (drop at other)

  part_is : part ≡ drop at block
  part_is = take_all (length other - at) (drop at other) (omega (arith, length-drop at other)) ∙ ap (drop at) same

  begun_in : (o : Option Item) → IsPlaced block o (Some at) → (item : Item) × (o ≡ Some item) × Begins part item
  begun_in None h = absurd h
  begun_in (Some item) h = (item, refl, subst (λ (l : List ℕ). Begins l item) (sym part_is) h)

  pub begun : IsPlaced block (longest_in (drop 232 block)) (Some at) → (item : Item) × (longest_in (drop 232 block) ≡ Some item) × Begins part item
  begun = begun_in (longest_in (drop 232 block))

  -- it is the longest of a block with the same bytes
  pub is_here : (whole : List ℕ) (x : Item) → IsPlaced block (longest_in (drop 232 block)) (Some at) → block ≡ whole → longest_in (drop 232 whole) ≡ Some x → x ≡ item_in part
  is_here whole x h is first =
      let b = begun h in
      let one : Some b.0 ≡ Some x = sym b.1 ∙ ap (λ (l : List ℕ). longest_in (drop 232 l)) is ∙ first in
      let e : b.0 ≡ x = cc in
      sym e ∙ b.2.same

-- a block without a longest attribute has none
pub none_placed : (block : List ℕ) (o : Option Item) (x : Item) → IsPlaced block o None → o ≡ Some x → ⊥
none_placed block None x h e = let bad : None ≡ Some x = e in cc
none_placed block (Some y) x h e = h
