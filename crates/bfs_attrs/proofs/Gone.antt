-- An attribute that was taken out of its attribute directory, which has another one since, or is none.
use Rattle.std.proofs.Common.{◌≡◌, inl, inr, ◌≤◌, ◌<◌, ◌+◌, ◌∙◌, ℕ, List, [], ◌∷◌, ◌++◌, length, Bool, true, false, cond, Option, Some, None, refl, sym, ap, subst, arith, map, drop}
use Rattle.std.specs.Prelude.{IsSome, unwrap_or}
use Rattle.std.specs.FinMap.{find, get, remove, from_entries}
use Rattle.std.specs.List.{flat_map}
use Rattle.bfs_base.specs.Keys.{text_cmp}
use Rattle.bfs_base.specs.Lists.{times}
use Rattle.bfs_bitmap.specs.Runs.{Room}
use Rattle.bfs_bytes.specs.Fields.{run_in}
use Rattle.bfs_node.specs.Page.{Row}
use Rattle.bfs_smalldata.specs.Items.{Item, items_of}
use Rattle.bfs_stream.specs.Places.{whole_at, arrays_at, places_at}
use Rattle.bfs_stream.specs.Sizes.{first_block}
use Rattle.bfs_stream.specs.Told.{contents}
use Rattle.bfs_stream.proofs.Doubles.{times-append}
use Rattle.bfs_stream.proofs.Frames.{has_first}
use Rattle.bfs_sound.specs.Volumes.{Volume, sizes}
use Rattle.bfs_sound.specs.Owners.{In}
use Rattle.bfs_sound.specs.Inodes.{proper_rows, id_of}
use Rattle.bfs_sound.specs.Nodes.{AreApart}
use Rattle.bfs_sound.specs.Attributes.{Named, is_zero, attributes_in, attributes_of, attribute_at, attribute_directory, attribute_inodes}
use Rattle.bfs_attr.specs.Bearers.{Bearer, volume_at, entries_with, entries_at, attributes_at, value_at}
use Rattle.bfs_attr.specs.Changed.{attribute_blocks, HasTaken}
use Rattle.bfs_attr_write.specs.Removal.{CanTake, HasRowTaken}
use Rattle.bfs_attrs.specs.Last.{HasLastTaken}
use Rattle.bfs_attrs.proofs.Others.{HasOther, of_two, some_since}

module _ (b : Bearer) (v now : Room) (m : ℕ → Option (List ℕ)) (d : ℕ) (name : List ℕ) (can : CanTake b v m d name) (several : length (proper_rows (volume_at b.geometry m) d) ≡ 1 → ⊥)
    (found : IsSome (value_at (attributes_of (volume_at b.geometry m) (Some d)) name)) (there : IsSome (get (attributes_at (volume_at b.geometry m) b.id) name)) (told : Option (ℕ → Option (List ℕ))) (old new : ℕ → Bool)
    (taken : HasRowTaken b v now m (remove (attributes_at (volume_at b.geometry m) b.id) name) told old new) where
  abbrev volume : Volume
  volume = volume_at b.geometry m

  abbrev map' : ℕ → Option (List ℕ)
  map' = taken.now_are.map

  abbrev since : Volume
  since = volume_at b.geometry map'

  abbrev front : List Named
  front = attributes_in can.holds.stands.items

  abbrev entry : Row → Named
  entry r = (r.0, attribute_at volume (id_of r))

  abbrev entry_since : Row → Named
  entry_since r = (r.0, attribute_at since (id_of r))

  same : contents map' b.id ≡ contents m b.id
  same = ap (λ (o : Option (List ℕ)). unwrap_or o []) taken.bearer

  still_there : attribute_directory since b.id ≡ Some d
  still_there = ap (λ (l : List ℕ). cond (is_zero (run_in l 52)) None (Some (first_block (sizes b.geometry) (run_in l 52)))) same ∙ can.there

  listed_before : entries_at volume b.id ≡ front ++ attributes_of volume (Some d)
  listed_before =
      ap (λ (o : Option (List Item)). entries_with volume b.id (unwrap_or o [])) can.holds.stands.area
      ∙ ap (λ (o : Option ℕ). front ++ attributes_of volume o) can.there

  listed_since : entries_at since b.id ≡ front ++ attributes_of since (Some d)
  listed_since =
      ap (λ (l : List ℕ). entries_with since b.id (unwrap_or (items_of (drop 232 l)) [])) same
      ∙ ap (λ (o : Option (List Item)). entries_with since b.id (unwrap_or o [])) can.holds.stands.area
      ∙ ap (λ (o : Option ℕ). front ++ attributes_of since o) still_there

  apart : AreApart (front ++ attributes_of volume (Some d))
  apart = subst (λ (o : Option ℕ). AreApart (front ++ attributes_of volume o)) can.there can.holds.stands.apart

  other : (rows : List Row) → proper_rows volume d ≡ rows → HasOther front name (attributes_of volume (Some d))
  other [] e =
      let bad : false ≡ true = subst (λ (l : List Row). IsSome (find text_cmp name (map {B = Named} entry l))) e found in
      absurd (let worse : false ≡ true = bad in cc)
  other (r ∷ []) e = absurd (several (ap length e))
  other (r ∷ (s ∷ rs)) e =
      subst (HasOther front name) (sym (ap (map {B = Named} entry) e))
      (of_two front name (entry r) (entry s) (map {B = Named} entry rs) (subst (λ (l : List Row). AreApart (front ++ map {B = Named} entry l)) e apart))

  maps : from_entries {R = text_cmp} (front ++ attributes_of since (Some d)) ≡ remove (from_entries {R = text_cmp} (front ++ attributes_of volume (Some d))) name
  maps =
      ap (from_entries {R = text_cmp}) (sym listed_since)
      ∙ taken.now_are.attributes_are
      ∙ ap (λ (l : List Named). remove (from_entries {R = text_cmp} l) name) listed_before

  -- no attribute's inode is the directory's
  no_own : (r : Row) (rs : List Row) → proper_rows since d ≡ r ∷ rs → id_of r ≡ d → ⊥
  no_own r rs e own =
      let whole : ℕ → List ℕ = whole_at (sizes b.geometry) (contents map') in
      let more : List ℕ = flat_map whole (map id_of rs) in
      let ids : attribute_inodes since (attribute_directory since b.id) ≡ d ∷ (id_of r ∷ map id_of rs) = ap (attribute_inodes since) still_there ∙ ap (λ (l : List Row). d ∷ map id_of l) e in
      let blocks : attribute_blocks b.geometry map' b.id ≡ b.id ∷ (whole d ++ (whole (id_of r) ++ more)) = ap (λ (l : List ℕ). b.id ∷ flat_map whole l) ids in
      let few : times d (b.id ∷ (whole d ++ (whole (id_of r) ++ more))) ≤ 1 = subst (λ (l : List ℕ). times d l ≤ 1) blocks (taken.now_are.holds.once d) in
      let a : times d (b.id ∷ (whole d ++ (whole (id_of r) ++ more))) ≡ times d (b.id ∷ []) + times d (whole d ++ (whole (id_of r) ++ more)) = times-append d (b.id ∷ []) (whole d ++ (whole (id_of r) ++ more)) in
      let p = times-append d (whole d) (whole (id_of r) ++ more) in
      let q = times-append d (whole (id_of r)) more in
      let one : 0 < times d (whole d) = has_first d (arrays_at (sizes b.geometry) (contents map') d ++ places_at (sizes b.geometry) (contents map') d) in
      let mine : 0 < times (id_of r) (whole (id_of r)) = has_first (id_of r) (arrays_at (sizes b.geometry) (contents map') (id_of r) ++ places_at (sizes b.geometry) (contents map') (id_of r)) in
      let two : 0 < times d (whole (id_of r)) = subst (λ (k : ℕ). 0 < times k (whole (id_of r))) own mine in
      omega (arith, few, a, p, q, one, two)

  left : (rows : List Row) → proper_rows since d ≡ rows → (k : ℕ) × (In k (attribute_inodes since (Some d)) × (k ≡ d → ⊥))
  left [] e = absurd (some_since front name (attributes_of volume (Some d)) (attributes_of since (Some d)) (other (proper_rows volume d) refl) maps (ap (map {B = Named} entry_since) e))
  left (r ∷ rs) e = (id_of r, (subst (λ (l : List Row). In (id_of r) (d ∷ map id_of l)) (sym e) (inr (inl refl)), no_own r rs e))

  pub row_gone : HasTaken b v now m name told old new
  row_gone = record {
    now_are = taken.now_are;
    there = there;
    some = λ beyond d' e.
        let here : d ≡ d' = (let s : Some d ≡ Some d' = sym still_there ∙ e in cc) in
        subst (λ (x : ℕ). (k : ℕ) × (In k (attribute_inodes since (Some x)) × (k ≡ x → ⊥))) here (left (proper_rows since d) refl);
  }

-- and where it went with the directory
pub last_left : (b : Bearer) (v now : Room) (m : ℕ → Option (List ℕ)) (name : List ℕ) (told : Option (ℕ → Option (List ℕ))) (old new : ℕ → Bool) → IsSome (get (attributes_at (volume_at b.geometry m) b.id) name)
    → HasLastTaken b v now m (remove (attributes_at (volume_at b.geometry m) b.id) name) told old new → HasTaken b v now m name told old new
last_left b v now m name told old new there last = record {
  now_are = last.now_are;
  there = there;
  some = λ beyond d' e. absurd (let bad : None ≡ Some d' = sym last.missing ∙ e in cc);
}
