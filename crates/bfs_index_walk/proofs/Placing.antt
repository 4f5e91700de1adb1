-- The index directory and indices as places, and the blocks they have.
use Rattle.std.proofs.Common.{◌≡◌, ◌≤◌, ◌<◌, ◌+◌, ◌∙◌, inl, inr, ℕ, List, [], ◌∷◌, ◌++◌, length, take, get_or, map, sym, ap, subst, refl, append_assoc}
use Rattle.std.specs.List.{AllByRecursion, flat_map}
use Rattle.std.proofs.lemmas.List.{take_more, take_all, map-append}
use Rattle.bfs_node.specs.Page.{Row}
use Rattle.bfs_sound.specs.Volumes.{Volume}
use Rattle.bfs_sound.specs.Inodes.{id_of, inode_blocks}
use Rattle.bfs_sound.specs.Owners.{In}
use Rattle.bfs_owner.specs.Owned as owned
use Rattle.bfs_owner.specs.declared.place.Place.{Place}
use Rattle.bfs_names_walk.specs.Rows.{as_rows}
use Rattle.bfs_names_walk.specs.declared.row.NameRow.{NameRow}
use Rattle.bfs_node_walk.specs.Listed.{proper}
use Rattle.bfs_attrs_walk.specs.Attributed.{row_blocks}
use Rattle.bfs_index_walk.specs.declared.found.FoundIndex.{FoundIndex}
use Rattle.bfs_index_walk.specs.Indices.{AreInside, place_at, places_by_rows, places_of_found}

-- where an inode is a block of the volume, so is its place
pub first_inside : (blocks d : ℕ) (places : List Place) → places ≡ [] ++ (place_at d ∷ []) → d < blocks → owned.AreInside blocks places
first_inside blocks d places is below = subst (owned.AreInside blocks) (sym is) (below, tt)

found_inside : (blocks : ℕ) (found : List FoundIndex) → AreInside blocks found → owned.AreInside blocks (map (λ (i : FoundIndex). place_at i.id) found)
found_inside blocks [] all = tt
found_inside blocks (i ∷ is) all = (all.0.0, found_inside blocks is all.1)

pub places_inside : (blocks d : ℕ) (found : List FoundIndex) (places : List Place) → places ≡ places_of_found d found → d < blocks → AreInside blocks found → owned.AreInside blocks places
places_inside blocks d found places is below all = subst (owned.AreInside blocks) (sym is) (below, found_inside blocks found all)

module _ (found : List FoundIndex) (places : List Place) where
  -- one index more is behind the places
  pub pushed_next : (i : ℕ) (x : FoundIndex) (now next : List Place) → i < length found → x ≡ get_or found i x → now ≡ places ++ map (λ (y : FoundIndex). place_at y.id) (take i found)
      → next ≡ now ++ (place_at x.id ∷ []) → next ≡ places ++ map (λ (y : FoundIndex). place_at y.id) (take (i + 1) found)
  pushed_next i x now next inside item before is =
      is ∙ ap (λ (l : List Place). l ++ (place_at x.id ∷ [])) before
      ∙ append_assoc places (map (λ (y : FoundIndex). place_at y.id) (take i found)) (place_at x.id ∷ [])
      ∙ ap (λ (l : List Place). places ++ l) (sym (map-append (λ (y : FoundIndex). place_at y.id) (take i found) (x ∷ [])))
      ∙ ap (λ (l : List FoundIndex). places ++ map (λ (y : FoundIndex). place_at y.id) l) (sym (take_more found i x inside ∙ ap (λ (y : FoundIndex). take i found ++ (y ∷ [])) (sym item)))

  pub pushed_all : (i : ℕ) (now : List Place) → length found ≤ i → now ≡ places ++ map (λ (y : FoundIndex). place_at y.id) (take i found) → now ≡ places ++ map (λ (y : FoundIndex). place_at y.id) found
  pushed_all i now past is = is ∙ ap (λ (l : List FoundIndex). places ++ map (λ (y : FoundIndex). place_at y.id) l) (take_all i found past)

-- a member of places by numbers
module _ {A : Type 0} (f : A → ℕ) where
  pub at_member : (xs : List A) (p : Place) → In p (map (λ (x : A). place_at (f x)) xs) → (x : A) × In x xs × (p ≡ place_at (f x))
  at_member [] p i = absurd i
  at_member (x ∷ xs) p (inl e) = (x, inl refl, e)
  at_member (x ∷ xs) p (inr i) = let r = at_member xs p i in (r.0, inr r.1, r.2)

  pub all_placed : (P : Place → Type 0) (xs : List A) → ((x : A) → In x xs → P (place_at (f x))) → AllByRecursion P (map (λ (x : A). place_at (f x)) xs)
  all_placed P [] h = tt
  all_placed P (x ∷ xs) h = (h x (inl refl), all_placed P xs (λ y i. h y (inr i)))

module _ (v : Volume) where
  blocks_by_rows : (rs : List Row) → owned.blocks_of_places v (map (λ (r : Row). place_at (id_of r)) rs) ≡ flat_map (inode_blocks v) (map id_of rs)
  blocks_by_rows [] = refl
  blocks_by_rows (r ∷ rs) = ap (λ (l : List ℕ). inode_blocks v (id_of r) ++ l) (blocks_by_rows rs)

  row_places_blocks : (d : ℕ) (rows : List NameRow) → owned.blocks_of_places v (places_by_rows d rows) ≡ inode_blocks v d ++ row_blocks v rows
  row_places_blocks d rows = ap (λ (l : List ℕ). inode_blocks v d ++ l) (blocks_by_rows (proper (as_rows rows)))

  pub behind_rows : (xs : List ℕ) (d : ℕ) (rows : List NameRow) → (xs ++ inode_blocks v d) ++ row_blocks v rows ≡ xs ++ owned.blocks_of_places v (places_by_rows d rows)
  behind_rows xs d rows = append_assoc xs (inode_blocks v d) (row_blocks v rows) ∙ ap (λ (l : List ℕ). xs ++ l) (sym (row_places_blocks d rows))

  blocks_of_found : (found : List FoundIndex) → owned.blocks_of_places v (map (λ (i : FoundIndex). place_at i.id) found) ≡ flat_map (inode_blocks v) (map (λ (i : FoundIndex). i.id) found)
  blocks_of_found [] = refl
  blocks_of_found (i ∷ is) = ap (λ (l : List ℕ). inode_blocks v i.id ++ l) (blocks_of_found is)

  pub found_places_blocks : (d : ℕ) (found : List FoundIndex) → owned.blocks_of_places v (places_of_found d found) ≡ inode_blocks v d ++ flat_map (inode_blocks v) (map (λ (i : FoundIndex). i.id) found)
  found_places_blocks d found = ap (λ (l : List ℕ). inode_blocks v d ++ l) (blocks_of_found found)
