-- Which of the index directory and the indices that were found has a block.
use Rattle.std.proofs.Common.{◌≡◌, ◌∙◌, inl, inr, ℕ, List, [], ◌∷◌, ◌++◌, map, Some, Option, refl, sym, ap, subst}
use Rattle.std.specs.List.{flat_map}
use Rattle.bfs_base.specs.Lists.{times, Has}
use Rattle.bfs_node.specs.Page.{Row}
use Rattle.bfs_sound.specs.Volumes.{Volume}
use Rattle.bfs_sound.specs.Inodes.{id_of, inode_blocks, inodes_of, rows_of, proper_rows, index_directory}
use Rattle.bfs_sound.specs.Listings.{index_rows}
use Rattle.bfs_sound.specs.Owners.{In, index_blocks}
use Rattle.bfs_finding.specs.Ways.{to_indices, to_index, Arrives}
use Rattle.bfs_owner.specs.Owned.{IsPlaced, ArePlaced, IsFound, blocks_at, blocks_of_places}
use Rattle.bfs_owner.specs.declared.place.Place.{Place}
use Rattle.bfs_index_walk.specs.declared.found.FoundIndex.{FoundIndex}
use Rattle.bfs_index_walk.specs.Indices.{as_row, AreFound, IsIndexOwner, places_of_found}
use Rattle.bfs_index_walk.proofs.Placing.{at_member, all_placed, found_places_blocks}

row_in : (found : List FoundIndex) (i : FoundIndex) → In i found → In (as_row i) (map as_row found)
row_in [] i j = absurd j
row_in (x ∷ xs) i (inl e) = inl (ap as_row e)
row_in (x ∷ xs) i (inr j) = inr (row_in xs i j)

numbers : (found : List FoundIndex) → map id_of (map as_row found) ≡ map (λ (i : FoundIndex). i.id) found
numbers [] = refl
numbers (i ∷ is) = ap (λ (l : List ℕ). i.id ∷ l) (numbers is)

-- without an index directory no index has a block
pub none_owner : (v : Volume) (block : ℕ) → index_blocks v ≡ [] → times block (index_blocks v) ≡ 0
none_owner v block none = ap (times block) none

module _ (v : Volume) (d : ℕ) (is : index_directory v ≡ Some d) (found : List FoundIndex) (are : AreFound v (index_rows v) found) where
  leads : (i : FoundIndex) → In i found → Arrives v (to_index i.name) i.id
  leads i j = subst (λ (l : List Row). In (as_row i) l) are.are (row_in found i j)

  pub found_placed : ArePlaced v (places_of_found d found)
  found_placed = ((to_indices, refl, is), all_placed (λ (i : FoundIndex). i.id) (IsPlaced v) found (λ i j. (to_index i.name, refl, leads i j)))

  pub owner_found : (block : ℕ) (place : Place) → IsFound v (places_of_found d found) block (Some place) → IsIndexOwner v block (Some place.id)
  owner_found block place (inl e, h) = subst (λ (q : Place). Has (blocks_at v q) block → IsIndexOwner v block (Some q.id)) (sym e) (λ k. (to_indices, tt, is, k)) h
  owner_found block place (inr j, h) =
      let r = at_member (λ (i : FoundIndex). i.id) found place j in
      subst (λ (q : Place). Has (blocks_at v q) block → IsIndexOwner v block (Some q.id)) (sym r.2) (λ k. (to_index r.0.name, tt, leads r.0 r.1, k)) h

  all_blocks : index_blocks v ≡ blocks_of_places v (places_of_found d found)
  unfolding index_blocks
  all_blocks =
      let rows : proper_rows v d ≡ map as_row found = sym (ap (rows_of v) is) ∙ sym are.are in
      ap (λ (o : Option ℕ). flat_map (inode_blocks v) (inodes_of v o)) is
      ∙ ap (λ (l : List Row). inode_blocks v d ++ flat_map (inode_blocks v) (map id_of l)) rows
      ∙ ap (λ (l : List ℕ). inode_blocks v d ++ flat_map (inode_blocks v) l) (numbers found)
      ∙ sym (found_places_blocks v d found)

  pub none_has : (block : ℕ) → times block (blocks_of_places v (places_of_found d found)) ≡ 0 → times block (index_blocks v) ≡ 0
  none_has block none = ap (times block) all_blocks ∙ none
