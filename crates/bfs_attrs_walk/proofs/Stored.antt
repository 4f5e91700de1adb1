-- An attribute directory and the inodes that its rows name: which of them has a block.
use Rattle.std.proofs.Common.{◌≡◌, ◌∙◌, inl, inr, ℕ, ℤ, pos, List, ◌++◌, map, Option, Some, None, refl, sym, ap, subst}
use Rattle.std.specs.List.{AllByRecursion, flat_map}
use Rattle.bfs_base.specs.Lists.{times, Has}
use Rattle.bfs_node.specs.Page.{Row}
use Rattle.bfs_stream.specs.Places.{HasStream}
use Rattle.bfs_sound.specs.Volumes.{Volume, sizes}
use Rattle.bfs_sound.specs.Attributes.{attribute_directory, attribute_inodes, HasDirectory}
use Rattle.bfs_sound.specs.Inodes.{id_of, inode_blocks, content, rows_of}
use Rattle.bfs_sound.specs.Owners.{In}
use Rattle.bfs_finding.proofs.Rows.{all_in}
use Rattle.bfs_finding.specs.Ways.{to_directory, to_attribute, IsReached}
use Rattle.bfs_owner.specs.Owned.{ArePlaced, blocks_at, blocks_of_places}
use Rattle.bfs_owner.specs.declared.place.Place.{Place}
use Rattle.bfs_names_walk.specs.Rows.{as_rows, AreNames}
use Rattle.bfs_names_walk.specs.declared.row.NameRow.{NameRow}
use Rattle.bfs_node_walk.specs.Listed.{proper, NamesBlock}
use Rattle.bfs_attr_walk.specs.Attributed.{places_in}
use Rattle.bfs_attr_walk.proofs.Differing.{value_is}
use Rattle.bfs_attr_walk.proofs.Owning.{row_placed, blocks_placed, are_placed}
use Rattle.bfs_attrs_walk.specs.Passes.{attribute_blocks, IsWayFrom, IsOwnerBy}

module _ (v : Volume) (id d : ℕ) (rows : List NameRow) (reached : IsReached v id) (is : attribute_directory v id ≡ Some d) (names : AreNames (content v d) rows) (inside : AllByRecursion (NamesBlock v.geometry.blocks) (proper (as_rows rows))) where
  there : (r : Row) → In r (proper (as_rows rows)) → (r.1 ≡ pos (id_of r)) × In r (rows_of v (attribute_directory v id))
  there r i = (
    value_is v.geometry.blocks r (all_in (NamesBlock v.geometry.blocks) (proper (as_rows rows)) r inside i),
    subst (λ (o : Option ℕ). In r (rows_of v o)) (sym is) (subst (λ (l : List Row). In r (proper l)) names.are i),
  )

  pub all_placed : ArePlaced v (places_in d rows)
  all_placed = are_placed v id d reached is rows there

  pub stored_owner : (block : ℕ) (p : Place) → In p (places_in d rows) → Has (blocks_at v p) block → IsOwnerBy (IsWayFrom id) v block p.id
  stored_owner block p (inl e) h =
      subst (λ (x : Place). Has (blocks_at v x) block → IsOwnerBy (IsWayFrom id) v block x.id) (sym e)
      (λ g. (to_directory id, refl, (reached, is), g)) h
  stored_owner block p (inr i) h =
      let m = row_placed p (proper (as_rows rows)) i in
      let t = there m.0 m.1 in
      subst (λ (x : Place). Has (blocks_at v x) block → IsOwnerBy (IsWayFrom id) v block x.id) (sym m.2)
      (λ g. (to_attribute id m.0.0, refl, (reached, subst (λ (z : ℤ). In (m.0.0, z) (rows_of v (attribute_directory v id))) t.0 t.1), g)) h

  pub none_stored : (block : ℕ) → times block (blocks_of_places v (places_in d rows)) ≡ 0 → times block (attribute_blocks v id) ≡ 0
  none_stored block none =
      ap (λ (o : Option ℕ). times block (flat_map (inode_blocks v) (attribute_inodes v o))) is
      ∙ ap (λ (l : List Row). times block (inode_blocks v d ++ flat_map (inode_blocks v) (map id_of (proper l)))) (sym names.are)
      ∙ sym (ap (times block) (blocks_placed v d rows))
      ∙ none

-- where there is no directory, no attribute has a block
pub none_without : (v : Volume) (id block : ℕ) → attribute_directory v id ≡ None → times block (attribute_blocks v id) ≡ 0
none_without v id block is = ap (λ (o : Option ℕ). times block (flat_map (inode_blocks v) (attribute_inodes v o))) is

-- the directory's stream keeps its format
pub directory_stream : (v : Volume) (id d : ℕ) → attribute_directory v id ≡ Some d → HasDirectory v id (attribute_directory v id) → HasStream (sizes v.geometry) v.blocks d
directory_stream v id d is has = (of_some (subst (HasDirectory v id) is has)).owner.stream
  where
    of_some : HasDirectory v id (Some d) → HasDirectory v id (Some d)
    of_some h = h
