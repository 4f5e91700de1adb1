-- A block that an attribute directory has, or what one of its rows names, and what another row names.
use Rattle.std.proofs.Common.{◌≡◌, ◌≢◌, ◌≤◌, ◌+◌, ◌∙◌, inl, inr, ℕ, ℤ, pos, List, [], ◌∷◌, ◌++◌, map, Bool, true, false, Option, Some, refl, sym, ap, subst, arith}
use Rattle.std.specs.List.{AllByRecursion, flat_map}
use Rattle.bfs_base.specs.Lists.{times, Has}
use Rattle.bfs_base.specs.declared.kind.KeyKind.TheVariants.{Text}
use Rattle.bfs_node.specs.Page.{Row}
use Rattle.bfs_pages.specs.Ways.{KeysAscend}
use Rattle.bfs_super.specs.Conditions.{natural}
use Rattle.bfs_values.specs.Rows.{rows_in}
use Rattle.bfs_sound.specs.Volumes.{Volume}
use Rattle.bfs_sound.specs.Attributes.{attribute_directory}
use Rattle.bfs_sound.specs.Inodes.{id_of, is_proper, inode_blocks, content, rows_of}
use Rattle.bfs_sound.specs.Owners.{In}
use Rattle.bfs_finding.proofs.Rows.{all_in, tree_ascends, ascend_kept}
use Rattle.bfs_finding.specs.Ways.{Way, to_directory, to_attribute, IsReached, Arrives, IsShared}
use Rattle.bfs_claims.proofs.Claiming.{times_append}
use Rattle.bfs_node_check.specs.declared.role.Role.TheVariants as roles
use Rattle.bfs_inode_walk.specs.declared.fault.VisitFault.TheVariants.{Taken}
use Rattle.bfs_owner.specs.Owned.{IsPlaced, ArePlaced, blocks_at, blocks_of_places}
use Rattle.bfs_owner.specs.declared.place.Place.{Place}
use Rattle.bfs_names_walk.specs.Rows.{as_rows, AreNames}
use Rattle.bfs_names_walk.specs.declared.row.NameRow.{NameRow}
use Rattle.bfs_node_walk.specs.Listed.{proper, NamesBlock}
use Rattle.bfs_attr_walk.specs.Attributed.{row_blocks, places_in, IsTakenIn}
use Rattle.bfs_attr_walk.proofs.Differing.{proper_parts, before_differ, value_is}
use Rattle.bfs_attr_walk.proofs.Placing.{placed}

abbrev by_row : Way → Bool
by_row (to_attribute id name) = true
by_row _ = false

abbrev row_of : Way → List ℕ
row_of (to_attribute id name) = name
row_of _ = []

in_both : (r : Row) (xs ys : List Row) → In r xs → In r (xs ++ ys)
in_both r [] ys i = absurd i
in_both r (x ∷ xs) ys (inl e) = inl e
in_both r (x ∷ xs) ys (inr i) = inr (in_both r xs ys i)

at_middle : (r : Row) (xs ys : List Row) → In r (xs ++ (r ∷ ys))
at_middle r [] ys = inl refl
at_middle r (x ∷ xs) ys = inr (at_middle r xs ys)

-- the row that a place is of
pub row_placed : (p : Place) (rs : List Row) → In p (map (placed roles.Attribute) rs) → (r : Row) × In r rs × (p ≡ placed roles.Attribute r)
row_placed p [] i = absurd i
row_placed p (r ∷ rs) (inl e) = (r, inl refl, e)
row_placed p (r ∷ rs) (inr i) = let h = row_placed p rs i in (h.0, inr h.1, h.2)

module _ (v : Volume) where
  of_rows : (rs : List Row) → flat_map (blocks_at v) (map (placed roles.Attribute) rs) ≡ flat_map (inode_blocks v) (map id_of rs)
  of_rows [] = refl
  of_rows (r ∷ rs) = ap (λ (l : List ℕ). inode_blocks v (id_of r) ++ l) (of_rows rs)

  -- the blocks of the places are those of the directory and of what the rows name
  pub blocks_placed : (d : ℕ) (rows : List NameRow) → blocks_of_places v (places_in d rows) ≡ inode_blocks v d ++ row_blocks v rows
  blocks_placed d rows = ap (λ (l : List ℕ). inode_blocks v d ++ l) (of_rows (proper (as_rows rows)))

  -- a block that is taken, which neither the directory nor one of the rows before has
  pub taken_before : (xs : List ℕ) (d : ℕ) (rows : List NameRow) (row : NameRow) (block owner : ℕ) → IsTakenIn v ((xs ++ inode_blocks v d) ++ row_blocks v rows) row (Taken block owner) → times block (blocks_of_places v (places_in d rows)) ≡ 0 → IsTakenIn v xs row (Taken block owner)
  taken_before xs d rows row block owner t none =
      let one : times block ((xs ++ inode_blocks v d) ++ row_blocks v rows) ≡ times block (xs ++ inode_blocks v d) + times block (row_blocks v rows) = times_append block (xs ++ inode_blocks v d) (row_blocks v rows) in
      let two : times block (xs ++ inode_blocks v d) ≡ times block xs + times block (inode_blocks v d) = times_append block xs (inode_blocks v d) in
      let three : times block (inode_blocks v d ++ row_blocks v rows) ≡ times block (inode_blocks v d) + times block (row_blocks v rows) = times_append block (inode_blocks v d) (row_blocks v rows) in
      let zero : times block (inode_blocks v d ++ row_blocks v rows) ≡ 0 = sym (ap (times block) (blocks_placed d rows)) ∙ none in
      let there : 1 ≤ times block ((xs ++ inode_blocks v d) ++ row_blocks v rows) = t.3 in
      (t.0, t.1, t.2, omega (arith, one, two, three, zero, there))

  module _ (id d : ℕ) (reached : IsReached v id) (is : attribute_directory v id ≡ Some d) where
    all_placed : (rs : List Row) → ((r : Row) → In r rs → (r.1 ≡ pos (id_of r)) × In r (rows_of v (attribute_directory v id))) → AllByRecursion (IsPlaced v) (map (placed roles.Attribute) rs)
    all_placed [] f = tt
    all_placed (r ∷ rs) f =
        let p = f r (inl refl) in
        ((to_attribute id r.0, refl, (reached, subst (λ (z : ℤ). In (r.0, z) (rows_of v (attribute_directory v id))) p.0 p.1)), all_placed rs (λ x i. f x (inr i)))

    -- ways lead to the directory and to what rows of it name
    pub are_placed : (rows : List NameRow) → ((r : Row) → In r (proper (as_rows rows)) → (r.1 ≡ pos (id_of r)) × In r (rows_of v (attribute_directory v id))) → ArePlaced v (places_in d rows)
    are_placed rows f = ((to_directory id, refl, (reached, is)), all_placed (proper (as_rows rows)) f)

    module _ (rows : List NameRow) (row : NameRow) (back : List NameRow) (names : AreNames (content v d) (rows ++ (row ∷ back))) (inside : AllByRecursion (NamesBlock v.geometry.blocks) (proper (as_rows (rows ++ (row ∷ back))))) (p : is_proper row.name ≡ true) where
      abbrev this : Way
      this = to_attribute id row.name

      abbrev all : List Row
      all = proper (as_rows (rows ++ (row ∷ back)))

      split : all ≡ proper (as_rows rows) ++ ((row.name, row.value) ∷ proper (as_rows back))
      split = proper_parts rows row back p

      at_id : (r : Row) → In r all → In r (rows_of v (attribute_directory v id))
      at_id r i = subst (λ (o : Option ℕ). In r (rows_of v o)) (sym is) (subst (λ (l : List Row). In r (proper l)) names.are i)

      there : In (row.name, row.value) all
      there = subst (λ (l : List Row). In (row.name, row.value) l) (sym split) (at_middle (row.name, row.value) (proper (as_rows rows)) (proper (as_rows back)))

      ascend : KeysAscend Text (proper (as_rows rows) ++ ((row.name, row.value) ∷ proper (as_rows back)))
      ascend = subst (KeysAscend Text) (sym (ap proper names.are) ∙ split) (ascend_kept Text (λ (r : Row). is_proper r.0) (rows_in Text (content v d)) (tree_ascends Text (content v d) names.tree))

      pub before_there : (r : Row) → In r (proper (as_rows rows)) → (r.1 ≡ pos (id_of r)) × In r (rows_of v (attribute_directory v id))
      before_there r i =
          let j : In r all = subst (λ (l : List Row). In r l) (sym split) (in_both r (proper (as_rows rows)) ((row.name, row.value) ∷ proper (as_rows back)) i) in
          (value_is v.geometry.blocks r (all_in (NamesBlock v.geometry.blocks) all r inside j), at_id r j)

      arrives : Arrives v this (natural row.value)
      arrives = (reached, subst (λ (z : ℤ). In (row.name, z) (rows_of v (attribute_directory v id))) (value_is v.geometry.blocks (row.name, row.value) (all_in (NamesBlock v.geometry.blocks) all (row.name, row.value) inside there)) (at_id (row.name, row.value) there))

      directory_other : to_directory id ≢ this
      directory_other e = let bad : false ≡ true = ap by_row e in cc

      row_other : (r : Row) → In r (proper (as_rows rows)) → to_attribute id r.0 ≢ this
      row_other r i e = before_differ (proper (as_rows rows)) (row.name, row.value) (proper (as_rows back)) ascend r i (ap row_of e)

      module _ (block : ℕ) (here : Has (inode_blocks v (natural row.value)) block) where
        by_place : (q : Place) → In q (places_in d rows) → Has (blocks_at v q) block → IsShared v block q.id (natural row.value)
        by_place q (inl e) h =
            subst (λ (x : Place). Has (blocks_at v x) block → IsShared v block x.id (natural row.value)) (sym e)
            (λ g. record { one = to_directory id; other = this; there = (reached, is); here = arrives; twice = inl (directory_other, g, here) }) h
        by_place q (inr i) h =
            let m = row_placed q (proper (as_rows rows)) i in
            let t = before_there m.0 m.1 in
            subst (λ (x : Place). Has (blocks_at v x) block → IsShared v block x.id (natural row.value)) (sym m.2)
            (λ g. record { one = to_attribute id m.0.0; other = this; there = (reached, subst (λ (z : ℤ). In (m.0.0, z) (rows_of v (attribute_directory v id))) t.0 t.1); here = arrives; twice = inl (row_other m.0 m.1, g, here) }) h

      -- one of the places has the block of the row's inode too
      pub shared_before : (before : List ℕ) (block owner : ℕ) (q : Place) → IsTakenIn v before row (Taken block owner) → In q (places_in d rows) → Has (blocks_at v q) block → IsShared v block q.id owner
      shared_before before block owner q t i h =
          subst (λ (k : ℕ). IsShared v block q.id k) (sym t.1) (by_place block (subst (λ (k : ℕ). Has (inode_blocks v k) block) t.1 t.2) q i h)
