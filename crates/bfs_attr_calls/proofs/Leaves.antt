-- The inodes that are given up with an attribute are those of the attribute directory's rows.
use Rattle.std.proofs.Common.{◌≡◌, inl, inr, ℕ, suc, ℤ, List, [], ◌∷◌, length, map, refl, sym, ap, ◌∙◌, subst, arith, Bool, true, false, cond, Option, Some, None}
use Rattle.std.specs.Prelude.{◌==◌, IsSome}
use Rattle.std.specs.Option.{option_map}
use Rattle.std.specs.Str.{bytes_eq}
use Rattle.std.proofs.lemmas.Map.Text.{is_eq-slice_cmp}
use Rattle.bfs_base.specs.declared.kind.KeyKind.TheVariants.{Text}
use Rattle.bfs_super.specs.Conditions.{IsValid, natural}
use Rattle.bfs_super.specs.Geometry.{geometry_of}
use Rattle.bfs_super.specs.declared.geometry.Geometry.{Geometry}
use Rattle.bfs_super.specs.declared.sup.Super.{Super}
use Rattle.bfs_bitmap.specs.Runs.{Room}
use Rattle.bfs_node.specs.Page.{Row}
use Rattle.bfs_pages.specs.Maps.{assoc}
use Rattle.bfs_pages.specs.Order.{same_keys}
use Rattle.bfs_stream.specs.Places.{HasStream, arrays_at}
use Rattle.bfs_stream.specs.Told.{contents}
use Rattle.bfs_stream.proofs.Frames.{has_first}
use Rattle.bfs_tree.specs.Trees.{Node, Tree, IsNode}
use Rattle.bfs_maps.specs.Mapped.{HasReadable}
use Rattle.bfs_sound.specs.Attributes.{attribute_directory, attribute_inodes}
use Rattle.bfs_sound.specs.Inodes.{id_of, rows_of, inodes_of}
use Rattle.bfs_sound.specs.Need.{left_with}
use Rattle.bfs_sound.specs.Owners.{In}
use Rattle.bfs_sound.specs.Volumes.{Volume, sizes}
use Rattle.bfs_shift.specs.Lists.{Lists}
use Rattle.bfs_shift.specs.Shifts.{volume_in}
use Rattle.bfs_shift.specs.Work.{IsAtWork}
use Rattle.bfs_attr.specs.Bearers.{origin}
use Rattle.bfs_attr.specs.declared.directory.InodeRow.{InodeRow}
use Rattle.bfs_query.proofs.Bearing.{can_read}
use Rattle.bfs_unmake.specs.Allowances.{inodes_left}
use Rattle.bfs_unmake.specs.Counted.{HaveStreams}
use Rattle.bfs_unmake.proofs.Streams.{all_from}
use Rattle.bfs_attr_calls.specs.Left.{inode_named, left_by}

-- two are not one
not_one : (n : ℕ) → (suc (suc n) == 1) ≡ false
not_one n = by_test (suc (suc n) == 1) refl
  where
    by_test : (t : Bool) → (suc (suc n) == 1) ≡ t → t ≡ false
    by_test true e = let z : suc (suc n) ≡ 1 = grind (arith, e) in absurd (omega (arith, z))
    by_test false e = refl

abbrev named_row : Row → InodeRow
named_row row = record { name = row.0; id = id_of row }

module _ (name : List ℕ) where
  -- the inode that a row names is the number that the map has
  named_is : (rows : List Row) → inode_named (map named_row rows) name ≡ option_map natural (assoc Text rows name)
  named_is [] = refl
  named_is (r ∷ rs) = by_tests (bytes_eq name r.0) (same_keys Text name r.0) (sym (is_eq-slice_cmp name r.0)) (named_is rs)
    where
      by_tests : (t u : Bool) → t ≡ u → inode_named (map named_row rs) name ≡ option_map natural (assoc Text rs name)
          → cond t (Some (id_of r)) (inode_named (map named_row rs) name) ≡ option_map natural (cond u (Some r.1) (assoc Text rs name))
      by_tests true true e rest = refl
      by_tests true false e rest = absurd cc
      by_tests false true e rest = absurd cc
      by_tests false false e rest = rest

  -- the only row of this name has the number
  only : (r : Row) (value : ℤ) → assoc Text (r ∷ []) name ≡ Some value → r.1 ≡ value
  only r value is = by_test (same_keys Text name r.0) is
    where
      by_test : (t : Bool) → cond t (Some r.1) None ≡ Some value → r.1 ≡ value
      by_test true e = let same : r.1 ≡ value = cc in same
      by_test false e = absurd (let bad : None ≡ Some value = e in cc)

  -- what is given up, by the rows
  abbrev given : ℕ → List Row → Option ℤ → List ℕ
  given d rows None = []
  given d rows (Some value) = cond (length rows == 1) (d ∷ map id_of rows) (natural value ∷ [])

  given_by : (d : ℕ) (rows : List Row) (o : Option ℤ) → assoc Text rows name ≡ o → left_by d (map named_row rows) (option_map natural o) ≡ given d rows o
  given_by d rows None is = refl
  given_by d [] (Some value) is = absurd (let bad : None ≡ Some value = is in cc)
  given_by d (r ∷ []) (Some value) is = ap (λ (x : ℤ). d ∷ natural x ∷ []) (sym (only r value is))
  given_by d (r ∷ q ∷ rs) (Some value) is =
      ap (λ (t : Bool). cond t (d ∷ natural value ∷ []) (natural value ∷ [])) (not_one (length (map named_row rs)))
      ∙ sym (ap (λ (t : Bool). cond t (d ∷ id_of r ∷ id_of q ∷ map id_of rs) (natural value ∷ [])) (not_one (length rs)))

  pub given_is : (v : Volume) (d : ℕ) (named : List InodeRow) → named ≡ map named_row (rows_of v (Some d)) → left_by d named (inode_named named name) ≡ left_with v (Some d) (assoc Text (rows_of v (Some d)) name)
  given_is v d named are =
      let rows : List Row = rows_of v (Some d) in
      ap (λ (l : List InodeRow). left_by d l (inode_named l name)) are
      ∙ ap (left_by d (map named_row rows)) (named_is rows)
      ∙ given_by d rows (assoc Text rows name) refl
      ∙ by_found (assoc Text rows name)
    where
      by_found : (o : Option ℤ) → given d (rows_of v (Some d)) o ≡ left_with v (Some d) o
      by_found None = refl
      by_found (Some value) = refl

  -- it is among the inodes of the directory and of the attributes
  row_there : (rows : List Row) (value : ℤ) → assoc Text rows name ≡ Some value → In (natural value) (map id_of rows)
  row_there [] value is = absurd (let bad : None ≡ Some value = is in cc)
  row_there (r ∷ rs) value is = by_test (same_keys Text name r.0) is (row_there rs value)
    where
      by_test : (t : Bool) → cond t (Some r.1) (assoc Text rs name) ≡ Some value → (assoc Text rs name ≡ Some value → In (natural value) (map id_of rs)) → In (natural value) (map id_of (r ∷ rs))
      by_test true e rest = inl (let same : r.1 ≡ value = cc in ap natural (sym same))
      by_test false e rest = inr (rest e)

  among : (v : Volume) (o : Option ℕ) (value : Option ℤ) → assoc Text (rows_of v o) name ≡ value → (j : ℕ) → In j (left_with v o value) → In j (inodes_of v o)
  among v o None is j i = absurd i
  among v None (Some value) is j i = absurd (let bad : None ≡ Some value = is in cc)
  among v (Some d) (Some value) is j i = by_test (length (rows_of v (Some d)) == 1) i
    where
      by_test : (t : Bool) → In j (cond t (inodes_of v (Some d)) (natural value ∷ [])) → In j (inodes_of v (Some d))
      by_test true i = i
      by_test false (inl e) = inr (subst (λ (k : ℕ). In k (map id_of (rows_of v (Some d)))) (sym e) (row_there (rows_of v (Some d)) value is))
      by_test false (inr bad) = absurd bad

  pub left_among : (v : Volume) (id j : ℕ) → In j (inodes_left v id name) → In j (attribute_inodes v (attribute_directory v id))
  left_among v id j i = among v (attribute_directory v id) (assoc Text (rows_of v (attribute_directory v id)) name) refl j i

module _ (s : Super) (v : Room) (m : ℕ → Option (List ℕ)) (tree : Tree) (lists : Lists) (loose : List ℕ) (id : ℕ) (n : Node) (valid : IsValid s) (work : IsAtWork (geometry_of s) v m tree lists loose) (is : IsNode tree id n) where
  abbrev g : Geometry
  g = geometry_of s

  abbrev was : Volume
  was = volume_in g m

  -- each of them has a stream, and is told
  stream_there : (j : ℕ) → In j (attribute_inodes was (attribute_directory was id)) → IsSome (m j) × HasStream (sizes g) (contents m) j
  stream_there j i =
      let r : HasReadable (origin g j) m = (can_read s v m tree lists loose id n valid work is).streams j i in
      (r.1.stands.told j (has_first j (arrays_at (sizes g) (contents m) j)), r.1.stands.sound)

  pub left_streams : (name : List ℕ) → HaveStreams g m (inodes_left was id name)
  left_streams name = all_from {P = λ j. IsSome (m j) × HasStream (sizes g) (contents m) j} (inodes_left was id name) (λ j i. stream_there j (left_among name was id j i))
