-- The index directory is read.
use Rattle.std.proofs.Common.{◌≡◌, ◌≢◌, ◌≤◌, ◌<◌, inl, ℕ, ℤ, List, ◌++◌, refl, sym, ap, ◌∙◌, subst, arith, Bool, true, cond, Option, Some, None}
use Rattle.std.specs.Prelude.{◌==◌}
use Rattle.bfs_base.specs.Lists.{times}
use Rattle.bfs_base.specs.declared.kind.KeyKind.TheVariants.{Text}
use Rattle.bfs_super.specs.Conditions.{IsValid}
use Rattle.bfs_super.specs.Geometry.{geometry_of}
use Rattle.bfs_super.specs.declared.geometry.Geometry.{Geometry}
use Rattle.bfs_super.specs.declared.sup.Super.{Super}
use Rattle.bfs_bitmap.specs.Runs.{Room}
use Rattle.bfs_node.specs.Page.{Row}
use Rattle.bfs_pages.specs.Maps.{assoc}
use Rattle.bfs_pages.specs.Order.{Key}
use Rattle.bfs_stream.specs.Sizes.{Origin, sizes_of}
use Rattle.bfs_stream.specs.Told.{AreTold}
use Rattle.bfs_stream.proofs.Doubles.{times-append}
use Rattle.bfs_stream_pages.specs.GoesLaws.{readable}
use Rattle.bfs_stream_pages.specs.Held.{stream_of}
use Rattle.bfs_tree.specs.Trees.{Tree}
use Rattle.bfs_values.specs.Rows.{rows_in}
use Rattle.bfs_make.specs.Mapped.{HasHeld, HasReadable}
use Rattle.bfs_make.specs.NumberTrees.{IsNumber, HoldsNumber, IsNumberAt}
use Rattle.bfs_sound.specs.Volumes.{Volume}
use Rattle.bfs_sound.specs.Inodes.{content, inode_blocks, inodes_of, index_directory, rows_of, is_proper}
use Rattle.bfs_sound.specs.Listings.{IsIndex, HasIndexDirectory}
use Rattle.bfs_sound.specs.Owners.{index_blocks, reach}
use Rattle.bfs_sound.proofs.Counts.{In, times_member}
use Rattle.bfs_shift.specs.Lists.{Lists}
use Rattle.bfs_shift.specs.Shifts.{volume_in}
use Rattle.bfs_shift.proofs.Held.{owner_held}
use Rattle.bfs_shift.proofs.Names.{is_there, names_before}
use Rattle.bfs_shift.proofs.Owners.{names_own}
use Rattle.bfs_shift.proofs.Puts.{kept_finds}
use Rattle.bfs_shift.specs.Work.{IsAtWork}
use Rattle.bfs_shift.proofs.Basics.{some_bytes}
use Rattle.bfs_shift.proofs.Files.{all_split}

-- the index directory's blocks are among those of all indices
directory_few : (v : Volume) → v.geometry.indices ≢ 0 → (k : ℕ) → times k (inode_blocks v v.geometry.indices) ≤ times k (index_blocks v)
unfolding index_blocks
directory_few v there k = times_member k (inode_blocks v) (inodes_of v (index_directory v)) v.geometry.indices (subst (λ (o : Option ℕ). In v.geometry.indices (inodes_of v o)) (sym (is_there v there)) (inl refl))

module _ (s : Super) (v : Room) (m : ℕ → Option (List ℕ)) (tree : Tree) (lists : Lists) (loose : List ℕ) (valid : IsValid s) (work : IsAtWork (geometry_of s) v m tree lists loose) where
  abbrev g : Geometry
  g = geometry_of s

  abbrev was : Volume
  was = volume_in g m

  module _ (there : g.indices ≢ 0) where
    abbrev o : Origin
    o = record { id = g.indices; sizes = sizes_of s }

    directory_told : AreTold m (inode_blocks was g.indices)
    directory_told k h =
        let has : 0 < times k (inode_blocks was g.indices) = h in
        let f = directory_few was there k in
        let p = all_split was tree lists loose work.stocked k in
        let a = times-append k (reach was tree) loose in
        let most : times k (reach was tree ++ loose) ≤ 1 = work.stocked.once k in
        let reached : 0 < times k (reach was tree) = omega (arith, has, f, p, a) in
        work.told k (reached, omega (arith, has, f, p, most)) (omega (arith, has, f, p, most))

    held : HasHeld o v m
    held = owner_held g v m g.indices (names_own g v m tree lists loose work.stocked work.volume (some_bytes s valid) work.fits there directory_told) directory_told

    pub names_readable : HasReadable o m
    names_readable = (held.0, readable o v held.0 m held.1)

    finds : (name : Key) → is_proper name ≡ true → assoc Text lists.names name ≡ assoc Text (rows_in Text (content was g.indices)) name
    finds name proper = ap (λ (rows : List Row). assoc Text rows name) (sym (names_before was tree lists loose work.stocked there)) ∙ kept_finds is_proper (rows_in Text (content was g.indices)) name proper

    pub names_hold : (name : Key) → is_proper name ≡ true → ((value : ℤ) → assoc Text lists.names name ≡ Some value → IsNumber value) → HoldsNumber Text name (stream_of o m)
    names_hold name proper numbers =
        let i : IsIndex was g.indices Text = subst (HasIndexDirectory was) (is_there was there) work.stocked.directory in
        record { tree = i.tree; number = λ value e. numbers value (finds name proper ∙ e) }

    pub number_found : (name : Key) → is_proper name ≡ true → (found : Option ℕ) → IsNumberAt Text (rows_in Text (content was g.indices)) name found → IsNumberAt Text lists.names name found
    number_found name proper None e = finds name proper ∙ e
    number_found name proper (Some n) e = finds name proper ∙ e

  pub none_found : (name : Key) → g.indices ≡ 0 → assoc Text lists.names name ≡ None
  none_found name none =
      let test : (g.indices == 0) ≡ true = grind (arith, none) in
      let gone : index_directory was ≡ None = ap (λ (t : Bool). cond t None (Some g.indices)) test in
      ap (λ (rows : List Row). assoc Text rows name) (sym work.stocked.names) ∙ ap (λ (d : Option ℕ). assoc Text (rows_of was d) name) gone
