-- What is known of an index that is there, and of the index directory that names it.
use Rattle.std.proofs.Common.{◌≡◌, ◌≢◌, ◌<◌, ◌∙◌, ℕ, ℤ, pos, List, [], ◌++◌, refl, sym, arith, Bool, true, false, Option, Some, None}
use Rattle.bfs_base.specs.Lists.{times}
use Rattle.bfs_base.specs.declared.kind.KeyKind.TheVariants.{Text}
use Rattle.bfs_super.specs.Conditions.{IsValid}
use Rattle.bfs_super.specs.Geometry.{geometry_of}
use Rattle.bfs_super.specs.declared.geometry.Geometry.{Geometry}
use Rattle.bfs_super.specs.declared.sup.Super.{Super}
use Rattle.bfs_bitmap.specs.Runs.{Room}
use Rattle.bfs_pages.specs.Maps.{assoc}
use Rattle.bfs_stream.specs.Sizes.{Origin, sizes_of}
use Rattle.bfs_stream.specs.Told.{AreTold}
use Rattle.bfs_stream.proofs.Doubles.{times-append}
use Rattle.bfs_tree.specs.Trees.{Tree}
use Rattle.bfs_maps.specs.Mapped.{HasHeld, rows_of}
use Rattle.bfs_maps.specs.RowTrees.{HasTreeWith}
use Rattle.bfs_sound.specs.Volumes.{Volume}
use Rattle.bfs_sound.specs.Inodes.{inode_blocks, is_proper}
use Rattle.bfs_sound.specs.Owners.{reach}
use Rattle.bfs_shift.specs.Lists.{Lists}
use Rattle.bfs_shift.specs.Shifts.{volume_in}
use Rattle.bfs_shift.proofs.Basics.{some_bytes}
use Rattle.bfs_shift.proofs.Files.{all_split}
use Rattle.bfs_shift.proofs.Held.{owner_held}
use Rattle.bfs_shift.proofs.Owners.{names_own}
use Rattle.bfs_moves.proofs.Found.{none_found, names_hold, number_found}
use Rattle.bfs_look.specs.Ready.{IsReady}
use Rattle.bfs_query.proofs.Indexed.{improper_none, index_number}
use Rattle.bfs_remove_index.specs.Removed.{IsOwnIndex}
use Rattle.bfs_remove_index.proofs.Taken.{directory_few}

module _ (s : Super) (v : Room) (m : ℕ → Option (List ℕ)) (tree : Tree) (lists : Lists) (valid : IsValid s) (ready : IsReady (geometry_of s) v m tree lists) (name : List ℕ) (own : IsOwnIndex tree name) where
  abbrev g : Geometry
  g = geometry_of s

  abbrev was : Volume
  was = volume_in g m

  abbrev o : Origin
  o = record { id = g.indices; sizes = sizes_of s }

  row : (value : ℤ) × (assoc Text lists.names name ≡ Some value)
  row = ready.agrees.no_more name own.kind own.there

  there : g.indices ≢ 0
  there none = let gone = none_found s v m tree lists [] valid ready.work name none in let bad : Some row.0 ≡ None = sym row.1 ∙ gone in cc

  proper : is_proper name ≡ true
  proper = by_test (is_proper name) refl
    where
      by_test : (t : Bool) → is_proper name ≡ t → is_proper name ≡ true
      by_test true e = e
      by_test false e = absurd (let bad : Some row.0 ≡ None = sym row.1 ∙ improper_none s v m tree lists valid ready name e in cc)

  directory_told : AreTold m (inode_blocks was g.indices)
  directory_told k h =
      let has : 0 < times k (inode_blocks was g.indices) = h in
      let f = directory_few was there k in
      let p = all_split was tree lists [] ready.work.stocked k in
      let a = times-append k (reach was tree) [] in
      let most = ready.work.stocked.once k in
      let few : times k (reach was tree ++ []) < 2 = omega (arith, most) in
      let reached : 0 < times k (reach was tree) = omega (arith, has, f, p, a) in
      ready.work.told k (reached, omega (arith, has, f, p, few)) (omega (arith, has, f, p, few))

  pub directory_held : HasHeld o v m
  directory_held = owner_held g v m g.indices (names_own g v m tree lists [] ready.work.stocked ready.work.volume (some_bytes s valid) ready.work.fits there directory_told) directory_told

  pub directory_tree : HasTreeWith Text name o v m
  directory_tree = record { held = directory_held; tree = names_hold s v m tree lists [] valid ready.work there name proper (index_number s v m tree lists valid ready name) }

  -- the row of the index directory is the lists'
  pub row_found : (id : ℕ) → assoc Text (rows_of Text o m) name ≡ Some (pos id) → assoc Text lists.names name ≡ Some (pos id)
  row_found id at = number_found s v m tree lists [] valid ready.work there name proper (Some id) at

  pub row_there : assoc Text (rows_of Text o m) name ≡ None → ⊥
  row_there none = let gone = number_found s v m tree lists [] valid ready.work there name proper None none in let bad : Some row.0 ≡ None = sym row.1 ∙ gone in cc
