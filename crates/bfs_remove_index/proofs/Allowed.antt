-- What a call that removes an index is allowed, and that it is at most Need.
use Rattle.std.proofs.Common.{◌≡◌, ◌≤◌, ◌+◌, ◌∙◌, ℕ, ℤ, pos, List, [], ◌∷◌, length, min, Option, Some, None, ap, sym, arith}
use Rattle.std.specs.Prelude.{sum_by, IsSome}
use Rattle.std.proofs.lemmas.List.Sums.{sum_by-cons}
use Rattle.bfs_base.specs.declared.kind.KeyKind.TheVariants.{Text}
use Rattle.bfs_super.specs.Conditions.{IsValid, natural}
use Rattle.bfs_super.specs.Geometry.{geometry_of, bitmap_length}
use Rattle.bfs_super.specs.declared.sup.Super.{Super}
use Rattle.bfs_bitmap.specs.Runs.{Room}
use Rattle.bfs_node.specs.Page.{Row}
use Rattle.bfs_pages.specs.Maps.{assoc}
use Rattle.bfs_stream.specs.Places.{HasStream, arrays_at}
use Rattle.bfs_stream.specs.Sizes.{sizes_of}
use Rattle.bfs_stream.specs.Told.{contents, Stands}
use Rattle.bfs_stream.proofs.Frames.{has_first}
use Rattle.bfs_tree.specs.declared.call.Call.TheVariants.{IndexRemove}
use Rattle.bfs_tree.specs.Trees.{Tree}
use Rattle.bfs_sound.specs.Inodes.{stream_blocks, index_directory}
use Rattle.bfs_sound.specs.Listings.{HasIndexDirectory, index_rows}
use Rattle.bfs_sound.specs.Need.{row_need, row_of, index_left, logged_need}
use Rattle.bfs_sound.specs.Owners.{with_streams}
use Rattle.bfs_sound.specs.Volumes.{Volume}
use Rattle.bfs_shift.specs.Lists.{Lists}
use Rattle.bfs_shift.specs.Shifts.{volume_in}
use Rattle.bfs_moves.proofs.Listed.{index_held}
use Rattle.bfs_look.specs.Ready.{IsReady}
use Rattle.bfs_calls.proofs.Allowed.{min_less, one_stream, some_levels}
use Rattle.bfs_calls.specs.Allowances.{index_of, left_alone, left_owners, allowance}

module _ (v : Volume) where
  least_levels : (o : Option ℕ) → HasIndexDirectory v o → 1 ≤ row_of v o
  least_levels None h = omega arith
  least_levels (Some d) h = some_levels v Text d h.tree

  abbrev left_of : Option ℤ → ℕ
  left_of o = left_alone v (with_streams (index_of v o))

  stream_less : (o : Option ℤ) → left_of o ≤ index_left v o
  stream_less None = omega arith
  stream_less (Some value) = let e = one_stream v (natural value) in omega (arith, e)

  module _ (tree : Tree) (name : List ℕ) where
    abbrev row_at : Option ℤ
    row_at = assoc Text (index_rows v) name

    abbrev most : ℕ
    most = bitmap_length v.geometry.blocks v.geometry.block_size

    -- how many blocks that is
    pub allowed : (blocks all low : ℕ) → blocks ≡ left_of row_at → all ≡ most → low ≡ min blocks all → 28 + low + 8 ≡ allowance v tree (IndexRemove name)
    allowed blocks all low one two is =
        let same : blocks ≡ 0 + 0 + left_of row_at = omega (arith, one) in
        let few : low ≡ min (0 + 0 + left_of row_at) most = is ∙ ap (λ (n : ℕ). min n all) same ∙ ap (min (0 + 0 + left_of row_at)) two in
        omega (arith, few)

    -- what is allowed is at most Need
    pub within : HasIndexDirectory v (index_directory v) → allowance v tree (IndexRemove name) ≤ logged_need v tree (IndexRemove name)
    within directory =
        let level = least_levels (index_directory v) directory in
        let rows : sum_by row_need (row_of v (index_directory v) ∷ []) ≡ row_need (row_of v (index_directory v)) + sum_by row_need [] = sum_by-cons row_need (row_of v (index_directory v)) [] in
        let few = stream_less row_at in
        let less = min_less (0 + 0 + left_of row_at) (0 + 0 + index_left v row_at) most (omega (arith, few)) in
        omega (arith, level, rows, less)

module _ (s : Super) (v : Room) (m : ℕ → Option (List ℕ)) (tree : Tree) (lists : Lists) (valid : IsValid s) (ready : IsReady (geometry_of s) v m tree lists) (name : List ℕ) where
  abbrev was : Volume
  was = volume_in (geometry_of s) m

  names_are : assoc Text (index_rows was) name ≡ assoc Text lists.names name
  names_are = ap (λ (rows : List Row). assoc Text rows name) ready.work.stocked.names

  abbrev left_there : Option ℤ → ℕ
  left_there o = left_alone was (with_streams (index_of was o))

  -- the blocks of an index that is there, and of none
  pub counted_none : assoc Text lists.names name ≡ None → 0 ≡ left_alone was (left_owners was tree (IndexRemove name))
  counted_none none = sym (ap left_there (names_are ∙ none))

  module _ (inode : ℕ) (row : assoc Text lists.names name ≡ Some (pos inode)) where
    pub counted_some : (n : ℕ) → n ≡ length (stream_blocks was inode) → n ≡ left_alone was (left_owners was tree (IndexRemove name))
    counted_some n is = is ∙ sym (one_stream was inode) ∙ sym (ap left_there (names_are ∙ row))

    stands : Stands (record { id = inode; sizes = sizes_of s }) m
    stands = let held = index_held s v m tree lists [] inode name valid ready.work row in held.1.owns.stands

    pub index_told : IsSome (m inode)
    index_told = stands.told inode (has_first inode (arrays_at (sizes_of s) (contents m) inode))

    pub index_stands : HasStream (sizes_of s) (contents m) inode
    index_stands = stands.sound
