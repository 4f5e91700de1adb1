-- What a call that makes an index is allowed, and that it is at most Need.
use Rattle.std.proofs.Common.{◌≡◌, ◌≤◌, ◌+◌, ◌*◌, ℕ, List, [], ◌∷◌, length, min, Option, Some, None, arith}
use Rattle.std.specs.Prelude.{sum_by}
use Rattle.std.proofs.lemmas.List.Sums.{sum_by-cons}
use Rattle.bfs_base.specs.declared.kind.KeyKind.{KeyKind}
use Rattle.bfs_base.specs.declared.kind.KeyKind.TheVariants.{Text}
use Rattle.bfs_super.specs.Geometry.{bitmap_length}
use Rattle.bfs_tree.specs.Listings.{listed}
use Rattle.bfs_tree.specs.Trees.{Tree}
use Rattle.bfs_tree.specs.declared.call.Call.TheVariants.{IndexMake}
use Rattle.bfs_sound.specs.Inodes.{index_directory}
use Rattle.bfs_sound.specs.Listings.{HasIndexDirectory}
use Rattle.bfs_sound.specs.Need.{row_need, row_of, logged_need}
use Rattle.bfs_sound.specs.Volumes.{Volume}
use Rattle.bfs_calls.proofs.Allowed.{some_levels}
use Rattle.bfs_calls.specs.Allowances.{allowance}

module _ (v : Volume) where
  least_levels : (o : Option ℕ) → HasIndexDirectory v o → 1 ≤ row_of v o
  least_levels None h = omega arith
  least_levels (Some d) h = some_levels v Text d h.tree

  module _ (tree : Tree) (name : List ℕ) (kind : KeyKind) where
    abbrev most : ℕ
    most = bitmap_length v.geometry.blocks v.geometry.block_size

    none_left : min (0 + 0 + 0) most ≡ 0
    none_left = omega arith

    -- how many blocks that is
    pub allowed : (count : ℕ) → count ≡ length (listed tree name kind) → 28 + 4 * count + 24 + 8 ≡ allowance v tree (IndexMake name kind)
    allowed count is = omega (arith, is, none_left)

    -- what is allowed is at most Need
    pub within : HasIndexDirectory v (index_directory v) → allowance v tree (IndexMake name kind) ≤ logged_need v tree (IndexMake name kind)
    within directory =
        let level = least_levels (index_directory v) directory in
        let rows : sum_by row_need (row_of v (index_directory v) ∷ []) ≡ row_need (row_of v (index_directory v)) + sum_by row_need [] = sum_by-cons row_need (row_of v (index_directory v)) [] in
        omega (arith, level, rows, none_left)
