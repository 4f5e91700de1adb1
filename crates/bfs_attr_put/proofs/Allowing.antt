-- What a call that writes an attribute is allowed, and that it is at most Need.
use Rattle.std.proofs.Common.{◌≡◌, ◌≤◌, ◌+◌, ◌*◌, ℕ, List, [], ◌∷◌, ◌++◌, length, min, ap, ◌∙◌, arith, Option}
use Rattle.std.proofs.lemmas.List.{length-append}
use Rattle.bfs_super.specs.Conditions.{IsValid}
use Rattle.bfs_super.specs.Geometry.{geometry_of, bitmap_length}
use Rattle.bfs_super.specs.declared.sup.Super.{Super}
use Rattle.bfs_bitmap.specs.Runs.{Room}
use Rattle.bfs_tree.specs.Trees.{Node, Tree, IsNode}
use Rattle.bfs_tree.specs.declared.call.Call.TheVariants.{AttrWrite}
use Rattle.bfs_sound.specs.Attributes.{attribute_directory, HasDirectory}
use Rattle.bfs_sound.specs.Need.{index_row, attribute_row, attribute_index_row, filled, streams_length, logged_need}
use Rattle.bfs_sound.specs.Owners.{with_streams}
use Rattle.bfs_sound.specs.Volumes.{Volume}
use Rattle.bfs_shift.specs.Lists.{Lists}
use Rattle.bfs_shift.specs.Shifts.{volume_in}
use Rattle.bfs_look.specs.Ready.{IsReady}
use Rattle.bfs_attr_calls.proofs.Bearing.{bears}
use Rattle.bfs_attr_calls.specs.Allowances.{inodes_left, left_alone, allowance}
use Rattle.bfs_attr_calls.proofs.Allowed.{AllLeast, rows_least, least_joined, least_index, min_less}
use Rattle.bfs_attr_calls.proofs.Streams.{alone_few}
use Rattle.bfs_attr_calls.proofs.Allowing.{least_row, least_listed}

-- where what is left counts only so far as the bitmap has blocks
least_both : (a left most : ℕ) → min (a + min left most) most ≡ min (a + 0 + left) most
least_both a left most = grind arith

module _ (v : Volume) (tree : Tree) (id : ℕ) (name : List ℕ) (kind : ℕ) (bytes : List ℕ) where
  abbrev rows : List ℕ
  rows = (attribute_row v id ∷ attribute_row v id ∷ attribute_index_row v name) ++ attribute_index_row v name

  abbrev blocks : ℕ
  blocks = filled v (length bytes)

  abbrev left : ℕ
  left = left_alone v (with_streams (inodes_left v id name))

  abbrev most : ℕ
  most = bitmap_length v.geometry.blocks v.geometry.block_size

  -- how many blocks that is
  pub allowed : (listed low all : ℕ) → listed ≡ length (attribute_index_row v name) → all ≡ most → low ≡ min left all → 28 * (2 + 2 * listed) + blocks + min (blocks + low) all + 8 ≡ allowance v tree (AttrWrite id name kind bytes)
  allowed listed low all one two is =
      let few : min (blocks + low) all ≡ min (blocks + 0 + left) most = ap (λ (n : ℕ). min (blocks + n) all) is ∙ least_both blocks left all ∙ ap (min (blocks + 0 + left)) two in
      let twice : length rows ≡ length (attribute_row v id ∷ attribute_row v id ∷ attribute_index_row v name) + length (attribute_index_row v name) = length-append (attribute_row v id ∷ attribute_row v id ∷ attribute_index_row v name) (attribute_index_row v name) in
      omega (arith, few, twice, one)

  -- what is allowed is at most Need
  pub within_need : HasDirectory v id (attribute_directory v id) → AllLeast (index_row v name) → allowance v tree (AttrWrite id name kind bytes) ≤ logged_need v tree (AttrWrite id name kind bytes)
  within_need directory index =
      let listed = least_listed v tree id name index in
      let row = least_row v tree id name (attribute_directory v id) directory in
      let each = rows_least rows (least_joined (attribute_row v id ∷ attribute_row v id ∷ attribute_index_row v name) (attribute_index_row v name) (row, (row, listed)) listed) in
      let alone = alone_few v (with_streams (inodes_left v id name)) in
      let few = min_less (blocks + 0 + left) (blocks + 0 + streams_length v (with_streams (inodes_left v id name))) most (omega (arith, alone)) in
      omega (arith, each, few)

pub within : (s : Super) (v : Room) (m : ℕ → Option (List ℕ)) (tree : Tree) (lists : Lists) (id : ℕ) (n : Node) (name : List ℕ) (kind : ℕ) (bytes : List ℕ) → IsValid s → IsReady (geometry_of s) v m tree lists → IsNode tree id n
    → allowance (volume_in (geometry_of s) m) tree (AttrWrite id name kind bytes) ≤ logged_need (volume_in (geometry_of s) m) tree (AttrWrite id name kind bytes)
within s v m tree lists id n name kind bytes valid ready is =
    within_need (volume_in (geometry_of s) m) tree id name kind bytes (bears s v m tree lists [] id n valid ready.work is).directory (least_index (geometry_of s) v m tree lists ready name)
