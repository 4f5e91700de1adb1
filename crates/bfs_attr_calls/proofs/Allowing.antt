-- What a call that removes an attribute is allowed, and that it is at most Need.
use Rattle.std.proofs.Common.{◌≡◌, ◌≤◌, ◌+◌, ◌*◌, ℕ, ℤ, List, [], ◌∷◌, length, min, sym, ap, ◌∙◌, arith, Bool, true, false, cond, Option, Some, None}
use Rattle.bfs_base.specs.declared.kind.KeyKind.TheVariants.{Text}
use Rattle.bfs_super.specs.Conditions.{IsValid}
use Rattle.bfs_super.specs.Geometry.{geometry_of, bitmap_length}
use Rattle.bfs_super.specs.declared.sup.Super.{Super}
use Rattle.bfs_bitmap.specs.Runs.{Room}
use Rattle.bfs_pages.specs.Maps.{assoc}
use Rattle.bfs_tree.specs.Refusals.{is_built_in}
use Rattle.bfs_tree.specs.Trees.{Node, Tree, IsNode}
use Rattle.bfs_tree.specs.declared.call.Call.TheVariants.{AttrRemove}
use Rattle.bfs_sound.specs.Attributes.{attribute_directory, HasDirectory}
use Rattle.bfs_sound.specs.Listings.{index_rows}
use Rattle.bfs_sound.specs.Need.{row_of, row_at, index_row, attribute_row, attribute_index_row, streams_length, logged_need}
use Rattle.bfs_sound.specs.Owners.{with_streams}
use Rattle.bfs_sound.specs.Volumes.{Volume}
use Rattle.bfs_shift.specs.Lists.{Lists}
use Rattle.bfs_shift.specs.Shifts.{volume_in}
use Rattle.bfs_look.specs.Ready.{IsReady}
use Rattle.bfs_query.proofs.Bearing.{bears}
use Rattle.bfs_unmake.specs.Allowances.{inodes_left, left_alone, allowance}
use Rattle.bfs_unmake.proofs.Allowed.{AllLeast, rows_least, least_index, some_levels, min_less}
use Rattle.bfs_unmake.proofs.Streams.{alone_few}

module _ (v : Volume) (tree : Tree) (id : ℕ) (name : List ℕ) where
  -- the rows that are counted
  abbrev rows_by : Bool → Option ℤ → List ℕ
  rows_by built o = cond built [] (row_at v o)

  pub counted_built : is_built_in name ≡ true → 0 ≡ length (attribute_index_row v name)
  counted_built built = sym (ap (λ (t : Bool). length (rows_by t (assoc Text (index_rows v) name))) built)

  pub counted_none : is_built_in name ≡ false → assoc Text (index_rows v) name ≡ None → 0 ≡ length (attribute_index_row v name)
  counted_none built none = sym (ap (λ (t : Bool). length (rows_by t (assoc Text (index_rows v) name))) built ∙ ap (λ (o : Option ℤ). length (row_at v o)) none)

  pub counted_some : is_built_in name ≡ false → (value : ℤ) → assoc Text (index_rows v) name ≡ Some value → 1 ≡ length (attribute_index_row v name)
  counted_some built value some = sym (ap (λ (t : Bool). length (rows_by t (assoc Text (index_rows v) name))) built ∙ ap (λ (o : Option ℤ). length (row_at v o)) some)

  abbrev left : ℕ
  left = left_alone v (with_streams (inodes_left v id name))

  abbrev most : ℕ
  most = bitmap_length v.geometry.blocks v.geometry.block_size

  -- how many blocks that is
  pub allowed : (listed low all : ℕ) → listed ≡ length (attribute_index_row v name) → all ≡ most → low ≡ min left all → 28 * (1 + listed) + low + 8 ≡ allowance v tree (AttrRemove id name)
  allowed listed low all one two is =
      let same : left ≡ 0 + 0 + left = omega arith in
      let few : low ≡ min (0 + 0 + left) most = is ∙ ap (λ (n : ℕ). min n all) same ∙ ap (min (0 + 0 + left)) two in
      let rows : length (attribute_row v id ∷ attribute_index_row v name) ≡ 1 + length (attribute_index_row v name) = omega arith in
      omega (arith, few, rows, one)

  pub least_row : (o : Option ℕ) → HasDirectory v id o → 1 ≤ row_of v o
  least_row None h = omega arith
  least_row (Some d) h = some_levels v Text d h.tree

  pub least_listed : AllLeast (index_row v name) → AllLeast (attribute_index_row v name)
  least_listed index = by_test (is_built_in name)
    where
      by_test : (built : Bool) → AllLeast (cond built [] (index_row v name))
      by_test true = tt
      by_test false = index

  -- what is allowed is at most Need
  pub within_need : HasDirectory v id (attribute_directory v id) → AllLeast (index_row v name) → allowance v tree (AttrRemove id name) ≤ logged_need v tree (AttrRemove id name)
  within_need directory index =
      let listed = least_listed index in
      let rows = rows_least (attribute_row v id ∷ attribute_index_row v name) (least_row (attribute_directory v id) directory, listed) in
      let alone = alone_few v (with_streams (inodes_left v id name)) in
      let few = min_less (0 + 0 + left) (0 + 0 + streams_length v (with_streams (inodes_left v id name))) most (omega (arith, alone)) in
      omega (arith, rows, few)

pub within : (s : Super) (v : Room) (m : ℕ → Option (List ℕ)) (tree : Tree) (lists : Lists) (id : ℕ) (n : Node) (name : List ℕ) → IsValid s → IsReady (geometry_of s) v m tree lists → IsNode tree id n
    → allowance (volume_in (geometry_of s) m) tree (AttrRemove id name) ≤ logged_need (volume_in (geometry_of s) m) tree (AttrRemove id name)
within s v m tree lists id n name valid ready is =
    within_need (volume_in (geometry_of s) m) tree id name (bears s v m tree lists [] id n valid ready.work is).directory (least_index (geometry_of s) v m tree lists ready name)
