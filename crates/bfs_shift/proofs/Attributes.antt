-- Changes of an attribute directory and its attributes, as shifts of their node.
use Rattle.std.proofs.Common.{◌≡◌, ◌≤◌, ◌<◌, ◌+◌, ℕ, List, [], ◌∷◌, ◌++◌, refl, ap, ap₂, ◌∙◌, arith, Bool, true, false, cond, Option, Some, map}
use Rattle.std.specs.Prelude.{◌&&◌, ◌==◌, ◌/◌, ◌%◌}
use Rattle.std.specs.List.{flat_map}
use Rattle.std.proofs.lemmas.List.Folds.{flat_map-map}
use Rattle.std.specs.FinMap.{entries}
use Rattle.bfs_base.specs.Lists.{times, Agree, AreSame}
use Rattle.bfs_bytes.specs.Fields.{unsigned_at}
use Rattle.bfs_node.specs.Page.{Row}
use Rattle.bfs_stream.proofs.Doubles.{times-append}
use Rattle.bfs_stream.proofs.Frames.{agree_first}
use Rattle.bfs_stream.specs.Places.{arrays_at, places_at}
use Rattle.bfs_tree.specs.Trees.{Node, Tree, IsNode, is_link}
use Rattle.bfs_sound.specs.Volumes.{Volume, sizes, bitmap_blocks}
use Rattle.bfs_sound.specs.Inodes.{inode_blocks, is_short, proper_rows, id_of, inodes_of}
use Rattle.bfs_sound.specs.Attributes.{attribute_directory}
use Rattle.bfs_sound.specs.Owners.{node_blocks, reach}
use Rattle.bfs_sound.specs.Laws.{with_blocks}
use Rattle.bfs_sound.proofs.Counts.{In, times_member}
use Rattle.bfs_sound.proofs.Nodes.{own_all, other_blocks}
use Rattle.bfs_sound.proofs.Parts.{in_entries}
use Rattle.bfs_sound.proofs.Rows.{directory_same}
use Rattle.bfs_sound.proofs.Streams.{frame_of_whole, blocks_stay}
use Rattle.bfs_shift.specs.Lists.{Lists}
use Rattle.bfs_shift.specs.Stocked.{Stocked, Shifts}
use Rattle.bfs_shift.specs.StreamLaws.{blocks_named}
use Rattle.bfs_shift.proofs.Moving.{all_parts, part_stays}
use Rattle.bfs_shift.proofs.Widens.{widened, in_any_order}
use Rattle.bfs_shift.proofs.OneIndex.{all_shift}
use Rattle.bfs_shift.proofs.Names.{all_rows}

-- the blocks of an attribute directory and its attributes
abbrev all_in : Volume → ℕ → List ℕ
all_in u d = flat_map (inode_blocks u) (inodes_of u (Some d))

-- the node's own blocks begin with its inode, and stay where they agree
own_stays : (v : Volume) (new : ℕ → List ℕ) (id : ℕ) (t : Bool) → Agree v.blocks new (cond t (id ∷ []) (inode_blocks v id)) → (new id ≡ v.blocks id) × (cond t (id ∷ []) (inode_blocks (with_blocks v new) id) ≡ cond t (id ∷ []) (inode_blocks v id))
own_stays v new id true agree = (agree_first v.blocks new id [] agree, refl)
own_stays v new id false agree =
    (agree_first v.blocks new id (arrays_at (sizes v.geometry) v.blocks id ++ places_at (sizes v.geometry) v.blocks id) agree, blocks_stay v new v.geometry.used id (frame_of_whole v new v.geometry.used id agree))

module _ (v : Volume) (tree : Tree) (lists : Lists) (gone come loose : List ℕ) (new : ℕ → List ℕ) (id : ℕ) (n : Node) (d : ℕ) (stocked : Stocked v tree lists (gone ++ loose)) (is : IsNode tree id n) (at : attribute_directory v id ≡ Some d) where
  abbrev w : Volume
  w = with_blocks v new

  abbrev own : List ℕ
  own = own_all v id n.kind (is_short v id)

  node_is : (k : ℕ) → times k (node_blocks v (id, n)) ≡ times k own + times k (all_in v d)
  unfolding node_blocks
  node_is k = times-append k own (other_blocks v id) ∙ ap (λ (o : Option ℕ). times k own + times k (flat_map (inode_blocks v) (inodes_of v o))) at

  pub few : (k : ℕ) → times k own + times k (all_in v d) + times k gone + times k (bitmap_blocks v.geometry) ≤ times k (reach v tree ++ (gone ++ loose))
  few k =
      let p = all_parts v tree lists (gone ++ loose) stocked k in
      let g = times-append k gone loose in
      let e = node_is k in
      let m : times k (node_blocks v (id, n)) ≤ times k (flat_map (node_blocks v) (entries tree.nodes)) = times_member k (node_blocks v) (entries tree.nodes) (id, n) (in_entries tree.nodes id n is) in
      omega (arith, p, g, e, m)

  -- a shift of those blocks is one of the node's
  module _ (xs ys : List ℕ) (shifts : Shifts v new xs ys) (before : (k : ℕ) → times k xs ≤ times k (all_in v d) + times k gone)
      (count : (k : ℕ) → times k (all_in w d) + times k come + times k xs ≡ times k (all_in v d) + times k gone + times k ys) where
    own_agrees : Agree v.blocks new own
    own_agrees = part_stays v tree lists (gone ++ loose) stocked new xs ys shifts own (λ k. let f = few k in let b = before k in omega (arith, f, b))

    kept : (new id ≡ v.blocks id) × (cond (is_link n.kind && is_short v id) (id ∷ []) (inode_blocks w id) ≡ own)
    kept = own_stays v new id (is_link n.kind && is_short v id) own_agrees

    short_is : is_short w id ≡ is_short v id
    short_is = ap (λ bytes. unsigned_at 4 bytes 24 / 64 % 2 == 0) kept.0

    at_now : attribute_directory w id ≡ Some d
    at_now = directory_same v new v.geometry.used id kept.0 ∙ at

    node_now : (k : ℕ) → times k (node_blocks w (id, n)) ≡ times k own + times k (all_in w d)
    unfolding node_blocks
    node_now k =
        times-append k (own_all w id n.kind (is_short w id)) (other_blocks w id)
        ∙ ap₂ (λ (a b : List ℕ). times k a + times k b) (ap (λ (t : Bool). cond (is_link n.kind && t) (id ∷ []) (inode_blocks w id)) short_is ∙ kept.1) (ap (λ (o : Option ℕ). flat_map (inode_blocks w) (inodes_of w o)) at_now)

    pub node_shifts : Shifts v new (node_blocks v (id, n) ++ gone) (node_blocks w (id, n) ++ come)
    node_shifts = widened v new xs ys (node_blocks v (id, n) ++ gone) (node_blocks w (id, n) ++ come) shifts
        (λ k. let a = times-append k (node_blocks v (id, n)) gone in let b = times-append k (node_blocks w (id, n)) come in let c = node_is k in let e = node_now k in let f = count k in omega (arith, a, b, c, e, f))
        (λ k. let a = times-append k (node_blocks v (id, n)) gone in let c = node_is k in let b = before k in omega (arith, a, b, c))
        (λ k. let a = times-append k (node_blocks v (id, n)) gone in let c = node_is k in let f = few k in let o : times k (reach v tree ++ (gone ++ loose)) ≤ 1 = stocked.once k in omega (arith, a, c, f, o))
        (λ k h. (stocked.marks k).1 (let g : 0 < times k (node_blocks v (id, n) ++ gone) = h in let a = times-append k (node_blocks v (id, n)) gone in let c = node_is k in let f = few k in let r : 0 < times k (reach v tree ++ (gone ++ loose)) = omega (arith, g, a, c, f) in r))

    pub inode_kept : new id ≡ v.blocks id
    inode_kept = kept.0

-- a stream of one attribute
module _ (v : Volume) (tree : Tree) (lists : Lists) (loose : List ℕ) (new : ℕ → List ℕ) (id : ℕ) (n : Node) (d : ℕ) (row : Row) (stocked : Stocked v tree lists loose) (is : IsNode tree id n) (at : attribute_directory v id ≡ Some d)
    (among : In row (proper_rows v d)) (shifts : Shifts v new (inode_blocks v (id_of row)) (inode_blocks (with_blocks v new) (id_of row))) where
  of_all : Shifts v new (all_in v d) (all_in (with_blocks v new) d)
  of_all = all_shift v tree lists loose new stocked row shifts d (λ k. let f = few v tree lists [] [] loose new id n d stocked is at k in omega (arith, f)) among

  with_none : Shifts v new (node_blocks v (id, n) ++ []) (node_blocks (with_blocks v new) (id, n) ++ [])
  with_none = node_shifts v tree lists [] [] loose new id n d stocked is at (all_in v d) (all_in (with_blocks v new) d) of_all (λ k. omega arith) (λ k. omega arith)

  pub attribute_shifts : Shifts v new (node_blocks v (id, n)) (node_blocks (with_blocks v new) (id, n))
  attribute_shifts = in_any_order v new (node_blocks v (id, n) ++ []) (node_blocks (with_blocks v new) (id, n) ++ []) (node_blocks v (id, n)) (node_blocks (with_blocks v new) (id, n))
      (λ k. let a = times-append k (node_blocks v (id, n)) [] in omega (arith, a)) (λ k. let a = times-append k (node_blocks (with_blocks v new) (id, n)) [] in omega (arith, a)) with_none

  pub attribute_kept : new id ≡ v.blocks id
  attribute_kept = inode_kept v tree lists [] [] loose new id n d stocked is at (all_in v d) (all_in (with_blocks v new) d) of_all (λ k. omega arith) (λ k. omega arith)

-- the rows of an attribute directory
module _ (v : Volume) (tree : Tree) (lists : Lists) (gone come loose : List ℕ) (new : ℕ → List ℕ) (id : ℕ) (n : Node) (d : ℕ) (stocked : Stocked v tree lists (gone ++ loose)) (is : IsNode tree id n) (at : attribute_directory v id ≡ Some d)
    (shifts : Shifts v new (inode_blocks v d) (inode_blocks (with_blocks v new) d)) (same : AreSame (blocks_named v (proper_rows (with_blocks v new) d) ++ come) (blocks_named v (proper_rows v d) ++ gone)) where
  abbrev names : List Row
  names = proper_rows (with_blocks v new) d

  parts : (u : Volume) (k : ℕ) → times k (all_in u d) ≡ times k (inode_blocks u d) + times k (blocks_named u (proper_rows u d))
  parts u k = times-append k (inode_blocks u d) (flat_map (inode_blocks u) (map id_of (proper_rows u d))) ∙ ap (λ (l : List ℕ). times k (inode_blocks u d) + times k l) (flat_map-map (inode_blocks u) id_of (proper_rows u d))

  counts : (k : ℕ) → times k (blocks_named v names) + times k come ≡ times k (blocks_named v (proper_rows v d)) + times k gone
  counts k = let a = times-append k (blocks_named v names) come in let b = times-append k (blocks_named v (proper_rows v d)) gone in let c = same k in omega (arith, a, b, c)

  row_agrees : (r : Row) → In r names → Agree v.blocks new (inode_blocks v (id_of r))
  row_agrees r i = part_stays v tree lists (gone ++ loose) stocked new (inode_blocks v d) (inode_blocks (with_blocks v new) d) shifts (inode_blocks v (id_of r)) (λ k.
      let f = few v tree lists gone come loose new id n d stocked is at k in
      let p = parts v k in
      let c = counts k in
      let m : times k (inode_blocks v (id_of r)) ≤ times k (blocks_named v names) = times_member k (λ (x : Row). inode_blocks v (id_of x)) names r i in
      omega (arith, f, p, c, m))

  named_same : blocks_named (with_blocks v new) names ≡ blocks_named v names
  named_same = all_rows (λ r. inode_blocks v (id_of r)) (λ r. inode_blocks (with_blocks v new) (id_of r)) names (λ r i. blocks_stay v new v.geometry.used (id_of r) (frame_of_whole v new v.geometry.used (id_of r) (row_agrees r i)))

  all_now : (k : ℕ) → times k (all_in (with_blocks v new) d) ≡ times k (inode_blocks (with_blocks v new) d) + times k (blocks_named v names)
  all_now k = parts (with_blocks v new) k ∙ ap (λ (l : List ℕ). times k (inode_blocks (with_blocks v new) d) + times k l) named_same

  low : (k : ℕ) → times k (inode_blocks v d) ≤ times k (all_in v d) + times k gone
  low k = let p = parts v k in omega (arith, p)

  balance : (k : ℕ) → times k (all_in (with_blocks v new) d) + times k come + times k (inode_blocks v d) ≡ times k (all_in v d) + times k gone + times k (inode_blocks (with_blocks v new) d)
  balance k = let a = all_now k in let p = parts v k in let c = counts k in omega (arith, a, p, c)

  pub attribute_rows_shift : Shifts v new (node_blocks v (id, n) ++ gone) (node_blocks (with_blocks v new) (id, n) ++ come)
  attribute_rows_shift = node_shifts v tree lists gone come loose new id n d stocked is at (inode_blocks v d) (inode_blocks (with_blocks v new) d) shifts low balance

  pub attribute_rows_kept : new id ≡ v.blocks id
  attribute_rows_kept = inode_kept v tree lists gone come loose new id n d stocked is at (inode_blocks v d) (inode_blocks (with_blocks v new) d) shifts low balance
