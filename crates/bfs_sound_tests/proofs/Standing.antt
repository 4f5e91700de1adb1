-- A tree stands on a volume, and the volume is sound with it, by what its inodes, trees and indices say.
use Rattle.std.proofs.Common.{◌≡◌, ◌≢◌, ◌↔◌, ◌≤◌, ◌<◌, ◌*◌, ◌⊎◌, inl, inr, ℕ, ℤ, pos, List, [], ◌∷◌, ◌++◌, length, Some, None, Bool, true, false, cond, ◌&&◌, refl, sym, ap, ◌∙◌, subst, arith, ⊎_elim}
use Rattle.std.specs.Prelude.{◌==◌, codes, nat_le, nat_lt}
use Rattle.std.specs.List.{AllByRecursion, list_all, filter, flat_map}
use Rattle.std.specs.FinMap.{get, find, empty, get-empty}
use Rattle.std.specs.Ordering.{is_eq}
use Rattle.bfs_base.specs.Keys.{text_cmp, IsTreeKind}
use Rattle.bfs_base.specs.Lists.{times, Has, counted_from}
use Rattle.bfs_base.specs.declared.kind.KeyKind.{KeyKind}
use Rattle.bfs_base.specs.declared.kind.KeyKind.TheVariants.{Text, I64}
use Rattle.bfs_bitmap.specs.Runs.{marked}
use Rattle.bfs_super.specs.Conditions.{natural}
use Rattle.bfs_inode.specs.Refusals.{IsInode}
use Rattle.bfs_node.specs.Page.{Row}
use Rattle.bfs_pages.specs.Maps.{assoc}
use Rattle.bfs_pages.specs.Order.{same_keys}
use Rattle.bfs_stream.specs.Places.{levels_at}
use Rattle.bfs_tree.specs.declared.call.Kind.TheVariants.{Dir}
use Rattle.bfs_tree.specs.Listings.{listed, listed_among}
use Rattle.bfs_tree.specs.Trees.{Node, Tree}
use Rattle.bfs_values.specs.Rows.{rows_in}
use Rattle.bfs_values.specs.Reached.{IsWholeTree, AreWritten, pairs_of}
use Rattle.bfs_sound.specs.Volumes.{Volume, sizes, bitmap_blocks, IsMarked}
use Rattle.bfs_sound.specs.Inodes.{HasBit, mode_bits, content, IsOwner, is_proper, rows_of, index_directory}
use Rattle.bfs_sound.specs.Nodes.{HasNode}
use Rattle.bfs_sound.specs.Listings.{IsChild, IsRow, Lists, IsIndex, HasIndexDirectory, IsIndexRow, IsIndexOf, Stands}
use Rattle.bfs_sound.specs.Owners.{node_blocks, index_blocks, fixed_blocks, reach, Accounts}
use Rattle.bfs_sound.proofs.Parts.{sound_from}
use Rattle.bfs_sound.specs.Whole.{HasIndices, IsSound}
use Rattle.bfs_sound_tests.specs.Worked.{index_rows, index_kinds, tree_of, tree_with}
use Rattle.bfs_sound_tests.proofs.Finite.{both, most, low, same, counted_all, none_above, text_one}
use Rattle.bfs_sound_tests.proofs.Plain.{IsTested, none_sorted, plain, nodes_are, each_node, each_index, index_is}
use Rattle.bfs_sound_tests.proofs.Leaves.{IsOneLeaf, IsValued, rows_are, whole_tree}
use Rattle.bfs_sound_tests.proofs.Streams.{IsSmall, has_levels}
use Rattle.std.specs.declared.cmp.Ordering.{Ordering}
use Rattle.std.specs.declared.cmp.Ordering.TheVariants.{Less, Equal, Greater}

-- an inode whose stream has a tree of one leaf with these rows
pub record HasTree (v : Volume) (id : ℕ) (kind : KeyKind) (rows : List Row) : Type 0 where
  pub owner : IsOwner v id
  pub tree : IsWholeTree kind (content v id)
  pub rows_of : rows_in kind (content v id) ≡ rows

pub tree_at : (v : Volume) (id : ℕ) (kind : KeyKind) (size : ℕ) (reached : List ℕ) (rows : List Row) → IsInode (v.blocks id) id v.geometry.shift → IsSmall (sizes v.geometry) (levels_at (sizes v.geometry) v.blocks id) size
    → IsOneLeaf kind (content v id) size reached rows → IsValued (content v id) rows reached → HasTree v id kind rows
tree_at v id kind size reached rows inode small leaf values = record {
  owner = record { inode = inode; stream = has_levels (sizes v.geometry) (levels_at (sizes v.geometry) v.blocks id) size small };
  tree = whole_tree kind (content v id) size reached rows leaf values;
  rows_of = rows_are kind (content v id) size reached rows leaf;
}

pub owner_at : (v : Volume) (id size : ℕ) → IsInode (v.blocks id) id v.geometry.shift → IsSmall (sizes v.geometry) (levels_at (sizes v.geometry) v.blocks id) size → IsOwner v id
owner_at v id size inode small = record { inode = inode; stream = has_levels (sizes v.geometry) (levels_at (sizes v.geometry) v.blocks id) size small }

tied : (o : Ordering) → is_eq o ≡ true → o ≡ Equal
tied Less e = let bad : false ≡ true = e in cc
tied Equal e = refl
tied Greater e = let bad : false ≡ true = e in cc

-- what holds of each row holds of the one that a name finds
pub row_all : (P : List ℕ → ℤ → Type 0) (rs : List Row) → AllByRecursion (λ r. P r.0 r.1) rs → (name : List ℕ) (value : ℤ) → assoc Text rs name ≡ Some value → P name value
row_all P [] all name value e = absurd (let bad : None ≡ Some value = e in cc)
row_all P (r ∷ rs) all name value e =
    elim (same_keys Text name r.0) as (λ b. same_keys Text name r.0 ≡ b → cond b (Some r.1) (assoc Text rs name) ≡ Some value → P name value) [
      | true ↦ λ t is. let k : name ≡ r.0 = text_one name r.0 (tied (text_cmp name r.0) t) in let w : r.1 ≡ value = cc in subst (λ z. P z value) (sym k) (subst (P r.0) w all.0)
      | false ↦ λ t is. row_all P rs all.1 name value is
    ] refl e

pub lists : (v : Volume) (tree : Tree) (d : ℕ) (n : Node) (rs : List Row) → rows_in Text (content v d) ≡ rs → AllByRecursion (λ r. IsRow tree d n r.0 r.1) rs
    → assoc Text rs (codes ".") ≡ Some (pos d) → assoc Text rs (codes "..") ≡ Some (pos n.parent)
    → ((name : List ℕ) (id : ℕ) → IsChild tree d name id → assoc Text rs name ≡ Some (pos id)) → Lists v tree d n
lists v tree d n rs are all dot dots children name value = subst (λ rows. (assoc Text rows name ≡ Some value) ↔ IsRow tree d n name value) (sym are) (row_all (IsRow tree d n) rs all name value, back)
  where
    back : IsRow tree d n name value → assoc Text rs name ≡ Some value
    back (inl p) = ap (assoc Text rs) p.0 ∙ dot ∙ ap Some (sym p.1)
    back (inr (inl p)) = ap (assoc Text rs) p.0 ∙ dots ∙ ap Some (sym p.1)
    back (inr (inr c)) = children name c.0 c.2 ∙ ap Some (sym c.1)

-- the bit of a block
abbrev pub bit : Volume → ℕ → ℕ
bit v k = marked (8 * v.geometry.block_size) (λ b. Some (v.blocks b)) k

-- the bitmap and the count of used blocks, by tests over all blocks of the volume
module _ (v : Volume) (xs : List ℕ) where
  pub record IsCounted : Type 0 where
    pub bits : list_all (λ k. (bit v k == times k xs) && nat_le (times k xs) 1) (counted_from 0 v.geometry.blocks) ≡ true
    pub inside : list_all (λ x. nat_lt x v.geometry.blocks) xs ≡ true
    pub used : v.geometry.used ≡ length xs

  module _ (c : IsCounted) where
    below : (k : ℕ) → k < v.geometry.blocks → (bit v k ≡ times k xs) × (times k xs ≤ 1)
    below k h =
        let p = both (bit v k == times k xs) (nat_le (times k xs) 1) (counted_all (λ k. (bit v k == times k xs) && nat_le (times k xs) 1) 0 v.geometry.blocks c.bits k (omega arith) (omega (arith, h))) in
        (same (bit v k) (times k xs) p.0, most (times k xs) 1 p.1)

    above : (k : ℕ) → v.geometry.blocks ≤ k → times k xs ≡ 0
    above k h = none_above xs v.geometry.blocks k c.inside h

    is_below : (k b : ℕ) → (k < b) ⊎ (b ≤ k)
    is_below k b = by (nat_lt k b) refl
      where
        by : (t : Bool) → nat_lt k b ≡ t → (k < b) ⊎ (b ≤ k)
        by true e = inl (low k b e)
        by false e = inr (grind (arith, e))

    once : (k : ℕ) → times k xs ≤ 1
    once k = ⊎_elim (λ h. (below k h).1) (λ h. let z = above k h in omega (arith, z)) (is_below k v.geometry.blocks)

    marks : (k : ℕ) → IsMarked v k ↔ Has xs k
    marks k = (
      λ m. let b = (below k m.0).0 in let one : bit v k ≡ 1 = m.1 in omega (arith, b, one),
      λ h. let some : 0 < times k xs = h in
          ⊎_elim (λ in_it. (in_it, let b = below k in_it in let e = b.0 in let l = b.1 in let r : bit v k ≡ 1 = omega (arith, e, l, some) in r)) (λ out. absurd (let z = above k out in omega (arith, z, some))) (is_below k v.geometry.blocks),
    )

    pub accounts_are : Accounts v xs
    accounts_are = record { once = once; marks = marks; used = c.used }

-- an index of a kind whose rows are those that the tree's rule gives
pub record IsListing (v : Volume) (tree : Tree) (name : List ℕ) (id : ℕ) (kind : KeyKind) : Type 0 where
  pub index : IsIndex v id kind
  pub written : AreWritten (content v id) (rows_in kind (content v id)) (listed tree name kind)

pub listing : (v : Volume) (nodes : List (ℕ × Node)) (name : List ℕ) (id : ℕ) (kind : KeyKind) (rows : List Row) → IsTested 4 nodes index_kinds → HasTree v id kind rows → HasBit (mode_bits v id) 29 → IsTreeKind kind
    → listed_among 4 name kind nodes ≡ flat_map (pairs_of (content v id)) rows → IsListing v (tree_of nodes) name id kind
listing v nodes name id kind rows tested t bit is_kind are = record {
  index = record { owner = t.owner; mode = bit; kind_is = is_kind; tree = t.tree };
  written = subst (λ rs. AreWritten (content v id) rs (listed (tree_of nodes) name kind)) (sym t.rows_of) (record { are = ap (listed_among 4 name kind) (nodes_are 4 nodes index_kinds tested) ∙ are });
}

-- the blocks that are reached, where the nodes are written out
abbrev pub reach_of : Volume → List (ℕ × Node) → List ℕ
reach_of v nodes = fixed_blocks v ++ (bitmap_blocks v.geometry ++ (flat_map (node_blocks v) nodes ++ index_blocks v))

pub reached : {indices : List (List ℕ × KeyKind)} (v : Volume) (nodes : List (ℕ × Node)) (xs : List ℕ) → IsTested 4 nodes indices → reach_of v nodes ≡ xs → reach v (tree_with indices nodes) ≡ xs
reached {indices = indices} v nodes xs tested e = ap (reach_of v) (nodes_are 4 nodes indices tested) ∙ e

-- the children of a directory, by the nodes
pub children_of : {indices : List (List ℕ × KeyKind)} (nodes : List (ℕ × Node)) (d : ℕ) (rs : List Row) → IsTested 4 nodes indices
    → AllByRecursion (λ e. e.0 ≢ 4 → e.1.parent ≡ d → assoc Text rs e.1.name ≡ Some (pos e.0)) nodes
    → (name : List ℕ) (id : ℕ) → IsChild (tree_with indices nodes) d name id → assoc Text rs name ≡ Some (pos id)
children_of {indices = indices} nodes d rs tested all name id c =
    subst (λ k. assoc Text rs k ≡ Some (pos id)) c.named (each_node 4 nodes indices tested (λ id n. id ≢ 4 → n.parent ≡ d → assoc Text rs n.name ≡ Some (pos id)) all id c.node c.there c.not_root c.parent)

pub apart_by : (a b : ℕ) → (a == b) ≡ false → a ≢ b
apart_by a b e is = grind (arith, e, is)

module _ (v : Volume) (nodes : List (ℕ × Node)) (root : v.geometry.root ≡ 4) (directory_at : v.geometry.indices ≡ 7) (tested : IsTested 4 nodes index_kinds)
    (all_nodes : AllByRecursion (λ e. HasNode v e.0 e.1) nodes) (all_lists : AllByRecursion (λ e. e.1.kind ≡ Dir → Lists v (tree_of nodes) e.0 e.1) nodes)
    (directory : IsIndex v 7 Text) (rows : rows_in Text (content v 7) ≡ index_rows)
    (by_time : IsListing v (tree_of nodes) (codes "last_modified") 16 I64) (by_name : IsListing v (tree_of nodes) (codes "name") 10 Text) (by_size : IsListing v (tree_of nodes) (codes "size") 13 I64)
    (xs : List ℕ) (reach_is : reach v (tree_of nodes) ≡ xs) (counted : IsCounted v xs) where
  abbrev t : Tree
  t = tree_of nodes

  directory_there : index_directory v ≡ Some 7
  directory_there = ap (λ id. cond (id == 0) None (Some id)) directory_at

  rows_proper : rows_of v (index_directory v) ≡ index_rows
  rows_proper = ap (rows_of v) directory_there ∙ ap (λ rs. filter (λ row. is_proper row.0) rs) rows

  some_index : t.indices ≡ empty → ⊥
  some_index e =
      let none : None ≡ Some Text = sym (get-empty text_cmp (codes "name")) ∙ sym (ap (λ m. get m (codes "name")) e) ∙ index_is 4 nodes index_kinds tested (codes "name") Text refl in
      cc

  index_row : (name : List ℕ) (value : ℤ) → IsIndexRow v name value → assoc Text index_rows name ≡ Some value
  index_row name value row = subst (λ rs. assoc Text rs name ≡ Some value) rows_proper row

  row_index : (name : List ℕ) (value : ℤ) → assoc Text index_rows name ≡ Some value → IsIndexRow v name value
  row_index name value row = subst (λ rs. assoc Text rs name ≡ Some value) (sym rows_proper) row

  index_of : (name : List ℕ) (value : ℤ) → IsIndexRow v name value → IsIndexOf v t name value
  index_of name value row = row_all (IsIndexOf v t) index_rows (
    record { kind = I64; there = index_is 4 nodes index_kinds tested (codes "last_modified") I64 refl; number = refl; index = by_time.index },
    (
      record { kind = Text; there = index_is 4 nodes index_kinds tested (codes "name") Text refl; number = refl; index = by_name.index },
      (
        record { kind = I64; there = index_is 4 nodes index_kinds tested (codes "size") I64 refl; number = refl; index = by_size.index },
        tt,
      ),
    ),
  ) name value (index_row name value row)

  one_kind : (name : List ℕ) (own kind : KeyKind) (id : ℕ) → find text_cmp name index_kinds ≡ Some own → IsListing v t name id own → get t.indices name ≡ Some kind
      → AreWritten (content v id) (rows_in kind (content v id)) (listed t name kind)
  one_kind name own kind id first l second =
      let twice : Some own ≡ Some kind = sym (index_is 4 nodes index_kinds tested name own first) ∙ second in
      let one : own ≡ kind = cc in
      subst (λ k. AreWritten (content v id) (rows_in k (content v id)) (listed t name k)) one l.written

  listings : HasIndices v t
  listings name value kind row there = row_all (λ name value. (kind : KeyKind) → get t.indices name ≡ Some kind → AreWritten (content v (natural value)) (rows_in kind (content v (natural value))) (listed t name kind)) index_rows (
    (λ k is. one_kind (codes "last_modified") I64 k 16 refl by_time is),
    (
      (λ k is. one_kind (codes "name") Text k 10 refl by_name is),
      (
        (λ k is. one_kind (codes "size") I64 k 13 refl by_size is),
        tt,
      ),
    ),
  ) name value (index_row name value row) kind there

  no_more : (name : List ℕ) (kind : KeyKind) → get t.indices name ≡ Some kind → (value : ℤ) × IsIndexRow v name value
  no_more name kind there = each_index 4 nodes index_kinds tested (λ name kind. (value : ℤ) × IsIndexRow v name value) (
    (pos 16, row_index (codes "last_modified") (pos 16) refl),
    (
      (pos 10, row_index (codes "name") (pos 10) refl),
      (
        (pos 13, row_index (codes "size") (pos 13) refl),
        tt,
      ),
    ),
  ) name kind there

  stands : Stands v t
  stands = record {
    root = sym root;
    nodes = λ id n is. each_node 4 nodes index_kinds tested (HasNode v) all_nodes id n is;
    listings = λ id n is dir. each_node 4 nodes index_kinds tested (λ id n. n.kind ≡ Dir → Lists v t id n) all_lists id n is dir;
    directory = subst (HasIndexDirectory v) (sym directory_there) directory;
    none = ((λ e. absurd (let bad : 7 ≡ 0 = sym directory_at ∙ e in omega (arith, bad))), (λ e. absurd (some_index e)));
    indices = index_of;
    no_more = no_more;
  }

  pub sound : IsSound v t
  sound = sound_from v t (plain 4 nodes index_kinds tested) stands listings (subst (Accounts v) (sym reach_is) (accounts_are v xs counted))

-- a volume without an index directory, and a tree without indices
module _ (v : Volume) (nodes : List (ℕ × Node)) (root : v.geometry.root ≡ 4) (no_directory : v.geometry.indices ≡ 0) (tested : IsTested 4 nodes [])
    (all_nodes : AllByRecursion (λ e. HasNode v e.0 e.1) nodes) (all_lists : AllByRecursion (λ e. e.1.kind ≡ Dir → Lists v (tree_with [] nodes) e.0 e.1) nodes)
    (xs : List ℕ) (reach_is : reach v (tree_with [] nodes) ≡ xs) (counted : IsCounted v xs) where
  abbrev bare : Tree
  bare = tree_with [] nodes

  none_there : index_directory v ≡ None
  none_there = ap (λ id. cond (id == 0) None (Some id)) no_directory

  no_rows : rows_of v (index_directory v) ≡ []
  no_rows = ap (rows_of v) none_there

  no_row : (name : List ℕ) (value : ℤ) → IsIndexRow v name value → ⊥
  no_row name value row = let bad : None ≡ Some value = subst (λ rs. assoc Text rs name ≡ Some value) no_rows row in cc

  no_index : (name : List ℕ) (kind : KeyKind) → get bare.indices name ≡ Some kind → ⊥
  no_index name kind there = each_index 4 nodes [] tested (λ _ _. ⊥) tt name kind there

  bare_stands : Stands v bare
  bare_stands = record {
    root = sym root;
    nodes = λ id n is. each_node 4 nodes [] tested (HasNode v) all_nodes id n is;
    listings = λ id n is dir. each_node 4 nodes [] tested (λ id n. n.kind ≡ Dir → Lists v bare id n) all_lists id n is dir;
    directory = subst (HasIndexDirectory v) (sym none_there) tt;
    none = ((λ _. none_sorted), (λ _. no_directory));
    indices = λ name value row. absurd (no_row name value row);
    no_more = λ name kind there. absurd (no_index name kind there);
  }

  pub bare_sound : IsSound v bare
  bare_sound = sound_from v bare (plain 4 nodes [] tested) bare_stands (λ name value kind row. absurd (no_row name value row)) (subst (Accounts v) (sym reach_is) (accounts_are v xs counted))
