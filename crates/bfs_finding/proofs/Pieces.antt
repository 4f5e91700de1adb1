-- The blocks that a tree reaches, in pieces: one for each way to an inode.
use Rattle.std.proofs.Common.{◌≡◌, ◌≢◌, ◌≤◌, ◌+◌, inl, inr, ⊎_elim, ℕ, ℤ, pos, List, [], ◌∷◌, ◌++◌, Option, Some, None, Bool, true, false, cond, ◌&&◌, ◌==◌, map, refl, sym, ap, ◌∙◌, subst, arith}
use Rattle.std.specs.Prelude.{◌/◌, ◌%◌}
use Rattle.std.specs.List.{flat_map}
use Rattle.std.specs.FinMap.{entries}
use Rattle.bfs_base.specs.Lists.{times}
use Rattle.bfs_base.specs.declared.kind.KeyKind.TheVariants.{Text}
use Rattle.bfs_node.specs.Page.{Row}
use Rattle.bfs_pages.specs.Maps.{assoc}
use Rattle.bfs_sound.proofs.Doubles.{times-append}
use Rattle.bfs_tree.specs.declared.call.Kind.{Kind}
use Rattle.bfs_tree.specs.declared.call.Kind.TheVariants.{File, Dir, Link}
use Rattle.bfs_tree.specs.Trees.{Node, Tree, IsNode, is_link}
use Rattle.bfs_values.specs.Rows.{rows_in}
use Rattle.bfs_sound.specs.Volumes.{Volume, bitmap_blocks}
use Rattle.bfs_sound.specs.Inodes.{content, inode_blocks, is_short, is_proper, kind_bits, mode_bits, proper_rows, id_of, rows_of, inodes_of, index_directory}
use Rattle.bfs_sound.specs.Attributes.{attribute_directory}
use Rattle.bfs_sound.specs.Nodes.{HasContent}
use Rattle.bfs_sound.specs.Listings.{IsChild}
use Rattle.bfs_sound.specs.Owners.{In, own_blocks, owner_blocks, node_blocks, index_blocks, fixed_blocks, reach}
use Rattle.bfs_sound.proofs.Counts.{in_map, in_left, in_right, in_flat, times_member, times_two}
use Rattle.bfs_sound.proofs.Parts.{in_entries}
use Rattle.bfs_finding.proofs.OneNodes.{pos_same}
use Rattle.bfs_finding.specs.Ways.{Way, to_system, to_root, to_child, to_directory, to_attribute, to_indices, to_index, says, IsReached, root_reached, row_reached, Arrives, lacks_stream, blocks_by}
use Rattle.bfs_finding.proofs.Upright.{Upright}
use Rattle.bfs_finding.proofs.Rows.{in_filter, in_assoc, tree_ascends}

abbrev pub Piece : Type 0
Piece = Way × List ℕ

abbrev pub blocks_in : Piece → List ℕ
blocks_in p = p.1

abbrev pub own_way : ℕ → ℕ × Node → Way
own_way root e = cond (e.0 == root) to_root (to_child e.1.parent e.1.name)

-- a directory of inodes, if there is one, and the inodes that its rows name
abbrev pub directory_pieces : Volume → Way → (List ℕ → Way) → Option ℕ → List Piece
directory_pieces v own by_name None = []
directory_pieces v own by_name (Some d) = (own, inode_blocks v d) ∷ map (λ (row : Row). (by_name row.0, inode_blocks v (id_of row))) (proper_rows v d)

abbrev pub node_pieces : Volume → ℕ × Node → List Piece
node_pieces v e = (own_way v.geometry.root e, own_blocks v e) ∷ directory_pieces v (to_directory e.0) (to_attribute e.0) (attribute_directory v e.0)

abbrev pub index_pieces : Volume → List Piece
index_pieces v = directory_pieces v to_indices to_index (index_directory v)

abbrev pub pieces : Volume → Tree → List Piece
pieces v tree = (to_system, fixed_blocks v ++ bitmap_blocks v.geometry) ∷ (flat_map (node_pieces v) (entries tree.nodes) ++ index_pieces v)

-- the blocks of the pieces are those of the tree
times_flat : {X : Type 0} (k : ℕ) (f : X → List ℕ) (xs ys : List X) → times k (flat_map f (xs ++ ys)) ≡ times k (flat_map f xs) + times k (flat_map f ys)
times_flat k f [] ys = omega arith
times_flat k f (x ∷ xs) ys =
    let ih : times k (flat_map f (xs ++ ys)) ≡ times k (flat_map f xs) + times k (flat_map f ys) = times_flat k f xs ys in
    let a = times-append k (f x) (flat_map f (xs ++ ys)) in
    let b = times-append k (f x) (flat_map f xs) in
    omega (arith, ih, a, b)

mapped : {X : Type 0} (f : X → Way) (v : Volume) (g : X → ℕ) (xs : List X) → flat_map blocks_in (map (λ x. (f x, inode_blocks v (g x))) xs) ≡ flat_map (inode_blocks v) (map g xs)
mapped f v g [] = refl
mapped f v g (x ∷ xs) = ap (λ l. inode_blocks v (g x) ++ l) (mapped f v g xs)

directory_are : (v : Volume) (own : Way) (by_name : List ℕ → Way) (o : Option ℕ) → flat_map blocks_in (directory_pieces v own by_name o) ≡ flat_map (inode_blocks v) (inodes_of v o)
directory_are v own by_name None = refl
directory_are v own by_name (Some d) = ap (λ l. inode_blocks v d ++ l) (mapped (λ (row : Row). by_name row.0) v id_of (proper_rows v d))

node_are : (v : Volume) (e : ℕ × Node) → flat_map blocks_in (node_pieces v e) ≡ node_blocks v e
unfolding node_blocks
node_are v e = ap (λ l. own_blocks v e ++ l) (directory_are v (to_directory e.0) (to_attribute e.0) (attribute_directory v e.0))

index_are : (v : Volume) → flat_map blocks_in (index_pieces v) ≡ index_blocks v
unfolding index_blocks
index_are v = directory_are v to_indices to_index (index_directory v)

nodes_are : (k : ℕ) (v : Volume) (es : List (ℕ × Node)) → times k (flat_map blocks_in (flat_map (node_pieces v) es)) ≡ times k (flat_map (node_blocks v) es)
nodes_are k v [] = refl
nodes_are k v (e ∷ es) =
    let ih : times k (flat_map blocks_in (flat_map (node_pieces v) es)) ≡ times k (flat_map (node_blocks v) es) = nodes_are k v es in
    let a = times_flat k blocks_in (node_pieces v e) (flat_map (node_pieces v) es) in
    let b = times-append k (node_blocks v e) (flat_map (node_blocks v) es) in
    let c : times k (flat_map blocks_in (node_pieces v e)) ≡ times k (node_blocks v e) = ap (λ l. times k l) (node_are v e) in
    omega (arith, ih, a, b, c)

pieces_are : (k : ℕ) (v : Volume) (tree : Tree) → times k (flat_map blocks_in (pieces v tree)) ≡ times k (reach v tree)
pieces_are k v tree =
    let es : List (ℕ × Node) = entries tree.nodes in
    let a = times-append k (fixed_blocks v ++ bitmap_blocks v.geometry) (flat_map blocks_in (flat_map (node_pieces v) es ++ index_pieces v)) in
    let b = times-append k (fixed_blocks v) (bitmap_blocks v.geometry) in
    let c = times_flat k blocks_in (flat_map (node_pieces v) es) (index_pieces v) in
    let d = nodes_are k v es in
    let e : times k (flat_map blocks_in (index_pieces v)) ≡ times k (index_blocks v) = ap (λ l. times k l) (index_are v) in
    let f = times-append k (fixed_blocks v) (bitmap_blocks v.geometry ++ (flat_map (node_blocks v) es ++ index_blocks v)) in
    let g = times-append k (bitmap_blocks v.geometry) (flat_map (node_blocks v) es ++ index_blocks v) in
    let h = times-append k (flat_map (node_blocks v) es) (index_blocks v) in
    omega (arith, a, b, c, d, e, f, g, h)

-- a row's piece is among those of its directory
row_piece : (v : Volume) (own : Way) (by_name : List ℕ → Way) (o : Option ℕ) (name : List ℕ) (b : ℕ) → In (name, pos b) (rows_of v o) → In (by_name name, inode_blocks v b) (directory_pieces v own by_name o)
row_piece v own by_name None name b i = absurd i
row_piece v own by_name (Some d) name b i = inr (in_map (λ (row : Row). (by_name row.0, inode_blocks v (id_of row))) (proper_rows v d) (name, pos b) i)

own_piece : (v : Volume) (own : Way) (by_name : List ℕ → Way) (o : Option ℕ) (b : ℕ) → o ≡ Some b → In (own, inode_blocks v b) (directory_pieces v own by_name o)
own_piece v own by_name o b is = subst (λ (p : Option ℕ). In (own, inode_blocks v b) (directory_pieces v own by_name p)) (sym is) (inl refl)

same_dir : (k : Kind) → kind_bits k ≡ 4 → k ≡ Dir
same_dir File e = absurd (omega (arith, e))
same_dir Dir e = refl
same_dir Link e = absurd (omega (arith, e))

link_bits : (k : Kind) → (kind_bits k == 10) ≡ is_link k
link_bits File = refl
link_bits Dir = refl
link_bits Link = refl

pub eq_yes : (a b : ℕ) → (a == b) ≡ true → a ≡ b
eq_yes a b e = grind (arith, e)

eq_same : (a : ℕ) → (a == a) ≡ true
eq_same a = grind arith

eq_no : (a b : ℕ) → a ≢ b → (a == b) ≡ false
eq_no a b apart = by_test (a == b) refl
  where
    by_test : (c : Bool) → (a == b) ≡ c → c ≡ false
    by_test true t = absurd (apart (eq_yes a b t))
    by_test false t = refl

pub not_both : false ≡ true → ⊥
not_both e = cc

module _ (v : Volume) (tree : Tree) (s : Upright v tree) where
  root_is : tree.root ≡ v.geometry.root
  root_is = s.root

  pub says_is : (id : ℕ) (n : Node) → IsNode tree id n → says v id Dir ≡ true → n.kind ≡ Dir
  says_is id n there told = let h = s.nodes id n there in same_dir n.kind (sym h.kind ∙ eq_yes (mode_bits v id / 4096 % 16) 4 told)

  -- the rows of a directory that aren't `.` and `..` are children
  pub row_child : (d : ℕ) (m : Node) → IsNode tree d m → m.kind ≡ Dir → (name : List ℕ) (value : ℤ) → In (name, value) (proper_rows v d) → (id : ℕ) × (value ≡ pos id) × IsChild tree d name id
  row_child d m there dir name value i =
      let in_all = in_filter (λ (row : Row). is_proper row.0) (name, value) (rows_in Text (content v d)) i in
      let h = s.nodes d m there in
      let c = subst (λ k. HasContent v d m k) dir h.content_is in
      let found : assoc Text (rows_in Text (content v d)) name ≡ Some value = in_assoc (rows_in Text (content v d)) name value (tree_ascends Text (content v d) c.1) in_all.0 in
      ⊎_elim (λ dot. absurd (not_both (ap is_proper (sym dot.0) ∙ in_all.1)))
      (λ rest. ⊎_elim (λ dots. absurd (not_both (ap is_proper (sym dots.0) ∙ in_all.1))) (λ child. child) rest)
      ((s.listings d m there dir name value).0 found)

  -- what is reached is a node
  pub reached_node : (id : ℕ) → IsReached v id → (n : Node) × IsNode tree id n
  reached_node _ root_reached = let r = s.plain.root in (r.0, subst (λ k. IsNode tree k r.0) root_is r.1)
  reached_node _ (row_reached d name id up told i) =
      let m = reached_node d up in
      let c = row_child d m.0 m.1 (says_is d m.0 m.1 told) name (pos id) i in
      let same : id ≡ c.0 = pos_same id c.0 c.1 in
      (c.2.node, subst (λ k. IsNode tree k c.2.node) (sym same) c.2.there)

  pub child_at : (d : ℕ) (name : List ℕ) (id : ℕ) → Arrives v (to_child d name) id → IsChild tree d name id
  child_at d name id a =
      let m = reached_node d a.0 in
      let c = row_child d m.0 m.1 (says_is d m.0 m.1 a.1) name (pos id) a.2 in
      subst (λ k. IsChild tree d name k) (sym (pos_same id c.0 c.1)) c.2

  part_is : (id : ℕ) (n : Node) → IsNode tree id n → owner_blocks v (id, lacks_stream v id) ≡ own_blocks v (id, n)
  part_is id n there =
      let h = s.nodes id n there in
      ap (λ c. cond (c && is_short v id) (id ∷ []) (inode_blocks v id)) (ap (λ b. b == 10) h.kind ∙ link_bits n.kind)

  node_piece : (id : ℕ) (n : Node) (p : Piece) → IsNode tree id n → In p (node_pieces v (id, n)) → In p (pieces v tree)
  node_piece id n p there i = inr (in_left (flat_map (node_pieces v) (entries tree.nodes)) (index_pieces v) p (in_flat (node_pieces v) (entries tree.nodes) (id, n) (in_entries tree.nodes id n there) p i))

  index_piece : (p : Piece) → In p (index_pieces v) → In p (pieces v tree)
  index_piece p i = inr (in_right (flat_map (node_pieces v) (entries tree.nodes)) (index_pieces v) p i)

  -- each way that arrives has its piece
  piece_of : (way : Way) (b : ℕ) → Arrives v way b → In (way, blocks_by v way b) (pieces v tree)
  piece_of to_system b a = inl refl
  piece_of to_root b a =
      let r = reached_node v.geometry.root root_reached in
      let there : IsNode tree b r.0 = subst (λ k. IsNode tree k r.0) (sym a) r.1 in
      let way : own_way v.geometry.root (b, r.0) ≡ to_root = ap (λ c. cond c to_root (to_child r.0.parent r.0.name)) (ap (λ k. k == v.geometry.root) a ∙ eq_same v.geometry.root) in
      let part = part_is b r.0 there in
      node_piece b r.0 (to_root, owner_blocks v (b, lacks_stream v b)) there (inl (λ i. (sym way i, part i)))
  piece_of (to_child d name) b a =
      let c = child_at d name b a in
      let other : (b == v.geometry.root) ≡ false = eq_no b v.geometry.root (λ e. c.not_root (e ∙ sym root_is)) in
      let way : own_way v.geometry.root (b, c.node) ≡ to_child d name =
      ap (λ t. cond t to_root (to_child c.node.parent c.node.name)) other ∙ ap (λ p. to_child p c.node.name) c.parent ∙ ap (λ w. to_child d w) c.named in
      let part = part_is b c.node c.there in
      node_piece b c.node (to_child d name, owner_blocks v (b, lacks_stream v b)) c.there (inl (λ i. (sym way i, part i)))
  piece_of (to_directory id) b a =
      let n = reached_node id a.0 in
      node_piece id n.0 (to_directory id, inode_blocks v b) n.1 (inr (own_piece v (to_directory id) (to_attribute id) (attribute_directory v id) b a.1))
  piece_of (to_attribute id name) b a =
      let n = reached_node id a.0 in
      node_piece id n.0 (to_attribute id name, inode_blocks v b) n.1 (inr (row_piece v (to_directory id) (to_attribute id) (attribute_directory v id) name b a.1))
  piece_of to_indices b a = index_piece (to_indices, inode_blocks v b) (own_piece v to_indices to_index (index_directory v) b a)
  piece_of (to_index name) b a = index_piece (to_index name, inode_blocks v b) (row_piece v to_indices to_index (index_directory v) name b a)

  -- the blocks of a way are reached, those of two ways together
  pub way_reaches : (k : ℕ) (way : Way) (b : ℕ) → Arrives v way b → times k (blocks_by v way b) ≤ times k (reach v tree)
  way_reaches k way b a = subst (λ n. times k (blocks_by v way b) ≤ n) (pieces_are k v tree) (times_member k blocks_in (pieces v tree) (way, blocks_by v way b) (piece_of way b a))

  pub two_reach : (k : ℕ) (one other : Way) (b c : ℕ) → Arrives v one b → Arrives v other c → one ≢ other → times k (blocks_by v one b) + times k (blocks_by v other c) ≤ times k (reach v tree)
  two_reach k one other b c a d apart =
      subst (λ n. times k (blocks_by v one b) + times k (blocks_by v other c) ≤ n) (pieces_are k v tree)
      (times_two k blocks_in (pieces v tree) (one, blocks_by v one b) (other, blocks_by v other c) (piece_of one b a) (piece_of other c d) (λ e. apart (ap (λ (p : Piece). p.0) e)))
