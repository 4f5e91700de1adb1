-- What follows where a superblock with blocks is whole with a tree: which blocks are reached, and that a row of the root
-- directory names a node.
use Rattle.std.proofs.Common.{◌≡◌, ◌≢◌, ◌≤◌, ◌<◌, ◌⊎◌, inl, inr, ℕ, ℤ, pos, List, [], ◌∷◌, ◌++◌, length, Some, None, Bool, true, false, cond, T, refl, sym, ap, ◌∙◌, subst, arith, ⊎_elim}
use Rattle.std.proofs.lemmas.Bool.{true≢false}
use Rattle.std.specs.Prelude.{◌==◌, codes, unwrap_or}
use Rattle.std.specs.List.{AllByRecursion, flat_map}
use Rattle.std.specs.Str.{bytes_eq, is_utf8, chars}
use Rattle.std.specs.Char.{encode_utf8}
use Rattle.std.specs.Ordering.{nat_cmp, eq_by_cmp, is_lt}
use Rattle.std.specs.FinMap.{get, get-empty, entries, entries_sorted, get-entries, find, is_sorted}
use Rattle.std.specs.FinMap.Entries.{below_all}
use Rattle.bfs_base.specs.Keys.{text_cmp}
use Rattle.bfs_base.specs.Lists.{times, Has}
use Rattle.bfs_base.specs.declared.kind.KeyKind.TheVariants.{Text, I64}
use Rattle.bfs_node.specs.Page.{Row}
use Rattle.bfs_pages.specs.Maps.{assoc}
use Rattle.bfs_stream.proofs.Doubles.{times-append}
use Rattle.bfs_stream.proofs.Frames.{has_left, has_right}
use Rattle.bfs_super.specs.Conditions.{natural}
use Rattle.bfs_super.specs.declared.sup.Super.{Super}
use Rattle.bfs_smalldata.specs.Items.{Item}
use Rattle.bfs_tree.specs.declared.call.Kind.{Kind}
use Rattle.bfs_tree.specs.declared.call.Kind.TheVariants.{File, Dir, Link}
use Rattle.bfs_tree.specs.Names.{is_bad_name}
use Rattle.bfs_tree.specs.Trees.{Node, Tree, IsNode, IsDirectory, HasBuiltIn, HasPlainIndices, LeadsTo, at_top, by_parent}
use Rattle.bfs_values.specs.Rows.{rows_in}
use Rattle.bfs_values.specs.Reached.{IsWholeTree}
use Rattle.bfs_values.specs.Values.{HasValues}
use Rattle.bfs_sound.specs.Volumes.{Volume, bitmap_blocks, IsMarked}
use Rattle.bfs_sound.specs.Inodes.{kind_bits, content, inode_blocks}
use Rattle.bfs_sound.specs.Attributes.{attribute_directory, attribute_inodes}
use Rattle.bfs_sound.specs.Nodes.{HasNode}
use Rattle.bfs_sound.specs.Listings.{IsChild, IsRow, IsIndexRow, IsIndexOf, Lists}
use Rattle.bfs_sound.specs.Owners.{has_no_stream, node_blocks, index_blocks, fixed_blocks, reach}
use Rattle.bfs_sound.specs.Whole.{volume_of, Whole}
use Rattle.bfs_sound.proofs.Counts.{In, has_member}
use Rattle.bfs_sound.proofs.Parts.{in_entries, reach_parts}
use Rattle.bfs_sound_tests.proofs.Finite.{same, itself, both}
use Rattle.bfs_sound_tests.proofs.Standing.{bit, row_all}

-- the kind of a node, by the bits of its mode
pub dir_kind : (k : Kind) → 4 ≡ kind_bits k → k ≡ Dir
dir_kind File e = let bad : 4 ≡ 8 = e in absurd (omega (arith, bad))
dir_kind Dir e = refl
dir_kind Link e = let bad : 4 ≡ 10 = e in absurd (omega (arith, bad))

pub link_kind : (k : Kind) → 10 ≡ kind_bits k → k ≡ Link
link_kind File e = let bad : 10 ≡ 8 = e in absurd (omega (arith, bad))
link_kind Dir e = let bad : 10 ≡ 4 = e in absurd (omega (arith, bad))
link_kind Link e = refl

-- the items of small data are those that its bytes say
pub same_items : (a b : List Item) → Some a ≡ Some b → a ≡ b
same_items a b e = ap (λ o. unwrap_or o a) e

-- an entry is found by its key
below_in : (k : ℕ) (es : List (ℕ × Node)) (e : ℕ × Node) → below_all nat_cmp k es ≡ true → In e es → is_lt (nat_cmp k e.0) ≡ true
below_in k [] e h among = absurd among
below_in k (x ∷ xs) e h (inl one) = subst (λ (y : ℕ × Node). is_lt (nat_cmp k y.0) ≡ true) (sym one) (both (is_lt (nat_cmp k x.0)) (below_all nat_cmp k xs) h).0
below_in k (x ∷ xs) e h (inr later) = below_in k xs e (both (is_lt (nat_cmp k x.0)) (below_all nat_cmp k xs) h).1 later

above_apart : (k q : ℕ) → is_lt (nat_cmp k q) ≡ true → eq_by_cmp nat_cmp q k ≡ false
above_apart k q e = grind (arith, e)

ties : (q : ℕ) → eq_by_cmp nat_cmp q q ≡ true
ties q = grind arith

found_in : (es : List (ℕ × Node)) (e : ℕ × Node) → is_sorted nat_cmp es ≡ true → In e es → find nat_cmp e.0 es ≡ Some e.1
found_in [] e h among = absurd among
found_in (x ∷ xs) e h (inl one) =
    ap (λ (y : ℕ × Node). cond (eq_by_cmp nat_cmp e.0 y.0) (Some y.1) (find nat_cmp e.0 xs)) (sym one) ∙ ap (λ b. cond b (Some e.1) (find nat_cmp e.0 xs)) (ties e.0)
found_in (x ∷ xs) e h (inr later) =
    let p = both (below_all nat_cmp x.0 xs) (is_sorted nat_cmp xs) h in
    ap (λ b. cond b (Some x.1) (find nat_cmp e.0 xs)) (above_apart x.0 e.0 (below_in x.0 xs e p.0 later)) ∙ found_in xs e p.1 later

true_is : (b : Bool) → T b → b ≡ true
true_is true h = refl
true_is false h = absurd h

node_of : (tree : Tree) (e : ℕ × Node) → In e (entries tree.nodes) → IsNode tree e.0 e.1
node_of tree e among = get-entries tree.nodes e.0 ∙ found_in (entries tree.nodes) e (true_is (is_sorted nat_cmp (entries tree.nodes)) (entries_sorted tree.nodes)) among

-- a number that stands in none of the lists
none_flat : {X : Type 0} (k : ℕ) (f : X → List ℕ) (es : List X) → ((e : X) → In e es → times k (f e) ≡ 0) → times k (flat_map f es) ≡ 0
none_flat k f [] none = refl
none_flat k f (x ∷ es) none =
    let here : times k (f x) ≡ 0 = none x (inl refl) in
    let later : times k (flat_map f es) ≡ 0 = none_flat k f es (λ e i. none e (inr i)) in
    omega (arith, times-append k (f x) (flat_map f es), here, later)

first_here : (id : ℕ) (xs : List ℕ) → Has (id ∷ xs) id
first_here id xs = let t : (id == id) ≡ true = grind arith in let e : ◌≡◌ {A = ℕ} (cond (id == id) 1 0) 1 = ap (λ b. cond b 1 0) t in omega (arith, e)

-- an id from which parents lead to the top is the top, or there is a node under the top
Below : Tree → ℕ → Type 0
Below tree top = (c : ℕ) × (m : Node) × IsNode tree c m × (c ≢ top) × (m.parent ≡ top)

under : (tree : Tree) (top id : ℕ) → LeadsTo tree top id → (id ≡ top) ⊎ Below tree top
unfolding Below
under tree top _ at_top = inl refl
under tree top _ (by_parent id node is rest) = by (id == top) refl (under tree top node.parent rest)
  where
    other : (id == top) ≡ false → id ≢ top
    other e s = grind (arith, e, s)

    by : (b : Bool) → (id == top) ≡ b → (node.parent ≡ top) ⊎ Below tree top → (id ≡ top) ⊎ Below tree top
    by b e (inr more) = inr more
    by true e (inl up) = inl (same id top e)
    by false e (inl up) = inr (id, node, is, other e, up)

module _ (s : Super) (blocks : ℕ → List ℕ) (tree : Tree) (w : Whole s blocks tree) where
  abbrev v : Volume
  v = volume_of s blocks

  abbrev root : ℕ
  root = v.geometry.root

  root_is : IsDirectory tree root
  root_is = subst (IsDirectory tree) w.sound.nodes.stands.root w.sound.nodes.plain.root

  root_lists : Lists v tree root root_is.0
  root_lists = w.sound.nodes.stands.listings root root_is.0 root_is.1 root_is.2

  -- a row of a directory but `.` and `..` names a child
  pub child_in : (d : ℕ) (n : Node) → IsNode tree d n → n.kind ≡ Dir → (rs : List Row) → rows_in Text (content v d) ≡ rs → (name : List ℕ) (id : ℕ) → assoc Text rs name ≡ Some (pos id)
      → bytes_eq name (codes ".") ≡ false → bytes_eq name (codes "..") ≡ false → IsChild tree d name id
  child_in d n is dir rs are name id row one two = by ((w.sound.nodes.stands.listings d n is dir name (pos id)).0 (subst (λ rows. assoc Text rows name ≡ Some (pos id)) (sym are) row))
    where
      by : IsRow tree d n name (pos id) → IsChild tree d name id
      by (inl p) = absurd (true≢false (sym (itself name (codes ".") p.0) ∙ one))
      by (inr (inl p)) = absurd (true≢false (sym (itself name (codes "..") p.0) ∙ two))
      by (inr (inr c)) = let e : c.0 ≡ id = ap natural (sym c.1) in subst (IsChild tree d name) e c.2

  pub child_of : (rs : List Row) → rows_in Text (content v root) ≡ rs → (name : List ℕ) (id : ℕ) → assoc Text rs name ≡ Some (pos id) → bytes_eq name (codes ".") ≡ false → bytes_eq name (codes "..") ≡ false → IsChild tree root name id
  child_of rs are name id row one two = child_in root root_is.0 root_is.1 root_is.2 rs are name id row one two

  -- a directory's row `.` names the directory itself
  pub own_row : (d : ℕ) (n : Node) → IsNode tree d n → n.kind ≡ Dir → (rs : List Row) → rows_in Text (content v d) ≡ rs → (id : ℕ) → assoc Text rs (codes ".") ≡ Some (pos id) → id ≡ d
  unfolding is_utf8 chars encode_utf8
  own_row d n is dir rs are id row = by ((w.sound.nodes.stands.listings d n is dir (codes ".") (pos id)).0 (subst (λ rows. assoc Text rows (codes ".") ≡ Some (pos id)) (sym are) row))
    where
      by : IsRow tree d n (codes ".") (pos id) → id ≡ d
      by (inl p) = ap natural p.1
      by (inr (inl p)) = absurd (let bad : 1 ≡ 2 = ap length p.0 in omega (arith, bad))
      by (inr (inr c)) = absurd (let bad : true ≡ false = subst (λ name. is_bad_name name ≡ false) c.2.named (w.sound.nodes.plain.named c.0 c.2.node c.2.there c.2.not_root) in cc)

  pub has_node : (id : ℕ) (n : Node) → IsNode tree id n → HasNode v id n
  has_node id n is = w.sound.nodes.stands.nodes id n is

  -- the blocks of a node are reached, its own block among them
  pub node_reached : (id : ℕ) (n : Node) → IsNode tree id n → (k : ℕ) → Has (node_blocks v (id, n)) k → Has (reach v tree) k
  node_reached id n is k h =
      let nodes : List ℕ = flat_map (node_blocks v) (entries tree.nodes) in
      has_right (fixed_blocks v) (bitmap_blocks v.geometry ++ (nodes ++ index_blocks v)) k
      (has_right (bitmap_blocks v.geometry) (nodes ++ index_blocks v) k
      (has_left nodes (index_blocks v) k (has_member (node_blocks v) (entries tree.nodes) (id, n) k (in_entries tree.nodes id n is) h)))

  own_block : (id : ℕ) (n : Node) → Has (node_blocks v (id, n)) id
  unfolding node_blocks
  own_block id n = has_left _ (flat_map (inode_blocks v) (attribute_inodes v (attribute_directory v id))) id (by (has_no_stream v (id, n)))
    where
      by : (b : Bool) → Has (cond b (id ∷ []) (inode_blocks v id)) id
      by true = first_here id []
      by false = first_here id _

  pub inode_reached : (id : ℕ) (n : Node) → IsNode tree id n → Has (reach v tree) id
  inode_reached id n is = node_reached id n is id (own_block id n)

  pub bit_set : (k : ℕ) → Has (reach v tree) k → bit v k ≡ 1
  bit_set k h = ((w.sound.bits k).1 h).1

  pub once : (k : ℕ) → times k (reach v tree) ≤ 1
  once k = w.sound.nodes.once k

  pub index_once : (k : ℕ) → times k (index_blocks v) ≤ 1
  index_once k = let p = reach_parts v tree k in let o = once k in omega (arith, p, o)

  -- where the index directory has a row, the three built-in indices are there
  pub built_in : (name : List ℕ) (value : ℤ) → IsIndexRow v name value → HasBuiltIn tree.indices
  built_in name value row = by w.sound.indices.plain
    where
      there : IsIndexOf v tree name value
      there = w.sound.nodes.stands.indices name value row

      by : HasPlainIndices tree.indices → HasBuiltIn tree.indices
      by (inl none) = absurd (let bad : None ≡ Some there.kind = sym (get-empty text_cmp name) ∙ sym (ap (λ m. get m name) none) ∙ there.there in cc)
      by (inr has) = has

  -- the index `last_modified` is a tree of 64 bit numbers, and its values mean numbers
  pub time_tree : (id : ℕ) → IsIndexRow v (codes "last_modified") (pos id) → IsWholeTree I64 (content v id)
  time_tree id row =
      let i : IsIndexOf v tree (codes "last_modified") (pos id) = w.sound.nodes.stands.indices (codes "last_modified") (pos id) row in
      let twice : Some i.kind ≡ Some I64 = sym i.there ∙ (built_in (codes "last_modified") (pos id) row).by_time in
      let one : i.kind ≡ I64 = cc in
      subst (λ k. IsWholeTree k (content v id)) one i.index.tree

  pub time_values : (id : ℕ) → IsIndexRow v (codes "last_modified") (pos id) → AllByRecursion (λ r. HasValues (content v id) r.1) (rows_in I64 (content v id))
  time_values id row = (time_tree id row).mean

  -- where the root directory has no rows but `.` and `..`, it is the only node
  module _ (rs : List Row) (are : rows_in Text (content v root) ≡ rs) (bad : AllByRecursion (λ r. is_bad_name r.0 ≡ true) rs) where
    none_below : Below tree tree.root → ⊥
    unfolding Below
    none_below b =
        let up : b.1.parent ≡ root = b.4 ∙ w.sound.nodes.stands.root in
        let is_child : IsChild tree root b.1.name b.0 = record { node = b.1; there = b.2; not_root = b.3; parent = up; named = refl } in
        let row : assoc Text (rows_in Text (content v root)) b.1.name ≡ Some (pos b.0) = (root_lists b.1.name (pos b.0)).1 (inr (inr (b.0, refl, is_child))) in
        let is_bad : is_bad_name b.1.name ≡ true = row_all (λ name _. is_bad_name name ≡ true) rs bad b.1.name (pos b.0) (subst (λ rows. assoc Text rows b.1.name ≡ Some (pos b.0)) are row) in
        true≢false (sym is_bad ∙ w.sound.nodes.plain.named b.0 b.1 b.2 b.3)

    only_root : (id : ℕ) (n : Node) → IsNode tree id n → id ≡ root
    only_root id n is = ⊎_elim (λ e. e ∙ w.sound.nodes.stands.root) (λ b. absurd (none_below b)) (under tree tree.root id (w.sound.nodes.plain.lead id n is))

    -- so only its blocks are those of nodes
    pub nodes_without : (k : ℕ) → ((b : Bool) → times k (cond b (root ∷ []) (inode_blocks v root) ++ flat_map (inode_blocks v) (attribute_inodes v (attribute_directory v root))) ≡ 0)
        → times k (flat_map (node_blocks v) (entries tree.nodes)) ≡ 0
    unfolding node_blocks
    nodes_without k none = none_flat k (node_blocks v) (entries tree.nodes) (λ e i. each e (only_root e.0 e.1 (node_of tree e i)))
      where
        each : (e : ℕ × Node) → e.0 ≡ root → times k (node_blocks v e) ≡ 0
        each e r = subst (λ id. times k (node_blocks v (id, e.1)) ≡ 0) (sym r) (none (has_no_stream v (root, e.1)))

    pub not_reached : (k : ℕ) → times k (fixed_blocks v) ≡ 0 → times k (bitmap_blocks v.geometry) ≡ 0 → times k (index_blocks v) ≡ 0
        → ((b : Bool) → times k (cond b (root ∷ []) (inode_blocks v root) ++ flat_map (inode_blocks v) (attribute_inodes v (attribute_directory v root))) ≡ 0) → IsMarked v k → ⊥
    not_reached k fixed bitmap index none m =
        let h : 0 < times k (reach v tree) = (w.sound.bits k).0 m in
        let p = reach_parts v tree k in
        let nodes = nodes_without k none in
        omega (arith, h, p, fixed, bitmap, index, nodes)
