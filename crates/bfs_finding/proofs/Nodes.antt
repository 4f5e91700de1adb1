-- Findings on inodes, nodes, rows and blocks exclude that a tree stands.
use Rattle.std.proofs.Common.{◌≡◌, ◌≢◌, ◌≤◌, ◌<◌, ◌+◌, inl, inr, ⊎_elim, ℕ, ℤ, pos, negsuc, List, [], ◌∷◌, ◌++◌, length, Option, Some, None, Bool, true, false, cond, codes, refl, sym, ap, ◌∙◌, subst, arith}
use Rattle.std.specs.Prelude.{◌/◌, ◌%◌, ◌*◌, ◌^◌, ◌*ℤ◌, ◌+ℤ◌, ◌<ℤ◌, ◌==◌, ◌&&◌, suc, count_by, unsigned_abs}
use Rattle.std.specs.List.{AllByRecursion}
use Rattle.std.specs.Str.{bytes_eq}
use Rattle.std.proofs.lemmas.Int.{ints, unsigned_abs-mul}
use Rattle.bfs_base.specs.Lists.{times, Has}
use Rattle.bfs_base.specs.declared.kind.KeyKind.TheVariants.{Text}
use Rattle.bfs_bytes.specs.Fields.{run_in}
use Rattle.bfs_inode.specs.declared.fault.InodeFault.{InodeFault}
use Rattle.bfs_inode.specs.declared.fault.InodeFault.TheVariants as faults
use Rattle.bfs_inode.specs.Refusals.{IsInode, IsRefusal, Names}
use Rattle.bfs_node.specs.Page.{Row}
use Rattle.bfs_pages.specs.Maps.{assoc}
use Rattle.bfs_smalldata.specs.Items.{Item}
use Rattle.bfs_smalldata.specs.Edits.{named}
use Rattle.bfs_smalldata.proofs.Listing.{none_from}
use Rattle.bfs_super.specs.Conditions.{natural}
use Rattle.bfs_sound.specs.Sizes.{first_block}
use Rattle.bfs_sound.specs.Places.{HasStream}
use Rattle.bfs_sound.proofs.Frames.{has_first}
use Rattle.bfs_tree.specs.declared.call.Kind.{Kind}
use Rattle.bfs_tree.specs.declared.call.Kind.TheVariants.{File, Dir, Link}
use Rattle.bfs_tree.specs.Names.{is_bad_name}
use Rattle.bfs_tree.specs.Trees.{Node, Tree, IsNode}
use Rattle.bfs_values.specs.Reached.{IsWholeTree}
use Rattle.bfs_values.specs.Rows.{rows_in}
use Rattle.bfs_sound.specs.Volumes.{Volume, sizes}
use Rattle.bfs_sound.specs.Inodes.{content, inode_blocks, proper_rows, is_short, is_proper, rows_of, index_directory, kind_bits, mode_bits}
use Rattle.bfs_sound.specs.Attributes.{own_name, HasDirectory, IsAttributeRow, IsAttributeDirectory, attribute_directory, attributes_in, attributes_of, is_zero}
use Rattle.bfs_sound.specs.Nodes.{HasNode, HasContent, HasTarget}
use Rattle.bfs_sound.specs.Listings.{IsIndexOf, HasIndexDirectory, index_rows}
use Rattle.bfs_sound.specs.Owners.{In, reach}
use Rattle.bfs_finding.proofs.OneNodes.{some_same}
use Rattle.bfs_finding.specs.declared.finding.InodePart.{InodePart}
use Rattle.bfs_finding.specs.Ways.{Way, to_system, to_root, to_child, to_directory, to_attribute, to_indices, to_index, says, IsReached, Arrives, IsShared, lacks_stream, blocks_by, HasNames, of_node, of_attributes, of_indices, IsStreamed, by_node, by_directory, by_attribute, by_indices, by_index}
use Rattle.bfs_finding.specs.NodeFaults.{IsModeFault, IsAreaFault, runs_past, long_name, IsInodeFault, of_field, of_mode, of_area, of_target, area_of, own_bytes, IsNameFault, IsParentFault, of_block, of_run, of_dot, of_dots, IsRowFault, IsAttributeFault}
use Rattle.bfs_finding.proofs.Upright.{Upright}
use Rattle.bfs_finding.proofs.Rows.{all_in, in_assoc, tree_ascends, ascend_kept}
use Rattle.bfs_finding.proofs.Pieces.{says_is, row_child, reached_node, child_at, way_reaches, two_reach, not_both, eq_yes}

-- a number that is added to another and leaves it is 0
zero_left : (z : ℤ) (s : ℕ) → z +ℤ pos s ≡ pos s → unsigned_abs z ≡ 0
zero_left (pos n) s e = omega (arith, ints, e)
zero_left (negsuc n) s e = omega (arith, ints, e)

-- a run with a group below 0 names no inode
pub no_group : (group : ℤ) (start shift : ℕ) → group <ℤ pos 0 → start < 2 ^ shift → (group *ℤ pos (2 ^ shift)) +ℤ pos start ≡ pos start → ⊥
no_group (pos n) start shift low inside same = omega (arith, ints, low)
no_group (negsuc n) start shift low inside same =
    let none : unsigned_abs (negsuc n *ℤ pos (2 ^ shift)) ≡ 0 = zero_left (negsuc n *ℤ pos (2 ^ shift)) start same in
    let product : unsigned_abs (negsuc n *ℤ pos (2 ^ shift)) ≡ suc n * 2 ^ shift = unsigned_abs-mul (negsuc n) (pos (2 ^ shift)) in
    some (2 ^ shift) inside (sym product ∙ none)
  where
    some : (g : ℕ) → start < g → suc n * g ≡ 0 → ⊥
    some g low e = let split : suc n * g ≡ g + n * g = grind arith in omega (arith, low, e, split)

-- an inode's row and its attribute directory
attribute_row : (v : Volume) (id : ℕ) (o : Option ℕ) → HasDirectory v id o → (name : List ℕ) (value : ℤ) → In (name, value) (rows_of v o) → IsAttributeRow v (name, value)
attribute_row v id None h name value i = absurd i
attribute_row v id (Some d) h name value i = all_in (IsAttributeRow v) (proper_rows v d) (name, value) h.rows i

index_assoc : (v : Volume) (o : Option ℕ) → HasIndexDirectory v o → (name : List ℕ) (value : ℤ) → In (name, value) (rows_of v o) → assoc Text (rows_of v o) name ≡ Some value
index_assoc v None h name value i = absurd i
index_assoc v (Some d) h name value i =
    in_assoc (proper_rows v d) name value (ascend_kept Text (λ (row : Row). is_proper row.0) (rows_in Text (content v d)) (tree_ascends Text (content v d) h.tree)) i

-- a field that is wrong
field_good : (block : List ℕ) (b shift : ℕ) (fault : InodeFault) → IsInode block b shift → IsRefusal block b shift fault → ⊥
field_good block b shift (faults.Magic found) i r = r.0 i.magic
field_good block b shift (faults.Number found) i r = r.1 i.number_is
field_good block b shift (faults.NotInUse flags) i r = r.2 i.in_use
field_good block b shift (faults.Size found) i r = r.3 i.size

module _ (v : Volume) (tree : Tree) (s : Upright v tree) where
  pub index_at : (name : List ℕ) (value : ℤ) → In (name, value) (index_rows v) → IsIndexOf v tree name value
  index_at name value i = s.indices name value (index_assoc v (index_directory v) s.directory name value i)

  pub root_node : (n : Node) × IsNode tree v.geometry.root n × (n.kind ≡ Dir)
  root_node = let r = s.plain.root in (r.0, subst (λ k. IsNode tree k r.0) s.root r.1, r.2)

  pub directory_at : (id b : ℕ) → Arrives v (to_directory id) b → IsAttributeDirectory v id b
  directory_at id b a = let n = reached_node v tree s id a.0 in subst (λ o. HasDirectory v id o) a.1 (s.nodes id n.0 n.1).directory

  pub attribute_at : (id : ℕ) (name : List ℕ) (b : ℕ) → Arrives v (to_attribute id name) b → IsAttributeRow v (name, pos b)
  attribute_at id name b a =
      let n = reached_node v tree s id a.0 in attribute_row v id (attribute_directory v id) (s.nodes id n.0 n.1).directory name (pos b) a.1

  pub indices_at : (b : ℕ) → Arrives v to_indices b → HasIndexDirectory v (Some b)
  indices_at b a = subst (HasIndexDirectory v) a s.directory

  -- each inode keeps its format
  inode_good : (way : Way) (b : ℕ) → way ≢ to_system → Arrives v way b → IsInode (v.blocks b) b v.geometry.shift
  inode_good to_system b other a = absurd (other refl)
  inode_good to_root b other a = let r = root_node in (s.nodes b r.0 (subst (λ k. IsNode tree k r.0) (sym a) r.1)).inode
  inode_good (to_child d name) b other a = let c = child_at v tree s d name b a in (s.nodes b c.node c.there).inode
  inode_good (to_directory id) b other a = (directory_at id b a).owner.inode
  inode_good (to_attribute id name) b other a = (attribute_at id name b a).owner.inode
  inode_good to_indices b other a = (indices_at b a).owner.inode
  inode_good (to_index name) b other a = (index_at name (pos b) a).index.owner.inode

  mode_good : (way : Way) (b : ℕ) → Arrives v way b → IsModeFault v way b → ⊥
  mode_good to_system b a f = f
  mode_good to_root b a f =
      let r = root_node in
      let h = s.nodes b r.0 (subst (λ k. IsNode tree k r.0) (sym a) r.1) in
      f (h.kind ∙ ap kind_bits r.2)
  mode_good (to_child d name) b a f = let c = child_at v tree s d name b a in f c.node.kind (s.nodes b c.node c.there).kind
  mode_good (to_directory id) b a f = f (directory_at id b a).mode
  mode_good (to_attribute id name) b a f = f (attribute_at id name b a).mode
  mode_good to_indices b a f = f (indices_at b a).mode
  mode_good (to_index name) b a f = f (index_at name (pos b) a).index.mode

  area_good : (b at : ℕ) (n : Node) → HasNode v b n → IsAreaFault v b at → ⊥
  area_good b at n h (runs_past _ past) = none h.items (sym (none_from (area_of v b) at past) ∙ h.area)
    where
      none : (items : List Item) → None ≡ Some items → ⊥
      none items e = cc
  area_good b at n h (long_name front item back _ area place long) =
      let same : h.items ≡ front ++ (item ∷ back) = some_same h.items (front ++ (item ∷ back)) (sym h.area ∙ area) in
      let most : length item.name ≤ 255 = all_in (λ (i : Item). length i.name ≤ 255) (front ++ (item ∷ back)) item (subst (AllByRecursion (λ (i : Item). length i.name ≤ 255)) same h.short) (there front) in
      omega (arith, most, long)
    where
      there : (xs : List Item) → In item (xs ++ (item ∷ back))
      there [] = inl refl
      there (x ∷ xs) = inr (there xs)

  -- the kind of a node by its mode
  link_is : (b : ℕ) (n : Node) → IsNode tree b n → says v b Link ≡ true → n.kind ≡ Link
  link_is b n there told = same_link n.kind (sym (s.nodes b n there).kind ∙ eq_yes (mode_bits v b / 4096 % 16) 10 told)
    where
      same_link : (k : Kind) → kind_bits k ≡ 10 → k ≡ Link
      same_link File e = absurd (omega (arith, e))
      same_link Dir e = absurd (omega (arith, e))
      same_link Link e = refl

  pub no_inode : (b : ℕ) (part : InodePart) (found : ℤ) → IsInodeFault v b part found → ⊥
  no_inode b part found (of_field way fault other a refusal _) = field_good (v.blocks b) b v.geometry.shift fault (inode_good way b other a) refusal
  no_inode b part found (of_mode way a wrong _ _) = mode_good way b a wrong
  no_inode b part found (of_area at up wrong _ _) = let n = reached_node v tree s b up in area_good b at n.0 (s.nodes b n.0 n.1) wrong
  no_inode b part found (of_target up told short long _ _) =
      let n = reached_node v tree s b up in
      let c : HasContent v b n.0 Link = subst (λ k. HasContent v b n.0 k) (link_is b n.0 n.1 told) (s.nodes b n.0 n.1).content_is in
      let t : HasTarget v b n.0.target true = subst (λ t. HasTarget v b n.0.target t) short c.0 in
      let few : length n.0.target < 144 = t.1 in
      let same = ap length t.0 in
      omega (arith, few, same, long)

  pub no_name : (id : ℕ) (row : List ℕ) (item : Option (List ℕ)) → IsNameFault v id row item → ⊥
  no_name id row item f =
      let c = child_at v tree s f.parent row id f.there in
      let h = s.nodes id c.node c.there in
      let own = h.called.name (λ e. c.not_root (e ∙ sym s.root)) in
      let items : f.items ≡ h.items = some_same f.items h.items (sym f.area ∙ h.area) in
      let said : own_bytes (named own_name f.items) ≡ Some row =
      ap (λ (l : List Item). own_bytes (named own_name l)) items ∙ ap own_bytes own.1 ∙ ap (λ t. cond t (Some own.0.bytes) None) own.2 ∙ ap Some (own.3 ∙ c.named) in
      ⊎_elim (λ other. other (f.item_is ∙ said)) (λ bad. not_both (sym (s.plain.named id c.node c.there c.not_root) ∙ ap is_bad_name c.named ∙ bad)) f.wrong

  pub no_attribute : (id : ℕ) (name : List ℕ) → IsAttributeFault v id name → ⊥
  no_attribute id name f =
      let n = reached_node v tree s id f.there in
      let h = s.nodes id n.0 n.1 in
      let items : h.items ≡ f.items = some_same h.items f.items (sym h.area ∙ f.area) in
      ⊎_elim
      (λ twice. let most = h.distinct name in twice_most _ (subst (λ (l : List Item). count_by (λ (i : Item). bytes_eq i.name name) l ≤ 1) items most) twice)
      (λ twice. let most = h.apart name in twice_most _ (subst (λ (l : List Item). count_by (λ e. bytes_eq e.0 name) (attributes_in l ++ attributes_of v (attribute_directory v id)) ≤ 1) items most) twice)
      f.twice
    where
      twice_most : (n : ℕ) → n ≤ 1 → 2 ≤ n → ⊥
      twice_most n a b = omega (arith, a, b)

  pub no_parent : (id : ℕ) (found : ℤ) (wanted : ℕ) → IsParentFault v id found wanted → ⊥
  no_parent id found wanted (of_block name a is other) =
      let c = child_at v tree s wanted name id a in
      let h = s.nodes id c.node c.there in
      let names : Names (run_in (v.blocks id) 44) wanted v.geometry.shift = subst (λ k. Names (run_in (v.blocks id) 44) k v.geometry.shift) c.parent (h.called.parent (λ e. c.not_root (e ∙ sym s.root))) in
      other (is ∙ names.block)
  no_parent id found wanted (of_run name a _ other _) =
      let c = child_at v tree s wanted name id a in
      let h = s.nodes id c.node c.there in
      other (subst (λ k. Names (run_in (v.blocks id) 44) k v.geometry.shift) c.parent (h.called.parent (λ e. c.not_root (e ∙ sym s.root))))
  no_parent id found wanted (of_dot up told own other _) =
      let m = reached_node v tree s id up in
      other ((s.listings id m.0 m.1 (says_is v tree s id m.0 m.1 told) (codes ".") (pos wanted)).1 (inl (refl, ap pos own)))
  no_parent id found wanted (of_dots (inl root) told other _) =
      let r = root_node in
      let there : IsNode tree id r.0 = subst (λ k. IsNode tree k r.0) (sym root.0) r.1 in
      let own = s.plain.own r.0 (subst (λ k. IsNode tree k r.0) (sym s.root) r.1) in
      other ((s.listings id r.0 there r.2 (codes "..") (pos wanted)).1 (inr (inl (refl, ap pos (root.1 ∙ sym s.root ∙ sym own.1)))))
  no_parent id found wanted (of_dots (inr up) told other _) =
      let c = child_at v tree s wanted up.0 id up.1 in
      let dir = says_is v tree s id c.node c.there told in
      other ((s.listings id c.node c.there dir (codes "..") (pos wanted)).1 (inr (inl (refl, ap pos (sym c.parent)))))

  -- each inode with a stream keeps the stream's format
  node_stream : (b : ℕ) (n : Node) (kind : Kind) → n.kind ≡ kind → (says v b Link ≡ true → is_short v b ≡ false) → HasNode v b n → HasContent v b n kind → HasStream (sizes v.geometry) v.blocks b
  node_stream b n File is long h c = c.0
  node_stream b n Dir is long h c = c.0
  node_stream b n Link is long h c =
      let told : says v b Link ≡ true = ap (λ k. k == 10) (h.kind ∙ ap kind_bits is) in
      let t : HasTarget v b n.target false = subst (λ t. HasTarget v b n.target t) (long told) c.0 in
      t.0

  pub stream_good : (b : ℕ) → IsStreamed v b → HasStream (sizes v.geometry) v.blocks b
  stream_good b (by_node _ up not_short) =
      let n = reached_node v tree s b up in
      let h = s.nodes b n.0 n.1 in
      node_stream b n.0 n.0.kind refl (λ told. sym (ap (λ c. c && is_short v b) told) ∙ not_short) h h.content_is
  stream_good b (by_directory id _ a) = (directory_at id b a).owner.stream
  stream_good b (by_attribute id name _ a) = (attribute_at id name b a).owner.stream
  stream_good b (by_indices _ a) = (indices_at b a).owner.stream
  stream_good b (by_index name _ a) = (index_at name (pos b) a).index.owner.stream

  -- a tree of names is one
  pub names_good : (b : ℕ) → HasNames v b → IsWholeTree Text (content v b)
  names_good b (of_node _ up told) =
      let n = reached_node v tree s b up in
      let c : HasContent v b n.0 Dir = subst (λ k. HasContent v b n.0 k) (says_is v tree s b n.0 n.1 told) (s.nodes b n.0 n.1).content_is in
      c.1
  names_good b (of_attributes id _ a) = (directory_at id b a).tree
  names_good b (of_indices _ a) = (indices_at b a).tree

-- a block that is reached lies in the volume, and is reached once
module _ (v : Volume) (tree : Tree) (s : Upright v tree) where
  pub inside_by : (way : Way) (b k : ℕ) → Arrives v way b → Has (blocks_by v way b) k → k < v.geometry.blocks
  inside_by way b k a has = s.inside k (let own = way_reaches v tree s k way b a in omega (arith, own, has))

  pub no_shared : (block first second : ℕ) → IsShared v block first second → ⊥
  no_shared block first second f =
      let once : times block (reach v tree) ≤ 1 = s.once block in
      ⊎_elim
      (λ two. let both = two_reach v tree s block f.one f.other first second f.there f.here two.0 in omega (arith, once, both, two.1, two.2))
      (λ one. let own = way_reaches v tree s block f.one first f.there in omega (arith, once, own, one.1))
      f.twice

  child_own : (b : ℕ) (c : Bool) → Has (cond c (b ∷ []) (inode_blocks v b)) b
  child_own b true = has_first b []
  child_own b false = has_first b _

  row_inside : (owner : ℕ) (name : List ℕ) (value : ℤ) → HasNames v owner → In (name, value) (proper_rows v owner) → (b : ℕ) × (value ≡ pos b) × (b < v.geometry.blocks)
  row_inside owner name value (of_node _ up told) i =
      let m = reached_node v tree s owner up in
      let c = row_child v tree s owner m.0 m.1 (says_is v tree s owner m.0 m.1 told) name value i in
      (c.0, c.1, inside_by (to_child owner name) c.0 c.0 (up, told, subst (λ z. In (name, z) (proper_rows v owner)) c.1 i) (child_own c.0 (lacks_stream v c.0)))
  row_inside owner name value (of_attributes id _ a) i =
      let d = directory_at v tree s id owner a in
      let row : IsAttributeRow v (name, value) = all_in (IsAttributeRow v) (proper_rows v owner) (name, value) d.rows i in
      let b : ℕ = natural value in
      let there : In (name, pos b) (rows_of v (Some owner)) = subst (λ z. In (name, z) (proper_rows v owner)) row.number i in
      (b, row.number, inside_by (to_attribute id name) b b (a.0, subst (λ o. In (name, pos b) (rows_of v o)) (sym a.1) there) (has_first b _))
  row_inside owner name value (of_indices _ a) i =
      let there : In (name, value) (index_rows v) = subst (λ o. In (name, value) (rows_of v o)) (sym a) i in
      let x = index_at v tree s name value there in
      let b : ℕ = natural value in
      (b, x.number, inside_by (to_index name) b b (subst (λ z. In (name, z) (index_rows v)) x.number there) (has_first b _))

  pub no_row : (owner : ℕ) (value : ℤ) → IsRowFault v owner value → ⊥
  no_row owner value f =
      let r = row_inside owner f.name value f.there f.row in
      let least : v.geometry.blocks ≤ r.0 = f.outside r.0 r.1 in
      let most = r.2 in
      omega (arith, least, most)

  -- the address of an attribute directory, which is none but that of an inode of the volume
  pub address_good : (id : ℕ) → IsReached v id → is_zero (run_in (v.blocks id) 52) ≡ false
      → Names (run_in (v.blocks id) 52) (first_block (sizes v.geometry) (run_in (v.blocks id) 52)) v.geometry.shift × (first_block (sizes v.geometry) (run_in (v.blocks id) 52) < v.geometry.blocks)
  address_good id up other =
      let d : ℕ = first_block (sizes v.geometry) (run_in (v.blocks id) 52) in
      let is : attribute_directory v id ≡ Some d = ap (λ c. cond c None (Some d)) other in
      ((directory_at v tree s id d (up, is)).address, inside_by (to_directory id) d d (up, is) (has_first d _))
