-- A directory's rows change.
use Rattle.std.proofs.Common.{◌≡◌, ◌≤◌, ◌<◌, ◌+◌, ℕ, List, [], ◌++◌, refl, sym, ap, ◌∙◌, subst, arith, Bool, true, false, cond, Some, ap₂, ◌∷◌}
use Rattle.std.specs.Prelude.{◌&&◌}
use Rattle.std.specs.List.{flat_map}
use Rattle.std.specs.Ordering.{nat_cmp, eq_by_cmp}
use Rattle.std.specs.Cmp.{nat_cmp_total}
use Rattle.std.specs.FinMap.{entries, get, insert, get-insert, same_map, nat_cmp-IsAntisymmetric}
use Rattle.bfs_base.specs.Lists.{times, Agree}
use Rattle.bfs_base.specs.declared.kind.KeyKind.TheVariants.{Text}
use Rattle.bfs_node.specs.Page.{Row}
use Rattle.bfs_stream.specs.Places.{HasStream}
use Rattle.bfs_stream.proofs.Doubles.{times-append}
use Rattle.bfs_maps.specs.Moves.{KeepsInode}
use Rattle.bfs_tree.specs.declared.call.Kind.{Kind}
use Rattle.bfs_tree.specs.declared.call.Kind.TheVariants.{Dir}
use Rattle.bfs_tree.specs.Trees.{Node, Nodes, Tree, IsNode, is_link}
use Rattle.bfs_values.specs.Rows.{rows_in}
use Rattle.bfs_values.specs.Reached.{IsWholeTree}
use Rattle.bfs_sound.specs.Volumes.{Volume, sizes, bitmap_blocks}
use Rattle.bfs_sound.specs.Inodes.{inode_blocks, content, is_short}
use Rattle.bfs_sound.specs.Nodes.{HasContent}
use Rattle.bfs_sound.specs.Owners.{has_no_stream, node_blocks, reach}
use Rattle.bfs_sound.specs.Laws.{with_blocks}
use Rattle.bfs_sound.proofs.Counts.{times_member}
use Rattle.bfs_sound.proofs.Nodes.{other_blocks, own_all}
use Rattle.bfs_sound.proofs.Parts.{in_entries}
use Rattle.bfs_shift.specs.Lists.{Lists, with_rows}
use Rattle.bfs_shift.specs.Stocked.{Stocked, Shifts}
use Rattle.bfs_shift.specs.Inodes.{KeepsPlace, HasBytes, IsSamePlace, HasStatus}
use Rattle.bfs_shift.proofs.Moving.{all_parts, part_stays}
use Rattle.bfs_shift.proofs.Widens.{widened}
use Rattle.bfs_shift.proofs.Rewritten.{keeps_place, short_same, node_restated, same_status, others_are}
use Rattle.bfs_shift.proofs.Renewed.{same_id, node_renewed}

-- a directory's blocks are those of its inode and stream, and the others
pub directory_parts : (v : Volume) (d : ℕ) (n : Node) → n.kind ≡ Dir → node_blocks v (d, n) ≡ inode_blocks v d ++ other_blocks v d
unfolding node_blocks
directory_parts v d n dir = ap (λ (k : Kind). own_all v d k (is_short v d) ++ other_blocks v d) dir

-- a node that is put where it is
pub put_same : (nodes : Nodes) (id : ℕ) (n : Node) → get nodes id ≡ Some n → insert nodes id n ≡ nodes
put_same nodes id n is = same_map nat_cmp_total nat_cmp-IsAntisymmetric (insert nodes id n) nodes (λ q. at q (eq_by_cmp nat_cmp q id) refl)
  where
    at : (q : ℕ) (t : Bool) → eq_by_cmp nat_cmp q id ≡ t → get (insert nodes id n) q ≡ get nodes q
    at q true e = get-insert nat_cmp_total nodes id n q ∙ ap (λ b. cond b (Some n) (get nodes q)) e ∙ sym is ∙ ap (get nodes) (sym (same_id q id e))
    at q false e = get-insert nat_cmp_total nodes id n q ∙ ap (λ b. cond b (Some n) (get nodes q)) e

-- a node that has a stream: its blocks are those of its inode and stream, and the others
pub stream_parts : (v : Volume) (d : ℕ) (n : Node) → has_no_stream v (d, n) ≡ false → node_blocks v (d, n) ≡ inode_blocks v d ++ other_blocks v d
unfolding node_blocks
stream_parts v d n has = ap (λ (t : Bool). cond t (d ∷ []) (inode_blocks v d) ++ other_blocks v d) has

module _ (v : Volume) (tree : Tree) (lists : Lists) (loose : List ℕ) (new : ℕ → List ℕ) (d : ℕ) (n now : Node) (rows : List Row) (stocked : Stocked v tree lists loose) (is : IsNode tree d n) (stream : has_no_stream v (d, n) ≡ false)
    (shifts : Shifts v new (inode_blocks v d) (inode_blocks (with_blocks v new) d)) (kept : KeepsPlace (v.blocks d) (new d)) (bytes : HasBytes (v.blocks d) (new d)) (same : IsSamePlace n now)
    (status : HasStatus (with_blocks v new) d now) (content_is : HasContent (with_blocks v new) d now now.kind) (rows_are : now.kind ≡ Dir → rows_in Text (content (with_blocks v new) d) ≡ rows) where
  abbrev w : Volume
  w = with_blocks v new

  abbrev xs : List ℕ
  xs = inode_blocks v d

  abbrev ys : List ℕ
  ys = inode_blocks w d

  abbrev nodes : List ℕ
  nodes = flat_map (node_blocks v) (entries tree.nodes)

  own_parts : (k : ℕ) → times k (node_blocks v (d, n)) ≡ times k xs + times k (other_blocks v d)
  own_parts k = ap (times k) (stream_parts v d n stream) ∙ times-append k xs (other_blocks v d)

  own_in : (k : ℕ) → times k (node_blocks v (d, n)) ≤ times k nodes
  own_in k = times_member k (node_blocks v) (entries tree.nodes) (d, n) (in_entries tree.nodes d n is)

  own_few : (k : ℕ) → times k xs + times k (other_blocks v d) + times k (bitmap_blocks v.geometry) ≤ times k (reach v tree ++ loose)
  own_few k = let p = all_parts v tree lists loose stocked k in let o = own_in k in let q = own_parts k in omega (arith, p, o, q)

  others : Agree v.blocks new (other_blocks v d)
  others = part_stays v tree lists loose stocked new xs ys shifts (other_blocks v d) (λ k. let f = own_few k in omega (arith, f))

  others_same : other_blocks w d ≡ other_blocks v d
  others_same = others_are v new d kept bytes others

  stream_now : has_no_stream w (d, now) ≡ false
  stream_now = ap₂ (λ (k : Kind) (t : Bool). is_link k && t) same.kind (short_same v new d kept bytes) ∙ stream

  now_parts : (k : ℕ) → times k (node_blocks w (d, now)) ≡ times k ys + times k (other_blocks v d)
  now_parts k = ap (times k) (stream_parts w d now stream_now) ∙ times-append k ys (other_blocks w d) ∙ ap (λ (l : List ℕ). times k ys + times k l) others_same

  with_none : (k : ℕ) (l : List ℕ) → times k (l ++ []) ≡ times k l
  with_none k l = let a = times-append k l [] in omega (arith, a)

  node_shift : Shifts v new (node_blocks v (d, n) ++ []) (node_blocks w (d, now) ++ [])
  node_shift = widened v new xs ys (node_blocks v (d, n) ++ []) (node_blocks w (d, now) ++ []) shifts
      (λ k. let a = with_none k (node_blocks v (d, n)) in let b = with_none k (node_blocks w (d, now)) in let c = own_parts k in let e = now_parts k in omega (arith, a, b, c, e))
      (λ k. let a = with_none k (node_blocks v (d, n)) in let c = own_parts k in omega (arith, a, c))
      (λ k. let a = with_none k (node_blocks v (d, n)) in let c = own_parts k in let f = own_few k in let o : times k (reach v tree ++ loose) ≤ 1 = stocked.once k in omega (arith, a, c, f, o))
      (λ k has. (stocked.marks k).1 (let h : 0 < times k (node_blocks v (d, n) ++ []) = has in let a = with_none k (node_blocks v (d, n)) in let c = own_parts k in let f = own_few k in let g : 0 < times k (reach v tree ++ loose) = omega (arith, h, a, c, f) in g))

  pub content_changed : Stocked (with_blocks v new) (record tree { nodes = insert tree.nodes d now }) (with_rows lists d rows) loose
  content_changed = node_renewed v tree lists [] [] loose new d n now rows stocked is node_shift (node_restated v new d kept bytes others n now same status content_is (stocked.nodes d n is)) rows_are

module _ (v : Volume) (tree : Tree) (lists : Lists) (loose : List ℕ) (new : ℕ → List ℕ) (d : ℕ) (n : Node) (rows : List Row) (stocked : Stocked v tree lists loose) (is : IsNode tree d n) (dir : n.kind ≡ Dir)
    (shifts : Shifts v new (inode_blocks v d) (inode_blocks (with_blocks v new) d)) (kept : KeepsInode (v.blocks d) (new d)) (bytes : HasBytes (v.blocks d) (new d))
    (stream : HasStream (sizes v.geometry) new d) (whole : IsWholeTree Text (content (with_blocks v new) d)) (rows_are : rows_in Text (content (with_blocks v new) d) ≡ rows) where
  abbrev after : Volume
  after = with_blocks v new

  content_now : HasContent v d n n.kind → HasContent after d n n.kind
  content_now c =
      let old : HasContent v d n Dir = subst (λ (k : Kind). HasContent v d n k) dir c in
      let now : HasContent after d n Dir = (stream, whole, old.2, old.3) in
      subst (λ (k : Kind). HasContent after d n k) (sym dir) now

  pub rows_changed : Stocked (with_blocks v new) tree (with_rows lists d rows) loose
  rows_changed =
      let h = stocked.nodes d n is in
      subst (λ (ns : Nodes). Stocked (with_blocks v new) (record tree { nodes = ns }) (with_rows lists d rows) loose) (put_same tree.nodes d n is)
      (content_changed v tree lists loose new d n n rows stocked is (ap (λ (k : Kind). is_link k && is_short v d) dir) shifts (keeps_place (v.blocks d) (new d) kept) bytes
      (record { kind = refl; name = refl; parent = refl; attributes = refl }) (same_status v new d kept bytes n h) (content_now h.content_is) (λ e. rows_are))
