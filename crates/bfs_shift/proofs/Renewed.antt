-- A node changes, with all its blocks.
use Rattle.std.proofs.Common.{◌≡◌, ◌≢◌, ◌≤◌, ◌+◌, inl, inr, ℕ, List, [], ◌∷◌, ◌++◌, refl, sym, ap, ◌∙◌, subst, arith, Bool, true, false, cond, Some}
use Rattle.std.specs.Prelude.{◌==◌}
use Rattle.std.proofs.lemmas.Grind.{common_steps}
use Rattle.std.specs.Ordering.{nat_cmp, eq_by_cmp}
use Rattle.std.specs.Cmp.{nat_cmp_total}
use Rattle.std.specs.List.{flat_map}
use Rattle.std.specs.FinMap.{entries, get, insert, get-insert, entries-insert, get-entries, entries_sorted}
use Rattle.bfs_base.specs.Lists.{times, Agree}
use Rattle.bfs_base.specs.declared.kind.KeyKind.TheVariants.{Text}
use Rattle.bfs_node.specs.Page.{Row}
use Rattle.bfs_stream.proofs.Doubles.{times-append}
use Rattle.bfs_tree.specs.declared.call.Kind.TheVariants.{Dir}
use Rattle.bfs_tree.specs.Trees.{Node, Tree, IsNode}
use Rattle.bfs_tree.proofs.Members.{node-of}
use Rattle.bfs_tree.proofs.Members as member
use Rattle.bfs_values.specs.Rows.{rows_in}
use Rattle.bfs_sound.specs.Volumes.{Volume, bitmap_blocks}
use Rattle.bfs_sound.specs.Inodes.{content}
use Rattle.bfs_sound.specs.Nodes.{HasNode}
use Rattle.bfs_sound.specs.Owners.{node_blocks, index_blocks, fixed_blocks, reach}
use Rattle.bfs_sound.specs.Laws.{with_blocks}
use Rattle.bfs_sound.proofs.Counts.{In, times_member, times_two}
use Rattle.bfs_sound.proofs.Nodes.{node_metadata, node_split, node_stays, node_blocks_stay}
use Rattle.bfs_sound.proofs.Parts.{in_entries, reach_parts}
use Rattle.bfs_sound.proofs.Streams.{rows_stay}
use Rattle.bfs_shift.specs.Lists.{Lists, with_rows}
use Rattle.bfs_shift.specs.Stocked.{Stocked, Shifts}
use Rattle.bfs_shift.proofs.Replaced.{put_swapped}
use Rattle.bfs_shift.proofs.Moving.{all_parts, part_stays, once_now, marks_now}
use Rattle.bfs_shift.proofs.Kept.{directory_metadata, index_rows_stay, index_directory_stays, listings_stay, index_blocks_stay}

pub same_id : (a b : ℕ) → eq_by_cmp nat_cmp a b ≡ true → a ≡ b
same_id a b h = grind (arith, common_steps, h)

pub other_id : (a b : ℕ) → eq_by_cmp nat_cmp a b ≡ false → a ≢ b
other_id a b h e = grind (arith, common_steps, h, e)

pub same_test : (d : ℕ) → (d == d) ≡ true
same_test d = grind arith

pub other_test : (b d : ℕ) → b ≢ d → (b == d) ≡ false
other_test b d apart = by_test (b == d) refl
  where
    by_test : (t : Bool) → (b == d) ≡ t → (b == d) ≡ false
    by_test false e = e
    by_test true e = absurd (apart (grind (arith, e)))

-- an entry of the tree's nodes is a node
pub is_entry : {X : Type 0} (x : X) (xs : List X) → In x xs → member.In x xs
is_entry x [] i = absurd i
is_entry x (y ∷ ys) (inl e) = inl e
is_entry x (y ∷ ys) (inr i) = inr (is_entry x ys i)

module _ (v : Volume) (tree : Tree) (lists : Lists) (gone come loose : List ℕ) (new : ℕ → List ℕ) (d : ℕ) (n now : Node) (rows : List Row) (stocked : Stocked v tree lists (gone ++ loose)) (is : IsNode tree d n)
    (shifts : Shifts v new (node_blocks v (d, n) ++ gone) (node_blocks (with_blocks v new) (d, now) ++ come)) (has : HasNode (with_blocks v new) d now)
    (rows_are : now.kind ≡ Dir → rows_in Text (content (with_blocks v new) d) ≡ rows) where
  abbrev w : Volume
  w = with_blocks v new

  abbrev xs : List ℕ
  xs = node_blocks v (d, n) ++ gone

  abbrev ys : List ℕ
  ys = node_blocks w (d, now) ++ come

  abbrev after : Tree
  after = record tree { nodes = insert tree.nodes d now }

  abbrev nodes : List ℕ
  nodes = flat_map (node_blocks v) (entries tree.nodes)

  parts : (k : ℕ) → times k (reach v tree ++ (gone ++ loose)) ≡ times k (fixed_blocks v) + (times k (bitmap_blocks v.geometry) + (times k nodes + times k (index_blocks v))) + (times k gone + times k loose)
  parts k = let a = all_parts v tree lists (gone ++ loose) stocked k in let c = times-append k gone loose in omega (arith, a, c)

  both : (k : ℕ) → times k xs ≡ times k (node_blocks v (d, n)) + times k gone
  both k = times-append k (node_blocks v (d, n)) gone

  own_in : (k : ℕ) → times k (node_blocks v (d, n)) ≤ times k nodes
  own_in k = times_member k (node_blocks v) (entries tree.nodes) (d, n) (in_entries tree.nodes d n is)

  other_node : (b : ℕ) (m : Node) → IsNode tree b m → b ≢ d → Agree v.blocks new (node_metadata v (b, m))
  other_node b m there apart = part_stays v tree lists (gone ++ loose) stocked new xs ys shifts (node_metadata v (b, m)) few
    where
      few : (k : ℕ) → times k (node_metadata v (b, m)) + (times k xs + times k (bitmap_blocks v.geometry)) ≤ times k (reach v tree ++ (gone ++ loose))
      few k =
          let split = node_split v k (b, m) in
          let p = parts k in
          let t = both k in
          let two : times k (node_blocks v (b, m)) + times k (node_blocks v (d, n)) ≤ times k nodes = two_in k in
          omega (arith, split, p, t, two)
        where
          two_in : (k : ℕ) → times k (node_blocks v (b, m)) + times k (node_blocks v (d, n)) ≤ times k nodes
          two_in k = times_two k (node_blocks v) (entries tree.nodes) (b, m) (d, n) (in_entries tree.nodes b m there) (in_entries tree.nodes d n is) (λ e. apart (ap (λ (p : ℕ × Node). p.0) e))

  at_index : Agree v.blocks new (index_blocks v)
  at_index = part_stays v tree lists (gone ++ loose) stocked new xs ys shifts (index_blocks v) (λ k. let p = parts k in let t = both k in let o = own_in k in omega (arith, p, t, o))

  there : (b : ℕ) (m : Node) → IsNode after b m → cond (eq_by_cmp nat_cmp b d) (Some now) (get tree.nodes b) ≡ Some m
  there b m is_now = sym (get-insert nat_cmp_total tree.nodes d now b) ∙ is_now

  node_now : (b : ℕ) (m : Node) (t : Bool) → eq_by_cmp nat_cmp b d ≡ t → cond t (Some now) (get tree.nodes b) ≡ Some m → HasNode w b m
  node_now b m true e at = subst (λ (j : ℕ). HasNode w j m) (sym (same_id b d e)) (subst (λ (x : Node). HasNode w d x) (let s : Some now ≡ Some m = at in cc) has)
  node_now b m false e at = node_stays v new v.geometry.used b m (other_node b m at (other_id b d e)) (stocked.nodes b m at)

  rows_now : (b : ℕ) (m : Node) (t : Bool) → eq_by_cmp nat_cmp b d ≡ t → cond t (Some now) (get tree.nodes b) ≡ Some m → m.kind ≡ Dir → rows_in Text (content w b) ≡ (with_rows lists d rows).rows b
  rows_now b m true e at dir =
      let now_is : now ≡ m = (let s : Some now ≡ Some m = at in cc) in
      let at_d : (with_rows lists d rows).rows d ≡ rows = ap (λ t. cond t rows (lists.rows d)) (same_test d) in
      subst (λ (j : ℕ). rows_in Text (content w j) ≡ (with_rows lists d rows).rows j) (sym (same_id b d e)) (rows_are (ap (λ (x : Node). x.kind) now_is ∙ dir) ∙ sym at_d)
  rows_now b m false e at dir =
      rows_stay v new v.geometry.used b (directory_metadata v new b m dir (other_node b m at (other_id b d e))) Text
      ∙ stocked.rows b m at dir ∙ sym (ap (λ t. cond t rows (lists.rows b)) (other_test b d (other_id b d e)))

  count : (k : ℕ) → times k (reach w after ++ (come ++ loose)) + times k xs ≡ times k (reach v tree ++ (gone ++ loose)) + times k ys
  count k =
      let a = parts k in
      let b = times-append k (reach w after) (come ++ loose) in
      let b2 = times-append k come loose in
      let x2 = both k in
      let y2 = times-append k (node_blocks w (d, now)) come in
      let e = reach_parts w after k in
      let f : times k (index_blocks w) ≡ times k (index_blocks v) = ap (times k) (index_blocks_stay v new v.geometry.used at_index) in
      let h : times k (flat_map (node_blocks w) (entries (insert tree.nodes d now))) + times k (node_blocks v (d, n)) ≡ times k nodes + times k (node_blocks w (d, now)) =
      ap (λ (es : List (ℕ × Node)). times k (flat_map (node_blocks w) es) + times k (node_blocks v (d, n))) (entries-insert nat_cmp_total tree.nodes d now)
      ∙ put_swapped (node_blocks v) (node_blocks w) d n now k (entries tree.nodes) (entries_sorted tree.nodes) (sym (get-entries tree.nodes d) ∙ is) each in
      omega (arith, a, b, b2, x2, y2, e, f, h)
    where
      each : (e : ℕ × Node) → In e (entries tree.nodes) → e.0 ≢ d → node_blocks w e ≡ node_blocks v e
      each e i apart = node_blocks_stay v new v.geometry.used e.0 e.1 (other_node e.0 e.1 (node-of tree.nodes e (is_entry e (entries tree.nodes) i)) apart)

  own_few : (k : ℕ) → times k xs ≤ times k (reach v tree ++ (gone ++ loose))
  own_few k = let p = parts k in let o = own_in k in let t = both k in omega (arith, p, o, t)

  pub node_renewed : Stocked (with_blocks v new) (record tree { nodes = insert tree.nodes d now }) (with_rows lists d rows) (come ++ loose)
  node_renewed = record {
    nodes = λ b m at. node_now b m (eq_by_cmp nat_cmp b d) refl (there b m at);
    rows = λ b m at dir. rows_now b m (eq_by_cmp nat_cmp b d) refl (there b m at) dir;
    directory = index_directory_stays v new v.geometry.used at_index stocked.directory;
    names = index_rows_stay v new v.geometry.used at_index ∙ stocked.names;
    indices = λ name value row. listings_stay v new v.geometry.used at_index lists.names stocked.names name value (lists.kinds name) (lists.pairs name) row (stocked.indices name value row);
    once = once_now v tree lists (gone ++ loose) stocked new xs ys shifts (reach w after ++ (come ++ loose)) own_few count;
    marks = marks_now v tree lists (gone ++ loose) stocked new xs ys shifts (reach w after ++ (come ++ loose)) own_few count;
  }
