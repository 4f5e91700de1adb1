-- A node whose inode's block was written, and which has another parent, is the node of the new record.
use Rattle.std.proofs.Common.{◌≡◌, ◌<◌, ◌-◌, ◌∙◌, ◌%◌, ◌/◌, pos, if◌then◌else◌, None, Some, ℕ, List, ◌++◌, length, sym, ap, subst, arith, length-drop, ◌≢◌, ◌≤◌, ◌+◌, ◌⊎◌, inl, inr, [], ◌∷◌, refl, ap₂, Bool, true, false, cond}
use Rattle.std.specs.Prelude.{◌==◌, ◌&&◌}
use Rattle.std.specs.FinMap.{from_entries, entries, insert}
use Rattle.std.specs.List.{flat_map}
use Rattle.bfs_base.specs.Lists.{Agree, times, Has, ChangesAt}
use Rattle.bfs_bytes.specs.declared.Run.{Run}
use Rattle.bfs_bytes.specs.Fields.{unsigned_at, run_in}
use Rattle.bfs_inode.specs.Inode.{inode_at, stream_at}
use Rattle.bfs_inode.specs.Refusals.{IsInode, Names}
use Rattle.bfs_smalldata.specs.Items.{Item, items_of}
use Rattle.bfs_stream.specs.Sizes.{first_block}
use Rattle.bfs_tree.specs.Trees.{Node, Tree, IsNode, is_link}
use Rattle.bfs_sound.specs.Volumes.{Volume, sizes, bitmap_blocks, IsMarked}
use Rattle.bfs_sound.specs.Inodes.{inode_blocks, is_short, stream_blocks, content}
use Rattle.bfs_sound.specs.Attributes.{is_zero, attribute_directory, attribute_inodes, attributes_in, attributes_of, HasDirectory}
use Rattle.bfs_sound.specs.Nodes.{HasContent, IsCalled, AreApart, HasNode, HasTarget}
use Rattle.bfs_sound.specs.Laws.{with_blocks}
use Rattle.bfs_sound.proofs.Nodes.{other_blocks, own_all}
use Rattle.bfs_sound.proofs.Rows.{inodes_stay, has_directory_stays, attributes_stay, attribute_inodes_stay}
use Rattle.bfs_shift.specs.Inodes.{HasBytes, HasStatus}
use Rattle.bfs_base.specs.declared.kind.KeyKind.TheVariants.{Text}
use Rattle.bfs_stream.specs.Places.{arrays_at, places_at}
use Rattle.bfs_stream.proofs.Doubles.{times-append}
use Rattle.bfs_tree.specs.declared.call.Kind.{Kind}
use Rattle.bfs_tree.specs.declared.call.Kind.TheVariants.{File, Dir, Link}
use Rattle.bfs_values.specs.Rows.{rows_in}
use Rattle.bfs_sound.specs.Owners.{node_blocks, reach}
use Rattle.bfs_sound.proofs.Counts.{times_member}
use Rattle.bfs_sound.proofs.Parts.{in_entries}
use Rattle.bfs_shift.specs.Lists.{Lists, with_rows}
use Rattle.bfs_shift.specs.Stocked.{Stocked, Shifts}
use Rattle.bfs_shift.proofs.Moving.{all_parts}
use Rattle.bfs_shift.proofs.Widens.{widened}
use Rattle.bfs_shift.proofs.Bits.{writes_shift}
use Rattle.bfs_shift.proofs.Rewritten.{words_same}
use Rattle.bfs_shift.proofs.Renewed.{node_renewed}
use Rattle.bfs_shift.proofs.Following.{same_or_not}
use Rattle.bfs_shift.proofs.Stamped.{Holds, agree_apart, streams_same, content_same, all_same_blocks, holds_now}

-- Of the inode's fields, all but the directory's address, mode, user, group, stamps and stream are the same.
pub record KeepsRest (old new : List ℕ) : Type 0 where
  pub magic : (inode_at new).magic1 ≡ (inode_at old).magic1
  pub number : (inode_at new).inode_num ≡ (inode_at old).inode_num
  pub flags : (inode_at new).flags ≡ (inode_at old).flags
  pub attributes : (inode_at new).attributes ≡ (inode_at old).attributes
  pub inode_size : (inode_at new).inode_size ≡ (inode_at old).inode_size
  pub small_data : (inode_at new).small_data ≡ (inode_at old).small_data

-- another record of the same node, perhaps with another parent
pub record IsSameBut (n now : Node) : Type 0 where
  pub kind : now.kind ≡ n.kind
  pub name : now.name ≡ n.name
  pub attributes : now.attributes ≡ n.attributes

long_same : (a b : ℕ) → 232 < a → b - 232 ≡ a - 232 → b ≡ a
long_same a b long e = omega (arith, long, e)

module _ (v : Volume) (new : ℕ → List ℕ) (d : ℕ) (kept : KeepsRest (v.blocks d) (new d)) (bytes : HasBytes (v.blocks d) (new d)) where
  abbrev w : Volume
  w = with_blocks v new

  length_is : length (new d) ≡ length (v.blocks d)
  length_is = long_same (length (v.blocks d)) (length (new d)) bytes.long (sym (length-drop 232 (new d)) ∙ ap length kept.small_data ∙ length-drop 232 (v.blocks d))

  pub flags_same : unsigned_at 4 (new d) 24 ≡ unsigned_at 4 (v.blocks d) 24
  flags_same = words_same (v.blocks d) (new d) 24 bytes.before.flags bytes.after.flags kept.flags

  pub inode_is : IsInode (v.blocks d) d v.geometry.shift → IsInode (new d) d v.geometry.shift
  inode_is i = record {
    magic = kept.magic ∙ i.magic;
    number_is = subst (λ (run : Run). Names run d v.geometry.shift) (sym kept.number) i.number_is;
    in_use = ap (λ b. b % 2) flags_same ∙ i.in_use;
    size = kept.inode_size ∙ i.size ∙ ap pos (sym length_is);
  }

  pub short_same : is_short w d ≡ is_short v d
  short_same = ap (λ n. n / 64 % 2 == 0) flags_same

  pub directory_is : attribute_directory w d ≡ attribute_directory v d
  directory_is = ap (λ run. if is_zero run then None else Some (first_block (sizes v.geometry) run)) kept.attributes

  module _ (others : Agree v.blocks new (other_blocks v d)) where
    attributes_are : attributes_of w (attribute_directory w d) ≡ attributes_of v (attribute_directory v d)
    attributes_are = ap (attributes_of w) directory_is ∙ attributes_stay v new v.geometry.used (attribute_directory v d) others

    has_directory : HasDirectory v d (attribute_directory v d) → HasDirectory w d (attribute_directory w d)
    has_directory h = subst (HasDirectory w d) (sym directory_is) (has_directory_stays v new v.geometry.used (attribute_directory v d) d kept.attributes others h)

    -- its other blocks, of its attribute directory and its attributes
    pub others_are : other_blocks w d ≡ other_blocks v d
    others_are =
        ap (λ o. flat_map (inode_blocks w) (attribute_inodes w o)) directory_is
        ∙ ap (flat_map (inode_blocks w)) (attribute_inodes_stay v new v.geometry.used (attribute_directory v d) others)
        ∙ inodes_stay v new v.geometry.used (attribute_inodes v (attribute_directory v d)) others

    module _ (n now : Node) (same : IsSameBut n now) (parent : Names (run_in (new d) 44) now.parent v.geometry.shift) (apart : d ≢ v.geometry.root) where
      called : (items : List Item) → IsCalled v d n items → IsCalled w d now items
      called items c = record {
        root_name = λ e. absurd (apart e);
        root_parent = λ e. absurd (apart e);
        name = λ other. let i = c.name other in (i.0, i.1, i.2, i.3 ∙ sym same.name);
        parent = λ other. parent;
      }

      attributes_now : (items : List Item) → n.attributes ≡ from_entries (attributes_in items ++ attributes_of v (attribute_directory v d)) → now.attributes ≡ from_entries (attributes_in items ++ attributes_of w (attribute_directory w d))
      attributes_now items e = same.attributes ∙ e ∙ ap (λ l. from_entries (attributes_in items ++ l)) (sym attributes_are)

      pub node_sited : HasStatus w d now → HasContent w d now now.kind → HasNode v d n → HasNode w d now
      node_sited status content h = record {
        inode = inode_is h.inode;
        kind = status.kind;
        mode = status.mode;
        uid = status.uid;
        gid = status.gid;
        created = status.created;
        modified = status.modified;
        changed = status.changed;
        content_is = content;
        items = h.items;
        area = ap items_of kept.small_data ∙ h.area;
        distinct = h.distinct;
        short = h.short;
        called = called h.items h.called;
        directory = has_directory h.directory;
        apart = subst (λ l. AreApart (attributes_in h.items ++ l)) (sym attributes_are) h.apart;
        attributes = attributes_now h.items h.attributes;
      }

one_more : (d : ℕ) (l : List ℕ) → times d (d ∷ l) ≡ 1 + times d l
one_more d l = grind arith

same_number : (b d : ℕ) → (b == d) ≡ true → b ≡ d
same_number b d e = grind (arith, e)

not_there : (k d : ℕ) → k ≢ d → times k (d ∷ []) ≡ 0
not_there k d apart = grind (arith, apart)

holds_of : (u : Volume) (id : ℕ) (n : Node) (k : Kind) → HasContent u id n k → Holds u id n k (is_short u id)
holds_of u id n File c = c
holds_of u id n Dir c = c
holds_of u id n Link c = c

content_of : (u : Volume) (id : ℕ) (n : Node) (k : Kind) (short : Bool) → is_short u id ≡ short → Holds u id n k short → HasContent u id n k
content_of u id n File short e c = c
content_of u id n Dir short e c = c
content_of u id n Link short e c = subst (λ b. HasTarget u id n.target b × (n.size ≡ length n.target)) (sym e) c

module _ (v : Volume) (tree : Tree) (lists : Lists) (loose : List ℕ) (new : ℕ → List ℕ) (d : ℕ) (n now : Node) (stocked : Stocked v tree lists loose) (is : IsNode tree d n) (some : 0 < v.geometry.block_size)
    (changes : ChangesAt v.blocks new (d ∷ [])) (kept : KeepsRest (v.blocks d) (new d)) (bytes : HasBytes (v.blocks d) (new d)) (stream : stream_at (new d) ≡ stream_at (v.blocks d))
    (target : (inode_at (new d)).stream_bytes ≡ (inode_at (v.blocks d)).stream_bytes) (same : IsSameBut n now) (size : now.size ≡ n.size) (same_target : now.target ≡ n.target) (status : HasStatus (with_blocks v new) d now)
    (parent : Names (run_in (new d) 44) now.parent v.geometry.shift) (apart : d ≢ v.geometry.root) where
  abbrev u : Volume
  u = with_blocks v new

  own_is : (x : Volume) (m : Node) (k : ℕ) → times k (node_blocks x (d, m)) ≡ times k (own_all x d m.kind (is_short x d)) + times k (other_blocks x d)
  unfolding node_blocks
  own_is x m k = times-append k (own_all x d m.kind (is_short x d)) (other_blocks x d)

  own_in : (k : ℕ) → times k (node_blocks v (d, n)) ≤ times k (flat_map (node_blocks v) (entries tree.nodes))
  own_in k = times_member k (node_blocks v) (entries tree.nodes) (d, n) (in_entries tree.nodes d n is)

  few : (k : ℕ) → times k (own_all v d n.kind (is_short v d)) + times k (other_blocks v d) + times k (bitmap_blocks v.geometry) ≤ times k (reach v tree ++ loose)
  few k = let p = all_parts v tree lists loose stocked k in let o = own_in k in let e = own_is v n k in omega (arith, p, o, e)

  most : (k : ℕ) → times k (reach v tree ++ loose) ≤ 1
  most k = stocked.once k

  own_first : (k : Kind) (short : Bool) → 1 ≤ times d (own_all v d k short)
  own_first k short = by_test (is_link k && short)
    where
      by_test : (t : Bool) → 1 ≤ times d (cond t (d ∷ []) (inode_blocks v d))
      by_test true = let e = one_more d [] in omega (arith, e)
      by_test false = let e = one_more d (arrays_at (sizes v.geometry) v.blocks d ++ places_at (sizes v.geometry) v.blocks d) in let o : times d (inode_blocks v d) ≡ 1 + times d (arrays_at (sizes v.geometry) v.blocks d ++ places_at (sizes v.geometry) v.blocks d) = e in omega (arith, o)

  own_once : times d (own_all v d n.kind (is_short v d)) ≤ 1
  own_once = let f = few d in let m = most d in omega (arith, f, m)

  no_other : times d (other_blocks v d) ≡ 0
  no_other = let f = few d in let m = most d in let o = own_first n.kind (is_short v d) in omega (arith, f, m, o)

  no_bits : times d (bitmap_blocks v.geometry) ≡ 0
  no_bits = let f = few d in let m = most d in let o = own_first n.kind (is_short v d) in omega (arith, f, m, o)

  others : Agree v.blocks new (other_blocks v d)
  others = agree_apart v new d changes stream target (other_blocks v d) no_other

  pub reached : 0 < times d (reach v tree ++ loose)
  reached = let f = few d in let o = own_first n.kind (is_short v d) in omega (arith, f, o)

  pub only_d : (k : ℕ) → Has (d ∷ []) k → k ≡ d
  only_d k h = by_id (same_or_not k d)
    where
      by_id : (k ≡ d) ⊎ (k ≢ d) → k ≡ d
      by_id (inl e) = e
      by_id (inr apart) = let none = not_there k d apart in let g : 0 < times k (d ∷ []) = h in absurd (omega (arith, none, g))

  pub one_shift : Shifts v new (d ∷ []) (d ∷ [])
  one_shift = writes_shift v new (d ∷ []) some changes (λ k. once k (same_or_not k d)) (λ k h. (
    subst (λ (j : ℕ). IsMarked v j) (sym (only_d k h)) ((stocked.marks d).1 reached),
    ap (λ (j : ℕ). times j (bitmap_blocks v.geometry)) (only_d k h) ∙ no_bits,
  ))
    where
      once : (k : ℕ) → (k ≡ d) ⊎ (k ≢ d) → times k (d ∷ []) ≤ 1
      once k (inl e) = let o = one_more d [] in subst (λ (j : ℕ). times j (d ∷ []) ≤ 1) (sym e) (omega (arith, o))
      once k (inr apart) = let none = not_there k d apart in omega (arith, none)

  short_is : is_short u d ≡ is_short v d
  short_is = short_same v new d kept bytes

  others_same : other_blocks u d ≡ other_blocks v d
  others_same = others_are v new d kept bytes others

  own_same : own_all u d now.kind (is_short u d) ≡ own_all v d n.kind (is_short v d)
  own_same = ap₂ (λ (k : Kind) (t : Bool). own_all u d k t) same.kind short_is ∙ all_same_blocks v new d changes stream target n.kind (is_short v d) own_once

  -- a file's bytes stand in the same blocks
  pub file_stays : n.kind ≡ File → stream_blocks u d ≡ stream_blocks v d
  file_stays file = streams_same v new d changes stream target (subst (λ (k : Kind). times d (own_all v d k (is_short v d)) ≤ 1) file own_once)

  blocks_now : (k : ℕ) → times k (node_blocks u (d, now)) ≡ times k (node_blocks v (d, n))
  blocks_now k = own_is u now k ∙ ap₂ (λ (a b : List ℕ). times k a + times k b) own_same others_same ∙ sym (own_is v n k)

  single : (k : ℕ) → times k (d ∷ []) ≤ times k (node_blocks v (d, n))
  single k = by_id (same_or_not k d)
    where
      by_id : (k ≡ d) ⊎ (k ≢ d) → times k (d ∷ []) ≤ times k (node_blocks v (d, n))
      by_id (inr apart) = let none = not_there k d apart in omega (arith, none)
      by_id (inl e) = subst (λ (j : ℕ). times j (d ∷ []) ≤ times j (node_blocks v (d, n))) (sym e) (let o = one_more d [] in let f = own_first n.kind (is_short v d) in let p = own_is v n d in omega (arith, o, f, p))

  with_none : (k : ℕ) (l : List ℕ) → times k (l ++ []) ≡ times k l
  with_none k l = let a = times-append k l [] in omega (arith, a)

  node_shift : Shifts v new (node_blocks v (d, n) ++ []) (node_blocks u (d, now) ++ [])
  node_shift = widened v new (d ∷ []) (d ∷ []) (node_blocks v (d, n) ++ []) (node_blocks u (d, now) ++ []) one_shift
      (λ k. let a = with_none k (node_blocks v (d, n)) in let b = with_none k (node_blocks u (d, now)) in let c = blocks_now k in omega (arith, a, b, c))
      (λ k. let a = with_none k (node_blocks v (d, n)) in let c = single k in omega (arith, a, c))
      (λ k. let a = with_none k (node_blocks v (d, n)) in let c = own_is v n k in let f = few k in let o = most k in omega (arith, a, c, f, o))
      (λ k h. (stocked.marks k).1 (let g : 0 < times k (node_blocks v (d, n) ++ []) = h in let a = with_none k (node_blocks v (d, n)) in let c = own_is v n k in let f = few k in let r : 0 < times k (reach v tree ++ loose) = omega (arith, g, a, c, f) in r))

  content_now : HasContent u d now now.kind
  content_now =
      let before : Holds v d n n.kind (is_short v d) = holds_of v d n n.kind (stocked.nodes d n is).content_is in
      let after : Holds u d now n.kind (is_short v d) = holds_now v new d changes stream target n now size same_target n.kind (is_short v d) own_once before in
      subst (λ (k : Kind). HasContent u d now k) (sym same.kind) (content_of u d now n.kind (is_short v d) short_is after)

  has_now : HasNode u d now
  has_now = node_sited v new d kept bytes others n now same parent apart status content_now (stocked.nodes d n is)

  rows_now : now.kind ≡ Dir → rows_in Text (content u d) ≡ lists.rows d
  rows_now dir =
      let dir_before : n.kind ≡ Dir = sym same.kind ∙ dir in
      let own : times d (inode_blocks v d) ≤ 1 = subst (λ (k : Kind). times d (own_all v d k (is_short v d)) ≤ 1) dir_before own_once in
      ap (rows_in Text) (content_same v new d changes stream target own) ∙ stocked.rows d n is dir_before

  rows_same : (b : ℕ) → (with_rows lists d (lists.rows d)).rows b ≡ lists.rows b
  rows_same b = by_test (b == d) refl
    where
      by_test : (t : Bool) → (b == d) ≡ t → cond t (lists.rows d) (lists.rows b) ≡ lists.rows b
      by_test true e = ap lists.rows (sym (same_number b d e))
      by_test false e = refl

  renewed : Stocked u (record tree { nodes = insert tree.nodes d now }) (with_rows lists d (lists.rows d)) loose
  renewed = node_renewed v tree lists [] [] loose new d n now (lists.rows d) stocked is node_shift has_now rows_now

  pub status_changed : Stocked (with_blocks v new) (record tree { nodes = insert tree.nodes d now }) lists loose
  status_changed = record {
    nodes = renewed.nodes;
    rows = λ b m at dir. renewed.rows b m at dir ∙ rows_same b;
    directory = renewed.directory;
    names = renewed.names;
    indices = renewed.indices;
    once = renewed.once;
    marks = renewed.marks;
  }
