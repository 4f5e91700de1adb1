-- A node's status is written in its inode's block.
use Rattle.std.proofs.Common.{◌≡◌, ◌≢◌, ◌≤◌, ◌<◌, ◌+◌, ◌⊎◌, inl, inr, ℕ, List, [], ◌∷◌, ◌++◌, length, take, refl, sym, ap, ap₂, ◌∙◌, subst, arith, Bool, true, false, cond}
use Rattle.std.specs.Prelude.{◌==◌, ◌&&◌}
use Rattle.std.specs.List.{flat_map, before_first}
use Rattle.std.specs.FinMap.{entries, insert}
use Rattle.bfs_base.specs.Lists.{times, Has, Agree, ChangesAt}
use Rattle.bfs_base.specs.declared.kind.KeyKind.TheVariants.{Text}
use Rattle.bfs_super.specs.Conditions.{natural}
use Rattle.bfs_inode.specs.Inode.{Stream, inode_at, stream_at}
use Rattle.bfs_stream.specs.Sizes.{Sizes}
use Rattle.bfs_stream.specs.Places.{Levels, HasLevels, HasStream, fields, levels_at, arrays_of, places_of, arrays_at, places_at, bytes_at}
use Rattle.bfs_stream.proofs.Doubles.{times-append}
use Rattle.bfs_stream.proofs.Frames.{agree_left, agree_right, joined_same, levels_but}
use Rattle.bfs_tree.specs.declared.call.Kind.{Kind}
use Rattle.bfs_tree.specs.declared.call.Kind.TheVariants.{File, Dir, Link}
use Rattle.bfs_tree.specs.Trees.{Node, Tree, IsNode, is_link}
use Rattle.bfs_values.specs.Rows.{rows_in}
use Rattle.bfs_values.specs.Reached.{IsWholeTree}
use Rattle.bfs_sound.specs.Volumes.{Volume, sizes, bitmap_blocks, IsMarked}
use Rattle.bfs_sound.specs.Inodes.{inode_blocks, stream_blocks, content, is_short}
use Rattle.bfs_sound.specs.Nodes.{HasTarget, HasContent, HasNode}
use Rattle.bfs_sound.specs.Owners.{node_blocks, reach}
use Rattle.bfs_sound.specs.Laws.{with_blocks}
use Rattle.bfs_sound.proofs.Counts.{times_member}
use Rattle.bfs_sound.proofs.Nodes.{own_all, other_blocks}
use Rattle.bfs_sound.proofs.Parts.{in_entries}
use Rattle.bfs_shift.specs.Lists.{Lists, with_rows}
use Rattle.bfs_shift.specs.Stocked.{Stocked, Shifts}
use Rattle.bfs_shift.specs.Inodes.{KeepsPlace, HasBytes, IsSamePlace, HasStatus}
use Rattle.bfs_shift.proofs.Moving.{all_parts}
use Rattle.bfs_shift.proofs.Widens.{widened}
use Rattle.bfs_shift.proofs.Bits.{writes_shift}
use Rattle.bfs_shift.proofs.Rewritten.{short_same, node_restated, others_are}
use Rattle.bfs_shift.proofs.Renewed.{node_renewed}
use Rattle.bfs_shift.proofs.Following.{same_or_not}

one_more : (d : ℕ) (l : List ℕ) → times d (d ∷ l) ≡ 1 + times d l
one_more d l = grind arith

same_number : (b d : ℕ) → (b == d) ≡ true → b ≡ d
same_number b d e = grind (arith, e)

not_there : (k d : ℕ) → k ≢ d → times k (d ∷ []) ≡ 0
not_there k d apart = grind (arith, apart)

-- what stands in a node's stream, by its kind and whether it is flagged as a long link
abbrev pub Holds : Volume → ℕ → Node → Kind → Bool → Type 0
Holds u id n File short = HasStream (sizes u.geometry) u.blocks id × (n.size ≡ natural (fields (sizes u.geometry) u.blocks id).size) × (n.target ≡ [])
Holds u id n Dir short = HasStream (sizes u.geometry) u.blocks id × IsWholeTree Text (content u id) × (n.size ≡ 0) × (n.target ≡ [])
Holds u id n Link short = HasTarget u id n.target short × (n.size ≡ length n.target)

holds_of : (u : Volume) (id : ℕ) (n : Node) (k : Kind) → HasContent u id n k → Holds u id n k (is_short u id)
holds_of u id n File c = c
holds_of u id n Dir c = c
holds_of u id n Link c = c

content_of : (u : Volume) (id : ℕ) (n : Node) (k : Kind) (short : Bool) → is_short u id ≡ short → Holds u id n k short → HasContent u id n k
content_of u id n File short e c = c
content_of u id n Dir short e c = c
content_of u id n Link short e c = subst (λ b. HasTarget u id n.target b × (n.size ≡ length n.target)) (sym e) c

module _ (v : Volume) (new : ℕ → List ℕ) (d : ℕ) (changes : ChangesAt v.blocks new (d ∷ [])) (stream : stream_at (new d) ≡ stream_at (v.blocks d)) (target : (inode_at (new d)).stream_bytes ≡ (inode_at (v.blocks d)).stream_bytes) where
  abbrev w : Volume
  w = with_blocks v new

  abbrev s : Sizes
  s = sizes v.geometry

  pub agree_apart : (part : List ℕ) → times d part ≡ 0 → Agree v.blocks new part
  agree_apart part none k h = by_id (same_or_not k d)
    where
      by_id : (k ≡ d) ⊎ (k ≢ d) → new k ≡ v.blocks k
      by_id (inr apart) = changes k (not_there k d apart)
      by_id (inl same) = let some : 0 < times d part = subst (λ (j : ℕ). Has part j) same h in absurd (omega (arith, some, none))

  module _ (own : times d (inode_blocks v d) ≤ 1) where
    rest : Agree v.blocks new (arrays_at s v.blocks d ++ places_at s v.blocks d)
    rest = agree_apart (arrays_at s v.blocks d ++ places_at s v.blocks d) (let e = one_more d (arrays_at s v.blocks d ++ places_at s v.blocks d) in let o : times d (d ∷ (arrays_at s v.blocks d ++ places_at s v.blocks d)) ≤ 1 = own in omega (arith, e, o))

    levels_same : levels_at s new d ≡ levels_at s v.blocks d
    levels_same =
        levels_but v.blocks new s d (agree_left v.blocks new (arrays_at s v.blocks d) (places_at s v.blocks d) rest) (ap (λ (t : Stream). t.indirect) stream) (ap (λ (t : Stream). t.double_indirect) stream)
        ∙ ap (λ (t : Stream). record (levels_at s v.blocks d) { stream = t }) stream

    pub blocks_same : inode_blocks w d ≡ inode_blocks v d
    blocks_same = ap (λ (l : Levels). (d ∷ arrays_of s l) ++ places_of s l) levels_same

    pub streams_same : stream_blocks w d ≡ stream_blocks v d
    streams_same = ap (places_of s) levels_same

    stream_now : HasStream s v.blocks d → HasStream s new d
    stream_now h = subst (HasLevels s) (sym levels_same) h

    pub content_same : content w d ≡ content v d
    unfolding bytes_at
    content_same =
        ap (λ (l : Levels). take (natural l.stream.size) (flat_map new (places_of s l))) levels_same
        ∙ ap (take (natural (fields s v.blocks d).size)) (joined_same v.blocks new (λ bytes. bytes) (places_at s v.blocks d) (agree_right v.blocks new (arrays_at s v.blocks d) (places_at s v.blocks d) rest))

  pub all_same_blocks : (k : Kind) (short : Bool) → times d (own_all v d k short) ≤ 1 → own_all w d k short ≡ own_all v d k short
  all_same_blocks File short own = blocks_same own
  all_same_blocks Dir short own = blocks_same own
  all_same_blocks Link true own = refl
  all_same_blocks Link false own = blocks_same own

  module _ (n now : Node) (size : now.size ≡ n.size) (same_target : now.target ≡ n.target) where
    pub holds_now : (k : Kind) (short : Bool) → times d (own_all v d k short) ≤ 1 → Holds v d n k short → Holds w d now k short
    holds_now File short own c = (stream_now own c.0, size ∙ c.1 ∙ sym (ap (λ (t : Stream). natural t.size) stream), same_target ∙ c.2)
    holds_now Dir short own c = (stream_now own c.0, subst (IsWholeTree Text) (sym (content_same own)) c.1, size ∙ c.2, same_target ∙ c.3)
    holds_now Link true own c = (
      (ap (λ (l : List ℕ). before_first (λ b. b == 0) l) target ∙ c.0.0 ∙ sym same_target, subst (λ (l : List ℕ). length l < 144) (sym same_target) c.0.1),
      size ∙ c.1 ∙ ap length (sym same_target),
    )
    holds_now Link false own c = ((stream_now own c.0.0, same_target ∙ c.0.1 ∙ sym (content_same own)), size ∙ c.1 ∙ ap length (sym same_target))

module _ (v : Volume) (tree : Tree) (lists : Lists) (loose : List ℕ) (new : ℕ → List ℕ) (d : ℕ) (n now : Node) (stocked : Stocked v tree lists loose) (is : IsNode tree d n) (some : 0 < v.geometry.block_size)
    (changes : ChangesAt v.blocks new (d ∷ [])) (kept : KeepsPlace (v.blocks d) (new d)) (bytes : HasBytes (v.blocks d) (new d)) (stream : stream_at (new d) ≡ stream_at (v.blocks d))
    (target : (inode_at (new d)).stream_bytes ≡ (inode_at (v.blocks d)).stream_bytes) (same : IsSamePlace n now) (size : now.size ≡ n.size) (same_target : now.target ≡ n.target) (status : HasStatus (with_blocks v new) d now) where
  abbrev u : Volume
  u = with_blocks v new

  own_is : (x : Volume) (m : Node) (k : ℕ) → times k (node_blocks x (d, m)) ≡ times k (own_all x d m.kind (is_short x d)) + times k (other_blocks x d)
  unfolding node_blocks
  own_is x m k = times-append k (own_all x d m.kind (is_short x d)) (other_blocks x d)

  own_in : (k : ℕ) → times k (node_blocks v (d, n)) ≤ times k (flat_map (node_blocks v) (entries tree.nodes))
  own_in k = times_member k (node_blocks v) (entries tree.nodes) (d, n) (in_entries tree.nodes d n is)

  few : (k : ℕ) → times k (own_all v d n.kind (is_short v d)) + times k (other_blocks v d) + times k (bitmap_blocks v.geometry) ≤ times k (reach v tree ++ loose)
  few k = let p = all_parts v tree lists loose stocked k in let o = own_in k in let e = own_is v n k in omega (arith, p, o, e)

  most : (k : ℕ) → times k (reach v tree ++ loose) ≤ 1
  most k = stocked.once k

  own_first : (k : Kind) (short : Bool) → 1 ≤ times d (own_all v d k short)
  own_first k short = by_test (is_link k && short)
    where
      by_test : (t : Bool) → 1 ≤ times d (cond t (d ∷ []) (inode_blocks v d))
      by_test true = let e = one_more d [] in omega (arith, e)
      by_test false = let e = one_more d (arrays_at (sizes v.geometry) v.blocks d ++ places_at (sizes v.geometry) v.blocks d) in let o : times d (inode_blocks v d) ≡ 1 + times d (arrays_at (sizes v.geometry) v.blocks d ++ places_at (sizes v.geometry) v.blocks d) = e in omega (arith, o)

  own_once : times d (own_all v d n.kind (is_short v d)) ≤ 1
  own_once = let f = few d in let m = most d in omega (arith, f, m)

  no_other : times d (other_blocks v d) ≡ 0
  no_other = let f = few d in let m = most d in let o = own_first n.kind (is_short v d) in omega (arith, f, m, o)

  no_bits : times d (bitmap_blocks v.geometry) ≡ 0
  no_bits = let f = few d in let m = most d in let o = own_first n.kind (is_short v d) in omega (arith, f, m, o)

  others : Agree v.blocks new (other_blocks v d)
  others = agree_apart v new d changes stream target (other_blocks v d) no_other

  pub reached : 0 < times d (reach v tree ++ loose)
  reached = let f = few d in let o = own_first n.kind (is_short v d) in omega (arith, f, o)

  pub only_d : (k : ℕ) → Has (d ∷ []) k → k ≡ d
  only_d k h = by_id (same_or_not k d)
    where
      by_id : (k ≡ d) ⊎ (k ≢ d) → k ≡ d
      by_id (inl e) = e
      by_id (inr apart) = let none = not_there k d apart in let g : 0 < times k (d ∷ []) = h in absurd (omega (arith, none, g))

  pub one_shift : Shifts v new (d ∷ []) (d ∷ [])
  one_shift = writes_shift v new (d ∷ []) some changes (λ k. once k (same_or_not k d)) (λ k h. (
    subst (λ (j : ℕ). IsMarked v j) (sym (only_d k h)) ((stocked.marks d).1 reached),
    ap (λ (j : ℕ). times j (bitmap_blocks v.geometry)) (only_d k h) ∙ no_bits,
  ))
    where
      once : (k : ℕ) → (k ≡ d) ⊎ (k ≢ d) → times k (d ∷ []) ≤ 1
      once k (inl e) = let o = one_more d [] in subst (λ (j : ℕ). times j (d ∷ []) ≤ 1) (sym e) (omega (arith, o))
      once k (inr apart) = let none = not_there k d apart in omega (arith, none)

  short_is : is_short u d ≡ is_short v d
  short_is = short_same v new d kept bytes

  others_same : other_blocks u d ≡ other_blocks v d
  others_same = others_are v new d kept bytes others

  own_same : own_all u d now.kind (is_short u d) ≡ own_all v d n.kind (is_short v d)
  own_same = ap₂ (λ (k : Kind) (t : Bool). own_all u d k t) same.kind short_is ∙ all_same_blocks v new d changes stream target n.kind (is_short v d) own_once

  -- a file's bytes stand in the same blocks
  pub file_stays : n.kind ≡ File → stream_blocks u d ≡ stream_blocks v d
  file_stays file = streams_same v new d changes stream target (subst (λ (k : Kind). times d (own_all v d k (is_short v d)) ≤ 1) file own_once)

  blocks_now : (k : ℕ) → times k (node_blocks u (d, now)) ≡ times k (node_blocks v (d, n))
  blocks_now k = own_is u now k ∙ ap₂ (λ (a b : List ℕ). times k a + times k b) own_same others_same ∙ sym (own_is v n k)

  single : (k : ℕ) → times k (d ∷ []) ≤ times k (node_blocks v (d, n))
  single k = by_id (same_or_not k d)
    where
      by_id : (k ≡ d) ⊎ (k ≢ d) → times k (d ∷ []) ≤ times k (node_blocks v (d, n))
      by_id (inr apart) = let none = not_there k d apart in omega (arith, none)
      by_id (inl e) = subst (λ (j : ℕ). times j (d ∷ []) ≤ times j (node_blocks v (d, n))) (sym e) (let o = one_more d [] in let f = own_first n.kind (is_short v d) in let p = own_is v n d in omega (arith, o, f, p))

  with_none : (k : ℕ) (l : List ℕ) → times k (l ++ []) ≡ times k l
  with_none k l = let a = times-append k l [] in omega (arith, a)

  node_shift : Shifts v new (node_blocks v (d, n) ++ []) (node_blocks u (d, now) ++ [])
  node_shift = widened v new (d ∷ []) (d ∷ []) (node_blocks v (d, n) ++ []) (node_blocks u (d, now) ++ []) one_shift
      (λ k. let a = with_none k (node_blocks v (d, n)) in let b = with_none k (node_blocks u (d, now)) in let c = blocks_now k in omega (arith, a, b, c))
      (λ k. let a = with_none k (node_blocks v (d, n)) in let c = single k in omega (arith, a, c))
      (λ k. let a = with_none k (node_blocks v (d, n)) in let c = own_is v n k in let f = few k in let o = most k in omega (arith, a, c, f, o))
      (λ k h. (stocked.marks k).1 (let g : 0 < times k (node_blocks v (d, n) ++ []) = h in let a = with_none k (node_blocks v (d, n)) in let c = own_is v n k in let f = few k in let r : 0 < times k (reach v tree ++ loose) = omega (arith, g, a, c, f) in r))

  content_now : HasContent u d now now.kind
  content_now =
      let before : Holds v d n n.kind (is_short v d) = holds_of v d n n.kind (stocked.nodes d n is).content_is in
      let after : Holds u d now n.kind (is_short v d) = holds_now v new d changes stream target n now size same_target n.kind (is_short v d) own_once before in
      subst (λ (k : Kind). HasContent u d now k) (sym same.kind) (content_of u d now n.kind (is_short v d) short_is after)

  has_now : HasNode u d now
  has_now = node_restated v new d kept bytes others n now same status content_now (stocked.nodes d n is)

  rows_now : now.kind ≡ Dir → rows_in Text (content u d) ≡ lists.rows d
  rows_now dir =
      let dir_before : n.kind ≡ Dir = sym same.kind ∙ dir in
      let own : times d (inode_blocks v d) ≤ 1 = subst (λ (k : Kind). times d (own_all v d k (is_short v d)) ≤ 1) dir_before own_once in
      ap (rows_in Text) (content_same v new d changes stream target own) ∙ stocked.rows d n is dir_before

  rows_same : (b : ℕ) → (with_rows lists d (lists.rows d)).rows b ≡ lists.rows b
  rows_same b = by_test (b == d) refl
    where
      by_test : (t : Bool) → (b == d) ≡ t → cond t (lists.rows d) (lists.rows b) ≡ lists.rows b
      by_test true e = ap lists.rows (sym (same_number b d e))
      by_test false e = refl

  renewed : Stocked u (record tree { nodes = insert tree.nodes d now }) (with_rows lists d (lists.rows d)) loose
  renewed = node_renewed v tree lists [] [] loose new d n now (lists.rows d) stocked is node_shift has_now rows_now

  pub status_changed : Stocked (with_blocks v new) (record tree { nodes = insert tree.nodes d now }) lists loose
  status_changed = record {
    nodes = renewed.nodes;
    rows = λ b m at dir. renewed.rows b m at dir ∙ rows_same b;
    directory = renewed.directory;
    names = renewed.names;
    indices = renewed.indices;
    once = renewed.once;
    marks = renewed.marks;
  }
