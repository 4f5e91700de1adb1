-- A new volume is whole with the empty tree.
use Rattle.std.proofs.Common.{◌≡◌, ◌≤◌, ◌<◌, ◌+◌, ◌*◌, ◌-◌, ◌^◌, ◌/◌, ◌↔◌, ◌⊎◌, inl, inr, ℕ, ℤ, zero, suc, pos, List, [], ◌∷◌, ◌++◌, length, Some, true, false, cond, refl, sym, ap, ap₂, ◌∙◌, subst, arith, map, length-append, append-nil}
use Rattle.std.specs.Prelude.{codes, nat_lt, nat_le, ◌&&◌, ◌==◌}
use Rattle.std.specs.List.{flat_map}
use Rattle.std.specs.Cmp.{nat_cmp_total}
use Rattle.std.specs.Ordering.{nat_cmp}
use Rattle.std.specs.FinMap.{get, empty, entries, entries-insert, put, len-empty, len-entries}
use Rattle.bfs_base.specs.Lists.{times, Has, counted_from}
use Rattle.bfs_base.specs.declared.kind.KeyKind.{KeyKind}
use Rattle.bfs_base.specs.declared.kind.KeyKind.TheVariants.{Text, I64}
use Rattle.bfs_bytes.specs.declared.Run.{Run}
use Rattle.bfs_super.specs.Conditions.{natural}
use Rattle.bfs_super.specs.Geometry.{bitmap_length}
use Rattle.bfs_super.specs.declared.geometry.Geometry.{Geometry}
use Rattle.bfs_log.proofs.Listed.{length-counted}
use Rattle.bfs_stream.specs.Sizes.{first_block}
use Rattle.bfs_stream.proofs.Doubles.{times-append}
use Rattle.bfs_tree.specs.Listings.{listed, listed_among}
use Rattle.bfs_tree.specs.Trees.{Node, Tree, empty_tree}
use Rattle.bfs_tree.proofs.Empties.{empty-plain}
use Rattle.bfs_values.specs.Rows.{rows_in}
use Rattle.bfs_values.specs.Reached.{AreWritten}
use Rattle.bfs_sound.specs.Volumes.{Volume, sizes, log_blocks, IsMarked}
use Rattle.bfs_sound.specs.Inodes.{content, inode_blocks, id_of, inodes_of}
use Rattle.bfs_sound.specs.Attributes.{attribute_directory, attribute_inodes}
use Rattle.bfs_sound.specs.Owners.{node_blocks, index_blocks, reach, Accounts}
use Rattle.bfs_sound.proofs.Parts.{sound_from}
use Rattle.bfs_sound.specs.Whole.{HasIndices, IsSound}
use Rattle.bfs_mkfs.specs.Laid.{pages_length, tree_blocks, blocks_in, bitmap_bytes, name_at, size_at, modified_at, IsPlanned, HasTrees}
use Rattle.bfs_bitmap.specs.Runs.{marked}
use Rattle.bfs_mkfs.proofs.Trees.{block_bounds}
use Rattle.bfs_mkfs.proofs.Bytes.{blocks_by}
use Rattle.bfs_mkfs.proofs.Bits.{new_marked}
use Rattle.bfs_mkfs.proofs.Leaves.{root_stood, indices_stood, name_stood, size_stood, modified_stood, indices_at, used_at}
use Rattle.bfs_mkfs.proofs.Standing.{the_root, no_directory, has_built_in, directory_there, rows_proper, index_row, new_stands}

-- the only entry of the tree's nodes
no_entries : {X : Type 0} (es : List X) → length es ≡ 0 → es ≡ []
no_entries [] e = refl
no_entries (x ∷ es) e = absurd (omega (arith, e))

one_entry : (root : ℕ) (stamp : ℤ) → entries (empty_tree root stamp).nodes ≡ (root, the_root root stamp) ∷ []
one_entry root stamp =
    entries-insert nat_cmp_total empty root (the_root root stamp)
    ∙ ap (put nat_cmp root (the_root root stamp)) (no_entries (entries (empty {X = Node} {R = nat_cmp})) (sym (len-entries (empty {X = Node} {R = nat_cmp})) ∙ len-empty nat_cmp Node))

-- no index lists it
listed_none : (root : ℕ) (stamp : ℤ) (kind : KeyKind) (name : List ℕ) → (name ≡ codes "last_modified") ⊎ ((name ≡ codes "name") ⊎ (name ≡ codes "size")) → listed (empty_tree root stamp) name kind ≡ []
listed_none root stamp kind name which = ap (listed_among root name kind) (one_entry root stamp) ∙ by_name which
  where
    same_root : (root == root) ≡ true
    same_root = grind arith

    by_name : (name ≡ codes "last_modified") ⊎ ((name ≡ codes "name") ⊎ (name ≡ codes "size")) → listed_among root name kind ((root, the_root root stamp) ∷ []) ≡ []
    by_name (inl e) = ap (λ k. listed_among root k kind ((root, the_root root stamp) ∷ [])) e
    by_name (inr (inl e)) = ap (λ k. listed_among root k kind ((root, the_root root stamp) ∷ [])) e ∙ without_root same_root
      where
        without_root : (root == root) ≡ true → listed_among root (codes "name") kind ((root, the_root root stamp) ∷ []) ≡ []
        without_root t = grind (arith, t)
    by_name (inr (inr e)) = ap (λ k. listed_among root k kind ((root, the_root root stamp) ∷ [])) e

-- how often a number stands among n numbers from the first on
abbrev among : ℕ → ℕ → ℕ → ℕ
among first n k = cond (nat_le first k && nat_lt k (first + n)) 1 0

times_counted : (k first n : ℕ) → times k (counted_from first n) ≡ among first n k
times_counted k first zero = let e : (nat_le first k && nat_lt k (first + 0)) ≡ false = grind arith in sym (ap (λ b. cond b 1 0) e)
times_counted k first (suc n) =
    let ih : times k (counted_from (suc first) n) ≡ among (suc first) n k = times_counted k (suc first) n in
    ap (λ m. cond (first == k) 1 0 + m) ih ∙ step
  where
    step : cond (first == k) 1 0 + among (suc first) n k ≡ among first (suc n) k
    step = grind arith

join : (k a b : ℕ) → among 0 a k + among a b k ≡ among 0 (a + b) k
join k a b = grind arith

zero_first : (k m : ℕ) → cond (0 == k) 1 0 + m ≡ among 0 1 k + m
zero_first k m = grind arith

-- what stands among the first numbers
at_most_once : (k n : ℕ) → among 0 n k ≤ 1
at_most_once k n = grind arith

below : (k n : ℕ) → 0 < among 0 n k → k < n
below k n h = grind (arith, h)

is_below : (k n : ℕ) → k < n → 0 < among 0 n k
is_below k n h = grind (arith, h)

marked_low : (k n m : ℕ) → m ≡ cond (nat_lt k n) 1 0 → m ≡ 1 → k < n
marked_low k n m e one = grind (arith, e, one)

low_marked : (k n m : ℕ) → m ≡ cond (nat_lt k n) 1 0 → k < n → m ≡ 1
low_marked k n m e low = grind (arith, e, low)

quotient_below : (k n b : ℕ) → 0 < b → k < n → k / b < (n + (b - 1)) / b
quotient_below k n b some h = grind (arith, some, h)

module _ (g : Geometry) (stamp : ℤ) (image : List ℕ) (planned : IsPlanned g)
    (bitmap : blocks_in g.block_size 1 (bitmap_length g.blocks g.block_size) image ≡ bitmap_bytes g.used (bitmap_length g.blocks g.block_size * g.block_size))
    (trees : HasTrees g stamp (blocks_in g.block_size g.root (5 * tree_blocks g) image)) where
  abbrev n : ℕ
  n = g.block_size

  abbrev p : ℕ
  p = pages_length g.block_size

  abbrev bm : ℕ
  bm = bitmap_length g.blocks g.block_size

  abbrev v : Volume
  v = record { geometry = g; blocks = blocks_by n image }

  abbrev tree : Tree
  tree = empty_tree g.root stamp

  abbrev own : ℕ → List ℕ
  own id = id ∷ counted_from (id + 1) p

  root : inode_blocks v g.root ≡ own g.root
  root = (root_stood g stamp image planned trees).blocks

  -- the blocks of the nodes, which are those of the root, and of the indices
  nodes_are : flat_map (node_blocks v) (entries tree.nodes) ≡ own g.root
  unfolding node_blocks
  nodes_are =
      ap (flat_map (node_blocks v)) (one_entry g.root stamp)
      ∙ append-nil (inode_blocks v g.root ++ flat_map (inode_blocks v) (attribute_inodes v (attribute_directory v g.root)))
      ∙ ap (λ o. inode_blocks v g.root ++ flat_map (inode_blocks v) (attribute_inodes v o)) (no_directory g stamp image planned trees)
      ∙ append-nil (inode_blocks v g.root) ∙ root

  index_are : index_blocks v ≡ own g.indices ++ (own (modified_at g) ++ (own (name_at g) ++ (own (size_at g) ++ [])))
  unfolding index_blocks
  index_are =
      ap (λ o. flat_map (inode_blocks v) (inodes_of v o)) (directory_there g stamp image planned trees)
      ∙ ap (λ rows. flat_map (inode_blocks v) (g.indices ∷ map id_of rows)) (rows_proper g stamp image planned trees)
      ∙ ap₂ (λ a b. a ++ b) (indices_stood g stamp image planned trees).blocks
      (ap₂ (λ a b. a ++ b) (modified_stood g stamp image planned trees).blocks
      (ap₂ (λ a b. a ++ b) (name_stood g stamp image planned trees).blocks
      (ap (λ a. a ++ []) (size_stood g stamp image planned trees).blocks)))

  log_are : log_blocks g ≡ counted_from (1 + bm) g.log.len
  log_are =
      let e : g.log ≡ record { group = pos 0; start = 1 + bm; len = g.log.len } = planned.plan.log in
      let first : first_block (sizes g) g.log ≡ 1 + bm = ap (λ (r : Run). natural r.group * 2 ^ g.shift + r.start) e ∙ (let z : 0 * 2 ^ g.shift ≡ 0 = grind arith in omega (arith, z)) in
      ap (λ m. counted_from m g.log.len) first

  reach_are : reach v tree ≡ (0 ∷ counted_from (1 + bm) g.log.len) ++ (counted_from 1 bm ++ (own g.root ++ (own g.indices ++ (own (modified_at g) ++ (own (name_at g) ++ (own (size_at g) ++ []))))))
  reach_are = ap₂ (λ a b. (0 ∷ a) ++ (counted_from 1 bm ++ b)) log_are (ap₂ (λ a b. a ++ b) nodes_are index_are)

  own_times : (k id : ℕ) → times k (own id) ≡ among id (1 + p) k
  own_times k id =
      let e : id ∷ counted_from (id + 1) p ≡ counted_from id (suc p) = ap (λ m. id ∷ counted_from m p) (let z : id + 1 ≡ suc id = omega arith in z) in
      ap (times k) e ∙ times_counted k id (suc p) ∙ ap (λ m. among id m k) (let z : suc p ≡ 1 + p = omega arith in z)

  own_length : (id : ℕ) → length (own id) ≡ 1 + p
  own_length id = let e = length-counted (id + 1) p in omega (arith, e)

  all_times : (k : ℕ) → times k (reach v tree) ≡ among 0 g.used k
  all_times k =
      let l : List ℕ = counted_from (1 + bm) g.log.len in
      let r5 : List ℕ = own (size_at g) ++ [] in
      let r4 : List ℕ = own (name_at g) ++ r5 in
      let r3 : List ℕ = own (modified_at g) ++ r4 in
      let r2 : List ℕ = own g.indices ++ r3 in
      let r1 : List ℕ = own g.root ++ r2 in
      let r0 : List ℕ = counted_from 1 bm ++ r1 in
      let a = ap (times k) reach_are in
      let b = times-append k (0 ∷ l) r0 in
      let c = times-append k (counted_from 1 bm) r1 in
      let d = times-append k (own g.root) r2 in
      let e = times-append k (own g.indices) r3 in
      let f = times-append k (own (modified_at g)) r4 in
      let h = times-append k (own (name_at g)) r5 in
      let i = times-append k (own (size_at g)) [] in
      let t0 : times k (0 ∷ l) ≡ among 0 1 k + among (1 + bm) g.log.len k = ap (λ m. cond (0 == k) 1 0 + m) (times_counted k (1 + bm) g.log.len) ∙ zero_first k (among (1 + bm) g.log.len k) in
      let t1 = times_counted k 1 bm in
      let u1 = own_times k g.root in
      let u2 = own_times k g.indices in
      let u3 = own_times k (modified_at g) in
      let u4 = own_times k (name_at g) in
      let u5 = own_times k (size_at g) in
      let j0 = join k 1 bm in
      let j1 = join k (1 + bm) g.log.len in
      let j2 = join k g.root (1 + p) in
      let j3 = join k g.indices (1 + p) in
      let j4 = join k (name_at g) (1 + p) in
      let j5 = join k (size_at g) (1 + p) in
      let j6 = join k (modified_at g) (1 + p) in
      let s2 : among 0 (1 + bm + g.log.len) k ≡ among 0 g.root k = ap (λ m. among 0 m k) (sym planned.plan.root) in
      let s3 : among 0 (g.root + (1 + p)) k ≡ among 0 g.indices k = ap (λ m. among 0 m k) (sym (indices_at g stamp image planned trees)) in
      let s6 : among 0 (modified_at g + (1 + p)) k ≡ among 0 g.used k = ap (λ m. among 0 m k) (let x = used_at g stamp image planned trees in let y = indices_at g stamp image planned trees in omega (arith, x, y)) in
      omega (arith, a, b, c, d, e, f, h, i, t0, t1, u1, u2, u3, u4, u5, j0, j1, j2, j3, j4, j5, j6, s2, s3, s6)

  some_bytes : 0 < g.block_size
  some_bytes = let b = block_bounds g.block_size planned.size in omega (arith, b.0)

  bit_is : (k : ℕ) → k < g.blocks → marked (8 * g.block_size) (λ b. Some (blocks_by g.block_size image b)) k ≡ cond (nat_lt k g.used) 1 0
  bit_is k inside = new_marked g.used g.block_size (bitmap_length g.blocks g.block_size) image k some_bytes bitmap in_bitmap
    where
      in_bitmap : k / (8 * g.block_size) < bitmap_length g.blocks g.block_size
      in_bitmap =
          let e : 8 * g.block_size ≡ g.block_size * 8 = omega arith in
          subst (λ b. k / b < bitmap_length g.blocks g.block_size) (sym e) (quotient_below k g.blocks (g.block_size * 8) (let s = some_bytes in omega (arith, s)) inside)

  marks_are : (k : ℕ) → IsMarked v k ↔ Has (reach v tree) k
  marks_are k = (
    λ m. subst (λ t. 0 < t) (sym (all_times k)) (is_below k g.used (marked_low k g.used _ (bit_is k m.0) m.1)),
    λ h. let low : k < g.used = below k g.used (subst (λ t. 0 < t) (all_times k) h) in
        let inside : k < g.blocks = let r = planned.plan.room in omega (arith, low, r) in
        (inside, low_marked k g.used _ (bit_is k inside) low),
  )

  length-reach : length (reach v tree) ≡ g.used
  length-reach =
      let l : List ℕ = counted_from (1 + bm) g.log.len in
      let r5 : List ℕ = own (size_at g) ++ [] in
      let r4 : List ℕ = own (name_at g) ++ r5 in
      let r3 : List ℕ = own (modified_at g) ++ r4 in
      let r2 : List ℕ = own g.indices ++ r3 in
      let r1 : List ℕ = own g.root ++ r2 in
      let r0 : List ℕ = counted_from 1 bm ++ r1 in
      let a = ap length reach_are in
      let b = length-append (0 ∷ l) r0 in
      let c = length-append (counted_from 1 bm) r1 in
      let d = length-append (own g.root) r2 in
      let e = length-append (own g.indices) r3 in
      let f = length-append (own (modified_at g)) r4 in
      let h = length-append (own (name_at g)) r5 in
      let i = length-append (own (size_at g)) [] in
      let t0 = length-counted (1 + bm) g.log.len in
      let t1 = length-counted 1 bm in
      let u1 = own_length g.root in
      let u2 = own_length g.indices in
      let u3 = own_length (modified_at g) in
      let u4 = own_length (name_at g) in
      let u5 = own_length (size_at g) in
      let x = planned.plan.used in
      omega (arith, a, b, c, d, e, f, h, i, t0, t1, u1, u2, u3, u4, u5, x)

  accounts : Accounts v (reach v tree)
  accounts = record {
    once = λ k. subst (λ t. t ≤ 1) (sym (all_times k)) (at_most_once k g.used);
    marks = marks_are;
    used = sym length-reach;
  }

  same_kind : (name word : List ℕ) (a b : KeyKind) → name ≡ word → get tree.indices word ≡ Some a → get tree.indices name ≡ Some b → a ≡ b
  same_kind name word a b e first second = let both : Some a ≡ Some b = sym first ∙ sym (ap (get tree.indices) e) ∙ second in cc

  written_none : (id : ℕ) (name : List ℕ) (own_kind kind : KeyKind) → own_kind ≡ kind → rows_in own_kind (content v id) ≡ [] → (name ≡ codes "last_modified") ⊎ ((name ≡ codes "name") ⊎ (name ≡ codes "size"))
      → AreWritten (content v id) (rows_in kind (content v id)) (listed tree name kind)
  written_none id name own_kind kind same none which =
      subst (λ rows. AreWritten (content v id) rows (listed tree name kind)) (sym (ap (λ k. rows_in k (content v id)) (sym same) ∙ none)) (record { are = listed_none g.root stamp kind name which })

  indices_listed : HasIndices v tree
  indices_listed name value kind row there = by_row (index_row g stamp image planned trees name value row)
    where
      by_row : ((name ≡ codes "last_modified") × (value ≡ pos (modified_at g))) ⊎ ((name ≡ codes "name") × (value ≡ pos (name_at g))) ⊎ ((name ≡ codes "size") × (value ≡ pos (size_at g)))
          → AreWritten (content v (natural value)) (rows_in kind (content v (natural value))) (listed tree name kind)
      by_row (inl e) = subst (λ z. AreWritten (content v (natural z)) (rows_in kind (content v (natural z))) (listed tree name kind)) (sym e.1)
          (written_none (modified_at g) name I64 kind (same_kind name (codes "last_modified") I64 kind e.0 has_built_in.by_time there) (modified_stood g stamp image planned trees).rows_of (inl e.0))
      by_row (inr (inl e)) = subst (λ z. AreWritten (content v (natural z)) (rows_in kind (content v (natural z))) (listed tree name kind)) (sym e.1)
          (written_none (name_at g) name Text kind (same_kind name (codes "name") Text kind e.0 has_built_in.by_name there) (name_stood g stamp image planned trees).rows_of (inr (inl e.0)))
      by_row (inr (inr e)) = subst (λ z. AreWritten (content v (natural z)) (rows_in kind (content v (natural z))) (listed tree name kind)) (sym e.1)
          (written_none (size_at g) name I64 kind (same_kind name (codes "size") I64 kind e.0 has_built_in.by_size there) (size_stood g stamp image planned trees).rows_of (inr (inr e.0)))

  pub new_sound : IsSound v tree
  new_sound = sound_from v tree (empty-plain g.root stamp) (new_stands g stamp image planned trees) indices_listed accounts
