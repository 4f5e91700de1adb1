-- What a change within a call keeps of files, and which blocks are told after it.
use Rattle.std.proofs.Common.{◌≡◌, ◌≤◌, ◌<◌, ◌+◌, ◌⊎◌, inl, inr, ℕ, zero, suc, List, [], ◌∷◌, ◌++◌, refl, sym, ap, ◌∙◌, subst, arith, Bool, true, false, cond, Option, Some, None}
use Rattle.std.specs.Prelude.{IsSome, ◌&&◌, not, ◌==◌, nat_lt}
use Rattle.std.specs.List.{flat_map}
use Rattle.std.specs.FinMap.{entries, get}
use Rattle.bfs_base.specs.Lists.{times, Has, Agree, AreSame}
use Rattle.bfs_super.specs.declared.geometry.Geometry.{Geometry}
use Rattle.bfs_bitmap.specs.Runs.{Room, per_block, is_free, is_reserved}
use Rattle.bfs_bitmap.specs.Runs as bits
use Rattle.bfs_stream.specs.Places.{arrays_at}
use Rattle.bfs_stream.specs.Told.{contents}
use Rattle.bfs_stream.proofs.Doubles.{times-append}
use Rattle.bfs_tree.specs.declared.call.Kind.TheVariants.{Dir}
use Rattle.bfs_tree.specs.Trees.{Node, Tree, IsNode, is_file, is_link}
use Rattle.bfs_sound.specs.Volumes.{Volume, sizes, bitmap_blocks, IsMarked}
use Rattle.bfs_sound.specs.Inodes.{is_short, frame_blocks, stream_blocks}
use Rattle.bfs_sound.specs.Owners.{node_blocks, index_blocks, data_blocks, file_data, fixed_blocks, reach, IsMetadata}
use Rattle.bfs_sound.specs.Laws.{with_blocks}
use Rattle.bfs_sound.proofs.Counts.{In, times_split, times_member, times_two}
use Rattle.bfs_sound.proofs.Nodes.{own_metadata, other_blocks, node_metadata, node_split, data_blocks_stay}
use Rattle.bfs_sound.proofs.Parts.{in_entries}
use Rattle.bfs_shift.specs.Lists.{Lists}
use Rattle.bfs_shift.specs.Stocked.{Stocked, Shifts}
use Rattle.bfs_shift.specs.Shifts.{volume_in}
use Rattle.bfs_shift.proofs.Moving.{all_parts, part_stays}
use Rattle.bfs_shift.proofs.Loose.{all_same}
use Rattle.bfs_shift.specs.Work.{MayBeWritten}

all_agree : (a b : ℕ → List ℕ) (f : ℕ × Node → List ℕ) (es : List (ℕ × Node)) → ((e : ℕ × Node) → In e es → Agree a b (f e)) → Agree a b (flat_map f es)
all_agree a b f [] all k h = let bad : 0 < 0 = h in absurd (omega (arith, bad))
all_agree a b f (e ∷ es) all k h = by_count (times k (f e)) refl (λ g. all_agree a b f es (λ x i. all x (inr i)) k g)
  where
    by_count : (c : ℕ) → times k (f e) ≡ c → (Has (flat_map f es) k → b k ≡ a k) → b k ≡ a k
    by_count (suc c) q rest = all e (inl refl) k (let r : 0 < times k (f e) = omega (arith, q) in r)
    by_count zero q rest = rest (
        let some : 0 < times k (f e ++ flat_map f es) = h in
        let p = times-append k (f e) (flat_map f es) in
        let r : 0 < times k (flat_map f es) = omega (arith, some, p, q) in r)

one_more : (d : ℕ) (l : List ℕ) → times d (d ∷ l) ≡ 1 + times d l
one_more d l = grind arith

-- a node's inode is its metadata
pub has_own : (v : Volume) (d : ℕ) (n : Node) → 1 ≤ times d (node_metadata v (d, n))
unfolding node_metadata
has_own v d n =
    let first : 1 ≤ times d (own_metadata v d n.kind (is_short v d)) = by_test (is_link n.kind && is_short v d) in
    let p : times d (own_metadata v d n.kind (is_short v d) ++ other_blocks v d) ≡ times d (own_metadata v d n.kind (is_short v d)) + times d (other_blocks v d) = times-append d (own_metadata v d n.kind (is_short v d)) (other_blocks v d) in
    omega (arith, first, p)
  where
    by_test : (t : Bool) → 1 ≤ times d (cond t (d ∷ []) (frame_blocks v d ++ cond (is_file n.kind) [] (stream_blocks v d)))
    by_test true = let e = one_more d [] in omega (arith, e)
    by_test false =
        let a = times-append d (frame_blocks v d) (cond (is_file n.kind) [] (stream_blocks v d)) in
        let e = one_more d (arrays_at (sizes v.geometry) v.blocks d) in
        let f : times d (frame_blocks v d) ≡ 1 + times d (arrays_at (sizes v.geometry) v.blocks d) = e in
        omega (arith, a, f)

-- a block that is reached but no file data, or loose, is marked and no file data
module _ (v : Volume) (tree : Tree) (lists : Lists) (loose : List ℕ) (stocked : Stocked v tree lists loose) where
  abbrev pub metadata : List ℕ
  metadata = flat_map (node_metadata v) (entries tree.nodes)

  pub all_split : (k : ℕ) → times k (reach v tree ++ loose)
      ≡ times k (fixed_blocks v) + (times k (bitmap_blocks v.geometry) + ((times k metadata + times k (file_data v tree)) + times k (index_blocks v))) + times k loose
  all_split k =
      let p = all_parts v tree lists loose stocked k in
      let s : times k (flat_map (node_blocks v) (entries tree.nodes)) ≡ times k metadata + times k (file_data v tree) = times_split k (node_blocks v) (node_metadata v) (data_blocks v) (entries tree.nodes) (node_split v k) in
      omega (arith, p, s)

  pub unfiled : (k : ℕ) → 0 < times k (bitmap_blocks v.geometry) + (times k metadata + times k (index_blocks v)) + times k loose → MayBeWritten v tree k
  unfiled k some = (
    (stocked.marks k).1 (let p = all_split k in let r : 0 < times k (reach v tree ++ loose) = omega (arith, p, some) in r),
    ((let p = all_split k in let o : times k (reach v tree ++ loose) ≤ 1 = stocked.once k in omega (arith, p, o, some)), (let p = all_split k in let o : times k (reach v tree ++ loose) ≤ 1 = stocked.once k in omega (arith, p, o, some))),
  )

  pub metadata_in : (d : ℕ) (n : Node) → IsNode tree d n → (k : ℕ) → times k (node_metadata v (d, n)) ≤ times k metadata
  metadata_in d n is k = times_member k (node_metadata v) (entries tree.nodes) (d, n) (in_entries tree.nodes d n is)

  -- the inode of a node is marked, and no file data
  pub node_unfiled : (d : ℕ) (n : Node) → IsNode tree d n → MayBeWritten v tree d
  node_unfiled d n is = unfiled d (let o = has_own v d n in let i = metadata_in d n is d in omega (arith, o, i))

  pub not_loose : (d : ℕ) (n : Node) → IsNode tree d n → times d loose ≡ 0
  not_loose d n is = let p = all_split d in let o = has_own v d n in let i = metadata_in d n is d in let m : times d (reach v tree ++ loose) ≤ 1 = stocked.once d in omega (arith, p, o, i, m)

  -- a loose block is no node
  pub none_there : (b : ℕ) → 0 < times b loose → get tree.nodes b ≡ None
  none_there b some = by_node (get tree.nodes b) refl
    where
      by_node : (o : Option Node) → get tree.nodes b ≡ o → get tree.nodes b ≡ None
      by_node None e = e
      by_node (Some n) e = let z = not_loose b n e in absurd (omega (arith, z, some))

module _ (v : Volume) (tree : Tree) (lists : Lists) (loose : List ℕ) (stocked : Stocked v tree lists loose) (new : ℕ → List ℕ) (xs ys : List ℕ) (shifts : Shifts v new xs ys)
    (apart : (e : ℕ × Node) → In e (entries tree.nodes) → is_file e.1.kind ≡ true → (k : ℕ) → times k (node_blocks v e) + (times k xs + times k (bitmap_blocks v.geometry)) ≤ times k (reach v tree ++ loose)) where
  abbrev w : Volume
  w = with_blocks v new

  agree : (e : ℕ × Node) → In e (entries tree.nodes) → is_file e.1.kind ≡ true → Agree v.blocks new (node_blocks v e)
  agree e i f = part_stays v tree lists loose stocked new xs ys shifts (node_blocks v e) (apart e i f)

  agree_metadata : (e : ℕ × Node) → In e (entries tree.nodes) → is_file e.1.kind ≡ true → Agree v.blocks new (node_metadata v e)
  agree_metadata e i f k h = agree e i f k (let some : 0 < times k (node_metadata v e) = h in let s = node_split v k e in let r : 0 < times k (node_blocks v e) = omega (arith, some, s) in r)

  pub data_stays : (e : ℕ × Node) → In e (entries tree.nodes) → data_blocks w e ≡ data_blocks v e
  data_stays e i = by_kind (is_file e.1.kind) refl
    where
      by_kind : (t : Bool) → is_file e.1.kind ≡ t → data_blocks w e ≡ data_blocks v e
      by_kind true f = data_blocks_stay v new v.geometry.used e.0 e.1 (agree_metadata e i f)
      by_kind false f = ap (λ (t : Bool). cond t (stream_blocks w e.0) []) f ∙ sym (ap (λ (t : Bool). cond t (stream_blocks v e.0) []) f)

  pub files_same : file_data w tree ≡ file_data v tree
  files_same = all_same (data_blocks v) (data_blocks w) (entries tree.nodes) data_stays

  pub stream_same : (id : ℕ) (n : Node) → IsNode tree id n → is_file n.kind ≡ true → stream_blocks w id ≡ stream_blocks v id
  stream_same id n is f =
      sym (ap (λ (t : Bool). cond t (stream_blocks w id) []) f) ∙ data_stays (id, n) (in_entries tree.nodes id n is) ∙ ap (λ (t : Bool). cond t (stream_blocks v id) []) f

  data_agrees : (e : ℕ × Node) → In e (entries tree.nodes) → Agree v.blocks new (data_blocks v e)
  data_agrees e i k h = by_kind (is_file e.1.kind) refl
    where
      by_kind : (t : Bool) → is_file e.1.kind ≡ t → new k ≡ v.blocks k
      by_kind true f = agree e i f k (let some : 0 < times k (data_blocks v e) = h in let s = node_split v k e in let r : 0 < times k (node_blocks v e) = omega (arith, some, s) in r)
      by_kind false f =
          let some : 0 < times k (data_blocks v e) = h in
          let none : times k (data_blocks v e) ≡ times k [] = ap (λ (t : Bool). times k (cond t (stream_blocks v e.0) [])) f in
          absurd (omega (arith, some, none))

  pub bytes_same : (k : ℕ) → Has (file_data v tree) k → new k ≡ v.blocks k
  bytes_same k h = all_agree v.blocks new (data_blocks v) (entries tree.nodes) data_agrees k h

-- where what goes comes again, what was marked is
pub marks_stay : (v : Volume) (new : ℕ → List ℕ) (xs ys : List ℕ) → Shifts v new xs ys → ((k : ℕ) → Has xs k → Has ys k) → (k : ℕ) → IsMarked v k → IsMarked (with_blocks v new) k
marks_stay v new xs ys shifts kept k m = by_count (times k xs) refl
  where
    by_count : (c : ℕ) → times k xs ≡ c → IsMarked (with_blocks v new) k
    by_count (suc c) e = (shifts.marks k).1 (inl (kept k (let h : 0 < times k xs = omega (arith, e) in h)))
    by_count zero e = (shifts.marks k).1 (inr (m, e))

-- blocks of a directory's node are apart from those of files
pub apart_of : (v : Volume) (tree : Tree) (lists : Lists) (loose : List ℕ) → Stocked v tree lists loose → (d : ℕ) (n : Node) → IsNode tree d n → n.kind ≡ Dir
    → (xs : List ℕ) → ((k : ℕ) → times k xs ≤ times k (node_blocks v (d, n)))
    → (e : ℕ × Node) → In e (entries tree.nodes) → is_file e.1.kind ≡ true → (k : ℕ) → times k (node_blocks v e) + (times k xs + times k (bitmap_blocks v.geometry)) ≤ times k (reach v tree ++ loose)
apart_of v tree lists loose stocked d n is dir xs few e i f k =
    let p = all_parts v tree lists loose stocked k in
    let two : times k (node_blocks v e) + times k (node_blocks v (d, n)) ≤ times k (flat_map (node_blocks v) (entries tree.nodes)) = times_two k (node_blocks v) (entries tree.nodes) e (d, n) i (in_entries tree.nodes d n is)
    (λ same. let bad : true ≡ false = sym f ∙ ap (λ (x : ℕ × Node). is_file x.1.kind) same ∙ ap is_file dir in cc) in
    let x = few k in
    omega (arith, p, two, x)

-- Each metadata block is told after a shift, where what came is, and what isn't of it stays or is told.
module _ (g : Geometry) (m map : ℕ → Option (List ℕ)) (tree after : Tree) (lists now : Lists) (loose left xs ys : List ℕ)
    (stocked : Stocked (volume_in g m) tree lists loose) (since : Stocked (volume_in g map) after now left) (shifts : Shifts (volume_in g m) (contents map) xs ys)
    (same_data : AreSame (file_data (volume_in g m) tree) (file_data (volume_in g map) after))
    (told : (k : ℕ) → IsMetadata (volume_in g m) tree k → times k (fixed_blocks (volume_in g m)) ≡ 0 → IsSome (m k))
    (stays : (k : ℕ) → times k ys ≡ 0 → (map k ≡ m k) ⊎ IsSome (map k))
    (ours : (k : ℕ) → Has ys k → times k left ≡ 0 → IsSome (map k))
    (more : (k : ℕ) → times k loose ≤ times k left + times k xs) where
  abbrev was : Volume
  was = volume_in g m

  abbrev is_now : Volume
  is_now = volume_in g map

  not_left : (k : ℕ) → 0 < times k (reach is_now after) → times k left ≡ 0
  not_left k some = let a = times-append k (reach is_now after) left in let o : times k (reach is_now after ++ left) ≤ 1 = since.once k in omega (arith, a, o, some)

  was_there : (k : ℕ) → 0 < times k (reach is_now after) → times k ys ≡ 0 → 0 < times k (reach was tree)
  was_there k some none = by_cause ((shifts.marks k).0 ((since.marks k).1 (let a = times-append k (reach is_now after) left in let r : 0 < times k (reach is_now after ++ left) = omega (arith, a, some) in r)))
    where
      by_cause : Has ys k ⊎ (IsMarked was k × (times k xs ≡ 0)) → 0 < times k (reach was tree)
      by_cause (inl h) = let has : 0 < times k ys = h in absurd (omega (arith, has, none))
      by_cause (inr old) =
          let h : 0 < times k (reach was tree ++ loose) = (stocked.marks k).0 old.0 in
          let a = times-append k (reach was tree) loose in
          let l = not_left k some in
          let f = more k in
          let x = old.1 in
          omega (arith, h, a, l, f, x)

  pub told_since : (k : ℕ) → IsMetadata is_now after k → times k (fixed_blocks is_now) ≡ 0 → IsSome (map k)
  told_since k is apart = by_count (times k ys) refl
    where
      some : 0 < times k (reach is_now after)
      some = is.0

      by_stay : times k ys ≡ 0 → (map k ≡ m k) ⊎ IsSome (map k) → IsSome (map k)
      by_stay none (inr s) = s
      by_stay none (inl same) = subst IsSome (sym same) (told k (was_there k some none, (let d : times k (file_data was tree) ≡ times k (file_data is_now after) = same_data k in let z = is.1 in omega (arith, d, z))) apart)

      by_count : (c : ℕ) → times k ys ≡ c → IsSome (map k)
      by_count (suc c) e = ours k (let h : 0 < times k ys = omega (arith, e) in h) (not_left k some)
      by_count zero e = by_stay e (stays k e)

  -- Each metadata block was metadata, or has changed, where what came has.
  module _ (new : ℕ → Bool) (entered : (k : ℕ) → Has ys k → times k left ≡ 0 → times k xs ≡ 0 → new k ≡ true) (reached : (k : ℕ) → Has xs k → times k left ≡ 0 → 0 < times k (reach was tree)) where
    pub entered_since : (k : ℕ) → IsMetadata is_now after k → IsMetadata was tree k ⊎ (new k ≡ true)
    entered_since k is = by_count (times k ys) refl
      where
        some : 0 < times k (reach is_now after)
        some = is.0

        no_data : times k (file_data was tree) ≡ 0
        no_data = let d : times k (file_data was tree) ≡ times k (file_data is_now after) = same_data k in let z = is.1 in omega (arith, d, z)

        by_old : 0 < times k ys → (c : ℕ) → times k xs ≡ c → IsMetadata was tree k ⊎ (new k ≡ true)
        by_old h zero e = inr (entered k h (not_left k some) e)
        by_old h (suc c) e = inl (reached k (let r : 0 < times k xs = omega (arith, e) in r) (not_left k some), no_data)

        by_count : (c : ℕ) → times k ys ≡ c → IsMetadata was tree k ⊎ (new k ≡ true)
        by_count (suc c) e = by_old (omega (arith, e)) (times k xs) refl
        by_count zero e = inl (was_there k some e, no_data)

free_unreserved : (a b c : Bool) → (a && (b && not c)) ≡ true → c ≡ true → ⊥
free_unreserved a b false e r = let bad : false ≡ true = r in cc
free_unreserved false b true e r = let bad : false ≡ true = e in cc
free_unreserved true false true e r = let bad : false ≡ true = e in cc
free_unreserved true true true e r = let bad : false ≡ true = e in cc

-- No reserved block becomes marked, where what came was free.
pub reserved_stays : (v : Volume) (new : ℕ → List ℕ) (xs ys : List ℕ) (room : Room) (m : ℕ → Option (List ℕ)) → Shifts v new xs ys → ((k : ℕ) → Has xs k → IsMarked v k) → ((k : ℕ) → Has ys k → times k xs ≡ 0 → is_free room m k ≡ true)
    → (k : ℕ) → is_reserved room.given k ≡ true → ¬ IsMarked v k → ¬ IsMarked (with_blocks v new) k
reserved_stays v new xs ys room m shifts were free k r none marked = by_cause ((shifts.marks k).0 marked)
  where
    by_count : Has ys k → (c : ℕ) → times k xs ≡ c → ⊥
    by_count h (suc c) e = none (were k (let some : 0 < times k xs = omega (arith, e) in some))
    by_count h zero e = free_unreserved (nat_lt k room.blocks) (bits.marked (per_block room) m k == 0) (is_reserved room.given k) (free k h e) r

    by_cause : Has ys k ⊎ (IsMarked v k × (times k xs ≡ 0)) → ⊥
    by_cause (inl h) = by_count h (times k xs) refl
    by_cause (inr old) = none old.0
