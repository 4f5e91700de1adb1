-- One file's stream and its inode have changed: the volume is at work with the file's new record, and the step is one that gives it another
-- size.
use Rattle.std.proofs.Common.{◌≡◌, ◌≢◌, ◌≤◌, ◌<◌, ◌+◌, ◌⊎◌, inl, inr, ℕ, zero, suc, List, [], ◌++◌, refl, sym, ap, ◌∙◌, subst, arith, Bool, true, false, cond, Option, Some}
use Rattle.std.specs.Prelude.{◌&&◌, IsSome}
use Rattle.std.specs.Cmp.{nat_cmp_total}
use Rattle.std.specs.List.{flat_map}
use Rattle.std.specs.FinMap.{entries, insert, entries-insert, get-entries, entries_sorted}
use Rattle.bfs_base.specs.Lists.{times, Has, Agree}
use Rattle.bfs_super.specs.declared.geometry.Geometry.{Geometry}
use Rattle.bfs_bitmap.specs.Fills.{IsBitmapBlock}
use Rattle.bfs_bitmap.specs.Runs.{Room, Fits, IsCounted, is_reserved}
use Rattle.bfs_txn.specs.Told.{StaysChanged}
use Rattle.bfs_stream.specs.Grown.{IsOfVolume}
use Rattle.bfs_stream.specs.Standing.{standing}
use Rattle.bfs_stream.specs.Told.{contents, AreTold}
use Rattle.bfs_stream.proofs.Doubles.{times-append}
use Rattle.bfs_tree.specs.declared.call.Kind.{Kind}
use Rattle.bfs_tree.specs.declared.call.Kind.TheVariants.{File, Dir, Link}
use Rattle.bfs_tree.specs.Trees.{Node, Tree, IsNode, is_file, is_link}
use Rattle.bfs_sound.specs.Volumes.{Volume, sizes, bitmap_blocks, IsMarked}
use Rattle.bfs_sound.specs.Inodes.{is_short, frame_blocks, stream_blocks, inode_blocks}
use Rattle.bfs_sound.specs.Nodes.{HasContent}
use Rattle.bfs_sound.specs.Owners.{has_no_stream, node_blocks, data_blocks, file_data, fixed_blocks, reach, IsMetadata}
use Rattle.bfs_sound.proofs.Counts.{In, times_member, times_two}
use Rattle.bfs_sound.proofs.Nodes.{own_metadata, other_blocks, node_metadata, node_split, data_blocks_stay}
use Rattle.bfs_sound.proofs.Parts.{in_entries}
use Rattle.bfs_shift.specs.Inodes.{KeepsPlace, HasBytes, IsSamePlace, HasStatus}
use Rattle.bfs_shift.specs.Lists.{Lists, with_rows}
use Rattle.bfs_shift.specs.Stocked.{Stocked, Shifts}
use Rattle.bfs_shift.specs.Shifts.{volume_in}
use Rattle.bfs_shift.specs.Work.{IsAtWork, MayBeWritten}
use Rattle.bfs_shift.proofs.Basics.{bitmap_has}
use Rattle.bfs_shift.proofs.Directories.{content_changed, stream_parts}
use Rattle.bfs_shift.proofs.Files.{metadata_in, unfiled, all_split}
use Rattle.bfs_shift.proofs.Following.{same_or_not}
use Rattle.bfs_shift.proofs.Made.{put_here, put_other}
use Rattle.bfs_shift.proofs.Moving.{all_parts, part_stays}
use Rattle.bfs_shift.proofs.Renewed.{same_test, other_test}
use Rattle.bfs_shift.proofs.Replaced.{put_swapped}
use Rattle.bfs_leave.specs.Leaving.{IsClear, IsGivenSince}
use Rattle.bfs_set_size.specs.Resizing.{IsLonger, WasFree, Resizes}

-- the inode and the array blocks of a file are its metadata
frame_in : (v : Volume) (id : ℕ) (n : Node) → n.kind ≡ File → (k : ℕ) → times k (frame_blocks v id) ≤ times k (node_metadata v (id, n))
unfolding node_metadata
frame_in v id n file k =
    let own : times k (own_metadata v id n.kind (is_short v id)) ≡ times k (frame_blocks v id ++ []) = ap (λ (x : Kind). times k (own_metadata v id x (is_short v id))) file in
    let a : times k (frame_blocks v id ++ []) ≡ times k (frame_blocks v id) + times k [] = times-append k (frame_blocks v id) [] in
    let p : times k (own_metadata v id n.kind (is_short v id) ++ other_blocks v id) ≡ times k (own_metadata v id n.kind (is_short v id)) + times k (other_blocks v id) = times-append k (own_metadata v id n.kind (is_short v id)) (other_blocks v id) in
    omega (arith, own, a, p)

pub streamed : (v : Volume) (id : ℕ) (n : Node) → n.kind ≡ File → has_no_stream v (id, n) ≡ false
streamed v id n file = ap (λ (x : Kind). is_link x && is_short v id) file

pub file_kind : (k : Kind) → is_file k ≡ true → k ≡ File
file_kind File e = refl
file_kind Dir e = absurd (let bad : false ≡ true = e in cc)
file_kind Link e = absurd (let bad : false ≡ true = e in cc)

-- the blocks of a file, in their parts
module _ (g : Geometry) (v : Room) (m : ℕ → Option (List ℕ)) (tree : Tree) (lists : Lists) (loose : List ℕ) (id : ℕ) (n : Node) (work : IsAtWork g v m tree lists loose) (is : IsNode tree id n) (file : n.kind ≡ File) where
  abbrev before : Volume
  before = volume_in g m

  abbrev own : List ℕ
  own = inode_blocks before id

  pub file_parts : (k : ℕ) → times k own ≡ times k (frame_blocks before id) + times k (stream_blocks before id)
  file_parts k = times-append k (frame_blocks before id) (stream_blocks before id)

  pub file_node_parts : (k : ℕ) → times k (node_blocks before (id, n)) ≡ times k own + times k (other_blocks before id)
  file_node_parts k = ap (times k) (stream_parts before id n (streamed before id n file)) ∙ times-append k own (other_blocks before id)

  own_in : (k : ℕ) → times k (node_blocks before (id, n)) ≤ times k (flat_map (node_blocks before) (entries tree.nodes))
  own_in k = times_member k (node_blocks before) (entries tree.nodes) (id, n) (in_entries tree.nodes id n is)

  pub file_few : (k : ℕ) → times k own + (times k (fixed_blocks before) + times k (bitmap_blocks g)) ≤ times k (reach before tree)
  file_few k =
      let p = all_parts before tree lists loose work.stocked k in
      let a = times-append k (reach before tree) loose in
      let o = own_in k in
      let q = file_node_parts k in
      omega (arith, p, a, o, q)

  pub reach_once : (k : ℕ) → times k (reach before tree) + times k loose ≤ 1
  reach_once k = let a = times-append k (reach before tree) loose in let o : times k (reach before tree ++ loose) ≤ 1 = work.stocked.once k in omega (arith, a, o)

  pub file_marked : (k : ℕ) → Has own k → IsMarked before k
  file_marked k h = (work.stocked.marks k).1 (
      let has : 0 < times k own = h in
      let f = file_few k in
      let a = times-append k (reach before tree) loose in
      let r : 0 < times k (reach before tree ++ loose) = omega (arith, has, f, a) in
      r)

  pub file_once : (k : ℕ) → times k own ≤ 1
  file_once k = let f = file_few k in let o = reach_once k in omega (arith, f, o)

-- what is told, and what the bitmap knows, after a file has changed
pub record IsRefiled (g : Geometry) (v now : Room) (m map : ℕ → Option (List ℕ)) (id : ℕ) (grows : Bool) (old new : ℕ → Bool) : Type 0 where
  pub shift : Shifts (volume_in g m) (contents map) (inode_blocks (volume_in g m) id) (inode_blocks (volume_in g map) id)
  pub fits : Fits now map
  pub counted : IsCounted now map
  pub rest : now ≡ record v { given = now.given; tally = now.tally }
  pub standing_is : standing now ≡ standing v
  pub holds : (k : ℕ) → is_reserved v.given k ≡ true → is_reserved now.given k ≡ true
  pub gone : (k : ℕ) → Has (inode_blocks (volume_in g m) id) k → times k (inode_blocks (volume_in g map) id) ≡ 0 → is_reserved now.given k ≡ true
  pub back : (k : ℕ) → is_reserved now.given k ≡ true
      → (is_reserved v.given k ≡ true) ⊎ (Has (inode_blocks (volume_in g m) id) k × (times k (inode_blocks (volume_in g map) id) ≡ 0))
  pub fresh : (k : ℕ) → Has (inode_blocks (volume_in g map) id) k → times k (inode_blocks (volume_in g m) id) ≡ 0 → is_reserved v.given k ≡ false
  pub frame_told : AreTold map (frame_blocks (volume_in g map) id)
  pub stays : (k : ℕ) → times k (frame_blocks (volume_in g map) id) ≡ 0 → (map k ≡ m k) ⊎ IsSome (map k)
  pub same_data : (k : ℕ) → Has (stream_blocks (volume_in g map) id) k → contents map k ≡ contents m k
  pub written : (k : ℕ) → new k ≡ true → (old k ≡ true) ⊎ (IsBitmapBlock v k ⊎ Has (frame_blocks (volume_in g map) id) k)
  pub kept : StaysChanged old new
  pub entered : (k : ℕ) → Has (frame_blocks (volume_in g map) id) k → times k (inode_blocks (volume_in g m) id) ≡ 0 → new k ≡ true
  pub frame_was : (k : ℕ) → Has (frame_blocks (volume_in g map) id) k → Has (inode_blocks (volume_in g m) id) k → Has (frame_blocks (volume_in g m) id) k
  pub data_was : (k : ℕ) → Has (stream_blocks (volume_in g map) id) k → Has (stream_blocks (volume_in g m) id) k ⊎ (times k (inode_blocks (volume_in g m) id) ≡ 0)
  pub longer : IsLonger grows (stream_blocks (volume_in g m) id) (stream_blocks (volume_in g map) id)

module _ (g : Geometry) (v now : Room) (m map : ℕ → Option (List ℕ)) (tree : Tree) (lists : Lists) (loose : List ℕ) (id : ℕ) (n is_n : Node) (grows : Bool) (old new : ℕ → Bool)
    (some : 0 < g.block_size) (work : IsAtWork g v m tree lists loose) (clear : IsClear g v m) (is : IsNode tree id n) (file : n.kind ≡ File)
    (kept : KeepsPlace (contents m id) (contents map id)) (bytes : HasBytes (contents m id) (contents map id)) (same : IsSamePlace n is_n)
    (status : HasStatus (volume_in g map) id is_n) (content : HasContent (volume_in g map) id is_n File) (refiled : IsRefiled g v now m map id grows old new) where
  abbrev was : Volume
  was = volume_in g m

  abbrev since : Volume
  since = volume_in g map

  abbrev xs : List ℕ
  xs = inode_blocks was id

  abbrev ys : List ℕ
  ys = inode_blocks since id

  abbrev after : Tree
  after = record tree { nodes = insert tree.nodes id is_n }

  file_now : is_n.kind ≡ File
  file_now = same.kind ∙ file

  changed : Stocked since after (with_rows lists id (lists.rows id)) loose
  changed = content_changed was tree lists loose (contents map) id n is_n (lists.rows id) work.stocked is (streamed was id n file) refiled.shift kept bytes same status
      (subst (λ (x : Kind). HasContent since id is_n x) (sym file_now) content) (λ dir. absurd (let bad : File ≡ Dir = sym file_now ∙ dir in let worse : true ≡ false = ap is_file bad in cc))

  rows_same : (b : ℕ) → (with_rows lists id (lists.rows id)).rows b ≡ lists.rows b
  rows_same b = by_id (same_or_not b id)
    where
      by_id : (b ≡ id) ⊎ (b ≢ id) → (with_rows lists id (lists.rows id)).rows b ≡ lists.rows b
      by_id (inl e) = subst (λ (j : ℕ). (with_rows lists id (lists.rows id)).rows j ≡ lists.rows j) (sym e) (ap (λ (t : Bool). cond t (lists.rows id) (lists.rows id)) (same_test id))
      by_id (inr apart) = ap (λ (t : Bool). cond t (lists.rows id) (lists.rows b)) (other_test b id apart)

  stocked : Stocked since after lists loose
  stocked = record {
    nodes = changed.nodes;
    rows = λ b x at dir. changed.rows b x at dir ∙ rows_same b;
    directory = changed.directory;
    names = changed.names;
    indices = changed.indices;
    once = changed.once;
    marks = changed.marks;
  }

  xs_parts : (k : ℕ) → times k xs ≡ times k (frame_blocks was id) + times k (stream_blocks was id)
  xs_parts = file_parts g v m tree lists loose id n work is file

  node_parts : (k : ℕ) → times k (node_blocks was (id, n)) ≡ times k xs + times k (other_blocks was id)
  node_parts = file_node_parts g v m tree lists loose id n work is file

  own_few : (k : ℕ) → times k xs + (times k (fixed_blocks was) + times k (bitmap_blocks g)) ≤ times k (reach was tree)
  own_few = file_few g v m tree lists loose id n work is file

  once : (k : ℕ) → times k (reach was tree) + times k loose ≤ 1
  once = reach_once g v m tree lists loose id n work is file

  xs_marked : (k : ℕ) → 0 < times k xs → IsMarked was k
  xs_marked k has = file_marked g v m tree lists loose id n work is file k has

  -- the blocks since, in their parts
  ys_parts : (k : ℕ) → times k ys ≡ times k (frame_blocks since id) + times k (stream_blocks since id)
  ys_parts k = times-append k (frame_blocks since id) (stream_blocks since id)

  -- the data of the file, by itself
  own_data : (u : Volume) (x : Node) → x.kind ≡ File → data_blocks u (id, x) ≡ stream_blocks u id
  own_data u x f = ap (λ (t : Kind). cond (is_file t) (stream_blocks u id) []) f

  data_few : (k : ℕ) → times k (stream_blocks was id) ≤ times k (file_data was tree)
  data_few k =
      let i : times k (data_blocks was (id, n)) ≤ times k (file_data was tree) = times_member k (data_blocks was) (entries tree.nodes) (id, n) (in_entries tree.nodes id n is) in
      let e : times k (data_blocks was (id, n)) ≡ times k (stream_blocks was id) = ap (times k) (own_data was n file) in
      omega (arith, i, e)

  data_now_few : (k : ℕ) → times k (stream_blocks since id) ≤ times k (file_data since after)
  data_now_few k =
      let i : times k (data_blocks since (id, is_n)) ≤ times k (file_data since after) = times_member k (data_blocks since) (entries after.nodes) (id, is_n) (in_entries after.nodes id is_n (put_here tree.nodes id is_n)) in
      let e : times k (data_blocks since (id, is_n)) ≡ times k (stream_blocks since id) = ap (times k) (own_data since is_n file_now) in
      omega (arith, i, e)

  -- data is metadata of none
  data_apart : (k : ℕ) → times k (file_data was tree) + times k (frame_blocks was id) + (times k (fixed_blocks was) + times k (bitmap_blocks g)) ≤ times k (reach was tree)
  data_apart k =
      let p = all_split was tree lists loose work.stocked k in
      let a = times-append k (reach was tree) loose in
      let f = frame_in was id n file k in
      let i = metadata_in was tree lists loose work.stocked id n is k in
      omega (arith, p, a, f, i)

  -- the blocks of other nodes agree
  other_agrees : (e : ℕ × Node) → In e (entries tree.nodes) → e.0 ≢ id → Agree was.blocks (contents map) (node_blocks was e)
  other_agrees e i apart = part_stays was tree lists loose work.stocked (contents map) xs ys refiled.shift (node_blocks was e) (λ k.
      let p = all_parts was tree lists loose work.stocked k in
      let two : times k (node_blocks was e) + times k (node_blocks was (id, n)) ≤ times k (flat_map (node_blocks was) (entries tree.nodes)) = times_two k (node_blocks was) (entries tree.nodes) e (id, n) i (in_entries tree.nodes id n is) (λ one. apart (ap (λ (x : ℕ × Node). x.0) one)) in
      let q = node_parts k in
      omega (arith, p, two, q))

  others_stay : (e : ℕ × Node) → In e (entries tree.nodes) → e.0 ≢ id → data_blocks since e ≡ data_blocks was e
  others_stay e i apart = data_blocks_stay was (contents map) g.used e.0 e.1 (λ k h. other_agrees e i apart k (
      let has : 0 < times k (node_metadata was (e.0, e.1)) = h in
      let s = node_split was k e in
      let r : 0 < times k (node_blocks was e) = omega (arith, has, s) in r))

  -- file data changes by the file's own
  swap : (k : ℕ) → times k (file_data since after) + times k (stream_blocks was id) ≡ times k (file_data was tree) + times k (stream_blocks since id)
  swap k =
      let put : times k (flat_map (data_blocks since) (entries (insert tree.nodes id is_n))) + times k (data_blocks was (id, n)) ≡ times k (file_data was tree) + times k (data_blocks since (id, is_n)) =
      ap (λ (es : List (ℕ × Node)). times k (flat_map (data_blocks since) es) + times k (data_blocks was (id, n))) (entries-insert nat_cmp_total tree.nodes id is_n)
      ∙ put_swapped (data_blocks was) (data_blocks since) id n is_n k (entries tree.nodes) (entries_sorted tree.nodes) (sym (get-entries tree.nodes id) ∙ is) others_stay in
      let a : times k (data_blocks was (id, n)) ≡ times k (stream_blocks was id) = ap (times k) (own_data was n file) in
      let b : times k (data_blocks since (id, is_n)) ≡ times k (stream_blocks since id) = ap (times k) (own_data since is_n file_now) in
      omega (arith, put, a, b)

  not_loose : (k : ℕ) → 0 < times k (reach since after) → times k loose ≡ 0
  not_loose k there = let a = times-append k (reach since after) loose in let o : times k (reach since after ++ loose) ≤ 1 = stocked.once k in omega (arith, a, o, there)

  -- what is metadata since and no block of the file was metadata
  metadata_was : (k : ℕ) → IsMetadata since after k → times k ys ≡ 0 → IsMetadata was tree k
  metadata_was k h none = by_mark ((refiled.shift.marks k).0 ((stocked.marks k).1 (let a = times-append k (reach since after) loose in let r : 0 < times k (reach since after ++ loose) = omega (arith, a, there) in r)))
    where
      there : 0 < times k (reach since after)
      there = h.0

      by_mark : Has ys k ⊎ (IsMarked was k × (times k xs ≡ 0)) → IsMetadata was tree k
      by_mark (inl has) = let yes_it : 0 < times k ys = has in absurd (omega (arith, yes_it, none))
      by_mark (inr before) =
          let r : 0 < times k (reach was tree ++ loose) = (work.stocked.marks k).0 before.0 in
          let a = times-append k (reach was tree) loose in
          let l = not_loose k there in
          let s = swap k in
          let p = xs_parts k in
          let q = ys_parts k in
          let z = h.1 in
          let x = before.1 in
          ((let w : 0 < times k (reach was tree) = omega (arith, r, a, l) in w), omega (arith, s, p, q, z, x, none))

  -- a metadata block that is the file's is its inode or an array block
  in_frame : (k : ℕ) → IsMetadata since after k → 0 < times k ys → Has (frame_blocks since id) k
  in_frame k h has =
      let z = h.1 in
      let f = data_now_few k in
      let q = ys_parts k in
      let r : 0 < times k (frame_blocks since id) = omega (arith, z, f, q, has) in
      r

  told_now : (k : ℕ) → IsMetadata since after k → times k (fixed_blocks since) ≡ 0 → IsSome (map k)
  told_now k h out = by_count (times k ys) refl
    where
      by_stay : IsMetadata was tree k → (map k ≡ m k) ⊎ IsSome (map k) → IsSome (map k)
      by_stay before (inl e) = subst IsSome (sym e) (work.told k before out)
      by_stay before (inr s) = s

      by_count : (c : ℕ) → times k ys ≡ c → IsSome (map k)
      by_count (suc c) e = refiled.frame_told k (in_frame k h (omega (arith, e)))
      by_count zero e = by_stay (metadata_was k h e) (refiled.stays k (let q = ys_parts k in omega (arith, q, e)))

  pub refiled_work : IsAtWork g now map after lists loose
  refiled_work = record {
    volume = subst (IsOfVolume (sizes g)) (sym refiled.rest) (record { block_size = work.volume.block_size; blocks = work.volume.blocks; group_blocks = work.volume.group_blocks });
    fits = refiled.fits;
    counted = refiled.counted;
    stocked = stocked;
    told = told_now;
  }

  unreserved : (k : ℕ) → IsMarked was k → is_reserved v.given k ≡ false
  unreserved k h = by_test (is_reserved v.given k) refl
    where
      by_test : (t : Bool) → is_reserved v.given k ≡ t → is_reserved v.given k ≡ false
      by_test true e = absurd (clear k e h)
      by_test false e = e

  clear_now : IsClear g now map
  clear_now k r marked_now = by_cause (refiled.back k r) ((refiled.shift.marks k).0 marked_now)
    where
      by_own : is_reserved v.given k ≡ true → 0 < times k ys → (c : ℕ) → times k xs ≡ c → ⊥
      by_own reserved has zero e = let f : is_reserved v.given k ≡ false = refiled.fresh k has e in let bad : true ≡ false = sym reserved ∙ f in cc
      by_own reserved has (suc c) e = clear k reserved (xs_marked k (omega (arith, e)))

      by_cause : (is_reserved v.given k ≡ true) ⊎ (Has xs k × (times k ys ≡ 0)) → Has ys k ⊎ (IsMarked was k × (times k xs ≡ 0)) → ⊥
      by_cause (inl reserved) (inl has) = by_own reserved has (times k xs) refl
      by_cause (inl reserved) (inr before) = clear k reserved before.0
      by_cause (inr went) (inl has) = let h : 0 < times k ys = has in let none = went.1 in omega (arith, h, none)
      by_cause (inr went) (inr before) = let h : 0 < times k xs = went.0 in let none = before.1 in omega (arith, h, none)

  pub refiled_resizes : Resizes g v now m map tree after id grows old new
  refiled_resizes = record {
    rest = refiled.rest;
    standing_is = refiled.standing_is;
    holds = refiled.holds;
    clear = clear_now;
    marked = λ k h. by_mark k h (times k xs) refl (times k ys) refl;
    own = λ x at f. (record { node = is_n; there = put_here tree.nodes id is_n; kind = by_same x at }, refiled.longer);
    files = λ b x at f apart. (
      record { node = x; there = put_other tree.nodes id is_n b apart ∙ at; kind = refl; size = refl },
      stream_stays b x f (others_stay (b, x) (in_entries tree.nodes b x at) apart),
    );
    came = λ k h. by_came k h (times k (file_data was tree)) refl;
    left = λ k h. by_left k h (times k (file_data since after)) refl;
    bytes = λ k h there. by_bytes k h there (times k (stream_blocks since id)) refl;
    written = λ k h. by_cause k (refiled.written k h);
    kept = refiled.kept;
    entered = λ k h. by_entered k h (times k ys) refl;
  }
    where
      by_same : (x : Node) → IsNode tree id x → is_n.kind ≡ x.kind
      by_same x at = let both : Some n ≡ Some x = sym is ∙ at in let e : n ≡ x = cc in same.kind ∙ ap (λ (y : Node). y.kind) e

      stream_stays : (b : ℕ) (x : Node) → is_file x.kind ≡ true → data_blocks since (b, x) ≡ data_blocks was (b, x) → stream_blocks since b ≡ stream_blocks was b
      stream_stays b x f stay = sym (ap (λ (t : Bool). cond t (stream_blocks since b) []) f) ∙ stay ∙ ap (λ (t : Bool). cond t (stream_blocks was b) []) f

      by_mark : (k : ℕ) → IsMarked was k → (c : ℕ) → times k xs ≡ c → (d : ℕ) → times k ys ≡ d → IsMarked since k ⊎ (is_reserved now.given k ≡ true)
      by_mark k h zero e d f = inl ((refiled.shift.marks k).1 (inr (h, e)))
      by_mark k h (suc c) e (suc d) f = inl ((refiled.shift.marks k).1 (inl (let r : 0 < times k ys = omega (arith, f) in r)))
      by_mark k h (suc c) e zero f = inr (refiled.gone k (let r : 0 < times k xs = omega (arith, e) in r) f)

      by_new : (k : ℕ) → 0 < times k (stream_blocks since id) → times k (file_data was tree) ≡ 0 → Has (stream_blocks was id) k ⊎ (times k xs ≡ 0) → Has (file_data was tree) k ⊎ WasFree g v m k
      by_new k has none (inl old_data) = let o : 0 < times k (stream_blocks was id) = old_data in let f = data_few k in absurd (omega (arith, o, f, none))
      by_new k has none (inr never) =
          let y : 0 < times k ys = (let q = ys_parts k in omega (arith, q, has)) in
          inr (refiled.fresh k y never, refiled.shift.fresh k y never)

      by_came : (k : ℕ) → Has (file_data since after) k → (c : ℕ) → times k (file_data was tree) ≡ c → Has (file_data was tree) k ⊎ WasFree g v m k
      by_came k h (suc c) e = inl (let r : 0 < times k (file_data was tree) = omega (arith, e) in r)
      by_came k h zero e =
          let has : 0 < times k (file_data since after) = h in
          let s = swap k in
          let own : 0 < times k (stream_blocks since id) = omega (arith, has, s, e) in
          by_new k own e (refiled.data_was k own)

      -- a block that was the file's data is no array block since
      not_frame : (k : ℕ) → 0 < times k (stream_blocks was id) → (c : ℕ) → times k (frame_blocks since id) ≡ c → times k (frame_blocks since id) ≡ 0
      not_frame k was_data zero e = e
      not_frame k was_data (suc c) e =
          let f : 0 < times k (frame_blocks was id) = refiled.frame_was k (let r : 0 < times k (frame_blocks since id) = omega (arith, e) in r) (let p = xs_parts k in let r : 0 < times k xs = omega (arith, p, was_data) in r) in
          let p = xs_parts k in
          let w = own_few k in
          let o = once k in
          absurd (omega (arith, f, p, w, o, was_data))

      by_left : (k : ℕ) → Has (file_data was tree) k → (c : ℕ) → times k (file_data since after) ≡ c → Has (file_data since after) k ⊎ (is_reserved now.given k ≡ true)
      by_left k h (suc c) e = inl (let r : 0 < times k (file_data since after) = omega (arith, e) in r)
      by_left k h zero e =
          let has : 0 < times k (file_data was tree) = h in
          let s = swap k in
          let own : 0 < times k (stream_blocks was id) = omega (arith, has, s, e) in
          let n = data_now_few k in
          let f = not_frame k own (times k (frame_blocks since id)) refl in
          let q = ys_parts k in
          let p = xs_parts k in
          inr (refiled.gone k (let r : 0 < times k xs = omega (arith, p, own) in r) (omega (arith, n, f, q, e)))

      -- data of another file isn't the file's
      by_other : (k : ℕ) → 0 < times k (file_data was tree) → times k xs ≡ 0 → (c : ℕ) → times k ys ≡ c → contents map k ≡ contents m k
      by_other k has none zero e = refiled.shift.stays k none e (let d = data_apart k in let o = once k in omega (arith, d, o, has))
      by_other k has none (suc c) e = absurd (refiled.shift.fresh k (let r : 0 < times k ys = omega (arith, e) in r) none ((work.stocked.marks k).1 (
          let d = data_apart k in
          let a = times-append k (reach was tree) loose in
          let r : 0 < times k (reach was tree ++ loose) = omega (arith, d, a, has) in r)))

      by_bytes : (k : ℕ) → Has (file_data was tree) k → Has (file_data since after) k → (c : ℕ) → times k (stream_blocks since id) ≡ c → contents map k ≡ contents m k
      by_bytes k h there (suc c) e = refiled.same_data k (let r : 0 < times k (stream_blocks since id) = omega (arith, e) in r)
      by_bytes k h there zero e =
          let has : 0 < times k (file_data was tree) = h in
          let yet : 0 < times k (file_data since after) = there in
          let s = swap k in
          let d = data_apart k in
          let o = once k in
          let p = xs_parts k in
          by_other k has (omega (arith, has, yet, s, d, o, p, e)) (times k ys) refl

      by_cause : (k : ℕ) → (old k ≡ true) ⊎ (IsBitmapBlock v k ⊎ Has (frame_blocks since id) k) → (old k ≡ true) ⊎ (MayBeWritten since after k ⊎ IsGivenSince g v now k)
      by_cause k (inl e) = inl e
      by_cause k (inr (inl bit)) = inr (inl (unfiled since after lists loose stocked k (let b : 0 < times k (bitmap_blocks g) = bitmap_has g v k work.volume some bit in omega (arith, b))))
      by_cause k (inr (inr has)) = inr (inl (unfiled since after lists loose stocked k (
          let h : 0 < times k (frame_blocks since id) = has in
          let f = frame_in since id is_n file_now k in
          let i = metadata_in since after lists loose stocked id is_n (put_here tree.nodes id is_n) k in
          omega (arith, h, f, i))))

      by_frame : (k : ℕ) → Has (frame_blocks since id) k → (c : ℕ) → times k xs ≡ c → IsMetadata was tree k ⊎ (new k ≡ true)
      by_frame k h zero e = inr (refiled.entered k h e)
      by_frame k h (suc c) e =
          let f : 0 < times k (frame_blocks was id) = refiled.frame_was k h (let r : 0 < times k xs = omega (arith, e) in r) in
          let d = data_apart k in
          let o = once k in
          inl ((let r : 0 < times k (reach was tree) = omega (arith, d, f) in r), omega (arith, d, o, f))

      by_entered : (k : ℕ) → IsMetadata since after k → (c : ℕ) → times k ys ≡ c → IsMetadata was tree k ⊎ (new k ≡ true)
      by_entered k h zero e = inl (metadata_was k h e)
      by_entered k h (suc c) e = by_frame k (in_frame k h (omega (arith, e))) (times k xs) refl
