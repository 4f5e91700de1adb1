-- A node leaves the tree, and all its blocks were given back.
use Rattle.std.proofs.Common.{◌≡◌, ◌≢◌, ◌≤◌, ◌<◌, ◌+◌, ◌*◌, ◌⊎◌, inl, inr, ℕ, zero, suc, List, [], ◌++◌, refl, sym, ap, ◌∙◌, subst, arith, Bool, true, false, cond, not, Option, Some, unwrap_or}
use Rattle.std.specs.Prelude.{IsSome, ◌==◌, ◌||◌}
use Rattle.std.specs.Cmp.{nat_cmp_total}
use Rattle.std.specs.Ordering.{nat_cmp, eq_by_cmp}
use Rattle.std.specs.List.{flat_map}
use Rattle.std.specs.FinMap.{entries, get, remove, entries-insert, get-entries}
use Rattle.bfs_base.specs.Lists.{times, Has, AreSame}
use Rattle.bfs_super.specs.declared.geometry.Geometry.{Geometry}
use Rattle.bfs_bitmap.specs.Fills.{IsBitmapBlock}
use Rattle.bfs_bitmap.specs.Runs.{Room, HasBitmap, per_block, is_reserved, marked}
use Rattle.bfs_txn.specs.Told.{StaysChanged}
use Rattle.bfs_stream.specs.Standing.{standing}
use Rattle.bfs_stream.specs.Told.{contents}
use Rattle.bfs_stream.specs.Grown.{IsOfVolume}
use Rattle.bfs_stream.proofs.Doubles.{times-append}
use Rattle.bfs_stream.proofs.Taking.{zero_test, some_test}
use Rattle.bfs_tree.specs.Trees.{Node, Nodes, Tree, IsNode, is_file}
use Rattle.bfs_sound.specs.Volumes.{Volume, sizes, bitmap_blocks, IsMarked}
use Rattle.bfs_sound.specs.Inodes.{stream_blocks}
use Rattle.bfs_sound.specs.Owners.{node_blocks, data_blocks, file_data, fixed_blocks, reach, IsMetadata}
use Rattle.bfs_sound.proofs.Counts.{In, times_member}
use Rattle.bfs_sound.proofs.Nodes.{node_split}
use Rattle.bfs_sound.proofs.Parts.{reach_parts}
use Rattle.bfs_shift.specs.Lists.{Lists}
use Rattle.bfs_shift.specs.Stocked.{Stocked, Shifts}
use Rattle.bfs_shift.specs.Shifts.{volume_in}
use Rattle.bfs_shift.specs.Work.{IsAtWork, IsFileStill, MayBeWritten}
use Rattle.bfs_shift.proofs.Basics.{bitmap_has, or_told}
use Rattle.bfs_shift.proofs.Bridge.{outside_bitmap}
use Rattle.bfs_shift.proofs.Files.{has_own, unfiled, files_same, stream_same, bytes_same}
use Rattle.bfs_shift.proofs.Frees.{in_order}
use Rattle.bfs_shift.proofs.Joins.{put_count}
use Rattle.bfs_shift.proofs.Leaves.{put_back, taken_none, node_left}
use Rattle.bfs_shift.proofs.Loose.{loose_changed}
use Rattle.bfs_shift.proofs.Made.{taken_other}
use Rattle.bfs_shift.proofs.Moving.{all_parts}
use Rattle.bfs_shift.proofs.Renewed.{same_id, other_id}
use Rattle.bfs_leave.specs.Given.{AreGivenBack}
use Rattle.bfs_leave.specs.Leaving.{IsClear, IsGivenSince, GivesBack, IsLeft, tree_without}

-- where a node was taken out of a tree, what is counted over the nodes is less by what it has
fewer : (f : ℕ × Node → List ℕ) (nodes : Nodes) (id : ℕ) (n : Node) → get nodes id ≡ Some n → (k : ℕ)
    → times k (flat_map f (entries nodes)) ≡ times k (f (id, n)) + times k (flat_map f (entries (remove nodes id)))
fewer f nodes id n is k =
    ap (λ (x : Nodes). times k (flat_map f (entries x))) (sym (put_back nodes id n is))
    ∙ ap (λ (es : List (ℕ × Node)). times k (flat_map f es)) (entries-insert nat_cmp_total (remove nodes id) id n)
    ∙ put_count f k id n (entries (remove nodes id)) (sym (get-entries (remove nodes id) id) ∙ taken_none nodes id)

other_there : (nodes : Nodes) (id b : ℕ) (n : Node) → b ≢ id → get nodes b ≡ Some n → get (remove nodes id) b ≡ Some n
other_there nodes id b n apart is = taken_other nodes id b apart ∙ is

-- Blocks that were given back go.
module _ (g : Geometry) (v now : Room) (m : ℕ → Option (List ℕ)) (xs : List ℕ) (told : Option (ℕ → Option (List ℕ))) (old new : ℕ → Bool)
    (some : 0 < g.block_size) (volume : IsOfVolume (sizes g) v) (gave : AreGivenBack v now xs m told old new) where
  abbrev before : Volume
  before = volume_in g m

  abbrev later : Volume
  later = volume_in g gave.map

  bits_at : (x : ℕ → Option (List ℕ)) (k : ℕ) → marked (per_block v) x k ≡ marked (8 * g.block_size) x k
  bits_at x k = ap (λ (s : ℕ). marked (8 * s) x k) volume.block_size

  is_below : (k : ℕ) → k < g.blocks → k < v.blocks
  is_below k low = subst (λ (s : ℕ). k < s) (sym volume.blocks) low

  bit_now : (k : ℕ) → k < g.blocks → marked (per_block v) gave.map k ≡ cond (times k xs == 0) (marked (per_block v) m k) 0
  bit_now k low = gave.marks k (is_below k low)

  bit_stays : (k : ℕ) → k < g.blocks → times k xs ≡ 0 → marked (8 * g.block_size) gave.map k ≡ marked (8 * g.block_size) m k
  bit_stays k low none = sym (bits_at gave.map k) ∙ bit_now k low ∙ ap (λ (t : Bool). cond t (marked (per_block v) m k) 0) (zero_test (times k xs) none) ∙ bits_at m k

  bit_goes : (k : ℕ) → k < g.blocks → 0 < times k xs → marked (8 * g.block_size) gave.map k ≡ 0
  bit_goes k low has = sym (bits_at gave.map k) ∙ bit_now k low ∙ ap (λ (t : Bool). cond t (marked (per_block v) m k) 0) (some_test (times k xs) has)

  pub given_shift : Shifts before (contents gave.map) xs []
  given_shift = record {
    stays = λ k none gone out. by_place k none out;
    once = λ k. omega arith;
    fresh = λ k has none. absurd (let bad : 0 < 0 = has in omega (arith, bad));
    marks = λ k. (on k, back k);
  }
    where
      by_place : (k : ℕ) → times k xs ≡ 0 → times k (bitmap_blocks g) ≡ 0 → contents gave.map k ≡ contents m k
      by_place zero none out = ap (λ (b : Option (List ℕ)). unwrap_or b []) (gave.first none)
      by_place (suc k) none out = ap (λ (b : Option (List ℕ)). unwrap_or b []) (gave.others (suc k) (outside_bitmap g v (suc k) volume some (omega arith) out) none)

      on : (k : ℕ) → IsMarked later k → Has [] k ⊎ (IsMarked before k × (times k xs ≡ 0))
      on k h = by_count (times k xs) refl
        where
          one : marked (8 * g.block_size) gave.map k ≡ 1
          one = h.1

          by_count : (c : ℕ) → times k xs ≡ c → Has [] k ⊎ (IsMarked before k × (times k xs ≡ 0))
          by_count zero e = inr ((h.0, sym (bit_stays k h.0 e) ∙ one), e)
          by_count (suc c) e = let z = bit_goes k h.0 (omega (arith, e)) in absurd (omega (arith, one, z))

      back : (k : ℕ) → Has [] k ⊎ (IsMarked before k × (times k xs ≡ 0)) → IsMarked later k
      back k (inl has) = absurd (let bad : 0 < 0 = has in omega (arith, bad))
      back k (inr h) = let one : marked (8 * g.block_size) m k ≡ 1 = h.0.1 in (h.0.0, bit_stays k h.0.0 h.1 ∙ one)

module _ (g : Geometry) (v now : Room) (m : ℕ → Option (List ℕ)) (tree : Tree) (lists : Lists) (loose : List ℕ) (id : ℕ) (n : Node) (xs : List ℕ) (told : Option (ℕ → Option (List ℕ))) (old new : ℕ → Bool)
    (some : 0 < g.block_size) (work : IsAtWork g v m tree lists loose) (clear : IsClear g v m) (is : IsNode tree id n) (all : AreSame xs (node_blocks (volume_in g m) (id, n)))
    (gave : AreGivenBack v now xs m told old new) (rest : now ≡ record v { given = now.given; tally = now.tally }) (stands : standing now ≡ standing v) (kept : StaysChanged old new) where
  abbrev was : Volume
  was = volume_in g m

  abbrev map : ℕ → Option (List ℕ)
  map = gave.map

  abbrev is_now : Volume
  is_now = volume_in g map

  abbrev after : Tree
  after = tree_without tree id

  owned : Stocked was after lists (xs ++ loose)
  owned = in_order was after lists (node_blocks was (id, n) ++ loose) (xs ++ loose) (λ k.
      let a = times-append k (node_blocks was (id, n)) loose in
      let b = times-append k xs loose in
      let c : times k xs ≡ times k (node_blocks was (id, n)) = all k in
      omega (arith, a, b, c)) (node_left was tree lists loose id n work.stocked is)

  -- the node's blocks, each once, beside what is reached without it
  parts : (k : ℕ) → times k (reach was after) + (times k xs + times k loose) ≤ 1
  parts k =
      let o : times k (reach was after ++ (xs ++ loose)) ≤ 1 = owned.once k in
      let a = times-append k (reach was after) (xs ++ loose) in
      let b = times-append k xs loose in
      omega (arith, o, a, b)

  bits_in : (x : ℕ → Option (List ℕ)) (k : ℕ) → marked (per_block v) x k ≡ marked (8 * g.block_size) x k
  bits_in x k = ap (λ (s : ℕ). marked (8 * s) x k) work.volume.block_size

  shift : Shifts was (contents map) xs []
  shift = given_shift g v now m xs told old new some work.volume gave

  stocked : Stocked is_now after lists loose
  stocked = loose_changed was after lists xs [] loose (contents map) owned shift

  -- the node's blocks are marked
  was_marked : (k : ℕ) → 0 < times k xs → IsMarked was k
  was_marked k has = (owned.marks k).1 (
      let a = times-append k (reach was after) (xs ++ loose) in
      let b = times-append k xs loose in
      let r : 0 < times k (reach was after ++ (xs ++ loose)) = omega (arith, has, a, b) in r)

  apart : (e : ℕ × Node) → In e (entries after.nodes) → is_file e.1.kind ≡ true → (k : ℕ) → times k (node_blocks was e) + (times k xs + times k (bitmap_blocks g)) ≤ times k (reach was after ++ (xs ++ loose))
  apart e i f k =
      let p = all_parts was after lists (xs ++ loose) owned k in
      let member : times k (node_blocks was e) ≤ times k (flat_map (node_blocks was) (entries after.nodes)) = times_member k (node_blocks was) (entries after.nodes) e i in
      let b = times-append k xs loose in
      omega (arith, p, member, b)

  same : file_data is_now after ≡ file_data was after
  same = files_same was after lists (xs ++ loose) owned (contents map) xs [] shift apart

  data_before : (k : ℕ) → times k (file_data was tree) ≡ times k (data_blocks was (id, n)) + times k (file_data was after)
  data_before k = fewer (data_blocks was) tree.nodes id n is k

  reach_before : (k : ℕ) → times k (reach was tree) ≡ times k xs + times k (reach was after)
  reach_before k =
      let a = reach_parts was tree k in
      let b = reach_parts was after k in
      let c : times k (flat_map (node_blocks was) (entries tree.nodes)) ≡ times k (node_blocks was (id, n)) + times k (flat_map (node_blocks was) (entries after.nodes)) = fewer (node_blocks was) tree.nodes id n is k in
      let d : times k xs ≡ times k (node_blocks was (id, n)) = all k in
      omega (arith, a, b, c, d)

  -- what is metadata without the node was metadata with it
  metadata_was : (k : ℕ) → IsMetadata was after k → IsMetadata was tree k
  metadata_was k h =
      let there : 0 < times k (reach was after) = h.0 in
      let none = h.1 in
      let r = reach_before k in
      let d = data_before k in
      let s = node_split was k (id, n) in
      let a : times k xs ≡ times k (node_blocks was (id, n)) = all k in
      let o = parts k in
      ((let q : 0 < times k (reach was tree) = omega (arith, there, r) in q), omega (arith, none, d, s, a, o, there))

  told_before : (k : ℕ) → IsMetadata was after k → times k (fixed_blocks was) ≡ 0 → IsSome (m k)
  told_before k h out = work.told k (metadata_was k h) out

  bitmap_now : HasBitmap v map
  bitmap_now = let h : HasBitmap (record v { given = now.given; tally = now.tally }) map = subst (λ (x : Room). HasBitmap x map) rest gave.fits.has in record { told = h.told }

  -- what is metadata since was so before without the node, and is none of its blocks
  metadata_stays : (k : ℕ) → IsMetadata is_now after k → IsMetadata was after k × (times k xs ≡ 0)
  metadata_stays k h = by_mark ((shift.marks k).0 ((stocked.marks k).1 (let a = times-append k (reach is_now after) loose in let r : 0 < times k (reach is_now after ++ loose) = omega (arith, a, there) in r)))
    where
      there : 0 < times k (reach is_now after)
      there = h.0

      no_data : times k (file_data was after) ≡ 0
      no_data = let e : times k (file_data is_now after) ≡ times k (file_data was after) = ap (times k) same in let z = h.1 in omega (arith, e, z)

      by_mark : Has [] k ⊎ (IsMarked was k × (times k xs ≡ 0)) → IsMetadata was after k × (times k xs ≡ 0)
      by_mark (inl has) = absurd (let bad : 0 < 0 = has in omega (arith, bad))
      by_mark (inr old_mark) = ((reached, no_data), old_mark.1)
        where
          reached : 0 < times k (reach was after)
          reached =
              let r : 0 < times k (reach was after ++ (xs ++ loose)) = (owned.marks k).0 old_mark.0 in
              let a = times-append k (reach was after) (xs ++ loose) in
              let b = times-append k xs loose in
              let none = old_mark.1 in
              let o : times k (reach is_now after ++ loose) ≤ 1 = stocked.once k in
              let c = times-append k (reach is_now after) loose in
              omega (arith, r, a, b, none, o, c, there)

  told_now : (k : ℕ) → IsMetadata is_now after k → times k (fixed_blocks is_now) ≡ 0 → IsSome (map k)
  told_now k h out = by_stay (or_told v m map k bitmap_now (λ o. gave.others k o before.1) (λ at. ap map at ∙ gave.first (subst (λ (j : ℕ). times j xs ≡ 0) at before.1) ∙ sym (ap m at)))
    where
      before : IsMetadata was after k × (times k xs ≡ 0)
      before = metadata_stays k h

      by_stay : (map k ≡ m k) ⊎ IsSome (map k) → IsSome (map k)
      by_stay (inl e) = subst IsSome (sym e) (told_before k before.0 out)
      by_stay (inr s) = s

  work_now : IsAtWork g now map after lists loose
  work_now = record {
    volume = subst (IsOfVolume (sizes g)) (sym rest) (record { block_size = work.volume.block_size; blocks = work.volume.blocks; group_blocks = work.volume.group_blocks });
    fits = gave.fits;
    counted = gave.counted (λ k. let p = parts k in omega (arith, p)) (λ k low has. let h : 0 < times k xs = has in let one : marked (8 * g.block_size) m k ≡ 1 = (was_marked k h).1 in bits_in m k ∙ one) work.counted;
    stocked = stocked;
    told = told_now;
  }

  reserved_now : (k : ℕ) → 0 < times k xs → is_reserved now.given k ≡ true
  reserved_now k has = gave.reserved k ∙ ap (λ (t : Bool). is_reserved v.given k || not t) (some_test (times k xs) has) ∙ or_true (is_reserved v.given k)
    where
      or_true : (b : Bool) → (b || true) ≡ true
      or_true true = refl
      or_true false = refl

  reserved_still : (k : ℕ) → is_reserved v.given k ≡ true → is_reserved now.given k ≡ true
  reserved_still k r = gave.reserved k ∙ ap (λ (t : Bool). t || not (times k xs == 0)) r

  unreserved : (k : ℕ) → IsMarked was k → is_reserved v.given k ≡ false
  unreserved k h = by_test (is_reserved v.given k) refl
    where
      by_test : (t : Bool) → is_reserved v.given k ≡ t → is_reserved v.given k ≡ false
      by_test true e = absurd (clear k e h)
      by_test false e = e

  clear_now : IsClear g now map
  clear_now k r marked_now = by_mark ((shift.marks k).0 marked_now)
    where
      by_mark : Has [] k ⊎ (IsMarked was k × (times k xs ≡ 0)) → ⊥
      by_mark (inl has) = let bad : 0 < 0 = has in omega (arith, bad)
      by_mark (inr h) =
          let none : (times k xs == 0) ≡ true = zero_test (times k xs) h.1 in
          let same_given : is_reserved now.given k ≡ (is_reserved v.given k || not true) = gave.reserved k ∙ ap (λ (t : Bool). is_reserved v.given k || not t) none in
          clear k (or_false (is_reserved v.given k) (sym same_given ∙ r)) h.0
        where
          or_false : (b : Bool) → (b || false) ≡ true → b ≡ true
          or_false true e = refl
          or_false false e = e

  own_here : 0 < times id xs
  own_here =
      let o = has_own was id n in
      let s = node_split was id (id, n) in
      let a : times id xs ≡ times id (node_blocks was (id, n)) = all id in
      omega (arith, o, s, a)

  gives : GivesBack g v now m map tree after old new
  gives = record {
    rest = rest;
    standing_is = stands;
    holds = reserved_still;
    clear = clear_now;
    marked = λ k h. by_count k h (times k xs) refl;
    files = λ b x there f. by_node b x there f (eq_by_cmp nat_cmp b id) refl;
    no_more = λ k. let e : times k (file_data is_now after) ≡ times k (file_data was after) = ap (times k) same in let d = data_before k in omega (arith, e, d);
    left = λ k h. by_data k h (times k (file_data was after)) refl;
    bytes = λ k h. bytes_same was after lists (xs ++ loose) owned (contents map) xs [] shift apart k (
        let some_data : 0 < times k (file_data is_now after) = h in
        let e : times k (file_data is_now after) ≡ times k (file_data was after) = ap (times k) same in
        let r : 0 < times k (file_data was after) = omega (arith, some_data, e) in r);
    written = λ k h. by_cause k (gave.written k h);
    kept = kept;
    entered = λ k h. inl (metadata_was k (metadata_stays k h).0);
  }
    where
      by_count : (k : ℕ) → IsMarked was k → (c : ℕ) → times k xs ≡ c → IsMarked is_now k ⊎ (is_reserved now.given k ≡ true)
      by_count k h zero e = inl ((shift.marks k).1 (inr (h, e)))
      by_count k h (suc c) e = inr (reserved_now k (omega (arith, e)))

      by_node : (b : ℕ) (x : Node) → IsNode tree b x → is_file x.kind ≡ true → (t : Bool) → eq_by_cmp nat_cmp b id ≡ t
          → (IsFileStill after b x × (stream_blocks is_now b ≡ stream_blocks was b)) ⊎ (is_reserved now.given b ≡ true)
      by_node b x there f true e = inr (subst (λ (j : ℕ). is_reserved now.given j ≡ true) (sym (same_id b id e)) (reserved_now id own_here))
      by_node b x there f false e =
          let stay : IsNode after b x = other_there tree.nodes id b x (other_id b id e) there in
          inl (record { node = x; there = stay; kind = refl; size = refl }, stream_same was after lists (xs ++ loose) owned (contents map) xs [] shift apart b x stay f)

      by_data : (k : ℕ) → Has (file_data was tree) k → (c : ℕ) → times k (file_data was after) ≡ c → Has (file_data is_now after) k ⊎ (is_reserved now.given k ≡ true)
      by_data k h (suc c) e = inl (let q : times k (file_data is_now after) ≡ times k (file_data was after) = ap (times k) same in let r : 0 < times k (file_data is_now after) = omega (arith, q, e) in r)
      by_data k h zero e =
          let had : 0 < times k (file_data was tree) = h in
          let d = data_before k in
          let s = node_split was k (id, n) in
          let a : times k xs ≡ times k (node_blocks was (id, n)) = all k in
          inr (reserved_now k (omega (arith, had, d, s, a, e)))

      by_cause : (k : ℕ) → (old k ≡ true) ⊎ (IsBitmapBlock v k ⊎ Has xs k) → (old k ≡ true) ⊎ (MayBeWritten is_now after k ⊎ IsGivenSince g v now k)
      by_cause k (inl e) = inl e
      by_cause k (inr (inl bit)) = inr (inl (unfiled is_now after lists loose stocked k (let b : 0 < times k (bitmap_blocks g) = bitmap_has g v k work.volume some bit in omega (arith, b))))
      by_cause k (inr (inr has)) =
          let h : 0 < times k xs = has in
          let mark = was_marked k h in
          inr (inr (unreserved k mark, reserved_now k h, (mark.0, no_log k h)))
        where
          no_log : (k : ℕ) → 0 < times k xs → times k (fixed_blocks was) ≡ 0
          no_log k h = let p = all_parts was after lists (xs ++ loose) owned k in let o : times k (reach was after ++ (xs ++ loose)) ≤ 1 = owned.once k in let b = times-append k xs loose in omega (arith, p, o, b, h)

  pub given_step : IsLeft g v now m tree after lists loose told old new
  given_step = record { map = map; is = gave.is; work = work_now; gives = gives }
