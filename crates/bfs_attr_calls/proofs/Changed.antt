-- The attributes of a node have changed: the volume is at work with the node's new record.
use Rattle.std.proofs.Common.{◌≡◌, ◌≢◌, ◌≤◌, ◌<◌, ◌+◌, ◌⊎◌, inl, inr, ℕ, zero, suc, List, [], ◌∷◌, ◌++◌, refl, sym, ap, ap₂, ◌∙◌, subst, arith, Bool, true, false, cond, not, Option, Some}
use Rattle.std.specs.Prelude.{◌==◌, ◌&&◌, ◌*◌, nat_lt, IsSome}
use Rattle.std.specs.Cmp.{nat_cmp_total}
use Rattle.std.specs.List.{flat_map}
use Rattle.std.specs.FinMap.{entries, insert, entries-insert, get-entries, entries_sorted}
use Rattle.bfs_base.specs.Lists.{times, Has, Agree}
use Rattle.bfs_base.specs.declared.kind.KeyKind.TheVariants.{Text}
use Rattle.bfs_super.specs.declared.geometry.Geometry.{Geometry}
use Rattle.bfs_bitmap.specs.Fills.{IsBitmapBlock}
use Rattle.bfs_bitmap.specs.Runs.{Room, HasBitmap, per_block, is_free, is_reserved, marked}
use Rattle.bfs_txn.specs.Told.{StaysChanged}
use Rattle.bfs_stream.specs.Grown.{IsOfVolume}
use Rattle.bfs_stream.specs.Places.{arrays_at, places_at}
use Rattle.bfs_stream.specs.Standing.{standing}
use Rattle.bfs_stream.specs.Told.{contents}
use Rattle.bfs_stream.proofs.Doubles.{times-append}
use Rattle.bfs_stream.proofs.Taking.{zero_test, some_test}
use Rattle.bfs_tree.specs.declared.call.Kind.{Kind}
use Rattle.bfs_tree.specs.declared.call.Kind.TheVariants.{Dir}
use Rattle.bfs_tree.specs.Trees.{Node, Tree, Attributes, IsNode, is_file, is_link}
use Rattle.bfs_values.specs.Rows.{rows_in}
use Rattle.bfs_sound.specs.Volumes.{Volume, sizes, bitmap_blocks, IsMarked}
use Rattle.bfs_sound.specs.Inodes.{is_short, frame_blocks, stream_blocks, inode_blocks, content}
use Rattle.bfs_sound.specs.Attributes.{attribute_directory, attribute_inodes}
use Rattle.bfs_sound.specs.Nodes.{HasNode}
use Rattle.bfs_sound.specs.Owners.{node_blocks, data_blocks, file_data, fixed_blocks, reach, IsMetadata}
use Rattle.bfs_sound.proofs.Counts.{In, times_member, times_two}
use Rattle.bfs_sound.proofs.Nodes.{own_all, own_metadata, other_blocks, node_metadata, node_split, data_blocks_stay}
use Rattle.bfs_sound.proofs.Parts.{in_entries}
use Rattle.bfs_shift.specs.Inodes.{HasBytes}
use Rattle.bfs_shift.specs.Lists.{Lists, with_rows}
use Rattle.bfs_shift.specs.Stocked.{Stocked, Shifts}
use Rattle.bfs_shift.specs.Shifts.{volume_in}
use Rattle.bfs_shift.specs.Work.{IsAtWork, IsFileStill, MayBeWritten}
use Rattle.bfs_shift.proofs.Basics.{bitmap_has, or_told}
use Rattle.bfs_shift.proofs.Files.{metadata_in, unfiled, all_split}
use Rattle.bfs_shift.proofs.Following.{same_or_not}
use Rattle.bfs_shift.proofs.Made.{put_here, put_other}
use Rattle.bfs_shift.proofs.Moving.{all_parts, part_stays}
use Rattle.bfs_shift.proofs.Renewed.{same_test, other_test, node_renewed}
use Rattle.bfs_shift.proofs.Replaced.{put_swapped}
use Rattle.bfs_shift.proofs.Widens.{widened}
use Rattle.bfs_attr.specs.Changed.{attribute_blocks, AttributesNow}
use Rattle.bfs_attrs.proofs.Beside.{each_of}
use Rattle.bfs_attrs.proofs.Follows.{exchange_of}
use Rattle.bfs_unmake.specs.Leaving.{IsClear, IsGivenSince, GivesBack, IsLeft}
use Rattle.bfs_attr_calls.specs.Attributed.{with_attributes, KeepsName}
use Rattle.bfs_attr_calls.proofs.Exchange.{used_means, exchange_shifts}
use Rattle.bfs_attr_calls.proofs.Inode.{own_rest, own_same, data_same, directory_content, short_same, node_attributed}

-- a block whose bit is set isn't free
pub marked_used : (low : Bool) (n : ℕ) (r : Bool) → n ≡ 1 → (low && ((n == 0) && not r)) ≡ false
marked_used true n r e = ap (λ (t : Bool). t && not r) (some_test n (omega (arith, e)))
marked_used false n r e = refl

low_test : (k n : ℕ) → k < n → nat_lt k n ≡ true
low_test k n low = grind (arith, low)

not_there : (k d : ℕ) → k ≢ d → times k (d ∷ []) ≡ 0
not_there k d apart = grind (arith, apart)

-- a node's own blocks are its inode and the rest
own_split : (u : Volume) (id k : ℕ) (kind : Kind) (short : Bool) → times k (own_all u id kind short) ≡ times k (id ∷ []) + times k (own_rest u id kind short)
own_split u id k kind short = by_test (is_link kind && short)
  where
    by_test : (t : Bool) → times k (cond t (id ∷ []) (inode_blocks u id)) ≡ times k (id ∷ []) + times k (cond t [] (arrays_at (sizes u.geometry) u.blocks id ++ places_at (sizes u.geometry) u.blocks id))
    by_test true = times-append k (id ∷ []) []
    by_test false = times-append k (id ∷ []) (arrays_at (sizes u.geometry) u.blocks id ++ places_at (sizes u.geometry) u.blocks id)

first_metadata : (u : Volume) (id k : ℕ) (kind : Kind) (short : Bool) → times k (id ∷ []) ≤ times k (own_metadata u id kind short)
first_metadata u id k kind short = by_test (is_link kind && short)
  where
    by_test : (t : Bool) → times k (id ∷ []) ≤ times k (cond t (id ∷ []) (frame_blocks u id ++ cond (is_file kind) [] (stream_blocks u id)))
    by_test true = omega arith
    by_test false =
        let a = times-append k (frame_blocks u id) (cond (is_file kind) [] (stream_blocks u id)) in
        let b : times k (frame_blocks u id) ≡ times k (id ∷ []) + times k (arrays_at (sizes u.geometry) u.blocks id) = times-append k (id ∷ []) (arrays_at (sizes u.geometry) u.blocks id) in
        omega (arith, a, b)

-- the inode and the blocks of the attributes are metadata of the node
attribute_metadata : (u : Volume) (id : ℕ) (n : Node) (k : ℕ) → times k (id ∷ other_blocks u id) ≤ times k (node_metadata u (id, n))
unfolding node_metadata
attribute_metadata u id n k =
    let f = first_metadata u id k n.kind (is_short u id) in
    let a : times k (own_metadata u id n.kind (is_short u id) ++ other_blocks u id) ≡ times k (own_metadata u id n.kind (is_short u id)) + times k (other_blocks u id) = times-append k (own_metadata u id n.kind (is_short u id)) (other_blocks u id) in
    let b : times k (id ∷ other_blocks u id) ≡ times k (id ∷ []) + times k (other_blocks u id) = times-append k (id ∷ []) (other_blocks u id) in
    omega (arith, f, a, b)

-- all blocks of the node are these and the rest of its own
pub node_parts : (u : Volume) (id : ℕ) (n : Node) (k : ℕ) → times k (node_blocks u (id, n)) ≡ times k (own_rest u id n.kind (is_short u id)) + times k (id ∷ other_blocks u id)
unfolding node_blocks
node_parts u id n k =
    let a : times k (own_all u id n.kind (is_short u id) ++ other_blocks u id) ≡ times k (own_all u id n.kind (is_short u id)) + times k (other_blocks u id) = times-append k (own_all u id n.kind (is_short u id)) (other_blocks u id) in
    let s = own_split u id k n.kind (is_short u id) in
    let b : times k (id ∷ other_blocks u id) ≡ times k (id ∷ []) + times k (other_blocks u id) = times-append k (id ∷ []) (other_blocks u id) in
    omega (arith, a, s, b)

with_none : (k : ℕ) (l : List ℕ) → times k (l ++ []) ≡ times k l
with_none k l = let a = times-append k l [] in omega (arith, a)

module _ (g : Geometry) (v now : Room) (m : ℕ → Option (List ℕ)) (tree : Tree) (lists : Lists) (loose : List ℕ) (id : ℕ) (n : Node) (attributes : Attributes) (told : Option (ℕ → Option (List ℕ))) (old new : ℕ → Bool)
    (some : 0 < g.block_size) (work : IsAtWork g v m tree lists loose) (clear : IsClear g v m) (is : IsNode tree id n)
    (rest : now ≡ record v { given = now.given; tally = now.tally }) (stands : standing now ≡ standing v) (kept_changed : StaysChanged old new)
    (are : AttributesNow (record { id = id; geometry = g }) v now m attributes told old new)
    (bytes : HasBytes (contents m id) (contents are.map id)) (name : KeepsName (contents m id) (contents are.map id)) (holds : (k : ℕ) → is_reserved v.given k ≡ true → is_reserved now.given k ≡ true) (clear_now : IsClear g now are.map) where
  abbrev map : ℕ → Option (List ℕ)
  map = are.map

  abbrev was : Volume
  was = volume_in g m

  abbrev since : Volume
  since = volume_in g map

  abbrev xs : List ℕ
  xs = attribute_blocks g m id

  abbrev ys : List ℕ
  ys = attribute_blocks g map id

  abbrev then : Node
  then = record n { attributes = attributes }

  abbrev after : Tree
  after = with_attributes tree id n attributes

  abbrev own : List ℕ
  own = own_rest was id n.kind (is_short was id)

  node_was : (k : ℕ) → times k (node_blocks was (id, n)) ≡ times k own + times k xs
  node_was k = node_parts was id n k

  node_in : (k : ℕ) → times k (node_blocks was (id, n)) ≤ times k (flat_map (node_blocks was) (entries tree.nodes))
  node_in k = times_member k (node_blocks was) (entries tree.nodes) (id, n) (in_entries tree.nodes id n is)

  few : (k : ℕ) → times k own + times k xs + (times k (fixed_blocks was) + times k (bitmap_blocks g)) ≤ times k (reach was tree)
  few k =
      let p = all_parts was tree lists loose work.stocked k in
      let a = times-append k (reach was tree) loose in
      let o = node_in k in
      let q = node_was k in
      omega (arith, p, a, o, q)

  once : (k : ℕ) → times k (reach was tree) + times k loose ≤ 1
  once k = let a = times-append k (reach was tree) loose in let o : times k (reach was tree ++ loose) ≤ 1 = work.stocked.once k in omega (arith, a, o)

  reached_marked : (k : ℕ) → 0 < times k (reach was tree) → IsMarked was k
  reached_marked k has = (work.stocked.marks k).1 (let a = times-append k (reach was tree) loose in let r : 0 < times k (reach was tree ++ loose) = omega (arith, has, a) in r)

  xs_marked : (k : ℕ) → Has xs k → IsMarked was k
  xs_marked k h = reached_marked k (let has : 0 < times k xs = h in let f = few k in omega (arith, has, f))

  shift : Shifts was (contents map) xs ys
  shift = exchange_shifts g v now m map xs ys work.volume some (exchange_of (record { id = id; geometry = g }) v now m attributes told old new rest are) are.holds.once xs_marked

  own_agrees : Agree was.blocks (contents map) own
  own_agrees = part_stays was tree lists loose work.stocked (contents map) xs ys shift own (λ k. let f = few k in let a = times-append k (reach was tree) loose in omega (arith, f, a))

  short_is : is_short since id ≡ is_short was id
  short_is = short_same was (contents map) id are.kept bytes

  own_times : (k : ℕ) → times k (own_rest since id n.kind (is_short since id)) ≡ times k own
  own_times k =
      let a = own_split since id k n.kind (is_short since id) in
      let b = own_split was id k n.kind (is_short was id) in
      let e : times k (own_all since id n.kind (is_short since id)) ≡ times k (own_all was id n.kind (is_short was id)) =
      ap (λ (t : Bool). times k (own_all since id n.kind t)) short_is ∙ ap (times k) (own_same was (contents map) id are.kept n.kind (is_short was id) own_agrees) in
      omega (arith, a, b, e)

  node_now : (k : ℕ) → times k (node_blocks since (id, then)) ≡ times k own + times k ys
  node_now k = let p = node_parts since id then k in let o = own_times k in omega (arith, p, o)

  node_shift : Shifts was (contents map) (node_blocks was (id, n) ++ []) (node_blocks since (id, then) ++ [])
  node_shift = widened was (contents map) xs ys (node_blocks was (id, n) ++ []) (node_blocks since (id, then) ++ []) shift
      (λ k. let a = with_none k (node_blocks was (id, n)) in let b = with_none k (node_blocks since (id, then)) in let c = node_was k in let e = node_now k in omega (arith, a, b, c, e))
      (λ k. let a = with_none k (node_blocks was (id, n)) in let c = node_was k in omega (arith, a, c))
      (λ k. let a = with_none k (node_blocks was (id, n)) in let c = node_was k in let f = few k in let o = once k in omega (arith, a, c, f, o))
      (λ k h. reached_marked k (let has : 0 < times k (node_blocks was (id, n) ++ []) = h in let a = with_none k (node_blocks was (id, n)) in let c = node_was k in let f = few k in omega (arith, has, a, c, f)))

  has_now : HasNode since id then
  has_now = node_attributed was (contents map) id are.kept bytes n attributes own_agrees are.holds.stands are.attributes_are name (work.stocked.nodes id n is)

  rows_now : then.kind ≡ Dir → rows_in Text (content since id) ≡ lists.rows id
  rows_now dir = ap (rows_in Text) (directory_content was (contents map) id are.kept n.kind (is_short was id) dir own_agrees) ∙ work.stocked.rows id n is dir

  renewed : Stocked since after (with_rows lists id (lists.rows id)) loose
  renewed = node_renewed was tree lists [] [] loose (contents map) id n then (lists.rows id) work.stocked is node_shift has_now rows_now

  rows_same : (b : ℕ) → (with_rows lists id (lists.rows id)).rows b ≡ lists.rows b
  rows_same b = by_id (same_or_not b id)
    where
      by_id : (b ≡ id) ⊎ (b ≢ id) → (with_rows lists id (lists.rows id)).rows b ≡ lists.rows b
      by_id (inl e) = subst (λ (j : ℕ). (with_rows lists id (lists.rows id)).rows j ≡ lists.rows j) (sym e) (ap (λ (t : Bool). cond t (lists.rows id) (lists.rows id)) (same_test id))
      by_id (inr apart) = ap (λ (t : Bool). cond t (lists.rows id) (lists.rows b)) (other_test b id apart)

  stocked : Stocked since after lists loose
  stocked = record {
    nodes = renewed.nodes;
    rows = λ b x at dir. renewed.rows b x at dir ∙ rows_same b;
    directory = renewed.directory;
    names = renewed.names;
    indices = renewed.indices;
    once = renewed.once;
    marks = renewed.marks;
  }

  -- the blocks of other nodes agree
  other_agrees : (e : ℕ × Node) → In e (entries tree.nodes) → e.0 ≢ id → Agree was.blocks (contents map) (node_blocks was e)
  other_agrees e i apart = part_stays was tree lists loose work.stocked (contents map) xs ys shift (node_blocks was e) (λ k.
      let p = all_parts was tree lists loose work.stocked k in
      let two : times k (node_blocks was e) + times k (node_blocks was (id, n)) ≤ times k (flat_map (node_blocks was) (entries tree.nodes)) = times_two k (node_blocks was) (entries tree.nodes) e (id, n) i (in_entries tree.nodes id n is) (λ one. apart (ap (λ (x : ℕ × Node). x.0) one)) in
      let q = node_was k in
      omega (arith, p, two, q))

  others_stay : (e : ℕ × Node) → In e (entries tree.nodes) → e.0 ≢ id → data_blocks since e ≡ data_blocks was e
  others_stay e i apart = data_blocks_stay was (contents map) g.used e.0 e.1 (λ k h. other_agrees e i apart k (
      let has : 0 < times k (node_metadata was (e.0, e.1)) = h in
      let s = node_split was k e in
      let r : 0 < times k (node_blocks was e) = omega (arith, has, s) in r))

  own_data : data_blocks since (id, then) ≡ data_blocks was (id, n)
  own_data = data_same was (contents map) id are.kept n.kind (is_short was id) own_agrees

  -- the same blocks are file data
  same_data : (k : ℕ) → times k (file_data since after) ≡ times k (file_data was tree)
  same_data k =
      let put : times k (flat_map (data_blocks since) (entries (insert tree.nodes id then))) + times k (data_blocks was (id, n)) ≡ times k (file_data was tree) + times k (data_blocks since (id, then)) =
      ap (λ (es : List (ℕ × Node)). times k (flat_map (data_blocks since) es) + times k (data_blocks was (id, n))) (entries-insert nat_cmp_total tree.nodes id then)
      ∙ put_swapped (data_blocks was) (data_blocks since) id n then k (entries tree.nodes) (entries_sorted tree.nodes) (sym (get-entries tree.nodes id) ∙ is) others_stay in
      let e : times k (data_blocks since (id, then)) ≡ times k (data_blocks was (id, n)) = ap (times k) own_data in
      omega (arith, put, e)

  -- file data is none of the blocks of attributes
  data_apart : (k : ℕ) → times k (file_data was tree) + times k xs + (times k (fixed_blocks was) + times k (bitmap_blocks g)) ≤ times k (reach was tree)
  data_apart k =
      let p = all_split was tree lists loose work.stocked k in
      let a = times-append k (reach was tree) loose in
      let f : times k xs ≤ times k (node_metadata was (id, n)) = attribute_metadata was id n k in
      let i = metadata_in was tree lists loose work.stocked id n is k in
      omega (arith, p, a, f, i)

  not_loose : (k : ℕ) → 0 < times k (reach since after) → times k loose ≡ 0
  not_loose k there = let a = times-append k (reach since after) loose in let o : times k (reach since after ++ loose) ≤ 1 = stocked.once k in omega (arith, a, o, there)

  -- what is metadata since and no block of the attributes was so, and was none of their blocks
  metadata_was : (k : ℕ) → IsMetadata since after k → times k ys ≡ 0 → IsMetadata was tree k × (times k xs ≡ 0)
  metadata_was k h none = by_mark ((shift.marks k).0 ((stocked.marks k).1 (let a = times-append k (reach since after) loose in let r : 0 < times k (reach since after ++ loose) = omega (arith, a, there) in r)))
    where
      there : 0 < times k (reach since after)
      there = h.0

      by_mark : Has ys k ⊎ (IsMarked was k × (times k xs ≡ 0)) → IsMetadata was tree k × (times k xs ≡ 0)
      by_mark (inl has) = let yes_it : 0 < times k ys = has in absurd (omega (arith, yes_it, none))
      by_mark (inr before) =
          let r : 0 < times k (reach was tree ++ loose) = (work.stocked.marks k).0 before.0 in
          let a = times-append k (reach was tree) loose in
          let l = not_loose k there in
          let s = same_data k in
          let z = h.1 in
          (((let w : 0 < times k (reach was tree) = omega (arith, r, a, l) in w), omega (arith, s, z)), before.1)

  others_told : (k : ℕ) → Has (other_blocks since id) k → IsSome (map k)
  others_told k h = each_of (λ (j : ℕ). IsSome (map j)) (inode_blocks since) (attribute_inodes since (attribute_directory since id)) one k h
    where
      one : (j : ℕ) → In j (attribute_inodes since (attribute_directory since id)) → (k : ℕ) → Has (inode_blocks since j) k → IsSome (map k)
      one j i k has = by_count (times k (frame_blocks since j)) refl
        where
          by_count : (c : ℕ) → times k (frame_blocks since j) ≡ c → IsSome (map k)
          by_count (suc c) e = (are.holds.streams j i).1.owns.stands.told k (let r : 0 < times k (frame_blocks since j) = omega (arith, e) in r)
          by_count zero e = (are.holds.streams j i).1.told k (let a = times-append k (frame_blocks since j) (stream_blocks since j) in let s : 0 < times k (inode_blocks since j) = has in let r : 0 < times k (stream_blocks since j) = omega (arith, a, s, e) in r)

  ys_told : (k : ℕ) → Has ys k → IsSome (map k)
  ys_told k h = by_id (same_or_not k id)
    where
      by_id : (k ≡ id) ⊎ (k ≢ id) → IsSome (map k)
      by_id (inl e) = subst (λ (j : ℕ). IsSome (map j)) (sym e) are.holds.inode
      by_id (inr apart) = others_told k (
          let has : 0 < times k ys = h in
          let p : times k ys ≡ times k (id ∷ []) + times k (other_blocks since id) = times-append k (id ∷ []) (other_blocks since id) in
          let z : times k (id ∷ []) ≡ 0 = not_there k id apart in
          let r : 0 < times k (other_blocks since id) = omega (arith, has, p, z) in r)

  bitmap_now : HasBitmap v map
  bitmap_now = let h : HasBitmap (record v { given = now.given; tally = now.tally }) map = subst (λ (x : Room). HasBitmap x map) rest are.holds.fits.has in record { told = h.told }

  none_both : (k : ℕ) → times k xs ≡ 0 → times k ys ≡ 0 → times k (xs ++ ys) ≡ 0
  none_both k a b = let p = times-append k xs ys in omega (arith, p, a, b)

  told_now : (k : ℕ) → IsMetadata since after k → times k (fixed_blocks since) ≡ 0 → IsSome (map k)
  told_now k h out = by_count (times k ys) refl
    where
      by_stay : IsMetadata was tree k → (map k ≡ m k) ⊎ IsSome (map k) → IsSome (map k)
      by_stay before (inl e) = subst IsSome (sym e) (work.told k before out)
      by_stay before (inr s) = s

      by_count : (c : ℕ) → times k ys ≡ c → IsSome (map k)
      by_count (suc c) e = ys_told k (let r : 0 < times k ys = omega (arith, e) in r)
      by_count zero e =
          let before = metadata_was k h e in
          let none = none_both k before.1 e in
          by_stay before.0 (or_told v m map k bitmap_now (λ far. are.others k far none) (λ at. ap map at ∙ are.first (subst (λ (j : ℕ). times j (xs ++ ys) ≡ 0) at none) ∙ sym (ap m at)))

  bits_in : (x : ℕ → Option (List ℕ)) (k : ℕ) → marked (per_block v) x k ≡ marked (8 * g.block_size) x k
  bits_in x k = ap (λ (b : ℕ). marked (8 * b) x k) work.volume.block_size

  work_now : IsAtWork g now map after lists loose
  work_now = record {
    volume = subst (IsOfVolume (sizes g)) (sym rest) (record { block_size = work.volume.block_size; blocks = work.volume.blocks; group_blocks = work.volume.group_blocks });
    fits = are.holds.fits;
    counted = are.counted (λ k low h. let one : marked (8 * g.block_size) m k ≡ 1 = (xs_marked k h).1 in bits_in m k ∙ one) work.counted;
    stocked = stocked;
    told = told_now;
  }

  unreserved : (k : ℕ) → IsMarked was k → is_reserved v.given k ≡ false
  unreserved k h = by_test (is_reserved v.given k) refl
    where
      by_test : (t : Bool) → is_reserved v.given k ≡ t → is_reserved v.given k ≡ false
      by_test true e = absurd (clear k e h)
      by_test false e = e

  -- a block that went is marked no more, and was given back
  went_now : (k : ℕ) → Has xs k → times k ys ≡ 0 → is_reserved now.given k ≡ true
  went_now k h none =
      let mark = xs_marked k h in
      let low : k < v.blocks = subst (λ (b : ℕ). k < b) (sym work.volume.blocks) mark.0 in
      let one : marked (8 * g.block_size) m k ≡ 1 = mark.1 in
      let used : is_free v m k ≡ false = marked_used (nat_lt k v.blocks) (marked (per_block v) m k) (is_reserved v.given k) (bits_in m k ∙ one) in
      let zero_bit : marked (per_block v) map k ≡ 0 =
      are.marks k low ∙ ap₂ (λ (s t : Bool). cond (s && not t) 1 (cond (t && not s) 0 (marked (per_block v) m k))) (some_test (times k xs) h) (zero_test (times k ys) none) in
      let then_used : (nat_lt k v.blocks && ((marked (per_block v) map k == 0) && not (is_reserved now.given k))) ≡ false =
      subst (λ (x : Room). (nat_lt k x.blocks && ((marked (per_block x) map k == 0) && not (is_reserved now.given k))) ≡ false) rest (are.free k ∙ ap (λ (t : Bool). t && (times k ys == 0)) used) in
      used_means (nat_lt k v.blocks) (marked (per_block v) map k) (is_reserved now.given k) (low_test k v.blocks low) zero_bit then_used

  gives : GivesBack g v now m map tree after old new
  gives = record {
    rest = rest;
    standing_is = stands;
    holds = holds;
    clear = clear_now;
    marked = λ k h. by_mark k h (times k xs) refl (times k ys) refl;
    files = λ b x at f. by_file b x at f (same_or_not b id);
    no_more = λ k. let e = same_data k in omega (arith, e);
    left = λ k h. inl (let had : 0 < times k (file_data was tree) = h in let e = same_data k in let r : 0 < times k (file_data since after) = omega (arith, had, e) in r);
    bytes = λ k h. by_bytes k (let has : 0 < times k (file_data since after) = h in let e = same_data k in omega (arith, has, e));
    written = λ k h. by_cause k (are.written k h);
    kept = kept_changed;
    entered = λ k h. by_entered k h (times k ys) refl (times k xs) refl;
  }
    where
      by_mark : (k : ℕ) → IsMarked was k → (c : ℕ) → times k xs ≡ c → (d : ℕ) → times k ys ≡ d → IsMarked since k ⊎ (is_reserved now.given k ≡ true)
      by_mark k h zero e d f = inl ((shift.marks k).1 (inr (h, e)))
      by_mark k h (suc c) e (suc d) f = inl ((shift.marks k).1 (inl (let r : 0 < times k ys = omega (arith, f) in r)))
      by_mark k h (suc c) e zero f = inr (went_now k (let r : 0 < times k xs = omega (arith, e) in r) f)

      stream_stays : (b : ℕ) (kind : Kind) → is_file kind ≡ true → cond (is_file kind) (stream_blocks since b) [] ≡ cond (is_file kind) (stream_blocks was b) [] → stream_blocks since b ≡ stream_blocks was b
      stream_stays b kind f stay = sym (ap (λ (t : Bool). cond t (stream_blocks since b) []) f) ∙ stay ∙ ap (λ (t : Bool). cond t (stream_blocks was b) []) f

      same_node : (x : Node) → IsNode tree id x → n ≡ x
      same_node x at = let both : Some n ≡ Some x = sym is ∙ at in cc

      by_file : (b : ℕ) (x : Node) → IsNode tree b x → is_file x.kind ≡ true → (b ≡ id) ⊎ (b ≢ id) → (IsFileStill after b x × (stream_blocks since b ≡ stream_blocks was b)) ⊎ (is_reserved now.given b ≡ true)
      by_file b x at f (inr apart) = inl (record { node = x; there = put_other tree.nodes id then b apart ∙ at; kind = refl; size = refl }, stream_stays b x.kind f (others_stay (b, x) (in_entries tree.nodes b x at) apart))
      by_file b x at f (inl e) =
          let here : IsNode tree id x = subst (λ (j : ℕ). IsNode tree j x) e at in
          let one = same_node x here in
          inl (subst (λ (j : ℕ). IsFileStill after j x × (stream_blocks since j ≡ stream_blocks was j)) (sym e) (
            record { node = then; there = put_here tree.nodes id then; kind = ap (λ (y : Node). y.kind) one; size = ap (λ (y : Node). y.size) one },
            stream_stays id n.kind (ap (λ (y : Node). is_file y.kind) one ∙ f) own_data,
          ))

      by_bytes : (k : ℕ) → 0 < times k (file_data was tree) → contents map k ≡ contents m k
      by_bytes k has =
          let d = data_apart k in
          let o = once k in
          let none : times k xs ≡ 0 = omega (arith, d, o, has) in
          shift.stays k none (no_ys (times k ys) refl none) (omega (arith, d, o, has))
        where
          no_ys : (c : ℕ) → times k ys ≡ c → times k xs ≡ 0 → times k ys ≡ 0
          no_ys zero e none = e
          no_ys (suc c) e none = absurd (shift.fresh k (let r : 0 < times k ys = omega (arith, e) in r) none (reached_marked k (let d = data_apart k in omega (arith, d, has))))

      no_log : (k : ℕ) → 0 < times k xs → times k (fixed_blocks was) ≡ 0
      no_log k h = let f = few k in let o = once k in omega (arith, f, o, h)

      may : (k : ℕ) → 0 < times k ys → MayBeWritten since after k
      may k h = unfiled since after lists loose stocked k (
          let f : times k ys ≤ times k (node_metadata since (id, then)) = attribute_metadata since id then k in
          let i = metadata_in since after lists loose stocked id then (put_here tree.nodes id then) k in
          omega (arith, h, f, i))

      by_side : (k : ℕ) → 0 < times k (xs ++ ys) → (c : ℕ) → times k ys ≡ c → MayBeWritten since after k ⊎ IsGivenSince g v now k
      by_side k h (suc c) e = inl (may k (omega (arith, e)))
      by_side k h zero e =
          let p = times-append k xs ys in
          let x : 0 < times k xs = omega (arith, p, h, e) in
          let mark = xs_marked k x in
          inr (unreserved k mark, went_now k x e, (mark.0, no_log k x))

      by_cause : (k : ℕ) → (old k ≡ true) ⊎ (IsBitmapBlock v k ⊎ Has (xs ++ ys) k) → (old k ≡ true) ⊎ (MayBeWritten since after k ⊎ IsGivenSince g v now k)
      by_cause k (inl e) = inl e
      by_cause k (inr (inl bit)) = inr (inl (unfiled since after lists loose stocked k (let b : 0 < times k (bitmap_blocks g) = bitmap_has g v k work.volume some bit in omega (arith, b))))
      by_cause k (inr (inr has)) = inr (by_side k has (times k ys) refl)

      by_entered : (k : ℕ) → IsMetadata since after k → (c : ℕ) → times k ys ≡ c → (d : ℕ) → times k xs ≡ d → IsMetadata was tree k ⊎ (new k ≡ true)
      by_entered k h zero e d f = inl (metadata_was k h e).0
      by_entered k h (suc c) e zero f = inr (are.entered k (let r : 0 < times k ys = omega (arith, e) in r) f)
      by_entered k h (suc c) e (suc d) f =
          let a = data_apart k in
          let o = once k in
          inl ((let r : 0 < times k (reach was tree) = omega (arith, a, f) in r), omega (arith, a, o, f))

  pub attributes_left : IsLeft g v now m tree after lists loose told old new
  attributes_left = record { map = map; is = are.is; work = work_now; gives = gives }
