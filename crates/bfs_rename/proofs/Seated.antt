-- A node's inode was written, with another record of it, which has another parent.
use Rattle.std.proofs.Common.{◌≡◌, ◌≢◌, ◌≤◌, ◌<◌, ◌+◌, ◌-◌, ◌*◌, ◌⊎◌, inl, inr, ℕ, List, [], ◌∷◌, ◌++◌, refl, sym, ap, ◌∙◌, subst, arith, Bool, true, false, cond, Option, Some}
use Rattle.std.specs.Prelude.{IsSome, unwrap_or}
use Rattle.std.specs.Cmp.{nat_cmp_total}
use Rattle.std.specs.List.{flat_map}
use Rattle.std.specs.FinMap.{entries, get, insert, entries-insert, get-entries, entries_sorted}
use Rattle.bfs_base.specs.Lists.{times, Has, Agree, AreSame, ChangesAt}
use Rattle.bfs_super.specs.Conditions.{IsValid}
use Rattle.bfs_super.specs.Geometry.{geometry_of}
use Rattle.bfs_super.specs.declared.geometry.Geometry.{Geometry}
use Rattle.bfs_super.specs.declared.sup.Super.{Super}
use Rattle.bfs_bitmap.specs.Runs.{Room, per_block}
use Rattle.bfs_inode.specs.Inode.{inode_at, stream_at}
use Rattle.bfs_txn.specs.Told.{with_block, StaysChanged}
use Rattle.bfs_stream.specs.Told.{contents}
use Rattle.bfs_stream.proofs.Doubles.{times-append}
use Rattle.bfs_stream.proofs.Finish.{counted_same, fits_same, marked_same}
use Rattle.bfs_tree.specs.declared.call.Kind.{Kind}
use Rattle.bfs_tree.specs.declared.call.Kind.TheVariants.{File, Dir, Link}
use Rattle.bfs_tree.specs.Trees.{Node, Tree, IsNode, is_file}
use Rattle.bfs_sound.specs.Volumes.{Volume, IsMarked}
use Rattle.bfs_sound.specs.Inodes.{stream_blocks}
use Rattle.bfs_sound.specs.Owners.{node_blocks, data_blocks, file_data, reach, In}
use Rattle.bfs_sound.proofs.Counts.{times_two}
use Rattle.bfs_sound.proofs.Nodes.{node_metadata, node_split, data_blocks_stay}
use Rattle.bfs_sound.proofs.Parts.{in_entries}
use Rattle.bfs_shift.specs.Lists.{Lists}
use Rattle.bfs_shift.specs.Stocked.{Stocked, Shifts}
use Rattle.bfs_shift.specs.Shifts.{volume_in}
use Rattle.bfs_shift.specs.Inodes.{HasBytes, HasStatus}
use Rattle.bfs_shift.specs.Work.{IsAtWork, GoesOn, IsStepped, IsFileStill, MayBeWritten}
use Rattle.bfs_shift.proofs.AtWork.{not_one, not_there, apart_own, no_bits, not_zero}
use Rattle.bfs_shift.proofs.Basics.{some_bytes}
use Rattle.bfs_shift.proofs.Bridge.{outside_bitmap}
use Rattle.bfs_shift.proofs.Files.{has_own, node_unfiled, marks_stay, told_since, entered_since, reserved_stays}
use Rattle.bfs_shift.proofs.Following.{same_or_not}
use Rattle.bfs_shift.proofs.Made.{put_here, put_other}
use Rattle.bfs_shift.proofs.Moving.{all_parts}
use Rattle.bfs_shift.proofs.Renewed.{same_test, other_test}
use Rattle.bfs_shift.proofs.Replaced.{put_swapped}
use Rattle.bfs_rename.proofs.Sited.{KeepsRest, IsSameBut, status_changed, one_shift, only_d, file_stays}
use Rattle.bfs_bytes.specs.Fields.{run_in}
use Rattle.bfs_inode.specs.Refusals.{Names}

file_is : (k : Kind) → is_file k ≡ true → k ≡ File
file_is File e = refl
file_is Dir e = absurd (let bad : false ≡ true = e in cc)
file_is Link e = absurd (let bad : false ≡ true = e in cc)

module _ (s : Super) (v : Room) (m : ℕ → Option (List ℕ)) (tree : Tree) (lists : Lists) (loose : List ℕ) (d : ℕ) (n now : Node) (bytes : List ℕ) (told : Option (ℕ → Option (List ℕ))) (old new : ℕ → Bool)
    (valid : IsValid s) (work : IsAtWork (geometry_of s) v m tree lists loose) (is : IsNode tree d n) (is_told : told ≡ Some (with_block d bytes m))
    (changed : (k : ℕ) → new k ≡ true → (old k ≡ true) ⊎ (k ≡ d)) (kept_changed : StaysChanged old new)
    (kept_in : KeepsRest (contents m d) bytes) (words_in : HasBytes (contents m d) bytes) (stream_in : stream_at bytes ≡ stream_at (contents m d)) (target_in : (inode_at bytes).stream_bytes ≡ (inode_at (contents m d)).stream_bytes)
    (same : IsSameBut n now) (size : now.size ≡ n.size) (target : now.target ≡ n.target) (status : HasStatus (volume_in (geometry_of s) (with_block d bytes m)) d now)
    (parent_in : Names (run_in bytes 44) now.parent (geometry_of s).shift) (apart_root : d ≢ (geometry_of s).root) where
  abbrev geometry : Geometry
  geometry = geometry_of s

  abbrev before : Volume
  before = volume_in geometry m

  abbrev map : ℕ → Option (List ℕ)
  map = with_block d bytes m

  abbrev since : Volume
  since = volume_in geometry map

  abbrev after : Tree
  after = record tree { nodes = insert tree.nodes d now }

  some : 0 < s.block_size
  some = some_bytes s valid

  here : map d ≡ Some bytes
  here = ap (λ (t : Bool). cond t (Some bytes) (m d)) (same_test d)

  here_is : contents map d ≡ bytes
  here_is = ap (λ (o : Option (List ℕ)). unwrap_or o []) here

  elsewhere : (k : ℕ) → k ≢ d → map k ≡ m k
  elsewhere k apart = ap (λ (t : Bool). cond t (Some bytes) (m k)) (other_test k d apart)

  changes : ChangesAt before.blocks (contents map) (d ∷ [])
  changes k none = ap (λ (o : Option (List ℕ)). unwrap_or o []) (elsewhere k (not_there k d none))

  kept : KeepsRest (contents m d) (contents map d)
  kept = subst (λ (b : List ℕ). KeepsRest (contents m d) b) (sym here_is) kept_in

  words : HasBytes (contents m d) (contents map d)
  words = subst (λ (b : List ℕ). HasBytes (contents m d) b) (sym here_is) words_in

  stream_is : stream_at (contents map d) ≡ stream_at (contents m d)
  stream_is = ap stream_at here_is ∙ stream_in

  target_is : (inode_at (contents map d)).stream_bytes ≡ (inode_at (contents m d)).stream_bytes
  target_is = ap (λ (b : List ℕ). (inode_at b).stream_bytes) here_is ∙ target_in

  parent_is : Names (run_in (contents map d) 44) now.parent geometry.shift
  parent_is = subst (λ (b : List ℕ). Names (run_in b 44) now.parent geometry.shift) (sym here_is) parent_in

  stocked : Stocked since after lists loose
  stocked = status_changed before tree lists loose (contents map) d n now work.stocked is some changes kept words stream_is target_is same size target status parent_is apart_root

  shift : Shifts before (contents map) (d ∷ []) (d ∷ [])
  shift = one_shift before tree lists loose (contents map) d n now work.stocked is some changes kept words stream_is target_is same size target status parent_is apart_root

  is_d : (k : ℕ) → Has (d ∷ []) k → k ≡ d
  is_d = only_d before tree lists loose (contents map) d n now work.stocked is some changes kept words stream_is target_is same size target status parent_is apart_root

  -- no other node has the inode's block
  others_apart : (e : ℕ × Node) → In e (entries tree.nodes) → e.0 ≢ d → times d (node_blocks before e) ≡ 0
  others_apart e i apart =
      let p = all_parts before tree lists loose work.stocked d in
      let two : times d (node_blocks before e) + times d (node_blocks before (d, n)) ≤ times d (flat_map (node_blocks before) (entries tree.nodes)) = times_two d (node_blocks before) (entries tree.nodes) e (d, n) i (in_entries tree.nodes d n is) (λ one. apart (ap (λ (x : ℕ × Node). x.0) one)) in
      let own = has_own before d n in
      let split = node_split before d (d, n) in
      let once : times d (reach before tree ++ loose) ≤ 1 = work.stocked.once d in
      omega (arith, p, two, own, split, once)

  agrees : (e : ℕ × Node) → In e (entries tree.nodes) → e.0 ≢ d → Agree before.blocks (contents map) (node_metadata before e)
  agrees e i apart k h = by_id (same_or_not k d)
    where
      by_id : (k ≡ d) ⊎ (k ≢ d) → contents map k ≡ contents m k
      by_id (inr other) = changes k (not_one k d other)
      by_id (inl one) =
          let has : 0 < times k (node_metadata before e) = h in
          let at : 0 < times d (node_metadata before e) = subst (λ (j : ℕ). 0 < times j (node_metadata before e)) one has in
          let split = node_split before d e in
          let none = others_apart e i apart in
          absurd (omega (arith, at, split, none))

  others_stay : (e : ℕ × Node) → In e (entries tree.nodes) → e.0 ≢ d → data_blocks since e ≡ data_blocks before e
  others_stay e i apart = data_blocks_stay before (contents map) geometry.used e.0 e.1 (agrees e i apart)

  own_stays : (t : Bool) → is_file n.kind ≡ t → data_blocks since (d, now) ≡ data_blocks before (d, n)
  own_stays true f =
      ap (λ (t : Bool). cond t (stream_blocks since d) []) (ap is_file same.kind ∙ f)
      ∙ file_stays before tree lists loose (contents map) d n now work.stocked is some changes kept words stream_is target_is same size target status parent_is apart_root (file_is n.kind f)
      ∙ sym (ap (λ (t : Bool). cond t (stream_blocks before d) []) f)
  own_stays false f =
      ap (λ (t : Bool). cond t (stream_blocks since d) []) (ap is_file same.kind ∙ f)
      ∙ sym (ap (λ (t : Bool). cond t (stream_blocks before d) []) f)

  same_data : AreSame (file_data before tree) (file_data since after)
  same_data k =
      let swap : times k (flat_map (data_blocks since) (entries (insert tree.nodes d now))) + times k (data_blocks before (d, n)) ≡ times k (file_data before tree) + times k (data_blocks since (d, now)) =
      ap (λ (es : List (ℕ × Node)). times k (flat_map (data_blocks since) es) + times k (data_blocks before (d, n))) (entries-insert nat_cmp_total tree.nodes d now)
      ∙ put_swapped (data_blocks before) (data_blocks since) d n now k (entries tree.nodes) (entries_sorted tree.nodes) (sym (get-entries tree.nodes d) ∙ is) others_stay in
      let own : times k (data_blocks since (d, now)) ≡ times k (data_blocks before (d, n)) = ap (times k) (own_stays (is_file n.kind) refl) in
      omega (arith, swap, own)

  no_data : times d (file_data before tree) ≡ 0
  no_data = (apart_own s v m tree lists loose d n work is).2

  bytes_stay : (k : ℕ) → Has (file_data before tree) k → contents map k ≡ contents m k
  bytes_stay k h = changes k (not_one k d (λ e.
      let has : 0 < times k (file_data before tree) = h in
      let at : 0 < times d (file_data before tree) = subst (λ (j : ℕ). 0 < times j (file_data before tree)) e has in
      let none = no_data in
      omega (arith, at, none)))

  stream_stays : (id : ℕ) (x : Node) → is_file x.kind ≡ true → data_blocks since (id, x) ≡ data_blocks before (id, x) → stream_blocks since id ≡ stream_blocks before id
  stream_stays id x f stay = sym (ap (λ (t : Bool). cond t (stream_blocks since id) []) f) ∙ stay ∙ ap (λ (t : Bool). cond t (stream_blocks before id) []) f

  files_stay : (id : ℕ) (x : Node) → IsNode tree id x → is_file x.kind ≡ true → IsFileStill after id x × (stream_blocks since id ≡ stream_blocks before id)
  files_stay id x there f = by_id (same_or_not id d)
    where
      by_id : (id ≡ d) ⊎ (id ≢ d) → IsFileStill after id x × (stream_blocks since id ≡ stream_blocks before id)
      by_id (inr other) = (
        record { node = x; there = put_other tree.nodes d now id other ∙ there; kind = refl; size = refl },
        stream_stays id x f (others_stay (id, x) (in_entries tree.nodes id x there) other),
      )
      by_id (inl one) =
          let both : Some x ≡ Some n = sym there ∙ ap (get tree.nodes) one ∙ is in
          let node_is : x ≡ n = cc in
          let file : is_file n.kind ≡ true = ap (λ (y : Node). is_file y.kind) (sym node_is) ∙ f in (
            record {
              node = now;
              there = ap (get (insert tree.nodes d now)) one ∙ put_here tree.nodes d now;
              kind = same.kind ∙ ap (λ (y : Node). y.kind) (sym node_is);
              size = size ∙ ap (λ (y : Node). y.size) (sym node_is);
            },
            subst (λ (j : ℕ). stream_blocks since j ≡ stream_blocks before j) (sym one)
                (file_stays before tree lists loose (contents map) d n now work.stocked is some changes kept words stream_is target_is same size target status parent_is apart_root (file_is n.kind file)),
          )

  stays : (b : ℕ) → per_block v * (b - 1) < v.blocks → map b ≡ m b
  stays b low = elsewhere b (λ e.
      let out : v.blocks ≤ per_block v * (d - 1) = outside_bitmap geometry v d work.volume some (not_zero s v m tree lists loose d n work is) (no_bits s v m tree lists loose d n work is) in
      let at : per_block v * (d - 1) < v.blocks = subst (λ (j : ℕ). per_block v * (j - 1) < v.blocks) e low in
      omega (arith, out, at))

  told_here : (k : ℕ) → k ≡ d → IsSome (map k)
  told_here k e = subst (λ (o : Option (List ℕ)). IsSome o) (sym (ap map e ∙ here)) refl

  work_now : IsAtWork geometry v map after lists loose
  work_now = record {
    volume = work.volume;
    fits = fits_same v m map stays work.fits;
    counted = counted_same v m map (λ k low. marked_same v m map stays k low) work.counted;
    stocked = stocked;
    told = told_since geometry m map tree after lists lists loose loose (d ∷ []) (d ∷ []) work.stocked stocked shift same_data work.told (λ k none. inl (elsewhere k (not_there k d none)))
        (λ k h none. told_here k (is_d k h)) (λ k. omega arith);
  }

  d_reached : 0 < times d (reach before tree)
  d_reached = (apart_own s v m tree lists loose d n work is).3

  was_reached : (k : ℕ) → Has (d ∷ []) k → times k loose ≡ 0 → 0 < times k (reach before tree)
  was_reached k h none = subst (λ (j : ℕ). 0 < times j (reach before tree)) (sym (is_d k h)) d_reached

  d_marked : (k : ℕ) → Has (d ∷ []) k → IsMarked before k
  d_marked k h = subst (λ (j : ℕ). IsMarked before j) (sym (is_d k h)) ((work.stocked.marks d).1 (let r = d_reached in let a = times-append d (reach before tree) loose in let t : 0 < times d (reach before tree ++ loose) = omega (arith, r, a) in t))

  goes_on : GoesOn geometry v v m map tree after old new
  goes_on = record {
    rest = refl;
    marked = marks_stay before (contents map) (d ∷ []) (d ∷ []) shift (λ k h. h);
    files = files_stay;
    same_data = same_data;
    bytes = bytes_stay;
    written = λ k h. by_cause k (changed k h);
    kept = kept_changed;
    entered = entered_since geometry m map tree after lists lists loose loose (d ∷ []) (d ∷ []) work.stocked stocked shift same_data work.told (λ k none. inl (elsewhere k (not_there k d none)))
        (λ k h none. told_here k (is_d k h)) (λ k. omega arith) new (λ k h left none. let has : 0 < times k (d ∷ []) = h in absurd (omega (arith, has, none))) was_reached;
    reserved = reserved_stays before (contents map) (d ∷ []) (d ∷ []) v m shift d_marked (λ k h none. let has : 0 < times k (d ∷ []) = h in absurd (omega (arith, has, none)));
  }
    where
      by_cause : (k : ℕ) → (old k ≡ true) ⊎ (k ≡ d) → (old k ≡ true) ⊎ (MayBeWritten since after k)
      by_cause k (inl e) = inl e
      by_cause k (inr e) = inr (subst (λ (j : ℕ). MayBeWritten since after j) (sym e) (node_unfiled since after lists loose stocked d now (put_here tree.nodes d now)))

  pub sited_step : IsStepped geometry v v m tree after lists loose told old new
  sited_step = record { map = map; is = is_told; work = work_now; goes_on = goes_on }
