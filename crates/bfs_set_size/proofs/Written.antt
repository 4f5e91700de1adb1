-- A file's size was written, with the stamps of its change: its blocks stay.
use Rattle.std.proofs.Common.{◌≡◌, ◌≢◌, ◌≤◌, ◌<◌, ◌+◌, ◌-◌, ◌*◌, ◌/◌, ◌%◌, ◌⊎◌, inl, inr, ℕ, ℤ, pos, List, [], ◌∷◌, ◌++◌, length, refl, sym, ap, ◌∙◌, subst, arith, Bool, true, cond, Option, Some}
use Rattle.std.proofs.lemmas.Int.{ints}
use Rattle.std.specs.Prelude.{IsSome, unwrap_or}
use Rattle.std.specs.FinMap.{insert}
use Rattle.bfs_base.specs.Lists.{times, Has, Agree, ChangesAt}
use Rattle.bfs_super.specs.Conditions.{IsValid, natural}
use Rattle.bfs_super.specs.Geometry.{geometry_of}
use Rattle.bfs_super.specs.declared.geometry.Geometry.{Geometry}
use Rattle.bfs_super.specs.declared.sup.Super.{Super}
use Rattle.bfs_bitmap.specs.Fills.{IsBitmapBlock}
use Rattle.bfs_bitmap.specs.Runs.{Room, per_block}
use Rattle.bfs_inode.specs.Inode.{Inode, Stream, inode_at, stream_at}
use Rattle.bfs_txn.specs.Told.{with_block, StaysChanged}
use Rattle.bfs_stream.specs.Places.{Levels, HasLevels, levels_at, arrays_of, places_of, arrays_at, places_at}
use Rattle.bfs_stream.specs.Sizes.{Sizes}
use Rattle.bfs_stream.specs.Told.{contents}
use Rattle.bfs_stream.proofs.Doubles.{times-append}
use Rattle.bfs_stream.proofs.Finish.{counted_same, fits_same, marked_same}
use Rattle.bfs_stream.proofs.Frames.{agree_left, has_first, levels_but}
use Rattle.bfs_tree.specs.Changes.{changed_at}
use Rattle.bfs_tree.specs.Trees.{Node, Tree, IsNode, is_file}
use Rattle.bfs_tree.specs.declared.call.Kind.{Kind}
use Rattle.bfs_tree.specs.declared.call.Kind.TheVariants.{File}
use Rattle.bfs_sound.specs.Volumes.{Volume, sizes, bitmap_blocks, IsMarked}
use Rattle.bfs_sound.specs.Inodes.{mode_bits, frame_blocks, stream_blocks, inode_blocks}
use Rattle.bfs_sound.specs.Nodes.{HasContent}
use Rattle.bfs_shift.specs.Inodes.{KeepsPlace, HasBytes, HasStatus}
use Rattle.bfs_shift.specs.Lists.{Lists}
use Rattle.bfs_shift.specs.Stocked.{Shifts}
use Rattle.bfs_shift.specs.Shifts.{volume_in}
use Rattle.bfs_shift.specs.Work.{IsAtWork}
use Rattle.bfs_shift.proofs.AtWork.{not_one, just_one, not_there, no_bits, not_zero}
use Rattle.bfs_shift.proofs.Basics.{some_bytes}
use Rattle.bfs_shift.proofs.Bits.{writes_shift}
use Rattle.bfs_shift.proofs.Bridge.{outside_bitmap}
use Rattle.bfs_shift.proofs.Following.{same_or_not}
use Rattle.bfs_shift.proofs.Renewed.{same_test, other_test}
use Rattle.bfs_shift.proofs.Rewritten.{words_same}
use Rattle.bfs_shift.proofs.Widens.{widened}
use Rattle.bfs_leave.specs.Leaving.{IsClear}
use Rattle.bfs_leave.proofs.Owned.{node_owns}
use Rattle.bfs_set_size.specs.Resizing.{Resizes}
use Rattle.bfs_set_size.specs.Sized.{with_size, IsSizeSet, HasSizeWritten}
use Rattle.bfs_set_size.proofs.Refiled.{IsRefiled, streamed, file_kind, file_parts, file_marked, file_once, refiled_work, refiled_resizes}
use Rattle.bfs_set_size.proofs.Steps.{same_longer}

-- with this size in the place of its own, the file's tree is the plain tree's
pub sized_tree : (tree : Tree) (id : ℕ) (n : Node) (size : ℕ) (stamp : ℤ) → IsNode tree id n
    → record tree { nodes = insert tree.nodes id (record n { size = size; modified = stamp; changed = stamp }) } ≡ with_size tree id size stamp
sized_tree tree id n size stamp is = sym (ap (λ (o : Option Node). record tree { nodes = changed_at (λ (x : Node). record x { size = size; modified = stamp; changed = stamp }) o id tree.nodes }) is)

one_more : (d : ℕ) (l : List ℕ) → times d (d ∷ l) ≡ 1 + times d l
one_more d l = grind arith

-- levels that are the same but for the size
resized_levels : (s : Sizes) (l : Levels) (size : ℕ) → HasLevels s l → size ≤ s.block_size * length (places_of s l) → HasLevels s (record l { stream = record l.stream { size = pos size } })
resized_levels s l size has few = record {
  direct = has.direct;
  indirect = has.indirect;
  in_indirect = has.in_indirect;
  double = has.double;
  arrays = has.arrays;
  in_double = has.in_double;
  direct_range = has.direct_range;
  indirect_range = has.indirect_range;
  double_range = has.double_range;
  size_low = omega (arith, ints);
  size_high = few;
}

sized_arrays : (s : Sizes) (l : Levels) (size : ℕ) → arrays_of s (record l { stream = record l.stream { size = pos size } }) ≡ arrays_of s l
unfolding arrays_of
sized_arrays s l size = refl

module _ (s : Super) (v : Room) (m : ℕ → Option (List ℕ)) (tree : Tree) (lists : Lists) (loose : List ℕ) (id : ℕ) (n : Node) (size : ℕ) (stamp : ℤ) (grows : Bool) (told : Option (ℕ → Option (List ℕ))) (old new : ℕ → Bool)
    (valid : IsValid s) (work : IsAtWork (geometry_of s) v m tree lists loose) (clear : IsClear (geometry_of s) v m) (is : IsNode tree id n) (is_a_file : is_file n.kind ≡ true) (written : IsSizeSet id size stamp m told)
    (changed : (k : ℕ) → new k ≡ true → (old k ≡ true) ⊎ (k ≡ id)) (kept_changed : StaysChanged old new) (few : size ≤ s.block_size * length (stream_blocks (volume_in (geometry_of s) m) id)) where
  abbrev g : Geometry
  g = geometry_of s

  abbrev map : ℕ → Option (List ℕ)
  map = with_block id written.bytes m

  abbrev was : Volume
  was = volume_in g m

  abbrev since : Volume
  since = volume_in g map

  abbrev now : Node
  now = record n { size = size; modified = stamp; changed = stamp }

  abbrev xs : List ℕ
  xs = inode_blocks was id

  some : 0 < s.block_size
  some = some_bytes s valid

  file : n.kind ≡ File
  file = file_kind n.kind is_a_file

  here : map id ≡ Some written.bytes
  here = ap (λ (t : Bool). cond t (Some written.bytes) (m id)) (same_test id)

  here_is : contents map id ≡ written.bytes
  here_is = ap (λ (o : Option (List ℕ)). unwrap_or o []) here

  elsewhere : (k : ℕ) → k ≢ id → map k ≡ m k
  elsewhere k apart = ap (λ (t : Bool). cond t (Some written.bytes) (m k)) (other_test k id apart)

  changes : ChangesAt was.blocks (contents map) (id ∷ [])
  changes k none = ap (λ (o : Option (List ℕ)). unwrap_or o []) (elsewhere k (not_there k id none))

  inode_is : inode_at (contents map id) ≡ record (inode_at (contents m id)) { last_modified_time = stamp; status_change_time = stamp; stream_bytes = (inode_at written.bytes).stream_bytes }
  inode_is = ap inode_at here_is ∙ written.set.inode

  stream_is : stream_at (contents map id) ≡ record (stream_at (contents m id)) { size = pos size }
  stream_is = ap stream_at here_is ∙ written.set.stream

  kept : KeepsPlace (contents m id) (contents map id)
  kept = record {
    magic = ap (λ (i : Inode). i.magic1) inode_is;
    number = ap (λ (i : Inode). i.inode_num) inode_is;
    flags = ap (λ (i : Inode). i.flags) inode_is;
    parent = ap (λ (i : Inode). i.parent) inode_is;
    attributes = ap (λ (i : Inode). i.attributes) inode_is;
    inode_size = ap (λ (i : Inode). i.inode_size) inode_is;
    small_data = ap (λ (i : Inode). i.small_data) inode_is;
  }

  words : HasBytes (contents m id) (contents map id)
  words = subst (λ (b : List ℕ). HasBytes (contents m id) b) (sym here_is) (record { long = (let l = written.long in omega (arith, l)); before = written.before; after = written.after })

  -- its own block is none of the others
  rest_none : times id (arrays_at (sizes g) (contents m) id ++ places_at (sizes g) (contents m) id) ≡ 0
  rest_none =
      let e = one_more id (arrays_at (sizes g) (contents m) id ++ places_at (sizes g) (contents m) id) in
      let o : times id (id ∷ (arrays_at (sizes g) (contents m) id ++ places_at (sizes g) (contents m) id)) ≤ 1 = file_once g v m tree lists loose id n work is file id in
      omega (arith, e, o)

  agree : Agree was.blocks (contents map) (arrays_at (sizes g) (contents m) id ++ places_at (sizes g) (contents m) id)
  agree k h = by_id (same_or_not k id)
    where
      by_id : (k ≡ id) ⊎ (k ≢ id) → contents map k ≡ contents m k
      by_id (inr apart) = changes k (not_one k id apart)
      by_id (inl e) =
          let has : 0 < times id (arrays_at (sizes g) (contents m) id ++ places_at (sizes g) (contents m) id) = subst (λ (j : ℕ). Has (arrays_at (sizes g) (contents m) id ++ places_at (sizes g) (contents m) id) j) e h in
          let z = rest_none in
          absurd (omega (arith, has, z))

  levels_now : levels_at (sizes g) (contents map) id ≡ record (levels_at (sizes g) (contents m) id) { stream = record (stream_at (contents m id)) { size = pos size } }
  levels_now =
      levels_but (contents m) (contents map) (sizes g) id (agree_left (contents m) (contents map) (arrays_at (sizes g) (contents m) id) (places_at (sizes g) (contents m) id) agree) (ap (λ (t : Stream). t.indirect) stream_is) (ap (λ (t : Stream). t.double_indirect) stream_is)
      ∙ ap (λ (t : Stream). record (levels_at (sizes g) (contents m) id) { stream = t }) stream_is

  frames_same : frame_blocks since id ≡ frame_blocks was id
  frames_same =
      ap (λ (l : Levels). id ∷ arrays_of (sizes g) l) levels_now
      ∙ ap (λ (l : List ℕ). id ∷ l) (sized_arrays (sizes g) (levels_at (sizes g) (contents m) id) size)

  blocks_same : inode_blocks since id ≡ xs
  blocks_same =
      ap (λ (l : List ℕ). l ++ places_at (sizes g) (contents map) id) frames_same
      ∙ ap (λ (l : Levels). frame_blocks was id ++ places_of (sizes g) l) levels_now

  streams_same : stream_blocks since id ≡ stream_blocks was id
  streams_same = ap (places_of (sizes g)) levels_now

  content_was : HasContent was id n File
  content_was = subst (λ (k : Kind). HasContent was id n k) file (work.stocked.nodes id n is).content_is

  content_now : HasContent since id now File
  content_now = (
    subst (HasLevels (sizes g)) (sym levels_now) (resized_levels (sizes g) (levels_at (sizes g) (contents m) id) size content_was.0 few),
    sym (ap (λ (t : Stream). natural t.size) stream_is),
    content_was.2,
  )

  status_now : HasStatus since id now
  status_now =
      let h = work.stocked.nodes id n is in
      let mode : mode_bits since id ≡ mode_bits was id = words_same (contents m id) (contents map id) 20 words.before.mode words.after.mode (ap (λ (i : Inode). i.mode) inode_is) in
      record {
        kind = ap (λ (b : ℕ). b / 4096 % 16) mode ∙ h.kind;
        mode = h.mode ∙ sym (ap (λ (b : ℕ). b % 4096) mode);
        uid = h.uid ∙ sym (ap (λ (i : Inode). i.uid) inode_is);
        gid = h.gid ∙ sym (ap (λ (i : Inode). i.gid) inode_is);
        created = h.created ∙ sym (ap (λ (i : Inode). i.create_time) inode_is);
        modified = sym (ap (λ (i : Inode). i.last_modified_time) inode_is);
        changed = sym (ap (λ (i : Inode). i.status_change_time) inode_is);
      }

  is_id : (k : ℕ) → Has (id ∷ []) k → k ≡ id
  is_id k h = by_id (same_or_not k id)
    where
      by_id : (k ≡ id) ⊎ (k ≢ id) → k ≡ id
      by_id (inl e) = e
      by_id (inr apart) = let none = not_one k id apart in let has : 0 < times k (id ∷ []) = h in absurd (omega (arith, none, has))

  has_own : Has xs id
  has_own = let e = one_more id (arrays_at (sizes g) (contents m) id ++ places_at (sizes g) (contents m) id) in let r : 0 < times id (id ∷ (arrays_at (sizes g) (contents m) id ++ places_at (sizes g) (contents m) id)) = omega (arith, e) in r

  own_few : (k : ℕ) → times k (id ∷ []) ≤ times k xs
  own_few k = by_id (same_or_not k id)
    where
      by_id : (k ≡ id) ⊎ (k ≢ id) → times k (id ∷ []) ≤ times k xs
      by_id (inr apart) = let none = not_one k id apart in omega (arith, none)
      by_id (inl e) = subst (λ (j : ℕ). times j (id ∷ []) ≤ times j xs) (sym e) (let o = just_one id in let h : 0 < times id xs = has_own in omega (arith, o, h))

  own_once : (k : ℕ) → times k (id ∷ []) ≤ 1
  own_once k = let a = own_few k in let b = file_once g v m tree lists loose id n work is file k in omega (arith, a, b)

  one_shift : Shifts was (contents map) (id ∷ []) (id ∷ [])
  one_shift = writes_shift was (contents map) (id ∷ []) some changes own_once (λ k h. (
    subst (λ (j : ℕ). IsMarked was j) (sym (is_id k h)) (file_marked g v m tree lists loose id n work is file id has_own),
    ap (λ (j : ℕ). times j (bitmap_blocks g)) (is_id k h) ∙ no_bits s v m tree lists loose id n work is,
  ))

  shift : Shifts was (contents map) xs (inode_blocks since id)
  shift = widened was (contents map) (id ∷ []) (id ∷ []) xs (inode_blocks since id) one_shift
      (λ k. let e : times k (inode_blocks since id) ≡ times k xs = ap (times k) blocks_same in omega (arith, e))
      own_few (file_once g v m tree lists loose id n work is file) (file_marked g v m tree lists loose id n work is file)

  stays : (b : ℕ) → per_block v * (b - 1) < v.blocks → map b ≡ m b
  stays b low = elsewhere b (λ e.
      let out : v.blocks ≤ per_block v * (id - 1) = outside_bitmap g v id work.volume some (not_zero s v m tree lists loose id n work is) (no_bits s v m tree lists loose id n work is) in
      let at : per_block v * (id - 1) < v.blocks = subst (λ (j : ℕ). per_block v * (j - 1) < v.blocks) e low in
      omega (arith, out, at))

  was_frame : (k : ℕ) → Has (frame_blocks since id) k → Has (frame_blocks was id) k
  was_frame k h = subst (λ (l : List ℕ). Has l k) frames_same h

  in_blocks : (k : ℕ) → Has (frame_blocks since id) k → times k xs ≡ 0 → ⊥
  in_blocks k h none =
      let has : 0 < times k (frame_blocks was id) = was_frame k h in
      let p = file_parts g v m tree lists loose id n work is file k in
      omega (arith, has, p, none)

  refiled : IsRefiled g v v m map id grows old new
  refiled = record {
    shift = shift;
    fits = fits_same v m map stays work.fits;
    counted = counted_same v m map (λ k low. marked_same v m map stays k low) work.counted;
    rest = refl;
    standing_is = refl;
    holds = λ k r. r;
    gone = λ k h none. absurd (gone_not k h none);
    back = λ k r. inl r;
    fresh = λ k h none. absurd (gone_not k (subst (λ (l : List ℕ). Has l k) blocks_same h) (ap (times k) blocks_same ∙ none));
    frame_told = λ k h. told_at k (was_frame k h) (same_or_not k id);
    stays = λ k none. inl (elsewhere k (λ e. let z : times id (frame_blocks since id) ≡ 0 = subst (λ (j : ℕ). times j (frame_blocks since id) ≡ 0) e none in let o = one_more id (arrays_at (sizes g) (contents map) id) in let w : times id (id ∷ arrays_at (sizes g) (contents map) id) ≡ 0 = z in omega (arith, w, o)));
    same_data = λ k h. data_stays k (subst (λ (l : List ℕ). Has l k) streams_same h);
    written = λ k h. by_cause k (changed k h);
    kept = kept_changed;
    entered = λ k h none. absurd (in_blocks k h none);
    frame_was = λ k h there. was_frame k h;
    data_was = λ k h. inl (subst (λ (l : List ℕ). Has l k) streams_same h);
    longer = same_longer grows (stream_blocks was id) (stream_blocks since id) streams_same;
  }
    where
      gone_not : (k : ℕ) → Has xs k → times k (inode_blocks since id) ≡ 0 → ⊥
      gone_not k h none = let has : 0 < times k xs = h in let z : times k xs ≡ 0 = sym (ap (times k) blocks_same) ∙ none in omega (arith, has, z)

      told_at : (k : ℕ) → Has (frame_blocks was id) k → (k ≡ id) ⊎ (k ≢ id) → IsSome (map k)
      told_at k h (inl e) = subst (λ (o : Option (List ℕ)). IsSome o) (sym (ap map e ∙ here)) refl
      told_at k h (inr apart) = subst (λ (o : Option (List ℕ)). IsSome o) (sym (elsewhere k apart)) ((node_owns s v m tree lists loose id n valid work is (streamed was id n file)).stands.told k h)

      data_stays : (k : ℕ) → Has (stream_blocks was id) k → contents map k ≡ contents m k
      data_stays k h = agree k (
          let has : 0 < times k (stream_blocks was id) = h in
          let a = times-append k (arrays_at (sizes g) (contents m) id) (places_at (sizes g) (contents m) id) in
          let r : 0 < times k (arrays_at (sizes g) (contents m) id ++ places_at (sizes g) (contents m) id) = omega (arith, has, a) in
          r)

      by_cause : (k : ℕ) → (old k ≡ true) ⊎ (k ≡ id) → (old k ≡ true) ⊎ (IsBitmapBlock v k ⊎ Has (frame_blocks since id) k)
      by_cause k (inl e) = inl e
      by_cause k (inr e) = inr (inr (subst (λ (j : ℕ). Has (frame_blocks since id) j) (sym e) (has_first id (arrays_at (sizes g) (contents map) id))))

  work_then : IsAtWork g v map (record tree { nodes = insert tree.nodes id now }) lists loose
  work_then = refiled_work g v v m map tree lists loose id n now grows old new some work clear is file kept words (record { kind = refl; name = refl; parent = refl; attributes = refl }) status_now content_now refiled

  resizes_then : Resizes g v v m map tree (record tree { nodes = insert tree.nodes id now }) id grows old new
  resizes_then = refiled_resizes g v v m map tree lists loose id n now grows old new some work clear is file kept words (record { kind = refl; name = refl; parent = refl; attributes = refl }) status_now content_now refiled

  pub sized_step : HasSizeWritten g v m tree lists loose id size stamp grows told old new
  sized_step = record {
    step = record {
      map = map;
      is = written.is;
      work = subst (λ (t : Tree). IsAtWork g v map t lists loose) (sized_tree tree id n size stamp is) work_then;
      resizes = subst (λ (t : Tree). Resizes g v v m map tree t id grows old new) (sized_tree tree id n size stamp is) resizes_then;
    };
    same = streams_same;
  }
