-- A stream without blocks has grown, its blocks were filled, and its size was put.
use Rattle.std.proofs.Common.{◌≡◌, ◌≤◌, ◌<◌, ◌+◌, ◌-◌, ◌*◌, ◌/◌, ◌%◌, ◌^◌, ◌∙◌, ◌≤ℤ◌, pos, ℕ, ℤ, zero, suc, List, [], length, take, drop, Bool, true, Option, unwrap_or, refl, sym, ap, subst, arith, length-append}
use Rattle.std.specs.Prelude.{IsSome}
use Rattle.std.specs.List.{flat_map}
use Rattle.std.proofs.Math.Seq.{take-length}
use Rattle.std.proofs.Math.Nat.{mul-div-le, div-add-mod, mod-lt}
use Rattle.std.proofs.lemmas.Int.{ints}
use Rattle.bfs_base.specs.Lists.{times, Has, Agree}
use Rattle.bfs_super.specs.Conditions.{natural, ceil}
use Rattle.bfs_bitmap.specs.Fills.{IsBitmapBlock}
use Rattle.bfs_bitmap.specs.Runs.{Room}
use Rattle.bfs_stream.specs.Faults.{IsGrowFault}
use Rattle.bfs_stream.specs.Sizes.{Origin, HasSizes}
use Rattle.bfs_stream.specs.Places.{Levels, fields, levels_at, arrays_at, places_at, frame_at, whole_at, bytes_at}
use Rattle.bfs_stream.specs.Told.{contents, AreTold}
use Rattle.bfs_stream.specs.Grown.{HasGrownBy, AreWritten}
use Rattle.bfs_stream.specs.declared.fault.GrowFault.{GrowFault}
use Rattle.bfs_stream.specs.declared.fault.GrowFault.TheVariants as grow
use Rattle.bfs_stream.proofs.Doubles.{times-append}
use Rattle.bfs_stream.proofs.Frames.{has_first, has_right, levels_same}
use Rattle.bfs_stream.proofs.Writes.{wrote_left, wrote_more, wrote_these, wrote_twice}
use Rattle.bfs_stream_pages.specs.Moves.{ChangesFresh, KeepsInode}
use Rattle.bfs_stream_pages.specs.MovesLaws.{with_size, keeps_inode_none, moved_grown, moved_rewritten, moved_twice, owns_now, places_same, whole_same, whole_moves}
use Rattle.bfs_stream_pages.specs.Steps.{Comes, HasSize, IsUndamaged, all_of}
use Rattle.bfs_stream_pages.proofs.Filled.{array_short}
use Rattle.bfs_stream_pages.proofs.Rooms.{dropped_less}
use Rattle.bfs_maps.specs.Mapped.{StreamNow}
use Rattle.bfs_make.specs.Filled.{IsFilled}
use Rattle.bfs_make.proofs.Chunks.{first_none}

-- the stream has grown, and its blocks begin with these bytes
pub record HasStored (o : Origin) (v now : Room) (m : ℕ → Option (List ℕ)) (bytes : List ℕ) (told : Option (ℕ → Option (List ℕ))) (old new : ℕ → Bool) : Type 0 where
  pub comes : Comes o v now 0 m told old new
  pub bytes_are : take (length bytes) (all_of o comes.map) ≡ bytes
  pub enough : length bytes ≤ o.sizes.block_size * length (places_at o.sizes (contents comes.map) o.id)

module _ (o : Origin) (v now : Room) (m : ℕ → Option (List ℕ)) (rest : now ≡ record v { tally = now.tally }) (empty : places_at o.sizes (contents m) o.id ≡ []) (no_size : (fields o.sizes (contents m) o.id).size ≡ pos 0) (told : Option (ℕ → Option (List ℕ))) (old mid : ℕ → Bool) (blocks : ℕ)
    (grown : HasGrownBy o v now m blocks told old mid) where
  abbrev first : ℕ → Option (List ℕ)
  first = grown.grown.2.map

  abbrev all : List ℕ
  all = places_at o.sizes (contents first) o.id

  abbrev frame : List ℕ
  frame = frame_at o.sizes (contents first) o.id

  -- as many blocks as were added
  pub many : length all ≡ grown.count
  many =
      let a : length all ≡ length (places_at o.sizes (contents m) o.id) + length grown.grown.0 = ap length grown.grown.2.places ∙ length-append (places_at o.sizes (contents m) o.id) grown.grown.0 in
      let b : length (places_at o.sizes (contents m) o.id) ≡ 0 = ap length empty in
      let c = grown.grown.1 in
      omega (arith, a, b, c)

  pub few : HasSizes o.sizes → length all ≤ blocks + 4
  few sizes = let a = many in let b = grown.most in let c = array_short o sizes in omega (arith, a, b, c)

  pub room_for : (n : ℕ) → n ≤ o.sizes.block_size * blocks → n ≤ o.sizes.block_size * length all
  room_for n fits =
      let a = many in
      let b = grown.enough in
      let c : o.sizes.block_size * blocks ≤ o.sizes.block_size * length all = wider (let d : blocks ≤ length all = omega (arith, a, b) in d) in
      omega (arith, c, fits)
    where
      wider : blocks ≤ length all → o.sizes.block_size * blocks ≤ o.sizes.block_size * length all
      wider h = grind (arith, h)

  frame_apart : (k : ℕ) → Has frame k → times k all ≡ 0
  frame_apart k has =
      let once = grown.grown.2.owns.once k in
      let parts = times-append k frame all in
      let h : 0 < times k frame = has in
      omega (arith, once, parts, h)

  whole_has : (k : ℕ) → Has all k → Has (whole_at o.sizes (contents first) o.id) k
  whole_has k has = has_right frame all k has

  module _ (bytes : List ℕ) (fits : length bytes ≤ o.sizes.block_size * length all) (told2 : Option (ℕ → Option (List ℕ))) (new : ℕ → Bool) (filled : IsFilled o first bytes told2 mid new) where
    abbrev second : ℕ → Option (List ℕ)
    second = filled.blocks.map

    none_dropped : (k : ℕ) → times k all ≡ 0 → times k (drop 0 all) ≡ 0
    none_dropped k none = let less = dropped_less k 0 all in omega (arith, none, less)

    agree_frame : Agree (contents first) (contents second) frame
    agree_frame k has = ap (λ (x : Option (List ℕ)). unwrap_or x []) (filled.blocks.same k (none_dropped k (frame_apart k has)))

    size_is : (fields o.sizes (contents first) o.id).size ≡ pos 0
    size_is = grown.grown.2.kept.1 ∙ no_size

    levels : levels_at o.sizes (contents second) o.id ≡ with_size (levels_at o.sizes (contents first) o.id) (pos 0)
    levels = levels_same (contents first) (contents second) o.sizes o.id agree_frame ∙ ap (λ (z : ℤ). with_size (levels_at o.sizes (contents first) o.id) z) size_is

    same : (k : ℕ) → times k (whole_at o.sizes (contents first) o.id) ≡ 0 → second k ≡ first k
    same k none = filled.blocks.same k (none_dropped k (let parts = times-append k frame all in omega (arith, none, parts)))

    are_places : AreTold second all
    are_places k has = filled.blocks.are k (subst (λ (l : List ℕ). Has l k) (sym (take-length all)) has)

    are : AreTold second (whole_at o.sizes (contents first) o.id)
    are k has = by_frame (times k frame) refl
      where
        by_frame : (j : ℕ) → times k frame ≡ j → IsSome (second k)
        by_frame zero e = are_places k (let h : 0 < times k (whole_at o.sizes (contents first) o.id) = has in let parts = times-append k frame all in let p : 0 < times k all = omega (arith, h, parts, e) in p)
        by_frame (suc j) e = filled.blocks.kept k (grown.grown.2.owns.stands.told k (let p : 0 < times k frame = omega (arith, e) in p))

    kept : KeepsInode (contents first o.id) (contents second o.id)
    kept = let e = agree_frame o.id (has_first o.id (arrays_at o.sizes (contents first) o.id)) in subst (KeepsInode (contents first o.id)) (sym e) (keeps_inode_none (contents first o.id))

    low_size : pos 0 ≤ℤ pos 0
    low_size = omega (arith, ints)

    high_size : natural (pos 0) ≤ o.sizes.block_size * length all
    high_size = omega arith

    places_are : places_at o.sizes (contents second) o.id ≡ all
    places_are = places_same o now first second grown.grown.2.owns same are (pos 0) levels low_size high_size kept

    whole_is : whole_at o.sizes (contents second) o.id ≡ whole_at o.sizes (contents first) o.id
    whole_is = whole_same o now first second grown.grown.2.owns same are (pos 0) levels low_size high_size kept

    written_first : AreWritten v old mid (whole_at o.sizes (contents first) o.id)
    written_first = wrote_left (IsBitmapBlock v) old mid frame all grown.grown.2.written

    written_then : AreWritten v mid new (whole_at o.sizes (contents first) o.id)
    written_then = wrote_more (IsBitmapBlock v) mid new all (whole_at o.sizes (contents first) o.id) whole_has (wrote_these (IsBitmapBlock v) mid new all filled.blocks.written)

    fresh_now : ChangesFresh o m second new
    fresh_now k h none = by_frame (times k frame) refl
      where
        has : Has (whole_at o.sizes (contents first) o.id) k
        has = subst (λ (l : List ℕ). Has l k) whole_is h

        by_frame : (j : ℕ) → times k frame ≡ j → new k ≡ true
        by_frame (suc j) e = filled.blocks.stays k (grown.grown.2.entered k (let p : 0 < times k frame = omega (arith, e) in p) none)
        by_frame zero e =
            let some : 0 < times k (whole_at o.sizes (contents first) o.id) = has in
            let parts = times-append k frame all in
            let p : 0 < times k all = omega (arith, some, parts, e) in
            filled.blocks.set k (subst (λ (l : List ℕ). Has l k) (sym (take-length all)) p) (ap (times k) (first_none all))

    pub has_stored : HasStored o v now m bytes told2 old new
    has_stored = record {
      comes = record {
        map = second;
        is = filled.blocks.is;
        held = record {
          owns = owns_now o now first second grown.grown.2.owns same are (pos 0) levels low_size high_size kept;
          told = λ k has. are_places k (subst (λ (l : List ℕ). Has l k) places_are has);
          size = ap (λ (l : Levels). l.stream.size) levels;
        };
        moved = moved_twice o v now now m first second (moved_grown o v now m grown.grown.0 told old mid grown.grown.2 rest) (moved_rewritten o now first second grown.grown.2.owns same are (pos 0) levels low_size high_size kept);
        written = subst (AreWritten v old new) (sym whole_is) (wrote_twice (IsBitmapBlock v) old mid new (whole_at o.sizes (contents first) o.id) written_first written_then);
        stays = λ k e. filled.blocks.stays k (grown.grown.2.stays k e);
        fresh = fresh_now;
      };
      bytes_are = ap (λ (l : List ℕ). take (length bytes) (flat_map (contents second) l)) places_are ∙ filled.are;
      enough = subst (λ (l : List ℕ). length bytes ≤ o.sizes.block_size * length l) (sym places_are) fits;
    }

-- and its size is that of the bytes
pub stream_now : (o : Origin) (v now : Room) (m : ℕ → Option (List ℕ)) (bytes : List ℕ) (told told2 : Option (ℕ → Option (List ℕ))) (old mid new : ℕ → Bool) (stored : HasStored o v now m bytes told old mid) → HasSize o now (length bytes) stored.comes.map told2 mid new
    → StreamNow o v now m (λ all. all ≡ bytes) told2 old new
unfolding bytes_at
stream_now o v now m bytes told told2 old mid new stored sized = record {
  map = sized.comes.map;
  is = sized.comes.is;
  held = (length bytes, sized.comes.held);
  bytes = ap (λ (z : ℤ). take (natural z) (all_of o sized.comes.map)) sized.comes.held.size ∙ ap (take (length bytes)) sized.bytes ∙ stored.bytes_are;
  moved = moved_twice o v now now m stored.comes.map sized.comes.map stored.comes.moved sized.comes.moved;
  written = wrote_twice (IsBitmapBlock v) old mid new (whole_at o.sizes (contents sized.comes.map) o.id)
      (wrote_more (IsBitmapBlock v) old mid (whole_at o.sizes (contents stored.comes.map) o.id) (whole_at o.sizes (contents sized.comes.map) o.id) (λ k has. whole_moves o now now stored.comes.map sized.comes.map sized.comes.moved k has) stored.comes.written)
      (subst (λ (x : Room). AreWritten x mid new (whole_at o.sizes (contents sized.comes.map) o.id)) stored.comes.moved.rest sized.comes.written);
  stays = λ k e. sized.comes.stays k (stored.comes.stays k e);
  fresh = λ k has none. by_before k has none (times k (whole_at o.sizes (contents stored.comes.map) o.id)) refl;
}
  where
    by_before : (k : ℕ) → Has (whole_at o.sizes (contents sized.comes.map) o.id) k → times k (whole_at o.sizes (contents m) o.id) ≡ 0 → (j : ℕ) → times k (whole_at o.sizes (contents stored.comes.map) o.id) ≡ j → new k ≡ true
    by_before k has none zero e = sized.comes.fresh k has e
    by_before k has none (suc j) e = sized.comes.stays k (stored.comes.fresh k (let p : 0 < times k (whole_at o.sizes (contents stored.comes.map) o.id) = omega (arith, e) in p) none)

-- a fault without damage is a reason not to have grown
pub undamaged_grow : (o : Origin) (v : Room) (m : ℕ → Option (List ℕ)) (n : ℕ) (fault : GrowFault) → IsUndamaged fault → IsGrowFault o v m n fault
undamaged_grow o v m n (grow.NoRun wanted free) none = absurd none
undamaged_grow o v m n (grow.Full room) none = absurd none
undamaged_grow o v m n (grow.Block fault) fine = fine

-- so many blocks hold so many bytes
pub ceil_enough : (len size : ℕ) → 0 < size → len ≤ size * ceil len size
ceil_enough len size some =
    let d : size * ((len + (size - 1)) / size) + (len + (size - 1)) % size ≡ len + (size - 1) = div-add-mod (len + (size - 1)) size in
    let r : (len + (size - 1)) % size < size = mod-lt (len + (size - 1)) some in
    omega (arith, d, r, some)

pub ceil_few : (len size : ℕ) → 1024 ≤ size → size ≤ 8192 → len < 2 ^ 63 → ceil len size < 2 ^ 63
ceil_few len size long short low =
    let d : size * ((len + (size - 1)) / size) ≤ len + (size - 1) = mul-div-le (len + (size - 1)) size in
    let w : 1024 * ((len + (size - 1)) / size) ≤ size * ((len + (size - 1)) / size) = wider ((len + (size - 1)) / size) in
    omega (arith, d, w, short, low)
  where
    wider : (n : ℕ) → 1024 * n ≤ size * n
    wider n = grind (arith, long)
