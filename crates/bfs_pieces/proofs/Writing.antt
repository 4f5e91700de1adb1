-- A write of one block, whole or a part of it, over Core and the known bytes.
use Rattle.std.proofs.Common.{◌≡◌, inl, ⊎_elim, ◌<◌, ◌≤◌, ◌+◌, ◌*◌, ◌%◌, ℕ, List, length, Option, Some, None, Result, Ok, Err, OnOk, OnErr, IfSome, IsSome, refl, sym, ◌∙◌, ap, subst, arith}
use Rattle.std.specs.Prelude.{slice_get}
use Rattle.std.proofs.Math.Nat.{mod-lt}
use Rattle.bfs_disk.specs.State.{State, Filled, IsHalfWritten, written}
use Rattle.bfs_disk.specs.Disk.{HalfWritten, told_written}
use Rattle.bfs_disk.specs.Blocks.{AreRead, contents_of}
use Rattle.bfs_super.specs.declared.sup.Super.{Super}
use Rattle.bfs_super.specs.Conditions.{IsValid}
use Rattle.bfs_tree.specs.Histories.{Mounted}
use Rattle.bfs_device.specs.declared.journal.Stop.{Stop}
use Rattle.bfs_device.specs.declared.journal.DeviceFault.{DeviceFault}
use Rattle.bfs_device.specs.Layouts.{layout_of}
use Rattle.bfs_device.specs.Books.{Books, IsOnDisk}
use Rattle.bfs_device.specs.Data.{IsRested}
use Rattle.bfs_device.proofs.Failing.{block_others, half_others}
use Rattle.bfs_device.proofs.Reading.{written_here}
use Rattle.bfs_device.proofs.Sizes.{sizes}
use Rattle.bfs_core.specs.Spaces.{SpaceView, IsFaceData}
use Rattle.bfs_core.specs.Cores.{Core, newest_map}
use Rattle.bfs_core.specs.KnownBytes.{HasKnown, HasKnownIn}
use Rattle.bfs_core.specs.Moments.{Adoption, DeviceWrites}
use Rattle.bfs_core.proofs.Halves.{known_half, written_half}
use Rattle.bfs_core.proofs.Onward.{same_size}
use Rattle.bfs_device_blocks.specs.Lent.{AreSized, HasCore, IsBehindEntry, IsWrittenOver}
use Rattle.bfs_device_blocks.proofs.Facing.{written_newest}
use Rattle.bfs_device_blocks.proofs.Holding.{hold_written}
use Rattle.bfs_pieces.specs.Parts.{IsClear, IsPartOf, MayWrite, TellsBut, ReadsBut}
use Rattle.bfs_pieces.proofs.Parting.{patched, patched_else, patched_part}

-- ---- what the disk has after it

pub one_told : (told : Option State) (a b : State) → told ≡ Some a → told ≡ Some b → a ≡ b
one_told told a b is also = let e : Some a ≡ Some b = sym is ∙ also in cc

-- a block's length is that of its sectors
pub block_long : (s : Super) (bytes : List ℕ) → IsValid s → length bytes ≡ s.block_size → length bytes ≡ 512 * (layout_of s).sectors
block_long s bytes valid long = long ∙ (sizes s valid).0

unmoved_half : (st : State) (at : ℕ) (bytes : List ℕ) → IsHalfWritten st at bytes st
unmoved_half st at bytes = record { size = refl; each = λ k. inl refl }

-- each sector is old or new, whether the write succeeded, failed, or was refused
abbrev pub LeavesHalf : Option State → Option State → ℕ → List ℕ → Type 0
LeavesHalf told after_it at bytes = (st : State) → told ≡ Some st → (next : State) × (after_it ≡ Some next) × IsHalfWritten st at bytes next

pub leaves_half : (stop : Option Stop) (told after_it : Option State) (at : ℕ) (bytes : List ℕ) (result : Result Unit DeviceFault) → OnOk result (after_it ≡ told_written told at bytes)
    → (stop ≡ None → OnErr result (HalfWritten told at bytes after_it)) → (IsSome stop → after_it ≡ told) → LeavesHalf told after_it at bytes
leaves_half stop told after_it at bytes (Ok done) ok failed unmoved st is = (written st at bytes, ok ∙ ap (λ (o : Option State). told_written o at bytes) is, written_half st at bytes)
leaves_half None told after_it at bytes (Err fault) ok failed unmoved st is = subst (λ (o : Option State). HalfWritten o at bytes after_it) is (failed refl)
leaves_half (Some stop) told after_it at bytes (Err fault) ok failed unmoved st is = (st, unmoved refl ∙ is, unmoved_half st at bytes)

-- a disk that told nothing tells nothing after a write
pub silent_written : (stop : Option Stop) (told after_it : Option State) (at : ℕ) (bytes : List ℕ) (result : Result Unit DeviceFault) → OnOk result (after_it ≡ told_written told at bytes)
    → (stop ≡ None → OnErr result (HalfWritten told at bytes after_it)) → (IsSome stop → after_it ≡ told) → told ≡ None → after_it ≡ None
silent_written stop told after_it at bytes (Ok done) ok failed unmoved none = ok ∙ ap (λ (o : Option State). told_written o at bytes) none
silent_written None told after_it at bytes (Err fault) ok failed unmoved none = subst (λ (o : Option State). HalfWritten o at bytes after_it) none (failed refl)
silent_written (Some stop) told after_it at bytes (Err fault) ok failed unmoved none = unmoved refl ∙ none

pub reads_but : (told after_it : Option State) (r block : ℕ) (bytes : List ℕ) → length bytes ≡ 512 * r → LeavesHalf told after_it (r * block) bytes → ReadsBut r block told after_it
reads_but told after_it r block bytes long half st is =
    let got = half st is in
    (got.0, got.1, λ k other. half_others st got.0 (r * block) r k bytes got.2 (λ j lt. block_others r block k j bytes long other lt))

pub reads_written : (told after_it : Option State) (r block : ℕ) (bytes : List ℕ) (result : Result Unit DeviceFault) → length bytes ≡ 512 * r → OnOk result (after_it ≡ told_written told (r * block) bytes) → OnOk result (AreRead after_it r block bytes)
reads_written told after_it r block bytes (Ok done) long ok = subst (λ (o : Option State). AreRead o r block bytes) (sym ok) (by_told told)
  where
    by_told : (o : Option State) → AreRead (told_written o (r * block) bytes) r block bytes
    by_told None = tt
    by_told (Some st) = sym (written_here st r block bytes long)
reads_written told after_it r block bytes (Err fault) long ok = tt

-- ---- Core over a write of a whole block

module _ (t0 : Mounted) (adopted : Adoption) (sp : SpaceView) (b new : Books) (told told' : Option State) (clock clock' : ℕ) (past since : ℕ → List ℕ → Type 0) (block : ℕ) (bytes : List ℕ)
    (writes : DeviceWrites block b new told told' clock clock' past since) (filled : (st : State) → told ≡ Some st → Filled st) (on : (st : State) → told ≡ Some st → IsOnDisk (Some st.size) b.sup)
    (long : length bytes ≡ 512 * (layout_of b.sup).sectors) (half : LeavesHalf told told' ((layout_of b.sup).sectors * block) bytes)
    (core : HasCore t0 adopted sp b told clock past) (ends : AreSized new told') (behind : IsBehindEntry adopted sp) (may : (st : State) → told ≡ Some st → IsFaceData t0 sp (newest_map b st) block × HasKnownIn t0 sp (newest_map b st) block bytes) where
  old : Core t0 sp b core.0.2.0 core.0.0
  old = core.0.2.1

  at_first : (next : State) → told' ≡ Some next → HasKnownIn t0 sp (newest_map b core.0.0) block (contents_of next (layout_of b.sup).sectors block)
  at_first next is =
      let got = half core.0.0 core.0.1 in
      let here = may core.0.0 core.0.1 in
      let left : IsHalfWritten core.0.0 ((layout_of b.sup).sectors * block) bytes next = subst (IsHalfWritten core.0.0 ((layout_of b.sup).sectors * block) bytes) (one_told told' got.0 next got.1 is) got.2 in
      known_half t0 sp b core.0.2.0 core.0.0 next block bytes old here.0 (filled core.0.0 core.0.1) (on core.0.0 core.0.1) long left core.0.2.2 here.1

  in_block : (st next : State) → told ≡ Some st → told' ≡ Some next → HasKnownIn t0 sp (newest_map b st) block (contents_of next (layout_of b.sup).sectors block)
  in_block st next is after_it = subst (λ (s : State). HasKnownIn t0 sp (newest_map b s) block (contents_of next (layout_of b.sup).sectors block)) (one_told told core.0.0 st core.0.1 is) (at_first next after_it)

  tells_but : TellsBut block b new told told'
  tells_but st next is after_it k other =
      let got = writes.right core.0.2.0 (core.0.0, core.0.1, old.right) in
      let here : newest_map new got.0 k ≡ newest_map b core.0.0 k = written_newest b new core.0.0 got.0 block old.steady writes.rests got.2.1 k other in
      ap (λ (s : State). newest_map new s k) (one_told told' next got.0 after_it got.1) ∙ here ∙ ap (λ (s : State). newest_map b s k) (one_told told core.0.0 st core.0.1 is)

  over : IsWrittenOver t0 sp b told told' block bytes
  over = record {
    long = long;
    half = λ st next is after_it.
        let got = half st is in
        subst (IsHalfWritten st ((layout_of b.sup).sectors * block) bytes) (one_told told' got.0 next got.1 after_it) got.2;
    known = λ st is. (may st is).1;
  }

  pub whole_written : HasCore t0 adopted sp new told' clock' since × TellsBut block b new told told'
  whole_written = (hold_written t0 adopted sp b told clock past block new told' clock' since (λ st is. (may st is).0) in_block bytes over ends behind writes core, tells_but)

-- ---- a part of a block

-- where all of a block is clear, no byte of it is known
pub clear_whole : (t0 : Mounted) (sp : SpaceView) (m : ℕ → Option (List ℕ)) (block size : ℕ) (bytes : List ℕ) → 0 < size → sp.sup.block_size ≡ size → IsClear t0 sp m block 0 size → HasKnownIn t0 sp m block bytes
clear_whole t0 sp m block size bytes some same clear id place byte is found = ⊎_elim
    (λ below. absurd (omega (arith, below)))
    (λ above. let low : place % sp.sup.block_size < sp.sup.block_size = mod-lt place (let some' : 0 < sp.sup.block_size = omega (arith, some, same) in some') in absurd (omega (arith, above, low, same)))
    (clear id place byte is found)

-- the block with the part in its place has the known bytes
pub clear_patched : (t0 : Mounted) (sp : SpaceView) (b : Books) (st : State) (block skip : ℕ) (old part : List ℕ) → (fits : skip + length part ≤ length old) → old ≡ contents_of st (layout_of b.sup).sectors block → HasKnown t0 sp b st
    → IsClear t0 sp (newest_map b st) block skip (length part) → HasKnownIn t0 sp (newest_map b st) block (patched old part skip fits)
clear_patched t0 sp b st block skip old part fits reads known clear id place byte is found =
    let has = known id place byte is in
    let same : has.block ≡ block = (let e : Some has.block ≡ Some block = sym has.is ∙ found in cc) in
    patched_else old part skip fits (place % sp.sup.block_size) byte (clear id place byte is found)
    (ap (λ (xs : List ℕ). slice_get xs (place % sp.sup.block_size)) (reads ∙ ap (contents_of st (layout_of b.sup).sectors) (sym same)) ∙ has.byte_is)

-- ---- books that have only rested

pub rested_marks : (b mid : Books) → IsRested b mid → mid.marks ≡ b.marks
rested_marks b mid rests = ap (λ (x : Books). x.marks) rests

pub rested_map : (b mid : Books) (st : State) → IsRested b mid → newest_map mid st ≡ newest_map b st
rested_map b mid st rests = subst (λ (x : Books). newest_map x st ≡ newest_map b st) (sym rests) refl

-- a read in front of a write, or alone, tells what the device told
pub tells_on : (block : ℕ) (b mid new : Books) (told told' after_it : Option State) → IsRested b mid → told' ≡ told → TellsBut block mid new told' after_it → TellsBut block b new told after_it
tells_on block b mid new told told' after_it rests same tells st next is after k other = tells st next (same ∙ is) after k other ∙ ap (λ (m : ℕ → Option (List ℕ)). m k) (rested_map b mid st rests)

pub tells_rested : (block : ℕ) (b mid : Books) (told told' : Option State) → IsRested b mid → told' ≡ told → TellsBut block b mid told told'
tells_rested block b mid told told' rests same st next is after k other =
    ap (λ (s : State). newest_map mid s k) (one_told told next st (sym same ∙ after) is) ∙ ap (λ (m : ℕ → Option (List ℕ)). m k) (rested_map b mid st rests)

pub may_rested : (t0 : Mounted) (sp : SpaceView) (b mid : Books) (told told' : Option State) (block skip n : ℕ) → IsRested b mid → told' ≡ told → MayWrite t0 sp b told block skip n → MayWrite t0 sp mid told' block skip n
may_rested t0 sp b mid told told' block skip n rests same may st is =
    subst (λ (m : ℕ → Option (List ℕ)). IsFaceData t0 sp m block × IsClear t0 sp m block skip n) (sym (rested_map b mid st rests)) (may st (sym same ∙ is))

pub read_rested : (b mid : Books) (told told' : Option State) (block : ℕ) (bytes : List ℕ) → IsRested b mid → told' ≡ told → AreRead told (layout_of b.sup).sectors block bytes → AreRead told' (layout_of mid.sup).sectors block bytes
read_rested b mid told told' block bytes rests same read =
    subst (λ (s : Super). AreRead told' (layout_of s).sectors block bytes) (sym (ap (λ (x : Books). x.sup) rests)) (subst (λ (o : Option State). AreRead o (layout_of b.sup).sectors block bytes) (sym same) read)

-- a block that was written with a part in it has the part
pub part_read : (told : Option State) (r block : ℕ) (was part bytes : List ℕ) (skip : ℕ) (fits : skip + length part ≤ length was) (result : Result Unit DeviceFault) → bytes ≡ patched was part skip fits → OnOk result (AreRead told r block bytes)
    → (st : State) → told ≡ Some st → OnOk result (IsPartOf (contents_of st r block) skip part)
part_read told r block was part bytes skip fits (Err fault) is read st there = tt
part_read told r block was part bytes skip fits (Ok done) is read st there =
    let reads : bytes ≡ contents_of st r block = subst (λ (o : Option State). IfSome o (λ s. bytes ≡ contents_of s r block)) there read in
    subst (λ (xs : List ℕ). IsPartOf xs skip part) (sym is ∙ reads) (patched_part was part skip fits)

-- ---- what a write of a whole block asks

module _ (t0 : Mounted) (adopted : Adoption) (sp : SpaceView) (b : Books) (told : Option State) (clock : ℕ) (past : ℕ → List ℕ → Type 0) (block : ℕ) (core : HasCore t0 adopted sp b told clock past) where
  known_at : (st : State) → told ≡ Some st → HasKnown t0 sp b st
  known_at st is = subst (λ (s : State). HasKnown t0 sp b s) (one_told told core.0.0 st core.0.1 is) core.0.2.2

  -- a part that is the whole block
  pub whole_may : (skip : ℕ) (bytes : List ℕ) → skip ≡ 0 → length bytes ≡ b.sup.block_size → MayWrite t0 sp b told block skip (length bytes) → (st : State) → told ≡ Some st → IsFaceData t0 sp (newest_map b st) block × HasKnownIn t0 sp (newest_map b st) block bytes
  whole_may skip bytes none long may st is =
      let m = may st is in
      let old : Core t0 sp b core.0.2.0 core.0.0 = core.0.2.1 in
      let some : 0 < b.sup.block_size = (let z = (sizes b.sup old.steady.valid).1 in omega (arith, z)) in
      let clear : IsClear t0 sp (newest_map b st) block 0 (length bytes) = subst (λ (n : ℕ). IsClear t0 sp (newest_map b st) block n (length bytes)) none m.1 in
      (m.0, clear_whole t0 sp (newest_map b st) block (length bytes) bytes (omega (arith, some, long)) (sym (same_size sp.sup b.sup old.one.geometry) ∙ sym long) clear)

  -- the block as it was read, with a part of it written over
  pub patch_may : (mid : Books) (told' : Option State) (skip : ℕ) (old part bytes : List ℕ) → IsRested b mid → told' ≡ told → (fits : skip + length part ≤ length old) → AreRead told (layout_of b.sup).sectors block old → bytes ≡ patched old part skip fits
      → MayWrite t0 sp b told block skip (length part) → (st : State) → told' ≡ Some st → IsFaceData t0 sp (newest_map mid st) block × HasKnownIn t0 sp (newest_map mid st) block bytes
  patch_may mid told' skip old part bytes rests same fits read bytes_are may st is =
      let before : told ≡ Some st = sym same ∙ is in
      let m = may st before in
      let reads : old ≡ contents_of st (layout_of b.sup).sectors block = subst (λ (o : Option State). IfSome o (λ s. old ≡ contents_of s (layout_of b.sup).sectors block)) before read in
      let known : HasKnownIn t0 sp (newest_map b st) block bytes =
      subst (HasKnownIn t0 sp (newest_map b st) block) (sym bytes_are) (clear_patched t0 sp b st block skip old part fits reads (known_at st before) m.1) in
      subst (λ (n : ℕ → Option (List ℕ)). IsFaceData t0 sp n block × HasKnownIn t0 sp n block bytes) (sym (rested_map b mid st rests)) (m.0, known)
