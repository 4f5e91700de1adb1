-- What the laws of pages come to for those of a stream.
use Rattle.std.proofs.Common.{◌≡◌, ◌≤◌, ◌*◌, ◌∙◌, inl, ℕ, List, [], length, take, Bool, true, false, Option, Some, None, IfSome, unwrap_or, refl, sym, ap, subst, arith}
use Rattle.std.specs.Prelude.{IsSome}
use Rattle.std.specs.Option.{option_map}
use Rattle.std.proofs.lemmas.List.{length-take-le}
use Rattle.std.proofs.Props.{props}
use Rattle.std.proofs.Math.Logic.{∥∥₁_elim, ∥∥₁_map}
use Rattle.bfs_super.specs.Conditions.{natural}
use Rattle.bfs_bitmap.specs.Fills.{IsBitmapBlock}
use Rattle.bfs_bitmap.specs.Runs.{Room}
use Rattle.bfs_txn.specs.Told.{AreSized}
use Rattle.bfs_txn.specs.Faults.{Counts, AreLater}
use Rattle.bfs_txn.specs.Pages.{HasLength}
use Rattle.bfs_txn.specs.declared.fault.BlockFault.{BlockFault}
use Rattle.bfs_txn.specs.declared.fault.BlockFault.TheVariants.{Disk, Stopped, Damaged, NoMemory}
use Rattle.bfs_stream.specs.Sizes.{Origin}
use Rattle.bfs_stream.specs.Places.{places_at, whole_at, bytes_at}
use Rattle.bfs_stream.specs.Told.{contents, AreTold}
use Rattle.bfs_stream.specs.Grown.{AreWritten}
use Rattle.bfs_stream.specs.Faults.{IsGrowCause, IsCauseIn}
use Rattle.bfs_stream.specs.declared.fault.GrowFault.{GrowFault}
use Rattle.bfs_stream.specs.declared.fault.GrowFault.TheVariants as grow
use Rattle.bfs_stream.proofs.Arrays.{later_twice}
use Rattle.bfs_stream.proofs.Writes.{wrote_none, wrote_more, wrote_twice, changed_twice, later_none}
use Rattle.bfs_stream_pages.specs.Held.{Held, IsReadable, known, stream_of}
use Rattle.bfs_stream_pages.specs.Moves.{ChangesFresh, Moved}
use Rattle.bfs_stream_pages.specs.Causes.{IsReadCause, HasFailed, HasCause, IsPageCause}
use Rattle.bfs_stream_pages.specs.Goes.{IsRead, OnlyReads, HasMoved, HasFault, GoesOn}
use Rattle.bfs_stream_pages.specs.Steps.{all_of}
use Rattle.bfs_stream_pages.specs.BytesLaws.{AreBlocks, length_all}
use Rattle.bfs_stream_pages.specs.MovesLaws.{fresh_none, fresh_twice, moved_none, moved_twice, stays_twice, whole_moves}

-- nothing has happened
pub goes_same : (o : Origin) (v : Room) (long : ℕ) (told : Option (ℕ → Option (List ℕ))) (failed : Option GrowFault) (old : ℕ → Bool) (counts : Counts) → GoesOn o v v long long told told failed failed old old counts counts
goes_same o v long told failed old counts = record {
  rest = refl;
  moved = by_told told;
  fault = by_failed failed;
  changed = λ k is. inl is;
  stays = λ k is. is;
  later = later_none counts;
}
  where
    by_told : (told : Option (ℕ → Option (List ℕ))) → HasMoved o v v long long told told failed old old
    by_told None = tt
    by_told (Some m) = λ held. (held, (moved_none o v m held.owns, wrote_none (IsBitmapBlock v) old old (whole_at o.sizes (contents m) o.id) refl, fresh_none o m m old refl))

    by_failed : (failed : Option GrowFault) → HasFault o v long told failed failed counts counts
    by_failed None = tt
    by_failed (Some fault) = (refl, refl)

-- a reason for a fault behind some calls is one before them
pub reason_before : (o : Origin) (v now : Room) (m map : ℕ → Option (List ℕ)) (fault : GrowFault) → Moved o v now m map → HasFailed o now map fault → HasFailed o v m fault
reason_before o v now m map fault moved failed = record { now = failed.now; map = failed.map; moved = moved_twice o v now failed.now m map failed.map moved failed.moved; why = failed.why }

-- a cause between two later moments is one from an earlier one on
cause_longer : (n0 n1 n2 : Counts) → AreLater n0 n1 → (fault : BlockFault) → IsCauseIn n1 n2 fault → IsCauseIn n0 n2 fault
cause_longer n0 n1 n2 later (Disk before after) cause = (let a = later.faults in let b = cause.0 in omega (arith, a, b), cause.1, cause.2)
cause_longer n0 n1 n2 later (Stopped durable faults) cause = cause
cause_longer n0 n1 n2 later (Damaged block) cause = tt
cause_longer n0 n1 n2 later NoMemory cause = tt

pub grow_longer : (n0 n1 n2 : Counts) → AreLater n0 n1 → (fault : GrowFault) → IsGrowCause 1 n1 n2 fault → IsGrowCause 1 n0 n2 fault
grow_longer n0 n1 n2 later (grow.NoRun wanted free) cause = tt
grow_longer n0 n1 n2 later (grow.Full room) cause = cause
grow_longer n0 n1 n2 later (grow.Block fault) cause = cause_longer n0 n1 n2 later fault cause

no_fault : false ≡ true → ⊥
no_fault bad = cc

-- a cause behind some calls of which none failed to add a page is one before them
caused_before : (o : Origin) (v now : Room) (l0 l1 : ℕ) (told told1 : Option (ℕ → Option (List ℕ))) (c0 c1 : ℕ → Bool) (n0 n1 n2 : Counts) (fault : GrowFault) → HasMoved o v now l0 l1 told told1 None c0 c1 → AreLater n0 n1 → HasCause o now l1 told1 n1 n2 fault → HasCause o v l0 told n0 n2 fault
caused_before o v now l0 l1 told told1 c0 c1 n0 n1 n2 fault moved later cause = record {
  below = grow_longer n0 n1 n2 later fault cause.below;
  reason = by_told told told1 moved cause.reason;
}
  where
    further : (m mid : ℕ → Option (List ℕ)) → Moved o v now m mid → HasFailed o now mid fault → HasFailed o v m fault
    further m mid moved failed = reason_before o v now m mid fault moved failed

    by_told : (t t1 : Option (ℕ → Option (List ℕ))) → HasMoved o v now l0 l1 t t1 None c0 c1 → IfSome t1 (λ m. Held o now l1 m → HasFailed o now m fault) → IfSome t (λ m. Held o v l0 m → HasFailed o v m fault)
    by_told None t1 a b = tt
    by_told (Some m) None a b = absurd (no_fault a)
    by_told (Some m) (Some mid) a b = λ held. let x = a held in further m mid x.1.0 (b x.0)

-- a fault that was there stays
fault_stays : (o : Origin) (v : Room) (long : ℕ) (told : Option (ℕ → Option (List ℕ))) (failed now : Option GrowFault) (old new : Counts) → HasFault o v long told failed now old new → IsSome failed → IsSome now
fault_stays o v long told (Some fault) now old new has some = subst (λ (f : Option GrowFault). IsSome f) (sym has.0) refl
fault_stays o v long told None now old new has none = let bad : false ≡ true = none in cc

-- some calls, and then some
pub goes_twice : (o : Origin) (v now later : Room) (l0 l1 l2 : ℕ) (told told1 told2 : Option (ℕ → Option (List ℕ))) (f0 f1 f2 : Option GrowFault) (c0 c1 c2 : ℕ → Bool) (n0 n1 n2 : Counts)
    → GoesOn o v now l0 l1 told told1 f0 f1 c0 c1 n0 n1 → GoesOn o now later l1 l2 told1 told2 f1 f2 c1 c2 n1 n2 → GoesOn o v later l0 l2 told told2 f0 f2 c0 c2 n0 n2
goes_twice o v now later l0 l1 l2 told told1 told2 f0 f1 f2 c0 c1 c2 n0 n1 n2 one two = record {
  rest = two.rest ∙ ap (λ (x : Room). record x { tally = later.tally }) one.rest;
  moved = by_told told told1 told2 one.moved two.moved two.fault;
  fault = by_failed f0 f1 f2 one.fault one.moved two.fault;
  changed = changed_twice o.sizes v now c0 c1 c2 one.rest one.changed two.changed;
  stays = stays_twice c0 c1 c2 one.stays two.stays;
  later = later_twice n0 n1 n2 one.later two.later;
}
  where
    both : (m mid map : ℕ → Option (List ℕ)) → Moved o v now m mid × AreWritten v c0 c1 (whole_at o.sizes (contents mid) o.id) × ChangesFresh o m mid c1 → Moved o now later mid map × AreWritten now c1 c2 (whole_at o.sizes (contents map) o.id) × ChangesFresh o mid map c2
        → Moved o v later m map × AreWritten v c0 c2 (whole_at o.sizes (contents map) o.id) × ChangesFresh o m map c2
    both m mid map a b = (
      moved_twice o v now later m mid map a.0 b.0,
      wrote_twice (IsBitmapBlock v) c0 c1 c2 (whole_at o.sizes (contents map) o.id)
          (wrote_more (IsBitmapBlock v) c0 c1 (whole_at o.sizes (contents mid) o.id) (whole_at o.sizes (contents map) o.id) (λ k has. whole_moves o now later mid map b.0 k has) a.1)
          (subst (λ (x : Room). AreWritten x c1 c2 (whole_at o.sizes (contents map) o.id)) one.rest b.1),
      fresh_twice o m mid map c1 c2 a.2 b.2 two.stays,
    )

    by_told : (t t1 t2 : Option (ℕ → Option (List ℕ))) → HasMoved o v now l0 l1 t t1 f1 c0 c1 → HasMoved o now later l1 l2 t1 t2 f2 c1 c2 → HasFault o now l1 t1 f1 f2 n1 n2 → HasMoved o v later l0 l2 t t2 f2 c0 c2
    by_told None None None a b has = tt
    by_told None None (Some map) a b has = b
    by_told None (Some mid) t2 a b has = absurd a
    by_told (Some m) None None a b has = fault_stays o now l1 None f1 f2 n1 n2 has a
    by_told (Some m) None (Some map) a b has = absurd b
    by_told (Some m) (Some mid) None a b has = b
    by_told (Some m) (Some mid) (Some map) a b has = λ held. let x = a held in let y = b x.0 in (y.0, both m mid map x.1 y.1)

    by_failed : (f0 f1 f2 : Option GrowFault) → HasFault o v l0 told f0 f1 n0 n1 → HasMoved o v now l0 l1 told told1 f1 c0 c1 → HasFault o now l1 told1 f1 f2 n1 n2 → HasFault o v l0 told f0 f2 n0 n2
    by_failed (Some fault) f1 f2 a moved b = let c = subst (λ (f : Option GrowFault). HasFault o now l1 told1 f f2 n1 n2) a.0 b in (c.0, c.1 ∙ a.1)
    by_failed None (Some fault) f2 a moved b = subst (λ (f : Option GrowFault). HasFault o v l0 told None f n0 n2) (sym b.0) (subst (λ (n : Counts). HasCause o v l0 told n0 n fault) (sym b.1) a)
    by_failed None None None a moved b = tt
    by_failed None None (Some fault) a moved b = caused_before o v now l0 l1 told told1 c0 c1 n0 n1 n2 fault moved one.later b

pub cause_before : (o : Origin) (v now : Room) (l0 l1 : ℕ) (told told1 : Option (ℕ → Option (List ℕ))) (f0 f1 : Option GrowFault) (c0 c1 : ℕ → Bool) (n0 n1 n2 : Counts) (fault : GrowFault)
    → GoesOn o v now l0 l1 told told1 f0 f1 c0 c1 n0 n1 → IsPageCause o now l1 told1 f1 n1 n2 fault → IsPageCause o v l0 told f0 n0 n2 fault
cause_before o v now l0 l1 told told1 f0 f1 c0 c1 n0 n1 n2 fault one cause = by_failed f0 f1 one.fault one.moved cause
  where
    by_failed : (f0 f1 : Option GrowFault) → HasFault o v l0 told f0 f1 n0 n1 → HasMoved o v now l0 l1 told told1 f1 c0 c1 → IsPageCause o now l1 told1 f1 n1 n2 fault → IsPageCause o v l0 told f0 n0 n2 fault
    by_failed (Some earlier) f1 a moved b = let c = subst (λ (f : Option GrowFault). IsPageCause o now l1 told1 f n1 n2 fault) a.0 b in (c.0, c.1 ∙ a.1)
    by_failed None (Some earlier) a moved b = subst (λ (f : GrowFault). HasCause o v l0 told n0 n2 f) (sym b.0) (subst (λ (n : Counts). HasCause o v l0 told n0 n earlier) (sym b.1) a)
    by_failed None None a moved b = caused_before o v now l0 l1 told told1 c0 c1 n0 n1 n2 fault moved one.later b

-- the stream's blocks have a block's length
pub are_blocks : (o : Origin) (size : ℕ) (m : ℕ → Option (List ℕ)) → AreTold m (places_at o.sizes (contents m) o.id) → AreSized size (Some m) → AreBlocks size (contents m) (places_at o.sizes (contents m) o.id)
are_blocks o size m told sized k has = by_block (m k) (told k has) (sized k)
  where
    by_block : (b : Option (List ℕ)) → IsSome b → IfSome b (λ bytes. length bytes ≡ size) → length (unwrap_or b []) ≡ size
    by_block (Some bytes) some long = long
    by_block None none long = let bad : false ≡ true = none in cc

-- told blocks have a block's length
pub sized_of : (size own : ℕ) (told : Option (ℕ → Option (List ℕ))) (m : ℕ → Option (List ℕ)) → own ≡ size → told ≡ Some m → AreSized own told → AreSized size (Some m)
sized_of size own told m same is sized = subst (AreSized size) is (subst (λ (n : ℕ). AreSized n told) same sized)

pub sized_as : (size own : ℕ) (told : Option (ℕ → Option (List ℕ))) → own ≡ size → AreSized own told → AreSized size told
sized_as size own told same sized = subst (λ (n : ℕ). AreSized n told) same sized

pub known_sized : (failed : Option GrowFault) (start : Option (ℕ → Option (List ℕ))) (size own : ℕ) (told : Option (ℕ → Option (List ℕ))) → own ≡ size → AreSized own told → AreSized size (known failed start told)
known_sized (Some fault) start size own told same sized = tt
known_sized None None size own told same sized = tt
known_sized None (Some m) size own told same sized = subst (λ (n : ℕ). AreSized n told) same sized

-- the stream's bytes are the first of those of its blocks
module _ (o : Origin) (long : ℕ) (m : ℕ → Option (List ℕ)) (held : IsReadable o long m) where
  pub reads_stream : stream_of o m ≡ take long (all_of o m)
  unfolding bytes_at
  reads_stream = ap (λ z. take (natural z) (all_of o m)) held.size

  pub reads_fits : long ≤ o.sizes.block_size * length (places_at o.sizes (contents m) o.id)
  reads_fits = let h = held.stands.sound.size_high in subst (λ z. natural z ≤ o.sizes.block_size * length (places_at o.sizes (contents m) o.id)) held.size h

  pub reads_all : AreSized o.sizes.block_size (Some m) → length (all_of o m) ≡ o.sizes.block_size * length (places_at o.sizes (contents m) o.id)
  reads_all sized = length_all o.sizes.block_size (contents m) (places_at o.sizes (contents m) o.id) (are_blocks o o.sizes.block_size m held.told sized)

-- what is held can be read
pub readable : (o : Origin) (v : Room) (long : ℕ) (m : ℕ → Option (List ℕ)) → Held o v long m → IsReadable o long m
readable o v long m held = record { stands = held.owns.stands; told = held.told; size = held.size }

pub stream_is : (o : Origin) (v : Room) (long : ℕ) (m : ℕ → Option (List ℕ)) → Held o v long m → stream_of o m ≡ take long (all_of o m)
stream_is o v long m held = reads_stream o long m (readable o v long m held)

pub long_fits : (o : Origin) (v : Room) (long : ℕ) (m : ℕ → Option (List ℕ)) → Held o v long m → long ≤ o.sizes.block_size * length (places_at o.sizes (contents m) o.id)
long_fits o v long m held = reads_fits o long m (readable o v long m held)

pub all_long : (o : Origin) (v : Room) (long : ℕ) (m : ℕ → Option (List ℕ)) → Held o v long m → AreSized o.sizes.block_size (Some m) → length (all_of o m) ≡ o.sizes.block_size * length (places_at o.sizes (contents m) o.id)
all_long o v long m held = reads_all o long m (readable o v long m held)

-- what is told of a stream that can be read is of its length
pub reads_sized : (o : Origin) (long : ℕ) (told : Option (ℕ → Option (List ℕ))) → ((m : ℕ → Option (List ℕ)) → told ≡ Some m → ∥ IsReadable o long m ∥₁) → AreSized o.sizes.block_size told → HasLength (option_map (stream_of o) told) long
reads_sized o long None held sized = tt
reads_sized o long (Some m) held sized = ∥∥₁_elim (held m refl) (Prim.hlevel props) (λ h. length_is h)
  where
    length_is : IsReadable o long m → length (stream_of o m) ≡ long
    length_is h =
        let all = reads_all o long m h sized in
        let fits = reads_fits o long m h in
        ap length (reads_stream o long m h) ∙ length-take-le long (all_of o m) (omega (arith, all, fits))

-- what is told of the stream is of its length
pub told_sized : (o : Origin) (v : Room) (long : ℕ) (told : Option (ℕ → Option (List ℕ))) → ((m : ℕ → Option (List ℕ)) → told ≡ Some m → ∥ Held o v long m ∥₁) → AreSized o.sizes.block_size told → HasLength (option_map (stream_of o) told) long
told_sized o v long told held sized = reads_sized o long told (λ m is. ∥∥₁_map (held m is) (λ h. readable o v long m h)) sized

-- nothing was read
pub read_same : (v : Room) (long : ℕ) (told : Option (ℕ → Option (List ℕ))) (failed : Option GrowFault) (old : ℕ → Bool) (pairs : ℕ) (counts : Counts) → IsRead v v long long told told failed failed old old pairs pairs counts counts
read_same v long told failed old pairs counts = record {
  room = refl;
  length = refl;
  told = refl;
  failed = refl;
  changed = refl;
  pairs = refl;
  later = later_none counts;
  unasked = λ some. refl;
}

-- reading twice is reading
pub read_twice : (v now later : Room) (l0 l1 l2 : ℕ) (t0 t1 t2 : Option (ℕ → Option (List ℕ))) (f0 f1 f2 : Option GrowFault) (c0 c1 c2 : ℕ → Bool) (p0 p1 p2 : ℕ) (n0 n1 n2 : Counts)
    → IsRead v now l0 l1 t0 t1 f0 f1 c0 c1 p0 p1 n0 n1 → IsRead now later l1 l2 t1 t2 f1 f2 c1 c2 p1 p2 n1 n2 → IsRead v later l0 l2 t0 t2 f0 f2 c0 c2 p0 p2 n0 n2
read_twice v now later l0 l1 l2 t0 t1 t2 f0 f1 f2 c0 c1 c2 p0 p1 p2 n0 n1 n2 one two = record {
  room = two.room ∙ one.room;
  length = two.length ∙ one.length;
  told = two.told ∙ one.told;
  failed = two.failed ∙ one.failed;
  changed = two.changed ∙ one.changed;
  pairs = two.pairs ∙ one.pairs;
  later = later_twice n0 n1 n2 one.later two.later;
  unasked = λ some. two.unasked (subst (λ (f : Option GrowFault). IsSome f) (sym one.failed) some) ∙ one.unasked some;
}

-- the counts alone move on
goes_counts : (o : Origin) (v : Room) (long : ℕ) (told : Option (ℕ → Option (List ℕ))) (failed : Option GrowFault) (old : ℕ → Bool) (counts counts_now : Counts) → AreLater counts counts_now → (IsSome failed → counts_now ≡ counts) → GoesOn o v v long long told told failed failed old old counts counts_now
goes_counts o v long told failed old counts counts_now later unasked =
    let none = goes_same o v long told failed old counts in record { rest = refl; moved = none.moved; fault = by_failed failed unasked; changed = none.changed; stays = none.stays; later = later }
  where
    by_failed : (f : Option GrowFault) → (IsSome f → counts_now ≡ counts) → HasFault o v long told f f counts counts_now
    by_failed None same = tt
    by_failed (Some fault) same = (refl, same refl)

-- what only read goes on
pub read_goes : (o : Origin) (v now : Room) (l0 l1 : ℕ) (s0 s1 t0 t1 : Option (ℕ → Option (List ℕ))) (f0 f1 : Option GrowFault) (c0 c1 : ℕ → Bool) (p0 p1 : ℕ) (n0 n1 : Counts)
    → s1 ≡ s0 → IsRead v now l0 l1 t0 t1 f0 f1 c0 c1 p0 p1 n0 n1 → GoesOn o v now l0 l1 (known f0 s0 t0) (known f1 s1 t1) f0 f1 c0 c1 n0 n1
read_goes o v now l0 l1 s0 s1 t0 t1 f0 f1 c0 c1 p0 p1 n0 n1 start read =
    let same = goes_counts o v l0 (known f0 s0 t0) f0 c0 n0 n1 read.later read.unasked in
    let told : known f1 s1 t1 ≡ known f0 s0 t0 =
    ap (λ (f : Option GrowFault). known f s1 t1) read.failed
    ∙ ap (λ (s : Option (ℕ → Option (List ℕ))). known f0 s t1) start
    ∙ ap (known f0 s0) read.told in
    subst (λ (x : Room). GoesOn o v x l0 l1 (known f0 s0 t0) (known f1 s1 t1) f0 f1 c0 c1 n0 n1) (sym read.room)
    (subst (λ (l : ℕ). GoesOn o v v l0 l (known f0 s0 t0) (known f1 s1 t1) f0 f1 c0 c1 n0 n1) (sym read.length)
    (subst (λ (t : Option (ℕ → Option (List ℕ))). GoesOn o v v l0 l0 (known f0 s0 t0) t f0 f1 c0 c1 n0 n1) (sym told)
    (subst (λ (f : Option GrowFault). GoesOn o v v l0 l0 (known f0 s0 t0) (known f0 s0 t0) f0 f c0 c1 n0 n1) (sym read.failed)
    (subst (λ (c : ℕ → Bool). GoesOn o v v l0 l0 (known f0 s0 t0) (known f0 s0 t0) f0 f0 c0 c n0 n1) (sym read.changed) same))))

-- pages were read, and none had failed to be added
pub read_quiet : (v : Room) (long : ℕ) (failed : Option GrowFault) (told told_now : Option (ℕ → Option (List ℕ))) (old new : ℕ → Bool) (pairs pairs_now : ℕ) (counts counts_now : Counts) → failed ≡ None → told_now ≡ told → new ≡ old → pairs_now ≡ pairs → AreLater counts counts_now
    → IsRead v v long long told told_now failed failed old new pairs pairs_now counts counts_now
read_quiet v long failed told told_now old new pairs pairs_now counts counts_now none same changed as_many later = record {
  room = refl;
  length = refl;
  told = same;
  failed = refl;
  changed = changed;
  pairs = as_many;
  later = later;
  unasked = λ some. let bad : false ≡ true = subst (λ (f : Option GrowFault). IsSome f) none some in cc;
}

-- a reader's calls: none, and some behind others
pub only_none : (long : ℕ) (told : Option (ℕ → Option (List ℕ))) (old : ℕ → Bool) (n : ℕ) (counts : Counts) → OnlyReads long long told told old old n n counts counts
only_none long told old n counts = record { length = refl; told = refl; changed = refl; pairs = refl; later = later_none counts }

pub only_twice : (l0 l1 l2 : ℕ) (t0 t1 t2 : Option (ℕ → Option (List ℕ))) (c0 c1 c2 : ℕ → Bool) (p0 p1 p2 : ℕ) (n0 n1 n2 : Counts) → OnlyReads l0 l1 t0 t1 c0 c1 p0 p1 n0 n1 → OnlyReads l1 l2 t1 t2 c1 c2 p1 p2 n1 n2 → OnlyReads l0 l2 t0 t2 c0 c2 p0 p2 n0 n2
only_twice l0 l1 l2 t0 t1 t2 c0 c1 c2 p0 p1 p2 n0 n1 n2 one two = record {
  length = two.length ∙ one.length;
  told = two.told ∙ one.told;
  changed = two.changed ∙ one.changed;
  pairs = two.pairs ∙ one.pairs;
  later = later_twice n0 n1 n2 one.later two.later;
}

-- the cause behind a reader's calls is one before them
pub only_cause : (l0 l1 : ℕ) (t0 t1 : Option (ℕ → Option (List ℕ))) (c0 c1 : ℕ → Bool) (p0 p1 : ℕ) (n0 n1 n2 : Counts) (fault : GrowFault) → OnlyReads l0 l1 t0 t1 c0 c1 p0 p1 n0 n1 → IsReadCause t1 n1 n2 fault → IsReadCause t0 n0 n2 fault
only_cause l0 l1 t0 t1 c0 c1 p0 p1 n0 n1 n2 fault one cause = record {
  block = cause.block;
  below = grow_longer n0 n1 n2 one.later fault cause.below;
  sound = λ some. cause.sound (subst (λ (t : Option (ℕ → Option (List ℕ))). IsSome t) (sym one.told) some);
}
