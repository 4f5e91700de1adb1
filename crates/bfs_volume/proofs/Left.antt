-- What the disk reads as, once nothing waits, is whole with the tree after the entries, and has the bytes that are known.
use Rattle.std.proofs.Common.{◌≡◌, ◌≤◌, ◌<◌, ◌+◌, ◌*◌, ◌/◌, ◌%◌, ⊎_elim, ℕ, List, [], length, drop, Bool, true, false, Option, Some, None, IfSome, Result, Ok, Err, IfErr, OnOk, unwrap_or, refl, sym, ◌∙◌, ap, subst, arith, length-drop}
use Rattle.std.specs.Prelude.{slice_get}
use Rattle.std.proofs.lemmas.Bool.{cond-false, cond-true}
use Rattle.std.proofs.lemmas.List.{length-take-le, take_all}
use Rattle.bfs_base.specs.Images.{block}
use Rattle.bfs_base.specs.Lists.{times}
use Rattle.bfs_base.proofs.Sectors.{sector_part}
use Rattle.bfs_disk.specs.State.{State, Tells, Filled, ReadsAs}
use Rattle.bfs_disk.specs.Blocks.{IsRead, contents_of}
use Rattle.bfs_disk.proofs.Joined.{contents_read, read_once}
use Rattle.bfs_super.specs.declared.sup.Super.{Super}
use Rattle.bfs_super.specs.declared.geometry.Geometry.{Geometry}
use Rattle.bfs_super.specs.Conditions.{natural}
use Rattle.bfs_super.specs.Geometry.{geometry_of}
use Rattle.bfs_super.specs.Layout.{super_at}
use Rattle.bfs_log.specs.Replay.{super_of, blocks_of, log_from, log_to, over}
use Rattle.bfs_log.proofs.Replays.{replayed_empty}
use Rattle.bfs_txn.specs.declared.group.Group.{Group}
use Rattle.bfs_tree.specs.declared.reply.Entry.{Entry}
use Rattle.bfs_tree.specs.Histories.{Mounted, after, state_after}
use Rattle.bfs_sound.specs.Volumes.{Volume}
use Rattle.bfs_sound.specs.Owners.{fixed_blocks}
use Rattle.bfs_sound.specs.Whole.{IsWhole, Recovers}
use Rattle.bfs_replay.proofs.Homes.{image_of_reads}
use Rattle.bfs_device.specs.declared.journal.DeviceFault.{DeviceFault}
use Rattle.bfs_device.specs.declared.journal.DeviceFault.TheVariants.{Disk, Stopped}
use Rattle.bfs_device.specs.declared.journal.Stop.{Stop}
use Rattle.bfs_device.specs.Layouts.{Layout, IsData, is_data, layout_of}
use Rattle.bfs_device.specs.Phases.{Rests}
use Rattle.bfs_device.specs.Books.{Books, IsOnDisk, IsRightAs, Standing, durable_of, last_in, sealed_of, version}
use Rattle.bfs_device.specs.Versions.{upto}
use Rattle.bfs_device.specs.Seals.{used_behind}
use Rattle.bfs_device.specs.Ahead.{geometry_with}
use Rattle.bfs_device.proofs.Sizes.{good, fits_sectors}
use Rattle.bfs_device.proofs.Stepping.{filled_state, on_state}
use Rattle.bfs_core.specs.Spaces.{SpaceView, IsFaceMetadata, face, face_over}
use Rattle.bfs_core.specs.Cores.{Core, masked, newest_map}
use Rattle.bfs_core.specs.Chains.{Image, IsChain, bare, image_in}
use Rattle.bfs_core.specs.KnownBytes.{HasByte, HasBytesOf, HasKnown}
use Rattle.bfs_core.specs.Moments.{Adoption}
use Rattle.bfs_core.proofs.Files.{stream_stays}
use Rattle.bfs_core.proofs.Images.{numbers_of, recovers_now}
use Rattle.bfs_core.proofs.Knowing.{file_data_of}
use Rattle.bfs_core.proofs.Masks.{data_of, masked_at, metadata_data, of_data}
use Rattle.bfs_core.proofs.Onward.{same_layout}
use Rattle.bfs_core.proofs.Openings.{whole_of}
use Rattle.bfs_core.proofs.Pieces.{piece_is_data}
use Rattle.bfs_device_blocks.specs.Lent.{HasCore}
use Rattle.bfs_file_io.specs.Causes.{HasStopCause}
use Rattle.bfs_volume.specs.Closing.{IsChained, IsLeft}
use Rattle.bfs_file_io.specs.Faults.{HasStepCause}
use Rattle.bfs_file_io.specs.Volumes.{AreFitted}

-- a block of an image as the disk reads it
block_read : (st : State) (r b : ℕ) (image : List ℕ) → ReadsAs st image → r * b + r ≤ st.size → IsRead st r b (block r b image)
block_read st r b image reads fits = record {
  long = length-take-le (512 * r) (drop (512 * (r * b)) image) (omega (arith, reads.size, fits, length-drop (512 * (r * b)) image));
  each = λ j lt. sector_part (r * b) j (512 * r) image (omega (arith, lt)) ∙ reads.each (r * b + j) (omega (arith, lt, fits));
}

-- the newest version of a device for which nothing waits is what the disk reads
version_read : (gs : List Group) (left : ℕ) (f : ℕ → List ℕ) (k : ℕ) → gs ≡ [] → over (upto (last_in left gs) gs) f k ≡ f k
version_read gs left f k empty = ap (λ (xs : List Group). over (upto (last_in left xs) xs) f k) empty

module _ (t0 : Mounted) (sp : SpaceView) (b : Books) (t : ℕ → Bool) (st : State) (image : List ℕ) (core : Core t0 sp b t st) (known : HasKnown t0 sp b st) (reads : ReadsAs st image) (filled : Filled st) (on : IsOnDisk (Some st.size) b.sup)
    (going : b.stop ≡ None) (empty : b.groups ≡ []) (group : sp.group ≡ []) (all : length sp.history ≤ durable_of b) where
  rests : Rests b.sup (contents_of st (layout_of b.sup).sectors) t st
  rests = subst (λ (gs : List Group). Standing b.sup gs b.phase (contents_of st (layout_of b.sup).sectors) t st) empty (subst (λ (o : Option Stop). IsRightAs o b t st) going core.right)

  fits : (k : ℕ) → k < (layout_of b.sup).blocks → (layout_of b.sup).sectors * k + (layout_of b.sup).sectors ≤ st.size
  fits k inside = let f = fits_sectors b.sup core.steady.valid k inside in omega (arith, f, on)

  super_is : super_of image ≡ b.sup
  super_is =
      let f = fits 0 (omega (arith, (good b.sup core.steady.valid).inside, (good b.sup core.steady.valid).behind_zero)) in
      ap super_at (reads.each 1 (omega (arith, f, (good b.sup core.steady.valid).two))) ∙ rests.super_reads

  -- its log is empty, and so replay leaves it
  emptied : log_from (super_of image) ≡ log_to (super_of image)
  emptied = subst (λ (s : Super). log_from s ≡ log_to s) (sym super_is) (ap natural core.steady.empty)

  recovers : Recovers image (after t0 sp.history)
  recovers =
      let got = recovers_now t0 sp b t st image core on (image_of_reads st image filled reads) in
      subst (λ (h : List Entry). Recovers image (after t0 h)) (take_all got.0 sp.history (let low = got.1 in omega (arith, low, all))) got.3

  pub image_whole : IsWhole image (after t0 sp.history)
  image_whole = whole_of image image (after t0 sp.history) recovers (replayed_empty image recovers.replayed.valid emptied)

  -- a block of data is as the disk reads it
  block_is : (k : ℕ) → IsData (layout_of b.sup) k → contents_of st (layout_of b.sup).sectors k ≡ blocks_of image k
  block_is k d =
      read_once st (layout_of b.sup).sectors k (contents_of st (layout_of b.sup).sectors k) (block (layout_of b.sup).sectors k image) (contents_read st (layout_of b.sup).sectors k filled (fits k d.1)) (block_read st (layout_of b.sup).sectors k image reads (fits k d.1))
      ∙ ap (λ (s : Super). block (layout_of s).sectors k image) (sym super_is)

  face_is : (k : ℕ) → IsData (layout_of b.sup) k → face_over sp.group (newest_map b st) k ≡ blocks_of image k
  face_is k d =
      ap (λ (ps : List (ℕ × List ℕ)). face_over ps (newest_map b st) k) group
      ∙ ap (λ (o : Option (List ℕ)). unwrap_or o []) (cond-true (is_data (layout_of b.sup) k) (Some (version b st (sealed_of b) k)) None (of_data (layout_of b.sup) k d))
      ∙ version_read b.groups b.left (contents_of st (layout_of b.sup).sectors) k empty
      ∙ block_is k d

  geometry : geometry_of (super_of image) ≡ geometry_with sp.sup sp.used
  geometry =
      let used : sp.used ≡ natural b.sup.used_blocks = core.one.idle group ∙ ap (used_behind (natural b.sup.used_blocks)) empty in
      ap geometry_of super_is ∙ core.one.geometry (natural b.sup.used_blocks) ∙ ap (geometry_with sp.sup) (sym used)

  same : (k : ℕ) → IsFaceMetadata t0 sp (newest_map b st) k → times k (fixed_blocks (face sp (newest_map b st))) ≡ 0 → blocks_of image k ≡ (face sp (newest_map b st)).blocks k
  same k meta apart = sym (face_is k (subst (λ (l : Layout). IsData l k) (sym (same_layout sp.sup b.sup core.one.geometry))
      (metadata_data sp.sup sp.used (face sp (newest_map b st)).blocks (after t0 sp.history) core.space.sound k meta apart)))

  pub image_bytes : HasBytesOf image (record { tree = after t0 sp.history; bytes = (state_after t0 sp.history).known })
  image_bytes id place byte is =
      let has = known id place byte is in
      let file = file_data_of t0 sp b t st id has.file.0 (place / sp.sup.block_size) has.block core has.file.1 has.file.2 has.is in
      let there : (let v : Volume = record { geometry = geometry_with sp.sup sp.used; blocks = blocks_of image } in HasByte v (after t0 sp.history) (blocks_of image) id place byte) = record {
        file = has.file;
        block = has.block;
        is = ap (λ (xs : List ℕ). slice_get xs (place / sp.sup.block_size)) (stream_stays (face sp (newest_map b st)) (blocks_of image) (after t0 sp.history) core.space.sound same id has.file.0 has.file.1 has.file.2) ∙ has.is;
        byte_is = ap (λ (xs : List ℕ). slice_get xs (place % sp.sup.block_size)) (sym (block_is has.block (piece_is_data t0 sp b t st core has.block file))) ∙ has.byte_is;
      } in
      subst (λ (g : Geometry). let v : Volume = record { geometry = g; blocks = blocks_of image } in HasByte v (after t0 sp.history) (blocks_of image) id place byte) (sym geometry) there

  -- Face is what the disk reads, but for block 0 and the log
  layouts : layout_of (super_of image) ≡ layout_of b.sup
  layouts = ap layout_of super_is

  bare_at : (k : ℕ) → face_over sp.group (newest_map b st) k ≡ masked (layout_of (super_of image)) (blocks_of image) k
  bare_at k = by_test (is_data (layout_of b.sup) k) refl
    where
      by_test : (d : Bool) → is_data (layout_of b.sup) k ≡ d → face_over sp.group (newest_map b st) k ≡ masked (layout_of (super_of image)) (blocks_of image) k
      by_test true is =
          let d : IsData (layout_of b.sup) k = data_of (layout_of b.sup) k is in
          face_is k d ∙ sym (masked_at (layout_of (super_of image)) (blocks_of image) k (subst (λ (l : Layout). IsData l k) (sym layouts) d))
      by_test false is =
          ap (λ (ps : List (ℕ × List ℕ)). face_over ps (newest_map b st) k) group
          ∙ ap (λ (o : Option (List ℕ)). unwrap_or o []) (cond-false (is_data (layout_of b.sup) k) (Some (version b st (sealed_of b) k)) None is)
          ∙ sym (cond-false (is_data (layout_of (super_of image)) k) (blocks_of image k) [] (ap (λ (l : Layout). is_data l k) layouts ∙ is))

  pub bare_left : face sp (newest_map b st) ≡ bare (image_in image)
  bare_left = λ i. record { geometry = sym geometry i; blocks = λ k. bare_at k i }

  pub image_left : IsLeft t0 sp.history image
  image_left = record { whole = image_whole; bytes = image_bytes }

-- no block waits where all entries are sealed
none_waits : (t0 : Mounted) (sp : SpaceView) (b : Books) (t : ℕ → Bool) (st : State) → Core t0 sp b t st → AreFitted sp b → length sp.history ≤ durable_of b → sp.group ≡ []
none_waits t0 sp b t st core fitted all =
    let order = numbers_of t0 sp b t st core in
    let most = order.durable in
    let sealed = order.sealed in
    ⊎_elim (λ some. absurd (omega (arith, some, most, sealed, all))) (λ none. none.1) fitted.waits

same_state : (a b : State) → Some a ≡ Some b → a ≡ b
same_state a b e = cc

pub all_left : (t0 : Mounted) (adopted : Adoption) (sp : SpaceView) (history : List Entry) (b : Books) (told : Option State) (size : Option ℕ) (clock : ℕ) (since : ℕ → List ℕ → Type 0) → sp.history ≡ history → IfSome told Filled → IfSome told (λ x. size ≡ Some x.size) → IsOnDisk size b.sup
    → AreFitted sp b → b.stop ≡ None → b.groups ≡ [] → length history ≤ durable_of b → HasCore t0 adopted sp b told clock since → (image : List ℕ) → Tells told (λ st. ReadsAs st image) → IsLeft t0 history image
all_left t0 adopted sp history b told size clock since same filled sized on fitted going empty low has image reads =
    let all : length sp.history ≤ durable_of b = let e = ap length same in omega (arith, e, low) in
    let read : ReadsAs has.0.0 image = subst (λ (x : State). ReadsAs x image) (same_state reads.0 has.0.0 (sym reads.1 ∙ has.0.1)) reads.2 in
    subst (λ (h : List Entry). IsLeft t0 h image) same
    (image_left t0 sp b has.0.2.0 has.0.0 image has.0.2.1 has.0.2.2 read (filled_state told has.0.0 filled has.0.1) (on_state b.sup size told has.0.0 sized on has.0.1) going empty (none_waits t0 sp b has.0.2.0 has.0.0 has.0.2.1 fitted all) all)

-- one image behind each entry, of which the last is what the disk reads where nothing waits
pub all_chained : (t0 : Mounted) (adopted : Adoption) (first : Image) (sp : SpaceView) (history : List Entry) (b : Books) (told : Option State) (size : Option ℕ) (clock : ℕ) (since : ℕ → List ℕ → Type 0) (Well : Type 0) → sp.history ≡ history → IfSome told Filled → IfSome told (λ x. size ≡ Some x.size) → IsOnDisk size b.sup
    → AreFitted sp b → (Well → (b.stop ≡ None) × (b.groups ≡ []) × (length history ≤ durable_of b)) → HasCore t0 adopted sp b told clock since → adopted.first ≡ Some first → IsChained t0 first history told Well
all_chained t0 adopted first sp history b told size clock since Well same filled sized on fitted well has begins =
    let c = has.2.chain first begins has.0.0 has.0.1 in
    record {
      images = c.images;
      chain = subst (λ (h : List Entry). IsChain t0 first h c.images) same c.chain;
      last = λ so image reads.
          let w = well so in
          let low : length sp.history ≤ durable_of b = let e = ap length same in let l = w.2 in omega (arith, e, l) in
          let read : ReadsAs has.0.0 image = subst (λ (x : State). ReadsAs x image) (same_state reads.0 has.0.0 (sym reads.1 ∙ has.0.1)) reads.2 in
          let going : b.stop ≡ None = w.0 in
          ap (λ (h : List Entry). bare (c.images (length h))) (sym same)
          ∙ c.now
          ∙ bare_left t0 sp b has.0.2.0 has.0.0 image has.0.2.1 has.0.2.2 read (filled_state told has.0.0 filled has.0.1) (on_state b.sup size told has.0.0 sized on has.0.1) going w.1 (none_waits t0 sp b has.0.2.0 has.0.0 has.0.2.1 fitted low) low;
    }

-- and of a volume that is given up, one behind each entry
pub some_chained : (t0 : Mounted) (adopted : Adoption) (first : Image) (sp : SpaceView) (history : List Entry) (b : Books) (told after_it : Option State) (clock : ℕ) (since : ℕ → List ℕ → Type 0) → sp.history ≡ history → HasCore t0 adopted sp b told clock since → adopted.first ≡ Some first → IsChained t0 first history after_it ⊥
some_chained t0 adopted first sp history b told after_it clock since same has begins =
    let c = has.2.chain first begins has.0.0 has.0.1 in
    record { images = c.images; chain = subst (λ (h : List Entry). IsChain t0 first h c.images) same c.chain; last = λ bad. absurd bad }

-- what holds on an Ok
pub on_that : {A E : Type 0} (r : Result A E) (P : Type 0) (x : A) → OnOk r P → r ≡ Ok x → P
on_that (Ok y) P x on is = on
on_that (Err e) P x on is = absurd (cc)

-- where two things are so on an Ok, what follows of them is too
pub on_both : {A E : Type 0} (r : Result A E) (P Q R : Type 0) → (P → Q → R) → OnOk r P → OnOk r Q → OnOk r R
on_both (Ok x) P Q R turn p q = turn p q
on_both (Err e) P Q R turn p q = tt

-- why a close has failed, of why its steps have
pub stop_cause : (r : Result Unit DeviceFault) (old new : Option Stop) (faults later : ℕ) → IfErr r (HasStepCause old new faults later) → IfErr r (HasStopCause old faults later)
stop_cause (Ok u) old new faults later cause = tt
stop_cause (Err (Disk before after stops)) old new faults later cause = (cause.0, cause.2, cause.3, cause.4, cause.5)
stop_cause (Err (Stopped durable count)) old new faults later cause = cause.0
