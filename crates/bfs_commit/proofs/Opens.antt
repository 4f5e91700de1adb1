-- A piece that a session holds stays as it is over the events of a volume, and over entries of other sessions.
use Rattle.std.proofs.Common.{◌≡◌, ◌≢◌, ◌⊎◌, ◌<◌, ◌≤◌, ◌+◌, ◌/◌, ◌%◌, inl, inr, ⊎_elim, ℕ, zero, suc, List, [], ◌∷◌, length, Bool, true, false, Option, Some, None, Result, Ok, Err, OnErr, IfOk, refl, sym, ◌∙◌, ap, subst, arith}
use Rattle.std.specs.Prelude.{slice_get, slice_index, unwrap_or}
use Rattle.std.specs.List.{All}
use Rattle.std.specs.Option.{option_map}
use Rattle.std.proofs.lemmas.Bool.{cases_lt}
use Rattle.std.specs.declared.alloc.AllocError.{AllocError}
use Rattle.bfs_disk.specs.State.{State}
use Rattle.bfs_super.specs.declared.sup.Super.{Super}
use Rattle.bfs_super.specs.Geometry.{geometry_of}
use Rattle.bfs_stream.specs.Places.{places_at}
use Rattle.bfs_txn.specs.Changed.{newest, or_else}
use Rattle.bfs_txn.specs.Faults.{Counts}
use Rattle.bfs_txn.specs.declared.group.Group.{Group}
use Rattle.bfs_tree.specs.declared.call.Call.{Call}
use Rattle.bfs_tree.specs.declared.call.Call.TheVariants as calls
use Rattle.bfs_tree.specs.declared.reply.Entry.{Entry}
use Rattle.bfs_tree.specs.declared.state.Hold.{Hold}
use Rattle.bfs_tree.specs.Histories.{Mounted, Legal, state_after}
use Rattle.bfs_tree.specs.Steps.{is_done}
use Rattle.bfs_sound.specs.Inodes.{stream_blocks}
use Rattle.bfs_sound.specs.Volumes.{Volume, sizes}
use Rattle.bfs_device.specs.Layouts.{Layout, IsData, layout_of}
use Rattle.bfs_device.specs.Books.{Books}
use Rattle.bfs_device.specs.Data.{IsRested}
use Rattle.bfs_device.specs.Seals.{sealed_with}
use Rattle.bfs_core.specs.Spaces.{SpaceView, IsGroupFor, IsFaceData, face, face_over, released_space, sealed_space}
use Rattle.bfs_core.specs.Cores.{Core, newest_map}
use Rattle.bfs_core.specs.Moments.{DeviceMoves}
use Rattle.bfs_core.proofs.Givens.{fresh_held, held_reserved}
use Rattle.bfs_core.proofs.Knowing.{file_data_of}
use Rattle.bfs_core.proofs.Onward.{same_layout, same_newest}
use Rattle.bfs_core.proofs.Seals.{face_is}
use Rattle.bfs_device_blocks.proofs.Facing.{sealed_newest}
use Rattle.bfs_space.specs.Books.{SpaceBooks, entry_noted, with_note}
use Rattle.bfs_space.specs.Faces.{IsFaceOf, HasEntered, HasReplied, HasOutcome, IsOutcome}
use Rattle.bfs_space.specs.Files.{AreKeptBy}
use Rattle.bfs_space.specs.Holds.{held_by, holds_after}
use Rattle.bfs_space.specs.Places.{piece_blocks}
use Rattle.bfs_space.specs.declared.space.Outcome.{Outcome}
use Rattle.bfs_space.specs.declared.space.Outcome.TheVariants.{Replied, Drain}
use Rattle.bfs_space.proofs.Held.{held_is_after}
use Rattle.bfs_commit.specs.Held.{HasPlaces}
use Rattle.bfs_commit.specs.Holding.{IsOneOf, IsOnFile}
use Rattle.bfs_commit.specs.Open.{OpenView, IsEven, IsLoaded, IsOpen, next_place, told_block}
use Rattle.bfs_commit.specs.Volumes.{AreJoined}
use Rattle.bfs_commit.proofs.Asked.{face_there, same_told}
use Rattle.bfs_commit.proofs.Holding.{held_keep_size, holds_are_on_files, others_stay_held}

-- ---- over what is told

-- what is told after tells the piece's file the same blocks, and the same of each of its places
pub record IsToldAlike (p : OpenView) (sp space : SpaceView) (b new : Books) (was st : State) : Type 0 where
  pub stream : stream_blocks (face space (newest_map new st)) p.hold.id ≡ stream_blocks (face sp (newest_map b was)) p.hold.id
  pub blocks : (i : ℕ) → told_block new st (slice_index p.places i) ≡ told_block b was (slice_index p.places i)

-- a state that is told, and that before it, with the same of the piece
abbrev pub WasTold : OpenView → SpaceView → SpaceView → Books → Books → Option State → State → Type 0
WasTold p sp space b new told st = (was : State) × (told ≡ Some was) × IsToldAlike p sp space b new was st

-- what was read of its next block is what is told there still, where each of its places is told as before
pub loaded_as : (p : OpenView) (size : ℕ) (b new : Books) (told told' : Option State)
    → ((st : State) → told' ≡ Some st → (was : State) × (told ≡ Some was) × (told_block new st (next_place size p) ≡ told_block b was (next_place size p)))
    → (p.loaded ≡ []) ⊎ IsLoaded size p b told → (p.loaded ≡ []) ⊎ IsLoaded size p new told'
loaded_as p size b new told told' before kept = ⊎_elim
    (λ none. inl none)
    (λ k. inr (record { more = k.more; same = λ st is. let w = before st is in k.same w.0 w.1 ∙ sym w.2 }))
    kept

pub open_over : (p : OpenView) (sp space : SpaceView) (b new : Books) (told told' : Option State) → IsOneOf p.hold (held_by space.history) → space.sup ≡ sp.sup → layout_of new.sup ≡ layout_of b.sup
    → ((st : State) → told' ≡ Some st → WasTold p sp space b new told st) → IsOpen p sp b told → IsOpen p space new told'
open_over p sp space b new told told' held sup layout before o = record {
  held = held;
  has = record {
    many = o.has.many ∙ ap (λ (s : Super). piece_blocks s.block_size p.hold.at p.hold.length) (sym sup);
    are = λ st is i lt.
        let w = before st is in
        ap (λ (s : Super). slice_get (stream_blocks (face space (newest_map new st)) p.hold.id) (p.hold.at / s.block_size + i)) sup
        ∙ ap (λ (xs : List ℕ). slice_get xs (p.hold.at / sp.sup.block_size + i)) w.2.stream
        ∙ o.has.are w.0 w.1 i lt;
  };
  blocks = subst (λ (l : Layout). All (IsData l) p.places) (sym layout) o.blocks;
  long = o.long;
  even = subst (λ (s : Super). IsEven s.block_size p) (sym sup) o.even;
  made = λ st is k lt.
      let w = before st is in
      ap (λ (s : Super). slice_get (told_block new st (slice_index p.places ((p.hold.at % s.block_size + k) / s.block_size))) ((p.hold.at % s.block_size + k) % s.block_size)) sup
      ∙ ap (λ (xs : List ℕ). slice_get xs ((p.hold.at % sp.sup.block_size + k) % sp.sup.block_size)) (w.2.blocks ((p.hold.at % sp.sup.block_size + k) / sp.sup.block_size))
      ∙ o.made w.0 w.1 k lt;
  kept = subst (λ (s : Super). (p.loaded ≡ []) ⊎ IsLoaded s.block_size p new told') (sym sup)
      (loaded_as p sp.sup.block_size b new told told' (λ st is. let w = before st is in (w.0, w.1, w.2.blocks ((p.hold.at % sp.sup.block_size + p.done) / sp.sup.block_size))) o.kept);
}

-- room for marks is no part of it
pub open_spare : (p : OpenView) (sp : SpaceView) (b new : Books) (told told' : Option State) → new ≡ record b { spare = new.spare } → told' ≡ told → IsOpen p sp b told → IsOpen p sp new told'
open_spare p sp b new told told' is same o =
    subst (λ (x : Books). IsOpen p sp x told') (sym is) (subst (IsOpen p sp (record b { spare = new.spare })) (sym same) (record { held = o.held; has = record { many = o.has.many; are = o.has.are }; blocks = o.blocks; long = o.long; even = o.even; made = o.made; kept = loaded_as p sp.sup.block_size b (record b { spare = new.spare }) told told (λ st is. (st, is, refl)) o.kept }))

-- ---- events of no session

-- what is told of a device that goes on is what was told before
moved_told : (p : OpenView) (sp : SpaceBooks) (b new : Books) (told told' : Option State) (clock clock' : ℕ) (past since : ℕ → List ℕ → Type 0) → DeviceMoves b new told told' clock clock' past since
    → ((st : State) → told' ≡ Some st → (was : State) × (told ≡ Some was)) → AreJoined sp b told → (st : State) → told' ≡ Some st → WasTold p sp.view sp.view b new told st
moved_told p sp b new told told' clock clock' past since moves before joined st is =
    let was = before st is in
    let s = joined.stands was.0 was.1 in
    let got = moves.right s.touched (was.0, was.1, s.core.right) in
    let e : Some st ≡ Some got.right.0 = sym is ∙ got.right.1 in
    let same : st ≡ got.right.0 = cc in
    let map_is : newest_map new st ≡ newest_map b was.0 = ap (newest_map new) same ∙ same_newest b new was.0 got.right.0 moves.steady moves.ahead got.right.2.1 in (
      was.0,
      was.1,
      record {
        stream = ap (λ (m : ℕ → Option (List ℕ)). stream_blocks (face sp.view m) p.hold.id) map_is;
        blocks = λ i. ap (λ (m : ℕ → Option (List ℕ)). unwrap_or (m (slice_index p.places i)) []) map_is;
      },
    )

-- a call of the device: a step, a read, or room
pub open_moved : (p : OpenView) (sp : SpaceBooks) (b new : Books) (told told' : Option State) (clock clock' : ℕ) (past since : ℕ → List ℕ → Type 0) → DeviceMoves b new told told' clock clock' past since
    → ((st : State) → told' ≡ Some st → (was : State) × (told ≡ Some was)) → AreJoined sp b told → IsOpen p sp.view b told → IsOpen p sp.view new told'
open_moved p sp b new told told' clock clock' past since moves before joined o =
    open_over p sp.view sp.view b new told told' o.held refl (same_layout b.sup new.sup moves.ahead.geometry) (moved_told p sp b new told told' clock clock' past since moves before joined) o

-- the space frees what has left the log
pub open_released : (p : OpenView) (n : ℕ) (sp : SpaceView) (b : Books) (told : Option State) → IsOpen p sp b told → IsOpen p (released_space n sp) b told
open_released p n sp b told o = record { held = o.held; has = record { many = o.has.many; are = o.has.are }; blocks = o.blocks; long = o.long; even = o.even; made = o.made; kept = o.kept }

-- a step, after which it does
pub open_stepped : (p : OpenView) (sp : SpaceBooks) (view : SpaceView) (b new : Books) (told told' : Option State) (clock clock' : ℕ) (past since : ℕ → List ℕ → Type 0) (n : ℕ) → DeviceMoves b new told told' clock clock' past since
    → ((st : State) → told' ≡ Some st → (was : State) × (told ≡ Some was)) → view ≡ released_space n sp.view → AreJoined sp b told → IsOpen p sp.view b told → IsOpen p view new told'
open_stepped p sp view b new told told' clock clock' past since n moves before is joined o =
    subst (λ (v : SpaceView). IsOpen p v new told') (sym is) (open_released p n sp.view new told' (open_moved p sp b new told told' clock clock' past since moves before joined o))

-- ---- a seal

-- behind the end of a list stands 0
pub get_behind : (xs : List ℕ) (i : ℕ) → length xs ≤ i → slice_index xs i ≡ 0
get_behind [] i le = refl
get_behind (x ∷ xs) zero le = absurd (omega (arith, le))
get_behind (x ∷ xs) (suc i) le = get_behind xs i (omega (arith, le))

module _ (t0 : Mounted) (sp : SpaceView) (b : Books) (t : ℕ → Bool) (st : State) (core : Core t0 sp b t st) where
  -- file data is no block of the open group
  not_open : (k : ℕ) → IsFaceData t0 sp (newest_map b st) k → newest sp.group k ≡ None
  not_open k file = by_test (newest sp.group k) refl
    where
      by_test : (o : Option (List ℕ)) → newest sp.group k ≡ o → o ≡ None
      by_test None is = refl
      by_test (Some x) is = absurd (⊎_elim
          (λ meta. file.1 meta)
          (λ fresh. core.space.unmarked k (held_reserved 0 sp.given k (fresh_held 0 sp.given k fresh)) file.0)
          (core.space.own k (λ none. let bad : None ≡ Some x = sym none ∙ is in cc)))

  module _ (g : Group) (group : IsGroupFor sp g) where
    -- so it is told as before
    file_told : (k : ℕ) → IsFaceData t0 sp (newest_map b st) k → told_block (sealed_with b g) st k ≡ told_block b st k
    file_told k file = ap (λ (o : Option (List ℕ)). unwrap_or o []) (sealed_newest t0 sp b t st g core group k ∙ ap (λ (o : Option (List ℕ)). or_else o (newest_map b st k)) (not_open k file))

    zero_told : told_block (sealed_with b g) st 0 ≡ told_block b st 0
    zero_told = refl

    sealed_alike : (p : OpenView) → IsOneOf p.hold (held_by sp.history) → HasPlaces sp b (Some st) p.hold.id p.hold.at p.hold.length p.places → IsToldAlike p sp (sealed_space sp) b (sealed_with b g) st st
    sealed_alike p held has = record {
      stream = ap (λ (v : Volume). stream_blocks v p.hold.id) (face_is t0 sp b t st g core group);
      blocks = λ i. ⊎_elim (low i) (high i) (cases_lt i (length p.places));
    }
      where
        on : IsOnFile (state_after t0 sp.history) p.hold
        on = holds_are_on_files t0 sp.history p.hold core.space.legal (subst (IsOneOf p.hold) (sym (held_is_after t0 sp.history)) held)

        low : (i : ℕ) → i < length p.places → told_block (sealed_with b g) st (slice_index p.places i) ≡ told_block b st (slice_index p.places i)
        low i lt = file_told (slice_index p.places i) (file_data_of t0 sp b t st p.hold.id on.node (p.hold.at / sp.sup.block_size + i) (slice_index p.places i) core on.there on.file (has.are st refl i lt))

        high : (i : ℕ) → length p.places ≤ i → told_block (sealed_with b g) st (slice_index p.places i) ≡ told_block b st (slice_index p.places i)
        high i le = subst (λ (k : ℕ). told_block (sealed_with b g) st k ≡ told_block b st k) (sym (get_behind p.places i le)) zero_told

pub open_sealed : (p : OpenView) (sp : SpaceBooks) (view : SpaceView) (b new : Books) (g : Group) (told : Option State) → IsGroupFor sp.view g → view ≡ sealed_space sp.view → new ≡ sealed_with b g → AreJoined sp b told → IsOpen p sp.view b told → IsOpen p view new told
open_sealed p sp view b new g told group is also joined o =
    subst (λ (v : SpaceView). IsOpen p v new told) (sym is) (subst (λ (x : Books). IsOpen p (sealed_space sp.view) x told) (sym also)
    (open_over p sp.view (sealed_space sp.view) b (sealed_with b g) told told o.held refl refl
    (λ st at. let s = joined.stands st at in
    let has : HasPlaces sp.view b (Some st) p.hold.id p.hold.at p.hold.length p.places = subst (λ (x : Option State). HasPlaces sp.view b x p.hold.id p.hold.at p.hold.length p.places) at o.has in
    (st, at, sealed_alike s.t0 sp.view b s.touched st s.core g group p o.held has)) o))

-- ---- entries of other sessions

by_size : (h : Hold) (call : Call) (xs ys : List ℕ) → ((size : ℕ) → call ≢ calls.SetSize h.id size) → AreKeptBy call h.id xs ys → ys ≡ xs
by_size h call xs ys none (inl same) = same
by_size h call xs ys none (inr other) = absurd (none other.0.0 other.0.1)

-- a call that was entered leaves the blocks of a file of which another session holds a piece
stream_entered : (t0 : Mounted) (old new : SpaceBooks) (m : ℕ → Option (List ℕ)) (session tag now : ℕ) (call : Call) (h : Hold) → HasEntered t0 old new m session tag now call → Legal t0 old.view.history → h.session ≢ session → IsOneOf h (held_by old.view.history)
    → stream_blocks (face new.view m) h.id ≡ stream_blocks (face old.view m) h.id
stream_entered t0 old new m session tag now call h e legal other held = by_done (is_done e.reply) refl
  where
    entry : Entry
    entry = entry_noted old session tag now call e.reply

    before : IsOneOf h (holds_after t0 old.view.history)
    before = subst (IsOneOf h) (sym (held_is_after t0 old.view.history)) held

    since : IsOneOf h (holds_after t0 new.view.history)
    since = subst (IsOneOf h) (sym (held_is_after t0 new.view.history)) (subst (λ (hs : List Entry). IsOneOf h (held_by hs)) (sym e.entered.history) (others_stay_held old.view.history entry h other held))

    was : IsOnFile (state_after t0 old.view.history) h
    was = holds_are_on_files t0 old.view.history h legal before

    is : IsOnFile (state_after t0 new.view.history) h
    is = holds_are_on_files t0 new.view.history h e.entered.sound.legal since

    same_group : new.view.group ≡ old.view.group → stream_blocks (face new.view m) h.id ≡ stream_blocks (face old.view m) h.id
    same_group group = λ i. places_at (sizes (geometry_of (e.entered.same.sup i))) (face_over (group i) m) h.id

    by_done : (d : Bool) → is_done e.reply ≡ d → stream_blocks (face new.view m) h.id ≡ stream_blocks (face old.view m) h.id
    by_done true done = by_size h call (stream_blocks (face old.view m) h.id) (stream_blocks (face new.view m) h.id) (λ size. held_keep_size t0 old.view.history entry h size e.entered.follows before done)
        (e.blocks h.id was.node is.node was.there was.file is.there is.file)
    by_done false undone = same_group (⊎_elim (λ tree. (tree.unchanged undone).0) (λ outside. outside.0) e.caused)

module _ (p : OpenView) (sp space : SpaceBooks) (b new : Books) (told told' : Option State) (session tag now : ℕ) (call : Call) (result : Result Outcome AllocError) (old_counts counts : Counts) (rests : IsRested b new) (same : told' ≡ told)
    (noted : IfOk result (HasOutcome old_counts counts sp space session tag now call)) (unchanged : OnErr result (space ≡ sp))
    (entered : (t0 : Mounted) (m : ℕ → Option (List ℕ)) → option_map (newest_map b) told ≡ Some m → IsFaceOf t0 sp m → IfOk result (IsOutcome t0 sp space m session tag now call)) (other : p.hold.session ≢ session) (joined : AreJoined sp b told) (o : IsOpen p sp.view b told) where
  rested_layout : layout_of new.sup ≡ layout_of b.sup
  rested_layout = ap (λ (x : Books). layout_of x.sup) rests

  rested_alike : (st : State) → told' ≡ Some st → WasTold p sp.view sp.view b new told st
  rested_alike st is = (
    st,
    sym same ∙ is,
    record {
      stream = ap (λ (m : ℕ → Option (List ℕ)). stream_blocks (face sp.view m) p.hold.id) (same_told b new st rests);
      blocks = λ i. ap (λ (m : ℕ → Option (List ℕ)). unwrap_or (m (slice_index p.places i)) []) (same_told b new st rests);
    },
  )

  still : IsOpen p sp.view new told'
  still = open_over p sp.view sp.view b new told told' o.held refl rested_layout rested_alike o

  replied : (r : HasReplied old_counts counts sp space session tag now call)
      → ((t0 : Mounted) (m : ℕ → Option (List ℕ)) → option_map (newest_map b) told ≡ Some m → IsFaceOf t0 sp m → HasEntered t0 sp space m session tag now call) → IsOpen p space.view new told'
  replied r enters = open_over p sp.view space.view b new told told'
      (subst (λ (hs : List Entry). IsOneOf p.hold (held_by hs)) (sym r.history) (others_stay_held sp.view.history (entry_noted sp session tag now call r.reply) p.hold other o.held)) r.same.sup rested_layout
      (λ st is.
      let was : told ≡ Some st = sym same ∙ is in
      let map_is = same_told b new st rests in
      let face_at = face_there sp b told st joined was in
      let e = enters face_at.t0 (newest_map b st) (ap (option_map (newest_map b)) was) face_at.face in (
        st,
        was,
        record {
          stream = ap (λ (m : ℕ → Option (List ℕ)). stream_blocks (face space.view m) p.hold.id) map_is ∙ stream_entered face_at.t0 sp space (newest_map b st) session tag now call p.hold e face_at.face.sound.legal other o.held;
          blocks = λ i. ap (λ (m : ℕ → Option (List ℕ)). unwrap_or (m (slice_index p.places i)) []) map_is;
        },
      )) o

  by_result : (r : Result Outcome AllocError) → IfOk r (HasOutcome old_counts counts sp space session tag now call) → OnErr r (space ≡ sp)
      → ((t0 : Mounted) (m : ℕ → Option (List ℕ)) → option_map (newest_map b) told ≡ Some m → IsFaceOf t0 sp m → IfOk r (IsOutcome t0 sp space m session tag now call)) → IsOpen p space.view new told'
  by_result (Err e) noted unchanged entered = subst (λ (x : SpaceBooks). IsOpen p x.view new told') (sym unchanged) still
  by_result (Ok (Drain back)) noted unchanged entered = subst (λ (x : SpaceBooks). IsOpen p x.view new told') (sym noted.1) still
  by_result (Ok Replied) noted unchanged entered = replied noted entered

  -- a call of another session
  pub open_asked : IsOpen p space.view new told'
  open_asked = by_result result noted unchanged entered

-- an entry of another session that is noted
pub open_noted : (p : OpenView) (sp space : SpaceBooks) (b : Books) (told : Option State) (session : ℕ) (e : Entry) (durable : ℕ) → e.session ≡ session → p.hold.session ≢ session → space ≡ with_note sp session e durable → IsOpen p sp.view b told → IsOpen p space.view b told
open_noted p sp space b told session e durable by other is o = subst (λ (x : SpaceBooks). IsOpen p x.view b told) (sym is) (record {
  held = others_stay_held sp.view.history e p.hold (λ same. other (same ∙ by)) o.held;
  has = record { many = o.has.many; are = o.has.are };
  blocks = o.blocks;
  long = o.long;
  even = o.even;
  made = o.made;
  kept = o.kept;
})
