-- A call of a space over a device that was lent.
use Rattle.std.proofs.Common.{◌≡◌, ◌≢◌, ◌++◌, inl, ℕ, List, [], ◌∷◌, Bool, true, false, Option, Some, None, Result, Ok, Err, OnErr, OnOk, IfOk, refl, sym, ◌∙◌, ap, subst}
use Rattle.std.specs.Prelude.{◌||◌}
use Rattle.bfs_count.specs.Counts.{nodes_of}
use Rattle.std.specs.List.{list_any}
use Rattle.std.proofs.lemmas.Bool.{true≢false}
use Rattle.bfs_super.specs.declared.sup.Super.{Super}
use Rattle.bfs_device.specs.Ahead.{geometry_with}
use Rattle.std.specs.Option.{option_map}
use Rattle.std.specs.declared.alloc.AllocError.{AllocError}
use Rattle.bfs_disk.specs.State.{State}
use Rattle.bfs_disk.specs.Blocks.{contents_of}
use Rattle.bfs_txn.specs.Changed.{over}
use Rattle.bfs_txn.specs.Faults.{Counts}
use Rattle.bfs_bitmap.specs.Runs.{Fits}
use Rattle.bfs_tree.specs.declared.call.Call.{Call}
use Rattle.bfs_tree.specs.declared.call.Call.TheVariants as calls
use Rattle.bfs_tree.specs.declared.reply.Entry.{Entry}
use Rattle.bfs_tree.specs.Histories.{Mounted, after, is_stop, state_after}
use Rattle.bfs_tree.specs.Steps.{next}
use Rattle.bfs_device.specs.Layouts.{layout_of}
use Rattle.bfs_device.specs.Books.{AreSame, Books}
use Rattle.bfs_device.specs.Data.{IsRested}
use Rattle.bfs_core.specs.Spaces.{SpaceView, Entered}
use Rattle.bfs_core.specs.Cores.{Core, IsKnown, newest_map}
use Rattle.bfs_core.specs.KnownBytes.{HasKnown, KeepsFiles}
use Rattle.bfs_core.specs.Moments.{Adoption, IsLessTouched}
use Rattle.bfs_core.proofs.Calls.{read_ahead, read_stops}
use Rattle.bfs_core.proofs.Knowing.{known_ahead, known_entered}
use Rattle.bfs_core.proofs.Onward.{core_ahead, core_entered, same_size}
use Rattle.bfs_core.specs.Chains.{IsLinked}
use Rattle.bfs_device_blocks.specs.Lent.{AreSized, HasCore}
use Rattle.bfs_device_blocks.proofs.Facing.{core_stands}
use Rattle.bfs_device_blocks.proofs.Going.{right_rested, steady_rested}
use Rattle.bfs_device_blocks.proofs.Holding.{hold_entered}
use Rattle.bfs_space.specs.Books.{SpaceBooks, entry_noted}
use Rattle.bfs_space.specs.FileLaws.{EnteredKeepsFiles}
use Rattle.bfs_space.specs.Files.{lets_go}
use Rattle.bfs_space.specs.Faces.{IsFaceOf, HasFace, HasEntered, HasReplied, IsOutcome, HasOutcome}
use Rattle.bfs_space.specs.declared.space.Outcome.{Outcome}
use Rattle.bfs_space.specs.declared.space.Outcome.TheVariants.{Replied, Drain}
use Rattle.bfs_space.proofs.Stops.{caused_no_stop}
use Rattle.bfs_commit.specs.Volumes.{AreFitted, AreJoined, Stands}
use Rattle.bfs_commit.proofs.Joined.{fitted_ahead, going_more, waits_more}
use Rattle.bfs_commit.proofs.Noting.{turn_unsynced}

-- ---- what a device tells its space

pub size_is : (sp : SpaceBooks) (b : Books) → AreFitted sp.view b → b.sup.block_size ≡ sp.view.sup.block_size
size_is sp b fitted = same_size sp.view.sup b.sup fitted.geometry

face_stands : (sp : SpaceBooks) (b : Books) (st : State) (s : Stands sp b st) → IsFaceOf s.t0 sp (newest_map b st)
face_stands sp b st s =
    let over_it = core_stands s.t0 sp.view b (Some st) (newest_map b st) (st, refl, (s.touched, s.core)) refl in
    record { sound = s.core.space; told = over_it.told; fits = s.fits }

pub faced : (sp : SpaceBooks) (b : Books) (told : Option State) (m : ℕ → Option (List ℕ)) → AreJoined sp b told → option_map (newest_map b) told ≡ Some m → HasFace sp m
faced sp b None m joined at = absurd (let bad : None ≡ Some m = at in cc)
faced sp b (Some st) m joined at =
    let e : Some (newest_map b st) ≡ Some m = at in
    let is : newest_map b st ≡ m = cc in
    let s = joined.stands st refl in
    subst (HasFace sp) is (record { t0 = s.t0; face = face_stands sp b st s })

-- ---- reads alone

pub same_told : (b new : Books) (st : State) → IsRested b new → newest_map new st ≡ newest_map b st
same_told b new st rests = subst (λ (x : Books). newest_map x st ≡ newest_map b st) (sym rests) refl

stands_rested : (sp : SpaceBooks) (b new : Books) (st : State) → IsRested b new → Stands sp b st → Stands sp new st
stands_rested sp b new st rests s =
    let less : IsLessTouched b new s.touched s.touched = record { fewer = λ k is. is; barrier = inl (ap (λ (x : Books). x.left) rests) } in
    let versions : AreSame b st new st = subst (λ (x : Books). AreSame b st x st) (sym rests) (λ n is k d. refl) in
    record {
      t0 = s.t0;
      touched = s.touched;
      core = core_ahead s.t0 sp.view b new s.touched s.touched st st s.core (steady_rested b new rests s.core.steady) (read_ahead b new rests) (right_rested b new rests s.touched st s.core.right) versions less (read_stops b new rests);
      known = known_ahead s.t0 sp.view b new s.touched st st s.core (steady_rested b new rests s.core.steady) (read_ahead b new rests) versions s.known;
      fits = subst (λ (m : ℕ → Option (List ℕ)). Fits sp.room (over sp.view.group m)) (sym (same_told b new st rests)) s.fits;
      counted = s.counted;
    }

pub joined_rested : (sp : SpaceBooks) (b new : Books) (told told' : Option State) → IsRested b new → told' ≡ told → AreJoined sp b told → AreJoined sp new told'
joined_rested sp b new told told' rests same joined = record {
  fitted = fitted_ahead sp.view b new joined.fitted (read_ahead b new rests) (read_stops b new rests) (inl (ap (λ (x : Books). x.marks) rests));
  stands = λ st is. stands_rested sp b new st rests (joined.stands st (sym same ∙ is));
}

-- ---- an entry of a call

or_right : (a b : Bool) → (a || b) ≡ false → b ≡ false
or_right true b is = absurd (true≢false is)
or_right false b is = is

or_left : (a b : Bool) → (a || b) ≡ false → a ≡ false
or_left true b is = absurd (true≢false is)
or_left false b is = refl

last_quiet : (history : List Entry) (e : Entry) → list_any (λ (x : Entry). is_stop x.reply) (history ++ e ∷ []) ≡ false → is_stop e.reply ≡ false
last_quiet [] e none = or_left (is_stop e.reply) false none
last_quiet (x ∷ xs) e none = last_quiet xs e (or_right (is_stop x.reply) (list_any (λ (y : Entry). is_stop y.reply) (xs ++ e ∷ [])) none)

-- the entry is known to the device
entered_known : (t0 : Mounted) (old new : SpaceView) (b : Books) (m : ℕ → Option (List ℕ)) (e : Entry) → e.call ≢ calls.Sync → Entered t0 old new m e → (b.stop ≡ None → list_any (λ (x : Entry). is_stop x.reply) new.history ≡ false) → IsKnown b e
entered_known t0 old new b m e other entered going = (
  (λ upto is. absurd (turn_unsynced e.session e.stamp e.call e.reply (state_after t0 old.history) (next (state_after t0 old.history) e) other entered.follows.step upto is)),
  λ none. last_quiet old.history e (subst (λ (h : List Entry). list_any (λ (x : Entry). is_stop x.reply) h ≡ false) entered.history (going none)),
)

module _ (sp space : SpaceBooks) (b new : Books) (told told' : Option State) (session tag now : ℕ) (call : Call) (result : Result Outcome AllocError) (old_counts counts : Counts) (rests : IsRested b new) (same : told' ≡ told) (no_sync : call ≢ calls.Sync) (law : EnteredKeepsFiles) (goes : lets_go call ≡ false)
    (noted : IfOk result (HasOutcome old_counts counts sp space session tag now call)) (unchanged : OnErr result (space ≡ sp))
    (entered : (t0 : Mounted) (m : ℕ → Option (List ℕ)) → option_map (newest_map b) told ≡ Some m → IsFaceOf t0 sp m → IfOk result (IsOutcome t0 sp space m session tag now call)) where
  replied_fitted : HasReplied old_counts counts sp space session tag now call → AreFitted sp.view new → AreFitted space.view new
  replied_fitted r fitted = record {
    geometry = λ used. fitted.geometry used ∙ ap (λ (s : Super). geometry_with s used) (sym r.same.sup);
    sealed = fitted.sealed ∙ sym r.same.sealed;
    sealed_used = r.same.sealed_used ∙ fitted.sealed_used;
    idle = λ none. (let i = r.idle none in i.1 ∙ fitted.idle i.0);
    reached = fitted.reached;
    going = λ none. subst (λ (h : List Entry). list_any (λ (x : Entry). is_stop x.reply) h ≡ false) (sym r.history)
        (going_more sp.view.history (entry_noted sp session tag now call r.reply) (caused_no_stop old_counts counts sp.stop r.reply r.cause) (fitted.going none));
    waits = waits_more sp.view space.view (entry_noted sp session tag now call r.reply) r.same.sealed r.history fitted.waits;
  }

  -- what was entered on what the disk tells
  replied_stands : (st : State) → AreFitted space.view new → (s : Stands sp b st) → HasEntered s.t0 sp space (newest_map b st) session tag now call → space.nodes ≡ nodes_of (after s.t0 space.view.history) → Stands sp new st → Stands space new st
  unfolding stands_rested
  replied_stands st fitted s e counts since =
      let map_is = same_told b new st rests in
      let entry : Entry = entry_noted sp session tag now call e.reply in
      let en : Entered s.t0 sp.view space.view (newest_map new st) entry = subst (λ (m : ℕ → Option (List ℕ)). Entered s.t0 sp.view space.view m entry) (sym map_is) e.entered in
      let rested : Stands sp new st = stands_rested sp b new st rests s in
      let core : Core s.t0 sp.view new s.touched st = rested.core in
      let has : HasKnown s.t0 sp.view new st = rested.known in
      let keeps : KeepsFiles s.t0 sp.view space.view (newest_map new st) (contents_of st (layout_of new.sup).sectors) =
      law s.t0 sp space (newest_map new st) session tag now call (contents_of st (layout_of new.sup).sectors) goes (subst (λ (m : ℕ → Option (List ℕ)). HasEntered s.t0 sp space m session tag now call) (sym map_is) e) has in
      record {
        t0 = s.t0;
        touched = s.touched;
        core = core_entered s.t0 sp.view space.view new s.touched st entry core en (entered_known s.t0 sp.view space.view new (newest_map b st) entry no_sync e.entered fitted.going);
        known = known_entered s.t0 sp.view space.view new st entry en keeps has;
        fits = subst (λ (m : ℕ → Option (List ℕ)). Fits space.room (over space.view.group m)) (sym map_is) e.face.fits;
        counted = counts;
      }

  pub joined_asked : ((t0 : Mounted) (m : ℕ → Option (List ℕ)) → option_map (newest_map b) told ≡ Some m → IsFaceOf t0 sp m → sp.nodes ≡ nodes_of (after t0 sp.view.history) → OnOk result (space.nodes ≡ nodes_of (after t0 space.view.history)))
      → AreJoined sp b told → AreJoined space new told'
  joined_asked counted joined = by_result result noted unchanged entered counted
    where
      still : AreJoined sp new told'
      still = joined_rested sp b new told told' rests same joined

      by_result : (r : Result Outcome AllocError) → IfOk r (HasOutcome old_counts counts sp space session tag now call) → OnErr r (space ≡ sp)
          → ((t0 : Mounted) (m : ℕ → Option (List ℕ)) → option_map (newest_map b) told ≡ Some m → IsFaceOf t0 sp m → IfOk r (IsOutcome t0 sp space m session tag now call))
          → ((t0 : Mounted) (m : ℕ → Option (List ℕ)) → option_map (newest_map b) told ≡ Some m → IsFaceOf t0 sp m → sp.nodes ≡ nodes_of (after t0 sp.view.history) → OnOk r (space.nodes ≡ nodes_of (after t0 space.view.history))) → AreJoined space new told'
      by_result (Err e) noted unchanged entered counted = subst (λ (x : SpaceBooks). AreJoined x new told') (sym unchanged) still
      by_result (Ok (Drain back)) noted unchanged entered counted = subst (λ (x : SpaceBooks). AreJoined x new told') (sym noted.1) still
      by_result (Ok Replied) noted unchanged entered counted =
          let fitted = replied_fitted noted still.fitted in
          record {
            fitted = fitted;
            stands = λ st is.
                let was : told ≡ Some st = sym same ∙ is in
                let s = joined.stands st was in
                let face = face_stands sp b st s in
                let at = ap (option_map (newest_map b)) was in
                replied_stands st fitted s (entered s.t0 (newest_map b st) at face) (counted s.t0 (newest_map b st) at face s.counted) (still.stands st is);
          }

  -- Core, where it held once the device was given back
  pub core_asked : (t0 : Mounted) (adopted : Adoption) (clock : ℕ) (since : ℕ → List ℕ → Type 0) → AreJoined sp b told → AreSized new told' → HasCore t0 adopted sp.view new told' clock since → HasCore t0 adopted space.view new told' clock since
  core_asked t0 adopted clock since joined sized core = by_result result noted unchanged entered
    where
      by_result : (r : Result Outcome AllocError) → IfOk r (HasOutcome old_counts counts sp space session tag now call) → OnErr r (space ≡ sp)
          → ((t0 : Mounted) (m : ℕ → Option (List ℕ)) → option_map (newest_map b) told ≡ Some m → IsFaceOf t0 sp m → IfOk r (IsOutcome t0 sp space m session tag now call)) → HasCore t0 adopted space.view new told' clock since
      by_result (Err e) noted unchanged entered = subst (λ (x : SpaceBooks). HasCore t0 adopted x.view new told' clock since) (sym unchanged) core
      by_result (Ok (Drain back)) noted unchanged entered = subst (λ (x : SpaceBooks). HasCore t0 adopted x.view new told' clock since) (sym noted.1) core
      by_result (Ok Replied) noted unchanged entered =
          let st = core.0.0 in
          let now_is : told' ≡ Some st = core.0.1 in
          let was : told ≡ Some st = sym same ∙ now_is in
          let map_is = same_told b new st rests in
          let over_it = core_stands t0 sp.view new (Some st) (newest_map new st) (st, refl, (core.0.2.0, core.0.2.1)) refl in
          let fits = (joined.stands st was).fits in
          let face : IsFaceOf t0 sp (newest_map b st) = subst (IsFaceOf t0 sp) map_is (record { sound = over_it.sound; told = over_it.told; fits = subst (λ (m : ℕ → Option (List ℕ)). Fits sp.room (over sp.view.group m)) (sym map_is) fits }) in
          let e = entered t0 (newest_map b st) (ap (option_map (newest_map b)) was) face in
          let entry : Entry = entry_noted sp session tag now call e.reply in
          let fitted = replied_fitted noted (joined_rested sp b new told told' rests same joined).fitted in
          let keeps : KeepsFiles t0 sp.view space.view (newest_map new st) (contents_of st (layout_of new.sup).sectors) =
          law t0 sp space (newest_map new st) session tag now call (contents_of st (layout_of new.sup).sectors) goes (subst (λ (m : ℕ → Option (List ℕ)). HasEntered t0 sp space m session tag now call) (sym map_is) e) core.0.2.2 in
          hold_entered t0 adopted sp.view new told' clock since space.view entry
          (λ x is. subst (λ (m : ℕ → Option (List ℕ)). Entered t0 sp.view space.view m entry) (sym map_is ∙ ap (newest_map new) (let q : Some st ≡ Some x = sym now_is ∙ is in let d : st ≡ x = cc in d)) e.entered)
          (entered_known t0 sp.view space.view new (newest_map b st) entry no_sync e.entered fitted.going)
          (λ x is. subst (λ (y : State). KeepsFiles t0 sp.view space.view (newest_map new y) (contents_of y (layout_of new.sup).sectors)) (let q : Some st ≡ Some x = sym now_is ∙ is in let d : st ≡ x = cc in d) keeps)
          sized
          (λ x is. subst (λ (m : ℕ → Option (List ℕ)). IsLinked t0 sp.view space.view m entry) (sym map_is ∙ ap (newest_map new) (let q : Some st ≡ Some x = sym now_is ∙ is in let d : st ≡ x = cc in d)) e.linked) core

-- ---- what a reply says of the call

-- with Core a space stands over what its device tells, by the tree that Core has
pub face_core : (t0 : Mounted) (adopted : Adoption) (sp : SpaceBooks) (b : Books) (told : Option State) (clock : ℕ) (since : ℕ → List ℕ → Type 0) → AreJoined sp b told → (core : HasCore t0 adopted sp.view b told clock since) → IsFaceOf t0 sp (newest_map b core.0.0)
face_core t0 adopted sp b told clock since joined core =
    let over_it = core_stands t0 sp.view b (Some core.0.0) (newest_map b core.0.0) (core.0.0, refl, (core.0.2.0, core.0.2.1)) refl in
    record { sound = over_it.sound; told = over_it.told; fits = (joined.stands core.0.0 core.0.1).fits }

-- for some tree, where the disk tells
pub face_there : (sp : SpaceBooks) (b : Books) (told : Option State) (st : State) → AreJoined sp b told → told ≡ Some st → HasFace sp (newest_map b st)
face_there sp b told st joined is = let s = joined.stands st is in record { t0 = s.t0; face = face_stands sp b st s }
