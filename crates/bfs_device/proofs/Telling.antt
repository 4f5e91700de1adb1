-- What a step tells of its call, its marks and the calls left.
use Rattle.std.proofs.Common.{◌≡◌, ⊎_elim, ℕ, ◌+◌, ◌<◌, List, [], ◌∷◌, length, refl, ap, arith, Bool, true, false, cond, nat_lt, Option}
use Rattle.std.proofs.lemmas.Bool.{cases_lt, cond-true, cond-false, lt-ltb, le-ltb}
use Rattle.bfs_disk.specs.State.{State}
use Rattle.bfs_log.specs.Replay.{log_from}
use Rattle.bfs_txn.specs.declared.group.Group.{Group}
use Rattle.bfs_device.specs.declared.journal.Phase.{Phase}
use Rattle.bfs_device.specs.declared.journal.Phase.TheVariants.{Log, LogSafe, Open, OpenSafe, Home as GoHome, HomeSafe, Tail, TailSafe, Pass}
use Rattle.bfs_device.specs.Layouts.{IsSameVolume, layout_of, slot, ring_count}
use Rattle.bfs_device.specs.Books.{Books, IsPhaseOf, is_durable, IsVersion, used_of}
use Rattle.bfs_device.specs.Steps.{PrintsBack, ReadFront, told_front, stepped, after_phase, next_phase, front_phase, progress_to, progress_in, calls_left, calls_in, calls_from, calls_of, counted as counted_to}
use Rattle.bfs_device.specs.Told.{HasCalled, HasMarked, HasCounted}
use Rattle.bfs_device.proofs.Sizes.{from_low}
use Rattle.bfs_device.proofs.Going.{slot_inside}
use Rattle.bfs_device.proofs.Phasing.{long_block, long_home}
use Rattle.bfs_device.proofs.Right.{front_not_durable, used_after}
use Rattle.bfs_device.proofs.Stepping.{Known}

module _ (b : Books) (g : Group) (gs : List Group) (know : (let c : Books = record b { groups = g ∷ gs } in Known c)) where
  called_in : (p : Phase) → IsPhaseOf g.blocks p → PrintsBack b.sup g p → (old new : Option State) → new ≡ told_front b.sup (g ∷ gs) p old → HasCalled (layout_of b.sup) old new (progress_in g p)
  called_in (Log i) fits read old new is =
      let inside = slot_inside (layout_of b.sup) (log_from b.sup) i (from_low b.sup know.valid) (omega (arith, fits, know.follow.0.sealed.room)) in
      (slot (layout_of b.sup) (log_from b.sup) i, _, inside.0, inside.1, long_block b.sup g know.valid know.follow.0.sealed know.empty i fits, is)
  called_in LogSafe fits read old new is = is
  called_in Open fits read old new is = (_, read.2, is)
  called_in OpenSafe fits read old new is = is
  called_in (GoHome i) fits read old new is = (_, long_home b.sup g know.valid know.follow.0.sealed know.empty i fits, is)
  called_in HomeSafe fits read old new is = is
  called_in Tail fits read old new is = (_, read.2, is)
  called_in TailSafe fits read old new is = is
  called_in Pass fits read old new is = is

  abbrev at : Phase → Books
  at p = record b { groups = g ∷ gs; phase = p }

  next_log : (i : ℕ) → is_durable (next_phase g (Log i)) ≡ false
  next_log i = either (nat_lt (i + 1) (ring_count g.blocks))
    where
      either : (d : Bool) → is_durable (cond d (Log (i + 1)) LogSafe) ≡ false
      either true = refl
      either false = refl

  next_home : (i : ℕ) → is_durable (next_phase g (GoHome i)) ≡ true
  next_home i = either (nat_lt (i + 1) (length g.blocks))
    where
      either : (d : Bool) → is_durable (cond d (GoHome (i + 1)) HomeSafe) ≡ true
      either true = refl
      either false = refl

  marked_in : (p : Phase) → HasMarked (at p) (after_phase g gs (at p) p) (progress_in g p)
  marked_in (Log i) = (ap (λ (d : Bool). cond d g.last b.left) (next_log i), refl)
  marked_in LogSafe = (refl, refl)
  marked_in Open = (refl, refl)
  marked_in OpenSafe = (refl, refl)
  marked_in (GoHome i) = (ap (λ (d : Bool). cond d g.last b.left) (next_home i), refl)
  marked_in HomeSafe = (refl, refl)
  marked_in Tail = (refl, refl)
  marked_in TailSafe = (front_not_durable g.last gs, refl)
  marked_in Pass = (front_not_durable g.last gs, refl)

  front_calls : (xs : List Group) → calls_in xs (front_phase xs) ≡ calls_of xs
  front_calls [] = refl
  front_calls (x ∷ xs) = refl

  counted_in : (p : Phase) → IsPhaseOf g.blocks p → HasCounted (calls_left (at p)) (calls_left (after_phase g gs (at p) p)) (progress_in g p)
  counted_in (Log i) fits = ⊎_elim
      (λ lt. let e = ap (λ (q : Phase). calls_from g.blocks q) (cond-true (nat_lt (i + 1) (ring_count g.blocks)) (Log (i + 1)) LogSafe (lt-ltb (i + 1) (ring_count g.blocks) lt)) in omega (arith, e, fits, lt))
      (λ ge. let e = ap (λ (q : Phase). calls_from g.blocks q) (cond-false (nat_lt (i + 1) (ring_count g.blocks)) (Log (i + 1)) LogSafe (le-ltb (i + 1) (ring_count g.blocks) ge)) in omega (arith, e, fits, ge))
      (cases_lt (i + 1) (ring_count g.blocks))
  counted_in LogSafe fits = omega arith
  counted_in Open fits = omega arith
  counted_in OpenSafe fits = omega arith
  counted_in (GoHome i) fits = ⊎_elim
      (λ lt. let e = ap (λ (q : Phase). calls_from g.blocks q) (cond-true (nat_lt (i + 1) (length g.blocks)) (GoHome (i + 1)) HomeSafe (lt-ltb (i + 1) (length g.blocks) lt)) in omega (arith, e, fits, lt))
      (λ ge. let e = ap (λ (q : Phase). calls_from g.blocks q) (cond-false (nat_lt (i + 1) (length g.blocks)) (GoHome (i + 1)) HomeSafe (le-ltb (i + 1) (length g.blocks) ge)) in omega (arith, e, fits, ge))
      (cases_lt (i + 1) (length g.blocks))
  counted_in HomeSafe fits = omega arith
  counted_in Tail fits = omega arith
  counted_in TailSafe fits = omega (arith, front_calls gs)
  counted_in Pass fits = omega (arith, front_calls gs)

  same_volume_in : (p : Phase) → IsSameVolume b.sup (after_phase g gs (at p) p).sup
  same_volume_in (Log i) = record { layout = refl; block_size = refl }
  same_volume_in LogSafe = record { layout = refl; block_size = refl }
  same_volume_in Open = record { layout = refl; block_size = refl }
  same_volume_in OpenSafe = record { layout = refl; block_size = refl }
  same_volume_in (GoHome i) = record { layout = refl; block_size = refl }
  same_volume_in HomeSafe = record { layout = refl; block_size = refl }
  same_volume_in Tail = record { layout = refl; block_size = refl }
  same_volume_in TailSafe = record { layout = refl; block_size = refl }
  same_volume_in Pass = record { layout = refl; block_size = refl }

  moment_in : (p : Phase) → (after_phase g gs (at p) p).moment ≡ counted_to b.moment
  moment_in (Log i) = refl
  moment_in LogSafe = refl
  moment_in Open = refl
  moment_in OpenSafe = refl
  moment_in (GoHome i) = refl
  moment_in HomeSafe = refl
  moment_in Tail = refl
  moment_in TailSafe = refl
  moment_in Pass = refl

-- for any groups
moment_of : (b : Books) (groups : List Group) → (let c : Books = record b { groups = groups } in Known c) → 0 < length groups → (let c : Books = record b { groups = groups } in (stepped c).moment ≡ counted_to b.moment)
moment_of b [] know some = absurd (omega arith)
moment_of b (g ∷ gs) know some = moment_in b g gs know b.phase

pub step_moment : (b : Books) → Known b → 0 < length b.groups → (stepped b).moment ≡ counted_to b.moment
step_moment b know some = moment_of b b.groups know some

called : (b : Books) (groups : List Group) → (let c : Books = record b { groups = groups } in Known c) → ReadFront b.sup groups b.phase → (old new : Option State) → new ≡ told_front b.sup groups b.phase old → HasCalled (layout_of b.sup) old new (progress_to groups b.phase)
called b [] know read old new is = is
called b (g ∷ gs) know read old new is = called_in b g gs know b.phase know.phase read old new is

marked : (b : Books) (groups : List Group) → (let c : Books = record b { groups = groups } in Known c) → (let c : Books = record b { groups = groups } in HasMarked c (stepped c) (progress_to groups b.phase))
marked b [] know = (refl, refl)
marked b (g ∷ gs) know = marked_in b g gs know b.phase

counted : (b : Books) (groups : List Group) → (let c : Books = record b { groups = groups } in Known c) → (let c : Books = record b { groups = groups } in HasCounted (calls_left c) (calls_left (stepped c)) (progress_to groups b.phase))
counted b [] know = (refl, refl)
counted b (g ∷ gs) know = counted_in b g gs know b.phase know.phase

same_volume : (b : Books) (groups : List Group) → (let c : Books = record b { groups = groups } in Known c) → (let c : Books = record b { groups = groups } in IsSameVolume b.sup (stepped c).sup)
same_volume b [] know = record { layout = refl; block_size = refl }
same_volume b (g ∷ gs) know = same_volume_in b g gs know b.phase

pub step_called : (b : Books) → Known b → ReadFront b.sup b.groups b.phase → (old new : Option State) → new ≡ told_front b.sup b.groups b.phase old → HasCalled (layout_of b.sup) old new (progress_to b.groups b.phase)
step_called b know read old new is = called b b.groups know read old new is

pub step_marked : (b : Books) → Known b → HasMarked b (stepped b) (progress_to b.groups b.phase)
step_marked b know = marked b b.groups know

pub step_counted : (b : Books) → Known b → HasCounted (calls_left b) (calls_left (stepped b)) (progress_to b.groups b.phase)
step_counted b know = counted b b.groups know

pub step_volume : (b : Books) → Known b → IsSameVolume b.sup (stepped b).sup
step_volume b know = same_volume b b.groups know

used_kept : (b : Books) (groups : List Group) → (let c : Books = record b { groups = groups } in Known c) → (let c : Books = record b { groups = groups } in (n : ℕ) → IsVersion (stepped c) n → used_of (stepped c) n ≡ used_of c n)
used_kept b [] know n is = refl
used_kept b (g ∷ gs) know n is = used_after b g gs know.valid know.empty know.follow b.phase know.phase n is

pub step_used : (b : Books) → Known b → (n : ℕ) → IsVersion (stepped b) n → used_of (stepped b) n ≡ used_of b n
step_used b know n is = used_kept b b.groups know n is
