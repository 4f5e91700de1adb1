-- A space and a device stay joined over their events, by their numbers and on what the disk tells.
use Rattle.std.proofs.lemmas.Bool.{cases_lt}
use Rattle.std.proofs.lemmas.List.{get_or_append_left, get_or-append-add, length-append}
use Rattle.std.proofs.Common.{◌≡◌, ◌≤◌, ◌<◌, inl, inr, ⊎_elim, get_or, length, ◌+◌, ◌++◌, ℕ, List, [], ◌∷◌, Bool, false, Option, Some, None, Result, Ok, Err, OnOk, OnErr, refl, sym, ◌∙◌, ap, subst, arith}
use Rattle.std.specs.List.{All, list_any}
use Rattle.bfs_disk.specs.State.{State}
use Rattle.bfs_bitmap.specs.Runs.{Room, Fits}
use Rattle.bfs_txn.specs.Changed.{over}
use Rattle.bfs_txn.specs.declared.group.Group.{Group}
use Rattle.bfs_tree.specs.declared.reply.Entry.{Entry}
use Rattle.bfs_tree.specs.Histories.{is_stop}
use Rattle.bfs_device.specs.Layouts.{layout_of}
use Rattle.bfs_device.specs.declared.journal.Mark.{Mark}
use Rattle.bfs_device.specs.Books.{Books, IsRight, IsNext, IsSealed, AreSame, durable_of, sealed_of}
use Rattle.bfs_device.specs.Seals.{last_used, sealed_with}
use Rattle.bfs_device.specs.Ahead.{IsSteady, GoesOn}
use Rattle.bfs_device.proofs.Forward.{sealed_durable}
use Rattle.bfs_device.proofs.Sealing.{sealed_last, sealed_used}
use Rattle.bfs_core.specs.Spaces.{SpaceView, IsGroupFor, sealed_space, released_space}
use Rattle.bfs_core.specs.Cores.{Core, newest_map}
use Rattle.bfs_core.specs.Moments.{DeviceMoves, Marked}
use Rattle.bfs_core.proofs.Knowing.{known_ahead, known_released, known_sealed}
use Rattle.bfs_core.proofs.Onward.{core_ahead, core_released, same_layout, same_newest, same_size}
use Rattle.bfs_core.proofs.Seals.{core_sealed}
use Rattle.bfs_device_blocks.proofs.Facing.{sealed_newest}
use Rattle.bfs_space.specs.Books.{SpaceBooks, KnowsStop}
use Rattle.bfs_space.proofs.Stops.{stop_kept}
use Rattle.bfs_commit.specs.Volumes.{AreFitted, AreJoined, Stands, WaitsByEntry}

-- ---- numbers

reached_more : (n m : ℕ) (marks : List Mark) → n ≤ m → All (λ (x : Mark). x.number ≤ n) marks → All (λ (x : Mark). x.number ≤ m) marks
reached_more n m marks le all k d lt = let low = all k d lt in omega (arith, low, le)

reached_one : (n : ℕ) (marks : List Mark) (x : Mark) → x.number ≤ n → All (λ (y : Mark). y.number ≤ n) marks → All (λ (y : Mark). y.number ≤ n) (marks ++ x ∷ [])
reached_one n marks x le all k d lt = ⊎_elim
    (λ (low : k < length marks). subst (λ (y : Mark). y.number ≤ n) (sym (get_or_append_left marks (x ∷ []) d k low)) (all k d low))
    (λ (high : length marks ≤ k).
    let long : length (marks ++ x ∷ []) ≡ length marks + 1 = length-append marks (x ∷ []) in
    let e : k ≡ length marks + 0 = omega (arith, high, lt, long) in
    subst (λ (i : ℕ). (get_or (marks ++ x ∷ []) i d).number ≤ n) (sym e) (subst (λ (y : Mark). y.number ≤ n) (sym (get_or-append-add marks (x ∷ []) 0 d)) le))
    (cases_lt k (length marks))

reached_since : (b new : Books) → GoesOn b new → Marked b.marks new.marks (durable_of new) new.moment → All (λ (x : Mark). x.number ≤ durable_of b) b.marks → All (λ (x : Mark). x.number ≤ durable_of new) new.marks
reached_since b new on marked all =
    let more = reached_more (durable_of b) (durable_of new) b.marks on.durable all in
    ⊎_elim (λ (same : new.marks ≡ b.marks). subst (All (λ (x : Mark). x.number ≤ durable_of new)) (sym same) more)
    (λ one. subst (All (λ (x : Mark). x.number ≤ durable_of new)) (sym one.1) (reached_one (durable_of new) b.marks one.0 one.3 more)) marked

pub fitted_ahead : (sp : SpaceView) (b new : Books) → AreFitted sp b → GoesOn b new → (new.stop ≡ None → b.stop ≡ None) → Marked b.marks new.marks (durable_of new) new.moment → AreFitted sp new
fitted_ahead sp b new fitted on stops marked = record {
  reached = reached_since b new on marked fitted.reached;
  geometry = λ used. on.geometry used ∙ fitted.geometry used;
  sealed = on.sealed ∙ fitted.sealed;
  sealed_used = fitted.sealed_used ∙ sym on.last_used;
  idle = λ none. fitted.idle none ∙ sym on.last_used;
  going = λ none. fitted.going (stops none);
  waits = fitted.waits;
}

pub fitted_released : (n : ℕ) (sp : SpaceView) (b : Books) → AreFitted sp b → AreFitted (released_space n sp) b
fitted_released n sp b fitted = record { geometry = fitted.geometry; sealed = fitted.sealed; sealed_used = fitted.sealed_used; idle = fitted.idle; going = fitted.going; reached = fitted.reached; waits = fitted.waits }

pub fitted_next : (sp : SpaceView) (b : Books) (g : Group) → AreFitted sp b → IsGroupFor sp g → IsNext (layout_of b.sup) b.sup.block_size (sealed_of b) (last_used b) g
fitted_next sp b g fitted group = record {
  follows = group.first ∙ ap (λ (n : ℕ). n + 1) (sym fitted.sealed);
  sealed = subst (λ l. IsSealed l b.sup.block_size g) (sym (same_layout sp.sup b.sup fitted.geometry)) (subst (λ (n : ℕ). IsSealed (layout_of sp.sup) n g) (sym (same_size sp.sup b.sup fitted.geometry)) group.sealed);
  same_used = λ none. group.used ∙ fitted.idle (sym group.blocks ∙ none);
}

pub fitted_sealed : (sp : SpaceView) (b : Books) (g : Group) → AreFitted sp b → IsGroupFor sp g → AreFitted (sealed_space sp) (sealed_with b g)
fitted_sealed sp b g fitted group = record {
  geometry = fitted.geometry;
  sealed = sealed_last b g ∙ group.last;
  sealed_used = sym (sealed_used b g ∙ group.used);
  idle = λ none. sym (sealed_used b g ∙ group.used);
  going = fitted.going;
  reached = subst (λ (n : ℕ). All (λ (x : Mark). x.number ≤ n) b.marks) (sym (sealed_durable b g)) fitted.reached;
  waits = inr (refl, refl);
}

-- an entry more waits for a seal
pub waits_more : (old new : SpaceView) (e : Entry) → new.sealed ≡ old.sealed → new.history ≡ old.history ++ e ∷ [] → WaitsByEntry old → WaitsByEntry new
waits_more old new e sealed history waits =
    let long : length new.history ≡ length old.history + 1 = ap length history ∙ length-append old.history (e ∷ []) in
    let low : old.sealed ≤ length old.history = ⊎_elim (λ some. omega (arith, some)) (λ none. let all = none.0 in omega (arith, all)) waits in
    inl (omega (arith, long, low, sealed))

-- one entry more, which tells of no stop, or of a device that has stopped
pub going_more : (history : List Entry) (e : Entry) → is_stop e.reply ≡ false → list_any (λ (x : Entry). is_stop x.reply) history ≡ false → list_any (λ (x : Entry). is_stop x.reply) (history ++ e ∷ []) ≡ false
going_more history e none quiet = let k : KnowsStop history None = quiet in stop_kept history e None none k

-- ---- what the disk tells

stands_ahead : (sp : SpaceBooks) (b new : Books) (u : ℕ → Bool) (st next : State) (s : Stands sp b st) → IsSteady new → GoesOn b new → IsRight new u next → AreSame b st new next → Core s.t0 sp.view new u next → Stands sp new next
stands_ahead sp b new u st next s steady on right same core = record {
  t0 = s.t0;
  touched = u;
  core = core;
  known = known_ahead s.t0 sp.view b new s.touched st next s.core steady on same s.known;
  fits = subst (λ (m : ℕ → Option (List ℕ)). Fits sp.room (over sp.view.group m)) (sym (same_newest b new st next steady on same)) s.fits;
  counted = s.counted;
}

pub stands_moved : (sp : SpaceBooks) (b new : Books) (told told' : Option State) (clock clock' : ℕ) (past since : ℕ → List ℕ → Type 0) → DeviceMoves b new told told' clock clock' past since → ((st : State) → told' ≡ Some st → (was : State) × (told ≡ Some was))
    → ((st : State) → told ≡ Some st → Stands sp b st) → (st : State) → told' ≡ Some st → Stands sp new st
stands_moved sp b new told told' clock clock' past since moves before stands st is =
    let was = before st is in
    let s = stands was.0 was.1 in
    let got = moves.right s.touched (was.0, was.1, s.core.right) in
    let e : Some st ≡ Some got.right.0 = sym is ∙ got.right.1 in
    let same : st ≡ got.right.0 = cc in
    subst (Stands sp new) (sym same)
    (stands_ahead sp b new got.touched was.0 got.right.0 s moves.steady moves.ahead got.right.2.0 got.right.2.1
    (core_ahead s.t0 sp.view b new s.touched got.touched was.0 got.right.0 s.core moves.steady moves.ahead got.right.2.0 got.right.2.1 got.less moves.stops))

-- the space frees what has left the log
pub stands_released : (sp : SpaceBooks) (b : Books) (st : State) (room : Room) (left : ℕ) → ((m : ℕ → Option (List ℕ)) → Fits sp.room m → Fits room m) → Stands sp b st
    → Stands (record sp { view = released_space b.left sp.view; room = room; left = left }) b st
stands_released sp b st room left fits s = record { t0 = s.t0; touched = s.touched; core = core_released s.t0 sp.view b s.touched st s.core; known = known_released s.t0 sp.view b st b.left s.known; fits = fits (over sp.view.group (newest_map b st)) s.fits; counted = s.counted }

pub stands_sealed : (sp : SpaceBooks) (b : Books) (g : Group) (st : State) (room : Room) → IsGroupFor sp.view g → ((m : ℕ → Option (List ℕ)) → Fits sp.room m → Fits room m) → Stands sp b st
    → Stands (record sp { view = sealed_space sp.view; room = room }) (sealed_with b g) st
stands_sealed sp b g st room group fits s = record {
  t0 = s.t0;
  touched = s.touched;
  core = core_sealed s.t0 sp.view b s.touched st g s.core group;
  known = known_sealed s.t0 sp.view b s.touched st g s.core group s.known;
  fits = subst (Fits room) (sym (λ i k. sealed_newest s.t0 sp.view b s.touched st g s.core group k i)) (fits (over sp.view.group (newest_map b st)) s.fits);
  counted = s.counted;
}

-- ---- events

pub joined_stepped : (sp space : SpaceBooks) (b new : Books) (told told' : Option State) (clock clock' : ℕ) (past since : ℕ → List ℕ → Type 0) (left most : ℕ) (room : Room) → DeviceMoves b new told told' clock clock' past since
    → ((st : State) → told' ≡ Some st → (was : State) × (told ≡ Some was)) → left ≡ new.left → space ≡ record sp { view = released_space left sp.view; room = room; left = most } → ((m : ℕ → Option (List ℕ)) → Fits sp.room m → Fits space.room m)
    → AreJoined sp b told → AreJoined space new told'
joined_stepped sp space b new told told' clock clock' past since left most room moves before at is fits joined =
    subst (λ (x : SpaceBooks). ((m : ℕ → Option (List ℕ)) → Fits sp.room m → Fits x.room m) → AreJoined x new told') (sym (is ∙ ap (λ (n : ℕ). (let y : SpaceBooks = record sp { view = released_space n sp.view; room = room; left = most } in y)) at))
    (λ fits. record {
      fitted = fitted_released new.left sp.view new (fitted_ahead sp.view b new joined.fitted moves.ahead moves.stops moves.time.marked);
      stands = λ st told_st. stands_released sp new st room most fits (stands_moved sp b new told told' clock clock' past since moves before joined.stands st told_st);
    }) fits

-- a call of the device by which nothing has left: a read, or room
pub joined_moved : (sp : SpaceBooks) (b new : Books) (told told' : Option State) (clock clock' : ℕ) (past since : ℕ → List ℕ → Type 0) → DeviceMoves b new told told' clock clock' past since
    → ((st : State) → told' ≡ Some st → (was : State) × (told ≡ Some was)) → AreJoined sp b told → AreJoined sp new told'
joined_moved sp b new told told' clock clock' past since moves before joined = record {
  fitted = fitted_ahead sp.view b new joined.fitted moves.ahead moves.stops moves.time.marked;
  stands = λ st told_st. stands_moved sp b new told told' clock clock' past since moves before joined.stands st told_st;
}

pub joined_sealed : (sp space : SpaceBooks) (b new : Books) (g : Group) (told : Option State) (room : Room) → IsGroupFor sp.view g → space ≡ record sp { view = sealed_space sp.view; room = room } → new ≡ sealed_with b g
    → ((m : ℕ → Option (List ℕ)) → Fits sp.room m → Fits space.room m) → AreJoined sp b told → AreJoined space new told
joined_sealed sp space b new g told room group is also fits joined =
    subst (λ (x : Books). AreJoined space x told) (sym also)
    (subst (λ (x : SpaceBooks). ((m : ℕ → Option (List ℕ)) → Fits sp.room m → Fits x.room m) → AreJoined x (sealed_with b g) told) (sym is)
    (λ fits. record {
      fitted = fitted_sealed sp.view b g joined.fitted group;
      stands = λ st told_st. stands_sealed sp b g st room group fits (joined.stands st told_st);
    }) fits)

-- promises are no part of it
same_promised : (sp space : SpaceBooks) (promised : List ℕ) (b : Books) (told : Option State) → space ≡ record sp { promised = promised } → AreJoined sp b told → AreJoined space b told
same_promised sp space promised b told is joined = subst (λ (x : SpaceBooks). AreJoined x b told) (sym is) (record { fitted = joined.fitted; stands = λ st at. (let s = joined.stands st at in record { t0 = s.t0; touched = s.touched; core = s.core; known = s.known; fits = s.fits; counted = s.counted }) })

pub joined_unpromised : (sp space : SpaceBooks) (promised : List ℕ) (b : Books) (told : Option State) → space ≡ record sp { promised = promised } → AreJoined sp b told → AreJoined space b told
joined_unpromised = same_promised

pub joined_promised : {E : Type 0} (result : Result Unit E) (sp space : SpaceBooks) (promised : List ℕ) (b : Books) (told : Option State) → OnOk result (space ≡ record sp { promised = promised }) → OnErr result (space ≡ sp) → AreJoined sp b told → AreJoined space b told
joined_promised (Ok done) sp space promised b told ok err joined = same_promised sp space promised b told ok joined
joined_promised (Err e) sp space promised b told ok err joined = subst (λ (x : SpaceBooks). AreJoined x b told) (sym err) joined

pub view_promised : {E : Type 0} (result : Result Unit E) (sp space : SpaceBooks) (promised : List ℕ) → OnOk result (space ≡ record sp { promised = promised }) → OnErr result (space ≡ sp) → space.view ≡ sp.view
view_promised (Ok done) sp space promised ok err = ap (λ (x : SpaceBooks). x.view) ok
view_promised (Err e) sp space promised ok err = ap (λ (x : SpaceBooks). x.view) err
