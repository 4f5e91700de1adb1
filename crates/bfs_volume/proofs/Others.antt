-- The pieces that are held stay so over a call of a session that holds none.
use Rattle.std.proofs.Common.{◌≡◌, ◌≢◌, ◌<◌, ◌≤◌, ◌+◌, ◌++◌, ◌∙◌, inl, inr, ℕ, zero, suc, List, [], ◌∷◌, map, Bool, true, false, cond, Option, Some, None, Result, Ok, Err, refl, sym, ap, arith}
use Rattle.std.specs.declared.alloc.AllocError.{AllocError}
use Rattle.std.specs.Prelude.{MatchOption, is_some, slice_get, ◌==◌, OnOk, OnErr, IfOk, IfErr}
use Rattle.bfs_base.specs.Lists.{IsOnce, times}
use Rattle.bfs_disk.specs.State.{State}
use Rattle.bfs_tree.specs.declared.call.Call.{Call}
use Rattle.bfs_tree.specs.declared.call.Call.TheVariants as calls
use Rattle.bfs_tree.specs.declared.reply.Reply.TheVariants as replies
use Rattle.bfs_tree.specs.declared.reply.Entry.{Entry}
use Rattle.bfs_tree.specs.declared.state.Hold.{Hold}
use Rattle.bfs_tree.specs.States.{is_hold_of, last_hold, without_last}
use Rattle.bfs_device.specs.Books.{Books}
use Rattle.bfs_file_io.specs.Books.{SpaceBooks}
use Rattle.bfs_file_io.specs.Holds.{KeepsHolds, held_by, keeps_holds, without_hold}
use Rattle.bfs_file_io.specs.Outcome.{Outcome}
use Rattle.bfs_file_io.specs.Outcome.TheVariants.{Replied, Drain}
use Rattle.bfs_file_io.proofs.Held.{entry_is_held, entry_keeps_holds}
use Rattle.bfs_file_io.specs.Entries.{HasEntry, HasEntryOf, HasFailedSync}
use Rattle.bfs_volume.specs.Events.{HasTried}
use Rattle.bfs_file_io.specs.Open.{AreOpen, HoldsAt, HoldsNone, IsOpen, OpenView, sessions_of}
use Rattle.bfs_file_io.specs.Pieces.{HasPiece, HasReleased, HasUntaken}
use Rattle.bfs_file_io.specs.SyncFault.{SyncFault}
use Rattle.bfs_file_io.specs.SyncFault.TheVariants as syncs
use Rattle.bfs_file_io.proofs.Taken.{any_last, hold_as, last_is, own_hold}
use Rattle.bfs_file_io.proofs.Written.{none_more}

-- ---- sessions that hold no piece

none_of : (pieces : List OpenView) (session : ℕ) → HoldsNone pieces session → times session (map (λ (p : OpenView). p.hold.session) pieces) ≡ 0
none_of [] session none = refl
none_of (p ∷ ps) session none = none_more p.hold.session session (times session (map (λ (q : OpenView). q.hold.session) ps)) (none_of ps session (λ i q is. none (suc i) q is)) (none 0 p refl)

-- such a session is promised no entry
pub free_of : (pieces : List OpenView) (session : ℕ) → HoldsNone pieces session → session ≢ 0 → times session (sessions_of pieces) ≡ 0
free_of pieces session none some = none_more 0 session (times session (map (λ (q : OpenView). q.hold.session) pieces)) (none_of pieces session none) (λ e. some (sym e))

pub free_open : (pieces : List OpenView) (session : ℕ) (sp : SpaceBooks) (b : Books) (told : Option State) → HoldsNone pieces session → session ≢ 0 → AreOpen pieces sp b told → times session sp.promised ≡ 0
free_open pieces session sp b told none some are = ap (times session) are.promised ∙ free_of pieces session none some

has_first : (p : OpenView) (session : ℕ) (n : ℕ) → p.hold.session ≡ session → 0 < cond {A = ℕ} (p.hold.session == session) 1 0 + n
has_first p session n is = grind (arith, is)

has_one : (pieces : List OpenView) (session i : ℕ) (p : OpenView) → slice_get pieces i ≡ Some p → p.hold.session ≡ session → 0 < times session (map (λ (q : OpenView). q.hold.session) pieces)
has_one [] session i p is own = absurd (let bad : None ≡ Some p = is in cc)
has_one (x ∷ xs) session zero p is own = has_first x session (times session (map (λ (q : OpenView). q.hold.session) xs)) (let e : x ≡ p = cc in ap (λ (q : OpenView). q.hold.session) e ∙ own)
has_one (x ∷ xs) session (suc i) p is own = let more = has_one xs session i p is own in omega (arith, more)

-- no session 0 holds one
pub no_session : (pieces : List OpenView) → IsOnce (sessions_of pieces) → HoldsNone pieces 0
no_session pieces once i p is own =
    let one = has_one pieces 0 i p is own in
    let most = once 0 in
    omega (arith, one, most)

-- the search has found none
pub not_found : (pieces : List OpenView) (session : ℕ) (r : Option ℕ) → MatchOption r (HoldsNone pieces session) (λ i. HoldsAt pieces session i) → is_some r ≡ false → HoldsNone pieces session
not_found pieces session None found none = found
not_found pieces session (Some i) found none = absurd (let bad : true ≡ false = none in cc)

-- ---- the pieces after a call

pub kept_open : (pieces : List OpenView) (session : ℕ) (sp space : SpaceBooks) (b new : Books) (told told' : Option State) → HoldsNone pieces session → space.promised ≡ sp.promised → held_by space.view.history ≡ held_by sp.view.history
    → ((p : OpenView) → p.hold.session ≢ session → IsOpen p sp.view b told → IsOpen p space.view new told') → AreOpen pieces sp b told → AreOpen pieces space new told'
kept_open pieces session sp space b new told told' none promised holds keeps are = record {
  promised = promised ∙ are.promised;
  once = are.once;
  holds = holds ∙ are.holds;
  each = λ i p is. keeps p (none i p is) (are.each i p is);
}

-- and after an event of no session
pub kept_all : (pieces : List OpenView) (sp space : SpaceBooks) (b new : Books) (told told' : Option State) → space.promised ≡ sp.promised → held_by space.view.history ≡ held_by sp.view.history
    → ((p : OpenView) → IsOpen p sp.view b told → IsOpen p space.view new told') → AreOpen pieces sp b told → AreOpen pieces space new told'
kept_all pieces sp space b new told told' promised holds keeps are = record {
  promised = promised ∙ are.promised;
  once = are.once;
  holds = holds ∙ are.holds;
  each = λ i p is. keeps p (are.each i p is);
}

-- of a volume that was just mounted none is held
pub none_open : (sp : SpaceBooks) (b : Books) (told : Option State) → sp.promised ≡ 0 ∷ [] → sp.view.history ≡ [] → AreOpen [] sp b told
none_open sp b told promised empty = record {
  promised = promised;
  once = λ k. none_twice k;
  holds = ap held_by empty;
  each = λ i p is. absurd (let bad : None ≡ Some p = is in cc);
}
  where
    none_twice : (k : ℕ) → times k (0 ∷ []) ≤ 1
    none_twice k = by_test (0 == k)
      where
        by_test : (d : Bool) → cond {A = ℕ} d 1 0 + 0 ≤ 1
        by_test true = omega arith
        by_test false = omega arith

-- ---- the holds after its entries

holds_kept : (before now : List Entry) (e : Entry) → now ≡ before ++ e ∷ [] → KeepsHolds e.call e.reply → held_by now ≡ held_by before
holds_kept before now e is keeps = ap held_by is ∙ entry_keeps_holds before e keeps

-- no entry came, or one of a call that leaves the holds
pub holds_answered : {E : Type 0} (before now : List Entry) (session tag : ℕ) (call : Call) (r : Result Unit E) → keeps_holds call ≡ true → OnOk r (HasEntry before now session tag call) → OnErr r (now ≡ before) → held_by now ≡ held_by before
holds_answered before now session tag call (Ok done) keeps entry none = holds_kept before now _ entry.entry.appended (inl keeps)
holds_answered before now session tag call (Err fault) keeps entry none = ap held_by none

-- nor did one come of a call that was put off
pub holds_tried : (before now : List Entry) (session tag : ℕ) (call : Call) (r : Result Outcome AllocError) → keeps_holds call ≡ true → IfOk r (HasTried before now session tag call) → OnErr r (now ≡ before) → held_by now ≡ held_by before
holds_tried before now session tag call (Ok Replied) keeps tried none = holds_kept before now _ tried.entry.appended (inl keeps)
holds_tried before now session tag call (Ok (Drain back)) keeps tried none = ap held_by tried.1
holds_tried before now session tag call (Err fault) keeps tried none = ap held_by none

holds_failed : (before now : List Entry) (session tag : ℕ) (fault : SyncFault) → HasFailedSync before now session tag fault → held_by now ≡ held_by before
holds_failed before now session tag (syncs.Disk from to stops) failed = holds_kept before now _ failed.appended (inl refl)
holds_failed before now session tag (syncs.Stopped durable faults) failed = holds_kept before now _ failed.appended (inl refl)
holds_failed before now session tag syncs.NoMemory failed = ap held_by failed

pub holds_synced : (before now : List Entry) (session tag : ℕ) (r : Result ℕ SyncFault) → IfOk r (λ n. HasEntryOf before now session tag calls.Sync (replies.Synced n)) → IfErr r (HasFailedSync before now session tag) → held_by now ≡ held_by before
holds_synced before now session tag (Ok n) entry failed = holds_kept before now _ entry.appended (inl refl)
holds_synced before now session tag (Err fault) entry failed = holds_failed before now session tag fault failed

-- the holds without the one that was taken last
without_last_is : (session id : ℕ) (holds : List Hold) (h : Hold) → is_hold_of session id h ≡ true → without_last (holds ++ h ∷ []) session id ≡ holds
without_last_is session id [] h is = ap (λ (b : Bool). cond {A = List Hold} b [] (h ∷ [])) is
without_last_is session id (x ∷ xs) h is =
    ap (λ (b : Bool). cond {A = List Hold} b (x ∷ without_last (xs ++ h ∷ []) session id) (cond {A = List Hold} (is_hold_of session id x) (xs ++ h ∷ []) (x ∷ xs ++ h ∷ []))) (any_last session id xs h is)
    ∙ ap (λ (hs : List Hold). x ∷ hs) (without_last_is session id xs h is)

-- a hold that was taken and let go leaves those that were there
holds_released : (before now : List Entry) (session tag id at count : ℕ) (w : Bool) (given : List ℕ → Type 0) → HasReleased before now session tag (calls.Hold id at count w) id given → held_by now ≡ held_by before
holds_released before now session tag id at count w given r =
    let hold : Hold = hold_as session id at count w in
    let own = own_hold session id at count w in
    let taken : Entry = record { session = session; tag = tag; stamp = r.stamp; call = calls.Hold id at count w; reply = replies.Done } in
    let gone : Entry = record { session = session; tag = tag; stamp = r.later; call = calls.Release id r.bytes r.whole r.from r.upto; reply = replies.Done } in
    let mid : held_by (before ++ taken ∷ []) ≡ held_by before ++ hold ∷ [] = entry_is_held before taken in
    ap held_by r.appended
    ∙ entry_is_held (before ++ taken ∷ []) gone
    ∙ ap (λ (hs : List Hold). without_hold hs session id (last_hold hs session id)) mid
    ∙ ap (λ (o : Option Hold). without_hold (held_by before ++ hold ∷ []) session id o) (last_is session id (held_by before) hold own)
    ∙ without_last_is session id (held_by before) hold own

-- so does one that wasn't taken
pub holds_untaken : (before now : List Entry) (session tag : ℕ) (call : Call) → HasUntaken before now session tag call → held_by now ≡ held_by before
holds_untaken before now session tag call u = holds_kept before now _ u.entry.appended (inr u.refused)

pub holds_pieced : {E : Type 0} (before now : List Entry) (session tag id at count : ℕ) (w : Bool) (given : List ℕ → Type 0) (r : Result Unit E) → OnOk r (HasPiece before now session tag (calls.Hold id at count w) id given) → OnErr r (now ≡ before) → held_by now ≡ held_by before
holds_pieced before now session tag id at count w given (Ok done) (inl untaken) none = holds_untaken before now session tag (calls.Hold id at count w) untaken
holds_pieced before now session tag id at count w given (Ok done) (inr released) none = holds_released before now session tag id at count w given released
holds_pieced before now session tag id at count w given (Err fault) entries none = ap held_by none
