-- The entries of a piece: of its hold, and where that was taken of its release.
use Rattle.std.proofs.Common.{◌≡◌, ◌≤◌, ◌++◌, ◌⊎◌, ⊎_elim, inl, inr, ℕ, ℤ, List, [], ◌∷◌, Bool, true, false, Option, Some, None, Result, Ok, Err, IfErr, refl, sym, ◌∙◌, ap, subst, arith}
use Rattle.bfs_disk.specs.State.{State}
use Rattle.bfs_tree.specs.declared.call.Call.{Call}
use Rattle.bfs_tree.specs.declared.call.Call.TheVariants as calls
use Rattle.bfs_tree.specs.declared.reply.Reply.{Reply}
use Rattle.bfs_tree.specs.declared.reply.Reply.TheVariants as replies
use Rattle.bfs_tree.specs.declared.reply.Entry.{Entry}
use Rattle.bfs_tree.specs.Histories.{Mounted}
use Rattle.bfs_device.specs.Books.{Books}
use Rattle.bfs_device.specs.declared.journal.DeviceFault.{DeviceFault}
use Rattle.bfs_device.specs.declared.journal.DeviceFault.TheVariants as device
use Rattle.bfs_device.specs.declared.journal.Stop.{Stop}
use Rattle.bfs_commit.specs.Books.{SpaceBooks}
use Rattle.bfs_pieces.specs.Pieces.{HasPieceCause}
use Rattle.bfs_commit.specs.Entries.{HasReplyIn, IsAnsweredIn, IsDeviceEnd, IsEnded}
use Rattle.bfs_commit.specs.Held.{HasGone, HasLetGo, taken_entry}
use Rattle.bfs_commit.specs.Pieces.{HasHoldIn, HasReleased, HasReleaseCause, HasUntaken, IsHoldIn, IsReleaseCause}

-- ---- the last entry

abbrev last_of : Entry → List Entry → Entry
last_of d [] = d
last_of d (x ∷ xs) = last_of x xs

last_is : (d : Entry) (xs : List Entry) (a : Entry) → last_of d (xs ++ a ∷ []) ≡ a
last_is d [] a = refl
last_is d (x ∷ xs) a = last_is x xs a

last_same : (xs ys : List Entry) (a b : Entry) → xs ++ a ∷ [] ≡ ys ++ b ∷ [] → a ≡ b
last_same xs ys a b same = sym (last_is a xs a) ∙ ap (last_of a) same ∙ last_is a ys b

-- ---- counts over a longer time

ended_later : (old : Option Stop) (faults later more : ℕ) (reply : Reply) → later ≤ more → IsDeviceEnd old faults later reply → IsDeviceEnd old faults more reply
ended_later old faults later more (replies.DiskFault before after stops) le cause = let high = cause.3 in (cause.0, cause.1, cause.2, omega (arith, le, high), cause.4)
ended_later old faults later more (replies.Stopped durable count) le cause = cause
ended_later old faults later more _ le cause = absurd cause

is_ended_later : (before now : List Entry) (session tag faults later more : ℕ) (call : Call) (old : Option Stop) → later ≤ more → IsEnded before now session tag call old faults later → IsEnded before now session tag call old faults more
is_ended_later before now session tag faults later more call old le e = record { reply = e.reply; entry = e.entry; cause = ended_later old faults later more e.reply le e.cause }

reply_later : (old new : SpaceBooks) (faults later more session tag : ℕ) (call : Call) → later ≤ more → HasReplyIn old new faults later session tag call → HasReplyIn old new faults more session tag call
reply_later old new faults later more session tag call le r =
    let high = r.upto in
    record { at = r.at; books = r.books; now = r.now; begun = r.begun; ended = r.ended; same = r.same; rest = r.rest; from = r.from; upto = omega (arith, high, le); replied = r.replied }

pub hold_in : (old mid : SpaceBooks) (faults later more session tag : ℕ) (call : Call) (stop : Option Stop) → later ≤ more
    → HasReplyIn old mid faults later session tag call ⊎ IsEnded old.view.history mid.view.history session tag call stop faults later → HasHoldIn old faults more session tag call stop
hold_in old mid faults later more session tag call stop le by = record {
  held = mid;
  replied = ⊎_elim (λ r. inl (reply_later old mid faults later more session tag call le r)) (λ e. inr (is_ended_later old.view.history mid.view.history session tag faults later more call stop le e)) by;
}

pub is_hold_in : (t0 : Mounted) (old mid : SpaceBooks) (b : Books) (told : Option State) (faults later more session tag : ℕ) (call : Call) (stop : Option Stop) → later ≤ more
    → IsAnsweredIn t0 old mid b told session tag call ⊎ IsEnded old.view.history mid.view.history session tag call stop faults later → IsHoldIn t0 old faults more session tag call stop
is_hold_in t0 old mid b told faults later more session tag call stop le by = record {
  held = mid;
  books = b;
  told = told;
  answered = ⊎_elim (λ r. inl r) (λ e. inr (is_ended_later old.view.history mid.view.history session tag faults later more call stop le e)) by;
}

-- ---- a release

-- the cause of one, by the fault of its piece
pub gone_by : (before now : List Entry) (session tag id faults later : ℕ) (all : List ℕ) (made : Result Unit DeviceFault) → HasLetGo before now session tag id made all → IfErr made (HasPieceCause None faults later) → HasGone before now session tag id faults later all
gone_by before now session tag id faults later all (Ok done) let_go cause = record {
  bytes = let_go.bytes;
  whole = let_go.whole;
  from = let_go.from;
  upto = let_go.upto;
  entry = let_go.entry;
  given = λ is. let_go.so.0;
  none = λ is. absurd (let bad : true ≡ false = sym let_go.so.1 ∙ is in cc);
  cause = subst (λ (w : Bool). IsReleaseCause None faults later w let_go.from let_go.upto) (sym let_go.so.1) (let_go.so.2, let_go.so.3);
}
gone_by before now session tag id faults later all (Err (device.Disk first last stops)) let_go cause = record {
  bytes = let_go.bytes;
  whole = let_go.whole;
  from = let_go.from;
  upto = let_go.upto;
  entry = let_go.entry;
  given = λ is. absurd (let bad : true ≡ false = sym is ∙ let_go.so.1 in cc);
  none = λ is. let_go.so.0;
  cause =
      let from_is : let_go.from ≡ first = ap (λ (p : ℕ × ℕ). p.0) let_go.so.2 in
      let upto_is : let_go.upto ≡ last = ap (λ (p : ℕ × ℕ). p.1) let_go.so.2 in
      subst (λ (w : Bool). IsReleaseCause None faults later w let_go.from let_go.upto) (sym let_go.so.1)
      (subst (λ (x : ℕ). IsReleaseCause None faults later false x let_go.upto) (sym from_is)
      (subst (λ (x : ℕ). IsReleaseCause None faults later false first x) (sym upto_is) (inl (refl, cause.1, cause.2, cause.3))));
}
gone_by before now session tag id faults later all (Err (device.Stopped durable count)) let_go cause = absurd (let bad : None ≡ Some (let s : Stop = record { durable = durable; faults = count } in s) = cause in cc)

-- its entries
pub released_entries : (before mid now : List Entry) (session tag id at count faults later : ℕ) (w : Bool) (stamp : ℤ) (all : List ℕ) → mid ≡ before ++ taken_entry session tag stamp id at count w ∷ [] → HasGone mid now session tag id faults later all
    → HasReleased before now session tag (calls.Hold id at count w) id (λ given. given ≡ all)
released_entries before mid now session tag id at count faults later w stamp all appended gone = record {
  stamp = stamp;
  later = gone.entry.stamp;
  bytes = gone.bytes;
  whole = gone.whole;
  from = gone.from;
  upto = gone.upto;
  appended = gone.entry.appended ∙ ap (λ (h : List Entry). h ++ (let e : Entry = record { session = session; tag = tag; stamp = gone.entry.stamp; call = calls.Release id gone.bytes gone.whole gone.from gone.upto; reply = replies.Done } in e) ∷ []) appended;
  all = gone.given;
  none = gone.none;
}

cause_earlier : (old faults later from upto : ℕ) (whole : Bool) → old ≤ faults → IsReleaseCause None faults later whole from upto → IsReleaseCause None old later whole from upto
cause_earlier old faults later from upto true le cause = cause
cause_earlier old faults later from upto false le cause = ⊎_elim (λ c. (let low = c.1 in inl (c.0, omega (arith, le, low), c.2, c.3))) (λ c. inr c) cause

-- and its cause
pub released_cause : (before now : List Entry) (session tag id old faults later : ℕ) (all : List ℕ) (stop : Option Stop) → stop ≡ None → old ≤ faults → HasGone before now session tag id faults later all → (any : List Entry) → HasReleaseCause any now stop old later
released_cause before now session tag id old faults later all stop going le gone any front e same other bytes whole from upto is =
    let r : Entry = record { session = session; tag = tag; stamp = gone.entry.stamp; call = calls.Release id gone.bytes gone.whole gone.from gone.upto; reply = replies.Done } in
    let last : e ≡ r = last_same front before e r (sym same ∙ gone.entry.appended) in
    let call : calls.Release other bytes whole from upto ≡ calls.Release id gone.bytes gone.whole gone.from gone.upto = sym is ∙ ap (λ (x : Entry). x.call) last in
    let w : gone.whole ≡ whole = cc in
    let f : gone.from ≡ from = cc in
    let u : gone.upto ≡ upto = cc in
    subst (λ (s : Option Stop). IsReleaseCause s old later whole from upto) (sym going)
    (subst (λ (x : Bool). IsReleaseCause None old later x from upto) w
    (subst (λ (x : ℕ). IsReleaseCause None old later gone.whole x upto) f
    (subst (λ (x : ℕ). IsReleaseCause None old later gone.whole gone.from x) u (cause_earlier old faults later gone.from gone.upto gone.whole le gone.cause))))

-- a hold that wasn't taken is no release
pub untaken_cause : (before now : List Entry) (session tag id at count faults later : ℕ) (w : Bool) (stop : Option Stop) → HasUntaken before now session tag (calls.Hold id at count w) → HasReleaseCause before now stop faults later
untaken_cause before now session tag id at count faults later w stop untaken front e same other bytes whole from upto is =
    let h : Entry = record { session = session; tag = tag; stamp = untaken.entry.stamp; call = calls.Hold id at count w; reply = untaken.reply } in
    let last : e ≡ h = last_same front before e h (sym same ∙ untaken.entry.appended) in
    let call : calls.Release other bytes whole from upto ≡ calls.Hold id at count w = sym is ∙ ap (λ (x : Entry). x.call) last in
    absurd (cc)
