-- What has become of a piece that was asked for once.
use Rattle.std.proofs.Common.{◌≡◌, ◌≤◌, ◌<◌, ◌+◌, ◌/◌, ◌++◌, ℕ, List, [], ◌∷◌, length, Bool, true, false, Option, Some, None, Result, Ok, Err, IfOk, OnOk, OnErr, refl, sym, ◌∙◌, ap, subst, arith}
use Rattle.std.specs.Prelude.{slice_get, slice_index}
use Rattle.std.specs.List.{All}
use Rattle.bfs_disk.specs.State.{State}
use Rattle.bfs_txn.specs.Faults.{Counts}
use Rattle.bfs_tree.specs.declared.call.Call.{Call}
use Rattle.bfs_tree.specs.declared.call.Call.TheVariants as calls
use Rattle.bfs_tree.specs.declared.reply.Reply.{Reply}
use Rattle.bfs_tree.specs.declared.reply.Reply.TheVariants as replies
use Rattle.bfs_tree.specs.declared.reply.Entry.{Entry}
use Rattle.bfs_tree.specs.Histories.{Mounted, drawn, last_stamp}
use Rattle.bfs_tree.specs.Steps.{is_done}
use Rattle.bfs_super.specs.declared.sup.Super.{Super}
use Rattle.bfs_sound.specs.Inodes.{stream_blocks}
use Rattle.bfs_device.specs.Layouts.{Layout, IsData, layout_of}
use Rattle.bfs_device.specs.Books.{Books}
use Rattle.bfs_device.specs.declared.journal.Stop.{Stop}
use Rattle.bfs_device.specs.Data.{IsRested}
use Rattle.bfs_commit.specs.Places.{piece_blocks}
use Rattle.bfs_core.specs.Spaces.{face}
use Rattle.bfs_core.specs.Cores.{newest_map}
use Rattle.bfs_core.proofs.Onward.{same_layout}
use Rattle.bfs_commit.specs.Books.{SpaceBooks, entry_noted}
use Rattle.std.specs.declared.alloc.AllocError.{AllocError}
use Rattle.bfs_commit.specs.Outcome.{Outcome}
use Rattle.bfs_commit.specs.Outcome.TheVariants.{Replied, Drain}
use Rattle.bfs_commit.specs.Faces.{HasEntered, HasOutcome, HasReplied, IsOutcome, promised_after}
use Rattle.bfs_commit.specs.Taken.{ArePlaces, HavePiece, IsTaken}
use Rattle.bfs_commit.specs.Entries.{HasEntryOf, HasReplyIn, IsAnsweredIn, IsDeviceEnd, IsEnded}
use Rattle.bfs_commit.specs.Held.{IsPlain, TookHold, taken_entry}
use Rattle.bfs_file_io.specs.Asking.{HasAsked, OnReply, asked_by}
use Rattle.bfs_commit.specs.Pieces.{HasUntaken}
use Rattle.bfs_commit.specs.Volumes.{AreFitted}
use Rattle.bfs_commit.proofs.Asked.{same_told}
use Rattle.bfs_commit.proofs.Ends.{tells_since}
use Rattle.bfs_file_io.proofs.Pieced.{place_at}
use Rattle.bfs_commit.proofs.Stays.{promised_same}

module _ (sp space : SpaceBooks) (b new : Books) (told told' : Option State) (session tag now id at count : ℕ) (w : Bool) (begun ended : Counts) (rests : IsRested b new) (same : told' ≡ told) (r : HasReplied begun ended sp space session tag now (calls.Hold id at count w)) where
  abbrev call : Call
  call = calls.Hold id at count w

  abbrev entry : Entry
  entry = entry_noted sp session tag now call r.reply

  -- it was taken
  pub took : (places : List ℕ) → AreFitted sp.view b → b.stop ≡ None → (w ≡ true → b.groups ≡ []) → IsPlain sp.view.history space.view.history → ((before : List Entry) (e : Entry) → space.view.history ≡ before ++ e ∷ [] → true ≡ is_done e.reply)
      → ArePlaces sp space at count places → ((st : State) → told ≡ Some st → HavePiece sp space (newest_map b st) id at count places) → TookHold sp space b new told' session tag id at count w places
  took places fitted going empty plain is_last are piece =
      let done : is_done r.reply ≡ true = sym (is_last sp.view.history entry r.history) in
      let reply : r.reply ≡ replies.Done = plain entry r.history done in
      let taken : IsTaken sp space = (entry, r.history, reply) in
      let found = are taken in
      record {
        stamp = drawn (last_stamp sp.view.history) now;
        appended = r.history ∙ ap (λ (x : Reply). sp.view.history ++ (let e : Entry = record { session = session; tag = tag; stamp = drawn (last_stamp sp.view.history) now; call = calls.Hold id at count w; reply = x } in e) ∷ []) reply;
        promised = r.promised ∙ ap (λ (x : Reply). promised_after session (calls.Hold id at count w) x sp.promised) reply;
        begun = going;
        going = ap (λ (x : Books). x.stop) rests ∙ going;
        empty = λ writes. ap (λ (x : Books). x.groups) rests ∙ empty writes;
        blocks = subst (λ (s : Super). All (IsData (layout_of s)) places) (sym (ap (λ (x : Books). x.sup) rests)) (subst (λ (l : Layout). All (IsData l) places) (sym (same_layout sp.view.sup b.sup fitted.geometry)) found.1);
        has = record {
          many = found.0 ∙ ap (λ (s : Super). piece_blocks s.block_size at count) (sym r.same.sup);
          are = λ st is.
              subst (λ (m : ℕ → Option (List ℕ)). (i : ℕ) → i < length places → slice_get (stream_blocks (face space.view m) id) (at / space.view.sup.block_size + i) ≡ Some (slice_index places i)) (sym (same_told b new st rests))
              (place_at space.view.sup.block_size at count (stream_blocks (face space.view (newest_map b st)) id) places (piece st (sym same ∙ is) taken));
        };
      }

  -- it was refused
  pub refused : ((before : List Entry) (e : Entry) → space.view.history ≡ before ++ e ∷ [] → false ≡ is_done e.reply) → HasUntaken sp.view.history space.view.history session tag (calls.Hold id at count w) × (space.promised ≡ sp.promised)
  refused is_last =
      let none : is_done r.reply ≡ false = sym (is_last sp.view.history entry r.history) in (
        record { reply = r.reply; refused = none; entry = record { stamp = drawn (last_stamp sp.view.history) now; appended = r.history } },
        r.promised ∙ promised_same session id at count w r.reply sp.promised none,
      )

pub replied_in : (sp space : SpaceBooks) (session tag now faults later : ℕ) (call : Call) (begun ended : Counts) → HasReplied begun ended sp space session tag now call → faults ≤ begun.faults → ended.faults ≤ later → HasReplyIn sp space faults later session tag call
replied_in sp space session tag now faults later call begun ended r low high = record { at = sp; books = space; now = now; begun = begun; ended = ended; same = refl; rest = refl; from = low; upto = high; replied = r }

pub answered_in : (t0 : Mounted) (sp space : SpaceBooks) (b new : Books) (told told' : Option State) (st : State) (session tag now : ℕ) (call : Call) → IsRested b new → told' ≡ told → told ≡ Some st → HasEntered t0 sp space (newest_map b st) session tag now call → IsAnsweredIn t0 sp space new told' session tag call
answered_in t0 sp space b new told told' st session tag now call rests same is e =
    record { at = sp; books = space; map = newest_map b st; now = now; same = refl; rest = refl; tells = tells_since b new told told' st rests same is; entered = e }

-- ---- from an earlier history that is the same

pub took_from : (old mid new : SpaceBooks) (b bm later : Books) (told : Option State) (session tag id at count : ℕ) (w : Bool) (places : List ℕ) → mid.view.history ≡ old.view.history → mid.promised ≡ old.promised → b.stop ≡ None → TookHold mid new bm later told session tag id at count w places → TookHold old new b later told session tag id at count w places
took_from old mid new b bm later told session tag id at count w places same promises begun t = record {
  stamp = t.stamp;
  appended = t.appended ∙ ap (λ (h : List Entry). h ++ taken_entry session tag t.stamp id at count w ∷ []) same;
  promised = t.promised ∙ ap (λ (xs : List ℕ). xs ++ session ∷ []) promises;
  begun = begun;
  going = t.going;
  empty = t.empty;
  blocks = t.blocks;
  has = t.has;
}

pub reply_from : (old mid new : SpaceBooks) (faults f later session tag : ℕ) (call : Call) → mid.view.history ≡ old.view.history → faults ≤ f → HasReplyIn mid new f later session tag call → HasReplyIn old new faults later session tag call
reply_from old mid new faults f later session tag call same le r =
    let low = r.from in
    record { at = r.at; books = r.books; now = r.now; begun = r.begun; ended = r.ended; same = r.same ∙ same; rest = r.rest; from = omega (arith, le, low); upto = r.upto; replied = r.replied }

pub answered_from : (t0 : Mounted) (old mid new : SpaceBooks) (b : Books) (told : Option State) (session tag : ℕ) (call : Call) → mid.view.history ≡ old.view.history → IsAnsweredIn t0 mid new b told session tag call → IsAnsweredIn t0 old new b told session tag call
answered_from t0 old mid new b told session tag call same r = record { at = r.at; books = r.books; map = r.map; now = r.now; same = r.same ∙ same; rest = r.rest; tells = r.tells; entered = r.entered }

pub untaken_from : (old mid new : SpaceBooks) (session tag : ℕ) (call : Call) → mid.view.history ≡ old.view.history → HasUntaken mid.view.history new.view.history session tag call → HasUntaken old.view.history new.view.history session tag call
untaken_from old mid new session tag call same u = subst (λ (h : List Entry). HasUntaken h new.view.history session tag call) same u

-- what the device has ended was not taken
pub ended_untaken : (before now : List Entry) (session tag faults later : ℕ) (call : Call) (old : Option Stop) → IsEnded before now session tag call old faults later → HasUntaken before now session tag call
ended_untaken before now session tag faults later call old e = record { reply = e.reply; refused = by_reply e.reply e.cause; entry = e.entry }
  where
    by_reply : (reply : Reply) → IsDeviceEnd old faults later reply → is_done reply ≡ false
    by_reply (replies.DiskFault from upto stops) cause = refl
    by_reply (replies.Stopped durable count) cause = refl
    by_reply _ cause = absurd cause

pub ended_from : (old mid new : SpaceBooks) (session tag faults f later : ℕ) (call : Call) (stop bm : Option Stop) → mid.view.history ≡ old.view.history → bm ≡ stop → faults ≤ f → IsEnded mid.view.history new.view.history session tag call bm f later → IsEnded old.view.history new.view.history session tag call stop faults later
ended_from old mid new session tag faults f later call stop bm same stops le e = subst (λ (s : Option Stop). IsEnded old.view.history new.view.history session tag call s faults later) stops (record {
  reply = e.reply;
  entry = subst (λ (h : List Entry). HasEntryOf h new.view.history session tag call e.reply) same e.entry;
  cause = by_reply e.reply e.cause;
})
  where
    by_reply : (reply : Reply) → IsDeviceEnd bm f later reply → IsDeviceEnd bm faults later reply
    by_reply (replies.DiskFault from upto stop) cause = let low = cause.1 in (cause.0, omega (arith, le, low), cause.2, cause.3, cause.4)
    by_reply (replies.Stopped durable count) cause = cause
    by_reply _ cause = absurd cause

-- ---- by the result

module _ (sp space : SpaceBooks) (b new : Books) (told told' : Option State) (session tag now id at count : ℕ) (w : Bool) (begun ended : Counts) (rests : IsRested b new) (same : told' ≡ told) where
  abbrev hold_call : Call
  hold_call = calls.Hold id at count w

  pub asked_is : (r : Result Outcome AllocError) (done : Bool) (places : List ℕ) → AreFitted sp.view b → b.stop ≡ None → (w ≡ true → b.groups ≡ []) → IfOk r (HasOutcome begun ended sp space session tag now (calls.Hold id at count w)) → IfOk r (λ o. IsPlain sp.view.history space.view.history)
      → ((before : List Entry) (e : Entry) → space.view.history ≡ before ++ e ∷ [] → done ≡ is_done e.reply) → IfOk r (λ o. ArePlaces sp space at count places) → ((st : State) → told ≡ Some st → IfOk r (λ o. HavePiece sp space (newest_map b st) id at count places))
      → IfOk (asked_by r done) (HasAsked sp space b new told' session tag id at count w places)
  asked_is (Ok Replied) true places fitted going empty noted plain last are piece = took sp space b new told told' session tag now id at count w begun ended rests same noted places fitted going empty plain last are piece
  asked_is (Ok Replied) false places fitted going empty noted plain last are piece = refused sp space b new told told' session tag now id at count w begun ended rests same noted last
  asked_is (Ok (Drain back)) done places fitted going empty noted plain last are piece = noted.1
  asked_is (Err e) done places fitted going empty noted plain last are piece = tt

  pub asked_noted : (r : Result Outcome AllocError) (done : Bool) (faults later : ℕ) → faults ≤ begun.faults → ended.faults ≤ later → IfOk r (HasOutcome begun ended sp space session tag now (calls.Hold id at count w)) → IfOk (asked_by r done) (OnReply (HasReplyIn sp space faults later session tag (calls.Hold id at count w)))
  asked_noted (Ok Replied) true faults later low high noted = replied_in sp space session tag now faults later (calls.Hold id at count w) begun ended noted low high
  asked_noted (Ok Replied) false faults later low high noted = replied_in sp space session tag now faults later (calls.Hold id at count w) begun ended noted low high
  asked_noted (Ok (Drain back)) done faults later low high noted = tt
  asked_noted (Err e) done faults later low high noted = tt

  pub asked_answered : (t0 : Mounted) (st : State) → told ≡ Some st → (r : Result Outcome AllocError) (done : Bool) → IfOk r (IsOutcome t0 sp space (newest_map b st) session tag now (calls.Hold id at count w)) → IfOk (asked_by r done) (OnReply (IsAnsweredIn t0 sp space new told' session tag (calls.Hold id at count w)))
  asked_answered t0 st is (Ok Replied) true e = answered_in t0 sp space b new told told' st session tag now (calls.Hold id at count w) rests same is e
  asked_answered t0 st is (Ok Replied) false e = answered_in t0 sp space b new told told' st session tag now (calls.Hold id at count w) rests same is e
  asked_answered t0 st is (Ok (Drain back)) done e = tt
  asked_answered t0 st is (Err f) done e = tt

pub asked_none : (r : Result Outcome AllocError) (done : Bool) (P : Type 0) → OnErr r P → OnErr (asked_by r done) P
asked_none (Ok Replied) true P none = tt
asked_none (Ok Replied) false P none = tt
asked_none (Ok (Drain back)) done P none = tt
asked_none (Err e) done P none = none

pub ok_from : {A E : Type 0} (r : Result A E) (P Q : A → Type 0) → ((x : A) → P x → Q x) → IfOk r P → IfOk r Q
ok_from (Ok x) P Q turn p = turn x p
ok_from (Err e) P Q turn p = tt

pub done_from : {A E : Type 0} (r : Result A E) (P Q : Type 0) → (P → Q) → OnOk r P → OnOk r Q
done_from (Ok x) P Q turn p = turn p
done_from (Err e) P Q turn p = tt

pub err_from : {A E : Type 0} (r : Result A E) (P Q : Type 0) → (P → Q) → OnErr r P → OnErr r Q
err_from (Ok x) P Q turn p = tt
err_from (Err e) P Q turn p = turn p
