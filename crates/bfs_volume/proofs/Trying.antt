-- What has become of a hold that was asked for once beside the pieces of other sessions.
use Rattle.std.proofs.Common.{◌≡◌, ◌<◌, ◌⊎◌, inl, inr, ◌/◌, ◌+◌, ◌++◌, ℕ, List, [], ◌∷◌, length, Bool, true, false, Option, Some, Result, Ok, Err, IfOk, OnErr, refl, sym, ◌∙◌, ap, subst}
use Rattle.std.specs.Prelude.{slice_get, slice_index}
use Rattle.std.specs.List.{All}
use Rattle.std.specs.declared.alloc.AllocError.{AllocError}
use Rattle.bfs_disk.specs.State.{State}
use Rattle.bfs_super.specs.declared.sup.Super.{Super}
use Rattle.bfs_txn.specs.Faults.{Counts}
use Rattle.bfs_tree.specs.declared.call.Call.{Call}
use Rattle.bfs_tree.specs.declared.call.Call.TheVariants as calls
use Rattle.bfs_tree.specs.declared.reply.Reply.{Reply}
use Rattle.bfs_tree.specs.declared.reply.Reply.TheVariants as replies
use Rattle.bfs_tree.specs.declared.reply.Entry.{Entry}
use Rattle.bfs_tree.specs.Histories.{drawn, last_stamp}
use Rattle.bfs_tree.specs.Steps.{is_done}
use Rattle.bfs_sound.specs.Inodes.{stream_blocks}
use Rattle.bfs_device.specs.Layouts.{Layout, IsData, layout_of}
use Rattle.bfs_device.specs.Books.{Books}
use Rattle.bfs_device.specs.Data.{IsRested}
use Rattle.bfs_core.specs.Spaces.{face}
use Rattle.bfs_core.specs.Cores.{newest_map}
use Rattle.bfs_core.proofs.Onward.{same_layout}
use Rattle.bfs_file_io.specs.Books.{SpaceBooks, entry_noted}
use Rattle.bfs_file_io.specs.Faces.{HasOutcome, HasReplied, promised_after}
use Rattle.bfs_file_io.specs.Places.{piece_blocks}
use Rattle.bfs_file_io.specs.Taken.{ArePlaces, HavePiece, IsTaken}
use Rattle.bfs_file_io.specs.Outcome.{Outcome}
use Rattle.bfs_file_io.specs.Outcome.TheVariants.{Replied, Drain}
use Rattle.bfs_volume.specs.Events.{HasTried}
use Rattle.bfs_file_io.specs.Held.{HasTriedHold, IsPlain, TookOpen, taken_entry}
use Rattle.bfs_file_io.specs.Pieces.{HasUntaken}
use Rattle.bfs_file_io.specs.Volumes.{AreFitted}
use Rattle.bfs_file_io.proofs.Asked.{same_told}
use Rattle.bfs_file_io.proofs.Pieced.{place_at}
use Rattle.bfs_file_io.proofs.Stays.{promised_same}

module _ (old sp space : SpaceBooks) (b new : Books) (told told' : Option State) (session tag now id at count : ℕ) (w : Bool) (begun ended : Counts) (rests : IsRested b new) (same : told' ≡ told) (history : sp.view.history ≡ old.view.history) (promises : sp.promised ≡ old.promised) where
  abbrev hold_call : Call
  hold_call = calls.Hold id at count w

  module _ (r : HasReplied begun ended sp space session tag now (calls.Hold id at count w)) where
    taken : (places : List ℕ) → AreFitted sp.view b → is_done r.reply ≡ true → IsPlain sp.view.history space.view.history → ArePlaces sp space at count places → ((st : State) → told ≡ Some st → HavePiece sp space (newest_map b st) id at count places)
        → TookOpen old space new told' session tag id at count w places
    taken places fitted done plain are piece =
        let reply : r.reply ≡ replies.Done = plain (entry_noted sp session tag now (calls.Hold id at count w) r.reply) r.history done in
        let taken_is : IsTaken sp space = (entry_noted sp session tag now (calls.Hold id at count w) r.reply, r.history, reply) in
        let found = are taken_is in
        record {
          stamp = drawn (last_stamp sp.view.history) now;
          appended = r.history ∙ ap (λ (x : Reply). sp.view.history ++ (let e : Entry = record { session = session; tag = tag; stamp = drawn (last_stamp sp.view.history) now; call = calls.Hold id at count w; reply = x } in e) ∷ []) reply
              ∙ ap (λ (h : List Entry). h ++ taken_entry session tag (drawn (last_stamp sp.view.history) now) id at count w ∷ []) history;
          promised = r.promised ∙ ap (λ (x : Reply). promised_after session (calls.Hold id at count w) x sp.promised) reply ∙ ap (λ (xs : List ℕ). xs ++ session ∷ []) promises;
          blocks = subst (λ (s : Super). All (IsData (layout_of s)) places) (sym (ap (λ (x : Books). x.sup) rests)) (subst (λ (l : Layout). All (IsData l) places) (sym (same_layout sp.view.sup b.sup fitted.geometry)) found.1);
          has = record {
            many = found.0 ∙ ap (λ (s : Super). piece_blocks s.block_size at count) (sym r.same.sup);
            are = λ st is.
                subst (λ (m : ℕ → Option (List ℕ)). (i : ℕ) → i < length places → slice_get (stream_blocks (face space.view m) id) (at / space.view.sup.block_size + i) ≡ Some (slice_index places i)) (sym (same_told b new st rests))
                (place_at space.view.sup.block_size at count (stream_blocks (face space.view (newest_map b st)) id) places (piece st (sym same ∙ is) taken_is));
          };
        }

    refused : is_done r.reply ≡ false → HasUntaken old.view.history space.view.history session tag (calls.Hold id at count w) × (space.promised ≡ old.promised)
    refused none = (
      record { reply = r.reply; refused = none; entry = record { stamp = drawn (last_stamp sp.view.history) now; appended = r.history ∙ ap (λ (h : List Entry). h ++ entry_noted sp session tag now (calls.Hold id at count w) r.reply ∷ []) history } },
      r.promised ∙ promised_same session id at count w r.reply sp.promised none ∙ promises,
    )

  -- it was taken or refused, or put off
  pub tried_is : (r : Result Outcome AllocError) (places : List ℕ) → AreFitted sp.view b → IfOk r (HasOutcome begun ended sp space session tag now (calls.Hold id at count w)) → IfOk r (λ o. IsPlain sp.view.history space.view.history)
      → IfOk r (λ o. ArePlaces sp space at count places) → ((st : State) → told ≡ Some st → IfOk r (λ o. HavePiece sp space (newest_map b st) id at count places))
      → IfOk r (HasTriedHold old space new told' session tag id at count w places)
  tried_is (Ok Replied) places fitted noted plain are piece = by_done (is_done noted.reply) refl
    where
      by_done : (d : Bool) → is_done noted.reply ≡ d → TookOpen old space new told' session tag id at count w places ⊎ (HasUntaken old.view.history space.view.history session tag (calls.Hold id at count w) × (space.promised ≡ old.promised))
      by_done true is = inl (taken noted places fitted is plain are piece)
      by_done false is = inr (refused noted is)
  tried_is (Ok (Drain back)) places fitted noted plain are piece = (ap (λ (x : SpaceBooks). x.view.history) noted.1 ∙ history, ap (λ (x : SpaceBooks). x.promised) noted.1 ∙ promises)
  tried_is (Err e) places fitted noted plain are piece = tt

  -- and it has an entry, or none
  pub tried_entry : (r : Result Outcome AllocError) → IfOk r (HasOutcome begun ended sp space session tag now (calls.Hold id at count w)) → IfOk r (HasTried old.view.history space.view.history session tag (calls.Hold id at count w))
  tried_entry (Ok Replied) noted = record { reply = noted.reply; entry = record { stamp = drawn (last_stamp sp.view.history) now; appended = noted.history ∙ ap (λ (h : List Entry). h ++ entry_noted sp session tag now (calls.Hold id at count w) noted.reply ∷ []) history } }
  tried_entry (Ok (Drain back)) noted = (noted.0, ap (λ (x : SpaceBooks). x.view.history) noted.1 ∙ history)
  tried_entry (Err e) noted = tt

pub none_tried : (r : Result Outcome AllocError) (old sp space : SpaceBooks) → sp.view.history ≡ old.view.history → sp.promised ≡ old.promised → OnErr r (space ≡ sp) → OnErr r ((space.view.history ≡ old.view.history) × (space.promised ≡ old.promised))
none_tried (Ok o) old sp space history promises none = tt
none_tried (Err e) old sp space history promises none = (ap (λ (x : SpaceBooks). x.view.history) none ∙ history, ap (λ (x : SpaceBooks). x.promised) none ∙ promises)
