-- What has to be told below of a call.
use Rattle.std.proofs.Common.{◌≡◌, ◌<◌, inl, ⊎_elim, ℕ, List, Option, Some}
use Rattle.bfs_super.specs.Geometry.{geometry_of}
use Rattle.bfs_txn.specs.Changed.{over}
use Rattle.bfs_txn.specs.Told.{AreSized}
use Rattle.bfs_stream.specs.Sizes.{sizes_of}
use Rattle.bfs_stream.specs.Grown.{IsOfVolume}
use Rattle.bfs_tree.specs.declared.call.Call.{Call}
use Rattle.bfs_tree.specs.declared.call.Call.TheVariants as calls
use Rattle.bfs_tree.specs.declared.rows.Key.{Key}
use Rattle.bfs_tree.specs.Histories.{after}
use Rattle.bfs_core.specs.Spaces.{face}
use Rattle.bfs_shift.specs.Laws.{lists_of}
use Rattle.bfs_look.specs.Ready.{HasReady}
use Rattle.bfs_replies.specs.Books.{SpaceBooks}
use Rattle.bfs_replies.specs.Looks.{MaySee}
use Rattle.bfs_replies.proofs.Searching.{may_see}
use Rattle.bfs_replies.specs.Resting.{HasFound}
use Rattle.bfs_space.specs.Faces.{FacesFound, HasFace, MayFace}
use Rattle.bfs_space.proofs.Entering.{ready}

-- where the space stands over what is told, any call may be answered
pub may_face : (b : SpaceBooks) (m : ℕ → Option (List ℕ)) → HasFace b m → (call : Call) → MayFace b m call
may_face b m h (calls.IndexFind name low high) = inl h
may_face b m h _ = h

module _ (b : SpaceBooks) (m : ℕ → Option (List ℕ)) (volume : IsOfVolume (sizes_of b.view.sup) b.room) (some : 0 < b.view.sup.block_size) (used : b.room.tally.used ≡ b.view.used) (given : b.room.given ≡ b.view.given) where
  face_ready : HasFace b m → HasReady (geometry_of b.view.sup) b.room (over b.view.group m)
  face_ready h = record {
    tree = after h.t0 b.view.history;
    lists = lists_of (face b.view m) (after h.t0 b.view.history);
    ready = ready h.t0 b m h.face volume some used given;
  }

  face_finds : (name : List ℕ) (low high : Key) → FacesFound b m name low high → HasFound (geometry_of b.view.sup) (over b.view.group m) name low high
  face_finds name low high f = record {
    room = b.room;
    whole = over b.view.group f.whole;
    tree = after f.t0 b.view.history;
    lists = lists_of (face b.view f.whole) (after f.t0 b.view.history);
    ready = ready f.t0 b f.whole f.face volume some used given;
    says = f.says;
  }

  -- so a look at the call sees what it has to
  pub face_sees : AreSized b.view.sup.block_size (Some (over b.view.group m)) → (call : Call) → MayFace b m call → MaySee (geometry_of b.view.sup) b.room (over b.view.group m) call
  face_sees sized (calls.IndexFind name low high) h = ⊎_elim (λ all. may_see (geometry_of b.view.sup) b.room (over b.view.group m) sized (face_ready all) (calls.IndexFind name low high)) (face_finds name low high) h
  face_sees sized _ h = face_ready h
