use Rattle.std.proofs.Common.{◌≡◌, inl, Some, refl, sym, ap, subst}
use Rattle.bfs_bitmap.specs.Runs.{Room}
use Rattle.bfs_stream.specs.Grown.{IsOfVolume}
use Rattle.bfs_txn.specs.Changed.{over}
use Rattle.bfs_sound.specs.Need.{logged_need, need}
use Rattle.bfs_shift.specs.Shifts.{volume_in}
use Rattle.bfs_answers.specs.declared.answers.Looked.{Looked}
use Rattle.bfs_replies.specs.Kept.{IsKept, IsWithin, room_kept}
use Rattle.bfs_answers.specs.Called.{is_changed}
use Rattle.bfs_answers.specs.Looks.{FindsOwn, IsLooked}
use Rattle.bfs_answers.proofs.Done.{read_is_answered}
use Rattle.bfs_replies.proofs.Fits.{kept_of}
use Rattle.bfs_replies.proofs.Within.{within_none}
use Rattle.bfs_replies.proofs.search.reply_found.Goals as goal

pub returns-in-Answered-clause-replied : goal.returns-in-Answered-clause-replied
returns-in-Answered-clause-replied c = λ s w pairs tree lists holds idle stamp call ready looked.
    let reads = subst (λ (l : Looked). IsLooked s (over pairs w) tree holds call l) c.in-Answered.is looked in
    let room : c.keep.new.self ≡ room_kept c.args.bitmap.now = c.keep.ensures.given in
    let kept : IsKept s c.args.bitmap.now c.keep.new.self w pairs pairs tree holds stamp call c.in-Answered.reply =
    kept_of s c.args.bitmap.now c.args.bitmap.now c.keep.new.self w tree holds stamp call c.in-Answered.reply pairs pairs pairs (Some w) refl (λ k. refl) room c.keep.ensures.fits
    (read_is_answered s c.args.bitmap.now (over pairs w) tree holds lists (Some (over pairs w)) (is_changed pairs) stamp call c.in-Answered.reply ready refl (reads stamp)) in
    inl (record {
      kept = kept;
      own = subst FindsOwn c.in-Answered.is c.requires.own;
      unchanged = λ no. (refl, ap (λ (x : Room). x.tally.used) room);
      within = subst (λ (x : Room). IsWithin (logged_need (volume_in s (over pairs w)) tree call) (need (volume_in s (over pairs w)) tree call) c.args.bitmap.now x w pairs pairs) (sym room)
          (within_none c.args.bitmap.now w pairs (logged_need (volume_in s (over pairs w)) tree call) (need (volume_in s (over pairs w)) tree call));
    })

pub returns-in-Answered-clause-used : goal.returns-in-Answered-clause-used
returns-in-Answered-clause-used c = ap (λ (x : Room). x.tally.used) c.keep.ensures.given

pub returns-in-Answered-clause-volume : goal.returns-in-Answered-clause-volume
returns-in-Answered-clause-volume c = λ s of. subst (IsOfVolume s) (sym c.keep.ensures.given) (record { block_size = of.block_size; blocks = of.blocks; group_blocks = of.group_blocks })
