-- What a recovery leaves is replayed to the same.
use Rattle.std.proofs.Common.{◌≡◌, ◌≢◌, inr, ⊎_elim, ℕ, ℤ, pos, negsuc, ◌*◌, ◌≤◌, ◌≤ℤ◌, List, length, refl, sym, ◌∙◌, ap, subst, arith, Bool}
use Rattle.std.specs.Prelude.{Option, if◌then◌else◌, ◌==◌}
use Rattle.std.proofs.lemmas.Int.{ints}
use Rattle.std.proofs.lemmas.Bool.{cond-false, ne_eqb}
use Rattle.bfs_base.specs.Images.{overwritten}
use Rattle.bfs_disk.specs.State.{State, Tells, Holds}
use Rattle.bfs_disk.specs.Disk.{MayLeave}
use Rattle.bfs_disk.proofs.Images.{quiet_image}
use Rattle.bfs_super.specs.declared.sup.Super.{Super}
use Rattle.bfs_super.specs.Conditions.{natural, IsValid}
use Rattle.bfs_super.specs.Geometry.{geometry_of}
use Rattle.bfs_super.specs.Layout.{super_at, sector_of}
use Rattle.bfs_log.specs.Replay.{Home, Valid, Replayed, AgreeBut, Logs, super_of, block_sectors, blocks_of, emptied, homes_of, log_from, log_to, with_homes}
use Rattle.bfs_log.proofs.Valids.{valid_by}
use Rattle.bfs_log.specs.Replay.{Malformed as IsMalformed}
use Rattle.bfs_log.specs.declared.entry.EntryFault.{EntryFault}
use Rattle.bfs_log.proofs.Logged.{logs_homes}
use Rattle.bfs_log.proofs.Replays.{replayed_empty, replayed_size, replayed_super, stopped}
use Rattle.bfs_log.proofs.Emptied.{emptied_valid}
use Rattle.bfs_replay.specs.Homing.{IsLogOf, Closed, ClosedOrNot}
use Rattle.bfs_replay.proofs.Homes.{of_held}
use Rattle.bfs_replay.specs.Steps.{HasEntriesIn, HasEntries, HasFaultIn}
use Rattle.bfs_replay.specs.Recover.{GoesOn, IsRecovered}
use Rattle.bfs_replay.specs.declared.log.Halt.{Halt}
use Rattle.bfs_replay.specs.declared.log.Halt.TheVariants as halts

-- a crash of a quiet disk leaves its image
pub held_image : (told : Option State) (image c : List ℕ) → Tells told (Holds image) → MayLeave told c → c ≡ image
held_image told image c held left = quiet_image held.0 image c held.2.quiet held.2.reads (subst (λ o. MayLeave o c) held.1 left)

natural_apart : (a b : ℤ) → pos 0 ≤ℤ a → pos 0 ≤ℤ b → natural a ≡ natural b → a ≡ b
natural_apart (pos m) (pos n) low high same = ap pos same
natural_apart (negsuc m) b low high same = absurd (omega (arith, ints, low))
natural_apart (pos m) (negsuc n) low high same = absurd (omega (arith, ints, high))

-- places that differ are different numbers
pub log_full : (s : Super) → IsValid s → s.log_start ≢ s.log_end → log_from s ≢ log_to s
log_full s valid full same = full (natural_apart s.log_start s.log_end valid.log_start.0 valid.log_end.0 same)

module _ (image : List ℕ) (s : Super) (is : super_of image ≡ s) (valid : Valid image) (full : log_from s ≢ log_to s) (log : HasEntriesIn image s) where
  abbrev pub all : List Home
  all = homes_of log.0

  abbrev pub result : List ℕ
  result = overwritten 1 (sector_of (emptied s)) (with_homes (block_sectors s) all image)

  pub log_of : IsLogOf image s all
  log_of = record { super = is; valid = valid; homes = logs_homes (geometry_of s) (blocks_of image) (log_from s) (log_to s) log.0 log.1 }

  pub replayed : Replayed image result
  replayed = record {
    valid = valid;
    entries = log.0;
    log = subst (λ (t : Super). Logs (geometry_of t) (blocks_of image) (log_from t) (log_to t) log.0) (sym is) log.1;
    same = subst (λ (t : Super). result ≡ (if log_from t == log_to t then image else overwritten 1 (sector_of (emptied t)) (with_homes (block_sectors t) all image))) (sym is)
        (sym (cond-false (log_from s == log_to s) image result (ne_eqb (log_from s) (log_to s) full)));
  }

  pub stopped_on : (c : List ℕ) → AgreeBut (block_sectors s) all image c → GoesOn image c
  unfolding replayed
  stopped_on c agree = inr (result, replayed, stopped image c result replayed (subst (λ (t : Super). AgreeBut (block_sectors t) all image c) (sym is) agree))

  module _ (again : super_at (sector_of (emptied s)) ≡ emptied s) where
    pub new_super : super_of result ≡ emptied s
    new_super =
        ap super_at (replayed_super image result replayed (subst (λ (t : Super). log_from t ≢ log_to t) (sym is) full))
        ∙ ap (λ (t : Super). super_at (sector_of (emptied t))) is ∙ again

    new_valid : Valid result
    new_valid =
        let size = replayed_size image result replayed in
        let room : natural s.num_blocks * s.block_size ≤ length image = subst (λ (t : Super). natural t.num_blocks * t.block_size ≤ length image) is valid.blocks in
        valid_by result (emptied s) new_super (emptied_valid s (subst IsValid is valid.super)) (omega (arith, valid.sectors, size)) (omega (arith, room, size))

    replayed_again : Replayed result result
    replayed_again = replayed_empty result new_valid (subst (λ (t : Super). log_from t ≡ log_to t) (sym new_super) refl)

    pub recovered : (quiet : Bool) (new : Option State) (found : Super) → found ≡ emptied s → Tells new (Holds result) → IsRecovered quiet image new found
    recovered quiet new found found_is holds = (result, replayed, (holds.0, holds.1, of_held quiet result holds.0 holds.2), found_is ∙ sym new_super)

  pub closed_on : (c : List ℕ) → ClosedOrNot (block_sectors s) all image (emptied s) c → GoesOn image c
  closed_on c left = ⊎_elim (stopped_on c)
      (λ (is_closed : Closed (block_sectors s) all image (emptied s) c). inr (result, replayed, subst (λ (x : List ℕ). Replayed x result) (sym is_closed.written) (replayed_again is_closed.again)))
      left

pub entries_in : (image : List ℕ) (s : Super) → super_of image ≡ s → HasEntries image → HasEntriesIn image s
entries_in image s is log = subst (λ (t : Super). HasEntriesIn image t) is log

pub malformed_by : (image : List ℕ) (fault : EntryFault) → Valid image → HasFaultIn image (super_of image) fault → IsMalformed image fault
malformed_by image fault valid found = record { valid = valid; entries = found.0; log = found.1 }

pub not_malformed : (halt : Halt) (fault : EntryFault) → halt ≡ halts.Failed → halt ≡ halts.Malformed fault → ⊥
not_malformed halt fault failed malformed = cc
