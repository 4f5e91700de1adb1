-- An image that recovers is mounted, unless the disk fails or memory is wanting.
use Rattle.std.proofs.Common.{◌≡◌, ⊎_elim, ℕ, ◌*◌, ◌/◌, List, ap, subst, arith}
use Rattle.bfs_super.specs.Conditions.{natural}
use Rattle.bfs_super.proofs.Refused.{refused_not_valid}
use Rattle.bfs_log.specs.Replay.{Replayed, Valid, super_of}
use Rattle.bfs_log.proofs.Replays.{replayed_one, replayed_sound}
use Rattle.bfs_tree.specs.Trees.{Tree}
use Rattle.bfs_sound.specs.Whole.{IsWhole, Recovers}
use Rattle.bfs_sound.proofs.Carried.{image_carried}
use Rattle.bfs_finding.specs.declared.finding.Finding.{Finding}
use Rattle.bfs_finding.proofs.Passes.{excludes}
use Rattle.bfs_check.specs.Checked.{IsFound, trimmed}
use Rattle.bfs_check.proofs.Trimmed.{trimmed_of_whole}
use Rattle.bfs_replay.specs.Recover.{IsShort}
use Rattle.bfs_replay.specs.declared.recovery.MountFault.TheVariants as faults
use Rattle.bfs_replay.proofs.Sizes.{sizes}
use Rattle.bfs_mount.specs.declared.mount.Unmounted.{Unmounted}
use Rattle.bfs_mount.specs.declared.mount.Unmounted.TheVariants.{Unread, Wrong}
use Rattle.bfs_mount.specs.Mounts.{IsHindered, IsUnmounted}

-- no finding is true of it
not_found : (image result : List ℕ) (tree : Tree) (finding : Finding) → Recovers image tree → Replayed image result → IsFound result finding → ⊥
not_found image result tree finding recovers replayed found =
    let whole : IsWhole result tree = subst (λ (i : List ℕ). IsWhole i tree) (replayed_one image recovers.result result recovers.replayed replayed) recovers.whole in
    ⊎_elim (λ is. excludes result finding tree is whole) (λ is. excludes (trimmed result) finding tree is.1 (trimmed_of_whole result is.0 image_carried tree whole)) found

-- and it isn't too short
not_short : (image : List ℕ) (sectors needed : ℕ) → Valid image → IsShort image sectors needed → ⊥
not_short image sectors needed valid is =
    let size : (super_of image).block_size ≡ 512 * ((super_of image).block_size / 512) = (sizes (super_of image) valid.super).0 in
    let same : natural (super_of image).num_blocks * (super_of image).block_size ≡ natural (super_of image).num_blocks * (512 * ((super_of image).block_size / 512)) = ap (λ (k : ℕ). natural (super_of image).num_blocks * k) size in
    let all : natural (super_of image).num_blocks * (super_of image).block_size ≡ 512 * (((super_of image).block_size / 512) * natural (super_of image).num_blocks) = omega (arith, same) in
    let inside = valid.blocks in
    let two = valid.sectors in
    let counted = is.0 in
    let less = is.1 in
    ⊎_elim (λ e. omega (arith, counted, less, two, e)) (λ e. let n = e.2 in omega (arith, counted, less, all, inside, n)) is.2

pub recovers_mounted : (image : List ℕ) (tree : Tree) (why : Unmounted) → Recovers image tree → IsUnmounted image why → IsHindered why
recovers_mounted image tree (Unread (faults.Short sectors needed)) recovers is = absurd (not_short image sectors needed recovers.replayed.valid is)
recovers_mounted image tree (Unread (faults.Super fault)) recovers is = absurd (refused_not_valid (super_of image) fault is.1 recovers.replayed.valid.super)
recovers_mounted image tree (Unread (faults.Entry fault)) recovers is = absurd (replayed_sound image recovers.result fault recovers.replayed is)
recovers_mounted image tree (Unread (faults.Disk before after)) recovers is = tt
recovers_mounted image tree (Unread faults.NoMemory) recovers is = tt
recovers_mounted image tree (Wrong finding) recovers is = absurd (not_found image is.0 tree finding recovers is.1 is.2)
