-- Faults of steps, and their causes, as those of a call.
use Rattle.std.proofs.Common.{◌≡◌, ℕ, List, Option, Some, None, sym, ◌∙◌, arith}
use Rattle.bfs_base.specs.declared.kind.KeyKind.TheVariants.{Text}
use Rattle.bfs_bitmap.specs.Runs.{Room, IsRunCause}
use Rattle.bfs_bitmap.specs.declared.fault.RunFault.{RunFault}
use Rattle.bfs_bitmap.specs.declared.fault.RunFault.TheVariants as run
use Rattle.bfs_node.specs.Page.{Row}
use Rattle.bfs_node.specs.declared.fault.TreeFault.{TreeFault}
use Rattle.bfs_node.specs.declared.fault.TreeFault.TheVariants as tree
use Rattle.bfs_pages.specs.Maps.{assoc}
use Rattle.bfs_pages.specs.Order.{Key}
use Rattle.bfs_stream.specs.Faults.{IsCauseIn}
use Rattle.bfs_stream.specs.Scans.{IsDamage}
use Rattle.bfs_stream.specs.Sizes.{Origin, Sizes}
use Rattle.bfs_stream.specs.declared.fault.GrowFault.{GrowFault}
use Rattle.bfs_stream.specs.declared.fault.GrowFault.TheVariants as grow
use Rattle.bfs_stream_pages.specs.Causes.{HasFailed}
use Rattle.bfs_txn.specs.Faults.{Counts, AreLater, IsCauseOf}
use Rattle.bfs_txn.specs.declared.fault.BlockFault.{BlockFault}
use Rattle.bfs_txn.specs.declared.fault.BlockFault.TheVariants as block
use Rattle.bfs_moves.specs.Refused.{IsPairFault, HasPairCause}
use Rattle.bfs_maps.specs.Refused.{IsUndone, IsPutFault, HasReadCause, HasPutCause}
use Rattle.bfs_moves.specs.Written.{IsFewFault, IsListFault, IsSoundFault}
use Rattle.bfs_txn.specs.Told.{with_block}
use Rattle.bfs_calls.specs.Done.{IsUnanswered, HasAnswerCause}
use Rattle.bfs_calls.specs.Faults.{of_run, put_fault}

-- a fault that has its cause is no damage
pub caused_whole : (old new : Counts) (f : BlockFault) → IsCauseOf old new f → ¬ IsDamage f
caused_whole old new (block.Disk before after) cause bad = bad
caused_whole old new (block.Stopped durable faults) cause bad = bad
caused_whole old new (block.Damaged b) cause bad = cause
caused_whole old new block.NoMemory cause bad = bad

pub caused_in : (old new : Counts) (f : BlockFault) → IsCauseOf old new f → IsCauseIn old new f
caused_in old new (block.Disk before after) cause = cause
caused_in old new (block.Stopped durable faults) cause = cause
caused_in old new (block.Damaged b) cause = tt
caused_in old new block.NoMemory cause = tt

pub undone_unanswered : (f : TreeFault GrowFault) → IsUndone f → IsUnanswered f
undone_unanswered tree.Exists bad = bad
undone_unanswered tree.Absent bad = bad
undone_unanswered (tree.Damaged page sort) bad = bad
undone_unanswered (tree.Pages (grow.NoRun wanted free)) bad = tt
undone_unanswered (tree.Pages (grow.Full room)) bad = tt
undone_unanswered (tree.Pages (grow.Block f)) fine = fine
undone_unanswered tree.NoMemory fine = tt

pub read_cause : (old new : Counts) (f : TreeFault GrowFault) → HasReadCause old new f → HasAnswerCause old new f
read_cause old new tree.Exists bad = bad
read_cause old new tree.Absent bad = bad
read_cause old new (tree.Damaged page sort) cause = tt
read_cause old new (tree.Pages f) cause = cause.1
read_cause old new tree.NoMemory cause = tt

pub failed_unanswered : (o : Origin) (v : Room) (m : ℕ → Option (List ℕ)) (f : GrowFault) → HasFailed o v m f → IsUnanswered (tree.Pages f)
failed_unanswered o v m (grow.NoRun wanted free) why = tt
failed_unanswered o v m (grow.Full room) why = tt
failed_unanswered o v m (grow.Block f) why = why.why

few_unanswered : (o : Origin) (v : Room) (m : ℕ → Option (List ℕ)) (blocks : ℕ) (f : GrowFault) → IsFewFault o v m blocks f → IsUnanswered (tree.Pages f)
few_unanswered o v m blocks (grow.NoRun wanted free) why = tt
few_unanswered o v m blocks (grow.Full room) bad = absurd bad
few_unanswered o v m blocks (grow.Block f) why = why

-- a node whose bytes stand in its stream wasn't made
pub sound_unanswered : (o : Origin) (v : Room) (m : ℕ → Option (List ℕ)) (f : GrowFault) → IsSoundFault o v m f → IsUnanswered (tree.Pages f)
sound_unanswered o v m f why = few_unanswered o v (with_block o.id why.0 m) why.1 f why.3

pub pair_unanswered : (o : Origin) (v : Room) (m : ℕ → Option (List ℕ)) (f : TreeFault GrowFault) → IsPairFault o v m f → IsUnanswered f
pair_unanswered o v m tree.Exists bad = bad
pair_unanswered o v m tree.Absent bad = bad
pair_unanswered o v m (tree.Damaged page sort) bad = bad
pair_unanswered o v m (tree.Pages f) why = failed_unanswered o v m f why
pair_unanswered o v m tree.NoMemory why = tt

pub list_unanswered : (s : Sizes) (v : Room) (m : ℕ → Option (List ℕ)) (index : Option ℕ) (f : TreeFault GrowFault) → IsListFault s v m index f → IsUnanswered f
list_unanswered s v m None f bad = absurd bad
list_unanswered s v m (Some inode) f why = pair_unanswered (record { id = inode; sizes = s }) v m f why

pub pair_cause : (old new : Counts) (f : TreeFault GrowFault) → HasPairCause old new f → HasAnswerCause old new f
pair_cause old new tree.Exists bad = bad
pair_cause old new tree.Absent bad = bad
pair_cause old new (tree.Damaged page sort) cause = tt
pair_cause old new (tree.Pages f) cause = cause
pair_cause old new tree.NoMemory cause = tt

pub put_unanswered : (o : Origin) (v : Room) (m : ℕ → Option (List ℕ)) (rows : List Row) (name : Key) (directory : ℕ) (f : TreeFault GrowFault) → assoc Text rows name ≡ None → IsPutFault Text o v m rows name f → IsUnanswered (put_fault directory f)
put_unanswered o v m rows name directory tree.Exists none there = let bad : Some there.0 ≡ None = sym there.1 ∙ none in absurd cc
put_unanswered o v m rows name directory tree.Absent none bad = bad
put_unanswered o v m rows name directory (tree.Damaged page sort) none bad = bad
put_unanswered o v m rows name directory (tree.Pages f) none why = failed_unanswered o v m f why.0
put_unanswered o v m rows name directory tree.NoMemory none why = tt

pub put_cause : (old new : Counts) (directory : ℕ) (f : TreeFault GrowFault) → HasPutCause old new f → HasAnswerCause old new (put_fault directory f)
put_cause old new directory tree.Exists cause = tt
put_cause old new directory tree.Absent bad = bad
put_cause old new directory (tree.Damaged page sort) cause = tt
put_cause old new directory (tree.Pages f) cause = cause
put_cause old new directory tree.NoMemory cause = tt

pub run_unanswered : (old new : Counts) (f : RunFault) → IsRunCause old new f → IsUnanswered (tree.Pages (of_run f))
run_unanswered old new (run.NoRun wanted free) cause = tt
run_unanswered old new (run.Block f) cause = caused_whole old new f cause

pub run_cause : (old new : Counts) (f : RunFault) → IsRunCause old new f → HasAnswerCause old new (tree.Pages (of_run f))
run_cause old new (run.NoRun wanted free) cause = tt
run_cause old new (run.Block f) cause = caused_in old new f cause

in_earlier : (old mid new : Counts) (f : BlockFault) → AreLater old mid → IsCauseIn mid new f → IsCauseIn old new f
in_earlier old mid new (block.Disk before after) later cause = (let a = later.faults in let b = cause.0 in omega (arith, a, b), cause.1, cause.2)
in_earlier old mid new (block.Stopped durable faults) later cause = cause
in_earlier old mid new (block.Damaged b) later cause = tt
in_earlier old mid new block.NoMemory later cause = tt

-- a cause since a later moment is one since an earlier one
pub cause_earlier : (old mid new : Counts) (f : TreeFault GrowFault) → AreLater old mid → HasAnswerCause mid new f → HasAnswerCause old new f
cause_earlier old mid new tree.Exists later bad = bad
cause_earlier old mid new tree.Absent later bad = bad
cause_earlier old mid new (tree.Damaged page sort) later cause = tt
cause_earlier old mid new (tree.Pages (grow.NoRun wanted free)) later cause = tt
cause_earlier old mid new (tree.Pages (grow.Full room)) later cause = cause
cause_earlier old mid new (tree.Pages (grow.Block f)) later cause = in_earlier old mid new f later cause
cause_earlier old mid new tree.NoMemory later cause = tt
