-- Why a call on an index in a stream was refused, from why the call on its pages was.
use Rattle.std.proofs.Common.{◌⊎◌, inl, inr, ℕ, List, Option}
use Rattle.std.specs.Prelude.{IfSome}
use Rattle.bfs_base.specs.declared.kind.KeyKind.{KeyKind}
use Rattle.bfs_bitmap.specs.Runs.{Room}
use Rattle.bfs_node.specs.declared.fault.PageKind.{PageKind}
use Rattle.bfs_node.specs.declared.fault.TreeFault.{TreeFault}
use Rattle.bfs_node.specs.declared.fault.TreeFault.TheVariants.{Exists, Absent, Damaged, Pages, NoMemory}
use Rattle.bfs_txn.specs.Faults.{Counts}
use Rattle.bfs_pages.specs.Order.{Key}
use Rattle.bfs_stream.specs.Faults.{IsGrowCause}
use Rattle.bfs_stream.specs.Sizes.{Origin}
use Rattle.bfs_stream.specs.declared.fault.GrowFault.{GrowFault}
use Rattle.bfs_stream_pages.specs.Causes.{HasFailed, IsOfBlock}
use Rattle.bfs_stream_pages.specs.Held.{stream_of}
use Rattle.bfs_stream_pages.specs.Steps.{IsUndamaged}
use Rattle.bfs_values.specs.Kinds.{IsLacking}
use Rattle.bfs_maps.specs.Refused.{IsChangeFault, IsTakingFault, IsUndone, HasReadCause}
use Rattle.bfs_index.specs.Refused.{IsPairPage, IsUnpaired, IsPairFault, HasPairCause}

pub pair_fault : (kind : KeyKind) (key : Key) (o : Origin) (v : Room) (m : ℕ → Option (List ℕ)) (now : Option (List ℕ)) (cause : GrowFault → Type 0) (fault : TreeFault GrowFault)
    → IsLacking fault → IsUnpaired kind key now cause fault → ((f : GrowFault) → cause f → HasFailed o v m f) → IsPairFault o v m fault
pair_fault kind key o v m now cause Exists is why from = is
pair_fault kind key o v m now cause Absent is why from = is
pair_fault kind key o v m now cause (Damaged page sort) is why from = is
pair_fault kind key o v m now cause (Pages f) is why from = from f why
pair_fault kind key o v m now cause NoMemory is why from = tt

pub pair_cause : (kind : KeyKind) (key : Key) (now : Option (List ℕ)) (cause : GrowFault → Type 0) (old new : Counts) (fault : TreeFault GrowFault) → IsUnpaired kind key now cause fault → ((f : GrowFault) → cause f → IsGrowCause 1 old new f) → HasPairCause old new fault
pair_cause kind key now cause old new Exists why from = why
pair_cause kind key now cause old new Absent why from = why
pair_cause kind key now cause old new (Damaged page sort) why from = tt
pair_cause kind key now cause old new (Pages f) why from = from f why
pair_cause kind key now cause old new NoMemory why from = tt

pub pair_change : (kind : KeyKind) (key : Key) (o : Origin) (v : Room) (m : ℕ → Option (List ℕ)) (now : Option (List ℕ)) (told : Option (ℕ → Option (List ℕ))) (cause : GrowFault → Type 0) (fault : TreeFault GrowFault) → IsUnpaired kind key now cause fault → ((f : GrowFault) → cause f → HasFailed o v m f)
    → ((page : ℕ) (sort : PageKind) → IfSome now (λ bytes. ¬ IsPairPage kind key bytes page sort) → IfSome told (λ map. ¬ IsPairPage kind key (stream_of o map) page sort) ⊎ ((fault : GrowFault) × HasFailed o v m fault)) → IsChangeFault (IsPairPage kind key) o v m told fault
pair_change kind key o v m now told cause Exists why from blame = tt
pair_change kind key o v m now told cause Absent why from blame = tt
pair_change kind key o v m now told cause (Damaged page sort) why from blame = blame page sort why
pair_change kind key o v m now told cause (Pages f) why from blame = inr (from f why)
pair_change kind key o v m now told cause NoMemory why from blame = tt

-- and of one that takes a pair out
pub pair_undone : (kind : KeyKind) (key : Key) (now : Option (List ℕ)) (cause : GrowFault → Type 0) (fault : TreeFault GrowFault) → IsLacking fault → IsUnpaired kind key now cause fault → ((f : GrowFault) → cause f → IsUndamaged f) → IsUndone fault
pair_undone kind key now cause Exists is why from = is
pair_undone kind key now cause Absent is why from = is
pair_undone kind key now cause (Damaged page sort) is why from = is
pair_undone kind key now cause (Pages f) is why from = from f why
pair_undone kind key now cause NoMemory is why from = tt

pub pair_untaken : (kind : KeyKind) (key : Key) (now : Option (List ℕ)) (cause : GrowFault → Type 0) (old new : Counts) (fault : TreeFault GrowFault) → IsUnpaired kind key now cause fault → ((f : GrowFault) → cause f → IsOfBlock f × IsGrowCause 1 old new f) → HasReadCause old new fault
pair_untaken kind key now cause old new Exists why from = why
pair_untaken kind key now cause old new Absent why from = why
pair_untaken kind key now cause old new (Damaged page sort) why from = tt
pair_untaken kind key now cause old new (Pages f) why from = from f why
pair_untaken kind key now cause old new NoMemory why from = tt

pub pair_taking : (kind : KeyKind) (key : Key) (o : Origin) (m : ℕ → Option (List ℕ)) (now : Option (List ℕ)) (told : Option (ℕ → Option (List ℕ))) (cause : GrowFault → Type 0) (fault : TreeFault GrowFault) → IsUnpaired kind key now cause fault → ((f : GrowFault) → cause f → IsUndamaged f)
    → ((page : ℕ) (sort : PageKind) → IfSome now (λ bytes. ¬ IsPairPage kind key bytes page sort) → IfSome told (λ map. ¬ IsPairPage kind key (stream_of o map) page sort)) → IsTakingFault (IsPairPage kind key) o m told fault
pair_taking kind key o m now told cause Exists why from blame = tt
pair_taking kind key o m now told cause Absent why from blame = tt
pair_taking kind key o m now told cause (Damaged page sort) why from blame = blame page sort why
pair_taking kind key o m now told cause (Pages f) why from blame = inl (from f why)
pair_taking kind key o m now told cause NoMemory why from blame = tt
