-- What a reader of a stream answers.
use Rattle.std.proofs.Common.{◌≡◌, ℕ, List, true, false, Option, Some, None, refl, sym, subst}
use Rattle.std.specs.Prelude.{IsSome}
use Rattle.std.specs.Option.{option_map}
use Rattle.std.proofs.Props.{props}
use Rattle.std.proofs.Math.Logic.{∥∥₁_elim}
use Rattle.bfs_txn.specs.Faults.{Counts}
use Rattle.bfs_txn.specs.Pages.{IsPageAt, page_at}
use Rattle.bfs_txn.specs.declared.fault.BlockFault.TheVariants.{NoMemory}
use Rattle.bfs_stream.specs.Sizes.{Origin}
use Rattle.bfs_stream.specs.Faults.{IsGrowCause}
use Rattle.bfs_stream.specs.declared.fault.GrowFault.{GrowFault}
use Rattle.bfs_stream.specs.declared.fault.GrowFault.TheVariants as grow
use Rattle.bfs_stream_pages.specs.Held.{IsReadable, stream_of}
use Rattle.bfs_stream_pages.specs.Causes.{IsOfBlock, IsReadCause}
use Rattle.bfs_stream_pages.specs.Steps.{IsUndamaged}
use Rattle.bfs_stream_pages.proofs.Paged.{memory_cause, memory_is}

-- a page of a stream that is told
pub reader_page : (o : Origin) (long : ℕ) (told : Option (ℕ → Option (List ℕ))) → ((m : ℕ → Option (List ℕ)) → told ≡ Some m → ∥ IsReadable o long m ∥₁) → (at : ℕ) (page : List ℕ) → ((m : ℕ → Option (List ℕ)) → told ≡ Some m → IsReadable o long m → page ≡ page_at (stream_of o m) at) → IsPageAt (option_map (stream_of o) told) at page
reader_page o long None held at page is_page = tt
reader_page o long (Some m) held at page is_page = ∥∥₁_elim (held m refl) (Prim.hlevel props) (λ h. is_page m refl h)

-- no block is damaged, where that follows from what holds of what is told
undamaged_by : (A : Type 0) (fault : GrowFault) → ∥ A ∥₁ → (A → IsUndamaged fault) → IsUndamaged fault
undamaged_by A (grow.NoRun wanted free) held f = ∥∥₁_elim held (Prim.hlevel props) f
undamaged_by A (grow.Full room) held f = ∥∥₁_elim held (Prim.hlevel props) f
undamaged_by A (grow.Block fault) held f = ∥∥₁_elim held (Prim.hlevel props) f

-- the cause of a page that could not be read
pub reader_cause : (o : Origin) (long : ℕ) (told : Option (ℕ → Option (List ℕ))) (old new : Counts) (fault : GrowFault) → ((m : ℕ → Option (List ℕ)) → told ≡ Some m → ∥ IsReadable o long m ∥₁) → IsOfBlock fault → IsGrowCause 1 old new fault → ((m : ℕ → Option (List ℕ)) → told ≡ Some m → IsReadable o long m → IsUndamaged fault) → IsReadCause told old new fault
reader_cause o long told old new fault held block below sound = record { block = block; below = below; sound = by_told told held sound }
  where
    by_told : (t : Option (ℕ → Option (List ℕ))) → ((m : ℕ → Option (List ℕ)) → t ≡ Some m → ∥ IsReadable o long m ∥₁) → ((m : ℕ → Option (List ℕ)) → t ≡ Some m → IsReadable o long m → IsUndamaged fault) → IsSome t → IsUndamaged fault
    by_told None held sound some = let bad : false ≡ true = some in cc
    by_told (Some m) held sound some = undamaged_by (IsReadable o long m) fault (held m refl) (sound m refl)

-- there was no memory
pub reader_memory : (told : Option (ℕ → Option (List ℕ))) (old new : Counts) (fault : GrowFault) → fault ≡ grow.Block NoMemory → IsReadCause told old new fault
reader_memory told old new fault e = record { block = subst IsOfBlock (sym e) tt; below = memory_cause fault old new e; sound = λ some. memory_is fault e }
