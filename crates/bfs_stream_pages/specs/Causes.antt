-- Why a page could not be had or added.
use Rattle.std.specs.Prelude.{◌≡◌, ℕ, List, Option, Some, None, IfSome, IsSome}
use Rattle.bfs_bitmap.specs.Runs.{Room}
use Rattle.bfs_txn.specs.Faults.{Counts}
use Rattle.bfs_stream.specs.Sizes.{Origin}
use Rattle.bfs_stream.specs.Faults.{IsGrowFault, IsGrowCause}
use Rattle.bfs_stream.specs.declared.fault.GrowFault.{GrowFault}
use Rattle.bfs_stream.specs.declared.fault.GrowFault.TheVariants as grow
use Rattle.bfs_stream_pages.specs.Held.{Held}
use Rattle.bfs_stream_pages.specs.Moves.{Moved}
use Rattle.bfs_stream_pages.specs.Steps.{IsUndamaged}

-- Pages were written and added up to a volume on which there is a reason for the fault: no free run of as many blocks as
-- were asked for; no room in the double indirect level; and no block of it is damaged.
pub record HasFailed (o : Origin) (v : Room) (m : ℕ → Option (List ℕ)) (fault : GrowFault) : Type 0 where
  pub now : Room
  pub map : ℕ → Option (List ℕ)
  pub moved : Moved o v now m map
  pub why : IsGrowFault o now map 1 fault

-- the cause of a fault between two moments: by what lies below, and, where the stream was held at the first, by what was
-- told then
pub record HasCause (o : Origin) (v : Room) (long : ℕ) (told : Option (ℕ → Option (List ℕ))) (old new : Counts) (fault : GrowFault) : Type 0 where
  pub below : IsGrowCause 1 old new fault
  pub reason : IfSome told (λ m. Held o v long m → HasFailed o v m fault)

-- why a call of the pages failed: the fault has its cause; or a page could not be added before, and the answer is the fault
-- of that call again, with nothing asked of what lies below
abbrev pub IsPageCause : Origin → Room → ℕ → Option (ℕ → Option (List ℕ)) → Option GrowFault → Counts → Counts → GrowFault → Type 0
IsPageCause o v long told None old new fault = HasCause o v long told old new fault
IsPageCause o v long told (Some earlier) old new fault = (fault ≡ earlier) × (new ≡ old)

-- the fault is of a block: no run was asked for
abbrev pub IsOfBlock : GrowFault → Type 0
IsOfBlock (grow.NoRun wanted free) = ⊥
IsOfBlock (grow.Full room) = ⊥
IsOfBlock (grow.Block fault) = Unit {0}

-- why a call of a reader's pages failed: by what lies below, of which a block could not be had; where it is told, none is
-- damaged
pub record IsReadCause (told : Option (ℕ → Option (List ℕ))) (old new : Counts) (fault : GrowFault) : Type 0 where
  pub block : IsOfBlock fault
  pub below : IsGrowCause 1 old new fault
  pub sound : IsSome told → IsUndamaged fault
