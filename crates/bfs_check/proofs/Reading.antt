-- A disk that is only read.
use Rattle.std.proofs.Common.{◌≡◌, ◌≤◌, ⊎_elim, ℕ, List, Option, Result, Ok, Err, IfErr, subst, arith}
use Rattle.std.proofs.Props.{props}
use Rattle.std.proofs.Math.Logic.{∥∥₁_elim, ∥∥₁_map}
use Rattle.bfs_base.specs.Moments.{Passed}
use Rattle.bfs_base.proofs.Moments.{passed_then}
use Rattle.bfs_disk.specs.State.{State, Tells, Holds}
use Rattle.bfs_disk.specs.Disk.{MayLeave}
use Rattle.bfs_replay.proofs.Recovering.{held_image}
use Rattle.bfs_check.specs.declared.checking.Verdict.{Verdict}
use Rattle.bfs_check.specs.declared.checking.CheckFault.{CheckFault}
use Rattle.bfs_check.specs.declared.checking.CheckFault.TheVariants.{Short, Disk, NoMemory}
use Rattle.bfs_check.specs.Checked.{HasCauseIn}

-- a crash of a quiet disk, at any moment of some reads, leaves its image
pub read_moments : (told : Option State) (clock later : ℕ) (past since : ℕ → List ℕ → Type 0) → ∥ Passed clock later past since (MayLeave told) ∥₁ → ((c : List ℕ) → past clock c → MayLeave told c)
    → (image : List ℕ) → Tells told (Holds image) → (c : List ℕ) → since clock c → c ≡ image
read_moments told clock later past since time only image held c left =
    ∥∥₁_elim time (Prim.hlevel props) (λ passed. ⊎_elim (λ was. held_image told image c held (only c was)) (held_image told image c held) (passed.nothing_else clock c (omega arith) left))

pub clock_later : (told : Option State) (clock later : ℕ) (past since : ℕ → List ℕ → Type 0) → ∥ Passed clock later past since (MayLeave told) ∥₁ → clock ≤ later
clock_later told clock later past since time = ∥∥₁_elim time (Prim.hlevel props) (λ passed. passed.later)

-- some reads, and then more
pub reads_then : (told mid : Option State) (a b c : ℕ) (past between since : ℕ → List ℕ → Type 0) → mid ≡ told → Passed a b past between (MayLeave told) → ∥ Passed b c between since (MayLeave mid) ∥₁ → ∥ Passed a c past since (MayLeave told) ∥₁
reads_then told mid a b c past between since same one more = ∥∥₁_map more (λ two. passed_then (MayLeave told) one two (λ i left. left) (λ i left. subst (λ o. MayLeave o i) same left))

-- a cause since a count that was lower
pub cause_before : (old mid new : ℕ) (result : Result Verdict CheckFault) → old ≤ mid → IfErr result (HasCauseIn mid new) → IfErr result (HasCauseIn old new)
cause_before old mid new (Ok verdict) le cause = tt
cause_before old mid new (Err (Short sectors needed)) le cause = tt
cause_before old mid new (Err (Disk before after)) le cause = (let low = cause.0 in omega (arith, le, low), cause.1, cause.2)
cause_before old mid new (Err NoMemory) le cause = tt
