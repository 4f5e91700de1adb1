-- What is kept agrees with the disk after each call of a device.
use Rattle.std.proofs.Common.{◌≡◌, ℕ, ◌*◌, ◌≤◌, List, [], ◌∷◌, length, sym, ◌∙◌, subst, arith, Option, Some, None}
use Rattle.bfs_disk.specs.State.{State}
use Rattle.bfs_disk.specs.Disk.{HalfWritten, told_written}
use Rattle.bfs_cache.specs.Agreement.{Agrees, IsInside, WriteKeeps, FailedWriteKeeps, BarrierKeeps}
use Rattle.bfs_super.specs.declared.sup.Super.{Super}
use Rattle.bfs_super.specs.Conditions.{IsValid}
use Rattle.bfs_log.specs.Replay.{log_from, log_to}
use Rattle.bfs_txn.specs.Changed.{bytes_at, number_at}
use Rattle.bfs_txn.specs.declared.group.Group.{Group}
use Rattle.bfs_device.specs.declared.journal.Phase.{Phase}
use Rattle.bfs_device.specs.declared.journal.Phase.TheVariants.{Log, LogSafe, Open, OpenSafe, Home as GoHome, HomeSafe, Tail, TailSafe, Pass}
use Rattle.bfs_device.specs.Layouts.{layout_of, log_block, slot}
use Rattle.bfs_device.specs.Calls.{Call, Write, Barrier, told_after, IsFailed}
use Rattle.bfs_device.specs.Books.{Books, IsPhaseOf, IsSealed}
use Rattle.bfs_device.specs.Steps.{call_of, PrintsBack, told_front, FailedFront, ReadFront}
use Rattle.bfs_device.specs.Kept.{KeepsAgreed, written_in, written_front}
use Rattle.bfs_device.proofs.Sizes.{good, sizes}
use Rattle.bfs_device.proofs.Phasing.{long_block, long_home}
use Rattle.bfs_device.proofs.Stepping.{Known}

-- ---- a call writes inside of a block

abbrev IsIn : ℕ → Option ℕ → ℕ → List ℕ → Type 0
IsIn r None at bytes = ⊥
IsIn r (Some b) at bytes = IsInside r b at bytes

abbrev Within : ℕ → Option ℕ → Call → Type 0
Within r block (Write at bytes) = IsIn r block at bytes
Within r block Barrier = Unit {0}

whole_inside : (r b : ℕ) (bytes : List ℕ) → length bytes ≡ 512 * r → IsInside r b (r * b) bytes
whole_inside r b bytes long = (omega arith, omega (arith, long))

super_inside : (r : ℕ) (bytes : List ℕ) → 2 ≤ r → length bytes ≡ 512 → IsInside r 0 1 bytes
super_inside r bytes two long = (omega arith, omega (arith, two, long))

module _ (s : Super) (g : Group) (valid : IsValid s) (sealed : IsSealed (layout_of s) s.block_size g) (empty : log_from s ≡ log_to s) where
  phase_within : (p : Phase) → IsPhaseOf g.blocks p → PrintsBack s g p → Within (layout_of s).sectors (written_in s g p) (call_of s g p)
  phase_within (Log i) fits read = whole_inside (layout_of s).sectors (slot (layout_of s) (log_from s) i) (log_block s g.blocks i) (long_block s g valid sealed empty i fits)
  phase_within LogSafe fits read = tt
  phase_within Open fits read = super_inside (layout_of s).sectors _ (good s valid).two read.2
  phase_within OpenSafe fits read = tt
  phase_within (GoHome i) fits read = whole_inside (layout_of s).sectors (number_at g.blocks i) (bytes_at g.blocks i) (long_home s g valid sealed empty i fits)
  phase_within HomeSafe fits read = tt
  phase_within Tail fits read = super_inside (layout_of s).sectors _ (good s valid).two read.2
  phase_within TailSafe fits read = tt
  phase_within Pass fits read = tt

-- ---- what is kept agrees after it

pub agrees_same : (block : Option ℕ) (r : ℕ) (told : Option State) → KeepsAgreed block r told told
agrees_same block r told = λ kept out agrees. agrees

-- the same on a disk that reads alike
pub agrees_as : (r s : ℕ) (old new : Option State) (kept : List (ℕ × List ℕ)) → s ≡ r → new ≡ old → Agrees old r kept → Agrees new s kept
agrees_as r s old new kept same told agrees = subst (λ (n : ℕ). Agrees new n kept) (sym same) (subst (λ (o : Option State). Agrees o r kept) (sym told) agrees)

call_done : WriteKeeps → BarrierKeeps → (block : Option ℕ) (r : ℕ) (call : Call) → Within r block call → (old : Option State) → KeepsAgreed block r old (told_after call old)
call_done write barrier None r (Write at bytes) within old = absurd within
call_done write barrier (Some b) r (Write at bytes) within old = λ kept out agrees. write old r b at bytes kept out within agrees
call_done write barrier block r Barrier within old = λ kept out agrees. barrier old r kept agrees

call_failed : FailedWriteKeeps → (block : Option ℕ) (r : ℕ) (call : Call) → Within r block call → (old new : Option State) → IsFailed call old new → KeepsAgreed block r old new
call_failed write None r (Write at bytes) within old new failed = absurd within
call_failed write (Some b) r (Write at bytes) within old new failed = λ kept out agrees. write old new r b at bytes kept out within failed agrees
call_failed write block r Barrier within old new failed = λ kept out agrees. subst (λ (o : Option State). Agrees o r kept) (sym failed) agrees

front_done : WriteKeeps → BarrierKeeps → (b : Books) (groups : List Group) → (let c : Books = record b { groups = groups } in Known c) → ReadFront b.sup groups b.phase → (old : Option State)
    → KeepsAgreed (written_front b.sup groups b.phase) (layout_of b.sup).sectors old (told_front b.sup groups b.phase old)
front_done write barrier b [] know read old = agrees_same None (layout_of b.sup).sectors old
front_done write barrier b (g ∷ gs) know read old =
    call_done write barrier (written_in b.sup g b.phase) (layout_of b.sup).sectors (call_of b.sup g b.phase) (phase_within b.sup g know.valid know.follow.0.sealed know.empty b.phase know.phase read) old

front_failed : FailedWriteKeeps → (b : Books) (groups : List Group) → (let c : Books = record b { groups = groups } in Known c) → ReadFront b.sup groups b.phase → (old new : Option State) → FailedFront b.sup groups b.phase old new
    → KeepsAgreed (written_front b.sup groups b.phase) (layout_of b.sup).sectors old new
front_failed write b [] know read old new failed = absurd failed
front_failed write b (g ∷ gs) know read old new failed =
    call_failed write (written_in b.sup g b.phase) (layout_of b.sup).sectors (call_of b.sup g b.phase) (phase_within b.sup g know.valid know.follow.0.sealed know.empty b.phase know.phase read) old new failed

pub step_done : WriteKeeps → BarrierKeeps → (b : Books) → Known b → ReadFront b.sup b.groups b.phase → (old new : Option State) → new ≡ told_front b.sup b.groups b.phase old
    → KeepsAgreed (written_front b.sup b.groups b.phase) (layout_of b.sup).sectors old new
step_done write barrier b know read old new is = subst (KeepsAgreed (written_front b.sup b.groups b.phase) (layout_of b.sup).sectors old) (sym is) (front_done write barrier b b.groups know read old)

pub step_failed : FailedWriteKeeps → (b : Books) → Known b → ReadFront b.sup b.groups b.phase → (old new : Option State) → FailedFront b.sup b.groups b.phase old new
    → KeepsAgreed (written_front b.sup b.groups b.phase) (layout_of b.sup).sectors old new
step_failed write b know read old new failed = front_failed write b b.groups know read old new failed

-- a block that is written beside the groups
module _ (s : Super) (valid : IsValid s) (b : ℕ) (bytes : List ℕ) (long : length bytes ≡ s.block_size) where
  inside : IsInside (layout_of s).sectors b ((layout_of s).sectors * b) bytes
  inside = whole_inside (layout_of s).sectors b bytes (long ∙ (sizes s valid).0)

  pub data_done : WriteKeeps → (old new : Option State) → new ≡ told_written old ((layout_of s).sectors * b) bytes → KeepsAgreed (Some b) (layout_of s).sectors old new
  data_done write old new is = λ kept out agrees. subst (λ (o : Option State). Agrees o (layout_of s).sectors kept) (sym is) (write old (layout_of s).sectors b ((layout_of s).sectors * b) bytes kept out inside agrees)

  pub data_failed : FailedWriteKeeps → (old new : Option State) → HalfWritten old ((layout_of s).sectors * b) bytes new → KeepsAgreed (Some b) (layout_of s).sectors old new
  data_failed write old new half = λ kept out agrees. write old new (layout_of s).sectors b ((layout_of s).sectors * b) bytes kept out inside half agrees
