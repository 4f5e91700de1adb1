-- A write of a piece that has stopped the device.
use Rattle.std.proofs.Common.{◌≡◌, ◌≤◌, ◌∙◌, ℕ, Option, Some, None, Result, Ok, Err, sym, ap, arith}
use Rattle.std.specs.Prelude.{IfErr}
use Rattle.bfs_base.specs.Counts.{Rose}
use Rattle.bfs_device.specs.Books.{Books}
use Rattle.bfs_device.specs.Data.{IsRested}
use Rattle.bfs_device.specs.Steps.{IsStepFault}
use Rattle.bfs_device.specs.declared.journal.Stop.{Stop}
use Rattle.bfs_device.specs.declared.journal.DeviceFault.{DeviceFault}
use Rattle.bfs_device.specs.declared.journal.DeviceFault.TheVariants.{Disk, Stopped}
use Rattle.bfs_pieces.specs.Pieces.{HasHalted, HasPieceCause}

-- a count that rose since then rose since before
pub rose_since : (a b c : ℕ) → a ≤ b → Rose b c → Rose a c
rose_since a b c le rose = omega (arith, le, rose)

one_stop : (s t : Stop) → Some s ≡ Some t → t ≡ s
one_stop s t e = cc

no_stop : (s : Stop) → None ≡ Some s → ⊥
no_stop s e = cc

halted_fault : (b new : Books) (f f' s s' : ℕ) (fault : DeviceFault) → IsStepFault b new f f' s s' fault → HasHalted new.stop s s' fault
halted_fault b new f f' s s' (Disk before after stopped) is = λ t stop. (ap (λ (x : Stop). x.faults) (one_stop _ t (sym (ap (λ (x : Books). x.stop) is.6) ∙ stop)), is.5)
halted_fault b new f f' s s' (Stopped durable count) is = tt

pub halted_write : {T : Type 0} (b new : Books) (f f' s s' : ℕ) (r : Result T DeviceFault) → IfErr r (IsStepFault b new f f' s s') → IfErr r (HasHalted new.stop s s')
halted_write b new f f' s s' (Ok x) is = tt
halted_write b new f f' s s' (Err fault) is = halted_fault b new f f' s s' fault is

-- a read stops no device
pub halted_read : (b new : Books) (f f' s s' : ℕ) (fault : DeviceFault) → IsRested b new → HasPieceCause b.stop f f' fault → HasHalted new.stop s s' fault
halted_read b new f f' s s' (Disk before after stopped) rests is = λ t stop. absurd (no_stop t (sym is.0 ∙ sym (ap (λ (x : Books). x.stop) rests) ∙ stop))
halted_read b new f f' s s' (Stopped durable count) rests is = tt

-- nor did the writes before one that did
pub halted_since : (stop : Option Stop) (a b c : ℕ) (fault : DeviceFault) → a ≤ b → HasHalted stop b c fault → HasHalted stop a c fault
halted_since stop a b c (Disk before after stopped) le is = λ t same. ((is t same).0, rose_since a b c le (is t same).1)
halted_since stop a b c (Stopped durable count) le is = tt
