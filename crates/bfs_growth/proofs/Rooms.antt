-- A double indirect level whose tables are all full has no room.
use Rattle.std.proofs.Common.{◌≡◌, ◌≤◌, ◌-◌, ◌*◌, ◌∙◌, ℕ, List, length, Option, sym, ap, subst, arith}
use Rattle.std.proofs.Math.Nat.{mul_comm}
use Rattle.bfs_stream.specs.Sizes.{Origin, array_length, table_length}
use Rattle.bfs_stream.specs.Grown.{room_at}
use Rattle.bfs_stream.specs.Told.{contents, Stands}
use Rattle.bfs_stream.proofs.Named.{double_blocks, double_runs}
use Rattle.bfs_stream.proofs.Listed.{double_long}

-- where each table that the array has room for is full, the level has no room
pub room_none : (o : Origin) (m : ℕ → Option (List ℕ)) → Stands o m → (used listed per : ℕ) → per ≡ table_length o.sizes → used ≡ length (double_runs o.sizes (contents m) o.id) → listed * per ≤ used → per ≤ listed → room_at o.sizes (contents m) o.id ≡ 0
room_none o m stands used listed per per_is used_is full most =
    by_numbers (array_length o.sizes) used listed per (table_length o.sizes) (length (double_blocks o.sizes (contents m) o.id)) per_is (double_long o m stands ∙ ap (λ (n : ℕ). array_length o.sizes * n) (sym used_is)) full most
  where
    times_le : (a x y : ℕ) → x ≤ y → a * x ≤ a * y
    times_le a x y le = grind (arith, le)

    by_numbers : (a used listed per p blocks : ℕ) → per ≡ p → blocks ≡ a * used → listed * per ≤ used → per ≤ listed → a * (p * p) - blocks ≡ 0
    by_numbers a used listed per p blocks e f full most =
        let one : per * per ≤ per * listed = times_le per per listed most in
        let two : p * p ≤ used = subst (λ (n : ℕ). n * n ≤ used) e (omega (arith, one, mul_comm per listed, full)) in
        let three : a * (p * p) ≤ a * used = times_le a (p * p) used two in
        omega (arith, three, f)
