use Rattle.std.proofs.Common.{◌≡◌, ◌<◌, ◌+◌, ◌*◌, ℕ, length}
use Rattle.bfs_bytes.specs.Fields.{unsigned_at}
use Rattle.bfs_dups.specs.Slots.{SameBut}
use Rattle.bfs_dups.proofs.lists.copy_numbers.Given as goal

abbrev pub invariant-loop-i : goal.invariant-loop-i
invariant-loop-i l = record {
  length : length l.page ≡ length l.fn.page;
  others : SameBut l.fn.page l.page l.to (l.to + 8 * l.i);
  numbers : (j : ℕ) → j < l.i → unsigned_at 8 l.page (l.to + 8 * j) ≡ unsigned_at 8 l.old (l.from + 8 * j);
}
