use Rattle.std.proofs.Common.{◌≡◌, ◌≤◌, ◌-◌, ◌⊎◌, true, ℕ, List, [], Option, Some, length, take, drop}
use Rattle.bfs_txn.specs.Faults.{AreLater}
use Rattle.bfs_txn.specs.Told.{StaysChanged}
use Rattle.bfs_bitmap.specs.Runs.{as_kept}
use Rattle.bfs_bitmap.specs.Fills.{IsBitmapBlock}
use Rattle.bfs_stream.specs.Places.{blocks_of, used_runs}
use Rattle.bfs_stream.specs.Told.{contents}
use Rattle.bfs_stream.specs.Grown.{IsOfVolume, Owns, AreTables, table_runs, HasBitIn}
use Rattle.bfs_stream.specs.Standing.{standing}
use Rattle.bfs_stream.specs.Trimmed.{Gave}
use Rattle.bfs_base.specs.Lists.{Has}
use Rattle.bfs_cuts.proofs.drop.give_below.Given as goal

abbrev pub invariant-loop-i : goal.invariant-loop-i
invariant-loop-i g l = record {
  long : length l.bytes ≡ l.stream.sizes.block_size;
  size : g.E.Blocks.size l.edits ≡ g.E.Blocks.size l.fn.edits;
  frame : g.E.Blocks.frame l.edits ≡ g.E.Blocks.frame l.fn.edits;
  rest : l.bitmap ≡ record l.fn.bitmap { given = l.bitmap.given; tally = l.bitmap.tally };
  kept : as_kept l.bitmap ≡ as_kept l.fn.bitmap;
  stands : standing l.bitmap ≡ standing l.fn.bitmap;
  volume : IsOfVolume l.stream.sizes l.bitmap;
  low : l.fn.from ≤ l.i;
  later : AreLater (g.E.Blocks.counts l.fn.edits) (g.E.Blocks.counts l.edits);
  changed : (k : ℕ) → g.E.Blocks.changed l.edits k ≡ true → (g.E.Blocks.changed l.fn.edits k ≡ true) ⊎ IsBitmapBlock l.fn.bitmap k;
  gave : (m : ℕ → Option (List ℕ)) → g.E.Blocks.told l.fn.edits ≡ Some m → Owns l.stream l.fn.bitmap [] m → AreTables l.stream m l.fn.tables → Gave l.fn.bitmap l.bitmap (blocks_of l.stream.sizes (take (l.i - l.fn.from) (drop l.fn.from (used_runs (table_runs l.stream.sizes (contents m) l.fn.tables.array))))) m (g.E.Blocks.told l.edits);
  bits : (m : ℕ → Option (List ℕ)) → g.E.Blocks.told l.fn.edits ≡ Some m → Owns l.stream l.fn.bitmap [] m → AreTables l.stream m l.fn.tables → (k : ℕ) → g.E.Blocks.changed l.edits k ≡ true → (g.E.Blocks.changed l.fn.edits k ≡ true) ⊎ HasBitIn l.fn.bitmap (Has (blocks_of l.stream.sizes (take (l.i - l.fn.from) (drop l.fn.from (used_runs (table_runs l.stream.sizes (contents m) l.fn.tables.array)))))) k;
  stays : StaysChanged (g.E.Blocks.changed l.fn.edits) (g.E.Blocks.changed l.edits);
}
