use Rattle.std.proofs.Common.{◌≡◌, ◌+◌, ◌-◌, ◌*◌, List, ◌++◌, length, take, drop}
use Rattle.bfs_node.specs.Page.{Row, rows_of, keys_of}
use Rattle.bfs_node.specs.Written.{part, Written}
use Rattle.bfs_node.proofs.write.copy_rows.Given as goal

abbrev pub invariant-loop-m : goal.invariant-loop-m
invariant-loop-m l = record {
  size : length l.page ≡ 1024;
  end : l.e + length (keys_of (take l.from (rows_of l.old))) ≡ l.end + length (keys_of (take l.m (rows_of l.old)));
  head : part l.page 0 28 ≡ part l.fn.page 0 28;
  written : (rows : List Row) → length rows ≡ l.first → length (keys_of rows) ≡ l.end
      → Written l.fn.page l.table.base (l.table.base + 2 * l.table.count) rows → Written l.page l.table.base (l.table.base + 2 * l.table.count) (rows ++ take (l.m - l.from) (drop l.from (rows_of l.old)));
}
