use Rattle.std.proofs.Common.{◌≡◌, ◌++◌, take, length}
use Rattle.std.specs.Prelude.{codes, decimal}
use Rattle.std.specs.List.{flat_map}
use Rattle.bfs_text.specs.Printed.{named}
use Rattle.bfs_text.proofs.rows.put_names.Given as goal

abbrev pub invariant-rows : goal.invariant-rows
invariant-rows l = l.out.items ≡ l.fn.out.items ++ ((codes "ok " ++ decimal (length l.rows)) ++ flat_map named (take l.at l.rows))
