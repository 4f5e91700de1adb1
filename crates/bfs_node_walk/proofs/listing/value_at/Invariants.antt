use Rattle.std.proofs.Common.{◌≡◌, drop}
use Rattle.bfs_base.specs.declared.kind.KeyKind.TheVariants.{Text}
use Rattle.bfs_pages.specs.Maps.{assoc}
use Rattle.bfs_names_walk.specs.Rows.{as_rows}
use Rattle.bfs_node_walk.proofs.listing.value_at.Given as goal

abbrev pub invariant-loop-i : goal.invariant-loop-i
invariant-loop-i l = assoc Text (as_rows l.rows) l.name ≡ assoc Text (as_rows (drop l.i l.rows)) l.name
