use Rattle.std.proofs.Common.{◌≡◌, ◌-◌}
use Rattle.std.specs.Prelude.{◌==◌}
use Rattle.std.specs.List.{list_any}
use Rattle.std.specs.FinMap.{len}
use Rattle.bfs_tree.specs.Refusals.{line_up}
use Rattle.bfs_plain.specs.Plain.{nodes_of}
use Rattle.bfs_plain.proofs.look.is_below.Given as goal

abbrev pub invariant-loop-step : goal.invariant-loop-step
invariant-loop-step l =
    list_any (λ x. x == l.id) (line_up (nodes_of l.nodes.entries) (len (nodes_of l.nodes.entries)) l.dir)
    ≡ list_any (λ x. x == l.id) (line_up (nodes_of l.nodes.entries) (len (nodes_of l.nodes.entries) - l.step) l.at)
