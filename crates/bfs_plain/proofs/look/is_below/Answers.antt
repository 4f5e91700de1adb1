use Rattle.std.proofs.Common.{◌≡◌, ◌<◌, ◌+◌, ◌-◌, ℕ, suc, false, ap, ◌∙◌, sym, arith}
use Rattle.std.specs.Prelude.{◌==◌, ◌||◌}
use Rattle.std.specs.List.{list_any}
use Rattle.std.specs.Option.{option_map_or}
use Rattle.std.specs.FinMap.{get, len}
use Rattle.bfs_tree.specs.Trees.{Nodes}
use Rattle.bfs_tree.specs.Refusals.{line_up}
use Rattle.bfs_plain.specs.Plain.{nodes_of}
use Rattle.bfs_plain.proofs.look.is_below.Goals as goal

up : (nodes : Nodes) (id at next n k : ℕ) → k < n → (at == id) ≡ false → next ≡ option_map_or (λ node. node.parent) (get nodes at) at
    → list_any (λ x. x == id) (line_up nodes (n - k) at) ≡ list_any (λ x. x == id) (line_up nodes (n - (k + 1)) next)
up nodes id at next n k h miss is =
    let more : n - k ≡ suc (n - (k + 1)) = omega (arith, h) in
    ap (λ m. list_any (λ x. x == id) (line_up nodes m at)) more
    ∙ ap (λ b. b || (list_any (λ x. x == id) (line_up nodes (n - (k + 1)) (option_map_or (λ node. node.parent) (get nodes at) at)))) miss
    ∙ ap (λ d. list_any (λ x. x == id) (line_up nodes (n - (k + 1)) d)) (sym is)

pub loop-step-preserved : goal.loop-step-preserved
loop-step-preserved c =
    let miss : (c.loop-step.at == c.args.id) ≡ false = grind (arith, c.if-at-id.false) in
    let short : c.loop-step.step < len (nodes_of c.args.nodes.now.entries) = omega (arith, c.loop-step-test.true, c.node_count-step-end.ensures) in
    c.loop-step.invariant ∙ up (nodes_of c.args.nodes.now.entries) c.args.id c.loop-step.at c.parent_at-at.result (len (nodes_of c.args.nodes.now.entries)) c.loop-step.step short miss c.parent_at-at.ensures
