use Rattle.std.proofs.Common.{ap, ◌∙◌, ◌≡◌, ◌∷◌, arith, length, map as each}
use Rattle.bfs_plain.proofs.Free.{first_free, free-node, free-step, free-here}
use Rattle.bfs_plain.proofs.nodes.free_id.Goals as goal

pub returns-then-id-free : goal.returns-then-id-free
returns-then-id-free c =
    free-node c.args.nodes.now.entries c.loop-id.free c.iter-id-items.ensures.ordered
    (c.loop-id.invariant.0 ∙ ap (λ es. first_free c.loop-id.free (each (λ e. e.0) es)) c.in-Some.ensures.steps ∙ free-here c.loop-id.free c.in-Some.id.now (each (λ e. e.0) c.next.new.self) c.if-id-free.true)

pub returns : goal.returns
returns c =
    free-node c.args.nodes.now.entries c.loop-id.free c.iter-id-items.ensures.ordered
    (c.loop-id.invariant.0 ∙ ap (λ es. first_free c.loop-id.free (each (λ e. e.0) es)) c.in-None.ensures.steps.0)

pub loop-id-preserved : goal.loop-id-preserved
loop-id-preserved c =
    let more : length c.loop-id.id-iterator ≡ length ((c.in-Some.id.now, c.in-Some.field-0-1.now) ∷ c.next.new.self) = ap length c.in-Some.ensures.steps in (
      c.loop-id.invariant.0 ∙ ap (λ es. first_free c.loop-id.free (each (λ e. e.0) es)) c.in-Some.ensures.steps ∙ free-step c.loop-id.free c.in-Some.id.now (each (λ e. e.0) c.next.new.self) c.if-id-free.false,
      omega (arith, more, c.loop-id.invariant.1),
    )
