use Rattle.std.proofs.Common.{◌∷◌, subst, sym}
use Rattle.std.specs.List.{flat_map}
use Rattle.bfs_stream.specs.Told.{contents}
use Rattle.bfs_sound.specs.Owners.{node_blocks}
use Rattle.bfs_sound.specs.Whole.{volume_of}
use Rattle.bfs_finding.specs.Findings.{IsFindingOf}
use Rattle.bfs_indices_check.specs.Laws.{system_blocks}
use Rattle.bfs_passes.proofs.Owning.{IsNodeOwner, node_owns}
use Rattle.bfs_passes.proofs.Sharing.{by_node, by_no_node, untaken_shared}
use Rattle.bfs_passes.proofs.owners.shared_index.Goals as goal

pub returns-in-Ok-Some-clause-wrong : goal.returns-in-Ok-Some-clause-wrong
returns-in-Ok-Some-clause-wrong g c m nodes told log w t =
    let v = volume_of c.args.sup.now (contents m) in
    let o = node_owns v (w.top ∷ w.visits) c.args.block c.in-Ok-Some.field-0 c.in-Ok-Some.first c.in-Ok-Some.field-0-is (c.in-Ok-Some.ensures.found m (system_blocks v) nodes w told) in
    subst (IsFindingOf c.args.sup.now v) (sym c.shared.ensures) (IsFindingOf.in_parts log (by_node v c.args.block c.args.owner c.in-Ok-Some.first _ o.0 o.1 o.2 o.3 t))

pub returns-in-Ok-None-clause-wrong : goal.returns-in-Ok-None-clause-wrong
returns-in-Ok-None-clause-wrong g c m nodes told log w t =
    let v = volume_of c.args.sup.now (contents m) in
    subst (IsFindingOf c.args.sup.now v) (sym c.shared-in-Ok-None.ensures)
    (IsFindingOf.in_parts log (by_no_node v c.args.block c.args.owner (flat_map (node_blocks v) (w.top ∷ w.visits)) (subst (IsNodeOwner v (w.top ∷ w.visits) c.args.block) c.in-Ok-None.field-0-is (c.in-Ok-None.ensures.found m (system_blocks v) nodes w told)) t))

pub returns-in-Err-clause-wrong : goal.returns-in-Err-clause-wrong
returns-in-Err-clause-wrong g c m nodes told log w t =
    let v = volume_of c.args.sup.now (contents m) in
    c.walked.ensures.told c.args.sup.now v log (c.in-Err.ensures.wrong m told) (untaken_shared v c.in-Err.fault c.in-Err.ensures.untaken)

pub returns-in-Err-clause-cause : goal.returns-in-Err-clause-cause
returns-in-Err-clause-cause g c = c.walked.ensures.cause (g.B.Blocks.counts c.args.under.now) (g.B.Blocks.counts c.find_owner_in.new.under) c.in-Err.ensures.cause
