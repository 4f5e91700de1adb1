use Rattle.std.proofs.Common.{rules, ◌≡◌, ◌<◌, ◌==◌, false, get_or, length, ap, sym, ◌∙◌}
use Rattle.bfs_text.specs.Skips.{is_path_left}
use Rattle.bfs_text.proofs.Skipping.{path_step, passes}
use Rattle.bfs_text.proofs.checks.are_parts.Goals as goal

pub returns-in_default : goal.returns-in_default
returns-in_default c =
    let lt : c.loop-at.at < length c.args.bytes.now = search rules in
    let other : (get_or c.args.bytes.now c.loop-at.at 0 == 47) ≡ false = search rules in
    sym (c.loop-at.invariant.1 ∙ path_step c.loop-at.fresh c.args.bytes.now c.loop-at.at lt other ∙ ap (passes (is_path_left false)) c.in_default.ensures)

pub loop-at-preserved : goal.loop-at-preserved
loop-at-preserved c =
    let lt : c.loop-at.at < length c.args.bytes.now = search rules in
    let other : (get_or c.args.bytes.now c.loop-at.at 0 == 47) ≡ false = search rules in
    (c.in-Some.ensures.1, c.loop-at.invariant.1 ∙ path_step c.loop-at.fresh c.args.bytes.now c.loop-at.at lt other ∙ ap (passes (is_path_left false)) c.in-Some.ensures.2)
