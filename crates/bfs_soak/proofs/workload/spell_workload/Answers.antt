use Rattle.std.proofs.Common.{rules, ◌<◌}
use Rattle.bfs_soak.proofs.Drawn.{text_more}
use Rattle.bfs_soak.proofs.workload.spell_workload.Goals as goal

pub lines-preserved : goal.lines-preserved
lines-preserved c =
    let lt : c.lines.at < c.args.count = search rules in
    text_more _ c.lines.out.items c.put_drawn.new.out.items c.lines.x c.in_ok-x.x c.lines.at c.args.count lt c.lines.invariant c.in_ok-x.ensures.line c.in_ok-x.ensures.state
