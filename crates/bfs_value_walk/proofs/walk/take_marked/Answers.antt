use Rattle.std.proofs.Common.{◌∙◌, sym, subst}
use Rattle.bfs_values.specs.Rows.{rows_in}
use Rattle.bfs_value_walk.specs.Met.{AreMarked}
use Rattle.bfs_value_walk.specs.Taken.{AreAllNamed}
use Rattle.bfs_value_walk.proofs.Reaching.{all_reached}
use Rattle.bfs_value_walk.proofs.walk.take_marked.Goals as goal

pub returns-in-Err-clause-wrong : goal.returns-in-Err-clause-wrong
returns-in-Err-clause-wrong g c = λ b told are start.
    c.in-Err.ensures.wrong b c.args.taken.now told are start

pub returns-in-Err-check_parts-clause-wrong : goal.returns-in-Err-check_parts-clause-wrong
returns-in-Err-check_parts-clause-wrong g c = λ b told are start.
    let kind = c.args.kind in
    let size = g.P.Pages.size c.args.pages.now in
    let t = c.in-Ok.ensures.taken b c.args.taken.now told are start in
    c.in-Err-check_parts.ensures.wrong kind b c.take_leaves.new.marks (c.in-Ok.ensures.told ∙ told) (subst (λ n. AreMarked kind b (rows_in kind b) n c.take_leaves.new.marks c.take_leaves.new.names) (sym c.in-Ok.ensures.size) t.met)

pub returns-in-Ok-check_parts-clause-reached : goal.returns-in-Ok-check_parts-clause-reached
returns-in-Ok-check_parts-clause-reached g c = λ b told are start.
    let kind = c.args.kind in
    let size = g.P.Pages.size c.args.pages.now in
    let t = c.in-Ok.ensures.taken b c.args.taken.now told are start in
    let all = c.in-Ok-check_parts.ensures.named kind b c.take_leaves.new.marks (c.in-Ok.ensures.told ∙ told) (subst (λ n. AreMarked kind b (rows_in kind b) n c.take_leaves.new.marks c.take_leaves.new.names) (sym c.in-Ok.ensures.size) t.met) in
    all_reached kind b size c.take_leaves.new.marks c.take_leaves.new.names (g.T.RowSink.took c.args.taken.now c.take_leaves.new.taken) t (subst (λ n. AreAllNamed b n c.take_leaves.new.names) c.in-Ok.ensures.size all)
