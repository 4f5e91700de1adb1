use Rattle.std.proofs.Common.{ap, sym, ◌∙◌, ◌+◌, ◌*◌}
use Rattle.bfs_bytes.specs.Fields.{run_in}
use Rattle.bfs_inode.proofs.Runs.{get_or-runs_in}
use Rattle.bfs_inode.proofs.view.InodeView.direct.Goals as goal

pub returns-clause-direct : goal.returns-clause-direct
returns-clause-direct c =
    c.run_at.ensures ∙ ap (λ b. run_in b (72 + 8 * c.args.i)) c.self.view_is ∙ sym (get_or-runs_in 12 c.args.self.now 72 c.args.i c.run_at.result c.requires)
