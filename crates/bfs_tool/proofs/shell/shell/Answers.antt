use Rattle.bfs_tool.specs.Shell.{run_text}
use Rattle.bfs_tool.proofs.shell.shell.Goals as goal

pub returns-clause-ends : goal.returns-clause-ends
returns-clause-ends g c = (
  c.run_shell-run.result.0,
  c.print_run-shown.ensures.ends,
  c.print_run-shown.ensures.printed (run_text c.run_shell-run.result.0) c.text_of-text.ensures,
  c.print_run-shown.ensures.whole (run_text c.run_shell-run.result.0) c.text_of-text.ensures,
  (λ image held. ((λ why is. c.run_shell-run.ensures.unmounted image held why is), (λ not i left. c.run_shell-run.ensures.unmounted_moments image held not i left))),
  c.run_shell-run.ensures.script,
  c.run_shell-run.ensures.run,
  c.run_shell-run.ensures.failures,
)
