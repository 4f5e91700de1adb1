use Rattle.std.proofs.Common.{rules, ◌≡◌, ℕ, Option, None, refl, ap, ◌∙◌}
use Rattle.bfs_script.specs.declared.fault.ScriptFault.{ScriptFault}
use Rattle.bfs_script.specs.declared.fault.ScriptFault.TheVariants as faults
use Rattle.bfs_script.specs.Scripts.{script_of, bad_line, IsFaultAt}
use Rattle.bfs_soak.specs.Spellings.{workload_text}
use Rattle.bfs_soak.proofs.Workloads.{workload_said, workload_good}
use Rattle.bfs_soak.proofs.workload.make_workload.Goals as goal

pub returns-in-Ok : goal.returns-in-Ok
returns-in-Ok c =
    let items : c.in_ok-lines.lines.items ≡ workload_text c.args.seed c.args.count = search rules in
    c.in-Ok.ensures.script ∙ ap script_of items ∙ workload_said c.args.seed c.args.count

is_memory : (bad : Option ℕ) (fault : ScriptFault) → bad ≡ None → IsFaultAt bad fault → fault ≡ faults.NoMemory
is_memory bad (faults.Line number) good at = cc
is_memory bad faults.NoMemory good at = refl

pub unreachable-requires : goal.unreachable-requires
unreachable-requires c =
    let items : c.in_ok-lines.lines.items ≡ workload_text c.args.seed c.args.count = search rules in
    let memory = is_memory (bad_line c.in_ok-lines.lines.items) c.in-Err.fault (ap bad_line items ∙ workload_good c.args.seed c.args.count c.requires) c.in-Err.ensures.fault in
    let line = c.in-Line.is in
    cc
