use Rattle.std.proofs.Common.{rules, ◌≡◌, ap, w64, to_z, of_z}
use Rattle.bfs_finding.specs.declared.finding.Finding.TheVariants as finds
use Rattle.bfs_finding.specs.Findings.{in_log}
use Rattle.bfs_super_check.proofs.passes.check_log.Goals as goal

pub returns-else-sup-clause-wrong : goal.returns-else-sup-clause-wrong
returns-else-sup-clause-wrong c v =
    let start : to_z w64 (of_z w64 c.args.sup.now.log_start) ≡ c.args.sup.now.log_start = search rules in
    let end : to_z w64 (of_z w64 c.args.sup.now.log_end) ≡ c.args.sup.now.log_end = search rules in
    in_log (λ e. c.if-sup.false (ap (of_z w64) e)) (λ i. finds.Log (start i) (end i))
