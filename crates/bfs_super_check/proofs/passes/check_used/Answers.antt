use Rattle.std.proofs.Common.{rules, ◌≡◌, ◌∙◌, ap, sym, w64, to_z, of_z}
use Rattle.std.proofs.lemmas.Bool.{true≢false}
use Rattle.bfs_super.specs.Conditions.{natural}
use Rattle.bfs_finding.specs.Findings.{in_count}
use Rattle.bfs_super_check.proofs.passes.check_used.Goals as goal

pub returns-then-is_number-clause-counts : goal.returns-then-is_number-clause-counts
returns-then-is_number-clause-counts c blocks xs long =
    let same : to_z w64 (of_z w64 c.args.sup.now.used_blocks) ≡ c.args.sup.now.used_blocks = search rules in
    ap natural (sym same ∙ c.is_number.ensures.0 c.if-is_number.true) ∙ sym long

pub returns-else-is_number-clause-wrong : goal.returns-else-is_number-clause-wrong
returns-else-is_number-clause-wrong c v tree emptied standing indices marks long =
    let same : to_z w64 (of_z w64 c.args.sup.now.used_blocks) ≡ c.args.sup.now.used_blocks = search rules in
    in_count emptied tree standing indices marks (same, sym long, λ e. true≢false (sym (c.is_number.ensures.1 e) ∙ c.if-is_number.false))
