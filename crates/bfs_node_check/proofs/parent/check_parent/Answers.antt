use Rattle.std.proofs.Common.{rules, ◌≡◌, ◌∙◌, ◌<◌, ◌^◌, ap, sym, subst, w64, to_z, of_z}
use Rattle.std.proofs.lemmas.Bool.{true≢false}
use Rattle.bfs_bytes.specs.declared.Run.{Run}
use Rattle.bfs_bytes.specs.Fields.{run_in}
use Rattle.bfs_inode.specs.Refusals.{number_of}
use Rattle.bfs_node_check.proofs.Parents.{other_block, no_address}
use Rattle.bfs_node_check.proofs.parent.check_parent.Goals as goal

pub returns-then-is_number-clause-wrong : goal.returns-then-is_number-clause-wrong
returns-then-is_number-clause-wrong c v name same shift arrives =
    let run : c.run_at-run.result ≡ run_in c.args.bytes.now 44 = c.run_at-run.ensures in
    let is = c.number_of-found.ensures ∙ ap (λ (r : Run). number_of r c.args.ag_shift) run in
    let back : to_z w64 (of_z w64 c.number_of-found.result) ≡ c.number_of-found.result = search rules in
    no_address v c.args.id c.args.bytes.now c.args.ag_shift c.args.parent name same shift arrives (sym is ∙ sym back ∙ c.is_number.ensures.0 c.if-is_number.true)
    (λ names. true≢false (sym (c.is_address.ensures.1 (subst (λ (r : Run). (r.len ≡ 1) × (r.start < 2 ^ c.args.ag_shift)) (sym run) (names.one, names.inside))) ∙ c.if-is_address.false))

pub returns-clause-wrong : goal.returns-clause-wrong
returns-clause-wrong c v name same shift arrives =
    let run : c.run_at-run.result ≡ run_in c.args.bytes.now 44 = c.run_at-run.ensures in
    let is = c.number_of-found.ensures ∙ ap (λ (r : Run). number_of r c.args.ag_shift) run in
    let back : to_z w64 (of_z w64 c.number_of-found.result) ≡ c.number_of-found.result = search rules in
    other_block v c.args.id c.args.bytes.now c.args.ag_shift c.args.parent name same shift arrives (to_z w64 (of_z w64 c.number_of-found.result)) (back ∙ is)
    (λ e. true≢false (sym (c.is_number.ensures.1 e) ∙ c.if-is_number.false))
