use Rattle.std.proofs.Common.{◌≡◌, ◌∙◌, ◌<◌, Some, None, false, refl, sym, ap, subst}
use Rattle.std.proofs.lemmas.Bool.{cond-false}
use Rattle.bfs_bytes.specs.declared.Run.{Run}
use Rattle.bfs_bytes.specs.Fields.{run_in}
use Rattle.bfs_super.specs.Conditions.{block_of_run, natural}
use Rattle.bfs_sound.specs.Attributes.{is_zero}
use Rattle.bfs_attr.proofs.directory.directory_of.Goals as goal

pub returns-in-None : goal.returns-in-None
returns-in-None c =
    let run = c.run_at-run.result in
    let at = run_in c.args.block.now 52 in
    let same : run ≡ at = c.run_at-run.ensures in
    let some : is_zero at ≡ false = ap is_zero (sym same) ∙ sym c.is_zero_run.ensures ∙ c.if-is_zero_run.false in (
      block_of_run c.args.sup at,
      cond-false (is_zero at) None (Some (block_of_run c.args.sup at)) some,
      λ one low. c.in-None.ensures.none refl (ap (λ (r : Run). r.len) same ∙ one) (subst (λ (r : Run). block_of_run c.args.sup r < natural c.args.sup.num_blocks) (sym same) low),
    )
