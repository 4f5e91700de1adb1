use Rattle.std.proofs.Common.{rules, ◌≡◌, ◌∙◌, sym, ap}
use mir.Syntax.{w64}
use mir.Val.{to_z, of_z}
use Rattle.bfs_tree.specs.declared.reply.Info.{Info}
use Rattle.bfs_calls.proofs.Faulting.{read_cause, cause_earlier}
use Rattle.bfs_hold.proofs.writing.listed_at.Goals as goal

pub returns-in-Ok-info_at-clause-found : goal.returns-in-Ok-info_at-clause-found
returns-in-Ok-info_at-clause-found g c m tree lists n told ready is =
    let time : to_z w64 (of_z w64 c.in-Ok-info_at.info.modified) ≡ c.in-Ok-info_at.info.modified = search rules in
    let e = c.in-Ok-info_at.ensures.info c.args.bitmap.now m tree lists n (c.in-Ok.ensures.told ∙ told) ready is in
    record {
      row = (c.in-Ok.ensures.found m tree lists told ready).last_modified;
      modified_is = sym (ap (λ (i : Info). i.modified) e) ∙ sym time;
    }

pub returns-in-Err-clause-found : goal.returns-in-Err-clause-found
returns-in-Err-clause-found g c m tree lists n told ready is = c.in-Err.ensures.found m tree lists told ready

pub returns-in-Err-info_at-clause-found : goal.returns-in-Err-info_at-clause-found
returns-in-Err-info_at-clause-found g c m tree lists n told ready is = c.in-Err-info_at.ensures.info c.args.bitmap.now m tree lists n (c.in-Ok.ensures.told ∙ told) ready is

pub returns-in-Err-info_at-clause-cause : goal.returns-in-Err-info_at-clause-cause
returns-in-Err-info_at-clause-cause g c =
    cause_earlier (g.E.Blocks.counts c.args.edits.now) (g.E.Blocks.counts c.built_in_indices.new.edits) (g.E.Blocks.counts c.info_at.new.under) c.in-Err-info_at.fault c.in-Ok.ensures.later
    (read_cause (g.E.Blocks.counts c.built_in_indices.new.edits) (g.E.Blocks.counts c.info_at.new.under) c.in-Err-info_at.fault c.in-Err-info_at.ensures.cause)
