use Rattle.std.proofs.Common.{◌≡◌, length, rules, ap, ◌∙◌, sym, subst}
use Rattle.bfs_super.specs.declared.sup.Super.{Super}
use Rattle.bfs_super.specs.Conditions.{IsValid}
use Rattle.bfs_super.specs.Layout.{sector_of}
use Rattle.bfs_super.specs.Label.{name_of}
use Rattle.bfs_tool.proofs.Changed.{renamed}
use Rattle.bfs_tool.proofs.label.change.Goals as goal

pub returns-clause-ok : goal.returns-clause-ok
returns-clause-ok c =
    let old = c.args.sector.now in
    let long : length old ≡ 512 = search rules in
    let found = c.in-Ok.ensures.found in
    let name = name_of c.args.name.now in
    record {
      valid = subst IsValid found.0 found.1;
      empty_log = ap (λ s. s.log_start) (sym found.0) ∙ search rules ∙ ap (λ s. s.log_end) found.0;
      bytes = c.print.ensures.sector ∙ ap sector_of (c.in-Ok-set_label.ensures.ok.1 ∙ ap (λ (s : Super). let r : Super = record s { name = name } in r) found.0) ∙ renamed old name long (ap sector_of (sym found.0) ∙ c.in-Ok.ensures.again);
    }
