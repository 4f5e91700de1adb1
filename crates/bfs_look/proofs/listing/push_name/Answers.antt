use Rattle.std.proofs.Common.{◌∙◌, sym}
use Rattle.bfs_look.proofs.Listed.{pushed_none, pushed_one}
use Rattle.bfs_look.proofs.listing.push_name.Goals as goal

pub returns-then-not-is_proper_row : goal.returns-then-not-is_proper_row
returns-then-not-is_proper_row c = pushed_none c.args.names.now.items c.args.row.now (sym c.is_proper_row.ensures ∙ c.if-not-is_proper_row.true)

pub returns-in-Ok : goal.returns-in-Ok
returns-in-Ok c = pushed_one c.args.names.now.items c.push_copy.new.names.items c.args.row.now (sym c.is_proper_row.ensures ∙ c.if-not-is_proper_row.false) c.in-Ok.ensures
