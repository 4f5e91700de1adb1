use Rattle.std.proofs.Common.{sym}
use Rattle.bfs_pages.proofs.Good.{true-page, refused-page}
use Rattle.bfs_pages.proofs.read.is_good.Goals as goal

pub returns-in-Ok-clause-good : goal.returns-in-Ok-clause-good
returns-in-Ok-clause-good c = sym (true-page c.args.kind c.args.page.now c.in-Ok.ensures.ok)

pub returns-in-Err-clause-good : goal.returns-in-Err-clause-good
returns-in-Err-clause-good c = sym (refused-page c.args.kind c.args.page.now c.in-Err.field-0 c.in-Err.ensures.refused)
