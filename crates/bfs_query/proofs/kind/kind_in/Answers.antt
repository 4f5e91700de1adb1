use Rattle.bfs_query.proofs.Heads.{page_is, not_refused}
use Rattle.bfs_query.proofs.kind.kind_in.Goals as goal

pub returns-then-page-ne1024-clause-kind : goal.returns-then-page-ne1024-clause-kind
returns-then-page-ne1024-clause-kind c kind bytes whole e = absurd (c.if-page-ne1024.true (page_is kind bytes c.args.page.now whole e))

pub returns-in-Err-clause-kind : goal.returns-in-Err-clause-kind
returns-in-Err-clause-kind c kind bytes whole e = absurd (not_refused kind bytes c.args.page.now c.in-Err.field-0 whole e c.in-Err.ensures.refused)
