use Rattle.std.proofs.Common.{◌≡◌, ◌∙◌, rules}
use Rattle.bfs_pages.specs.Trees.{page_in}
use Rattle.bfs_pages.proofs.OfKind.{if_some}
use Rattle.bfs_insert.proofs.RowPuts.{key-sought, more-page, row-put}
use Rattle.bfs_insert.proofs.putting.put_in_leaf.Goals as goal

pub place_for-i-requires-clause-key : goal.place_for-i-requires-clause-key
place_for-i-requires-clause-key g c = key-sought c.args.kind c.args.key.now c.requires.key

pub returns-in-Ok-clause-put : goal.returns-in-Ok-clause-put
returns-in-Ok-clause-put g c b e =
    let r : c.args.page.now ≡ page_in b c.args.at = if_some (λ b. c.args.page.now ≡ page_in b c.args.at) (g.P.Pages.told c.args.pages.now) b c.requires.read e in
    let s = c.in-Ok.ensures.made b e in (
      s.0,
      s.1,
      row-put c.args.kind b s.0 c.args.page.now c.insert_row.new.page c.args.at c.place_for-i.result c.args.key.now c.args.value s.2 r
          (more-page c.args.kind c.args.page.now c.insert_row.new.page c.place_for-i.result c.args.key.now _ c.requires.page c.requires.key c.insert_row.ensures.page c.insert_row.ensures.rows)
          (c.insert_row.ensures.rows ∙ search rules) c.insert_row.ensures.links c.place_for-i.ensures.first,
    )
