use Rattle.std.proofs.Common.{List, ℕ, ap, ◌∙◌, ◌≡◌}
use Rattle.bfs_pages.specs.Trees.{neighbours_in, page_in}
use Rattle.bfs_dups.proofs.Holding.{set}
use Rattle.bfs_dups_remove.proofs.Righted.{still-good, page-here}
use Rattle.bfs_dups.proofs.Composed.{told-some}
use Rattle.bfs_dups_remove.proofs.freeing.pass_by.Goals as goal

pub returns-in-Ok-free_page-clause-passed : goal.returns-in-Ok-free_page-clause-passed
returns-in-Ok-free_page-clause-passed g c b e good r =
    let x = c.in-Ok.ensures.made b e in
    let y = c.in-Ok-free_page.ensures.given x.0 x.1 in (
      y.0,
      y.1,
      record {
        middle = x.0;
        page = c.link_past.new.page;
        set = x.2;
        good = still-good c.args.page.now c.link_past.new.page c.link_past.ensures.count c.link_past.ensures.numbers good;
        next = c.link_past.ensures.next ∙ ap (λ (p : List ℕ). (neighbours_in p).1) r;
        numbers_are = c.link_past.ensures.numbers;
        given = y.2;
      },
    )

pub returns-in-Err-free_page-clause-spared : goal.returns-in-Err-free_page-clause-spared
returns-in-Err-free_page-clause-spared g c b reached t fs e tree i =
    let x = c.in-Ok.ensures.made b e in
    c.in-Err-free_page.ensures.spared x.0 reached t fs x.1 (set c.args.kind b x.0 reached t fs c.args.at c.link_past.new.page tree x.2 i)

pub returns-in-Ok-free_page-clause-left : goal.returns-in-Ok-free_page-clause-left
returns-in-Ok-free_page-clause-left g c b e apart =
    let x = c.in-Ok.ensures.made b e in
    let y = c.in-Ok-free_page.ensures.given x.0 x.1 in
    told-some (λ (d : List ℕ). (neighbours_in (page_in d c.args.at)).0 ≡ (neighbours_in c.args.page.now).0) (g.P.Pages.told c.free_page.new.pages) y.0 y.1
    (ap (λ (p : List ℕ). (neighbours_in p).0) (y.2.pages c.args.at apart ∙ page-here b x.0 c.args.at c.link_past.new.page x.2) ∙ c.link_past.ensures.left)
