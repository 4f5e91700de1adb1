use Rattle.std.proofs.Common.{◌≡◌, List, ℕ, ap, sym, subst, ◌∙◌}
use Rattle.bfs_pages.specs.Trees.{page_in, neighbours_in}
use Rattle.bfs_pages.proofs.OfKind.{if_some}
use Rattle.bfs_values.specs.Values.{IsDuplicates, page_numbers}
use Rattle.bfs_dups.proofs.Composed.{told-some}
use Rattle.bfs_dups_remove.proofs.Righted.{still-good, page-here}
use Rattle.bfs_dups_remove.proofs.freeing.mend_left.Goals as goal

pub returns-in-Ok-write_page-clause-mended : goal.returns-in-Ok-write_page-clause-mended
returns-in-Ok-write_page-clause-mended g c b e good =
    let r : c.read_page.new.page ≡ page_in b c.args.at = if_some (λ (b : List ℕ). c.read_page.new.page ≡ page_in b c.args.at) (g.P.Pages.told c.args.pages.now) b c.in-Ok.ensures.read e in
    let x = c.in-Ok-write_page.ensures.made b (c.in-Ok.ensures.told ∙ e) in (
      x.0,
      x.1,
      record {
        page = c.set_left.new.page;
        set = x.2;
        good = still-good c.read_page.new.page c.set_left.new.page c.set_left.ensures.count c.set_left.ensures.numbers (subst (λ (p : List ℕ). IsDuplicates p) (sym r) good);
        next = c.set_left.ensures.next ∙ ap (λ (p : List ℕ). (neighbours_in p).1) r;
        numbers_are = c.set_left.ensures.numbers ∙ ap page_numbers r;
      },
    )

pub returns-in-Ok-write_page-clause-left : goal.returns-in-Ok-write_page-clause-left
returns-in-Ok-write_page-clause-left g c b e some small =
    let x = c.in-Ok-write_page.ensures.made b (c.in-Ok.ensures.told ∙ e) in
    told-some (λ (d : List ℕ). (neighbours_in (page_in d c.args.at)).0 ≡ c.args.left) (g.P.Pages.told c.write_page.new.pages) x.0 x.1
    (ap (λ (p : List ℕ). (neighbours_in p).0) (page-here b x.0 c.args.at c.set_left.new.page x.2) ∙ c.set_left.ensures.left some small)
