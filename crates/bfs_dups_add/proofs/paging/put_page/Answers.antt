use Rattle.std.proofs.Common.{◌≡◌, ℕ, length, sym, subst}
use Rattle.bfs_pages.specs.Trees.{IsTreeHeader}
use Rattle.bfs_remove.proofs.Giving.{told-size}
use Rattle.bfs_dups_add.proofs.Causes.{spared-scant}
use Rattle.bfs_dups_add.proofs.paging.put_page.Goals as goal

pub returns-in-Err-clause-spared : goal.returns-in-Err-clause-spared
returns-in-Err-clause-spared g c b reached t fs e tree = spared-scant (g.P.Pages.told c.take_page.new.pages) c.in-Err.fault (c.in-Err.ensures.spared b reached t fs e tree)

pub returns-in-Ok-write_page-clause-put : goal.returns-in-Ok-write_page-clause-put
returns-in-Ok-write_page-clause-put g c b e =
    let t = c.in-Ok.ensures.taken b e in
    let s = c.in-Ok-write_page.ensures.made t.0 t.1 in
    let size : length t.0 ≡ g.P.Pages.size c.take_page.new.pages = told-size (g.P.Pages.told c.take_page.new.pages) (g.P.Pages.size c.take_page.new.pages) t.0 (g.met.P.Pages.sized c.take_page.new.pages) t.1 in (
      s.0,
      s.1,
      record {
        middle = t.0;
        header = c.in-Ok.fresh.header;
        good = subst (λ (n : ℕ). IsTreeHeader c.args.kind n c.in-Ok.fresh.header) (sym size) c.in-Ok.ensures.header.tree;
        taken = t.2;
        set = s.2;
      },
    )
