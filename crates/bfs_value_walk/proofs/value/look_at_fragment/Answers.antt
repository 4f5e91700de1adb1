use Rattle.std.proofs.Common.{sym, subst}
use Rattle.bfs_values.proofs.Lasting.{read-page}
use Rattle.bfs_walk.specs.Wrong.{IsWrongTree}
use Rattle.bfs_value_walk.proofs.Faulty.{fragment_wrong}
use Rattle.bfs_value_walk.proofs.value.look_at_fragment.Goals as goal

pub returns-in_default-clause-wrong : goal.returns-in_default-clause-wrong
returns-in_default-clause-wrong g c = λ kind b r told there e.
    let size = g.P.Pages.size c.args.pages.now in
    let page = read-page (g.P.Pages.told c.args.pages.now) size c.args.at c.get.new.into (g.met.P.Pages.sized c.args.pages.now) c.in-Ok.ensures.page c.requires.at b told in
    subst (IsWrongTree kind b) (sym c.content_of.ensures) (fragment_wrong kind b c.args.at c.args.index size c.get.new.into r c.requires.at page.0 page.1 there e c.in_default.ensures)
