use Rattle.std.proofs.Common.{refl}
use Rattle.bfs_values.proofs.Lasting.{read-page}
use Rattle.bfs_finding.specs.TreeFaults.{of_value}
use Rattle.bfs_value_walk.proofs.Reaching.{part_named, part_wrong}
use Rattle.bfs_value_walk.proofs.parts.look_at_parts.Goals as goal

pub returns-then-are_named-clause-named : goal.returns-then-are_named-clause-named
returns-then-are_named-clause-named g c = λ b names told same.
    let size = g.P.Pages.size c.args.pages.now in
    let page = read-page (g.P.Pages.told c.args.pages.now) size c.args.at c.get.new.into (g.met.P.Pages.sized c.args.pages.now) c.in-Ok.ensures.page c.requires.at b told in
    part_named b names size c.args.at c.args.word c.get.new.into c.requires.at.1 page.1 same (c.are_named.ensures.yes c.if-are_named.true)

pub returns-clause-wrong : goal.returns-clause-wrong
returns-clause-wrong g c = λ kind b names marks told same off met.
    let size = g.P.Pages.size c.args.pages.now in
    let page = read-page (g.P.Pages.told c.args.pages.now) size c.args.at c.get.new.into (g.met.P.Pages.sized c.args.pages.now) c.in-Ok.ensures.page c.requires.at b told in
    of_value (part_wrong kind b names size c.args.at c.args.word c.get.new.into marks c.requires.at.1 page.1 same off met (c.are_named.ensures.none c.if-are_named.false)) refl
