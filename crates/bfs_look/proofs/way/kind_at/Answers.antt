use Rattle.std.proofs.Common.{◌≡◌, ◌∙◌, Some, None, ap}
use Rattle.bfs_stream.specs.Told.{contents}
use Rattle.bfs_look.specs.Claims.{kind_in}
use Rattle.bfs_look.proofs.Known.{node_told, node_kind}
use Rattle.bfs_look.proofs.way.kind_at.Goals as goal

pub returns-in-Some-clause-kind : goal.returns-in-Some-clause-kind
returns-in-Some-clause-kind g c v m tree lists n told ready is =
    let s = c.args.site.sup in
    let block : c.in-Ok.block.items ≡ contents m c.args.id = c.in-Ok.ensures.read m told (node_told s v m tree lists ready c.args.id n is) in
    let both : Some c.in-Some.kind ≡ Some n.kind = c.in-Some.ensures ∙ ap kind_in (c.deref.ensures.value ∙ block) ∙ node_kind s v m tree lists ready c.args.id n is in
    cc

pub returns-clause-kind : goal.returns-clause-kind
returns-clause-kind g c v m tree lists n told ready is =
    let s = c.args.site.sup in
    let block : c.in-Ok.block.items ≡ contents m c.args.id = c.in-Ok.ensures.read m told (node_told s v m tree lists ready c.args.id n is) in
    let both : None ≡ Some n.kind = c.in-None.ensures ∙ ap kind_in (c.deref.ensures.value ∙ block) ∙ node_kind s v m tree lists ready c.args.id n is in
    absurd (cc)
