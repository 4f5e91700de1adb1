use Rattle.std.proofs.Common.{◌<◌, ◌≡◌, ◌∙◌, sym, ap, subst, Option}
use Rattle.std.specs.Prelude.{IfSome}
use Rattle.bfs_super.specs.Conditions.{natural}
use Rattle.bfs_tree.specs.Trees.{is_link}
use Rattle.bfs_tree.specs.declared.call.Kind.{Kind}
use Rattle.bfs_look.specs.Ready.{IsKindOf}
use Rattle.bfs_look.proofs.Known.{link_is}
use Rattle.bfs_look.proofs.Looked.{link_nothing, link_no_link, link_there}
use Rattle.bfs_look.proofs.target.read_link.Goals as goal

pub returns-in-None-clause-reads : goal.returns-in-None-clause-reads
returns-in-None-clause-reads g c m tree lists st told ready same = link_nothing st tree same c.args.id (subst (IsKindOf tree c.args.id) c.in-None.is (c.in-Ok.ensures.found m tree lists told ready))

pub returns-then-not-is_link-clause-reads : goal.returns-then-not-is_link-clause-reads
returns-then-not-is_link-clause-reads g c m tree lists st told ready same =
    let n = subst (IsKindOf tree c.args.id) c.in-Some.is (c.in-Ok.ensures.found m tree lists told ready) in
    link_no_link st tree same c.args.id n.0 n.1 (ap is_link n.2 ∙ sym c.is_link.ensures ∙ c.if-not-is_link.true)

pub target_at-requires-clause-inside : goal.target_at-requires-clause-inside
target_at-requires-clause-inside g c = subst (λ (o : Option Kind). IfSome o (λ kind. c.args.id < natural c.args.sup.now.num_blocks)) c.in-Some.is c.in-Ok.ensures.inside

pub returns-in-Ok-target_at-clause-reads : goal.returns-in-Ok-target_at-clause-reads
returns-in-Ok-target_at-clause-reads g c m tree lists st told ready same =
    let n = subst (IsKindOf tree c.args.id) c.in-Some.is (c.in-Ok.ensures.found m tree lists told ready) in
    let link = ap is_link n.2 ∙ sym c.is_link.ensures ∙ c.if-not-is_link.false in
    link_there st tree same c.args.id n.0 n.1 link c.in-Ok-target_at.bytes (c.in-Ok-target_at.ensures.target c.args.bitmap.now m tree lists n.0 (c.in-Ok.ensures.told ∙ told) ready n.1 (link_is n.0.kind link))

pub returns-in-Err-target_at-clause-reads : goal.returns-in-Err-target_at-clause-reads
returns-in-Err-target_at-clause-reads g c m tree lists st told ready same =
    let n = subst (IsKindOf tree c.args.id) c.in-Some.is (c.in-Ok.ensures.found m tree lists told ready) in
    let link = ap is_link n.2 ∙ sym c.is_link.ensures ∙ c.if-not-is_link.false in
    c.in-Err-target_at.ensures.target c.args.bitmap.now m tree lists n.0 (c.in-Ok.ensures.told ∙ told) ready n.1 (link_is n.0.kind link)

pub returns-in-Err-clause-reads : goal.returns-in-Err-clause-reads
returns-in-Err-clause-reads g c m tree lists st told ready same = c.in-Err.ensures.found m tree lists told ready
