use Rattle.std.proofs.Common.{◌∙◌, Option, sym, subst}
use Rattle.std.specs.Prelude.{IfSome}
use Rattle.bfs_super.specs.Geometry.{geometry_of}
use Rattle.bfs_shift.specs.Shifts.{volume_in}
use Rattle.bfs_remove_node.specs.declared.child.Child.{Child}
use Rattle.bfs_rename.specs.Counted.{AreOf, IsProperNode}
use Rattle.bfs_rename.proofs.Childs.{is_there, node_of, leaving_some}
use Rattle.bfs_rename.proofs.leaving.leaving_of.Goals as goal

pub returns-in-Err-clause-counted : goal.returns-in-Err-clause-counted
returns-in-Err-clause-counted g c m tree lists o told ready node of =
    let t = is_there o c.in-Some.other (subst (AreOf o) c.in-Some.is of) in
    c.in-Err.ensures.counted m tree lists t.0.1 told ready (node_of tree o t.0 c.in-Some.other t.1 t.2 node)

pub node_streams-requires-clause-node : goal.node_streams-requires-clause-node
node_streams-requires-clause-node g c m now =
    let told = sym c.in-Ok.ensures.told ∙ now in
    let h = c.requires.ready m told in
    let n = subst (λ (o : Option Child). IfSome o (λ x. IsProperNode h.tree x.id)) c.in-Some.is (c.requires.node m h.tree h.lists told h.ready) in
    (c.args.bitmap.now, record { tree = h.tree; lists = h.lists; node = n.0; ready = h.ready; there = n.1; apart = n.2 })

pub returns-in-Ok-node_streams-clause-counted : goal.returns-in-Ok-node_streams-clause-counted
returns-in-Ok-node_streams-clause-counted g c m tree lists o told ready node of =
    let t = is_there o c.in-Some.other (subst (AreOf o) c.in-Some.is of) in
    let there = node_of tree o t.0 c.in-Some.other t.1 t.2 node in
    leaving_some (volume_in (geometry_of c.args.sup.now) m) tree c.args.built c.args.most c.in-Ok.listed c.in-Ok-node_streams.blocks o t.0 c.in-Some.other t.1 t.2
    (c.in-Ok.ensures.counted m tree lists t.0.1 told ready there)
    (c.in-Ok-node_streams.ensures.counted m c.args.bitmap.now tree lists t.0.1 (c.in-Ok.ensures.told ∙ told) ready there)

pub returns-in-Err-node_streams-clause-counted : goal.returns-in-Err-node_streams-clause-counted
returns-in-Err-node_streams-clause-counted g c m tree lists o told ready node of =
    let t = is_there o c.in-Some.other (subst (AreOf o) c.in-Some.is of) in
    c.in-Err-node_streams.ensures.counted m c.args.bitmap.now tree lists t.0.1 (c.in-Ok.ensures.told ∙ told) ready (node_of tree o t.0 c.in-Some.other t.1 t.2 node)
