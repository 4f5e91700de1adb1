use Rattle.std.proofs.Common.{◌≢◌, ◌∙◌, sym}
use Rattle.bfs_super.specs.Conditions.{block_of_run}
use Rattle.bfs_stream.specs.Told.{contents}
use Rattle.bfs_look.proofs.Known.{node_has}
use Rattle.bfs_look.proofs.Linked.{info_said, root_said}
use Rattle.bfs_look.proofs.info.described.Goals as goal

pub returns-then-id-root_of-clause-info : goal.returns-then-id-root_of-clause-info
returns-then-id-root_of-clause-info c v m tree lists n sized read ready is =
    c.info_in.ensures
    ∙ root_said c.args.site.sup v m tree lists ready c.args.id n is c.requires.valid sized c.args.block.now c.no_name.result (c.if-id-root_of.true ∙ c.root_of.ensures ∙ sym ready.root) read c.no_name.ensures

pub returns-in-Says-clause-info : goal.returns-in-Says-clause-info
returns-in-Says-clause-info c v m tree lists n sized read ready is =
    let s = c.args.site.sup in
    let apart : c.args.id ≢ block_of_run s s.root_dir = λ at. c.if-id-root_of.false (at ∙ sym c.root_of.ensures) in
    let said = c.in-Says.ensures (contents m) n (sym read) (node_has s v m tree lists ready c.args.id n is) apart in
    c.info_in-in-Says.ensures ∙ info_said s v m tree lists ready c.args.id n is c.requires.valid sized c.args.block.now c.in-Says.claim.kind c.in-Says.claim.name c.in-Says.claim.parent read said.kind said.name said.parent

pub returns-in-Nothing-clause-info : goal.returns-in-Nothing-clause-info
returns-in-Nothing-clause-info c v m tree lists n sized read ready is =
    let s = c.args.site.sup in
    let apart : c.args.id ≢ block_of_run s s.root_dir = λ at. c.if-id-root_of.false (at ∙ sym c.root_of.ensures) in
    absurd (c.in-Nothing.ensures (contents m) n (sym read) (node_has s v m tree lists ready c.args.id n is) apart)
