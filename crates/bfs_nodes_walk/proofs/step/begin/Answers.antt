use Rattle.std.proofs.Common.{◌≡◌, ◌++◌, ◌∙◌, List, ap}
use Rattle.bfs_stream.specs.Told.{contents}
use Rattle.bfs_sound.specs.Volumes.{Volume}
use Rattle.bfs_sound.specs.Whole.{volume_of}
use Rattle.bfs_node_walk.specs.NameRow.{NameRow}
use Rattle.bfs_nodes_walk.specs.declared.lead.NodeLead.{NodeLead}
use Rattle.bfs_nodes_walk.specs.Leads.{leads_in}
use Rattle.bfs_nodes_walk.proofs.Walking.{begun, taken_first, untaken_first}
use Rattle.bfs_nodes_walk.proofs.step.begin.Goals as goal

pub returns-in-Err-clause-taken : goal.returns-in-Err-clause-taken
returns-in-Err-clause-taken g c m xs told a = taken_first (volume_of c.args.sup.now (contents m)) xs c.args.root c.requires.root c.in-Err.fault (c.in-Err.ensures.taken m xs told a)

pub returns-in-Ok-push_leads-clause-begun : goal.returns-in-Ok-push_leads-clause-begun
returns-in-Ok-push_leads-clause-begun g c m xs told a =
    let v : Volume = volume_of c.args.sup.now (contents m) in
    let rows : List NameRow = c.in-Ok.node.rows.items in
    let pushed : c.push_leads.new.leads.items ≡ leads_in c.args.root rows =
    c.in-Ok-push_leads.ensures.pushed
    ∙ ap (λ (x : List NodeLead). x ++ leads_in c.args.root c.deref.result.now) c.new-leads.ensures.items
    ∙ ap (leads_in c.args.root) c.deref.ensures.value in
    begun v c.args.root c.requires.root (c.in-Ok.ensures.sound m told) rows (c.in-Ok.ensures.rows m told) xs c.visit_root.new.claims c.push_leads.new.leads.items pushed (c.in-Ok.ensures.claimed m xs told a)

pub returns-clause-wrong : goal.returns-clause-wrong
returns-clause-wrong g c m told = c.in-Err-push_leads.ensures.wrong (volume_of c.args.sup.now (contents m))

pub returns-clause-taken : goal.returns-clause-taken
returns-clause-taken g c m xs told a = untaken_first (volume_of c.args.sup.now (contents m)) xs c.in-Err-push_leads.fault c.in-Err-push_leads.ensures.untaken

pub returns-clause-cause : goal.returns-clause-cause
returns-clause-cause g c = c.in-Err-push_leads.ensures.cause (g.B.Blocks.counts c.args.under.now) (g.B.Blocks.counts c.visit_root.new.under)
