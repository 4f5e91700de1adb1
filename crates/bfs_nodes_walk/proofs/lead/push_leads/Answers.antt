use Rattle.std.proofs.Common.{rules, ◌≡◌, ◌≤◌, ◌<◌, ◌+◌, ◌++◌, ◌∷◌, [], ◌∙◌, List, length, take, get_or, sym, ap, arith, append_assoc, append-nil}
use Rattle.std.proofs.lemmas.List.{take_more, take_all}
use Rattle.bfs_node_walk.specs.NameRow.{NameRow}
use Rattle.bfs_nodes_walk.specs.declared.lead.NodeLead.{NodeLead}
use Rattle.bfs_nodes_walk.specs.Leads.{leads_in}
use Rattle.bfs_nodes_walk.proofs.Leading.{leads_more}
use Rattle.bfs_nodes_walk.proofs.lead.push_leads.Goals as goal

pub loop-i-init : goal.loop-i-init
loop-i-init c = sym (append-nil c.args.leads.now.items)

pub loop-i-preserved : goal.loop-i-preserved
loop-i-preserved c =
    let r : NameRow = c.index-rows-i.result in
    let rows : List NameRow = c.args.rows.now in
    let item : r ≡ get_or rows c.loop-i.i r = search rules in
    let inside : c.loop-i.i < length rows = c.loop-i-test.true in
    let more : take (c.loop-i.i + 1) rows ≡ take c.loop-i.i rows ++ r ∷ [] = take_more rows c.loop-i.i r inside ∙ ap (λ (x : NameRow). take c.loop-i.i rows ++ x ∷ []) (sym item) in
    c.in-Ok.ensures.pushed
    ∙ ap (λ (x : List NodeLead). x ++ leads_in c.args.dir (r ∷ [])) c.loop-i.invariant
    ∙ append_assoc c.args.leads.now.items (leads_in c.args.dir (take c.loop-i.i rows)) (leads_in c.args.dir (r ∷ []))
    ∙ ap (λ (x : List NodeLead). c.args.leads.now.items ++ x) (sym (leads_more c.args.dir (take c.loop-i.i rows) (r ∷ [])) ∙ ap (leads_in c.args.dir) (sym more))

pub returns-clause-pushed : goal.returns-clause-pushed
returns-clause-pushed c =
    let behind : length c.args.rows.now ≤ c.loop-i.i = omega arith in
    c.loop-i.invariant ∙ ap (λ (x : List NameRow). c.args.leads.now.items ++ leads_in c.args.dir x) (take_all c.loop-i.i c.args.rows.now behind)
