use Rattle.std.proofs.Common.{◌≡◌, ◌≤◌, ◌++◌, ◌∷◌, ◌+◌, ◌∙◌, ℕ, List, length, take, sym, ap, subst}
use Rattle.bfs_super.specs.Conditions.{natural}
use Rattle.bfs_stream.specs.Told.{contents}
use Rattle.bfs_sound.specs.Volumes.{Volume}
use Rattle.bfs_sound.specs.Whole.{volume_of}
use Rattle.bfs_inode_walk.specs.Visited.{IsTakenFirst}
use Rattle.bfs_owner.specs.Owned.{blocks_of_places}
use Rattle.bfs_node_walk.specs.NameRow.{NameRow}
use Rattle.bfs_nodes_walk.specs.declared.lead.NodeLead.{NodeLead}
use Rattle.bfs_nodes_walk.specs.Clashes.{IsApart}
use Rattle.bfs_nodes_walk.specs.Facts.{IsFactOf}
use Rattle.bfs_nodes_walk.proofs.Kept.{most_bytes, same_item}
use Rattle.bfs_nodes_walk.specs.Leads.{leads_in, places_of_nodes, AreInside, IsTakenBy}
use Rattle.bfs_nodes_walk.specs.Walks.{IsNodeWay, IsWalkedTo, blocks_of_visits}
use Rattle.bfs_nodes_walk.proofs.Leading.{inside_more}
use Rattle.bfs_nodes_walk.proofs.Walking.{its_row, follows, taken_apart, taken_among, untaken_first}
use Rattle.bfs_nodes_walk.proofs.step.follow.Goals as goal

pub returns-in-Ok-push_leads-clause-on : goal.returns-in-Ok-push_leads-clause-on
returns-in-Ok-push_leads-clause-on g c m xs told w =
    let v : Volume = volume_of c.args.sup.now (contents m) in
    let l : NodeLead = c.index.result.now in
    let rows : List NameRow = c.in-Ok.found.node.rows.items in
    let pushed : c.push_leads.new.leads.items ≡ c.args.leads.now.items ++ leads_in c.in-Ok.found.id rows = c.in-Ok-push_leads.ensures.pushed ∙ ap (λ (x : List NameRow). c.args.leads.now.items ++ leads_in c.in-Ok.found.id x) c.deref-2.ensures.value in
    subst (λ (x : List NodeLead). IsWalkedTo v xs c.visit_lead.new.claims x (c.args.at + 1)) (sym pushed)
    (follows v xs c.args.claims.now c.visit_lead.new.claims c.args.leads.now.items c.args.at l c.requires.at c.index.ensures w c.in-Ok.found.id c.in-Ok.ensures.number (c.in-Ok.ensures.sound m told) (c.in-Ok.ensures.named m told) rows (c.in-Ok.ensures.rows m told) (λ ys a. c.in-Ok.ensures.claimed m ys told a))

pub returns-in-Ok-push_leads-clause-inside : goal.returns-in-Ok-push_leads-clause-inside
returns-in-Ok-push_leads-clause-inside g c =
    let blocks : ℕ = natural c.args.sup.now.num_blocks in
    subst (λ (x : List NodeLead). AreInside blocks (take (c.args.at + 1) x)) (sym c.in-Ok-push_leads.ensures.pushed)
    (inside_more blocks c.args.leads.now.items (leads_in c.in-Ok.found.id c.deref-2.result.now) c.args.at c.index.result.now c.in-Ok.found.id c.requires.at c.index.ensures c.in-Ok.ensures.number c.in-Ok.ensures.below c.requires.before)

pub facts_in-requires-clause-few : goal.facts_in-requires-clause-few
facts_in-requires-clause-few g c =
    subst (λ (l : List ℕ). length l ≤ 8192) (sym c.deref-in-Ok-push_leads.ensures.value) (subst (λ (n : ℕ). n ≤ 8192) (sym c.in-Ok.ensures.length) (most_bytes c.args.sup.now c.requires.valid))

pub returns-in-Ok-push_leads-clause-facts : goal.returns-in-Ok-push_leads-clause-facts
returns-in-Ok-push_leads-clause-facts g c m l told item =
    let v : Volume = volume_of c.args.sup.now (contents m) in
    let same : l ≡ c.index.result.now = same_item c.args.leads.now.items c.args.at l c.index.result.now c.requires.at item c.index.ensures in
    let id : c.in-Ok.found.id ≡ natural l.row.value = sym (ap natural (ap (λ (x : NodeLead). x.row.value) same ∙ c.in-Ok.ensures.number)) in
    subst (λ (k : ℕ). IsFactOf v k c.facts_in.result) id (c.facts_in.ensures (contents m) (sym (c.deref-in-Ok-push_leads.ensures.value ∙ c.in-Ok.ensures.bytes m told)))

pub returns-clause-wrong : goal.returns-clause-wrong
returns-clause-wrong g c m xs told w = c.in-Err-push_leads.ensures.wrong (volume_of c.args.sup.now (contents m))

pub returns-clause-taken : goal.returns-clause-taken
returns-clause-taken g c m xs told w = untaken_first (volume_of c.args.sup.now (contents m)) xs c.in-Err-push_leads.fault c.in-Err-push_leads.ensures.untaken

pub returns-clause-cause : goal.returns-clause-cause
returns-clause-cause g c = c.in-Err-push_leads.ensures.cause (g.B.Blocks.counts c.args.under.now) (g.B.Blocks.counts c.visit_lead.new.under)

pub returns-in-Err-clause-wrong : goal.returns-in-Err-clause-wrong
returns-in-Err-clause-wrong g c m xs told w =
    let v : Volume = volume_of c.args.sup.now (contents m) in
    let l : NodeLead = c.index.result.now in
    let leads : List NodeLead = c.args.leads.now.items in
    let taken : IsTakenBy v (xs ++ blocks_of_visits v (w.top ∷ w.visits)) l c.in-Err.fault = c.in-Err.ensures.taken m (xs ++ blocks_of_visits v (w.top ∷ w.visits)) told w.claimed in
    let apart : IsApart v (places_of_nodes c.args.root (take c.args.at leads)) c.in-Err.fault = taken_apart v xs c.args.claims.now c.visit_lead.new.claims leads c.args.at l c.requires.at c.index.ensures w c.args.root c.requires.root c.in-Err.fault taken in
    c.refusal.ensures.wrong m (c.in-Err.ensures.told ∙ told)
    (c.in-Err.ensures.wrong m told (its_row v xs c.args.claims.now c.visit_lead.new.claims leads c.args.at l c.requires.at c.index.ensures w))
    (subst (λ (x : List NodeLead). IsApart v (places_of_nodes c.args.root (take c.args.at x)) c.in-Err.fault) (sym c.deref.ensures.value) apart)

pub returns-in-Err-clause-taken : goal.returns-in-Err-clause-taken
returns-in-Err-clause-taken g c m xs told w =
    let v : Volume = volume_of c.args.sup.now (contents m) in
    let l : NodeLead = c.index.result.now in
    let leads : List NodeLead = c.args.leads.now.items in
    let taken : IsTakenBy v (xs ++ blocks_of_visits v (w.top ∷ w.visits)) l c.in-Err.fault = c.in-Err.ensures.taken m (xs ++ blocks_of_visits v (w.top ∷ w.visits)) told w.claimed in
    let among : IsTakenFirst IsNodeWay v (xs ++ blocks_of_places v (places_of_nodes c.args.root (take c.args.at leads))) c.in-Err.fault = taken_among v xs c.args.claims.now c.visit_lead.new.claims leads c.args.at l c.requires.at c.index.ensures w c.args.root c.requires.root c.in-Err.fault taken in
    c.refusal.ensures.taken m xs (c.in-Err.ensures.told ∙ told)
    (subst (λ (x : List NodeLead). IsTakenFirst IsNodeWay v (xs ++ blocks_of_places v (places_of_nodes c.args.root (take c.args.at x))) c.in-Err.fault) (sym c.deref.ensures.value) among)

pub returns-in-Err-clause-cause : goal.returns-in-Err-clause-cause
returns-in-Err-clause-cause g c = c.refusal.ensures.cause (g.B.Blocks.counts c.args.under.now) c.in-Err.ensures.later c.in-Err.ensures.cause
