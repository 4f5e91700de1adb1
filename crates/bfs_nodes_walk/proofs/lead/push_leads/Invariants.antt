use Rattle.std.proofs.Common.{◌≡◌, ◌++◌, take}
use Rattle.bfs_nodes_walk.specs.Leads.{leads_in}
use Rattle.bfs_nodes_walk.proofs.lead.push_leads.Given as goal

abbrev pub invariant-loop-i : goal.invariant-loop-i
invariant-loop-i l = l.leads.items ≡ l.fn.leads.items ++ leads_in l.dir (take l.i l.rows)
