use Rattle.bfs_plain.proofs.Maps.{indices-put}
use Rattle.bfs_plain.proofs.named.put_index.Goals as goal
use Rattle.bfs_plain.proofs.named.put_index.Goals.{in-Ok, in-Err}

pub returns-clause-ok : goal.returns-clause-ok
returns-clause-ok c = elim c.match-insert.branch [
  | in-Ok w ↦ rw w.result-is (indices-put c.args.indices.now.entries c.insert.new.self.entries c.args.name c.args.kind w.in-Ok.ensures.entries)
  | in-Err w ↦ rw w.result-is tt
]
