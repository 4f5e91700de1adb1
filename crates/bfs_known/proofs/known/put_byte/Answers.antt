use Rattle.bfs_known.proofs.Knowns.{known-put}
use Rattle.bfs_known.proofs.known.put_byte.Goals as goal

pub returns-in-Ok : goal.returns-in-Ok
returns-in-Ok c = known-put c.args.place c.args.byte c.args.known.now.entries c.insert.new.self.entries c.in-Ok.ensures.updates.0
