use Rattle.bfs_txn.proofs.Layers.{layered_merged, told_same}
use Rattle.bfs_txn.proofs.overlay.Overlay.keep.Goals as goal

pub invariant_of-self : goal.invariant_of-self
invariant_of-self g c =
    record {
      layered = layered_merged c.args.self.mark (g.B.Blocks.size c.args.self.under.now) c.merge.new.self c.merge.ensures.ascends c.merge.ensures.within (c.merge.ensures.sized (g.B.Blocks.size c.args.self.under.now) c.args.self.layered.sized);
    }

pub returns-clause-told : goal.returns-clause-told
returns-clause-told g c = told_same c.merge.new.self c.args.self.group.now (g.B.Blocks.told c.args.self.under.now) c.merge.ensures.reads
