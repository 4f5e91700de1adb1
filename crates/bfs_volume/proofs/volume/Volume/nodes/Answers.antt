use Rattle.std.proofs.Common.{◌∙◌, ap, subst}
use Rattle.bfs_file_io.specs.Volumes.{AreJoined, VolumeView}
use Rattle.bfs_volume.proofs.Numbered.{joined_nodes}
use Rattle.bfs_volume.proofs.volume.Volume.nodes.Goals as goal

pub returns : goal.returns
returns g c = record {
  counted = λ t0 adopted core.
      let v = c.args.self.now in
      let joined = subst (λ (x : VolumeView g.row.D.Denot g.row.C.Denot). AreJoined x.space x.device.books (g.D.Disk.state x.device.disk)) c.self.view_is c.self.invariant.0 in
      c.nodes.ensures ∙ ap (λ (x : VolumeView g.row.D.Denot g.row.C.Denot). x.space.nodes) c.self.view_is
      ∙ joined_nodes t0 adopted v.space v.device.books (g.D.Disk.state v.device.disk) (g.D.Disk.clock v.device.disk) (g.D.Disk.since v.device.disk) joined core;
}
