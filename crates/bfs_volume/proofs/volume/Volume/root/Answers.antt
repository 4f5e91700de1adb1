use Rattle.std.proofs.Common.{◌≡◌, ◌∙◌, sym, ap}
use Rattle.bfs_super.specs.Geometry.{geometry_of}
use Rattle.bfs_file_io.specs.Volumes.{VolumeView}
use Rattle.bfs_volume.proofs.Rooted.{same_root}
use Rattle.bfs_volume.proofs.volume.Volume.root.Goals as goal

pub returns-clause-tree : goal.returns-clause-tree
returns-clause-tree g c = λ t0 adopted core.
    let sp = c.args.self.now.space.view in
    let value : c.root.result ≡ (geometry_of c.args.self.now.space.view.sup).root = c.root.ensures ∙ ap (λ (v : VolumeView g.row.D.Denot g.row.C.Denot). (geometry_of v.space.view.sup).root) c.self.view_is in
    value ∙ sym core.0.2.1.space.sound.nodes.stands.root ∙ same_root t0 sp.history
