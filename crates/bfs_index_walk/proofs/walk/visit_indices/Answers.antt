use Rattle.std.proofs.Common.{◌≡◌, ap}
use Rattle.bfs_super.specs.Conditions.{block_of_run}
use Rattle.bfs_super.specs.declared.geometry.Geometry.{Geometry}
use Rattle.bfs_stream.specs.Told.{contents}
use Rattle.bfs_sound.specs.Whole.{volume_of}
use Rattle.bfs_index_walk.proofs.Placed.{is_none, walked_none}
use Rattle.bfs_index_walk.proofs.walk.visit_indices.Goals as goal

pub returns-then-directory-eq0-clause-walked : goal.returns-then-directory-eq0-clause-walked
returns-then-directory-eq0-clause-walked g c m xs told a =
    let there : c.geometry-directory.result.indices ≡ block_of_run c.args.sup.now c.args.sup.now.indices = ap (λ (x : Geometry). x.indices) c.geometry-directory.ensures in
    walked_none (volume_of c.args.sup.now (contents m)) xs c.args.claims.now (is_none c.args.sup.now (contents m) c.geometry-directory.result.indices there c.if-directory-eq0.true) a c.new.result.items c.new.ensures.items

pub returns-clause-wrong : goal.returns-clause-wrong
returns-clause-wrong g c m told = let listed = c.count.ensures.listed in c.visit_there.ensures.wrong m listed.0 told listed.1
