use Rattle.bfs_stream.specs.Told.{contents}
use Rattle.bfs_sound.specs.Volumes.{Volume}
use Rattle.bfs_sound.specs.Whole.{volume_of}
use Rattle.bfs_attrs_walk.proofs.Nodes.{are_reached}
use Rattle.bfs_attrs_walk.proofs.Searched.{root_directory, row_directories, whole_found}
use Rattle.bfs_attrs_walk.proofs.owners.find_owner_in.Goals as goal

pub find_first-requires-clause-have : goal.find_first-requires-clause-have
find_first-requires-clause-have g c m told =
    let p = c.requires.whole m told in
    root_directory (volume_of c.args.sup.now (contents m)) p.0 p.1 c.args.leads.now p.2 c.args.root c.requires.root

pub find_first-requires-clause-those : goal.find_first-requires-clause-those
find_first-requires-clause-those g c m told =
    let p = c.requires.whole m told in
    row_directories (volume_of c.args.sup.now (contents m)) p.0 p.1 c.args.leads.now p.2 c.args.root c.requires.root

pub returns-in-Ok-clause-found : goal.returns-in-Ok-clause-found
returns-in-Ok-clause-found g c m xs claims w told =
    let v : Volume = volume_of c.args.sup.now (contents m) in
    whole_found v xs claims c.args.leads.now w c.args.root c.requires.root c.args.block c.in-Ok.found
    (c.in-Ok.ensures.found m w.top w.visits told w.ways w.followed (are_reached v w.top w.visits w.ways c.args.leads.now w.followed))

pub returns-in-Err-clause-wrong : goal.returns-in-Err-clause-wrong
returns-in-Err-clause-wrong g c m told =
    let v : Volume = volume_of c.args.sup.now (contents m) in
    let p = c.requires.whole m told in
    c.in-Err.ensures.wrong m p.2.top p.2.visits told p.2.ways p.2.followed (are_reached v p.2.top p.2.visits p.2.ways c.args.leads.now p.2.followed)
