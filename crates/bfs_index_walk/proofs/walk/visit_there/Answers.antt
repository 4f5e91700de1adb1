use Rattle.std.proofs.Common.{◌∙◌, ◌++◌, List, sym, subst}
use Rattle.std.specs.List.{AllByRecursion}
use Rattle.bfs_super.specs.Conditions.{natural}
use Rattle.bfs_stream.specs.Told.{contents}
use Rattle.bfs_sound.specs.Volumes.{Volume}
use Rattle.bfs_sound.specs.Inodes.{content, inode_blocks}
use Rattle.bfs_sound.specs.Whole.{volume_of}
use Rattle.bfs_names_walk.specs.Rows.{as_rows, AreNames}
use Rattle.bfs_names_walk.specs.declared.row.NameRow.{NameRow}
use Rattle.bfs_node_walk.specs.Listed.{proper, NamesBlock}
use Rattle.bfs_attrs_walk.specs.Attributed.{IsTakenBy}
use Rattle.bfs_index_walk.proofs.Placed.{is_there, is_inside, walked_there}
use Rattle.bfs_index_walk.proofs.Clashing.{directory_taken, row_taken}
use Rattle.bfs_index_walk.proofs.walk.visit_there.Goals as goal

pub visit_directory-requires-clause-inside : goal.visit_directory-requires-clause-inside
visit_directory-requires-clause-inside g c = is_inside c.args.sup.now c.args.directory c.requires.valid c.requires.there c.requires.some

pub visit_rows-requires-clause-rows : goal.visit_rows-requires-clause-rows
visit_rows-requires-clause-rows g c =
    subst (λ (l : List NameRow). AllByRecursion (NamesBlock (natural c.args.sup.now.num_blocks)) (proper (as_rows l))) (sym c.deref.ensures.value) c.in-Ok.ensures.inside

pub visit_rows-requires-clause-all : goal.visit_rows-requires-clause-all
visit_rows-requires-clause-all g c m told = c.requires.all m (sym c.in-Ok.ensures.told ∙ told)

pub returns-in-Err-clause-wrong : goal.returns-in-Err-clause-wrong
returns-in-Err-clause-wrong g c m xs told a = c.in-Err.ensures.wrong m told (is_there c.args.sup.now (contents m) c.args.directory c.requires.there c.requires.some)

pub returns-in-Err-clause-taken : goal.returns-in-Err-clause-taken
returns-in-Err-clause-taken g c m xs told a =
    directory_taken (volume_of c.args.sup.now (contents m)) xs c.args.directory (is_there c.args.sup.now (contents m) c.args.directory c.requires.there c.requires.some) c.in-Err.fault (c.in-Err.ensures.taken m xs told a)

pub returns-in-Ok-visit_rows-clause-walked : goal.returns-in-Ok-visit_rows-clause-walked
returns-in-Ok-visit_rows-clause-walked g c m xs told a =
    let v : Volume = volume_of c.args.sup.now (contents m) in
    walked_there v xs c.visit_rows.new.claims c.args.directory (is_there c.args.sup.now (contents m) c.args.directory c.requires.there c.requires.some) c.in-Ok.rows.items (c.in-Ok.ensures.names m told) c.deref.result.now
    c.in-Ok-visit_rows.found.items c.deref.ensures.value (c.in-Ok.ensures.index m told) (c.in-Ok-visit_rows.ensures.found m (c.in-Ok.ensures.told ∙ told))
    (c.in-Ok-visit_rows.ensures.claimed m (xs ++ inode_blocks v c.args.directory) (c.in-Ok.ensures.told ∙ told) (c.in-Ok.ensures.claimed m xs told a))

pub returns-clause-wrong : goal.returns-clause-wrong
returns-clause-wrong g c m xs told a =
    let v : Volume = volume_of c.args.sup.now (contents m) in
    c.in-Err-visit_rows.ensures.wrong m (xs ++ inode_blocks v c.args.directory) (c.in-Ok.ensures.told ∙ told) (c.in-Ok.ensures.claimed m xs told a)
    (is_there c.args.sup.now (contents m) c.args.directory c.requires.there c.requires.some)
    (subst (AreNames (content v c.args.directory)) (sym c.deref.ensures.value) (c.in-Ok.ensures.names m told))

pub returns-clause-taken : goal.returns-clause-taken
returns-clause-taken g c m xs told a =
    let v : Volume = volume_of c.args.sup.now (contents m) in
    row_taken v c.args.directory c.in-Ok.rows.items
    (record { there = is_there c.args.sup.now (contents m) c.args.directory c.requires.there c.requires.some; names = c.in-Ok.ensures.names m told; inside = c.in-Ok.ensures.inside }) xs c.in-Err-visit_rows.fault
    (subst (λ (l : List NameRow). IsTakenBy v xs l c.in-Err-visit_rows.fault) c.deref.ensures.value
    (c.in-Err-visit_rows.ensures.taken m xs (c.in-Ok.ensures.told ∙ told) (c.in-Ok.ensures.claimed m xs told a)))
