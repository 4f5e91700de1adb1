use Rattle.std.proofs.Common.{◌∙◌, ◌++◌, inl, inr, ℕ, List, sym, subst}
use Rattle.std.specs.List.{AllByRecursion}
use Rattle.bfs_super.specs.Conditions.{natural}
use Rattle.bfs_stream.specs.Told.{contents}
use Rattle.bfs_sound.specs.Volumes.{Volume}
use Rattle.bfs_sound.specs.Inodes.{content, inode_blocks}
use Rattle.bfs_sound.specs.Whole.{volume_of}
use Rattle.bfs_claims.specs.Claims.{AreClaimed}
use Rattle.bfs_names_walk.specs.Rows.{as_rows, AreNames}
use Rattle.bfs_names_walk.specs.declared.row.NameRow.{NameRow}
use Rattle.bfs_node_walk.specs.Listed.{proper, NamesBlock}
use Rattle.bfs_attr_walk.specs.Attributed.{row_blocks, AreSoundRows, IsTakenBy}
use Rattle.bfs_attr_walk.proofs.Storing.{stands, claimed_stored}
use Rattle.bfs_attr_walk.proofs.stored.visit_stored.Goals as goal

pub visit_rows-requires-clause-rows : goal.visit_rows-requires-clause-rows
visit_rows-requires-clause-rows g c =
    subst (λ (l : List NameRow). AllByRecursion (NamesBlock (natural c.args.sup.now.num_blocks)) (proper (as_rows l))) (sym c.deref.ensures.value) c.in-Ok.ensures.inside

pub visit_rows-requires-clause-all : goal.visit_rows-requires-clause-all
visit_rows-requires-clause-all g c m told = c.requires.all m (sym c.in-Ok.ensures.told ∙ told)

pub returns-in-Err-clause-wrong : goal.returns-in-Err-clause-wrong
returns-in-Err-clause-wrong g c m id told reached dir = c.in-Err.ensures.wrong m id told (reached, dir)

pub returns-in-Err-clause-taken : goal.returns-in-Err-clause-taken
returns-in-Err-clause-taken g c m xs told a = inl (c.in-Err.ensures.taken m xs told a)

pub returns-in-Ok-visit_rows-clause-stands : goal.returns-in-Ok-visit_rows-clause-stands
returns-in-Ok-visit_rows-clause-stands g c m id told address =
    let v : Volume = volume_of c.args.sup.now (contents m) in
    stands v (natural c.args.sup.now.num_blocks) id c.args.directory c.in-Ok.rows.items address (c.in-Ok.ensures.sound m told) (c.in-Ok.ensures.names m told) c.in-Ok.ensures.inside
    (subst (AreSoundRows v) c.deref.ensures.value (c.in-Ok-visit_rows.ensures.sound m (c.in-Ok.ensures.told ∙ told)))

pub returns-in-Ok-visit_rows-clause-claimed : goal.returns-in-Ok-visit_rows-clause-claimed
returns-in-Ok-visit_rows-clause-claimed g c m xs told a =
    let v : Volume = volume_of c.args.sup.now (contents m) in
    claimed_stored v c.args.directory c.in-Ok.rows.items (c.in-Ok.ensures.names m told) c.visit_rows.new.claims xs
    (subst (λ (l : List NameRow). AreClaimed c.visit_rows.new.claims ((xs ++ inode_blocks v c.args.directory) ++ row_blocks v l)) c.deref.ensures.value
    (c.in-Ok-visit_rows.ensures.claimed m (xs ++ inode_blocks v c.args.directory) (c.in-Ok.ensures.told ∙ told) (c.in-Ok.ensures.claimed m xs told a)))

pub returns-in-Err-visit_rows-clause-wrong : goal.returns-in-Err-visit_rows-clause-wrong
returns-in-Err-visit_rows-clause-wrong g c m id told reached dir =
    let v : Volume = volume_of c.args.sup.now (contents m) in
    let listed = c.count.ensures.listed in
    let xs : List ℕ = listed.0 in
    let a : AreClaimed c.args.claims.now xs = listed.1 in
    c.in-Err-visit_rows.ensures.wrong m id (xs ++ inode_blocks v c.args.directory) (c.in-Ok.ensures.told ∙ told) (c.in-Ok.ensures.claimed m xs told a) reached dir
    (subst (AreNames (content v c.args.directory)) (sym c.deref.ensures.value) (c.in-Ok.ensures.names m told))

pub returns-in-Err-visit_rows-clause-taken : goal.returns-in-Err-visit_rows-clause-taken
returns-in-Err-visit_rows-clause-taken g c m xs told a =
    let v : Volume = volume_of c.args.sup.now (contents m) in
    inr (
      c.in-Ok.rows.items,
      c.in-Ok.ensures.names m told,
      c.in-Ok.ensures.inside,
      subst (λ (l : List NameRow). IsTakenBy v xs l c.in-Err-visit_rows.fault) c.deref.ensures.value (c.in-Err-visit_rows.ensures.taken m xs (c.in-Ok.ensures.told ∙ told) (c.in-Ok.ensures.claimed m xs told a)),
    )
