use Rattle.std.proofs.Common.{◌∙◌, refl, sym}
use Rattle.bfs_stream.specs.Told.{contents}
use Rattle.bfs_sound.specs.Inodes.{inode_blocks}
use Rattle.bfs_sound.specs.Whole.{volume_of}
use Rattle.bfs_finding.specs.Ways.{to_indices, of_indices}
use Rattle.bfs_inode_walk.proofs.Claiming.{untaken_taken}
use Rattle.bfs_index_walk.proofs.directory.visit_directory.Goals as goal

pub returns-in-Err-clause-wrong : goal.returns-in-Err-clause-wrong
returns-in-Err-clause-wrong g c m told arrives = c.in-Err.ensures.wrong m to_indices told refl arrives

pub returns-in-Err-clause-taken : goal.returns-in-Err-clause-taken
returns-in-Err-clause-taken g c m xs told a = c.in-Err.ensures.taken m xs told a

pub rows_in-requires-clause-all : goal.rows_in-requires-clause-all
rows_in-requires-clause-all g c m told = c.requires.all m (sym c.in-Ok.ensures.told ∙ told)

pub rows_in-requires-clause-bytes : goal.rows_in-requires-clause-bytes
rows_in-requires-clause-bytes g c m told = c.deref.ensures.value ∙ c.in-Ok.ensures.read m (sym c.in-Ok.ensures.told ∙ told)

pub rows_in-requires-clause-stream : goal.rows_in-requires-clause-stream
rows_in-requires-clause-stream g c m told = (c.in-Ok.ensures.sound m (sym c.in-Ok.ensures.told ∙ told)).stream refl

pub returns-in-Ok-rows_in-clause-index : goal.returns-in-Ok-rows_in-clause-index
returns-in-Ok-rows_in-clause-index g c m told =
    let sound = c.in-Ok.ensures.sound m told in
    record {
      owner = record { inode = sound.inode; stream = sound.stream refl };
      mode = sound.mode;
      kind_is = tt;
      tree = (c.in-Ok-rows_in.ensures.names m (c.in-Ok.ensures.told ∙ told)).tree;
    }

pub returns-in-Ok-rows_in-clause-names : goal.returns-in-Ok-rows_in-clause-names
returns-in-Ok-rows_in-clause-names g c m told = c.in-Ok-rows_in.ensures.names m (c.in-Ok.ensures.told ∙ told)

pub returns-in-Ok-rows_in-clause-claimed : goal.returns-in-Ok-rows_in-clause-claimed
returns-in-Ok-rows_in-clause-claimed g c m xs told a = c.in-Ok.ensures.claimed m xs told a

pub returns-clause-wrong : goal.returns-clause-wrong
returns-clause-wrong g c m told arrives = c.in-Err-rows_in.ensures.wrong m (c.in-Ok.ensures.told ∙ told) (of_indices c.args.directory arrives)

pub returns-clause-taken : goal.returns-clause-taken
returns-clause-taken g c m xs told a = untaken_taken xs (inode_blocks (volume_of c.args.sup.now (contents m)) c.args.directory) c.args.directory c.in-Err-rows_in.fault c.in-Err-rows_in.ensures.untaken
