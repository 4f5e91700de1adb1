use Rattle.std.proofs.Common.{◌∙◌, refl, sym}
use Rattle.bfs_stream.specs.Told.{contents}
use Rattle.bfs_sound.specs.Whole.{volume_of}
use Rattle.bfs_sound.specs.Inodes.{inode_blocks}
use Rattle.bfs_finding.specs.Ways.{to_index}
use Rattle.bfs_inode_walk.proofs.Claiming.{untaken_taken}
use Rattle.bfs_index_walk.proofs.index.visit_index.Goals as goal

pub returns-in-Err-clause-wrong : goal.returns-in-Err-clause-wrong
returns-in-Err-clause-wrong g c m name told arrives = c.in-Err.ensures.wrong m (to_index name) told refl arrives

pub returns-in-Err-clause-taken : goal.returns-in-Err-clause-taken
returns-in-Err-clause-taken g c m xs told a = c.in-Err.ensures.taken m xs told a

pub read_tree-requires-clause-all : goal.read_tree-requires-clause-all
read_tree-requires-clause-all g c m told = c.requires.all m (sym c.in-Ok.ensures.told ∙ told)

pub read_tree-requires-clause-bytes : goal.read_tree-requires-clause-bytes
read_tree-requires-clause-bytes g c m told = c.deref.ensures.value ∙ c.in-Ok.ensures.read m (sym c.in-Ok.ensures.told ∙ told)

pub read_tree-requires-clause-stream : goal.read_tree-requires-clause-stream
read_tree-requires-clause-stream g c m told = (c.in-Ok.ensures.sound m (sym c.in-Ok.ensures.told ∙ told)).stream refl

pub returns-in-Ok-read_tree-clause-index : goal.returns-in-Ok-read_tree-clause-index
returns-in-Ok-read_tree-clause-index g c m told =
    let sound = c.in-Ok.ensures.sound m told in
    record {
      owner = record { inode = sound.inode; stream = sound.stream refl };
      mode = sound.mode;
      kind_is = c.in-Ok-read_tree.ensures.kind;
      tree = c.in-Ok-read_tree.ensures.whole m (c.in-Ok.ensures.told ∙ told);
    }

pub returns-in-Ok-read_tree-clause-claimed : goal.returns-in-Ok-read_tree-clause-claimed
returns-in-Ok-read_tree-clause-claimed g c m xs told a = c.in-Ok.ensures.claimed m xs told a

pub returns-clause-wrong : goal.returns-clause-wrong
returns-clause-wrong g c m name told arrives = c.in-Err-read_tree.ensures.wrong m (c.in-Ok.ensures.told ∙ told) (name, arrives)

pub returns-clause-taken : goal.returns-clause-taken
returns-clause-taken g c m xs told a = untaken_taken xs (inode_blocks (volume_of c.args.sup.now (contents m)) c.args.id) c.args.id c.in-Err-read_tree.fault c.in-Err-read_tree.ensures.untaken
