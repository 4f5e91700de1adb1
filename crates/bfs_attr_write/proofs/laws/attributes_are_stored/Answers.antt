use Rattle.bfs_attr_write.proofs.laws.attributes_are_stored.Goals as goal

pub returns : goal.returns
returns c s inode v now m n bytes attribute told old new h is = record { fresh = h.stream; held = h.held; inode = is; written = h.written; entered = h.entered }
