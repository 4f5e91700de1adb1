use Rattle.std.proofs.Common.{ℕ, List, ap, ◌∙◌}
use Rattle.bfs_inode.specs.Inode.{Inode, inode_at}
use Rattle.bfs_fresh.proofs.Areas.{put_front}
use Rattle.bfs_fresh.proofs.block.set_target.Goals as goal

pub returns-clause-inode : goal.returns-clause-inode
returns-clause-inode c =
    let t = c.args.target.now in
    c.set_stream_bytes.ensures.inode ∙ ap (λ (b : List ℕ). let r : Inode = record (inode_at c.args.inode.now.block.now) { stream_bytes = b } in r) (put_front t c.put_bytes.new.bytes 144 c.put_bytes.ensures)
