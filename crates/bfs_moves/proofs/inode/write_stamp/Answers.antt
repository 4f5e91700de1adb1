use Rattle.std.proofs.Common.{rules, ◌≡◌, ◌≤◌, ◌∙◌, List, ℕ, length, sym, ap, subst}
use Rattle.std.specs.Option.{option_map}
use Rattle.bfs_inode.specs.Inode.{inode_at, stream_at}
use Rattle.bfs_txn.specs.Told.{with_block}
use Rattle.bfs_stream.specs.Told.{contents}
use Rattle.bfs_shift.specs.Stocked.{HasWords}
use Rattle.bfs_moves.proofs.inode.write_stamp.Goals as goal

pub returns-in-Ok-set-clause-written : goal.returns-in-Ok-set-clause-written
returns-in-Ok-set-clause-written g c m told some =
    let before = c.load_inode.new.block in
    let bytes = c.set_modified.new.block in
    let read : before ≡ contents m c.args.inode = c.in-Ok.ensures.read m told some in
    let stamped : inode_at bytes ≡ record (inode_at before) { last_modified_time = c.args.stamp } = search rules in
    record {
      bytes = bytes;
      is = c.in-Ok-set.ensures.told ∙ ap (option_map (with_block c.args.inode bytes)) (c.load_inode.ensures.told ∙ told);
      inode = subst (λ (b : List ℕ). inode_at bytes ≡ record (inode_at b) { last_modified_time = c.args.stamp }) read stamped;
      stream = c.set_modified.ensures.stream ∙ ap stream_at read;
      long = subst (λ (b : List ℕ). 1024 ≤ length b) read (subst (λ (n : ℕ). 1024 ≤ n) (sym c.load_inode.ensures.length) c.requires.long);
      before = subst HasWords read c.in-Ok.ensures.words;
      after = c.note_words.ensures;
    }
