use Rattle.std.proofs.Common.{◌≡◌, ◌≤◌, ◌∙◌, List, ℕ, length, sym, ap, subst}
use Rattle.std.specs.Option.{option_map}
use Rattle.bfs_txn.specs.Told.{with_block}
use Rattle.bfs_stream.specs.Told.{contents}
use Rattle.bfs_shift.specs.Stocked.{HasWords}
use Rattle.bfs_moves.specs.Statuses.{HasStatusSet}
use Rattle.bfs_moves.proofs.status.write_status.Goals as goal

pub returns-in-Ok-set-clause-written : goal.returns-in-Ok-set-clause-written
returns-in-Ok-set-clause-written g c m told some =
    let before = c.load_inode.new.block in
    let bytes = c.put_status.new.block in
    let read : before ≡ contents m c.args.inode = c.in-Ok.ensures.read m told some in
    record {
      bytes = bytes;
      is = c.in-Ok-set.ensures.told ∙ ap (option_map (with_block c.args.inode bytes)) (c.load_inode.ensures.told ∙ told);
      set = subst (λ (b : List ℕ). HasStatusSet c.args.status b bytes) read c.put_status.ensures.set;
      long = subst (λ (b : List ℕ). 1024 ≤ length b) read (subst (λ (n : ℕ). 1024 ≤ n) (sym c.load_inode.ensures.length) c.requires.long);
      before = subst HasWords read c.in-Ok.ensures.words;
      after = c.put_status.ensures.words;
    }
