use Rattle.std.proofs.Common.{rules, ◌≡◌, ◌≤◌, ◌∙◌, List, ℕ, ℤ, length, sym, ap, subst}
use mir.Syntax.{w64}
use mir.Val.{to_z, of_z}
use Rattle.std.specs.Option.{option_map}
use Rattle.bfs_txn.specs.Told.{with_block}
use Rattle.bfs_stream.specs.Told.{contents}
use Rattle.bfs_shift.specs.Stocked.{HasWords}
use Rattle.bfs_hold.specs.Held.{HasStampsSet, IsStamped}
use Rattle.bfs_hold.proofs.stamps.write_stamps.Goals as goal

pub returns-in-Ok-set-clause-written : goal.returns-in-Ok-set-clause-written
returns-in-Ok-set-clause-written g c m told some =
    let before = c.load_inode.new.block in
    let bytes = c.put_fields.new.block in
    let read : before ≡ contents m c.args.inode = c.in-Ok.ensures.read m told some in
    let time : to_z w64 (of_z w64 c.args.stamp) ≡ c.args.stamp = search rules in
    let set : HasStampsSet (to_z w64 (of_z w64 c.args.stamp)) before bytes = record { inode = c.put_fields.ensures.inode; stream = c.put_fields.ensures.stream } in
    subst (λ (z : ℤ). IsStamped c.args.inode z m (g.E.Blocks.told c.set.new.self)) time (record {
      bytes = bytes;
      is = c.in-Ok-set.ensures.told ∙ ap (option_map (with_block c.args.inode bytes)) (c.load_inode.ensures.told ∙ told);
      set = subst (λ (b : List ℕ). HasStampsSet (to_z w64 (of_z w64 c.args.stamp)) b bytes) read set;
      long = subst (λ (b : List ℕ). 1024 ≤ length b) read (subst (λ (n : ℕ). 1024 ≤ n) (sym c.load_inode.ensures.length) c.requires.long);
      before = subst HasWords read c.in-Ok.ensures.words;
      after = c.note_words.ensures;
    })
