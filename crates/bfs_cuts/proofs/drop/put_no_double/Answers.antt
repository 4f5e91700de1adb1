use Rattle.std.proofs.Common.{◌≡◌, ◌∙◌, ℕ, pos, List, Some, ap, subst}
use Rattle.std.specs.Option.{option_map}
use Rattle.bfs_inode.specs.Inode.{Stream, stream_at}
use Rattle.bfs_txn.specs.Told.{AreOfBlock, with_block}
use Rattle.bfs_stream.specs.Grown.{KeepsRest}
use Rattle.bfs_stream.specs.declared.table.TheConstants.{NO_RUN}
use Rattle.bfs_stream.proofs.Arrays.{read_is}
use Rattle.bfs_cuts.proofs.drop.put_no_double.Goals as goal

pub returns-in-Ok-set-clause-put : goal.returns-in-Ok-set-clause-put
returns-in-Ok-set-clause-put g c m is told =
    let o = c.args.stream.now in
    let id : c.inode-id.result ≡ o.id = c.inode-id.ensures in
    let of : AreOfBlock (g.E.Blocks.told c.args.edits.now) o.id c.get.new.into = subst (λ (k : ℕ). AreOfBlock (g.E.Blocks.told c.args.edits.now) k c.get.new.into) id c.in-Ok.ensures.bytes in
    let read = read_is m (g.E.Blocks.told c.args.edits.now) o.id c.get.new.into is told of in
    let new : List ℕ = c.put_double_none.new.bytes in
    let now : g.E.Blocks.told c.get.new.self ≡ Some m = c.in-Ok.ensures.told ∙ is in
    let made : List ℕ → Stream = λ b. record (stream_at b) { double_indirect = NO_RUN; max_double_indirect_range = pos 0 } in
    record {
      bytes = new;
      is = c.in-Ok-set.ensures.told ∙ ap (option_map (with_block c.inode-id.result new)) now ∙ ap (λ (k : ℕ). Some (with_block k new m)) id;
      fields = c.put_double_none.ensures.stream ∙ ap made read;
      kept = subst (λ (b : List ℕ). KeepsRest b new) read c.put_double_none.ensures.rest;
    }
