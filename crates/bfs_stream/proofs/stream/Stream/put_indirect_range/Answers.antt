use Rattle.std.proofs.Common.{◌≡◌, ◌∙◌, ℕ, ℤ, List, Some, ap, subst, rules, to_z, of_z, w64}
use Rattle.std.specs.Option.{option_map}
use Rattle.bfs_inode.specs.Inode.{Stream, stream_at}
use Rattle.bfs_txn.specs.Told.{AreOfBlock, with_block}
use Rattle.bfs_stream.specs.Sizes.{Origin}
use Rattle.bfs_stream.specs.Told.{contents}
use Rattle.bfs_stream.specs.Grown.{KeepsRest}
use Rattle.bfs_stream.proofs.Arrays.{read_is}
use Rattle.bfs_stream.proofs.stream.Stream.put_indirect_range.Goals as goal

pub returns-in-Ok-set-clause-put : goal.returns-in-Ok-set-clause-put
returns-in-Ok-set-clause-put g c m is told =
    let o = c.args.self.now in
    let id : c.self.inside.inode ≡ o.id = ap (λ (x : Origin). x.id) c.self.view_is in
    let of : AreOfBlock (g.E.Blocks.told c.args.edits.now) o.id c.get.new.into = subst (λ (k : ℕ). AreOfBlock (g.E.Blocks.told c.args.edits.now) k c.get.new.into) id c.in-Ok.ensures.bytes in
    let read = read_is m (g.E.Blocks.told c.args.edits.now) o.id c.get.new.into is told of in
    let new : List ℕ = c.put_indirect_end.new.bytes in
    let now : g.E.Blocks.told c.get.new.self ≡ Some m = c.in-Ok.ensures.told ∙ is in
    let made : List ℕ → ℤ → Stream = λ b z. record (stream_at b) { max_indirect_range = z } in
    let same : to_z w64 (of_z w64 c.range-range.result) ≡ c.range-range.result = search rules in
    record {
      bytes = new;
      is = c.in-Ok-set.ensures.told ∙ ap (option_map (with_block c.self.inside.inode new)) now ∙ ap (λ (k : ℕ). Some (with_block k new m)) id;
      fields = c.put_indirect_end.ensures.stream ∙ ap (λ (b : List ℕ). made b (to_z w64 (of_z w64 c.range-range.result))) read ∙ ap (made (contents m o.id)) (same ∙ c.range-range.ensures);
      kept = subst (λ (b : List ℕ). KeepsRest b new) read c.put_indirect_end.ensures.rest;
    }
