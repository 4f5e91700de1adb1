use Rattle.std.proofs.Common.{◌≡◌}
use Rattle.bfs_stream.specs.Grown.{IsOfVolume}
use Rattle.bfs_map_tests.proofs.index_tests.change_ids.Given as goal

abbrev pub invariant-loop-i : goal.invariant-loop-i
invariant-loop-i l =
    (l.edits.under.now.blocks.block_size ≡ l.index.origin.sizes.block_size) × IsOfVolume l.index.origin.sizes l.bitmap × (l.edits.under.now.blocks.block_size ≡ l.fn.edits.under.now.blocks.block_size) × (l.index ≡ l.fn.index)
