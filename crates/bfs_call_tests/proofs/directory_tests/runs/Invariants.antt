use Rattle.std.proofs.Common.{◌≡◌}
use Rattle.bfs_stream.specs.Grown.{IsOfVolume}
use Rattle.bfs_call_tests.proofs.directory_tests.runs.Given as goal

abbrev pub invariant-loop-call : goal.invariant-loop-call
invariant-loop-call l =
    (l.edits.under.now.blocks.block_size ≡ l.dir.sizes.block_size) × IsOfVolume l.dir.sizes l.bitmap × (l.edits.under.now.blocks.block_size ≡ l.fn.edits.under.now.blocks.block_size)
