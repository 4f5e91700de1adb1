use Rattle.std.proofs.Common.{◌≡◌}
use Rattle.bfs_base.specs.declared.kind.KeyKind.TheVariants.{Text}
use Rattle.bfs_stream.specs.Grown.{IsOfVolume}
use Rattle.bfs_map_tests.proofs.index_tests.runs.Given as goal

abbrev pub invariant-loop-call : goal.invariant-loop-call
invariant-loop-call l =
    (l.edits.under.now.blocks.block_size ≡ l.index.origin.sizes.block_size) × IsOfVolume l.index.origin.sizes l.bitmap × (l.edits.under.now.blocks.block_size ≡ l.fn.edits.under.now.blocks.block_size) × (l.index.kind ≡ Text)
