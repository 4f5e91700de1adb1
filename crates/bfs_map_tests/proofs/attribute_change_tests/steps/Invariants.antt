use Rattle.std.proofs.Common.{◌≡◌}
use Rattle.bfs_sound.specs.Volumes.{sizes}
use Rattle.bfs_stream.specs.Grown.{IsOfVolume}
use Rattle.bfs_map_tests.proofs.attribute_change_tests.steps.Given as goal

abbrev pub invariant-loop-number : goal.invariant-loop-number
invariant-loop-number l = record {
  block : l.attrs.geometry.block_size ≡ 1024;
  size : l.edits.under.now.blocks.block_size ≡ 1024;
  volume : IsOfVolume (sizes l.attrs.geometry) l.bitmap;
}
