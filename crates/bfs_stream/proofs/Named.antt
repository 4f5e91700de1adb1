-- Names for the levels of a stream.
use Rattle.std.proofs.Common.{ℕ, List}
use Rattle.bfs_bytes.specs.declared.Run.{Run}
use Rattle.bfs_stream.specs.Sizes.{Sizes}
use Rattle.bfs_stream.specs.Places.{used_runs, level_blocks, levels_at}

module _ (s : Sizes) (blocks : ℕ → List ℕ) (id : ℕ) where
  abbrev pub direct_runs : List Run
  direct_runs = used_runs (levels_at s blocks id).stream.direct

  abbrev pub indirect_runs : List Run
  indirect_runs = used_runs (levels_at s blocks id).table

  abbrev pub double_runs : List Run
  double_runs = used_runs (levels_at s blocks id).runs

  abbrev pub direct_blocks : List ℕ
  direct_blocks = level_blocks s (levels_at s blocks id).stream.direct

  abbrev pub indirect_blocks : List ℕ
  indirect_blocks = level_blocks s (levels_at s blocks id).table

  abbrev pub double_blocks : List ℕ
  double_blocks = level_blocks s (levels_at s blocks id).runs
