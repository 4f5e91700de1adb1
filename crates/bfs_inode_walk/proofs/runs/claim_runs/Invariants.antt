use Rattle.std.proofs.Common.{◌≡◌, ◌≤◌, ◌++◌, ℕ, List, take}
use Rattle.bfs_stream.specs.Sizes.{sizes_of}
use Rattle.bfs_stream.specs.Places.{blocks_of}
use Rattle.bfs_claims.specs.Claims.{AreClaimed}
use Rattle.bfs_inode_walk.proofs.runs.claim_runs.Given as goal

abbrev pub invariant-loop-i : goal.invariant-loop-i
invariant-loop-i l = record {
  claimed : (xs : List ℕ) → AreClaimed l.fn.claims xs → AreClaimed l.claims (xs ++ blocks_of (sizes_of l.fn.sup) (take l.i l.fn.runs));
  more : l.fn.claims.count ≤ l.claims.count;
  blocks : l.claims.blocks ≡ l.fn.claims.blocks;
}
