-- The inode of a new node, as it is written.
use Rattle.std.specs.Prelude.{◌≡◌, ℕ, ◌-◌, List, ◌++◌, length, take, drop, replicate, Option, Some}
use Rattle.bfs_inode.specs.Inode.{stream_at}
use Rattle.bfs_txn.specs.Told.{with_block}
use Rattle.bfs_fresh.specs.Fresh.{IsFresh, no_stream}
use Rattle.bfs_fresh.specs.declared.fields.NewNode.{NewNode}

-- The block is a new inode whose stream has no blocks, and nothing else has changed.
pub record IsBornEmpty (size id : ℕ) (n : NewNode) (name : List ℕ) (m : ℕ → Option (List ℕ)) (told : Option (ℕ → Option (List ℕ))) : Type 0 where
  pub bytes : List ℕ
  pub is : told ≡ Some (with_block id bytes m)
  pub fresh : IsFresh size n name bytes
  pub stream : stream_at bytes ≡ no_stream

-- The block is a new inode with a short target in the place of the stream, and zeros behind it; and nothing else has changed.
pub record IsBornLink (size id : ℕ) (n : NewNode) (name target : List ℕ) (m : ℕ → Option (List ℕ)) (told : Option (ℕ → Option (List ℕ))) : Type 0 where
  pub bytes : List ℕ
  pub is : told ≡ Some (with_block id bytes m)
  pub fresh : IsFresh size n name bytes
  pub target_is : take 144 (drop 72 bytes) ≡ target ++ replicate (144 - length target) 0
