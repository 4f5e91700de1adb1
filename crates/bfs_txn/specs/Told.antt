-- What is told of a volume's blocks: a map from numbers to bytes. A block that is not in the map may have any bytes.
use Rattle.std.specs.Prelude.{◌≡◌, ℕ, ◌+◌, ◌*◌, List, take, drop, length, replicate, Bool, true, ◌||◌, ◌==◌, nat_le, Option, Some, None, IfSome, is_some, unwrap_or, if◌then◌else◌}
use Rattle.std.specs.Option.{option_map}
use Rattle.bfs_txn.specs.Changed.{newest}

-- the bytes are those told of the block, where they are told
abbrev pub AreOfBlock : Option (ℕ → Option (List ℕ)) → ℕ → List ℕ → Type 0
AreOfBlock told block bytes = IfSome told (λ m. IfSome (m block) (λ b. bytes ≡ b))

-- the map with this block changed
abbrev pub with_block : ℕ → List ℕ → (ℕ → Option (List ℕ)) → ℕ → Option (List ℕ)
with_block block bytes m k = if k == block then Some bytes else m k

-- each block that is told has this length
abbrev pub AreSized : ℕ → Option (ℕ → Option (List ℕ)) → Type 0
AreSized size told = IfSome told (λ m. (k : ℕ) → IfSome (m k) (λ bytes. length bytes ≡ size))

-- the blocks of a list of bytes, as far as they lie inside
abbrev pub blocks_of : ℕ → List ℕ → ℕ → Option (List ℕ)
blocks_of size bytes k = if nat_le (size * k + size) (length bytes) then Some (take size (drop (size * k) bytes)) else None

-- What a memory holds: the length of a block, the bytes of all blocks, one after another, and the block that was read
-- last since its bytes were changed.
pub record Memory : Type 0 where
  pub block_size : ℕ
  pub bytes : List ℕ
  pub read : Option ℕ

-- the block that was read last, with its bytes, which are zeros for a block past the end
abbrev pub read_last : Memory → Option (ℕ × List ℕ)
read_last m = option_map (λ k. (k, unwrap_or (blocks_of m.block_size m.bytes k) (replicate m.block_size 0))) m.read

-- What an overlay read last: the bytes that its pairs had for this block then, or, where it is none of theirs, what was
-- read last below.
abbrev pub read_over : Option ℕ → List (ℕ × List ℕ) → Option (ℕ × List ℕ) → Option (ℕ × List ℕ)
read_over None pairs below = below
read_over (Some k) pairs below = option_map (λ bytes. (k, bytes)) (newest pairs k)

-- the changed blocks, and this one
abbrev pub with_number : ℕ → (ℕ → Bool) → ℕ → Bool
with_number block changed k = (k == block) || changed k

-- what was changed stays changed
abbrev pub StaysChanged : (ℕ → Bool) → (ℕ → Bool) → Type 0
StaysChanged old new = (k : ℕ) → old k ≡ true → new k ≡ true

-- What no call of an `Edits` changes: the names of the references that it holds, the pairs that stand
-- once the call is given up, what is told below it, and what its owner notes.
pub record Frame (N : Type 0) : Type 0 where
  pub note : N
  pub names : List ℕ
  pub kept : List (ℕ × List ℕ)
  pub below : Option (ℕ → Option (List ℕ))

-- something is told just where something is told below
abbrev pub TellsOver : Option (ℕ → Option (List ℕ)) → Option (ℕ → Option (List ℕ)) → Type 0
TellsOver told below = is_some told ≡ is_some below
