-- A disk as a volume sees it: the superblock's sector, and blocks of r sectors behind block 0.
use Rattle.std.specs.Prelude.{◌≡◌, ◌<◌, ◌≤◌, ℕ, ◌+◌, ◌*◌, List, length, Option, IfSome}
use Rattle.bfs_base.specs.Images.{sector, joined}
use Rattle.bfs_disk.specs.State.{State, IsOneOf, newest}

-- a crash may leave this of a block: one content of each of its sectors
pub record MayBe (state : State) (r b : ℕ) (bytes : List ℕ) : Type 0 where
  pub long : length bytes ≡ 512 * r
  pub each : (j : ℕ) → j < r → IsOneOf (state.contents (r * b + j)) (sector j bytes)

-- a read gives this of a block
pub record IsRead (state : State) (r b : ℕ) (bytes : List ℕ) : Type 0 where
  pub long : length bytes ≡ 512 * r
  pub each : (j : ℕ) → j < r → sector j bytes ≡ newest state (r * b + j)

-- a crash may leave a superblock with S and blocks with P, a read gives a superblock with T and blocks with Q
pub record Known (state : State) (r : ℕ) (S T : List ℕ → Type 0) (P Q : ℕ → List ℕ → Type 0) : Type 0 where
  pub super_leaves : (c : List ℕ) → IsOneOf (state.contents 1) c → S c
  pub super_reads : T (newest state 1)
  pub leaves : (b : ℕ) (c : List ℕ) → 1 ≤ b → r * b + r ≤ state.size → MayBe state r b c → P b c
  pub reads : (b : ℕ) (c : List ℕ) → 1 ≤ b → r * b + r ≤ state.size → IsRead state r b c → Q b c

-- what a read gives of each block
abbrev pub contents_of : State → ℕ → ℕ → List ℕ
contents_of state r b = joined r (λ j. newest state (r * b + j))

-- the bytes are those that the disk reads at this block, where it tells
abbrev pub AreRead : Option State → ℕ → ℕ → List ℕ → Type 0
AreRead told r b bytes = IfSome told (λ s. bytes ≡ contents_of s r b)
