-- The blocks of a volume as its disk has them.
use Rattle.std.proofs.Common.{◌≡◌, ℕ, ◌+◌, ◌*◌, ◌/◌, ◌<◌, ◌≤◌, List, length, Bool, true, false, cond, nat_lt, nat_le, Option, Some, None, refl, sym, ◌∙◌, arith}
use Rattle.std.specs.Option.{option_map, IfSome}
use Rattle.std.proofs.Math.Nat.{mul-le-mul_left}
use Rattle.std.proofs.lemmas.Bool.{ltb-true, leb-true, true≢false}
use Rattle.bfs_base.proofs.Sectors.{length-joined}
use Rattle.bfs_disk.specs.State.{State, Filled, newest}
use Rattle.bfs_disk.specs.StateLaws.{newest_long}
use Rattle.bfs_disk.specs.Blocks.{contents_of}
use Rattle.bfs_disk.specs.Disk.{HasSectors}
use Rattle.bfs_txn.specs.Told.{AreSized}

-- what is noted for the owner of a lent disk: the disk as it was lent, and the name of the reference to it
pub record LentDisk (D : Type 0) : Type 0 where
  pub start : D
  pub name : ℕ

-- what the disk reads at each of so many blocks of r sectors
abbrev pub plain : ℕ → ℕ → State → ℕ → Option (List ℕ)
plain r blocks state k = cond (nat_lt k blocks) (Some (contents_of state r k)) None

-- does the disk have so many sectors, a number that is known?
abbrev pub has_sectors : Option ℕ → ℕ → Bool
has_sectors None n = false
has_sectors (Some size) n = nat_le n size

pub sectors_there : (known : Option ℕ) (n : ℕ) → has_sectors known n ≡ true → HasSectors known n
sectors_there None n is = true≢false (sym is)
sectors_there (Some size) n is = leb-true n size is

-- a block's sectors lie on the disk
pub block_inside : (r blocks k size : ℕ) → r * blocks ≤ size → k < blocks → r * k + r ≤ size
block_inside r blocks k size fits lt =
    let le : r * (k + 1) ≤ r * blocks = mul-le-mul_left r (let l : k + 1 ≤ blocks = omega (arith, lt) in l) in omega (arith, le, fits)

-- each block that is told has a block's length
pub plain_sized : (size blocks : ℕ) → size ≡ 512 * (size / 512) → (told : Option State) (known : Option ℕ) → IfSome told Filled → IfSome told (λ s. known ≡ Some s.size) → has_sectors known (size / 512 * blocks) ≡ true
    → AreSized size (option_map (plain (size / 512) blocks) told)
plain_sized size blocks even None known filled sized on = tt
plain_sized size blocks even (Some state) None filled sized on = absurd (true≢false (sym on))
plain_sized size blocks even (Some state) (Some sectors) filled sized on = λ k. by_test k (nat_lt k blocks) (λ is. ltb-true k blocks is)
  where
    by_test : (k : ℕ) (t : Bool) → (t ≡ true → k < blocks) → IfSome (cond t (Some (contents_of state (size / 512) k)) None) (λ bytes. length bytes ≡ size)
    by_test k true lt =
        let same : sectors ≡ state.size = cc in
        let inside = block_inside (size / 512) blocks k state.size (omega (arith, leb-true (size / 512 * blocks) sectors on, same)) (lt refl) in
        length-joined (size / 512) (λ j. newest state (size / 512 * k + j)) (λ j low. newest_long state (size / 512 * k + j) filled (omega (arith, low, inside))) ∙ sym even
    by_test k false lt = tt
