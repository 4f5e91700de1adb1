-- The places of a new volume are small.
use Rattle.std.proofs.Common.{◌≡◌, ⊎_elim, ℕ, ◌+◌, ◌-◌, ◌*◌, ◌^◌, ◌≤◌, ap, subst, sym, arith}
use Rattle.std.proofs.Math.Pow.{pow_mono}
use Rattle.std.proofs.Math.Nat.{div-le_self}
use Rattle.bfs_bytes.specs.declared.Run.{Run}
use Rattle.bfs_super.specs.declared.geometry.Geometry.{Geometry}
use Rattle.bfs_super.specs.Geometry.{IsBlockSize, IsPlan, bitmap_length}
use Rattle.bfs_mkfs.specs.Laid.{IsPlanned, pages_length, modified_at}

pub few_bitmaps : (n size : ℕ) → IsBlockSize size → n ≤ 4194304 → (1 ≤ n → 1 ≤ bitmap_length n size) × (bitmap_length n size ≤ 512)
few_bitmaps n size is few =
    let at : (s : ℕ) → size ≡ s → (1 ≤ n → 1 ≤ bitmap_length n s) × (bitmap_length n s ≤ 512) → (1 ≤ n → 1 ≤ bitmap_length n size) × (bitmap_length n size ≤ 512) =
    λ s e p. subst (λ m. (1 ≤ n → 1 ≤ bitmap_length n m) × (bitmap_length n m ≤ 512)) (sym e) p in
    ⊎_elim (λ e. at 1024 e ((λ some. omega arith), omega arith)) (λ rest. ⊎_elim (λ e. at 2048 e ((λ some. omega arith), omega arith)) (λ more. ⊎_elim (λ e. at 4096 e ((λ some. omega arith), omega arith)) (λ e. at 8192 e ((λ some. omega arith), omega arith)) more) rest) is

pub few_pages : (size : ℕ) → IsBlockSize size → (1 ≤ pages_length size) × (pages_length size ≤ 2)
few_pages size is =
    let at : (s : ℕ) → size ≡ s → (1 ≤ pages_length s) × (pages_length s ≤ 2) → (1 ≤ pages_length size) × (pages_length size ≤ 2) = λ s e p. subst (λ m. (1 ≤ pages_length m) × (pages_length m ≤ 2)) (sym e) p in
    ⊎_elim (λ e. at 1024 e (omega arith, omega arith)) (λ rest. ⊎_elim (λ e. at 2048 e (omega arith, omega arith)) (λ more. ⊎_elim (λ e. at 4096 e (omega arith, omega arith)) (λ e. at 8192 e (omega arith, omega arith)) more) rest) is

-- the last tree, and what is used
pub modified_bound : (g : Geometry) → IsPlanned g → modified_at g ≤ 2600
modified_bound g is = omega (arith, is.plan.root, is.plan.indices, (few_bitmaps g.blocks g.block_size is.size is.few).1, (few_pages g.block_size is.size).1, is.log_high)

pub used_bound : (g : Geometry) → IsPlanned g → g.used ≤ 2600
used_bound g is = omega (arith, is.plan.used, (few_bitmaps g.blocks g.block_size is.size is.few).1, (few_pages g.block_size is.size).1, is.log_high)

-- the bytes of the bitmap's blocks
pub bitmap_bound : (n size : ℕ) → IsBlockSize size → 1 ≤ n → n ≤ 4194304 → (1024 ≤ bitmap_length n size * size) × (bitmap_length n size * size ≤ 4194304)
bitmap_bound n size is some few =
    let at : (s : ℕ) → size ≡ s → (1024 ≤ bitmap_length n s * s) × (bitmap_length n s * s ≤ 4194304) → (1024 ≤ bitmap_length n size * size) × (bitmap_length n size * size ≤ 4194304) =
    λ s e p. subst (λ m. (1024 ≤ bitmap_length n m * m) × (bitmap_length n m * m ≤ 4194304)) (sym e) p in
    ⊎_elim (λ e. at 1024 e (omega arith, omega arith)) (λ rest. ⊎_elim (λ e. at 2048 e (omega arith, omega arith)) (λ more. ⊎_elim (λ e. at 4096 e (omega arith, omega arith)) (λ e. at 8192 e (omega arith, omega arith)) more) rest) is

-- a volume has blocks
pub some_blocks : (g : Geometry) → IsPlanned g → 1 ≤ g.blocks
some_blocks g is = omega (arith, is.plan.used, is.plan.room)

-- the numbers of the superblock are small
pub record Small (g : Geometry) : Type 0 where
  pub size : g.block_size ≤ 8192
  pub used : g.used ≤ 2600
  pub per_group : g.per_group ≤ 65536
  pub shift : g.shift ≤ 16
  pub groups : g.groups ≤ 4259840
  pub root : g.root ≤ 2600
  pub indices : g.indices ≤ 2600

product_bound : (p size n : ℕ) → IsBlockSize size → n ≡ p * (size * 8) → n ≤ 65536 → p ≤ 65536
product_bound p size n is e le =
    let at : (s : ℕ) → size ≡ s → n ≡ p * (s * 8) = λ s same. subst (λ m. n ≡ p * (m * 8)) same e in
    ⊎_elim (λ s. omega (arith, at 1024 s, le)) (λ rest. ⊎_elim (λ s. omega (arith, at 2048 s, le)) (λ more. ⊎_elim (λ s. omega (arith, at 4096 s, le)) (λ s. omega (arith, at 8192 s, le)) more) rest) is

size_bound : (size : ℕ) → IsBlockSize size → size ≤ 8192
size_bound size is = ⊎_elim (λ s. omega (arith, s)) (λ rest. ⊎_elim (λ s. omega (arith, s)) (λ more. ⊎_elim (λ s. omega (arith, s)) (λ s. omega (arith, s)) more) rest) is

pub places : (g : Geometry) → IsPlanned g → Small g
places g is =
    let shift = is.plan.shift in
    let last : g.shift ≤ 16 = shift.2.last in
    let power : 2 ^ g.shift ≤ 2 ^ 16 = pow_mono last in
    let modified = modified_bound g is in
    record {
      size = size_bound g.block_size is.size;
      used = used_bound g is;
      per_group = product_bound g.per_group g.block_size (2 ^ g.shift) is.size is.plan.per_group power;
      shift = last;
      groups = omega (arith, is.plan.groups, is.few, power, div-le_self (g.blocks + (2 ^ g.shift - 1)) (2 ^ g.shift));
      root = omega (arith, modified, is.plan.indices);
      indices = omega (arith, modified);
    }

-- a layout that was planned
pub planned_of : (n size log : ℕ) (g : Geometry) → IsBlockSize size → n ≤ 4194304 → 2 ≤ log → log ≤ 2048 → IsPlan n size log g → IsPlanned g
planned_of n size log g is few low high plan =
    let length : g.log.len ≡ log = ap (λ (r : Run). r.len) plan.log in
    let one : IsPlan g.blocks size log g = subst (λ (m : ℕ). IsPlan m size log g) (sym plan.blocks) plan in
    let two : IsPlan g.blocks g.block_size log g = subst (λ (m : ℕ). IsPlan g.blocks m log g) (sym plan.block_size) one in
    record {
      size = subst IsBlockSize (sym plan.block_size) is;
      few = omega (arith, plan.blocks, few);
      log_low = omega (arith, length, low);
      log_high = omega (arith, length, high);
      plan = subst (λ (m : ℕ). IsPlan g.blocks g.block_size m g) (sym length) two;
    }
