-- What a format takes into memory, and that it is the new volume once it is written.
use Rattle.std.proofs.Common.{◌≡◌, ◌⊎◌, inl, inr, ⊎_elim, ◌≤◌, ◌<◌, ◌+◌, ◌*◌, ◌/◌, ℕ, ℤ, List, length, arith, ap, subst, sym, ◌∙◌}
use Rattle.bfs_disk.specs.State.{State, ReadsAs}
use Rattle.bfs_super.specs.Geometry.{bitmap_length}
use Rattle.bfs_super.specs.Layout.{super_at, sector_of}
use Rattle.bfs_super.specs.declared.geometry.Geometry.{Geometry}
use Rattle.bfs_mkfs.specs.Laid.{IsPlanned, HasTrees, IsLaid, made, bitmap_bytes}
use Rattle.bfs_mkfs.specs.Written.{area, IsBlank, IsWritten, Meets, Opened}
use Rattle.bfs_mkfs.specs.Format.{IsNew, IsRefused}
use Rattle.bfs_mkfs.proofs.Whole.{Places, places_of, laid, reads_written, blank_refused, sectors_of}
use Rattle.bfs_mkfs.proofs.NewSuper.{new_whole}

-- the superblock's sector, the bitmap and the trees of a new volume
pub record Prepared (g : Geometry) (label : List ℕ) (stamp : ℤ) (block bits leaves : List ℕ) : Type 0 where
  pub planned : IsPlanned g
  pub block_is : block ≡ sector_of (made g label)
  pub again : super_at block ≡ made g label
  pub bits_are : bits ≡ bitmap_bytes g.used (bitmap_length g.blocks g.block_size * g.block_size)
  pub leaves_are : HasTrees g stamp leaves

-- the sectors of a volume
abbrev pub sectors_in : Geometry → ℕ
sectors_in g = g.blocks * (g.block_size / 512)

module _ (g : Geometry) (label : List ℕ) (stamp : ℤ) (block bits leaves : List ℕ) (ready : Prepared g label stamp block bits leaves) where
  pub places : Places g stamp bits leaves
  places = places_of g stamp bits leaves ready.planned ready.bits_are ready.leaves_are

  pub at_order : (at : ℕ) → at ≡ g.block_size / 512 → at + length bits / 512 ≤ at * g.root
  at_order at e = subst (λ (n : ℕ). n + length bits / 512 ≤ n * g.root) (sym e) places.order

  pub at_range : (at : ℕ) → at ≡ g.block_size / 512 → at * g.root + length leaves / 512 ≤ sectors_in g
  at_range at e = subst (λ (n : ℕ). n * g.root + length leaves / 512 ≤ sectors_in g) (sym e) places.range

  -- the volume's areas, from the bitmap's first sector on
  abbrev Written : ℕ → List ℕ → Type 0
  Written at = IsWritten block (area at bits) (area (at * g.root) leaves) (sectors_in g)

  pub written_new : (at : ℕ) → at ≡ g.block_size / 512 → (c : List ℕ) → Written at c → IsNew g label stamp c
  written_new at e c written = record { laid = is_laid; whole = new_whole g label stamp c ready.planned reads_back is_laid long }
    where
      is_laid : IsLaid g label stamp c
      is_laid = laid g label stamp block bits leaves c ready.planned ready.bits_are ready.leaves_are ready.block_is (sectors_in g) (subst (λ n. Written n c) e written)

      reads_back : super_at (sector_of (made g label)) ≡ made g label
      reads_back = ap super_at (sym ready.block_is) ∙ ready.again

      long : g.blocks * g.block_size ≤ length c
      long =
          let s = (sectors_of g.block_size ready.planned.size).0 in
          let m : 512 * sectors_in g ≡ g.blocks * (512 * (g.block_size / 512)) = grind arith in
          subst (λ n. g.blocks * n ≤ length c) (sym s) (omega (arith, m, written.long))

  pub left_new : (at : ℕ) → at ≡ g.block_size / 512 → (image c : List ℕ) → (c ≡ image) ⊎ (IsBlank c ⊎ Written at c) → (c ≡ image) ⊎ (IsRefused c ⊎ IsNew g label stamp c)
  left_new at e image c is =
      ⊎_elim (λ same. inl same) (λ other. inr (⊎_elim (λ blank. inl (blank_refused c blank)) (λ written. inr (written_new at e c written)) other)) is

  abbrev AsOpened : ℕ → ℕ → List ℕ → Type 0
  AsOpened at = Opened block (area at bits) (area (at * g.root) leaves)

  pub reads_new : (at : ℕ) → at ≡ g.block_size / 512 → (s : State) (c : List ℕ) → sectors_in g ≤ s.size
      → Meets (AsOpened at) (AsOpened at) s → ReadsAs s c → IsNew g label stamp c
  reads_new at e s c room known reads =
      let some : 1 < s.size = omega (arith, room, places.low, at_order at e, at_range at e, e) in
      written_new at e c (reads_written block (area at bits) (area (at * g.root) leaves) (sectors_in g) s c some (at_range at e) room known reads)
