-- What replay gives of an image.
use Rattle.std.proofs.Common.{ℤ, pos, negsuc, ◌≤ℤ◌, ◌≡◌, ◌≢◌, ◌⊎◌, inl, inr, ⊎_elim, ℕ, ◌*◌, ◌/◌, ◌≤◌, List, length, refl, sym, ◌∙◌, ap, subst, arith, Bool, true, cond, ◌==◌}
use Rattle.std.proofs.lemmas.Bool.{true≢false}
use Rattle.std.proofs.lemmas.Int.{ints}
use Rattle.bfs_base.specs.Images.{sector, block, overwritten, IsBytes}
use Rattle.bfs_super.specs.declared.sup.Super.{Super}
use Rattle.bfs_super.specs.declared.geometry.Geometry.{Geometry}
use Rattle.bfs_super.specs.Conditions.{natural, IsValid}
use Rattle.bfs_super.specs.Geometry.{geometry_of}
use Rattle.bfs_super.specs.Layout.{sector_of}
use Rattle.bfs_log.specs.Replay.{Home, Logs, Valid, Replayed, super_of, block_sectors, blocks_of, log_from, log_to, homes_of, with_homes, emptied, over}
use Rattle.bfs_log.proofs.Valids.{valid_by}
use Rattle.bfs_log.proofs.Replays.{replayed_empty, replayed_blocks}
use Rattle.bfs_log.proofs.Emptied.{superblock_is, result_valid}
use Rattle.bfs_device.specs.Layouts.{IsData, layout_of}
use Rattle.bfs_device.specs.Versions.{RecoversTo}
use Rattle.bfs_device.specs.Phases.{IsHomeOf}
use Rattle.bfs_device.proofs.Homes.{over_in, over_same, over_out, home_or}
use Rattle.bfs_device.proofs.Sizes.{sizes, good}

-- places that are the same number are the same
natural_apart : (a b : ℤ) → pos 0 ≤ℤ a → pos 0 ≤ℤ b → natural a ≡ natural b → a ≡ b
natural_apart (pos m) (pos n) low high same = ap pos same
natural_apart (negsuc m) b low high same = absurd (omega (arith, ints, low))
natural_apart (pos m) (negsuc n) low high same = absurd (omega (arith, ints, high))

-- the superblock is one of this volume, with so many used blocks
abbrev pub IsOfVolume : Super → ℕ → Super → Type 0
IsOfVolume s used u = geometry_of u ≡ record (geometry_of s) { used = used }

module _ (s u : Super) (used : ℕ) (image : List ℕ) (same : IsOfVolume s used u) (valid : IsValid u) (is : super_of image ≡ u) (fits : 512 * ((layout_of s).sectors * (layout_of s).blocks) ≤ length image) where
  sectors_same : block_sectors (super_of image) ≡ (layout_of s).sectors
  sectors_same = ap block_sectors is ∙ ap (λ (g : Geometry). g.block_size / 512) same

  bytes_fit : natural u.num_blocks * u.block_size ≤ length image
  bytes_fit =
      let size = sizes u valid in
      let each : u.block_size ≡ 512 * (layout_of s).sectors = size.0 ∙ ap (λ (g : Geometry). 512 * (g.block_size / 512)) same in
      let all : natural u.num_blocks ≡ (layout_of s).blocks = ap (λ (g : Geometry). g.blocks) same in
      let product : natural u.num_blocks * u.block_size ≡ (layout_of s).blocks * (512 * (layout_of s).sectors) = ap (λ (n : ℕ). n * u.block_size) all ∙ ap (λ (n : ℕ). (layout_of s).blocks * n) each in
      omega (arith, product, fits)

  two_sectors : 512 * 2 ≤ length image
  two_sectors =
      let g = good u valid in
      let some : 1 * u.block_size ≤ natural u.num_blocks * u.block_size = grind (arith, g.inside, g.behind_zero, bytes_fit) in
      omega (arith, bytes_fit, (sizes u valid).0, (sizes u valid).1, some)

  pub valid_image : Valid image
  valid_image = valid_by image u is valid two_sectors bytes_fit

  read_block : (b : ℕ) → blocks_of image b ≡ block (layout_of s).sectors b image
  read_block b = ap (λ (r : ℕ). block r b image) sectors_same

  -- where the log is empty
  pub recovers_empty : (homes : List Home) (touched : ℕ → Bool) (v : ℕ → List ℕ) → log_from u ≡ log_to u
      → ((b : ℕ) → IsData (layout_of s) b → (touched b ≡ true) ⊎ (block (layout_of s).sectors b image ≡ v b)) → RecoversTo s homes touched v used image
  recovers_empty homes touched v empty held = record {
    result = image;
    replayed = replayed_empty image valid_image (subst (λ (x : Super). log_from x ≡ log_to x) (sym is) empty);
    valid = valid_image;
    emptied = subst (λ (x : Super). x.log_start ≡ x.log_end) (sym is) (natural_apart u.log_start u.log_end valid.log_start.0 valid.log_end.0 empty);
    geometry = ap geometry_of is ∙ same;
    agrees = λ b is_data clear. ⊎_elim (λ dirty. absurd (true≢false (sym dirty ∙ clear))) (λ kept. read_block b ∙ kept) (held b is_data);
    written = λ b some. inr refl;
  }

  -- where it has entries
  module _ (entries : List (List Home)) (logs : Logs (geometry_of u) (blocks_of image) (log_from u) (log_to u) entries) (full : log_from u ≢ log_to u) (bytes : IsBytes (sector 1 image)) where
    abbrev replayed_image : List ℕ
    replayed_image = cond (log_from (super_of image) == log_to (super_of image)) image (overwritten 1 (sector_of (emptied (super_of image))) (with_homes (block_sectors (super_of image)) (homes_of entries) image))

    replay : Replayed image replayed_image
    replay = record {
      valid = valid_image;
      entries = entries;
      log = subst (λ (x : Super). Logs (geometry_of x) (blocks_of image) (log_from x) (log_to x) entries) (sym is) logs;
      same = refl;
    }

    new_super : super_of replayed_image ≡ emptied u
    new_super = superblock_is image replayed_image bytes replay (subst (λ (x : Super). log_from x ≢ log_to x) (sym is) full) ∙ ap emptied is

    new_block : (b : ℕ) → 1 ≤ b → blocks_of replayed_image b ≡ over (homes_of entries) (blocks_of image) b
    unfolding replay
    new_block b some =
        ap (λ (x : Super). block (block_sectors x) b replayed_image) new_super
        ∙ ap (λ (x : Super). block (block_sectors x) b replayed_image) (sym is)
        ∙ replayed_blocks image replayed_image replay b some

    pub recovers_full : (homes : List Home) (loose : List Home) (touched : ℕ → Bool) (v : ℕ → List ℕ) → homes_of entries ≡ homes → ((b : ℕ) → IsHomeOf loose b → IsHomeOf homes b)
        → ((b : ℕ) → IsData (layout_of s) b → IsHomeOf loose b ⊎ ((touched b ≡ true) ⊎ (block (layout_of s).sectors b image ≡ v b))) → RecoversTo s homes touched (over homes v) used image
    unfolding replay
    recovers_full homes loose touched v are named held = record {
      result = replayed_image;
      replayed = replay;
      valid = result_valid image replayed_image bytes replay;
      emptied = ap (λ (x : Super). x.log_start) new_super ∙ sym (ap (λ (x : Super). x.log_end) new_super);
      geometry = ap geometry_of new_super ∙ same;
      agrees = λ b is_data clear.
          new_block b (omega (arith, is_data.0)) ∙ ap (λ (hs : List Home). over hs (blocks_of image) b) are
          ∙ ⊎_elim (λ one. over_in homes (blocks_of image) v b (named b one))
          (λ rest. ⊎_elim (λ dirty. absurd (true≢false (sym dirty ∙ clear))) (λ kept. over_same homes (blocks_of image) v b (read_block b ∙ kept)) rest)
          (held b is_data);
      written = λ b some. ⊎_elim (λ one. inl one)
          (λ none. inr (new_block b some ∙ ap (λ (hs : List Home). over hs (blocks_of image) b) are ∙ over_out homes (blocks_of image) b none))
          (home_or homes b);
    }
