-- What the superblock's sector says of the image.
use Rattle.std.proofs.Common.{◌≡◌, inl, inr, ℕ, ◌*◌, ◌/◌, ◌<◌, ◌≤◌, List, length, refl, sym, ◌∙◌, ap, subst, arith}
use Rattle.std.specs.Prelude.{Option, Some}
use Rattle.std.specs.Option.{IfSome}
use Rattle.std.proofs.lemmas.List.{take_all}
use Rattle.bfs_base.specs.Images.{sector}
use Rattle.bfs_disk.specs.State.{State, ReadsAs, Tells}
use Rattle.bfs_disk.specs.Disk.{ReadsSectors, HasSectors}
use Rattle.bfs_disk.proofs.Calls.{told_sized}
use Rattle.bfs_super.specs.declared.sup.Super.{Super}
use Rattle.bfs_super.specs.Conditions.{natural, IsValid, IsRefusal}
use Rattle.bfs_super.specs.Layout.{super_at}
use Rattle.bfs_log.specs.Replay.{super_of, block_sectors}
use Rattle.bfs_replay.specs.Steps.{sectors_of}
use Rattle.bfs_replay.specs.Recover.{IsShort, IsJudged, FindsIn, FitsDisk}
use Rattle.bfs_replay.specs.declared.recovery.Loaded.{Loaded}
use Rattle.bfs_replay.specs.declared.recovery.Loaded.TheVariants as loads
use Rattle.bfs_replay.proofs.Sizes.{sizes}

module _ (image : List ℕ) (told : Option State) (reads : Tells told (λ s. ReadsAs s image)) (size : Option ℕ) (sized : IfSome told (λ t. size ≡ Some t.size)) (sectors : ℕ) (known : size ≡ Some sectors) where
  long : length image ≡ 512 * sectors
  long = reads.2.size ∙ ap (λ (n : ℕ). 512 * n) (told_sized told size reads.0 sectors sized reads.1 known)

  count : sectors ≡ length image / 512
  count = omega (arith, long)

  pub few_found : sectors < 2 → IsShort image sectors 2
  few_found few = (count, few, inl refl)

  module _ (two : 2 ≤ sectors) (bytes : List ℕ) (whole : length bytes ≡ 512) (read : ReadsSectors told 1 bytes) where
    sector_is : bytes ≡ sector 1 image
    sector_is =
        let here : ReadsSectors (Some reads.0) 1 bytes = subst (λ st. ReadsSectors st 1 bytes) reads.1 read in
        sym (take_all 512 bytes (omega (arith, whole))) ∙ here 0 (omega (arith, whole)) ∙ sym (reads.2.each 1 (omega (arith, two, long, reads.2.size)))

    super_is : super_at bytes ≡ super_of image
    super_is = ap super_at sector_is

    pub judged : (found : Loaded) → IsJudged (super_at bytes) sectors found → FindsIn image found
    judged (loads.Volume s) is =
        let same : s ≡ super_of image = is.0 ∙ super_is in
        let valid : IsValid (super_of image) = subst IsValid super_is is.1 in
        let room : sectors_of (super_of image) ≤ sectors = subst (λ (t : Super). sectors_of t ≤ sectors) super_is is.2 in
        let size_is = (sizes (super_of image) valid).0 in
        let product : natural (super_of image).num_blocks * (super_of image).block_size ≡ natural (super_of image).num_blocks * (512 * block_sectors (super_of image)) = ap (λ (k : ℕ). natural (super_of image).num_blocks * k) size_is in
        (same, record { sectors = omega (arith, two, long); super = valid; blocks = omega (arith, product, room, long) })
    judged (loads.Short sectors' needed) is =
        (is.0 ∙ count, subst (λ (n : ℕ). n < needed) (sym is.0) is.3, inr (subst (λ (n : ℕ). 2 ≤ n) (sym is.0) two, subst IsValid super_is is.1, is.2 ∙ ap sectors_of super_is))
    judged (loads.Refused fault) is = (omega (arith, two, long), subst (λ (t : Super). IsRefusal t fault) super_is is)
    judged loads.Failed is = tt

pub fits_judged : (s : Super) (size : Option ℕ) (sectors : ℕ) → size ≡ Some sectors → 2 ≤ sectors → (found : Loaded) → IsJudged s sectors found → FitsDisk size found
fits_judged s size sectors known two (loads.Volume found) is =
    (subst IsValid (sym is.0) is.1, subst (λ z. HasSectors z (sectors_of found)) (sym known) (subst (λ (t : Super). sectors_of t ≤ sectors) (sym is.0) is.2))
fits_judged s size sectors known two (loads.Short some needed) is = (known ∙ ap Some (sym is.0), subst (λ (n : ℕ). n < needed) (sym is.0) is.3, inr (s, is.1, is.2))
fits_judged s size sectors known two (loads.Refused fault) is = (subst (λ z. HasSectors z 2) (sym known) two, (s, is))
fits_judged s size sectors known two loads.Failed is = tt

pub never_failed : (s : Super) (sectors : ℕ) (found : Loaded) → IsJudged s sectors found → found ≡ loads.Failed → ⊥
never_failed s sectors found is failed = subst (IsJudged s sectors) failed is
