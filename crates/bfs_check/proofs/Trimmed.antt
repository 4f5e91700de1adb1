-- The bytes of a volume on an image, and what a disk that reads as the image tells of its blocks.
use Rattle.std.proofs.Common.{◌≡◌, ⊎_elim, ℕ, ◌+◌, ◌*◌, ◌<◌, ◌≤◌, List, [], length, take, drop, Bool, true, false, cond, nat_lt, Some, None, unwrap_or, refl, sym, ◌∙◌, ap, subst, arith, length-drop}
use Rattle.std.proofs.Math.Nat.{mul-le-mul_left}
use Rattle.std.proofs.lemmas.Bool.{ltb-true, ltb-false}
use Rattle.std.proofs.lemmas.List.{drop_all, length-take-le, take_all}
use Rattle.bfs_base.specs.Images.{sector, block}
use Rattle.bfs_base.proofs.Sectors.{sector_part, same_sectors}
use Rattle.bfs_disk.specs.State.{State, Filled, ReadsAs}
use Rattle.bfs_disk.specs.Blocks.{IsRead, contents_of}
use Rattle.bfs_disk.proofs.Joined.{contents_read, read_once}
use Rattle.bfs_super.specs.declared.sup.Super.{Super}
use Rattle.bfs_super.specs.Conditions.{natural, IsValid}
use Rattle.bfs_super.specs.Geometry.{geometry_of}
use Rattle.bfs_super.specs.Layout.{super_at}
use Rattle.bfs_log.specs.Replay.{Valid, super_of, blocks_of, block_sectors}
use Rattle.bfs_log.proofs.Valids.{valid_by}
use Rattle.bfs_stream.specs.Told.{contents}
use Rattle.bfs_tree.specs.Trees.{Tree}
use Rattle.bfs_sound.specs.Laws.{ImageIsCarried}
use Rattle.bfs_sound.specs.Owners.{reach, IsMetadata}
use Rattle.bfs_sound.specs.Whole.{IsWhole, volume_of}
use Rattle.bfs_finding.specs.declared.finding.Finding.{Finding}
use Rattle.bfs_finding.specs.Findings.{IsFinding}
use Rattle.bfs_device.specs.Plain.{plain}
use Rattle.bfs_replay.proofs.Sizes.{sizes, fits_sectors, log_inside}
use Rattle.bfs_check.specs.Checked.{trimmed, IsFound}

module _ (image : List ℕ) (valid : Valid image) where
  abbrev s : Super
  s = super_of image

  abbrev r : ℕ
  r = block_sectors (super_of image)

  abbrev n : ℕ
  n = natural (super_of image).num_blocks

  abbrev end : ℕ
  end = natural (super_of image).num_blocks * (super_of image).block_size

  end_is : end ≡ 512 * (r * n)
  end_is = let e : n * s.block_size ≡ n * (512 * r) = ap (λ (k : ℕ). n * k) (sizes s valid.super).0 in omega (arith, e)

  some_blocks : 0 < n
  some_blocks = let l = log_inside s valid.super 0 (let two = valid.super.log.2 in omega (arith, two)) in omega (arith, l)

  two_sectors : 1024 ≤ end
  two_sectors =
      let f = fits_sectors s valid.super 0 some_blocks in
      let two = (sizes s valid.super).1 in
      omega (arith, f, two, end_is)

  pub trimmed_length : length (trimmed image) ≡ end
  unfolding trimmed
  trimmed_length = length-take-le end image valid.blocks

  sector_kept : (k : ℕ) → 512 * k + 512 ≤ end → sector k (trimmed image) ≡ sector k image
  unfolding trimmed
  sector_kept k inside = sector_part 0 k end image inside ∙ ap (λ (m : ℕ). sector m image) (let e : 0 + k ≡ k = omega arith in e)

  pub trimmed_super : super_of (trimmed image) ≡ super_of image
  trimmed_super = ap super_at (sector_kept 1 (let two = two_sectors in omega (arith, two)))

  pub trimmed_valid : Valid (trimmed image)
  trimmed_valid =
      let two = two_sectors in let long = trimmed_length in valid_by (trimmed image) s trimmed_super valid.super (omega (arith, two, long)) (omega (arith, long))

  inside_end : (k : ℕ) → k < n → 512 * (r * k + r) ≤ end
  inside_end k lt = let f = fits_sectors s valid.super k lt in omega (arith, f, end_is)

  block_long : (bytes : List ℕ) (k : ℕ) → k < n → end ≤ length bytes → length (block r k bytes) ≡ 512 * r
  block_long bytes k lt fits =
      let inside = inside_end k lt in
      length-take-le (512 * r) (drop (512 * (r * k)) bytes) (omega (arith, length-drop (512 * (r * k)) bytes, inside, fits))

  block_sector : (bytes : List ℕ) (k j : ℕ) → j < r → sector j (block r k bytes) ≡ sector (r * k + j) bytes
  block_sector bytes k j lt = sector_part (r * k) j (512 * r) bytes (omega (arith, lt))

  -- the blocks of the volume are the image's, and there are no others
  block_kept : (k : ℕ) → k < n → block r k (trimmed image) ≡ block r k image
  block_kept k lt =
      let one = block_long (trimmed image) k lt (let long = trimmed_length in omega (arith, long)) in
      let other = block_long image k lt valid.blocks in
      same_sectors r (block r k (trimmed image)) (block r k image) (one ∙ sym other) (omega (arith, one))
      (λ j low. block_sector (trimmed image) k j low ∙ sector_kept (r * k + j) (let inside = inside_end k lt in omega (arith, inside, low)) ∙ sym (block_sector image k j low))

  pub blocks_kept : (k : ℕ) → k < n → blocks_of (trimmed image) k ≡ blocks_of image k
  blocks_kept k lt = ap (λ (t : Super). block (block_sectors t) k (trimmed image)) trimmed_super ∙ block_kept k lt

  block_none : (k : ℕ) → n ≤ k → block r k (trimmed image) ≡ []
  block_none k ge =
      let far : r * n ≤ r * k = mul-le-mul_left r ge in
      ap (take (512 * r)) (drop_all (512 * (r * k)) (trimmed image) (let long = trimmed_length in omega (arith, long, end_is, far))) ∙ take_all (512 * r) [] (omega arith)

  blocks_none : (k : ℕ) → n ≤ k → blocks_of (trimmed image) k ≡ []
  blocks_none k ge = ap (λ (t : Super). block (block_sectors t) k (trimmed image)) trimmed_super ∙ block_none k ge

  -- a tree is whole with the one where it is with the other
  module _ (carried : ImageIsCarried) (tree : Tree) where
    meta_inside : (g : List ℕ) → (k : ℕ) → IsWhole g tree → IsMetadata (volume_of (super_of g) (blocks_of g)) tree k → k < natural (super_of g).num_blocks
    meta_inside g k whole meta = ((whole.whole.sound.bits k).1 meta.0).0

    pub whole_of_trimmed : (super_of image).log_start ≡ (super_of image).log_end → IsWhole (trimmed image) tree → IsWhole image tree
    whole_of_trimmed emptied whole = carried (trimmed image) image tree whole valid emptied record {
      fields = ap geometry_of (sym trimmed_super);
      blocks = λ k meta apart. sym (blocks_kept k (subst (λ (t : Super). k < natural t.num_blocks) trimmed_super (meta_inside (trimmed image) k whole meta)));
    }

    pub trimmed_of_whole : IsWhole image tree → IsWhole (trimmed image) tree
    trimmed_of_whole whole = carried image (trimmed image) tree whole trimmed_valid (subst (λ (t : Super). t.log_start ≡ t.log_end) (sym trimmed_super) whole.whole.emptied) record {
      fields = ap geometry_of trimmed_super;
      blocks = λ k meta apart. blocks_kept k (meta_inside image k whole meta);
    }

  -- the same blocks are reached, as many as are counted
  pub reached_same : (tree : Tree) → IsWhole (trimmed image) tree → IsWhole image tree → length (reach (volume_of (super_of (trimmed image)) (blocks_of (trimmed image))) tree) ≡ length (reach (volume_of (super_of image) (blocks_of image)) tree)
  reached_same tree one other = sym one.whole.sound.used ∙ ap (λ (t : Super). natural t.used_blocks) trimmed_super ∙ other.whole.sound.used

  -- what a disk that reads as the image tells of the volume's blocks
  module _ (state : State) (filled : Filled state) (reads : ReadsAs state image) where
    read_inside : (k : ℕ) → k < n → contents_of state r k ≡ block r k image
    read_inside k lt =
        let inside = inside_end k lt in
        let room : r * k + r ≤ state.size = let size = reads.size in let fits = valid.blocks in omega (arith, inside, size, fits) in
        let is : IsRead state r k (block r k image) = record {
          long = block_long image k lt valid.blocks;
          each = λ j low. block_sector image k j low ∙ reads.each (r * k + j) (omega (arith, room, low));
        } in
        sym (read_once state r k (block r k image) (contents_of state r k) is (contents_read state r k filled room))

    told_by_test : (k : ℕ) (t : Bool) → nat_lt k n ≡ t → unwrap_or (cond t (Some (contents_of state r k)) None) [] ≡ blocks_of (trimmed image) k
    told_by_test k true is = let lt = ltb-true k n is in read_inside k lt ∙ sym (blocks_kept k lt)
    told_by_test k false is = sym (blocks_none k (past k is))
      where
        past : (k : ℕ) → nat_lt k n ≡ false → n ≤ k
        past k is = ltb-false k n is

    told_at : (k : ℕ) → contents (plain r n state) k ≡ blocks_of (trimmed image) k
    told_at k = told_by_test k (nat_lt k n) refl

    pub told_blocks : contents (plain r n state) ≡ blocks_of (trimmed image)
    told_blocks = λ i k. told_at k i

-- an image that ends with its volume
pub found_of_whole : (image : List ℕ) (finding : Finding) → length image ≡ natural (super_of image).num_blocks * (super_of image).block_size → IsFound image finding → IsFinding image finding
unfolding trimmed
found_of_whole image finding long found =
    ⊎_elim (λ here. here)
    (λ cut. subst (λ (bytes : List ℕ). IsFinding bytes finding) (take_all (natural (super_of image).num_blocks * (super_of image).block_size) image (omega (arith, long))) cut.1)
    found
