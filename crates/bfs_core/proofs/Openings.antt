-- Core at a mount.
use Rattle.std.proofs.Common.{◌≡◌, inl, ⊎_elim, ◌<◌, ◌≤◌, ◌+◌, ◌*◌, ℕ, List, [], take, Bool, true, false, cond, Option, Some, None, unwrap_or, refl, sym, ◌∙◌, ap, subst, arith}
use Rattle.std.proofs.lemmas.Bool.{true≢false, cond-true}
use Rattle.bfs_base.specs.Images.{block}
use Rattle.bfs_base.specs.Lists.{times}
use Rattle.bfs_disk.specs.State.{State, Holds, Filled, IsImage}
use Rattle.bfs_disk.specs.Blocks.{contents_of}
use Rattle.bfs_disk.proofs.Joined.{known_quiet, contents_read}
use Rattle.bfs_super.specs.declared.sup.Super.{Super}
use Rattle.bfs_super.specs.Conditions.{natural, IsValid}
use Rattle.bfs_log.specs.Replay.{super_of, blocks_of, Replayed}
use Rattle.bfs_log.proofs.Replays.{replayed_one}
use Rattle.bfs_tree.specs.Trees.{Tree}
use Rattle.bfs_tree.specs.Histories.{Mounted, after}
use Rattle.bfs_sound.specs.Volumes.{Volume}
use Rattle.bfs_sound.specs.Owners.{IsMetadata, fixed_blocks}
use Rattle.bfs_sound.specs.Whole.{IsSound, IsWhole, Recovers, volume_of}
use Rattle.bfs_sound.proofs.Carried.{sound_stays}
use Rattle.bfs_device.specs.Layouts.{layout_of, IsData, is_data}
use Rattle.bfs_device.specs.Phases.{none}
use Rattle.bfs_device.specs.Books.{Books, IsOnDisk, IsRight, IsVersion, durable_of, sealed_of, version}
use Rattle.bfs_device.specs.Seals.{adopted}
use Rattle.bfs_device.specs.Ahead.{IsSteady}
use Rattle.bfs_device.proofs.Sealing.{adopted_rests}
use Rattle.bfs_device.proofs.Sizes.{good, fits_sectors}
use Rattle.bfs_core.specs.Spaces.{SpaceView, face_over, opened}
use Rattle.bfs_core.specs.Cores.{Core, masked, newest_map, version_volume}
use Rattle.bfs_core.proofs.Masks.{of_data, masked_at, metadata_data}
use Rattle.bfs_core.proofs.Images.{recovers_now, some_bytes}
use Rattle.bfs_core.proofs.Steady.{adopted_steady}

-- what a quiet disk reads of a block is the image's
pub read_is : (s : Super) (st : State) (image : List ℕ) (k : ℕ) → IsValid s → Filled st → (layout_of s).sectors * (layout_of s).blocks ≤ st.size → Holds image st → super_of image ≡ s → IsData (layout_of s) k → contents_of st (layout_of s).sectors k ≡ blocks_of image k
read_is s st image k valid filled sized holds is d =
    let r : ℕ = (layout_of s).sectors in
    let fits : (layout_of s).sectors * k + (layout_of s).sectors ≤ st.size = (let f = fits_sectors s valid k d.1 in omega (arith, f, sized)) in
    let some : 1 < st.size = let f = fits_sectors s valid 0 (omega (arith, (good s valid).inside, (good s valid).behind_zero)) in omega (arith, f, sized, (good s valid).two) in
    let known = known_quiet st (layout_of s).sectors image holds.quiet holds.reads some in
    known.reads k (contents_of st (layout_of s).sectors k) d.0 fits (contents_read st (layout_of s).sectors k filled fits) ∙ ap (λ (x : Super). block ((layout_of x).sectors) k image) (sym is)

module _ (t0 : Mounted) (s : Super) (st : State) (image : List ℕ) (whole : IsWhole image t0.tree) (is : super_of image ≡ s) (holds : Holds image st) (filled : Filled st)
    (sized : (layout_of s).sectors * (layout_of s).blocks ≤ st.size) (steady : IsSteady (adopted s)) where
  abbrev old : Volume
  old = volume_of s (blocks_of image)

  pub sound : IsSound (volume_of s (blocks_of image)) t0.tree
  sound = subst (λ (x : Super). IsSound (volume_of x (blocks_of image)) t0.tree) is whole.whole.sound

  pub data_at : (k : ℕ) → IsMetadata (volume_of s (blocks_of image)) t0.tree k → times k (fixed_blocks (volume_of s (blocks_of image))) ≡ 0 → IsData (layout_of s) k
  data_at k meta apart = metadata_data s (natural s.used_blocks) (blocks_of image) t0.tree sound k meta apart

  read_at : (k : ℕ) → IsData (layout_of s) k → contents_of st (layout_of s).sectors k ≡ blocks_of image k
  read_at k d = read_is s st image k steady.valid filled sized holds is d

  pub face_at : (k : ℕ) → IsData (layout_of s) k → face_over [] (newest_map (adopted s) st) k ≡ blocks_of image k
  face_at k d = ap (λ (o : Option (List ℕ)). unwrap_or o []) (cond-true (is_data (layout_of s) k) (Some (contents_of st (layout_of s).sectors k)) None (of_data (layout_of s) k d)) ∙ read_at k d

  face_sound : IsSound (let v : Volume = record { geometry = old.geometry; blocks = face_over [] (newest_map (adopted s) st) } in v) t0.tree
  face_sound = sound_stays (volume_of s (blocks_of image)) (face_over [] (newest_map (adopted s) st)) t0.tree sound (some_bytes s steady.valid) (λ k meta apart. face_at k (data_at k meta apart))

  version_sound : IsSound (version_volume (adopted s) st 0) t0.tree
  version_sound = sound_stays (volume_of s (blocks_of image)) (masked (layout_of s) (version (adopted s) st 0)) t0.tree sound (some_bytes s steady.valid)
      (λ k meta apart. let d = data_at k meta apart in masked_at (layout_of s) (version (adopted s) st 0) k d ∙ read_at k d)

  pub same_volume : (k : ℕ) → masked (layout_of s) (version (adopted s) st 0) k ≡ face_over [] (newest_map (adopted s) st) k
  same_volume k = either (is_data (layout_of s) k)
    where
      either : (d : Bool) → cond d (contents_of st (layout_of s).sectors k) [] ≡ unwrap_or (cond d (Some (contents_of st (layout_of s).sectors k)) None) []
      either true = refl
      either false = refl

  at_zero : (n : ℕ) (P : ℕ → Type 0) → IsVersion (adopted s) n → P 0 → P n
  at_zero n P is p = ⊎_elim (λ zero. subst P (sym zero) p) (λ nothing. absurd nothing) is

  pub core_at : IsRight (adopted s) none st → Core t0 (opened s) (adopted s) none st
  core_at right = record {
    space = record {
      legal = tt;
      sound = face_sound;
      unmarked = λ k bad. absurd (true≢false (sym bad));
      own = λ k has. absurd (has refl);
      sized = λ i lt. absurd (omega (arith, lt));
      covered = omega arith;
    };
    steady = steady;
    right = right;
    one = record {
      geometry = λ used. refl;
      sealed = refl;
      sealed_used = refl;
      idle = λ empty. refl;
      known = λ k d lt. absurd (omega (arith, lt));
    };
    versions = record {
      sound = λ n is. at_zero n (λ (m : ℕ). IsSound (version_volume (adopted s) st m) (after t0 (take m []))) is version_sound;
      untouched = λ n k is meta. refl;
    };
    guarded = record {
      metadata = λ n k is meta. inl (at_zero n (λ (m : ℕ). IsMetadata (version_volume (adopted s) st m) (after t0 (take m [])) k → IsMetadata (let v : Volume = record { geometry = old.geometry; blocks = face_over [] (newest_map (adopted s) st) } in v) t0.tree k) is
          (λ meta. subst (λ (f : ℕ → List ℕ). IsMetadata (let v : Volume = record { geometry = old.geometry; blocks = f } in v) t0.tree k) (λ i j. same_volume j i) meta) meta);
      groups = λ g k nothing has. absurd nothing;
      files = λ k bad. absurd (true≢false (sym bad));
    };
  }

pub core_opened : (t0 : Mounted) (image : List ℕ) (st : State) → IsWhole image t0.tree → Holds image st → Filled st → IsOnDisk (Some st.size) (super_of image) → Core t0 (opened (super_of image)) (adopted (super_of image)) none st
core_opened t0 image st whole holds filled sized =
    let valid : IsValid (super_of image) = whole.whole.valid.super in
    core_at t0 (super_of image) st image whole refl holds filled sized (adopted_steady (super_of image) valid whole.whole.emptied) (adopted_rests (super_of image) st image valid filled sized holds refl)

-- the image that replay gives is whole with the tree to which the image recovers
pub whole_of : (image result : List ℕ) (tree : Tree) → Recovers image tree → Replayed image result → IsWhole result tree
whole_of image result tree recovers replayed = subst (λ (x : List ℕ). IsWhole x tree) (replayed_one image recovers.result result recovers.replayed replayed) recovers.whole

pub core_mounted : (t0 : Mounted) (image result : List ℕ) (st : State) → Recovers image t0.tree → Replayed image result → Holds result st → Filled st → IsOnDisk (Some st.size) (super_of result) → Core t0 (opened (super_of result)) (adopted (super_of result)) none st
core_mounted t0 image result st recovers replayed holds filled on = core_opened t0 result st (whole_of image result t0.tree recovers replayed) holds filled on

-- after a crash
pub core_back : (t0 : Mounted) (sp : SpaceView) (b : Books) (t : ℕ → Bool) (st next : State) (image result : List ℕ) → Core t0 sp b t st → IsOnDisk (Some st.size) b.sup → IsImage st image
    → Replayed image result → Holds result next → Filled next → IsOnDisk (Some next.size) (super_of result)
    → (k : ℕ) × (durable_of b ≤ k) × (k ≤ sealed_of b) × ((again : Mounted) → again.tree ≡ after t0 (take k sp.history) → Core again (opened (super_of result)) (adopted (super_of result)) none next)
core_back t0 sp b t st next image result core on is replayed holds filled here =
    let within = recovers_now t0 sp b t st image core on is in
    (within.0, within.1, within.2, (λ again same. core_mounted again image result next (subst (Recovers image) (sym same) within.3) replayed holds filled here))
