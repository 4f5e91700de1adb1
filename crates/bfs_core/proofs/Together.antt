-- A space and a device that fit one story are a Core.
use Rattle.std.proofs.Common.{◌≡◌, ◌↔◌, inl, inr, ⊎_elim, ◌<◌, ◌≤◌, ℕ, List, length, Bool, sym, ◌∙◌, ap, subst, arith}
use Rattle.std.specs.List.{All}
use Rattle.bfs_base.specs.Lists.{times}
use Rattle.bfs_disk.specs.State.{State}
use Rattle.bfs_super.specs.declared.sup.Super.{Super}
use Rattle.bfs_super.specs.declared.geometry.Geometry.{Geometry}
use Rattle.bfs_tree.specs.declared.reply.Entry.{Entry}
use Rattle.bfs_tree.specs.Histories.{Legal}
use Rattle.bfs_sound.specs.Volumes.{Volume}
use Rattle.bfs_sound.specs.Owners.{IsMetadata, fixed_blocks}
use Rattle.bfs_sound.specs.Whole.{IsSound}
use Rattle.bfs_sound.proofs.Carried.{sound_stays, metadata_stays}
use Rattle.bfs_device.specs.Layouts.{layout_of}
use Rattle.bfs_device.specs.Books.{Books, IsVersion, RecoversOne, durable_of, sealed_of, used_of, version}
use Rattle.bfs_device.specs.Seals.{last_used}
use Rattle.bfs_device.specs.Ahead.{geometry_with}
use Rattle.bfs_device.proofs.Forward.{order_of}
use Rattle.bfs_core.specs.Spaces.{SpaceView, IsFaceMetadata, IsHeld}
use Rattle.bfs_core.specs.Cores.{Core, HasVersions, IsKnown, IsVersionMetadata, RecoversWithin, masked, newest_map, version_volume}
use Rattle.bfs_core.specs.Stories.{Words, Story, IsStory, SpaceFits, DeviceFits, IsMetadataIn, TellsFace, tree_in, end_of}
use Rattle.bfs_core.proofs.Masks.{masked_at}
use Rattle.bfs_core.proofs.Images.{recovers_version, some_bytes}
use Rattle.bfs_core.proofs.Givens.{held_lower}
use Rattle.bfs_core.proofs.Onward.{above_left}
use Rattle.bfs_core.proofs.Faces.{data_in, face_sound, to_bits, to_face}
use Rattle.bfs_core.proofs.Devices.{tells_of}

-- each version is the volume of its number
module _ (y : Story) (w : Words) (s : Super) (b : Books) (t : ℕ → Bool) (st : State) (story : IsStory y w.left) (covered : w.sealed ≤ end_of y) (device : DeviceFits y w s b t st) where
  pub short : (n : ℕ) → IsVersion b n → n ≤ end_of y
  short n is = let le = (order_of b device.steady).high n is in omega (arith, le, device.sealed, covered)

  pub late : (n : ℕ) → IsVersion b n → w.left ≤ n
  late n is = let low = (order_of b device.steady).low n is in let le = (order_of b device.steady).left in omega (arith, low, le, device.left)

  some_in : (n : ℕ) → IsVersion b n → 0 < (y.faces n).geometry.block_size
  some_in n is = let e = ap (λ (g : Geometry). g.block_size) (device.versions.geometry n is) in let p = some_bytes b.sup device.steady.valid in omega (arith, e, p)

  version_at : (n : ℕ) (is : IsVersion b n) (k : ℕ) → IsMetadataIn y n k → times k (fixed_blocks (y.faces n)) ≡ 0 → masked (layout_of b.sup) (version b st n) k ≡ (y.faces n).blocks k
  version_at n is k meta fixed =
      let d = data_in b.sup (used_of b n) (y.faces n) (tree_in y n) (device.versions.geometry n is) (story.sound n (short n is)) k meta fixed in
      masked_at (layout_of b.sup) (version b st n) k d ∙ device.versions.reads n k is meta d

  version_is : (n : ℕ) → IsVersion b n → (let v : Volume = record (y.faces n) { blocks = masked (layout_of b.sup) (version b st n) } in v) ≡ version_volume b st n
  version_is n is = λ i. record { geometry = device.versions.geometry n is i; blocks = masked (layout_of b.sup) (version b st n) }

  version_sound : (n : ℕ) → IsVersion b n → IsSound (version_volume b st n) (tree_in y n)
  version_sound n is =
      subst (λ (v : Volume). IsSound v (tree_in y n)) (version_is n is)
      (sound_stays (y.faces n) (masked (layout_of b.sup) (version b st n)) (tree_in y n) (story.sound n (short n is)) (some_in n is) (version_at n is))

  pub from_version : (n : ℕ) → IsVersion b n → (k : ℕ) → IsVersionMetadata y.t0 y.history b st n k → IsMetadataIn y n k
  from_version n is k meta =
      (metadata_stays (y.faces n) (masked (layout_of b.sup) (version b st n)) (tree_in y n) (story.sound n (short n is)) (some_in n is) (version_at n is) k).0
      (subst (λ (v : Volume). IsMetadata v (tree_in y n) k) (sym (version_is n is)) meta)

  pub versions_of : HasVersions y.t0 y.history b t st
  versions_of = record { sound = version_sound; untouched = λ n k is meta. device.versions.untouched n k is (from_version n is k meta) }

  pub device_recovers : (image : List ℕ) → RecoversOne b t st image → RecoversWithin y.t0 y.history (durable_of b) (sealed_of b) image
  device_recovers image one = recovers_version y.t0 y.history b t st image device.steady versions_of one

module _ (y : Story) (w : Words) (sp : SpaceView) (b : Books) (t : ℕ → Bool) (st : State) (story : IsStory y w.left) (space : SpaceFits y w sp) (device : DeviceFits y w sp.sup b t st) where
  tells : TellsFace y w.sealed (newest_map b st)
  tells = tells_of y w sp.sup b t st story space.covered device

  newest_version : IsVersion b (sealed_of b)
  newest_version = (order_of b device.steady).newest

  old_metadata : (n : ℕ) → IsVersion b n → (k : ℕ) → IsVersionMetadata y.t0 sp.history b st n k → IsMetadataIn y n k
  old_metadata n is k meta = from_version y w sp.sup b t st story space.covered device n is k (subst (λ (h : List Entry). IsVersionMetadata y.t0 h b st n k) space.history meta)

  used_last : sp.sealed_used ≡ last_used b
  used_last =
      let a : (y.faces w.sealed).geometry ≡ geometry_with b.sup (used_of b (sealed_of b)) = ap (λ (n : ℕ). (y.faces n).geometry) (sym device.sealed) ∙ device.versions.geometry (sealed_of b) newest_version in
      ap (λ (g : Geometry). g.used) (sym space.ends ∙ a) ∙ (order_of b device.steady).used

  face_of : (k : ℕ) → IsMetadataIn y (end_of y) k ↔ IsFaceMetadata y.t0 sp (newest_map b st) k
  face_of k = to_face y w sp (newest_map b st) story space tells k

  pub pair_is_core : Core y.t0 sp b t st
  pair_is_core = record {
    space = record {
      legal = subst (λ (h : List Entry). Legal y.t0 h) (sym space.history) story.legal;
      sound = face_sound y w sp (newest_map b st) story space tells;
      unmarked = λ k is marked. space.given.unmarked k is ((to_bits y w sp (newest_map b st) story space tells k).1 marked);
      own = λ k has. ⊎_elim (λ meta. inl ((face_of k).0 meta)) (λ fresh. inr fresh) (space.given.own k has);
      sized = space.sized;
      covered = (let e = ap length space.history in omega (arith, e, space.sealed, space.covered));
    };
    steady = device.steady;
    right = device.right;
    one = record {
      geometry = device.volume;
      sealed = device.sealed ∙ sym space.sealed;
      sealed_used = used_last;
      idle = λ none. space.idle none ∙ used_last;
      known = subst (All (IsKnown b)) (sym space.history) device.known;
    };
    versions = subst (λ (h : List Entry). HasVersions y.t0 h b t st) (sym space.history) (versions_of y w sp.sup b t st story space.covered device);
    guarded = record {
      metadata = λ n k is meta.
          let in_story = old_metadata n is k meta in
          ⊎_elim (λ still. inl ((face_of k).0 (still.metadata.0 in_story))) (λ held. inr held) (space.given.blocks n k (late y w sp.sup b t st story space.covered device n is) (short y w sp.sup b t st story space.covered device n is) (((story.sound n (short y w sp.sup b t st story space.covered device n is)).bits k).1 in_story.0));
      groups = λ g k is has.
          let set = device.groups g k is has in
          let lt = above_left (layout_of b.sup) b.sup.block_size b.left _ g b.groups device.steady.follow is in
          ⊎_elim (λ meta. inl ((face_of k).0 meta)) (λ held. inr (λ n low. held n (let le = set.1 in omega (arith, low, le)))) (space.given.sets set.0 k (let le = set.1 in omega (arith, lt, le, device.left)) set.2 set.3);
      files = λ k is.
          let file = device.files k is in
          ⊎_elim (λ still. inl ((to_bits y w sp (newest_map b st) story space tells k).0 still.marked, (λ meta. file.4 (still.metadata.1 ((face_of k).1 meta))))) (λ held. inr (held_at file.0 k file.1 held)) (space.given.blocks file.0 k file.1 file.2 file.3);
    };
  }
    where
      held_at : (n k : ℕ) → w.left ≤ n → IsHeld n sp.given k → IsHeld b.left sp.given k
      held_at n k le held = subst (λ (x : ℕ). IsHeld x sp.given k) (sym device.left) (held_lower w.left n sp.given k le held)
