-- What a crash may leave.
use Rattle.std.proofs.Common.{◌≡◌, inl, inr, ⊎_elim, ◌<◌, ◌≤◌, ◌^◌, ℕ, List, length, take, Bool, Some, sym, ◌∙◌, subst, arith}
use Rattle.std.proofs.lemmas.List.{take_all}
use Rattle.std.proofs.Math.Pow.{pow_mono}
use Rattle.bfs_base.specs.Lists.{times}
use Rattle.bfs_disk.specs.State.{State, IsImage}
use Rattle.bfs_super.specs.declared.sup.Super.{Super}
use Rattle.bfs_super.specs.declared.geometry.Geometry.{Geometry}
use Rattle.bfs_super.specs.Conditions.{IsValid}
use Rattle.bfs_log.specs.Replay.{super_of, blocks_of}
use Rattle.bfs_tree.specs.Trees.{Tree}
use Rattle.bfs_tree.specs.declared.reply.Entry.{Entry}
use Rattle.bfs_tree.specs.Histories.{Mounted, after}
use Rattle.bfs_sound.specs.Volumes.{Volume}
use Rattle.bfs_sound.specs.Owners.{IsMetadata, fixed_blocks}
use Rattle.bfs_sound.specs.Whole.{IsSound, IsWhole, Recovers, volume_of}
use Rattle.bfs_sound.proofs.Carried.{metadata_stays, sound_stays, volume_is}
use Rattle.bfs_device.specs.Layouts.{layout_of}
use Rattle.bfs_device.specs.Books.{Books, IsOnDisk, RecoversOne, durable_of, sealed_of, used_of, version}
use Rattle.bfs_device.specs.Ahead.{IsSteady}
use Rattle.bfs_device.proofs.Forward.{know_of, order_of}
use Rattle.bfs_device.proofs.Stepping.{now_as}
use Rattle.bfs_core.specs.Spaces.{SpaceView}
use Rattle.bfs_core.specs.Cores.{Core, HasVersions, RecoversFrom, RecoversWithin, IsVersionMetadata, masked, newest_map, version_volume}
use Rattle.bfs_core.specs.Laws.{AreInOrder, IsReserved}
use Rattle.bfs_core.proofs.Givens.{held_reserved}
use Rattle.bfs_core.proofs.Masks.{masked_at, metadata_data}

pub some_bytes : (s : Super) → IsValid s → 0 < s.block_size
some_bytes s valid = let p : 2 ^ 10 ≤ 2 ^ s.block_shift = pow_mono valid.block_size.0 in let e = valid.block_size.2 in omega (arith, e, p)

module _ (t0 : Mounted) (history : List Entry) (b : Books) (t : ℕ → Bool) (st : State) (image : List ℕ) (steady : IsSteady b) (versions : HasVersions t0 history b t st) (one : RecoversOne b t st image) where
  abbrev tree : Tree
  tree = after t0 (take one.number history)

  abbrev result : List ℕ
  result = one.recovers.result

  sound : IsSound (version_volume b st one.number) (after t0 (take one.number history))
  sound = versions.sound one.number one.is_version

  pub same : (k : ℕ) → IsMetadata (version_volume b st one.number) tree k → times k (fixed_blocks (version_volume b st one.number)) ≡ 0 → blocks_of one.recovers.result k ≡ masked (layout_of b.sup) (version b st one.number) k
  same k meta apart =
      let is = metadata_data b.sup (used_of b one.number) (masked (layout_of b.sup) (version b st one.number)) tree sound k meta apart in
      one.recovers.agrees k is (versions.untouched one.number k one.is_version meta) ∙ sym (masked_at (layout_of b.sup) (version b st one.number) k is)

  result_sound : IsSound (volume_of (super_of one.recovers.result) (blocks_of one.recovers.result)) tree
  result_sound = subst (λ (g : Geometry). let v : Volume = record { geometry = g; blocks = blocks_of one.recovers.result } in IsSound v tree) (sym one.recovers.geometry)
      (sound_stays (version_volume b st one.number) (blocks_of one.recovers.result) tree sound (some_bytes b.sup steady.valid) same)

  -- what is metadata in the result is metadata in the version
  result_metadata : (k : ℕ) → IsMetadata (volume_of (super_of one.recovers.result) (blocks_of one.recovers.result)) tree k → IsVersionMetadata t0 history b st one.number k
  result_metadata k meta =
      (metadata_stays (version_volume b st one.number) (blocks_of one.recovers.result) tree sound (some_bytes b.sup steady.valid) same k).0
      (subst (λ (g : Geometry). let v : Volume = record { geometry = g; blocks = blocks_of one.recovers.result } in IsMetadata v tree k) one.recovers.geometry meta)

  pub result_whole : IsWhole one.recovers.result tree
  result_whole = record {
    valid = one.recovers.valid;
    whole = record { valid = volume_is one.recovers.result one.recovers.valid; emptied = one.recovers.emptied; sound = result_sound };
  }

  result_recovers : Recovers image tree
  result_recovers = record { result = one.recovers.result; replayed = one.recovers.replayed; whole = result_whole }

pub recovers_version : (t0 : Mounted) (history : List Entry) (b : Books) (t : ℕ → Bool) (st : State) (image : List ℕ) → IsSteady b → HasVersions t0 history b t st → RecoversOne b t st image → RecoversWithin t0 history (durable_of b) (sealed_of b) image
recovers_version t0 history b t st image steady versions one = (
  one.number,
  (order_of b steady).low one.number one.is_version,
  (order_of b steady).high one.number one.is_version,
  result_recovers t0 history b t st image steady versions one,
)

pub recovers_one : (t0 : Mounted) (sp : SpaceView) (b : Books) (t : ℕ → Bool) (st : State) (image : List ℕ) → Core t0 sp b t st → RecoversOne b t st image → RecoversWithin t0 sp.history (durable_of b) (sealed_of b) image
recovers_one t0 sp b t st image core one = recovers_version t0 sp.history b t st image core.steady core.versions one

-- the image is one of the versions
pub image_one : (t0 : Mounted) (sp : SpaceView) (b : Books) (t : ℕ → Bool) (st : State) (image : List ℕ) → Core t0 sp b t st → IsOnDisk (Some st.size) b.sup → IsImage st image → RecoversOne b t st image
image_one t0 sp b t st image core on is = now_as b.stop b (know_of b core.steady) t st on core.right image is

pub recovers_now : (t0 : Mounted) (sp : SpaceView) (b : Books) (t : ℕ → Bool) (st : State) (image : List ℕ) → Core t0 sp b t st → IsOnDisk (Some st.size) b.sup → IsImage st image → RecoversWithin t0 sp.history (durable_of b) (sealed_of b) image
recovers_now t0 sp b t st image core on is = recovers_one t0 sp b t st image core (image_one t0 sp b t st image core on is)

reserved_of : (t0 : Mounted) (sp : SpaceView) (b : Books) (t : ℕ → Bool) (st : State) (image : List ℕ) → Core t0 sp b t st → RecoversOne b t st image → IsReserved t0 sp (newest_map b st) image
reserved_of t0 sp b t st image core one = record {
  tree = after t0 (take one.number sp.history);
  recovers = record { result = one.recovers.result; replayed = one.recovers.replayed; whole = result_whole t0 sp.history b t st image core.steady core.versions one };
  blocks = λ k meta. ⊎_elim (λ now. inl now) (λ held. inr (held_reserved one.number sp.given k held))
      (core.guarded.metadata one.number k one.is_version (result_metadata t0 sp.history b t st image core.steady core.versions one k meta));
  unmarked = core.space.unmarked;
}

pub reserved_now : (t0 : Mounted) (sp : SpaceView) (b : Books) (t : ℕ → Bool) (st : State) (image : List ℕ) → Core t0 sp b t st → IsOnDisk (Some st.size) b.sup → IsImage st image → IsReserved t0 sp (newest_map b st) image
reserved_now t0 sp b t st image core on is = reserved_of t0 sp b t st image core (image_one t0 sp b t st image core on is)

pub numbers_of : (t0 : Mounted) (sp : SpaceView) (b : Books) (t : ℕ → Bool) (st : State) → Core t0 sp b t st → AreInOrder sp b
numbers_of t0 sp b t st core = record {
  left = (order_of b core.steady).left;
  durable = (order_of b core.steady).low (sealed_of b) (order_of b core.steady).newest;
  sealed = core.one.sealed;
  history = core.space.covered;
}

-- of so many entries at least
pub from_within : (t0 : Mounted) (history : List Entry) (low high : ℕ) (image : List ℕ) → high ≤ length history → RecoversWithin t0 history low high image → RecoversFrom t0 history low image
from_within t0 history low high image le within = (within.0, within.1, (let upto = within.2 in omega (arith, upto, le)), within.3)

pub recovers_from : (t0 : Mounted) (sp : SpaceView) (b : Books) (t : ℕ → Bool) (st : State) (image : List ℕ) → Core t0 sp b t st → RecoversOne b t st image → RecoversFrom t0 sp.history (durable_of b) image
recovers_from t0 sp b t st image core one =
    from_within t0 sp.history (durable_of b) (sealed_of b) image (omega (arith, core.one.sealed, core.space.covered)) (recovers_one t0 sp b t st image core one)

pub recovers_all : (t0 : Mounted) (history : List Entry) (image : List ℕ) → RecoversFrom t0 history (length history) image → Recovers image (after t0 history)
recovers_all t0 history image from = subst (λ (h : List Entry). Recovers image (after t0 h)) (take_all from.0 history from.1) from.3
