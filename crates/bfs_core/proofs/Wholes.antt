-- Face is whole, and what a device tells has a block's length.
use Rattle.std.proofs.Common.{◌≡◌, ◌<◌, ℕ, List, [], length, Bool, true, false, cond, Option, Some, None, IfSome, unwrap_or, refl, sym, ◌∙◌, ap, subst, arith}
use Rattle.std.proofs.lemmas.Bool.{cond-true}
use Rattle.bfs_base.specs.Lists.{times}
use Rattle.bfs_disk.specs.State.{State, Filled}
use Rattle.bfs_disk.proofs.Joined.{contents_read}
use Rattle.bfs_super.specs.declared.geometry.Geometry.{Geometry}
use Rattle.bfs_super.specs.Conditions.{natural, IsValid}
use Rattle.bfs_txn.specs.Changed.{newest, or_else}
use Rattle.bfs_txn.specs.Laws.{newest_sized}
use Rattle.bfs_tree.specs.Histories.{Mounted, after}
use Rattle.bfs_sound.specs.Volumes.{Volume}
use Rattle.bfs_sound.specs.Owners.{fixed_blocks}
use Rattle.bfs_sound.specs.Whole.{IsSound, Whole}
use Rattle.bfs_sound.proofs.Carried.{sound_stays}
use Rattle.bfs_device.specs.Layouts.{Layout, layout_of, IsData, is_data}
use Rattle.bfs_device.specs.Data.{newest_in}
use Rattle.bfs_device.specs.Books.{Books, IsOnDisk, sealed_of, version}
use Rattle.bfs_device.specs.Ahead.{IsSteady}
use Rattle.bfs_device.proofs.Forward.{know_of}
use Rattle.bfs_device.proofs.Reading.{newest_sealed, newest_read, newest_long}
use Rattle.bfs_device.proofs.Sizes.{sizes, fits_sectors}
use Rattle.bfs_core.specs.Spaces.{SpaceView, IsFaceMetadata, face}
use Rattle.bfs_core.specs.Cores.{Core, face_blocks, face_super, newest_map}
use Rattle.bfs_core.proofs.Images.{some_bytes}
use Rattle.bfs_core.proofs.Masks.{data_of, metadata_data, of_data}
use Rattle.bfs_core.proofs.Onward.{same_layout, same_size}

version_long : (b : Books) (st : State) (k : ℕ) → IsSteady b → Filled st → IsOnDisk (Some st.size) b.sup → k < (layout_of b.sup).blocks → length (version b st (sealed_of b) k) ≡ b.sup.block_size
version_long b st k steady filled on inside = by_newest (newest_in b.groups k) refl
  where
    by_newest : (o : Option (List ℕ)) → newest_in b.groups k ≡ o → length (version b st (sealed_of b) k) ≡ b.sup.block_size
    by_newest (Some bytes) is = ap length (sym (newest_sealed b st k bytes (know_of b steady) is)) ∙ newest_long b k bytes (know_of b steady) is
    by_newest None is =
        let fits = fits_sectors b.sup steady.valid k inside in
        ap length (sym (newest_read b st k (know_of b steady) is)) ∙ (contents_read st (layout_of b.sup).sectors k filled (omega (arith, fits, on))).long ∙ sym (sizes b.sup steady.valid).0

pub newest_is_sized : (b : Books) (st : State) → IsSteady b → Filled st → IsOnDisk (Some st.size) b.sup → (k : ℕ) → IfSome (newest_map b st k) (λ bytes. length bytes ≡ b.sup.block_size)
newest_is_sized b st steady filled on k = by_test (is_data (layout_of b.sup) k) refl
  where
    by_test : (d : Bool) → is_data (layout_of b.sup) k ≡ d → IfSome (cond d (Some (version b st (sealed_of b) k)) None) (λ bytes. length bytes ≡ b.sup.block_size)
    by_test true is = version_long b st k steady filled on (data_of (layout_of b.sup) k is).1
    by_test false is = tt

module _ (t0 : Mounted) (sp : SpaceView) (b : Books) (t : ℕ → Bool) (st : State) (core : Core t0 sp b t st) (filled : Filled st) (on : IsOnDisk (Some st.size) b.sup) where
  face_valid : IsValid (face_super sp b)
  face_valid = record {
    magic1 = core.steady.valid.magic1;
    magic2 = core.steady.valid.magic2;
    magic3 = core.steady.valid.magic3;
    order = core.steady.valid.order;
    block_size = core.steady.valid.block_size;
    inode_size = core.steady.valid.inode_size;
    length = core.steady.valid.length;
    groups = core.steady.valid.groups;
    log = core.steady.valid.log;
    log_start = core.steady.valid.log_start;
    log_end = core.steady.valid.log_start;
    root = core.steady.valid.root;
    indices = core.steady.valid.indices;
  }

  block_long : (k : ℕ) → k < natural b.sup.num_blocks → length (face_blocks sp b st k) ≡ b.sup.block_size
  block_long k inside = by_group (newest sp.group k) (newest_sized sp.sup.block_size sp.group k core.space.sized)
    where
      by_group : (o : Option (List ℕ)) → IfSome o (λ bytes. length bytes ≡ sp.sup.block_size) → length (unwrap_or o (version b st (sealed_of b) k)) ≡ b.sup.block_size
      by_group (Some bytes) long = long ∙ sym (same_size sp.sup b.sup core.one.geometry)
      by_group None nothing = version_long b st k core.steady filled on inside

  -- they are Face's at data
  block_is : (k : ℕ) → IsData (layout_of b.sup) k → face_blocks sp b st k ≡ (face sp (newest_map b st)).blocks k
  block_is k d = by_group (newest sp.group k) ∙ ap (λ (o : Option (List ℕ)). unwrap_or (or_else (newest sp.group k) o) []) (sym (cond-true (is_data (layout_of b.sup) k) (Some (version b st (sealed_of b) k)) None (of_data (layout_of b.sup) k d)))
    where
      by_group : (o : Option (List ℕ)) → unwrap_or o (version b st (sealed_of b) k) ≡ unwrap_or (or_else o (Some (version b st (sealed_of b) k))) []
      by_group (Some bytes) = refl
      by_group None = refl

  same : (k : ℕ) → IsFaceMetadata t0 sp (newest_map b st) k → times k (fixed_blocks (face sp (newest_map b st))) ≡ 0 → face_blocks sp b st k ≡ (face sp (newest_map b st)).blocks k
  same k meta apart = block_is k (subst (λ (l : Layout). IsData l k) (sym (same_layout sp.sup b.sup core.one.geometry))
      (metadata_data sp.sup sp.used (face sp (newest_map b st)).blocks (after t0 sp.history) core.space.sound k meta apart))

  some : 0 < sp.sup.block_size
  some = subst (λ (n : ℕ). 0 < n) (same_size sp.sup b.sup core.one.geometry) (some_bytes b.sup core.steady.valid)

  pub face_whole : Whole (face_super sp b) (face_blocks sp b st) (after t0 sp.history)
  face_whole = record {
    valid = record { super = face_valid; long = block_long };
    emptied = refl;
    sound = subst (λ (g : Geometry). let v : Volume = record { geometry = g; blocks = face_blocks sp b st } in IsSound v (after t0 sp.history)) (sym (core.one.geometry sp.used))
        (sound_stays (face sp (newest_map b st)) (face_blocks sp b st) (after t0 sp.history) core.space.sound some same);
  }
