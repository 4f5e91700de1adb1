-- Core over a write of one block of a file's data.
use Rattle.std.proofs.Common.{◌≡◌, ◌≢◌, ◌↔◌, inl, inr, ⊎_elim, ◌<◌, ℕ, List, [], ◌∷◌, take, Bool, true, false, cond, ◌==◌, Option, Some, None, unwrap_or, refl, sym, ap, subst, arith}
use Rattle.std.proofs.lemmas.Bool.{eqb-true, or_cases, or_from}
use Rattle.bfs_base.specs.Lists.{times}
use Rattle.bfs_disk.specs.State.{State}
use Rattle.bfs_txn.specs.Changed.{newest, or_else}
use Rattle.bfs_txn.specs.declared.group.Group.{Group}
use Rattle.bfs_tree.specs.Histories.{Mounted, after}
use Rattle.bfs_sound.specs.Volumes.{IsMarked}
use Rattle.bfs_sound.specs.Owners.{IsMetadata, fixed_blocks}
use Rattle.bfs_sound.proofs.Carried.{sound_stays, metadata_stays, bits_stay}
use Rattle.bfs_device.specs.declared.journal.Stop.{Stop}
use Rattle.bfs_device.specs.Layouts.{Layout, IsData, layout_of, is_data}
use Rattle.bfs_device.specs.Data.{newest_in, touching, AreSameBut}
use Rattle.bfs_device.specs.Books.{Books, IsRight, IsVersion, RecoversOne, durable_of, sealed_of, version}
use Rattle.bfs_device.specs.Ahead.{IsGroupOf}
use Rattle.bfs_device.proofs.Forward.{order_of}
use Rattle.bfs_core.specs.Spaces.{SpaceView, IsSoundOver, IsFaceData, IsFaceMetadata, IsHeld, face, face_over}
use Rattle.bfs_core.specs.Cores.{Core, HasVersions, IsVersionMetadata, RecoversFrom, masked, newest_map, version_volume}
use Rattle.bfs_core.proofs.Masks.{data_of, data_when}
use Rattle.bfs_core.proofs.Givens.{held_reserved}
use Rattle.bfs_core.proofs.Images.{from_within, recovers_version, some_bytes}
use Rattle.bfs_core.proofs.Onward.{above_left, same_layout, same_size}
use Rattle.bfs_core.proofs.Files.{file_apart, marked_file}

-- what a space keeps over a map it keeps over another that agrees at the metadata of Face
module _ (t0 : Mounted) (sp : SpaceView) (m n : ℕ → Option (List ℕ)) (fits : IsSoundOver t0 sp m) (some : 0 < sp.sup.block_size)
    (same : (k : ℕ) → IsMetadata (face sp m) (after t0 sp.history) k → times k (fixed_blocks (face sp m)) ≡ 0 → face_over sp.group n k ≡ face_over sp.group m k) where
  pub face_metadata : (k : ℕ) → IsMetadata (face sp n) (after t0 sp.history) k ↔ IsMetadata (face sp m) (after t0 sp.history) k
  face_metadata k = metadata_stays (face sp m) (face_over sp.group n) (after t0 sp.history) fits.sound some same k

  pub face_bits : (k : ℕ) → IsMarked (face sp n) k ↔ IsMarked (face sp m) k
  face_bits k = bits_stay (face sp m) (face_over sp.group n) (after t0 sp.history) fits.sound some same k

  pub fits_stay : IsSoundOver t0 sp n
  fits_stay = record {
    legal = fits.legal;
    sound = sound_stays (face sp m) (face_over sp.group n) (after t0 sp.history) fits.sound some same;
    unmarked = λ k is marked. fits.unmarked k is ((face_bits k).0 marked);
    own = λ k has. ⊎_elim (λ meta. inl ((face_metadata k).1 meta)) (λ fresh. inr fresh) (fits.own k has);
    sized = fits.sized;
    covered = fits.covered;
  }

-- no group of these has a block that none of them has
none_in : (gs : List Group) (block : ℕ) → ((g : Group) → IsGroupOf g gs → newest g.blocks block ≢ None → ⊥) → newest_in gs block ≡ None
none_in [] block lacks = refl
none_in (g ∷ gs) block lacks = by_first (newest_in gs block) (newest g.blocks block) (none_in gs block (λ x is. lacks x (inr is))) (lacks g (inl refl))
  where
    by_first : (a o : Option (List ℕ)) → a ≡ None → (o ≢ None → ⊥) → or_else a o ≡ None
    by_first (Some x) o is some = absurd (cc)
    by_first None (Some x) is some = absurd (some (λ e. cc))
    by_first None None is some = refl

pub no_group : (b : Books) (block : ℕ) → ((g : Group) → IsGroupOf g b.groups → newest g.blocks block ≢ None → ⊥) → newest_in b.groups block ≡ None
no_group b block lacks = none_in b.groups block lacks

-- a block but this one is touched just where it was
pub not_touched : (k block : ℕ) (t : ℕ → Bool) → (k ≡ block → ⊥) → t k ≡ false → touching block t k ≡ false
not_touched k block t other clear = or_from (k == block) (t k) (by_test (k == block) refl) clear
  where
    by_test : (d : Bool) → (k == block) ≡ d → (k == block) ≡ false
    by_test true e = absurd (other (eqb-true k block e))
    by_test false e = e

module _ (t0 : Mounted) (sp : SpaceView) (b : Books) (t : ℕ → Bool) (st : State) (core : Core t0 sp b t st) (block : ℕ) (file : IsFaceData t0 sp (newest_map b st) block) where
  free : (n : ℕ) → IsHeld n sp.given block → ⊥
  free n held = core.space.unmarked block (held_reserved n sp.given block held) file.0

  -- no group has it, which a device asks of a data write
  pub piece_apart : newest_in b.groups block ≡ None
  piece_apart = no_group b block (λ g is has. ⊎_elim file.1 (λ held. free b.left (held b.left (above_left (layout_of b.sup) b.sup.block_size b.left _ g b.groups core.steady.follow is))) (core.guarded.groups g block is has))

  -- it is neither block 0 nor of the log
  pub piece_is_data : IsData (layout_of b.sup) block
  piece_is_data =
      let some = marked_file (face sp (newest_map b st)) (after t0 sp.history) core.space.sound block file.0 file.1 in
      subst (λ (l : Layout). IsData l block) (sym (same_layout sp.sup b.sup core.one.geometry)) (data_when sp.sup block file.0.0 sp.used (file_apart (face sp (newest_map b st)) (after t0 sp.history) core.space.sound block some))

  -- and it is metadata of no version
  pub piece_harmless : (n : ℕ) → IsVersion b n → IsVersionMetadata t0 sp.history b st n block → ⊥
  piece_harmless n is meta = ⊎_elim file.1 (free n) (core.guarded.metadata n block is meta)

  untouched_still : (n k : ℕ) → IsVersion b n → IsVersionMetadata t0 sp.history b st n k → touching block t k ≡ false
  untouched_still n k is meta =
      not_touched k block t (λ e. piece_harmless n is (subst (IsMetadata (version_volume b st n) (after t0 (take n sp.history))) e meta)) (core.versions.untouched n k is meta)

  -- so that a crash in the write leaves what recovers
  pub piece_recovers : (image : List ℕ) → RecoversOne b (touching block t) st image → RecoversFrom t0 sp.history (durable_of b) image
  piece_recovers image one =
      let versions : HasVersions t0 sp.history b (touching block t) st = record { sound = core.versions.sound; untouched = untouched_still } in
      from_within t0 sp.history (durable_of b) (sealed_of b) image (omega (arith, core.one.sealed, core.space.covered)) (recovers_version t0 sp.history b (touching block t) st image core.steady versions one)

  module _ (moment : ℕ) (stop : Option Stop) (st' : State) (same : (let new : Books = record b { moment = moment; stop = stop } in AreSameBut block b st new st')) where
    abbrev new : Books
    new = record b { moment = moment; stop = stop }

    pub some : 0 < sp.sup.block_size
    some = subst (λ (n : ℕ). 0 < n) (same_size sp.sup b.sup core.one.geometry) (some_bytes b.sup core.steady.valid)

    pub map_at : (k : ℕ) → k ≢ block → newest_map new st' k ≡ newest_map b st k
    map_at k other = by_test (is_data (layout_of b.sup) k) refl
      where
        by_test : (d : Bool) → is_data (layout_of b.sup) k ≡ d → cond d (Some (version new st' (sealed_of b) k)) None ≡ cond d (Some (version b st (sealed_of b) k)) None
        by_test true is = ap Some (same (sealed_of b) (order_of b core.steady).newest k (data_of (layout_of b.sup) k is) other)
        by_test false is = refl

    pub face_same : (k : ℕ) → IsFaceMetadata t0 sp (newest_map b st) k → times k (fixed_blocks (face sp (newest_map b st))) ≡ 0 → face_over sp.group (newest_map new st') k ≡ face_over sp.group (newest_map b st) k
    face_same k meta fixed = ap (λ (o : Option (List ℕ)). unwrap_or (or_else (newest sp.group k) o) []) (map_at k (λ e. file.1 (subst (IsMetadata (face sp (newest_map b st)) (after t0 sp.history)) e meta)))

    to_face : (k : ℕ) → IsFaceMetadata t0 sp (newest_map new st') k ↔ IsFaceMetadata t0 sp (newest_map b st) k
    to_face k = face_metadata t0 sp (newest_map b st) (newest_map new st') core.space some face_same k

    to_bits : (k : ℕ) → IsMarked (face sp (newest_map new st')) k ↔ IsMarked (face sp (newest_map b st)) k
    to_bits k = face_bits t0 sp (newest_map b st) (newest_map new st') core.space some face_same k

    version_at : (n k : ℕ) → IsVersion b n → k ≢ block → masked (layout_of b.sup) (version new st' n) k ≡ masked (layout_of b.sup) (version b st n) k
    version_at n k is other = by_test (is_data (layout_of b.sup) k) refl
      where
        by_test : (d : Bool) → is_data (layout_of b.sup) k ≡ d → cond d (version new st' n k) [] ≡ cond d (version b st n k) []
        by_test true d = same n is k (data_of (layout_of b.sup) k d) other
        by_test false d = refl

    pub version_same : (n : ℕ) → IsVersion b n → (k : ℕ) → IsVersionMetadata t0 sp.history b st n k → times k (fixed_blocks (version_volume b st n)) ≡ 0 → masked (layout_of b.sup) (version new st' n) k ≡ masked (layout_of b.sup) (version b st n) k
    version_same n is k meta fixed = version_at n k is (λ e. piece_harmless n is (subst (IsMetadata (version_volume b st n) (after t0 (take n sp.history))) e meta))

    to_version : (n : ℕ) → IsVersion b n → (k : ℕ) → IsVersionMetadata t0 sp.history new st' n k ↔ IsVersionMetadata t0 sp.history b st n k
    to_version n is k = metadata_stays (version_volume b st n) (masked (layout_of b.sup) (version new st' n)) (after t0 (take n sp.history)) (core.versions.sound n is) (some_bytes b.sup core.steady.valid) (version_same n is) k

    pub file_still : (k : ℕ) → IsFaceData t0 sp (newest_map b st) k → IsFaceData t0 sp (newest_map new st') k
    file_still k is = ((to_bits k).1 is.0, (λ meta. is.1 ((to_face k).0 meta)))

    piece_core : (stop ≡ None → b.stop ≡ None) → IsRight new (touching block t) st' → Core t0 sp new (touching block t) st'
    piece_core stops right = record {
      space = fits_stay t0 sp (newest_map b st) (newest_map new st') core.space some face_same;
      steady = record { valid = core.steady.valid; empty = core.steady.empty; follow = core.steady.follow; phase = core.steady.phase };
      right = right;
      one = record {
        geometry = core.one.geometry;
        sealed = core.one.sealed;
        sealed_used = core.one.sealed_used;
        idle = core.one.idle;
        known = λ k d lt. ((core.one.known k d lt).0, (λ none. (core.one.known k d lt).1 (stops none)));
      };
      versions = record {
        sound = λ n is. sound_stays (version_volume b st n) (masked (layout_of b.sup) (version new st' n)) (after t0 (take n sp.history)) (core.versions.sound n is) (some_bytes b.sup core.steady.valid) (version_same n is);
        untouched = λ n k is meta. untouched_still n k is ((to_version n is k).0 meta);
      };
      guarded = record {
        metadata = λ n k is meta. ⊎_elim (λ still. inl ((to_face k).1 still)) (λ held. inr held) (core.guarded.metadata n k is ((to_version n is k).0 meta));
        groups = λ g k is has. ⊎_elim (λ still. inl ((to_face k).1 still)) (λ held. inr held) (core.guarded.groups g k is has);
        files = λ k is. ⊎_elim
            (λ here. let e : block ≡ k = sym (eqb-true k block here) in inl (file_still k (subst (IsFaceData t0 sp (newest_map b st)) e file)))
            (λ before. ⊎_elim (λ old. inl (file_still k old)) (λ held. inr held) (core.guarded.files k before))
            (or_cases (k == block) (t k) is);
      };
    }

pub piece_kept : (t0 : Mounted) (sp : SpaceView) (b new : Books) (t : ℕ → Bool) (st st' : State) (block : ℕ) → Core t0 sp b t st → IsFaceData t0 sp (newest_map b st) block
    → new ≡ record b { moment = new.moment; stop = new.stop } → (new.stop ≡ None → b.stop ≡ None) → IsRight new (touching block t) st' → AreSameBut block b st new st' → Core t0 sp new (touching block t) st'
piece_kept t0 sp b new t st st' block core file rested stops right same =
    subst (λ (x : Books). Core t0 sp x (touching block t) st') (sym rested)
    (piece_core t0 sp b t st core block file new.moment new.stop st' (subst (λ (x : Books). AreSameBut block b st x st') rested same) stops (subst (λ (x : Books). IsRight x (touching block t) st') rested right))
