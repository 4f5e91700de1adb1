-- A space and a device of a volume that was just mounted.
use Rattle.std.proofs.Common.{◌≡◌, ◌<◌, ◌+◌, ◌*◌, ◌/◌, inl, inr, ℕ, List, length, Option, Some, None, IfSome, refl, sym, ap, subst, arith}
use Rattle.std.specs.FinMap.{empty}
use Rattle.bfs_mount.proofs.Bare.{bare_bytes}
use Rattle.bfs_mount.proofs.Mounting.{whole_recovers}
use Rattle.bfs_log.proofs.Replays.{replayed_empty}
use Rattle.std.proofs.lemmas.Bool.{cond-true}
use Rattle.std.proofs.lemmas.Nat.{div-mul-add}
use Rattle.bfs_disk.specs.State.{State, Filled}
use Rattle.bfs_super.specs.declared.sup.Super.{Super}
use Rattle.bfs_super.specs.Conditions.{IsValid, ceil, natural}
use Rattle.bfs_log.proofs.Bounds.{group_low}
use Rattle.bfs_bitmap.specs.Runs.{Fits}
use Rattle.bfs_tree.specs.Histories.{Mounted}
use Rattle.bfs_device.specs.Layouts.{IsData, is_data, layout_of}
use Rattle.bfs_device.specs.Phases.{none}
use Rattle.bfs_device.specs.Books.{Books, IsOnDisk, sealed_of, version}
use Rattle.bfs_device.specs.Seals.{adopted}
use Rattle.bfs_device.specs.Ahead.{IsSteady}
use Rattle.bfs_device.proofs.Stepping.{filled_state, on_state}
use Rattle.bfs_shift.proofs.Basics.{some_bytes}
use Rattle.bfs_core.specs.Spaces.{opened}
use Rattle.bfs_core.specs.Cores.{Core, newest_map}
use Rattle.bfs_core.specs.KnownBytes.{HasKnown}
use Rattle.bfs_core.proofs.Knowing.{known_opened}
use Rattle.bfs_core.proofs.Masks.{of_data}
use Rattle.bfs_core.proofs.Openings.{core_mounted}
use Rattle.bfs_core.proofs.Wholes.{newest_is_sized}
use Rattle.bfs_file_io.specs.Books.{first_room, fresh}
use Rattle.bfs_mount.specs.Mounts.{IsHeldWhole}
use Rattle.bfs_file_io.specs.Volumes.{AreFitted, AreJoined, Stands}

-- a block of the bitmap is one of data
bitmap_data : (s : Super) (j : ℕ) → IsValid s → 8 * s.block_size * j < natural s.num_blocks → IsData (layout_of s) (1 + j)
bitmap_data s j valid low =
    let some = some_bytes s valid in
    let size : ℕ = s.block_size * 8 in
    let at : j * (s.block_size * 8) + 0 < natural s.num_blocks = omega (arith, low) in
    let back : (j * (s.block_size * 8) + 0) / (s.block_size * 8) ≡ j = div-mul-add j (s.block_size * 8) 0 (omega (arith, some)) in
    let inside : j < ceil (natural s.num_blocks) (s.block_size * 8) = subst (λ (q : ℕ). q < ceil (natural s.num_blocks) (s.block_size * 8)) back (group_low (j * (s.block_size * 8) + 0) (natural s.num_blocks) (s.block_size * 8) (omega (arith, some)) at) in
    let before = valid.log.3 in
    let end = valid.log.4 in
    (omega arith, omega (arith, inside, before, end), inl (omega (arith, inside, before)))

-- what a device tells of it has a block's bytes
sized_some : (o : Option (List ℕ)) (x : List ℕ) (n : ℕ) → o ≡ Some x → IfSome o (λ bytes. length bytes ≡ n) → length x ≡ n
sized_some o x n is sized = subst (λ (p : Option (List ℕ)). IfSome p (λ bytes. length bytes ≡ n)) is sized

fits_first : (s : Super) (st : State) → IsSteady (adopted s) → Filled st → IsOnDisk (Some st.size) s → Fits (first_room s) (newest_map (adopted s) st)
fits_first s st steady filled on = record {
  has = record {
    told = λ j low.
        let place : IsData (layout_of s) (1 + j) = bitmap_data s j steady.valid low in
        let b : Books = adopted s in
        let is : newest_map (adopted s) st (1 + j) ≡ Some (version (adopted s) st (sealed_of (adopted s)) (1 + j)) =
        cond-true (is_data (layout_of s) (1 + j)) (Some (version (adopted s) st (sealed_of (adopted s)) (1 + j))) None (of_data (layout_of s) (1 + j) place) in
        (version (adopted s) st (sealed_of (adopted s)) (1 + j), is, sized_some (newest_map (adopted s) st (1 + j)) (version (adopted s) st (sealed_of (adopted s)) (1 + j)) s.block_size is (newest_is_sized (adopted s) st steady filled on (1 + j)));
  };
  nothing_below = λ k lt. absurd (omega (arith, lt));
  no_wide = λ g lt. absurd (omega (arith, lt));
}

fitted_first : (s : Super) → AreFitted (opened s) (adopted s)
fitted_first s = record { geometry = λ used. refl; sealed = refl; sealed_used = refl; idle = λ e. refl; going = λ e. refl; reached = λ k d lt. absurd (omega (arith, lt)); waits = inr (refl, refl) }

-- they are joined, where the disk holds what replay gives of an image that recovers
module _ (told : Option State) (size : Option ℕ) (s : Super) (nodes : ℕ) (whole : IsHeldWhole s nodes told)
    (filled : IfSome told Filled) (sized : IfSome told (λ x. size ≡ Some x.size)) (on : IsOnDisk size s) (steady : IsSteady (adopted s)) where
  stands_first : (st : State) → told ≡ Some st → Stands (fresh s nodes) (adopted s) st
  stands_first st is =
      let h = whole st is in
      let t0 : Mounted = record { tree = h.1; bytes = empty } in
      let full = filled_state told st filled is in
      let here : IsOnDisk (Some st.size) s = on_state s size told st sized on is in
      let replayed = replayed_empty h.0 h.3.valid (ap natural h.3.whole.emptied) in
      record {
        t0 = t0;
        touched = none;
        core = subst (λ (x : Super). Core t0 (opened x) (adopted x) none st) (sym h.4) (core_mounted t0 h.0 h.0 st (whole_recovers h.0 h.1 h.3) replayed h.2 full (subst (λ (x : Super). IsOnDisk (Some st.size) x) h.4 here));
        known = subst (λ (x : Super). HasKnown t0 (opened x) (adopted x) st) (sym h.4) (known_opened t0 h.0 st h.3 h.2 full (subst (λ (x : Super). IsOnDisk (Some st.size) x) h.4 here) (bare_bytes h.0 h.1));
        fits = fits_first s st steady full here;
        counted = h.5;
      }

  pub joined_first : AreJoined (fresh s nodes) (adopted s) told
  joined_first = record { fitted = fitted_first s; stands = stands_first }
