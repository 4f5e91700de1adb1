-- A seal of a space and a device that fit one story.
use Rattle.std.proofs.Common.{◌≡◌, ◌≢◌, ◌⊎◌, inl, inr, ⊎_elim, ◌<◌, ◌≤◌, ℕ, List, [], ◌∷◌, length, map, Bool, true, false, Option, Some, None, unwrap_or, refl, sym, ◌∙◌, ap, subst, arith}
use Rattle.bfs_base.specs.Lists.{times}
use Rattle.bfs_disk.specs.State.{State}
use Rattle.bfs_bitmap.specs.Givens.{numbered}
use Rattle.bfs_txn.specs.Changed.{newest, or_else}
use Rattle.bfs_txn.specs.declared.group.Group.{Group}
use Rattle.bfs_super.specs.declared.geometry.Geometry.{Geometry}
use Rattle.bfs_sound.specs.Volumes.{log_blocks, IsMarked}
use Rattle.bfs_device.specs.Layouts.{layout_of, IsData, is_data}
use Rattle.bfs_device.specs.Books.{Books, IsVersion, IsNext, sealed_of, used_of, version}
use Rattle.bfs_device.specs.Seals.{last_used, sealed_with}
use Rattle.bfs_device.specs.Ahead.{IsGroupOf, geometry_with}
use Rattle.bfs_device.proofs.Forward.{know_of, order_of, sealed_only, sealed_groups, sealed_durable}
use Rattle.bfs_device.proofs.Sealing.{older_version, newest_version, older_used, newest_used, sealed_last, sealed_right}
use Rattle.bfs_core.specs.Spaces.{SpaceView, IsGroupFor, IsHeld, sealed_space}
use Rattle.bfs_core.specs.Cores.{Core}
use Rattle.bfs_core.specs.Stories.{IsPair, Words, Story, SpaceFits, DeviceFits, IsSetFrom, IsMetadataIn, StaysTo, end_of}
use Rattle.bfs_core.proofs.Givens.{held_reserved, held_numbered, reserved_numbered}
use Rattle.bfs_core.proofs.Masks.{data_apart, over_pairs}
use Rattle.bfs_core.proofs.Seals.{may_seal}
use Rattle.bfs_core.proofs.Steady.{sealed_steady}
use Rattle.bfs_core.proofs.Together.{pair_is_core}

end_or : (n m : ℕ) → n ≤ m → (n < m) ⊎ (n ≡ m)
end_or n m le = grind (arith, le)

module _ (y : Story) (w : Words) (sp : SpaceView) (b : Books) (t : ℕ → Bool) (st : State) (g : Group) (pair : IsPair y w sp b t st) (group : IsGroupFor sp g) where
  abbrev u : Words
  u = record w { sealed = end_of y }

  abbrev new : Books
  new = sealed_with b g

  core : Core y.t0 sp b t st
  core = pair_is_core y w sp b t st pair.story pair.space pair.device

  next : IsNext (layout_of b.sup) b.sup.block_size (sealed_of b) (last_used b) g
  next = may_seal y.t0 sp b t st g core group

  top : length sp.history ≡ end_of y
  top = ap length pair.space.history

  -- ---- the space

  stays_end : (n k : ℕ) → n ≡ end_of y → IsMarked (y.faces n) k → StaysTo y n k
  stays_end n k here is = record {
    marked = subst (λ (i : ℕ). IsMarked (y.faces i) k) here is;
    metadata = ((λ meta. subst (λ (i : ℕ). IsMetadataIn y i k) here meta), (λ meta. subst (λ (i : ℕ). IsMetadataIn y i k) (sym here) meta));
  }

  held_on : (n k : ℕ) → n < end_of y → IsHeld n sp.given k → IsHeld n (map (numbered (length sp.history)) sp.given) k
  held_on n k lt held = let e = top in held_numbered n (length sp.history) sp.given k (omega (arith, lt, e)) held

  blocks_on : (n k : ℕ) → w.left ≤ n → n ≤ end_of y → IsMarked (y.faces n) k → StaysTo y n k ⊎ IsHeld n (map (numbered (length sp.history)) sp.given) k
  blocks_on n k low le is = ⊎_elim
      (λ early. ⊎_elim (λ still. inl still) (λ held. inr (held_on n k early held)) (pair.space.given.blocks n k low le is))
      (λ here. inl (stays_end n k here is))
      (end_or n (end_of y) le)

  sealed_space_fits : SpaceFits y u (sealed_space sp)
  sealed_space_fits = record {
    valid = pair.space.valid;
    history = pair.space.history;
    sealed = top;
    covered = omega arith;
    geometry = pair.space.geometry;
    ends = pair.space.geometry;
    idle = λ none. refl;
    sized = λ i lt. absurd (omega (arith, lt));
    group = record {
      exact = λ k. ((λ has. absurd (has refl)), (λ since. absurd (let lt = since.1 in let le = since.2 in omega (arith, lt, le))));
      changed = λ k bytes meta is. absurd (cc);
      rest = λ k meta none. (meta, (λ fixed. refl));
    };
    given = record {
      unmarked = λ k is. pair.space.given.unmarked k (sym (reserved_numbered (length sp.history) sp.given k) ∙ is);
      blocks = blocks_on;
      sets = λ i k low le is. ⊎_elim (λ meta. inl meta) (λ held. inr (λ n lt. held_on n k (omega (arith, lt, le)) (held n lt))) (pair.space.given.sets i k low le is);
      own = λ k has. absurd (has refl);
    };
  }

  -- ---- the device

  geometry_at : (n : ℕ) → IsVersion b n ⊎ (n ≡ g.last) → (y.faces n).geometry ≡ geometry_with b.sup (used_of new n)
  geometry_at n is = ⊎_elim
      (λ old. pair.device.versions.geometry n old ∙ ap (geometry_with b.sup) (sym (older_used b g (know_of b core.steady) next n old)))
      (λ last. ap (λ (i : ℕ). (y.faces i).geometry) (last ∙ group.last ∙ top) ∙ pair.space.geometry ∙ sym (pair.device.volume sp.used)
      ∙ ap (geometry_with b.sup) (sym (ap (used_of new) last ∙ newest_used b g (know_of b core.steady) next ∙ group.used)))
      is

  -- what the newest version reads is the last volume's
  newest_at : (k : ℕ) → IsMetadataIn y (end_of y) k → IsData (layout_of b.sup) k → version new st g.last k ≡ (y.faces (end_of y)).blocks k
  newest_at k meta is_data =
      newest_version b g (know_of b core.steady) next st k
      ∙ over_pairs g.blocks (version b st (sealed_of b)) k
      ∙ ap (λ (ps : List (ℕ × List ℕ)). unwrap_or (or_else (newest ps k) (Some (version b st (sealed_of b) k))) []) group.blocks
      ∙ by_group (newest sp.group k) refl
    where
      by_group : (o : Option (List ℕ)) → newest sp.group k ≡ o → unwrap_or (or_else o (Some (version b st (sealed_of b) k))) [] ≡ (y.faces (end_of y)).blocks k
      by_group (Some bytes) is = pair.space.group.changed k bytes meta is
      by_group None is =
          let before = pair.space.group.rest k meta is in
          pair.device.versions.reads (sealed_of b) k (order_of b core.steady).newest (subst (λ (n : ℕ). IsMetadataIn y n k) (sym pair.device.sealed) before.0) is_data
          ∙ ap (λ (n : ℕ). (y.faces n).blocks k) pair.device.sealed
          ∙ before.1 (subst (λ (g : Geometry). times k (0 ∷ log_blocks g) ≡ 0) (pair.device.volume sp.used ∙ sym pair.space.geometry) (data_apart b.sup sp.used k is_data))

  reads_at : (n k : ℕ) → IsVersion b n ⊎ (n ≡ g.last) → IsMetadataIn y n k → IsData (layout_of b.sup) k → version new st n k ≡ (y.faces n).blocks k
  reads_at n k is meta is_data = ⊎_elim
      (λ old. older_version b g (know_of b core.steady) next st n k old ∙ pair.device.versions.reads n k old meta is_data)
      (λ last.
      let here : n ≡ end_of y = last ∙ group.last ∙ top in
      ap (λ (i : ℕ). version new st i k) last ∙ newest_at k (subst (λ (i : ℕ). IsMetadataIn y i k) here meta) is_data ∙ ap (λ (i : ℕ). (y.faces i).blocks k) (sym here))
      is

  clear : (k : ℕ) → IsMetadataIn y (end_of y) k → (d : Bool) → t k ≡ d → t k ≡ false
  clear k meta true is =
      let file = pair.device.files k is in
      ⊎_elim
      (λ still. absurd (file.4 (still.metadata.1 meta)))
      (λ held. absurd (pair.space.given.unmarked k (held_reserved file.0 sp.given k held) (((pair.story.sound (end_of y) (omega arith)).bits k).1 meta.0)))
      (pair.space.given.blocks file.0 k file.1 file.2 file.3)
  clear k meta false is = is

  untouched_at : (n k : ℕ) → IsVersion b n ⊎ (n ≡ g.last) → IsMetadataIn y n k → t k ≡ false
  untouched_at n k is meta = ⊎_elim
      (λ old. pair.device.versions.untouched n k old meta)
      (λ last. clear k (subst (λ (i : ℕ). IsMetadataIn y i k) (last ∙ group.last ∙ top) meta) (t k) refl)
      is

  group_at : (x : Group) (k : ℕ) → IsGroupOf x b.groups ⊎ (x ≡ g) → newest x.blocks k ≢ None → IsSetFrom y x.first k
  group_at x k is has = ⊎_elim
      (λ old. pair.device.groups x k old has)
      (λ same.
      let since = (pair.space.group.exact k).0 (subst (λ (ps : List (ℕ × List ℕ)). newest ps k ≢ None) (ap (λ (z : Group). z.blocks) same ∙ group.blocks) has) in
      (since.0, (let first = ap (λ (z : Group). z.first) same in let lt = since.1 in omega (arith, first, lt, group.first, pair.space.sealed)), since.2, since.3))
      is

  sealed_device_fits : DeviceFits y u sp.sup new t st
  sealed_device_fits = record {
    steady = sealed_steady b g core.steady next;
    right = sealed_right b g (know_of b core.steady) next t st pair.device.right;
    volume = pair.device.volume;
    sealed = sealed_last b g ∙ group.last ∙ top;
    durable = sealed_durable b g ∙ pair.device.durable;
    left = pair.device.left;
    known = λ k d lt. (λ upto is. (let le = (pair.device.known k d lt).0 upto is in let e = sealed_durable b g in omega (arith, le, e)), (pair.device.known k d lt).1);
    versions = record {
      geometry = λ n is. geometry_at n (sealed_only b g n is);
      reads = λ n k is meta d. reads_at n k (sealed_only b g n is) meta d;
      untouched = λ n k is meta. untouched_at n k (sealed_only b g n is) meta;
    };
    files = pair.device.files;
    groups = λ x k is has. group_at x k (sealed_groups b x g is) has;
  }

  pub pair_is_sealed : IsPair y u (sealed_space sp) new t st
  pair_is_sealed = record { story = pair.story; space = sealed_space_fits; device = sealed_device_fits }
