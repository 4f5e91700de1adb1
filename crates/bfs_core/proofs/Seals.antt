-- Core over a seal.
use Rattle.std.proofs.Common.{◌≡◌, ◌≢◌, ◌⊎◌, inl, inr, ⊎_elim, ◌<◌, ◌≤◌, ◌+◌, ℕ, suc, List, [], ◌∷◌, length, take, map, Bool, true, false, cond, ◌==◌, Option, Some, None, unwrap_or, refl, sym, ◌∙◌, ap, subst, arith}
use Rattle.std.proofs.lemmas.Bool.{true≢false, eqb-true}
use Rattle.std.proofs.lemmas.List.{take_all}
use Rattle.bfs_disk.specs.State.{State}
use Rattle.bfs_bitmap.specs.Givens.{numbered}
use Rattle.bfs_txn.specs.Changed.{newest, number_at, over, or_else}
use Rattle.bfs_txn.specs.declared.group.Group.{Group}
use Rattle.bfs_tree.specs.Trees.{Tree}
use Rattle.bfs_tree.specs.Histories.{Mounted, after}
use Rattle.bfs_sound.specs.Volumes.{Volume, IsMarked}
use Rattle.bfs_sound.specs.Owners.{IsMetadata}
use Rattle.bfs_sound.specs.Whole.{IsSound}
use Rattle.bfs_device.specs.Layouts.{Layout, layout_of, IsData}
use Rattle.bfs_device.specs.Books.{Books, IsVersion, IsNext, IsSealed, Follow, last_in, durable_of, sealed_of, used_of, version}
use Rattle.bfs_device.specs.Seals.{last_used, sealed_with}
use Rattle.bfs_device.specs.Ahead.{IsSteady, IsGroupOf, geometry_with}
use Rattle.bfs_device.proofs.Forward.{order_of, know_of, sealed_only, sealed_groups, sealed_durable}
use Rattle.bfs_device.proofs.Sealing.{last_behind, older_version, newest_version, older_used, newest_used, sealed_last, sealed_right, sealed_used, version_low}
use Rattle.bfs_core.specs.Spaces.{SpaceView, IsSoundOver, IsGroupFor, IsHeld, face, sealed_space}
use Rattle.bfs_core.specs.Cores.{Core, newest_map, version_volume}
use Rattle.bfs_device.specs.Layouts.{is_data}
use Rattle.bfs_core.proofs.Masks.{of_data, over_pairs}
use Rattle.bfs_core.proofs.Givens.{held_reserved, fresh_held, held_numbered, reserved_numbered}
use Rattle.bfs_core.proofs.Onward.{same_layout, same_size}
use Rattle.bfs_core.proofs.Steady.{sealed_steady}

layouts_of : (t0 : Mounted) (sp : SpaceView) (b : Books) (t : ℕ → Bool) (st : State) → Core t0 sp b t st → layout_of b.sup ≡ layout_of sp.sup
layouts_of t0 sp b t st core = same_layout sp.sup b.sup core.one.geometry

pub may_seal : (t0 : Mounted) (sp : SpaceView) (b : Books) (t : ℕ → Bool) (st : State) (g : Group) → Core t0 sp b t st → IsGroupFor sp g → IsNext (layout_of b.sup) b.sup.block_size (sealed_of b) (last_used b) g
may_seal t0 sp b t st g core group = record {
  follows = group.first ∙ ap (λ (n : ℕ). n + 1) (sym core.one.sealed);
  sealed = subst (λ (l : Layout). IsSealed l b.sup.block_size g) (sym (layouts_of t0 sp b t st core)) (subst (λ (n : ℕ). IsSealed (layout_of sp.sup) n g) (sym (same_size sp.sup b.sup core.one.geometry)) group.sealed);
  same_used = λ none. group.used ∙ core.one.idle (sym group.blocks ∙ none);
}

group_high : (l : Layout) (size left used : ℕ) (x : Group) (gs : List Group) → Follow l size left used gs → IsGroupOf x gs → x.first ≤ last_in left gs
group_high l size left used x [] follow is = absurd is
group_high l size left used x (g ∷ gs) follow is = ⊎_elim
    (λ here. let e = ap (λ (y : Group). y.first) here in let le = last_behind l size g.last g.used gs follow.1 in omega (arith, e, le, follow.0.sealed.order))
    (λ later. group_high l size g.last g.used x gs follow.1 later) is

-- a block of a group is data
pairs_data : (l : Layout) (ps : List (ℕ × List ℕ)) (k : ℕ) → ((i : ℕ) → i < length ps → IsData l (number_at ps i)) → (newest ps k ≡ None) ⊎ IsData l k
pairs_data l [] k places = inl refl
pairs_data l (p ∷ ps) k places = ⊎_elim (λ none. here none (k == p.0) refl) (λ d. inr d) (pairs_data l ps k (λ i lt. places (suc i) (omega (arith, lt))))
  where
    here : newest ps k ≡ None → (d : Bool) → (k == p.0) ≡ d → (newest (p ∷ ps) k ≡ None) ⊎ IsData l k
    here none true is = let e : k ≡ p.0 = eqb-true k p.0 is in inr (subst (IsData l) (sym e) (places 0 (omega arith)))
    here none false is = inl (ap (λ (o : Option (List ℕ)). or_else o (cond (k == p.0) (Some p.1) None)) none ∙ ap (λ (d : Bool). cond d (Some p.1) None) is)

module _ (t0 : Mounted) (sp : SpaceView) (b : Books) (t : ℕ → Bool) (st : State) (g : Group) (core : Core t0 sp b t st) (group : IsGroupFor sp g) where
  next : IsNext (layout_of b.sup) b.sup.block_size (sealed_of b) (last_used b) g
  next = may_seal t0 sp b t st g core group

  abbrev new : Books
  new = sealed_with b g

  abbrev m : ℕ → Option (List ℕ)
  m = newest_map b st

  pub older : (n : ℕ) → IsVersion b n → version_volume new st n ≡ version_volume b st n
  older n is = λ i. record {
    geometry = ap (geometry_with b.sup) (older_used b g (know_of b core.steady) next n is) i;
    blocks = λ k. ap (λ (c : List ℕ). cond (is_data (layout_of b.sup) k) c []) (older_version b g (know_of b core.steady) next st n k is) i;
  }

  -- the newest version is Face
  block_at : (k : ℕ) (d : Bool) → is_data (layout_of b.sup) k ≡ d → cond d (version new st g.last k) [] ≡ unwrap_or (or_else (newest g.blocks k) (cond d (Some (version b st (sealed_of b) k)) None)) []
  block_at k true is = newest_version b g (know_of b core.steady) next st k ∙ over_pairs g.blocks (version b st (sealed_of b)) k
  block_at k false is = ⊎_elim
      (λ none. sym (ap (λ (o : Option (List ℕ)). unwrap_or (or_else o None) []) none))
      (λ d. absurd (true≢false (sym (of_data (layout_of b.sup) k d) ∙ is)))
      (pairs_data (layout_of b.sup) g.blocks k next.sealed.places)

  pub newest_is : version_volume new st g.last ≡ face sp m
  newest_is = λ i. record {
    geometry = (core.one.geometry (used_of new g.last) ∙ ap (geometry_with sp.sup) (newest_used b g (know_of b core.steady) next ∙ group.used)) i;
    blocks = λ k. (block_at k (is_data (layout_of b.sup) k) refl ∙ ap (λ (ps : List (ℕ × List ℕ)). unwrap_or (over ps m k) []) group.blocks) i;
  }

  -- and so is what the device tells now
  map_at : (k : ℕ) (d : Bool) → cond d (version new st g.last k) [] ≡ unwrap_or (cond d (Some (version new st (sealed_of new) k)) None) []
  map_at k true = ap (λ (n : ℕ). version new st n k) (sym (sealed_last b g))
  map_at k false = refl

  pub face_is : face (sealed_space sp) (newest_map new st) ≡ face sp m
  face_is = (λ i. record {
    geometry = geometry_with sp.sup sp.used;
    blocks = λ k. (sym (map_at k (is_data (layout_of b.sup) k)) ∙ ap (λ (v : Volume). v.blocks k) newest_is) i;
  })

  tree_last : after t0 (take g.last sp.history) ≡ after t0 sp.history
  tree_last = ap (after t0) (take_all g.last sp.history (omega (arith, group.last)))

  low : (n : ℕ) → IsVersion b n → n < length sp.history
  low n is = let lt = version_low b g (know_of b core.steady) next n is in omega (arith, lt, group.last)

  sound_at : (n : ℕ) → IsVersion b n ⊎ (n ≡ g.last) → IsSound (version_volume new st n) (after t0 (take n sp.history))
  sound_at n is = ⊎_elim
      (λ old. subst (λ (v : Volume). IsSound v (after t0 (take n sp.history))) (sym (older n old)) (core.versions.sound n old))
      (λ last. subst (λ (x : ℕ). IsSound (version_volume new st x) (after t0 (take x sp.history))) (sym last)
      (subst (IsSound (version_volume new st g.last)) (sym tree_last) (subst (λ (v : Volume). IsSound v (after t0 sp.history)) (sym newest_is) core.space.sound)))
      is

  as_face : (n k : ℕ) → n ≡ g.last → IsMetadata (version_volume new st n) (after t0 (take n sp.history)) k → IsMetadata (face sp m) (after t0 sp.history) k
  as_face n k last meta =
      subst (λ (v : Volume). IsMetadata v (after t0 sp.history) k) newest_is
      (subst (λ (x : Tree). IsMetadata (version_volume new st g.last) x k) tree_last
      (subst (λ (x : ℕ). IsMetadata (version_volume new st x) (after t0 (take x sp.history)) k) last meta))

  to_new : (k : ℕ) → IsMetadata (face sp m) (after t0 sp.history) k → IsMetadata (face (sealed_space sp) (newest_map new st)) (after t0 sp.history) k
  to_new k meta = subst (λ (v : Volume). IsMetadata v (after t0 sp.history) k) (sym face_is) meta

  reserved_at : (n k : ℕ) → IsVersion b n ⊎ (n ≡ g.last) → IsMetadata (version_volume new st n) (after t0 (take n sp.history)) k
      → IsMetadata (face (sealed_space sp) (newest_map new st)) (after t0 sp.history) k ⊎ IsHeld n (map (numbered (length sp.history)) sp.given) k
  reserved_at n k is meta = ⊎_elim
      (λ old. ⊎_elim (λ still. inl (to_new k still)) (λ held. inr (held_numbered n (length sp.history) sp.given k (low n old) held))
      (core.guarded.metadata n k old (subst (λ (v : Volume). IsMetadata v (after t0 (take n sp.history)) k) (older n old) meta)))
      (λ last. inl (to_new k (as_face n k last meta)))
      is

  seal_fits : IsSoundOver t0 (sealed_space sp) (newest_map new st)
  seal_fits = record {
    legal = core.space.legal;
    sound = subst (λ (v : Volume). IsSound v (after t0 sp.history)) (sym face_is) core.space.sound;
    unmarked = λ k is. subst (λ (v : Volume). ¬ IsMarked v k) (sym face_is) (core.space.unmarked k (sym (reserved_numbered (length sp.history) sp.given k) ∙ is));
    own = λ k has. absurd (has refl);
    sized = λ i lt. absurd (omega (arith, lt));
    covered = omega arith;
  }

  group_at : (x : Group) (k : ℕ) → IsGroupOf x b.groups ⊎ (x ≡ g) → newest x.blocks k ≢ None
      → IsMetadata (face (sealed_space sp) (newest_map new st)) (after t0 sp.history) k ⊎ ((n : ℕ) → n < x.first → IsHeld n (map (numbered (length sp.history)) sp.given) k)
  group_at x k is has = ⊎_elim
      (λ old. ⊎_elim (λ still. inl (to_new k still)) (λ held. inr (λ n lt. held_numbered n (length sp.history) sp.given k (below x old n lt) (held n lt))) (core.guarded.groups x k old has))
      (λ same.
      let mine : newest sp.group k ≢ None = subst (λ (ps : List (ℕ × List ℕ)). newest ps k ≢ None) (ap (λ (y : Group). y.blocks) same ∙ group.blocks) has in
      ⊎_elim (λ meta. inl (to_new k meta)) (λ fresh. inr (λ n lt. held_numbered n (length sp.history) sp.given k (let e = ap (λ (y : Group). y.first) same in omega (arith, lt, e, group.first, group.some)) (fresh_held n sp.given k fresh))) (core.space.own k mine))
      is
    where
      below : (x : Group) → IsGroupOf x b.groups → (n : ℕ) → n < x.first → n < length sp.history
      below x old n lt = let le = group_high (layout_of b.sup) b.sup.block_size b.left _ x b.groups core.steady.follow old in omega (arith, lt, le, core.one.sealed, core.space.covered)

  new_steady : IsSteady new
  new_steady = sealed_steady b g core.steady next

  pub core_sealed_to : Core t0 (sealed_space sp) new t st
  core_sealed_to = record {
    space = seal_fits;
    steady = new_steady;
    right = sealed_right b g (know_of b core.steady) next t st core.right;
    one = record {
      geometry = core.one.geometry;
      sealed = sealed_last b g ∙ group.last;
      sealed_used = sym (sealed_used b g ∙ group.used);
      idle = λ none. sym (sealed_used b g ∙ group.used);
      known = λ k d lt. (λ upto is. (let le = (core.one.known k d lt).0 upto is in let e = sealed_durable b g in omega (arith, le, e)), (core.one.known k d lt).1);
    };
    versions = record {
      sound = λ n is. sound_at n (sealed_only b g n is);
      untouched = λ n k is meta. ⊎_elim
          (λ old. core.versions.untouched n k old (subst (λ (v : Volume). IsMetadata v (after t0 (take n sp.history)) k) (older n old) meta))
          (λ last. clear k (as_face n k last meta))
          (sealed_only b g n is);
    };
    guarded = record {
      metadata = λ n k is meta. reserved_at n k (sealed_only b g n is) meta;
      groups = λ x k is has. group_at x k (sealed_groups b x g is) has;
      files = λ k is. ⊎_elim
          (λ file. inl (subst (λ (v : Volume). IsMarked v k × ¬ IsMetadata v (after t0 sp.history) k) (sym face_is) file))
          (λ held. inr (held_numbered b.left (length sp.history) sp.given k (let low = (order_of b core.steady).left in let top = low_top in omega (arith, low, top)) held))
          (core.guarded.files k is);
    };
  }
    where
      low_top : durable_of b < length sp.history
      low_top = let le = (order_of b core.steady).low (sealed_of b) (order_of b core.steady).newest in let lt = low (sealed_of b) (order_of b core.steady).newest in omega (arith, le, lt)

      clear : (k : ℕ) → IsMetadata (face sp m) (after t0 sp.history) k → t k ≡ false
      clear k meta = by_test (t k) refl
        where
          marked : IsMarked (face sp m) k
          marked = (core.space.sound.bits k).1 meta.0

          by_test : (d : Bool) → t k ≡ d → t k ≡ false
          by_test true is = ⊎_elim (λ file. absurd (file.1 meta)) (λ held. absurd (core.space.unmarked k (held_reserved b.left sp.given k held) marked)) (core.guarded.files k is)
          by_test false is = is

pub core_sealed : (t0 : Mounted) (sp : SpaceView) (b : Books) (t : ℕ → Bool) (st : State) (g : Group) → Core t0 sp b t st → IsGroupFor sp g → Core t0 (sealed_space sp) (sealed_with b g) t st
core_sealed t0 sp b t st g core group = core_sealed_to t0 sp b t st g core group
