-- Core over a device that goes on, a call, and a release.
use Rattle.std.proofs.Common.{◌≡◌, ◌⊎◌, inl, inr, ⊎_elim, ◌<◌, ◌≤◌, ◌/◌, ℕ, List, [], ◌∷◌, length, take, not, filter, Bool, true, false, cond, Option, Some, None, refl, sym, ◌∙◌, ap, subst, arith}
use Rattle.std.proofs.lemmas.Bool.{true≢false}
use Rattle.std.proofs.lemmas.List.{take-append-le}
use Rattle.std.proofs.lemmas.List.Elements.{All-push}
use Rattle.std.specs.List.{All}
use Rattle.bfs_disk.specs.State.{State}
use Rattle.bfs_super.specs.declared.sup.Super.{Super}
use Rattle.bfs_super.specs.declared.geometry.Geometry.{Geometry}
use Rattle.bfs_log.specs.Entry.{log_first}
use Rattle.bfs_bitmap.specs.Givens.{is_left}
use Rattle.bfs_txn.specs.declared.group.Group.{Group}
use Rattle.bfs_tree.specs.Trees.{Tree}
use Rattle.bfs_tree.specs.declared.reply.Entry.{Entry}
use Rattle.bfs_tree.specs.Histories.{Mounted, after}
use Rattle.bfs_sound.specs.Volumes.{Volume}
use Rattle.bfs_sound.specs.Owners.{IsMetadata}
use Rattle.bfs_sound.specs.Whole.{IsSound}
use Rattle.bfs_device.specs.Layouts.{Layout, layout_of}
use Rattle.bfs_device.specs.Books.{Books, IsRight, IsVersion, AreSame, Follow, sealed_of, used_of, version}
use Rattle.bfs_device.specs.Ahead.{IsSteady, GoesOn, IsGroupOf, geometry_with}
use Rattle.bfs_device.proofs.Forward.{order_of}
use Rattle.bfs_core.specs.Spaces.{SpaceView, IsSoundOver, Entered, IsFaceData, IsFaceMetadata, IsHeld, IsFresh, released_space}
use Rattle.bfs_core.specs.Moments.{IsLessTouched}
use Rattle.bfs_core.specs.Cores.{Core, IsKnown, masked, newest_map, version_volume}
use Rattle.bfs_device.specs.Layouts.{is_data}
use Rattle.bfs_core.proofs.Masks.{data_of, masked_same}
use Rattle.bfs_core.proofs.Givens.{fresh_held, held_lower, held_released, released_reserved, released_fresh}

-- the layout follows from the geometry
abbrev layout_in : Geometry → Layout
layout_in g = record { sectors = g.block_size / 512; blocks = g.blocks; first = log_first g; len = g.log.len }

pub same_layout : (s u : Super) → ((used : ℕ) → geometry_with u used ≡ geometry_with s used) → layout_of u ≡ layout_of s
same_layout s u same = ap layout_in (same 0)

pub same_size : (s u : Super) → ((used : ℕ) → geometry_with u used ≡ geometry_with s used) → u.block_size ≡ s.block_size
same_size s u same = ap (λ (g : Geometry). g.block_size) (same 0)

-- ---- a device that goes on

module _ (b new : Books) (st st' : State) (steady : IsSteady new) (on : GoesOn b new) (same : AreSame b st new st') where
  layouts : layout_of new.sup ≡ layout_of b.sup
  layouts = same_layout b.sup new.sup on.geometry

  pub same_volume : (n : ℕ) → IsVersion new n → version_volume new st' n ≡ version_volume b st n
  same_volume n is = λ i. record {
    geometry = (on.geometry (used_of new n) ∙ ap (geometry_with b.sup) (on.used n is)) i;
    blocks = (ap (λ (l : Layout). masked l (version new st' n)) layouts ∙ masked_same (layout_of b.sup) (version new st' n) (version b st n) (same n is)) i;
  }

  newest_at : (k : ℕ) (d : Bool) → is_data (layout_of b.sup) k ≡ d → cond d (Some (version new st' (sealed_of new) k)) None ≡ cond d (Some (version b st (sealed_of b) k)) None
  newest_at k true is = ap Some (same (sealed_of new) (order_of new steady).newest k (data_of (layout_of b.sup) k is) ∙ ap (λ (n : ℕ). version b st n k) on.sealed)
  newest_at k false is = refl

  pub same_newest : newest_map new st' ≡ newest_map b st
  same_newest = λ i k. (ap (λ (l : Layout). cond (is_data l k) (Some (version new st' (sealed_of new) k)) None) layouts ∙ newest_at k (is_data (layout_of b.sup) k) refl) i

pub core_ahead : (t0 : Mounted) (sp : SpaceView) (b new : Books) (t u : ℕ → Bool) (st st' : State) → Core t0 sp b t st → IsSteady new → GoesOn b new → IsRight new u st' → AreSame b st new st'
    → IsLessTouched b new t u → (new.stop ≡ None → b.stop ≡ None) → Core t0 sp new u st'
core_ahead t0 sp b new t u st st' core steady on right same less stops =
    let map_is = same_newest b new st st' steady on same in
    let volume_is = same_volume b new st st' steady on same in
    record {
      space = subst (IsSoundOver t0 sp) (sym map_is) core.space;
      steady = steady;
      right = right;
      one = record {
        geometry = λ used. on.geometry used ∙ core.one.geometry used;
        sealed = on.sealed ∙ core.one.sealed;
        sealed_used = core.one.sealed_used ∙ sym on.last_used;
        idle = λ none. core.one.idle none ∙ sym on.last_used;
        known = λ k d lt. (λ upto is. (let le = (core.one.known k d lt).0 upto is in omega (arith, le, on.durable)), λ none. (core.one.known k d lt).1 (stops none));
      };
      versions = record {
        sound = λ n is. subst (λ (v : Volume). IsSound v (after t0 (take n sp.history))) (sym (volume_is n is)) (core.versions.sound n (on.versions n is));
        untouched = λ n k is meta. still n k is (subst (λ (v : Volume). IsMetadata v (after t0 (take n sp.history)) k) (volume_is n is) meta);
      };
      guarded = record {
        metadata = λ n k is meta. subst (λ (m : ℕ → Option (List ℕ)). IsFaceMetadata t0 sp m k ⊎ IsHeld n sp.given k) (sym map_is)
            (core.guarded.metadata n k (on.versions n is) (subst (λ (v : Volume). IsMetadata v (after t0 (take n sp.history)) k) (volume_is n is) meta));
        groups = λ g k is has. subst (λ (m : ℕ → Option (List ℕ)). IsFaceMetadata t0 sp m k ⊎ ((n : ℕ) → n < g.first → IsHeld n sp.given k)) (sym map_is) (core.guarded.groups g k (on.groups g is) has);
        files = λ k is. subst (λ (m : ℕ → Option (List ℕ)). IsFaceData t0 sp m k ⊎ IsHeld new.left sp.given k) (sym map_is) (still_file k is);
      };
    }
  where
    either : (k : ℕ) (d : Bool) → u k ≡ d → t k ≡ false → u k ≡ false
    either k true is clear = absurd (true≢false (sym (less.fewer k is) ∙ clear))
    either k false is clear = is

    still_file : (k : ℕ) → u k ≡ true → IsFaceData t0 sp (newest_map b st) k ⊎ IsHeld new.left sp.given k
    still_file k is = ⊎_elim
        (λ left. ⊎_elim (λ file. inl file) (λ held. inr (subst (λ (n : ℕ). IsHeld n sp.given k) (sym left) held)) (core.guarded.files k (less.fewer k is)))
        (λ none. absurd (true≢false (sym is ∙ none k)))
        less.barrier

    still : (n k : ℕ) → IsVersion new n → IsMetadata (version_volume b st n) (after t0 (take n sp.history)) k → u k ≡ false
    still n k is meta = either k (u k) refl (core.versions.untouched n k (on.versions n is) meta)

-- ---- a call

pub core_entered : (t0 : Mounted) (sp new : SpaceView) (b : Books) (t : ℕ → Bool) (st : State) (e : Entry) → Core t0 sp b t st → Entered t0 sp new (newest_map b st) e → IsKnown b e → Core t0 new b t st
core_entered t0 sp new b t st e core entered known = record {
  space = entered.sound;
  steady = core.steady;
  right = core.right;
  one = record {
    geometry = λ used. core.one.geometry used ∙ ap (λ (s : Super). geometry_with s used) (sym entered.same.sup);
    sealed = core.one.sealed ∙ sym entered.same.sealed;
    sealed_used = entered.same.sealed_used ∙ core.one.sealed_used;
    idle = λ none. (entered.idle none).1 ∙ core.one.idle (entered.idle none).0;
    known = subst (All (IsKnown b)) (sym entered.history) (All-push (IsKnown b) sp.history e core.one.known known);
  };
  versions = record {
    sound = λ n is. subst (IsSound (version_volume b st n)) (sym (tree_is n is)) (core.versions.sound n is);
    untouched = λ n k is meta. core.versions.untouched n k is (subst (λ (x : Tree). IsMetadata (version_volume b st n) x k) (tree_is n is) meta);
  };
  guarded = record {
    metadata = λ n k is meta. grown n k (core.guarded.metadata n k is (subst (λ (x : Tree). IsMetadata (version_volume b st n) x k) (tree_is n is) meta));
    groups = λ g k is has. ⊎_elim
        (λ meta. ⊎_elim (λ still. inl still) (λ fresh. inr (λ n lt. fresh_held n new.given k fresh)) (meta_of k meta))
        (λ held. inr (λ n lt. entered.held n k (held n lt)))
        (core.guarded.groups g k is has);
    files = λ k is. ⊎_elim
        (λ file. ⊎_elim (λ still. inl (still.marked, λ meta. file.1 (still.metadata.1 meta))) (λ fresh. inr (fresh_held b.left new.given k fresh)) (entered.blocks k file.0))
        (λ held. inr (entered.held b.left k held))
        (core.guarded.files k is);
  };
}
  where
    short : (n : ℕ) → IsVersion b n → n ≤ length sp.history
    short n is = let le = (order_of b core.steady).high n is in omega (arith, le, core.one.sealed, core.space.covered)

    tree_is : (n : ℕ) → IsVersion b n → after t0 (take n new.history) ≡ after t0 (take n sp.history)
    tree_is n is = ap (λ (h : List Entry). after t0 (take n h)) entered.history ∙ ap (after t0) (take-append-le n sp.history (e ∷ []) (short n is))

    meta_of : (k : ℕ) → IsFaceMetadata t0 sp (newest_map b st) k → IsFaceMetadata t0 new (newest_map b st) k ⊎ IsFresh new.given k
    meta_of k meta = ⊎_elim (λ still. inl (still.metadata.0 meta)) (λ fresh. inr fresh) (entered.blocks k ((core.space.sound.bits k).1 meta.0))

    grown : (n k : ℕ) → IsFaceMetadata t0 sp (newest_map b st) k ⊎ IsHeld n sp.given k → IsFaceMetadata t0 new (newest_map b st) k ⊎ IsHeld n new.given k
    grown n k is = ⊎_elim (λ meta. ⊎_elim (λ still. inl still) (λ fresh. inr (fresh_held n new.given k fresh)) (meta_of k meta)) (λ held. inr (entered.held n k held)) is

-- ---- a release

pub above_left : (l : Layout) (size left used : ℕ) (g : Group) (gs : List Group) → Follow l size left used gs → IsGroupOf g gs → left < g.first
above_left l size left used g [] follow is = absurd is
above_left l size left used g (x ∷ gs) follow is = ⊎_elim
    (λ here. let e = ap (λ (y : Group). y.first) here in omega (arith, e, follow.0.follows))
    (λ later. let lt = above_left l size x.last x.used g gs follow.1 later in omega (arith, lt, follow.0.follows, follow.0.sealed.order)) is

pub core_released : (t0 : Mounted) (sp : SpaceView) (b : Books) (t : ℕ → Bool) (st : State) → Core t0 sp b t st → Core t0 (released_space b.left sp) b t st
core_released t0 sp b t st core = record {
  space = record {
    legal = core.space.legal;
    sound = core.space.sound;
    unmarked = λ k is. core.space.unmarked k (released_reserved b.left sp.given k is);
    own = λ k has. ⊎_elim (λ meta. inl meta) (λ fresh. inr (released_fresh b.left sp.given k fresh)) (core.space.own k has);
    sized = core.space.sized;
    covered = core.space.covered;
  };
  steady = core.steady;
  right = core.right;
  one = record { geometry = core.one.geometry; sealed = core.one.sealed; sealed_used = core.one.sealed_used; idle = core.one.idle; known = core.one.known };
  versions = record { sound = core.versions.sound; untouched = core.versions.untouched };
  guarded = record {
    metadata = λ n k is meta. ⊎_elim (λ still. inl still)
        (λ held. inr (held_released b.left n sp.given k (let low = (order_of b core.steady).low n is in let le = (order_of b core.steady).left in omega (arith, low, le)) held))
        (core.guarded.metadata n k is meta);
    groups = λ g k is has. ⊎_elim (λ still. inl still)
        (λ held. inr (λ n lt. either n g k is held lt))
        (core.guarded.groups g k is has);
    files = λ k is. ⊎_elim (λ file. inl file) (λ held. inr (held_released b.left b.left sp.given k (omega arith) held)) (core.guarded.files k is);
  };
}
  where
    -- the group is above what has left
    either : (n : ℕ) (g : Group) (k : ℕ) → IsGroupOf g b.groups → ((n : ℕ) → n < g.first → IsHeld n sp.given k) → n < g.first → IsHeld n (filter (λ x. not (is_left b.left x)) sp.given) k
    either n g k is held lt = ⊎_elim
        (λ low. held_lower n b.left (filter (λ x. not (is_left b.left x)) sp.given) k low
        (held_released b.left b.left sp.given k (omega arith) (held b.left (above_left (layout_of b.sup) b.sup.block_size b.left _ g b.groups core.steady.follow is))))
        (λ high. held_released b.left n sp.given k high (held n lt))
        (le_or n b.left)
      where
        le_or : (m n : ℕ) → (m ≤ n) ⊎ (n ≤ m)
        le_or m n = grind arith
