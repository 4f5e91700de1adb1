-- A call appends an entry: the longer story is one, and the space fits it.
use Rattle.std.proofs.Common.{◌≡◌, ◌≢◌, ◌⊎◌, ◌↔◌, inl, inr, ⊎_elim, ◌<◌, ◌≤◌, ◌+◌, ℕ, List, [], ◌∷◌, ◌++◌, length, take, Bool, true, false, Option, Some, None, unwrap_or, refl, sym, ◌∙◌, ap, subst, arith}
use Rattle.std.proofs.lemmas.List.{take_all, take-append-le, length-append}
use Rattle.bfs_base.specs.Lists.{times}
use Rattle.bfs_super.specs.declared.sup.Super.{Super}
use Rattle.bfs_super.specs.Conditions.{IsValid}
use Rattle.bfs_txn.specs.Changed.{newest, or_else}
use Rattle.bfs_bitmap.specs.Runs.{is_reserved}
use Rattle.bfs_tree.specs.Trees.{Tree}
use Rattle.bfs_tree.specs.declared.reply.Entry.{Entry}
use Rattle.bfs_tree.specs.Histories.{Mounted, Legal, after}
use Rattle.bfs_sound.specs.Volumes.{Volume, IsMarked}
use Rattle.bfs_sound.specs.Owners.{IsMetadata, fixed_blocks}
use Rattle.bfs_sound.specs.Whole.{IsSound}
use Rattle.bfs_device.specs.Ahead.{geometry_with}
use Rattle.bfs_core.specs.Spaces.{SpaceView, Entered, HasSet, IsFaceMetadata, IsHeld, IsFresh, face}
use Rattle.bfs_core.specs.Stories.{Words, Story, IsStory, SpaceFits, GroupFits, Longer, TellsFace, IsMetadataIn, IsUnspoiled, IsSetSince, StaysTo, tree_in, end_of}
use Rattle.bfs_core.proofs.Givens.{fresh_held, held_reserved}
use Rattle.bfs_core.proofs.Faces.{to_bits, to_face}

-- where nothing is there, it is None
no_bytes : (o : Option (List ℕ)) → (o ≢ None → ⊥) → o ≡ None
no_bytes None lacks = refl
no_bytes (Some x) lacks = absurd (lacks (λ e. cc))

not_set : (d : Bool) → (d ≡ true → ⊥) → d ≡ false
not_set true bad = absurd (bad refl)
not_set false bad = refl

le_cases : (n m : ℕ) → n ≤ m + 1 → (n ≤ m) ⊎ (n ≡ m + 1)
le_cases n m le = grind (arith, le)

module _ (y z : Story) (w : Words) (sp new : SpaceView) (m : ℕ → Option (List ℕ)) (e : Entry) (story : IsStory y w.left) (space : SpaceFits y w sp) (tells : TellsFace y w.sealed m)
    (entered : Entered y.t0 sp new m e) (set : HasSet y.t0 sp new m (z.sets (end_of z))) (longer : Longer y z e) (last : z.faces (end_of z) ≡ face new m) where
  ends : end_of z ≡ end_of y + 1
  ends = ap length longer.history ∙ length-append y.history (e ∷ [])

  cases : (n : ℕ) → n ≤ end_of z → (n ≤ end_of y) ⊎ (n ≡ end_of z)
  cases n le = let q = ends in ⊎_elim (λ low. inl low) (λ here. inr (here ∙ sym q)) (le_cases n (end_of y) (omega (arith, le, q)))

  below : w.sealed ≤ end_of z
  below = let q = ends in omega (arith, q, space.covered)

  histories : new.history ≡ z.history
  histories = entered.history ∙ ap (λ (h : List Entry). h ++ e ∷ []) space.history ∙ sym longer.history

  -- the volumes before
  tree_low : (n : ℕ) → n ≤ end_of y → tree_in z n ≡ tree_in y n
  tree_low n le = ap (λ (x : Mounted). after x (take n z.history)) longer.t0 ∙ ap (λ (h : List Entry). after y.t0 (take n h)) longer.history ∙ ap (after y.t0) (take-append-le n y.history (e ∷ []) le)

  low : (n k : ℕ) → n ≤ end_of y → IsMetadataIn z n k ↔ IsMetadataIn y n k
  low n k le = (
    (λ meta. subst (λ (v : Volume). IsMetadata v (tree_in y n) k) (longer.faces n le) (subst (λ (x : Tree). IsMetadata (z.faces n) x k) (tree_low n le) meta)),
    (λ meta. subst (λ (x : Tree). IsMetadata (z.faces n) x k) (sym (tree_low n le)) (subst (λ (v : Volume). IsMetadata v (tree_in y n) k) (sym (longer.faces n le)) meta)),
  )

  low_marked : (n k : ℕ) → n ≤ end_of y → IsMarked (z.faces n) k → IsMarked (y.faces n) k
  low_marked n k le is = subst (λ (v : Volume). IsMarked v k) (longer.faces n le) is

  -- the last volume
  tree_last : tree_in z (end_of z) ≡ after y.t0 new.history
  tree_last = ap (λ (x : Mounted). after x (take (end_of z) z.history)) longer.t0 ∙ ap (after y.t0) (take_all (end_of z) z.history (omega arith) ∙ sym histories)

  top : (k : ℕ) → IsMetadataIn z (end_of z) k ↔ IsFaceMetadata y.t0 new m k
  top k = (
    (λ meta. subst (λ (v : Volume). IsMetadata v (after y.t0 new.history) k) last (subst (λ (x : Tree). IsMetadata (z.faces (end_of z)) x k) tree_last meta)),
    (λ meta. subst (λ (x : Tree). IsMetadata (z.faces (end_of z)) x k) (sym tree_last) (subst (λ (v : Volume). IsMetadata v (after y.t0 new.history) k) (sym last) meta)),
  )

  top_marked : (k : ℕ) → IsMarked (z.faces (end_of z)) k ↔ IsMarked (face new m) k
  top_marked k = ((λ is. subst (λ (v : Volume). IsMarked v k) last is), (λ is. subst (λ (v : Volume). IsMarked v k) (sym last) is))

  old_face : (k : ℕ) → IsMetadataIn y (end_of y) k ↔ IsFaceMetadata y.t0 sp m k
  old_face k = to_face y w sp m story space tells k

  old_marked : (k : ℕ) → IsMarked (y.faces (end_of y)) k ↔ IsMarked (face sp m) k
  old_marked k = to_bits y w sp m story space tells k

  sound_z : (n : ℕ) → n ≤ end_of z → IsSound (z.faces n) (tree_in z n)
  sound_z n le = ⊎_elim
      (λ early. subst (IsSound (z.faces n)) (sym (tree_low n early)) (subst (λ (v : Volume). IsSound v (tree_in y n)) (sym (longer.faces n early)) (story.sound n early)))
      (λ here. subst (λ (i : ℕ). IsSound (z.faces i) (tree_in z i)) (sym here) (subst (IsSound (z.faces (end_of z))) (sym tree_last) (subst (λ (v : Volume). IsSound v (after y.t0 new.history)) (sym last) entered.sound.sound)))
      (cases n le)

  -- ---- the open group

  to_set : (k : ℕ) → newest new.group k ≢ None → IsSetSince z w.sealed k
  to_set k has = ⊎_elim
      (λ before. let old = (space.group.exact k).0 before in (old.0, old.1, (let le = old.2 in let q = ends in omega (arith, le, q)), longer.sets old.0 k old.2 ∙ old.3))
      (λ is. (end_of z, (let q = ends in omega (arith, q, space.covered)), omega arith, is))
      ((set.group k).0 has)

  from_set : (k : ℕ) → IsSetSince z w.sealed k → newest new.group k ≢ None
  from_set k since = ⊎_elim
      (λ early. (set.group k).1 (inl ((space.group.exact k).1 (since.0, since.1, early, sym (longer.sets since.0 k early) ∙ since.3))))
      (λ here. (set.group k).1 (inr (subst (λ (i : ℕ). z.sets i k ≡ true) here since.3)))
      (cases since.0 since.2)

  block_at : (k : ℕ) (o : Option (List ℕ)) → newest new.group k ≡ o → (z.faces (end_of z)).blocks k ≡ unwrap_or (or_else o (m k)) []
  block_at k o is = ap (λ (v : Volume). v.blocks k) last ∙ ap (λ (x : Option (List ℕ)). unwrap_or (or_else x (m k)) []) is

  not_in : (k : ℕ) → newest new.group k ≡ None → z.sets (end_of z) k ≡ true → ⊥
  not_in k none is = (set.group k).1 (inr is) none

  old_none : (k : ℕ) → newest new.group k ≡ None → newest sp.group k ≡ None
  old_none k none = no_bytes (newest sp.group k) (λ has. (set.group k).1 (inl has) none)

  was_metadata : (k : ℕ) → IsMetadataIn z (end_of z) k → newest new.group k ≡ None → IsMetadataIn y (end_of y) k
  was_metadata k meta none = (old_face k).1 (set.rest k ((top k).0 meta) (not_set (z.sets (end_of z) k) (not_in k none)))

  fixed_at : (k : ℕ) → times k (fixed_blocks (z.faces (end_of z))) ≡ 0 → times k (fixed_blocks (y.faces w.sealed)) ≡ 0
  fixed_at k none = subst (λ (xs : List ℕ). times k xs ≡ 0) fixed_same none
    where
      fixed_same : fixed_blocks (z.faces (end_of z)) ≡ fixed_blocks (y.faces w.sealed)
      fixed_same = ap fixed_blocks last ∙ ap (λ (s : Super). let v : Volume = record { geometry = geometry_with s new.used; blocks = (face sp m).blocks } in fixed_blocks v) entered.same.sup
          ∙ sym (ap (λ g. let v : Volume = record { geometry = g; blocks = (face sp m).blocks } in fixed_blocks v) space.ends)

  group_fits : GroupFits z w.sealed new.group
  group_fits = record {
    exact = λ k. (to_set k, from_set k);
    changed = λ k bytes meta is. sym (block_at k (Some bytes) is);
    rest = λ k meta none.
        let before = space.group.rest k (was_metadata k meta none) (old_none k none) in (
          (low w.sealed k space.covered).1 before.0,
          (λ fixed. ap (λ (v : Volume). v.blocks k) (longer.faces w.sealed space.covered) ∙ sym (tells k before.0 (fixed_at k fixed)) ∙ sym (block_at k None none)),
        );
  }

  -- ---- what was given back

  still : (n k : ℕ) → n ≤ end_of y → StaysTo y n k → StaysTo z n k ⊎ IsFresh new.given k
  still n k le stays = ⊎_elim
      (λ on. inl (record {
        marked = (top_marked k).1 on.marked;
        metadata = (
          (λ meta. (top k).1 (on.metadata.0 ((old_face k).0 (stays.metadata.0 ((low n k le).0 meta))))),
          (λ meta. (low n k le).1 (stays.metadata.1 ((old_face k).1 (on.metadata.1 ((top k).0 meta))))),
        );
      }))
      (λ fresh. inr fresh)
      (entered.blocks k ((old_marked k).0 stays.marked))

  stays_end : (n k : ℕ) → n ≡ end_of z → IsMarked (z.faces n) k → StaysTo z n k
  stays_end n k here is = record {
    marked = subst (λ (i : ℕ). IsMarked (z.faces i) k) here is;
    metadata = ((λ meta. subst (λ (i : ℕ). IsMetadataIn z i k) here meta), (λ meta. subst (λ (i : ℕ). IsMetadataIn z i k) (sym here) meta));
  }

  blocks_z : (n k : ℕ) → w.left ≤ n → n ≤ end_of z → IsMarked (z.faces n) k → StaysTo z n k ⊎ IsHeld n new.given k
  blocks_z n k from le is = ⊎_elim
      (λ early. ⊎_elim
      (λ stays. ⊎_elim (λ on. inl on) (λ fresh. inr (fresh_held n new.given k fresh)) (still n k early stays))
      (λ held. inr (entered.held n k held))
      (space.given.blocks n k from early (low_marked n k early is)))
      (λ here. inl (stays_end n k here is))
      (cases n le)

  own_z : (k : ℕ) → newest new.group k ≢ None → IsMetadataIn z (end_of z) k ⊎ IsFresh new.given k
  own_z k has = ⊎_elim (λ meta. inl ((top k).1 meta)) (λ fresh. inr fresh) (entered.sound.own k has)

  old_end : (k : ℕ) → IsMetadataIn y (end_of y) k → IsMetadataIn z (end_of z) k ⊎ IsFresh new.given k
  old_end k meta = ⊎_elim
      (λ on. inl ((top k).1 (on.metadata.0 ((old_face k).0 meta))))
      (λ fresh. inr fresh)
      (entered.blocks k ((old_marked k).0 (((story.sound (end_of y) (omega arith)).bits k).1 meta.0)))

  sets_z : (i k : ℕ) → w.left < i → i ≤ end_of z → z.sets i k ≡ true → IsMetadataIn z (end_of z) k ⊎ ((n : ℕ) → n < i → IsHeld n new.given k)
  sets_z i k from le is = ⊎_elim
      (λ early. ⊎_elim
      (λ meta. ⊎_elim (λ on. inl on) (λ fresh. inr (λ n lt. fresh_held n new.given k fresh)) (old_end k meta))
      (λ held. inr (λ n lt. entered.held n k (held n lt)))
      (space.given.sets i k from early (sym (longer.sets i k early) ∙ is)))
      (λ here. ⊎_elim (λ meta. inl meta) (λ fresh. inr (λ n lt. fresh_held n new.given k fresh)) (own_z k ((set.group k).1 (inr (subst (λ (j : ℕ). z.sets j k ≡ true) here is)))))
      (cases i le)

  unmarked_z : (k : ℕ) → is_reserved new.given k ≡ true → IsMarked (z.faces (end_of z)) k → ⊥
  unmarked_z k is marked = entered.sound.unmarked k is ((top_marked k).0 marked)

  pub space_entered : SpaceFits z w new
  space_entered = record {
    valid = subst IsValid (sym entered.same.sup) space.valid;
    history = histories;
    sealed = entered.same.sealed ∙ space.sealed;
    covered = below;
    geometry = ap (λ (v : Volume). v.geometry) last;
    ends = ap (λ (v : Volume). v.geometry) (longer.faces w.sealed space.covered) ∙ space.ends ∙ ap (λ (s : Super). geometry_with s sp.sealed_used) (sym entered.same.sup) ∙ ap (geometry_with new.sup) (sym entered.same.sealed_used);
    idle = λ none. (entered.idle none).1 ∙ space.idle (entered.idle none).0 ∙ sym entered.same.sealed_used;
    sized = entered.sound.sized;
    group = group_fits;
    given = record { unmarked = unmarked_z; blocks = blocks_z; sets = sets_z; own = own_z };
  }

  -- ---- the story

  unspoiled_low : (j k : ℕ) → j ≤ end_of y → IsUnspoiled y j k → IsUnspoiled z j k
  unspoiled_low j k le is = ⊎_elim (λ meta. inl ((low j k le).1 meta)) (λ free. inr (λ marked. free (low_marked j k le marked))) is

  held_end : (n k : ℕ) → IsHeld n new.given k → IsUnspoiled z (end_of z) k
  held_end n k held = inr (λ marked. unmarked_z k (held_reserved n new.given k held) marked)

  metadata_end : (i k : ℕ) → w.left ≤ i → i ≤ end_of z → IsMetadataIn z i k → IsUnspoiled z (end_of z) k
  metadata_end i k from le meta = ⊎_elim (λ stays. inl (stays.metadata.0 meta)) (λ held. held_end i k held) (blocks_z i k from le (((sound_z i le).bits k).1 meta.0))

  sets_end : (i k : ℕ) → w.left < i → i ≤ end_of z → z.sets i k ≡ true → IsUnspoiled z (end_of z) k
  sets_end i k from le is = ⊎_elim (λ meta. inl meta) (λ held. held_end w.left k (held w.left from)) (sets_z i k from le is)

  pub story_entered : IsStory z w.left
  story_entered = record {
    legal = subst (λ (x : Mounted). Legal x z.history) (sym longer.t0) (subst (Legal y.t0) histories entered.sound.legal);
    sound = sound_z;
    metadata = λ i j k from up le meta. ⊎_elim
        (λ early. unspoiled_low j k early (story.metadata i j k from up early ((low i k (omega (arith, up, early))).0 meta)))
        (λ here. subst (λ (n : ℕ). IsUnspoiled z n k) (sym here) (metadata_end i k from (omega (arith, up, le)) meta))
        (cases j le);
    sets = λ i j k from up le is. ⊎_elim
        (λ early. unspoiled_low j k early (story.sets i j k from up early (sym (longer.sets i k (omega (arith, up, early))) ∙ is)))
        (λ here. subst (λ (n : ℕ). IsUnspoiled z n k) (sym here) (sets_end i k from (omega (arith, up, le)) is))
        (cases j le);
  }
