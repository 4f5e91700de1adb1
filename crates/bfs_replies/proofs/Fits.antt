-- What a call changed goes into its open group, or nothing of it.
use Rattle.std.proofs.Common.{◌≡◌, ◌≤◌, ◌<◌, ◌+◌, ◌⊎◌, inl, inr, ℕ, zero, suc, ℤ, List, [], ◌∷◌, length, take, Bool, true, false, Option, Some, None, refl, sym, ap, ◌∙◌, subst, arith, length-take-le}
use Rattle.std.proofs.Math.Seq.{take-length}
use Rattle.std.specs.Prelude.{◌≢◌, ◌==◌, unwrap_or, is_some, cond}
use Rattle.std.specs.Option.{option_map}
use Rattle.std.proofs.lemmas.Bool.{true≢false}
use Rattle.bfs_super.specs.declared.geometry.Geometry.{Geometry}
use Rattle.bfs_super.specs.Conditions.{ceil}
use Rattle.bfs_bitmap.specs.Runs.{Room, Fits}
use Rattle.bfs_txn.specs.Changed.{Ascends, AreOfSize, newest, number_at, or_else, over}
use Rattle.bfs_tree.specs.declared.call.Call.{Call}
use Rattle.bfs_tree.specs.declared.reply.Reply.{Reply}
use Rattle.bfs_tree.specs.declared.state.Hold.{Hold}
use Rattle.bfs_tree.specs.Trees.{Tree}
use Rattle.bfs_device.specs.Layouts.{Layout, IsData, is_data, layout_of}
use Rattle.bfs_super.specs.declared.sup.Super.{Super}
use Rattle.bfs_super.specs.Geometry.{geometry_of}
use Rattle.bfs_sound.specs.Owners.{IsMetadata}
use Rattle.bfs_shift.specs.Shifts.{volume_in}
use Rattle.bfs_core.specs.Spaces.{IsFresh}
use Rattle.bfs_core.proofs.Masks.{data_of, data_when}
use Rattle.bfs_answers.specs.declared.answers.Allowance.{Allowance}
use Rattle.bfs_replies.specs.declared.keep.Unkept.{Unkept}
use Rattle.bfs_replies.specs.declared.keep.Unkept.TheVariants.{Damaged, TooMany, Beyond}
use Rattle.bfs_replies.specs.declared.calling.CallFault.TheVariants as calling
use Rattle.bfs_replies.specs.Books.{MayBeSealed}
use Rattle.bfs_moves.specs.Laws.{IsApart}
use Rattle.bfs_answers.specs.Called.{IsCalled, is_changed}
use Rattle.bfs_answers.specs.Answered.{IsAnswered}
use Rattle.bfs_replies.specs.Kept.{IsKept, IsStray, IsUnfit, IsCallFault, IsCrowding, AreFit, room_kept}
use Rattle.bfs_answers.specs.Files.{KeepsBlocks}
use Rattle.bfs_replies.proofs.Called.{same_place, some_is, is_there, some_or}

below_or_at : (j i : ℕ) → j < i + 1 → (j < i) ⊎ (i ≡ j)
below_or_at j i lt = grind (arith, lt)

-- one block more is a block of data
pub next_place : (l : Layout) (pairs : List (ℕ × List ℕ)) (mark i block : ℕ) (b : Bool) → ((j : ℕ) → mark ≤ j → j < i → IsData l (number_at pairs j)) → block ≡ number_at pairs i → b ≡ is_data l block → b ≡ true
    → (j : ℕ) → mark ≤ j → j < i + 1 → IsData l (number_at pairs j)
next_place l pairs mark i block b before is tested fine j from lt = by_place (below_or_at j i lt)
  where
    by_place : (j < i) ⊎ (i ≡ j) → IsData l (number_at pairs j)
    by_place (inl below) = before j from below
    by_place (inr same) = subst (λ (x : ℕ). IsData l (number_at pairs x)) same (subst (λ (x : ℕ). IsData l x) is (data_of l block (sym tested ∙ fine)))

-- what is told over a group is told below it
pub mapped : {A B : Type 0} (f : A → B) (o : Option A) (m : B) → option_map f o ≡ Some m → (x : A) × ((o ≡ Some x) × (f x ≡ m))
mapped f None m e = absurd (true≢false (ap is_some (sym e)))
mapped f (Some x) m e = (x, (refl, ap (λ o. unwrap_or o (f x)) e))

-- where the pairs of the open group are the same, so is their number
pub same_mark : (m n : ℕ) (xs ys : List (ℕ × List ℕ)) → m ≤ length xs → n ≤ length ys → take m xs ≡ take n ys → m ≡ n
same_mark m n xs ys a b e = sym (length-take-le m xs a) ∙ ap length e ∙ length-take-le n ys b

-- all pairs of a list
pub whole : (n : ℕ) (xs ys : List (ℕ × List ℕ)) → n ≡ length ys → xs ≡ ys → take n xs ≡ ys
whole n xs ys long same = ap (λ (zs : List (ℕ × List ℕ)). take n zs) same ∙ ap (λ (k : ℕ). take k ys) long ∙ take-length ys

-- ---- the blocks of pairs

left_some : (a b : Option (List ℕ)) → a ≢ None → or_else a b ≢ None
left_some None b some = absurd (some refl)
left_some (Some x) b some = λ none. true≢false (ap is_some none)

newest_at : (ps : List (ℕ × List ℕ)) (i : ℕ) → i < length ps → newest ps (number_at ps i) ≢ None
newest_at [] i inside = absurd (omega (arith, inside))
newest_at (p ∷ ps) zero inside = some_or (newest ps p.0) (p.0 == p.0) p.1 (same_place p.0)
newest_at (p ∷ ps) (suc i) inside = left_some (newest ps (number_at ps i)) (cond (number_at ps i == p.0) (Some p.1) None) (newest_at ps i (omega (arith, inside)))

pub record IsPair (ps : List (ℕ × List ℕ)) (k : ℕ) : Type 0 where
  pub place : ℕ
  pub inside : place < length ps
  pub is : number_at ps place ≡ k

found : (ps : List (ℕ × List ℕ)) (k : ℕ) → newest ps k ≢ None → IsPair ps k
found [] k some = absurd (some refl)
found (p ∷ ps) k some = by_rest (newest ps k) refl some (λ later. found ps k later)
  where
    at_first : (b : Bool) → (k == p.0) ≡ b → cond {A = Option (List ℕ)} b (Some p.1) None ≢ None → IsPair (p ∷ ps) k
    at_first true is there = record { place = 0; inside = omega arith; is = let e : p.0 ≡ k = grind (arith, is) in e }
    at_first false is there = absurd (there refl)

    by_rest : (o : Option (List ℕ)) → newest ps k ≡ o → or_else o (cond (k == p.0) (Some p.1) None) ≢ None → (newest ps k ≢ None → IsPair ps k) → IsPair (p ∷ ps) k
    by_rest None e there rest = at_first (k == p.0) refl there
    by_rest (Some x) e there rest = let r = rest (λ none. true≢false (ap is_some (sym e ∙ none))) in record { place = suc r.place; inside = (let h = r.inside in omega (arith, h)); is = r.is }

at_take : (ps : List (ℕ × List ℕ)) (n i : ℕ) → i < n → number_at (take n ps) i ≡ number_at ps i
at_take ps zero i lt = absurd (omega (arith, lt))
at_take [] (suc n) i lt = refl
at_take (p ∷ ps) (suc n) zero lt = refl
at_take (p ∷ ps) (suc n) (suc i) lt = at_take ps n i (omega (arith, lt))

ring_more : (n m : ℕ) → n ≤ m → n + ceil n 126 ≤ m + ceil m 126
ring_more n m le = grind (arith, le)

here_or_behind : (i mark : ℕ) → (i < mark) ⊎ (mark ≤ i)
here_or_behind i mark = grind arith

-- what an open group has may be sealed, where a call that was kept may
module _ (l : Layout) (size mark : ℕ) (before now kept : List (ℕ × List ℕ)) (sealed : MayBeSealed l size before) (same : take mark now ≡ before) (within : mark ≤ length now) (fit : AreFit l now mark)
    (reads : (k : ℕ) → newest kept k ≡ newest now k) (ascends : Ascends kept) (sized : AreOfSize size kept) (len : length kept ≤ length now) where
  all_data : (j : ℕ) → j < length now → IsData l (number_at now j)
  all_data j inside = by_place (here_or_behind j mark)
    where
      by_place : (j < mark) ⊎ (mark ≤ j) → IsData l (number_at now j)
      by_place (inl below) =
          let e : length before ≡ mark = ap length (sym same) ∙ length-take-le mark now within in
          subst (λ (x : ℕ). IsData l x) (ap (λ (ps : List (ℕ × List ℕ)). number_at ps j) (sym same) ∙ at_take now mark j below) (sealed.places j (omega (arith, e, below)))
      by_place (inr behind) = fit.places j behind inside

  pub may_be_sealed : MayBeSealed l size kept
  may_be_sealed = record {
    ascends = ascends;
    sized = sized;
    places = λ i inside. let r = found now (number_at kept i) (λ none. newest_at kept i inside (reads (number_at kept i) ∙ none)) in subst (λ (x : ℕ). IsData l x) r.is (all_data r.place r.inside);
    room = (let a = ring_more (length kept) (length now) len in let b = fit.room in omega (arith, a, b));
  }

-- a call that was answered is kept
pub kept_of : (g : Geometry) (v room new : Room) (m : ℕ → Option (List ℕ)) (tree : Tree) (holds : List Hold) (stamp : ℤ) (call : Call) (reply : Reply) (before now kept : List (ℕ × List ℕ)) (told : Option (ℕ → Option (List ℕ)))
    → told ≡ Some m → ((k : ℕ) → newest kept k ≡ newest now k) → new ≡ room_kept room → ((x : ℕ → Option (List ℕ)) → Fits room x → Fits new x) → IsAnswered g v room (over before m) tree holds stamp call reply (option_map (over now) told) (is_changed before) (is_changed now)
    → IsKept g v new m before kept tree holds stamp call reply
kept_of g v room new m tree holds stamp call reply before now kept told is reads settled keeps answered = record {
  room = room;
  kept = settled;
  after = answered.after;
  called = called;
  fits = keeps (over kept m) called.work.fits;
  by_tree = answered.by_tree;
  blocks = subst (λ (map : ℕ → Option (List ℕ)). KeepsBlocks (volume_in g (over before m)) (volume_in g map) tree answered.after call) (sym map_is ∙ sym same_over) answered.blocks;
}
  where
    same_over : over kept m ≡ over now m
    same_over = λ i k. or_else (reads k i) (m k)

    same_changed : is_changed kept ≡ is_changed now
    same_changed = λ i k. is_some (reads k i)

    some_map : Some (over now m) ≡ Some answered.map
    some_map = ap (option_map (over now)) (sym is) ∙ answered.is

    map_is : over now m ≡ answered.map
    map_is = ap (λ o. unwrap_or o (over now m)) some_map

    called : IsCalled g v room (over before m) (over kept m) tree answered.after (is_changed before) (is_changed kept)
    called = subst (λ (f : ℕ → Bool). IsCalled g v room (over before m) (over kept m) tree answered.after (is_changed before) f) (sym same_changed)
        (subst (λ (map : ℕ → Option (List ℕ)). IsCalled g v room (over before m) map tree answered.after (is_changed before) (is_changed now)) (sym map_is ∙ sym same_over) answered.called)

-- what a call has made of a volume has no block that no group may have
pub no_stray : (sup : Super) (v room : Room) (m map : ℕ → Option (List ℕ)) (tree after : Tree) (before now : List (ℕ × List ℕ)) (mark block : ℕ) → MayBeSealed (layout_of sup) sup.block_size before
    → IsCalled (geometry_of sup) v room m map tree after (is_changed before) (is_changed now) → IsStray (layout_of sup) now mark block → ⊥
no_stray sup v room m map tree after before now mark block sealed called stray = by_change (called.changed block changed)
  where
    changed : is_changed now block ≡ true
    changed = some_is (newest now block) (λ none. newest_at now stray.place stray.inside (ap (newest now) stray.is ∙ none))

    by_change : (is_changed before block ≡ true) ⊎ (IsApart (geometry_of sup) block × (IsMetadata (volume_in (geometry_of sup) map) after block ⊎ IsFresh room.given block)) → ⊥
    by_change (inl old) = let r = found before block (is_there (newest before block) old) in stray.stray (subst (λ (x : ℕ). IsData (layout_of sup) x) r.is (sealed.places r.place r.inside))
    by_change (inr now_is) = stray.stray (data_when sup block now_is.0.0 0 now_is.0.1)

-- so a call that is answered over a volume that is told is kept, but for want of room in the log or of what it is allowed
pub kept_but : (sup : Super) (v room : Room) (m : ℕ → Option (List ℕ)) (tree : Tree) (holds : List Hold) (stamp : ℤ) (call : Call) (reply : Reply) (told : Option (ℕ → Option (List ℕ))) (before now : List (ℕ × List ℕ)) (mark : ℕ) (allowed : Allowance) (was : ℕ) (why : Unkept) → MayBeSealed (layout_of sup) sup.block_size before
    → IsAnswered (geometry_of sup) v room m tree holds stamp call reply told (is_changed before) (is_changed now) → IsUnfit (layout_of sup) allowed was room.tally.used now mark why → IsCallFault (calling.Unkept why)
kept_but sup v room m tree holds stamp call reply told before now mark allowed was (Damaged block) sealed answered unfit = no_stray sup v room m answered.map tree answered.after before now mark block sealed answered.called unfit
kept_but sup v room m tree holds stamp call reply told before now mark allowed was (TooMany blocks) sealed answered unfit = tt
kept_but sup v room m tree holds stamp call reply told before now mark allowed was Beyond sealed answered unfit = tt

-- and in that case those of the open group and of the call are more than it takes
pub crowding_of : (l : Layout) (allowed : Allowance) (was used : ℕ) (now : List (ℕ × List ℕ)) (mark : ℕ) (why : Unkept) → IsUnfit l allowed was used now mark why → IsCrowding l allowed.logged mark (calling.Unkept why)
crowding_of l allowed was used now mark (TooMany blocks) unfit = (subst (λ (n : ℕ). l.len ≤ n + ceil n 126) (sym unfit.1) unfit.0, unfit.2)
crowding_of l allowed was used now mark (Damaged block) unfit = tt
crowding_of l allowed was used now mark Beyond unfit = tt
