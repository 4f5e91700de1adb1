-- What a call of a device leaves of the sectors of files' blocks.
use Rattle.std.proofs.Common.{◌≡◌, ◌≢◌, ⊎_elim, inl, inr, ◌<◌, ◌≤◌, ◌+◌, ◌*◌, ℕ, zero, suc, List, [], ◌∷◌, length, take, Bool, true, false, cond, ◌==◌, Option, Some, None, refl, sym, ◌∙◌, ap, subst, arith}
use Rattle.std.proofs.lemmas.Bool.{true≢false, cond-false}
use Rattle.bfs_disk.specs.State.{State, IsOneOf, IsHalfWritten, names, settled, written}
use Rattle.bfs_disk.specs.Disk.{told_written}
use Rattle.bfs_super.specs.Layout.{sector_of}
use Rattle.bfs_log.specs.Replay.{log_from}
use Rattle.bfs_super.specs.Conditions.{natural}
use Rattle.bfs_txn.specs.Changed.{newest, number_at, bytes_at, or_else}
use Rattle.bfs_txn.specs.declared.group.Group.{Group}
use Rattle.bfs_device.specs.declared.journal.Phase.{Phase}
use Rattle.bfs_device.specs.declared.journal.Phase.TheVariants.{Log, LogSafe, Open, OpenSafe, Home as GoHome, HomeSafe, Tail, TailSafe, Pass}
use Rattle.bfs_device.specs.declared.journal.Progress.{Progress}
use Rattle.bfs_device.specs.declared.journal.Progress.TheVariants as made
use Rattle.bfs_device.specs.Layouts.{IsData, layout_of, slot, log_block, opened_of, closed_of}
use Rattle.bfs_device.specs.Books.{Books, IsPhaseFor, IsPhaseOf, Follow, durable_of}
use Rattle.bfs_device.specs.Calls.{Write, Barrier, IsFailed}
use Rattle.bfs_device.specs.Data.{IsRested, newest_in}
use Rattle.bfs_device.specs.Steps.{call_of, progress_to, FailedFront, PrintsBack, ReadFront}
use Rattle.bfs_device.specs.Told.{HasCalled, HasMarked}
use Rattle.bfs_device.specs.Ahead.{IsSteady}
use Rattle.bfs_device.proofs.Failing.{block_others, super_others}
use Rattle.bfs_device.proofs.Going.{slot_inside, log_not_data}
use Rattle.bfs_device.proofs.Phasing.{long_block, long_home}
use Rattle.bfs_device.proofs.Sizes.{good, from_low}
use Rattle.bfs_device.specs.Contents.{KeepsContents}

-- ---- reads, and room

pub same_contents_kept : (b new : Books) (st next : State) → durable_of new ≡ durable_of b → next ≡ st → KeepsContents b new st next
same_contents_kept b new st next durable same = record {
  low = (let e = durable in omega (arith, e));
  fewer = λ k j d none lt c is. subst (λ (s : State). IsOneOf (s.contents ((layout_of b.sup).sectors * k + j)) c) same is;
  newest = λ more k j d none lt. absurd (omega (arith, more, durable));
}

one_state : (a b : State) → Some a ≡ Some b → a ≡ b
one_state a b e = cc

pub read_contents : (b new : Books) (told told' : Option State) → durable_of new ≡ durable_of b → told' ≡ told → (st next : State) → told ≡ Some st → told' ≡ Some next → KeepsContents b new st next
read_contents b new told told' durable same st next is now = same_contents_kept b new st next durable (one_state next st (sym now ∙ same ∙ is))

pub rested_contents : (b new : Books) (told told' : Option State) → IsRested b new → told' ≡ told → (st next : State) → told ≡ Some st → told' ≡ Some next → KeepsContents b new st next
rested_contents b new told told' rests same st next is now = read_contents b new told told' (ap durable_of rests) same st next is now

-- ---- a step

-- a write elsewhere leaves them
apart_contents : (b new : Books) (st next : State) → durable_of new ≡ durable_of b → ((k j : ℕ) → IsData (layout_of b.sup) k → newest_in b.groups k ≡ None → j < (layout_of b.sup).sectors → next.contents ((layout_of b.sup).sectors * k + j) ≡ st.contents ((layout_of b.sup).sectors * k + j)) → KeepsContents b new st next
apart_contents b new st next durable same = record {
  low = (let e = durable in omega (arith, e));
  fewer = λ k j d none lt c is. subst (λ (cs : List (List ℕ)). IsOneOf cs c) (same k j d none lt) is;
  newest = λ more k j d none lt. absurd (omega (arith, more, durable));
}

first_of : (cs : List (List ℕ)) (c : List ℕ) → IsOneOf (take 1 cs) c → IsOneOf cs c
first_of [] c is = absurd is
first_of (x ∷ xs) c (inl is) = inl is
first_of (x ∷ xs) c (inr is) = absurd is

-- a barrier leaves the newest
barrier_contents : (b new : Books) (st next : State) → durable_of b ≤ durable_of new → next ≡ settled st → KeepsContents b new st next
barrier_contents b new st next low same = record {
  low = low;
  fewer = λ k j d none lt c is. first_of (st.contents ((layout_of b.sup).sectors * k + j)) c (subst (λ (s : State). IsOneOf (s.contents ((layout_of b.sup).sectors * k + j)) c) same is);
  newest = λ more k j d none lt. ap (λ (s : State). s.contents ((layout_of b.sup).sectors * k + j)) same;
}

-- what a write that succeeded tells
written_at : (st next : State) (at : ℕ) (bytes : List ℕ) (K : ℕ) → Some next ≡ told_written (Some st) at bytes → names at bytes K ≡ false → next.contents K ≡ st.contents K
written_at st next at bytes K told other =
    let same : next ≡ written st at bytes = one_state next (written st at bytes) told in
    ap (λ (s : State). s.contents K) same ∙ cond-false (names at bytes K) _ (st.contents K) other

half_at : (st next : State) (at : ℕ) (bytes : List ℕ) (K : ℕ) → IsHalfWritten st at bytes next → names at bytes K ≡ false → next.contents K ≡ st.contents K
half_at st next at bytes K half other = ⊎_elim (λ same. same) (λ both. absurd (true≢false (sym both.0 ∙ other))) (half.each K)

module _ (b new : Books) (st next : State) (steady : IsSteady b) where
  apart_log : (k j place : ℕ) (bytes : List ℕ) → IsData (layout_of b.sup) k → j < (layout_of b.sup).sectors → (layout_of b.sup).first ≤ place → place < (layout_of b.sup).first + (layout_of b.sup).len → length bytes ≡ 512 * (layout_of b.sup).sectors
      → names ((layout_of b.sup).sectors * place) bytes ((layout_of b.sup).sectors * k + j) ≡ false
  apart_log k j place bytes d lt low high long = block_others (layout_of b.sup).sectors place k j bytes long (λ same. log_not_data (layout_of b.sup) k (omega (arith, same, low)) (omega (arith, same, high)) d) lt

  apart_super : (k j : ℕ) (bytes : List ℕ) → IsData (layout_of b.sup) k → length bytes ≡ 512 → names 1 bytes ((layout_of b.sup).sectors * k + j) ≡ false
  apart_super k j bytes d long = super_others (layout_of b.sup).sectors k j bytes (good b.sup steady.valid).two d.0 long

  -- a step that succeeded, by what it tells
  told_contents : (p : Progress) → HasCalled (layout_of b.sup) (Some st) (Some next) p → HasMarked b new p → durable_of b ≤ durable_of new → ((place : ℕ) → p ≡ made.Home place → newest_in b.groups place ≢ None) → KeepsContents b new st next
  told_contents made.Logged called marked low home = apart_contents b new st next marked.0 (λ k j d none lt. written_at st next _ called.1 _ called.5 (apart_log k j called.0 called.1 d lt called.2 called.3 called.4))
  told_contents made.LogSafe called marked low home = barrier_contents b new st next low (one_state next (settled st) called)
  told_contents made.Opened called marked low home = apart_contents b new st next marked.0 (λ k j d none lt. written_at st next 1 called.0 _ called.2 (apart_super k j called.0 d called.1))
  told_contents (made.Durable n) called marked low home = barrier_contents b new st next low (one_state next (settled st) called)
  told_contents (made.Home place) called marked low home = apart_contents b new st next marked.0 (λ k j d none lt. written_at st next _ called.0 _ called.2
      (block_others (layout_of b.sup).sectors place k j called.0 called.1 (λ same. home place refl (subst (λ (x : ℕ). newest_in b.groups x ≡ None) same none)) lt))
  told_contents made.HomeSafe called marked low home = barrier_contents b new st next low (one_state next (settled st) called)
  told_contents made.TailMoved called marked low home = apart_contents b new st next marked.0 (λ k j d none lt. written_at st next 1 called.0 _ called.2 (apart_super k j called.0 d called.1))
  told_contents made.TailSafe called marked low home = barrier_contents b new st next low (one_state next (settled st) called)
  told_contents made.Idle called marked low home = same_contents_kept b new st next marked.0 (one_state next st called)

-- ---- a group has the blocks of its pairs

pair_is : (ps : List (ℕ × List ℕ)) (i : ℕ) → i < length ps → newest ps (number_at ps i) ≢ None
pair_is [] i inside = absurd (omega (arith, inside))
pair_is (p ∷ ps) zero inside = λ none. absurd (some_last (newest ps p.0) p.1 (none_of none))
  where
    none_of : newest (p ∷ ps) p.0 ≡ None → or_else (newest ps p.0) (Some p.1) ≡ None
    none_of none = sym (ap (λ (d : Bool). or_else (newest ps p.0) (cond d (Some p.1) None)) (let e : (p.0 == p.0) ≡ true = grind arith in e)) ∙ none

    some_last : (o : Option (List ℕ)) (x : List ℕ) → or_else o (Some x) ≡ None → ⊥
    some_last None x bad = absurd (cc)
    some_last (Some y) x bad = absurd (cc)
pair_is (p ∷ ps) (suc i) inside = λ none. pair_is ps i (omega (arith, inside)) (front_none (newest ps (number_at ps i)) (cond (number_at ps i == p.0) (Some p.1) None) none)
  where
    front_none : (a o : Option (List ℕ)) → or_else a o ≡ None → a ≡ None
    front_none None o bad = refl
    front_none (Some x) o bad = absurd (cc)

front_has : (g : Group) (gs : List Group) (k : ℕ) → newest g.blocks k ≢ None → newest_in (g ∷ gs) k ≢ None
front_has g gs k some none = some (last_none (newest_in gs k) (newest g.blocks k) none)
  where
    last_none : (a o : Option (List ℕ)) → or_else a o ≡ None → o ≡ None
    last_none None o bad = bad
    last_none (Some x) o bad = absurd (cc)

home_has : (b : Books) (g : Group) (gs : List Group) (i : ℕ) → b.groups ≡ g ∷ gs → i < length g.blocks → newest_in b.groups (number_at g.blocks i) ≢ None
home_has b g gs i is inside = subst (λ (xs : List Group). newest_in xs (number_at g.blocks i) ≢ None) (sym is) (front_has g gs (number_at g.blocks i) (pair_is g.blocks i inside))

-- ---- a step that succeeded, and one that failed

module _ (b new : Books) (st next : State) (steady : IsSteady b) where
  home_told : (groups : List Group) (phase : Phase) → b.groups ≡ groups → IsPhaseFor groups phase → (place : ℕ) → progress_to groups phase ≡ made.Home place → newest_in b.groups place ≢ None
  home_told [] phase is fits place same = absurd (cc)
  home_told (g ∷ gs) (GoHome i) is fits place same = let e : number_at g.blocks i ≡ place = cc in subst (λ (k : ℕ). newest_in b.groups k ≢ None) e (home_has b g gs i is fits)
  home_told (g ∷ gs) (Log i) is fits place same = absurd (cc)
  home_told (g ∷ gs) LogSafe is fits place same = absurd (cc)
  home_told (g ∷ gs) Open is fits place same = absurd (cc)
  home_told (g ∷ gs) OpenSafe is fits place same = absurd (cc)
  home_told (g ∷ gs) HomeSafe is fits place same = absurd (cc)
  home_told (g ∷ gs) Tail is fits place same = absurd (cc)
  home_told (g ∷ gs) TailSafe is fits place same = absurd (cc)
  home_told (g ∷ gs) Pass is fits place same = absurd (cc)

  pub done_contents : (p : Progress) → p ≡ progress_to b.groups b.phase → HasCalled (layout_of b.sup) (Some st) (Some next) p → HasMarked b new p → durable_of b ≤ durable_of new → KeepsContents b new st next
  done_contents p is called marked low = told_contents b new st next steady p called marked low (λ place home. home_told b.groups b.phase refl steady.phase place (sym is ∙ home))

  half_kept : (at : ℕ) (bytes : List ℕ) → durable_of new ≡ durable_of b → IsFailed (Write at bytes) (Some st) (Some next)
      → ((k j : ℕ) → IsData (layout_of b.sup) k → newest_in b.groups k ≡ None → j < (layout_of b.sup).sectors → names at bytes ((layout_of b.sup).sectors * k + j) ≡ false) → KeepsContents b new st next
  half_kept at bytes durable failed other =
      let same : next ≡ failed.0 = one_state next failed.0 failed.1 in
      let half : IsHalfWritten st at bytes next = subst (IsHalfWritten st at bytes) (sym same) failed.2 in
      apart_contents b new st next durable (λ k j d none lt. half_at st next at bytes ((layout_of b.sup).sectors * k + j) half (other k j d none lt))

  rest_kept : durable_of new ≡ durable_of b → IsFailed Barrier (Some st) (Some next) → KeepsContents b new st next
  rest_kept durable failed = same_contents_kept b new st next durable (one_state next st failed)

  module _ (durable : durable_of new ≡ durable_of b) (g : Group) (gs : List Group) (is : b.groups ≡ g ∷ gs) where
    follow : Follow (layout_of b.sup) b.sup.block_size b.left (natural b.sup.used_blocks) (g ∷ gs)
    follow = subst (Follow (layout_of b.sup) b.sup.block_size b.left (natural b.sup.used_blocks)) is steady.follow

    by_phase : (p : Phase) → IsPhaseOf g.blocks p → PrintsBack b.sup g p → IsFailed (call_of b.sup g p) (Some st) (Some next) → KeepsContents b new st next
    by_phase (Log i) fits prints failed =
        let place : ℕ = slot (layout_of b.sup) (log_from b.sup) i in
        let inside = slot_inside (layout_of b.sup) (log_from b.sup) i (from_low b.sup steady.valid) (omega (arith, fits, follow.0.sealed.room)) in
        half_kept ((layout_of b.sup).sectors * place) (log_block b.sup g.blocks i) durable failed
        (λ k j d none lt. apart_log b new st next steady k j place (log_block b.sup g.blocks i) d lt inside.0 inside.1 (long_block b.sup g steady.valid follow.0.sealed (ap natural steady.empty) i fits))
    by_phase LogSafe fits prints failed = rest_kept durable failed
    by_phase Open fits prints failed = half_kept 1 (sector_of (opened_of b.sup g)) durable failed (λ k j d none lt. apart_super b new st next steady k j (sector_of (opened_of b.sup g)) d prints.2)
    by_phase OpenSafe fits prints failed = rest_kept durable failed
    by_phase (GoHome i) fits prints failed =
        half_kept ((layout_of b.sup).sectors * number_at g.blocks i) (bytes_at g.blocks i) durable failed
        (λ k j d none lt. block_others (layout_of b.sup).sectors (number_at g.blocks i) k j (bytes_at g.blocks i) (long_home b.sup g steady.valid follow.0.sealed (ap natural steady.empty) i fits)
        (λ same. home_has b g gs i is fits (subst (λ (x : ℕ). newest_in b.groups x ≡ None) same none)) lt)
    by_phase HomeSafe fits prints failed = rest_kept durable failed
    by_phase Tail fits prints failed = half_kept 1 (sector_of (closed_of b.sup g)) durable failed (λ k j d none lt. apart_super b new st next steady k j (sector_of (closed_of b.sup g)) d prints.2)
    by_phase TailSafe fits prints failed = rest_kept durable failed
    by_phase Pass fits prints failed = rest_kept durable failed

  pub failed_contents : durable_of new ≡ durable_of b → (groups : List Group) (phase : Phase) → b.groups ≡ groups → IsPhaseFor groups phase → ReadFront b.sup groups phase → FailedFront b.sup groups phase (Some st) (Some next) → KeepsContents b new st next
  failed_contents durable [] phase is fits read failed = absurd failed
  failed_contents durable (g ∷ gs) phase is fits read failed = by_phase durable g gs is phase fits read failed
