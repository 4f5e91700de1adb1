-- The books of a device: their numbers, and how a step leaves them.
use Rattle.std.proofs.Common.{◌≡◌, ◌⊎◌, inl, inr, ⊎_elim, ℕ, ◌+◌, ◌<◌, ◌≤◌, List, [], ◌∷◌, ◌++◌, length, refl, sym, ◌∙◌, ap, subst, arith, Bool, true, false, cond, nat_lt, nat_le}
use Rattle.std.proofs.lemmas.Bool.{cond-true, le-leb}
use Rattle.bfs_super.specs.declared.sup.Super.{Super}
use Rattle.bfs_super.specs.Conditions.{natural}
use Rattle.bfs_txn.specs.declared.group.Group.{Group}
use Rattle.bfs_device.specs.declared.journal.Journal.{Journal}
use Rattle.bfs_device.specs.declared.journal.Phase.{Phase}
use Rattle.bfs_device.specs.declared.journal.Phase.TheVariants.{Log, LogSafe, Open, OpenSafe, Home as GoHome, HomeSafe, Tail, TailSafe, Pass}
use Rattle.bfs_device.specs.Layouts.{Layout, layout_of}
use Rattle.bfs_device.specs.Versions.{used_upto}
use Rattle.bfs_device.specs.Books.{IsPhaseFor, sealed_of, Books, Ready, books_of, Follow, IsPhaseOf, IsVersion, IsLastOf, is_durable, durable_in, durable_of, last_in, used_of, waiting}
use Rattle.bfs_device.specs.Steps.{calls_left, calls_in, calls_from, stepped, after_phase, next_phase, front_phase, first_phase}
use Rattle.bfs_device.specs.Seals.{used_behind, sealed_with, phase_with}
use Rattle.bfs_device.specs.Ahead.{IsSteady, HasOrder, IsGroupOf, GoesOn, geometry_with}
use Rattle.bfs_device.proofs.Fronts.{front_waiting}
use Rattle.bfs_device.proofs.Right.{front_not_durable, used_after}
use Rattle.bfs_device.proofs.Sealing.{last_behind}
use Rattle.bfs_device.proofs.Stepping.{Known}

pub steady_of : (j : Journal) → Ready j → IsSteady (books_of j)
steady_of j ready = record { valid = ready.valid; empty = ready.empty; follow = ready.follow; phase = ready.phase }

pub know_of : (b : Books) → IsSteady b → Known b
know_of b steady = record { valid = steady.valid; empty = ap natural steady.empty; follow = steady.follow; phase = steady.phase }

-- ---- the numbers

module _ (l : Layout) (size : ℕ) where
  lasts_low : (left used n : ℕ) (gs : List Group) → Follow l size left used gs → IsLastOf n gs → left < n
  lasts_low left used n [] follow one = absurd one
  lasts_low left used n (g ∷ gs) follow one = ⊎_elim
      (λ here. omega (arith, here, follow.0.follows, follow.0.sealed.order))
      (λ later. let lt = lasts_low g.last g.used n gs follow.1 later in omega (arith, lt, follow.0.follows, follow.0.sealed.order)) one

  lasts_high : (left used n : ℕ) (gs : List Group) → Follow l size left used gs → IsLastOf n gs → n ≤ last_in left gs
  lasts_high left used n [] follow one = absurd one
  lasts_high left used n (g ∷ gs) follow one = ⊎_elim
      (λ here. let le = last_behind l size g.last g.used gs follow.1 in omega (arith, le, here))
      (λ later. lasts_high g.last g.used n gs follow.1 later) one

  last_one : (left used : ℕ) (g : Group) (gs : List Group) → IsLastOf (last_in left (g ∷ gs)) (g ∷ gs)
  last_one left used g [] = inl refl
  last_one left used g (x ∷ gs) = inr (last_one g.last g.used x gs)

  used_all : (left used : ℕ) (gs : List Group) → Follow l size left used gs → used_upto (last_in left gs) gs used ≡ used_behind used gs
  used_all left used [] follow = refl
  used_all left used (g ∷ gs) follow =
      let le = last_behind l size g.last g.used gs follow.1 in
      ap (λ (u : ℕ). used_upto (last_in g.last gs) gs u) (cond-true (nat_le g.last (last_in g.last gs)) g.used used (le-leb g.last (last_in g.last gs) le))
      ∙ used_all g.last g.used gs follow.1

  -- the parts of the order, by whether the first group is durable
  module _ (left used : ℕ) (g : Group) (gs : List Group) (follow : Follow l size left used (g ∷ gs)) where
    first_left : (d : Bool) → left ≤ cond d g.last left
    first_left true = omega (arith, follow.0.follows, follow.0.sealed.order)
    first_left false = omega arith

    first_low : (d : Bool) (n : ℕ) → (n ≡ cond d g.last left) ⊎ IsLastOf n (cond d gs (g ∷ gs)) → cond d g.last left ≤ n
    first_low true n is = ⊎_elim (λ here. omega (arith, here)) (λ one. let lt = lasts_low g.last g.used n gs follow.1 one in omega (arith, lt)) is
    first_low false n is = ⊎_elim (λ here. omega (arith, here)) (λ one. let lt = lasts_low left used n (g ∷ gs) follow one in omega (arith, lt)) is

    first_high : (d : Bool) (n : ℕ) → (n ≡ cond d g.last left) ⊎ IsLastOf n (cond d gs (g ∷ gs)) → n ≤ last_in g.last gs
    first_high true n is = ⊎_elim (λ here. let le = last_behind l size g.last g.used gs follow.1 in omega (arith, here, le)) (λ one. lasts_high g.last g.used n gs follow.1 one) is
    first_high false n is = ⊎_elim (λ here. let le = last_behind l size left used (g ∷ gs) follow in omega (arith, here, le)) (λ one. lasts_high left used n (g ∷ gs) follow one) is

  first_newest : (left used : ℕ) (g : Group) (gs : List Group) (d : Bool) → (last_in g.last gs ≡ cond d g.last left) ⊎ IsLastOf (last_in g.last gs) (cond d gs (g ∷ gs))
  first_newest left used g [] true = inl refl
  first_newest left used g (x ∷ gs) true = inr (last_one g.last g.used x gs)
  first_newest left used g gs false = inr (last_one left used g gs)

order_in : (b : Books) (gs : List Group) → Follow (layout_of b.sup) b.sup.block_size b.left (natural b.sup.used_blocks) gs → (let c : Books = record b { groups = gs } in HasOrder c)
order_in b [] follow = record {
  left = omega arith;
  low = λ n is. ⊎_elim (λ here. omega (arith, here)) (λ one. absurd one) is;
  high = λ n is. ⊎_elim (λ here. omega (arith, here)) (λ one. absurd one) is;
  newest = inl refl;
  used = refl;
}
order_in b (g ∷ gs) follow = record {
  left = first_left l size b.left used g gs follow (is_durable b.phase);
  low = first_low l size b.left used g gs follow (is_durable b.phase);
  high = first_high l size b.left used g gs follow (is_durable b.phase);
  newest = first_newest l size b.left used g gs (is_durable b.phase);
  used = used_all l size b.left used (g ∷ gs) follow;
}
  where
    l : Layout
    l = layout_of b.sup

    size : ℕ
    size = b.sup.block_size

    used : ℕ
    used = natural b.sup.used_blocks

pub order_of : (b : Books) → IsSteady b → HasOrder b
order_of b steady = order_in b b.groups steady.follow

-- ---- how a step leaves them

module _ (b : Books) (g : Group) (gs : List Group) (steady : (let c : Books = record b { groups = g ∷ gs } in IsSteady c)) where
  abbrev at : Phase → Books
  at p = record b { groups = g ∷ gs; phase = p }

  known_at : (let c : Books = record b { groups = g ∷ gs } in Known c)
  known_at = know_of (record b { groups = g ∷ gs }) steady

  -- the phase goes on, and nothing else but the marks and the moment
  onward : (p : Phase) (new : Books) → IsPhaseOf g.blocks p → new.sup ≡ b.sup → new.groups ≡ g ∷ gs → new.left ≡ b.left → (is_durable p ≡ true → is_durable new.phase ≡ true) → GoesOn (at p) new
  onward p new fits sup groups left kept =
      let l : Layout = layout_of b.sup in
      let ahead : (d : Bool) → (is_durable p ≡ true → d ≡ true) → (n : ℕ) → (n ≡ cond d g.last b.left) ⊎ IsLastOf n (cond d gs (g ∷ gs)) → (n ≡ cond (is_durable p) g.last b.left) ⊎ IsLastOf n (cond (is_durable p) gs (g ∷ gs)) = λ d k n is. either (is_durable p) d k n is in
      let as_new : durable_of new ≡ cond (is_durable new.phase) g.last b.left = ap (λ (xs : List Group). durable_in new.left xs new.phase) groups ∙ ap (λ (k : ℕ). cond (is_durable new.phase) g.last k) left in
      let as_wait : waiting new.groups new.phase ≡ cond (is_durable new.phase) gs (g ∷ gs) = ap (λ (xs : List Group). waiting xs new.phase) groups in
      record {
        geometry = λ used. ap (λ (s : Super). geometry_with s used) sup;
        versions = λ n is. ahead (is_durable new.phase) kept n (⊎_elim (λ here. inl (here ∙ as_new)) (λ one. inr (subst (IsLastOf n) as_wait one)) is);
        used = λ n is. ap (λ (xs : List Group). used_upto n xs (natural new.sup.used_blocks)) groups ∙ ap (λ (s : Super). used_upto n (g ∷ gs) (natural s.used_blocks)) sup;
        sealed = ap (λ (xs : List Group). last_in new.left xs) groups;
        last_used = ap (λ (xs : List Group). used_behind (natural new.sup.used_blocks) xs) groups ∙ ap (λ (s : Super). used_behind (natural s.used_blocks) (g ∷ gs)) sup;
        groups = λ x is. subst (IsGroupOf x) groups is;
        left = omega (arith, left);
        durable = subst (λ (k : ℕ). cond (is_durable p) g.last b.left ≤ k) (sym as_new) (later (is_durable p) (is_durable new.phase) kept);
      }
    where
      either : (c d : Bool) → (c ≡ true → d ≡ true) → (n : ℕ) → (n ≡ cond d g.last b.left) ⊎ IsLastOf n (cond d gs (g ∷ gs)) → (n ≡ cond c g.last b.left) ⊎ IsLastOf n (cond c gs (g ∷ gs))
      either true true k n is = is
      either true false k n is = let bad : false ≡ true = k refl in absurd (cc)
      either false true k n is = ⊎_elim (λ here. inr (inl here)) (λ one. inr (inr one)) is
      either false false k n is = is

      later : (c d : Bool) → (c ≡ true → d ≡ true) → cond c g.last b.left ≤ cond d g.last b.left
      later true true k = omega arith
      later true false k = let bad : false ≡ true = k refl in absurd (cc)
      later false true k = omega (arith, steady.follow.0.follows, steady.follow.0.sealed.order)
      later false false k = omega arith

  -- the group has left
  gone : (p : Phase) (new : Books) → (let c : Books = at p in (n : ℕ) → IsVersion new n → used_of new n ≡ used_of c n) → ((used : ℕ) → geometry_with new.sup used ≡ geometry_with b.sup used)
      → natural new.sup.used_blocks ≡ g.used → new.groups ≡ gs → new.phase ≡ front_phase gs → new.left ≡ g.last → GoesOn (at p) new
  gone p new same_used geometry used groups phase left =
      let as_durable : durable_of new ≡ g.last = ap (λ (xs : List Group). durable_in new.left xs new.phase) groups ∙ ap (λ (q : Phase). durable_in new.left gs q) phase ∙ front_not_durable new.left gs ∙ left in
      let as_wait : waiting new.groups new.phase ≡ gs = ap (λ (xs : List Group). waiting xs new.phase) groups ∙ ap (λ (q : Phase). waiting gs q) phase ∙ front_waiting gs in
      record {
        geometry = geometry;
        versions = λ n is. ⊎_elim (λ here. first (is_durable p) n (inl (here ∙ as_durable))) (λ one. first (is_durable p) n (inr (subst (IsLastOf n) as_wait one))) is;
        used = same_used;
        sealed = ap (λ (xs : List Group). last_in new.left xs) groups ∙ ap (λ (k : ℕ). last_in k gs) left;
        last_used = ap (λ (xs : List Group). used_behind (natural new.sup.used_blocks) xs) groups ∙ ap (λ (k : ℕ). used_behind k gs) used;
        groups = λ x is. inr (subst (IsGroupOf x) groups is);
        left = omega (arith, left, steady.follow.0.follows, steady.follow.0.sealed.order);
        durable = subst (λ (k : ℕ). cond (is_durable p) g.last b.left ≤ k) (sym as_durable) (low (is_durable p));
      }
    where
      first : (d : Bool) (n : ℕ) → (n ≡ g.last) ⊎ IsLastOf n gs → (n ≡ cond d g.last b.left) ⊎ IsLastOf n (cond d gs (g ∷ gs))
      first true n is = is
      first false n is = inr is

      low : (d : Bool) → cond d g.last b.left ≤ g.last
      low true = omega arith
      low false = omega (arith, steady.follow.0.follows, steady.follow.0.sealed.order)

  next_home : (i : ℕ) → is_durable (next_phase g (GoHome i)) ≡ true
  next_home i = either (nat_lt (i + 1) (length g.blocks))
    where
      either : (d : Bool) → is_durable (cond d (GoHome (i + 1)) HomeSafe) ≡ true
      either true = refl
      either false = refl

  ahead_in : (p : Phase) → IsPhaseOf g.blocks p → GoesOn (at p) (after_phase g gs (at p) p)
  ahead_in (Log i) fits = onward (Log i) (after_phase g gs (at (Log i)) (Log i)) fits refl refl refl (λ k. let bad : false ≡ true = k in absurd (cc))
  ahead_in LogSafe fits = onward LogSafe (after_phase g gs (at LogSafe) LogSafe) fits refl refl refl (λ k. let bad : false ≡ true = k in absurd (cc))
  ahead_in Open fits = onward Open (after_phase g gs (at Open) Open) fits refl refl refl (λ k. let bad : false ≡ true = k in absurd (cc))
  ahead_in OpenSafe fits = onward OpenSafe (after_phase g gs (at OpenSafe) OpenSafe) fits refl refl refl (λ k. refl)
  ahead_in (GoHome i) fits = onward (GoHome i) (after_phase g gs (at (GoHome i)) (GoHome i)) fits refl refl refl (λ k. next_home i)
  ahead_in HomeSafe fits = onward HomeSafe (after_phase g gs (at HomeSafe) HomeSafe) fits refl refl refl (λ k. refl)
  ahead_in Tail fits = onward Tail (after_phase g gs (at Tail) Tail) fits refl refl refl (λ k. refl)
  ahead_in TailSafe fits = gone TailSafe (after_phase g gs (at TailSafe) TailSafe) (used_after b g gs known_at.valid known_at.empty known_at.follow TailSafe fits) (λ used. refl) refl refl refl refl
  ahead_in Pass fits = gone Pass (after_phase g gs (at Pass) Pass) (used_after b g gs known_at.valid known_at.empty known_at.follow Pass fits) (λ used. refl) (sym (known_at.follow.0.same_used fits)) refl refl refl

pub same_ahead : (b : Books) → GoesOn b b
same_ahead b = record { geometry = λ used. refl; versions = λ n is. is; used = λ n is. refl; sealed = refl; last_used = refl; groups = λ g is. is; left = omega arith; durable = omega arith }

ahead_groups : (b : Books) (gs : List Group) → (let c : Books = record b { groups = gs } in IsSteady c) → (let c : Books = record b { groups = gs } in GoesOn c (stepped c))
ahead_groups b [] steady = same_ahead (record b { groups = [] })
ahead_groups b (g ∷ gs) steady = ahead_in b g gs steady b.phase steady.phase

pub step_ahead : (b : Books) → IsSteady b → GoesOn b (stepped b)
step_ahead b steady = ahead_groups b b.groups steady

-- other marks, moments, rooms and stops
pub other_ahead : (b new : Books) → new.sup ≡ b.sup → new.groups ≡ b.groups → new.phase ≡ b.phase → new.left ≡ b.left → GoesOn b new
other_ahead b new sup groups phase left =
    let plain : Books = record b { marks = new.marks; spare = new.spare; moment = new.moment; stop = new.stop } in
    let is : plain ≡ new = λ i. record { sup = sym sup i; groups = sym groups i; phase = sym phase i; left = sym left i; marks = new.marks; spare = new.spare; moment = new.moment; stop = new.stop } in
    subst (GoesOn b) is (record { geometry = λ used. refl; versions = λ n is. is; used = λ n is. refl; sealed = refl; last_used = refl; groups = λ g is. is; left = omega arith; durable = omega arith })

-- ---- a seal makes one version more

only_more : (n : ℕ) (gs : List Group) (g : Group) → IsLastOf n (gs ++ g ∷ []) → IsLastOf n gs ⊎ (n ≡ g.last)
only_more n [] g one = ⊎_elim (λ here. inr here) (λ nothing. absurd nothing) one
only_more n (x ∷ gs) g one = ⊎_elim (λ here. inl (inl here)) (λ later. ⊎_elim (λ old. inl (inr old)) (λ new. inr new) (only_more n gs g later)) one

first_early : (ps : List (ℕ × List ℕ)) → is_durable (first_phase ps) ≡ false
first_early [] = refl
first_early (p ∷ ps) = refl

only_in : (b : Books) (gs : List Group) (g : Group) (n : ℕ) → (let c : Books = record b { groups = gs } in IsVersion (sealed_with c g) n → IsVersion c n ⊎ (n ≡ g.last))
only_in b [] g n is = either (is_durable (first_phase g.blocks)) (first_early g.blocks) is
  where
    either : (d : Bool) → d ≡ false → (n ≡ cond d g.last b.left) ⊎ IsLastOf n (cond d [] (g ∷ [])) → ((n ≡ b.left) ⊎ ⊥) ⊎ (n ≡ g.last)
    either true e is = let bad : true ≡ false = e in absurd (cc)
    either false e is = ⊎_elim (λ here. inl (inl here)) (λ one. ⊎_elim (λ last. inr last) (λ nothing. absurd nothing) one) is
only_in b (x ∷ gs) g n is = either (is_durable b.phase) is
  where
    either : (d : Bool) → (n ≡ cond d x.last b.left) ⊎ IsLastOf n (cond d (gs ++ g ∷ []) (x ∷ (gs ++ g ∷ []))) → ((n ≡ cond d x.last b.left) ⊎ IsLastOf n (cond d gs (x ∷ gs))) ⊎ (n ≡ g.last)
    either true is = ⊎_elim (λ here. inl (inl here)) (λ one. ⊎_elim (λ old. inl (inr old)) (λ new. inr new) (only_more n gs g one)) is
    either false is = ⊎_elim (λ here. inl (inl here)) (λ one. ⊎_elim (λ old. inl (inr old)) (λ new. inr new) (only_more n (x ∷ gs) g one)) is

pub sealed_only : (b : Books) (g : Group) (n : ℕ) → IsVersion (sealed_with b g) n → IsVersion b n ⊎ (n ≡ g.last)
sealed_only b g n is = only_in b b.groups g n is

group_more : (x g : Group) (gs : List Group) → IsGroupOf x (gs ++ g ∷ []) → IsGroupOf x gs ⊎ (x ≡ g)
group_more x g [] is = ⊎_elim (λ here. inr here) (λ nothing. absurd nothing) is
group_more x g (y ∷ gs) is = ⊎_elim (λ here. inl (inl here)) (λ later. ⊎_elim (λ old. inl (inr old)) (λ new. inr new) (group_more x g gs later)) is

pub sealed_groups : (b : Books) (x g : Group) → IsGroupOf x (sealed_with b g).groups → IsGroupOf x b.groups ⊎ (x ≡ g)
sealed_groups b x g is = group_more x g b.groups is

durable_early : (b : Books) (g : Group) (gs : List Group) → durable_in b.left (gs ++ g ∷ []) (phase_with g gs b.phase) ≡ durable_in b.left gs b.phase
durable_early b g [] = ap (λ (d : Bool). cond d g.last b.left) (first_early g.blocks)
durable_early b g (x ∷ gs) = refl

pub sealed_durable : (b : Books) (g : Group) → durable_of (sealed_with b g) ≡ durable_of b
sealed_durable b g = durable_early b g b.groups

-- ---- no call is left

phase_left : (ps : List (ℕ × List ℕ)) (p : Phase) → IsPhaseOf ps p → 0 < calls_from ps p
phase_left ps (Log at) fits = omega arith
phase_left ps LogSafe fits = omega arith
phase_left ps Open fits = omega arith
phase_left ps OpenSafe fits = omega arith
phase_left ps (GoHome at) fits = omega arith
phase_left ps HomeSafe fits = omega arith
phase_left ps Tail fits = omega arith
phase_left ps TailSafe fits = omega arith
phase_left ps Pass fits = omega arith

idle_in : (b : Books) (gs : List Group) → IsPhaseFor gs b.phase → calls_in gs b.phase ≡ 0 → durable_in b.left gs b.phase ≡ last_in b.left gs
idle_in b [] fits none = refl
idle_in b (g ∷ gs) fits none = let some = phase_left g.blocks b.phase fits in absurd (omega (arith, some, none))

pub idle_all : (b : Books) → IsSteady b → calls_left b ≡ 0 → durable_of b ≡ sealed_of b
idle_all b steady none = idle_in b b.groups steady.phase none
