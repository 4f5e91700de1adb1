-- How many blocks a call that was kept has changed.
use Rattle.std.proofs.Common.{◌≡◌, ◌≢◌, ◌≤◌, ◌<◌, ◌+◌, ◌∙◌, ℕ, zero, suc, List, [], ◌∷◌, length, take, drop, Bool, true, false, Option, Some, None, refl, sym, ap, arith}
use Rattle.std.specs.Prelude.{map, ◌==◌, cond, is_some}
use Rattle.std.proofs.lemmas.Bool.{true≢false}
use Rattle.std.proofs.lemmas.List.{length-drop}
use Rattle.bfs_base.specs.Lists.{times, Has}
use Rattle.bfs_bitmap.specs.Runs.{Room}
use Rattle.bfs_txn.specs.Changed.{newest, or_else}
use Rattle.bfs_replies.specs.Kept.{IsWithin, StaysIdle, room_kept}

-- the blocks of pairs
abbrev blocks_of : List (ℕ × List ℕ) → List ℕ
blocks_of ps = map (λ p. p.0) ps

first_or_rest : (p k n : ℕ) (b : Bool) → (p == k) ≡ b → (b ≡ false → 0 < n) → 0 < cond (p == k) 1 0 + n
first_or_rest p k n true is rest = let e : cond {A = ℕ} (p == k) 1 0 ≡ 1 = ap (λ (c : Bool). cond {A = ℕ} c 1 0) is in omega (arith, e)
first_or_rest p k n false is rest = let some = rest refl in omega (arith, some)

has_newest : (ps : List (ℕ × List ℕ)) (k : ℕ) → newest ps k ≢ None → Has (blocks_of ps) k
has_newest [] k some = absurd (some refl)
has_newest (p ∷ ps) k some = by_rest (newest ps k) refl some (λ later. has_newest ps k later)
  where
    at_first : (b : Bool) → (k == p.0) ≡ b → cond {A = Option (List ℕ)} b (Some p.1) None ≢ None → (p.0 == k) ≡ true
    at_first true is there = grind (arith, is)
    at_first false is there = absurd (there refl)

    by_rest : (o : Option (List ℕ)) → newest ps k ≡ o → or_else o (cond (k == p.0) (Some p.1) None) ≢ None → (newest ps k ≢ None → Has (blocks_of ps) k) → Has (blocks_of (p ∷ ps)) k
    by_rest None e there rest = let h : 0 < cond (p.0 == k) 1 0 + times k (blocks_of ps) = first_or_rest p.0 k (times k (blocks_of ps)) true (at_first (k == p.0) refl there) (λ bad. absurd cc) in h
    by_rest (Some x) e there rest =
        let later : Has (blocks_of ps) k = rest (λ none. let bad : Some x ≡ None = sym e ∙ none in absurd cc) in
        let some : 0 < times k (blocks_of ps) = later in
        let h : 0 < cond (p.0 == k) 1 0 + times k (blocks_of ps) = omega (arith, some) in h

blocks_many : (ps : List (ℕ × List ℕ)) → length (blocks_of ps) ≡ length ps
blocks_many [] = refl
blocks_many (p ∷ ps) = ap suc (blocks_many ps)

-- what is newer in a list than in its first pairs is among the others
behind : (ps : List (ℕ × List ℕ)) (n k : ℕ) → newest ps k ≢ newest (take n ps) k → Has (blocks_of (drop n ps)) k
behind ps zero k other = has_newest ps k other
behind [] (suc n) k other = absurd (other refl)
behind (p ∷ ps) (suc n) k other = behind ps n k (λ e. other (ap (λ (o : Option (List ℕ)). or_else o (cond (k == p.0) (Some p.1) None)) e))

module _ (v room : Room) (m : ℕ → Option (List ℕ)) (before now kept : List (ℕ × List ℕ)) (mark logged taken : ℕ) (same : take mark now ≡ before) (reads : (k : ℕ) → newest kept k ≡ newest now k)
    (few : length now ≤ mark + logged) (rise : room.tally.used ≤ v.tally.used + taken) where
  pub within : IsWithin logged taken v (room_kept room) m before kept
  within = record {
    changed = blocks_of (drop mark now);
    few = let a = blocks_many (drop mark now) in let b = length-drop mark now in omega (arith, few, a, b);
    are = λ k other. behind now mark k (λ e. other (ap (λ (o : Option (List ℕ)). or_else o (m k)) (reads k ∙ e ∙ ap (λ (ps : List (ℕ × List ℕ)). newest ps k) same)));
    used = rise;
  }

-- a call that changed nothing
pub within_none : (v : Room) (m : ℕ → Option (List ℕ)) (before : List (ℕ × List ℕ)) (logged taken : ℕ) → IsWithin logged taken v (room_kept v) m before before
within_none v m before logged taken = record { changed = []; few = omega arith; are = λ k other. absurd (other refl); used = omega arith }

-- fewer are no more than more
pub within_more : (few more takes most : ℕ) (v new : Room) (m : ℕ → Option (List ℕ)) (before now : List (ℕ × List ℕ)) → few ≤ more → takes ≤ most → IsWithin few takes v new m before now → IsWithin more most v new m before now
within_more few more takes most v new m before now le lt w = record { changed = w.changed; few = (let a = w.few in omega (arith, a, le)); are = w.are; used = (let a = w.used in omega (arith, a, lt)) }

-- ---- no block waits for a seal

or_none : (a b : Option (List ℕ)) → is_some b ≡ true → or_else a b ≡ None → ⊥
or_none None b there none = true≢false (sym there ∙ ap is_some none)
or_none (Some x) b there none = true≢false (ap is_some none)

same_number : (n : ℕ) → (n == n) ≡ true
same_number n = grind arith

-- pairs of which no block has newest bytes are none
none_newest : (ps : List (ℕ × List ℕ)) → ((k : ℕ) → newest ps k ≡ None) → ps ≡ []
none_newest [] none = refl
none_newest (p ∷ ps) none = absurd (or_none (newest ps p.0) (cond (p.0 == p.0) (Some p.1) None) (ap (λ (b : Bool). is_some (cond {A = Option (List ℕ)} b (Some p.1) None)) (same_number p.0)) (none p.0))

take_none : (n : ℕ) → take {A = ℕ × List ℕ} n [] ≡ []
take_none zero = refl
take_none (suc n) = refl

-- a call that was kept
pub idle_kept : (v room new : Room) (before now kept : List (ℕ × List ℕ)) (mark : ℕ) → take mark now ≡ before → ((k : ℕ) → newest kept k ≡ newest now k) → (length now ≡ 0 → room.tally.used ≡ v.tally.used) → new.tally.used ≡ room.tally.used → StaysIdle v new before kept
idle_kept v room new before now kept mark same reads idle used empty =
    let none : now ≡ [] = none_newest now (λ k. sym (reads k) ∙ ap (λ (ps : List (ℕ × List ℕ)). newest ps k) empty) in
    (sym same ∙ ap (take mark) none ∙ take_none mark, used ∙ idle (ap length none))

-- nothing has changed
pub idle_same : (v new : Room) (before now : List (ℕ × List ℕ)) → new ≡ v → now ≡ before → StaysIdle v new before now
idle_same v new before now room group empty = (sym group ∙ empty, ap (λ (r : Room). r.tally.used) room)

pub idle_then : (v mid new : Room) (before between now : List (ℕ × List ℕ)) → mid ≡ v → between ≡ before → StaysIdle mid new between now → StaysIdle v new before now
idle_then v mid new before between now room group idle empty = let i = idle empty in (sym group ∙ i.0, i.1 ∙ ap (λ (r : Room). r.tally.used) room)
