-- The last stamp of a history that gets an entry.
use Rattle.std.proofs.Common.{◌≡◌, ◌≤◌, ◌<◌, ◌+◌, ◌∙◌, ◌^◌, ◌*◌, ◌≤ℤ◌, ◌+ℤ◌, pos, ℕ, suc, ℤ, List, [], ◌∷◌, ◌++◌, length, Bool, true, false, cond, refl, sym, ap, subst, arith, length-append}
use Rattle.std.specs.Prelude.{◌==◌, not}
use Rattle.std.specs.List.{fold}
use Rattle.std.proofs.lemmas.Int.{int_max_is, ints}
use Rattle.bfs_base.specs.Lists.{times, Has}
use Rattle.bfs_tree.specs.declared.reply.Entry.{Entry}
use Rattle.bfs_tree.specs.Histories.{drawn, last_stamp}
use Rattle.bfs_replies.specs.Books.{IsLastStamp, without}

folded : (history : List Entry) (entry : Entry) (z : ℤ) → fold (λ last e. e.stamp) z (history ++ entry ∷ []) ≡ entry.stamp
folded [] entry z = refl
folded (e ∷ es) entry z = folded es entry e.stamp

pub last_of : (history : List Entry) (entry : Entry) → last_stamp (history ++ entry ∷ []) ≡ entry.stamp
last_of history entry = folded history entry (pos 0)

-- a stamp that is drawn is not negative, and at most one more than the last, or one of the clock
pub drawn_low : (last : ℤ) (now : ℕ) → pos 0 ≤ℤ last → pos 0 ≤ℤ drawn last now
drawn_low last now low = let is = int_max_is (last +ℤ pos 1) (pos (now * 65536)) in omega (arith, ints, low, is)

pub drawn_high : (last : ℤ) (now n : ℕ) → pos 0 ≤ℤ last → last ≤ℤ pos (2 ^ 56 + n) → now < 2 ^ 40 → drawn last now ≤ℤ pos (2 ^ 56 + (n + 1))
drawn_high last now n low high few = let is = int_max_is (last +ℤ pos 1) (pos (now * 65536)) in omega (arith, ints, low, high, few, is)

-- the last stamp of a history with one entry more
pub last_noted : (history : List Entry) (last : ℤ) (now : ℕ) (entry : Entry) → IsLastStamp history last → now < 2 ^ 40 → entry.stamp ≡ drawn last now → IsLastStamp (history ++ entry ∷ []) (drawn last now)
last_noted history last now entry so_far few is = record {
  last_is = sym is ∙ sym (last_of history entry);
  low = drawn_low last now so_far.low;
  high = subst (λ (n : ℕ). drawn last now ≤ℤ pos (2 ^ 56 + n)) (sym (length-append history (entry ∷ []))) (drawn_high last now (length history) so_far.low so_far.high few);
}

-- promises that are taken out are no more than there are
pub promises_fewer : (session : ℕ) (promised : List ℕ) → length (without session promised) ≤ length promised
promises_fewer session [] = omega arith
promises_fewer session (p ∷ ps) = at (p == session) (promises_fewer session ps)
  where
    at : (b : Bool) → length (without session ps) ≤ length ps → length (cond (not b) (p ∷ without session ps) (without session ps)) ≤ suc (length ps)
    at true le = omega (arith, le)
    at false le = omega (arith, le)

-- the session's promise is one less
pub promise_ends : (session : ℕ) (promised : List ℕ) → Has promised session → length (without session promised) + 1 ≤ length promised
promise_ends session [] has = absurd (let h : 0 < times session [] = has in omega (arith, h))
promise_ends session (p ∷ ps) has = at (p == session) has (promises_fewer session ps) (promise_ends session ps)
  where
    at : (b : Bool) → 0 < cond b 1 0 + times session ps → length (without session ps) ≤ length ps → (Has ps session → length (without session ps) + 1 ≤ length ps) → length (cond (not b) (p ∷ without session ps) (without session ps)) + 1 ≤ suc (length ps)
    at true some le rest = omega (arith, le)
    at false some le rest = let less = rest (let h : 0 < times session ps = omega (arith, some) in h) in omega (arith, less)

-- a session whose promise has ended has none
pub none_without : (session : ℕ) (promised : List ℕ) → times session (without session promised) ≡ 0
none_without session [] = refl
none_without session (p ∷ ps) = at (p == session) refl (none_without session ps)
  where
    at : (b : Bool) → (p == session) ≡ b → times session (without session ps) ≡ 0 → times session (cond (not b) (p ∷ without session ps) (without session ps)) ≡ 0
    at true e none = none
    at false e none = let first : cond {A = ℕ} (p == session) 1 0 ≡ cond {A = ℕ} false 1 0 = ap (λ (c : Bool). cond {A = ℕ} c 1 0) e in omega (arith, first, none)

-- one that was promised room last has a promise
pub has_last : (session : ℕ) (promised : List ℕ) → Has (promised ++ session ∷ []) session
has_last session promised = let parts = counted promised in omega (arith, parts)
  where
    counted : (xs : List ℕ) → 1 ≤ times session (xs ++ session ∷ [])
    counted [] = grind arith
    counted (x ∷ xs) = let ih = counted xs in grind (arith, ih)
