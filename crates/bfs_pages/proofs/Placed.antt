-- Where pages of a stream begin.
use Rattle.std.proofs.Common.{◌≡◌, ◌≤◌, ◌+◌, ◌%◌, ℕ, [], ◌∷◌, Bool, true, false, cond, refl, ap, arith}
use Rattle.bfs_node.specs.Lists.{times}
use Rattle.bfs_pages.specs.Trees.{held, is_place}

pub same_held : (x m n : ℕ) → m ≡ n → held m x ≡ held n x
same_held x m n e = ap (λ z. held z x) e

pub held_most : (n x : ℕ) → held n x ≤ 1
unfolding held
held_most n x = by (is_place n x)
  where
    by : (c : Bool) → cond c 1 0 ≤ 1
    by true = omega arith
    by false = omega arith

pub held_first : (n : ℕ) → 1 ≤ n → held n 0 ≡ 1
unfolding held
held_first n h = grind (arith, h)

pub held_end : (n : ℕ) → held n n ≡ 0
unfolding held
held_end n = grind (arith)

-- a page more
pub held_more : (n x : ℕ) → n % 1024 ≡ 0 → held (n + 1024) x ≡ held n x + times x (n ∷ [])
unfolding held
held_more n x h = grind (arith, h)

-- where a page is held, one begins
pub held_place : (n x : ℕ) → held n x ≡ 1 → is_place n x ≡ true
unfolding held
held_place n x h = by (is_place n x) refl h
  where
    by : (c : Bool) → is_place n x ≡ c → ◌≡◌ {A = ℕ} (cond c 1 0) 1 → c ≡ true
    by true e h = refl
    by false e h = absurd (no h)
      where
        no : ◌≡◌ {A = ℕ} 0 1 → ⊥
        no e = omega (arith, e)

pub place_held : (n x : ℕ) → is_place n x ≡ true → held n x ≡ 1
unfolding held
place_held n x h = ap (λ c. cond c 1 0) h
