-- Blocks that are neither block 0 nor of the log.
use Rattle.std.proofs.Common.{◌≡◌, ◌≢◌, ◌⊎◌, inl, inr, ⊎_elim, ◌<◌, ◌≤◌, ◌+◌, ℕ, zero, suc, List, [], ◌∷◌, Bool, true, false, cond, ◌&&◌, ◌||◌, ◌==◌, nat_lt, nat_le, Option, Some, None, unwrap_or, refl, sym, ◌∙◌, ap, arith}
use Rattle.std.proofs.lemmas.Bool.{true≢false, and_parts, or_cases, and_from, or_left, or_right, cond-true, cond-false, eqb-true, ltb-true, leb-true, lt-ltb, le-leb}
use Rattle.bfs_base.specs.Lists.{times, counted_from}
use Rattle.bfs_super.specs.declared.sup.Super.{Super}
use Rattle.bfs_super.specs.Conditions.{natural}
use Rattle.bfs_super.specs.Geometry.{geometry_of}
use Rattle.bfs_log.specs.Entry.{log_first}
use Rattle.bfs_log.specs.Replay.{Home, put, over as over_homes}
use Rattle.bfs_txn.specs.Changed.{newest, over, or_else}
use Rattle.bfs_tree.specs.Trees.{Tree}
use Rattle.bfs_sound.specs.Volumes.{Volume, log_blocks, IsMarked}
use Rattle.bfs_sound.specs.Owners.{fixed_blocks, IsMetadata}
use Rattle.bfs_sound.specs.Whole.{IsSound}
use Rattle.bfs_device.specs.Layouts.{Layout, layout_of, IsData, homes_in}
use Rattle.bfs_device.specs.Ahead.{geometry_with}
use Rattle.bfs_core.specs.Cores.{masked}
use Rattle.bfs_device.specs.Layouts.{is_data}

pub data_of : (l : Layout) (k : ℕ) → is_data l k ≡ true → IsData l k
data_of l k h =
    let parts = and_parts (nat_lt 0 k) (nat_lt k l.blocks && (nat_lt k l.first || nat_le (l.first + l.len) k)) h in
    let rest = and_parts (nat_lt k l.blocks) (nat_lt k l.first || nat_le (l.first + l.len) k) parts.1 in (
      ltb-true 0 k parts.0,
      ltb-true k l.blocks rest.0,
      ⊎_elim (λ low. inl (ltb-true k l.first low)) (λ high. inr (leb-true (l.first + l.len) k high)) (or_cases (nat_lt k l.first) (nat_le (l.first + l.len) k) rest.1),
    )

pub of_data : (l : Layout) (k : ℕ) → IsData l k → is_data l k ≡ true
of_data l k d =
    and_from (nat_lt 0 k) _ (lt-ltb 0 k d.0)
    (and_from (nat_lt k l.blocks) _ (lt-ltb k l.blocks d.1)
    (⊎_elim (λ low. or_left (nat_lt k l.first) _ (lt-ltb k l.first low)) (λ high. or_right (nat_lt k l.first) (nat_le (l.first + l.len) k) (le-leb (l.first + l.len) k high)) d.2))

-- maps that agree at data are the same behind the mask
pub masked_same : (l : Layout) (f g : ℕ → List ℕ) → ((k : ℕ) → IsData l k → f k ≡ g k) → masked l f ≡ masked l g
masked_same l f g same = λ i k. at k i
  where
    by_test : (k : ℕ) (d : Bool) → is_data l k ≡ d → cond d (f k) [] ≡ cond d (g k) []
    by_test k true is = same k (data_of l k is)
    by_test k false is = refl

    at : (k : ℕ) → masked l f k ≡ masked l g k
    at k = by_test k (is_data l k) refl

pub masked_at : (l : Layout) (f : ℕ → List ℕ) (k : ℕ) → IsData l k → masked l f k ≡ f k
masked_at l f k d = cond-true (is_data l k) (f k) [] (of_data l k d)

-- ---- metadata is data

counted_or : (k first n : ℕ) → times k (counted_from first n) ≡ 0 → (k < first) ⊎ (first + n ≤ k)
counted_or k first zero none = grind arith
counted_or k first (suc n) none = by_test (λ rest. counted_or k (suc first) n rest) (first == k) refl
  where
    by_test : (times k (counted_from (suc first) n) ≡ 0 → (k < suc first) ⊎ (suc first + n ≤ k)) → (d : Bool) → (first == k) ≡ d → (k < first) ⊎ (first + suc n ≤ k)
    by_test ih true e =
        let one : cond {A = ℕ} (first == k) 1 0 ≡ 1 = cond-true (first == k) 1 0 e in
        absurd (omega (arith, none, one))
    by_test ih false e =
        let rest : times k (counted_from (suc first) n) ≡ 0 = omega (arith, none) in
        let differ : first ≢ k = λ same. true≢false (sym (grind (arith, same)) ∙ e) in
        ⊎_elim (λ low. inl (grind (arith, low, differ))) (λ high. inr (omega (arith, high))) (ih rest)

-- a block of the volume that is neither block 0 nor of the log is data
pub data_when : (s : Super) (k : ℕ) → k < natural s.num_blocks → (used : ℕ) → times k (0 ∷ log_blocks (geometry_with s used)) ≡ 0 → IsData (layout_of s) k
data_when s k inside used apart =
    let here : cond {A = ℕ} (0 == k) 1 0 + times k (log_blocks (geometry_with s used)) ≡ 0 = apart in
    let logs : times k (log_blocks (geometry_with s used)) ≡ 0 = omega (arith, here) in (
      positive k (let z : cond {A = ℕ} (0 == k) 1 0 ≡ 0 = omega (arith, here) in z),
      inside,
      counted_or k (log_first (geometry_of s)) s.log_blocks.len logs,
    )
  where
    positive : (k : ℕ) → cond {A = ℕ} (0 == k) 1 0 ≡ 0 → 0 < k
    positive zero z = absurd (omega (arith, z))
    positive (suc k) z = omega arith

pub metadata_data : (s : Super) (used : ℕ) (blocks : ℕ → List ℕ) (tree : Tree) → (let v : Volume = record { geometry = geometry_with s used; blocks = blocks } in IsSound v tree) → (k : ℕ)
    → (let v : Volume = record { geometry = geometry_with s used; blocks = blocks } in IsMetadata v tree k) → (let v : Volume = record { geometry = geometry_with s used; blocks = blocks } in times k (fixed_blocks v) ≡ 0)
    → IsData (layout_of s) k
metadata_data s used blocks tree sound k meta apart =
    let marked : (let v : Volume = record { geometry = geometry_with s used; blocks = blocks } in IsMarked v k) = (sound.bits k).1 meta.0 in
    data_when s k marked.0 used apart

-- and data is neither block 0 nor of the log
is_other : (a b : ℕ) → (a ≡ b → ⊥) → (d : Bool) → (a == b) ≡ d → (a == b) ≡ false
is_other a b other true e = absurd (other (eqb-true a b e))
is_other a b other false e = e

counted_out : (k first n : ℕ) → (k < first) ⊎ (first + n ≤ k) → times k (counted_from first n) ≡ 0
counted_out k first zero out = refl
counted_out k first (suc n) out =
    let differ : (first == k) ≡ false = is_other first k (λ same. ⊎_elim (λ low. absurd (omega (arith, low, same))) (λ high. absurd (omega (arith, high, same))) out) (first == k) refl in
    let none : cond {A = ℕ} (first == k) 1 0 ≡ 0 = cond-false {A = ℕ} (first == k) 1 0 differ in
    let rest : times k (counted_from (suc first) n) ≡ 0 = counted_out k (suc first) n (⊎_elim (λ low. inl (omega (arith, low))) (λ high. inr (omega (arith, high))) out) in
    omega (arith, none, rest)

pub data_apart : (s : Super) (used k : ℕ) → IsData (layout_of s) k → times k (0 ∷ log_blocks (geometry_with s used)) ≡ 0
data_apart s used k d =
    let none : cond {A = ℕ} (0 == k) 1 0 ≡ 0 = cond-false {A = ℕ} (0 == k) 1 0 (is_other 0 k (λ same. absurd (let lt = d.0 in omega (arith, same, lt))) (0 == k) refl) in
    let logs : times k (log_blocks (geometry_with s used)) ≡ 0 = counted_out k (log_first (geometry_of s)) s.log_blocks.len d.2 in
    omega (arith, none, logs)

-- ---- a group over a map, as an overlay says it and as a device does

abbrev or_some : Option (List ℕ) → List ℕ → List ℕ
or_some (Some x) y = x
or_some None y = y

or_both : (a b : Option (List ℕ)) (y : List ℕ) → or_some (or_else a b) y ≡ or_some a (or_some b y)
or_both None b y = refl
or_both (Some x) b y = refl

pub over_pairs : (ps : List (ℕ × List ℕ)) (f : ℕ → List ℕ) (k : ℕ) → over_homes (homes_in ps) f k ≡ unwrap_or (over ps (λ j. Some (f j)) k) []
over_pairs ps f k = over_some ps f k ∙ as_unwrap (newest ps k) (f k)
  where
    as_unwrap : (o : Option (List ℕ)) (y : List ℕ) → or_some o y ≡ unwrap_or (or_else o (Some y)) []
    as_unwrap None y = refl
    as_unwrap (Some x) y = refl

    one : (d : Bool) (x y : List ℕ) → cond d x y ≡ or_some (cond d (Some x) None) y
    one true x y = refl
    one false x y = refl

    over_some : (ps : List (ℕ × List ℕ)) (f : ℕ → List ℕ) (k : ℕ) → over_homes (homes_in ps) f k ≡ or_some (newest ps k) (f k)
    over_some [] f k = refl
    over_some (p ∷ ps) f k =
        let h : Home = record { place = p.0; bytes = p.1 } in
        over_some ps (put h f) k ∙ ap (or_some (newest ps k)) (one (k == p.0) p.1 (f k)) ∙ sym (or_both (newest ps k) (cond (k == p.0) (Some p.1) None) (f k))
