-- What every change within a call keeps: blocks elsewhere, and that what is reached with the loose blocks is what is marked, once.
use Rattle.std.proofs.Common.{◌≡◌, ◌≤◌, ◌<◌, ◌+◌, ◌⊎◌, ◌↔◌, inl, inr, ℕ, zero, suc, List, ◌++◌, refl, arith}
use Rattle.std.specs.List.{flat_map}
use Rattle.std.specs.FinMap.{entries}
use Rattle.bfs_base.specs.Lists.{times, Has, Agree, IsOnce}
use Rattle.bfs_stream.proofs.Doubles.{times-append}
use Rattle.bfs_tree.specs.Trees.{Tree}
use Rattle.bfs_sound.specs.Volumes.{Volume, bitmap_blocks, IsMarked}
use Rattle.bfs_sound.specs.Owners.{node_blocks, index_blocks, fixed_blocks, reach}
use Rattle.bfs_sound.specs.Laws.{with_blocks}
use Rattle.bfs_sound.proofs.Parts.{reach_parts}
use Rattle.bfs_shift.specs.Lists.{Lists}
use Rattle.bfs_shift.specs.Stocked.{Stocked, Shifts}

module _ (v : Volume) (tree : Tree) (lists : Lists) (loose : List ℕ) (stocked : Stocked v tree lists loose) where
  pub all_parts : (k : ℕ) → times k (reach v tree ++ loose)
      ≡ times k (fixed_blocks v) + (times k (bitmap_blocks v.geometry) + (times k (flat_map (node_blocks v) (entries tree.nodes)) + times k (index_blocks v))) + times k loose
  all_parts k = let a = times-append k (reach v tree) loose in let b = reach_parts v tree k in omega (arith, a, b)

  pub once_reach : IsOnce (reach v tree)
  once_reach k = let a = times-append k (reach v tree) loose in let b : times k (reach v tree ++ loose) ≤ 1 = stocked.once k in omega (arith, a, b)

  module _ (new : ℕ → List ℕ) (xs ys : List ℕ) (shifts : Shifts v new xs ys) where
    -- what is owned, but not by what changes, stays
    elsewhere : (k : ℕ) → 0 < times k (reach v tree ++ loose) → times k xs ≡ 0 → times k (bitmap_blocks v.geometry) ≡ 0 → new k ≡ v.blocks k
    elsewhere k some none outside = shifts.stays k none (by_count (times k ys) refl) outside
      where
        by_count : (c : ℕ) → times k ys ≡ c → times k ys ≡ 0
        by_count zero e = e
        by_count (suc c) e = absurd (shifts.fresh k (let h : 0 < times k ys = omega (arith, e) in h) none ((stocked.marks k).1 some))

    -- so a part of what is reached that is apart from what changes and from the bitmap stays
    pub part_stays : (part : List ℕ) → ((k : ℕ) → times k part + (times k xs + times k (bitmap_blocks v.geometry)) ≤ times k (reach v tree ++ loose)) → Agree v.blocks new part
    part_stays part few k h =
        let some : 0 < times k part = h in
        let most : times k (reach v tree ++ loose) ≤ 1 = stocked.once k in
        let f = few k in
        elsewhere k (omega (arith, some, f)) (omega (arith, some, f, most)) (omega (arith, some, f, most))

    module _ (zs : List ℕ) (few : (k : ℕ) → times k xs ≤ times k (reach v tree ++ loose)) (count : (k : ℕ) → times k zs + times k xs ≡ times k (reach v tree ++ loose) + times k ys) where
      -- what came was not owned
      none_of : (k : ℕ) → 0 < times k ys → times k xs ≡ 0 → times k (reach v tree ++ loose) ≡ 0
      none_of k some none = by_count (times k (reach v tree ++ loose)) refl
        where
          by_count : (c : ℕ) → times k (reach v tree ++ loose) ≡ c → times k (reach v tree ++ loose) ≡ 0
          by_count zero e = e
          by_count (suc c) e = absurd (shifts.fresh k some none ((stocked.marks k).1 (let h : 0 < times k (reach v tree ++ loose) = omega (arith, e) in h)))

      pub once_now : (k : ℕ) → times k zs ≤ 1
      once_now k = by_counts (times k ys) refl (times k xs) refl
        where
          by_counts : (y : ℕ) → times k ys ≡ y → (x : ℕ) → times k xs ≡ x → times k zs ≤ 1
          by_counts zero e x g = let c = count k in let o : times k (reach v tree ++ loose) ≤ 1 = stocked.once k in omega (arith, c, o, e)
          by_counts (suc y) e (suc x) g = let c = count k in let o : times k (reach v tree ++ loose) ≤ 1 = stocked.once k in let q : times k ys ≤ 1 = shifts.once k in omega (arith, c, o, e, g, q)
          by_counts (suc y) e zero g = let c = count k in let o = none_of k (let h : 0 < times k ys = omega (arith, e) in h) g in let q : times k ys ≤ 1 = shifts.once k in omega (arith, c, o, e, g, q)

      marked_now : (k : ℕ) → IsMarked (with_blocks v new) k → 0 < times k zs
      marked_now k m = by_cause ((shifts.marks k).0 m)
        where
          by_cause : (0 < times k ys) ⊎ (IsMarked v k × (times k xs ≡ 0)) → 0 < times k zs
          by_cause (inl some) = let c = count k in let f = few k in omega (arith, c, f, some)
          by_cause (inr old) = let c = count k in let h : 0 < times k (reach v tree ++ loose) = (stocked.marks k).0 old.0 in let none = old.1 in omega (arith, c, h, none)

      now_marked : (k : ℕ) → 0 < times k zs → IsMarked (with_blocks v new) k
      now_marked k some = by_count (times k ys) refl
        where
          by_count : (y : ℕ) → times k ys ≡ y → IsMarked (with_blocks v new) k
          by_count (suc y) e = (shifts.marks k).1 (inl (let h : 0 < times k ys = omega (arith, e) in h))
          by_count zero e =
              let c = count k in
              let o : times k (reach v tree ++ loose) ≤ 1 = stocked.once k in
              let f = few k in
              let h : 0 < times k (reach v tree ++ loose) = omega (arith, c, some, e) in
              (shifts.marks k).1 (inr ((stocked.marks k).1 h, omega (arith, c, some, e, o)))

      pub marks_now : (k : ℕ) → IsMarked (with_blocks v new) k ↔ Has zs k
      marks_now k = (marked_now k, now_marked k)
