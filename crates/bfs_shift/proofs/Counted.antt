-- What a bitmap counts is what is reached.
use Rattle.std.proofs.Common.{◌≡◌, ◌≤◌, ◌<◌, ◌+◌, ◌⊎◌, inl, inr, ℕ, zero, suc, List, [], ◌∷◌, ◌++◌, length, refl, sym, ap, ap₂, ◌∙◌, arith, Bool, true, false, cond, Option, ◌↔◌, subst}
use Rattle.std.specs.Prelude.{◌==◌, ◌≢◌, ◌*◌, ◌%◌, ◌/◌, get_or, unwrap_or}
use Rattle.std.specs.Int.{bit_at}
use Rattle.std.proofs.lemmas.Nat.Bits.{bit_at-lt}
use Rattle.std.specs.FinMap.{entries, empty}
use Rattle.bfs_base.specs.Lists.{times, Has}
use Rattle.bfs_super.specs.declared.geometry.Geometry.{Geometry}
use Rattle.bfs_bitmap.specs.Bits.{bit_of}
use Rattle.bfs_bitmap.specs.Runs.{Room, marked, marked_count, per_block}
use Rattle.bfs_stream.specs.Grown.{IsOfVolume}
use Rattle.bfs_tree.specs.Trees.{Tree, IsPlain}
use Rattle.bfs_sound.specs.Volumes.{Volume, sizes, bitmap_blocks, IsMarked}
use Rattle.bfs_sound.specs.Owners.{node_blocks, fixed_blocks, reach}
use Rattle.bfs_sound.specs.Whole.{IsSound}
use Rattle.bfs_sound.specs.Laws.{changed}
use Rattle.bfs_sound.proofs.Nodes.{node_blocks_stay}
use Rattle.bfs_shift.specs.Lists.{Lists, Agrees}
use Rattle.bfs_shift.specs.Stocked.{Stocked}
use Rattle.bfs_shift.specs.Shifts.{volume_in}
use Rattle.bfs_shift.proofs.Kept.{index_blocks_stay}
use Rattle.bfs_shift.proofs.Loose.{all_same}
use Rattle.bfs_shift.proofs.Frees.{other_count}
use Rattle.bfs_shift.proofs.Closed.{stocked_sound}

-- how often the numbers below n stand in a list
abbrev pub counts : List ℕ → ℕ → ℕ
counts xs zero = 0
counts xs (suc k) = times k xs + counts xs k

no_counts : (n : ℕ) → counts [] n ≡ 0
no_counts zero = refl
no_counts (suc n) = let ih = no_counts n in omega (arith, ih)

same_place : (x k : ℕ) → (x == k) ≡ true → x ≡ k
same_place x k e = grind (arith, e)

below_next : (x k : ℕ) → x < suc k → x ≢ k → x < k
below_next x k low apart = grind (arith, low, apart)

-- a number that isn't below n adds nothing, and one that is adds one
adds_none : (x : ℕ) (xs : List ℕ) (n : ℕ) → n ≤ x → counts (x ∷ xs) n ≡ counts xs n
adds_none x xs zero high = refl
adds_none x xs (suc k) high = by_test (x == k) refl (adds_none x xs k (omega (arith, high)))
  where
    by_test : (t : Bool) → (x == k) ≡ t → counts (x ∷ xs) k ≡ counts xs k → cond t 1 0 + times k xs + counts (x ∷ xs) k ≡ times k xs + counts xs k
    by_test true e ih = let same = same_place x k e in absurd (omega (arith, same, high))
    by_test false e ih = omega (arith, ih)

other_place : (x k : ℕ) → (x == k) ≡ false → x ≢ k
other_place x k e same = grind (arith, e, same)

adds_one : (x : ℕ) (xs : List ℕ) (n : ℕ) → x < n → counts (x ∷ xs) n ≡ 1 + counts xs n
adds_one x xs zero low = absurd (omega (arith, low))
adds_one x xs (suc k) low = by_test (x == k) refl (λ below. adds_one x xs k below)
  where
    by_test : (t : Bool) → (x == k) ≡ t → (x < k → counts (x ∷ xs) k ≡ 1 + counts xs k) → cond t 1 0 + times k xs + counts (x ∷ xs) k ≡ 1 + (times k xs + counts xs k)
    by_test true e ih = let same = same_place x k e in let none = adds_none x xs k (omega (arith, same)) in omega (arith, none)
    by_test false e ih = let more = ih (below_next x k low (other_place x k e)) in omega (arith, more)

-- where all numbers of a list are below n, they are its length
pub all_counted : (xs : List ℕ) (n : ℕ) → ((k : ℕ) → Has xs k → k < n) → counts xs n ≡ length xs
all_counted [] n below = no_counts n
all_counted (x ∷ xs) n below =
    let first : x < n = below x (let e : times x (x ∷ xs) ≡ 1 + times x xs = one x in let h : 0 < times x (x ∷ xs) = omega (arith, e) in h) in
    let ih = all_counted xs n (λ k h. below k (let some : 0 < times k xs = h in let more = later k in let g : 0 < times k (x ∷ xs) = omega (arith, some, more) in g)) in
    let a = adds_one x xs n first in
    omega (arith, a, ih)
  where
    one : (x : ℕ) → times x (x ∷ xs) ≡ 1 + times x xs
    one x = grind arith

    later : (k : ℕ) → times k xs ≤ times k (x ∷ xs)
    later k = omega arith

bit_cases : (n : ℕ) → n < 2 → (n ≡ 0) ⊎ (n ≡ 1)
bit_cases n low = grind (arith, low)

two_values : (bytes : List ℕ) (i : ℕ) → (bit_of bytes i ≡ 0) ⊎ (bit_of bytes i ≡ 1)
unfolding bit_of
two_values bytes i = bit_cases (bit_at (get_or bytes (i / 8) 0) (i % 8)) (bit_at-lt (get_or bytes (i / 8) 0) (i % 8))

module _ (g : Geometry) (v : Room) (m : ℕ → Option (List ℕ)) (tree : Tree) (lists : Lists) (loose : List ℕ) (of : IsOfVolume (sizes g) v) (stocked : Stocked (volume_in g m) tree lists loose) where
  abbrev all : List ℕ
  all = reach (volume_in g m) tree ++ loose

  bits_at : (k : ℕ) → marked (per_block v) m k ≡ marked (8 * g.block_size) m k
  bits_at k = ap (λ n. marked (8 * n) m k) of.block_size

  one_bit : (k : ℕ) → k < g.blocks → cond (marked (per_block v) m k == 0) 0 1 ≡ times k all
  one_bit k low = by_bit (two_values (unwrap_or (m (1 + k / per_block v)) []) (k % per_block v))
    where
      by_bit : (marked (per_block v) m k ≡ 0) ⊎ (marked (per_block v) m k ≡ 1) → cond (marked (per_block v) m k == 0) 0 1 ≡ times k all
      by_bit (inr one) =
          let here : IsMarked (volume_in g m) k = (low, sym (bits_at k) ∙ one) in
          let some : 0 < times k all = (stocked.marks k).0 here in
          let most : times k all ≤ 1 = stocked.once k in
          ap (λ (n : ℕ). cond (n == 0) 0 1) one ∙ (let e : 1 ≡ times k all = omega (arith, some, most) in e)
      by_bit (inl none) = ap (λ (n : ℕ). cond (n == 0) 0 1) none ∙ by_count (times k all) refl
        where
          by_count : (c : ℕ) → times k all ≡ c → 0 ≡ times k all
          by_count zero e = sym e
          by_count (suc c) e =
              let here : IsMarked (volume_in g m) k = (stocked.marks k).1 (let h : 0 < times k all = omega (arith, e) in h) in
              let one : marked (8 * g.block_size) m k ≡ 1 = here.1 in
              let b = bits_at k in
              absurd (omega (arith, one, none, b))

  bits_below : (n : ℕ) → n ≤ g.blocks → marked_count v m n ≡ counts all n
  bits_below zero low = refl
  bits_below (suc k) low =
      let one = one_bit k (omega (arith, low)) in
      let ih = bits_below k (omega (arith, low)) in
      ap₂ (λ (a b : ℕ). a + b) one ih

  pub count_is_reach : marked_count v m v.blocks ≡ length (reach (volume_in g m) tree ++ loose)
  count_is_reach =
      ap (marked_count v m) of.blocks ∙ bits_below g.blocks (omega arith)
      ∙ all_counted all g.blocks (λ k h. ((stocked.marks k).1 h).0)

module _ (v : Volume) (tree : Tree) (used : ℕ) where
  abbrev w : Volume
  w = changed v v.blocks used

  pub reach_same : reach w tree ≡ reach v tree
  reach_same = ap₂ (λ (a b : List ℕ). fixed_blocks v ++ (bitmap_blocks v.geometry ++ (a ++ b)))
      (all_same (node_blocks v) (node_blocks w) (entries tree.nodes) (λ x i. node_blocks_stay v v.blocks used x.0 x.1 (λ j h. refl)))
      (index_blocks_stay v v.blocks used (λ j h. refl))

  pub counted_sound : (lists : Lists) → Stocked v tree lists [] → Agrees tree lists → IsPlain tree → tree.root ≡ v.geometry.root → (tree.indices ≡ empty → v.geometry.indices ≡ 0) → used ≡ length (reach v tree) → IsSound w tree
  counted_sound lists stocked agrees plain root indexed is = stocked_sound w tree lists (other_count v tree lists [] used stocked) agrees plain root indexed (is ∙ ap length (sym reach_same))

same_counts : (xs ys : List ℕ) (n : ℕ) → ((k : ℕ) → times k xs ≡ times k ys) → counts xs n ≡ counts ys n
same_counts xs ys zero same = refl
same_counts xs ys (suc k) same = ap₂ (λ (a b : ℕ). a + b) (same k) (same_counts xs ys k same)

pub length_is_same : (v w : Volume) (tree other : Tree) (lists now : Lists) (loose rest : List ℕ) → Stocked v tree lists loose → Stocked w other now rest
    → w.geometry.blocks ≡ v.geometry.blocks → ((k : ℕ) → IsMarked w k ↔ IsMarked v k) → length (reach w other ++ rest) ≡ length (reach v tree ++ loose)
length_is_same v w tree other lists now loose rest one two blocks marks =
    sym (all_counted (reach w other ++ rest) v.geometry.blocks (λ k h. subst (λ (n : ℕ). k < n) blocks ((two.marks k).1 h).0))
    ∙ same_counts (reach w other ++ rest) (reach v tree ++ loose) v.geometry.blocks each ∙ all_counted (reach v tree ++ loose) v.geometry.blocks (λ k h. ((one.marks k).1 h).0)
  where
    by_counts : (k : ℕ) → (a : ℕ) → times k (reach w other ++ rest) ≡ a → (b : ℕ) → times k (reach v tree ++ loose) ≡ b → a ≡ b
    by_counts k zero e zero f = refl
    by_counts k (suc a) e (suc b) f = let o : times k (reach v tree ++ loose) ≤ 1 = one.once k in let p : times k (reach w other ++ rest) ≤ 1 = two.once k in omega (arith, e, f, o, p)
    by_counts k (suc a) e zero f =
        let m : IsMarked w k = (two.marks k).1 (let h : 0 < times k (reach w other ++ rest) = omega (arith, e) in h) in
        let g : 0 < times k (reach v tree ++ loose) = (one.marks k).0 ((marks k).0 m) in absurd (omega (arith, g, f))
    by_counts k zero e (suc b) f =
        let m : IsMarked v k = (one.marks k).1 (let h : 0 < times k (reach v tree ++ loose) = omega (arith, f) in h) in
        let g : 0 < times k (reach w other ++ rest) = (two.marks k).0 ((marks k).1 m) in absurd (omega (arith, g, e))

    each : (k : ℕ) → times k (reach w other ++ rest) ≡ times k (reach v tree ++ loose)
    each k = by_counts k (times k (reach w other ++ rest)) refl (times k (reach v tree ++ loose)) refl
