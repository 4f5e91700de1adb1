-- How many runs are used.
use Rattle.std.proofs.Common.{◌≡◌, ◌≤◌, ◌<◌, ◌+◌, ◌∙◌, ℕ, List, [], ◌∷◌, ◌++◌, length, take, drop, get_or, refl, sym, ap, arith, append_assoc, length-append}
use Rattle.std.specs.List.{flat_map}
use Rattle.std.proofs.lemmas.List.{drop_more, take_more, take_all, drop_all, length-take-le}
use Rattle.bfs_bytes.specs.declared.Run.{Run}
use Rattle.bfs_inode.specs.Inode.{runs_in}
use Rattle.bfs_base.specs.Lists.{counted_from}
use Rattle.bfs_stream.specs.Sizes.{Sizes, runs_per_block}
use Rattle.bfs_stream.specs.Places.{used_runs}
use Rattle.bfs_stream.proofs.Levels.{used_more, used_end, length-counted}
use Rattle.bfs_stream.proofs.Arrays.{block_runs, step_is, runs_are}

no_sizes : Sizes
no_sizes = record { block_size = 0; blocks = 0; group_blocks = 0 }

-- so many runs from the first on are used
abbrev pub AreUsed : List Run → ℕ → Type 0
AreUsed rs i = (more : List Run) → used_runs (rs ++ more) ≡ take i rs ++ used_runs (drop i rs ++ more)

pub used_none : (rs : List Run) → AreUsed rs 0
used_none rs more = refl

module _ (rs : List Run) (i : ℕ) (r : Run) (inside : i < length rs) (is : get_or rs i r ≡ r) (so_far : AreUsed rs i) where
  step : drop i rs ≡ r ∷ drop (i + 1) rs
  step = drop_more rs i r inside ∙ ap (λ (x : Run). x ∷ drop (i + 1) rs) is

  pub used_next : (r.len ≡ 0 → ⊥) → AreUsed rs (i + 1)
  used_next some more =
      so_far more
      ∙ ap (λ (l : List Run). take i rs ++ used_runs (l ++ more)) step
      ∙ ap (λ (l : List Run). take i rs ++ l) (used_more no_sizes r (drop (i + 1) rs ++ more) some)
      ∙ sym (append_assoc (take i rs) (r ∷ []) (used_runs (drop (i + 1) rs ++ more)))
      ∙ ap (λ (l : List Run). l ++ used_runs (drop (i + 1) rs ++ more)) (sym (take_more rs i r inside ∙ ap (λ (x : Run). take i rs ++ x ∷ []) is))

  pub used_ends : r.len ≡ 0 → (more : List Run) → length (used_runs (rs ++ more)) ≡ i
  used_ends none more =
      let e : used_runs (rs ++ more) ≡ take i rs ++ [] =
      so_far more ∙ ap (λ (l : List Run). take i rs ++ used_runs (l ++ more)) step ∙ ap (λ (l : List Run). take i rs ++ l) (used_end no_sizes r (drop (i + 1) rs ++ more) none) in
      let t : length (take i rs) ≡ i = length-take-le i rs (omega (arith, inside)) in
      ap length e ∙ length-append (take i rs) [] ∙ (let z : length (take i rs) + length {A = Run} [] ≡ i = omega (arith, t) in z)

pub used_all : (rs : List Run) (i n : ℕ) → length rs ≤ i → length rs ≡ n → AreUsed rs i → (more : List Run) → length (used_runs (rs ++ more)) ≡ n + length (used_runs more)
used_all rs i n past e so_far more =
    ap length (so_far more ∙ ap (λ (l : List Run). l ++ used_runs (drop i rs ++ more)) (take_all i rs past) ∙ ap (λ (l : List Run). rs ++ used_runs (l ++ more)) (drop_all i rs past))
    ∙ length-append rs (used_runs more)
    ∙ ap (λ (k : ℕ). k + length (used_runs more)) e

-- block after block of an array
module _ (s : Sizes) (blocks : ℕ → List ℕ) (first n i used runs here : ℕ) (into : List ℕ) (inside : i < n) (runs_is : runs ≡ runs_per_block s) (into_is : into ≡ blocks (first + i))
    (so_far : length (used_runs (flat_map (block_runs s blocks) (counted_from first n))) ≡ used + length (used_runs (flat_map (block_runs s blocks) (drop i (counted_from first n))))) where
  rest_is : length (used_runs (flat_map (block_runs s blocks) (drop i (counted_from first n)))) ≡ length (used_runs (runs_in runs into 0 ++ flat_map (block_runs s blocks) (drop (i + 1) (counted_from first n))))
  rest_is =
      ap (λ (l : List Run). length (used_runs l))
      (step_is s blocks first n 0 i 0 inside ∙ ap (λ (l : List Run). l ++ flat_map (block_runs s blocks) (drop (i + 1) (counted_from first n))) (sym (runs_are s blocks runs into (first + i) runs_is into_is)))

  pub counted_end : ((more : List Run) → length (used_runs (runs_in runs into 0 ++ more)) ≡ here) → used + here ≡ length (used_runs (flat_map (block_runs s blocks) (counted_from first n)))
  counted_end ends = let e = rest_is in let f = ends (flat_map (block_runs s blocks) (drop (i + 1) (counted_from first n))) in omega (arith, e, f, so_far)

  pub counted_more : ((more : List Run) → length (used_runs (runs_in runs into 0 ++ more)) ≡ runs + length (used_runs more)) → here ≡ runs
      → length (used_runs (flat_map (block_runs s blocks) (counted_from first n))) ≡ used + here + length (used_runs (flat_map (block_runs s blocks) (drop (i + 1) (counted_from first n))))
  counted_more all full = let e = rest_is in let f = all (flat_map (block_runs s blocks) (drop (i + 1) (counted_from first n))) in omega (arith, e, f, so_far, full)

pub counted_all : (s : Sizes) (blocks : ℕ → List ℕ) (first n i used : ℕ) → n ≤ i
    → length (used_runs (flat_map (block_runs s blocks) (counted_from first n))) ≡ used + length (used_runs (flat_map (block_runs s blocks) (drop i (counted_from first n))))
    → used ≡ length (used_runs (flat_map (block_runs s blocks) (counted_from first n)))
counted_all s blocks first n i used past so_far =
    let e : length (used_runs (flat_map (block_runs s blocks) (drop i (counted_from first n)))) ≡ 0 = ap (λ (l : List ℕ). length (used_runs (flat_map (block_runs s blocks) l))) (drop_all i (counted_from first n) (let z = length-counted first n in omega (arith, z, past))) in
    omega (arith, e, so_far)
