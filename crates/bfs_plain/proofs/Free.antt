-- The first number that is not in a list of rising numbers.
use Rattle.std.proofs.Common.{◌≡◌, ◌≢◌, ◌<◌, ◌≤◌, ◌+◌, ℕ, List, [], ◌∷◌, Some, None, true, false, cond, refl, ap, ◌∙◌, arith, map as each}
use Rattle.std.specs.Prelude.{◌==◌, if◌then◌else◌}
use Rattle.std.specs.List.{AllByRecursion}
use Rattle.std.specs.List.Sorted.{IsStrictlySortedBy}
use Rattle.std.specs.Map.{lookup}
use Rattle.std.specs.Ordering.{nat_cmp, is_eq}
use Rattle.std.specs.declared.cmp.Ordering.TheVariants.{Less}
use Rattle.std.proofs.Common.{subst}
use Rattle.std.specs.Option.{option_map}
use Rattle.std.specs.FinMap.{get}
use Rattle.bfs_plain.specs.declared.node.Node as kept_node
use Rattle.bfs_plain.specs.Plain.{node_of, nodes_of}
use Rattle.bfs_plain.proofs.Maps.{get-node}

abbrev pub first_free : ℕ → List ℕ → ℕ
first_free n [] = n
first_free n (k ∷ ks) = if k == n then first_free (n + 1) ks else n

abbrev AllAbove : ℕ → List ℕ → Type 0
AllAbove n [] = Unit {0}
AllAbove n (k ∷ ks) = (n < k) × AllAbove n ks

abbrev pub AllFrom : ℕ → List ℕ → Type 0
AllFrom n [] = Unit {0}
AllFrom n (k ∷ ks) = (n ≤ k) × AllFrom n ks

miss : (q k : ℕ) → q ≢ k → is_eq (nat_cmp q k) ≡ false
miss q k apart = grind (arith, apart)

less_is : (m k : ℕ) → nat_cmp m k ≡ Less → m < k
less_is m k less = grind (arith, less)

not_at : {X : Type 0} (q : ℕ) (es : List (ℕ × X)) → AllAbove q (each (λ e. e.0) es) → lookup (λ k. is_eq (nat_cmp q k)) es ≡ None
not_at q [] above = refl
not_at q (e ∷ es) above = ap (λ b. cond b (Some e.1) (lookup (λ k. is_eq (nat_cmp q k)) es)) (miss q e.0 (λ same. absurd (omega (arith, same, above.0)))) ∙ not_at q es above.1

above_less : (n m : ℕ) (ks : List ℕ) → n < m → AllByRecursion (λ y. nat_cmp m y ≡ Less) ks → AllAbove n ks
above_less n m [] h all = tt
above_less n m (k ∷ ks) h all = (omega (arith, less_is m k all.0), above_less n m ks h all.1)

from_less : (n m : ℕ) (ks : List ℕ) → n ≤ m + 1 → AllByRecursion (λ y. nat_cmp m y ≡ Less) ks → AllFrom n ks
from_less n m [] h all = tt
from_less n m (k ∷ ks) h all = (omega (arith, less_is m k all.0), from_less n m ks h all.1)

free_from : (n : ℕ) (ks : List ℕ) → n ≤ first_free n ks
free_from n [] = omega arith
free_from n (k ∷ ks) = elim (k == n) as (λ b. n ≤ cond b (first_free (n + 1) ks) n) [ true ↦ let h : n + 1 ≤ first_free (n + 1) ks = free_from (n + 1) ks in omega (arith, h) | false ↦ omega arith ]

-- where the numbers rise from n on, the first free is none of them
pub free_not_at : {X : Type 0} (n : ℕ) (es : List (ℕ × X)) → IsStrictlySortedBy nat_cmp (each (λ e. e.0) es) → AllFrom n (each (λ e. e.0) es)
    → lookup (λ k. is_eq (nat_cmp (first_free n (each (λ e. e.0) es)) k)) es ≡ None
unfolding IsStrictlySortedBy
free_not_at n [] sorted from = refl
free_not_at n (e ∷ es) sorted from =
    elim (e.0 == n) as (λ b. (e.0 == n) ≡ b → lookup (λ k. is_eq (nat_cmp (cond b (first_free (n + 1) (each (λ e. e.0) es)) n) k)) (e ∷ es) ≡ None) [
      | true ↦ λ same.
          let here : e.0 ≡ n = grind (arith, same) in
          let up : n + 1 ≤ first_free (n + 1) (each (λ e. e.0) es) = free_from (n + 1) (each (λ e. e.0) es) in
          ap (λ b. cond b (Some e.1) (lookup (λ k. is_eq (nat_cmp (first_free (n + 1) (each (λ e. e.0) es)) k)) es)) (miss (first_free (n + 1) (each (λ e. e.0) es)) e.0 (λ tie. absurd (omega (arith, here, up, tie))))
          ∙ free_not_at (n + 1) es sorted.1 (from_less (n + 1) e.0 (each (λ e. e.0) es) (omega (arith, here)) sorted.0)
      | false ↦ λ other.
          let past : n < e.0 = grind (arith, other, from.0) in
          not_at n (e ∷ es) (past, above_less n e.0 (each (λ e. e.0) es) past sorted.0)
    ] refl

pub all_from_zero : (ks : List ℕ) → AllFrom 0 ks
all_from_zero [] = tt
all_from_zero (k ∷ ks) = (omega arith, all_from_zero ks)

pub free-node : (es : List (ℕ × kept_node.Node)) (n : ℕ) → IsStrictlySortedBy nat_cmp (each (λ e. e.0) es) → first_free 0 (each (λ e. e.0) es) ≡ n → get (nodes_of es) n ≡ None
free-node es n sorted is =
    get-node n es ∙ ap (option_map node_of) (subst (λ m. lookup (λ k. is_eq (nat_cmp m k)) es ≡ None) is (free_not_at 0 es sorted (all_from_zero (each (λ e. e.0) es))))

pub free-step : (n k : ℕ) (ks : List ℕ) → k ≡ n → first_free n (k ∷ ks) ≡ first_free (n + 1) ks
free-step n k ks is = let same : (k == n) ≡ true = grind (arith, is) in ap (λ b. cond b (first_free (n + 1) ks) n) same

pub free-here : (n k : ℕ) (ks : List ℕ) → k ≢ n → first_free n (k ∷ ks) ≡ n
free-here n k ks apart = let other : (k == n) ≡ false = grind (arith, apart) in ap (λ b. cond b (first_free (n + 1) ks) n) other
