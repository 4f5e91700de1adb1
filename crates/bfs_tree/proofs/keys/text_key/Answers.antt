use Rattle.std.proofs.Common.{◌≡◌, ℕ, zero, suc, List, [], ◌∷◌, take, min, refl, ap, ◌∙◌, arith, subst}
use Rattle.std.specs.Result.{IfOk}
use Rattle.std.specs.Prelude.{not, ◌==◌}
use Rattle.std.specs.List.{prefix_len}
use Rattle.bfs_tree.specs.Listings.{unless_empty}
use Rattle.bfs_tree.proofs.keys.text_key.Goals as goal

-- the first k elements, where k is the less of two numbers
taken : (n m k : ℕ) (xs : List ℕ) → k ≡ min n m → take k xs ≡ take m (take n xs)
taken n m zero xs e = none n m xs (omega (arith, e))
  where
    none : (n m : ℕ) (xs : List ℕ) → 0 ≡ min n m → ◌≡◌ {A = List ℕ} [] (take m (take n xs))
    none n zero xs e = refl
    none zero (suc m) xs e = refl
    none (suc n) (suc m) xs e = absurd (omega (arith, e))
taken n m (suc k) [] e = nil n m
  where
    nil : (n m : ℕ) → ◌≡◌ {A = List ℕ} [] (take m (take n []))
    nil zero zero = refl
    nil zero (suc m) = refl
    nil (suc n) zero = refl
    nil (suc n) (suc m) = refl
taken zero m (suc k) (x ∷ xs) e = absurd (omega (arith, e))
taken (suc n) zero (suc k) (x ∷ xs) e = absurd (omega (arith, e))
taken (suc n) (suc m) (suc k) (x ∷ xs) e = ap (λ l. x ∷ l) (taken n m k xs (omega (arith, e)))

pub returns : goal.returns
returns c =
    let short : c.min-length.result ≡ min (prefix_len (λ b. not (b == 0)) c.args.bytes.now) 255 = c.min-length.ensures ∙ ap (λ n. min n 255) c.text_len.ensures.value in
    subst (λ (bs : List ℕ). IfOk c.bytes_unless_empty.result (λ k. k ≡ unless_empty bs)) (taken _ 255 c.min-length.result c.args.bytes.now short) c.bytes_unless_empty.ensures
