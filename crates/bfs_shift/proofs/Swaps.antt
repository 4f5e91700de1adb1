-- How often a number stands in joined lists of which one is another since.
use Rattle.std.proofs.Common.{◌≡◌, ◌≤◌, ◌+◌, inl, inr, ℕ, List, [], ◌∷◌, ◌++◌, refl, sym, ap, ap₂, subst, arith}
use Rattle.std.specs.List.{flat_map}
use Rattle.bfs_base.specs.Lists.{times}
use Rattle.bfs_stream.proofs.Doubles.{times-append}
use Rattle.bfs_sound.proofs.Counts.{In, times_member}

module _ {X : Type 0} (f g : X → List ℕ) (x : X) (p : ℕ) (own : 1 ≤ times p (f x)) where
  own_at : (e : X) → e ≡ x → 1 ≤ times p (f e)
  own_at e is = subst (λ (y : X). 1 ≤ times p (f y)) (sym is) own

  same_all : (es : List X) → ((e : X) → In e es → (e ≡ x → ⊥) → g e ≡ f e) → times p (flat_map f es) ≡ 0 → flat_map g es ≡ flat_map f es
  same_all [] same none = refl
  same_all (e ∷ es) same none =
      let parts = times-append p (f e) (flat_map f es) in
      ap₂ (λ (a b : List ℕ). a ++ b) (same e (inl refl) (λ is. let one = own_at e is in absurd (omega (arith, parts, one, none))))
      (same_all es (λ y i. same y (inr i)) (omega (arith, parts, none)))

  pub swapped : (k : ℕ) (es : List X) → ((e : X) → In e es → (e ≡ x → ⊥) → g e ≡ f e) → times p (flat_map f es) ≤ 1 → In x es
      → times k (flat_map g es) + times k (f x) ≡ times k (flat_map f es) + times k (g x)
  swapped k [] same once i = absurd i
  swapped k (e ∷ es) same once (inl is) =
      let parts = times-append p (f e) (flat_map f es) in
      let one : 1 ≤ times p (f e) = own_at e (sym is) in
      let rest : flat_map g es ≡ flat_map f es = same_all es (λ y i. same y (inr i)) (omega (arith, parts, one, once)) in
      let a = times-append k (g e) (flat_map g es) in
      let b = times-append k (f e) (flat_map f es) in
      let c : times k (flat_map g es) ≡ times k (flat_map f es) = ap (times k) rest in
      subst (λ (y : X). times k (g e ++ flat_map g es) + times k (f y) ≡ times k (f e ++ flat_map f es) + times k (g y)) (sym is) (omega (arith, a, b, c))
  swapped k (e ∷ es) same once (inr i) =
      let parts = times-append p (f e) (flat_map f es) in
      let there : times p (f x) ≤ times p (flat_map f es) = times_member p f es x i in
      let here : g e ≡ f e = same e (inl refl) (λ is. let one = own_at e is in absurd (omega (arith, parts, one, there, own, once))) in
      let ih = swapped k es (λ y j. same y (inr j)) (omega (arith, parts, once)) i in
      let a = times-append k (g e) (flat_map g es) in
      let b = times-append k (f e) (flat_map f es) in
      let c : times k (g e) ≡ times k (f e) = ap (times k) here in
      omega (arith, a, b, c, ih)
