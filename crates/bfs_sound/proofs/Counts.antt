-- How often a number stands in joined lists, and blocks that agree there.
use Rattle.std.proofs.Common.{◌≡◌, ◌≤◌, ◌+◌, inl, inr, ℕ, List, [], ◌∷◌, ◌++◌, refl, sym, ap, ap₂, ◌∙◌, subst, arith, map}
use Rattle.std.specs.List.{flat_map}
use Rattle.bfs_base.specs.Lists.{times, Has, Agree}
pub use Rattle.bfs_sound.specs.Owners.{In}
use Rattle.bfs_stream.proofs.Doubles.{times-append}
use Rattle.bfs_stream.proofs.Frames.{has_left, has_right, agree_left, agree_right}

pub has_member : {X : Type 0} (f : X → List ℕ) (xs : List X) (x : X) (k : ℕ) → In x xs → Has (f x) k → Has (flat_map f xs) k
has_member f [] x k i h = absurd i
has_member f (y ∷ xs) x k (inl e) h = has_left (f y) (flat_map f xs) k (subst (λ z. Has (f z) k) e h)
has_member f (y ∷ xs) x k (inr i) h = has_right (f y) (flat_map f xs) k (has_member f xs x k i h)

pub agree_member : {X : Type 0} (old new : ℕ → List ℕ) (f : X → List ℕ) (xs : List X) (x : X) → In x xs → Agree old new (flat_map f xs) → Agree old new (f x)
agree_member old new f xs x i agree k h = agree k (has_member f xs x k i h)

pub times_member : {X : Type 0} (k : ℕ) (f : X → List ℕ) (xs : List X) (x : X) → In x xs → times k (f x) ≤ times k (flat_map f xs)
times_member k f [] x i = absurd i
times_member k f (y ∷ xs) x (inl e) = subst (λ z. times k (f z) ≤ times k (f y ++ flat_map f xs)) (sym e) (omega (arith, times-append k (f y) (flat_map f xs)))
times_member k f (y ∷ xs) x (inr i) = let ih : times k (f x) ≤ times k (flat_map f xs) = times_member k f xs x i in omega (arith, times-append k (f y) (flat_map f xs), ih)

-- two members that are different
pub times_two : {X : Type 0} (k : ℕ) (f : X → List ℕ) (xs : List X) (a b : X) → In a xs → In b xs → (a ≡ b → ⊥) → times k (f a) + times k (f b) ≤ times k (flat_map f xs)
times_two k f [] a b i j apart = absurd i
times_two k f (y ∷ xs) a b (inl e) (inl g) apart = absurd (apart (e ∙ sym g))
times_two k f (y ∷ xs) a b (inl e) (inr j) apart =
    let ih : times k (f b) ≤ times k (flat_map f xs) = times_member k f xs b j in
    subst (λ z. times k (f z) + times k (f b) ≤ times k (f y ++ flat_map f xs)) (sym e) (omega (arith, times-append k (f y) (flat_map f xs), ih))
times_two k f (y ∷ xs) a b (inr i) (inl g) apart =
    let ih : times k (f a) ≤ times k (flat_map f xs) = times_member k f xs a i in
    subst (λ z. times k (f a) + times k (f z) ≤ times k (f y ++ flat_map f xs)) (sym g) (omega (arith, times-append k (f y) (flat_map f xs), ih))
times_two k f (y ∷ xs) a b (inr i) (inr j) apart =
    let ih : times k (f a) + times k (f b) ≤ times k (flat_map f xs) = times_two k f xs a b i j apart in omega (arith, times-append k (f y) (flat_map f xs), ih)

-- where each part is two others together, all of them are
pub times_split : {X : Type 0} (k : ℕ) (f g h : X → List ℕ) (xs : List X) → ((x : X) → times k (f x) ≡ times k (g x) + times k (h x))
    → times k (flat_map f xs) ≡ times k (flat_map g xs) + times k (flat_map h xs)
times_split k f g h [] each = refl
times_split k f g h (x ∷ xs) each =
    let ih : times k (flat_map f xs) ≡ times k (flat_map g xs) + times k (flat_map h xs) = times_split k f g h xs each in
    omega (arith, times-append k (f x) (flat_map f xs), times-append k (g x) (flat_map g xs), times-append k (h x) (flat_map h xs), each x, ih)

-- lists that carry themselves
pub flat_same : {X : Type 0} (old new : ℕ → List ℕ) (f g : X → List ℕ) (xs : List X) → ((x : X) → In x xs → Agree old new (f x) → g x ≡ f x) → Agree old new (flat_map f xs) → flat_map g xs ≡ flat_map f xs
flat_same old new f g [] same agree = refl
flat_same old new f g (x ∷ xs) same agree =
    ap₂ (λ a b. a ++ b) (same x (inl refl) (agree_left old new (f x) (flat_map f xs) agree))
    (flat_same old new f g xs (λ y i. same y (inr i)) (agree_right old new (f x) (flat_map f xs) agree))

pub in_map : {X Y : Type 0} (f : X → Y) (xs : List X) (x : X) → In x xs → In (f x) (map f xs)
in_map f [] x i = absurd i
in_map f (y ∷ xs) x (inl e) = inl (ap f e)
in_map f (y ∷ xs) x (inr i) = inr (in_map f xs x i)

pub in_left : {X : Type 0} (xs ys : List X) (x : X) → In x xs → In x (xs ++ ys)
in_left [] ys x i = absurd i
in_left (y ∷ xs) ys x (inl e) = inl e
in_left (y ∷ xs) ys x (inr i) = inr (in_left xs ys x i)

pub in_right : {X : Type 0} (xs ys : List X) (x : X) → In x ys → In x (xs ++ ys)
in_right [] ys x i = i
in_right (y ∷ xs) ys x i = inr (in_right xs ys x i)

-- what one of the parts has, all of them have
pub in_flat : {X Y : Type 0} (f : X → List Y) (xs : List X) (x : X) → In x xs → (y : Y) → In y (f x) → In y (flat_map f xs)
in_flat f [] x i y h = absurd i
in_flat f (z ∷ xs) x (inl e) y h = in_left (f z) (flat_map f xs) y (subst (λ u. In y (f u)) e h)
in_flat f (z ∷ xs) x (inr i) y h = in_right (f z) (flat_map f xs) y (in_flat f xs x i y h)
