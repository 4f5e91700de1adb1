-- Two lists of pairs are put together by moves of whole parts.
use Rattle.std.proofs.Common.{◌≡◌, ◌≢◌, ◌≤◌, ◌<◌, ◌+◌, ◌-◌, ◌/◌, ℕ, zero, suc, List, [], ◌∷◌, ◌++◌, length, take, drop, get_or, Option, Some, None, Bool, false, cond, refl, sym, ap, ◌∙◌, subst, arith, ◌==◌, length-append, length-drop, ◌⊎◌, inl, inr}
use Rattle.std.proofs.lemmas.List.{take-append-drop, get_or_append_left, get_or-append-add, length-take-le, take_at, drop_at, append_assoc, append-nil, drop-drop, drop_more, drop_all, take_rest, get_or-take, get_or-drop}
use Rattle.std.proofs.lemmas.List.Elements.{All-from_get_or, All-get_or}
use Rattle.std.proofs.lemmas.List.Sorted.{IsPermutation-append, IsPermutation-cons, IsPermutation-trans, All-permutation, length_permutation, IsPermutation-put_mid}
use Rattle.std.specs.List.Sorted.{IsPermutation}
use borrow.Rule.Slice.PartMut.{put_mid, mid_of}
use Rattle.bfs_txn.specs.Changed.{newest, or_else, number_at, Ascends}
use Rattle.bfs_txn.specs.Merging.{AreApart, IsParted, IsCut}
use Rattle.bfs_txn.proofs.Layers.{absent, newest-append, whole_at}

abbrev Pairs : Type 0
Pairs = List (ℕ × List ℕ)

split : (j m : ℕ) → (j < m) ⊎ (m ≤ j)
split j m = grind arith

-- places in two lists, one behind the other
number-left : (xs ys : Pairs) (i : ℕ) → i < length xs → number_at (xs ++ ys) i ≡ number_at xs i
number-left xs ys i h = ap (λ p. p.0) (get_or_append_left xs ys (0, []) i h)

number-right : (xs ys : Pairs) (i : ℕ) → number_at (xs ++ ys) (length xs + i) ≡ number_at ys i
number-right xs ys i = ap (λ p. p.0) (get_or-append-add xs ys i (0, []))

number-behind : (xs ys : Pairs) (i : ℕ) → length xs ≤ i → number_at (xs ++ ys) i ≡ number_at ys (i - length xs)
number-behind xs ys i h = let e : i ≡ length xs + (i - length xs) = omega arith in ap (number_at (xs ++ ys)) e ∙ number-right xs ys (i - length xs)

-- the pairs are of blocks below the number, or above it
abbrev AreBelow : ℕ → Pairs → Type 0
AreBelow n ps = (i : ℕ) → i < length ps → number_at ps i < n

abbrev AreAbove : ℕ → Pairs → Type 0
AreAbove n ps = (i : ℕ) → i < length ps → n < number_at ps i

below-append : (n : ℕ) (xs ys : Pairs) → AreBelow n xs → AreBelow n ys → AreBelow n (xs ++ ys)
below-append n xs ys a b i h = here (split i (length xs))
  where
    here : (i < length xs) ⊎ (length xs ≤ i) → number_at (xs ++ ys) i < n
    here (inl l) = omega (arith, a i l, number-left xs ys i l)
    here (inr l) = omega (arith, b (i - length xs) (omega (arith, length-append xs ys)), number-behind xs ys i l)

above-append : (n : ℕ) (xs ys : Pairs) → AreAbove n xs → AreAbove n ys → AreAbove n (xs ++ ys)
above-append n xs ys a b i h = here (split i (length xs))
  where
    here : (i < length xs) ⊎ (length xs ≤ i) → n < number_at (xs ++ ys) i
    here (inl l) = omega (arith, a i l, number-left xs ys i l)
    here (inr l) = omega (arith, b (i - length xs) (omega (arith, length-append xs ys)), number-behind xs ys i l)

ascends-left : (xs ys : Pairs) → Ascends (xs ++ ys) → Ascends xs
ascends-left xs ys asc i j a b = omega (arith, asc i j a (omega (arith, length-append xs ys)), number-left xs ys i (omega arith), number-left xs ys j b)

ascends-right : (xs ys : Pairs) → Ascends (xs ++ ys) → Ascends ys
ascends-right xs ys asc i j a b = omega (arith, asc (length xs + i) (length xs + j) (omega arith) (omega (arith, length-append xs ys)), number-right xs ys i, number-right xs ys j)

ascends-append : (xs ys : Pairs) → Ascends xs → Ascends ys → ((i j : ℕ) → i < length xs → j < length ys → number_at xs i < number_at ys j) → Ascends (xs ++ ys)
ascends-append xs ys a b less i j h g = here (split i (length xs)) (split j (length xs))
  where
    inside : j < length xs + length ys
    inside = omega (arith, length-append xs ys)

    here : (i < length xs) ⊎ (length xs ≤ i) → (j < length xs) ⊎ (length xs ≤ j) → number_at (xs ++ ys) i < number_at (xs ++ ys) j
    here (inl l) (inl m) = omega (arith, a i j h m, number-left xs ys i l, number-left xs ys j m)
    here (inl l) (inr m) = omega (arith, less i (j - length xs) l (omega (arith, inside)), number-left xs ys i l, number-behind xs ys j m)
    here (inr l) (inl m) = absurd (omega arith)
    here (inr l) (inr m) = omega (arith, b (i - length xs) (j - length xs) (omega arith) (omega (arith, inside)), number-behind xs ys i l, number-behind xs ys j m)

ascends-cons : (x : ℕ × List ℕ) (xs : Pairs) → AreAbove x.0 xs → Ascends xs → Ascends (x ∷ xs)
ascends-cons x xs above asc zero zero a b = absurd (omega arith)
ascends-cons x xs above asc zero (suc j) a b = above j (omega arith)
ascends-cons x xs above asc (suc i) zero a b = absurd (omega arith)
ascends-cons x xs above asc (suc i) (suc j) a b = asc i j (omega arith) (omega arith)

-- a list that ascends, with a pair in its middle
middle_below : (xs ys : Pairs) (x : ℕ × List ℕ) → Ascends (xs ++ x ∷ ys) → AreBelow x.0 xs
middle_below xs ys x asc i h =
    omega (arith, asc i (length xs + 0) (omega arith) (omega (arith, length-append xs (x ∷ ys))), number-left xs (x ∷ ys) i h, number-right xs (x ∷ ys) 0)

middle_above : (xs ys : Pairs) (x : ℕ × List ℕ) → Ascends (xs ++ x ∷ ys) → AreAbove x.0 ys
middle_above xs ys x asc i h =
    omega (arith, asc (length xs + 0) (length xs + suc i) (omega arith) (omega (arith, length-append xs (x ∷ ys))), number-right xs (x ∷ ys) 0, number-right xs (x ∷ ys) (suc i))

-- how the two lists read
swapped : (a1 a2 b1 b2 x : Option (List ℕ)) → (a2 ≡ None) ⊎ ((x ≡ None) × (b1 ≡ None)) → or_else (or_else (or_else b2 a2) x) (or_else b1 a1) ≡ or_else (or_else (or_else b2 x) b1) (or_else a2 a1)
swapped a1 a2 b1 b2 x (inl e) = subst (λ (o : Option (List ℕ)). or_else (or_else (or_else b2 o) x) (or_else b1 a1) ≡ or_else (or_else (or_else b2 x) b1) (or_else o a1)) (sym e) (here b2 x b1)
  where
    here : (b2 x b1 : Option (List ℕ)) → or_else (or_else (or_else b2 None) x) (or_else b1 a1) ≡ or_else (or_else (or_else b2 x) b1) a1
    here (Some v) x b1 = refl
    here None (Some v) b1 = refl
    here None None (Some v) = refl
    here None None None = refl
swapped a1 a2 b1 b2 x (inr e) =
    subst (λ (o : Option (List ℕ)). or_else (or_else (or_else b2 a2) o) (or_else b1 a1) ≡ or_else (or_else (or_else b2 o) b1) (or_else a2 a1)) (sym e.0)
    (subst (λ (o : Option (List ℕ)). or_else (or_else (or_else b2 a2) None) (or_else o a1) ≡ or_else (or_else (or_else b2 None) o) (or_else a2 a1)) (sym e.1) (here b2 a2))
  where
    here : (b2 a2 : Option (List ℕ)) → or_else (or_else (or_else b2 a2) None) a1 ≡ or_else (or_else (or_else b2 None) None) (or_else a2 a1)
    here (Some v) a2 = refl
    here None (Some v) = refl
    here None None = refl

moved_reads : (a1 a2 b1 b2 : Pairs) (x : ℕ × List ℕ) → AreAbove x.0 a2 → AreBelow x.0 b1 → (k : ℕ) → newest ((a1 ++ b1) ++ x ∷ (a2 ++ b2)) k ≡ newest ((a1 ++ a2) ++ (b1 ++ x ∷ b2)) k
moved_reads a1 a2 b1 b2 x above below k =
    newest-append (a1 ++ b1) (x ∷ (a2 ++ b2)) k
    ∙ ap (λ o. or_else (or_else o (cond (k == x.0) (Some x.1) None)) (newest (a1 ++ b1) k)) (newest-append a2 b2 k)
    ∙ ap (λ o. or_else (or_else (or_else (newest b2 k) (newest a2 k)) (cond (k == x.0) (Some x.1) None)) o) (newest-append a1 b1 k)
    ∙ swapped (newest a1 k) (newest a2 k) (newest b1 k) (newest b2 k) (cond (k == x.0) (Some x.1) None) (one (split x.0 k))
    ∙ sym (ap (λ o. or_else (or_else (or_else (newest b2 k) (cond (k == x.0) (Some x.1) None)) (newest b1 k)) o) (newest-append a1 a2 k))
    ∙ sym (ap (λ o. or_else o (newest (a1 ++ a2) k)) (newest-append b1 (x ∷ b2) k))
    ∙ sym (newest-append (a1 ++ a2) (b1 ++ x ∷ b2) k)
  where
    other : (t : Bool) → t ≡ false → cond t (Some x.1) None ≡ None
    other t e = rw e refl

    one : (x.0 < k) ⊎ (k ≤ x.0) → (newest a2 k ≡ None) ⊎ ((cond (k == x.0) (Some x.1) None ≡ None) × (newest b1 k ≡ None))
    one (inl l) = inr (other (k == x.0) (grind (arith, l)), absent b1 k (λ i h e. omega (arith, below i h, e, l)))
    one (inr l) = inl (absent a2 k (λ i h e. omega (arith, above i h, e, l)))

-- the parts of a list
same_places : (mid at half : ℕ) (old new : Pairs) (m a h : ℕ) (o n : Pairs) → m ≡ mid → a ≡ at → h ≡ half → o ≡ old → n ≡ new → IsParted m a h o n → IsParted mid at half old new
same_places mid at half old new m a h o n em ea eh eo en p =
    subst (λ (z : ℕ). IsParted z at half old new) em (subst (λ (z : ℕ). IsParted m z half old new) ea (subst (λ (z : ℕ). IsParted m a z old new) eh (subst (λ (z : Pairs). IsParted m a h z new) eo (subst (λ (z : Pairs). IsParted m a h o z) en p))))

after_next : (xs ys : Pairs) (x : ℕ × List ℕ) (n : ℕ) → length xs ≡ n → drop (suc n) (xs ++ x ∷ ys) ≡ ys
after_next xs ys x n e =
    let s : suc n ≡ n + 1 = omega arith in
    ap (λ (m : ℕ). drop m (xs ++ x ∷ ys)) s ∙ sym (drop-drop 1 n (xs ++ x ∷ ys)) ∙ ap (drop 1) (drop_at xs (x ∷ ys) n e)

parted_lists : (a1 a2 b1 b2 : Pairs) (x : ℕ × List ℕ) → Ascends (a1 ++ a2) → Ascends (b1 ++ x ∷ b2) → AreApart (a1 ++ a2) (b1 ++ x ∷ b2) → AreBelow x.0 a1 → AreAbove x.0 a2
    → IsPermutation ((a1 ++ a2) ++ (b1 ++ x ∷ b2)) ((a1 ++ b1) ++ x ∷ (a2 ++ b2))
    → IsParted (length a1 + length a2) (length a1) (length b1) ((a1 ++ a2) ++ (b1 ++ x ∷ b2)) ((a1 ++ b1) ++ x ∷ (a2 ++ b2))
parted_lists a1 a2 b1 b2 x front back apart low high perm = record {
  up_to = omega arith;
  permutation = perm;
  reads = moved_reads a1 a2 b1 b2 x high b1_below;
  below = λ i h. omega (arith, below-append x.0 a1 b1 low b1_below i (omega (arith, long)), number-left (a1 ++ b1) (x ∷ (a2 ++ b2)) i (omega (arith, long)), here);
  above = λ i h g.
      omega (arith, above-append x.0 a2 b2 high b2_above (i - suc (length a1 + length b1)) (omega (arith, long, length-append (a1 ++ b1) (x ∷ (a2 ++ b2)))), behind i h, here);
  front = subst Ascends (sym first) (ascends-left a1 a2 front);
  front_back = subst Ascends (sym second) (ascends-left b1 (x ∷ b2) back);
  front_apart = subst (λ (z : Pairs). AreApart z (drop (length a1) (take (length a1 + length b1) ((a1 ++ b1) ++ x ∷ (a2 ++ b2))))) (sym first) (subst (λ (z : Pairs). AreApart a1 z) (sym second) apart_1);
  back = subst Ascends (sym third) (ascends-right a1 a2 front);
  back_back = subst Ascends (sym fourth) (ascends-right (b1 ++ x ∷ []) b2 (subst Ascends (sym with_x) back));
  back_apart = subst (λ (z : Pairs). AreApart z (drop (length a1 + length a2 - length a1) (drop (suc (length a1 + length b1)) ((a1 ++ b1) ++ x ∷ (a2 ++ b2))))) (sym third) (subst (λ (z : Pairs). AreApart a2 z) (sym fourth) apart_2);
}
  where
    long : length (a1 ++ b1) ≡ length a1 + length b1
    long = length-append a1 b1

    with_x : (b1 ++ x ∷ []) ++ b2 ≡ b1 ++ x ∷ b2
    with_x = append_assoc b1 (x ∷ []) b2

    b1_below : AreBelow x.0 b1
    b1_below = middle_below b1 b2 x back

    b2_above : AreAbove x.0 b2
    b2_above = middle_above b1 b2 x back

    here : number_at ((a1 ++ b1) ++ x ∷ (a2 ++ b2)) (length a1 + length b1) ≡ x.0
    here = number-behind (a1 ++ b1) (x ∷ (a2 ++ b2)) (length a1 + length b1) (omega (arith, long)) ∙ ap (number_at (x ∷ (a2 ++ b2))) (let e : length a1 + length b1 - length (a1 ++ b1) ≡ 0 = omega (arith, long) in e)

    behind : (i : ℕ) → length a1 + length b1 < i → number_at ((a1 ++ b1) ++ x ∷ (a2 ++ b2)) i ≡ number_at (a2 ++ b2) (i - suc (length a1 + length b1))
    behind i h =
        let e : i - length (a1 ++ b1) ≡ suc (i - suc (length a1 + length b1)) = omega (arith, long) in
        number-behind (a1 ++ b1) (x ∷ (a2 ++ b2)) i (omega (arith, long)) ∙ ap (number_at (x ∷ (a2 ++ b2))) e

    whole : take (length a1 + length b1) ((a1 ++ b1) ++ x ∷ (a2 ++ b2)) ≡ a1 ++ b1
    whole = take_at (a1 ++ b1) (x ∷ (a2 ++ b2)) (length a1 + length b1) long

    first : take (length a1) (take (length a1 + length b1) ((a1 ++ b1) ++ x ∷ (a2 ++ b2))) ≡ a1
    first = ap (take (length a1)) whole ∙ take_at a1 b1 (length a1) refl

    second : drop (length a1) (take (length a1 + length b1) ((a1 ++ b1) ++ x ∷ (a2 ++ b2))) ≡ b1
    second = ap (drop (length a1)) whole ∙ drop_at a1 b1 (length a1) refl

    rest : drop (suc (length a1 + length b1)) ((a1 ++ b1) ++ x ∷ (a2 ++ b2)) ≡ a2 ++ b2
    rest = after_next (a1 ++ b1) (a2 ++ b2) x (length a1 + length b1) long

    second_long : length a2 ≡ length a1 + length a2 - length a1
    second_long = omega arith

    third : take (length a1 + length a2 - length a1) (drop (suc (length a1 + length b1)) ((a1 ++ b1) ++ x ∷ (a2 ++ b2))) ≡ a2
    third = ap (take (length a1 + length a2 - length a1)) rest ∙ take_at a2 b2 (length a1 + length a2 - length a1) second_long

    fourth : drop (length a1 + length a2 - length a1) (drop (suc (length a1 + length b1)) ((a1 ++ b1) ++ x ∷ (a2 ++ b2))) ≡ b2
    fourth = ap (drop (length a1 + length a2 - length a1)) rest ∙ drop_at a2 b2 (length a1 + length a2 - length a1) second_long

    apart_1 : AreApart a1 b1
    apart_1 i j h g e =
        apart i j (omega (arith, length-append a1 a2)) (omega (arith, length-append b1 (x ∷ b2))) (number-left a1 a2 i h ∙ e ∙ sym (number-left b1 (x ∷ b2) j g))

    apart_2 : AreApart a2 b2
    apart_2 i j h g e =
        apart (length a1 + i) (length (b1 ++ x ∷ []) + j) (omega (arith, length-append a1 a2)) (omega (arith, length-append (b1 ++ x ∷ []) b2, ap (λ (l : Pairs). length l) with_x))
        (number-right a1 a2 i ∙ e ∙ sym (ap (λ (l : Pairs). number_at l (length (b1 ++ x ∷ []) + j)) (sym with_x) ∙ number-right (b1 ++ x ∷ []) b2 j))

-- what the turn of the middle leaves
turned : (a1 a2 b1 b2 : Pairs) (x : ℕ × List ℕ) (n : ℕ) → n ≡ length a2 + (length b1 + 1) → (ys : Pairs)
    → ys ≡ drop (length a2) (mid_of (length a1) n ((a1 ++ a2) ++ (b1 ++ x ∷ b2))) ++ take (length a2) (mid_of (length a1) n ((a1 ++ a2) ++ (b1 ++ x ∷ b2)))
    → put_mid (length a1) n ((a1 ++ a2) ++ (b1 ++ x ∷ b2)) ys ≡ (a1 ++ b1) ++ x ∷ (a2 ++ b2)
turned a1 a2 b1 b2 x n e ys is =
    ap (λ (l : Pairs). l ++ (ys ++ drop n (drop (length a1) ((a1 ++ a2) ++ (b1 ++ x ∷ b2))))) (ap (take (length a1)) shape ∙ take_at a1 (a2 ++ (b1 ++ x ∷ b2)) (length a1) refl)
    ∙ ap (λ (l : Pairs). a1 ++ (l ++ drop n (drop (length a1) ((a1 ++ a2) ++ (b1 ++ x ∷ b2))))) ys_are
    ∙ ap (λ (l : Pairs). a1 ++ (((b1 ++ x ∷ []) ++ a2) ++ l)) after
    ∙ ap (λ (l : Pairs). a1 ++ l) (append_assoc (b1 ++ x ∷ []) a2 b2 ∙ append_assoc b1 (x ∷ []) (a2 ++ b2))
    ∙ sym (append_assoc a1 b1 (x ∷ (a2 ++ b2)))
  where
    shape : (a1 ++ a2) ++ (b1 ++ x ∷ b2) ≡ a1 ++ (a2 ++ (b1 ++ x ∷ b2))
    shape = append_assoc a1 a2 (b1 ++ x ∷ b2)

    second : drop (length a1) ((a1 ++ a2) ++ (b1 ++ x ∷ b2)) ≡ (a2 ++ (b1 ++ x ∷ [])) ++ b2
    second = ap (drop (length a1)) shape ∙ drop_at a1 (a2 ++ (b1 ++ x ∷ b2)) (length a1) refl ∙ ap (λ (l : Pairs). a2 ++ l) (sym (append_assoc b1 (x ∷ []) b2)) ∙ sym (append_assoc a2 (b1 ++ x ∷ []) b2)

    long : length (a2 ++ (b1 ++ x ∷ [])) ≡ n
    long = omega (arith, length-append a2 (b1 ++ x ∷ []), length-append b1 (x ∷ []), e)

    middle : take n (drop (length a1) ((a1 ++ a2) ++ (b1 ++ x ∷ b2))) ≡ a2 ++ (b1 ++ x ∷ [])
    middle = ap (take n) second ∙ take_at (a2 ++ (b1 ++ x ∷ [])) b2 n long

    after : drop n (drop (length a1) ((a1 ++ a2) ++ (b1 ++ x ∷ b2))) ≡ b2
    after = ap (drop n) second ∙ drop_at (a2 ++ (b1 ++ x ∷ [])) b2 n long

    ys_are : ys ≡ (b1 ++ x ∷ []) ++ a2
    ys_are = is ∙ ap (λ (l : Pairs). drop (length a2) l ++ take (length a2) l) middle ∙ ap (λ (l : Pairs). l ++ take (length a2) (a2 ++ (b1 ++ x ∷ []))) (drop_at a2 (b1 ++ x ∷ []) (length a2) refl) ∙ ap (λ (l : Pairs). (b1 ++ x ∷ []) ++ l) (take_at a2 (b1 ++ x ∷ []) (length a2) refl)

strictly : (a b : ℕ) → a ≤ b → b ≢ a → a < b
strictly a b h ne = grind (arith, h, ne)

-- where the pairs of the first part that are above the one in the middle of the second change places with those up to it
pub parted : (mid half at number : ℕ) (old ys : Pairs) → mid + half < length old → Ascends (take mid old) → Ascends (drop mid old) → AreApart (take mid old) (drop mid old)
    → IsCut (take mid old) number at → number ≡ number_at old (mid + half)
    → ys ≡ drop (mid - at) (mid_of at (mid + half + 1 - at) old) ++ take (mid - at) (mid_of at (mid + half + 1 - at) old)
    → IsPermutation (mid_of at (mid + half + 1 - at) old) ys
    → IsParted mid at half old (put_mid at (mid + half + 1 - at) old ys)
parted mid half at number old ys inside front back apart cut is turn perm =
    same_places mid at half old (put_mid at n old ys) (length a1 + length a2) (length a1) (length b1) ((a1 ++ a2) ++ (b1 ++ x ∷ b2)) ((a1 ++ b1) ++ x ∷ (a2 ++ b2)) (omega (arith, long_1, long_2, up_to)) long_1 long_3 whole (sym made)
    (parted_lists a1 a2 b1 b2 x (subst Ascends (sym whole_front) front) (subst Ascends (sym whole_back) back)
    (subst (λ (z : Pairs). AreApart z (b1 ++ x ∷ b2)) (sym whole_front) (subst (λ (z : Pairs). AreApart (take mid old) z) (sym whole_back) apart)) low high
    (subst (λ (z : Pairs). IsPermutation z ((a1 ++ b1) ++ x ∷ (a2 ++ b2))) (sym whole) (subst (λ (z : Pairs). IsPermutation old z) made (IsPermutation-put_mid at n old ys perm))))
  where
    n : ℕ
    n = mid + half + 1 - at

    a1 : Pairs
    a1 = take at (take mid old)

    a2 : Pairs
    a2 = drop at (take mid old)

    b1 : Pairs
    b1 = take half (drop mid old)

    b2 : Pairs
    b2 = drop (suc half) (drop mid old)

    x : ℕ × List ℕ
    x = get_or (drop mid old) half (0, [])

    front_long : length (take mid old) ≡ mid
    front_long = length-take-le mid old (omega (arith, inside))

    up_to : at ≤ mid
    up_to = omega (arith, cut.up_to, front_long)

    half_in : half < length (drop mid old)
    half_in = omega (arith, length-drop mid old, inside)

    long_1 : length a1 ≡ at
    long_1 = length-take-le at (take mid old) cut.up_to

    long_2 : length a2 ≡ mid - at
    long_2 = length-drop at (take mid old) ∙ ap (λ (m : ℕ). m - at) front_long

    long_3 : length b1 ≡ half
    long_3 = length-take-le half (drop mid old) (omega (arith, half_in))

    whole_front : a1 ++ a2 ≡ take mid old
    whole_front = take-append-drop at (take mid old)

    whole_back : b1 ++ x ∷ b2 ≡ drop mid old
    whole_back = whole_at (drop mid old) half half_in

    whole : (a1 ++ a2) ++ (b1 ++ x ∷ b2) ≡ old
    whole = ap (λ (l : Pairs). l ++ (b1 ++ x ∷ b2)) whole_front ∙ ap (λ (l : Pairs). take mid old ++ l) whole_back ∙ take-append-drop mid old

    turn_lists : ys ≡ drop (length a2) (mid_of (length a1) n ((a1 ++ a2) ++ (b1 ++ x ∷ b2))) ++ take (length a2) (mid_of (length a1) n ((a1 ++ a2) ++ (b1 ++ x ∷ b2)))
    turn_lists =
        subst (λ (m : ℕ). ys ≡ drop m (mid_of (length a1) n ((a1 ++ a2) ++ (b1 ++ x ∷ b2))) ++ take m (mid_of (length a1) n ((a1 ++ a2) ++ (b1 ++ x ∷ b2)))) (sym long_2)
        (subst (λ (m : ℕ). ys ≡ drop (mid - at) (mid_of m n ((a1 ++ a2) ++ (b1 ++ x ∷ b2))) ++ take (mid - at) (mid_of m n ((a1 ++ a2) ++ (b1 ++ x ∷ b2)))) (sym long_1)
        (subst (λ (l : Pairs). ys ≡ drop (mid - at) (mid_of at n l) ++ take (mid - at) (mid_of at n l)) (sym whole) turn))

    made : put_mid at n old ys ≡ (a1 ++ b1) ++ x ∷ (a2 ++ b2)
    made =
        ap (λ (l : Pairs). put_mid at n l ys) (sym whole) ∙ ap (λ (m : ℕ). put_mid m n ((a1 ++ a2) ++ (b1 ++ x ∷ b2)) ys) (sym long_1)
        ∙ turned a1 a2 b1 b2 x n (let e = up_to in omega (arith, long_2, long_3)) ys turn_lists

    x_is : x.0 ≡ number
    x_is = ap (λ p. p.0) (get_or-drop mid old half (0, [])) ∙ sym is

    low : AreBelow x.0 a1
    low i h = omega (arith, cut.below i (omega (arith, long_1, h)), ap (λ p. p.0) (get_or-take at (take mid old) i (0, []) (omega (arith, long_1, h))), x_is)

    number_2 : (i : ℕ) → number_at a2 i ≡ number_at (take mid old) (at + i)
    number_2 i = ap (λ p. p.0) (get_or-drop at (take mid old) i (0, []))

    high : AreAbove x.0 a2
    high i h =
        let inside_2 : at + i < length (take mid old) = omega (arith, long_2, front_long, h) in
        let least : number ≤ number_at (take mid old) (at + i) = cut.above (at + i) (omega arith) inside_2 in
        strictly x.0 (number_at a2 i) (omega (arith, least, number_2 i, x_is)) (λ e. apart (at + i) half inside_2 half_in (sym (number_2 i) ∙ e))

-- what a merge of two parts leaves
pub record IsMerged (old new : Pairs) : Type 0 where
  pub ascends : Ascends new
  pub permutation : IsPermutation old new
  pub reads : (k : ℕ) → newest new k ≡ newest old k

module _ (mid at half : ℕ) (old new front : Pairs) (inside : mid + half < length old) (parts : IsParted mid at half old new) (done : IsMerged (take (at + half) new) front) where
  abbrev x : ℕ × List ℕ
  x = get_or new (at + half) (0, [])

  same_long : length new ≡ length old
  same_long = length_permutation old new parts.permutation

  pub place : at + half < length new
  place = let e = parts.up_to in omega (arith, inside, same_long)

  whole : take (at + half) new ++ x ∷ drop (suc (at + half)) new ≡ new
  whole = whole_at new (at + half) place

  front_long : length front ≡ at + half
  front_long = length_permutation (take (at + half) new) front done.permutation ∙ length-take-le (at + half) new (let h = place in omega arith)

  behind_list : drop (at + half + 1) (front ++ drop (at + half) new) ≡ drop (suc (at + half)) new
  behind_list =
      let s : at + half + 1 ≡ suc (at + half) = omega arith in
      ap (λ (l : Pairs). drop (at + half + 1) (front ++ l)) (drop_more new (at + half) (0, []) place) ∙ ap (λ (n : ℕ). drop n (front ++ x ∷ drop (at + half + 1) new)) s ∙ after_next front (drop (at + half + 1) new) x (at + half) front_long
      ∙ ap (λ (n : ℕ). drop n new) s

  pub rest : take (length (front ++ drop (at + half) new) - (at + half + 1)) (drop (at + half + 1) (front ++ drop (at + half) new)) ≡ drop (suc (at + half)) new
  rest = take_rest (front ++ drop (at + half) new) (at + half + 1) ∙ behind_list

  rest_long : length (take (length (front ++ drop (at + half) new) - (at + half + 1)) (drop (at + half + 1) (front ++ drop (at + half) new))) ≡ length old - suc (at + half)
  rest_long = ap (λ (l : Pairs). length l) rest ∙ length-drop (suc (at + half)) new ∙ ap (λ (n : ℕ). n - suc (at + half)) same_long

  pub shorter : length (take (length (front ++ drop (at + half) new) - (at + half + 1)) (drop (at + half + 1) (front ++ drop (at + half) new))) - (mid - at) < length old - mid
  shorter = let e = parts.up_to in omega (arith, rest_long, inside, e)

  pub room : mid - at ≤ length (take (length (front ++ drop (at + half) new) - (at + half + 1)) (drop (at + half + 1) (front ++ drop (at + half) new)))
  room = let e = parts.up_to in omega (arith, rest_long, inside, e)

  module _ (back : Pairs) (then : IsMerged (drop (suc (at + half)) new) back) where
    abbrev list : Pairs
    list = front ++ x ∷ back

    front_below : AreBelow x.0 front
    front_below i h =
        All-get_or (λ p. p.0 < x.0) front i (0, []) h (All-permutation (λ p. p.0 < x.0) (take (at + half) new) front done.permutation
        (All-from_get_or (λ p. p.0 < x.0) (take (at + half) new) (0, []) (λ j g. let lt : j < at + half = omega (arith, g, length-take-le (at + half) new (let h = place in omega arith)) in
        subst (λ p. p.0 < x.0) (sym (get_or-take (at + half) new j (0, []) lt)) (parts.below j lt))))

    back_above : AreAbove x.0 back
    back_above i h =
        All-get_or (λ p. x.0 < p.0) back i (0, []) h (All-permutation (λ p. x.0 < p.0) (drop (suc (at + half)) new) back then.permutation
        (All-from_get_or (λ p. x.0 < p.0) (drop (suc (at + half)) new) (0, []) (λ j g. let lt : suc (at + half) + j < length new = omega (arith, g, length-drop (suc (at + half)) new) in
        subst (λ p. x.0 < p.0) (sym (get_or-drop (suc (at + half)) new j (0, []))) (parts.above (suc (at + half) + j) (omega arith) lt))))

    behind : (i j : ℕ) → i < length front → j < length (x ∷ back) → number_at front i < number_at (x ∷ back) j
    behind i zero h g = front_below i h
    behind i (suc j) h g = omega (arith, front_below i h, back_above j (omega (arith, g)))

    merged : IsMerged old list
    merged = record {
      ascends = ascends-append front (x ∷ back) done.ascends (ascends-cons x back back_above then.ascends) behind;
      permutation = IsPermutation-trans old new list parts.permutation
          (subst (λ (z : Pairs). IsPermutation z list) whole (IsPermutation-append (take (at + half) new) front (x ∷ drop (suc (at + half)) new) (x ∷ back) done.permutation (IsPermutation-cons x (drop (suc (at + half)) new) back then.permutation)));
      reads = λ k.
          newest-append front (x ∷ back) k
          ∙ ap (λ o. or_else (or_else o (cond (k == x.0) (Some x.1) None)) (newest front k)) (then.reads k)
          ∙ ap (λ o. or_else (newest (x ∷ drop (suc (at + half)) new) k) o) (done.reads k)
          ∙ sym (newest-append (take (at + half) new) (x ∷ drop (suc (at + half)) new) k)
          ∙ ap (λ (l : Pairs). newest l k) whole
          ∙ parts.reads k;
    }

    pub joined : IsMerged old (put_mid (at + half + 1) (length (front ++ drop (at + half) new) - (at + half + 1)) (front ++ drop (at + half) new) back)
    joined = subst (λ (z : Pairs). IsMerged old z) (sym shape) merged
      where
        cs : Pairs
        cs = front ++ drop (at + half) new

        pushed : take (at + half + 1) cs ≡ front ++ x ∷ []
        pushed =
            ap (λ (l : Pairs). take (at + half + 1) (front ++ l)) (drop_more new (at + half) (0, []) place)
            ∙ ap (take (at + half + 1)) (sym (append_assoc front (x ∷ []) (drop (at + half + 1) new)))
            ∙ take_at (front ++ x ∷ []) (drop (at + half + 1) new) (at + half + 1) (omega (arith, length-append front (x ∷ []), front_long))

        nothing : drop (length cs - (at + half + 1)) (drop (at + half + 1) cs) ≡ []
        nothing = drop_all (length cs - (at + half + 1)) (drop (at + half + 1) cs) (omega (arith, length-drop (at + half + 1) cs))

        shape : put_mid (at + half + 1) (length cs - (at + half + 1)) cs back ≡ list
        shape =
            ap (λ (l : Pairs). l ++ (back ++ drop (length cs - (at + half + 1)) (drop (at + half + 1) cs))) pushed
            ∙ ap (λ (l : Pairs). (front ++ x ∷ []) ++ (back ++ l)) nothing
            ∙ ap (λ (l : Pairs). (front ++ x ∷ []) ++ l) (append-nil back)
            ∙ append_assoc front (x ∷ []) back

pub half_inside : (n m : ℕ) → m < n → m + (n - m) / 2 < n
half_inside n m h = omega arith

pub finish : (mid at half : ℕ) (old new front back : Pairs) → mid + half < length old → IsParted mid at half old new → IsMerged (take (at + half) new) front
    → Ascends back → IsPermutation (take (length (front ++ drop (at + half) new) - (at + half + 1)) (drop (at + half + 1) (front ++ drop (at + half) new))) back
    → ((k : ℕ) → newest back k ≡ newest (take (length (front ++ drop (at + half) new) - (at + half + 1)) (drop (at + half + 1) (front ++ drop (at + half) new))) k)
    → IsMerged old (put_mid (at + half + 1) (length (front ++ drop (at + half) new) - (at + half + 1)) (front ++ drop (at + half) new) back)
finish mid at half old new front back inside parts done asc perm same =
    joined mid at half old new front inside parts done back
    (subst (λ (l : Pairs). IsMerged l back) (rest mid at half old new front inside parts done) (record { ascends = asc; permutation = perm; reads = same }))
