-- Look-ups in lists of pairs, and what an edit of one leaves of its order and its look-ups.
use Rattle.std.proofs.Common.{◌≡◌, ◌≢◌, ◌≤◌, ◌<◌, ◌+◌, ◌-◌, ℕ, zero, suc, List, [], ◌∷◌, ◌++◌, length, take, drop, get_or, set, insert, Option, Some, None, Bool, true, false, cond, refl, sym, ap, ◌∙◌, subst, arith, ◌==◌, length-set, length-drop, ◌||◌, is_some, IfSome, Result, Ok, Err, OnOk, OnErr, ◌⊎◌, inl, inr}
use Rattle.std.proofs.lemmas.List.{set_split, set-get_or, get_or-set_same, get_or-set_other, take-append-drop, get_or-take, get_or-drop, take-set-le, take-append-le, take-take, length-take-le}
use Rattle.std.proofs.lemmas.List.Edits.{length-insert, get_or-insert_below, get_or-insert_at, get_or-insert_above}
use Rattle.bfs_txn.specs.Changed.{newest, or_else, over, number_at, bytes_at, Ascends, AscendsIn, AreOfSize, AreLayered, IsAt, IsGap}
use Rattle.bfs_txn.specs.Merging.{IsCut}
use Rattle.bfs_txn.specs.Told.{with_block}
use Rattle.bfs_txn.specs.Laws.{newest_sized}
use Rattle.std.specs.Option.{option_map}

abbrev Pairs : Type 0
Pairs = List (ℕ × List ℕ)

-- a block that stands nowhere has no newest bytes
pub absent : (ps : Pairs) (k : ℕ) → ((i : ℕ) → i < length ps → number_at ps i ≢ k) → newest ps k ≡ None
absent [] k none = refl
absent (p ∷ ps) k none =
    let rest : newest ps k ≡ None = absent ps k (λ i h. none (suc i) (omega arith)) in
    let ne : p.0 ≢ k = none zero (omega arith) in
    let test : (k == p.0) ≡ false = grind (arith, ne) in
    rw (rest, test) refl

-- the last place of a block has its newest bytes
pub found : (ps : Pairs) (i k : ℕ) → i < length ps → number_at ps i ≡ k → ((j : ℕ) → i < j → j < length ps → number_at ps j ≢ k) → newest ps k ≡ Some (bytes_at ps i)
found [] i k inside is last = absurd (omega arith)
found (p ∷ ps) zero k inside is last =
    let rest : newest ps k ≡ None = absent ps k (λ j h. last (suc j) (omega arith) (omega arith)) in
    let test : (k == p.0) ≡ true = grind (arith, is) in
    rw (rest, test) refl
found (p ∷ ps) (suc i) k inside is last =
    let rest : newest ps k ≡ Some (bytes_at ps i) = found ps i k (omega arith) is (λ j a b. last (suc j) (omega arith) (omega arith)) in
    rw rest refl

pub not_less : (a b : ℕ) → a < b → b ≢ a
not_less a b h e = omega arith

pub not_more : (a b : ℕ) → a < b → a ≢ b
not_more a b h e = omega arith

-- a look-up in both parts
pub found_own : (ps : Pairs) (mark k i : ℕ) → AscendsIn ps mark (length ps) → IsAt ps mark (length ps) k i → newest ps k ≡ Some (bytes_at ps i)
found_own ps mark k i own at =
    found ps i k at.before_to at.is (λ j a b. not_less k (number_at ps j) (subst (λ (n : ℕ). n < number_at ps j) at.is (own i j at.from_on a b)))

pub found_kept : (ps : Pairs) (mark k i g : ℕ) → mark ≤ length ps → AscendsIn ps zero mark → IsAt ps zero mark k i → IsGap ps mark (length ps) k g → newest ps k ≡ Some (bytes_at ps i)
found_kept ps mark k i g within kept at gap =
    let last_ : (j : ℕ) → i < j → j < length ps → number_at ps j ≢ k = λ j a b. here j a b (split j mark) in
    found ps i k (let lt = at.before_to in omega arith) at.is last_
  where
    split : (j m : ℕ) → (j < m) ⊎ (m ≤ j)
    split j m = grind arith

    gone : (j : ℕ) → mark ≤ j → j < length ps → (j < g) ⊎ (g ≤ j) → number_at ps j ≢ k
    gone j a b (inl h) = not_more (number_at ps j) k (gap.below j a h)
    gone j a b (inr h) = not_less k (number_at ps j) (gap.above j h b)

    here : (j : ℕ) → i < j → j < length ps → (j < mark) ⊎ (mark ≤ j) → number_at ps j ≢ k
    here j a b (inl h) = not_less k (number_at ps j) (subst (λ (n : ℕ). n < number_at ps j) at.is (kept i j at.from_on a h))
    here j a b (inr h) = gone j h b (split j g)

pub found_nowhere : (ps : Pairs) (mark k f g : ℕ) → IsGap ps zero mark k f → IsGap ps mark (length ps) k g → newest ps k ≡ None
found_nowhere ps mark k f g low high = absent ps k (λ j b. here j b (split j mark))
  where
    split : (j m : ℕ) → (j < m) ⊎ (m ≤ j)
    split j m = grind arith

    in_low : (j : ℕ) → j < mark → (j < f) ⊎ (f ≤ j) → number_at ps j ≢ k
    in_low j b (inl h) = not_more (number_at ps j) k (low.below j (omega arith) h)
    in_low j b (inr h) = not_less k (number_at ps j) (low.above j h b)

    in_high : (j : ℕ) → mark ≤ j → j < length ps → (j < g) ⊎ (g ≤ j) → number_at ps j ≢ k
    in_high j a b (inl h) = not_more (number_at ps j) k (high.below j a h)
    in_high j a b (inr h) = not_less k (number_at ps j) (high.above j h b)

    here : (j : ℕ) → j < length ps → (j < mark) ⊎ (mark ≤ j) → number_at ps j ≢ k
    here j b (inl h) = in_low j h (split j f)
    here j b (inr h) = in_high j h b (split j g)

or_else-cond : (t : Bool) (v : List ℕ) (x q : Option (List ℕ)) → or_else (cond t (Some v) x) q ≡ cond t (Some v) (or_else x q)
or_else-cond true v x q = refl
or_else-cond false v x q = refl

or_else-none : (o : Option (List ℕ)) → or_else o None ≡ o
or_else-none None = refl
or_else-none (Some x) = refl

or_else-assoc : (a b c : Option (List ℕ)) → or_else (or_else a b) c ≡ or_else a (or_else b c)
or_else-assoc None b c = refl
or_else-assoc (Some x) b c = refl

pub newest-append : (xs ys : Pairs) (k : ℕ) → newest (xs ++ ys) k ≡ or_else (newest ys k) (newest xs k)
newest-append [] ys k = sym (or_else-none (newest ys k))
newest-append (x ∷ xs) ys k = ap (λ o. or_else o (cond (k == x.0) (Some x.1) None)) (newest-append xs ys k) ∙ or_else-assoc (newest ys k) (newest xs k) (cond (k == x.0) (Some x.1) None)

-- a pair in the middle, with none of its block behind it
newest-middle : (xs ys : Pairs) (b : ℕ) (v : List ℕ) (k : ℕ) → newest ys b ≡ None → newest (xs ++ (b, v) ∷ ys) k ≡ cond (k == b) (Some v) (newest (xs ++ ys) k)
newest-middle [] ys b v k none = by_test (k == b) refl
  where
    by_test : (t : Bool) → (k == b) ≡ t → or_else (newest ys k) (cond t (Some v) None) ≡ cond t (Some v) (newest ys k)
    by_test true e = let same : k ≡ b = grind (arith, e) in ap (λ o. or_else o (Some v)) (ap (newest ys) same ∙ none)
    by_test false e = or_else-none (newest ys k)
newest-middle (x ∷ xs) ys b v k none =
    ap (λ o. or_else o (cond (k == x.0) (Some x.1) None)) (newest-middle xs ys b v k none) ∙ or_else-cond (k == b) v (newest (xs ++ ys) k) (cond (k == x.0) (Some x.1) None)

twice : (t : Bool) (v w : List ℕ) (n : Option (List ℕ)) → cond t (Some v) n ≡ cond t (Some v) (cond t (Some w) n)
twice true v w n = refl
twice false v w n = refl

none_behind : (ps : Pairs) (i b : ℕ) → ((j : ℕ) → i ≤ j → j < length ps → number_at ps j ≢ b) → newest (drop i ps) b ≡ None
none_behind ps i b last =
    absent (drop i ps) b (λ j h. let in_ps : i + j < length ps = omega (arith, length-drop i ps) in
    subst (λ (p : ℕ × List ℕ). p.0 ≢ b) (sym (get_or-drop i ps j (0, []))) (last (i + j) (omega arith) in_ps))

-- new bytes at a block's last place
pub newest-set : (ps : Pairs) (i b : ℕ) (v : List ℕ) (k : ℕ) → i < length ps → number_at ps i ≡ b → ((j : ℕ) → i < j → j < length ps → number_at ps j ≢ b) → newest (set ps i (b, v)) k ≡ cond (k == b) (Some v) (newest ps k)
newest-set ps i b v k inside is last =
    let none : newest (drop (suc i) ps) b ≡ None = none_behind ps (suc i) b (λ j a h. last j (omega arith) h) in
    let new : newest (set ps i (b, v)) k ≡ cond (k == b) (Some v) (newest (take i ps ++ drop (suc i) ps) k) =
    ap (λ l. newest l k) (set_split ps i (b, v) inside) ∙ newest-middle (take i ps) (drop (suc i) ps) b v k none in
    let whole : ps ≡ take i ps ++ (b, bytes_at ps i) ∷ drop (suc i) ps =
    sym (set-get_or ps i (0, [])) ∙ set_split ps i (get_or ps i (0, [])) inside ∙ ap (λ (n : ℕ). take i ps ++ (n, bytes_at ps i) ∷ drop (suc i) ps) is in
    let old : newest ps k ≡ cond (k == b) (Some (bytes_at ps i)) (newest (take i ps ++ drop (suc i) ps) k) =
    ap (λ l. newest l k) whole ∙ newest-middle (take i ps) (drop (suc i) ps) b (bytes_at ps i) k none in
    new ∙ twice (k == b) v (bytes_at ps i) (newest (take i ps ++ drop (suc i) ps) k) ∙ ap (λ o. cond (k == b) (Some v) o) (sym old)

-- a new pair, with none of its block from its place on
pub newest-insert : (ps : Pairs) (i b : ℕ) (v : List ℕ) (k : ℕ) → ((j : ℕ) → i ≤ j → j < length ps → number_at ps j ≢ b) → newest (insert ps i (b, v)) k ≡ cond (k == b) (Some v) (newest ps k)
newest-insert ps i b v k last =
    newest-middle (take i ps) (drop i ps) b v k (none_behind ps i b last) ∙ ap (λ l. cond (k == b) (Some v) (newest l k)) (take-append-drop i ps)

-- the blocks stay where bytes change
pub number-set : (ps : Pairs) (i b : ℕ) (v : List ℕ) → i < length ps → number_at ps i ≡ b → (j : ℕ) → number_at (set ps i (b, v)) j ≡ number_at ps j
number-set ps i b v inside is j = here (split j i)
  where
    split : (j m : ℕ) → (j ≡ m) ⊎ (j ≢ m)
    split j m = grind arith

    here : (j ≡ i) ⊎ (j ≢ i) → number_at (set ps i (b, v)) j ≡ number_at ps j
    here (inl e) = ap (number_at (set ps i (b, v))) e ∙ ap (λ p. p.0) (get_or-set_same ps i (b, v) (0, []) inside) ∙ sym is ∙ ap (number_at ps) (sym e)
    here (inr ne) = ap (λ p. p.0) (get_or-set_other ps i j (b, v) (0, []) ne)

pub ascends-same : (ps qs : Pairs) (from to : ℕ) → ((j : ℕ) → number_at qs j ≡ number_at ps j) → AscendsIn ps from to → AscendsIn qs from to
ascends-same ps qs from to same asc i j a b c = rw (same i, same j) (asc i j a b c)

pub ascends-set : (ps : Pairs) (from to i b : ℕ) (v : List ℕ) → i < length ps → number_at ps i ≡ b → AscendsIn ps from to → AscendsIn (set ps i (b, v)) from to
ascends-set ps from to i b v inside is = ascends-same ps (set ps i (b, v)) from to (number-set ps i b v inside is)

pub ascends-insert : (ps : Pairs) (from to i b : ℕ) (v : List ℕ) → to ≤ length ps → AscendsIn ps from to → IsGap ps from to b i → AscendsIn (insert ps i (b, v)) from (to + 1)
ascends-insert ps from to i b v within asc gap = λ j l a h c. here j l a h c (split j i) (split l i)
  where
    qs : Pairs
    qs = insert ps i (b, v)

    room : i ≤ length ps
    room = let le = gap.up_to in omega arith

    split : (j m : ℕ) → (j < m) ⊎ ((j ≡ m) ⊎ (m < j))
    split j m = grind arith

    below : (j : ℕ) → j < i → number_at (insert ps i (b, v)) j ≡ number_at ps j
    below j h = ap (λ p. p.0) (get_or-insert_below ps i (b, v) (0, []) j h room)

    at : (j : ℕ) → j ≡ i → number_at (insert ps i (b, v)) j ≡ b
    at j e = ap (number_at (insert ps i (b, v))) e ∙ ap (λ p. p.0) (get_or-insert_at ps i (b, v) (0, []) room)

    above : (j n : ℕ) → n + 1 ≡ j → i ≤ n → number_at (insert ps i (b, v)) j ≡ number_at ps n
    above j n e h = ap (number_at (insert ps i (b, v))) (sym e) ∙ ap (λ p. p.0) (get_or-insert_above ps i (b, v) (0, []) n h room)

    here : (j l : ℕ) → from ≤ j → j < l → l < to + 1 → (j < i) ⊎ ((j ≡ i) ⊎ (i < j)) → (l < i) ⊎ ((l ≡ i) ⊎ (i < l)) → number_at (insert ps i (b, v)) j < number_at (insert ps i (b, v)) l
    here j l a h c (inl x) (inl y) = rw (below j x, below l y) (asc j l a h (let le = gap.up_to in omega arith))
    here j l a h c (inl x) (inr (inl y)) = rw (below j x, at l y) (gap.below j a x)
    here j l a h c (inl x) (inr (inr y)) = rw (below j x, above l (l - 1) (omega arith) (omega arith)) (asc j (l - 1) a (omega arith) (omega arith))
    here j l a h c (inr (inl x)) (inl y) = absurd (omega arith)
    here j l a h c (inr (inl x)) (inr (inl y)) = absurd (omega arith)
    here j l a h c (inr (inl x)) (inr (inr y)) = rw (at j x, above l (l - 1) (omega arith) (omega arith)) (gap.above (l - 1) (omega arith) (omega arith))
    here j l a h c (inr (inr x)) (inl y) = absurd (omega arith)
    here j l a h c (inr (inr x)) (inr (inl y)) = absurd (omega arith)
    here j l a h c (inr (inr x)) (inr (inr y)) = rw (above j (j - 1) (omega arith) (omega arith), above l (l - 1) (omega arith) (omega arith)) (asc (j - 1) (l - 1) (omega arith) (omega arith) (omega arith))

-- the pairs keep their size
pub sized-set : (size : ℕ) (ps : Pairs) (i b : ℕ) (v : List ℕ) → AreOfSize size ps → length v ≡ size → AreOfSize size (set ps i (b, v))
sized-set size ps i b v sized long j h = here (split j i)
  where
    split : (j m : ℕ) → (j ≡ m) ⊎ (j ≢ m)
    split j m = grind arith

    inside : j < length ps
    inside = omega (arith, length-set ps i (b, v))

    here : (j ≡ i) ⊎ (j ≢ i) → length (bytes_at (set ps i (b, v)) j) ≡ size
    here (inl e) = ap (λ (n : ℕ). length (bytes_at (set ps i (b, v)) n)) e ∙ ap (λ p. length p.1) (get_or-set_same ps i (b, v) (0, []) (let lt = inside in omega arith)) ∙ long
    here (inr ne) = ap (λ p. length p.1) (get_or-set_other ps i j (b, v) (0, []) ne) ∙ sized j inside

pub sized-insert : (size : ℕ) (ps : Pairs) (i b : ℕ) (v : List ℕ) → i ≤ length ps → AreOfSize size ps → length v ≡ size → AreOfSize size (insert ps i (b, v))
sized-insert size ps i b v room sized long j h = here (split j i)
  where
    split : (j m : ℕ) → (j < m) ⊎ ((j ≡ m) ⊎ (m < j))
    split j m = grind arith

    inside : j < length ps + 1
    inside = omega (arith, length-insert ps i (b, v) room)

    here : (j < i) ⊎ ((j ≡ i) ⊎ (i < j)) → length (bytes_at (insert ps i (b, v)) j) ≡ size
    here (inl x) = ap (λ p. length p.1) (get_or-insert_below ps i (b, v) (0, []) j x room) ∙ sized j (omega arith)
    here (inr (inl e)) = ap (λ (n : ℕ). length (bytes_at (insert ps i (b, v)) n)) e ∙ ap (λ p. length p.1) (get_or-insert_at ps i (b, v) (0, []) room) ∙ long
    here (inr (inr x)) =
        let e : j - 1 + 1 ≡ j = omega arith in
        ap (λ (n : ℕ). length (bytes_at (insert ps i (b, v)) n)) (sym e) ∙ ap (λ p. length p.1) (get_or-insert_above ps i (b, v) (0, []) (j - 1) (omega arith) room) ∙ sized (j - 1) (let lt = inside in omega arith)

-- a call's change
pub layered-set : (mark size : ℕ) (ps : Pairs) (i b : ℕ) (v : List ℕ) → AreLayered mark size ps → IsAt ps mark (length ps) b i → length v ≡ size → AreLayered mark size (set ps i (b, v))
layered-set mark size ps i b v layered at long = record {
  within = let le = layered.within in omega (arith, length-set ps i (b, v));
  kept = ascends-set ps 0 mark i b v at.before_to at.is layered.kept;
  own = subst (λ (n : ℕ). AscendsIn (set ps i (b, v)) mark n) (sym (length-set ps i (b, v))) (ascends-set ps mark (length ps) i b v at.before_to at.is layered.own);
  sized = sized-set size ps i b v layered.sized long;
}

take-insert : (ps : Pairs) (i m : ℕ) (x : ℕ × List ℕ) → m ≤ i → i ≤ length ps → take m (insert ps i x) ≡ take m ps
take-insert ps i m x le room = take-append-le m (take i ps) (x ∷ drop i ps) (omega (arith, length-take-le i ps room)) ∙ take-take m i ps le

pub number-insert_below : (ps : Pairs) (i b : ℕ) (v : List ℕ) (j : ℕ) → j < i → i ≤ length ps → number_at (insert ps i (b, v)) j ≡ number_at ps j
number-insert_below ps i b v j h room = ap (λ p. p.0) (get_or-insert_below ps i (b, v) (0, []) j h room)

pub layered-insert : (mark size : ℕ) (ps : Pairs) (i b : ℕ) (v : List ℕ) → AreLayered mark size ps → IsGap ps mark (length ps) b i → length v ≡ size → AreLayered mark size (insert ps i (b, v))
layered-insert mark size ps i b v layered gap long = record {
  within = let le = layered.within in omega (arith, length-insert ps i (b, v) gap.up_to);
  kept = λ j l a h c. rw (number-insert_below ps i b v j (let le = gap.from_on in omega arith) gap.up_to, number-insert_below ps i b v l (let le = gap.from_on in omega arith) gap.up_to) (layered.kept j l a h c);
  own = subst (λ (n : ℕ). AscendsIn (insert ps i (b, v)) mark n) (sym (length-insert ps i (b, v) gap.up_to)) (ascends-insert ps mark (length ps) i b v (omega arith) layered.own gap);
  sized = sized-insert size ps i b v gap.up_to layered.sized long;
}

pub kept-set : (ps : Pairs) (mark b i : ℕ) (v : List ℕ) → IsAt ps mark (length ps) b i → take mark (set ps i (b, v)) ≡ take mark ps
kept-set ps mark b i v at = take-set-le mark ps i (b, v) at.from_on

pub kept-insert : (ps : Pairs) (mark b i : ℕ) (v : List ℕ) → IsGap ps mark (length ps) b i → take mark (insert ps i (b, v)) ≡ take mark ps
kept-insert ps mark b i v gap = take-insert ps i mark (b, v) gap.from_on gap.up_to

pub put-set : (ps : Pairs) (mark b i : ℕ) (v : List ℕ) → AscendsIn ps mark (length ps) → IsAt ps mark (length ps) b i → (k : ℕ) → newest (set ps i (b, v)) k ≡ cond (k == b) (Some v) (newest ps k)
put-set ps mark b i v own at k =
    newest-set ps i b v k at.before_to at.is (λ j a h. not_less b (number_at ps j) (subst (λ (n : ℕ). n < number_at ps j) at.is (own i j at.from_on a h)))

pub put-insert : (ps : Pairs) (mark b i : ℕ) (v : List ℕ) → IsGap ps mark (length ps) b i → (k : ℕ) → newest (insert ps i (b, v)) k ≡ cond (k == b) (Some v) (newest ps k)
put-insert ps mark b i v gap k = newest-insert ps i b v k (λ j a h. not_less b (number_at ps j) (gap.above j a h))

-- A pair that sinks among those before it: xs are the pairs before it, ys those behind.
pub sunk : (xs ys zs : Pairs) (x : ℕ × List ℕ) → ((k : ℕ) → newest zs k ≡ cond (k == x.0) (Some x.1) (newest xs k)) → (k : ℕ) → newest (zs ++ ys) k ≡ newest (xs ++ x ∷ ys) k
sunk xs ys zs x put k =
    newest-append zs ys k
    ∙ ap (λ o. or_else (newest ys k) o) (put k ∙ sym (as_cond (k == x.0) (newest xs k)))
    ∙ sym (or_else-assoc (newest ys k) (cond (k == x.0) (Some x.1) None) (newest xs k))
    ∙ sym (newest-append xs (x ∷ ys) k)
  where
    as_cond : (t : Bool) (n : Option (List ℕ)) → or_else (cond t (Some x.1) None) n ≡ cond t (Some x.1) n
    as_cond true n = refl
    as_cond false n = refl

pub whole_at : (ps : Pairs) (i : ℕ) → i < length ps → take i ps ++ get_or ps i (0, []) ∷ drop (suc i) ps ≡ ps
whole_at ps i h = sym (set_split ps i (get_or ps i (0, [])) h) ∙ set-get_or ps i (0, [])

pub number-take : (ps : Pairs) (n i : ℕ) → i < n → number_at (take n ps) i ≡ number_at ps i
number-take ps n i h = ap (λ p. p.0) (get_or-take n ps i (0, []) h)

pub sized-take : (size : ℕ) (ps : Pairs) (n : ℕ) → n ≤ length ps → AreOfSize size ps → AreOfSize size (take n ps)
sized-take size ps n le sized i h = let lt : i < n = omega (arith, length-take-le n ps le) in ap (λ p. length p.1) (get_or-take n ps i (0, []) lt) ∙ sized i (omega arith)

pub sized-drop : (size : ℕ) (ps : Pairs) (n : ℕ) → AreOfSize size ps → AreOfSize size (drop n ps)
sized-drop size ps n sized i h = ap (λ p. length p.1) (get_or-drop n ps i (0, [])) ∙ sized (n + i) (omega (arith, length-drop n ps))

pub sized-append : (size : ℕ) (xs ys : Pairs) → AreOfSize size xs → AreOfSize size ys → AreOfSize size (xs ++ ys)
sized-append size [] ys a b i h = b i h
sized-append size (x ∷ xs) ys a b zero h = a zero (omega arith)
sized-append size (x ∷ xs) ys a b (suc i) h = sized-append size xs ys (λ j g. a (suc j) (omega arith)) b i (omega arith)

-- what a call's change leaves
pub record IsPut (mark block : ℕ) (v : List ℕ) (ps qs : Pairs) : Type 0 where
  pub layered : AreLayered mark (length v) qs
  pub kept : take mark qs ≡ take mark ps
  pub put : (k : ℕ) → newest qs k ≡ cond (k == block) (Some v) (newest ps k)
  pub len : length qs ≤ length ps + 1

pub put_old : (mark b i : ℕ) (v : List ℕ) (ps qs : Pairs) → AreLayered mark (length v) ps → IsAt ps mark (length ps) b i → qs ≡ set ps i (number_at ps i, v) → IsPut mark b v ps qs
put_old mark b i v ps qs layered at e =
    let f : set ps i (b, v) ≡ qs = ap (λ (n : ℕ). set ps i (n, v)) (sym at.is) ∙ sym e in
    subst (λ (l : Pairs). IsPut mark b v ps l) f (record {
      layered = layered-set mark (length v) ps i b v layered at refl;
      kept = kept-set ps mark b i v at;
      put = put-set ps mark b i v layered.own at;
      len = omega (arith, length-set ps i (b, v));
    })

pub put_new : (mark b i : ℕ) (v : List ℕ) (ps qs : Pairs) → AreLayered mark (length v) ps → IsGap ps mark (length ps) b i → qs ≡ insert ps i (b, v) → IsPut mark b v ps qs
put_new mark b i v ps qs layered gap e =
    subst (λ (l : Pairs). IsPut mark b v ps l) (sym e) (record {
      layered = layered-insert mark (length v) ps i b v layered gap refl;
      kept = kept-insert ps mark b i v gap;
      put = put-insert ps mark b i v gap;
      len = omega (arith, length-insert ps i (b, v) gap.up_to);
    })

pub put_not : (mark b : ℕ) (v : List ℕ) (ps qs : Pairs) → AreLayered mark (length v) ps → qs ≡ ps → (AreLayered mark (length v) qs) × (take mark qs ≡ take mark ps) × (length qs ≤ length ps + 1)
put_not mark b v ps qs layered e = (subst (λ (l : Pairs). AreLayered mark (length v) l) (sym e) layered, ap (take mark) e, omega (arith, ap (λ (l : Pairs). length l) e))

-- whichever of the two answers came
pub either_way : {T E : Type 0} (r : Result T E) (A B P : Type 0) → OnOk r A → OnErr r B → (A → P) → (B → P) → P
either_way (Ok x) A B P a b f g = f a
either_way (Err e) A B P a b f g = g b

pub layered_merged : (mark size : ℕ) (ps : Pairs) → Ascends ps → mark ≤ length ps → AreOfSize size ps → AreLayered mark size ps
layered_merged mark size ps asc within sized = record { within = within; kept = λ i j a b c. asc i j b (omega arith); own = λ i j a b c. asc i j b c; sized = sized }

pub layered_truncated : (mark size : ℕ) (ps : Pairs) → AreLayered mark size ps → AreLayered mark size (take mark ps)
layered_truncated mark size ps layered = record {
  within = omega (arith, length-take-le mark ps layered.within);
  kept = λ i j a b c. rw (number-take ps mark i (omega arith), number-take ps mark j c) (layered.kept i j a b c);
  own = λ i j a b c. absurd (omega (arith, length-take-le mark ps layered.within));
  sized = sized-take size ps mark layered.within layered.sized;
}

pub told_same : (qs ps : Pairs) (told : Option (ℕ → Option (List ℕ))) → ((k : ℕ) → newest qs k ≡ newest ps k) → option_map (over qs) told ≡ option_map (over ps) told
told_same qs ps None same = refl
told_same qs ps (Some m) same = ap Some (λ i k. ap (λ n. or_else n (m k)) (same k) i)

pub told_put : (qs ps : Pairs) (b : ℕ) (v : List ℕ) (told : Option (ℕ → Option (List ℕ))) → ((k : ℕ) → newest qs k ≡ cond (k == b) (Some v) (newest ps k))
    → option_map (over qs) told ≡ option_map (with_block b v) (option_map (over ps) told)
told_put qs ps b v None put = refl
told_put qs ps b v (Some m) put = ap Some (λ i k. (ap (λ n. or_else n (m k)) (put k) ∙ or_else-cond (k == b) v (newest ps k) (m k)) i)

pub changed_put : (qs ps : Pairs) (b : ℕ) (v : List ℕ) (k : ℕ) → newest qs k ≡ cond (k == b) (Some v) (newest ps k) → is_some (newest qs k) ≡ ((k == b) || is_some (newest ps k))
changed_put qs ps b v k put = ap is_some put ∙ here (k == b)
  where
    here : (t : Bool) → is_some (cond t (Some v) (newest ps k)) ≡ (t || is_some (newest ps k))
    here true = refl
    here false = refl

pub found_sized : (size : ℕ) (ps : Pairs) (k : ℕ) (x : List ℕ) → AreOfSize size ps → newest ps k ≡ Some x → length x ≡ size
found_sized size ps k x sized e = subst (λ (o : Option (List ℕ)). IfSome o (λ bytes. length bytes ≡ size)) e (newest_sized size ps k sized)

-- a cut of a part of a list that ascends
module _ (ps : Pairs) (from to block at : ℕ) (order : from ≤ to) (inside : to ≤ length ps) (asc : AscendsIn ps from to) (cut : IsCut (take (to - from) (drop from ps)) block at) where
  part_long : length (take (to - from) (drop from ps)) ≡ to - from
  part_long = length-take-le (to - from) (drop from ps) (omega (arith, length-drop from ps, inside))

  number_there : (j : ℕ) → from ≤ j → j < to → number_at (take (to - from) (drop from ps)) (j - from) ≡ number_at ps j
  number_there j a b =
      let e : from + (j - from) ≡ j = omega arith in
      ap (λ p. p.0) (get_or-take (to - from) (drop from ps) (j - from) (0, []) (omega arith)) ∙ ap (λ p. p.0) (get_or-drop from ps (j - from) (0, [])) ∙ ap (number_at ps) e

  cut_in : at ≤ to - from
  cut_in = let e = cut.up_to in omega (arith, part_long, e)

  cut_below : (j : ℕ) → from ≤ j → j < from + at → number_at ps j < block
  cut_below j a b = let lt : j < to = omega (arith, cut_in, order, b) in omega (arith, cut.below (j - from) (omega arith), number_there j a lt)

  pub cut_past : from + at ≡ to → IsGap ps from to block (from + at)
  cut_past e = record {
    from_on = omega arith;
    up_to = omega (arith, e);
    below = cut_below;
    above = λ j a b. absurd (omega (arith, e, a, b));
  }

  pub cut_gap : from + at ≢ to → number_at ps (from + at) ≢ block → IsGap ps from to block (from + at)
  cut_gap short ne = record {
    from_on = omega arith;
    up_to = omega (arith, cut_in, order);
    below = cut_below;
    above = λ j a b. here j a b (split j (from + at));
  }
    where
      split : (j m : ℕ) → (j ≤ m) ⊎ (m < j)
      split j m = grind arith

      strict : (n : ℕ) → block ≤ n → n ≢ block → block < n
      strict n h g = grind (arith, h, g)

      lt : from + at < to
      lt = let le : from + at ≤ to = omega (arith, cut_in, order) in grind (arith, le, short)

      least : block < number_at ps (from + at)
      least =
          let e : from + at - from ≡ at = omega arith in
          let same : number_at (take (to - from) (drop from ps)) at ≡ number_at ps (from + at) = ap (number_at (take (to - from) (drop from ps))) (sym e) ∙ number_there (from + at) (omega arith) lt in
          strict (number_at ps (from + at)) (omega (arith, cut.above at (omega arith) (omega (arith, part_long, lt)), same)) ne

      here : (j : ℕ) → from + at ≤ j → j < to → (j ≤ from + at) ⊎ (from + at < j) → block < number_at ps j
      here j a b (inl l) = let e : j ≡ from + at = omega arith in omega (arith, least, ap (number_at ps) e)
      here j a b (inr l) = let le = least in omega (arith, le, asc (from + at) j (omega arith) l b)
