-- Pairs that go one by one among those before them.
use Rattle.std.proofs.Common.{◌≡◌, ◌≢◌, ◌≤◌, ◌<◌, ◌+◌, ◌-◌, ℕ, zero, suc, List, [], ◌∷◌, ◌++◌, length, take, drop, get_or, set, insert, Some, cond, refl, sym, ap, ◌∙◌, subst, arith, ◌==◌, length-set, length-append, length-drop, ◌⊎◌, inl, inr}
use Rattle.std.proofs.lemmas.List.{take-append-drop, get_or_append_left, get_or-append-add, length-take-le, take_at, take-take, take-append-le, take-set-le, take_more_set, set-set, set-append_left, drop-set-lt, drop-append-le, drop-take, drop_more, drop_all, drop_at, append-nil}
use Rattle.std.proofs.lemmas.List.Edits.{swap_is, length-insert, get_or-insert_at, get_or-insert_above}
use Rattle.std.proofs.lemmas.Slice.{take-put_mid, drop-put_mid}
use Rattle.std.proofs.lemmas.List.Elements.{All-from_get_or, All-get_or}
use Rattle.std.proofs.lemmas.List.Sorted.{All-permutation, length_permutation}
use Rattle.std.specs.List.{swap}
use Rattle.std.specs.List.Sorted.{IsPermutation}
use borrow.Rule.Slice.PartMut.{put_mid, mid_of}
use Rattle.bfs_txn.specs.Changed.{newest, number_at, bytes_at, AscendsIn, AreOfSize, IsAt, IsGap}
use Rattle.bfs_txn.specs.Merging.{AreSettled}
use Rattle.bfs_txn.proofs.Layers.{not_less, not_more, number-set, number-take, number-insert_below, ascends-set, ascends-insert, newest-set, put-set, put-insert, sized-set, sized-insert, sized-append, sunk}

abbrev Pairs : Type 0
Pairs = List (ℕ × List ℕ)

split : (j m : ℕ) → (j < m) ⊎ (m ≤ j)
split j m = grind arith

compare : (j m : ℕ) → (j < m) ⊎ ((j ≡ m) ⊎ (m < j))
compare j m = grind arith

-- two pairs that change places
pub swapped_first : (ps qs : Pairs) (at own i : ℕ) → at < own → own ≤ i → i < length ps → qs ≡ swap ps at i → take own qs ≡ set (take own ps) at (get_or ps i (0, []))
swapped_first ps qs at own i h g inside e =
    ap (take own) (e ∙ sym (swap_is ps at i (0, []) (omega arith) inside))
    ∙ take-set-le own (set ps at (get_or ps i (0, []))) i (get_or ps at (0, [])) g
    ∙ ap (λ (l : Pairs). take own (set l at (get_or ps i (0, [])))) (sym (take-append-drop own ps))
    ∙ ap (take own) (set-append_left (take own ps) (drop own ps) at (get_or ps i (0, [])) (omega (arith, long)))
    ∙ take_at (set (take own ps) at (get_or ps i (0, []))) (drop own ps) own (length-set (take own ps) at (get_or ps i (0, [])) ∙ long)
  where
    long : length (take own ps) ≡ own
    long = length-take-le own ps (omega (arith, inside))

swapped_rest : (ps : Pairs) (at i : ℕ) → at ≤ i → i < length ps → drop (i + 1) (swap ps at i) ≡ drop (i + 1) ps
swapped_rest ps at i h inside =
    ap (drop (i + 1)) (sym (swap_is ps at i (0, []) (omega arith) inside))
    ∙ drop-set-lt (i + 1) (set ps at (get_or ps i (0, []))) i (get_or ps at (0, [])) (omega arith)
    ∙ drop-set-lt (i + 1) ps at (get_or ps i (0, [])) (omega arith)

swapped_next : (ps : Pairs) (own i : ℕ) → own ≤ i → i < length ps → take (own + 1) (swap ps own i) ≡ take own ps ++ get_or ps i (0, []) ∷ []
swapped_next ps own i h inside = ap (take (own + 1)) (sym (swap_is ps own i (0, []) (omega arith) inside)) ∙ here (compare own i)
  where
    here : (own < i) ⊎ ((own ≡ i) ⊎ (i < own)) → take (own + 1) (set (set ps own (get_or ps i (0, []))) i (get_or ps own (0, []))) ≡ take own ps ++ get_or ps i (0, []) ∷ []
    here (inl l) = take-set-le (own + 1) (set ps own (get_or ps i (0, []))) i (get_or ps own (0, [])) (omega arith) ∙ take_more_set ps own (get_or ps i (0, [])) (omega arith)
    here (inr (inl e)) =
        ap (λ (n : ℕ). take (own + 1) (set (set ps own (get_or ps i (0, []))) n (get_or ps own (0, [])))) (sym e)
        ∙ ap (take (own + 1)) (set-set ps own (get_or ps i (0, [])) (get_or ps own (0, [])))
        ∙ ap (λ (n : ℕ). take (own + 1) (set ps own (get_or ps n (0, [])))) e
        ∙ take_more_set ps own (get_or ps i (0, [])) (omega arith)
    here (inr (inr l)) = absurd (omega arith)

-- a pair that goes to the end of the first ones, and from there to its place
module _ (ps qs ys : Pairs) (at own i : ℕ) (place : at ≤ own) (here : own ≤ i) (inside : i < length ps) (exchanged : qs ≡ swap ps own i) (same_long : length qs ≡ length ps)
    (turned : ys ≡ drop (length (mid_of at (own + 1 - at) qs) - 1) (mid_of at (own + 1 - at) qs) ++ take (length (mid_of at (own + 1 - at) qs) - 1) (mid_of at (own + 1 - at) qs)) where
  abbrev x : ℕ × List ℕ
  x = get_or ps i (0, [])

  first_long : length (take own ps) ≡ own
  first_long = length-take-le own ps (omega (arith, inside, here))

  next : take (own + 1) qs ≡ take own ps ++ x ∷ []
  next = ap (take (own + 1)) exchanged ∙ swapped_next ps own i here inside

  middle : mid_of at (own + 1 - at) qs ≡ drop at (take own ps) ++ x ∷ []
  middle =
      let e : at + (own + 1 - at) ≡ own + 1 = omega (arith, place) in
      sym (drop-take at (own + 1 - at) qs) ∙ ap (λ (n : ℕ). drop at (take n qs)) e ∙ ap (drop at) next ∙ drop-append-le at (take own ps) (x ∷ []) (omega (arith, first_long, place))

  middle_long : length (mid_of at (own + 1 - at) qs) - 1 ≡ length (drop at (take own ps))
  middle_long = let e = ap (λ (l : Pairs). length l) middle in omega (arith, e, length-append (drop at (take own ps)) (x ∷ []))

  list : ys ≡ x ∷ drop at (take own ps)
  list =
      turned ∙ ap (λ (n : ℕ). drop n (mid_of at (own + 1 - at) qs) ++ take n (mid_of at (own + 1 - at) qs)) middle_long
      ∙ ap (λ (l : Pairs). drop (length (drop at (take own ps))) l ++ take (length (drop at (take own ps))) l) middle
      ∙ ap (λ (l : Pairs). l ++ take (length (drop at (take own ps))) (drop at (take own ps) ++ x ∷ [])) (drop_at (drop at (take own ps)) (x ∷ []) (length (drop at (take own ps))) refl)
      ∙ ap (λ (l : Pairs). x ∷ l) (take_at (drop at (take own ps)) (x ∷ []) (length (drop at (take own ps))) refl)

  list_long : length ys ≡ own + 1 - at
  list_long = let e = ap (λ (l : Pairs). length l) list in omega (arith, e, length-drop at (take own ps), first_long, place)

  front : take at qs ≡ take at (take own ps)
  front = sym (take-take at (own + 1) qs (omega (arith, place))) ∙ ap (take at) next ∙ shorter
    where
      shorter : take at (take own ps ++ x ∷ []) ≡ take at (take own ps)
      shorter = take-append-le at (take own ps) (x ∷ []) (omega (arith, first_long, place))

  pub brought_first : take (own + 1) (put_mid at (own + 1 - at) qs ys) ≡ insert (take own ps) at x
  brought_first =
      take-put_mid at (own + 1 - at) qs ys (own + 1) (omega (arith, list_long, place)) (omega (arith, same_long, place, here, inside))
      ∙ ap (λ (l : Pairs). l ++ ys) front
      ∙ ap (λ (l : Pairs). take at (take own ps) ++ l) list

  pub brought_rest : drop (i + 1) (put_mid at (own + 1 - at) qs ys) ≡ drop (i + 1) ps
  brought_rest =
      drop-put_mid at (own + 1 - at) qs ys (i + 1) (omega (arith, place, here)) (omega (arith, same_long, place, here, inside)) list_long
      ∙ ap (drop (i + 1)) exchanged ∙ swapped_rest ps own i here inside

-- what is said of the first pairs alone
record IsFirst (mark : ℕ) (ps : Pairs) : Type 0 where
  pub within : mark ≤ length ps
  pub kept : AscendsIn ps 0 mark
  pub fresh : AscendsIn ps mark (length ps)
  pub apart : (i j : ℕ) → i < mark → mark ≤ j → j < length ps → number_at ps i ≢ number_at ps j

first_of : (mark own : ℕ) (ps : Pairs) → AreSettled mark own ps → IsFirst mark (take own ps)
first_of mark own ps settled = record {
  within = let e = settled.from_on in omega (arith, long, e);
  kept = λ i j a b c. let e = settled.from_on in omega (arith, settled.kept i j a b c, number-take ps own i (omega (arith, e)), number-take ps own j (omega (arith, e)));
  fresh = λ i j a b c. let lt : j < own = omega (arith, long, c) in omega (arith, settled.fresh i j a b lt, number-take ps own i (omega arith), number-take ps own j lt);
  apart = λ i j a b c e. let lt : j < own = omega (arith, long, c) in settled.apart i j a b lt (sym (number-take ps own i (omega arith)) ∙ e ∙ number-take ps own j lt);
}
  where
    long : length (take own ps) ≡ own
    long = length-take-le own ps settled.up_to

settled_by : (mark own : ℕ) (ps : Pairs) → own ≤ length ps → IsFirst mark (take own ps) → AreSettled mark own ps
settled_by mark own ps inside first = record {
  from_on = from_on;
  up_to = inside;
  kept = λ i j a b c. omega (arith, first.kept i j a b c, number-take ps own i (omega (arith, from_on)), number-take ps own j (omega (arith, from_on)));
  fresh = λ i j a b c. omega (arith, first.fresh i j a b (omega (arith, long, c)), number-take ps own i (omega arith), number-take ps own j c);
  apart = λ i j a b c e. first.apart i j a b (omega (arith, long, c)) (number-take ps own i (omega arith) ∙ e ∙ sym (number-take ps own j c));
}
  where
    long : length (take own ps) ≡ own
    long = length-take-le own ps inside

    from_on : mark ≤ own
    from_on = let e = first.within in omega (arith, long, e)

-- places among the first pairs
at_first : (ps : Pairs) (from to own b at : ℕ) → to ≤ own → IsAt ps from to b at → IsAt (take own ps) from to b at
at_first ps from to own b at h is = record {
  from_on = is.from_on;
  before_to = is.before_to;
  is = number-take ps own at (let lt = is.before_to in omega arith) ∙ is.is;
}

gap_first : (ps : Pairs) (from to own b at : ℕ) → to ≤ own → IsGap ps from to b at → IsGap (take own ps) from to b at
gap_first ps from to own b at h gap = record {
  from_on = gap.from_on;
  up_to = gap.up_to;
  below = λ j a c. omega (arith, gap.below j a c, number-take ps own j (let le = gap.up_to in omega (arith, le, c, h)));
  above = λ j a c. omega (arith, gap.above j a c, number-take ps own j (omega arith));
}

first-set : (mark at b : ℕ) (v : List ℕ) (ps : Pairs) → at < length ps → number_at ps at ≡ b → IsFirst mark ps → IsFirst mark (set ps at (b, v))
first-set mark at b v ps inside is first = record {
  within = let e = first.within in omega (arith, length-set ps at (b, v), e);
  kept = ascends-set ps 0 mark at b v inside is first.kept;
  fresh = subst (λ (n : ℕ). AscendsIn (set ps at (b, v)) mark n) (sym (length-set ps at (b, v))) (ascends-set ps mark (length ps) at b v inside is first.fresh);
  apart = λ i j a c d e. first.apart i j a c (omega (arith, length-set ps at (b, v), d)) (sym (number-set ps at b v inside is i) ∙ e ∙ number-set ps at b v inside is j);
}

first-insert : (mark at g b : ℕ) (v : List ℕ) (ps : Pairs) → IsFirst mark ps → IsGap ps 0 mark b g → IsGap ps mark (length ps) b at → IsFirst mark (insert ps at (b, v))
first-insert mark at g b v ps first gap own = record {
  within = let e = first.within in omega (arith, more, e);
  kept = λ i j a c d. let e = own.from_on in omega (arith, first.kept i j a c d, below i (omega (arith, e)), below j (omega (arith, e)));
  fresh = subst (λ (n : ℕ). AscendsIn (insert ps at (b, v)) mark n) (sym more) (ascends-insert ps mark (length ps) at b v (omega arith) first.fresh own);
  apart = λ i j a c d e. let le = own.from_on in here i j a c (omega (arith, more, d)) (sym (below i (omega (arith, le))) ∙ e) (compare j at);
}
  where
    room : at ≤ length ps
    room = own.up_to

    more : length (insert ps at (b, v)) ≡ length ps + 1
    more = length-insert ps at (b, v) room

    below : (j : ℕ) → j < at → number_at (insert ps at (b, v)) j ≡ number_at ps j
    below j h = number-insert_below ps at b v j h room

    not_kept : (i : ℕ) → i < mark → (i < g) ⊎ (g ≤ i) → number_at ps i ≢ b
    not_kept i a (inl l) = not_more (number_at ps i) b (gap.below i (omega arith) l)
    not_kept i a (inr l) = not_less b (number_at ps i) (gap.above i l a)

    here : (i j : ℕ) → i < mark → mark ≤ j → j < length ps + 1 → number_at ps i ≡ number_at (insert ps at (b, v)) j → (j < at) ⊎ ((j ≡ at) ⊎ (at < j)) → ⊥
    here i j a c d e (inl l) = first.apart i j a c (omega (arith, room, l)) (e ∙ below j l)
    here i j a c d e (inr (inl l)) = not_kept i a (split i g) (e ∙ ap (number_at (insert ps at (b, v))) l ∙ ap (λ p. p.0) (get_or-insert_at ps at (b, v) (0, []) room))
    here i j a c d e (inr (inr l)) =
        let s : j - 1 + 1 ≡ j = omega arith in
        let le = own.from_on in
        first.apart i (j - 1) a (omega (arith, le, l)) (omega (arith, d, l)) (e ∙ ap (number_at (insert ps at (b, v))) (sym s) ∙ ap (λ p. p.0) (get_or-insert_above ps at (b, v) (0, []) (j - 1) (omega arith) room))

-- what a pair that settles leaves
pub record Settles (mark own i : ℕ) (ps : Pairs) (upto : ℕ) (qs : Pairs) : Type 0 where
  pub settled : AreSettled mark upto qs
  pub put : (k : ℕ) → newest (take upto qs) k ≡ cond (k == number_at ps i) (Some (bytes_at ps i)) (newest (take own ps) k)
  pub sized : (size : ℕ) → AreOfSize size (take own ps) → length (bytes_at ps i) ≡ size → AreOfSize size (take upto qs)

settles : (mark own i : ℕ) (ps : Pairs) (upto : ℕ) (qs l : Pairs) → upto ≤ length qs → take upto qs ≡ l → IsFirst mark l → ((k : ℕ) → newest l k ≡ cond (k == number_at ps i) (Some (bytes_at ps i)) (newest (take own ps) k))
    → ((size : ℕ) → AreOfSize size (take own ps) → length (bytes_at ps i) ≡ size → AreOfSize size l) → Settles mark own i ps upto qs
settles mark own i ps upto qs l inside e first put sized = record {
  settled = settled_by mark upto qs inside (subst (IsFirst mark) (sym e) first);
  put = λ k. ap (λ (z : Pairs). newest z k) e ∙ put k;
  sized = λ size s long. subst (AreOfSize size) (sym e) (sized size s long);
}

pub settles_kept : (mark own i at b : ℕ) (ps qs : Pairs) → AreSettled mark own ps → own ≤ i → i < length ps → length qs ≡ length ps → b ≡ number_at ps i → IsAt ps 0 mark b at → take own qs ≡ set (take own ps) at (get_or ps i (0, []))
    → Settles mark own i ps own qs
settles_kept mark own i at b ps qs settled h inside same_long is found e =
    settles mark own i ps own qs (set (take own ps) at (get_or ps i (0, []))) (omega arith) e
    (first-set mark at (number_at ps i) (bytes_at ps i) (take own ps) inside_first there.is first)
    (λ k. newest-set (take own ps) at (number_at ps i) (bytes_at ps i) k inside_first there.is (λ j a c d. last j a c d (split j mark)))
    (λ size s long. sized-set size (take own ps) at (number_at ps i) (bytes_at ps i) s long)
  where
    first : IsFirst mark (take own ps)
    first = first_of mark own ps settled

    there : IsAt (take own ps) 0 mark (number_at ps i) at
    there = subst (λ (n : ℕ). IsAt (take own ps) 0 mark n at) is (at_first ps 0 mark own b at settled.from_on found)

    inside_first : at < length (take own ps)
    inside_first = let lt = there.before_to in let le = first.within in omega (arith, lt, le)

    last : (j : ℕ) → at < j → j < length (take own ps) → number_at (take own ps) j ≡ number_at ps i → (j < mark) ⊎ (mark ≤ j) → ⊥
    last j a c d (inl l) = not_less (number_at ps i) (number_at (take own ps) j) (subst (λ (n : ℕ). n < number_at (take own ps) j) there.is (first.kept at j (omega arith) a l)) d
    last j a c d (inr l) = first.apart at j there.before_to l c (there.is ∙ sym d)

pub settles_own : (mark own i at b : ℕ) (ps qs : Pairs) → AreSettled mark own ps → own ≤ i → i < length ps → length qs ≡ length ps → b ≡ number_at ps i → IsAt ps mark own b at → take own qs ≡ set (take own ps) at (get_or ps i (0, []))
    → Settles mark own i ps own qs
settles_own mark own i at b ps qs settled h inside same_long is found e =
    settles mark own i ps own qs (set (take own ps) at (get_or ps i (0, []))) (omega arith) e
    (first-set mark at (number_at ps i) (bytes_at ps i) (take own ps) there.before_to there.is first)
    (λ k. put-set (take own ps) mark (number_at ps i) at (bytes_at ps i) first.fresh there k)
    (λ size s long. sized-set size (take own ps) at (number_at ps i) (bytes_at ps i) s long)
  where
    first : IsFirst mark (take own ps)
    first = first_of mark own ps settled

    there : IsAt (take own ps) mark (length (take own ps)) (number_at ps i) at
    there = subst (λ (n : ℕ). IsAt (take own ps) mark n (number_at ps i) at) (sym (length-take-le own ps settled.up_to)) (subst (λ (n : ℕ). IsAt (take own ps) mark own n at) is (at_first ps mark own own b at (omega arith) found))

pub settles_new : (mark own i at g b : ℕ) (ps qs : Pairs) → AreSettled mark own ps → own ≤ i → i < length ps → length qs ≡ length ps → b ≡ number_at ps i → IsGap ps 0 mark b g → IsGap ps mark own b at
    → take (own + 1) qs ≡ insert (take own ps) at (get_or ps i (0, [])) → Settles mark own i ps (own + 1) qs
settles_new mark own i at g b ps qs settled h inside same_long is gap gap_own e =
    settles mark own i ps (own + 1) qs (insert (take own ps) at (get_or ps i (0, []))) (omega arith) e
    (first-insert mark at g (number_at ps i) (bytes_at ps i) (take own ps) first kept there)
    (λ k. put-insert (take own ps) mark (number_at ps i) at (bytes_at ps i) there k)
    (λ size s long. sized-insert size (take own ps) at (number_at ps i) (bytes_at ps i) there.up_to s long)
  where
    first : IsFirst mark (take own ps)
    first = first_of mark own ps settled

    kept : IsGap (take own ps) 0 mark (number_at ps i) g
    kept = subst (λ (n : ℕ). IsGap (take own ps) 0 mark n g) is (gap_first ps 0 mark own b g settled.from_on gap)

    there : IsGap (take own ps) mark (length (take own ps)) (number_at ps i) at
    there = subst (λ (n : ℕ). IsGap (take own ps) mark n (number_at ps i) at) (sym (length-take-le own ps settled.up_to)) (subst (λ (n : ℕ). IsGap (take own ps) mark own n at) is (gap_first ps mark own own b at (omega arith) gap_own))

-- a step of the loop over a call's own pairs
pub settled_more : (mark own i upto : ℕ) (first ps qs : Pairs) → i < length ps → drop (i + 1) qs ≡ drop (i + 1) ps → Settles mark own i ps upto qs
    → ((k : ℕ) → newest (take own ps ++ drop i ps) k ≡ newest first k) → (k : ℕ) → newest (take upto qs ++ drop (i + 1) qs) k ≡ newest first k
settled_more mark own i upto first ps qs inside rest settled same k =
    ap (λ (l : Pairs). newest (take upto qs ++ l) k) rest
    ∙ sunk (take own ps) (drop (i + 1) ps) (take upto qs) (get_or ps i (0, [])) settled.put k
    ∙ ap (λ (l : Pairs). newest (take own ps ++ l) k) (sym (drop_more ps i (0, []) inside))
    ∙ same k

sized-left : (size : ℕ) (xs ys : Pairs) → AreOfSize size (xs ++ ys) → AreOfSize size xs
sized-left size xs ys s i h = ap (λ p. length p.1) (sym (get_or_append_left xs ys (0, []) i h)) ∙ s i (omega (arith, length-append xs ys))

sized-right : (size : ℕ) (xs ys : Pairs) → AreOfSize size (xs ++ ys) → AreOfSize size ys
sized-right size xs ys s i h = ap (λ p. length p.1) (sym (get_or-append-add xs ys i (0, []))) ∙ s (length xs + i) (omega (arith, length-append xs ys))

pub settled_sizes : (mark own i upto size : ℕ) (ps qs : Pairs) → i < length ps → drop (i + 1) qs ≡ drop (i + 1) ps → Settles mark own i ps upto qs → AreOfSize size (take own ps ++ drop i ps) → AreOfSize size (take upto qs ++ drop (i + 1) qs)
settled_sizes mark own i upto size ps qs inside rest settled s =
    let behind : AreOfSize size (get_or ps i (0, []) ∷ drop (i + 1) ps) = subst (AreOfSize size) (drop_more ps i (0, []) inside) (sized-right size (take own ps) (drop i ps) s) in
    subst (λ (l : Pairs). AreOfSize size (take upto qs ++ l)) (sym rest)
    (sized-append size (take upto qs) (drop (i + 1) ps) (settled.sized size (sized-left size (take own ps) (drop i ps) s) (behind zero (omega arith))) (λ j h. behind (suc j) (omega arith)))

-- the end of that loop
pub all_settled : (own i : ℕ) (ps : Pairs) → length ps ≤ i → take own ps ++ drop i ps ≡ take own ps
all_settled own i ps h = ap (λ (l : Pairs). take own ps ++ l) (drop_all i ps h) ∙ append-nil (take own ps)

pub sized_again : (size : ℕ) (ps qs : Pairs) → IsPermutation ps qs → AreOfSize size ps → AreOfSize size qs
sized_again size ps qs perm s i h = All-get_or (λ p. length p.1 ≡ size) qs i (0, []) h (All-permutation (λ p. length p.1 ≡ size) ps qs perm (All-from_get_or (λ p. length p.1 ≡ size) ps (0, []) s))

pub as_long : (mark own : ℕ) (ps qs rs : Pairs) → AreSettled mark own ps → qs ≡ take own ps → IsPermutation qs rs → (mark ≤ length rs) × (length rs ≤ length ps)
as_long mark own ps qs rs settled e perm =
    let same = length_permutation qs rs perm in
    let long = ap (λ (l : Pairs). length l) e in
    let first = length-take-le own ps settled.up_to in
    let from_on = settled.from_on in
    let up_to = settled.up_to in (omega (arith, same, long, first, from_on), omega (arith, same, long, first, up_to))
