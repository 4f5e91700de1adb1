-- A run was taken, and then written into the stream.
use Rattle.std.proofs.Common.{◌≡◌, ◌≤◌, ◌<◌, ◌+◌, ◌-◌, ◌*◌, ◌∙◌, ◌⊎◌, inl, inr, ℕ, zero, suc, List, [], ◌∷◌, ◌++◌, Bool, true, false, not, ◌&&◌, Option, Some, length, refl, sym, ap, ap₂, subst, arith, cond}
use Rattle.std.specs.Prelude.{◌==◌, nat_lt}
use Rattle.bfs_base.specs.Lists.{times, Has, AreSame}
use Rattle.bfs_bytes.specs.declared.Run.{Run}
use Rattle.bfs_bitmap.specs.Fills.{IsBitmapBlock}
use Rattle.bfs_bitmap.specs.declared.tally.Tally.{Tally}
use Rattle.bfs_bitmap.specs.Runs.{Room, Fits, IsCounted, per_block, marked, is_free}
use Rattle.bfs_stream.specs.Sizes.{Origin, array_length, table_length}
use Rattle.bfs_stream.specs.Places.{Levels, run_blocks, level_blocks, levels_at, places_of, arrays_of, arrays_at, places_at, frame_at, whole_at, HasLevels}
use Rattle.bfs_stream.specs.Told.{contents, AreTold}
use Rattle.bfs_stream.specs.Grown.{IsOutside, Owns, Grown, HasWritten, HasBitIn, KeepsRest, is_new}
use Rattle.bfs_txn.specs.Told.{StaysChanged}
use Rattle.bfs_stream.proofs.Doubles.{times-append}
use Rattle.bfs_stream.proofs.Frames.{has_left}
use Rattle.bfs_stream.proofs.Writes.{IsBitBlockOf}
use Rattle.bfs_stream.proofs.Taking.{zero_test, some_test, and_false, once_counted}
use Rattle.bfs_stream.proofs.Finish.{counted_same, fits_same, free_same, is_below, marked_same, not_below}

-- what was in hand is new, and nothing else
new_in_hand : (h x y a : ℕ) → y ≡ h + x → (0 < h → x ≡ 0) → cond (h == 0) a 1 ≡ cond ((x == 0) && not (y == 0)) 1 a
new_in_hand zero zero y a e apart = let t : (y == 0) ≡ true = zero_test y (omega (arith, e)) in ap (λ (b : Bool). cond (not b) 1 a) (sym t)
new_in_hand zero (suc x) y a e apart = ap (λ (b : Bool). cond (b && not (y == 0)) 1 a) (sym (some_test (suc x) (omega arith)))
new_in_hand (suc h) x y a e apart =
    let none : x ≡ 0 = apart (omega arith) in
    ap (λ (b : Bool). cond b a 1) (some_test (suc h) (omega arith)) ∙ sym (ap₂ (λ (p q : Bool). cond (p && not q) 1 a) (zero_test x none) (some_test y (omega (arith, e))))

is_new_of : (x y : ℕ) → x ≡ 0 → 0 < y → ((x == 0) && not (y == 0)) ≡ true
is_new_of x y none some = ap₂ (λ (p q : Bool). p && not q) (zero_test x none) (some_test y some)

-- a level that stayed has grown by no more than was added
pub few_more : (before after n : ℕ) → after ≡ before → after ≤ before + n
few_more before after n e = omega (arith, e)

and_zero : (b : Bool) (x y : ℕ) → (0 < y → b ≡ false) → (b && (x == 0)) ≡ (b && (x + y == 0))
and_zero true x y apart = by_y y (λ h. apart h)
  where
    by_y : (z : ℕ) → (0 < z → true ≡ false) → (x == 0) ≡ (x + z == 0)
    by_y zero none = let e : x ≡ x + 0 = omega arith in ap (λ (n : ℕ). n == 0) e
    by_y (suc z) none = let bad : true ≡ false = none (omega arith) in cc
and_zero false x y apart = refl

-- where the arrays are the same, no block has entered
pub none_entered : (o : Origin) (m : ℕ → Option (List ℕ)) (xs : List ℕ) (new : ℕ → Bool) → xs ≡ arrays_at o.sizes (contents m) o.id → (k : ℕ) → Has (o.id ∷ xs) k → times k (whole_at o.sizes (contents m) o.id) ≡ 0 → new k ≡ true
none_entered o m xs new same k has none =
    let mine : Has (frame_at o.sizes (contents m) o.id) k = subst (λ (x : List ℕ). Has (o.id ∷ x) k) same has in
    let some : 0 < times k (whole_at o.sizes (contents m) o.id) = has_left (frame_at o.sizes (contents m) o.id) (places_at o.sizes (contents m) o.id) k mine in
    absurd (omega (arith, some, none))

-- where an array is new, what has entered is a block of it
pub array_entered : (o : Origin) (m : ℕ → Option (List ℕ)) (array : Run) (xs : List ℕ) (new : ℕ → Bool) → ((k : ℕ) → times k (o.id ∷ xs) ≡ times k (run_blocks o.sizes array) + times k (frame_at o.sizes (contents m) o.id))
    → ((k : ℕ) → Has (run_blocks o.sizes array) k → new k ≡ true) → (k : ℕ) → Has (o.id ∷ xs) k → times k (whole_at o.sizes (contents m) o.id) ≡ 0 → new k ≡ true
array_entered o m array xs new sum all k has none =
    let parts : times k (whole_at o.sizes (contents m) o.id) ≡ times k (frame_at o.sizes (contents m) o.id) + times k (places_at o.sizes (contents m) o.id) = times-append k (frame_at o.sizes (contents m) o.id) (places_at o.sizes (contents m) o.id) in
    let s = sum k in
    let some : 0 < times k (o.id ∷ xs) = has in
    all k (let mine : 0 < times k (run_blocks o.sizes array) = omega (arith, parts, none, s, some) in mine)

module _ (o : Origin) (v : Room) (tally : Tally) (run : Run) (m m1 m2 : ℕ → Option (List ℕ)) (told : Option (ℕ → Option (List ℕ))) (ws fresh : List ℕ) (l : Levels)
    (owns : Owns o v [] m) (took_is : told ≡ Some m1)
    (fits1 : Fits (record v { tally = tally }) m1) (others1 : (k : ℕ) → IsOutside v k → m1 k ≡ m k) (first1 : m1 0 ≡ m 0) (were_free : (k : ℕ) → Has (run_blocks o.sizes run) k → is_free v m k ≡ true)
    (free1 : (k : ℕ) → is_free v m1 k ≡ (is_free v m k && (times k (run_blocks o.sizes run) == 0)))
    (marks1 : (k : ℕ) → k < v.blocks → marked (per_block v) m1 k ≡ cond (times k (run_blocks o.sizes run) == 0) (marked (per_block v) m k) 1)
    (counted1 : IsCounted v m → IsCounted (record v { tally = tally }) m1)
    (written : (k : ℕ) → times k ws ≡ 0 → m2 k ≡ m1 k)
    (levels : levels_at o.sizes (contents m2) o.id ≡ l) (sound : HasLevels o.sizes l) (places : places_of o.sizes l ≡ places_at o.sizes (contents m) o.id ++ fresh)
    (same : AreSame ((o.id ∷ arrays_of o.sizes l) ++ places_of o.sizes l) (run_blocks o.sizes run ++ whole_at o.sizes (contents m) o.id))
    (keeps : (k : ℕ) → Has (frame_at o.sizes (contents m) o.id) k → Has (o.id ∷ arrays_of o.sizes l) k) (inside : (k : ℕ) → Has ws k → Has (o.id ∷ arrays_of o.sizes l) k)
    (are_told : AreTold m2 (o.id ∷ arrays_of o.sizes l)) (few : length (level_blocks o.sizes l.runs) ≤ length (level_blocks o.sizes (levels_at o.sizes (contents m) o.id).runs) + length fresh) (rest_kept : KeepsRest (contents m o.id) (contents m2 o.id)) where
  hand : List ℕ
  hand = run_blocks o.sizes run

  whole : List ℕ
  whole = whole_at o.sizes (contents m) o.id

  new_whole : List ℕ
  new_whole = (o.id ∷ arrays_of o.sizes l) ++ places_of o.sizes l

  sum_is : (k : ℕ) → times k new_whole ≡ times k hand + times k whole
  unfolding hand whole new_whole
  sum_is k = same k ∙ times-append k hand whole

  whole_used : (k : ℕ) → 0 < times k whole → is_free v m k ≡ false
  unfolding whole
  whole_used k h = owns.taken k (let e = times-append k [] whole in h)

  apart : (k : ℕ) → 0 < times k hand → times k whole ≡ 0
  unfolding hand
  apart k h = by_count (times k whole) refl
    where
      by_count : (n : ℕ) → times k whole ≡ n → times k whole ≡ 0
      by_count zero e = e
      by_count (suc n) e = let f = were_free k h in let u = whole_used k (omega arith) in let bad : true ≡ false = sym f ∙ u in cc

  own_outside : (k : ℕ) → 0 < times k new_whole → IsOutside v k
  unfolding hand whole
  own_outside k h = by_hand (times k hand) refl
    where
      by_bits : (t : Bool) → nat_lt (per_block v * (k - 1)) v.blocks ≡ t → 0 < times k hand → IsOutside v k
      by_bits true e some = let u = owns.bits k (is_below (per_block v * (k - 1)) v.blocks e) in let f = were_free k some in let bad : true ≡ false = sym f ∙ u in cc
      by_bits false e some = not_below (per_block v * (k - 1)) v.blocks e

      by_hand : (n : ℕ) → times k hand ≡ n → IsOutside v k
      by_hand zero e = let s = sum_is k in owns.outside k (let some : 0 < times k whole = omega (arith, s, h, e) in some)
      by_hand (suc n) e = by_bits (nat_lt (per_block v * (k - 1)) v.blocks) refl (omega arith)

  frame_in : (k : ℕ) → Has (o.id ∷ arrays_of o.sizes l) k → 0 < times k new_whole
  unfolding new_whole
  frame_in k h = let some : 0 < times k (o.id ∷ arrays_of o.sizes l) = h in omega (arith, times-append k (o.id ∷ arrays_of o.sizes l) (places_of o.sizes l), some)

  -- no block that holds bits was written
  bits_stay : (b : ℕ) → per_block v * (b - 1) < v.blocks → m2 b ≡ m1 b
  bits_stay b h = by_count (times b ws) refl
    where
      by_count : (n : ℕ) → times b ws ≡ n → m2 b ≡ m1 b
      by_count zero e = written b e
      by_count (suc n) e = let out : v.blocks ≤ per_block v * (b - 1) = own_outside b (frame_in b (inside b (let some : 0 < times b ws = omega arith in some))) in absurd (omega (arith, out, h))

  free2 : (k : ℕ) → is_free v m2 k ≡ (is_free v m k && (times k hand == 0))
  unfolding hand
  free2 k = free_same v m1 m2 bits_stay k ∙ free1 k

  free_now : (k : ℕ) → is_free v m2 k ≡ (is_free v m k && (times k new_whole == 0))
  free_now k = free2 k ∙ and_zero (is_free v m k) (times k hand) (times k whole) (whole_used k) ∙ ap (λ (n : ℕ). is_free v m k && (n == 0)) (sym (sum_is k))

  marks_now : (k : ℕ) → k < v.blocks → marked (per_block v) m2 k ≡ cond ((times k whole == 0) && not (times k new_whole == 0)) 1 (marked (per_block v) m k)
  unfolding hand
  marks_now k low = marked_same v m1 m2 bits_stay k low ∙ marks1 k low ∙ new_in_hand (times k hand) (times k whole) (times k new_whole) (marked (per_block v) m k) (sum_is k) (apart k)

  moved_now : (j : ℕ) → Has (run_blocks o.sizes run) j → is_new (whole_at o.sizes (contents m) o.id) ((o.id ∷ arrays_of o.sizes l) ++ places_of o.sizes l) j ≡ true
  unfolding hand whole new_whole
  moved_now j has =
      let sum = sum_is j in
      let some : 0 < times j (run_blocks o.sizes run) = has in
      is_new_of (times j (whole_at o.sizes (contents m) o.id)) (times j ((o.id ∷ arrays_of o.sizes l) ++ places_of o.sizes l)) (apart j some) (omega (arith, sum, some))

  grown_owns : Owns o (record v { tally = tally }) [] m2
  unfolding whole hand new_whole
  grown_owns = record {
    stands = record { told = subst (λ (x : Levels). AreTold m2 (o.id ∷ arrays_of o.sizes x)) (sym levels) are_told; sound = subst (HasLevels o.sizes) (sym levels) sound };
    once = λ k.
        let s = sum_is k in
        let a = apart k in
        let h : times k hand ≤ 1 = once_counted _ _ k in
        let w : times k whole ≤ 1 = owns.once k in
        subst (λ (x : Levels). times k ((o.id ∷ arrays_of o.sizes x) ++ places_of o.sizes x) ≤ 1) (sym levels) (once_of (times k hand) (times k whole) (times k new_whole) s h w a);
    taken = λ k has.
        let some : 0 < times k new_whole = subst (λ (x : Levels). Has ((o.id ∷ arrays_of o.sizes x) ++ places_of o.sizes x) k) levels has in
        free_now k ∙ ap (λ (b : Bool). is_free v m k && b) (some_test (times k new_whole) some) ∙ and_false (is_free v m k);
    outside = λ k has. own_outside k (subst (λ (x : Levels). Has ((o.id ∷ arrays_of o.sizes x) ++ places_of o.sizes x) k) levels has);
    bits = λ k h. free2 k ∙ ap (λ (b : Bool). b && (times k hand == 0)) (owns.bits k h);
    fits = fits_same (record v { tally = tally }) m1 m2 bits_stay fits1;
  }
    where
      once_of : (x y z : ℕ) → z ≡ x + y → x ≤ 1 → y ≤ 1 → (0 < x → y ≡ 0) → z ≤ 1
      once_of zero y z s h w a = omega (arith, s, w)
      once_of (suc x) y z s h w a = let e = a (omega arith) in omega (arith, s, h, e)

  pub grown_is : (old new : ℕ → Bool) → HasWritten (IsBitBlockOf v (run_blocks o.sizes run)) old new ws → StaysChanged old new → ((k : ℕ) → Has (o.id ∷ arrays_of o.sizes l) k → times k (whole_at o.sizes (contents m) o.id) ≡ 0 → new k ≡ true) → Grown o v (record v { tally = tally }) m fresh (Some m2) old new
  unfolding whole hand new_whole
  grown_is old new changed stays entered = record {
    map = m2;
    is = refl;
    owns = grown_owns;
    places = ap (λ (x : Levels). places_of o.sizes x) levels ∙ places;
    keeps = λ k has. subst (λ (x : Levels). Has (o.id ∷ arrays_of o.sizes x) k) (sym levels) (keeps k has);
    were_free = λ k has none.
        let some : 0 < times k new_whole = subst (λ (x : Levels). Has ((o.id ∷ arrays_of o.sizes x) ++ places_of o.sizes x) k) levels has in
        let s = sum_is k in
        were_free k (let mine : 0 < times k hand = omega (arith, s, some, none) in mine);
    free = λ k. free_now k ∙ ap (λ (x : Levels). is_free v m k && (times k ((o.id ∷ arrays_of o.sizes x) ++ places_of o.sizes x) == 0)) (sym levels);
    marks = λ k low. marks_now k low ∙ ap (λ (x : Levels). cond ((times k whole == 0) && not (times k ((o.id ∷ arrays_of o.sizes x) ++ places_of o.sizes x) == 0)) 1 (marked (per_block v) m k)) (sym levels);
    counted = λ c. counted_same (record v { tally = tally }) m1 m2 (λ k low. marked_same v m1 m2 bits_stay k low) (counted1 c);
    room = room_of (array_length o.sizes * (table_length o.sizes * table_length o.sizes)) (length (level_blocks o.sizes (levels_at o.sizes (contents m) o.id).runs)) (length (level_blocks o.sizes (levels_at o.sizes (contents m2) o.id).runs)) (length fresh)
        (subst (λ (x : Levels). length (level_blocks o.sizes x.runs) ≤ length (level_blocks o.sizes (levels_at o.sizes (contents m) o.id).runs) + length fresh) (sym levels) few);
    others = λ k out none. written k (none_of k (subst (λ (x : Levels). times k (o.id ∷ arrays_of o.sizes x) ≡ 0) levels none)) ∙ others1 k out;
    first = λ none. written 0 (none_of 0 (subst (λ (x : Levels). times 0 (o.id ∷ arrays_of o.sizes x) ≡ 0) levels none)) ∙ first1;
    written = λ k e. by_side k (changed k e);
    bits = λ k e. by_bits k (changed k e);
    stays = stays;
    entered = λ k has none. entered k (subst (λ (x : Levels). Has (o.id ∷ arrays_of o.sizes x) k) levels has) none;
    kept = rest_kept;
  }
    where
      by_side : (k : ℕ) → (old k ≡ true) ⊎ (IsBitBlockOf v (run_blocks o.sizes run) k ⊎ Has ws k) → (old k ≡ true) ⊎ (IsBitmapBlock v k ⊎ Has (frame_at o.sizes (contents m2) o.id) k)
      by_side k (inl before) = inl before
      by_side k (inr (inl bits)) = inr (inl bits.0)
      by_side k (inr (inr has)) = inr (inr (subst (λ (x : Levels). Has (o.id ∷ arrays_of o.sizes x) k) (sym levels) (inside k has)))

      is_moved : (j : ℕ) → Has (run_blocks o.sizes run) j → is_new (whole_at o.sizes (contents m) o.id) (whole_at o.sizes (contents m2) o.id) j ≡ true
      is_moved j has = subst (λ (x : Levels). is_new (whole_at o.sizes (contents m) o.id) ((o.id ∷ arrays_of o.sizes x) ++ places_of o.sizes x) j ≡ true) (sym levels) (moved_now j has)

      by_bits : (k : ℕ) → (old k ≡ true) ⊎ (IsBitBlockOf v (run_blocks o.sizes run) k ⊎ Has ws k)
          → (old k ≡ true) ⊎ (HasBitIn v (λ j. is_new (whole_at o.sizes (contents m) o.id) (whole_at o.sizes (contents m2) o.id) j ≡ true) k ⊎ Has (frame_at o.sizes (contents m2) o.id) k)
      by_bits k (inl before) = inl before
      by_bits k (inr (inl block)) = let bit = block.1 in inr (inl (bit.0, is_moved bit.0 bit.1, bit.2))
      by_bits k (inr (inr has)) = inr (inr (subst (λ (x : Levels). Has (o.id ∷ arrays_of o.sizes x) k) (sym levels) (inside k has)))

      room_of : (all before after n : ℕ) → after ≤ before + n → all - before ≤ all - after + n
      room_of all before after n le = omega (arith, le)

      none_of : (k : ℕ) → times k (o.id ∷ arrays_of o.sizes l) ≡ 0 → times k ws ≡ 0
      none_of k none = by_count (times k ws) refl
        where
          by_count : (n : ℕ) → times k ws ≡ n → times k ws ≡ 0
          by_count zero e = e
          by_count (suc n) e = let some : 0 < times k (o.id ∷ arrays_of o.sizes l) = inside k (let w : 0 < times k ws = omega arith in w) in absurd (omega (arith, some, none))
