-- A run was taken out of the stream, and then given back.
use Rattle.std.proofs.Common.{◌≡◌, ◌≤◌, ◌<◌, ◌+◌, ◌-◌, ◌*◌, ◌∙◌, ℕ, zero, suc, List, [], ◌∷◌, ◌++◌, Bool, true, false, cond, not, ◌&&◌, ◌||◌, Option, unwrap_or, refl, sym, ap, ap₂, subst, arith}
use Rattle.std.specs.Prelude.{◌==◌, nat_lt, IsSome}
use Rattle.bfs_base.specs.Lists.{times, Has, AreSame}
use Rattle.bfs_bitmap.specs.Runs.{Room, Fits, per_block, marked, is_free, is_reserved}
use Rattle.bfs_stream.specs.Sizes.{Origin}
use Rattle.bfs_stream.specs.Places.{Levels, levels_at, places_of, arrays_of, places_at, frame_at, whole_at, HasLevels}
use Rattle.bfs_stream.specs.Told.{contents, AreTold}
use Rattle.bfs_stream.specs.Grown.{IsOutside, Owns, HasWritten, HasBitIn, KeepsRest, is_new}
use Rattle.bfs_stream.specs.Trimmed.{Gave, Trimmed}
use Rattle.bfs_stream.proofs.Doubles.{times-append}
use Rattle.bfs_stream.proofs.Frames.{levels_same, has_first, has_left}
use Rattle.bfs_stream.proofs.Finish.{is_below, marked_same, fits_same, counted_same}
use Rattle.bfs_stream.proofs.Taking.{zero_test, some_test}
use Rattle.bfs_stream.proofs.Writes.{IsBitBlockOf, wrote_wider}
use Rattle.bfs_bitmap.specs.Fills.{IsBitmapBlock}

-- what was in hand is gone, and nothing else: `h` of it in hand, `x` left, `y` before
gone_in_hand : (h x y : ℕ) → y ≡ h + x → (0 < h → x ≡ 0) → not (h == 0) ≡ ((x == 0) && not (y == 0))
gone_in_hand zero zero y e apart = ap (λ (b : Bool). not b) (sym (zero_test y (omega (arith, e))))
gone_in_hand zero (suc x) y e apart = ap (λ (b : Bool). b && not (y == 0)) (sym (some_test (suc x) (omega arith)))
gone_in_hand (suc h) x y e apart =
    let none : x ≡ 0 = apart (omega arith) in
    ap not (some_test (suc h) (omega arith)) ∙ sym (ap₂ (λ (p q : Bool). p && not q) (zero_test x none) (some_test y (omega (arith, e))))

cond_not : (b : Bool) (a : ℕ) → cond b a 0 ≡ cond (not b) 0 a
cond_not true a = refl
cond_not false a = refl

-- a block that is not in hand is as free as before, and one in hand is not free before or after
free_of : (t mark mark' res res' : Bool) (h : ℕ) → (0 < h → (t && (mark && not res)) ≡ false) → (h ≡ 0 → mark' ≡ mark) → res' ≡ (res || not (h == 0)) → (t && (mark' && not res')) ≡ (t && (mark && not res))
free_of t mark mark' res res' zero used marks reserved =
    ap₂ (λ (p q : Bool). t && (p && not q)) (marks refl) (reserved ∙ or_none res)
  where
    or_none : (b : Bool) → (b || not (0 == 0)) ≡ b
    or_none true = refl
    or_none false = refl
free_of t mark mark' res res' (suc h) used marks reserved =
    ap (λ (q : Bool). t && (mark' && not q)) (reserved ∙ ap (λ (b : Bool). res || not b) (some_test (suc h) (omega arith)) ∙ or_some res) ∙ none t mark' ∙ sym (used (omega arith))
  where
    or_some : (b : Bool) → (b || not false) ≡ true
    or_some true = refl
    or_some false = refl

    none : (a b : Bool) → (a && (b && not true)) ≡ false
    none true true = refl
    none true false = refl
    none false b = refl

module _ (o : Origin) (v now : Room) (hand : List ℕ) (m m1 : ℕ → Option (List ℕ)) (told : Option (ℕ → Option (List ℕ))) (ws gone : List ℕ) (l : Levels) (owns : Owns o v [] m)
    (written : (k : ℕ) → times k ws ≡ 0 → m1 k ≡ m k) (inside : (k : ℕ) → Has ws k → Has (frame_at o.sizes (contents m) o.id) k) where
  abbrev whole : List ℕ
  whole = whole_at o.sizes (contents m) o.id

  frame_in : (k : ℕ) → Has (frame_at o.sizes (contents m) o.id) k → Has whole k
  frame_in k has = has_left (frame_at o.sizes (contents m) o.id) (places_at o.sizes (contents m) o.id) k has

  bits_stay : (b : ℕ) → per_block v * (b - 1) < v.blocks → m1 b ≡ m b
  bits_stay b h = by_count (times b ws) refl
    where
      by_count : (n : ℕ) → times b ws ≡ n → m1 b ≡ m b
      by_count zero e = written b e
      by_count (suc n) e = let out : v.blocks ≤ per_block v * (b - 1) = owns.outside b (frame_in b (inside b (let some : 0 < times b ws = omega (arith, e) in some))) in absurd (omega (arith, out, h))

  -- the bitmap fits before the run is given back
  pub fits_written : Fits v m1
  fits_written = fits_same v m m1 bits_stay owns.fits

  module _ (levels1 : levels_at o.sizes (contents m1) o.id ≡ l) (sound : HasLevels o.sizes l) (places : places_at o.sizes (contents m) o.id ≡ places_of o.sizes l ++ gone)
      (same : AreSame (whole_at o.sizes (contents m) o.id) (hand ++ ((o.id ∷ arrays_of o.sizes l) ++ places_of o.sizes l)))
      (keeps : (k : ℕ) → Has (o.id ∷ arrays_of o.sizes l) k → Has (frame_at o.sizes (contents m) o.id) k) (are_told : AreTold m1 (o.id ∷ arrays_of o.sizes l))
      (rest_kept : KeepsRest (contents m o.id) (contents m1 o.id)) (gave : Gave v now hand m1 told) (rest : now ≡ record v { given = now.given; tally = now.tally }) where
    abbrev left : List ℕ
    left = (o.id ∷ arrays_of o.sizes l) ++ places_of o.sizes l

    sum_is : (k : ℕ) → times k whole ≡ times k hand + times k left
    sum_is k = same k ∙ times-append k hand left

    once : (k : ℕ) → times k whole ≤ 1
    once k = owns.once k

    apart : (k : ℕ) → 0 < times k hand → times k left ≡ 0
    apart k h = let s = sum_is k in let le = once k in omega (arith, s, le, h)

    left_in : (k : ℕ) → 0 < times k left → Has whole k
    left_in k h = let s = sum_is k in let some : 0 < times k whole = omega (arith, s, h) in some

    hand_in : (k : ℕ) → 0 < times k hand → Has whole k
    hand_in k h = let s = sum_is k in let some : 0 < times k whole = omega (arith, s, h) in some

    frame_left : (k : ℕ) → Has (o.id ∷ arrays_of o.sizes l) k → Has left k
    frame_left k has = has_left (o.id ∷ arrays_of o.sizes l) (places_of o.sizes l) k has

    -- what is left of the stream's blocks is as it was written
    stays : (k : ℕ) → Has left k → gave.map k ≡ m1 k
    stays k has = gave.others k (owns.outside k (left_in k has))

    pub levels_now : levels_at o.sizes (contents gave.map) o.id ≡ l
    levels_now =
        levels_same (contents m1) (contents gave.map) o.sizes o.id
        (λ k has. ap (λ (x : Option (List ℕ)). unwrap_or x []) (stays k (frame_left k (subst (λ (x : Levels). Has (o.id ∷ arrays_of o.sizes x) k) levels1 has))))
        ∙ levels1

    to_left : (k : ℕ) → Has (whole_at o.sizes (contents gave.map) o.id) k → Has left k
    to_left k has = subst (λ (x : Levels). Has ((o.id ∷ arrays_of o.sizes x) ++ places_of o.sizes x) k) levels_now has

    marks_now : (k : ℕ) → k < v.blocks → marked (per_block v) gave.map k ≡ cond ((times k left == 0) && not (times k whole == 0)) 0 (marked (per_block v) m k)
    marks_now k low =
        gave.marks k low ∙ cond_not (times k hand == 0) (marked (per_block v) m1 k)
        ∙ ap₂ (λ (b : Bool) (a : ℕ). cond b 0 a) (gone_in_hand (times k hand) (times k left) (times k whole) (sum_is k) (apart k)) (marked_same v m m1 bits_stay k low)

    reserved_now : (k : ℕ) → is_reserved now.given k ≡ (is_reserved v.given k || ((times k left == 0) && not (times k whole == 0)))
    reserved_now k = gave.reserved k ∙ ap (λ (b : Bool). is_reserved v.given k || b) (gone_in_hand (times k hand) (times k left) (times k whole) (sum_is k) (apart k))

    free_given : (k : ℕ) → is_free now gave.map k ≡ is_free v m k
    free_given k = ap (λ (x : Room). is_free x gave.map k) rest ∙ by_blocks (nat_lt k v.blocks) refl
      where
        by_blocks : (t : Bool) → nat_lt k v.blocks ≡ t → (nat_lt k v.blocks && ((marked (per_block v) gave.map k == 0) && not (is_reserved now.given k))) ≡ (nat_lt k v.blocks && ((marked (per_block v) m k == 0) && not (is_reserved v.given k)))
        by_blocks false e = ap (λ (t : Bool). t && ((marked (per_block v) gave.map k == 0) && not (is_reserved now.given k))) e ∙ sym (ap (λ (t : Bool). t && ((marked (per_block v) m k == 0) && not (is_reserved v.given k))) e)
        by_blocks true e =
            let low : k < v.blocks = is_below k v.blocks e in
            free_of (nat_lt k v.blocks) (marked (per_block v) m k == 0) (marked (per_block v) gave.map k == 0) (is_reserved v.given k) (is_reserved now.given k) (times k hand)
            (λ some. owns.taken k (hand_in k some))
            (λ none. ap (λ (n : ℕ). n == 0) (gave.marks k low ∙ ap (λ (b : Bool). cond b (marked (per_block v) m1 k) 0) (zero_test (times k hand) none) ∙ marked_same v m m1 bits_stay k low))
            (gave.reserved k)

    owns_now : Owns o now [] gave.map
    owns_now = record {
      stands = record {
        told = λ k has.
            let mine : Has (o.id ∷ arrays_of o.sizes l) k = subst (λ (x : Levels). Has (o.id ∷ arrays_of o.sizes x) k) levels_now has in
            subst (λ (x : Option (List ℕ)). IsSome x) (sym (stays k (frame_left k mine))) (are_told k mine);
        sound = subst (HasLevels o.sizes) (sym levels_now) sound;
      };
      once = λ k. let s = sum_is k in let le = once k in subst (λ (x : Levels). times k ((o.id ∷ arrays_of o.sizes x) ++ places_of o.sizes x) ≤ 1) (sym levels_now) (let few : times k left ≤ 1 = omega (arith, s, le) in few);
      taken = λ k has. free_given k ∙ owns.taken k (left_in k (to_left k has));
      outside = λ k has. subst (λ (x : Room). IsOutside x k) (sym rest) (owns.outside k (left_in k (to_left k has)));
      bits = λ k low. free_given k ∙ owns.bits k (subst (λ (x : Room). per_block x * (k - 1) < x.blocks) rest low);
      fits = gave.fits;
    }

    is_gone : (j : ℕ) → Has hand j → is_new (whole_at o.sizes (contents gave.map) o.id) (whole_at o.sizes (contents m) o.id) j ≡ true
    is_gone j has =
        let now : is_new left whole j ≡ true = sym (gone_in_hand (times j hand) (times j left) (times j whole) (sum_is j) (apart j)) ∙ ap not (some_test (times j hand) has) in
        subst (λ (x : Levels). is_new ((o.id ∷ arrays_of o.sizes x) ++ places_of o.sizes x) whole j ≡ true) (sym levels_now) now

    pub trimmed_is : ((k : ℕ) → Has ws k → Has (o.id ∷ arrays_of o.sizes l) k) → (old new : ℕ → Bool) → HasWritten (IsBitBlockOf v hand) old new ws → Trimmed o v now m gone told old new
    trimmed_is still old new changed = record {
      map = gave.map;
      is = gave.is;
      owns = owns_now;
      places = places ∙ ap (λ (x : Levels). places_of o.sizes x ++ gone) (sym levels_now);
      keeps = λ k has. keeps k (subst (λ (x : Levels). Has (o.id ∷ arrays_of o.sizes x) k) levels_now has);
      fewer = λ k. let s = sum_is k in subst (λ (x : Levels). times k ((o.id ∷ arrays_of o.sizes x) ++ places_of o.sizes x) ≤ times k whole) (sym levels_now) (let few : times k left ≤ times k whole = omega (arith, s) in few);
      reserved = λ k. reserved_now k ∙ ap (λ (x : Levels). is_reserved v.given k || ((times k ((o.id ∷ arrays_of o.sizes x) ++ places_of o.sizes x) == 0) && not (times k whole == 0))) (sym levels_now);
      marks = λ k low. marks_now k low ∙ ap (λ (x : Levels). cond ((times k ((o.id ∷ arrays_of o.sizes x) ++ places_of o.sizes x) == 0) && not (times k whole == 0)) 0 (marked (per_block v) m k)) (sym levels_now);
      counted = λ marks count.
          gave.counted (λ k. let s = sum_is k in let le = once k in let few : times k hand ≤ 1 = omega (arith, s, le) in few)
          (λ k low has. marked_same v m m1 bits_stay k low ∙ marks k low (hand_in k (let some : 0 < times k hand = has in some)))
          (counted_same v m m1 (λ k low. marked_same v m m1 bits_stay k low) count);
      free = free_given;
      touched = ws;
      still = λ k has. subst (λ (x : Levels). Has (o.id ∷ arrays_of o.sizes x) k) (sym levels_now) (still k has);
      others = λ k out none. gave.others k out ∙ written k none;
      first = λ none. gave.first ∙ written 0 none;
      written = wrote_wider (IsBitBlockOf v hand) (IsBitmapBlock v) old new ws (λ k block. block.0) changed;
      bits = wrote_wider (IsBitBlockOf v hand) (HasBitIn v (λ j. is_new (whole_at o.sizes (contents gave.map) o.id) (whole_at o.sizes (contents m) o.id) j ≡ true)) old new ws (λ k block. let bit = block.1 in (bit.0, is_gone bit.0 bit.1, bit.2)) changed;
      kept = subst (λ (x : Option (List ℕ)). KeepsRest (contents m o.id) (unwrap_or x [])) (sym (stays o.id (frame_left o.id own))) rest_kept;
    }
      where
        own : Has (o.id ∷ arrays_of o.sizes l) o.id
        own = has_first o.id (arrays_of o.sizes l)

    pub touched_is : (still : (k : ℕ) → Has ws k → Has (o.id ∷ arrays_of o.sizes l) k) (old new : ℕ → Bool) (changed : HasWritten (IsBitBlockOf v hand) old new ws) → (trimmed_is still old new changed).touched ≡ ws
    unfolding trimmed_is
    touched_is still old new changed = refl
