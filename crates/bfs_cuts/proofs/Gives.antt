-- Blocks were given back, some of the stream's among them, and the stream stands as before; then it was written.
use Rattle.std.proofs.Common.{◌≡◌, ◌≤◌, ◌<◌, ◌+◌, ◌-◌, ◌*◌, ◌∙◌, ℕ, zero, suc, List, [], ◌∷◌, ◌++◌, Bool, true, false, cond, not, ◌&&◌, ◌||◌, Option, Some, unwrap_or, refl, sym, ap, ap₂, subst, arith}
use Rattle.std.specs.Prelude.{◌==◌, nat_lt, IsSome}
use Rattle.bfs_base.specs.Lists.{times, Has, IsOnce}
use Rattle.bfs_bitmap.specs.Runs.{Room, Fits, IsCounted, per_block, marked, is_free, is_reserved}
use Rattle.bfs_stream.specs.Sizes.{Origin}
use Rattle.bfs_stream.specs.Places.{Levels, levels_at, places_of, arrays_of, places_at, arrays_at, frame_at, whole_at, HasLevels}
use Rattle.bfs_stream.specs.Told.{contents}
use Rattle.bfs_stream.specs.Grown.{IsOutside, Owns, HasWritten, KeepsRest}
use Rattle.bfs_stream.specs.Trimmed.{Gave, Trimmed, AreMarked}
use Rattle.bfs_stream.proofs.Doubles.{times-append}
use Rattle.bfs_stream.proofs.Frames.{levels_same, has_first, has_left}
use Rattle.bfs_stream.proofs.Finish.{is_below, marked_same, fits_same, counted_same}
use Rattle.bfs_stream.proofs.Taking.{zero_test, some_test}
use Rattle.bfs_stream.proofs.Equal.{same_map}
use Rattle.bfs_cuts.proofs.Cutting.{arrays_cut, arrays_touched}
use Rattle.bfs_stream.proofs.Writes.{IsBitBlockOf}

or_none : (b : Bool) → (b || false) ≡ b
or_none true = refl
or_none false = refl

or_some : (b : Bool) → (b || true) ≡ true
or_some true = refl
or_some false = refl

-- a block that isn't free is not free after blocks were given back, since these are reserved
free_still : (t mark mark' res res' : Bool) (h : ℕ) → (t && (mark && not res)) ≡ false → (h ≡ 0 → mark' ≡ mark) → res' ≡ (res || not (h == 0)) → (t && (mark' && not res')) ≡ false
free_still t mark mark' res res' zero used marks reserved = ap₂ (λ (p q : Bool). t && (p && not q)) (marks refl) (reserved ∙ or_none res) ∙ used
free_still t mark mark' res res' (suc h) used marks reserved =
    ap (λ (q : Bool). t && (mark' && not q)) (reserved ∙ ap (λ (b : Bool). res || not b) (some_test (suc h) (omega arith)) ∙ or_some res) ∙ none t mark'
  where
    none : (a b : Bool) → (a && (b && not true)) ≡ false
    none true true = refl
    none true false = refl
    none false b = refl

-- nothing was given back
pub gave_none : (v : Room) (m : ℕ → Option (List ℕ)) (told : Option (ℕ → Option (List ℕ))) → Fits v m → told ≡ Some m → Gave v v [] m told
gave_none v m told fits is = record {
  map = m;
  is = is;
  fits = fits;
  others = λ k out. refl;
  first = refl;
  reserved = λ k. sym (or_none (is_reserved v.given k));
  marks = λ k low. refl;
  counted = λ once marks count. count;
}

or_sum : (r : Bool) (x y : ℕ) → ((r || not (x == 0)) || not (y == 0)) ≡ (r || not (x + y == 0))
or_sum true x y = refl
or_sum false zero y = let e : 0 + y ≡ y = omega arith in ap (λ (n : ℕ). not (n == 0)) (sym e)
or_sum false (suc x) y = ap (λ (b : Bool). not b || not (y == 0)) (some_test (suc x) (omega arith)) ∙ sym (ap not (some_test (suc x + y) (omega arith)))

if_sum : (x y a : ℕ) → cond (y == 0) (cond (x == 0) a 0) 0 ≡ cond (x + y == 0) a 0
if_sum zero y a = let e : 0 + y ≡ y = omega arith in ap (λ (n : ℕ). cond (n == 0) a 0) (sym e)
if_sum (suc x) y a =
    ap (λ (b : Bool). cond (y == 0) (cond b a 0) 0) (some_test (suc x) (omega arith)) ∙ both (y == 0) 0 ∙ sym (ap (λ (b : Bool). cond b a 0) (some_test (suc x + y) (omega arith)))
  where
    both : (b : Bool) (z : ℕ) → cond b z z ≡ z
    both true z = refl
    both false z = refl

-- more blocks were given back
pub gave_more : (v now later : Room) (xs ys : List ℕ) (m : ℕ → Option (List ℕ)) (told1 told2 : Option (ℕ → Option (List ℕ))) (one : Gave v now xs m told1) → now ≡ record v { given = now.given; tally = now.tally } → Gave now later ys one.map told2 → Gave v later (xs ++ ys) m told2
gave_more v now later xs ys m told1 told2 one rest two = record {
  map = two.map;
  is = two.is;
  fits = two.fits;
  others = λ k out. two.others k (subst (λ (x : Room). IsOutside x k) (sym rest) out) ∙ one.others k out;
  first = two.first ∙ one.first;
  reserved = λ k.
      two.reserved k ∙ ap (λ (b : Bool). b || not (times k ys == 0)) (one.reserved k) ∙ or_sum (is_reserved v.given k) (times k xs) (times k ys)
      ∙ ap (λ (n : ℕ). is_reserved v.given k || not (n == 0)) (sym (times-append k xs ys));
  marks = λ k low.
      subst (λ (x : Room). marked (per_block x) two.map k ≡ cond (times k ys == 0) (marked (per_block x) one.map k) 0) rest (two.marks k (subst (λ (x : Room). k < x.blocks) (sym rest) low))
      ∙ ap (λ (a : ℕ). cond (times k ys == 0) a 0) (one.marks k low) ∙ if_sum (times k xs) (times k ys) (marked (per_block v) m k)
      ∙ ap (λ (n : ℕ). cond (n == 0) (marked (per_block v) m k) 0) (sym (times-append k xs ys));
  counted = λ once marks count. two.counted (right_once once) (λ k low has. still_marked once marks k low has) (one.counted (left_once once) (λ k low has. marks k low (in_left k has)) count);
}
  where
    left_once : IsOnce (xs ++ ys) → IsOnce xs
    left_once once k = let le = once k in let e = times-append k xs ys in omega (arith, le, e)

    right_once : IsOnce (xs ++ ys) → IsOnce ys
    right_once once k = let le = once k in let e = times-append k xs ys in omega (arith, le, e)

    in_left : (k : ℕ) → Has xs k → Has (xs ++ ys) k
    in_left k has = let some : 0 < times k xs = has in let e = times-append k xs ys in let all : 0 < times k (xs ++ ys) = omega (arith, some, e) in all

    in_right : (k : ℕ) → Has ys k → Has (xs ++ ys) k
    in_right k has = let some : 0 < times k ys = has in let e = times-append k xs ys in let all : 0 < times k (xs ++ ys) = omega (arith, some, e) in all

    apart : IsOnce (xs ++ ys) → (k : ℕ) → Has ys k → times k xs ≡ 0
    apart once k has = let some : 0 < times k ys = has in let le = once k in let e = times-append k xs ys in omega (arith, some, le, e)

    still_marked : IsOnce (xs ++ ys) → AreMarked v (xs ++ ys) m → AreMarked now ys one.map
    still_marked once marks k low has =
        let below : k < v.blocks = subst (λ (x : Room). k < x.blocks) rest low in
        subst (λ (x : Room). marked (per_block x) one.map k ≡ 1) (sym rest)
        (one.marks k below ∙ ap (λ (b : Bool). cond b (marked (per_block v) m k) 0) (zero_test (times k xs) (apart once k has)) ∙ marks k below (in_right k has))

module _ (o : Origin) (v now : Room) (hand : List ℕ) (m : ℕ → Option (List ℕ)) (told : Option (ℕ → Option (List ℕ))) (owns : Owns o v [] m) (gave : Gave v now hand m told) (rest : now ≡ record v { given = now.given; tally = now.tally }) where
  pub gave_same : (k : ℕ) → Has (whole_at o.sizes (contents m) o.id) k → gave.map k ≡ m k
  gave_same k has = gave.others k (owns.outside k has)

  pub gave_frame : (k : ℕ) → Has (frame_at o.sizes (contents m) o.id) k → gave.map k ≡ m k
  gave_frame k has = gave_same k (has_left (frame_at o.sizes (contents m) o.id) (places_at o.sizes (contents m) o.id) k has)

  pub gave_levels : levels_at o.sizes (contents gave.map) o.id ≡ levels_at o.sizes (contents m) o.id
  gave_levels = levels_same (contents m) (contents gave.map) o.sizes o.id (λ k has. ap (λ (x : Option (List ℕ)). unwrap_or x []) (gave_frame k has))

  used_still : (k : ℕ) → is_free v m k ≡ false → is_free now gave.map k ≡ false
  used_still k used = ap (λ (x : Room). is_free x gave.map k) rest ∙ by_blocks (nat_lt k v.blocks) refl
    where
      by_blocks : (t : Bool) → nat_lt k v.blocks ≡ t → (nat_lt k v.blocks && ((marked (per_block v) gave.map k == 0) && not (is_reserved now.given k))) ≡ false
      by_blocks false e = ap (λ (t : Bool). t && ((marked (per_block v) gave.map k == 0) && not (is_reserved now.given k))) e
      by_blocks true e =
          free_still (nat_lt k v.blocks) (marked (per_block v) m k == 0) (marked (per_block v) gave.map k == 0) (is_reserved v.given k) (is_reserved now.given k) (times k hand) used
          (λ none. ap (λ (n : ℕ). n == 0) (gave.marks k (is_below k v.blocks e) ∙ ap (λ (b : Bool). cond b (marked (per_block v) m k) 0) (zero_test (times k hand) none)))
          (gave.reserved k)

  mine : (k : ℕ) → Has (whole_at o.sizes (contents gave.map) o.id) k → Has (whole_at o.sizes (contents m) o.id) k
  mine k has = subst (λ (x : Levels). Has ((o.id ∷ arrays_of o.sizes x) ++ places_of o.sizes x) k) gave_levels has

  pub gave_owns : Owns o now [] gave.map
  gave_owns = record {
    stands = record {
      told = λ k has.
          let own : Has (frame_at o.sizes (contents m) o.id) k = subst (λ (x : Levels). Has (o.id ∷ arrays_of o.sizes x) k) gave_levels has in
          subst (λ (x : Option (List ℕ)). IsSome x) (sym (gave_frame k own)) (owns.stands.told k own);
      sound = subst (HasLevels o.sizes) (sym gave_levels) owns.stands.sound;
    };
    once = λ k. subst (λ (x : Levels). times k ((o.id ∷ arrays_of o.sizes x) ++ places_of o.sizes x) ≤ 1) (sym gave_levels) (owns.once k);
    taken = λ k has. used_still k (owns.taken k (mine k has));
    outside = λ k has. subst (λ (x : Room). IsOutside x k) (sym rest) (owns.outside k (mine k has));
    bits = λ k low. used_still k (owns.bits k (subst (λ (x : Room). per_block x * (k - 1) < x.blocks) rest low));
    fits = gave.fits;
  }

-- and then it was written, at blocks that it has
module _ (o : Origin) (v now : Room) (hand : List ℕ) (m m1 : ℕ → Option (List ℕ)) (told0 told1 : Option (ℕ → Option (List ℕ))) (ws : List ℕ) (owns : Owns o v [] m) (gave : Gave v now hand m told0) (rest : now ≡ record v { given = now.given; tally = now.tally })
    (is1 : told1 ≡ Some m1) (wrote : (k : ℕ) → times k ws ≡ 0 → m1 k ≡ gave.map k) (inside : (k : ℕ) → Has ws k → Has (frame_at o.sizes (contents m) o.id) k) where
  -- what it would be with the writes alone
  written_first : ℕ → Option (List ℕ)
  written_first k = cond (times k ws == 0) (m k) (m1 k)

  first_others : (k : ℕ) → times k ws ≡ 0 → written_first k ≡ m k
  unfolding written_first
  first_others k e = ap (λ (b : Bool). cond b (m k) (m1 k)) (zero_test (times k ws) e)

  first_own : (k : ℕ) → 0 < times k ws → written_first k ≡ m1 k
  unfolding written_first
  first_own k some = ap (λ (b : Bool). cond b (m k) (m1 k)) (some_test (times k ws) some)

  outside_bits : (b : ℕ) → per_block v * (b - 1) < v.blocks → times b ws ≡ 0
  outside_bits b low = by_count (times b ws) refl
    where
      by_count : (n : ℕ) → times b ws ≡ n → times b ws ≡ 0
      by_count zero e = e
      by_count (suc n) e =
          let some : 0 < times b ws = omega (arith, e) in
          let out : v.blocks ≤ per_block v * (b - 1) = owns.outside b (has_left (frame_at o.sizes (contents m) o.id) (places_at o.sizes (contents m) o.id) b (inside b some)) in
          absurd (omega (arith, out, low))

  same_or_own : (k : ℕ) → gave.map k ≡ m k → m1 k ≡ written_first k
  same_or_own k same = by_count (times k ws) refl
    where
      by_count : (n : ℕ) → times k ws ≡ n → m1 k ≡ written_first k
      by_count zero e = wrote k e ∙ same ∙ sym (first_others k e)
      by_count (suc n) e = sym (first_own k (omega (arith, e)))

  gave_after : Gave v now hand written_first told1
  gave_after = record {
    map = m1;
    is = is1;
    fits = fits_same now gave.map m1 (λ b low. wrote b (outside_bits b (subst (λ (x : Room). per_block x * (b - 1) < x.blocks) rest low))) gave.fits;
    others = λ k out. same_or_own k (gave.others k out);
    first = same_or_own 0 gave.first;
    reserved = gave.reserved;
    marks = λ k low.
        marked_same v gave.map m1 (λ b h. wrote b (outside_bits b h)) k low ∙ gave.marks k low
        ∙ ap (λ (a : ℕ). cond (times k hand == 0) a 0) (sym (marked_same v m written_first (λ b h. first_others b (outside_bits b h)) k low));
    counted = λ once marks count.
        subst (λ (x : Room). IsCounted x m1) (sym rest)
        (counted_same (record v { given = now.given; tally = now.tally }) gave.map m1 (λ k low. marked_same v gave.map m1 (λ b h. wrote b (outside_bits b h)) k low)
        (subst (λ (x : Room). IsCounted x gave.map) rest
        (gave.counted once (λ k low has. sym (first_marks k low) ∙ marks k low has) (counted_same v written_first m (λ k low. sym (first_marks k low)) count))));
  }
    where
      first_marks : (k : ℕ) → k < v.blocks → marked (per_block v) written_first k ≡ marked (per_block v) m k
      first_marks k low = marked_same v m written_first (λ b h. first_others b (outside_bits b h)) k low

  module _ (l : Levels) (levels1 : levels_at o.sizes (contents m1) o.id ≡ l) (sound : HasLevels o.sizes l) (told_ws : (k : ℕ) → Has ws k → IsSome (m1 k)) (rest_kept : KeepsRest (contents m o.id) (contents m1 o.id))
      (gone went : List ℕ) (hand_is : (k : ℕ) → times k hand ≡ times k gone + times k went) (places : places_at o.sizes (contents m) o.id ≡ places_of o.sizes l ++ gone)
      (arrays : (k : ℕ) → times k (arrays_at o.sizes (contents m) o.id) ≡ times k went + times k (arrays_of o.sizes l)) (still : (k : ℕ) → Has ws k → Has (o.id ∷ arrays_of o.sizes l) k) where
    keep : (k : ℕ) → Has (o.id ∷ arrays_of o.sizes l) k → Has (frame_at o.sizes (contents m) o.id) k
    keep k has =
        let some : 0 < times k (o.id ∷ arrays_of o.sizes l) = has in
        let a = times-append k (o.id ∷ []) (arrays_of o.sizes l) in
        let b = times-append k (o.id ∷ []) (arrays_at o.sizes (contents m) o.id) in
        let c = arrays k in
        let all : 0 < times k ((o.id ∷ []) ++ arrays_at o.sizes (contents m) o.id) = omega (arith, some, a, b, c) in all

    same_there : (k : ℕ) → Has (o.id ∷ arrays_of o.sizes l) k → m1 k ≡ written_first k
    same_there k has = same_or_own k (gave.others k (owns.outside k (has_left (frame_at o.sizes (contents m) o.id) (places_at o.sizes (contents m) o.id) k (keep k has))))

    levels_first : levels_at o.sizes (contents written_first) o.id ≡ l
    levels_first =
        levels_same (contents m1) (contents written_first) o.sizes o.id
        (λ k has. ap (λ (x : Option (List ℕ)). unwrap_or x []) (sym (same_there k (subst (λ (x : Levels). Has (o.id ∷ arrays_of o.sizes x) k) levels1 has))))
        ∙ levels1

    rest_first : KeepsRest (contents m o.id) (contents written_first o.id)
    rest_first = subst (λ (x : Option (List ℕ)). KeepsRest (contents m o.id) (unwrap_or x [])) (same_there o.id (has_first o.id (arrays_of o.sizes l))) rest_kept

    told_first : (k : ℕ) → Has ws k → IsSome (written_first k)
    told_first k has = subst (λ (x : Option (List ℕ)). IsSome x) (sym (first_own k has)) (told_ws k has)

    pub dropped : (old new : ℕ → Bool) → HasWritten (IsBitBlockOf v hand) old new ws → (t : Trimmed o v now m gone told1 old new) × (t.touched ≡ ws) × (levels_at o.sizes (contents t.map) o.id ≡ l)
    dropped old new changes =
        let t = arrays_cut o v now hand m written_first told1 ws l owns first_others inside levels_first sound told_first rest_first gone went hand_is places arrays still old new gave_after rest changes in
        let touched = arrays_touched o v now hand m written_first told1 ws l owns first_others inside levels_first sound told_first rest_first gone went hand_is places arrays still old new gave_after rest changes in
        (t, touched, ap (λ (x : ℕ → Option (List ℕ)). levels_at o.sizes (contents x) o.id) (same_map t.map m1 told1 t.is is1) ∙ levels1)
