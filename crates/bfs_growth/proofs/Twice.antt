-- A stream that has grown and then grows once more.
use Rattle.std.proofs.Common.{◌≡◌, ◌≤◌, ◌<◌, ◌+◌, ◌-◌, ◌/◌, ◌∙◌, ◌⊎◌, inl, inr, ℕ, zero, suc, List, [], ◌++◌, length, Bool, true, false, ◌&&◌, Option, Some, refl, sym, ap, ap₂, subst, arith, append_assoc, length-append, not, cond}
use Rattle.std.specs.Prelude.{◌==◌, Result, Ok, Err, IfOk}
use Rattle.bfs_stream.specs.declared.fault.GrowFault.{GrowFault}
use Rattle.std.proofs.lemmas.List.{append-nil}
use Rattle.bfs_base.specs.Lists.{times, Has}
use Rattle.bfs_bitmap.specs.Runs.{Room, is_free, per_block, marked}
use Rattle.bfs_bitmap.specs.Fills.{IsBitmapBlock}
use Rattle.bfs_stream.specs.Sizes.{Origin, array_length}
use Rattle.bfs_stream.specs.Places.{arrays_at, places_at, frame_at, whole_at}
use Rattle.bfs_stream.specs.Told.{contents}
use Rattle.bfs_stream.specs.Grown.{Owns, Grown, HasGrown, HasGrownBy, IsOutside, AreWritten, HasWritten, HasBitIn, UsesDouble, is_new, room_at}
use Rattle.bfs_stream.proofs.Doubles.{times-append}
use Rattle.bfs_stream.proofs.Listed.{some_array}
use Rattle.bfs_stream.proofs.Writes.{wrote_none, wrote_more, wrote_wider, wrote_twice, keeps_none, keeps_twice}
use Rattle.bfs_stream.proofs.Taking.{some_test, and_false}
use Rattle.bfs_growth.proofs.Finish.{none_entered}

both_free : (b : Bool) (x y : ℕ) → (0 < x → 0 < y) → ((b && (x == 0)) && (y == 0)) ≡ (b && (y == 0))
both_free false x y more = refl
both_free true zero y more = refl
both_free true (suc x) zero more = absurd (omega (arith, more (omega arith)))
both_free true (suc x) (suc y) more = let a = some_test (suc x) (omega arith) in let b = some_test (suc y) (omega arith) in ap₂ (λ (p q : Bool). (true && p) && q) a b ∙ ap (λ (q : Bool). true && q) (sym b)

same_new : (b : Bool) (a : ℕ) → a ≡ cond (b && not b) 1 a
same_new true a = refl
same_new false a = refl

left_true : (b c : Bool) → (b && c) ≡ true → b ≡ true
left_true true c e = refl
left_true false c e = let bad : false ≡ true = e in cc

module _ (o : Origin) (v : Room) (m : ℕ → Option (List ℕ)) (owns : Owns o v [] m) (told : Option (ℕ → Option (List ℕ))) (is : told ≡ Some m) (old new : ℕ → Bool) (same : new ≡ old) where
  -- nothing was added
  pub grown_none : Grown o v v m [] told old new
  grown_none = record {
    map = m;
    is = is;
    owns = owns;
    places = sym (append-nil (places_at o.sizes (contents m) o.id));
    keeps = λ k has. has;
    were_free = λ k has none. let some : 0 < times k (whole_at o.sizes (contents m) o.id) = has in absurd (omega (arith, some, none));
    free = λ k. by_count k (times k (whole_at o.sizes (contents m) o.id)) (owns.taken k);
    marks = λ k low. same_new (times k (whole_at o.sizes (contents m) o.id) == 0) (marked (per_block v) m k);
    counted = λ count. count;
    room = omega arith;
    others = λ k out none. refl;
    first = λ none. refl;
    kept = keeps_none (contents m o.id);
    written = wrote_none (IsBitmapBlock v) old new (frame_at o.sizes (contents m) o.id) same;
    bits = wrote_none (HasBitIn v (λ j. is_new (whole_at o.sizes (contents m) o.id) (whole_at o.sizes (contents m) o.id) j ≡ true)) old new (frame_at o.sizes (contents m) o.id) same;
    stays = λ k t. ap (λ (f : ℕ → Bool). f k) same ∙ t;
    entered = λ k has none. none_entered o m (arrays_at o.sizes (contents m) o.id) new refl k has none;
  }
    where
      by_count : (k n : ℕ) → (0 < n → is_free v m k ≡ false) → is_free v m k ≡ (is_free v m k && (n == 0))
      by_count k zero taken = and_same (is_free v m k)
        where
          and_same : (b : Bool) → b ≡ (b && true)
          and_same true = refl
          and_same false = refl
      by_count k (suc n) taken = taken (omega arith) ∙ sym (and_false (is_free v m k)) ∙ ap (λ (b : Bool). is_free v m k && b) (sym (some_test (suc n) (omega arith)))

-- what is new after both steps is new after one of them
new_twice : (p q r : Bool) (a b c : ℕ) → (p ≡ false → q ≡ false) → (q ≡ false → r ≡ false) → b ≡ cond (p && not q) 1 a → c ≡ cond (q && not r) 1 b → c ≡ cond (p && not r) 1 a
new_twice true true true a b c one two f g = g ∙ f
new_twice true true false a b c one two f g = g
new_twice true false false a b c one two f g = g ∙ f
new_twice true false true a b c one two f g = let bad : true ≡ false = two refl in cc
new_twice false false false a b c one two f g = g ∙ f
new_twice false true r a b c one two f g = let bad : true ≡ false = one refl in cc
new_twice false false true a b c one two f g = let bad : true ≡ false = two refl in cc

new_first : (p q r : Bool) → (p && not q) ≡ true → (q ≡ false → r ≡ false) → (p && not r) ≡ true
new_first true true r e more = let bad : false ≡ true = e in cc
new_first true false r e more = ap not (more refl)
new_first false q r e more = let bad : false ≡ true = e in cc

new_second : (p q r : Bool) → (q && not r) ≡ true → (p ≡ false → q ≡ false) → (p && not r) ≡ true
new_second true true r e more = e
new_second true false r e more = let bad : false ≡ true = e in cc
new_second false q r e more = let bad : false ≡ true = sym (ap (λ (b : Bool). b && not r) (more refl)) ∙ e in cc

still_some : (x y : ℕ) → (0 < x → 0 < y) → (x == 0) ≡ false → (y == 0) ≡ false
still_some zero y more e = let bad : true ≡ false = e in cc
still_some (suc x) y more e = some_test y (more (omega arith))

pub whole_grows : (o : Origin) (v now : Room) (m : ℕ → Option (List ℕ)) (fresh : List ℕ) (told : Option (ℕ → Option (List ℕ))) (old new : ℕ → Bool) (g : Grown o v now m fresh told old new) (k : ℕ) → 0 < times k (whole_at o.sizes (contents m) o.id) → 0 < times k (whole_at o.sizes (contents g.map) o.id)
whole_grows o v now m fresh told old new g k some =
    let before = times-append k (frame_at o.sizes (contents m) o.id) (places_at o.sizes (contents m) o.id) in
    let after = times-append k (frame_at o.sizes (contents g.map) o.id) (places_at o.sizes (contents g.map) o.id) in
    let longer : times k (places_at o.sizes (contents g.map) o.id) ≡ times k (places_at o.sizes (contents m) o.id) + times k fresh = ap (times k) g.places ∙ times-append k (places_at o.sizes (contents m) o.id) fresh in
    by_frame (times k (frame_at o.sizes (contents m) o.id)) refl before after longer
  where
    by_frame : (n : ℕ) → times k (frame_at o.sizes (contents m) o.id) ≡ n
        → times k (whole_at o.sizes (contents m) o.id) ≡ times k (frame_at o.sizes (contents m) o.id) + times k (places_at o.sizes (contents m) o.id)
        → times k (whole_at o.sizes (contents g.map) o.id) ≡ times k (frame_at o.sizes (contents g.map) o.id) + times k (places_at o.sizes (contents g.map) o.id)
        → times k (places_at o.sizes (contents g.map) o.id) ≡ times k (places_at o.sizes (contents m) o.id) + times k fresh
        → 0 < times k (whole_at o.sizes (contents g.map) o.id)
    by_frame zero e before after longer = omega (arith, some, e, before, after, longer)
    by_frame (suc n) e before after longer = let kept : 0 < times k (frame_at o.sizes (contents g.map) o.id) = g.keeps k (let h : 0 < times k (frame_at o.sizes (contents m) o.id) = omega (arith, e) in h) in omega (arith, kept, after)

-- no block is there twice: what is of the frame now and was the stream's was of the frame before
still_frame : (o : Origin) (v now : Room) (m : ℕ → Option (List ℕ)) (fresh : List ℕ) (told : Option (ℕ → Option (List ℕ))) (old new : ℕ → Bool) (g : Grown o v now m fresh told old new) (k : ℕ) → Has (frame_at o.sizes (contents g.map) o.id) k → 0 < times k (whole_at o.sizes (contents m) o.id) → Has (frame_at o.sizes (contents m) o.id) k
still_frame o v now m fresh told old new g k has some =
    let before : times k (whole_at o.sizes (contents m) o.id) ≡ times k (frame_at o.sizes (contents m) o.id) + times k (places_at o.sizes (contents m) o.id) = times-append k (frame_at o.sizes (contents m) o.id) (places_at o.sizes (contents m) o.id) in
    let after : times k (whole_at o.sizes (contents g.map) o.id) ≡ times k (frame_at o.sizes (contents g.map) o.id) + times k (places_at o.sizes (contents g.map) o.id) = times-append k (frame_at o.sizes (contents g.map) o.id) (places_at o.sizes (contents g.map) o.id) in
    let longer : times k (places_at o.sizes (contents g.map) o.id) ≡ times k (places_at o.sizes (contents m) o.id) + times k fresh = ap (times k) g.places ∙ times-append k (places_at o.sizes (contents m) o.id) fresh in
    let once : times k (whole_at o.sizes (contents g.map) o.id) ≤ 1 = g.owns.once k in
    let now_in : 0 < times k (frame_at o.sizes (contents g.map) o.id) = has in
    let was_in : 0 < times k (frame_at o.sizes (contents m) o.id) = omega (arith, before, after, longer, once, now_in, some) in was_in

room_twice : (a b c x y z : ℕ) → a ≤ b + x → b ≤ c + y → z ≡ x + y → a ≤ c + z
room_twice a b c x y z e f g = omega (arith, e, f, g)

module _ (o : Origin) (v now later : Room) (m : ℕ → Option (List ℕ)) (fresh more : List ℕ) (told1 told2 : Option (ℕ → Option (List ℕ))) (c0 c1 c2 : ℕ → Bool) (one : Grown o v now m fresh told1 c0 c1) (rest : now ≡ record v { tally = now.tally }) (two : Grown o now later one.map more told2 c1 c2) where
  whole_kept : (k : ℕ) → 0 < times k (whole_at o.sizes (contents one.map) o.id) → 0 < times k (whole_at o.sizes (contents two.map) o.id)
  whole_kept k some = whole_grows o now later one.map more told2 c1 c2 two k some

  frame_gone : (k : ℕ) → times k (frame_at o.sizes (contents two.map) o.id) ≡ 0 → times k (frame_at o.sizes (contents one.map) o.id) ≡ 0
  frame_gone k none = by_count (times k (frame_at o.sizes (contents one.map) o.id)) refl
    where
      by_count : (n : ℕ) → times k (frame_at o.sizes (contents one.map) o.id) ≡ n → times k (frame_at o.sizes (contents one.map) o.id) ≡ 0
      by_count zero e = e
      by_count (suc n) e = let kept : 0 < times k (frame_at o.sizes (contents two.map) o.id) = two.keeps k (let h : 0 < times k (frame_at o.sizes (contents one.map) o.id) = omega (arith, e) in h) in absurd (omega (arith, kept, none))

  was_free : (k : ℕ) → Has (whole_at o.sizes (contents two.map) o.id) k → times k (whole_at o.sizes (contents m) o.id) ≡ 0 → is_free v m k ≡ true
  was_free k has none = by_count (times k (whole_at o.sizes (contents one.map) o.id)) refl
    where
      by_count : (n : ℕ) → times k (whole_at o.sizes (contents one.map) o.id) ≡ n → is_free v m k ≡ true
      by_count zero e = left_true (is_free v m k) (times k (whole_at o.sizes (contents one.map) o.id) == 0) (sym (one.free k) ∙ two.were_free k has e)
      by_count (suc n) e = one.were_free k (let h : 0 < times k (whole_at o.sizes (contents one.map) o.id) = omega (arith, e) in h) none

  outside_now : (k : ℕ) → IsOutside v k → IsOutside now k
  outside_now k out = subst (λ (x : Room). IsOutside x k) (sym rest) out

  now_marks : (k : ℕ) → k < v.blocks → marked (per_block v) two.map k ≡ cond ((times k (whole_at o.sizes (contents one.map) o.id) == 0) && not (times k (whole_at o.sizes (contents two.map) o.id) == 0)) 1 (marked (per_block v) one.map k)
  now_marks k low =
      subst (λ (x : Room). marked (per_block x) two.map k ≡ cond ((times k (whole_at o.sizes (contents one.map) o.id) == 0) && not (times k (whole_at o.sizes (contents two.map) o.id) == 0)) 1 (marked (per_block x) one.map k)) rest
      (two.marks k (subst (λ (x : Room). k < x.blocks) (sym rest) low))

  -- what entered did so in the second step, or is of the frame after the first
  entered_twice : (k : ℕ) → Has (frame_at o.sizes (contents two.map) o.id) k → times k (whole_at o.sizes (contents m) o.id) ≡ 0 → c2 k ≡ true
  entered_twice k has none = by_count (times k (whole_at o.sizes (contents one.map) o.id)) refl
    where
      by_count : (n : ℕ) → times k (whole_at o.sizes (contents one.map) o.id) ≡ n → c2 k ≡ true
      by_count zero e = two.entered k has e
      by_count (suc n) e = two.stays k (one.entered k (still_frame o now later one.map more told2 c1 c2 two k has (let h : 0 < times k (whole_at o.sizes (contents one.map) o.id) = omega (arith, e) in h)) none)

  bits_first : (k : ℕ) → HasBitIn v (λ j. is_new (whole_at o.sizes (contents m) o.id) (whole_at o.sizes (contents one.map) o.id) j ≡ true) k → HasBitIn v (λ j. is_new (whole_at o.sizes (contents m) o.id) (whole_at o.sizes (contents two.map) o.id) j ≡ true) k
  bits_first k bit = (
    bit.0,
    new_first (times bit.0 (whole_at o.sizes (contents m) o.id) == 0) (times bit.0 (whole_at o.sizes (contents one.map) o.id) == 0) (times bit.0 (whole_at o.sizes (contents two.map) o.id) == 0) bit.1
        (still_some (times bit.0 (whole_at o.sizes (contents one.map) o.id)) (times bit.0 (whole_at o.sizes (contents two.map) o.id)) (whole_kept bit.0)),
    bit.2,
  )

  bits_second : (k : ℕ) → HasBitIn now (λ j. is_new (whole_at o.sizes (contents one.map) o.id) (whole_at o.sizes (contents two.map) o.id) j ≡ true) k → HasBitIn v (λ j. is_new (whole_at o.sizes (contents m) o.id) (whole_at o.sizes (contents two.map) o.id) j ≡ true) k
  bits_second k bit = (
    bit.0,
    new_second (times bit.0 (whole_at o.sizes (contents m) o.id) == 0) (times bit.0 (whole_at o.sizes (contents one.map) o.id) == 0) (times bit.0 (whole_at o.sizes (contents two.map) o.id) == 0) bit.1
        (still_some (times bit.0 (whole_at o.sizes (contents m) o.id)) (times bit.0 (whole_at o.sizes (contents one.map) o.id)) (whole_grows o v now m fresh told1 c0 c1 one bit.0)),
    subst (λ (x : Room). k ≡ 1 + bit.0 / per_block x) rest bit.2,
  )

  bits_twice : HasWritten (HasBitIn v (λ j. is_new (whole_at o.sizes (contents m) o.id) (whole_at o.sizes (contents two.map) o.id) j ≡ true)) c0 c2 (frame_at o.sizes (contents two.map) o.id)
  bits_twice =
      let all : List ℕ = frame_at o.sizes (contents two.map) o.id in
      wrote_twice (HasBitIn v (λ j. is_new (whole_at o.sizes (contents m) o.id) (whole_at o.sizes (contents two.map) o.id) j ≡ true)) c0 c1 c2 all
      (wrote_more (HasBitIn v (λ j. is_new (whole_at o.sizes (contents m) o.id) (whole_at o.sizes (contents two.map) o.id) j ≡ true)) c0 c1 (frame_at o.sizes (contents one.map) o.id) all two.keeps
      (wrote_wider (HasBitIn v (λ j. is_new (whole_at o.sizes (contents m) o.id) (whole_at o.sizes (contents one.map) o.id) j ≡ true)) (HasBitIn v (λ j. is_new (whole_at o.sizes (contents m) o.id) (whole_at o.sizes (contents two.map) o.id) j ≡ true)) c0 c1
      (frame_at o.sizes (contents one.map) o.id) bits_first one.bits))
      (wrote_wider (HasBitIn now (λ j. is_new (whole_at o.sizes (contents one.map) o.id) (whole_at o.sizes (contents two.map) o.id) j ≡ true)) (HasBitIn v (λ j. is_new (whole_at o.sizes (contents m) o.id) (whole_at o.sizes (contents two.map) o.id) j ≡ true)) c1 c2 all
      bits_second two.bits)

  pub grown_twice : Grown o v later m (fresh ++ more) told2 c0 c2
  grown_twice = record {
    map = two.map;
    is = two.is;
    owns = two.owns;
    places = two.places ∙ ap (λ (l : List ℕ). l ++ more) one.places ∙ append_assoc (places_at o.sizes (contents m) o.id) fresh more;
    keeps = λ k has. two.keeps k (one.keeps k has);
    were_free = was_free;
    free = λ k.
        two.free k ∙ ap (λ (b : Bool). b && (times k (whole_at o.sizes (contents two.map) o.id) == 0)) (one.free k)
        ∙ both_free (is_free v m k) (times k (whole_at o.sizes (contents one.map) o.id)) (times k (whole_at o.sizes (contents two.map) o.id)) (whole_kept k);
    marks = λ k low.
        new_twice (times k (whole_at o.sizes (contents m) o.id) == 0) (times k (whole_at o.sizes (contents one.map) o.id) == 0) (times k (whole_at o.sizes (contents two.map) o.id) == 0)
        (marked (per_block v) m k) (marked (per_block v) one.map k) (marked (per_block v) two.map k)
        (still_some (times k (whole_at o.sizes (contents m) o.id)) (times k (whole_at o.sizes (contents one.map) o.id)) (whole_grows o v now m fresh told1 c0 c1 one k))
        (still_some (times k (whole_at o.sizes (contents one.map) o.id)) (times k (whole_at o.sizes (contents two.map) o.id)) (whole_kept k))
        (one.marks k low) (now_marks k low);
    counted = λ count. two.counted (one.counted count);
    room = room_twice (room_at o.sizes (contents m) o.id) (room_at o.sizes (contents one.map) o.id) (room_at o.sizes (contents two.map) o.id) (length fresh) (length more) (length (fresh ++ more)) one.room two.room (length-append fresh more);
    others = λ k out none. two.others k (outside_now k out) none ∙ one.others k out (frame_gone k none);
    first = λ none. two.first none ∙ one.first (frame_gone 0 none);
    kept = keeps_twice (contents m o.id) (contents one.map o.id) (contents two.map o.id) one.kept two.kept;
    written = wrote_twice (IsBitmapBlock v) c0 c1 c2 (frame_at o.sizes (contents two.map) o.id) (wrote_more (IsBitmapBlock v) c0 c1 (frame_at o.sizes (contents one.map) o.id) (frame_at o.sizes (contents two.map) o.id) two.keeps one.written)
        (subst (λ (x : Room). AreWritten x c1 c2 (frame_at o.sizes (contents two.map) o.id)) rest two.written);
    bits = bits_twice;
    stays = λ k t. two.stays k (one.stays k t);
    entered = entered_twice;
  }

-- the same of so many blocks
pub has_grown_none : (o : Origin) (v : Room) (m : ℕ → Option (List ℕ)) (told : Option (ℕ → Option (List ℕ))) (old new : ℕ → Bool) → Owns o v [] m → told ≡ Some m → new ≡ old → HasGrown o v v m 0 told old new
has_grown_none o v m told old new owns is same = ([], refl, grown_none o v m owns told is old new same)

pub has_grown_twice : (o : Origin) (v now later : Room) (m : ℕ → Option (List ℕ)) (n k : ℕ) (told1 told2 : Option (ℕ → Option (List ℕ))) (c0 c1 c2 : ℕ → Bool) (one : HasGrown o v now m n told1 c0 c1) → now ≡ record v { tally = now.tally }
    → HasGrown o now later one.2.map k told2 c1 c2 → HasGrown o v later m (n + k) told2 c0 c2
has_grown_twice o v now later m n k told1 told2 c0 c1 c2 one rest two =
    (one.0 ++ two.0, length-append one.0 two.0 ∙ ap₂ (λ (a b : ℕ). a + b) one.1 two.1, grown_twice o v now later m one.0 two.0 told1 told2 c0 c1 c2 one.2 rest two.2)

-- first an array was added, and then a run
pub grown_after : (o : Origin) (v now later : Room) (m : ℕ → Option (List ℕ)) (told1 told2 : Option (ℕ → Option (List ℕ))) (c0 c1 c2 : ℕ → Bool) (one : HasGrown o v now m 0 told1 c0 c1) → now ≡ record v { tally = now.tally } → (r : Result ℕ GrowFault)
    → IfOk r (λ k. HasGrown o now later one.2.map k told2 c1 c2) → IfOk r (λ k. HasGrown o v later m k told2 c0 c2)
grown_after o v now later m told1 told2 c0 c1 c2 one rest (Ok k) two = let e : 0 + k ≡ k = omega arith in subst (λ (n : ℕ). HasGrown o v later m n told2 c0 c2) e (has_grown_twice o v now later m 0 k told1 told2 c0 c1 c2 one rest two)
grown_after o v now later m told1 told2 c0 c1 c2 one rest (Err fault) two = two

-- How far the loop has come: so many blocks are left, or none and few too many are there.
pub record IsGrownSo (o : Origin) (v now : Room) (m : ℕ → Option (List ℕ)) (blocks left : ℕ) (told : Option (ℕ → Option (List ℕ))) (old new : ℕ → Bool) : Type 0 where
  pub count : ℕ
  pub grown : HasGrown o v now m count told old new
  pub exact : 0 < left → count + left ≡ blocks
  pub enough : left ≡ 0 → blocks ≤ count
  pub most : left ≡ 0 → count < blocks + array_length o.sizes
  pub least : left ≡ 0 → (count ≡ blocks) ⊎ UsesDouble o grown.2.map

pub grown_so_none : (o : Origin) (v : Room) (m : ℕ → Option (List ℕ)) (blocks : ℕ) (told : Option (ℕ → Option (List ℕ))) (old : ℕ → Bool) → Owns o v [] m → told ≡ Some m → IsGrownSo o v v m blocks blocks told old old
grown_so_none o v m blocks told old owns is = record {
  count = 0;
  grown = has_grown_none o v m told old old owns is refl;
  exact = λ some. omega arith;
  enough = λ none. omega (arith, none);
  most = λ none. let long = some_array o.sizes in omega (arith, long);
  least = λ none. inl (omega (arith, none));
}

pub grown_so_more : (o : Origin) (v now later : Room) (m : ℕ → Option (List ℕ)) (blocks left after k longest : ℕ) (told1 told2 : Option (ℕ → Option (List ℕ))) (c0 c1 c2 : ℕ → Bool) (so_far : IsGrownSo o v now m blocks left told1 c0 c1) → now ≡ record v { tally = now.tally }
    → (step : HasGrown o now later so_far.grown.2.map k told2 c1 c2) → 0 < left → after ≡ left - k → longest ≤ left → k < longest + array_length o.sizes → (k ≤ longest) ⊎ UsesDouble o step.2.map → IsGrownSo o v later m blocks after told2 c0 c2
unfolding has_grown_twice grown_twice
grown_so_more o v now later m blocks left after k longest told1 told2 c0 c1 c2 so_far rest two some is few most exact = record {
  count = so_far.count + k;
  grown = has_grown_twice o v now later m so_far.count k told1 told2 c0 c1 c2 so_far.grown rest two;
  exact = λ more. let e = so_far.exact some in omega (arith, e, is, more);
  enough = λ none. let e = so_far.exact some in omega (arith, e, is, none);
  most = λ none. let e = so_far.exact some in omega (arith, e, few, most);
  least = λ none. by_side none exact;
}
  where
    by_side : after ≡ 0 → (k ≤ longest) ⊎ UsesDouble o two.2.map → (so_far.count + k ≡ blocks) ⊎ UsesDouble o two.2.map
    by_side none (inl le) = inl (let e = so_far.exact some in omega (arith, e, le, few, is, none))
    by_side none (inr used) = inr used

pub grown_so_far : (o : Origin) (v now : Room) (m : ℕ → Option (List ℕ)) (blocks left : ℕ) (told : Option (ℕ → Option (List ℕ))) (old new : ℕ → Bool) → left ≡ 0 → IsGrownSo o v now m blocks left told old new → HasGrownBy o v now m blocks told old new
grown_so_far o v now m blocks left told old new none so_far = record { count = so_far.count; enough = so_far.enough none; most = so_far.most none; grown = so_far.grown; exact = λ unused. by_side unused (so_far.least none) }
  where
    by_side : ¬ UsesDouble o so_far.grown.2.map → (so_far.count ≡ blocks) ⊎ UsesDouble o so_far.grown.2.map → so_far.count ≡ blocks
    by_side unused (inl e) = e
    by_side unused (inr used) = absurd (unused used)
