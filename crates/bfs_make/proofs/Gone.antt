-- An inode was given back: its stream was emptied, cut to nothing, and its block given back.
use Rattle.std.proofs.Common.{◌≡◌, ◌⊎◌, inl, inr, ◌≤◌, ◌<◌, ◌+◌, ◌-◌, ◌*◌, ◌∙◌, ℕ, zero, suc, List, [], ◌∷◌, ◌++◌, Bool, true, false, cond, not, ◌&&◌, ◌||◌, Option, refl, sym, ap, subst, arith}
use Rattle.std.specs.Prelude.{◌==◌, nat_lt}
use Rattle.std.proofs.lemmas.Bool.{cases_Bool}
use Rattle.bfs_base.specs.Lists.{times, Has, IsOnce}
use Rattle.bfs_bitmap.specs.Fills.{IsBitmapBlock}
use Rattle.bfs_bitmap.specs.Runs.{Room, IsCounted, per_block, is_free, is_reserved, marked}
use Rattle.bfs_stream.specs.Sizes.{Origin}
use Rattle.bfs_stream.specs.Places.{arrays_at, places_at, frame_at, whole_at}
use Rattle.bfs_stream.specs.Told.{contents}
use Rattle.bfs_stream.specs.Grown.{Owns, IsOutside, AreWritten, is_new}
use Rattle.bfs_stream.specs.Trimmed.{AreMarked, Gave}
use Rattle.bfs_stream.proofs.Finish.{free_same, marked_same, counted_same, is_below}
use Rattle.bfs_stream.proofs.Frames.{has_first, has_left}
use Rattle.bfs_stream.proofs.Taking.{zero_test, some_test}
use Rattle.bfs_stream.proofs.Writes.{wrote_twice}
use Rattle.bfs_make.specs.Given.{HasEmptied, HasStripped, HasGivenBack}
use Rattle.bfs_make.proofs.News.{is_only}

module _ (o : Origin) (v : Room) (m : ℕ → Option (List ℕ)) (told : Option (ℕ → Option (List ℕ))) (old new : ℕ → Bool) (owns : Owns o v [] m) (e : HasEmptied o v m told old new) where
  abbrev whole : List ℕ
  whole = whole_at o.sizes (contents m) o.id

  pub mine : Has whole o.id
  mine = has_left (frame_at o.sizes (contents m) o.id) (places_at o.sizes (contents m) o.id) o.id (has_first o.id (arrays_at o.sizes (contents m) o.id))

  -- no block with bits was written
  stay : (b : ℕ) → per_block v * (b - 1) < v.blocks → e.map b ≡ m b
  stay b low = by_count (times b (o.id ∷ [])) refl
    where
      by_count : (n : ℕ) → times b (o.id ∷ []) ≡ n → e.map b ≡ m b
      by_count zero z = e.others b z
      by_count (suc n) z =
          let at = is_only b o.id (let h : 0 < times b (o.id ∷ []) = omega (arith, z) in h) in
          let out = owns.outside b (subst (Has whole) (sym at) mine) in
          absurd (omega (arith, out, low))

  pub emptied_free : (k : ℕ) → is_free v e.map k ≡ is_free v m k
  emptied_free k = free_same v m e.map stay k

  pub emptied_marks : (k : ℕ) → k < v.blocks → marked (per_block v) e.map k ≡ marked (per_block v) m k
  emptied_marks k low = marked_same v m e.map stay k low

  pub emptied_counted : IsCounted v m → IsCounted v e.map
  emptied_counted count = counted_same v m e.map emptied_marks count

-- what is reserved since, by tests of one block: isn't it the inode, and isn't it one of the whole
reserved_since : (r other out : Bool) → (other ≡ false → out ≡ false) → ((r || (other && not out)) || not other) ≡ (r || not out)
reserved_since true other out more = refl
reserved_since false true true more = refl
reserved_since false true false more = refl
reserved_since false false true more = let bad : true ≡ false = more refl in cc
reserved_since false false false more = refl

marks_since : (other out : Bool) (a : ℕ) → (other ≡ false → out ≡ false) → cond other (cond (other && not out) 0 a) 0 ≡ cond out a 0
marks_since true true a more = refl
marks_since true false a more = refl
marks_since false true a more = let bad : true ≡ false = more refl in cc
marks_since false false a more = refl

still_some : (x y : ℕ) → (0 < x → 0 < y) → (x == 0) ≡ false → (y == 0) ≡ false
still_some zero y more e = let bad : true ≡ false = e in cc
still_some (suc x) y more e = some_test y (more (omega arith))

-- a block that was given back wasn't free and isn't
given_free : (low marked now reserved then : Bool) (n : ℕ) → (n ≡ 0 → (now ≡ marked) × (then ≡ reserved)) → (0 < n → then ≡ true) → (0 < n → (low && (marked && not reserved)) ≡ false) → (low && (now && not then)) ≡ (low && (marked && not reserved))
given_free low marked now reserved then zero same gone used = let s = same refl in ap (λ (b : Bool). low && (b && not then)) s.0 ∙ ap (λ (b : Bool). low && (marked && not b)) s.1
given_free low marked now reserved then (suc n) same gone used =
    ap (λ (b : Bool). low && (now && not b)) (gone (omega arith)) ∙ none low now ∙ sym (used (omega arith))
  where
    none : (a b : Bool) → (a && (b && not true)) ≡ false
    none true true = refl
    none true false = refl
    none false b = refl

or_true : (b : Bool) → (b || true) ≡ true
or_true true = refl
or_true false = refl

or_false : (b : Bool) → (b || false) ≡ b
or_false true = refl
or_false false = refl

module _ (o : Origin) (v mid now : Room) (m : ℕ → Option (List ℕ)) (told1 told2 told3 : Option (ℕ → Option (List ℕ))) (old new1 new2 new3 : ℕ → Bool) (owns : Owns o v [] m) (e : HasEmptied o v m told1 old new1)
    (s : HasStripped o v mid e.map told2 new1 new2) (rest2 : mid ≡ record v { given = mid.given; tally = mid.tally }) (gave : Gave mid now (o.id ∷ []) s.map told3) (rest3 : now ≡ record mid { given = now.given; tally = now.tally })
    (bits : (k : ℕ) → new3 k ≡ true → (new2 k ≡ true) ⊎ IsBitmapBlock mid k) where
  abbrev own : List ℕ
  own = whole_at o.sizes (contents m) o.id

  more : (k : ℕ) → 0 < times k (o.id ∷ []) → 0 < times k own
  more k has = subst (Has own) (sym (is_only k o.id has)) (mine o v m told1 old new1 owns e)

  marks_mid : (k : ℕ) → k < v.blocks → marked (per_block v) s.map k ≡ cond (is_new (o.id ∷ []) own k) 0 (marked (per_block v) m k)
  marks_mid k low =
      s.marks k low ∙ ap (λ (l : List ℕ). cond (is_new (o.id ∷ []) l k) 0 (marked (per_block v) e.map k)) e.whole
      ∙ ap (λ (n : ℕ). cond (is_new (o.id ∷ []) own k) 0 n) (emptied_marks o v m told1 old new1 owns e k low)

  marks_last : (k : ℕ) → k < v.blocks → marked (per_block v) gave.map k ≡ cond (times k (o.id ∷ []) == 0) (marked (per_block v) s.map k) 0
  marks_last k low = subst (λ (x : Room). marked (per_block x) gave.map k ≡ cond (times k (o.id ∷ []) == 0) (marked (per_block x) s.map k) 0) rest2 (gave.marks k (subst (λ (x : Room). k < x.blocks) (sym rest2) low))

  -- the inode was none of the free blocks
  used : (k : ℕ) → 0 < times k (o.id ∷ []) → is_free mid s.map k ≡ false
  used k has = s.owns.taken k (subst (λ (l : List ℕ). Has l k) (sym s.whole) has)

  free_last : (k : ℕ) → is_free now gave.map k ≡ is_free mid s.map k
  free_last k = ap (λ (x : Room). is_free x gave.map k) rest3 ∙ by_low (nat_lt k mid.blocks) refl
    where
      by_low : (b : Bool) → nat_lt k mid.blocks ≡ b → (nat_lt k mid.blocks && ((marked (per_block mid) gave.map k == 0) && not (is_reserved now.given k))) ≡ is_free mid s.map k
      by_low false t = ap (λ (b : Bool). b && ((marked (per_block mid) gave.map k == 0) && not (is_reserved now.given k))) t ∙ sym (ap (λ (b : Bool). b && ((marked (per_block mid) s.map k == 0) && not (is_reserved mid.given k))) t)
      by_low true t =
          given_free (nat_lt k mid.blocks) (marked (per_block mid) s.map k == 0) (marked (per_block mid) gave.map k == 0) (is_reserved mid.given k) (is_reserved now.given k) (times k (o.id ∷ []))
          (λ none. (
            ap (λ (n : ℕ). n == 0) (gave.marks k (is_below k mid.blocks t) ∙ ap (λ (b : Bool). cond b (marked (per_block mid) s.map k) 0) (zero_test (times k (o.id ∷ [])) none)),
            gave.reserved k ∙ ap (λ (b : Bool). is_reserved mid.given k || not b) (zero_test (times k (o.id ∷ [])) none) ∙ or_false (is_reserved mid.given k),
          ))
          (λ some. gave.reserved k ∙ ap (λ (b : Bool). is_reserved mid.given k || not b) (some_test (times k (o.id ∷ [])) some) ∙ or_true (is_reserved mid.given k))
          (used k)

  outside_mid : (k : ℕ) → IsOutside v k → IsOutside mid k
  outside_mid k out = subst (λ (x : Room). IsOutside x k) (sym rest2) out

  counted_last : AreMarked v own m → IsCounted v m → IsCounted now gave.map
  counted_last marks count =
      let marked_mid : AreMarked v (whole_at o.sizes (contents e.map) o.id) e.map = λ k low has. emptied_marks o v m told1 old new1 owns e k low ∙ marks k low (subst (λ (l : List ℕ). Has l k) e.whole has) in
      gave.counted (λ k. subst (λ (l : List ℕ). times k l ≤ 1) s.whole (s.owns.once k))
      (λ k low has.
      let below : k < v.blocks = subst (λ (x : Room). k < x.blocks) rest2 low in
      let one : is_new (o.id ∷ []) own k ≡ false = ap (λ (b : Bool). b && not (times k own == 0)) (some_test (times k (o.id ∷ [])) has) in
      subst (λ (x : Room). marked (per_block x) s.map k ≡ 1) (sym rest2) (marks_mid k below ∙ ap (λ (b : Bool). cond b 0 (marked (per_block v) m k)) one ∙ marks k below (more k has)))
      (s.counted marked_mid (emptied_counted o v m told1 old new1 owns e count))

  wrote_bits : AreWritten v new2 new3 (o.id ∷ [])
  wrote_bits k t = by_side (bits k t)
    where
      by_side : (new2 k ≡ true) ⊎ IsBitmapBlock mid k → (new2 k ≡ true) ⊎ (IsBitmapBlock v k ⊎ Has (o.id ∷ []) k)
      by_side (inl before) = inl before
      by_side (inr bit) = inr (inl (subst (λ (x : Room). IsBitmapBlock x k) rest2 bit))

  pub given_back : HasGivenBack o v now m told3 old new3
  given_back = record {
    map = gave.map;
    is = gave.is;
    fits = gave.fits;
    reserved = λ k.
        gave.reserved k
        ∙ ap (λ (b : Bool). b || not (times k (o.id ∷ []) == 0)) (s.reserved k ∙ ap (λ (l : List ℕ). is_reserved v.given k || is_new (o.id ∷ []) l k) e.whole)
        ∙ reserved_since (is_reserved v.given k) (times k (o.id ∷ []) == 0) (times k own == 0) (still_some (times k (o.id ∷ [])) (times k own) (more k));
    marks = λ k low.
        marks_last k low ∙ ap (λ (n : ℕ). cond (times k (o.id ∷ []) == 0) n 0) (marks_mid k low)
        ∙ marks_since (times k (o.id ∷ []) == 0) (times k own == 0) (marked (per_block v) m k) (still_some (times k (o.id ∷ [])) (times k own) (more k));
    counted = counted_last;
    free = λ k. free_last k ∙ s.free k ∙ emptied_free o v m told1 old new1 owns e k;
    others = λ k out none. gave.others k (outside_mid k out) ∙ s.others k out none ∙ e.others k none;
    first = λ none. gave.first ∙ s.first none ∙ e.others 0 none;
    written = wrote_twice (IsBitmapBlock v) old new2 new3 (o.id ∷ []) (wrote_twice (IsBitmapBlock v) old new1 new2 (o.id ∷ []) e.written s.written) wrote_bits;
  }
