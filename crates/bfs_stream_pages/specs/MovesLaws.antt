-- What stays of a volume where pages are written or added.
use Rattle.std.proofs.Common.{◌≡◌, ◌≤◌, ◌<◌, ◌+◌, ◌-◌, ◌*◌, ◌∙◌, ◌≤ℤ◌, pos, ℕ, ℤ, zero, suc, List, [], ◌∷◌, ◌++◌, length, Bool, true, false, ◌&&◌, ◌||◌, Option, refl, sym, ap, ap₂, subst, arith, append_assoc, not, cond}
use Rattle.std.specs.Prelude.{◌==◌}
use Rattle.std.proofs.lemmas.List.{append-nil}
use Rattle.bfs_base.specs.Lists.{times, Has}
use Rattle.bfs_super.specs.Conditions.{natural}
use Rattle.bfs_bitmap.specs.Runs.{Room, is_free, per_block, marked}
use Rattle.bfs_inode.specs.Inode.{Inode, inode_at}
use Rattle.bfs_stream.specs.Sizes.{Origin, Sizes}
use Rattle.bfs_stream.specs.Places.{Levels, levels_at, arrays_of, places_of, places_at, frame_at, whole_at, HasLevels}
use Rattle.bfs_stream.specs.Told.{contents, AreTold}
use Rattle.bfs_stream.specs.Grown.{Owns, Grown, IsOutside}
use Rattle.bfs_stream.proofs.Doubles.{times-append}
use Rattle.bfs_stream.proofs.Taking.{some_test}
use Rattle.bfs_stream.proofs.Finish.{free_same, marked_same, fits_same, counted_same}
use Rattle.bfs_txn.specs.Told.{StaysChanged, with_number}
use Rattle.bfs_stream_pages.specs.Moves.{ChangesFresh, Moved, KeepsInode}

both_free : (b : Bool) (x y : ℕ) → (0 < x → 0 < y) → ((b && (x == 0)) && (y == 0)) ≡ (b && (y == 0))
both_free false x y more = refl
both_free true zero y more = refl
both_free true (suc x) zero more = absurd (omega (arith, more (omega arith)))
both_free true (suc x) (suc y) more = let a = some_test (suc x) (omega arith) in let b = some_test (suc y) (omega arith) in ap₂ (λ (p q : Bool). (true && p) && q) a b ∙ ap (λ (q : Bool). true && q) (sym b)

same_new : (b : Bool) (a : ℕ) → a ≡ cond (b && not b) 1 a
same_new true a = refl
same_new false a = refl

left_true : (b c : Bool) → (b && c) ≡ true → b ≡ true
left_true true c e = refl
left_true false c e = let bad : false ≡ true = e in cc

-- what is new after both steps is new after one of them
new_twice : (p q r : Bool) (a b c : ℕ) → (p ≡ false → q ≡ false) → (q ≡ false → r ≡ false) → b ≡ cond (p && not q) 1 a → c ≡ cond (q && not r) 1 b → c ≡ cond (p && not r) 1 a
new_twice true true true a b c one two f g = g ∙ f
new_twice true true false a b c one two f g = g
new_twice true false false a b c one two f g = g ∙ f
new_twice true false true a b c one two f g = let bad : true ≡ false = two refl in cc
new_twice false false false a b c one two f g = g ∙ f
new_twice false true r a b c one two f g = let bad : true ≡ false = one refl in cc
new_twice false false true a b c one two f g = let bad : true ≡ false = two refl in cc

still_some : (x y : ℕ) → (0 < x → 0 < y) → (x == 0) ≡ false → (y == 0) ≡ false
still_some zero y more e = let bad : true ≡ false = e in cc
still_some (suc x) y more e = some_test y (more (omega arith))

-- of blocks that are there none is free
none_taken : (b : Bool) (n : ℕ) → (0 < n → b ≡ false) → b ≡ (b && (n == 0))
none_taken true zero taken = refl
none_taken false zero taken = refl
none_taken b (suc n) taken = let used = taken (omega arith) in used ∙ ap (λ (c : Bool). c && (suc n == 0)) (sym used)

-- an inode keeps what stands beside its stream where nothing is written, and through two changes
pub keeps_inode_none : (bytes : List ℕ) → KeepsInode bytes bytes
keeps_inode_none bytes = (refl, (refl, refl, refl))

keeps_inode_twice : (a b c : List ℕ) → KeepsInode a b → KeepsInode b c → KeepsInode a c
keeps_inode_twice a b c one two = (two.0 ∙ ap (λ (x : Inode). record x { stream_bytes = (inode_at c).stream_bytes }) one.0, (two.1.0 ∙ one.1.0, two.1.1 ∙ one.1.1, two.1.2 ∙ one.1.2))

-- a stream that grows only moves on
pub moved_grown : (o : Origin) (v now : Room) (m : ℕ → Option (List ℕ)) (fresh : List ℕ) (told : Option (ℕ → Option (List ℕ))) (old new : ℕ → Bool) (g : Grown o v now m fresh told old new) → now ≡ record v { tally = now.tally } → Moved o v now m g.map
moved_grown o v now m fresh told old new g rest = record {
  rest = rest;
  owns = g.owns;
  fresh = fresh;
  places = g.places;
  keeps = g.keeps;
  were_free = g.were_free;
  free = g.free;
  marks = g.marks;
  counted = g.counted;
  others = λ k out none. g.others k out (let parts = times-append k (frame_at o.sizes (contents g.map) o.id) (places_at o.sizes (contents g.map) o.id) in omega (arith, none, parts));
  first = λ none. g.first (let parts = times-append 0 (frame_at o.sizes (contents g.map) o.id) (places_at o.sizes (contents g.map) o.id) in omega (arith, none, parts));
  kept = (g.kept.0, g.kept.2);
}

-- nothing has moved
pub moved_none : (o : Origin) (v : Room) (m : ℕ → Option (List ℕ)) → Owns o v [] m → Moved o v v m m
moved_none o v m owns = record {
  rest = refl;
  owns = owns;
  fresh = [];
  places = sym (append-nil (places_at o.sizes (contents m) o.id));
  keeps = λ k has. has;
  were_free = λ k has none. let some : 0 < times k (whole_at o.sizes (contents m) o.id) = has in absurd (omega (arith, some, none));
  free = λ k. none_taken (is_free v m k) (times k (whole_at o.sizes (contents m) o.id)) (owns.taken k);
  marks = λ k low. same_new (times k (whole_at o.sizes (contents m) o.id) == 0) (marked (per_block v) m k);
  counted = λ count. count;
  others = λ k out none. refl;
  first = λ none. refl;
  kept = keeps_inode_none (contents m o.id);
}

-- what was the stream's still is
pub whole_moves : (o : Origin) (v now : Room) (m map : ℕ → Option (List ℕ)) (g : Moved o v now m map) (k : ℕ) → 0 < times k (whole_at o.sizes (contents m) o.id) → 0 < times k (whole_at o.sizes (contents map) o.id)
whole_moves o v now m map g k some =
    let before = times-append k (frame_at o.sizes (contents m) o.id) (places_at o.sizes (contents m) o.id) in
    let after = times-append k (frame_at o.sizes (contents map) o.id) (places_at o.sizes (contents map) o.id) in
    let longer : times k (places_at o.sizes (contents map) o.id) ≡ times k (places_at o.sizes (contents m) o.id) + times k g.fresh = ap (times k) g.places ∙ times-append k (places_at o.sizes (contents m) o.id) g.fresh in
    by_frame (times k (frame_at o.sizes (contents m) o.id)) refl before after longer
  where
    by_frame : (n : ℕ) → times k (frame_at o.sizes (contents m) o.id) ≡ n
        → times k (whole_at o.sizes (contents m) o.id) ≡ times k (frame_at o.sizes (contents m) o.id) + times k (places_at o.sizes (contents m) o.id)
        → times k (whole_at o.sizes (contents map) o.id) ≡ times k (frame_at o.sizes (contents map) o.id) + times k (places_at o.sizes (contents map) o.id)
        → times k (places_at o.sizes (contents map) o.id) ≡ times k (places_at o.sizes (contents m) o.id) + times k g.fresh
        → 0 < times k (whole_at o.sizes (contents map) o.id)
    by_frame zero e before after longer = omega (arith, some, e, before, after, longer)
    by_frame (suc n) e before after longer = let kept : 0 < times k (frame_at o.sizes (contents map) o.id) = g.keeps k (let h : 0 < times k (frame_at o.sizes (contents m) o.id) = omega (arith, e) in h) in omega (arith, kept, after)

module _ (o : Origin) (v now later : Room) (m mid map : ℕ → Option (List ℕ)) (one : Moved o v now m mid) (two : Moved o now later mid map) where
  whole_kept : (k : ℕ) → 0 < times k (whole_at o.sizes (contents mid) o.id) → 0 < times k (whole_at o.sizes (contents map) o.id)
  whole_kept k some = whole_moves o now later mid map two k some

  none_before : (k : ℕ) → times k (whole_at o.sizes (contents map) o.id) ≡ 0 → times k (whole_at o.sizes (contents mid) o.id) ≡ 0
  none_before k none = by_count (times k (whole_at o.sizes (contents mid) o.id)) refl
    where
      by_count : (n : ℕ) → times k (whole_at o.sizes (contents mid) o.id) ≡ n → times k (whole_at o.sizes (contents mid) o.id) ≡ 0
      by_count zero e = e
      by_count (suc n) e = let kept : 0 < times k (whole_at o.sizes (contents map) o.id) = whole_kept k (let h : 0 < times k (whole_at o.sizes (contents mid) o.id) = omega (arith, e) in h) in absurd (omega (arith, kept, none))

  is_new : (k : ℕ) → Has (whole_at o.sizes (contents map) o.id) k → times k (whole_at o.sizes (contents m) o.id) ≡ 0 → is_free v m k ≡ true
  is_new k has none = by_count (times k (whole_at o.sizes (contents mid) o.id)) refl
    where
      by_count : (n : ℕ) → times k (whole_at o.sizes (contents mid) o.id) ≡ n → is_free v m k ≡ true
      by_count zero e = left_true (is_free v m k) (times k (whole_at o.sizes (contents mid) o.id) == 0) (sym (one.free k) ∙ two.were_free k has e)
      by_count (suc n) e = one.were_free k (let h : 0 < times k (whole_at o.sizes (contents mid) o.id) = omega (arith, e) in h) none

  outside_now : (k : ℕ) → IsOutside v k → IsOutside now k
  outside_now k out = subst (λ (x : Room). IsOutside x k) (sym one.rest) out

  now_marks : (k : ℕ) → k < v.blocks → marked (per_block v) map k ≡ cond ((times k (whole_at o.sizes (contents mid) o.id) == 0) && not (times k (whole_at o.sizes (contents map) o.id) == 0)) 1 (marked (per_block v) mid k)
  now_marks k low =
      subst (λ (x : Room). marked (per_block x) map k ≡ cond ((times k (whole_at o.sizes (contents mid) o.id) == 0) && not (times k (whole_at o.sizes (contents map) o.id) == 0)) 1 (marked (per_block x) mid k)) one.rest
      (two.marks k (subst (λ (x : Room). k < x.blocks) (sym one.rest) low))

  pub moved_twice : Moved o v later m map
  moved_twice = record {
    rest = two.rest ∙ ap (λ (x : Room). record x { tally = later.tally }) one.rest;
    owns = two.owns;
    fresh = one.fresh ++ two.fresh;
    places = two.places ∙ ap (λ (l : List ℕ). l ++ two.fresh) one.places ∙ append_assoc (places_at o.sizes (contents m) o.id) one.fresh two.fresh;
    keeps = λ k has. two.keeps k (one.keeps k has);
    were_free = is_new;
    free = λ k.
        two.free k ∙ ap (λ (b : Bool). b && (times k (whole_at o.sizes (contents map) o.id) == 0)) (one.free k)
        ∙ both_free (is_free v m k) (times k (whole_at o.sizes (contents mid) o.id)) (times k (whole_at o.sizes (contents map) o.id)) (whole_kept k);
    marks = λ k low.
        new_twice (times k (whole_at o.sizes (contents m) o.id) == 0) (times k (whole_at o.sizes (contents mid) o.id) == 0) (times k (whole_at o.sizes (contents map) o.id) == 0)
        (marked (per_block v) m k) (marked (per_block v) mid k) (marked (per_block v) map k)
        (still_some (times k (whole_at o.sizes (contents m) o.id)) (times k (whole_at o.sizes (contents mid) o.id)) (whole_moves o v now m mid one k))
        (still_some (times k (whole_at o.sizes (contents mid) o.id)) (times k (whole_at o.sizes (contents map) o.id)) (whole_kept k))
        (one.marks k low) (now_marks k low);
    counted = λ count. two.counted (one.counted count);
    others = λ k out none. two.others k (outside_now k out) none ∙ one.others k out (none_before k none);
    first = λ none. two.first none ∙ one.first (none_before 0 none);
    kept = keeps_inode_twice (contents m o.id) (contents mid o.id) (contents map o.id) one.kept two.kept;
  }

-- where nothing is the stream's that wasn't, nothing is fresh
pub fresh_none : (o : Origin) (m map : ℕ → Option (List ℕ)) (new : ℕ → Bool) → whole_at o.sizes (contents map) o.id ≡ whole_at o.sizes (contents m) o.id → ChangesFresh o m map new
fresh_none o m map new same k has none = let some : 0 < times k (whole_at o.sizes (contents m) o.id) = subst (λ (l : List ℕ). Has l k) same has in absurd (omega (arith, some, none))

-- what is fresh after both steps is fresh after one of them
pub fresh_twice : (o : Origin) (m mid map : ℕ → Option (List ℕ)) (old new : ℕ → Bool) → ChangesFresh o m mid old → ChangesFresh o mid map new → StaysChanged old new → ChangesFresh o m map new
fresh_twice o m mid map old new one two stays k has none = by_count (times k (whole_at o.sizes (contents mid) o.id)) refl
  where
    by_count : (n : ℕ) → times k (whole_at o.sizes (contents mid) o.id) ≡ n → new k ≡ true
    by_count zero e = two k has e
    by_count (suc n) e = stays k (one k (let h : 0 < times k (whole_at o.sizes (contents mid) o.id) = omega (arith, e) in h) none)

-- what was changed stays so through two steps, where nothing changes, and where a block does
pub stays_twice : (a b c : ℕ → Bool) → StaysChanged a b → StaysChanged b c → StaysChanged a c
stays_twice a b c one two k is = two k (one k is)

pub stays_same : (a b : ℕ → Bool) → b ≡ a → StaysChanged a b
stays_same a b e k is = ap (λ (f : ℕ → Bool). f k) e ∙ is

pub stays_set : (n : ℕ) (old new : ℕ → Bool) → ((k : ℕ) → new k ≡ with_number n old k) → StaysChanged old new
stays_set n old new set k e = set k ∙ by_test (k == n)
  where
    by_test : (b : Bool) → (b || old k) ≡ true
    by_test true = refl
    by_test false = e

-- the levels with another size
abbrev pub with_size : Levels → ℤ → Levels
with_size l n = record l { stream = record l.stream { size = n } }

-- Blocks of the stream were written over, and its levels are the same but for the size.
module _ (o : Origin) (v : Room) (m map : ℕ → Option (List ℕ)) (owns : Owns o v [] m) (same : (k : ℕ) → times k (whole_at o.sizes (contents m) o.id) ≡ 0 → map k ≡ m k) (are : AreTold map (whole_at o.sizes (contents m) o.id))
    (n : ℤ) (levels : levels_at o.sizes (contents map) o.id ≡ with_size (levels_at o.sizes (contents m) o.id) n) (low : pos 0 ≤ℤ n) (high : natural n ≤ o.sizes.block_size * length (places_at o.sizes (contents m) o.id))
    (kept : KeepsInode (contents m o.id) (contents map o.id)) where
  abbrev s : Sizes
  s = o.sizes

  pub places_same : places_at s (contents map) o.id ≡ places_at s (contents m) o.id
  places_same = ap (places_of s) levels

  frame_same : frame_at s (contents map) o.id ≡ frame_at s (contents m) o.id
  unfolding arrays_of
  frame_same = ap (λ (l : Levels). o.id ∷ arrays_of s l) levels

  pub whole_same : whole_at s (contents map) o.id ≡ whole_at s (contents m) o.id
  whole_same = ap₂ (λ (a b : List ℕ). a ++ b) frame_same places_same

  -- blocks with bits are none of the stream's
  stay : (b : ℕ) → per_block v * (b - 1) < v.blocks → map b ≡ m b
  stay b low = same b (by_count (times b (whole_at s (contents m) o.id)) refl)
    where
      by_count : (n : ℕ) → times b (whole_at s (contents m) o.id) ≡ n → times b (whole_at s (contents m) o.id) ≡ 0
      by_count zero e = e
      by_count (suc n) e = let out : v.blocks ≤ per_block v * (b - 1) = owns.outside b (let h : 0 < times b (whole_at s (contents m) o.id) = omega (arith, e) in h) in absurd (omega (arith, out, low))

  pub free_now : (k : ℕ) → is_free v map k ≡ is_free v m k
  free_now k = free_same v m map stay k

  has_back : (k : ℕ) → Has (whole_at s (contents map) o.id) k → Has (whole_at s (contents m) o.id) k
  has_back k has = subst (λ (l : List ℕ). Has l k) whole_same has

  sound : HasLevels s (levels_at s (contents map) o.id)
  sound = subst (HasLevels s) (sym levels) (let h = owns.stands.sound in record {
    direct = h.direct;
    indirect = h.indirect;
    in_indirect = h.in_indirect;
    double = h.double;
    arrays = h.arrays;
    in_double = h.in_double;
    direct_range = h.direct_range;
    indirect_range = h.indirect_range;
    double_range = h.double_range;
    size_low = low;
    size_high = high;
  })

  pub owns_now : Owns o v [] map
  owns_now = record {
    stands = record {
      told = λ k has. are k (let h : 0 < times k (frame_at s (contents map) o.id) = has in let parts = times-append k (frame_at s (contents map) o.id) (places_at s (contents map) o.id) in has_back k (let g : 0 < times k (whole_at s (contents map) o.id) = omega (arith, h, parts) in g));
      sound = sound;
    };
    once = subst (λ (l : List ℕ). (k : ℕ) → times k l ≤ 1) (sym whole_same) owns.once;
    taken = λ k has. free_now k ∙ owns.taken k (has_back k has);
    outside = λ k has. owns.outside k (has_back k has);
    bits = λ k low. free_now k ∙ owns.bits k low;
    fits = fits_same v m map stay owns.fits;
  }

  pub moved_rewritten : Moved o v v m map
  moved_rewritten = record {
    rest = refl;
    owns = owns_now;
    fresh = [];
    places = places_same ∙ sym (append-nil (places_at s (contents m) o.id));
    keeps = λ k has. subst (λ (l : List ℕ). Has l k) (sym frame_same) has;
    were_free = λ k has none. let some : 0 < times k (whole_at s (contents m) o.id) = has_back k has in absurd (omega (arith, some, none));
    free = λ k.
        free_now k ∙ none_taken (is_free v m k) (times k (whole_at s (contents m) o.id)) (owns.taken k)
        ∙ ap (λ (l : List ℕ). is_free v m k && (times k l == 0)) (sym whole_same);
    marks = λ k low.
        marked_same v m map stay k low ∙ same_new (times k (whole_at s (contents m) o.id) == 0) (marked (per_block v) m k)
        ∙ ap (λ (l : List ℕ). cond ((times k (whole_at s (contents m) o.id) == 0) && not (times k l == 0)) 1 (marked (per_block v) m k)) (sym whole_same);
    counted = λ count. counted_same v m map (λ k low. marked_same v m map stay k low) count;
    others = λ k out none. same k (ap (times k) (sym whole_same) ∙ none);
    first = λ none. same 0 (ap (times 0) (sym whole_same) ∙ none);
    kept = kept;
  }
