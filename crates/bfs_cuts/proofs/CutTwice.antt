-- A stream that has been cut and then is cut once more.
use Rattle.std.proofs.Common.{◌/◌, ◌≡◌, ◌≤◌, ◌<◌, ◌+◌, ◌-◌, ◌*◌, ◌∙◌, ◌⊎◌, inl, inr, ℕ, zero, suc, List, [], ◌∷◌, ◌++◌, length, Bool, true, false, ◌&&◌, ◌||◌, Option, Some, refl, sym, ap, subst, arith, append_assoc, length-append, not, cond}
use Rattle.std.specs.Prelude.{◌==◌, nat_lt}
use Rattle.std.proofs.lemmas.List.{append-nil, nil_from_length}
use Rattle.bfs_base.specs.Lists.{times, Has}
use Rattle.bfs_super.specs.Conditions.{natural}
use Rattle.bfs_bytes.specs.declared.Run.{Run}
use Rattle.bfs_bitmap.specs.Runs.{Room, is_reserved, per_block, marked}
use Rattle.bfs_bitmap.specs.Fills.{IsBitmapBlock}
use Rattle.bfs_stream.proofs.Seconds.{no_second, nothing_second}
use Rattle.bfs_stream.specs.Sizes.{Sizes, Origin, array_length, IsWhole, table_length}
use Rattle.bfs_stream.specs.Places.{Levels, run_blocks, arrays_of, places_at, frame_at, whole_at, fields, used_runs, blocks_of, array_runs, level_blocks, levels_at, second_arrays}
use Rattle.bfs_stream.specs.Told.{contents, Stands}
use Rattle.bfs_stream.specs.Grown.{Owns, IsOutside, AreWritten, HasWritten, HasBitIn, UsesDouble, is_new}
use Rattle.bfs_stream.specs.Trimmed.{Trimmed, HasTrimmed, HasDropped, HasCut, HasSpare, KeepsLevels, before_last_table, HasNoArrays, MayLose, IsAtEnd, HasTrimmedTo, HasNoEmpty, LeavesGiven, AreMarked}
use Rattle.bfs_stream.proofs.Placed.{length-places, some_blocks}
use Rattle.bfs_stream.proofs.Doubles.{times-append}
use Rattle.bfs_stream.proofs.Frames.{has_left}
use Rattle.bfs_stream.proofs.Equal.{same_map}
use Rattle.bfs_cuts.proofs.CutsDirect.{no_table, no_runs}
use Rattle.bfs_stream.proofs.Finish.{is_below, not_below}
use Rattle.bfs_stream.proofs.Listed.{some_array, double_long}
use Rattle.bfs_stream.proofs.Writes.{wrote_none, wrote_wider, wrote_left, wrote_right, wrote_twice, keeps_none, keeps_twice}
use Rattle.bfs_stream.proofs.Taking.{zero_test, some_test}

none_new : (b c : Bool) → c ≡ (c || (b && not b))
none_new true true = refl
none_new true false = refl
none_new false true = refl
none_new false false = refl

none_marked : (b : Bool) (a : ℕ) → a ≡ cond (b && not b) 0 a
none_marked true a = refl
none_marked false a = refl

module _ (o : Origin) (v : Room) (m : ℕ → Option (List ℕ)) (owns : Owns o v [] m) (told : Option (ℕ → Option (List ℕ))) (is : told ≡ Some m) (old new : ℕ → Bool) (same : new ≡ old) where
  -- nothing was taken
  pub trimmed_none : Trimmed o v v m [] told old new
  trimmed_none = record {
    map = m;
    is = is;
    owns = owns;
    places = sym (append-nil (places_at o.sizes (contents m) o.id));
    keeps = λ k has. has;
    fewer = λ k. omega arith;
    reserved = λ k. none_new (times k (whole_at o.sizes (contents m) o.id) == 0) (is_reserved v.given k);
    marks = λ k low. none_marked (times k (whole_at o.sizes (contents m) o.id) == 0) (marked (per_block v) m k);
    counted = λ marks count. count;
    free = λ k. refl;
    touched = [];
    still = λ k has. let none : 0 < times k [] = has in absurd (omega (arith, none));
    others = λ k out none. refl;
    first = λ none. refl;
    written = wrote_none (IsBitmapBlock v) old new [] same;
    bits = wrote_none (HasBitIn v (λ j. is_new (whole_at o.sizes (contents m) o.id) (whole_at o.sizes (contents m) o.id) j ≡ true)) old new [] same;
    kept = keeps_none (contents m o.id);
  }

-- what is gone after both cuts is gone after one of them: `p` none before, `q` none between, `r` none after
gone_twice : (p q r : Bool) → (p ≡ true → q ≡ true) → (q ≡ true → r ≡ true) → ((q && not p) || (r && not q)) ≡ (r && not p)
gone_twice true true true one two = refl
gone_twice true true false one two = let bad : false ≡ true = two refl in cc
gone_twice true false r one two = let bad : false ≡ true = one refl in cc
gone_twice false true true one two = refl
gone_twice false true false one two = let bad : false ≡ true = two refl in cc
gone_twice false false true one two = refl
gone_twice false false false one two = refl

marked_twice : (p q r : Bool) (a b c : ℕ) → (p ≡ true → q ≡ true) → (q ≡ true → r ≡ true) → b ≡ cond (q && not p) 0 a → c ≡ cond (r && not q) 0 b → c ≡ cond (r && not p) 0 a
marked_twice true true true a b c one two f g = g ∙ f
marked_twice true true false a b c one two f g = let bad : false ≡ true = two refl in cc
marked_twice true false r a b c one two f g = let bad : false ≡ true = one refl in cc
marked_twice false true true a b c one two f g = g ∙ f
marked_twice false true false a b c one two f g = let bad : false ≡ true = two refl in cc
marked_twice false false true a b c one two f g = g
marked_twice false false false a b c one two f g = g ∙ f

gone_first : (p q r : Bool) → (q && not p) ≡ true → (q ≡ true → r ≡ true) → (r && not p) ≡ true
gone_first p true r e more = ap (λ (b : Bool). b && not p) (more refl) ∙ e
gone_first p false r e more = let bad : false ≡ true = e in cc

gone_second : (p q r : Bool) → (r && not q) ≡ true → (p ≡ true → q ≡ true) → (r && not p) ≡ true
gone_second false q true e more = refl
gone_second false q false e more = let bad : false ≡ true = e in cc
gone_second true q r e more = sym (ap (λ (b : Bool). r && not b) (more refl)) ∙ e

or_assoc : (a b c : Bool) → ((a || b) || c) ≡ (a || (b || c))
or_assoc true b c = refl
or_assoc false b c = refl

still_none : (x y : ℕ) → x ≤ y → (y == 0) ≡ true → (x == 0) ≡ true
still_none x zero le e = zero_test x (omega (arith, le))
still_none x (suc y) le e = let bad : false ≡ true = sym (some_test (suc y) (omega arith)) ∙ e in cc

module _ (o : Origin) (v now later : Room) (m : ℕ → Option (List ℕ)) (gone more : List ℕ) (told1 told2 : Option (ℕ → Option (List ℕ))) (c0 c1 c2 : ℕ → Bool) (one : Trimmed o v now m gone told1 c0 c1) (rest : now ≡ record v { given = now.given; tally = now.tally }) (two : Trimmed o now later one.map more told2 c1 c2)
    (stay : (k : ℕ) → Has one.touched k → Has (frame_at o.sizes (contents two.map) o.id) k) where
  none_left : (k : ℕ) → times k (one.touched ++ two.touched) ≡ 0 → times k one.touched ≡ 0
  none_left k none = omega (arith, times-append k one.touched two.touched, none)

  none_right : (k : ℕ) → times k (one.touched ++ two.touched) ≡ 0 → times k two.touched ≡ 0
  none_right k none = omega (arith, times-append k one.touched two.touched, none)

  all_still : (k : ℕ) → Has (one.touched ++ two.touched) k → Has (frame_at o.sizes (contents two.map) o.id) k
  all_still k has = by_count (times k one.touched) refl
    where
      by_count : (n : ℕ) → times k one.touched ≡ n → Has (frame_at o.sizes (contents two.map) o.id) k
      by_count zero e = two.still k (let all : 0 < times k (one.touched ++ two.touched) = has in let some : 0 < times k two.touched = omega (arith, times-append k one.touched two.touched, all, e) in some)
      by_count (suc n) e = stay k (let some : 0 < times k one.touched = omega (arith, e) in some)

  now_marks : (k : ℕ) → k < v.blocks → marked (per_block v) two.map k ≡ cond ((times k (whole_at o.sizes (contents two.map) o.id) == 0) && not (times k (whole_at o.sizes (contents one.map) o.id) == 0)) 0 (marked (per_block v) one.map k)
  now_marks k low =
      subst (λ (x : Room). marked (per_block x) two.map k ≡ cond ((times k (whole_at o.sizes (contents two.map) o.id) == 0) && not (times k (whole_at o.sizes (contents one.map) o.id) == 0)) 0 (marked (per_block x) one.map k)) rest
      (two.marks k (subst (λ (x : Room). k < x.blocks) (sym rest) low))

  -- what is the stream's still is still used
  still_marked : AreMarked v (whole_at o.sizes (contents m) o.id) m → AreMarked now (whole_at o.sizes (contents one.map) o.id) one.map
  still_marked marks k low has =
      let below : k < v.blocks = subst (λ (x : Room). k < x.blocks) rest low in
      let some : 0 < times k (whole_at o.sizes (contents one.map) o.id) = has in
      let few = one.fewer k in
      let before : 0 < times k (whole_at o.sizes (contents m) o.id) = omega (arith, some, few) in
      subst (λ (x : Room). marked (per_block x) one.map k ≡ 1) (sym rest)
      (one.marks k below
      ∙ ap (λ (b : Bool). cond (b && not (times k (whole_at o.sizes (contents m) o.id) == 0)) 0 (marked (per_block v) m k)) (some_test (times k (whole_at o.sizes (contents one.map) o.id)) some)
      ∙ marks k below before)

  bits_first : (k : ℕ) → HasBitIn v (λ j. is_new (whole_at o.sizes (contents one.map) o.id) (whole_at o.sizes (contents m) o.id) j ≡ true) k → HasBitIn v (λ j. is_new (whole_at o.sizes (contents two.map) o.id) (whole_at o.sizes (contents m) o.id) j ≡ true) k
  bits_first k bit = (
    bit.0,
    gone_first (times bit.0 (whole_at o.sizes (contents m) o.id) == 0) (times bit.0 (whole_at o.sizes (contents one.map) o.id) == 0) (times bit.0 (whole_at o.sizes (contents two.map) o.id) == 0) bit.1
        (still_none (times bit.0 (whole_at o.sizes (contents two.map) o.id)) (times bit.0 (whole_at o.sizes (contents one.map) o.id)) (two.fewer bit.0)),
    bit.2,
  )

  bits_second : (k : ℕ) → HasBitIn now (λ j. is_new (whole_at o.sizes (contents two.map) o.id) (whole_at o.sizes (contents one.map) o.id) j ≡ true) k → HasBitIn v (λ j. is_new (whole_at o.sizes (contents two.map) o.id) (whole_at o.sizes (contents m) o.id) j ≡ true) k
  bits_second k bit = (
    bit.0,
    gone_second (times bit.0 (whole_at o.sizes (contents m) o.id) == 0) (times bit.0 (whole_at o.sizes (contents one.map) o.id) == 0) (times bit.0 (whole_at o.sizes (contents two.map) o.id) == 0) bit.1
        (still_none (times bit.0 (whole_at o.sizes (contents one.map) o.id)) (times bit.0 (whole_at o.sizes (contents m) o.id)) (one.fewer bit.0)),
    subst (λ (x : Room). k ≡ 1 + bit.0 / per_block x) rest bit.2,
  )

  bits_twice : HasWritten (HasBitIn v (λ j. is_new (whole_at o.sizes (contents two.map) o.id) (whole_at o.sizes (contents m) o.id) j ≡ true)) c0 c2 (one.touched ++ two.touched)
  bits_twice =
      wrote_twice (HasBitIn v (λ j. is_new (whole_at o.sizes (contents two.map) o.id) (whole_at o.sizes (contents m) o.id) j ≡ true)) c0 c1 c2 (one.touched ++ two.touched)
      (wrote_left (HasBitIn v (λ j. is_new (whole_at o.sizes (contents two.map) o.id) (whole_at o.sizes (contents m) o.id) j ≡ true)) c0 c1 one.touched two.touched (wrote_wider (HasBitIn v (λ j. is_new (whole_at o.sizes (contents one.map) o.id) (whole_at o.sizes (contents m) o.id) j ≡ true)) (HasBitIn v (λ j. is_new (whole_at o.sizes (contents two.map) o.id) (whole_at o.sizes (contents m) o.id) j ≡ true)) c0 c1 one.touched bits_first one.bits))
      (wrote_right (HasBitIn v (λ j. is_new (whole_at o.sizes (contents two.map) o.id) (whole_at o.sizes (contents m) o.id) j ≡ true)) c1 c2 one.touched two.touched (wrote_wider (HasBitIn now (λ j. is_new (whole_at o.sizes (contents two.map) o.id) (whole_at o.sizes (contents one.map) o.id) j ≡ true)) (HasBitIn v (λ j. is_new (whole_at o.sizes (contents two.map) o.id) (whole_at o.sizes (contents m) o.id) j ≡ true)) c1 c2 two.touched bits_second two.bits))

  pub trimmed_twice : Trimmed o v later m (more ++ gone) told2 c0 c2
  trimmed_twice = record {
    map = two.map;
    is = two.is;
    owns = two.owns;
    places = one.places ∙ ap (λ (l : List ℕ). l ++ gone) two.places ∙ append_assoc (places_at o.sizes (contents two.map) o.id) more gone;
    keeps = λ k has. one.keeps k (two.keeps k has);
    fewer = λ k. let a = one.fewer k in let b = two.fewer k in omega (arith, a, b);
    reserved = λ k.
        two.reserved k
        ∙ ap (λ (b : Bool). b || ((times k (whole_at o.sizes (contents two.map) o.id) == 0) && not (times k (whole_at o.sizes (contents one.map) o.id) == 0))) (one.reserved k)
        ∙ or_assoc (is_reserved v.given k) ((times k (whole_at o.sizes (contents one.map) o.id) == 0) && not (times k (whole_at o.sizes (contents m) o.id) == 0)) ((times k (whole_at o.sizes (contents two.map) o.id) == 0) && not (times k (whole_at o.sizes (contents one.map) o.id) == 0))
        ∙ ap (λ (b : Bool). is_reserved v.given k || b)
        (gone_twice (times k (whole_at o.sizes (contents m) o.id) == 0) (times k (whole_at o.sizes (contents one.map) o.id) == 0) (times k (whole_at o.sizes (contents two.map) o.id) == 0)
        (still_none (times k (whole_at o.sizes (contents one.map) o.id)) (times k (whole_at o.sizes (contents m) o.id)) (one.fewer k))
        (still_none (times k (whole_at o.sizes (contents two.map) o.id)) (times k (whole_at o.sizes (contents one.map) o.id)) (two.fewer k)));
    marks = λ k low.
        marked_twice (times k (whole_at o.sizes (contents m) o.id) == 0) (times k (whole_at o.sizes (contents one.map) o.id) == 0) (times k (whole_at o.sizes (contents two.map) o.id) == 0)
        (marked (per_block v) m k) (marked (per_block v) one.map k) (marked (per_block v) two.map k)
        (still_none (times k (whole_at o.sizes (contents one.map) o.id)) (times k (whole_at o.sizes (contents m) o.id)) (one.fewer k))
        (still_none (times k (whole_at o.sizes (contents two.map) o.id)) (times k (whole_at o.sizes (contents one.map) o.id)) (two.fewer k))
        (one.marks k low) (now_marks k low);
    counted = λ marks count. two.counted (λ k low has. still_marked marks k low has) (one.counted marks count);
    free = λ k. two.free k ∙ one.free k;
    touched = one.touched ++ two.touched;
    still = all_still;
    others = λ k out none. two.others k (subst (λ (x : Room). IsOutside x k) (sym rest) out) (none_right k none) ∙ one.others k out (none_left k none);
    first = λ none. two.first (none_right 0 none) ∙ one.first (none_left 0 none);
    written = wrote_twice (IsBitmapBlock v) c0 c1 c2 (one.touched ++ two.touched) (wrote_left (IsBitmapBlock v) c0 c1 one.touched two.touched one.written)
        (wrote_right (IsBitmapBlock v) c1 c2 one.touched two.touched (subst (λ (x : Room). AreWritten x c1 c2 two.touched) rest two.written));
    bits = bits_twice;
    kept = keeps_twice (contents m o.id) (contents one.map o.id) (contents two.map o.id) one.kept two.kept;
  }

-- the same of so many blocks
pub has_trimmed_none : (o : Origin) (v : Room) (m : ℕ → Option (List ℕ)) (told : Option (ℕ → Option (List ℕ))) (old new : ℕ → Bool) → Owns o v [] m → told ≡ Some m → new ≡ old → HasTrimmed o v v m 0 told old new
has_trimmed_none o v m told old new owns is same = ([], refl, trimmed_none o v m owns told is old new same)

pub has_trimmed_twice : (o : Origin) (v now later : Room) (m : ℕ → Option (List ℕ)) (n k : ℕ) (told1 told2 : Option (ℕ → Option (List ℕ))) (c0 c1 c2 : ℕ → Bool) (one : HasTrimmed o v now m n told1 c0 c1) → now ≡ record v { given = now.given; tally = now.tally }
    → (two : HasTrimmed o now later one.2.map k told2 c1 c2) → ((x : ℕ) → Has one.2.touched x → Has (frame_at o.sizes (contents two.2.map) o.id) x) → HasTrimmed o v later m (n + k) told2 c0 c2
has_trimmed_twice o v now later m n k told1 told2 c0 c1 c2 one rest two stay =
    (two.0 ++ one.0, (let a = length-append two.0 one.0 in let b = one.1 in let d = two.1 in let z : length (two.0 ++ one.0) ≡ n + k = omega (arith, a, b, d) in z), trimmed_twice o v now later m one.0 two.0 told1 told2 c0 c1 c2 one.2 rest two.2 stay)

pub has_cut_none : (o : Origin) (v : Room) (m : ℕ → Option (List ℕ)) (told : Option (ℕ → Option (List ℕ))) (old new : ℕ → Bool) → Owns o v [] m → told ≡ Some m → new ≡ old → HasCut o v v m 0 told old new
unfolding has_trimmed_none trimmed_none
has_cut_none o v m told old new owns is same = (has_trimmed_none o v m told old new owns is same, record { indirect = refl; double = refl; arrays = refl; direct = λ some. refl; table = λ some. refl })

-- how many blocks are left
pub left_long : (o : Origin) (v now : Room) (m : ℕ → Option (List ℕ)) (n : ℕ) (told : Option (ℕ → Option (List ℕ))) (old new : ℕ → Bool) (one : HasTrimmed o v now m n told old new) → length (places_at o.sizes (contents m) o.id) ≡ length (places_at o.sizes (contents one.2.map) o.id) + n
left_long o v now m n told old new one = ap length one.2.places ∙ length-append (places_at o.sizes (contents one.2.map) o.id) one.0 ∙ ap (λ (k : ℕ). length (places_at o.sizes (contents one.2.map) o.id) + k) one.1

-- what the size doesn't need, it doesn't need after the first of them are gone
pub may_after : (o : Origin) (v now : Room) (m : ℕ → Option (List ℕ)) (n k : ℕ) (told : Option (ℕ → Option (List ℕ))) (old new : ℕ → Bool) (one : HasTrimmed o v now m n told old new) → MayLose o m (n + k) → MayLose o one.2.map k
may_after o v now m n k told old new one may =
    let long = left_long o v now m n told old new one in
    let e : length (places_at o.sizes (contents m) o.id) - (n + k) ≡ length (places_at o.sizes (contents one.2.map) o.id) - k = omega (arith, long) in
    subst (λ (x : ℕ). natural (fields o.sizes (contents one.2.map) o.id).size ≤ o.sizes.block_size * x) e
    (subst (λ z. natural z ≤ o.sizes.block_size * (length (places_at o.sizes (contents m) o.id) - (n + k))) (sym one.2.kept.1) may)

-- fewer blocks may go too
pub may_fewer : (o : Origin) (m : ℕ → Option (List ℕ)) (n k : ℕ) → k ≤ n → MayLose o m n → MayLose o m k
may_fewer o m n k le may = larger (natural (fields o.sizes (contents m) o.id).size) o.sizes.block_size (length (places_at o.sizes (contents m) o.id) - n) (length (places_at o.sizes (contents m) o.id) - k) may (omega (arith, le))
  where
    larger : (size b x y : ℕ) → size ≤ b * x → x ≤ y → size ≤ b * y
    larger size b x y h g = grind (arith, h, g)

-- where there are no arrays, none names nothing
pub no_empty_none : (o : Origin) (m : ℕ → Option (List ℕ)) → HasNoArrays o m → HasNoEmpty o m
no_empty_none o m none = record { indirect = inl none.0; double = inl none.1; tables = λ some. let e : length (second_arrays o.sizes (contents m) o.id) ≡ 0 = ap length (no_second o m none.1) in absurd (omega (arith, e, some)) }

some_table : (o : Origin) (m : ℕ → Option (List ℕ)) → 0 < length (used_runs (array_runs o.sizes (contents m) (fields o.sizes (contents m) o.id).indirect)) → 0 < length (level_blocks o.sizes (array_runs o.sizes (contents m) (fields o.sizes (contents m) o.id).indirect))
unfolding level_blocks
some_table o m some = some_blocks o.sizes (array_runs o.sizes (contents m) (fields o.sizes (contents m) o.id).indirect) some

-- a cut inside a level leaves the arrays
pub arrays_stay : (s : Sizes) (l next : Levels) → KeepsLevels l next → arrays_of s next ≡ arrays_of s l
unfolding arrays_of
arrays_stay s l next keeps =
    ap (λ (r : Run). run_blocks s r ++ (run_blocks s next.stream.double_indirect ++ blocks_of s (used_runs next.arrays))) keeps.indirect
    ∙ ap (λ (r : Run). run_blocks s l.stream.indirect ++ (run_blocks s r ++ blocks_of s (used_runs next.arrays))) keeps.double
    ∙ ap (λ (x : List Run). run_blocks s l.stream.indirect ++ (run_blocks s l.stream.double_indirect ++ blocks_of s (used_runs x))) keeps.arrays

module _ (o : Origin) (v now : Room) (m : ℕ → Option (List ℕ)) (n : ℕ) (told : Option (ℕ → Option (List ℕ))) (old new : ℕ → Bool) (cut : HasCut o v now m n told old new) where
  abbrev map : ℕ → Option (List ℕ)
  map = cut.0.2.map

  abbrev l : Levels
  l = levels_at o.sizes (contents m) o.id

  pub frame_stays : (k : ℕ) → Has (frame_at o.sizes (contents m) o.id) k → Has (frame_at o.sizes (contents cut.0.2.map) o.id) k
  frame_stays k has = subst (λ (x : List ℕ). Has (o.id ∷ x) k) (sym (arrays_stay o.sizes l (levels_at o.sizes (contents map) o.id) cut.1)) has

  long : length (places_at o.sizes (contents m) o.id) ≡ length (places_at o.sizes (contents map) o.id) + n
  long = left_long o v now m n told old new cut.0

  -- a cut by what is left lies inside a level too
  pub spare_after : (most : ℕ) → n ≤ most → HasSpare o m most → HasSpare o cut.0.2.map (most - n)
  spare_after most few (inl none) = inl (ap (λ (r : Run). r.len) cut.1.indirect ∙ none.0, ap (λ (r : Run). r.len) cut.1.double ∙ none.1)
  spare_after most few (inr (inl table)) = by_len (fields o.sizes (contents m) o.id).indirect.len refl
    where
      no_double : (fields o.sizes (contents map) o.id).double_indirect.len ≡ 0
      no_double = ap (λ (r : Run). r.len) cut.1.double ∙ table.0

      by_len : (k : ℕ) → (fields o.sizes (contents m) o.id).indirect.len ≡ k → HasSpare o map (most - n)
      by_len zero e = inl (ap (λ (r : Run). r.len) cut.1.indirect ∙ e, no_double)
      by_len (suc k) e =
          let same : length (level_blocks o.sizes (fields o.sizes (contents map) o.id).direct) ≡ length (level_blocks o.sizes l.stream.direct) = ap (λ (x : List Run). length (level_blocks o.sizes x)) (cut.1.direct (inl (omega (arith, e)))) in
          let more = table.1 in
          let a = long in
          inr (inl (no_double, (let z : length (level_blocks o.sizes (fields o.sizes (contents map) o.id).direct) + (most - n) < length (places_at o.sizes (contents map) o.id) = omega (arith, same, more, a, few) in z)))
  spare_after most few (inr (inr tables)) =
      let some = tables.0 in
      let more = tables.1 in
      let a = long in
      let len : (fields o.sizes (contents map) o.id).double_indirect.len ≡ l.stream.double_indirect.len = ap (λ (r : Run). r.len) cut.1.double in
      let same : before_last_table o map ≡ before_last_table o m =
      ap (λ (x : List Run). length (level_blocks o.sizes x) + length (level_blocks o.sizes (levels_at o.sizes (contents map) o.id).table) + array_length o.sizes * (table_length o.sizes * (length (second_arrays o.sizes (contents map) o.id) - 1))) (cut.1.direct (inr some))
      ∙ ap (λ (x : List Run). length (level_blocks o.sizes l.stream.direct) + length (level_blocks o.sizes x) + array_length o.sizes * (table_length o.sizes * (length (second_arrays o.sizes (contents map) o.id) - 1))) (cut.1.table some)
      ∙ ap (λ (x : List Run). length (level_blocks o.sizes l.stream.direct) + length (level_blocks o.sizes l.table) + array_length o.sizes * (table_length o.sizes * (length (used_runs x) - 1))) cut.1.arrays in
      inr (inr ((let z : 0 < (fields o.sizes (contents map) o.id).double_indirect.len = omega (arith, some, len) in z), (let z : before_last_table o map + (most - n) < length (places_at o.sizes (contents map) o.id) = omega (arith, same, more, a, few) in z)))

-- where a cut lies inside a level, no array names nothing
pub no_empty : (o : Origin) (m : ℕ → Option (List ℕ)) (most : ℕ) → Stands o m → HasSpare o m most → HasNoEmpty o m
no_empty o m most stands (inl none) = no_empty_none o m none
no_empty o m most stands (inr (inl table)) =
    let none = table.0 in
    let more = table.1 in
    let sum = length-places o.sizes (contents m) o.id in
    let x : length (level_blocks o.sizes (levels_at o.sizes (contents m) o.id).runs) ≡ 0 = ap length (nothing_second o m none) in
    record {
      indirect = inr (let z : 0 < length (level_blocks o.sizes (levels_at o.sizes (contents m) o.id).table) = omega (arith, more, sum, x) in z);
      double = inl none;
      tables = λ some. let e : length (second_arrays o.sizes (contents m) o.id) ≡ 0 = ap length (no_second o m none) in absurd (omega (arith, e, some));
    }
no_empty o m most stands (inr (inr tables)) =
    let more = tables.1 in
    let sum = length-places o.sizes (contents m) o.id in
    let own : length (level_blocks o.sizes (levels_at o.sizes (contents m) o.id).runs) ≡ array_length o.sizes * length (used_runs (levels_at o.sizes (contents m) o.id).runs) = double_long o m stands in
    let some : 0 < length (level_blocks o.sizes (levels_at o.sizes (contents m) o.id).runs) = omega (arith, more, sum) in
    let few : array_length o.sizes * (table_length o.sizes * (length (second_arrays o.sizes (contents m) o.id) - 1)) < array_length o.sizes * length (used_runs (levels_at o.sizes (contents m) o.id).runs) = omega (arith, more, sum, own) in
    record {
      indirect = full_before stands.sound.double tables.0;
      double = inr some;
      tables = λ h. less_of (array_length o.sizes) (table_length o.sizes * (length (second_arrays o.sizes (contents m) o.id) - 1)) (length (used_runs (levels_at o.sizes (contents m) o.id).runs)) few;
    }
  where
    less_of : (a x y : ℕ) → a * x < a * y → x < y
    less_of a x y h = grind (arith, h)

    full_before : ((fields o.sizes (contents m) o.id).double_indirect.len ≡ 0)
        ⊎ (IsWhole o.sizes (fields o.sizes (contents m) o.id).double_indirect × (0 < length (used_runs (array_runs o.sizes (contents m) (fields o.sizes (contents m) o.id).indirect)))
        × (length (used_runs (array_runs o.sizes (contents m) (fields o.sizes (contents m) o.id).indirect)) ≡ length (array_runs o.sizes (contents m) (fields o.sizes (contents m) o.id).indirect)))
        → 0 < (fields o.sizes (contents m) o.id).double_indirect.len → ((fields o.sizes (contents m) o.id).indirect.len ≡ 0) ⊎ (0 < length (level_blocks o.sizes (array_runs o.sizes (contents m) (fields o.sizes (contents m) o.id).indirect)))
    full_before (inl none) array = absurd (omega (arith, none, array))
    full_before (inr full) array = inr (some_table o m full.1)

-- How far the loop has come: so many blocks are still to go.
pub record IsTrimmedSo (o : Origin) (v now : Room) (m : ℕ → Option (List ℕ)) (blocks left : ℕ) (told : Option (ℕ → Option (List ℕ))) (old new : ℕ → Bool) : Type 0 where
  pub count : ℕ
  pub trimmed : HasTrimmed o v now m count told old new
  pub sum : count + left ≡ blocks
  pub may : MayLose o trimmed.2.map left
  pub spare : HasSpare o trimmed.2.map left
  pub frame : (k : ℕ) → Has (frame_at o.sizes (contents m) o.id) k → Has (frame_at o.sizes (contents trimmed.2.map) o.id) k

pub trimmed_so_none : (o : Origin) (v : Room) (m : ℕ → Option (List ℕ)) (blocks : ℕ) (told : Option (ℕ → Option (List ℕ))) (old : ℕ → Bool) → Owns o v [] m → told ≡ Some m → MayLose o m blocks → HasSpare o m blocks → IsTrimmedSo o v v m blocks blocks told old old
unfolding has_trimmed_none trimmed_none
trimmed_so_none o v m blocks told old owns is may spare = record { count = 0; trimmed = has_trimmed_none o v m told old old owns is refl; sum = omega arith; may = may; spare = spare; frame = λ k has. has }

pub trimmed_so_more : (o : Origin) (v now later : Room) (m : ℕ → Option (List ℕ)) (blocks left after k : ℕ) (told1 told2 : Option (ℕ → Option (List ℕ))) (c0 c1 c2 : ℕ → Bool) (so_far : IsTrimmedSo o v now m blocks left told1 c0 c1) → now ≡ record v { given = now.given; tally = now.tally }
    → (step : HasCut o now later so_far.trimmed.2.map k told2 c1 c2) → after ≡ left - k → k ≤ left → IsTrimmedSo o v later m blocks after told2 c0 c2
unfolding has_trimmed_twice trimmed_twice
trimmed_so_more o v now later m blocks left after k told1 told2 c0 c1 c2 so_far rest two is few = record {
  count = so_far.count + k;
  trimmed = has_trimmed_twice o v now later m so_far.count k told1 told2 c0 c1 c2 so_far.trimmed rest two.0 (λ x has. frame_stays o now later so_far.trimmed.2.map k told2 c1 c2 two x (so_far.trimmed.2.still x has));
  sum = let e = so_far.sum in omega (arith, e, is, few);
  spare = subst (λ (x : ℕ). HasSpare o two.0.2.map x) (sym is) (spare_after o now later so_far.trimmed.2.map k told2 c1 c2 two left few so_far.spare);
  frame = λ x has. frame_stays o now later so_far.trimmed.2.map k told2 c1 c2 two x (so_far.frame x has);
  may = let e : left ≡ k + after = omega (arith, is, few) in may_after o now later so_far.trimmed.2.map k after told2 c1 c2 two.0 (subst (λ (n : ℕ). MayLose o so_far.trimmed.2.map n) e so_far.may);
}

by_most : (o : Origin) (m now : ℕ → Option (List ℕ)) (left blocks count before : ℕ) → IsAtEnd o m now left → count + left ≡ blocks → blocks ≤ before → before ≡ length (places_at o.sizes (contents m) o.id) + count
    → length (places_at o.sizes (contents m) o.id) ≡ length (places_at o.sizes (contents now) o.id) + 0 → length (places_at o.sizes (contents now) o.id) < before - blocks + array_length o.sizes
by_most o m now left blocks count before (inl none) sum le a b = let long = some_array o.sizes in omega (arith, a, b, sum, none, long, le)
by_most o m now left blocks count before (inr (inl empty)) sum le a b = let long = some_array o.sizes in omega (arith, b, empty, long)
by_most o m now left blocks count before (inr (inr whole)) sum le a b = let few = whole.0 in omega (arith, a, b, sum, few, le)

by_exact : (o : Origin) (m now : ℕ → Option (List ℕ)) (left blocks count before : ℕ) → IsAtEnd o m now left → ¬ UsesDouble o now → count + left ≡ blocks → blocks ≤ before → before ≡ length (places_at o.sizes (contents m) o.id) + count
    → length (places_at o.sizes (contents m) o.id) ≡ length (places_at o.sizes (contents now) o.id) + 0 → length (places_at o.sizes (contents now) o.id) ≡ before - blocks
by_exact o m now left blocks count before (inl none) unused sum le a b = omega (arith, a, b, sum, none, le)
by_exact o m now left blocks count before (inr (inl empty)) unused sum le a b = omega (arith, a, b, sum, empty, le)
by_exact o m now left blocks count before (inr (inr whole)) unused sum le a b = absurd (unused whole.1)

pub trimmed_so_far : (o : Origin) (v now later : Room) (m : ℕ → Option (List ℕ)) (blocks left : ℕ) (told1 told2 : Option (ℕ → Option (List ℕ))) (c0 c1 c2 : ℕ → Bool) (so_far : IsTrimmedSo o v now m blocks left told1 c0 c1) → now ≡ record v { given = now.given; tally = now.tally }
    → (step : HasCut o now later so_far.trimmed.2.map 0 told2 c1 c2) → IsAtEnd o so_far.trimmed.2.map step.0.2.map left → blocks ≤ length (places_at o.sizes (contents m) o.id)
    → (to : HasTrimmedTo o v later m (length (places_at o.sizes (contents m) o.id) - blocks) told2 c0 c2) × ((k : ℕ) → Has (frame_at o.sizes (contents m) o.id) k → Has (frame_at o.sizes (contents to.trimmed.map) o.id) k) × HasNoEmpty o to.trimmed.map
unfolding trimmed_twice
trimmed_so_far o v now later m blocks left told1 told2 c0 c1 c2 so_far rest cut end le =
    let two = cut.0 in
    let kept = frame_stays o now later so_far.trimmed.2.map 0 told2 c1 c2 cut in
    let named : HasNoEmpty o two.2.map = no_empty o two.2.map (left - 0) two.2.owns.stands (spare_after o now later so_far.trimmed.2.map 0 told2 c1 c2 cut left (omega arith) so_far.spare) in
    let a = left_long o v now m so_far.count told1 c0 c1 so_far.trimmed in
    let b = left_long o now later so_far.trimmed.2.map 0 told2 c1 c2 two in
    let sum = so_far.sum in
    let all = trimmed_twice o v now later m so_far.trimmed.0 two.0 told1 told2 c0 c1 c2 so_far.trimmed.2 rest two.2 (λ x has. kept x (so_far.trimmed.2.still x has)) in (
      record {
        gone = two.0 ++ so_far.trimmed.0;
        trimmed = all;
        few = λ few.
            let d = length-append two.0 so_far.trimmed.0 in
            let e = two.1 in
            let f = so_far.trimmed.1 in
            nil_from_length (two.0 ++ so_far.trimmed.0) (omega (arith, d, e, f, few, le, sum));
        enough = λ enough. omega (arith, a, b, sum, le);
        most = λ enough. by_most o so_far.trimmed.2.map two.2.map left blocks so_far.count (length (places_at o.sizes (contents m) o.id)) end sum le a b;
        exact = λ enough unused. by_exact o so_far.trimmed.2.map two.2.map left blocks so_far.count (length (places_at o.sizes (contents m) o.id)) end unused sum le a b;
        empty = λ fewer. named;
      },
      λ x has. kept x (so_far.frame x has),
      named,
    )

-- a stream that has no more stays
pub trimmed_to_none : (o : Origin) (v : Room) (m : ℕ → Option (List ℕ)) (blocks : ℕ) (told : Option (ℕ → Option (List ℕ))) (old new : ℕ → Bool) → Owns o v [] m → told ≡ Some m → new ≡ old → length (places_at o.sizes (contents m) o.id) ≤ blocks → HasTrimmedTo o v v m blocks told old new
unfolding trimmed_none
trimmed_to_none o v m blocks told old new owns is same le = record {
  gone = [];
  trimmed = trimmed_none o v m owns told is old new same;
  few = λ few. refl;
  enough = λ enough. enough;
  most = λ enough. let long = some_array o.sizes in omega (arith, le, long);
  exact = λ enough unused. omega (arith, le, enough);
  empty = λ fewer. absurd (omega (arith, le, fewer));
}

-- blocks of the volume or with bits alone were changed, also by a second call
pub changed_again : (s : Sizes) (v now : Room) (a b c : ℕ → Bool) → now ≡ record v { given = now.given; tally = now.tally } → ((k : ℕ) → b k ≡ true → (a k ≡ true) ⊎ (IsBitmapBlock v k ⊎ (k < s.blocks)))
    → ((k : ℕ) → c k ≡ true → (b k ≡ true) ⊎ (IsBitmapBlock now k ⊎ (k < s.blocks))) → (k : ℕ) → c k ≡ true → (a k ≡ true) ⊎ (IsBitmapBlock v k ⊎ (k < s.blocks))
changed_again s v now a b c rest one two k e = by_side (two k e)
  where
    by_side : (b k ≡ true) ⊎ (IsBitmapBlock now k ⊎ (k < s.blocks)) → (a k ≡ true) ⊎ (IsBitmapBlock v k ⊎ (k < s.blocks))
    by_side (inl before) = one k before
    by_side (inr (inl bits)) = inr (inl (subst (λ (x : Room). IsBitmapBlock x k) rest bits))
    by_side (inr (inr low)) = inr (inr low)

-- where no direct run is used and there are no arrays, the stream has no blocks
pub no_places : (o : Origin) (m : ℕ → Option (List ℕ)) → HasNoArrays o m → length (used_runs (fields o.sizes (contents m) o.id).direct) ≡ 0 → length (places_at o.sizes (contents m) o.id) ≡ 0
unfolding level_blocks
no_places o m none empty =
    let a : length (level_blocks o.sizes (fields o.sizes (contents m) o.id).direct) ≡ 0 = ap (λ (x : List Run). length (blocks_of o.sizes x)) (nil_from_length (used_runs (fields o.sizes (contents m) o.id).direct) empty) in
    let b : length (level_blocks o.sizes (array_runs o.sizes (contents m) (fields o.sizes (contents m) o.id).indirect)) ≡ 0 = ap length (no_table o m none) in
    let c : length (level_blocks o.sizes (levels_at o.sizes (contents m) o.id).runs) ≡ 0 = ap length (no_runs o m none) in
    omega (arith, length-places o.sizes (contents m) o.id, a, b, c)

-- where runs under double indirect are used, the level has blocks
pub uses_double : (o : Origin) (m : ℕ → Option (List ℕ)) → 0 < length (used_runs (levels_at o.sizes (contents m) o.id).runs) → UsesDouble o m
unfolding level_blocks
uses_double o m some = some_blocks o.sizes (levels_at o.sizes (contents m) o.id).runs some

-- so many runs as a count of them says
pub count_is : (n x : ℕ) → n ≤ 12 → (n < 12 → x ≡ n) → (n ≡ 12 → x ≡ 12) → x ≡ n
count_is n x few below full = by_test (nat_lt n 12) refl
  where
    by_test : (b : Bool) → nat_lt n 12 ≡ b → x ≡ n
    by_test true e = below (is_below n 12 e)
    by_test false e = let h = not_below n 12 e in let z : n ≡ 12 = omega (arith, h, few) in full z ∙ sym z

-- where a cut lies inside a level, a run of the last level that has an array is used
pub spare_table : (o : Origin) (m : ℕ → Option (List ℕ)) (most : ℕ) → 0 < (fields o.sizes (contents m) o.id).indirect.len → (fields o.sizes (contents m) o.id).double_indirect.len ≡ 0 → HasSpare o m most
    → length (used_runs (array_runs o.sizes (contents m) (fields o.sizes (contents m) o.id).indirect)) ≡ 0 → ⊥
unfolding level_blocks
spare_table o m most some none (inl no_arrays) empty = let e = no_arrays.0 in omega (arith, some, e)
spare_table o m most some none (inr (inl table)) empty =
    let more = table.1 in
    let sum = length-places o.sizes (contents m) o.id in
    let x : length (level_blocks o.sizes (levels_at o.sizes (contents m) o.id).runs) ≡ 0 = ap length (nothing_second o m none) in
    let i : length (level_blocks o.sizes (levels_at o.sizes (contents m) o.id).table) ≡ 0 = ap (λ (l : List Run). length (blocks_of o.sizes l)) (nil_from_length (used_runs (array_runs o.sizes (contents m) (fields o.sizes (contents m) o.id).indirect)) empty) in
    omega (arith, more, sum, x, i)
spare_table o m most some none (inr (inr tables)) empty = let e = tables.0 in omega (arith, none, e)

pub spare_double : (o : Origin) (m : ℕ → Option (List ℕ)) (most : ℕ) → 0 < (fields o.sizes (contents m) o.id).double_indirect.len → HasSpare o m most → length (used_runs (levels_at o.sizes (contents m) o.id).runs) ≡ 0 → ⊥
unfolding level_blocks
spare_double o m most some (inl no_arrays) empty = let e = no_arrays.1 in omega (arith, some, e)
spare_double o m most some (inr (inl table)) empty = let e = table.0 in omega (arith, some, e)
spare_double o m most some (inr (inr tables)) empty =
    let more = tables.1 in
    let sum = length-places o.sizes (contents m) o.id in
    let x : length (level_blocks o.sizes (levels_at o.sizes (contents m) o.id).runs) ≡ 0 = ap (λ (l : List Run). length (blocks_of o.sizes l)) (nil_from_length (used_runs (levels_at o.sizes (contents m) o.id).runs) empty) in
    omega (arith, more, sum, x)

-- what went whole first, and then the cut inside a level
pub trimmed_to_after : (o : Origin) (v now later : Room) (m : ℕ → Option (List ℕ)) (n left blocks : ℕ) (told1 told2 : Option (ℕ → Option (List ℕ))) (c0 c1 c2 : ℕ → Bool) (one : HasTrimmed o v now m n told1 c0 c1) → now ≡ record v { given = now.given; tally = now.tally }
    → (two : HasTrimmedTo o now later one.2.map (length (places_at o.sizes (contents one.2.map) o.id) - left) told2 c1 c2) → ((k : ℕ) → Has (frame_at o.sizes (contents one.2.map) o.id) k → Has (frame_at o.sizes (contents two.trimmed.map) o.id) k)
    → HasNoEmpty o two.trimmed.map → left ≡ blocks - n → n ≤ blocks → 0 < blocks → blocks ≤ length (places_at o.sizes (contents m) o.id) → HasTrimmedTo o v later m (length (places_at o.sizes (contents m) o.id) - blocks) told2 c0 c2
unfolding trimmed_twice
trimmed_to_after o v now later m n left blocks told1 told2 c0 c1 c2 one rest two frame empty left_is few some le =
    let a = left_long o v now m n told1 c0 c1 one in record {
      gone = two.gone ++ one.0;
      trimmed = trimmed_twice o v now later m one.0 two.gone told1 told2 c0 c1 c2 one.2 rest two.trimmed (λ k has. frame k (one.2.still k has));
      few = λ none. absurd (omega (arith, none, some, le));
      enough = λ h. let e = two.enough (omega (arith, a)) in omega (arith, e, a, left_is, few, le);
      most = λ h. let e = two.most (omega (arith, a)) in omega (arith, e, a, left_is, few, le);
      exact = λ h unused. let e = two.exact (omega (arith, a)) unused in omega (arith, e, a, left_is, few, le);
      empty = λ fewer. empty;
    }

-- what was given back is as it was
pub leaves_given : (o : Origin) (v now : Room) (m n : ℕ → Option (List ℕ)) (gone : List ℕ) (told : Option (ℕ → Option (List ℕ))) (old new : ℕ → Bool) → Owns o v [] m → (t : Trimmed o v now m gone told old new) → told ≡ Some n → LeavesGiven o m n old new
leaves_given o v now m n gone told old new owns t is k has none = (ap (λ (f : ℕ → Option (List ℕ)). f k) (same_map n t.map told is t.is) ∙ t.others k (owns.outside k has) untouched, λ e. by_side (t.written k e))
  where
    untouched : times k t.touched ≡ 0
    untouched = by_count (times k t.touched) refl
      where
        by_count : (c : ℕ) → times k t.touched ≡ c → times k t.touched ≡ 0
        by_count zero e = e
        by_count (suc c) e =
            let some : 0 < times k (whole_at o.sizes (contents t.map) o.id) = has_left (frame_at o.sizes (contents t.map) o.id) (places_at o.sizes (contents t.map) o.id) k (t.still k (let h : 0 < times k t.touched = omega (arith, e) in h)) in
            let gone : times k (whole_at o.sizes (contents t.map) o.id) ≡ 0 = ap (λ (f : ℕ → Option (List ℕ)). times k (whole_at o.sizes (contents f) o.id)) (same_map t.map n told t.is is) ∙ none in
            absurd (omega (arith, some, gone))

    by_side : (old k ≡ true) ⊎ (IsBitmapBlock v k ⊎ Has t.touched k) → old k ≡ true
    by_side (inl before) = before
    by_side (inr (inl bits)) = let out : v.blocks ≤ per_block v * (k - 1) = owns.outside k has in let low = bits.1 in absurd (omega (arith, out, low))
    by_side (inr (inr mine)) = let some : 0 < times k t.touched = mine in let e = untouched in absurd (omega (arith, some, e))

-- nothing went whole
pub nothing_dropped : (o : Origin) (v : Room) (m : ℕ → Option (List ℕ)) (told : Option (ℕ → Option (List ℕ))) (old new : ℕ → Bool) (most : ℕ) → Owns o v [] m → told ≡ Some m → new ≡ old → HasSpare o m most → (one : HasDropped o v v m 0 told old new) × HasSpare o one.0.2.map (most - 0)
unfolding has_trimmed_none trimmed_none
nothing_dropped o v m told old new most owns is same spare =
    let e : most ≡ most - 0 = omega arith in
    ((has_trimmed_none o v m told old new owns is same, λ k has. let none : 0 < times k [] = has in absurd (omega (arith, none))), subst (λ (n : ℕ). HasSpare o m n) e spare)

pub nothing_trimmed : (o : Origin) (v : Room) (m : ℕ → Option (List ℕ)) (told : Option (ℕ → Option (List ℕ))) (old new : ℕ → Bool) (most : ℕ) → Owns o v [] m → told ≡ Some m → new ≡ old → HasSpare o m most → (one : HasTrimmed o v v m 0 told old new) × HasSpare o one.2.map (most - 0)
nothing_trimmed o v m told old new most owns is same spare = let done = nothing_dropped o v m told old new most owns is same spare in (done.0.0, done.1)

-- a level went whole
pub as_dropped : (o : Origin) (v now : Room) (m : ℕ → Option (List ℕ)) (n k most : ℕ) (told : Option (ℕ → Option (List ℕ))) (mid old new : ℕ → Bool) → n ≡ k → mid ≡ old → (one : HasDropped o v now m n told mid new) → HasNoArrays o one.0.2.map → (two : HasDropped o v now m k told old new) × HasSpare o two.0.2.map (most - k)
as_dropped o v now m n k most told mid old new e f one none =
    let done : (two : HasDropped o v now m n told mid new) × HasSpare o two.0.2.map (most - n) = (one, inl none) in
    subst (λ (x : ℕ). (two : HasDropped o v now m x told old new) × HasSpare o two.0.2.map (most - x)) e (subst (λ (x : ℕ → Bool). (two : HasDropped o v now m n told x new) × HasSpare o two.0.2.map (most - n)) f done)

-- both levels went whole
pub both_dropped : (o : Origin) (v now later : Room) (m : ℕ → Option (List ℕ)) (n k all left most : ℕ) (told1 told2 : Option (ℕ → Option (List ℕ))) (c0 c1 c2 : ℕ → Bool) (one : HasTrimmed o v now m n told1 c0 c1) → now ≡ record v { given = now.given; tally = now.tally }
    → (two : HasTrimmed o now later one.2.map k told2 c1 c2) → ((x : ℕ) → Has one.2.touched x → Has (frame_at o.sizes (contents two.2.map) o.id) x) → n + k ≡ all → most ≡ n + left → HasSpare o two.2.map (left - k)
    → (done : HasTrimmed o v later m all told2 c0 c2) × HasSpare o done.2.map (most - all)
unfolding has_trimmed_twice trimmed_twice
both_dropped o v now later m n k all left most told1 told2 c0 c1 c2 one rest two stay sum parts spare =
    let e : left - k ≡ most - (n + k) = omega (arith, parts) in
    let done : (done : HasTrimmed o v later m (n + k) told2 c0 c2) × HasSpare o done.2.map (most - (n + k)) = (has_trimmed_twice o v now later m n k told1 told2 c0 c1 c2 one rest two stay, subst (λ (x : ℕ). HasSpare o two.2.map x) e spare) in
    subst (λ (x : ℕ). (done : HasTrimmed o v later m x told2 c0 c2) × HasSpare o done.2.map (most - x)) sum done
