-- An inode that was made at a block which was taken for it.
use Rattle.std.proofs.Common.{◌≡◌, ◌≢◌, ◌⊎◌, inl, inr, ◌≤◌, ◌<◌, ◌+◌, ◌-◌, ◌*◌, ℕ, pos, List, [], ◌∷◌, ◌++◌, length, Bool, true, false, cond, Option, refl, sym, ◌∙◌, ap, subst, arith}
use Rattle.std.specs.Prelude.{◌==◌, ◌&&◌, nat_lt, unwrap_or, IsSome}
use Rattle.std.specs.List.{flat_map}
use Rattle.std.proofs.lemmas.Bool.{cases_Bool}
use Rattle.std.proofs.lemmas.Int.{ints}
use Rattle.std.proofs.lemmas.List.Elements.{All-nil}
use Rattle.bfs_base.specs.Lists.{times, Has, counted_from}
use Rattle.bfs_bytes.specs.declared.Run.{Run}
use Rattle.bfs_bitmap.specs.Fills.{IsBitmapBlock}
use Rattle.bfs_bitmap.specs.Runs.{Room, per_block, is_free, marked}
use Rattle.bfs_inode.specs.Inode.{Stream, stream_at}
use Rattle.bfs_txn.specs.Told.{with_block}
use Rattle.bfs_stream.specs.Sizes.{Sizes, IsInVolume, IsWhole, first_block}
use Rattle.bfs_stream.specs.Places.{Levels, run_blocks, used_runs, array_runs, fields, levels_at, level_blocks, arrays_of, places_of, frame_at, whole_at, HasLevels}
use Rattle.bfs_stream.specs.Told.{contents}
use Rattle.bfs_stream.specs.Grown.{Owns, Took, IsOutside, AreWritten}
use Rattle.bfs_stream.specs.Faults.{IsNoRunFor}
use Rattle.bfs_stream.specs.declared.fault.GrowFault.{GrowFault}
use Rattle.bfs_stream.specs.declared.fault.GrowFault.TheVariants as grow
use Rattle.bfs_stream_pages.specs.Steps.{IsUndamaged}
use Rattle.bfs_stream.proofs.Arrays.{array_is}
use Rattle.bfs_stream.proofs.Finish.{free_same, marked_same, fits_same, counted_same, is_below}
use Rattle.bfs_stream.proofs.Frames.{has_first, has_left}
use Rattle.bfs_make.specs.Made.{zero_run, no_stream, IsMade, IsNewStream, HasInode, HasBits, HasMade}
use Rattle.bfs_make.specs.declared.making.NewInode.{NewInode}
use Rattle.bfs_make.proofs.Written.{block_here, block_other, bits_stay}

-- a stream without blocks
abbrev no_levels : Levels
no_levels = record { stream = no_stream; table = []; arrays = []; runs = [] }

module _ (s : Sizes) (blocks : ℕ → List ℕ) (id : ℕ) (stream : stream_at (blocks id) ≡ no_stream) where
  no_array : array_runs s blocks zero_run ≡ []
  no_array = array_is s blocks zero_run

  levels_are : levels_at s blocks id ≡ no_levels
  levels_are =
      let table : array_runs s blocks (fields s blocks id).indirect ≡ [] = ap (λ (t : Stream). array_runs s blocks t.indirect) stream ∙ no_array in
      let arrays : array_runs s blocks (fields s blocks id).double_indirect ≡ [] = ap (λ (t : Stream). array_runs s blocks t.double_indirect) stream ∙ no_array in
      let runs : flat_map (array_runs s blocks) (used_runs (array_runs s blocks (fields s blocks id).double_indirect)) ≡ [] = ap (λ (l : List Run). flat_map (array_runs s blocks) (used_runs l)) arrays in
      λ i. record { stream = stream i; table = table i; arrays = arrays i; runs = runs i }

  pub whole_made : whole_at s blocks id ≡ id ∷ []
  unfolding level_blocks arrays_of
  whole_made = ap (λ (l : Levels). (id ∷ arrays_of s l) ++ places_of s l) levels_are

  pub places_made : places_of s (levels_at s blocks id) ≡ []
  unfolding level_blocks
  places_made = ap (places_of s) levels_are

  no_end : pos 0 ≡ pos (s.block_size * 0)
  no_end = ap pos (let z : 0 ≡ s.block_size * 0 = grind arith in z)

  sound_made : HasLevels s no_levels
  unfolding level_blocks
  sound_made = record {
    direct = All-nil (IsInVolume s);
    indirect = inl refl;
    in_indirect = All-nil (IsInVolume s);
    double = inl refl;
    arrays = All-nil (IsWhole s);
    in_double = All-nil (IsWhole s);
    direct_range = no_end;
    indirect_range = no_end;
    double_range = no_end;
    size_low = omega (arith, ints);
    size_high = omega arith;
  }

  pub levels_sound : HasLevels s (levels_at s blocks id)
  levels_sound = subst (HasLevels s) (sym levels_are) sound_made

pub is_only : (k x : ℕ) → Has (x ∷ []) k → k ≡ x
is_only k x has = by_test (cases_Bool (x == k))
  where
    by_test : ((x == k) ≡ true) ⊎ ((x == k) ≡ false) → k ≡ x
    by_test (inl e) = grind (arith, e)
    by_test (inr e) =
        let some : 0 < cond {A = ℕ} (x == k) 1 0 + 0 = has in
        let none : cond {A = ℕ} (x == k) 1 0 ≡ 0 = ap (λ (b : Bool). cond {A = ℕ} b 1 0) e in
        absurd (omega (arith, some, none))

once_only : (k x : ℕ) → times k (x ∷ []) ≤ 1
once_only k x = by_test (x == k)
  where
    by_test : (b : Bool) → cond {A = ℕ} b 1 0 + 0 ≤ 1
    by_test true = omega arith
    by_test false = omega arith

not_there : (k x : ℕ) → times k (x ∷ []) ≡ 0 → k ≢ x
not_there k x none e = let some : 0 < times k (k ∷ []) = has_first k [] in let same : times k (k ∷ []) ≡ times k (x ∷ []) = ap (λ (j : ℕ). times k (j ∷ [])) e in omega (arith, some, same, none)

left_true : (b c : Bool) → (b && c) ≡ true → b ≡ true
left_true true c e = refl
left_true false c e = let bad : false ≡ true = e in cc

not_below : (x y : ℕ) → nat_lt x y ≡ false → y ≤ x
not_below x y e = grind (arith, e)

-- a block that is free holds no bits, and isn't block 0
free_outside : (v : Room) (m : ℕ → Option (List ℕ)) (k : ℕ) → HasBits v m → is_free v m k ≡ true → IsOutside v k
free_outside v m k has free = by_test (cases_Bool (nat_lt (per_block v * (k - 1)) v.blocks))
  where
    by_test : (nat_lt (per_block v * (k - 1)) v.blocks ≡ true) ⊎ (nat_lt (per_block v * (k - 1)) v.blocks ≡ false) → IsOutside v k
    by_test (inl low) = let bad : true ≡ false = sym free ∙ has.bits k (is_below (per_block v * (k - 1)) v.blocks low) in cc
    by_test (inr high) = not_below (per_block v * (k - 1)) v.blocks high

pub free_not_first : (v : Room) (m : ℕ → Option (List ℕ)) (k : ℕ) → HasBits v m → is_free v m k ≡ true → 0 ≢ k
free_not_first v m k has free e =
    let low : k < v.blocks = is_below k v.blocks (left_true (nat_lt k v.blocks) _ free) in
    let z : per_block v * (0 - 1) ≡ 0 = grind arith in
    let used : is_free v m 0 ≡ false = has.bits 0 (omega (arith, low, z)) in
    let bad : true ≡ false = sym free ∙ ap (is_free v m) (sym e) ∙ used in
    cc

module _ (s : Sizes) (v now : Room) (m : ℕ → Option (List ℕ)) (n : NewInode) (told_one : Option (ℕ → Option (List ℕ))) (has : HasBits v m) (took : Took s v now n.address m told_one) (rest : now ≡ record v { tally = now.tally }) (one : n.address.len ≡ 1)
    (told : Option (ℕ → Option (List ℕ))) (inode : HasInode s n took.map told) where
  abbrev id : ℕ
  id = first_block s n.address

  abbrev mid : ℕ → Option (List ℕ)
  mid = took.map

  abbrev map : ℕ → Option (List ℕ)
  map = with_block id inode.block mid

  run_is : run_blocks s n.address ≡ id ∷ []
  run_is = ap (counted_from id) one

  here : contents map id ≡ inode.block
  here = ap (λ (o : Option (List ℕ)). unwrap_or o []) (block_here mid id inode.block)

  stream_here : stream_at (contents map id) ≡ no_stream
  stream_here = ap stream_at here ∙ inode.made.stream

  whole_here : whole_at s (contents map) id ≡ id ∷ []
  whole_here = whole_made s (contents map) id stream_here

  id_free : is_free v m id ≡ true
  id_free = took.were_free id (subst (λ (l : List ℕ). Has l id) (sym run_is) (has_first id []))

  out : IsOutside v id
  out = free_outside v m id has id_free

  out_now : IsOutside now id
  out_now = subst (λ (x : Room). IsOutside x id) (sym rest) out

  free_here : (k : ℕ) → is_free now map k ≡ (is_free v m k && (times k (id ∷ []) == 0))
  free_here k = free_same now mid map (bits_stay now mid id inode.block out_now) k ∙ took.free k ∙ ap (λ (l : List ℕ). is_free v m k && (times k l == 0)) run_is

  used_still : (k : ℕ) → is_free v m k ≡ false → is_free now map k ≡ false
  used_still k used = free_here k ∙ ap (λ (b : Bool). b && (times k (id ∷ []) == 0)) used

  and_false : (b : Bool) → (b && false) ≡ false
  and_false true = refl
  and_false false = refl

  some_times : (x : ℕ) → 0 < x → (x == 0) ≡ false
  some_times x h = grind (arith, h)

  id_used : (k : ℕ) → Has (id ∷ []) k → is_free now map k ≡ false
  id_used k is = free_here k ∙ ap (λ (b : Bool). is_free v m k && b) (some_times (times k (id ∷ [])) is) ∙ and_false (is_free v m k)

  owns_here : Owns (record { id = id; sizes = s }) now [] map
  owns_here = record {
    stands = record {
      told = λ k is.
          let mine : Has (id ∷ []) k = subst (λ (l : List ℕ). Has l k) whole_here (has_left (frame_at s (contents map) id) (places_of s (levels_at s (contents map) id)) k is) in
          subst (λ (j : ℕ). IsSome (map j)) (sym (is_only k id mine)) (subst (λ (o : Option (List ℕ)). IsSome o) (sym (block_here mid id inode.block)) refl);
      sound = levels_sound s (contents map) id stream_here;
    };
    once = λ k. subst (λ (l : List ℕ). times k l ≤ 1) (sym whole_here) (once_only k id);
    taken = λ k is. id_used k (subst (λ (l : List ℕ). Has l k) whole_here is);
    outside = λ k is. subst (IsOutside now) (sym (is_only k id (subst (λ (l : List ℕ). Has l k) whole_here is))) out_now;
    bits = λ k low. used_still k (has.bits k (subst (λ (x : Room). per_block x * (k - 1) < x.blocks) rest low));
    fits = fits_same now mid map (bits_stay now mid id inode.block out_now) took.fits;
  }

  new_stream : IsNewStream (record { id = id; sizes = s }) v now m map
  new_stream = record {
    rest = rest;
    owns = owns_here;
    were_free = λ k is. subst (λ (j : ℕ). is_free v m j ≡ true) (sym (is_only k id (subst (λ (l : List ℕ). Has l k) whole_here is))) id_free;
    free = λ k. free_here k ∙ ap (λ (l : List ℕ). is_free v m k && (times k l == 0)) (sym whole_here);
    marks = λ k low.
        marked_same v mid map (bits_stay v mid id inode.block out) k low ∙ took.marks k low
        ∙ ap (λ (l : List ℕ). cond (times k l == 0) (marked (per_block v) m k) 1) (run_is ∙ sym whole_here);
    counted = λ count. counted_same now mid map (λ k low. marked_same now mid map (bits_stay now mid id inode.block out_now) k low) (took.counted count);
    others = λ k far none. block_other mid id inode.block k (not_there k id (ap (times k) (sym whole_here) ∙ none)) ∙ took.others k far;
    first = block_other mid id inode.block 0 (free_not_first v m id has id_free) ∙ took.first;
  }

  module _ (old between new : ℕ → Bool) (bits : (k : ℕ) → between k ≡ true → (old k ≡ true) ⊎ IsBitmapBlock v k) (set : (k : ℕ) → new k ≡ true → (between k ≡ true) ⊎ (k ≡ id)) (mine : new id ≡ true) where
    wrote : AreWritten v old new (id ∷ [])
    wrote k e = by_set (set k e)
      where
        by_bits : (old k ≡ true) ⊎ IsBitmapBlock v k → (old k ≡ true) ⊎ (IsBitmapBlock v k ⊎ Has (id ∷ []) k)
        by_bits (inl before) = inl before
        by_bits (inr bit) = inr (inl bit)

        by_set : (between k ≡ true) ⊎ (k ≡ id) → (old k ≡ true) ⊎ (IsBitmapBlock v k ⊎ Has (id ∷ []) k)
        by_set (inl before) = by_bits (bits k before)
        by_set (inr is) = inr (inr (subst (λ (j : ℕ). Has (id ∷ []) j) (sym is) (has_first id [])))

    pub has_made : HasMade s v now m n told old new
    has_made = record {
      map = map;
      is = inode.is;
      stream = new_stream;
      whole = whole_here;
      inode = subst (IsMade s.block_size n) (sym here) inode.made;
      long = ap length here ∙ inode.long;
      written = wrote;
      entered = λ k is. subst (λ (j : ℕ). new j ≡ true) (sym (is_only k id (subst (λ (l : List ℕ). Has l k) whole_here is))) mine;
    }

-- a fault without damage is none of a run
pub undamaged_run : (v : Room) (m : ℕ → Option (List ℕ)) (n : ℕ) (fault : GrowFault) → IsUndamaged fault → IsNoRunFor v m n fault
undamaged_run v m n (grow.NoRun wanted free) none = absurd none
undamaged_run v m n (grow.Full room) none = absurd none
undamaged_run v m n (grow.Block fault) fine = fine
