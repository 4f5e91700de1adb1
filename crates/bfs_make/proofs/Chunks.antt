-- The blocks of a stream get its bytes one after the other.
use Rattle.std.proofs.Common.{◌≡◌, ◌≢◌, ◌⊎◌, inl, inr, ◌≤◌, ◌<◌, ◌+◌, ◌-◌, ◌*◌, min, ℕ, zero, suc, List, [], ◌∷◌, ◌++◌, length, take, drop, Bool, true, false, cond, Option, Some, refl, sym, ◌∙◌, ap, ap₂, subst, arith, length-take, length-drop, length-append}
use Rattle.std.specs.Prelude.{◌==◌, nat_lt, replicate, unwrap_or, slice_get}
use Rattle.std.specs.List.{flat_map}
use Rattle.std.proofs.lemmas.Bool.{cases_Bool}
use Rattle.std.proofs.lemmas.Grind.{flat_map-append}
use Rattle.std.proofs.lemmas.List.{take_all, drop_all, take-append-le, length-replicate, append-nil}
use Rattle.std.proofs.Math.Seq.{take-add, take-append-add, take-append_seam}
use Rattle.bfs_base.specs.Lists.{times, Has, IsOnce}
use Rattle.bfs_txn.specs.Told.{with_block}
use Rattle.bfs_stream.specs.Sizes.{Origin}
use Rattle.bfs_stream.specs.Places.{places_at, frame_at, whole_at}
use Rattle.bfs_stream.specs.Told.{contents, Stands}
use Rattle.bfs_stream.proofs.Doubles.{times-append}
use Rattle.bfs_stream.proofs.Frames.{has_first, joined_same}
use Rattle.bfs_stream_pages.specs.BytesLaws.{length_all}
use Rattle.bfs_stream_pages.specs.Steps.{HasFilled, IsToldTo}
use Rattle.bfs_stream_pages.proofs.Filled.{still, places, told_more}
use Rattle.bfs_make.specs.Filled.{chunk, padded, IsFilledTo, IsFilled}
use Rattle.bfs_make.proofs.Written.{block_here, block_other}

-- the bytes of a block, by where they begin and end
pub chunk_is : (bytes : List ℕ) (size from stop : ℕ) → from < length bytes → stop ≡ min (length bytes) (from + size) → take (stop - from) (drop from bytes) ≡ take size (drop from bytes)
chunk_is bytes size from stop low e = by_side (cases_Bool (nat_lt (length bytes) (from + size)))
  where
    by_side : (nat_lt (length bytes) (from + size) ≡ true) ⊎ (nat_lt (length bytes) (from + size) ≡ false) → take (stop - from) (drop from bytes) ≡ take size (drop from bytes)
    by_side (inl over) =
        let short : length bytes < from + size = grind (arith, over) in
        let l = length-drop from bytes in
        let a : take (stop - from) (drop from bytes) ≡ drop from bytes = take_all (stop - from) (drop from bytes) (omega (arith, l, e, short, low)) in
        a ∙ sym (take_all size (drop from bytes) (omega (arith, l, short)))
    by_side (inr whole) =
        let long : from + size ≤ length bytes = grind (arith, whole) in
        ap (λ (n : ℕ). take n (drop from bytes)) (let z : stop - from ≡ size = omega (arith, e, long) in z)

pub chunk_none : (bytes : List ℕ) (size from : ℕ) → length bytes ≤ from → drop (length bytes) bytes ≡ take size (drop from bytes)
chunk_none bytes size from high =
    let a : drop (length bytes) bytes ≡ [] = drop_all (length bytes) bytes (omega arith) in
    let b : drop from bytes ≡ [] = drop_all from bytes high in
    a ∙ sym (ap (take size) b ∙ take_all {A = ℕ} size [] (omega arith))

pub length_padded : (size : ℕ) (part : List ℕ) → length part ≤ size → length (padded size part) ≡ size
length_padded size part short =
    let a = length-append part (replicate (size - length part) 0) in
    let b = length-replicate {A = ℕ} (size - length part) 0 in
    omega (arith, a, b, short)

pub chunk_short : (size : ℕ) (bytes : List ℕ) (at : ℕ) → length (chunk size bytes at) ≤ size
chunk_short size bytes at = let a = length-take size (drop (size * at) bytes) in omega (arith, a)

-- the bytes that blocks have so far, with those of one block more
module _ (size start : ℕ) (bytes x : List ℕ) (long : length x ≡ start) (so_far : take (length bytes) x ≡ take start bytes) where
  abbrev part : List ℕ
  part = take size (drop start bytes)

  abbrev block : List ℕ
  block = padded size part

  part_long : length part ≡ min size (length bytes - start)
  part_long = length-take size (drop start bytes) ∙ ap (min size) (length-drop start bytes)

  -- as many of the block's bytes as are left
  first_of : length bytes - start ≤ size → take (length bytes - start) block ≡ part
  first_of last =
      let l = part_long in
      ap (λ (n : ℕ). take n block) (let z : length bytes - start ≡ length part = omega (arith, l, last) in z) ∙ take-append_seam part (replicate (size - length part) 0)

  all_of : size ≤ length bytes - start → take (length bytes - start) block ≡ part
  all_of more =
      let l = part_long in
      let gone : replicate {A = ℕ} (size - length part) 0 ≡ [] = ap (λ (n : ℕ). replicate n 0) (let z : size - length part ≡ 0 = omega (arith, l, more) in z) in
      ap (λ (q : List ℕ). take (length bytes - start) (part ++ q)) gone
      ∙ ap (take (length bytes - start)) (append-nil part)
      ∙ take_all (length bytes - start) part (omega (arith, l, more))

  take_block : take (length bytes - start) block ≡ part
  take_block = by_side (cases_Bool (nat_lt size (length bytes - start)))
    where
      by_side : (nat_lt size (length bytes - start) ≡ true) ⊎ (nat_lt size (length bytes - start) ≡ false) → take (length bytes - start) block ≡ part
      by_side (inl more) = all_of (let h : size < length bytes - start = grind (arith, more) in omega (arith, h))
      by_side (inr last) = first_of (grind (arith, last))

  pub chunk_joins : take (length bytes) (x ++ block) ≡ take (start + size) bytes
  chunk_joins = by_side (cases_Bool (nat_lt start (length bytes)))
    where
      by_side : (nat_lt start (length bytes) ≡ true) ⊎ (nat_lt start (length bytes) ≡ false) → take (length bytes) (x ++ block) ≡ take (start + size) bytes
      by_side (inl more) =
          let h : start < length bytes = grind (arith, more) in
          let whole : length bytes ≡ length x + (length bytes - start) = omega (arith, h, long) in
          let front : x ≡ take start bytes = sym (take_all (length bytes) x (omega (arith, h, long))) ∙ so_far in
          ap (λ (n : ℕ). take n (x ++ block)) whole
          ∙ take-append-add x block (length bytes - start)
          ∙ ap₂ (λ (a b : List ℕ). a ++ b) front take_block
          ∙ sym (take-add start size bytes)
      by_side (inr past) =
          let h : length bytes ≤ start = grind (arith, past) in
          take-append-le (length bytes) x block (omega (arith, h, long)) ∙ so_far ∙ take_all start bytes h ∙ sym (take_all (start + size) bytes (omega (arith, h)))

-- the first elements of a list and one more
taken_next : (xs : List ℕ) (at n : ℕ) → slice_get xs at ≡ Some n → take (suc at) xs ≡ take at xs ++ n ∷ []
taken_next [] zero n e = cc
taken_next [] (suc at) n e = cc
taken_next (x ∷ xs) zero n e = ap (λ (k : ℕ). k ∷ []) (let same : x ≡ n = cc in same)
taken_next (x ∷ xs) (suc at) n e = ap (λ (l : List ℕ). x ∷ l) (taken_next xs at n e)

taken_long : (xs : List ℕ) (at n : ℕ) → slice_get xs at ≡ Some n → length (take at xs) ≡ at
taken_long [] zero n e = cc
taken_long [] (suc at) n e = cc
taken_long (x ∷ xs) zero n e = refl
taken_long (x ∷ xs) (suc at) n e = let a = taken_long xs at n e in omega (arith, a)

taken_few : (k at : ℕ) (xs : List ℕ) → times k (take at xs) ≤ times k xs
taken_few k zero [] = omega arith
taken_few k zero (x ∷ xs) = omega arith
taken_few k (suc at) [] = omega arith
taken_few k (suc at) (x ∷ xs) = let a = taken_few k at xs in omega (arith, a)

module _ (o : Origin) (m : ℕ → Option (List ℕ)) (once : IsOnce (whole_at o.sizes (contents m) o.id)) (stands : Stands o m) (bytes : List ℕ) (at : ℕ) (told told2 : Option (ℕ → Option (List ℕ))) (old mid new : ℕ → Bool) (so_far : IsFilledTo o m bytes at told old mid) where
  abbrev size : ℕ
  size = o.sizes.block_size

  abbrev all : List ℕ
  all = places_at o.sizes (contents m) o.id

  abbrev block_of : List ℕ
  block_of = padded size (chunk size bytes at)

  -- the stream stands as it did
  pub still_stands : Stands o so_far.blocks.map
  still_stands = still o m once stands 0 at told old mid so_far.blocks

  module _ (filled : HasFilled o so_far.blocks.map at block_of told2 mid new true) where
    place : slice_get all at ≡ Some filled.0
    place = subst (λ (l : List ℕ). slice_get l at ≡ Some filled.0) (places o m once stands 0 at told old mid so_far.blocks) filled.1

    more : IsToldTo o m 0 (at + 1) told2 old new
    more = told_more o m once stands 0 at told told2 old mid new so_far.blocks block_of (omega arith) filled

    map_is : more.map ≡ with_block filled.0 block_of so_far.blocks.map
    map_is = ap (λ (x : Option (ℕ → Option (List ℕ))). unwrap_or x (λ (k : ℕ). Some [])) (sym more.is ∙ filled.2)

    next : take (at + 1) all ≡ take at all ++ filled.0 ∷ []
    next = ap (λ (k : ℕ). take k all) (let e : at + 1 ≡ suc at = omega arith in e) ∙ taken_next all at filled.0 place

    one_in_all : times filled.0 all ≤ 1
    one_in_all = let h : times filled.0 (whole_at o.sizes (contents m) o.id) ≤ 1 = once filled.0 in let p = times-append filled.0 (frame_at o.sizes (contents m) o.id) all in omega (arith, h, p)

    not_before : times filled.0 (take at all) ≡ 0
    not_before =
        let a : times filled.0 (take (at + 1) all) ≡ times filled.0 (take at all) + times filled.0 (filled.0 ∷ []) = ap (times filled.0) next ∙ times-append filled.0 (take at all) (filled.0 ∷ []) in
        let b : 0 < times filled.0 (filled.0 ∷ []) = has_first filled.0 [] in
        let c = taken_few filled.0 (at + 1) all in
        let d = one_in_all in
        omega (arith, a, b, c, d)

    differs : (k : ℕ) → Has (take at all) k → k ≢ filled.0
    differs k has e = let some : 0 < times filled.0 (take at all) = subst (Has (take at all)) e has in let none = not_before in omega (arith, some, none)

    same_before : (k : ℕ) → Has (take at all) k → contents more.map k ≡ contents so_far.blocks.map k
    same_before k has =
        ap (λ (x : ℕ → Option (List ℕ)). contents x k) map_is
        ∙ ap (λ (x : Option (List ℕ)). unwrap_or x []) (block_other so_far.blocks.map filled.0 block_of k (differs k has))

    here : contents more.map filled.0 ≡ block_of
    here = ap (λ (x : ℕ → Option (List ℕ)). contents x filled.0) map_is ∙ ap (λ (x : Option (List ℕ)). unwrap_or x []) (block_here so_far.blocks.map filled.0 block_of)

    block_long : length block_of ≡ size
    block_long = length_padded size (chunk size bytes at) (chunk_short size bytes at)

    long_now : (k : ℕ) → Has (take (at + 1) all) k → length (contents more.map k) ≡ size
    long_now k has = by_test (cases_Bool (filled.0 == k))
      where
        by_test : ((filled.0 == k) ≡ true) ⊎ ((filled.0 == k) ≡ false) → length (contents more.map k) ≡ size
        by_test (inl e) = let same : filled.0 ≡ k = grind (arith, e) in subst (λ (j : ℕ). length (contents more.map j) ≡ size) same (ap length here ∙ block_long)
        by_test (inr e) =
            let none : times k (filled.0 ∷ []) ≡ 0 = ap (λ (b : Bool). cond {A = ℕ} b 1 0 + 0) e in
            let some : 0 < times k (take (at + 1) all) = has in
            let p : times k (take (at + 1) all) ≡ times k (take at all) + times k (filled.0 ∷ []) = ap (times k) next ∙ times-append k (take at all) (filled.0 ∷ []) in
            let before : 0 < times k (take at all) = omega (arith, none, some, p) in
            ap length (same_before k before) ∙ so_far.long k before

    joined : flat_map (contents more.map) (take (at + 1) all) ≡ flat_map (contents so_far.blocks.map) (take at all) ++ block_of
    joined =
        ap (flat_map (contents more.map)) next
        ∙ flat_map-append (contents more.map) (take at all) (filled.0 ∷ [])
        ∙ ap₂ (λ (a b : List ℕ). a ++ b) (joined_same (contents so_far.blocks.map) (contents more.map) (λ (l : List ℕ). l) (take at all) same_before) (append-nil (contents more.map filled.0) ∙ here)

    front_long : length (flat_map (contents so_far.blocks.map) (take at all)) ≡ size * at
    front_long = length_all size (contents so_far.blocks.map) (take at all) so_far.long ∙ ap (λ (k : ℕ). size * k) (taken_long all at filled.0 place)

    pub filled_more : IsFilledTo o m bytes (at + 1) told2 old new
    filled_more = record {
      blocks = more;
      long = long_now;
      are =
          ap (take (length bytes)) joined ∙ chunk_joins size (size * at) bytes (flat_map (contents so_far.blocks.map) (take at all)) front_long so_far.are
          ∙ ap (λ (k : ℕ). take k bytes) (let e : size * at + size ≡ size * (at + 1) = grind arith in e);
    }

  -- there is none more
  pub filled_end : length all ≤ at → length bytes ≤ size * length all → (told3 : Option (ℕ → Option (List ℕ))) (later : ℕ → Bool) → told3 ≡ Some so_far.blocks.map → later ≡ mid → IsFilled o m bytes told3 old later
  filled_end past enough told3 later is same = record {
    blocks = record {
      map = so_far.blocks.map;
      is = is;
      are = λ k has. so_far.blocks.are k (subst (λ (l : List ℕ). Has l k) (take_all (length all) all (omega arith) ∙ sym every) has);
      same = so_far.blocks.same;
      kept = so_far.blocks.kept;
      written = λ k e. so_far.blocks.written k (sym (ap (λ (f : ℕ → Bool). f k) same) ∙ e);
      stays = λ k e. ap (λ (f : ℕ → Bool). f k) same ∙ so_far.blocks.stays k e;
      set = λ k has none. ap (λ (f : ℕ → Bool). f k) same ∙ so_far.blocks.set k (subst (λ (l : List ℕ). Has l k) (take_all (length all) all (omega arith) ∙ sym every) has) none;
    };
    are =
        ap (λ (l : List ℕ). take (length bytes) (flat_map (contents so_far.blocks.map) l)) (sym every) ∙ so_far.are
        ∙ take_all (size * at) bytes (let h : size * length all ≤ size * at = grow past in omega (arith, h, enough));
  }
    where
      every : take at all ≡ all
      every = take_all at all past

      grow : length all ≤ at → size * length all ≤ size * at
      grow h = grind (arith, h)

pub first_none : (xs : List ℕ) → take 0 xs ≡ []
first_none [] = refl
first_none (x ∷ xs) = refl

nothing : (xs : List ℕ) (k : ℕ) → Has (take 0 xs) k → ⊥
nothing xs k has =
    let some : 0 < times k (take 0 xs) = has in
    let e : times k (take 0 xs) ≡ 0 = ap (times k) (first_none xs) in
    omega (arith, some, e)

-- nothing was written yet
pub filled_none : (o : Origin) (m : ℕ → Option (List ℕ)) (bytes : List ℕ) (told : Option (ℕ → Option (List ℕ))) (old : ℕ → Bool) → told ≡ Some m → IsFilledTo o m bytes 0 told old old
filled_none o m bytes told old is = record {
  blocks = record { map = m; is = is; are = λ k has. absurd (nothing (places_at o.sizes (contents m) o.id) k has); same = λ k none. refl; kept = λ k some. some; written = λ k e. inl e; stays = λ k e. e; set = λ k has none. absurd (nothing (places_at o.sizes (contents m) o.id) k has) };
  long = λ k has. absurd (nothing (places_at o.sizes (contents m) o.id) k has);
  are =
      ap (λ (l : List ℕ). take (length bytes) (flat_map (contents m) l)) (first_none (places_at o.sizes (contents m) o.id))
      ∙ take_all {A = ℕ} (length bytes) [] (omega arith)
      ∙ sym (ap (λ (k : ℕ). take k bytes) (let z : o.sizes.block_size * 0 ≡ 0 = grind arith in z) ∙ first_none bytes);
}
