-- The blocks of a stream are written one after the other, from a place on.
use Rattle.std.proofs.Common.{◌≡◌, ◌≢◌, ◌≤◌, ◌<◌, ◌+◌, ◌∙◌, ◌⊎◌, inl, inr, ℕ, zero, suc, List, [], ◌∷◌, length, take, drop, Bool, true, false, ◌||◌, cond, Option, Some, unwrap_or, refl, sym, ap, subst, arith}
use Rattle.std.specs.Prelude.{◌==◌, ◌/◌, max, IsSome, slice_get, Result, OnOk, IfErr}
use Rattle.bfs_base.specs.Lists.{times, Has, IsOnce, Agree}
use Rattle.bfs_super.specs.Geometry.{IsBlockSize}
use Rattle.bfs_txn.specs.Told.{with_block}
use Rattle.bfs_stream.specs.Sizes.{Origin, HasSizes, array_length}
use Rattle.bfs_stream.specs.Places.{Levels, levels_at, arrays_of, places_of, places_at, frame_at, whole_at, HasLevels}
use Rattle.bfs_stream.specs.Told.{contents, AreTold, Stands}
use Rattle.bfs_stream.specs.declared.fault.GrowFault.{GrowFault}
use Rattle.bfs_stream.proofs.Doubles.{times-append}
use Rattle.bfs_stream.proofs.Frames.{has_first, has_rest, levels_same}
use Rattle.bfs_stream.proofs.Equal.{same_test}
use Rattle.bfs_stream.proofs.Writes.{number_set}
use Rattle.bfs_stream_pages.specs.Steps.{HasFilled, IsToldTo, IsToldWhole, IsUndamaged}
use Rattle.bfs_stream_pages.specs.MovesLaws.{stays_set}
use Rattle.bfs_stream_pages.proofs.Rooms.{dropped_less}
use Rattle.bfs_stream_pages.proofs.Writing.{is_equal, counted_at}

-- a list has no more than all of it
all_taken : (xs : List ℕ) (n : ℕ) → length xs ≤ n → take n xs ≡ xs
all_taken [] zero le = refl
all_taken [] (suc n) le = refl
all_taken (x ∷ xs) zero le = absurd (omega (arith, le))
all_taken (x ∷ xs) (suc n) le = ap (λ (l : List ℕ). x ∷ l) (all_taken xs n (omega (arith, le)))

-- nothing was written yet
pub told_none : (o : Origin) (m : ℕ → Option (List ℕ)) (index : ℕ) (told : Option (ℕ → Option (List ℕ))) (old : ℕ → Bool) → told ≡ Some m → AreTold m (take index (places_at o.sizes (contents m) o.id)) → IsToldTo o m index index told old old
told_none o m index told old is are = record { map = m; is = is; are = are; same = λ k none. refl; kept = λ k some. some; written = λ k e. inl e; stays = λ k e. e; set = λ k has none. let some : 0 < times k (take index (places_at o.sizes (contents m) o.id)) = has in absurd (omega (arith, some, none)) }

module _ (o : Origin) (m : ℕ → Option (List ℕ)) (once : IsOnce (whole_at o.sizes (contents m) o.id)) (stands : Stands o m) (index at : ℕ) (told : Option (ℕ → Option (List ℕ))) (old new : ℕ → Bool) (so_far : IsToldTo o m index at told old new) where
  frame_apart : (k : ℕ) → Has (frame_at o.sizes (contents m) o.id) k → times k (drop index (places_at o.sizes (contents m) o.id)) ≡ 0
  frame_apart k has =
      let one = once k in
      let parts = times-append k (frame_at o.sizes (contents m) o.id) (places_at o.sizes (contents m) o.id) in
      let h : 0 < times k (frame_at o.sizes (contents m) o.id) = has in
      let less = dropped_less k index (places_at o.sizes (contents m) o.id) in
      omega (arith, one, parts, h, less)

  agree : Agree (contents m) (contents so_far.map) (frame_at o.sizes (contents m) o.id)
  agree k has = ap (λ (x : Option (List ℕ)). unwrap_or x []) (so_far.same k (frame_apart k has))

  pub levels : levels_at o.sizes (contents so_far.map) o.id ≡ levels_at o.sizes (contents m) o.id
  levels = levels_same (contents m) (contents so_far.map) o.sizes o.id agree

  -- the stream stands as it did
  pub still : Stands o so_far.map
  unfolding arrays_of
  still = record {
    told = λ k has. so_far.kept k (stands.told k (subst (λ (x : Levels). Has (o.id ∷ arrays_of o.sizes x) k) levels has));
    sound = subst (HasLevels o.sizes) (sym levels) stands.sound;
  }

  pub places : places_at o.sizes (contents so_far.map) o.id ≡ places_at o.sizes (contents m) o.id
  places = ap (places_of o.sizes) levels

-- the same behind a first element
taken_next : (x : ℕ) (xs ys : List ℕ) (k n : ℕ) → (Has ys k → Has xs k ⊎ (k ≡ n)) → Has (x ∷ ys) k → Has (x ∷ xs) k ⊎ (k ≡ n)
taken_next x xs ys k n rest has = by_test (x == k) refl has
  where
    by_rest : Has xs k ⊎ (k ≡ n) → Has (x ∷ xs) k ⊎ (k ≡ n)
    by_rest (inl has) = inl (has_rest x xs k has)
    by_rest (inr is) = inr is

    by_test : (b : Bool) → (x == k) ≡ b → 0 < cond b 1 0 + times k ys → Has (x ∷ xs) k ⊎ (k ≡ n)
    by_test true f some = inl (subst (λ (j : ℕ). Has (x ∷ xs) j) (is_equal x k f) (has_first x xs))
    by_test false f some = by_rest (rest (let h : 0 < times k ys = omega (arith, some) in h))

-- what is among the first of a list and one more
taken_more : (xs : List ℕ) (at n k : ℕ) → slice_get xs at ≡ Some n → Has (take (suc at) xs) k → Has (take at xs) k ⊎ (k ≡ n)
taken_more [] zero n k e has = cc
taken_more [] (suc at) n k e has = cc
taken_more (x ∷ xs) zero n k e has = by_test (x == k) refl has
  where
    by_test : (b : Bool) → (x == k) ≡ b → 0 < cond b 1 0 + times k (take 0 xs) → Has (take zero (x ∷ xs)) k ⊎ (k ≡ n)
    by_test true f some = inr (let same : x ≡ n = cc in sym (is_equal x k f) ∙ same)
    by_test false f some = absurd (omega (arith, some))
taken_more (x ∷ xs) (suc at) n k e has = taken_next x (take at xs) (take (suc at) xs) k n (taken_more xs at n k e) has

-- an element at a place is among those from an earlier place on
dropped_has : (xs : List ℕ) (index at n : ℕ) → slice_get xs at ≡ Some n → index ≤ at → Has (drop index xs) n
dropped_has xs zero at n e low = counted_at xs at n e
dropped_has [] (suc index) at n e low = cc
dropped_has (x ∷ xs) (suc index) zero n e low = absurd (omega (arith, low))
dropped_has (x ∷ xs) (suc index) (suc at) n e low = dropped_has xs index at n e (omega (arith, low))

module _ (o : Origin) (m : ℕ → Option (List ℕ)) (once : IsOnce (whole_at o.sizes (contents m) o.id)) (stands : Stands o m) (index at : ℕ) (told told2 : Option (ℕ → Option (List ℕ))) (old mid new : ℕ → Bool) (so_far : IsToldTo o m index at told old mid) (bytes : List ℕ) where
  -- and with one block more
  pub told_more : index ≤ at → HasFilled o so_far.map at bytes told2 mid new true → IsToldTo o m index (at + 1) told2 old new
  told_more low (n, found, is, set) = record {
    map = with_block n bytes so_far.map;
    is = is;
    are = λ k has. by_last k (taken_more (places_at o.sizes (contents m) o.id) at n k place (subst (λ (j : ℕ). Has (take j (places_at o.sizes (contents m) o.id)) k) next has));
    same = λ k none. other k (λ e. let some : 0 < times k (drop index (places_at o.sizes (contents m) o.id)) = subst (Has (drop index (places_at o.sizes (contents m) o.id))) (sym e) mine in absurd (omega (arith, some, none))) ∙ so_far.same k none;
    kept = λ k some. still_told k (so_far.kept k some);
    written = λ k e. by_set k (number_set n mid k (sym (set k) ∙ e));
    stays = λ k e. still_set k (so_far.stays k e);
    set = λ k has none. by_taken k none (taken_more (places_at o.sizes (contents m) o.id) at n k place (subst (λ (j : ℕ). Has (take j (places_at o.sizes (contents m) o.id)) k) next has));
  }
    where
      next : at + 1 ≡ suc at
      next = omega arith

      place : slice_get (places_at o.sizes (contents m) o.id) at ≡ Some n
      place = subst (λ (l : List ℕ). slice_get l at ≡ Some n) (places o m once stands index at told old mid so_far) found

      mine : Has (drop index (places_at o.sizes (contents m) o.id)) n
      mine = dropped_has (places_at o.sizes (contents m) o.id) index at n place low

      other : (k : ℕ) → k ≢ n → with_block n bytes so_far.map k ≡ so_far.map k
      other k apart = by_test (k == n) refl
        where
          by_test : (b : Bool) → (k == n) ≡ b → cond b (Some bytes) (so_far.map k) ≡ so_far.map k
          by_test true e = absurd (apart (is_equal k n e))
          by_test false e = refl

      still_told : (k : ℕ) → IsSome (so_far.map k) → IsSome (with_block n bytes so_far.map k)
      still_told k some = by_test (k == n)
        where
          by_test : (b : Bool) → IsSome (cond b (Some bytes) (so_far.map k))
          by_test true = refl
          by_test false = some

      here : IsSome (with_block n bytes so_far.map n)
      here = subst (λ (b : Bool). IsSome (cond b (Some bytes) (so_far.map n))) (sym (same_test n)) refl

      by_last : (k : ℕ) → Has (take at (places_at o.sizes (contents m) o.id)) k ⊎ (k ≡ n) → IsSome (with_block n bytes so_far.map k)
      by_last k (inl has) = still_told k (so_far.are k has)
      by_last k (inr e) = subst (λ (j : ℕ). IsSome (with_block n bytes so_far.map j)) (sym e) here

      still_set : (k : ℕ) → mid k ≡ true → new k ≡ true
      still_set = stays_set n mid new set

      set_here : new n ≡ true
      set_here = set n ∙ ap (λ (b : Bool). b || mid n) (same_test n)

      by_taken : (k : ℕ) → times k (take index (places_at o.sizes (contents m) o.id)) ≡ 0 → Has (take at (places_at o.sizes (contents m) o.id)) k ⊎ (k ≡ n) → new k ≡ true
      by_taken k none (inl has) = still_set k (so_far.set k has none)
      by_taken k none (inr e) = subst (λ (j : ℕ). new j ≡ true) (sym e) set_here

      by_set : (k : ℕ) → (mid k ≡ true) ⊎ (k ≡ n) → (old k ≡ true) ⊎ Has (places_at o.sizes (contents m) o.id) k
      by_set k (inl before) = so_far.written k before
      by_set k (inr e) = inr (subst (Has (places_at o.sizes (contents m) o.id)) (sym e) (counted_at (places_at o.sizes (contents m) o.id) at n place))

  -- there is none more: all are told
  pub told_end : HasFilled o so_far.map at bytes told2 mid new false → IsToldWhole o m index told2 old new
  told_end (past, is, same) = record {
    map = so_far.map;
    is = is;
    are = λ k has. so_far.are k (subst (λ (l : List ℕ). Has l k) all has);
    same = so_far.same;
    kept = so_far.kept;
    written = λ k e. so_far.written k (sym (ap (λ (f : ℕ → Bool). f k) same) ∙ e);
    stays = λ k e. ap (λ (f : ℕ → Bool). f k) same ∙ so_far.stays k e;
    set = λ k has none. ap (λ (f : ℕ → Bool). f k) same ∙ so_far.set k (subst (λ (l : List ℕ). Has l k) all has) none;
  }
    where
      first : (n : ℕ) → length (places_at o.sizes (contents m) o.id) ≤ n → take n (places_at o.sizes (contents m) o.id) ≡ places_at o.sizes (contents m) o.id
      first n low = all_taken (places_at o.sizes (contents m) o.id) n low

      all : take (length (places_at o.sizes (contents m) o.id)) (places_at o.sizes (contents m) o.id) ≡ take at (places_at o.sizes (contents m) o.id)
      all = first (length (places_at o.sizes (contents m) o.id)) (omega arith) ∙ sym (first at (subst (λ (l : List ℕ). length l ≤ at) (places o m once stands index at told old mid so_far) past))

-- where the last place is behind all blocks, all are told
pub told_all : (o : Origin) (m : ℕ → Option (List ℕ)) (index at : ℕ) (told : Option (ℕ → Option (List ℕ))) (old new : ℕ → Bool) → IsToldTo o m index at told old new → length (places_at o.sizes (contents m) o.id) ≤ at → IsToldWhole o m index told old new
told_all o m index at told old new so_far past = record {
  map = so_far.map;
  is = so_far.is;
  are = λ k has. so_far.are k (subst (λ (l : List ℕ). Has l k) all has);
  same = so_far.same;
  kept = so_far.kept;
  written = so_far.written;
  stays = so_far.stays;
  set = λ k has none. so_far.set k (subst (λ (l : List ℕ). Has l k) all has) none;
}
  where
    first : (n : ℕ) → length (places_at o.sizes (contents m) o.id) ≤ n → take n (places_at o.sizes (contents m) o.id) ≡ places_at o.sizes (contents m) o.id
    first n low = all_taken (places_at o.sizes (contents m) o.id) n low

    all : take (length (places_at o.sizes (contents m) o.id)) (places_at o.sizes (contents m) o.id) ≡ take at (places_at o.sizes (contents m) o.id)
    all = first (length (places_at o.sizes (contents m) o.id)) (omega arith) ∙ sym (first at past)

-- an array has at most four blocks
pub array_short : (o : Origin) → HasSizes o.sizes → array_length o.sizes ≤ 4
array_short o sizes = by_size o.sizes.block_size sizes.block_size
  where
    by_size : (n : ℕ) → IsBlockSize n → max 1 (4096 / n) ≤ 4
    by_size n (inl e) = subst (λ (k : ℕ). max 1 (4096 / k) ≤ 4) (sym e) (omega arith)
    by_size n (inr (inl e)) = subst (λ (k : ℕ). max 1 (4096 / k) ≤ 4) (sym e) (omega arith)
    by_size n (inr (inr (inl e))) = subst (λ (k : ℕ). max 1 (4096 / k) ≤ 4) (sym e) (omega arith)
    by_size n (inr (inr (inr e))) = subst (λ (k : ℕ). max 1 (4096 / k) ≤ 4) (sym e) (omega arith)

-- what filling the blocks from a place on says
abbrev pub FillsAll : Origin → ℕ → Option (ℕ → Option (List ℕ)) → Option (ℕ → Option (List ℕ)) → (ℕ → Bool) → (ℕ → Bool) → Result (Unit {0}) GrowFault → Type 0
FillsAll o index told now old new r =
    (m : ℕ → Option (List ℕ)) → told ≡ Some m → Stands o m → IsOnce (whole_at o.sizes (contents m) o.id) → AreTold m (take index (places_at o.sizes (contents m) o.id)) → length (places_at o.sizes (contents m) o.id) ≤ index + 4
    → OnOk r (IsToldWhole o m index now old new)

abbrev pub FillsSound : Origin → ℕ → Option (ℕ → Option (List ℕ)) → Result (Unit {0}) GrowFault → Type 0
FillsSound o index told r =
    (m : ℕ → Option (List ℕ)) → told ≡ Some m → Stands o m → IsOnce (whole_at o.sizes (contents m) o.id) → AreTold m (take index (places_at o.sizes (contents m) o.id)) → IfErr r IsUndamaged
