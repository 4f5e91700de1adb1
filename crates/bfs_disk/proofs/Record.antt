-- What a disk in memory reads and keeps, by the record of its calls.
use Rattle.std.proofs.Common.{◌≡◌, ◌⊎◌, inl, inr, ⊎_elim, ℕ, zero, suc, ◌++◌, nat_lt, ◌+◌, ◌-◌, ◌*◌, ◌/◌, ◌%◌, ◌^◌, ◌<◌, ◌≤◌, List, [], ◌∷◌, length, take, drop, refl, sym, ◌∙◌, ap, subst, arith, get_or, length-drop, Some, Option, Result, Ok, Err, OnOk, true, cond, ◌==◌}
use Rattle.std.specs.Prelude.{Vec}
use Rattle.std.specs.declared.alloc.Global.{Global}
use Rattle.std.proofs.lemmas.List.{length-take-le}
use Rattle.std.proofs.lemmas.Bool.{cases_lt, cond_both, cond-true, cond-false, and_parts, and_from, le-leb, eq-eqb}
use Rattle.std.proofs.lemmas.List.Folds.{list_all-append}
use Rattle.bfs_base.specs.Images.{sector, overwritten}
use Rattle.bfs_base.specs.Moments.{Elapses}
use Rattle.bfs_base.proofs.Sectors.{length-pasted, sector_before, sector_after, sector_part, part_overwritten, put_back}
use Rattle.bfs_disk.specs.State.{State, IsImage, IsOneOf, ReadsAs, newest, oldest, written, Filled, names}
use Rattle.bfs_disk.specs.Memory.{part, state_after, moments, LeftSince, are_bytes, is_inside, is_record, kept_bytes, IsPicked}
use Rattle.bfs_disk.specs.MemoryLaws.{write_inside, length-before, record_whole, record_bytes, size_after, filled_of}
use Rattle.bfs_disk.proofs.Names.{names_before, names_inside, names_after}
use Rattle.bfs_disk.proofs.Calls.{first_same}
use Rattle.bfs_disk.specs.declared.disk.Failed.{Failed}
use Rattle.bfs_disk.specs.declared.memory.Call.{Call}
use Rattle.bfs_disk.specs.declared.memory.Call.TheVariants.{Write, Barrier}

-- ---- what a read gives

newest_write : (at k : ℕ) (old bytes : List ℕ) (s : State) → 512 * at + length old ≤ length bytes → length old ≡ 512 * (length old / 512)
    → newest s k ≡ sector k (overwritten at old bytes) → newest (written s at (part at (length old) bytes)) k ≡ sector k bytes
newest_write at k old bytes s fits whole was =
    let n = length old in
    let new = part at n bytes in
    let long : length new ≡ n = length-take-le n (drop (512 * at) bytes) (omega (arith, fits, length-drop (512 * at) bytes)) in
    let out : names at new k ≡ _ → sector k (overwritten at old bytes) ≡ sector k bytes → newest (written s at new) k ≡ sector k bytes =
    λ none same. ap (λ cs. get_or cs 0 []) (cond-false (names at new k) (sector (k - at) new ∷ s.contents k) (s.contents k) none) ∙ was ∙ same in
    ⊎_elim (λ before. out (names_before at k new before) (sector_before at (n / 512) old bytes fits whole k before))
    (λ low. ⊎_elim
    (λ high.
    let here : k < at + length new / 512 = subst (λ (m : ℕ). k < at + m / 512) (sym long) high in
    ap (λ cs. get_or cs 0 []) (cond-true (names at new k) (sector (k - at) new ∷ s.contents k) (s.contents k) (names_inside at k new low here))
    ∙ sector_part at (k - at) n bytes (omega (arith, whole, low, high))
    ∙ ap (λ (j : ℕ). sector j bytes) (omega (arith, low)))
    (λ ge.
    let past : at + length new / 512 ≤ k = subst (λ (m : ℕ). at + m / 512 ≤ k) (sym long) ge in
    out (names_after at k new past) (sector_after at (n / 512) old bytes fits whole k ge))
    (cases_lt k (at + n / 512)))
    (cases_lt k at)

pub newest_after : (calls : List Call) (bytes : List ℕ) → is_record calls bytes ≡ true → (k : ℕ) → newest (state_after calls bytes) k ≡ sector k bytes
newest_after [] bytes is k = refl
newest_after (Write at replaced idle ∷ calls) bytes is k =
    let both = and_parts (is_inside (Write at replaced idle) bytes) (is_record calls (overwritten at replaced.items bytes)) is in
    let fits = write_inside at replaced.items bytes both.0 in
    newest_write at k replaced.items bytes (state_after calls (overwritten at replaced.items bytes)) fits.0 fits.1 (newest_after calls (overwritten at replaced.items bytes) both.1 k)
newest_after (Barrier idle ∷ calls) bytes is k =
    sym (first_same ((state_after calls bytes).contents k)) ∙ newest_after calls bytes (and_parts (is_inside (Barrier idle) bytes) (is_record calls bytes) is).1 k

-- ---- bytes that are put together of bytes

bytes_take : (n : ℕ) (xs : List ℕ) → are_bytes xs ≡ true → are_bytes (take n xs) ≡ true
bytes_take zero xs is = refl
bytes_take (suc n) [] is = refl
bytes_take (suc n) (x ∷ xs) is =
    let both = and_parts (nat_lt x 256) (are_bytes xs) is in and_from (nat_lt x 256) (are_bytes (take n xs)) both.0 (bytes_take n xs both.1)

bytes_drop : (n : ℕ) (xs : List ℕ) → are_bytes xs ≡ true → are_bytes (drop n xs) ≡ true
bytes_drop zero xs is = is
bytes_drop (suc n) [] is = refl
bytes_drop (suc n) (x ∷ xs) is = bytes_drop n xs (and_parts (nat_lt x 256) (are_bytes xs) is).1

bytes_join : (xs ys : List ℕ) → are_bytes xs ≡ true → are_bytes ys ≡ true → are_bytes (xs ++ ys) ≡ true
bytes_join xs ys one two = list_all-append (λ (b : ℕ). nat_lt b 256) xs ys ∙ and_from (are_bytes xs) (are_bytes ys) one two

bytes_over : (at : ℕ) (from bytes : List ℕ) → are_bytes from ≡ true → are_bytes bytes ≡ true → are_bytes (overwritten at from bytes) ≡ true
bytes_over at from bytes small was =
    bytes_join (take (512 * at) bytes ++ from) (drop (512 * at + length from) bytes)
    (bytes_join (take (512 * at) bytes) from (bytes_take (512 * at) bytes was) small)
    (bytes_drop (512 * at + length from) bytes was)

-- ---- one call more

on_ok : {T E : Type 0} (r : Result T E) (P : Type 0) → P → OnOk r P
on_ok (Ok x) P p = p
on_ok (Err e) P p = tt

moments_more : (idle : ℕ) (calls : List Call) → moments (suc idle) calls ≡ suc (moments idle calls)
moments_more idle [] = refl
moments_more idle (call ∷ calls) = omega arith

left_idle : (idle : ℕ) (calls : List Call) (bytes : List ℕ) (t : ℕ) (c : List ℕ) → LeftSince (suc idle) calls bytes t c → LeftSince idle calls bytes t c ⊎ IsImage (state_after calls bytes) c
left_idle idle [] bytes t c left = inr left.1
left_idle idle (call ∷ calls) bytes t c left = ⊎_elim (λ here. inr here.1) (λ was. inl (inr was)) left

keeps_idle : (idle : ℕ) (calls : List Call) (bytes : List ℕ) (t : ℕ) (c : List ℕ) → LeftSince idle calls bytes t c → LeftSince (suc idle) calls bytes t c
keeps_idle idle [] bytes t c left = (omega (arith, left.0), left.1)
keeps_idle idle (call ∷ calls) bytes t c left = ⊎_elim (λ here. inl (omega (arith, here.0), here.1)) (λ was. inr was) left

-- a call that changed nothing, and one that failed without a moment of its own
pub elapses_idle : {T : Type 0} (r : Result T Failed) (idle : ℕ) (calls : List Call) (bytes : List ℕ) (new : ℕ) → new ≡ idle + 1
    → Elapses (Some (state_after calls bytes)) r (moments idle calls) (moments new calls) (LeftSince idle calls bytes) (LeftSince new calls bytes) (IsImage (state_after calls bytes))
elapses_idle r idle calls bytes new more =
    let is : suc idle ≡ new = omega (arith, more) in
    subst (λ (n : ℕ). Elapses (Some (state_after calls bytes)) r (moments idle calls) (moments n calls) (LeftSince idle calls bytes) (LeftSince n calls bytes) (IsImage (state_after calls bytes))) is
    (record {
      later = omega (arith, moments_more idle calls);
      at_most_one = omega (arith, moments_more idle calls);
      one = λ _. on_ok r _ (omega (arith, moments_more idle calls));
      nothing_else = λ t c le left. left_idle idle calls bytes t c left;
      keeps = λ t c le was. keeps_idle idle calls bytes t c was;
    })

pub elapses_failed : {T : Type 0} (e : Failed) (idle : ℕ) (calls : List Call) (bytes : List ℕ) (new : ℕ) → (during : List ℕ → Type 0) → ((c : List ℕ) → IsImage (state_after calls bytes) c → during c)
    → (new ≡ idle) ⊎ (new ≡ idle + 1)
    → Elapses {T = T} (Some (state_after calls bytes)) (Err e) (moments idle calls) (moments new calls) (LeftSince idle calls bytes) (LeftSince new calls bytes) during
elapses_failed {T} e idle calls bytes new during widen how = ⊎_elim
    (λ same. subst (λ (n : ℕ). Elapses {T = T} (Some (state_after calls bytes)) (Err e) (moments idle calls) (moments n calls) (LeftSince idle calls bytes) (LeftSince n calls bytes) during) (sym same)
    (record { later = omega arith; at_most_one = omega arith; one = λ _. tt; nothing_else = λ t c le left. inl left; keeps = λ t c le was. was }))
    (λ more. let time = elapses_idle {T = T} (Err e) idle calls bytes new more in
    record {
      later = time.later;
      at_most_one = time.at_most_one;
      one = λ _. tt;
      nothing_else = λ t c le left. ⊎_elim (λ was. inl was) (λ now. inr (widen c now)) (time.nothing_else t c le left);
      keeps = time.keeps;
    })
    how

module _ (idle : ℕ) (calls : List Call) (bytes from : List ℕ) (at : ℕ) (old : Vec ℕ Global) (fits : 512 * at + length from ≤ length bytes) (is : old.items ≡ part at (length from) bytes) where
  undone : overwritten at old.items (overwritten at from bytes) ≡ bytes
  undone = ap (λ (l : List ℕ). overwritten at l (overwritten at from bytes)) is ∙ put_back at from bytes fits

  old_long : length old.items ≡ length from
  old_long = ap length is ∙ length-take-le (length from) (drop (512 * at) bytes) (omega (arith, fits, length-drop (512 * at) bytes))

  new_part : part at (length old.items) (overwritten at from bytes) ≡ from
  new_part = ap (λ (n : ℕ). part at n (overwritten at from bytes)) old_long ∙ part_overwritten at from bytes fits

  pub state_written : state_after (Write at old idle ∷ calls) (overwritten at from bytes) ≡ written (state_after calls bytes) at from
  state_written =
      ap (λ (l : List ℕ). written (state_after calls l) at (part at (length old.items) (overwritten at from bytes))) undone
      ∙ ap (written (state_after calls bytes) at) new_part

  pub record_written : length from ≡ 512 * (length from / 512) → are_bytes from ≡ true → is_record calls bytes ≡ true → is_record (Write at old idle ∷ calls) (overwritten at from bytes) ≡ true
  record_written whole small was =
      let n = length from / 512 in
      let same : length (overwritten at from bytes) ≡ length bytes = length-pasted at n from bytes fits whole in
      let inside : is_inside (Write at old idle) (overwritten at from bytes) ≡ true = and_from _ _
      (le-leb (512 * at + length old.items) (length (overwritten at from bytes)) (omega (arith, same, old_long, fits)))
      (and_from _ _ (eq-eqb (length old.items) (512 * (length old.items / 512)) (subst (λ (m : ℕ). m ≡ 512 * (m / 512)) (sym old_long) whole))
      (bytes_over at from bytes small (record_bytes calls bytes was))) in
      and_from _ _ inside (subst (λ (l : List ℕ). is_record calls l ≡ true) (sym undone) was)

  pub elapses_written : {T : Type 0} (r : Result T Failed)
      → Elapses (Some (state_after calls bytes)) r (moments idle calls) (moments 0 (Write at old idle ∷ calls)) (LeftSince idle calls bytes) (LeftSince 0 (Write at old idle ∷ calls) (overwritten at from bytes))
      (IsImage (written (state_after calls bytes) at from))
  elapses_written r = record {
    later = omega arith;
    at_most_one = omega arith;
    one = λ _. on_ok r _ (omega arith);
    nothing_else = λ t c le left. ⊎_elim
        (λ here. inr (subst (λ s. IsImage s c) state_written here.1))
        (λ was. inl (subst (λ (l : List ℕ). LeftSince idle calls l t c) undone was)) left;
    keeps = λ t c le was. inr (subst (λ (l : List ℕ). LeftSince idle calls l t c) (sym undone) was);
  }

-- ---- what the last barrier kept

last_push : (x : List ℕ) (xs : List (List ℕ)) → 0 < length xs → get_or (x ∷ xs) (length (x ∷ xs) - 1) [] ≡ get_or xs (length xs - 1) []
last_push x [] some = absurd (omega arith)
last_push x (y ∷ ys) some = let e : suc (suc (length ys)) - 1 ≡ suc (suc (length ys) - 1) = omega arith in ap (λ (m : ℕ). get_or (x ∷ y ∷ ys) m []) e

last_settled : (xs : List (List ℕ)) → 0 < length xs → get_or (take 1 xs) (length (take 1 xs) - 1) [] ≡ get_or xs 0 []
last_settled [] some = absurd (omega arith)
last_settled (x ∷ xs) some = refl

pub length-kept : (calls : List Call) (bytes : List ℕ) → is_record calls bytes ≡ true → length (kept_bytes calls bytes) ≡ length bytes
length-kept [] bytes is = refl
length-kept (Write at replaced idle ∷ calls) bytes is =
    let both = and_parts (is_inside (Write at replaced idle) bytes) (is_record calls (overwritten at replaced.items bytes)) is in
    length-kept calls (overwritten at replaced.items bytes) both.1 ∙ length-before (Write at replaced idle) bytes both.0
length-kept (Barrier idle ∷ calls) bytes is = refl

oldest_write : (s : State) (at k : ℕ) (new : List ℕ) → 0 < length (s.contents k) → oldest (written s at new) k ≡ oldest s k
oldest_write s at k new some =
    cond_both (names at new k) (sector (k - at) new ∷ s.contents k) (s.contents k) (λ cs. get_or cs (length cs - 1) [] ≡ oldest s k) (λ _. last_push (sector (k - at) new) (s.contents k) some) (λ _. refl)

-- the oldest content of a sector is what the last barrier left
pub oldest_after : (calls : List Call) (bytes : List ℕ) → is_record calls bytes ≡ true → (k : ℕ) → k < length bytes / 512 → oldest (state_after calls bytes) k ≡ sector k (kept_bytes calls bytes)
oldest_after [] bytes is k lt = refl
oldest_after (Write at replaced idle ∷ calls) bytes is k lt =
    let both = and_parts (is_inside (Write at replaced idle) bytes) (is_record calls (overwritten at replaced.items bytes)) is in
    let before = overwritten at replaced.items bytes in
    let same = length-before (Write at replaced idle) bytes both.0 in
    let lt_before : k < length before / 512 = subst (λ (m : ℕ). k < m / 512) (sym same) lt in
    let some = (filled_of calls before both.1).some k (subst (λ (m : ℕ). k < m) (sym (size_after calls before both.1)) lt_before) in
    oldest_write (state_after calls before) at k (part at (length replaced.items) bytes) some ∙ oldest_after calls before both.1 k lt_before
oldest_after (Barrier idle ∷ calls) bytes is k lt =
    let rest = (and_parts (is_inside (Barrier idle) bytes) (is_record calls bytes) is).1 in
    let some = (filled_of calls bytes rest).some k (subst (λ (m : ℕ). k < m) (sym (size_after calls bytes rest)) lt) in
    last_settled ((state_after calls bytes).contents k) some ∙ newest_after calls bytes rest k

-- newest and oldest are contents
one_first : (xs : List (List ℕ)) → 0 < length xs → IsOneOf xs (get_or xs 0 [])
one_first [] some = absurd (omega arith)
one_first (x ∷ xs) some = inl refl

one_last : (xs : List (List ℕ)) → 0 < length xs → IsOneOf xs (get_or xs (length xs - 1) [])
one_last [] some = absurd (omega arith)
one_last (x ∷ []) some = inl refl
one_last (x ∷ y ∷ ys) some = inr (subst (IsOneOf (y ∷ ys)) (sym (last_push x (y ∷ ys) (omega arith))) (one_last (y ∷ ys) (omega arith)))

-- a picked image is one that a crash may leave
pub picked_image : (pick : ℕ) (s : State) (image : List ℕ) → Filled s → IsPicked pick s image → IsImage s image
picked_image pick s image filled picked = record {
  size = picked.size;
  each = λ k lt. subst (IsOneOf (s.contents k)) (sym (picked.each k lt))
      (cond_both (pick / 2 ^ (k % 64) % 2 == 1) (newest s k) (oldest s k) (IsOneOf (s.contents k)) (λ _. one_first (s.contents k) (filled.some k lt)) (λ _. one_last (s.contents k) (filled.some k lt)));
}

-- the record and the bytes as they are named elsewhere
pub recorded_as : {calls new : List Call} {bytes after : List ℕ} → calls ≡ new → bytes ≡ after → is_record new after ≡ true → is_record calls bytes ≡ true
recorded_as {new} {bytes} same equal is = ap (λ cs. is_record cs bytes) same ∙ ap (is_record new) equal ∙ is

pub elapses_as : {T : Type 0} {told : Option State} {r : Result T Failed} {before : ℕ} {past : ℕ → List ℕ → Type 0} {idle : ℕ} {calls new : List Call} {bytes after : List ℕ} {during : List ℕ → Type 0}
    → idle ≡ 0 → calls ≡ new → bytes ≡ after
    → Elapses told r before (moments 0 new) past (LeftSince 0 new after) during → Elapses told r before (moments idle calls) past (LeftSince idle calls bytes) during
elapses_as {told} {r} {before} {past} {idle} {calls} {bytes} {after} {during} none same equal time =
    subst (λ (n : ℕ). Elapses told r before (moments n calls) past (LeftSince n calls bytes) during) (sym none)
    (subst (λ (l : List ℕ). Elapses told r before (moments 0 calls) past (LeftSince 0 calls l) during) (sym equal)
    (subst (λ cs. Elapses told r before (moments 0 cs) past (LeftSince 0 cs after) during) (sym same) time))

-- the disk reads as its bytes
pub reads_after : (calls : List Call) (bytes : List ℕ) → is_record calls bytes ≡ true → ReadsAs (state_after calls bytes) bytes
reads_after calls bytes is = record {
  size = record_whole calls bytes is ∙ ap (λ (n : ℕ). 512 * n) (sym (size_after calls bytes is));
  each = λ k lt. sym (newest_after calls bytes is k);
}

pub elapses_kept : {T : Type 0} {told : Option State} {r : Result T Failed} {before : ℕ} {past : ℕ → List ℕ → Type 0} (idle : ℕ) {calls old : List Call} {bytes was : List ℕ} {during : List ℕ → Type 0}
    → calls ≡ old → bytes ≡ was
    → Elapses told r before (moments idle old) past (LeftSince idle old was) during → Elapses told r before (moments idle calls) past (LeftSince idle calls bytes) during
elapses_kept {told} {r} {before} {past} idle {calls} {was} {during} same equal time =
    subst (λ (l : List ℕ). Elapses told r before (moments idle calls) past (LeftSince idle calls l) during) (sym equal)
    (subst (λ cs. Elapses told r before (moments idle cs) past (LeftSince idle cs was) during) (sym same) time)

-- the parts of a picked image, as they are named elsewhere
pub picked_of : (pick : ℕ) (calls : List Call) (bytes : List ℕ) (is : is_record calls bytes ≡ true) (last kept image : List ℕ) → last ≡ bytes → kept ≡ kept_bytes calls bytes → length image ≡ length last
    → ((k : ℕ) → k < length last / 512 → sector k image ≡ cond (pick / 2 ^ (k % 64) % 2 == 1) (sector k last) (sector k kept)) → IsPicked pick (state_after calls bytes) image
picked_of pick calls bytes is last kept image same_last same_kept long each =
    let size = size_after calls bytes is in
    let whole = record_whole calls bytes is in
    record {
      size = long ∙ ap length same_last ∙ whole ∙ ap (λ (n : ℕ). 512 * n) (sym size);
      each = λ k lt.
          let inside : k < length bytes / 512 = subst (λ (n : ℕ). k < n) size lt in
          each k (subst (λ (l : List ℕ). k < length l / 512) (sym same_last) inside)
          ∙ ap (λ (l : List ℕ). cond (pick / 2 ^ (k % 64) % 2 == 1) l (sector k kept)) (ap (sector k) same_last ∙ sym (newest_after calls bytes is k))
          ∙ ap (λ (l : List ℕ). cond (pick / 2 ^ (k % 64) % 2 == 1) (newest (state_after calls bytes) k) l) (ap (sector k) same_kept ∙ sym (oldest_after calls bytes is k inside));
    }
