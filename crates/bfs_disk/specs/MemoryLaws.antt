-- What a disk in memory keeps of a disk's laws.
use Rattle.std.proofs.Common.{◌≡◌, inl, inr, ⊎_elim, ◌≤◌, ℕ, zero, suc, ◌+◌, ◌*◌, ◌/◌, List, [], ◌∷◌, length, drop, Some, refl, subst, sym, ◌∙◌, ap, arith, true, ◌==◌, ◌&&◌, nat_le, nat_lt, lit<, length-drop}
use Rattle.std.proofs.lemmas.List.{length-take-le}
use Rattle.std.proofs.lemmas.Bool.{and_parts, leb-true, ltb-true, eqb-true}
use Rattle.bfs_disk.specs.State.{State, IsImage, Filled, state_of}
use Rattle.bfs_base.specs.Images.{overwritten, IsBytes}
use Rattle.bfs_base.proofs.Sectors.{length-pasted}
use Rattle.bfs_disk.specs.StateLaws.{bytes_taken, bytes_dropped, bytes_sector, filled_written, filled_settled}
use Rattle.bfs_disk.specs.Memory.{part, before_call, after_call, state_after, idle_before, moments, LeftSince, are_bytes, is_inside, is_record}
use Rattle.bfs_disk.specs.declared.memory.Call.{Call}
use Rattle.bfs_disk.specs.declared.memory.Call.TheVariants.{Write, Barrier}

pub counts_now_of : (idle : ℕ) (calls : List Call) (bytes : List ℕ) (t : ℕ) (c : List ℕ) → t ≤ moments idle calls → IsImage (state_after calls bytes) c → LeftSince idle calls bytes t c
counts_now_of idle [] bytes t c le now = (le, now)
counts_now_of idle (call ∷ calls) bytes t c le now = inl (le, now)

-- the moments since t are not before it
pub left_bound : (idle : ℕ) (calls : List Call) (bytes : List ℕ) (t : ℕ) (c : List ℕ) → LeftSince idle calls bytes t c → t ≤ moments idle calls
left_bound idle [] bytes t c left = left.0
left_bound idle (call ∷ calls) bytes t c left =
    ⊎_elim (λ here. here.0) (λ was. let le = left_bound (idle_before call) calls (before_call call bytes) t c was in omega (arith, le)) left

-- what was left since a later moment was left since an earlier one
pub fewer_of : (idle : ℕ) (calls : List Call) (bytes : List ℕ) (t u : ℕ) (c : List ℕ) → t ≤ u → LeftSince idle calls bytes u c → LeftSince idle calls bytes t c
fewer_of idle [] bytes t u c le left = (omega (arith, le, left.0), left.1)
fewer_of idle (call ∷ calls) bytes t u c le left =
    ⊎_elim (λ here. inl (omega (arith, le, here.0), here.1)) (λ was. inr (fewer_of (idle_before call) calls (before_call call bytes) t u c le was)) left

pub only_now_of : (idle : ℕ) (calls : List Call) (bytes : List ℕ) (c : List ℕ) → LeftSince idle calls bytes (moments idle calls) c → IsImage (state_after calls bytes) c
only_now_of idle [] bytes c left = left.1
only_now_of idle (call ∷ calls) bytes c left =
    ⊎_elim (λ here. here.1) (λ was. let le = left_bound (idle_before call) calls (before_call call bytes) (moments idle (call ∷ calls)) c was in absurd (omega (arith, le))) left

-- bytes, by the test and by each element
pub are_bytes_is : (xs : List ℕ) → are_bytes xs ≡ true → IsBytes xs
are_bytes_is [] is i = lit< tt
are_bytes_is (x ∷ xs) is zero = ltb-true x 256 (and_parts (nat_lt x 256) (are_bytes xs) is).0
are_bytes_is (x ∷ xs) is (suc i) = are_bytes_is xs (and_parts (nat_lt x 256) (are_bytes xs) is).1 i

-- a call of the record
pub write_inside : (at : ℕ) (old bytes : List ℕ) → (nat_le (512 * at + length old) (length bytes) && (length old == 512 * (length old / 512) && are_bytes bytes)) ≡ true
    → (512 * at + length old ≤ length bytes) × (length old ≡ 512 * (length old / 512)) × (are_bytes bytes ≡ true)
write_inside at old bytes is =
    let both = and_parts (nat_le (512 * at + length old) (length bytes)) (length old == 512 * (length old / 512) && are_bytes bytes) is in
    let rest = and_parts (length old == 512 * (length old / 512)) (are_bytes bytes) both.1 in
    (leb-true (512 * at + length old) (length bytes) both.0, eqb-true (length old) (512 * (length old / 512)) rest.0, rest.1)

pub length-before : (call : Call) (bytes : List ℕ) → is_inside call bytes ≡ true → length (before_call call bytes) ≡ length bytes
length-before (Write at replaced idle) bytes is = let fits = write_inside at replaced.items bytes is in length-pasted at (length replaced.items / 512) replaced.items bytes fits.0 fits.1
length-before (Barrier idle) bytes is = refl

pub record_whole : (calls : List Call) (bytes : List ℕ) → is_record calls bytes ≡ true → length bytes ≡ 512 * (length bytes / 512)
record_whole [] bytes is = eqb-true (length bytes) (512 * (length bytes / 512)) (and_parts (length bytes == 512 * (length bytes / 512)) (are_bytes bytes) is).0
record_whole (call ∷ calls) bytes is =
    let both = and_parts (is_inside call bytes) (is_record calls (before_call call bytes)) is in
    let same = length-before call bytes both.0 in
    subst (λ (n : ℕ). n ≡ 512 * (n / 512)) same (record_whole calls (before_call call bytes) both.1)

pub record_bytes : (calls : List Call) (bytes : List ℕ) → is_record calls bytes ≡ true → are_bytes bytes ≡ true
record_bytes [] bytes is = (and_parts (length bytes == 512 * (length bytes / 512)) (are_bytes bytes) is).1
record_bytes (Write at replaced idle ∷ calls) bytes is =
    (write_inside at replaced.items bytes (and_parts (is_inside (Write at replaced idle) bytes) (is_record calls (overwritten at replaced.items bytes)) is).0).2
record_bytes (Barrier idle ∷ calls) bytes is = record_bytes calls bytes (and_parts (is_inside (Barrier idle) bytes) (is_record calls bytes) is).1

same_size : (call : Call) (bytes : List ℕ) (s : State) → (after_call call bytes s).size ≡ s.size
same_size (Write at replaced idle) bytes s = refl
same_size (Barrier idle) bytes s = refl

pub size_after : (calls : List Call) (bytes : List ℕ) → is_record calls bytes ≡ true → (state_after calls bytes).size ≡ length bytes / 512
size_after [] bytes is = refl
size_after (call ∷ calls) bytes is =
    let both = and_parts (is_inside call bytes) (is_record calls (before_call call bytes)) is in
    same_size call bytes (state_after calls (before_call call bytes))
    ∙ size_after calls (before_call call bytes) both.1
    ∙ ap (λ (n : ℕ). n / 512) (length-before call bytes both.0)

pub sized_of : (calls : List Call) (bytes : List ℕ) → is_record calls bytes ≡ true → Some (length bytes / 512) ≡ Some (state_after calls bytes).size
sized_of calls bytes is = ap Some (sym (size_after calls bytes is))

filled_at_first : (bytes : List ℕ) → length bytes ≡ 512 * (length bytes / 512) → IsBytes bytes → Filled (state_of bytes)
filled_at_first bytes whole small = record {
  some = λ k lt. omega arith;
  long = λ k lt c one. ⊎_elim (λ e. ap length e ∙ length-take-le 512 (drop (512 * k) bytes) (omega (arith, lt, whole, length-drop (512 * k) bytes))) (λ none. absurd none) one;
  bytes = λ k lt c one. ⊎_elim (λ e. subst IsBytes (sym e) (bytes_sector k bytes small)) (λ none. absurd none) one;
}

filled_after : (call : Call) (bytes : List ℕ) (s : State) → is_inside call bytes ≡ true → Filled s → Filled (after_call call bytes s)
filled_after (Write at replaced idle) bytes s is filled =
    let fits = write_inside at replaced.items bytes is in
    let n = length replaced.items in
    let long : length (part at n bytes) ≡ n = length-take-le n (drop (512 * at) bytes) (omega (arith, fits.0, length-drop (512 * at) bytes)) in
    filled_written s at (part at n bytes) filled (subst (λ (m : ℕ). m ≡ 512 * (m / 512)) (sym long) fits.1)
    (bytes_taken n (drop (512 * at) bytes) (bytes_dropped (512 * at) bytes (are_bytes_is bytes fits.2)))
filled_after (Barrier idle) bytes s is filled = filled_settled s filled

pub filled_of : (calls : List Call) (bytes : List ℕ) → is_record calls bytes ≡ true → Filled (state_after calls bytes)
filled_of [] bytes is = filled_at_first bytes (record_whole [] bytes is) (are_bytes_is bytes (record_bytes [] bytes is))
filled_of (call ∷ calls) bytes is =
    let both = and_parts (is_inside call bytes) (is_record calls (before_call call bytes)) is in
    filled_after call bytes (state_after calls (before_call call bytes)) both.0 (filled_of calls (before_call call bytes) both.1)
