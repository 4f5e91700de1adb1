-- How many blocks are left of a piece, and in which of them it goes on.
use Rattle.std.proofs.Common.{◌≡◌, ◌≢◌, ◌⊎◌, ⊎_elim, inl, inr, true, ◌≤◌, ◌<◌, ◌+◌, ◌-◌, ◌*◌, ◌/◌, ◌%◌, ◌==◌, ℕ, zero, suc, List, [], ◌∷◌, length, take, Bool, false, cond, Option, Some, None, OnOk, refl, sym, ◌∙◌, ap, subst, mod-lt, arith}
use Rattle.std.specs.Prelude.{slice_get, slice_index}
use Rattle.std.proofs.Math.Nat.{div-add-mod, div-lt_iff_lt-mul, mul_comm}
use Rattle.std.proofs.lemmas.Bool.{cases_lt}
use Rattle.bfs_disk.specs.State.{State}
use Rattle.bfs_super.specs.Conditions.{ceil}
use Rattle.bfs_device.specs.Ahead.{IsSteady}
use Rattle.bfs_device.specs.Books.{Books}
use Rattle.bfs_device.specs.Data.{newest_in}
use Rattle.bfs_device.specs.declared.journal.DeviceFault.{DeviceFault}
use Rattle.bfs_core.proofs.Pieces.{piece_apart}
use Rattle.bfs_commit.specs.Books.{SpaceBooks}
use Rattle.bfs_commit.specs.Places.{piece_blocks}
use Rattle.bfs_pieces.specs.Pieces.{IsPieceOf}
use Rattle.bfs_commit.specs.Open.{made_of, IsOpen, OpenView, calls_left, left_after, is_loaded, next_place, parts_left, reads_left, told_block, whole_blocks}
use Rattle.bfs_commit.specs.Held.{HasPlaces, IsOnDisk}
use Rattle.bfs_commit.specs.Volumes.{AreJoined}
use Rattle.bfs_file_io.proofs.Making.{place_data, told_contents}
use Rattle.bfs_file_io.proofs.Pieced.{block_low, place_in}

-- ---- numbers

-- a sum of numbers by their quotients and remainders
sum_in : (size a d : ℕ) → 0 < size → (let x : ℕ = a + d % size in ((a + d) / size ≡ d / size + x / size) × ((a + d) % size ≡ x % size))
sum_in size a d some =
    let x : ℕ = a + d % size in
    let e : size * (d / size) + d % size ≡ d = div-add-mod d size in
    let f : size * ((a + d % size) / size) + (a + d % size) % size ≡ a + d % size = div-add-mod (a + d % size) size in
    let m : size * (d / size + (a + d % size) / size) ≡ size * (d / size) + size * ((a + d % size) / size) = omega arith in
    place_in size (d / size + (a + d % size) / size) ((a + d % size) % size) (a + d) (mod-lt (a + d % size) some) (omega (arith, e, f, m))

pub index_sum : (size at done : ℕ) → 0 < size → done / size + (at % size + done % size) / size ≡ (at % size + done) / size
index_sum size at done some = sym (sum_in size (at % size) done some).0

begin_sum : (size at done : ℕ) → 0 < size → (at % size + done % size) % size ≡ (at + done) % size
begin_sum size at done some =
    let one = (sum_in size (at % size) done some).1 in
    let e : size * (at / size) + at % size ≡ at = div-add-mod at size in
    let f : size * ((at % size + done) / size) + (at % size + done) % size ≡ at % size + done = div-add-mod (at % size + done) size in
    let m : size * (at / size + (at % size + done) / size) ≡ size * (at / size) + size * ((at % size + done) / size) = omega arith in
    sym one ∙ sym (place_in size (at / size + (at % size + done) / size) ((at % size + done) % size) (at + done) (mod-lt (at % size + done) some) (omega (arith, e, f, m))).1

pub blocks_sum : (size at done left : ℕ) → 0 < size → left ≢ 0 → left / size + ((at % size + done % size) % size + left % size + size - 1) / size ≡ piece_blocks size (at + done) left
blocks_sum size at done left some any =
    let z : (left == 0) ≡ false = grind (arith, any) in
    let c : (at % size + done % size) % size + left % size + size - 1 ≡ ((at % size + done % size) % size + (size - 1)) + left % size = omega (arith, some) in
    let d : ((at % size + done % size) % size + (size - 1)) + left ≡ ((at % size + done % size) % size + left) + (size - 1) = omega arith in
    ap (λ (n : ℕ). left / size + n / size) c
    ∙ sym (sum_in size ((at % size + done % size) % size + (size - 1)) left some).0
    ∙ ap (λ (n : ℕ). n / size) d
    ∙ ap (λ (n : ℕ). ceil (n + left) size) (begin_sum size at done some)
    ∙ sym (ap (λ (t : Bool). cond t 0 (ceil ((at + done) % size + left) size)) z)

pub skip_sum : (size at done : ℕ) → 0 < size → (at % size + done % size) % size ≡ (at + done) % size
skip_sum size at done some = begin_sum size at done some

low_div : (x size k : ℕ) → 0 < size → x < size * (k + 1) → x / size ≤ k
low_div x size k some lt =
    let m : (k + 1) * size ≡ size * (k + 1) = mul_comm (k + 1) size in
    let h : x / size < k + 1 = (div-lt_iff_lt-mul {k = size} {x = x} {y = k + 1} some).1 (let g : x < (k + 1) * size = omega (arith, lt, m) in g) in
    omega (arith, h)

-- there are at most two more blocks than whole ones
pub parts_few : (size from n : ℕ) → 0 < size → from < size → ceil (from + n) size ≤ whole_blocks size from n + 2
parts_few size from n some low = ⊎_elim (λ lt. short lt) (λ le. long le) (cases_lt n head)
  where
    head : ℕ
    head = (size - from) % size

    sum : ℕ
    sum = from + n + (size - 1)

    quotient : size * (sum / size) + sum % size ≡ sum
    quotient = div-add-mod sum size

    wholes : size * ((n - head) / size) + (n - head) % size ≡ n - head
    wholes = div-add-mod (n - head) size

    rest : (n - head) % size < size
    rest = mod-lt (n - head) some

    head_low : head < size
    head_low = mod-lt (size - from) some

    -- the first block ends behind so many bytes
    ends : (from ≡ 0) × (head ≡ 0) ⊎ (from + head ≡ size)
    ends = ⊎_elim (λ more. inr (part more)) (λ le. let none : from ≡ 0 = omega (arith, le) in inl (none, whole none)) (cases_lt 0 from)
      where
        whole : from ≡ 0 → head ≡ 0
        whole none = (place_in size 1 0 (size - from) some (omega (arith, none))).1

        part : 0 < from → from + head ≡ size
        part more =
            let e : head ≡ size - from = (place_in size 0 (size - from) (size - from) (omega (arith, more, low)) (let z : size - from ≡ size * 0 + (size - from) = omega arith in z)).1 in
            omega (arith, e, low)

    short : n < head → sum / size ≤ (n - head) / size + 2
    short lt = let u = up in omega (arith, u)
      where
        up : sum / size ≤ 2
        up = low_div sum size 2 some (let m : size * (2 + 1) ≡ size + size + size = omega arith in let h = head_low in let b : sum < size * (2 + 1) = omega (arith, lt, h, low, m) in b)

    long : head ≤ n → sum / size ≤ (n - head) / size + 2
    long le = low_div sum size ((n - head) / size + 2) some (⊎_elim
        (λ e.
        let m : size * ((n - head) / size + 2 + 1) ≡ size * ((n - head) / size) + size + size + size = omega arith in
        let w = wholes in
        let r = rest in
        let h = e.1 in
        let f = e.0 in
        let b : sum < size * ((n - head) / size + 2 + 1) = omega (arith, m, w, r, h, f, le) in
        b)
        (λ e.
        let m : size * ((n - head) / size + 2 + 1) ≡ size * ((n - head) / size) + size + size + size = omega arith in
        let w = wholes in
        let r = rest in
        let b : sum < size * ((n - head) / size + 2 + 1) = omega (arith, m, w, r, e, le) in
        b)
        ends)

pub few_parts : (size at n : ℕ) → 0 < size → piece_blocks size at n ≤ whole_blocks size (at % size) n + 2
few_parts size at zero some = omega arith
few_parts size at (suc n) some =
    let z : (suc n == 0) ≡ false = grind arith in
    subst (λ (t : Bool). cond t 0 (ceil (at % size + suc n) size) ≤ whole_blocks size (at % size) (suc n) + 2) (sym z) (parts_few size (at % size) (suc n) some (mod-lt at some))

-- ---- what is left

-- where no block has bytes there are none
none_left : (size at count : ℕ) → 0 < size → piece_blocks size at count ≡ 0 → count ≡ 0
none_left size at zero some none = refl
none_left size at (suc n) some none = absurd (let low = block_low size at (suc n) 0 (piece_blocks size at (suc n)) some (omega arith) refl in omega (arith, low, none))

-- some blocks are left only of a piece that met no fault, and isn't whole
-- a piece of which no block is left has no part of one
no_reads : (w : Bool) (parts n : ℕ) → parts ≡ 0 → cond w (parts - n) 0 ≡ 0
no_reads false parts n none = refl
no_reads true parts n none = omega (arith, none)

pub left_more : (size : ℕ) (p : OpenView) → calls_left size p ≢ 0 → p.done < length p.bytes
left_more size p some = by_fault p.fault some
  where
    none_more : length p.bytes ≤ p.done → left_after size p None ≡ 0
    none_more le =
        let none : length p.bytes - p.done ≡ 0 = omega (arith, le) in
        let blocks : piece_blocks size (p.hold.at + p.done) (length p.bytes - p.done) ≡ 0 = ap (piece_blocks size (p.hold.at + p.done)) none in
        let reads : reads_left size p ≡ 0 = no_reads p.hold.write (parts_left size p) (cond (is_loaded size p) 1 0) (omega (arith, blocks)) in
        omega (arith, blocks, reads)

    by_fault : (f : Option DeviceFault) → left_after size p f ≢ 0 → p.done < length p.bytes
    by_fault None some = ⊎_elim (λ lt. lt) (λ le. absurd (some (none_more le))) (cases_lt p.done (length p.bytes))
    by_fault (Some f) some = absurd (some refl)

take_all : (n : ℕ) (xs : List ℕ) → length xs ≤ n → take n xs ≡ xs
take_all zero [] le = refl
take_all (suc n) [] le = refl
take_all zero (x ∷ xs) le = absurd (omega (arith, le))
take_all (suc n) (x ∷ xs) le = ap (λ (l : List ℕ). x ∷ l) (take_all n xs (omega (arith, le)))

-- what was made of a piece of which nothing is left and that met no fault is on the disk
pub let_on : (sp : SpaceBooks) (b : Books) (told : Option State) (p : OpenView) → IsSteady b → AreJoined sp b told → IsOpen p sp.view b told → 0 < sp.view.sup.block_size → calls_left sp.view.sup.block_size p ≡ 0 → OnOk (made_of p.fault) (IsOnDisk sp.view b told p.hold.id p.hold.at p.bytes)
let_on sp b told p steady joined opened some none = by_fault p.fault none
  where
    whole : length p.bytes - p.done ≡ 0 → IsOnDisk sp.view b told p.hold.id p.hold.at p.bytes
    whole all = record {
      places = p.places;
      has = subst (λ (n : ℕ). HasPlaces sp.view b told p.hold.id p.hold.at n p.places) (sym opened.long) opened.has;
      bytes_are = λ st is k lt.
          let size : ℕ = sp.view.sup.block_size in
          let at : ℕ = p.hold.at in
          let low : (at % size + k) / size < length p.places = block_low size at p.hold.length k (length p.places) some (let e = opened.long in omega (arith, lt, e)) opened.has.many in
          let s = joined.stands st is in
          let apart : newest_in b.groups (slice_index p.places ((at % size + k) / size)) ≡ None = piece_apart s.t0 sp.view b s.touched st s.core (slice_index p.places ((at % size + k) / size)) (place_data sp b told joined p opened st is ((at % size + k) / size) low) in
          let same = told_contents b st (slice_index p.places ((at % size + k) / size)) steady (opened.blocks ((at % size + k) / size) 0 low) apart in
          let made = subst (IsPieceOf (told_block b st) sp.view.sup.block_size p.places (p.hold.at % sp.view.sup.block_size)) (take_all p.done p.bytes (omega (arith, all))) (opened.made st is) k lt in
          ap (λ (bs : List ℕ). slice_get bs ((at % size + k) % size)) (sym same) ∙ made;
    }

    by_fault : (f : Option DeviceFault) → left_after sp.view.sup.block_size p f ≡ 0 → OnOk (made_of f) (IsOnDisk sp.view b told p.hold.id p.hold.at p.bytes)
    by_fault None none = whole (none_left sp.view.sup.block_size (p.hold.at + p.done) (length p.bytes - p.done) some (omega (arith, none)))
    by_fault (Some f) none = tt

-- no waiting group has a block that is to be written, over what a disk tells
pub not_waiting : (sp : SpaceBooks) (b : Books) (told : Option State) (p : OpenView) → AreJoined sp b told → IsOpen p sp.view b told → 0 < sp.view.sup.block_size → p.done < length p.bytes → (newest_in b.groups (next_place sp.view.sup.block_size p) ≢ None) → told ≡ None
not_waiting sp b told p joined opened some more waits = by_told told refl
  where
    by_told : (o : Option State) → told ≡ o → o ≡ None
    by_told None is = refl
    by_told (Some st) is = absurd (
        let size : ℕ = sp.view.sup.block_size in
        let low : (p.hold.at % size + p.done) / size < length p.places = block_low size p.hold.at p.hold.length p.done (length p.places) some (let e = opened.long in omega (arith, more, e)) opened.has.many in
        let s = joined.stands st is in
        waits (piece_apart s.t0 sp.view b s.touched st s.core (next_place size p) (place_data sp b told joined p opened st is ((p.hold.at % size + p.done) / size) low)))
