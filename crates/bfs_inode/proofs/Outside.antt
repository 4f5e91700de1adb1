-- Where only the bytes of the data stream have changed: numbers before it are the same, and the change is one field put.
use Rattle.std.proofs.Common.{◌≡◌, ◌≤◌, ◌+◌, ◌-◌, ℕ, List, ◌++◌, length, take, drop, ap, ap₂, sym, ◌∙◌, arith, length-take, length-drop, append_assoc}
use Rattle.std.proofs.lemmas.List.{drop-take, take-take, drop-drop, take-append-drop}
use Rattle.byteorder.specs.Endian.{little_number}
use Rattle.byteorder.specs.Numbers.{little_from-take}
use Rattle.bfs_bytes.specs.Fields.{Puts, unsigned_at}
use Rattle.bfs_inode.specs.Inode.{KeepsOutside}

-- a number in the first bytes is one in all of them
in_front : (bytes : List ℕ) (n a : ℕ) → a + n ≤ 72 → little_number n (drop a (take 72 bytes)) ≡ little_number n (drop a bytes)
in_front bytes n a low =
    let whole : 72 ≡ a + (72 - a) = omega (arith, low) in
    let cut : take n (drop a (take 72 bytes)) ≡ take n (drop a bytes) = ap (λ (k : ℕ). take n (drop a (take k bytes))) whole ∙ ap (take n) (drop-take a (72 - a) bytes) ∙ take-take n (72 - a) (drop a bytes) (omega (arith, low)) in
    sym (little_from-take 0 n n (drop a (take 72 bytes)) (omega arith)) ∙ ap (little_number n) cut ∙ little_from-take 0 n n (drop a bytes) (omega arith)

pub unsigned-outside : (old new : List ℕ) → KeepsOutside old new → (n a : ℕ) → a + n ≤ 72 → unsigned_at n new a ≡ unsigned_at n old a
unfolding unsigned_at
unsigned-outside old new kept n a low = sym (in_front new n a low) ∙ ap (λ (l : List ℕ). little_number n (drop a l)) kept.1 ∙ in_front old n a low

pub puts-outside : (old new : List ℕ) → 216 ≤ length old → KeepsOutside old new → Puts 72 (take 144 (drop 72 new)) old new
puts-outside old new long kept =
    let size : length (take 144 (drop 72 new)) ≡ 144 = let e = kept.0 in omega (arith, e, long, length-take 144 (drop 72 new), length-drop 72 new) in
    let behind : drop 144 (drop 72 new) ≡ drop (72 + length (take 144 (drop 72 new))) old = drop-drop 144 72 new ∙ kept.2 ∙ ap (λ (k : ℕ). drop (72 + k) old) (sym size) in
    sym (take-append-drop 72 new) ∙ ap₂ (λ (x y : List ℕ). x ++ y) kept.1 (sym (take-append-drop 144 (drop 72 new)) ∙ ap (λ (y : List ℕ). take 144 (drop 72 new) ++ y) behind)
    ∙ sym (append_assoc (take 72 old) (take 144 (drop 72 new)) (drop (72 + length (take 144 (drop 72 new))) old))
