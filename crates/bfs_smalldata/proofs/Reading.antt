-- The item that bytes begin with depends on its own bytes alone.
use Rattle.std.proofs.Common.{◌≡◌, ℕ, ◌+◌, ◌-◌, ◌≤◌, List, ◌++◌, length, take, drop, sym, ◌∙◌, ap, arith, length-drop, length-append, length-take, min}
use Rattle.std.proofs.lemmas.List.{drop-drop, drop-take, take-take, drop-append-le, take-append-le, length-take-le}
use Rattle.byteorder.specs.Endian.{little_number}
use Rattle.byteorder.specs.Numbers.{little_from-take, little_from-append}
use Rattle.bfs_bytes.specs.Fields.{unsigned_at}
use Rattle.bfs_smalldata.specs.Items.{Item, Begins, name_size, data_size, size_in, size_of, item_in}

-- a number behind a place
pub unsigned_dropped : (n : ℕ) (b : List ℕ) (at k : ℕ) → unsigned_at n (drop at b) k ≡ unsigned_at n b (at + k)
unfolding unsigned_at
unsigned_dropped n b at k = ap (little_number n) (drop-drop k at b)

-- a part behind a place
pub part_dropped : (n k at : ℕ) (b : List ℕ) → take n (drop k (drop at b)) ≡ take n (drop (at + k) b)
part_dropped n k at b = ap (take n) (drop-drop k at b)

-- a number in the first bytes
pub unsigned_taken : (n m : ℕ) (b : List ℕ) (at : ℕ) → at + n ≤ m → unsigned_at n (take m b) at ≡ unsigned_at n b at
unfolding unsigned_at
unsigned_taken n m b at h =
    let rest : m ≡ at + (m - at) = omega arith in
    ap (λ (k : ℕ). little_number n (drop at (take k b))) rest
    ∙ ap (little_number n) (drop-take at (m - at) b)
    ∙ little_from-take 0 n (m - at) (drop at b) (omega arith)

-- a number in front of other bytes
pub unsigned_joined : (n : ℕ) (p q : List ℕ) (at : ℕ) → at + n ≤ length p → unsigned_at n (p ++ q) at ≡ unsigned_at n p at
unfolding unsigned_at
unsigned_joined n p q at h =
    ap (little_number n) (drop-append-le at p q (omega arith))
    ∙ little_from-append n (drop at p) q (omega (arith, length-drop at p))

-- a part of the first bytes
part-take : (n m at : ℕ) (b : List ℕ) → at + n ≤ m → take n (drop at (take m b)) ≡ take n (drop at b)
part-take n m at b h =
    let rest : m ≡ at + (m - at) = omega arith in
    ap (λ (k : ℕ). take n (drop at (take k b))) rest
    ∙ ap (take n) (drop-take at (m - at) b)
    ∙ take-take n (m - at) (drop at b) (omega arith)

-- a part in front of other bytes
part-append : (n at : ℕ) (p q : List ℕ) → at + n ≤ length p → take n (drop at (p ++ q)) ≡ take n (drop at p)
part-append n at p q h =
    ap (take n) (drop-append-le at p q (omega arith))
    ∙ take-append-le n (drop at p) q (omega (arith, length-drop at p))

-- a list of items that goes on
pub is_more : (b : List ℕ) (item : Item) → Begins b item → size_of item ≡ size_in b
is_more b item begins =
    let name : length item.name ≡ name_size b = ap (λ (i : Item). length i.name) begins.same ∙ length-take-le (name_size b) (drop 8 b) (omega (arith, begins.inside, length-drop 8 b)) in
    let datas : length item.bytes ≡ data_size b =
    ap (λ (i : Item). length i.bytes) begins.same
    ∙ length-take-le (data_size b) (drop (8 + name_size b + 3) b) (omega (arith, begins.inside, length-drop (8 + name_size b + 3) b)) in
    omega (arith, name, datas)

-- it reads its own bytes alone
item_taken : (m : ℕ) (b : List ℕ) → size_in b ≤ m → item_in (take m b) ≡ item_in b
item_taken m b h =
    let names : name_size (take m b) ≡ name_size b = unsigned_taken 2 m b 4 (omega arith) in
    let datas : data_size (take m b) ≡ data_size b = unsigned_taken 2 m b 6 (omega arith) in
    let kind : unsigned_at 4 (take m b) 0 ≡ unsigned_at 4 b 0 = unsigned_taken 4 m b 0 (omega arith) in
    let name : take (name_size (take m b)) (drop 8 (take m b)) ≡ take (name_size b) (drop 8 b) =
    ap (λ (n : ℕ). take n (drop 8 (take m b))) names ∙ part-take (name_size b) m 8 b (omega arith) in
    let data_part : take (data_size (take m b)) (drop (8 + name_size (take m b) + 3) (take m b)) ≡ take (data_size b) (drop (8 + name_size b + 3) b) =
    ap (λ (n : ℕ). take (data_size (take m b)) (drop (8 + n + 3) (take m b))) names
    ∙ ap (λ (n : ℕ). take n (drop (8 + name_size b + 3) (take m b))) datas
    ∙ part-take (data_size b) m (8 + name_size b + 3) b (omega arith) in
    cc

item_joined : (p q : List ℕ) → 8 ≤ length p → size_in p ≤ length p → item_in (p ++ q) ≡ item_in p
item_joined p q some h =
    let names : name_size (p ++ q) ≡ name_size p = unsigned_joined 2 p q 4 (omega arith) in
    let datas : data_size (p ++ q) ≡ data_size p = unsigned_joined 2 p q 6 (omega arith) in
    let kind : unsigned_at 4 (p ++ q) 0 ≡ unsigned_at 4 p 0 = unsigned_joined 4 p q 0 (omega arith) in
    let name : take (name_size (p ++ q)) (drop 8 (p ++ q)) ≡ take (name_size p) (drop 8 p) =
    ap (λ (n : ℕ). take n (drop 8 (p ++ q))) names ∙ part-append (name_size p) 8 p q (omega arith) in
    let data_part : take (data_size (p ++ q)) (drop (8 + name_size (p ++ q) + 3) (p ++ q)) ≡ take (data_size p) (drop (8 + name_size p + 3) p) =
    ap (λ (n : ℕ). take (data_size (p ++ q)) (drop (8 + n + 3) (p ++ q))) names
    ∙ ap (λ (n : ℕ). take n (drop (8 + name_size p + 3) (p ++ q))) datas
    ∙ part-append (data_size p) (8 + name_size p + 3) p q (omega arith) in
    cc

pub begins_taken : (m : ℕ) (b : List ℕ) (item : Item) → Begins b item → size_of item ≤ m → Begins (take m b) item
begins_taken m b item begins h =
    let size = is_more b item begins in
    let names : name_size (take m b) ≡ name_size b = unsigned_taken 2 m b 4 (omega (arith, size)) in
    let datas : data_size (take m b) ≡ data_size b = unsigned_taken 2 m b 6 (omega (arith, size)) in
    let long : length (take m b) ≡ min m (length b) = length-take m b in
    record {
      goes_on = (omega (arith, begins.inside, size, long), omega (arith, begins.goes_on.1, names));
      inside = omega (arith, begins.inside, size, long, names, datas);
      same = begins.same ∙ sym (item_taken m b (omega (arith, size)));
    }

pub begins_joined : (p q : List ℕ) (item : Item) → Begins p item → Begins (p ++ q) item
begins_joined p q item begins =
    let names : name_size (p ++ q) ≡ name_size p = unsigned_joined 2 p q 4 (omega (arith, begins.goes_on.0)) in
    let datas : data_size (p ++ q) ≡ data_size p = unsigned_joined 2 p q 6 (omega (arith, begins.goes_on.0)) in
    record {
      goes_on = (omega (arith, begins.goes_on.0, length-append p q), omega (arith, begins.goes_on.1, names));
      inside = omega (arith, begins.inside, names, datas, length-append p q);
      same = begins.same ∙ sym (item_joined p q begins.goes_on.0 begins.inside);
    }
