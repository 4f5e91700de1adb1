-- The links and both counts of a page, written one after another.
use Rattle.std.proofs.Common.{◌≡◌, ◌≤◌, ◌+◌, ◌-◌, ℕ, List, ◌++◌, length, length-append, take, drop, ap, sym, ◌∙◌, arith, inl, FitsSigned}
use Rattle.std.specs.Int.{w64, cast_signed}
use Rattle.byteorder.specs.Endian.{little_number}
use Rattle.byteorder.specs.Numbers.{little_from-take}
use Rattle.std.proofs.lemmas.List.{take_at, drop-take, take-take}
use Rattle.bfs_bytes.specs.Fields.{Puts, signed64_at, unsigned_at}
use Rattle.bfs_bytes.proofs.Lengths.{length-unsigned_bytes, length-signed64_bytes}
use Rattle.bfs_node.specs.declared.links.Links.{Links}
use Rattle.bfs_bytes.proofs.Puts.{puts_then}
use Rattle.bfs_bytes.proofs.Kept.{puts-length, bytes-kept, bytes-put, signed64-kept, signed64-put}
use Rattle.bfs_node.specs.Page.{head_bytes, links_of, left_of, right_of, overflow_of}
use Rattle.bfs_node.specs.Written.{part, two, eight}

pub begun : (p p1 p2 p3 p4 p5 : List ℕ) (links : Links) (count bytes : ℕ) → length p ≡ 1024
    → Puts 0 (eight links.left) p p1 → Puts 8 (eight links.right) p1 p2 → Puts 16 (eight links.overflow) p2 p3 → Puts 24 (two count) p3 p4 → Puts 26 (two bytes) p4 p5
    → FitsSigned w64 links.left → FitsSigned w64 links.right → FitsSigned w64 links.overflow
    → (links_of p5 ≡ links) × (part p5 24 2 ≡ two count) × (part p5 26 2 ≡ two bytes)
begun p p1 p2 p3 p4 p5 links count bytes size e1 e2 e3 e4 e5 f1 f2 f3 =
    let n1 : length (eight links.left) ≡ 8 = length-signed64_bytes links.left in
    let n2 : length (eight links.right) ≡ 8 = length-signed64_bytes links.right in
    let n3 : length (eight links.overflow) ≡ 8 = length-signed64_bytes links.overflow in
    let n4 : length (two count) ≡ 2 = length-unsigned_bytes 2 count in
    let n5 : length (two bytes) ≡ 2 = length-unsigned_bytes 2 bytes in
    let s1 : length p1 ≡ 1024 = puts-length 0 (eight links.left) p p1 e1 (omega arith) ∙ size in
    let s2 : length p2 ≡ 1024 = puts-length 8 (eight links.right) p1 p2 e2 (omega arith) ∙ s1 in
    let s3 : length p3 ≡ 1024 = puts-length 16 (eight links.overflow) p2 p3 e3 (omega arith) ∙ s2 in
    let s4 : length p4 ≡ 1024 = puts-length 24 (two count) p3 p4 e4 (omega arith) ∙ s3 in
    let left : left_of p5 ≡ links.left =
    signed64-kept 26 (two bytes) p4 p5 e5 (omega arith) 0 (inl (omega arith))
    ∙ signed64-kept 24 (two count) p3 p4 e4 (omega arith) 0 (inl (omega arith))
    ∙ signed64-kept 16 (eight links.overflow) p2 p3 e3 (omega arith) 0 (inl (omega arith))
    ∙ signed64-kept 8 (eight links.right) p1 p2 e2 (omega arith) 0 (inl (omega arith))
    ∙ signed64-put 0 p p1 links.left e1 (omega arith) f1 in
    let right : right_of p5 ≡ links.right =
    signed64-kept 26 (two bytes) p4 p5 e5 (omega arith) 8 (inl (omega arith))
    ∙ signed64-kept 24 (two count) p3 p4 e4 (omega arith) 8 (inl (omega arith))
    ∙ signed64-kept 16 (eight links.overflow) p2 p3 e3 (omega arith) 8 (inl (omega arith))
    ∙ signed64-put 8 p1 p2 links.right e2 (omega arith) f2 in
    let overflow : overflow_of p5 ≡ links.overflow =
    signed64-kept 26 (two bytes) p4 p5 e5 (omega arith) 16 (inl (omega arith))
    ∙ signed64-kept 24 (two count) p3 p4 e4 (omega arith) 16 (inl (omega arith))
    ∙ signed64-put 16 p2 p3 links.overflow e3 (omega arith) f3 in
    let counted : part p5 24 2 ≡ two count =
    bytes-kept 26 (two bytes) p4 p5 e5 (omega arith) 24 2 (inl (omega arith))
    ∙ ap (take 2) (bytes-put 24 (two count) p3 p4 e4 (omega arith)) ∙ take_at (two count) (drop (24 + length (two count)) p3) 2 n4 in
    let keyed : part p5 26 2 ≡ two bytes =
    ap (take 2) (bytes-put 26 (two bytes) p4 p5 e5 (omega arith)) ∙ take_at (two bytes) (drop (26 + length (two bytes)) p4) 2 n5 in
    ((λ t. record { left = left t; right = right t; overflow = overflow t }), counted, keyed)

-- a number in the first 28 bytes
head8 : (p q : List ℕ) (at : ℕ) → part p 0 28 ≡ part q 0 28 → at + 8 ≤ 28 → part p at 8 ≡ part q at 8
head8 p q at e h = sym (inner p) ∙ ap (λ l. take 8 (drop at l)) e ∙ inner q
  where
    inner : (x : List ℕ) → take 8 (drop at (take 28 x)) ≡ take 8 (drop at x)
    inner x =
        let cut : 28 ≡ at + (28 - at) = omega arith in
        ap (λ t. take 8 (drop at (take t x))) cut ∙ ap (take 8) (drop-take at (28 - at) x) ∙ take-take 8 (28 - at) (drop at x) (omega arith)

same_number : (p q : List ℕ) (at : ℕ) → part p at 8 ≡ part q at 8 → signed64_at p at ≡ signed64_at q at
unfolding signed64_at unsigned_at
same_number p q at e =
    ap (cast_signed w64) (sym (little_from-take 0 8 8 (drop at p) (omega arith)) ∙ ap (little_number 8) e ∙ little_from-take 0 8 8 (drop at q) (omega arith))

-- pages with one head have one set of links
pub links-head : (p q : List ℕ) → part p 0 28 ≡ part q 0 28 → links_of p ≡ links_of q
links-head p q e =
    let left = same_number p q 0 (head8 p q 0 e (omega arith)) in
    let right = same_number p q 8 (head8 p q 8 e (omega arith)) in
    let overflow = same_number p q 16 (head8 p q 16 e (omega arith)) in
    λ t. record { left = left t; right = right t; overflow = overflow t }

-- the five fields are the first 28 bytes
pub headed : (p p1 p2 p3 p4 p5 : List ℕ) (links : Links) (count bytes : ℕ) → length p ≡ 1024
    → Puts 0 (eight links.left) p p1 → Puts 8 (eight links.right) p1 p2 → Puts 16 (eight links.overflow) p2 p3 → Puts 24 (two count) p3 p4 → Puts 26 (two bytes) p4 p5
    → Puts 0 (head_bytes links count bytes) p p5
unfolding head_bytes
headed p p1 p2 p3 p4 p5 links count bytes size e1 e2 e3 e4 e5 =
    let n1 : length (eight links.left) ≡ 8 = length-signed64_bytes links.left in
    let n2 : length (eight links.right) ≡ 8 = length-signed64_bytes links.right in
    let n3 : length (eight links.overflow) ≡ 8 = length-signed64_bytes links.overflow in
    let n4 : length (two count) ≡ 2 = length-unsigned_bytes 2 count in
    let n5 : length (two bytes) ≡ 2 = length-unsigned_bytes 2 bytes in
    let m2 : length (eight links.left ++ eight links.right) ≡ 16 = length-append (eight links.left) (eight links.right) ∙ omega arith in
    let m3 : length (eight links.left ++ eight links.right ++ eight links.overflow) ≡ 24 = length-append (eight links.left ++ eight links.right) (eight links.overflow) ∙ omega arith in
    let m4 : length (eight links.left ++ eight links.right ++ eight links.overflow ++ two count) ≡ 26 = length-append (eight links.left ++ eight links.right ++ eight links.overflow) (two count) ∙ omega arith in
    let q2 = puts_then 0 8 (eight links.left) (eight links.right) p p1 p2 (omega arith) (omega arith) e1 e2 in
    let q3 = puts_then 0 16 (eight links.left ++ eight links.right) (eight links.overflow) p p2 p3 (omega arith) (omega arith) q2 e3 in
    let q4 = puts_then 0 24 (eight links.left ++ eight links.right ++ eight links.overflow) (two count) p p3 p4 (omega arith) (omega arith) q3 e4 in
    puts_then 0 26 (eight links.left ++ eight links.right ++ eight links.overflow ++ two count) (two bytes) p p4 p5 (omega arith) (omega arith) q4 e5

pub length-head_bytes : (links : Links) (count bytes : ℕ) → length (head_bytes links count bytes) ≡ 28
unfolding head_bytes
length-head_bytes links count bytes =
    omega (
      arith,
      length-append (eight links.left ++ eight links.right ++ eight links.overflow ++ two count) (two bytes),
      length-append (eight links.left ++ eight links.right ++ eight links.overflow) (two count),
      length-append (eight links.left ++ eight links.right) (eight links.overflow),
      length-append (eight links.left) (eight links.right),
      length-signed64_bytes links.left,
      length-signed64_bytes links.right,
      length-signed64_bytes links.overflow,
      length-unsigned_bytes 2 count,
      length-unsigned_bytes 2 bytes,
    )
