-- Links of values, and right links of pages.
use Rattle.std.proofs.Common.{◌≡◌, ◌≤◌, ◌<◌, ◌+◌, ◌/◌, ◌%◌, ◌^◌, ℕ, ℤ, List, ap, ◌∙◌, arith, w64}
use Rattle.std.specs.Int.{cast_signed, cast_unsigned}
use Rattle.std.proofs.lemmas.Int.{of_z-to_z}
use Rattle.std.proofs.Math.Facts.{to_z_pos}
use Rattle.bfs_bytes.specs.Fields.{unsigned_at, signed64_at}
use Rattle.bfs_pages.specs.Trees.{neighbours_in, place_of}
use Rattle.bfs_pages.proofs.Says.{place-pos}
use Rattle.bfs_values.specs.declared.link.Link.TheVariants.{Fragment, Chain}
use Rattle.bfs_values.specs.Links.{link_in, link_by, page_bits}

chain-bits : (n page : ℕ) → n ≡ 9223372036854775808 + page → page < 2 ^ 62 → page % 1024 ≡ 0 → link_by (n / 2 ^ 62) n ≡ Chain page
chain-bits n page e s w =
    let k : n / 2 ^ 62 ≡ 2 = omega (arith, e, s) in
    let p : page_bits n ≡ page = omega (arith, e, s, w) in
    ap (λ k. link_by k n) k ∙ ap (λ p. Chain p) p

fragment-bits : (n page index : ℕ) → n ≡ 13835058055282163712 + page + index → page < 2 ^ 62 → page % 1024 ≡ 0 → index < 16 → link_by (n / 2 ^ 62) n ≡ Fragment page index
fragment-bits n page index e s w i =
    let k : n / 2 ^ 62 ≡ 3 = omega (arith, e, s, w, i) in
    let p : page_bits n ≡ page = omega (arith, e, s, w, i) in
    let j : n % 1024 ≡ index = omega (arith, e, s, w, i) in
    ap (λ k. link_by k n) k ∙ ap (λ p. Fragment p (n % 1024)) p ∙ ap (λ j. Fragment page j) j

pub chain-link : (z : ℤ) (n page : ℕ) → z ≡ cast_signed w64 n → n ≡ 9223372036854775808 + page → page < 2 ^ 62 → page % 1024 ≡ 0 → link_in z ≡ Chain page
unfolding link_in
chain-link z n page is e s w =
    let bits : cast_unsigned w64 z ≡ n = ap (cast_unsigned w64) is ∙ of_z-to_z w64 n (omega (arith, e, s)) in
    ap (λ b. link_by (b / 2 ^ 62) b) bits ∙ chain-bits n page e s w

pub fragment-link : (z : ℤ) (n page index : ℕ) → z ≡ cast_signed w64 n → n ≡ 13835058055282163712 + page + index → page < 2 ^ 62 → page % 1024 ≡ 0 → index < 16 → link_in z ≡ Fragment page index
unfolding link_in
fragment-link z n page index is e s w i =
    let bits : cast_unsigned w64 z ≡ n = ap (cast_unsigned w64) is ∙ of_z-to_z w64 n (omega (arith, e, s, w, i)) in
    ap (λ b. link_by (b / 2 ^ 62) b) bits ∙ fragment-bits n page index e s w i

pub right-none : (page : List ℕ) → unsigned_at 8 page 8 ≡ 18446744073709551615 → (neighbours_in page).1 ≡ 0
unfolding signed64_at
right-none page e = ap (λ n. place_of (cast_signed w64 n)) e

pub right-some : (page : List ℕ) (q : ℕ) → unsigned_at 8 page 8 ≡ q → 1 ≤ q → q < 2 ^ 62 → (neighbours_in page).1 ≡ q
unfolding signed64_at
right-some page q e some small = ap (λ n. place_of (cast_signed w64 n)) e ∙ ap place_of (to_z_pos w64 (omega (arith, small))) ∙ place-pos q some

pub left-none : (page : List ℕ) → unsigned_at 8 page 0 ≡ 18446744073709551615 → (neighbours_in page).0 ≡ 0
unfolding signed64_at
left-none page e = ap (λ n. place_of (cast_signed w64 n)) e

pub left-some : (page : List ℕ) (q : ℕ) → unsigned_at 8 page 0 ≡ q → 1 ≤ q → q < 2 ^ 63 → (neighbours_in page).0 ≡ q
unfolding signed64_at
left-some page q e some small = ap (λ n. place_of (cast_signed w64 n)) e ∙ ap place_of (to_z_pos w64 small) ∙ place-pos q some

pub left-same : (old new : List ℕ) → unsigned_at 8 new 0 ≡ unsigned_at 8 old 0 → (neighbours_in new).0 ≡ (neighbours_in old).0
unfolding signed64_at
left-same old new e = ap (λ n. place_of (cast_signed w64 n)) e

pub same-links : (old new : List ℕ) → unsigned_at 8 new 0 ≡ unsigned_at 8 old 0 → unsigned_at 8 new 8 ≡ unsigned_at 8 old 8 → neighbours_in new ≡ neighbours_in old
unfolding signed64_at
same-links old new a b = λ i. (place_of (cast_signed w64 (a i)), place_of (cast_signed w64 (b i)))
