-- Parts of a list of bytes after a write.
use Rattle.std.proofs.Common.{◌≡◌, ◌≤◌, ◌+◌, ◌-◌, ℕ, List, ◌++◌, length, take, drop, ap, sym, ◌∙◌, subst, arith, length-append, length-take, length-drop, append_assoc, take-take, drop-drop}
use Rattle.std.proofs.lemmas.List.{drop-append-le, take-append-le, drop-take}
use Rattle.std.proofs.Math.Seq.{take-append_seam, drop-append-add}
use Rattle.bfs_node.specs.Written.{part, with_part}

pub take-front : (n : ℕ) (xs ys : List ℕ) → length xs ≡ n → take n (xs ++ ys) ≡ xs
take-front n xs ys e = subst (λ k. take k (xs ++ ys) ≡ xs) e (take-append_seam xs ys)

take-of_take : (n m : ℕ) (xs : List ℕ) → n ≤ m → take n (take m xs) ≡ take n xs
take-of_take n m xs h = grind (arith, take-take)

drop-of_drop : (n m : ℕ) (xs : List ℕ) → drop n (drop m xs) ≡ drop (m + n) xs
drop-of_drop n m xs = drop-drop n m xs

pub length-part : (p : List ℕ) (a n : ℕ) → a + n ≤ length p → length (part p a n) ≡ n
length-part p a n h = omega (arith, length-take n (drop a p), length-drop a p)

pub part-before : (p bs : List ℕ) (at a n : ℕ) → a + n ≤ at → at + length bs ≤ length p → part (with_part p at bs) a n ≡ part p a n
part-before p bs at a n h f =
    let rest : List ℕ = drop (at + length bs) p in
    let front : length (take at p) ≡ at = omega (arith, length-take at p) in
    let cut : at ≡ a + (at - a) = omega arith in
    let inner : drop a (take at p) ≡ take (at - a) (drop a p) = ap (λ k. drop a (take k p)) cut ∙ drop-take a (at - a) p in
    let le1 : a ≤ length (take at p) = omega arith in
    let le2 : n ≤ length (take (at - a) (drop a p)) = omega (arith, length-take (at - a) (drop a p), length-drop a p) in
    ap (λ l. take n (drop a l)) (append_assoc (take at p) bs (drop (at + length bs) p))
    ∙ ap (λ l. take n l) (drop-append-le a (take at p) (bs ++ drop (at + length bs) p) le1)
    ∙ ap (λ l. take n (l ++ (bs ++ drop (at + length bs) p))) inner
    ∙ take-append-le n (take (at - a) (drop a p)) (bs ++ drop (at + length bs) p) le2
    ∙ take-of_take n (at - a) (drop a p) (omega arith)

pub part-after : (p bs : List ℕ) (at a n : ℕ) → at + length bs ≤ a → at + length bs ≤ length p → part (with_part p at bs) a n ≡ part p a n
part-after p bs at a n h f =
    let front : length (take at p ++ bs) ≡ at + length bs = omega (arith, length-take at p, length-append (take at p) bs) in
    let cut : a ≡ length (take at p ++ bs) + (a - (at + length bs)) = omega arith in
    let back : at + length bs + (a - (at + length bs)) ≡ a = omega arith in
    ap (λ k. take n (drop k (take at p ++ bs ++ drop (at + length bs) p))) cut
    ∙ ap (λ l. take n l) (drop-append-add (take at p ++ bs) (drop (at + length bs) p) (a - (at + length bs)))
    ∙ ap (λ l. take n l) (drop-of_drop (a - (at + length bs)) (at + length bs) p)
    ∙ ap (λ k. take n (drop k p)) back

-- a part grows by what is written behind it
pub part-grown : (p bs : List ℕ) (a n m : ℕ) → m ≡ n + length bs → a + n + length bs ≤ length p → part (with_part p (a + n) bs) a m ≡ part p a n ++ bs
part-grown p bs a n m e f =
    let front : length (take (a + n) p) ≡ a + n = omega (arith, length-take (a + n) p) in
    let le1 : a ≤ length (take (a + n) p) = omega arith in
    let len : length (take n (drop a p) ++ bs) ≡ m = omega (arith, length-take n (drop a p), length-drop a p, length-append (take n (drop a p)) bs) in
    ap (λ l. take m (drop a l)) (append_assoc (take (a + n) p) bs (drop (a + n + length bs) p))
    ∙ ap (λ l. take m l) (drop-append-le a (take (a + n) p) (bs ++ drop (a + n + length bs) p) le1)
    ∙ ap (λ l. take m (l ++ (bs ++ drop (a + n + length bs) p))) (drop-take a n p)
    ∙ ap (λ l. take m l) (sym (append_assoc (take n (drop a p)) bs (drop (a + n + length bs) p)))
    ∙ take-front m (take n (drop a p) ++ bs) (drop (a + n + length bs) p) len

-- what was written
pub part-written : (p bs : List ℕ) (at n : ℕ) → length bs ≡ n → at + length bs ≤ length p → part (with_part p at bs) at n ≡ bs
part-written p bs at n e h =
    let z : at + 0 ≡ at = omega arith in
    ap (λ k. part (with_part p k bs) at n) (sym z) ∙ part-grown p bs at 0 n (omega arith) (omega arith)
