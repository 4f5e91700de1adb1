-- Rows that are written one after another.
use Rattle.std.proofs.Common.{◌≡◌, ◌<◌, ◌≤◌, ◌+◌, ◌*◌, ℕ, ℤ, List, [], ◌∷◌, ◌++◌, length, refl, ap, sym, ◌∙◌, arith, length-append, append_assoc, append-nil}
use Rattle.bfs_bytes.proofs.Lengths.{length-unsigned_bytes, length-signed64_bytes}
use Rattle.bfs_node.specs.Page.{Row, keys_of}
use Rattle.bfs_node.specs.Written.{part, with_part, two, eight, ends_of, values_of, Written}
use Rattle.bfs_node.proofs.Parts.{part-before, part-after, part-grown}

pub keys_of-push : (rows : List Row) (k : List ℕ) (v : ℤ) → keys_of (rows ++ (k, v) ∷ []) ≡ keys_of rows ++ k
keys_of-push [] k v = append-nil k
keys_of-push (r ∷ rs) k v = ap (λ l. r.0 ++ l) (keys_of-push rs k v) ∙ sym (append_assoc r.0 (keys_of rs) k)

pub ends_of-push : (s : ℕ) (rows : List Row) (k : List ℕ) (v : ℤ) → ends_of s (rows ++ (k, v) ∷ []) ≡ ends_of s rows ++ two (s + length (keys_of rows) + length k)
ends_of-push s [] k v = let e : s + 0 + length k ≡ s + length k = omega arith in rw e (append-nil (two (s + length k)))
ends_of-push s (r ∷ rs) k v =
    let e : s + length r.0 + length (keys_of rs) + length k ≡ s + length (r.0 ++ keys_of rs) + length k = omega (arith, length-append r.0 (keys_of rs)) in
    ap (λ l. two (s + length r.0) ++ l) (ends_of-push (s + length r.0) rs k v ∙ ap (λ n. ends_of (s + length r.0) rs ++ two n) e)
    ∙ sym (append_assoc (two (s + length r.0)) (ends_of (s + length r.0) rs) (two (s + length (r.0 ++ keys_of rs) + length k)))

pub values_of-push : (rows : List Row) (k : List ℕ) (v : ℤ) → values_of (rows ++ (k, v) ∷ []) ≡ values_of rows ++ eight v
values_of-push [] k v = append-nil (eight v)
values_of-push (r ∷ rs) k v = ap (λ l. eight r.1 ++ l) (values_of-push rs k v) ∙ sym (append_assoc (eight r.1) (values_of rs) (eight v))

-- one row more
pub written-more : (p p1 p2 p3 : List ℕ) (base n j end : ℕ) (k : List ℕ) (v : ℤ) (rows : List Row)
    → length p ≡ 1024 → 28 + end + length k ≤ base → base + 10 * n ≤ 1024 → j < n
    → p1 ≡ with_part p (28 + end) k → p2 ≡ with_part p1 (base + 2 * j) (two (end + length k)) → p3 ≡ with_part p2 (base + 2 * n + 8 * j) (eight v)
    → length p1 ≡ 1024 → length p2 ≡ 1024 → length rows ≡ j → length (keys_of rows) ≡ end → Written p base (base + 2 * n) rows → Written p3 base (base + 2 * n) (rows ++ (k, v) ∷ [])
written-more p p1 p2 p3 base n j end k v rows size room fits place e1 e2 e3 s1 s2 len ks w =
    let l2 : length (two (end + length k)) ≡ 2 = length-unsigned_bytes 2 (end + length k) in
    let l8 : length (eight v) ≡ 8 = length-signed64_bytes v in
    record {
      keys =
          let l : length (keys_of (rows ++ (k, v) ∷ [])) ≡ end + length k = ap length (keys_of-push rows k v) ∙ length-append (keys_of rows) k ∙ ap (λ n. n + length k) ks in
          let step : part p1 28 (end + length k) ≡ part p 28 end ++ k = ap (λ q. part q 28 (end + length k)) e1 ∙ part-grown p k 28 end (end + length k) refl (omega arith) in
          let old : part p 28 end ≡ keys_of rows = ap (λ m. part p 28 m) (sym ks) ∙ w.keys in
          ap (λ m. part p3 28 m) l ∙ ap (λ q. part q 28 (end + length k)) e3 ∙ part-before p2 (eight v) (base + 2 * n + 8 * j) 28 (end + length k) (omega arith) (omega arith)
          ∙ ap (λ q. part q 28 (end + length k)) e2 ∙ part-before p1 (two (end + length k)) (base + 2 * j) 28 (end + length k) (omega arith) (omega arith)
          ∙ step ∙ ap (λ l. l ++ k) old ∙ sym (keys_of-push rows k v);
      ends =
          let l : 2 * length (rows ++ (k, v) ∷ []) ≡ 2 * j + 2 = omega (arith, length-append rows ((k, v) ∷ []), len) in
          let step : part p2 base (2 * j + 2) ≡ part p1 base (2 * j) ++ two (end + length k) =
          ap (λ q. part q base (2 * j + 2)) e2 ∙ part-grown p1 (two (end + length k)) base (2 * j) (2 * j + 2) (omega arith) (omega arith) in
          let old : part p1 base (2 * j) ≡ ends_of 0 rows =
          ap (λ q. part q base (2 * j)) e1 ∙ part-after p k (28 + end) base (2 * j) (omega arith) (omega arith) ∙ ap (λ m. part p base (2 * m)) (sym len) ∙ w.ends in
          let mark : end + length k ≡ 0 + length (keys_of rows) + length k = omega (arith, ks) in
          ap (λ m. part p3 base m) l ∙ ap (λ q. part q base (2 * j + 2)) e3 ∙ part-before p2 (eight v) (base + 2 * n + 8 * j) base (2 * j + 2) (omega arith) (omega arith)
          ∙ step ∙ ap (λ l. l ++ two (end + length k)) old ∙ ap (λ m. ends_of 0 rows ++ two m) mark ∙ sym (ends_of-push 0 rows k v);
      values_are =
          let l : 8 * length (rows ++ (k, v) ∷ []) ≡ 8 * j + 8 = omega (arith, length-append rows ((k, v) ∷ []), len) in
          let step : part p3 (base + 2 * n) (8 * j + 8) ≡ part p2 (base + 2 * n) (8 * j) ++ eight v =
          ap (λ q. part q (base + 2 * n) (8 * j + 8)) e3 ∙ part-grown p2 (eight v) (base + 2 * n) (8 * j) (8 * j + 8) (omega arith) (omega arith) in
          let old : part p2 (base + 2 * n) (8 * j) ≡ values_of rows =
          ap (λ q. part q (base + 2 * n) (8 * j)) e2 ∙ part-after p1 (two (end + length k)) (base + 2 * j) (base + 2 * n) (8 * j) (omega arith) (omega arith)
          ∙ ap (λ q. part q (base + 2 * n) (8 * j)) e1 ∙ part-after p k (28 + end) (base + 2 * n) (8 * j) (omega arith) (omega arith)
          ∙ ap (λ m. part p (base + 2 * n) (8 * m)) (sym len) ∙ w.values_are in
          ap (λ m. part p3 (base + 2 * n) m) l ∙ step ∙ ap (λ l. l ++ eight v) old ∙ sym (values_of-push rows k v);
    }
