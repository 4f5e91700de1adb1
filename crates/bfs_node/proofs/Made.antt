-- A page that was made row by row holds these rows.
use Rattle.std.proofs.Common.{◌≡◌, ◌<◌, ◌≤◌, ◌+◌, ◌-◌, ◌*◌, ℕ, ℤ, suc, List, [], ◌∷◌, ◌++◌, length, take, drop, insert, remove, ap, ◌∙◌, subst, arith, append_assoc, length-drop}
use Rattle.std.proofs.lemmas.List.{take_all}
use Rattle.bfs_node.specs.Page.{Row, keys_of, base_of, taken_by}
use Rattle.bfs_node.specs.Written.{part, two, Written, Holds, AreNumbers}
use Rattle.bfs_node.proofs.RowsRead.{head-part}

pub made : (p0 p : List ℕ) (base count n bytes : ℕ) (rows made_of : List Row) → made_of ≡ rows → n ≡ length rows → bytes ≡ length (keys_of rows) → base ≡ base_of bytes → count ≡ n
    → length p ≡ 1024 → part p 0 28 ≡ part p0 0 28 → part p0 24 2 ≡ two n → part p0 26 2 ≡ two bytes → AreNumbers rows → taken_by n bytes ≤ 1024
    → Written p base (base + 2 * count) made_of → Holds p rows
made p0 p base count n bytes rows made_of same ns bs base_is count_is size head c k numbers fits w =
    let at : base ≡ base_of (length (keys_of rows)) = base_is ∙ ap base_of bs in
    let number : count ≡ length rows = count_is ∙ ns in
    record {
      size = size;
      count = head-part p p0 24 head (omega arith) ∙ c ∙ ap two ns;
      key_bytes = head-part p p0 26 head (omega arith) ∙ k ∙ ap two bs;
      small = numbers;
      fits = omega (arith, ap base_of bs, ns, fits);
      written = subst (λ (t : List Row). Written p (base_of (length (keys_of rows))) (base_of (length (keys_of rows)) + 2 * length rows) t) same
          (subst (λ (t : ℕ). Written p (base_of (length (keys_of rows))) (base_of (length (keys_of rows)) + 2 * t) made_of) number
          (subst (λ (t : ℕ). Written p t (t + 2 * count) made_of) at w));
    }

pub same-inserted : (rows : List Row) (i count : ℕ) (key : List ℕ) (v w : ℤ) → w ≡ v → count ≡ length rows → i ≤ length rows
    → (take i rows ++ (key, w) ∷ []) ++ take (count - i) (drop i rows) ≡ insert rows i (key, v)
same-inserted rows i count key v w e n h =
    let rest : take (count - i) (drop i rows) ≡ drop i rows = take_all (count - i) (drop i rows) (omega (arith, length-drop i rows)) in
    ap (λ z. (take i rows ++ (key, z) ∷ []) ++ take (count - i) (drop i rows)) e
    ∙ ap (λ l. (take i rows ++ (key, v) ∷ []) ++ l) rest ∙ append_assoc (take i rows) ((key, v) ∷ []) (drop i rows)

pub same-removed : (rows : List Row) (i count : ℕ) → count ≡ length rows → i < length rows → take i rows ++ take (count - (i + 1)) (drop (i + 1) rows) ≡ remove rows i
same-removed rows i count n h =
    let next : i + 1 ≡ suc i = omega arith in
    ap (λ l. take i rows ++ l) (take_all (count - (i + 1)) (drop (i + 1) rows) (omega (arith, length-drop (i + 1) rows)) ∙ ap (λ k. drop k rows) next)
