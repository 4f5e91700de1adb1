-- Blocks of a list of bytes, and what the write of one leaves.
use Rattle.std.proofs.Common.{◌≡◌, ◌≢◌, ◌≤◌, ◌<◌, ◌+◌, ◌-◌, ◌*◌, ℕ, List, [], ◌∷◌, ◌++◌, length, take, drop, get_or, Option, Some, None, Bool, true, false, cond, refl, sym, ap, ◌∙◌, subst, arith, ◌==◌, nat_le, length-append, length-drop, ◌⊎◌, inl, inr, append_assoc}
use Rattle.std.proofs.lemmas.List.{take_at, drop_at, take-append-le, drop-append-le, take-take, drop-drop, drop-take, length-take-le, take_more}
use Rattle.std.proofs.Math.Nat.{mul-le-mul_left}
use Rattle.bfs_bytes.specs.Fields.{Puts}
use Rattle.bfs_txn.specs.Changed.{newest, or_else, over, number_at, bytes_at}
use Rattle.bfs_txn.specs.Told.{blocks_of}
use Rattle.bfs_txn.proofs.Layers.{newest-append}

-- a part before the one that was written
before_part : (at size m : ℕ) (v now : List ℕ) → m + size ≤ at → at + length v ≤ length now → take size (drop m (take at now ++ v ++ drop (at + length v) now)) ≡ take size (drop m now)
before_part at size m v now le room =
    let front : length (take at now) ≡ at = length-take-le at now (omega arith) in
    let cut : drop m (take at now ++ v ++ drop (at + length v) now) ≡ drop m (take at now) ++ (v ++ drop (at + length v) now) =
    ap (drop m) (append_assoc (take at now) v (drop (at + length v) now)) ∙ drop-append-le m (take at now) (v ++ drop (at + length v) now) (omega (arith, front)) in
    let e : m + (at - m) ≡ at = omega arith in
    let inner : drop m (take at now) ≡ take (at - m) (drop m now) = ap (λ (n : ℕ). drop m (take n now)) (sym e) ∙ drop-take m (at - m) now in
    ap (take size) cut
    ∙ take-append-le size (drop m (take at now)) (v ++ drop (at + length v) now) (omega (arith, length-drop m (take at now), front))
    ∙ ap (take size) inner
    ∙ take-take size (at - m) (drop m now) (omega arith)

-- the part itself
that_part : (at : ℕ) (v now : List ℕ) → at + length v ≤ length now → take (length v) (drop at (take at now ++ v ++ drop (at + length v) now)) ≡ v
that_part at v now room =
    ap (λ (l : List ℕ). take (length v) (drop at l)) (append_assoc (take at now) v (drop (at + length v) now))
    ∙ ap (take (length v)) (drop_at (take at now) (v ++ drop (at + length v) now) at (length-take-le at now (omega arith)))
    ∙ take_at v (drop (at + length v) now) (length v) refl

-- a part behind it
behind_part : (at m : ℕ) (v now : List ℕ) → at + length v ≤ m → at + length v ≤ length now → drop m (take at now ++ v ++ drop (at + length v) now) ≡ drop m now
behind_part at m v now le room =
    let front : length (take at now ++ v) ≡ at + length v = length-append (take at now) v ∙ ap (λ (n : ℕ). n + length v) (length-take-le at now (omega arith)) in
    let e : at + length v + (m - (at + length v)) ≡ m = omega arith in
    ap (λ (n : ℕ). drop n (take at now ++ v ++ drop (at + length v) now)) (sym e)
    ∙ sym (drop-drop (m - (at + length v)) (at + length v) (take at now ++ v ++ drop (at + length v) now))
    ∙ ap (drop (m - (at + length v))) (drop_at (take at now ++ v) (drop (at + length v) now) (at + length v) front)
    ∙ drop-drop (m - (at + length v)) (at + length v) now
    ∙ ap (λ (n : ℕ). drop n now) e

length-written : (at : ℕ) (v now : List ℕ) → at + length v ≤ length now → length (take at now ++ v ++ drop (at + length v) now) ≡ length now
length-written at v now room = omega (arith, length-append (take at now ++ v) (drop (at + length v) now), length-append (take at now) v, length-take-le at now (omega arith), length-drop (at + length v) now)

-- a block that is written changes that block
pub written-block : (size b k : ℕ) (v now new : List ℕ) → length v ≡ size → size * b + size ≤ length now → Puts (size * b) v now new → blocks_of size new k ≡ cond (k == b) (Some v) (blocks_of size now k)
written-block size b k v now new long room put = by_place (k == b) refl (split k b)
  where
    split : (j m : ℕ) → (j < m) ⊎ (m ≤ j)
    split j m = grind arith

    roomy : size * b + length v ≤ length now
    roomy = subst (λ (n : ℕ). size * b + n ≤ length now) (sym long) room

    same_length : length new ≡ length now
    same_length = ap (λ (l : List ℕ). length l) put ∙ length-written (size * b) v now roomy

    as_test : (new_part : List ℕ) → take size (drop (size * k) new) ≡ new_part → blocks_of size new k ≡ cond (nat_le (size * k + size) (length now)) (Some new_part) None
    as_test p e = ap (λ (n : ℕ). cond (nat_le (size * k + size) n) (Some (take size (drop (size * k) new))) None) same_length ∙ ap (λ (l : List ℕ). cond (nat_le (size * k + size) (length now)) (Some l) None) e

    inside : (t : Bool) → t ≡ true → cond t (Some v) None ≡ Some v
    inside true e = refl
    inside false e = absurd (bad e)
      where
        bad : false ≡ true → ⊥
        bad z = cc

    by_place : (t : Bool) → (k == b) ≡ t → (k < b) ⊎ (b ≤ k) → blocks_of size new k ≡ cond t (Some v) (blocks_of size now k)
    by_place true e w =
        let same : k ≡ b = grind (arith, e) in
        let part : take size (drop (size * k) new) ≡ v =
        ap (λ (n : ℕ). take size (drop (size * n) new)) same ∙ ap (λ (l : List ℕ). take size (drop (size * b) l)) put ∙ ap (λ (n : ℕ). take n (drop (size * b) (take (size * b) now ++ v ++ drop (size * b + length v) now))) (sym long)
        ∙ that_part (size * b) v now roomy in
        let fits : nat_le (size * k + size) (length now) ≡ true = let f : size * k + size ≤ length now = subst (λ (n : ℕ). size * n + size ≤ length now) (sym same) room in grind (arith, f) in
        as_test v part ∙ inside (nat_le (size * k + size) (length now)) fits
    by_place false e (inl lt) =
        let le : size * (k + 1) ≤ size * b = mul-le-mul_left size (omega arith) in
        as_test (take size (drop (size * k) now)) (ap (λ (l : List ℕ). take size (drop (size * k) l)) put ∙ before_part (size * b) size (size * k) v now (omega (arith, le)) roomy)
    by_place false e (inr ge) =
        let ne : k ≢ b = grind (arith, e) in
        let le : size * (b + 1) ≤ size * k = mul-le-mul_left size (grind (arith, ne, ge)) in
        as_test (take size (drop (size * k) now)) (ap (take size) (ap (drop (size * k)) put ∙ behind_part (size * b) (size * k) v now (omega (arith, le, long)) roomy))

one_more : (t : Bool) (v : List ℕ) (n o : Option (List ℕ)) → or_else (or_else (cond t (Some v) None) n) o ≡ cond t (Some v) (or_else n o)
one_more true v n o = refl
one_more false v n o = refl

-- one pair more
pub over-more : (ps : List (ℕ × List ℕ)) (i : ℕ) (m : ℕ → Option (List ℕ)) (k : ℕ) → i < length ps → over (take (i + 1) ps) m k ≡ cond (k == number_at ps i) (Some (bytes_at ps i)) (over (take i ps) m k)
over-more ps i m k h =
    ap (λ (l : List (ℕ × List ℕ)). or_else (newest l k) (m k)) (take_more ps i (0, []) h)
    ∙ ap (λ (n : Option (List ℕ)). or_else n (m k)) (newest-append (take i ps) (get_or ps i (0, []) ∷ []) k)
    ∙ one_more (k == number_at ps i) (bytes_at ps i) (newest (take i ps) k) (m k)

-- a step of the loop that writes a group's blocks
pub applied : (size : ℕ) (ps : List (ℕ × List ℕ)) (i : ℕ) (base now new : List ℕ) (b : ℕ) (v : List ℕ) → i < length ps → b ≡ number_at ps i → v ≡ bytes_at ps i → length v ≡ size → size * b + size ≤ length base
    → length now ≡ length base → ((k : ℕ) → blocks_of size now k ≡ over (take i ps) (blocks_of size base) k) → Puts (length v * b) v now new
    → (length new ≡ length base) × ((k : ℕ) → blocks_of size new k ≡ over (take (i + 1) ps) (blocks_of size base) k)
applied size ps i base now new b v inside is are long room same so_far put =
    let put_at : Puts (size * b) v now new = subst (λ (n : ℕ). Puts (n * b) v now new) long put in
    let room_now : size * b + size ≤ length now = subst (λ (n : ℕ). size * b + size ≤ n) (sym same) room in
    let room_v : size * b + length v ≤ length now = subst (λ (n : ℕ). size * b + n ≤ length now) (sym long) room_now in (
      ap (λ (l : List ℕ). length l) put_at ∙ length-written (size * b) v now room_v ∙ same,
      λ k.
          written-block size b k v now new long room_now put_at
          ∙ ap (λ o. cond (k == b) (Some v) o) (so_far k)
          ∙ ap (λ (n : ℕ). cond (k == n) (Some v) (over (take i ps) (blocks_of size base) k)) is
          ∙ ap (λ (l : List ℕ). cond (k == number_at ps i) (Some l) (over (take i ps) (blocks_of size base) k)) are
          ∙ sym (over-more ps i (blocks_of size base) k inside),
    )
