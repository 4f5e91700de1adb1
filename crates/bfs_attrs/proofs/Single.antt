-- Whether rows of an answer have just one name but `.` and `..`.
use Rattle.std.proofs.Common.{◌≡◌, ◌∙◌, ℕ, suc, List, [], ◌∷◌, length, Bool, true, false, cond, refl, sym, ap, arith}
use Rattle.std.specs.Prelude.{◌==◌}
use Rattle.std.specs.List.{filter}
use Rattle.bfs_node.specs.Page.{Row}
use Rattle.bfs_range.specs.Answers.{answer_of, answer_row}
use Rattle.bfs_range.specs.declared.ranged.RangedRow.{RangedRow}
use Rattle.bfs_sound.specs.Inodes.{is_proper}

abbrev pub is_row : RangedRow → Bool
is_row r = is_proper r.key

-- whether just one is there, of which one was found already or not, and these are left
abbrev pub one_left : Bool → List RangedRow → Bool
one_left found [] = found
one_left found (r ∷ rs) = cond (is_proper r.key) (cond found false (one_left true rs)) (one_left found rs)

abbrev pub so_many : Bool → ℕ → ℕ
so_many found n = cond found (suc n) n

not_one : (n : ℕ) (b : Bool) → (suc (suc n) == 1) ≡ b → b ≡ false
not_one n true t = let z : suc (suc n) ≡ 1 = grind (arith, t) in absurd (omega (arith, z))
not_one n false t = refl

not_two : (n : ℕ) → (suc (suc n) == 1) ≡ false
not_two n = not_one n (suc (suc n) == 1) refl

pub left_is : (rows : List RangedRow) (found : Bool) → one_left found rows ≡ (so_many found (length (filter is_row rows)) == 1)
left_is [] true = refl
left_is [] false = refl
left_is (r ∷ rs) found = by_test (is_proper r.key) found (left_is rs true) (left_is rs false)
  where
    by_test : (p : Bool) (found : Bool) → one_left true rs ≡ (suc (length (filter is_row rs)) == 1) → one_left false rs ≡ (length (filter is_row rs) == 1)
        → cond p (cond found false (one_left true rs)) (one_left found rs) ≡ (so_many found (length (cond p (r ∷ filter is_row rs) (filter is_row rs))) == 1)
    by_test true true a b = sym (not_two (length (filter is_row rs)))
    by_test true false a b = a
    by_test false true a b = a
    by_test false false a b = b

pub same_count : (bytes : List ℕ) (rows : List Row) → length (filter is_row (answer_of bytes rows)) ≡ length (filter (λ (r : Row). is_proper r.0) rows)
same_count bytes [] = refl
same_count bytes (r ∷ rs) = by_test (is_proper r.0) (same_count bytes rs)
  where
    by_test : (p : Bool) → length (filter is_row (answer_of bytes rs)) ≡ length (filter (λ (r : Row). is_proper r.0) rs)
        → length (cond p (answer_row bytes r ∷ filter is_row (answer_of bytes rs)) (filter is_row (answer_of bytes rs))) ≡ length (cond p (r ∷ filter (λ (r : Row). is_proper r.0) rs) (filter (λ (r : Row). is_proper r.0) rs))
    by_test true e = ap suc e
    by_test false e = e

pub is_single : (n : ℕ) (b : Bool) → b ≡ (n == 1) → b ≡ true → n ≡ 1
is_single n b e t = let x : (n == 1) ≡ true = sym e ∙ t in grind (arith, x)

pub not_single : (n : ℕ) (b : Bool) → b ≡ (n == 1) → b ≡ false → n ≡ 1 → ⊥
not_single n b e f z = let bad : true ≡ false = ap (λ (k : ℕ). k == 1) (sym z) ∙ sym e ∙ f in absurd (let worse : true ≡ false = bad in cc)
