-- Escapes, byte by byte.
use Rattle.std.proofs.Common.{◌≡◌, ℕ, ◌+◌, ◌-◌, ◌<◌, ◌≤◌, List, [], ◌∷◌, ◌++◌, length, length-drop, drop, get_or, ap, refl, sym, ◌∙◌, arith, append_assoc, true, false, ◌==◌, Option, Some, None}
use Rattle.std.proofs.lemmas.List.{drop_more, drop_all}
use Rattle.bfs_text.specs.Words.{unescaped, escaped, hex_bytes, byte_of, put_first, before}

pub before_put : (xs : List ℕ) (b : ℕ) (more : Option (List ℕ)) → before xs (put_first (Some b) more) ≡ before (xs ++ b ∷ []) more
before_put xs b None = refl
before_put xs b (Some ys) = ap Some (sym (append_assoc xs (b ∷ []) ys))

escaped_short : (bs : List ℕ) → length bs < 2 → escaped bs ≡ None
escaped_short [] few = refl
escaped_short (b ∷ []) few = refl
escaped_short (b ∷ c ∷ bs) few = absurd (omega (arith, few))

module _ (word : List ℕ) (at : ℕ) (inside : at < length word) where
  pub plain : (get_or word at 0 == 37) ≡ false → unescaped (drop at word) ≡ put_first (Some (get_or word at 0)) (unescaped (drop (at + 1) word))
  plain test = rw (drop_more word at 0 inside) (rw test refl)

  pub opened : (get_or word at 0 == 37) ≡ true → unescaped (drop at word) ≡ escaped (drop (at + 1) word)
  opened test = rw (drop_more word at 0 inside) (rw test refl)

  pub short : (get_or word at 0 == 37) ≡ true → length word - at < 3 → unescaped (drop at word) ≡ None
  short test few = opened test ∙ escaped_short (drop (at + 1) word) (let l = length-drop (at + 1) word in omega (arith, l, few, inside))

  pub third : drop (at + 1 + 1) word ≡ drop (at + 2) word
  third = ap (λ (n : ℕ). drop n word) (let same : at + 1 + 1 ≡ at + 2 = omega arith in same)

  fourth : drop (at + 2 + 1) word ≡ drop (at + 3) word
  fourth = ap (λ (n : ℕ). drop n word) (let same : at + 2 + 1 ≡ at + 3 = omega arith in same)

  pub pair : (get_or word at 0 == 37) ≡ true → 3 ≤ length word - at
      → unescaped (drop at word) ≡ put_first (byte_of false (get_or word (at + 1) 0) (get_or word (at + 2) 0)) (unescaped (drop (at + 3) word))
  pair test long = opened test
      ∙ ap escaped (drop_more word (at + 1) 0 (omega (arith, long)) ∙ ap (λ (l : List ℕ). get_or word (at + 1) 0 ∷ l) (third ∙ drop_more word (at + 2) 0 (omega (arith, long)) ∙ ap (λ (l : List ℕ). get_or word (at + 2) 0 ∷ l) fourth))

  pub hex_short : length word - at < 2 → hex_bytes (drop at word) ≡ None
  hex_short few = ap hex_bytes (drop_more word at 0 inside ∙ ap (λ (l : List ℕ). get_or word at 0 ∷ l) (drop_all (at + 1) word (omega (arith, few))))

  pub hex_pair : 2 ≤ length word - at → hex_bytes (drop at word) ≡ put_first (byte_of true (get_or word at 0) (get_or word (at + 1) 0)) (hex_bytes (drop (at + 2) word))
  hex_pair long = ap hex_bytes (drop_more word at 0 inside ∙ ap (λ (l : List ℕ). get_or word at 0 ∷ l) (drop_more word (at + 1) 0 (omega (arith, long)) ∙ ap (λ (l : List ℕ). get_or word (at + 1) 0 ∷ l) third))
