-- The images of a quiet disk, and of one with one sector written.
use Rattle.std.proofs.Common.{◌≡◌, ◌⊎◌, inl, inr, ⊎_elim, ℕ, ◌+◌, ◌-◌, ◌*◌, ◌<◌, ◌≤◌, List, [], ◌∷◌, length, take, refl, sym, ◌∙◌, ap, subst, arith, get_or, cond, false}
use Rattle.std.proofs.lemmas.Bool.{cases_lt, cond_both, cond-true, cond-false}
use Rattle.bfs_disk.specs.State.{State, IsImage, IsOneOf, IsQuiet, ReadsAs, newest, written, settled, names}
use Rattle.bfs_disk.proofs.Names.{names_before, names_inside, names_after}
use Rattle.bfs_base.specs.Images.{overwritten, sector}
use Rattle.bfs_base.proofs.Sectors.{length-pasted, sector_before, sector_inside, sector_after, same_sectors}

pub one_of_one : (xs : List (List ℕ)) (x : List ℕ) → length xs ≡ 1 → IsOneOf xs x → x ≡ get_or xs 0 []
one_of_one [] x len one = absurd one
one_of_one (y ∷ []) x len one = ⊎_elim (λ e. e) (λ none. absurd none) one
one_of_one (y ∷ z ∷ xs) x len one = absurd (omega arith)

-- a crash of a quiet disk leaves what a read gives
pub quiet_image : (s : State) (old c : List ℕ) → IsQuiet s → ReadsAs s old → IsImage s c → c ≡ old
quiet_image s old c quiet reads image =
    same_sectors s.size c old (image.size ∙ sym reads.size) (omega (arith, image.size))
    (λ k lt. one_of_one (s.contents k) (sector k c) (quiet k lt) (image.each k lt) ∙ sym (reads.each k lt))

one_left : (xs : List (List ℕ)) → length xs ≡ 1 → length (take 1 xs) ≡ 1
one_left [] len = len
one_left (x ∷ xs) len = refl

first_left : (xs : List (List ℕ)) → get_or (take 1 xs) 0 [] ≡ get_or xs 0 []
first_left [] = refl
first_left (x ∷ xs) = refl

module _ (s : State) (at : ℕ) (block old : List ℕ) (quiet : IsQuiet s) (reads : ReadsAs s old) (long : length block ≡ 512) (fits : at < s.size) where
  one_sector : length block ≡ 512 * 1
  one_sector = omega (arith, long)

  room : 512 * at + length block ≤ length old
  room = omega (arith, long, reads.size)

  -- the disk with that sector
  abbrev pub with_sector : List ℕ
  with_sector = overwritten at block old

  others : (c : List ℕ) → IsImage (written s at block) c → (k : ℕ) → k < s.size → names at block k ≡ false → sector k c ≡ sector k old
  others c image k lt none =
      one_of_one (s.contents k) (sector k c) (quiet k lt) (subst (λ b. IsOneOf (cond b (sector (k - at) block ∷ s.contents k) (s.contents k)) (sector k c)) none (image.each k lt))
      ∙ sym (reads.each k lt)

  new_sector : (c : List ℕ) → IsImage (written s at block) c → sector at c ≡ sector (at - at) block → c ≡ with_sector
  new_sector c image new =
      same_sectors s.size c with_sector (image.size ∙ sym reads.size ∙ sym (length-pasted at 1 block old room one_sector)) (omega (arith, image.size))
      (λ k lt. ⊎_elim
      (λ before. others c image k lt (names_before at k block before) ∙ sym (sector_before at 1 block old room one_sector k before))
      (λ low. ⊎_elim
      (λ high.
      let here : at ≡ k = omega (arith, low, high) in
      subst (λ (j : ℕ). sector j c ≡ sector (j - at) block) here new ∙ sym (sector_inside at 1 block old room one_sector k low high))
      (λ ge. others c image k lt (names_after at k block (omega (arith, ge, long))) ∙ sym (sector_after at 1 block old room one_sector k ge))
      (cases_lt k (at + 1)))
      (cases_lt k at))

  old_sector : (c : List ℕ) → IsImage (written s at block) c → IsOneOf (s.contents at) (sector at c) → c ≡ old
  old_sector c image kept =
      same_sectors s.size c old (image.size ∙ sym reads.size) (omega (arith, image.size))
      (λ k lt. ⊎_elim
      (λ before. others c image k lt (names_before at k block before))
      (λ low. ⊎_elim
      (λ high.
      let here : at ≡ k = omega (arith, low, high) in
      subst (λ (j : ℕ). sector j c ≡ newest s j) here (one_of_one (s.contents at) (sector at c) (quiet at fits) kept) ∙ sym (reads.each k lt))
      (λ ge. others c image k lt (names_after at k block (omega (arith, ge, long))))
      (cases_lt k (at + 1)))
      (cases_lt k at))

  -- a crash leaves the old bytes or the new ones
  pub written_image : (c : List ℕ) → IsImage (written s at block) c → (c ≡ old) ⊎ (c ≡ with_sector)
  written_image c image =
      let here : IsOneOf (sector (at - at) block ∷ s.contents at) (sector at c) =
      subst (λ b. IsOneOf (cond b (sector (at - at) block ∷ s.contents at) (s.contents at)) (sector at c)) (names_inside at at block (omega arith) (omega (arith, long))) (image.each at fits) in
      ⊎_elim (λ new. inr (new_sector c image new)) (λ kept. inl (old_sector c image kept)) here

  -- and after a barrier the disk is quiet
  pub settled_quiet : IsQuiet (settled (written s at block))
  settled_quiet = λ k lt. cond_both (names at block k) (sector (k - at) block ∷ s.contents k) (s.contents k) (λ cs. length (take 1 cs) ≡ 1) (λ _. refl) (λ _. one_left (s.contents k) (quiet k lt))

  newest_of : (k : ℕ) → newest (settled (written s at block)) k ≡ newest (written s at block) k
  newest_of k = first_left ((written s at block).contents k)

  kept_newest : (k : ℕ) → names at block k ≡ false → newest s k ≡ newest (settled (written s at block)) k
  kept_newest k none = ap (λ (cs : List (List ℕ)). get_or cs 0 []) (sym (cond-false (names at block k) (sector (k - at) block ∷ s.contents k) (s.contents k) none)) ∙ sym (newest_of k)

  -- and reads as the new bytes
  pub settled_reads : ReadsAs (settled (written s at block)) with_sector
  settled_reads = record {
    size = length-pasted at 1 block old room one_sector ∙ reads.size;
    each = λ k lt. ⊎_elim
        (λ before. sector_before at 1 block old room one_sector k before ∙ reads.each k lt ∙ kept_newest k (names_before at k block before))
        (λ low. ⊎_elim
        (λ high. sector_inside at 1 block old room one_sector k low high
        ∙ ap (λ (cs : List (List ℕ)). get_or cs 0 []) (sym (cond-true (names at block k) (sector (k - at) block ∷ s.contents k) (s.contents k) (names_inside at k block low (omega (arith, high, long))))) ∙ sym (newest_of k))
        (λ ge. sector_after at 1 block old room one_sector k ge ∙ reads.each k lt ∙ kept_newest k (names_after at k block (omega (arith, ge, long))))
        (cases_lt k (at + 1)))
        (cases_lt k at);
  }
