-- One sector more of a picked image.
use Rattle.std.proofs.Common.{◌≡◌, ℕ, ◌+◌, ◌-◌, ◌*◌, ◌/◌, ◌<◌, ◌≤◌, List, length, take, drop, sym, ◌∙◌, ap, subst, arith, Bool, true, false, cond, ⊎_elim, length-drop}
use Rattle.std.proofs.lemmas.List.{length-take-le}
use Rattle.std.proofs.lemmas.Bool.{cases_lt, cond-true, cond-false}
use Rattle.bfs_base.specs.Images.{sector, overwritten}
use Rattle.bfs_base.proofs.Sectors.{length-pasted, sector_before, sector_inside, sector_after, sector_part}

-- the first k sectors are chosen by a test, the others are as at first
pub record Picks (choose : ℕ → Bool) (k : ℕ) (newest first image : List ℕ) : Type 0 where
  pub long : length image ≡ length newest
  pub below : (j : ℕ) → j < k → sector j image ≡ cond (choose j) (sector j newest) (sector j first)
  pub above : (j : ℕ) → k ≤ j → sector j image ≡ sector j first

module _ (choose : ℕ → Bool) (k : ℕ) (newest first image : List ℕ) (was : Picks choose k newest first image) (whole : length newest ≡ 512 * (length newest / 512)) (lt : k < length newest / 512) where
  pub kept_sector : choose k ≡ false → Picks choose (k + 1) newest first image
  kept_sector off = record {
    long = was.long;
    below = λ j below. ⊎_elim (λ before. was.below j before)
        (λ ge. let here : k ≡ j = omega (arith, below, ge) in subst (λ (i : ℕ). sector i image ≡ cond (choose i) (sector i newest) (sector i first)) here (was.above k (omega arith) ∙ sym (cond-false (choose k) (sector k newest) (sector k first) off)))
        (cases_lt j k);
    above = λ j ge. was.above j (omega (arith, ge));
  }

  abbrev new_sector : List ℕ
  new_sector = take (512 * k + 512 - 512 * k) (drop (512 * k) newest)

  long_sector : length new_sector ≡ 512 * 1
  long_sector = length-take-le (512 * k + 512 - 512 * k) (drop (512 * k) newest) (omega (arith, length-drop (512 * k) newest, whole, lt)) ∙ omega arith

  room : 512 * k + length new_sector ≤ length image
  room = omega (arith, long_sector, was.long, whole, lt)

  is_sector : sector (k - k) new_sector ≡ sector k newest
  is_sector = sector_part k (k - k) (512 * k + 512 - 512 * k) newest (omega arith) ∙ ap (λ (i : ℕ). sector i newest) (omega arith)

  pub taken_sector : choose k ≡ true → Picks choose (k + 1) newest first (overwritten k new_sector image)
  taken_sector on = record {
    long = length-pasted k 1 new_sector image room long_sector ∙ was.long;
    below = λ j below. ⊎_elim (λ before. sector_before k 1 new_sector image room long_sector j before ∙ was.below j before)
        (λ ge. let here : k ≡ j = omega (arith, below, ge) in
        subst (λ (i : ℕ). sector i (overwritten k new_sector image) ≡ cond (choose i) (sector i newest) (sector i first)) here
        (sector_inside k 1 new_sector image room long_sector k (omega arith) (omega arith) ∙ is_sector ∙ sym (cond-true (choose k) (sector k newest) (sector k first) on)))
        (cases_lt j k);
    above = λ j ge. sector_after k 1 new_sector image room long_sector j (omega (arith, ge)) ∙ was.above j (omega (arith, ge));
  }
