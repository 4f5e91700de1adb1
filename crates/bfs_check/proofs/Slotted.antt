-- Windows in their slots.
use Rattle.std.proofs.Common.{◌≡◌, ⊎_elim, ℕ, ◌+◌, ◌-◌, ◌*◌, ◌/◌, ◌%◌, ◌<◌, ◌≤◌, List, ◌++◌, length, take, drop, get_or, refl, sym, ◌∙◌, ap, subst, arith, Option, Some, None, append_assoc, set, replicate, length-drop}
use Rattle.std.proofs.lemmas.List.{get_or-set_same, get_or-set_other, get_or-replicate, length-set, length-take-le, drop-drop}
use Rattle.std.proofs.lemmas.Bool.{cases_eq, cases_lt}
use borrow.Rule.Slice.PartMut.{put_mid}
use Rattle.bfs_base.specs.Images.{sector, overwritten}
use Rattle.bfs_base.proofs.Sectors.{sector_before, sector_inside, sector_after, sector_part}
use Rattle.bfs_disk.specs.State.{State, newest}
use Rattle.bfs_disk.specs.Disk.{ReadsSectors}
use Rattle.bfs_check.specs.Slots.{AreKept}

-- sectors copied out of their window are those of the disk
pub copied : (told : Option State) (tags bytes : List ℕ) (first n : ℕ) (into : List ℕ) → AreKept told tags bytes → get_or tags (first / 64 % 32) 0 ≡ first / 64 + 1 → first % 64 + n ≤ 64
    → length into ≡ 512 * n → into ≡ take (512 * n) (drop (512 * (first % 2048)) bytes) → ReadsSectors told first into
copied None tags bytes first n into kept there within long is = tt
copied (Some s) tags bytes first n into kept there within long is = λ k lt.
    let low : k < n = omega (arith, lt, long) in
    ap (sector k) is
    ∙ sector_part (first % 2048) k (512 * n) bytes (omega (arith, low))
    ∙ ap (λ (m : ℕ). sector m bytes) (let e : first % 2048 + k ≡ 64 * (first / 64 % 32) + (first % 64 + k) = omega arith in e)
    ∙ kept s refl (first / 64 % 32) (first % 64 + k) (first / 64) (omega arith) (omega (arith, low, within)) there
    ∙ ap (newest s) (let e : 64 * (first / 64) + (first % 64 + k) ≡ first + k = omega arith in e)

-- nothing is kept where all tags are zero
pub none_kept : (told : Option State) (bytes : List ℕ) → AreKept told (replicate {A = ℕ} 32 0) bytes
none_kept told bytes s is i j w low lt tag = let none : get_or (replicate {A = ℕ} 32 0) i 0 ≡ 0 = get_or-replicate {A = ℕ} 32 i 0 0 low in absurd (omega (arith, none, tag))

-- the bytes of a slot
pub part_long : (slot : ℕ) (old : List ℕ) → slot < 32 → length old ≡ 1048576 → length (take (32768 * slot + 32768 - 32768 * slot) (drop (32768 * slot) old)) ≡ 32768
part_long slot old low room = length-take-le (32768 * slot + 32768 - 32768 * slot) (drop (32768 * slot) old) (omega (arith, low, room, length-drop (32768 * slot) old)) ∙ omega arith

-- a window written over its slot
module _ (slot : ℕ) (old part : List ℕ) (low : slot < 32) (room : length old ≡ 1048576) (long : length part ≡ 32768) where
  abbrev pub written : List ℕ
  written = put_mid (32768 * slot) (32768 * slot + 32768 - 32768 * slot) old part

  pasted : written ≡ overwritten (64 * slot) part old
  pasted = sym (append_assoc (take (32768 * slot) old) part _)
      ∙ ap (λ (l : List ℕ). take (32768 * slot) old ++ part ++ l) (drop-drop (32768 * slot + 32768 - 32768 * slot) (32768 * slot) old ∙ ap (λ (m : ℕ). drop m old) (let e : 32768 * slot + (32768 * slot + 32768 - 32768 * slot) ≡ 512 * (64 * slot) + length part = omega (arith, long) in e))
      ∙ ap (λ (m : ℕ). take m old ++ part ++ drop (512 * (64 * slot) + length part) old) (let e : 32768 * slot ≡ 512 * (64 * slot) = omega arith in e)

  fits : 512 * (64 * slot) + length part ≤ length old
  fits = omega (arith, low, room, long)

  whole : length part ≡ 512 * 64
  whole = omega (arith, long)

  inside : (j : ℕ) → j < 64 → sector (64 * slot + j) written ≡ sector j part
  inside j lt =
      ap (sector (64 * slot + j)) pasted
      ∙ sector_inside (64 * slot) 64 part old fits whole (64 * slot + j) (omega arith) (omega (arith, lt))
      ∙ ap (λ (m : ℕ). sector m part) (let e : 64 * slot + j - 64 * slot ≡ j = omega arith in e)

  lower : (i j : ℕ) → j < 64 → i < slot → sector (64 * i + j) written ≡ sector (64 * i + j) old
  lower i j lt below = ap (sector (64 * i + j)) pasted ∙ sector_before (64 * slot) 64 part old fits whole (64 * i + j) (omega (arith, lt, below))

  higher : (i j : ℕ) → slot < i → sector (64 * i + j) written ≡ sector (64 * i + j) old
  higher i j above = ap (sector (64 * i + j)) pasted ∙ sector_after (64 * slot) 64 part old fits whole (64 * i + j) (omega (arith, above))

  beside : (i j : ℕ) → j < 64 → (i ≡ slot → ⊥) → sector (64 * i + j) written ≡ sector (64 * i + j) old
  beside i j lt other = ⊎_elim (λ below. lower i j lt below) (λ le. ⊎_elim (λ above. higher i j above) (λ ge. absurd (other (let e : i ≡ slot = omega (arith, le, ge) in e))) (cases_lt slot i)) (cases_lt i slot)

  -- what is kept then, with the tags that there are then
  pub rekept : (told : Option State) (tags new : List ℕ) → AreKept told tags old → ((i : ℕ) → (i ≡ slot → ⊥) → get_or new i 0 ≡ get_or tags i 0)
      → ((s : State) → told ≡ Some s → (j w : ℕ) → j < 64 → get_or new slot 0 ≡ w + 1 → sector j part ≡ newest s (64 * w + j)) → AreKept told new written
  rekept told tags new kept others here s is i j w low lt tag = ⊎_elim
      (λ e. ap (λ (m : ℕ). sector (64 * m + j) written) e ∙ inside j lt ∙ here s is j w lt (sym (ap (λ (m : ℕ). get_or new m 0) e) ∙ tag))
      (λ other. beside i j lt other ∙ kept s is i j w low lt (sym (others i other) ∙ tag))
      (cases_eq i slot)

  -- after a read of the window with this number
  pub kept_read : (told : Option State) (tags : List ℕ) (window : ℕ) → length tags ≡ 32 → AreKept told tags old → ReadsSectors told (64 * window) part → AreKept told (set (set tags slot 0) slot (window + 1)) written
  kept_read told tags window count kept reads = rekept told tags (set (set tags slot 0) slot (window + 1)) kept
      (λ i other. get_or-set_other (set tags slot 0) slot i (window + 1) 0 other ∙ get_or-set_other tags slot i 0 0 other)
      (λ s is j w lt tag.
      let there : get_or (set (set tags slot 0) slot (window + 1)) slot 0 ≡ window + 1 = get_or-set_same (set tags slot 0) slot (window + 1) 0 (omega (arith, count, length-set tags slot 0)) in
      let same : window ≡ w = omega (arith, there, tag) in
      (subst (λ (o : Option State). ReadsSectors o (64 * window) part) is reads) j (omega (arith, lt, long)) ∙ ap (λ (m : ℕ). newest s (64 * m + j)) same)

  -- and after one that failed
  pub kept_failed : (told : Option State) (tags : List ℕ) → length tags ≡ 32 → AreKept told tags old → AreKept told (set tags slot 0) written
  kept_failed told tags count kept = rekept told tags (set tags slot 0) kept (λ i other. get_or-set_other tags slot i 0 0 other)
      (λ s is j w lt tag. let none : get_or (set tags slot 0) slot 0 ≡ 0 = get_or-set_same tags slot 0 0 (omega (arith, count)) in absurd (omega (arith, none, tag)))
