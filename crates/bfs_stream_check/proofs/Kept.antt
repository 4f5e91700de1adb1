-- A stream that keeps its format has no value that breaks it.
use Rattle.std.proofs.Common.{◌≡◌, ◌≤◌, ◌<◌, ◌+◌, ◌*◌, inl, inr, ⊎_elim, ℕ, ℤ, pos, negsuc, suc, List, [], ◌∷◌, length, refl, sym, ap, ◌∙◌, subst, arith}
use Rattle.std.specs.Prelude.{◌≤ℤ◌, ◌<ℤ◌, All}
use Rattle.std.proofs.lemmas.Int.{ints}
use Rattle.bfs_bytes.specs.declared.Run.{Run}
use Rattle.bfs_super.specs.Conditions.{natural}
use Rattle.bfs_stream.specs.Sizes.{Sizes, IsInVolume, IsWhole}
use Rattle.bfs_stream.specs.Places.{Levels, HasLevels, used_runs, places_of}
use Rattle.bfs_sound.specs.Owners.{In}
use Rattle.bfs_finding.specs.StreamFaults.{LeavesBy, by_group, by_end, by_blocks, IsDoubleIn, IsUsedIn, IsLevelFault, leaves, wrong_length, early_indirect, early_double, direct_range, indirect_range, double_range, wrong_size}
use Rattle.bfs_stream_check.specs.declared.fault.ReadFault.{ReadFault}
use Rattle.bfs_stream_check.specs.declared.fault.ReadFault.TheVariants.{Wrong, Block}
use Rattle.bfs_stream_check.specs.Read.{IsLevelsFault, IsOfBlock}

member : (P : Run → Type 0) (xs : List Run) (x : Run) → All P xs → In x xs → P x
member P [] x all i = absurd i
member P (y ∷ ys) x all (inl e) = subst P (sym e) (all 0 y (omega arith))
member P (y ∷ ys) x all (inr i) = member P ys x (λ k d h. all (suc k) d (omega (arith, h))) i

below_zero : (z : ℤ) → pos 0 ≤ℤ z → z <ℤ pos 0 → ⊥
below_zero (pos n) low high = omega (arith, ints, high)
below_zero (negsuc n) low high = omega (arith, ints, low)

above_most : (z : ℤ) (m : ℕ) → natural z ≤ m → pos m <ℤ z → ⊥
above_most (pos n) m most high = omega (arith, ints, most, high)
above_most (negsuc n) m most high = omega (arith, ints, high)

no_leaving : (s : Sizes) (run : Run) (found wanted : ℤ) → IsInVolume s run → LeavesBy s run found wanted → ⊥
no_leaving s run found wanted v (by_group low _ _) = below_zero run.group v.group low
no_leaving s run found wanted v (by_end past _ _) = let most = v.one_group in omega (arith, most, past)
no_leaving s run found wanted v (by_blocks past _ _) = let most = v.inside in omega (arith, most, past)

module _ (s : Sizes) (l : Levels) (h : HasLevels s l) where
  double_whole : (run : Run) → IsDoubleIn l run → IsWhole s run
  double_whole run (inl own) = ⊎_elim (λ none. absurd (own.1 (ap (λ (r : Run). r.len) own.0 ∙ none))) (λ d. subst (IsWhole s) (sym own.0) d.0) h.double
  double_whole run (inr (inl i)) = member (IsWhole s) (used_runs l.arrays) run h.arrays i
  double_whole run (inr (inr i)) = member (IsWhole s) (used_runs l.runs) run h.in_double i

  used_inside : (run : Run) → IsUsedIn l run → IsInVolume s run
  used_inside run (inl i) = member (IsInVolume s) (used_runs l.stream.direct) run h.direct i
  used_inside run (inr (inl own)) = ⊎_elim (λ none. absurd (own.1 (ap (λ (r : Run). r.len) own.0 ∙ none))) (λ d. subst (IsInVolume s) (sym own.0) d.0) h.indirect
  used_inside run (inr (inr (inl i))) = member (IsInVolume s) (used_runs l.table) run h.in_indirect i
  used_inside run (inr (inr (inr d))) = (double_whole run d).inside

  no_level_fault : (found wanted : ℤ) → IsLevelFault s l found wanted → ⊥
  no_level_fault found wanted (leaves run used past) = no_leaving s run found wanted (used_inside run used) past
  no_level_fault found wanted (wrong_length run used is want other) = other (is ∙ ap pos (double_whole run used).long ∙ sym want)
  no_level_fault found wanted (early_indirect some few _ _) = ⊎_elim (λ none. some none) (λ full. few full.1) h.indirect
  no_level_fault found wanted (early_double some few _ _) =
      ⊎_elim (λ none. some none) (λ full. ⊎_elim (λ z. let n = full.1 in absurd (omega (arith, z, n))) (λ other. other full.2) few) h.double
  no_level_fault found wanted (direct_range is want other) = other (is ∙ h.direct_range ∙ sym want)
  no_level_fault found wanted (indirect_range is want other) = other (is ∙ h.indirect_range ∙ sym want)
  no_level_fault found wanted (double_range is want other) = other (is ∙ h.double_range ∙ sym want)
  no_level_fault found wanted (wrong_size is want (inl low)) = below_zero l.stream.size h.size_low (subst (λ z. z <ℤ pos 0) is low)
  no_level_fault found wanted (wrong_size is want (inr high)) =
      above_most l.stream.size (s.block_size * length (places_of s l)) h.size_high (subst (λ z. pos (s.block_size * length (places_of s l)) <ℤ z) is (subst (λ z. z <ℤ found) want high))

  pub only_blocks : (f : ReadFault) → IsLevelsFault s l f → IsOfBlock f
  only_blocks (Wrong w) h = no_level_fault w.found w.wanted h
  only_blocks (Block fault) h = tt
