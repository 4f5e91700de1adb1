-- Findings on a stream, or on the address of an attribute directory, exclude that it keeps its format.
use Rattle.std.proofs.Common.{◌≡◌, ◌≤◌, ◌<◌, ◌+◌, ◌*◌, inl, inr, ⊎_elim, ℕ, ℤ, pos, negsuc, List, length, refl, sym, ap, ◌∙◌, subst, arith}
use Rattle.std.specs.Prelude.{◌≤ℤ◌, ◌<ℤ◌, All, ◌^◌}
use Rattle.std.proofs.lemmas.Int.{ints}
use Rattle.std.proofs.lemmas.List.Elements.{recursion_from_All}
use Rattle.bfs_bytes.specs.declared.Run.{Run}
use Rattle.bfs_bytes.specs.Fields.{run_in}
use Rattle.bfs_inode.specs.Refusals.{Names}
use Rattle.bfs_super.specs.Conditions.{natural}
use Rattle.bfs_sound.specs.Sizes.{Sizes, first_block, IsInVolume, IsWhole}
use Rattle.bfs_sound.specs.Places.{Levels, HasLevels, used_runs, places_of, levels_at}
use Rattle.bfs_sound.specs.Volumes.{Volume, sizes}
use Rattle.bfs_sound.specs.Owners.{In}
use Rattle.bfs_tree.specs.Trees.{Tree}
use Rattle.bfs_finding.specs.StreamFaults.{LeavesBy, by_group, by_end, by_blocks, IsDoubleIn, IsUsedIn, IsLevelFault, leaves, wrong_length, early_indirect, early_double, direct_range, indirect_range, double_range, wrong_size, IsAddressFault, not_one, in_no_group, past_group, past_end, IsStreamFault, of_levels, of_address}
use Rattle.bfs_finding.proofs.Upright.{Upright}
use Rattle.bfs_finding.proofs.Rows.{all_in}
use Rattle.bfs_finding.proofs.Nodes.{no_group, stream_good, address_good}

member : {X : Type 0} (P : X → Type 0) (xs : List X) (x : X) → All P xs → In x xs → P x
member P xs x all i = all_in P xs x (recursion_from_All P xs all) i

below_zero : (z : ℤ) → pos 0 ≤ℤ z → z <ℤ pos 0 → ⊥
below_zero (pos n) low high = omega (arith, ints, high)
below_zero (negsuc n) low high = omega (arith, ints, low)

above_most : (z : ℤ) (m : ℕ) → natural z ≤ m → pos m <ℤ z → ⊥
above_most (pos n) m most high = omega (arith, ints, most, high)
above_most (negsuc n) m most high = omega (arith, ints, high)

no_leaving : (s : Sizes) (run : Run) (found wanted : ℤ) → IsInVolume s run → LeavesBy s run found wanted → ⊥
no_leaving s run found wanted v (by_group low _ _) = below_zero run.group v.group low
no_leaving s run found wanted v (by_end past _ _) = let most = v.one_group in omega (arith, most, past)
no_leaving s run found wanted v (by_blocks past _ _) = let most = v.inside in omega (arith, most, past)

module _ (s : Sizes) (l : Levels) (h : HasLevels s l) where
  double_whole : (run : Run) → IsDoubleIn l run → IsWhole s run
  double_whole run (inl own) = ⊎_elim (λ none. absurd (own.1 (ap (λ (r : Run). r.len) own.0 ∙ none))) (λ d. subst (IsWhole s) (sym own.0) d.0) h.double
  double_whole run (inr (inl i)) = member (IsWhole s) (used_runs l.arrays) run h.arrays i
  double_whole run (inr (inr i)) = member (IsWhole s) (used_runs l.runs) run h.in_double i

  used_inside : (run : Run) → IsUsedIn l run → IsInVolume s run
  used_inside run (inl i) = member (IsInVolume s) (used_runs l.stream.direct) run h.direct i
  used_inside run (inr (inl own)) = ⊎_elim (λ none. absurd (own.1 (ap (λ (r : Run). r.len) own.0 ∙ none))) (λ d. subst (IsInVolume s) (sym own.0) d.0) h.indirect
  used_inside run (inr (inr (inl i))) = member (IsInVolume s) (used_runs l.table) run h.in_indirect i
  used_inside run (inr (inr (inr d))) = (double_whole run d).inside

  no_level_fault : (found wanted : ℤ) → IsLevelFault s l found wanted → ⊥
  no_level_fault found wanted (leaves run used past) = no_leaving s run found wanted (used_inside run used) past
  no_level_fault found wanted (wrong_length run used is want other) = other (is ∙ ap pos (double_whole run used).long ∙ sym want)
  no_level_fault found wanted (early_indirect some few _ _) = ⊎_elim (λ none. some none) (λ full. few full.1) h.indirect
  no_level_fault found wanted (early_double some few _ _) =
      ⊎_elim (λ none. some none) (λ full. ⊎_elim (λ z. let n = full.1 in absurd (omega (arith, z, n))) (λ other. other full.2) few) h.double
  no_level_fault found wanted (direct_range is want other) = other (is ∙ h.direct_range ∙ sym want)
  no_level_fault found wanted (indirect_range is want other) = other (is ∙ h.indirect_range ∙ sym want)
  no_level_fault found wanted (double_range is want other) = other (is ∙ h.double_range ∙ sym want)
  no_level_fault found wanted (wrong_size is want (inl low)) = below_zero l.stream.size h.size_low (subst (λ z. z <ℤ pos 0) is low)
  no_level_fault found wanted (wrong_size is want (inr high)) =
      above_most l.stream.size (s.block_size * length (places_of s l)) h.size_high (subst (λ z. pos (s.block_size * length (places_of s l)) <ℤ z) is (subst (λ z. z <ℤ found) want high))

-- the address of an inode's block, which lies in the volume
no_address : (s : Sizes) (run : Run) (shift : ℕ) (found wanted : ℤ) → s.group_blocks ≡ 2 ^ shift → Names run (first_block s run) shift → first_block s run < s.blocks → IsAddressFault s run found wanted → ⊥
no_address s run shift found wanted g n inside (not_one other _ _) = other n.one
no_address s run shift found wanted g n inside (in_no_group low _ _) = no_group run.group run.start shift low n.inside (n.block ∙ ap pos (first run.group low))
  where
    first : (z : ℤ) → z <ℤ pos 0 → natural z * s.group_blocks + run.start ≡ run.start
    first (pos k) low = absurd (omega (arith, ints, low))
    first (negsuc k) low = let none : 0 * s.group_blocks ≡ 0 = grind arith in omega (arith, none)
no_address s run shift found wanted g n inside (past_group past _ _) = let most = n.inside in omega (arith, g, most, past)
no_address s run shift found wanted g n inside (past_end past _ _) = omega (arith, inside, past)

pub no_stream : (v : Volume) (tree : Tree) → Upright v tree → (owner : ℕ) (found wanted : ℤ) → IsStreamFault v owner found wanted → ⊥
no_stream v tree s owner found wanted (of_levels there f) = no_level_fault (sizes v.geometry) (levels_at (sizes v.geometry) v.blocks owner) (stream_good v tree s owner there) found wanted f
no_stream v tree s owner found wanted (of_address up other f) =
    let a = address_good v tree s owner up other in no_address (sizes v.geometry) (run_in (v.blocks owner) 52) v.geometry.shift found wanted refl a.0 a.1 f
