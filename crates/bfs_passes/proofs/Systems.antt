-- The blocks of the system, claimed as two runs.
use Rattle.std.proofs.Common.{◌≡◌, ◌∙◌, ◌+◌, ℕ, suc, List, [], ◌∷◌, ◌++◌, length, length-append, sym, ap, subst, arith}
use Rattle.bfs_base.specs.Lists.{times, counted_from}
use Rattle.bfs_super.specs.Conditions.{natural, block_of_run}
use Rattle.bfs_super.specs.Geometry.{bitmap_length}
use Rattle.bfs_super.specs.declared.sup.Super.{Super}
use Rattle.bfs_claims.specs.Claims.{Claimed, AreClaimed}
use Rattle.bfs_claims.proofs.Claiming.{times_append, length_run}
use Rattle.bfs_sound.specs.Whole.{volume_of}
use Rattle.bfs_indices_check.specs.Laws.{system_blocks}

same_claims : (c : Claimed) (xs ys : List ℕ) → ((k : ℕ) → times k xs ≡ times k ys) → length xs ≡ length ys → AreClaimed c xs → AreClaimed c ys
same_claims c xs ys same long a = record { each = λ k. sym (same k) ∙ a.each k; number = a.number ∙ long }

more_is : (n : ℕ) → 1 + n ≡ suc n
more_is n = omega arith

module _ (s : Super) (blocks : ℕ → List ℕ) where
  abbrev bits : ℕ
  bits = bitmap_length (natural s.num_blocks) s.block_size

  abbrev log : List ℕ
  log = counted_from (block_of_run s s.log_blocks) s.log_blocks.len

  front : counted_from 0 (1 + bits) ≡ 0 ∷ counted_from 1 bits
  front = ap (counted_from 0) (more_is bits)

  -- in the order in which they are claimed, and in that of the words
  in_order : List ℕ
  in_order = ([] ++ counted_from 0 (1 + bits)) ++ log

  same_times : (k : ℕ) → times k (([] ++ counted_from 0 (1 + bits)) ++ log) ≡ times k (system_blocks (volume_of s blocks))
  same_times k =
      let a = times_append k (counted_from 0 (1 + bits)) log in
      let b : times k (counted_from 0 (1 + bits)) ≡ times k (0 ∷ counted_from 1 bits) = ap (times k) front in
      let c = times_append k (0 ∷ []) (counted_from 1 bits) in
      let d = times_append k (0 ∷ log) (counted_from 1 bits) in
      let e = times_append k (0 ∷ []) log in
      omega (arith, a, b, c, d, e)

  same_length : length (([] ++ counted_from 0 (1 + bits)) ++ log) ≡ length (system_blocks (volume_of s blocks))
  same_length =
      let a = length-append (counted_from 0 (1 + bits)) log in
      let b = length_run 0 (1 + bits) in
      let c = length_run 1 bits in
      let d = length-append (0 ∷ log) (counted_from 1 bits) in
      let e : length (0 ∷ log) ≡ 1 + length log = omega arith in
      omega (arith, a, b, c, d, e)

  pub system_claimed : (c : Claimed) → AreClaimed c (([] ++ counted_from 0 (1 + bits)) ++ counted_from (block_of_run s s.log_blocks) s.log_blocks.len) → AreClaimed c (system_blocks (volume_of s blocks))
  system_claimed c a = same_claims c (([] ++ counted_from 0 (1 + bits)) ++ log) (system_blocks (volume_of s blocks)) same_times same_length a

  -- the same, as it is told
  pub told_claimed : (c : Claimed) (count first len : ℕ) → count ≡ bits → first ≡ block_of_run s s.log_blocks → len ≡ s.log_blocks.len
      → AreClaimed c (([] ++ counted_from 0 (1 + count)) ++ counted_from first len) → AreClaimed c (system_blocks (volume_of s blocks))
  told_claimed c count first len e f l a =
      system_claimed c (subst (λ (n : ℕ). AreClaimed c (([] ++ counted_from 0 (1 + bits)) ++ counted_from (block_of_run s s.log_blocks) n)) l
      (subst (λ (n : ℕ). AreClaimed c (([] ++ counted_from 0 (1 + bits)) ++ counted_from n len)) f
      (subst (λ (n : ℕ). AreClaimed c (([] ++ counted_from 0 (1 + n)) ++ counted_from first len)) e a)))
