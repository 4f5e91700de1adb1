-- Wrong streams, worked out.
use Rattle.std.proofs.Common.{◌≢◌, inl, inr, ℕ, pos, refl, ap, arith}
use Rattle.std.proofs.lemmas.Int.{ints}
use Rattle.bfs_super.specs.Conditions.{natural}
use Rattle.bfs_sound.specs.Places.{level_blocks}
use Rattle.bfs_finding.specs.StreamFaults.{leaves, direct_range, wrong_size, early_indirect, by_group, by_blocks, not_one, past_end}
use Rattle.bfs_finding.specs.Worked.{StreamsAreWorked}

apart : (a b : ℕ) → a ≢ b → pos a ≢ pos b
apart a b other e = other (ap natural e)

pub worked : StreamsAreWorked
unfolding level_blocks
worked = record {
  range = direct_range refl refl (apart 1024 2048 (λ e. omega (arith, e)));
  leaves = leaves _ (inl (inl refl)) (by_blocks (omega arith) refl refl);
  outside = leaves _ (inl (inl refl)) (by_group (omega (arith, ints)) refl refl);
  long = wrong_size refl refl (inr (omega (arith, ints)));
  short = wrong_size refl refl (inl (omega (arith, ints)));
  early = early_indirect (λ e. omega (arith, e)) (λ e. omega (arith, e)) refl refl;
  pair = not_one (λ e. omega (arith, e)) refl refl;
  past = past_end (omega arith) refl refl;
}
