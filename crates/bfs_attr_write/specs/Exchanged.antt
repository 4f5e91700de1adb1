-- Blocks that came to something on a volume, and blocks that went from it.
use Rattle.std.specs.Prelude.{◌≡◌, ◌<◌, ℕ, ◌==◌, ◌&&◌, List, ◌++◌, true, Option, if◌then◌else◌}
use Rattle.bfs_base.specs.Lists.{times, Has}
use Rattle.bfs_bitmap.specs.Runs.{Room, Fits, IsCounted, per_block, is_free, marked}
use Rattle.bfs_stream.specs.Grown.{IsOutside, is_new}
use Rattle.bfs_stream.specs.Trimmed.{AreMarked}

-- Something had the first of these blocks and has the second since. What it has now and had not was free, and is marked; what it
-- had and has no more is marked no more, and isn't free; no other bit changed; where what it had was marked, a right count of the
-- used blocks stays right; and but for bits and these blocks nothing changed, block 0 among the rest.
pub record Exchanged (v now : Room) (m map : ℕ → Option (List ℕ)) (before after : List ℕ) : Type 0 where
  pub rest : now ≡ record v { given = now.given; tally = now.tally }
  pub fits : Fits now map
  pub were_free : (k : ℕ) → Has after k → times k before ≡ 0 → is_free v m k ≡ true
  pub free : (k : ℕ) → is_free now map k ≡ (is_free v m k && (times k after == 0))
  pub marks : (k : ℕ) → k < v.blocks → marked (per_block v) map k ≡ (if is_new before after k then 1 else (if is_new after before k then 0 else marked (per_block v) m k))
  pub counted : AreMarked v before m → IsCounted v m → IsCounted now map
  pub others : (k : ℕ) → IsOutside v k → times k (before ++ after) ≡ 0 → map k ≡ m k
  pub first : times 0 (before ++ after) ≡ 0 → map 0 ≡ m 0
