-- Need, worked out by hand.
use Rattle.std.specs.Prelude.{◌≡◌, ℕ, [], ◌∷◌, replicate}
use Rattle.bfs_smalldata.specs.Items.{Item}
use Rattle.bfs_sound.specs.Volumes.{Volume}
use Rattle.bfs_sound.specs.Need.{no_cost, logged_cost, moving, arrays_for}

-- an item whose name has one byte and which has so many bytes, and so takes 13 more
abbrev pub item_of : ℕ → ℕ → Item
item_of name n = record { kind = 0x52415754; name = name ∷ []; bytes = replicate n 0 }

-- Four rows in trees of one level, as a new file's, are 4 * 28 blocks, and 8 more are 120. Of three items that take 18, 22 and
-- 22 bytes, the last moves first; where one byte less is left, the second moves too. A file of blocks of 1,024 bytes that
-- gains 129 has two blocks for its runs, and 12.
pub record NeedIsWorked : Type 0 where
  pub rows : (v : Volume) → logged_cost v (record no_cost { rows = 1 ∷ 1 ∷ 1 ∷ 1 ∷ [] }) ≡ 120
  pub none : moving 3 62 (item_of 1 5 ∷ item_of 2 9 ∷ item_of 3 9 ∷ []) ≡ []
  pub one : moving 3 40 (item_of 1 5 ∷ item_of 2 9 ∷ item_of 3 9 ∷ []) ≡ item_of 3 9 ∷ []
  pub two : moving 3 39 (item_of 1 5 ∷ item_of 2 9 ∷ item_of 3 9 ∷ []) ≡ item_of 3 9 ∷ item_of 2 9 ∷ []
  pub arrays : (v : Volume) → v.geometry.block_size ≡ 1024 → arrays_for v 129 ≡ 14
