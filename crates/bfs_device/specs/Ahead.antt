-- What the books of a device say by themselves, and how they go on.
use Rattle.std.specs.Prelude.{◌≡◌, ◌⊎◌, ◌≤◌, ℕ, List, [], ◌∷◌}
use Rattle.bfs_super.specs.declared.sup.Super.{Super}
use Rattle.bfs_super.specs.declared.geometry.Geometry.{Geometry}
use Rattle.bfs_super.specs.Conditions.{natural, IsValid}
use Rattle.bfs_super.specs.Geometry.{geometry_of}
use Rattle.bfs_txn.specs.declared.group.Group.{Group}
use Rattle.bfs_device.specs.Layouts.{layout_of}
use Rattle.bfs_device.specs.Books.{Books, Follow, IsPhaseFor, IsVersion, durable_of, sealed_of, used_of}
use Rattle.bfs_device.specs.Seals.{last_used}

-- What is true of the books of every device: the superblock is valid, its log is empty, the groups follow one another, and the
-- phase is one of the first.
pub record IsSteady (b : Books) : Type 0 where
  pub valid : IsValid b.sup
  pub empty : b.sup.log_start ≡ b.sup.log_end
  pub follow : Follow (layout_of b.sup) b.sup.block_size b.left (natural b.sup.used_blocks) b.groups
  pub phase : IsPhaseFor b.groups b.phase

-- the numbers are in order: left, durable, each version, sealed; the last is a version, with the last used blocks
pub record HasOrder (b : Books) : Type 0 where
  pub left : b.left ≤ durable_of b
  pub low : (n : ℕ) → IsVersion b n → durable_of b ≤ n
  pub high : (n : ℕ) → IsVersion b n → n ≤ sealed_of b
  pub newest : IsVersion b (sealed_of b)
  pub used : used_of b (sealed_of b) ≡ last_used b

-- the group is one of these
abbrev pub IsGroupOf : Group → List Group → Type 0
IsGroupOf g [] = ⊥
IsGroupOf g (x ∷ xs) = (g ≡ x) ⊎ IsGroupOf g xs

-- the geometry with so many used blocks
abbrev pub geometry_with : Super → ℕ → Geometry
geometry_with s used = record (geometry_of s) { used = used }

-- The books of the same device later, where none was sealed: the volume stays, each version was one, with the same used blocks,
-- and each group was there.
pub record GoesOn (old new : Books) : Type 0 where
  pub geometry : (used : ℕ) → geometry_with new.sup used ≡ geometry_with old.sup used
  pub versions : (n : ℕ) → IsVersion new n → IsVersion old n
  pub used : (n : ℕ) → IsVersion new n → used_of new n ≡ used_of old n
  pub sealed : sealed_of new ≡ sealed_of old
  pub last_used : last_used new ≡ last_used old
  pub groups : (g : Group) → IsGroupOf g new.groups → IsGroupOf g old.groups
  pub left : old.left ≤ new.left
  pub durable : durable_of old ≤ durable_of new
