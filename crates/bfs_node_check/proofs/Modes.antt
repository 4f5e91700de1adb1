-- Modes of the three kinds.
use Rattle.std.proofs.Common.{◌≡◌, ℕ}
use Rattle.bfs_tree.specs.declared.call.Kind.{Kind}
use Rattle.bfs_tree.specs.declared.call.Kind.TheVariants.{File, Dir, Link}
use Rattle.bfs_sound.specs.Inodes.{kind_bits}

-- a number that is none of the three
pub no_kind : (n : ℕ) → (n ≡ 4 → ⊥) → (n ≡ 8 → ⊥) → (n ≡ 10 → ⊥) → (kind : Kind) → n ≡ kind_bits kind → ⊥
no_kind n dir file link File e = file e
no_kind n dir file link Dir e = dir e
no_kind n dir file link Link e = link e
