-- What is known of a volume's blocks and groups.
use Rattle.std.proofs.Common.{◌≡◌, ◌≤◌, ◌≤ℤ◌, ◌%◌, ◌/◌, ◌==◌, ◌&&◌, ℕ, ℤ, pos, negsuc, Bool, true, false, refl, ap, arith}
use Rattle.std.proofs.lemmas.Int.{ints}
use Rattle.bfs_super.specs.Conditions.{IsValid, natural}
use Rattle.bfs_super.specs.declared.sup.Super.{Super}
use Rattle.bfs_stream.specs.Places.{HasStream}
use Rattle.bfs_tree.specs.declared.call.Kind.TheVariants.{Dir, Link}
use Rattle.bfs_sound.specs.Volumes.{Volume, sizes}
use Rattle.bfs_sound.specs.Inodes.{mode_bits, is_short}
use Rattle.bfs_finding.specs.Ways.{says, lacks_stream}
use Rattle.bfs_node_check.specs.declared.role.Role.{Role}
use Rattle.bfs_node_check.specs.Roles.{is_node}
use Rattle.bfs_inode_walk.specs.Visited.{IsSoundIn}

shift_in : (z : ℤ) → z ≤ℤ pos 16 → natural z ≤ 16
shift_in (pos n) low = omega (arith, ints, low)
shift_in (negsuc n) low = omega arith

-- a group has at most 2^16 blocks
pub small_shift : (s : Super) → IsValid s → natural s.ag_shift ≤ 16
small_shift s valid = shift_in s.ag_shift valid.groups.0.2

eq_yes : (a b : ℕ) → (a == b) ≡ true → a ≡ b
eq_yes a b e = grind (arith, e)

four_not_ten : (n : ℕ) → n ≡ 4 → (n == 10) ≡ false
four_not_ten n e = ap (λ (k : ℕ). k == 10) e

no_and : (a b : Bool) → a ≡ false → (a && b) ≡ false
no_and a b e = ap (λ (c : Bool). c && b) e

and_no : (a b : Bool) → b ≡ false → (a && b) ≡ false
and_no true b e = e
and_no false b e = refl

-- a directory that was gone over has a stream
pub dir_stream : (v : Volume) (role : Role) (b : ℕ) → IsSoundIn v role b → says v b Dir ≡ true → HasStream (sizes v.geometry) v.blocks b
dir_stream v role b sound dir =
    let link : says v b Link ≡ false = four_not_ten (mode_bits v b / 4096 % 16) (eq_yes (mode_bits v b / 4096 % 16) 4 dir) in
    sound.stream (and_no (is_node role) (lacks_stream v b) (no_and (says v b Link) (is_short v b) link))
