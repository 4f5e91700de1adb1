-- What is wrong with an inode's bytes is a finding on each volume in which the inode is reached so; and what is right about a node.
use Rattle.std.proofs.Common.{◌≡◌, ◌∙◌, inl, inr, ◌/◌, ◌%◌, ℕ, List, drop, Bool, true, false, Option, Some, None, sym, ap, subst, arith}
use Rattle.std.proofs.lemmas.Bool.{false≢true}
use Rattle.bfs_bytes.specs.Fields.{unsigned_at}
use Rattle.bfs_tree.specs.declared.call.Kind.{Kind}
use Rattle.bfs_tree.specs.declared.call.Kind.TheVariants.{Dir, Link}
use Rattle.bfs_sound.specs.Volumes.{Volume}
use Rattle.bfs_sound.specs.Inodes.{kind_bits, mode_bits, flag_bits, is_short}
use Rattle.bfs_finding.specs.Ways.{Way, to_system, to_root, to_child, to_directory, to_attribute, to_indices, to_index, says, IsReached, root_reached, row_reached, Arrives}
use Rattle.bfs_finding.specs.NodeFaults.{IsModeFault, IsAreaFault, runs_past, long_name, IsInodeFault, of_field, of_mode, of_area, of_target, area_of}
use Rattle.bfs_node_check.specs.declared.inode.InodeWrong.{InodeWrong}
use Rattle.bfs_node_check.specs.declared.role.Role.{Role}
use Rattle.bfs_node_check.specs.declared.role.Role.TheVariants as roles
use Rattle.bfs_node_check.specs.Roles.{role_of, is_node, IsGoodMode}
use Rattle.bfs_node_check.specs.Areas.{HasShortNames, HasShortTarget, IsWrongArea}
use Rattle.bfs_node_check.specs.Inodes.{IsWrongInode, in_field, in_mode, in_area, in_target, IsGoodNode}

node_of : Option Role → Bool
node_of None = false
node_of (Some r) = is_node r

IsGoodOf : Option Role → ℕ → Type 0
IsGoodOf None mode = Unit {0}
IsGoodOf (Some r) mode = IsGoodMode r mode

not_system : (way : Way) (role : Role) → role_of way ≡ Some role → way ≡ to_system → ⊥
not_system way role is e = let none : None ≡ Some role = sym (ap role_of e) ∙ is in cc

-- a node is reached
pub reached_by : (v : Volume) (way : Way) (b : ℕ) (role : Role) → is_node role ≡ true → role_of way ≡ Some role → Arrives v way b → IsReached v b
unfolding node_of
reached_by v to_system b role node is arrives = absurd (false≢true (ap node_of is ∙ node))
reached_by v to_root b role node is arrives = subst (IsReached v) (sym arrives) root_reached
reached_by v (to_child d name) b role node is arrives = row_reached d name b arrives.0 arrives.1 arrives.2
reached_by v (to_directory id) b role node is arrives = absurd (false≢true (ap node_of is ∙ node))
reached_by v (to_attribute id name) b role node is arrives = absurd (false≢true (ap node_of is ∙ node))
reached_by v to_indices b role node is arrives = absurd (false≢true (ap node_of is ∙ node))
reached_by v (to_index name) b role node is arrives = absurd (false≢true (ap node_of is ∙ node))

mode_by : (v : Volume) (way : Way) (b : ℕ) (role : Role) → role_of way ≡ Some role → (IsGoodOf (role_of way) (mode_bits v b) → ⊥) → IsModeFault v way b
unfolding IsGoodOf
mode_by v to_system b role is bad = bad tt
mode_by v to_root b role is bad = bad
mode_by v (to_child d name) b role is bad = λ kind e. bad (kind, e)
mode_by v (to_directory id) b role is bad = bad
mode_by v (to_attribute id name) b role is bad = bad
mode_by v to_indices b role is bad = bad
mode_by v (to_index name) b role is bad = bad

mode_fault : (v : Volume) (way : Way) (b : ℕ) (role : Role) → role_of way ≡ Some role → (IsGoodMode role (mode_bits v b) → ⊥) → IsModeFault v way b
unfolding IsGoodOf
mode_fault v way b role is bad = mode_by v way b role is (λ good. bad (subst (λ (o : Option Role). IsGoodOf o (mode_bits v b)) is good))

area_fault : (v : Volume) (b at : ℕ) → IsWrongArea (area_of v b) at → IsAreaFault v b at
area_fault v b at (inl past) = runs_past at past
area_fault v b at (inr long) = long_name long.front long.item long.back at long.items long.place long.long

is_link : (v : Volume) (b : ℕ) → mode_bits v b / 4096 % 16 ≡ 10 → says v b Link ≡ true
is_link v b e = grind (arith, e)

is_short_one : (v : Volume) (b : ℕ) → flag_bits v b / 64 % 2 ≡ 0 → is_short v b ≡ true
is_short_one v b e = grind (arith, e)

wrong_inode : (v : Volume) (way : Way) (b : ℕ) (role : Role) (w : InodeWrong) → role_of way ≡ Some role → Arrives v way b → IsWrongInode (v.blocks b) b v.geometry.shift role w → IsInodeFault v b w.part w.found
wrong_inode v way b role w is arrives (in_field fault refusal field) = of_field way fault (not_system way role is) arrives refusal field
wrong_inode v way b role w is arrives (in_mode bad part found) = of_mode way arrives (mode_fault v way b role is bad) part found
wrong_inode v way b role w is arrives (in_area node at wrong part found) = of_area at (reached_by v way b role node is arrives) (area_fault v b at wrong) part found
wrong_inode v way b role w is arrives (in_target node short long part found) =
    of_target (reached_by v way b role node is arrives) (is_link v b short.0) (is_short_one v b short.1) long part found

pub inode_fault : (v : Volume) (way : Way) (b : ℕ) (bytes : List ℕ) (shift : ℕ) (role : Role) (w : InodeWrong) → v.blocks b ≡ bytes → v.geometry.shift ≡ shift → role_of way ≡ Some role → Arrives v way b
    → IsWrongInode bytes b shift role w → IsInodeFault v b w.part w.found
inode_fault v way b bytes shift role w same shift_is is arrives wrong =
    wrong_inode v way b role w is arrives
    (subst (λ (n : ℕ). IsWrongInode (v.blocks b) b n role w) (sym shift_is) (subst (λ (l : List ℕ). IsWrongInode l b shift role w) (sym same) wrong))

with_kind : (v : Volume) (b : ℕ) (kind : Kind) → mode_bits v b / 4096 % 16 ≡ kind_bits kind → HasShortNames (area_of v b) → HasShortTarget (v.blocks b) → IsGoodNode v b
with_kind v b kind is names target = record {
  kind = kind;
  kind_is = is;
  items = names.items;
  area = names.area;
  short = names.short;
  target = λ link short. target (is ∙ ap kind_bits link, short_flag v b short);
}
  where
    short_flag : (v : Volume) (b : ℕ) → is_short v b ≡ true → flag_bits v b / 64 % 2 ≡ 0
    short_flag v b e = grind (arith, e)

by_role : (v : Volume) (b : ℕ) (role : Role) → is_node role ≡ true → IsGoodMode role (mode_bits v b) → HasShortNames (area_of v b) → HasShortTarget (v.blocks b) → IsGoodNode v b
by_role v b roles.Root node mode names target = with_kind v b Dir mode names target
by_role v b roles.Child node mode names target = with_kind v b mode.0 mode.1 names target
by_role v b roles.AttributeDirectory node mode names target = absurd (false≢true node)
by_role v b roles.Attribute node mode names target = absurd (false≢true node)
by_role v b roles.Index node mode names target = absurd (false≢true node)

pub good_node : (v : Volume) (b : ℕ) (bytes : List ℕ) (role : Role) → v.blocks b ≡ bytes → is_node role ≡ true → IsGoodMode role (unsigned_at 4 bytes 20) → HasShortNames (drop 232 bytes) → HasShortTarget bytes → IsGoodNode v b
good_node v b bytes role same node mode names target =
    by_role v b role node (subst (λ (l : List ℕ). IsGoodMode role (unsigned_at 4 l 20)) (sym same) mode)
    (subst (λ (l : List ℕ). HasShortNames (drop 232 l)) (sym same) names) (subst HasShortTarget (sym same) target)
