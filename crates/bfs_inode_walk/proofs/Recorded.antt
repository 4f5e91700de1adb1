-- The record of a node that was gone over.
use Rattle.std.proofs.Common.{◌≡◌, ◌≤◌, ◌<◌, ◌%◌, ◌/◌, ◌==◌, ◌&&◌, ℕ, List, length, Some, Bool, true, false, cond, refl, sym, ap, ◌∙◌, subst}
use Rattle.std.specs.List.{AllByRecursion}
use Rattle.bfs_base.specs.declared.kind.KeyKind.TheVariants.{Text}
use Rattle.bfs_smalldata.specs.Items.{Item}
use Rattle.bfs_stream.specs.Places.{HasStream}
use Rattle.bfs_tree.specs.declared.call.Kind.{Kind}
use Rattle.bfs_tree.specs.declared.call.Kind.TheVariants.{File, Dir, Link}
use Rattle.bfs_values.specs.Reached.{IsWholeTree}
use Rattle.bfs_sound.specs.Volumes.{Volume, sizes}
use Rattle.bfs_sound.specs.Inodes.{kind_bits, mode_bits, is_short, content}
use Rattle.bfs_sound.specs.Nodes.{HasTarget, HasContent}
use Rattle.bfs_finding.specs.NodeFaults.{target_of}
use Rattle.bfs_finding.specs.Ways.{says, lacks_stream}
use Rattle.bfs_node_check.specs.declared.role.Role.{Role}
use Rattle.bfs_node_check.specs.Roles.{is_node}
use Rattle.bfs_node_check.specs.Inodes.{IsGoodNode}
use Rattle.bfs_inode_walk.specs.Visited.{IsSoundIn}
use Rattle.bfs_inode_walk.specs.Records.{target_in, record_in, RecordIsNode}

and_none : (a b : Bool) → b ≡ false → (a && b) ≡ false
and_none true b e = e
and_none false b e = refl

none_and : (a b : Bool) → a ≡ false → (a && b) ≡ false
none_and a b e = ap (λ (c : Bool). c && b) e

abbrev kind_at : ℕ → Kind
kind_at n = cond (n == 8) File (cond (n == 4) Dir Link)

kind_back : (k : Kind) → kind_at (kind_bits k) ≡ k
kind_back File = refl
kind_back Dir = refl
kind_back Link = refl

same_kind : (a b : Kind) → kind_bits a ≡ kind_bits b → a ≡ b
same_kind a b e = sym (kind_back a) ∙ ap kind_at e ∙ kind_back b

some_items : (xs ys : List Item) → Some xs ≡ Some ys → xs ≡ ys
some_items xs ys e = cc

module _ (v : Volume) (id : ℕ) (role : Role) (node : is_node role ≡ true) (s : IsSoundIn v role id) where
  -- a node that is no link has a stream
  streamed_by : says v id Link ≡ false → HasStream (sizes v.geometry) v.blocks id
  streamed_by e = s.stream (and_none (is_node role) (lacks_stream v id) (none_and (says v id Link) (is_short v id) e))

  good : IsGoodNode v id
  good = s.node node

  module _ (name : List ℕ) (parent : ℕ) (items : List Item) where
    content_of : (kind : Kind) → mode_bits v id / 4096 % 16 ≡ kind_bits kind → (kind ≡ Dir → IsWholeTree Text (content v id)) → HasContent v id (record_in v id kind name parent items) kind
    content_of File m tree = (streamed_by (ap (λ (n : ℕ). n == 10) m), refl, refl)
    content_of Dir m tree = (streamed_by (ap (λ (n : ℕ). n == 10) m), tree refl, refl, refl)
    content_of Link m tree = (by_short (is_short v id) refl, refl)
      where
        by_short : (c : Bool) → is_short v id ≡ c → HasTarget v id (target_in v id Link) (is_short v id)
        by_short true e =
            let low : length (target_of v id) < 144 = good.target (same_kind good.kind Link (sym good.kind_is ∙ m)) e in
            subst (λ (c : Bool). HasTarget v id (cond c (target_of v id) (content v id)) c) (sym e) (refl, low)
        by_short false e =
            subst (λ (c : Bool). HasTarget v id (cond c (target_of v id) (content v id)) c) (sym e)
            (s.stream (and_none (is_node role) (lacks_stream v id) (and_none (says v id Link) (is_short v id) e)), refl)

pub record_is : RecordIsNode
record_is v id role kind name parent items node s parts called = record {
  inode = s.inode;
  kind = parts.kind_is;
  mode = refl;
  uid = refl;
  gid = refl;
  created = refl;
  modified = refl;
  changed = refl;
  content_is = content_of v id role node s name parent items kind parts.kind_is parts.tree;
  items = items;
  area = parts.area;
  distinct = parts.distinct;
  short = let g = s.node node in subst (AllByRecursion (λ (item : Item). length item.name ≤ 255)) (some_items g.items items (sym g.area ∙ parts.area)) g.short;
  called = called;
  directory = parts.directory;
  apart = parts.apart;
  attributes = refl;
}
