-- The child that a look-up finds, in a tree whose child may be removed.
use Rattle.std.proofs.Common.{◌≡◌, ◌≤◌, ◌<◌, ℕ, List, [], Option, Some, None, refl, sym, ap, ◌∙◌, arith}
use Rattle.std.specs.FinMap.{empty}
use Rattle.bfs_super.specs.Conditions.{natural}
use Rattle.bfs_super.specs.Geometry.{geometry_of}
use Rattle.bfs_super.specs.declared.sup.Super.{Super}
use Rattle.bfs_bitmap.specs.Runs.{Room}
use Rattle.bfs_tree.specs.States.{State}
use Rattle.bfs_tree.specs.Steps.{Reads}
use Rattle.bfs_tree.specs.Trees.{Node, Tree, IsNode, is_dir, child}
use Rattle.bfs_tree.specs.declared.call.Call.TheVariants as calls
use Rattle.bfs_tree.specs.declared.call.Kind.TheVariants.{Dir}
use Rattle.bfs_tree.specs.declared.reply.Reply.{Reply}
use Rattle.bfs_tree.proofs.Members.{child-there}
use Rattle.bfs_shift.specs.Lists.{Lists}
use Rattle.bfs_look.specs.Ready.{IsReady}
use Rattle.bfs_look.proofs.Known.{node_low}
use Rattle.bfs_remove_node.specs.Refused.{found_in, refused_by}
use Rattle.bfs_remove_node.specs.Removed.{MayBeRemoved, IsChildAt, IsOf}
use Rattle.bfs_remove_node.specs.declared.child.Child.{Child}
use Rattle.bfs_remove_node.proofs.Looking.{no_child}
use Rattle.bfs_remove_node.proofs.Refusing.{looked_none, looked_some, none_held}

-- a state that has the tree, and in which nothing is held
abbrev pub plain_of : Tree → State
plain_of tree = record { tree = tree; holds = []; known = empty }

pub sought_some : (tree : Tree) (dir : ℕ) (name : List ℕ) (reply : Reply) → Reads (calls.Lookup dir name) (plain_of tree) reply → (c : Child) → found_in reply ≡ Some c → IsChildAt tree dir name c.id
sought_some tree dir name reply reads c found =
    let f = looked_some (plain_of tree) dir name reply reads c found in
    (f.node, f.child_is)

pub sought_none : (tree : Tree) (dir : ℕ) (name : List ℕ) (reply : Reply) → Reads (calls.Lookup dir name) (plain_of tree) reply → MayBeRemoved tree dir name → found_in reply ≡ None → ⊥
sought_none tree dir name reply reads may nothing =
    let bad : Some (refused_by reply) ≡ None = sym (looked_none (plain_of tree) dir name reply reads nothing) ∙ none_held (plain_of tree) dir name may refl in
    cc

module _ (tree : Tree) (dir : ℕ) (name : List ℕ) (reply : Reply) (reads : Reads (calls.Lookup dir name) (plain_of tree) reply) where
  pub found_none : (d : Node) → IsNode tree dir d → d.kind ≡ Dir → (e : ℕ × Node) → child tree dir name ≡ Some e → found_in reply ≡ None → ⊥
  found_none d is kind e there nothing =
      let bad : None ≡ Some e = sym (no_child (plain_of tree) dir name reply reads nothing d is (ap is_dir kind)) ∙ there in
      cc

  pub found_some : (c : Child) → found_in reply ≡ Some c → (e : ℕ × Node) → child tree dir name ≡ Some e → IsOf e c
  found_some c found e there =
      let f = looked_some (plain_of tree) dir name reply reads c found in
      let same : (c.id, f.node) ≡ e = (let both : Some (c.id, f.node) ≡ Some e = sym f.child_is ∙ there in cc) in
      record { id = ap (λ (x : ℕ × Node). x.0) same; kind = f.kind_is ∙ ap (λ (x : ℕ × Node). x.1.kind) same }

-- a number that isn't below that of the volume's blocks is no node's
pub not_beyond : (s : Super) (v : Room) (m : ℕ → Option (List ℕ)) (tree : Tree) (lists : Lists) → IsReady (geometry_of s) v m tree lists → (id : ℕ) (n : Node) → IsNode tree id n → natural s.num_blocks ≤ id → ⊥
not_beyond s v m tree lists ready id n is high =
    let low : id < natural s.num_blocks = node_low s v m tree lists ready id n is in
    omega (arith, low, high)

pub child_within : (s : Super) (v : Room) (m : ℕ → Option (List ℕ)) (tree : Tree) (lists : Lists) → IsReady (geometry_of s) v m tree lists → (dir : ℕ) (name : List ℕ) (id : ℕ) → IsChildAt tree dir name id → natural s.num_blocks ≤ id → ⊥
child_within s v m tree lists ready dir name id at high = not_beyond s v m tree lists ready id at.0 (child-there tree dir name (id, at.0) at.1).0 high
