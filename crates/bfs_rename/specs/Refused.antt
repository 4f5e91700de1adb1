-- The refusals of a call that renames a node, from the new directory on.
use Rattle.std.specs.Prelude.{◌≡◌, ◌<◌, ℕ, List, ◌∷◌, Bool, true, false, not}
use Rattle.std.specs.FinMap.{get}
use Rattle.bfs_tree.specs.declared.call.Kind.{Kind}
use Rattle.bfs_tree.specs.declared.reply.Reply.{Reply}
use Rattle.bfs_tree.specs.declared.reply.Reply.TheVariants.{NotDir, NameBad, Exists, NotEmpty, Inside}
use Rattle.bfs_tree.specs.Names.{is_bad_name}
use Rattle.bfs_tree.specs.Refusals.{at_node, at_replaced, held, is_full, is_inside, is_one_dir, replaced}
use Rattle.bfs_tree.specs.States.{State, conflict}
use Rattle.bfs_tree.specs.Trees.{Node, child, is_dir}

-- by the node that a node of this id and kind would replace
abbrev pub over_refusals : State → ℕ → Kind → ℕ → List ℕ → List (Bool × Reply)
over_refusals s id kind to_dir to_name = at_replaced (replaced id (child s.tree to_dir to_name)) (λ there other.
    (is_one_dir kind other.kind, Exists) ∷ (is_full s.tree there other, NotEmpty) ∷ held (conflict s.holds there true))

-- by the new directory and the new name, and then by that node
abbrev pub into_refusals : State → ℕ → Node → ℕ → List ℕ → List (Bool × Reply)
into_refusals s id node to_dir to_name = at_node (get s.tree.nodes to_dir) (λ t.
    (not (is_dir t.kind), NotDir) ∷ (is_bad_name to_name, NameBad) ∷ (is_inside s.tree id node to_dir, Inside) ∷ over_refusals s id node.kind to_dir to_name)

-- what holds of a new place, whatever the volume: its directory is a block of the volume, and the name isn't bad
pub record IsPlace (blocks dir : ℕ) (name : List ℕ) : Type 0 where
  pub inside : dir < blocks
  pub good_name : is_bad_name name ≡ false
