-- The answer to a call that writes an attribute.
use Rattle.std.proofs.Common.{◌≡◌, ℕ, ℤ, List, [], ◌∷◌, length, Option, Some, None, refl}
use Rattle.std.specs.Prelude.{nat_lt}
use Rattle.std.specs.FinMap.{get}
use Rattle.bfs_tree.specs.declared.call.Call.TheVariants.{AttrWrite}
use Rattle.bfs_tree.specs.declared.reply.Reply.TheVariants.{Done, NotFound, NameBad, TooBig}
use Rattle.bfs_tree.specs.declared.state.Hold.{Hold}
use Rattle.bfs_tree.specs.Changes.{changed}
use Rattle.bfs_tree.specs.Names.{is_bad_attribute_name}
use Rattle.bfs_tree.specs.Refusals.{at_node, first, own_refusal}
use Rattle.bfs_tree.specs.States.{State}
use Rattle.bfs_tree.specs.Steps.{ByTree}
use Rattle.bfs_tree.specs.Trees.{Node, Tree}
use Rattle.bfs_look.specs.Ready.{HasNodeAt}
use Rattle.bfs_answers.specs.Answered.{AnswersIn}

-- of an attribute that is written
pub written_answers : (tree after : Tree) (holds : List Hold) (id : ℕ) (name : List ℕ) (kind : ℕ) (bytes : List ℕ) (stamp : ℤ) → ((s : State) → s.tree ≡ tree → own_refusal (AttrWrite id name kind bytes) s ≡ None)
    → ((s : State) → s.tree ≡ tree → (changed 0 stamp (AttrWrite id name kind bytes) Done s).tree ≡ after) → AnswersIn stamp (AttrWrite id name kind bytes) Done tree holds after
written_answers tree after holds id name kind bytes stamp fine follows = λ s same held session.
    (changed 0 stamp (AttrWrite id name kind bytes) Done s, follows s same, ByTree.answered (fine s same) refl refl)

-- a call that writes an attribute has no refusal of its own only where the node is there
pub own_written : (s : State) (id : ℕ) (name : List ℕ) (kind : ℕ) (bytes : List ℕ) → own_refusal (AttrWrite id name kind bytes) s ≡ None → HasNodeAt s.tree id
own_written s id name kind bytes fine = by_node (get s.tree.nodes id) refl fine
  where
    by_node : (o : Option Node) → get s.tree.nodes id ≡ o → first (at_node o (λ node. (is_bad_attribute_name name, NameBad) ∷ (nat_lt 65536 (length bytes), TooBig) ∷ [])) ≡ None → HasNodeAt s.tree id
    by_node None there e = absurd (let bad : Some NotFound ≡ None = e in cc)
    by_node (Some n) there e = (n, there)
