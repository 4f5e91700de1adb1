-- Whether a call takes the place of another node.
use Rattle.std.specs.Prelude.{◌≡◌, ℕ, List, Some, None, Bool, true, false, is_some}
use Rattle.std.specs.FinMap.{get}
use Rattle.bfs_count.specs.Counts.{replaces}
use Rattle.bfs_tree.specs.declared.call.Call.{Call}
use Rattle.bfs_tree.specs.declared.reply.Reply.{Reply}
use Rattle.bfs_tree.specs.declared.reply.Reply.TheVariants as replies
use Rattle.bfs_tree.specs.Refusals.{own_refusal}
use Rattle.bfs_tree.specs.States.{State}
use Rattle.bfs_tree.specs.Trees.{Node, Tree, child, is_dir}

abbrev pub is_found : Reply → Bool
is_found (replies.Found id kind) = true
is_found _ = false

-- in a directory, whether it has a child of this name
abbrev pub IsThere : Tree → ℕ → List ℕ → Bool → Type 0
IsThere tree dir name found = (d : Node) → get tree.nodes dir ≡ Some d → is_dir d.kind ≡ true → found ≡ is_some (child tree dir name)

-- of a call that has no refusal of its own, whether it takes the place of another node
abbrev pub FindsPlace : Tree → Call → Bool → Type 0
FindsPlace tree call found = (s : State) → s.tree ≡ tree → own_refusal call s ≡ None → found ≡ replaces tree call
