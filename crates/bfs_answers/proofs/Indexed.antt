-- What a call answers that makes an index.
use Rattle.std.proofs.Common.{◌≡◌, ℕ, ℤ, List, Bool, Option, None, refl, ap}
use Rattle.bfs_base.specs.declared.kind.KeyKind.{KeyKind}
use Rattle.bfs_super.specs.declared.geometry.Geometry.{Geometry}
use Rattle.bfs_bitmap.specs.Runs.{Room}
use Rattle.bfs_tree.specs.declared.call.Call.TheVariants.{IndexMake}
use Rattle.bfs_tree.specs.declared.reply.Reply.TheVariants.{Done}
use Rattle.bfs_tree.specs.Changes.{changed}
use Rattle.bfs_tree.specs.Refusals.{own_refusal}
use Rattle.bfs_tree.specs.States.{State}
use Rattle.bfs_tree.specs.Steps.{ByTree}
use Rattle.bfs_tree.specs.Trees.{Tree}
use Rattle.bfs_calls.specs.Done.{IsDone, IsDoneSo}
use Rattle.bfs_index_make.specs.Made.{with_new_index}

-- an index was made, in every state that has the tree
pub indexed_so : (g : Geometry) (v now : Room) (m : ℕ → Option (List ℕ)) (tree : Tree) (name : List ℕ) (kind : KeyKind) (stamp : ℤ) (told : Option (ℕ → Option (List ℕ))) (old new : ℕ → Bool) → ((s : State) → s.tree ≡ tree → own_refusal (IndexMake name kind) s ≡ None)
    → IsDone g v now m tree (with_new_index tree name kind) told old new → IsDoneSo g v now m tree stamp (IndexMake name kind) Done told old new
indexed_so g v now m tree name kind stamp told old new fine done = record {
  after = with_new_index tree name kind;
  done = done;
  answers = λ s same. (changed 0 stamp (IndexMake name kind) Done s, ap (λ (t : Tree). with_new_index t name kind) same, λ session. ByTree.answered (fine s same) refl refl);
}
