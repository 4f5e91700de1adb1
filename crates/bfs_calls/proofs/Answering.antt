-- How a call is answered: it is refused and nothing has changed, or a node was made.
use Rattle.std.proofs.Common.{◌≡◌, ◌∙◌, ℕ, ℤ, List, [], Option, Some, None, Bool, refl, ap}
use Rattle.std.specs.FinMap.{get, empty}
use Rattle.bfs_super.specs.declared.geometry.Geometry.{Geometry}
use Rattle.bfs_bitmap.specs.Runs.{Room}
use Rattle.bfs_tree.specs.Changes.{made}
use Rattle.bfs_tree.specs.Refusals.{own_refusal}
use Rattle.bfs_tree.specs.States.{State}
use Rattle.bfs_tree.specs.Steps.{ByTree}
use Rattle.bfs_tree.specs.Trees.{Tree}
use Rattle.bfs_tree.specs.declared.call.Call.{Call}
use Rattle.bfs_tree.specs.declared.call.Call.TheVariants as calls
use Rattle.bfs_tree.specs.declared.call.MakeKind.{MakeKind}
use Rattle.bfs_tree.specs.declared.reply.Reply.{Reply}
use Rattle.bfs_tree.specs.declared.reply.Reply.TheVariants as replies
use Rattle.bfs_moves.proofs.Ends.{goes_on_same}
use Rattle.bfs_shift.specs.Lists.{Lists}
use Rattle.bfs_look.specs.Ready.{IsReady}
use Rattle.bfs_calls.specs.Done.{IsDoneSo}
use Rattle.bfs_calls.specs.Made.{IsMadeIn}

-- a refusal changes nothing
pub refused_so : (g : Geometry) (v : Room) (m : ℕ → Option (List ℕ)) (tree : Tree) (lists : Lists) (told : Option (ℕ → Option (List ℕ))) (changed : ℕ → Bool) (stamp : ℤ) (call : Call) (reply : Reply)
    → told ≡ Some m → IsReady g v m tree lists → ((s : State) → s.tree ≡ tree → own_refusal call s ≡ Some reply) → IsDoneSo g v v m tree stamp call reply told changed changed
refused_so g v m tree lists told changed stamp call reply is ready refused = record {
  after = tree;
  done = record {
    lists = lists;
    step = record { map = m; is = is; work = ready.work; goes_on = goes_on_same g v m tree changed };
    agrees = ready.agrees;
    root = refl;
  };
  answers = λ s same. (s, same, λ session. ByTree.refused (refused s same) refl);
}

-- a node was made, in every state that has the tree
module _ (g : Geometry) (v now : Room) (m : ℕ → Option (List ℕ)) (tree : Tree) (dir : ℕ) (name : List ℕ) (kind : MakeKind) (mode : ℕ) (stamp : ℤ) (id : ℕ) (told : Option (ℕ → Option (List ℕ))) (old new : ℕ → Bool)
    (fine : (s : State) → s.tree ≡ tree → own_refusal (calls.Make dir name kind mode) s ≡ None) where
  abbrev plain : State
  plain = record { tree = tree; holds = []; known = empty }

  abbrev tree_after : Tree → Tree
  tree_after t = (made (record { tree = t; holds = []; known = empty }) dir name kind mode stamp id).tree

  pub made_so : IsMadeIn g v now m tree plain dir name kind mode stamp id told old new → IsDoneSo g v now m tree stamp (calls.Make dir name kind mode) (replies.Made id) told old new
  made_so one = record {
    after = tree_after tree;
    done = one.done;
    answers = λ s same. (
      made s dir name kind mode stamp id,
      ap tree_after same,
      λ session. ByTree.answered (fine s same) (id, refl, ap (λ (t : Tree). get t.nodes id) same ∙ one.absent) refl,
    );
  }
