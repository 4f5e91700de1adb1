-- A node's mode, user and group were set.
use Rattle.std.proofs.Common.{◌≡◌, ◌∙◌, ℕ, ℤ, List, [], Option, Some, None, Bool, inr, refl, sym, ap, subst}
use Rattle.std.specs.FinMap.{get, empty}
use Rattle.bfs_super.specs.declared.geometry.Geometry.{Geometry}
use Rattle.bfs_bitmap.specs.Runs.{Room}
use Rattle.bfs_tree.specs.Changes.{changed}
use Rattle.bfs_tree.specs.Refusals.{own_refusal, first, at_node}
use Rattle.bfs_tree.specs.States.{State}
use Rattle.bfs_tree.specs.Steps.{ByTree}
use Rattle.bfs_tree.specs.Trees.{Tree, Node, IsNode}
use Rattle.bfs_tree.specs.declared.call.Call.TheVariants.{SetMode}
use Rattle.bfs_tree.specs.declared.reply.Reply.TheVariants.{Done, NotFound}
use Rattle.bfs_shift.specs.Lists.{Lists, Agrees}
use Rattle.bfs_shift.specs.TreeLaws.{Rekeys}
use Rattle.bfs_shift.specs.Work.{IsStepped}
use Rattle.bfs_shift.proofs.Statuses.{status_agrees}
use Rattle.bfs_moves.specs.declared.status.Status.{Status}
use Rattle.bfs_moves.specs.Statuses.{with_status}
use Rattle.bfs_moves.proofs.Statused.{status_tree}
use Rattle.bfs_look.specs.Ready.{IsReady}
use Rattle.bfs_calls.specs.Done.{IsDoneSo}

-- a call that is refused where there is no node, and for nothing else
pub none_there : (s : State) (id mode : ℕ) (uid gid : ℤ) → get s.tree.nodes id ≡ None → own_refusal (SetMode id mode uid gid) s ≡ Some NotFound
none_there s id mode uid gid none = ap (λ o. first (at_node o (λ (n : Node). []))) none

pub one_there : (s : State) (id mode : ℕ) (uid gid : ℤ) (n : Node) → IsNode s.tree id n → own_refusal (SetMode id mode uid gid) s ≡ None
one_there s id mode uid gid n is = ap (λ o. first (at_node o (λ (n : Node). []))) is

pub node_there : (tree : Tree) (id mode : ℕ) (uid gid : ℤ) → ((s : State) → s.tree ≡ tree → own_refusal (SetMode id mode uid gid) s ≡ None) → (n : Node) × IsNode tree id n
node_there tree id mode uid gid fine = by_node (get tree.nodes id) refl
  where
    plain : State
    plain = record { tree = tree; holds = []; known = empty }

    by_node : (o : Option Node) → get tree.nodes id ≡ o → (n : Node) × IsNode tree id n
    by_node (Some n) e = (n, e)
    by_node None e = absurd (let bad : Some NotFound ≡ None = sym (none_there plain id mode uid gid e) ∙ fine plain refl in cc)

module _ (g : Geometry) (v : Room) (m : ℕ → Option (List ℕ)) (tree : Tree) (lists : Lists) (id mode : ℕ) (uid gid stamp : ℤ) (n : Node) (told : Option (ℕ → Option (List ℕ))) (old new : ℕ → Bool)
    (ready : IsReady g v m tree lists) (is : IsNode tree id n) (fine : (s : State) → s.tree ≡ tree → own_refusal (SetMode id mode uid gid) s ≡ None) where
  abbrev status : Status
  status = record { mode = mode; uid = uid; gid = gid; stamp = stamp }

  abbrev now : Node
  now = record n { mode = mode; uid = uid; gid = gid; changed = stamp }

  -- no index lists the node by what was set
  same_keys : Rekeys tree lists lists id n now
  same_keys = record { rows = λ d. refl; names = refl; kinds = λ index. refl; pairs = λ index value at. inr (refl, refl) }

  agrees : Agrees (with_status tree id status) lists
  agrees = subst (λ (t : Tree). Agrees t lists) (status_tree tree id n status is) (status_agrees tree lists lists id n now is refl refl refl ready.agrees same_keys)

  pub set_so : IsStepped g v v m tree (with_status tree id status) lists [] told old new → IsDoneSo g v v m tree stamp (SetMode id mode uid gid) Done told old new
  set_so step = record {
    after = with_status tree id status;
    done = record { lists = lists; step = step; agrees = agrees; root = refl };
    answers = λ s same. (
      changed 0 stamp (SetMode id mode uid gid) Done s,
      ap (λ (t : Tree). with_status t id status) same,
      λ session. ByTree.answered (fine s same) refl refl,
    );
  }
