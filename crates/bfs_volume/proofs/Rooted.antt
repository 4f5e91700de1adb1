-- No call gives a tree another root.
use Rattle.std.proofs.Common.{◌≡◌, ◌==◌, ℕ, ℤ, List, [], ◌∷◌, Bool, true, false, cond, Option, Some, None, refl, ◌∙◌}
use Rattle.bfs_tree.specs.declared.call.Call.{Call}
use Rattle.bfs_tree.specs.declared.call.Call.TheVariants as calls
use Rattle.bfs_tree.specs.declared.reply.Reply.{Reply}
use Rattle.bfs_tree.specs.declared.reply.Entry.{Entry}
use Rattle.bfs_tree.specs.declared.state.Hold.{Hold}
use Rattle.bfs_tree.specs.Changes.{changed, holding, moved, moved_over, released, removed, renamed, without_node}
use Rattle.bfs_tree.specs.Histories.{Mounted, after, start}
use Rattle.bfs_tree.specs.States.{State, last_hold}
use Rattle.bfs_tree.specs.Steps.{is_done, next}
use Rattle.bfs_tree.specs.Trees.{Node, child}
use Rattle.std.specs.List.{fold}

removed_root : (s : State) (dir : ℕ) (stamp : ℤ) (o : Option (ℕ × Node)) → (removed s dir stamp o).tree.root ≡ s.tree.root
removed_root s dir stamp None = refl
removed_root s dir stamp (Some e) = refl

over_root : (s : State) (dir to_dir : ℕ) (to_name : List ℕ) (stamp : ℤ) (id : ℕ) (o : Option (ℕ × Node)) → (moved_over s dir to_dir to_name stamp id o).tree.root ≡ s.tree.root
over_root s dir to_dir to_name stamp id None = refl
over_root s dir to_dir to_name stamp id (Some there) = by_same (there.0 == id)
  where
    by_same : (b : Bool) → (cond b s (moved (without_node s there.0) dir to_dir to_name stamp id)).tree.root ≡ s.tree.root
    by_same true = refl
    by_same false = refl

renamed_root : (s : State) (dir to_dir : ℕ) (to_name : List ℕ) (stamp : ℤ) (o : Option (ℕ × Node)) → (renamed s dir to_dir to_name stamp o).tree.root ≡ s.tree.root
renamed_root s dir to_dir to_name stamp None = refl
renamed_root s dir to_dir to_name stamp (Some e) = over_root s dir to_dir to_name stamp e.0 (child s.tree to_dir to_name)

held_root : (s : State) (session id at count : ℕ) (stamp : ℤ) (w : Bool) → (holding s (record { session = session; id = id; at = at; length = count; write = w }) stamp).tree.root ≡ s.tree.root
held_root s session id at count stamp true = refl
held_root s session id at count stamp false = refl

released_root : (s : State) (session id : ℕ) (bytes : List ℕ) (whole : Bool) (o : Option Hold) → (released s session id bytes whole o).tree.root ≡ s.tree.root
released_root s session id bytes whole None = refl
released_root s session id bytes whole (Some h) = refl

changed_root : (session : ℕ) (stamp : ℤ) (call : Call) (reply : Reply) (s : State) → (changed session stamp call reply s).tree.root ≡ s.tree.root
changed_root session stamp (calls.Remove dir name) reply s = removed_root s dir stamp (child s.tree dir name)
changed_root session stamp (calls.Rename dir name to_dir to_name) reply s = renamed_root s dir to_dir to_name stamp (child s.tree dir name)
changed_root session stamp (calls.Hold id at count writes) reply s = held_root s session id at count stamp writes
changed_root session stamp (calls.Release id bytes whole before now) reply s = released_root s session id bytes whole (last_hold s.holds session id)
changed_root session stamp _ reply s = refl

next_root : (s : State) (e : Entry) → (next s e).tree.root ≡ s.tree.root
next_root s e = by_done (is_done e.reply)
  where
    by_done : (b : Bool) → (cond b (changed e.session e.stamp e.call e.reply s) s).tree.root ≡ s.tree.root
    by_done true = changed_root e.session e.stamp e.call e.reply s
    by_done false = refl

root_from : (s : State) (es : List Entry) → (fold next s es).tree.root ≡ s.tree.root
root_from s [] = refl
root_from s (e ∷ es) = root_from (next s e) es ∙ next_root s e

pub same_root : (t0 : Mounted) (history : List Entry) → (after t0 history).root ≡ t0.tree.root
same_root t0 history = root_from (start t0) history
