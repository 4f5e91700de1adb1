-- An entry whose call was answered or turned away may follow a history.
use Rattle.std.proofs.Common.{◌≡◌, ◌≢◌, ℕ, ℤ, List, [], ◌∷◌, ◌++◌, Option, Some, None, true, false, refl, sym, ap, ◌∙◌, subst}
use Rattle.std.specs.Prelude.{IsSomeAnd}
use Rattle.std.specs.List.{list_any}
use Rattle.std.proofs.lemmas.Grind.{fold-append}
use Rattle.bfs_tree.specs.declared.call.Call.{Call}
use Rattle.bfs_tree.specs.declared.call.Call.TheVariants as calls
use Rattle.bfs_tree.specs.declared.reply.Reply.{Reply}
use Rattle.bfs_tree.specs.declared.reply.Reply.TheVariants as replies
use Rattle.bfs_tree.specs.declared.reply.Entry.{Entry}
use Rattle.std.specs.FinMap.{get, entries}
use Rattle.bfs_tree.specs.Answers.{IsAnswer, info_of, rows_of_attributes}
use Rattle.bfs_tree.specs.Listings.{rows_between}
use Rattle.bfs_tree.specs.Trees.{child}
use Rattle.bfs_tree.specs.Histories.{Mounted, Follows, Legal, after, state_after, start, drawn, last_stamp, is_stop, is_stopped}
use Rattle.bfs_tree.specs.States.{State}
use Rattle.bfs_tree.specs.Steps.{ByTree, Turn, Step, next, is_done}
use Rattle.bfs_tree.proofs.Replies.{own-refuses, step-next}
use Rattle.bfs_tree.proofs.Stamps.{drawn-later}

some_and : {A : Type 0} (o : Option A) (P : A → Type 0) → ((a : A) → P a → ⊥) → IsSomeAnd o P → ⊥
some_and None P never bad = bad
some_and (Some a) P never p = never a p

-- no call but Sync is answered by a number of durable entries
not_synced : (session : ℕ) (call : Call) (s : State) (upto : ℕ) → call ≢ calls.Sync → IsAnswer session call s (replies.Synced upto) → ⊥
not_synced session (calls.Make dir name kind mode) s upto other a = let bad = a.1 in cc
not_synced session (calls.Remove dir name) s upto other a = cc
not_synced session (calls.Rename dir name to_dir to_name) s upto other a = cc
not_synced session (calls.Lookup dir name) s upto other a = some_and (child s.tree dir name) (λ e. replies.Synced upto ≡ replies.Found e.0 e.1.kind) (λ x e. cc) a
not_synced session (calls.List dir) s upto other a = cc
not_synced session (calls.Stat id) s upto other a = some_and (get s.tree.nodes id) (λ n. replies.Synced upto ≡ replies.Info (info_of n)) (λ x e. cc) a
not_synced session (calls.SetMode id mode uid gid) s upto other a = cc
not_synced session (calls.SetSize id size) s upto other a = cc
not_synced session (calls.ReadLink id) s upto other a = some_and (get s.tree.nodes id) (λ n. replies.Synced upto ≡ replies.Target n.target) (λ x e. cc) a
not_synced session (calls.AttrWrite id name kind bytes) s upto other a = cc
not_synced session (calls.AttrRead id name) s upto other a = some_and (get s.tree.nodes id) (λ n. IsSomeAnd (get n.attributes name) (λ v. replies.Synced upto ≡ replies.Attr v.code v.bytes)) (λ x e. some_and (get x.attributes name) (λ v. replies.Synced upto ≡ replies.Attr v.code v.bytes) (λ y f. cc) e) a
not_synced session (calls.AttrRemove id name) s upto other a = cc
not_synced session (calls.AttrList id) s upto other a = some_and (get s.tree.nodes id) (λ n. replies.Synced upto ≡ replies.Attrs (rows_of_attributes (entries n.attributes))) (λ x e. cc) a
not_synced session (calls.IndexMake name kind) s upto other a = cc
not_synced session (calls.IndexRemove name) s upto other a = cc
not_synced session calls.IndexList s upto other a = cc
not_synced session (calls.IndexFind name low high) s upto other a = some_and (get s.tree.indices name) (λ kind. replies.Synced upto ≡ replies.Rows (rows_between s.tree name kind low high)) (λ x e. cc) a
not_synced session (calls.Hold id at count writes) s upto other a = cc
not_synced session (calls.Release id bytes whole from to) s upto other a = let bad = a.0 in cc
not_synced session calls.Sync s upto other a = other refl

-- nor is it a refusal
pub tree_unsynced : (session : ℕ) (stamp : ℤ) (call : Call) (reply : Reply) (s t : State) → call ≢ calls.Sync → ByTree session stamp call reply s t → (upto : ℕ) → reply ≡ replies.Synced upto → ⊥
tree_unsynced session stamp call reply s t no_sync (ByTree.refused refusal same) upto e = let bad : true ≡ false = sym (ap is_done e) ∙ own-refuses call s reply refusal in cc
tree_unsynced session stamp call reply s t no_sync (ByTree.answered none answer same) upto e = not_synced session call s upto no_sync (subst (λ (r : Reply). IsAnswer session call s r) e answer)

module _ (t0 : Mounted) (history : List Entry) (session tag now : ℕ) (call : Call) (reply : Reply) (t : State) (other : session ≢ 0) (legal : Legal t0 history)
    (turned : Turn session (drawn (last_stamp history) now) call reply (state_after t0 history) t) (unsynced : (upto : ℕ) → reply ≡ replies.Synced upto → ⊥)
    (quiet : list_any (λ e. is_stop e.reply) history ≡ true → is_stopped reply ≡ true) where
  abbrev entry : Entry
  entry = record { session = session; tag = tag; stamp = drawn (last_stamp history) now; call = call; reply = reply }

  is_next : t ≡ next (state_after t0 history) entry
  is_next = step-next (state_after t0 history) t entry turned

  pub follows : Follows t0 history entry
  follows = record {
    step = subst (Step (state_after t0 history) entry) is_next turned;
    later = drawn-later t0 history now legal;
    service = λ e. absurd (other e);
    durable = λ upto e. absurd (unsynced upto e);
    stopped = λ stop needs. quiet stop;
  }

  pub tree_after : after t0 (history ++ entry ∷ []) ≡ t.tree
  tree_after = ap (λ (s : State). s.tree) (fold-append next (start t0) history (entry ∷ []) ∙ sym is_next)
