-- The holds after a history are those that its entries leave.
use Rattle.std.proofs.Common.{◌≡◌, ◌∙◌, inl, inr, ℕ, ℤ, List, [], ◌∷◌, ◌++◌, Bool, true, false, cond, Option, Some, None, refl, sym, ap}
use Rattle.std.specs.Prelude.{◌==◌}
use Rattle.std.specs.List.{fold}
use Rattle.std.proofs.lemmas.Grind.{fold-append}
use Rattle.bfs_tree.specs.declared.call.Call.{Call}
use Rattle.bfs_tree.specs.declared.call.Call.TheVariants as calls
use Rattle.bfs_tree.specs.declared.reply.Reply.{Reply}
use Rattle.bfs_tree.specs.declared.reply.Entry.{Entry}
use Rattle.bfs_tree.specs.declared.state.Hold.{Hold}
use Rattle.bfs_tree.specs.Changes.{changed, removed, moved, moved_over, without_node, renamed, holding, holding_to_write, released}
use Rattle.bfs_tree.specs.Histories.{Mounted, start}
use Rattle.bfs_tree.specs.States.{State, last_hold}
use Rattle.bfs_tree.specs.Steps.{is_done, next}
use Rattle.bfs_tree.specs.Trees.{Node, child}
use Rattle.bfs_space.specs.Faces.{promised_after}
use Rattle.bfs_space.specs.Holds.{holds_after, held_by, held_next, held_since, without_hold, keeps_holds, KeepsHolds}

removed_holds : (s : State) (dir : ℕ) (stamp : ℤ) (o : Option (ℕ × Node)) → (removed s dir stamp o).holds ≡ s.holds
removed_holds s dir stamp None = refl
removed_holds s dir stamp (Some e) = refl

over_holds : (s : State) (dir to_dir : ℕ) (to_name : List ℕ) (stamp : ℤ) (id : ℕ) (o : Option (ℕ × Node)) → (moved_over s dir to_dir to_name stamp id o).holds ≡ s.holds
over_holds s dir to_dir to_name stamp id None = refl
over_holds s dir to_dir to_name stamp id (Some there) = by_test (there.0 == id)
  where
    by_test : (b : Bool) → (cond {A = State} b s (moved (without_node s there.0) dir to_dir to_name stamp id)).holds ≡ s.holds
    by_test true = refl
    by_test false = refl

renamed_holds : (s : State) (dir to_dir : ℕ) (to_name : List ℕ) (stamp : ℤ) (o : Option (ℕ × Node)) → (renamed s dir to_dir to_name stamp o).holds ≡ s.holds
renamed_holds s dir to_dir to_name stamp None = refl
renamed_holds s dir to_dir to_name stamp (Some e) = over_holds s dir to_dir to_name stamp e.0 (child s.tree to_dir to_name)

holding_holds : (s : State) (hold : Hold) (stamp : ℤ) → (holding s hold stamp).holds ≡ s.holds ++ hold ∷ []
holding_holds s hold stamp = by_test hold.write
  where
    by_test : (b : Bool) → (cond {A = State} b (holding_to_write s hold stamp) (record s { holds = s.holds ++ hold ∷ [] })).holds ≡ s.holds ++ hold ∷ []
    by_test true = refl
    by_test false = refl

released_holds : (s : State) (session id : ℕ) (bytes : List ℕ) (whole : Bool) (o : Option Hold) → (released s session id bytes whole o).holds ≡ without_hold s.holds session id o
released_holds s session id bytes whole None = refl
released_holds s session id bytes whole (Some hold) = refl

-- a call that is done
changed_holds : (session : ℕ) (stamp : ℤ) (call : Call) (reply : Reply) (s : State) → (changed session stamp call reply s).holds ≡ held_since session call s.holds
changed_holds session stamp (calls.Make dir name kind mode) reply s = refl
changed_holds session stamp (calls.Remove dir name) reply s = removed_holds s dir stamp (child s.tree dir name)
changed_holds session stamp (calls.Rename dir name to_dir to_name) reply s = renamed_holds s dir to_dir to_name stamp (child s.tree dir name)
changed_holds session stamp (calls.Lookup dir name) reply s = refl
changed_holds session stamp (calls.List dir) reply s = refl
changed_holds session stamp (calls.Stat id) reply s = refl
changed_holds session stamp (calls.SetMode id mode uid gid) reply s = refl
changed_holds session stamp (calls.SetSize id size) reply s = refl
changed_holds session stamp (calls.ReadLink id) reply s = refl
changed_holds session stamp (calls.AttrWrite id name kind bytes) reply s = refl
changed_holds session stamp (calls.AttrRead id name) reply s = refl
changed_holds session stamp (calls.AttrRemove id name) reply s = refl
changed_holds session stamp (calls.AttrList id) reply s = refl
changed_holds session stamp (calls.IndexMake name kind) reply s = refl
changed_holds session stamp (calls.IndexRemove name) reply s = refl
changed_holds session stamp calls.IndexList reply s = refl
changed_holds session stamp (calls.IndexFind name low high) reply s = refl
changed_holds session stamp (calls.Hold id at count writes) reply s = holding_holds s (record { session = session; id = id; at = at; length = count; write = writes }) stamp
changed_holds session stamp (calls.Release id bytes whole before after) reply s = released_holds s session id bytes whole (last_hold s.holds session id)
changed_holds session stamp calls.Sync reply s = refl

next_holds : (s : State) (e : Entry) → (next s e).holds ≡ held_next s.holds e
next_holds s e = by_test (is_done e.reply)
  where
    by_test : (b : Bool) → (cond {A = State} b (changed e.session e.stamp e.call e.reply s) s).holds ≡ cond {A = List Hold} b (held_since e.session e.call s.holds) s.holds
    by_test true = changed_holds e.session e.stamp e.call e.reply s
    by_test false = refl

folded : (history : List Entry) (s : State) → (fold next s history).holds ≡ fold held_next s.holds history
folded [] s = refl
folded (e ∷ es) s = folded es (next s e) ∙ ap (λ (hs : List Hold). fold held_next hs es) (next_holds s e)

pub held_is_after : (t0 : Mounted) (history : List Entry) → holds_after t0 history ≡ held_by history
held_is_after t0 history = folded history (start t0)

-- a call that leaves the holds, done or not
since_same : (session : ℕ) (call : Call) (holds : List Hold) → keeps_holds call ≡ true → held_since session call holds ≡ holds
since_same session (calls.Hold id at count writes) holds keeps = absurd (let bad : false ≡ true = keeps in cc)
since_same session (calls.Release id bytes whole before after) holds keeps = absurd (let bad : false ≡ true = keeps in cc)
since_same session _ holds keeps = refl

next_same : (holds : List Hold) (e : Entry) → KeepsHolds e.call e.reply → held_next holds e ≡ holds
next_same holds e (inl keeps) = by_test (is_done e.reply)
  where
    by_test : (b : Bool) → cond {A = List Hold} b (held_since e.session e.call holds) holds ≡ holds
    by_test true = since_same e.session e.call holds keeps
    by_test false = refl
next_same holds e (inr undone) = ap (λ (b : Bool). cond {A = List Hold} b (held_since e.session e.call holds) holds) undone

-- nor does it promise anything
pub kept_promises : (session : ℕ) (call : Call) (reply : Reply) (promised : List ℕ) → keeps_holds call ≡ true → promised_after session call reply promised ≡ promised
kept_promises session (calls.Hold id at count writes) reply promised keeps = absurd (let bad : false ≡ true = keeps in cc)
kept_promises session _ reply promised keeps = refl

pub entry_is_held : (history : List Entry) (e : Entry) → held_by (history ++ e ∷ []) ≡ held_next (held_by history) e
entry_is_held history e = fold-append held_next [] history (e ∷ [])

pub entry_keeps_holds : (history : List Entry) (e : Entry) → KeepsHolds e.call e.reply → held_by (history ++ e ∷ []) ≡ held_by history
entry_keeps_holds history e keeps = entry_is_held history e ∙ next_same (held_by history) e keeps

-- what a space keeps is what its history leaves, with one entry more that leaves the holds
pub still_held : (holds : List Hold) (history more : List Entry) (e : Entry) → more ≡ history ++ e ∷ [] → KeepsHolds e.call e.reply → holds ≡ held_by history → holds ≡ held_by more
still_held holds history more e items keeps held = held ∙ sym (entry_keeps_holds history e keeps) ∙ ap held_by (sym items)

-- and with any entry more, once they are those that it leaves
pub now_held : (holds now : List Hold) (history more : List Entry) (e : Entry) → more ≡ history ++ e ∷ [] → now ≡ held_next holds e → holds ≡ held_by history → now ≡ held_by more
now_held holds now history more e items is held = is ∙ ap (λ (hs : List Hold). held_next hs e) held ∙ sym (entry_is_held history e) ∙ ap held_by (sym items)
