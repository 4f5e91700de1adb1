-- No entry of a legal history tells of damage: a tree has none.
use Rattle.std.proofs.Common.{◌≡◌, ◌++◌, ℕ, List, [], ◌∷◌, Option, Some, None, Bool, true, false, IsTrue, ◌||◌, refl, subst}
use Rattle.std.specs.FinMap.{get}
use Rattle.bfs_base.specs.declared.kind.KeyKind.{KeyKind}
use Rattle.bfs_tree.specs.declared.call.Call.{Call}
use Rattle.bfs_tree.specs.declared.call.Call.TheVariants as calls
use Rattle.bfs_tree.specs.declared.reply.Reply.{Reply}
use Rattle.bfs_tree.specs.declared.reply.Reply.TheVariants as replies
use Rattle.bfs_tree.specs.declared.reply.Entry.{Entry}
use Rattle.bfs_tree.specs.declared.state.Hold.{Hold}
use Rattle.bfs_tree.specs.Trees.{Node, child}
use Rattle.bfs_tree.specs.States.{State, conflict}
use Rattle.bfs_tree.specs.Refusals.{first, at_node, at_child, at_replaced, at_index, replaced, held, refusals}
use Rattle.bfs_tree.specs.Steps.{refused, answered, by_tree, by_disk, no_room, is_done, is_by_disk, is_for_room, Step, next}
use Rattle.bfs_tree.specs.Histories.{Mounted, LegalFrom, state_after}
use Rattle.bfs_tree.proofs.Replies.{answer-done}
use Rattle.bfs_tool.specs.Shell.{has_damage, is_damage}

-- no reply of a row of refusals tells of damage
abbrev Undamaged : List (Bool × Reply) → Type 0
Undamaged [] = Unit {0}
Undamaged (r ∷ rs) = (is_damage r.1 ≡ false) × Undamaged rs

first_undamaged : (rs : List (Bool × Reply)) (r : Reply) → Undamaged rs → first rs ≡ Some r → is_damage r ≡ false
first_undamaged [] r each e = absurd (cc)
first_undamaged ((true, x) ∷ rs) r each e = let same : x ≡ r = cc in subst (λ (y : Reply). is_damage y ≡ false) same each.0
first_undamaged ((false, x) ∷ rs) r each e = first_undamaged rs r each.1 e

node_undamaged : (o : Option Node) (rest : Node → List (Bool × Reply)) → ((n : Node) → Undamaged (rest n)) → Undamaged (at_node o rest)
node_undamaged None rest each = (refl, tt)
node_undamaged (Some n) rest each = each n

child_undamaged : (o : Option (ℕ × Node)) (rest : ℕ → Node → List (Bool × Reply)) → ((id : ℕ) (n : Node) → Undamaged (rest id n)) → Undamaged (at_child o rest)
child_undamaged None rest each = (refl, tt)
child_undamaged (Some e) rest each = each e.0 e.1

replaced_undamaged : (o : Option (ℕ × Node)) (rest : ℕ → Node → List (Bool × Reply)) → ((id : ℕ) (n : Node) → Undamaged (rest id n)) → Undamaged (at_replaced o rest)
replaced_undamaged None rest each = tt
replaced_undamaged (Some e) rest each = each e.0 e.1

index_undamaged : (o : Option KeyKind) (rest : KeyKind → List (Bool × Reply)) → ((k : KeyKind) → Undamaged (rest k)) → Undamaged (at_index o rest)
index_undamaged None rest each = (refl, tt)
index_undamaged (Some k) rest each = each k

held_undamaged : (o : Option Hold) → Undamaged (held o)
held_undamaged None = tt
held_undamaged (Some h) = (refl, tt)

rows_undamaged : (call : Call) (s : State) → Undamaged (refusals call s)
rows_undamaged (calls.Make dir name kind mode) s = node_undamaged (get s.tree.nodes dir) _ (λ d. (refl, (refl, (refl, (refl, tt)))))
rows_undamaged (calls.Remove dir name) s = node_undamaged (get s.tree.nodes dir) _ (λ d. (refl, child_undamaged (child s.tree dir name) _ (λ id n. (refl, held_undamaged (conflict s.holds id true)))))
rows_undamaged (calls.Rename dir name to_dir to_name) s =
    node_undamaged (get s.tree.nodes dir) _ (λ d. (refl, child_undamaged (child s.tree dir name) _ (λ id n. node_undamaged (get s.tree.nodes to_dir) _ (λ t. (refl, (refl, (refl, replaced_undamaged (replaced id (child s.tree to_dir to_name)) _ (λ there o. (refl, (refl, held_undamaged (conflict s.holds there true)))))))))))
rows_undamaged (calls.Lookup dir name) s = node_undamaged (get s.tree.nodes dir) _ (λ d. (refl, child_undamaged (child s.tree dir name) _ (λ id n. tt)))
rows_undamaged (calls.List dir) s = node_undamaged (get s.tree.nodes dir) _ (λ d. (refl, tt))
rows_undamaged (calls.Stat id) s = node_undamaged (get s.tree.nodes id) _ (λ n. tt)
rows_undamaged (calls.SetMode id mode uid gid) s = node_undamaged (get s.tree.nodes id) _ (λ n. tt)
rows_undamaged (calls.SetSize id size) s = node_undamaged (get s.tree.nodes id) _ (λ n. (refl, (refl, held_undamaged (conflict s.holds id true))))
rows_undamaged (calls.ReadLink id) s = node_undamaged (get s.tree.nodes id) _ (λ n. (refl, tt))
rows_undamaged (calls.AttrWrite id name kind bytes) s = node_undamaged (get s.tree.nodes id) _ (λ n. (refl, (refl, tt)))
rows_undamaged (calls.AttrRead id name) s = node_undamaged (get s.tree.nodes id) _ (λ n. (refl, tt))
rows_undamaged (calls.AttrRemove id name) s = node_undamaged (get s.tree.nodes id) _ (λ n. (refl, tt))
rows_undamaged (calls.AttrList id) s = node_undamaged (get s.tree.nodes id) _ (λ n. tt)
rows_undamaged (calls.IndexMake name kind) s = (refl, (refl, (refl, (refl, (refl, tt)))))
rows_undamaged (calls.IndexRemove name) s = (refl, (refl, tt))
rows_undamaged calls.IndexList s = tt
rows_undamaged (calls.IndexFind name low high) s = index_undamaged (get s.tree.indices name) _ (λ k. (refl, tt))
rows_undamaged (calls.Hold id at count writes) s = node_undamaged (get s.tree.nodes id) _ (λ n. (refl, (refl, (refl, held_undamaged (conflict s.holds id writes)))))
rows_undamaged (calls.Release id bytes whole before after) s = tt
rows_undamaged calls.Sync s = tt

done_undamaged : (r : Reply) → is_done r ≡ true → is_damage r ≡ false
done_undamaged (replies.Damaged block) done = absurd (let e : false ≡ true = done in cc)
done_undamaged _ done = refl

disk_undamaged : (r : Reply) → IsTrue (is_by_disk r) → is_damage r ≡ false
disk_undamaged (replies.Damaged block) is = absurd (let e : false ≡ true = is in cc)
disk_undamaged _ is = refl

room_undamaged : (r : Reply) → IsTrue (is_for_room r) → is_damage r ≡ false
room_undamaged (replies.Damaged block) is = absurd (let e : false ≡ true = is in cc)
room_undamaged _ is = refl

step_undamaged : (old new : State) (e : Entry) → Step old e new → is_damage e.reply ≡ false
step_undamaged old new e (by_tree (refused is stays)) = first_undamaged (refusals e.call old) e.reply (rows_undamaged e.call old) is
step_undamaged old new e (by_tree (answered free answer is)) = done_undamaged e.reply (answer-done e.session e.call old e.reply answer)
step_undamaged old new e (by_disk fault stays) = disk_undamaged e.reply fault
step_undamaged old new e (no_room free changes want stays) = room_undamaged e.reply want

or_false : (a b : Bool) → a ≡ false → b ≡ false → a || b ≡ false
or_false true b is other = absurd (cc)
or_false false b is other = other

pub undamaged : (t0 : Mounted) (before es : List Entry) → LegalFrom t0 before es → has_damage es ≡ false
undamaged t0 before [] legal = refl
undamaged t0 before (e ∷ es) legal = or_false (is_damage e.reply) (has_damage es) (step_undamaged (state_after t0 before) (next (state_after t0 before) e) e legal.0.step) (undamaged t0 (before ++ e ∷ []) es legal.1)
