-- Which replies a step may have.
use Rattle.std.proofs.Common.{◌≡◌, ◌⊎◌, inl, inr, ℕ, List, [], ◌∷◌, Option, Some, None, Bool, true, false, IsTrue, IsSomeAnd, refl, ap, ◌∙◌, subst}
use Rattle.bfs_base.specs.declared.kind.KeyKind.{KeyKind}
use Rattle.bfs_tree.specs.declared.call.Call.{Call}
use Rattle.bfs_tree.specs.declared.call.Call.TheVariants as calls
use Rattle.bfs_tree.specs.declared.reply.Reply.{Reply}
use Rattle.bfs_tree.specs.declared.reply.Reply.TheVariants as replies
use Rattle.bfs_tree.specs.declared.reply.Entry.{Entry}
use Rattle.bfs_tree.specs.declared.state.Hold.{Hold}
use Rattle.bfs_tree.specs.Trees.{Node, child}
use Rattle.bfs_tree.specs.States.{State, conflict}
use Rattle.bfs_tree.specs.Refusals.{first, at_node, at_child, at_replaced, at_index, replaced, held, refusals, own_refusal}
use Rattle.bfs_tree.specs.Answers.{IsAnswer}
use Rattle.bfs_tree.specs.Steps.{refused, answered, by_tree, by_disk, no_room, is_done, is_by_disk, is_for_room, Step, next}
use Rattle.std.specs.FinMap.{get}

-- each reply of a row of refusals is one of no call that is done
abbrev pub EachRefuses : List (Bool × Reply) → Type 0
EachRefuses [] = Unit {0}
EachRefuses (r ∷ rs) = (is_done r.1 ≡ false) × EachRefuses rs

first-refuses : (rs : List (Bool × Reply)) (r : Reply) → EachRefuses rs → first rs ≡ Some r → is_done r ≡ false
first-refuses [] r each e = cc
first-refuses ((true, x) ∷ rs) r each e = let same : x ≡ r = cc in subst (λ (y : Reply). is_done y ≡ false) same each.0
first-refuses ((false, x) ∷ rs) r each e = first-refuses rs r each.1 e

node-refuses : (o : Option Node) (rest : Node → List (Bool × Reply)) → ((n : Node) → EachRefuses (rest n)) → EachRefuses (at_node o rest)
node-refuses None rest each = (refl, tt)
node-refuses (Some n) rest each = each n

child-refuses : (o : Option (ℕ × Node)) (rest : ℕ → Node → List (Bool × Reply)) → ((id : ℕ) (n : Node) → EachRefuses (rest id n)) → EachRefuses (at_child o rest)
child-refuses None rest each = (refl, tt)
child-refuses (Some e) rest each = each e.0 e.1

replaced-refuses : (o : Option (ℕ × Node)) (rest : ℕ → Node → List (Bool × Reply)) → ((id : ℕ) (n : Node) → EachRefuses (rest id n)) → EachRefuses (at_replaced o rest)
replaced-refuses None rest each = tt
replaced-refuses (Some e) rest each = each e.0 e.1

index-refuses : (o : Option KeyKind) (rest : KeyKind → List (Bool × Reply)) → ((k : KeyKind) → EachRefuses (rest k)) → EachRefuses (at_index o rest)
index-refuses None rest each = (refl, tt)
index-refuses (Some k) rest each = each k

held-refuses : (o : Option Hold) → EachRefuses (held o)
held-refuses None = tt
held-refuses (Some h) = (refl, tt)

rows-refuse : (call : Call) (s : State) → EachRefuses (refusals call s)
rows-refuse (calls.Make dir name kind mode) s = node-refuses (get s.tree.nodes dir) _ (λ d. (refl, (refl, (refl, (refl, tt)))))
rows-refuse (calls.Remove dir name) s = node-refuses (get s.tree.nodes dir) _ (λ d. (refl, child-refuses (child s.tree dir name) _ (λ id n. (refl, held-refuses (conflict s.holds id true)))))
rows-refuse (calls.Rename dir name to_dir to_name) s =
    node-refuses (get s.tree.nodes dir) _ (λ d. (refl, child-refuses (child s.tree dir name) _ (λ id n. node-refuses (get s.tree.nodes to_dir) _ (λ t. (refl, (refl, (refl, replaced-refuses (replaced id (child s.tree to_dir to_name)) _ (λ there o. (refl, (refl, held-refuses (conflict s.holds there true)))))))))))
rows-refuse (calls.Lookup dir name) s = node-refuses (get s.tree.nodes dir) _ (λ d. (refl, child-refuses (child s.tree dir name) _ (λ id n. tt)))
rows-refuse (calls.List dir) s = node-refuses (get s.tree.nodes dir) _ (λ d. (refl, tt))
rows-refuse (calls.Stat id) s = node-refuses (get s.tree.nodes id) _ (λ n. tt)
rows-refuse (calls.SetMode id mode uid gid) s = node-refuses (get s.tree.nodes id) _ (λ n. tt)
rows-refuse (calls.SetSize id size) s = node-refuses (get s.tree.nodes id) _ (λ n. (refl, (refl, held-refuses (conflict s.holds id true))))
rows-refuse (calls.ReadLink id) s = node-refuses (get s.tree.nodes id) _ (λ n. (refl, tt))
rows-refuse (calls.AttrWrite id name kind bytes) s = node-refuses (get s.tree.nodes id) _ (λ n. (refl, (refl, tt)))
rows-refuse (calls.AttrRead id name) s = node-refuses (get s.tree.nodes id) _ (λ n. (refl, tt))
rows-refuse (calls.AttrRemove id name) s = node-refuses (get s.tree.nodes id) _ (λ n. (refl, tt))
rows-refuse (calls.AttrList id) s = node-refuses (get s.tree.nodes id) _ (λ n. tt)
rows-refuse (calls.IndexMake name kind) s = (refl, (refl, (refl, (refl, (refl, tt)))))
rows-refuse (calls.IndexRemove name) s = (refl, (refl, tt))
rows-refuse calls.IndexList s = tt
rows-refuse (calls.IndexFind name low high) s = index-refuses (get s.tree.indices name) _ (λ k. (refl, tt))
rows-refuse (calls.Hold id at count writes) s = node-refuses (get s.tree.nodes id) _ (λ n. (refl, (refl, (refl, held-refuses (conflict s.holds id writes)))))
rows-refuse (calls.Release id bytes whole before after) s = tt
rows-refuse calls.Sync s = tt

-- an own refusal is no reply of a call that is done
pub own-refuses : (call : Call) (s : State) (r : Reply) → own_refusal call s ≡ Some r → is_done r ≡ false
own-refuses call s r e = first-refuses (refusals call s) r (rows-refuse call s) e

pub disk-refuses : (r : Reply) → IsTrue (is_by_disk r) → is_done r ≡ false
disk-refuses (replies.DiskFault before after stops) h = refl
disk-refuses (replies.Stopped durable faults) h = refl
disk-refuses _ h = cc

pub room-refuses : (r : Reply) → IsTrue (is_for_room r) → is_done r ≡ false
room-refuses (replies.NoSpace free needed) h = refl
room-refuses (replies.NoLogRoom blocks room) h = refl
room-refuses _ h = cc

some-done : {A : Type 0} (o : Option A) (f : A → Reply) (r : Reply) → ((a : A) → is_done (f a) ≡ true) → IsSomeAnd o (λ a. r ≡ f a) → is_done r ≡ true
some-done None f r each h = absurd h
some-done (Some a) f r each h = ap is_done h ∙ each a

some-some-done : {A B : Type 0} (o : Option A) (g : A → Option B) (f : B → Reply) (r : Reply) → ((b : B) → is_done (f b) ≡ true) → IsSomeAnd o (λ a. IsSomeAnd (g a) (λ b. r ≡ f b)) → is_done r ≡ true
some-some-done None g f r each h = absurd h
some-some-done (Some a) g f r each h = some-done (g a) f r each h

-- an answer is a reply of a call that is done
pub answer-done : (session : ℕ) (call : Call) (s : State) (r : Reply) → IsAnswer session call s r → is_done r ≡ true
answer-done session (calls.Make dir name kind mode) s r h = ap is_done h.1
answer-done session (calls.Remove dir name) s r h = ap is_done h
answer-done session (calls.Rename dir name to_dir to_name) s r h = ap is_done h
answer-done session (calls.Lookup dir name) s r h = some-done (child s.tree dir name) (λ e. replies.Found e.0 e.1.kind) r (λ e. refl) h
answer-done session (calls.List dir) s r h = ap is_done h
answer-done session (calls.Stat id) s r h = some-done (get s.tree.nodes id) _ r (λ n. refl) h
answer-done session (calls.SetMode id mode uid gid) s r h = ap is_done h
answer-done session (calls.SetSize id size) s r h = ap is_done h
answer-done session (calls.ReadLink id) s r h = some-done (get s.tree.nodes id) _ r (λ n. refl) h
answer-done session (calls.AttrWrite id name kind bytes) s r h = ap is_done h
answer-done session (calls.AttrRead id name) s r h = some-some-done (get s.tree.nodes id) (λ n. get n.attributes name) _ r (λ a. refl) h
answer-done session (calls.AttrRemove id name) s r h = ap is_done h
answer-done session (calls.AttrList id) s r h = some-done (get s.tree.nodes id) _ r (λ n. refl) h
answer-done session (calls.IndexMake name kind) s r h = ap is_done h
answer-done session (calls.IndexRemove name) s r h = ap is_done h
answer-done session calls.IndexList s r h = ap is_done h
answer-done session (calls.IndexFind name low high) s r h = some-done (get s.tree.indices name) _ r (λ k. refl) h
answer-done session (calls.Hold id at count writes) s r h = ap is_done h
answer-done session (calls.Release id bytes whole before after) s r h = ap is_done h.0
answer-done session calls.Sync s r h = ap is_done h.1

pub step-next : (old new : State) (e : Entry) → Step old e new → new ≡ next old e
step-next old new e (by_tree (refused is_refused stays)) = rw (own-refuses e.call old e.reply is_refused) stays
step-next old new e (by_disk fault stays) = rw (disk-refuses e.reply fault) stays
step-next old new e (no_room free changes want stays) = rw (room-refuses e.reply want) stays
step-next old new e (by_tree (answered free answer is)) = rw (answer-done e.session e.call old e.reply answer) is

pub refusal-unique : (old new : State) (e : Entry) (r : Reply) → own_refusal e.call old ≡ Some r → Step old e new → ((e.reply ≡ r) ⊎ IsTrue (is_by_disk e.reply)) × (new ≡ old)
refusal-unique old new e r is (by_tree (refused is_refused stays)) = let same : e.reply ≡ r = cc in (inl same, stays)
refusal-unique old new e r is (by_disk fault stays) = (inr fault, stays)
refusal-unique old new e r is (no_room free changes want stays) = cc
refusal-unique old new e r is (by_tree (answered free answer same)) = cc
