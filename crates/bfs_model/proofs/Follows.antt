-- Which entries are steps, and which replies are the answers of calls that read.
use Rattle.std.proofs.Common.{◌≡◌, inl, inr, ℕ, ℤ, pos, Option, Some, None, Bool, true, false, IsTrue, IsSomeAnd, refl, ap, sym, ◌∙◌, subst}
use Rattle.std.specs.Prelude.{◌↔◌, if◌then◌else◌}
use Rattle.std.specs.FinMap.{get}
use Rattle.bfs_tree.specs.declared.call.Call.{Call}
use Rattle.bfs_tree.specs.declared.call.Call.TheVariants as calls
use Rattle.bfs_tree.specs.declared.reply.Reply.{Reply}
use Rattle.bfs_tree.specs.declared.reply.Entry.{Entry}
use Rattle.bfs_tree.specs.Trees.{child}
use Rattle.bfs_tree.specs.States.{State}
use Rattle.bfs_tree.specs.Refusals.{own_refusal}
use Rattle.bfs_tree.specs.Answers.{IsAnswer}
use Rattle.bfs_tree.specs.Changes.{changed}
use Rattle.bfs_tree.specs.Steps.{ByTree, Step, refused, answered, by_tree, by_disk, no_room, changes_tree, is_by_disk, is_for_room, is_done, next}
use Rattle.bfs_tree.specs.Laws.{StateIsDetermined, RefusalIsUnique}
use Rattle.bfs_tree.proofs.Replies.{answer-done, room-refuses}
use Rattle.bfs_model.specs.Kept.{is_read, IsAStep}

-- where no own refusal's condition holds, what the tree alone replies is the answer
answer-of : (session : ℕ) (stamp : ℤ) (call : Call) (r : Reply) (old new : State) → own_refusal call old ≡ None → ByTree session stamp call r old new → IsAnswer session call old r
answer-of session stamp call r old new free (refused e stays) = cc
answer-of session stamp call r old new free (answered f a is) = a

same-some : {A : Type 0} (o : Option A) (f : A → Reply) (r q : Reply) → IsSomeAnd o (λ a. r ≡ f a) → IsSomeAnd o (λ a. q ≡ f a) → r ≡ q
same-some None f r q h k = absurd h
same-some (Some a) f r q h k = h ∙ sym k

same-some-some : {A B : Type 0} (o : Option A) (g : A → Option B) (f : B → Reply) (r q : Reply) → IsSomeAnd o (λ a. IsSomeAnd (g a) (λ b. r ≡ f b)) → IsSomeAnd o (λ a. IsSomeAnd (g a) (λ b. q ≡ f b)) → r ≡ q
same-some-some None g f r q h k = absurd h
same-some-some (Some a) g f r q h k = same-some (g a) f r q h k

-- a call that reads has one answer
one-answer : (session : ℕ) (call : Call) (s : State) (r q : Reply) → is_read call ≡ true → IsAnswer session call s r → IsAnswer session call s q → r ≡ q
one-answer session (calls.Make dir name kind mode) s r q e h k = cc
one-answer session (calls.Remove dir name) s r q e h k = cc
one-answer session (calls.Rename dir name to_dir to_name) s r q e h k = cc
one-answer session (calls.Lookup dir name) s r q e h k = same-some (child s.tree dir name) _ r q h k
one-answer session (calls.List dir) s r q e h k = h ∙ sym k
one-answer session (calls.Stat id) s r q e h k = same-some (get s.tree.nodes id) _ r q h k
one-answer session (calls.SetMode id mode uid gid) s r q e h k = cc
one-answer session (calls.SetSize id size) s r q e h k = cc
one-answer session (calls.ReadLink id) s r q e h k = same-some (get s.tree.nodes id) _ r q h k
one-answer session (calls.AttrWrite id name kind bytes) s r q e h k = cc
one-answer session (calls.AttrRead id name) s r q e h k = same-some-some (get s.tree.nodes id) (λ n. get n.attributes name) _ r q h k
one-answer session (calls.AttrRemove id name) s r q e h k = cc
one-answer session (calls.AttrList id) s r q e h k = same-some (get s.tree.nodes id) _ r q h k
one-answer session (calls.IndexMake name kind) s r q e h k = cc
one-answer session (calls.IndexRemove name) s r q e h k = cc
one-answer session calls.IndexList s r q e h k = h ∙ sym k
one-answer session (calls.IndexFind name low high) s r q e h k = same-some (get s.tree.indices name) _ r q h k
one-answer session (calls.Hold id at count writes) s r q e h k = cc
one-answer session (calls.Release id bytes whole before after) s r q e h k = cc
one-answer session calls.Sync s r q e h k = cc

pub answer-same : (session : ℕ) (call : Call) (s : State) (r q : Reply) (b : Bool) → is_read call ≡ true → own_refusal call s ≡ None → ((session : ℕ) (stamp : ℤ) → ByTree session stamp call r s s) → (IsTrue b ↔ (r ≡ q)) → IsTrue b ↔ IsAnswer session call s q
answer-same session call s r q b reads free said same =
    let a = answer-of session (pos 0) call r s s free (said session (pos 0)) in
    (λ t. subst (λ (x : Reply). IsAnswer session call s x) (same.0 t) a, λ k. same.1 (one-answer session call s r q reads a k))

-- ---- steps

pub disk-step : (s : State) (e : Entry) → is_by_disk e.reply ≡ true → IsTrue true ↔ IsAStep s e
disk-step s e h = (λ _. (s, by_disk h refl), λ _. refl)

refused-here : (s : State) (e : Entry) (own : Reply) → own_refusal e.call s ≡ Some own → own ≡ e.reply → Step s e s
refused-here s e own is same = by_tree (refused (is ∙ ap Some same) refl)

pub refused-step : (s : State) (e : Entry) (own : Reply) (b : Bool) → RefusalIsUnique → own_refusal e.call s ≡ Some own → is_by_disk e.reply ≡ false → (IsTrue b ↔ (own ≡ e.reply)) → IsTrue b ↔ IsAStep s e
refused-step s e own b unique is calm same = (
  λ t. (s, refused-here s e own is (same.0 t)),
  λ step. elim (unique s step.0 e own is step.1).0 as (λ _. IsTrue b) [ inl h ↦ same.1 (sym h) | inr d ↦ let bad : IsTrue (is_by_disk e.reply) = d in cc ],
)

pub refused-after : (s : State) (e : Entry) (own : Reply) (b : Bool) → StateIsDetermined → own_refusal e.call s ≡ Some own → (IsTrue b → own ≡ e.reply) → s ≡ (if b then next s e else s)
refused-after s e own true determined is same = determined s s e (refused-here s e own is (same refl))
refused-after s e own false determined is same = refl

pub room-step : (s : State) (e : Entry) (b : Bool) → own_refusal e.call s ≡ None → is_by_disk e.reply ≡ false → is_for_room e.reply ≡ true → b ≡ changes_tree e.call → IsTrue b ↔ IsAStep s e
room-step s e b free calm room is = (
  λ t. let changes : changes_tree e.call ≡ true = sym is ∙ t in (s, no_room free changes room refl),
  λ step. is ∙ back step.0 step.1,
)
  where
    back : (new : State) → Step s e new → changes_tree e.call ≡ true
    back new (by_tree (refused r stays)) = cc
    back new (by_tree (answered f a is)) = let done : is_done e.reply ≡ true = answer-done e.session e.call s e.reply a in let not_done : is_done e.reply ≡ false = room-refuses e.reply room in cc
    back new (by_disk d stays) = let bad : is_by_disk e.reply ≡ true = d in cc
    back new (no_room f changes w stays) = changes

pub no-step : (s : State) (e : Entry) → own_refusal e.call s ≡ None → is_by_disk e.reply ≡ false → is_for_room e.reply ≡ false → (IsAnswer e.session e.call s e.reply → ⊥) → IsTrue false ↔ IsAStep s e
no-step s e free calm roomy never = (λ t. cc, λ step. absurd (back step.0 step.1))
  where
    back : (new : State) → Step s e new → ⊥
    back new (by_tree (refused r stays)) = cc
    back new (by_tree (answered f a is)) = never a
    back new (by_disk d stays) = let bad : is_by_disk e.reply ≡ true = d in cc
    back new (no_room f changes w stays) = let bad : is_for_room e.reply ≡ true = w in cc

pub answered-step : (s : State) (e : Entry) → own_refusal e.call s ≡ None → IsAnswer e.session e.call s e.reply → IsTrue true ↔ IsAStep s e
answered-step s e free a = (λ _. (changed e.session e.stamp e.call e.reply s, by_tree (answered free a refl)), λ _. refl)
