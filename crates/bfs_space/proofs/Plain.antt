-- The reply of a hold is Done where it is done.
use Rattle.std.proofs.Common.{◌≡◌, ◌∙◌, ℕ, ℤ, List, Bool, true, false, Option, inl, inr, refl, sym, ap}
use Rattle.std.specs.Prelude.{◌&&◌, not, if◌then◌else◌}
use Rattle.std.specs.FinMap.{empty}
use Rattle.bfs_super.specs.declared.geometry.Geometry.{Geometry}
use Rattle.bfs_bitmap.specs.Runs.{Room}
use Rattle.bfs_txn.specs.Changed.{over}
use Rattle.bfs_txn.specs.Faults.{Counts}
use Rattle.bfs_tree.specs.Trees.{Tree}
use Rattle.bfs_tree.specs.States.{State}
use Rattle.bfs_tree.specs.Steps.{ByTree, is_done}
use Rattle.bfs_tree.specs.declared.call.Call.{Call}
use Rattle.bfs_tree.specs.declared.call.Call.TheVariants as calls
use Rattle.bfs_tree.specs.declared.reply.Reply.{Reply}
use Rattle.bfs_tree.specs.declared.reply.Reply.TheVariants as replies
use Rattle.bfs_tree.specs.declared.state.Hold.{Hold}
use Rattle.bfs_tree.proofs.Replies.{own-refuses}
use Rattle.bfs_device.specs.declared.journal.Stop.{Stop}
use Rattle.bfs_replies.specs.Replies.{HasReplyCause, IsOutside, IsReplied}
use Rattle.bfs_space.specs.Taken.{is_just_done, plain_of}

just_done : (r : Reply) → is_just_done r ≡ true → r ≡ replies.Done
just_done replies.Done e = refl
just_done _ e = absurd (let bad : false ≡ true = e in cc)

-- a reply that isn't done stays
pub undone_plain : (id : ℕ) (r : Reply) → is_done r ≡ false → plain_of id r ≡ r
undone_plain id r e = ap (λ (b : Bool). if b && not (is_just_done r) then replies.Damaged id else r) e

by_cases : (id : ℕ) (r : Reply) (a b : Bool) → is_done r ≡ a → is_just_done r ≡ b → is_done (if a && not b then replies.Damaged id else r) ≡ true → (if a && not b then replies.Damaged id else r) ≡ replies.Done
by_cases id r true true d j done = just_done r j
by_cases id r true false d j done = absurd (let bad : false ≡ true = done in cc)
by_cases id r false b d j done = absurd (let bad : false ≡ true = sym d ∙ done in cc)

pub plain_done : (id : ℕ) (r : Reply) → is_done (plain_of id r) ≡ true → plain_of id r ≡ replies.Done
plain_done id r = by_cases id r (is_done r) (is_just_done r) refl refl

was_done : (id : ℕ) (r : Reply) (b : Bool) → (if b then replies.Damaged id else r) ≡ replies.Done → r ≡ replies.Done
was_done id r true is = absurd cc
was_done id r false is = is

pub done_plain : (id : ℕ) (r : Reply) → plain_of id r ≡ replies.Done → r ≡ replies.Done
done_plain id r = was_done id r (is_done r && not (is_just_done r))

caused : (a b : Counts) (stop : Option Stop) (id : ℕ) (r : Reply) (x : Bool) → HasReplyCause a b stop r → HasReplyCause a b stop (if x then replies.Damaged id else r)
caused a b stop id r true cause = tt
caused a b stop id r false cause = cause

pub plain_caused : (a b : Counts) (stop : Option Stop) (id : ℕ) (r : Reply) → HasReplyCause a b stop r → HasReplyCause a b stop (plain_of id r)
plain_caused a b stop id r = caused a b stop id r (is_done r && not (is_just_done r))

outside_undone : (g : Geometry) (v : Room) (m : ℕ → Option (List ℕ)) (t : Tree) (holds : List Hold) (Idle : Type 0) (call : Call) (r : Reply) → IsOutside g v m t holds Idle call r → is_done r ≡ false
outside_undone g v m t holds Idle call (replies.NoSpace free needed) w = refl
outside_undone g v m t holds Idle call (replies.NoLogRoom blocks room) w = refl
outside_undone g v m t holds Idle call (replies.DiskFault before after stops) w = refl
outside_undone g v m t holds Idle call (replies.Stopped durable faults) w = refl
outside_undone g v m t holds Idle call _ w = absurd w

by_tree_plain : (session : ℕ) (stamp : ℤ) (id at count k : ℕ) (write : Bool) (r : Reply) (s t : State) → ByTree session stamp (calls.Hold id at count write) r s t → plain_of k r ≡ r
by_tree_plain session stamp id at count k write r s t (ByTree.refused refusal same) = undone_plain k r (own-refuses (calls.Hold id at count write) s r refusal)
by_tree_plain session stamp id at count k write r s t (ByTree.answered none answer same) = ap (plain_of k) answer ∙ sym answer

-- over what is told the reply of a hold stays
pub plain_same : (g : Geometry) (v new : Room) (m : ℕ → Option (List ℕ)) (before now : List (ℕ × List ℕ)) (tree : Tree) (holds : List Hold) (Idle : Type 0) (stamp : ℤ) (id at count k : ℕ) (write : Bool) (r : Reply)
    → IsReplied g v new m before now tree holds Idle stamp (calls.Hold id at count write) r → plain_of k r ≡ r
plain_same g v new m before now tree holds Idle stamp id at count k write r (inl done) =
    let s : State = record { tree = tree; holds = holds; known = empty } in
    let got = done.kept.by_tree s refl refl 1 in
    by_tree_plain 1 stamp id at count k write r s got.0 got.2
plain_same g v new m before now tree holds Idle stamp id at count k write r (inr away) = undone_plain k r (outside_undone g v (over before m) tree holds Idle (calls.Hold id at count write) r away.why)
