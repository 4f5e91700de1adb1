-- Calls that leave the holds of sessions as they are.
use Rattle.std.proofs.Common.{Result, Ok, Err, IfOk, OnErr, rules, ◌≡◌, ◌≢◌, ◌<◌, ◌+◌, ◌==◌, ◌++◌, ℕ, List, [], ◌∷◌, Bool, true, false, not, cond, refl, sym, ◌∙◌, ap, subst, append_assoc, append-nil, arith}
use Rattle.bfs_base.specs.Lists.{Has, times}
use Rattle.std.specs.declared.alloc.AllocError.{AllocError}
use Rattle.bfs_txn.specs.Faults.{Counts}
use Rattle.bfs_tree.specs.declared.call.Call.{Call}
use Rattle.bfs_tree.specs.declared.call.Call.TheVariants as calls
use Rattle.bfs_tree.specs.declared.reply.Reply.{Reply}
use Rattle.bfs_tree.specs.declared.reply.Reply.TheVariants as replies
use Rattle.bfs_tree.specs.Steps.{is_done}
use Rattle.bfs_space.specs.Books.{SpaceBooks, without}
use Rattle.bfs_space.specs.Faces.{HasOutcome, promised_after}
use Rattle.bfs_space.specs.declared.space.Outcome.{Outcome}
use Rattle.bfs_space.specs.declared.space.Outcome.TheVariants.{Replied, Drain}
use Rattle.bfs_space.specs.Files.{lets_go}
use Rattle.bfs_space.specs.Holds.{keeps_holds}
use Rattle.bfs_space.specs.Looks.{is_built, is_served}

-- they let no piece go
pub stays_goes : (call : Call) → keeps_holds call ≡ true → lets_go call ≡ false
stays_goes (calls.Release id bytes whole before after) is = absurd (let bad : false ≡ true = is in cc)
stays_goes _ is = refl

-- a call that is built is served
pub built_served : (call : Call) → is_built call ≡ true → is_served call ≡ true
built_served (calls.Hold id at count writes) is = refl
built_served _ is = is

-- a hold is no sync
pub no_sync : (id at count : ℕ) (writes : Bool) → calls.Hold id at count writes ≢ calls.Sync
no_sync id at count writes e = cc

-- a hold that wasn't taken promises nothing
pub promised_same : (session id at count : ℕ) (writes : Bool) (reply : Reply) (promised : List ℕ) → is_done reply ≡ false → promised_after session (calls.Hold id at count writes) reply promised ≡ promised
promised_same session id at count writes replies.Done promised is = absurd (let bad : true ≡ false = is in cc)
promised_same session id at count writes _ promised is = refl

-- ---- promises

none_first : (s x : ℕ) (xs : List ℕ) → times s (x ∷ xs) ≡ 0 → ((x == s) ≡ false) × (times s xs ≡ 0)
none_first s x xs none = by_test (x == s) refl none
  where
    by_test : (d : Bool) → (x == s) ≡ d → cond {A = ℕ} d 1 0 + times s xs ≡ 0 → ((x == s) ≡ false) × (times s xs ≡ 0)
    by_test true is none = absurd (omega (arith, none))
    by_test false is none = (is, omega (arith, none))

-- promises of others stay
pub without_others : (s : ℕ) (xs ys : List ℕ) → times s xs ≡ 0 → without s (xs ++ ys) ≡ xs ++ without s ys
without_others s [] ys none = refl
without_others s (x ∷ xs) ys none =
    let first = none_first s x xs none in
    ap (λ (d : Bool). cond (not d) (x ∷ without s (xs ++ ys)) (without s (xs ++ ys))) first.0 ∙ ap (λ (l : List ℕ). x ∷ l) (without_others s xs ys first.1)

-- a promise that was made ends, and the others are as before
pub promise_ended : (s : ℕ) (xs : List ℕ) → times s xs ≡ 0 → without s (xs ++ s ∷ []) ≡ xs
promise_ended s xs none = without_others s xs (s ∷ []) none ∙ ap (λ (l : List ℕ). xs ++ l) (let e : without s (s ∷ []) ≡ [] = search rules in e) ∙ append-nil xs

-- the promise that was made is there
pub promise_made : (s : ℕ) (xs : List ℕ) → Has (xs ++ s ∷ []) s
promise_made s [] = let e : times s (s ∷ []) ≡ 1 = search rules in omega (arith, e)
promise_made s (x ∷ xs) = let more : 0 < times s (xs ++ s ∷ []) = promise_made s xs in omega (arith, more)

-- once a session has no promise left, the others are as before
pub promised_alone : (session : ℕ) (xs : List ℕ) (call : Call) (reply : Reply) → times session xs ≡ 0 → without session (promised_after session call reply (xs ++ session ∷ [])) ≡ xs
promised_alone session xs (calls.Hold id at count writes) replies.Done none =
    ap (without session) (append_assoc xs (session ∷ []) (session ∷ [])) ∙ without_others session xs (session ∷ session ∷ []) none ∙ ap (λ (l : List ℕ). xs ++ l) (let e : without session (session ∷ session ∷ []) ≡ [] = search rules in e) ∙ append-nil xs
promised_alone session xs _ _ none = promise_ended session xs none

-- so it is of promises that are known to be these
pub promise_there : (s : ℕ) (old mid : List ℕ) → mid ≡ old ++ s ∷ [] → Has mid s
promise_there s old mid is = subst (λ (xs : List ℕ). Has xs s) (sym is) (promise_made s old)

pub promise_over : (s : ℕ) (old mid : List ℕ) → times s old ≡ 0 → mid ≡ old ++ s ∷ [] → without s mid ≡ old
promise_over s old mid none is = ap (without s) is ∙ promise_ended s old none

-- once a call was asked for, whatever became of it, the promise that was made for it ends
pub asked_promises : (r : Result Outcome AllocError) (before after : Counts) (sp space : SpaceBooks) (session tag now : ℕ) (call : Call) (old : List ℕ) → IfOk r (HasOutcome before after sp space session tag now call) → OnErr r (space ≡ sp) → times session old ≡ 0 → sp.promised ≡ old ++ session ∷ []
    → without session space.promised ≡ old
asked_promises (Ok Replied) before after sp space session tag now call old noted same none is = ap (without session) (noted.promised ∙ ap (promised_after session call noted.reply) is) ∙ promised_alone session old call noted.reply none
asked_promises (Ok (Drain back)) before after sp space session tag now call old noted same none is = ap (λ (x : SpaceBooks). without session x.promised) noted.1 ∙ promise_over session old sp.promised none is
asked_promises (Err e) before after sp space session tag now call old noted same none is = ap (λ (x : SpaceBooks). without session x.promised) same ∙ promise_over session old sp.promised none is
