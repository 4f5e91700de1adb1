-- The stop of the device, as the entries of a history tell it; and replies that tell of none.
use Rattle.std.proofs.Common.{◌≡◌, ◌∙◌, ℕ, List, [], ◌∷◌, ◌++◌, Bool, true, false, Option, Some, None, refl, sym, ap}
use Rattle.std.specs.Prelude.{◌||◌, is_some, cond}
use Rattle.std.specs.List.{list_any}
use Rattle.bfs_txn.specs.Faults.{Counts}
use Rattle.bfs_tree.specs.declared.reply.Entry.{Entry}
use Rattle.bfs_tree.specs.declared.reply.Reply.{Reply}
use Rattle.bfs_tree.specs.declared.reply.Reply.TheVariants as replies
use Rattle.bfs_tree.specs.Histories.{is_stop}
use Rattle.bfs_device.specs.declared.journal.Stop.{Stop}
use Rattle.bfs_calls.specs.Refusals.{is_own}
use Rattle.bfs_replies.specs.Books.{KnowsStop, stop_after, stopped_at}
use Rattle.bfs_replies.specs.Replies.{HasReplyCause}

-- whether any entry tells it, with one more
any_more : (es : List Entry) (e : Entry) → list_any (λ x. is_stop x.reply) (es ++ e ∷ []) ≡ (list_any (λ x. is_stop x.reply) es || is_stop e.reply)
any_more [] e = by_test (is_stop e.reply)
  where
    by_test : (b : Bool) → (b || false) ≡ (false || b)
    by_test true = refl
    by_test false = refl
any_more (x ∷ xs) e = ap (λ (b : Bool). is_stop x.reply || b) (any_more xs e) ∙ by_tests (is_stop x.reply) (list_any (λ x. is_stop x.reply) xs) (is_stop e.reply)
  where
    by_tests : (a b c : Bool) → (a || (b || c)) ≡ ((a || b) || c)
    by_tests true b c = refl
    by_tests false b c = refl

stopped_is : (r : Reply) (durable : ℕ) → is_some (stopped_at r durable) ≡ is_stop r
stopped_is (replies.DiskFault before after stops) durable = by_test stops
  where
    by_test : (b : Bool) → is_some (cond {A = Option Stop} b (Some (record { durable = durable; faults = after })) None) ≡ b
    by_test true = refl
    by_test false = refl
stopped_is _ durable = refl

after_is : (stop : Option Stop) (r : Reply) (durable : ℕ) → is_some (stop_after stop r durable) ≡ (is_some stop || is_stop r)
after_is (Some s) r durable = refl
after_is None r durable = stopped_is r durable

pub stop_known : (history : List Entry) (e : Entry) (stop : Option Stop) (durable : ℕ) → KnowsStop history stop → KnowsStop (history ++ e ∷ []) (stop_after stop e.reply durable)
stop_known history e stop durable knows = any_more history e ∙ ap (λ (b : Bool). b || is_stop e.reply) knows ∙ sym (after_is stop e.reply durable)

-- an entry that tells of no stop
pub stop_kept : (history : List Entry) (e : Entry) (stop : Option Stop) → is_stop e.reply ≡ false → KnowsStop history stop → KnowsStop (history ++ e ∷ []) stop
stop_kept history e stop none knows = any_more history e ∙ ap (λ (b : Bool). list_any (λ x. is_stop x.reply) history || b) none ∙ by_test (list_any (λ x. is_stop x.reply) history) ∙ knows
  where
    by_test : (b : Bool) → (b || false) ≡ b
    by_test true = refl
    by_test false = refl

-- a reply with its cause tells of none
pub caused_no_stop : (old new : Counts) (stop : Option Stop) (r : Reply) → HasReplyCause old new stop r → is_stop r ≡ false
caused_no_stop old new stop (replies.DiskFault before after stops) cause = cause.0
caused_no_stop old new stop _ cause = refl

-- a reply that the tree alone gives has no cause to tell
pub own_caused : (old new : Counts) (stop : Option Stop) (r : Reply) → is_own r ≡ true → HasReplyCause old new stop r
own_caused old new stop (replies.DiskFault before after stops) own = let bad : false ≡ true = own in absurd cc
own_caused old new stop (replies.Stopped durable faults) own = let bad : false ≡ true = own in absurd cc
own_caused old new stop _ own = tt
