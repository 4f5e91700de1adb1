-- How many nodes there are after an entry.
use Rattle.std.proofs.Common.{◌≡◌, ◌∙◌, ℕ, List, [], ◌∷◌, ◌++◌, Bool, true, false, refl, sym, ap}
use Rattle.std.proofs.lemmas.Grind.{fold-append}
use Rattle.bfs_count.specs.Counts.{counted, nodes_of, replaces}
use Rattle.bfs_count.proofs.Nodes.{step-counts}
use Rattle.bfs_count.proofs.Unchanged.{counted_same}
use Rattle.bfs_tree.proofs.Replies.{disk-refuses, own-refuses, room-refuses}
use Rattle.bfs_tree.specs.declared.reply.Entry.{Entry}
use Rattle.bfs_tree.specs.Histories.{Follows, Mounted, after, start, state_after}
use Rattle.bfs_tree.specs.States.{State}
use Rattle.bfs_tree.specs.Steps.{ByTree, Step, Turn, is_done, next}
use Rattle.bfs_replies.specs.Replaced.{FindsPlace}

module _ (e : Entry) (s t : State) (nodes : ℕ) (replaced : Bool) (is : nodes ≡ nodes_of s.tree) (found : is_done e.reply ≡ true → FindsPlace s.tree e.call replaced) where
  -- a reply by which nothing is done leaves the number
  refused_so : is_done e.reply ≡ false → counted nodes e.call e.reply replaced ≡ counted (nodes_of s.tree) e.call e.reply (replaces s.tree e.call)
  refused_so undone = counted_same nodes e.call e.reply replaced undone ∙ is ∙ sym (counted_same (nodes_of s.tree) e.call e.reply (replaces s.tree e.call) undone)

  by_turn : (done : Bool) → is_done e.reply ≡ done → Step s e t → counted nodes e.call e.reply replaced ≡ counted (nodes_of s.tree) e.call e.reply (replaces s.tree e.call)
  by_turn false undone step = refused_so undone
  by_turn true done (Turn.by_disk by stays) = refused_so (disk-refuses e.reply by)
  by_turn true done (Turn.no_room fine changes by stays) = refused_so (room-refuses e.reply by)
  by_turn true done (Turn.by_tree (ByTree.refused own stays)) = refused_so (own-refuses e.call s e.reply own)
  by_turn true done (Turn.by_tree (ByTree.answered fine answer goes)) =
      ap (λ (n : ℕ). counted n e.call e.reply replaced) is ∙ ap (counted (nodes_of s.tree) e.call e.reply) (found done s refl fine)

-- what is counted by an entry that may follow is the number of nodes after it
pub counted_on : (t0 : Mounted) (history now : List Entry) (e : Entry) (nodes : ℕ) (replaced : Bool) → now ≡ history ++ e ∷ [] → Follows t0 history e → nodes ≡ nodes_of (after t0 history)
    → (is_done e.reply ≡ true → FindsPlace (after t0 history) e.call replaced) → counted nodes e.call e.reply replaced ≡ nodes_of (after t0 now)
counted_on t0 history now e nodes replaced items follows is found =
    let s = state_after t0 history in
    let t = next s e in
    let one : state_after t0 (history ++ e ∷ []) ≡ t = fold-append next (start t0) history (e ∷ []) in
    by_turn e s t nodes replaced is found (is_done e.reply) refl follows.step ∙ sym (step-counts s e t follows.step) ∙ sym (ap (λ (x : State). nodes_of x.tree) one) ∙ sym (ap (λ (h : List Entry). nodes_of (after t0 h)) items)

-- two histories that are the same end with the same entry
abbrev last_of : Entry → List Entry → Entry
last_of d [] = d
last_of d (x ∷ xs) = last_of x xs

last_is : (d : Entry) (xs : List Entry) (a : Entry) → last_of d (xs ++ a ∷ []) ≡ a
last_is d [] a = refl
last_is d (x ∷ xs) a = last_is x xs a

pub last_same : (xs ys : List Entry) (a b : Entry) → xs ++ a ∷ [] ≡ ys ++ b ∷ [] → a ≡ b
last_same xs ys a b same = sym (last_is a xs a) ∙ ap (last_of a) same ∙ last_is a ys b
