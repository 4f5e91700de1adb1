-- A hold that was entered and taken: its file stays where it is.
use Rattle.std.proofs.Common.{◌≡◌, inl, inr, ℕ, ℤ, List, [], ◌∷◌, ◌++◌, length, Bool, true, false, Option, None, sym, ap, ◌∙◌, subst, arith, length-append}
use Rattle.std.specs.FinMap.{get}
use Rattle.bfs_tree.specs.Changes.{changed, changed_at}
use Rattle.bfs_tree.specs.declared.call.Call.{Call}
use Rattle.bfs_tree.specs.declared.call.Call.TheVariants as calls
use Rattle.bfs_tree.specs.declared.reply.Reply.{Reply}
use Rattle.bfs_tree.specs.declared.reply.Reply.TheVariants as replies
use Rattle.bfs_tree.specs.declared.reply.Entry.{Entry}
use Rattle.bfs_tree.specs.Histories.{Mounted, after, start, state_after}
use Rattle.bfs_tree.specs.Refusals.{own_refusal}
use Rattle.bfs_tree.specs.States.{State}
use Rattle.bfs_tree.specs.Steps.{ByTree, Turn, is_by_disk, is_done, next}
use Rattle.bfs_tree.specs.Trees.{Node, IsNode, is_file}
use Rattle.bfs_tree.proofs.Replies.{own-refuses}
use Rattle.std.proofs.lemmas.Grind.{fold-append}
use Rattle.bfs_sound.specs.Inodes.{stream_blocks}
use Rattle.bfs_shift.proofs.Made.{put_here}
use Rattle.bfs_core.specs.Spaces.{face}
use Rattle.bfs_replies.specs.Places.{piece_of}
use Rattle.bfs_replies.specs.Books.{SpaceBooks, entry_noted}
use Rattle.bfs_space.specs.Faces.{HasEntered}
use Rattle.bfs_replies.specs.Files.{AreKeptBy}
use Rattle.bfs_replies.specs.Looks.{IsHeldIn}
use Rattle.bfs_space.specs.Taken.{IsTaken}
use Rattle.bfs_space.proofs.Pieced.{held_in}

-- a history isn't longer than itself
pub no_more : (history : List Entry) (e : Entry) → history ≡ history ++ e ∷ [] → ⊥
no_more history e is = let long = ap length is in let more = length-append history (e ∷ []) in absurd (omega (arith, long, more))

pub last_is : (history : List Entry) (a b : Entry) → history ++ a ∷ [] ≡ history ++ b ∷ [] → a ≡ b
last_is [] a b is = cc
last_is (x ∷ xs) a b is = last_is xs a b (let rest : xs ++ a ∷ [] ≡ xs ++ b ∷ [] = cc in rest)

-- an entry that says that the call was done is the one that came
pub done_taken : (history more : List Entry) (x e : Entry) → more ≡ history ++ x ∷ [] → more ≡ history ++ e ∷ [] → e.reply ≡ replies.Done → x.reply ≡ replies.Done
done_taken history more x e one other is = ap (λ (y : Entry). y.reply) (last_is history x e (sym one ∙ other)) ∙ is

-- a call that is done has no refusal of its own
pub done_unrefused : (session : ℕ) (stamp : ℤ) (call : Call) (reply : Reply) (s t : State) → reply ≡ replies.Done → Turn session stamp call reply s t → own_refusal call s ≡ None
done_unrefused session stamp call reply s t is (Turn.by_tree (ByTree.refused refusal same)) = let bad : true ≡ false = sym (ap is_done is) ∙ own-refuses call s reply refusal in absurd cc
done_unrefused session stamp call reply s t is (Turn.by_tree (ByTree.answered none answer same)) = none
done_unrefused session stamp call reply s t is (Turn.by_disk fault same) = let bad : false ≡ true = sym (ap is_by_disk is) ∙ fault in absurd cc
done_unrefused session stamp call reply s t is (Turn.no_room none changes want same) = none

-- a file of which a piece is held is one still
still_file : (s : State) (session : ℕ) (stamp : ℤ) (id at count : ℕ) (write : Bool) (n : Node) → IsNode s.tree id n → is_file n.kind ≡ true
    → (now : Node) × IsNode (changed session stamp (calls.Hold id at count write) replies.Done s).tree id now × (is_file now.kind ≡ true)
still_file s session stamp id at count false n is file = (n, is, file)
still_file s session stamp id at count true n is file = (
  record n { modified = stamp; changed = stamp },
  ap (λ (o : Option Node). get (changed_at (λ x. record x { modified = stamp; changed = stamp }) o id s.tree.nodes) id) is ∙ put_here s.tree.nodes id (record n { modified = stamp; changed = stamp }),
  file,
)

module _ (t0 : Mounted) (old new : SpaceBooks) (m : ℕ → Option (List ℕ)) (session tag now id at count : ℕ) (write : Bool) (entered : HasEntered t0 old new m session tag now (calls.Hold id at count write)) (taken : IsTaken old new) where
  abbrev s : State
  s = state_after t0 old.view.history

  abbrev entry : Entry
  entry = entry_noted old session tag now (calls.Hold id at count write) entered.reply

  done : entered.reply ≡ replies.Done
  done = done_taken old.view.history new.view.history entry taken.0 entered.entered.history taken.1 taken.2

  pub taken_in : IsHeldIn (after t0 old.view.history) id at count
  taken_in = held_in s id at count write (done_unrefused session entry.stamp (calls.Hold id at count write) entered.reply s (next s entry) done entered.entered.follows.step)

  after_is : changed session entry.stamp (calls.Hold id at count write) replies.Done s ≡ state_after t0 new.view.history
  after_is =
      ap (λ (r : Reply). next s (record entry { reply = r })) (sym done)
      ∙ sym (fold-append next (start t0) old.view.history (entry ∷ []))
      ∙ ap (λ (h : List Entry). state_after t0 h) (sym entered.entered.history)

  still : (node : Node) × IsNode (after t0 new.view.history) id node × (is_file node.kind ≡ true)
  still = subst (λ (t : State). (node : Node) × IsNode t.tree id node × (is_file node.kind ≡ true)) after_is (still_file s session entry.stamp id at count write taken_in.node taken_in.there taken_in.file)

  by_kept : (xs ys : List ℕ) → AreKeptBy (calls.Hold id at count write) id xs ys → ys ≡ xs
  by_kept xs ys (inl same) = same
  by_kept xs ys (inr other) = let bad : calls.Hold id at count write ≡ calls.SetSize id other.0.0 = other.0.1 in absurd cc

  -- the blocks of its file are those that it had
  stream_same : stream_blocks (face new.view m) id ≡ stream_blocks (face old.view m) id
  stream_same = by_kept (stream_blocks (face old.view m) id) (stream_blocks (face new.view m) id) (entered.blocks id taken_in.node still.0 taken_in.there taken_in.file still.1 still.2)

  -- and so are those of the piece
  pub piece_same : (places : List ℕ) → places ≡ piece_of old.view.sup.block_size at count (stream_blocks (face old.view m) id) → places ≡ piece_of new.view.sup.block_size at count (stream_blocks (face new.view m) id)
  piece_same places is = is ∙ (λ i. piece_of (sym entered.entered.same.sup i).block_size at count (sym stream_same i))
