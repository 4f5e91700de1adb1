-- The refusals of a call that removes an attribute, by what a read of the attribute answers.
use Rattle.std.proofs.Common.{◌≡◌, ℕ, pos, List, [], ◌∷◌, Option, Some, None, Bool, true, false, sym, ap, ◌∙◌}
use Rattle.std.specs.Prelude.{is_none, IsSomeAnd}
use Rattle.std.specs.FinMap.{get}
use Rattle.bfs_tree.specs.declared.call.Call.TheVariants as calls
use Rattle.bfs_tree.specs.declared.reply.Reply.{Reply}
use Rattle.bfs_tree.specs.declared.reply.Reply.TheVariants as replies
use Rattle.bfs_tree.specs.Refusals.{own_refusal, first, at_node}
use Rattle.bfs_tree.specs.States.{State}
use Rattle.bfs_tree.specs.Steps.{ByTree, Reads}
use Rattle.bfs_tree.specs.Trees.{Attribute, Node}
use Rattle.bfs_attr_calls.specs.Refused.{refused_by}

module _ (name : List ℕ) where
  -- the first refusal, by what is there
  abbrev by_there : Option Node → Option Reply
  by_there o = first (at_node o (λ node. (is_none (get node.attributes name), replies.NoAttr) ∷ []))

  -- a reply that refuses is the refusal
  same_refusal : (o : Option Node) (reply : Reply) → by_there o ≡ Some reply → refused_by reply ≡ Some reply
  same_refusal None reply e = let same : replies.NotFound ≡ reply = (let b : Some replies.NotFound ≡ Some reply = e in cc) in ap refused_by (sym same) ∙ ap (λ (r : Reply). Some r) same
  same_refusal (Some n) reply e = by_test (is_none (get n.attributes name)) e
    where
      by_test : (t : Bool) → first ((t, replies.NoAttr) ∷ []) ≡ Some reply → refused_by reply ≡ Some reply
      by_test true e = let same : replies.NoAttr ≡ reply = (let b : Some replies.NoAttr ≡ Some reply = e in cc) in ap refused_by (sym same) ∙ ap (λ (r : Reply). Some r) same
      by_test false e = let bad : None ≡ Some reply = e in absurd cc

  -- a reply that answers is none
  no_refusal : (o : Option Node) (reply : Reply) → IsSomeAnd o (λ n. IsSomeAnd (get n.attributes name) (λ a. reply ≡ replies.Attr a.code a.bytes)) → refused_by reply ≡ None
  no_refusal None reply a = absurd a
  no_refusal (Some n) reply a = by_attribute (get n.attributes name) a
    where
      by_attribute : (o : Option Attribute) → IsSomeAnd o (λ a. reply ≡ replies.Attr a.code a.bytes) → refused_by reply ≡ None
      by_attribute None a = absurd a
      by_attribute (Some x) a = ap refused_by a

pub read_refused : (s : State) (id : ℕ) (name : List ℕ) (reply : Reply) → Reads (calls.AttrRead id name) s reply → refused_by reply ≡ own_refusal (calls.AttrRemove id name) s
read_refused s id name reply reads = by_turn (reads 0 (pos 0))
  where
    by_turn : ByTree 0 (pos 0) (calls.AttrRead id name) reply s s → refused_by reply ≡ own_refusal (calls.AttrRemove id name) s
    by_turn (ByTree.refused e same) = same_refusal name (get s.tree.nodes id) reply e ∙ sym e
    by_turn (ByTree.answered e a same) = no_refusal name (get s.tree.nodes id) reply a ∙ sym e
