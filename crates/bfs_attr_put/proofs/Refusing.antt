-- The refusals of a call that writes an attribute.
use Rattle.std.proofs.Common.{◌≡◌, ℕ, List, [], ◌∷◌, length, Option, Some, None, Bool, true, false, ap, ◌∙◌}
use Rattle.std.specs.Prelude.{nat_lt}
use Rattle.std.specs.FinMap.{get}
use Rattle.bfs_tree.specs.declared.call.Call.TheVariants.{AttrWrite}
use Rattle.bfs_tree.specs.declared.reply.Reply.{Reply}
use Rattle.bfs_tree.specs.declared.reply.Reply.TheVariants as replies
use Rattle.bfs_tree.specs.Names.{is_bad_attribute_name}
use Rattle.bfs_tree.specs.Refusals.{own_refusal, first, at_node}
use Rattle.bfs_tree.specs.States.{State}
use Rattle.bfs_tree.specs.Trees.{Node, IsNode}

-- what such a call is refused by, by the tests that are made
abbrev tests : Bool → Bool → Option Reply
tests bad big = first ((bad, replies.NameBad) ∷ (big, replies.TooBig) ∷ [])

module _ (s : State) (id : ℕ) (name : List ℕ) (kind : ℕ) (bytes : List ℕ) where
  pub no_node : get s.tree.nodes id ≡ None → own_refusal (AttrWrite id name kind bytes) s ≡ Some replies.NotFound
  no_node e = ap (λ (o : Option Node). first (at_node o (λ n. (is_bad_attribute_name name, replies.NameBad) ∷ (nat_lt 65536 (length bytes), replies.TooBig) ∷ []))) e

  module _ (n : Node) (is : IsNode s.tree id n) where
    by_tests : own_refusal (AttrWrite id name kind bytes) s ≡ tests (is_bad_attribute_name name) (nat_lt 65536 (length bytes))
    by_tests = ap (λ (o : Option Node). first (at_node o (λ n. (is_bad_attribute_name name, replies.NameBad) ∷ (nat_lt 65536 (length bytes), replies.TooBig) ∷ []))) is

    pub bad_name : is_bad_attribute_name name ≡ true → own_refusal (AttrWrite id name kind bytes) s ≡ Some replies.NameBad
    bad_name e = by_tests ∙ ap (λ (b : Bool). tests b (nat_lt 65536 (length bytes))) e

    module _ (good : is_bad_attribute_name name ≡ false) where
      pub too_big : nat_lt 65536 (length bytes) ≡ true → own_refusal (AttrWrite id name kind bytes) s ≡ Some replies.TooBig
      too_big e = by_tests ∙ ap (λ (b : Bool). tests b (nat_lt 65536 (length bytes))) good ∙ ap (λ (b : Bool). tests false b) e

      pub is_fine : nat_lt 65536 (length bytes) ≡ false → own_refusal (AttrWrite id name kind bytes) s ≡ None
      is_fine e = by_tests ∙ ap (λ (b : Bool). tests b (nat_lt 65536 (length bytes))) good ∙ ap (λ (b : Bool). tests false b) e
