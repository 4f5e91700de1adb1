-- The refusals of a call that gives a file a size.
use Rattle.std.proofs.Common.{◌≡◌, ℕ, List, ◌∷◌, Option, Some, None, Bool, true, false, refl, sym, ap, subst, ◌∙◌}
use Rattle.std.specs.Prelude.{not, nat_lt}
use Rattle.std.specs.FinMap.{get, empty}
use Rattle.bfs_tree.specs.declared.call.Call.TheVariants.{SetSize}
use Rattle.bfs_tree.specs.declared.reply.Reply.{Reply}
use Rattle.bfs_tree.specs.declared.reply.Reply.TheVariants as replies
use Rattle.bfs_tree.specs.declared.state.Hold.{Hold}
use Rattle.bfs_tree.specs.Refusals.{own_refusal, first, at_node, held}
use Rattle.bfs_tree.specs.States.{State, conflict}
use Rattle.bfs_tree.specs.Trees.{Node, Tree, IsNode, is_file}
use Rattle.bfs_set_size.specs.Sized.{IsUnrefused}

-- what such a call is refused by, by the tests that are made
abbrev tests : Bool → Bool → Option Hold → Option Reply
tests file big hold = first ((not file, replies.NotFile) ∷ (big, replies.TooBig) ∷ held hold)

module _ (s : State) (id size : ℕ) where
  pub no_node : get s.tree.nodes id ≡ None → own_refusal (SetSize id size) s ≡ Some replies.NotFound
  no_node e = ap (λ (o : Option Node). first (at_node o (λ n. (not (is_file n.kind), replies.NotFile) ∷ (nat_lt 1073741824 size, replies.TooBig) ∷ held (conflict s.holds id true)))) e

  module _ (n : Node) (is : IsNode s.tree id n) where
    by_tests : own_refusal (SetSize id size) s ≡ tests (is_file n.kind) (nat_lt 1073741824 size) (conflict s.holds id true)
    by_tests = ap (λ (o : Option Node). first (at_node o (λ n. (not (is_file n.kind), replies.NotFile) ∷ (nat_lt 1073741824 size, replies.TooBig) ∷ held (conflict s.holds id true)))) is

    pub no_file : is_file n.kind ≡ false → own_refusal (SetSize id size) s ≡ Some replies.NotFile
    no_file e = by_tests ∙ ap (λ (b : Bool). tests b (nat_lt 1073741824 size) (conflict s.holds id true)) e

    module _ (file : is_file n.kind ≡ true) where
      here : own_refusal (SetSize id size) s ≡ tests true (nat_lt 1073741824 size) (conflict s.holds id true)
      here = by_tests ∙ ap (λ (b : Bool). tests b (nat_lt 1073741824 size) (conflict s.holds id true)) file

      pub too_big : nat_lt 1073741824 size ≡ true → own_refusal (SetSize id size) s ≡ Some replies.TooBig
      too_big e = here ∙ ap (λ (b : Bool). tests true b (conflict s.holds id true)) e

      pub by_hold : nat_lt 1073741824 size ≡ false → own_refusal (SetSize id size) s ≡ first (held (conflict s.holds id true))
      by_hold e = here ∙ ap (λ (b : Bool). tests true b (conflict s.holds id true)) e

-- where a file may get a size, it is there and the size isn't too big
pub may_be_in : (s : State) (id size : ℕ) → own_refusal (SetSize id size) s ≡ None → (n : Node) × IsNode s.tree id n × (is_file n.kind ≡ true)
may_be_in s id size none = by_node (get s.tree.nodes id) refl
  where
    by_file : (n : Node) → IsNode s.tree id n → (b : Bool) → is_file n.kind ≡ b → is_file n.kind ≡ true
    by_file n is true e = e
    by_file n is false e = let bad : Some replies.NotFile ≡ None = sym (no_file s id size n is e) ∙ none in absurd cc

    by_node : (o : Option Node) → get s.tree.nodes id ≡ o → (n : Node) × IsNode s.tree id n × (is_file n.kind ≡ true)
    by_node None e = let bad : Some replies.NotFound ≡ None = sym (no_node s id size e) ∙ none in absurd cc
    by_node (Some n) e = (n, e, by_file n e (is_file n.kind) refl)

pub may_be : (tree : Tree) (holds : List Hold) (id size : ℕ) → ((s : State) → s.tree ≡ tree → s.holds ≡ holds → own_refusal (SetSize id size) s ≡ None) → (n : Node) × IsNode tree id n × (is_file n.kind ≡ true)
may_be tree holds id size fine = may_be_in (record { tree = tree; holds = holds; known = empty }) id size (fine (record { tree = tree; holds = holds; known = empty }) refl refl)

pub file_there : (tree : Tree) (id size : ℕ) → IsUnrefused tree (SetSize id size) → (n : Node) × IsNode tree id n × (is_file n.kind ≡ true)
file_there tree id size u = let f = may_be_in u.0 id size u.2 in (f.0, subst (λ (t : Tree). IsNode t id f.0) u.1 f.1, f.2)
