-- The refusals of a call that holds a piece of a file.
use Rattle.std.proofs.Common.{◌≡◌, ℕ, ◌∷◌, Option, Some, None, Bool, true, false, refl, sym, ap, subst, ◌∙◌}
use Rattle.std.specs.Prelude.{not, nat_lt}
use Rattle.std.specs.FinMap.{get}
use Rattle.bfs_tree.specs.declared.call.Call.TheVariants as calls
use Rattle.bfs_tree.specs.declared.reply.Reply.{Reply}
use Rattle.bfs_tree.specs.declared.reply.Reply.TheVariants as replies
use Rattle.bfs_tree.specs.declared.state.Hold.{Hold}
use Rattle.bfs_tree.specs.Refusals.{own_refusal, first, at_node, held, is_past}
use Rattle.bfs_tree.specs.States.{State, conflict}
use Rattle.bfs_tree.specs.Trees.{Node, Tree, IsNode, is_file}
use Rattle.bfs_hold.specs.Held.{MayBeHeld}

-- what such a call is refused by, by the tests that are made
abbrev tests : Bool → Bool → Bool → ℕ → Option Hold → Option Reply
tests file big past size hold = first ((not file, replies.NotFile) ∷ (big, replies.TooBig) ∷ (past, replies.PastEnd size) ∷ held hold)

module _ (s : State) (id at count : ℕ) (write : Bool) where
  abbrev refused : Option Node → Option Reply
  refused o = first (at_node o (λ n. (not (is_file n.kind), replies.NotFile) ∷ (nat_lt 65536 count, replies.TooBig) ∷ (is_past n.size at count, replies.PastEnd n.size) ∷ held (conflict s.holds id write)))

  pub no_node : get s.tree.nodes id ≡ None → own_refusal (calls.Hold id at count write) s ≡ Some replies.NotFound
  no_node e = ap refused e

  module _ (n : Node) (is : IsNode s.tree id n) where
    by_tests : own_refusal (calls.Hold id at count write) s ≡ tests (is_file n.kind) (nat_lt 65536 count) (is_past n.size at count) n.size (conflict s.holds id write)
    by_tests = ap refused is

    pub no_file : is_file n.kind ≡ false → own_refusal (calls.Hold id at count write) s ≡ Some replies.NotFile
    no_file e = by_tests ∙ ap (λ (b : Bool). tests b (nat_lt 65536 count) (is_past n.size at count) n.size (conflict s.holds id write)) e

    module _ (file : is_file n.kind ≡ true) where
      here : own_refusal (calls.Hold id at count write) s ≡ tests true (nat_lt 65536 count) (is_past n.size at count) n.size (conflict s.holds id write)
      here = by_tests ∙ ap (λ (b : Bool). tests b (nat_lt 65536 count) (is_past n.size at count) n.size (conflict s.holds id write)) file

      pub too_big : nat_lt 65536 count ≡ true → own_refusal (calls.Hold id at count write) s ≡ Some replies.TooBig
      too_big e = here ∙ ap (λ (b : Bool). tests true b (is_past n.size at count) n.size (conflict s.holds id write)) e

      module _ (small : nat_lt 65536 count ≡ false) (size : ℕ) (size_is : size ≡ n.size) where
        sized : own_refusal (calls.Hold id at count write) s ≡ tests true false (is_past size at count) size (conflict s.holds id write)
        sized = here ∙ ap (λ (b : Bool). tests true b (is_past n.size at count) n.size (conflict s.holds id write)) small
            ∙ ap (λ (k : ℕ). tests true false (is_past k at count) k (conflict s.holds id write)) (sym size_is)

        pub past_end : is_past size at count ≡ true → own_refusal (calls.Hold id at count write) s ≡ Some (replies.PastEnd size)
        past_end e = sized ∙ ap (λ (b : Bool). tests true false b size (conflict s.holds id write)) e

        pub by_hold : is_past size at count ≡ false → own_refusal (calls.Hold id at count write) s ≡ first (held (conflict s.holds id write))
        by_hold e = sized ∙ ap (λ (b : Bool). tests true false b size (conflict s.holds id write)) e

-- where a piece of a file may be held, the file is there
may_be_in : (s : State) (id at count : ℕ) → own_refusal (calls.Hold id at count true) s ≡ None → (n : Node) × IsNode s.tree id n × (is_file n.kind ≡ true)
may_be_in s id at count none = by_node (get s.tree.nodes id) refl
  where
    by_file : (n : Node) → IsNode s.tree id n → (b : Bool) → is_file n.kind ≡ b → is_file n.kind ≡ true
    by_file n is true e = e
    by_file n is false e = let bad : Some replies.NotFile ≡ None = sym (no_file s id at count true n is e) ∙ none in absurd cc

    by_node : (o : Option Node) → get s.tree.nodes id ≡ o → (n : Node) × IsNode s.tree id n × (is_file n.kind ≡ true)
    by_node None e = let bad : Some replies.NotFound ≡ None = sym (no_node s id at count true e) ∙ none in absurd cc
    by_node (Some n) e = (n, e, by_file n e (is_file n.kind) refl)

pub file_there : (tree : Tree) (id : ℕ) → MayBeHeld tree id → (n : Node) × IsNode tree id n × (is_file n.kind ≡ true)
file_there tree id u = let f = may_be_in u.2.0 id u.0 u.1 u.2.2 in (f.0, subst (λ (t : Tree). IsNode t id f.0) u.2.1 f.1, f.2)
