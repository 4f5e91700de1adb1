-- The pairs of an index without the one of a node.
use Rattle.std.proofs.Common.{◌≡◌, ◌≢◌, ◌⊎◌, inl, inr, ℕ, ℤ, List, Some, None, sym, ap, ◌∙◌, subst}
use Rattle.std.specs.Prelude.{◌↔◌}
use Rattle.std.specs.List.{Contains}
use Rattle.std.specs.List.Sorted.{IsStrictlySortedBy}
use Rattle.std.specs.Option.{option_and_then}
use Rattle.bfs_base.specs.declared.kind.KeyKind.{KeyKind}
use Rattle.bfs_base.specs.declared.kind.KeyKind.TheVariants.{Text}
use Rattle.bfs_pages.specs.Maps.{assoc}
use Rattle.bfs_tree.specs.Listings.{key_in, key_at, listed, pair_cmp, without_id}
use Rattle.bfs_tree.specs.Trees.{Node, Tree, IsNode}
use Rattle.bfs_tree.proofs.ListMoves.{listed-ascends, listed-has, listed-taken}
use Rattle.bfs_shift.specs.Lists.{Lists, Agrees}
use Rattle.bfs_shift.proofs.Following.{same_or_not}
use Rattle.bfs_shift.proofs.Leaves.{taken_none}
use Rattle.bfs_shift.proofs.Made.{taken_other}
use Rattle.bfs_unmake.specs.Leaving.{tree_without}

module _ (tree : Tree) (lists : Lists) (id : ℕ) (n : Node) (index : List ℕ) (value : ℤ) (key : List ℕ) (agrees : Agrees tree lists) (is : IsNode tree id n) (row : assoc Text lists.names index ≡ Some value) (was : key_in tree.root index (lists.kinds index) id n ≡ Some key) where
  abbrev bare : Tree
  bare = tree_without tree id

  abbrev kind : KeyKind
  kind = lists.kinds index

  abbrev left : List (List ℕ × ℕ)
  left = without_id id (lists.pairs index)

  pairs_are : lists.pairs index ≡ listed tree index kind
  pairs_are = (agrees.indices index value row).pairs

  left_are : left ≡ listed bare index kind
  left_are = ap (without_id id) pairs_are ∙ sym (listed-taken tree index kind id)

  key_here : key_at tree index kind id ≡ Some key
  key_here = ap (option_and_then (key_in tree.root index kind id)) is ∙ was

  key_gone : key_at bare index kind id ≡ None
  key_gone = ap (option_and_then (key_in tree.root index kind id)) (taken_none tree.nodes id)

  key_there : (q : ℕ) → q ≢ id → key_at bare index kind q ≡ key_at tree index kind q
  key_there q apart = ap (option_and_then (key_in tree.root index kind q)) (taken_other tree.nodes id q apart)

  less_on : (k : List ℕ) (q : ℕ) → Contains left (k, q) → Contains (lists.pairs index) (k, q) × ((k ≡ key) × (q ≡ id) → ⊥)
  less_on k q there = by_id (same_or_not q id)
    where
      at : key_at bare index kind q ≡ Some k
      at = (listed-has bare index kind k q).0 (subst (λ (l : List (List ℕ × ℕ)). Contains l (k, q)) left_are there)

      by_id : (q ≡ id) ⊎ (q ≢ id) → Contains (lists.pairs index) (k, q) × ((k ≡ key) × (q ≡ id) → ⊥)
      by_id (inl e) = absurd (let bad : None ≡ Some k = sym key_gone ∙ sym (ap (key_at bare index kind) e) ∙ at in cc)
      by_id (inr apart) = (subst (λ (l : List (List ℕ × ℕ)). Contains l (k, q)) (sym pairs_are) ((listed-has tree index kind k q).1 (sym (key_there q apart) ∙ at)), λ both. apart both.1)

  less_back : (k : List ℕ) (q : ℕ) → Contains (lists.pairs index) (k, q) × ((k ≡ key) × (q ≡ id) → ⊥) → Contains left (k, q)
  less_back k q h = by_id (same_or_not q id)
    where
      at : key_at tree index kind q ≡ Some k
      at = (listed-has tree index kind k q).0 (subst (λ (l : List (List ℕ × ℕ)). Contains l (k, q)) pairs_are h.0)

      by_id : (q ≡ id) ⊎ (q ≢ id) → Contains left (k, q)
      by_id (inl e) = absurd (h.1 ((let both : Some k ≡ Some key = sym at ∙ ap (key_at tree index kind) e ∙ key_here in let same : k ≡ key = cc in same), e))
      by_id (inr apart) = subst (λ (l : List (List ℕ × ℕ)). Contains l (k, q)) (sym left_are) ((listed-has bare index kind k q).1 (key_there q apart ∙ at))

  pub pairs_less : IsStrictlySortedBy (pair_cmp kind) left × ((k : List ℕ) (q : ℕ) → Contains left (k, q) ↔ (Contains (lists.pairs index) (k, q) × ((k ≡ key) × (q ≡ id) → ⊥)))
  pairs_less = (subst (λ (l : List (List ℕ × ℕ)). IsStrictlySortedBy (pair_cmp kind) l) (sym left_are) (listed-ascends bare index kind), λ k q. (less_on k q, less_back k q))
