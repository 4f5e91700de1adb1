-- The pairs of an index that is to list a node under an attribute that it has anew.
use Rattle.std.proofs.Common.{◌≡◌, ◌≢◌, ◌⊎◌, inl, inr, ℕ, ℤ, pos, List, true, false, Option, Some, None, refl, sym, ap, ◌∙◌}
use Rattle.std.specs.Prelude.{◌↔◌}
use Rattle.std.specs.List.{Contains}
use Rattle.std.specs.List.Sorted.{IsStrictlySortedBy}
use Rattle.std.specs.Option.{option_and_then}
use Rattle.bfs_base.specs.declared.kind.KeyKind.{KeyKind}
use Rattle.bfs_base.specs.declared.kind.KeyKind.TheVariants.{Text}
use Rattle.bfs_pages.specs.Maps.{assoc}
use Rattle.bfs_tree.specs.Listings.{key_in, key_at, key_of_attribute, listed, pair_cmp, relisted, with_key, without_id}
use Rattle.bfs_tree.specs.Refusals.{is_built_in}
use Rattle.bfs_tree.specs.Trees.{Attribute, Node, Tree, IsNode}
use Rattle.bfs_tree.proofs.ListMoves.{listed-ascends, listed-stays, listed-taken}
use Rattle.bfs_shift.specs.Lists.{Lists, Agrees, with_pairs}
use Rattle.bfs_shift.proofs.Following.{same_or_not}
use Rattle.bfs_shift.proofs.Leaves.{taken_none}
use Rattle.bfs_shift.proofs.Made.{taken_other}
use Rattle.bfs_shift.proofs.Parts.{lists_at}
use Rattle.bfs_attr_calls.proofs.MovesKeys.{listed_now, listed_more}
use Rattle.bfs_attr_calls.specs.LeaveLeaving.{tree_without}
use Rattle.bfs_attr_calls.specs.Made.{with_new}
use Rattle.bfs_attr_calls.specs.Removed.{UnlistsUnder}
use Rattle.bfs_attr_put.specs.Written.{node_with, ListsUnder}
use Rattle.bfs_attr_put.proofs.Keyed.{own_key}

module _ (tree : Tree) (lists begun : Lists) (id : ℕ) (n : Node) (name : List ℕ) (agrees : Agrees tree lists) (is : IsNode tree id n) (unlists : UnlistsUnder tree lists begun id n name) where
  abbrev kind : KeyKind
  kind = lists.kinds name

  abbrev bare : Tree
  bare = tree_without tree id

  -- without a key the node is listed nowhere
  not_listed : key_in tree.root name kind id n ≡ None → without_id id (listed tree name kind) ≡ listed tree name kind
  not_listed none = sym (listed-taken tree name kind id) ∙ listed-stays tree bare name kind (λ q. at q (same_or_not q id))
    where
      at : (q : ℕ) → (q ≡ id) ⊎ (q ≢ id) → key_at bare name kind q ≡ key_at tree name kind q
      at q (inl same) =
          ap (key_at bare name kind) same ∙ ap (option_and_then (key_in tree.root name kind id)) (taken_none tree.nodes id)
          ∙ sym (ap (option_and_then (key_in tree.root name kind id)) is ∙ none) ∙ ap (key_at tree name kind) (sym same)
      at q (inr apart) = ap (option_and_then (key_in tree.root name kind q)) (taken_other tree.nodes id q apart)

  module _ (value : ℤ) (row : assoc Text lists.names name ≡ Some value) (free : is_built_in name ≡ false) where
    pairs_are : lists.pairs name ≡ listed tree name kind
    pairs_are = (agrees.indices name value row).pairs

    pub begun_left : begun.pairs name ≡ without_id id (lists.pairs name)
    begun_left = by_case (unlists.own value row free)
      where
        by_case : (begun.pairs name ≡ without_id id (lists.pairs name)) ⊎ ((key_in tree.root name kind id n ≡ None) × (begun.pairs name ≡ lists.pairs name)) → begun.pairs name ≡ without_id id (lists.pairs name)
        by_case (inl left) = left
        by_case (inr none) = none.1 ∙ pairs_are ∙ sym (not_listed none.0) ∙ ap (without_id id) (sym pairs_are)

    pub begun_are : begun.pairs name ≡ listed bare name kind
    begun_are = begun_left ∙ ap (without_id id) pairs_are ∙ sym (listed-taken tree name kind id)

  -- where no index is to list the node, the lists are those already
  pub lists_none : (attribute : Attribute) → (is_built_in name ≡ false → (value : ℤ) → assoc Text lists.names name ≡ Some value → key_of_attribute kind attribute ≡ None) → ListsUnder lists begun id name attribute
  lists_none attribute none = record {
    rows = unlists.rows;
    names = unlists.names;
    kinds = unlists.kinds;
    others = unlists.others;
    built_in = unlists.built_in;
    own = λ value row free. begun_left value row free ∙ ap (λ (k : Option (List ℕ)). relisted kind id k (lists.pairs name)) (sym (none free value row));
  }

  module _ (attribute : Attribute) (value : ℤ) (row : assoc Text lists.names name ≡ Some value) (free : is_built_in name ≡ false) (key : List ℕ) (has : key_of_attribute kind attribute ≡ Some key) where
    abbrev then : Node
    then = node_with n name attribute (pos 0)

    abbrev pub pairs : List (List ℕ × ℕ)
    pairs = listed (with_new bare id then) name kind

    key_is : key_in tree.root name kind id then ≡ Some key
    key_is = own_key tree.root name kind id n name attribute (pos 0) refl free ∙ has

    pub pairs_sorted : IsStrictlySortedBy (pair_cmp kind) pairs
    pairs_sorted = listed-ascends (with_new bare id then) name kind

    pub pairs_more : (k : List ℕ) (q : ℕ) → Contains pairs (k, q) ↔ (Contains (begun.pairs name) (k, q) ⊎ ((k ≡ key) × (q ≡ id)))
    pairs_more k q = listed_more bare id then name kind (begun.pairs name) (taken_none tree.nodes id) (begun_are value row free) key key_is k q

    pairs_now : pairs ≡ relisted kind id (key_of_attribute kind attribute) (lists.pairs name)
    pairs_now =
        listed_now bare id then name kind (begun.pairs name) (taken_none tree.nodes id) (begun_are value row free)
        ∙ ap (λ (k : Option (List ℕ)). with_key kind id k (begun.pairs name)) (key_is ∙ sym has)
        ∙ ap (with_key kind id (key_of_attribute kind attribute)) (begun_left value row free)

    pub lists_some : ListsUnder lists (with_pairs begun name pairs) id name attribute
    lists_some = record {
      rows = unlists.rows;
      names = unlists.names;
      kinds = unlists.kinds;
      others = λ index apart. (lists_at begun).pairs_elsewhere name index pairs apart ∙ unlists.others index apart;
      built_in = λ built. absurd (let bad : false ≡ true = sym free ∙ built in cc);
      own = λ v r f. (lists_at begun).pairs_here name pairs ∙ pairs_now;
    }
