-- What is gathered of nodes.
use Rattle.std.proofs.Common.{◌≡◌, ◌∙◌, ℕ, List, ◌∷◌, ◌++◌, false, Option, sym, ap, append_assoc}
use Rattle.std.specs.Option.{option_and_then}
use Rattle.std.specs.FinMap.{get}
use Rattle.bfs_base.specs.declared.kind.KeyKind.{KeyKind}
use Rattle.bfs_tree.specs.Listings.{key_at, key_in, key_of_attribute}
use Rattle.bfs_tree.specs.Refusals.{is_built_in}
use Rattle.bfs_tree.specs.Trees.{Node, Tree, IsNode}
use Rattle.bfs_attr_put.proofs.Keys.{attribute_key}
use Rattle.bfs_index_make.specs.Gathered.{pair_at, pairs_at}

-- an index that isn't built in lists a node by its attribute
pub key_of_node : (tree : Tree) (name : List ℕ) (kind : KeyKind) (id : ℕ) (n : Node) → IsNode tree id n → is_built_in name ≡ false → key_at tree name kind id ≡ option_and_then (key_of_attribute kind) (get n.attributes name)
key_of_node tree name kind id n is other = ap (λ (o : Option Node). option_and_then (key_in tree.root name kind id) o) is ∙ attribute_key tree.root name kind id n other

-- from a place on, the pairs of the node at it come first
pub pairs_from : (tree : Tree) (name : List ℕ) (kind : KeyKind) (first before after all : List (List ℕ × ℕ)) (id : ℕ) (ids more : List ℕ) → ids ≡ id ∷ more → before ++ pairs_at tree name kind ids ≡ first ++ all → after ≡ before ++ pair_at tree name kind id
    → after ++ pairs_at tree name kind more ≡ first ++ all
pairs_from tree name kind first before after all id ids more split was now =
    ap (λ (l : List (List ℕ × ℕ)). l ++ pairs_at tree name kind more) now
    ∙ append_assoc before (pair_at tree name kind id) (pairs_at tree name kind more)
    ∙ sym (ap (λ (l : List ℕ). before ++ pairs_at tree name kind l) split)
    ∙ was
