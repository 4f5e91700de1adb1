-- What is kept of a node that was gone over, so that its inode isn't read again.
use Rattle.std.specs.Prelude.{◌≡◌, ℕ, List, [], ◌∷◌, Option, Some, None, IsTrue, if◌then◌else◌}
use Rattle.bfs_bytes.specs.Fields.{unsigned_bytes, signed64_bytes}
use Rattle.bfs_super.specs.Conditions.{natural}
use Rattle.bfs_tree.specs.Trees.{Node, is_file}
use Rattle.bfs_sound.specs.Volumes.{Volume}
use Rattle.bfs_sound.specs.Attributes.{attribute_directory}
use Rattle.bfs_sound.specs.Nodes.{HasNode}
use Rattle.bfs_nodes_walk.specs.Walks.{HasAttributes}
use Rattle.bfs_nodes_walk.specs.declared.facts.FileKeys.{FileKeys}
use Rattle.bfs_nodes_walk.specs.declared.facts.NodeFacts.{NodeFacts}
use Rattle.bfs_nodes_walk.specs.declared.lead.NodeLead.{NodeLead}

-- the keys by which a node is listed for its size and its stamp: a file has them, and no other node does
abbrev pub keys_of : Node → Option FileKeys
keys_of n = if is_file n.kind then Some (record { size = unsigned_bytes 8 n.size; stamp = signed64_bytes n.modified }) else None

-- its attributes are right, and all of them are items
abbrev pub IsPlain : Volume → ℕ → Type 0
IsPlain v id = HasAttributes v id × (attribute_directory v id ≡ None)

-- what is kept of the node at a block: where it says that all attributes are items, they are, and are right; and its keys
pub record IsFactOf (v : Volume) (id : ℕ) (facts : NodeFacts) : Type 0 where
  pub plain : IsTrue facts.plain → IsPlain v id
  pub keys : (n : Node) → HasNode v id n → facts.keys ≡ keys_of n

-- what is kept of the nodes that rows name, in the order of the rows
abbrev pub AreFactsOf : Volume → List NodeLead → List NodeFacts → Type 0
AreFactsOf v [] [] = Unit {0}
AreFactsOf v [] (f ∷ fs) = ⊥
AreFactsOf v (l ∷ ls) [] = ⊥
AreFactsOf v (l ∷ ls) (f ∷ fs) = IsFactOf v (natural l.row.value) f × AreFactsOf v ls fs
