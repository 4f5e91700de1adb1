-- What the maps of the plain program stand for.
use Rattle.std.specs.Prelude.{ℕ, ℤ, List, map as each}
use Rattle.std.specs.Global.{Vec}
use Rattle.bfs_base.specs.declared.kind.KeyKind.{KeyKind}
use Rattle.std.specs.FinMap.{FinMap, from_entries, insert, remove}
use Rattle.bfs_base.specs.Keys.{text_cmp}
use Rattle.bfs_plain.specs.declared.node.Attribute as kept_attribute
use Rattle.bfs_plain.specs.declared.node.Node as kept_node
use Rattle.bfs_plain.specs.declared.sorts.Pair.{Pair}
use Rattle.bfs_plain.specs.declared.nodes.NodeChange.{NodeChange}
use Rattle.bfs_plain.specs.declared.nodes.NodeChange.TheVariants.{Touch, Content, Size, Mode, Name}
use Rattle.bfs_tree.specs.Trees.{Attribute, Attributes, Node, Nodes}

abbrev pub attribute_of : kept_attribute.Attribute → Attribute
attribute_of a = record { code = a.code; bytes = a.bytes }

abbrev pub attribute_entry : Vec ℕ × kept_attribute.Attribute → List ℕ × Attribute
attribute_entry e = (e.0.items, attribute_of e.1)

abbrev pub attributes_of : List (Vec ℕ × kept_attribute.Attribute) → Attributes
attributes_of es = from_entries (each attribute_entry es)

abbrev pub node_of : kept_node.Node → Node
node_of n = record {
  kind = n.kind;
  name = n.name;
  parent = n.parent;
  mode = n.mode;
  uid = n.uid;
  gid = n.gid;
  created = n.created;
  modified = n.modified;
  changed = n.changed;
  size = n.size;
  target = n.target;
  attributes = attributes_of n.attributes.entries;
}

abbrev pub node_entry : ℕ × kept_node.Node → ℕ × Node
node_entry e = (e.0, node_of e.1)

abbrev pub nodes_of : List (ℕ × kept_node.Node) → Nodes
nodes_of es = from_entries (each node_entry es)

abbrev pub index_entry : Vec ℕ × KeyKind → List ℕ × KeyKind
index_entry e = (e.0.items, e.1)

abbrev pub indices_of : List (Vec ℕ × KeyKind) → FinMap text_cmp KeyKind
indices_of es = from_entries (each index_entry es)

abbrev pub pair_of : Pair → List ℕ × ℕ
pair_of p = (p.key, p.id)

-- the record of a node after a change at a moment
abbrev pub node_after : NodeChange → ℤ → Node → Node
node_after Touch stamp n = record n { modified = stamp }
node_after Content stamp n = record n { modified = stamp; changed = stamp }
node_after (Size size) stamp n = record n { size = size; modified = stamp; changed = stamp }
node_after (Mode mode uid gid) stamp n = record n { mode = mode; uid = uid; gid = gid; changed = stamp }
node_after (Name name parent) stamp n = record n { name = name; parent = parent; changed = stamp }

abbrev pub with_attribute : List ℕ → Attribute → ℤ → Node → Node
with_attribute name a stamp n = record n { attributes = insert n.attributes name a; changed = stamp }

abbrev pub without_attribute : List ℕ → ℤ → Node → Node
without_attribute name stamp n = record n { attributes = remove n.attributes name; changed = stamp }
