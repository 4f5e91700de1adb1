-- What a tree that stands has, whether or not an index directory without rows is there.
use Rattle.std.specs.Prelude.{◌≡◌, ◌<◌, ℕ, ℤ, List}
use Rattle.bfs_base.specs.Lists.{Has, IsOnce}
use Rattle.bfs_tree.specs.declared.call.Kind.TheVariants.{Dir}
use Rattle.bfs_tree.specs.Trees.{Node, Tree, IsNode, HasPlainNodes}
use Rattle.bfs_sound.specs.Volumes.{Volume}
use Rattle.bfs_sound.specs.Inodes.{index_directory}
use Rattle.bfs_sound.specs.Nodes.{HasNode}
use Rattle.bfs_sound.specs.Listings.{Lists, HasIndexDirectory, IsIndexRow, IsIndexOf}
use Rattle.bfs_sound.specs.Owners.{reach}
use Rattle.bfs_finding.specs.Findings.{Standing}

pub record Upright (v : Volume) (tree : Tree) : Type 0 where
  pub plain : HasPlainNodes tree
  pub root : tree.root ≡ v.geometry.root
  pub nodes : (id : ℕ) (n : Node) → IsNode tree id n → HasNode v id n
  pub listings : (id : ℕ) (n : Node) → IsNode tree id n → n.kind ≡ Dir → Lists v tree id n
  pub directory : HasIndexDirectory v (index_directory v)
  pub indices : (name : List ℕ) (value : ℤ) → IsIndexRow v name value → IsIndexOf v tree name value
  pub once : IsOnce (reach v tree)
  pub inside : (k : ℕ) → Has (reach v tree) k → k < v.geometry.blocks

pub upright : (v : Volume) (tree : Tree) → Standing v tree → Upright v tree
upright v tree s =
    let t = s.nodes.stands in
    record {
      plain = s.nodes.plain;
      root = t.root;
      nodes = t.nodes;
      listings = t.listings;
      directory = t.directory;
      indices = t.indices;
      once = s.nodes.once;
      inside = s.inside;
    }
