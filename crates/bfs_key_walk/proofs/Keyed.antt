-- The key of a node by the index's name.
use Rattle.std.proofs.Common.{◌≡◌, ◌∙◌, ℕ, List, Bool, true, false, cond, Option, Some, None, codes, refl, sym, ap}
use Rattle.std.specs.Option.{option_and_then}
use Rattle.std.specs.Prelude.{◌==◌}
use Rattle.std.specs.Str.{bytes_eq}
use Rattle.std.specs.FinMap.{get}
use Rattle.bfs_base.specs.declared.kind.KeyKind.{KeyKind}
use Rattle.bfs_bytes.specs.Fields.{unsigned_bytes, signed64_bytes}
use Rattle.bfs_tree.specs.Listings.{key_in, key_of_attribute}
use Rattle.bfs_tree.specs.Trees.{Node, is_file}
use Rattle.bfs_nodes_walk.specs.declared.facts.FileKeys.{FileKeys}

module _ (root : ℕ) (index : List ℕ) (kind : KeyKind) (id : ℕ) (n : Node) where
  abbrev by_attributes : Option (List ℕ)
  by_attributes = option_and_then (key_of_attribute kind) (get n.attributes index)

  abbrev of_file : List ℕ → Option (List ℕ)
  of_file bytes = cond (is_file n.kind) (Some bytes) None

  abbrev by_tests : Bool → Bool → Bool → Bool → Option (List ℕ)
  by_tests a b c d = cond a (cond d None (Some n.name)) (cond b (of_file (unsigned_bytes 8 n.size)) (cond c (of_file (signed64_bytes n.modified)) by_attributes))

  abbrev is_size : Bool
  is_size = bytes_eq index (codes "size")

  abbrev is_time : Bool
  is_time = bytes_eq index (codes "last_modified")

  pub named_key : (is_root : Bool) → bytes_eq index (codes "name") ≡ true → is_root ≡ (id == root) → key_in root index kind id n ≡ cond is_root None (Some n.name)
  named_key is_root e r = ap (λ (t : Bool). by_tests t is_size is_time (id == root)) e ∙ ap (λ (t : Bool). by_tests true is_size is_time t) (sym r)

-- the key of one that has none, and of one that has
pub key_of_none : (f : Bool) (keys : FileKeys) (bytes : List ℕ) → None ≡ cond f (Some keys) None → None ≡ cond f (Some bytes) None
key_of_none true keys bytes e = absurd (let bad : None ≡ Some keys = e in cc)
key_of_none false keys bytes e = refl

pub key_of_some : (f by_size : Bool) (keys these : FileKeys) → Some keys ≡ cond f (Some these) None → Some (cond by_size keys.size keys.stamp) ≡ cond f (Some (cond by_size these.size these.stamp)) None
key_of_some true by_size keys these e =
    let same : keys ≡ these = let both : Some keys ≡ Some these = e in cc in
    ap (λ (k : FileKeys). Some (cond by_size k.size k.stamp)) same
key_of_some false by_size keys these e = absurd (let bad : Some keys ≡ None = e in cc)
