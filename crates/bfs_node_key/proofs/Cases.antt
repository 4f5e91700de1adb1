-- The key of a node by the index's name.
use Rattle.std.proofs.Common.{◌≡◌, ◌≢◌, ℕ, List, ap, ◌∙◌, Bool, true, false, cond, Option, Some, None, codes}
use Rattle.std.specs.Option.{option_and_then}
use Rattle.std.specs.Prelude.{◌==◌}
use Rattle.std.specs.Str.{bytes_eq}
use Rattle.std.specs.FinMap.{get}
use Rattle.bfs_base.specs.declared.kind.KeyKind.{KeyKind}
use Rattle.bfs_bytes.specs.Fields.{unsigned_bytes, signed64_bytes}
use Rattle.bfs_shift.proofs.Renewed.{other_test}
use Rattle.bfs_tree.specs.Listings.{key_in, key_of_attribute}
use Rattle.bfs_tree.specs.Trees.{Node, is_file}

module _ (root : ℕ) (index : List ℕ) (kind : KeyKind) (id : ℕ) (n : Node) where
  abbrev by_attributes : Option (List ℕ)
  by_attributes = option_and_then (key_of_attribute kind) (get n.attributes index)

  abbrev of_file : List ℕ → Option (List ℕ)
  of_file bytes = cond (is_file n.kind) (Some bytes) None

  abbrev by_tests : Bool → Bool → Bool → Bool → Option (List ℕ)
  by_tests a b c d = cond a (cond d None (Some n.name)) (cond b (of_file (unsigned_bytes 8 n.size)) (cond c (of_file (signed64_bytes n.modified)) by_attributes))

  abbrev is_size : Bool
  is_size = bytes_eq index (codes "size")

  abbrev is_time : Bool
  is_time = bytes_eq index (codes "last_modified")

  pub key_by_name : bytes_eq index (codes "name") ≡ true → id ≢ root → key_in root index kind id n ≡ Some n.name
  key_by_name e apart = ap (λ (t : Bool). by_tests t is_size is_time (id == root)) e ∙ ap (λ (t : Bool). by_tests true is_size is_time t) (other_test id root apart)

  pub key_by_size : bytes_eq index (codes "name") ≡ false → is_size ≡ true → key_in root index kind id n ≡ of_file (unsigned_bytes 8 n.size)
  key_by_size e f = ap (λ (t : Bool). by_tests t is_size is_time (id == root)) e ∙ ap (λ (t : Bool). by_tests false t is_time (id == root)) f

  pub key_by_time : bytes_eq index (codes "name") ≡ false → is_size ≡ false → is_time ≡ true → key_in root index kind id n ≡ of_file (signed64_bytes n.modified)
  key_by_time e f h = ap (λ (t : Bool). by_tests t is_size is_time (id == root)) e ∙ ap (λ (t : Bool). by_tests false t is_time (id == root)) f ∙ ap (λ (t : Bool). by_tests false false t (id == root)) h

  pub key_by_attribute : bytes_eq index (codes "name") ≡ false → is_size ≡ false → is_time ≡ false → key_in root index kind id n ≡ by_attributes
  key_by_attribute e f h = ap (λ (t : Bool). by_tests t is_size is_time (id == root)) e ∙ ap (λ (t : Bool). by_tests false t is_time (id == root)) f ∙ ap (λ (t : Bool). by_tests false false t (id == root)) h
