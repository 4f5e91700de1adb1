-- Lists with one thing changed, and the keys of a new node.
use Rattle.std.proofs.Common.{◌≡◌, ◌≢◌, ℕ, ℤ, List, refl, ap, ◌∙◌, Bool, true, false, cond, Option, Some, None, codes}
use Rattle.std.specs.Option.{option_and_then}
use Rattle.std.specs.Str.{bytes_eq}
use Rattle.std.proofs.lemmas.Slice.Eq.{bytes_eq-Decides}
use Rattle.std.specs.FinMap.{get, empty, get-empty}
use Rattle.bfs_base.specs.Keys.{text_cmp}
use Rattle.bfs_base.specs.declared.kind.KeyKind.{KeyKind}
use Rattle.bfs_bytes.specs.Fields.{unsigned_bytes, signed64_bytes}
use Rattle.bfs_tree.specs.declared.call.Kind.{Kind}
use Rattle.bfs_tree.specs.Listings.{key_in, key_of_attribute}
use Rattle.bfs_tree.specs.Trees.{Attribute, new_node, is_file}
use Rattle.bfs_shift.specs.Lists.{Lists}
use Rattle.bfs_shift.specs.TreeLaws.{IsListsAt, new_key}
use Rattle.bfs_shift.proofs.Renewed.{same_test, other_test}

same_text : (name : List ℕ) → bytes_eq name name ≡ true
same_text name = (bytes_eq-Decides name name).1 refl

other_text : (index name : List ℕ) → index ≢ name → bytes_eq index name ≡ false
other_text index name apart = by_test (bytes_eq index name) refl
  where
    by_test : (t : Bool) → bytes_eq index name ≡ t → bytes_eq index name ≡ false
    by_test true e = absurd (apart ((bytes_eq-Decides index name).0 e))
    by_test false e = e

pub lists_at : (lists : Lists) → IsListsAt lists
lists_at lists = record {
  rows_here = λ d rows. ap (λ (t : Bool). cond t rows (lists.rows d)) (same_test d);
  rows_elsewhere = λ d b rows apart. ap (λ (t : Bool). cond t rows (lists.rows b)) (other_test b d apart);
  pairs_here = λ name pairs. ap (λ (t : Bool). cond t pairs (lists.pairs name)) (same_text name);
  pairs_elsewhere = λ name index pairs apart. ap (λ (t : Bool). cond t pairs (lists.pairs index)) (other_text index name apart);
  index_here = λ name kind pairs. (ap (λ (t : Bool). cond t kind (lists.kinds name)) (same_text name), ap (λ (t : Bool). cond t pairs (lists.pairs name)) (same_text name));
  index_elsewhere = λ name index kind pairs apart.
      (ap (λ (t : Bool). cond t kind (lists.kinds index)) (other_text index name apart), ap (λ (t : Bool). cond t pairs (lists.pairs index)) (other_text index name apart));
}

module _ (index : List ℕ) (kind : Kind) (size : ℕ) (stamp : ℤ) where
  -- the key, by what the index `name` gives and by what attributes give
  by_both : Option (List ℕ) → Option (List ℕ) → Option (List ℕ)
  by_both named other =
      cond (bytes_eq index (codes "name")) named
      (cond (bytes_eq index (codes "size")) (cond (is_file kind) (Some (unsigned_bytes 8 size)) None)
      (cond (bytes_eq index (codes "last_modified")) (cond (is_file kind) (Some (signed64_bytes stamp)) None) other))

pub key_of_new : (root : ℕ) (index : List ℕ) (of : KeyKind) (id : ℕ) (kind : Kind) (name : List ℕ) (parent mode size : ℕ) (target : List ℕ) (stamp : ℤ) → id ≢ root
    → key_in root index of id (new_node kind name parent mode size target stamp) ≡ new_key index kind name size stamp
unfolding by_both
key_of_new root index of id kind name parent mode size target stamp other =
    ap (λ (t : Bool). by_both index kind size stamp (cond t None (Some name)) (option_and_then (key_of_attribute of) (get {R = text_cmp} empty index))) (other_test id root other)
    ∙ ap (λ (o : Option Attribute). by_both index kind size stamp (Some name) (option_and_then (key_of_attribute of) o)) (get-empty text_cmp index)
