-- The key under which an index lists a node can be looked for there.
use Rattle.std.proofs.Common.{◌≡◌, inl, inr, ℕ, List, refl, sym, ap, ◌∙◌, subst, arith, Bool, true, false, cond, Option, Some, None, length, codes}
use Rattle.std.specs.Prelude.{◌==◌, IfSome}
use Rattle.std.specs.Option.{option_and_then}
use Rattle.std.specs.Str.{bytes_eq}
use Rattle.std.proofs.lemmas.Slice.Eq.{bytes_eq-Decides}
use Rattle.std.specs.FinMap.{get, get-empty}
use Rattle.bfs_base.specs.Keys.{text_cmp}
use Rattle.bfs_base.specs.declared.kind.KeyKind.{KeyKind}
use Rattle.bfs_base.specs.declared.kind.KeyKind.TheVariants.{Text, I32, U32, I64, U64, F32, F64}
use Rattle.bfs_bytes.proofs.Lengths.{length-unsigned_bytes, length-signed64_bytes}
use Rattle.bfs_bytes.specs.Fields.{unsigned_bytes, signed64_bytes}
use Rattle.bfs_node.specs.Search.{IsSought}
use Rattle.bfs_tree.specs.Listings.{code_of, key_in, key_of_attribute, key_of_bytes, of_length}
use Rattle.bfs_tree.specs.Trees.{Attribute, Indices, Node, HasBuiltIn, HasPlainIndices, is_file}

-- so many bytes are a number's
long : (n : ℕ) (bytes key : List ℕ) → of_length n bytes ≡ Some key → length key ≡ n
long n bytes key is = by_test (length bytes == n) refl is
  where
    by_test : (t : Bool) → (length bytes == n) ≡ t → cond t (Some bytes) None ≡ Some key → length key ≡ n
    by_test true e is = let same : bytes ≡ key = (let both : Some bytes ≡ Some key = is in cc) in subst (λ (k : List ℕ). length k ≡ n) same (grind (arith, e))
    by_test false e is = absurd (let bad : None ≡ Some key = is in cc)

bytes_sought : (kind : KeyKind) (bytes key : List ℕ) → key_of_bytes kind bytes ≡ Some key → IsSought kind key
bytes_sought Text bytes key is = tt
bytes_sought I32 bytes key is = long 4 bytes key is
bytes_sought U32 bytes key is = long 4 bytes key is
bytes_sought I64 bytes key is = long 8 bytes key is
bytes_sought U64 bytes key is = long 8 bytes key is
bytes_sought F32 bytes key is = absurd (let bad : None ≡ Some key = is in cc)
bytes_sought F64 bytes key is = absurd (let bad : None ≡ Some key = is in cc)

attribute_sought : (kind : KeyKind) (o : Option Attribute) (key : List ℕ) → option_and_then (key_of_attribute kind) o ≡ Some key → IsSought kind key
attribute_sought kind None key is = absurd (let bad : None ≡ Some key = is in cc)
attribute_sought kind (Some a) key is = by_test (a.code == code_of kind) is
  where
    by_test : (t : Bool) → cond t (key_of_bytes kind a.bytes) None ≡ Some key → IsSought kind key
    by_test true is = bytes_sought kind a.bytes key is
    by_test false is = absurd (let bad : None ≡ Some key = is in cc)

-- a key that an attribute gives, if it gives one
pub given_sought : (kind : KeyKind) (o : Option Attribute) (key : Option (List ℕ)) → key ≡ option_and_then (key_of_attribute kind) o → IfSome key (IsSought kind)
given_sought kind o None is = tt
given_sought kind o (Some key) is = attribute_sought kind o key (sym is)

-- a key of eight bytes, of a file
eight : (file : Bool) (bytes key : List ℕ) → length bytes ≡ 8 → cond file (Some bytes) None ≡ Some key → IsSought I64 key
eight true bytes key long is = let same : bytes ≡ key = (let both : Some bytes ≡ Some key = is in cc) in subst (λ (k : List ℕ). length k ≡ 8) same long
eight false bytes key long is = absurd (let bad : None ≡ Some key = is in cc)

-- a built-in index has its kind
built_in_kind : (indices : Indices) (name : List ℕ) (kind own : KeyKind) → (HasBuiltIn indices → get indices name ≡ Some own) → HasPlainIndices indices → get indices name ≡ Some kind → own ≡ kind
built_in_kind indices name kind own is (inl none) there = absurd (
    let gone : get indices name ≡ None = ap (λ (i : Indices). get i name) none ∙ get-empty text_cmp name in
    let bad : None ≡ Some kind = sym gone ∙ there in cc)
built_in_kind indices name kind own is (inr built) there = let both : Some own ≡ Some kind = sym (is built) ∙ there in cc

module _ (indices : Indices) (root : ℕ) (index : List ℕ) (kind : KeyKind) (id : ℕ) (n : Node) (key : List ℕ) (plain : HasPlainIndices indices) (there : get indices index ≡ Some kind) where
  kind_of : (name : List ℕ) (own : KeyKind) → bytes_eq index name ≡ true → (HasBuiltIn indices → get indices name ≡ Some own) → own ≡ kind
  kind_of name own e is = built_in_kind indices name kind own is plain (ap (get indices) (sym ((bytes_eq-Decides index name).0 e)) ∙ there)

  by_rest : (t : Bool) → bytes_eq index (codes "last_modified") ≡ t
      → cond t (cond (is_file n.kind) (Some (signed64_bytes n.modified)) None) (option_and_then (key_of_attribute kind) (get n.attributes index)) ≡ Some key → IsSought kind key
  by_rest true e is = subst (λ (k : KeyKind). IsSought k key) (kind_of (codes "last_modified") I64 e (λ b. b.by_time)) (eight (is_file n.kind) (signed64_bytes n.modified) key (length-signed64_bytes n.modified) is)
  by_rest false e is = attribute_sought kind (get n.attributes index) key is

  by_size : (t : Bool) → bytes_eq index (codes "size") ≡ t
      → cond t (cond (is_file n.kind) (Some (unsigned_bytes 8 n.size)) None)
      (cond (bytes_eq index (codes "last_modified")) (cond (is_file n.kind) (Some (signed64_bytes n.modified)) None) (option_and_then (key_of_attribute kind) (get n.attributes index))) ≡ Some key → IsSought kind key
  by_size true e is = subst (λ (k : KeyKind). IsSought k key) (kind_of (codes "size") I64 e (λ b. b.by_size)) (eight (is_file n.kind) (unsigned_bytes 8 n.size) key (length-unsigned_bytes 8 n.size) is)
  by_size false e is = by_rest (bytes_eq index (codes "last_modified")) refl is

  by_name : (t : Bool) → bytes_eq index (codes "name") ≡ t
      → cond t (cond (id == root) None (Some n.name))
      (cond (bytes_eq index (codes "size")) (cond (is_file n.kind) (Some (unsigned_bytes 8 n.size)) None)
      (cond (bytes_eq index (codes "last_modified")) (cond (is_file n.kind) (Some (signed64_bytes n.modified)) None) (option_and_then (key_of_attribute kind) (get n.attributes index)))) ≡ Some key → IsSought kind key
  by_name true e is = subst (λ (k : KeyKind). IsSought k key) (kind_of (codes "name") Text e (λ b. b.by_name)) tt
  by_name false e is = by_size (bytes_eq index (codes "size")) refl is

  pub key_sought : key_in root index kind id n ≡ Some key → IsSought kind key
  key_sought is = by_name (bytes_eq index (codes "name")) refl is
