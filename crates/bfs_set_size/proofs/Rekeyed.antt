-- An index lists a node under another key.
use Rattle.std.proofs.Common.{◌≡◌, ◌≢◌, ◌⊎◌, inl, inr, ℕ, ℤ, List, Option, Some, None, Bool, true, false, cond, codes, refl, sym, ap, ◌∙◌, subst}
use Rattle.std.specs.Prelude.{◌↔◌}
use Rattle.std.specs.FinMap.{get, get-empty}
use Rattle.std.specs.List.{Contains}
use Rattle.std.specs.List.Sorted.{IsStrictlySortedBy}
use Rattle.std.specs.Option.{option_and_then}
use Rattle.std.specs.Str.{bytes_eq}
use Rattle.std.proofs.lemmas.Slice.Eq.{bytes_eq-Decides}
use Rattle.bfs_base.specs.Keys.{text_cmp}
use Rattle.bfs_base.specs.declared.kind.KeyKind.{KeyKind}
use Rattle.bfs_base.specs.declared.kind.KeyKind.TheVariants.{Text, I64}
use Rattle.bfs_bytes.specs.Fields.{unsigned_bytes, signed64_bytes}
use Rattle.bfs_node.specs.Page.{Row}
use Rattle.bfs_pages.specs.Maps.{assoc}
use Rattle.bfs_tree.specs.Listings.{key_in, key_at, key_of_attribute, listed, pair_cmp, relisted, without_id}
use Rattle.bfs_tree.specs.Trees.{Node, Tree, IsNode, IsPlain, HasPlainIndices, HasBuiltIn, is_file}
use Rattle.bfs_tree.proofs.ListMoves.{listed-ascends, listed-has, listed-taken}
use Rattle.bfs_maps.specs.NumberTrees.{IsNumberAt}
use Rattle.bfs_shift.specs.Lists.{Lists, Agrees, with_pairs}
use Rattle.bfs_shift.specs.TreeLaws.{Rekeys}
use Rattle.bfs_shift.proofs.Following.{same_or_not}
use Rattle.bfs_shift.proofs.Leaves.{taken_none}
use Rattle.bfs_shift.proofs.Made.{taken_other}
use Rattle.bfs_shift.proofs.Parts.{lists_at}
use Rattle.bfs_moves.proofs.Keys.{listed_now, listed_more}
use Rattle.bfs_leave.specs.Leaving.{tree_without}
use Rattle.bfs_calls.specs.Made.{with_new}
use Rattle.bfs_set_size.specs.Relisted.{IsRelisting, resized_node}

module _ (tree : Tree) (lists : Lists) (id : ℕ) (n later : Node) (agrees : Agrees tree lists) (plain : IsPlain tree) (is : IsNode tree id n) where
  abbrev bare : Tree
  bare = tree_without tree id

  -- the pairs without the node, and with it under its new key
  abbrev pub left_of : List ℕ → List (List ℕ × ℕ)
  left_of index = without_id id (lists.pairs index)

  abbrev pub pairs_of : List ℕ → List (List ℕ × ℕ)
  pairs_of index = listed (with_new bare id later) index (lists.kinds index)

  -- the kind of a built-in index
  kind_of : (index : List ℕ) (of : KeyKind) → (HasBuiltIn tree.indices → get tree.indices index ≡ Some of) → (value : ℤ) → assoc Text lists.names index ≡ Some value → lists.kinds index ≡ of
  kind_of index of built value row = by_plain plain.indices
    where
      here : get tree.indices index ≡ Some (lists.kinds index)
      here = (agrees.indices index value row).kind

      by_plain : HasPlainIndices tree.indices → lists.kinds index ≡ of
      by_plain (inl none) = let bad : None ≡ Some (lists.kinds index) = sym (get-empty text_cmp index) ∙ sym (ap (λ m. get m index) none) ∙ here in absurd cc
      by_plain (inr b) = let both : Some of ≡ Some (lists.kinds index) = sym (built b) ∙ here in let same : lists.kinds index ≡ of = cc in same

  module _ (index : List ℕ) (value : ℤ) (row : assoc Text lists.names index ≡ Some value) (old new : List ℕ)
      (was : key_in tree.root index (lists.kinds index) id n ≡ Some old) (now : key_in tree.root index (lists.kinds index) id later ≡ Some new) where
    abbrev kind : KeyKind
    kind = lists.kinds index

    pairs_are : lists.pairs index ≡ listed tree index kind
    pairs_are = (agrees.indices index value row).pairs

    left_are : left_of index ≡ listed bare index kind
    left_are = ap (without_id id) pairs_are ∙ sym (listed-taken tree index kind id)

    key_here : key_at tree index kind id ≡ Some old
    key_here = ap (option_and_then (key_in tree.root index kind id)) is ∙ was

    key_gone : key_at bare index kind id ≡ None
    key_gone = ap (option_and_then (key_in tree.root index kind id)) (taken_none tree.nodes id)

    key_there : (q : ℕ) → q ≢ id → key_at bare index kind q ≡ key_at tree index kind q
    key_there q apart = ap (option_and_then (key_in tree.root index kind q)) (taken_other tree.nodes id q apart)

    less_on : (k : List ℕ) (q : ℕ) → Contains (left_of index) (k, q) → Contains (lists.pairs index) (k, q) × ((k ≡ old) × (q ≡ id) → ⊥)
    less_on k q there = by_id (same_or_not q id)
      where
        at : key_at bare index kind q ≡ Some k
        at = (listed-has bare index kind k q).0 (subst (λ (l : List (List ℕ × ℕ)). Contains l (k, q)) left_are there)

        by_id : (q ≡ id) ⊎ (q ≢ id) → Contains (lists.pairs index) (k, q) × ((k ≡ old) × (q ≡ id) → ⊥)
        by_id (inl e) = absurd (let bad : None ≡ Some k = sym key_gone ∙ sym (ap (key_at bare index kind) e) ∙ at in cc)
        by_id (inr apart) = (subst (λ (l : List (List ℕ × ℕ)). Contains l (k, q)) (sym pairs_are) ((listed-has tree index kind k q).1 (sym (key_there q apart) ∙ at)), λ both. apart both.1)

    less_back : (k : List ℕ) (q : ℕ) → Contains (lists.pairs index) (k, q) × ((k ≡ old) × (q ≡ id) → ⊥) → Contains (left_of index) (k, q)
    less_back k q h = by_id (same_or_not q id)
      where
        at : key_at tree index kind q ≡ Some k
        at = (listed-has tree index kind k q).0 (subst (λ (l : List (List ℕ × ℕ)). Contains l (k, q)) pairs_are h.0)

        by_id : (q ≡ id) ⊎ (q ≢ id) → Contains (left_of index) (k, q)
        by_id (inl e) = absurd (h.1 ((let both : Some k ≡ Some old = sym at ∙ ap (key_at tree index kind) e ∙ key_here in let same : k ≡ old = cc in same), e))
        by_id (inr apart) = subst (λ (l : List (List ℕ × ℕ)). Contains l (k, q)) (sym left_are) ((listed-has bare index kind k q).1 (key_there q apart ∙ at))

    left_sorted : IsStrictlySortedBy (pair_cmp kind) (left_of index)
    left_sorted = subst (λ (l : List (List ℕ × ℕ)). IsStrictlySortedBy (pair_cmp kind) l) (sym left_are) (listed-ascends bare index kind)

    pairs_sorted : IsStrictlySortedBy (pair_cmp kind) (pairs_of index)
    pairs_sorted = listed-ascends (with_new bare id later) index kind

    more_has : (k : List ℕ) (q : ℕ) → Contains (pairs_of index) (k, q) ↔ (Contains (left_of index) (k, q) ⊎ ((k ≡ new) × (q ≡ id)))
    more_has k q = listed_more bare id later index kind (left_of index) (taken_none tree.nodes id) left_are new now k q

    pub pairs_now : pairs_of index ≡ relisted kind id (key_in tree.root index kind id later) (lists.pairs index)
    pairs_now = listed_now bare id later index kind (left_of index) (taken_none tree.nodes id) left_are

  -- lists with the same names and kinds, and the same pairs of this index, are relisted so
  pub relists : (index : List ℕ) (of : KeyKind) (inode : Option ℕ) (old new : List ℕ) → (HasBuiltIn tree.indices → get tree.indices index ≡ Some of)
      → ((kind : KeyKind) → key_in tree.root index kind id n ≡ Some old) → ((kind : KeyKind) → key_in tree.root index kind id later ≡ Some new)
      → (begun : Lists) → begun.names ≡ lists.names → begun.kinds index ≡ lists.kinds index → begun.pairs index ≡ lists.pairs index → IsNumberAt Text lists.names index inode
      → IsRelisting begun index inode of old new id (left_of index) (pairs_of index)
  relists index of inode old new built was now begun names kinds pairs number = record {
    row = subst (λ (l : List Row). IsNumberAt Text l index inode) (sym names) number;
    kind_is = λ value row. kind_is value row;
    less = λ value row. (
      kind_is value row,
      subst (λ (x : KeyKind). IsStrictlySortedBy (pair_cmp x) (left_of index)) (number_kind value row) (left_sorted index value (row_of value row) old new (was (lists.kinds index)) (now (lists.kinds index))),
      λ k q. subst (λ (ps : List (List ℕ × ℕ)). Contains (left_of index) (k, q) ↔ (Contains ps (k, q) × ((k ≡ old) × (q ≡ id) → ⊥))) (sym pairs)
          (less_on index value (row_of value row) old new (was (lists.kinds index)) (now (lists.kinds index)) k q, less_back index value (row_of value row) old new (was (lists.kinds index)) (now (lists.kinds index)) k q),
    );
    more = λ value row. (
      kind_is value row,
      subst (λ (x : KeyKind). IsStrictlySortedBy (pair_cmp x) (pairs_of index)) (number_kind value row) (pairs_sorted index value (row_of value row) old new (was (lists.kinds index)) (now (lists.kinds index))),
      λ k q. subst (λ (ps : List (List ℕ × ℕ)). Contains (pairs_of index) (k, q) ↔ (Contains ps (k, q) ⊎ ((k ≡ new) × (q ≡ id)))) (sym ((lists_at begun).pairs_here index (left_of index)))
          (more_has index value (row_of value row) old new (was (lists.kinds index)) (now (lists.kinds index)) k q),
    );
  }
    where
      row_of : (value : ℤ) → assoc Text begun.names index ≡ Some value → assoc Text lists.names index ≡ Some value
      row_of value row = ap (λ (l : List Row). assoc Text l index) (sym names) ∙ row

      number_kind : (value : ℤ) → assoc Text begun.names index ≡ Some value → lists.kinds index ≡ of
      number_kind value row = kind_of index of built value (row_of value row)

      kind_is : (value : ℤ) → assoc Text begun.names index ≡ Some value → begun.kinds index ≡ of
      kind_is value row = kinds ∙ number_kind value row

-- a file's keys in the two indices
pub size_key : (root : ℕ) (kind : KeyKind) (id : ℕ) (n : Node) → is_file n.kind ≡ true → key_in root (codes "size") kind id n ≡ Some (unsigned_bytes 8 n.size)
size_key root kind id n file = ap (λ (b : Bool). cond b (Some (unsigned_bytes 8 n.size)) None) file

pub time_key : (root : ℕ) (kind : KeyKind) (id : ℕ) (n : Node) → is_file n.kind ≡ true → key_in root (codes "last_modified") kind id n ≡ Some (signed64_bytes n.modified)
time_key root kind id n file = ap (λ (b : Bool). cond b (Some (signed64_bytes n.modified)) None) file

-- the key by the tests of the index's name
key_by : ℕ → List ℕ → KeyKind → ℕ → Node → Bool → Bool → Option (List ℕ)
key_by root index kind id n s t =
    cond (bytes_eq index (codes "name")) (key_in root (codes "name") kind id n)
    (cond s (cond (is_file n.kind) (Some (unsigned_bytes 8 n.size)) None) (cond t (cond (is_file n.kind) (Some (signed64_bytes n.modified)) None) (option_and_then (key_of_attribute kind) (get n.attributes index))))

other_key : (root : ℕ) (index : List ℕ) (kind : KeyKind) (id : ℕ) (n : Node) (size : ℕ) (stamp : ℤ) → bytes_eq index (codes "size") ≡ false → bytes_eq index (codes "last_modified") ≡ false
    → key_in root index kind id (resized_node n size stamp) ≡ key_in root index kind id n
unfolding key_by
other_key root index kind id n size stamp s t =
    ap (λ (b : Bool). key_by root index kind id (resized_node n size stamp) b (bytes_eq index (codes "last_modified"))) s
    ∙ ap (λ (b : Bool). key_by root index kind id (resized_node n size stamp) false b) t
    ∙ sym (ap (λ (b : Bool). key_by root index kind id n b (bytes_eq index (codes "last_modified"))) s ∙ ap (λ (b : Bool). key_by root index kind id n false b) t)

module _ (tree : Tree) (lists : Lists) (id : ℕ) (n : Node) (size : ℕ) (stamp : ℤ) (agrees : Agrees tree lists) (plain : IsPlain tree) (is : IsNode tree id n) (file : is_file n.kind ≡ true) where
  abbrev later : Node
  later = resized_node n size stamp

  abbrev pub left_in : List ℕ → List (List ℕ × ℕ)
  left_in index = left_of tree lists id n later agrees plain is index

  abbrev pub pairs_in : List ℕ → List (List ℕ × ℕ)
  pairs_in index = pairs_of tree lists id n later agrees plain is index

  abbrev pub by_size : Lists
  by_size = with_pairs (with_pairs lists (codes "size") (left_in (codes "size"))) (codes "size") (pairs_in (codes "size"))

  abbrev pub by_time : Lists
  by_time = with_pairs (with_pairs by_size (codes "last_modified") (left_in (codes "last_modified"))) (codes "last_modified") (pairs_in (codes "last_modified"))

  pub size_relists : (inode : Option ℕ) → IsNumberAt Text lists.names (codes "size") inode → (old new : List ℕ) → old ≡ unsigned_bytes 8 n.size → new ≡ unsigned_bytes 8 size
      → IsRelisting lists (codes "size") inode I64 old new id (left_in (codes "size")) (pairs_in (codes "size"))
  size_relists inode at old new was now = relists tree lists id n later agrees plain is (codes "size") I64 inode old new (λ b. b.by_size) (λ kind. size_key tree.root kind id n file ∙ ap Some (sym was)) (λ kind. size_key tree.root kind id later file ∙ ap Some (sym now))
      lists refl refl refl at

  pub time_relists : (inode : Option ℕ) → IsNumberAt Text lists.names (codes "last_modified") inode → (old new : List ℕ) → old ≡ signed64_bytes n.modified → new ≡ signed64_bytes stamp
      → IsRelisting by_size (codes "last_modified") inode I64 old new id (left_in (codes "last_modified")) (pairs_in (codes "last_modified"))
  time_relists inode at old new was now = relists tree lists id n later agrees plain is (codes "last_modified") I64 inode old new (λ b. b.by_time) (λ kind. time_key tree.root kind id n file ∙ ap Some (sym was)) (λ kind. time_key tree.root kind id later file ∙ ap Some (sym now))
      by_size refl refl refl at

  -- the pairs are moved by the new key, or the key is the same and so are they
  abbrev Is : List ℕ → List (List ℕ × ℕ) → Type 0
  Is index pairs = (pairs ≡ relisted (lists.kinds index) id (key_in tree.root index (lists.kinds index) id later) (lists.pairs index))
      ⊎ ((key_in tree.root index (lists.kinds index) id later ≡ key_in tree.root index (lists.kinds index) id n) × (pairs ≡ lists.pairs index))

  pub rekeyed : Rekeys tree lists by_time id n later
  rekeyed = record { rows = λ d. refl; names = refl; kinds = λ index. refl; pairs = each }
    where
      here : (index other : List ℕ) (value : ℤ) → assoc Text lists.names index ≡ Some value → bytes_eq index other ≡ true → ((v : ℤ) → assoc Text lists.names other ≡ Some v → pairs_in other ≡ relisted (lists.kinds other) id (key_in tree.root other (lists.kinds other) id later) (lists.pairs other))
          → Is index (pairs_in other)
      here index other value row test at =
          let same : index ≡ other = (bytes_eq-Decides index other).0 test in
          inl (subst (λ (i : List ℕ). pairs_in other ≡ relisted (lists.kinds i) id (key_in tree.root i (lists.kinds i) id later) (lists.pairs i)) (sym same) (at value (ap (assoc Text lists.names) (sym same) ∙ row)))

      each : (index : List ℕ) (value : ℤ) → assoc Text lists.names index ≡ Some value → Is index (by_time.pairs index)
      each index value row = by_tests (bytes_eq index (codes "last_modified")) (bytes_eq index (codes "size")) refl refl
        where
          by_tests : (t s : Bool) → bytes_eq index (codes "last_modified") ≡ t → bytes_eq index (codes "size") ≡ s
              → Is index (cond t (pairs_in (codes "last_modified")) (cond t (left_in (codes "last_modified")) (cond s (pairs_in (codes "size")) (cond s (left_in (codes "size")) (lists.pairs index)))))
          by_tests true s et es = here index (codes "last_modified") value row et (λ v r. pairs_now tree lists id n later agrees plain is (codes "last_modified") v r (signed64_bytes n.modified) (signed64_bytes stamp) (time_key tree.root (lists.kinds (codes "last_modified")) id n file) (time_key tree.root (lists.kinds (codes "last_modified")) id later file))
          by_tests false true et es = here index (codes "size") value row es (λ v r. pairs_now tree lists id n later agrees plain is (codes "size") v r (unsigned_bytes 8 n.size) (unsigned_bytes 8 size) (size_key tree.root (lists.kinds (codes "size")) id n file) (size_key tree.root (lists.kinds (codes "size")) id later file))
          by_tests false false et es = inr (other_key tree.root index (lists.kinds index) id n size stamp es et, refl)
