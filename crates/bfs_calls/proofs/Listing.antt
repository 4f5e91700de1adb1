-- What the indices list once a node has come.
use Rattle.std.proofs.Common.{◌≡◌, ◌⊎◌, inl, inr, ℕ, ℤ, pos, List, [], Option, Some, None, Bool, true, false, cond, codes, refl, sym, ap, ◌∙◌, subst}
use Rattle.std.specs.Prelude.{◌↔◌, IfSome}
use Rattle.std.specs.FinMap.{get, get-empty}
use Rattle.std.specs.List.{Contains}
use Rattle.std.specs.List.Sorted.{IsStrictlySortedBy}
use Rattle.std.specs.Str.{bytes_eq}
use Rattle.std.proofs.lemmas.Slice.Eq.{bytes_eq-Decides}
use Rattle.bfs_base.specs.Keys.{text_cmp}
use Rattle.bfs_base.specs.declared.kind.KeyKind.{KeyKind}
use Rattle.bfs_base.specs.declared.kind.KeyKind.TheVariants.{Text, I64}
use Rattle.bfs_bytes.specs.Fields.{unsigned_bytes, signed64_bytes}
use Rattle.bfs_super.specs.declared.geometry.Geometry.{Geometry}
use Rattle.bfs_bitmap.specs.Runs.{Room}
use Rattle.bfs_node.specs.Page.{Row}
use Rattle.bfs_pages.specs.Maps.{assoc}
use Rattle.bfs_tree.specs.Listings.{key_in, listed, pair_cmp, with_key}
use Rattle.bfs_tree.specs.declared.call.Kind.{Kind}
use Rattle.bfs_tree.specs.Trees.{Node, Tree, IsPlain, HasPlainIndices, HasBuiltIn, is_file}
use Rattle.bfs_maps.specs.NumberTrees.{IsNumberAt}
use Rattle.bfs_shift.specs.Lists.{Lists, Agrees, with_pairs}
use Rattle.bfs_shift.specs.TreeLaws.{new_key}
use Rattle.bfs_shift.specs.Work.{IsAtWork}
use Rattle.bfs_moves.specs.Written.{HasIndexAt, ListsMore}
use Rattle.bfs_moves.proofs.Keys.{node_is_listed}
use Rattle.bfs_calls.specs.Made.{IsFor, ListsNode, with_new}

-- the index of a name stands at the inode that was found, if it is there
pub index_at : (g : Geometry) (v : Room) (m : ℕ → Option (List ℕ)) (since : Tree) (begun : Lists) (index : List ℕ) (of : KeyKind) → IsAtWork g v m since begun [] → (o : Option ℕ) → IsNumberAt Text begun.names index o
    → ((value : ℤ) → assoc Text begun.names index ≡ Some value → begun.kinds index ≡ of) → IfSome o (λ inode. HasIndexAt g v m inode of)
index_at g v m since begun index of work None at kind = tt
index_at g v m since begun index of work (Some n) at kind = record { tree = since; lists = begun; loose = []; name = index; work = work; row = at; kind_is = kind (pos n) at }

pub number_again : (names rows : List Row) (index : List ℕ) (o : Option ℕ) → rows ≡ names → IsNumberAt Text names index o → IsNumberAt Text rows index o
number_again names rows index o same at = subst (λ (l : List Row). IsNumberAt Text l index o) (sym same) at

module _ (tree : Tree) (lists : Lists) (id : ℕ) (node : Node) (kind : Kind) (name : List ℕ) (stamp : ℤ) (agrees : Agrees tree lists) (plain : IsPlain tree) (absent : get tree.nodes id ≡ None) (is_for : IsFor tree id node kind name stamp) where
  abbrev pub pairs_of : List ℕ → List (List ℕ × ℕ)
  pairs_of index = listed (with_new tree id node) index (lists.kinds index)

  abbrev wanted : List ℕ → List (List ℕ × ℕ)
  wanted index = with_key (lists.kinds index) id (key_in tree.root index (lists.kinds index) id node) (lists.pairs index)

  -- the kind of a built-in index
  pub kind_of : (index : List ℕ) (of : KeyKind) → (HasBuiltIn tree.indices → get tree.indices index ≡ Some of) → (value : ℤ) → assoc Text lists.names index ≡ Some value → lists.kinds index ≡ of
  kind_of index of built value row = by_plain plain.indices
    where
      here : get tree.indices index ≡ Some (lists.kinds index)
      here = (agrees.indices index value row).kind

      by_plain : HasPlainIndices tree.indices → lists.kinds index ≡ of
      by_plain (inl none) = let bad : None ≡ Some (lists.kinds index) = sym (get-empty text_cmp index) ∙ sym (ap (λ m. get m index) none) ∙ here in absurd cc
      by_plain (inr b) = let both : Some of ≡ Some (lists.kinds index) = sym (built b) ∙ here in let same : lists.kinds index ≡ of = cc in same

  pub lists_more : (index : List ℕ) (of : KeyKind) (key : List ℕ) → (HasBuiltIn tree.indices → get tree.indices index ≡ Some of) → new_key index kind name 0 stamp ≡ Some key
      → (now : Lists) → now.names ≡ lists.names → now.kinds index ≡ lists.kinds index → now.pairs index ≡ lists.pairs index → ListsMore now of index key id (pairs_of index)
  lists_more index of key built new now names kinds pairs value row =
      let at : assoc Text lists.names index ≡ Some value = ap (λ (l : List Row). assoc Text l index) (sym names) ∙ row in
      let k : lists.kinds index ≡ of = kind_of index of built value at in
      let l = node_is_listed tree lists id node index value key absent agrees at (is_for.keys index (lists.kinds index) ∙ new) in (
        kinds ∙ k,
        subst (λ (x : KeyKind). IsStrictlySortedBy (pair_cmp x) (pairs_of index)) k l.sorted,
        λ x n. subst (λ (ps : List (List ℕ × ℕ)). Contains (pairs_of index) (x, n) ↔ (Contains ps (x, n) ⊎ ((x ≡ key) × (n ≡ id)))) (sym pairs) (l.has x n),
      )

  came : (index : List ℕ) (key : List ℕ) (value : ℤ) → assoc Text lists.names index ≡ Some value → new_key index kind name 0 stamp ≡ Some key → pairs_of index ≡ wanted index
  came index key value row new =
      let has : key_in tree.root index (lists.kinds index) id node ≡ Some key = is_for.keys index (lists.kinds index) ∙ new in
      (node_is_listed tree lists id node index value key absent agrees row has).is ∙ ap (λ (o : Option (List ℕ)). with_key (lists.kinds index) id o (lists.pairs index)) (sym has)

  -- an index that lists the node under no key stays
  stays : (index : List ℕ) → new_key index kind name 0 stamp ≡ None → lists.pairs index ≡ wanted index
  stays index none = ap (λ (o : Option (List ℕ)). with_key (lists.kinds index) id o (lists.pairs index)) (sym (is_for.keys index (lists.kinds index) ∙ none))

  here : (index other : List ℕ) (pairs : List (List ℕ × ℕ)) (value : ℤ) → assoc Text lists.names index ≡ Some value → bytes_eq index other ≡ true → ((v : ℤ) → assoc Text lists.names other ≡ Some v → pairs ≡ wanted other) → pairs ≡ wanted index
  here index other pairs value row test at =
      let same : index ≡ other = (bytes_eq-Decides index other).0 test in
      subst (λ (i : List ℕ). pairs ≡ wanted i) (sym same) (at value (ap (assoc Text lists.names) (sym same) ∙ row))

  -- the key of a new node by the tests of the index's name
  key_by : Bool → Bool → Bool → Bool → Option (List ℕ)
  key_by n s t file = cond n (Some name) (cond s (cond file (Some (unsigned_bytes 8 0)) None) (cond t (cond file (Some (signed64_bytes stamp)) None) None))

  no_key : (index : List ℕ) → bytes_eq index (codes "name") ≡ false → bytes_eq index (codes "size") ≡ false → bytes_eq index (codes "last_modified") ≡ false → new_key index kind name 0 stamp ≡ None
  unfolding key_by
  no_key index n s t =
      ap (λ (b : Bool). key_by b (bytes_eq index (codes "size")) (bytes_eq index (codes "last_modified")) (is_file kind)) n
      ∙ ap (λ (b : Bool). key_by false b (bytes_eq index (codes "last_modified")) (is_file kind)) s
      ∙ ap (λ (b : Bool). key_by false false b (is_file kind)) t

  no_file_key : (index : List ℕ) → is_file kind ≡ false → bytes_eq index (codes "name") ≡ false → new_key index kind name 0 stamp ≡ None
  unfolding key_by
  no_file_key index none n =
      ap (λ (b : Bool). key_by b (bytes_eq index (codes "size")) (bytes_eq index (codes "last_modified")) (is_file kind)) n
      ∙ ap (λ (f : Bool). key_by false (bytes_eq index (codes "size")) (bytes_eq index (codes "last_modified")) f) none
      ∙ by_tests (bytes_eq index (codes "size")) (bytes_eq index (codes "last_modified"))
    where
      by_tests : (s t : Bool) → key_by false s t false ≡ None
      by_tests true t = refl
      by_tests false true = refl
      by_tests false false = refl

  pub name_key : new_key (codes "name") kind name 0 stamp ≡ Some name
  name_key = refl

  pub size_key : is_file kind ≡ true → new_key (codes "size") kind name 0 stamp ≡ Some (unsigned_bytes 8 0)
  size_key file = ap (λ (b : Bool). cond b (Some (unsigned_bytes 8 0)) None) file

  pub time_key : is_file kind ≡ true → new_key (codes "last_modified") kind name 0 stamp ≡ Some (signed64_bytes stamp)
  time_key file = ap (λ (b : Bool). cond b (Some (signed64_bytes stamp)) None) file

  -- the same of lists that have the same names and kinds
  pub kind_since : (begun : Lists) → begun.names ≡ lists.names → ((index : List ℕ) → begun.kinds index ≡ lists.kinds index) → (index : List ℕ) (of : KeyKind) → (HasBuiltIn tree.indices → get tree.indices index ≡ Some of)
      → (value : ℤ) → assoc Text begun.names index ≡ Some value → begun.kinds index ≡ of
  kind_since begun names kinds index of built value row = kinds index ∙ kind_of index of built value (ap (λ (l : List Row). assoc Text l index) (sym names) ∙ row)

  module _ (begun : Lists) (same : (index : List ℕ) → begun.pairs index ≡ lists.pairs index) where
    abbrev pub by_name : Lists
    by_name = with_pairs begun (codes "name") (pairs_of (codes "name"))

    abbrev pub by_size : Lists
    by_size = with_pairs by_name (codes "size") (pairs_of (codes "size"))

    abbrev pub by_time : Lists
    by_time = with_pairs by_size (codes "last_modified") (pairs_of (codes "last_modified"))

    pub other_listed : is_file kind ≡ false → ListsNode tree lists begun by_name id node
    other_listed none = record { rows = λ k. refl; names = refl; kinds = λ index. refl; pairs = each }
      where
        each : (index : List ℕ) (value : ℤ) → assoc Text lists.names index ≡ Some value → by_name.pairs index ≡ wanted index
        each index value row = by_test (bytes_eq index (codes "name")) refl
          where
            by_test : (n : Bool) → bytes_eq index (codes "name") ≡ n → cond n (pairs_of (codes "name")) (begun.pairs index) ≡ wanted index
            by_test true e = here index (codes "name") (pairs_of (codes "name")) value row e (λ v r. came (codes "name") name v r name_key)
            by_test false e = same index ∙ stays index (no_file_key index none e)

    pub file_listed : is_file kind ≡ true → ListsNode tree lists begun by_time id node
    file_listed file = record { rows = λ k. refl; names = refl; kinds = λ index. refl; pairs = each }
      where
        each : (index : List ℕ) (value : ℤ) → assoc Text lists.names index ≡ Some value → by_time.pairs index ≡ wanted index
        each index value row = by_tests (bytes_eq index (codes "last_modified")) (bytes_eq index (codes "size")) (bytes_eq index (codes "name")) refl refl refl
          where
            by_tests : (t s n : Bool) → bytes_eq index (codes "last_modified") ≡ t → bytes_eq index (codes "size") ≡ s → bytes_eq index (codes "name") ≡ n
                → cond t (pairs_of (codes "last_modified")) (cond s (pairs_of (codes "size")) (cond n (pairs_of (codes "name")) (begun.pairs index))) ≡ wanted index
            by_tests true s n et es en = here index (codes "last_modified") (pairs_of (codes "last_modified")) value row et (λ v r. came (codes "last_modified") (signed64_bytes stamp) v r (time_key file))
            by_tests false true n et es en = here index (codes "size") (pairs_of (codes "size")) value row es (λ v r. came (codes "size") (unsigned_bytes 8 0) v r (size_key file))
            by_tests false false true et es en = here index (codes "name") (pairs_of (codes "name")) value row en (λ v r. came (codes "name") name v r name_key)
            by_tests false false false et es en = same index ∙ stays index (no_key index en es et)

    -- what each of the three lists then
    module _ (names : begun.names ≡ lists.names) (kinds : (index : List ℕ) → begun.kinds index ≡ lists.kinds index) where
      pub name_more : ListsMore begun Text (codes "name") name id (pairs_of (codes "name"))
      name_more = lists_more (codes "name") Text name (λ b. b.by_name) name_key begun names (kinds (codes "name")) (same (codes "name"))

      pub size_more : is_file kind ≡ true → (key : List ℕ) → key ≡ unsigned_bytes 8 0 → ListsMore by_name I64 (codes "size") key id (pairs_of (codes "size"))
      size_more file key is =
          subst (λ (k : List ℕ). ListsMore by_name I64 (codes "size") k id (pairs_of (codes "size"))) (sym is)
          (lists_more (codes "size") I64 (unsigned_bytes 8 0) (λ b. b.by_size) (size_key file) by_name names (kinds (codes "size")) (same (codes "size")))

      pub time_more : is_file kind ≡ true → (key : List ℕ) → key ≡ signed64_bytes stamp → ListsMore by_size I64 (codes "last_modified") key id (pairs_of (codes "last_modified"))
      time_more file key is =
          subst (λ (k : List ℕ). ListsMore by_size I64 (codes "last_modified") k id (pairs_of (codes "last_modified"))) (sym is)
          (lists_more (codes "last_modified") I64 (signed64_bytes stamp) (λ b. b.by_time) (time_key file) by_size names (kinds (codes "last_modified")) (same (codes "last_modified")))
