-- What an index lists, where its pairs are those that are wanted, and what is said where they differ.
use Rattle.std.proofs.Common.{◌≡◌, ◌∙◌, ◌<◌, inl, inr, ℕ, zero, suc, ℤ, pos, List, [], ◌∷◌, ◌++◌, length, get_or, arith, map, Option, Some, None, Bool, true, false, cond, refl, sym, ap, subst, subst₂}
use Rattle.std.specs.FinMap.{get, entries}
use Rattle.std.specs.List.{flat_map}
use Rattle.std.specs.List.Sorted.{IsStrictlySortedBy}
use Rattle.std.specs.Option.{option_and_then}
use Rattle.bfs_base.specs.Keys.{IsTreeKind}
use Rattle.bfs_base.specs.declared.kind.KeyKind.{KeyKind}
use Rattle.bfs_base.specs.declared.kind.KeyKind.TheVariants.{Text}
use Rattle.bfs_index.proofs.PairLists.{in_contains}
use Rattle.bfs_index.proofs.Rising.{pairs_up}
use Rattle.bfs_node.specs.Search.{IsSought}
use Rattle.bfs_node_key.proofs.Sought.{key_sought}
use Rattle.bfs_super.specs.Conditions.{natural}
use Rattle.bfs_pages.specs.Maps.{assoc}
use Rattle.bfs_pages.specs.Order.{same_keys}
use Rattle.bfs_tree.specs.Listings.{key_in, listed, listed_among, pair_cmp}
use Rattle.bfs_tree.specs.Trees.{Node, Tree, HasBuiltIn, HasPlainIndices}
use Rattle.bfs_tree.proofs.ListMoves.{listed-ascends, listed-has}
use Rattle.bfs_values.specs.Reached.{AreWritten, pairs_of}
use Rattle.bfs_values.specs.Rows.{rows_in}
use Rattle.bfs_sound.specs.Volumes.{Volume}
use Rattle.bfs_sound.specs.Inodes.{content}
use Rattle.bfs_sound.specs.Owners.{In}
use Rattle.bfs_sound.specs.Whole.{HasIndices}
use Rattle.bfs_finding.specs.TreeFaults.{HasTree}
use Rattle.bfs_finding.proofs.Rows.{all_in, text_same}
use Rattle.bfs_tour.specs.Tours.{Visit, toured_tree}
use Rattle.bfs_key_walk.specs.Gathered.{IsUnread}
use Rattle.bfs_key_walk.specs.NodeLead.{NodeLead}
use Rattle.bfs_inode_walk.specs.Visited.{IsTrueOf, IsUntaken}
use Rattle.bfs_inode_walk.specs.declared.fault.VisitFault.{VisitFault}
use Rattle.bfs_inode_walk.specs.declared.fault.VisitFault.TheVariants.{Wrong, Taken, Block}
use Rattle.bfs_index_check.specs.Compared.{Pair, Ascends, IsDifference}
use Rattle.bfs_index_check.proofs.Unlisted.{said}
use Rattle.bfs_index_walk.specs.declared.found.FoundIndex.{FoundIndex}
use Rattle.bfs_index_walk.specs.Indices.{as_row, kinds_of}
use Rattle.bfs_indices_check.specs.Listed.{IsWalkedWhole, ListsAll, AllListed, IsTrueWith, IsToldOf}
use Rattle.bfs_indices_check.proofs.Rowed.{pairs_sought}
use Rattle.bfs_indices_check.proofs.Placing.{is_index, is_at, has_kind, row_in}

-- a key that the tree lists can be looked for in an index of the kind
module _ (tree : Tree) (index : List ℕ) (kind : KeyKind) (plain : HasPlainIndices tree.indices) (there : get tree.indices index ≡ Some kind) where
  by_node : (id : ℕ) (o : Option Node) (key : List ℕ) → option_and_then (key_in tree.root index kind id) o ≡ Some key → IsSought kind key
  by_node id None key is = absurd (let bad : None ≡ Some key = is in cc)
  by_node id (Some n) key is = key_sought tree.indices tree.root index kind id n key plain there is

  wanted_sought : (p : Pair) → In p (listed tree index kind) → IsSought kind p.0
  wanted_sought p h = by_node p.1 (get tree.nodes p.1) p.0 ((listed-has tree index kind p.0 p.1).0 (in_contains (listed tree index kind) p h))

module _ (v : Volume) (at : ℕ) (leads : List NodeLead) (found : List FoundIndex) (top : Visit) (visits : List Visit) (w : IsWalkedWhole v at leads found top visits) (i : FoundIndex) (there : In i found) where
  abbrev whole : Tree
  whole = toured_tree v top visits (kinds_of found)

  abbrev in_index : List Pair
  in_index = flat_map (pairs_of (content v i.id)) (rows_in i.kind (content v i.id))

  pub wanted_is : (wanted : List Pair) → wanted ≡ listed_among at i.name i.kind (entries whole.nodes) → wanted ≡ listed whole i.name i.kind
  wanted_is wanted e = e ∙ ap (λ (r : ℕ). listed_among r i.name i.kind (entries whole.nodes)) w.nodes.root

  pub lists : (wanted rows : List Pair) → AreWritten (content v i.id) (rows_in i.kind (content v i.id)) rows → wanted ≡ listed whole i.name i.kind → wanted ≡ rows → ListsAll v whole i
  lists wanted rows written is same = subst (AreWritten (content v i.id) (rows_in i.kind (content v i.id))) (sym same ∙ is) written

  pub wanted_up : (wanted : List Pair) → wanted ≡ listed whole i.name i.kind → Ascends i.kind wanted
  wanted_up wanted is = subst (IsStrictlySortedBy (pair_cmp i.kind)) (sym is) (listed-ascends whole i.name i.kind)

  pub found_up : (rows : List Pair) → AreWritten (content v i.id) (rows_in i.kind (content v i.id)) rows → Ascends i.kind rows
  found_up rows written = subst (IsStrictlySortedBy (pair_cmp i.kind)) (sym written.are) (pairs_up i.kind (content v i.id) (is_index v at leads found top visits w i there).tree)

  pub differs : (wanted rows : List Pair) → IsTreeKind i.kind → AreWritten (content v i.id) (rows_in i.kind (content v i.id)) rows → wanted ≡ listed whole i.name i.kind → HasBuiltIn whole.indices → (fault : VisitFault)
      → IsToldOf i.name i.kind wanted rows fault → IsTrueWith v whole fault
  differs wanted rows tree written is built (Wrong finding) told =
      let exact : IsDifference i.name i.kind (listed whole i.name i.kind) in_index finding = subst₂ (λ (ws fs : List Pair). IsDifference i.name i.kind ws fs finding) is written.are told in
      inr (said v whole i.name i.kind i.id (is_at v at leads found top visits w i there) (wanted_sought whole i.name i.kind (inr built) (has_kind v at leads found top visits w i there))
      (pairs_sought i.kind (content v i.id) tree (is_index v at leads found top visits w i there).tree) finding exact)
  differs wanted rows tree written is built (Taken block owner) told = absurd told
  differs wanted rows tree written is built (Block fault) told = tt

  pub has_tree : IsTreeKind i.kind → HasTree v i.id i.kind
  has_tree tree = inr ((i.name, row_in v at leads found top visits w i there), tree, (is_index v at leads found top visits w i there).tree.tree.header.kind_is)

-- ---- all of them

row_of : (found : List FoundIndex) (name : List ℕ) (value : ℤ) → assoc Text (map as_row found) name ≡ Some value → (i : FoundIndex) × In i found × (i.name ≡ name) × (pos i.id ≡ value)
row_of [] name value is = absurd (let bad : None ≡ Some value = is in cc)
row_of (x ∷ xs) name value is = by_test (same_keys Text name x.name) refl is (λ h. row_of xs name value h)
  where
    by_test : (c : Bool) → same_keys Text name x.name ≡ c → cond c (Some (pos x.id)) (assoc Text (map as_row xs) name) ≡ Some value
        → (assoc Text (map as_row xs) name ≡ Some value → (i : FoundIndex) × In i xs × (i.name ≡ name) × (pos i.id ≡ value)) → (i : FoundIndex) × In i (x ∷ xs) × (i.name ≡ name) × (pos i.id ≡ value)
    by_test true e is more = (x, inl refl, sym (text_same name x.name e), let both : Some (pos x.id) ≡ Some value = is in cc)
    by_test false e is more = let m = more is in (m.0, inr m.1, m.2, m.3)

module _ (v : Volume) (at : ℕ) (leads : List NodeLead) (found : List FoundIndex) (top : Visit) (visits : List Visit) (w : IsWalkedWhole v at leads found top visits) where
  pub all_indices : AllListed v (toured_tree v top visits (kinds_of found)) found → HasIndices v (toured_tree v top visits (kinds_of found))
  all_indices all name value kind row there =
      let tree : Tree = toured_tree v top visits (kinds_of found) in
      let r = row_of found name value (ap (λ rows. assoc Text rows name) w.indices.are ∙ row) in
      let i : FoundIndex = r.0 in
      let lists : ListsAll v tree i = all_in (ListsAll v tree) found i all r.1 in
      let own : get tree.indices name ≡ Some i.kind = ap (get tree.indices) (sym r.2) ∙ has_kind v at leads found top visits w i r.1 in
      let both : Some i.kind ≡ Some kind = sym own ∙ there in
      let same : i.kind ≡ kind = cc in
      let id : i.id ≡ natural value = ap natural r.3 in
      let named : AreWritten (content v i.id) (rows_in i.kind (content v i.id)) (listed tree name i.kind) = subst (λ (n : List ℕ). AreWritten (content v i.id) (rows_in i.kind (content v i.id)) (listed tree n i.kind)) r.2 lists in
      let kinded : AreWritten (content v i.id) (rows_in kind (content v i.id)) (listed tree name kind) = subst (λ (k : KeyKind). AreWritten (content v i.id) (rows_in k (content v i.id)) (listed tree name k)) same named in
      subst (λ (n : ℕ). AreWritten (content v n) (rows_in kind (content v n)) (listed tree name kind)) id kinded

-- what is said of an index's tree is true of the volume
pub true_with : (v : Volume) (tree : Tree) (fault : VisitFault) → IsTrueOf v fault → IsUntaken fault → IsTrueWith v tree fault
true_with v tree (Wrong finding) is untaken = inl is
true_with v tree (Taken block owner) is untaken = absurd untaken
true_with v tree (Block fault) is untaken = tt

-- where a block could not be had nothing is said
pub unread_with : (v : Volume) (tree : Tree) (fault : VisitFault) → IsUnread fault → IsTrueWith v tree fault
unread_with v tree (Wrong finding) is = absurd is
unread_with v tree (Taken block owner) is = absurd is
unread_with v tree (Block fault) is = tt

-- the next of the indices lists what it has to, and so do those before
pub more_listed : (v : Volume) (tree : Tree) (xs : List FoundIndex) (x : FoundIndex) → AllListed v tree xs → ListsAll v tree x → AllListed v tree (xs ++ (x ∷ []))
more_listed v tree [] x all one = (one, tt)
more_listed v tree (y ∷ ys) x all one = (all.0, more_listed v tree ys x all.1 one)

pub in_at : (xs : List FoundIndex) (i : ℕ) (x : FoundIndex) → i < length xs → x ≡ get_or xs i x → In x xs
in_at [] i x h e = absurd (omega (arith, h))
in_at (y ∷ ys) zero x h e = inl e
in_at (y ∷ ys) (suc i) x h e = inr (in_at ys i x (omega (arith, h)) e)
