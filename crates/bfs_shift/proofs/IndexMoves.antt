-- An index joins, and an index leaves.
use Rattle.std.proofs.Common.{◌≡◌, ◌≢◌, ◌+◌, ◌⊎◌, inl, inr, ℕ, ℤ, pos, List, [], ◌++◌, refl, sym, ap, ◌∙◌, subst, arith, Bool, true, false, cond, Some, None}
use Rattle.std.specs.List.{filter}
use Rattle.std.specs.Str.{bytes_eq}
use Rattle.std.proofs.lemmas.Slice.Eq.{bytes_eq-Decides}
use Rattle.bfs_base.specs.Lists.{times, AreSame}
use Rattle.bfs_base.specs.declared.kind.KeyKind.{KeyKind}
use Rattle.bfs_base.specs.declared.kind.KeyKind.TheVariants.{Text}
use Rattle.bfs_super.specs.Conditions.{natural}
use Rattle.bfs_node.specs.Page.{Row}
use Rattle.bfs_pages.specs.Maps.{assoc, put, without}
use Rattle.bfs_pages.specs.Ways.{KeysAscend}
use Rattle.bfs_stream.proofs.Doubles.{times-append}
use Rattle.bfs_tree.specs.Trees.{Tree}
use Rattle.bfs_values.specs.Rows.{rows_in}
use Rattle.bfs_values.specs.Reached.{IsWholeTree}
use Rattle.bfs_values.proofs.Rows.{rows_those}
use Rattle.bfs_values.proofs.RowLists.{rows-up}
use Rattle.bfs_sound.specs.Volumes.{Volume}
use Rattle.bfs_sound.specs.Inodes.{inode_blocks, content, is_proper, proper_rows}
use Rattle.bfs_sound.specs.Listings.{IsIndex, HasIndexDirectory}
use Rattle.bfs_sound.specs.Laws.{with_blocks}
use Rattle.bfs_maps.specs.Laws.{DiffersAt}
use Rattle.bfs_maps.proofs.MapLaws.{put_differs, taken_differs}
use Rattle.bfs_shift.specs.Lists.{Lists, with_names, with_index}
use Rattle.bfs_shift.specs.Stocked.{IsListing, Stocked, Shifts}
use Rattle.bfs_shift.specs.StreamLaws.{blocks_named, IsDirectoryNow}
use Rattle.bfs_shift.proofs.Puts.{kept_finds, kept_none, kept_differs, put_counts, taken_counts}
use Rattle.bfs_shift.proofs.Names.{is_there, names_before, names_changed}
use Rattle.bfs_shift.proofs.Made.{names_apart}
use Rattle.bfs_shift.proofs.Following.{named_or_not}

-- the rows of a whole tree ascend
pub ascends : (bytes : List ℕ) → IsWholeTree Text bytes → KeysAscend Text (rows_in Text bytes)
ascends bytes t = subst (KeysAscend Text) (rows_those Text bytes t.reached t.shape t.free t.tree) (rows-up Text bytes t.reached t.shape t.free t.tree)

module _ (v : Volume) (tree : Tree) (lists : Lists) (own loose : List ℕ) (new : ℕ → List ℕ) (name : List ℕ) (id : ℕ) (kind : KeyKind) (pairs : List (List ℕ × ℕ)) (stocked : Stocked v tree lists (own ++ loose)) (some : v.geometry.indices ≢ 0)
    (shifts : Shifts v new (inode_blocks v v.geometry.indices) (inode_blocks (with_blocks v new) v.geometry.indices)) (written : IsDirectoryNow v new v.geometry.indices) (proper : is_proper name ≡ true)
    (rows : rows_in Text (content (with_blocks v new) v.geometry.indices) ≡ put Text (rows_in Text (content v v.geometry.indices)) name (pos id)) (same : AreSame own (inode_blocks v id)) (listing : IsListing v id kind pairs) where
  abbrev before : List Row
  before = rows_in Text (content v v.geometry.indices)

  abbrev names : List Row
  names = proper_rows (with_blocks v new) v.geometry.indices

  abbrev now : Lists
  now = with_index (with_names lists names) name kind pairs

  old_names : proper_rows v v.geometry.indices ≡ lists.names
  old_names = names_before v tree lists (own ++ loose) stocked some

  pub joined_differs : DiffersAt Text lists.names names name (Some (pos id))
  joined_differs =
      subst (λ (l : List Row). DiffersAt Text l names name (Some (pos id))) old_names
      (kept_differs is_proper before (rows_in Text (content (with_blocks v new) v.geometry.indices)) name (Some (pos id)) proper
      (subst (λ (l : List Row). DiffersAt Text before l name (Some (pos id))) (sym rows) (put_differs Text before name (pos id))))

  counts : (k : ℕ) → times k (blocks_named v names) ≡ times k (inode_blocks v id) + times k (blocks_named v lists.names)
  counts k =
      ap (λ (l : List Row). times k (blocks_named v (filter (λ row. is_proper row.0) l))) rows
      ∙ put_counts is_proper (λ z. inode_blocks v (natural z)) k name proper before (pos id) ∙ ap (λ (l : List Row). times k (inode_blocks v id) + times k (blocks_named v l)) old_names

  blocks_same : AreSame (blocks_named v names ++ []) (blocks_named v lists.names ++ own)
  blocks_same k = let a = times-append k (blocks_named v names) [] in let b = times-append k (blocks_named v lists.names) own in let c = counts k in let d = same k in omega (arith, a, b, c, d)

  kind_at : (other : List ℕ) (t : Bool) → bytes_eq other name ≡ t → IsListing v id kind pairs → (value : ℤ) → (t ≡ false → IsListing v (natural value) (lists.kinds other) (lists.pairs other)) → (t ≡ true → value ≡ pos id)
      → IsListing v (natural value) (cond t kind (lists.kinds other)) (cond t pairs (lists.pairs other))
  kind_at other true e l value old number = subst (λ (z : ℤ). IsListing v (natural z) kind pairs) (sym (number refl)) l
  kind_at other false e l value old number = old refl

  listings : (other : List ℕ) (value : ℤ) → assoc Text names other ≡ Some value → IsListing v (natural value) (now.kinds other) (now.pairs other)
  listings other value at = kind_at other (bytes_eq other name) refl listing value
      (λ e. stocked.indices other value (sym (joined_differs.others other (names_apart other name (λ is. let t : bytes_eq other name ≡ true = (bytes_eq-Decides other name).1 is in let bad : true ≡ false = sym t ∙ e in cc))) ∙ at))
      (λ e. let is : other ≡ name = (bytes_eq-Decides other name).0 e in let both : Some value ≡ Some (pos id) = sym at ∙ ap (assoc Text names) is ∙ joined_differs.changed in cc)

  pub index_joined : Stocked (with_blocks v new) tree now loose
  index_joined = names_changed v tree lists now own [] loose new stocked some shifts written (λ d. refl) refl blocks_same listings

module _ (v : Volume) (tree : Tree) (lists : Lists) (loose : List ℕ) (new : ℕ → List ℕ) (name : List ℕ) (value : ℤ) (stocked : Stocked v tree lists loose) (some : v.geometry.indices ≢ 0) (there : assoc Text lists.names name ≡ Some value)
    (shifts : Shifts v new (inode_blocks v v.geometry.indices) (inode_blocks (with_blocks v new) v.geometry.indices)) (written : IsDirectoryNow v new v.geometry.indices)
    (rows : rows_in Text (content (with_blocks v new) v.geometry.indices) ≡ without Text (rows_in Text (content v v.geometry.indices)) name) where
  abbrev rows_before : List Row
  rows_before = rows_in Text (content v v.geometry.indices)

  abbrev names_now : List Row
  names_now = proper_rows (with_blocks v new) v.geometry.indices

  were : proper_rows v v.geometry.indices ≡ lists.names
  were = names_before v tree lists loose stocked some

  there_before : assoc Text (proper_rows v v.geometry.indices) name ≡ Some value
  there_before = subst (λ (l : List Row). assoc Text l name ≡ Some value) (sym were) there

  is_name : is_proper name ≡ true
  is_name = by_test (is_proper name) refl
    where
      by_test : (t : Bool) → is_proper name ≡ t → is_proper name ≡ true
      by_test true e = e
      by_test false e = absurd (let bad : None ≡ Some value = sym (kept_none is_proper rows_before name e) ∙ there_before in cc)

  found : assoc Text rows_before name ≡ Some value
  found = sym (kept_finds is_proper rows_before name is_name) ∙ there_before

  pub left_differs : DiffersAt Text lists.names names_now name None
  left_differs =
      subst (λ (l : List Row). DiffersAt Text l names_now name None) were
      (kept_differs is_proper rows_before (rows_in Text (content (with_blocks v new) v.geometry.indices)) name None is_name
      (subst (λ (l : List Row). DiffersAt Text rows_before l name None) (sym rows) (taken_differs Text rows_before name)))

  directory : IsIndex v v.geometry.indices Text
  directory = subst (HasIndexDirectory v) (is_there v some) stocked.directory

  left_counts : (k : ℕ) → times k (blocks_named v names_now) + times k (inode_blocks v (natural value)) ≡ times k (blocks_named v lists.names)
  left_counts k =
      ap (λ (l : List Row). times k (blocks_named v (filter (λ row. is_proper row.0) l)) + times k (inode_blocks v (natural value))) rows
      ∙ taken_counts is_proper (λ z. inode_blocks v (natural z)) k name is_name rows_before value (ascends (content v v.geometry.indices) directory.tree) found ∙ ap (λ (l : List Row). times k (blocks_named v l)) were

  left_same : AreSame (blocks_named v names_now ++ inode_blocks v (natural value)) (blocks_named v lists.names ++ [])
  left_same k = let a = times-append k (blocks_named v names_now) (inode_blocks v (natural value)) in let b = times-append k (blocks_named v lists.names) [] in let c = left_counts k in omega (arith, a, b, c)

  left_listings : (other : List ℕ) (number : ℤ) → assoc Text names_now other ≡ Some number → IsListing v (natural number) (lists.kinds other) (lists.pairs other)
  left_listings other number at = by_name (named_or_not other name)
    where
      by_name : (other ≡ name) ⊎ (other ≢ name) → IsListing v (natural number) (lists.kinds other) (lists.pairs other)
      by_name (inl is) = absurd (let bad : None ≡ Some number = sym left_differs.changed ∙ ap (assoc Text names_now) (sym is) ∙ at in cc)
      by_name (inr apart) = stocked.indices other number (sym (left_differs.others other (names_apart other name apart)) ∙ at)

  pub index_left : Stocked (with_blocks v new) tree (with_names lists names_now) (inode_blocks v (natural value) ++ loose)
  index_left = names_changed v tree lists (with_names lists names_now) [] (inode_blocks v (natural value)) loose new stocked some shifts written (λ d. refl) refl left_same left_listings
