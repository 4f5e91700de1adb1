-- What is known of the indices of a volume between two calls.
use Rattle.std.proofs.Common.{◌≡◌, ◌≢◌, ◌<◌, inl, inr, ℕ, ℤ, pos, List, [], ◌∷◌, refl, sym, ap, ◌∙◌, subst, arith, Bool, true, false, cond, Option, Some, None, map}
use Rattle.std.specs.Prelude.{◌==◌}
use Rattle.std.specs.List.{filter, AllByRecursion}
use Rattle.std.specs.FinMap.{get, entries}
use Rattle.bfs_base.specs.Lists.{times}
use Rattle.bfs_base.specs.declared.kind.KeyKind.{KeyKind}
use Rattle.bfs_base.specs.declared.kind.KeyKind.TheVariants.{Text}
use Rattle.bfs_super.specs.Conditions.{IsValid, natural}
use Rattle.bfs_super.specs.Geometry.{geometry_of}
use Rattle.bfs_super.specs.declared.geometry.Geometry.{Geometry}
use Rattle.bfs_super.specs.declared.sup.Super.{Super}
use Rattle.bfs_bitmap.specs.Runs.{Room}
use Rattle.bfs_node.specs.Page.{Row}
use Rattle.bfs_pages.specs.Maps.{assoc}
use Rattle.bfs_pages.specs.Order.{comes_before, same_keys}
use Rattle.bfs_pages.specs.Ways.{KeysAscend}
use Rattle.bfs_pages.proofs.KeyOrder.{same_itself, less_not_same}
use Rattle.bfs_range.specs.Ranges as range
use Rattle.bfs_stream.specs.Sizes.{Origin, sizes_of}
use Rattle.bfs_stream_pages.specs.GoesLaws.{readable}
use Rattle.bfs_stream_pages.specs.Held.{stream_of}
use Rattle.bfs_tree.specs.Answers.{rows_of_indices}
use Rattle.bfs_tree.specs.Trees.{Tree}
use Rattle.bfs_tree.specs.declared.rows.IndexRow.{IndexRow}
use Rattle.bfs_values.specs.Reached.{IsWholeTree}
use Rattle.bfs_values.specs.Rows.{rows_in}
use Rattle.bfs_maps.specs.Mapped.{HasHeld, HasReadable}
use Rattle.bfs_maps.specs.NumberTrees.{IsNumber}
use Rattle.bfs_sound.specs.Volumes.{Volume}
use Rattle.bfs_sound.specs.Inodes.{content, inode_blocks, is_proper, proper_rows, id_of, index_directory, rows_of}
use Rattle.bfs_sound.specs.Listings.{IsIndex, HasIndexDirectory}
use Rattle.bfs_attr.specs.Directories.{IsInodeRow, AreInodes, inode_rows}
use Rattle.bfs_attr.specs.declared.directory.InodeRow.{InodeRow}
use Rattle.bfs_attr.proofs.Listed.{all_between}
use Rattle.bfs_sound.proofs.Counts.{In}
use Rattle.bfs_shift.specs.Lists.{Lists}
use Rattle.bfs_shift.specs.Shifts.{volume_in}
use Rattle.bfs_shift.proofs.IndexMoves.{ascends}
use Rattle.bfs_shift.proofs.Names.{is_there}
use Rattle.bfs_shift.proofs.OneIndex.{found_row, own_first, same_name}
use Rattle.bfs_shift.proofs.Owners.{index_marked}
use Rattle.bfs_moves.proofs.Listed.{index_held}
use Rattle.bfs_look.specs.Ready.{IsReady}
use Rattle.bfs_look.proofs.Known.{few_blocks}
use Rattle.bfs_query.specs.Indices.{index_row, IsIndexRowOf}
use Rattle.bfs_query.proofs.Told.{entries_are}

-- what stays of a list passes
filtered : {X : Type 0} (p : X → Bool) (xs : List X) (x : X) → In x (filter p xs) → p x ≡ true
filtered p [] x i = absurd i
filtered {X} p (y ∷ ys) x i = by_test (p y) refl i (filtered p ys x)
  where
    by_test : (t : Bool) → p y ≡ t → In x (cond t (y ∷ filter p ys) (filter p ys)) → (In x (filter p ys) → p x ≡ true) → p x ≡ true
    by_test true e (inl same) rest = ap p same ∙ e
    by_test true e (inr j) rest = rest j
    by_test false e j rest = rest j

-- rows of a directory of inodes have proper names
rows_proper : (v : Volume) (o : Option ℕ) (names : List Row) → rows_of v o ≡ names → (name : List ℕ) (value : ℤ) → assoc Text names name ≡ Some value → is_proper name ≡ true
rows_proper v None names are name value row = absurd (let bad : None ≡ Some value = ap (λ (l : List Row). assoc Text l name) are ∙ row in cc)
rows_proper v (Some d) names are name value row =
    let there : assoc Text (proper_rows v d) name ≡ Some value = ap (λ (l : List Row). assoc Text l name) are ∙ row in
    let found = found_row (proper_rows v d) name value there in
    ap is_proper (sym found.2) ∙ filtered (λ (r : Row). is_proper r.0) (rows_in Text (content v d)) found.0 found.1

module _ (s : Super) (v : Room) (m : ℕ → Option (List ℕ)) (tree : Tree) (lists : Lists) (valid : IsValid s) (ready : IsReady (geometry_of s) v m tree lists) where
  abbrev g : Geometry
  g = geometry_of s

  abbrev was : Volume
  was = volume_in g m

  -- a name that no row may have has none
  pub improper_none : (name : List ℕ) → is_proper name ≡ false → assoc Text lists.names name ≡ None
  improper_none name bad = by_row (assoc Text lists.names name) refl
    where
      by_row : (o : Option ℤ) → assoc Text lists.names name ≡ o → assoc Text lists.names name ≡ None
      by_row None e = e
      by_row (Some value) e = absurd (let no' : true ≡ false = sym (rows_proper was (index_directory was) lists.names ready.work.stocked.names name value e) ∙ bad in cc)

  pub index_below : (name : List ℕ) (value : ℤ) → assoc Text lists.names name ≡ Some value → natural value < g.blocks
  index_below name value row = (index_marked g v m tree lists [] ready.work.stocked name value row (natural value) (let one = own_first was (natural value) in let r : 0 < times (natural value) (inode_blocks was (natural value)) = omega (arith, one) in r)).0

  pub index_number : (name : List ℕ) (value : ℤ) → assoc Text lists.names name ≡ Some value → IsNumber value
  index_number name value row = (natural value, (ready.agrees.indices name value row).number, (let low = index_below name value row in let few = few_blocks s valid in omega (arith, low, few)))

  -- where no row has a name, there is no index of it
  pub no_index : (name : List ℕ) → assoc Text lists.names name ≡ None → get tree.indices name ≡ None
  no_index name none = by_kind (get tree.indices name) refl
    where
      by_kind : (o : Option KeyKind) → get tree.indices name ≡ o → get tree.indices name ≡ None
      by_kind None e = e
      by_kind (Some kind) e = let row = ready.agrees.no_more name kind e in absurd (let bad : None ≡ Some row.0 = sym none ∙ row.1 in cc)

  module _ (name : List ℕ) (inode : ℕ) (row : assoc Text lists.names name ≡ Some (pos inode)) where
    abbrev o : Origin
    o = record { id = inode; sizes = sizes_of s }

    held : HasHeld o v m
    held = index_held s v m tree lists [] inode name valid ready.work row

    pub index_readable : HasReadable o m
    index_readable = (held.0, readable o v held.0 m held.1)

    pub index_tree : IsWholeTree (lists.kinds name) (stream_of o m)
    index_tree = (ready.work.stocked.indices name (pos inode) row).index.tree

    pub index_inside : inode < g.blocks
    index_inside = index_below name (pos inode) row

    pub index_there : get tree.indices name ≡ Some (lists.kinds name)
    index_there = (ready.agrees.indices name (pos inode) row).kind

-- ---- the rows of the index directory

filter_up : (p : Row → Bool) (rows : List Row) → KeysAscend Text rows → KeysAscend Text (filter p rows)
filter_up p [] up = tt
filter_up p (r ∷ rs) up = by_test (p r) (filter_up p rs up.1)
  where
    below : (k : List ℕ) (xs : List Row) → AllByRecursion (λ (s : Row). comes_before Text k s.0 ≡ true) xs → AllByRecursion (λ (s : Row). comes_before Text k s.0 ≡ true) (filter p xs)
    below k [] all = tt
    below k (x ∷ xs) all = elim (p x) as (λ t. AllByRecursion (λ (s : Row). comes_before Text k s.0 ≡ true) (cond t (x ∷ filter p xs) (filter p xs))) [ true ↦ (all.0, below k xs all.1) | false ↦ below k xs all.1 ]

    by_test : (t : Bool) → KeysAscend Text (filter p rs) → KeysAscend Text (cond t (r ∷ filter p rs) (filter p rs))
    by_test true rest = (below r.0 rs up.0, rest)
    by_test false rest = rest

-- each row of ascending rows is what its key finds
each_found : (P : Row → Type 0) (rows : List Row) → KeysAscend Text rows → ((name : List ℕ) (value : ℤ) → assoc Text rows name ≡ Some value → P (name, value)) → AllByRecursion P rows
each_found P [] up are = tt
each_found P (r ∷ rs) up are = (
  are r.0 r.1 (ap (λ b. cond b (Some r.1) (assoc Text rs r.0)) (same_itself Text r.0)),
  each_found P rs up.1 (λ name value found. are name value (ap (λ b. cond b (Some r.1) (assoc Text rs name)) (later name value found (same_keys Text name r.0) refl) ∙ found)),
)
  where
    above : (s : Row) (ss : List Row) → In s ss → AllByRecursion (λ (t : Row). comes_before Text r.0 t.0 ≡ true) ss → comes_before Text r.0 s.0 ≡ true
    above s [] i all = absurd i
    above s (t ∷ ss) (inl e) all = subst (λ (x : Row). comes_before Text r.0 x.0 ≡ true) (sym e) all.0
    above s (t ∷ ss) (inr i) all = above s ss i all.1

    later : (name : List ℕ) (value : ℤ) → assoc Text rs name ≡ Some value → (t : Bool) → same_keys Text name r.0 ≡ t → same_keys Text name r.0 ≡ false
    later name value found false e = e
    later name value found true e =
        let here : name ≡ r.0 = same_name name r.0 e in
        let s = found_row rs name value found in
        let less = above s.0 rs s.1 up.0 in
        let apart : same_keys Text r.0 s.0.0 ≡ false = less_not_same Text r.0 s.0.0 less in
        let same : same_keys Text r.0 s.0.0 ≡ true = ap (same_keys Text r.0) (s.2 ∙ here) ∙ same_itself Text r.0 in
        absurd (let bad : true ≡ false = sym same ∙ apart in cc)

map_all : {X Y : Type 0} (f : X → Y) (P : Y → Type 0) (xs : List X) → AllByRecursion (λ x. P (f x)) xs → AllByRecursion P (map f xs)
map_all f P [] all = tt
map_all f P (x ∷ xs) all = (all.0, map_all f P xs all.1)

module _ (s : Super) (v : Room) (m : ℕ → Option (List ℕ)) (tree : Tree) (lists : Lists) (valid : IsValid s) (ready : IsReady (geometry_of s) v m tree lists) (some : (geometry_of s).indices ≢ 0) where
  abbrev here : Volume
  here = volume_in (geometry_of s) m

  abbrev at : Origin
  at = record { id = (geometry_of s).indices; sizes = sizes_of s }

  directory_index : IsIndex here (geometry_of s).indices Text
  directory_index = subst (HasIndexDirectory here) (is_there here some) ready.work.stocked.directory

  pub names_tree : IsWholeTree Text (stream_of at m)
  names_tree = directory_index.tree

  -- the proper rows in its stream are the lists' names
  names_are : proper_rows here (geometry_of s).indices ≡ lists.names
  names_are = sym (ap (rows_of here) (is_there here some)) ∙ ready.work.stocked.names

  pub names_up : KeysAscend Text lists.names
  names_up = subst (KeysAscend Text) names_are (filter_up (λ (r : Row). is_proper r.0) (rows_in Text (content here (geometry_of s).indices)) (ascends (content here (geometry_of s).indices) names_tree))

  pub names_inodes : AreInodes (natural s.num_blocks) (rows_in Text (stream_of at m))
  names_inodes = subst (AllByRecursion (IsInodeRow (natural s.num_blocks))) (sym names_are)
      (each_found (IsInodeRow (natural s.num_blocks)) lists.names names_up (λ name value row. ((ready.agrees.indices name value row).number, index_below s v m tree lists valid ready name value row)))

  module _ (named : List InodeRow) (are : named ≡ inode_rows (range.rows_between Text None None (rows_in Text (stream_of at m)))) where
    abbrev inode_row : Row → InodeRow
    inode_row r = record { name = r.0; id = id_of r }

    pub named_are : named ≡ map inode_row lists.names
    named_are = are ∙ ap inode_rows (all_between (rows_in Text (stream_of at m))) ∙ ap (map inode_row) names_are

    pub named_rows : AllByRecursion (IsIndexRowOf lists) named
    named_rows = subst (AllByRecursion (IsIndexRowOf lists)) (sym named_are)
        (map_all inode_row (IsIndexRowOf lists) lists.names (each_found (λ (r : Row). IsIndexRowOf lists (inode_row r)) lists.names names_up (λ name value row. row ∙ ap (λ (z : ℤ). Some z) (ready.agrees.indices name value row).number)))

    rows_shown : (rows : List Row) → map (index_row lists) (map inode_row rows) ≡ map (λ (e : List ℕ × KeyKind). record { kind = e.1; name = e.0 }) (map (λ (r : Row). (r.0, lists.kinds r.0)) rows)
    rows_shown [] = refl
    rows_shown (r ∷ rs) = ap (λ (l : List IndexRow). record { kind = lists.kinds r.0; name = r.0 } ∷ l) (rows_shown rs)

    pub told_rows : map (index_row lists) named ≡ rows_of_indices (entries tree.indices)
    told_rows = ap (map (index_row lists)) named_are ∙ rows_shown lists.names ∙ ap rows_of_indices (entries_are lists.kinds tree lists ready.agrees refl names_up)

-- without an index directory there are no indices
pub no_indices : (s : Super) (v : Room) (m : ℕ → Option (List ℕ)) (tree : Tree) (lists : Lists) → IsReady (geometry_of s) v m tree lists → (geometry_of s).indices ≡ 0 → rows_of_indices (entries tree.indices) ≡ []
no_indices s v m tree lists ready none =
    let test : ((geometry_of s).indices == 0) ≡ true = grind (arith, none) in
    let gone : index_directory (volume_in (geometry_of s) m) ≡ None = ap (λ (t : Bool). cond t None (Some (geometry_of s).indices)) test in
    let names : lists.names ≡ [] = sym ready.work.stocked.names ∙ ap (rows_of (volume_in (geometry_of s) m)) gone in
    let up : KeysAscend Text lists.names = subst (KeysAscend Text) (sym names) tt in
    ap rows_of_indices (sym (entries_are lists.kinds tree lists ready.agrees refl up) ∙ ap (map (λ (r : Row). (r.0, lists.kinds r.0))) names)
