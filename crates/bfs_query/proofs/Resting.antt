-- A map that says what a volume's does of some blocks says the same of what stands there.
use Rattle.std.proofs.Common.{◌≡◌, ◌≢◌, ℕ, pos, List, [], ◌∷◌, Result, Ok, Err, MatchResult, map as each, refl, sym, ap, ◌∙◌, subst, arith, Bool, true, false, Option, Some, None, unwrap_or}
use Rattle.std.specs.Prelude.{◌==◌, ◌&&◌, IsSome}
use Rattle.std.specs.List.{AllByRecursion}
use Rattle.bfs_base.specs.Lists.{Has, Agree}
use Rattle.bfs_base.specs.declared.kind.KeyKind.{KeyKind}
use Rattle.bfs_base.specs.declared.kind.KeyKind.TheVariants.{Text}
use Rattle.bfs_super.specs.Conditions.{IsValid, block_of_run}
use Rattle.bfs_super.specs.Geometry.{geometry_of}
use Rattle.bfs_super.specs.declared.geometry.Geometry.{Geometry}
use Rattle.bfs_super.specs.declared.sup.Super.{Super}
use Rattle.bfs_bitmap.specs.Runs.{Room}
use Rattle.bfs_node.specs.Page.{Row}
use Rattle.bfs_txn.specs.Told.{AreSized}
use Rattle.bfs_pages.specs.Maps.{assoc}
use Rattle.bfs_stream.specs.Places.{Levels, arrays_of, places_of, levels_at, frame_at, places_at, whole_at, HasLevels}
use Rattle.bfs_stream.specs.Sizes.{Origin, sizes_of}
use Rattle.bfs_stream.specs.Told.{contents, AreTold}
use Rattle.bfs_stream.proofs.Frames.{agree_left, bytes_same, has_left, has_right, levels_same}
use Rattle.bfs_stream_pages.specs.Held.{stream_of}
use Rattle.bfs_node.specs.declared.fault.TreeFault.{TreeFault}
use Rattle.bfs_stream.specs.declared.fault.GrowFault.{GrowFault}
use Rattle.std.specs.FinMap.{get}
use Rattle.bfs_tree.specs.Listings.{rows_between, bytes_of_key, kind_of_key}
use Rattle.bfs_tree.specs.Refusals.{is_kind}
use Rattle.bfs_tree.specs.Trees.{Tree, Nodes}
use Rattle.bfs_tree.specs.declared.rows.FoundRow.{FoundRow}
use Rattle.bfs_tree.specs.declared.rows.Key.{Key}
use Rattle.bfs_values.specs.Reached.{IsWholeTree}
use Rattle.bfs_values.specs.Rows.{rows_in}
use Rattle.bfs_index.specs.Indices.{pairs_at, pairs_in, found_between}
use Rattle.bfs_index.specs.declared.found.Pair.{Pair}
use Rattle.bfs_maps.specs.Mapped.{HasReadable}
use Rattle.bfs_maps.specs.NumberTrees.{HoldsNumber, IsNumberAt}
use Rattle.bfs_maps.specs.Refused.{IsUndone}
use Rattle.bfs_sound.specs.Inodes.{is_proper}
use Rattle.bfs_shift.specs.Lists.{Lists}
use Rattle.bfs_shift.specs.Shifts.{volume_in}
use Rattle.bfs_shift.proofs.Names.{is_there}
use Rattle.bfs_moves.specs.IndexNames.{HasReadableNames, names_at}
use Rattle.bfs_moves.proofs.Found.{names_readable, names_hold, number_found, none_found}
use Rattle.bfs_look.specs.Ready.{IsReady}
use Rattle.bfs_query.specs.Indices.{AreNodes, IsIndexFound, row_found}
use Rattle.bfs_query.specs.Resting.{AreSaid, HasFound, SaysFound, SaysIndex, SaysInode}
use Rattle.bfs_query.specs.declared.kind.IndexAt.{IndexAt}
use Rattle.bfs_query.proofs.Between.{nodes_are, rows_are}
use Rattle.bfs_query.proofs.Indexed.{index_number, index_readable, index_there, index_tree}

-- ---- a stream, by its own blocks

module _ (o : Origin) (w m : ℕ → Option (List ℕ)) (same : (k : ℕ) → Has (whole_at o.sizes (contents w) o.id) k → m k ≡ w k) where
  agrees : Agree (contents w) (contents m) (whole_at o.sizes (contents w) o.id)
  agrees k h = ap (λ (x : Option (List ℕ)). unwrap_or x []) (same k h)

  levels : levels_at o.sizes (contents m) o.id ≡ levels_at o.sizes (contents w) o.id
  levels = levels_same (contents w) (contents m) o.sizes o.id (agree_left (contents w) (contents m) (frame_at o.sizes (contents w) o.id) (places_at o.sizes (contents w) o.id) agrees)

  pub stream_same : stream_of o m ≡ stream_of o w
  stream_same = bytes_same (contents w) (contents m) o.sizes o.id agrees

  told_same : (k : ℕ) → Has (whole_at o.sizes (contents w) o.id) k → IsSome (w k) → IsSome (m k)
  told_same k h some = subst (λ (x : Option (List ℕ)). IsSome x) (sym (same k h)) some

  frame_told : AreTold w (frame_at o.sizes (contents w) o.id) → AreTold m (frame_at o.sizes (contents m) o.id)
  frame_told told k h =
      let there : Has (frame_at o.sizes (contents w) o.id) k = subst (λ (l : Levels). Has (o.id ∷ arrays_of o.sizes l) k) levels h in
      told_same k (has_left (frame_at o.sizes (contents w) o.id) (places_at o.sizes (contents w) o.id) k there) (told k there)

  places_told : AreTold w (places_at o.sizes (contents w) o.id) → AreTold m (places_at o.sizes (contents m) o.id)
  places_told told k h =
      let there : Has (places_at o.sizes (contents w) o.id) k = subst (λ (l : Levels). Has (places_of o.sizes l) k) levels h in
      told_same k (has_right (frame_at o.sizes (contents w) o.id) (places_at o.sizes (contents w) o.id) k there) (told k there)

  pub readable_same : HasReadable o w → HasReadable o m
  readable_same can = (
    can.0,
    record {
      stands = record { told = frame_told can.1.stands.told; sound = subst (λ (l : Levels). HasLevels o.sizes l) (sym levels) can.1.stands.sound };
      told = places_told can.1.told;
      size = ap (λ (l : Levels). l.stream.size) levels ∙ can.1.size;
    },
  )

is_zero : (n : ℕ) → (n == 0) ≡ true → n ≡ 0
is_zero n e = grind (arith, e)

not_zero : (n : ℕ) → (n == 0) ≡ false → n ≢ 0
not_zero n e z = grind (arith, e, z)

-- ---- the index directory and an index

module _ (s : Super) (v : Room) (m w : ℕ → Option (List ℕ)) (tree : Tree) (lists : Lists) (valid : IsValid s) (ready : IsReady (geometry_of s) v w tree lists) (name : List ℕ)
    (says : SaysIndex (geometry_of s) w m name) where
  abbrev g : Geometry
  g = geometry_of s

  directory_said : block_of_run s s.indices ≢ 0 → SaysInode g w m g.indices
  directory_said there = says.directory g.indices (is_there (volume_in g w) there)

  pub names_read : HasReadableNames s m
  names_read there = readable_same (names_at s) w m (directory_said there) (names_readable s v w tree lists [] valid ready.work there)

  -- what a look-up of the name finds in the stream that the map tells
  pub named : is_proper name ≡ true → (result : Result (Option ℕ) (TreeFault GrowFault))
      → (block_of_run s s.indices ≢ 0 → HoldsNumber Text name (stream_of (names_at s) m) → MatchResult result (IsNumberAt Text (rows_in Text (stream_of (names_at s) m)) name) IsUndone)
      → (block_of_run s s.indices ≡ 0 → result ≡ Ok None) → MatchResult result (IsNumberAt Text lists.names name) IsUndone
  named proper result found none = by_test (block_of_run s s.indices == 0) refl
    where
      in_names : (there : block_of_run s s.indices ≢ 0) (r : Result (Option ℕ) (TreeFault GrowFault)) → MatchResult r (IsNumberAt Text (rows_in Text (stream_of (names_at s) m)) name) IsUndone → MatchResult r (IsNumberAt Text lists.names name) IsUndone
      in_names there (Ok at) is = number_found s v w tree lists [] valid ready.work there name proper at
          (subst (λ (bytes : List ℕ). IsNumberAt Text (rows_in Text bytes) name at) (stream_same (names_at s) w m (directory_said there)) is)
      in_names there (Err fault) is = is

      by_test : (t : Bool) → (block_of_run s s.indices == 0) ≡ t → MatchResult result (IsNumberAt Text lists.names name) IsUndone
      by_test true e =
          let gone = is_zero (block_of_run s s.indices) e in
          subst (λ (r : Result (Option ℕ) (TreeFault GrowFault)). MatchResult r (IsNumberAt Text lists.names name) IsUndone) (sym (none gone)) (none_found s v w tree lists [] valid ready.work name gone)
      by_test false e =
          let there = not_zero (block_of_run s s.indices) e in
          in_names there result (found there (subst (HoldsNumber Text name) (sym (stream_same (names_at s) w m (directory_said there)))
          (names_hold s v w tree lists [] valid ready.work there name proper (index_number s v w tree lists valid ready name))))

  module _ (inode : ℕ) (row : assoc Text lists.names name ≡ Some (pos inode)) where
    abbrev o : Origin
    o = record { id = inode; sizes = sizes_of s }

    index_said : SaysInode g w m inode
    index_said = says.index (pos inode) (ap (λ (l : List Row). assoc Text l name) ready.work.stocked.names ∙ row)

    pub index_read : HasReadable o m
    index_read = readable_same o w m index_said (index_readable s v w tree lists valid ready name inode row)

    pub index_stream : stream_of o m ≡ stream_of o w
    index_stream = stream_same o w m index_said

-- ---- the pairs of an index, and their nodes

said_pairs : (w m : ℕ → Option (List ℕ)) (nodes : Nodes) (kind : KeyKind) (pairs : List Pair) → AllByRecursion (λ (row : FoundRow). m row.id ≡ w row.id) (each (row_found nodes kind) pairs) → AllByRecursion (λ (pair : Pair). m pair.id ≡ w pair.id) pairs
said_pairs w m nodes kind [] all = tt
said_pairs w m nodes kind (pair ∷ pairs) all = (all.0, said_pairs w m nodes kind pairs all.1)

both_said : (w m : ℕ → Option (List ℕ)) (tree : Tree) (pairs : List Pair) → AreNodes tree pairs → AllByRecursion (λ (pair : Pair). m pair.id ≡ w pair.id) pairs → AreSaid w m tree pairs
both_said w m tree [] nodes said = tt
both_said w m tree (pair ∷ pairs) nodes said = ((nodes.0, said.0), both_said w m tree pairs nodes.1 said.1)

module _ (s : Super) (v : Room) (m w : ℕ → Option (List ℕ)) (tree : Tree) (lists : Lists) (valid : IsValid s) (ready : IsReady (geometry_of s) v w tree lists) (name : List ℕ) where
  pub tree_said : SaysIndex (geometry_of s) w m name → (at : IndexAt) → IsIndexFound lists name (Some at) → IsWholeTree at.kind (stream_of (record { id = at.inode; sizes = sizes_of s }) m)
  tree_said says at found =
      subst (IsWholeTree at.kind) (sym (index_stream s v m w tree lists valid ready name says at.inode found.0))
      (subst (λ (k : KeyKind). IsWholeTree k (stream_of (record { id = at.inode; sizes = sizes_of s }) w)) (sym found.1) (index_tree s v w tree lists valid ready name at.inode found.0))

  pub pairs_said : SaysIndex (geometry_of s) w m name → (at : IndexAt) → IsIndexFound lists name (Some at)
      → pairs_at (record { origin = record { id = at.inode; sizes = sizes_of s }; kind = at.kind }) m ≡ pairs_at (record { origin = record { id = at.inode; sizes = sizes_of s }; kind = at.kind }) w
  pairs_said says at found = ap (pairs_in at.kind) (index_stream s v m w tree lists valid ready name says at.inode found.0)

  module _ (at : IndexAt) (found : IsIndexFound lists name (Some at)) (low high : Key) (says : SaysFound (geometry_of s) w m tree name low high) where
    pub nodes_said : (is_kind (kind_of_key low) at.kind && is_kind (kind_of_key high) at.kind) ≡ true → (lows highs : List ℕ) (pairs : List Pair) → lows ≡ bytes_of_key low → highs ≡ bytes_of_key high
        → pairs ≡ found_between at.kind lows highs (pairs_at (record { origin = record { id = at.inode; sizes = sizes_of s }; kind = at.kind }) w) → AreSaid w m tree pairs
    nodes_said kinds lows highs pairs l h p =
        let kind : get tree.indices name ≡ Some at.kind = index_there s v w tree lists valid ready name at.inode found.0 ∙ ap (λ (k : KeyKind). Some k) (sym found.1) in
        let rows = rows_are s v w tree lists valid ready name at found low high lows highs pairs (each (row_found tree.nodes at.kind) pairs) l h p refl in
        both_said w m tree pairs (nodes_are s v w tree lists valid ready name at found lows highs pairs p)
        (said_pairs w m tree.nodes at.kind pairs (subst (AllByRecursion (λ (row : FoundRow). m row.id ≡ w row.id)) (sym rows) (says.nodes at.kind kind kinds)))

-- ---- a map says what it says

pub own_index : (g : Geometry) (m : ℕ → Option (List ℕ)) (name : List ℕ) → SaysIndex g m m name
own_index g m name = record { directory = λ id is k h. refl; index = λ value row k h. refl }

own_rows : (m : ℕ → Option (List ℕ)) (rows : List FoundRow) → AllByRecursion (λ (row : FoundRow). m row.id ≡ m row.id) rows
own_rows m [] = tt
own_rows m (row ∷ rows) = (refl, own_rows m rows)

pub own_found : (g : Geometry) (m : ℕ → Option (List ℕ)) (tree : Tree) (name : List ℕ) (low high : Key) → AreSized g.block_size (Some m) → SaysFound g m m tree name low high
own_found g m tree name low high sized = record {
  sized = sized;
  index = own_index g m name;
  nodes = λ kind is kinds. own_rows m (rows_between tree name kind low high);
}

-- so a volume that stands for a tree has what any search of it rests on
pub has_found : (g : Geometry) (v : Room) (m : ℕ → Option (List ℕ)) (tree : Tree) (lists : Lists) (name : List ℕ) (low high : Key) → AreSized g.block_size (Some m) → IsReady g v m tree lists → HasFound g m name low high
has_found g v m tree lists name low high sized ready = record { room = v; whole = m; tree = tree; lists = lists; ready = ready; says = own_found g m tree name low high sized }
