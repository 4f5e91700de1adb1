-- An index's pairs were changed.
use Rattle.std.proofs.Common.{◌≡◌, ◌≤◌, ◌<◌, ◌+◌, ◌↔◌, ◌⊎◌, inr, ℕ, ℤ, pos, List, ◌++◌, ap, ◌∙◌, subst, arith, Bool, true, Option, Some, None, map}
use Rattle.std.specs.List.{flat_map, Contains}
use Rattle.std.specs.List.Sorted.{IsStrictlySortedBy}
use Rattle.std.specs.FinMap.{entries}
use Rattle.bfs_base.specs.Lists.{times, Has}
use Rattle.bfs_base.specs.declared.kind.KeyKind.{KeyKind}
use Rattle.bfs_base.specs.declared.kind.KeyKind.TheVariants.{Text}
use Rattle.bfs_super.specs.Conditions.{IsValid, natural}
use Rattle.bfs_super.specs.Geometry.{geometry_of}
use Rattle.bfs_super.specs.declared.geometry.Geometry.{Geometry}
use Rattle.bfs_super.specs.declared.sup.Super.{Super}
use Rattle.bfs_bitmap.specs.Runs.{Room}
use Rattle.bfs_node.specs.Page.{Row}
use Rattle.bfs_node.specs.declared.fault.TreeFault.{TreeFault}
use Rattle.bfs_node.specs.declared.fault.TreeFault.TheVariants as fault
use Rattle.bfs_pages.specs.Maps.{assoc}
use Rattle.bfs_pages.specs.Order.{Key}
use Rattle.bfs_stream.specs.Sizes.{Origin, sizes_of}
use Rattle.bfs_stream.specs.Told.{contents, AreTold}
use Rattle.bfs_stream.specs.declared.fault.GrowFault.{GrowFault}
use Rattle.bfs_stream.proofs.Doubles.{times-append}
use Rattle.bfs_stream_pages.specs.Held.{stream_of}
use Rattle.bfs_stream_pages.specs.Moves.{Moved}
use Rattle.bfs_tree.specs.Listings.{pair_cmp}
use Rattle.bfs_tree.specs.Trees.{Node, Tree, is_file}
use Rattle.bfs_values.specs.Rows.{rows_in}
use Rattle.bfs_values.specs.Reached.{IsWholeTree, AreWritten}
use Rattle.bfs_make.specs.Mapped.{HasHeld}
use Rattle.bfs_make.specs.Refused.{IsUndone}
use Rattle.bfs_index.specs.Indices.{IsIndex, HasWith, HasWithout}
use Rattle.bfs_index.specs.Refused.{IsPairFault}
use Rattle.bfs_index.proofs.Rising.{added_written, taken_written}
use Rattle.bfs_sound.specs.Volumes.{Volume, bitmap_blocks, IsMarked}
use Rattle.bfs_sound.specs.Inodes.{content, inode_blocks, inodes_of, index_directory, proper_rows, rows_of, id_of}
use Rattle.bfs_sound.specs.Owners.{node_blocks, index_blocks, file_data, reach}
use Rattle.bfs_sound.proofs.Counts.{In, in_map, times_member}
use Rattle.bfs_shift.specs.Lists.{Lists, with_pairs}
use Rattle.bfs_shift.specs.Stocked.{Stocked}
use Rattle.bfs_shift.specs.Shifts.{volume_in}
use Rattle.bfs_shift.specs.Inodes.{HasBytes}
use Rattle.bfs_shift.proofs.Held.{owner_held}
use Rattle.bfs_shift.proofs.Maps.{index_has_pairs}
use Rattle.bfs_shift.proofs.Moving.{all_parts}
use Rattle.bfs_shift.proofs.OneIndex.{found_row}
use Rattle.bfs_shift.proofs.Owners.{index_owns, index_marked}
use Rattle.bfs_shift.specs.Work.{IsAtWork, IsStepped, MayBeWritten}
use Rattle.bfs_moves.specs.Written.{HasBlockWords, HasStreamSince}
use Rattle.bfs_shift.proofs.Basics.{some_bytes}
use Rattle.bfs_shift.proofs.Files.{all_split, unfiled}
use Rattle.bfs_moves.proofs.Named.{failed_of}
use Rattle.bfs_moves.proofs.Streamed.{streamed_step}

-- a read that failed is a fault of a call on pairs
pub undone_pair : (o : Origin) (v now : Room) (m map : ℕ → Option (List ℕ)) → Moved o v now m map → (f : TreeFault GrowFault) → IsUndone f → IsPairFault o v m f
undone_pair o v now m map moved fault.Exists bad = absurd bad
undone_pair o v now m map moved fault.Absent bad = absurd bad
undone_pair o v now m map moved (fault.Damaged page sort) bad = absurd bad
undone_pair o v now m map moved (fault.Pages f) fine = failed_of o v now m map moved f fine
undone_pair o v now m map moved fault.NoMemory fine = tt

in_rows_of : (v : Volume) (o : Option ℕ) (names : List Row) → rows_of v o ≡ names → (name : List ℕ) (value : ℤ) → assoc Text names name ≡ Some value → In (natural value) (inodes_of v o)
in_rows_of v None names are name value row = absurd (let bad : None ≡ Some value = ap (λ (l : List Row). assoc Text l name) are ∙ row in cc)
in_rows_of v (Some d) names are name value row =
    let there : assoc Text (proper_rows v d) name ≡ Some value = ap (λ (l : List Row). assoc Text l name) are ∙ row in
    let found : (r : Row) × In r (proper_rows v d) × (r.0 ≡ name) × (r.1 ≡ value) = found_row (proper_rows v d) name value there in
    inr (subst (λ (z : ℤ). In (natural z) (map id_of (proper_rows v d))) found.3 (in_map id_of (proper_rows v d) found.0 found.1))

-- an index's blocks are among those of all
index_few : (v : Volume) (tree : Tree) (lists : Lists) (loose : List ℕ) → Stocked v tree lists loose → (name : List ℕ) (value : ℤ) → assoc Text lists.names name ≡ Some value
    → (k : ℕ) → times k (inode_blocks v (natural value)) ≤ times k (index_blocks v)
unfolding index_blocks
index_few v tree lists loose stocked name value row k = times_member k (inode_blocks v) (inodes_of v (index_directory v)) (natural value) (in_rows_of v (index_directory v) lists.names stocked.names name value row)

module _ (s : Super) (v : Room) (m : ℕ → Option (List ℕ)) (tree : Tree) (lists : Lists) (loose : List ℕ) (inode : ℕ) (name : List ℕ) (valid : IsValid s) (work : IsAtWork (geometry_of s) v m tree lists loose) (row : assoc Text lists.names name ≡ Some (pos inode)) where
  abbrev g : Geometry
  g = geometry_of s

  abbrev was : Volume
  was = volume_in g m

  abbrev o : Origin
  o = record { id = inode; sizes = sizes_of s }

  abbrev kind : KeyKind
  kind = lists.kinds name

  some : 0 < s.block_size
  some = some_bytes s valid

  few : (k : ℕ) → times k (inode_blocks was inode) ≤ times k (index_blocks was)
  few = index_few was tree lists loose work.stocked name (pos inode) row

  stream_told : AreTold m (inode_blocks was inode)
  stream_told k h =
      let has : 0 < times k (inode_blocks was inode) = h in
      let f = few k in
      let p = all_split was tree lists loose work.stocked k in
      let a = times-append k (reach was tree) loose in
      let most : times k (reach was tree ++ loose) ≤ 1 = work.stocked.once k in
      let reached : 0 < times k (reach was tree) = omega (arith, has, f, p, a) in
      work.told k (reached, omega (arith, has, f, p, most)) (omega (arith, has, f, p, most))

  pub index_held : HasHeld o v m
  index_held = owner_held g v m inode (index_owns g v m tree lists loose work.stocked work.volume some work.fits name (pos inode) row stream_told) stream_told

  pub index_is : IsIndex (record { origin = o; kind = kind }) v m
  index_is = record { held = index_held; tree = (work.stocked.indices name (pos inode) row).index.tree }

  apart : (e : ℕ × Node) → In e (entries tree.nodes) → is_file e.1.kind ≡ true → (k : ℕ) → times k (node_blocks was e) + (times k (inode_blocks was inode) + times k (bitmap_blocks g)) ≤ times k (reach was tree ++ loose)
  apart e i f k =
      let p = all_parts was tree lists loose work.stocked k in
      let n : times k (node_blocks was e) ≤ times k (flat_map (node_blocks was) (entries tree.nodes)) = times_member k (node_blocks was) (entries tree.nodes) e i in
      let x = few k in
      omega (arith, p, n, x)

  module _ (now : Room) (pairs : List (List ℕ × ℕ)) (P : List ℕ → Type 0) (told : Option (ℕ → Option (List ℕ))) (old new : ℕ → Bool) (written : HasStreamSince o v now m P told old new) (words : HasBlockWords (contents written.since.map inode))
      (whole : IsWholeTree kind (content (volume_in g written.since.map) inode)) (are : AreWritten (content (volume_in g written.since.map) inode) (rows_in kind (content (volume_in g written.since.map) inode)) pairs) where
    abbrev is_now : Volume
    is_now = volume_in g written.since.map

    bytes : HasBytes (contents m inode) (contents written.since.map inode)
    bytes = record { long = (let l = written.before.long in omega (arith, l)); before = written.before.words; after = words.words }

    stocked : Stocked is_now tree (with_pairs lists name pairs) loose
    stocked = index_has_pairs g v now m written.since.map name (pos inode) pairs tree lists loose work.volume some work.stocked row written.since.moved bytes whole are

    own : (k : ℕ) → Has (inode_blocks is_now inode) k → MayBeWritten is_now tree k
    own k h = unfiled is_now tree (with_pairs lists name pairs) loose stocked k (
        let has : 0 < times k (inode_blocks is_now inode) = h in
        let f = index_few is_now tree (with_pairs lists name pairs) loose stocked name (pos inode) row k in
        omega (arith, has, f))

    paired_step : IsStepped g v now m tree tree (with_pairs lists name pairs) loose told old new
    paired_step = streamed_step s v now m tree lists (with_pairs lists name pairs) loose inode told old new valid work (index_marked g v m tree lists loose work.stocked name (pos inode) row) apart
        written.since.map written.since.is written.since.held written.since.moved written.since.written written.since.stays written.since.fresh stocked own

  was_written : AreWritten (content was inode) (rows_in kind (content was inode)) (lists.pairs name)
  was_written = (work.stocked.indices name (pos inode) row).written

  module _ (now : Room) (key : Key) (id : ℕ) (pairs : List (List ℕ × ℕ)) (told : Option (ℕ → Option (List ℕ))) (old new : ℕ → Bool) (sorted : IsStrictlySortedBy (pair_cmp kind) pairs) where
    pub listed_step : (written : HasStreamSince o v now m (HasWith kind (stream_of o m) key id) told old new) → HasBlockWords (contents written.since.map inode)
        → ((k : List ℕ) (n : ℕ) → Contains pairs (k, n) ↔ (Contains (lists.pairs name) (k, n) ⊎ ((k ≡ key) × (n ≡ id)))) → IsStepped g v now m tree tree (with_pairs lists name pairs) loose told old new
    listed_step written words has = paired_step now pairs (HasWith kind (stream_of o m) key id) told old new written words written.since.bytes.tree
        (added_written kind (content was inode) (content (volume_in g written.since.map) inode) key id (lists.pairs name) pairs was_written written.since.bytes sorted has)

    pub unlisted_step : (written : HasStreamSince o v now m (HasWithout kind (stream_of o m) key id) told old new) → HasBlockWords (contents written.since.map inode)
        → ((k : List ℕ) (n : ℕ) → Contains pairs (k, n) ↔ (Contains (lists.pairs name) (k, n) × ((k ≡ key) × (n ≡ id) → ⊥))) → IsStepped g v now m tree tree (with_pairs lists name pairs) loose told old new
    unlisted_step written words has = paired_step now pairs (HasWithout kind (stream_of o m) key id) told old new written words written.since.bytes.tree
        (taken_written kind (content was inode) (content (volume_in g written.since.map) inode) key id (lists.pairs name) pairs was_written written.since.bytes sorted has)
