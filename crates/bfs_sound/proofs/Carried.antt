-- The law across equal metadata.
use Rattle.std.proofs.Common.{◌≡◌, ◌<◌, ◌≤◌, ◌+◌, ◌-◌, ◌*◌, ◌/◌, ◌%◌, ◌^◌, ◌↔◌, ℕ, ℤ, zero, suc, List, [], ◌∷◌, ◌++◌, Option, Some, None, refl, sym, ap, ap₂, ◌∙◌, subst, arith, map, length, drop, inl, inr, ◌⊎◌, length-drop, length-take-le}
use Rattle.std.proofs.Math.Nat.{mul-le-mul_right}
use Rattle.std.proofs.Math.Pow.{pow_mono}
use Rattle.bfs_base.specs.Images.{block}
use Rattle.std.specs.List.{flat_map}
use Rattle.std.specs.FinMap.{entries}
use Rattle.bfs_base.specs.Lists.{times, Has, Agree, IsOnce, counted_from}
use Rattle.bfs_base.specs.declared.kind.KeyKind.{KeyKind}
use Rattle.bfs_base.specs.declared.kind.KeyKind.TheVariants.{Text}
use Rattle.bfs_super.specs.Conditions.{natural, ceil}
use Rattle.bfs_super.specs.Geometry.{bitmap_length}
use Rattle.bfs_super.specs.declared.sup.Super.{Super}
use Rattle.bfs_super.specs.declared.geometry.Geometry.{Geometry}
use Rattle.bfs_stream.specs.Bits.{bit_of}
use Rattle.bfs_stream.specs.Runs.{marked}
use Rattle.bfs_node.specs.Page.{Row}
use Rattle.bfs_values.specs.Maps.{assoc}
use Rattle.bfs_log.specs.Replay.{super_of, blocks_of, Valid}
use Rattle.bfs_stream.proofs.Frames.{has_first, has_rest, agree_left, agree_right}
use Rattle.bfs_tree.specs.Listings.{listed}
use Rattle.bfs_tree.specs.declared.call.Kind.{Kind}
use Rattle.bfs_tree.specs.declared.call.Kind.TheVariants.{Dir}
use Rattle.bfs_tree.specs.Trees.{Node, Tree, IsNode}
use Rattle.bfs_values.specs.Rows.{rows_in}
use Rattle.bfs_values.specs.Reached.{IsWholeTree, AreWritten}
use Rattle.bfs_sound.specs.Volumes.{Volume, bitmap_blocks, IsMarked}
use Rattle.bfs_sound.specs.Inodes.{is_short, inode_blocks, proper_rows, id_of, rows_of, inodes_of, index_directory}
use Rattle.bfs_sound.specs.Listings.{IsRow, Lists, IsIndex, HasIndexDirectory, index_rows, IsIndexRow, IsIndexOf, Stands}
use Rattle.bfs_sound.specs.Owners.{node_blocks, index_blocks, fixed_blocks, reach, data_blocks, file_data, IsMetadata, Marks, In}
use Rattle.bfs_sound.specs.Whole.{HasIndices, HasSoundNodes, IsSound, volume_of, IsVolume, Whole, IsWhole}
use Rattle.bfs_sound.specs.Laws.{with_blocks, changed, IsCarried, SameMetadata, StaysNode}
use Rattle.bfs_sound.proofs.Counts.{agree_member, in_map}
use Rattle.bfs_sound.proofs.Streams.{frame_of_whole, block_stays, owner_stays, content_stays, rows_stay}
use Rattle.bfs_sound.proofs.Rows.{mode_stays, inodes_stay, rows_of_stay, attribute_inodes_stay}
use Rattle.bfs_sound.proofs.Nodes.{node_metadata, own_metadata, node_stays, node_blocks_stay, data_blocks_stay}
use Rattle.bfs_sound.proofs.Parts.{in_rows, bitmap_agrees, index_agrees, node_agrees, metadata_agrees, other_agrees}

pub has_counted : (k first n : ℕ) → first ≤ k → k < first + n → Has (counted_from first n) k
has_counted k first zero low high = absurd (omega (arith, low, high))
has_counted k first (suc n) low high = by_place (here_or_later k first low) (λ later. has_counted k (suc first) n later (omega (arith, high)))
  where
    here_or_later : (k first : ℕ) → first ≤ k → (first ≡ k) ⊎ (suc first ≤ k)
    here_or_later k first low = grind (arith, low)

    by_place : (first ≡ k) ⊎ (suc first ≤ k) → (suc first ≤ k → Has (counted_from (suc first) n) k) → Has (first ∷ counted_from (suc first) n) k
    by_place (inl e) rest = subst (λ z. Has (first ∷ counted_from (suc first) n) z) e (has_first first (counted_from (suc first) n))
    by_place (inr later) rest = has_rest first (counted_from (suc first) n) k (rest later)

quotient_below : (k n b : ℕ) → 0 < b → k < n → k / b < (n + (b - 1)) / b
quotient_below k n b some h = grind (arith, some, h)

-- the stream of a directory is metadata
whole_of_directory : (v : Volume) (new : ℕ → List ℕ) (id : ℕ) (n : Node) → n.kind ≡ Dir → Agree v.blocks new (node_metadata v (id, n)) → Agree v.blocks new (inode_blocks v id)
unfolding node_metadata
whole_of_directory v new id n dir agree =
    subst (λ (k : Kind). Agree v.blocks new (own_metadata v id k (is_short v id))) dir (agree_left v.blocks new (own_metadata v id n.kind (is_short v id)) _ agree)

module _ (v : Volume) (new : ℕ → List ℕ) (used : ℕ) (tree : Tree) (nodes : HasSoundNodes v tree) (some : 0 < v.geometry.block_size)
    (same : (k : ℕ) → IsMetadata v tree k → times k (fixed_blocks v) ≡ 0 → new k ≡ v.blocks k) where
  abbrev w : Volume
  w = changed v new used

  at_node : (id : ℕ) (n : Node) → IsNode tree id n → Agree v.blocks new (node_metadata v (id, n))
  at_node = node_agrees v tree nodes.once new same

  at_indices : Agree v.blocks new (index_blocks v)
  at_indices = index_agrees v tree nodes.once new same

  at_inodes : Agree v.blocks new (flat_map (inode_blocks v) (inodes_of v (index_directory v)))
  unfolding index_blocks
  at_inodes = at_indices

  rows_same : index_rows w ≡ index_rows v
  rows_same = rows_of_stay v new used (index_directory v) at_inodes

  row_before : (name : List ℕ) (value : ℤ) → IsIndexRow w name value → IsIndexRow v name value
  row_before name value row = subst (λ rows. assoc Text rows name ≡ Some value) rows_same row

  row_now : (name : List ℕ) (value : ℤ) → IsIndexRow v name value → IsIndexRow w name value
  row_now name value row = subst (λ rows. assoc Text rows name ≡ Some value) (sym rows_same) row

  at_row : (o : Option ℕ) → Agree v.blocks new (flat_map (inode_blocks v) (inodes_of v o)) → (row : Row) → In row (rows_of v o) → Agree v.blocks new (inode_blocks v (id_of row))
  at_row None agree row i = absurd i
  at_row (Some d) agree row i =
      agree_member v.blocks new (inode_blocks v) (map id_of (proper_rows v d)) (id_of row) (in_map id_of (proper_rows v d) row i)
      (agree_right v.blocks new (inode_blocks v d) (flat_map (inode_blocks v) (map id_of (proper_rows v d))) agree)

  at_index : (name : List ℕ) (value : ℤ) → IsIndexRow v name value → Agree v.blocks new (inode_blocks v (natural value))
  at_index name value row =
      let found : (row : Row) × In row (index_rows v) × (row.1 ≡ value) = in_rows Text (index_rows v) name value row in
      subst (λ z. Agree v.blocks new (inode_blocks v (natural z))) found.2 (at_row (index_directory v) at_inodes found.0 found.1)

  index_stays : (id : ℕ) (kind : KeyKind) → Agree v.blocks new (inode_blocks v id) → IsIndex v id kind → IsIndex w id kind
  index_stays id kind agree i =
      let frame = frame_of_whole v new used id agree in
      record {
        owner = owner_stays v new used id frame i.owner;
        mode = mode_stays v new used id 29 (block_stays v new used id frame) i.mode;
        kind_is = i.kind_is;
        tree = subst (IsWholeTree kind) (sym (content_stays v new used id agree)) i.tree;
      }

  directory_stays : (o : Option ℕ) → Agree v.blocks new (flat_map (inode_blocks v) (inodes_of v o)) → HasIndexDirectory v o → HasIndexDirectory w o
  directory_stays None agree h = tt
  directory_stays (Some d) agree h = index_stays d Text (agree_left v.blocks new (inode_blocks v d) (flat_map (inode_blocks v) (map id_of (proper_rows v d))) agree) h

  index_of_stays : (name : List ℕ) (value : ℤ) → IsIndexRow v name value → IsIndexOf v tree name value → IsIndexOf w tree name value
  index_of_stays name value row i =
      record { kind = i.kind; there = i.there; number = i.number; index = index_stays (natural value) i.kind (at_index name value row) i.index }

  listing_stays : (id : ℕ) (n : Node) → IsNode tree id n → n.kind ≡ Dir → Lists w tree id n
  listing_stays id n is dir name value =
      subst (λ rows. (assoc Text rows name ≡ Some value) ↔ IsRow tree id n name value)
      (sym (rows_stay v new used id (whole_of_directory v new id n dir (at_node id n is)) Text)) (nodes.stands.listings id n is dir name value)

  stands_stays : Stands w tree
  stands_stays = record {
    root = nodes.stands.root;
    nodes = λ id n is. node_stays v new used id n (at_node id n is) (nodes.stands.nodes id n is);
    listings = listing_stays;
    directory = directory_stays (index_directory v) at_inodes nodes.stands.directory;
    none = nodes.stands.none;
    indices = λ name value row. index_of_stays name value (row_before name value row) (nodes.stands.indices name value (row_before name value row));
    no_more = λ name kind there. let r = nodes.stands.no_more name kind there in (r.0, row_now name r.0 r.1);
  }

  indices_stay : HasIndices v tree → HasIndices w tree
  indices_stay listed_before name value kind row there =
      let before = row_before name value row in
      subst (λ bytes. AreWritten bytes (rows_in kind bytes) (listed tree name kind)) (sym (content_stays v new used (natural value) (at_index name value before)))
      (listed_before name value kind before there)

  nodes_same : flat_map (node_blocks w) (entries tree.nodes) ≡ flat_map (node_blocks v) (entries tree.nodes)
  nodes_same = all_same (entries tree.nodes) (metadata_agrees v tree nodes.once new same)
    where
      all_same : (es : List (ℕ × Node)) → Agree v.blocks new (flat_map (node_metadata v) es) → flat_map (node_blocks w) es ≡ flat_map (node_blocks v) es
      all_same [] agree = refl
      all_same (e ∷ es) agree =
          ap₂ (λ a b. a ++ b) (node_blocks_stay v new used e.0 e.1 (agree_left v.blocks new (node_metadata v e) (flat_map (node_metadata v) es) agree))
          (all_same es (agree_right v.blocks new (node_metadata v e) (flat_map (node_metadata v) es) agree))

  index_blocks_same : index_blocks w ≡ index_blocks v
  unfolding index_blocks
  index_blocks_same =
      ap (flat_map (inode_blocks w)) (attribute_inodes_stay v new used (index_directory v) at_inodes) ∙ inodes_stay v new used (inodes_of v (index_directory v)) at_inodes

  reach_same : reach w tree ≡ reach v tree
  reach_same = ap₂ (λ a b. fixed_blocks v ++ (bitmap_blocks v.geometry ++ (a ++ b))) nodes_same index_blocks_same

  data_same : (e : ℕ × Node) → Agree v.blocks new (node_metadata v e) → data_blocks w e ≡ data_blocks v e
  data_same e agree = data_blocks_stay v new used e.0 e.1 agree

  files_same : file_data w tree ≡ file_data v tree
  files_same = all_same (entries tree.nodes) (metadata_agrees v tree nodes.once new same)
    where
      all_same : (es : List (ℕ × Node)) → Agree v.blocks new (flat_map (node_metadata v) es) → flat_map (data_blocks w) es ≡ flat_map (data_blocks v) es
      all_same [] agree = refl
      all_same (e ∷ es) agree =
          ap₂ (λ a b. a ++ b) (data_same e (agree_left v.blocks new (node_metadata v e) (flat_map (node_metadata v) es) agree))
          (all_same es (agree_right v.blocks new (node_metadata v e) (flat_map (node_metadata v) es) agree))

  -- and the same blocks are metadata
  metadata_same : (k : ℕ) → IsMetadata w tree k ↔ IsMetadata v tree k
  metadata_same k = (
    λ h. (subst (λ l. Has l k) reach_same h.0, subst (λ l. times k l ≡ 0) files_same h.1),
    λ h. (subst (λ l. Has l k) (sym reach_same) h.0, subst (λ l. times k l ≡ 0) (sym files_same) h.1),
  )

  bits : ℕ
  bits = 8 * v.geometry.block_size

  marked_same : (k : ℕ) → k < v.geometry.blocks → marked (8 * v.geometry.block_size) (λ b. Some (new b)) k ≡ marked (8 * v.geometry.block_size) (λ b. Some (v.blocks b)) k
  marked_same k inside = ap (λ bytes. bit_of bytes (k % (8 * v.geometry.block_size))) (bitmap_agrees v tree nodes.once new same (1 + k / (8 * v.geometry.block_size)) in_bitmap)
    where
      below : k / (8 * v.geometry.block_size) < bitmap_length v.geometry.blocks v.geometry.block_size
      below =
          let e : 8 * v.geometry.block_size ≡ v.geometry.block_size * 8 = omega arith in
          subst (λ b. k / b < ceil v.geometry.blocks (v.geometry.block_size * 8)) (sym e) (quotient_below k v.geometry.blocks (v.geometry.block_size * 8) (omega (arith, some)) inside)

      in_bitmap : Has (counted_from 1 (bitmap_length v.geometry.blocks v.geometry.block_size)) (1 + k / (8 * v.geometry.block_size))
      in_bitmap = has_counted (1 + k / (8 * v.geometry.block_size)) 1 (bitmap_length v.geometry.blocks v.geometry.block_size) (omega arith) (let b = below in omega (arith, b))

  bits_same : (k : ℕ) → IsMarked w k ↔ IsMarked v k
  bits_same k = ((λ m. (m.0, sym (marked_same k m.0) ∙ m.1)), (λ m. (m.0, marked_same k m.0 ∙ m.1)))

  pub parts_carried : IsCarried v w tree
  parts_carried = record {
    nodes = record { plain = nodes.plain; stands = stands_stays; once = subst IsOnce (sym reach_same) nodes.once };
    indices = λ i. record { plain = i.plain; listed = indices_stay i.listed };
    reached = reach_same;
    metadata = metadata_same;
    bits = bits_same;
  }

module _ (v : Volume) (new : ℕ → List ℕ) (tree : Tree) (sound : IsSound v tree) (some : 0 < v.geometry.block_size)
    (same : (k : ℕ) → IsMetadata v tree k → times k (fixed_blocks v) ≡ 0 → new k ≡ v.blocks k) where
  carried : IsCarried v (with_blocks v new) tree
  carried = parts_carried v new v.geometry.used tree sound.nodes some same

  pub metadata_stays : (k : ℕ) → IsMetadata (with_blocks v new) tree k ↔ IsMetadata v tree k
  metadata_stays = carried.metadata

  pub bits_stay : (k : ℕ) → IsMarked (with_blocks v new) k ↔ IsMarked v k
  bits_stay = carried.bits

  marks_stay : Marks (with_blocks v new) (reach (with_blocks v new) tree)
  marks_stay k = (
    λ m. subst (λ l. Has l k) (sym carried.reached) ((sound.bits k).0 ((bits_stay k).0 m)),
    λ h. (bits_stay k).1 ((sound.bits k).1 (subst (λ l. Has l k) carried.reached h)),
  )

  pub sound_stays : IsSound (with_blocks v new) tree
  sound_stays = record { nodes = carried.nodes; indices = carried.indices sound.indices; bits = marks_stay; used = sound.used ∙ ap length (sym carried.reached) }

some_bytes : (n shift : ℕ) → 10 ≤ shift → n ≡ 2 ^ shift → 0 < n
some_bytes n shift low e = let p : 2 ^ 10 ≤ 2 ^ shift = pow_mono low in omega (arith, e, p)

pub whole_carried : (s t : Super) (old new : ℕ → List ℕ) (tree : Tree) → Whole s old tree → IsVolume t new → t.log_start ≡ t.log_end → SameMetadata s t old new tree → Whole t new tree
whole_carried s t old new tree whole valid emptied same = record {
  valid = valid;
  emptied = emptied;
  sound = subst (λ (g : Geometry). IsSound (record { geometry = g; blocks = new }) tree) (sym same.fields)
      (sound_stays (volume_of s old) new tree whole.sound (some_bytes s.block_size s.block_shift whole.valid.super.block_size.0 whole.valid.super.block_size.2) same.blocks);
}

-- the blocks of a valid image have a block's bytes
shift_cases : (n : ℕ) → 10 ≤ n → n ≤ 13 → (n ≡ 10) ⊎ (n ≡ 11) ⊎ (n ≡ 12) ⊎ (n ≡ 13)
shift_cases n low high = grind (arith, low, high)

whole_block : (size shift : ℕ) → 10 ≤ shift → shift ≤ 13 → size ≡ 2 ^ shift → 512 * (size / 512) ≡ size
whole_block size shift low high e = subst (λ n. 512 * (n / 512) ≡ n) (sym e) (by_shift (shift_cases shift low high))
  where
    by_shift : (shift ≡ 10) ⊎ (shift ≡ 11) ⊎ (shift ≡ 12) ⊎ (shift ≡ 13) → 512 * (2 ^ shift / 512) ≡ 2 ^ shift
    by_shift (inl i) = subst (λ n. 512 * (2 ^ n / 512) ≡ 2 ^ n) (sym i) refl
    by_shift (inr (inl i)) = subst (λ n. 512 * (2 ^ n / 512) ≡ 2 ^ n) (sym i) refl
    by_shift (inr (inr (inl i))) = subst (λ n. 512 * (2 ^ n / 512) ≡ 2 ^ n) (sym i) refl
    by_shift (inr (inr (inr i))) = subst (λ n. 512 * (2 ^ n / 512) ≡ 2 ^ n) (sym i) refl

long_block : (r k n : ℕ) (image : List ℕ) → k < n → n * (512 * r) ≤ length image → length (block r k image) ≡ 512 * r
long_block r k n image inside fits =
    let most : (suc k) * (512 * r) ≤ n * (512 * r) = mul-le-mul_right (512 * r) (let l : suc k ≤ n = omega (arith, inside) in l) in
    let same : (suc k) * (512 * r) ≡ 512 * r + 512 * (r * k) = grind arith in
    length-take-le (512 * r) (drop (512 * (r * k)) image) (omega (arith, length-drop (512 * (r * k)) image, most, same, fits))

pub volume_is : (image : List ℕ) → Valid image → IsVolume (super_of image) (blocks_of image)
volume_is image valid = record { super = valid.super; long = long }
  where
    size : ℕ
    size = (super_of image).block_size

    whole : 512 * ((super_of image).block_size / 512) ≡ (super_of image).block_size
    whole = whole_block (super_of image).block_size (super_of image).block_shift valid.super.block_size.0 valid.super.block_size.1 valid.super.block_size.2

    long : (k : ℕ) → k < natural (super_of image).num_blocks → length (blocks_of image k) ≡ (super_of image).block_size
    long k inside = long_block (size / 512) k (natural (super_of image).num_blocks) image inside (subst (λ n. natural (super_of image).num_blocks * n ≤ length image) (sym whole) valid.blocks) ∙ whole

pub image_carried : (old new : List ℕ) (tree : Tree) → IsWhole old tree → Valid new → (super_of new).log_start ≡ (super_of new).log_end
    → SameMetadata (super_of old) (super_of new) (blocks_of old) (blocks_of new) tree → IsWhole new tree
image_carried old new tree whole valid emptied same =
    record { valid = valid; whole = whole_carried (super_of old) (super_of new) (blocks_of old) (blocks_of new) tree whole.whole (volume_is new valid) emptied same }

pub other_stays : (v : Volume) (tree : Tree) (new : ℕ → List ℕ) (a b : ℕ) (m n : Node) → IsSound v tree → IsNode tree a m → IsNode tree b n → (a ≡ b → ⊥)
    → ((k : ℕ) → times k (node_blocks v (a, m)) ≡ 0 → new k ≡ v.blocks k) → StaysNode v new b n
other_stays v tree new a b m n sound is too other changes =
    let agree = other_agrees v tree sound.nodes.once new a b m n is too other changes in
    record { node = node_stays v new v.geometry.used b n agree (sound.nodes.stands.nodes b n too); blocks = node_blocks_stay v new v.geometry.used b n agree }
