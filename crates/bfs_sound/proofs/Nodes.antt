-- What stays of a node where blocks agree at its metadata.
use Rattle.std.proofs.Common.{◌≡◌, ℕ, List, [], ◌∷◌, ◌++◌, Some, Bool, true, false, cond, refl, sym, ap, ap₂, ◌∙◌, subst, arith, take, drop, length}
use Rattle.std.specs.Prelude.{◌<◌, ◌+◌, ◌==◌, ◌&&◌, ◌/◌, ◌%◌}
use Rattle.std.specs.List.{flat_map, before_first}
use Rattle.std.specs.FinMap.{from_entries}
use Rattle.bfs_base.specs.Lists.{times, Agree}
use Rattle.bfs_base.specs.declared.kind.KeyKind.TheVariants.{Text}
use Rattle.bfs_bytes.specs.Fields.{unsigned_at, signed32_at, signed64_at, run_in}
use Rattle.bfs_super.specs.Conditions.{natural}
use Rattle.bfs_inode.specs.Inode.{stream_at}
use Rattle.bfs_inode.specs.Refusals.{IsInode, Names}
use Rattle.bfs_smalldata.specs.Items.{Item, items_of}
use Rattle.bfs_stream.specs.Places.{HasStream, fields}
use Rattle.bfs_stream.proofs.Doubles.{times-append}
use Rattle.bfs_stream.proofs.Frames.{agree_left, agree_right, agree_first}
use Rattle.bfs_tree.specs.declared.call.Kind.{Kind}
use Rattle.bfs_tree.specs.declared.call.Kind.TheVariants.{File, Dir, Link}
use Rattle.bfs_tree.specs.Trees.{Node, is_file, is_link}
use Rattle.bfs_values.specs.Reached.{IsWholeTree}
use Rattle.bfs_sound.specs.Volumes.{Volume, sizes}
use Rattle.bfs_sound.specs.Inodes.{kind_bits, is_short, frame_blocks, stream_blocks, inode_blocks, content}
use Rattle.bfs_sound.specs.Attributes.{attributes_in, attribute_directory, attribute_inodes, attributes_of, HasDirectory}
use Rattle.bfs_sound.specs.Nodes.{HasTarget, HasContent, IsCalled, AreApart, HasNode}
use Rattle.bfs_sound.specs.Owners.{own_blocks, node_blocks, data_blocks, with_streams, node_owners}
use Rattle.bfs_sound.specs.Laws.{changed}
use Rattle.bfs_sound.proofs.Streams.{frame_of_whole, block_stays, stream_stays, stream_blocks_stay, blocks_stay, content_stays}
use Rattle.bfs_sound.proofs.Rows.{inodes_stay, directory_same, has_directory_stays, attributes_stay, attribute_inodes_stay}

-- the blocks of a node by itself that are metadata, and those of its stream that are not, by its kind and whether it is
-- flagged as a long link
abbrev pub own_metadata : Volume → ℕ → Kind → Bool → List ℕ
own_metadata v id k short = cond (is_link k && short) (id ∷ []) (frame_blocks v id ++ cond (is_file k) [] (stream_blocks v id))

abbrev own_data : Volume → ℕ → Kind → List ℕ
own_data v id k = cond (is_file k) (stream_blocks v id) []

abbrev pub own_all : Volume → ℕ → Kind → Bool → List ℕ
own_all v id k short = cond (is_link k && short) (id ∷ []) (inode_blocks v id)

abbrev pub other_blocks : Volume → ℕ → List ℕ
other_blocks v id = flat_map (inode_blocks v) (attribute_inodes v (attribute_directory v id))

unfoldable pub node_metadata : Volume → ℕ × Node → List ℕ
node_metadata v e = own_metadata v e.0 e.1.kind (is_short v e.0) ++ other_blocks v e.0

own_split : (v : Volume) (id k : ℕ) (kind : Kind) (short : Bool) → times k (own_all v id kind short) ≡ times k (own_metadata v id kind short) + times k (own_data v id kind)
own_split v id k File short =
    let a : times k (frame_blocks v id ++ stream_blocks v id) ≡ times k (frame_blocks v id) + times k (stream_blocks v id) = times-append k (frame_blocks v id) (stream_blocks v id) in
    let b : times k (frame_blocks v id ++ []) ≡ times k (frame_blocks v id) + times k [] = times-append k (frame_blocks v id) [] in
    omega (arith, a, b)
own_split v id k Dir short = omega arith
own_split v id k Link true = omega arith
own_split v id k Link false = omega arith

-- a node's blocks are its metadata and its file data
pub node_split : (v : Volume) (k : ℕ) (e : ℕ × Node) → times k (node_blocks v e) ≡ times k (node_metadata v e) + times k (data_blocks v e)
unfolding node_blocks node_metadata
node_split v k e =
    let a : times k (own_blocks v e) ≡ times k (own_metadata v e.0 e.1.kind (is_short v e.0)) + times k (data_blocks v e) = own_split v e.0 k e.1.kind (is_short v e.0) in
    let b : times k (own_blocks v e ++ other_blocks v e.0) ≡ times k (own_blocks v e) + times k (other_blocks v e.0) = times-append k (own_blocks v e) (other_blocks v e.0) in
    let c : times k (own_metadata v e.0 e.1.kind (is_short v e.0) ++ other_blocks v e.0) ≡ times k (own_metadata v e.0 e.1.kind (is_short v e.0)) + times k (other_blocks v e.0) = times-append k (own_metadata v e.0 e.1.kind (is_short v e.0)) (other_blocks v e.0) in
    omega (arith, a, b, c)

module _ (v : Volume) (new : ℕ → List ℕ) (used : ℕ) where
  abbrev w : Volume
  w = changed v new used

  -- the inode itself
  own_stays : (id : ℕ) (k : Kind) (short : Bool) → Agree v.blocks new (own_metadata v id k short) → new id ≡ v.blocks id
  own_stays id File short agree = block_stays v new used id (agree_left v.blocks new (frame_blocks v id) [] agree)
  own_stays id Dir short agree = block_stays v new used id (agree_left v.blocks new (frame_blocks v id) (stream_blocks v id) agree)
  own_stays id Link true agree = agree_first v.blocks new id [] agree
  own_stays id Link false agree = block_stays v new used id (agree_left v.blocks new (frame_blocks v id) (stream_blocks v id) agree)

  -- its own blocks, and those of its stream
  all_stay : (id : ℕ) (k : Kind) (short : Bool) → Agree v.blocks new (own_metadata v id k short) → own_all w id k short ≡ own_all v id k short
  all_stay id File short agree = blocks_stay v new used id (agree_left v.blocks new (frame_blocks v id) [] agree)
  all_stay id Dir short agree = blocks_stay v new used id (agree_left v.blocks new (frame_blocks v id) (stream_blocks v id) agree)
  all_stay id Link true agree = refl
  all_stay id Link false agree = blocks_stay v new used id (agree_left v.blocks new (frame_blocks v id) (stream_blocks v id) agree)

  data_stay : (id : ℕ) (k : Kind) (short : Bool) → Agree v.blocks new (own_metadata v id k short) → own_data w id k ≡ own_data v id k
  data_stay id File short agree = stream_blocks_stay v new used id (agree_left v.blocks new (frame_blocks v id) [] agree)
  data_stay id Dir short agree = refl
  data_stay id Link short agree = refl

  -- what stands in its stream
  abbrev Content : Volume → ℕ → Node → Kind → Bool → Type 0
  Content u id n File short = HasStream (sizes u.geometry) u.blocks id × (n.size ≡ natural (fields (sizes u.geometry) u.blocks id).size) × (n.target ≡ [])
  Content u id n Dir short = HasStream (sizes u.geometry) u.blocks id × IsWholeTree Text (content u id) × (n.size ≡ 0) × (n.target ≡ [])
  Content u id n Link short = HasTarget u id n.target short × (n.size ≡ length n.target)

  content_kept : (id : ℕ) (n : Node) (k : Kind) (short : Bool) → Agree v.blocks new (own_metadata v id k short) → Content v id n k short → Content w id n k short
  content_kept id n File short agree c =
      let frame = agree_left v.blocks new (frame_blocks v id) [] agree in
      (stream_stays v new used id frame c.0, c.1 ∙ sym (ap (λ bytes. natural (stream_at bytes).size) (block_stays v new used id frame)), c.2)
  content_kept id n Dir short agree c =
      (stream_stays v new used id (frame_of_whole v new used id agree) c.0, subst (IsWholeTree Text) (sym (content_stays v new used id agree)) c.1, c.2, c.3)
  content_kept id n Link true agree c =
      (subst (λ bytes. (before_first (λ b. b == 0) (take 144 (drop 72 bytes)) ≡ n.target) × (length n.target < 144)) (sym (agree_first v.blocks new id [] agree)) c.0, c.1)
  content_kept id n Link false agree c =
      ((stream_stays v new used id (frame_of_whole v new used id agree) c.0.0, c.0.1 ∙ sym (content_stays v new used id agree)), c.1)

  module _ (id : ℕ) (n : Node) (agree : Agree v.blocks new (node_metadata v (id, n))) where
    own : Agree v.blocks new (own_metadata v id n.kind (is_short v id))
    unfolding node_metadata
    own = agree_left v.blocks new (own_metadata v id n.kind (is_short v id)) (other_blocks v id) agree

    others : Agree v.blocks new (other_blocks v id)
    unfolding node_metadata
    others = agree_right v.blocks new (own_metadata v id n.kind (is_short v id)) (other_blocks v id) agree

    same : new id ≡ v.blocks id
    same = own_stays id n.kind (is_short v id) own

    short_same : is_short w id ≡ is_short v id
    short_same = ap (λ bytes. unsigned_at 4 bytes 24 / 64 % 2 == 0) same

    directory_is : attribute_directory w id ≡ attribute_directory v id
    directory_is = directory_same v new used id same

    attributes_are : attributes_of w (attribute_directory w id) ≡ attributes_of v (attribute_directory v id)
    attributes_are = ap (attributes_of w) directory_is ∙ attributes_stay v new used (attribute_directory v id) others

    called_stays : (items : List Item) → IsCalled v id n items → IsCalled w id n items
    called_stays items c = record {
      root_name = c.root_name;
      root_parent = c.root_parent;
      name = c.name;
      parent = λ other. subst (λ bytes. Names (run_in bytes 44) n.parent v.geometry.shift) (sym same) (c.parent other);
    }

    of_kind : (k : Kind) → HasContent v id n k → Content v id n k (is_short v id)
    of_kind File c = c
    of_kind Dir c = c
    of_kind Link c = c

    by_kind : (k : Kind) → Content w id n k (is_short v id) → HasContent w id n k
    by_kind File c = c
    by_kind Dir c = c
    by_kind Link c = subst (λ b. HasTarget w id n.target b × (n.size ≡ length n.target)) (sym short_same) c

    pub node_stays : HasNode v id n → HasNode w id n
    node_stays h = record {
      inode = subst (λ bytes. IsInode bytes id v.geometry.shift) (sym same) h.inode;
      kind = subst (λ bytes. unsigned_at 4 bytes 20 / 4096 % 16 ≡ kind_bits n.kind) (sym same) h.kind;
      mode = subst (λ bytes. n.mode ≡ unsigned_at 4 bytes 20 % 4096) (sym same) h.mode;
      uid = subst (λ bytes. n.uid ≡ signed32_at bytes 12) (sym same) h.uid;
      gid = subst (λ bytes. n.gid ≡ signed32_at bytes 16) (sym same) h.gid;
      created = subst (λ bytes. n.created ≡ signed64_at bytes 28) (sym same) h.created;
      modified = subst (λ bytes. n.modified ≡ signed64_at bytes 36) (sym same) h.modified;
      changed = subst (λ bytes. n.changed ≡ signed64_at bytes 216) (sym same) h.changed;
      content_is = by_kind n.kind (content_kept id n n.kind (is_short v id) own (of_kind n.kind h.content_is));
      items = h.items;
      area = subst (λ bytes. items_of (drop 232 bytes) ≡ Some h.items) (sym same) h.area;
      distinct = h.distinct;
      short = h.short;
      called = called_stays h.items h.called;
      directory = subst (HasDirectory w id) (sym directory_is) (has_directory_stays v new used (attribute_directory v id) id (ap (λ bytes. run_in bytes 52) same) others h.directory);
      apart = subst (λ l. AreApart (attributes_in h.items ++ l)) (sym attributes_are) h.apart;
      attributes = subst (λ l. n.attributes ≡ from_entries (attributes_in h.items ++ l)) (sym attributes_are) h.attributes;
    }

    pub node_blocks_stay : node_blocks w (id, n) ≡ node_blocks v (id, n)
    unfolding node_blocks
    node_blocks_stay =
        ap₂ (λ a b. a ++ b)
        (ap (λ b. own_all w id n.kind b) short_same ∙ all_stay id n.kind (is_short v id) own)
        (ap (λ o. flat_map (inode_blocks w) (attribute_inodes w o)) directory_is
        ∙ ap (flat_map (inode_blocks w)) (attribute_inodes_stay v new used (attribute_directory v id) others)
        ∙ inodes_stay v new used (attribute_inodes v (attribute_directory v id)) others)

    pub data_blocks_stay : data_blocks w (id, n) ≡ data_blocks v (id, n)
    data_blocks_stay = data_stay id n.kind (is_short v id) own

    pub node_owners_stay : node_owners w (id, n) ≡ node_owners v (id, n)
    unfolding node_owners
    node_owners_stay =
        ap₂ (λ b ids. (id, is_link n.kind && b) ∷ with_streams ids) short_same
        (ap (attribute_inodes w) directory_is ∙ attribute_inodes_stay v new used (attribute_directory v id) others)
