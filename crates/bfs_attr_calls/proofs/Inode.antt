-- A node's own blocks and its record, where the attributes of its inode are others.
use Rattle.std.proofs.Common.{◌≡◌, ◌≤◌, ◌∙◌, ℕ, List, [], ◌∷◌, ◌++◌, length, take, drop, refl, sym, ap, subst, Bool, true, false, cond, Option, Some, unwrap_or, pos}
use Rattle.std.specs.Prelude.{◌==◌, ◌&&◌, ◌/◌, ◌%◌, ◌<◌}
use Rattle.std.specs.List.{flat_map, before_first, AllByRecursion}
use Rattle.std.specs.FinMap.{from_entries}
use Rattle.bfs_base.specs.Keys.{text_cmp}
use Rattle.bfs_base.specs.Lists.{Agree}
use Rattle.bfs_base.specs.declared.kind.KeyKind.TheVariants.{Text}
use Rattle.bfs_bytes.specs.declared.Run.{Run}
use Rattle.bfs_super.specs.Conditions.{natural}
use Rattle.bfs_inode.specs.Inode.{Inode, Stream, inode_at, stream_at}
use Rattle.bfs_inode.specs.Refusals.{IsInode, Names}
use Rattle.bfs_smalldata.specs.Items.{Item}
use Rattle.bfs_smalldata.specs.Edits.{named}
use Rattle.bfs_stream.specs.Sizes.{Sizes}
use Rattle.bfs_stream.specs.Places.{Levels, HasLevels, HasStream, fields, levels_at, arrays_of, places_of, arrays_at, places_at, bytes_at}
use Rattle.bfs_stream.proofs.Frames.{agree_left, agree_right, joined_same, levels_but}
use Rattle.bfs_tree.specs.declared.call.Kind.{Kind}
use Rattle.bfs_tree.specs.declared.call.Kind.TheVariants.{File, Dir, Link}
use Rattle.bfs_tree.specs.Trees.{Node, Attributes, is_file, is_link}
use Rattle.bfs_values.specs.Reached.{IsWholeTree}
use Rattle.bfs_sound.specs.Volumes.{Volume, sizes}
use Rattle.bfs_sound.specs.Inodes.{mode_bits, inode_blocks, stream_blocks, content, is_short}
use Rattle.bfs_sound.specs.Attributes.{own_name}
use Rattle.bfs_sound.specs.Nodes.{HasTarget, HasContent, IsCalled, HasNode}
use Rattle.bfs_sound.specs.Laws.{with_blocks}
use Rattle.bfs_sound.proofs.Nodes.{own_all}
use Rattle.bfs_shift.specs.Inodes.{HasBytes}
use Rattle.bfs_shift.proofs.Rewritten.{words_same}
use Rattle.bfs_shift.proofs.Stamped.{Holds}
use Rattle.bfs_attr.specs.Bearers.{HasAttributes, attributes_at, entries_with}
use Rattle.bfs_attr_calls.specs.Attributed.{KeepsName}
use Rattle.bfs_attr_calls.proofs.Alike.{stream_alike}

holds_of : (u : Volume) (id : ℕ) (n : Node) (k : Kind) → HasContent u id n k → Holds u id n k (is_short u id)
holds_of u id n File c = c
holds_of u id n Dir c = c
holds_of u id n Link c = c

content_of : (u : Volume) (id : ℕ) (n : Node) (k : Kind) (short : Bool) → is_short u id ≡ short → Holds u id n k short → HasContent u id n k
content_of u id n File short e c = c
content_of u id n Dir short e c = c
content_of u id n Link short e c = subst (λ b. HasTarget u id n.target b × (n.size ≡ length n.target)) (sym e) c

-- a node's own blocks beside its inode
abbrev pub own_rest : Volume → ℕ → Kind → Bool → List ℕ
own_rest v id k short = cond (is_link k && short) [] (arrays_at (sizes v.geometry) v.blocks id ++ places_at (sizes v.geometry) v.blocks id)

module _ (v : Volume) (new : ℕ → List ℕ) (d : ℕ) (kept : inode_at (new d) ≡ record (inode_at (v.blocks d)) { attributes = (inode_at (new d)).attributes; small_data = (inode_at (new d)).small_data }) where
  abbrev w : Volume
  w = with_blocks v new

  abbrev s : Sizes
  s = sizes v.geometry

  target : take 144 (drop 72 (new d)) ≡ take 144 (drop 72 (v.blocks d))
  target = ap (λ (i : Inode). i.stream_bytes) kept

  stream : stream_at (new d) ≡ stream_at (v.blocks d)
  stream = stream_alike (new d) (v.blocks d) target

  module _ (rest : Agree v.blocks new (arrays_at s v.blocks d ++ places_at s v.blocks d)) where
    levels_same : levels_at s new d ≡ levels_at s v.blocks d
    levels_same =
        levels_but v.blocks new s d (agree_left v.blocks new (arrays_at s v.blocks d) (places_at s v.blocks d) rest) (ap (λ (t : Stream). t.indirect) stream) (ap (λ (t : Stream). t.double_indirect) stream)
        ∙ ap (λ (t : Stream). record (levels_at s v.blocks d) { stream = t }) stream

    blocks_same : inode_blocks w d ≡ inode_blocks v d
    blocks_same = ap (λ (l : Levels). (d ∷ arrays_of s l) ++ places_of s l) levels_same

    streams_same : stream_blocks w d ≡ stream_blocks v d
    streams_same = ap (places_of s) levels_same

    stream_now : HasStream s v.blocks d → HasStream s new d
    stream_now h = subst (HasLevels s) (sym levels_same) h

    content_same : content w d ≡ content v d
    unfolding bytes_at
    content_same =
        ap (λ (l : Levels). take (natural l.stream.size) (flat_map new (places_of s l))) levels_same
        ∙ ap (take (natural (fields s v.blocks d).size)) (joined_same v.blocks new (λ bytes. bytes) (places_at s v.blocks d) (agree_right v.blocks new (arrays_at s v.blocks d) (places_at s v.blocks d) rest))

  pub own_same : (k : Kind) (short : Bool) → Agree v.blocks new (own_rest v d k short) → own_all w d k short ≡ own_all v d k short
  own_same File short rest = blocks_same rest
  own_same Dir short rest = blocks_same rest
  own_same Link true rest = refl
  own_same Link false rest = blocks_same rest

  pub data_same : (k : Kind) (short : Bool) → Agree v.blocks new (own_rest v d k short) → cond (is_file k) (stream_blocks w d) [] ≡ cond (is_file k) (stream_blocks v d) []
  data_same File short rest = streams_same rest
  data_same Dir short rest = refl
  data_same Link short rest = refl

  pub directory_content : (k : Kind) (short : Bool) → k ≡ Dir → Agree v.blocks new (own_rest v d k short) → content w d ≡ content v d
  directory_content File short e rest = absurd (let bad : is_file File ≡ is_file Dir = ap is_file e in let worse : true ≡ false = bad in cc)
  directory_content Dir short e rest = content_same rest
  directory_content Link short e rest = absurd (let bad : is_link Link ≡ is_link Dir = ap is_link e in let worse : true ≡ false = bad in cc)

  module _ (n now : Node) (size : now.size ≡ n.size) (same_target : now.target ≡ n.target) where
    holds_now : (k : Kind) (short : Bool) → Agree v.blocks new (own_rest v d k short) → Holds v d n k short → Holds w d now k short
    holds_now File short rest c = (stream_now rest c.0, size ∙ c.1 ∙ sym (ap (λ (t : Stream). natural t.size) stream), same_target ∙ c.2)
    holds_now Dir short rest c = (stream_now rest c.0, subst (IsWholeTree Text) (sym (content_same rest)) c.1, size ∙ c.2, same_target ∙ c.3)
    holds_now Link true rest c = (
      (ap (λ (l : List ℕ). before_first (λ b. b == 0) l) target ∙ c.0.0 ∙ sym same_target, subst (λ (l : List ℕ). length l < 144) (sym same_target) c.0.1),
      size ∙ c.1 ∙ ap length (sym same_target),
    )
    holds_now Link false rest c = ((stream_now rest c.0.0, same_target ∙ c.0.1 ∙ sym (content_same rest)), size ∙ c.1 ∙ ap length (sym same_target))

  module _ (bytes : HasBytes (v.blocks d) (new d)) where
    pub short_same : is_short w d ≡ is_short v d
    short_same = ap (λ n. n / 64 % 2 == 0) (words_same (v.blocks d) (new d) 24 bytes.before.flags bytes.after.flags (ap (λ (i : Inode). i.flags) kept))

    mode_same : mode_bits w d ≡ mode_bits v d
    mode_same = words_same (v.blocks d) (new d) 20 bytes.before.mode bytes.after.mode (ap (λ (i : Inode). i.mode) kept)

    module _ (n : Node) (attributes : Attributes) (rest : Agree v.blocks new (own_rest v d n.kind (is_short v d))) (stands : HasAttributes w d) (are : attributes_at w d ≡ attributes) (name : KeepsName (v.blocks d) (new d)) (has : HasNode v d n) where
      abbrev now : Node
      now = record n { attributes = attributes }

      inode_now : IsInode (new d) d v.geometry.shift
      inode_now = record {
        magic = ap (λ (i : Inode). i.magic1) kept ∙ has.inode.magic;
        number_is = subst (λ (run : Run). Names run d v.geometry.shift) (sym (ap (λ (i : Inode). i.inode_num) kept)) has.inode.number_is;
        in_use = ap (λ b. b % 2) (words_same (v.blocks d) (new d) 24 bytes.before.flags bytes.after.flags (ap (λ (i : Inode). i.flags) kept)) ∙ has.inode.in_use;
        size = ap (λ (i : Inode). i.inode_size) kept ∙ has.inode.size ∙ ap pos (sym name.long);
      }

      same_items : name.items ≡ stands.items
      same_items = let both : Some name.items ≡ Some stands.items = sym name.area ∙ stands.area in cc

      called : IsCalled w d now stands.items
      called = record {
        root_name = has.called.root_name;
        root_parent = has.called.root_parent;
        name = λ other. let i = has.called.name other in (i.0, subst (λ (l : List Item). named own_name l ≡ Some i.0) same_items (name.own has.items i.0 has.area i.1 i.2), i.2, i.3);
        parent = λ other. subst (λ (run : Run). Names run n.parent v.geometry.shift) (sym (ap (λ (i : Inode). i.parent) kept)) (has.called.parent other);
      }

      content_now : HasContent w d now n.kind
      content_now = content_of w d now n.kind (is_short v d) short_same (holds_now n now refl refl n.kind (is_short v d) rest (holds_of v d n n.kind has.content_is))

      pub node_attributed : HasNode w d now
      node_attributed = record {
        inode = inode_now;
        kind = ap (λ bits. bits / 4096 % 16) mode_same ∙ has.kind;
        mode = has.mode ∙ sym (ap (λ bits. bits % 4096) mode_same);
        uid = has.uid ∙ sym (ap (λ (i : Inode). i.uid) kept);
        gid = has.gid ∙ sym (ap (λ (i : Inode). i.gid) kept);
        created = has.created ∙ sym (ap (λ (i : Inode). i.create_time) kept);
        modified = has.modified ∙ sym (ap (λ (i : Inode). i.last_modified_time) kept);
        changed = has.changed ∙ sym (ap (λ (i : Inode). i.status_change_time) kept);
        content_is = content_now;
        items = stands.items;
        area = stands.area;
        distinct = stands.distinct;
        short = subst (AllByRecursion (λ item. length item.name ≤ 255)) same_items name.short;
        called = called;
        directory = stands.directory;
        apart = stands.apart;
        attributes = sym are ∙ ap (λ (o : Option (List Item)). from_entries {R = text_cmp} (entries_with w d (unwrap_or o []))) stands.area;
      }
