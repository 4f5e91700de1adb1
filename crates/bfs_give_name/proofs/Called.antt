-- A node's record, where its inode has other small data and another attribute directory, and so another own name.
use Rattle.std.proofs.Common.{◌≡◌, ◌≢◌, ◌≤◌, ◌∙◌, ℕ, List, [], ◌++◌, length, take, drop, refl, sym, ap, subst, Bool, true, false, Option, Some, unwrap_or, pos}
use Rattle.std.specs.Prelude.{◌==◌, ◌/◌, ◌%◌, ◌<◌}
use Rattle.std.specs.List.{flat_map, before_first, AllByRecursion}
use Rattle.std.specs.FinMap.{from_entries}
use Rattle.bfs_base.specs.Keys.{text_cmp}
use Rattle.bfs_base.specs.Lists.{Agree}
use Rattle.bfs_base.specs.declared.kind.KeyKind.TheVariants.{Text}
use Rattle.bfs_bytes.specs.declared.Run.{Run}
use Rattle.bfs_super.specs.Conditions.{natural}
use Rattle.bfs_inode.specs.Inode.{Inode, Stream, inode_at, stream_at}
use Rattle.bfs_inode.specs.Refusals.{IsInode, Names}
use Rattle.bfs_smalldata.specs.Items.{Item}
use Rattle.bfs_smalldata.specs.Edits.{named}
use Rattle.bfs_stream.specs.Sizes.{Sizes}
use Rattle.bfs_stream.specs.Places.{Levels, HasLevels, HasStream, fields, levels_at, places_of, arrays_at, places_at, bytes_at}
use Rattle.bfs_stream.proofs.Frames.{agree_left, agree_right, joined_same, levels_but}
use Rattle.bfs_tree.specs.declared.call.Kind.{Kind}
use Rattle.bfs_tree.specs.declared.call.Kind.TheVariants.{File, Dir, Link}
use Rattle.bfs_tree.specs.Trees.{Node}
use Rattle.bfs_values.specs.Reached.{IsWholeTree}
use Rattle.bfs_sound.specs.Volumes.{Volume, sizes}
use Rattle.bfs_sound.specs.Inodes.{mode_bits, content, is_short}
use Rattle.bfs_sound.specs.Attributes.{own_name}
use Rattle.bfs_sound.specs.Nodes.{HasTarget, HasContent, IsCalled, HasNode}
use Rattle.bfs_sound.specs.Laws.{with_blocks}
use Rattle.bfs_shift.specs.Inodes.{HasBytes}
use Rattle.bfs_shift.proofs.Rewritten.{words_same}
use Rattle.bfs_shift.proofs.Stamped.{Holds}
use Rattle.bfs_attr.specs.Bearers.{HasAttributes, attributes_at, entries_with}
use Rattle.bfs_attr.specs.Changed.{name_item}
use Rattle.bfs_attr_put.proofs.Alike.{stream_alike}
use Rattle.bfs_attr_put.proofs.Inode.{own_rest, short_same}
use Rattle.bfs_give_name.proofs.Items.{HasName}

holds_of : (u : Volume) (id : ℕ) (n : Node) (k : Kind) → HasContent u id n k → Holds u id n k (is_short u id)
holds_of u id n File c = c
holds_of u id n Dir c = c
holds_of u id n Link c = c

content_of : (u : Volume) (id : ℕ) (n : Node) (k : Kind) (short : Bool) → is_short u id ≡ short → Holds u id n k short → HasContent u id n k
content_of u id n File short e c = c
content_of u id n Dir short e c = c
content_of u id n Link short e c = subst (λ b. HasTarget u id n.target b × (n.size ≡ length n.target)) (sym e) c

module _ (v : Volume) (new : ℕ → List ℕ) (d : ℕ) (kept : inode_at (new d) ≡ record (inode_at (v.blocks d)) { attributes = (inode_at (new d)).attributes; small_data = (inode_at (new d)).small_data }) where
  abbrev w : Volume
  w = with_blocks v new

  abbrev s : Sizes
  s = sizes v.geometry

  target : take 144 (drop 72 (new d)) ≡ take 144 (drop 72 (v.blocks d))
  target = ap (λ (i : Inode). i.stream_bytes) kept

  stream : stream_at (new d) ≡ stream_at (v.blocks d)
  stream = stream_alike (new d) (v.blocks d) target

  module _ (rest : Agree v.blocks new (arrays_at s v.blocks d ++ places_at s v.blocks d)) where
    levels_same : levels_at s new d ≡ levels_at s v.blocks d
    levels_same =
        levels_but v.blocks new s d (agree_left v.blocks new (arrays_at s v.blocks d) (places_at s v.blocks d) rest) (ap (λ (t : Stream). t.indirect) stream) (ap (λ (t : Stream). t.double_indirect) stream)
        ∙ ap (λ (t : Stream). record (levels_at s v.blocks d) { stream = t }) stream

    stream_now : HasStream s v.blocks d → HasStream s new d
    stream_now h = subst (HasLevels s) (sym levels_same) h

    content_same : content w d ≡ content v d
    unfolding bytes_at
    content_same =
        ap (λ (l : Levels). take (natural l.stream.size) (flat_map new (places_of s l))) levels_same
        ∙ ap (take (natural (fields s v.blocks d).size)) (joined_same v.blocks new (λ bytes. bytes) (places_at s v.blocks d) (agree_right v.blocks new (arrays_at s v.blocks d) (places_at s v.blocks d) rest))

  module _ (n now : Node) (size : now.size ≡ n.size) (same_target : now.target ≡ n.target) where
    holds_now : (k : Kind) (short : Bool) → Agree v.blocks new (own_rest v d k short) → Holds v d n k short → Holds w d now k short
    holds_now File short rest c = (stream_now rest c.0, size ∙ c.1 ∙ sym (ap (λ (t : Stream). natural t.size) stream), same_target ∙ c.2)
    holds_now Dir short rest c = (stream_now rest c.0, subst (IsWholeTree Text) (sym (content_same rest)) c.1, size ∙ c.2, same_target ∙ c.3)
    holds_now Link true rest c = (
      (ap (λ (l : List ℕ). before_first (λ b. b == 0) l) target ∙ c.0.0 ∙ sym same_target, subst (λ (l : List ℕ). length l < 144) (sym same_target) c.0.1),
      size ∙ c.1 ∙ ap length (sym same_target),
    )
    holds_now Link false rest c = ((stream_now rest c.0.0, same_target ∙ c.0.1 ∙ sym (content_same rest)), size ∙ c.1 ∙ ap length (sym same_target))

  module _ (bytes : HasBytes (v.blocks d) (new d)) where
    mode_same : mode_bits w d ≡ mode_bits v d
    mode_same = words_same (v.blocks d) (new d) 20 bytes.before.mode bytes.after.mode (ap (λ (i : Inode). i.mode) kept)

    module _ (n : Node) (called_by : List ℕ) (rest : Agree v.blocks new (own_rest v d n.kind (is_short v d))) (stands : HasAttributes w d) (are : attributes_at w d ≡ n.attributes) (name : HasName (v.blocks d) (new d) called_by) (apart : d ≢ v.geometry.root) (has : HasNode v d n) where
      abbrev now : Node
      now = record n { name = called_by }

      inode_now : IsInode (new d) d v.geometry.shift
      inode_now = record {
        magic = ap (λ (i : Inode). i.magic1) kept ∙ has.inode.magic;
        number_is = subst (λ (run : Run). Names run d v.geometry.shift) (sym (ap (λ (i : Inode). i.inode_num) kept)) has.inode.number_is;
        in_use = ap (λ b. b % 2) (words_same (v.blocks d) (new d) 24 bytes.before.flags bytes.after.flags (ap (λ (i : Inode). i.flags) kept)) ∙ has.inode.in_use;
        size = ap (λ (i : Inode). i.inode_size) kept ∙ has.inode.size ∙ ap pos (sym name.long);
      }

      same_items : name.items ≡ stands.items
      same_items = let both : Some name.items ≡ Some stands.items = sym name.area ∙ stands.area in cc

      called : IsCalled w d now stands.items
      called = record {
        root_name = λ e. absurd (apart e);
        root_parent = λ e. absurd (apart e);
        name = λ other. (name_item called_by, subst (λ (l : List Item). named own_name l ≡ Some (name_item called_by)) same_items name.own, refl, refl);
        parent = λ other. subst (λ (run : Run). Names run n.parent v.geometry.shift) (sym (ap (λ (i : Inode). i.parent) kept)) (has.called.parent other);
      }

      content_now : HasContent w d now n.kind
      content_now = content_of w d now n.kind (is_short v d) (short_same v new d kept bytes) (holds_now n now refl refl n.kind (is_short v d) rest (holds_of v d n n.kind has.content_is))

      pub node_called : HasNode w d now
      node_called = record {
        inode = inode_now;
        kind = ap (λ bits. bits / 4096 % 16) mode_same ∙ has.kind;
        mode = has.mode ∙ sym (ap (λ bits. bits % 4096) mode_same);
        uid = has.uid ∙ sym (ap (λ (i : Inode). i.uid) kept);
        gid = has.gid ∙ sym (ap (λ (i : Inode). i.gid) kept);
        created = has.created ∙ sym (ap (λ (i : Inode). i.create_time) kept);
        modified = has.modified ∙ sym (ap (λ (i : Inode). i.last_modified_time) kept);
        changed = has.changed ∙ sym (ap (λ (i : Inode). i.status_change_time) kept);
        content_is = content_now;
        items = stands.items;
        area = stands.area;
        distinct = stands.distinct;
        short = subst (AllByRecursion (λ item. length item.name ≤ 255)) same_items name.short;
        called = called;
        directory = stands.directory;
        apart = stands.apart;
        attributes = sym are ∙ ap (λ (o : Option (List Item)). from_entries {R = text_cmp} (entries_with w d (unwrap_or o []))) stands.area;
      }
