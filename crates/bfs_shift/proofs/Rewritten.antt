-- A node whose inode's block was written is the node of the new record.
use Rattle.std.proofs.Common.{◌≡◌, ◌<◌, ◌-◌, ◌∙◌, ◌^◌, ◌%◌, ◌/◌, pos, if◌then◌else◌, None, Some, ℕ, List, ◌++◌, length, sym, ap, subst, arith, length-drop}
use Rattle.std.specs.Prelude.{◌==◌}
use Rattle.std.specs.FinMap.{from_entries}
use Rattle.std.specs.List.{flat_map}
use Rattle.std.specs.Int.{w32, cast_signed, cast_unsigned}
use Rattle.std.proofs.lemmas.Int.{of_z-to_z}
use Rattle.bfs_base.specs.Lists.{Agree}
use Rattle.bfs_bytes.specs.declared.Run.{Run}
use Rattle.bfs_bytes.specs.Fields.{unsigned_at, signed32_at, run_in}
use Rattle.bfs_inode.specs.Inode.{Inode}
use Rattle.bfs_inode.specs.Refusals.{IsInode, Names}
use Rattle.bfs_smalldata.specs.Items.{Item, items_of}
use Rattle.bfs_stream.specs.Sizes.{first_block}
use Rattle.bfs_maps.specs.Moves.{KeepsInode}
use Rattle.bfs_tree.specs.Trees.{Node}
use Rattle.bfs_sound.specs.Volumes.{Volume, sizes}
use Rattle.bfs_sound.specs.Inodes.{HasBit, mode_bits, inode_blocks, is_short}
use Rattle.bfs_sound.specs.Attributes.{is_zero, attribute_directory, attribute_inodes, attributes_in, attributes_of, HasDirectory}
use Rattle.bfs_sound.specs.Nodes.{HasContent, IsCalled, AreApart, HasNode}
use Rattle.bfs_sound.specs.Laws.{with_blocks}
use Rattle.bfs_sound.proofs.Nodes.{other_blocks}
use Rattle.bfs_sound.proofs.Rows.{inodes_stay, has_directory_stays, attributes_stay, attribute_inodes_stay}
use Rattle.bfs_shift.specs.Inodes.{KeepsPlace, HasBytes, IsSamePlace, HasStatus}

same_words : (a b : ℕ) → a < 2 ^ 32 → b < 2 ^ 32 → cast_signed w32 a ≡ cast_signed w32 b → a ≡ b
same_words a b low too e = sym (of_z-to_z w32 a low) ∙ ap (cast_unsigned w32) e ∙ of_z-to_z w32 b too

pub words_same : (old new : List ℕ) (at : ℕ) → unsigned_at 4 old at < 2 ^ 32 → unsigned_at 4 new at < 2 ^ 32 → signed32_at new at ≡ signed32_at old at → unsigned_at 4 new at ≡ unsigned_at 4 old at
unfolding signed32_at
words_same old new at low too e = same_words (unsigned_at 4 new at) (unsigned_at 4 old at) too low e

pub keeps_place : (old new : List ℕ) → KeepsInode old new → KeepsPlace old new
keeps_place old new e = record {
  magic = ap (λ (i : Inode). i.magic1) e.0;
  number = ap (λ (i : Inode). i.inode_num) e.0;
  flags = ap (λ (i : Inode). i.flags) e.0;
  parent = ap (λ (i : Inode). i.parent) e.0;
  attributes = ap (λ (i : Inode). i.attributes) e.0;
  inode_size = ap (λ (i : Inode). i.inode_size) e.0;
  small_data = ap (λ (i : Inode). i.small_data) e.0;
}

long_same : (a b : ℕ) → 232 < a → b - 232 ≡ a - 232 → b ≡ a
long_same a b long e = omega (arith, long, e)

module _ (v : Volume) (new : ℕ → List ℕ) (d : ℕ) (kept : KeepsPlace (v.blocks d) (new d)) (bytes : HasBytes (v.blocks d) (new d)) where
  abbrev w : Volume
  w = with_blocks v new

  length_is : length (new d) ≡ length (v.blocks d)
  length_is = long_same (length (v.blocks d)) (length (new d)) bytes.long (sym (length-drop 232 (new d)) ∙ ap length kept.small_data ∙ length-drop 232 (v.blocks d))

  pub flags_same : unsigned_at 4 (new d) 24 ≡ unsigned_at 4 (v.blocks d) 24
  flags_same = words_same (v.blocks d) (new d) 24 bytes.before.flags bytes.after.flags kept.flags

  pub inode_is : IsInode (v.blocks d) d v.geometry.shift → IsInode (new d) d v.geometry.shift
  inode_is i = record {
    magic = kept.magic ∙ i.magic;
    number_is = subst (λ (run : Run). Names run d v.geometry.shift) (sym kept.number) i.number_is;
    in_use = ap (λ b. b % 2) flags_same ∙ i.in_use;
    size = kept.inode_size ∙ i.size ∙ ap pos (sym length_is);
  }

  pub short_same : is_short w d ≡ is_short v d
  short_same = ap (λ n. n / 64 % 2 == 0) flags_same

  pub directory_is : attribute_directory w d ≡ attribute_directory v d
  directory_is = ap (λ run. if is_zero run then None else Some (first_block (sizes v.geometry) run)) kept.attributes

  module _ (others : Agree v.blocks new (other_blocks v d)) where
    attributes_are : attributes_of w (attribute_directory w d) ≡ attributes_of v (attribute_directory v d)
    attributes_are = ap (attributes_of w) directory_is ∙ attributes_stay v new v.geometry.used (attribute_directory v d) others

    has_directory : HasDirectory v d (attribute_directory v d) → HasDirectory w d (attribute_directory w d)
    has_directory h = subst (HasDirectory w d) (sym directory_is) (has_directory_stays v new v.geometry.used (attribute_directory v d) d kept.attributes others h)

    -- its other blocks, of its attribute directory and its attributes
    pub others_are : other_blocks w d ≡ other_blocks v d
    others_are =
        ap (λ o. flat_map (inode_blocks w) (attribute_inodes w o)) directory_is
        ∙ ap (flat_map (inode_blocks w)) (attribute_inodes_stay v new v.geometry.used (attribute_directory v d) others)
        ∙ inodes_stay v new v.geometry.used (attribute_inodes v (attribute_directory v d)) others

    module _ (n now : Node) (same : IsSamePlace n now) where
      called : (items : List Item) → IsCalled v d n items → IsCalled w d now items
      called items c = record {
        root_name = λ e. same.name ∙ c.root_name e;
        root_parent = λ e. same.parent ∙ c.root_parent e;
        name = λ other. let i = c.name other in (i.0, i.1, i.2, i.3 ∙ sym same.name);
        parent = λ other. subst (λ (p : ℕ). Names (run_in (new d) 44) p v.geometry.shift) (sym same.parent) (subst (λ (run : Run). Names run n.parent v.geometry.shift) (sym kept.parent) (c.parent other));
      }

      attributes_now : (items : List Item) → n.attributes ≡ from_entries (attributes_in items ++ attributes_of v (attribute_directory v d)) → now.attributes ≡ from_entries (attributes_in items ++ attributes_of w (attribute_directory w d))
      attributes_now items e = same.attributes ∙ e ∙ ap (λ l. from_entries (attributes_in items ++ l)) (sym attributes_are)

      pub node_restated : HasStatus w d now → HasContent w d now now.kind → HasNode v d n → HasNode w d now
      node_restated status content h = record {
        inode = inode_is h.inode;
        kind = status.kind;
        mode = status.mode;
        uid = status.uid;
        gid = status.gid;
        created = status.created;
        modified = status.modified;
        changed = status.changed;
        content_is = content;
        items = h.items;
        area = ap items_of kept.small_data ∙ h.area;
        distinct = h.distinct;
        short = h.short;
        called = called h.items h.called;
        directory = has_directory h.directory;
        apart = subst (λ l. AreApart (attributes_in h.items ++ l)) (sym attributes_are) h.apart;
        attributes = attributes_now h.items h.attributes;
      }

-- where the stream alone was written, the status is the same
module _ (v : Volume) (new : ℕ → List ℕ) (d : ℕ) (kept : KeepsInode (v.blocks d) (new d)) (bytes : HasBytes (v.blocks d) (new d)) where
  mode_same : mode_bits (with_blocks v new) d ≡ mode_bits v d
  mode_same = words_same (v.blocks d) (new d) 20 bytes.before.mode bytes.after.mode (ap (λ (i : Inode). i.mode) kept.0)

  pub bit_kept : (i : ℕ) → HasBit (mode_bits v d) i → HasBit (mode_bits (with_blocks v new) d) i
  bit_kept i h = subst (λ bits. HasBit bits i) (sym mode_same) h

  pub same_status : (n : Node) → HasNode v d n → HasStatus (with_blocks v new) d n
  same_status n h = record {
    kind = ap (λ bits. bits / 4096 % 16) mode_same ∙ h.kind;
    mode = h.mode ∙ sym (ap (λ bits. bits % 4096) mode_same);
    uid = h.uid ∙ sym (ap (λ (i : Inode). i.uid) kept.0);
    gid = h.gid ∙ sym (ap (λ (i : Inode). i.gid) kept.0);
    created = h.created ∙ sym (ap (λ (i : Inode). i.create_time) kept.0);
    modified = h.modified ∙ sym (ap (λ (i : Inode). i.last_modified_time) kept.0);
    changed = h.changed ∙ sym (ap (λ (i : Inode). i.status_change_time) kept.0);
  }
