-- The volume with two attribute directories that have rows `.` and `..` is whole.
use Rattle.std.proofs.Common.{◌≡◌, inl, inr, ℕ, List, [], ◌∷◌, Some, false, refl, ap, arith, length}
use Rattle.std.specs.Prelude.{codes, ◌==◌}
use Rattle.std.specs.Ordering.{nat_cmp}
use Rattle.std.specs.FinMap.{find}
use Rattle.std.specs.Str.{is_utf8, chars}
use Rattle.std.specs.Char.{encode_utf8}
use Rattle.bfs_base.specs.Keys.{number_of}
use Rattle.bfs_base.specs.declared.kind.KeyKind.TheVariants.{Text, I64}
use Rattle.bfs_bitmap.specs.Bits.{bit_of}
use Rattle.bfs_bytes.specs.Fields.{unsigned_at, signed32_at, signed64_at, run_in, unsigned_bytes, signed32_bytes, signed64_bytes, run_bytes}
use Rattle.bfs_inode.specs.Inode.{runs_in}
use Rattle.bfs_node.specs.Header.{header_bytes}
use Rattle.bfs_node.specs.Page.{rows_of, head_bytes}
use Rattle.bfs_smalldata.specs.Items.{Item, items_of, bytes_of}
use Rattle.bfs_stream.specs.Places.{array_runs, level_blocks, arrays_of, bytes_at}
use Rattle.bfs_tree.specs.Trees.{Node}
use Rattle.bfs_values.specs.Rows.{rows_in}
use Rattle.bfs_values.specs.Links.{link_in}
use Rattle.bfs_sound.specs.Attributes.{Named, IsAttributeDirectory}
use Rattle.bfs_sound.specs.Listings.{IsChild, Lists, IsIndex}
use Rattle.bfs_sound.specs.Inodes.{kind_bits}
use Rattle.bfs_sound.specs.Nodes.{HasNode}
use Rattle.bfs_sound.specs.Owners.{node_blocks, index_blocks, reach}
use Rattle.bfs_sound.specs.Whole.{IsSound}
use Rattle.bfs_sound_tests.specs.Bytes.{zero_block, level_bytes, inode_block, header_block, leaf_block, bitmap_block}
use Rattle.bfs_sound_tests.specs.Worked.{index_kinds, root_node, tree_of}
use Rattle.bfs_sound_tests.specs.Attributes.{block_list, blocks, root_rows, name_rows, size_rows, time_rows, one_attribute, file_node, link_node, nodes, AttributesAreWhole}
use Rattle.bfs_sound_tests.proofs.Finite.{low, most, one_named, all_long}
use Rattle.bfs_sound_tests.proofs.Plain.{IsTested, is_node}
use Rattle.bfs_sound_tests.proofs.Streams.{names_of}
use Rattle.bfs_sound_tests.proofs.Standing.{lists, listing, reached, children_of, apart_by, IsListing, IsCounted, sound}
use Rattle.bfs_sound_tests.proofs.AttributeTrees.{v, root_tree, indices_tree, name_tree, size_tree, time_tree, file_tree, link_tree, file_owner, file_attribute, link_attribute, link_inode}
use Rattle.bfs_sound_tests.proofs.Supers.{whole, reads_29, full_29}
use Rattle.bfs_sound_tests.proofs.Images.{to_image}

tested : IsTested 4 nodes index_kinds
unfolding is_utf8 chars encode_utf8
tested = record { sorted = tt; in_order = tt; top = root_node; there = refl; dir = refl; unnamed = refl; own = refl; parents = refl; lead = refl; named = refl; apart = refl; kinds = inr (refl, refl, refl) }

abbrev called : List ℕ → Item
called name = record { kind = 0x43535452; name = 19 ∷ []; bytes = name }

root : HasNode v 4 root_node
unfolding unsigned_at signed32_at signed64_at run_in runs_in unsigned_bytes signed32_bytes signed64_bytes run_bytes array_runs level_blocks bytes_at rows_of header_bytes head_bytes bytes_of level_bytes inode_block header_block leaf_block blocks items_of
root = record {
  inode = root_tree.owner.inode;
  kind = refl;
  mode = refl;
  uid = refl;
  gid = refl;
  created = refl;
  modified = refl;
  changed = refl;
  content_is = (root_tree.owner.stream, root_tree.tree, refl, refl);
  items = [];
  area = refl;
  distinct = λ name. omega arith;
  short = tt;
  called = record { root_name = λ _. refl; root_parent = λ _. refl; name = λ other. absurd (other refl); parent = λ other. absurd (other refl) };
  directory = tt;
  apart = λ name. omega arith;
  attributes = refl;
}

file_directory : IsAttributeDirectory v 19 21
unfolding unsigned_at signed32_at signed64_at run_in runs_in unsigned_bytes signed32_bytes signed64_bytes run_bytes array_runs level_blocks bytes_at rows_of header_bytes head_bytes bytes_of level_bytes inode_block header_block leaf_block blocks rows_in
file_directory = record { address = names_of _ 21 13 refl refl; owner = file_tree.owner; mode = refl; tree = file_tree.tree; rows = (record { number = refl; owner = file_attribute; mode = refl }, tt) }

file : HasNode v 19 file_node
unfolding unsigned_at signed32_at signed64_at run_in runs_in unsigned_bytes signed32_bytes signed64_bytes run_bytes array_runs level_blocks bytes_at rows_of header_bytes head_bytes bytes_of level_bytes inode_block header_block leaf_block blocks items_of rows_in
file = record {
  inode = file_owner.inode;
  kind = refl;
  mode = refl;
  uid = refl;
  gid = refl;
  created = refl;
  modified = refl;
  changed = refl;
  content_is = (file_owner.stream, refl, refl);
  items = called (codes "f") ∷ [];
  area = refl;
  distinct = one_named (λ (item : Item). item.name) (called (codes "f") ∷ []) refl;
  short = (most 1 255 refl, tt);
  called = record { root_name = λ e. absurd (apart_by 19 4 refl e); root_parent = λ e. absurd (apart_by 19 4 refl e); name = λ _. (_, refl, refl, refl); parent = λ _. names_of _ 4 13 refl refl };
  directory = file_directory;
  apart = one_named (λ (e : Named). e.0) (one_attribute (codes "b")) refl;
  attributes = refl;
}

link_directory : IsAttributeDirectory v 20 25
unfolding unsigned_at signed32_at signed64_at run_in runs_in unsigned_bytes signed32_bytes signed64_bytes run_bytes array_runs level_blocks bytes_at rows_of header_bytes head_bytes bytes_of level_bytes inode_block header_block leaf_block blocks rows_in
link_directory = record { address = names_of _ 25 13 refl refl; owner = link_tree.owner; mode = refl; tree = link_tree.tree; rows = (record { number = refl; owner = link_attribute; mode = refl }, tt) }

link : HasNode v 20 link_node
unfolding unsigned_at signed32_at signed64_at run_in runs_in unsigned_bytes signed32_bytes signed64_bytes run_bytes array_runs level_blocks bytes_at rows_of header_bytes head_bytes bytes_of level_bytes inode_block header_block leaf_block blocks items_of rows_in
link = record {
  inode = link_inode;
  kind = refl;
  mode = refl;
  uid = refl;
  gid = refl;
  created = refl;
  modified = refl;
  changed = refl;
  content_is = ((refl, low 1 144 refl), refl);
  items = called (codes "l") ∷ [];
  area = refl;
  distinct = one_named (λ (item : Item). item.name) (called (codes "l") ∷ []) refl;
  short = (most 1 255 refl, tt);
  called = record { root_name = λ e. absurd (apart_by 20 4 refl e); root_parent = λ e. absurd (apart_by 20 4 refl e); name = λ _. (_, refl, refl, refl); parent = λ _. names_of _ 4 13 refl refl };
  directory = link_directory;
  apart = one_named (λ (e : Named). e.0) (one_attribute (codes "c")) refl;
  attributes = refl;
}

root_lists : Lists v (tree_of nodes) 4 root_node
root_lists = lists v (tree_of nodes) 4 root_node root_rows root_tree.rows_of
    (inl (refl, refl), (inr (inl (refl, refl)), (inr (inr (19, refl, child (codes "f") 19 file_node refl refl refl refl)), (inr (inr (20, refl, child (codes "l") 20 link_node refl refl refl refl)), tt)))) refl refl
    (children_of nodes 4 root_rows tested ((λ other _. absurd (other refl)), ((λ _ _. refl), ((λ _ _. refl), tt))))
  where
    child : (name : List ℕ) (id : ℕ) (n : Node) → find nat_cmp id nodes ≡ Some n → (id == 4) ≡ false → n.parent ≡ 4 → n.name ≡ name → IsChild (tree_of nodes) 4 name id
    child name id n there other up named = record { node = n; there = is_node 4 nodes index_kinds tested id n there; not_root = apart_by id 4 other; parent = up; named = named }

index_directory : IsIndex v 7 Text
unfolding unsigned_at signed32_at signed64_at run_in runs_in unsigned_bytes signed32_bytes signed64_bytes run_bytes array_runs level_blocks bytes_at rows_of header_bytes head_bytes bytes_of level_bytes inode_block header_block leaf_block blocks
index_directory = record { owner = indices_tree.owner; mode = refl; kind_is = tt; tree = indices_tree.tree }

by_time : IsListing v (tree_of nodes) (codes "last_modified") 16 I64
unfolding unsigned_at signed32_at signed64_at run_in runs_in unsigned_bytes signed32_bytes signed64_bytes run_bytes array_runs level_blocks bytes_at rows_of header_bytes head_bytes bytes_of level_bytes inode_block header_block leaf_block blocks link_in number_of
by_time = listing v nodes (codes "last_modified") 16 I64 time_rows tested time_tree refl tt refl

by_name : IsListing v (tree_of nodes) (codes "name") 10 Text
unfolding unsigned_at signed32_at signed64_at run_in runs_in unsigned_bytes signed32_bytes signed64_bytes run_bytes array_runs level_blocks bytes_at rows_of header_bytes head_bytes bytes_of level_bytes inode_block header_block leaf_block blocks link_in
by_name = listing v nodes (codes "name") 10 Text name_rows tested name_tree refl tt refl

by_size : IsListing v (tree_of nodes) (codes "size") 13 I64
unfolding unsigned_at signed32_at signed64_at run_in runs_in unsigned_bytes signed32_bytes signed64_bytes run_bytes array_runs level_blocks bytes_at rows_of header_bytes head_bytes bytes_of level_bytes inode_block header_block leaf_block blocks link_in number_of
by_size = listing v nodes (codes "size") 13 I64 size_rows tested size_tree refl tt refl

abbrev xs : List ℕ
xs = 0 ∷ 2 ∷ 3 ∷ 1 ∷ 4 ∷ 5 ∷ 6 ∷ 19 ∷ 21 ∷ 22 ∷ 23 ∷ 24 ∷ 20 ∷ 25 ∷ 26 ∷ 27 ∷ 28 ∷ 7 ∷ 8 ∷ 9 ∷ 16 ∷ 17 ∷ 18 ∷ 10 ∷ 11 ∷ 12 ∷ 13 ∷ 14 ∷ 15 ∷ []

reach_is : reach v (tree_of nodes) ≡ xs
unfolding unsigned_at signed32_at signed64_at run_in runs_in unsigned_bytes signed32_bytes signed64_bytes run_bytes array_runs level_blocks bytes_at rows_of header_bytes head_bytes bytes_of level_bytes inode_block header_block leaf_block blocks arrays_of rows_in node_blocks index_blocks
reach_is = reached v nodes xs tested refl

counted : IsCounted v xs
unfolding unsigned_at bit_of bitmap_block blocks
counted = record { bits = refl; inside = refl; used = refl }

is_sound : IsSound v (tree_of nodes)
is_sound = sound v nodes refl refl tested (root, (file, (link, tt))) ((λ _. root_lists), ((λ e. absurd (apart_by 8 4 refl (ap kind_bits e))), ((λ e. absurd (apart_by 10 4 refl (ap kind_bits e))), tt)))
    index_directory indices_tree.rows_of by_time by_name by_size xs reach_is counted

pub blocks_long : (k : ℕ) → length (blocks k) ≡ 1024
unfolding unsigned_bytes signed32_bytes signed64_bytes run_bytes header_bytes head_bytes bytes_of level_bytes inode_block header_block leaf_block bitmap_block blocks
blocks_long k = all_long 1024 block_list zero_block refl refl k

pub attributes_whole : AttributesAreWhole
attributes_whole = to_image 29 blocks blocks_long reads_29 full_29 (tree_of nodes) (whole 29 blocks (tree_of nodes) blocks_long is_sound)
