-- The volume without an index directory is whole.
use Rattle.std.proofs.Common.{◌≡◌, inl, inr, ℕ, pos, List, [], ◌∷◌, length, refl, arith}
use Rattle.std.proofs.lemmas.Int.{ints}
use Rattle.std.specs.Prelude.{codes}
use Rattle.std.specs.Str.{is_utf8, chars}
use Rattle.std.specs.Char.{encode_utf8}
use Rattle.bfs_base.specs.declared.kind.KeyKind.TheVariants.{Text}
use Rattle.bfs_bitmap.specs.Bits.{bit_of}
use Rattle.bfs_bytes.specs.Fields.{unsigned_at, signed32_at, signed64_at, run_in, unsigned_bytes, signed32_bytes, signed64_bytes, run_bytes}
use Rattle.bfs_inode.specs.Inode.{runs_in}
use Rattle.bfs_node.specs.Header.{header_bytes, code_of}
use Rattle.bfs_node.specs.Page.{rows_of, head_bytes}
use Rattle.bfs_smalldata.specs.Items.{Item, items_of, bytes_of}
use Rattle.bfs_stream.specs.Places.{array_runs, level_blocks, arrays_of, bytes_at}
use Rattle.bfs_super.specs.Conditions.{IsValid, IsInodeRun}
use Rattle.bfs_super.specs.Layout.{super_at, sector_of, sizes_of, groups_of, places_of}
use Rattle.bfs_tree.specs.declared.call.Kind.TheVariants.{Dir}
use Rattle.bfs_tree.specs.Trees.{Node, new_node}
use Rattle.bfs_values.specs.Links.{link_in}
use Rattle.bfs_values.specs.Rows.{rows_in}
use Rattle.bfs_sound.specs.Volumes.{Volume}
use Rattle.bfs_sound.specs.Inodes.{content}
use Rattle.bfs_sound.specs.Listings.{IsChild, Lists}
use Rattle.bfs_sound.specs.Nodes.{HasNode}
use Rattle.bfs_sound.specs.Owners.{node_blocks, index_blocks, reach}
use Rattle.bfs_sound.specs.Whole.{IsSound, volume_of, Whole}
use Rattle.bfs_sound_tests.specs.Bytes.{zero_block, run, address, no_run, level_bytes, inode_block, header_block, leaf_block, bitmap_block}
use Rattle.bfs_sound_tests.specs.Worked.{root_node, tree_with}
use Rattle.bfs_sound_tests.specs.Bare.{bare_super, block_list, blocks, root_rows, child_rows, nodes, BareIsWhole}
use Rattle.bfs_sound_tests.proofs.Finite.{low, most, one_named, all_long}
use Rattle.bfs_sound_tests.proofs.Plain.{IsTested, is_node}
use Rattle.bfs_sound_tests.proofs.Leaves.{two_held, plain_values}
use Rattle.bfs_sound_tests.proofs.Streams.{is_inode, names_of}
use Rattle.bfs_sound_tests.proofs.Standing.{HasTree, tree_at, lists, reached, children_of, apart_by, IsCounted, bare_sound}
use Rattle.bfs_sound_tests.proofs.Images.{image_whole}

abbrev v : Volume
v = volume_of bare_super blocks

abbrev child : Node
child = new_node Dir (codes "d") 4 493 0 [] (pos 1000)

abbrev called : List ℕ → Item
called name = record { kind = 0x43535452; name = 19 ∷ []; bytes = name }

tested : IsTested 4 nodes []
unfolding is_utf8 chars encode_utf8
tested = record { sorted = tt; in_order = tt; top = root_node; there = refl; dir = refl; unnamed = refl; own = refl; parents = refl; lead = refl; named = refl; apart = refl; kinds = inl refl }

root_tree : HasTree v 4 Text root_rows
unfolding unsigned_at signed32_at signed64_at run_in runs_in unsigned_bytes signed32_bytes signed64_bytes run_bytes array_runs level_blocks bytes_at rows_of header_bytes head_bytes bytes_of level_bytes inode_block header_block leaf_block blocks link_in
root_tree = tree_at v 4 Text 2048 [] root_rows (is_inode (v.blocks 4) 4 13 refl refl refl refl refl)
    (record { direct = refl; table = inl refl; in_table = refl; double = refl; arrays = refl; runs = refl; direct_range = refl; indirect_range = refl; double_range = refl; size_is = refl; enough = refl })
    (record { long = refl; pages = refl; few = most (code_of Text) 4 refl; header = refl; body = refl; links = refl; ascend = ((refl, (refl, tt)), ((refl, tt), (tt, tt))); once = two_held })
    (plain_values (content v 4) root_rows (λ at f. refl) refl refl)

child_tree : HasTree v 7 Text child_rows
unfolding unsigned_at signed32_at signed64_at run_in runs_in unsigned_bytes signed32_bytes signed64_bytes run_bytes array_runs level_blocks bytes_at rows_of header_bytes head_bytes bytes_of level_bytes inode_block header_block leaf_block blocks link_in
child_tree = tree_at v 7 Text 2048 [] child_rows (is_inode (v.blocks 7) 7 13 refl refl refl refl refl)
    (record { direct = refl; table = inl refl; in_table = refl; double = refl; arrays = refl; runs = refl; direct_range = refl; indirect_range = refl; double_range = refl; size_is = refl; enough = refl })
    (record { long = refl; pages = refl; few = most (code_of Text) 4 refl; header = refl; body = refl; links = refl; ascend = ((refl, tt), (tt, tt)); once = two_held })
    (plain_values (content v 7) child_rows (λ at f. refl) refl refl)

root : HasNode v 4 root_node
unfolding unsigned_at signed32_at signed64_at run_in runs_in unsigned_bytes signed32_bytes signed64_bytes run_bytes array_runs level_blocks bytes_at rows_of header_bytes head_bytes bytes_of level_bytes inode_block header_block leaf_block blocks items_of
root = record {
  inode = root_tree.owner.inode;
  kind = refl;
  mode = refl;
  uid = refl;
  gid = refl;
  created = refl;
  modified = refl;
  changed = refl;
  content_is = (root_tree.owner.stream, root_tree.tree, refl, refl);
  items = [];
  area = refl;
  distinct = λ name. omega arith;
  short = tt;
  called = record { root_name = λ _. refl; root_parent = λ _. refl; name = λ other. absurd (other refl); parent = λ other. absurd (other refl) };
  directory = tt;
  apart = λ name. omega arith;
  attributes = refl;
}

child_node : HasNode v 7 child
unfolding unsigned_at signed32_at signed64_at run_in runs_in unsigned_bytes signed32_bytes signed64_bytes run_bytes array_runs level_blocks bytes_at rows_of header_bytes head_bytes bytes_of level_bytes inode_block header_block leaf_block blocks items_of
child_node = record {
  inode = child_tree.owner.inode;
  kind = refl;
  mode = refl;
  uid = refl;
  gid = refl;
  created = refl;
  modified = refl;
  changed = refl;
  content_is = (child_tree.owner.stream, child_tree.tree, refl, refl);
  items = called (codes "d") ∷ [];
  area = refl;
  distinct = one_named (λ (item : Item). item.name) (called (codes "d") ∷ []) refl;
  short = (most 1 255 refl, tt);
  called = record { root_name = λ e. absurd (apart_by 7 4 refl e); root_parent = λ e. absurd (apart_by 7 4 refl e); name = λ _. (_, refl, refl, refl); parent = λ _. names_of _ 4 13 refl refl };
  directory = tt;
  apart = λ name. omega arith;
  attributes = refl;
}

root_lists : Lists v (tree_with [] nodes) 4 root_node
root_lists = lists v (tree_with [] nodes) 4 root_node root_rows root_tree.rows_of (inl (refl, refl), (inr (inl (refl, refl)), (inr (inr (7, refl, is_child)), tt))) refl refl
    (children_of nodes 4 root_rows tested ((λ other _. absurd (other refl)), ((λ _ _. refl), tt)))
  where
    is_child : IsChild (tree_with [] nodes) 4 (codes "d") 7
    is_child = record { node = child; there = is_node 4 nodes [] tested 7 child refl; not_root = apart_by 7 4 refl; parent = refl; named = refl }

child_lists : Lists v (tree_with [] nodes) 7 child
child_lists = lists v (tree_with [] nodes) 7 child child_rows child_tree.rows_of (inl (refl, refl), (inr (inl (refl, refl)), tt)) refl refl
    (children_of nodes 7 child_rows tested ((λ other _. absurd (other refl)), ((λ _ up. absurd (apart_by 4 7 refl up)), tt)))

abbrev xs : List ℕ
xs = 0 ∷ 2 ∷ 3 ∷ 1 ∷ 4 ∷ 5 ∷ 6 ∷ 7 ∷ 8 ∷ 9 ∷ []

reach_is : reach v (tree_with [] nodes) ≡ xs
unfolding unsigned_at signed32_at signed64_at run_in runs_in unsigned_bytes signed32_bytes signed64_bytes run_bytes array_runs level_blocks bytes_at rows_of header_bytes head_bytes bytes_of level_bytes inode_block header_block leaf_block blocks arrays_of rows_in node_blocks index_blocks
reach_is = reached v nodes xs tested refl

counted : IsCounted v xs
unfolding unsigned_at bit_of bitmap_block blocks
counted = record { bits = refl; inside = refl; used = refl }

is_sound : IsSound v (tree_with [] nodes)
is_sound = bare_sound v nodes refl refl tested (root, (child_node, tt)) ((λ _. root_lists), ((λ _. child_lists), tt)) xs reach_is counted

root_run : IsInodeRun bare_super (address 4)
root_run = ((omega (arith, ints), omega (arith, ints)), refl, low 1 4 refl, low 4 64 refl, inr (most 4 4 refl))

valid : IsValid bare_super
valid = record {
  magic1 = refl;
  magic2 = refl;
  magic3 = refl;
  order = refl;
  block_size = (most 10 10 refl, most 10 13 refl, refl);
  inode_size = refl;
  length = (omega (arith, ints), omega (arith, ints));
  groups = ((omega (arith, ints), omega (arith, ints), omega (arith, ints)), refl, refl);
  log = ((omega (arith, ints), omega (arith, ints)), most 4 8192 refl, most 2 2 refl, low 1 2 refl, most 4 64 refl);
  log_start = (omega (arith, ints), omega (arith, ints));
  log_end = (omega (arith, ints), omega (arith, ints));
  root = root_run;
  indices = inl (refl, refl, refl);
}

reads : super_at (sector_of bare_super) ≡ bare_super
unfolding unsigned_at signed32_at signed64_at run_in unsigned_bytes signed32_bytes signed64_bytes run_bytes sizes_of groups_of places_of
reads = refl

full : length (sector_of bare_super) ≡ 512
unfolding unsigned_bytes signed32_bytes signed64_bytes run_bytes sizes_of groups_of places_of
full = refl

blocks_long : (k : ℕ) → length (blocks k) ≡ 1024
unfolding unsigned_bytes signed32_bytes signed64_bytes run_bytes header_bytes head_bytes bytes_of level_bytes inode_block header_block leaf_block bitmap_block blocks
blocks_long k = all_long 1024 block_list zero_block refl refl k

blocks_whole : Whole bare_super blocks (tree_with [] nodes)
blocks_whole = record { valid = record { super = valid; long = λ k _. blocks_long k }; emptied = refl; sound = is_sound }

pub bare_whole : BareIsWhole
bare_whole = image_whole no_run (run 2 2) 0 0 10 blocks blocks_long valid reads full (tree_with [] nodes) blocks_whole
