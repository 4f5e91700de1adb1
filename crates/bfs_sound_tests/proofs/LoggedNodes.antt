-- The volume whose log was replayed is sound.
use Rattle.std.proofs.Common.{◌≡◌, inl, inr, ℕ, pos, List, [], ◌∷◌, refl, arith}
use Rattle.std.specs.Prelude.{codes}
use Rattle.std.specs.Str.{is_utf8, chars}
use Rattle.std.specs.Char.{encode_utf8}
use Rattle.bfs_base.specs.declared.kind.KeyKind.TheVariants.{Text, I64}
use Rattle.bfs_bitmap.specs.Bits.{bit_of}
use Rattle.bfs_bytes.specs.Fields.{unsigned_at, signed32_at, signed64_at, run_in, unsigned_bytes, signed32_bytes, signed64_bytes, run_bytes}
use Rattle.bfs_inode.specs.Inode.{runs_in}
use Rattle.bfs_node.specs.Header.{header_bytes}
use Rattle.bfs_node.specs.Page.{rows_of, head_bytes}
use Rattle.bfs_smalldata.specs.Items.{Item, items_of, bytes_of}
use Rattle.bfs_stream.specs.Places.{array_runs, level_blocks, arrays_of, bytes_at}
use Rattle.bfs_tree.specs.declared.call.Kind.TheVariants.{Dir}
use Rattle.bfs_tree.specs.Trees.{Node, new_node}
use Rattle.bfs_values.specs.Rows.{rows_in}
use Rattle.bfs_values.specs.Links.{link_in}
use Rattle.bfs_sound.specs.Listings.{IsChild, Lists, IsIndex}
use Rattle.bfs_sound.specs.Nodes.{HasNode}
use Rattle.bfs_sound.specs.Owners.{node_blocks, index_blocks, reach}
use Rattle.bfs_sound.specs.Whole.{IsSound}
use Rattle.bfs_sound_tests.specs.Bytes.{level_bytes, inode_block, header_block, leaf_block, bitmap_block}
use Rattle.bfs_sound_tests.specs.Worked.{index_kinds, root_node, tree_of}
use Rattle.bfs_sound_tests.specs.Directory.{root_rows, nodes}
use Rattle.bfs_sound_tests.specs.Logged.{child_rows, name_rows, blocks}
use Rattle.bfs_sound_tests.proofs.Finite.{most, one_named}
use Rattle.bfs_sound_tests.proofs.Plain.{IsTested, is_node}
use Rattle.bfs_sound_tests.proofs.Streams.{names_of}
use Rattle.bfs_sound_tests.proofs.Standing.{lists, listing, reached, children_of, apart_by, IsListing, IsCounted, sound}
use Rattle.bfs_sound_tests.proofs.LoggedTrees.{v, no_rows, root_tree, child_tree, indices_tree, name_tree, size_tree, time_tree}

abbrev child : Node
child = new_node Dir (codes "d") 4 493 0 [] (pos 1000)

abbrev child_items : List Item
child_items = record { kind = 0x43535452; name = 19 ∷ []; bytes = codes "d" } ∷ []

tested : IsTested 4 nodes index_kinds
unfolding is_utf8 chars encode_utf8
tested = record { sorted = tt; in_order = tt; top = root_node; there = refl; dir = refl; unnamed = refl; own = refl; parents = refl; lead = refl; named = refl; apart = refl; kinds = inr (refl, refl, refl) }

root : HasNode v 4 root_node
unfolding unsigned_at signed32_at signed64_at run_in unsigned_bytes signed32_bytes signed64_bytes run_bytes bytes_of items_of level_bytes inode_block header_block leaf_block blocks
root = record {
  inode = root_tree.owner.inode;
  kind = refl;
  mode = refl;
  uid = refl;
  gid = refl;
  created = refl;
  modified = refl;
  changed = refl;
  content_is = (root_tree.owner.stream, root_tree.tree, refl, refl);
  items = [];
  area = refl;
  distinct = λ name. omega arith;
  short = tt;
  called = record { root_name = λ _. refl; root_parent = λ _. refl; name = λ other. absurd (other refl); parent = λ other. absurd (other refl) };
  directory = tt;
  apart = λ name. omega arith;
  attributes = refl;
}

child_node : HasNode v 19 child
unfolding unsigned_at signed32_at signed64_at run_in unsigned_bytes signed32_bytes signed64_bytes run_bytes bytes_of items_of level_bytes inode_block header_block leaf_block blocks
child_node = record {
  inode = child_tree.owner.inode;
  kind = refl;
  mode = refl;
  uid = refl;
  gid = refl;
  created = refl;
  modified = refl;
  changed = refl;
  content_is = (child_tree.owner.stream, child_tree.tree, refl, refl);
  items = child_items;
  area = refl;
  distinct = one_named (λ (item : Item). item.name) child_items refl;
  short = (most 1 255 refl, tt);
  called = record { root_name = λ e. absurd (apart_by 19 4 refl e); root_parent = λ e. absurd (apart_by 19 4 refl e); name = λ _. (_, refl, refl, refl); parent = λ _. names_of _ 4 13 refl refl };
  directory = tt;
  apart = λ name. omega arith;
  attributes = refl;
}

root_lists : Lists v (tree_of nodes) 4 root_node
root_lists = lists v (tree_of nodes) 4 root_node root_rows root_tree.rows_of (inl (refl, refl), (inr (inl (refl, refl)), (inr (inr (19, refl, is_child)), tt))) refl refl
    (children_of nodes 4 root_rows tested ((λ other _. absurd (other refl)), ((λ _ _. refl), tt)))
  where
    is_child : IsChild (tree_of nodes) 4 (codes "d") 19
    is_child = record { node = child; there = is_node 4 nodes index_kinds tested 19 child refl; not_root = apart_by 19 4 refl; parent = refl; named = refl }

child_lists : Lists v (tree_of nodes) 19 child
child_lists = lists v (tree_of nodes) 19 child child_rows child_tree.rows_of (inl (refl, refl), (inr (inl (refl, refl)), tt)) refl refl
    (children_of nodes 19 child_rows tested ((λ other _. absurd (other refl)), ((λ _ up. absurd (apart_by 4 19 refl up)), tt)))

directory : IsIndex v 7 Text
unfolding unsigned_at signed32_at signed64_at run_in unsigned_bytes signed32_bytes signed64_bytes run_bytes level_bytes inode_block header_block leaf_block blocks
directory = record { owner = indices_tree.owner; mode = refl; kind_is = tt; tree = indices_tree.tree }

by_time : IsListing v (tree_of nodes) (codes "last_modified") 16 I64
unfolding unsigned_at signed32_at signed64_at run_in unsigned_bytes signed32_bytes signed64_bytes run_bytes level_bytes inode_block header_block leaf_block blocks
by_time = listing v nodes (codes "last_modified") 16 I64 no_rows tested time_tree refl tt refl

by_name : IsListing v (tree_of nodes) (codes "name") 10 Text
unfolding unsigned_at signed32_at signed64_at run_in unsigned_bytes signed32_bytes signed64_bytes run_bytes level_bytes inode_block header_block leaf_block blocks link_in
by_name = listing v nodes (codes "name") 10 Text name_rows tested name_tree refl tt refl

by_size : IsListing v (tree_of nodes) (codes "size") 13 I64
unfolding unsigned_at signed32_at signed64_at run_in unsigned_bytes signed32_bytes signed64_bytes run_bytes level_bytes inode_block header_block leaf_block blocks
by_size = listing v nodes (codes "size") 13 I64 no_rows tested size_tree refl tt refl

abbrev xs : List ℕ
xs = 0 ∷ 40 ∷ 41 ∷ 42 ∷ 43 ∷ 44 ∷ 45 ∷ 46 ∷ 47 ∷ 1 ∷ 4 ∷ 5 ∷ 6 ∷ 19 ∷ 20 ∷ 21 ∷ 7 ∷ 8 ∷ 9 ∷ 16 ∷ 17 ∷ 18 ∷ 10 ∷ 11 ∷ 12 ∷ 13 ∷ 14 ∷ 15 ∷ []

reach_is : reach v (tree_of nodes) ≡ xs
unfolding unsigned_at signed32_at signed64_at run_in runs_in unsigned_bytes signed32_bytes signed64_bytes run_bytes array_runs level_blocks arrays_of bytes_at rows_of rows_in node_blocks index_blocks level_bytes inode_block header_block leaf_block head_bytes header_bytes bytes_of blocks
reach_is = reached v nodes xs tested refl

counted : IsCounted v xs
unfolding unsigned_at bit_of bitmap_block blocks
counted = record { bits = refl; inside = refl; used = refl }

pub is_sound : IsSound v (tree_of nodes)
is_sound = sound v nodes refl refl tested (root, (child_node, tt)) ((λ _. root_lists), ((λ _. child_lists), tt)) directory indices_tree.rows_of by_time by_name by_size xs reach_is counted
