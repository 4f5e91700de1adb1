-- The three volumes whose directory has an interior page are whole.
use Rattle.std.proofs.Common.{◌≡◌, ◌+◌, inl, ℕ, List, [], ◌∷◌, length, refl, arith}
use Rattle.std.specs.Prelude.{codes}
use Rattle.bfs_base.specs.Lists.{times}
use Rattle.bfs_base.specs.declared.kind.KeyKind.TheVariants.{Text}
use Rattle.bfs_bitmap.specs.Bits.{bit_of}
use Rattle.bfs_bytes.specs.Fields.{unsigned_at, signed32_at, signed64_at, run_in, unsigned_bytes, signed32_bytes, signed64_bytes, run_bytes}
use Rattle.bfs_inode.specs.Inode.{runs_in}
use Rattle.bfs_node.specs.Header.{header_bytes}
use Rattle.bfs_node.specs.Page.{rows_of, head_bytes}
use Rattle.bfs_pages.proofs.Placed.{held_more}
use Rattle.bfs_pages.specs.Shapes.{Shape, leaf_shape, node_shape, last_shape, more_shapes}
use Rattle.bfs_pages.specs.Trees.{held, IsTree}
use Rattle.bfs_smalldata.specs.Items.{bytes_of}
use Rattle.bfs_stream.specs.Places.{array_runs, level_blocks, arrays_of, bytes_at}
use Rattle.bfs_values.specs.Links.{link_in}
use Rattle.bfs_values.specs.Rows.{rows_in}
use Rattle.bfs_sound.specs.Inodes.{content}
use Rattle.bfs_sound.specs.Owners.{node_blocks, index_blocks}
use Rattle.bfs_sound_tests.specs.Bytes.{zero_block, level_bytes, inode_block, header_block, leaf_block, bitmap_block}
use Rattle.bfs_sound_tests.specs.Worked.{tree_of}
use Rattle.bfs_sound_tests.specs.Directory.{nodes}
use Rattle.bfs_sound_tests.specs.Inner.{block_list, blocks, self_row, parent_row, keyless_pages, vacant_pages, twin_pages, KeylessIsWhole, VacantIsWhole, TwinIsWhole}
use Rattle.bfs_sound_tests.proofs.Finite.{most, all_long}
use Rattle.bfs_sound_tests.proofs.Leaves.{two_held, IsValued, plain_values}
use Rattle.bfs_sound_tests.proofs.Streams.{is_inode}
use Rattle.bfs_sound_tests.proofs.Standing.{HasTree, owner_at, reach_of, IsCounted}
use Rattle.bfs_sound_tests.proofs.InnerTrees.{child_rows, v, inner_sound}
use Rattle.bfs_sound_tests.proofs.Supers.{whole, reads_23, full_23, reads_24, full_24, reads_25, full_25}
use Rattle.bfs_sound_tests.proofs.Images.{to_image}

-- the pages of a stream of three, four and five pages, where all but the header are in the tree
three_held : (x : ℕ) → times x (0 ∷ []) + times x [] + times x (1024 ∷ 2048 ∷ []) + times x [] ≡ held 3072 x
three_held x =
    let two = two_held x in
    let third : held 3072 x ≡ held 2048 x + times x (2048 ∷ []) = held_more 2048 x refl in
    omega (arith, two, third)

four_held : (x : ℕ) → times x (0 ∷ []) + times x [] + times x (1024 ∷ 2048 ∷ 3072 ∷ []) + times x [] ≡ held 4096 x
four_held x =
    let three = three_held x in
    let fourth : held 4096 x ≡ held 3072 x + times x (3072 ∷ []) = held_more 3072 x refl in
    omega (arith, three, fourth)

five_held : (x : ℕ) → times x (0 ∷ []) + times x [] + times x (1024 ∷ 2048 ∷ 3072 ∷ 4096 ∷ []) + times x [] ≡ held 5120 x
five_held x =
    let four = four_held x in
    let fifth : held 5120 x ≡ held 4096 x + times x (4096 ∷ []) = held_more 4096 x refl in
    omega (arith, four, fifth)

abbrev keyless_shape : Shape
keyless_shape = node_shape 1024 (last_shape (leaf_shape 2048 child_rows))

keyless_stands : IsTree Text (content (v 23 keyless_pages) 19) [] keyless_shape []
unfolding unsigned_at signed32_at signed64_at run_in runs_in unsigned_bytes signed32_bytes signed64_bytes run_bytes array_runs level_blocks bytes_at rows_of header_bytes head_bytes bytes_of level_bytes inode_block header_block leaf_block blocks keyless_pages
keyless_stands = record {
  header = record { header = record { magic_is = refl; size = refl; kind = most 0 4 refl }; kind_is = refl; levels = most 1 2 refl; maximum = refl };
  holds = record {
    built = record { root = refl; stands = (refl, refl); deep = refl; chain = refl; once = three_held };
    ascends = ((refl, tt), (tt, tt));
    linked = (refl, tt);
  };
}

keyless_values : IsValued (content (v 23 keyless_pages) 19) child_rows []
unfolding unsigned_at signed32_at signed64_at run_in runs_in unsigned_bytes signed32_bytes signed64_bytes run_bytes array_runs level_blocks bytes_at rows_of header_bytes head_bytes bytes_of level_bytes inode_block header_block leaf_block blocks keyless_pages link_in
keyless_values = plain_values (content (v 23 keyless_pages) 19) child_rows (λ at f. refl) refl refl

keyless_tree : HasTree (v 23 keyless_pages) 19 Text child_rows
unfolding unsigned_at signed32_at signed64_at run_in runs_in unsigned_bytes signed32_bytes signed64_bytes run_bytes array_runs level_blocks bytes_at rows_of header_bytes head_bytes bytes_of level_bytes inode_block header_block leaf_block blocks keyless_pages rows_in
keyless_tree = record {
  owner = owner_at (v 23 keyless_pages) 19 3072 (is_inode ((v 23 keyless_pages).blocks 19) 19 13 refl refl refl refl refl)
      (record { direct = refl; table = inl refl; in_table = refl; double = refl; arrays = refl; runs = refl; direct_range = refl; indirect_range = refl; double_range = refl; size_is = refl; enough = refl });
  tree = record { whole = refl; reached = []; shape = keyless_shape; free = []; tree = keyless_stands; values = keyless_values.values; mean = keyless_values.mean };
  rows_of = refl;
}

abbrev keyless_reach : List ℕ
keyless_reach = 0 ∷ 2 ∷ 3 ∷ 1 ∷ 4 ∷ 5 ∷ 6 ∷ 19 ∷ 20 ∷ 21 ∷ 22 ∷ 7 ∷ 8 ∷ 9 ∷ 16 ∷ 17 ∷ 18 ∷ 10 ∷ 11 ∷ 12 ∷ 13 ∷ 14 ∷ 15 ∷ []

keyless_reached : reach_of (v 23 keyless_pages) nodes ≡ keyless_reach
unfolding unsigned_at signed32_at signed64_at run_in runs_in unsigned_bytes signed32_bytes signed64_bytes run_bytes array_runs level_blocks bytes_at rows_of header_bytes head_bytes bytes_of level_bytes inode_block header_block leaf_block blocks keyless_pages arrays_of rows_in node_blocks index_blocks
keyless_reached = refl

keyless_counted : IsCounted (v 23 keyless_pages) keyless_reach
unfolding unsigned_at bit_of bitmap_block blocks keyless_pages
keyless_counted = record { bits = refl; inside = refl; used = refl }

keyless_long : (k : ℕ) → length (blocks keyless_pages k) ≡ 1024
unfolding unsigned_bytes signed32_bytes signed64_bytes run_bytes header_bytes head_bytes bytes_of level_bytes inode_block header_block leaf_block bitmap_block blocks keyless_pages
keyless_long k = all_long 1024 (block_list keyless_pages) zero_block refl refl k

pub keyless_whole : KeylessIsWhole
keyless_whole = to_image 23 (blocks keyless_pages) keyless_long reads_23 full_23 (tree_of nodes)
    (whole 23 (blocks keyless_pages) (tree_of nodes) keyless_long (inner_sound 23 keyless_pages keyless_tree keyless_reach keyless_reached keyless_counted))

abbrev vacant_shape : Shape
vacant_shape = node_shape 1024 (more_shapes (leaf_shape 2048 child_rows) (codes "..") (last_shape (leaf_shape 3072 [])))

vacant_stands : IsTree Text (content (v 24 vacant_pages) 19) [] vacant_shape []
unfolding unsigned_at signed32_at signed64_at run_in runs_in unsigned_bytes signed32_bytes signed64_bytes run_bytes array_runs level_blocks bytes_at rows_of header_bytes head_bytes bytes_of level_bytes inode_block header_block leaf_block blocks vacant_pages
vacant_stands = record {
  header = record { header = record { magic_is = refl; size = refl; kind = most 0 4 refl }; kind_is = refl; levels = most 1 2 refl; maximum = refl };
  holds = record {
    built = record { root = refl; stands = (refl, (refl, refl)); deep = (refl, refl); chain = refl; once = four_held };
    ascends = ((refl, (refl, tt)), ((refl, tt), (tt, tt)));
    linked = (refl, (refl, tt));
  };
}

vacant_values : IsValued (content (v 24 vacant_pages) 19) child_rows []
unfolding unsigned_at signed32_at signed64_at run_in runs_in unsigned_bytes signed32_bytes signed64_bytes run_bytes array_runs level_blocks bytes_at rows_of header_bytes head_bytes bytes_of level_bytes inode_block header_block leaf_block blocks vacant_pages link_in
vacant_values = plain_values (content (v 24 vacant_pages) 19) child_rows (λ at f. refl) refl refl

vacant_tree : HasTree (v 24 vacant_pages) 19 Text child_rows
unfolding unsigned_at signed32_at signed64_at run_in runs_in unsigned_bytes signed32_bytes signed64_bytes run_bytes array_runs level_blocks bytes_at rows_of header_bytes head_bytes bytes_of level_bytes inode_block header_block leaf_block blocks vacant_pages rows_in
vacant_tree = record {
  owner = owner_at (v 24 vacant_pages) 19 4096 (is_inode ((v 24 vacant_pages).blocks 19) 19 13 refl refl refl refl refl)
      (record { direct = refl; table = inl refl; in_table = refl; double = refl; arrays = refl; runs = refl; direct_range = refl; indirect_range = refl; double_range = refl; size_is = refl; enough = refl });
  tree = record { whole = refl; reached = []; shape = vacant_shape; free = []; tree = vacant_stands; values = vacant_values.values; mean = vacant_values.mean };
  rows_of = refl;
}

abbrev vacant_reach : List ℕ
vacant_reach = 0 ∷ 2 ∷ 3 ∷ 1 ∷ 4 ∷ 5 ∷ 6 ∷ 19 ∷ 20 ∷ 21 ∷ 22 ∷ 23 ∷ 7 ∷ 8 ∷ 9 ∷ 16 ∷ 17 ∷ 18 ∷ 10 ∷ 11 ∷ 12 ∷ 13 ∷ 14 ∷ 15 ∷ []

vacant_reached : reach_of (v 24 vacant_pages) nodes ≡ vacant_reach
unfolding unsigned_at signed32_at signed64_at run_in runs_in unsigned_bytes signed32_bytes signed64_bytes run_bytes array_runs level_blocks bytes_at rows_of header_bytes head_bytes bytes_of level_bytes inode_block header_block leaf_block blocks vacant_pages arrays_of rows_in node_blocks index_blocks
vacant_reached = refl

vacant_counted : IsCounted (v 24 vacant_pages) vacant_reach
unfolding unsigned_at bit_of bitmap_block blocks vacant_pages
vacant_counted = record { bits = refl; inside = refl; used = refl }

vacant_long : (k : ℕ) → length (blocks vacant_pages k) ≡ 1024
unfolding unsigned_bytes signed32_bytes signed64_bytes run_bytes header_bytes head_bytes bytes_of level_bytes inode_block header_block leaf_block bitmap_block blocks vacant_pages
vacant_long k = all_long 1024 (block_list vacant_pages) zero_block refl refl k

pub vacant_whole : VacantIsWhole
vacant_whole = to_image 24 (blocks vacant_pages) vacant_long reads_24 full_24 (tree_of nodes)
    (whole 24 (blocks vacant_pages) (tree_of nodes) vacant_long (inner_sound 24 vacant_pages vacant_tree vacant_reach vacant_reached vacant_counted))

abbrev twin_shape : Shape
twin_shape = node_shape 1024 (more_shapes (leaf_shape 2048 (self_row ∷ [])) (codes ".") (more_shapes (leaf_shape 3072 []) (codes ".") (last_shape (leaf_shape 4096 (parent_row ∷ [])))))

twin_stands : IsTree Text (content (v 25 twin_pages) 19) [] twin_shape []
unfolding unsigned_at signed32_at signed64_at run_in runs_in unsigned_bytes signed32_bytes signed64_bytes run_bytes array_runs level_blocks bytes_at rows_of header_bytes head_bytes bytes_of level_bytes inode_block header_block leaf_block blocks twin_pages
twin_stands = record {
  header = record { header = record { magic_is = refl; size = refl; kind = most 0 4 refl }; kind_is = refl; levels = most 1 2 refl; maximum = refl };
  holds = record {
    built = record { root = refl; stands = (refl, (refl, (refl, refl))); deep = (refl, (refl, refl)); chain = refl; once = five_held };
    ascends = ((refl, (refl, (refl, tt))), ((refl, (refl, tt)), ((refl, tt), (tt, tt))));
    linked = (refl, (refl, (refl, tt)));
  };
}

twin_values : IsValued (content (v 25 twin_pages) 19) child_rows []
unfolding unsigned_at signed32_at signed64_at run_in runs_in unsigned_bytes signed32_bytes signed64_bytes run_bytes array_runs level_blocks bytes_at rows_of header_bytes head_bytes bytes_of level_bytes inode_block header_block leaf_block blocks twin_pages link_in
twin_values = plain_values (content (v 25 twin_pages) 19) child_rows (λ at f. refl) refl refl

twin_tree : HasTree (v 25 twin_pages) 19 Text child_rows
unfolding unsigned_at signed32_at signed64_at run_in runs_in unsigned_bytes signed32_bytes signed64_bytes run_bytes array_runs level_blocks bytes_at rows_of header_bytes head_bytes bytes_of level_bytes inode_block header_block leaf_block blocks twin_pages rows_in
twin_tree = record {
  owner = owner_at (v 25 twin_pages) 19 5120 (is_inode ((v 25 twin_pages).blocks 19) 19 13 refl refl refl refl refl)
      (record { direct = refl; table = inl refl; in_table = refl; double = refl; arrays = refl; runs = refl; direct_range = refl; indirect_range = refl; double_range = refl; size_is = refl; enough = refl });
  tree = record { whole = refl; reached = []; shape = twin_shape; free = []; tree = twin_stands; values = twin_values.values; mean = twin_values.mean };
  rows_of = refl;
}

abbrev twin_reach : List ℕ
twin_reach = 0 ∷ 2 ∷ 3 ∷ 1 ∷ 4 ∷ 5 ∷ 6 ∷ 19 ∷ 20 ∷ 21 ∷ 22 ∷ 23 ∷ 24 ∷ 7 ∷ 8 ∷ 9 ∷ 16 ∷ 17 ∷ 18 ∷ 10 ∷ 11 ∷ 12 ∷ 13 ∷ 14 ∷ 15 ∷ []

twin_reached : reach_of (v 25 twin_pages) nodes ≡ twin_reach
unfolding unsigned_at signed32_at signed64_at run_in runs_in unsigned_bytes signed32_bytes signed64_bytes run_bytes array_runs level_blocks bytes_at rows_of header_bytes head_bytes bytes_of level_bytes inode_block header_block leaf_block blocks twin_pages arrays_of rows_in node_blocks index_blocks
twin_reached = refl

twin_counted : IsCounted (v 25 twin_pages) twin_reach
unfolding unsigned_at bit_of bitmap_block blocks twin_pages
twin_counted = record { bits = refl; inside = refl; used = refl }

twin_long : (k : ℕ) → length (blocks twin_pages k) ≡ 1024
unfolding unsigned_bytes signed32_bytes signed64_bytes run_bytes header_bytes head_bytes bytes_of level_bytes inode_block header_block leaf_block bitmap_block blocks twin_pages
twin_long k = all_long 1024 (block_list twin_pages) zero_block refl refl k

pub twin_whole : TwinIsWhole
twin_whole = to_image 25 (blocks twin_pages) twin_long reads_25 full_25 (tree_of nodes)
    (whole 25 (blocks twin_pages) (tree_of nodes) twin_long (inner_sound 25 twin_pages twin_tree twin_reach twin_reached twin_counted))
