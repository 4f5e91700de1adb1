-- The trees and the streams of the volume with an interior page, duplicates and a free page.
use Rattle.std.proofs.Common.{ℕ, ◌≤◌, ◌<◌, ◌++◌, inl, arith, List, [], ◌∷◌, refl}
use Rattle.bfs_base.specs.declared.kind.KeyKind.TheVariants.{Text, I64}
use Rattle.bfs_bytes.specs.Fields.{unsigned_at, signed32_at, signed64_at, run_in, unsigned_bytes, signed32_bytes, signed64_bytes, run_bytes}
use Rattle.bfs_inode.specs.Inode.{runs_in}
use Rattle.bfs_pages.specs.Shapes.{Shape, leaf_shape, node_shape, last_shape, more_shapes}
use Rattle.bfs_pages.specs.Trees.{IsTree}
use Rattle.bfs_values.specs.Rows.{rows_in}
use Rattle.bfs_values.specs.Reached.{AreReached, AllMean}
use Rattle.bfs_base.specs.Lists.{times}
use Rattle.bfs_base.specs.Keys.{number_of}
use Rattle.bfs_node.specs.Header.{header_bytes, code_of}
use Rattle.bfs_node.specs.Page.{Row, rows_of, head_bytes}
use Rattle.bfs_smalldata.specs.Items.{bytes_of}
use Rattle.bfs_stream.specs.Places.{array_runs, level_blocks, bytes_at}
use Rattle.bfs_values.specs.Links.{link_in}
use Rattle.bfs_sound.specs.Volumes.{Volume}
use Rattle.bfs_sound.specs.Inodes.{content, IsOwner}
use Rattle.bfs_sound.specs.Whole.{volume_of}
use Rattle.bfs_sound_tests.specs.Bytes.{level_bytes, inode_block, header_block, leaf_block}
use Rattle.bfs_sound_tests.specs.Worked.{super_of_used, index_rows}
use Rattle.bfs_sound_tests.specs.Pages.{blocks, root_rows, name_rows, size_rows, first_rows, last_rows}
use Rattle.bfs_sound_tests.proofs.Finite.{most}
use Rattle.bfs_sound_tests.proofs.Leaves.{two_held, six_held, plain_values}
use Rattle.bfs_sound_tests.proofs.Streams.{is_inode}
use Rattle.bfs_sound_tests.proofs.Standing.{HasTree, tree_at, owner_at}

abbrev pub v : Volume
v = volume_of (super_of_used 28) blocks

pub root_tree : HasTree v 4 Text root_rows
unfolding unsigned_at signed32_at signed64_at run_in runs_in unsigned_bytes signed32_bytes signed64_bytes run_bytes array_runs level_blocks bytes_at rows_of header_bytes head_bytes bytes_of level_bytes inode_block header_block leaf_block blocks link_in
root_tree = tree_at v 4 Text 2048 [] root_rows (is_inode (v.blocks 4) 4 13 refl refl refl refl refl)
    (record { direct = refl; table = inl refl; in_table = refl; double = refl; arrays = refl; runs = refl; direct_range = refl; indirect_range = refl; double_range = refl; size_is = refl; enough = refl })
    (record { long = refl; pages = refl; few = most (code_of Text) 4 refl; header = refl; body = refl; links = refl; ascend = ((refl, (refl, (refl, (refl, tt)))), ((refl, (refl, (refl, tt))), ((refl, (refl, tt)), ((refl, tt), (tt, tt))))); once = two_held })
    (plain_values (content v 4) root_rows (λ at f. refl) refl refl)

pub indices_tree : HasTree v 7 Text index_rows
unfolding unsigned_at signed32_at signed64_at run_in runs_in unsigned_bytes signed32_bytes signed64_bytes run_bytes array_runs level_blocks bytes_at rows_of header_bytes head_bytes bytes_of level_bytes inode_block header_block leaf_block blocks link_in
indices_tree = tree_at v 7 Text 2048 [] index_rows (is_inode (v.blocks 7) 7 13 refl refl refl refl refl)
    (record { direct = refl; table = inl refl; in_table = refl; double = refl; arrays = refl; runs = refl; direct_range = refl; indirect_range = refl; double_range = refl; size_is = refl; enough = refl })
    (record { long = refl; pages = refl; few = most (code_of Text) 4 refl; header = refl; body = refl; links = refl; ascend = ((refl, (refl, tt)), ((refl, tt), (tt, tt))); once = two_held })
    (plain_values (content v 7) index_rows (λ at f. refl) refl refl)

pub name_tree : HasTree v 10 Text name_rows
unfolding unsigned_at signed32_at signed64_at run_in runs_in unsigned_bytes signed32_bytes signed64_bytes run_bytes array_runs level_blocks bytes_at rows_of header_bytes head_bytes bytes_of level_bytes inode_block header_block leaf_block blocks link_in
name_tree = tree_at v 10 Text 2048 [] name_rows (is_inode (v.blocks 10) 10 13 refl refl refl refl refl)
    (record { direct = refl; table = inl refl; in_table = refl; double = refl; arrays = refl; runs = refl; direct_range = refl; indirect_range = refl; double_range = refl; size_is = refl; enough = refl })
    (record { long = refl; pages = refl; few = most (code_of Text) 4 refl; header = refl; body = refl; links = refl; ascend = ((refl, (refl, tt)), ((refl, tt), (tt, tt))); once = two_held })
    (plain_values (content v 10) name_rows (λ at f. refl) refl refl)

pub size_tree : HasTree v 13 I64 size_rows
unfolding unsigned_at signed32_at signed64_at run_in runs_in unsigned_bytes signed32_bytes signed64_bytes run_bytes array_runs level_blocks bytes_at rows_of header_bytes head_bytes bytes_of level_bytes inode_block header_block leaf_block blocks link_in number_of
size_tree = tree_at v 13 I64 2048 [] size_rows (is_inode (v.blocks 13) 13 13 refl refl refl refl refl)
    (record { direct = refl; table = inl refl; in_table = refl; double = refl; arrays = refl; runs = refl; direct_range = refl; indirect_range = refl; double_range = refl; size_is = refl; enough = refl })
    (record { long = refl; pages = refl; few = most (code_of I64) 4 refl; header = refl; body = refl; links = refl; ascend = ((refl, (refl, tt)), ((refl, tt), (tt, tt))); once = two_held })
    (plain_values (content v 13) size_rows (λ at f. refl) refl refl)

abbrev pub time_rows : List Row
time_rows = first_rows ++ last_rows

-- two leaves below an interior page
abbrev shape : Shape
shape = node_shape 1024 (more_shapes (leaf_shape 2048 first_rows) (unsigned_bytes 8 1000) (last_shape (leaf_shape 3072 last_rows)))

time_shape : IsTree I64 (content v 16) (4096 ∷ []) shape (5120 ∷ [])
unfolding unsigned_at signed32_at signed64_at run_in runs_in unsigned_bytes signed32_bytes signed64_bytes run_bytes array_runs level_blocks bytes_at rows_of header_bytes head_bytes bytes_of level_bytes inode_block header_block leaf_block blocks number_of
time_shape = record {
  header = record { header = record { magic_is = refl; size = refl; kind = most 3 4 refl }; kind_is = refl; levels = most 1 2 refl; maximum = refl };
  holds = record {
    built = record { root = refl; stands = (refl, (refl, refl)); deep = (refl, refl); chain = (refl, refl, refl); once = six_held };
    ascends = ((refl, (refl, tt)), ((refl, tt), (tt, tt)));
    linked = (refl, (refl, tt));
  };
}

-- one chain is reached, of one page
time_values : AreReached (content v 16) time_rows (4096 ∷ [])
unfolding unsigned_at signed32_at signed64_at run_in runs_in unsigned_bytes signed32_bytes signed64_bytes run_bytes array_runs level_blocks bytes_at rows_of header_bytes head_bytes bytes_of level_bytes inode_block header_block leaf_block blocks link_in
time_values = record {
  fragments = [];
  parts = refl;
  ends = ((0, refl), tt);
  named = λ at. ((λ h. absurd (omega (arith, h))), (λ f. absurd (let h : 0 < 0 = f.1 in omega (arith, h))));
  each = λ at f h. absurd (let z : 0 < times at [] = h in omega (arith, z));
}

two_once : (k : ℕ) → times k (23 ∷ 24 ∷ []) ≤ 1
two_once k = grind arith

time_mean : AllMean (content v 16) time_rows
unfolding unsigned_at signed32_at signed64_at run_in runs_in unsigned_bytes signed32_bytes signed64_bytes run_bytes array_runs level_blocks bytes_at rows_of header_bytes head_bytes bytes_of level_bytes inode_block header_block leaf_block blocks link_in number_of
time_mean = (((most 1 4096 refl, refl), (0, refl), (record { some = most 1 2 refl; fits = most 2 125 refl; ascend = refl }, tt), two_once), (tt, tt))

pub time_tree : HasTree v 16 I64 time_rows
unfolding unsigned_at signed32_at signed64_at run_in runs_in unsigned_bytes signed32_bytes signed64_bytes run_bytes array_runs level_blocks bytes_at rows_of header_bytes head_bytes bytes_of level_bytes inode_block header_block leaf_block blocks rows_in
time_tree = record {
  owner = owner_at v 16 6144 (is_inode (v.blocks 16) 16 13 refl refl refl refl refl)
      (record { direct = refl; table = inl refl; in_table = refl; double = refl; arrays = refl; runs = refl; direct_range = refl; indirect_range = refl; double_range = refl; size_is = refl; enough = refl });
  tree = record { whole = refl; reached = 4096 ∷ []; shape = shape; free = 5120 ∷ []; tree = time_shape; values = time_values; mean = time_mean };
  rows_of = refl;
}

pub a_owner : IsOwner v 23
unfolding unsigned_at signed32_at signed64_at run_in runs_in unsigned_bytes signed32_bytes signed64_bytes run_bytes array_runs level_blocks bytes_at rows_of header_bytes head_bytes bytes_of level_bytes inode_block header_block leaf_block blocks
a_owner = owner_at v 23 0 (is_inode (v.blocks 23) 23 13 refl refl refl refl refl)
    (record { direct = refl; table = inl refl; in_table = refl; double = refl; arrays = refl; runs = refl; direct_range = refl; indirect_range = refl; double_range = refl; size_is = refl; enough = refl })

pub b_owner : IsOwner v 24
unfolding unsigned_at signed32_at signed64_at run_in runs_in unsigned_bytes signed32_bytes signed64_bytes run_bytes array_runs level_blocks bytes_at rows_of header_bytes head_bytes bytes_of level_bytes inode_block header_block leaf_block blocks
b_owner = owner_at v 24 5 (is_inode (v.blocks 24) 24 13 refl refl refl refl refl)
    (record { direct = refl; table = inl refl; in_table = refl; double = refl; arrays = refl; runs = refl; direct_range = refl; indirect_range = refl; double_range = refl; size_is = refl; enough = refl })

pub c_owner : IsOwner v 26
unfolding unsigned_at signed32_at signed64_at run_in runs_in unsigned_bytes signed32_bytes signed64_bytes run_bytes array_runs level_blocks bytes_at rows_of header_bytes head_bytes bytes_of level_bytes inode_block header_block leaf_block blocks
c_owner = owner_at v 26 7 (is_inode (v.blocks 26) 26 13 refl refl refl refl refl)
    (record { direct = refl; table = inl refl; in_table = refl; double = refl; arrays = refl; runs = refl; direct_range = refl; indirect_range = refl; double_range = refl; size_is = refl; enough = refl })
