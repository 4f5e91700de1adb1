-- The trees and the streams of the volume with two attribute directories.
use Rattle.std.proofs.Common.{inl, List, [], refl}
use Rattle.std.specs.Prelude.{codes}
use Rattle.bfs_base.specs.declared.kind.KeyKind.TheVariants.{Text, I64}
use Rattle.bfs_bytes.specs.Fields.{unsigned_at, signed32_at, signed64_at, run_in, unsigned_bytes, signed32_bytes, signed64_bytes, run_bytes}
use Rattle.bfs_inode.specs.Inode.{runs_in}
use Rattle.bfs_inode.specs.Refusals.{IsInode}
use Rattle.bfs_node.specs.Header.{header_bytes, code_of}
use Rattle.bfs_node.specs.Page.{Row, rows_of, head_bytes}
use Rattle.bfs_smalldata.specs.Items.{bytes_of}
use Rattle.bfs_stream.specs.Places.{array_runs, level_blocks, bytes_at}
use Rattle.bfs_values.specs.Links.{link_in}
use Rattle.bfs_sound.specs.Volumes.{Volume}
use Rattle.bfs_sound.specs.Inodes.{content, IsOwner}
use Rattle.bfs_sound.specs.Whole.{volume_of}
use Rattle.bfs_sound_tests.specs.Bytes.{level_bytes, inode_block, header_block, leaf_block}
use Rattle.bfs_sound_tests.specs.Worked.{super_of_used, index_rows}
use Rattle.bfs_sound_tests.specs.Attributes.{blocks, root_rows, name_rows, size_rows, time_rows, attribute_rows}
use Rattle.bfs_sound_tests.proofs.Finite.{most}
use Rattle.bfs_sound_tests.proofs.Leaves.{two_held, plain_values}
use Rattle.bfs_sound_tests.proofs.Streams.{is_inode}
use Rattle.bfs_sound_tests.proofs.Standing.{HasTree, tree_at, owner_at}

abbrev pub v : Volume
v = volume_of (super_of_used 29) blocks

abbrev pub file_rows : List Row
file_rows = attribute_rows 21 19 (codes "b") 24

abbrev pub link_rows : List Row
link_rows = attribute_rows 25 20 (codes "c") 28

pub root_tree : HasTree v 4 Text root_rows
unfolding unsigned_at signed32_at signed64_at run_in runs_in unsigned_bytes signed32_bytes signed64_bytes run_bytes array_runs level_blocks bytes_at rows_of header_bytes head_bytes bytes_of level_bytes inode_block header_block leaf_block blocks link_in
root_tree = tree_at v 4 Text 2048 [] root_rows (is_inode (v.blocks 4) 4 13 refl refl refl refl refl)
    (record { direct = refl; table = inl refl; in_table = refl; double = refl; arrays = refl; runs = refl; direct_range = refl; indirect_range = refl; double_range = refl; size_is = refl; enough = refl })
    (record { long = refl; pages = refl; few = most (code_of Text) 4 refl; header = refl; body = refl; links = refl; ascend = ((refl, (refl, (refl, tt))), ((refl, (refl, tt)), ((refl, tt), (tt, tt)))); once = two_held })
    (plain_values (content v 4) root_rows (λ at f. refl) refl refl)

pub indices_tree : HasTree v 7 Text index_rows
unfolding unsigned_at signed32_at signed64_at run_in runs_in unsigned_bytes signed32_bytes signed64_bytes run_bytes array_runs level_blocks bytes_at rows_of header_bytes head_bytes bytes_of level_bytes inode_block header_block leaf_block blocks link_in
indices_tree = tree_at v 7 Text 2048 [] index_rows (is_inode (v.blocks 7) 7 13 refl refl refl refl refl)
    (record { direct = refl; table = inl refl; in_table = refl; double = refl; arrays = refl; runs = refl; direct_range = refl; indirect_range = refl; double_range = refl; size_is = refl; enough = refl })
    (record { long = refl; pages = refl; few = most (code_of Text) 4 refl; header = refl; body = refl; links = refl; ascend = ((refl, (refl, tt)), ((refl, tt), (tt, tt))); once = two_held })
    (plain_values (content v 7) index_rows (λ at f. refl) refl refl)

pub name_tree : HasTree v 10 Text name_rows
unfolding unsigned_at signed32_at signed64_at run_in runs_in unsigned_bytes signed32_bytes signed64_bytes run_bytes array_runs level_blocks bytes_at rows_of header_bytes head_bytes bytes_of level_bytes inode_block header_block leaf_block blocks link_in
name_tree = tree_at v 10 Text 2048 [] name_rows (is_inode (v.blocks 10) 10 13 refl refl refl refl refl)
    (record { direct = refl; table = inl refl; in_table = refl; double = refl; arrays = refl; runs = refl; direct_range = refl; indirect_range = refl; double_range = refl; size_is = refl; enough = refl })
    (record { long = refl; pages = refl; few = most (code_of Text) 4 refl; header = refl; body = refl; links = refl; ascend = ((refl, tt), (tt, tt)); once = two_held })
    (plain_values (content v 10) name_rows (λ at f. refl) refl refl)

pub size_tree : HasTree v 13 I64 size_rows
unfolding unsigned_at signed32_at signed64_at run_in runs_in unsigned_bytes signed32_bytes signed64_bytes run_bytes array_runs level_blocks bytes_at rows_of header_bytes head_bytes bytes_of level_bytes inode_block header_block leaf_block blocks link_in
size_tree = tree_at v 13 I64 2048 [] size_rows (is_inode (v.blocks 13) 13 13 refl refl refl refl refl)
    (record { direct = refl; table = inl refl; in_table = refl; double = refl; arrays = refl; runs = refl; direct_range = refl; indirect_range = refl; double_range = refl; size_is = refl; enough = refl })
    (record { long = refl; pages = refl; few = most (code_of I64) 4 refl; header = refl; body = refl; links = refl; ascend = (tt, tt); once = two_held })
    (plain_values (content v 13) size_rows (λ at f. refl) refl refl)

pub time_tree : HasTree v 16 I64 time_rows
unfolding unsigned_at signed32_at signed64_at run_in runs_in unsigned_bytes signed32_bytes signed64_bytes run_bytes array_runs level_blocks bytes_at rows_of header_bytes head_bytes bytes_of level_bytes inode_block header_block leaf_block blocks link_in
time_tree = tree_at v 16 I64 2048 [] time_rows (is_inode (v.blocks 16) 16 13 refl refl refl refl refl)
    (record { direct = refl; table = inl refl; in_table = refl; double = refl; arrays = refl; runs = refl; direct_range = refl; indirect_range = refl; double_range = refl; size_is = refl; enough = refl })
    (record { long = refl; pages = refl; few = most (code_of I64) 4 refl; header = refl; body = refl; links = refl; ascend = (tt, tt); once = two_held })
    (plain_values (content v 16) time_rows (λ at f. refl) refl refl)

pub file_tree : HasTree v 21 Text file_rows
unfolding unsigned_at signed32_at signed64_at run_in runs_in unsigned_bytes signed32_bytes signed64_bytes run_bytes array_runs level_blocks bytes_at rows_of header_bytes head_bytes bytes_of level_bytes inode_block header_block leaf_block blocks link_in
file_tree = tree_at v 21 Text 2048 [] file_rows (is_inode (v.blocks 21) 21 13 refl refl refl refl refl)
    (record { direct = refl; table = inl refl; in_table = refl; double = refl; arrays = refl; runs = refl; direct_range = refl; indirect_range = refl; double_range = refl; size_is = refl; enough = refl })
    (record { long = refl; pages = refl; few = most (code_of Text) 4 refl; header = refl; body = refl; links = refl; ascend = ((refl, (refl, tt)), ((refl, tt), (tt, tt))); once = two_held })
    (plain_values (content v 21) file_rows (λ at f. refl) refl refl)

pub link_tree : HasTree v 25 Text link_rows
unfolding unsigned_at signed32_at signed64_at run_in runs_in unsigned_bytes signed32_bytes signed64_bytes run_bytes array_runs level_blocks bytes_at rows_of header_bytes head_bytes bytes_of level_bytes inode_block header_block leaf_block blocks link_in
link_tree = tree_at v 25 Text 2048 [] link_rows (is_inode (v.blocks 25) 25 13 refl refl refl refl refl)
    (record { direct = refl; table = inl refl; in_table = refl; double = refl; arrays = refl; runs = refl; direct_range = refl; indirect_range = refl; double_range = refl; size_is = refl; enough = refl })
    (record { long = refl; pages = refl; few = most (code_of Text) 4 refl; header = refl; body = refl; links = refl; ascend = ((refl, (refl, tt)), ((refl, tt), (tt, tt))); once = two_held })
    (plain_values (content v 25) link_rows (λ at f. refl) refl refl)

pub file_owner : IsOwner v 19
unfolding unsigned_at signed32_at signed64_at run_in runs_in unsigned_bytes signed32_bytes signed64_bytes run_bytes array_runs level_blocks bytes_at rows_of header_bytes head_bytes bytes_of level_bytes inode_block header_block leaf_block blocks
file_owner = owner_at v 19 0 (is_inode (v.blocks 19) 19 13 refl refl refl refl refl)
    (record { direct = refl; table = inl refl; in_table = refl; double = refl; arrays = refl; runs = refl; direct_range = refl; indirect_range = refl; double_range = refl; size_is = refl; enough = refl })

pub file_attribute : IsOwner v 24
unfolding unsigned_at signed32_at signed64_at run_in runs_in unsigned_bytes signed32_bytes signed64_bytes run_bytes array_runs level_blocks bytes_at rows_of header_bytes head_bytes bytes_of level_bytes inode_block header_block leaf_block blocks
file_attribute = owner_at v 24 0 (is_inode (v.blocks 24) 24 13 refl refl refl refl refl)
    (record { direct = refl; table = inl refl; in_table = refl; double = refl; arrays = refl; runs = refl; direct_range = refl; indirect_range = refl; double_range = refl; size_is = refl; enough = refl })

pub link_attribute : IsOwner v 28
unfolding unsigned_at signed32_at signed64_at run_in runs_in unsigned_bytes signed32_bytes signed64_bytes run_bytes array_runs level_blocks bytes_at rows_of header_bytes head_bytes bytes_of level_bytes inode_block header_block leaf_block blocks
link_attribute = owner_at v 28 0 (is_inode (v.blocks 28) 28 13 refl refl refl refl refl)
    (record { direct = refl; table = inl refl; in_table = refl; double = refl; arrays = refl; runs = refl; direct_range = refl; indirect_range = refl; double_range = refl; size_is = refl; enough = refl })

pub link_inode : IsInode (v.blocks 20) 20 v.geometry.shift
unfolding unsigned_at signed32_at signed64_at run_in runs_in unsigned_bytes signed32_bytes signed64_bytes run_bytes array_runs level_blocks bytes_at rows_of header_bytes head_bytes bytes_of level_bytes inode_block header_block leaf_block blocks
link_inode = is_inode (v.blocks 20) 20 13 refl refl refl refl refl
