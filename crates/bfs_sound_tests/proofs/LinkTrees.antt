-- The trees and the streams of the volume with links and attributes.
use Rattle.std.proofs.Common.{inl, [], refl}
use Rattle.bfs_base.specs.declared.kind.KeyKind.TheVariants.{Text, I64}
use Rattle.bfs_bytes.specs.Fields.{unsigned_at, signed32_at, signed64_at, run_in, unsigned_bytes, signed32_bytes, signed64_bytes, run_bytes}
use Rattle.bfs_inode.specs.Inode.{runs_in}
use Rattle.bfs_inode.specs.Refusals.{IsInode}
use Rattle.bfs_node.specs.Header.{header_bytes, code_of}
use Rattle.bfs_node.specs.Page.{rows_of, head_bytes}
use Rattle.bfs_smalldata.specs.Items.{bytes_of}
use Rattle.bfs_stream.specs.Places.{array_runs, level_blocks, bytes_at}
use Rattle.bfs_values.specs.Links.{link_in}
use Rattle.bfs_sound.specs.Volumes.{Volume}
use Rattle.bfs_sound.specs.Inodes.{content, IsOwner}
use Rattle.bfs_sound.specs.Whole.{volume_of}
use Rattle.bfs_sound_tests.specs.Bytes.{level_bytes, inode_block, header_block, leaf_block}
use Rattle.bfs_sound_tests.specs.Worked.{super_of_used, index_rows}
use Rattle.bfs_sound_tests.specs.Links.{blocks, root_rows, name_rows, size_rows, time_rows, attribute_rows}
use Rattle.bfs_sound_tests.proofs.Finite.{most}
use Rattle.bfs_sound_tests.proofs.Leaves.{two_held, plain_values}
use Rattle.bfs_sound_tests.proofs.Streams.{is_inode}
use Rattle.bfs_sound_tests.proofs.Standing.{HasTree, tree_at, owner_at}

abbrev pub v : Volume
v = volume_of (super_of_used 29) blocks

pub root_tree : HasTree v 4 Text root_rows
unfolding unsigned_at signed32_at signed64_at run_in runs_in unsigned_bytes signed32_bytes signed64_bytes run_bytes array_runs level_blocks bytes_at rows_of header_bytes head_bytes bytes_of level_bytes inode_block header_block leaf_block blocks link_in
root_tree = tree_at v 4 Text 2048 [] root_rows (is_inode (v.blocks 4) 4 13 refl refl refl refl refl)
    (record { direct = refl; table = inl refl; in_table = refl; double = refl; arrays = refl; runs = refl; direct_range = refl; indirect_range = refl; double_range = refl; size_is = refl; enough = refl })
    (record { long = refl; pages = refl; few = most (code_of Text) 4 refl; header = refl; body = refl; links = refl; ascend = ((refl, (refl, (refl, (refl, tt)))), ((refl, (refl, (refl, tt))), ((refl, (refl, tt)), ((refl, tt), (tt, tt))))); once = two_held })
    (plain_values (content v 4) root_rows (λ at f. refl) refl refl)

pub indices_tree : HasTree v 7 Text index_rows
unfolding unsigned_at signed32_at signed64_at run_in runs_in unsigned_bytes signed32_bytes signed64_bytes run_bytes array_runs level_blocks bytes_at rows_of header_bytes head_bytes bytes_of level_bytes inode_block header_block leaf_block blocks link_in
indices_tree = tree_at v 7 Text 2048 [] index_rows (is_inode (v.blocks 7) 7 13 refl refl refl refl refl)
    (record { direct = refl; table = inl refl; in_table = refl; double = refl; arrays = refl; runs = refl; direct_range = refl; indirect_range = refl; double_range = refl; size_is = refl; enough = refl })
    (record { long = refl; pages = refl; few = most (code_of Text) 4 refl; header = refl; body = refl; links = refl; ascend = ((refl, (refl, tt)), ((refl, tt), (tt, tt))); once = two_held })
    (plain_values (content v 7) index_rows (λ at f. refl) refl refl)

pub name_tree : HasTree v 10 Text name_rows
unfolding unsigned_at signed32_at signed64_at run_in runs_in unsigned_bytes signed32_bytes signed64_bytes run_bytes array_runs level_blocks bytes_at rows_of header_bytes head_bytes bytes_of level_bytes inode_block header_block leaf_block blocks link_in
name_tree = tree_at v 10 Text 2048 [] name_rows (is_inode (v.blocks 10) 10 13 refl refl refl refl refl)
    (record { direct = refl; table = inl refl; in_table = refl; double = refl; arrays = refl; runs = refl; direct_range = refl; indirect_range = refl; double_range = refl; size_is = refl; enough = refl })
    (record { long = refl; pages = refl; few = most (code_of Text) 4 refl; header = refl; body = refl; links = refl; ascend = ((refl, (refl, tt)), ((refl, tt), (tt, tt))); once = two_held })
    (plain_values (content v 10) name_rows (λ at f. refl) refl refl)

pub size_tree : HasTree v 13 I64 size_rows
unfolding unsigned_at signed32_at signed64_at run_in runs_in unsigned_bytes signed32_bytes signed64_bytes run_bytes array_runs level_blocks bytes_at rows_of header_bytes head_bytes bytes_of level_bytes inode_block header_block leaf_block blocks link_in
size_tree = tree_at v 13 I64 2048 [] size_rows (is_inode (v.blocks 13) 13 13 refl refl refl refl refl)
    (record { direct = refl; table = inl refl; in_table = refl; double = refl; arrays = refl; runs = refl; direct_range = refl; indirect_range = refl; double_range = refl; size_is = refl; enough = refl })
    (record { long = refl; pages = refl; few = most (code_of I64) 4 refl; header = refl; body = refl; links = refl; ascend = (tt, tt); once = two_held })
    (plain_values (content v 13) size_rows (λ at f. refl) refl refl)

pub time_tree : HasTree v 16 I64 time_rows
unfolding unsigned_at signed32_at signed64_at run_in runs_in unsigned_bytes signed32_bytes signed64_bytes run_bytes array_runs level_blocks bytes_at rows_of header_bytes head_bytes bytes_of level_bytes inode_block header_block leaf_block blocks link_in
time_tree = tree_at v 16 I64 2048 [] time_rows (is_inode (v.blocks 16) 16 13 refl refl refl refl refl)
    (record { direct = refl; table = inl refl; in_table = refl; double = refl; arrays = refl; runs = refl; direct_range = refl; indirect_range = refl; double_range = refl; size_is = refl; enough = refl })
    (record { long = refl; pages = refl; few = most (code_of I64) 4 refl; header = refl; body = refl; links = refl; ascend = (tt, tt); once = two_held })
    (plain_values (content v 16) time_rows (λ at f. refl) refl refl)

pub attribute_tree : HasTree v 24 Text attribute_rows
unfolding unsigned_at signed32_at signed64_at run_in runs_in unsigned_bytes signed32_bytes signed64_bytes run_bytes array_runs level_blocks bytes_at rows_of header_bytes head_bytes bytes_of level_bytes inode_block header_block leaf_block blocks link_in
attribute_tree = tree_at v 24 Text 2048 [] attribute_rows (is_inode (v.blocks 24) 24 13 refl refl refl refl refl)
    (record { direct = refl; table = inl refl; in_table = refl; double = refl; arrays = refl; runs = refl; direct_range = refl; indirect_range = refl; double_range = refl; size_is = refl; enough = refl })
    (record { long = refl; pages = refl; few = most (code_of Text) 4 refl; header = refl; body = refl; links = refl; ascend = (tt, tt); once = two_held })
    (plain_values (content v 24) attribute_rows (λ at f. refl) refl refl)

pub long_owner : IsOwner v 20
unfolding unsigned_at signed32_at signed64_at run_in runs_in unsigned_bytes signed32_bytes signed64_bytes run_bytes array_runs level_blocks bytes_at rows_of header_bytes head_bytes bytes_of level_bytes inode_block header_block leaf_block blocks
long_owner = owner_at v 20 150 (is_inode (v.blocks 20) 20 13 refl refl refl refl refl)
    (record { direct = refl; table = inl refl; in_table = refl; double = refl; arrays = refl; runs = refl; direct_range = refl; indirect_range = refl; double_range = refl; size_is = refl; enough = refl })

pub file_owner : IsOwner v 22
unfolding unsigned_at signed32_at signed64_at run_in runs_in unsigned_bytes signed32_bytes signed64_bytes run_bytes array_runs level_blocks bytes_at rows_of header_bytes head_bytes bytes_of level_bytes inode_block header_block leaf_block blocks
file_owner = owner_at v 22 5 (is_inode (v.blocks 22) 22 13 refl refl refl refl refl)
    (record { direct = refl; table = inl refl; in_table = refl; double = refl; arrays = refl; runs = refl; direct_range = refl; indirect_range = refl; double_range = refl; size_is = refl; enough = refl })

pub attribute_owner : IsOwner v 27
unfolding unsigned_at signed32_at signed64_at run_in runs_in unsigned_bytes signed32_bytes signed64_bytes run_bytes array_runs level_blocks bytes_at rows_of header_bytes head_bytes bytes_of level_bytes inode_block header_block leaf_block blocks
attribute_owner = owner_at v 27 4 (is_inode (v.blocks 27) 27 13 refl refl refl refl refl)
    (record { direct = refl; table = inl refl; in_table = refl; double = refl; arrays = refl; runs = refl; direct_range = refl; indirect_range = refl; double_range = refl; size_is = refl; enough = refl })

pub short_inode : IsInode (v.blocks 19) 19 13
unfolding unsigned_at signed32_at signed64_at run_in runs_in unsigned_bytes signed32_bytes signed64_bytes run_bytes array_runs level_blocks bytes_at rows_of header_bytes head_bytes bytes_of level_bytes inode_block header_block leaf_block blocks
short_inode = is_inode (v.blocks 19) 19 13 refl refl refl refl refl
