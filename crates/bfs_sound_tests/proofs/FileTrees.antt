-- The trees and the streams of the volume with an indirect table and a fragment.
use Rattle.std.proofs.Common.{◌≡◌, ◌+◌, ℕ, inl, inr, cond, arith, [], ◌∷◌, refl}
use Rattle.std.specs.Prelude.{◌==◌, ◌&&◌}
use Rattle.bfs_base.specs.declared.kind.KeyKind.TheVariants.{Text, I64}
use Rattle.bfs_bytes.specs.Fields.{unsigned_at, signed32_at, signed64_at, run_in, unsigned_bytes, signed32_bytes, signed64_bytes, run_bytes}
use Rattle.bfs_inode.specs.Inode.{runs_in}
use Rattle.bfs_values.specs.Reached.{times_named}
use Rattle.bfs_base.specs.Keys.{number_of}
use Rattle.bfs_node.specs.Header.{header_bytes, code_of}
use Rattle.bfs_node.specs.Page.{rows_of, head_bytes}
use Rattle.bfs_smalldata.specs.Items.{bytes_of}
use Rattle.bfs_stream.specs.Places.{array_runs, level_blocks, bytes_at}
use Rattle.bfs_values.specs.Links.{link_in}
use Rattle.bfs_sound.specs.Volumes.{Volume}
use Rattle.bfs_sound.specs.Inodes.{content, IsOwner}
use Rattle.bfs_sound.specs.Whole.{volume_of}
use Rattle.bfs_sound_tests.specs.Bytes.{level_bytes, inode_block, header_block, leaf_block}
use Rattle.bfs_sound_tests.specs.Worked.{super_of_used, index_rows}
use Rattle.bfs_sound_tests.specs.Files.{blocks, root_rows, name_rows, size_rows, time_rows}
use Rattle.bfs_sound_tests.proofs.Finite.{low, most}
use Rattle.bfs_sound_tests.proofs.Leaves.{two_held, three_held, plain_values, one_fragment}
use Rattle.bfs_sound_tests.proofs.Streams.{is_inode}
use Rattle.bfs_sound_tests.proofs.Standing.{HasTree, tree_at, owner_at}

abbrev pub v : Volume
v = volume_of (super_of_used 36) blocks

pub root_tree : HasTree v 4 Text root_rows
unfolding unsigned_at signed32_at signed64_at run_in runs_in unsigned_bytes signed32_bytes signed64_bytes run_bytes array_runs level_blocks bytes_at rows_of header_bytes head_bytes bytes_of level_bytes inode_block header_block leaf_block blocks link_in
root_tree = tree_at v 4 Text 2048 [] root_rows (is_inode (v.blocks 4) 4 13 refl refl refl refl refl)
    (record { direct = refl; table = inl refl; in_table = refl; double = refl; arrays = refl; runs = refl; direct_range = refl; indirect_range = refl; double_range = refl; size_is = refl; enough = refl })
    (record { long = refl; pages = refl; few = most (code_of Text) 4 refl; header = refl; body = refl; links = refl; ascend = ((refl, (refl, (refl, tt))), ((refl, (refl, tt)), ((refl, tt), (tt, tt)))); once = two_held })
    (plain_values (content v 4) root_rows (λ at f. refl) refl refl)

pub indices_tree : HasTree v 7 Text index_rows
unfolding unsigned_at signed32_at signed64_at run_in runs_in unsigned_bytes signed32_bytes signed64_bytes run_bytes array_runs level_blocks bytes_at rows_of header_bytes head_bytes bytes_of level_bytes inode_block header_block leaf_block blocks link_in
indices_tree = tree_at v 7 Text 2048 [] index_rows (is_inode (v.blocks 7) 7 13 refl refl refl refl refl)
    (record { direct = refl; table = inl refl; in_table = refl; double = refl; arrays = refl; runs = refl; direct_range = refl; indirect_range = refl; double_range = refl; size_is = refl; enough = refl })
    (record { long = refl; pages = refl; few = most (code_of Text) 4 refl; header = refl; body = refl; links = refl; ascend = ((refl, (refl, tt)), ((refl, tt), (tt, tt))); once = two_held })
    (plain_values (content v 7) index_rows (λ at f. refl) refl refl)

pub name_tree : HasTree v 10 Text name_rows
unfolding unsigned_at signed32_at signed64_at run_in runs_in unsigned_bytes signed32_bytes signed64_bytes run_bytes array_runs level_blocks bytes_at rows_of header_bytes head_bytes bytes_of level_bytes inode_block header_block leaf_block blocks link_in
name_tree = tree_at v 10 Text 2048 [] name_rows (is_inode (v.blocks 10) 10 13 refl refl refl refl refl)
    (record { direct = refl; table = inl refl; in_table = refl; double = refl; arrays = refl; runs = refl; direct_range = refl; indirect_range = refl; double_range = refl; size_is = refl; enough = refl })
    (record { long = refl; pages = refl; few = most (code_of Text) 4 refl; header = refl; body = refl; links = refl; ascend = ((refl, tt), (tt, tt)); once = two_held })
    (plain_values (content v 10) name_rows (λ at f. refl) refl refl)

pub size_tree : HasTree v 13 I64 size_rows
unfolding unsigned_at signed32_at signed64_at run_in runs_in unsigned_bytes signed32_bytes signed64_bytes run_bytes array_runs level_blocks bytes_at rows_of header_bytes head_bytes bytes_of level_bytes inode_block header_block leaf_block blocks link_in number_of
size_tree = tree_at v 13 I64 2048 [] size_rows (is_inode (v.blocks 13) 13 13 refl refl refl refl refl)
    (record { direct = refl; table = inl refl; in_table = refl; double = refl; arrays = refl; runs = refl; direct_range = refl; indirect_range = refl; double_range = refl; size_is = refl; enough = refl })
    (record { long = refl; pages = refl; few = most (code_of I64) 4 refl; header = refl; body = refl; links = refl; ascend = ((refl, tt), (tt, tt)); once = two_held })
    (plain_values (content v 13) size_rows (λ at f. refl) refl refl)

-- the only row names the first fragment of the page at byte 2048
named : (at f : ℕ) → times_named at f time_rows ≡ cond ((2048 == at) && (0 == f)) 1 0
unfolding link_in
named at f = let e : cond ((2048 == at) && (0 == f)) 1 0 + 0 ≡ cond ((2048 == at) && (0 == f)) 1 0 = omega arith in e

pub time_tree : HasTree v 16 I64 time_rows
unfolding unsigned_at signed32_at signed64_at run_in runs_in unsigned_bytes signed32_bytes signed64_bytes run_bytes array_runs level_blocks bytes_at rows_of header_bytes head_bytes bytes_of level_bytes inode_block header_block leaf_block blocks link_in
time_tree = tree_at v 16 I64 3072 (2048 ∷ []) time_rows (is_inode (v.blocks 16) 16 13 refl refl refl refl refl)
    (record { direct = refl; table = inl refl; in_table = refl; double = refl; arrays = refl; runs = refl; direct_range = refl; indirect_range = refl; double_range = refl; size_is = refl; enough = refl })
    (record { long = refl; pages = refl; few = most (code_of I64) 4 refl; header = refl; body = refl; links = refl; ascend = (tt, tt); once = three_held })
    (one_fragment (content v 16) time_rows 2048 named refl refl (((most 1 2048 refl, refl), record { inside = low 0 16 refl; some = most 1 2 refl; fits = most 2 7 refl; ascend = refl }), tt))

pub large_owner : IsOwner v 20
unfolding unsigned_at signed32_at signed64_at run_in runs_in unsigned_bytes signed32_bytes signed64_bytes run_bytes array_runs level_blocks bytes_at rows_of header_bytes head_bytes bytes_of level_bytes inode_block header_block leaf_block blocks
large_owner = owner_at v 20 13000 (is_inode (v.blocks 20) 20 13 refl refl refl refl refl)
    (record { direct = refl; table = inr (refl, refl); in_table = refl; double = refl; arrays = refl; runs = refl; direct_range = refl; indirect_range = refl; double_range = refl; size_is = refl; enough = refl })

pub empty_owner : IsOwner v 35
unfolding unsigned_at signed32_at signed64_at run_in runs_in unsigned_bytes signed32_bytes signed64_bytes run_bytes array_runs level_blocks bytes_at rows_of header_bytes head_bytes bytes_of level_bytes inode_block header_block leaf_block blocks
empty_owner = owner_at v 35 0 (is_inode (v.blocks 35) 35 13 refl refl refl refl refl)
    (record { direct = refl; table = inl refl; in_table = refl; double = refl; arrays = refl; runs = refl; direct_range = refl; indirect_range = refl; double_range = refl; size_is = refl; enough = refl })
