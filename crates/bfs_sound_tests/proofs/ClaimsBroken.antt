-- The volume with two attribute directories is whole with no tree where both name one attribute.
use Rattle.std.proofs.Common.{◌≡◌, ◌≤◌, ℕ, List, refl, arith}
use Rattle.std.specs.Prelude.{codes}
use Rattle.bfs_base.specs.Lists.{times}
use Rattle.bfs_base.specs.declared.kind.KeyKind.TheVariants.{Text}
use Rattle.bfs_bytes.specs.Fields.{unsigned_at, signed32_at, signed64_at, run_in, unsigned_bytes, signed32_bytes, signed64_bytes, run_bytes}
use Rattle.bfs_inode.specs.Inode.{runs_in}
use Rattle.bfs_node.specs.Header.{header_bytes}
use Rattle.bfs_node.specs.Page.{rows_of, head_bytes}
use Rattle.bfs_smalldata.specs.Items.{bytes_of}
use Rattle.bfs_stream.proofs.Doubles.{times-append}
use Rattle.bfs_stream.specs.Places.{array_runs, level_blocks, arrays_of, bytes_at}
use Rattle.bfs_tree.specs.Trees.{Tree, Node}
use Rattle.bfs_values.specs.Rows.{rows_in}
use Rattle.bfs_sound.specs.Volumes.{Volume}
use Rattle.bfs_sound.specs.Inodes.{content, inode_blocks}
use Rattle.bfs_sound.specs.Attributes.{attribute_directory, attribute_inodes}
use Rattle.bfs_sound.specs.Listings.{IsChild}
use Rattle.bfs_sound.specs.Owners.{own_blocks, node_blocks}
use Rattle.bfs_sound.specs.Whole.{volume_of, Whole}
use Rattle.bfs_sound.proofs.Parts.{nodes_apart}
use Rattle.std.specs.List.{flat_map}
use Rattle.bfs_sound_tests.specs.Bytes.{level_bytes, inode_block, header_block, leaf_block, bitmap_block}
use Rattle.bfs_sound_tests.specs.Worked.{super_of_used, IsBroken}
use Rattle.bfs_sound_tests.specs.Attributes.{blocks, root_rows, claimed}
use Rattle.bfs_sound_tests.proofs.Standing.{apart_by}
use Rattle.bfs_sound_tests.proofs.AttributeNodes.{blocks_long}
use Rattle.bfs_sound_tests.proofs.Supers.{reads_29, full_29}
use Rattle.bfs_sound_tests.proofs.Images.{broken, with_long}
use Rattle.bfs_sound_tests.proofs.Broken.{child_of}

abbrev claimed_volume : Volume
claimed_volume = volume_of (super_of_used 29) claimed

claimed_rows : rows_in Text (content claimed_volume 4) ≡ root_rows
unfolding unsigned_at signed32_at signed64_at run_in runs_in unsigned_bytes signed32_bytes signed64_bytes run_bytes array_runs level_blocks bytes_at rows_of header_bytes head_bytes bytes_of level_bytes inode_block header_block leaf_block blocks rows_in
claimed_rows = refl

-- the blocks of a node's attribute directory and its attributes
abbrev attribute_blocks : ℕ → List ℕ
attribute_blocks id = flat_map (inode_blocks claimed_volume) (attribute_inodes claimed_volume (attribute_directory claimed_volume id))

file_claims : times 24 (attribute_blocks 19) ≡ 1
unfolding unsigned_at signed32_at signed64_at run_in runs_in unsigned_bytes signed32_bytes signed64_bytes run_bytes array_runs level_blocks bytes_at rows_of header_bytes head_bytes bytes_of level_bytes inode_block header_block leaf_block blocks arrays_of rows_in
file_claims = refl

link_claims : times 24 (attribute_blocks 20) ≡ 1
unfolding unsigned_at signed32_at signed64_at run_in runs_in unsigned_bytes signed32_bytes signed64_bytes run_bytes array_runs level_blocks bytes_at rows_of header_bytes head_bytes bytes_of level_bytes inode_block header_block leaf_block blocks arrays_of rows_in
link_claims = refl

-- so each of the two nodes has the block of the attribute
has_attribute : (id : ℕ) (n : Node) → times 24 (attribute_blocks id) ≡ 1 → 1 ≤ times 24 (node_blocks claimed_volume (id, n))
unfolding node_blocks
has_attribute id n one = let a = times-append 24 (own_blocks claimed_volume (id, n)) (attribute_blocks id) in omega (arith, a, one)

claimed_not_whole : (tree : Tree) → Whole (super_of_used 29) claimed tree → ⊥
claimed_not_whole tree w =
    let f : IsChild tree 4 (codes "f") 19 = child_of (super_of_used 29) claimed tree w root_rows claimed_rows (codes "f") 19 refl refl refl in
    let l : IsChild tree 4 (codes "l") 20 = child_of (super_of_used 29) claimed tree w root_rows claimed_rows (codes "l") 20 refl refl refl in
    let most = nodes_apart claimed_volume tree w.sound.nodes.once 19 20 f.node l.node f.there l.there (apart_by 19 20 refl) 24 in
    let one = has_attribute 19 f.node file_claims in
    let two = has_attribute 20 l.node link_claims in
    omega (arith, most, one, two)

pub claimed_broken : IsBroken 29 claimed
unfolding unsigned_bytes signed32_bytes signed64_bytes run_bytes header_bytes head_bytes bytes_of level_bytes inode_block header_block leaf_block bitmap_block
claimed_broken = broken 29 claimed (with_long _ _ _ refl (with_long _ _ blocks refl blocks_long)) reads_29 full_29 claimed_not_whole
