-- The volume with a directory in a directory is whole with no tree once one thing in it is broken.
use Rattle.std.proofs.Common.{◌≡◌, ◌/◌, ◌%◌, pos, List, [], ◌∷◌, Some, refl, sym, ap, ◌∙◌, arith}
use Rattle.std.specs.Prelude.{codes}
use Rattle.bfs_base.specs.declared.kind.KeyKind.TheVariants.{Text}
use Rattle.bfs_bytes.specs.Fields.{unsigned_at, signed32_at, signed64_at, run_in, unsigned_bytes, signed32_bytes, signed64_bytes, run_bytes}
use Rattle.bfs_inode.specs.Inode.{runs_in}
use Rattle.bfs_inode.specs.Refusals.{Names}
use Rattle.bfs_super.specs.Conditions.{natural}
use Rattle.bfs_sound_tests.proofs.Standing.{apart_by}
use Rattle.bfs_node.specs.Header.{header_bytes}
use Rattle.bfs_node.specs.Page.{Row, rows_of, head_bytes}
use Rattle.bfs_smalldata.specs.Items.{bytes_of}
use Rattle.bfs_stream.specs.Places.{array_runs, level_blocks, bytes_at}
use Rattle.bfs_tree.specs.declared.call.Kind.TheVariants.{Dir}
use Rattle.bfs_tree.specs.Trees.{Tree, Node}
use Rattle.bfs_values.specs.Rows.{rows_in}
use Rattle.bfs_sound.specs.Volumes.{Volume}
use Rattle.bfs_sound.specs.Inodes.{content, mode_bits}
use Rattle.bfs_sound.specs.Nodes.{HasNode}
use Rattle.bfs_sound.specs.Listings.{IsChild}
use Rattle.bfs_sound.specs.Whole.{volume_of, Whole}
use Rattle.bfs_sound_tests.specs.Bytes.{address, level_bytes, inode_block, header_block, leaf_block, bitmap_block}
use Rattle.bfs_sound_tests.specs.Worked.{super_of_used, IsBroken}
use Rattle.bfs_sound_tests.specs.Nested.{blocks, root_rows, outer_rows, misplaced, doubled}
use Rattle.bfs_sound_tests.proofs.NestedNodes.{blocks_long}
use Rattle.bfs_sound_tests.proofs.Supers.{reads_25, full_25}
use Rattle.bfs_sound_tests.proofs.Images.{broken, with_long}
use Rattle.bfs_sound_tests.proofs.Broken.{dir_kind, child_of, child_in, has_node}

abbrev more_rows : List Row
more_rows = (codes ".", pos 4) ∷ (codes "..", pos 4) ∷ (codes "d", pos 19) ∷ (codes "e", pos 22) ∷ []

abbrev misplaced_volume : Volume
misplaced_volume = volume_of (super_of_used 25) misplaced

misplaced_rows : rows_in Text (content misplaced_volume 4) ≡ root_rows
unfolding unsigned_at signed32_at signed64_at run_in runs_in unsigned_bytes signed32_bytes signed64_bytes run_bytes array_runs level_blocks bytes_at rows_of header_bytes head_bytes bytes_of level_bytes inode_block header_block leaf_block blocks rows_in
misplaced_rows = refl

misplaced_outer : rows_in Text (content misplaced_volume 19) ≡ outer_rows
unfolding unsigned_at signed32_at signed64_at run_in runs_in unsigned_bytes signed32_bytes signed64_bytes run_bytes array_runs level_blocks bytes_at rows_of header_bytes head_bytes bytes_of level_bytes inode_block header_block leaf_block blocks rows_in
misplaced_outer = refl

misplaced_kind : mode_bits misplaced_volume 19 / 4096 % 16 ≡ 4
unfolding unsigned_at signed32_at signed64_at run_in runs_in unsigned_bytes signed32_bytes signed64_bytes run_bytes array_runs level_blocks bytes_at rows_of header_bytes head_bytes bytes_of level_bytes inode_block header_block leaf_block blocks
misplaced_kind = refl

-- `e` is a child of `d`
misplaced_inner : (tree : Tree) → Whole (super_of_used 25) misplaced tree → IsChild tree 19 (codes "e") 22
misplaced_inner tree w =
    let d : IsChild tree 4 (codes "d") 19 = child_of (super_of_used 25) misplaced tree w root_rows misplaced_rows (codes "d") 19 refl refl refl in
    let kind : d.node.kind ≡ Dir = dir_kind d.node.kind (sym misplaced_kind ∙ (has_node (super_of_used 25) misplaced tree w 19 d.node d.there).kind) in
    child_in (super_of_used 25) misplaced tree w 19 d.node d.there kind outer_rows misplaced_outer (codes "e") 22 refl refl refl

-- the inode says another parent than the tree does
misplaced_no_node : (n : Node) → HasNode misplaced_volume 22 n → n.parent ≡ 19 → ⊥
unfolding unsigned_at signed32_at signed64_at run_in runs_in unsigned_bytes signed32_bytes signed64_bytes run_bytes array_runs level_blocks bytes_at rows_of header_bytes head_bytes bytes_of level_bytes inode_block header_block leaf_block blocks
misplaced_no_node n h parent =
    let names : Names (address 4) n.parent 13 = h.called.parent (apart_by 22 4 refl) in
    let number : pos 4 ≡ pos n.parent = names.block in
    let bad : 4 ≡ n.parent = ap natural number in
    omega (arith, bad, parent)

misplaced_not_whole : (tree : Tree) → Whole (super_of_used 25) misplaced tree → ⊥
misplaced_not_whole tree w = let e = misplaced_inner tree w in misplaced_no_node e.node (has_node (super_of_used 25) misplaced tree w 22 e.node e.there) e.parent

pub misplaced_broken : IsBroken 25 misplaced
unfolding unsigned_bytes signed32_bytes signed64_bytes run_bytes header_bytes head_bytes bytes_of level_bytes inode_block header_block leaf_block bitmap_block
misplaced_broken = broken 25 misplaced (with_long _ _ blocks refl blocks_long) reads_25 full_25 misplaced_not_whole

abbrev doubled_volume : Volume
doubled_volume = volume_of (super_of_used 25) doubled

doubled_rows : rows_in Text (content doubled_volume 4) ≡ more_rows
unfolding unsigned_at signed32_at signed64_at run_in runs_in unsigned_bytes signed32_bytes signed64_bytes run_bytes array_runs level_blocks bytes_at rows_of header_bytes head_bytes bytes_of level_bytes inode_block header_block leaf_block blocks rows_in
doubled_rows = refl

doubled_outer : rows_in Text (content doubled_volume 19) ≡ outer_rows
unfolding unsigned_at signed32_at signed64_at run_in runs_in unsigned_bytes signed32_bytes signed64_bytes run_bytes array_runs level_blocks bytes_at rows_of header_bytes head_bytes bytes_of level_bytes inode_block header_block leaf_block blocks rows_in
doubled_outer = refl

doubled_kind : mode_bits doubled_volume 19 / 4096 % 16 ≡ 4
unfolding unsigned_at signed32_at signed64_at run_in runs_in unsigned_bytes signed32_bytes signed64_bytes run_bytes array_runs level_blocks bytes_at rows_of header_bytes head_bytes bytes_of level_bytes inode_block header_block leaf_block blocks
doubled_kind = refl

-- `e` is a child of `d`
doubled_inner : (tree : Tree) → Whole (super_of_used 25) doubled tree → IsChild tree 19 (codes "e") 22
doubled_inner tree w =
    let d : IsChild tree 4 (codes "d") 19 = child_of (super_of_used 25) doubled tree w more_rows doubled_rows (codes "d") 19 refl refl refl in
    let kind : d.node.kind ≡ Dir = dir_kind d.node.kind (sym doubled_kind ∙ (has_node (super_of_used 25) doubled tree w 19 d.node d.there).kind) in
    child_in (super_of_used 25) doubled tree w 19 d.node d.there kind outer_rows doubled_outer (codes "e") 22 refl refl refl

doubled_not_whole : (tree : Tree) → Whole (super_of_used 25) doubled tree → ⊥
doubled_not_whole tree w =
    let e : IsChild tree 19 (codes "e") 22 = doubled_inner tree w in
    let other : IsChild tree 4 (codes "e") 22 = child_of (super_of_used 25) doubled tree w more_rows doubled_rows (codes "e") 22 refl refl refl in
    let twice : Some e.node ≡ Some other.node = sym e.there ∙ other.there in
    let one : e.node ≡ other.node = cc in
    let bad : 19 ≡ 4 = sym e.parent ∙ ap (λ (n : Node). n.parent) one ∙ other.parent in
    omega (arith, bad)

pub doubled_broken : IsBroken 25 doubled
unfolding unsigned_bytes signed32_bytes signed64_bytes run_bytes header_bytes head_bytes bytes_of level_bytes inode_block header_block leaf_block bitmap_block
doubled_broken = broken 25 doubled (with_long _ _ blocks refl blocks_long) reads_25 full_25 doubled_not_whole
