-- The volume with one directory is whole with no tree once that directory's row `.` or its own name is broken.
use Rattle.std.proofs.Common.{◌≡◌, ◌≤◌, ◌/◌, ◌%◌, [], ◌∷◌, Some, None, true, refl, sym, ap, ◌∙◌, subst, arith}
use Rattle.std.specs.Prelude.{codes, count_by}
use Rattle.std.specs.Str.{bytes_eq}
use Rattle.bfs_base.specs.declared.kind.KeyKind.TheVariants.{Text}
use Rattle.bfs_bytes.specs.Fields.{unsigned_at, signed32_at, signed64_at, run_in, unsigned_bytes, signed32_bytes, signed64_bytes, run_bytes}
use Rattle.bfs_inode.specs.Inode.{runs_in}
use Rattle.bfs_node.specs.Header.{header_bytes}
use Rattle.bfs_node.specs.Page.{rows_of, head_bytes}
use Rattle.bfs_smalldata.specs.Items.{Item, items_of, bytes_of}
use Rattle.bfs_smalldata.specs.Edits.{named}
use Rattle.bfs_stream.specs.Places.{array_runs, level_blocks, bytes_at}
use Rattle.bfs_tree.specs.declared.call.Kind.TheVariants.{Dir}
use Rattle.bfs_tree.specs.Trees.{Tree, Node}
use Rattle.bfs_values.specs.Rows.{rows_in}
use Rattle.bfs_sound.specs.Volumes.{Volume}
use Rattle.bfs_sound.specs.Inodes.{content, mode_bits}
use Rattle.bfs_sound.specs.Attributes.{own_name, is_name_item}
use Rattle.bfs_sound.specs.Nodes.{HasNode}
use Rattle.bfs_sound.specs.Listings.{IsChild}
use Rattle.bfs_sound.specs.Whole.{volume_of, Whole}
use Rattle.bfs_sound_tests.specs.Bytes.{level_bytes, inode_block, header_block, leaf_block, bitmap_block}
use Rattle.bfs_sound_tests.specs.Worked.{super_of_used, IsBroken}
use Rattle.bfs_sound_tests.specs.Directory.{blocks, root_rows, astray_rows, astray, nameless, renamed}
use Rattle.bfs_sound_tests.proofs.Standing.{apart_by}
use Rattle.bfs_sound_tests.proofs.DirectoryNodes.{blocks_long}
use Rattle.bfs_sound_tests.proofs.Supers.{reads_22, full_22}
use Rattle.bfs_sound_tests.proofs.Images.{broken, with_long}
use Rattle.bfs_sound_tests.proofs.Broken.{dir_kind, same_items, child_of, own_row, has_node}

abbrev astray_volume : Volume
astray_volume = volume_of (super_of_used 22) astray

astray_root : rows_in Text (content astray_volume 4) ≡ root_rows
unfolding unsigned_at signed32_at signed64_at run_in runs_in unsigned_bytes signed32_bytes signed64_bytes run_bytes array_runs level_blocks bytes_at rows_of header_bytes head_bytes bytes_of level_bytes inode_block header_block leaf_block blocks rows_in
astray_root = refl

astray_child : rows_in Text (content astray_volume 19) ≡ astray_rows
unfolding unsigned_at signed32_at signed64_at run_in runs_in unsigned_bytes signed32_bytes signed64_bytes run_bytes array_runs level_blocks bytes_at rows_of header_bytes head_bytes bytes_of level_bytes inode_block header_block leaf_block blocks rows_in
astray_child = refl

astray_kind : mode_bits astray_volume 19 / 4096 % 16 ≡ 4
unfolding unsigned_at signed32_at signed64_at run_in runs_in unsigned_bytes signed32_bytes signed64_bytes run_bytes array_runs level_blocks bytes_at rows_of header_bytes head_bytes bytes_of level_bytes inode_block header_block leaf_block blocks
astray_kind = refl

astray_not_whole : (tree : Tree) → Whole (super_of_used 22) astray tree → ⊥
astray_not_whole tree w =
    let c : IsChild tree 4 (codes "d") 19 = child_of (super_of_used 22) astray tree w root_rows astray_root (codes "d") 19 refl refl refl in
    let kind : c.node.kind ≡ Dir = dir_kind c.node.kind (sym astray_kind ∙ (has_node (super_of_used 22) astray tree w 19 c.node c.there).kind) in
    let bad : 4 ≡ 19 = own_row (super_of_used 22) astray tree w 19 c.node c.there kind astray_rows astray_child 4 refl in
    omega (arith, bad)

pub astray_broken : IsBroken 22 astray
unfolding unsigned_bytes signed32_bytes signed64_bytes run_bytes header_bytes head_bytes bytes_of level_bytes inode_block header_block leaf_block bitmap_block
astray_broken = broken 22 astray (with_long _ _ blocks refl blocks_long) reads_22 full_22 astray_not_whole

abbrev nameless_volume : Volume
nameless_volume = volume_of (super_of_used 22) nameless

nameless_root : rows_in Text (content nameless_volume 4) ≡ root_rows
unfolding unsigned_at signed32_at signed64_at run_in runs_in unsigned_bytes signed32_bytes signed64_bytes run_bytes array_runs level_blocks bytes_at rows_of header_bytes head_bytes bytes_of level_bytes inode_block header_block leaf_block blocks rows_in
nameless_root = refl

nameless_no_node : (n : Node) → HasNode nameless_volume 19 n → ⊥
unfolding unsigned_at signed32_at signed64_at run_in runs_in unsigned_bytes signed32_bytes signed64_bytes run_bytes array_runs level_blocks bytes_at rows_of header_bytes head_bytes bytes_of level_bytes inode_block header_block leaf_block blocks items_of
nameless_no_node n h =
    let e : h.items ≡ [] = same_items h.items [] (sym h.area) in
    let own : (item : Item) × (named own_name h.items ≡ Some item) × (is_name_item item ≡ true) × (item.bytes ≡ n.name) = h.called.name (apart_by 19 4 refl) in
    let bad : None ≡ Some own.0 = sym (ap (named own_name) e) ∙ own.1 in
    cc

nameless_not_whole : (tree : Tree) → Whole (super_of_used 22) nameless tree → ⊥
nameless_not_whole tree w =
    let c : IsChild tree 4 (codes "d") 19 = child_of (super_of_used 22) nameless tree w root_rows nameless_root (codes "d") 19 refl refl refl in
    nameless_no_node c.node (has_node (super_of_used 22) nameless tree w 19 c.node c.there)

pub nameless_broken : IsBroken 22 nameless
unfolding unsigned_bytes signed32_bytes signed64_bytes run_bytes header_bytes head_bytes bytes_of level_bytes inode_block header_block leaf_block bitmap_block
nameless_broken = broken 22 nameless (with_long _ _ blocks refl blocks_long) reads_22 full_22 nameless_not_whole

abbrev renamed_volume : Volume
renamed_volume = volume_of (super_of_used 22) renamed

renamed_root : rows_in Text (content renamed_volume 4) ≡ root_rows
unfolding unsigned_at signed32_at signed64_at run_in runs_in unsigned_bytes signed32_bytes signed64_bytes run_bytes array_runs level_blocks bytes_at rows_of header_bytes head_bytes bytes_of level_bytes inode_block header_block leaf_block blocks rows_in
renamed_root = refl

abbrev called : Item
called = record { kind = 0x43535452; name = 19 ∷ []; bytes = codes "d" }

renamed_no_node : (n : Node) → HasNode renamed_volume 19 n → ⊥
unfolding unsigned_at signed32_at signed64_at run_in runs_in unsigned_bytes signed32_bytes signed64_bytes run_bytes array_runs level_blocks bytes_at rows_of header_bytes head_bytes bytes_of level_bytes inode_block header_block leaf_block blocks items_of
renamed_no_node n h =
    let e : h.items ≡ called ∷ called ∷ [] = same_items h.items (called ∷ called ∷ []) (sym h.area) in
    let bad : 2 ≤ 1 = subst (λ items. count_by (λ (item : Item). bytes_eq item.name own_name) items ≤ 1) e (h.distinct own_name) in
    omega (arith, bad)

renamed_not_whole : (tree : Tree) → Whole (super_of_used 22) renamed tree → ⊥
renamed_not_whole tree w =
    let c : IsChild tree 4 (codes "d") 19 = child_of (super_of_used 22) renamed tree w root_rows renamed_root (codes "d") 19 refl refl refl in
    renamed_no_node c.node (has_node (super_of_used 22) renamed tree w 19 c.node c.there)

pub renamed_broken : IsBroken 22 renamed
unfolding unsigned_bytes signed32_bytes signed64_bytes run_bytes header_bytes head_bytes bytes_of level_bytes inode_block header_block leaf_block bitmap_block
renamed_broken = broken 22 renamed (with_long _ _ blocks refl blocks_long) reads_22 full_22 renamed_not_whole
