-- The volume with links and attributes is whole with no tree once one thing in it is broken.
use Rattle.std.proofs.Common.{◌≡◌, ◌<◌, ◌≤◌, ℕ, pos, List, [], ◌∷◌, ◌++◌, length, true, false, refl, sym, ap, subst, arith}
use Rattle.std.specs.Prelude.{codes, count_by}
use Rattle.std.specs.Str.{bytes_eq}
use Rattle.std.specs.List.{AllByRecursion}
use Rattle.std.proofs.lemmas.List.Elements.{All-head}
use Rattle.bfs_base.specs.declared.kind.KeyKind.TheVariants.{Text}
use Rattle.bfs_bytes.specs.Fields.{unsigned_at, signed32_at, signed64_at, run_in, unsigned_bytes, signed32_bytes, signed64_bytes, run_bytes}
use Rattle.bfs_inode.specs.Inode.{runs_in}
use Rattle.bfs_node.specs.Header.{header_bytes}
use Rattle.bfs_node.specs.Page.{rows_of, head_bytes}
use Rattle.bfs_smalldata.specs.Items.{Item, items_of, bytes_of}
use Rattle.bfs_stream.specs.Sizes.{IsInVolume}
use Rattle.bfs_stream.specs.Places.{array_runs, level_blocks, bytes_at, HasStream}
use Rattle.bfs_tree.specs.declared.call.Kind.TheVariants.{Link}
use Rattle.bfs_tree.specs.Trees.{Tree, Node}
use Rattle.bfs_values.specs.Rows.{rows_in}
use Rattle.bfs_sound.specs.Volumes.{Volume, sizes}
use Rattle.bfs_sound.specs.Inodes.{content}
use Rattle.bfs_sound.specs.Attributes.{Named, IsAttributeRow, IsAttributeDirectory, attributes_in, attributes_of, attribute_directory}
use Rattle.bfs_sound.specs.Nodes.{HasNode, HasContent, HasTarget}
use Rattle.bfs_sound.specs.Listings.{IsChild}
use Rattle.bfs_sound.specs.Whole.{volume_of, Whole}
use Rattle.bfs_sound_tests.specs.Bytes.{run, level_bytes, inode_block, header_block, leaf_block, bitmap_block}
use Rattle.bfs_sound_tests.specs.Worked.{super_of_used, IsBroken}
use Rattle.bfs_sound_tests.specs.Links.{blocks, root_rows, small_attribute, unended, outside, repeated, clashing, untyped}
use Rattle.bfs_sound_tests.proofs.LinkNodes.{blocks_long}
use Rattle.bfs_sound_tests.proofs.Supers.{reads_29, full_29}
use Rattle.bfs_sound_tests.proofs.Images.{broken, with_long}
use Rattle.bfs_sound_tests.proofs.Broken.{link_kind, same_items, child_of, has_node}

abbrev called : List ℕ → Item
called name = record { kind = 0x43535452; name = 19 ∷ []; bytes = name }

abbrev unended_volume : Volume
unended_volume = volume_of (super_of_used 29) unended

unended_rows : rows_in Text (content unended_volume 4) ≡ root_rows
unfolding unsigned_at signed32_at signed64_at run_in runs_in unsigned_bytes signed32_bytes signed64_bytes run_bytes array_runs level_blocks bytes_at rows_of header_bytes head_bytes bytes_of level_bytes inode_block header_block leaf_block blocks rows_in
unended_rows = refl

unended_node : (tree : Tree) → Whole (super_of_used 29) unended tree → (n : Node) × HasNode unended_volume 19 n
unended_node tree w =
    let c : IsChild tree 4 (codes "l") 19 = child_of (super_of_used 29) unended tree w root_rows unended_rows (codes "l") 19 refl refl refl in
    (c.node, has_node (super_of_used 29) unended tree w 19 c.node c.there)

unended_no_node : (n : Node) → HasNode unended_volume 19 n → ⊥
unfolding unsigned_at signed32_at signed64_at run_in runs_in unsigned_bytes signed32_bytes signed64_bytes run_bytes array_runs level_blocks bytes_at rows_of header_bytes head_bytes bytes_of level_bytes inode_block header_block leaf_block blocks
unended_no_node n h =
    let k : n.kind ≡ Link = link_kind n.kind h.kind in
    let t : HasTarget unended_volume 19 n.target true = (subst (HasContent unended_volume 19 n) k h.content_is).0 in
    let short : length n.target < 144 = t.1 in
    let long : 144 ≡ length n.target = ap length t.0 in
    omega (arith, short, long)

unended_not_whole : (tree : Tree) → Whole (super_of_used 29) unended tree → ⊥
unended_not_whole tree w = let n = unended_node tree w in unended_no_node n.0 n.1

abbrev outside_volume : Volume
outside_volume = volume_of (super_of_used 29) outside

outside_rows : rows_in Text (content outside_volume 4) ≡ root_rows
unfolding unsigned_at signed32_at signed64_at run_in runs_in unsigned_bytes signed32_bytes signed64_bytes run_bytes array_runs level_blocks bytes_at rows_of header_bytes head_bytes bytes_of level_bytes inode_block header_block leaf_block blocks rows_in
outside_rows = refl

outside_node : (tree : Tree) → Whole (super_of_used 29) outside tree → (n : Node) × HasNode outside_volume 20 n
outside_node tree w =
    let c : IsChild tree 4 (codes "m") 20 = child_of (super_of_used 29) outside tree w root_rows outside_rows (codes "m") 20 refl refl refl in
    (c.node, has_node (super_of_used 29) outside tree w 20 c.node c.there)

outside_no_node : (n : Node) → HasNode outside_volume 20 n → ⊥
unfolding unsigned_at signed32_at signed64_at run_in runs_in unsigned_bytes signed32_bytes signed64_bytes run_bytes array_runs level_blocks bytes_at rows_of header_bytes head_bytes bytes_of level_bytes inode_block header_block leaf_block blocks
outside_no_node n h =
    let k : n.kind ≡ Link = link_kind n.kind h.kind in
    let t : HasTarget outside_volume 20 n.target false = (subst (HasContent outside_volume 20 n) k h.content_is).0 in
    let stream : HasStream (sizes outside_volume.geometry) outside 20 = t.0 in
    let first : IsInVolume (sizes outside_volume.geometry) (run 64 1) = All-head (IsInVolume (sizes outside_volume.geometry)) (run 64 1) [] stream.direct in
    let bad : 65 ≤ 64 = first.inside in
    omega (arith, bad)

outside_not_whole : (tree : Tree) → Whole (super_of_used 29) outside tree → ⊥
outside_not_whole tree w = let n = outside_node tree w in outside_no_node n.0 n.1

abbrev repeated_volume : Volume
repeated_volume = volume_of (super_of_used 29) repeated

repeated_rows : rows_in Text (content repeated_volume 4) ≡ root_rows
unfolding unsigned_at signed32_at signed64_at run_in runs_in unsigned_bytes signed32_bytes signed64_bytes run_bytes array_runs level_blocks bytes_at rows_of header_bytes head_bytes bytes_of level_bytes inode_block header_block leaf_block blocks rows_in
repeated_rows = refl

repeated_node : (tree : Tree) → Whole (super_of_used 29) repeated tree → (n : Node) × HasNode repeated_volume 22 n
repeated_node tree w =
    let c : IsChild tree 4 (codes "f") 22 = child_of (super_of_used 29) repeated tree w root_rows repeated_rows (codes "f") 22 refl refl refl in
    (c.node, has_node (super_of_used 29) repeated tree w 22 c.node c.there)

repeated_no_node : (n : Node) → HasNode repeated_volume 22 n → ⊥
unfolding unsigned_at signed32_at signed64_at run_in runs_in unsigned_bytes signed32_bytes signed64_bytes run_bytes array_runs level_blocks bytes_at rows_of header_bytes head_bytes bytes_of level_bytes inode_block header_block leaf_block blocks items_of
repeated_no_node n h =
    let e : h.items ≡ called (codes "f") ∷ small_attribute ∷ small_attribute ∷ [] = same_items h.items (called (codes "f") ∷ small_attribute ∷ small_attribute ∷ []) (sym h.area) in
    let bad : 2 ≤ 1 = subst (λ items. count_by (λ (item : Item). bytes_eq item.name (codes "a")) items ≤ 1) e (h.distinct (codes "a")) in
    omega (arith, bad)

repeated_not_whole : (tree : Tree) → Whole (super_of_used 29) repeated tree → ⊥
repeated_not_whole tree w = let n = repeated_node tree w in repeated_no_node n.0 n.1

abbrev clashing_volume : Volume
clashing_volume = volume_of (super_of_used 29) clashing

clashing_rows : rows_in Text (content clashing_volume 4) ≡ root_rows
unfolding unsigned_at signed32_at signed64_at run_in runs_in unsigned_bytes signed32_bytes signed64_bytes run_bytes array_runs level_blocks bytes_at rows_of header_bytes head_bytes bytes_of level_bytes inode_block header_block leaf_block blocks rows_in
clashing_rows = refl

clashing_node : (tree : Tree) → Whole (super_of_used 29) clashing tree → (n : Node) × HasNode clashing_volume 22 n
clashing_node tree w =
    let c : IsChild tree 4 (codes "f") 22 = child_of (super_of_used 29) clashing tree w root_rows clashing_rows (codes "f") 22 refl refl refl in
    (c.node, has_node (super_of_used 29) clashing tree w 22 c.node c.there)

clashing_no_node : (n : Node) → HasNode clashing_volume 22 n → ⊥
unfolding unsigned_at signed32_at signed64_at run_in runs_in unsigned_bytes signed32_bytes signed64_bytes run_bytes array_runs level_blocks bytes_at rows_of header_bytes head_bytes bytes_of level_bytes inode_block header_block leaf_block blocks items_of rows_in
clashing_no_node n h =
    let e : h.items ≡ called (codes "f") ∷ small_attribute ∷ [] = same_items h.items (called (codes "f") ∷ small_attribute ∷ []) (sym h.area) in
    let bad : 2 ≤ 1 = subst (λ items. count_by (λ (e : Named). bytes_eq e.0 (codes "a")) (attributes_in items ++ attributes_of clashing_volume (attribute_directory clashing_volume 22)) ≤ 1) e (h.apart (codes "a")) in
    omega (arith, bad)

clashing_not_whole : (tree : Tree) → Whole (super_of_used 29) clashing tree → ⊥
clashing_not_whole tree w = let n = clashing_node tree w in clashing_no_node n.0 n.1

abbrev untyped_volume : Volume
untyped_volume = volume_of (super_of_used 29) untyped

untyped_rows : rows_in Text (content untyped_volume 4) ≡ root_rows
unfolding unsigned_at signed32_at signed64_at run_in runs_in unsigned_bytes signed32_bytes signed64_bytes run_bytes array_runs level_blocks bytes_at rows_of header_bytes head_bytes bytes_of level_bytes inode_block header_block leaf_block blocks rows_in
untyped_rows = refl

untyped_node : (tree : Tree) → Whole (super_of_used 29) untyped tree → (n : Node) × HasNode untyped_volume 22 n
untyped_node tree w =
    let c : IsChild tree 4 (codes "f") 22 = child_of (super_of_used 29) untyped tree w root_rows untyped_rows (codes "f") 22 refl refl refl in
    (c.node, has_node (super_of_used 29) untyped tree w 22 c.node c.there)

untyped_no_node : (n : Node) → HasNode untyped_volume 22 n → ⊥
unfolding unsigned_at signed32_at signed64_at run_in runs_in unsigned_bytes signed32_bytes signed64_bytes run_bytes array_runs level_blocks bytes_at rows_of header_bytes head_bytes bytes_of level_bytes inode_block header_block leaf_block blocks rows_in
untyped_no_node n h =
    let d : IsAttributeDirectory untyped_volume 22 24 = h.directory in
    let rows : AllByRecursion (IsAttributeRow untyped_volume) ((codes "b", pos 27) ∷ []) = d.rows in
    let bad : 0 ≡ 1 = rows.0.mode in
    omega (arith, bad)

untyped_not_whole : (tree : Tree) → Whole (super_of_used 29) untyped tree → ⊥
untyped_not_whole tree w = let n = untyped_node tree w in untyped_no_node n.0 n.1

pub unended_broken : IsBroken 29 unended
unfolding unsigned_bytes signed32_bytes signed64_bytes run_bytes header_bytes head_bytes bytes_of level_bytes inode_block header_block leaf_block bitmap_block
unended_broken = broken 29 unended (with_long _ _ blocks refl blocks_long) reads_29 full_29 unended_not_whole

pub outside_broken : IsBroken 29 outside
unfolding unsigned_bytes signed32_bytes signed64_bytes run_bytes header_bytes head_bytes bytes_of level_bytes inode_block header_block leaf_block bitmap_block
outside_broken = broken 29 outside (with_long _ _ blocks refl blocks_long) reads_29 full_29 outside_not_whole

pub repeated_broken : IsBroken 29 repeated
unfolding unsigned_bytes signed32_bytes signed64_bytes run_bytes header_bytes head_bytes bytes_of level_bytes inode_block header_block leaf_block bitmap_block
repeated_broken = broken 29 repeated (with_long _ _ blocks refl blocks_long) reads_29 full_29 repeated_not_whole

pub clashing_broken : IsBroken 29 clashing
unfolding unsigned_bytes signed32_bytes signed64_bytes run_bytes header_bytes head_bytes bytes_of level_bytes inode_block header_block leaf_block bitmap_block
clashing_broken = broken 29 clashing (with_long _ _ blocks refl blocks_long) reads_29 full_29 clashing_not_whole

pub untyped_broken : IsBroken 29 untyped
unfolding unsigned_bytes signed32_bytes signed64_bytes run_bytes header_bytes head_bytes bytes_of level_bytes inode_block header_block leaf_block bitmap_block
untyped_broken = broken 29 untyped (with_long _ _ blocks refl blocks_long) reads_29 full_29 untyped_not_whole
