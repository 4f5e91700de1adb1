-- The volume with an interior page, duplicates and a free page is whole with no tree once the header doesn't name the free page.
use Rattle.std.proofs.Common.{◌≡◌, ◌+◌, ◌<◌, ℕ, zero, suc, pos, List, [], ◌∷◌, ◌++◌, length, Option, Some, None, refl, sym, ap, ap₂, ◌∙◌, subst, arith, map, append-nil}
use Rattle.std.specs.Prelude.{codes}
use Rattle.std.specs.List.{flat_map}
use Rattle.bfs_base.specs.Lists.{times}
use Rattle.bfs_base.specs.declared.kind.KeyKind.TheVariants.{I64}
use Rattle.bfs_bytes.specs.Fields.{unsigned_at, signed32_at, signed64_at, run_in, unsigned_bytes, signed32_bytes, signed64_bytes, run_bytes}
use Rattle.bfs_inode.specs.Inode.{runs_in}
use Rattle.bfs_node.specs.Header.{header_bytes}
use Rattle.bfs_node.specs.Page.{Row, rows_of, head_bytes}
use Rattle.bfs_pages.specs.Shapes.{Body, Shape, Shapes, leaf_shape, node_shape, last_shape, more_shapes, place, met_by, met_by_all, children_of, last_child, IsDeep, AreDeep, Stands, StandAll}
use Rattle.bfs_pages.specs.Trees.{State, state_of, held, head_or, FreeFrom}
use Rattle.bfs_smalldata.specs.Items.{bytes_of}
use Rattle.bfs_stream.proofs.Doubles.{times-append}
use Rattle.bfs_stream.specs.Places.{array_runs, level_blocks, bytes_at}
use Rattle.bfs_tree.specs.Trees.{Tree}
use Rattle.bfs_values.specs.Links.{link_in}
use Rattle.bfs_values.specs.Reached.{times_named, AreReached, IsWholeTree}
use Rattle.bfs_values.specs.Rows.{children_at, rows_in}
use Rattle.bfs_sound.specs.Volumes.{Volume}
use Rattle.bfs_sound.specs.Inodes.{content}
use Rattle.bfs_sound.specs.Listings.{IsIndexRow}
use Rattle.bfs_sound.specs.Whole.{volume_of, Whole}
use Rattle.bfs_sound_tests.specs.Bytes.{level_bytes, inode_block, header_block, leaf_block, bitmap_block}
use Rattle.bfs_sound_tests.specs.Worked.{super_of_used, IsBroken}
use Rattle.bfs_sound_tests.specs.Pages.{blocks, first_rows, last_rows, unreached}
use Rattle.bfs_sound_tests.proofs.PageNodes.{blocks_long}
use Rattle.bfs_sound_tests.proofs.Supers.{reads_28, full_28}
use Rattle.bfs_sound_tests.proofs.Images.{broken, with_long}
use Rattle.bfs_sound_tests.proofs.Broken.{time_tree}

-- the places of the pages of a tree that is so many pages deep, from its topmost page down
abbrev met_below : (ℕ → Option Body) → ℕ → ℕ → List ℕ
met_below bodies zero at = at ∷ []
met_below bodies (suc n) at = at ∷ flat_map (met_below bodies n) (children_at (bodies at))

mutual
  met_are : (bodies : ℕ → Option Body) (n : ℕ) (t : Shape) → Stands bodies t → IsDeep n t → met_below bodies n (place t) ≡ met_by t
  met_are bodies n (leaf_shape at rows) stands deep = subst (λ m. met_below bodies m at ≡ at ∷ []) (sym deep) refl
  met_are bodies zero (node_shape at below) stands deep = absurd deep
  met_are bodies (suc n) (node_shape at below) stands deep =
      ap (λ o. at ∷ flat_map (met_below bodies n) (children_at o)) stands.0 ∙ ap (λ xs. at ∷ xs) (all_met bodies n below stands.1 deep)

  all_met : (bodies : ℕ → Option Body) (n : ℕ) (ts : Shapes) → StandAll bodies ts → AreDeep n ts
      → flat_map (met_below bodies n) (map (λ e. e.1) (children_of ts) ++ (last_child ts ∷ [])) ≡ met_by_all ts
  all_met bodies n (last_shape t) stands deep = append-nil (met_below bodies n (place t)) ∙ met_are bodies n t stands deep
  all_met bodies n (more_shapes t key ts) stands deep = ap₂ (λ a b. a ++ b) (met_are bodies n t stands.0 deep.0) (all_met bodies n ts stands.1 deep.1)

-- a free list from no page on has no page
none_free : (frees : ℕ → Option ℕ) (fs : List ℕ) → frees 0 ≡ None → FreeFrom frees 0 fs → fs ≡ []
none_free frees [] none chain = refl
none_free frees (x ∷ xs) none chain =
    let there : None ≡ Some (head_or 0 xs) = sym none ∙ ap frees chain.0 ∙ chain.1 in
    absurd (let bad : None ≡ Some (head_or 0 xs) = there in cc)

abbrev unreached_volume : Volume
unreached_volume = volume_of (super_of_used 28) unreached

unreached_row : IsIndexRow unreached_volume (codes "last_modified") (pos 16)
unfolding unsigned_at signed32_at signed64_at run_in runs_in unsigned_bytes signed32_bytes signed64_bytes run_bytes array_runs level_blocks bytes_at rows_of header_bytes head_bytes bytes_of level_bytes inode_block header_block leaf_block blocks rows_in
unreached_row = refl

abbrev time_rows : List Row
time_rows = first_rows ++ last_rows

abbrev bytes : List ℕ
bytes = content unreached_volume 16

abbrev st : State
st = state_of I64 bytes

-- the header's fields, the pages of the tree, and those that its values reach
tree_pages : met_below st.bodies st.levels st.root ≡ 1024 ∷ 2048 ∷ 3072 ∷ []
unfolding unsigned_at signed32_at signed64_at run_in runs_in unsigned_bytes signed32_bytes signed64_bytes run_bytes array_runs level_blocks bytes_at rows_of header_bytes head_bytes bytes_of level_bytes inode_block header_block leaf_block blocks
tree_pages = refl

no_free : (fs : List ℕ) → FreeFrom st.frees st.free fs → fs ≡ []
unfolding unsigned_at signed32_at signed64_at run_in runs_in unsigned_bytes signed32_bytes signed64_bytes run_bytes array_runs level_blocks bytes_at rows_of header_bytes head_bytes bytes_of level_bytes inode_block header_block leaf_block blocks
no_free fs chain = none_free st.frees fs refl chain

outside_tree : (t : Shape) → place t ≡ st.root → Stands st.bodies t → IsDeep st.levels t → times 5120 (met_by t) ≡ 0
outside_tree t root stands deep =
    let same : met_by t ≡ 1024 ∷ 2048 ∷ 3072 ∷ [] = sym (met_are st.bodies st.levels t stands deep) ∙ ap (met_below st.bodies st.levels) root ∙ tree_pages in
    ap (times 5120) same

outside_values : (reached : List ℕ) → AreReached bytes (rows_in I64 bytes) reached → times 5120 reached ≡ 0
unfolding unsigned_at signed32_at signed64_at run_in runs_in unsigned_bytes signed32_bytes signed64_bytes run_bytes array_runs level_blocks bytes_at rows_of header_bytes head_bytes bytes_of level_bytes inode_block header_block leaf_block blocks rows_in link_in
outside_values reached values =
    let parts : reached ≡ values.fragments ++ (4096 ∷ []) = values.parts in
    let joined : times 5120 reached ≡ times 5120 (values.fragments ++ (4096 ∷ [])) = ap (times 5120) parts in
    let two = times-append 5120 values.fragments (4096 ∷ []) in
    let none : times 5120 values.fragments ≡ 0 = not_named (times 5120 values.fragments) (λ has. (values.named 5120).0 has) in
    let chain : times 5120 (4096 ∷ []) ≡ 0 = refl in
    omega (arith, joined, two, none, chain)
  where
    not_named : (m : ℕ) → (0 < m → (f : ℕ) × (0 < times_named 5120 f time_rows)) → m ≡ 0
    not_named zero h = refl
    not_named (suc m) h = let f = h (omega arith) in absurd (let bad : 0 < 0 = f.1 in omega (arith, bad))

is_held : held 6144 5120 ≡ 1
unfolding held
is_held = refl

bytes_long : length bytes ≡ 6144
unfolding unsigned_at signed32_at signed64_at run_in runs_in unsigned_bytes signed32_bytes signed64_bytes run_bytes array_runs level_blocks bytes_at rows_of header_bytes head_bytes bytes_of level_bytes inode_block header_block leaf_block blocks
bytes_long = refl

unreached_no_tree : IsWholeTree I64 bytes → ⊥
unreached_no_tree t =
    let built = t.tree.holds.built in
    let met : times 5120 (met_by t.shape) ≡ 0 = outside_tree t.shape built.root built.stands built.deep in
    let reached : times 5120 t.reached ≡ 0 = outside_values t.reached t.values in
    let free : times 5120 t.free ≡ 0 = ap (times 5120) (no_free t.free built.chain) in
    let header : times 5120 (0 ∷ []) ≡ 0 = refl in
    let once : times 5120 (0 ∷ []) + times 5120 t.reached + times 5120 (met_by t.shape) + times 5120 t.free ≡ held 6144 5120 =
    subst (λ n. times 5120 (0 ∷ []) + times 5120 t.reached + times 5120 (met_by t.shape) + times 5120 t.free ≡ held n 5120) bytes_long (built.once 5120) in
    let one = is_held in
    omega (arith, met, reached, free, header, once, one)

unreached_not_whole : (tree : Tree) → Whole (super_of_used 28) unreached tree → ⊥
unreached_not_whole tree w = unreached_no_tree (time_tree (super_of_used 28) unreached tree w 16 unreached_row)

pub unreached_broken : IsBroken 28 unreached
unfolding unsigned_bytes signed32_bytes signed64_bytes run_bytes header_bytes head_bytes bytes_of level_bytes inode_block header_block leaf_block bitmap_block
unreached_broken = broken 28 unreached (with_long _ _ blocks refl blocks_long) reads_28 full_28 unreached_not_whole
