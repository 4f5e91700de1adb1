-- What a call that makes a node is allowed, and that it is at most Need.
use Rattle.std.proofs.Common.{◌≡◌, ◌≤◌, ◌+◌, ◌*◌, ℕ, ℤ, List, [], ◌∷◌, ◌++◌, length, codes, Option, Some, None, false, cond, min, refl, sym, ap, ◌∙◌, subst, arith}
use Rattle.std.specs.Prelude.{sum_by, is_some}
use Rattle.std.proofs.lemmas.List.{length-append}
use Rattle.std.proofs.lemmas.List.Sums.{sum_by-cons}
use Rattle.bfs_base.specs.declared.kind.KeyKind.{KeyKind}
use Rattle.bfs_base.specs.declared.kind.KeyKind.TheVariants.{Text}
use Rattle.bfs_super.specs.declared.geometry.Geometry.{Geometry}
use Rattle.bfs_super.specs.Conditions.{natural}
use Rattle.bfs_super.specs.Geometry.{bitmap_length}
use Rattle.bfs_smalldata.proofs.Reading.{unsigned_taken}
use Rattle.bfs_bitmap.specs.Runs.{Room}
use Rattle.bfs_node.specs.Page.{Row}
use Rattle.bfs_pages.specs.Maps.{assoc}
use Rattle.bfs_pages.specs.Trees.{header_in}
use Rattle.bfs_values.specs.Reached.{IsWholeTree}
use Rattle.bfs_tree.specs.declared.call.Call.TheVariants.{Make}
use Rattle.bfs_tree.specs.declared.call.Kind.{Kind}
use Rattle.bfs_tree.specs.declared.call.Kind.TheVariants.{Dir}
use Rattle.bfs_tree.specs.declared.call.MakeKind.{MakeKind}
use Rattle.bfs_tree.specs.Names.{target_of}
use Rattle.bfs_tree.specs.Trees.{Node, Tree, IsNode}
use Rattle.bfs_maps.specs.NumberTrees.{IsNumberAt}
use Rattle.bfs_sound.specs.Volumes.{Volume}
use Rattle.bfs_sound.specs.Inodes.{content, stream_blocks}
use Rattle.bfs_sound.specs.Need.{row_need, logged_need, levels_of, row_at, index_row, built_in_rows, target_length}
use Rattle.bfs_sound.specs.Nodes.{HasContent}
use Rattle.bfs_sound.specs.Owners.{Owner, with_streams}
use Rattle.bfs_shift.specs.Lists.{Lists}
use Rattle.bfs_shift.specs.Shifts.{volume_in}
use Rattle.bfs_look.specs.Ready.{IsReady}
use Rattle.bfs_calls.specs.Allowances.{left_alone, allowance}
use Rattle.bfs_calls.specs.Made.{AreBuiltIn}
use Rattle.bfs_calls.specs.declared.indices.BuiltIn.{BuiltIn}

pub min_less : (a b c : ℕ) → a ≤ b → min a c ≤ min b c
min_less a b c less = grind (arith, less)

-- one where there is one
abbrev pub ones : Option ℕ → ℕ
ones o = cond (is_some o) 1 0

module _ (v : Volume) where
  -- the blocks of one stream
  pub one_stream : (inode : ℕ) → left_alone v (with_streams (inode ∷ [])) ≡ length (stream_blocks v inode)
  one_stream inode =
      let f : Owner → ℕ = λ (o : Owner). cond o.1 0 (length (stream_blocks v o.0)) in
      let e : sum_by f ((inode, false) ∷ []) ≡ length (stream_blocks v inode) + sum_by f [] = sum_by-cons f (inode, false) [] in
      omega (arith, e)

  one_row : (rows : List Row) (name : List ℕ) (o : Option ℕ) → IsNumberAt Text rows name o → length (row_at v (assoc Text rows name)) ≡ ones o
  one_row rows name None at = ap (λ (x : Option ℤ). length (row_at v x)) at
  one_row rows name (Some n) at = ap (λ (x : Option ℤ). length (row_at v x)) at

  -- the levels that a tree's header tells are those of its first page
  levels_are : (id : ℕ) → levels_of v id ≡ (header_in (content v id)).levels
  levels_are id = sym (unsigned_taken 4 1024 (content v id) 8 (omega arith))

  pub some_levels : (kind : KeyKind) (id : ℕ) → IsWholeTree kind (content v id) → 1 ≤ levels_of v id
  some_levels kind id tree = subst (λ (n : ℕ). 1 ≤ n) (sym (levels_are id)) tree.tree.header.levels

  directory_levels : (id : ℕ) (n : Node) (kind : Kind) → kind ≡ Dir → HasContent v id n kind → 1 ≤ levels_of v id
  directory_levels id n kind is content_is = let c : HasContent v id n Dir = subst (HasContent v id n) is content_is in some_levels Text id c.1

-- each of these trees has a level
abbrev pub AllLeast : List ℕ → Type 0
AllLeast [] = Unit {0}
AllLeast (l ∷ ls) = (1 ≤ l) × AllLeast ls

pub least_joined : (xs ys : List ℕ) → AllLeast xs → AllLeast ys → AllLeast (xs ++ ys)
least_joined [] ys one two = two
least_joined (x ∷ xs) ys one two = (one.0, least_joined xs ys one.1 two)

-- each row counts at least as if its tree had one level
pub rows_least : (rows : List ℕ) → AllLeast rows → 28 * length rows ≤ sum_by row_need rows
rows_least [] each = omega arith
rows_least (l ∷ rows) each =
    let rest : 28 * length rows ≤ sum_by row_need rows = rows_least rows each.1 in
    let one = each.0 in
    let next : sum_by row_need (l ∷ rows) ≡ row_need l + sum_by row_need rows = sum_by-cons row_need l rows in
    omega (arith, rest, one, next)

module _ (g : Geometry) (r : Room) (m : ℕ → Option (List ℕ)) (tree : Tree) (lists : Lists) (ready : IsReady g r m tree lists) where
  abbrev v : Volume
  v = volume_in g m

  pub least_at : (o : Option ℤ) (name : List ℕ) → assoc Text lists.names name ≡ o → AllLeast (row_at v o)
  least_at None name is = tt
  least_at (Some value) name is = (some_levels v (lists.kinds name) (natural value) (ready.work.stocked.indices name value is).index.tree, tt)

  pub least_index : (name : List ℕ) → AllLeast (index_row v name)
  least_index name = subst (λ (rows : List Row). AllLeast (row_at v (assoc Text rows name))) (sym ready.work.stocked.names) (least_at (assoc Text lists.names name) name refl)

  pub least_built : AllLeast (built_in_rows v)
  least_built = least_joined (index_row v (codes "name") ++ index_row v (codes "size")) (index_row v (codes "last_modified"))
      (least_joined (index_row v (codes "name")) (index_row v (codes "size")) (least_index (codes "name")) (least_index (codes "size"))) (least_index (codes "last_modified"))

  -- what is allowed is at most Need
  pub within : (dir : ℕ) (d : Node) (name : List ℕ) (kind : MakeKind) (mode : ℕ) → IsNode tree dir d → d.kind ≡ Dir → allowance v tree (Make dir name kind mode) ≤ logged_need v tree (Make dir name kind mode)
  within dir d name kind mode there is =
      let own : 1 ≤ levels_of v dir = directory_levels v dir d d.kind is (ready.work.stocked.nodes dir d there).content_is in
      let rows = rows_least (levels_of v dir ∷ built_in_rows v) (own, least_built) in
      omega (arith, rows)

  module _ (b : BuiltIn) (built : AreBuiltIn lists b) where
    pub count_at : (name : List ℕ) (o : Option ℕ) → IsNumberAt Text lists.names name o → length (index_row v name) ≡ ones o
    count_at name o at = ap (λ (rows : List Row). length (row_at v (assoc Text rows name))) ready.work.stocked.names ∙ one_row v lists.names name o at

    pub built_count : length (built_in_rows v) ≡ ones b.name + ones b.size + ones b.last_modified
    built_count =
        let all = length-append (index_row v (codes "name") ++ index_row v (codes "size")) (index_row v (codes "last_modified")) in
        let two = length-append (index_row v (codes "name")) (index_row v (codes "size")) in
        let n = count_at (codes "name") b.name built.name in
        let s = count_at (codes "size") b.size built.size in
        let l = count_at (codes "last_modified") b.last_modified built.last_modified in
        omega (arith, all, two, n, s, l)

    -- how many blocks that is
    pub allowed : (dir : ℕ) (name : List ℕ) (kind : MakeKind) (mode one two three blocks most low : ℕ) → one ≡ ones b.name → two ≡ ones b.size → three ≡ ones b.last_modified → blocks ≡ target_length v (target_of kind)
        → most ≡ bitmap_length g.blocks g.block_size → low ≡ min blocks most → 28 * (1 + one + two + three) + blocks + low + 8 ≡ allowance v tree (Make dir name kind mode)
    allowed dir name kind mode one two three blocks most low first second third is all least =
        let rows : length (built_in_rows v) ≡ ones b.name + ones b.size + ones b.last_modified = built_count in
        let same : target_length v (target_of kind) + 0 + 0 ≡ blocks = omega (arith, is) in
        let few : min (target_length v (target_of kind) + 0 + 0) (bitmap_length g.blocks g.block_size) ≡ low = ap (λ (n : ℕ). min n (bitmap_length g.blocks g.block_size)) same ∙ ap (min blocks) (sym all) ∙ sym least in
        omega (arith, rows, few, is, first, second, third)
