-- What a call that renames a node is allowed, and that it is at most Need.
use Rattle.std.proofs.Common.{◌≡◌, ◌≤◌, ◌+◌, ◌*◌, ℕ, zero, suc, List, [], ◌∷◌, ◌++◌, length, min, codes, replicate, refl, sym, ap, ◌∙◌, subst, arith, Bool, true, false, cond, Option, Some, None}
use Rattle.std.specs.Prelude.{◌==◌, is_some, sum_by}
use Rattle.std.specs.List.{flat_map}
use Rattle.std.specs.Option.{option_map_or}
use Rattle.std.specs.FinMap.{entries}
use Rattle.std.proofs.lemmas.List.{length-append, length-replicate}
use Rattle.bfs_base.specs.declared.kind.KeyKind.{KeyKind}
use Rattle.bfs_base.specs.declared.kind.KeyKind.TheVariants.{Text}
use Rattle.bfs_super.specs.Geometry.{bitmap_length}
use Rattle.bfs_super.specs.declared.geometry.Geometry.{Geometry}
use Rattle.bfs_bitmap.specs.Runs.{Room}
use Rattle.bfs_smalldata.specs.Items.{Item}
use Rattle.bfs_tree.specs.Listings.{key_at}
use Rattle.bfs_tree.specs.Refusals.{replaced}
use Rattle.bfs_tree.specs.Trees.{Node, Tree, IsNode, child, is_dir}
use Rattle.bfs_tree.specs.declared.call.Call.TheVariants.{Rename}
use Rattle.bfs_tree.specs.declared.call.Kind.TheVariants.{Dir}
use Rattle.bfs_tree.proofs.Members.{child-there}
use Rattle.bfs_sound.specs.Attributes.{HasDirectory, attribute_directory}
use Rattle.bfs_sound.specs.Need.{Cost, both, no_cost, logged_cost, logged_need, levels_of, attribute_row, attribute_index_row, row_of, index_row, built_in_rows, dots_row, filled, moves, moving_cost, removing, renaming, replacing}
use Rattle.bfs_sound.specs.Nodes.{HasContent, HasNode}
use Rattle.bfs_sound.specs.Owners.{node_owners}
use Rattle.bfs_sound.specs.Volumes.{Volume}
use Rattle.bfs_shift.specs.Lists.{Lists}
use Rattle.bfs_shift.specs.Shifts.{volume_in}
use Rattle.bfs_look.specs.Ready.{IsReady}
use Rattle.bfs_look.proofs.Known.{dir_is}
use Rattle.bfs_calls.specs.Allowances.{allowance, allowed_cost, left_alone, owners_left}
use Rattle.bfs_calls.specs.Made.{AreBuiltIn}
use Rattle.bfs_calls.specs.declared.indices.BuiltIn.{BuiltIn}
use Rattle.bfs_calls.proofs.Allowed.{ones, AllLeast, count_at, least_built, least_index, least_joined, min_less, rows_least, some_levels}
use Rattle.bfs_remove_node.proofs.UnmakeStreams.{alone_few}
use Rattle.bfs_remove_node.proofs.Allowing.{least_all, rows_are}
use Rattle.bfs_rename.specs.Counted.{rows_left}
use Rattle.bfs_rename.specs.Renamed.{MayBeRenamed}

-- no more than the most are counted twice over
min_again : (a l most : ℕ) → min (a + min l most) most ≡ min (a + l) most
min_again a l most = grind arith

two_ones : (o : Option ℕ) → ones o + ones o ≡ cond (is_some o) 2 0
two_ones None = refl
two_ones (Some n) = refl

-- the node that is replaced is removed
replacing_is : (v : Volume) (tree : Tree) (to_dir id : ℕ) (o : Option (ℕ × Node)) → replacing v tree to_dir id o ≡ removing v tree to_dir (replaced id o)
replacing_is v tree to_dir id None = refl
replacing_is v tree to_dir id (Some there) = by_test (there.0 == id)
  where
    by_test : (b : Bool) → cond b no_cost (removing v tree to_dir (Some there)) ≡ removing v tree to_dir (cond b None (Some there))
    by_test true = refl
    by_test false = refl

-- of a node that is removed, all but rows and what is left cost nothing
pub record CostsRows (c : Cost) : Type 0 where
  pub filling : c.filling ≡ 0
  pub bytes : c.bytes ≡ 0
  pub file : c.file ≡ 0
  pub arrays : c.arrays ≡ 0

removing_rows : (v : Volume) (tree : Tree) (to_dir : ℕ) (o : Option (ℕ × Node)) → CostsRows (removing v tree to_dir o)
removing_rows v tree to_dir None = record { filling = refl; bytes = refl; file = refl; arrays = refl }
removing_rows v tree to_dir (Some e) = record { filling = refl; bytes = refl; file = refl; arrays = refl }

left_less : (v : Volume) (tree : Tree) (to_dir : ℕ) (o : Option (ℕ × Node)) → left_alone v (owners_left v o) ≤ (removing v tree to_dir o).left
left_less v tree to_dir None = omega arith
left_less v tree to_dir (Some e) = alone_few v (node_owners v e)

dots_length : (v : Volume) (e : ℕ × Node) → length (dots_row v e) ≡ cond (is_dir e.1.kind) 1 0
dots_length v e = by_test (is_dir e.1.kind)
  where
    by_test : (b : Bool) → length (cond b (levels_of v e.0 ∷ []) []) ≡ cond b 1 0
    by_test true = refl
    by_test false = refl

-- ---- each tree has a level

least_copies : (n levels : ℕ) → 1 ≤ levels → AllLeast (replicate n levels)
least_copies zero levels some = tt
least_copies (suc n) levels some = (some, least_copies n levels some)

directory_least : (v : Volume) (id : ℕ) (n : Node) → n.kind ≡ Dir → HasNode v id n → 1 ≤ levels_of v id
directory_least v id n is h = let c : HasContent v id n Dir = subst (HasContent v id n) is h.content_is in some_levels v Text id c.1

dots_least : (v : Volume) (id : ℕ) (n : Node) → HasNode v id n → AllLeast (dots_row v (id, n))
dots_least v id n h = by_test (is_dir n.kind) refl
  where
    by_test : (b : Bool) → is_dir n.kind ≡ b → AllLeast (cond b (levels_of v id ∷ []) [])
    by_test true e = (directory_least v id n (dir_is n.kind e) h, tt)
    by_test false e = tt

attribute_least : (v : Volume) (id : ℕ) (n : Node) → HasNode v id n → 1 ≤ attribute_row v id
attribute_least v id n h = by_directory (attribute_directory v id) h.directory
  where
    by_directory : (o : Option ℕ) → HasDirectory v id o → 1 ≤ row_of v o
    by_directory None d = omega arith
    by_directory (Some k) d = some_levels v Text k d.tree

module _ (g : Geometry) (r : Room) (m : ℕ → Option (List ℕ)) (tree : Tree) (lists : Lists) (ready : IsReady g r m tree lists) (dir : ℕ) (name : List ℕ) (to_dir : ℕ) (to_name : List ℕ) (may : MayBeRenamed tree dir name to_dir to_name) where
  abbrev v : Volume
  v = volume_in g m

  abbrev e : ℕ × Node
  e = (may.id, may.node)

  abbrev other : Option (ℕ × Node)
  other = replaced may.id (child tree to_dir to_name)

  abbrev items : List Item
  items = moves v may.id to_name

  abbrev moved : Cost
  moved = moving_cost v dir to_dir e items

  abbrev gone : Cost
  gone = removing v tree to_dir other

  -- what is allowed, and what is needed, by the child
  allowed_of : Option (ℕ × Node) → ℕ
  allowed_of o = allowed_cost v (record (renaming v tree dir to_dir to_name o) { left = left_alone v (option_map_or (λ (x : ℕ × Node). owners_left v (replaced x.0 (child tree to_dir to_name))) o []) })

  abbrev allowed_whole : Cost → ℕ
  allowed_whole c = allowed_cost v (record (both moved c) { left = left_alone v (owners_left v other) })

  allowed_is : allowance v tree (Rename dir name to_dir to_name) ≡ allowed_whole gone
  unfolding allowed_of
  allowed_is = ap allowed_of may.child_is ∙ ap allowed_whole (replacing_is v tree to_dir may.id (child tree to_dir to_name))

  needed_is : logged_need v tree (Rename dir name to_dir to_name) ≡ logged_cost v (both moved gone)
  needed_is =
      ap (λ (o : Option (ℕ × Node)). logged_cost v (renaming v tree dir to_dir to_name o)) may.child_is
      ∙ ap (λ (c : Cost). logged_cost v (both moved c)) (replacing_is v tree to_dir may.id (child tree to_dir to_name))

  node_has : (id : ℕ) (n : Node) → IsNode tree id n → HasNode v id n
  node_has id n is = ready.work.stocked.nodes id n is

  own : HasNode v may.id may.node
  own = node_has may.id may.node (child-there tree dir name e may.child_is).0

  moved_least : AllLeast moved.rows
  moved_least =
      let names = least_index g r m tree lists ready (codes "name") in
      let levels : AllLeast (levels_of v dir ∷ levels_of v to_dir ∷ index_row v (codes "name")) = (directory_least v dir may.d may.dir_kind (node_has dir may.d may.there), (directory_least v to_dir may.t may.to_kind (node_has to_dir may.t may.to_there), names)) in
      least_joined (levels_of v dir ∷ levels_of v to_dir ∷ index_row v (codes "name") ++ index_row v (codes "name")) (dots_row v e ++ replicate (length items) (attribute_row v may.id))
      (least_joined (levels_of v dir ∷ levels_of v to_dir ∷ index_row v (codes "name")) (index_row v (codes "name")) levels names)
      (least_joined (dots_row v e) (replicate (length items) (attribute_row v may.id)) (dots_least v may.id may.node own) (least_copies (length items) (attribute_row v may.id) (attribute_least v may.id may.node own)))

  gone_least : (o : Option (ℕ × Node)) → AllLeast (removing v tree to_dir o).rows
  gone_least None = tt
  gone_least (Some x) = (
    directory_least v to_dir may.t may.to_kind (node_has to_dir may.t may.to_there),
    least_joined (built_in_rows v) (flat_map (λ (i : List ℕ × KeyKind). cond (is_some (key_at tree i.0 i.1 x.0)) (attribute_index_row v i.0) []) (entries tree.indices)) (least_built g r m tree lists ready) (least_all g r m tree lists ready x.0 (entries tree.indices)),
  )

  pub within : allowance v tree (Rename dir name to_dir to_name) ≤ logged_need v tree (Rename dir name to_dir to_name)
  within =
      let rows = rows_least (moved.rows ++ gone.rows) (least_joined moved.rows gone.rows moved_least (gone_least other)) in
      let less : left_alone v (owners_left v other) ≤ gone.left = left_less v tree to_dir other in
      let few = min_less (moved.bytes + gone.bytes + (moved.file + gone.file) + left_alone v (owners_left v other)) (moved.bytes + gone.bytes + (moved.file + gone.file) + (moved.left + gone.left)) (bitmap_length g.blocks g.block_size) (omega (arith, less)) in
      let here : allowed_whole gone ≤ logged_cost v (both moved gone) = omega (arith, rows, few) in
      subst (λ (k : ℕ). k ≤ logged_need v tree (Rename dir name to_dir to_name)) (sym allowed_is) (subst (λ (k : ℕ). allowed_whole gone ≤ k) (sym needed_is) here)

  module _ (b : BuiltIn) (built : AreBuiltIn lists b) where
    moved_rows : length moved.rows ≡ 2 + cond (is_some b.name) 2 0 + cond (is_dir may.node.kind) 1 0 + length items
    moved_rows =
        let all = length-append (levels_of v dir ∷ levels_of v to_dir ∷ index_row v (codes "name") ++ index_row v (codes "name")) (dots_row v e ++ replicate (length items) (attribute_row v may.id)) in
        let names = length-append (levels_of v dir ∷ levels_of v to_dir ∷ index_row v (codes "name")) (index_row v (codes "name")) in
        let own = length-append (dots_row v e) (replicate (length items) (attribute_row v may.id)) in
        let copies : length (replicate (length items) (attribute_row v may.id)) ≡ length items = length-replicate (length items) (attribute_row v may.id) in
        let dots = dots_length v e in
        let one = count_at g r m tree lists ready b built (codes "name") b.name built.name in
        let two = two_ones b.name in
        omega (arith, all, names, own, copies, dots, one, two)

    gone_rows : (three : ℕ) → three ≡ ones b.name + ones b.size + ones b.last_modified → (o : Option (ℕ × Node)) → length (removing v tree to_dir o).rows ≡ rows_left tree three o
    gone_rows three all None = refl
    gone_rows three all (Some x) = let rows = rows_are g r m tree lists ready b built x.0 in omega (arith, rows, all)

    pub allowed : (three count blocks rows left most : ℕ) → three ≡ ones b.name + ones b.size + ones b.last_modified → count ≡ length items → blocks ≡ sum_by (λ (item : Item). filled v (length item.bytes)) items
        → rows ≡ rows_left tree three other → left ≡ min (left_alone v (owners_left v other)) most → most ≡ bitmap_length g.blocks g.block_size
        → 28 * (2 + cond (is_some b.name) 2 0 + cond (is_dir may.node.kind) 1 0 + count + rows) + blocks + min (blocks + left) most + 8 ≡ allowance v tree (Rename dir name to_dir to_name)
    allowed three count blocks rows left most all many fills some least is =
        let first = moved_rows in
        let second : length gone.rows ≡ rows_left tree three other = gone_rows three all other in
        let both_rows : length (moved.rows ++ gone.rows) ≡ length moved.rows + length gone.rows = length-append moved.rows gone.rows in
        let alone = left_alone v (owners_left v other) in
        let none = removing_rows v tree to_dir other in
        let no_filling = none.filling in
        let no_bytes = none.bytes in
        let no_file = none.file in
        let no_arrays = none.arrays in
        let sum : moved.bytes + gone.bytes + (moved.file + gone.file) + alone ≡ blocks + alone = omega (arith, no_bytes, no_file, fills) in
        let few : min (moved.bytes + gone.bytes + (moved.file + gone.file) + alone) (bitmap_length g.blocks g.block_size) ≡ min (blocks + left) most =
        ap (λ (k : ℕ). min k (bitmap_length g.blocks g.block_size)) sum ∙ ap (min (blocks + alone)) (sym is) ∙ sym (min_again blocks alone most) ∙ ap (λ (k : ℕ). min (blocks + k) most) (sym least) in
        let here : 28 * (2 + cond (is_some b.name) 2 0 + cond (is_dir may.node.kind) 1 0 + count + rows) + blocks + min (blocks + left) most + 8 ≡ allowed_whole gone =
        omega (arith, first, second, both_rows, few, many, fills, some, no_filling, no_bytes, no_arrays) in
        here ∙ sym allowed_is
