-- What a call that removes a node is allowed, and that it is at most Need.
use Rattle.std.proofs.Common.{◌≡◌, ◌≤◌, ◌+◌, ◌*◌, ℕ, List, [], ◌∷◌, length, min, sym, ap, ◌∙◌, subst, arith, Bool, true, false, cond, Option, Some}
use Rattle.std.specs.Prelude.{is_some}
use Rattle.std.specs.List.{flat_map}
use Rattle.std.specs.FinMap.{entries}
use Rattle.std.proofs.lemmas.List.{length-append}
use Rattle.bfs_base.specs.declared.kind.KeyKind.{KeyKind}
use Rattle.bfs_base.specs.declared.kind.KeyKind.TheVariants.{Text}
use Rattle.bfs_super.specs.declared.geometry.Geometry.{Geometry}
use Rattle.bfs_super.specs.Geometry.{bitmap_length}
use Rattle.bfs_bitmap.specs.Runs.{Room}
use Rattle.bfs_node.specs.Page.{Row}
use Rattle.bfs_pages.specs.Maps.{assoc}
use Rattle.bfs_tree.specs.Answers.{rows_of_indices}
use Rattle.bfs_tree.specs.Listings.{key_at}
use Rattle.bfs_tree.specs.Refusals.{is_built_in}
use Rattle.bfs_tree.specs.Trees.{Node, Tree}
use Rattle.bfs_tree.specs.declared.call.Call.TheVariants.{Remove}
use Rattle.bfs_smalldata.proofs.Reading.{unsigned_taken}
use Rattle.bfs_tree.specs.declared.call.Kind.{Kind}
use Rattle.bfs_tree.specs.declared.call.Kind.TheVariants.{Dir}
use Rattle.bfs_sound.specs.Inodes.{content}
use Rattle.bfs_sound.specs.Nodes.{HasContent}
use Rattle.bfs_sound.specs.Need.{logged_need, logged_cost, levels_of, attribute_index_row, index_row, built_in_rows, rows_of_node, removing, streams_length}
use Rattle.bfs_sound.specs.Owners.{node_owners}
use Rattle.bfs_sound.specs.Volumes.{Volume}
use Rattle.bfs_shift.specs.Lists.{Lists}
use Rattle.bfs_shift.specs.Shifts.{volume_in}
use Rattle.bfs_look.specs.Ready.{IsReady}
use Rattle.bfs_calls.specs.Allowances.{allowance, allowed_cost, left_alone, owners_left}
use Rattle.bfs_calls.specs.Made.{AreBuiltIn}
use Rattle.bfs_calls.specs.declared.indices.BuiltIn.{BuiltIn}
use Rattle.bfs_calls.proofs.Allowed.{ones, AllLeast, least_joined, rows_least, least_index, least_built, built_count}
use Rattle.bfs_remove_node.specs.Counted.{listed_among}
use Rattle.bfs_remove_node.specs.Removed.{MayBeRemoved, IsChildAt}
use Rattle.bfs_unmake.proofs.Streams.{alone_few}
use Rattle.bfs_remove_node.proofs.Indexed.{index_there, rows_count}

none_before : (n : ℕ) → 0 + 0 + n ≡ n
none_before n = omega arith

-- the tree of a directory has a level
some_levels : (v : Volume) (id : ℕ) (n : Node) (kind : Kind) → kind ≡ Dir → HasContent v id n kind → 1 ≤ levels_of v id
some_levels v id n kind is content_is =
    let c : HasContent v id n Dir = subst (HasContent v id n) is content_is in
    subst (λ (k : ℕ). 1 ≤ k) (unsigned_taken 4 1024 (content v id) 8 (omega arith)) c.1.tree.header.levels

min_up : (a b most : ℕ) → a ≤ b → min (0 + 0 + a) most ≤ min (0 + 0 + b) most
min_up a b most le = grind (arith, le)

module _ (g : Geometry) (r : Room) (m : ℕ → Option (List ℕ)) (tree : Tree) (lists : Lists) (ready : IsReady g r m tree lists) where
  abbrev v : Volume
  v = volume_in g m

  least_one : (id : ℕ) (e : List ℕ × KeyKind) → AllLeast (cond (is_some (key_at tree e.0 e.1 id)) (attribute_index_row v e.0) [])
  least_one id e = by_tests (is_some (key_at tree e.0 e.1 id)) (is_built_in e.0)
    where
      by_tests : (listed built : Bool) → AllLeast (cond listed (cond built [] (index_row v e.0)) [])
      by_tests false built = tt
      by_tests true true = tt
      by_tests true false = least_index g r m tree lists ready e.0

  pub least_all : (id : ℕ) (es : List (List ℕ × KeyKind)) → AllLeast (flat_map (λ (e : List ℕ × KeyKind). cond (is_some (key_at tree e.0 e.1 id)) (attribute_index_row v e.0) []) es)
  least_all id [] = tt
  least_all id (e ∷ es) =
      least_joined (cond (is_some (key_at tree e.0 e.1 id)) (attribute_index_row v e.0) []) (flat_map (λ (x : List ℕ × KeyKind). cond (is_some (key_at tree x.0 x.1 id)) (attribute_index_row v x.0) []) es) (least_one id e) (least_all id es)

  module _ (b : BuiltIn) (built : AreBuiltIn lists b) where
    -- how many rows indices have of a node
    pub rows_are : (id : ℕ) → length (rows_of_node v tree id) ≡ ones b.name + ones b.size + ones b.last_modified + listed_among tree id (rows_of_indices (entries tree.indices))
    rows_are id =
        length-append (built_in_rows v) (flat_map (λ (e : List ℕ × KeyKind). cond (is_some (key_at tree e.0 e.1 id)) (attribute_index_row v e.0) []) (entries tree.indices))
        ∙ ap (λ (n : ℕ). n + length (flat_map (λ (e : List ℕ × KeyKind). cond (is_some (key_at tree e.0 e.1 id)) (attribute_index_row v e.0) []) (entries tree.indices))) (built_count g r m tree lists ready b built)
        ∙ ap (λ (n : ℕ). ones b.name + ones b.size + ones b.last_modified + n) (rows_count v tree id (entries tree.indices) (λ e i.
        let there = index_there tree lists ready.agrees e i in
        (there.0, ap (λ (rows : List Row). assoc Text rows e.0) ready.work.stocked.names ∙ there.1)))

  module _ (dir : ℕ) (name : List ℕ) (may : MayBeRemoved tree dir name) (id : ℕ) (at : IsChildAt tree dir name id) where
    abbrev node : Node
    node = at.0

    -- what is allowed, and what is needed, by the child
    allowed_of : Option (ℕ × Node) → ℕ
    allowed_of o = allowed_cost v (record (removing v tree dir o) { left = left_alone v (owners_left v o) })

    allowed_is : allowance v tree (Remove dir name) ≡ allowed_of (Some (id, node))
    unfolding allowed_of
    allowed_is = ap allowed_of at.1

    needed_is : logged_need v tree (Remove dir name) ≡ logged_cost v (removing v tree dir (Some (id, node)))
    needed_is = ap (λ (o : Option (ℕ × Node)). logged_cost v (removing v tree dir o)) at.1

    pub within : allowance v tree (Remove dir name) ≤ logged_need v tree (Remove dir name)
    unfolding allowed_of
    within =
        let own : 1 ≤ levels_of v dir = some_levels v dir may.d may.d.kind may.dir_kind (ready.work.stocked.nodes dir may.d may.there).content_is in
        let least = least_joined (built_in_rows v) (flat_map (λ (e : List ℕ × KeyKind). cond (is_some (key_at tree e.0 e.1 id)) (attribute_index_row v e.0) []) (entries tree.indices)) (least_built g r m tree lists ready) (least_all id (entries tree.indices)) in
        let rows = rows_least (levels_of v dir ∷ rows_of_node v tree id) (own, least) in
        let few = min_up (left_alone v (node_owners v (id, node))) (streams_length v (node_owners v (id, node))) (bitmap_length g.blocks g.block_size) (alone_few v (node_owners v (id, node))) in
        let here : allowed_of (Some (id, node)) ≤ logged_cost v (removing v tree dir (Some (id, node))) = omega (arith, rows, few) in
        subst (λ (k : ℕ). k ≤ logged_need v tree (Remove dir name)) (sym allowed_is) (subst (λ (k : ℕ). allowed_of (Some (id, node)) ≤ k) (sym needed_is) here)

    module _ (b : BuiltIn) (built : AreBuiltIn lists b) where
      pub allowed : (three listed left most : ℕ) → three ≡ ones b.name + ones b.size + ones b.last_modified → listed ≡ listed_among tree id (rows_of_indices (entries tree.indices))
          → most ≡ bitmap_length g.blocks g.block_size → left ≡ min (left_alone v (node_owners v (id, node))) most → 28 * (1 + three + listed) + left + 8 ≡ allowance v tree (Remove dir name)
      unfolding allowed_of
      allowed three listed left most first second all least =
          let rows : length (rows_of_node v tree id) ≡ ones b.name + ones b.size + ones b.last_modified + listed_among tree id (rows_of_indices (entries tree.indices)) = rows_are b built id in
          let few : min (0 + 0 + left_alone v (node_owners v (id, node))) (bitmap_length g.blocks g.block_size) ≡ left =
          ap (λ (k : ℕ). min k (bitmap_length g.blocks g.block_size)) (none_before (left_alone v (node_owners v (id, node)))) ∙ ap (min (left_alone v (node_owners v (id, node)))) (sym all) ∙ sym least in
          let here : 28 * (1 + three + listed) + left + 8 ≡ allowed_of (Some (id, node)) = omega (arith, rows, few, first, second) in
          here ∙ sym allowed_is
