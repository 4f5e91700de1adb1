-- Two directories are stamped one after the other.
use Rattle.std.proofs.Common.{◌≡◌, ◌≢◌, ◌⊎◌, inl, inr, ℕ, ℤ, Option, sym, ap, ◌∙◌}
use Rattle.std.specs.FinMap.{get, insert}
use Rattle.bfs_tree.specs.Changes.{changed_at, touched, with_node}
use Rattle.bfs_tree.specs.Trees.{Node, Nodes, Tree, IsNode}
use Rattle.bfs_tree.specs.declared.call.Kind.TheVariants.{Dir}
use Rattle.bfs_shift.proofs.Following.{same_or_not}
use Rattle.bfs_shift.proofs.Made.{put_here, put_other}
use Rattle.bfs_calls.specs.Made.{with_touched}
use Rattle.bfs_rename.specs.Stamped.{both_touched}

module _ (tree : Tree) (dir to_dir : ℕ) (stamp : ℤ) (d t : Node) (there : IsNode tree dir d) (dir_kind : d.kind ≡ Dir) (to_there : IsNode tree to_dir t) (to_kind : t.kind ≡ Dir) where
  -- the second one, once the first is stamped
  pub still : (x : Node) × IsNode (with_touched tree dir d stamp) to_dir x × (x.kind ≡ Dir)
  still = by_id (same_or_not to_dir dir)
    where
      by_id : (to_dir ≡ dir) ⊎ (to_dir ≢ dir) → (x : Node) × IsNode (with_touched tree dir d stamp) to_dir x × (x.kind ≡ Dir)
      by_id (inl e) = (touched stamp d, ap (get (insert tree.nodes dir (touched stamp d))) e ∙ put_here tree.nodes dir (touched stamp d), dir_kind)
      by_id (inr other) = (t, put_other tree.nodes dir (touched stamp d) to_dir other ∙ to_there, to_kind)

  pub both_is : (x : Node) → IsNode (with_touched tree dir d stamp) to_dir x → with_touched (with_touched tree dir d stamp) to_dir x stamp ≡ both_touched tree dir to_dir stamp
  both_is x is =
      ap (λ (ns : Nodes). record tree { nodes = ns })
      (sym (ap (λ (o : Option Node). changed_at (touched stamp) o to_dir (insert tree.nodes dir (touched stamp d))) is)
      ∙ ap (λ (ns : Nodes). with_node ns to_dir (touched stamp)) (sym (ap (λ (o : Option Node). changed_at (touched stamp) o dir tree.nodes) there)))
