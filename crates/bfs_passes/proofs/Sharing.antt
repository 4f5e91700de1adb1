-- A block that is said to be taken is shared, and by whom.
use Rattle.std.proofs.Common.{◌≡◌, ◌≢◌, ◌∙◌, inl, inr, ◌⊎◌, ℕ, List, ◌++◌, Bool, true, false, Some, None, refl, sym, ap, arith}
use Rattle.bfs_base.specs.Lists.{times, Has}
use Rattle.bfs_claims.proofs.Claiming.{times_append}
use Rattle.bfs_sound.specs.Volumes.{Volume}
use Rattle.bfs_finding.specs.Ways.{Way, to_system, to_root, to_child, to_directory, to_attribute, to_indices, to_index, Arrives, blocks_by, IsShared}
use Rattle.bfs_node_check.specs.declared.role.Role.{Role}
use Rattle.bfs_node_check.specs.Roles.{is_node}
use Rattle.bfs_inode_walk.specs.Visited.{IsUntaken, IsClaimedFirst, IsTakenFirst}
use Rattle.bfs_inode_walk.specs.declared.fault.VisitFault.{VisitFault}
use Rattle.bfs_inode_walk.specs.declared.fault.VisitFault.TheVariants.{Wrong, Taken, Block}
use Rattle.bfs_nodes_walk.specs.Walks.{IsNodeWay}
use Rattle.bfs_indices_check.specs.Passes.{IsAttributeWay}
use Rattle.bfs_indices_check.specs.Indices.{IsIndexWay}
use Rattle.bfs_indices_check.specs.Laws.{system_blocks}
use Rattle.bfs_passes.specs.Passed.{IsSharedIn}
use Rattle.bfs_passes.proofs.Owning.{is_apart}

-- ---- ways of other kinds differ

abbrev is_system : Way → Bool
is_system to_system = true
is_system _ = false

node_role : (role other : Role) → Some other ≡ Some role → is_node role ≡ true → is_node other ≡ true
node_role role other e t = let same : other ≡ role = cc in ap is_node same ∙ t

node_apart : (way : Way) → IsNodeWay way → is_apart way ≡ false
node_apart to_system h = let bad : None ≡ Some h.0 = h.1 in absurd cc
node_apart to_root h = refl
node_apart (to_child d name) h = refl
node_apart (to_directory id) h = refl
node_apart (to_attribute id name) h = refl
node_apart to_indices h = let bad : false ≡ true = node_role h.0 Role.Index h.1 h.2 in absurd cc
node_apart (to_index name) h = let bad : false ≡ true = node_role h.0 Role.Index h.1 h.2 in absurd cc

attribute_apart : (way : Way) → IsAttributeWay way → is_apart way ≡ false
attribute_apart to_system h = absurd h
attribute_apart to_root h = absurd h
attribute_apart (to_child d name) h = absurd h
attribute_apart (to_directory id) h = refl
attribute_apart (to_attribute id name) h = refl
attribute_apart to_indices h = absurd h
attribute_apart (to_index name) h = absurd h

either_apart : (way : Way) → IsNodeWay way ⊎ IsAttributeWay way → is_apart way ≡ false
either_apart way (inl h) = node_apart way h
either_apart way (inr h) = attribute_apart way h

index_apart : (way : Way) → IsIndexWay way → is_apart way ≡ true
index_apart to_system h = absurd h
index_apart to_root h = absurd h
index_apart (to_child d name) h = absurd h
index_apart (to_directory id) h = absurd h
index_apart (to_attribute id name) h = absurd h
index_apart to_indices h = refl
index_apart (to_index name) h = refl

index_system : (way : Way) → IsIndexWay way → is_system way ≡ false
index_system to_system h = absurd h
index_system to_root h = absurd h
index_system (to_child d name) h = absurd h
index_system (to_directory id) h = absurd h
index_system (to_attribute id name) h = absurd h
index_system to_indices h = refl
index_system (to_index name) h = refl

not_both : (f : Way → Bool) (one other : Way) → f one ≡ true → f other ≡ false → one ≢ other
not_both f one other t e same = let bad : true ≡ false = sym t ∙ ap f same ∙ e in absurd cc

-- ---- shared blocks

module _ (v : Volume) (block owner : ℕ) where
  -- by the system and an inode
  by_system : (way : Way) → to_system ≢ way → Arrives v way owner → Has (system_blocks v) block → Has (blocks_by v way owner) block → IsShared v block 0 owner
  by_system way other arrives there here = record { one = to_system; other = way; there = refl; here = arrives; twice = inl (other, there, here) }

  -- by a node or an attribute and an index
  pub by_node : (first : ℕ) (xs : List ℕ) (way : Way) → IsNodeWay way ⊎ IsAttributeWay way → Arrives v way first → Has (blocks_by v way first) block → IsClaimedFirst IsIndexWay v xs block owner → IsShared v block first owner
  by_node first xs way kind arrives there t =
      record { one = way; other = t.way; there = arrives; here = t.arrives; twice = inl ((λ same. not_both is_apart t.way way (index_apart t.way t.kind) (either_apart way kind) (sym same)), there, t.here) }

  -- by the system and an index
  pub by_no_node : (nodes : List ℕ) → times block nodes ≡ 0 → IsClaimedFirst IsIndexWay v (system_blocks v ++ nodes) block owner → IsShared v block 0 owner
  by_no_node nodes none t =
      let parts = times_append block (system_blocks v) nodes in
      let claimed : Has (system_blocks v ++ nodes) block = t.claimed in
      by_system t.way (not_both is_system to_system t.way refl (index_system t.way t.kind)) t.arrives (omega (arith, parts, claimed, none)) t.here

pub node_shared : (v : Volume) (fault : VisitFault) → IsTakenFirst IsNodeWay v (system_blocks v) fault → IsSharedIn v fault
node_shared v (Wrong finding) t = tt
node_shared v (Taken block owner) t = by_system v block owner t.way (not_both is_apart to_system t.way refl (node_apart t.way t.kind)) t.arrives t.claimed t.here
node_shared v (Block fault) t = tt

pub attribute_shared : (v : Volume) (fault : VisitFault) → IsTakenFirst IsAttributeWay v (system_blocks v) fault → IsSharedIn v fault
attribute_shared v (Wrong finding) t = tt
attribute_shared v (Taken block owner) t = by_system v block owner t.way (not_both is_apart to_system t.way refl (attribute_apart t.way t.kind)) t.arrives t.claimed t.here
attribute_shared v (Block fault) t = tt

-- where no block is said to be taken, nothing is said of claims
pub untaken_shared : (v : Volume) (fault : VisitFault) → IsUntaken fault → IsSharedIn v fault
untaken_shared v (Wrong finding) u = tt
untaken_shared v (Taken block owner) u = absurd u
untaken_shared v (Block fault) u = tt
