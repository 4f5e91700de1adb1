-- An inode in its place and by the way that leads to it.
use Rattle.std.proofs.Common.{◌≡◌, ℕ, Some, None, false, refl, sym, subst}
use Rattle.bfs_sound.specs.Volumes.{Volume}
use Rattle.bfs_finding.specs.Ways.{Way, to_system, to_root, to_child, to_directory, to_attribute, to_indices, to_index, Arrives, IsReached, root_reached, row_reached, IsStreamed, by_node, by_directory, by_attribute, by_indices, by_index, blocks_by}
use Rattle.bfs_node_check.specs.declared.role.Role.{Role}
use Rattle.bfs_node_check.specs.declared.role.Role.TheVariants as roles
use Rattle.bfs_node_check.specs.Roles.{role_of}
use Rattle.bfs_inode_walk.specs.Visited.{is_alone, role_blocks, BlocksAreByRole}

no_role : (r : Role) → None ≡ Some r → ⊥
no_role r e = cc

same_role : (r q : Role) → Some r ≡ Some q → r ≡ q
same_role r q e = cc

pub by_role : BlocksAreByRole
by_role v to_system role b e = absurd (no_role role e)
by_role v to_root role b e = subst (λ (r : Role). blocks_by v to_root b ≡ role_blocks v r b) (same_role roles.Root role e) refl
by_role v (to_child d name) role b e = subst (λ (r : Role). blocks_by v (to_child d name) b ≡ role_blocks v r b) (same_role roles.Child role e) refl
by_role v (to_directory id) role b e = subst (λ (r : Role). blocks_by v (to_directory id) b ≡ role_blocks v r b) (same_role roles.AttributeDirectory role e) refl
by_role v (to_attribute id name) role b e = subst (λ (r : Role). blocks_by v (to_attribute id name) b ≡ role_blocks v r b) (same_role roles.Attribute role e) refl
by_role v to_indices role b e = subst (λ (r : Role). blocks_by v to_indices b ≡ role_blocks v r b) (same_role roles.Index role e) refl
by_role v (to_index name) role b e = subst (λ (r : Role). blocks_by v (to_index name) b ≡ role_blocks v r b) (same_role roles.Index role e) refl

-- an inode that isn't alone has a stream
pub streamed : (v : Volume) (way : Way) (role : Role) (b : ℕ) → role_of way ≡ Some role → Arrives v way b → is_alone v role b ≡ false → IsStreamed v b
streamed v to_system role b e arrives other = absurd (no_role role e)
streamed v to_root role b e arrives other =
    by_node b (subst (IsReached v) (sym arrives) root_reached) (subst (λ (r : Role). is_alone v r b ≡ false) (sym (same_role roles.Root role e)) other)
streamed v (to_child d name) role b e arrives other =
    by_node b (row_reached d name b arrives.0 arrives.1 arrives.2) (subst (λ (r : Role). is_alone v r b ≡ false) (sym (same_role roles.Child role e)) other)
streamed v (to_directory id) role b e arrives other = by_directory id b arrives
streamed v (to_attribute id name) role b e arrives other = by_attribute id name b arrives
streamed v to_indices role b e arrives other = by_indices b arrives
streamed v (to_index name) role b e arrives other = by_index name b arrives
