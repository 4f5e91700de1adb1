-- An attribute directory stands with what it names.
use Rattle.std.proofs.Common.{◌∙◌, ℕ, pos, List, [], ◌∷◌, ◌++◌, Some, refl, sym, ap, subst, append_assoc, map}
use Rattle.std.specs.List.{AllByRecursion, flat_map}
use Rattle.bfs_bytes.specs.Fields.{run_in}
use Rattle.bfs_inode.specs.Refusals.{Names}
use Rattle.bfs_node.specs.Page.{Row}
use Rattle.bfs_super.specs.Conditions.{natural}
use Rattle.bfs_sound.specs.Volumes.{Volume}
use Rattle.bfs_sound.specs.Attributes.{attribute_inodes, IsAttributeRow, IsAttributeDirectory}
use Rattle.bfs_sound.specs.Inodes.{id_of, inode_blocks, content}
use Rattle.bfs_claims.specs.Claims.{Claimed, AreClaimed}
use Rattle.bfs_node_check.specs.declared.role.Role.TheVariants as roles
use Rattle.bfs_inode_walk.specs.Visited.{IsSoundIn}
use Rattle.bfs_names_walk.specs.Rows.{as_rows, AreNames}
use Rattle.bfs_names_walk.specs.declared.row.NameRow.{NameRow}
use Rattle.bfs_node_walk.specs.Listed.{proper, NamesBlock}
use Rattle.bfs_attr_walk.specs.Attributed.{row_blocks, AreSoundRows}

module _ (v : Volume) (blocks : ℕ) where
  all_rows : (rs : List Row) → AllByRecursion (NamesBlock blocks) rs → AllByRecursion (λ (r : Row). IsSoundIn v roles.Attribute (id_of r)) rs → AllByRecursion (IsAttributeRow v) rs
  all_rows [] n s = tt
  all_rows (r ∷ rs) n s =
      (record { number = n.0.1 ∙ ap pos (sym (ap natural n.0.1)); owner = record { inode = s.0.inode; stream = s.0.stream refl }; mode = s.0.mode }, all_rows rs n.1 s.1)

  pub stands : (id d : ℕ) (rows : List NameRow) → Names (run_in (v.blocks id) 52) d v.geometry.shift → IsSoundIn v roles.AttributeDirectory d → AreNames (content v d) rows → AllByRecursion (NamesBlock blocks) (proper (as_rows rows)) → AreSoundRows v rows → IsAttributeDirectory v id d
  stands id d rows address sound names inside all = record {
    address = address;
    owner = record { inode = sound.inode; stream = sound.stream refl };
    mode = sound.mode;
    tree = names.tree;
    rows = subst (λ (l : List Row). AllByRecursion (IsAttributeRow v) (proper l)) names.are (all_rows (proper (as_rows rows)) inside all);
  }

module _ (v : Volume) (d : ℕ) (rows : List NameRow) (names : AreNames (content v d) rows) where
  pub claimed_stored : (c : Claimed) (xs : List ℕ) → AreClaimed c ((xs ++ inode_blocks v d) ++ row_blocks v rows) → AreClaimed c (xs ++ flat_map (inode_blocks v) (attribute_inodes v (Some d)))
  claimed_stored c xs a =
      subst (AreClaimed c)
      (append_assoc xs (inode_blocks v d) (row_blocks v rows) ∙ ap (λ (l : List Row). xs ++ (inode_blocks v d ++ flat_map (inode_blocks v) (map id_of (proper l)))) names.are) a
