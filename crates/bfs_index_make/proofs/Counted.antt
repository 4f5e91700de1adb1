-- How many indices there are.
use Rattle.std.proofs.Common.{◌≡◌, ◌≢◌, ◌∙◌, ℕ, suc, List, [], ◌∷◌, length, map, refl, sym, ap}
use Rattle.std.specs.FinMap.{entries, len, len-entries}
use Rattle.bfs_super.specs.Conditions.{IsValid}
use Rattle.bfs_super.specs.Geometry.{geometry_of}
use Rattle.bfs_super.specs.declared.sup.Super.{Super}
use Rattle.bfs_bitmap.specs.Runs.{Room}
use Rattle.bfs_base.specs.declared.kind.KeyKind.{KeyKind}
use Rattle.bfs_base.specs.declared.kind.KeyKind.TheVariants.{Text}
use Rattle.bfs_range.specs.Ranges as range
use Rattle.std.specs.Prelude.{Option, None}
use Rattle.bfs_stream.specs.Sizes.{sizes_of}
use Rattle.bfs_stream_pages.specs.Held.{stream_of}
use Rattle.bfs_values.specs.Rows.{rows_in}
use Rattle.bfs_attr.specs.Directories.{inode_rows}
use Rattle.bfs_attr.specs.declared.directory.InodeRow.{InodeRow}
use Rattle.bfs_tree.specs.Answers.{rows_of_indices}
use Rattle.bfs_tree.specs.Trees.{Tree}
use Rattle.bfs_shift.specs.Lists.{Lists}
use Rattle.bfs_look.specs.Ready.{IsReady}
use Rattle.bfs_remove_index.specs.Indices.{index_row}
use Rattle.bfs_remove_index.proofs.Indexed.{no_indices, told_rows}

pub mapped : {X Y : Type 0} (f : X → Y) (xs : List X) → length (map f xs) ≡ length xs
mapped f [] = refl
mapped f (x ∷ xs) = ap suc (mapped f xs)

module _ (s : Super) (v : Room) (m : ℕ → Option (List ℕ)) (tree : Tree) (lists : Lists) (ready : IsReady (geometry_of s) v m tree lists) where
  shown : length (rows_of_indices (entries tree.indices)) ≡ len tree.indices
  shown = mapped (λ (e : List ℕ × KeyKind). record { kind = e.1; name = e.0 }) (entries tree.indices) ∙ sym (len-entries tree.indices)

  pub none_counted : (geometry_of s).indices ≡ 0 → 0 ≡ len tree.indices
  none_counted none = sym (ap length (no_indices s v m tree lists ready none)) ∙ shown

  pub all_counted : IsValid s → (geometry_of s).indices ≢ 0 → (named : List InodeRow) → named ≡ inode_rows (range.rows_between Text None None (rows_in Text (stream_of (record { id = (geometry_of s).indices; sizes = sizes_of s }) m))) → length named ≡ len tree.indices
  all_counted valid some named are = sym (mapped (index_row lists) named) ∙ ap length (told_rows s v m tree lists valid ready some named are) ∙ shown
