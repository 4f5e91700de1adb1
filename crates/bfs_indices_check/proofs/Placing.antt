-- An index that was found has its row, and the tree has it with its kind.
use Rattle.std.proofs.Common.{◌≡◌, ◌∙◌, inl, inr, ◌==◌, ℕ, ℤ, pos, cond, List, [], ◌∷◌, map, Option, Some, None, refl, sym, ap, subst}
use Rattle.std.specs.FinMap.{get}
use Rattle.bfs_base.specs.declared.kind.KeyKind.{KeyKind}
use Rattle.bfs_base.specs.declared.kind.KeyKind.TheVariants.{Text, I32, U32, I64, U64, F32, F64}
use Rattle.bfs_node.specs.Header.{code_of}
use Rattle.bfs_pages.specs.Maps.{assoc}
use Rattle.bfs_values.specs.Reached.{IsWholeTree}
use Rattle.bfs_values.specs.Rows.{rows_in}
use Rattle.bfs_tree.specs.Trees.{Tree}
use Rattle.bfs_sound.specs.Volumes.{Volume}
use Rattle.bfs_sound.specs.Inodes.{content, is_proper, proper_rows, rows_of, index_directory}
use Rattle.bfs_sound.specs.Listings.{IsIndex, IsIndexRow, IsIndexOf, HasIndexDirectory, index_rows}
use Rattle.bfs_sound.specs.Owners.{In}
use Rattle.bfs_finding.specs.Findings.{IsIndexAt}
use Rattle.bfs_finding.proofs.Rows.{all_in, in_assoc, tree_ascends, ascend_kept}
use Rattle.bfs_tour.specs.Tours.{Visit, toured_tree}
use Rattle.bfs_key_walk.specs.NodeLead.{NodeLead}
use Rattle.bfs_index_walk.specs.declared.found.FoundIndex.{FoundIndex}
use Rattle.bfs_index_walk.specs.Indices.{as_row, kinds_of}
use Rattle.bfs_indices_check.specs.Listed.{IsWalkedWhole}

in_map : (found : List FoundIndex) (i : FoundIndex) → In i found → In (as_row i) (map as_row found)
in_map [] i h = absurd h
in_map (x ∷ xs) i (inl e) = inl (ap as_row e)
in_map (x ∷ xs) i (inr h) = inr (in_map xs i h)

assoc_row : (v : Volume) (d : Option ℕ) → HasIndexDirectory v d → (name : List ℕ) (value : ℤ) → In (name, value) (rows_of v d) → assoc Text (rows_of v d) name ≡ Some value
assoc_row v None is name value h = absurd h
assoc_row v (Some d) is name value h = in_assoc (proper_rows v d) name value (ascend_kept Text (λ r. is_proper r.0) (rows_in Text (content v d)) (tree_ascends Text (content v d) is.tree)) h

abbrev kind_at : ℕ → KeyKind
kind_at code = cond (code == 0) Text (cond (code == 1) I32 (cond (code == 2) U32 (cond (code == 3) I64 (cond (code == 4) U64 (cond (code == 5) F32 F64)))))

kind_back : (k : KeyKind) → kind_at (code_of k) ≡ k
kind_back Text = refl
kind_back I32 = refl
kind_back U32 = refl
kind_back I64 = refl
kind_back U64 = refl
kind_back F32 = refl
kind_back F64 = refl

-- a stream has trees of one kind of keys
one_kind : (k l : KeyKind) (bytes : List ℕ) → IsWholeTree k bytes → IsWholeTree l bytes → k ≡ l
one_kind k l bytes a b = sym (kind_back k) ∙ ap kind_at (sym a.tree.header.kind_is ∙ b.tree.header.kind_is) ∙ kind_back l

module _ (v : Volume) (at : ℕ) (leads : List NodeLead) (found : List FoundIndex) (top : Visit) (visits : List Visit) (w : IsWalkedWhole v at leads found top visits) where
  pub tree : Tree
  tree = toured_tree v top visits (kinds_of found)

  module _ (i : FoundIndex) (there : In i found) where
    pub is_index : IsIndex v i.id i.kind
    is_index = all_in (λ (x : FoundIndex). IsIndex v x.id x.kind) found i w.indices.indices there

    pub row_in : In (i.name, pos i.id) (index_rows v)
    row_in = subst (In (as_row i)) w.indices.are (in_map found i there)

    index_row : IsIndexRow v i.name (pos i.id)
    index_row = assoc_row v (index_directory v) w.standing.nodes.stands.directory i.name (pos i.id) row_in

    of_tree : IsIndexOf v (toured_tree v top visits (kinds_of found)) i.name (pos i.id)
    of_tree = w.standing.nodes.stands.indices i.name (pos i.id) index_row

    pub has_kind : get (toured_tree v top visits (kinds_of found)).indices i.name ≡ Some i.kind
    has_kind = of_tree.there ∙ ap Some (one_kind of_tree.kind i.kind (content v i.id) of_tree.index.tree is_index.tree)

    pub is_at : IsIndexAt v (toured_tree v top visits (kinds_of found)) i.name i.kind i.id
    is_at = record { value = pos i.id; row = index_row; there = has_kind; number = refl }
