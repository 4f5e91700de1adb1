-- The index of names, as it is read.
use Rattle.std.proofs.Common.{◌≡◌, ◌∙◌, ℕ, pos, List, [], ◌∷◌, ◌++◌, codes, Option, Some, None, refl, sym, ap, subst, map}
use Rattle.std.specs.List.{flat_map}
use Rattle.std.specs.FinMap.{get}
use Rattle.bfs_base.specs.declared.kind.KeyKind.{KeyKind}
use Rattle.bfs_base.specs.declared.kind.KeyKind.TheVariants.{Text}
use Rattle.bfs_super.specs.Conditions.{IsValid}
use Rattle.bfs_super.specs.Geometry.{geometry_of}
use Rattle.bfs_super.specs.declared.sup.Super.{Super}
use Rattle.bfs_bitmap.specs.Runs.{Room}
use Rattle.bfs_node.specs.Page.{Row}
use Rattle.bfs_range.specs.Answers.{answer_of}
use Rattle.bfs_range.specs.Ranges.{rows_between}
use Rattle.bfs_stream.specs.Sizes.{Origin, sizes_of}
use Rattle.bfs_stream_pages.specs.Held.{stream_of}
use Rattle.bfs_maps.specs.Mapped.{rows_of}
use Rattle.bfs_tree.specs.Listings.{listed}
use Rattle.bfs_tree.specs.Trees.{Tree, HasBuiltIn}
use Rattle.bfs_values.specs.Reached.{IsWholeTree, pairs_of}
use Rattle.bfs_values.specs.Values.{values_in}
use Rattle.bfs_attr.proofs.Listed.{all_between}
use Rattle.bfs_shift.specs.Lists.{Lists}
use Rattle.bfs_look.specs.Ready.{IsReady}
use Rattle.bfs_remove_index.specs.Indices.{IsIndexFound}
use Rattle.bfs_remove_index.specs.IndexAt.{IndexAt}
use Rattle.bfs_remove_index.proofs.Indexed.{index_tree}
use Rattle.bfs_index_make.specs.Gathered.{ids_of, numbers_of}

joined : (xs ys : List (List ℕ × ℕ)) → ids_of (xs ++ ys) ≡ ids_of xs ++ ids_of ys
joined [] ys = refl
joined (x ∷ xs) ys = ap (λ (l : List ℕ). x.1 ∷ l) (joined xs ys)

alone : (key : List ℕ) (ns : List ℕ) → ids_of (map (λ n. (key, n)) ns) ≡ ns
alone key [] = refl
alone key (n ∷ ns) = ap (λ (l : List ℕ). n ∷ l) (alone key ns)

-- the numbers of the rows are those of the pairs
numbers_are : (bytes : List ℕ) (rows : List Row) → numbers_of (answer_of bytes rows) ≡ ids_of (flat_map (pairs_of bytes) rows)
numbers_are bytes [] = refl
numbers_are bytes (r ∷ rs) =
    ap (λ (l : List ℕ). values_in bytes r.1 ++ l) (numbers_are bytes rs)
    ∙ ap (λ (l : List ℕ). l ++ ids_of (flat_map (pairs_of bytes) rs)) (sym (alone r.0 (values_in bytes r.1)))
    ∙ sym (joined (pairs_of bytes r) (flat_map (pairs_of bytes) rs))

module _ (s : Super) (v : Room) (m : ℕ → Option (List ℕ)) (tree : Tree) (lists : Lists) (valid : IsValid s) (ready : IsReady (geometry_of s) v m tree lists) (at : IndexAt) (found : IsIndexFound lists (codes "name") (Some at)) (built : HasBuiltIn tree.indices) where
  abbrev o : Origin
  o = record { id = at.inode; sizes = sizes_of s }

  kind_is : at.kind ≡ Text
  kind_is =
      let is : get tree.indices (codes "name") ≡ Some (lists.kinds (codes "name")) = (ready.agrees.indices (codes "name") (pos at.inode) found.0).kind in
      let both : Some (lists.kinds (codes "name")) ≡ Some Text = sym is ∙ built.by_name in
      let same : lists.kinds (codes "name") ≡ Text = cc in
      found.1 ∙ same

  pub whole_tree : IsWholeTree at.kind (stream_of o m)
  whole_tree = subst (λ (k : KeyKind). IsWholeTree k (stream_of o m)) (sym found.1) (index_tree s v m tree lists valid ready (codes "name") at.inode found.0)

  pub numbers_named : numbers_of (answer_of (stream_of o m) (rows_between at.kind None None (rows_of at.kind o m))) ≡ ids_of (listed tree (codes "name") Text)
  numbers_named =
      ap (λ (k : KeyKind). numbers_of (answer_of (stream_of o m) (rows_between k None None (rows_of k o m)))) kind_is
      ∙ ap (λ (rows : List Row). numbers_of (answer_of (stream_of o m) rows)) (all_between (rows_of Text o m))
      ∙ numbers_are (stream_of o m) (rows_of Text o m)
      ∙ ap (λ (k : KeyKind). ids_of (flat_map (pairs_of (stream_of o m)) (rows_of k o m))) (sym kind_is ∙ found.1)
      ∙ ap ids_of (sym (ready.work.stocked.indices (codes "name") (pos at.inode) found.0).written.are ∙ (ready.agrees.indices (codes "name") (pos at.inode) found.0).pairs)
      ∙ ap (λ (k : KeyKind). ids_of (listed tree (codes "name") k)) (sym found.1 ∙ kind_is)

pub unnamed : (tree : Tree) → HasBuiltIn tree.indices → get tree.indices (codes "name") ≡ None → ⊥
unnamed tree built none = let bad : Some Text ≡ None = sym built.by_name ∙ none in cc
