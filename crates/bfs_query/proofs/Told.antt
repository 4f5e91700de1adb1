-- The indices that the rows of the index directory name are those of the tree.
use Rattle.std.proofs.Common.{◌≡◌, ℕ, ℤ, List, [], ◌∷◌, refl, sym, ap, ◌∙◌, subst, Bool, true, false, cond, T, Option, Some, None, map as each}
use Rattle.std.specs.Prelude.{◌&&◌}
use Rattle.std.specs.List.{AllByRecursion}
use Rattle.std.specs.Option.{option_map}
use Rattle.std.specs.Ordering.{is_lt}
use Rattle.std.specs.Cmp.Lexicographic.{nat_list_cmp_total}
use Rattle.std.specs.FinMap.{get, find, entries, entries_sorted, get-entries, is_sorted, nat_cmp-IsAntisymmetric, slice_cmp-IsAntisymmetric}
use Rattle.std.specs.FinMap.Entries.{same_entries, below_all}
use Rattle.bfs_base.specs.Keys.{text_cmp}
use Rattle.bfs_base.specs.declared.kind.KeyKind.{KeyKind}
use Rattle.bfs_base.specs.declared.kind.KeyKind.TheVariants.{Text}
use Rattle.bfs_node.specs.Page.{Row}
use Rattle.bfs_pages.specs.Maps.{assoc}
use Rattle.bfs_pages.specs.Order.{comes_before, same_keys}
use Rattle.bfs_pages.specs.Ways.{KeysAscend}
use Rattle.bfs_tree.specs.Trees.{Tree}
use Rattle.bfs_shift.specs.Lists.{Lists, Agrees}
use Rattle.bfs_shift.proofs.OneIndex.{same_name}

yes_of : (a b : Bool) → T a → T b → T (a && b)
yes_of true b p q = q
yes_of false b p q = p

holds : (b : Bool) → b ≡ true → T b
holds b e = subst T (sym e) tt

-- rows that ascend strictly rise as entries
module _ (kinds : List ℕ → KeyKind) where
  abbrev entry : Row → List ℕ × KeyKind
  entry r = (r.0, kinds r.0)

  all_below : (k : List ℕ) (rows : List Row) → AllByRecursion (λ (s : Row). comes_before Text k s.0 ≡ true) rows → T (below_all text_cmp k (each entry rows))
  all_below k [] all = tt
  all_below k (r ∷ rs) all = yes_of (is_lt (text_cmp k r.0)) (below_all text_cmp k (each entry rs)) (holds (is_lt (text_cmp k r.0)) all.0) (all_below k rs all.1)

  rises : (rows : List Row) → KeysAscend Text rows → T (is_sorted text_cmp (each entry rows))
  rises [] up = tt
  rises (r ∷ rs) up = yes_of (below_all text_cmp r.0 (each entry rs)) (is_sorted text_cmp (each entry rs)) (all_below r.0 rs up.0) (rises rs up.1)

  -- what an entry has is the kind of its name
  found : (rows : List Row) (q : List ℕ) → find text_cmp q (each entry rows) ≡ option_map (λ (value : ℤ). kinds q) (assoc Text rows q)
  found [] q = refl
  found (r ∷ rs) q = by_test (same_keys Text q r.0) refl (found rs q)
    where
      by_test : (t : Bool) → same_keys Text q r.0 ≡ t → find text_cmp q (each entry rs) ≡ option_map (λ (value : ℤ). kinds q) (assoc Text rs q) → find text_cmp q (each entry (r ∷ rs)) ≡ option_map (λ (value : ℤ). kinds q) (assoc Text (r ∷ rs) q)
      by_test true e rest =
          ap (λ (t : Bool). cond t (Some (kinds r.0)) (find text_cmp q (each entry rs))) e ∙ ap (λ (k : List ℕ). Some (kinds k)) (sym (same_name q r.0 e))
          ∙ sym (ap (λ (t : Bool). option_map (λ (value : ℤ). kinds q) (cond t (Some r.1) (assoc Text rs q))) e)
      by_test false e rest =
          ap (λ (t : Bool). cond t (Some (kinds r.0)) (find text_cmp q (each entry rs))) e ∙ rest
          ∙ sym (ap (λ (t : Bool). option_map (λ (value : ℤ). kinds q) (cond t (Some r.1) (assoc Text rs q))) e)

  -- where the lists agree with a tree, they are its indices
  module _ (tree : Tree) (lists : Lists) (agrees : Agrees tree lists) (same : kinds ≡ lists.kinds) where
    told : (q : List ℕ) (o : Option ℤ) → assoc Text lists.names q ≡ o → option_map (λ (value : ℤ). kinds q) o ≡ get tree.indices q
    told q (Some value) e = ap (λ (f : List ℕ → KeyKind). Some (f q)) same ∙ sym (agrees.indices q value e).kind
    told q None e = by_kind (get tree.indices q) refl
      where
        by_kind : (o : Option KeyKind) → get tree.indices q ≡ o → None ≡ get tree.indices q
        by_kind None n = sym n
        by_kind (Some kind) n = let row = agrees.no_more q kind n in absurd (let bad : None ≡ Some row.0 = sym e ∙ row.1 in cc)

    pub entries_are : KeysAscend Text lists.names → each entry lists.names ≡ entries tree.indices
    entries_are up = same_entries text_cmp nat_list_cmp_total (slice_cmp-IsAntisymmetric nat_cmp-IsAntisymmetric) (each entry lists.names) (entries tree.indices) (rises lists.names up) (entries_sorted tree.indices)
        (λ q. found lists.names q ∙ told q (assoc Text lists.names q) refl ∙ get-entries tree.indices q)
