-- A name that is not among the attributes is in no row of the attribute directory.
use Rattle.std.proofs.Common.{◌≡◌, ℕ, ℤ, List, [], ◌∷◌, ◌++◌, Bool, true, false, cond, Some, None, refl, sym, ◌∙◌, ap, map}
use Rattle.std.specs.FinMap.{find}
use Rattle.std.specs.List.{filter}
use Rattle.std.specs.Ordering.{eq_by_cmp}
use Rattle.std.proofs.lemmas.Slice.Eq.{bytes_eq-Decides}
use Rattle.bfs_base.specs.Keys.{text_cmp}
use Rattle.bfs_base.specs.declared.kind.KeyKind.TheVariants.{Text}
use Rattle.bfs_node.specs.Page.{Row}
use Rattle.bfs_pages.specs.Maps.{assoc}
use Rattle.bfs_tree.specs.Trees.{Attribute}
use Rattle.bfs_sound.specs.Attributes.{Named}
use Rattle.bfs_sound.specs.Inodes.{is_proper}
use Rattle.bfs_attr.proofs.Finds.{same_test}

pub find_behind : (name : List ℕ) (xs ys : List Named) → find text_cmp name (xs ++ ys) ≡ None → find text_cmp name ys ≡ None
find_behind name [] ys e = e
find_behind name (x ∷ xs) ys e = by_test (eq_by_cmp text_cmp name x.0) e (find_behind name xs ys)
  where
    by_test : (b : Bool) → cond b (Some x.1) (find text_cmp name (xs ++ ys)) ≡ None → (find text_cmp name (xs ++ ys) ≡ None → find text_cmp name ys ≡ None) → find text_cmp name ys ≡ None
    by_test true h rest = let bad : Some x.1 ≡ None = h in cc
    by_test false h rest = rest h

module _ (entry : Row → Attribute) (name : List ℕ) (proper : is_proper name ≡ true) where
  abbrev named : Row → Named
  named r = (r.0, entry r)

  abbrev is_row : Row → Bool
  is_row r = is_proper r.0

  pub no_row : (rows : List Row) (value : ℤ) → assoc Text rows name ≡ Some value → find text_cmp name (map named (filter is_row rows)) ≡ None → ⊥
  no_row [] value e none = let bad : None ≡ Some value = e in cc
  no_row (r ∷ rows) value e none = by_test (eq_by_cmp text_cmp name r.0) refl e (is_proper r.0) refl none (no_row rows value)
    where
      by_test : (b : Bool) → eq_by_cmp text_cmp name r.0 ≡ b → cond b (Some r.1) (assoc Text rows name) ≡ Some value → (p : Bool) → is_proper r.0 ≡ p
          → find text_cmp name (map named (cond p (r ∷ filter is_row rows) (filter is_row rows))) ≡ None
          → (assoc Text rows name ≡ Some value → find text_cmp name (map named (filter is_row rows)) ≡ None → ⊥) → ⊥
      by_test true same e true is none rest =
          let bad : Some (entry r) ≡ None = sym (ap (λ (t : Bool). cond t (Some (entry r)) (find text_cmp name (map named (filter is_row rows)))) same) ∙ none in cc
      by_test true same e false is none rest =
          let name_is : r.0 ≡ name = (bytes_eq-Decides r.0 name).0 (sym (same_test name r.0) ∙ same) in
          let bad : false ≡ true = sym is ∙ ap is_proper name_is ∙ proper in cc
      by_test false same e true is none rest =
          rest e (sym (ap (λ (t : Bool). cond t (Some (entry r)) (find text_cmp name (map named (filter is_row rows)))) same) ∙ none)
      by_test false same e false is none rest = rest e none
