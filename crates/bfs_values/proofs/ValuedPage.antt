-- A leaf, where the value of a row is written.
use Rattle.std.proofs.Common.{◌≡◌, ◌≢◌, ◌<◌, ℕ, ℤ, negsuc, List, length, Option, Some, Bool, true, false, cond, ◌==◌, refl, ap, sym, ◌∙◌, subst, arith}
use Rattle.std.specs.Prelude.{slice_set}
use Rattle.bfs_base.specs.declared.kind.KeyKind.{KeyKind}
use Rattle.bfs_node.specs.Page.{Row, IsPage, HasLayout, HasKeys, rows_of, row_in, key_of, links_of}
use Rattle.bfs_node.specs.Search.{key_at}
use Rattle.bfs_node.specs.declared.fault.TreeFault.{TreeFault}
use Rattle.bfs_node.specs.declared.fault.TreeFault.TheVariants.{Exists, Absent, Damaged, Pages, NoMemory}
use Rattle.bfs_node.specs.declared.links.Links.{Links}
use Rattle.bfs_pages.specs.Order.{Key}
use Rattle.bfs_pages.specs.Shapes.{leaf_body}
use Rattle.bfs_pages.specs.Trees.{page_in, place_of, neighbours_in, body_in}
use Rattle.bfs_pages.specs.Ways.{KeysAscend}
use Rattle.bfs_pages.specs.Writes.{PageSet, IsFailed}
use Rattle.bfs_pages.proofs.Says.{says-leaf}
use Rattle.bfs_values.specs.Sets.{with_value, IsValued, IsNotValued}
use Rattle.bfs_values.proofs.ValuedRows.{value-at, keys-set}

eq_self : (a : ℕ) → (a == a) ≡ true
eq_self a = grind arith

eq_no : (a d : ℕ) → a ≢ d → (a == d) ≡ false
eq_no a d n = by_test (a == d) refl
  where
    eq_is : (a == d) ≡ true → a ≡ d
    eq_is e = grind (arith, e)

    by_test : (t : Bool) → (a == d) ≡ t → (a == d) ≡ false
    by_test true e = absurd (n (eq_is e))
    by_test false e = e

pub row-valued : (kind : KeyKind) (b c page new : List ℕ) (leaf i : ℕ) (k : Key) (v : ℤ) → PageSet b c leaf new → page ≡ page_in b leaf → IsPage kind page → (links_of page).overflow ≡ negsuc 0 → HasLayout new
    → rows_of new ≡ slice_set (rows_of page) i (key_of (row_in (rows_of page) i), v) → links_of new ≡ links_of page → i < length (rows_of page) → (KeysAscend kind (rows_of page) → key_at (rows_of page) i ≡ k)
    → IsValued kind b c leaf k v
row-valued kind b c page new leaf i k v set r p over layout rows links inside place = record {
  size = set.size;
  header = set.header;
  others = λ x n. set.pages x ∙ ap (λ t. cond t new (page_in b x)) (eq_no x leaf n);
  links = ap neighbours_in here ∙ ap (λ (z : Links). (place_of z.left, place_of z.right)) links ∙ ap neighbours_in r;
  body = λ up.
      let mine : KeysAscend kind (rows_of page) = subst (λ (z : List ℕ). KeysAscend kind (rows_of z)) (sym r) up in
      ap (body_in kind) here ∙ says-leaf kind new good (ap (λ (z : Links). z.overflow) links ∙ over)
      ∙ ap (λ (z : List Row). Some (leaf_body z)) (rows ∙ value-at kind k v (rows_of page) i mine inside (place mine) ∙ ap (λ (z : List ℕ). with_value kind (rows_of z) k v) r);
}
  where
    here : page_in c leaf ≡ new
    here = set.pages leaf ∙ ap (λ t. cond t new (page_in b leaf)) (eq_self leaf)

    good : IsPage kind new
    good = record { layout = layout; keys = subst (λ (z : List Row). HasKeys kind z) (sym rows) (keys-set kind (rows_of page) i v p.keys) }

pub failed-valued : {F : Type 0} (told now : Option (List ℕ)) (cause before : F → Type 0) (kind : KeyKind) (leaf : ℕ) (k : Key) (fault : TreeFault F) → ((f : F) → cause f → before f) → IsFailed cause fault → IsNotValued kind told now before leaf k fault
failed-valued told now cause before kind leaf k Exists m u = u
failed-valued told now cause before kind leaf k Absent m u = absurd u
failed-valued told now cause before kind leaf k (Damaged page sort) m u = absurd u
failed-valued told now cause before kind leaf k (Pages fault) m u = m fault u
failed-valued told now cause before kind leaf k NoMemory m u = u
