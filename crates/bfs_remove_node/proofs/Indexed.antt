-- How many indices list a node.
use Rattle.std.proofs.Common.{◌≡◌, ◌+◌, inl, inr, ℕ, ℤ, List, [], ◌∷◌, length, map, refl, sym, ap, ◌∙◌, arith, Bool, true, false, cond, Option, Some, None}
use Rattle.std.specs.Prelude.{◌||◌, is_some}
use Rattle.std.specs.List.{flat_map, list_any}
use Rattle.std.specs.Ordering.{eq_by_cmp}
use Rattle.std.specs.FinMap.Entries.{is_some-find}
use Rattle.bfs_base.specs.Keys.{text_cmp}
use Rattle.bfs_pages.proofs.KeyOrder.{same_itself}
use Rattle.bfs_shift.specs.Lists.{Lists, Agrees}
use Rattle.std.specs.FinMap.{get, entries, get-entries}
use Rattle.std.proofs.lemmas.List.{length-append}
use Rattle.std.proofs.lemmas.List.Sums.{sum_by-cons}
use Rattle.bfs_base.specs.declared.kind.KeyKind.{KeyKind}
use Rattle.bfs_base.specs.declared.kind.KeyKind.TheVariants.{Text}
use Rattle.bfs_pages.specs.Maps.{assoc}
use Rattle.bfs_tree.specs.Answers.{rows_of_indices}
use Rattle.bfs_tree.specs.declared.rows.IndexRow.{IndexRow}
use Rattle.bfs_tree.specs.Listings.{key_at}
use Rattle.bfs_tree.specs.Refusals.{is_built_in}
use Rattle.bfs_tree.specs.Trees.{Tree}
use Rattle.bfs_sound.specs.Need.{attribute_index_row, index_row, row_at}
use Rattle.bfs_sound.specs.Listings.{index_rows}
use Rattle.bfs_sound.specs.Owners.{In}
use Rattle.bfs_sound.specs.Volumes.{Volume}
use Rattle.bfs_remove_node.specs.Counted.{is_listed, listed_among}

pub and_none : (n : ℕ) → n ≡ n + 0
and_none n = omega arith

pub in_turn : (a b c : ℕ) → a + b + c ≡ a + (b + c)
in_turn a b c = omega arith

-- an entry's name is that of some index
any_in : (es : List (List ℕ × KeyKind)) (e : List ℕ × KeyKind) → In e es → list_any (eq_by_cmp text_cmp e.0) (map (λ (x : List ℕ × KeyKind). x.0) es) ≡ true
any_in [] e bad = absurd bad
any_in (x ∷ es) e (inl here) =
    ap (λ (k : List ℕ). eq_by_cmp text_cmp e.0 k || list_any (eq_by_cmp text_cmp e.0) (map (λ (y : List ℕ × KeyKind). y.0) es)) (sym (ap (λ (y : List ℕ × KeyKind). y.0) here))
    ∙ ap (λ (b : Bool). b || list_any (eq_by_cmp text_cmp e.0) (map (λ (y : List ℕ × KeyKind). y.0) es)) (same_itself Text e.0)
any_in (x ∷ es) e (inr later) = either (eq_by_cmp text_cmp e.0 x.0) (list_any (eq_by_cmp text_cmp e.0) (map (λ (y : List ℕ × KeyKind). y.0) es)) (any_in es e later)
  where
    either : (a b : Bool) → b ≡ true → (a || b) ≡ true
    either true b h = refl
    either false b h = h

pub index_there : (tree : Tree) (lists : Lists) → Agrees tree lists → (e : List ℕ × KeyKind) → In e (entries tree.indices) → (value : ℤ) × (assoc Text lists.names e.0 ≡ Some value)
index_there tree lists agrees e i = by_kind (get tree.indices e.0) refl
  where
    found : is_some (get tree.indices e.0) ≡ true
    found = ap is_some (get-entries tree.indices e.0) ∙ is_some-find text_cmp e.0 (entries tree.indices) ∙ any_in (entries tree.indices) e i

    by_kind : (o : Option KeyKind) → get tree.indices e.0 ≡ o → (value : ℤ) × (assoc Text lists.names e.0 ≡ Some value)
    by_kind None n = let there = found in let bad : false ≡ true = sym (ap is_some n) ∙ there in absurd cc
    by_kind (Some kind) n = agrees.no_more e.0 kind n

module _ (v : Volume) (tree : Tree) (id : ℕ) where
  -- the rows that a call takes out of an index, and whether one is
  abbrev rows_in : List ℕ × KeyKind → List ℕ
  rows_in e = cond (is_some (key_at tree e.0 e.1 id)) (attribute_index_row v e.0) []

  abbrev row_of : List ℕ × KeyKind → IndexRow
  row_of e = record { kind = e.1; name = e.0 }

  -- an index that is there has one row
  one_row : (name : List ℕ) (value : ℤ) → assoc Text (index_rows v) name ≡ Some value → length (index_row v name) ≡ 1
  one_row name value at = ap (λ (o : Option ℤ). length (row_at v o)) at

  one_count : (e : List ℕ × KeyKind) (value : ℤ) → assoc Text (index_rows v) e.0 ≡ Some value → (listed built : Bool) → is_some (key_at tree e.0 e.1 id) ≡ listed → is_built_in e.0 ≡ built
      → length (cond listed (cond built [] (index_row v e.0)) []) ≡ cond (cond built false listed) 1 0
  one_count e value at false true k b = refl
  one_count e value at false false k b = refl
  one_count e value at true true k b = refl
  one_count e value at true false k b = one_row e.0 value at

  one_is : (e : List ℕ × KeyKind) (value : ℤ) → assoc Text (index_rows v) e.0 ≡ Some value → length (rows_in e) ≡ cond (is_listed tree id (row_of e)) 1 0
  one_is e value at = one_count e value at (is_some (key_at tree e.0 e.1 id)) (is_built_in e.0) refl refl

  pub rows_count : (es : List (List ℕ × KeyKind)) → ((e : List ℕ × KeyKind) → In e es → (value : ℤ) × (assoc Text (index_rows v) e.0 ≡ Some value))
      → length (flat_map rows_in es) ≡ listed_among tree id (rows_of_indices es)
  rows_count [] there = refl
  rows_count (e ∷ es) there =
      let first = there e (inl refl) in
      length-append (rows_in e) (flat_map rows_in es)
      ∙ ap (λ (n : ℕ). n + length (flat_map rows_in es)) (one_is e first.0 first.1)
      ∙ ap (λ (n : ℕ). cond (is_listed tree id (row_of e)) 1 0 + n) (rows_count es (λ x i. there x (inr i)))
      ∙ sym (sum_by-cons (λ (row : IndexRow). cond (is_listed tree id row) 1 0) (row_of e) (rows_of_indices es))
