-- What calls on the row of a key come to for the pairs of its tree.
use Rattle.std.proofs.Common.{◌≡◌, ◌≤◌, ◌<◌, ◌%◌, ◌∙◌, ℕ, ℤ, List, [], ◌∷◌, ◌++◌, length, Option, Some, sym, ap, subst}
use Rattle.std.specs.Prelude.{Result, Ok, Err, OnOk, MatchResult}
use Rattle.bfs_base.specs.Lists.{times}
use Rattle.bfs_base.specs.declared.kind.KeyKind.{KeyKind}
use Rattle.bfs_node.specs.Page.{Row, rows_of, row_in, value_of}
use Rattle.bfs_node.specs.declared.fault.TreeFault.{TreeFault}
use Rattle.bfs_pages.specs.Answers.{IsLeafPage, IsOfPages}
use Rattle.bfs_pages.specs.Order.{Key}
use Rattle.bfs_pages.specs.Shapes.{Shape, tree_rows}
use Rattle.bfs_pages.specs.Trees.{page_in}
use Rattle.bfs_values.specs.Kinds.{IsValueOf, IsLacking}
use Rattle.bfs_values.specs.Reached.{IsWholeTree}
use Rattle.bfs_values.specs.Rows.{rows_in}
use Rattle.bfs_values.specs.Stored.{Stored, SameNumbers, IsRevalued, with_number}
use Rattle.bfs_values.specs.Values.{HasValues, values_in}
use Rattle.bfs_values.proofs.Lasting.{pages-lacking}
use Rattle.bfs_values.proofs.Opened.{all-but}
use Rattle.bfs_dups_remove.specs.Lessened.{without_number}
use Rattle.bfs_maps.specs.NumberTrees.{IsTold}
use Rattle.bfs_index.specs.Indices.{HasWith, HasWithout}
use Rattle.bfs_index.proofs.Pairing.{stored_whole, written_with, written_without, dropped_without}
use Rattle.bfs_index.proofs.Told.{match_both, same_told}

-- a leaf that was read has the value of a row
pub value_of_leaf : (kind : KeyKind) (b : List ℕ) (size leaf : ℕ) (page : List ℕ) (i : ℕ) (value : ℤ) → length b ≡ size → page ≡ page_in b leaf → IsLeafPage kind size page → i < length (rows_of page) → value ≡ value_of (row_in (rows_of page) i) → IsValueOf kind b leaf value
value_of_leaf kind b size leaf page i value long read good low is = (
  subst (λ (x : ℕ × List ℕ). IsLeafPage kind x.0 x.1) (λ t. (sym long t, read t)) good,
  (i, subst (λ (p : List ℕ). i < length (rows_of p)) read low, is ∙ ap (λ (p : List ℕ). value_of (row_in (rows_of p) i)) read),
)

-- the row's value means numbers
pub row_means : (kind : KeyKind) (b : List ℕ) (t : Shape) (front : List Row) (key : Key) (value : ℤ) (back : List Row) → Stored kind b t (front ++ ((key, value) ∷ back)) → HasValues b value
row_means kind b t front key value back s = (all-but (λ r. HasValues b r.1) front (key, value) back s.mean).1

-- what the writing of a row's value comes to
abbrev pub IsWritten : KeyKind → List ℕ → List Row → List ℕ → Type 0
IsWritten kind c rows d = IsWholeTree kind d × (rows_in kind d ≡ rows) × SameNumbers c d rows

module _ {F : Type 0} (kind : KeyKind) (b : List ℕ) (t : Shape) (front : List Row) (key : Key) (v : ℤ) (back : List Row) (id : ℕ) (whole : length b % 1024 ≡ 0) (s : Stored kind b t (front ++ ((key, v) ∷ back))) (rows : tree_rows t ≡ front ++ ((key, v) ∷ back)) where
  -- a number was added to the row's value, and the new value written
  pub add_result : (c : List ℕ) (w z : ℤ) → z ≡ w → IsRevalued kind b c t front key back w (with_number id (values_in b v)) → (told : Option (List ℕ)) (r : Result (Unit {0}) (TreeFault F))
      → MatchResult r (λ done. IsTold told (IsWritten kind c (front ++ ((key, z) ∷ back)))) IsOfPages → OnOk r (1 ≤ times id (values_in b v) → told ≡ Some b) → MatchResult r (λ done. IsTold told (HasWith kind b key id)) IsLacking
  add_result c w z same rev told r wrote stays =
      let old = stored_whole kind b t (front ++ ((key, v) ∷ back)) whole s rows in
      match_both (λ done. IsTold told (IsWritten kind c (front ++ ((key, z) ∷ back)))) (λ done. IsTold told (HasWith kind b key id)) IsOfPages IsLacking (1 ≤ times id (values_in b v) → told ≡ Some b) r wrote stays
      (λ done x also. (
        x.0,
        x.1,
        written_with kind b c x.0 key id v z front back old.0 old.1 x.2.0 x.2.1 rev.others (ap (values_in c) same ∙ rev.means) x.2.2 (λ some. same_told told b x.0 (also some) x.1),
      )) pages-lacking

  -- a number was taken out of the row's value, and the new value written
  pub less_result : (c : List ℕ) (w z : ℤ) → z ≡ w → IsRevalued kind b c t front key back w (without_number id (values_in b v)) → (told : Option (List ℕ)) (r : Result (Unit {0}) (TreeFault F))
      → MatchResult r (λ done. IsTold told (IsWritten kind c (front ++ ((key, z) ∷ back)))) IsOfPages → OnOk r (times id (values_in b v) ≡ 0 → told ≡ Some b) → MatchResult r (λ done. IsTold told (HasWithout kind b key id)) IsOfPages
  less_result c w z same rev told r wrote stays =
      let old = stored_whole kind b t (front ++ ((key, v) ∷ back)) whole s rows in
      match_both (λ done. IsTold told (IsWritten kind c (front ++ ((key, z) ∷ back)))) (λ done. IsTold told (HasWithout kind b key id)) IsOfPages IsOfPages (times id (values_in b v) ≡ 0 → told ≡ Some b) r wrote stays
      (λ done x also. (
        x.0,
        x.1,
        written_without kind b c x.0 key id v z front back old.0 old.1 x.2.0 x.2.1 rev.others (ap (values_in c) same ∙ rev.means) x.2.2 (λ none. same_told told b x.0 (also none) x.1),
      )) (λ fault why. why)

  -- the last number was taken, and then the row
  pub drop_result : (c : List ℕ) → without_number id (values_in b v) ≡ [] → SameNumbers b c (front ++ back) → (times id (values_in b v) ≡ 0 → ⊥) → (told : Option (List ℕ)) (r : Result (Unit {0}) (TreeFault F))
      → MatchResult r (λ done. IsTold told (IsWritten kind c (front ++ back))) IsOfPages → MatchResult r (λ done. IsTold told (HasWithout kind b key id)) IsOfPages
  drop_result c none same there told (Ok done) x =
      let old = stored_whole kind b t (front ++ ((key, v) ∷ back)) whole s rows in
      (x.0, x.1, dropped_without kind b c x.0 key id v front back old.0 old.1 x.2.0 x.2.1 same none x.2.2 (λ zero. absurd (there zero)))
  drop_result c none same there told (Err fault) x = x
