-- The rows of a directory, one after the other.
use Rattle.std.proofs.Common.{◌≡◌, ◌≢◌, ◌≤◌, ◌<◌, ◌+◌, inl, inr, ℕ, zero, suc, ℤ, pos, List, [], ◌∷◌, ◌++◌, length, take, drop, get_or, Some, Bool, true, false, cond, filter, refl, sym, ap, ◌∙◌, subst, arith, codes}
use Rattle.std.specs.List.{AllByRecursion}
use Rattle.std.proofs.lemmas.List.{take_more, drop_more}
use Rattle.bfs_base.specs.declared.kind.KeyKind.TheVariants.{Text}
use Rattle.bfs_node.specs.Page.{Row}
use Rattle.bfs_pages.specs.Maps.{assoc}
use Rattle.bfs_pages.specs.Order.{same_keys}
use Rattle.bfs_pages.proofs.KeyOrder.{same_itself}
use Rattle.bfs_tree.specs.declared.call.Kind.TheVariants.{Dir}
use Rattle.bfs_values.specs.Rows.{rows_in}
use Rattle.bfs_sound.specs.Volumes.{Volume}
use Rattle.bfs_sound.specs.Inodes.{content, is_proper, proper_rows}
use Rattle.bfs_sound.specs.Owners.{In}
use Rattle.bfs_finding.specs.declared.finding.Finding.{Finding}
use Rattle.bfs_finding.specs.declared.finding.Finding.TheVariants as finds
use Rattle.bfs_finding.specs.Ways.{IsReached, root_reached, row_reached, HasNames, of_node, says}
use Rattle.bfs_finding.specs.NodeFaults.{ComesFrom, or_zero, of_dot, of_dots}
use Rattle.bfs_finding.specs.Findings.{IsBroken}
use Rattle.bfs_finding.proofs.Rows.{text_same}
use Rattle.bfs_tree_check.proofs.Joined.{all_join}
use Rattle.bfs_names_walk.specs.declared.row.NameRow.{NameRow}
use Rattle.bfs_names_walk.specs.Rows.{as_rows}
use Rattle.bfs_names_walk.proofs.Gathered.{more_row}
use Rattle.bfs_node_walk.specs.Listed.{proper, NamesBlock, IsOutside, IsOtherParent, IsListing}

-- ---- rows that name blocks

kept_more : (p : Row → Bool) (xs ys : List Row) → filter p (xs ++ ys) ≡ filter p xs ++ filter p ys
kept_more p [] ys = refl
kept_more p (x ∷ xs) ys = by_test (p x) (kept_more p xs ys)
  where
    by_test : (c : Bool) → filter p (xs ++ ys) ≡ filter p xs ++ filter p ys → cond c (x ∷ filter p (xs ++ ys)) (filter p (xs ++ ys)) ≡ cond c (x ∷ filter p xs) (filter p xs) ++ filter p ys
    by_test true ih = ap (λ (l : List Row). x ∷ l) ih
    by_test false ih = ih

one_kept : (blocks : ℕ) (r : Row) (c : Bool) → (c ≡ true → NamesBlock blocks r) → AllByRecursion (NamesBlock blocks) (cond c (r ∷ []) [])
one_kept blocks r true h = (h refl, tt)
one_kept blocks r false h = tt

pub next_inside : (blocks : ℕ) (rows : List NameRow) (i : ℕ) (d : NameRow) → i < length rows → AllByRecursion (NamesBlock blocks) (proper (as_rows (take i rows)))
    → (is_proper (get_or rows i d).name ≡ true → NamesBlock blocks ((get_or rows i d).name, (get_or rows i d).value)) → AllByRecursion (NamesBlock blocks) (proper (as_rows (take (i + 1) rows)))
next_inside blocks rows i d inside before here =
    let r : NameRow = get_or rows i d in
    let p : Row → Bool = λ row. is_proper row.0 in
    let x : Row = (r.name, r.value) in
    let all : AllByRecursion (NamesBlock blocks) (filter p (as_rows (take i rows)) ++ filter p (x ∷ [])) = all_join (NamesBlock blocks) (filter p (as_rows (take i rows))) (filter p (x ∷ [])) before (one_kept blocks x (is_proper r.name) here) in
    subst (λ (l : List NameRow). AllByRecursion (NamesBlock blocks) (filter p (as_rows l))) (sym (take_more rows i d inside))
    (subst (λ (l : List Row). AllByRecursion (NamesBlock blocks) (filter p l)) (sym (more_row (take i rows) r)) (subst (AllByRecursion (NamesBlock blocks)) (sym (kept_more p (as_rows (take i rows)) (x ∷ []))) all))

filter_in : (p : Row → Bool) (x : Row) (xs : List Row) → In x xs → p x ≡ true → In x (filter p xs)
filter_in p x [] i e = absurd i
filter_in p x (y ∷ ys) (inl same) e = subst (λ (c : Bool). In x (cond c (y ∷ filter p ys) (filter p ys))) (sym e ∙ ap p same) (inl same)
filter_in p x (y ∷ ys) (inr i) e = by_test (p y) (filter_in p x ys i e)
  where
    by_test : (c : Bool) → In x (filter p ys) → In x (cond c (y ∷ filter p ys) (filter p ys))
    by_test true i = inr i
    by_test false i = i

row_in_rows : (rows : List NameRow) (i : ℕ) (d : NameRow) → i < length rows → In ((get_or rows i d).name, (get_or rows i d).value) (as_rows rows)
row_in_rows [] i d h = absurd (omega (arith, h))
row_in_rows (r ∷ rs) zero d h = inl refl
row_in_rows (r ∷ rs) (suc i) d h = inr (row_in_rows rs i d (omega (arith, h)))

pub outside_here : (blocks : ℕ) (rows : List NameRow) (i : ℕ) (d : NameRow) (value : ℤ) → i < length rows → is_proper (get_or rows i d).name ≡ true → value ≡ (get_or rows i d).value
    → ((k : ℕ) → (get_or rows i d).value ≡ pos k → blocks ≤ k) → IsOutside blocks (as_rows rows) value
outside_here blocks rows i d value inside good is outside = record {
  name = (get_or rows i d).name;
  there = subst (λ (z : ℤ). In ((get_or rows i d).name, z) (proper (as_rows rows))) (sym is) (filter_in (λ (row : Row). is_proper row.0) ((get_or rows i d).name, (get_or rows i d).value) (as_rows rows) (row_in_rows rows i d inside) good);
  outside = λ k e. outside k (sym is ∙ e);
}

-- ---- the row with a name

module _ (rows : List NameRow) (i : ℕ) (d : NameRow) (name : List ℕ) (inside : i < length rows) where
  rest : assoc Text (as_rows (drop i rows)) name ≡ cond (same_keys Text name (get_or rows i d).name) (Some (get_or rows i d).value) (assoc Text (as_rows (drop (i + 1) rows)) name)
  rest = ap (λ (l : List NameRow). assoc Text (as_rows l) name) (drop_more rows i d inside)

  pub found_here : (get_or rows i d).name ≡ name → assoc Text (as_rows (drop i rows)) name ≡ Some (get_or rows i d).value
  found_here same =
      let yes' : same_keys Text name (get_or rows i d).name ≡ true = ap (λ (k : List ℕ). same_keys Text name k) same ∙ same_itself Text name in
      rest ∙ ap (λ (c : Bool). cond c (Some (get_or rows i d).value) (assoc Text (as_rows (drop (i + 1) rows)) name)) yes'

  pub found_later : ((get_or rows i d).name ≢ name) → assoc Text (as_rows (drop i rows)) name ≡ assoc Text (as_rows (drop (i + 1) rows)) name
  found_later other = rest ∙ ap (λ (c : Bool). cond c (Some (get_or rows i d).value) (assoc Text (as_rows (drop (i + 1) rows)) name)) (by_test (same_keys Text name (get_or rows i d).name) refl)
    where
      by_test : (c : Bool) → same_keys Text name (get_or rows i d).name ≡ c → c ≡ false
      by_test true e = absurd (other (sym (text_same name (get_or rows i d).name e)))
      by_test false e = refl

-- ---- findings on a directory

pub reached : (v : Volume) (id d : ℕ) → ComesFrom v id d → IsReached v id
reached v id d (inl root) = subst (IsReached v) (sym root.0) root_reached
reached v id d (inr child) = row_reached d child.0 id child.1.0 child.1.1 child.1.2

-- a directory has a tree of names
pub dir_names : (v : Volume) (id d : ℕ) → ComesFrom v id d → says v id Dir ≡ true → HasNames v id
dir_names v id d comes dir = of_node id (reached v id d comes) dir

module _ (v : Volume) (rows : List Row) (id parent : ℕ) (same : rows ≡ rows_in Text (content v id)) where
  pub listing : (blocks : ℕ) → v.geometry.blocks ≡ blocks → assoc Text rows (codes ".") ≡ Some (pos id) → assoc Text rows (codes "..") ≡ Some (pos parent) → AllByRecursion (NamesBlock blocks) (proper rows) → IsListing v id parent
  listing blocks few dot dots all = record {
    dot = ap (λ (l : List Row). assoc Text l (codes ".")) (sym same) ∙ dot;
    dots = ap (λ (l : List Row). assoc Text l (codes "..")) (sym same) ∙ dots;
    inside = subst (λ (n : ℕ). AllByRecursion (NamesBlock n) (proper_rows v id)) (sym few) (subst (λ (l : List Row). AllByRecursion (NamesBlock blocks) (proper l)) same all);
  }

  module _ (comes : ComesFrom v id parent) (dir : says v id Dir ≡ true) where
    pub dot_broken : (f : Finding) → IsOtherParent rows (codes ".") id id f → IsBroken v f
    dot_broken f o =
        subst (IsBroken v) (sym o.is) (of_dot (reached v id parent comes) dir refl (λ h. o.other (ap (λ (l : List Row). assoc Text l (codes ".")) same ∙ h)) (ap (λ (l : List Row). or_zero (assoc Text l (codes "."))) same))

    pub dots_broken : (f : Finding) → IsOtherParent rows (codes "..") id parent f → IsBroken v f
    dots_broken f o =
        subst (IsBroken v) (sym o.is) (of_dots comes dir (λ h. o.other (ap (λ (l : List Row). assoc Text l (codes "..")) same ∙ h)) (ap (λ (l : List Row). or_zero (assoc Text l (codes ".."))) same))

    pub row_broken : (blocks : ℕ) (value seen : ℤ) → seen ≡ value → v.geometry.blocks ≡ blocks → IsOutside blocks rows value → IsBroken v (finds.Row id seen)
    row_broken blocks value seen is few o = record {
      there = of_node id (reached v id parent comes) dir;
      name = o.name;
      row = subst (λ (z : ℤ). In (o.name, z) (proper_rows v id)) (sym is) (subst (λ (l : List Row). In (o.name, value) (proper l)) same o.there);
      outside = λ k e. subst (λ (n : ℕ). n ≤ k) (sym few) (o.outside k (sym is ∙ e));
    }
