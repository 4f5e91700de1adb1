-- Rows of one tree of names have other names.
use Rattle.std.proofs.Common.{◌≡◌, ◌≢◌, ◌∙◌, inl, inr, ℕ, pos, List, [], ◌∷◌, ◌++◌, Bool, true, false, cond, refl, sym, ap, subst}
use Rattle.bfs_base.specs.declared.kind.KeyKind.TheVariants.{Text}
use Rattle.bfs_node.specs.Page.{Row}
use Rattle.bfs_pages.specs.Order.{comes_before, same_keys}
use Rattle.bfs_pages.specs.Ways.{KeysAscend}
use Rattle.bfs_pages.proofs.KeyOrder.{same_itself, greater_not_same}
use Rattle.bfs_super.specs.Conditions.{natural}
use Rattle.bfs_sound.specs.Inodes.{id_of, is_proper}
use Rattle.bfs_sound.specs.Owners.{In}
use Rattle.bfs_finding.proofs.Rows.{all_in}
use Rattle.bfs_names_walk.specs.Rows.{as_rows}
use Rattle.bfs_names_walk.specs.declared.row.NameRow.{NameRow}
use Rattle.bfs_node_walk.specs.Listed.{proper, NamesBlock}

pub proper_parts : (front : List NameRow) (row : NameRow) (back : List NameRow) → is_proper row.name ≡ true → proper (as_rows (front ++ (row ∷ back))) ≡ proper (as_rows front) ++ ((row.name, row.value) ∷ proper (as_rows back))
proper_parts [] row back p = ap (λ (c : Bool). cond c ((row.name, row.value) ∷ proper (as_rows back)) (proper (as_rows back))) p
proper_parts (x ∷ xs) row back p = by_test (is_proper x.name) (proper_parts xs row back p)
  where
    by_test : (c : Bool) → proper (as_rows (xs ++ (row ∷ back))) ≡ proper (as_rows xs) ++ ((row.name, row.value) ∷ proper (as_rows back))
        → cond c ((x.name, x.value) ∷ proper (as_rows (xs ++ (row ∷ back)))) (proper (as_rows (xs ++ (row ∷ back)))) ≡ cond c ((x.name, x.value) ∷ proper (as_rows xs)) (proper (as_rows xs)) ++ ((row.name, row.value) ∷ proper (as_rows back))
    by_test true ih = ap (λ (l : List Row). (x.name, x.value) ∷ l) ih
    by_test false ih = ih

names_differ : (a b : List ℕ) → comes_before Text a b ≡ true → a ≢ b
names_differ a b up e =
    let same : same_keys Text b a ≡ true = subst (λ (n : List ℕ). same_keys Text b n ≡ true) (sym e) (same_itself Text b) in
    let other : same_keys Text b a ≡ false = greater_not_same Text b a up in
    let bad : true ≡ false = sym same ∙ other in cc

in_middle : (y : Row) (xs ys : List Row) → In y (xs ++ (y ∷ ys))
in_middle y [] ys = inl refl
in_middle y (x ∷ xs) ys = inr (in_middle y xs ys)

pub before_differ : (xs : List Row) (y : Row) (ys : List Row) → KeysAscend Text (xs ++ (y ∷ ys)) → (r : Row) → In r xs → r.0 ≢ y.0
before_differ [] y ys up r i = absurd i
before_differ (x ∷ xs) y ys up r (inl e) = names_differ r.0 y.0 (subst (λ (z : Row). comes_before Text z.0 y.0 ≡ true) (sym e) (all_in (λ (s : Row). comes_before Text x.0 s.0 ≡ true) (xs ++ (y ∷ ys)) y up.0 (in_middle y xs ys)))
before_differ (x ∷ xs) y ys up r (inr i) = before_differ xs y ys up.1 r i

pub value_is : (blocks : ℕ) (r : Row) → NamesBlock blocks r → r.1 ≡ pos (id_of r)
value_is blocks r n = n.1 ∙ ap pos (sym (ap natural n.1))
