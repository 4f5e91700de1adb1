-- Pages of fragments that a leaf names, in two streams with one tree and the same rows.
use Rattle.std.proofs.Common.{◌≡◌, ◌≢◌, ◌⊎◌, ◌≤◌, ◌<◌, ◌+◌, ℕ, ℤ, List, [], ◌∷◌, ◌++◌, length, Option, Some, Bool, true, false, cond, ◌==◌, nat_le, inl, inr, refl, ap, sym, ◌∙◌, subst, arith}
use Rattle.std.specs.List.{AllByRecursion}
use Rattle.bfs_base.specs.Lists.{times, Has}
use Rattle.bfs_base.specs.declared.kind.KeyKind.{KeyKind}
use Rattle.bfs_node.specs.Page.{Row, rows_of, row_in, value_of}
use Rattle.bfs_pages.specs.Answers.{IsChild}
use Rattle.bfs_pages.specs.Order.{Key}
use Rattle.bfs_pages.specs.Shapes.{Shape, Shapes, leaf_shape, node_shape, last_shape, more_shapes, Body, leaf_body, tree_rows, leaves_of, leaves_all, Stands, StandAll}
use Rattle.bfs_pages.specs.Trees.{page_in, state_of, IsTree}
use Rattle.bfs_pages.proofs.OfKind.{leaf-fields}
use Rattle.bfs_pages.proofs.Splice.{times-append}
use Rattle.bfs_values.specs.Reached.{times_named}
use Rattle.bfs_values.specs.declared.link.Link.TheVariants.{Fragment, Chain}
use Rattle.bfs_values.specs.Links.{link_in}
use Rattle.bfs_values.specs.Values.{fragment_count, HasValues}
use Rattle.bfs_values.specs.Named.{IsNamedIn, IsCrowded}
use Rattle.bfs_values.specs.Stored.{Stored}
use Rattle.bfs_dups.proofs.Answered.{named-rest}
use Rattle.bfs_values.proofs.Opened.{own, named-split}
use Rattle.bfs_dups.proofs.Slotted.{decide, unnamed}

-- a leaf of a tree that stands in two streams has one list of rows
mutual
  leaf-both : (here there : ℕ → Option Body) (leaf : ℕ) (t : Shape) → Stands here t → Stands there t → 1 ≤ times leaf (leaves_of t) → (rows : List Row) × (here leaf ≡ Some (leaf_body rows)) × (there leaf ≡ Some (leaf_body rows))
  leaf-both here there leaf (leaf_shape at rows) s r i = by_place (decide at leaf)
    where
      by_place : (at ≡ leaf) ⊎ (at ≢ leaf) → (rs : List Row) × (here leaf ≡ Some (leaf_body rs)) × (there leaf ≡ Some (leaf_body rs))
      by_place (inl e) = (rows, ap here (sym e) ∙ s, ap there (sym e) ∙ r)
      by_place (inr n) = absurd (off at leaf n i)
        where
          off : (at leaf : ℕ) → at ≢ leaf → 1 ≤ times leaf (at ∷ []) → ⊥
          off at leaf n i = by_test (at == leaf) refl
            where
              eq_is : (a d : ℕ) → (a == d) ≡ true → a ≡ d
              eq_is a d e = grind (arith, e)

              by_test : (c : Bool) → (at == leaf) ≡ c → ⊥
              by_test true e = n (eq_is at leaf e)
              by_test false e = let z : times leaf (at ∷ []) ≡ 0 = ap (λ c. cond c 1 0 + 0) e in omega (arith, i, z)
  leaf-both here there leaf (node_shape at below) s r i = leaf-both-all here there leaf below s.1 r.1 i

  leaf-both-all : (here there : ℕ → Option Body) (leaf : ℕ) (ts : Shapes) → StandAll here ts → StandAll there ts → 1 ≤ times leaf (leaves_all ts) → (rows : List Row) × (here leaf ≡ Some (leaf_body rows)) × (there leaf ≡ Some (leaf_body rows))
  leaf-both-all here there leaf (last_shape t) s r i = leaf-both here there leaf t s r i
  leaf-both-all here there leaf (more_shapes t key ts) s r i = by_test (nat_le 1 (times leaf (leaves_of t))) refl (λ h. leaf-both here there leaf t s.0 r.0 h) (λ h. leaf-both-all here there leaf ts s.1 r.1 h)
    where
      is_le : (a : ℕ) → nat_le 1 a ≡ true → 1 ≤ a
      is_le a e = grind (arith, e)

      is_no : (a : ℕ) → nat_le 1 a ≡ false → a ≡ 0
      is_no a e = grind (arith, e)

      by_test : (c : Bool) → nat_le 1 (times leaf (leaves_of t)) ≡ c
          → (1 ≤ times leaf (leaves_of t) → (rows : List Row) × (here leaf ≡ Some (leaf_body rows)) × (there leaf ≡ Some (leaf_body rows)))
          → (1 ≤ times leaf (leaves_all ts) → (rows : List Row) × (here leaf ≡ Some (leaf_body rows)) × (there leaf ≡ Some (leaf_body rows)))
          → (rows : List Row) × (here leaf ≡ Some (leaf_body rows)) × (there leaf ≡ Some (leaf_body rows))
      by_test true e f g = f (is_le (times leaf (leaves_of t)) e)
      by_test false e f g = g (omega (arith, i, is_no (times leaf (leaves_of t)) e, times-append leaf (leaves_of t) (leaves_all ts)))

same-rows : (kind : KeyKind) (b m reached met : List ℕ) (t : Shape) (fs gs : List ℕ) (leaf : ℕ) → IsTree kind b reached t fs → IsTree kind m met t gs → 1 ≤ times leaf (leaves_of t) → rows_of (page_in m leaf) ≡ rows_of (page_in b leaf)
same-rows kind b m reached met t fs gs leaf tree since there =
    let r = leaf-both (state_of kind b).bodies (state_of kind m).bodies leaf t tree.holds.built.stands since.holds.built.stands there in
    let f = leaf-fields kind (page_in b leaf) r.0 r.1 in
    let g = leaf-fields kind (page_in m leaf) r.0 r.2 in
    g.1 ∙ sym f.1

-- a fragment that a row names is in use
in-use : (b : List ℕ) (page k : ℕ) (rows : List Row) → AllByRecursion (λ r. HasValues b r.1) rows → 0 < times_named page k rows → 1 ≤ fragment_count (page_in b page) k
in-use b page k rows mean named = by_test (nat_le 1 (fragment_count (page_in b page) k)) refl
  where
    is_le : (a : ℕ) → nat_le 1 a ≡ true → 1 ≤ a
    is_le a e = grind (arith, e)

    is_no : (a : ℕ) → nat_le 1 a ≡ false → a ≡ 0
    is_no a e = grind (arith, e)

    not_both : (a : ℕ) → a ≡ 0 → 1 ≤ a → ⊥
    not_both a z s = omega (arith, z, s)

    by_test : (c : Bool) → nat_le 1 (fragment_count (page_in b page) k) ≡ c → 1 ≤ fragment_count (page_in b page) k
    by_test true e = is_le (fragment_count (page_in b page) k) e
    by_test false e =
        let none : times_named page k rows ≡ 0 = unnamed b page k rows mean (λ f. not_both (fragment_count (page_in b page) k) (is_no (fragment_count (page_in b page) k) e) f.some) in
        absurd (omega (arith, named, none))

named-turned : (b m : List ℕ) (leaf page : ℕ) → rows_of (page_in m leaf) ≡ rows_of (page_in b leaf) → IsNamedIn m leaf page → IsNamedIn b leaf page
named-turned b m leaf page e n = subst (λ (rs : List Row). (i : ℕ) × (j : ℕ) × (i < length rs) × (link_in (value_of (row_in rs i)) ≡ Fragment page j)) e n

crowded-before : (kind : KeyKind) (b m : List ℕ) (t : Shape) (front : List Row) (key : Key) (back : List Row) (value : ℤ) (first leaf : ℕ) → length m ≡ length b → Stored kind b t (front ++ ((key, value) ∷ back)) → Stored kind m t (front ++ ((key, value) ∷ back)) → link_in value ≡ Chain first
    → tree_rows t ≡ front ++ ((key, value) ∷ back) → 1 ≤ times leaf (leaves_of t) → IsCrowded m leaf → IsCrowded b leaf
crowded-before kind b m t front key back value first leaf size s r link rows there crowd = λ at named child k inside.
    let n = named-rest kind b s.reached t s.free front key back value leaf at s.tree rows (λ j. ap (own at j) link) there named in
    let has : Has r.values.fragments at = (r.values.named at).1 (n.0, omega (arith, n.1, named-split at n.0 front (key, value) back)) in
    let same : rows_of (page_in b leaf) ≡ rows_of (page_in m leaf) = sym (same-rows kind b m s.reached r.reached t s.free r.free leaf s.tree r.tree there) in
    let full : 1 ≤ fragment_count (page_in m at) k = crowd at (named-turned m b leaf at same named) (subst (λ (n : ℕ). IsChild n at) (sym size) child) k inside in
    let once : times_named at k (front ++ ((key, value) ∷ back)) ≡ 1 = r.values.each at k has inside full in
    in-use b at k (front ++ ((key, value) ∷ back)) s.mean (omega (arith, once))

-- where a fragment is since, said of the stream before other pages of the chain changed
pub placed-before : (kind : KeyKind) (b m : List ℕ) (t : Shape) (front : List Row) (key : Key) (back : List Row) (value : ℤ) (first leaf page : ℕ) → length m ≡ length b → Stored kind b t (front ++ ((key, value) ∷ back)) → Stored kind m t (front ++ ((key, value) ∷ back)) → link_in value ≡ Chain first
    → tree_rows t ≡ front ++ ((key, value) ∷ back) → 1 ≤ times leaf (leaves_of t) → IsNamedIn m leaf page ⊎ ((page ≡ first) × IsCrowded m leaf) → IsNamedIn b leaf page ⊎ ((page ≡ first) × IsCrowded b leaf)
placed-before kind b m t front key back value first leaf page size s r link rows there (inl n) = inl (named-turned b m leaf page (same-rows kind b m s.reached r.reached t s.free r.free leaf s.tree r.tree there) n)
placed-before kind b m t front key back value first leaf page size s r link rows there (inr (e, crowd)) = inr (e, crowded-before kind b m t front key back value first leaf size s r link rows there crowd)
