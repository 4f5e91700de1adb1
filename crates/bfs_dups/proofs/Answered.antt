-- The answers of calls that add or take a number.
use Rattle.std.proofs.Common.{◌≡◌, ◌≢◌, ◌⊎◌, ◌≤◌, ◌<◌, ◌+◌, ◌%◌, ℕ, ℤ, List, [], ◌∷◌, ◌++◌, zero, suc, length, Option, Some, None, IfSome, MatchOption, Bool, true, false, cond, ◌==◌, nat_le, inl, inr, refl, ap, sym, ◌∙◌, subst, arith}
use Rattle.bfs_base.specs.Lists.{times}
use Rattle.bfs_base.specs.declared.kind.KeyKind.{KeyKind}
use Rattle.bfs_node.specs.Page.{Row, rows_of, row_in, value_of}
use Rattle.bfs_pages.specs.Order.{Key}
use Rattle.bfs_pages.specs.Shapes.{Shape, Shapes, leaf_shape, node_shape, last_shape, more_shapes, Body, leaf_body, tree_rows, trees_rows, leaves_of, leaves_all, Stands, StandAll}
use Rattle.bfs_pages.specs.Trees.{page_in, state_of, IsTree}
use Rattle.bfs_values.specs.declared.link.Link.{Link}
use Rattle.bfs_values.specs.declared.link.Link.TheVariants.{Fragment, Chain}
use Rattle.bfs_values.specs.Links.{link_in}
use Rattle.bfs_values.specs.Values.{IsFragment, chain_of, numbers_of_pages, AreDuplicates, in_order, HasNumbers, numbers_in, HasValues, values_in}
use Rattle.bfs_values.specs.Chained.{Chained}
use Rattle.bfs_values.specs.Stored.{Stored, SameNumbers, IsRevalued}
use Rattle.bfs_dups.specs.Written.{IsVacated}
use Rattle.bfs_pages.proofs.OfKind.{leaf-fields}
use Rattle.bfs_pages.proofs.Splice.{times-append}
use Rattle.bfs_values.specs.Reached.{times_named}
use Rattle.bfs_values.specs.Kinds.{IsValueOf, IsNamed, IsWanted}
use Rattle.bfs_node.specs.declared.fault.PageKind.TheVariants.{Fragment as FragmentKind, Leaf as LeafKind}
use Rattle.bfs_values.specs.Named.{IsNamedIn}
use Rattle.bfs_values.proofs.Chaining.{chain-there}
use Rattle.bfs_values.proofs.Opened.{own, Open, opened, closed, named-split}
use Rattle.bfs_dups.proofs.Ordered.{order-times}
use Rattle.bfs_dups.proofs.Slotted.{decide, own-self}

pub match-none : {A : Type 0} (P : Type 0) (Q : A → Type 0) (o : Option A) → MatchOption o P Q → o ≡ None → P
match-none P Q o m e = subst (λ z. MatchOption z P Q) e m

pub match-some : {A : Type 0} (P : Type 0) (Q : A → Type 0) (o : Option A) (x : A) → MatchOption o P Q → o ≡ Some x → Q x
match-some P Q o x m e = subst (λ z. MatchOption z P Q) e m

pub revalued : (kind : KeyKind) (b c : List ℕ) (t : Shape) (front : List Row) (key : Key) (back : List Row) (new : ℤ) (l : Link) (ns ws : List ℕ) → link_in new ≡ l → Open kind c t (front ++ back) l → SameNumbers b c (front ++ back) → numbers_in c l ≡ ns → ns ≡ ws
    → IsRevalued kind b c t front key back new ws
revalued kind b c t front key back new l ns ws e o same are is = record {
  stored = closed kind c t front (key, new) back l e o;
  means = ap (numbers_in c) e ∙ are ∙ is;
  others = same;
}

pub linked-open : (kind : KeyKind) (b : List ℕ) (t : Shape) (front : List Row) (key : Key) (back : List Row) (value : ℤ) (l : Link) → Stored kind b t (front ++ ((key, value) ∷ back)) → link_in value ≡ l → Open kind b t (front ++ back) l
linked-open kind b t front key back value l s e = subst (λ l. Open kind b t (front ++ back) l) e (opened kind b t front (key, value) back s)

-- the pages of a chain, and its numbers
pub record ChainFacts (b : List ℕ) (first : ℕ) : Type 0 where
  pub pages : List ℕ
  pub chain : Chained b first pages
  pub is : chain_of b first ≡ pages
  pub good : AreDuplicates b pages
  pub numbers : numbers_in b (Chain first) ≡ in_order (numbers_of_pages b pages)

pub chain-facts : (b : List ℕ) (first : ℕ) → length b % 1024 ≡ 0 → HasNumbers b (Chain first) → ChainFacts b first
chain-facts b first w h = let d = chain-there b h.1.0 first w h.0 h.1.1 in record {
  pages = first ∷ d.0;
  chain = d.1;
  is = d.2;
  good = subst (λ z. AreDuplicates b z) d.2 h.2;
  numbers = ap (λ z. in_order (numbers_of_pages b z)) d.2;
}

pub chain-times : (b : List ℕ) (first n : ℕ) (value : ℤ) (f : ChainFacts b first) → link_in value ≡ Chain first → times n (values_in b value) ≡ times n (numbers_of_pages b f.pages)
chain-times b first n value f e = ap (λ l. times n (numbers_in b l)) e ∙ ap (times n) f.numbers ∙ order-times n (numbers_of_pages b f.pages)

pub linked-numbers : (b : List ℕ) (value : ℤ) (l : Link) → link_in value ≡ l → HasValues b value → HasNumbers b l
linked-numbers b value l e h = subst (λ l. HasNumbers b l) e h

vacated-size : (b m : List ℕ) (p i : ℕ) → IsVacated b m p i → length m ≡ length b
vacated-size b m p i (inl f) = f.set.size
vacated-size b m p i (inr f) = f.given.size

pub vacated-whole : (b m : List ℕ) (p i : ℕ) → IsVacated b m p i → length b % 1024 ≡ 0 → length m % 1024 ≡ 0
vacated-whole b m p i v w = ap (λ n. n % 1024) (vacated-size b m p i v) ∙ w

named-append : (p j : ℕ) (xs ys : List Row) → times_named p j (xs ++ ys) ≡ times_named p j xs + times_named p j ys
named-append p j [] ys = omega arith
named-append p j (x ∷ xs) ys = omega (arith, named-append p j xs ys)

-- the rows of a leaf are among the tree's
mutual
  leaf-rows : (bodies : ℕ → Option Body) (leaf : ℕ) (t : Shape) → Stands bodies t → 1 ≤ times leaf (leaves_of t) → (rows : List Row) × (bodies leaf ≡ Some (leaf_body rows)) × ((p j : ℕ) → times_named p j rows ≤ times_named p j (tree_rows t))
  leaf-rows bodies leaf (leaf_shape at rows) s i = by_place (decide at leaf)
    where
      by_place : (at ≡ leaf) ⊎ (at ≢ leaf) → (rs : List Row) × (bodies leaf ≡ Some (leaf_body rs)) × ((p j : ℕ) → times_named p j rs ≤ times_named p j rows)
      by_place (inl e) = (rows, ap bodies (sym e) ∙ s, λ p j. omega arith)
      by_place (inr n) = absurd (off at leaf n i)
        where
          off : (at leaf : ℕ) → at ≢ leaf → 1 ≤ times leaf (at ∷ []) → ⊥
          off at leaf n i = by_test (at == leaf) refl
            where
              eq_is : (a d : ℕ) → (a == d) ≡ true → a ≡ d
              eq_is a d e = grind (arith, e)

              by_test : (c : Bool) → (at == leaf) ≡ c → ⊥
              by_test true e = n (eq_is at leaf e)
              by_test false e = let z : times leaf (at ∷ []) ≡ 0 = ap (λ c. cond c 1 0 + 0) e in omega (arith, i, z)
  leaf-rows bodies leaf (node_shape at below) s i = leaf-rows-all bodies leaf below s.1 i

  leaf-rows-all : (bodies : ℕ → Option Body) (leaf : ℕ) (ts : Shapes) → StandAll bodies ts → 1 ≤ times leaf (leaves_all ts) → (rows : List Row) × (bodies leaf ≡ Some (leaf_body rows)) × ((p j : ℕ) → times_named p j rows ≤ times_named p j (trees_rows ts))
  leaf-rows-all bodies leaf (last_shape t) s i = leaf-rows bodies leaf t s i
  leaf-rows-all bodies leaf (more_shapes t key ts) s i = by_test (nat_le 1 (times leaf (leaves_of t))) refl (λ h. leaf-rows bodies leaf t s.0 h) (λ h. leaf-rows-all bodies leaf ts s.1 h)
    where
      is_le : (a : ℕ) → nat_le 1 a ≡ true → 1 ≤ a
      is_le a e = grind (arith, e)

      is_no : (a : ℕ) → nat_le 1 a ≡ false → a ≡ 0
      is_no a e = grind (arith, e)

      by_test : (c : Bool) → nat_le 1 (times leaf (leaves_of t)) ≡ c
          → (1 ≤ times leaf (leaves_of t) → (rows : List Row) × (bodies leaf ≡ Some (leaf_body rows)) × ((p j : ℕ) → times_named p j rows ≤ times_named p j (tree_rows t)))
          → (1 ≤ times leaf (leaves_all ts) → (rows : List Row) × (bodies leaf ≡ Some (leaf_body rows)) × ((p j : ℕ) → times_named p j rows ≤ times_named p j (trees_rows ts)))
          → (rows : List Row) × (bodies leaf ≡ Some (leaf_body rows)) × ((p j : ℕ) → times_named p j rows ≤ times_named p j (tree_rows t ++ trees_rows ts))
      by_test true e f g = let r = f (is_le (times leaf (leaves_of t)) e) in (r.0, r.1, λ p j. omega (arith, r.2 p j, named-append p j (tree_rows t) (trees_rows ts)))
      by_test false e f g = let r = g (omega (arith, i, is_no (times leaf (leaves_of t)) e, times-append leaf (leaves_of t) (leaves_all ts))) in (r.0, r.1, λ p j. omega (arith, r.2 p j, named-append p j (tree_rows t) (trees_rows ts)))

row-named : (p j : ℕ) (rows : List Row) (i : ℕ) → i < length rows → link_in (value_of (row_in rows i)) ≡ Fragment p j → 0 < times_named p j rows
row-named p j [] i l e = absurd (omega (arith, l))
row-named p j (r ∷ rs) zero l e = let one : own p j (link_in r.1) ≡ 1 = ap (own p j) e ∙ own-self p j in omega (arith, one)
row-named p j (r ∷ rs) (suc i) l e = omega (arith, row-named p j rs i (omega (arith, l)) e)

-- a page that a leaf names is one of the pages of fragments that other rows name, where this row names none of its fragments
pub named-rest : (kind : KeyKind) (b reached : List ℕ) (t : Shape) (fs : List ℕ) (front : List Row) (key : Key) (back : List Row) (value : ℤ) (leaf page : ℕ) → IsTree kind b reached t fs → tree_rows t ≡ front ++ ((key, value) ∷ back) → ((j : ℕ) → own page j (link_in value) ≡ 0)
    → 1 ≤ times leaf (leaves_of t) → IsNamedIn b leaf page → (j : ℕ) × (0 < times_named page j (front ++ back))
named-rest kind b reached t fs front key back value leaf page tree rows none there n =
    let r = leaf-rows (state_of kind b).bodies leaf t tree.holds.built.stands there in
    let f = leaf-fields kind (page_in b leaf) r.0 r.1 in
    let j : ℕ = n.1 in
    let m : 0 < times_named page j (rows_of (page_in b leaf)) = row-named page j (rows_of (page_in b leaf)) n.0 n.2 n.3 in
    let a : times_named page j (rows_of (page_in b leaf)) ≡ times_named page j r.0 = ap (times_named page j) f.1 in
    let c : times_named page j (tree_rows t) ≡ times_named page j (front ++ ((key, value) ∷ back)) = ap (times_named page j) rows in
    (j, omega (arith, m, a, c, none j, r.2 page j, named-split page j front (key, value) back))

-- a fragment that a value names isn't in use
pub fragment-cut : (kind : KeyKind) (told : Option (List ℕ)) (leaf : ℕ) (value : ℤ) (p i : ℕ) → IfSome told (λ b. IsValueOf kind b leaf value) → link_in value ≡ Fragment p i → ((b : List ℕ) → told ≡ Some b → IsFragment (page_in b p) i → ⊥)
    → IfSome told (λ b. IsWanted kind b p FragmentKind → ⊥)
fragment-cut kind None leaf value p i v e n = tt
fragment-cut kind (Some b) leaf value p i v e n = λ w. n b refl (w leaf value i v e)

pub pair-new : (number old : ℕ) → number ≢ old → times number (old ∷ []) ≡ 0
pair-new number old n = by_test (old == number) refl
  where
    eq_is : (a d : ℕ) → (a == d) ≡ true → a ≡ d
    eq_is a d e = grind (arith, e)

    by_test : (c : Bool) → (old == number) ≡ c → times number (old ∷ []) ≡ 0
    by_test true e = absurd (n (sym (eq_is old number e)))
    by_test false e = ap (λ c. cond c 1 0 + 0) e

-- a value of a leaf leads to no page
pub leaf-cut : (kind : KeyKind) (told : Option (List ℕ)) (leaf : ℕ) (value : ℤ) (l : Link) → IfSome told (λ b. IsValueOf kind b leaf value) → link_in value ≡ l → ((b : List ℕ) → told ≡ Some b → IsNamed (length b) l → ⊥) → IfSome told (λ b. IsWanted kind b leaf LeafKind → ⊥)
leaf-cut kind None leaf value l v e n = tt
leaf-cut kind (Some b) leaf value l v e n = λ w. n b refl (subst (IsNamed (length b)) e (w.2 value v))
