-- A walk over the leaves of a tree, from the one on the way of the lower end on.
use Rattle.std.proofs.Common.{◌≡◌, ◌≢◌, ◌≤◌, ◌+◌, ℕ, List, [], ◌∷◌, ◌++◌, length, Option, Some, Bool, true, false, cond, not, ◌&&◌, ◌||◌, refl, ap, sym, ◌∙◌, subst, arith, append_assoc, append-nil, inl, inr}
use Rattle.std.proofs.lemmas.List.Elements.{filter-append}
use Rattle.std.proofs.lemmas.List.{map-append}
use Rattle.std.specs.List.{AllByRecursion}
use Rattle.bfs_base.specs.declared.kind.KeyKind.{KeyKind}
use Rattle.bfs_node.specs.Page.{Row, rows_of}
use Rattle.bfs_pages.specs.Order.{Key, comes_before}
use Rattle.bfs_pages.specs.Shapes.{Shape, place, tree_rows}
use Rattle.bfs_pages.specs.Trees.{state_of, page_in, IsTree}
use Rattle.bfs_pages.specs.Ways.{KeysAscend}
use Rattle.bfs_pages.specs.Answers.{IsChild, IsLink, IsLeafPage, IsLeafFor}
use Rattle.bfs_pages.proofs.Placed.{held_most}
use Rattle.bfs_range.specs.Answers.{answer_of}
use Rattle.bfs_values.specs.Values.{next_of, EndsAfter}
use Rattle.bfs_range.specs.Leaves.{LeafAt, leaf_list, first_leaf, right_of, leaves_upto}
use Rattle.bfs_values.specs.Reached.{AllMean}
use Rattle.bfs_range.specs.Meant.{pages_of}
use Rattle.bfs_range.specs.Ranges.{is_from, is_upto, rows_between, has_above}
use Rattle.bfs_range.proofs.Between.{none-below, none-past, past-on}
use Rattle.bfs_range.proofs.LeafLists.{flat, flat-append, rows-list, list_before, list_behind, list-under, front-below, list-ascends, leaf-ascends, here-ascends, leaf-there, leaf-place, right-there}

pub between-append : (kind : KeyKind) (low high : Option Key) (xs ys : List Row) → rows_between kind low high (xs ++ ys) ≡ rows_between kind low high xs ++ rows_between kind low high ys
between-append kind low high xs ys = filter-append (λ (r : Row). is_from kind low r.0 && is_upto kind high r.0) xs ys

pub mean-left : (b : List ℕ) (xs ys : List Row) → AllMean b (xs ++ ys) → AllMean b xs
mean-left b [] ys a = tt
mean-left b (x ∷ xs) ys a = (a.0, mean-left b xs ys a.1)

pub mean-right : (b : List ℕ) (xs ys : List Row) → AllMean b (xs ++ ys) → AllMean b ys
mean-right b [] ys a = a
mean-right b (x ∷ xs) ys a = mean-right b xs ys a.1

pub pages-append : (b : List ℕ) (xs ys : List Row) → pages_of b (xs ++ ys) ≡ pages_of b xs + pages_of b ys
pages-append b [] ys = omega arith
pages-append b (x ∷ xs) ys = omega (arith, pages-append b xs ys)

pub answer-append : (b : List ℕ) (xs ys : List Row) → answer_of b (xs ++ ys) ≡ answer_of b xs ++ answer_of b ys
answer-append b xs ys = map-append _ xs ys

all-right : {A : Type 0} (P : A → Type 0) (xs ys : List A) → AllByRecursion P (xs ++ ys) → AllByRecursion P ys
all-right P [] ys a = a
all-right P (x ∷ xs) ys a = all-right P xs ys a.1

-- behind a leaf that has a key above the upper end each row is above it
past-back : (kind : KeyKind) (high : Option Key) (rows ys : List Row) → KeysAscend kind (rows ++ ys) → has_above kind high rows ≡ true → AllByRecursion (λ s. is_upto kind high s.0 ≡ false) ys
past-back kind high [] ys a e = absurd (no e)
  where
    no : false ≡ true → ⊥
    no e = cc
past-back kind high (r ∷ rs) ys a e = by_test (is_upto kind high r.0) refl e (past-back kind high rs ys a.1)
  where
    by_test : (c : Bool) → is_upto kind high r.0 ≡ c → not c || has_above kind high rs ≡ true → (has_above kind high rs ≡ true → AllByRecursion (λ (s : Row). is_upto kind high s.0 ≡ false) ys) → AllByRecursion (λ (s : Row). is_upto kind high s.0 ≡ false) ys
    by_test true i e ih = ih e
    by_test false i e ih = past-on kind high r.0 ys i (all-right (λ (s : Row). comes_before kind r.0 s.0 ≡ true) rs ys a.0)

-- the rows of a tree that has come to a leaf
rows-there : (t : Shape) (front : List LeafAt) (here : LeafAt) (back : List LeafAt) → leaf_list t ≡ front ++ (here ∷ back) → tree_rows t ≡ flat front ++ (here.1 ++ flat back)
rows-there t front here back e = rows-list t ∙ ap flat e ∙ flat-append front (here ∷ back)

between-there : (kind : KeyKind) (low high : Option Key) (t : Shape) (front : List LeafAt) (here : LeafAt) (back : List LeafAt) → leaf_list t ≡ front ++ (here ∷ back)
    → rows_between kind low high (tree_rows t) ≡ rows_between kind low high (flat front) ++ (rows_between kind low high here.1 ++ rows_between kind low high (flat back))
between-there kind low high t front here back e =
    ap (λ z. rows_between kind low high z) (rows-there t front here back e) ∙ between-append kind low high (flat front) (here.1 ++ flat back)
    ∙ ap (λ z. rows_between kind low high (flat front) ++ z) (between-append kind low high here.1 (flat back))

-- the first leaf: no row in front of it is in the range
pub begin : (kind : KeyKind) (low : Key) (high : Option Key) (b reached : List ℕ) (t : Shape) (fs : List ℕ) (at : ℕ) (page : List ℕ) → IsTree kind b reached t fs → IsLeafFor kind b t low at page
    → (front : List LeafAt) × (back : List LeafAt) × (leaf_list t ≡ front ++ ((at, rows_of page) ∷ back)) × (rows_between kind (Some low) high (flat front) ≡ [])
    × (right_of (first_leaf kind (state_of kind b).levels t (Some low)) (leaf_list t) ≡ back)
begin kind low high b reached t fs at page tree l =
    let d : ℕ = (state_of kind b).levels in
    let e : leaf_list t ≡ list_before kind d t low ++ ((at, rows_of page) ∷ list_behind kind d t low) = list-under kind d t low ∙ ap (λ u. list_before kind d t low ++ (leaf_list u ++ list_behind kind d t low)) l.1 in (
      list_before kind d t low,
      list_behind kind d t low,
      e,
      none-below kind low high (flat (list_before kind d t low)) (front-below kind d t low tree.holds.ascends),
      ap (λ x. right_of x (leaf_list t)) (ap place l.1) ∙ right-there kind (state_of kind b) reached t fs (list_before kind d t low) (at, rows_of page) (list_behind kind d t low) tree.holds (λ x. held_most (length b) x) e,
    )

module _ (kind : KeyKind) (low high : Option Key) (b reached : List ℕ) (t : Shape) (fs : List ℕ) (tree : IsTree kind b reached t fs) (front : List LeafAt) (here : LeafAt) (back : List LeafAt) (e : leaf_list t ≡ front ++ (here ∷ back)) where
  ascends : KeysAscend kind (flat (front ++ (here ∷ back)))
  ascends = subst (λ z. KeysAscend kind (flat z)) e (list-ascends kind t tree.holds.ascends)

  pub here-up : KeysAscend kind here.1
  here-up = here-ascends kind front here back ascends

  pub here-mean : AllMean b (rows_between kind low high (tree_rows t)) → AllMean b (rows_between kind low high here.1)
  here-mean a =
      let f = between-there kind low high t front here back e in
      mean-left b (rows_between kind low high here.1) (rows_between kind low high (flat back))
      (mean-right b (rows_between kind low high (flat front)) (rows_between kind low high here.1 ++ rows_between kind low high (flat back)) (subst (λ z. AllMean b z) f a))

  pub here-pages : pages_of b (rows_between kind low high (flat front)) + pages_of b (rows_between kind low high here.1) ≤ pages_of b (rows_between kind low high (tree_rows t))
  here-pages =
      let f : pages_of b (rows_between kind low high (tree_rows t)) ≡ pages_of b (rows_between kind low high (flat front) ++ (rows_between kind low high here.1 ++ rows_between kind low high (flat back))) =
      ap (λ z. pages_of b z) (between-there kind low high t front here back e) in
      omega (
        arith,
        f,
        pages-append b (rows_between kind low high (flat front)) (rows_between kind low high here.1 ++ rows_between kind low high (flat back)),
        pages-append b (rows_between kind low high here.1) (rows_between kind low high (flat back)),
      )

  -- the answer is whole where no row behind the leaf is in the range
  pub whole-past : has_above kind high here.1 ≡ true → rows_between kind low high (flat front) ++ rows_between kind low high here.1 ≡ rows_between kind low high (tree_rows t)
  whole-past h =
      let z = none-past kind low high (flat back) (past-back kind high here.1 (flat back) (leaf-ascends kind front here back ascends) h) in
      sym (between-there kind low high t front here back e ∙ ap (λ w. rows_between kind low high (flat front) ++ (rows_between kind low high here.1 ++ w)) z ∙ ap (λ w. rows_between kind low high (flat front) ++ w) (append-nil (rows_between kind low high here.1)))

  pub whole-end : back ≡ [] → rows_between kind low high (flat front) ++ rows_between kind low high here.1 ≡ rows_between kind low high (tree_rows t)
  whole-end n =
      let z : rows_between kind low high (flat back) ≡ [] = ap (λ w. rows_between kind low high (flat w)) n in
      sym (between-there kind low high t front here back e ∙ ap (λ w. rows_between kind low high (flat front) ++ (rows_between kind low high here.1 ++ w)) z ∙ ap (λ w. rows_between kind low high (flat front) ++ w) (append-nil (rows_between kind low high here.1)))

  pub front-next : rows_between kind low high (flat (front ++ (here ∷ []))) ≡ rows_between kind low high (flat front) ++ rows_between kind low high here.1
  front-next = ap (λ z. rows_between kind low high z) (flat-append front (here ∷ []) ∙ ap (λ z. flat front ++ z) (append-nil here.1)) ∙ between-append kind low high (flat front) here.1

-- the right link of the last leaf is none
pub last-there : (kind : KeyKind) (b reached : List ℕ) (t : Shape) (fs : List ℕ) → IsTree kind b reached t fs → (front : List LeafAt) (here : LeafAt) (back : List LeafAt) → leaf_list t ≡ front ++ (here ∷ back) → next_of b here.0 ≡ 0 → back ≡ []
last-there kind b reached t fs tree front here [] e z = refl
last-there kind b reached t fs tree front here (x ∷ xs) e z =
    let l = (leaf-there kind b reached t fs front here (x ∷ xs) tree.holds e).2 in
    let p = leaf-place kind b reached t fs (front ++ (here ∷ [])) x xs tree.holds (e ∙ sym (append_assoc front (here ∷ []) (x ∷ xs))) in
    absurd (omega (arith, p.0, l, z))

-- else it is the next leaf
pub next-there : (kind : KeyKind) (b reached : List ℕ) (t : Shape) (fs : List ℕ) → IsTree kind b reached t fs → (front : List LeafAt) (here : LeafAt) (back : List LeafAt) → leaf_list t ≡ front ++ (here ∷ back) → next_of b here.0 ≢ 0
    → (rest : List LeafAt) × (back ≡ (next_of b here.0, rows_of (page_in b (next_of b here.0))) ∷ rest) × (leaf_list t ≡ (front ++ (here ∷ [])) ++ ((next_of b here.0, rows_of (page_in b (next_of b here.0))) ∷ rest))
    × IsLeafPage kind (length b) (page_in b (next_of b here.0))
next-there kind b reached t fs tree front here [] e n = absurd (n (leaf-there kind b reached t fs front here [] tree.holds e).2)
next-there kind b reached t fs tree front here (x ∷ xs) e n =
    let l : next_of b here.0 ≡ x.0 = (leaf-there kind b reached t fs front here (x ∷ xs) tree.holds e).2 in
    let f : leaf_list t ≡ (front ++ (here ∷ [])) ++ (x ∷ xs) = e ∙ sym (append_assoc front (here ∷ []) (x ∷ xs)) in
    let p = leaf-there kind b reached t fs (front ++ (here ∷ [])) x xs tree.holds f in
    let same : (next_of b here.0, rows_of (page_in b (next_of b here.0))) ≡ x = ap (λ z. (z, rows_of (page_in b z))) l ∙ ap (λ z. (x.0, z)) p.0 in (
      xs,
      ap (λ z. z ∷ xs) (sym same),
      f ∙ ap (λ z. (front ++ (here ∷ [])) ++ (z ∷ xs)) (sym same),
      subst (λ z. IsLeafPage kind (length b) (page_in b z)) (sym l) p.1,
    )

-- the right links of a tree's leaves come to an end
pub tree-ends : (kind : KeyKind) (b reached : List ℕ) (t : Shape) (fs : List ℕ) → IsTree kind b reached t fs → (front : List LeafAt) (here : LeafAt) (back : List LeafAt) → leaf_list t ≡ front ++ (here ∷ back) → EndsAfter b (length back) here.0
tree-ends kind b reached t fs tree front here [] e = (leaf-there kind b reached t fs front here [] tree.holds e).2
tree-ends kind b reached t fs tree front here (x ∷ xs) e =
    let l : next_of b here.0 ≡ x.0 = (leaf-there kind b reached t fs front here (x ∷ xs) tree.holds e).2 in
    let f : leaf_list t ≡ (front ++ (here ∷ [])) ++ (x ∷ xs) = e ∙ sym (append_assoc front (here ∷ []) (x ∷ xs)) in
    let p = leaf-place kind b reached t fs (front ++ (here ∷ [])) x xs tree.holds f in
    (subst (λ z. IsChild (length b) z) (sym l) p, subst (λ z. EndsAfter b (length xs) z) (sym l) (tree-ends kind b reached t fs tree (front ++ (here ∷ [])) x xs f))

-- how many leaves are to be read behind one
abbrev pub leaves_left : KeyKind → Option Key → List Row → List LeafAt → ℕ
leaves_left kind high rows back = cond (has_above kind high rows) 0 (leaves_upto kind high back)

pub left-most : (kind : KeyKind) (high : Option Key) (rows : List Row) (back : List LeafAt) → leaves_left kind high rows back ≤ leaves_upto kind high back
left-most kind high rows back = by_test (has_above kind high rows)
  where
    by_test : (c : Bool) → cond c 0 (leaves_upto kind high back) ≤ leaves_upto kind high back
    by_test true = omega arith
    by_test false = omega arith

-- where a leaf has no key above the upper end, the next one is to be read, and those behind it
pub left-next : (kind : KeyKind) (high : Option Key) (rows : List Row) (back : List LeafAt) (next : LeafAt) (rest : List LeafAt) → has_above kind high rows ≡ false → back ≡ next ∷ rest
    → leaves_left kind high rows back ≡ 1 + leaves_left kind high next.1 rest
left-next kind high rows back next rest a e = ap (λ c. cond c 0 (leaves_upto kind high back)) a ∙ ap (λ z. leaves_upto kind high z) e

-- a link that isn't none leads to a page
pub the_child : (size x : ℕ) → IsLink size x → x ≢ 0 → IsChild size x
the_child size x (inl z) n = absurd (n z)
the_child size x (inr p) n = p
