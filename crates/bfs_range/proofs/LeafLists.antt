-- The leaves of a tree from left to right, and the way of a key among them.
use Rattle.std.proofs.Common.{◌≡◌, ◌≤◌, ℕ, zero, suc, List, [], ◌∷◌, ◌++◌, length, Option, Some, Bool, true, false, cond, ◌==◌, refl, ap, ap₂, sym, ◌∙◌, subst, arith, append_assoc, append-nil}
use Rattle.std.specs.List.{AllByRecursion}
use Rattle.bfs_base.specs.Lists.{times}
use Rattle.bfs_base.specs.declared.kind.KeyKind.{KeyKind}
use Rattle.bfs_node.specs.Page.{Row, rows_of}
use Rattle.bfs_pages.specs.Order.{Key, comes_before, at_most}
use Rattle.bfs_pages.specs.Shapes.{Body, leaf_body, Shape, Shapes, leaf_shape, node_shape, last_shape, more_shapes, tree_rows, trees_rows, leaves_of, leaves_all, Entry, a_row, a_bound, entries_of, AscendAll, Stands, StandAll}
use Rattle.bfs_pages.specs.Trees.{State, Holds, held, state_of, page_in, head_or, Linked}
use Rattle.bfs_pages.specs.Ways.{child_for, before, under, before_way, rows_in, KeysAscend}
use Rattle.bfs_pages.specs.Answers.{IsChild, IsLeafPage}
use Rattle.bfs_pages.proofs.KeyOrder.{IsBelow}
use Rattle.bfs_pages.proofs.Laws.{rows-append, rows-shape}
use Rattle.bfs_pages.proofs.Leaves.{times-leaves, linked-at}
use Rattle.bfs_pages.proofs.OfKind.{met-child, leaf-fields, leaf-any}
use Rattle.bfs_pages.proofs.Splice.{times-append, self}
use Rattle.bfs_pages.proofs.Way.{before-way-below}
use Rattle.bfs_values.proofs.RowLists.{entries-ascend}
use Rattle.bfs_range.specs.Leaves.{LeafAt, leaf_list, leaf_lists, right_of}

-- the rows of leaves, and their places
abbrev pub flat : List LeafAt → List Row
flat [] = []
flat (l ∷ ls) = l.1 ++ flat ls

abbrev pub places : List LeafAt → List ℕ
places [] = []
places (l ∷ ls) = l.0 ∷ places ls

pub flat-append : (xs ys : List LeafAt) → flat (xs ++ ys) ≡ flat xs ++ flat ys
flat-append [] ys = refl
flat-append (x ∷ xs) ys = ap (λ l. x.1 ++ l) (flat-append xs ys) ∙ sym (append_assoc x.1 (flat xs) (flat ys))

pub places-append : (xs ys : List LeafAt) → places (xs ++ ys) ≡ places xs ++ places ys
places-append [] ys = refl
places-append (x ∷ xs) ys = ap (λ l. x.0 ∷ l) (places-append xs ys)

pub places-length : (xs : List LeafAt) → length (places xs) ≡ length xs
places-length [] = refl
places-length (x ∷ xs) = ap suc (places-length xs)

mutual
  pub rows-list : (t : Shape) → tree_rows t ≡ flat (leaf_list t)
  rows-list (leaf_shape at rows) = sym (append-nil rows)
  rows-list (node_shape at below) = rows-lists below

  pub rows-lists : (ts : Shapes) → trees_rows ts ≡ flat (leaf_lists ts)
  rows-lists (last_shape t) = rows-list t
  rows-lists (more_shapes t key ts) = ap₂ (λ a b. a ++ b) (rows-list t) (rows-lists ts) ∙ sym (flat-append (leaf_list t) (leaf_lists ts))

mutual
  pub places-list : (t : Shape) → leaves_of t ≡ places (leaf_list t)
  places-list (leaf_shape at rows) = refl
  places-list (node_shape at below) = places-lists below

  pub places-lists : (ts : Shapes) → leaves_all ts ≡ places (leaf_lists ts)
  places-lists (last_shape t) = places-list t
  places-lists (more_shapes t key ts) = ap₂ (λ a b. a ++ b) (places-list t) (places-lists ts) ∙ sym (places-append (leaf_list t) (leaf_lists ts))

-- the leaves before and behind the child that a key leads to, and its way
abbrev lists_before : KeyKind → Shapes → Key → List LeafAt
lists_before kind (last_shape t) k = []
lists_before kind (more_shapes t key ts) k = cond (at_most kind k key) [] (leaf_list t ++ lists_before kind ts k)

abbrev lists_behind : KeyKind → Shapes → Key → List LeafAt
lists_behind kind (last_shape t) k = []
lists_behind kind (more_shapes t key ts) k = cond (at_most kind k key) (leaf_lists ts) (lists_behind kind ts k)

abbrev pub list_before : KeyKind → ℕ → Shape → Key → List LeafAt
list_before kind zero t k = []
list_before kind (suc d) (leaf_shape at rows) k = []
list_before kind (suc d) (node_shape at below) k = lists_before kind below k ++ list_before kind d (child_for kind below k) k

abbrev pub list_behind : KeyKind → ℕ → Shape → Key → List LeafAt
list_behind kind zero t k = []
list_behind kind (suc d) (leaf_shape at rows) k = []
list_behind kind (suc d) (node_shape at below) k = list_behind kind d (child_for kind below k) k ++ lists_behind kind below k

nest : {A : Type 0} (a b c d e : List A) → a ++ ((b ++ (c ++ d)) ++ e) ≡ (a ++ b) ++ (c ++ (d ++ e))
nest a b c d e = ap (λ l. a ++ l) (append_assoc b (c ++ d) e ∙ ap (λ l. b ++ l) (append_assoc c d e)) ∙ sym (append_assoc a b (c ++ (d ++ e)))

lists-child : (kind : KeyKind) → (ts : Shapes) (k : Key) → leaf_lists ts ≡ lists_before kind ts k ++ (leaf_list (child_for kind ts k) ++ lists_behind kind ts k)
lists-child kind (last_shape t) k = sym (append-nil (leaf_list t))
lists-child kind (more_shapes t key ts) k = by_test (at_most kind k key) (lists-child kind ts k)
  where
    by_test : (c : Bool) → leaf_lists ts ≡ lists_before kind ts k ++ (leaf_list (child_for kind ts k) ++ lists_behind kind ts k)
        → leaf_list t ++ leaf_lists ts ≡ cond c [] (leaf_list t ++ lists_before kind ts k) ++ (leaf_list (cond c t (child_for kind ts k)) ++ cond c (leaf_lists ts) (lists_behind kind ts k))
    by_test true ih = refl
    by_test false ih = ap (λ l. leaf_list t ++ l) ih ∙ sym (append_assoc (leaf_list t) (lists_before kind ts k) (leaf_list (child_for kind ts k) ++ lists_behind kind ts k))

pub list-under : (kind : KeyKind) → (d : ℕ) (t : Shape) (k : Key) → leaf_list t ≡ list_before kind d t k ++ (leaf_list (under kind d t k) ++ list_behind kind d t k)
list-under kind zero t k = sym (append-nil (leaf_list t))
list-under kind (suc d) (leaf_shape at rows) k = refl
list-under kind (suc d) (node_shape at below) k =
    lists-child kind below k ∙ ap (λ l. lists_before kind below k ++ (l ++ lists_behind kind below k)) (list-under kind d (child_for kind below k) k)
    ∙ nest (lists_before kind below k) (list_before kind d (child_for kind below k) k) (leaf_list (under kind d (child_for kind below k) k)) (list_behind kind d (child_for kind below k) k) (lists_behind kind below k)

-- their rows are those met before the way
flat-before : (kind : KeyKind) → (ts : Shapes) (k : Key) → flat (lists_before kind ts k) ≡ rows_in (before kind ts k)
flat-before kind (last_shape t) k = refl
flat-before kind (more_shapes t key ts) k = by_test (at_most kind k key) (flat-before kind ts k)
  where
    by_test : (c : Bool) → flat (lists_before kind ts k) ≡ rows_in (before kind ts k) → flat (cond c [] (leaf_list t ++ lists_before kind ts k)) ≡ rows_in (cond c [] (entries_of t ++ (a_bound key ∷ before kind ts k)))
    by_test true ih = refl
    by_test false ih =
        flat-append (leaf_list t) (lists_before kind ts k) ∙ ap₂ (λ a b. a ++ b) (sym (rows-list t) ∙ rows-shape t) ih ∙ sym (rows-append (entries_of t) (a_bound key ∷ before kind ts k))

flat-way : (kind : KeyKind) → (d : ℕ) (t : Shape) (k : Key) → flat (list_before kind d t k) ≡ rows_in (before_way kind d t k)
flat-way kind zero t k = refl
flat-way kind (suc d) (leaf_shape at rows) k = refl
flat-way kind (suc d) (node_shape at below) k =
    flat-append (lists_before kind below k) (list_before kind d (child_for kind below k) k) ∙ ap₂ (λ a b. a ++ b) (flat-before kind below k) (flat-way kind d (child_for kind below k) k)
    ∙ sym (rows-append (before kind below k) (before_way kind d (child_for kind below k) k))

rows-below : (kind : KeyKind) (k : Key) (es : List Entry) → AllByRecursion (λ e. IsBelow kind k e) es → AllByRecursion (λ s. comes_before kind s.0 k ≡ true) (rows_in es)
rows-below kind k [] a = tt
rows-below kind k (a_row l v ∷ es) a = (a.0, rows-below kind k es a.1)
rows-below kind k (a_bound l ∷ es) a = rows-below kind k es a.1

-- the rows in front of the way are below the key
pub front-below : (kind : KeyKind) → (d : ℕ) (t : Shape) (k : Key) → AscendAll kind (entries_of t) → AllByRecursion (λ s. comes_before kind s.0 k ≡ true) (flat (list_before kind d t k))
front-below kind d t k a = subst (λ l. AllByRecursion (λ s. comes_before kind s.0 k ≡ true) l) (sym (flat-way kind d t k)) (rows-below kind k (before_way kind d t k) (before-way-below kind d t k a))

-- all rows ascend
pub list-ascends : (kind : KeyKind) (t : Shape) → AscendAll kind (entries_of t) → KeysAscend kind (flat (leaf_list t))
list-ascends kind t a = subst (λ l. KeysAscend kind l) (sym (rows-shape t) ∙ rows-list t) (entries-ascend kind (entries_of t) a)

-- each leaf stands
all-append : {A : Type 0} (P : A → Type 0) (xs ys : List A) → AllByRecursion P xs → AllByRecursion P ys → AllByRecursion P (xs ++ ys)
all-append P [] ys a b = b
all-append P (x ∷ xs) ys a b = (a.0, all-append P xs ys a.1 b)

mutual
  pub list-stands : (bodies : ℕ → Option Body) (t : Shape) → Stands bodies t → AllByRecursion (λ l. bodies l.0 ≡ Some (leaf_body l.1)) (leaf_list t)
  list-stands bodies (leaf_shape at rows) s = (s, tt)
  list-stands bodies (node_shape at below) s = lists-stand bodies below s.1

  pub lists-stand : (bodies : ℕ → Option Body) (ts : Shapes) → StandAll bodies ts → AllByRecursion (λ l. bodies l.0 ≡ Some (leaf_body l.1)) (leaf_lists ts)
  lists-stand bodies (last_shape t) s = list-stands bodies t s
  lists-stand bodies (more_shapes t key ts) s = all-append (λ l. bodies l.0 ≡ Some (leaf_body l.1)) (leaf_list t) (leaf_lists ts) (list-stands bodies t s.0) (lists-stand bodies ts s.1)

all-amid : {A : Type 0} (P : A → Type 0) (xs : List A) (y : A) (ys : List A) → AllByRecursion P (xs ++ (y ∷ ys)) → P y
all-amid P [] y ys a = a.0
all-amid P (x ∷ xs) y ys a = all-amid P xs y ys a.1

-- keys that ascend do so in each part
ascend-right : (kind : KeyKind) (xs ys : List Row) → KeysAscend kind (xs ++ ys) → KeysAscend kind ys
ascend-right kind [] ys a = a
ascend-right kind (x ∷ xs) ys a = ascend-right kind xs ys a.1

all-left : {A : Type 0} (P : A → Type 0) (xs ys : List A) → AllByRecursion P (xs ++ ys) → AllByRecursion P xs
all-left P [] ys a = tt
all-left P (x ∷ xs) ys a = (a.0, all-left P xs ys a.1)

ascend-left : (kind : KeyKind) (xs ys : List Row) → KeysAscend kind (xs ++ ys) → KeysAscend kind xs
ascend-left kind [] ys a = tt
ascend-left kind (x ∷ xs) ys a = (all-left (λ s. comes_before kind x.0 s.0 ≡ true) xs ys a.0, ascend-left kind xs ys a.1)

pub leaf-ascends : (kind : KeyKind) (front : List LeafAt) (here : LeafAt) (back : List LeafAt) → KeysAscend kind (flat (front ++ (here ∷ back))) → KeysAscend kind (here.1 ++ flat back)
leaf-ascends kind front here back a = ascend-right kind (flat front) (here.1 ++ flat back) (subst (λ l. KeysAscend kind l) (flat-append front (here ∷ back)) a)

pub here-ascends : (kind : KeyKind) (front : List LeafAt) (here : LeafAt) (back : List LeafAt) → KeysAscend kind (flat (front ++ (here ∷ back))) → KeysAscend kind here.1
here-ascends kind front here back a = ascend-left kind here.1 (flat back) (leaf-ascends kind front here back a)

-- of a leaf of a tree: its rows are those of its page, its page is a leaf, and its right link leads to the next one
pub leaf-there : (kind : KeyKind) (b reached : List ℕ) (t : Shape) (fs : List ℕ) (front : List LeafAt) (here : LeafAt) (back : List LeafAt) → Holds kind (state_of kind b) reached t fs → leaf_list t ≡ front ++ (here ∷ back)
    → (rows_of (page_in b here.0) ≡ here.1) × IsLeafPage kind (length b) (page_in b here.0) × ((state_of kind b).links here.0).1 ≡ head_or 0 (places back)
leaf-there kind b reached t fs front here back h e =
    let s : AllByRecursion (λ (l : LeafAt). (state_of kind b).bodies l.0 ≡ Some (leaf_body l.1)) (front ++ (here ∷ back)) =
    subst (λ z. AllByRecursion (λ l. (state_of kind b).bodies l.0 ≡ Some (leaf_body l.1)) z) e (list-stands (state_of kind b).bodies t h.built.stands) in
    let f = leaf-fields kind (page_in b here.0) here.1 (all-amid (λ l. (state_of kind b).bodies l.0 ≡ Some (leaf_body l.1)) front here back s) in
    let p : leaves_of t ≡ places front ++ (here.0 ∷ places back) = places-list t ∙ ap places e ∙ places-append front (here ∷ back) in
    let m : 1 ≤ times here.0 (leaves_of t) = subst (λ z. 1 ≤ times here.0 z) (sym p) (omega (arith, times-append here.0 (places front) (here.0 ∷ places back), self here.0 (places back))) in
    (f.1, leaf-any kind b reached t fs here.0 h m, linked-at (state_of kind b).links 0 (places front) here.0 (places back) 0 (subst (λ z. Linked (state_of kind b).links 0 z 0) p h.linked))

pub leaf-place : (kind : KeyKind) (b reached : List ℕ) (t : Shape) (fs : List ℕ) (front : List LeafAt) (here : LeafAt) (back : List LeafAt) → Holds kind (state_of kind b) reached t fs → leaf_list t ≡ front ++ (here ∷ back) → IsChild (length b) here.0
leaf-place kind b reached t fs front here back h e =
    let p : leaves_of t ≡ places front ++ (here.0 ∷ places back) = places-list t ∙ ap places e ∙ places-append front (here ∷ back) in
    let m : 1 ≤ times here.0 (leaves_of t) = subst (λ z. 1 ≤ times here.0 z) (sym p) (omega (arith, times-append here.0 (places front) (here.0 ∷ places back), self here.0 (places back))) in
    met-child (state_of kind b) reached t fs here.0 h.built (omega (arith, m, times-leaves here.0 t))

-- the leaves behind one that is met once
right-from : (front : List LeafAt) (here : LeafAt) (back : List LeafAt) → times here.0 (places front) ≡ 0 → right_of here.0 (front ++ (here ∷ back)) ≡ back
right-from [] here back z = ap (λ c. cond c back (right_of here.0 back)) (same here.0)
  where
    same : (a : ℕ) → (a == a) ≡ true
    same a = grind arith
right-from (x ∷ xs) here back z = ap (λ c. cond c (xs ++ (here ∷ back)) (right_of here.0 (xs ++ (here ∷ back)))) (off x.0 here.0 (places xs) z) ∙ right-from xs here back (later x.0 here.0 (places xs) z)
  where
    off : (a b : ℕ) (ys : List ℕ) → times b (a ∷ ys) ≡ 0 → (a == b) ≡ false
    off a b ys z = grind (arith, z)

    later : (a b : ℕ) (ys : List ℕ) → times b (a ∷ ys) ≡ 0 → times b ys ≡ 0
    later a b ys z = omega (arith, z)

pub right-there : (kind : KeyKind) (st : State) (reached : List ℕ) (t : Shape) (fs : List ℕ) (front : List LeafAt) (here : LeafAt) (back : List LeafAt) → Holds kind st reached t fs → ((x : ℕ) → held st.size x ≤ 1)
    → leaf_list t ≡ front ++ (here ∷ back) → right_of here.0 (leaf_list t) ≡ back
right-there kind st reached t fs front here back h most e =
    let p : leaves_of t ≡ places front ++ (here.0 ∷ places back) = places-list t ∙ ap places e ∙ places-append front (here ∷ back) in
    let n : times here.0 (leaves_of t) ≤ 1 = omega (arith, times-leaves here.0 t, h.built.once here.0, most here.0) in
    let m : times here.0 (places front ++ (here.0 ∷ places back)) ≤ 1 = subst (λ z. times here.0 z ≤ 1) p n in
    ap (λ z. right_of here.0 z) e ∙ right-from front here back (omega (arith, m, times-append here.0 (places front) (here.0 ∷ places back), self here.0 (places back)))
