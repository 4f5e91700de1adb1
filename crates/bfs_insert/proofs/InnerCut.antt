-- An interior page is split in the bytes of a stream: what the tree's pages say since.
use Rattle.std.proofs.Common.{◌≡◌, ◌≢◌, ◌≤◌, ◌<◌, ◌+◌, ◌-◌, ℕ, zero, suc, List, [], ◌∷◌, ◌++◌, length, Some, Bool, true, false, cond, ◌==◌, nat_le, refl, ap, ap₂, sym, ◌∙◌, subst, arith}
use Rattle.std.specs.List.{AllByRecursion}
use Rattle.bfs_base.specs.Lists.{times}
use Rattle.bfs_base.specs.declared.kind.KeyKind.{KeyKind}
use Rattle.bfs_node.specs.Page.{Row, IsPage, rows_of, row_in, value_of, links_of}
use Rattle.bfs_node.specs.declared.header.Header.{Header}
use Rattle.bfs_pages.specs.Answers.{IsChild, IsInteriorPage}
use Rattle.bfs_pages.specs.Changes.{Others}
use Rattle.bfs_insert.specs.Growth.{SplitOff, SplitChild}
use Rattle.bfs_insert.specs.Divided.{IsRoomy, IsInteriorSplit, IsBetween}
use Rattle.bfs_pages.specs.Order.{Key, at_most}
use Rattle.bfs_pages.specs.Shapes.{leaf_body, inner_body, Shape, Shapes, node_shape, place, met_by, met_by_all, Stands}
use Rattle.bfs_pages.specs.Trees.{state_of, Holds, page_in, place_of, body_in, neighbours_in, free_in, children_in}
use Rattle.bfs_pages.specs.Ways.{under, child_for, keys_split, last_split, KeysRise}
use Rattle.bfs_insert.specs.Puts.{HalvesSet}
use Rattle.bfs_pages.specs.Writes.{IsTaken}
use Rattle.bfs_pages.proofs.Exchange.{met-once}
use Rattle.bfs_pages.proofs.Good.{page-true}
use Rattle.bfs_pages.proofs.Laws.{one}
use Rattle.bfs_pages.proofs.OfKind.{leaf-at, inner-fields, inner-page, met-child, under-met}
use Rattle.bfs_pages.proofs.Splice.{self}
use Rattle.bfs_pages.proofs.Descent.{node-at}
use Rattle.bfs_pages.proofs.Way.{times-child, times-under, place-met}
use Rattle.bfs_insert.proofs.Halved.{set-above, set-right, set-below, set-others}
use Rattle.bfs_pages.proofs.Says.{says-inner}

children-append : (xs ys : List Row) → children_in (xs ++ ys) ≡ children_in xs ++ children_in ys
children-append [] ys = refl
children-append (x ∷ xs) ys = ap (λ l. (x.0, place_of x.1) ∷ l) (children-append xs ys)

children-all : (size : ℕ) (rows : List Row) → ((i : ℕ) → i < length rows → IsChild size (place_of (value_of (row_in rows i)))) → AllByRecursion (λ c. IsChild size c.1) (children_in rows)
children-all size [] h = tt
children-all size (r ∷ rs) h = (h zero (omega arith), children-all size rs (λ i l. h (suc i) (omega (arith, l))))

all-right_of : (P : Key × ℕ → Type 0) (xs ys : List (Key × ℕ)) → AllByRecursion P (xs ++ ys) → AllByRecursion P ys
all-right_of P [] ys a = a
all-right_of P (x ∷ xs) ys a = all-right_of P xs ys a.1

le_yes : (a b : ℕ) → nat_le a b ≡ true → a ≤ b
le_yes a b e = grind (arith, e)

le_no : (a b : ℕ) → nat_le a b ≡ false → b < a
le_no a b e = grind (arith, e)

eq_yes : (a b : ℕ) → (a == b) ≡ true → a ≡ b
eq_yes a b e = grind (arith, e)

eq_off : (a b : ℕ) → (a == b) ≡ false → a ≢ b
eq_off a b e q = grind (arith, e, q)

-- the last child after a split is one of two
last-of_two : (P : ℕ → Type 0) (kind : KeyKind) (keys : List (Key × ℕ)) (last : ℕ) (k : Key) (q : ℕ) → P last → P q → P (last_split kind keys last k q)
last-of_two P kind [] last k q l r = r
last-of_two P kind (c ∷ cs) last k q l r = by_test (at_most kind k c.0) (last-of_two P kind cs last k q l r)
  where
    by_test : (t : Bool) → P (last_split kind cs last k q) → P (cond t last (last_split kind cs last k q))
    by_test true ih = l
    by_test false ih = ih

child-two_or_more : (n x : ℕ) → IsChild n x → 2 ≤ x
child-two_or_more n x h = grind (arith, h.0, h.1)

module _ (kind : KeyKind) (b c0 c : List ℕ) (at child right : ℕ) (A A2 B B2 H N2 : List ℕ) (k : Key) (left : Bool) (h : Header) (taken : IsTaken kind b c0 right h) (set : HalvesSet c0 c at child right 0 A2 B2 H N2) (hA : A ≡ page_in b at) (hB : B ≡ page_in b child) (innerB : IsInteriorPage kind (length b) B) (pA2 : IsPage kind A2) (pB2 : IsPage kind B2) (pH : IsPage kind H) (roomB : IsRoomy B2) (roomH : IsRoomy H) (linksA : neighbours_in A2 ≡ neighbours_in A) (leftB : (links_of B2).left ≡ (links_of B).left) (rightB : (links_of B2).right ≡ (links_of B).right) (lastH : (links_of H).overflow ≡ (links_of B).overflow) (placed : IsChild (length c0) right) (halves : KeysRise kind (rows_of A) → KeysRise kind (rows_of B) → (sep : Key) × IsInteriorSplit (rows_of B) (rows_of B2) (rows_of H) sep (links_of B2).overflow × IsBetween kind A A2 right k sep left) (reached : List ℕ) (t : Shape) (fs : List ℕ) (d : ℕ) (tree : Holds kind (state_of kind c0) (right ∷ reached) t fs) (level : suc d ≤ (state_of kind c0).levels) (on_way : place (under kind d t k) ≡ at) (way_on : place (under kind (suc d) t k) ≡ child) where
  once : (x : ℕ) → times x (met_by t) + times x (right ∷ reached) + times x fs ≤ 1
  once x = met-once (state_of kind c0) (right ∷ reached) t fs tree.built x

  in_at : 1 ≤ times at (met_by t)
  in_at = under-met kind d t k at on_way

  in_child : 1 ≤ times child (met_by t)
  in_child = under-met kind (suc d) t k child way_on

  not_right : (x : ℕ) → 1 ≤ times x (met_by t) → x ≢ right
  not_right x i = λ e. let m : 1 ≤ times right (met_by t) = subst (λ w. 1 ≤ times w (met_by t)) e i in no (omega (arith, m, once right, self right reached))
    where
      no : 1 ≤ 0 → ⊥
      no e = omega (arith, e)

  at_places : IsChild (length c0) at
  at_places = met-child (state_of kind c0) (right ∷ reached) t fs at tree.built in_at

  child_places : IsChild (length c0) child
  child_places = met-child (state_of kind c0) (right ∷ reached) t fs child tree.built in_child

  page_at_is : page_in c0 at ≡ A
  page_at_is = taken.others at (not_right at in_at) ∙ sym hA

  page_child_is : page_in c0 child ≡ B
  page_child_is = taken.others child (not_right child in_child) ∙ sym hB

  body_child : body_in kind (page_in c0 child) ≡ Some (inner_body (children_in (rows_of B)) (place_of (links_of B).overflow))
  body_child = ap (body_in kind) page_child_is ∙ says-inner kind B (page-true kind B innerB.good) (child-two_or_more (length b) (place_of (links_of B).overflow) innerB.last)

  ts : Shapes
  ts = (node-at kind (state_of kind c0) (right ∷ reached) t fs d k at tree level on_way).0

  ts_are : under kind d t k ≡ node_shape at ts
  unfolding ts
  ts_are = (node-at kind (state_of kind c0) (right ∷ reached) t fs d k at tree level on_way).1

  ts_stand : Stands (state_of kind c0).bodies (node_shape at ts)
  unfolding ts
  ts_stand = (node-at kind (state_of kind c0) (right ∷ reached) t fs d k at tree level on_way).2

  under_is : under kind (suc d) t k ≡ child_for kind ts k
  unfolding ts
  under_is = (node-at kind (state_of kind c0) (right ∷ reached) t fs d k at tree level on_way).3

  child_is : place (child_for kind ts k) ≡ child
  child_is = sym (ap place under_is) ∙ way_on

  child_in_ts : 1 ≤ times child (met_by_all ts)
  child_in_ts =
      let m : 1 ≤ times child (met_by (child_for kind ts k)) = subst (λ z. 1 ≤ times z (met_by (child_for kind ts k))) child_is (place-met (child_for kind ts k)) in
      omega (arith, m, times-child kind child ts k)

  child_not_at : child ≢ at
  child_not_at = λ e.
      let m : 1 ≤ times at (met_by_all ts) = subst (λ w. 1 ≤ times w (met_by_all ts)) e child_in_ts in
      let n : times at (met_by (node_shape at ts)) ≤ times at (met_by t) = subst (λ u. times at (met_by u) ≤ times at (met_by t)) ts_are (times-under kind at d t k) in
      no (omega (arith, m, n, once at, one at (met_by_all ts)))
    where
      no : 1 ≤ 0 → ⊥
      no e = omega (arith, e)

  child_not_zero : child ≢ 0
  child_not_zero = λ e. no (subst (λ w. 1 ≤ w) e child_places.0)
    where
      no : 1 ≤ 0 → ⊥
      no e = omega (arith, e)

  right_not_zero : right ≢ 0
  right_not_zero = λ e. no (subst (λ w. 1 ≤ w) e placed.0)
    where
      no : 1 ≤ 0 → ⊥
      no e = omega (arith, e)

  up_A : KeysRise kind (rows_of A)
  up_A = subst (λ (z : List ℕ). KeysRise kind (rows_of z)) page_at_is (inner-page kind c0 (right ∷ reached) t fs d k at tree level on_way).1

  -- the child is an interior page, so the way goes on below it
  below_is : suc (suc d) ≤ (state_of kind c0).levels
  below_is = by_levels (nat_le (suc (suc d)) (state_of kind c0).levels) refl
    where
      by_levels : (z : Bool) → nat_le (suc (suc d)) (state_of kind c0).levels ≡ z → suc (suc d) ≤ (state_of kind c0).levels
      by_levels true e = le_yes (suc (suc d)) (state_of kind c0).levels e
      by_levels false e =
          let last : suc d ≡ (state_of kind c0).levels = omega (arith, level, le_no (suc (suc d)) (state_of kind c0).levels e) in
          let l = leaf-at kind (state_of kind c0) (right ∷ reached) t fs (suc d) k child tree last way_on in
          absurd (differ l.0 (sym l.2 ∙ body_child))
        where
          differ : (rows : List Row) → Some (leaf_body rows) ≡ Some (inner_body (children_in (rows_of B)) (place_of (links_of B).overflow)) → ⊥
          differ rows e = cc

  up_B : KeysRise kind (rows_of B)
  up_B = subst (λ (z : List ℕ). KeysRise kind (rows_of z)) page_child_is (inner-page kind c0 (right ∷ reached) t fs (suc d) k child tree below_is way_on).1

  -- links since
  links_below : (state_of kind c).links child ≡ (state_of kind c0).links child
  links_below =
      ap neighbours_in (set-below set child_places.0 child_not_at child_not_zero (not_right child in_child))
      ∙ ap₂ (λ x y. (place_of x, place_of y)) leftB rightB ∙ sym (ap neighbours_in page_child_is)

  right_not_at : right ≢ at
  right_not_at = λ e. not_right at in_at (sym e)

  links_above : (state_of kind c).links at ≡ (state_of kind c0).links at
  links_above = ap neighbours_in (set-above set at_places.0) ∙ linksA ∙ sym (ap neighbours_in page_at_is)

  links_others : (x : ℕ) → x ≢ right → (state_of kind c).links x ≡ (state_of kind c0).links x
  links_others x m = by_test (x == at) refl (x == child) refl (x == 0) refl
    where
      by_test : (z : Bool) → (x == at) ≡ z → (y : Bool) → (x == child) ≡ y → (w : Bool) → (x == 0) ≡ w → (state_of kind c).links x ≡ (state_of kind c0).links x
      by_test true e y f w g = ap (state_of kind c).links (eq_yes x at e) ∙ links_above ∙ ap (state_of kind c0).links (sym (eq_yes x at e))
      by_test false e true f w g = ap (state_of kind c).links (eq_yes x child f) ∙ links_below ∙ ap (state_of kind c0).links (sym (eq_yes x child f))
      by_test false e false f true g = ap (state_of kind c).links (eq_yes x 0 g) ∙ ap (state_of kind c0).links (sym (eq_yes x 0 g))
      by_test false e false f false g = ap neighbours_in (set-others set x (eq_off x at e) (eq_off x 0 g) m (eq_off x child f))

  others_page : (x : ℕ) → x ≢ at → x ≢ child → x ≢ right → page_in c x ≡ page_in c0 x
  others_page zero n m o = refl
  others_page (suc x) n m o = set-others set (suc x) n (λ e. no e) o m
    where
      no : suc x ≡ 0 → ⊥
      no e = omega (arith, e)

  others : Others (state_of kind c0) (state_of kind c) at child right
  others = record {
    bodies = λ x n m o. ap (body_in kind) (others_page x n m o);
    frees = λ x n m o. ap free_in (others_page x n m o);
    root = ap (λ (z : Header). place_of z.root_pointer) set.header;
    levels = ap (λ (z : Header). z.levels - 1) set.header;
    free = ap (λ (z : Header). place_of z.free_pointer) set.header;
    size = set.size;
  }

  -- the page above
  parent : (sep : Key) → IsBetween kind A A2 right k sep left → (keys : List (Key × ℕ)) (last : ℕ) → (state_of kind c0).bodies at ≡ Some (inner_body keys last)
      → (state_of kind c).bodies at ≡ Some (inner_body (keys_split kind keys last k sep right) (last_split kind keys last k right))
  parent sep w keys last e =
      let f = inner-fields kind (page_in c0 at) keys last e in
      let k1 : children_in (rows_of A) ≡ keys = ap (λ (z : List ℕ). children_in (rows_of z)) (sym page_at_is) ∙ f.1 in
      let l1 : place_of (links_of A).overflow ≡ last = ap (λ (z : List ℕ). place_of (links_of z).overflow) (sym page_at_is) ∙ f.2 in
      let i = (inner-page kind c0 (right ∷ reached) t fs d k at tree level on_way).0 in
      let old : 2 ≤ place_of (links_of A).overflow = subst (λ (z : List ℕ). 2 ≤ place_of (links_of z).overflow) page_at_is (child-two_or_more (length c0) (place_of (links_of (page_in c0 at)).overflow) i.last) in
      let big : 2 ≤ place_of (links_of A2).overflow =
      subst (λ z. 2 ≤ z) (sym w.last) (last-of_two (λ z. 2 ≤ z) kind (children_in (rows_of A)) (place_of (links_of A).overflow) k right old (child-two_or_more (length c0) right placed)) in
      ap (body_in kind) (set-above set at_places.0) ∙ says-inner kind A2 pA2 big
      ∙ ap₂ (λ x y. Some (inner_body x y)) (w.keys ∙ ap₂ (λ x y. keys_split kind x y k sep right) k1 l1) (w.last ∙ ap₂ (λ x y. last_split kind x y k right) k1 l1)

  -- pages that values reach are none of these
  reached_off : (x y : ℕ) → 1 ≤ times x reached → 1 ≤ times y (met_by t) → x ≢ y
  reached_off x y i j = λ e. let m : 1 ≤ times y reached = subst (λ w. 1 ≤ times w reached) e i in no (omega (arith, m, j, once y, more y))
    where
      no : 1 ≤ 0 → ⊥
      no e = omega (arith, e)

      more : (y : ℕ) → times y reached ≤ times y (right ∷ reached)
      more y = omega arith

  reached_right : (x : ℕ) → 1 ≤ times x reached → x ≢ right
  reached_right x i = λ e. let m : 1 ≤ times right reached = subst (λ w. 1 ≤ times w reached) e i in no (omega (arith, m, once right, one right reached))
    where
      no : 1 ≤ 0 → ⊥
      no e = omega (arith, e)

  pub split-inner_off : (sep : Key) × SplitOff kind (state_of kind c0) (state_of kind c) reached at child k right sep × (at_most kind k sep ≡ left)
  split-inner_off =
      let w = halves up_A up_B in
      let apart : children_in (rows_of B) ≡ children_in (rows_of B2) ++ ((w.0, place_of (links_of B2).overflow) ∷ children_in (rows_of H)) =
      ap children_in w.1.rows_are ∙ children-append (rows_of B2) ((w.0, (links_of B2).overflow) ∷ rows_of H) in
      let inside : AllByRecursion (λ c. IsChild (length b) c.1) (children_in (rows_of B)) = children-all (length b) (rows_of B) innerB.children in
      let middle : IsChild (length b) (place_of (links_of B2).overflow) =
      (all-right_of (λ c. IsChild (length b) c.1) (children_in (rows_of B2)) ((w.0, place_of (links_of B2).overflow) ∷ children_in (rows_of H)) (subst (λ z. AllByRecursion (λ c. IsChild (length b) c.1) z) apart inside)).0 in
      let left_body : (state_of kind c).bodies child ≡ Some (inner_body (children_in (rows_of B2)) (place_of (links_of B2).overflow)) =
      ap (body_in kind) (set-below set child_places.0 child_not_at child_not_zero (not_right child in_child)) ∙ says-inner kind B2 pB2 (child-two_or_more (length b) (place_of (links_of B2).overflow) middle) in
      let right_big : 2 ≤ place_of (links_of H).overflow = subst (λ z. 2 ≤ place_of z) (sym lastH) (child-two_or_more (length b) (place_of (links_of B).overflow) innerB.last) in
      let right_body : (state_of kind c).bodies right ≡ Some (inner_body (children_in (rows_of H)) (place_of (links_of B).overflow)) =
      ap (body_in kind) (set-right set placed.0 right_not_at right_not_zero) ∙ says-inner kind H pH right_big ∙ ap (λ z. Some (inner_body (children_in (rows_of H)) (place_of z))) lastH in (
        w.0,
        record {
          others = others;
          parent = parent w.0 w.2;
          child = subst (λ z. SplitChild (state_of kind c0) (state_of kind c) child right w.0 z) (sym body_child)
              (children_in (rows_of B2), place_of (links_of B2).overflow, children_in (rows_of H), apart, left_body, right_body, links_others);
          left_room = subst (λ (p : List ℕ). IsRoomy p) (sym (set-below set child_places.0 child_not_at child_not_zero (not_right child in_child))) roomB;
          right_room = subst (λ (p : List ℕ). IsRoomy p) (sym (set-right set placed.0 right_not_at right_not_zero)) roomH;
          stay = λ x i. others_page x (reached_off x at i in_at) (reached_off x child i in_child) (reached_right x i);
        },
        w.2.way,
      )
