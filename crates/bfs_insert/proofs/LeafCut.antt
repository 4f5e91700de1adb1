-- A leaf is split in the bytes of a stream: what the tree's pages say since.
use Rattle.std.proofs.Common.{◌≡◌, ◌≢◌, ◌≤◌, ◌+◌, ◌-◌, ℕ, pos, negsuc, suc, List, [], ◌∷◌, ◌++◌, length, Option, Some, None, Bool, true, false, cond, ◌==◌, refl, ap, ap₂, sym, ◌∙◌, subst, arith}
use Rattle.bfs_base.specs.Lists.{times}
use Rattle.bfs_base.specs.declared.kind.KeyKind.{KeyKind}
use Rattle.bfs_node.specs.Page.{Row, IsPage, rows_of, links_of}
use Rattle.bfs_node.specs.declared.header.Header.{Header}
use Rattle.bfs_node.specs.declared.links.Links.{Links}
use Rattle.bfs_pages.specs.Answers.{IsChild, IsLeafPage}
use Rattle.bfs_pages.specs.Changes.{Others}
use Rattle.bfs_insert.specs.Growth.{SplitLinks, SplitOff, SplitChild}
use Rattle.bfs_insert.specs.Divided.{IsRoomy, IsLeafSplit, IsBetween}
use Rattle.bfs_pages.specs.Order.{Key, at_most}
use Rattle.bfs_pages.specs.Shapes.{Body, leaf_body, inner_body, Shape, Shapes, leaf_shape, node_shape, place, met_by, met_by_all, leaves_of, entries_of, children_of, last_child, Stands, AscendAll}
use Rattle.bfs_pages.specs.Trees.{state_of, Holds, Linked, page_in, place_of, body_of, body_in, neighbours_in, free_in, next_if, children_in}
use Rattle.bfs_pages.specs.Ways.{under, child_for, leaves_before, leaves_behind, leaves_before_way, leaves_behind_way, keys_split, last_split, KeysRise}
use Rattle.bfs_insert.specs.Puts.{HalvesSet}
use Rattle.bfs_pages.specs.Writes.{IsTaken}
use Rattle.bfs_pages.proofs.Exchange.{met-once}
use Rattle.bfs_pages.proofs.Laws.{one}
use Rattle.bfs_pages.proofs.Says.{place-pos, says-leaf, says-inner}
use Rattle.bfs_pages.proofs.OfKind.{inner-fields, inner-page, met-child, under-met, rows-ascend, under-ascends}
use Rattle.bfs_pages.proofs.Sorted.{ascend-rise}
use Rattle.bfs_pages.proofs.Splice.{self, times-append}
use Rattle.bfs_pages.proofs.Leaves.{leaf-form, times-leaves, node-leaves, next-leaf}
use Rattle.bfs_pages.proofs.Descent.{node-at}
use Rattle.bfs_pages.proofs.Way.{times-child, times-under, child-stands}
use Rattle.bfs_insert.proofs.Halved.{set-above, set-next, set-right, set-below, set-others}
use Rattle.bfs_pages.proofs.Placed.{held_most}

-- the shape of a page that is a leaf
leaf-shape : (bodies : ℕ → Option Body) (u : Shape) (at : ℕ) (rows : List Row) → Stands bodies u → place u ≡ at → bodies at ≡ Some (leaf_body rows) → u ≡ leaf_shape at rows
leaf-shape bodies (leaf_shape p own) at rows s e b = ap₂ (λ x y. leaf_shape x y) e (same (sym s ∙ ap bodies e ∙ b))
  where
    same : Some (leaf_body own) ≡ Some (leaf_body rows) → own ≡ rows
    same e = cc
leaf-shape bodies (node_shape p below) at rows s e b = absurd (differ (sym s.0 ∙ ap bodies e ∙ b))
  where
    differ : Some (inner_body (children_of below) (last_child below)) ≡ Some (leaf_body rows) → ⊥
    differ e = cc

eq_yes : (a b : ℕ) → (a == b) ≡ true → a ≡ b
eq_yes a b e = grind (arith, e)

eq_off : (a b : ℕ) → (a == b) ≡ false → a ≢ b
eq_off a b e q = grind (arith, e, q)

-- the last child after a split is one of two
last-of_two : (P : ℕ → Type 0) (kind : KeyKind) (keys : List (Key × ℕ)) (last : ℕ) (k : Key) (q : ℕ) → P last → P q → P (last_split kind keys last k q)
last-of_two P kind [] last k q l r = r
last-of_two P kind (c ∷ cs) last k q l r = by_test (at_most kind k c.0) (last-of_two P kind cs last k q l r)
  where
    by_test : (t : Bool) → P (last_split kind cs last k q) → P (cond t last (last_split kind cs last k q))
    by_test true ih = l
    by_test false ih = ih

child-two_or_more : (n x : ℕ) → IsChild n x → 2 ≤ x
child-two_or_more n x h = grind (arith, h.0, h.1)

no-free : (page : List ℕ) → (links_of page).overflow ≡ negsuc 0 → free_in page ≡ None
no-free page o = ap (λ z. next_if z (links_of page).left) o

module _ (kind : KeyKind) (b c0 c : List ℕ) (at child right next : ℕ) (A A2 B B2 H N N2 : List ℕ) (k : Key) (left : Bool) (h : Header) (taken : IsTaken kind b c0 right h) (set : HalvesSet c0 c at child right next A2 B2 H N2) (hA : A ≡ page_in b at) (hB : B ≡ page_in b child) (leafB : IsLeafPage kind (length b) B) (pA2 : IsPage kind A2) (pB2 : IsPage kind B2) (pH : IsPage kind H) (roomB : IsRoomy B2) (roomH : IsRoomy H) (linksA : neighbours_in A2 ≡ neighbours_in A) (linksB : links_of B2 ≡ record (links_of B) { right = pos right }) (linksH : links_of H ≡ record { left = pos child; right = (links_of B).right; overflow = (links_of B).overflow }) (is_next : next ≡ (neighbours_in B).1) (beside : next ≢ 0 → (N ≡ page_in b next) × IsLeafPage kind (length b) N × IsPage kind N2 × (rows_of N2 ≡ rows_of N) × (links_of N2 ≡ record (links_of N) { left = pos right })) (placed : IsChild (length c0) right) (halves : KeysRise kind (rows_of A) → KeysRise kind (rows_of B) → (sep : Key) × IsLeafSplit (rows_of B) (rows_of B2) (rows_of H) sep × IsBetween kind A A2 right k sep left) (reached : List ℕ) (t : Shape) (fs : List ℕ) (d : ℕ) (tree : Holds kind (state_of kind c0) (right ∷ reached) t fs) (level : suc d ≤ (state_of kind c0).levels) (on_way : place (under kind d t k) ≡ at) (way_on : place (under kind (suc d) t k) ≡ child) where
  once : (x : ℕ) → times x (met_by t) + times x (right ∷ reached) + times x fs ≤ 1
  once x = met-once (state_of kind c0) (right ∷ reached) t fs tree.built x

  in_at : 1 ≤ times at (met_by t)
  in_at = under-met kind d t k at on_way

  in_child : 1 ≤ times child (met_by t)
  in_child = under-met kind (suc d) t k child way_on

  not_right : (x : ℕ) → 1 ≤ times x (met_by t) → x ≢ right
  not_right x i = λ e. let m : 1 ≤ times right (met_by t) = subst (λ w. 1 ≤ times w (met_by t)) e i in no (omega (arith, m, once right, self right reached))
    where
      no : 1 ≤ 0 → ⊥
      no e = omega (arith, e)

  at_places : IsChild (length c0) at
  at_places = met-child (state_of kind c0) (right ∷ reached) t fs at tree.built in_at

  child_places : IsChild (length c0) child
  child_places = met-child (state_of kind c0) (right ∷ reached) t fs child tree.built in_child

  page_at_is : page_in c0 at ≡ A
  page_at_is = taken.others at (not_right at in_at) ∙ sym hA

  page_child_is : page_in c0 child ≡ B
  page_child_is = taken.others child (not_right child in_child) ∙ sym hB

  body_child : body_in kind (page_in c0 child) ≡ Some (leaf_body (rows_of B))
  body_child = ap (body_in kind) page_child_is ∙ ap (λ z. cond z (Some (body_of (links_of B).overflow (rows_of B))) None) leafB.good ∙ ap (λ z. Some (body_of z (rows_of B))) leafB.overflow

  ts : Shapes
  ts = (node-at kind (state_of kind c0) (right ∷ reached) t fs d k at tree level on_way).0

  ts_are : under kind d t k ≡ node_shape at ts
  unfolding ts
  ts_are = (node-at kind (state_of kind c0) (right ∷ reached) t fs d k at tree level on_way).1

  ts_stand : Stands (state_of kind c0).bodies (node_shape at ts)
  unfolding ts
  ts_stand = (node-at kind (state_of kind c0) (right ∷ reached) t fs d k at tree level on_way).2

  under_is : under kind (suc d) t k ≡ child_for kind ts k
  unfolding ts
  under_is = (node-at kind (state_of kind c0) (right ∷ reached) t fs d k at tree level on_way).3

  child_is : child_for kind ts k ≡ leaf_shape child (rows_of B)
  child_is = leaf-shape (state_of kind c0).bodies (child_for kind ts k) child (rows_of B) (child-stands kind (state_of kind c0).bodies ts k ts_stand.1) (sym (ap place under_is) ∙ way_on) body_child

  child_in_ts : 1 ≤ times child (met_by_all ts)
  child_in_ts =
      let m : 1 ≤ times child (met_by (child_for kind ts k)) = subst (λ u. 1 ≤ times child (met_by u)) (sym child_is) (self child []) in
      omega (arith, m, times-child kind child ts k)

  child_not_at : child ≢ at
  child_not_at = λ e.
      let m : 1 ≤ times at (met_by_all ts) = subst (λ w. 1 ≤ times w (met_by_all ts)) e child_in_ts in
      let n : times at (met_by (node_shape at ts)) ≤ times at (met_by t) = subst (λ u. times at (met_by u) ≤ times at (met_by t)) ts_are (times-under kind at d t k) in
      no (omega (arith, m, n, once at, one at (met_by_all ts)))
    where
      no : 1 ≤ 0 → ⊥
      no e = omega (arith, e)

  front : List ℕ
  front = leaves_before_way kind d t k ++ leaves_before kind ts k

  back : List ℕ
  back = leaves_behind kind ts k ++ leaves_behind_way kind d t k

  leaves_are : leaves_of t ≡ (leaves_before_way kind d t k ++ leaves_before kind ts k) ++ (child ∷ (leaves_behind kind ts k ++ leaves_behind_way kind d t k))
  leaves_are =
      node-leaves kind d t k at ts ts_are ∙ ap (λ z. leaves_before_way kind d t k ++ ((leaves_before kind ts k ++ (leaves_of z ++ leaves_behind kind ts k)) ++ leaves_behind_way kind d t k)) child_is
      ∙ leaf-form (leaves_before_way kind d t k) (leaves_before kind ts k) child (leaves_behind kind ts k) (leaves_behind_way kind d t k)

  next_links : ((state_of kind c0).links child).1 ≡ next
  next_links = ap (λ z. (neighbours_in z).1) page_child_is ∙ sym is_next

  next_back : next ≢ 0 → 1 ≤ times next (leaves_behind kind ts k ++ leaves_behind_way kind d t k)
  next_back n =
      subst (λ z. 1 ≤ times z (leaves_behind kind ts k ++ leaves_behind_way kind d t k)) next_links
      (next-leaf (state_of kind c0).links (leaves_before_way kind d t k ++ leaves_before kind ts k) child (leaves_behind kind ts k ++ leaves_behind_way kind d t k)
      (subst (λ z. Linked (state_of kind c0).links 0 z 0) leaves_are tree.linked) (λ e. n (sym next_links ∙ e)))

  next_met : next ≢ 0 → 1 ≤ times next (met_by t)
  next_met n =
      let m : times next (leaves_of t) ≡ times next ((leaves_before_way kind d t k ++ leaves_before kind ts k) ++ (child ∷ (leaves_behind kind ts k ++ leaves_behind_way kind d t k))) = ap (times next) leaves_are in
      omega (arith, m, next_back n, times-leaves next t, times-append next (leaves_before_way kind d t k ++ leaves_before kind ts k) (child ∷ (leaves_behind kind ts k ++ leaves_behind_way kind d t k)))

  page_next_is : next ≢ 0 → page_in c0 next ≡ N
  page_next_is n = taken.others next (not_right next (next_met n)) ∙ sym (beside n).0

  child_not_next : child ≢ next
  child_not_next = λ e. by_test (next == 0) refl e
    where
      no : 1 ≤ 0 → ⊥
      no e = omega (arith, e)

      by_test : (z : Bool) → (next == 0) ≡ z → child ≡ next → ⊥
      by_test true i e = no (subst (λ w. 1 ≤ w) (e ∙ eq_yes next 0 i) child_places.0)
      by_test false i e =
          let m : 1 ≤ times child (leaves_behind kind ts k ++ leaves_behind_way kind d t k) = subst (λ w. 1 ≤ times w (leaves_behind kind ts k ++ leaves_behind_way kind d t k)) (sym e) (next_back (eq_off next 0 i)) in
          let n : times child (leaves_of t) ≡ times child ((leaves_before_way kind d t k ++ leaves_before kind ts k) ++ (child ∷ (leaves_behind kind ts k ++ leaves_behind_way kind d t k))) = ap (times child) leaves_are in
          no (omega (arith, m, n, once child, times-leaves child t, one child (leaves_behind kind ts k ++ leaves_behind_way kind d t k), times-append child (leaves_before_way kind d t k ++ leaves_before kind ts k) (child ∷ (leaves_behind kind ts k ++ leaves_behind_way kind d t k))))

  right_not_next : right ≢ next
  right_not_next = λ e. by_test (next == 0) refl e
    where
      no : 1 ≤ 0 → ⊥
      no e = omega (arith, e)

      by_test : (z : Bool) → (next == 0) ≡ z → right ≡ next → ⊥
      by_test true i e = no (subst (λ w. 1 ≤ w) (e ∙ eq_yes next 0 i) placed.0)
      by_test false i e = not_right next (next_met (eq_off next 0 i)) (sym e)

  body_next : next ≢ 0 → body_in kind (page_in c0 next) ≡ Some (leaf_body (rows_of N))
  body_next n =
      let f = (beside n).1 in
      ap (body_in kind) (page_next_is n) ∙ ap (λ z. cond z (Some (body_of (links_of N).overflow (rows_of N))) None) f.good ∙ ap (λ z. Some (body_of z (rows_of N))) f.overflow

  next_not_at : next ≢ 0 → next ≢ at
  next_not_at n = λ e. differ (sym (body_next n) ∙ ap (state_of kind c0).bodies e ∙ ts_stand.0)
    where
      differ : Some (leaf_body (rows_of N)) ≡ Some (inner_body (children_of ts) (last_child ts)) → ⊥
      differ e = cc

  up_A : KeysRise kind (rows_of A)
  up_A = subst (λ (z : List ℕ). KeysRise kind (rows_of z)) page_at_is (inner-page kind c0 (right ∷ reached) t fs d k at tree level on_way).1

  up_B : KeysRise kind (rows_of B)
  up_B = ascend-rise kind (rows_of B) (rows-ascend kind (rows_of B) (subst (λ u. AscendAll kind (entries_of u)) (under_is ∙ child_is) (under-ascends kind (suc d) t k tree.ascends)))

  -- links since
  links_below : (state_of kind c).links child ≡ (((state_of kind c0).links child).0, right)
  links_below =
      ap neighbours_in (set-below set child_places.0 child_not_at child_not_next (not_right child in_child))
      ∙ ap (λ (l : Links). (place_of l.left, place_of l.right)) linksB ∙ ap₂ (λ x y. (x, y)) (sym (ap (λ z. (neighbours_in z).0) page_child_is)) (place-pos right placed.0)

  right_not_at : right ≢ at
  right_not_at = λ e. not_right at in_at (sym e)

  links_right : (state_of kind c).links right ≡ (child, ((state_of kind c0).links child).1)
  links_right =
      ap neighbours_in (set-right set placed.0 right_not_at right_not_next)
      ∙ ap (λ (l : Links). (place_of l.left, place_of l.right)) linksH ∙ ap₂ (λ x y. (x, y)) (place-pos child child_places.0) (sym (ap (λ z. (neighbours_in z).1) page_child_is))

  links_next : next ≢ 0 → (state_of kind c).links next ≡ (right, ((state_of kind c0).links next).1)
  links_next n =
      let f = beside n in
      ap neighbours_in (set-next set (met-child (state_of kind c0) (right ∷ reached) t fs next tree.built (next_met n)).0 (next_not_at n))
      ∙ ap (λ (l : Links). (place_of l.left, place_of l.right)) f.4 ∙ ap₂ (λ x y. (x, y)) (place-pos right placed.0) (sym (ap (λ z. (neighbours_in z).1) (page_next_is n)))

  links_above : (state_of kind c).links at ≡ (state_of kind c0).links at
  links_above = ap neighbours_in (set-above set at_places.0) ∙ linksA ∙ sym (ap neighbours_in page_at_is)

  links_others : (x : ℕ) → x ≢ child → x ≢ right → x ≢ next → (state_of kind c).links x ≡ (state_of kind c0).links x
  links_others x n m o = by_test (x == at) refl
    where
      by_test : (z : Bool) → (x == at) ≡ z → (state_of kind c).links x ≡ (state_of kind c0).links x
      by_test true e = ap (state_of kind c).links (eq_yes x at e) ∙ links_above ∙ ap (state_of kind c0).links (sym (eq_yes x at e))
      by_test false e = ap neighbours_in (set-others set x (eq_off x at e) o m n)

  split_links : SplitLinks (state_of kind c0).links (state_of kind c).links child right
  split_links = record {
    left = links_below;
    right = links_right;
    next = λ n. subst (λ z. (state_of kind c).links z ≡ (right, ((state_of kind c0).links z).1)) (sym next_links) (links_next (λ e. n (next_links ∙ e)));
    others = λ x n m o. links_others x n m (λ e. o (e ∙ sym next_links));
  }

  -- pages but three say what they said
  others_body : (x : ℕ) → x ≢ at → x ≢ child → x ≢ right → (state_of kind c).bodies x ≡ (state_of kind c0).bodies x
  others_body x n m o = by_test (x == next) refl
    where
      by_zero : (z : Bool) → (next == 0) ≡ z → x ≡ next → (state_of kind c).bodies x ≡ (state_of kind c0).bodies x
      by_zero true i e = ap (λ y. body_in kind (page_in c y)) (e ∙ eq_yes next 0 i) ∙ ap (λ y. body_in kind (page_in c0 y)) (sym (e ∙ eq_yes next 0 i))
      by_zero false i e =
          let some = eq_off next 0 i in
          let f = beside some in
          ap (λ y. body_in kind (page_in c y)) e
          ∙ ap (body_in kind) (set-next set (met-child (state_of kind c0) (right ∷ reached) t fs next tree.built (next_met some)).0 (next_not_at some))
          ∙ says-leaf kind N2 f.2 (ap (λ (l : Links). l.overflow) f.4 ∙ f.1.overflow) ∙ ap (λ l. Some (leaf_body l)) f.3 ∙ sym (body_next some) ∙ ap (λ y. body_in kind (page_in c0 y)) (sym e)

      by_test : (z : Bool) → (x == next) ≡ z → (state_of kind c).bodies x ≡ (state_of kind c0).bodies x
      by_test true e = by_zero (next == 0) refl (eq_yes x next e)
      by_test false e = ap (body_in kind) (set-others set x n (eq_off x next e) o m)

  others_free : (x : ℕ) → x ≢ at → x ≢ child → x ≢ right → (state_of kind c).frees x ≡ (state_of kind c0).frees x
  others_free x n m o = by_test (x == next) refl
    where
      by_zero : (z : Bool) → (next == 0) ≡ z → x ≡ next → (state_of kind c).frees x ≡ (state_of kind c0).frees x
      by_zero true i e = ap (λ y. free_in (page_in c y)) (e ∙ eq_yes next 0 i) ∙ ap (λ y. free_in (page_in c0 y)) (sym (e ∙ eq_yes next 0 i))
      by_zero false i e =
          let some = eq_off next 0 i in
          let f = beside some in
          ap (λ y. free_in (page_in c y)) e
          ∙ ap free_in (set-next set (met-child (state_of kind c0) (right ∷ reached) t fs next tree.built (next_met some)).0 (next_not_at some))
          ∙ no-free N2 (ap (λ (l : Links). l.overflow) f.4 ∙ f.1.overflow) ∙ sym (no-free N f.1.overflow) ∙ ap free_in (sym (page_next_is some)) ∙ ap (λ y. free_in (page_in c0 y)) (sym e)

      by_test : (z : Bool) → (x == next) ≡ z → (state_of kind c).frees x ≡ (state_of kind c0).frees x
      by_test true e = by_zero (next == 0) refl (eq_yes x next e)
      by_test false e = ap free_in (set-others set x n (eq_off x next e) o m)

  others : Others (state_of kind c0) (state_of kind c) at child right
  others = record {
    bodies = others_body;
    frees = others_free;
    root = ap (λ (z : Header). place_of z.root_pointer) set.header;
    levels = ap (λ (z : Header). z.levels - 1) set.header;
    free = ap (λ (z : Header). place_of z.free_pointer) set.header;
    size = set.size;
  }

  -- the page above
  parent : (sep : Key) → IsBetween kind A A2 right k sep left → (keys : List (Key × ℕ)) (last : ℕ) → (state_of kind c0).bodies at ≡ Some (inner_body keys last)
      → (state_of kind c).bodies at ≡ Some (inner_body (keys_split kind keys last k sep right) (last_split kind keys last k right))
  parent sep w keys last e =
      let f = inner-fields kind (page_in c0 at) keys last e in
      let k1 : children_in (rows_of A) ≡ keys = ap (λ (z : List ℕ). children_in (rows_of z)) (sym page_at_is) ∙ f.1 in
      let l1 : place_of (links_of A).overflow ≡ last = ap (λ (z : List ℕ). place_of (links_of z).overflow) (sym page_at_is) ∙ f.2 in
      let i = (inner-page kind c0 (right ∷ reached) t fs d k at tree level on_way).0 in
      let old : 2 ≤ place_of (links_of A).overflow = subst (λ (z : List ℕ). 2 ≤ place_of (links_of z).overflow) page_at_is (child-two_or_more (length c0) (place_of (links_of (page_in c0 at)).overflow) i.last) in
      let big : 2 ≤ place_of (links_of A2).overflow =
      subst (λ z. 2 ≤ z) (sym w.last) (last-of_two (λ z. 2 ≤ z) kind (children_in (rows_of A)) (place_of (links_of A).overflow) k right old (child-two_or_more (length c0) right placed)) in
      ap (body_in kind) (set-above set at_places.0) ∙ says-inner kind A2 pA2 big
      ∙ ap₂ (λ x y. Some (inner_body x y)) (w.keys ∙ ap₂ (λ x y. keys_split kind x y k sep right) k1 l1) (w.last ∙ ap₂ (λ x y. last_split kind x y k right) k1 l1)

  -- pages that values reach are none of these
  reached_off : (x y : ℕ) → 1 ≤ times x reached → 1 ≤ times y (met_by t) → x ≢ y
  reached_off x y i j = λ e. let m : 1 ≤ times y reached = subst (λ w. 1 ≤ times w reached) e i in no (omega (arith, m, j, once y, more y))
    where
      no : 1 ≤ 0 → ⊥
      no e = omega (arith, e)

      more : (y : ℕ) → times y reached ≤ times y (right ∷ reached)
      more y = omega arith

  reached_right : (x : ℕ) → 1 ≤ times x reached → x ≢ right
  reached_right x i = λ e. let m : 1 ≤ times right reached = subst (λ w. 1 ≤ times w reached) e i in no (omega (arith, m, once right, one right reached))
    where
      no : 1 ≤ 0 → ⊥
      no e = omega (arith, e)

  reached_next : (x : ℕ) → 1 ≤ times x reached → x ≢ next
  reached_next x i = by_test (next == 0) refl
    where
      no : 1 ≤ 0 → ⊥
      no e = omega (arith, e)

      zero_off : x ≢ 0
      zero_off = λ e. let m : 1 ≤ times 0 reached = subst (λ w. 1 ≤ times w reached) e i in no (omega (arith, m, tree.built.once 0, self 0 [], held_most (length c0) 0, more))
        where
          more : times 0 reached ≤ times 0 (right ∷ reached)
          more = omega arith

      by_test : (z : Bool) → (next == 0) ≡ z → x ≢ next
      by_test true e = λ q. zero_off (q ∙ eq_yes next 0 e)
      by_test false e = reached_off x next i (next_met (eq_off next 0 e))

  pub split-leaf_off : (sep : Key) × SplitOff kind (state_of kind c0) (state_of kind c) reached at child k right sep × (at_most kind k sep ≡ left)
  split-leaf_off =
      let w = halves up_A up_B in
      let left_body : (state_of kind c).bodies child ≡ Some (leaf_body (rows_of B2)) =
      ap (body_in kind) (set-below set child_places.0 child_not_at child_not_next (not_right child in_child)) ∙ says-leaf kind B2 pB2 (ap (λ (l : Links). l.overflow) linksB ∙ leafB.overflow) in
      let right_body : (state_of kind c).bodies right ≡ Some (leaf_body (rows_of H)) =
      ap (body_in kind) (set-right set placed.0 right_not_at right_not_next) ∙ says-leaf kind H pH (ap (λ (l : Links). l.overflow) linksH ∙ leafB.overflow) in (
        w.0,
        record {
          others = others;
          parent = parent w.0 w.2;
          child = subst (λ z. SplitChild (state_of kind c0) (state_of kind c) child right w.0 z) (sym body_child)
              (w.1.front, w.1.value, w.1.next.0, w.1.next.1, w.1.back, w.1.rows_are, left_body ∙ ap (λ l. Some (leaf_body l)) w.1.left_are, right_body ∙ ap (λ l. Some (leaf_body l)) w.1.right_are, split_links);
          left_room = subst (λ (p : List ℕ). IsRoomy p) (sym (set-below set child_places.0 child_not_at child_not_next (not_right child in_child))) roomB;
          right_room = subst (λ (p : List ℕ). IsRoomy p) (sym (set-right set placed.0 right_not_at right_not_next)) roomH;
          stay = λ x i. set-others set x (reached_off x at i in_at) (reached_next x i) (reached_right x i) (reached_off x child i in_child);
        },
        w.2.way,
      )
