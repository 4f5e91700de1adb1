-- A leaf with one row goes from a tree, in the bytes of a stream.
use Rattle.std.proofs.Common.{◌≡◌, ◌≢◌, ◌≤◌, ◌+◌, ◌-◌, ℕ, ℤ, suc, List, [], ◌∷◌, ◌++◌, length, Some, Bool, true, false, ◌==◌, refl, ap, ap₂, sym, ◌∙◌, subst, arith}
use Rattle.bfs_base.specs.Lists.{times}
use Rattle.bfs_base.specs.declared.kind.KeyKind.{KeyKind}
use Rattle.bfs_node.specs.declared.header.Header.{Header}
use Rattle.bfs_node.specs.Page.{rows_of}
use Rattle.bfs_pages.specs.Answers.{IsInteriorPage, IsLeafPage}
use Rattle.bfs_pages.specs.Maps.{without}
use Rattle.bfs_pages.specs.Order.{Key}
use Rattle.bfs_pages.specs.Shapes.{inner_body, leaf_body, Shape, Shapes, leaf_shape, node_shape, last_shape, more_shapes, place, met_by, met_by_all, leaves_of, tree_rows, children_of, last_child, IsDeep, Stands, entries_of, AscendAll}
use Rattle.bfs_pages.specs.Trees.{state_of, header_in, page_in, place_of, body_in, free_in, neighbours_in, head_or, Linked, Holds, IsTree}
use Rattle.bfs_pages.specs.Ways.{child_for, under, instead, leaves_before_way, leaves_behind_way}
use Rattle.bfs_pages.proofs.Splice.{same_shape, self, times-append}
use Rattle.bfs_pages.proofs.Way.{times-under, times-child, child-deep, child-stands, leaves-under}
use Rattle.bfs_pages.proofs.Laws.{one}
use Rattle.bfs_pages.proofs.Exchange.{stands-under, met-once}
use Rattle.bfs_pages.proofs.Leaves.{times-leaves, linked-at}
use Rattle.bfs_pages.proofs.Placed.{held_most}
use Rattle.bfs_pages.proofs.Says.{says-leaf}
use Rattle.bfs_pages.proofs.Good.{page-true}
use Rattle.bfs_pages.proofs.Descent.{deep-under}
use Rattle.bfs_pages.proofs.OfKind.{inner-page, leaf-any, bounds-rise, under-ascends}
use Rattle.bfs_remove.specs.Cuts.{dropped, DropLinks, HasMore, InHand, IsLine, Marked, IsFilled}
use Rattle.bfs_pages.specs.Writes.{SamePages}
use Rattle.bfs_remove.specs.Removed.{IsDropped, IsMended}
use Rattle.bfs_remove.specs.declared.way.Branch.{Branch}
use Rattle.bfs_remove.proofs.Dropping.{drop-child, keys-dropped, linked-drop}
use Rattle.bfs_remove.proofs.Filled.{drop-filled}
use Rattle.bfs_remove.proofs.Marking.{line-chain, line-rows, under-both}

eq_yes : (a b : ℕ) → (a == b) ≡ true → a ≡ b
eq_yes a b e = grind (arith, e)

eq_off : (a b : ℕ) → (a == b) ≡ false → a ≢ b
eq_off a b e q = grind (arith, e, q)

off : (x y : ℕ) → times x (y ∷ []) ≡ 0 → x ≢ y
off x y i = λ e. grind (arith, i, e)

-- the left neighbour of a page of a list is before it there
before-in : (links : ℕ → ℕ × ℕ) (prev : ℕ) (xs : List ℕ) (p : ℕ) (ys : List ℕ) → Linked links prev (xs ++ (p ∷ ys)) 0 → (links p).0 ≢ prev → 1 ≤ times (links p).0 xs
before-in links prev [] p ys l n = absurd (n (ap (λ w. w.0) l.0))
before-in links prev (x ∷ xs) p ys l n = by_test ((links p).0 == x) refl (before-in links x xs p ys l.1)
  where
    by_test : (c : Bool) → ((links p).0 == x) ≡ c → ((links p).0 ≢ x → 1 ≤ times (links p).0 xs) → 1 ≤ times (links p).0 (x ∷ xs)
    by_test true e ih = subst (λ w. 1 ≤ times w (x ∷ xs)) (sym (eq_yes (links p).0 x e)) (self x xs)
    by_test false e ih = let m = ih (eq_off (links p).0 x e) in omega (arith, m)

behind-in : (links : ℕ → ℕ × ℕ) (xs : List ℕ) (p : ℕ) (ys : List ℕ) → Linked links 0 (xs ++ (p ∷ ys)) 0 → (links p).1 ≢ 0 → 1 ≤ times (links p).1 ys
behind-in links xs p ys l n = by_list ys (linked-at links 0 xs p ys 0 l)
  where
    by_list : (ys : List ℕ) → (links p).1 ≡ head_or 0 ys → 1 ≤ times (links p).1 ys
    by_list [] e = absurd (n e)
    by_list (y ∷ ys) e = subst (λ z. 1 ≤ times z (y ∷ ys)) (sym e) (self y ys)

-- what mending keeps
mended-bodies : (kind : KeyKind) (b c : List ℕ) (at : ℕ) (ends : ℕ × ℕ) → IsMended kind b c at ends → (x : ℕ) → body_in kind (page_in c x) ≡ body_in kind (page_in b x)
mended-bodies kind b c at ends m x = by_test (x == at) refl
  where
    by_test : (t : Bool) → (x == at) ≡ t → body_in kind (page_in c x) ≡ body_in kind (page_in b x)
    by_test true e = ap (λ z. body_in kind (page_in c z)) (eq_yes x at e) ∙ m.body ∙ ap (λ z. body_in kind (page_in b z)) (sym (eq_yes x at e))
    by_test false e = ap (body_in kind) (m.pages x (eq_off x at e))

mended-frees : (kind : KeyKind) (b c : List ℕ) (at : ℕ) (ends : ℕ × ℕ) → IsMended kind b c at ends → (x : ℕ) → free_in (page_in c x) ≡ free_in (page_in b x)
mended-frees kind b c at ends m x = by_test (x == at) refl
  where
    by_test : (t : Bool) → (x == at) ≡ t → free_in (page_in c x) ≡ free_in (page_in b x)
    by_test true e = ap (λ z. free_in (page_in c z)) (eq_yes x at e) ∙ m.free ∙ ap (λ z. free_in (page_in b z)) (sym (eq_yes x at e))
    by_test false e = ap free_in (m.pages x (eq_off x at e))

module _ (kind : KeyKind) (b reached : List ℕ) (t : Shape) (fs : List ℕ) (k : Key) (v : ℤ) (at : ℕ) (branch : Branch) (tree : IsTree kind b reached t fs) (leaf : under kind (state_of kind b).levels t k ≡ leaf_shape at ((k, v) ∷ [])) (mark : Marked kind (state_of kind b).levels t k (Some branch)) where
  depth : ℕ
  depth = mark.0

  below : Shapes
  below = mark.1

  levels_are : (state_of kind b).levels ≡ suc (depth + branch.below)
  unfolding depth
  levels_are = mark.2

  node_is : under kind depth t k ≡ node_shape branch.page below
  unfolding depth below
  node_is = mark.3

  more : HasMore below
  unfolding below
  more = mark.4

  child_place : place (child_for kind below k) ≡ branch.child
  unfolding below
  child_place = mark.5

  line : IsLine branch.below (child_for kind below k)
  unfolding below
  line = mark.6

  once : (x : ℕ) → times x (met_by t) + times x reached + times x fs ≤ 1
  once x = met-once (state_of kind b) reached t fs tree.holds.built x

  -- the branch is an interior page
  pub branch-interior : IsInteriorPage kind (length b) (page_in b branch.page)
  branch-interior = (inner-page kind b reached t fs depth k branch.page tree.holds (omega (arith, levels_are)) (ap place node_is)).0

  branch_stands : Stands (state_of kind b).bodies (node_shape branch.page below)
  branch_stands = subst (λ z. Stands (state_of kind b).bodies z) node_is (stands-under kind (state_of kind b).bodies depth t k tree.holds.built.stands)

  branch_met : 1 ≤ times branch.page (met_by t)
  branch_met =
      let m : times branch.page (met_by (node_shape branch.page below)) ≤ times branch.page (met_by t) = subst (λ u. times branch.page (met_by u) ≤ times branch.page (met_by t)) node_is (times-under kind branch.page depth t k) in
      omega (arith, m, self branch.page (met_by_all below))

  -- the leaf among the leaves
  front : List ℕ
  front = leaves_before_way kind (state_of kind b).levels t k

  back : List ℕ
  back = leaves_behind_way kind (state_of kind b).levels t k

  leaves_are : leaves_of t ≡ leaves_before_way kind (state_of kind b).levels t k ++ (at ∷ leaves_behind_way kind (state_of kind b).levels t k)
  leaves_are = leaves-under kind (state_of kind b).levels t k ∙ ap (λ u. leaves_before_way kind (state_of kind b).levels t k ++ (leaves_of u ++ leaves_behind_way kind (state_of kind b).levels t k)) leaf

  linked : Linked (state_of kind b).links 0 (leaves_before_way kind (state_of kind b).levels t k ++ (at ∷ leaves_behind_way kind (state_of kind b).levels t k)) 0
  linked = subst (λ z. Linked (state_of kind b).links 0 z 0) leaves_are tree.holds.linked

  leaves_times : (x : ℕ) → times x (leaves_before_way kind (state_of kind b).levels t k) + times x (at ∷ leaves_behind_way kind (state_of kind b).levels t k) ≤ times x (met_by t)
  leaves_times x =
      let m : times x (leaves_of t) ≡ times x (leaves_before_way kind (state_of kind b).levels t k ++ (at ∷ leaves_behind_way kind (state_of kind b).levels t k)) = ap (times x) leaves_are in
      omega (arith, m, times-leaves x t, times-append x (leaves_before_way kind (state_of kind b).levels t k) (at ∷ leaves_behind_way kind (state_of kind b).levels t k))

  left_in : (neighbours_in (page_in b at)).0 ≢ 0 → 1 ≤ times (neighbours_in (page_in b at)).0 (leaves_before_way kind (state_of kind b).levels t k)
  left_in n = before-in (state_of kind b).links 0 (leaves_before_way kind (state_of kind b).levels t k) at (leaves_behind_way kind (state_of kind b).levels t k) linked n

  right_in : (neighbours_in (page_in b at)).1 ≢ 0 → 1 ≤ times (neighbours_in (page_in b at)).1 (leaves_behind_way kind (state_of kind b).levels t k)
  right_in n = behind-in (state_of kind b).links (leaves_before_way kind (state_of kind b).levels t k) at (leaves_behind_way kind (state_of kind b).levels t k) linked n

  some_leaf : (x : ℕ) → 1 ≤ times x (leaves_before_way kind (state_of kind b).levels t k) + times x (leaves_behind_way kind (state_of kind b).levels t k) → 1 ≤ times x (leaves_of t)
  some_leaf x i =
      let m : times x (leaves_of t) ≡ times x (leaves_before_way kind (state_of kind b).levels t k ++ (at ∷ leaves_behind_way kind (state_of kind b).levels t k)) = ap (times x) leaves_are in
      omega (arith, i, m, times-append x (leaves_before_way kind (state_of kind b).levels t k) (at ∷ leaves_behind_way kind (state_of kind b).levels t k), one-more x)
    where
      one-more : (x : ℕ) → times x (leaves_behind_way kind (state_of kind b).levels t k) ≤ times x (at ∷ leaves_behind_way kind (state_of kind b).levels t k)
      one-more x = omega arith

  pub left-leaf : (neighbours_in (page_in b at)).0 ≢ 0 → IsLeafPage kind (length b) (page_in b (neighbours_in (page_in b at)).0)
  left-leaf n = leaf-any kind b reached t fs (neighbours_in (page_in b at)).0 tree.holds (some_leaf (neighbours_in (page_in b at)).0 (omega (arith, left_in n)))

  pub right-leaf : (neighbours_in (page_in b at)).1 ≢ 0 → IsLeafPage kind (length b) (page_in b (neighbours_in (page_in b at)).1)
  right-leaf n = leaf-any kind b reached t fs (neighbours_in (page_in b at)).1 tree.holds (some_leaf (neighbours_in (page_in b at)).1 (omega (arith, right_in n)))

  -- a neighbour is a leaf, so it isn't the branch
  not_branch : (x : ℕ) → IsLeafPage kind (length b) (page_in b x) → x ≢ branch.page
  not_branch x l = λ e. differ (sym (says x l) ∙ ap (λ z. body_in kind (page_in b z)) e ∙ branch_stands.0)
    where
      says : (x : ℕ) → IsLeafPage kind (length b) (page_in b x) → body_in kind (page_in b x) ≡ Some (leaf_body (rows_of (page_in b x)))
      says x l = says-leaf kind (page_in b x) (page-true kind (page_in b x) l.good) l.overflow

      differ : Some (leaf_body (rows_of (page_in b x))) ≡ Some (inner_body (children_of below) (last_child below)) → ⊥
      differ e = cc

  module _ (c1 : List ℕ) (left : ℕ) (left_is : left ≡ (neighbours_in (page_in b at)).0) (drop : IsDropped kind b c1 branch.page k) where
    left_off : left ≢ 0 → left ≢ branch.page
    left_off n = not_branch left (subst (λ x. IsLeafPage kind (length b) (page_in b x)) (sym left_is) (left-leaf (λ e. n (left_is ∙ e))))

    -- the page to the left, as the call reads it
    pub left-read : left ≢ 0 → IsLeafPage kind (length c1) (page_in c1 left)
    left-read n =
        subst (λ m. IsLeafPage kind m (page_in c1 left)) (sym drop.size)
        (subst (λ p. IsLeafPage kind (length b) p) (sym (drop.pages left (left_off n))) (subst (λ x. IsLeafPage kind (length b) (page_in b x)) (sym left_is) (left-leaf (λ e. n (left_is ∙ e)))))

    module _ (c2 : List ℕ) (right : ℕ) (right_is : right ≡ (neighbours_in (page_in b at)).1) (mend1 : IsMended kind c1 c2 left ((neighbours_in (page_in c1 left)).0, right)) where
      right_off : right ≢ 0 → right ≢ branch.page
      right_off n = not_branch right (subst (λ x. IsLeafPage kind (length b) (page_in b x)) (sym right_is) (right-leaf (λ e. n (right_is ∙ e))))

      apart : left ≢ 0 → right ≢ 0 → left ≢ right
      apart n m = λ e.
          let i : 1 ≤ times left (leaves_before_way kind (state_of kind b).levels t k) = subst (λ x. 1 ≤ times x (leaves_before_way kind (state_of kind b).levels t k)) (sym left_is) (left_in (λ z. n (left_is ∙ z))) in
          let j : 1 ≤ times right (leaves_behind_way kind (state_of kind b).levels t k) = subst (λ x. 1 ≤ times x (leaves_behind_way kind (state_of kind b).levels t k)) (sym right_is) (right_in (λ z. m (right_is ∙ z))) in
          let o : 1 ≤ times left (leaves_behind_way kind (state_of kind b).levels t k) = subst (λ x. 1 ≤ times x (leaves_behind_way kind (state_of kind b).levels t k)) (sym e) j in
          omega (arith, i, o, leaves_times left, once left, one-more left)
        where
          one-more : (x : ℕ) → times x (leaves_behind_way kind (state_of kind b).levels t k) ≤ times x (at ∷ leaves_behind_way kind (state_of kind b).levels t k)
          one-more x = omega arith

      right_not_left : right ≢ 0 → right ≢ left
      right_not_left n = λ e. by_test (left == 0) refl e
        where
          by_test : (z : Bool) → (left == 0) ≡ z → right ≡ left → ⊥
          by_test true i e = n (e ∙ eq_yes left 0 i)
          by_test false i e = apart (eq_off left 0 i) n (sym e)

      right_kept : right ≢ 0 → page_in c2 right ≡ page_in b right
      right_kept n = mend1.pages right (right_not_left n) ∙ drop.pages right (right_off n)

      pub right-read : right ≢ 0 → IsLeafPage kind (length c2) (page_in c2 right)
      right-read n =
          subst (λ m. IsLeafPage kind m (page_in c2 right)) (sym (mend1.size ∙ drop.size))
          (subst (λ p. IsLeafPage kind (length b) p) (sym (right_kept n)) (subst (λ x. IsLeafPage kind (length b) (page_in b x)) (sym right_is) (right-leaf (λ e. n (right_is ∙ e)))))

      module _ (c3 : List ℕ) (mend2 : IsMended kind c2 c3 right (left, (neighbours_in (page_in c2 right)).1)) where
        bodies_same : (x : ℕ) → x ≢ branch.page → body_in kind (page_in c3 x) ≡ body_in kind (page_in b x)
        bodies_same x n = mended-bodies kind c2 c3 right (left, (neighbours_in (page_in c2 right)).1) mend2 x ∙ mended-bodies kind c1 c2 left ((neighbours_in (page_in c1 left)).0, right) mend1 x ∙ ap (body_in kind) (drop.pages x n)

        frees_same : (x : ℕ) → x ≢ branch.page → free_in (page_in c3 x) ≡ free_in (page_in b x)
        frees_same x n = mended-frees kind c2 c3 right (left, (neighbours_in (page_in c2 right)).1) mend2 x ∙ mended-frees kind c1 c2 left ((neighbours_in (page_in c1 left)).0, right) mend1 x ∙ ap free_in (drop.pages x n)

        branch_body : body_in kind (page_in c3 branch.page) ≡ Some (inner_body (children_of (dropped kind below k)) (last_child (dropped kind below k)))
        branch_body =
            let d = keys-dropped kind below k more in
            mended-bodies kind c2 c3 right (left, (neighbours_in (page_in c2 right)).1) mend2 branch.page ∙ mended-bodies kind c1 c2 left ((neighbours_in (page_in c1 left)).0, right) mend1 branch.page
            ∙ drop.body (children_of below) (last_child below) branch_stands.0 (bounds-rise kind below (subst (λ u. AscendAll kind (entries_of u)) node_is (under-ascends kind depth t k tree.holds.ascends))) (some_keys below more)
            ∙ ap₂ (λ x y. Some (inner_body x y)) (sym d.0) (sym d.1)
          where
            some_keys : (ts : Shapes) → HasMore ts → 1 ≤ length (children_of ts)
            some_keys (last_shape u) h = absurd h
            some_keys (more_shapes u key us) h = omega arith

        links_left : left ≢ 0 → neighbours_in (page_in c3 left) ≡ ((neighbours_in (page_in b left)).0, right)
        links_left n = by_test (right == left) refl
          where
            kept : neighbours_in (page_in c2 left) ≡ ((neighbours_in (page_in b left)).0, right)
            kept = mend1.ends_are n ∙ ap (λ z. ((neighbours_in z).0, right)) (drop.pages left (left_off n))

            by_test : (z : Bool) → (right == left) ≡ z → neighbours_in (page_in c3 left) ≡ ((neighbours_in (page_in b left)).0, right)
            by_test true e = absurd (by_zero (right == 0) refl (eq_yes right left e))
              where
                by_zero : (z : Bool) → (right == 0) ≡ z → right ≡ left → ⊥
                by_zero true i q = n (sym q ∙ eq_yes right 0 i)
                by_zero false i q = right_not_left (eq_off right 0 i) q
            by_test false e = ap neighbours_in (mend2.pages left (λ q. eq_off right left e (sym q))) ∙ kept

        links_right : right ≢ 0 → neighbours_in (page_in c3 right) ≡ (left, (neighbours_in (page_in b right)).1)
        links_right n = mend2.ends_are n ∙ ap (λ z. (left, (neighbours_in z).1)) (right_kept n)

        links_others : (x : ℕ) → x ≢ left → x ≢ right → neighbours_in (page_in c3 x) ≡ neighbours_in (page_in b x)
        links_others x n m = ap neighbours_in (mend2.pages x m) ∙ ap neighbours_in (mend1.pages x n) ∙ by_test (x == branch.page) refl
          where
            by_test : (z : Bool) → (x == branch.page) ≡ z → neighbours_in (page_in c1 x) ≡ neighbours_in (page_in b x)
            by_test true e = ap (λ z. neighbours_in (page_in c1 z)) (eq_yes x branch.page e) ∙ drop.ends ∙ ap (λ z. neighbours_in (page_in b z)) (sym (eq_yes x branch.page e))
            by_test false e = ap neighbours_in (drop.pages x (eq_off x branch.page e))

        drop_links : DropLinks (state_of kind b).links (state_of kind c3).links at
        drop_links = record {
          left = λ n. subst (λ z. neighbours_in (page_in c3 z) ≡ ((neighbours_in (page_in b z)).0, (neighbours_in (page_in b at)).1)) left_is (links_left (λ e. n (sym left_is ∙ e)) ∙ ap (λ z. ((neighbours_in (page_in b left)).0, z)) right_is);
          right = λ n. subst (λ z. neighbours_in (page_in c3 z) ≡ ((neighbours_in (page_in b at)).0, (neighbours_in (page_in b z)).1)) right_is (links_right (λ e. n (sym right_is ∙ e)) ∙ ap (λ z. (z, (neighbours_in (page_in b right)).1)) left_is);
          others = λ x n m. links_others x (λ e. n (e ∙ left_is)) (λ e. m (e ∙ right_is));
        }

        same_way : under kind (state_of kind b).levels t k ≡ under kind branch.below (child_for kind below k) k
        same_way = ap (λ m. under kind m t k) levels_are ∙ under-both kind depth branch.below t k branch.page below node_is

        child_rows : tree_rows (child_for kind below k) ≡ (k, v) ∷ []
        child_rows = sym (line-rows kind branch.below (child_for kind below k) k line) ∙ ap tree_rows (sym same_way ∙ leaf)

        child_deep : IsDeep branch.below (child_for kind below k)
        child_deep =
            let a = deep-under kind (state_of kind b).levels depth t k tree.holds.built.deep (omega (arith, levels_are)) in
            let d : a.0 ≡ suc branch.below = omega (arith, a.1, levels_are) in
            child-deep kind branch.below below k (subst (λ z. IsDeep z (node_shape branch.page below)) d (subst (λ z. IsDeep a.0 z) node_is a.2))

        lost : Holds kind (state_of kind c3) (met_by (child_for kind below k) ++ reached) (instead kind depth t k (node_shape branch.page (dropped kind below k))) fs
            × (tree_rows (instead kind depth t k (node_shape branch.page (dropped kind below k))) ≡ without kind (tree_rows t) k)
        lost =
            drop-child kind (state_of kind b) (state_of kind c3) reached t fs depth k branch.page v at below tree.holds node_is more child_rows
            (line-chain kind branch.below (child_for kind below k) at k line child_deep (ap place (sym same_way ∙ leaf)))
            (record {
              bodies = λ x i. bodies_same x (off x branch.page i);
              frees = λ x i. frees_same x (off x branch.page i);
              root = ap (λ (z : Header). place_of z.root_pointer) headers;
              levels = ap (λ (z : Header). z.levels - 1) headers;
              free = ap (λ (z : Header). place_of z.free_pointer) headers;
              size = mend2.size ∙ mend1.size ∙ drop.size;
            })
            branch_body
            (λ xs ys e. linked-drop (state_of kind b).links (state_of kind c3).links 0 xs at ys (subst (λ z. Linked (state_of kind b).links 0 z 0) e tree.holds.linked) drop_links (λ x. subst (λ z. times x z ≤ 1) e (omega (arith, times-leaves x t, once x))) (subst (λ z. times 0 z ≡ 0) e none) (subst (λ z. times 0 z ≡ 0) e none))
          where
            headers : header_in c3 ≡ header_in b
            headers = mend2.header ∙ mend1.header ∙ drop.header

            none : times 0 (leaves_of t) ≡ 0
            none = omega (arith, times-leaves 0 t, tree.holds.built.once 0, self 0 [], held_most (length b) 0)

        pub leaf-lost : (t2 : Shape) × (u : Shape) × InHand kind (state_of kind c3) reached branch.child branch.below t2 fs u × (tree_rows t2 ≡ without kind (tree_rows t) k) × SamePages reached b c3 × (IsFilled t → IsFilled t2)
        leaf-lost = (
          instead kind depth t k (node_shape branch.page (dropped kind below k)),
          child_for kind below k,
          record {
            holds = lost.0;
            stands = same_shape (state_of kind b).bodies (state_of kind c3).bodies (child_for kind below k) (λ x i. bodies_same x (not_above x i)) (child-stands kind (state_of kind b).bodies below k branch_stands.1);
            line = line;
            deep = child_deep;
            begins = child_place;
          },
          lost.1,
          λ x i. mend2.pages x (not_right x i) ∙ mend1.pages x (not_left x i) ∙ drop.pages x (not_met x branch.page i branch_met),
          drop-filled kind depth t k branch.page below node_is more,
        )
          where
            not_above : (x : ℕ) → 1 ≤ times x (met_by (child_for kind below k)) → x ≢ branch.page
            not_above x i = λ e.
                let m : 1 ≤ times branch.page (met_by (child_for kind below k)) = subst (λ w. 1 ≤ times w (met_by (child_for kind below k))) e i in
                let o : times branch.page (met_by (node_shape branch.page below)) ≤ 1 = subst (λ u. times branch.page (met_by u) ≤ 1) node_is (omega (arith, times-under kind branch.page depth t k, once branch.page)) in
                omega (arith, m, o, times-child kind branch.page below k, one branch.page (met_by_all below))

            not_met : (x y : ℕ) → 1 ≤ times x reached → 1 ≤ times y (met_by t) → x ≢ y
            not_met x y i j = λ e. let m : 1 ≤ times y reached = subst (λ w. 1 ≤ times w reached) e i in omega (arith, m, j, once y)

            not_zero : (x : ℕ) → 1 ≤ times x reached → x ≢ 0
            not_zero x i = λ e. let m : 1 ≤ times 0 reached = subst (λ w. 1 ≤ times w reached) e i in omega (arith, m, tree.holds.built.once 0, self 0 [], held_most (length b) 0)

            not_left : (x : ℕ) → 1 ≤ times x reached → x ≢ left
            not_left x i = by_test (left == 0) refl
              where
                by_test : (z : Bool) → (left == 0) ≡ z → x ≢ left
                by_test true e = λ q. not_zero x i (q ∙ eq_yes left 0 e)
                by_test false e =
                    let m : 1 ≤ times left (leaves_before_way kind (state_of kind b).levels t k) = subst (λ w. 1 ≤ times w (leaves_before_way kind (state_of kind b).levels t k)) (sym left_is) (left_in (λ z. eq_off left 0 e (left_is ∙ z))) in
                    not_met x left i (omega (arith, m, leaves_times left))

            not_right : (x : ℕ) → 1 ≤ times x reached → x ≢ right
            not_right x i = by_test (right == 0) refl
              where
                one-more : (x : ℕ) → times x (leaves_behind_way kind (state_of kind b).levels t k) ≤ times x (at ∷ leaves_behind_way kind (state_of kind b).levels t k)
                one-more x = omega arith

                by_test : (z : Bool) → (right == 0) ≡ z → x ≢ right
                by_test true e = λ q. not_zero x i (q ∙ eq_yes right 0 e)
                by_test false e =
                    let m : 1 ≤ times right (leaves_behind_way kind (state_of kind b).levels t k) = subst (λ w. 1 ≤ times w (leaves_behind_way kind (state_of kind b).levels t k)) (sym right_is) (right_in (λ z. eq_off right 0 e (right_is ∙ z))) in
                    not_met x right i (omega (arith, m, leaves_times right, one-more right))
