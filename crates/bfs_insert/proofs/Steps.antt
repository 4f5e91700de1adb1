-- One step down the way of a key.
use Rattle.std.proofs.Common.{◌≡◌, ◌≢◌, ◌≤◌, ℕ, suc, List, [], ◌∷◌, ◌++◌, Option, Some, None, Bool, true, false, cond, ◌==◌, refl, ap, ap₂, sym, ◌∙◌, subst, arith, inl, inr}
use Rattle.bfs_base.specs.declared.kind.KeyKind.{KeyKind}
use Rattle.bfs_node.specs.Page.{Row}
use Rattle.bfs_pages.specs.Order.{Key, at_most}
use Rattle.bfs_pages.specs.Shapes.{Body, leaf_body, inner_body, Shape, Shapes, leaf_shape, node_shape, last_shape, more_shapes, place, tree_rows, children_of, last_child, Stands}
use Rattle.bfs_pages.specs.Changes.{Taken}
use Rattle.bfs_insert.specs.Growth.{SplitChild, SplitOff}
use Rattle.bfs_pages.specs.Trees.{State, Holds}
use Rattle.bfs_pages.specs.Ways.{child_for, joined, spliced, under}
use Rattle.bfs_pages.proofs.Way.{child-stands}
use Rattle.bfs_pages.proofs.Exchange.{child-two, under-instead}
use Rattle.bfs_pages.proofs.Descent.{under-suc, node-at}
use Rattle.bfs_insert.proofs.Split.{split-leaf, split_tree}
use Rattle.bfs_insert.proofs.Inner.{split-inner, apart, take-free, take-new}

pub taken : (kind : KeyKind) → (st new : State) (loose : List ℕ) (t : Shape) (fs : List ℕ) (q : ℕ) → Holds kind st loose t fs → 1 ≤ st.size → Taken st new q → (fs2 : List ℕ) × Holds kind new (q ∷ loose) t fs2 × (1 ≤ new.size)
taken kind st new loose t fs q h some (same, root, levels, inl f) = from_list fs h
  where
    all_same : {A : Type 0} (a b : ℕ → A) → ((x : ℕ) → x ≢ q → a x ≡ b x) → a q ≡ b q → (x : ℕ) → a x ≡ b x
    all_same a b h e x = by_test (x == q) refl
      where
        eq_yes : (a b : ℕ) → (a == b) ≡ true → a ≡ b
        eq_yes a b e = grind (arith, e)

        eq_no : (a b : ℕ) → (a == b) ≡ false → a ≢ b
        eq_no a b e = grind (arith, e)

        by_test : (c : Bool) → (x == q) ≡ c → a x ≡ b x
        by_test true i = ap a (eq_yes x q i) ∙ e ∙ ap b (sym (eq_yes x q i))
        by_test false i = h x (eq_no x q i)

    from_list : (fs : List ℕ) → Holds kind st loose t fs → (fs2 : List ℕ) × Holds kind new (q ∷ loose) t fs2 × (1 ≤ new.size)
    from_list [] h = absurd (f.0 h.built.chain)
    from_list (y ∷ ys) h =
        let e : y ≡ q = sym h.built.chain.0 ∙ sym f.1 in (
          ys,
          subst (λ z. Holds kind new (z ∷ loose) t ys) e
              (take-free kind st new loose t y ys h (all_same new.bodies st.bodies same.bodies f.4) (all_same new.frees st.frees same.frees f.3) (all_same new.links st.links same.links f.5) root levels f.6 (sym f.2 ∙ ap st.frees (sym e))),
          omega (arith, some, f.6),
        )
taken kind st new loose t fs q h some (same, root, levels, inr f) = (
  fs,
  subst (λ z. Holds kind new (z ∷ loose) t fs) (sym f.1)
      (take-new kind st new loose t fs h (λ x n. same.bodies x (off x n)) (λ x n. same.frees x (off x n)) (λ x n. same.links x (off x n)) root levels f.2 f.3 f.4),
  omega (arith, some, f.3),
)
  where
    off : (x : ℕ) → x ≢ st.size → x ≢ q
    off x n = λ e. n (e ∙ f.1)

pub split-step : (kind : KeyKind) → (st new : State) (q : ℕ) (loose : List ℕ) (t : Shape) (fs : List ℕ) (d : ℕ) (k : Key) (at c : ℕ) (sep : Key) → Holds kind st (q ∷ loose) t fs → 1 ≤ st.size → suc d ≤ st.levels → place (under kind d t k) ≡ at → place (under kind (suc d) t k) ≡ c → SplitOff kind st new loose at c k q sep
    → (t2 : Shape) × Holds kind new loose t2 fs × (tree_rows t2 ≡ tree_rows t) × (place (under kind (suc d) t2 k) ≡ cond (at_most kind k sep) c q)
split-step kind st new q loose t fs d k at c sep h some l e ec s =
    let n = node-at kind st (q ∷ loose) t fs d k at h l e in
    by_child n.0 n.1 n.2 n.3 (child_for kind n.0 k) refl (st.bodies c) refl s.child
  where
    way : (below : Shapes) (left : Shape) (right : Shape) → place left ≡ c → place right ≡ q → place (under kind (suc d) (split_tree kind d t k at below left sep right) k) ≡ cond (at_most kind k sep) c q
    way below left right pl pr =
        ap place (under-suc kind d (split_tree kind d t k at below left sep right) k at (spliced kind below k (more_shapes left sep (last_shape right))) (under-instead kind st.levels d t k (node_shape at (spliced kind below k (more_shapes left sep (last_shape right)))) h.built.deep (omega (arith, l)))
        ∙ child-two kind below k left sep right) ∙ choose (at_most kind k sep)
      where
        choose : (b : Bool) → place (cond b left right) ≡ cond b c q
        choose true = pl
        choose false = pr

    by_child : (below : Shapes) → under kind d t k ≡ node_shape at below → Stands st.bodies (node_shape at below) → under kind (suc d) t k ≡ child_for kind below k → (u : Shape) → child_for kind below k ≡ u → (p : Option Body) → st.bodies c ≡ p → SplitChild st new c q sep p
        → (t2 : Shape) × Holds kind new loose t2 fs × (tree_rows t2 ≡ tree_rows t) × (place (under kind (suc d) t2 k) ≡ cond (at_most kind k sep) c q)
    by_child below is stands next u isu None isp sc = absurd sc
    by_child below is stands next (leaf_shape y rows) isu (Some (leaf_body own)) isp (l0, v, b, w, r, falls, bc, bq, links) =
        let y_c : y ≡ c = sym (ap place isu) ∙ sym (ap place next) ∙ ec in
        let own_st : st.bodies y ≡ Some (leaf_body rows) = subst (λ z. Stands st.bodies z) isu (child-stands kind st.bodies below k stands.1) in
        let rr : Some (leaf_body own) ≡ Some (leaf_body rows) = sym isp ∙ ap st.bodies (sym y_c) ∙ own_st in
        let shape : child_for kind below k ≡ leaf_shape c (l0 ++ ((sep, v) ∷ (b, w) ∷ r)) = isu ∙ ap₂ (λ a z. leaf_shape a z) y_c (leaf_same rows own rr ∙ falls) in
        let done = split-leaf kind st new q loose t fs d k at c below l0 sep v b w r h is shape s.others (s.parent (children_of below) (last_child below) stands.0) bc bq links some in
        (split_tree kind d t k at below (leaf_shape c (l0 ++ ((sep, v) ∷ []))) sep (leaf_shape q ((b, w) ∷ r)), done.0, done.1, way below (leaf_shape c (l0 ++ ((sep, v) ∷ []))) (leaf_shape q ((b, w) ∷ r)) refl refl)
      where
        leaf_same : (a b : List Row) → Some (leaf_body b) ≡ Some (leaf_body a) → a ≡ b
        leaf_same a b e = cc
    by_child below is stands next (node_shape y own) isu (Some (leaf_body rows)) isp sc =
        let y_c : y ≡ c = sym (ap place isu) ∙ sym (ap place next) ∙ ec in
        let own_st : Stands st.bodies (node_shape y own) = subst (λ z. Stands st.bodies z) isu (child-stands kind st.bodies below k stands.1) in
        absurd (no_leaf (sym isp ∙ ap st.bodies (sym y_c) ∙ own_st.0))
      where
        no_leaf : Some (leaf_body rows) ≡ Some (inner_body (children_of own) (last_child own)) → ⊥
        no_leaf e = cc
    by_child below is stands next (leaf_shape y rows) isu (Some (inner_body keys last)) isp sc =
        let y_c : y ≡ c = sym (ap place isu) ∙ sym (ap place next) ∙ ec in
        let own_st : st.bodies y ≡ Some (leaf_body rows) = subst (λ z. Stands st.bodies z) isu (child-stands kind st.bodies below k stands.1) in
        absurd (no_leaf (sym own_st ∙ ap st.bodies y_c ∙ isp))
      where
        no_leaf : Some (leaf_body rows) ≡ Some (inner_body keys last) → ⊥
        no_leaf e = cc
    by_child below is stands next (node_shape y own) isu (Some (inner_body keys last)) isp (kl, m, kr, falls, bc, bq, links) =
        let y_c : y ≡ c = sym (ap place isu) ∙ sym (ap place next) ∙ ec in
        let own_st : Stands st.bodies (node_shape y own) = subst (λ z. Stands st.bodies z) isu (child-stands kind st.bodies below k stands.1) in
        let both = inner_same keys (children_of own) last (last_child own) (sym isp ∙ ap st.bodies (sym y_c) ∙ own_st.0) in
        let a = apart own kl sep m kr (sym both.0 ∙ falls) in
        let shape : child_for kind below k ≡ node_shape c (joined a.0 sep a.1) = isu ∙ ap₂ (λ p z. node_shape p z) y_c a.2 in
        let done = split-inner kind st new q loose t fs d k at c below a.0 sep a.1 h is shape s.others (s.parent (children_of below) (last_child below) stands.0)
        (bc ∙ ap₂ (λ x y. Some (inner_body x y)) (sym a.3) (sym a.4)) (bq ∙ ap₂ (λ x y. Some (inner_body x y)) (sym a.5) (both.1 ∙ sym a.6)) links in
        (split_tree kind d t k at below (node_shape c a.0) sep (node_shape q a.1), done.0, done.1, way below (node_shape c a.0) (node_shape q a.1) refl refl)
      where
        inner_same : (a b : List (Key × ℕ)) (x y : ℕ) → Some (inner_body a x) ≡ Some (inner_body b y) → (a ≡ b) × (x ≡ y)
        inner_same a b x y e = (cc, cc)
