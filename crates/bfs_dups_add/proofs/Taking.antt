-- A tree stands where a page is taken for a value.
use Rattle.std.proofs.Common.{◌≡◌, ◌≢◌, ◌≤◌, ◌+◌, ◌%◌, ℕ, List, [], ◌∷◌, length, Some, ◌⊎◌, ap, sym, ◌∙◌, subst, arith, inl, inr}
use Rattle.bfs_base.specs.Lists.{times}
use Rattle.bfs_base.specs.declared.kind.KeyKind.{KeyKind}
use Rattle.bfs_node.specs.declared.header.Header.{Header}
use Rattle.bfs_pages.specs.Shapes.{Shape, met_by}
use Rattle.bfs_pages.specs.Trees.{State, state_of, header_in, free_in, head_or, FreeFrom, held, IsTreeHeader, IsTree}
use Rattle.bfs_pages.specs.Writes.{IsTaken}
use Rattle.bfs_pages.proofs.Exchange.{met-once, same-free}
use Rattle.bfs_pages.proofs.Placed.{same_held, held_end, held_more}
use Rattle.bfs_pages.proofs.Splice.{self}
use Rattle.bfs_dups.proofs.Holding.{first, set, stays}
use Rattle.bfs_dups_add.specs.Written.{IsPut}

-- a page is taken
pub take : (kind : KeyKind) (b c r : List ℕ) (t : Shape) (fs : List ℕ) (q : ℕ) (h : Header) → IsTree kind b r t fs → 1 ≤ length b → IsTreeHeader kind (length c) h → IsTaken kind b c q h
    → (gs : List ℕ) × IsTree kind c (q ∷ r) t gs × (times q r ≡ 0)
take kind b c r t fs q h tree some good taken = by_case taken.taken.3
  where
    st : State
    st = state_of kind b

    new : State
    new = state_of kind c

    header : IsTreeHeader kind (length c) (header_in c)
    header = subst (λ h. IsTreeHeader kind (length c) h) (sym taken.header) good

    not : (x : ℕ) → 1 ≤ times x (met_by t) → times q (met_by t) ≡ 0 → x ≢ q
    not x m z = λ e. let n : 1 ≤ times q (met_by t) = subst (λ w. 1 ≤ times w (met_by t)) e m in omega (arith, n, z)

    not_free : (x : ℕ) (ys : List ℕ) → 1 ≤ times x ys → times q ys ≡ 0 → x ≢ q
    not_free x ys m z = λ e. let n : 1 ≤ times q ys = subst (λ w. 1 ≤ times w ys) e m in omega (arith, n, z)

    some_is : (a d : ℕ) → Some a ≡ Some d → a ≡ d
    some_is a d e = cc

    from_list : (ys : List ℕ) → IsTree kind b r t ys → st.free ≢ 0 → q ≡ st.free → st.frees q ≡ Some new.free → new.frees q ≡ st.frees q → length c ≡ length b → (gs : List ℕ) × IsTree kind c (q ∷ r) t gs × (times q r ≡ 0)
    from_list [] tree n is f k size = absurd (n tree.holds.built.chain)
    from_list (y ∷ ys) tree n is f k size =
        let e : q ≡ y = is ∙ tree.holds.built.chain.0 in
        let o : times q (met_by t) + times q r + times q (y ∷ ys) ≤ 1 = met-once st r t (y ∷ ys) tree.holds.built q in
        let m : 1 ≤ times q (y ∷ []) = subst (λ z. 1 ≤ times q (z ∷ [])) e (self q []) in
        let next : new.free ≡ head_or 0 ys = some_is new.free (head_or 0 ys) (sym f ∙ ap st.frees e ∙ tree.holds.built.chain.1) in (
          ys,
          stays kind b c r (q ∷ r) t (y ∷ ys) ys tree header taken.taken.1 taken.taken.2 (λ x i. taken.others x (not x i (omega (arith, o, m, first q y ys))))
              (subst (λ z. FreeFrom new.frees z ys) (sym next) (same-free st.frees new.frees (head_or 0 ys) ys (λ x i. ap free_in (taken.others x (not_free x ys i (omega (arith, o, m, first q y ys))))) tree.holds.built.chain.2))
              (λ x. let w : times x (q ∷ []) ≡ times x (y ∷ []) = ap (λ z. times x (z ∷ [])) e in omega (arith, tree.holds.built.once x, same_held x (length c) (length b) size, w, first x y ys, first x q r)),
          omega (arith, o, m, first q y ys),
        )

    by_case : ((st.free ≢ 0) × (q ≡ st.free) × (st.frees q ≡ Some new.free) × (new.frees q ≡ st.frees q) × (new.bodies q ≡ st.bodies q) × (new.links q ≡ st.links q) × (new.size ≡ st.size))
        ⊎ ((st.free ≡ 0) × (q ≡ st.size) × (new.free ≡ st.free) × (new.size ≡ st.size + 1024) × (st.size % 1024 ≡ 0)) → (gs : List ℕ) × IsTree kind c (q ∷ r) t gs × (times q r ≡ 0)
    by_case (inl f) = from_list fs tree f.0 f.1 f.2 f.3 f.6
    by_case (inr f) =
        let h0 : held (length b) q ≡ 0 = ap (λ z. held (length b) z) f.1 ∙ held_end (length b) in
        let o = tree.holds.built.once q in
        let none : times q r + times q (met_by t) + times q fs ≡ 0 = omega (arith, o, h0) in (
          fs,
          stays kind b c r (q ∷ r) t fs fs tree header taken.taken.1 taken.taken.2 (λ x i. taken.others x (not x i (omega (arith, none))))
              (subst (λ z. FreeFrom new.frees z fs) (sym f.2) (same-free st.frees new.frees st.free fs (λ x i. ap free_in (taken.others x (not_free x fs i (omega (arith, none))))) tree.holds.built.chain))
              (λ x.
              let w : times x (q ∷ []) ≡ times x (length b ∷ []) = ap (λ z. times x (z ∷ [])) f.1 in
              let v : held (length c) x ≡ held (length b + 1024) x = same_held x (length c) (length b + 1024) f.3 in
              omega (arith, tree.holds.built.once x, v, held_more (length b) x f.4, w, first x q r)),
          omega (arith, none),
        )

-- a page is taken and written
pub put : (kind : KeyKind) (b c r : List ℕ) (t : Shape) (fs : List ℕ) (q : ℕ) (page : List ℕ) → IsTree kind b r t fs → 1 ≤ length b → IsPut kind b c q page
    → (gs : List ℕ) × IsTree kind c (q ∷ r) t gs × (times q r ≡ 0)
put kind b c r t fs q page tree some p =
    let k = take kind b p.middle r t fs q p.header tree some p.good p.taken in
    (k.0, set kind p.middle c (q ∷ r) t k.0 q page k.1 p.set (self q r), k.2)
