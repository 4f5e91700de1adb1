-- A tree stands where pages that values reach change or are given back.
use Rattle.std.proofs.Common.{◌≡◌, ◌≢◌, ◌≤◌, ◌+◌, ◌-◌, ℕ, pos, List, [], ◌∷◌, length, Bool, true, false, cond, ◌==◌, refl, ap, sym, ◌∙◌, subst, arith}
use Rattle.bfs_base.specs.Lists.{times}
use Rattle.bfs_base.specs.declared.kind.KeyKind.{KeyKind}
use Rattle.bfs_node.specs.declared.header.Header.{Header}
use Rattle.bfs_pages.specs.Answers.{IsChild}
use Rattle.bfs_pages.specs.Shapes.{Shape, met_by, leaves_of, IsDeep}
use Rattle.bfs_pages.specs.Trees.{state_of, header_in, page_in, place_of, body_in, free_in, neighbours_in, FreeFrom, held, IsTreeHeader, IsTree}
use Rattle.bfs_pages.specs.Writes.{PageSet}
use Rattle.bfs_pages.proofs.Exchange.{met-once, same-free}
use Rattle.bfs_pages.proofs.Laws.{same-links}
use Rattle.bfs_pages.proofs.Leaves.{times-leaves}
use Rattle.bfs_pages.proofs.OfKind.{one-place}
use Rattle.bfs_pages.proofs.Placed.{same_held, held_most}
use Rattle.bfs_pages.proofs.Splice.{same_shape}
use Rattle.bfs_remove.specs.Removed.{IsGiven}
use Rattle.bfs_remove.proofs.Giving.{given-back}

-- what stands where the tree's own pages stay
pub stays : (kind : KeyKind) (b c r s : List ℕ) (t : Shape) (fs gs : List ℕ) → IsTree kind b r t fs → IsTreeHeader kind (length c) (header_in c)
    → (state_of kind c).root ≡ (state_of kind b).root → (state_of kind c).levels ≡ (state_of kind b).levels
    → ((x : ℕ) → 1 ≤ times x (met_by t) → page_in c x ≡ page_in b x) → FreeFrom (state_of kind c).frees (state_of kind c).free gs
    → ((x : ℕ) → times x (0 ∷ []) + times x s + times x (met_by t) + times x gs ≡ held (length c) x) → IsTree kind c s t gs
stays kind b c r s t fs gs tree header root levels pages free once = record {
  header = header;
  holds = record {
    built = record {
      root = tree.holds.built.root ∙ sym root;
      stands = same_shape (state_of kind b).bodies (state_of kind c).bodies t (λ x i. ap (body_in kind) (pages x i)) tree.holds.built.stands;
      deep = subst (λ m. IsDeep m t) (sym levels) tree.holds.built.deep;
      chain = free;
      once = once;
    };
    ascends = tree.holds.ascends;
    linked = same-links (state_of kind b).links (state_of kind c).links 0 (leaves_of t) 0 (λ x i. ap neighbours_in (pages x (omega (arith, i, times-leaves x t)))) tree.holds.linked;
  };
}

eq_is : (a d : ℕ) → (a == d) ≡ true → a ≡ d
eq_is a d e = grind (arith, e)

eq_no : (a d : ℕ) → a ≢ d → (a == d) ≡ false
eq_no a d n = by_test (a == d) refl
  where
    by_test : (t : Bool) → (a == d) ≡ t → (a == d) ≡ false
    by_test true e = absurd (n (eq_is a d e))
    by_test false e = e

less : (x y : ℕ) (ys : List ℕ) → times x ys ≤ times x (y ∷ ys)
less x y ys = omega arith

pub first : (x y : ℕ) (ys : List ℕ) → times x (y ∷ ys) ≡ times x (y ∷ []) + times x ys
first x y ys = omega arith

-- a page that values reach is written
pub set : (kind : KeyKind) (b c r : List ℕ) (t : Shape) (fs : List ℕ) (at : ℕ) (page : List ℕ) → IsTree kind b r t fs → PageSet b c at page → 1 ≤ times at r → IsTree kind c r t fs
set kind b c r t fs at page tree p i = stays kind b c r r t fs fs tree
    (subst (λ h. IsTreeHeader kind (length c) h) (sym p.header) (subst (λ n. IsTreeHeader kind n (header_in b)) (sym p.size) tree.header))
    (ap (λ (h : Header). place_of h.root_pointer) p.header) (ap (λ (h : Header). h.levels - 1) p.header)
    (λ x m. same x (off x (omega (arith, m))))
    (subst (λ z. FreeFrom (state_of kind c).frees z fs) (sym (ap (λ (h : Header). place_of h.free_pointer) p.header))
    (same-free (state_of kind b).frees (state_of kind c).frees (state_of kind b).free fs (λ x m. ap free_in (same x (off x (omega (arith, m))))) tree.holds.built.chain))
    (λ x. omega (arith, tree.holds.built.once x, same_held x (length c) (length b) p.size))
  where
    off : (x : ℕ) → 1 ≤ times x (met_by t) + times x fs → x ≢ at
    off x m = λ e. let n : 1 ≤ times at (met_by t) + times at fs = subst (λ w. 1 ≤ times w (met_by t) + times w fs) e m in omega (arith, n, i, met-once (state_of kind b) r t fs tree.holds.built at)

    same : (x : ℕ) → x ≢ at → page_in c x ≡ page_in b x
    same x n = p.pages x ∙ ap (λ t. cond t page (page_in b x)) (eq_no x at n)

-- a page is given back
pub give : (kind : KeyKind) (b c r : List ℕ) (t : Shape) (fs : List ℕ) (at : ℕ) → IsTree kind b (at ∷ r) t fs → IsGiven b c at (header_in b) → IsTree kind c r t (at ∷ fs)
give kind b c r t fs at tree g = record {
  header = subst (λ h. IsTreeHeader kind (length c) h) (sym g.header) (record {
    header = record { magic_is = tree.header.header.magic_is; size = tree.header.header.size; kind = tree.header.header.kind };
    kind_is = tree.header.kind_is;
    levels = tree.header.levels;
    maximum = tree.header.maximum ∙ ap pos (sym g.size);
  });
  holds = given-back kind b c at (header_in b) r t fs g refl tree.holds;
}

-- the pages that values reach are pages other than the header
pub reached-child : (kind : KeyKind) (b r : List ℕ) (t : Shape) (fs : List ℕ) (x : ℕ) → IsTree kind b r t fs → 1 ≤ times x r → IsChild (length b) x
reached-child kind b r t fs x tree i = one-place (length b) x (omega (arith, tree.holds.built.once x, i))

pub reached-once : (kind : KeyKind) (b r : List ℕ) (t : Shape) (fs : List ℕ) (x : ℕ) → IsTree kind b r t fs → times x r ≤ 1
reached-once kind b r t fs x tree = omega (arith, tree.holds.built.once x, held_most (length b) x)
