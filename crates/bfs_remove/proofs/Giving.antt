-- Pages in hand are given back, and a root without keys goes.
use Rattle.std.proofs.Common.{◌≡◌, ◌≢◌, ◌≤◌, ◌+◌, ◌-◌, ℕ, pos, zero, suc, List, [], ◌∷◌, ◌++◌, length, Option, Some, refl, ap, sym, ◌∙◌, subst, arith, inr}
use Rattle.bfs_base.specs.Lists.{times}
use Rattle.bfs_base.specs.declared.kind.KeyKind.{KeyKind}
use Rattle.bfs_pages.specs.Pages.{HasLength}
use Rattle.bfs_node.specs.Page.{Row, rows_of, links_of}
use Rattle.bfs_node.specs.declared.header.Header.{Header}
use Rattle.bfs_node.specs.declared.fault.TreeFault.{TreeFault}
use Rattle.bfs_node.specs.declared.fault.TreeFault.TheVariants.{Exists, Absent, Damaged, Pages, NoMemory}
use Rattle.bfs_pages.specs.Answers.{IsChild, IsInteriorPage, IsHeaderFor, IsUnread, IsOfPages}
use Rattle.bfs_pages.specs.Writes.{IsFailed, SamePages}
use Rattle.bfs_pages.specs.Shapes.{Shape, leaf_shape, node_shape, last_shape, more_shapes, place, met_by, leaves_of, IsDeep}
use Rattle.bfs_pages.specs.Trees.{State, state_of, header_in, page_in, place_of, body_in, free_in, neighbours_in, children_in, head_or, FreeFrom, Holds}
use Rattle.bfs_remove.specs.Cuts.{InHand, IsLine}
use Rattle.bfs_remove.specs.Removed.{IsGiven, IsReleased}
use Rattle.bfs_pages.proofs.Placed.{same_held}
use Rattle.bfs_pages.proofs.Splice.{same_shape, self, times-append}
use Rattle.bfs_pages.proofs.Way.{place-met}
use Rattle.bfs_pages.proofs.Laws.{same-links, one}
use Rattle.bfs_pages.proofs.Exchange.{met-once, same-free}
use Rattle.bfs_pages.proofs.Leaves.{times-leaves}
use Rattle.bfs_pages.proofs.Says.{place-pos}
use Rattle.bfs_pages.proofs.OfKind.{inner-fields, one-place}

-- the free list begins where the header says
head-is : (frees : ℕ → Option ℕ) (at : ℕ) (fs : List ℕ) → FreeFrom frees at fs → at ≡ head_or 0 fs
head-is frees at [] c = c
head-is frees at (y ∷ ys) c = c.0

pub give-back : (kind : KeyKind) (st new : State) (p : ℕ) (loose : List ℕ) (t : Shape) (fs : List ℕ) → Holds kind st (p ∷ loose) t fs
    → ((x : ℕ) → x ≢ p → new.bodies x ≡ st.bodies x) → ((x : ℕ) → x ≢ p → new.frees x ≡ st.frees x) → ((x : ℕ) → x ≢ p → new.links x ≡ st.links x) → new.root ≡ st.root → new.levels ≡ st.levels → new.size ≡ st.size
    → new.free ≡ p → new.frees p ≡ Some st.free → Holds kind new loose t (p ∷ fs)
give-back kind st new p loose t fs h bodies frees links root levels size free is = record {
  built = record {
    root = h.built.root ∙ sym root;
    stands = same_shape st.bodies new.bodies t (λ x i. bodies x (off x (omega (arith, i)))) h.built.stands;
    deep = subst (λ m. IsDeep m t) (sym levels) h.built.deep;
    chain = (
      free,
      is ∙ ap (λ z. Some z) (head-is st.frees st.free fs h.built.chain),
      same-free st.frees new.frees (head_or 0 fs) fs (λ x i. frees x (off x (omega (arith, i)))) (subst (λ z. FreeFrom st.frees z fs) (head-is st.frees st.free fs h.built.chain) h.built.chain),
    );
    once = λ x. omega (arith, h.built.once x, same_held x new.size st.size size);
  };
  ascends = h.ascends;
  linked = same-links st.links new.links 0 (leaves_of t) 0 (λ x i. links x (off x (omega (arith, i, times-leaves x t)))) h.linked;
}
  where
    off : (x : ℕ) → 1 ≤ times x (met_by t) + times x fs → x ≢ p
    off x i = λ e. let m : 1 ≤ times p (met_by t) + times p fs = subst (λ w. 1 ≤ times w (met_by t) + times w fs) e i in omega (arith, m, met-once st (p ∷ loose) t fs h.built p, self p loose)

-- a root with one child goes to the free list
pub shrink-root : (kind : KeyKind) (st new : State) (at : ℕ) (u : Shape) (loose fs : List ℕ) → Holds kind st loose (node_shape at (last_shape u)) fs
    → ((x : ℕ) → x ≢ at → new.bodies x ≡ st.bodies x) → ((x : ℕ) → x ≢ at → new.frees x ≡ st.frees x) → ((x : ℕ) → x ≢ at → new.links x ≡ st.links x) → new.root ≡ place u → suc new.levels ≡ st.levels → new.size ≡ st.size
    → new.free ≡ at → new.frees at ≡ Some st.free → Holds kind new loose u (at ∷ fs)
shrink-root kind st new at u loose fs h bodies frees links root levels size free is = record {
  built = record {
    root = sym root;
    stands = same_shape st.bodies new.bodies u (λ x i. bodies x (off x (omega (arith, i)))) h.built.stands.1;
    deep = lower (subst (λ m. IsDeep m (node_shape at (last_shape u))) (sym levels) h.built.deep);
    chain = (
      free,
      is ∙ ap (λ z. Some z) (head-is st.frees st.free fs h.built.chain),
      same-free st.frees new.frees (head_or 0 fs) fs (λ x i. frees x (off x (omega (arith, i)))) (subst (λ z. FreeFrom st.frees z fs) (head-is st.frees st.free fs h.built.chain) h.built.chain),
    );
    once = λ x. omega (arith, h.built.once x, same_held x new.size st.size size);
  };
  ascends = h.ascends;
  linked = same-links st.links new.links 0 (leaves_of u) 0 (λ x i. links x (off x (omega (arith, i, times-leaves x u)))) h.linked;
}
  where
    lower : IsDeep (suc new.levels) (node_shape at (last_shape u)) → IsDeep new.levels u
    lower d = d

    off : (x : ℕ) → 1 ≤ times x (met_by u) + times x fs → x ≢ at
    off x i = λ e.
        let m : 1 ≤ times at (met_by u) + times at fs = subst (λ w. 1 ≤ times w (met_by u) + times w fs) e i in
        omega (arith, m, met-once st loose (node_shape at (last_shape u)) fs h.built at, one at (met_by u))

-- the header where a page is put before the free list
pub given-root : (b c : List ℕ) (at : ℕ) (h : Header) → IsGiven b c at h → place_of (header_in c).root_pointer ≡ place_of h.root_pointer
given-root b c at h g = ap (λ (z : Header). place_of z.root_pointer) g.header

pub given-levels : (b c : List ℕ) (at : ℕ) (h : Header) → IsGiven b c at h → (header_in c).levels - 1 ≡ h.levels - 1
given-levels b c at h g = ap (λ (z : Header). z.levels - 1) g.header

pub given-free : (b c : List ℕ) (at : ℕ) (h : Header) → IsGiven b c at h → 1 ≤ at → place_of (header_in c).free_pointer ≡ at
given-free b c at h g some = ap (λ (z : Header). place_of z.free_pointer) g.header ∙ place-pos at some

pub given-back : (kind : KeyKind) (b c : List ℕ) (at : ℕ) (h : Header) (loose : List ℕ) (t : Shape) (fs : List ℕ) → IsGiven b c at h → h ≡ header_in b → Holds kind (state_of kind b) (at ∷ loose) t fs
    → Holds kind (state_of kind c) loose t (at ∷ fs)
given-back kind b c at h loose t fs g e holds =
    give-back kind (state_of kind b) (state_of kind c) at loose t fs holds (λ x n. ap (body_in kind) (g.pages x n)) (λ x n. ap free_in (g.pages x n)) (λ x n. ap neighbours_in (g.pages x n))
    (given-root b c at h g ∙ ap (λ (z : Header). place_of z.root_pointer) e) (given-levels b c at h g ∙ ap (λ (z : Header). z.levels - 1) e) g.size (given-free b c at h g child.0) (g.free ∙ ap (λ (z : Header). Some (place_of z.free_pointer)) e)
  where
    child : IsChild (length b) at
    child = one-place (length b) at (omega (arith, holds.built.once at, self at loose))

-- what a page in hand is
hand-met : (kind : KeyKind) (st : State) (reached : List ℕ) (page left : ℕ) (t : Shape) (fs : List ℕ) (u : Shape) (x : ℕ) → InHand kind st reached page left t fs u → 1 ≤ times x (met_by u) → IsChild st.size x
hand-met kind st reached page left t fs u x h i = one-place st.size x (omega (arith, h.holds.built.once x, i, times-append x (met_by u) reached))

-- pages that values reach aren't in hand
hand-off : (kind : KeyKind) (st : State) (reached : List ℕ) (page left : ℕ) (t : Shape) (fs : List ℕ) (u : Shape) (x : ℕ) → InHand kind st reached page left t fs u → 1 ≤ times x reached → x ≢ page
hand-off kind st reached page left t fs u x h i = λ e.
    let m : 1 ≤ times page reached = subst (λ w. 1 ≤ times w reached) e i in
    let n : 1 ≤ times page (met_by u) = subst (λ w. 1 ≤ times w (met_by u)) h.begins (place-met u) in
    omega (arith, m, n, times-append page (met_by u) reached, met-once st (met_by u ++ reached) t fs h.holds.built page)

no-rows : (rows : List Row) → children_in rows ≡ [] → length rows ≡ 0
no-rows [] e = refl
no-rows (r ∷ rs) e = absurd (differ e)
  where
    differ : (r.0, place_of r.1) ∷ children_in rs ≡ [] → ⊥
    differ e = cc

pub hand-child : (kind : KeyKind) (b reached : List ℕ) (page left : ℕ) (t : Shape) (fs : List ℕ) (u : Shape) → InHand kind (state_of kind b) reached page left t fs u → IsChild (length b) page
hand-child kind b reached page left t fs u h = subst (λ x. IsChild (length b) x) h.begins (hand-met kind (state_of kind b) reached page left t fs u (place u) h (place-met u))

pub hand-interior : (kind : KeyKind) (b reached : List ℕ) (page left : ℕ) (t : Shape) (fs : List ℕ) (u : Shape) → InHand kind (state_of kind b) reached page left t fs u → 1 ≤ left → IsInteriorPage kind (length b) (page_in b page)
hand-interior kind b reached page zero t fs u h i = absurd (omega (arith, i))
hand-interior kind b reached page (suc left) t fs (leaf_shape p rows) h i = absurd h.line
hand-interior kind b reached page (suc left) t fs (node_shape p (more_shapes w key ws)) h i = absurd h.line
hand-interior kind b reached page (suc left) t fs (node_shape p (last_shape w)) h i =
    let f = inner-fields kind (page_in b page) [] (place w) (ap (λ z. body_in kind (page_in b z)) (sym h.begins) ∙ h.stands.0) in
    let none : length (rows_of (page_in b page)) ≡ 0 = no-rows (rows_of (page_in b page)) f.1 in record {
      good = f.0;
      last = subst (λ z. IsChild (length b) z) (sym f.2) (hand-met kind (state_of kind b) reached page (suc left) t fs (node_shape p (last_shape w)) (place w) h (omega (arith, place-met w)));
      children = λ j l. absurd (omega (arith, l, none));
    }

-- the first page of a line is given back
pub release-next : (kind : KeyKind) (b c reached : List ℕ) (page next left : ℕ) (h : Header) (t : Shape) (fs : List ℕ) (u : Shape) → InHand kind (state_of kind b) reached page left t fs u → 1 ≤ left → IsGiven b c page h → h ≡ header_in b
    → next ≡ place_of (links_of (page_in b page)).overflow → (w : Shape) × InHand kind (state_of kind c) reached next (left - 1) t (page ∷ fs) w × SamePages reached b c
release-next kind b c reached page next zero h t fs u hand i g e is = absurd (omega (arith, i))
release-next kind b c reached page next (suc left) h t fs (leaf_shape p rows) hand i g e is = absurd hand.line
release-next kind b c reached page next (suc left) h t fs (node_shape p (more_shapes w key ws)) hand i g e is = absurd hand.line
release-next kind b c reached page next (suc left) h t fs (node_shape p (last_shape w)) hand i g e is =
    let f = inner-fields kind (page_in b page) [] (place w) (ap (λ z. body_in kind (page_in b z)) (sym hand.begins) ∙ hand.stands.0) in (
      w,
      record {
        holds = given-back kind b c page h (met_by w ++ reached) t fs g e (subst (λ z. Holds kind (state_of kind b) (z ∷ (met_by w ++ reached)) t fs) hand.begins hand.holds);
        stands = same_shape (state_of kind b).bodies (state_of kind c).bodies w (λ x m. ap (body_in kind) (g.pages x (off x m))) hand.stands.1;
        line = subst (λ n. IsLine n w) less hand.line;
        deep = subst (λ n. IsDeep n w) less hand.deep;
        begins = sym (is ∙ f.2);
      },
      λ x m. g.pages x (hand-off kind (state_of kind b) reached page (suc left) t fs (node_shape p (last_shape w)) x hand m),
    )
  where
    less : left ≡ suc left - 1
    less = omega arith

    off : (x : ℕ) → 1 ≤ times x (met_by w) → x ≢ page
    off x m = λ q.
        let n : 1 ≤ times p (met_by w) = subst (λ z. 1 ≤ times z (met_by w)) (q ∙ sym hand.begins) m in
        omega (arith, n, met-once (state_of kind b) (met_by (node_shape p (last_shape w)) ++ reached) t fs hand.holds.built p, times-append p (met_by (node_shape p (last_shape w))) reached, one p (met_by w))

-- the leaf of a line is given back
pub release-last : (kind : KeyKind) (b c reached : List ℕ) (page : ℕ) (h : Header) (t : Shape) (fs : List ℕ) (u : Shape) → InHand kind (state_of kind b) reached page 0 t fs u → IsGiven b c page h → h ≡ header_in b → IsReleased kind b c reached t
release-last kind b c reached page h t fs (node_shape p below) hand g e = absurd hand.deep
release-last kind b c reached page h t fs (leaf_shape p rows) hand g e = record {
  frees = page ∷ fs;
  holds = given-back kind b c page h reached t fs g e (subst (λ z. Holds kind (state_of kind b) (z ∷ reached) t fs) hand.begins hand.holds);
  stay = λ x m. g.pages x (hand-off kind (state_of kind b) reached page 0 t fs (leaf_shape p rows) x hand m);
}

pub stay-twice : (reached b c d : List ℕ) → SamePages reached b c → SamePages reached c d → SamePages reached b d
stay-twice reached b c d f g x i = g x i ∙ f x i

-- the header with another first free page
pub header-freed : (kind : KeyKind) (size : ℕ) (h h2 : Header) (at : ℕ) → IsHeaderFor kind size h → IsChild size at → h2 ≡ record h { free_pointer = pos at } → IsHeaderFor kind size h2
header-freed kind size h h2 at good child e = subst (λ (z : Header). IsHeaderFor kind size z) (sym e) (record {
  tree = record {
    header = record { magic_is = good.tree.header.magic_is; size = good.tree.header.size; kind = good.tree.header.kind };
    kind_is = good.tree.kind_is;
    levels = good.tree.levels;
    maximum = good.tree.maximum;
  };
  root = good.root;
  free = inr (subst (λ x. IsChild size x) (sym (place-pos at child.0)) child);
})

pub failed-pages : {F : Type 0} (cause : F → Type 0) (fault : TreeFault F) → IsFailed cause fault → IsOfPages fault
failed-pages cause Exists u = u
failed-pages cause Absent u = u
failed-pages cause (Damaged page sort) u = u
failed-pages cause (Pages fault) u = tt
failed-pages cause NoMemory u = u

pub failed-unread : {F : Type 0} (kind : KeyKind) (told : Option (List ℕ)) (cause before : F → Type 0) (fault : TreeFault F) → ((f : F) → cause f → before f) → IsFailed cause fault → IsUnread kind told before fault
failed-unread kind told cause before Exists m u = u
failed-unread kind told cause before Absent m u = u
failed-unread kind told cause before (Damaged page sort) m u = absurd u
failed-unread kind told cause before (Pages fault) m u = m fault u
failed-unread kind told cause before NoMemory m u = u

pub told-size : (told : Option (List ℕ)) (size : ℕ) (b : List ℕ) → HasLength told size → told ≡ Some b → length b ≡ size
told-size told size b l e = subst (λ t. HasLength t size) e l
