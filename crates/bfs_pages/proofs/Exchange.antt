-- A part of a tree is exchanged for another.
use Rattle.std.proofs.Common.{◌≡◌, ◌≢◌, ◌≤◌, ◌+◌, ℕ, zero, suc, List, [], ◌∷◌, ◌++◌, Option, Bool, true, false, cond, refl, ap, sym, ◌∙◌, subst, arith}
use Rattle.bfs_node.specs.Lists.{times}
use Rattle.bfs_node.specs.BaseKeyKind.{KeyKind}
use Rattle.bfs_pages.specs.Order.{Key, at_most}
use Rattle.bfs_pages.specs.Shapes.{Body, Shape, Shapes, leaf_shape, node_shape, last_shape, more_shapes, place, met_by, children_of, last_child, IsDeep, Stands}
use Rattle.bfs_pages.specs.Changes.{Others}
use Rattle.bfs_pages.proofs.Placed.{same_held, held_most}
use Rattle.bfs_pages.specs.Trees.{State, head_or, FreeFrom, Built}
use Rattle.bfs_pages.specs.Ways.{child_for, spliced, under, instead, keys_split, last_split}
use Rattle.bfs_pages.proofs.Splice.{times-append, self}
use Rattle.bfs_pages.proofs.Way.{deep-instead, times-instead, times-under, stands-instead, child-stands, child-deep, place-instead}

-- two children in the place of one
pub keys-two : (kind : KeyKind) → (ts : Shapes) (k : Key) (l : Shape) (key : Key) (r : Shape) → place l ≡ place (child_for kind ts k)
    → (children_of (spliced kind ts k (more_shapes l key (last_shape r))) ≡ keys_split kind (children_of ts) (last_child ts) k key (place r))
    × (last_child (spliced kind ts k (more_shapes l key (last_shape r))) ≡ last_split kind (children_of ts) (last_child ts) k (place r))
keys-two kind (last_shape t) k l key r e = (ap (λ p. (key, p) ∷ []) e, refl)
keys-two kind (more_shapes t b ts) k l key r e = by_test (at_most kind k b) e (λ h. keys-two kind ts k l key r h)
  where
    by_test : (c : Bool) → place l ≡ place (cond c t (child_for kind ts k))
        → (place l ≡ place (child_for kind ts k) → (children_of (spliced kind ts k (more_shapes l key (last_shape r))) ≡ keys_split kind (children_of ts) (last_child ts) k key (place r)) × (last_child (spliced kind ts k (more_shapes l key (last_shape r))) ≡ last_split kind (children_of ts) (last_child ts) k (place r)))
        → (children_of (cond c (more_shapes l key (more_shapes r b ts)) (more_shapes t b (spliced kind ts k (more_shapes l key (last_shape r))))) ≡ cond c ((key, place t) ∷ (b, place r) ∷ children_of ts) ((b, place t) ∷ keys_split kind (children_of ts) (last_child ts) k key (place r)))
        × (last_child (cond c (more_shapes l key (more_shapes r b ts)) (more_shapes t b (spliced kind ts k (more_shapes l key (last_shape r))))) ≡ cond c (last_child ts) (last_split kind (children_of ts) (last_child ts) k (place r)))
    by_test true e ih = (ap (λ p. (key, p) ∷ (b, place r) ∷ children_of ts) e, refl)
    by_test false e ih = (ap (λ l. (b, place t) ∷ l) (ih e).0, (ih e).1)

pub child-two : (kind : KeyKind) → (ts : Shapes) (k : Key) (l : Shape) (key : Key) (r : Shape) → child_for kind (spliced kind ts k (more_shapes l key (last_shape r))) k ≡ cond (at_most kind k key) l r
child-two kind (last_shape t) k l key r = refl
child-two kind (more_shapes t b ts) k l key r = by_test (at_most kind k b) refl (child-two kind ts k l key r)
  where
    inner : (c d : Bool) → d ≡ true → cond c l (cond d r (child_for kind ts k)) ≡ cond c l r
    inner c d e = ap (λ z. cond c l (cond z r (child_for kind ts k))) e

    by_test : (c : Bool) → at_most kind k b ≡ c → child_for kind (spliced kind ts k (more_shapes l key (last_shape r))) k ≡ cond (at_most kind k key) l r
        → child_for kind (cond c (more_shapes l key (more_shapes r b ts)) (more_shapes t b (spliced kind ts k (more_shapes l key (last_shape r))))) k ≡ cond (at_most kind k key) l r
    by_test true e ih = inner (at_most kind k key) (at_most kind k b) e
    by_test false e ih = ap (λ z. cond z t (child_for kind (spliced kind ts k (more_shapes l key (last_shape r))) k)) e ∙ ih

pub child-one : (kind : KeyKind) → (ts : Shapes) (k : Key) (s : Shape) → child_for kind (spliced kind ts k (last_shape s)) k ≡ s
child-one kind (last_shape t) k s = refl
child-one kind (more_shapes t b ts) k s = by_test (at_most kind k b) refl (child-one kind ts k s)
  where
    by_test : (c : Bool) → at_most kind k b ≡ c → child_for kind (spliced kind ts k (last_shape s)) k ≡ s → child_for kind (cond c (more_shapes s b ts) (more_shapes t b (spliced kind ts k (last_shape s)))) k ≡ s
    by_test true e ih = ap (λ z. cond z s (child_for kind ts k)) e
    by_test false e ih = ap (λ z. cond z t (child_for kind (spliced kind ts k (last_shape s)) k)) e ∙ ih

-- the way goes on in the new part
pub under-instead : (kind : KeyKind) → (m d : ℕ) (t : Shape) (k : Key) (s : Shape) → IsDeep m t → d ≤ m → under kind d (instead kind d t k s) k ≡ s
under-instead kind m zero t k s deep h = refl
under-instead kind m (suc d) (leaf_shape at rows) k s deep h = let z : m ≡ 0 = deep in absurd (omega (arith, z, h))
under-instead kind zero (suc d) (node_shape at below) k s deep h = absurd deep
under-instead kind (suc m) (suc d) (node_shape at below) k s deep h =
    ap (λ u. under kind d u k) (child-one kind below k (instead kind d (child_for kind below k) k s)) ∙ under-instead kind m d (child_for kind below k) k s (child-deep kind m below k deep) (omega (arith, h))

pub stands-under : (kind : KeyKind) → (pages : ℕ → Option Body) (d : ℕ) (t : Shape) (k : Key) → Stands pages t → Stands pages (under kind d t k)
stands-under kind pages zero t k s = s
stands-under kind pages (suc d) (leaf_shape at rows) k s = s
stands-under kind pages (suc d) (node_shape at below) k s = stands-under kind pages d (child_for kind below k) k (child-stands kind pages below k s.1)

pub same-free : (old new : ℕ → Option ℕ) (at : ℕ) (fs : List ℕ) → ((x : ℕ) → 1 ≤ times x fs → new x ≡ old x) → FreeFrom old at fs → FreeFrom new at fs
same-free old new at [] h f = f
same-free old new at (x ∷ xs) h f = (f.0, h x (self x xs) ∙ f.1, same-free old new (head_or 0 xs) xs (λ y i. h y (omega (arith, i))) f.2)

not-times : (x y : ℕ) (xs : List ℕ) → 1 ≤ times x xs → times y xs ≡ 0 → x ≢ y
not-times x y xs i n = λ e. let m : 1 ≤ times y xs = subst (λ z. 1 ≤ times z xs) e i in omega (arith, m, n)

pub met-once : (st : State) (loose : List ℕ) (t : Shape) (fs : List ℕ) → Built st loose t fs → (x : ℕ) → times x (met_by t) + times x loose + times x fs ≤ 1
met-once st loose t fs h x = omega (arith, h.once x, held_most st.size x)

-- one page in hand comes into the part
pub exchange : (kind : KeyKind) → (st new : State) (q : ℕ) (loose : List ℕ) (t : Shape) (fs : List ℕ) (a b : ℕ) (d : ℕ) (k : Key) (s : Shape)
    → Built st (q ∷ loose) t fs → Others st new a b q → 1 ≤ times a (met_by (under kind d t k)) → 1 ≤ times b (met_by (under kind d t k))
    → place s ≡ place (under kind d t k) → Stands new.bodies s → ((n : ℕ) → IsDeep n (under kind d t k) → IsDeep n s)
    → ((x : ℕ) → times x (met_by s) ≡ times x (met_by (under kind d t k)) + times x (q ∷ []))
    → Built new loose (instead kind d t k s) fs
exchange kind st new q loose t fs a b d k s h o ia ib e n deep met = record {
  root = place-instead kind d t k s e ∙ h.root ∙ sym o.root;
  stands = stands-instead kind st.bodies new.bodies d t k s h.stands n e (λ x. omega (arith, met-once st (q ∷ loose) t fs h x)) (λ x i z. o.bodies x (far x a z ia) (far x b z ib) (off x i));
  deep = subst (λ m. IsDeep m (instead kind d t k s)) (sym o.levels) (deep-instead kind st.levels d t k s h.deep deep);
  chain = subst (λ m. FreeFrom new.frees m fs) (sym o.free) (same-free st.frees new.frees st.free fs (λ x i. o.frees x (apart x a ia i) (apart x b ib i) (hand x i)) h.chain);
  once = λ x. omega (arith, h.once x, same_held x new.size st.size o.size, met x, times-instead kind x d t k s);
}
  where
    far : (x y : ℕ) → times x (met_by (under kind d t k)) ≡ 0 → 1 ≤ times y (met_by (under kind d t k)) → x ≢ y
    far x y z i = λ e. let m : times y (met_by (under kind d t k)) ≡ 0 = subst (λ w. times w (met_by (under kind d t k)) ≡ 0) e z in omega (arith, m, i)

    off : (x : ℕ) → 1 ≤ times x (met_by t) → x ≢ q
    off x i = λ e. let m : 1 ≤ times q (met_by t) = subst (λ w. 1 ≤ times w (met_by t)) e i in omega (arith, m, met-once st (q ∷ loose) t fs h q, self q loose)

    apart : (x y : ℕ) → 1 ≤ times y (met_by (under kind d t k)) → 1 ≤ times x fs → x ≢ y
    apart x y i j = λ e. let m : 1 ≤ times y fs = subst (λ w. 1 ≤ times w fs) e j in omega (arith, m, i, times-under kind y d t k, met-once st (q ∷ loose) t fs h y)

    hand : (x : ℕ) → 1 ≤ times x fs → x ≢ q
    hand x i = λ e. let m : 1 ≤ times q fs = subst (λ w. 1 ≤ times w fs) e i in omega (arith, m, met-once st (q ∷ loose) t fs h q, self q loose)

-- pages outside a list are as they were
pub record Apart (old new : State) (touched : List ℕ) : Type 0 where
  pub bodies : (x : ℕ) → times x touched ≡ 0 → new.bodies x ≡ old.bodies x
  pub frees : (x : ℕ) → times x touched ≡ 0 → new.frees x ≡ old.frees x
  pub root : new.root ≡ old.root
  pub levels : new.levels ≡ old.levels
  pub free : new.free ≡ old.free
  pub size : new.size ≡ old.size

-- a part is exchanged, and pages go into it or come from it into the hand
pub exchange-any : (kind : KeyKind) → (st new : State) (loose less : List ℕ) (t : Shape) (fs : List ℕ) (d : ℕ) (k : Key) (s : Shape)
    → Built st loose t fs → Apart st new (met_by (under kind d t k) ++ loose) → place s ≡ place (under kind d t k) → Stands new.bodies s → ((n : ℕ) → IsDeep n (under kind d t k) → IsDeep n s)
    → ((x : ℕ) → times x (met_by s) + times x less ≡ times x (met_by (under kind d t k)) + times x loose)
    → Built new less (instead kind d t k s) fs
exchange-any kind st new loose less t fs d k s h o e n deep met = record {
  root = place-instead kind d t k s e ∙ h.root ∙ sym o.root;
  stands = stands-instead kind st.bodies new.bodies d t k s h.stands n e (λ x. omega (arith, met-once st loose t fs h x)) (λ x i z. o.bodies x (omega (arith, i, z, times-append x (met_by (under kind d t k)) loose, met-once st loose t fs h x)));
  deep = subst (λ m. IsDeep m (instead kind d t k s)) (sym o.levels) (deep-instead kind st.levels d t k s h.deep deep);
  chain = subst (λ m. FreeFrom new.frees m fs) (sym o.free) (same-free st.frees new.frees st.free fs (λ x i. o.frees x (omega (arith, i, times-append x (met_by (under kind d t k)) loose, times-under kind x d t k, met-once st loose t fs h x))) h.chain);
  once = λ x. omega (arith, h.once x, same_held x new.size st.size o.size, met x, times-instead kind x d t k s);
}
