-- Another tree so many levels down the way of a key.
use Rattle.std.proofs.Common.{◌≡◌, ◌≤◌, ◌+◌, ℕ, zero, suc, List, [], ◌∷◌, ◌++◌, Option, Some, Bool, true, false, cond, refl, ap, ap₂, sym, ◌∙◌, subst, arith, append_assoc, append-nil}
use Rattle.std.specs.List.{AllByRecursion}
use Rattle.bfs_node.specs.Lists.{times}
use Rattle.bfs_node.specs.BaseKeyKind.{KeyKind}
use Rattle.bfs_pages.specs.Order.{Key, at_most}
use Rattle.bfs_pages.specs.Shapes.{Body, inner_body, Shape, Shapes, leaf_shape, node_shape, last_shape, more_shapes, place, met_by, met_by_all, leaves_of, children_of, last_child, IsDeep, AreDeep, Stands, StandAll, entries_in, entries_of, entries_all, IsAbove, AscendAll}
use Rattle.bfs_pages.specs.Ways.{child_for, joined, spliced, before, behind, leaves_before, leaves_behind, under, instead, before_way, behind_way, leaves_before_way, leaves_behind_way}
use Rattle.bfs_pages.proofs.KeyOrder.{IsBelow}
use Rattle.bfs_pages.proofs.Splice.{all-append, ascends-left, ascends-right, entries-child, entries-spliced, before-below, behind-above, deep-spliced, times-spliced, times-append, leaves-child, leaves-spliced, same_shape, same_shapes, self}

nest : {A : Type 0} (a b c d e : List A) → a ++ ((b ++ (c ++ d)) ++ e) ≡ (a ++ b) ++ (c ++ (d ++ e))
nest a b c d e = ap (λ l. a ++ l) (append_assoc b (c ++ d) e ∙ ap (λ l. b ++ l) (append_assoc c d e)) ∙ sym (append_assoc a b (c ++ (d ++ e)))

pub entries-under : (kind : KeyKind) → (d : ℕ) (t : Shape) (k : Key) → entries_of t ≡ before_way kind d t k ++ (entries_of (under kind d t k) ++ behind_way kind d t k)
entries-under kind zero t k = sym (append-nil (entries_of t))
entries-under kind (suc d) (leaf_shape at rows) k = sym (append-nil (entries_in rows))
entries-under kind (suc d) (node_shape at below) k =
    entries-child kind below k ∙ ap (λ l. before kind below k ++ (l ++ behind kind below k)) (entries-under kind d (child_for kind below k) k)
    ∙ nest (before kind below k) (before_way kind d (child_for kind below k) k) (entries_of (under kind d (child_for kind below k) k)) (behind_way kind d (child_for kind below k) k) (behind kind below k)

pub entries-instead : (kind : KeyKind) → (d : ℕ) (t : Shape) (k : Key) (s : Shape) → entries_of (instead kind d t k s) ≡ before_way kind d t k ++ (entries_of s ++ behind_way kind d t k)
entries-instead kind zero t k s = sym (append-nil (entries_of s))
entries-instead kind (suc d) (leaf_shape at rows) k s = sym (append-nil (entries_of s))
entries-instead kind (suc d) (node_shape at below) k s =
    entries-spliced kind below k (last_shape (instead kind d (child_for kind below k) k s)) ∙ ap (λ l. before kind below k ++ (l ++ behind kind below k)) (entries-instead kind d (child_for kind below k) k s)
    ∙ nest (before kind below k) (before_way kind d (child_for kind below k) k) (entries_of s) (behind_way kind d (child_for kind below k) k) (behind kind below k)

child-ascends : (kind : KeyKind) → (ts : Shapes) (k : Key) → AscendAll kind (entries_all ts) → AscendAll kind (entries_of (child_for kind ts k))
child-ascends kind ts k a =
    let a2 : AscendAll kind (before kind ts k ++ (entries_of (child_for kind ts k) ++ behind kind ts k)) = subst (λ l. AscendAll kind l) (entries-child kind ts k) a in
    ascends-left kind (entries_of (child_for kind ts k)) (behind kind ts k) (ascends-right kind (before kind ts k) (entries_of (child_for kind ts k) ++ behind kind ts k) a2)

pub before-way-below : (kind : KeyKind) → (d : ℕ) (t : Shape) (k : Key) → AscendAll kind (entries_of t) → AllByRecursion (λ e. IsBelow kind k e) (before_way kind d t k)
before-way-below kind zero t k a = tt
before-way-below kind (suc d) (leaf_shape at rows) k a = tt
before-way-below kind (suc d) (node_shape at below) k a =
    all-append (λ e. IsBelow kind k e) (before kind below k) (before_way kind d (child_for kind below k) k) (before-below kind below k a) (before-way-below kind d (child_for kind below k) k (child-ascends kind below k a))

pub behind-way-above : (kind : KeyKind) → (d : ℕ) (t : Shape) (k : Key) → AscendAll kind (entries_of t) → AllByRecursion (λ e. IsAbove kind k e) (behind_way kind d t k)
behind-way-above kind zero t k a = tt
behind-way-above kind (suc d) (leaf_shape at rows) k a = tt
behind-way-above kind (suc d) (node_shape at below) k a =
    all-append (λ e. IsAbove kind k e) (behind_way kind d (child_for kind below k) k) (behind kind below k) (behind-way-above kind d (child_for kind below k) k (child-ascends kind below k a)) (behind-above kind below k a)

pub leaves-under : (kind : KeyKind) → (d : ℕ) (t : Shape) (k : Key) → leaves_of t ≡ leaves_before_way kind d t k ++ (leaves_of (under kind d t k) ++ leaves_behind_way kind d t k)
leaves-under kind zero t k = sym (append-nil (leaves_of t))
leaves-under kind (suc d) (leaf_shape at rows) k = refl
leaves-under kind (suc d) (node_shape at below) k =
    leaves-child kind below k ∙ ap (λ l. leaves_before kind below k ++ (l ++ leaves_behind kind below k)) (leaves-under kind d (child_for kind below k) k)
    ∙ nest (leaves_before kind below k) (leaves_before_way kind d (child_for kind below k) k) (leaves_of (under kind d (child_for kind below k) k)) (leaves_behind_way kind d (child_for kind below k) k) (leaves_behind kind below k)

pub leaves-instead : (kind : KeyKind) → (d : ℕ) (t : Shape) (k : Key) (s : Shape) → leaves_of (instead kind d t k s) ≡ leaves_before_way kind d t k ++ (leaves_of s ++ leaves_behind_way kind d t k)
leaves-instead kind zero t k s = sym (append-nil (leaves_of s))
leaves-instead kind (suc d) (leaf_shape at rows) k s = sym (append-nil (leaves_of s))
leaves-instead kind (suc d) (node_shape at below) k s =
    leaves-spliced kind below k (last_shape (instead kind d (child_for kind below k) k s)) ∙ ap (λ l. leaves_before kind below k ++ (l ++ leaves_behind kind below k)) (leaves-instead kind d (child_for kind below k) k s)
    ∙ nest (leaves_before kind below k) (leaves_before_way kind d (child_for kind below k) k) (leaves_of s) (leaves_behind_way kind d (child_for kind below k) k) (leaves_behind kind below k)

pub child-deep : (kind : KeyKind) → (n : ℕ) (ts : Shapes) (k : Key) → AreDeep n ts → IsDeep n (child_for kind ts k)
child-deep kind n (last_shape t) k s = s
child-deep kind n (more_shapes t key ts) k s = by_test (at_most kind k key) (child-deep kind n ts k s.1)
  where
    by_test : (c : Bool) → IsDeep n (child_for kind ts k) → IsDeep n (cond c t (child_for kind ts k))
    by_test true ih = s.0
    by_test false ih = ih

pub deep-instead : (kind : KeyKind) → (m d : ℕ) (t : Shape) (k : Key) (s : Shape) → IsDeep m t → ((n : ℕ) → IsDeep n (under kind d t k) → IsDeep n s) → IsDeep m (instead kind d t k s)
deep-instead kind m zero t k s a h = h m a
deep-instead kind m (suc d) (leaf_shape at rows) k s a h = h m a
deep-instead kind zero (suc d) (node_shape at below) k s a h = absurd a
deep-instead kind (suc m) (suc d) (node_shape at below) k s a h =
    deep-spliced kind m below k (last_shape (instead kind d (child_for kind below k) k s)) a (deep-instead kind m d (child_for kind below k) k s (child-deep kind m below k a) h)

pub times-instead : (kind : KeyKind) → (x d : ℕ) (t : Shape) (k : Key) (s : Shape) → times x (met_by (instead kind d t k s)) + times x (met_by (under kind d t k)) ≡ times x (met_by t) + times x (met_by s)
times-instead kind x zero t k s = omega arith
times-instead kind x (suc d) (leaf_shape at rows) k s = omega arith
times-instead kind x (suc d) (node_shape at below) k s = omega (arith, times-spliced kind x below k (last_shape (instead kind d (child_for kind below k) k s)), times-instead kind x d (child_for kind below k) k s)

pub times-child : (kind : KeyKind) → (x : ℕ) (ts : Shapes) (k : Key) → times x (met_by (child_for kind ts k)) ≤ times x (met_by_all ts)
times-child kind x (last_shape t) k = omega arith
times-child kind x (more_shapes t key ts) k = by_test (at_most kind k key) (times-child kind x ts k)
  where
    by_test : (c : Bool) → times x (met_by (child_for kind ts k)) ≤ times x (met_by_all ts) → times x (met_by (cond c t (child_for kind ts k))) ≤ times x (met_by t ++ met_by_all ts)
    by_test true ih = omega (arith, times-append x (met_by t) (met_by_all ts))
    by_test false ih = omega (arith, ih, times-append x (met_by t) (met_by_all ts))

pub times-under : (kind : KeyKind) → (x d : ℕ) (t : Shape) (k : Key) → times x (met_by (under kind d t k)) ≤ times x (met_by t)
times-under kind x zero t k = omega arith
times-under kind x (suc d) (leaf_shape at rows) k = omega arith
times-under kind x (suc d) (node_shape at below) k = omega (arith, times-child kind x below k, times-under kind x d (child_for kind below k) k)

stands-joined : (now : ℕ → Option Body) (ss : Shapes) (key : Key) (ts : Shapes) → StandAll now ss → StandAll now ts → StandAll now (joined ss key ts)
stands-joined now (last_shape t) key ts a b = (a, b)
stands-joined now (more_shapes t k ss) key ts a b = (a.0, stands-joined now ss key ts a.1 b)

pub stands-spliced : (kind : KeyKind) → (pages now : ℕ → Option Body) (ts : Shapes) (k : Key) (ss : Shapes) → StandAll pages ts → StandAll now ss
    → ((x : ℕ) → times x (met_by_all ts) ≤ 1) → ((x : ℕ) → 1 ≤ times x (met_by_all ts) → times x (met_by (child_for kind ts k)) ≡ 0 → now x ≡ pages x) → StandAll now (spliced kind ts k ss)
stands-spliced kind pages now (last_shape t) k ss s n once same = n
stands-spliced kind pages now (more_shapes t key ts) k ss s n once same =
    by_test (at_most kind k key)
    (λ h. stands-spliced kind pages now ts k ss s.1 n (λ x. omega (arith, once x, times-append x (met_by t) (met_by_all ts))) h)
    same
  where
    by_test : (c : Bool) → (((x : ℕ) → 1 ≤ times x (met_by_all ts) → times x (met_by (child_for kind ts k)) ≡ 0 → now x ≡ pages x) → StandAll now (spliced kind ts k ss))
        → ((x : ℕ) → 1 ≤ times x (met_by t ++ met_by_all ts) → times x (met_by (cond c t (child_for kind ts k))) ≡ 0 → now x ≡ pages x)
        → StandAll now (cond c (joined ss key ts) (more_shapes t key (spliced kind ts k ss)))
    by_test true ih h = stands-joined now ss key ts n (same_shapes pages now ts (λ x i. h x (omega (arith, i, times-append x (met_by t) (met_by_all ts))) (omega (arith, i, once x, times-append x (met_by t) (met_by_all ts)))) s.1)
    by_test false ih h = (
      same_shape pages now t (λ x i. h x (omega (arith, i, times-append x (met_by t) (met_by_all ts))) (omega (arith, i, once x, times-child kind x ts k, times-append x (met_by t) (met_by_all ts)))) s.0,
      ih (λ x i z. h x (omega (arith, i, times-append x (met_by t) (met_by_all ts))) z),
    )

pub child-stands : (kind : KeyKind) → (pages : ℕ → Option Body) (ts : Shapes) (k : Key) → StandAll pages ts → Stands pages (child_for kind ts k)
child-stands kind pages (last_shape t) k s = s
child-stands kind pages (more_shapes t key ts) k s = by_test (at_most kind k key) (child-stands kind pages ts k s.1)
  where
    by_test : (c : Bool) → Stands pages (child_for kind ts k) → Stands pages (cond c t (child_for kind ts k))
    by_test true ih = s.0
    by_test false ih = ih

pub keys-one : (kind : KeyKind) → (ts : Shapes) (k : Key) (s : Shape) → place s ≡ place (child_for kind ts k) → (children_of (spliced kind ts k (last_shape s)) ≡ children_of ts) × (last_child (spliced kind ts k (last_shape s)) ≡ last_child ts)
keys-one kind (last_shape t) k s e = (refl, e)
keys-one kind (more_shapes t key ts) k s e = by_test (at_most kind k key) e (λ h. keys-one kind ts k s h)
  where
    by_test : (c : Bool) → place s ≡ place (cond c t (child_for kind ts k)) → (place s ≡ place (child_for kind ts k) → (children_of (spliced kind ts k (last_shape s)) ≡ children_of ts) × (last_child (spliced kind ts k (last_shape s)) ≡ last_child ts))
        → (children_of (cond c (more_shapes s key ts) (more_shapes t key (spliced kind ts k (last_shape s)))) ≡ (key, place t) ∷ children_of ts) × (last_child (cond c (more_shapes s key ts) (more_shapes t key (spliced kind ts k (last_shape s)))) ≡ last_child ts)
    by_test true e ih = (ap (λ p. (key, p) ∷ children_of ts) e, refl)
    by_test false e ih = (ap (λ l. (key, place t) ∷ l) (ih e).0, (ih e).1)

pub place-instead : (kind : KeyKind) → (d : ℕ) (t : Shape) (k : Key) (s : Shape) → place s ≡ place (under kind d t k) → place (instead kind d t k s) ≡ place t
place-instead kind zero t k s e = e
place-instead kind (suc d) (leaf_shape at rows) k s e = e
place-instead kind (suc d) (node_shape at below) k s e = refl

pub place-met : (t : Shape) → 1 ≤ times (place t) (met_by t)
place-met (leaf_shape at rows) = self at []
place-met (node_shape at below) = self at (met_by_all below)

pub stands-instead : (kind : KeyKind) → (pages now : ℕ → Option Body) (d : ℕ) (t : Shape) (k : Key) (s : Shape) → Stands pages t → Stands now s → place s ≡ place (under kind d t k)
    → ((x : ℕ) → times x (met_by t) ≤ 1) → ((x : ℕ) → 1 ≤ times x (met_by t) → times x (met_by (under kind d t k)) ≡ 0 → now x ≡ pages x) → Stands now (instead kind d t k s)
stands-instead kind pages now zero t k s o n e once same = n
stands-instead kind pages now (suc d) (leaf_shape at rows) k s o n e once same = n
stands-instead kind pages now (suc d) (node_shape at below) k s o n e once same =
    let kept = keys-one kind below k (instead kind d (child_for kind below k) k s) (place-instead kind d (child_for kind below k) k s e) in
    let child_once : (x : ℕ) → times x (met_by (child_for kind below k)) ≤ 1 = λ x. omega (arith, once x, times-child kind x below k) in
    let far : times at (met_by (under kind d (child_for kind below k) k)) ≡ 0 = omega (arith, once at, self at (met_by_all below), times-under kind at d (child_for kind below k) k, times-child kind at below k, one at (met_by_all below)) in
    let sub = stands-instead kind pages now d (child_for kind below k) k s (child-stands kind pages below k o.1) n e child_once (λ x i z. same x (omega (arith, i, times-child kind x below k)) z) in (
      same at (self at (met_by_all below)) far ∙ o.0 ∙ ap₂ (λ a b. Some (inner_body a b)) (sym kept.0) (sym kept.1),
      stands-spliced kind pages now below k (last_shape (instead kind d (child_for kind below k) k s)) o.1 sub (λ x. omega (arith, once x)) (λ x i z. same x (omega (arith, i)) (omega (arith, z, times-under kind x d (child_for kind below k) k))),
    )
  where
    one : (x : ℕ) (xs : List ℕ) → times x (x ∷ xs) ≡ 1 + times x xs
    one x xs = grind arith
