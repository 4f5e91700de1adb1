-- What the calls of an insert come to.
use Rattle.std.proofs.Common.{Bool, true, false, ◌≡◌, ◌≢◌, ◌≤◌, ◌<◌, ◌-◌, ℕ, ℤ, suc, List, [], ◌∷◌, Some, None, cond, refl, ap, sym, ◌∙◌, subst, arith}
use Rattle.bfs_base.specs.Lists.{times}
use Rattle.bfs_base.specs.declared.kind.KeyKind.{KeyKind}
use Rattle.bfs_pages.specs.Order.{Key, at_most}
use Rattle.bfs_pages.specs.Maps.{assoc, put}
use Rattle.bfs_pages.specs.Shapes.{leaf_body, met_by, Shape, leaf_shape, node_shape, last_shape, place, entries_of, AscendAll, IsDeep, Stands}
use Rattle.bfs_pages.specs.Changes.{Taken}
use Rattle.bfs_insert.specs.Growth.{SplitOff, RowPut, Rooted, StepsDown, Heightens, Reaches, Inserts}
use Rattle.bfs_pages.specs.Trees.{State, Built, Holds}
use Rattle.bfs_insert.specs.Divided.{IsRoomy}
use Rattle.bfs_pages.proofs.Laws.{one}
use Rattle.bfs_pages.specs.Ways.{under, instead}
use Rattle.bfs_pages.proofs.Exchange.{stands-under, met-once}
use Rattle.bfs_insert.proofs.Inner.{put-row, grow-root}
use Rattle.bfs_pages.proofs.Looked.{leaf-value}
use Rattle.bfs_pages.proofs.OfKind.{rows-ascend, under-ascends, under-met}
use Rattle.bfs_pages.proofs.Descent.{deep-under, leaf-of}
use Rattle.bfs_insert.proofs.Steps.{taken, split-step}

-- the page in hand isn't one that values reach
hand-off : (st : State) (q : ℕ) (loose : List ℕ) (t : Shape) (fs : List ℕ) → Built st (q ∷ loose) t fs → (x : ℕ) → 1 ≤ times x loose → x ≢ q
hand-off st q loose t fs h x i = λ e. let m : 1 ≤ times q loose = subst (λ w. 1 ≤ times w loose) e i in omega (arith, m, met-once st (q ∷ loose) t fs h q, one q loose)

pub heightens : (kind : KeyKind) → (st mid new : State) (q : ℕ) → Taken st mid q → Rooted mid new q → Heightens kind st new
heightens kind st mid new q tk r loose t fs h some =
    let a = taken kind st mid loose t fs q h some tk in
    let off = hand-off mid q loose t a.0 a.1.built in (
      node_shape q (last_shape t),
      a.0,
      grow-root kind mid new q loose t a.0 a.1 r.same.bodies r.same.frees r.same.links r.root r.levels r.free r.size r.body,
      refl,
      omega (arith, a.2, r.size),
      λ x i. r.same.pages x (off x i) ∙ tk.0.pages x (off x i),
    )

pub stays : (kind : KeyKind) → (st : State) → Heightens kind st st
stays kind st loose t fs h some = (t, fs, h, refl, some, λ x i. refl)

pub reaches-root : (kind : KeyKind) → (st now : State) (k : Key) (at left : ℕ) → Heightens kind st now → at ≡ now.root → left ≡ now.levels → IsRoomy (now.pages at) → Reaches kind st now k at left
reaches-root kind st now k at left g e l room loose t fs h some =
    let a = g loose t fs h some in
    (a.0, a.1, 0, a.2, a.3, a.4, omega (arith, l), a.2.built.root ∙ sym e, room, a.5)

pub reaches-next : (kind : KeyKind) → (st now new : State) (k : Key) (at next left : ℕ) → Reaches kind st now k at left → 0 < left → StepsDown kind now new at k next → new.levels ≡ now.levels → Reaches kind st new k next (left - 1)
reaches-next kind st now new k at next left r some s same loose t fs h one =
    let a = r loose t fs h one in
    let b = s loose a.0 a.1 a.2 a.3 a.5 (omega (arith, some, a.6)) a.7 in
    (b.0, b.1, suc a.2, b.2, b.3 ∙ a.4, b.5, omega (arith, some, a.6, same), b.4, b.6, λ x i. b.7 x i ∙ a.9 x i)

pub inserts : (kind : KeyKind) → (st now new : State) (k : Key) (v : ℤ) (at : ℕ) → Reaches kind st now k at 0 → RowPut kind now new at k v → Inserts kind st new k v
inserts kind st now new k v at r p loose t fs h some absent =
    let a = r loose t fs h some in
    let u = deep-under kind now.levels a.2 a.0 k a.3.built.deep (omega (arith, a.6)) in
    let z : u.0 ≡ 0 = omega (arith, u.1, a.6) in
    let f = leaf-of (under kind a.2 a.0 k) at (subst (λ n. IsDeep n (under kind a.2 a.0 k)) z u.2) a.7 in
    let s : now.bodies at ≡ Some (leaf_body f.0) = subst (λ w. Stands now.bodies w) f.1 (stands-under kind now.bodies a.2 a.0 k a.3.built.stands) in
    let none : assoc kind f.0 k ≡ None = sym (leaf-value kind now loose a.0 a.1 a.2 k at f.0 a.3 f.1) ∙ ap (λ w. assoc kind w k) a.4 ∙ absent in
    let b = put-row kind now new loose a.0 a.1 a.2 k v at f.0 a.3 f.1 none
    (record {
      bodies = λ x i. p.bodies x (off x at i);
      frees = λ x i. p.frees x (off x at i);
      root = p.root;
      levels = p.levels;
      free = p.free;
      size = p.size;
    }) (p.leaf f.0 s (rows-ascend kind f.0 (subst (λ u. AscendAll kind (entries_of u)) f.1 (under-ascends kind a.2 a.0 k a.3.ascends)))) p.links in
    let met : 1 ≤ times at (met_by a.0) = under-met kind a.2 a.0 k at a.7 in
    (instead kind a.2 a.0 k (leaf_shape at (put kind f.0 k v)), a.1, b.0, b.1 ∙ ap (λ w. put kind w k v) a.4, λ x i. p.pages x (not_met a.0 a.1 a.3.built met x i) ∙ a.9 x i)
  where
    off : (x y : ℕ) → times x (y ∷ []) ≡ 0 → x ≢ y
    off x y i = λ e. grind (arith, i, e)

    not_met : (t2 : Shape) (fs2 : List ℕ) → Built now loose t2 fs2 → 1 ≤ times at (met_by t2) → (x : ℕ) → 1 ≤ times x loose → x ≢ at
    not_met t2 fs2 h m x i = λ e. let n : 1 ≤ times at loose = subst (λ w. 1 ≤ times w loose) e i in omega (arith, n, m, met-once now loose t2 fs2 h at)

-- a page was taken and the child split in it
pub steps-halved : (kind : KeyKind) → (st mid new : State) (q at : ℕ) (k : Key) (c next : ℕ) (left : Bool) → Taken st mid q
    → ((loose : List ℕ) (t : Shape) (fs : List ℕ) (d : ℕ) → Holds kind st loose t fs → suc d ≤ st.levels → place (under kind d t k) ≡ at → place (under kind (suc d) t k) ≡ c)
    → ((loose : List ℕ) (t : Shape) (fs : List ℕ) (d : ℕ) → Holds kind mid (q ∷ loose) t fs → suc d ≤ mid.levels → place (under kind d t k) ≡ at → place (under kind (suc d) t k) ≡ c
    → (sep : Key) × SplitOff kind mid new loose at c k q sep × (at_most kind k sep ≡ left))
    → cond left c q ≡ next → StepsDown kind st new at k next
steps-halved kind st mid new q at k c next left tk on cut n loose t fs d h some l e =
    let a = taken kind st mid loose t fs q h some tk in
    let l2 : suc d ≤ mid.levels = subst (λ m. suc d ≤ m) (sym tk.2) l in
    let ec = on loose t fs d h l e in
    let s = cut loose t a.0 d a.1 l2 e ec in
    let b = split-step kind mid new q loose t a.0 d k at c s.0 a.1 a.2 l2 e ec s.1 in
    let off = hand-off mid q loose t a.0 a.1.built in
    (b.0, a.0, b.1, b.2, b.3 ∙ ap (λ z. cond z c q) s.2 ∙ n, omega (arith, a.2, s.1.others.size), room left n s.1.left_room s.1.right_room, λ x i. s.1.stay x i ∙ tk.0.pages x (off x i))
  where
    room : (z : Bool) → cond z c q ≡ next → IsRoomy (new.pages c) → IsRoomy (new.pages q) → IsRoomy (new.pages next)
    room true e a b = subst (λ y. IsRoomy (new.pages y)) e a
    room false e a b = subst (λ y. IsRoomy (new.pages y)) e b
