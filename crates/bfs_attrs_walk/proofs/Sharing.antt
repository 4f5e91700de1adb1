-- Numbers of nodes that were gone over, which differ.
use Rattle.std.proofs.Common.{◌≡◌, ◌≢◌, ◌≤◌, ◌+◌, ◌∙◌, ◌==◌, inl, inr, ℕ, List, [], ◌∷◌, ◌++◌, map, Bool, true, false, cond, refl, sym, ap, subst, arith}
use Rattle.std.proofs.lemmas.List.{map-append}
use Rattle.bfs_base.specs.Lists.{times}
use Rattle.bfs_sound.specs.Volumes.{Volume}
use Rattle.bfs_sound.specs.Owners.{In}
use Rattle.bfs_claims.specs.Claims.{Claimed, is_claimed}
use Rattle.bfs_claims.proofs.Claiming.{times_append}
pub use Rattle.bfs_attr_walk.proofs.Differing.{proper_parts, before_differ, value_is}
use Rattle.bfs_tour.specs.Tours.{Visit}
use Rattle.bfs_tour.specs.Touring.{Lead}
use Rattle.bfs_nodes_walk.specs.declared.lead.NodeLead.{NodeLead}
use Rattle.bfs_nodes_walk.specs.Leads.{as_leads, leads_of}
use Rattle.bfs_nodes_walk.specs.Walks.{blocks_of_visits, IsWalked}
use Rattle.bfs_nodes_walk.proofs.Blocks.{eq_itself, numbers_low}
use Rattle.bfs_nodes_walk.proofs.Leading.{lead_of}
use Rattle.bfs_attrs_walk.specs.Passes.{id_of}
use Rattle.bfs_attrs_walk.proofs.Passing.{at_top}

-- ---- numbers of nodes that were gone over differ

abbrev test : Bool → ℕ
test c = cond c 1 0

low_test : (c : Bool) → test c ≤ 1
low_test true = omega arith
low_test false = omega arith

test_itself : (n : ℕ) → test (n == n) ≡ 1
test_itself n = ap test (eq_itself n)

lead_numbers : (k : ℕ) (es : List Visit) → times k (map (λ (l : Lead). l.id) (leads_of es)) ≡ times k (map (λ (e : Visit). e.0) es)
lead_numbers k [] = refl
lead_numbers k (e ∷ es) =
    let one : times k (map (λ (l : Lead). l.id) (leads_of es ++ (lead_of e ∷ []))) ≡ times k (map (λ (l : Lead). l.id) (leads_of es) ++ (e.0 ∷ [])) = ap (times k) (map-append (λ (l : Lead). l.id) (leads_of es) (lead_of e ∷ [])) in
    let two : times k (map (λ (l : Lead). l.id) (leads_of es) ++ (e.0 ∷ [])) ≡ times k (map (λ (l : Lead). l.id) (leads_of es)) + times k (e.0 ∷ []) = times_append k (map (λ (l : Lead). l.id) (leads_of es)) (e.0 ∷ []) in
    let three : times k (e.0 ∷ []) ≡ test (e.0 == k) + 0 = refl in
    let four : times k (map (λ (e : Visit). e.0) (e ∷ es)) ≡ test (e.0 == k) + times k (map (λ (e : Visit). e.0) es) = refl in
    let h = lead_numbers k es in
    omega (arith, one, two, three, four, h)

row_numbers : (leads : List NodeLead) → map (λ (l : Lead). l.id) (as_leads leads) ≡ map id_of leads
row_numbers [] = refl
row_numbers (l ∷ ls) = ap (λ (x : List ℕ). id_of l ∷ x) (row_numbers ls)

met : (leads : List NodeLead) (l : NodeLead) → In l leads → 1 ≤ times (id_of l) (map id_of leads)
met [] l i = absurd i
met (x ∷ xs) l (inl e) =
    let a : test (id_of x == id_of l) ≡ 1 = subst (λ (n : NodeLead). test (id_of n == id_of l) ≡ 1) e (test_itself (id_of l)) in
    let h : 1 ≤ test (id_of x == id_of l) + times (id_of l) (map id_of xs) = omega (arith, a) in h
met (x ∷ xs) l (inr i) =
    let a = met xs l i in
    let h : 1 ≤ test (id_of x == id_of l) + times (id_of l) (map id_of xs) = omega (arith, a) in h

module _ (v : Volume) (first : List ℕ) (c : Claimed) (leads : List NodeLead) (w : IsWalked v first c leads) (root : ℕ) (is : root ≡ v.geometry.root) where
  abbrev nodes : List ℕ
  nodes = blocks_of_visits v (w.top ∷ w.visits)

  -- each number is there once
  once : (k : ℕ) → test (root == k) + times k (map id_of leads) ≤ 1
  once k =
      let claimed : times k (first ++ nodes) ≡ test (is_claimed c k) = w.claimed.each k in
      let low = low_test (is_claimed c k) in
      let parts = times_append k first nodes in
      let among : test (w.top.0 == k) + times k (map (λ (e : Visit). e.0) w.visits) ≤ times k nodes = numbers_low v k (w.top ∷ w.visits) in
      let top : test (w.top.0 == k) ≡ test (root == k) = ap (λ (n : ℕ). test (n == k)) (at_top v first c leads w root is) in
      let same : times k (map (λ (e : Visit). e.0) w.visits) ≡ times k (map id_of leads) = sym (lead_numbers k w.visits) ∙ ap (λ (x : List Lead). times k (map (λ (l : Lead). l.id) x)) w.followed ∙ ap (times k) (row_numbers leads) in
      omega (arith, claimed, low, parts, among, top, same)

  pub root_differs : (l : NodeLead) → In l leads → root ≢ id_of l
  root_differs l i e =
      let a = once (id_of l) in
      let b = met leads l i in
      let d : test (root == id_of l) ≡ 1 = subst (λ (n : ℕ). test (n == id_of l) ≡ 1) (sym e) (test_itself (id_of l)) in
      omega (arith, a, b, d)

  pub rows_differ : (front : List NodeLead) (l : NodeLead) (back : List NodeLead) → leads ≡ front ++ (l ∷ back) → (k : NodeLead) → In k front → id_of k ≢ id_of l
  rows_differ front l back parts k i e =
      let a = once (id_of l) in
      let b : times (id_of l) (map id_of leads) ≡ times (id_of l) (map id_of front ++ map id_of (l ∷ back)) = ap (λ (x : List NodeLead). times (id_of l) (map id_of x)) parts ∙ ap (times (id_of l)) (map-append id_of front (l ∷ back)) in
      let d = times_append (id_of l) (map id_of front) (map id_of (l ∷ back)) in
      let f : 1 ≤ times (id_of l) (map id_of front) = subst (λ (n : ℕ). 1 ≤ times n (map id_of front)) e (met front k i) in
      let g : 1 ≤ times (id_of l) (map id_of (l ∷ back)) = met (l ∷ back) l (inl refl) in
      omega (arith, a, b, d, f, g)
