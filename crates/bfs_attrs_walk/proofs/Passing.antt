-- The attributes of nodes, one after the other.
use Rattle.std.proofs.Common.{◌≡◌, ◌≤◌, ◌<◌, ◌+◌, ◌∙◌, inl, inr, ℕ, zero, suc, List, [], ◌∷◌, ◌++◌, length, length-append, take, drop, get_or, refl, sym, ap, subst, arith, append_assoc, append-nil}
use Rattle.std.specs.List.{flat_map}
use Rattle.std.proofs.lemmas.List.{take_more, drop_more, take-append-drop, take_all}
use Rattle.bfs_base.specs.Lists.{times}
use Rattle.bfs_super.specs.Conditions.{natural}
use Rattle.bfs_sound.specs.Volumes.{Volume}
use Rattle.bfs_sound.specs.Owners.{In, own_blocks, node_blocks}
use Rattle.bfs_finding.specs.Ways.{IsReached, root_reached}
use Rattle.bfs_claims.specs.Claims.{Claimed, AreClaimed}
use Rattle.bfs_claims.proofs.Claiming.{times_append}
use Rattle.bfs_node_walk.specs.Listed.{NamesBlock}
use Rattle.bfs_tour.specs.Tours.{Visit}
use Rattle.bfs_tour.specs.Touring.{Lead}
use Rattle.bfs_nodes_walk.specs.declared.lead.NodeLead.{NodeLead}
use Rattle.bfs_nodes_walk.specs.Leads.{as_leads, leads_of, AreInside}
use Rattle.bfs_nodes_walk.specs.Walks.{HasAttributes, HaveAttributes, blocks_of_visits, IsWalked}
use Rattle.bfs_nodes_walk.proofs.Leading.{in_behind, of_all, lead_of, visit_met, row_met}
use Rattle.bfs_attrs_walk.specs.Passes.{id_of, attribute_blocks, blocks_of_leads, AreReached, HaveThose, IsWhole}
use Rattle.bfs_attrs_walk.proofs.Nodes.{reached_by}

module _ (leads : List NodeLead) (i : ℕ) (l : NodeLead) (inside : i < length leads) (item : l ≡ get_or leads i l) where
  pub parts : leads ≡ take i leads ++ (l ∷ drop (i + 1) leads)
  parts = sym (take-append-drop i leads) ∙ ap (λ (x : List NodeLead). take i leads ++ x) (drop_more leads i l inside ∙ ap (λ (x : NodeLead). x ∷ drop (i + 1) leads) (sym item))

  pub there : In l leads
  there = subst (In l) (sym parts) (in_behind l (take i leads) (l ∷ drop (i + 1) leads) (inl refl))

  next : take (i + 1) leads ≡ take i leads ++ (l ∷ [])
  next = take_more leads i l inside ∙ ap (λ (x : NodeLead). take i leads ++ (x ∷ [])) (sym item)

  pub names_block : (blocks : ℕ) → AreInside blocks leads → NamesBlock blocks (l.row.name, l.row.value)
  names_block blocks all = of_all (λ (x : NodeLead). NamesBlock blocks (x.row.name, x.row.value)) leads l all there

  module _ (v : Volume) where
    pub reached_there : AreReached v leads → IsReached v (id_of l)
    reached_there all = of_all (λ (x : NodeLead). IsReached v (id_of x)) leads l all there

    both_have : (xs : List NodeLead) → HaveThose v xs → HasAttributes v (id_of l) → HaveThose v (xs ++ (l ∷ []))
    both_have [] a h = (h, tt)
    both_have (x ∷ xs) a h = (a.0, both_have xs a.1 h)

    pub have_next : HaveThose v (take i leads) → HasAttributes v (id_of l) → HaveThose v (take (i + 1) leads)
    have_next a h = subst (HaveThose v) (sym next) (both_have (take i leads) a h)

    more_blocks : (xs : List NodeLead) → blocks_of_leads v (xs ++ (l ∷ [])) ≡ blocks_of_leads v xs ++ attribute_blocks v (id_of l)
    more_blocks [] = append-nil (attribute_blocks v (id_of l))
    more_blocks (x ∷ xs) = ap (λ (k : List ℕ). attribute_blocks v (id_of x) ++ k) (more_blocks xs) ∙ sym (append_assoc (attribute_blocks v (id_of x)) (blocks_of_leads v xs) (attribute_blocks v (id_of l)))

    pub none_next : (block : ℕ) → times block (blocks_of_leads v (take i leads)) ≡ 0 → times block (attribute_blocks v (id_of l)) ≡ 0 → times block (blocks_of_leads v (take (i + 1) leads)) ≡ 0
    none_next block before here =
        let all : times block (blocks_of_leads v (take i leads) ++ attribute_blocks v (id_of l)) ≡ times block (blocks_of_leads v (take i leads)) + times block (attribute_blocks v (id_of l)) =
        times_append block (blocks_of_leads v (take i leads)) (attribute_blocks v (id_of l)) in
        let sum : times block (blocks_of_leads v (take i leads) ++ attribute_blocks v (id_of l)) ≡ 0 = omega (arith, all, before, here) in
        ap (λ (k : List NodeLead). times block (blocks_of_leads v k)) next ∙ ap (times block) (more_blocks (take i leads)) ∙ sum

    pub claimed_next : (c : Claimed) (xs : List ℕ) → AreClaimed c ((xs ++ blocks_of_leads v (take i leads)) ++ attribute_blocks v (id_of l)) → AreClaimed c (xs ++ blocks_of_leads v (take (i + 1) leads))
    claimed_next c xs a =
        subst (AreClaimed c) (append_assoc xs (blocks_of_leads v (take i leads)) (attribute_blocks v (id_of l)) ∙ ap (λ (k : List ℕ). xs ++ k) (sym (more_blocks (take i leads)) ∙ ap (blocks_of_leads v) (sym next))) a

module _ (v : Volume) (leads : List NodeLead) (i : ℕ) (past : length leads ≤ i) where
  pub have_all : HaveThose v (take i leads) → HaveThose v leads
  have_all a = subst (HaveThose v) (take_all i leads past) a

  pub claimed_all : (c : Claimed) (xs : List ℕ) → AreClaimed c (xs ++ blocks_of_leads v (take i leads)) → AreClaimed c (xs ++ blocks_of_leads v leads)
  claimed_all c xs a = subst (λ (l : List NodeLead). AreClaimed c (xs ++ blocks_of_leads v l)) (take_all i leads past) a

-- the rows before one name blocks where all do
pub inside_before : (blocks : ℕ) (leads : List NodeLead) (i : ℕ) → AreInside blocks leads → AreInside blocks (take i leads)
inside_before blocks leads zero all = tt
inside_before blocks [] (suc i) all = tt
inside_before blocks (l ∷ ls) (suc i) all = (all.0, inside_before blocks ls i all.1)

-- one row
pub named_id : (blocks : ℕ) (l : NodeLead) (id : ℕ) → id ≡ id_of l → NamesBlock blocks (l.row.name, l.row.value) → id < blocks
named_id blocks l id is n = subst (λ (k : ℕ). k < blocks) (sym (is ∙ ap natural n.1)) n.2

-- ---- the blocks of visits with their attributes, counted

module _ (v : Volume) (f : List ℕ → ℕ) (add : (xs ys : List ℕ) → f (xs ++ ys) ≡ f xs + f ys) where
  nothing : f [] ≡ 0
  nothing = let a : f [] ≡ f [] + f [] = add [] [] in omega (arith, a)

  abbrev attrs : List Visit → List ℕ
  attrs es = flat_map (λ (e : Visit). attribute_blocks v e.0) es

  one_node : (e : Visit) → f (node_blocks v e) ≡ f (own_blocks v e) + f (attribute_blocks v e.0)
  unfolding node_blocks
  one_node e = add (own_blocks v e) (attribute_blocks v e.0)

  split : (es : List Visit) → f (flat_map (node_blocks v) es) ≡ f (blocks_of_visits v es) + f (attrs es)
  split [] = let n = nothing in omega (arith, n)
  split (e ∷ es) =
      let a = add (node_blocks v e) (flat_map (node_blocks v) es) in
      let b = one_node e in
      let c = add (own_blocks v e) (blocks_of_visits v es) in
      let d = add (attribute_blocks v e.0) (attrs es) in
      let h = split es in
      omega (arith, a, b, c, d, h)

  abbrev by_lead : List Lead → List ℕ
  by_lead ls = flat_map (λ (l : Lead). attribute_blocks v l.id) ls

  joined : (xs : List Lead) (y : Lead) → f (by_lead (xs ++ (y ∷ []))) ≡ f (by_lead xs) + f (attribute_blocks v y.id)
  joined [] y = let a = add (attribute_blocks v y.id) [] in let n = nothing in omega (arith, a, n)
  joined (x ∷ xs) y =
      let a = add (attribute_blocks v x.id) (by_lead (xs ++ (y ∷ []))) in
      let b = add (attribute_blocks v x.id) (by_lead xs) in
      let h = joined xs y in
      omega (arith, a, b, h)

  of_visits : (es : List Visit) → f (by_lead (leads_of es)) ≡ f (attrs es)
  of_visits [] = refl
  of_visits (e ∷ es) =
      let a = joined (leads_of es) (lead_of e) in
      let b = add (attribute_blocks v e.0) (attrs es) in
      let h = of_visits es in
      omega (arith, a, b, h)

  of_leads : (leads : List NodeLead) → by_lead (as_leads leads) ≡ blocks_of_leads v leads
  of_leads [] = refl
  of_leads (l ∷ ls) = ap (λ (k : List ℕ). attribute_blocks v (id_of l) ++ k) (of_leads ls)

  pub counted : (first : List ℕ) (top : Visit) (es : List Visit) (leads : List NodeLead) (root : ℕ) → top.0 ≡ root → leads_of es ≡ as_leads leads
      → f (first ++ flat_map (node_blocks v) (top ∷ es)) ≡ f (((first ++ blocks_of_visits v (top ∷ es)) ++ attribute_blocks v root) ++ blocks_of_leads v leads)
  counted first top es leads root at followed =
      let a = add first (flat_map (node_blocks v) (top ∷ es)) in
      let b = split (top ∷ es) in
      let c = add (attribute_blocks v top.0) (attrs es) in
      let d : f (attribute_blocks v top.0) ≡ f (attribute_blocks v root) = ap (λ (n : ℕ). f (attribute_blocks v n)) at in
      let e : f (attrs es) ≡ f (blocks_of_leads v leads) = sym (of_visits es) ∙ ap (λ (ls : List Lead). f (by_lead ls)) followed ∙ ap f (of_leads leads) in
      let g = add ((first ++ blocks_of_visits v (top ∷ es)) ++ attribute_blocks v root) (blocks_of_leads v leads) in
      let h = add (first ++ blocks_of_visits v (top ∷ es)) (attribute_blocks v root) in
      let k = add first (blocks_of_visits v (top ∷ es)) in
      omega (arith, a, b, c, d, e, g, h, k)

-- ---- all nodes

module _ (v : Volume) (first : List ℕ) (c : Claimed) (leads : List NodeLead) (w : IsWalked v first c leads) (root : ℕ) (is : root ≡ v.geometry.root) where
  pub at_top : w.top.0 ≡ root
  at_top = w.ways.root.0 ∙ sym is

  have : HasAttributes v root → HaveThose v leads → HaveAttributes v (w.top ∷ w.visits)
  have a all e (inl same) = subst (HasAttributes v) (sym (ap (λ (x : Visit). x.0) same ∙ at_top)) a
  have a all e (inr i) =
      let r = row_met leads (lead_of e) (subst (λ (x : List Lead). In (lead_of e) x) w.followed (visit_met w.visits e i)) in
      subst (HasAttributes v) (sym (ap (λ (x : Lead). x.id) r.2)) (of_all (λ (x : NodeLead). HasAttributes v (id_of x)) leads r.0 all r.1)

  pub whole : (d : Claimed) → HasAttributes v root → HaveThose v leads → AreClaimed d (((first ++ blocks_of_visits v (w.top ∷ w.visits)) ++ attribute_blocks v root) ++ blocks_of_leads v leads) → IsWhole v first d leads
  whole d a all claimed = record {
    top = w.top;
    visits = w.visits;
    touring = w.touring (have a all);
    ways = w.ways;
    followed = w.followed;
    claimed = record {
      each = λ k. counted v (times k) (times_append k) first w.top w.visits leads root at_top w.followed ∙ claimed.each k;
      number = claimed.number ∙ sym (counted v length (λ (xs ys : List ℕ). length-append xs ys) first w.top w.visits leads root at_top w.followed);
    };
  }

  pub top_reached : IsReached v root
  top_reached = subst (IsReached v) (sym is) root_reached

  pub row_is_reached : (l : NodeLead) → In l leads → IsReached v (id_of l)
  row_is_reached = reached_by v w.top w.visits w.ways leads w.followed
