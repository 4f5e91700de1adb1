-- The nodes that were gone over, in their places: ways lead to them, and their blocks are those of the visits.
use Rattle.std.proofs.Common.{◌≡◌, ◌+◌, ◌∙◌, ◌⊎◌, inl, inr, ℕ, List, [], ◌∷◌, ◌++◌, map, refl, sym, ap, subst, arith}
use Rattle.std.specs.List.{AllByRecursion, flat_map}
use Rattle.bfs_base.specs.Lists.{times, Has}
use Rattle.bfs_sound.specs.Volumes.{Volume}
use Rattle.bfs_sound.specs.Owners.{In, own_blocks, owner_blocks}
use Rattle.bfs_finding.specs.Ways.{to_root, to_child, IsReached, row_reached, Arrives, lacks_stream}
use Rattle.bfs_claims.proofs.Claiming.{times_append}
use Rattle.bfs_node_check.specs.declared.role.Role.TheVariants as roles
use Rattle.bfs_owner.specs.Owned.{IsPlaced, ArePlaced, blocks_at, blocks_of_places}
use Rattle.bfs_owner.specs.declared.place.Place.{Place}
use Rattle.bfs_tour.specs.Tours.{Visit}
use Rattle.bfs_tour.specs.Touring.{Lead}
use Rattle.bfs_nodes_walk.specs.declared.lead.NodeLead.{NodeLead}
use Rattle.bfs_nodes_walk.specs.Leads.{as_lead, as_leads, leads_of, places_of_nodes}
use Rattle.bfs_nodes_walk.specs.Walks.{AreOnWays, IsNodeWay, blocks_of_visits}
use Rattle.bfs_nodes_walk.proofs.Leading.{in_parts, lead_of}
use Rattle.bfs_attrs_walk.specs.Passes.{id_of, AreReached, IsOwnerBy}

abbrev placed : NodeLead → Place
placed l = record { id = id_of l; role = roles.Child }

-- a row that was followed names a visit
met_visit : (es : List Visit) (x : Lead) → In x (leads_of es) → (e : Visit) × In e es × (x ≡ lead_of e)
met_visit [] x i = absurd i
met_visit (e ∷ es) x i = by_side (in_parts x (leads_of es) (lead_of e ∷ []) i) (met_visit es x)
  where
    by_side : In x (leads_of es) ⊎ In x (lead_of e ∷ []) → (In x (leads_of es) → (y : Visit) × In y es × (x ≡ lead_of y)) → (y : Visit) × In y (e ∷ es) × (x ≡ lead_of y)
    by_side (inl j) ih = let r = ih j in (r.0, inr r.1, r.2)
    by_side (inr (inl same)) ih = (e, inl refl, same)
    by_side (inr (inr j)) ih = absurd j

in_leads : (ls : List NodeLead) (l : NodeLead) → In l ls → In (as_lead l) (as_leads ls)
in_leads [] l i = absurd i
in_leads (x ∷ xs) l (inl same) = inl (ap as_lead same)
in_leads (x ∷ xs) l (inr i) = inr (in_leads xs l i)

pub all_from : (P : NodeLead → Type 0) (ls : List NodeLead) → ((l : NodeLead) → In l ls → P l) → AllByRecursion P ls
all_from P [] h = tt
all_from P (x ∷ xs) h = (h x (inl refl), all_from P xs (λ l i. h l (inr i)))

-- the row that a place is of
lead_placed : (p : Place) (ls : List NodeLead) → In p (map placed ls) → (l : NodeLead) × In l ls × (p ≡ placed l)
lead_placed p [] i = absurd i
lead_placed p (l ∷ ls) (inl e) = (l, inl refl, e)
lead_placed p (l ∷ ls) (inr i) = let h = lead_placed p ls i in (h.0, inr h.1, h.2)

module _ (v : Volume) (top : Visit) (visits : List Visit) (ways : AreOnWays v top visits) (leads : List NodeLead) (followed : leads_of visits ≡ as_leads leads) where
  -- the visit by a row
  pub visit_by : (l : NodeLead) → In l leads → (e : Visit) × In e visits × (id_of l ≡ e.0)
  visit_by l i =
      let m = met_visit visits (as_lead l) (subst (λ (x : List Lead). In (as_lead l) x) (sym followed) (in_leads leads l i)) in
      (m.0, m.1, ap (λ (x : Lead). x.id) m.2)

  arrives_at : (l : NodeLead) → In l leads → Arrives v (to_child l.dir l.row.name) (id_of l)
  arrives_at l i =
      let m = met_visit visits (as_lead l) (subst (λ (x : List Lead). In (as_lead l) x) (sym followed) (in_leads leads l i)) in
      subst (λ (x : Lead). Arrives v (to_child x.dir x.name) x.id) (sym m.2) (ways.rows m.0 m.1).0

  pub reached_by : (l : NodeLead) → In l leads → IsReached v (id_of l)
  reached_by l i = let a = arrives_at l i in row_reached l.dir l.row.name (id_of l) a.0 a.1 a.2

  pub are_reached : AreReached v leads
  are_reached = all_from (λ (l : NodeLead). IsReached v (id_of l)) leads reached_by

  module _ (root : ℕ) (is : root ≡ v.geometry.root) where
    rows_placed : (ls : List NodeLead) → ((l : NodeLead) → In l ls → Arrives v (to_child l.dir l.row.name) (id_of l)) → AllByRecursion (IsPlaced v) (map placed ls)
    rows_placed [] h = tt
    rows_placed (l ∷ ls) h = ((to_child l.dir l.row.name, refl, h l (inl refl)), rows_placed ls (λ x i. h x (inr i)))

    pub are_placed : ArePlaced v (places_of_nodes root leads)
    are_placed = ((to_root, refl, is), rows_placed leads arrives_at)

    -- the way to a node that has a block
    pub node_owner : (block : ℕ) (p : Place) → In p (places_of_nodes root leads) → Has (blocks_at v p) block → IsOwnerBy IsNodeWay v block p.id
    node_owner block p (inl e) h =
        subst (λ (x : Place). Has (blocks_at v x) block → IsOwnerBy IsNodeWay v block x.id) (sym e)
        (λ g. (to_root, (roles.Root, refl, refl), is, g)) h
    node_owner block p (inr i) h =
        let m = lead_placed p leads i in
        subst (λ (x : Place). Has (blocks_at v x) block → IsOwnerBy IsNodeWay v block x.id) (sym m.2)
        (λ g. (to_child m.0.dir m.0.row.name, (roles.Child, refl, refl), arrives_at m.0 m.1, g)) h

    -- ---- blocks, counted

    abbrev by_number : ℕ → List ℕ
    by_number n = owner_blocks v (n, lacks_stream v n)

    module _ (k : ℕ) where
      of_rows : (ls : List NodeLead) → times k (flat_map (blocks_at v) (map placed ls)) ≡ times k (flat_map (λ (l : Lead). by_number l.id) (as_leads ls))
      of_rows [] = refl
      of_rows (l ∷ ls) =
          let a = times_append k (blocks_at v (placed l)) (flat_map (blocks_at v) (map placed ls)) in
          let b = times_append k (by_number (id_of l)) (flat_map (λ (l : Lead). by_number l.id) (as_leads ls)) in
          let h = of_rows ls in
          omega (arith, a, b, h)

      joined : (xs : List Lead) (y : Lead) → times k (flat_map (λ (l : Lead). by_number l.id) (xs ++ (y ∷ []))) ≡ times k (flat_map (λ (l : Lead). by_number l.id) xs) + times k (by_number y.id)
      joined [] y = times_append k (by_number y.id) [] ∙ (let e : times k (by_number y.id) + 0 ≡ 0 + times k (by_number y.id) = omega arith in e)
      joined (x ∷ xs) y =
          let a = times_append k (by_number x.id) (flat_map (λ (l : Lead). by_number l.id) (xs ++ (y ∷ []))) in
          let b = times_append k (by_number x.id) (flat_map (λ (l : Lead). by_number l.id) xs) in
          let h = joined xs y in
          omega (arith, a, b, h)

      of_visits : (es : List Visit) → ((e : Visit) → In e es → by_number e.0 ≡ own_blocks v e) → times k (flat_map (λ (l : Lead). by_number l.id) (leads_of es)) ≡ times k (blocks_of_visits v es)
      of_visits [] f = refl
      of_visits (e ∷ es) f =
          let a = joined (leads_of es) (lead_of e) in
          let b = times_append k (own_blocks v e) (blocks_of_visits v es) in
          let c : times k (by_number e.0) ≡ times k (own_blocks v e) = ap (times k) (f e (inl refl)) in
          let h = of_visits es (λ x i. f x (inr i)) in
          omega (arith, a, b, c, h)

      counted : times k (blocks_of_places v (places_of_nodes root leads)) ≡ times k (blocks_of_visits v (top ∷ visits))
      counted =
          let a = times_append k (by_number root) (flat_map (blocks_at v) (map placed leads)) in
          let b = times_append k (own_blocks v top) (blocks_of_visits v visits) in
          let c : times k (by_number root) ≡ times k (own_blocks v top) = ap (λ (n : ℕ). times k (by_number n)) (is ∙ sym ways.root.0) ∙ ap (times k) ways.root.1 in
          let d = of_rows leads in
          let e : times k (flat_map (λ (l : Lead). by_number l.id) (as_leads leads)) ≡ times k (blocks_of_visits v visits) =
          ap (λ (x : List Lead). times k (flat_map (λ (l : Lead). by_number l.id) x)) (sym followed) ∙ of_visits visits (λ x i. (ways.rows x i).1) in
          omega (arith, a, b, c, d, e)

    -- no node has a block
    pub no_node : (k : ℕ) → times k (blocks_of_places v (places_of_nodes root leads)) ≡ 0 → times k (blocks_of_visits v (top ∷ visits)) ≡ 0
    no_node k none = sym (counted k) ∙ none
