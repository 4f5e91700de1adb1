-- The nodes that rows name, in their places.
use Rattle.std.proofs.Common.{◌≡◌, ◌∙◌, ◌<◌, ◌+◌, inl, inr, ℕ, List, [], ◌∷◌, ◌++◌, map, refl, sym, ap, subst, arith, append-nil}
use Rattle.std.specs.List.{flat_map}
use Rattle.std.proofs.lemmas.Grind.{flat_map-append}
use Rattle.bfs_base.specs.Lists.{times}
use Rattle.bfs_super.specs.Conditions.{natural}
use Rattle.bfs_claims.proofs.Claiming.{times_append}
use Rattle.bfs_sound.specs.Volumes.{Volume}
use Rattle.bfs_sound.specs.Owners.{In, own_blocks}
use Rattle.bfs_node_check.specs.declared.role.Role.TheVariants as roles
use Rattle.bfs_inode_walk.specs.Visited.{role_blocks}
use Rattle.bfs_owner.specs.Owned as owned
use Rattle.bfs_owner.specs.Owned.{blocks_of_places}
use Rattle.bfs_owner.specs.declared.place.Place.{Place}
use Rattle.bfs_tour.specs.Tours.{Visit}
use Rattle.bfs_tour.specs.Touring.{Lead}
use Rattle.bfs_nodes_walk.specs.declared.lead.NodeLead.{NodeLead}
use Rattle.bfs_nodes_walk.specs.Leads.{as_leads, leads_of, AreInside, place_of}
use Rattle.bfs_nodes_walk.specs.Walks.{blocks_of_visits}
use Rattle.bfs_nodes_walk.proofs.Leading.{lead_of}

pub places_more : (xs ys : List NodeLead) → map place_of (xs ++ ys) ≡ map place_of xs ++ map place_of ys
places_more [] ys = refl
places_more (x ∷ xs) ys = ap (λ (l : List Place). place_of x ∷ l) (places_more xs ys)

-- the nodes are blocks of the volume, where the rows name such
pub places_inside : (blocks : ℕ) (leads : List NodeLead) → AreInside blocks leads → owned.AreInside blocks (map place_of leads)
places_inside blocks [] a = tt
places_inside blocks (l ∷ ls) a = (subst (λ (n : ℕ). n < blocks) (sym (ap natural a.0.1)) a.0.2, places_inside blocks ls a.1)

pub place_met : (leads : List NodeLead) (p : Place) → In p (map place_of leads) → (k : NodeLead) × In k leads × (p ≡ place_of k)
place_met [] p i = absurd i
place_met (l ∷ ls) p (inl e) = (l, inl refl, e)
place_met (l ∷ ls) p (inr i) = let r = place_met ls p i in (r.0, inr r.1, r.2)

module _ (v : Volume) where
  abbrev lead_blocks : Lead → List ℕ
  lead_blocks x = role_blocks v roles.Child x.id

  leads_blocks : (leads : List NodeLead) → flat_map lead_blocks (as_leads leads) ≡ blocks_of_places v (map place_of leads)
  leads_blocks [] = refl
  leads_blocks (l ∷ ls) = ap (λ (x : List ℕ). role_blocks v roles.Child (natural l.row.value) ++ x) (leads_blocks ls)

  visits_times : (k : ℕ) (es : List Visit) → ((e : Visit) → In e es → role_blocks v roles.Child e.0 ≡ own_blocks v e) → times k (blocks_of_visits v es) ≡ times k (flat_map lead_blocks (leads_of es))
  visits_times k [] own = refl
  visits_times k (e ∷ es) own =
      let here : List ℕ = role_blocks v roles.Child e.0 in
      let others : List ℕ = flat_map lead_blocks (leads_of es) in
      let one : times k (own_blocks v e ++ blocks_of_visits v es) ≡ times k (own_blocks v e) + times k (blocks_of_visits v es) = times_append k (own_blocks v e) (blocks_of_visits v es) in
      let rest : times k (blocks_of_visits v es) ≡ times k others = visits_times k es (λ x i. own x (inr i)) in
      let two : times k (others ++ here) ≡ times k others + times k here = times_append k others here in
      let same : times k here ≡ times k (own_blocks v e) = ap (times k) (own e (inl refl)) in
      let sum : times k (own_blocks v e ++ blocks_of_visits v es) ≡ times k (others ++ here) = omega (arith, one, rest, two, same) in
      sum ∙ ap (times k) (sym (flat_map-append lead_blocks (leads_of es) (lead_of e ∷ []) ∙ ap (λ (x : List ℕ). others ++ x) (append-nil here)))

  -- the blocks of what was visited are those of what rows name, in another order
  pub visits_of_places : (k : ℕ) (es : List Visit) (leads : List NodeLead) → leads_of es ≡ as_leads leads → ((e : Visit) → In e es → role_blocks v roles.Child e.0 ≡ own_blocks v e)
      → times k (blocks_of_visits v es) ≡ times k (blocks_of_places v (map place_of leads))
  visits_of_places k es leads same own = visits_times k es own ∙ ap (times k) (ap (flat_map lead_blocks) same ∙ leads_blocks leads)
