-- The nodes of a tree that was toured, and the blocks that it reaches, counted.
use Rattle.std.proofs.Common.{◌≡◌, ◌∙◌, ◌+◌, ℕ, suc, List, [], ◌∷◌, ◌++◌, length, length-append, map, refl, sym, ap, arith}
use Rattle.std.proofs.lemmas.List.{length-map}
use Rattle.std.specs.List.{flat_map}
use Rattle.std.specs.FinMap.{entries, from_entries}
use Rattle.std.specs.Ordering.{nat_cmp}
use Rattle.bfs_base.specs.Lists.{times, IsOnce}
use Rattle.bfs_claims.proofs.Claiming.{times_append}
use Rattle.bfs_sound.specs.Volumes.{Volume, bitmap_blocks}
use Rattle.bfs_sound.specs.Owners.{fixed_blocks, node_blocks, index_blocks, reach}
use Rattle.bfs_tour.specs.Tours.{Visit, Found, toured_tree, claimed}
use Rattle.bfs_tour.proofs.Members.{times_entries}
use Rattle.bfs_nodes_walk.specs.declared.lead.NodeLead.{NodeLead}
use Rattle.bfs_nodes_walk.specs.Leads.{as_lead, as_leads, leads_of}

-- a number for each
abbrev zeros : List ℕ → List ℕ
zeros [] = []
zeros (x ∷ xs) = 0 ∷ zeros xs

times_zeros : (xs : List ℕ) → times 0 (zeros xs) ≡ length xs
times_zeros [] = refl
times_zeros (x ∷ xs) = let rest = times_zeros xs in omega (arith, rest)

module _ {X : Type 0} (f : X → List ℕ) where
  length_zeros : (es : List X) → times 0 (flat_map (λ e. zeros (f e)) es) ≡ length (flat_map f es)
  length_zeros [] = refl
  length_zeros (e ∷ es) =
      let rest = length_zeros es in
      let a = times_append 0 (zeros (f e)) (flat_map (λ e. zeros (f e)) es) in
      let b = times_zeros (f e) in
      let d = length-append (f e) (flat_map f es) in
      omega (arith, rest, a, b, d)

-- of the entries of the map of a list there is as much as of the list
entries_long : (f : Visit → List ℕ) (es : List Visit) → IsOnce (map (λ e. e.0) es) → length (flat_map f (entries (from_entries {R = nat_cmp} es))) ≡ length (flat_map f es)
entries_long f es once =
    sym (length_zeros f (entries (from_entries {R = nat_cmp} es))) ∙ times_entries 0 (λ (e : Visit). zeros (f e)) es once ∙ length_zeros f es

abbrev one_of : {X : Type 0} → X → List ℕ
one_of e = 0 ∷ []

one_each : {X : Type 0} (es : List X) → length (flat_map one_of es) ≡ length es
one_each [] = refl
one_each (e ∷ es) = ap suc (one_each es)

pub nodes_counted : (es : List Visit) → IsOnce (map (λ e. e.0) es) → length (entries (from_entries {R = nat_cmp} es)) ≡ length es
nodes_counted es once = sym (one_each (entries (from_entries {R = nat_cmp} es))) ∙ entries_long one_of es once ∙ one_each es

module _ (v : Volume) (top : Visit) (es : List Visit) (kinds : List Found) (once : IsOnce (map (λ e. e.0) (top ∷ es))) where
  abbrev rest_of : List Visit → List ℕ
  rest_of all = bitmap_blocks v.geometry ++ (flat_map (node_blocks v) all ++ index_blocks v)

  long_of : (all : List Visit) → length (fixed_blocks v ++ rest_of all) ≡ length (fixed_blocks v) + (length (bitmap_blocks v.geometry) + (length (flat_map (node_blocks v) all) + length (index_blocks v)))
  long_of all =
      let a = length-append (fixed_blocks v) (rest_of all) in
      let b = length-append (bitmap_blocks v.geometry) (flat_map (node_blocks v) all ++ index_blocks v) in
      let d = length-append (flat_map (node_blocks v) all) (index_blocks v) in
      omega (arith, a, b, d)

  pub reach_long : length (reach v (toured_tree v top es kinds)) ≡ length (claimed v (top ∷ es))
  reach_long =
      let a = long_of (entries (from_entries {R = nat_cmp} (top ∷ es))) in
      let b = long_of (top ∷ es) in
      let d = entries_long (node_blocks v) (top ∷ es) once in
      omega (arith, a, b, d)

-- as many rows were followed as nodes visited but the root
leads_long : (es : List Visit) → length (leads_of es) ≡ length es
leads_long [] = refl
leads_long (e ∷ es) =
    let rest = leads_long es in
    let a : length (leads_of es ++ ((record { dir = e.1.parent; name = e.1.name; id = e.0 }) ∷ [])) ≡ length (leads_of es) + 1 = length-append (leads_of es) ((record { dir = e.1.parent; name = e.1.name; id = e.0 }) ∷ []) in
    omega (arith, rest, a)

pub followed_long : (es : List Visit) (leads : List NodeLead) → leads_of es ≡ as_leads leads → length es ≡ length leads
followed_long es leads e = sym (leads_long es) ∙ ap length e ∙ length-map leads as_lead
