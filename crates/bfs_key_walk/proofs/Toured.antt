-- The nodes of a tour, the oldest first, are those that the rows name, and all of them are known.
use Rattle.std.proofs.Common.{◌≡◌, ◌≢◌, ◌≤◌, ◌<◌, ◌∙◌, ◌⊎◌, inl, inr, ⊎_elim, ℕ, List, [], ◌∷◌, ◌++◌, map, Option, Some, None, refl, sym, ap, subst, arith}
use Rattle.std.specs.Prelude.{◌↔◌}
use Rattle.std.specs.List.{flat_map, cons_option}
use Rattle.std.specs.FinMap.{entries, from_entries}
use Rattle.std.specs.Option.{option_map}
use Rattle.std.specs.Ordering.{nat_cmp}
use Rattle.bfs_base.specs.Lists.{times, Has, IsOnce}
use Rattle.bfs_base.specs.declared.kind.KeyKind.{KeyKind}
use Rattle.bfs_claims.proofs.Claiming.{times_append}
use Rattle.bfs_tree.specs.Listings.{key_in, pair_cmp, pairs_in, listed_among}
use Rattle.bfs_tree.specs.Orders.{in_order}
use Rattle.bfs_sound.specs.Volumes.{Volume, sizes}
use Rattle.bfs_stream.specs.Places.{arrays_at, places_at}
use Rattle.bfs_sound.specs.Attributes.{attribute_directory, attribute_inodes}
use Rattle.bfs_sound.specs.Inodes.{inode_blocks}
use Rattle.bfs_sound.specs.Nodes.{HasNode}
use Rattle.bfs_sound.specs.Owners.{In, node_blocks, own_blocks}
use Rattle.bfs_tour.specs.Tours.{Visit, IsTour}
use Rattle.bfs_tour.specs.Touring.{Lead}
use Rattle.bfs_tour.proofs.Members.{once_first, times_self}
use Rattle.bfs_tour.proofs.Paired.{gathered_listed}
use Rattle.bfs_nodes_walk.specs.Leads.{as_lead, as_leads, leads_of}
use Rattle.bfs_nodes_walk.specs.declared.lead.NodeLead.{NodeLead}
use Rattle.bfs_key_walk.specs.Gathered.{IsKnown, AreFor, oldest_first, AreInside, IsGoneOver, pair_with}

abbrev lead_of : Visit → Lead
lead_of e = record { dir = e.1.parent; name = e.1.name; id = e.0 }

-- ---- the oldest first

mapped : {A : Type 0} (f : Visit → A) (xs ys : List Visit) → map f (xs ++ ys) ≡ map f xs ++ map f ys
mapped f [] ys = refl
mapped {A} f (x ∷ xs) ys = ap (λ (l : List A). f x ∷ l) (mapped f xs ys)

leads_map : (es : List Visit) → leads_of es ≡ map lead_of (oldest_first es)
leads_map [] = refl
leads_map (e ∷ es) = ap (λ (l : List Lead). l ++ (lead_of e ∷ [])) (leads_map es) ∙ sym (mapped lead_of (oldest_first es) (e ∷ []))

in_joined : (xs ys : List Visit) (e : Visit) → In e (xs ++ ys) → In e xs ⊎ In e ys
in_joined [] ys e h = inr h
in_joined (x ∷ xs) ys e (inl same) = inl (inl same)
in_joined (x ∷ xs) ys e (inr h) = ⊎_elim (λ i. inl (inr i)) (λ i. inr i) (in_joined xs ys e h)

joined_in : (xs ys : List Visit) (e : Visit) → In e xs ⊎ In e ys → In e (xs ++ ys)
joined_in [] ys e (inl h) = absurd h
joined_in [] ys e (inr h) = h
joined_in (x ∷ xs) ys e (inl (inl same)) = inl same
joined_in (x ∷ xs) ys e (inl (inr h)) = inr (joined_in xs ys e (inl h))
joined_in (x ∷ xs) ys e (inr h) = inr (joined_in xs ys e (inr h))

old_in : (es : List Visit) (e : Visit) → In e (oldest_first es) → In e es
old_in [] e h = h
old_in (x ∷ xs) e h = ⊎_elim (λ i. inr (old_in xs e i)) (λ i. ⊎_elim (λ same. inl same) (λ none. absurd none) i) (in_joined (oldest_first xs) (x ∷ []) e h)

in_old : (es : List Visit) (e : Visit) → In e es → In e (oldest_first es)
in_old [] e h = h
in_old (x ∷ xs) e (inl same) = joined_in (oldest_first xs) (x ∷ []) e (inr (inl same))
in_old (x ∷ xs) e (inr h) = joined_in (oldest_first xs) (x ∷ []) e (inl (in_old xs e h))

abbrev numbers : List Visit → List ℕ
numbers es = map (λ e. e.0) es

old_times : (k : ℕ) (es : List Visit) → times k (numbers (oldest_first es)) ≡ times k (numbers es)
old_times k [] = refl
old_times k (e ∷ es) =
    let both = ap (times k) (mapped (λ (x : Visit). x.0) (oldest_first es) (e ∷ [])) ∙ times_append k (numbers (oldest_first es)) (e.0 ∷ []) in
    let rest = old_times k es in
    omega (arith, both, rest)

-- ---- the rows and the nodes

pairwise : (v : Volume) (root : ℕ) (ls : List NodeLead) (es : List Visit) → ((e : Visit) → In e es → IsKnown v e.0 e.1 × (e.0 ≢ root)) → map lead_of es ≡ as_leads ls → AreFor v root ls es
pairwise v root [] [] known same = tt
pairwise v root [] (e ∷ es) known same = let bad : e.0 ∷ [] ≡ [] = ap first_id same in absurd (no_cons e.0 [] bad)
  where
    first_id : List Lead → List ℕ
    first_id [] = []
    first_id (l ∷ ls) = l.id ∷ []

    no_cons : (x : ℕ) (xs : List ℕ) → x ∷ xs ≡ [] → ⊥
    no_cons x xs h = cc
pairwise v root (l ∷ ls) [] known same = absurd (no_nil (as_lead l) (as_leads ls) same)
  where
    no_nil : (x : Lead) (xs : List Lead) → [] ≡ x ∷ xs → ⊥
    no_nil x xs h = cc
pairwise v root (l ∷ ls) (e ∷ es) known same =
    let head : lead_of e ≡ as_lead l = ap (first_or (lead_of e)) same in (
      record { known = (known e (inl refl)).0; other = (known e (inl refl)).1; id = sym (ap (λ (x : Lead). x.id) head); name = sym (ap (λ (x : Lead). x.name) head) },
      pairwise v root ls es (λ f i. known f (inr i)) (ap rest_of same),
    )
  where
    first_or : Lead → List Lead → Lead
    first_or d [] = d
    first_or d (x ∷ xs) = x

    rest_of : List Lead → List Lead
    rest_of [] = []
    rest_of (x ∷ xs) = xs

-- ---- what is known

visit_node : (v : Volume) (top : Visit) (es : List Visit) → IsTour v top es → (e : Visit) → In e es → HasNode v e.0 e.1
visit_node v top [] t e h = absurd h
visit_node v top (x ∷ xs) t e (inl same) = subst (λ (y : Visit). HasNode v y.0 y.1) (sym same) t.0.node
visit_node v top (x ∷ xs) t e (inr h) = visit_node v top xs t.1 e h

top_node : (v : Volume) (top : Visit) (es : List Visit) → IsTour v top es → HasNode v top.0 top.1
top_node v top [] t = t.node
top_node v top (x ∷ xs) t = top_node v top xs t.1

top_id : (v : Volume) (top : Visit) (es : List Visit) → IsTour v top es → top.0 ≡ v.geometry.root
top_id v top [] t = t.id
top_id v top (x ∷ xs) t = top_id v top xs t.1

has_left : (k : ℕ) (xs ys : List ℕ) → Has xs k → Has (xs ++ ys) k
has_left k xs ys h = let both = times_append k xs ys in omega (arith, both, h)

has_right : (k : ℕ) (xs ys : List ℕ) → Has ys k → Has (xs ++ ys) k
has_right k xs ys h = let both = times_append k xs ys in omega (arith, both, h)

spread : {A : Type 0} (f : A → List ℕ) (xs : List A) (x : A) (k : ℕ) → In x xs → Has (f x) k → Has (flat_map f xs) k
spread f [] x k h has = absurd h
spread {A} f (y ∷ ys) x k (inl same) has = has_left k (f y) (flat_map f ys) (subst (λ (z : A). Has (f z) k) same has)
spread f (y ∷ ys) x k (inr h) has = has_right k (f y) (flat_map f ys) (spread f ys x k h has)

own_first : (v : Volume) (k : ℕ) → Has (inode_blocks v k) k
own_first v k = let one = times_self k (arrays_at (sizes v.geometry) v.blocks k ++ places_at (sizes v.geometry) v.blocks k) in omega (arith, one)

attribute_block : (v : Volume) (e : Visit) (k : ℕ) → In k (attribute_inodes v (attribute_directory v e.0)) → Has (node_blocks v e) k
unfolding node_blocks
attribute_block v e k i = has_right k (own_blocks v e) (flat_map (inode_blocks v) (attribute_inodes v (attribute_directory v e.0))) (spread (inode_blocks v) (attribute_inodes v (attribute_directory v e.0)) k k i (own_first v k))

inside : (v : Volume) (es : List Visit) (all : AreInside v es) (e : Visit) → In e es → (k : ℕ) → In k (attribute_inodes v (attribute_directory v e.0)) → k < v.geometry.blocks
inside v es all e there k i = all k (spread (node_blocks v) es e k there (attribute_block v e k i))

module _ (v : Volume) (at : ℕ) (leads : List NodeLead) (top : Visit) (visits : List Visit) (gone : IsGoneOver v at leads top visits) where
  tour : IsTour v top visits
  tour = gone.touring.tour

  is_top : at ≡ top.0
  is_top = gone.root ∙ sym (top_id v top visits tour)

  pub top_known : IsKnown v at top.1
  top_known = subst (λ (k : ℕ). IsKnown v k top.1) (sym is_top) (record { node = top_node v top visits tour; inside = inside v (top ∷ visits) gone.inside top (inl refl) })

  known : (e : Visit) → In e (oldest_first visits) → IsKnown v e.0 e.1 × (e.0 ≢ at)
  known e h =
      let i = old_in visits e h in (
        record { node = visit_node v top visits tour e i; inside = inside v (top ∷ visits) gone.inside e (inr i) },
        λ same. once_first top visits gone.touring.once e i (same ∙ is_top),
      )

  pub are_for : AreFor v at leads (oldest_first visits)
  are_for = pairwise v at leads (oldest_first visits) known (sym (leads_map visits) ∙ gone.followed)

  pub root_name : top.1.name ≡ []
  root_name = (top_node v top visits tour).called.root_name (top_id v top visits tour)

  once_too : IsOnce (numbers (top ∷ oldest_first visits))
  once_too k =
      let one : times k (numbers (top ∷ visits)) ≤ 1 = gone.touring.once k in
      let same = old_times k visits in
      let a = times_append k (top.0 ∷ []) (numbers (oldest_first visits)) in
      let b = times_append k (top.0 ∷ []) (numbers visits) in
      omega (arith, one, same, a, b)

  same_members : (e : Visit) → In e (top ∷ oldest_first visits) ↔ In e (top ∷ visits)
  same_members e = (λ h. ⊎_elim (λ s. inl s) (λ i. inr (old_in visits e i)) h, λ h. ⊎_elim (λ s. inl s) (λ i. inr (in_old visits e i)) h)

  module _ (index : List ℕ) (kind : KeyKind) where
    with_top : (o : Option (List ℕ)) (ps : List (List ℕ × ℕ)) → pair_with o top.0 ++ ps ≡ cons_option (option_map (λ key. (key, top.0)) o) ps
    with_top None ps = refl
    with_top (Some key) ps = refl

    pub wanted_are : (first all sorted : List (List ℕ × ℕ)) → first ≡ pair_with (key_in at index kind at top.1) at → all ≡ first ++ pairs_in at index kind (oldest_first visits) → sorted ≡ in_order (pair_cmp kind) all
        → sorted ≡ listed_among at index kind (entries (from_entries {R = nat_cmp} (top ∷ visits)))
    wanted_are first all sorted one more order =
        let begins : first ≡ pair_with (key_in at index kind top.0 top.1) top.0 = one ∙ ap (λ (k : ℕ). pair_with (key_in at index kind k top.1) k) is_top in
        let whole : all ≡ pairs_in at index kind (top ∷ oldest_first visits) =
        more ∙ ap (λ (ps : List (List ℕ × ℕ)). ps ++ pairs_in at index kind (oldest_first visits)) begins ∙ with_top (key_in at index kind top.0 top.1) (pairs_in at index kind (oldest_first visits)) in
        order ∙ ap (in_order (pair_cmp kind)) whole ∙ gathered_listed at index kind (top ∷ visits) (top ∷ oldest_first visits) gone.touring.once once_too same_members
