-- Rows as what leads on.
use Rattle.std.proofs.Common.{◌≡◌, ◌≢◌, ◌≤◌, ◌<◌, ◌+◌, ◌∙◌, ◌⊎◌, inl, inr, ℕ, zero, suc, pos, List, [], ◌∷◌, ◌++◌, length, take, drop, get_or, map, filter, Bool, true, false, cond, refl, sym, ap, subst, arith}
use Rattle.std.specs.List.{AllByRecursion}
use Rattle.std.proofs.lemmas.List.{take_more, take_all, drop_more, take-append-drop}
use Rattle.bfs_base.specs.declared.kind.KeyKind.TheVariants.{Text}
use Rattle.bfs_node.specs.Page.{Row}
use Rattle.bfs_pages.specs.Order.{comes_before, same_keys}
use Rattle.bfs_pages.specs.Ways.{KeysAscend}
use Rattle.bfs_pages.proofs.KeyOrder.{same_itself, greater_not_same}
use Rattle.bfs_sound.specs.Inodes.{is_proper}
use Rattle.bfs_sound.specs.Owners.{In}
use Rattle.bfs_node_walk.specs.Rows.{as_rows}
use Rattle.bfs_node_walk.specs.NameRow.{NameRow}
use Rattle.bfs_node_walk.specs.Listed.{proper, NamesBlock}
use Rattle.bfs_tour.specs.Tours.{Visit}
use Rattle.bfs_tour.specs.Touring.{Lead, lead_by}
use Rattle.bfs_nodes_walk.specs.declared.lead.NodeLead.{NodeLead}
use Rattle.bfs_nodes_walk.specs.Leads.{as_lead, as_leads, leads_in, leads_of, AreInside, IsOtherRow, AreOtherRows}

module _ {A : Type 0} where
  pub drop_front : (n : ℕ) (xs ys : List A) → n ≤ length xs → drop n (xs ++ ys) ≡ drop n xs ++ ys
  drop_front zero xs ys h = refl
  drop_front (suc n) [] ys h = absurd (omega (arith, h))
  drop_front (suc n) (x ∷ xs) ys h = drop_front n xs ys (omega (arith, h))

  pub take_front : (n : ℕ) (xs ys : List A) → n ≤ length xs → take n (xs ++ ys) ≡ take n xs
  take_front zero xs ys h = refl
  take_front (suc n) [] ys h = absurd (omega (arith, h))
  take_front (suc n) (x ∷ xs) ys h = ap (λ (l : List A). x ∷ l) (take_front n xs ys (omega (arith, h)))

  pub in_parts : (x : A) (xs ys : List A) → In x (xs ++ ys) → In x xs ⊎ In x ys
  in_parts x [] ys i = inr i
  in_parts x (z ∷ zs) ys (inl e) = inl (inl e)
  in_parts x (z ∷ zs) ys (inr i) = by_side (in_parts x zs ys i)
    where
      by_side : In x zs ⊎ In x ys → In x (z ∷ zs) ⊎ In x ys
      by_side (inl j) = inl (inr j)
      by_side (inr j) = inr j

  pub in_front : (x : A) (xs ys : List A) → In x xs → In x (xs ++ ys)
  in_front x [] ys i = absurd i
  in_front x (z ∷ zs) ys (inl e) = inl e
  in_front x (z ∷ zs) ys (inr i) = inr (in_front x zs ys i)

  pub in_behind : (x : A) (xs ys : List A) → In x ys → In x (xs ++ ys)
  in_behind x [] ys i = i
  in_behind x (z ∷ zs) ys i = inr (in_behind x zs ys i)

  pub of_all : (P : A → Type 0) (xs : List A) (x : A) → AllByRecursion P xs → In x xs → P x
  of_all P [] x all i = absurd i
  of_all P (y ∷ ys) x all (inl e) = subst P (sym e) all.0
  of_all P (y ∷ ys) x all (inr i) = of_all P ys x all.1 i

pub leads_append : (xs ys : List NodeLead) → as_leads (xs ++ ys) ≡ as_leads xs ++ as_leads ys
leads_append [] ys = refl
leads_append (x ∷ xs) ys = ap (λ (l : List Lead). as_lead x ∷ l) (leads_append xs ys)

abbrev is_kept : NameRow → Bool
is_kept row = is_proper row.name

abbrev is_kept_row : Row → Bool
is_kept_row row = is_proper row.0

abbrev with_dir : ℕ → NameRow → NodeLead
with_dir dir row = record { dir = dir; row = row }

-- the rows of a directory that lead on are those that a tour has
pub leads_of_rows : (dir : ℕ) (rows : List NameRow) → as_leads (leads_in dir rows) ≡ map (lead_by dir) (proper (as_rows rows))
leads_of_rows dir [] = refl
leads_of_rows dir (r ∷ rs) = by_test (is_proper r.name) (leads_of_rows dir rs)
  where
    by_test : (c : Bool) → as_leads (leads_in dir rs) ≡ map (lead_by dir) (proper (as_rows rs))
        → as_leads (map (with_dir dir) (cond c (r ∷ filter is_kept rs) (filter is_kept rs))) ≡ map (lead_by dir) (cond c ((r.name, r.value) ∷ filter is_kept_row (as_rows rs)) (filter is_kept_row (as_rows rs)))
    by_test true ih = ap (λ (l : List Lead). lead_by dir (r.name, r.value) ∷ l) ih
    by_test false ih = ih

pub leads_more : (dir : ℕ) (xs ys : List NameRow) → leads_in dir (xs ++ ys) ≡ leads_in dir xs ++ leads_in dir ys
leads_more dir [] ys = refl
leads_more dir (x ∷ xs) ys = by_test (is_proper x.name) (leads_more dir xs ys)
  where
    by_test : (c : Bool) → leads_in dir (xs ++ ys) ≡ leads_in dir xs ++ leads_in dir ys
        → map (with_dir dir) (cond c (x ∷ filter is_kept (xs ++ ys)) (filter is_kept (xs ++ ys))) ≡ map (with_dir dir) (cond c (x ∷ filter is_kept xs) (filter is_kept xs)) ++ leads_in dir ys
    by_test true ih = ap (λ (l : List NodeLead). with_dir dir x ∷ l) ih
    by_test false ih = ih

-- one row
pub one_lead : (dir : ℕ) (row : NameRow) → is_proper row.name ≡ true → leads_in dir (row ∷ []) ≡ with_dir dir row ∷ []
one_lead dir row e = ap (λ (c : Bool). map (with_dir dir) (cond c (row ∷ []) [])) e

pub no_lead : (dir : ℕ) (row : NameRow) → is_proper row.name ≡ false → leads_in dir (row ∷ []) ≡ []
no_lead dir row e = ap (λ (c : Bool). map (with_dir dir) (cond c (row ∷ []) [])) e

-- what leads on from a directory is a row of it
pub lead_is_row : (l : NodeLead) (dir : ℕ) (rows : List NameRow) → In l (leads_in dir rows) → (l.dir ≡ dir) × In (l.row.name, l.row.value) (proper (as_rows rows))
lead_is_row l dir [] i = absurd i
lead_is_row l dir (r ∷ rs) i = by_test (is_proper r.name) (λ j. lead_is_row l dir rs j) i
  where
    by_test : (c : Bool) → (In l (leads_in dir rs) → (l.dir ≡ dir) × In (l.row.name, l.row.value) (proper (as_rows rs)))
        → In l (map (with_dir dir) (cond c (r ∷ filter is_kept rs) (filter is_kept rs))) → (l.dir ≡ dir) × In (l.row.name, l.row.value) (cond c ((r.name, r.value) ∷ filter is_kept_row (as_rows rs)) (filter is_kept_row (as_rows rs)))
    by_test true ih (inl e) = (ap (λ (x : NodeLead). x.dir) e, inl (ap (λ (x : NodeLead). (x.row.name, x.row.value)) e))
    by_test true ih (inr j) = let s = ih j in (s.0, inr s.1)
    by_test false ih j = ih j

-- names that come one before the other differ
names_differ : (a b : List ℕ) → comes_before Text a b ≡ true → a ≢ b
names_differ a b up e =
    let same : same_keys Text b a ≡ true = subst (λ (n : List ℕ). same_keys Text b n ≡ true) (sym e) (same_itself Text b) in
    let other : same_keys Text b a ≡ false = greater_not_same Text b a up in
    let bad : true ≡ false = sym same ∙ other in cc

differ_all : (dir : ℕ) (r : NameRow) (rows : List NameRow) → AllByRecursion (λ (s : Row). comes_before Text r.name s.0 ≡ true) (as_rows rows) → AllByRecursion (IsOtherRow (with_dir dir r)) (leads_in dir rows)
differ_all dir r [] a = tt
differ_all dir r (x ∷ xs) a = by_test (is_proper x.name) (differ_all dir r xs a.1)
  where
    by_test : (c : Bool) → AllByRecursion (IsOtherRow (with_dir dir r)) (leads_in dir xs) → AllByRecursion (IsOtherRow (with_dir dir r)) (map (with_dir dir) (cond c (x ∷ filter is_kept xs) (filter is_kept xs)))
    by_test true ih = (λ e. names_differ r.name x.name a.0, ih)
    by_test false ih = ih

-- the rows of one directory whose names ascend
pub rows_differ : (dir : ℕ) (rows : List NameRow) → KeysAscend Text (as_rows rows) → AreOtherRows (leads_in dir rows)
rows_differ dir [] a = tt
rows_differ dir (r ∷ rs) a = by_test (is_proper r.name) (rows_differ dir rs a.1)
  where
    by_test : (c : Bool) → AreOtherRows (leads_in dir rs) → AreOtherRows (map (with_dir dir) (cond c (r ∷ filter is_kept rs) (filter is_kept rs)))
    by_test true ih = (differ_all dir r rs a.0, ih)
    by_test false ih = ih

all_both : (P : NodeLead → Type 0) (xs ys : List NodeLead) → AllByRecursion P xs → ((y : NodeLead) → In y ys → P y) → AllByRecursion P (xs ++ ys)
all_both P [] [] a h = tt
all_both P [] (y ∷ ys) a h = (h y (inl refl), all_both P [] ys tt (λ z i. h z (inr i)))
all_both P (x ∷ xs) ys a h = (a.0, all_both P xs ys a.1 h)

-- rows behind others
pub both_differ : (xs ys : List NodeLead) → AreOtherRows xs → AreOtherRows ys → ((x : NodeLead) → In x xs → (y : NodeLead) → In y ys → IsOtherRow x y) → AreOtherRows (xs ++ ys)
both_differ [] ys a b h = b
both_differ (x ∷ xs) ys a b h = (all_both (IsOtherRow x) xs ys a.0 (h x (inl refl)), both_differ xs ys a.1 b (λ z i. h z (inr i)))

differs_from : (xs : List NodeLead) (l : NodeLead) (ys : List NodeLead) → AreOtherRows (xs ++ (l ∷ ys)) → (k : NodeLead) → In k xs → IsOtherRow k l
differs_from [] l ys a k i = absurd i
differs_from (x ∷ xs) l ys a k (inl e) = subst (λ (z : NodeLead). IsOtherRow z l) (sym e) (of_all (IsOtherRow x) (xs ++ (l ∷ ys)) l a.0 (in_behind l xs (l ∷ ys) (inl refl)))
differs_from (x ∷ xs) l ys a k (inr i) = differs_from xs l ys a.1 k i

-- the rows before a place are others than the one there
pub differs_at : (leads : List NodeLead) (at : ℕ) (l : NodeLead) → at < length leads → l ≡ get_or leads at l → AreOtherRows leads → (k : NodeLead) → In k (take at leads) → IsOtherRow k l
differs_at leads at l inside item a k i =
    let parts : leads ≡ take at leads ++ (l ∷ drop (at + 1) leads) =
    sym (take-append-drop at leads) ∙ ap (λ (x : List NodeLead). take at leads ++ x) (drop_more leads at l inside ∙ ap (λ (x : NodeLead). x ∷ drop (at + 1) leads) (sym item)) in
    differs_from (take at leads) l (drop (at + 1) leads) (subst AreOtherRows parts a) k i

abbrev pub lead_of : Visit → Lead
lead_of e = record { dir = e.1.parent; name = e.1.name; id = e.0 }

pub visit_met : (visits : List Visit) (e : Visit) → In e visits → In (lead_of e) (leads_of visits)
visit_met [] e i = absurd i
visit_met (x ∷ xs) e (inl same) =
    in_behind (lead_of e) (leads_of xs) ((lead_of x) ∷ [])
    (inl (ap lead_of same))
visit_met (x ∷ xs) e (inr i) = in_front (lead_of e) (leads_of xs) ((lead_of x) ∷ []) (visit_met xs e i)

pub row_met : (leads : List NodeLead) (x : Lead) → In x (as_leads leads) → (k : NodeLead) × In k leads × (x ≡ as_lead k)
row_met [] x i = absurd i
row_met (l ∷ ls) x (inl e) = (l, inl refl, e)
row_met (l ∷ ls) x (inr i) = let r = row_met ls x i in (r.0, inr r.1, r.2)

lead_met : (leads : List NodeLead) (k : NodeLead) → In k leads → In (as_lead k) (as_leads leads)
lead_met [] k i = absurd i
lead_met (l ∷ ls) k (inl e) = inl (ap as_lead e)
lead_met (l ∷ ls) k (inr i) = inr (lead_met ls k i)

met_visit : (visits : List Visit) (x : Lead) → In x (leads_of visits) → (e : Visit) × In e visits × (lead_of e ≡ x)
met_visit [] x i = absurd i
met_visit (e ∷ es) x i = by_side (in_parts x (leads_of es) (lead_of e ∷ []) i) (met_visit es x)
  where
    by_side : In x (leads_of es) ⊎ In x (lead_of e ∷ []) → (In x (leads_of es) → (z : Visit) × In z es × (lead_of z ≡ x)) → (z : Visit) × In z (e ∷ es) × (lead_of z ≡ x)
    by_side (inl j) rest = let r = rest j in (r.0, inr r.1, r.2)
    by_side (inr (inl same)) rest = (e, inl refl, sym same)
    by_side (inr (inr j)) rest = absurd j

-- what a row names that was followed was visited
pub visit_of_row : (visits : List Visit) (leads : List NodeLead) → leads_of visits ≡ as_leads leads → (k : NodeLead) → In k leads → (e : Visit) × In e visits × (lead_of e ≡ as_lead k)
visit_of_row visits leads same k i = met_visit visits (as_lead k) (subst (λ (x : List Lead). In (as_lead k) x) (sym same) (lead_met leads k i))

-- one row more that was followed names a block
pub inside_more : (blocks : ℕ) (leads more : List NodeLead) (at : ℕ) (l : NodeLead) (id : ℕ) → at < length leads → l ≡ get_or leads at l → l.row.value ≡ pos id → id < blocks → AreInside blocks (take at leads)
    → AreInside blocks (take (at + 1) (leads ++ more))
inside_more blocks leads more at l id inside item value below before =
    let long : at + 1 ≤ length leads = omega (arith, inside) in
    let same : take (at + 1) (leads ++ more) ≡ take at leads ++ (l ∷ []) = take_front (at + 1) leads more long ∙ take_more leads at l inside ∙ ap (λ (x : NodeLead). take at leads ++ (x ∷ [])) (sym item) in
    subst (AreInside blocks) (sym same) (all_both (λ (x : NodeLead). NamesBlock blocks (x.row.name, x.row.value)) (take at leads) (l ∷ []) before here)
  where
    here : (y : NodeLead) → In y (l ∷ []) → NamesBlock blocks (y.row.name, y.row.value)
    here y (inl e) = subst (λ (x : NodeLead). NamesBlock blocks (x.row.name, x.row.value)) (sym e) (id, value, below)
    here y (inr i) = absurd i

-- all were followed
pub inside_all : (blocks : ℕ) (leads : List NodeLead) (at : ℕ) → length leads ≤ at → AreInside blocks (take at leads) → AreInside blocks leads
inside_all blocks leads at past a = subst (AreInside blocks) (take_all at leads past) a
