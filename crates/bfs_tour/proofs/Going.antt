-- A tour goes on from row to row.
use Rattle.std.proofs.Common.{◌≡◌, ◌≤◌, ◌+◌, ◌⊎◌, inl, inr, ℕ, ℤ, pos, List, [], ◌∷◌, ◌++◌, Bool, true, false, cond, ◌==◌, map, refl, sym, ap, ◌∙◌, subst, arith}
use Rattle.bfs_base.specs.Lists.{times}
use Rattle.bfs_node.specs.Page.{Row}
use Rattle.bfs_super.specs.Conditions.{natural}
use Rattle.bfs_tree.specs.declared.call.Kind.{Kind}
use Rattle.bfs_tree.specs.declared.call.Kind.TheVariants.{File, Dir, Link}
use Rattle.bfs_tree.specs.Trees.{Node, is_dir}
use Rattle.bfs_sound.specs.Volumes.{Volume}
use Rattle.bfs_sound.specs.Inodes.{proper_rows}
use Rattle.bfs_sound.specs.Owners.{In}
use Rattle.bfs_sound.proofs.Counts.{in_left, in_right}
use Rattle.bfs_tour.specs.Tours.{Visit, IsVisit}
use Rattle.bfs_finding.proofs.Pieces.{eq_yes}
use Rattle.bfs_tour.specs.Touring.{Lead, lead_by, leads_at, IsListed, IsLead, IsMet, IsTouring, IsStep, TourBegins, TourGoesOn, TourEnds, RoundEnds}

abbrev test : Bool → ℕ
test c = cond c 1 0

in_split : {X : Type 0} (x : X) (xs ys : List X) → In x (xs ++ ys) → In x xs ⊎ In x ys
in_split x [] ys i = inr i
in_split x (z ∷ zs) ys (inl e) = inl (inl e)
in_split x (z ∷ zs) ys (inr i) = by_side (in_split x zs ys i)
  where
    by_side : In x zs ⊎ In x ys → In x (z ∷ zs) ⊎ In x ys
    by_side (inl j) = inl (inr j)
    by_side (inr j) = inr j

-- leads of rows
lead_of_row : (d : ℕ) (rows : List Row) (row : Row) → In row rows → In (lead_by d row) (map (lead_by d) rows)
lead_of_row d [] row i = absurd i
lead_of_row d (r ∷ rs) row (inl e) = inl (ap (lead_by d) e)
lead_of_row d (r ∷ rs) row (inr i) = inr (lead_of_row d rs row i)

row_of_lead : (d : ℕ) (rows : List Row) (l : Lead) → In l (map (lead_by d) rows) → (row : Row) × In row rows × (l ≡ lead_by d row)
row_of_lead d [] l i = absurd i
row_of_lead d (r ∷ rs) l (inl e) = (r, inl refl, e)
row_of_lead d (r ∷ rs) l (inr i) = let s = row_of_lead d rs l i in (s.0, inr s.1, s.2)

dir_yes : (kind : Kind) → is_dir kind ≡ true → kind ≡ Dir
dir_yes File e = absurd (let bad : false ≡ true = e in cc)
dir_yes Dir e = refl
dir_yes Link e = absurd (let bad : false ≡ true = e in cc)

module _ (v : Volume) (e : Visit) where
  -- a row of a directory leads on
  lead_there : e.1.kind ≡ Dir → (row : Row) → In row (proper_rows v e.0) → In (lead_by e.0 row) (leads_at v e)
  lead_there dir row i =
      subst (λ (c : Bool). In (lead_by e.0 row) (cond c (map (lead_by e.0) (proper_rows v e.0)) [])) (sym (ap is_dir dir)) (lead_of_row e.0 (proper_rows v e.0) row i)

  -- what leads on from a node is a row of a directory
  lead_from : (l : Lead) → In l (leads_at v e) → (e.1.kind ≡ Dir) × (row : Row) × In row (proper_rows v e.0) × (l ≡ lead_by e.0 row)
  lead_from l i = by_test (is_dir e.1.kind) refl i
    where
      by_test : (c : Bool) → is_dir e.1.kind ≡ c → In l (cond c (map (lead_by e.0) (proper_rows v e.0)) []) → (e.1.kind ≡ Dir) × (row : Row) × In row (proper_rows v e.0) × (l ≡ lead_by e.0 row)
      by_test true h i = let r = row_of_lead e.0 (proper_rows v e.0) l i in (dir_yes e.1.kind h, r.0, r.1, r.2)
      by_test false h i = absurd i

  is_lead : (visits : List Visit) → In e visits → (e.1.kind ≡ Dir → IsListed v e) → (l : Lead) → In l (leads_at v e) → IsLead v visits l
  is_lead visits there listed l i =
      let f = lead_from l i in
      let number : f.1.1 ≡ pos (natural f.1.1) = (listed f.0).numbers f.1 f.2 in
      record {
        parent = e;
        there = there;
        kind = f.0;
        dir = ap (λ (x : Lead). x.dir) f.3;
        row = subst (λ (x : Lead). In (x.name, pos x.id) (proper_rows v e.0)) (sym f.3) (subst (λ (z : ℤ). In (f.1.0, z) (proper_rows v e.0)) number f.2);
      }

  met_later : (es : List Visit) (todo : List Lead) → e.1.kind ≡ Dir → IsListed v e → (name : List ℕ) (value : ℤ) → In (name, value) (proper_rows v e.0) → IsMet es (todo ++ leads_at v e) e name value
  met_later es todo dir listed name value i =
      inr (lead_by e.0 (name, value), in_right todo (leads_at v e) (lead_by e.0 (name, value)) (lead_there dir (name, value) i), listed.numbers (name, value) i, refl, refl)

pub begins : TourBegins
begins v top is_top listed = record {
  tour = is_top;
  once = λ k. one k (top.0 == k);
  listed = λ d i dir. at_top d i;
  met = λ d i dir name value row. met_top d i name value row;
  leads = is_lead v top (top ∷ []) (inl refl) (λ dir. listed);
}
  where
    one : (k : ℕ) (c : Bool) → cond c 1 0 + 0 ≤ 1
    one k true = omega arith
    one k false = omega arith

    at_top : (d : Visit) → In d (top ∷ []) → IsListed v d
    at_top d (inl e) = subst (IsListed v) (sym e) listed
    at_top d (inr i) = absurd i

    met_top : (d : Visit) → In d (top ∷ []) → (name : List ℕ) (value : ℤ) → In (name, value) (proper_rows v d.0) → IsMet [] (leads_at v top) d name value
    met_top d (inl e) name value row =
        subst (λ (x : Visit). IsMet [] (leads_at v top) x name value) (sym e) (met_later v top [] [] is_top.kind listed name value (subst (λ (x : Visit). In (name, value) (proper_rows v x.0)) e row))
    met_top d (inr i) name value row = absurd i

module _ (v : Volume) (top : Visit) (es : List Visit) (l : Lead) (todo : List Lead) (n : Node) (t : IsTouring v top es (l ∷ todo)) (s : IsStep v top es l n) where
  here : Visit
  here = (l.id, n)

  visit : IsVisit v (top ∷ es) (l.id, n)
  visit =
      let w = t.leads l (inl refl) in
      record {
        parent = w.parent;
        there = w.there;
        kind = w.kind;
        row = subst (λ (x : List ℕ). In (x, pos l.id) (proper_rows v w.parent.0)) (sym s.name) w.row;
        node = s.node;
        parent_is = s.parent ∙ w.dir;
        good = s.good;
      }

  more : (x : Visit) → In x (top ∷ es) → In x (top ∷ (l.id, n) ∷ es)
  more x (inl e) = inl e
  more x (inr i) = inr (inr i)

  once_more : (k : ℕ) → times k (map (λ (e : Visit). e.0) (top ∷ (l.id, n) ∷ es)) ≤ 1
  once_more k = by_test (l.id == k) refl
    where
      before : cond (top.0 == k) 1 0 + times k (map (λ (e : Visit). e.0) es) ≤ 1
      before = t.once k

      by_test : (c : Bool) → (l.id == k) ≡ c → cond (top.0 == k) 1 0 + (cond (l.id == k) 1 0 + times k (map (λ (e : Visit). e.0) es)) ≤ 1
      by_test true h =
          let same : l.id ≡ k = eq_yes l.id k h in
          let none : cond (top.0 == k) 1 0 + times k (map (λ (e : Visit). e.0) es) ≡ 0 = subst (λ (x : ℕ). times x (map (λ (e : Visit). e.0) (top ∷ es)) ≡ 0) same s.new in
          let c : test (l.id == k) ≡ 1 = ap test h in
          omega (arith, none, c)
      by_test false h =
          let b = before in
          let c : test (l.id == k) ≡ 0 = ap test h in
          omega (arith, b, c)

  listed_more : (d : Visit) → In d (top ∷ (l.id, n) ∷ es) → d.1.kind ≡ Dir → IsListed v d
  listed_more d (inl e) dir = t.listed d (inl e) dir
  listed_more d (inr (inl e)) dir = subst (IsListed v) (sym e) (s.listed (sym (ap (λ (x : Visit). x.1.kind) e) ∙ dir))
  listed_more d (inr (inr i)) dir = t.listed d (inr i) dir

  -- what was met before is met still
  still : (d : Visit) (name : List ℕ) (value : ℤ) → IsMet es (l ∷ todo) d name value → IsMet ((l.id, n) ∷ es) (todo ++ leads_at v (l.id, n)) d name value
  still d name value (inl m) = inl (m.0, inr m.1, m.2, m.3, m.4)
  still d name value (inr m) = by_place m.1
    where
      by_place : In m.0 (l ∷ todo) → IsMet ((l.id, n) ∷ es) (todo ++ leads_at v (l.id, n)) d name value
      by_place (inl e) =
          inl ((l.id, n), inl refl, m.2 ∙ ap (λ (x : Lead). pos x.id) e, s.parent ∙ sym (ap (λ (x : Lead). x.dir) e) ∙ m.3, s.name ∙ sym (ap (λ (x : Lead). x.name) e) ∙ m.4)
      by_place (inr i) = inr (m.0, in_left todo (leads_at v (l.id, n)) m.0 i, m.2, m.3, m.4)

  met_more : (d : Visit) → In d (top ∷ (l.id, n) ∷ es) → d.1.kind ≡ Dir → (name : List ℕ) (value : ℤ) → In (name, value) (proper_rows v d.0) → IsMet ((l.id, n) ∷ es) (todo ++ leads_at v (l.id, n)) d name value
  met_more d (inl e) dir name value row = still d name value (t.met d (inl e) dir name value row)
  met_more d (inr (inl e)) dir name value row =
      let own : n.kind ≡ Dir = sym (ap (λ (x : Visit). x.1.kind) e) ∙ dir in
      subst (λ (x : Visit). IsMet ((l.id, n) ∷ es) (todo ++ leads_at v (l.id, n)) x name value) (sym e)
      (met_later v (l.id, n) ((l.id, n) ∷ es) todo own (s.listed own) name value (subst (λ (x : Visit). In (name, value) (proper_rows v x.0)) e row))
  met_more d (inr (inr i)) dir name value row = still d name value (t.met d (inr i) dir name value row)

  old_lead : (x : Lead) → IsLead v (top ∷ es) x → IsLead v (top ∷ (l.id, n) ∷ es) x
  old_lead x w = record { parent = w.parent; there = more w.parent w.there; kind = w.kind; dir = w.dir; row = w.row }

  leads_more : (x : Lead) → In x (todo ++ leads_at v (l.id, n)) → IsLead v (top ∷ (l.id, n) ∷ es) x
  leads_more x i = by_side (in_split x todo (leads_at v (l.id, n)) i)
    where
      by_side : In x todo ⊎ In x (leads_at v (l.id, n)) → IsLead v (top ∷ (l.id, n) ∷ es) x
      by_side (inl j) = old_lead x (t.leads x (inr j))
      by_side (inr j) = is_lead v (l.id, n) (top ∷ (l.id, n) ∷ es) (inr (inl refl)) s.listed x j

  on : IsTouring v top ((l.id, n) ∷ es) (todo ++ leads_at v (l.id, n))
  on = record { tour = (visit, t.tour); once = once_more; listed = listed_more; met = met_more; leads = leads_more }

pub goes_on : TourGoesOn
goes_on v top es l todo n t s = on v top es l todo n t s

pub round_ends : RoundEnds
round_ends v top es kinds t directory indices = record {
  tour = t.tour;
  once = t.once;
  scanned = λ d i dir. record { dot = (t.listed d i dir).dot; dots = (t.listed d i dir).dots; below = λ name value row. visited d name value (t.met d i dir name value row) };
  directory = directory;
  indices = indices;
}
  where
    visited : (d : Visit) (name : List ℕ) (value : ℤ) → IsMet es [] d name value → (e : Visit) × In e es × (value ≡ pos e.0) × (e.1.parent ≡ d.0) × (e.1.name ≡ name)
    visited d name value (inl m) = m
    visited d name value (inr m) = absurd m.1

pub ends : TourEnds
ends v top es kinds t directory indices some = record { round = round_ends v top es kinds t directory indices; some = some }
