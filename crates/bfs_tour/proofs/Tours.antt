-- What was visited on a whole tour is a tree that stands.
use Rattle.std.proofs.Common.{◌≡◌, ◌≢◌, ◌≤◌, ◌<◌, ◌⊎◌, inl, inr, ⊎_elim, ℕ, ℤ, pos, List, [], ◌∷◌, ◌++◌, Some, None, Bool, true, false, cond, ◌==◌, ◌||◌, not, codes, refl, sym, ap, ◌∙◌, subst, arith}
use Rattle.std.specs.Prelude.{◌↔◌}
use Rattle.std.specs.List.{flat_map}
use Rattle.std.specs.Str.{bytes_eq}
use Rattle.std.specs.Ordering.{is_eq}
use Rattle.std.specs.Cmp.{nat_cmp_total}
use Rattle.std.proofs.lemmas.Cmp.{nat_list_cmp_total}
use Rattle.std.proofs.lemmas.Slice.Eq.{bytes_eq-Decides}
use Rattle.std.proofs.lemmas.Bool.{true≢false}
use Rattle.std.specs.FinMap.{FinMap, get, find, entries, empty, from_entries, get-from_entries, get-empty}
use Rattle.bfs_base.specs.Lists.{times}
use Rattle.bfs_base.specs.Keys.{text_cmp}
use Rattle.bfs_base.specs.declared.kind.KeyKind.{KeyKind}
use Rattle.bfs_base.specs.declared.kind.KeyKind.TheVariants.{Text}
use Rattle.bfs_node.specs.Page.{Row}
use Rattle.bfs_super.specs.Conditions.{natural}
use Rattle.bfs_pages.specs.Maps.{assoc}
use Rattle.bfs_pages.specs.Order.{same_keys}
use Rattle.bfs_pages.specs.Ways.{KeysAscend}
use Rattle.bfs_pages.proofs.KeyOrder.{same_itself}
use Rattle.bfs_stream.proofs.Doubles.{times-append}
use Rattle.bfs_tree.specs.declared.call.Kind.TheVariants.{Dir}
use Rattle.bfs_tree.specs.Names.{is_bad_name}
use Rattle.bfs_tree.specs.Trees.{Node, Tree, IsNode, IsDirectory, LeadsTo, at_top, by_parent, HasPlainNodes}
use Rattle.bfs_values.specs.Rows.{rows_in}
use Rattle.bfs_sound.specs.Volumes.{Volume, bitmap_blocks}
use Rattle.bfs_sound.specs.Inodes.{content, proper_rows, is_proper, rows_of, index_directory}
use Rattle.bfs_sound.specs.Nodes.{HasNode, HasContent}
use Rattle.bfs_sound.specs.Listings.{IsChild, IsRow, Lists, IsIndex, IsIndexRow, IsIndexOf, index_rows, Stands}
use Rattle.bfs_sound.specs.Owners.{In, node_blocks, index_blocks, fixed_blocks, reach}
use Rattle.bfs_finding.proofs.OneNodes.{some_same, pos_same}
use Rattle.bfs_finding.proofs.Rows.{in_filter, text_same, in_assoc, tree_ascends}
use Rattle.bfs_tour.specs.Tours.{Visit, Found, IsTop, IsVisit, IsTour, IsScanned, AreIndices, toured_tree, IsRound, claimed, TourReaches, TourStands, RoundIsUnbroken}
use Rattle.bfs_finding.proofs.Passes.{broken}
use Rattle.bfs_finding.proofs.Upright.{Upright}
use Rattle.bfs_tour.proofs.Members.{filter_in, once_first, found_in, in_found, times_entries}

assoc_in : (rows : List Row) (name : List ℕ) (value : ℤ) → assoc Text rows name ≡ Some value → In (name, value) rows
assoc_in [] name value h = absurd (none h)
  where
    none : None ≡ Some value → ⊥
    none h = cc
assoc_in (r ∷ rs) name value h = by_test (same_keys Text name r.0) refl h (λ s. assoc_in rs name value s)
  where
    same_value : Some r.1 ≡ Some value → value ≡ r.1
    same_value s = cc

    by_test : (c : Bool) → same_keys Text name r.0 ≡ c → cond c (Some r.1) (assoc Text rs name) ≡ Some value → (assoc Text rs name ≡ Some value → In (name, value) rs) → In (name, value) (r ∷ rs)
    by_test true t s ih = let a = text_same name r.0 t in let b = same_value s in inl (λ i. (a i, b i))
    by_test false t s ih = inr (ih s)

top_of : (v : Volume) (top : Visit) (es : List Visit) → IsTour v top es → IsTop v top
top_of v top [] t = t
top_of v top (e ∷ es) t = top_of v top es t.1

-- what was visited before stays visited
more_in : {X : Type 0} (x top y : X) (es : List X) → In x (top ∷ es) → In x (top ∷ y ∷ es)
more_in x top y es (inl same) = inl same
more_in x top y es (inr i) = inr (inr i)

more_visit : (v : Volume) (top y : Visit) (es : List Visit) (e : Visit) → IsVisit v (top ∷ es) e → IsVisit v (top ∷ y ∷ es) e
more_visit v top y es e w = record { parent = w.parent; there = more_in w.parent top y es w.there; kind = w.kind; row = w.row; node = w.node; parent_is = w.parent_is; good = w.good }

visit_of : (v : Volume) (top : Visit) (es : List Visit) → IsTour v top es → (e : Visit) → In e es → IsVisit v (top ∷ es) e
visit_of v top [] t e i = absurd i
visit_of v top (y ∷ ys) t e (inl same) = more_visit v top y ys e (subst (IsVisit v (top ∷ ys)) (sym same) t.0)
visit_of v top (y ∷ ys) t e (inr i) = more_visit v top y ys e (visit_of v top ys t.1 e i)

-- the parents of what was visited lead to the root
leads : (v : Volume) (tree : Tree) (top : Visit) (es : List Visit) → IsTour v top es → tree.root ≡ top.0 → ((e : Visit) → In e (top ∷ es) → IsNode tree e.0 e.1) → (e : Visit) → In e (top ∷ es) → LeadsTo tree tree.root e.0
leads v tree top es t root there e (inl same) = subst (λ k. LeadsTo tree tree.root k) (root ∙ sym (ap (λ (p : Visit). p.0) same)) at_top
leads v tree top [] t root there e (inr i) = absurd i
leads v tree top (y ∷ ys) t root there e (inr (inl same)) =
    let up : LeadsTo tree tree.root t.0.parent.0 = leads v tree top ys t.1 root (λ f j. there f (more_in f top y ys j)) t.0.parent t.0.there in
    let own : LeadsTo tree tree.root y.0 = by_parent y.0 y.1 (there y (inr (inl refl))) (subst (λ k. LeadsTo tree tree.root k) (sym t.0.parent_is) up) in
    subst (λ (p : Visit). LeadsTo tree tree.root p.0) (sym same) own
leads v tree top (y ∷ ys) t root there e (inr (inr i)) = leads v tree top ys t.1 root (λ f j. there f (more_in f top y ys j)) e (inr i)

-- what is not proper is `.` or `..`
not_proper : (name : List ℕ) → is_proper name ≡ false → (name ≡ codes ".") ⊎ (name ≡ codes "..")
not_proper name e = by_test (bytes_eq name (codes ".")) refl (bytes_eq name (codes "..")) refl e
  where
    no : true ≡ false → ⊥
    no h = cc

    by_test : (a : Bool) → bytes_eq name (codes ".") ≡ a → (b : Bool) → bytes_eq name (codes "..") ≡ b → not (a || b) ≡ false → (name ≡ codes ".") ⊎ (name ≡ codes "..")
    by_test true h b g e = inl ((bytes_eq-Decides name (codes ".")).0 h)
    by_test false h true g e = inr ((bytes_eq-Decides name (codes "..")).0 g)
    by_test false h false g e = absurd (no e)

or_more : (a b : Bool) → a ≡ true → (a || b) ≡ true
or_more a b e = ap (λ c. c || b) e

empty_bad : is_bad_name [] ≡ true
empty_bad = refl

dir_tree : (v : Volume) (id : ℕ) (n : Node) → HasNode v id n → n.kind ≡ Dir → KeysAscend Text (rows_in Text (content v id))
dir_tree v id n h dir = let c = subst (λ k. HasContent v id n k) dir h.content_is in tree_ascends Text (content v id) c.1

record IsFoundAt (v : Volume) (kinds : List Found) (name : List ℕ) (value : ℤ) : Type 0 where
  pub kind : KeyKind
  pub there : find text_cmp name kinds ≡ Some kind
  pub number : value ≡ pos (natural value)
  pub index : IsIndex v (natural value) kind

index_at : (v : Volume) (rows : List Row) (kinds : List Found) → AreIndices v rows kinds → (name : List ℕ) (value : ℤ) → assoc Text rows name ≡ Some value → IsFoundAt v kinds name value
index_at v [] kinds are name value h = absurd (no h)
  where
    no : None ≡ Some value → ⊥
    no h = cc
index_at v (r ∷ rs) [] are name value h = absurd are
index_at v (r ∷ rs) (k ∷ ks) are name value h = by_test (same_keys Text name r.0) refl h (λ s. index_at v rs ks are.3 name value s)
  where
    same_test : (c : Bool) → same_keys Text name r.0 ≡ c → find text_cmp name (k ∷ ks) ≡ cond c (Some k.1) (find text_cmp name ks)
    same_test c t = ap (λ d. cond d (Some k.1) (find text_cmp name ks)) (ap (λ w. is_eq (text_cmp name w)) are.0 ∙ t)

    by_test : (c : Bool) → same_keys Text name r.0 ≡ c → cond c (Some r.1) (assoc Text rs name) ≡ Some value → (assoc Text rs name ≡ Some value → IsFoundAt v ks name value) → IsFoundAt v (k ∷ ks) name value
    by_test true t s more =
        let e : r.1 ≡ value = some_same r.1 value s in
        record { kind = k.1; there = same_test true t; number = subst (λ z. z ≡ pos (natural z)) e are.1; index = subst (λ z. IsIndex v (natural z) k.1) e are.2 }
    by_test false t s more =
        let ih = more s in
        record { kind = ih.kind; there = same_test false t ∙ ih.there; number = ih.number; index = ih.index }

row_of : (v : Volume) (rows : List Row) (kinds : List Found) → AreIndices v rows kinds → (name : List ℕ) (kind : KeyKind) → find text_cmp name kinds ≡ Some kind → (value : ℤ) × (assoc Text rows name ≡ Some value)
row_of v [] [] are name kind h = absurd (no h)
  where
    no : None ≡ Some kind → ⊥
    no h = cc
row_of v [] (k ∷ ks) are name kind h = absurd are
row_of v (r ∷ rs) [] are name kind h = absurd are
row_of v (r ∷ rs) (k ∷ ks) are name kind h = by_test (same_keys Text name r.0) refl (sym (ap (λ d. cond d (Some k.1) (find text_cmp name ks)) (ap (λ w. is_eq (text_cmp name w)) are.0)) ∙ h) (λ s. row_of v rs ks are.3 name kind s)
  where
    by_test : (c : Bool) → same_keys Text name r.0 ≡ c → cond c (Some k.1) (find text_cmp name ks) ≡ Some kind → (find text_cmp name ks ≡ Some kind → (value : ℤ) × (assoc Text rs name ≡ Some value)) → (value : ℤ) × (assoc Text (r ∷ rs) name ≡ Some value)
    by_test true t s more = (r.1, ap (λ d. cond d (Some r.1) (assoc Text rs name)) t)
    by_test false t s more = let ih = more s in (ih.0, ap (λ d. cond d (Some r.1) (assoc Text rs name)) t ∙ ih.1)

-- no index directory, no indices
no_directory : (v : Volume) → v.geometry.indices ≡ 0 → index_directory v ≡ None
no_directory v zero = ap (λ (n : ℕ). cond (n == 0) None (Some n)) zero

no_kinds : (v : Volume) (rows : List Row) (kinds : List Found) → AreIndices v rows kinds → rows ≡ [] → kinds ≡ []
no_kinds v [] [] are e = refl
no_kinds v [] (k ∷ ks) are e = absurd are
no_kinds v (r ∷ rs) kinds are e = absurd (some e)
  where
    some : r ∷ rs ≡ [] → ⊥
    some h = cc

no_entries : (kinds : List Found) → from_entries {R = text_cmp} kinds ≡ empty → kinds ≡ []
no_entries [] none = refl
no_entries (k ∷ ks) none = absurd (differ (sym here ∙ get-from_entries nat_list_cmp_total (k ∷ ks) k.0 ∙ ap (λ c. cond c (Some k.1) (find text_cmp k.0 ks)) (itself k.0)))
  where
    itself : (name : List ℕ) → is_eq (text_cmp name name) ≡ true
    itself name = same_itself Text name

    here : get (from_entries {R = text_cmp} (k ∷ ks)) k.0 ≡ None
    here = ap (λ (m : FinMap text_cmp KeyKind). get m k.0) none ∙ get-empty text_cmp k.0

    differ : None ≡ Some k.1 → ⊥
    differ h = cc

module _ (v : Volume) (top : Visit) (es : List Visit) (kinds : List Found) (t : IsRound v top es kinds) where
  tree : Tree
  tree = toured_tree v top es kinds

  is_top : IsTop v top
  is_top = top_of v top es t.tour

  is_node : (e : Visit) → In e (top ∷ es) → IsNode (toured_tree v top es kinds) e.0 e.1
  is_node e i = get-from_entries nat_cmp_total (top ∷ es) e.0 ∙ in_found (top ∷ es) e.0 e.1 t.once i

  node_in : (id : ℕ) (n : Node) → IsNode (toured_tree v top es kinds) id n → In (id, n) (top ∷ es)
  node_in id n there = found_in (top ∷ es) id n (sym (get-from_entries nat_cmp_total (top ∷ es) id) ∙ there)

  -- the record of the root, and of another
  top_name : top.1.name ≡ []
  top_name = is_top.node.called.root_name is_top.id

  top_parent : top.1.parent ≡ top.0
  top_parent = is_top.node.called.root_parent is_top.id

  not_top : (e : Visit) → In e es → e.0 ≢ v.geometry.root
  not_top e i same = once_first top es t.once e i (same ∙ sym is_top.id)

  has_node : (e : Visit) → In e (top ∷ es) → HasNode v e.0 e.1
  has_node e (inl same) = subst (λ (p : Visit). HasNode v p.0 p.1) (sym same) is_top.node
  has_node e (inr i) = (visit_of v top es t.tour e i).node

  -- another than the root has a row in its parent
  record IsListed (e : Visit) : Type 0 where
    pub dir : Visit
    pub there : In dir (top ∷ es)
    pub kind : dir.1.kind ≡ Dir
    pub row : In (e.1.name, pos e.0) (proper_rows v e.1.parent)
    pub parent : e.1.parent ≡ dir.0

  is_listed : (e : Visit) → In e es → IsListed e
  is_listed e i =
      let w = visit_of v top es t.tour e i in
      record { dir = w.parent; there = w.there; kind = w.kind; row = subst (λ k. In (e.1.name, pos e.0) (proper_rows v k)) (sym w.parent_is) w.row; parent = w.parent_is }

  in_rows : (e : Visit) → In e es → assoc Text (rows_in Text (content v e.1.parent)) e.1.name ≡ Some (pos e.0)
  in_rows e i =
      let l = is_listed e i in
      let up : KeysAscend Text (rows_in Text (content v e.1.parent)) =
      subst (λ k. KeysAscend Text (rows_in Text (content v k))) (sym l.parent) (dir_tree v l.dir.0 l.dir.1 (has_node l.dir l.there) l.kind) in
      in_assoc (rows_in Text (content v e.1.parent)) e.1.name (pos e.0) up (in_filter (λ (row : Row). is_proper row.0) (e.1.name, pos e.0) (rows_in Text (content v e.1.parent)) l.row).0

  is_dir : (e : Visit) → In e (top ∷ es) → e.1.kind ≡ Dir → IsDirectory (toured_tree v top es kinds) e.0
  is_dir e i dir = (e.1, is_node e i, dir)

  root_dir : IsDirectory (toured_tree v top es kinds) v.geometry.root
  root_dir = subst (λ k. IsDirectory (toured_tree v top es kinds) k) is_top.id (is_dir top (inl refl) is_top.kind)

  parent_dir : (e : Visit) → In e (top ∷ es) → IsDirectory (toured_tree v top es kinds) e.1.parent
  parent_dir e (inl same) = subst (λ k. IsDirectory (toured_tree v top es kinds) k) (sym is_top.id ∙ sym top_parent ∙ sym (ap (λ (p : Visit). p.1.parent) same)) root_dir
  parent_dir e (inr i) = let l = is_listed e i in subst (λ k. IsDirectory (toured_tree v top es kinds) k) (sym l.parent) (is_dir l.dir l.there l.kind)

  good_name : (e : Visit) → In e es → is_bad_name e.1.name ≡ false
  good_name e i = (visit_of v top es t.tour e i).good

  not_empty : (e : Visit) → In e es → e.1.name ≢ []
  not_empty e i same = true≢false (sym empty_bad ∙ sym (ap is_bad_name same) ∙ good_name e i)

  one_place : (a b : Visit) → In a (top ∷ es) → In b (top ∷ es) → a.1.parent ≡ b.1.parent → a.1.name ≡ b.1.name → a.0 ≡ b.0
  one_place a b (inl s) (inl r) parent name = ap (λ (p : Visit). p.0) s ∙ sym (ap (λ (p : Visit). p.0) r)
  one_place a b (inl s) (inr j) parent name = absurd (not_empty b j (sym name ∙ ap (λ (p : Visit). p.1.name) s ∙ top_name))
  one_place a b (inr i) (inl r) parent name = absurd (not_empty a i (name ∙ ap (λ (p : Visit). p.1.name) r ∙ top_name))
  one_place a b (inr i) (inr j) parent name =
      let other : assoc Text (rows_in Text (content v a.1.parent)) a.1.name ≡ Some (pos b.0) =
      ap (λ k. assoc Text (rows_in Text (content v k)) a.1.name) parent ∙ ap (λ w. assoc Text (rows_in Text (content v b.1.parent)) w) name ∙ in_rows b j in
      pos_same a.0 b.0 (some_same (pos a.0) (pos b.0) (sym (in_rows a i) ∙ other))

  own_root : (n : Node) → IsNode (toured_tree v top es kinds) v.geometry.root n → (n.name ≡ []) × (n.parent ≡ v.geometry.root)
  own_root n there = by_place (node_in v.geometry.root n there)
    where
      by_place : In (v.geometry.root, n) (top ∷ es) → (n.name ≡ []) × (n.parent ≡ v.geometry.root)
      by_place (inl same) = (ap (λ (p : Visit). p.1.name) same ∙ top_name, ap (λ (p : Visit). p.1.parent) same ∙ top_parent ∙ is_top.id)
      by_place (inr i) = absurd (not_top (v.geometry.root, n) i refl)

  named_well : (id : ℕ) (n : Node) → IsNode (toured_tree v top es kinds) id n → id ≢ v.geometry.root → is_bad_name n.name ≡ false
  named_well id n there other = by_place (node_in id n there)
    where
      by_place : In (id, n) (top ∷ es) → is_bad_name n.name ≡ false
      by_place (inl same) = absurd (other (ap (λ (p : Visit). p.0) same ∙ is_top.id))
      by_place (inr i) = good_name (id, n) i

  nodes_are : HasPlainNodes (toured_tree v top es kinds)
  nodes_are = record {
    root = root_dir;
    own = own_root;
    parents = λ id n there. parent_dir (id, n) (node_in id n there);
    lead = λ id n there. leads v (toured_tree v top es kinds) top es t.tour (sym is_top.id) is_node (id, n) (node_in id n there);
    apart = λ a b m n one two parent name. one_place (a, m) (b, n) (node_in a m one) (node_in b n two) parent name;
    named = named_well;
  }

  module _ (d : ℕ) (n : Node) (there : In (d, n) (top ∷ es)) (dir : n.kind ≡ Dir) where
    scan : IsScanned v es (d, n)
    scan = t.scanned (d, n) there dir

    row_there : (name : List ℕ) (value : ℤ) → assoc Text (rows_in Text (content v d)) name ≡ Some value → IsRow (toured_tree v top es kinds) d n name value
    row_there name value h = by_test (is_proper name) refl
      where
        dotted : (word : List ℕ) (z : ℤ) → name ≡ word → assoc Text (rows_in Text (content v d)) word ≡ Some z → value ≡ z
        dotted word z same is = some_same value z (sym h ∙ ap (λ w. assoc Text (rows_in Text (content v d)) w) same ∙ is)

        by_test : (c : Bool) → is_proper name ≡ c → IsRow (toured_tree v top es kinds) d n name value
        by_test false e = ⊎_elim (λ dot. inl (dot, dotted (codes ".") (pos d) dot scan.dot)) (λ dots. inr (inl (dots, dotted (codes "..") (pos n.parent) dots scan.dots))) (not_proper name e)
        by_test true e =
            let b = scan.below name value (filter_in (λ (row : Row). is_proper row.0) (name, value) (rows_in Text (content v d)) (assoc_in (rows_in Text (content v d)) name value h) e) in
            inr (inr (b.0.0, b.2, record { node = b.0.1; there = is_node b.0 (inr b.1); not_root = not_top b.0 b.1; parent = b.3; named = b.4 }))

    child_there : (name : List ℕ) (id : ℕ) → IsChild (toured_tree v top es kinds) d name id → assoc Text (rows_in Text (content v d)) name ≡ Some (pos id)
    child_there name id c = by_place (node_in id c.node c.there)
      where
        by_place : In (id, c.node) (top ∷ es) → assoc Text (rows_in Text (content v d)) name ≡ Some (pos id)
        by_place (inl same) = absurd (c.not_root (ap (λ (p : Visit). p.0) same ∙ is_top.id))
        by_place (inr i) =
            ap (λ w. assoc Text (rows_in Text (content v d)) w) (sym c.named) ∙ ap (λ k. assoc Text (rows_in Text (content v k)) c.node.name) (sym c.parent) ∙ in_rows (id, c.node) i

    there_row : (name : List ℕ) (value : ℤ) → IsRow (toured_tree v top es kinds) d n name value → assoc Text (rows_in Text (content v d)) name ≡ Some value
    there_row name value (inl dot) = ap (λ w. assoc Text (rows_in Text (content v d)) w) dot.0 ∙ scan.dot ∙ ap Some (sym dot.1)
    there_row name value (inr (inl dots)) = ap (λ w. assoc Text (rows_in Text (content v d)) w) dots.0 ∙ scan.dots ∙ ap Some (sym dots.1)
    there_row name value (inr (inr child)) = child_there name child.0 child.2 ∙ ap Some (sym child.1)

    lists : Lists v (toured_tree v top es kinds) d n
    lists name value = (row_there name value, there_row name value)

  index_of : (name : List ℕ) (value : ℤ) → IsIndexRow v name value → IsIndexOf v (toured_tree v top es kinds) name value
  index_of name value h =
      let i = index_at v (index_rows v) kinds t.indices name value h in
      record { kind = i.kind; there = get-from_entries nat_list_cmp_total kinds name ∙ i.there; number = i.number; index = i.index }

  none_found : (kinds ≡ [] → v.geometry.indices ≡ 0) → (v.geometry.indices ≡ 0) ↔ (from_entries {R = text_cmp} kinds ≡ empty)
  none_found some = (λ zero. ap (λ (ks : List Found). from_entries {R = text_cmp} ks) (no_kinds v (index_rows v) kinds t.indices (ap (rows_of v) (no_directory v zero))), λ none. some (no_entries kinds none))

  stands : (kinds ≡ [] → v.geometry.indices ≡ 0) → Stands v (toured_tree v top es kinds)
  stands some = record {
    root = refl;
    nodes = λ id n there. has_node (id, n) (node_in id n there);
    listings = λ id n there dir. lists id n (node_in id n there) dir;
    directory = t.directory;
    none = none_found some;
    indices = index_of;
    no_more = λ name kind there. row_of v (index_rows v) kinds t.indices name kind (sym (get-from_entries nat_list_cmp_total kinds name) ∙ there);
  }

pub tour_claims : (v : Volume) (top : Visit) (es : List Visit) (kinds : List Found) → IsRound v top es kinds → (k : ℕ) → times k (reach v (toured_tree v top es kinds)) ≡ times k (claimed v (top ∷ es))
tour_claims v top es kinds t k =
    let nodes : List (ℕ × Node) = entries (toured_tree v top es kinds).nodes in
    let one : times k (flat_map (node_blocks v) nodes) ≡ times k (flat_map (node_blocks v) (top ∷ es)) = times_entries k (node_blocks v) (top ∷ es) t.once in
    let a = times-append k (fixed_blocks v) (bitmap_blocks v.geometry ++ (flat_map (node_blocks v) nodes ++ index_blocks v)) in
    let b = times-append k (bitmap_blocks v.geometry) (flat_map (node_blocks v) nodes ++ index_blocks v) in
    let c = times-append k (flat_map (node_blocks v) nodes) (index_blocks v) in
    let d = times-append k (fixed_blocks v) (bitmap_blocks v.geometry ++ (flat_map (node_blocks v) (top ∷ es) ++ index_blocks v)) in
    let e = times-append k (bitmap_blocks v.geometry) (flat_map (node_blocks v) (top ∷ es) ++ index_blocks v) in
    let f = times-append k (flat_map (node_blocks v) (top ∷ es)) (index_blocks v) in
    omega (arith, one, a, b, c, d, e, f)

pub tour_reach : TourReaches
tour_reach v top es kinds t k = tour_claims v top es kinds t.round k

pub tour_standing : TourStands
tour_standing v top es kinds t once inside = record {
  nodes = record {
    plain = nodes_are v top es kinds t.round;
    stands = stands v top es kinds t.round t.some;
    once = λ k. subst (λ (n : ℕ). n ≤ 1) (sym (tour_claims v top es kinds t.round k)) (once k);
  };
  inside = λ k h. inside k (subst (λ (n : ℕ). 0 < n) (tour_claims v top es kinds t.round k) h);
}

pub round_unbroken : RoundIsUnbroken
round_unbroken v top es kinds t once inside finding = broken v (toured_tree v top es kinds) up finding
  where
    up : Upright v (toured_tree v top es kinds)
    up = record {
      plain = nodes_are v top es kinds t;
      root = refl;
      nodes = λ id n there. has_node v top es kinds t (id, n) (node_in v top es kinds t id n there);
      listings = λ id n there dir. lists v top es kinds t id n (node_in v top es kinds t id n there) dir;
      directory = t.directory;
      indices = index_of v top es kinds t;
      once = λ k. subst (λ (n : ℕ). n ≤ 1) (sym (tour_claims v top es kinds t k)) (once k);
      inside = λ k h. inside k (subst (λ (n : ℕ). 0 < n) (tour_claims v top es kinds t k) h);
    }
