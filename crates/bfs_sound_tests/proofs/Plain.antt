-- A tree whose nodes and indices are written out is plain, by tests that compute.
use Rattle.std.proofs.Common.{◌≡◌, ◌≢◌, ◌⊎◌, inl, inr, ℕ, zero, suc, List, [], length, Option, Some, None, Bool, true, false, not, ◌||◌, T, refl, sym, ap, ◌∙◌, subst, arith, ⊎_elim}
use Rattle.std.proofs.lemmas.Bool.{true≢false}
use Rattle.std.specs.Prelude.{◌==◌, codes}
use Rattle.std.specs.List.{AllByRecursion, list_all}
use Rattle.std.specs.Option.{option_map_or}
use Rattle.std.specs.Str.{bytes_eq}
use Rattle.std.specs.Ordering.{nat_cmp}
use Rattle.std.specs.FinMap.{FinMap, find, get, len-entries, empty, empty_of_len, entries, is_sorted, from_sorted, get-from_sorted, entries-from_sorted}
use Rattle.bfs_base.specs.Keys.{text_cmp}
use Rattle.bfs_base.specs.declared.kind.KeyKind.{KeyKind}
use Rattle.bfs_base.specs.declared.kind.KeyKind.TheVariants.{Text, I64}
use Rattle.bfs_tree.specs.declared.call.Kind.{Kind}
use Rattle.bfs_tree.specs.declared.call.Kind.TheVariants.{File, Dir, Link}
use Rattle.bfs_tree.specs.Names.{is_bad_name}
use Rattle.bfs_tree.specs.Trees.{Node, Tree, is_dir, IsNode, IsDirectory, LeadsTo, at_top, by_parent, HasPlainIndices, IsPlain}
use Rattle.bfs_sound_tests.proofs.Finite.{either, not_true, same, all_of, all_map, found_all, text_one, number_one, itself}

-- the map without entries
pub none_sorted : ◌≡◌ {A = FinMap text_cmp KeyKind} (from_sorted []) empty
none_sorted = empty_of_len (from_sorted []) (len-entries (from_sorted []) ∙ ap length (entries-from_sorted text_cmp [] tt))

module _ (root : ℕ) (nodes : List (ℕ × Node)) (indices : List (List ℕ × KeyKind)) where
  abbrev pub tree : Tree
  tree = record { root = root; nodes = from_sorted nodes; indices = from_sorted indices }

  -- two entries are one, or have different parents, or different names
  abbrev pub are_other : ℕ × Node → ℕ × Node → Bool
  are_other e f = (e.0 == f.0) || (not (e.1.parent == f.1.parent) || not (bytes_eq e.1.name f.1.name))

  abbrev pub is_named : ℕ × Node → Bool
  is_named e = (e.0 == root) || not (is_bad_name e.1.name)

  -- there is a directory
  abbrev pub dir_at : Option Node → Bool
  dir_at None = false
  dir_at (Some n) = is_dir n.kind

  -- one step up, and so many steps up to the root
  abbrev pub up : ℕ → ℕ
  up id = option_map_or (λ n. n.parent) (find nat_cmp id nodes) id

  abbrev pub climbs : ℕ → ℕ → Bool
  climbs zero id = id == root
  climbs (suc n) id = (id == root) || climbs n (up id)

  -- there are no indices, or the three built-in ones are there with their kinds
  abbrev pub AreBuiltIn : Type 0
  AreBuiltIn = (indices ≡ [])
      ⊎ ((find text_cmp (codes "name") indices ≡ Some Text) × (find text_cmp (codes "size") indices ≡ Some I64) × (find text_cmp (codes "last_modified") indices ≡ Some I64))

  pub record IsTested : Type 0 where
    pub sorted : T (is_sorted nat_cmp nodes)
    pub in_order : T (is_sorted text_cmp indices)
    pub top : Node
    pub there : find nat_cmp root nodes ≡ Some top
    pub dir : top.kind ≡ Dir
    pub unnamed : top.name ≡ []
    pub own : top.parent ≡ root
    pub parents : list_all (λ e. dir_at (find nat_cmp e.1.parent nodes)) nodes ≡ true
    pub lead : list_all (λ e. climbs 8 e.0) nodes ≡ true
    pub named : list_all is_named nodes ≡ true
    pub apart : list_all (λ e. list_all (are_other e) nodes) nodes ≡ true
    pub kinds : AreBuiltIn

  module _ (f : IsTested) where
    pub nodes_are : entries tree.nodes ≡ nodes
    nodes_are = entries-from_sorted nat_cmp nodes f.sorted

    found : (id : ℕ) (n : Node) → IsNode tree id n → find nat_cmp id nodes ≡ Some n
    found id n is = sym (get-from_sorted nat_cmp nodes id f.sorted) ∙ is

    pub is_node : (id : ℕ) (n : Node) → find nat_cmp id nodes ≡ Some n → IsNode tree id n
    is_node id n e = get-from_sorted nat_cmp nodes id f.sorted ∙ e

    -- what holds of each entry
    pub each_node : (P : ℕ → Node → Type 0) → AllByRecursion (λ e. P e.0 e.1) nodes → (id : ℕ) (n : Node) → IsNode tree id n → P id n
    each_node P all id n is = found_all number_one P nodes all id n (found id n is)

    pub each_index : (P : List ℕ → KeyKind → Type 0) → AllByRecursion (λ e. P e.0 e.1) indices → (name : List ℕ) (kind : KeyKind) → get tree.indices name ≡ Some kind → P name kind
    each_index P all name kind is = found_all text_one P indices all name kind (sym (get-from_sorted text_cmp indices name f.in_order) ∙ is)

    pub index_is : (name : List ℕ) (kind : KeyKind) → find text_cmp name indices ≡ Some kind → get tree.indices name ≡ Some kind
    index_is name kind e = get-from_sorted text_cmp indices name f.in_order ∙ e

    root_dir : IsDirectory tree root
    root_dir = (f.top, is_node root f.top f.there, f.dir)

    dir_found : (o : Option Node) → dir_at o ≡ true → (n : Node) × (o ≡ Some n) × (n.kind ≡ Dir)
    dir_found None e = absurd (true≢false (sym e))
    dir_found (Some n) e = (n, refl, dir_is n.kind e)
      where
        dir_is : (k : Kind) → is_dir k ≡ true → k ≡ Dir
        dir_is File e = absurd (true≢false (sym e))
        dir_is Dir e = refl
        dir_is Link e = absurd (true≢false (sym e))

    parent_dir : (id : ℕ) (n : Node) → IsNode tree id n → IsDirectory tree n.parent
    parent_dir id n is =
        let t : dir_at (find nat_cmp n.parent nodes) ≡ true = each_node (λ id n. dir_at (find nat_cmp n.parent nodes) ≡ true) (all_of _ nodes f.parents) id n is in
        let d = dir_found (find nat_cmp n.parent nodes) t in
        (d.0, is_node n.parent d.0 d.1, d.2)

    climb : (n id : ℕ) → climbs n id ≡ true → LeadsTo tree root id
    climb zero id e = subst (LeadsTo tree root) (sym (same id root e)) at_top
    climb (suc n) id e = ⊎_elim (λ t. subst (LeadsTo tree root) (sym (same id root t)) at_top) (λ t. step (find nat_cmp id nodes) refl (climb n (up id) t)) (either (id == root) (climbs n (up id)) e)
      where
        step : (o : Option Node) → find nat_cmp id nodes ≡ o → LeadsTo tree root (option_map_or (λ n. n.parent) o id) → LeadsTo tree root id
        step None e more = more
        step (Some m) e more = by_parent id m (is_node id m e) more

    leads : (id : ℕ) (n : Node) → IsNode tree id n → LeadsTo tree root id
    leads id n is = climb 8 id (each_node (λ id n. climbs 8 id ≡ true) (all_of _ nodes f.lead) id n is)

    root_own : (n : Node) → IsNode tree root n → (n.name ≡ []) × (n.parent ≡ root)
    root_own n is =
        let e : Some f.top ≡ Some n = sym f.there ∙ found root n is in
        let s : f.top ≡ n = cc in
        (subst (λ (m : Node). m.name ≡ []) s f.unnamed, subst (λ (m : Node). m.parent ≡ root) s f.own)

    one : (a b : ℕ) (m n : Node) → IsNode tree a m → IsNode tree b n → m.parent ≡ n.parent → m.name ≡ n.name → a ≡ b
    one a b m n is too parents names =
        let pair = each_node (λ id k. (j : ℕ) (l : Node) → IsNode tree j l → are_other (id, k) (j, l) ≡ true)
        (all_map _ _ nodes (λ e t. each_node (λ j l. are_other e (j, l) ≡ true) (all_of _ nodes t)) (all_of _ nodes f.apart)) a m is b n too in
        ⊎_elim (λ t. same a b t) (λ t. absurd (⊎_elim (λ p. differ p) (λ p. true≢false (sym (itself m.name n.name names) ∙ not_true (bytes_eq m.name n.name) p)) (either (not (m.parent == n.parent)) (not (bytes_eq m.name n.name)) t)))
        (either (a == b) (not (m.parent == n.parent) || not (bytes_eq m.name n.name)) pair)
      where
        differ : not (m.parent == n.parent) ≡ true → ⊥
        differ p = grind (arith, p, parents)

    good : (id : ℕ) (n : Node) → IsNode tree id n → id ≢ root → is_bad_name n.name ≡ false
    good id n is other =
        let t = each_node (λ id k. is_named (id, k) ≡ true) (all_of _ nodes f.named) id n is in
        ⊎_elim (λ e. absurd (other (same id root e))) (λ e. not_true (is_bad_name n.name) e) (either (id == root) (not (is_bad_name n.name)) t)

    plain_indices : AreBuiltIn → HasPlainIndices tree.indices
    plain_indices (inl none) = inl (ap from_sorted none ∙ none_sorted)
    plain_indices (inr three) = inr (record {
      by_name = index_is (codes "name") Text three.0;
      by_size = index_is (codes "size") I64 three.1;
      by_time = index_is (codes "last_modified") I64 three.2;
    })

    pub plain : IsPlain tree
    plain = record {
      nodes = record {
        root = root_dir;
        own = root_own;
        parents = parent_dir;
        lead = leads;
        apart = one;
        named = good;
      };
      indices = plain_indices f.kinds;
    }
