-- The lists, where a node was taken out of some indices.
use Rattle.std.proofs.Common.{◌≡◌, ◌≢◌, ◌⊎◌, inl, inr, ℕ, ℤ, List, [], ◌∷◌, refl, sym, ap, ◌∙◌, subst, Bool, true, false, cond, Some, None, map}
use Rattle.std.specs.Prelude.{◌↔◌}
use Rattle.std.specs.List.{Contains}
use Rattle.std.specs.List.Sorted.{IsStrictlySortedBy}
use Rattle.std.specs.Option.{option_and_then}
use Rattle.bfs_base.specs.declared.kind.KeyKind.{KeyKind}
use Rattle.bfs_base.specs.declared.kind.KeyKind.TheVariants.{Text}
use Rattle.bfs_node.specs.Page.{Row}
use Rattle.bfs_pages.specs.Maps.{assoc}
use Rattle.bfs_pages.specs.Order.{same_keys}
use Rattle.bfs_tree.specs.Listings.{key_in, key_at, listed, pair_cmp, without_id}
use Rattle.bfs_tree.specs.Trees.{Tree}
use Rattle.bfs_tree.proofs.ListMoves.{listed-ascends, listed-has, listed-stays, listed-taken}
use Rattle.bfs_sound.specs.Inodes.{id_of}
use Rattle.bfs_attr.specs.declared.directory.InodeRow.{InodeRow}
use Rattle.bfs_shift.specs.Lists.{Lists, Agrees, with_pairs}
use Rattle.bfs_shift.proofs.Following.{same_or_not, named_or_not}
use Rattle.bfs_shift.proofs.Leaves.{taken_none}
use Rattle.bfs_shift.proofs.Made.{taken_other}
use Rattle.bfs_shift.proofs.OneIndex.{same_name}
use Rattle.bfs_shift.proofs.Parts.{lists_at}
use Rattle.bfs_leave.specs.Leaving.{tree_without}
use Rattle.bfs_unlist.specs.Reading.{IsNamed, IsPartly}
use Rattle.bfs_unlist.specs.Without.{ListsWithout}

-- ---- the keys of a tree without a node

module _ (tree : Tree) (id : ℕ) (index : List ℕ) (kind : KeyKind) where
  abbrev left : Tree
  left = tree_without tree id

  none_here : key_at left index kind id ≡ None
  none_here = ap (option_and_then (key_in tree.root index kind id)) (taken_none tree.nodes id)

  same_there : (q : ℕ) → q ≢ id → key_at left index kind q ≡ key_at tree index kind q
  same_there q apart = ap (option_and_then (key_in tree.root index kind q)) (taken_other tree.nodes id q apart)

  -- where an index doesn't list the node, it lists the same without it
  pub unlisted_same : key_at tree index kind id ≡ None → listed left index kind ≡ listed tree index kind
  unlisted_same none = listed-stays tree left index kind (λ q. by_id q (same_or_not q id))
    where
      by_id : (q : ℕ) → (q ≡ id) ⊎ (q ≢ id) → key_at left index kind q ≡ key_at tree index kind q
      by_id q (inl e) = subst (λ (j : ℕ). key_at left index kind j ≡ key_at tree index kind j) (sym e) (none_here ∙ sym none)
      by_id q (inr apart) = same_there q apart

  pub gone_from : (k : List ℕ) → Contains (listed left index kind) (k, id) → ⊥
  gone_from k there = let bad : Some k ≡ None = sym ((listed-has left index kind k id).0 there) ∙ none_here in cc

  module _ (key : List ℕ) (has : key_at tree index kind id ≡ Some key) where
    less : (k : List ℕ) (n : ℕ) → Contains (listed left index kind) (k, n) → Contains (listed tree index kind) (k, n)
    less k n there = by_id (same_or_not n id)
      where
        by_id : (n ≡ id) ⊎ (n ≢ id) → Contains (listed tree index kind) (k, n)
        by_id (inl e) = absurd (gone_from k (subst (λ (j : ℕ). Contains (listed left index kind) (k, j)) e there))
        by_id (inr apart) = (listed-has tree index kind k n).1 (sym (same_there n apart) ∙ (listed-has left index kind k n).0 there)

    back : (k : List ℕ) (n : ℕ) → Contains (listed tree index kind) (k, n) → ((k ≡ key) × (n ≡ id) → ⊥) → Contains (listed left index kind) (k, n)
    back k n there apart = by_id (same_or_not n id)
      where
        before : key_at tree index kind n ≡ Some k
        before = (listed-has tree index kind k n).0 there

        by_id : (n ≡ id) ⊎ (n ≢ id) → Contains (listed left index kind) (k, n)
        by_id (inl e) = absurd (apart ((let both : Some k ≡ Some key = sym before ∙ ap (key_at tree index kind) e ∙ has in (let same : k ≡ key = cc in same)), e))
        by_id (inr other) = (listed-has left index kind k n).1 (same_there n other ∙ before)

    -- the pairs without the node are those that an index lists, or that it listed, but for the node's own
    pub taken_has : (pairs : List (List ℕ × ℕ)) → (pairs ≡ listed left index kind) ⊎ (pairs ≡ listed tree index kind) → (k : List ℕ) (n : ℕ)
        → Contains (listed left index kind) (k, n) ↔ (Contains pairs (k, n) × ((k ≡ key) × (n ≡ id) → ⊥))
    taken_has pairs (inl gone) k n = (
      λ there. (subst (λ (l : List (List ℕ × ℕ)). Contains l (k, n)) (sym gone) there, λ e. gone_from k (subst (λ (j : ℕ). Contains (listed left index kind) (k, j)) e.1 there)),
      λ both. subst (λ (l : List (List ℕ × ℕ)). Contains l (k, n)) gone both.0,
    )
    taken_has pairs (inr same) k n = (
      λ there. (subst (λ (l : List (List ℕ × ℕ)). Contains l (k, n)) (sym same) (less k n there), λ e. gone_from k (subst (λ (j : ℕ). Contains (listed left index kind) (k, j)) e.1 there)),
      λ both. back k n (subst (λ (l : List (List ℕ × ℕ)). Contains l (k, n)) same both.0) both.1,
    )

-- ---- a row is done

module _ (tree : Tree) (lists now : Lists) (id : ℕ) (row : InodeRow) (rest : List InodeRow) (partly : IsPartly tree lists now id (row ∷ rest)) where
  abbrev after : Tree
  after = tree_without tree id

  abbrev kind : KeyKind
  kind = lists.kinds row.name

  -- its index doesn't list the node
  pub passed_over : key_at tree row.name kind id ≡ None → IsPartly tree lists now id rest
  passed_over none = record {
    rows = partly.rows;
    names = partly.names;
    kinds = partly.kinds;
    pairs = λ index value there. by_case index (partly.pairs index value there);
  }
    where
      by_case : (index : List ℕ) → (now.pairs index ≡ listed after index (lists.kinds index)) ⊎ ((now.pairs index ≡ listed tree index (lists.kinds index)) × IsNamed (row ∷ rest) index)
          → (now.pairs index ≡ listed after index (lists.kinds index)) ⊎ ((now.pairs index ≡ listed tree index (lists.kinds index)) × IsNamed rest index)
      by_case index (inl gone) = inl gone
      by_case index (inr (same, inl e)) = inl (same ∙ subst (λ (i : List ℕ). listed tree i (lists.kinds i) ≡ listed after i (lists.kinds i)) (sym e) (sym (unlisted_same tree id row.name kind none)))
      by_case index (inr (same, inr named)) = inr (same, named)

  abbrev pairs : List (List ℕ × ℕ)
  pairs = listed after row.name kind

  -- the node was taken out of its index
  pub taken_out : IsPartly tree lists (with_pairs now row.name pairs) id rest
  taken_out = record {
    rows = partly.rows;
    names = partly.names;
    kinds = partly.kinds;
    pairs = λ index value there. by_name index (named_or_not index row.name) (partly.pairs index value there);
  }
    where
      by_name : (index : List ℕ) → (index ≡ row.name) ⊎ (index ≢ row.name)
          → (now.pairs index ≡ listed after index (lists.kinds index)) ⊎ ((now.pairs index ≡ listed tree index (lists.kinds index)) × IsNamed (row ∷ rest) index)
          → ((with_pairs now row.name pairs).pairs index ≡ listed after index (lists.kinds index)) ⊎ (((with_pairs now row.name pairs).pairs index ≡ listed tree index (lists.kinds index)) × IsNamed rest index)
      by_name index (inl e) old = inl (subst (λ (i : List ℕ). (with_pairs now row.name pairs).pairs i ≡ listed after i (lists.kinds i)) (sym e) ((lists_at now).pairs_here row.name pairs))
      by_name index (inr apart) (inl gone) = inl ((lists_at now).pairs_elsewhere row.name index pairs apart ∙ gone)
      by_name index (inr apart) (inr (same, inl e)) = absurd (apart e)
      by_name index (inr apart) (inr (same, inr named)) = inr ((lists_at now).pairs_elsewhere row.name index pairs apart ∙ same, named)

  pub pairs_sorted : IsStrictlySortedBy (pair_cmp kind) pairs
  pairs_sorted = listed-ascends after row.name kind

  either : (value : ℤ) → assoc Text lists.names row.name ≡ Some value → (now.pairs row.name ≡ listed after row.name kind) ⊎ (now.pairs row.name ≡ listed tree row.name kind)
  either value there = by_case (partly.pairs row.name value there)
    where
      by_case : (now.pairs row.name ≡ listed after row.name kind) ⊎ ((now.pairs row.name ≡ listed tree row.name kind) × IsNamed (row ∷ rest) row.name)
          → (now.pairs row.name ≡ listed after row.name kind) ⊎ (now.pairs row.name ≡ listed tree row.name kind)
      by_case (inl gone) = inl gone
      by_case (inr both) = inr both.0

  pub pairs_less : (value : ℤ) (key : List ℕ) → assoc Text lists.names row.name ≡ Some value → key_at tree row.name kind id ≡ Some key → (k : List ℕ) (n : ℕ)
      → Contains pairs (k, n) ↔ (Contains (now.pairs row.name) (k, n) × ((k ≡ key) × (n ≡ id) → ⊥))
  pairs_less value key there has = taken_has tree id row.name kind key has (now.pairs row.name) (either value there)

-- ---- the begin and the end

-- each name of the index directory has a row
named_in : (rows : List Row) (index : List ℕ) (value : ℤ) → assoc Text rows index ≡ Some value → IsNamed (map (λ (r : Row). record { name = r.0; id = id_of r }) rows) index
named_in [] index value there = absurd (let bad : None ≡ Some value = there in cc)
named_in (r ∷ rs) index value there = by_test (same_keys Text index r.0) refl there (named_in rs index value)
  where
    by_test : (t : Bool) → same_keys Text index r.0 ≡ t → cond t (Some r.1) (assoc Text rs index) ≡ Some value
        → (assoc Text rs index ≡ Some value → IsNamed (map (λ (r : Row). record { name = r.0; id = id_of r }) rs) index)
        → IsNamed (map (λ (r : Row). record { name = r.0; id = id_of r }) (r ∷ rs)) index
    by_test true e is further = inl (same_name index r.0 e)
    by_test false e is further = inr (further is)

pub partly_begins : (tree : Tree) (lists : Lists) (id : ℕ) (rows : List InodeRow) → Agrees tree lists → rows ≡ map (λ (r : Row). record { name = r.0; id = id_of r }) lists.names → IsPartly tree lists lists id rows
partly_begins tree lists id rows agrees are = record {
  rows = λ d. refl;
  names = refl;
  kinds = λ index. refl;
  pairs = λ index value there. inr ((agrees.indices index value there).pairs, subst (λ (l : List InodeRow). IsNamed l index) (sym are) (named_in lists.names index value there));
}

pub partly_ends : (tree : Tree) (lists last : Lists) (id : ℕ) → Agrees tree lists → IsPartly tree lists last id [] → ListsWithout lists last id
partly_ends tree lists last id agrees partly = record {
  rows = partly.rows;
  names = partly.names;
  kinds = partly.kinds;
  pairs = λ index value there. by_case index value there (partly.pairs index value there);
}
  where
    by_case : (index : List ℕ) (value : ℤ) → assoc Text lists.names index ≡ Some value
        → (last.pairs index ≡ listed (tree_without tree id) index (lists.kinds index)) ⊎ ((last.pairs index ≡ listed tree index (lists.kinds index)) × IsNamed [] index)
        → last.pairs index ≡ without_id id (lists.pairs index)
    by_case index value there (inl gone) = gone ∙ listed-taken tree index (lists.kinds index) id ∙ ap (without_id id) (sym (agrees.indices index value there).pairs)
    by_case index value there (inr (same, bad)) = absurd bad

-- where the index directory has no rows, no index lists it
pub none_without : (lists : Lists) (id : ℕ) → lists.names ≡ [] → ListsWithout lists lists id
none_without lists id none = record {
  rows = λ d. refl;
  names = refl;
  kinds = λ index. refl;
  pairs = λ index value there. absurd (let bad : None ≡ Some value = sym (ap (λ (rows : List Row). assoc Text rows index) none) ∙ there in cc);
}
