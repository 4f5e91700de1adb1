-- Findings on a tree exclude that the bytes are one.
use Rattle.std.proofs.Common.{◌≡◌, ◌≢◌, ◌≤◌, ◌<◌, ◌+◌, ◌/◌, ◌⊎◌, inl, inr, ⊎_elim, ℕ, ℤ, negsuc, zero, suc, List, [], ◌∷◌, ◌++◌, length, Some, None, Bool, true, false, cond, map, refl, sym, ap, ◌∙◌, subst, arith}
use Rattle.std.specs.Prelude.{◌==◌, ◌&&◌}
use Rattle.std.specs.List.{flat_map}
use Rattle.bfs_base.specs.Lists.{times, Has}
use Rattle.bfs_base.specs.declared.kind.KeyKind.{KeyKind}
use Rattle.bfs_node.specs.declared.fault.PageFault.{PageFault}
use Rattle.bfs_node.specs.declared.fault.PageFault.TheVariants.{Bounds as bounds_fault, Ends as ends_fault}
use Rattle.bfs_node.specs.Faults.{IsPageRefusal}
use Rattle.bfs_node.specs.Page.{Row, rows_of, left_of, right_of, overflow_of}
use Rattle.bfs_sound.proofs.Doubles.{times-append}
use Rattle.bfs_sound.proofs.Frames.{has_first, has_left, has_right}
use Rattle.bfs_pages.specs.Answers.{IsChild, IsLink}
use Rattle.bfs_pages.specs.Order.{Key}
use Rattle.bfs_pages.specs.Shapes.{Body, leaf_body, inner_body, Precedes, AscendAll, Shape, leaf_shape, node_shape, place, met_by, leaves_of, tree_rows}
use Rattle.bfs_pages.specs.Trees.{state_of, page_in, place_of, body_of, children_in, held, Linked}
use Rattle.bfs_pages.proofs.Good.{refused-page}
use Rattle.bfs_pages.proofs.OfKind.{met-child, inner-fields, leaf-fields, one-place}
use Rattle.bfs_pages.proofs.Placed.{held_most}
use Rattle.bfs_values.specs.declared.link.Link.{Link}
use Rattle.bfs_values.specs.declared.link.Link.TheVariants.{Number, Fragment, Chain, Nothing}
use Rattle.bfs_values.specs.Links.{link_in}
use Rattle.bfs_values.specs.Values.{IsDuplicates, AreDuplicates, EndsAfter, next_of, chain_of, chain_from, HasNumbers, HasValues}
use Rattle.bfs_values.specs.Reached.{IsWholeTree, chains_in, chain_in, times_named, is_fragment}
use Rattle.bfs_values.specs.Rows.{rows_in}
use Rattle.bfs_values.proofs.Chaining.{whole-pages}
use Rattle.bfs_values.proofs.Chains.{ends-next, ends-link, the-child}
use Rattle.bfs_values.proofs.Ending.{few}
use Rattle.bfs_values.proofs.Rows.{rows_those}
use Rattle.bfs_sound.specs.Owners.{In}
use Rattle.bfs_finding.specs.declared.finding.PagePart.{PagePart}
use Rattle.bfs_finding.specs.Walks.{Met, inners_below, leaves_below, entries_below, inners_in, leaves_in, entries_met, frees_in, fragment_in, fragments_in, chain_pages, pages_met}
use Rattle.bfs_finding.specs.TreeFaults.{IsInTree, IsLeafRow, IsValueFault, no_link, no_fragment, not_one, no_duplicates, twice_there, IsPageFault, of_body, of_value, IsFollowed, to_top, to_free, to_next_free, to_child, to_last, to_fragment, to_chain, to_next, last_link, first_link, IsLinkFault, no_level, no_page, met_twice, nowhere, no_leaf, no_interior, wrong_left, wrong_right, no_mark, IsOrderFault}
use Rattle.bfs_finding.proofs.Rows.{all_in}
use Rattle.bfs_finding.proofs.Walking.{has_split, has_more, split_are, leaves_are, entries_only, entries_are, InnerAt, inner_at, LeafAt, leaf_at, link_none, linked_at, left_is, right_is, free_list, first_free, free_at, marked_free}
use Rattle.bfs_sound.proofs.Counts.{in_map}

-- rows that name a page's fragments
named_there : (at : ℕ) (rows : List Row) → Has (fragments_in rows) at → (f : ℕ) × (0 < times_named at f rows)
named_there at [] h = absurd (omega (arith, h))
named_there at (r ∷ rs) h = by_link (link_in r.1) refl (has_split at (fragment_in (link_in r.1)) (fragments_in rs) h) (λ m. named_there at rs m)
  where
    more : (f : ℕ) → 0 < times_named at f rs → 0 < times_named at f (r ∷ rs)
    more f m = omega (arith, m)

    own : (page f : ℕ) → at ≡ page → is_fragment at f (Fragment page f) ≡ true
    own page f e = grind (arith, e)

    by_link : (l : Link) → link_in r.1 ≡ l → Has (fragment_in l) at ⊎ Has (fragments_in rs) at → (Has (fragments_in rs) at → (f : ℕ) × (0 < times_named at f rs)) → (f : ℕ) × (0 < times_named at f (r ∷ rs))
    by_link l e (inr m) ih = let x = ih m in (x.0, more x.0 x.1)
    by_link (Number n) e (inl m) ih = absurd (omega (arith, m))
    by_link (Chain page) e (inl m) ih = absurd (omega (arith, m))
    by_link Nothing e (inl m) ih = absurd (omega (arith, m))
    by_link (Fragment page f) e (inl m) ih =
        ⊎_elim
        (λ same. (f, let one : is_fragment at f (link_in r.1) ≡ true = ap (is_fragment at f) e ∙ own page f same in subst (λ (c : Bool). 0 < cond c 1 0 + times_named at f rs) (sym one) (omega arith)))
        (λ none. absurd (omega (arith, none)))
        (has_more at page [] m)

naming_there : (at f : ℕ) (rows : List Row) → 0 < times_named at f rows → Has (fragments_in rows) at
naming_there at f [] m = absurd (omega (arith, m))
naming_there at f (r ∷ rs) m = by_test (is_fragment at f (link_in r.1)) refl m (λ n. naming_there at f rs n)
  where
    both : (page i : ℕ) → ((page == at) && (i == f)) ≡ true → at ≡ page
    both page i e = grind (arith, e)

    by_link : (l : Link) → is_fragment at f l ≡ true → Has (fragment_in l) at
    by_link (Number n) e = absurd (let bad : false ≡ true = e in cc)
    by_link (Chain page) e = absurd (let bad : false ≡ true = e in cc)
    by_link Nothing e = absurd (let bad : false ≡ true = e in cc)
    by_link (Fragment page i) e = subst (λ k. Has (page ∷ []) k) (sym (both page i e)) (has_first page [])

    by_test : (c : Bool) → is_fragment at f (link_in r.1) ≡ c → 0 < cond c 1 0 + times_named at f rs → (0 < times_named at f rs → Has (fragments_in rs) at) → Has (fragments_in (r ∷ rs)) at
    by_test true e n ih = has_left (fragment_in (link_in r.1)) (fragments_in rs) at (by_link (link_in r.1) e)
    by_test false e n ih = has_right (fragment_in (link_in r.1)) (fragments_in rs) at (ih (omega (arith, n)))

-- a row that names a chain
chain_row : (first : ℕ) (rows : List Row) → Has (chains_in rows) first → (r : Row) × In r rows × (link_in r.1 ≡ Chain first)
chain_row first [] h = absurd (omega (arith, h))
chain_row first (r ∷ rs) h = by_link (link_in r.1) refl (has_split first (chain_in (link_in r.1)) (chains_in rs) h) (λ m. chain_row first rs m)
  where
    by_link : (l : Link) → link_in r.1 ≡ l → Has (chain_in l) first ⊎ Has (chains_in rs) first → (Has (chains_in rs) first → (q : Row) × In q rs × (link_in q.1 ≡ Chain first)) → (q : Row) × In q (r ∷ rs) × (link_in q.1 ≡ Chain first)
    by_link l e (inr m) ih = let x = ih m in (x.0, inr x.1, x.2)
    by_link (Number n) e (inl m) ih = absurd (omega (arith, m))
    by_link (Fragment page i) e (inl m) ih = absurd (omega (arith, m))
    by_link Nothing e (inl m) ih = absurd (omega (arith, m))
    by_link (Chain page) e (inl m) ih =
        ⊎_elim (λ same. (r, inl refl, e ∙ ap (λ k. Chain k) (sym same))) (λ none. absurd (omega (arith, none))) (has_more first page [] m)

-- a page of one of the chains
chain_first : (bytes : List ℕ) (page : ℕ) (firsts : List ℕ) → Has (flat_map (chain_of bytes) firsts) page → (first : ℕ) × Has firsts first × Has (chain_of bytes first) page
chain_first bytes page [] h = absurd (omega (arith, h))
chain_first bytes page (x ∷ xs) h =
    ⊎_elim (λ own. (x, has_first x xs, own))
    (λ more. let f = chain_first bytes page xs more in (f.0, (let m : 0 < times f.0 xs = f.1 in omega (arith, m)), f.2))
    (has_split page (chain_of bytes x) (flat_map (chain_of bytes) xs) h)

duplicates_at : (bytes : List ℕ) (page : ℕ) (pages : List ℕ) → AreDuplicates bytes pages → Has pages page → IsDuplicates (page_in bytes page)
duplicates_at bytes page [] all h = absurd (omega (arith, h))
duplicates_at bytes page (x ∷ xs) all h = ⊎_elim (λ e. subst (λ k. IsDuplicates (page_in bytes k)) (sym e) all.0) (λ more. duplicates_at bytes page xs all.1 more) (has_more page x xs h)

-- the right link of a page of a chain that ends leads to a page, or there is none
chain_link : (bytes : List ℕ) (n m at page : ℕ) → EndsAfter bytes m at → Has (chain_from bytes n at) page → IsLink (length bytes) (next_of bytes page)
chain_link bytes zero m at page ends h = absurd (omega (arith, h))
chain_link bytes (suc n) m at page ends h =
    ⊎_elim (λ e. subst (λ k. IsLink (length bytes) (next_of bytes k)) (sym e) (ends-link bytes m at ends))
    (λ more. by_test (next_of bytes at == 0) refl more (λ k rest there. chain_link bytes n k (next_of bytes at) page rest there))
    (has_more page at (cond (next_of bytes at == 0) [] (chain_from bytes n (next_of bytes at))) h)
  where
    other : (next_of bytes at == 0) ≡ false → next_of bytes at ≢ 0
    other e same = grind (arith, e, same)

    by_test : (c : Bool) → (next_of bytes at == 0) ≡ c → Has (cond c [] (chain_from bytes n (next_of bytes at))) page
        → ((k : ℕ) → EndsAfter bytes k (next_of bytes at) → Has (chain_from bytes n (next_of bytes at)) page → IsLink (length bytes) (next_of bytes page)) → IsLink (length bytes) (next_of bytes page)
    by_test true e none go = absurd (omega (arith, none))
    by_test false e more go = let next = ends-next bytes m at ends (other e) in go next.0 next.1 more

-- a child of an interior page
child_in_rows : (rows : List Row) (key : Key) (link : ℤ) → In (key, link) rows → In (key, place_of link) (children_in rows)
child_in_rows [] key link i = absurd i
child_in_rows (r ∷ rs) key link (inl e) = inl (ap (λ (x : Row). (x.0, place_of x.1)) e)
child_in_rows (r ∷ rs) key link (inr i) = inr (child_in_rows rs key link i)

has_member : (xs : List ℕ) (x : ℕ) → In x xs → Has xs x
has_member [] x i = absurd i
has_member (y ∷ ys) x (inl e) = subst (λ k. Has (y ∷ ys) k) (sym e) (has_first y ys)
has_member (y ∷ ys) x (inr i) = let m : 0 < times x ys = has_member ys x i in omega (arith, m)

held_child : (size x : ℕ) → IsChild size x → held size x ≡ 1
unfolding held
held_child size x c = ap (λ b. cond b 1 0) c.1

header_none : (x : ℕ) → 1 ≤ x → times x (0 ∷ []) ≡ 0
header_none x low = grind (arith, low)

-- what stands before an entry precedes it
before_it : (kind : KeyKind) (front : List Met) (e : Met) (back : List Met) (f : Met) → In f front → AscendAll kind (entries_only (front ++ (e ∷ back))) → Precedes kind f.2 e.2
before_it kind [] e back f i a = absurd i
before_it kind (x ∷ xs) e back f (inl same) a =
    subst (λ (y : Met). Precedes kind y.2 e.2) (sym same) (all_in (λ w. Precedes kind x.2 w) (entries_only (xs ++ (e ∷ back))) e.2 a.0 (in_map (λ (m : Met). m.2) (xs ++ (e ∷ back)) e (behind xs)))
  where
    behind : (ys : List Met) → In e (ys ++ (e ∷ back))
    behind [] = inl refl
    behind (y ∷ ys) = inr (behind ys)
before_it kind (x ∷ xs) e back f (inr i) a = before_it kind xs e back f i a.1

module _ (kind : KeyKind) (bytes : List ℕ) (w : IsWholeTree kind bytes) where
  child : (x : ℕ) → Has (met_by w.shape) x → IsChild (length bytes) x
  child x h = met-child (state_of kind bytes) w.reached w.shape w.free x w.tree.holds.built (omega (arith, h))

  leaves : leaves_in kind bytes ≡ leaves_of w.shape
  leaves = let b = w.tree.holds.built in ap (λ at. leaves_below (state_of kind bytes).bodies (state_of kind bytes).levels at) (sym b.root) ∙ leaves_are (state_of kind bytes).bodies (state_of kind bytes).levels w.shape b.stands b.deep

  split : (x : ℕ) → times x (inners_in kind bytes) + times x (leaves_in kind bytes) ≡ times x (met_by w.shape)
  split x =
      let b = w.tree.holds.built in
      ap (λ at. times x (inners_below (state_of kind bytes).bodies (state_of kind bytes).levels at) + times x (leaves_below (state_of kind bytes).bodies (state_of kind bytes).levels at)) (sym b.root)
      ∙ split_are (state_of kind bytes).bodies x (state_of kind bytes).levels w.shape b.stands b.deep

  inner : (x : ℕ) → Has (inners_in kind bytes) x → InnerAt (state_of kind bytes).bodies (met_by w.shape) x
  inner x h =
      let b = w.tree.holds.built in
      inner_at (state_of kind bytes).bodies x (state_of kind bytes).levels w.shape b.stands b.deep (subst (λ at. Has (inners_below (state_of kind bytes).bodies (state_of kind bytes).levels at) x) (sym b.root) h)

  leaf : (x : ℕ) → Has (leaves_in kind bytes) x → LeafAt (state_of kind bytes).bodies (tree_rows w.shape) x
  leaf x h = leaf_at (state_of kind bytes).bodies x w.shape w.tree.holds.built.stands (subst (λ l. Has l x) leaves h)

  leaf_met : (x : ℕ) → Has (leaves_in kind bytes) x → Has (met_by w.shape) x
  leaf_met x h = let s = split x in omega (arith, s, h)

  free_child : (x : ℕ) → Has w.free x → IsChild (length bytes) x
  free_child x h = one-place (length bytes) x (let o = w.tree.holds.built.once x in omega (arith, o, h))

  frees : frees_in kind bytes ≡ w.free
  frees =
      free_list (state_of kind bytes).frees (length bytes / 1024) (state_of kind bytes).free w.free w.tree.holds.built.chain (λ x h. (free_child x h).0)
      (few (length bytes / 1024) w.free (λ x. subst (λ n. times x w.free ≤ held n x) (whole-pages (length bytes) w.whole) (let o = w.tree.holds.built.once x in omega (arith, o))))

  -- each page is the header, a page with fragments, one of a chain, one of the tree, or free, once
  all_once : (x : ℕ) → times x (0 ∷ []) + (times x w.values.fragments + times x (chain_pages kind bytes)) + (times x (inners_in kind bytes) + times x (leaves_in kind bytes)) + times x (frees_in kind bytes) ≡ held (length bytes) x
  all_once x =
      let o = w.tree.holds.built.once x in
      let r : times x w.reached ≡ times x w.values.fragments + times x (chain_pages kind bytes) = ap (times x) w.values.parts ∙ times-append x w.values.fragments (chain_pages kind bytes) in
      let f : times x (frees_in kind bytes) ≡ times x w.free = ap (times x) frees in
      let s = split x in
      omega (arith, o, r, f, s)

  met_times : (x : ℕ) → times x (pages_met kind bytes) ≡ times x (inners_in kind bytes) + (times x (leaves_in kind bytes) + (times x (frees_in kind bytes) + times x (chain_pages kind bytes)))
  met_times x =
      let a = times-append x (inners_in kind bytes) (leaves_in kind bytes ++ (frees_in kind bytes ++ chain_pages kind bytes)) in
      let b = times-append x (leaves_in kind bytes) (frees_in kind bytes ++ chain_pages kind bytes) in
      let c = times-append x (frees_in kind bytes) (chain_pages kind bytes) in
      omega (arith, a, b, c)

  fragments_there : (x : ℕ) → Has (fragments_in (rows_in kind bytes)) x → Has w.values.fragments x
  fragments_there x h = (w.values.named x).1 (named_there x (rows_in kind bytes) h)

  -- the rows of leaves mean numbers
  row_there : (page : ℕ) (r : Row) → IsLeafRow kind bytes page r → In r (rows_in kind bytes)
  row_there page r i =
      let l = leaf page i.0 in
      let f = leaf-fields kind (page_in bytes page) l.rows l.is in
      subst (λ rs. In r rs) (rows_those kind bytes w.reached w.shape w.free w.tree) (l.there r (subst (λ rs. In r rs) f.1 i.3))

  means : (r : Row) (l : Link) → In r (rows_in kind bytes) → link_in r.1 ≡ l → HasNumbers bytes l
  means r l i e = subst (HasNumbers bytes) e (all_in (λ (q : Row). HasValues bytes q.1) (rows_in kind bytes) r w.mean i)

  pub no_value : (page : ℕ) → IsValueFault kind bytes page → ⊥
  no_value page (no_link r i e) = means r Nothing (row_there page r i) e
  no_value page (no_fragment i r there e is other) = other (means r (Fragment page i) there e).1
  no_value page (not_one i has small some other) = other (w.values.each page i (fragments_there page has) small some)
  no_value page (no_duplicates has is other) =
      let c = chain_first bytes page (chains_in (rows_in kind bytes)) has in
      let r = chain_row c.0 (rows_in kind bytes) c.1 in
      other (duplicates_at bytes page (chain_of bytes c.0) (means r.0 (Chain c.0) r.1 r.2).2 c.2)
  no_value page (twice_there has is ends other) =
      let r = chain_row page (rows_in kind bytes) has in other (means r.0 (Chain page) r.1 r.2).3

  some_body : (page : ℕ) → IsInTree kind bytes page → (b : Body) × ((state_of kind bytes).bodies page ≡ Some b)
  some_body page (inl h) = let i = inner page h in (inner_body i.keys i.last, i.is)
  some_body page (inr h) = let l = leaf page h in (leaf_body l.rows, l.is)

  refused : (page : ℕ) (fault : PageFault) (b : Body) → (state_of kind bytes).bodies page ≡ Some b → IsPageRefusal kind (page_in bytes page) fault → ⊥
  refused page fault b is r = none (sym (ap (λ c. cond c (Some (body_of (overflow_of (page_in bytes page)) (rows_of (page_in bytes page)))) None) (refused-page kind (page_in bytes page) fault r)) ∙ is)
    where
      none : None ≡ Some b → ⊥
      none e = cc

  pub no_page_fault : (page : ℕ) (part : PagePart) → IsPageFault kind bytes page part → ⊥
  no_page_fault page part (of_body there is (inl f)) = let b = some_body page there in refused page (bounds_fault f.1 f.2) b.0 b.1 f.3
  no_page_fault page part (of_body there is (inr f)) = let b = some_body page there in refused page (ends_fault f.1) b.0 b.1 f.2
  no_page_fault page part (of_value f _) = no_value page f

  -- where a link leads, a page begins
  not_null : (link : ℤ) (p : ℕ) → link ≢ negsuc 0 → p ≡ place_of link → p ≢ 0
  not_null link p other e zero_is = other (link_none link (sym e ∙ zero_is))

  free_next_child : (next : ℕ) → (next ≡ 0) ⊎ Has w.free next → next ≢ 0 → IsChild (length bytes) next
  free_next_child next (inl z) other = absurd (other z)
  free_next_child next (inr h) other = free_child next h

  pub followed : (page : ℕ) (link : ℤ) (p : ℕ) → IsFollowed kind bytes page link p → IsChild (length bytes) p
  followed page link p (to_top _ e place_is) =
      let b = w.tree.holds.built in
      subst (IsChild (length bytes)) (b.root ∙ ap place_of (sym e) ∙ sym place_is) (child (place w.shape) (top w.shape))
    where
      top : (t : Shape) → Has (met_by t) (place t)
      top (leaf_shape at rs) = has_first at []
      top (node_shape at below) = has_first at _
  followed page link p (to_free _ e other place_is) =
      free_next_child p (subst (λ k. (k ≡ 0) ⊎ Has w.free k) (ap place_of (sym e) ∙ sym place_is) (first_free (state_of kind bytes).frees (state_of kind bytes).free w.free w.tree.holds.built.chain)) (not_null link p other place_is)
  followed page link p (to_next_free has _ e other place_is) =
      let f = free_at (state_of kind bytes).frees (state_of kind bytes).free w.free page w.tree.holds.built.chain (subst (λ l. Has l page) frees has) in
      let m = marked_free (overflow_of (page_in bytes page)) (left_of (page_in bytes page)) f.next f.is in
      free_next_child p (subst (λ k. (k ≡ 0) ⊎ Has w.free k) (sym m.1 ∙ ap place_of (sym e) ∙ sym place_is) f.there) (not_null link p other place_is)
  followed page link p (to_child key has _ _ i place_is) =
      let n = inner page has in
      let f = inner-fields kind (page_in bytes page) n.keys n.last n.is in
      let there : In (key, place_of link) n.keys = subst (λ l. In (key, place_of link) l) f.1 (child_in_rows (rows_of (page_in bytes page)) key link i) in
      let places : Has (map (λ (e : Key × ℕ). e.1) n.keys) (place_of link) = has_member (map (λ (e : Key × ℕ). e.1) n.keys) (place_of link) (in_map (λ (e : Key × ℕ). e.1) n.keys (key, place_of link) there) in
      subst (IsChild (length bytes)) (sym place_is) (child (place_of link) (n.below (place_of link) (has_left (map (λ (e : Key × ℕ). e.1) n.keys) (n.last ∷ []) (place_of link) places)))
  followed page link p (to_last has _ e _ place_is) =
      let n = inner page has in
      let f = inner-fields kind (page_in bytes page) n.keys n.last n.is in
      subst (IsChild (length bytes)) (sym f.2 ∙ ap place_of (sym e) ∙ sym place_is) (child n.last (n.below n.last (has_right (map (λ (c : Key × ℕ). c.1) n.keys) (n.last ∷ []) n.last (has_first n.last []))))
  followed page link p (to_fragment key i there e) = (means (key, link) (Fragment p i) (row_there page (key, link) there) e).0
  followed page link p (to_chain key there e) = (means (key, link) (Chain p) (row_there page (key, link) there) e).0
  followed page link p (to_next has _ e other place_is) =
      let c = chain_first bytes page (chains_in (rows_in kind bytes)) has in
      let r = chain_row c.0 (rows_in kind bytes) c.1 in
      let ends = (means r.0 (Chain c.0) r.1 r.2).1 in
      let l = chain_link bytes (length bytes / 1024) ends.0 c.0 page ends.1 c.2 in
      the-child (length bytes) p (subst (IsLink (length bytes)) (ap place_of (sym e) ∙ sym place_is) l) (not_null link p other place_is)

  leaf_links : (front : List ℕ) (page : ℕ) (back : List ℕ) → leaves_in kind bytes ≡ front ++ (page ∷ back)
      → (left_of (page_in bytes page) ≡ last_link front) × (right_of (page_in bytes page) ≡ first_link back)
  leaf_links front page back e =
      let l = linked_at (state_of kind bytes).links 0 front page back (subst (λ xs. Linked (state_of kind bytes).links 0 xs 0) (sym leaves ∙ e) w.tree.holds.linked) in
      let there = λ (x : ℕ) (h : Has (front ++ (page ∷ back)) x). child x (leaf_met x (subst (λ xs. Has xs x) (sym e) h)) in (
        left_is (length bytes) front (left_of (page_in bytes page)) (λ x h. there x (has_left front (page ∷ back) x h)) (ap (λ (q : ℕ × ℕ). q.0) l),
        right_is (length bytes) back (right_of (page_in bytes page)) (λ x h. there x (has_right front (page ∷ back) x (let m : 0 < times x back = h in omega (arith, m)))) (ap (λ (q : ℕ × ℕ). q.1) l),
      )

  pub no_link_fault : (page : ℕ) (found wanted : ℤ) → IsLinkFault kind bytes page found wanted → ⊥
  no_link_fault page found wanted (no_level none _ _ _) = let some = w.tree.header.levels in omega (arith, none, some)
  no_link_fault page found wanted (no_page p there other _) = other (followed page found p there)
  no_link_fault page found wanted (met_twice is (inl twice) _ _) =
      let o = all_once page in
      let m = met_times page in
      let most = held_most (length bytes) page in
      omega (arith, o, m, most, twice)
  no_link_fault page found wanted (met_twice is (inr two) _ _) =
      let o = all_once page in
      let m = met_times page in
      let most = held_most (length bytes) page in
      let f : 0 < times page w.values.fragments = fragments_there page two.0 in
      let n : 0 < times page (pages_met kind bytes) = two.1 in
      omega (arith, o, m, most, f, n)
  no_link_fault page found wanted (nowhere is none _ _) =
      let o = all_once page in
      let m = met_times page in
      let one = held_child (length bytes) page is in
      let z = header_none page is.0 in
      let met : times page (pages_met kind bytes) ≡ 0 = none.0 in
      no_fragment_page (omega (arith, o, m, one, z, met))
    where
      no_fragment_page : 0 < times page w.values.fragments → ⊥
      no_fragment_page h =
          let f = (w.values.named page).0 h in
          let n : 0 < times page (fragments_in (rows_in kind bytes)) = naming_there page f.0 (rows_in kind bytes) f.1 in
          let none_named : times page (fragments_in (rows_in kind bytes)) ≡ 0 = none.1 in
          omega (arith, n, none_named)
  no_link_fault page found wanted (no_leaf has is e want other) =
      let l = leaf page has in other (e ∙ (leaf-fields kind (page_in bytes page) l.rows l.is).2 ∙ sym want)
  no_link_fault page found wanted (no_interior has is e null _) =
      let n = inner page has in
      let f = inner-fields kind (page_in bytes page) n.keys n.last n.is in
      let last_is : n.last ≡ 0 = sym f.2 ∙ ap place_of (sym e ∙ null) in
      let c = child n.last (n.below n.last (has_right (map (λ (k : Key × ℕ). k.1) n.keys) (n.last ∷ []) n.last (has_first n.last []))) in
      let low = c.0 in
      omega (arith, low, last_is)
  no_link_fault page found wanted (wrong_left front back e is left want other) = other (left ∙ (leaf_links front page back e).0 ∙ sym want)
  no_link_fault page found wanted (wrong_right front back e is right want other) = other (right ∙ (leaf_links front page back e).1 ∙ sym want)
  no_link_fault page found wanted (no_mark has is e want other) =
      let f = free_at (state_of kind bytes).frees (state_of kind bytes).free w.free page w.tree.holds.built.chain (subst (λ l. Has l page) frees has) in
      other (e ∙ (marked_free (overflow_of (page_in bytes page)) (left_of (page_in bytes page)) f.next f.is).0 ∙ sym want)

  pub no_order : (page index : ℕ) → IsOrderFault kind bytes page index → ⊥
  no_order page index f =
      let b = w.tree.holds.built in
      let same = ap (λ at. entries_only (entries_below (state_of kind bytes).bodies (state_of kind bytes).levels at)) (sym b.root) ∙ entries_are (state_of kind bytes).bodies (state_of kind bytes).levels w.shape b.stands b.deep in
      let up : AscendAll kind (entries_only (entries_met kind bytes)) = subst (AscendAll kind) (sym same) w.tree.holds.ascends in
      f.wrong (before_it kind f.front (page, index, f.entry) f.back f.other f.before (subst (λ l. AscendAll kind (entries_only l)) f.met up))
