-- The pages that the values of rows reach, with those of one row more.
use Rattle.std.proofs.Common.{◌≡◌, ◌≤◌, ◌<◌, ◌+◌, inl, inr, ℕ, pos, negsuc, zero, suc, List, [], ◌∷◌, ◌++◌, length, Bool, true, false, cond, ◌&&◌, ◌==◌, refl, sym, ap, ◌∙◌, subst, arith, append-nil}
use Rattle.std.specs.List.{flat_map}
use Rattle.std.proofs.lemmas.Bool.{eqb-true, eq-eqb}
use Rattle.std.proofs.lemmas.List.Concat.{flat_map-append}
use Rattle.bfs_base.specs.Lists.{times, Has}
use Rattle.bfs_base.specs.declared.kind.KeyKind.{KeyKind}
use Rattle.bfs_node.specs.Page.{Row}
use Rattle.bfs_pages.specs.Answers.{IsChild}
use Rattle.bfs_pages.specs.Trees.{page_in}
use Rattle.bfs_pages.proofs.Splice.{times-append, self}
use Rattle.bfs_values.specs.declared.link.Link.{Link}
use Rattle.bfs_values.specs.declared.link.Link.TheVariants.{Number, Fragment, Chain, Nothing}
use Rattle.bfs_values.specs.Links.{link_in}
use Rattle.bfs_values.specs.Values.{IsFragment, chain_of, HasNumbers, HasValues}
use Rattle.bfs_values.specs.Reached.{is_fragment, times_named, chain_in, chains_in, AllMean}
use Rattle.bfs_values.specs.Rows.{rows_in}
use Rattle.bfs_sound.specs.Owners.{In}
use Rattle.bfs_sound.proofs.Counts.{in_right}
use Rattle.bfs_finding.specs.Walks.{inners_in, leaves_in, frees_in, fragment_in, fragments_in, chain_pages, pages_met}
use Rattle.bfs_finding.specs.TreeFaults.{IsValueFault, not_one, IsLinkFault, met_twice, IsMetTwice}
use Rattle.bfs_tree_check.proofs.Halves.{header_none}
use Rattle.bfs_tree_check.proofs.Joined.{all_join}
use Rattle.bfs_value_walk.specs.Chained.{IsOwn}
use Rattle.bfs_value_walk.specs.Met.{shape_times, chained_by, AreMet}

-- ---- rows joined

names_append : (x f : ℕ) (xs ys : List Row) → times_named x f (xs ++ ys) ≡ times_named x f xs + times_named x f ys
names_append x f [] ys = omega arith
names_append x f (r ∷ rs) ys = let ih = names_append x f rs ys in omega (arith, ih)

chained_append : (b : List ℕ) (xs ys : List Row) → chained_by b (xs ++ ys) ≡ chained_by b xs ++ chained_by b ys
chained_append b xs ys = ap (flat_map (chain_of b)) (flat_map-append (λ (r : Row). chain_in (link_in r.1)) xs ys) ∙ flat_map-append (chain_of b) (chains_in xs) (chains_in ys)

chained_one : (b : List ℕ) (r : Row) (l : Link) → link_in r.1 ≡ l → chained_by b (r ∷ []) ≡ flat_map (chain_of b) (chain_in l)
chained_one b r l e = ap (flat_map (chain_of b)) (append-nil (chain_in (link_in r.1)) ∙ ap chain_in e)

named_one : (x f : ℕ) (r : Row) (l : Link) → link_in r.1 ≡ l → times_named x f (r ∷ []) ≡ cond (is_fragment x f l) 1 0
named_one x f r l e = let s : cond {A = ℕ} (is_fragment x f (link_in r.1)) 1 0 ≡ cond (is_fragment x f l) 1 0 = ap (λ (k : Link). cond {A = ℕ} (is_fragment x f k) 1 0) e in omega (arith, s)

-- a row that names a fragment of a page
in_fragments : (rows : List Row) (r : Row) (at i : ℕ) → In r rows → link_in r.1 ≡ Fragment at i → Has (fragments_in rows) at
in_fragments [] r at i there e = absurd there
in_fragments (s ∷ rows) r at i (inl same) e =
    let one : fragment_in (link_in s.1) ≡ at ∷ [] = ap (λ (t : Row). fragment_in (link_in t.1)) (sym same) ∙ ap fragment_in e in
    let a = times-append at (fragment_in (link_in s.1)) (fragments_in rows) in
    let n : times at (fragment_in (link_in s.1)) ≡ times at (at ∷ []) = ap (times at) one in
    let own : 1 ≤ times at (at ∷ []) = self at [] in
    omega (arith, a, n, own)
in_fragments (s ∷ rows) r at i (inr more) e =
    let a = times-append at (fragment_in (link_in s.1)) (fragments_in rows) in
    let h : 0 < times at (fragments_in rows) = in_fragments rows r at i more e in
    omega (arith, a, h)

pub named_there : (x f : ℕ) (rows : List Row) → 0 < times_named x f rows → Has (fragments_in rows) x
named_there x f [] h = absurd (omega (arith, h))
named_there x f (r ∷ rs) h = by_link (link_in r.1) h (named_there x f rs)
  where
    by_link : (l : Link) → 0 < cond (is_fragment x f l) 1 0 + times_named x f rs → (0 < times_named x f rs → Has (fragments_in rs) x) → Has (fragment_in l ++ fragments_in rs) x
    by_link (Number n) h ih = ih (omega (arith, h))
    by_link (Chain page) h ih = ih (omega (arith, h))
    by_link Nothing h ih = ih (omega (arith, h))
    by_link (Fragment page i) h ih = by_test (page == x) refl h
      where
        by_test : (c : Bool) → (page == x) ≡ c → 0 < cond (c && (i == f)) 1 0 + times_named x f rs → 0 < cond c 1 0 + times x (fragments_in rs)
        by_test true e h = omega arith
        by_test false e h = let k : 0 < times x (fragments_in rs) = ih (omega (arith, h)) in omega (arith, k)

pub row_in_all : (all rows rest : List Row) (r : Row) → all ≡ rows ++ (r ∷ rest) → In r all
row_in_all all rows rest r e = subst (In r) (sym e) (in_right rows (r ∷ rest) r (inl refl))

module _ (kind : KeyKind) (b : List ℕ) (rows : List Row) (r : Row) where
  mean_more : AllMean b rows → HasValues b r.1 → AllMean b (rows ++ r ∷ [])
  mean_more m h = all_join (λ (s : Row). HasValues b s.1) rows (r ∷ []) m (h, tt)

  named_more : (x f : ℕ) (l : Link) → link_in r.1 ≡ l → times_named x f (rows ++ r ∷ []) ≡ times_named x f rows + cond (is_fragment x f l) 1 0
  named_more x f l e = names_append x f rows (r ∷ []) ∙ ap (λ n. times_named x f rows + n) (named_one x f r l e)

  chained_more : (x : ℕ) (l : Link) → link_in r.1 ≡ l → times x (chained_by b (rows ++ r ∷ [])) ≡ times x (chained_by b rows) + times x (flat_map (chain_of b) (chain_in l))
  chained_more x l e =
      ap (times x) (chained_append b rows (r ∷ [])) ∙ times-append x (chained_by b rows) (chained_by b (r ∷ [])) ∙ ap (λ k. times x (chained_by b rows) + times x k) (chained_one b r l e)

  module _ (seen parts : ℕ → ℕ) (names : ℕ → ℕ → ℕ) (m : AreMet kind b rows seen parts names) where
    -- a plain number
    pub number_met : (n : ℕ) → link_in r.1 ≡ Number n → AreMet kind b (rows ++ r ∷ []) seen parts names
    number_met n e = record {
      fragments = m.fragments;
      count = λ x. let c = m.count x in let a : times x (chained_by b (rows ++ r ∷ [])) ≡ times x (chained_by b rows) + 0 = chained_more x (Number n) e in omega (arith, c, a);
      once = m.once;
      are = m.are;
      there = λ x. (λ h. let g = (m.there x).0 h in (g.0, some x g.0 g.1), λ g. (m.there x).1 (g.0, less x g.0 g.1));
      each = λ x f. let a : times_named x f (rows ++ r ∷ []) ≡ times_named x f rows + 0 = named_more x f (Number n) e in let d = m.each x f in omega (arith, a, d);
      mean = mean_more m.mean (subst (HasNumbers b) (sym e) tt);
    }
      where
        some : (x f : ℕ) → 0 < times_named x f rows → 0 < times_named x f (rows ++ r ∷ [])
        some x f h = let a : times_named x f (rows ++ r ∷ []) ≡ times_named x f rows + 0 = named_more x f (Number n) e in omega (arith, a, h)

        less : (x f : ℕ) → 0 < times_named x f (rows ++ r ∷ []) → 0 < times_named x f rows
        less x f h = let a : times_named x f (rows ++ r ∷ []) ≡ times_named x f rows + 0 = named_more x f (Number n) e in omega (arith, a, h)

    -- a chain whose pages were met
    pub chain_met : (first : ℕ) (now : ℕ → ℕ) → link_in r.1 ≡ Chain first → HasNumbers b (Chain first) → ((x : ℕ) → now x ≡ seen x + times x (chain_of b first)) → AreMet kind b (rows ++ r ∷ []) now parts names
    chain_met first now e means more = record {
      fragments = m.fragments;
      count = λ x. counts x (m.count x) (more x);
      once = m.once;
      are = m.are;
      there = λ x. (λ h. let g = (m.there x).0 h in (g.0, some x g.0 g.1), λ g. (m.there x).1 (g.0, less x g.0 g.1));
      each = λ x f. let a : times_named x f (rows ++ r ∷ []) ≡ times_named x f rows + 0 = named_more x f (Chain first) e in let d = m.each x f in omega (arith, a, d);
      mean = mean_more m.mean (subst (HasNumbers b) (sym e) means);
    }
      where
        some : (x f : ℕ) → 0 < times_named x f rows → 0 < times_named x f (rows ++ r ∷ [])
        some x f h = let a : times_named x f (rows ++ r ∷ []) ≡ times_named x f rows + 0 = named_more x f (Chain first) e in omega (arith, a, h)

        less : (x f : ℕ) → 0 < times_named x f (rows ++ r ∷ []) → 0 < times_named x f rows
        less x f h = let a : times_named x f (rows ++ r ∷ []) ≡ times_named x f rows + 0 = named_more x f (Chain first) e in omega (arith, a, h)

        counts : (x : ℕ) → shape_times kind b x + (times x (chained_by b rows) + times x m.fragments) ≡ seen x → now x ≡ seen x + times x (chain_of b first)
            → shape_times kind b x + (times x (chained_by b (rows ++ r ∷ [])) + times x m.fragments) ≡ now x
        counts x c n =
            let a : times x (chained_by b (rows ++ r ∷ [])) ≡ times x (chained_by b rows) + times x (chain_of b first ++ []) = chained_more x (Chain first) e in
            let d = times-append x (chain_of b first) [] in
            omega (arith, c, n, a, d)

    -- a fragment of a page of which one was named, or none
    module _ (at i : ℕ) (e : link_in r.1 ≡ Fragment at i) (means : HasNumbers b (Fragment at i)) (now parts' : ℕ → ℕ) (names' : ℕ → ℕ → ℕ)
        (parts_are : (x : ℕ) → parts' x ≡ cond (at == x) 1 (parts x)) (names_are : (x f : ℕ) → names' x f ≡ names x f + cond ((at == x) && (i == f)) 1 0) where
      named_now : (x f : ℕ) → times_named x f (rows ++ r ∷ []) ≡ times_named x f rows + cond ((at == x) && (i == f)) 1 0
      named_now x f = named_more x f (Fragment at i) e

      each_now : (x f : ℕ) → times_named x f (rows ++ r ∷ []) ≡ names' x f
      each_now x f = let a = named_now x f in let d = m.each x f in let n = names_are x f in omega (arith, a, d, n)

      chained_now : (x : ℕ) → times x (chained_by b (rows ++ r ∷ [])) ≡ times x (chained_by b rows)
      chained_now x = let a : times x (chained_by b (rows ++ r ∷ [])) ≡ times x (chained_by b rows) + 0 = chained_more x (Fragment at i) e in omega (arith, a)

      some_now : (x f : ℕ) → 0 < times_named x f rows → 0 < times_named x f (rows ++ r ∷ [])
      some_now x f h = let a = named_now x f in omega (arith, a, h)

      mine_now : 0 < times_named at i (rows ++ r ∷ [])
      mine_now =
          let a = named_now at i in
          let t : cond {A = ℕ} ((at == at) && (i == i)) 1 0 ≡ 1 = ap (λ c. cond {A = ℕ} (c && (i == i)) 1 0) (eq-eqb at at refl) ∙ ap (λ c. cond {A = ℕ} c 1 0) (eq-eqb i i refl) in
          omega (arith, a, t)

      -- another page is named as before
      other_now : (x f : ℕ) → (at == x) ≡ false → 0 < times_named x f (rows ++ r ∷ []) → 0 < times_named x f rows
      other_now x f off h =
          let a = named_now x f in
          let t : cond {A = ℕ} ((at == x) && (i == f)) 1 0 ≡ 0 = ap (λ c. cond {A = ℕ} (c && (i == f)) 1 0) off in
          omega (arith, a, t, h)

      pub known_met : parts at ≡ 1 → ((x : ℕ) → now x ≡ seen x) → AreMet kind b (rows ++ r ∷ []) now parts' names'
      known_met one same = record {
        fragments = m.fragments;
        count = λ x. let c = m.count x in let n = same x in let a = chained_now x in omega (arith, c, n, a);
        once = m.once;
        are = λ x. are_by x (at == x) refl;
        there = λ x. (λ h. let g = (m.there x).0 h in (g.0, some_now x g.0 g.1), λ g. there_by x g.0 g.1 (at == x) refl);
        each = each_now;
        mean = mean_more m.mean (subst (HasNumbers b) (sym e) means);
      }
        where
          own : times at m.fragments ≡ 1
          own = m.are at ∙ one

          are_by : (x : ℕ) (c : Bool) → (at == x) ≡ c → times x m.fragments ≡ parts' x
          are_by x true t = subst (λ y. times y m.fragments ≡ 1) (eqb-true at x t) own ∙ sym (parts_are x ∙ ap (λ c. cond c 1 (parts x)) t)
          are_by x false t = m.are x ∙ sym (parts_are x ∙ ap (λ c. cond c 1 (parts x)) t)

          there_by : (x f : ℕ) → 0 < times_named x f (rows ++ r ∷ []) → (c : Bool) → (at == x) ≡ c → Has m.fragments x
          there_by x f h true t = subst (λ y. Has m.fragments y) (eqb-true at x t) (let o = own in omega (arith, o))
          there_by x f h false t = (m.there x).1 (f, other_now x f t h)

      pub new_met : parts at ≡ 0 → ((x : ℕ) → now x ≡ seen x + times x (at ∷ [])) → AreMet kind b (rows ++ r ∷ []) now parts' names'
      new_met none more = record {
        fragments = at ∷ m.fragments;
        count = λ x. counts x (m.count x) (more x) (chained_now x);
        once = λ x. once_by x (at == x) refl;
        are = λ x. are_by x (at == x) refl;
        there = λ x. (λ h. has_by x h (at == x) refl, λ g. there_by x g.0 g.1 (at == x) refl);
        each = each_now;
        mean = mean_more m.mean (subst (HasNumbers b) (sym e) means);
      }
        where
          own : times at m.fragments ≡ 0
          own = m.are at ∙ none

          counts : (x : ℕ) → shape_times kind b x + (times x (chained_by b rows) + times x m.fragments) ≡ seen x → now x ≡ seen x + times x (at ∷ []) → times x (chained_by b (rows ++ r ∷ [])) ≡ times x (chained_by b rows)
              → shape_times kind b x + (times x (chained_by b (rows ++ r ∷ [])) + times x (at ∷ m.fragments)) ≡ now x
          counts x c n a = let d = times-append x (at ∷ []) m.fragments in omega (arith, c, n, a, d)

          once_by : (x : ℕ) (c : Bool) → (at == x) ≡ c → cond {A = ℕ} c 1 0 + times x m.fragments ≤ 1
          once_by x true t = let z : times x m.fragments ≡ 0 = subst (λ y. times y m.fragments ≡ 0) (eqb-true at x t) own in omega (arith, z)
          once_by x false t = let o : times x m.fragments ≤ 1 = m.once x in omega (arith, o)

          are_by : (x : ℕ) (c : Bool) → (at == x) ≡ c → cond {A = ℕ} c 1 0 + times x m.fragments ≡ parts' x
          are_by x true t =
              let z : times x m.fragments ≡ 0 = subst (λ y. times y m.fragments ≡ 0) (eqb-true at x t) own in
              let p : parts' x ≡ 1 = parts_are x ∙ ap (λ c. cond c 1 (parts x)) t in
              omega (arith, z, p)
          are_by x false t =
              let z = m.are x in
              let p : parts' x ≡ parts x = parts_are x ∙ ap (λ c. cond c 1 (parts x)) t in
              omega (arith, z, p)

          has_by : (x : ℕ) → Has (at ∷ m.fragments) x → (c : Bool) → (at == x) ≡ c → (f : ℕ) × (0 < times_named x f (rows ++ r ∷ []))
          has_by x h true t = (i, subst (λ y. 0 < times_named y i (rows ++ r ∷ [])) (eqb-true at x t) mine_now)
          has_by x h false t =
              let k : times x (at ∷ m.fragments) ≡ 0 + times x m.fragments = ap (λ c. cond {A = ℕ} c 1 0 + times x m.fragments) t in
              let g = (m.there x).0 (omega (arith, h, k)) in
              (g.0, some_now x g.0 g.1)

          there_by : (x f : ℕ) → 0 < times_named x f (rows ++ r ∷ []) → (c : Bool) → (at == x) ≡ c → Has (at ∷ m.fragments) x
          there_by x f h true t = subst (λ y. Has (at ∷ m.fragments) y) (eqb-true at x t) (self at m.fragments)
          there_by x f h false t = let g : 0 < times x m.fragments = (m.there x).1 (f, other_now x f t h) in let a = times-append x (at ∷ []) m.fragments in omega (arith, g, a)

    -- ---- what is wrong

    module _ (rest : List Row) (split : rows_in kind b ≡ rows ++ (r ∷ rest)) where
      row_there : In r (rows_in kind b)
      row_there = row_in_all (rows_in kind b) rows rest r split

      -- a fragment that a row names was named before
      pub named_twice : (at i : ℕ) → link_in r.1 ≡ Fragment at i → IsFragment (page_in b at) i → names at i ≡ 1 → IsValueFault kind b at
      named_twice at i e good one =
          not_one i (in_fragments (rows_in kind b) r at i row_there e) good.inside (let s = good.some in omega (arith, s)) (λ t. twice t)
        where
          both : times_named at i (rows_in kind b) ≡ times_named at i rows + (times_named at i (r ∷ []) + times_named at i rest)
          both = ap (times_named at i) split ∙ names_append at i rows (r ∷ rest) ∙ ap (λ n. times_named at i rows + n) (names_append at i (r ∷ []) rest)

          mine : times_named at i (r ∷ []) ≡ 1
          mine = named_one at i r (Fragment at i) e ∙ ap (λ c. cond {A = ℕ} (c && (i == i)) 1 0) (eq-eqb at at refl) ∙ ap (λ c. cond {A = ℕ} c 1 0) (eq-eqb i i refl)

          twice : times_named at i (rows_in kind b) ≡ 1 → ⊥
          twice t = let d = both in let o = mine in let f : times_named at i rows ≡ 1 = m.each at i ∙ one in omega (arith, d, o, f, t)

      -- its page is of the tree's shape, or in a chain
      pub part_twice : (at i : ℕ) → link_in r.1 ≡ Fragment at i → IsChild (length b) at → parts at ≡ 0 → seen at ≡ 1 → IsLinkFault kind b at (pos at) (negsuc 0)
      part_twice at i e child none one =
          let c = m.count at in
          let z : times at m.fragments ≡ 0 = m.are at ∙ none in
          let h = header_none at child.0 in
          let p : times at (chain_pages kind b) ≡ times at (chained_by b rows) + times at (chained_by b (r ∷ rest)) = ap (λ (l : List Row). times at (chained_by b l)) split ∙ ap (times at) (chained_append b rows (r ∷ rest)) ∙ times-append at (chained_by b rows) (chained_by b (r ∷ rest)) in
          let i1 = times-append at (inners_in kind b) (leaves_in kind b ++ (frees_in kind b ++ chain_pages kind b)) in
          let l1 = times-append at (leaves_in kind b) (frees_in kind b ++ chain_pages kind b) in
          let f1 = times-append at (frees_in kind b) (chain_pages kind b) in
          let has : 0 < times at (pages_met kind b) = omega (arith, c, z, h, p, i1, l1, f1, one) in
          met_twice child (inr (in_fragments (rows_in kind b) r at i row_there e, has)) refl refl

      -- the pages of a chain that a row names
      pub own_chain : (first : ℕ) → link_in r.1 ≡ Chain first → IsOwn kind b first seen
      own_chain first e = record {
        pages = λ x h. let p = pages_are x in omega (arith, p, h);
        twice = λ x low two. twice x low two (times x m.fragments) refl;
      }
        where
          pages_are : (x : ℕ) → times x (chain_pages kind b) ≡ times x (chained_by b rows) + (times x (chain_of b first) + times x (chained_by b rest))
          pages_are x =
              let a = ap (λ (l : List Row). times x (chained_by b l)) split in
              let c = ap (times x) (chained_append b rows (r ∷ rest)) ∙ times-append x (chained_by b rows) (chained_by b (r ∷ rest)) in
              let d = ap (times x) (chained_append b (r ∷ []) rest) ∙ times-append x (chained_by b (r ∷ [])) (chained_by b rest) in
              let o : times x (chained_by b (r ∷ [])) ≡ times x (chain_of b first ++ []) = ap (times x) (chained_one b r (Chain first) e) in
              let n = times-append x (chain_of b first) [] in
              omega (arith, a, c, d, o, n)

          twice : (x : ℕ) → 1 ≤ x → 2 ≤ seen x + times x (chain_of b first) → (n : ℕ) → times x m.fragments ≡ n → IsMetTwice kind b x
          twice x low two zero z =
              let c = m.count x in
              let h = header_none x low in
              let p = pages_are x in
              let i1 = times-append x (inners_in kind b) (leaves_in kind b ++ (frees_in kind b ++ chain_pages kind b)) in
              let l1 = times-append x (leaves_in kind b) (frees_in kind b ++ chain_pages kind b) in
              let f1 = times-append x (frees_in kind b) (chain_pages kind b) in
              let all : 2 ≤ times x (pages_met kind b) = omega (arith, c, z, h, p, i1, l1, f1, two) in
              inl all
          twice x low two (suc n) s =
              let c = m.count x in
              let h = header_none x low in
              let p = pages_are x in
              let i1 = times-append x (inners_in kind b) (leaves_in kind b ++ (frees_in kind b ++ chain_pages kind b)) in
              let l1 = times-append x (leaves_in kind b) (frees_in kind b ++ chain_pages kind b) in
              let f1 = times-append x (frees_in kind b) (chain_pages kind b) in
              let most : times x m.fragments ≤ 1 = m.once x in
              let has : 0 < times x (pages_met kind b) = omega (arith, c, s, h, p, i1, l1, f1, two, most) in
              let g = (m.there x).0 (let q = s in omega (arith, q)) in
              let f : 0 < times_named x g.0 (rows_in kind b) =
              let w = ap (times_named x g.0) split ∙ names_append x g.0 rows (r ∷ rest) in let some = g.1 in omega (arith, w, some) in
              inr (named_there x g.0 (rows_in kind b) f, has)
