-- What is wrong with a value, or with what it names.
use Rattle.std.proofs.Common.{◌≡◌, ◌≤◌, ◌<◌, inl, inr, ℕ, ℤ, List, [], ◌∷◌, length, refl, sym, ap, ◌∙◌, subst, arith}
use Rattle.bfs_base.specs.Lists.{times, Has, IsOnce}
use Rattle.bfs_base.specs.declared.kind.KeyKind.{KeyKind}
use Rattle.bfs_node.specs.Page.{Row}
use Rattle.bfs_pages.specs.Answers.{IsChild}
use Rattle.bfs_pages.specs.Trees.{page_in}
use Rattle.bfs_pages.proofs.Splice.{times-append, self}
use Rattle.bfs_values.specs.declared.link.Link.TheVariants.{Fragment, Chain, Nothing}
use Rattle.bfs_values.specs.Links.{link_in}
use Rattle.bfs_values.specs.Values.{IsFragment, chain_of, numbers_of_pages}
use Rattle.bfs_values.specs.Reached.{chain_in, chains_in, Ends}
use Rattle.bfs_values.specs.Rows.{rows_in}
use Rattle.bfs_sound.specs.Owners.{In}
use Rattle.bfs_finding.specs.declared.finding.PagePart.TheVariants as parts
use Rattle.bfs_finding.specs.TreeFaults.{IsLeafRow, IsPageFault, of_value, no_link, no_fragment, twice_there, no_page, to_fragment, to_chain, wanted_link}
use Rattle.bfs_walk.specs.declared.fault.TreeWrong.{TreeWrong}
use Rattle.bfs_walk.specs.declared.fault.TreeWrong.TheVariants.{Link}
use Rattle.bfs_walk.specs.Wrong.{IsWrongTree}

-- a row that names a chain
in_chains : (rows : List Row) (r : Row) (first : ℕ) → In r rows → link_in r.1 ≡ Chain first → Has (chains_in rows) first
in_chains [] r first there e = absurd there
in_chains (s ∷ rows) r first (inl same) e =
    let one : chain_in (link_in s.1) ≡ first ∷ [] = ap (λ (t : Row). chain_in (link_in t.1)) (sym same) ∙ ap chain_in e in
    let a = times-append first (chain_in (link_in s.1)) (chains_in rows) in
    let n : times first (chain_in (link_in s.1)) ≡ times first (first ∷ []) = ap (times first) one in
    let own : 1 ≤ times first (first ∷ []) = self first [] in
    omega (arith, a, n, own)
in_chains (s ∷ rows) r first (inr more) e =
    let a = times-append first (chain_in (link_in s.1)) (chains_in rows) in
    let h : 0 < times first (chains_in rows) = in_chains rows r first more e in
    omega (arith, a, h)

module _ (kind : KeyKind) (b : List ℕ) where
  pub nothing_wrong : (leaf : ℕ) (r : Row) → IsLeafRow kind b leaf r → link_in r.1 ≡ Nothing → IsPageFault kind b leaf parts.Content
  nothing_wrong leaf r row e = of_value (no_link r row e) refl

  pub fragment_wrong : (at i size : ℕ) (page : List ℕ) (r : Row) → IsChild size at → length b ≡ size → page ≡ page_in b at → In r (rows_in kind b) → link_in r.1 ≡ Fragment at i → ¬ IsFragment page i → IsPageFault kind b at parts.Content
  fragment_wrong at i size page r child long is there e other =
      of_value (no_fragment i r there e (subst (λ n. IsChild n at) (sym long) child) (λ f. other (subst (λ (p : List ℕ). IsFragment p i) (sym is) f))) refl

  pub chain_wrong : (first : ℕ) (r : Row) → IsChild (length b) first → In r (rows_in kind b) → link_in r.1 ≡ Chain first → Ends b first → ¬ IsOnce (numbers_of_pages b (chain_of b first)) → IsPageFault kind b first parts.Content
  chain_wrong first r child there e ends twice = of_value (twice_there (in_chains (rows_in kind b) r first there e) child ends twice) refl

  module _ (leaf size page : ℕ) (key : List ℕ) (value : ℤ) (row : IsLeafRow kind b leaf (key, value)) (long : length b ≡ size) (wrong : TreeWrong) (w : (wrong ≡ Link leaf value (wanted_link value)) × ¬ IsChild size page) where
    off : ¬ IsChild (length b) page
    off c = w.1 (subst (λ n. IsChild n page) long c)

    pub fragment_link_wrong : (i : ℕ) → link_in value ≡ Fragment page i → IsWrongTree kind b wrong
    fragment_link_wrong i e = subst (IsWrongTree kind b) (sym w.0) (no_page page (to_fragment key i row e) off refl)

    pub chain_link_wrong : link_in value ≡ Chain page → IsWrongTree kind b wrong
    chain_link_wrong e = subst (IsWrongTree kind b) (sym w.0) (no_page page (to_chain key row e) off refl)
