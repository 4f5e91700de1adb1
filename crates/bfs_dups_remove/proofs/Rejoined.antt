-- The neighbours of the pages of a chain from which numbers or pages went.
use Rattle.std.proofs.Common.{◌≡◌, ◌≢◌, ◌⊎◌, ◌≤◌, ◌<◌, ◌+◌, ◌%◌, ◌^◌, ℕ, ℤ, List, [], ◌∷◌, ◌++◌, length, cond, inl, inr, ap, sym, ◌∙◌, subst, arith}
use Rattle.bfs_base.specs.Lists.{times}
use Rattle.bfs_base.specs.declared.kind.KeyKind.{KeyKind}
use Rattle.bfs_node.specs.Page.{Row}
use Rattle.bfs_pages.specs.Order.{Key}
use Rattle.bfs_pages.specs.Shapes.{Shape}
use Rattle.bfs_pages.specs.Trees.{page_in, neighbours_in, Linked}
use Rattle.bfs_pages.proofs.Laws.{same-links}
use Rattle.bfs_pages.proofs.Splice.{self}
use Rattle.bfs_values.specs.declared.link.Link.TheVariants.{Chain}
use Rattle.bfs_values.specs.Links.{link_in}
use Rattle.bfs_values.specs.Values.{next_of, chain_of, HasNumbers}
use Rattle.bfs_values.specs.Chained.{Chained, IsLinked}
use Rattle.bfs_values.specs.Stored.{Stored}
use Rattle.bfs_values.proofs.Beside.{both-sides, pair-of, links_in, chain-small, Closer, linked-past}
use Rattle.bfs_values.proofs.Chaining.{chain-is}
use Rattle.bfs_dups.proofs.Answered.{linked-numbers}
use Rattle.bfs_dups.proofs.Composed.{first-small}
use Rattle.bfs_dups.proofs.Slotted.{decide, eq_no}
use Rattle.bfs_dups_remove.specs.Shortened.{IsRenumbered}
use Rattle.bfs_dups_remove.proofs.Lesser.{stored-row, chain-there, tail-chain}
use Rattle.bfs_dups_remove.proofs.Passed.{IsPast, chained-same, not-equal}
use Rattle.bfs_dups_remove.proofs.Righted.{page-here}

first : (x y : ℕ) (ys : List ℕ) → times x (y ∷ ys) ≡ times x (y ∷ []) + times x ys
first x y ys = omega arith

-- a page whose numbers changed, and its neighbours not
pub renumbered-linked : (kind : KeyKind) (b c : List ℕ) (t : Shape) (front : List Row) (key : Key) (back : List Row) (value : ℤ) (p at : ℕ) (ns : List ℕ) → Stored kind b t (front ++ ((key, value) ∷ back)) → link_in value ≡ Chain p → length b % 1024 ≡ 0 → (f : IsRenumbered b c at ns)
    → (neighbours_in f.page).0 ≡ (neighbours_in (page_in b at)).0 → IsLinked b (Chain p) → IsLinked c (Chain p)
renumbered-linked kind b c t front key back value p at ns s link wb f left k =
    let h = linked-numbers b value (Chain p) link (stored-row kind b t front key back value s) in
    let same : (x : ℕ) → links_in c x ≡ links_in b x = λ x. by_page x (decide x at) in
    let there : Chained c p (chain_of b p) = chained-same b c p (chain_of b p) (omega (arith, f.set.size)) (λ x i. ap (λ (w : ℕ × ℕ). w.1) (same x)) (chain-there b p wb h) in
    let is : chain_of c p ≡ chain_of b p = chain-is c p (chain_of b p) (ap (λ n. n % 1024) f.set.size ∙ wb) h.0.0 there in
    subst (λ z. Linked (links_in c) 0 z 0) (sym is) (same-links (links_in b) (links_in c) 0 (chain_of b p) 0 (λ x i. same x) k)
  where
    by_page : (x : ℕ) → (x ≡ at) ⊎ (x ≢ at) → links_in c x ≡ links_in b x
    by_page x (inl e) = ap (links_in c) e ∙ ap neighbours_in (page-here b c at f.page f.set) ∙ both-sides (page_in b at) f.page left f.next ∙ ap (links_in b) (sym e)
    by_page x (inr n) = ap neighbours_in (off x n)
      where
        off : (x : ℕ) → x ≢ at → page_in c x ≡ page_in b x
        off x n = f.set.pages x ∙ ap (λ t. cond t f.page (page_in b x)) (eq_no x at n)

-- a page is passed by, and there is none behind it
pub past-last : (b c : List ℕ) (p q s : ℕ) (us xs : List ℕ) → length c % 1024 ≡ 0 → 1 ≤ p → chain_of b p ≡ us ++ (q ∷ (s ∷ xs)) → Chained b p (us ++ (q ∷ (s ∷ xs))) → IsPast b c p q s us xs → (neighbours_in (page_in c q)).0 ≡ (neighbours_in (page_in b q)).0 → next_of b s ≡ 0
    → IsLinked b (Chain p) → IsLinked c (Chain p)
past-last b c p q s us xs wc some is ch f left end k =
    subst (λ z. Linked (links_in c) 0 z 0) (sym (chain-is c p (us ++ (q ∷ xs)) wc some f.chain))
    (linked-past (links_in b) (links_in c) 0 us q s xs (λ x i. ap neighbours_in (f.before x i)) (pair-of (page_in c q) (links_in b q).0 (links_in b s).1 left f.next) (close xs (tail-chain b p us q (s ∷ xs) ch).2) (subst (λ z. Linked (links_in b) 0 z 0) is k))
  where
    close : (xs : List ℕ) → Chained b (next_of b s) xs → Closer (links_in b) (links_in c) q xs
    close [] c = tt
    close (y ∷ ys) c = absurd (omega (arith, c.1.0, sym c.0 ∙ end))

-- a page is passed by, and the left link of the one behind it is written
pub past-mended : (b m c : List ℕ) (p q s next : ℕ) (us xs ns : List ℕ) → length c % 1024 ≡ 0 → 1 ≤ p → chain_of b p ≡ us ++ (q ∷ (s ∷ xs)) → Chained b p (us ++ (q ∷ (s ∷ xs))) → IsPast b m p q s us xs → (neighbours_in (page_in m q)).0 ≡ (neighbours_in (page_in b q)).0
    → next ≡ next_of b s → next ≢ 0 → IsRenumbered m c next ns → (neighbours_in (page_in c next)).0 ≡ q → IsLinked b (Chain p) → IsLinked c (Chain p)
past-mended b m c p q s next us xs ns wc some is ch f left e n g mended k = by_pages xs f (tail-chain b p us q (s ∷ xs) ch).2 (subst (λ z. Linked (links_in b) 0 z 0) is k)
  where
    off : (x : ℕ) → x ≢ next → page_in c x ≡ page_in m x
    off x n = g.set.pages x ∙ ap (λ t. cond t g.page (page_in m x)) (eq_no x next n)

    here : next_of c next ≡ next_of m next
    here = ap (λ z. (neighbours_in z).1) (page-here m c next g.page g.set) ∙ g.next

    goes_on : (x : ℕ) → (x ≡ next) ⊎ (x ≢ next) → next_of c x ≡ next_of m x
    goes_on x (inl e) = ap (next_of c) e ∙ here ∙ ap (next_of m) (sym e)
    goes_on x (inr n) = ap (λ z. (neighbours_in z).1) (off x n)

    by_pages : (xs : List ℕ) → IsPast b m p q s us xs → Chained b (next_of b s) xs → Linked (links_in b) 0 (us ++ (q ∷ (s ∷ xs))) 0 → IsLinked c (Chain p)
    by_pages [] f d l = absurd (n (e ∙ d))
    by_pages (y ∷ ys) f d l =
        let at : next ≡ y = e ∙ d.0 in
        let one : 1 ≤ times next (y ∷ []) = subst (λ z. 1 ≤ times next (z ∷ [])) at (self next []) in
        let off_us : (x : ℕ) → 1 ≤ times x us → x ≢ next = λ x i. not-equal x next us i (omega (arith, f.once next, one, first next y ys)) in
        let off_q : q ≢ next = not-equal q next (q ∷ []) (self q []) (omega (arith, f.once next, one, first next y ys)) in
        let off_ys : (x : ℕ) → 1 ≤ times x ys → x ≢ next = λ x i. not-equal x next ys i (omega (arith, f.once next, one, first next y ys)) in
        let there : Chained c p (us ++ (q ∷ (y ∷ ys))) = chained-same m c p (us ++ (q ∷ (y ∷ ys))) (omega (arith, g.set.size)) (λ x i. goes_on x (decide x next)) f.chain in
        let behind : next_of c next ≡ next_of b next = here ∙ ap (λ z. (neighbours_in z).1) (f.behind next (omega (arith, one, first next y ys))) in
        let head : links_in c y ≡ (q, (links_in b y).1) = ap (links_in c) (sym at) ∙ pair-of (page_in c next) q (links_in b next).1 mended behind ∙ ap (λ z. (q, (links_in b z).1)) at in
        let close : Closer (links_in b) (links_in c) q (y ∷ ys) = (head, λ x i. ap neighbours_in (off x (off_ys x i) ∙ f.behind x (omega (arith, i, first x y ys)))) in
        subst (λ z. Linked (links_in c) 0 z 0) (sym (chain-is c p (us ++ (q ∷ (y ∷ ys))) wc some there))
        (linked-past (links_in b) (links_in c) 0 us q s (y ∷ ys) (λ x i. ap neighbours_in (off x (off_us x i) ∙ f.before x i))
        (pair-of (page_in c q) (links_in b q).0 (links_in b s).1 (ap (λ z. (neighbours_in z).0) (off q off_q) ∙ left) (ap (λ z. (neighbours_in z).1) (off q off_q) ∙ f.next)) close l)

-- a page of a chain that was located is a small number
pub page-small : (b : List ℕ) (value : ℤ) (p x : ℕ) → link_in value ≡ Chain p → length b % 1024 ≡ 0 → HasNumbers b (Chain p) → 1 ≤ times x (chain_of b p) → x < 2 ^ 63
page-small b value p x link w h i = chain-small b p x (chain_of b p) (first-small value p link) (chain-there b p w h) i
