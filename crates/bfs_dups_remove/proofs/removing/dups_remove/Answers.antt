use Rattle.std.proofs.Common.{◌≡◌, ◌⊎◌, ◌≤◌, ◌∷◌, ◌++◌, ℕ, ℤ, Some, IfSome, length, ap, sym, ◌∙◌, subst, rules, w64, to_z, of_z, List}
use Rattle.bfs_base.specs.Lists.{times}
use Rattle.bfs_pages.specs.Answers.{IsChild}
use Rattle.bfs_pages.specs.Shapes.{tree_rows}
use Rattle.bfs_pages.proofs.Reading.{not_true}
use Rattle.bfs_remove.proofs.Giving.{told-size}
use Rattle.bfs_values.specs.Kinds.{IsValueOf}
use Rattle.bfs_values.specs.declared.link.Link.TheVariants.{Number, Fragment, Chain, Nothing}
use Rattle.bfs_values.specs.Links.{link_in}
use Rattle.bfs_values.specs.Values.{numbers_in, values_in}
use Rattle.bfs_values.specs.Formed.{IsFormed}
use Rattle.bfs_values.specs.Named.{IsNamedIn, IsCrowded}
use Rattle.bfs_values.specs.Stored.{Stored}
use Rattle.bfs_dups.proofs.Answered.{linked-open, leaf-cut, pair-new}
use Rattle.bfs_dups.proofs.Composed.{told-whole, link-small, page-of, told-some, some-both}
use Rattle.bfs_dups_remove.specs.Lessened.{without_number, IsLessened}
use Rattle.bfs_dups_remove.proofs.Forms.{never-there}
use Rattle.bfs_dups_remove.proofs.Plucked.{untouched, plain-gone}
use Rattle.bfs_values.specs.Chained.{IsLinked}
use Rattle.bfs_dups_remove.proofs.removing.dups_remove.Goals as goal

pub returns-then-old-number-clause-removed : goal.returns-then-old-number-clause-removed
returns-then-old-number-clause-removed g c b t front back key e s rows leaf =
    let signed : to_z w64 (of_z w64 c.args.value) ≡ c.args.value = search rules in
    (b, e, plain-gone c.args.kind b t front key back c.args.value c.in-Number.old c.args.number s (ap link_in (sym signed) ∙ sym c.in-Number.ensures) c.if-old-number.true)

pub returns-then-not-is_child-clause-removed : goal.returns-then-not-is_child-clause-removed
returns-then-not-is_child-clause-removed g c b t front back key e s rows leaf =
    let signed : to_z w64 (of_z w64 c.args.value) ≡ c.args.value = search rules in
    let o = linked-open c.args.kind b t front key back c.args.value (Fragment c.in-Fragment.page c.in-Fragment.index) s (ap link_in (sym signed) ∙ sym c.in-Fragment.ensures) in
    let size : length b ≡ g.P.Pages.size c.args.pages.now = told-size (g.P.Pages.told c.args.pages.now) (g.P.Pages.size c.args.pages.now) b (g.met.P.Pages.sized c.args.pages.now) e in
    not_true c.is_child.result (c.is_child.ensures.1 (subst (λ (n : ℕ). IsChild n c.in-Fragment.page) (size ∙ sym c.length.ensures) o.mine.0)) c.if-not-is_child.true

pub returns-then-not-is_child-clause-refused : goal.returns-then-not-is_child-clause-refused
returns-then-not-is_child-clause-refused g c v =
    let signed : to_z w64 (of_z w64 c.args.value) ≡ c.args.value = search rules in
    leaf-cut c.args.kind (g.P.Pages.told c.args.pages.now) c.args.leaf c.args.value (Fragment c.in-Fragment.page c.in-Fragment.index) v (ap link_in (sym signed) ∙ sym c.in-Fragment.ensures)
    (λ b e h.
    let size : length b ≡ g.P.Pages.size c.args.pages.now = told-size (g.P.Pages.told c.args.pages.now) (g.P.Pages.size c.args.pages.now) b (g.met.P.Pages.sized c.args.pages.now) e in
    not_true c.is_child.result (c.is_child.ensures.1 (subst (λ (n : ℕ). IsChild n c.in-Fragment.page) (size ∙ sym c.length.ensures) h)) c.if-not-is_child.true)

pub returns-in-Ok-clause-removed : goal.returns-in-Ok-clause-removed
returns-in-Ok-clause-removed g c b t front back key e s rows leaf =
    let signed : to_z w64 (of_z w64 c.args.value) ≡ c.args.value = search rules in
    let x = c.in-Ok.ensures.removed b t front back key e (subst (λ (v : ℤ). Stored c.args.kind b t (front ++ ((key, v) ∷ back))) (sym signed) s) in
    (x.0, x.1, subst (λ (v : ℤ). IsLessened c.args.kind b x.0 t front key back (without_number c.args.number (values_in b v)) c.in-Ok.new) signed x.2)

pub returns-in-Err-clause-removed : goal.returns-in-Err-clause-removed
returns-in-Err-clause-removed g c b t front back key e s rows leaf =
    let signed : to_z w64 (of_z w64 c.args.value) ≡ c.args.value = search rules in
    c.in-Err.ensures.removed b t front back key e (subst (λ (v : ℤ). Stored c.args.kind b t (front ++ ((key, v) ∷ back))) (sym signed) s)

pub returns-in-Err-clause-refused : goal.returns-in-Err-clause-refused
returns-in-Err-clause-refused g c v =
    let signed : to_z w64 (of_z w64 c.args.value) ≡ c.args.value = search rules in
    c.in-Err.ensures.refused c.args.leaf (subst (λ (z : ℤ). IfSome (g.P.Pages.told c.args.pages.now) (λ b. IsValueOf c.args.kind b c.args.leaf z)) (sym signed) v)

pub returns-then-not-is_child-2-clause-removed : goal.returns-then-not-is_child-2-clause-removed
returns-then-not-is_child-2-clause-removed g c b t front back key e s rows leaf =
    let signed : to_z w64 (of_z w64 c.args.value) ≡ c.args.value = search rules in
    let o = linked-open c.args.kind b t front key back c.args.value (Chain c.in-Chain.page) s (ap link_in (sym signed) ∙ sym c.in-Chain.ensures) in
    let size : length b ≡ g.P.Pages.size c.args.pages.now = told-size (g.P.Pages.told c.args.pages.now) (g.P.Pages.size c.args.pages.now) b (g.met.P.Pages.sized c.args.pages.now) e in
    not_true c.is_child-in-Chain.result (c.is_child-in-Chain.ensures.1 (subst (λ (n : ℕ). IsChild n c.in-Chain.page) (size ∙ sym c.length-in-Chain.ensures) o.mine.0)) c.if-not-is_child-2.true

pub returns-then-not-is_child-2-clause-refused : goal.returns-then-not-is_child-2-clause-refused
returns-then-not-is_child-2-clause-refused g c v =
    let signed : to_z w64 (of_z w64 c.args.value) ≡ c.args.value = search rules in
    leaf-cut c.args.kind (g.P.Pages.told c.args.pages.now) c.args.leaf c.args.value (Chain c.in-Chain.page) v (ap link_in (sym signed) ∙ sym c.in-Chain.ensures)
    (λ b e h.
    let size : length b ≡ g.P.Pages.size c.args.pages.now = told-size (g.P.Pages.told c.args.pages.now) (g.P.Pages.size c.args.pages.now) b (g.met.P.Pages.sized c.args.pages.now) e in
    not_true c.is_child-in-Chain.result (c.is_child-in-Chain.ensures.1 (subst (λ (n : ℕ). IsChild n c.in-Chain.page) (size ∙ sym c.length-in-Chain.ensures) h)) c.if-not-is_child-2.true)

pub returns-in-Ok-remove_from_chain-clause-removed : goal.returns-in-Ok-remove_from_chain-clause-removed
returns-in-Ok-remove_from_chain-clause-removed g c b t front back key e s rows leaf =
    let signed : to_z w64 (of_z w64 c.args.value) ≡ c.args.value = search rules in
    let x = c.in-Ok-remove_from_chain.ensures.removed b t front back key e (subst (λ (v : ℤ). Stored c.args.kind b t (front ++ ((key, v) ∷ back))) (sym signed) s) (subst (λ (v : ℤ). tree_rows t ≡ front ++ ((key, v) ∷ back)) (sym signed) rows) leaf in
    (x.0, x.1, subst (λ (v : ℤ). IsLessened c.args.kind b x.0 t front key back (without_number c.args.number (values_in b v)) c.in-Ok-remove_from_chain.new) signed x.2)

pub returns-in-Err-remove_from_chain-clause-removed : goal.returns-in-Err-remove_from_chain-clause-removed
returns-in-Err-remove_from_chain-clause-removed g c b t front back key e s rows leaf =
    let signed : to_z w64 (of_z w64 c.args.value) ≡ c.args.value = search rules in
    c.in-Err-remove_from_chain.ensures.removed b t front back key e (subst (λ (v : ℤ). Stored c.args.kind b t (front ++ ((key, v) ∷ back))) (sym signed) s) (subst (λ (v : ℤ). tree_rows t ≡ front ++ ((key, v) ∷ back)) (sym signed) rows) leaf

pub returns-in-Nothing-clause-removed : goal.returns-in-Nothing-clause-removed
returns-in-Nothing-clause-removed g c b t front back key e s rows leaf =
    let signed : to_z w64 (of_z w64 c.args.value) ≡ c.args.value = search rules in
    (linked-open c.args.kind b t front key back c.args.value Nothing s (ap link_in (sym signed) ∙ sym c.in-Nothing.ensures)).mine

pub returns-in-Nothing-clause-refused : goal.returns-in-Nothing-clause-refused
returns-in-Nothing-clause-refused g c v =
    let signed : to_z w64 (of_z w64 c.args.value) ≡ c.args.value = search rules in
    leaf-cut c.args.kind (g.P.Pages.told c.args.pages.now) c.args.leaf c.args.value Nothing v (ap link_in (sym signed) ∙ sym c.in-Nothing.ensures) (λ b e h. h)

pub remove_from_chain-requires-clause-small : goal.remove_from_chain-requires-clause-small
remove_from_chain-requires-clause-small g c = link-small (to_z w64 (of_z w64 c.args.value)) (Chain c.in-Chain.page) c.in-Chain.ensures

-- another plain number
pub returns-else-old-number-clause-removed : goal.returns-else-old-number-clause-removed
returns-else-old-number-clause-removed g c b t front back key e s rows leaf =
    let w = told-whole (g.P.Pages.told c.args.pages.now) (g.P.Pages.size c.args.pages.now) b (g.met.P.Pages.sized c.args.pages.now) (g.met.P.Pages.whole c.args.pages.now) e in
    let signed : to_z w64 (of_z w64 c.args.value) ≡ c.args.value = search rules in
    let link : link_in c.args.value ≡ Number c.in-Number.old = ap link_in (sym signed) ∙ sym c.in-Number.ensures in
    let none : times c.args.number (values_in b c.args.value) ≡ 0 = ap (λ l. times c.args.number (numbers_in b l)) link ∙ pair-new c.args.number c.in-Number.old (λ i. c.if-old-number.false (sym i)) in
    (b, e, subst (λ (v : ℤ). IsLessened c.args.kind b b t front key back (without_number c.args.number (values_in b c.args.value)) (Some v)) (sym signed) (untouched c.args.kind b t front key back c.args.value c.args.number s w none))

-- the form of what is left
pub returns-else-old-number-clause-formed : goal.returns-else-old-number-clause-formed
returns-else-old-number-clause-formed g c b t front back key e s i =
    let signed : to_z w64 (of_z w64 c.args.value) ≡ c.args.value = search rules in
    let link : link_in c.args.value ≡ Number c.in-Number.old = ap link_in (sym signed) ∙ sym c.in-Number.ensures in
    let none : times c.args.number (values_in b c.args.value) ≡ 0 = ap (λ l. times c.args.number (numbers_in b l)) link ∙ pair-new c.args.number c.in-Number.old (λ i. c.if-old-number.false (sym i)) in
    absurd (never-there c.args.number (values_in b c.args.value) none i)

pub returns-in-Ok-remove_from_chain-clause-formed : goal.returns-in-Ok-remove_from_chain-clause-formed
returns-in-Ok-remove_from_chain-clause-formed g c b t front back key e s i =
    let signed : to_z w64 (of_z w64 c.args.value) ≡ c.args.value = search rules in
    let f = c.in-Ok-remove_from_chain.ensures.formed b t front back key e (subst (λ (v : ℤ). Stored c.args.kind b t (front ++ ((key, v) ∷ back))) (sym signed) s) (subst (λ (v : ℤ). 1 ≤ times c.args.number (values_in b v)) (sym signed) i) in
    subst (λ (v : ℤ). IfSome c.in-Ok-remove_from_chain.new (λ new. IsFormed (link_in new) (without_number c.args.number (values_in b v)))) signed f

-- where the fragment is
pub returns-in-Ok-remove_from_chain-clause-place : goal.returns-in-Ok-remove_from_chain-clause-place
returns-in-Ok-remove_from_chain-clause-place g c b t front back key first page i e s rows leaf link =
    let signed : to_z w64 (of_z w64 c.args.value) ≡ c.args.value = search rules in
    let same : c.in-Chain.page ≡ first = ap page-of (c.in-Chain.ensures ∙ ap link_in signed ∙ link) in
    let place = c.in-Ok-remove_from_chain.ensures.place b t front back key page i e (subst (λ (v : ℤ). Stored c.args.kind b t (front ++ ((key, v) ∷ back))) (sym signed) s) (subst (λ (v : ℤ). tree_rows t ≡ front ++ ((key, v) ∷ back)) (sym signed) rows) leaf in
    subst (λ (p : ℕ). IfSome c.in-Ok-remove_from_chain.new (λ new. link_in new ≡ Fragment page i → IsNamedIn b c.args.leaf page ⊎ ((page ≡ p) × IsCrowded b c.args.leaf))) same place

pub returns-else-old-number-clause-linked : goal.returns-else-old-number-clause-linked
returns-else-old-number-clause-linked g c b t front back key e s k =
    let signed : to_z w64 (of_z w64 c.args.value) ≡ c.args.value = search rules in
    told-some (λ (d : List ℕ). IsLinked d (link_in (to_z w64 (of_z w64 c.args.value)))) (g.P.Pages.told c.args.pages.now) b e (subst (λ (v : ℤ). IsLinked b (link_in v)) (sym signed) k)

pub returns-in-Ok-clause-linked : goal.returns-in-Ok-clause-linked
returns-in-Ok-clause-linked g c b t front back key e s k =
    some-both (λ (v : ℤ) (d : List ℕ). IsLinked d (link_in v)) c.in-Ok.new (g.P.Pages.told c.remove_from_fragment.new.pages) c.in-Ok.ensures.linked

pub returns-in-Ok-remove_from_chain-clause-linked : goal.returns-in-Ok-remove_from_chain-clause-linked
returns-in-Ok-remove_from_chain-clause-linked g c b t front back key e s k =
    let signed : to_z w64 (of_z w64 c.args.value) ≡ c.args.value = search rules in
    c.in-Ok-remove_from_chain.ensures.linked b t front back key e (subst (λ (v : ℤ). Stored c.args.kind b t (front ++ ((key, v) ∷ back))) (sym signed) s) (subst (λ (v : ℤ). IsLinked b (link_in v)) (sym signed) k)
