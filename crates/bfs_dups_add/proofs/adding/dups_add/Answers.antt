use Rattle.std.proofs.Common.{◌≡◌, ◌∷◌, ◌++◌, ℕ, ℤ, IfSome, length, ap, sym, ◌∙◌, subst, rules, w64, to_z, of_z, List}
use Rattle.bfs_pages.specs.Answers.{IsChild}
use Rattle.bfs_pages.specs.Shapes.{tree_rows}
use Rattle.bfs_pages.proofs.Reading.{not_true}
use Rattle.bfs_remove.proofs.Giving.{told-size}
use Rattle.bfs_values.specs.Kinds.{IsValueOf}
use Rattle.bfs_values.specs.declared.link.Link.TheVariants.{Fragment, Chain, Nothing}
use Rattle.bfs_values.specs.Links.{link_in}
use Rattle.bfs_values.specs.Values.{values_in}
use Rattle.bfs_values.specs.Stored.{Stored, IsRevalued, with_number}
use Rattle.bfs_dups.proofs.Answered.{linked-open, leaf-cut}
use Rattle.bfs_dups.proofs.Crowding.{same-number}
use Rattle.bfs_dups.proofs.Composed.{some-any}
use Rattle.bfs_values.specs.Chained.{IsLinked}
use Rattle.bfs_dups_add.proofs.adding.dups_add.Goals as goal

pub returns-in-Ok-clause-added : goal.returns-in-Ok-clause-added
returns-in-Ok-clause-added g c b t front back key e s rows leaf =
    let signed : to_z w64 (of_z w64 c.args.value) ≡ c.args.value = search rules in
    let new : to_z w64 (of_z w64 c.in-Ok.new) ≡ c.in-Ok.new = search rules in
    let x = c.in-Ok.ensures.added b t front back key e (subst (λ (v : ℤ). Stored c.args.kind b t (front ++ ((key, v) ∷ back))) (sym signed) s) (subst (λ (v : ℤ). tree_rows t ≡ front ++ ((key, v) ∷ back)) (sym signed) rows) leaf in
    (x.0, x.1, subst (λ (v : ℤ). IsRevalued c.args.kind b x.0 t front key back v (with_number c.args.number (values_in b c.args.value))) (sym new) (subst (λ (v : ℤ). IsRevalued c.args.kind b x.0 t front key back c.in-Ok.new (with_number c.args.number (values_in b v))) signed x.2))

pub returns-in-Err-clause-added : goal.returns-in-Err-clause-added
returns-in-Err-clause-added g c b t front back key e s rows leaf =
    let signed : to_z w64 (of_z w64 c.args.value) ≡ c.args.value = search rules in
    c.in-Err.ensures.added b t front back key e (subst (λ (v : ℤ). Stored c.args.kind b t (front ++ ((key, v) ∷ back))) (sym signed) s) (subst (λ (v : ℤ). tree_rows t ≡ front ++ ((key, v) ∷ back)) (sym signed) rows) leaf

pub returns-then-not-is_child-clause-added : goal.returns-then-not-is_child-clause-added
returns-then-not-is_child-clause-added g c b t front back key e s rows leaf =
    let signed : to_z w64 (of_z w64 c.args.value) ≡ c.args.value = search rules in
    let o = linked-open c.args.kind b t front key back c.args.value (Fragment c.in-Fragment.page c.in-Fragment.index) s (ap link_in (sym signed) ∙ sym c.in-Fragment.ensures) in
    let size : length b ≡ g.P.Pages.size c.args.pages.now = told-size (g.P.Pages.told c.args.pages.now) (g.P.Pages.size c.args.pages.now) b (g.met.P.Pages.sized c.args.pages.now) e in
    not_true c.is_child.result (c.is_child.ensures.1 (subst (λ (n : ℕ). IsChild n c.in-Fragment.page) (size ∙ sym c.length.ensures) o.mine.0)) c.if-not-is_child.true

pub returns-then-not-is_child-clause-refused : goal.returns-then-not-is_child-clause-refused
returns-then-not-is_child-clause-refused g c v =
    let signed : to_z w64 (of_z w64 c.args.value) ≡ c.args.value = search rules in
    leaf-cut c.args.kind (g.P.Pages.told c.args.pages.now) c.args.leaf c.args.value (Fragment c.in-Fragment.page c.in-Fragment.index) v (ap link_in (sym signed) ∙ sym c.in-Fragment.ensures)
    (λ b e h.
    let size : length b ≡ g.P.Pages.size c.args.pages.now = told-size (g.P.Pages.told c.args.pages.now) (g.P.Pages.size c.args.pages.now) b (g.met.P.Pages.sized c.args.pages.now) e in
    not_true c.is_child.result (c.is_child.ensures.1 (subst (λ (n : ℕ). IsChild n c.in-Fragment.page) (size ∙ sym c.length.ensures) h)) c.if-not-is_child.true)

pub returns-in-Ok-add_to_fragment-clause-added : goal.returns-in-Ok-add_to_fragment-clause-added
returns-in-Ok-add_to_fragment-clause-added g c b t front back key e s rows leaf =
    let signed : to_z w64 (of_z w64 c.args.value) ≡ c.args.value = search rules in
    let new : to_z w64 (of_z w64 c.in-Ok-add_to_fragment.new) ≡ c.in-Ok-add_to_fragment.new = search rules in
    let x = c.in-Ok-add_to_fragment.ensures.added b t front back key e (subst (λ (v : ℤ). Stored c.args.kind b t (front ++ ((key, v) ∷ back))) (sym signed) s) in
    (x.0, x.1, subst (λ (v : ℤ). IsRevalued c.args.kind b x.0 t front key back v (with_number c.args.number (values_in b c.args.value))) (sym new) (subst (λ (v : ℤ). IsRevalued c.args.kind b x.0 t front key back c.in-Ok-add_to_fragment.new (with_number c.args.number (values_in b v))) signed x.2))

pub returns-in-Err-add_to_fragment-clause-added : goal.returns-in-Err-add_to_fragment-clause-added
returns-in-Err-add_to_fragment-clause-added g c b t front back key e s rows leaf =
    let signed : to_z w64 (of_z w64 c.args.value) ≡ c.args.value = search rules in
    c.in-Err-add_to_fragment.ensures.added b t front back key e (subst (λ (v : ℤ). Stored c.args.kind b t (front ++ ((key, v) ∷ back))) (sym signed) s)

pub returns-in-Err-add_to_fragment-clause-refused : goal.returns-in-Err-add_to_fragment-clause-refused
returns-in-Err-add_to_fragment-clause-refused g c v =
    let signed : to_z w64 (of_z w64 c.args.value) ≡ c.args.value = search rules in
    c.in-Err-add_to_fragment.ensures.refused c.args.leaf (subst (λ (z : ℤ). IfSome (g.P.Pages.told c.args.pages.now) (λ b. IsValueOf c.args.kind b c.args.leaf z)) (sym signed) v)

pub returns-then-not-is_child-2-clause-added : goal.returns-then-not-is_child-2-clause-added
returns-then-not-is_child-2-clause-added g c b t front back key e s rows leaf =
    let signed : to_z w64 (of_z w64 c.args.value) ≡ c.args.value = search rules in
    let o = linked-open c.args.kind b t front key back c.args.value (Chain c.in-Chain.page) s (ap link_in (sym signed) ∙ sym c.in-Chain.ensures) in
    let size : length b ≡ g.P.Pages.size c.args.pages.now = told-size (g.P.Pages.told c.args.pages.now) (g.P.Pages.size c.args.pages.now) b (g.met.P.Pages.sized c.args.pages.now) e in
    not_true c.is_child-in-Chain.result (c.is_child-in-Chain.ensures.1 (subst (λ (n : ℕ). IsChild n c.in-Chain.page) (size ∙ sym c.length-in-Chain.ensures) o.mine.0)) c.if-not-is_child-2.true

pub returns-then-not-is_child-2-clause-refused : goal.returns-then-not-is_child-2-clause-refused
returns-then-not-is_child-2-clause-refused g c v =
    let signed : to_z w64 (of_z w64 c.args.value) ≡ c.args.value = search rules in
    leaf-cut c.args.kind (g.P.Pages.told c.args.pages.now) c.args.leaf c.args.value (Chain c.in-Chain.page) v (ap link_in (sym signed) ∙ sym c.in-Chain.ensures)
    (λ b e h.
    let size : length b ≡ g.P.Pages.size c.args.pages.now = told-size (g.P.Pages.told c.args.pages.now) (g.P.Pages.size c.args.pages.now) b (g.met.P.Pages.sized c.args.pages.now) e in
    not_true c.is_child-in-Chain.result (c.is_child-in-Chain.ensures.1 (subst (λ (n : ℕ). IsChild n c.in-Chain.page) (size ∙ sym c.length-in-Chain.ensures) h)) c.if-not-is_child-2.true)

pub returns-in-Ok-add_to_chain-clause-added : goal.returns-in-Ok-add_to_chain-clause-added
returns-in-Ok-add_to_chain-clause-added g c b t front back key e s rows leaf =
    let signed : to_z w64 (of_z w64 c.args.value) ≡ c.args.value = search rules in
    let new : to_z w64 (of_z w64 c.in-Ok-add_to_chain.new) ≡ c.in-Ok-add_to_chain.new = search rules in
    let x = c.in-Ok-add_to_chain.ensures.added b t front back key e (subst (λ (v : ℤ). Stored c.args.kind b t (front ++ ((key, v) ∷ back))) (sym signed) s) in
    (x.0, x.1, subst (λ (v : ℤ). IsRevalued c.args.kind b x.0 t front key back v (with_number c.args.number (values_in b c.args.value))) (sym new) (subst (λ (v : ℤ). IsRevalued c.args.kind b x.0 t front key back c.in-Ok-add_to_chain.new (with_number c.args.number (values_in b v))) signed x.2))

pub returns-in-Err-add_to_chain-clause-added : goal.returns-in-Err-add_to_chain-clause-added
returns-in-Err-add_to_chain-clause-added g c b t front back key e s rows leaf =
    let signed : to_z w64 (of_z w64 c.args.value) ≡ c.args.value = search rules in
    c.in-Err-add_to_chain.ensures.added b t front back key e (subst (λ (v : ℤ). Stored c.args.kind b t (front ++ ((key, v) ∷ back))) (sym signed) s)

pub returns-in-Nothing-clause-added : goal.returns-in-Nothing-clause-added
returns-in-Nothing-clause-added g c b t front back key e s rows leaf =
    let signed : to_z w64 (of_z w64 c.args.value) ≡ c.args.value = search rules in
    (linked-open c.args.kind b t front key back c.args.value Nothing s (ap link_in (sym signed) ∙ sym c.in-Nothing.ensures)).mine

pub returns-in-Nothing-clause-refused : goal.returns-in-Nothing-clause-refused
returns-in-Nothing-clause-refused g c v =
    let signed : to_z w64 (of_z w64 c.args.value) ≡ c.args.value = search rules in
    leaf-cut c.args.kind (g.P.Pages.told c.args.pages.now) c.args.leaf c.args.value Nothing v (ap link_in (sym signed) ∙ sym c.in-Nothing.ensures) (λ b e h. h)

pub returns-in-Ok-clause-place : goal.returns-in-Ok-clause-place
returns-in-Ok-clause-place g c b old e link apart =
    let signed : to_z w64 (of_z w64 c.args.value) ≡ c.args.value = search rules in
    let new : to_z w64 (of_z w64 c.in-Ok.new) ≡ c.in-Ok.new = search rules in
    let same : c.in-Number.old ≡ old = same-number c.in-Number.old old (c.in-Number.ensures ∙ ap link_in signed ∙ link) in
    let x = c.in-Ok.ensures.place b e (λ i. apart (i ∙ same)) in
    (x.0, x.1, ap link_in new ∙ x.2, x.3)

pub returns-in-Ok-clause-linked : goal.returns-in-Ok-clause-linked
returns-in-Ok-clause-linked g c b t front back key e s k =
    let new : to_z w64 (of_z w64 c.in-Ok.new) ≡ c.in-Ok.new = search rules in
    some-any (λ (d : List ℕ). IsLinked d (link_in (to_z w64 (of_z w64 c.in-Ok.new)))) (g.P.Pages.told c.add_to_number.new.pages) (λ d. subst (λ (v : ℤ). IsLinked d (link_in v)) (sym new) (c.in-Ok.ensures.linked d))

pub returns-in-Ok-add_to_fragment-clause-linked : goal.returns-in-Ok-add_to_fragment-clause-linked
returns-in-Ok-add_to_fragment-clause-linked g c b t front back key e s k =
    let signed : to_z w64 (of_z w64 c.args.value) ≡ c.args.value = search rules in
    let new : to_z w64 (of_z w64 c.in-Ok-add_to_fragment.new) ≡ c.in-Ok-add_to_fragment.new = search rules in
    subst (λ (v : ℤ). IfSome (g.P.Pages.told c.add_to_fragment.new.pages) (λ d. IsLinked d (link_in v))) (sym new)
    (c.in-Ok-add_to_fragment.ensures.linked b t front back key e (subst (λ (v : ℤ). Stored c.args.kind b t (front ++ ((key, v) ∷ back))) (sym signed) s) (subst (λ (v : ℤ). IsLinked b (link_in v)) (sym signed) k))

pub returns-in-Ok-add_to_chain-clause-linked : goal.returns-in-Ok-add_to_chain-clause-linked
returns-in-Ok-add_to_chain-clause-linked g c b t front back key e s k =
    let signed : to_z w64 (of_z w64 c.args.value) ≡ c.args.value = search rules in
    let new : to_z w64 (of_z w64 c.in-Ok-add_to_chain.new) ≡ c.in-Ok-add_to_chain.new = search rules in
    subst (λ (v : ℤ). IfSome (g.P.Pages.told c.add_to_chain.new.pages) (λ d. IsLinked d (link_in v))) (sym new)
    (c.in-Ok-add_to_chain.ensures.linked b t front back key e (subst (λ (v : ℤ). Stored c.args.kind b t (front ++ ((key, v) ∷ back))) (sym signed) s) (subst (λ (v : ℤ). IsLinked b (link_in v)) (sym signed) k))
