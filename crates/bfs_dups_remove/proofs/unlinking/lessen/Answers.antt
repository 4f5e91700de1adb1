use Rattle.std.proofs.Common.{◌≡◌, ◌++◌, ◌∷◌, ℤ, ap, sym, ◌∙◌, subst, rules, w64, to_z, of_z}
use Rattle.bfs_values.specs.Links.{link_in}
use Rattle.bfs_values.specs.Values.{values_in}
use Rattle.bfs_values.specs.Stored.{Stored}
use Rattle.bfs_dups_remove.specs.Lessened.{without_number, IsLessened}
use Rattle.bfs_dups_remove.proofs.unlinking.lessen.Goals as goal

pub returns-in-Ok-clause-lessened : goal.returns-in-Ok-clause-lessened
returns-in-Ok-clause-lessened g c b t front back key first e s link l r =
    let signed : to_z w64 (of_z w64 c.args.value) ≡ c.args.value = search rules in
    let x = c.in-Ok.ensures.lessened b t front back key first e (subst (λ (v : ℤ). Stored c.args.kind b t (front ++ ((key, v) ∷ back))) (sym signed) s) (ap link_in signed ∙ link) l r in
    (x.0, x.1, subst (λ (v : ℤ). IsLessened c.args.kind b x.0 t front key back (without_number c.args.number (values_in b v)) c.in-Ok.left) signed x.2)

pub returns-in-Ok-leave_page-clause-lessened : goal.returns-in-Ok-leave_page-clause-lessened
returns-in-Ok-leave_page-clause-lessened g c b t front back key first e s link l r =
    let signed : to_z w64 (of_z w64 c.args.value) ≡ c.args.value = search rules in
    let x = c.in-Ok-leave_page.ensures.lessened b t front back key first e (subst (λ (v : ℤ). Stored c.args.kind b t (front ++ ((key, v) ∷ back))) (sym signed) s) (ap link_in signed ∙ link) l r in
    (x.0, x.1, subst (λ (v : ℤ). IsLessened c.args.kind b x.0 t front key back (without_number c.args.number (values_in b v)) c.in-Ok-leave_page.left) signed x.2)

pub returns-in-Ok-leave_first-clause-lessened : goal.returns-in-Ok-leave_first-clause-lessened
returns-in-Ok-leave_first-clause-lessened g c b t front back key first e s link l r =
    let signed : to_z w64 (of_z w64 c.args.value) ≡ c.args.value = search rules in
    let x = c.in-Ok-leave_first.ensures.lessened b t front back key first e (subst (λ (v : ℤ). Stored c.args.kind b t (front ++ ((key, v) ∷ back))) (sym signed) s) (ap link_in signed ∙ link) l r in
    (x.0, x.1, subst (λ (v : ℤ). IsLessened c.args.kind b x.0 t front key back (without_number c.args.number (values_in b v)) c.in-Ok-leave_first.left) signed x.2)

pub returns-in-Err-clause-lessened : goal.returns-in-Err-clause-lessened
returns-in-Err-clause-lessened g c b t front back key first e s link l r =
    let signed : to_z w64 (of_z w64 c.args.value) ≡ c.args.value = search rules in
    c.in-Err.ensures.lessened b t front back key first e (subst (λ (v : ℤ). Stored c.args.kind b t (front ++ ((key, v) ∷ back))) (sym signed) s) (ap link_in signed ∙ link) l r

pub returns-in-Err-leave_page-clause-lessened : goal.returns-in-Err-leave_page-clause-lessened
returns-in-Err-leave_page-clause-lessened g c b t front back key first e s link l r =
    let signed : to_z w64 (of_z w64 c.args.value) ≡ c.args.value = search rules in
    c.in-Err-leave_page.ensures.lessened b t front back key first e (subst (λ (v : ℤ). Stored c.args.kind b t (front ++ ((key, v) ∷ back))) (sym signed) s) (ap link_in signed ∙ link) l r

pub returns-in-Err-leave_first-clause-lessened : goal.returns-in-Err-leave_first-clause-lessened
returns-in-Err-leave_first-clause-lessened g c b t front back key first e s link l r =
    let signed : to_z w64 (of_z w64 c.args.value) ≡ c.args.value = search rules in
    c.in-Err-leave_first.ensures.lessened b t front back key first e (subst (λ (v : ℤ). Stored c.args.kind b t (front ++ ((key, v) ∷ back))) (sym signed) s) (ap link_in signed ∙ link) l r

pub returns-in-Ok-clause-linked : goal.returns-in-Ok-clause-linked
returns-in-Ok-clause-linked g c b t front back key first e s link l r k =
    let signed : to_z w64 (of_z w64 c.args.value) ≡ c.args.value = search rules in
    c.in-Ok.ensures.linked b t front back key first e (subst (λ (v : ℤ). Stored c.args.kind b t (front ++ ((key, v) ∷ back))) (sym signed) s) (ap link_in signed ∙ link) l r k

pub returns-in-Ok-leave_page-clause-linked : goal.returns-in-Ok-leave_page-clause-linked
returns-in-Ok-leave_page-clause-linked g c b t front back key first e s link l r k =
    let signed : to_z w64 (of_z w64 c.args.value) ≡ c.args.value = search rules in
    c.in-Ok-leave_page.ensures.linked b t front back key first e (subst (λ (v : ℤ). Stored c.args.kind b t (front ++ ((key, v) ∷ back))) (sym signed) s) (ap link_in signed ∙ link) l r k

pub returns-in-Ok-leave_first-clause-linked : goal.returns-in-Ok-leave_first-clause-linked
returns-in-Ok-leave_first-clause-linked g c b t front back key first e s link l r k =
    let signed : to_z w64 (of_z w64 c.args.value) ≡ c.args.value = search rules in
    c.in-Ok-leave_first.ensures.linked b t front back key first e (subst (λ (v : ℤ). Stored c.args.kind b t (front ++ ((key, v) ∷ back))) (sym signed) s) (ap link_in signed ∙ link) l r k
