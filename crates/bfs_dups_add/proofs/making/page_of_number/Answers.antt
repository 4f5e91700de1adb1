use Rattle.std.proofs.Common.{ℕ, [], ◌∷◌, inl, refl, ap, ◌∙◌, arith}
use Rattle.bfs_dups.proofs.Linked.{right-none, left-some}
use Rattle.bfs_dups.proofs.Pages.{paged}
use Rattle.bfs_dups_add.proofs.making.page_of_number.Goals as goal

pub returns-clause-page : goal.returns-clause-page
returns-clause-page c =
    let page = c.put_number-4.new.page in
    let p = paged page 1 (c.args.number ∷ []) (omega arith) (omega arith) (c.put_number-4.ensures.others 16 (inl (omega arith)) ∙ c.put_number-3.ensures.here) (ap (λ (x : ℕ). x ∷ []) c.put_number-4.ensures.here) refl in
    record { good = p.0; next = right-none page (c.put_number-4.ensures.others 8 (inl (omega arith)) ∙ c.put_number-3.ensures.others 8 (inl (omega arith)) ∙ c.put_number-2.ensures.here); numbers_are = p.1 }

pub returns-clause-left : goal.returns-clause-left
returns-clause-left c some small =
    left-some c.put_number-4.new.page c.args.left (c.put_number-4.ensures.others 0 (inl (omega arith)) ∙ c.put_number-3.ensures.others 0 (inl (omega arith)) ∙ c.put_number-2.ensures.others 0 (inl (omega arith)) ∙ c.put_number.ensures.here) some small
