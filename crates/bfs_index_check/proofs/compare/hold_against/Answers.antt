use Rattle.std.proofs.Common.{◌≡◌, ◌∙◌, ◌∷◌, ◌++◌, List, sym, subst, ap, ℕ}
use Rattle.bfs_sound.specs.Owners.{In}
use Rattle.bfs_index_check.specs.Compared.{Pair, pair_of}
use Rattle.bfs_index_check.proofs.Differs.{lower_is_missing, other_is_extra, there}
use Rattle.bfs_index_check.proofs.compare.hold_against.Goals as goal

pub returns-in-Less-clause-wrong : goal.returns-in-Less-clause-wrong
returns-in-Less-clause-wrong c met behind more up other =
    let x : Pair = pair_of c.args.next.now in
    let p : Pair = (c.args.key.now, c.args.id) in
    let same : (c.as_slice-lower.result.now, c.args.next.now.id) ≡ x = ap (λ (k : List ℕ). (k, c.args.next.now.id)) c.as_slice-lower.ensures in
    c.missing.ensures (met ++ (x ∷ behind)) (met ++ (p ∷ more)) (subst (λ (k : Pair). In k (met ++ (x ∷ behind))) (sym same) (there met x behind))
    (λ h. lower_is_missing c.args.kind met x behind p more (sym c.order_of.ensures ∙ c.in-Less.is) up other (subst (λ (k : Pair). In k (met ++ (p ∷ more))) same h))

pub returns-in_default-clause-wrong : goal.returns-in_default-clause-wrong
returns-in_default-clause-wrong c met behind more up other =
    let x : Pair = pair_of c.args.next.now in
    let p : Pair = (c.args.key.now, c.args.id) in
    c.extra.ensures (met ++ (x ∷ behind)) (met ++ (p ∷ more)) (there met p more)
    (other_is_extra c.args.kind met x behind p more (c.is_pair.ensures.other c.if-is_pair.false) (λ e. c.in_default.not-Less (c.order_of.ensures ∙ e)) up other)
