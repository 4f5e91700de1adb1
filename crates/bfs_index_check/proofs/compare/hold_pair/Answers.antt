use Rattle.std.proofs.Common.{◌≡◌, ◌<◌, ◌∙◌, ◌∷◌, ◌++◌, [], List, length, get_or, sym, subst, ap, append-nil, rules}
use Rattle.bfs_sound.specs.Owners.{In}
use Rattle.bfs_index.specs.declared.found.Pair as kept
use Rattle.bfs_index_check.specs.Compared.{Pair, pairs_of, Ascends, IsTold}
use Rattle.bfs_index_check.proofs.Differs.{not_in_front, there}
use Rattle.bfs_index_check.proofs.Rests.{none_begin, pairs_begin, is_next}
use Rattle.bfs_index_check.proofs.compare.hold_pair.Goals as goal

pub returns-then-is_empty-clause-wrong : goal.returns-then-is_empty-clause-wrong
returns-then-is_empty-clause-wrong c met more up other =
    let p : Pair = (c.args.key.now, c.args.id) in
    let none : pairs_of c.args.rest.now ≡ [] = none_begin c.args.rest.now (search rules) in
    c.extra.ensures (met ++ pairs_of c.args.rest.now) (met ++ (p ∷ more)) (there met p more)
    (λ h. not_in_front c.args.kind met p more other (subst (In p) (ap (λ (ps : List Pair). met ++ ps) none ∙ append-nil met) h))

pub returns-in-Ok-clause-same : goal.returns-in-Ok-clause-same
returns-in-Ok-clause-same c =
    let r : kept.Pair = c.index-rest-0.result in
    let some : 0 < length c.args.rest.now = search rules in
    let item : r ≡ get_or c.args.rest.now 0 r = search rules in
    is_next c.args.rest.now r some item (c.args.key.now, c.args.id) c.in-Ok.ensures.same

pub returns-in-Err-clause-wrong : goal.returns-in-Err-clause-wrong
returns-in-Err-clause-wrong c met more up other =
    let r : kept.Pair = c.index-rest-0.result in
    let some : 0 < length c.args.rest.now = search rules in
    let item : r ≡ get_or c.args.rest.now 0 r = search rules in
    let b = pairs_begin c.args.rest.now r some item in
    subst (λ (ps : List Pair). IsTold c.args.index.now c.args.kind (met ++ ps) (met ++ ((c.args.key.now, c.args.id) ∷ more)) c.in-Err.fault) (sym b.1)
    (c.in-Err.ensures.wrong met b.0 more (subst (λ (ps : List Pair). Ascends c.args.kind (met ++ ps)) b.1 up) other)
