use Rattle.std.proofs.Common.{rules, ◌≡◌, ◌<◌, ℕ, List, length, get_or, sym, subst}
use Rattle.std.specs.List.{flat_map}
use Rattle.bfs_sound.specs.Owners.{In}
use Rattle.bfs_index.specs.declared.found.Pair as kept
use Rattle.bfs_index_check.specs.Compared.{Pair, pair_of, pairs_of, row_pairs, Ascends}
use Rattle.bfs_index_check.proofs.Differs.{not_in_front, there}
use Rattle.bfs_index_check.proofs.Rests.{wanted_from}
use Rattle.bfs_index_check.proofs.compare.compare_pairs.Goals as goal

pub returns-clause-wrong : goal.returns-clause-wrong
returns-clause-wrong c up other =
    let r : kept.Pair = c.index-wanted-at.result in
    let found : List Pair = flat_map row_pairs c.args.rows.now in
    let wanted : List Pair = pairs_of c.args.wanted.now in
    let inside : c.in-Ok.at < length c.args.wanted.now = search rules in
    let item : r ≡ get_or c.args.wanted.now c.in-Ok.at r = search rules in
    let w = wanted_from c.args.wanted.now c.in-Ok.at r inside item found c.in-Ok.ensures.met in
    let key : c.as_slice.result.now ≡ r.key = c.as_slice.ensures in
    let here : In (pair_of r) wanted = subst (In (pair_of r)) (sym w.1) (there found (pair_of r) w.0) in
    c.missing.ensures wanted found (subst (λ (k : List ℕ). In (k, r.id) wanted) (sym key) here)
    (λ h. not_in_front c.args.kind found (pair_of r) w.0 (subst (Ascends c.args.kind) w.1 up) (subst (λ (k : List ℕ). In (k, r.id) found) key h))
