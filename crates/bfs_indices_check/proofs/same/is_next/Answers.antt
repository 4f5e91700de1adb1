use Rattle.std.proofs.Common.{rules, ◌≡◌, ◌<◌, ◌∙◌, ◌∷◌, length, sym, ap, arith}
use Rattle.bfs_index.specs.declared.found.Pair as kept
use Rattle.bfs_index_check.specs.Compared.{Pair as Kept}
use Rattle.bfs_indices_check.proofs.Samely.{next_at}
use Rattle.bfs_indices_check.proofs.same.is_next.Goals as goal

pub returns-then-pair-id-clause-next : goal.returns-then-pair-id-clause-next
returns-then-pair-id-clause-next c same =
    let p : kept.Pair = c.index-wanted-at.result in
    let inside : c.args.at < length c.args.wanted.now = let t = c.if-at-wanted.false in omega (arith, t) in
    let id : p.id ≡ c.args.id = let t = c.if-pair-id.true in omega (arith, t) in
    let bytes : c.as_slice.result.now ≡ c.args.key.now = search (rules, same) in
    let key : p.key ≡ c.args.key.now = sym c.as_slice.ensures ∙ bytes in
    let n = next_at c.args.wanted.now c.args.at p inside c.index-wanted-at.is in
    let both : (p.key, p.id) ≡ (c.args.key.now, c.args.id) = λ t. (key t, id t) in
    (n.0, n.1 ∙ ap (λ (x : Kept). x ∷ n.0) both)
