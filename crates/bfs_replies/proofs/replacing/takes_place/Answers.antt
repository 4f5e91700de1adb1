use Rattle.std.proofs.Common.{rules, ◌≡◌, ℕ, List, subst}
use Rattle.bfs_replies.specs.Replaced.{IsThere}
use Rattle.bfs_replies.proofs.Replaced.{finds_place}
use Rattle.bfs_replies.proofs.replacing.takes_place.Goals as goal

pub returns-in-Ok-clause-found : goal.returns-in-Ok-clause-found
returns-in-Ok-clause-found g c = λ m tree lists told ready.
    let r = c.in-Rename in
    let same : c.as_slice.result.now ≡ r.to_name = search rules in
    finds_place tree c.args.call.now c.in-Ok.found r.dir r.name r.to_dir r.to_name r.is (subst (λ (n : List ℕ). IsThere tree r.to_dir n c.in-Ok.found) same (c.in-Ok.ensures.there m tree lists told ready)) c.replaces.result c.replaces.ensures.value
