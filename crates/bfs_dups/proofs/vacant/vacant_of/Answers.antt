use Rattle.std.proofs.Common.{rules, w64, to_z, of_z}
use Rattle.bfs_pages.specs.Answers.{IsChild}
use Rattle.bfs_dups.proofs.Composed.{fragment-small}
use Rattle.bfs_dups.proofs.vacant.vacant_of.Goals as goal

pub returns-in-Some-clause-place : goal.returns-in-Some-clause-place
returns-in-Some-clause-place g c =
    let child : IsChild (g.P.Pages.size c.args.pages.now) c.in-Fragment.at = search rules in
    (child, fragment-small (to_z w64 (of_z w64 c.args.value)) c.in-Fragment.at c.in-Fragment.index c.in-Fragment.ensures, c.in-Some.ensures.0, c.in-Some.ensures.1, c.in-Ok.ensures.read)
