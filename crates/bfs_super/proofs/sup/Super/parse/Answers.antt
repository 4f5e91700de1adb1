use Rattle.std.proofs.Common.{◌≡◌, ◌∙◌, ap, length, rules, arith}
use Rattle.bfs_super.specs.Layout.{sector_of}
use Rattle.bfs_super.proofs.SectorAgain.{sector_again}
use Rattle.bfs_super.proofs.sup.Super.parse.Goals as goal

pub returns-in-Ok-clause-again : goal.returns-in-Ok-clause-again
returns-in-Ok-clause-again c =
    let long : length c.args.sector.now ≡ 512 = search rules in
    ap sector_of c.fields-found.ensures ∙ sector_again c.args.sector.now (λ i. omega (arith, c.fits-sector i)) long
