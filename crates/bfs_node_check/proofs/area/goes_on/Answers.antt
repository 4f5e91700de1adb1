use Rattle.std.proofs.Common.{◌≡◌, ◌∙◌, drop, sym, arith, length-drop}
use Rattle.std.proofs.lemmas.Bool.{ltb-true, lt-ltb}
use Rattle.bfs_smalldata.specs.Items.{name_size}
use Rattle.bfs_node_check.proofs.Walked.{unsigned_there}
use Rattle.bfs_node_check.proofs.area.goes_on.Goals as goal

pub returns-then-area-at-ge8 : goal.returns-then-area-at-ge8
returns-then-area-at-ge8 c =
    let area = c.args.area.now in
    let at = c.args.at in
    let size : c.u16_at.result ≡ name_size (drop at area) = c.u16_at.ensures ∙ sym (unsigned_there 2 area at 4) in (
      λ some. (omega (arith, length-drop at area), omega (arith, size, ltb-true 0 c.u16_at.result some)),
      λ more. lt-ltb 0 c.u16_at.result (omega (arith, size, more.1)),
    )
