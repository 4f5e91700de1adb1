use Rattle.bfs_volume_tests.proofs.volume_tests.two_files.Goals as goal

pub returns : goal.returns
returns c =
    let t0 = c.in-Ok.ensures.0 in
    let at = c.in-Ok.ensures.1 in
    let core = c.makes_two.ensures.core t0 at c.in-Ok.ensures.2 in
    let from = c.close-disk.ensures.held t0 at core c.in_ok-left.left.items c.in_ok-left.ensures.left in
    (_, from.3)
