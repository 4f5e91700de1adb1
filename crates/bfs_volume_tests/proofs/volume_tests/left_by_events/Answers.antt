use Rattle.bfs_volume_tests.proofs.volume_tests.left_by_events.Goals as goal

pub returns : goal.returns
returns c =
    let t0 = c.in_ok-volume.ensures.0 in
    let at = c.in_ok-volume.ensures.1 in
    let core = c.by_events.ensures.core t0 at c.in_ok-volume.ensures.2 in
    let from = c.abandon-disk.ensures.held t0 at core c.in_ok-left.left.items c.in_ok-left.ensures.left in
    (_, from.3)
