use Rattle.std.proofs.Common.{◌∙◌}
use Rattle.bfs_volume.proofs.Images.{whole_has_tree}
use Rattle.bfs_volume_tests.proofs.volume_tests.formats.Goals as goal

pub returns-in-Ok-format : goal.returns-in-Ok-format
returns-in-Ok-format c = λ t.
    let held = c.requires.1 in
    let made = c.in-Ok-format.ensures.made c.requires.0 (held.0, c.in-Ok-sectors.ensures.state ∙ held.1, held.2) in
    (made.0, made.1, λ image reads. whole_has_tree image _ (made.2.1 image reads).whole)
