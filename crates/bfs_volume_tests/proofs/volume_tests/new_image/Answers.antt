use Rattle.std.proofs.Common.{rules, ◌≡◌, ◌*◌, ◌/◌, ◌∙◌, Some, length, sym, subst}
use Rattle.bfs_disk.specs.State.{State, ReadsAs, state_of}
use Rattle.bfs_volume.proofs.Images.{holds_bytes}
use Rattle.bfs_volume_tests.proofs.volume_tests.new_image.Goals as goal

pub formats-requires : goal.formats-requires
formats-requires c =
    let items = c.in_ok-bytes.bytes.items in
    let long : length c.in_ok-bytes.bytes.items ≡ 512 * (length c.in_ok-bytes.bytes.items / 512) = search rules in
    (items, (state_of items, c.new-disk.ensures.quiet, holds_bytes items long))

pub returns : goal.returns
returns c =
    let made = c.formats.ensures c.if-not-formats.false in
    let reads = c.bytes.ensures.reads in
    let e : Some reads.0 ≡ Some made.0 = sym reads.1 ∙ made.1 in
    let same : reads.0 ≡ made.0 = cc in
    made.2 c.bytes.result.items (subst (λ (s : State). ReadsAs s c.bytes.result.items) same reads.2)
