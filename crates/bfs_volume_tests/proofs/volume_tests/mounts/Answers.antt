use Rattle.std.proofs.Common.{rules, ◌≡◌, ◌*◌, ◌/◌, ◌∙◌, Some, length, sym, subst, arith}
use Rattle.std.specs.FinMap.{empty}
use Rattle.bfs_disk.specs.State.{Holds, Tells, state_of}
use Rattle.bfs_disk.specs.Memory.{LeftSince, moments, state_after}
use Rattle.bfs_disk.specs.MemoryLaws.{fewer_of, only_now_of}
use Rattle.bfs_replay.proofs.Recovering.{held_image}
use Rattle.bfs_tree.specs.Histories.{Mounted}
use Rattle.bfs_volume.proofs.Bare.{mounts_bare}
use Rattle.bfs_volume.proofs.Images.{holds_bytes}
use Rattle.bfs_volume.proofs.Mounting.{kept_quiet}
use Rattle.bfs_volume_tests.proofs.volume_tests.mounts.Goals as goal

pub mount-requires : goal.mount-requires
mount-requires c = record {
  held = λ st e.
      let items = c.args.image.items in
      let long : length c.args.image.items ≡ 512 * (length c.args.image.items / 512) = search rules in
      let q : Some (state_of items) ≡ Some st = sym c.failing-disk.ensures.quiet ∙ e in
      let same : state_of items ≡ st = cc in
      (items, subst (Holds items) same (holds_bytes items long));
}

pub returns-in-Ok : goal.returns-in-Ok
returns-in-Ok c =
    let items = c.args.image.items in
    let long : length c.args.image.items ≡ 512 * (length c.args.image.items / 512) = search rules in
    let t0 : Mounted = record { tree = c.requires.0; bytes = empty } in
    let d = c.failing-disk.result in
    let now = moments d.idle d.calls.items in
    let told = Some (state_after d.calls.items d.bytes.items) in
    let held : Tells told (Holds items) = (state_of items, c.failing-disk.ensures.quiet, holds_bytes items long) in
    let from = mounts_bare items c.requires.0 c.requires.1 in
    let kept = kept_quiet items t0 now now (LeftSince d.idle d.calls.items d.bytes.items) from (λ i was. held_image told items i held (only_now_of d.idle d.calls.items d.bytes.items i was)) (fewer_of d.idle d.calls.items d.bytes.items) in
    (t0, _, c.in-Ok.ensures.core t0 items now (omega arith) ∣ kept ∣₁ held from)
