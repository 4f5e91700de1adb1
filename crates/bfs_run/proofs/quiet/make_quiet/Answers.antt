use Rattle.std.proofs.Common.{◌∙◌, ap, subst, sym, arith}
use Rattle.std.specs.Option.{option_map}
use Rattle.bfs_disk.specs.State.{Holds, Tells, settled}
use Rattle.bfs_replay.proofs.Recovering.{held_image}
use Rattle.bfs_run.proofs.Settling.{quiet_call, settled_held, settled_same}
use Rattle.bfs_run.proofs.quiet.make_quiet.Goals as goal

pub returns-in-Ok-barrier-clause-held : goal.returns-in-Ok-barrier-clause-held
returns-in-Ok-barrier-clause-held g c =
    settled_held (g.D.Disk.state c.args.disk.now) (g.D.Disk.state c.barrier.new.self) (g.met.D.Disk.filled c.args.disk.now) (c.in-Ok-barrier.ensures.settled ∙ ap (option_map settled) c.in-Ok.ensures.state)

pub returns-in-Ok-barrier-clause-same : goal.returns-in-Ok-barrier-clause-same
returns-in-Ok-barrier-clause-same g c image held =
    settled_same (g.D.Disk.state c.args.disk.now) (g.D.Disk.state c.barrier.new.self) image (c.in-Ok-barrier.ensures.settled ∙ ap (option_map settled) c.in-Ok.ensures.state) held

pub returns-in-Err-clause-moments : goal.returns-in-Err-clause-moments
returns-in-Err-clause-moments g c image held i left =
    let old = c.args.disk.now in
    let mid = c.sectors.new.self in
    let begun = g.D.Disk.clock old in
    let first = quiet_call (g.D.Disk.state old) image _ begun begun (g.D.Disk.clock mid) (g.D.Disk.since old) (g.D.Disk.since mid) (omega arith) held c.in-Err.ensures.time (λ k was. held_image (g.D.Disk.state old) image k held (g.met.D.Disk.only_now old k was)) in
    first i left

pub returns-in-Ok-barrier-clause-moments : goal.returns-in-Ok-barrier-clause-moments
returns-in-Ok-barrier-clause-moments g c image held i left =
    let old = c.args.disk.now in
    let mid = c.sectors.new.self in
    let begun = g.D.Disk.clock old in
    let first = quiet_call (g.D.Disk.state old) image _ begun begun (g.D.Disk.clock mid) (g.D.Disk.since old) (g.D.Disk.since mid) (omega arith) held c.in-Ok.ensures.time (λ k was. held_image (g.D.Disk.state old) image k held (g.met.D.Disk.only_now old k was)) in
    quiet_call (g.D.Disk.state mid) image _ begun (g.D.Disk.clock mid) (g.D.Disk.clock c.barrier.new.self) (g.D.Disk.since mid) (g.D.Disk.since c.barrier.new.self) c.in-Ok.ensures.time.later (subst (λ o. Tells o (Holds image)) (sym c.in-Ok.ensures.state) held) c.in-Ok-barrier.ensures.time first i left

pub returns-in-Ok-barrier-clause-clock : goal.returns-in-Ok-barrier-clause-clock
returns-in-Ok-barrier-clause-clock g c = let a = c.in-Ok.ensures.time.later in let z = c.in-Ok-barrier.ensures.time.later in omega (arith, a, z)

pub returns-in-Err-barrier-clause-moments : goal.returns-in-Err-barrier-clause-moments
returns-in-Err-barrier-clause-moments g c image held i left =
    let old = c.args.disk.now in
    let mid = c.sectors.new.self in
    let begun = g.D.Disk.clock old in
    let first = quiet_call (g.D.Disk.state old) image _ begun begun (g.D.Disk.clock mid) (g.D.Disk.since old) (g.D.Disk.since mid) (omega arith) held c.in-Ok.ensures.time (λ k was. held_image (g.D.Disk.state old) image k held (g.met.D.Disk.only_now old k was)) in
    quiet_call (g.D.Disk.state mid) image _ begun (g.D.Disk.clock mid) (g.D.Disk.clock c.barrier.new.self) (g.D.Disk.since mid) (g.D.Disk.since c.barrier.new.self) c.in-Ok.ensures.time.later (subst (λ o. Tells o (Holds image)) (sym c.in-Ok.ensures.state) held) c.in-Err-barrier.ensures.time first i left

pub returns-in-Err-barrier-clause-clock : goal.returns-in-Err-barrier-clause-clock
returns-in-Err-barrier-clause-clock g c = let a = c.in-Ok.ensures.time.later in let z = c.in-Err-barrier.ensures.time.later in omega (arith, a, z)

pub returns-in-Err-clause-clock : goal.returns-in-Err-clause-clock
returns-in-Err-clause-clock g c = c.in-Err.ensures.time.later
