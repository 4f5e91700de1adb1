use Rattle.std.proofs.Common.{sym, subst, List, ℕ, refl}
use Rattle.bfs_tree.specs.declared.reply.Entry.{Entry}
use Rattle.bfs_command.specs.Spelled.{Spelled, SpelledSoFar}
use Rattle.bfs_volume.specs.Stamps.{HasDrawn}
use Rattle.bfs_run.proofs.Ends.{broken_run, closed_run}
use Rattle.bfs_run.proofs.Failed.{closed_failures}
use Rattle.bfs_run.proofs.run.run_lines.Goals as goal

pub returns-in-Ok-clause-run : goal.returns-in-Ok-clause-run
returns-in-Ok-clause-run g c t0 adopted first begins core going =
    let v = c.run_script-ran.new.volume in
    let lines = c.args.script.now in
    let after_it = c.run_script-ran.ensures.core t0 adopted core in
    let root = c.root-root.ensures.tree t0 adopted core in
    let items = c.close-disk.ensures.history in
    let failed = closed_failures c.args.volume.space.view.history v.space.view.history c.close-disk.result.2.items c.args.volume.device.books.stop v.device.books.stop (g.D.Disk.faults c.args.volume.device.disk) (g.D.Disk.faults v.device.disk) (g.D.Disk.faults c.close-disk.result.0) (g.D.Disk.stops c.args.volume.device.disk) (g.D.Disk.stops v.device.disk) (g.D.Disk.stops c.close-disk.result.0)
    c.requires.fresh going c.run_script-ran.ensures.failures c.close-disk.ensures.history c.close-disk.ensures.counts in
    let spelled = subst (λ (r : ℕ). Spelled r c.close-disk.result.2.items lines) root (subst (λ (h : List Entry). Spelled c.root-root.result h lines) (sym items) c.in-Ok.ensures.spelled) in
    closed_run t0 v.space.view v.device.books after_it.0.2.0 (g.D.Disk.state c.close-disk.result.0) after_it.0.0 after_it.0.2.1 c.close-disk.result.2.items items (λ image left. c.close-disk.ensures.held t0 adopted after_it image left) adopted.begun (g.D.Disk.since c.close-disk.result.0) (λ image left. c.close-disk.ensures.since t0 adopted after_it image left)
    (g.C.Clock.stands c.args.volume.clock) (λ s is. subst (λ (h : List Entry). HasDrawn h v.space.view.history s) c.requires.fresh (c.run_script-ran.ensures.stamps s is))
    (g.D.Disk.faults c.args.volume.device.disk) (g.D.Disk.faults c.close-disk.result.0) (g.D.Disk.stops c.args.volume.device.disk) (g.D.Disk.stops c.close-disk.result.0) failed first (λ image left. c.close-disk.ensures.keeps t0 adopted after_it first begins image left)
    (record { history = c.close-disk.result.2; ended = c.close-disk.result.3; nodes = c.nodes-nodes.result }) lines refl spelled (c.close-disk.ensures.all t0 adopted after_it) (c.close-disk.ensures.left t0 adopted after_it) (c.nodes-nodes.ensures.counted t0 adopted after_it) (c.close-disk.ensures.chained t0 adopted after_it first begins) (c.close-disk.ensures.keeps_all t0 adopted after_it first begins)

pub returns-clause-run : goal.returns-clause-run
returns-clause-run g c t0 adopted first begins core going =
    let v = c.run_script-ran.new.volume in
    let lines = c.args.script.now in
    let after_it = c.run_script-ran.ensures.core t0 adopted core in
    let root = c.root-root.ensures.tree t0 adopted core in
    let items = c.close-disk.ensures.history in
    let failed = closed_failures c.args.volume.space.view.history v.space.view.history c.close-disk.result.2.items c.args.volume.device.books.stop v.device.books.stop (g.D.Disk.faults c.args.volume.device.disk) (g.D.Disk.faults v.device.disk) (g.D.Disk.faults c.close-disk.result.0) (g.D.Disk.stops c.args.volume.device.disk) (g.D.Disk.stops v.device.disk) (g.D.Disk.stops c.close-disk.result.0)
    c.requires.fresh going c.run_script-ran.ensures.failures c.close-disk.ensures.history c.close-disk.ensures.counts in
    let spelled = subst (λ (r : ℕ). SpelledSoFar r c.close-disk.result.2.items lines) root (subst (λ (h : List Entry). SpelledSoFar c.root-root.result h lines) (sym items) c.in-Err.ensures.so_far) in
    broken_run t0 v.space.view v.device.books after_it.0.2.0 (g.D.Disk.state c.close-disk.result.0) after_it.0.0 after_it.0.2.1 c.close-disk.result.2.items items (λ image left. c.close-disk.ensures.held t0 adopted after_it image left) adopted.begun (g.D.Disk.since c.close-disk.result.0) (λ image left. c.close-disk.ensures.since t0 adopted after_it image left)
    (g.C.Clock.stands c.args.volume.clock) (λ s is. subst (λ (h : List Entry). HasDrawn h v.space.view.history s) c.requires.fresh (c.run_script-ran.ensures.stamps s is))
    (g.D.Disk.faults c.args.volume.device.disk) (g.D.Disk.faults c.close-disk.result.0) (g.D.Disk.stops c.args.volume.device.disk) (g.D.Disk.stops c.close-disk.result.0) failed first (λ image left. c.close-disk.ensures.keeps t0 adopted after_it first begins image left)
    lines spelled (c.close-disk.ensures.chained t0 adopted after_it first begins)

pub returns-in-Ok-clause-failures : goal.returns-in-Ok-clause-failures
returns-in-Ok-clause-failures g c = λ going.
    let v = c.run_script-ran.new.volume in
    let failed = closed_failures c.args.volume.space.view.history v.space.view.history c.close-disk.result.2.items c.args.volume.device.books.stop v.device.books.stop (g.D.Disk.faults c.args.volume.device.disk) (g.D.Disk.faults v.device.disk) (g.D.Disk.faults c.close-disk.result.0) (g.D.Disk.stops c.args.volume.device.disk) (g.D.Disk.stops v.device.disk) (g.D.Disk.stops c.close-disk.result.0)
    c.requires.fresh going c.run_script-ran.ensures.failures c.close-disk.ensures.history c.close-disk.ensures.counts in
    record { history = c.close-disk.result.2.items; is = refl; stop = failed.0; failures = failed.1 }

pub returns-clause-failures : goal.returns-clause-failures
returns-clause-failures g c = λ going.
    let v = c.run_script-ran.new.volume in
    let failed = closed_failures c.args.volume.space.view.history v.space.view.history c.close-disk.result.2.items c.args.volume.device.books.stop v.device.books.stop (g.D.Disk.faults c.args.volume.device.disk) (g.D.Disk.faults v.device.disk) (g.D.Disk.faults c.close-disk.result.0) (g.D.Disk.stops c.args.volume.device.disk) (g.D.Disk.stops v.device.disk) (g.D.Disk.stops c.close-disk.result.0)
    c.requires.fresh going c.run_script-ran.ensures.failures c.close-disk.ensures.history c.close-disk.ensures.counts in
    record { history = c.close-disk.result.2.items; is = tt; stop = failed.0; failures = failed.1 }
