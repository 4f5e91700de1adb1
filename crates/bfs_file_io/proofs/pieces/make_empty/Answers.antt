use Rattle.std.proofs.Common.{◌≡◌, ◌≡◌, ◌∙◌, List, false, sym, ap, subst, arith, refl}
use Rattle.std.specs.List.{list_any}
use Rattle.bfs_device_blocks.specs.Lent.{HasCore}
use Rattle.bfs_commit.specs.Books.{SpaceBooks}
use Rattle.bfs_tree.specs.declared.call.Call.TheVariants.{Hold}
use Rattle.bfs_tree.specs.declared.reply.Entry.{Entry}
use Rattle.bfs_tree.specs.Histories.{is_stop}
use Rattle.bfs_commit.specs.Open.{IsOpen}
use Rattle.bfs_commit.specs.Entries.{HasEntryOf, reply_of}
use Rattle.bfs_commit.proofs.Ends.{device_end, told_of}
use Rattle.bfs_commit.proofs.Joined.{joined_unpromised}
use Rattle.bfs_commit.proofs.Stays.{promise_over, promise_there}
use Rattle.bfs_commit.proofs.Drawn.{drawn_none, drawn_within}
use Rattle.bfs_commit.proofs.Failed.{counts_same, counts_twice, failed_none, failed_step, failed_within}
use Rattle.bfs_file_io.proofs.pieces.make_empty.Goals as goal

pub returns-in-Err-clause-open : goal.returns-in-Err-clause-open
returns-in-Err-clause-open g c = λ p other o. c.end_hold.ensures.open p other (c.settle.ensures.open p (c.prepare.ensures.open p other o))

pub returns-in-Err-clause-core : goal.returns-in-Err-clause-core
returns-in-Err-clause-core g c = λ t0 adopted core. c.end_hold.ensures.core t0 adopted (c.settle.ensures.core t0 adopted (c.prepare.ensures.core t0 adopted core))

pub returns-clause-joined : goal.returns-clause-joined
returns-clause-joined g c = joined_unpromised c.settle.new.space c.unpromise.new.self _ c.settle.new.device.books (g.D.Disk.state c.settle.new.device.disk) c.unpromise.ensures c.settle.ensures.joined

pub returns-clause-open : goal.returns-clause-open
returns-clause-open g c = λ p other o.
    let d = c.settle.new.device in
    subst (λ (x : SpaceBooks). IsOpen p x.view d.books (g.D.Disk.state d.disk)) (sym c.unpromise.ensures)
    (c.settle.ensures.open p (c.prepare.ensures.open p other o))

pub returns-clause-core : goal.returns-clause-core
returns-clause-core g c = λ t0 adopted core.
    let d = c.settle.new.device in
    subst (λ (x : SpaceBooks). HasCore t0 adopted x.view d.books (g.D.Disk.state d.disk) (g.D.Disk.clock d.disk) (g.D.Disk.since d.disk)) (sym c.unpromise.ensures)
    (c.settle.ensures.core t0 adopted (c.prepare.ensures.core t0 adopted core))

pub end_hold-requires-clause-told : goal.end_hold-requires-clause-told
end_hold-requires-clause-told g c =
    let q = c.prepare.new in
    let u = c.settle.new in
    let p = c.args.piece in
    told_of u.space.view.history q.device.books.stop u.device.books (g.D.Disk.faults q.device.disk) (g.D.Disk.faults u.device.disk) (Hold p.id p.at p.length p.write) c.in-Err.fault
    (λ none. subst (λ (h : List Entry). list_any (λ (e : Entry). is_stop e.reply) h ≡ false) (sym c.settle.ensures.history) (c.prepare.ensures.joined.fitted.going none)) c.in-Err.ensures.fault

pub returns-in-Err-clause-ended : goal.returns-in-Err-clause-ended
returns-in-Err-clause-ended g c = λ is.
    let q = c.prepare.new in
    let u = c.settle.new in
    let p = c.args.piece in
    let low : g.D.Disk.faults q.device.disk ≡ g.D.Disk.faults c.args.device.now.disk = ap g.D.Disk.faults c.prepare.ensures.disk in (
      record {
        reply = _;
        entry = subst (λ (h : List Entry). HasEntryOf h c.end_hold.new.space.view.history p.session p.tag (Hold p.id p.at p.length p.write) (reply_of c.in-Err.fault)) (c.settle.ensures.history ∙ c.prepare.ensures.history) c.end_hold.ensures.entry;
        cause = device_end c.args.device.now.books.stop q.device.books.stop u.device.books.stop (g.D.Disk.faults c.args.device.now.disk) (g.D.Disk.faults q.device.disk) (g.D.Disk.faults u.device.disk) (g.D.Disk.faults u.device.disk) c.in-Err.fault c.prepare.ensures.stop (omega (arith, low)) (omega arith) c.in-Err.ensures.fault;
      },
      c.end_hold.ensures.promised ∙ promise_over p.session c.args.space.now.promised c.settle.new.space.promised c.requires.free (c.settle.ensures.promised ∙ c.in_ok-prepare.ensures.ok.0),
    )

pub returns-clause-ready : goal.returns-clause-ready
returns-clause-ready g c = λ is.
    record {
      history = ap (λ (x : SpaceBooks). x.view.history) c.unpromise.ensures ∙ c.settle.ensures.history ∙ c.prepare.ensures.history;
      promised = ap (λ (x : SpaceBooks). x.promised) c.unpromise.ensures ∙ promise_over c.args.piece.session c.args.space.now.promised c.settle.new.space.promised c.requires.free (c.settle.ensures.promised ∙ c.in_ok-prepare.ensures.ok.0);
      begun = sym c.prepare.ensures.stop ∙ c.in-Ok.ensures.stop.0;
      going = c.in-Ok.ensures.stop.1;
      empty = λ w. c.in-Ok.ensures.done.0;
    }

pub returns-in-Err-clause-stamps : goal.returns-in-Err-clause-stamps
returns-in-Err-clause-stamps g c =
    let new = c.end_hold.new.space.view.history in
    drawn_within c.args.space.now.view.history c.settle.new.space.view.history new new c.args.piece.now (c.settle.ensures.history ∙ c.prepare.ensures.history) refl c.end_hold.ensures.stamps

pub returns-clause-stamps : goal.returns-clause-stamps
returns-clause-stamps g c =
    drawn_none c.args.space.now.view.history c.unpromise.new.self.view.history c.args.piece.now (ap (λ (x : SpaceBooks). x.view.history) c.unpromise.ensures ∙ c.settle.ensures.history ∙ c.prepare.ensures.history)

-- ---- the disk's counts

pub returns-in-Err-clause-failures : goal.returns-in-Err-clause-failures
returns-in-Err-clause-failures g c =
    failed_within c.args.space.now.view.history c.prepare.new.space.view.history c.end_hold.new.space.view.history c.end_hold.new.space.view.history c.args.device.now.books.stop c.prepare.new.device.books.stop c.settle.new.device.books.stop (g.D.Disk.faults c.args.device.now.disk) (g.D.Disk.faults c.prepare.new.device.disk) (g.D.Disk.faults c.settle.new.device.disk) (g.D.Disk.stops c.args.device.now.disk) (g.D.Disk.stops c.prepare.new.device.disk) (g.D.Disk.stops c.settle.new.device.disk) (counts_same c.args.device.now.books.stop c.prepare.new.device.books.stop (g.D.Disk.faults c.args.device.now.disk) (g.D.Disk.faults c.prepare.new.device.disk) (g.D.Disk.stops c.args.device.now.disk) (g.D.Disk.stops c.prepare.new.device.disk) c.prepare.ensures.stop (ap g.D.Disk.faults c.prepare.ensures.disk) (ap g.D.Disk.stops c.prepare.ensures.disk)) c.prepare.ensures.history refl
    (failed_step c.prepare.new.space.view.history c.end_hold.new.space.view.history c.args.piece.session c.args.piece.tag _ c.prepare.new.device.books.stop c.settle.new.device.books.stop (g.D.Disk.faults c.prepare.new.device.disk) (g.D.Disk.faults c.settle.new.device.disk) (g.D.Disk.stops c.prepare.new.device.disk) (g.D.Disk.stops c.settle.new.device.disk) c.in-Err.fault (subst (λ (h : List Entry). HasEntryOf h c.end_hold.new.space.view.history c.args.piece.session c.args.piece.tag (Hold c.args.piece.id c.args.piece.at c.args.piece.length c.args.piece.write) (reply_of c.in-Err.fault)) c.settle.ensures.history c.end_hold.ensures.entry) c.in-Err.ensures.fault c.settle.ensures.counts)

pub returns-clause-failures : goal.returns-clause-failures
returns-clause-failures g c =
    failed_none c.args.space.now.view.history c.unpromise.new.self.view.history c.args.device.now.books.stop c.settle.new.device.books.stop (g.D.Disk.faults c.args.device.now.disk) (g.D.Disk.faults c.settle.new.device.disk) (g.D.Disk.stops c.args.device.now.disk) (g.D.Disk.stops c.settle.new.device.disk) (ap (λ (x : SpaceBooks). x.view.history) c.unpromise.ensures ∙ c.settle.ensures.history ∙ c.prepare.ensures.history) (counts_twice c.args.device.now.books.stop c.prepare.new.device.books.stop c.settle.new.device.books.stop (g.D.Disk.faults c.args.device.now.disk) (g.D.Disk.faults c.prepare.new.device.disk) (g.D.Disk.faults c.settle.new.device.disk) (g.D.Disk.stops c.args.device.now.disk) (g.D.Disk.stops c.prepare.new.device.disk) (g.D.Disk.stops c.settle.new.device.disk) (counts_same c.args.device.now.books.stop c.prepare.new.device.books.stop (g.D.Disk.faults c.args.device.now.disk) (g.D.Disk.faults c.prepare.new.device.disk) (g.D.Disk.stops c.args.device.now.disk) (g.D.Disk.stops c.prepare.new.device.disk) c.prepare.ensures.stop (ap g.D.Disk.faults c.prepare.ensures.disk) (ap g.D.Disk.stops c.prepare.ensures.disk)) c.settle.ensures.counts)

-- ---- promises

pub end_hold-requires-clause-promised : goal.end_hold-requires-clause-promised
end_hold-requires-clause-promised g c = promise_there c.args.piece.session c.args.space.now.promised c.settle.new.space.promised (c.settle.ensures.promised ∙ c.in_ok-prepare.ensures.ok.0)
