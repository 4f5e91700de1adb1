use Rattle.std.proofs.Common.{rules, ◌≡◌, ◌++◌, ◌∷◌, [], ◌∙◌, refl, ap}
use Rattle.bfs_space.specs.Books.{SpaceBooks}
use Rattle.bfs_commit.proofs.Stays.{promise_over, promise_there}
use Rattle.bfs_commit.proofs.Drawn.{drawn_noted}
use Rattle.bfs_commit.proofs.Failed.{counts_same, counts_twice, failed_step, failed_synced, failed_within}
use Rattle.bfs_commit.proofs.Ends.{noted_entry}
use Rattle.bfs_commit.proofs.calls.sync.Goals as goal

pub returns-in-Ok-clause-stamps : goal.returns-in-Ok-clause-stamps
returns-in-Ok-clause-stamps g c = drawn_noted c.make_durable.new.space c.note.new.space c.args.space.now.view.history c.args.session c.args.tag c.args.now _ _ _ (c.make_durable.ensures.history ∙ c.prepare.ensures.history) c.note.ensures.noted

pub returns-in-Err-clause-stamps : goal.returns-in-Err-clause-stamps
returns-in-Err-clause-stamps g c = drawn_noted c.make_durable.new.space c.note-in-Err.new.space c.args.space.now.view.history c.args.session c.args.tag c.args.now _ _ _ (c.make_durable.ensures.history ∙ c.prepare.ensures.history) c.note-in-Err.ensures.noted

pub returns-in-Ok-clause-failures : goal.returns-in-Ok-clause-failures
returns-in-Ok-clause-failures g c =
    failed_synced c.args.space.now.view.history c.note.new.space.view.history c.args.session c.args.tag _ c.args.device.now.books.stop c.make_durable.new.device.books.stop (g.D.Disk.faults c.args.device.now.disk) (g.D.Disk.faults c.make_durable.new.device.disk) (g.D.Disk.stops c.args.device.now.disk) (g.D.Disk.stops c.make_durable.new.device.disk) (noted_entry c.make_durable.new.space c.note.new.space c.args.space.now.view.history c.args.session c.args.tag c.args.now _ _ _ _ _ (c.make_durable.ensures.history ∙ c.prepare.ensures.history) refl refl c.note.ensures.noted) (counts_twice c.args.device.now.books.stop c.prepare.new.device.books.stop c.make_durable.new.device.books.stop (g.D.Disk.faults c.args.device.now.disk) (g.D.Disk.faults c.prepare.new.device.disk) (g.D.Disk.faults c.make_durable.new.device.disk) (g.D.Disk.stops c.args.device.now.disk) (g.D.Disk.stops c.prepare.new.device.disk) (g.D.Disk.stops c.make_durable.new.device.disk) (counts_same c.args.device.now.books.stop c.prepare.new.device.books.stop (g.D.Disk.faults c.args.device.now.disk) (g.D.Disk.faults c.prepare.new.device.disk) (g.D.Disk.stops c.args.device.now.disk) (g.D.Disk.stops c.prepare.new.device.disk) c.prepare.ensures.stop (ap g.D.Disk.faults c.prepare.ensures.disk) (ap g.D.Disk.stops c.prepare.ensures.disk)) c.make_durable.ensures.counts)

pub returns-in-Err-clause-failures : goal.returns-in-Err-clause-failures
returns-in-Err-clause-failures g c =
    failed_within c.args.space.now.view.history c.prepare.new.space.view.history c.note-in-Err.new.space.view.history c.note-in-Err.new.space.view.history c.args.device.now.books.stop c.prepare.new.device.books.stop c.make_durable.new.device.books.stop (g.D.Disk.faults c.args.device.now.disk) (g.D.Disk.faults c.prepare.new.device.disk) (g.D.Disk.faults c.make_durable.new.device.disk) (g.D.Disk.stops c.args.device.now.disk) (g.D.Disk.stops c.prepare.new.device.disk) (g.D.Disk.stops c.make_durable.new.device.disk) (counts_same c.args.device.now.books.stop c.prepare.new.device.books.stop (g.D.Disk.faults c.args.device.now.disk) (g.D.Disk.faults c.prepare.new.device.disk) (g.D.Disk.stops c.args.device.now.disk) (g.D.Disk.stops c.prepare.new.device.disk) c.prepare.ensures.stop (ap g.D.Disk.faults c.prepare.ensures.disk) (ap g.D.Disk.stops c.prepare.ensures.disk)) c.prepare.ensures.history refl
    (failed_step c.prepare.new.space.view.history c.note-in-Err.new.space.view.history c.args.session c.args.tag _ c.prepare.new.device.books.stop c.make_durable.new.device.books.stop (g.D.Disk.faults c.prepare.new.device.disk) (g.D.Disk.faults c.make_durable.new.device.disk) (g.D.Disk.stops c.prepare.new.device.disk) (g.D.Disk.stops c.make_durable.new.device.disk) c.in-Err.fault (noted_entry c.make_durable.new.space c.note-in-Err.new.space c.prepare.new.space.view.history c.args.session c.args.tag c.args.now _ _ _ _ _ c.make_durable.ensures.history refl c.as_reply.ensures c.note-in-Err.ensures.noted) c.in-Err.ensures.fault c.make_durable.ensures.counts)

pub returns-in-Ok-clause-open : goal.returns-in-Ok-clause-open
returns-in-Ok-clause-open g c = λ p other o. c.note.ensures.open p other (c.make_durable.ensures.open p (c.prepare.ensures.open p other o))

pub returns-in-Ok-clause-core : goal.returns-in-Ok-clause-core
returns-in-Ok-clause-core g c = λ t0 adopted core. c.note.ensures.core t0 adopted (c.make_durable.ensures.core t0 adopted (c.prepare.ensures.core t0 adopted core))

pub returns-in-Err-clause-open : goal.returns-in-Err-clause-open
returns-in-Err-clause-open g c = λ p other o. c.note-in-Err.ensures.open p other (c.make_durable.ensures.open p (c.prepare.ensures.open p other o))

pub returns-in-Err-clause-core : goal.returns-in-Err-clause-core
returns-in-Err-clause-core g c = λ t0 adopted core. c.note-in-Err.ensures.core t0 adopted (c.make_durable.ensures.core t0 adopted (c.prepare.ensures.core t0 adopted core))

pub note-requires-clause-promised : goal.note-requires-clause-promised
note-requires-clause-promised g c = promise_there c.args.session c.args.space.now.promised c.make_durable.new.space.promised (let e : c.make_durable.new.space.promised ≡ c.args.space.now.promised ++ c.args.session ∷ [] = search rules in e)

pub note-requires-in-Err-clause-promised : goal.note-requires-in-Err-clause-promised
note-requires-in-Err-clause-promised g c = promise_there c.args.session c.args.space.now.promised c.make_durable.new.space.promised (let e : c.make_durable.new.space.promised ≡ c.args.space.now.promised ++ c.args.session ∷ [] = search rules in e)

pub returns-in-Ok-clause-promised : goal.returns-in-Ok-clause-promised
returns-in-Ok-clause-promised g c = ap (λ (x : SpaceBooks). x.promised) c.note.ensures.noted ∙ promise_over c.args.session c.args.space.now.promised c.make_durable.new.space.promised c.requires.free (let e : c.make_durable.new.space.promised ≡ c.args.space.now.promised ++ c.args.session ∷ [] = search rules in e)

pub returns-in-Err-clause-promised : goal.returns-in-Err-clause-promised
returns-in-Err-clause-promised g c = ap (λ (x : SpaceBooks). x.promised) c.note-in-Err.ensures.noted ∙ promise_over c.args.session c.args.space.now.promised c.make_durable.new.space.promised c.requires.free (let e : c.make_durable.new.space.promised ≡ c.args.space.now.promised ++ c.args.session ∷ [] = search rules in e)
