use Rattle.std.proofs.Common.{◌∙◌, inl, inr, ap, subst}
use Rattle.bfs_base.specs.Lists.{times}
use Rattle.bfs_tree.specs.declared.call.Call.TheVariants.{Hold}
use Rattle.bfs_commit.specs.Books.{SpaceBooks}
use Rattle.bfs_commit.specs.Entries.{HasReplyIn, IsAnsweredIn}
use Rattle.bfs_commit.specs.Held.{IsAwaited}
use Rattle.bfs_file_io.specs.Asking.{HasAsked, OnReply}
use Rattle.bfs_file_io.specs.declared.pieces.Asked.{Asked}
use Rattle.bfs_file_io.proofs.Asking.{answered_from, ended_untaken, reply_from, took_from, untaken_from}
use Rattle.bfs_commit.proofs.Drawn.{drawn_both}
use Rattle.bfs_commit.proofs.Failed.{failed_both}
use Rattle.bfs_file_io.proofs.pieces.ask_again.Goals as goal

pub ask_once-requires-clause-free : goal.ask_once-requires-clause-free
ask_once-requires-clause-free g c = ap (times c.args.piece.session) (c.in-Ok-true.ensures.ready c.in-Ok-true.field-0-test).promised ∙ c.requires.free

pub ask_once-requires-clause-going : goal.ask_once-requires-clause-going
ask_once-requires-clause-going g c = (c.in-Ok-true.ensures.ready c.in-Ok-true.field-0-test).going

pub ask_once-requires-clause-empty : goal.ask_once-requires-clause-empty
ask_once-requires-clause-empty g c = (c.in-Ok-true.ensures.ready c.in-Ok-true.field-0-test).empty

-- ---- the device has ended it

pub returns-in-Ok-false-clause-untaken : goal.returns-in-Ok-false-clause-untaken
returns-in-Ok-false-clause-untaken g c = λ is.
    let o = c.args.space.now in
    let od = c.args.device.now in
    let f = c.make_empty.new in
    let p = c.args.piece in
    let e = c.in-Ok-false.ensures.ended c.in-Ok-false.field-0-test in
    (ended_untaken o.view.history f.space.view.history p.session p.tag (g.D.Disk.faults od.disk) (g.D.Disk.faults f.device.disk) (Hold p.id p.at p.length p.write) od.books.stop e.0, e.1)

pub returns-in-Ok-false-clause-noted : goal.returns-in-Ok-false-clause-noted
returns-in-Ok-false-clause-noted g c = inr (c.in-Ok-false.ensures.ended c.in-Ok-false.field-0-test).0

pub returns-in-Ok-false-clause-answered : goal.returns-in-Ok-false-clause-answered
returns-in-Ok-false-clause-answered g c = λ t0 adopted core. inr (c.in-Ok-false.ensures.ended c.in-Ok-false.field-0-test).0

pub returns-in-Ok-false-clause-open : goal.returns-in-Ok-false-clause-open
returns-in-Ok-false-clause-open g c = λ p other o. c.make_empty.ensures.open p other o

pub returns-in-Ok-false-clause-core : goal.returns-in-Ok-false-clause-core
returns-in-Ok-false-clause-core g c = λ t0 adopted core. c.make_empty.ensures.core t0 adopted core

pub returns-in-Err-clause-open : goal.returns-in-Err-clause-open
returns-in-Err-clause-open g c = λ p other o. c.make_empty.ensures.open p other o

pub returns-in-Err-clause-core : goal.returns-in-Err-clause-core
returns-in-Err-clause-core g c = λ t0 adopted core. c.make_empty.ensures.core t0 adopted core

-- ---- it was asked for

pub returns-in-Ok-Taken-clause-taken : goal.returns-in-Ok-Taken-clause-taken
returns-in-Ok-Taken-clause-taken g c = λ is.
    let o = c.args.space.now in
    let od = c.args.device.now in
    let f = c.make_empty.new in
    let p = c.args.piece in
    let a = c.ask_once.new in
    let w : IsAwaited o f.space od.books f.device.books p.write = c.in-Ok-true.ensures.ready c.in-Ok-true.field-0-test in
    took_from o f.space a.space od.books f.device.books a.device.books (g.D.Disk.state a.device.disk) p.session p.tag p.id p.at p.length p.write a.places.items w.history w.promised w.begun (subst (λ (x : Asked). HasAsked f.space a.space f.device.books a.device.books (g.D.Disk.state a.device.disk) p.session p.tag p.id p.at p.length p.write a.places.items x) c.in-Ok-Taken.field-0-is c.in-Ok-Taken.ensures.asked)

pub returns-in-Ok-Refused-clause-untaken : goal.returns-in-Ok-Refused-clause-untaken
returns-in-Ok-Refused-clause-untaken g c = λ is.
    let o = c.args.space.now in
    let od = c.args.device.now in
    let f = c.make_empty.new in
    let p = c.args.piece in
    let a = c.ask_once.new in
    let w : IsAwaited o f.space od.books f.device.books p.write = c.in-Ok-true.ensures.ready c.in-Ok-true.field-0-test in
    let x = subst (λ (x : Asked). HasAsked f.space a.space f.device.books a.device.books (g.D.Disk.state a.device.disk) p.session p.tag p.id p.at p.length p.write a.places.items x) c.in-Ok-Refused.field-0-is c.in-Ok-Refused.ensures.asked in
    (untaken_from o f.space a.space p.session p.tag (Hold p.id p.at p.length p.write) w.history x.0, x.1 ∙ w.promised)

pub returns-in-Ok-Taken-clause-noted : goal.returns-in-Ok-Taken-clause-noted
returns-in-Ok-Taken-clause-noted g c =
    let o = c.args.space.now in
    let od = c.args.device.now in
    let f = c.make_empty.new in
    let p = c.args.piece in
    let a = c.ask_once.new in
    let w : IsAwaited o f.space od.books f.device.books p.write = c.in-Ok-true.ensures.ready c.in-Ok-true.field-0-test in
    inl (reply_from o f.space a.space (g.D.Disk.faults od.disk) (g.D.Disk.faults f.device.disk) (g.D.Disk.faults a.device.disk) p.session p.tag (Hold p.id p.at p.length p.write) w.history c.make_empty.ensures.faults (subst (OnReply (HasReplyIn f.space a.space (g.D.Disk.faults f.device.disk) (g.D.Disk.faults a.device.disk) p.session p.tag (Hold p.id p.at p.length p.write))) c.in-Ok-Taken.field-0-is c.in-Ok-Taken.ensures.noted))

pub returns-in-Ok-Taken-clause-answered : goal.returns-in-Ok-Taken-clause-answered
returns-in-Ok-Taken-clause-answered g c = λ t0 adopted core.
    let o = c.args.space.now in
    let od = c.args.device.now in
    let f = c.make_empty.new in
    let p = c.args.piece in
    let a = c.ask_once.new in
    let w : IsAwaited o f.space od.books f.device.books p.write = c.in-Ok-true.ensures.ready c.in-Ok-true.field-0-test in
    inl (answered_from t0 o f.space a.space a.device.books (g.D.Disk.state a.device.disk) p.session p.tag (Hold p.id p.at p.length p.write) w.history (subst (OnReply (IsAnsweredIn t0 f.space a.space a.device.books (g.D.Disk.state a.device.disk) p.session p.tag (Hold p.id p.at p.length p.write))) c.in-Ok-Taken.field-0-is (c.in-Ok-Taken.ensures.answered t0 adopted (c.make_empty.ensures.core t0 adopted core))))

pub returns-in-Ok-Taken-clause-open : goal.returns-in-Ok-Taken-clause-open
returns-in-Ok-Taken-clause-open g c = λ p other o. c.ask_once.ensures.open p other (c.make_empty.ensures.open p other o)

pub returns-in-Ok-Taken-clause-core : goal.returns-in-Ok-Taken-clause-core
returns-in-Ok-Taken-clause-core g c = λ t0 adopted core. c.ask_once.ensures.core t0 adopted (c.make_empty.ensures.core t0 adopted core)

pub returns-in-Ok-Refused-clause-noted : goal.returns-in-Ok-Refused-clause-noted
returns-in-Ok-Refused-clause-noted g c =
    let o = c.args.space.now in
    let od = c.args.device.now in
    let f = c.make_empty.new in
    let p = c.args.piece in
    let a = c.ask_once.new in
    let w : IsAwaited o f.space od.books f.device.books p.write = c.in-Ok-true.ensures.ready c.in-Ok-true.field-0-test in
    inl (reply_from o f.space a.space (g.D.Disk.faults od.disk) (g.D.Disk.faults f.device.disk) (g.D.Disk.faults a.device.disk) p.session p.tag (Hold p.id p.at p.length p.write) w.history c.make_empty.ensures.faults (subst (OnReply (HasReplyIn f.space a.space (g.D.Disk.faults f.device.disk) (g.D.Disk.faults a.device.disk) p.session p.tag (Hold p.id p.at p.length p.write))) c.in-Ok-Refused.field-0-is c.in-Ok-Refused.ensures.noted))

pub returns-in-Ok-Refused-clause-answered : goal.returns-in-Ok-Refused-clause-answered
returns-in-Ok-Refused-clause-answered g c = λ t0 adopted core.
    let o = c.args.space.now in
    let od = c.args.device.now in
    let f = c.make_empty.new in
    let p = c.args.piece in
    let a = c.ask_once.new in
    let w : IsAwaited o f.space od.books f.device.books p.write = c.in-Ok-true.ensures.ready c.in-Ok-true.field-0-test in
    inl (answered_from t0 o f.space a.space a.device.books (g.D.Disk.state a.device.disk) p.session p.tag (Hold p.id p.at p.length p.write) w.history (subst (OnReply (IsAnsweredIn t0 f.space a.space a.device.books (g.D.Disk.state a.device.disk) p.session p.tag (Hold p.id p.at p.length p.write))) c.in-Ok-Refused.field-0-is (c.in-Ok-Refused.ensures.answered t0 adopted (c.make_empty.ensures.core t0 adopted core))))

pub returns-in-Ok-Refused-clause-open : goal.returns-in-Ok-Refused-clause-open
returns-in-Ok-Refused-clause-open g c = λ p other o. c.ask_once.ensures.open p other (c.make_empty.ensures.open p other o)

pub returns-in-Ok-Refused-clause-core : goal.returns-in-Ok-Refused-clause-core
returns-in-Ok-Refused-clause-core g c = λ t0 adopted core. c.ask_once.ensures.core t0 adopted (c.make_empty.ensures.core t0 adopted core)

pub returns-in-Err-ask_once-clause-no_memory : goal.returns-in-Err-ask_once-clause-no_memory
returns-in-Err-ask_once-clause-no_memory g c =
    let o = c.args.space.now in
    let od = c.args.device.now in
    let f = c.make_empty.new in
    let p = c.args.piece in
    let a = c.ask_once.new in
    let w : IsAwaited o f.space od.books f.device.books p.write = c.in-Ok-true.ensures.ready c.in-Ok-true.field-0-test in
    (ap (λ (x : SpaceBooks). x.view.history) c.in-Err-ask_once.ensures.no_memory ∙ w.history, ap (λ (x : SpaceBooks). x.promised) c.in-Err-ask_once.ensures.no_memory ∙ w.promised)

pub returns-in-Err-ask_once-clause-open : goal.returns-in-Err-ask_once-clause-open
returns-in-Err-ask_once-clause-open g c = λ p other o. c.ask_once.ensures.open p other (c.make_empty.ensures.open p other o)

pub returns-in-Err-ask_once-clause-core : goal.returns-in-Err-ask_once-clause-core
returns-in-Err-ask_once-clause-core g c = λ t0 adopted core. c.ask_once.ensures.core t0 adopted (c.make_empty.ensures.core t0 adopted core)

pub returns-in-Ok-PutOff-clause-no_memory : goal.returns-in-Ok-PutOff-clause-no_memory
returns-in-Ok-PutOff-clause-no_memory g c =
    let o = c.args.space.now in
    let od = c.args.device.now in
    let f = c.make_empty.new in
    let p = c.args.piece in
    let a = c.ask_once.new in
    let w : IsAwaited o f.space od.books f.device.books p.write = c.in-Ok-true.ensures.ready c.in-Ok-true.field-0-test in
    let x = subst (λ (x : Asked). HasAsked f.space a.space f.device.books a.device.books (g.D.Disk.state a.device.disk) p.session p.tag p.id p.at p.length p.write a.places.items x) c.in-Ok-PutOff.field-0-is c.in-Ok-PutOff.ensures.asked in
    (ap (λ (y : SpaceBooks). y.view.history) x ∙ w.history, ap (λ (y : SpaceBooks). y.promised) x ∙ w.promised)

pub returns-in-Ok-PutOff-clause-open : goal.returns-in-Ok-PutOff-clause-open
returns-in-Ok-PutOff-clause-open g c = λ p other o. c.ask_once.ensures.open p other (c.make_empty.ensures.open p other o)

pub returns-in-Ok-PutOff-clause-core : goal.returns-in-Ok-PutOff-clause-core
returns-in-Ok-PutOff-clause-core g c = λ t0 adopted core. c.ask_once.ensures.core t0 adopted (c.make_empty.ensures.core t0 adopted core)

-- ---- stamps

pub returns-in-Ok-Taken-clause-stamps : goal.returns-in-Ok-Taken-clause-stamps
returns-in-Ok-Taken-clause-stamps g c = drawn_both c.args.space.now.view.history c.make_empty.new.space.view.history c.ask_once.new.space.view.history c.args.piece.now c.make_empty.ensures.stamps c.ask_once.ensures.stamps

pub returns-in-Ok-Refused-clause-stamps : goal.returns-in-Ok-Refused-clause-stamps
returns-in-Ok-Refused-clause-stamps g c = drawn_both c.args.space.now.view.history c.make_empty.new.space.view.history c.ask_once.new.space.view.history c.args.piece.now c.make_empty.ensures.stamps c.ask_once.ensures.stamps

pub returns-in-Err-ask_once-clause-stamps : goal.returns-in-Err-ask_once-clause-stamps
returns-in-Err-ask_once-clause-stamps g c = drawn_both c.args.space.now.view.history c.make_empty.new.space.view.history c.ask_once.new.space.view.history c.args.piece.now c.make_empty.ensures.stamps c.ask_once.ensures.stamps

pub returns-in-Ok-PutOff-clause-stamps : goal.returns-in-Ok-PutOff-clause-stamps
returns-in-Ok-PutOff-clause-stamps g c = drawn_both c.args.space.now.view.history c.make_empty.new.space.view.history c.ask_once.new.space.view.history c.args.piece.now c.make_empty.ensures.stamps c.ask_once.ensures.stamps

-- ---- the disk's counts

pub returns-in-Ok-Taken-clause-failures : goal.returns-in-Ok-Taken-clause-failures
returns-in-Ok-Taken-clause-failures g c =
    failed_both c.args.space.now.view.history c.make_empty.new.space.view.history c.ask_once.new.space.view.history c.args.device.now.books.stop c.make_empty.new.device.books.stop c.ask_once.new.device.books.stop (g.D.Disk.faults c.args.device.now.disk) (g.D.Disk.faults c.make_empty.new.device.disk) (g.D.Disk.faults c.ask_once.new.device.disk) (g.D.Disk.stops c.args.device.now.disk) (g.D.Disk.stops c.make_empty.new.device.disk) (g.D.Disk.stops c.ask_once.new.device.disk) c.make_empty.ensures.failures c.ask_once.ensures.failures

pub returns-in-Ok-Refused-clause-failures : goal.returns-in-Ok-Refused-clause-failures
returns-in-Ok-Refused-clause-failures g c =
    failed_both c.args.space.now.view.history c.make_empty.new.space.view.history c.ask_once.new.space.view.history c.args.device.now.books.stop c.make_empty.new.device.books.stop c.ask_once.new.device.books.stop (g.D.Disk.faults c.args.device.now.disk) (g.D.Disk.faults c.make_empty.new.device.disk) (g.D.Disk.faults c.ask_once.new.device.disk) (g.D.Disk.stops c.args.device.now.disk) (g.D.Disk.stops c.make_empty.new.device.disk) (g.D.Disk.stops c.ask_once.new.device.disk) c.make_empty.ensures.failures c.ask_once.ensures.failures

pub returns-in-Err-ask_once-clause-failures : goal.returns-in-Err-ask_once-clause-failures
returns-in-Err-ask_once-clause-failures g c =
    failed_both c.args.space.now.view.history c.make_empty.new.space.view.history c.ask_once.new.space.view.history c.args.device.now.books.stop c.make_empty.new.device.books.stop c.ask_once.new.device.books.stop (g.D.Disk.faults c.args.device.now.disk) (g.D.Disk.faults c.make_empty.new.device.disk) (g.D.Disk.faults c.ask_once.new.device.disk) (g.D.Disk.stops c.args.device.now.disk) (g.D.Disk.stops c.make_empty.new.device.disk) (g.D.Disk.stops c.ask_once.new.device.disk) c.make_empty.ensures.failures c.ask_once.ensures.failures

pub returns-in-Ok-PutOff-clause-failures : goal.returns-in-Ok-PutOff-clause-failures
returns-in-Ok-PutOff-clause-failures g c =
    failed_both c.args.space.now.view.history c.make_empty.new.space.view.history c.ask_once.new.space.view.history c.args.device.now.books.stop c.make_empty.new.device.books.stop c.ask_once.new.device.books.stop (g.D.Disk.faults c.args.device.now.disk) (g.D.Disk.faults c.make_empty.new.device.disk) (g.D.Disk.faults c.ask_once.new.device.disk) (g.D.Disk.stops c.args.device.now.disk) (g.D.Disk.stops c.make_empty.new.device.disk) (g.D.Disk.stops c.ask_once.new.device.disk) c.make_empty.ensures.failures c.ask_once.ensures.failures
