use Rattle.std.proofs.Common.{◌∙◌, inl, inr, ⊎_elim, sym, ap, subst, arith}
use Rattle.bfs_base.specs.Lists.{times}
use Rattle.bfs_tree.specs.declared.call.Call.TheVariants.{Hold}
use Rattle.bfs_device.specs.Books.{Books}
use Rattle.bfs_commit.specs.Books.{SpaceBooks}
use Rattle.bfs_commit.specs.Entries.{HasReplyIn, IsAnsweredIn}
use Rattle.bfs_commit.specs.Held.{IsAwaited}
use Rattle.bfs_file_io.specs.Asking.{HasAsked, OnReply}
use Rattle.bfs_file_io.specs.declared.pieces.Asked.{Asked}
use Rattle.bfs_file_io.proofs.Asking.{answered_from, done_from, ended_from, ended_untaken, err_from, ok_from, reply_from, took_from, untaken_from}
use Rattle.bfs_commit.proofs.Ends.{not_both}
use Rattle.bfs_commit.proofs.Drawn.{drawn_both}
use Rattle.bfs_commit.proofs.Failed.{failed_both}
use Rattle.bfs_file_io.proofs.pieces.hold.Goals as goal

pub ask_once-requires-clause-free : goal.ask_once-requires-clause-free
ask_once-requires-clause-free g c = ap (times c.args.piece.session) (c.in-Ok-true.ensures.ready c.in-Ok-true.field-0-test).promised ∙ c.requires.free

pub ask_once-requires-clause-going : goal.ask_once-requires-clause-going
ask_once-requires-clause-going g c = (c.in-Ok-true.ensures.ready c.in-Ok-true.field-0-test).going

pub ask_once-requires-clause-empty : goal.ask_once-requires-clause-empty
ask_once-requires-clause-empty g c = (c.in-Ok-true.ensures.ready c.in-Ok-true.field-0-test).empty

-- ---- the device has ended it

pub returns-in-Ok-false-clause-untaken : goal.returns-in-Ok-false-clause-untaken
returns-in-Ok-false-clause-untaken g c = λ is.
    let o = c.args.space.now in
    let od = c.args.device.now in
    let f = c.make_quiet.new in
    let p = c.args.piece in
    let e = c.in-Ok-false.ensures.ended c.in-Ok-false.field-0-test in
    (ended_untaken o.view.history f.space.view.history p.session p.tag (g.D.Disk.faults od.disk) (g.D.Disk.faults f.device.disk) (Hold p.id p.at p.length p.write) od.books.stop e.0, e.1)

pub returns-in-Ok-false-clause-noted : goal.returns-in-Ok-false-clause-noted
returns-in-Ok-false-clause-noted g c = inr (c.in-Ok-false.ensures.ended c.in-Ok-false.field-0-test).0

pub returns-in-Ok-false-clause-answered : goal.returns-in-Ok-false-clause-answered
returns-in-Ok-false-clause-answered g c = λ t0 adopted core. inr (c.in-Ok-false.ensures.ended c.in-Ok-false.field-0-test).0

pub returns-in-Ok-false-clause-open : goal.returns-in-Ok-false-clause-open
returns-in-Ok-false-clause-open g c = λ p other o. c.make_quiet.ensures.open p other o

pub returns-in-Ok-false-clause-core : goal.returns-in-Ok-false-clause-core
returns-in-Ok-false-clause-core g c = λ t0 adopted core. c.make_quiet.ensures.core t0 adopted core

pub returns-in-Err-clause-open : goal.returns-in-Err-clause-open
returns-in-Err-clause-open g c = λ p other o. c.make_quiet.ensures.open p other o

pub returns-in-Err-clause-core : goal.returns-in-Err-clause-core
returns-in-Err-clause-core g c = λ t0 adopted core. c.make_quiet.ensures.core t0 adopted core

-- ---- it was asked for

pub returns-in-Ok-Taken-clause-taken : goal.returns-in-Ok-Taken-clause-taken
returns-in-Ok-Taken-clause-taken g c = λ is.
    let o = c.args.space.now in
    let od = c.args.device.now in
    let f = c.make_quiet.new in
    let p = c.args.piece in
    let a = c.ask_once.new in
    let w : IsAwaited o f.space od.books f.device.books p.write = c.in-Ok-true.ensures.ready c.in-Ok-true.field-0-test in
    took_from o f.space a.space od.books f.device.books a.device.books (g.D.Disk.state a.device.disk) p.session p.tag p.id p.at p.length p.write a.places.items w.history w.promised w.begun (subst (λ (x : Asked). HasAsked f.space a.space f.device.books a.device.books (g.D.Disk.state a.device.disk) p.session p.tag p.id p.at p.length p.write a.places.items x) c.in-Ok-Taken.field-0-is c.in-Ok-Taken.ensures.asked)

pub returns-in-Ok-Refused-clause-untaken : goal.returns-in-Ok-Refused-clause-untaken
returns-in-Ok-Refused-clause-untaken g c = λ is.
    let o = c.args.space.now in
    let od = c.args.device.now in
    let f = c.make_quiet.new in
    let p = c.args.piece in
    let a = c.ask_once.new in
    let w : IsAwaited o f.space od.books f.device.books p.write = c.in-Ok-true.ensures.ready c.in-Ok-true.field-0-test in
    let x = subst (λ (x : Asked). HasAsked f.space a.space f.device.books a.device.books (g.D.Disk.state a.device.disk) p.session p.tag p.id p.at p.length p.write a.places.items x) c.in-Ok-Refused.field-0-is c.in-Ok-Refused.ensures.asked in
    (untaken_from o f.space a.space p.session p.tag (Hold p.id p.at p.length p.write) w.history x.0, x.1 ∙ w.promised)

pub returns-in-Ok-Taken-clause-noted : goal.returns-in-Ok-Taken-clause-noted
returns-in-Ok-Taken-clause-noted g c =
    let o = c.args.space.now in
    let od = c.args.device.now in
    let f = c.make_quiet.new in
    let p = c.args.piece in
    let a = c.ask_once.new in
    let w : IsAwaited o f.space od.books f.device.books p.write = c.in-Ok-true.ensures.ready c.in-Ok-true.field-0-test in
    inl (reply_from o f.space a.space (g.D.Disk.faults od.disk) (g.D.Disk.faults f.device.disk) (g.D.Disk.faults a.device.disk) p.session p.tag (Hold p.id p.at p.length p.write) w.history c.make_quiet.ensures.faults (subst (OnReply (HasReplyIn f.space a.space (g.D.Disk.faults f.device.disk) (g.D.Disk.faults a.device.disk) p.session p.tag (Hold p.id p.at p.length p.write))) c.in-Ok-Taken.field-0-is c.in-Ok-Taken.ensures.noted))

pub returns-in-Ok-Taken-clause-answered : goal.returns-in-Ok-Taken-clause-answered
returns-in-Ok-Taken-clause-answered g c = λ t0 adopted core.
    let o = c.args.space.now in
    let od = c.args.device.now in
    let f = c.make_quiet.new in
    let p = c.args.piece in
    let a = c.ask_once.new in
    let w : IsAwaited o f.space od.books f.device.books p.write = c.in-Ok-true.ensures.ready c.in-Ok-true.field-0-test in
    inl (answered_from t0 o f.space a.space a.device.books (g.D.Disk.state a.device.disk) p.session p.tag (Hold p.id p.at p.length p.write) w.history (subst (OnReply (IsAnsweredIn t0 f.space a.space a.device.books (g.D.Disk.state a.device.disk) p.session p.tag (Hold p.id p.at p.length p.write))) c.in-Ok-Taken.field-0-is (c.in-Ok-Taken.ensures.answered t0 adopted (c.make_quiet.ensures.core t0 adopted core))))

pub returns-in-Ok-Taken-clause-open : goal.returns-in-Ok-Taken-clause-open
returns-in-Ok-Taken-clause-open g c = λ p other o. c.ask_once.ensures.open p other (c.make_quiet.ensures.open p other o)

pub returns-in-Ok-Taken-clause-core : goal.returns-in-Ok-Taken-clause-core
returns-in-Ok-Taken-clause-core g c = λ t0 adopted core. c.ask_once.ensures.core t0 adopted (c.make_quiet.ensures.core t0 adopted core)

pub returns-in-Ok-Refused-clause-noted : goal.returns-in-Ok-Refused-clause-noted
returns-in-Ok-Refused-clause-noted g c =
    let o = c.args.space.now in
    let od = c.args.device.now in
    let f = c.make_quiet.new in
    let p = c.args.piece in
    let a = c.ask_once.new in
    let w : IsAwaited o f.space od.books f.device.books p.write = c.in-Ok-true.ensures.ready c.in-Ok-true.field-0-test in
    inl (reply_from o f.space a.space (g.D.Disk.faults od.disk) (g.D.Disk.faults f.device.disk) (g.D.Disk.faults a.device.disk) p.session p.tag (Hold p.id p.at p.length p.write) w.history c.make_quiet.ensures.faults (subst (OnReply (HasReplyIn f.space a.space (g.D.Disk.faults f.device.disk) (g.D.Disk.faults a.device.disk) p.session p.tag (Hold p.id p.at p.length p.write))) c.in-Ok-Refused.field-0-is c.in-Ok-Refused.ensures.noted))

pub returns-in-Ok-Refused-clause-answered : goal.returns-in-Ok-Refused-clause-answered
returns-in-Ok-Refused-clause-answered g c = λ t0 adopted core.
    let o = c.args.space.now in
    let od = c.args.device.now in
    let f = c.make_quiet.new in
    let p = c.args.piece in
    let a = c.ask_once.new in
    let w : IsAwaited o f.space od.books f.device.books p.write = c.in-Ok-true.ensures.ready c.in-Ok-true.field-0-test in
    inl (answered_from t0 o f.space a.space a.device.books (g.D.Disk.state a.device.disk) p.session p.tag (Hold p.id p.at p.length p.write) w.history (subst (OnReply (IsAnsweredIn t0 f.space a.space a.device.books (g.D.Disk.state a.device.disk) p.session p.tag (Hold p.id p.at p.length p.write))) c.in-Ok-Refused.field-0-is (c.in-Ok-Refused.ensures.answered t0 adopted (c.make_quiet.ensures.core t0 adopted core))))

pub returns-in-Ok-Refused-clause-open : goal.returns-in-Ok-Refused-clause-open
returns-in-Ok-Refused-clause-open g c = λ p other o. c.ask_once.ensures.open p other (c.make_quiet.ensures.open p other o)

pub returns-in-Ok-Refused-clause-core : goal.returns-in-Ok-Refused-clause-core
returns-in-Ok-Refused-clause-core g c = λ t0 adopted core. c.ask_once.ensures.core t0 adopted (c.make_quiet.ensures.core t0 adopted core)

pub returns-in-Err-ask_once-clause-no_memory : goal.returns-in-Err-ask_once-clause-no_memory
returns-in-Err-ask_once-clause-no_memory g c =
    let o = c.args.space.now in
    let od = c.args.device.now in
    let f = c.make_quiet.new in
    let p = c.args.piece in
    let a = c.ask_once.new in
    let w : IsAwaited o f.space od.books f.device.books p.write = c.in-Ok-true.ensures.ready c.in-Ok-true.field-0-test in
    (ap (λ (x : SpaceBooks). x.view.history) c.in-Err-ask_once.ensures.no_memory ∙ w.history, ap (λ (x : SpaceBooks). x.promised) c.in-Err-ask_once.ensures.no_memory ∙ w.promised)

pub returns-in-Err-ask_once-clause-open : goal.returns-in-Err-ask_once-clause-open
returns-in-Err-ask_once-clause-open g c = λ p other o. c.ask_once.ensures.open p other (c.make_quiet.ensures.open p other o)

pub returns-in-Err-ask_once-clause-core : goal.returns-in-Err-ask_once-clause-core
returns-in-Err-ask_once-clause-core g c = λ t0 adopted core. c.ask_once.ensures.core t0 adopted (c.make_quiet.ensures.core t0 adopted core)

pub ask_again-requires-clause-free : goal.ask_again-requires-clause-free
ask_again-requires-clause-free g c =
    let o = c.args.space.now in
    let od = c.args.device.now in
    let f = c.make_quiet.new in
    let p = c.args.piece in
    let a = c.ask_once.new in
    let w : IsAwaited o f.space od.books f.device.books p.write = c.in-Ok-true.ensures.ready c.in-Ok-true.field-0-test in
    let x = subst (λ (x : Asked). HasAsked f.space a.space f.device.books a.device.books (g.D.Disk.state a.device.disk) p.session p.tag p.id p.at p.length p.write a.places.items x) c.in-Ok-PutOff.field-0-is c.in-Ok-PutOff.ensures.asked in
    ap (λ (y : SpaceBooks). times p.session y.promised) x ∙ ap (times p.session) w.promised ∙ c.requires.free

pub returns-in-Ok-PutOff-clause-taken : goal.returns-in-Ok-PutOff-clause-taken
returns-in-Ok-PutOff-clause-taken g c =
    let o = c.args.space.now in
    let od = c.args.device.now in
    let f = c.make_quiet.new in
    let p = c.args.piece in
    let a = c.ask_once.new in
    let w : IsAwaited o f.space od.books f.device.books p.write = c.in-Ok-true.ensures.ready c.in-Ok-true.field-0-test in
    let x = subst (λ (x : Asked). HasAsked f.space a.space f.device.books a.device.books (g.D.Disk.state a.device.disk) p.session p.tag p.id p.at p.length p.write a.places.items x) c.in-Ok-PutOff.field-0-is c.in-Ok-PutOff.ensures.asked in
    let n = c.ask_again.new in
    let same = ap (λ (y : SpaceBooks). y.view.history) x ∙ w.history in
    let promises = ap (λ (y : SpaceBooks). y.promised) x ∙ w.promised in
    ok_from c.ask_again.result _ _ (λ taken t is. took_from o a.space n.space od.books a.device.books n.device.books (g.D.Disk.state n.device.disk) p.session p.tag p.id p.at p.length p.write n.places.items same promises w.begun (t is)) c.ask_again.ensures.taken

pub returns-in-Ok-PutOff-clause-untaken : goal.returns-in-Ok-PutOff-clause-untaken
returns-in-Ok-PutOff-clause-untaken g c =
    let o = c.args.space.now in
    let od = c.args.device.now in
    let f = c.make_quiet.new in
    let p = c.args.piece in
    let a = c.ask_once.new in
    let w : IsAwaited o f.space od.books f.device.books p.write = c.in-Ok-true.ensures.ready c.in-Ok-true.field-0-test in
    let x = subst (λ (x : Asked). HasAsked f.space a.space f.device.books a.device.books (g.D.Disk.state a.device.disk) p.session p.tag p.id p.at p.length p.write a.places.items x) c.in-Ok-PutOff.field-0-is c.in-Ok-PutOff.ensures.asked in
    let n = c.ask_again.new in
    let same = ap (λ (y : SpaceBooks). y.view.history) x ∙ w.history in
    ok_from c.ask_again.result _ _ (λ taken t is. (untaken_from o a.space n.space p.session p.tag (Hold p.id p.at p.length p.write) same (t is).0, (t is).1 ∙ ap (λ (y : SpaceBooks). y.promised) x ∙ w.promised)) c.ask_again.ensures.untaken

pub returns-in-Ok-PutOff-clause-no_memory : goal.returns-in-Ok-PutOff-clause-no_memory
returns-in-Ok-PutOff-clause-no_memory g c =
    let o = c.args.space.now in
    let od = c.args.device.now in
    let f = c.make_quiet.new in
    let p = c.args.piece in
    let a = c.ask_once.new in
    let w : IsAwaited o f.space od.books f.device.books p.write = c.in-Ok-true.ensures.ready c.in-Ok-true.field-0-test in
    let x = subst (λ (x : Asked). HasAsked f.space a.space f.device.books a.device.books (g.D.Disk.state a.device.disk) p.session p.tag p.id p.at p.length p.write a.places.items x) c.in-Ok-PutOff.field-0-is c.in-Ok-PutOff.ensures.asked in
    let n = c.ask_again.new in
    let same = ap (λ (y : SpaceBooks). y.view.history) x ∙ w.history in
    err_from c.ask_again.result _ _ (λ none. (none.0 ∙ same, none.1 ∙ ap (λ (y : SpaceBooks). y.promised) x ∙ w.promised)) c.ask_again.ensures.no_memory

pub returns-in-Ok-PutOff-clause-noted : goal.returns-in-Ok-PutOff-clause-noted
returns-in-Ok-PutOff-clause-noted g c =
    let o = c.args.space.now in
    let od = c.args.device.now in
    let f = c.make_quiet.new in
    let p = c.args.piece in
    let a = c.ask_once.new in
    let w : IsAwaited o f.space od.books f.device.books p.write = c.in-Ok-true.ensures.ready c.in-Ok-true.field-0-test in
    let x = subst (λ (x : Asked). HasAsked f.space a.space f.device.books a.device.books (g.D.Disk.state a.device.disk) p.session p.tag p.id p.at p.length p.write a.places.items x) c.in-Ok-PutOff.field-0-is c.in-Ok-PutOff.ensures.asked in
    let n = c.ask_again.new in
    let same = ap (λ (y : SpaceBooks). y.view.history) x ∙ w.history in
    let le = c.make_quiet.ensures.faults in
    let more = c.in-Ok-PutOff.ensures.faults in
    let stops = ap (λ (y : Books). y.stop) c.in-Ok-PutOff.ensures.rests ∙ w.going ∙ sym w.begun in
    done_from c.ask_again.result _ _
    (λ by. ⊎_elim (λ r. inl (reply_from o a.space n.space (g.D.Disk.faults od.disk) (g.D.Disk.faults a.device.disk) (g.D.Disk.faults n.device.disk) p.session p.tag (Hold p.id p.at p.length p.write) same (omega (arith, le, more)) r))
    (λ e. inr (ended_from o a.space n.space p.session p.tag (g.D.Disk.faults od.disk) (g.D.Disk.faults a.device.disk) (g.D.Disk.faults n.device.disk) (Hold p.id p.at p.length p.write) od.books.stop a.device.books.stop same stops (omega (arith, le, more)) e)) by)
    c.ask_again.ensures.noted

pub returns-in-Ok-PutOff-clause-answered : goal.returns-in-Ok-PutOff-clause-answered
returns-in-Ok-PutOff-clause-answered g c = λ t0 adopted core.
    let o = c.args.space.now in
    let od = c.args.device.now in
    let f = c.make_quiet.new in
    let p = c.args.piece in
    let a = c.ask_once.new in
    let w : IsAwaited o f.space od.books f.device.books p.write = c.in-Ok-true.ensures.ready c.in-Ok-true.field-0-test in
    let x = subst (λ (x : Asked). HasAsked f.space a.space f.device.books a.device.books (g.D.Disk.state a.device.disk) p.session p.tag p.id p.at p.length p.write a.places.items x) c.in-Ok-PutOff.field-0-is c.in-Ok-PutOff.ensures.asked in
    let n = c.ask_again.new in
    let same = ap (λ (y : SpaceBooks). y.view.history) x ∙ w.history in
    let le = c.make_quiet.ensures.faults in
    let more = c.in-Ok-PutOff.ensures.faults in
    let stops = ap (λ (y : Books). y.stop) c.in-Ok-PutOff.ensures.rests ∙ w.going ∙ sym w.begun in
    done_from c.ask_again.result _ _
    (λ by. ⊎_elim (λ r. inl (answered_from t0 o a.space n.space n.device.books (g.D.Disk.state n.device.disk) p.session p.tag (Hold p.id p.at p.length p.write) same r))
    (λ e. inr (ended_from o a.space n.space p.session p.tag (g.D.Disk.faults od.disk) (g.D.Disk.faults a.device.disk) (g.D.Disk.faults n.device.disk) (Hold p.id p.at p.length p.write) od.books.stop a.device.books.stop same stops (omega (arith, le, more)) e)) by)
    (c.ask_again.ensures.answered t0 adopted (c.ask_once.ensures.core t0 adopted (c.make_quiet.ensures.core t0 adopted core)))

pub returns-in-Ok-PutOff-clause-open : goal.returns-in-Ok-PutOff-clause-open
returns-in-Ok-PutOff-clause-open g c = λ p other o. c.ask_again.ensures.open p other (c.ask_once.ensures.open p other (c.make_quiet.ensures.open p other o))

pub returns-in-Ok-PutOff-clause-core : goal.returns-in-Ok-PutOff-clause-core
returns-in-Ok-PutOff-clause-core g c = λ t0 adopted core. c.ask_again.ensures.core t0 adopted (c.ask_once.ensures.core t0 adopted (c.make_quiet.ensures.core t0 adopted core))

-- ---- stamps

pub returns-in-Ok-Taken-clause-stamps : goal.returns-in-Ok-Taken-clause-stamps
returns-in-Ok-Taken-clause-stamps g c = drawn_both c.args.space.now.view.history c.make_quiet.new.space.view.history c.ask_once.new.space.view.history c.args.piece.now c.make_quiet.ensures.stamps c.ask_once.ensures.stamps

pub returns-in-Ok-Refused-clause-stamps : goal.returns-in-Ok-Refused-clause-stamps
returns-in-Ok-Refused-clause-stamps g c = drawn_both c.args.space.now.view.history c.make_quiet.new.space.view.history c.ask_once.new.space.view.history c.args.piece.now c.make_quiet.ensures.stamps c.ask_once.ensures.stamps

pub returns-in-Err-ask_once-clause-stamps : goal.returns-in-Err-ask_once-clause-stamps
returns-in-Err-ask_once-clause-stamps g c = drawn_both c.args.space.now.view.history c.make_quiet.new.space.view.history c.ask_once.new.space.view.history c.args.piece.now c.make_quiet.ensures.stamps c.ask_once.ensures.stamps

pub returns-in-Ok-PutOff-clause-stamps : goal.returns-in-Ok-PutOff-clause-stamps
returns-in-Ok-PutOff-clause-stamps g c =
    drawn_both c.args.space.now.view.history c.ask_once.new.space.view.history c.ask_again.new.space.view.history c.args.piece.now
    (drawn_both c.args.space.now.view.history c.make_quiet.new.space.view.history c.ask_once.new.space.view.history c.args.piece.now c.make_quiet.ensures.stamps c.ask_once.ensures.stamps) c.ask_again.ensures.stamps

-- ---- of a device that had stopped

pub returns-in-Ok-Taken-clause-stopped : goal.returns-in-Ok-Taken-clause-stopped
returns-in-Ok-Taken-clause-stopped g c = λ s is. absurd (not_both c.args.device.now.books.stop s (c.in-Ok-true.ensures.ready c.in-Ok-true.field-0-test).begun is)

pub returns-in-Ok-Taken-clause-stays_stopped : goal.returns-in-Ok-Taken-clause-stays_stopped
returns-in-Ok-Taken-clause-stays_stopped g c = λ s is. absurd (not_both c.args.device.now.books.stop s (c.in-Ok-true.ensures.ready c.in-Ok-true.field-0-test).begun is)

pub returns-in-Ok-Refused-clause-stopped : goal.returns-in-Ok-Refused-clause-stopped
returns-in-Ok-Refused-clause-stopped g c = λ s is. absurd (not_both c.args.device.now.books.stop s (c.in-Ok-true.ensures.ready c.in-Ok-true.field-0-test).begun is)

pub returns-in-Ok-Refused-clause-stays_stopped : goal.returns-in-Ok-Refused-clause-stays_stopped
returns-in-Ok-Refused-clause-stays_stopped g c = λ s is. absurd (not_both c.args.device.now.books.stop s (c.in-Ok-true.ensures.ready c.in-Ok-true.field-0-test).begun is)

pub returns-in-Ok-PutOff-clause-stopped : goal.returns-in-Ok-PutOff-clause-stopped
returns-in-Ok-PutOff-clause-stopped g c = λ s is. absurd (not_both c.args.device.now.books.stop s (c.in-Ok-true.ensures.ready c.in-Ok-true.field-0-test).begun is)

pub returns-in-Ok-PutOff-clause-stays_stopped : goal.returns-in-Ok-PutOff-clause-stays_stopped
returns-in-Ok-PutOff-clause-stays_stopped g c = λ s is. absurd (not_both c.args.device.now.books.stop s (c.in-Ok-true.ensures.ready c.in-Ok-true.field-0-test).begun is)

pub returns-in-Err-ask_once-clause-stays_stopped : goal.returns-in-Err-ask_once-clause-stays_stopped
returns-in-Err-ask_once-clause-stays_stopped g c = λ s is. absurd (not_both c.args.device.now.books.stop s (c.in-Ok-true.ensures.ready c.in-Ok-true.field-0-test).begun is)

-- ---- the disk's counts

pub returns-in-Ok-Taken-clause-failures : goal.returns-in-Ok-Taken-clause-failures
returns-in-Ok-Taken-clause-failures g c =
    failed_both c.args.space.now.view.history c.make_quiet.new.space.view.history c.ask_once.new.space.view.history c.args.device.now.books.stop c.make_quiet.new.device.books.stop c.ask_once.new.device.books.stop (g.D.Disk.faults c.args.device.now.disk) (g.D.Disk.faults c.make_quiet.new.device.disk) (g.D.Disk.faults c.ask_once.new.device.disk) (g.D.Disk.stops c.args.device.now.disk) (g.D.Disk.stops c.make_quiet.new.device.disk) (g.D.Disk.stops c.ask_once.new.device.disk) c.make_quiet.ensures.failures c.ask_once.ensures.failures

pub returns-in-Ok-Refused-clause-failures : goal.returns-in-Ok-Refused-clause-failures
returns-in-Ok-Refused-clause-failures g c =
    failed_both c.args.space.now.view.history c.make_quiet.new.space.view.history c.ask_once.new.space.view.history c.args.device.now.books.stop c.make_quiet.new.device.books.stop c.ask_once.new.device.books.stop (g.D.Disk.faults c.args.device.now.disk) (g.D.Disk.faults c.make_quiet.new.device.disk) (g.D.Disk.faults c.ask_once.new.device.disk) (g.D.Disk.stops c.args.device.now.disk) (g.D.Disk.stops c.make_quiet.new.device.disk) (g.D.Disk.stops c.ask_once.new.device.disk) c.make_quiet.ensures.failures c.ask_once.ensures.failures

pub returns-in-Err-ask_once-clause-failures : goal.returns-in-Err-ask_once-clause-failures
returns-in-Err-ask_once-clause-failures g c =
    failed_both c.args.space.now.view.history c.make_quiet.new.space.view.history c.ask_once.new.space.view.history c.args.device.now.books.stop c.make_quiet.new.device.books.stop c.ask_once.new.device.books.stop (g.D.Disk.faults c.args.device.now.disk) (g.D.Disk.faults c.make_quiet.new.device.disk) (g.D.Disk.faults c.ask_once.new.device.disk) (g.D.Disk.stops c.args.device.now.disk) (g.D.Disk.stops c.make_quiet.new.device.disk) (g.D.Disk.stops c.ask_once.new.device.disk) c.make_quiet.ensures.failures c.ask_once.ensures.failures

pub returns-in-Ok-PutOff-clause-failures : goal.returns-in-Ok-PutOff-clause-failures
returns-in-Ok-PutOff-clause-failures g c =
    failed_both c.args.space.now.view.history c.ask_once.new.space.view.history c.ask_again.new.space.view.history c.args.device.now.books.stop c.ask_once.new.device.books.stop c.ask_again.new.device.books.stop (g.D.Disk.faults c.args.device.now.disk) (g.D.Disk.faults c.ask_once.new.device.disk) (g.D.Disk.faults c.ask_again.new.device.disk) (g.D.Disk.stops c.args.device.now.disk) (g.D.Disk.stops c.ask_once.new.device.disk) (g.D.Disk.stops c.ask_again.new.device.disk)
    (failed_both c.args.space.now.view.history c.make_quiet.new.space.view.history c.ask_once.new.space.view.history c.args.device.now.books.stop c.make_quiet.new.device.books.stop c.ask_once.new.device.books.stop (g.D.Disk.faults c.args.device.now.disk) (g.D.Disk.faults c.make_quiet.new.device.disk) (g.D.Disk.faults c.ask_once.new.device.disk) (g.D.Disk.stops c.args.device.now.disk) (g.D.Disk.stops c.make_quiet.new.device.disk) (g.D.Disk.stops c.ask_once.new.device.disk) c.make_quiet.ensures.failures c.ask_once.ensures.failures) c.ask_again.ensures.failures
