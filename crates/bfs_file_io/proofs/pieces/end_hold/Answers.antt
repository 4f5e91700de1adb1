use Rattle.std.proofs.Common.{◌≡◌, false, refl, sym, subst}
use Rattle.bfs_tree.specs.declared.call.Call.{Call}
use Rattle.bfs_tree.specs.declared.call.Call.TheVariants.{Hold}
use Rattle.bfs_tree.specs.declared.reply.Reply.{Reply}
use Rattle.bfs_commit.specs.Files.{lets_go}
use Rattle.bfs_commit.specs.Entries.{IsToldBy}
use Rattle.bfs_commit.proofs.Ends.{noted_entry}
use Rattle.bfs_commit.proofs.Drawn.{drawn_noted}
use Rattle.bfs_file_io.proofs.pieces.end_hold.Goals as goal

pub note-requires-clause-goes : goal.note-requires-clause-goes
note-requires-clause-goes g c = subst (λ (k : Call). lets_go k ≡ false) (sym c.hold_of-call.ensures) refl

pub note-requires-clause-told : goal.note-requires-clause-told
note-requires-clause-told g c =
    let p = c.args.piece in
    subst (λ (k : Call). IsToldBy c.args.device.now.books c.args.space.now.view.history k c.as_reply-reply.result) (sym c.hold_of-call.ensures)
    (subst (λ (r : Reply). IsToldBy c.args.device.now.books c.args.space.now.view.history (Hold p.id p.at p.length p.write) r) (sym c.as_reply-reply.ensures) c.requires.told)

pub returns-clause-entry : goal.returns-clause-entry
returns-clause-entry g c =
    let p = c.args.piece in
    noted_entry c.args.space.now c.note.new.space c.args.space.now.view.history p.session p.tag p.now _ _ _ _ _ refl c.hold_of-call.ensures c.as_reply-reply.ensures c.note.ensures.noted

pub returns-clause-open : goal.returns-clause-open
returns-clause-open g c = λ p other o. c.note.ensures.open p other o

pub returns-clause-core : goal.returns-clause-core
returns-clause-core g c = λ t0 adopted core. c.note.ensures.core t0 adopted core

pub returns-clause-stamps : goal.returns-clause-stamps
returns-clause-stamps g c =
    let p = c.args.piece in
    drawn_noted c.args.space.now c.note.new.space c.args.space.now.view.history p.session p.tag p.now _ _ _ refl c.note.ensures.noted
