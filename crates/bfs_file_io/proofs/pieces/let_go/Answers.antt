use Rattle.std.proofs.Common.{rules, ◌≡◌, [], true, false, Result, refl, sym, subst}
use Rattle.bfs_device.specs.declared.journal.DeviceFault.{DeviceFault}
use Rattle.bfs_commit.specs.Held.{HasLetGo}
use Rattle.bfs_file_io.proofs.pieces.let_go.Goals as goal

pub returns-in-Ok-clause-gone : goal.returns-in-Ok-clause-gone
returns-in-Ok-clause-gone g c =
    let p = c.args.piece in
    subst (λ (m : Result Unit DeviceFault). HasLetGo c.args.space.now.view.history c.release.new.space.view.history p.session p.tag p.id m c.args.bytes.items) (sym c.in-Ok.is)
    (record { bytes = c.new.result; whole = true; from = 0; upto = 0; entry = c.release.ensures.entry; so = (c.new.ensures, refl, refl, refl) })

pub returns-in-Err-clause-gone : goal.returns-in-Err-clause-gone
returns-in-Err-clause-gone g c =
    let p = c.args.piece in
    subst (λ (m : Result Unit DeviceFault). HasLetGo c.args.space.now.view.history c.release-in-Err.new.space.view.history p.session p.tag p.id m c.args.bytes.items) (sym c.in-Err.is)
    (record { bytes = c.new-none.result; whole = false; from = c.counts_round-before.result.0; upto = c.counts_round-before.result.1; entry = c.release-in-Err.ensures.entry; so = ((let e : c.new-none.result ≡ [] = search rules in e), refl, c.counts_round-before.ensures) })

pub returns-in-Ok-clause-core : goal.returns-in-Ok-clause-core
returns-in-Ok-clause-core g c = λ t0 adopted core. c.release.ensures.core t0 adopted core

pub returns-in-Err-clause-core : goal.returns-in-Err-clause-core
returns-in-Err-clause-core g c = λ t0 adopted core. c.release-in-Err.ensures.core t0 adopted core

pub returns-in-Ok-clause-open : goal.returns-in-Ok-clause-open
returns-in-Ok-clause-open g c = λ p other o. c.release.ensures.open p other o

pub returns-in-Err-clause-open : goal.returns-in-Err-clause-open
returns-in-Err-clause-open g c = λ p other o. c.release-in-Err.ensures.open p other o
