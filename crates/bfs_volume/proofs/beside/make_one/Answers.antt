use Rattle.std.proofs.Common.{rules, arith, inr, ◌≢◌, ◌<◌, ℕ, None, refl, sym, ap, ◌∙◌, subst}
use Rattle.bfs_core.proofs.Images.{some_bytes}
use Rattle.bfs_device.specs.Data.{newest_in}
use Rattle.bfs_file_io.specs.Open.{calls_left, HasMade, next_place, reads_next}
use Rattle.bfs_file_io.proofs.Asked.{size_is}
use Rattle.bfs_file_io.proofs.Counted.{left_more, not_waiting}
use Rattle.bfs_volume.specs.declared.event.Happened.TheVariants as happens
use Rattle.bfs_volume.proofs.Happens.{made_hold, stopped_fault}
use Rattle.bfs_volume.proofs.beside.make_one.Goals as goal

pub calls_left-requires-clause-some : goal.calls_left-requires-clause-some
calls_left-requires-clause-some g c =
    let d = c.args.device.now in
    subst (λ (n : ℕ). 0 < n) (size_is c.args.space.now d.books c.requires.joined.fitted ∙ sym c.size_of-size.ensures.value) (some_bytes d.books.sup c.steady.ensures.steady.valid)

pub returns-then-waits-clause-wants : goal.returns-then-waits-clause-wants
returns-then-waits-clause-wants g c =
    let d = c.args.device.now in
    let sp = c.args.space.now in
    let p = c.args.piece.now in
    let some : 0 < sp.view.sup.block_size = subst (λ (n : ℕ). 0 < n) (size_is sp d.books c.requires.joined.fitted) (some_bytes d.books.sup c.steady.ensures.steady.valid) in
    let more = left_more c.size_of-size.result p (λ none. c.if-calls_left-eq0.false (c.calls_left.ensures ∙ none)) in
    let waits = (c.waits.ensures.some c.if-waits.true).1 in
    let there : newest_in d.books.groups (next_place sp.view.sup.block_size p) ≢ None = subst (λ (n : ℕ). newest_in d.books.groups (next_place n p) ≢ None) c.size_of-size.ensures.value (search rules) in
    (not_waiting sp d.books (g.D.Disk.state d.disk) p c.requires.joined c.requires.open some more there, refl)

pub make_next-requires-clause-size : goal.make_next-requires-clause-size
make_next-requires-clause-size g c = c.size_of-size.ensures.value ∙ sym (size_is c.args.space.now c.args.device.now.books c.requires.joined.fitted)

pub returns-in-Ok-clause-stopped : goal.returns-in-Ok-clause-stopped
returns-in-Ok-clause-stopped g c = λ s is. absurd (c.in-Ok.ensures.stopped s is)

pub returns-in-Ok-clause-core : goal.returns-in-Ok-clause-core
returns-in-Ok-clause-core g c = λ t0 adopted core. c.make_next.ensures.core t0 adopted c.args.space.now c.requires.joined c.size_of-size.ensures.volume c.requires.open core

pub returns-in-Err-clause-core : goal.returns-in-Err-clause-core
returns-in-Err-clause-core g c = λ t0 adopted core. c.make_next.ensures.core t0 adopted c.args.space.now c.requires.joined c.size_of-size.ensures.volume c.requires.open core

pub calls_left-requires-in-Ok-clause-some : goal.calls_left-requires-in-Ok-clause-some
calls_left-requires-in-Ok-clause-some g c =
    let d = c.args.device.now in
    subst (λ (n : ℕ). 0 < n) (size_is c.args.space.now d.books c.requires.joined.fitted ∙ sym c.size_of-size.ensures.value) (some_bytes d.books.sup c.steady.ensures.steady.valid)

pub returns-in-Ok-clause-hold : goal.returns-in-Ok-clause-hold
returns-in-Ok-clause-hold g c = made_hold c.size_of-size.result c.args.piece.now c.make_next.new.open (reads_next c.size_of-size.result c.args.piece.now) c.in-Ok.ensures.ok

pub returns-in-Ok-clause-made : goal.returns-in-Ok-clause-made
returns-in-Ok-clause-made g c =
    let p = c.args.piece.now in
    let new = c.make_next.new.open in
    let value = c.size_of-size.ensures.value in
    let any : calls_left c.size_of-size.result p ≢ 0 = λ none. c.if-calls_left-eq0.false (c.calls_left.ensures ∙ none) in
    let some : 0 < calls_left c.size_of-size.result p = grind (arith, any) in
    inr (
      subst (λ (n : ℕ). 0 < calls_left n p) value some,
      c.calls_left-in-Ok.ensures ∙ ap (λ (n : ℕ). calls_left n new) value,
      subst (λ (n : ℕ). HasMade n p new (reads_next n p)) value c.in-Ok.ensures.ok,
      c.in-Ok.ensures.bytes,
    )

pub returns-in-Err-clause-stopped : goal.returns-in-Err-clause-stopped
returns-in-Err-clause-stopped g c = λ s is. inr (ap happens.Fault (stopped_fault c.args.device.now.books.stop s _ _ c.in-Err.fault is c.in-Err.ensures.cause))
