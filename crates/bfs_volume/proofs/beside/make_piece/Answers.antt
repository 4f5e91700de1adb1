use Rattle.std.proofs.Common.{◌≡◌, List, inl, inr, refl, sym, ◌∙◌, ap, subst}
use Rattle.std.proofs.lemmas.Option.{get_or_from_slice_get}
use Rattle.std.proofs.lemmas.Result.{IfOk-weaker}
use Rattle.bfs_volume.specs.Events.{HasCalled, HasGoneOn}
use Rattle.bfs_file_io.specs.Open.{calls_left, HoldsAt, HoldsNone, IsOpen, OpenView}
use Rattle.bfs_volume.proofs.Pushing.{set_open}
use Rattle.bfs_volume.proofs.beside.make_piece.Goals as goal

pub make_one-requires-clause-open : goal.make_one-requires-clause-open
make_one-requires-clause-open g c =
    let at = subst (λ (ps : List OpenView). HoldsAt ps c.args.session c.in-Some.i) c.as_slice.ensures.value c.in-Some.ensures in
    let same : c.index_mut.result.now ≡ at.0 = c.index_mut.ensures.value ∙ get_or_from_slice_get c.args.pieces.now.items c.in-Some.i at.0 c.index_mut.result.now at.1 in
    subst (λ (p : OpenView). IsOpen p c.args.space.now.view c.args.device.now.books (g.D.Disk.state c.args.device.now.disk)) (sym same) (c.requires.open.each c.in-Some.i at.0 at.1)

pub returns-in-Some-clause-open : goal.returns-in-Some-clause-open
returns-in-Some-clause-open g c =
    let at = subst (λ (ps : List OpenView). HoldsAt ps c.args.session c.in-Some.i) c.as_slice.ensures.value c.in-Some.ensures in
    let same : c.index_mut.result.now ≡ at.0 = c.index_mut.ensures.value ∙ get_or_from_slice_get c.args.pieces.now.items c.in-Some.i at.0 c.index_mut.result.now at.1 in
    let d = c.args.device.now in
    let n = c.make_one.new.device in
    set_open c.args.pieces.now.items c.args.space.now d.books n.books (g.D.Disk.state d.disk) (g.D.Disk.state n.disk) c.in-Some.i at.0 c.make_one.new.piece at.1 (c.make_one.ensures.hold ∙ ap (λ (p : OpenView). p.hold) same) c.make_one.ensures.open
    (λ q other opened. c.make_one.ensures.others q (λ e. other (e ∙ ap (λ (p : OpenView). p.hold.session) same)) opened) c.requires.open

pub returns-in-Some-clause-made : goal.returns-in-Some-clause-made
returns-in-Some-clause-made g c =
    let at = subst (λ (ps : List OpenView). HoldsAt ps c.args.session c.in-Some.i) c.as_slice.ensures.value c.in-Some.ensures in
    let same : c.index_mut.result.now ≡ at.0 = c.index_mut.ensures.value ∙ get_or_from_slice_get c.args.pieces.now.items c.in-Some.i at.0 c.index_mut.result.now at.1 in
    let d = c.args.device.now in
    let n = c.make_one.new.device in
    IfOk-weaker c.make_one.result _ _
    (λ h is. inr (record {
      one = record { at = c.in-Some.i; piece = at.0; there = at.1; own = at.2 };
      new = c.make_one.new.piece;
      now = refl;
      gone_on = subst (λ (p : OpenView). HasGoneOn c.args.space.now.view.sup.block_size p c.make_one.new.piece d.books.stop (g.D.Disk.faults d.disk) (g.D.Disk.faults n.disk) h) same is;
    }))
    c.make_one.ensures.made

pub returns-in-Some-clause-one : goal.returns-in-Some-clause-one
returns-in-Some-clause-one g c = λ some.
    let at = subst (λ (ps : List OpenView). HoldsAt ps c.args.session c.in-Some.i) c.as_slice.ensures.value c.in-Some.ensures in
    let same : c.index_mut.result.now ≡ at.0 = c.index_mut.ensures.value ∙ get_or_from_slice_get c.args.pieces.now.items c.in-Some.i at.0 c.index_mut.result.now at.1 in
    let d = c.args.device.now in
    let n = c.make_one.new.device in
    IfOk-weaker c.make_one.result _ _
    (λ h is. inr (record { at = c.in-Some.i; piece = at.0; there = at.1; own = at.2 }, subst (λ (p : OpenView). HasCalled (calls_left c.args.space.now.view.sup.block_size p) (g.D.Disk.clock d.disk) (g.D.Disk.clock n.disk) h) same is))
    (c.make_one.ensures.one some)

pub returns-in-None-clause-one : goal.returns-in-None-clause-one
returns-in-None-clause-one g c = λ some. inl (subst (λ (ps : List OpenView). HoldsNone ps c.args.session) c.as_slice.ensures.value c.in-None.ensures, refl)
