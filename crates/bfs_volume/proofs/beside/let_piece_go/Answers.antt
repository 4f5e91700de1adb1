use Rattle.std.proofs.Common.{rules, ◌≡◌, ◌≢◌, ◌<◌, ℕ, List, inr, refl, sym, ◌∙◌, ap, subst, arith}
use Rattle.std.specs.Prelude.{slice_index_or}
use Rattle.std.proofs.lemmas.Option.{get_or_from_slice_get, slice_get_within}
use Rattle.bfs_base.specs.Lists.{Has}
use Rattle.bfs_core.proofs.Images.{some_bytes}
use Rattle.bfs_file_io.specs.Books.{without}
use Rattle.bfs_file_io.specs.Open.{made_of, AreOpen, HoldsAt, IsOpen, OpenView, calls_left}
use Rattle.bfs_file_io.specs.Held.{HasLetGo}
use Rattle.bfs_file_io.specs.Holding.{HasHeld}
use Rattle.bfs_file_io.proofs.Asked.{size_is}
use Rattle.bfs_volume.proofs.Pushing.{piece_held, piece_promised, piece_some, removed_open}
use Rattle.bfs_volume.proofs.beside.let_piece_go.Goals as goal

pub calls_left-left-requires-clause-some : goal.calls_left-left-requires-clause-some
calls_left-left-requires-clause-some g c =
    let d = c.args.device.now in
    subst (λ (n : ℕ). 0 < n) (size_is c.args.space.now d.books c.requires.joined.fitted ∙ sym c.size_of-size.ensures.value) (some_bytes d.books.sup c.steady.ensures.steady.valid)

pub returns-then-left-gt0-clause-gone : goal.returns-then-left-gt0-clause-gone
returns-then-left-gt0-clause-gone g c =
    let at = subst (λ (ps : List OpenView). HoldsAt ps c.args.session c.in-Some.i) c.as_slice.ensures.value c.in-Some.ensures in
    let found : c.index-as_slice-i.result ≡ at.0 = c.index-as_slice-i.is ∙ ap (λ (ps : List OpenView). slice_index_or ps c.in-Some.i c.index-as_slice-i.result) c.as_slice-2.ensures.value ∙ get_or_from_slice_get c.args.pieces.now.items c.in-Some.i at.0 c.index-as_slice-i.result at.1 in
    let left : c.calls_left-left.result ≡ calls_left c.args.space.now.view.sup.block_size at.0 = c.calls_left-left.ensures ∙ (λ i. calls_left (c.size_of-size.ensures.value i) (found i)) in
    (refl, refl, inr (record { one = record { at = c.in-Some.i; piece = at.0; there = at.1; own = at.2 }; some = c.if-left-gt0.true; left_is = left }))

pub remove-piece-requires : goal.remove-piece-requires
remove-piece-requires g c =
    let at = subst (λ (ps : List OpenView). HoldsAt ps c.args.session c.in-Some.i) c.as_slice.ensures.value c.in-Some.ensures in
    let low = slice_get_within c.args.pieces.now.items c.in-Some.i at.0 at.1 in
    search rules

pub let_one_go-requires-clause-open : goal.let_one_go-requires-clause-open
let_one_go-requires-clause-open g c =
    let at = subst (λ (ps : List OpenView). HoldsAt ps c.args.session c.in-Some.i) c.as_slice.ensures.value c.in-Some.ensures in
    let same : c.remove-piece.result ≡ at.0 = c.remove-piece.ensures.value ∙ get_or_from_slice_get c.args.pieces.now.items c.in-Some.i at.0 c.remove-piece.result at.1 in
    subst (λ (p : OpenView). IsOpen p c.args.space.now.view c.args.device.now.books (g.D.Disk.state c.args.device.now.disk)) (sym same) (c.requires.open.each c.in-Some.i at.0 at.1)

pub let_one_go-requires-clause-none : goal.let_one_go-requires-clause-none
let_one_go-requires-clause-none g c =
    let at = subst (λ (ps : List OpenView). HoldsAt ps c.args.session c.in-Some.i) c.as_slice.ensures.value c.in-Some.ensures in
    let same : c.remove-piece.result ≡ at.0 = c.remove-piece.ensures.value ∙ get_or_from_slice_get c.args.pieces.now.items c.in-Some.i at.0 c.remove-piece.result at.1 in
    let found : c.index-as_slice-i.result ≡ at.0 = c.index-as_slice-i.is ∙ ap (λ (ps : List OpenView). slice_index_or ps c.in-Some.i c.index-as_slice-i.result) c.as_slice-2.ensures.value ∙ get_or_from_slice_get c.args.pieces.now.items c.in-Some.i at.0 c.index-as_slice-i.result at.1 in
    let left : c.calls_left-left.result ≡ calls_left c.args.space.now.view.sup.block_size at.0 = c.calls_left-left.ensures ∙ (λ i. calls_left (c.size_of-size.ensures.value i) (found i)) in
    let low = c.if-left-gt0.false in
    let zero : c.calls_left-left.result ≡ 0 = omega (arith, low) in
    ap (calls_left c.args.space.now.view.sup.block_size) same ∙ sym left ∙ zero

pub let_one_go-requires-clause-promised : goal.let_one_go-requires-clause-promised
let_one_go-requires-clause-promised g c =
    let at = subst (λ (ps : List OpenView). HoldsAt ps c.args.session c.in-Some.i) c.as_slice.ensures.value c.in-Some.ensures in
    let same : c.remove-piece.result ≡ at.0 = c.remove-piece.ensures.value ∙ get_or_from_slice_get c.args.pieces.now.items c.in-Some.i at.0 c.remove-piece.result at.1 in
    subst (λ (p : OpenView). Has c.args.space.now.promised p.hold.session) (sym same) (piece_promised c.args.pieces.now.items c.args.space.now c.args.device.now.books (g.D.Disk.state c.args.device.now.disk) c.in-Some.i at.0 at.1 c.requires.open)

pub let_one_go-requires-clause-held : goal.let_one_go-requires-clause-held
let_one_go-requires-clause-held g c =
    let at = subst (λ (ps : List OpenView). HoldsAt ps c.args.session c.in-Some.i) c.as_slice.ensures.value c.in-Some.ensures in
    let same : c.remove-piece.result ≡ at.0 = c.remove-piece.ensures.value ∙ get_or_from_slice_get c.args.pieces.now.items c.in-Some.i at.0 c.remove-piece.result at.1 in
    subst (λ (p : OpenView). HasHeld c.args.space.now.view.history p.hold.session p.hold.id p.hold.at p.hold.length p.hold.write) (sym same) (piece_held c.args.pieces.now.items c.args.space.now c.args.device.now.books (g.D.Disk.state c.args.device.now.disk) c.in-Some.i at.0 at.1 c.requires.open)

pub let_one_go-requires-clause-session : goal.let_one_go-requires-clause-session
let_one_go-requires-clause-session g c =
    let at = subst (λ (ps : List OpenView). HoldsAt ps c.args.session c.in-Some.i) c.as_slice.ensures.value c.in-Some.ensures in
    let same : c.remove-piece.result ≡ at.0 = c.remove-piece.ensures.value ∙ get_or_from_slice_get c.args.pieces.now.items c.in-Some.i at.0 c.remove-piece.result at.1 in
    subst (λ (p : OpenView). p.hold.session ≢ 0) (sym same) (piece_some c.args.pieces.now.items c.args.space.now c.args.device.now.books (g.D.Disk.state c.args.device.now.disk) c.in-Some.i at.0 at.1 c.requires.open)

pub returns-clause-open : goal.returns-clause-open
returns-clause-open g c =
    let at = subst (λ (ps : List OpenView). HoldsAt ps c.args.session c.in-Some.i) c.as_slice.ensures.value c.in-Some.ensures in
    let same : c.remove-piece.result ≡ at.0 = c.remove-piece.ensures.value ∙ get_or_from_slice_get c.args.pieces.now.items c.in-Some.i at.0 c.remove-piece.result at.1 in
    let sp = c.args.space.now in
    let space = c.let_one_go.new.space in
    let d = c.args.device.now in
    let gone = subst (λ (p : OpenView). HasLetGo sp.view.history space.view.history p.hold.session c.args.tag p.hold.id (made_of p.fault) p.bytes) same c.let_one_go.ensures.gone in
    subst (λ (ps : List OpenView). AreOpen ps space d.books (g.D.Disk.state d.disk)) (sym c.remove-piece.ensures.items)
    (removed_open c.args.pieces.now.items sp d.books (g.D.Disk.state d.disk) c.in-Some.i at.0 at.1 c.requires.open space c.args.tag gone.bytes gone.whole gone.from gone.upto gone.entry
    (subst (λ (p : OpenView). space.promised ≡ without p.hold.session sp.promised) same c.let_one_go.ensures.promised)
    (λ q other opened. c.let_one_go.ensures.others q (λ e. other (e ∙ ap (λ (p : OpenView). p.hold.session) same)) opened))

pub returns-clause-gone : goal.returns-clause-gone
returns-clause-gone g c =
    let at = subst (λ (ps : List OpenView). HoldsAt ps c.args.session c.in-Some.i) c.as_slice.ensures.value c.in-Some.ensures in
    let same : c.remove-piece.result ≡ at.0 = c.remove-piece.ensures.value ∙ get_or_from_slice_get c.args.pieces.now.items c.in-Some.i at.0 c.remove-piece.result at.1 in
    let found : c.index-as_slice-i.result ≡ at.0 = c.index-as_slice-i.is ∙ ap (λ (ps : List OpenView). slice_index_or ps c.in-Some.i c.index-as_slice-i.result) c.as_slice-2.ensures.value ∙ get_or_from_slice_get c.args.pieces.now.items c.in-Some.i at.0 c.index-as_slice-i.result at.1 in
    let left : c.calls_left-left.result ≡ calls_left c.args.space.now.view.sup.block_size at.0 = c.calls_left-left.ensures ∙ (λ i. calls_left (c.size_of-size.ensures.value i) (found i)) in
    let low = c.if-left-gt0.false in
    let zero : c.calls_left-left.result ≡ 0 = omega (arith, low) in
    let sp = c.args.space.now in
    let space = c.let_one_go.new.space in
    let gone = subst (λ (n : ℕ). HasLetGo sp.view.history space.view.history n c.args.tag at.0.hold.id (made_of at.0.fault) at.0.bytes) at.2
    (subst (λ (p : OpenView). HasLetGo sp.view.history space.view.history p.hold.session c.args.tag p.hold.id (made_of p.fault) p.bytes) same c.let_one_go.ensures.gone) in
    record { one = record { at = c.in-Some.i; piece = at.0; there = at.1; own = at.2 }; none = sym left ∙ zero; gone = gone; rest = c.remove-piece.ensures.items }
