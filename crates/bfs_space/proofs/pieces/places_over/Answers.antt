use Rattle.std.proofs.Common.{◌≡◌, ◌∙◌, ◌<◌, ℕ, List, Some, sym, ap, subst, arith}
use Rattle.std.specs.Prelude.{MatchResult}
use Rattle.std.specs.Option.{option_map}
use Rattle.bfs_super.specs.Geometry.{geometry_of}
use Rattle.bfs_super.specs.declared.geometry.Geometry.{Geometry}
use Rattle.bfs_txn.specs.Changed.{over}
use Rattle.bfs_stream.specs.Scans.{IsDamage}
use Rattle.bfs_sound.specs.Inodes.{stream_blocks}
use Rattle.bfs_shift.specs.Shifts.{volume_in}
use Rattle.bfs_look.specs.Ready.{IsReady}
use Rattle.bfs_replies.specs.Places.{piece_of}
use Rattle.bfs_space.proofs.Pieced.{file_inside, file_owned, file_places, piece_inside}
use Rattle.bfs_space.proofs.pieces.places_over.Goals as goal
use Rattle.bfs_space.proofs.pieces.places_over.Goals.{then-piece-geometry-via-then-piece-geometry, then-piece-geometry-via-else-piece-geometry+then-piece-gt-LONGEST}

pub returns-then-piece-geometry-clause-found : goal.returns-then-piece-geometry-clause-found
returns-then-piece-geometry-clause-found g c = λ m v tree lists told ready held damage.
    let inside : c.args.piece.id < c.geometry.result.blocks =
    subst (λ (x : Geometry). c.args.piece.id < x.blocks) (sym c.geometry.ensures) (file_inside c.args.sup.now v (over c.args.group.now m) tree lists ready.work c.args.piece.id held.node held.there held.file) in
    let few = held.few in
    elim c.then-piece-geometry.branch [
      | then-piece-geometry-via-then-piece-geometry w ↦ (let out = w.if-piece-geometry.true in absurd (omega (arith, inside, out)))
      | then-piece-geometry-via-else-piece-geometry+then-piece-gt-LONGEST w ↦ (let out = w.if-piece-gt-LONGEST.true in absurd (omega (arith, few, out)))
    ]

pub returns-clause-found : goal.returns-clause-found
returns-clause-found g c = λ m v tree lists told ready held.
    let s = c.args.sup.now in
    let pairs = c.begin-overlay.result.group.now in
    let under : g.B.Blocks.told c.begin-overlay.result.under.now ≡ Some m = ap g.B.Blocks.told c.begin-overlay.ensures.under_now ∙ told in
    let there = subst (λ (ps : List (ℕ × List ℕ)). IsReady (geometry_of s) v (over ps m) tree lists) (sym c.begin-overlay.ensures.open_now) ready in
    subst (λ (ps : List (ℕ × List ℕ)). MatchResult c.find_places-found.result (λ u. c.find_places-found.new.places.items ≡ piece_of s.block_size c.args.piece.at c.args.piece.length (stream_blocks (volume_in (geometry_of s) (over ps m)) c.args.piece.id)) (λ fault. ¬ IsDamage fault)) c.begin-overlay.ensures.open_now
    (c.find_places-found.ensures.found (over pairs m) (ap (option_map (over pairs)) under)
    (file_owned s v (over pairs m) tree lists there.work c.args.piece.id held.node held.there held.file c.requires.valid).stands
    (file_places s v (over pairs m) tree lists there.work c.args.piece.id held.node held.there held.file)
    (piece_inside s v (over pairs m) tree lists there.work c.args.piece.id held.node held.there held.file c.requires.valid c.args.piece.at c.args.piece.length held.below))
