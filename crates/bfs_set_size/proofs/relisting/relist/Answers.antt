use Rattle.std.proofs.Common.{[], ℕ, List, Option, ap, subst}
use Rattle.bfs_super.specs.Geometry.{geometry_of}
use Rattle.bfs_stream.specs.Sizes.{sizes_of}
use Rattle.bfs_shift.specs.Lists.{with_pairs}
use Rattle.bfs_shift.specs.Work.{IsAtWork}
use Rattle.bfs_calls.proofs.Faulting.{list_unanswered, read_cause, pair_cause, cause_earlier}
use Rattle.bfs_calls.proofs.Listing.{index_at}
use Rattle.bfs_make.proofs.Telling.{told_back, one_map}
use Rattle.bfs_moves.proofs.Stepping.{stepped_twice}
use Rattle.bfs_set_size.proofs.Faulted.{unlist_unanswered}
use Rattle.bfs_set_size.proofs.relisting.relist.Goals as goal

pub unlist_where-requires-clause-index : goal.unlist_where-requires-clause-index
unlist_where-requires-clause-index g c m told =
    let h = c.requires.relists m told in
    index_at (geometry_of c.args.sup.now) c.args.bitmap.now m h.tree h.lists h.index c.args.kind h.work c.args.index h.relisting.row h.relisting.kind_is

pub list_where-requires-clause-index : goal.list_where-requires-clause-index
list_where-requires-clause-index g c n told =
    let before =
    told_back (g.E.Blocks.told c.args.edits.now) (g.E.Blocks.told c.unlist_where.new.edits) (g.E.Blocks.frame c.args.edits.now).below (g.E.Blocks.frame c.unlist_where.new.edits).below
    (g.met.E.Edits.tells c.args.edits.now) (g.met.E.Edits.tells c.unlist_where.new.edits) (ap (λ f. f.below) c.in-Ok.ensures.frame) n told in
    let m = before.0 in
    let h = c.requires.relists m before.1 in
    let one = c.in-Ok.ensures.unlisted m h.tree h.lists [] h.index h.left before.1 h.work h.relisting.row h.relisting.less in
    index_at (geometry_of c.args.sup.now) c.unlist_where.new.bitmap n h.tree (with_pairs h.lists h.index h.left) h.index c.args.kind
    (subst (λ (k : ℕ → Option (List ℕ)). IsAtWork (geometry_of c.args.sup.now) c.unlist_where.new.bitmap k h.tree (with_pairs h.lists h.index h.left) []) (one_map (g.E.Blocks.told c.unlist_where.new.edits) one.map n one.is told) one.work)
    c.args.index h.relisting.row h.relisting.kind_is

pub returns-in-Ok-list_where-clause-relisted : goal.returns-in-Ok-list_where-clause-relisted
returns-in-Ok-list_where-clause-relisted g c m tree lists name left pairs told work r =
    let one = c.in-Ok.ensures.unlisted m tree lists [] name left told work r.row r.less in
    let two = c.in-Ok-list_where.ensures.listed one.map tree (with_pairs lists name left) [] name pairs one.is one.work r.row r.more in
    stepped_twice (geometry_of c.args.sup.now) c.args.bitmap.now c.unlist_where.new.bitmap c.list_where.new.bitmap m tree tree tree (with_pairs lists name left) (with_pairs (with_pairs lists name left) name pairs) [] []
    (g.E.Blocks.told c.unlist_where.new.edits) (g.E.Blocks.told c.list_where.new.edits) (g.E.Blocks.changed c.args.edits.now) (g.E.Blocks.changed c.unlist_where.new.edits) (g.E.Blocks.changed c.list_where.new.edits) one two

pub returns-in-Err-clause-unanswered : goal.returns-in-Err-clause-unanswered
returns-in-Err-clause-unanswered g c m tree lists name left pairs told work r =
    unlist_unanswered c.args.index c.in-Err.fault (c.in-Err.ensures.refused m tree lists [] name told work r.row r.kind_is)

pub returns-in-Err-list_where-clause-unanswered : goal.returns-in-Err-list_where-clause-unanswered
returns-in-Err-list_where-clause-unanswered g c m tree lists name left pairs told work r =
    let one = c.in-Ok.ensures.unlisted m tree lists [] name left told work r.row r.less in
    list_unanswered (sizes_of c.args.sup.now) c.unlist_where.new.bitmap one.map c.args.index c.in-Err-list_where.fault
    (c.in-Err-list_where.ensures.refused one.map tree (with_pairs lists name left) [] name one.is one.work r.row r.kind_is)

pub returns-in-Err-clause-cause : goal.returns-in-Err-clause-cause
returns-in-Err-clause-cause g c = read_cause (g.E.Blocks.counts c.args.edits.now) (g.E.Blocks.counts c.unlist_where.new.edits) c.in-Err.fault c.in-Err.ensures.cause

pub returns-in-Err-list_where-clause-cause : goal.returns-in-Err-list_where-clause-cause
returns-in-Err-list_where-clause-cause g c =
    cause_earlier (g.E.Blocks.counts c.args.edits.now) (g.E.Blocks.counts c.unlist_where.new.edits) (g.E.Blocks.counts c.list_where.new.edits) c.in-Err-list_where.fault c.in-Ok.ensures.later
    (pair_cause (g.E.Blocks.counts c.unlist_where.new.edits) (g.E.Blocks.counts c.list_where.new.edits) c.in-Err-list_where.fault c.in-Err-list_where.ensures.cause)
