use Rattle.std.proofs.Common.{◌∙◌, ℕ, List, length, refl, sym, ap, subst}
use Rattle.bfs_bytes.specs.declared.Run.{Run}
use Rattle.bfs_log.specs.Entry.{IsEntry, runs_of, blocks_in}
use Rattle.bfs_log.proofs.Printed.{entry_again, runs_again, blocks_again}
use Rattle.bfs_log.proofs.print.log_print.Goals as goal

pub returns-clause-runs : goal.returns-clause-runs
returns-clause-runs c =
    let p = c.args.place.now in
    let size = length c.args.block.now in
    ap runs_of c.write_entry.ensures ∙ runs_again p.geometry c.requires.place.geometry c.args.blocks.now size c.requires.volume c.requires.some c.requires.few

pub returns-clause-blocks : goal.returns-clause-blocks
returns-clause-blocks c =
    let p = c.args.place.now in
    let size = length c.args.block.now in
    ap (λ (l : List ℕ). blocks_in p.geometry (runs_of l)) c.write_entry.ensures
    ∙ ap (λ (rs : List Run). blocks_in p.geometry rs) (runs_again p.geometry c.requires.place.geometry c.args.blocks.now size c.requires.volume c.requires.some c.requires.few)
    ∙ blocks_again p.geometry c.requires.place.geometry c.args.blocks.now

pub returns-clause-entry : goal.returns-clause-entry
returns-clause-entry c = λ homes room.
    let p = c.args.place.now in
    let size = length c.args.block.now in
    subst (IsEntry p) (sym c.write_entry.ensures)
    (entry_again p.geometry c.requires.place.geometry c.args.blocks.now size c.requires.volume c.requires.some c.requires.few p refl homes room)
