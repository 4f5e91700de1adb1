use Rattle.std.proofs.Common.{◌≡◌, ℕ, List, Option, Bool, sym, subst}
use Rattle.std.specs.Prelude.{IsSome}
use Rattle.bfs_base.specs.declared.kind.KeyKind.TheVariants.{Text}
use Rattle.bfs_pages.specs.Maps.{assoc, without}
use Rattle.std.proofs.Common.{pos, Some}
use Rattle.bfs_super.specs.Geometry.{geometry_of}
use Rattle.bfs_stream.specs.Sizes.{sizes_of}
use Rattle.bfs_stream.specs.Told.{contents}
use Rattle.bfs_maps.specs.Mapped.{HasHeld, rows_of}
use Rattle.bfs_maps.specs.Refused.{IsUndone, IsTakeFault}
use Rattle.bfs_maps.specs.RowTrees.{HasTreeWith, IsRowTree}
use Rattle.bfs_moves.specs.Written.{HasBlockWords, HasStreamSince}
use Rattle.bfs_moves.proofs.Named.{still_there}
use Rattle.bfs_calls.specs.Done.{HasAnswerCause}
use Rattle.bfs_calls.proofs.Faulting.{read_cause, cause_earlier}
use Rattle.bfs_remove_index.specs.Removed.{HasIndexTaken}
use Rattle.bfs_remove_index.proofs.Faulting.{take_undone, take_cause}
use Rattle.bfs_remove_index.proofs.Known.{directory_held, directory_tree, row_found, row_there}
use Rattle.bfs_remove_index.proofs.Taken.{index_taken}
use Rattle.bfs_remove_index.proofs.names.take_index.Goals as goal

pub take_from-requires-clause-stream : goal.take_from-requires-clause-stream
take_from-requires-clause-stream g c m told =
    let s = c.args.sup.now in
    let v = c.args.bitmap.now in
    let h = c.requires.ready m told in
    let own = c.requires.there m h.tree h.lists told h.ready in
    subst (λ (i : ℕ). HasHeld (record { id = i; sizes = sizes_of s }) v m) (sym c.block_of-directory.ensures) (directory_held s v m h.tree h.lists c.requires.valid h.ready c.args.name.now own)

pub returns-in-Err-clause-undone : goal.returns-in-Err-clause-undone
returns-in-Err-clause-undone g c m tree lists told ready =
    let s = c.args.sup.now in
    let v = c.args.bitmap.now in
    let name = c.args.name.now in
    let own = c.requires.there m tree lists told ready in
    let at = c.block_of-directory.ensures in
    let refused = c.in-Err.ensures.refused m told (subst (λ (i : ℕ). HasTreeWith Text name (record { id = i; sizes = sizes_of s }) v m) (sym at) (directory_tree s v m tree lists c.requires.valid ready name own)) in
    let here = subst (λ (i : ℕ). IsTakeFault Text (rows_of Text (record { id = i; sizes = sizes_of s }) m) name c.in-Err.fault) at refused in
    subst IsUndone (sym c.not_taken.ensures) (take_undone (rows_of Text (record { id = (geometry_of s).indices; sizes = sizes_of s }) m) name c.block_of-directory.result c.in-Err.fault (row_there s v m tree lists c.requires.valid ready name own) here)

pub returns-in-Err-clause-cause : goal.returns-in-Err-clause-cause
returns-in-Err-clause-cause g c =
    let old = g.E.Blocks.counts c.args.edits.now in
    let new = g.E.Blocks.counts c.take_from.new.edits in
    subst (HasAnswerCause old new) (sym c.not_taken.ensures) (take_cause old new c.block_of-directory.result c.in-Err.fault c.in-Err.ensures.cause)

pub returns-in-Ok-check_inode-clause-row : goal.returns-in-Ok-check_inode-clause-row
returns-in-Ok-check_inode-clause-row g c m tree lists told ready =
    let s = c.args.sup.now in
    let v = c.args.bitmap.now in
    let name = c.args.name.now in
    let own = c.requires.there m tree lists told ready in
    let at = c.block_of-directory.ensures in
    let number = c.in-Ok.ensures.number m told (subst (λ (i : ℕ). HasTreeWith Text name (record { id = i; sizes = sizes_of s }) v m) (sym at) (directory_tree s v m tree lists c.requires.valid ready name own)) in
    row_found s v m tree lists c.requires.valid ready name own c.in-Ok.inode
    (subst (λ (i : ℕ). assoc Text (rows_of Text (record { id = i; sizes = sizes_of s }) m) name ≡ Some (pos c.in-Ok.inode)) at number)

pub returns-in-Ok-check_inode-clause-taken : goal.returns-in-Ok-check_inode-clause-taken
returns-in-Ok-check_inode-clause-taken g c m tree lists told ready =
    let s = c.args.sup.now in
    let v = c.args.bitmap.now in
    let name = c.args.name.now in
    let now = c.take_from.new.bitmap in
    let d = (geometry_of s).indices in
    let own = c.requires.there m tree lists told ready in
    let at = c.block_of-directory.ensures in
    let old = g.E.Blocks.changed c.args.edits.now in
    let told_now = g.E.Blocks.told c.take_from.new.edits in
    let changed_now = g.E.Blocks.changed c.take_from.new.edits in
    let whole = subst (λ (i : ℕ). HasTreeWith Text name (record { id = i; sizes = sizes_of s }) v m) (sym at) (directory_tree s v m tree lists c.requires.valid ready name own) in
    let row = row_found s v m tree lists c.requires.valid ready name own c.in-Ok.inode
    (subst (λ (i : ℕ). assoc Text (rows_of Text (record { id = i; sizes = sizes_of s }) m) name ≡ Some (pos c.in-Ok.inode)) at (c.in-Ok.ensures.number m told whole)) in
    let written = subst (λ (i : ℕ). HasStreamSince (record { id = i; sizes = sizes_of s }) v now m (IsRowTree Text (without Text (rows_of Text (record { id = i; sizes = sizes_of s }) m) name)) told_now old changed_now) at
    (c.in-Ok.ensures.taken m told whole) in
    let map = written.since.map in
    let there = still_there s m d v now (IsRowTree Text (without Text (rows_of Text (record { id = d; sizes = sizes_of s }) m) name)) told_now old changed_now written in
    let words = subst (λ (i : ℕ). HasBlockWords (contents map i)) at (c.in-Ok-check_inode.ensures.words map written.since.is (subst (λ (i : ℕ). IsSome (map i)) (sym at) there)) in
    let taken = index_taken s v now m tree lists name c.in-Ok.inode told_now old changed_now c.requires.valid ready.work row written words in
    subst (λ (t : Option (ℕ → Option (List ℕ))). HasIndexTaken (geometry_of s) v now m tree lists name c.in-Ok.inode t old (g.E.Blocks.changed c.check_inode.new.under)) (sym c.check_inode.ensures.told)
    (subst (λ (after : ℕ → Bool). HasIndexTaken (geometry_of s) v now m tree lists name c.in-Ok.inode told_now old after) (sym c.check_inode.ensures.changed) taken)

pub returns-in-Err-check_inode-clause-undone : goal.returns-in-Err-check_inode-clause-undone
returns-in-Err-check_inode-clause-undone g c m tree lists told ready = c.in-Err-check_inode.ensures.undone

pub returns-in-Err-check_inode-clause-cause : goal.returns-in-Err-check_inode-clause-cause
returns-in-Err-check_inode-clause-cause g c =
    let old = g.E.Blocks.counts c.args.edits.now in
    let mid = g.E.Blocks.counts c.take_from.new.edits in
    let new = g.E.Blocks.counts c.check_inode.new.under in
    cause_earlier old mid new c.in-Err-check_inode.fault c.in-Ok.ensures.later (read_cause mid new c.in-Err-check_inode.fault c.in-Err-check_inode.ensures.read_cause)
