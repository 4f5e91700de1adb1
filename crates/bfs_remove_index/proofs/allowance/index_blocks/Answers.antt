use Rattle.std.proofs.Common.{◌∙◌, sym, subst}
use Rattle.bfs_node.specs.declared.fault.TreeFault.TheVariants.{Pages}
use Rattle.bfs_stream.specs.declared.fault.GrowFault.TheVariants.{Block}
use Rattle.bfs_maps.specs.Refused.{IsUndone}
use Rattle.bfs_query.specs.Indices.{IsIndexFound}
use Rattle.bfs_calls.specs.Done.{HasAnswerCause}
use Rattle.bfs_calls.proofs.Faulting.{read_cause, cause_earlier, caused_in}
use Rattle.bfs_remove_index.proofs.Allowed.{counted_none, counted_some, index_told, index_stands}
use Rattle.bfs_remove_index.proofs.allowance.index_blocks.Goals as goal

pub returns-in-Err-clause-counted : goal.returns-in-Err-clause-counted
returns-in-Err-clause-counted g c m tree lists told ready = c.in-Err.ensures.found m tree lists told ready

pub returns-in-Err-clause-cause : goal.returns-in-Err-clause-cause
returns-in-Err-clause-cause g c = read_cause (g.E.Blocks.counts c.args.edits.now) (g.E.Blocks.counts c.index_at.new.edits) c.in-Err.fault c.in-Err.ensures.cause

pub returns-in-None-clause-counted : goal.returns-in-None-clause-counted
returns-in-None-clause-counted g c m tree lists told ready =
    let name = c.args.name.now in
    counted_none c.args.sup.now c.args.bitmap.now m tree lists c.requires.valid ready name (subst (IsIndexFound lists name) c.in-None.is (c.in-Ok.ensures.found m tree lists told ready))

pub returns-in-Ok-stream_blocks_of-clause-counted : goal.returns-in-Ok-stream_blocks_of-clause-counted
returns-in-Ok-stream_blocks_of-clause-counted g c m tree lists told ready =
    let s = c.args.sup.now in
    let v = c.args.bitmap.now in
    let name = c.args.name.now in
    let inode = c.in-Some.at.inode in
    let found = subst (IsIndexFound lists name) c.in-Some.is (c.in-Ok.ensures.found m tree lists told ready) in
    let there = index_told s v m tree lists c.requires.valid ready name inode found.0 in
    let stands = index_stands s v m tree lists c.requires.valid ready name inode found.0 in
    counted_some s v m tree lists c.requires.valid ready name inode found.0 c.in-Ok-stream_blocks_of.blocks (c.in-Ok-stream_blocks_of.ensures.counted m (c.in-Ok.ensures.told ∙ told) there stands)

pub returns-in-Err-stream_blocks_of-clause-counted : goal.returns-in-Err-stream_blocks_of-clause-counted
returns-in-Err-stream_blocks_of-clause-counted g c m tree lists told ready = subst IsUndone (sym c.blocked.ensures) c.in-Err-stream_blocks_of.ensures.sound

pub returns-in-Err-stream_blocks_of-clause-cause : goal.returns-in-Err-stream_blocks_of-clause-cause
returns-in-Err-stream_blocks_of-clause-cause g c =
    let old = g.E.Blocks.counts c.args.edits.now in
    let mid = g.E.Blocks.counts c.index_at.new.edits in
    let new = g.E.Blocks.counts c.stream_blocks_of.new.under in
    let fault = c.in-Err-stream_blocks_of.fault in
    subst (HasAnswerCause old new) (sym c.blocked.ensures) (cause_earlier old mid new (Pages (Block fault)) c.in-Ok.ensures.later (caused_in mid new fault c.in-Err-stream_blocks_of.ensures.cause))
