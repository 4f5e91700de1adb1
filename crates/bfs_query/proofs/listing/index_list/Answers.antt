use Rattle.std.proofs.Common.{◌≢◌, ◌∙◌, sym, ap, subst, ℕ, List, [], None}
use Rattle.std.specs.FinMap.{entries}
use Rattle.bfs_base.specs.declared.kind.KeyKind.TheVariants.{Text}
use Rattle.bfs_super.specs.Conditions.{block_of_run, natural}
use Rattle.bfs_range.specs.Ranges.{rows_between}
use Rattle.bfs_stream_pages.specs.Held.{stream_of}
use Rattle.bfs_values.specs.Reached.{IsWholeTree}
use Rattle.bfs_values.specs.Rows.{rows_in}
use Rattle.bfs_attr.specs.Directories.{AreInodes, inode_rows}
use Rattle.bfs_stream.specs.Sizes.{sizes_of}
use Rattle.bfs_maps.specs.Mapped.{HasReadable}
use Rattle.bfs_tree.specs.Answers.{rows_of_indices}
use Rattle.bfs_tree.specs.Steps.{Reads}
use Rattle.bfs_tree.specs.Trees.{Tree}
use Rattle.bfs_tree.specs.declared.call.Call.TheVariants as calls
use Rattle.bfs_tree.specs.declared.reply.Reply.TheVariants as replies
use Rattle.bfs_tree.specs.declared.rows.IndexRow.{IndexRow}
use Rattle.bfs_moves.proofs.Found.{names_readable}
use Rattle.bfs_look.proofs.Replying.{indices_found}
use Rattle.bfs_query.proofs.Indexed.{no_indices, names_tree, names_inodes, named_rows, told_rows}
use Rattle.bfs_query.proofs.listing.index_list.Goals as goal

pub returns-then-directory-eq0-clause-reads : goal.returns-then-directory-eq0-clause-reads
returns-then-directory-eq0-clause-reads g c m tree lists st told ready same =
    let s = c.args.sup.now in
    let none = no_indices s c.args.bitmap.now m tree lists ready (sym c.block_of-directory.ensures ∙ c.if-directory-eq0.true) in
    subst (λ (l : List IndexRow). Reads calls.IndexList st (replies.Indices l)) (ap (λ (t : Tree). rows_of_indices (entries t.indices)) same ∙ none ∙ sym (c.new-then-directory-eq0.ensures ∙ c.new.ensures.items)) (indices_found st)

pub named_inodes-requires-clause-stream : goal.named_inodes-requires-clause-stream
named_inodes-requires-clause-stream g c m told =
    let s = c.args.sup.now in
    let there : block_of_run s s.indices ≢ 0 = λ e. c.if-directory-eq0.false (c.block_of-directory.ensures ∙ e) in
    let h = c.requires.ready m told in
    subst (λ (i : ℕ). HasReadable (record { id = i; sizes = sizes_of s }) m) (sym c.block_of-directory.ensures) (names_readable s c.args.bitmap.now m h.tree h.lists [] c.requires.valid h.ready.work there)

pub returns-in-Err-clause-reads : goal.returns-in-Err-clause-reads
returns-in-Err-clause-reads g c m tree lists st told ready same =
    let s = c.args.sup.now in
    let v = c.args.bitmap.now in
    let there : block_of_run s s.indices ≢ 0 = λ e. c.if-directory-eq0.false (c.block_of-directory.ensures ∙ e) in
    let whole = subst (λ (i : ℕ). IsWholeTree Text (stream_of (record { id = i; sizes = sizes_of s }) m)) (sym c.block_of-directory.ensures) (names_tree s v m tree lists c.requires.valid ready there) in
    let inodes = subst (λ (i : ℕ). AreInodes (natural s.num_blocks) (rows_in Text (stream_of (record { id = i; sizes = sizes_of s }) m))) (sym c.block_of-directory.ensures) (names_inodes s v m tree lists c.requires.valid ready there) in
    c.in-Err.ensures.found m told whole inodes

pub returns-in-Ok-rows_of-clause-reads : goal.returns-in-Ok-rows_of-clause-reads
returns-in-Ok-rows_of-clause-reads g c m tree lists st told ready same =
    let s = c.args.sup.now in
    let v = c.args.bitmap.now in
    let there : block_of_run s s.indices ≢ 0 = λ e. c.if-directory-eq0.false (c.block_of-directory.ensures ∙ e) in
    let whole = subst (λ (i : ℕ). IsWholeTree Text (stream_of (record { id = i; sizes = sizes_of s }) m)) (sym c.block_of-directory.ensures) (names_tree s v m tree lists c.requires.valid ready there) in
    let inodes = subst (λ (i : ℕ). AreInodes (natural s.num_blocks) (rows_in Text (stream_of (record { id = i; sizes = sizes_of s }) m))) (sym c.block_of-directory.ensures) (names_inodes s v m tree lists c.requires.valid ready there) in
    let are = c.deref.ensures.value ∙ c.in-Ok.ensures.found m told whole inodes ∙ ap (λ (i : ℕ). inode_rows (rows_between Text None None (rows_in Text (stream_of (record { id = i; sizes = sizes_of s }) m)))) c.block_of-directory.ensures in
    let rows = c.in-Ok-rows_of.ensures.rows v m tree lists (c.in-Ok.ensures.told ∙ told) ready (named_rows s v m tree lists c.requires.valid ready there _ are) in
    subst (λ (l : List IndexRow). Reads calls.IndexList st (replies.Indices l))
    (ap (λ (t : Tree). rows_of_indices (entries t.indices)) same ∙ sym (c.new-in-Ok-rows_of.ensures ∙ rows ∙ told_rows s v m tree lists c.requires.valid ready there _ are)) (indices_found st)

pub returns-clause-reads : goal.returns-clause-reads
returns-clause-reads g c m tree lists st told ready same =
    let s = c.args.sup.now in
    let v = c.args.bitmap.now in
    let there : block_of_run s s.indices ≢ 0 = λ e. c.if-directory-eq0.false (c.block_of-directory.ensures ∙ e) in
    let whole = subst (λ (i : ℕ). IsWholeTree Text (stream_of (record { id = i; sizes = sizes_of s }) m)) (sym c.block_of-directory.ensures) (names_tree s v m tree lists c.requires.valid ready there) in
    let inodes = subst (λ (i : ℕ). AreInodes (natural s.num_blocks) (rows_in Text (stream_of (record { id = i; sizes = sizes_of s }) m))) (sym c.block_of-directory.ensures) (names_inodes s v m tree lists c.requires.valid ready there) in
    let are = c.deref.ensures.value ∙ c.in-Ok.ensures.found m told whole inodes ∙ ap (λ (i : ℕ). inode_rows (rows_between Text None None (rows_in Text (stream_of (record { id = i; sizes = sizes_of s }) m)))) c.block_of-directory.ensures in
    c.in-Err-rows_of.ensures.rows v m tree lists (c.in-Ok.ensures.told ∙ told) ready (named_rows s v m tree lists c.requires.valid ready there _ are)
