use Rattle.std.proofs.Common.{rules, ◌≡◌, ◌≢◌, ◌∙◌, ℕ, [], length, None, sym, ap, subst}
use Rattle.bfs_base.specs.declared.kind.KeyKind.TheVariants.{Text}
use Rattle.bfs_super.specs.Conditions.{block_of_run, natural}
use Rattle.bfs_range.specs.Ranges.{rows_between}
use Rattle.bfs_stream.specs.Sizes.{sizes_of}
use Rattle.bfs_stream_pages.specs.Held.{stream_of}
use Rattle.bfs_values.specs.Reached.{IsWholeTree}
use Rattle.bfs_values.specs.Rows.{rows_in}
use Rattle.bfs_maps.specs.Mapped.{HasReadable}
use Rattle.bfs_attr.specs.Directories.{AreInodes, inode_rows}
use Rattle.bfs_moves.proofs.Found.{names_readable}
use Rattle.bfs_remove_index.proofs.Indexed.{names_tree, names_inodes}
use Rattle.bfs_index_make.proofs.Counted.{none_counted, all_counted}
use Rattle.bfs_index_make.proofs.refusal.index_count.Goals as goal

pub returns-then-directory-eq0-clause-counted : goal.returns-then-directory-eq0-clause-counted
returns-then-directory-eq0-clause-counted g c v m tree lists told ready =
    none_counted c.args.sup.now v m tree lists ready (sym c.block_of-directory.ensures ∙ c.if-directory-eq0.true)

pub named_inodes-requires-clause-stream : goal.named_inodes-requires-clause-stream
named_inodes-requires-clause-stream g c m told =
    let s = c.args.sup.now in
    let there : block_of_run s s.indices ≢ 0 = λ e. c.if-directory-eq0.false (c.block_of-directory.ensures ∙ e) in
    let h = c.requires.ready m told in
    subst (λ (i : ℕ). HasReadable (record { id = i; sizes = sizes_of s }) m) (sym c.block_of-directory.ensures) (names_readable s h.0 m h.1.tree h.1.lists [] c.requires.valid h.1.ready.work there)

pub returns-in-Ok-clause-counted : goal.returns-in-Ok-clause-counted
returns-in-Ok-clause-counted g c v m tree lists told ready =
    let s = c.args.sup.now in
    let there : block_of_run s s.indices ≢ 0 = λ e. c.if-directory-eq0.false (c.block_of-directory.ensures ∙ e) in
    let whole = subst (λ (i : ℕ). IsWholeTree Text (stream_of (record { id = i; sizes = sizes_of s }) m)) (sym c.block_of-directory.ensures) (names_tree s v m tree lists c.requires.valid ready there) in
    let inodes = subst (λ (i : ℕ). AreInodes (natural s.num_blocks) (rows_in Text (stream_of (record { id = i; sizes = sizes_of s }) m))) (sym c.block_of-directory.ensures) (names_inodes s v m tree lists c.requires.valid ready there) in
    let are = c.in-Ok.ensures.found m told whole inodes ∙ ap (λ (i : ℕ). inode_rows (rows_between Text None None (rows_in Text (stream_of (record { id = i; sizes = sizes_of s }) m)))) c.block_of-directory.ensures in
    let n : c.len.result ≡ length c.in-Ok.named.items = search rules in
    n ∙ all_counted s v m tree lists ready c.requires.valid there c.in-Ok.named.items are

pub returns-in-Err-clause-counted : goal.returns-in-Err-clause-counted
returns-in-Err-clause-counted g c v m tree lists told ready =
    let s = c.args.sup.now in
    let there : block_of_run s s.indices ≢ 0 = λ e. c.if-directory-eq0.false (c.block_of-directory.ensures ∙ e) in
    let whole = subst (λ (i : ℕ). IsWholeTree Text (stream_of (record { id = i; sizes = sizes_of s }) m)) (sym c.block_of-directory.ensures) (names_tree s v m tree lists c.requires.valid ready there) in
    let inodes = subst (λ (i : ℕ). AreInodes (natural s.num_blocks) (rows_in Text (stream_of (record { id = i; sizes = sizes_of s }) m))) (sym c.block_of-directory.ensures) (names_inodes s v m tree lists c.requires.valid ready there) in
    c.in-Err.ensures.found m told whole inodes
