use Rattle.std.proofs.Common.{◌≢◌, ◌∙◌, [], ℕ, Bool, None, sym, ap, subst}
use Rattle.bfs_base.specs.declared.kind.KeyKind.TheVariants.{Text}
use Rattle.bfs_super.specs.Conditions.{block_of_run, natural}
use Rattle.bfs_super.specs.Geometry.{geometry_of}
use Rattle.bfs_range.specs.Ranges.{rows_between}
use Rattle.bfs_stream.specs.Sizes.{sizes_of}
use Rattle.bfs_stream_pages.specs.Held.{stream_of}
use Rattle.bfs_values.specs.Reached.{IsWholeTree}
use Rattle.bfs_values.specs.Rows.{rows_in}
use Rattle.bfs_maps.specs.Mapped.{HasReadable}
use Rattle.bfs_attr.specs.Directories.{AreInodes, inode_rows}
use Rattle.bfs_shift.specs.Work.{IsStepped}
use Rattle.bfs_moves.proofs.Ends.{goes_on_same}
use Rattle.bfs_moves.proofs.Found.{names_readable}
use Rattle.bfs_query.proofs.Indexed.{names_tree, names_inodes, named_are, named_rows}
use Rattle.bfs_unlist.proofs.Indexed.{no_names, unlisting_begins}
use Rattle.bfs_unlist.proofs.Partly.{none_without, partly_ends}
use Rattle.bfs_unlist.proofs.unlisting.unlist_node.Goals as goal

pub returns-then-directory-eq0-clause-unlisted : goal.returns-then-directory-eq0-clause-unlisted
returns-then-directory-eq0-clause-unlisted g c m tree lists n told ready there apart =
    let s = c.args.sup.now in
    let v = c.args.bitmap.now in
    record {
      last = lists;
      step = record { map = m; is = told; work = ready.work; goes_on = goes_on_same (geometry_of s) v m tree (g.E.Blocks.changed c.args.edits.now) };
      without = none_without lists c.args.id (no_names s v m tree lists ready (sym c.block_of-directory.ensures ∙ c.if-directory-eq0.true));
    }

pub returns-in-Err-clause-refused : goal.returns-in-Err-clause-refused
returns-in-Err-clause-refused g c m tree lists n told ready there apart = c.in-Err.ensures.info c.args.bitmap.now m tree lists n told ready there

pub named_inodes-requires-clause-stream : goal.named_inodes-requires-clause-stream
named_inodes-requires-clause-stream g c m told =
    let s = c.args.sup.now in
    let some : block_of_run s s.indices ≢ 0 = λ e. c.if-directory-eq0.false (c.block_of-directory.ensures ∙ e) in
    let h = c.requires.node m (sym c.in-Ok.ensures.told ∙ told) in
    subst (λ (i : ℕ). HasReadable (record { id = i; sizes = sizes_of s }) m) (sym c.block_of-directory.ensures) (names_readable s c.args.bitmap.now m h.tree h.lists [] c.requires.valid h.ready.work some)

pub returns-in-Err-named_inodes-clause-refused : goal.returns-in-Err-named_inodes-clause-refused
returns-in-Err-named_inodes-clause-refused g c m tree lists n told ready there apart =
    let s = c.args.sup.now in
    let v = c.args.bitmap.now in
    let some : block_of_run s s.indices ≢ 0 = λ e. c.if-directory-eq0.false (c.block_of-directory.ensures ∙ e) in
    let whole = subst (λ (i : ℕ). IsWholeTree Text (stream_of (record { id = i; sizes = sizes_of s }) m)) (sym c.block_of-directory.ensures) (names_tree s v m tree lists c.requires.valid ready some) in
    let inodes = subst (λ (i : ℕ). AreInodes (natural s.num_blocks) (rows_in Text (stream_of (record { id = i; sizes = sizes_of s }) m))) (sym c.block_of-directory.ensures) (names_inodes s v m tree lists c.requires.valid ready some) in
    c.in-Err-named_inodes.ensures.found m (c.in-Ok.ensures.told ∙ told) whole inodes

pub unlist_from_all-requires-clause-node : goal.unlist_from_all-requires-clause-node
unlist_from_all-requires-clause-node g c m told =
    let s = c.args.sup.now in
    let v = c.args.bitmap.now in
    let between = sym c.in-Ok-named_inodes.ensures.told ∙ told in
    let before = sym c.in-Ok.ensures.told ∙ between in
    let h = c.requires.node m before in
    let some : block_of_run s s.indices ≢ 0 = λ e. c.if-directory-eq0.false (c.block_of-directory.ensures ∙ e) in
    let whole = subst (λ (i : ℕ). IsWholeTree Text (stream_of (record { id = i; sizes = sizes_of s }) m)) (sym c.block_of-directory.ensures) (names_tree s v m h.tree h.lists c.requires.valid h.ready some) in
    let inodes = subst (λ (i : ℕ). AreInodes (natural s.num_blocks) (rows_in Text (stream_of (record { id = i; sizes = sizes_of s }) m))) (sym c.block_of-directory.ensures) (names_inodes s v m h.tree h.lists c.requires.valid h.ready some) in
    let are = c.deref.ensures.value ∙ c.in-Ok-named_inodes.ensures.found m between whole inodes ∙ ap (λ (i : ℕ). inode_rows (rows_between Text None None (rows_in Text (stream_of (record { id = i; sizes = sizes_of s }) m)))) c.block_of-directory.ensures in
    record {
      tree = h.tree;
      lists = h.lists;
      now = h.lists;
      unlisting = unlisting_begins s v m h.tree h.lists c.args.id h.node c.in-Ok.info c.deref.result.now h.ready h.there h.apart (c.in-Ok.ensures.info v m h.tree h.lists h.node before h.ready h.there)
          (named_are s v m h.tree h.lists c.requires.valid h.ready some _ are) (named_rows s v m h.tree h.lists c.requires.valid h.ready some _ are);
    }

pub returns-in-Ok-unlist_from_all-clause-unlisted : goal.returns-in-Ok-unlist_from_all-clause-unlisted
returns-in-Ok-unlist_from_all-clause-unlisted g c m tree lists n told ready there apart =
    let s = c.args.sup.now in
    let v = c.args.bitmap.now in
    let between = c.in-Ok.ensures.told ∙ told in
    let some : block_of_run s s.indices ≢ 0 = λ e. c.if-directory-eq0.false (c.block_of-directory.ensures ∙ e) in
    let whole = subst (λ (i : ℕ). IsWholeTree Text (stream_of (record { id = i; sizes = sizes_of s }) m)) (sym c.block_of-directory.ensures) (names_tree s v m tree lists c.requires.valid ready some) in
    let inodes = subst (λ (i : ℕ). AreInodes (natural s.num_blocks) (rows_in Text (stream_of (record { id = i; sizes = sizes_of s }) m))) (sym c.block_of-directory.ensures) (names_inodes s v m tree lists c.requires.valid ready some) in
    let are = c.deref.ensures.value ∙ c.in-Ok-named_inodes.ensures.found m between whole inodes ∙ ap (λ (i : ℕ). inode_rows (rows_between Text None None (rows_in Text (stream_of (record { id = i; sizes = sizes_of s }) m)))) c.block_of-directory.ensures in
    let begun = unlisting_begins s v m tree lists c.args.id n c.in-Ok.info c.deref.result.now ready there apart (c.in-Ok.ensures.info v m tree lists n told ready there)
    (named_are s v m tree lists c.requires.valid ready some _ are) (named_rows s v m tree lists c.requires.valid ready some _ are) in
    let p = c.in-Ok-unlist_from_all.ensures.unlisted m tree lists lists (c.in-Ok-named_inodes.ensures.told ∙ between) begun in
    record {
      last = p.last;
      step = subst (λ (f : ℕ → Bool). IsStepped (geometry_of s) v c.unlist_from_all.new.bitmap m tree tree p.last [] (g.E.Blocks.told c.unlist_from_all.new.edits) f (g.E.Blocks.changed c.unlist_from_all.new.edits)) (c.in-Ok-named_inodes.ensures.changed ∙ c.in-Ok.ensures.changed) p.step;
      without = partly_ends tree lists p.last c.args.id ready.agrees p.partly;
    }

pub returns-clause-refused : goal.returns-clause-refused
returns-clause-refused g c m tree lists n told ready there apart =
    let s = c.args.sup.now in
    let v = c.args.bitmap.now in
    let between = c.in-Ok.ensures.told ∙ told in
    let some : block_of_run s s.indices ≢ 0 = λ e. c.if-directory-eq0.false (c.block_of-directory.ensures ∙ e) in
    let whole = subst (λ (i : ℕ). IsWholeTree Text (stream_of (record { id = i; sizes = sizes_of s }) m)) (sym c.block_of-directory.ensures) (names_tree s v m tree lists c.requires.valid ready some) in
    let inodes = subst (λ (i : ℕ). AreInodes (natural s.num_blocks) (rows_in Text (stream_of (record { id = i; sizes = sizes_of s }) m))) (sym c.block_of-directory.ensures) (names_inodes s v m tree lists c.requires.valid ready some) in
    let are = c.deref.ensures.value ∙ c.in-Ok-named_inodes.ensures.found m between whole inodes ∙ ap (λ (i : ℕ). inode_rows (rows_between Text None None (rows_in Text (stream_of (record { id = i; sizes = sizes_of s }) m)))) c.block_of-directory.ensures in
    let begun = unlisting_begins s v m tree lists c.args.id n c.in-Ok.info c.deref.result.now ready there apart (c.in-Ok.ensures.info v m tree lists n told ready there)
    (named_are s v m tree lists c.requires.valid ready some _ are) (named_rows s v m tree lists c.requires.valid ready some _ are) in
    c.in-Err-unlist_from_all.ensures.refused m tree lists lists (c.in-Ok-named_inodes.ensures.told ∙ between) begun
