use Rattle.std.proofs.Common.{◌≡◌, ◌≢◌, ◌∙◌, ℕ, sym, ap, subst}
use Rattle.bfs_base.specs.declared.kind.KeyKind.TheVariants.{Text}
use Rattle.bfs_super.specs.Conditions.{block_of_run}
use Rattle.bfs_stream.specs.Sizes.{Origin, sizes_of}
use Rattle.bfs_stream_pages.specs.Held.{stream_of}
use Rattle.bfs_make.specs.Mapped.{HasReadable}
use Rattle.bfs_make.specs.NumberTrees.{HoldsNumber, IsNumberAt}
use Rattle.bfs_dir.specs.Directories.{names_of}
use Rattle.bfs_moves.proofs.Found.{names_hold, number_found}
use Rattle.bfs_moves.proofs.find.find_index.Goals as goal

pub get-requires-clause-stream : goal.get-requires-clause-stream
get-requires-clause-stream g c m told =
    let s = c.args.sup.now in
    let there : block_of_run s s.indices ≢ 0 = λ e. c.if-inode-eq0.false (c.block_of-inode.ensures ∙ e) in
    let o : Origin = record { id = block_of_run s s.indices; sizes = sizes_of s } in
    let at : c.at-directory.result ≡ o = c.at-directory.ensures ∙ ap (λ (i : ℕ). record { id = i; sizes = sizes_of s }) c.block_of-inode.ensures in
    subst (λ (x : Origin). HasReadable x m) (sym at) (c.requires.directory m told there)

pub returns-in-Ok-clause-found : goal.returns-in-Ok-clause-found
returns-in-Ok-clause-found g c m tree lists loose told work numbers =
    let s = c.args.sup.now in
    let v = c.args.bitmap.now in
    let there : block_of_run s s.indices ≢ 0 = λ e. c.if-inode-eq0.false (c.block_of-inode.ensures ∙ e) in
    let o : Origin = record { id = block_of_run s s.indices; sizes = sizes_of s } in
    let at : c.at-directory.result ≡ o = c.at-directory.ensures ∙ ap (λ (i : ℕ). record { id = i; sizes = sizes_of s }) c.block_of-inode.ensures in
    let whole = subst (λ (x : Origin). HoldsNumber Text c.args.name.now (stream_of x m)) (sym at) (names_hold s v m tree lists loose c.requires.valid work there c.args.name.now c.requires.name numbers) in
    number_found s v m tree lists loose c.requires.valid work there c.args.name.now c.requires.name c.in-Ok.found
    (subst (λ (x : Origin). IsNumberAt Text (names_of x m) c.args.name.now c.in-Ok.found) at (c.in-Ok.ensures.found m told whole))

pub returns-in-Err-clause-found : goal.returns-in-Err-clause-found
returns-in-Err-clause-found g c m tree lists loose told work numbers =
    let s = c.args.sup.now in
    let v = c.args.bitmap.now in
    let there : block_of_run s s.indices ≢ 0 = λ e. c.if-inode-eq0.false (c.block_of-inode.ensures ∙ e) in
    let o : Origin = record { id = block_of_run s s.indices; sizes = sizes_of s } in
    let at : c.at-directory.result ≡ o = c.at-directory.ensures ∙ ap (λ (i : ℕ). record { id = i; sizes = sizes_of s }) c.block_of-inode.ensures in
    c.in-Err.ensures.found m told (subst (λ (x : Origin). HoldsNumber Text c.args.name.now (stream_of x m)) (sym at) (names_hold s v m tree lists loose c.requires.valid work there c.args.name.now c.requires.name numbers))

pub returns-in-Ok-clause-names : goal.returns-in-Ok-clause-names
returns-in-Ok-clause-names g c m told there holds =
    let s = c.args.sup.now in
    let o : Origin = record { id = block_of_run s s.indices; sizes = sizes_of s } in
    let at : c.at-directory.result ≡ o = c.at-directory.ensures ∙ ap (λ (i : ℕ). record { id = i; sizes = sizes_of s }) c.block_of-inode.ensures in
    subst (λ (x : Origin). IsNumberAt Text (names_of x m) c.args.name.now c.in-Ok.found) at
    (c.in-Ok.ensures.found m told (subst (λ (x : Origin). HoldsNumber Text c.args.name.now (stream_of x m)) (sym at) holds))

pub returns-in-Err-clause-names : goal.returns-in-Err-clause-names
returns-in-Err-clause-names g c m told there holds =
    let s = c.args.sup.now in
    let o : Origin = record { id = block_of_run s s.indices; sizes = sizes_of s } in
    let at : c.at-directory.result ≡ o = c.at-directory.ensures ∙ ap (λ (i : ℕ). record { id = i; sizes = sizes_of s }) c.block_of-inode.ensures in
    c.in-Err.ensures.found m told (subst (λ (x : Origin). HoldsNumber Text c.args.name.now (stream_of x m)) (sym at) holds)
