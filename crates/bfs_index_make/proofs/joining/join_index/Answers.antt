use Rattle.std.proofs.Common.{ℕ, pos, List, [], ◌++◌, Option, Bool, sym, subst}
use Rattle.std.specs.Prelude.{IsSome}
use Rattle.bfs_base.specs.declared.kind.KeyKind.TheVariants.{Text}
use Rattle.bfs_super.specs.Geometry.{geometry_of}
use Rattle.bfs_pages.specs.Maps.{put}
use Rattle.bfs_stream.specs.Sizes.{sizes_of}
use Rattle.bfs_stream.specs.Told.{contents}
use Rattle.bfs_maps.specs.Mapped.{HasHeld, rows_of}
use Rattle.bfs_maps.specs.Refused.{IsPutFault}
use Rattle.bfs_maps.specs.RowTrees.{HasTree, IsRowTree}
use Rattle.bfs_sound.specs.Inodes.{inode_blocks}
use Rattle.bfs_shift.specs.Shifts.{volume_in}
use Rattle.bfs_moves.specs.Written.{HasBlockWords, HasStreamSince}
use Rattle.bfs_moves.proofs.Named.{still_there}
use Rattle.bfs_calls.specs.Done.{IsUnanswered}
use Rattle.bfs_calls.proofs.Faulting.{put_unanswered}
use Rattle.bfs_index_make.specs.Made.{HasIndexJoined}
use Rattle.bfs_index_make.proofs.Joined.{good_proper, directory_held, directory_tree, none_there, index_has_joined}
use Rattle.bfs_index_make.proofs.joining.join_index.Goals as goal

pub put_into-requires-clause-stream : goal.put_into-requires-clause-stream
put_into-requires-clause-stream g c m told =
    let s = c.args.sup.now in
    let v = c.args.bitmap.now in
    let h = c.requires.loose m told in
    subst (λ (i : ℕ). HasHeld (record { id = i; sizes = sizes_of s }) v m) (sym c.block_of-directory.ensures)
    (directory_held s v m h.tree h.lists (inode_blocks (volume_in (geometry_of s) m) c.args.id ++ []) c.requires.valid h.ready.work h.ready.there)

pub returns-in-Err-clause-unanswered : goal.returns-in-Err-clause-unanswered
returns-in-Err-clause-unanswered g c m tree lists kind told ready =
    let s = c.args.sup.now in
    let v = c.args.bitmap.now in
    let name = c.args.name.now in
    let at = c.block_of-directory.ensures in
    let loose = inode_blocks (volume_in (geometry_of s) m) c.args.id ++ [] in
    let refused = c.in-Err.ensures.refused m told (subst (λ (i : ℕ). HasTree Text (record { id = i; sizes = sizes_of s }) v m) (sym at) (directory_tree s v m tree lists loose c.requires.valid ready.work ready.there)) in
    let here = subst (λ (i : ℕ). IsPutFault Text (record { id = i; sizes = sizes_of s }) v m (rows_of Text (record { id = i; sizes = sizes_of s }) m) name c.in-Err.fault) at refused in
    let none = none_there s v m tree lists loose c.requires.valid ready.work ready.there name (good_proper name c.requires.good) ready.absent in
    subst IsUnanswered (sym c.not_put.ensures)
    (put_unanswered (record { id = (geometry_of s).indices; sizes = sizes_of s }) v m (rows_of Text (record { id = (geometry_of s).indices; sizes = sizes_of s }) m) name c.block_of-directory.result c.in-Err.fault none here)

pub returns-in-Ok-check_inode-clause-joined : goal.returns-in-Ok-check_inode-clause-joined
returns-in-Ok-check_inode-clause-joined g c m tree lists kind told ready =
    let s = c.args.sup.now in
    let v = c.args.bitmap.now in
    let name = c.args.name.now in
    let id = c.args.id in
    let now = c.put_into.new.bitmap in
    let d = (geometry_of s).indices in
    let at = c.block_of-directory.ensures in
    let loose = inode_blocks (volume_in (geometry_of s) m) id ++ [] in
    let old = g.E.Blocks.changed c.args.edits.now in
    let told_now = g.E.Blocks.told c.put_into.new.edits in
    let changed_now = g.E.Blocks.changed c.put_into.new.edits in
    let whole = subst (λ (i : ℕ). HasTree Text (record { id = i; sizes = sizes_of s }) v m) (sym at) (directory_tree s v m tree lists loose c.requires.valid ready.work ready.there) in
    let written = subst (λ (i : ℕ). HasStreamSince (record { id = i; sizes = sizes_of s }) v now m (IsRowTree Text (put Text (rows_of Text (record { id = i; sizes = sizes_of s }) m) name (pos id))) told_now old changed_now) at
    (c.in-Ok.ensures.put m told whole) in
    let map = written.since.map in
    let there = still_there s m d v now (IsRowTree Text (put Text (rows_of Text (record { id = d; sizes = sizes_of s }) m) name (pos id))) told_now old changed_now written in
    let words = subst (λ (i : ℕ). HasBlockWords (contents map i)) at (c.in-Ok-check_inode.ensures.words map written.since.is (subst (λ (i : ℕ). IsSome (map i)) (sym at) there)) in
    let joined = index_has_joined s v now m tree lists kind name id told_now old changed_now c.requires.valid (good_proper name c.requires.good) ready written words in
    subst (λ (t : Option (ℕ → Option (List ℕ))). HasIndexJoined (geometry_of s) v now m tree lists kind name id t old (g.E.Blocks.changed c.check_inode.new.under)) (sym c.check_inode.ensures.told)
    (subst (λ (after : ℕ → Bool). HasIndexJoined (geometry_of s) v now m tree lists kind name id told_now old after) (sym c.check_inode.ensures.changed) joined)
