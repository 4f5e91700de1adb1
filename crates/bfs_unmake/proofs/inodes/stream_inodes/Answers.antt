use Rattle.std.proofs.Common.{◌≡◌, ◌<◌, ◌∙◌, ◌++◌, inl, ℕ, List, Option, Some, None, append-nil, refl, sym, ap, subst}
use Rattle.std.specs.Prelude.{IfSome}
use Rattle.bfs_super.specs.Conditions.{natural}
use Rattle.bfs_super.specs.Geometry.{geometry_of}
use Rattle.bfs_sound.specs.Attributes.{attribute_directory, attribute_inodes}
use Rattle.bfs_sound.specs.Inodes.{inodes_of}
use Rattle.bfs_sound.specs.Owners.{In}
use Rattle.bfs_attr.specs.Bearers.{volume_at}
use Rattle.bfs_unmake.specs.Whole.{streamed_in, AllBelow}
use Rattle.bfs_unmake.proofs.Numbers.{own_below, rows_found}
use Rattle.bfs_unmake.proofs.inodes.stream_inodes.Goals as goal

pub push_directory-requires-clause-inside : goal.push_directory-requires-clause-inside
push_directory-requires-clause-inside g c = subst (λ (o : Option ℕ). IfSome o (λ d. d < natural c.args.site.sup.num_blocks)) c.in-Some.is c.in-Ok-directory_at.ensures.below

pub push_directory-requires-clause-stream : goal.push_directory-requires-clause-stream
push_directory-requires-clause-stream g c m told =
    let v = volume_at (geometry_of c.args.site.sup) m in
    let before = sym c.in-Ok-directory_at.ensures.told ∙ told in
    let can = c.requires.readable m before in
    let at : Some c.in-Some.directory ≡ attribute_directory v c.args.id = sym c.in-Some.is ∙ c.in-Ok-directory_at.ensures.found m before can.inode in
    can.streams c.in-Some.directory (subst (λ (o : Option ℕ). In c.in-Some.directory (attribute_inodes v o)) at (inl refl))

pub returns-in-None-clause-found : goal.returns-in-None-clause-found
returns-in-None-clause-found g c m told has =
    let v = volume_at (geometry_of c.args.site.sup) m in
    let own : List ℕ = streamed_in c.args.id c.args.alone in
    let at : None ≡ attribute_directory v c.args.id = sym c.in-None.is ∙ c.in-Ok-directory_at.ensures.found m told (c.requires.readable m told).inode in
    c.in-Ok.ensures ∙ sym (append-nil own) ∙ ap (λ (o : Option ℕ). own ++ attribute_inodes v o) at

pub returns-in-None-clause-below : goal.returns-in-None-clause-below
returns-in-None-clause-below g c =
    let n = natural c.args.site.sup.num_blocks in
    subst (AllBelow n) (sym c.in-Ok.ensures) (own_below n c.args.id c.args.alone c.requires.inside)

pub returns-in-Ok-push_directory-clause-found : goal.returns-in-Ok-push_directory-clause-found
returns-in-Ok-push_directory-clause-found g c m told has =
    let v = volume_at (geometry_of c.args.site.sup) m in
    let d = c.in-Some.directory in
    let own : List ℕ = streamed_in c.args.id c.args.alone in
    let at : Some d ≡ attribute_directory v c.args.id = sym c.in-Some.is ∙ c.in-Ok-directory_at.ensures.found m told (c.requires.readable m told).inode in
    c.in-Ok-push_directory.ensures.found m (c.in-Ok-directory_at.ensures.told ∙ told) (rows_found v c.args.id d has (sym at))
    ∙ ap (λ (l : List ℕ). l ++ inodes_of v (Some d)) c.in-Ok.ensures ∙ ap (λ (o : Option ℕ). own ++ attribute_inodes v o) at

pub returns-in-Ok-push_directory-clause-below : goal.returns-in-Ok-push_directory-clause-below
returns-in-Ok-push_directory-clause-below g c =
    let n = natural c.args.site.sup.num_blocks in
    c.in-Ok-push_directory.ensures.below (subst (AllBelow n) (sym c.in-Ok.ensures) (own_below n c.args.id c.args.alone c.requires.inside))

pub returns-in-Err-directory_at-clause-found : goal.returns-in-Err-directory_at-clause-found
returns-in-Err-directory_at-clause-found g c m told has = c.in-Err-directory_at.ensures.sound m told (c.requires.readable m told).inode has

pub returns-in-Err-push_directory-clause-found : goal.returns-in-Err-push_directory-clause-found
returns-in-Err-push_directory-clause-found g c m told has =
    let v = volume_at (geometry_of c.args.site.sup) m in
    let d = c.in-Some.directory in
    let at : Some d ≡ attribute_directory v c.args.id = sym c.in-Some.is ∙ c.in-Ok-directory_at.ensures.found m told (c.requires.readable m told).inode in
    c.in-Err-push_directory.ensures.found m (c.in-Ok-directory_at.ensures.told ∙ told) (rows_found v c.args.id d has (sym at))
