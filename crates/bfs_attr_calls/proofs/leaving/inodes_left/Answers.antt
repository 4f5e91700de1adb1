use Rattle.std.proofs.Common.{◌≡◌, ◌<◌, ◌∙◌, inl, ℕ, Option, Some, None, refl, sym, ap, subst}
use Rattle.std.specs.Prelude.{IfSome}
use Rattle.bfs_base.specs.declared.kind.KeyKind.TheVariants.{Text}
use Rattle.bfs_super.specs.Conditions.{natural}
use Rattle.bfs_super.specs.Geometry.{geometry_of}
use Rattle.bfs_pages.specs.Maps.{assoc}
use Rattle.bfs_sound.specs.Attributes.{attribute_directory, attribute_inodes}
use Rattle.bfs_sound.specs.Inodes.{rows_of}
use Rattle.bfs_sound.specs.Need.{left_with}
use Rattle.bfs_sound.specs.Owners.{In}
use Rattle.bfs_attr.specs.Bearers.{volume_at}
use Rattle.bfs_unmake.proofs.Numbers.{rows_found}
use Rattle.bfs_attr_calls.proofs.leaving.inodes_left.Goals as goal

pub left_in-requires-clause-inside : goal.left_in-requires-clause-inside
left_in-requires-clause-inside g c = subst (λ (o : Option ℕ). IfSome o (λ d. d < natural c.args.site.sup.num_blocks)) c.in-Some.is c.in-Ok.ensures.below

pub left_in-requires-clause-stream : goal.left_in-requires-clause-stream
left_in-requires-clause-stream g c m told =
    let v = volume_at (geometry_of c.args.site.sup) m in
    let before = sym c.in-Ok.ensures.told ∙ told in
    let can = c.requires.readable m before in
    let at : Some c.in-Some.directory ≡ attribute_directory v c.args.id = sym c.in-Some.is ∙ c.in-Ok.ensures.found m before can.inode in
    can.streams c.in-Some.directory (subst (λ (o : Option ℕ). In c.in-Some.directory (attribute_inodes v o)) at (inl refl))

pub returns-in-Err-clause-found : goal.returns-in-Err-clause-found
returns-in-Err-clause-found g c m told has = c.in-Err.ensures.sound m told (c.requires.readable m told).inode has

pub returns-in-None-clause-found : goal.returns-in-None-clause-found
returns-in-None-clause-found g c m told has =
    let v = volume_at (geometry_of c.args.site.sup) m in
    let at : None ≡ attribute_directory v c.args.id = sym c.in-None.is ∙ c.in-Ok.ensures.found m told (c.requires.readable m told).inode in
    c.new.ensures.items ∙ ap (λ (o : Option ℕ). left_with v o (assoc Text (rows_of v o) c.args.name.now)) at

pub returns-in-Ok-left_in-clause-found : goal.returns-in-Ok-left_in-clause-found
returns-in-Ok-left_in-clause-found g c m told has =
    let v = volume_at (geometry_of c.args.site.sup) m in
    let d = c.in-Some.directory in
    let at : Some d ≡ attribute_directory v c.args.id = sym c.in-Some.is ∙ c.in-Ok.ensures.found m told (c.requires.readable m told).inode in
    c.in-Ok-left_in.ensures.found m (c.in-Ok.ensures.told ∙ told) (rows_found v c.args.id d has (sym at))
    ∙ ap (λ (o : Option ℕ). left_with v o (assoc Text (rows_of v o) c.args.name.now)) at

pub returns-in-Err-left_in-clause-found : goal.returns-in-Err-left_in-clause-found
returns-in-Err-left_in-clause-found g c m told has =
    let v = volume_at (geometry_of c.args.site.sup) m in
    let d = c.in-Some.directory in
    let at : Some d ≡ attribute_directory v c.args.id = sym c.in-Some.is ∙ c.in-Ok.ensures.found m told (c.requires.readable m told).inode in
    c.in-Err-left_in.ensures.found m (c.in-Ok.ensures.told ∙ told) (rows_found v c.args.id d has (sym at))
