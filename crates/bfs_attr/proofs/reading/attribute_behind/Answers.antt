use Rattle.std.proofs.Common.{◌≡◌, ◌∙◌, ℕ, List, Option, Some, sym, ap, subst}
use Rattle.std.specs.Prelude.{MatchResult}
use Rattle.std.specs.Option.{option_map}
use Rattle.bfs_bytes.specs.Fields.{run_in}
use Rattle.bfs_super.specs.Geometry.{geometry_of}
use Rattle.bfs_maps.specs.Refused.{IsUndone}
use Rattle.bfs_sound.specs.Attributes.{attributes_of, attribute_directory}
use Rattle.bfs_attr.specs.Bearers.{volume_at, shown, value_at}
use Rattle.bfs_attr.specs.Directories.{directory_in}
use Rattle.bfs_attr.proofs.Tops.{directory_is, directory_stands, bearer_fault, named_fault}
use Rattle.bfs_attr.proofs.reading.attribute_behind.Goals as goal

pub returns-in-At-clause-found : goal.returns-in-At-clause-found
returns-in-At-clause-found g c m told same has =
    let v = volume_at (geometry_of c.args.site.sup) m in
    let d = c.in-At.directory in
    let e : attribute_directory v c.args.inode ≡ Some d = sym (directory_is c.args.site.sup m c.args.inode c.args.block.now same) ∙ c.in-At.ensures.0 in
    let stands = directory_stands v c.args.inode d has e in
    subst (λ (o : Option ℕ). MatchResult c.attribute_named.result (λ x. option_map shown x ≡ value_at (attributes_of v o) c.args.name.now) IsUndone) (sym c.in-At.ensures.0)
    (c.attribute_named.ensures.found m told stands.tree stands.inodes)

pub returns-in-Broken-clause-found : goal.returns-in-Broken-clause-found
returns-in-Broken-clause-found g c m told same has =
    let v = volume_at (geometry_of c.args.site.sup) m in
    let broken = c.in-Broken.ensures in
    let e : attribute_directory v c.args.inode ≡ Some broken.0 = sym (directory_is c.args.site.sup m c.args.inode c.args.block.now same) ∙ broken.1 in
    let stands = directory_stands v c.args.inode broken.0 has e in
    absurd (broken.2 (ap (λ (b : List ℕ). (run_in b 52).len) same ∙ stands.one) stands.below)

pub returns-in-At-clause-refused : goal.returns-in-At-clause-refused
returns-in-At-clause-refused g c m told =
    named_fault (volume_at (geometry_of c.args.site.sup) m) c.args.inode c.in-At.directory (directory_in c.args.site.sup c.args.block.now) c.attribute_named.result c.in-At.ensures.0 (c.attribute_named.ensures.refused m told)

pub returns-in-Broken-clause-refused : goal.returns-in-Broken-clause-refused
returns-in-Broken-clause-refused g c m told =
    bearer_fault (volume_at (geometry_of c.args.site.sup) m) c.args.inode (directory_in c.args.site.sup c.args.block.now) c.damaged.result c.damaged.ensures
