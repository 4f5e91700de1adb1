use Rattle.std.proofs.Common.{◌≡◌, ◌∙◌, List, inl, inr, ℕ, Some, refl, sym, ap, subst}
use Rattle.bfs_bytes.specs.Fields.{run_in}
use Rattle.bfs_super.specs.Geometry.{geometry_of}
use Rattle.bfs_stream.specs.Told.{contents}
use Rattle.bfs_sound.specs.Attributes.{attribute_directory}
use Rattle.bfs_attr.specs.Bearers.{volume_at}
use Rattle.bfs_attr.specs.Refused.{IsAttributeFault}
use Rattle.bfs_attr.proofs.Tops.{directory_is, directory_stands}
use Rattle.bfs_attr.proofs.reading.directory_at.Goals as goal

pub returns-in-Missing-clause-found : goal.returns-in-Missing-clause-found
returns-in-Missing-clause-found g c m told there =
    let e : c.deref.result.now ≡ contents m c.args.inode = c.deref.ensures.value ∙ c.in-Ok.ensures.read m told there in
    sym c.in-Missing.ensures ∙ directory_is c.args.site.sup m c.args.inode c.deref.result.now e

pub returns-in-At-clause-found : goal.returns-in-At-clause-found
returns-in-At-clause-found g c m told there =
    let e : c.deref.result.now ≡ contents m c.args.inode = c.deref.ensures.value ∙ c.in-Ok.ensures.read m told there in
    sym c.in-At.ensures.0 ∙ directory_is c.args.site.sup m c.args.inode c.deref.result.now e

pub returns-clause-sound : goal.returns-clause-sound
returns-clause-sound g c m told there has =
    let v = volume_at (geometry_of c.args.site.sup) m in
    let same : c.deref.result.now ≡ contents m c.args.inode = c.deref.ensures.value ∙ c.in-Ok.ensures.read m told there in
    let broken = c.in-Broken.ensures in
    let e : attribute_directory v c.args.inode ≡ Some broken.0 = sym (directory_is c.args.site.sup m c.args.inode c.deref.result.now same) ∙ broken.1 in
    let stands = directory_stands v c.args.inode broken.0 has e in
    absurd (broken.2 (ap (λ (b : List ℕ). (run_in b 52).len) same ∙ stands.one) stands.below)

pub returns-clause-refused : goal.returns-clause-refused
returns-clause-refused g c m told there =
    let v = volume_at (geometry_of c.args.site.sup) m in
    let same : c.deref.result.now ≡ contents m c.args.inode = c.deref.ensures.value ∙ c.in-Ok.ensures.read m told there in
    let broken = c.in-Broken.ensures in
    let e : attribute_directory v c.args.inode ≡ Some broken.0 = sym (directory_is c.args.site.sup m c.args.inode c.deref.result.now same) ∙ broken.1 in
    subst (IsAttributeFault v c.args.inode) (sym c.damaged.ensures)
    (inr (c.args.inode, refl, inl refl, λ has. let stands = directory_stands v c.args.inode broken.0 has e in broken.2 (ap (λ (b : List ℕ). (run_in b 52).len) same ∙ stands.one) stands.below))
