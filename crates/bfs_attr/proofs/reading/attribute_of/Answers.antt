use Rattle.std.proofs.Common.{◌≡◌, ◌∙◌, ◌-◌, inl, inr, ℕ, length, take, drop, Option, refl, sym, subst}
use Rattle.std.specs.Prelude.{IfErr}
use Rattle.std.specs.Option.{option_map}
use Rattle.bfs_super.specs.Geometry.{geometry_of}
use Rattle.bfs_stream.specs.Told.{contents}
use Rattle.bfs_maps.specs.Refused.{IsUndone}
use Rattle.bfs_sound.specs.Attributes.{attributes_of}
use Rattle.bfs_sound.specs.Inodes.{inodes_of}
use Rattle.bfs_sound.specs.Owners.{In}
use Rattle.bfs_attr.specs.Bearers.{volume_at, entries_at, shown, value_at}
use Rattle.bfs_attr.specs.Directories.{directory_in}
use Rattle.bfs_attr.specs.Refused.{IsDirectoryFault, IsAttributeFault}
use Rattle.bfs_attr.proofs.Tops.{area_is, directory_is, value_found, value_missing, value_broken, ok_map, read_refused}
use Rattle.bfs_attr.proofs.reading.attribute_of.Goals as goal

pub returns-in-Found-clause-found : goal.returns-in-Found-clause-found
returns-in-Found-clause-found g c m told has =
    let now = c.deref.result.now in
    let e : now ≡ contents m c.args.inode = c.deref.ensures.value ∙ c.in-Ok.ensures.read m told (c.requires.readable m told).inode in
    value_found (volume_at (geometry_of c.args.site.sup) m) c.args.inode has c.args.name.now (take (length now - 232) (drop 232 now)) (area_is now (contents m c.args.inode) e) c.in-Found.item c.in-Found.ensures

pub attribute_behind-requires-clause-streams : goal.attribute_behind-requires-clause-streams
attribute_behind-requires-clause-streams g c m told k h =
    let can = c.requires.readable m (sym c.in-Ok.ensures.told ∙ told) in
    let e : c.deref-in-Missing.result.now ≡ contents m c.args.inode = c.deref-in-Missing.ensures.value ∙ c.in-Ok.ensures.read m (sym c.in-Ok.ensures.told ∙ told) can.inode in
    can.streams k (subst (λ (o : Option ℕ). In k (inodes_of (volume_at (geometry_of c.args.site.sup) m) o)) (directory_is c.args.site.sup m c.args.inode c.deref-in-Missing.result.now e) h)

pub returns-in-Missing-clause-found : goal.returns-in-Missing-clause-found
returns-in-Missing-clause-found g c m told has =
    let v = volume_at (geometry_of c.args.site.sup) m in
    let now = c.deref.result.now in
    let can = c.requires.readable m told in
    let e : now ≡ contents m c.args.inode = c.deref.ensures.value ∙ c.in-Ok.ensures.read m told can.inode in
    let f : c.deref-in-Missing.result.now ≡ contents m c.args.inode = c.deref-in-Missing.ensures.value ∙ c.in-Ok.ensures.read m told can.inode in
    let o = directory_in c.args.site.sup c.deref-in-Missing.result.now in
    ok_map c.attribute_behind.result (λ x. option_map shown x ≡ value_at (attributes_of v o) c.args.name.now) (λ x. option_map shown x ≡ value_at (entries_at v c.args.inode) c.args.name.now) IsUndone
    (λ x h. h ∙ value_missing v c.args.inode has c.args.name.now (take (length now - 232) (drop 232 now)) (area_is now (contents m c.args.inode) e) c.in-Missing.ensures o (directory_is c.args.site.sup m c.args.inode c.deref-in-Missing.result.now f))
    (c.attribute_behind.ensures.found m (c.in-Ok.ensures.told ∙ told) f has)

pub returns-in-Missing-clause-refused : goal.returns-in-Missing-clause-refused
returns-in-Missing-clause-refused g c m told =
    let v = volume_at (geometry_of c.args.site.sup) m in
    let can = c.requires.readable m told in
    let f : c.deref-in-Missing.result.now ≡ contents m c.args.inode = c.deref-in-Missing.ensures.value ∙ c.in-Ok.ensures.read m told can.inode in
    let o = directory_in c.args.site.sup c.deref-in-Missing.result.now in
    read_refused v c.args.inode c.attribute_behind.result (λ x. option_map shown x ≡ value_at (attributes_of v o) c.args.name.now) (g.B.Blocks.counts c.read_block.new.under) (g.B.Blocks.counts c.attribute_behind.new.under)
    (subst (λ (d : Option ℕ). IfErr c.attribute_behind.result (IsDirectoryFault v c.args.inode d)) (directory_is c.args.site.sup m c.args.inode c.deref-in-Missing.result.now f) (c.attribute_behind.ensures.refused m (c.in-Ok.ensures.told ∙ told)))
    c.attribute_behind.ensures.cause
    (λ has. c.attribute_behind.ensures.found m (c.in-Ok.ensures.told ∙ told) f has)

pub returns-in-Broken-clause-found : goal.returns-in-Broken-clause-found
returns-in-Broken-clause-found g c m told has =
    let now = c.deref.result.now in
    let e : now ≡ contents m c.args.inode = c.deref.ensures.value ∙ c.in-Ok.ensures.read m told (c.requires.readable m told).inode in
    absurd (value_broken (volume_at (geometry_of c.args.site.sup) m) c.args.inode has c.args.name.now (take (length now - 232) (drop 232 now)) (area_is now (contents m c.args.inode) e) c.in-Broken.ensures)

pub returns-in-Broken-clause-refused : goal.returns-in-Broken-clause-refused
returns-in-Broken-clause-refused g c m told =
    let v = volume_at (geometry_of c.args.site.sup) m in
    let now = c.deref.result.now in
    let e : now ≡ contents m c.args.inode = c.deref.ensures.value ∙ c.in-Ok.ensures.read m told (c.requires.readable m told).inode in
    subst (IsAttributeFault v c.args.inode) (sym c.damaged.ensures)
    (inr (c.args.inode, refl, inl refl, λ has. value_broken v c.args.inode has c.args.name.now (take (length now - 232) (drop 232 now)) (area_is now (contents m c.args.inode) e) c.in-Broken.ensures))
