use Rattle.std.proofs.Common.{rules, ◌≡◌, ◌∙◌, ℤ, ap, subst, to_z, of_z}
use Rattle.std.specs.Prelude.{IfOk}
use Rattle.std.specs.Int.{w64}
use Rattle.bfs_stream.specs.Sizes.{sizes_of}
use Rattle.bfs_make.specs.Made.{formed_at, HasStored}
use Rattle.bfs_make.specs.declared.making.InodeForm.{InodeForm}
use Rattle.bfs_attr.specs.Made.{attribute_form}
use Rattle.bfs_attr.proofs.Owned.{attribute_stored}
use Rattle.bfs_attr.proofs.storing.store_attribute.Goals as goal

pub returns-clause-stored : goal.returns-clause-stored
returns-clause-stored g c m is has =
    let same : to_z w64 (of_z w64 c.args.stamp) ≡ c.args.stamp = search rules in
    let form_is : c.attribute_inode.result ≡ attribute_form c.args.parent c.args.kind c.args.stamp = c.attribute_inode.ensures ∙ ap (λ (z : ℤ). attribute_form c.args.parent c.args.kind z) same in
    subst (λ (f : InodeForm). IfOk c.store.result (λ run. HasStored (sizes_of c.args.site.sup) c.args.bitmap.now c.store.new.bitmap m (formed_at run f) c.args.bytes.now (g.E.Blocks.told c.store.new.edits) (g.E.Blocks.changed c.args.edits.now) (g.E.Blocks.changed c.store.new.edits))) form_is
    (c.store.ensures.stored m is has)

pub returns-clause-attribute : goal.returns-clause-attribute
returns-clause-attribute g c m is has =
    let same : to_z w64 (of_z w64 c.args.stamp) ≡ c.args.stamp = search rules in
    let form_is : c.attribute_inode.result ≡ attribute_form c.args.parent c.args.kind c.args.stamp = c.attribute_inode.ensures ∙ ap (λ (z : ℤ). attribute_form c.args.parent c.args.kind z) same in
    attribute_stored c.args.site.sup c.args.bitmap.now c.store.new.bitmap m c.args.parent c.args.kind c.args.stamp c.args.bytes.now (g.E.Blocks.told c.store.new.edits) (g.E.Blocks.changed c.args.edits.now) (g.E.Blocks.changed c.store.new.edits) (g.E.Blocks.size c.store.new.edits) c.store.result
    (c.store.ensures.size ∙ c.requires.size) (g.met.E.Blocks.sized c.store.new.edits) c.store.ensures.inside c.store.ensures.one
    (subst (λ (f : InodeForm). IfOk c.store.result (λ run. HasStored (sizes_of c.args.site.sup) c.args.bitmap.now c.store.new.bitmap m (formed_at run f) c.args.bytes.now (g.E.Blocks.told c.store.new.edits) (g.E.Blocks.changed c.args.edits.now) (g.E.Blocks.changed c.store.new.edits))) form_is
    (c.store.ensures.stored m is has))
