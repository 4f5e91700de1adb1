use Rattle.std.proofs.Common.{rules, ◌≡◌, ◌∙◌, ℕ, ℤ, List, [], Some, sym, ap, subst, to_z, of_z}
use Rattle.std.specs.Int.{w64}
use Rattle.bfs_super.specs.Geometry.{geometry_of}
use Rattle.bfs_stream.specs.Sizes.{sizes_of}
use Rattle.bfs_stream_pages.specs.GoesLaws.{sized_of}
use Rattle.bfs_txn.specs.Told.{AreSized}
use Rattle.bfs_values.specs.Reached.{IsWholeTree}
use Rattle.bfs_values.specs.Rows.{rows_in}
use Rattle.bfs_make.specs.Made.{HasStored, formed_at}
use Rattle.bfs_make.specs.declared.making.InodeForm.{InodeForm}
use Rattle.bfs_index_make.specs.Made.{index_form, HasLooseIndex}
use Rattle.bfs_index_make.proofs.Stored.{work_bits, loose_index}
use Rattle.bfs_index_make.proofs.growing.new_index.Goals as goal

pub returns-in-Ok-store_few-clause-made : goal.returns-in-Ok-store_few-clause-made
returns-in-Ok-store_few-clause-made g c m tree lists told work =
    let s = c.args.sup.now in
    let v = c.args.bitmap.now in
    let now = c.store_few.new.bitmap in
    let kind = c.args.kind in
    let run = c.in-Ok-store_few.address in
    let parent = s.indices in
    let bytes : List ℕ = c.deref.result.now in
    let told1 = g.E.Blocks.told c.store_few.new.edits in
    let old = g.E.Blocks.changed c.args.edits.now in
    let new = g.E.Blocks.changed c.store_few.new.edits in
    let same : to_z w64 (of_z w64 c.args.stamp) ≡ c.args.stamp = search rules in
    let form_is : c.form_of-form.result ≡ index_form parent kind c.args.stamp = c.form_of-form.ensures ∙ ap (λ (z : ℤ). index_form parent kind z) same in
    let bytes_are : bytes ≡ c.in-Ok.bytes.items = c.deref.ensures.value in
    let has = work_bits s v m tree lists [] c.requires.valid work in
    let stored : HasStored (sizes_of s) v now m (formed_at run (index_form parent kind c.args.stamp)) bytes told1 old new =
    subst (λ (f : InodeForm). HasStored (sizes_of s) v now m (formed_at run f) bytes told1 old new) form_is (c.in-Ok-store_few.ensures.stored m told has) in
    let sized : AreSized s.block_size (Some stored.map) = sized_of s.block_size (g.E.Blocks.size c.store_few.new.edits) told1 stored.map (c.store_few.ensures.size ∙ c.requires.size) stored.is (g.met.E.Blocks.sized c.store_few.new.edits) in
    let whole : IsWholeTree kind bytes = subst (IsWholeTree kind) (sym bytes_are) c.in-Ok.ensures.tree in
    let none : rows_in kind bytes ≡ [] = ap (rows_in kind) bytes_are ∙ c.in-Ok.ensures.rows in
    subst (λ (id : ℕ). HasLooseIndex (geometry_of s) v now m tree lists kind id told1 old new) (sym c.run_start.ensures)
    (loose_index s v now m tree lists c.requires.valid work kind parent run c.args.stamp bytes told1 old new stored c.store_few.ensures.stays c.in-Ok-store_few.ensures.inside c.in-Ok-store_few.ensures.one sized c.requires.kind whole none)

pub returns-clause-unanswered : goal.returns-clause-unanswered
returns-clause-unanswered g c m tree lists told work =
    c.in-Err-store_few.ensures.unanswered m told (work_bits c.args.sup.now c.args.bitmap.now m tree lists [] c.requires.valid work)
