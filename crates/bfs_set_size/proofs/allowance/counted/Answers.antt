use Rattle.std.proofs.Common.{◌∙◌}
use Rattle.bfs_set_size.proofs.Allowed.{few_blocks, sized_so}
use Rattle.bfs_set_size.proofs.allowance.counted.Goals as goal

pub gained-file-requires-clause-few : goal.gained-file-requires-clause-few
gained-file-requires-clause-few c = few_blocks c.args.sup.now c.args.size c.blocks_for-needed.result c.requires.valid c.requires.few c.blocks_for-needed.ensures.count

pub returns-clause-counted : goal.returns-clause-counted
returns-clause-counted c v m tree lists id n ready is file before there =
    sized_so c.args.sup.now v m tree lists ready id c.args.size c.args.before.indices before.indices n c.requires.valid is file
    c.args.before.size c.args.there c.from-array.result c.blocks_for-needed.result c.gained-file.result c.arrays_for-arrays.result c.cut_blocks-left.result c.bitmap_blocks-most.result c.bitmap_changes.result c.index_rows-rows.result
    before.size_is there (c.from-array.ensures ∙ c.array_length.ensures.value) c.blocks_for-needed.ensures.count c.gained-file.ensures.value c.arrays_for-arrays.ensures.value c.cut_blocks-left.ensures c.bitmap_blocks-most.ensures.value
    c.bitmap_changes.ensures.value c.index_rows-rows.ensures.value
