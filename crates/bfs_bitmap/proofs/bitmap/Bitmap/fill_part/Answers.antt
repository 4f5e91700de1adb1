use Rattle.std.proofs.Common.{◌≡◌, ◌≤◌, ◌<◌, ◌*◌, ◌+◌, ◌∙◌, ap, arith, cond}
use Rattle.std.specs.Option.{option_map}
use Rattle.bfs_txn.specs.Told.{with_block}
use Rattle.bfs_bitmap.proofs.Looks.{times_le}
use Rattle.bfs_bitmap.proofs.Marked.{told_part, changed_part, changed_same, changed_twice}
use Rattle.bfs_bitmap.proofs.bitmap.Bitmap.fill_part.Goals as goal

pub overflow_add-j : goal.overflow_add-j
overflow_add-j g c =
    let some = c.sizes.ensures.some_bytes in
    let few = c.sizes.ensures.few_blocks in
    let le : c.args.j ≤ 8 * c.args.self.now.block_size * c.args.j = times_le (8 * c.args.self.now.block_size) c.args.j (omega arith) in
    let inside : 8 * c.args.self.now.block_size * c.args.j < c.args.self.now.blocks = c.requires.inside in
    omega (arith, le, inside)

pub overflow_add-j-2 : goal.overflow_add-j-2
overflow_add-j-2 g c =
    let some = c.sizes.ensures.some_bytes in
    let few = c.sizes.ensures.few_blocks in
    let le : c.args.j ≤ 8 * c.args.self.now.block_size * c.args.j = times_le (8 * c.args.self.now.block_size) c.args.j (omega arith) in
    let inside : 8 * c.args.self.now.block_size * c.args.j < c.args.self.now.blocks = c.requires.inside in
    omega (arith, le, inside)

pub returns-in-Err-clause-changed : goal.returns-in-Err-clause-changed
returns-in-Err-clause-changed g c = changed_same (λ k. k ≡ 1 + c.args.j) (g.E.Blocks.changed c.args.edits.now) (g.E.Blocks.changed c.get.new.self) c.in-Err.ensures.changed

pub returns-in-Ok-set-clause-marks : goal.returns-in-Ok-set-clause-marks
returns-in-Ok-set-clause-marks g c m is has =
    told_part c.args.self.now (g.E.Blocks.told c.args.edits.now) (g.E.Blocks.told c.set.new.self) m c.args.j c.args.from c.args.to (cond c.args.used 1 0) c.get.new.into c.fill_bits.new.bytes c.sizes.ensures.some_bytes is has c.requires.inside c.requires.order
    c.requires.bits c.requires.end c.in-Ok.ensures.bytes c.fill_bits.ensures (let e = c.requires.length in omega arith) (c.in-Ok-set.ensures.told ∙ ap (option_map (with_block (1 + c.args.j) c.fill_bits.new.bytes)) c.in-Ok.ensures.told)

pub returns-in-Ok-set-clause-changed : goal.returns-in-Ok-set-clause-changed
returns-in-Ok-set-clause-changed g c =
    changed_twice (λ k. k ≡ 1 + c.args.j) (g.E.Blocks.changed c.args.edits.now) (g.E.Blocks.changed c.get.new.self) (g.E.Blocks.changed c.set.new.self)
    (changed_same (λ k. k ≡ 1 + c.args.j) (g.E.Blocks.changed c.args.edits.now) (g.E.Blocks.changed c.get.new.self) c.in-Ok.ensures.changed)
    (changed_part (g.E.Blocks.changed c.get.new.self) (g.E.Blocks.changed c.set.new.self) c.args.j c.in-Ok-set.ensures.changed)

pub returns-in-Err-set-clause-changed : goal.returns-in-Err-set-clause-changed
returns-in-Err-set-clause-changed g c = changed_same (λ k. k ≡ 1 + c.args.j) (g.E.Blocks.changed c.args.edits.now) (g.E.Blocks.changed c.set.new.self) (c.in-Err-set.ensures.same ∙ c.in-Ok.ensures.changed)
