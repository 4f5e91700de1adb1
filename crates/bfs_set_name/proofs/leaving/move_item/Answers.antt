use Rattle.std.proofs.Common.{◌≤◌, ◌∙◌, ℕ, List, length, sym, subst, arith, max}
use Rattle.std.specs.Prelude.{OnOk, IfErr}
use Rattle.bfs_super.specs.Conditions.{ceil}
use Rattle.bfs_stream.proofs.Writes.{later_none}
use Rattle.bfs_attr.specs.Bearers.{bearer_of}
use Rattle.bfs_attrs.specs.Moved.{IsWithin, HasMovedOut, IsNotMoved}
use Rattle.bfs_attrs.proofs.Begins.{add_wider_kept}
use Rattle.bfs_set_name.proofs.Parts.{name_read, to_parts, from_parts, few_blocks, part_short}
use Rattle.bfs_set_name.proofs.leaving.move_item.Goals as goal

pub returns-then-name-gt255-clause-faults : goal.returns-then-name-gt255-clause-faults
returns-then-name-gt255-clause-faults g c m told =
    let name = name_read c.args.item.now c.u32_at-kind.result c.from-size.result c.from-len.result c.u32_at-kind.ensures (c.from-size.ensures ∙ c.u16_at.ensures) (c.from-len.ensures ∙ c.u16_at-2.ensures) in
    let short = subst (λ (l : List ℕ). length l ≤ 255) (sym name) (c.requires.named m told) in
    absurd (let a = c.if-name-gt255.true in omega (arith, a, short))

pub move_out-requires-clause-short : goal.move_out-requires-clause-short
move_out-requires-clause-short g c = let a = c.if-name-gt255.false in omega (arith, a)

pub move_out-requires-clause-proper : goal.move_out-requires-clause-proper
move_out-requires-clause-proper g c = let a = c.is_free_name.ensures in let b = c.if-not-is_free_name.false in cc

pub move_out-requires-clause-within : goal.move_out-requires-clause-within
move_out-requires-clause-within g c m told =
    to_parts c.args.item.now c.u32_at-kind.result c.from-size.result c.from-len.result c.u32_at-kind.ensures (c.from-size.ensures ∙ c.u16_at.ensures) (c.from-len.ensures ∙ c.u16_at-2.ensures)
    (λ n a. IsWithin (bearer_of c.args.inode c.args.site.sup) c.args.bitmap.now m n a) (c.requires.within m told)

pub returns-clause-moved : goal.returns-clause-moved
returns-clause-moved g c m told =
    from_parts c.args.item.now c.u32_at-kind.result c.from-size.result c.from-len.result c.u32_at-kind.ensures (c.from-size.ensures ∙ c.u16_at.ensures) (c.from-len.ensures ∙ c.u16_at-2.ensures)
    (λ n a. OnOk c.move_out.result (HasMovedOut (bearer_of c.args.inode c.args.site.sup) c.args.bitmap.now c.move_out.new.bitmap m n (g.E.Blocks.told c.move_out.new.edits) (g.E.Blocks.changed c.args.edits.now) (g.E.Blocks.changed c.move_out.new.edits)))
    (c.move_out.ensures.moved m told)

pub returns-clause-faults : goal.returns-clause-faults
returns-clause-faults g c m told =
    from_parts c.args.item.now c.u32_at-kind.result c.from-size.result c.from-len.result c.u32_at-kind.ensures (c.from-size.ensures ∙ c.u16_at.ensures) (c.from-len.ensures ∙ c.u16_at-2.ensures)
    (λ n a. IfErr c.move_out.result (IsNotMoved (bearer_of c.args.inode c.args.site.sup) c.args.bitmap.now m n a (ceil (length a.bytes) c.args.site.sup.block_size)))
    (c.move_out.ensures.faults m told)

pub returns-clause-cause : goal.returns-clause-cause
returns-clause-cause g c =
    let size = c.args.site.sup.block_size in
    let item = c.args.item.now in
    let few = part_short item c.u32_at-kind.result c.from-size.result c.from-len.result c.u32_at-kind.ensures (c.from-size.ensures ∙ c.u16_at.ensures) (c.from-len.ensures ∙ c.u16_at-2.ensures) in
    add_wider_kept _ (max 1 (ceil 2048 size)) (g.E.Blocks.counts c.args.edits.now) (g.E.Blocks.counts c.args.edits.now) (g.E.Blocks.counts c.move_out.new.edits) c.move_out.result
    (few_blocks _ (length item) size c.has_long_blocks.ensures few c.requires.short)
    (later_none (g.E.Blocks.counts c.args.edits.now)) c.move_out.ensures.cause
