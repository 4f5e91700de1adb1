use Rattle.std.proofs.Common.{◌≡◌, ◌+◌, ◌-◌, ℕ, sym, subst, arith}
use Rattle.std.specs.Prelude.{Result, Ok, Err, OnOk}
use Rattle.bfs_txn.specs.declared.fault.BlockFault.{BlockFault}
use Rattle.bfs_stream.specs.Trimmed.{MayLose, HasSpare}
use Rattle.bfs_cuts.proofs.CutTwice.{trimmed_to_after, may_after, left_long}
use Rattle.bfs_cuts.proofs.trimming.cut_to.Goals as goal

on_ok : {P Q : Type 0} (r : Result (Unit {0}) BlockFault) → (P → Q) → OnOk r P → OnOk r Q
on_ok (Ok x) f p = f p
on_ok (Err x) f p = p

pub returns-in-Ok-clause-trimmed : goal.returns-in-Ok-clause-trimmed
returns-in-Ok-clause-trimmed g c m is owns may some le =
    let o = c.args.stream.now in
    let v = c.args.bitmap.now in
    let b = c.args.blocks in
    let n = c.in-Ok.gone in
    let left = c.less.result in
    let told1 = g.E.Blocks.told c.drop_arrays.new.edits in
    let told2 = g.E.Blocks.told c.cut_all.new.edits in
    let c0 = g.E.Blocks.changed c.args.edits.now in
    let c1 = g.E.Blocks.changed c.drop_arrays.new.edits in
    let c2 = g.E.Blocks.changed c.cut_all.new.edits in
    let first = c.in-Ok.ensures.trimmed m is owns may in
    let one = first.0 in
    let few = c.in-Ok.ensures.most in
    let left_is : left ≡ b - n = c.less.ensures in
    let e : b ≡ n + left = omega (arith, left_is, few) in
    let may1 = may_after o v c.drop_arrays.new.bitmap m n left told1 c0 c1 one (subst (λ (x : ℕ). MayLose o m x) e may) in
    let long = left_long o v c.drop_arrays.new.bitmap m n told1 c0 c1 one in
    on_ok c.cut_all.result
    (λ to. trimmed_to_after o v c.drop_arrays.new.bitmap c.cut_all.new.bitmap m n left b told1 told2 c0 c1 c2 one c.in-Ok.ensures.rest to.0 to.1 to.2 left_is few some le)
    (c.cut_all.ensures.trimmed one.2.map one.2.is one.2.owns may1 (subst (λ (x : ℕ). HasSpare o one.2.map x) (sym left_is) first.1) (omega (arith, long, left_is, few, le)))

pub returns-in-Ok-clause-sound : goal.returns-in-Ok-clause-sound
returns-in-Ok-clause-sound g c m is owns may le =
    let o = c.args.stream.now in
    let v = c.args.bitmap.now in
    let b = c.args.blocks in
    let n = c.in-Ok.gone in
    let left = c.less.result in
    let told1 = g.E.Blocks.told c.drop_arrays.new.edits in
    let c0 = g.E.Blocks.changed c.args.edits.now in
    let c1 = g.E.Blocks.changed c.drop_arrays.new.edits in
    let first = c.in-Ok.ensures.trimmed m is owns may in
    let one = first.0 in
    let few = c.in-Ok.ensures.most in
    let left_is : left ≡ b - n = c.less.ensures in
    let e : b ≡ n + left = omega (arith, left_is, few) in
    let may1 = may_after o v c.drop_arrays.new.bitmap m n left told1 c0 c1 one (subst (λ (x : ℕ). MayLose o m x) e may) in
    c.cut_all.ensures.sound one.2.map one.2.is one.2.owns may1 (subst (λ (x : ℕ). HasSpare o one.2.map x) (sym left_is) first.1)
