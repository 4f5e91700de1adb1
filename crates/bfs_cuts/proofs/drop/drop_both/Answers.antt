use Rattle.std.proofs.Common.{◌≡◌, ◌+◌, ◌-◌, ◌*◌, ◌∙◌, ℕ, [], ◌∷◌, ap, subst, arith}
use Rattle.std.specs.Prelude.{Result, Ok, Err, OnOk, IfOk}
use Rattle.bfs_base.specs.Lists.{Has}
use Rattle.bfs_txn.specs.declared.fault.BlockFault.{BlockFault}
use Rattle.bfs_stream.specs.Sizes.{array_length}
use Rattle.bfs_stream.specs.Places.{frame_at}
use Rattle.bfs_stream.specs.Told.{contents}
use Rattle.bfs_stream.specs.Trimmed.{MayLose}
use Rattle.bfs_cuts.proofs.CutTwice.{both_dropped, may_after, may_fewer}
use Rattle.bfs_stream.proofs.Frames.{has_left}
use Rattle.bfs_cuts.proofs.drop.drop_both.Goals as goal

on_ok : {P Q : Type 0} (r : Result (Unit {0}) BlockFault) → (P → Q) → OnOk r P → OnOk r Q
on_ok (Ok x) f p = f p
on_ok (Err x) f p = p

if_ok : {P Q : ℕ → Type 0} (r : Result ℕ BlockFault) → ((n : ℕ) → P n → Q n) → IfOk r P → IfOk r Q
if_ok (Ok x) f p = f x p
if_ok (Err x) f p = p

pub returns-in-Ok-drop_first-clause-trimmed : goal.returns-in-Ok-drop_first-clause-trimmed
returns-in-Ok-drop_first-clause-trimmed g c m is owns are may =
    let o = c.args.stream.now in
    let s = o.sizes in
    let v = c.args.bitmap.now in
    let b1 = c.drop_double.new.bitmap in
    let b2 = c.drop_first.new.bitmap in
    let own = array_length s * c.args.tables.used in
    let told1 = g.E.Blocks.told c.drop_double.new.edits in
    let told2 = g.E.Blocks.told c.drop_first.new.edits in
    let c0 = g.E.Blocks.changed c.args.edits.now in
    let c1 = g.E.Blocks.changed c.drop_double.new.edits in
    let c2 = g.E.Blocks.changed c.drop_first.new.edits in
    let few = c.requires.most in
    let first = c.in-Ok.ensures.dropped m is owns are (may_fewer o m c.args.most own few may) in
    let one = first.0.0 in
    let value : c.array_length.result * c.args.tables.used ≡ own = ap (λ (n : ℕ). n * c.args.tables.used) c.array_length.ensures.value in
    let left = c.less.result in
    let left_is : left ≡ c.args.most - own = c.less.ensures ∙ ap (λ (n : ℕ). c.args.most - n) value in
    let sum : c.args.most ≡ own + left = omega (arith, left_is, few) in
    let may1 = may_after o v b1 m own left told1 c0 c1 one (subst (λ (n : ℕ). MayLose o m n) sum may) in
    let second = c.in-Ok-drop_first.ensures.dropped one.2.map one.2.is one.2.owns first.1 may1 in
    let two = second.0.0 in
    let gone = c.in-Ok-drop_first.gone in
    let stay : (k : ℕ) → Has one.2.touched k → Has (frame_at s (contents two.2.map) o.id) k = λ k has. has_left (o.id ∷ []) _ k (first.0.1 k has) in
    both_dropped o v b1 b2 m own gone (c.array_length.result * c.args.tables.used + gone) left c.args.most told1 told2 c0 c1 c2 one c.in-Ok.ensures.rest two stay (let z : own + gone ≡ c.array_length.result * c.args.tables.used + gone = omega (arith, value) in z) sum second.1

pub returns-in-Err-drop_first-clause-sound : goal.returns-in-Err-drop_first-clause-sound
returns-in-Err-drop_first-clause-sound g c m is owns are may =
    let o = c.args.stream.now in
    let own = array_length o.sizes * c.args.tables.used in
    let first = c.in-Ok.ensures.dropped m is owns are (may_fewer o m c.args.most own c.requires.most may) in
    let one = first.0.0 in
    c.in-Err-drop_first.ensures.sound one.2.map one.2.is one.2.owns first.1
