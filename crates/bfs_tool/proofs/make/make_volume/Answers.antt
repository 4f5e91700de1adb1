use Rattle.std.proofs.Common.{◌≡◌, inl, inr, ⊎_elim, ◌*◌, ℕ, pos, List, arith, rules, subst, sym, ◌∙◌}
use Rattle.std.proofs.Common.{to_z, of_z, w64}
use Rattle.bfs_disk.specs.State.{Tells, Holds}
use Rattle.bfs_mkfs.specs.Format.{IsNew}
use Rattle.bfs_tool.specs.Make.{IsNewVolume}
use Rattle.bfs_tool.proofs.Held.{held_image}
use Rattle.bfs_tool.proofs.Made.{new_volume}
use Rattle.bfs_tool.proofs.make.make_volume.Goals as goal

pub returns-in-Err-clause-moments : goal.returns-in-Err-clause-moments
returns-in-Err-clause-moments g c = λ image held i left. inl (held_image _ image i held (g.met.D.Disk.only_now c.args.disk.now i left))

pub returns-in-Err-sectors-clause-moments : goal.returns-in-Err-sectors-clause-moments
returns-in-Err-sectors-clause-moments g c = λ image held i left.
    inl (⊎_elim (λ was. held_image _ image i held (g.met.D.Disk.only_now c.args.disk.now i was)) (held_image _ image i held) (c.sectors.ensures.time.nothing_else (g.D.Disk.clock c.args.disk.now) i (omega arith) left))

pub returns-then-sectors-need-clause-moments : goal.returns-then-sectors-need-clause-moments
returns-then-sectors-need-clause-moments g c = λ image held i left.
    inl (⊎_elim (λ was. held_image _ image i held (g.met.D.Disk.only_now c.args.disk.now i was)) (held_image _ image i held) (c.sectors.ensures.time.nothing_else (g.D.Disk.clock c.args.disk.now) i (omega arith) left))

pub returns-in-Ok-format-clause-made : goal.returns-in-Ok-format-clause-made
returns-in-Ok-format-clause-made g c = λ image held made.
    let stamp = to_z w64 (of_z w64 c.stamp_at-stamp.result) in
    let kept : to_z w64 (of_z w64 c.stamp_at-stamp.result) ≡ c.stamp_at-stamp.result = search rules in
    let is_stamp : stamp ≡ pos (c.seconds.result * 65536) = kept ∙ c.stamp_at-stamp.ensures in
    let plan = c.in-Ok.ensures.ok in
    let new : (k : List ℕ) → IsNew c.in-Ok.geometry c.args.label.now stamp k → IsNewVolume c.args.blocks c.args.block_size c.args.label.now (g.C.Clock.stands c.args.clock.now) k =
    λ k is_new. new_volume c.args.blocks c.args.block_size c.args.label.now (g.C.Clock.stands c.args.clock.now) c.in-Ok.geometry c.seconds.result stamp k plan c.seconds.ensures.below c.seconds.ensures.told is_stamp is_new in
    let held_mid : (image : List ℕ) → Tells (g.D.Disk.state c.args.disk.now) (Holds image) → Tells (g.D.Disk.state c.sectors.new.self) (Holds image) =
    λ image held. subst (λ st. Tells st (Holds image)) (sym c.sectors.ensures.state) held in
    let after = c.in-Ok-format.ensures.made image (held_mid image held) in
    (after.0, after.1, (after.2.0, λ k reads. new k (after.2.1 k reads)))

pub returns-in-Ok-format-clause-moments : goal.returns-in-Ok-format-clause-moments
returns-in-Ok-format-clause-moments g c = λ image held i left.
    let stamp = to_z w64 (of_z w64 c.stamp_at-stamp.result) in
    let kept : to_z w64 (of_z w64 c.stamp_at-stamp.result) ≡ c.stamp_at-stamp.result = search rules in
    let is_stamp : stamp ≡ pos (c.seconds.result * 65536) = kept ∙ c.stamp_at-stamp.ensures in
    let plan = c.in-Ok.ensures.ok in
    let new : (k : List ℕ) → IsNew c.in-Ok.geometry c.args.label.now stamp k → IsNewVolume c.args.blocks c.args.block_size c.args.label.now (g.C.Clock.stands c.args.clock.now) k =
    λ k is_new. new_volume c.args.blocks c.args.block_size c.args.label.now (g.C.Clock.stands c.args.clock.now) c.in-Ok.geometry c.seconds.result stamp k plan c.seconds.ensures.below c.seconds.ensures.told is_stamp is_new in
    let held_mid : (image : List ℕ) → Tells (g.D.Disk.state c.args.disk.now) (Holds image) → Tells (g.D.Disk.state c.sectors.new.self) (Holds image) =
    λ image held. subst (λ st. Tells st (Holds image)) (sym c.sectors.ensures.state) held in
    let disk = c.args.disk.now in
    let t = g.D.Disk.clock disk in
    let since_mid = (c.format.ensures.time image (held_mid image held)).nothing_else t i c.sectors.ensures.time.later left in
    ⊎_elim
    (λ was. inl (⊎_elim (λ past. held_image _ image i held (g.met.D.Disk.only_now disk i past)) (held_image _ image i held) (c.sectors.ensures.time.nothing_else t i (omega arith) was)))
    (λ now. ⊎_elim (λ same. inl same) (λ other. inr (⊎_elim (λ refused. inl refused) (λ made. inr (new i made)) other)) now)
    since_mid

pub returns-in-Err-Disk-clause-moments : goal.returns-in-Err-Disk-clause-moments
returns-in-Err-Disk-clause-moments g c = λ image held i left.
    let stamp = to_z w64 (of_z w64 c.stamp_at-stamp.result) in
    let kept : to_z w64 (of_z w64 c.stamp_at-stamp.result) ≡ c.stamp_at-stamp.result = search rules in
    let is_stamp : stamp ≡ pos (c.seconds.result * 65536) = kept ∙ c.stamp_at-stamp.ensures in
    let plan = c.in-Ok.ensures.ok in
    let new : (k : List ℕ) → IsNew c.in-Ok.geometry c.args.label.now stamp k → IsNewVolume c.args.blocks c.args.block_size c.args.label.now (g.C.Clock.stands c.args.clock.now) k =
    λ k is_new. new_volume c.args.blocks c.args.block_size c.args.label.now (g.C.Clock.stands c.args.clock.now) c.in-Ok.geometry c.seconds.result stamp k plan c.seconds.ensures.below c.seconds.ensures.told is_stamp is_new in
    let held_mid : (image : List ℕ) → Tells (g.D.Disk.state c.args.disk.now) (Holds image) → Tells (g.D.Disk.state c.sectors.new.self) (Holds image) =
    λ image held. subst (λ st. Tells st (Holds image)) (sym c.sectors.ensures.state) held in
    let disk = c.args.disk.now in
    let t = g.D.Disk.clock disk in
    let since_mid = (c.format.ensures.time image (held_mid image held)).nothing_else t i c.sectors.ensures.time.later left in
    ⊎_elim
    (λ was. inl (⊎_elim (λ past. held_image _ image i held (g.met.D.Disk.only_now disk i past)) (held_image _ image i held) (c.sectors.ensures.time.nothing_else t i (omega arith) was)))
    (λ now. ⊎_elim (λ same. inl same) (λ other. inr (⊎_elim (λ refused. inl refused) (λ made. inr (new i made)) other)) now)
    since_mid

pub returns-in-Err-NoMemory-clause-moments : goal.returns-in-Err-NoMemory-clause-moments
returns-in-Err-NoMemory-clause-moments g c = λ image held i left.
    let stamp = to_z w64 (of_z w64 c.stamp_at-stamp.result) in
    let kept : to_z w64 (of_z w64 c.stamp_at-stamp.result) ≡ c.stamp_at-stamp.result = search rules in
    let is_stamp : stamp ≡ pos (c.seconds.result * 65536) = kept ∙ c.stamp_at-stamp.ensures in
    let plan = c.in-Ok.ensures.ok in
    let new : (k : List ℕ) → IsNew c.in-Ok.geometry c.args.label.now stamp k → IsNewVolume c.args.blocks c.args.block_size c.args.label.now (g.C.Clock.stands c.args.clock.now) k =
    λ k is_new. new_volume c.args.blocks c.args.block_size c.args.label.now (g.C.Clock.stands c.args.clock.now) c.in-Ok.geometry c.seconds.result stamp k plan c.seconds.ensures.below c.seconds.ensures.told is_stamp is_new in
    let held_mid : (image : List ℕ) → Tells (g.D.Disk.state c.args.disk.now) (Holds image) → Tells (g.D.Disk.state c.sectors.new.self) (Holds image) =
    λ image held. subst (λ st. Tells st (Holds image)) (sym c.sectors.ensures.state) held in
    let disk = c.args.disk.now in
    let t = g.D.Disk.clock disk in
    let since_mid = (c.format.ensures.time image (held_mid image held)).nothing_else t i c.sectors.ensures.time.later left in
    ⊎_elim
    (λ was. inl (⊎_elim (λ past. held_image _ image i held (g.met.D.Disk.only_now disk i past)) (held_image _ image i held) (c.sectors.ensures.time.nothing_else t i (omega arith) was)))
    (λ now. ⊎_elim (λ same. inl same) (λ other. inr (⊎_elim (λ refused. inl refused) (λ made. inr (new i made)) other)) now)
    since_mid
