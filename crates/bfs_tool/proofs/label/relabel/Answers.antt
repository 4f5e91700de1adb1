use Rattle.std.proofs.Common.{◌≡◌, inl, inr, ⊎_elim, length, ◌∙◌, ap, subst, arith, rules, Some}
use Rattle.std.specs.Option.{option_map, IfSome}
use Rattle.bfs_disk.specs.State.{ReadsAs, Tells, Holds, settled}
use Rattle.bfs_disk.specs.Disk.{MayLeave, told_written}
use Rattle.bfs_tool.proofs.Held.{held_image, two_sectors, new_image, good_image, refused_ends, held_during, held_after}
use Rattle.bfs_tool.proofs.label.relabel.Goals as goal

pub returns-in-Short-clause-moments : goal.returns-in-Short-clause-moments
returns-in-Short-clause-moments g c = λ image held i left.
    let disk = c.args.disk.now in
    inl (⊎_elim (λ was. held_image _ image i held (g.met.D.Disk.only_now disk i was)) (held_image _ image i held) (c.load.ensures.time.nothing_else (g.D.Disk.clock disk) i (omega arith) left))

pub returns-in-Failed-clause-moments : goal.returns-in-Failed-clause-moments
returns-in-Failed-clause-moments g c = λ image held i left.
    let disk = c.args.disk.now in
    inl (⊎_elim (λ was. held_image _ image i held (g.met.D.Disk.only_now disk i was)) (held_image _ image i held) (c.load.ensures.time.nothing_else (g.D.Disk.clock disk) i (omega arith) left))

pub returns-in-Err-clause-moments : goal.returns-in-Err-clause-moments
returns-in-Err-clause-moments g c = λ image held i left.
    let disk = c.args.disk.now in
    inl (⊎_elim (λ was. held_image _ image i held (g.met.D.Disk.only_now disk i was)) (held_image _ image i held) (c.load.ensures.time.nothing_else (g.D.Disk.clock disk) i (omega arith) left))

pub returns-in-Err-clause-ends : goal.returns-in-Err-clause-ends
returns-in-Err-clause-ends g c = λ image reads.
    let mid = c.load.new.disk in
    let sized = subst (λ st. IfSome st (λ s. g.D.Disk.size mid ≡ Some s.size)) c.load.ensures.state (g.met.D.Disk.sized mid) in
    let long : length c.in-Sector.sector ≡ 512 = search rules in
    refused_ends _ image reads (g.D.Disk.size mid) sized _ c.in-Sector.sector long c.in-Sector.ensures.found.0 c.in-Sector.ensures.found.1 c.in-Err.ensures.err

pub returns-in-Ok-store-clause-ends : goal.returns-in-Ok-store-clause-ends
returns-in-Ok-store-clause-ends g c = λ image reads.
    let mid = c.load.new.disk in
    let sized = subst (λ st. IfSome st (λ s. g.D.Disk.size mid ≡ Some s.size)) c.load.ensures.state (g.met.D.Disk.sized mid) in
    let long : length c.in-Sector.sector ≡ 512 = search rules in
    good_image _ image reads (g.D.Disk.size mid) sized c.in-Sector.sector _ _ long c.in-Sector.ensures.found.0 c.in-Sector.ensures.found.1 c.in-Ok.ensures.ok

pub returns-in-Ok-store-clause-moments : goal.returns-in-Ok-store-clause-moments
returns-in-Ok-store-clause-moments g c = λ image held i left.
    let disk = c.args.disk.now in
    let mid = c.load.new.disk in
    let reads : Tells (g.D.Disk.state disk) (λ s. ReadsAs s image) = (held.0, held.1, held.2.reads) in
    let sized = subst (λ st. IfSome st (λ s. g.D.Disk.size mid ≡ Some s.size)) c.load.ensures.state (g.met.D.Disk.sized mid) in
    let long : length c.in-Sector.sector ≡ 512 = search rules in
    let long_block : length c.in-Ok.changed ≡ 512 = search rules in
    let is = new_image _ image reads (g.D.Disk.size mid) sized c.in-Sector.sector c.args.name.now c.in-Ok.changed long c.in-Sector.ensures.found.0 c.in-Sector.ensures.found.1 c.requires c.in-Ok.ensures.ok long_block in
    ⊎_elim
    (λ was. inl (⊎_elim (λ past. held_image _ image i held (g.met.D.Disk.only_now disk i past)) (held_image _ image i held) (c.load.ensures.time.nothing_else (g.D.Disk.clock disk) i (omega arith) was)))
    (λ now. ⊎_elim (λ old. inl old) (λ new. inr (new ∙ is))
    (held_during _ image c.in-Ok.changed i held long_block (two_sectors _ image reads (g.D.Disk.size mid) sized c.in-Sector.ensures.found.0) (subst (λ st. MayLeave (told_written st 1 c.in-Ok.changed) i) c.load.ensures.state now)))
    (c.store.ensures.time.nothing_else (g.D.Disk.clock disk) i c.load.ensures.time.later left)

pub returns-in-Err-store-clause-moments : goal.returns-in-Err-store-clause-moments
returns-in-Err-store-clause-moments g c = λ image held i left.
    let disk = c.args.disk.now in
    let mid = c.load.new.disk in
    let reads : Tells (g.D.Disk.state disk) (λ s. ReadsAs s image) = (held.0, held.1, held.2.reads) in
    let sized = subst (λ st. IfSome st (λ s. g.D.Disk.size mid ≡ Some s.size)) c.load.ensures.state (g.met.D.Disk.sized mid) in
    let long : length c.in-Sector.sector ≡ 512 = search rules in
    let long_block : length c.in-Ok.changed ≡ 512 = search rules in
    let is = new_image _ image reads (g.D.Disk.size mid) sized c.in-Sector.sector c.args.name.now c.in-Ok.changed long c.in-Sector.ensures.found.0 c.in-Sector.ensures.found.1 c.requires c.in-Ok.ensures.ok long_block in
    ⊎_elim
    (λ was. inl (⊎_elim (λ past. held_image _ image i held (g.met.D.Disk.only_now disk i past)) (held_image _ image i held) (c.load.ensures.time.nothing_else (g.D.Disk.clock disk) i (omega arith) was)))
    (λ now. ⊎_elim (λ old. inl old) (λ new. inr (new ∙ is))
    (held_during _ image c.in-Ok.changed i held long_block (two_sectors _ image reads (g.D.Disk.size mid) sized c.in-Sector.ensures.found.0) (subst (λ st. MayLeave (told_written st 1 c.in-Ok.changed) i) c.load.ensures.state now)))
    (c.store.ensures.time.nothing_else (g.D.Disk.clock disk) i c.load.ensures.time.later left)

pub returns-in-Ok-store-clause-done : goal.returns-in-Ok-store-clause-done
returns-in-Ok-store-clause-done g c = λ image held done.
    let disk = c.args.disk.now in
    let mid = c.load.new.disk in
    let after = g.D.Disk.state c.store.new.disk in
    let reads : Tells (g.D.Disk.state disk) (λ s. ReadsAs s image) = (held.0, held.1, held.2.reads) in
    let sized = subst (λ st. IfSome st (λ s. g.D.Disk.size mid ≡ Some s.size)) c.load.ensures.state (g.met.D.Disk.sized mid) in
    let long : length c.in-Sector.sector ≡ 512 = search rules in
    let long_block : length c.in-Ok.changed ≡ 512 = search rules in
    let is = new_image _ image reads (g.D.Disk.size mid) sized c.in-Sector.sector c.args.name.now c.in-Ok.changed long c.in-Sector.ensures.found.0 c.in-Sector.ensures.found.1 c.requires c.in-Ok.ensures.ok long_block in
    subst (λ l. Tells after (Holds l)) is
    (held_after _ after image c.in-Ok.changed held long_block (two_sectors _ image reads (g.D.Disk.size mid) sized c.in-Sector.ensures.found.0)
    (c.in-Ok-store.ensures.state ∙ ap (λ st. option_map settled (told_written st 1 c.in-Ok.changed)) c.load.ensures.state))
