use Rattle.std.proofs.Common.{ℕ, ◌≡◌, ◌+◌, ◌-◌, ◌*◌, ◌/◌, ◌%◌, ◌^◌, ◌==◌, List, length, take, drop, subst, sym, ap, ◌∙◌, eq-eqb}
use Rattle.std.proofs.lemmas.Bool.{ne_eqb}
use Rattle.std.proofs.lemmas.List.{with_items_is}
use Rattle.bfs_base.specs.Images.{overwritten}
use Rattle.bfs_disk.proofs.Picks.{Picks, kept_sector, taken_sector}
use Rattle.bfs_disk.proofs.memory.crash.picked.Goals as goal
use Rattle.bfs_disk.proofs.memory.crash.picked.Goals.{then-pick-k-eq1, else-pick-k-eq1}

pub loop-k-preserved : goal.loop-k-preserved
loop-k-preserved c =
    let next : List ℕ → Type 0 = Picks (λ j. c.args.pick / 2 ^ (j % 64) % 2 == 1) (c.loop-k.k + 1) c.args.newest.now c.args.image.items in
    elim c.if-pick-k-eq1.branch [
      | then-pick-k-eq1 w ↦
          let k = c.loop-k.k in
          let bytes = c.loop-k.image.items in
          let more = taken_sector _ _ _ _ _ c.loop-k.invariant c.requires.whole c.loop-k-test.true (eq-eqb _ _ w.if-pick-k-eq1.true) in
          let put : w.put.new.image ≡ overwritten k (take (512 * k + 512 - 512 * k) (drop (512 * k) c.args.newest.now)) bytes = w.put.ensures ∙ ap (overwritten k _) w.deref_mut.ensures.value in
          let items = with_items_is c.loop-k.image w.put.new.image (ap length put ∙ more.long ∙ sym c.loop-k.invariant.long ∙ sym c.loop-k.image.ok.0) ∙ put in
          subst (λ v. next v.items) (sym w.image-is) (subst next (sym items) more)
      | else-pick-k-eq1 w ↦
          subst (λ v. next v.items) (sym w.image-is) (kept_sector _ _ _ _ _ c.loop-k.invariant c.requires.whole c.loop-k-test.true (ne_eqb _ _ w.if-pick-k-eq1.false))
    ]
