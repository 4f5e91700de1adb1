use Rattle.std.proofs.Common.{rules, ◌≡◌, ◌≤◌, ◌+◌, length, None, false, refl, sym, subst, arith}
use Rattle.std.proofs.lemmas.List.{with_items_is}
use Rattle.bfs_bitmap.specs.Runs.{Room}
use Rattle.bfs_bitmap.proofs.Covered.{reserved_as, reserved_with_in}
use Rattle.bfs_bitmap.proofs.Left.{left_with}
use Rattle.bfs_bitmap.proofs.bitmap.Bitmap.add.Goals as goal

pub invariant_of-self-in-Ok-push : goal.invariant_of-self-in-Ok-push
invariant_of-self-in-Ok-push c =
    let long : length c.mark_run.new.bytes ≡ length c.deref_mut.result.now = c.mark_run.auto.bytes in
    let is : c.deref_mut.result.now ≡ c.get_bits.new.bytes.items = c.deref_mut.ensures.value in
    let inside : c.args.first + c.args.len ≤ c.self.inside.blocks = subst (λ (v : Room). c.args.first + c.args.len ≤ v.blocks) (sym c.self.view_is) c.requires in (
      search rules,
      reserved_with_in c.self.inside.blocks c.args.first c.args.len c.self.inside.given.items c.push.new.self.items (record { first = c.args.first; len = c.args.len; group = None; kept = false }) c.get_bits.new.bytes.items c.deref_mut.result.now c.mark_run.new.bytes _
          (reserved_as c.self.inside.blocks c.self.inside.given.items c.self.inside.reserved.items c.get_bits.new.bytes.items c.get_bits.ensures.few c.get_bits.ensures.long c.get_bits.ensures.same c.self.invariant.1) c.in-Ok.ensures.all is
          (with_items_is c.get_bits.new.bytes c.mark_run.new.bytes (let a = c.deref_mut.ensures.len in omega (arith, long, a))) c.in-Ok-push.ensures.items long inside refl refl c.mark_run.ensures,
      left_with c.self.inside.left c.self.inside.last c.self.inside.given.items c.push.new.self.items (record { first = c.args.first; len = c.args.len; group = None; kept = false }) c.self.invariant.2 c.in-Ok-push.ensures.items refl,
    )
