use Rattle.std.proofs.Common.{◌≡◌, ◌∙◌, ap, sym, subst, arith, List, length, true}
use Rattle.bfs_bitmap.specs.declared.given.Given.{Given}
use Rattle.bfs_bitmap.specs.Runs.{Room, AreKeptFirst, as_kept, is_reserved}
use Rattle.bfs_bitmap.proofs.Back.{settled_dropped, AreAll, LiesIn, IsClosedBy, all_filter, reserved_filter}
use Rattle.std.proofs.lemmas.List.{with_items_is}
use Rattle.bfs_bitmap.proofs.Covered.{reserved_in}
use Rattle.bfs_bitmap.proofs.Settled.{first_filter}
use Rattle.bfs_bitmap.proofs.Left.{left_filter}
use Rattle.bfs_bitmap.proofs.bitmap.Bitmap.drop_call.Goals as goal

pub invariant_of-self : goal.invariant_of-self
invariant_of-self c =
    let long : length c.forget_unsettled.new.bytes ≡ length c.deref_mut.result.now = c.forget_unsettled.auto.bytes in
    let is : c.deref_mut.result.now ≡ c.self.inside.reserved.items = c.deref_mut.ensures.value in (
      record {
        some_bytes = c.self.invariant.0.some_bytes;
        few_bytes = c.self.invariant.0.few_bytes;
        few_blocks = c.self.invariant.0.few_blocks;
        some_group = c.self.invariant.0.some_group;
        few_group = c.self.invariant.0.few_group;
        tally = c.self.invariant.0.tally_kept;
        tally_kept = c.self.invariant.0.tally_kept;
        given = subst (AreAll (LiesIn c.self.inside.blocks)) (sym c.forget_unsettled.ensures.given) (all_filter (LiesIn c.self.inside.blocks) (λ g. g.kept) c.self.inside.given.items c.self.invariant.0.given);
        closed = subst (AreAll (IsClosedBy c.self.inside.last)) (sym c.forget_unsettled.ensures.given) (all_filter (IsClosedBy c.self.inside.last) (λ g. g.kept) c.self.inside.given.items c.self.invariant.0.closed);
        kept = subst AreKeptFirst (sym c.forget_unsettled.ensures.given) (first_filter (λ g. g.kept) c.self.inside.given.items c.self.invariant.0.kept);
      },
      reserved_in c.self.inside.blocks c.self.inside.given.items c.forget_unsettled.new.given.items c.self.inside.reserved.items c.deref_mut.result.now c.forget_unsettled.new.bytes _ c.self.invariant.1 is (with_items_is c.self.inside.reserved c.forget_unsettled.new.bytes (let a = c.deref_mut.ensures.len in omega (arith, long, a))) (c.forget_unsettled.ensures.bits c.self.inside.blocks),
      left_filter c.self.inside.left c.self.inside.last (λ g. g.kept) c.self.inside.given.items c.forget_unsettled.new.given.items c.self.invariant.2 c.forget_unsettled.ensures.given,
    )

pub returns-clause-reserved : goal.returns-clause-reserved
returns-clause-reserved c k t =
    subst (λ (v : Room). is_reserved v.given k ≡ true) c.self.view_is (reserved_filter (λ g. g.kept) c.self.inside.given.items k (subst (λ (l : List Given). is_reserved l k ≡ true) c.forget_unsettled.ensures.given t))

pub returns-clause-settled : goal.returns-clause-settled
returns-clause-settled c =
    let room : List Given → Room = λ l. record { block_size = c.self.inside.block_size; blocks = c.self.inside.blocks; group_blocks = c.self.inside.group_blocks; given = l; last = c.self.inside.last; tally = c.self.inside.tally_kept; tally_kept = c.self.inside.tally_kept } in
    let change : Room → Room = λ v. as_kept v in
    let is : room c.forget_unsettled.new.given.items ≡ change c.args.self.now = ap room c.forget_unsettled.ensures.given ∙ ap change c.self.view_is in
    settled_dropped c.args.self.now (room c.forget_unsettled.new.given.items) is
