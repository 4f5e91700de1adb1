use Rattle.std.proofs.Common.{◌≡◌, ◌∙◌, ap, map, sym, subst, List, refl}
use Rattle.bfs_bitmap.specs.declared.given.Given.{Given}
use Rattle.bfs_bitmap.specs.Givens.{settled}
use Rattle.bfs_bitmap.specs.Runs.{Room, AreKeptFirst, is_reserved}
use Rattle.bfs_bitmap.proofs.Back.{fits_kept, settled_kept, AreAll, LiesIn, IsClosedBy, all_map, reserved-map}
use Rattle.bfs_bitmap.proofs.Covered.{reserved_same}
use Rattle.bfs_bitmap.proofs.Settled.{first_settled}
use Rattle.bfs_bitmap.proofs.Left.{left_settled}
use Rattle.bfs_bitmap.proofs.bitmap.Bitmap.keep.Goals as goal

pub invariant_of-self : goal.invariant_of-self
invariant_of-self c = (
  record {
    some_bytes = c.self.invariant.0.some_bytes;
    few_bytes = c.self.invariant.0.few_bytes;
    few_blocks = c.self.invariant.0.few_blocks;
    some_group = c.self.invariant.0.some_group;
    few_group = c.self.invariant.0.few_group;
    tally = c.self.invariant.0.tally;
    tally_kept = c.self.invariant.0.tally;
    given = subst (AreAll (LiesIn c.self.inside.blocks)) (sym c.settle_all.ensures) (all_map (LiesIn c.self.inside.blocks) (LiesIn c.self.inside.blocks) settled c.self.inside.given.items (λ g h. h) c.self.invariant.0.given);
    closed = subst (AreAll (IsClosedBy c.self.inside.last)) (sym c.settle_all.ensures) (all_map (IsClosedBy c.self.inside.last) (IsClosedBy c.self.inside.last) settled c.self.inside.given.items (λ g h. h) c.self.invariant.0.closed);
    kept = subst AreKeptFirst (sym c.settle_all.ensures) (first_settled c.self.inside.given.items);
  },
  reserved_same c.self.inside.blocks c.self.inside.given.items c.settle_all.new.given.items c.self.inside.reserved.items (λ k. ap (λ (l : List Given). is_reserved l k) c.settle_all.ensures ∙ reserved-map (settled) c.self.inside.given.items k (λ g. refl) (λ g. refl)) c.self.invariant.1,
  left_settled c.self.inside.left c.self.inside.last c.self.inside.given.items c.settle_all.new.given.items c.self.invariant.2 c.settle_all.ensures,
)

pub returns-clause-reserved : goal.returns-clause-reserved
returns-clause-reserved c k =
    ap (λ (l : List Given). is_reserved l k) c.settle_all.ensures
    ∙ reserved-map settled c.self.inside.given.items k (λ g. refl) (λ g. refl)
    ∙ ap (λ (v : Room). is_reserved v.given k) c.self.view_is

pub returns-clause-fits : goal.returns-clause-fits
returns-clause-fits c =
    let room : List Given → Room = λ l. record { block_size = c.self.inside.block_size; blocks = c.self.inside.blocks; group_blocks = c.self.inside.group_blocks; given = l; last = c.self.inside.last; tally = c.self.inside.tally; tally_kept = c.self.inside.tally } in
    let change : Room → Room = λ v. record v { given = map settled v.given; tally_kept = v.tally } in
    let is : room c.settle_all.new.given.items ≡ change c.args.self.now = ap room c.settle_all.ensures ∙ ap change c.self.view_is in
    fits_kept c.args.self.now (room c.settle_all.new.given.items) is

pub returns-clause-settled : goal.returns-clause-settled
returns-clause-settled c =
    let room : List Given → Room = λ l. record { block_size = c.self.inside.block_size; blocks = c.self.inside.blocks; group_blocks = c.self.inside.group_blocks; given = l; last = c.self.inside.last; tally = c.self.inside.tally; tally_kept = c.self.inside.tally } in
    let change : Room → Room = λ v. record v { given = map settled v.given; tally_kept = v.tally } in
    let is : room c.settle_all.new.given.items ≡ change c.args.self.now = ap room c.settle_all.ensures ∙ ap change c.self.view_is in
    settled_kept c.args.self.now (room c.settle_all.new.given.items) is
