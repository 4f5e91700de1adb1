use Rattle.std.proofs.Common.{◌≡◌, ◌<◌, ◌∙◌, ap, map, filter, sym, subst, List, refl, not}
use Rattle.bfs_bitmap.specs.declared.given.Given.{Given}
use Rattle.bfs_bitmap.specs.Givens.{numbered, is_left}
use Rattle.bfs_bitmap.specs.Runs.{Room, AreKeptFirst, is_reserved}
use Rattle.bfs_bitmap.proofs.Back.{fits_numbered, settled_numbered, AreAll, LiesIn, IsClosedBy, all_map, closed_numbered, all_leave, reserved-map}
use Rattle.bfs_bitmap.proofs.Covered.{reserved_same}
use Rattle.bfs_bitmap.proofs.Settled.{first_map}
use Rattle.bfs_bitmap.proofs.Left.{left_numbered}
use Rattle.bfs_bitmap.proofs.bitmap.Bitmap.close_group.Goals as goal

pub invariant_of-self : goal.invariant_of-self
invariant_of-self c = (
  record {
    some_bytes = c.self.invariant.0.some_bytes;
    few_bytes = c.self.invariant.0.few_bytes;
    few_blocks = c.self.invariant.0.few_blocks;
    some_group = c.self.invariant.0.some_group;
    few_group = c.self.invariant.0.few_group;
    tally = c.self.invariant.0.tally;
    tally_kept = c.self.invariant.0.tally_kept;
    given = subst (AreAll (LiesIn c.self.inside.blocks)) (sym c.number_all.ensures) (all_map (LiesIn c.self.inside.blocks) (LiesIn c.self.inside.blocks) (numbered c.args.group) c.self.inside.given.items (λ g h. h) c.self.invariant.0.given);
    closed = subst (AreAll (IsClosedBy c.args.group)) (sym c.number_all.ensures) (all_map (IsClosedBy c.self.inside.last) (IsClosedBy c.args.group) (numbered c.args.group) c.self.inside.given.items (closed_numbered c.self.inside.last c.args.group (subst (λ (v : Room). v.last < c.args.group) (sym c.self.view_is) c.requires)) c.self.invariant.0.closed);
    kept = subst AreKeptFirst (sym c.number_all.ensures) (first_map (numbered c.args.group) c.self.inside.given.items (λ g. refl) c.self.invariant.0.kept);
  },
  reserved_same c.self.inside.blocks c.self.inside.given.items c.number_all.new.given.items c.self.inside.reserved.items (λ k. ap (λ (l : List Given). is_reserved l k) c.number_all.ensures ∙ reserved-map (numbered c.args.group) c.self.inside.given.items k (λ g. refl) (λ g. refl)) c.self.invariant.1,
  left_numbered c.self.inside.left c.self.inside.last c.args.group c.self.inside.given.items c.number_all.new.given.items c.self.invariant.2 (subst (λ (v : Room). v.last < c.args.group) (sym c.self.view_is) c.requires) c.number_all.ensures,
)

pub returns-clause-leaves : goal.returns-clause-leaves
returns-clause-leaves c =
    ap (filter (λ g. not (is_left c.args.group g))) c.number_all.ensures
    ∙ all_leave c.self.inside.last c.args.group c.self.inside.given.items (subst (λ (v : Room). v.last < c.args.group) (sym c.self.view_is) c.requires) c.self.invariant.0.closed

pub returns-clause-reserved : goal.returns-clause-reserved
returns-clause-reserved c k =
    ap (λ (l : List Given). is_reserved l k) c.number_all.ensures
    ∙ reserved-map (numbered c.args.group) c.self.inside.given.items k (λ g. refl) (λ g. refl)
    ∙ ap (λ (v : Room). is_reserved v.given k) c.self.view_is

pub returns-clause-fits : goal.returns-clause-fits
returns-clause-fits c =
    let room : List Given → Room = λ l. record { block_size = c.self.inside.block_size; blocks = c.self.inside.blocks; group_blocks = c.self.inside.group_blocks; given = l; last = c.args.group; tally = c.self.inside.tally; tally_kept = c.self.inside.tally_kept } in
    let change : Room → Room = λ v. record v { given = map (numbered c.args.group) v.given; last = c.args.group } in
    let is : room c.number_all.new.given.items ≡ change c.args.self.now = ap room c.number_all.ensures ∙ ap change c.self.view_is in
    fits_numbered c.args.self.now (room c.number_all.new.given.items) c.args.group is

pub returns-clause-settled : goal.returns-clause-settled
returns-clause-settled c =
    let room : List Given → Room = λ l. record { block_size = c.self.inside.block_size; blocks = c.self.inside.blocks; group_blocks = c.self.inside.group_blocks; given = l; last = c.args.group; tally = c.self.inside.tally; tally_kept = c.self.inside.tally_kept } in
    let change : Room → Room = λ v. record v { given = map (numbered c.args.group) v.given; last = c.args.group } in
    let is : room c.number_all.new.given.items ≡ change c.args.self.now = ap room c.number_all.ensures ∙ ap change c.self.view_is in
    settled_numbered c.args.self.now (room c.number_all.new.given.items) c.args.group is
