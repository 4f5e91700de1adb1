use Rattle.std.proofs.Common.{◌≡◌, ◌∙◌, ap, filter, sym, subst, arith, ℕ, List, length, max, not, true}
use Rattle.std.proofs.lemmas.List.{with_items_is}
use Rattle.bfs_bitmap.specs.declared.given.Given.{Given}
use Rattle.bfs_bitmap.specs.declared.tally.Tally.{Tally}
use Rattle.bfs_bitmap.specs.Givens.{is_left}
use Rattle.bfs_bitmap.specs.Tallies.{IsWithin, lowered_by}
use Rattle.bfs_bitmap.specs.Runs.{Room, AreKeptFirst, is_reserved}
use Rattle.bfs_bitmap.proofs.Back.{fits_left, settled_left, lowered_within, AreAll, LiesIn, IsClosedBy, all_filter, reserved_filter}
use Rattle.bfs_bitmap.proofs.Covered.{reserved_in}
use Rattle.bfs_bitmap.proofs.Settled.{first_filter}
use Rattle.bfs_bitmap.proofs.Left.{left_freed}
use Rattle.bfs_bitmap.proofs.bitmap.Bitmap.release_some.Goals as goal

tally_is : (group : ℕ) (gs hs : List Given) (t u : Tally) → u ≡ lowered_by group hs t → hs ≡ gs → u ≡ lowered_by group gs t
tally_is group gs hs t u is same = is ∙ ap (λ (l : List Given). lowered_by group l t) same

abbrev change : ℕ → Room → Room
change group v = record v { given = filter (λ g. not (is_left group g)) v.given; tally = lowered_by group v.given v.tally; tally_kept = lowered_by group v.given v.tally_kept }

abbrev room : ℕ → ℕ → ℕ → ℕ → List Given → Tally → Tally → Room
room size blocks group_blocks last gs t k = record { block_size = size; blocks = blocks; group_blocks = group_blocks; given = gs; last = last; tally = t; tally_kept = k }

-- the fields of the bitmap after it
room_is : (group size blocks group_blocks last : ℕ) (gs hs : List Given) (t u k w : Tally) (v : Room) → hs ≡ filter (λ g. not (is_left group g)) gs → u ≡ lowered_by group gs t → w ≡ lowered_by group gs k → room size blocks group_blocks last gs t k ≡ v
    → room size blocks group_blocks last hs u w ≡ change group v
room_is group size blocks group_blocks last gs hs t u k w v given tally kept is =
    ap (λ (l : List Given). room size blocks group_blocks last l u w) given
    ∙ ap (λ (x : Tally). room size blocks group_blocks last (filter (λ g. not (is_left group g)) gs) x w) tally
    ∙ ap (λ (x : Tally). room size blocks group_blocks last (filter (λ g. not (is_left group g)) gs) (lowered_by group gs t) x) kept
    ∙ ap (change group) is

pub invariant_of-self : goal.invariant_of-self
invariant_of-self c =
    let long : length c.forget_left.new.bytes ≡ length c.deref_mut.result.now = c.forget_left.auto.bytes in
    let is : c.deref_mut.result.now ≡ c.self.inside.reserved.items = c.deref_mut.ensures.value in
    let tally : c.lower_all-self-inside.result ≡ lowered_by c.args.group c.self.inside.given.items c.self.inside.tally = tally_is c.args.group c.self.inside.given.items _ c.self.inside.tally _ c.lower_all-self-inside.ensures c.deref.ensures.value in
    let kept : c.lower_all-self-inside-2.result ≡ lowered_by c.args.group c.self.inside.given.items c.self.inside.tally_kept = tally_is c.args.group c.self.inside.given.items _ c.self.inside.tally_kept _ c.lower_all-self-inside-2.ensures c.deref-2.ensures.value in (
      record {
        some_bytes = c.self.invariant.0.some_bytes;
        few_bytes = c.self.invariant.0.few_bytes;
        few_blocks = c.self.invariant.0.few_blocks;
        some_group = c.self.invariant.0.some_group;
        few_group = c.self.invariant.0.few_group;
        tally = subst (IsWithin c.self.inside.blocks) (sym tally) (lowered_within c.self.inside.blocks c.args.group c.self.inside.given.items c.self.inside.tally c.self.invariant.0.tally);
        tally_kept = subst (IsWithin c.self.inside.blocks) (sym kept) (lowered_within c.self.inside.blocks c.args.group c.self.inside.given.items c.self.inside.tally_kept c.self.invariant.0.tally_kept);
        given = subst (AreAll (LiesIn c.self.inside.blocks)) (sym c.forget_left.ensures.given) (all_filter (LiesIn c.self.inside.blocks) (λ g. not (is_left c.args.group g)) c.self.inside.given.items c.self.invariant.0.given);
        closed = subst (AreAll (IsClosedBy c.self.inside.last)) (sym c.forget_left.ensures.given) (all_filter (IsClosedBy c.self.inside.last) (λ g. not (is_left c.args.group g)) c.self.inside.given.items c.self.invariant.0.closed);
        kept = subst AreKeptFirst (sym c.forget_left.ensures.given) (first_filter (λ g. not (is_left c.args.group g)) c.self.inside.given.items c.self.invariant.0.kept);
      },
      reserved_in c.self.inside.blocks c.self.inside.given.items c.forget_left.new.given.items c.self.inside.reserved.items c.deref_mut.result.now c.forget_left.new.bytes _ c.self.invariant.1 is (with_items_is c.self.inside.reserved c.forget_left.new.bytes (let a = c.deref_mut.ensures.len in omega (arith, long, a))) (c.forget_left.ensures.bits c.self.inside.blocks),
      left_freed c.self.inside.left c.self.inside.last c.args.group _ c.self.inside.given.items c.forget_left.new.given.items c.self.invariant.2 c.forget_left.ensures.given (c.max-self-inside.ensures ∙ ap (λ (n : ℕ). max c.self.inside.left n) c.min.ensures),
    )

pub returns-clause-reserved : goal.returns-clause-reserved
returns-clause-reserved c k t =
    subst (λ (v : Room). is_reserved v.given k ≡ true) c.self.view_is (reserved_filter (λ g. not (is_left c.args.group g)) c.self.inside.given.items k (subst (λ (l : List Given). is_reserved l k ≡ true) c.forget_left.ensures.given t))

pub returns-clause-fits : goal.returns-clause-fits
returns-clause-fits c =
    let tally : c.lower_all-self-inside.result ≡ lowered_by c.args.group c.self.inside.given.items c.self.inside.tally = tally_is c.args.group c.self.inside.given.items _ c.self.inside.tally _ c.lower_all-self-inside.ensures c.deref.ensures.value in
    let kept : c.lower_all-self-inside-2.result ≡ lowered_by c.args.group c.self.inside.given.items c.self.inside.tally_kept = tally_is c.args.group c.self.inside.given.items _ c.self.inside.tally_kept _ c.lower_all-self-inside-2.ensures c.deref-2.ensures.value in
    fits_left c.args.self.now (room c.self.inside.block_size c.self.inside.blocks c.self.inside.group_blocks c.self.inside.last c.forget_left.new.given.items c.lower_all-self-inside.result c.lower_all-self-inside-2.result) c.args.group
    (room_is c.args.group c.self.inside.block_size c.self.inside.blocks c.self.inside.group_blocks c.self.inside.last c.self.inside.given.items c.forget_left.new.given.items c.self.inside.tally _ c.self.inside.tally_kept _ c.args.self.now c.forget_left.ensures.given tally kept c.self.view_is)

pub returns-clause-settled : goal.returns-clause-settled
returns-clause-settled c is =
    let tally : c.lower_all-self-inside.result ≡ lowered_by c.args.group c.self.inside.given.items c.self.inside.tally = tally_is c.args.group c.self.inside.given.items _ c.self.inside.tally _ c.lower_all-self-inside.ensures c.deref.ensures.value in
    let kept : c.lower_all-self-inside-2.result ≡ lowered_by c.args.group c.self.inside.given.items c.self.inside.tally_kept = tally_is c.args.group c.self.inside.given.items _ c.self.inside.tally_kept _ c.lower_all-self-inside-2.ensures c.deref-2.ensures.value in
    settled_left c.args.self.now (room c.self.inside.block_size c.self.inside.blocks c.self.inside.group_blocks c.self.inside.last c.forget_left.new.given.items c.lower_all-self-inside.result c.lower_all-self-inside-2.result) (λ g. not (is_left c.args.group g)) (lowered_by c.args.group c.args.self.now.given)
    (room_is c.args.group c.self.inside.block_size c.self.inside.blocks c.self.inside.group_blocks c.self.inside.last c.self.inside.given.items c.forget_left.new.given.items c.self.inside.tally _ c.self.inside.tally_kept _ c.args.self.now c.forget_left.ensures.given tally kept c.self.view_is) is
