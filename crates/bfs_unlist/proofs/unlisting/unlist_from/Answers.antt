use Rattle.std.proofs.Common.{◌≡◌, ◌<◌, ◌⊎◌, ◌∙◌, true, [], ℕ, pos, List, Bool, Some, sym, ap, subst}
use Rattle.std.specs.List.Sorted.{IsStrictlySortedBy}
use Rattle.bfs_base.specs.declared.kind.KeyKind.{KeyKind}
use Rattle.bfs_base.specs.declared.kind.KeyKind.TheVariants.{Text}
use Rattle.bfs_super.specs.Conditions.{natural}
use Rattle.bfs_super.specs.Geometry.{geometry_of}
use Rattle.bfs_bitmap.specs.Fills.{IsBitmapBlock}
use Rattle.bfs_pages.specs.Maps.{assoc}
use Rattle.bfs_tree.specs.Listings.{key_at, listed, pair_cmp}
use Rattle.bfs_shift.specs.Lists.{with_pairs}
use Rattle.bfs_shift.specs.Work.{IsStepped}
use Rattle.bfs_leave.specs.Leaving.{tree_without}
use Rattle.bfs_moves.proofs.Ends.{goes_on_same}
use Rattle.bfs_unlist.specs.Reading.{IsListingOf}
use Rattle.bfs_unlist.proofs.Indexed.{here, index_at, node_readable}
use Rattle.bfs_unlist.proofs.Partly.{passed_over, taken_out, pairs_sorted, pairs_less}
use Rattle.bfs_unlist.proofs.unlisting.unlist_from.Goals as goal

pub listing_of-requires-clause-readable : goal.listing_of-requires-clause-readable
listing_of-requires-clause-readable g c m told =
    let h = c.requires.node m told in
    let u = h.1 in
    node_readable c.args.site.sup c.args.bitmap.now m u.tree u.lists u.now c.args.id c.args.info.now c.args.row.now h.0 c.requires.valid u.unlisting

pub returns-in-Err-clause-refused : goal.returns-in-Err-clause-refused
returns-in-Err-clause-refused g c m tree lists now rest told u = c.in-Err.ensures.listing c.args.bitmap.now m tree lists now rest told u

pub returns-in_default-clause-unlisted : goal.returns-in_default-clause-unlisted
returns-in_default-clause-unlisted g c m tree lists now rest told u =
    let s = geometry_of c.args.site.sup in
    let v = c.args.bitmap.now in
    let old = g.E.Blocks.changed c.args.edits.now in
    let none = subst (IsListingOf tree lists c.args.id c.args.row.now) c.in_default.is (c.in-Ok.ensures.listing v m tree lists now rest told u) in
    record {
      last = now;
      step = subst (λ (f : ℕ → Bool). IsStepped s v v m tree tree now [] (g.E.Blocks.told c.listing_of.new.under) old f) (sym c.in-Ok.ensures.changed)
          (record { map = m; is = c.in-Ok.ensures.told ∙ told; work = u.work; goes_on = goes_on_same s v m tree old });
      partly = passed_over tree lists now c.args.id c.args.row.now rest u.partly none;
    }

pub unlist_pair-requires-clause-index : goal.unlist_pair-requires-clause-index
unlist_pair-requires-clause-index g c m told =
    let before = sym c.in-Ok.ensures.told ∙ told in
    let h = c.requires.node m before in
    let u = h.1 in
    let is = subst (IsListingOf u.tree u.lists c.args.id c.args.row.now) c.in-Some.is (c.in-Ok.ensures.listing c.args.bitmap.now m u.tree u.lists u.now h.0 before u.unlisting) in
    index_at c.args.site.sup c.args.bitmap.now m u.tree u.lists u.now c.args.id c.args.info.now c.args.row.now h.0 c.requires.valid u.unlisting c.in-Some.listing.at.kind c.in-Some.listing.at.inode is.0 is.1

pub returns-in-Ok-unlist_pair-clause-unlisted : goal.returns-in-Ok-unlist_pair-clause-unlisted
returns-in-Ok-unlist_pair-clause-unlisted g c m tree lists now rest told u =
    let s = c.args.site.sup in
    let room = geometry_of s in
    let v = c.args.bitmap.now in
    let id = c.args.id in
    let row = c.args.row.now in
    let kind : KeyKind = lists.kinds row.name in
    let l = c.in-Some.listing in
    let is = subst (IsListingOf tree lists id row) c.in-Some.is (c.in-Ok.ensures.listing v m tree lists now rest told u) in
    let pairs : List (List ℕ × ℕ) = listed (tree_without tree id) row.name kind in
    let at : assoc Text now.names row.name ≡ Some (pos l.at.inode) = here s v m tree lists now id c.args.info.now row rest c.requires.valid u ∙ ap (λ (i : ℕ). Some (pos i)) (sym is.0) in
    let begun : assoc Text lists.names row.name ≡ Some (pos row.id) = u.read.lead.0 in
    let has : key_at tree row.name kind id ≡ Some c.as_slice.result.now = is.2 ∙ ap (λ (k : List ℕ). Some k) (sym c.as_slice.ensures) in
    let sorted : IsStrictlySortedBy (pair_cmp l.at.kind) pairs = subst (λ (k : KeyKind). IsStrictlySortedBy (pair_cmp k) pairs) (sym is.1) (pairs_sorted tree lists now id row rest u.partly) in
    let step = c.in-Ok-unlist_pair.ensures.unlisted m tree now [] row.name pairs (c.in-Ok.ensures.told ∙ told) u.work at (u.partly.kinds row.name ∙ sym is.1) sorted (pairs_less tree lists now id row rest u.partly (pos row.id) c.as_slice.result.now begun has) in
    record {
      last = with_pairs now row.name pairs;
      step = subst (λ (f : ℕ → Bool). IsStepped room v c.unlist_pair.new.bitmap m tree tree (with_pairs now row.name pairs) [] (g.E.Blocks.told c.unlist_pair.new.edits) f (g.E.Blocks.changed c.unlist_pair.new.edits)) c.in-Ok.ensures.changed step;
      partly = taken_out tree lists now id row rest u.partly;
    }

pub returns-clause-refused : goal.returns-clause-refused
returns-clause-refused g c m tree lists now rest told u =
    let s = c.args.site.sup in
    let v = c.args.bitmap.now in
    let id = c.args.id in
    let row = c.args.row.now in
    let l = c.in-Some.listing in
    let is = subst (IsListingOf tree lists id row) c.in-Some.is (c.in-Ok.ensures.listing v m tree lists now rest told u) in
    let at : assoc Text now.names row.name ≡ Some (pos l.at.inode) = here s v m tree lists now id c.args.info.now row rest c.requires.valid u ∙ ap (λ (i : ℕ). Some (pos i)) (sym is.0) in
    c.in-Err-unlist_pair.ensures.refused m tree now [] row.name (c.in-Ok.ensures.told ∙ told) u.work at (u.partly.kinds row.name ∙ sym is.1)

pub returns-in-Ok-unlist_pair-clause-changed : goal.returns-in-Ok-unlist_pair-clause-changed
returns-in-Ok-unlist_pair-clause-changed g c k e =
    subst (λ (f : ℕ → Bool). (f k ≡ true) ⊎ (IsBitmapBlock c.args.bitmap.now k ⊎ (k < natural c.args.site.sup.num_blocks))) c.in-Ok.ensures.changed (c.in-Ok-unlist_pair.ensures.changed k e)

pub returns-clause-changed : goal.returns-clause-changed
returns-clause-changed g c k e =
    subst (λ (f : ℕ → Bool). (f k ≡ true) ⊎ (IsBitmapBlock c.args.bitmap.now k ⊎ (k < natural c.args.site.sup.num_blocks))) c.in-Ok.ensures.changed (c.in-Err-unlist_pair.ensures.changed k e)
