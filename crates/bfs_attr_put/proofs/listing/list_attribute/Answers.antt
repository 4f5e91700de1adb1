use Rattle.std.proofs.Common.{◌≡◌, ◌⊎◌, ◌∙◌, ℕ, pos, List, [], sym, ap, subst}
use Rattle.std.specs.Prelude.{◌↔◌}
use Rattle.std.specs.List.{Contains}
use Rattle.std.specs.List.Sorted.{IsStrictlySortedBy}
use Rattle.bfs_base.specs.declared.kind.KeyKind.{KeyKind}
use Rattle.bfs_base.specs.declared.kind.KeyKind.TheVariants.{Text}
use Rattle.bfs_node.specs.Page.{Row}
use Rattle.bfs_pages.specs.Maps.{assoc}
use Rattle.bfs_super.specs.Geometry.{geometry_of}
use Rattle.bfs_stream.specs.Sizes.{sizes_of}
use Rattle.bfs_tree.specs.Listings.{pair_cmp}
use Rattle.bfs_shift.specs.Lists.{with_pairs}
use Rattle.bfs_attr_calls.proofs.Ends.{goes_on_same}
use Rattle.bfs_attr_calls.proofs.Faulting.{pair_unanswered}
use Rattle.bfs_attr_put.specs.Listed.{IsDue}
use Rattle.bfs_attr_put.proofs.Relisted.{lists_none, lists_some, pairs, pairs_sorted, pairs_more}
use Rattle.bfs_attr_put.proofs.listing.list_attribute.Goals as goal

pub list_pair-requires-clause-index : goal.list_pair-requires-clause-index
list_pair-requires-clause-index g c m told =
    let h = c.requires.put m told in
    let due = subst (IsDue h.lists h.name h.attribute) c.in-Some.is h.is_due in
    record {
      tree = h.since;
      lists = h.begun;
      loose = [];
      name = h.name;
      work = h.put.work;
      row = ap (λ (l : List Row). assoc Text l h.name) h.put.unlists.names ∙ due.1;
      kind_is = h.put.unlists.kinds h.name ∙ sym due.2;
    }

pub returns-in-None-clause-listed : goal.returns-in-None-clause-listed
returns-in-None-clause-listed g c m tree since lists begun n name attribute told put is_due =
    record {
      last = begun;
      step = record { map = m; is = told; work = put.work; goes_on = goes_on_same (geometry_of c.args.sup.now) c.args.bitmap.now m since (g.E.Blocks.changed c.args.edits.now) };
      under = lists_none tree lists begun c.args.id n name put.agrees put.there put.unlists attribute (subst (IsDue lists name attribute) c.in-None.is is_due);
    }

pub returns-in-Ok-clause-listed : goal.returns-in-Ok-clause-listed
returns-in-Ok-clause-listed g c m tree since lists begun n name attribute told put is_due =
    let id = c.args.id in
    let d = c.in-Some.due in
    let due = subst (IsDue lists name attribute) c.in-Some.is is_due in
    let ps = pairs tree lists begun id n name put.agrees put.there put.unlists attribute (pos d.inode) due.1 due.0 d.key due.3 in
    let sorted = subst (λ (k : KeyKind). IsStrictlySortedBy (pair_cmp k) ps) (sym due.2) (pairs_sorted tree lists begun id n name put.agrees put.there put.unlists attribute (pos d.inode) due.1 due.0 d.key due.3) in
    let more = subst (λ (key : List ℕ). (k : List ℕ) (q : ℕ) → Contains ps (k, q) ↔ (Contains (begun.pairs name) (k, q) ⊎ ((k ≡ key) × (q ≡ id)))) (sym c.as_slice.ensures)
    (pairs_more tree lists begun id n name put.agrees put.there put.unlists attribute (pos d.inode) due.1 due.0 d.key due.3) in
    record {
      last = with_pairs begun name ps;
      step = c.in-Ok.ensures.listed m since begun [] name ps told put.work (ap (λ (l : List Row). assoc Text l name) put.unlists.names ∙ due.1) (put.unlists.kinds name ∙ sym due.2) sorted more;
      under = lists_some tree lists begun id n name put.agrees put.there put.unlists attribute (pos d.inode) due.1 due.0 d.key due.3;
    }

pub returns-in-Err-clause-unanswered : goal.returns-in-Err-clause-unanswered
returns-in-Err-clause-unanswered g c m told =
    let h = c.requires.put m told in
    let due = subst (IsDue h.lists h.name h.attribute) c.in-Some.is h.is_due in
    pair_unanswered (record { id = c.in-Some.due.inode; sizes = sizes_of c.args.sup.now }) c.args.bitmap.now m c.in-Err.fault
    (c.in-Err.ensures.refused m h.since h.begun [] h.name told h.put.work (ap (λ (l : List Row). assoc Text l h.name) h.put.unlists.names ∙ due.1) (h.put.unlists.kinds h.name ∙ sym due.2))
