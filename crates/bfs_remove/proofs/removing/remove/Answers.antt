use Rattle.std.proofs.Common.{◌≡◌, ℤ, Some, ap, sym, ◌∙◌, rules, w64, to_z, of_z}
use Rattle.bfs_node.specs.Page.{rows_of}
use Rattle.bfs_pages.proofs.Later.{later-twice}
use Rattle.bfs_pages.proofs.OfKind.{found-in-leaf}
use Rattle.bfs_pages.proofs.Sorted.{by-index, assoc-found, assoc-missed}
use Rattle.bfs_remove.proofs.Cutting.{pages-not_taken, unread-withheld}
use Rattle.bfs_remove.proofs.Giving.{stay-twice}
use Rattle.bfs_remove.proofs.removing.remove.Goals as goal

pub returns-in-Err-clause-removed : goal.returns-in-Err-clause-removed
returns-in-Err-clause-removed g c b reached t fs e tree = pages-not_taken c.args.kind t c.args.key.now c.in-Err.fault (c.in-Err.ensures.way b reached t fs e tree)

pub returns-in-Err-search-clause-removed : goal.returns-in-Err-search-clause-removed
returns-in-Err-search-clause-removed g c b reached t fs e tree =
    let w = c.in-Ok.ensures.way b reached t fs e tree in
    let f = found-in-leaf c.args.kind b reached t fs c.args.key.now c.in-Ok.way.leaf c.way_to.new.page tree.holds (w.page_is, w.leaf) in
    f.1 ∙ assoc-missed c.args.kind (rows_of c.way_to.new.page) c.args.key.now c.in-Err-search.field-0 (c.in-Err-search.ensures.place (by-index c.args.kind (rows_of c.way_to.new.page) f.0))

pub returns-in-Err-take_out-clause-removed : goal.returns-in-Err-take_out-clause-removed
returns-in-Err-take_out-clause-removed g c b reached t fs e tree =
    let w = c.in-Ok.ensures.way b reached t fs e tree in
    let f = found-in-leaf c.args.kind b reached t fs c.args.key.now c.in-Ok.way.leaf c.way_to.new.page tree.holds (w.page_is, w.leaf) in
    let at = c.in-Ok-search.ensures.place (by-index c.args.kind (rows_of c.way_to.new.page) f.0) in
    pages-not_taken c.args.kind t c.args.key.now c.in-Err-take_out.fault (c.in-Err-take_out.ensures.taken b reached t fs (c.in-Ok.ensures.told ∙ e) tree w at.1)

pub returns-in-Ok-collapse-clause-removed : goal.returns-in-Ok-collapse-clause-removed
returns-in-Ok-collapse-clause-removed g c b reached t fs e tree =
    let w = c.in-Ok.ensures.way b reached t fs e tree in
    let f = found-in-leaf c.args.kind b reached t fs c.args.key.now c.in-Ok.way.leaf c.way_to.new.page tree.holds (w.page_is, w.leaf) in
    let at = c.in-Ok-search.ensures.place (by-index c.args.kind (rows_of c.way_to.new.page) f.0) in
    let k = c.in-Ok-take_out.ensures.taken b reached t fs (c.in-Ok.ensures.told ∙ e) tree w at.1 in
    let r = c.in-Ok-collapse.ensures.collapsed k.0 reached k.3.0 k.3.1 k.1 k.2 k.3.2 in
    (r.0, r.1, (r.2.0, r.2.1, r.2.2, r.2.3 ∙ k.3.3), stay-twice reached b k.0 r.0 k.4 r.3, r.4)

pub returns-in-Ok-collapse-clause-filled : goal.returns-in-Ok-collapse-clause-filled
returns-in-Ok-collapse-clause-filled g c b reached t fs e tree filled =
    let w = c.in-Ok.ensures.way b reached t fs e tree in
    let f = found-in-leaf c.args.kind b reached t fs c.args.key.now c.in-Ok.way.leaf c.way_to.new.page tree.holds (w.page_is, w.leaf) in
    let at = c.in-Ok-search.ensures.place (by-index c.args.kind (rows_of c.way_to.new.page) f.0) in
    let k = c.in-Ok-take_out.ensures.filled b reached t fs (c.in-Ok.ensures.told ∙ e) tree w at.1 filled in
    c.in-Ok-collapse.ensures.filled k.0 reached k.1 k.2 k.3 k.4 k.5 k.6

pub returns-in-Ok-collapse-clause-value : goal.returns-in-Ok-collapse-clause-value
returns-in-Ok-collapse-clause-value g c b reached t fs e tree =
    let w = c.in-Ok.ensures.way b reached t fs e tree in
    let f = found-in-leaf c.args.kind b reached t fs c.args.key.now c.in-Ok.way.leaf c.way_to.new.page tree.holds (w.page_is, w.leaf) in
    let at = c.in-Ok-search.ensures.place (by-index c.args.kind (rows_of c.way_to.new.page) f.0) in
    let signed : to_z w64 (of_z w64 c.row_value-value.result) ≡ c.row_value-value.result = search rules in
    f.1 ∙ assoc-found c.args.kind (rows_of c.way_to.new.page) c.args.key.now c.in-Ok-search.i f.0 at ∙ sym (ap (λ (z : ℤ). Some z) (signed ∙ c.row_value-value.ensures))

pub returns-in-Ok-collapse-clause-kept : goal.returns-in-Ok-collapse-clause-kept
returns-in-Ok-collapse-clause-kept g c = record {
  counts = later-twice c.in-Ok.ensures.kept.counts (later-twice c.in-Ok-take_out.ensures.kept.counts c.in-Ok-collapse.ensures.kept.counts);
  frame_is = c.in-Ok-collapse.ensures.kept.frame_is ∙ c.in-Ok-take_out.ensures.kept.frame_is ∙ c.in-Ok.ensures.kept.frame_is;
  goes_on = g.met.P.Pages.goes_on_twice c.args.pages.now c.take_out.new.pages c.collapse.new.pages
      (g.met.P.Pages.goes_on_twice c.args.pages.now c.way_to.new.pages c.take_out.new.pages c.in-Ok.ensures.kept.goes_on c.in-Ok-take_out.ensures.kept.goes_on) c.in-Ok-collapse.ensures.kept.goes_on;
}

pub returns-in-Err-collapse-clause-removed : goal.returns-in-Err-collapse-clause-removed
returns-in-Err-collapse-clause-removed g c b reached t fs e tree =
    let w = c.in-Ok.ensures.way b reached t fs e tree in
    let f = found-in-leaf c.args.kind b reached t fs c.args.key.now c.in-Ok.way.leaf c.way_to.new.page tree.holds (w.page_is, w.leaf) in
    let at = c.in-Ok-search.ensures.place (by-index c.args.kind (rows_of c.way_to.new.page) f.0) in
    let k = c.in-Ok-take_out.ensures.taken b reached t fs (c.in-Ok.ensures.told ∙ e) tree w at.1 in
    pages-not_taken c.args.kind t c.args.key.now c.in-Err-collapse.fault (c.in-Err-collapse.ensures.collapsed k.0 reached k.3.0 k.3.1 k.1 k.2 k.3.2)

pub returns-in-Err-collapse-clause-refused : goal.returns-in-Err-collapse-clause-refused
returns-in-Err-collapse-clause-refused g c =
    unread-withheld c.args.kind (g.P.Pages.told c.args.pages.now) (g.P.Pages.told c.collapse.new.pages) (g.P.Pages.is_cause c.take_out.new.pages c.collapse.new.pages) (g.P.Pages.is_cause c.args.pages.now c.collapse.new.pages) c.in-Err-collapse.fault
    (λ f. g.met.P.Pages.is_cause_before c.args.pages.now c.take_out.new.pages c.collapse.new.pages f
    (g.met.P.Pages.goes_on_twice c.args.pages.now c.way_to.new.pages c.take_out.new.pages c.in-Ok.ensures.kept.goes_on c.in-Ok-take_out.ensures.kept.goes_on)) c.in-Err-collapse.ensures.refused

pub returns-in-Err-collapse-clause-kept : goal.returns-in-Err-collapse-clause-kept
returns-in-Err-collapse-clause-kept g c = record {
  counts = later-twice c.in-Ok.ensures.kept.counts (later-twice c.in-Ok-take_out.ensures.kept.counts c.in-Err-collapse.ensures.kept.counts);
  frame_is = c.in-Err-collapse.ensures.kept.frame_is ∙ c.in-Ok-take_out.ensures.kept.frame_is ∙ c.in-Ok.ensures.kept.frame_is;
  goes_on = g.met.P.Pages.goes_on_twice c.args.pages.now c.take_out.new.pages c.collapse.new.pages
      (g.met.P.Pages.goes_on_twice c.args.pages.now c.way_to.new.pages c.take_out.new.pages c.in-Ok.ensures.kept.goes_on c.in-Ok-take_out.ensures.kept.goes_on) c.in-Err-collapse.ensures.kept.goes_on;
}
