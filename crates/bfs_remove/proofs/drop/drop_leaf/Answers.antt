use Rattle.std.proofs.Common.{◌≡◌, ℕ, List, [], ◌∷◌, length, ap, sym, ◌∙◌, subst, rules, w64, to_z, of_z}
use Rattle.bfs_node.specs.Page.{Row}
use Rattle.bfs_node.specs.declared.header.Header.{Header}
use Rattle.bfs_pages.specs.Answers.{IsLink}
use Rattle.bfs_pages.specs.Shapes.{leaf_shape}
use Rattle.bfs_pages.specs.Trees.{state_of, header_in, page_in, place_of, neighbours_in, IsTreeHeader}
use Rattle.bfs_pages.specs.Ways.{under}
use Rattle.bfs_pages.proofs.Faulted.{unread-before}
use Rattle.bfs_pages.proofs.Later.{later-twice}
use Rattle.bfs_remove.specs.Removed.{IsMended}
use Rattle.bfs_remove.proofs.Giving.{stay-twice, told-size}
use Rattle.bfs_remove.proofs.Losing.{branch-interior, left-read, right-read, leaf-lost}
use Rattle.bfs_remove.proofs.drop.drop_leaf.Goals as goal

pub returns-in-Err-clause-dropped : goal.returns-in-Err-clause-dropped
returns-in-Err-clause-dropped g c b reached t fs at v e tree w rows =
    let leaf : under c.args.kind (state_of c.args.kind b).levels t c.args.key.now ≡ leaf_shape at ((c.args.key.now, v) ∷ []) = w.leaf ∙ ap (λ (z : List Row). leaf_shape at z) rows in
    c.in-Err.ensures.spared b e (branch-interior c.args.kind b reached t fs c.args.key.now v at c.args.branch tree leaf w.branch)

pub returns-in-Err-mend_right-clause-dropped : goal.returns-in-Err-mend_right-clause-dropped
returns-in-Err-mend_right-clause-dropped g c b reached t fs at v e tree w rows =
    let sl : to_z w64 (of_z w64 c.left_link-left.result) ≡ c.left_link-left.result = search rules in
    let leaf : under c.args.kind (state_of c.args.kind b).levels t c.args.key.now ≡ leaf_shape at ((c.args.key.now, v) ∷ []) = w.leaf ∙ ap (λ (z : List Row). leaf_shape at z) rows in
    let left : c.place.result ≡ (neighbours_in (page_in b at)).0 = c.place.ensures ∙ ap place_of (sl ∙ c.left_link-left.ensures) ∙ ap (λ (z : List ℕ). (neighbours_in z).0) w.page_is in
    let d = c.in-Ok.ensures.made b e in
    c.in-Err-mend_right.ensures.spared d.0 d.1 (left-read c.args.kind b reached t fs c.args.key.now v at c.args.branch tree leaf w.branch d.0 c.place.result left d.2)

pub returns-in-Err-mend_right-clause-refused : goal.returns-in-Err-mend_right-clause-refused
returns-in-Err-mend_right-clause-refused g c =
    unread-before c.args.kind (g.P.Pages.told c.mend_right.new.pages) (g.P.Pages.is_cause c.drop_child.new.pages c.mend_right.new.pages) (g.P.Pages.is_cause c.args.pages.now c.mend_right.new.pages) c.in-Err-mend_right.fault
    (λ f. g.met.P.Pages.is_cause_before c.args.pages.now c.drop_child.new.pages c.mend_right.new.pages f c.in-Ok.ensures.kept.goes_on) c.in-Err-mend_right.ensures.refused

pub returns-in-Err-mend_right-clause-kept : goal.returns-in-Err-mend_right-clause-kept
returns-in-Err-mend_right-clause-kept g c = record {
  counts = later-twice c.in-Ok.ensures.kept.counts c.in-Err-mend_right.ensures.kept.counts;
  frame_is = c.in-Err-mend_right.ensures.kept.frame_is ∙ c.in-Ok.ensures.kept.frame_is;
  goes_on = g.met.P.Pages.goes_on_twice c.args.pages.now c.drop_child.new.pages c.mend_right.new.pages c.in-Ok.ensures.kept.goes_on c.in-Err-mend_right.ensures.kept.goes_on;
}

pub mend_left-requires-clause-at : goal.mend_left-requires-clause-at
mend_left-requires-clause-at g c =
    let sr : to_z w64 (of_z w64 c.right_link-right.result) ≡ c.right_link-right.result = search rules in
    let pr : c.place-2.result ≡ (neighbours_in c.args.leaf.now).1 = c.place-2.ensures ∙ ap place_of (sr ∙ c.right_link-right.ensures) in
    subst (λ (n : ℕ). IsLink n c.place-2.result) (sym (c.in-Ok-mend_right.ensures.size ∙ c.in-Ok.ensures.size)) (subst (λ (x : ℕ). IsLink (g.P.Pages.size c.args.pages.now) x) (sym pr) c.requires.leaf.right)

pub returns-in-Err-mend_left-clause-dropped : goal.returns-in-Err-mend_left-clause-dropped
returns-in-Err-mend_left-clause-dropped g c b reached t fs at v e tree w rows =
    let sl : to_z w64 (of_z w64 c.left_link-left.result) ≡ c.left_link-left.result = search rules in
    let sr : to_z w64 (of_z w64 c.right_link-right.result) ≡ c.right_link-right.result = search rules in
    let leaf : under c.args.kind (state_of c.args.kind b).levels t c.args.key.now ≡ leaf_shape at ((c.args.key.now, v) ∷ []) = w.leaf ∙ ap (λ (z : List Row). leaf_shape at z) rows in
    let left : c.place.result ≡ (neighbours_in (page_in b at)).0 = c.place.ensures ∙ ap place_of (sl ∙ c.left_link-left.ensures) ∙ ap (λ (z : List ℕ). (neighbours_in z).0) w.page_is in
    let d = c.in-Ok.ensures.made b e in
    let pr : c.place-2.result ≡ place_of c.right_link-right.result = c.place-2.ensures ∙ ap place_of sr in
    let right : c.place-2.result ≡ (neighbours_in (page_in b at)).1 = pr ∙ ap place_of c.right_link-right.ensures ∙ ap (λ (z : List ℕ). (neighbours_in z).1) w.page_is in
    let m0 = c.in-Ok-mend_right.ensures.made d.0 d.1 in
    let m1 : IsMended c.args.kind d.0 m0.0 c.place.result ((neighbours_in (page_in d.0 c.place.result)).0, c.place-2.result) =
    subst (λ (z : ℕ). IsMended c.args.kind d.0 m0.0 c.place.result ((neighbours_in (page_in d.0 c.place.result)).0, z)) (ap place_of sr ∙ sym pr) m0.2 in
    c.in-Err-mend_left.ensures.spared m0.0 m0.1 (right-read c.args.kind b reached t fs c.args.key.now v at c.args.branch tree leaf w.branch d.0 c.place.result left d.2 m0.0 c.place-2.result right m1)

pub returns-in-Err-mend_left-clause-refused : goal.returns-in-Err-mend_left-clause-refused
returns-in-Err-mend_left-clause-refused g c =
    unread-before c.args.kind (g.P.Pages.told c.mend_left.new.pages) (g.P.Pages.is_cause c.mend_right.new.pages c.mend_left.new.pages) (g.P.Pages.is_cause c.args.pages.now c.mend_left.new.pages) c.in-Err-mend_left.fault
    (λ f. g.met.P.Pages.is_cause_before c.args.pages.now c.mend_right.new.pages c.mend_left.new.pages f (g.met.P.Pages.goes_on_twice c.args.pages.now c.drop_child.new.pages c.mend_right.new.pages c.in-Ok.ensures.kept.goes_on c.in-Ok-mend_right.ensures.kept.goes_on)) c.in-Err-mend_left.ensures.refused

pub returns-in-Err-mend_left-clause-kept : goal.returns-in-Err-mend_left-clause-kept
returns-in-Err-mend_left-clause-kept g c = record {
  counts = later-twice c.in-Ok.ensures.kept.counts (later-twice c.in-Ok-mend_right.ensures.kept.counts c.in-Err-mend_left.ensures.kept.counts);
  frame_is = c.in-Err-mend_left.ensures.kept.frame_is ∙ c.in-Ok-mend_right.ensures.kept.frame_is ∙ c.in-Ok.ensures.kept.frame_is;
  goes_on = g.met.P.Pages.goes_on_twice c.args.pages.now c.mend_right.new.pages c.mend_left.new.pages (g.met.P.Pages.goes_on_twice c.args.pages.now c.drop_child.new.pages c.mend_right.new.pages c.in-Ok.ensures.kept.goes_on c.in-Ok-mend_right.ensures.kept.goes_on) c.in-Err-mend_left.ensures.kept.goes_on;
}

pub returns-in-Ok-release-clause-dropped : goal.returns-in-Ok-release-clause-dropped
returns-in-Ok-release-clause-dropped g c b reached t fs at v e tree w rows =
    let sl : to_z w64 (of_z w64 c.left_link-left.result) ≡ c.left_link-left.result = search rules in
    let sr : to_z w64 (of_z w64 c.right_link-right.result) ≡ c.right_link-right.result = search rules in
    let leaf : under c.args.kind (state_of c.args.kind b).levels t c.args.key.now ≡ leaf_shape at ((c.args.key.now, v) ∷ []) = w.leaf ∙ ap (λ (z : List Row). leaf_shape at z) rows in
    let left : c.place.result ≡ (neighbours_in (page_in b at)).0 = c.place.ensures ∙ ap place_of (sl ∙ c.left_link-left.ensures) ∙ ap (λ (z : List ℕ). (neighbours_in z).0) w.page_is in
    let d = c.in-Ok.ensures.made b e in
    let pr : c.place-2.result ≡ place_of c.right_link-right.result = c.place-2.ensures ∙ ap place_of sr in
    let right : c.place-2.result ≡ (neighbours_in (page_in b at)).1 = pr ∙ ap place_of c.right_link-right.ensures ∙ ap (λ (z : List ℕ). (neighbours_in z).1) w.page_is in
    let m0 = c.in-Ok-mend_right.ensures.made d.0 d.1 in
    let m1 : IsMended c.args.kind d.0 m0.0 c.place.result ((neighbours_in (page_in d.0 c.place.result)).0, c.place-2.result) =
    subst (λ (z : ℕ). IsMended c.args.kind d.0 m0.0 c.place.result ((neighbours_in (page_in d.0 c.place.result)).0, z)) (ap place_of sr ∙ sym pr) m0.2 in
    let pl : c.place.result ≡ place_of c.left_link-left.result = c.place.ensures ∙ ap place_of sl in
    let n0 = c.in-Ok-mend_left.ensures.made m0.0 m0.1 in
    let m2 : IsMended c.args.kind m0.0 n0.0 c.place-2.result (c.place.result, (neighbours_in (page_in m0.0 c.place-2.result)).1) =
    subst (λ (z : ℕ). IsMended c.args.kind m0.0 n0.0 c.place-2.result (z, (neighbours_in (page_in m0.0 c.place-2.result)).1)) (ap place_of sl ∙ sym pl) n0.2 in
    let l = leaf-lost c.args.kind b reached t fs c.args.key.now v at c.args.branch tree leaf w.branch d.0 c.place.result left d.2 m0.0 c.place-2.result right m1 n0.0 m2 in
    let same : header_in n0.0 ≡ header_in b = n0.2.header ∙ m0.2.header ∙ d.2.header in
    let r = c.in-Ok-release.ensures.released n0.0 reached l.0 fs l.1 n0.1 (w.header ∙ sym same) l.2 in
    let size = told-size (g.P.Pages.told c.release.new.pages) (g.P.Pages.size c.release.new.pages) r.0 (g.met.P.Pages.sized c.release.new.pages) r.1 in (
      r.0,
      r.1,
      r.2,
      (
        l.0,
        r.3.frees,
        record {
          header = subst (λ (h : Header). IsTreeHeader c.args.kind (length r.0) h) r.2 (subst (λ (n : ℕ). IsTreeHeader c.args.kind n c.in-Ok-release.since) (sym size) c.in-Ok-release.ensures.header.tree);
          holds = r.3.holds;
        },
        l.3,
      ),
      stay-twice reached b n0.0 r.0 l.4 r.3.stay,
    )

pub returns-in-Ok-release-clause-filled : goal.returns-in-Ok-release-clause-filled
returns-in-Ok-release-clause-filled g c b reached t fs at v e tree w rows f =
    let sl : to_z w64 (of_z w64 c.left_link-left.result) ≡ c.left_link-left.result = search rules in
    let sr : to_z w64 (of_z w64 c.right_link-right.result) ≡ c.right_link-right.result = search rules in
    let leaf : under c.args.kind (state_of c.args.kind b).levels t c.args.key.now ≡ leaf_shape at ((c.args.key.now, v) ∷ []) = w.leaf ∙ ap (λ (z : List Row). leaf_shape at z) rows in
    let left : c.place.result ≡ (neighbours_in (page_in b at)).0 = c.place.ensures ∙ ap place_of (sl ∙ c.left_link-left.ensures) ∙ ap (λ (z : List ℕ). (neighbours_in z).0) w.page_is in
    let d = c.in-Ok.ensures.made b e in
    let pr : c.place-2.result ≡ place_of c.right_link-right.result = c.place-2.ensures ∙ ap place_of sr in
    let right : c.place-2.result ≡ (neighbours_in (page_in b at)).1 = pr ∙ ap place_of c.right_link-right.ensures ∙ ap (λ (z : List ℕ). (neighbours_in z).1) w.page_is in
    let m0 = c.in-Ok-mend_right.ensures.made d.0 d.1 in
    let m1 : IsMended c.args.kind d.0 m0.0 c.place.result ((neighbours_in (page_in d.0 c.place.result)).0, c.place-2.result) =
    subst (λ (z : ℕ). IsMended c.args.kind d.0 m0.0 c.place.result ((neighbours_in (page_in d.0 c.place.result)).0, z)) (ap place_of sr ∙ sym pr) m0.2 in
    let pl : c.place.result ≡ place_of c.left_link-left.result = c.place.ensures ∙ ap place_of sl in
    let n0 = c.in-Ok-mend_left.ensures.made m0.0 m0.1 in
    let m2 : IsMended c.args.kind m0.0 n0.0 c.place-2.result (c.place.result, (neighbours_in (page_in m0.0 c.place-2.result)).1) =
    subst (λ (z : ℕ). IsMended c.args.kind m0.0 n0.0 c.place-2.result (z, (neighbours_in (page_in m0.0 c.place-2.result)).1)) (ap place_of sl ∙ sym pl) n0.2 in
    let l = leaf-lost c.args.kind b reached t fs c.args.key.now v at c.args.branch tree leaf w.branch d.0 c.place.result left d.2 m0.0 c.place-2.result right m1 n0.0 m2 in
    let same : header_in n0.0 ≡ header_in b = n0.2.header ∙ m0.2.header ∙ d.2.header in
    let r = c.in-Ok-release.ensures.released n0.0 reached l.0 fs l.1 n0.1 (w.header ∙ sym same) l.2 in
    let size = told-size (g.P.Pages.told c.release.new.pages) (g.P.Pages.size c.release.new.pages) r.0 (g.met.P.Pages.sized c.release.new.pages) r.1 in (
      r.0,
      l.0,
      r.3.frees,
      r.1,
      r.2,
      record {
        header = subst (λ (h : Header). IsTreeHeader c.args.kind (length r.0) h) r.2 (subst (λ (n : ℕ). IsTreeHeader c.args.kind n c.in-Ok-release.since) (sym size) c.in-Ok-release.ensures.header.tree);
        holds = r.3.holds;
      },
      l.5 f,
    )

pub returns-in-Ok-release-clause-kept : goal.returns-in-Ok-release-clause-kept
returns-in-Ok-release-clause-kept g c = record {
  counts = later-twice c.in-Ok.ensures.kept.counts (later-twice c.in-Ok-mend_right.ensures.kept.counts (later-twice c.in-Ok-mend_left.ensures.kept.counts c.in-Ok-release.ensures.kept.counts));
  frame_is = c.in-Ok-release.ensures.kept.frame_is ∙ c.in-Ok-mend_left.ensures.kept.frame_is ∙ c.in-Ok-mend_right.ensures.kept.frame_is ∙ c.in-Ok.ensures.kept.frame_is;
  goes_on = g.met.P.Pages.goes_on_twice c.args.pages.now c.mend_left.new.pages c.release.new.pages (g.met.P.Pages.goes_on_twice c.args.pages.now c.mend_right.new.pages c.mend_left.new.pages (g.met.P.Pages.goes_on_twice c.args.pages.now c.drop_child.new.pages c.mend_right.new.pages c.in-Ok.ensures.kept.goes_on c.in-Ok-mend_right.ensures.kept.goes_on) c.in-Ok-mend_left.ensures.kept.goes_on) c.in-Ok-release.ensures.kept.goes_on;
}

pub returns-in-Err-release-clause-dropped : goal.returns-in-Err-release-clause-dropped
returns-in-Err-release-clause-dropped g c b reached t fs at v e tree w rows =
    let sl : to_z w64 (of_z w64 c.left_link-left.result) ≡ c.left_link-left.result = search rules in
    let sr : to_z w64 (of_z w64 c.right_link-right.result) ≡ c.right_link-right.result = search rules in
    let leaf : under c.args.kind (state_of c.args.kind b).levels t c.args.key.now ≡ leaf_shape at ((c.args.key.now, v) ∷ []) = w.leaf ∙ ap (λ (z : List Row). leaf_shape at z) rows in
    let left : c.place.result ≡ (neighbours_in (page_in b at)).0 = c.place.ensures ∙ ap place_of (sl ∙ c.left_link-left.ensures) ∙ ap (λ (z : List ℕ). (neighbours_in z).0) w.page_is in
    let d = c.in-Ok.ensures.made b e in
    let pr : c.place-2.result ≡ place_of c.right_link-right.result = c.place-2.ensures ∙ ap place_of sr in
    let right : c.place-2.result ≡ (neighbours_in (page_in b at)).1 = pr ∙ ap place_of c.right_link-right.ensures ∙ ap (λ (z : List ℕ). (neighbours_in z).1) w.page_is in
    let m0 = c.in-Ok-mend_right.ensures.made d.0 d.1 in
    let m1 : IsMended c.args.kind d.0 m0.0 c.place.result ((neighbours_in (page_in d.0 c.place.result)).0, c.place-2.result) =
    subst (λ (z : ℕ). IsMended c.args.kind d.0 m0.0 c.place.result ((neighbours_in (page_in d.0 c.place.result)).0, z)) (ap place_of sr ∙ sym pr) m0.2 in
    let pl : c.place.result ≡ place_of c.left_link-left.result = c.place.ensures ∙ ap place_of sl in
    let n0 = c.in-Ok-mend_left.ensures.made m0.0 m0.1 in
    let m2 : IsMended c.args.kind m0.0 n0.0 c.place-2.result (c.place.result, (neighbours_in (page_in m0.0 c.place-2.result)).1) =
    subst (λ (z : ℕ). IsMended c.args.kind m0.0 n0.0 c.place-2.result (z, (neighbours_in (page_in m0.0 c.place-2.result)).1)) (ap place_of sl ∙ sym pl) n0.2 in
    let l = leaf-lost c.args.kind b reached t fs c.args.key.now v at c.args.branch tree leaf w.branch d.0 c.place.result left d.2 m0.0 c.place-2.result right m1 n0.0 m2 in
    let same : header_in n0.0 ≡ header_in b = n0.2.header ∙ m0.2.header ∙ d.2.header in
    c.in-Err-release.ensures.released n0.0 reached l.0 fs l.1 n0.1 (w.header ∙ sym same) l.2
