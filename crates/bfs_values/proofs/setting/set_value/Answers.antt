use Rattle.std.proofs.Common.{◌≡◌, ◌%◌, ◌∙◌, ℕ, ℤ, List, Some, None, length, ap, sym, subst, rules, w64, to_z, of_z}
use Rattle.std.specs.Prelude.{slice_set}
use Rattle.bfs_node.specs.Page.{rows_of, row_in, key_of}
use Rattle.bfs_node.specs.declared.fault.PageKind.TheVariants.{Leaf}
use Rattle.bfs_pages.specs.Maps.{assoc}
use Rattle.bfs_pages.specs.Trees.{page_in}
use Rattle.bfs_pages.specs.Ways.{KeysAscend}
use Rattle.bfs_pages.proofs.Faulted.{of-pages}
use Rattle.bfs_pages.proofs.OfKind.{if_some, leaf-any}
use Rattle.bfs_pages.proofs.Sorted.{by-index, assoc-missed}
use Rattle.bfs_values.specs.Sets.{IsValued}
use Rattle.bfs_values.proofs.Lasting.{none-cut}
use Rattle.bfs_values.proofs.Valued.{leaf-rows, whole-now}
use Rattle.bfs_values.proofs.ValuedPage.{row-valued, failed-valued}
use Rattle.bfs_values.proofs.setting.set_value.Given.{Over}
use Rattle.bfs_values.proofs.setting.set_value.Goals as goal

pub returns-in-Err-clause-whole : goal.returns-in-Err-clause-whole
returns-in-Err-clause-whole g c b t front back k old e s rows same i has =
    of-pages c.args.kind (g.P.Pages.told c.read_leaf.new.pages) (g.P.Pages.is_cause c.args.pages.now c.read_leaf.new.pages) b c.args.leaf Leaf c.in-Err.fault
    c.in-Err.ensures.refused c.in-Err.ensures.at (c.in-Err.ensures.told ∙ e) (leaf-any c.args.kind b s.reached t s.free c.args.leaf s.tree.holds i)

pub returns-in-Err-search-clause-refused : goal.returns-in-Err-search-clause-refused
returns-in-Err-search-clause-refused g c = (
  c.in-Ok.ensures.told,
  none-cut (λ bytes. KeysAscend c.args.kind (rows_of (page_in bytes c.args.leaf)) → assoc c.args.kind (rows_of (page_in bytes c.args.leaf)) c.args.key.now ≡ None) (g.P.Pages.told c.args.pages.now)
      (λ b e up.
      let r : c.read_leaf.new.page ≡ page_in b c.args.leaf = if_some (λ b. c.read_leaf.new.page ≡ page_in b c.args.leaf) (g.P.Pages.told c.args.pages.now) b c.in-Ok.ensures.read e in
      let mine : KeysAscend c.args.kind (rows_of c.read_leaf.new.page) = subst (λ (z : List ℕ). KeysAscend c.args.kind (rows_of z)) (sym r) up in
      ap (λ (z : List ℕ). assoc c.args.kind (rows_of z) c.args.key.now) (sym r)
      ∙ assoc-missed c.args.kind (rows_of c.read_leaf.new.page) c.args.key.now c.in-Err-search.field-0 (c.in-Err-search.ensures.place (by-index c.args.kind (rows_of c.read_leaf.new.page) mine))),
)

pub returns-in-Err-search-clause-whole : goal.returns-in-Err-search-clause-whole
returns-in-Err-search-clause-whole g c b t front back k old e s rows same i has =
    let r : c.read_leaf.new.page ≡ page_in b c.args.leaf = if_some (λ b. c.read_leaf.new.page ≡ page_in b c.args.leaf) (g.P.Pages.told c.args.pages.now) b c.in-Ok.ensures.read e in
    let up = (leaf-rows c.args.kind b s.reached t s.free c.args.leaf s.tree i).1 in
    let mine : KeysAscend c.args.kind (rows_of c.read_leaf.new.page) = subst (λ (z : List ℕ). KeysAscend c.args.kind (rows_of z)) (sym r) up in
    none_some old (sym (assoc-missed c.args.kind (rows_of c.read_leaf.new.page) c.args.key.now c.in-Err-search.field-0 (c.in-Err-search.ensures.place (by-index c.args.kind (rows_of c.read_leaf.new.page) mine)))
    ∙ ap (λ (z : List ℕ). assoc c.args.kind (rows_of z) c.args.key.now) r ∙ has)
  where
    none_some : (v : ℤ) → None ≡ Some v → ⊥
    none_some v e = cc

valued : (g : Over) (c : goal.In-Ok-write_page g) (b : List ℕ) → g.P.Pages.told c.args.pages.now ≡ Some b
    → (d : List ℕ) × (g.P.Pages.told c.write_page.new.pages ≡ Some d) × IsValued c.args.kind b d c.args.leaf c.args.key.now c.args.value
valued g c b e =
    let r : c.read_leaf.new.page ≡ page_in b c.args.leaf = if_some (λ b. c.read_leaf.new.page ≡ page_in b c.args.leaf) (g.P.Pages.told c.args.pages.now) b c.in-Ok.ensures.read e in
    let s = c.in-Ok-write_page.ensures.made b (c.in-Ok.ensures.told ∙ e) in
    let signed : to_z w64 (of_z w64 c.args.value) ≡ c.args.value = search rules in (
      s.0,
      s.1,
      row-valued c.args.kind b s.0 c.read_leaf.new.page c.set_row_value.new.page c.args.leaf c.in-Ok-search.i c.args.key.now c.args.value s.2 r c.in-Ok.ensures.page c.in-Ok.ensures.leaf.overflow c.set_row_value.ensures.page
          (c.set_row_value.ensures.rows ∙ ap (λ (z : ℤ). slice_set (rows_of c.read_leaf.new.page) c.in-Ok-search.i (key_of (row_in (rows_of c.read_leaf.new.page) c.in-Ok-search.i), z)) signed)
          c.set_row_value.ensures.links c.in-Ok-search.ensures.inside (λ up. (c.in-Ok-search.ensures.place (by-index c.args.kind (rows_of c.read_leaf.new.page) up)).1),
    )

pub returns-in-Ok-write_page-clause-set : goal.returns-in-Ok-write_page-clause-set
returns-in-Ok-write_page-clause-set g c b e = valued g c b e

pub returns-in-Ok-write_page-clause-whole : goal.returns-in-Ok-write_page-clause-whole
returns-in-Ok-write_page-clause-whole g c b t front back k old e s rows same i has =
    let d = valued g c b e in
    let size : length b ≡ g.P.Pages.size c.args.pages.now = if_some (λ (b : List ℕ). length b ≡ g.P.Pages.size c.args.pages.now) (g.P.Pages.told c.args.pages.now) b (g.met.P.Pages.sized c.args.pages.now) e in
    let whole : length b % 1024 ≡ 0 = ap (λ (n : ℕ). n % 1024) size ∙ g.met.P.Pages.whole c.args.pages.now in
    let w = whole-now c.args.kind b d.0 t front back c.args.key.now k old c.args.value c.args.leaf whole s rows same i has d.2 in
    (d.0, d.1, w.0, w.1, w.2)

pub returns-in-Err-write_page-clause-refused : goal.returns-in-Err-write_page-clause-refused
returns-in-Err-write_page-clause-refused g c = failed-valued (g.P.Pages.told c.args.pages.now) (g.P.Pages.told c.write_page.new.pages) (g.P.Pages.is_cause c.read_leaf.new.pages c.write_page.new.pages) (g.P.Pages.is_cause c.args.pages.now c.write_page.new.pages) c.args.kind c.args.leaf c.args.key.now c.in-Err-write_page.fault
    (λ f. g.met.P.Pages.is_cause_before c.args.pages.now c.read_leaf.new.pages c.write_page.new.pages f c.in-Ok.ensures.goes_on) c.in-Err-write_page.ensures.failed
