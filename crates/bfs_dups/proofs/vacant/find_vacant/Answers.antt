use Rattle.std.proofs.Common.{◌≡◌, ◌<◌, ℕ, List, Option, IfSome, length, ap, sym, ◌∙◌, subst, arith, rules, w64, to_z, of_z}
use Rattle.bfs_node.specs.Page.{rows_of, row_in, value_of}
use Rattle.bfs_node.specs.declared.fault.PageKind.TheVariants.{Leaf}
use Rattle.bfs_pages.specs.Answers.{IsChild}
use Rattle.bfs_pages.specs.Trees.{page_in}
use Rattle.bfs_pages.proofs.Faulted.{of-pages}
use Rattle.bfs_pages.proofs.Later.{later-twice}
use Rattle.bfs_pages.proofs.OfKind.{if_some, leaf-any}
use Rattle.bfs_pages.proofs.Reading.{not_true}
use Rattle.bfs_remove.proofs.Giving.{told-size}
use Rattle.bfs_values.proofs.Lasting.{none-cut}
use Rattle.bfs_values.specs.Links.{link_in}
use Rattle.bfs_values.specs.declared.link.Link.TheVariants.{Fragment}
use Rattle.bfs_values.specs.Named.{IsNamedIn}
use Rattle.bfs_dups.specs.declared.vacant.Slot.{Slot}
use Rattle.bfs_dups.proofs.Composed.{leaf-child}
use Rattle.bfs_dups.proofs.Crowding.{NamesFull, full-more, full-all}
use Rattle.bfs_dups.proofs.vacant.find_vacant.Goals as goal

pub returns-then-not-is_child-clause-spared : goal.returns-then-not-is_child-clause-spared
returns-then-not-is_child-clause-spared g c b reached t fs e tree i =
    let size : length b ≡ g.P.Pages.size c.args.pages.now = told-size (g.P.Pages.told c.args.pages.now) (g.P.Pages.size c.args.pages.now) b (g.met.P.Pages.sized c.args.pages.now) e in
    not_true c.is_child.result (c.is_child.ensures.1 (subst (λ (n : ℕ). IsChild n c.args.leaf) (size ∙ sym c.length.ensures) (leaf-child c.args.kind b reached t fs c.args.leaf tree i))) c.if-not-is_child.true

pub returns-in-Err-clause-spared : goal.returns-in-Err-clause-spared
returns-in-Err-clause-spared g c b reached t fs e tree i =
    of-pages c.args.kind (g.P.Pages.told c.read_leaf.new.pages) (g.P.Pages.is_cause c.args.pages.now c.read_leaf.new.pages) b c.args.leaf Leaf c.in-Err.fault c.in-Err.ensures.refused c.in-Err.ensures.at (c.in-Err.ensures.told ∙ e)
    (leaf-any c.args.kind b reached t fs c.args.leaf tree.holds i)

pub returns-in-Ok-Some-clause-named : goal.returns-in-Ok-Some-clause-named
returns-in-Ok-Some-clause-named g c = none-cut (λ b. IsNamedIn b c.args.leaf c.in-Ok-Some.slot.page) (g.P.Pages.told c.args.pages.now)
    (λ b e.
    let r : c.read_leaf.new.page ≡ page_in b c.args.leaf = if_some (λ (b : List ℕ). c.read_leaf.new.page ≡ page_in b c.args.leaf) (g.P.Pages.told c.args.pages.now) b c.in-Ok.ensures.read e in
    let signed : to_z w64 (of_z w64 c.row_value.result) ≡ c.row_value.result = search rules in
    let n = if_some (λ (s : Slot). (j : ℕ) × (link_in (to_z w64 (of_z w64 c.row_value.result)) ≡ Fragment s.page j)) c.in-Ok-Some.field-0 c.in-Ok-Some.slot c.in-Ok-Some.ensures.named c.in-Ok-Some.field-0-is in
    subst (λ (p : List ℕ). (i : ℕ) × (j : ℕ) × (i < length (rows_of p)) × (link_in (value_of (row_in (rows_of p) i)) ≡ Fragment c.in-Ok-Some.slot.page j)) r
    (c.loop-i.i, n.0, omega (arith, c.loop-i-test.true, c.row_count-i-end.ensures), ap link_in (sym (signed ∙ c.row_value.ensures)) ∙ n.1))

pub returns-clause-crowded : goal.returns-clause-crowded
returns-clause-crowded g c none =
    full-all (g.P.Pages.told c.args.pages.now) c.args.leaf c.loop-i.i c.read_leaf.new.page c.in-Ok.ensures.read (omega (arith, c.loop-i-test.false, c.row_count-i-end.ensures)) c.loop-i.invariant.crowded

pub loop-i-preserved : goal.loop-i-preserved
loop-i-preserved g c =
    let signed : to_z w64 (of_z w64 c.row_value.result) ≡ c.row_value.result = search rules in record {
      length = c.in-Ok-None.ensures.length;
      told = c.in-Ok-None.ensures.told ∙ c.loop-i.invariant.told;
      size = c.in-Ok-None.ensures.size ∙ c.loop-i.invariant.size;
      kept = record {
        counts = later-twice c.loop-i.invariant.kept.counts c.in-Ok-None.ensures.kept.counts;
        frame_is = c.in-Ok-None.ensures.kept.frame_is ∙ c.loop-i.invariant.kept.frame_is;
        goes_on = g.met.P.Pages.goes_on_twice c.args.pages.now c.loop-i.pages c.vacant_of.new.pages c.loop-i.invariant.kept.goes_on c.in-Ok-None.ensures.kept.goes_on;
      };
      crowded = full-more (g.P.Pages.told c.args.pages.now) c.args.leaf c.loop-i.i c.read_leaf.new.page (to_z w64 (of_z w64 c.row_value.result)) c.in-Ok.ensures.read (signed ∙ c.row_value.ensures) c.loop-i.invariant.crowded
          (subst (λ (o : Option (List ℕ)). IfSome o (λ b. NamesFull b (to_z w64 (of_z w64 c.row_value.result)))) c.loop-i.invariant.told (c.in-Ok-None.ensures.crowded c.in-Ok-None.field-0-is));
    }
