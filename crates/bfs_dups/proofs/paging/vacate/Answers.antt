use Rattle.std.proofs.Common.{◌≡◌, ◌+◌, ◌*◌, ℕ, List, inr, refl, ap, sym, ◌∙◌, subst, arith}
use Rattle.bfs_node.specs.declared.header.Header.{Header}
use Rattle.bfs_node.specs.declared.fault.PageKind.TheVariants.{Header as HeaderKind}
use Rattle.bfs_pages.specs.Trees.{header_in}
use Rattle.bfs_pages.proofs.Faulted.{of-pages, tree-header}
use Rattle.bfs_pages.proofs.OfKind.{if_some}
use Rattle.bfs_remove.specs.Removed.{IsGiven}
use Rattle.bfs_values.specs.Values.{fragment_count}
use Rattle.bfs_dups.proofs.Composed.{same-wider}
use Rattle.bfs_dups.proofs.Pages.{other-count}
use Rattle.bfs_dups.proofs.paging.vacate.Goals as goal

pub returns-in-Err-clause-spared : goal.returns-in-Err-clause-spared
returns-in-Err-clause-spared g c b reached t fs e tree =
    of-pages c.args.kind (g.P.Pages.told c.read_header.new.pages) (g.P.Pages.is_cause c.args.pages.now c.read_header.new.pages) b 0 HeaderKind c.in-Err.fault c.in-Err.ensures.refused c.in-Err.ensures.at (c.in-Err.ensures.told ∙ e) (refl, tree-header c.args.kind b reached t fs tree)

pub returns-in-Ok-give_back-clause-vacated : goal.returns-in-Ok-give_back-clause-vacated
returns-in-Ok-give_back-clause-vacated g c b e p =
    let made = c.in-Ok-give_back.ensures.made b (c.in-Ok.ensures.told ∙ e) in
    let header : c.in-Ok.header ≡ header_in b = if_some (λ (b : List ℕ). c.in-Ok.header ≡ header_in b) (g.P.Pages.told c.args.pages.now) b c.in-Ok.ensures.header e in (
      made.0,
      made.1,
      inr (record {
        free = λ j s n.
            sym (other-count c.args.page.now c.put_number.new.page c.args.index j (same-wider c.args.page.now c.put_number.new.page (64 * c.args.index) (64 * c.args.index + 8) (64 * c.args.index + 64) (omega arith) c.put_number.ensures.others) n ∙ ap (λ (z : List ℕ). fragment_count z j) p)
            ∙ c.is_unused.ensures.free c.if-is_unused.true j s;
        given = subst (λ (h : Header). IsGiven b made.0 c.args.at h) header made.2;
      }),
    )
