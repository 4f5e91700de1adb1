use Rattle.std.proofs.Common.{◌≡◌, ℕ, ℤ, sym, ◌∙◌, subst}
use Rattle.bfs_pages.specs.Trees.{page_in}
use Rattle.bfs_pages.proofs.OfKind.{if_some}
use Rattle.bfs_values.specs.Kinds.{IsValueOf}
use Rattle.bfs_values.specs.Links.{link_in}
use Rattle.bfs_values.specs.Values.{IsFragment}
use Rattle.bfs_values.specs.declared.link.Link.TheVariants.{Fragment as FragmentLink}
use Rattle.bfs_values.proofs.Lasting.{none-cut, read-page}
use Rattle.bfs_values.proofs.numbers.read_fragment.Goals as goal

pub returns-in_default-clause-refused : goal.returns-in_default-clause-refused
returns-in_default-clause-refused g c leaf value named link =
    none-cut (λ bytes. ((leaf : ℕ) (value : ℤ) (i : ℕ) → IsValueOf c.args.kind bytes leaf value → link_in value ≡ FragmentLink c.args.at.0 i → IsFragment (page_in bytes c.args.at.0) i) → ⊥) (g.P.Pages.told c.get.new.self)
    (λ b e w.
    let told = sym c.in-Ok.ensures.told ∙ e in
    let r = read-page (g.P.Pages.told c.args.pages.now) (g.P.Pages.size c.args.pages.now) c.args.at.0 c.get.new.into (g.met.P.Pages.sized c.args.pages.now) c.in-Ok.ensures.page c.requires.at b told in
    c.in_default.ensures (subst (λ z. IsFragment z c.args.at.1) (sym r.1) (w leaf value c.args.at.1 (if_some (λ b. IsValueOf c.args.kind b leaf value) (g.P.Pages.told c.args.pages.now) b named told) link)))
