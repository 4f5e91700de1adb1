use Rattle.std.proofs.Common.{◌≡◌, ℕ, ℤ, List, length, ap, sym, ◌∙◌, subst, rules, w64, to_z, of_z}
use Rattle.bfs_pages.specs.Answers.{IsChild, IsLeafPage}
use Rattle.bfs_pages.specs.Trees.{page_in}
use Rattle.bfs_pages.proofs.OfKind.{if_some}
use Rattle.bfs_pages.proofs.Reading.{not_true}
use Rattle.bfs_values.specs.Kinds.{IsValueOf, IsNamed}
use Rattle.bfs_values.specs.Links.{link_in}
use Rattle.bfs_values.specs.Values.{EndsAfter}
use Rattle.bfs_values.specs.declared.link.Link.{Link}
use Rattle.bfs_values.proofs.Lasting.{none-cut}
use Rattle.bfs_values.proofs.numbers.numbers_of.Goals as goal

pub returns-in-Fragment-clause-refused : goal.returns-in-Fragment-clause-refused
returns-in-Fragment-clause-refused g c named =
    let signed : to_z w64 (of_z w64 c.args.value) ≡ c.args.value = search rules in
    c.in-Err-read_fragment.ensures.refused c.args.leaf c.args.value named (ap link_in (sym signed) ∙ sym c.link_of.ensures ∙ c.in-Fragment.is)

pub returns-then-not-is_child-2-clause-refused : goal.returns-then-not-is_child-2-clause-refused
returns-then-not-is_child-2-clause-refused g c named =
    let signed : to_z w64 (of_z w64 c.args.value) ≡ c.args.value = search rules in
    none-cut (λ bytes. IsLeafPage c.args.kind (length bytes) (page_in bytes c.args.leaf) × ((x : ℕ) × EndsAfter bytes x c.args.leaf) × ((value : ℤ) → IsValueOf c.args.kind bytes c.args.leaf value → IsNamed (length bytes) (link_in value)) → ⊥) (g.P.Pages.told c.args.pages.now)
    (λ b e w.
    let size : length b ≡ g.P.Pages.size c.args.pages.now = if_some (λ (b : List ℕ). length b ≡ g.P.Pages.size c.args.pages.now) (g.P.Pages.told c.args.pages.now) b (g.met.P.Pages.sized c.args.pages.now) e in
    let child : IsChild (length b) c.in-Chain.page = subst (λ (l : Link). IsNamed (length b) l) (ap link_in (sym signed) ∙ sym c.link_of.ensures ∙ c.in-Chain.is) (w.2 c.args.value (if_some (λ b. IsValueOf c.args.kind b c.args.leaf c.args.value) (g.P.Pages.told c.args.pages.now) b named e)) in
    not_true c.is_child-in-Chain.result (c.is_child-in-Chain.ensures.1 (subst (λ (n : ℕ). IsChild n c.in-Chain.page) (size ∙ sym c.length-in-Chain.ensures) child)) c.if-not-is_child-2.true)
