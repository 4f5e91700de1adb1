use Rattle.std.proofs.Common.{rules, ◌≡◌, ◌∙◌, ap, sym, w64, to_z, of_z}
use Rattle.bfs_values.specs.Links.{link_in}
use Rattle.bfs_maps.proofs.Looked.{no_number, fragment_not, chain_not, nothing_not}
use Rattle.bfs_maps.proofs.over_pages.plain_number.Goals as goal

pub returns-in-Fragment-clause-none : goal.returns-in-Fragment-clause-none
returns-in-Fragment-clause-none c = λ e x.
    let signed : to_z w64 (of_z w64 c.args.value) ≡ c.args.value = search rules in
    no_number c.args.value _ (ap link_in (sym signed) ∙ sym c.link_of.ensures ∙ c.in-Fragment.is) (λ n bad. fragment_not _ _ n bad) x

pub returns-in-Chain-clause-none : goal.returns-in-Chain-clause-none
returns-in-Chain-clause-none c = λ e x.
    let signed : to_z w64 (of_z w64 c.args.value) ≡ c.args.value = search rules in
    no_number c.args.value _ (ap link_in (sym signed) ∙ sym c.link_of.ensures ∙ c.in-Chain.is) (λ n bad. chain_not _ n bad) x

pub returns-in-Nothing-clause-none : goal.returns-in-Nothing-clause-none
returns-in-Nothing-clause-none c = λ e x.
    let signed : to_z w64 (of_z w64 c.args.value) ≡ c.args.value = search rules in
    no_number c.args.value _ (ap link_in (sym signed) ∙ sym c.link_of.ensures ∙ c.in-Nothing.is) nothing_not x
