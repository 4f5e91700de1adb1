use Rattle.std.proofs.Common.{rules, ◌≡◌, ◌++◌, ◌∷◌, [], ◌∙◌, ℤ, OnOk, IfOk, sym, ap, subst, w64, to_z, of_z}
use Rattle.bfs_values.specs.Links.{link_in}
use Rattle.bfs_values.specs.Values.{values_in}
use Rattle.bfs_walk.specs.Wrong.{IsWrongTree}
use Rattle.bfs_tree_check.specs.Marked.{marked}
use Rattle.bfs_value_walk.specs.Met.{AreMarked, IsNext}
use Rattle.bfs_value_walk.specs.Named.{named, parted}
use Rattle.bfs_value_walk.proofs.Faulty.{nothing_wrong}
use Rattle.bfs_value_walk.proofs.Meeting.{number_met}
use Rattle.bfs_value_walk.proofs.value.take_value.Goals as goal

pub returns-in-Fragment-clause-met : goal.returns-in-Fragment-clause-met
returns-in-Fragment-clause-met g c = λ kind b done key told met.
    let size = g.P.Pages.size c.args.pages.now in
    let signed : to_z w64 (of_z w64 c.args.value) ≡ c.args.value = search rules in
    subst (λ (z : ℤ). OnOk c.take_named_fragment.result (AreMarked kind b (done ++ (key, z) ∷ []) size c.take_named_fragment.new.marks c.take_named_fragment.new.names)) signed
    (c.take_named_fragment.ensures.met kind b done key told (sym c.link_of.ensures ∙ c.in-Fragment.is) met)

pub returns-in-Fragment-clause-numbers : goal.returns-in-Fragment-clause-numbers
returns-in-Fragment-clause-numbers g c = λ kind b done told met.
    let signed : to_z w64 (of_z w64 c.args.value) ≡ c.args.value = search rules in
    subst (λ (z : ℤ). IfOk c.take_named_fragment.result (λ n. n ≡ values_in b z)) signed (c.take_named_fragment.ensures.numbers b told (sym c.link_of.ensures ∙ c.in-Fragment.is))

pub returns-in-Fragment-clause-wrong : goal.returns-in-Fragment-clause-wrong
returns-in-Fragment-clause-wrong g c = λ kind b done rest key told next met.
    let signed : to_z w64 (of_z w64 c.args.value) ≡ c.args.value = search rules in
    c.take_named_fragment.ensures.wrong kind b done rest key told (sym c.link_of.ensures ∙ c.in-Fragment.is) (subst (λ (z : ℤ). IsNext kind b c.args.leaf done (key, z) rest) (sym signed) next) met

pub returns-in-Chain-clause-met : goal.returns-in-Chain-clause-met
returns-in-Chain-clause-met g c = λ kind b done key told met.
    let size = g.P.Pages.size c.args.pages.now in
    let signed : to_z w64 (of_z w64 c.args.value) ≡ c.args.value = search rules in
    subst (λ (z : ℤ). OnOk c.take_named_chain.result (AreMarked kind b (done ++ (key, z) ∷ []) size c.take_named_chain.new.marks c.args.names.now)) signed
    (c.take_named_chain.ensures.met kind b done c.args.names.now key told (sym c.link_of.ensures ∙ c.in-Chain.is) met)

pub returns-in-Chain-clause-numbers : goal.returns-in-Chain-clause-numbers
returns-in-Chain-clause-numbers g c = λ kind b done told met.
    let signed : to_z w64 (of_z w64 c.args.value) ≡ c.args.value = search rules in
    subst (λ (z : ℤ). IfOk c.take_named_chain.result (λ n. n ≡ values_in b z)) signed (c.take_named_chain.ensures.numbers kind b done c.args.names.now told (sym c.link_of.ensures ∙ c.in-Chain.is) met)

pub returns-in-Chain-clause-wrong : goal.returns-in-Chain-clause-wrong
returns-in-Chain-clause-wrong g c = λ kind b done rest key told next met.
    let signed : to_z w64 (of_z w64 c.args.value) ≡ c.args.value = search rules in
    c.take_named_chain.ensures.wrong kind b done rest c.args.names.now key told (sym c.link_of.ensures ∙ c.in-Chain.is) (subst (λ (z : ℤ). IsNext kind b c.args.leaf done (key, z) rest) (sym signed) next) met

pub returns-in-Nothing-clause-wrong : goal.returns-in-Nothing-clause-wrong
returns-in-Nothing-clause-wrong g c = λ kind b done rest key told next met.
    let signed : to_z w64 (of_z w64 c.args.value) ≡ c.args.value = search rules in
    subst (IsWrongTree kind b) (sym c.content_of.ensures)
    (nothing_wrong kind b c.args.leaf (key, c.args.value) next.there (ap link_in (sym signed) ∙ sym c.link_of.ensures ∙ c.in-Nothing.is))

pub returns-in-Ok-clause-met : goal.returns-in-Ok-clause-met
returns-in-Ok-clause-met g c = λ kind b done key told met.
    let size = g.P.Pages.size c.args.pages.now in
    let signed : to_z w64 (of_z w64 c.args.value) ≡ c.args.value = search rules in
    number_met kind b done (key, c.args.value) (marked size c.args.marks.now) (parted size c.args.names.now) (named size c.args.names.now) met c.in-Number.number (ap link_in (sym signed) ∙ sym c.link_of.ensures ∙ c.in-Number.is)
