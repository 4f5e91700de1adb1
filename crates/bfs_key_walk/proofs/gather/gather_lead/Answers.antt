use Rattle.std.proofs.Common.{rules, ◌≡◌, ◌∙◌, ◌++◌, ℕ, false, sym, ap, subst, w64, to_z, of_z}
use Rattle.bfs_super.specs.Conditions.{natural}
use Rattle.std.specs.Prelude.{◌==◌}
use Rattle.bfs_stream.specs.Told.{contents}
use Rattle.bfs_sound.specs.Whole.{volume_of}
use Rattle.bfs_tree.specs.Listings.{key_in}
use Rattle.bfs_index_check.specs.Compared.{pairs_of}
use Rattle.bfs_key_walk.specs.Gathered.{IsKnown, pair_with}
use Rattle.bfs_key_walk.proofs.Gathers.{other_number}
use Rattle.bfs_key_walk.proofs.gather.gather_lead.Goals as goal

pub gather_node-requires-clause-known : goal.gather_node-requires-clause-known
gather_node-requires-clause-known g c m told =
    let signed : to_z w64 (of_z w64 c.args.lead.now.row.value) ≡ c.args.lead.now.row.value = search rules in
    let k = c.requires.known m told in
    let f = k.2 in
    let same : k.1.0 ≡ c.number_of-id.result = sym f.id ∙ sym (c.number_of-id.ensures ∙ ap natural signed) in
    (k.1.1, subst (λ (i : ℕ). IsKnown (volume_of c.args.sup.now (contents m)) i k.1.1) same f.known)

pub returns-in-Ok-clause-gathered : goal.returns-in-Ok-clause-gathered
returns-in-Ok-clause-gathered g c m root e told f keys =
    let signed : to_z w64 (of_z w64 c.args.lead.now.row.value) ≡ c.args.lead.now.row.value = search rules in
    let same : c.number_of-id.result ≡ e.0 = c.number_of-id.ensures ∙ ap natural signed ∙ f.id in
    let known = subst (λ (i : ℕ). IsKnown (volume_of c.args.sup.now (contents m)) i e.1) (sym same) f.known in
    let other : false ≡ (c.number_of-id.result == root) = other_number c.number_of-id.result root (λ h. f.other (sym same ∙ h)) in
    c.in-Ok.ensures.gathered m root e.1 told known (sym f.name ∙ sym c.as_slice-name.ensures) other keys
    ∙ ap (λ (i : ℕ). pairs_of c.args.pairs.now.items ++ pair_with (key_in root c.args.index.now c.args.kind i e.1) i) same

pub returns-in-Err-clause-unread : goal.returns-in-Err-clause-unread
returns-in-Err-clause-unread g c m root e told f =
    let signed : to_z w64 (of_z w64 c.args.lead.now.row.value) ≡ c.args.lead.now.row.value = search rules in
    let same : c.number_of-id.result ≡ e.0 = c.number_of-id.ensures ∙ ap natural signed ∙ f.id in
    c.in-Err.ensures.unread m e.1 told (subst (λ (i : ℕ). IsKnown (volume_of c.args.sup.now (contents m)) i e.1) (sym same) f.known)
