use Rattle.std.proofs.Common.{◌≡◌, ◌∙◌, sym, ap, subst, List, ℕ}
use Rattle.std.specs.FinMap.{entries}
use Rattle.std.specs.List.{flat_map}
use Rattle.bfs_range.specs.declared.ranged.RangedRow.{RangedRow}
use Rattle.bfs_stream.specs.Told.{contents}
use Rattle.bfs_tree.specs.Listings.{listed_among}
use Rattle.bfs_sound.specs.Whole.{volume_of}
use Rattle.bfs_tour.specs.Tours.{toured_tree}
use Rattle.bfs_value_walk.specs.Written.{pairs_by}
use Rattle.bfs_index_check.specs.Compared.{Pair, pairs_of, row_pairs, Ascends, IsTold}
use Rattle.bfs_index_check.proofs.Rests.{subst₃}
use Rattle.bfs_index_walk.specs.Indices.{kinds_of}
use Rattle.bfs_indices_check.proofs.Placing.{is_index}
use Rattle.bfs_indices_check.proofs.Listing.{wanted_is, lists, wanted_up, found_up, differs, has_tree, true_with}
use Rattle.bfs_indices_check.proofs.index.check_index.Goals as goal

pub wanted_pairs-requires-clause-known : goal.wanted_pairs-requires-clause-known
wanted_pairs-requires-clause-known g c m told =
    let k = c.requires.known m told in
    (k.1, k.2, k.3.nodes)

pub is_listed-requires-clause-there : goal.is_listed-requires-clause-there
is_listed-requires-clause-there g c m told =
    let k = c.requires.known m (sym c.in-Ok.ensures.told ∙ told) in
    is_index (volume_of c.args.sup.now (contents m)) c.args.root c.args.leads.now k.0 k.1 k.2 k.3 c.args.index.now k.4

pub rows_of-requires-clause-there : goal.rows_of-requires-clause-there
rows_of-requires-clause-there g c m told =
    let k = c.requires.known m (sym c.in-Ok.ensures.told ∙ sym c.in-Ok-is_listed.ensures.told ∙ told) in
    is_index (volume_of c.args.sup.now (contents m)) c.args.root c.args.leads.now k.0 k.1 k.2 k.3 c.args.index.now k.4

pub returns-in-Err-is_listed-clause-wrong : goal.returns-in-Err-is_listed-clause-wrong
returns-in-Err-is_listed-clause-wrong g c m indices top visits told w there keys built =
    let v = volume_of c.args.sup.now (contents m) in
    true_with v (toured_tree v top visits (kinds_of indices)) c.in-Err-is_listed.fault
    (c.in-Err-is_listed.ensures.wrong m (c.in-Ok.ensures.told ∙ told) (has_tree v c.args.root c.args.leads.now indices top visits w c.args.index.now there c.requires.inside.1)) c.in-Err-is_listed.ensures.untaken

pub returns-then-listed-clause-listed : goal.returns-then-listed-clause-listed
returns-then-listed-clause-listed g c m indices top visits told w there keys =
    let v = volume_of c.args.sup.now (contents m) in
    let i = c.args.index.now in
    let wanted : List Pair = pairs_of c.in-Ok.wanted.items in
    let named : wanted ≡ listed_among c.args.root i.name i.kind (entries (toured_tree v top visits (kinds_of indices)).nodes) =
    c.in-Ok.ensures.wanted m top visits told w.nodes keys
    ∙ ap (λ (n : List ℕ). listed_among c.args.root n i.kind (entries (toured_tree v top visits (kinds_of indices)).nodes)) c.as_slice-name.ensures in
    let one : pairs_of c.deref.result.now ≡ wanted = ap pairs_of c.deref.ensures.value in
    lists v c.args.root c.args.leads.now indices top visits w i there wanted (pairs_of c.deref.result.now) (c.in-Ok-is_listed.ensures.written m (c.in-Ok.ensures.told ∙ told) c.if-listed.true)
    (wanted_is v c.args.root c.args.leads.now indices top visits w i there wanted named) (sym one)

pub returns-in-Err-rows_of-clause-wrong : goal.returns-in-Err-rows_of-clause-wrong
returns-in-Err-rows_of-clause-wrong g c m indices top visits told w there keys built =
    let v = volume_of c.args.sup.now (contents m) in
    true_with v (toured_tree v top visits (kinds_of indices)) c.in-Err-rows_of.fault
    (c.in-Err-rows_of.ensures.wrong m (c.in-Ok-is_listed.ensures.told ∙ c.in-Ok.ensures.told ∙ told) (has_tree v c.args.root c.args.leads.now indices top visits w c.args.index.now there c.requires.inside.1)) c.in-Err-rows_of.ensures.untaken

pub returns-in-Ok-compare_pairs-clause-listed : goal.returns-in-Ok-compare_pairs-clause-listed
returns-in-Ok-compare_pairs-clause-listed g c m indices top visits told w there keys =
    let v = volume_of c.args.sup.now (contents m) in
    let i = c.args.index.now in
    let wanted : List Pair = pairs_of c.in-Ok.wanted.items in
    let named : wanted ≡ listed_among c.args.root i.name i.kind (entries (toured_tree v top visits (kinds_of indices)).nodes) =
    c.in-Ok.ensures.wanted m top visits told w.nodes keys
    ∙ ap (λ (n : List ℕ). listed_among c.args.root n i.kind (entries (toured_tree v top visits (kinds_of indices)).nodes)) c.as_slice-name.ensures in
    let same : wanted ≡ pairs_by c.in-Ok-rows_of.rows =
    ap pairs_of (sym c.deref-2.ensures.value) ∙ c.in-Ok-compare_pairs.ensures.same ∙ ap (λ (rs : List RangedRow). flat_map row_pairs rs) c.as_slice.ensures in
    lists v c.args.root c.args.leads.now indices top visits w i there wanted (pairs_by c.in-Ok-rows_of.rows) (c.in-Ok-rows_of.ensures.written m (c.in-Ok-is_listed.ensures.told ∙ c.in-Ok.ensures.told ∙ told)) (wanted_is v c.args.root c.args.leads.now indices top visits w i there wanted named) same

pub returns-clause-wrong : goal.returns-clause-wrong
returns-clause-wrong g c m indices top visits told w there keys built =
    let v = volume_of c.args.sup.now (contents m) in
    let i = c.args.index.now in
    let wanted : List Pair = pairs_of c.in-Ok.wanted.items in
    let rows : List Pair = pairs_by c.in-Ok-rows_of.rows in
    let named : wanted ≡ listed_among c.args.root i.name i.kind (entries (toured_tree v top visits (kinds_of indices)).nodes) =
    c.in-Ok.ensures.wanted m top visits told w.nodes keys
    ∙ ap (λ (n : List ℕ). listed_among c.args.root n i.kind (entries (toured_tree v top visits (kinds_of indices)).nodes)) c.as_slice-name.ensures in
    let is = wanted_is v c.args.root c.args.leads.now indices top visits w i there wanted named in
    let written = c.in-Ok-rows_of.ensures.written m (c.in-Ok-is_listed.ensures.told ∙ c.in-Ok.ensures.told ∙ told) in
    let one : pairs_of c.deref-2.result.now ≡ wanted = ap pairs_of c.deref-2.ensures.value in
    let two : flat_map row_pairs c.as_slice.result.now ≡ rows = ap (λ (rs : List RangedRow). flat_map row_pairs rs) c.as_slice.ensures in
    let raw : IsTold c.as_slice-name.result.now i.kind (pairs_of c.deref-2.result.now) (flat_map row_pairs c.as_slice.result.now) c.in-Err-compare_pairs.fault =
    c.in-Err-compare_pairs.ensures.wrong (subst (Ascends i.kind) (sym one) (wanted_up v c.args.root c.args.leads.now indices top visits w i there wanted is))
    (subst (Ascends i.kind) (sym two) (found_up v c.args.root c.args.leads.now indices top visits w i there rows written)) in
    let told_of = subst₃ (λ (n : List ℕ) (ws rs : List Pair). IsTold n i.kind ws rs c.in-Err-compare_pairs.fault) c.as_slice-name.ensures one two raw in
    differs v c.args.root c.args.leads.now indices top visits w i there wanted rows c.requires.inside.1 written is built c.told.result (c.told.ensures.told i.name i.kind wanted rows told_of)

pub returns-clause-cause : goal.returns-clause-cause
returns-clause-cause g c = c.told.ensures.cause (g.B.Blocks.counts c.args.under.now) (g.B.Blocks.counts c.rows_of.new.under)
