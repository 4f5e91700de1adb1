use Rattle.std.proofs.Common.{◌≡◌, ◌∙◌, true, false, sym, ap, subst}
use Rattle.std.specs.FinMap.{get, len}
use Rattle.bfs_tree.specs.Trees.{Tree}
use Rattle.bfs_remove_index.specs.Indices.{IsIndexFound}
use Rattle.bfs_remove_index.proofs.Indexed as indexed
use Rattle.bfs_index_make.proofs.Refusing.{no_index, there_is, float_kind, bad_name, by_count, is_none, not_none, too_many, few}
use Rattle.bfs_index_make.proofs.refusal.index_make_refusal.Goals as goal

pub index_count-requires-clause-ready : goal.index_count-requires-clause-ready
index_count-requires-clause-ready g c m told = (c.args.bitmap.now, c.requires.ready m told)

pub returns-in-Err-clause-refused : goal.returns-in-Err-clause-refused
returns-in-Err-clause-refused g c m tree lists s told ready same = c.in-Err.ensures.counted c.args.bitmap.now m tree lists told ready

pub returns-then-count-eq0-clause-refused : goal.returns-then-count-eq0-clause-refused
returns-then-count-eq0-clause-refused g c m tree lists s told ready same =
    let count : c.in-Ok.count ≡ len tree.indices = c.in-Ok.ensures.counted c.args.bitmap.now m tree lists told ready in
    sym (no_index s c.args.name.now c.args.kind (is_none s.tree tree c.in-Ok.count same count c.if-count-eq0.true))

pub index_at-requires-clause-ready : goal.index_at-requires-clause-ready
index_at-requires-clause-ready g c m told = c.requires.ready m (sym c.index_count.ensures.told ∙ told)

pub returns-in-Err-index_at-clause-refused : goal.returns-in-Err-index_at-clause-refused
returns-in-Err-index_at-clause-refused g c m tree lists s told ready same = c.in-Err-index_at.ensures.found m tree lists (c.index_count.ensures.told ∙ told) ready

pub returns-in-Some-clause-refused : goal.returns-in-Some-clause-refused
returns-in-Some-clause-refused g c m tree lists s told ready same =
    let v = c.args.bitmap.now in
    let name = c.args.name.now in
    let count : c.in-Ok.count ≡ len tree.indices = c.in-Ok.ensures.counted v m tree lists told ready in
    let found = subst (IsIndexFound lists name) c.in-Some.is (c.in-Ok-index_at.ensures.found m tree lists (c.index_count.ensures.told ∙ told) ready) in
    let there = indexed.index_there c.args.sup.now v m tree lists c.requires.valid ready name c.in-Some.field-0.inode found.0 in
    sym (there_is s name c.args.kind (not_none s.tree tree c.in-Ok.count same count c.if-count-eq0.false) (lists.kinds name) (ap (λ (t : Tree). get t.indices name) same ∙ there))

pub returns-then-is_float-clause-refused : goal.returns-then-is_float-clause-refused
returns-then-is_float-clause-refused g c m tree lists s told ready same =
    let v = c.args.bitmap.now in
    let name = c.args.name.now in
    let count : c.in-Ok.count ≡ len tree.indices = c.in-Ok.ensures.counted v m tree lists told ready in
    let found = subst (IsIndexFound lists name) c.in-None.is (c.in-Ok-index_at.ensures.found m tree lists (c.index_count.ensures.told ∙ told) ready) in
    let absent = ap (λ (t : Tree). get t.indices name) same ∙ indexed.no_index c.args.sup.now v m tree lists c.requires.valid ready name found in
    sym (float_kind s name c.args.kind (not_none s.tree tree c.in-Ok.count same count c.if-count-eq0.false) absent (sym c.is_float.ensures ∙ c.if-is_float.true))

pub returns-then-is_bad_name-clause-refused : goal.returns-then-is_bad_name-clause-refused
returns-then-is_bad_name-clause-refused g c m tree lists s told ready same =
    let v = c.args.bitmap.now in
    let name = c.args.name.now in
    let count : c.in-Ok.count ≡ len tree.indices = c.in-Ok.ensures.counted v m tree lists told ready in
    let found = subst (IsIndexFound lists name) c.in-None.is (c.in-Ok-index_at.ensures.found m tree lists (c.index_count.ensures.told ∙ told) ready) in
    let absent = ap (λ (t : Tree). get t.indices name) same ∙ indexed.no_index c.args.sup.now v m tree lists c.requires.valid ready name found in
    sym (bad_name s name c.args.kind (not_none s.tree tree c.in-Ok.count same count c.if-count-eq0.false) absent (sym c.is_float.ensures ∙ c.if-is_float.false) (sym c.is_bad_name.ensures ∙ c.if-is_bad_name.true))

pub returns-then-count-ge-MOST-clause-refused : goal.returns-then-count-ge-MOST-clause-refused
returns-then-count-ge-MOST-clause-refused g c m tree lists s told ready same =
    let v = c.args.bitmap.now in
    let name = c.args.name.now in
    let count : c.in-Ok.count ≡ len tree.indices = c.in-Ok.ensures.counted v m tree lists told ready in
    let found = subst (IsIndexFound lists name) c.in-None.is (c.in-Ok-index_at.ensures.found m tree lists (c.index_count.ensures.told ∙ told) ready) in
    let absent = ap (λ (t : Tree). get t.indices name) same ∙ indexed.no_index c.args.sup.now v m tree lists c.requires.valid ready name found in
    sym (by_count s name c.args.kind (not_none s.tree tree c.in-Ok.count same count c.if-count-eq0.false) absent (sym c.is_float.ensures ∙ c.if-is_float.false) (sym c.is_bad_name.ensures ∙ c.if-is_bad_name.false)
    true (too_many s.tree tree c.in-Ok.count same count c.if-count-ge-MOST.true))

pub returns-clause-refused : goal.returns-clause-refused
returns-clause-refused g c m tree lists s told ready same =
    let v = c.args.bitmap.now in
    let name = c.args.name.now in
    let count : c.in-Ok.count ≡ len tree.indices = c.in-Ok.ensures.counted v m tree lists told ready in
    let found = subst (IsIndexFound lists name) c.in-None.is (c.in-Ok-index_at.ensures.found m tree lists (c.index_count.ensures.told ∙ told) ready) in
    let absent = ap (λ (t : Tree). get t.indices name) same ∙ indexed.no_index c.args.sup.now v m tree lists c.requires.valid ready name found in
    sym (by_count s name c.args.kind (not_none s.tree tree c.in-Ok.count same count c.if-count-eq0.false) absent (sym c.is_float.ensures ∙ c.if-is_float.false) (sym c.is_bad_name.ensures ∙ c.if-is_bad_name.false)
    false (few s.tree tree c.in-Ok.count same count c.if-count-ge-MOST.false))
