use Rattle.std.proofs.Common.{◌∙◌, true, false, sym, ap, subst}
use Rattle.std.specs.FinMap.{get}
use Rattle.bfs_query.specs.Indices.{IsIndexFound}
use Rattle.bfs_query.proofs.Indexed.{no_index, index_there}
use Rattle.bfs_remove_index.proofs.Refusing.{no_such_index, is_there_so}
use Rattle.bfs_remove_index.proofs.refusal.remove_index_refusal.Goals as goal

pub returns-in-Err-clause-refused : goal.returns-in-Err-clause-refused
returns-in-Err-clause-refused g c m tree lists s told ready same = c.in-Err.ensures.found m tree lists told ready

pub returns-in-None-clause-refused : goal.returns-in-None-clause-refused
returns-in-None-clause-refused g c m tree lists s told ready same =
    let name = c.args.name.now in
    let none = subst (IsIndexFound lists name) c.in-None.is (c.in-Ok.ensures.found m tree lists told ready) in
    sym (no_such_index s name (ap (λ t. get t.indices name) same ∙ no_index c.args.sup.now c.args.bitmap.now m tree lists c.requires.valid ready name none))

pub returns-then-is_built_in-clause-refused : goal.returns-then-is_built_in-clause-refused
returns-then-is_built_in-clause-refused g c m tree lists s told ready same =
    let name = c.args.name.now in
    let row = subst (IsIndexFound lists name) c.in-Some.is (c.in-Ok.ensures.found m tree lists told ready) in
    let there = index_there c.args.sup.now c.args.bitmap.now m tree lists c.requires.valid ready name c.in-Some.field-0.inode row.0 in
    sym (is_there_so s name (lists.kinds name) true (ap (λ t. get t.indices name) same ∙ there) (sym c.is_built_in.ensures ∙ c.if-is_built_in.true))

pub returns-clause-refused : goal.returns-clause-refused
returns-clause-refused g c m tree lists s told ready same =
    let name = c.args.name.now in
    let row = subst (IsIndexFound lists name) c.in-Some.is (c.in-Ok.ensures.found m tree lists told ready) in
    let there = index_there c.args.sup.now c.args.bitmap.now m tree lists c.requires.valid ready name c.in-Some.field-0.inode row.0 in
    sym (is_there_so s name (lists.kinds name) false (ap (λ t. get t.indices name) same ∙ there) (sym c.is_built_in.ensures ∙ c.if-is_built_in.false))
