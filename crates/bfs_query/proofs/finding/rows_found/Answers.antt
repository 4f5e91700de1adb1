use Rattle.std.proofs.Common.{◌∙◌, sym, ap, subst, Some}
use Rattle.std.specs.FinMap.{get}
use Rattle.bfs_base.specs.declared.kind.KeyKind.{KeyKind}
use Rattle.bfs_tree.specs.Trees.{Tree}
use Rattle.bfs_look.proofs.Replying.{find_none, find_other}
use Rattle.bfs_query.specs.Indices.{IsIndexFound}
use Rattle.bfs_query.proofs.Indexed.{no_index, index_there}
use Rattle.bfs_query.proofs.Resting.{index_read, names_read}
use Rattle.bfs_query.proofs.finding.rows_found.Goals as goal

pub index_named-requires-clause-directory : goal.index_named-requires-clause-directory
index_named-requires-clause-directory g c m told =
    let h = c.requires.found m told in
    names_read c.args.sup.now h.room m h.whole h.tree h.lists c.requires.valid h.ready c.args.name.now h.says.index

pub returns-in-Err-clause-rests : goal.returns-in-Err-clause-rests
returns-in-Err-clause-rests g c v m w tree lists st told ready says same = c.in-Err.ensures.found v m w tree lists told ready says.index

pub returns-in_default-clause-rests : goal.returns-in_default-clause-rests
returns-in_default-clause-rests g c v m w tree lists st told ready says same =
    let none = subst (IsIndexFound lists c.args.name.now) c.in_default.is (c.in-Ok.ensures.found v m w tree lists told ready says.index) in
    find_none st c.args.name.now c.args.low.now c.args.high.now (ap (λ (t : Tree). get t.indices c.args.name.now) same ∙ no_index c.args.sup.now v w tree lists c.requires.valid ready c.args.name.now none)

pub returns-then-not-same-clause-rests : goal.returns-then-not-same-clause-rests
returns-then-not-same-clause-rests g c v m w tree lists st told ready says same =
    let s = c.args.sup.now in
    let name = c.args.name.now in
    let found = subst (IsIndexFound lists name) c.in-Some.is (c.in-Ok.ensures.found v m w tree lists told ready says.index) in
    find_other st name c.args.low.now c.args.high.now c.in-Some.at.kind
    (ap (λ (t : Tree). get t.indices name) same ∙ index_there s v w tree lists c.requires.valid ready name c.in-Some.at.inode found.0 ∙ ap (λ (k : KeyKind). Some k) (sym found.1))
    (sym c.are_of_kind-same.ensures ∙ c.if-not-same.true)

pub rows_between-requires-clause-index : goal.rows_between-requires-clause-index
rows_between-requires-clause-index g c m told =
    let before = sym c.in-Ok.ensures.told ∙ told in
    let h = c.requires.found m before in
    let found = subst (IsIndexFound h.lists c.args.name.now) c.in-Some.is (c.in-Ok.ensures.found h.room m h.whole h.tree h.lists before h.ready h.says.index) in
    index_read c.args.sup.now h.room m h.whole h.tree h.lists c.requires.valid h.ready c.args.name.now h.says.index c.in-Some.at.inode found.0

pub returns-in-Ok-rows_between-clause-rests : goal.returns-in-Ok-rows_between-clause-rests
returns-in-Ok-rows_between-clause-rests g c v m w tree lists st told ready says same =
    let found = subst (IsIndexFound lists c.args.name.now) c.in-Some.is (c.in-Ok.ensures.found v m w tree lists told ready says.index) in
    c.in-Ok-rows_between.ensures.reads v m w tree lists st c.args.name.now (c.in-Ok.ensures.told ∙ told) ready says same found

pub returns-in-Err-rows_between-clause-rests : goal.returns-in-Err-rows_between-clause-rests
returns-in-Err-rows_between-clause-rests g c v m w tree lists st told ready says same =
    let found = subst (IsIndexFound lists c.args.name.now) c.in-Some.is (c.in-Ok.ensures.found v m w tree lists told ready says.index) in
    c.in-Err-rows_between.ensures.reads v m w tree lists st c.args.name.now (c.in-Ok.ensures.told ∙ told) ready says same found
