use Rattle.std.proofs.Common.{◌∙◌, sym, ap, subst, List, Some}
use Rattle.std.specs.FinMap.{get}
use Rattle.bfs_base.specs.declared.kind.KeyKind.{KeyKind}
use Rattle.bfs_node.specs.Search.{IsSought}
use Rattle.bfs_maps.specs.Mapped.{HasReadable}
use Rattle.bfs_tree.specs.Listings.{rows_between}
use Rattle.bfs_tree.specs.Steps.{Reads}
use Rattle.bfs_tree.specs.Trees.{Tree}
use Rattle.bfs_tree.specs.declared.call.Call.TheVariants as calls
use Rattle.bfs_tree.specs.declared.reply.Reply.TheVariants as replies
use Rattle.bfs_tree.specs.declared.rows.FoundRow.{FoundRow}
use Rattle.bfs_values.specs.Reached.{IsWholeTree}
use Rattle.bfs_stream_pages.specs.Held.{stream_of}
use Rattle.bfs_index.specs.Indices.{Place, pairs_at, found_between}
use Rattle.bfs_look.proofs.Replying.{find_found}
use Rattle.bfs_query.proofs.Indexed.{index_there}
use Rattle.bfs_query.proofs.Between.{low_kind, high_kind, sought, rows_are}
use Rattle.bfs_query.proofs.Resting.{pairs_said, nodes_said, tree_said}
use Rattle.bfs_query.proofs.finding.rows_between.Goals as goal

pub range-requires-clause-stream : goal.range-requires-clause-stream
range-requires-clause-stream g c m told = subst (λ (p : Place). HasReadable p.origin m) (sym c.at-index.ensures) (c.requires.index m told)

pub range-requires-clause-low : goal.range-requires-clause-low
range-requires-clause-low g c =
    subst (λ (p : Place). IsSought p.kind c.as_slice.result.now) (sym c.at-index.ensures)
    (sought c.args.low.now c.args.at.kind c.as_slice.result.now (low_kind c.args.low.now c.args.high.now c.args.at.kind c.requires.kinds) (c.as_slice.ensures ∙ c.in-Ok.ensures))

pub range-requires-clause-high : goal.range-requires-clause-high
range-requires-clause-high g c =
    subst (λ (p : Place). IsSought p.kind c.as_slice-2.result.now) (sym c.at-index.ensures)
    (sought c.args.high.now c.args.at.kind c.as_slice-2.result.now (high_kind c.args.low.now c.args.high.now c.args.at.kind c.requires.kinds) (c.as_slice-2.ensures ∙ c.in-Ok-bytes.ensures))

pub returns-in-Err-range-clause-reads : goal.returns-in-Err-range-clause-reads
returns-in-Err-range-clause-reads g c v m w tree lists st name told ready says same found =
    c.in-Err-range.ensures.found m told
    (subst (λ (p : Place). IsWholeTree p.kind (stream_of p.origin m)) (sym c.at-index.ensures) (tree_said c.args.sup.now v m w tree lists c.requires.valid ready name says.index c.args.at found))

pub returns-in-Ok-rows_of-clause-reads : goal.returns-in-Ok-rows_of-clause-reads
returns-in-Ok-rows_of-clause-reads g c v m w tree lists st name told ready says same found =
    let s = c.args.sup.now in
    let at = c.args.at in
    let whole = subst (λ (p : Place). IsWholeTree p.kind (stream_of p.origin m)) (sym c.at-index.ensures) (tree_said s v m w tree lists c.requires.valid ready name says.index at found) in
    let pairs = c.in-Ok-range.ensures.found m told whole ∙ ap (λ (p : Place). found_between p.kind c.as_slice.result.now c.as_slice-2.result.now (pairs_at p m)) c.at-index.ensures
    ∙ ap (found_between at.kind c.as_slice.result.now c.as_slice-2.result.now) (pairs_said s v m w tree lists c.requires.valid ready name says.index at found) in
    let shown = c.as_slice-3.ensures ∙ pairs in
    let nodes = nodes_said s v m w tree lists c.requires.valid ready name at found c.args.low.now c.args.high.now says c.requires.kinds c.as_slice.result.now c.as_slice-2.result.now c.as_slice-3.result.now
    (c.as_slice.ensures ∙ c.in-Ok.ensures) (c.as_slice-2.ensures ∙ c.in-Ok-bytes.ensures) shown in
    let rows = c.in-Ok-rows_of.ensures.rows v m w tree lists (c.in-Ok-range.ensures.told ∙ told) says.sized ready nodes in
    let are = rows_are s v w tree lists c.requires.valid ready name at found c.args.low.now c.args.high.now c.as_slice.result.now c.as_slice-2.result.now c.as_slice-3.result.now c.new.result
    (c.as_slice.ensures ∙ c.in-Ok.ensures) (c.as_slice-2.ensures ∙ c.in-Ok-bytes.ensures) shown (c.new.ensures ∙ rows) in
    let here = ap (λ (t : Tree). rows_between t name at.kind c.args.low.now c.args.high.now) (sym same) in
    subst (λ (l : List FoundRow). Reads (calls.IndexFind name c.args.low.now c.args.high.now) st (replies.Rows l)) (sym (are ∙ here))
    (find_found st name c.args.low.now c.args.high.now at.kind (ap (λ (t : Tree). get t.indices name) same ∙ index_there s v w tree lists c.requires.valid ready name at.inode found.0 ∙ ap (λ (k : KeyKind). Some k) (sym found.1)) c.requires.kinds)

pub returns-clause-reads : goal.returns-clause-reads
returns-clause-reads g c v m w tree lists st name told ready says same found =
    let s = c.args.sup.now in
    let at = c.args.at in
    let whole = subst (λ (p : Place). IsWholeTree p.kind (stream_of p.origin m)) (sym c.at-index.ensures) (tree_said s v m w tree lists c.requires.valid ready name says.index at found) in
    let pairs = c.in-Ok-range.ensures.found m told whole ∙ ap (λ (p : Place). found_between p.kind c.as_slice.result.now c.as_slice-2.result.now (pairs_at p m)) c.at-index.ensures
    ∙ ap (found_between at.kind c.as_slice.result.now c.as_slice-2.result.now) (pairs_said s v m w tree lists c.requires.valid ready name says.index at found) in
    c.in-Err-rows_of.ensures.rows v m w tree lists (c.in-Ok-range.ensures.told ∙ told) says.sized ready
    (nodes_said s v m w tree lists c.requires.valid ready name at found c.args.low.now c.args.high.now says c.requires.kinds c.as_slice.result.now c.as_slice-2.result.now c.as_slice-3.result.now
    (c.as_slice.ensures ∙ c.in-Ok.ensures) (c.as_slice-2.ensures ∙ c.in-Ok-bytes.ensures) (c.as_slice-3.ensures ∙ pairs))
