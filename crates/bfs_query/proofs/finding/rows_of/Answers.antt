use Rattle.std.proofs.Common.{◌≡◌, ◌∙◌, ◌+◌, ◌++◌, ◌∷◌, [], List, rules, sym, ap, subst, drop, append_assoc, append-nil, map as each}
use Rattle.std.proofs.lemmas.List.{drop_more, drop_all}
use Rattle.bfs_tree.specs.declared.rows.FoundRow.{FoundRow}
use Rattle.bfs_index.specs.declared.found.Pair.{Pair}
use Rattle.bfs_query.specs.Indices.{row_found}
use Rattle.bfs_query.specs.Resting.{AreSaid}
use Rattle.bfs_query.proofs.finding.rows_of.Goals as goal

pub returns-in-Err-clause-rows : goal.returns-in-Err-clause-rows
returns-in-Err-clause-rows g c v m w tree lists told sized ready are =
    let i = c.loop-pair.pair-index in
    let split : drop i c.args.pairs.now ≡ c.pair-item.result ∷ drop (i + 1) c.args.pairs.now =
    drop_more c.args.pairs.now i c.pair-item.result c.loop-pair-test.true ∙ ap (λ (x : Pair). x ∷ drop (i + 1) c.args.pairs.now) (sym c.pair-item.is) in
    let here = (subst (AreSaid w m tree) split (c.loop-pair.invariant.there w m tree are)).0 in
    c.in-Err.ensures.row v m w tree lists (c.loop-pair.invariant.told ∙ told) sized ready here.0 here.1

pub loop-pair-preserved : goal.loop-pair-preserved
loop-pair-preserved g c =
    let i = c.loop-pair.pair-index in
    let split : drop i c.args.pairs.now ≡ c.pair-item.result ∷ drop (i + 1) c.args.pairs.now =
    drop_more c.args.pairs.now i c.pair-item.result c.loop-pair-test.true ∙ ap (λ (x : Pair). x ∷ drop (i + 1) c.args.pairs.now) (sym c.pair-item.is) in
    record {
      told = c.push_row.ensures.told ∙ c.loop-pair.invariant.told;
      changed = c.push_row.ensures.changed ∙ c.loop-pair.invariant.changed;
      size = c.push_row.ensures.size ∙ c.loop-pair.invariant.size;
      frame = c.push_row.ensures.frame ∙ c.loop-pair.invariant.frame;
      later = search rules;
      there = λ w m tree are. (subst (AreSaid w m tree) split (c.loop-pair.invariant.there w m tree are)).1;
      rest = λ v m w tree lists told sized ready are.
          let here = (subst (AreSaid w m tree) split (c.loop-pair.invariant.there w m tree are)).0 in
          let row = c.in-Ok.ensures.row v m w tree lists (c.loop-pair.invariant.told ∙ told) sized ready here.0 here.1 in
          let tail : List FoundRow = each (row_found tree.nodes c.args.kind) (drop (i + 1) c.args.pairs.now) in
          ap (λ (l : List FoundRow). l ++ tail) row
          ∙ append_assoc c.loop-pair.rows.items (row_found tree.nodes c.args.kind c.pair-item.result ∷ []) tail
          ∙ sym (ap (λ (l : List Pair). c.loop-pair.rows.items ++ each (row_found tree.nodes c.args.kind) l) split)
          ∙ c.loop-pair.invariant.rest v m w tree lists told sized ready are;
    }

pub returns-clause-rows : goal.returns-clause-rows
returns-clause-rows g c v m w tree lists told sized ready are =
    sym (append-nil c.loop-pair.rows.items)
    ∙ sym (ap (λ (l : List Pair). c.loop-pair.rows.items ++ each (row_found tree.nodes c.args.kind) l) (drop_all c.loop-pair.pair-index c.args.pairs.now c.loop-pair-test.false))
    ∙ c.loop-pair.invariant.rest v m w tree lists told sized ready are
