use Rattle.std.proofs.Common.{◌≡◌, ◌∙◌, ◌+◌, ◌++◌, ◌∷◌, [], List, rules, sym, ap, subst, drop, append_assoc, append-nil, map as each}
use Rattle.std.proofs.lemmas.List.{drop_more, drop_all}
use Rattle.bfs_tree.specs.declared.rows.IndexRow.{IndexRow}
use Rattle.std.specs.List.{AllByRecursion}
use Rattle.bfs_attr.specs.declared.directory.InodeRow.{InodeRow}
use Rattle.bfs_query.specs.Indices.{index_row, IsIndexRowOf}
use Rattle.bfs_query.proofs.listing.rows_of.Goals as goal

pub returns-in-Err-clause-rows : goal.returns-in-Err-clause-rows
returns-in-Err-clause-rows g c v m tree lists told ready are =
    let i = c.loop-row.row-index in
    let split : drop i c.args.named.now ≡ c.row-item.result ∷ drop (i + 1) c.args.named.now =
    drop_more c.args.named.now i c.row-item.result c.loop-row-test.true ∙ ap (λ (x : InodeRow). x ∷ drop (i + 1) c.args.named.now) (sym c.row-item.is) in
    c.in-Err.ensures.row v m tree lists (c.loop-row.invariant.told ∙ told) ready (subst (AllByRecursion (IsIndexRowOf lists)) split (c.loop-row.invariant.there lists are)).0

pub loop-row-preserved : goal.loop-row-preserved
loop-row-preserved g c =
    let i = c.loop-row.row-index in
    let split : drop i c.args.named.now ≡ c.row-item.result ∷ drop (i + 1) c.args.named.now =
    drop_more c.args.named.now i c.row-item.result c.loop-row-test.true ∙ ap (λ (x : InodeRow). x ∷ drop (i + 1) c.args.named.now) (sym c.row-item.is) in
    record {
      told = c.push_row.ensures.told ∙ c.loop-row.invariant.told;
      changed = c.push_row.ensures.changed ∙ c.loop-row.invariant.changed;
      pairs = c.push_row.ensures.pairs ∙ c.loop-row.invariant.pairs;
      size = c.push_row.ensures.size ∙ c.loop-row.invariant.size;
      frame = c.push_row.ensures.frame ∙ c.loop-row.invariant.frame;
      later = search rules;
      there = λ lists are. (subst (AllByRecursion (IsIndexRowOf lists)) split (c.loop-row.invariant.there lists are)).1;
      rest = λ v m tree lists told ready are.
          let row = c.in-Ok.ensures.row v m tree lists (c.loop-row.invariant.told ∙ told) ready (subst (AllByRecursion (IsIndexRowOf lists)) split (c.loop-row.invariant.there lists are)).0 in
          let tail : List IndexRow = each (index_row lists) (drop (i + 1) c.args.named.now) in
          ap (λ (l : List IndexRow). l ++ tail) row
          ∙ append_assoc c.loop-row.rows.items (index_row lists c.row-item.result ∷ []) tail
          ∙ sym (ap (λ (l : List InodeRow). c.loop-row.rows.items ++ each (index_row lists) l) split)
          ∙ c.loop-row.invariant.rest v m tree lists told ready are;
    }

pub returns-clause-rows : goal.returns-clause-rows
returns-clause-rows g c v m tree lists told ready are =
    sym (append-nil c.loop-row.rows.items)
    ∙ sym (ap (λ (l : List InodeRow). c.loop-row.rows.items ++ each (index_row lists) l) (drop_all c.loop-row.row-index c.args.named.now c.loop-row-test.false))
    ∙ c.loop-row.invariant.rest v m tree lists told ready are
