use Rattle.std.proofs.Common.{rules, ◌≡◌, ◌≤◌, ◌+◌, ◌∷◌, ◌∙◌, ℕ, List, Bool, cond, drop, sym, ap, subst, arith}
use Rattle.std.proofs.lemmas.List.{drop_more, drop_all}
use Rattle.std.proofs.lemmas.List.Sums.{sum_by-cons}
use Rattle.bfs_bitmap.specs.Runs.{Room}
use Rattle.bfs_super.specs.Geometry.{geometry_of}
use Rattle.bfs_tree.specs.declared.rows.IndexRow.{IndexRow}
use Rattle.bfs_look.specs.Ready.{IsReady, HasReady}
use Rattle.bfs_remove_node.specs.Counted.{is_listed, listed_among}
use Rattle.bfs_remove_node.proofs.Indexed.{and_none, in_turn}
use Rattle.bfs_remove_node.proofs.listed.listed_among.Goals as goal
use Rattle.bfs_remove_node.proofs.listed.listed_among.Goals.{then-listed+else-count-ge-MOST, else-listed}

pub is_listed-requires-clause-ready : goal.is_listed-requires-clause-ready
is_listed-requires-clause-ready g c m told =
    subst (λ (r : Room). HasReady (geometry_of c.args.sup.now) r m) (sym c.loop-row.invariant.bitmap) (c.requires.ready m (sym c.loop-row.invariant.told ∙ told))

pub returns-in-Err-clause-counted : goal.returns-in-Err-clause-counted
returns-in-Err-clause-counted g c m tree lists n told ready is =
    c.in-Err.ensures.found m tree lists n (c.loop-row.invariant.told ∙ told) (subst (λ (r : Room). IsReady (geometry_of c.args.sup.now) r m tree lists) (sym c.loop-row.invariant.bitmap) ready) is

pub loop-row-preserved : goal.loop-row-preserved
loop-row-preserved g c =
    let i = c.loop-row.row-index in
    let rows = c.args.rows.now in
    let inv = c.loop-row.invariant in
    let count = c.loop-row.count in
    let split : drop i rows ≡ c.row-item.result ∷ drop (i + 1) rows = drop_more rows i c.row-item.result c.loop-row-test.true ∙ ap (λ (x : IndexRow). x ∷ drop (i + 1) rows) (sym c.row-item.is) in
    let next : c.if-listed.count ≡ count + cond c.in-Ok.listed 1 0 = elim c.if-listed.branch [
      | then-listed+else-count-ge-MOST w ↦ w.count-is ∙ sym (ap (λ (b : Bool). c.loop-row.count + cond b 1 0) w.if-listed.true)
      | else-listed w ↦ w.count-is ∙ and_none c.loop-row.count ∙ sym (ap (λ (b : Bool). c.loop-row.count + cond b 1 0) w.if-listed.false)
    ] in
    let few : c.if-listed.count ≤ 4294967296 = elim c.if-listed.branch [
      | then-listed+else-count-ge-MOST w ↦ let one = w.count-is in let low = w.if-count-ge-MOST.false in omega (arith, one, low)
      | else-listed w ↦ let one = w.count-is in let low = c.loop-row.invariant.few in omega (arith, one, low)
    ] in
    record {
      bitmap = c.in-Ok.ensures.bitmap ∙ inv.bitmap;
      told = c.in-Ok.ensures.told ∙ inv.told;
      changed = c.in-Ok.ensures.changed ∙ inv.changed;
      size = c.in-Ok.ensures.size ∙ inv.size;
      frame = c.in-Ok.ensures.frame ∙ inv.frame;
      later = search rules;
      few = few;
      rest = λ m tree lists n told ready is.
          let row = c.in-Ok.ensures.found m tree lists n (inv.told ∙ told) (subst (λ (r : Room). IsReady (geometry_of c.args.sup.now) r m tree lists) (sym inv.bitmap) ready) is in
          let left = listed_among tree c.args.id (drop (i + 1) rows) in
          ap (λ (k : ℕ). k + left) (next ∙ ap (λ (b : Bool). count + cond b 1 0) row)
          ∙ in_turn count (cond (is_listed tree c.args.id c.row-item.result) 1 0) left
          ∙ ap (λ (k : ℕ). count + k)
          (sym (ap (listed_among tree c.args.id) split ∙ sum_by-cons (λ (x : IndexRow). cond (is_listed tree c.args.id x) 1 0) c.row-item.result (drop (i + 1) rows)))
          ∙ inv.rest m tree lists n told ready is;
    }

pub returns-clause-counted : goal.returns-clause-counted
returns-clause-counted g c m tree lists n told ready is =
    and_none c.loop-row.count
    ∙ ap (λ (l : List IndexRow). c.loop-row.count + listed_among tree c.args.id l) (sym (drop_all c.loop-row.row-index c.args.rows.now c.loop-row-test.false))
    ∙ c.loop-row.invariant.rest m tree lists n told ready is
