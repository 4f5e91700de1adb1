use Rattle.std.proofs.Common.{◌≡◌, ◌≤◌, ◌+◌, ℕ, suc, List, length, take, drop, ap, sym, ◌∙◌, subst, arith, rules}
use Rattle.bfs_node.specs.Page.{Row, rows_of, row_in, key_of, links_of, HasKeys, IsKeyLength}
use Rattle.bfs_insert.specs.Divided.{weight}
use Rattle.bfs_insert.proofs.Halving.{middle-inside, middle-before, roomy-rows, first-half, second-half, leaf-split, between, key-most, keys-bound}
use Rattle.bfs_insert.proofs.divide.halve_leaf.Goals as goal

pub row_key-requires-clause-place : goal.row_key-requires-clause-place
row_key-requires-clause-place c = middle-inside (rows_of c.args.below.now) c.middle_of-middle.result c.requires.full.1 c.middle_of-middle.ensures.before

pub divide_leaf-requires-clause-row : goal.divide_leaf-requires-clause-row
divide_leaf-requires-clause-row c = middle-inside (rows_of c.args.below.now) c.middle_of-middle.result c.requires.full.1 c.middle_of-middle.ensures.before

pub returns-clause-above : goal.returns-clause-above
returns-clause-above c =
    let inside = middle-inside (rows_of c.args.below.now) c.middle_of-middle.result c.requires.full.1 c.middle_of-middle.ensures.before in
    let long : IsKeyLength c.args.kind (length c.row_key.result.now) = subst (λ (k : List ℕ). IsKeyLength c.args.kind (length k)) (sym c.row_key.ensures) (c.requires.below.keys c.middle_of-middle.result inside) in
    record {
      layout = c.put_bound.ensures.page;
      keys = subst (λ (l : List Row). HasKeys c.args.kind l) (sym c.put_bound.ensures.rows)
          (keys-bound c.args.kind (rows_of c.args.above.now) (links_of c.args.above.now).overflow c.place_for-place.result c.row_key.result.now _ c.requires.above.keys long);
    }

pub returns-clause-below_roomy : goal.returns-clause-below_roomy
returns-clause-below_roomy c =
    let inside = middle-inside (rows_of c.args.below.now) c.middle_of-middle.result c.requires.full.1 c.middle_of-middle.ensures.before in
    let next : c.middle_of-middle.result + 1 ≡ suc c.middle_of-middle.result = omega arith in
    let w = first-half (rows_of c.args.below.now) c.middle_of-middle.result inside (key-most c.args.kind (length (key_of (row_in (rows_of c.args.below.now) c.middle_of-middle.result))) (c.requires.below.keys c.middle_of-middle.result inside)) c.middle_of-middle.ensures.before in
    roomy-rows c.divide_leaf.new.page (take (suc c.middle_of-middle.result) (rows_of c.args.below.now)) (c.divide_leaf.ensures.rows ∙ ap (λ (n : ℕ). take n (rows_of c.args.below.now)) next) (omega (arith, w))

pub returns-clause-half_roomy : goal.returns-clause-half_roomy
returns-clause-half_roomy c =
    let inside = middle-inside (rows_of c.args.below.now) c.middle_of-middle.result c.requires.full.1 c.middle_of-middle.ensures.before in
    let next : c.middle_of-middle.result + 1 ≡ suc c.middle_of-middle.result = omega arith in
    let w = second-half (rows_of c.args.below.now) c.middle_of-middle.result c.requires.full.0
    (subst (λ (n : ℕ). 400 ≤ weight (take n (rows_of c.args.below.now))) next (c.middle_of-middle.ensures.reached inside)) in
    roomy-rows c.divide_leaf.new.into (drop (suc c.middle_of-middle.result) (rows_of c.args.below.now)) (c.divide_leaf.ensures.moved ∙ ap (λ (n : ℕ). drop n (rows_of c.args.below.now)) next) w

pub returns-clause-split : goal.returns-clause-split
returns-clause-split c ua ub =
    let inside = middle-inside (rows_of c.args.below.now) c.middle_of-middle.result c.requires.full.1 c.middle_of-middle.ensures.before in
    let next : c.middle_of-middle.result + 1 ≡ suc c.middle_of-middle.result = omega arith in
    let w = first-half (rows_of c.args.below.now) c.middle_of-middle.result inside (key-most c.args.kind (length (key_of (row_in (rows_of c.args.below.now) c.middle_of-middle.result))) (c.requires.below.keys c.middle_of-middle.result inside)) c.middle_of-middle.ensures.before in
    let more = middle-before (rows_of c.args.below.now) c.middle_of-middle.result c.requires.full.1 w in (
      c.row_key.result.now,
      leaf-split (rows_of c.args.below.now) (rows_of c.divide_leaf.new.page) (rows_of c.divide_leaf.new.into) c.middle_of-middle.result c.row_key.result.now more c.row_key.ensures
          (c.divide_leaf.ensures.rows ∙ ap (λ (n : ℕ). take n (rows_of c.args.below.now)) next) (c.divide_leaf.ensures.moved ∙ ap (λ (n : ℕ). drop n (rows_of c.args.below.now)) next),
      between c.args.kind c.args.above.now c.put_bound.new.page (rows_of c.args.below.now) c.place_for-place.result c.place_for-first.result c.middle_of-middle.result c.args.places.1 c.args.key.now c.row_key.result.now
          (c.place_for-place.ensures.first ua) (c.place_for-first.ensures.first ub) ub inside c.row_key.ensures c.requires.some
          (c.put_bound.ensures.rows ∙ search rules) (c.put_bound.ensures.last ∙ search rules),
    )
