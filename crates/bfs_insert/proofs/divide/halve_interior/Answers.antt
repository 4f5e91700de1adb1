use Rattle.std.proofs.Common.{◌≡◌, ◌≤◌, ◌<◌, ◌+◌, ℕ, suc, List, length, take, drop, ap, sym, ◌∙◌, subst, arith, rules}
use Rattle.bfs_node.specs.Page.{Row, rows_of, links_of, HasKeys, IsKeyLength}
use Rattle.bfs_insert.specs.Divided.{weight}
use Rattle.bfs_node.specs.declared.links.Links.{Links}
use Rattle.bfs_insert.proofs.Halving.{middle-inside, roomy-rows, second-half, interior-split, between, keys-bound}
use Rattle.bfs_insert.proofs.divide.halve_interior.Goals as goal

pub row_key-requires-clause-place : goal.row_key-requires-clause-place
row_key-requires-clause-place c = middle-inside (rows_of c.args.below.now) c.middle_of-middle.result c.requires.full.1 c.middle_of-middle.ensures.before

pub divide_interior-requires-clause-row : goal.divide_interior-requires-clause-row
divide_interior-requires-clause-row c = middle-inside (rows_of c.args.below.now) c.middle_of-middle.result c.requires.full.1 c.middle_of-middle.ensures.before

pub returns-clause-above : goal.returns-clause-above
returns-clause-above c =
    let inside = middle-inside (rows_of c.args.below.now) c.middle_of-middle.result c.requires.full.1 c.middle_of-middle.ensures.before in
    let long : IsKeyLength c.args.kind (length c.row_key.result.now) = subst (λ (k : List ℕ). IsKeyLength c.args.kind (length k)) (sym c.row_key.ensures) (c.requires.below.keys c.middle_of-middle.result inside) in
    record {
      layout = c.put_bound.ensures.page;
      keys = subst (λ (l : List Row). HasKeys c.args.kind l) (sym c.put_bound.ensures.rows)
          (keys-bound c.args.kind (rows_of c.args.above.now) (links_of c.args.above.now).overflow c.place_for-place.result c.row_key.result.now _ c.requires.above.keys long);
    }

pub returns-clause-below_roomy : goal.returns-clause-below_roomy
returns-clause-below_roomy c =
    let w : weight (take c.middle_of-middle.result (rows_of c.args.below.now)) < 400 = c.middle_of-middle.ensures.before in
    roomy-rows c.divide_interior.new.page (take c.middle_of-middle.result (rows_of c.args.below.now)) c.divide_interior.ensures.rows (omega (arith, w))

pub returns-clause-half_roomy : goal.returns-clause-half_roomy
returns-clause-half_roomy c =
    let inside = middle-inside (rows_of c.args.below.now) c.middle_of-middle.result c.requires.full.1 c.middle_of-middle.ensures.before in
    let next : c.middle_of-middle.result + 1 ≡ suc c.middle_of-middle.result = omega arith in
    let w = second-half (rows_of c.args.below.now) c.middle_of-middle.result c.requires.full.0
    (subst (λ (n : ℕ). 400 ≤ weight (take n (rows_of c.args.below.now))) next (c.middle_of-middle.ensures.reached inside)) in
    roomy-rows c.divide_interior.new.into (drop (suc c.middle_of-middle.result) (rows_of c.args.below.now)) (c.divide_interior.ensures.moved ∙ ap (λ (n : ℕ). drop n (rows_of c.args.below.now)) next) w

pub returns-clause-split : goal.returns-clause-split
returns-clause-split c ua ub =
    let inside = middle-inside (rows_of c.args.below.now) c.middle_of-middle.result c.requires.full.1 c.middle_of-middle.ensures.before in
    let next : c.middle_of-middle.result + 1 ≡ suc c.middle_of-middle.result = omega arith in (
      c.row_key.result.now,
      interior-split (rows_of c.args.below.now) (rows_of c.divide_interior.new.page) (rows_of c.divide_interior.new.into) c.middle_of-middle.result c.row_key.result.now (links_of c.divide_interior.new.page).overflow inside c.row_key.ensures
          (ap (λ (l : Links). l.overflow) c.divide_interior.ensures.links) c.divide_interior.ensures.rows (c.divide_interior.ensures.moved ∙ ap (λ (n : ℕ). drop n (rows_of c.args.below.now)) next),
      between c.args.kind c.args.above.now c.put_bound.new.page (rows_of c.args.below.now) c.place_for-place.result c.place_for-first.result c.middle_of-middle.result c.args.right c.args.key.now c.row_key.result.now
          (c.place_for-place.ensures.first ua) (c.place_for-first.ensures.first ub) ub inside c.row_key.ensures c.requires.some
          (c.put_bound.ensures.rows ∙ search rules) (c.put_bound.ensures.last ∙ search rules),
    )
