use Rattle.std.proofs.Common.{rules, ◌≤◌, ◌<◌, ◌++◌, ℕ, List, length, drop, map, get_or, refl, subst, arith}
use Rattle.std.proofs.lemmas.List.{take_all}
use Rattle.bfs_index_check.specs.Compared.{pairs_of, AreMet, IsNext}
use Rattle.bfs_index_check.proofs.Prefixes.{keyed, numbers_met, number_item}
use Rattle.bfs_indices_check.proofs.same.place_behind.Goals as goal

pub loop-i-preserved : goal.loop-i-preserved
loop-i-preserved c =
    let ns : List ℕ = c.args.numbers.now in
    let x : ℕ = get_or ns c.loop-i.i 0 in
    let inside : c.loop-i.i < length ns = search rules in
    let next : IsNext (drop c.loop-i.at (pairs_of c.args.wanted.now)) (c.args.key.now, x) = c.if-not-is_next.ensures.next refl in record {
      met = λ met are. numbers_met c.args.key.now ns c.loop-i.i x inside (number_item ns c.loop-i.i inside) (pairs_of c.args.wanted.now) c.loop-i.at met (c.loop-i.invariant.met met are) next;
    }

pub returns : goal.returns
returns c met are =
    let ns : List ℕ = c.args.numbers.now in
    let behind : length ns ≤ c.loop-i.i = let t = c.loop-i-test.false in omega (arith, t) in
    subst (λ (l : List ℕ). AreMet (pairs_of c.args.wanted.now) c.loop-i.at (met ++ map (keyed c.args.key.now) l)) (take_all c.loop-i.i ns behind) (c.loop-i.invariant.met met are)
