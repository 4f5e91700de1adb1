use Rattle.std.proofs.Common.{rules, ◌≡◌, ◌<◌, ◌+◌, ◌++◌, ◌∷◌, ℕ, List, length, drop, take, get_or, map, sym, subst, subst₂}
use Rattle.bfs_index_check.specs.Compared.{Pair, pairs_of, Ascends, IsNext, IsTold}
use Rattle.bfs_index_check.proofs.Prefixes.{keyed, met_with_rest, numbers_met, row_from, number_item}
use Rattle.bfs_index_check.proofs.Rests.{rest_pairs, next_inside, subst₃}
use Rattle.bfs_index_check.proofs.compare.hold_row.Goals as goal

pub returns-in-Err-clause-wrong : goal.returns-in-Err-clause-wrong
returns-in-Err-clause-wrong c met more are up other =
    let ns : List ℕ = c.args.row.now.numbers in
    let x : ℕ = get_or ns c.loop-i.i 0 in
    let key : List ℕ = c.args.row.now.key in
    let wanted : List Pair = pairs_of c.args.wanted.now in
    let inside : c.loop-i.i < length ns = search rules in
    let front : List Pair = met ++ map (keyed key) (take c.loop-i.i ns) in
    let rest : List Pair = map (keyed key) (drop (c.loop-i.i + 1) ns) ++ more in
    let left = rest_pairs c.loop-i.at c.args.wanted.now in
    let all : front ++ drop c.loop-i.at wanted ≡ wanted = met_with_rest wanted c.loop-i.at front (c.loop-i.invariant.met met are) in
    let split : met ++ (map (keyed key) ns ++ more) ≡ front ++ (keyed key x ∷ rest) = row_from key ns c.loop-i.i x inside (number_item ns c.loop-i.i inside) met more in
    let wrong : Ascends c.args.kind (front ++ drop c.loop-i.at wanted) → Ascends c.args.kind (front ++ (keyed key x ∷ rest)) → IsTold c.args.index.now c.args.kind (front ++ drop c.loop-i.at wanted) (front ++ (keyed key x ∷ rest)) c.in-Err.fault =
    λ ups others.
    subst₃ (λ (ws : List Pair) (k : List ℕ) (n : ℕ). IsTold c.args.index.now c.args.kind (front ++ ws) (front ++ ((k, n) ∷ rest)) c.in-Err.fault) left c.as_slice-key.ensures c.number_at-id.ensures
    (c.in-Err.ensures.wrong front rest (subst (λ (ws : List Pair). Ascends c.args.kind (front ++ ws)) (sym left) ups)
    (subst₂ (λ (k : List ℕ) (n : ℕ). Ascends c.args.kind (front ++ ((k, n) ∷ rest))) (sym c.as_slice-key.ensures) (sym c.number_at-id.ensures) others)) in
    subst (λ (ws : List Pair). IsTold c.args.index.now c.args.kind ws (met ++ (map (keyed key) ns ++ more)) c.in-Err.fault) all
    (subst (λ (fs : List Pair). IsTold c.args.index.now c.args.kind (front ++ drop c.loop-i.at wanted) fs c.in-Err.fault) (sym split)
    (wrong (subst (Ascends c.args.kind) (sym all) up) (subst (Ascends c.args.kind) split other)))

pub loop-i-preserved : goal.loop-i-preserved
loop-i-preserved c =
    let ns : List ℕ = c.args.row.now.numbers in
    let x : ℕ = get_or ns c.loop-i.i 0 in
    let key : List ℕ = c.args.row.now.key in
    let wanted : List Pair = pairs_of c.args.wanted.now in
    let inside : c.loop-i.i < length ns = search rules in
    let next : IsNext (drop c.loop-i.at wanted) (key, x) =
    subst₃ (λ (ws : List Pair) (k : List ℕ) (n : ℕ). IsNext ws (k, n)) (rest_pairs c.loop-i.at c.args.wanted.now) c.as_slice-key.ensures c.number_at-id.ensures c.in-Ok.ensures.same
    in record {
      inside = next_inside c.loop-i.at c.args.wanted.now (key, x) next;
      met = λ met are. numbers_met key ns c.loop-i.i x inside (number_item ns c.loop-i.i inside) wanted c.loop-i.at met (c.loop-i.invariant.met met are) next;
    }
