use Rattle.std.proofs.Common.{◌≡◌, ◌∙◌, ◌++◌, [], ◌∷◌, ℕ, List, map, take, drop, get_or, sym, ap, arith, length-drop, rules}
use Rattle.std.proofs.lemmas.List.{take_more_set, map_more, length-set}
use Rattle.bfs_device.proofs.Entries.{get_past}
use Rattle.bfs_device.proofs.calls.numbers.Goals as goal

pub loop-i-preserved : goal.loop-i-preserved
loop-i-preserved c =
    let i = c.loop-i.i in
    let ps = drop c.args.first c.args.blocks.now in
    let is : c.block.result ≡ (get_or ps i (0, [])).0 = c.block.ensures ∙ sym (ap (λ p. p.0) (get_past c.args.first i c.args.blocks.now (0, []))) in (
      search (rules, length-set, c.loop-i.invariant.0),
      take_more_set c.loop-i.numbers i c.block.result (omega (arith, c.loop-i-test.true, c.requires.few, c.loop-i.invariant.0))
          ∙ ap (λ (xs : List ℕ). xs ++ c.block.result ∷ []) c.loop-i.invariant.1
          ∙ ap (λ (x : ℕ). map (λ p. p.0) (take i ps) ++ x ∷ []) is
          ∙ sym (map_more (λ p. p.0) ps i (0, []) (omega (arith, c.loop-i-test.true, c.requires.inside, length-drop c.args.first c.args.blocks.now))),
    )
