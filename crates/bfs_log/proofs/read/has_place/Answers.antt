use Rattle.std.proofs.Common.{⊎_elim, inl, inr, arith}
use Rattle.std.proofs.lemmas.Int.{ints}
use Rattle.bfs_log.proofs.read.has_place.Goals as goal

pub returns : goal.returns
returns c = (
  λ apart. record {
    some = omega (arith, c.if-len-eq0.false);
    group_low = omega (arith, ints);
    group_high = omega (arith, ints);
    inside = omega arith;
    volume = omega arith;
    not_zero = omega (arith, c.if-first-eq0.false);
    apart = ⊎_elim (λ before. inl (omega (arith, before, c.first_block-log.ensures.value))) (λ behind. inr (omega (arith, behind, c.first_block-log.ensures.value))) (c.is_apart.ensures.0 apart);
  },
  λ has. c.is_apart.ensures.1 (⊎_elim (λ before. inl (omega (arith, before))) (λ behind. inr (omega (arith, behind))) has.apart),
)
