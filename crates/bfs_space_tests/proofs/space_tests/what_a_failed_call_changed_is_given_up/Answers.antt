use Rattle.std.proofs.Common.{List, ℕ, sym, subst}
use Rattle.bfs_device.specs.Layouts.{layout_of}
use Rattle.bfs_space.specs.Books.{MayBeSealed}
use Rattle.bfs_space.proofs.Groups.{nothing_sealed}
use Rattle.bfs_space_tests.proofs.space_tests.what_a_failed_call_changed_is_given_up.Goals as goal

pub answer_call-answer-requires-clause-group : goal.answer_call-answer-requires-clause-group
answer_call-answer-requires-clause-group g c = subst (λ (l : List (ℕ × List ℕ)). MayBeSealed (layout_of c.in_ok-sup.sup) c.in_ok-sup.sup.block_size l) (sym c.new-group.ensures) (nothing_sealed c.in_ok-sup.sup c.in_ok-sup.ensures.valid)
