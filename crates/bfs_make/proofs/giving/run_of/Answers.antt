use Rattle.std.proofs.Common.{◌≡◌, ◌≤◌, ◌<◌, ◌/◌, ◌%◌, ◌∙◌, ◌≤ℤ◌, ℕ, ℤ, pos, sym, ap, subst, arith}
use Rattle.std.proofs.lemmas.Int.{ints}
use Rattle.std.proofs.Math.Nat.{mod-lt}
use Rattle.bfs_stream.specs.Sizes.{sizes_of}
use Rattle.bfs_stream.proofs.Sized.{valid_sizes}
use Rattle.bfs_make.proofs.Places.{placed}
use Rattle.bfs_make.proofs.giving.run_of.Goals as goal

pub run_among-requires-clause-some : goal.run_among-requires-clause-some
run_among-requires-clause-some c = subst (λ (n : ℕ). 0 < n) (sym c.group_length.ensures) (valid_sizes c.args.site.sup c.requires.valid).some_group

pub run_among-requires-clause-few : goal.run_among-requires-clause-few
run_among-requires-clause-few c = subst (λ (n : ℕ). n ≤ 65536) (sym c.group_length.ensures) (valid_sizes c.args.site.sup c.requires.valid).few_group

pub run_among-requires-clause-block : goal.run_among-requires-clause-block
run_among-requires-clause-block c = let few = (valid_sizes c.args.site.sup c.requires.valid).few_blocks in let inside = c.requires.inside in omega (arith, few, inside)

pub returns-clause-block : goal.returns-clause-block
returns-clause-block c =
    let is = c.group_length.ensures in
    placed (sizes_of c.args.site.sup) c.run_among.result c.args.block
    (c.run_among.ensures.group ∙ ap (λ (n : ℕ). pos (c.args.block / n)) is) (c.run_among.ensures.start ∙ ap (λ (n : ℕ). c.args.block % n) is)

pub returns-clause-inside : goal.returns-clause-inside
returns-clause-inside c =
    let g = (sizes_of c.args.site.sup).group_blocks in
    let is = c.group_length.ensures in
    let sizes = valid_sizes c.args.site.sup c.requires.valid in
    let at = placed (sizes_of c.args.site.sup) c.run_among.result c.args.block (c.run_among.ensures.group ∙ ap (λ (n : ℕ). pos (c.args.block / n)) is) (c.run_among.ensures.start ∙ ap (λ (n : ℕ). c.args.block % n) is) in
    let one = c.run_among.ensures.one in
    let start : c.run_among.result.start ≡ c.args.block % g = c.run_among.ensures.start ∙ ap (λ (n : ℕ). c.args.block % n) is in
    let low : c.args.block % g < g = mod-lt c.args.block sizes.some_group in
    let inside = c.requires.inside in
    record {
      group = subst (λ (z : ℤ). pos 0 ≤ℤ z) (sym c.run_among.ensures.group) (omega (arith, ints));
      one_group = omega (arith, one, start, low);
      inside = omega (arith, at, one, inside);
    }
