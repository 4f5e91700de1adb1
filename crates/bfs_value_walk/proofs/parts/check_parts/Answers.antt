use Rattle.std.proofs.Common.{◌<◌, ◌*◌, ◌/◌, ◌∙◌, ℕ, List, length, refl, sym, ap, subst, arith}
use Rattle.bfs_pages.proofs.Later.{later-twice}
use Rattle.bfs_pages.proofs.UpTo.{up_to_next}
use Rattle.bfs_values.specs.Rows.{rows_in}
use Rattle.bfs_value_walk.specs.Met.{AreMarked}
use Rattle.bfs_value_walk.specs.Named.{parted}
use Rattle.bfs_value_walk.specs.Taken.{AreNamed}
use Rattle.bfs_value_walk.proofs.Wording.{all_numbers}
use Rattle.bfs_value_walk.proofs.parts.check_parts.Goals as goal

pub check_part-requires-clause-length : goal.check_part-requires-clause-length
check_part-requires-clause-length g c = c.requires.length ∙ ap (λ n. n / 1024) (sym c.loop-i.invariant.size)

pub check_part-requires-clause-small : goal.check_part-requires-clause-small
check_part-requires-clause-small g c = subst (λ n. n < 9223372036854775808) (sym c.loop-i.invariant.size) c.requires.small

pub returns-in-Err-clause-wrong : goal.returns-in-Err-clause-wrong
returns-in-Err-clause-wrong g c = λ kind b marks told met.
    c.in-Err.ensures.wrong kind b marks (c.loop-i.invariant.told ∙ told) (subst (λ s. AreMarked kind b (rows_in kind b) s marks c.args.names.now) (sym c.loop-i.invariant.size) met)

pub loop-i-preserved : goal.loop-i-preserved
loop-i-preserved g c =
    let names : List ℕ = c.args.names.now in
    let size = g.P.Pages.size c.args.pages.now in
    record {
      told = c.in-Ok.ensures.told ∙ c.loop-i.invariant.told;
      size = c.in-Ok.ensures.size ∙ c.loop-i.invariant.size;
      later = later-twice c.loop-i.invariant.later c.in-Ok.ensures.counts;
      frame = c.in-Ok.ensures.frame ∙ c.loop-i.invariant.frame;
      goes_on = g.met.P.Pages.goes_on_twice _ _ _ c.loop-i.invariant.goes_on c.in-Ok.ensures.goes_on;
      is_read = g.met.P.Pages.is_read_twice _ _ _ c.loop-i.invariant.is_read c.in-Ok.ensures.is_read;
      named = λ kind b marks told met.
          let now = c.in-Ok.ensures.named kind b marks (c.loop-i.invariant.told ∙ told) (subst (λ s. AreMarked kind b (rows_in kind b) s marks names) (sym c.loop-i.invariant.size) met) in
          up_to_next (λ j. 0 < parted size names (1024 * j) → AreNamed b size names (1024 * j)) c.loop-i.i (c.loop-i.invariant.named kind b marks told met)
          (subst (λ s. 0 < parted s names (1024 * c.loop-i.i) → AreNamed b s names (1024 * c.loop-i.i)) c.loop-i.invariant.size now);
    }

pub loop-i-init : goal.loop-i-init
loop-i-init g c = record {
  told = refl;
  size = refl;
  later = record { faults = omega arith; stops = refl; stop = refl };
  frame = refl;
  goes_on = g.met.P.Pages.goes_on_same c.args.pages.now;
  is_read = g.met.P.Pages.is_read_same c.args.pages.now;
  named = λ kind b marks told met j h. absurd (omega (arith, h));
}

pub returns-clause-named : goal.returns-clause-named
returns-clause-named g c = λ kind b marks told met.
    let names : List ℕ = c.args.names.now in
    let size = g.P.Pages.size c.args.pages.now in
    all_numbers size (length names) names (AreNamed b size names) c.requires.length (g.met.P.Pages.whole c.args.pages.now)
    (λ j h. c.loop-i.invariant.named kind b marks told met j (let t = c.loop-i-test.false in omega (arith, t, h)))
