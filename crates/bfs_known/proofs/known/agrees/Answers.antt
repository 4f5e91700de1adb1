use Rattle.std.proofs.Common.{◌≡◌, ◌↔◌, ◌∙◌, Bool, true, false, IsTrue, ap, sym, subst}
use Rattle.std.specs.Prelude.{◌&&◌}
use Rattle.std.specs.List.{list_all}
use Rattle.bfs_tree.specs.States.{AgreesWith}
use Rattle.bfs_known.specs.Known.{fits_at, known_of}
use Rattle.bfs_known.proofs.Knowns.{known-fits}
use Rattle.bfs_known.proofs.known.agrees.Goals as goal

pub returns-then-not-fits : goal.returns-then-not-fits
returns-then-not-fits c =
    let test : list_all (fits_at c.args.id c.args.at c.args.bytes.now) c.args.known.now.entries ≡ false =
    sym c.loop-place.invariant ∙ ap (list_all (fits_at c.args.id c.args.at c.args.bytes.now)) c.in-Some.ensures.steps
    ∙ ap (λ b. b && list_all (fits_at c.args.id c.args.at c.args.bytes.now) c.next.new.self) (sym c.fits.ensures ∙ c.if-not-fits.true) in
    subst (λ (b : Bool). IsTrue b ↔ AgreesWith (known_of c.args.known.now.entries) c.args.id c.args.at c.args.bytes.now) test
    (known-fits c.args.id c.args.at c.args.bytes.now c.args.known.now.entries c.iter-place-items.ensures.found)

pub returns : goal.returns
returns c =
    let test : list_all (fits_at c.args.id c.args.at c.args.bytes.now) c.args.known.now.entries ≡ true =
    sym c.loop-place.invariant ∙ ap (list_all (fits_at c.args.id c.args.at c.args.bytes.now)) c.in-None.ensures.steps.0 in
    subst (λ (b : Bool). IsTrue b ↔ AgreesWith (known_of c.args.known.now.entries) c.args.id c.args.at c.args.bytes.now) test
    (known-fits c.args.id c.args.at c.args.bytes.now c.args.known.now.entries c.iter-place-items.ensures.found)
