use Rattle.std.proofs.Common.{◌≡◌, ◌<◌, ◌*◌, ◌/◌, ◌∙◌, ℕ, List, get_or, length, sym, ap, subst, arith}
use Rattle.std.proofs.lemmas.Result.{on_ok_weaker}
use Rattle.bfs_values.specs.Rows.{rows_in}
use Rattle.bfs_value_walk.specs.Named.{parted}
use Rattle.bfs_value_walk.specs.Taken.{AreNamed}
use Rattle.bfs_value_walk.proofs.Reaching.{header_whole}
use Rattle.bfs_value_walk.proofs.Wording.{parted_none, place_number, number_back}
use Rattle.bfs_value_walk.proofs.parts.check_part.Goals as goal

pub returns-then-i-eq0-clause-named : goal.returns-then-i-eq0-clause-named
returns-then-i-eq0-clause-named g c = λ kind b marks told met some f low used.
    let size = g.P.Pages.size c.args.pages.now in
    let names : List ℕ = c.args.names.now in
    let z : parted size names (1024 * c.args.i) ≡ 0 = subst (λ k. parted size names (1024 * k) ≡ 0) (sym c.if-i-eq0.true) (header_whole kind b (rows_in kind b) size marks names met) in
    absurd (omega (arith, z, some))

pub returns-then-word-eq0-clause-named : goal.returns-then-word-eq0-clause-named
returns-then-word-eq0-clause-named g c = λ kind b marks told met some f low used.
    let size = g.P.Pages.size c.args.pages.now in
    let names : List ℕ = c.args.names.now in
    let place = place_number size c.args.i (length names) c.requires.inside c.requires.length (g.met.P.Pages.whole c.args.pages.now) in
    let word : get_or names (1024 * c.args.i / 1024) 0 ≡ 0 = ap (λ k. get_or names k 0) (number_back c.args.i) ∙ c.if-word-eq0.true in
    let z : parted size names (1024 * c.args.i) ≡ 0 = parted_none size (1024 * c.args.i) names place word in
    absurd (omega (arith, z, some))

pub returns-clause-named : goal.returns-clause-named
returns-clause-named g c = λ kind b marks told met.
    let size = g.P.Pages.size c.args.pages.now in
    let names : List ℕ = c.args.names.now in
    let at : ℕ = 1024 * c.args.i in
    on_ok_weaker c.look_at_parts.result (λ (a : AreNamed b size names at) (some : 0 < parted size names at). a)
    (c.look_at_parts.ensures.named b names told (ap (λ k. get_or names k 0) (number_back c.args.i)))

pub returns-clause-wrong : goal.returns-clause-wrong
returns-clause-wrong g c = λ kind b marks told met.
    let names : List ℕ = c.args.names.now in
    c.look_at_parts.ensures.wrong kind b names marks told (ap (λ k. get_or names k 0) (number_back c.args.i)) (λ e. c.if-word-eq0.false e) met
