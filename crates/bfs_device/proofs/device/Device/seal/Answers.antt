use Rattle.std.proofs.Common.{◌≡◌, ◌≤◌, ◌+◌, ◌∙◌, length, subst, sym, ap}
use Rattle.bfs_log.specs.Replay.{over}
use Rattle.bfs_device.specs.Layouts.{homes_in}
use Rattle.bfs_device.specs.Books.{Books, View, books_of, IsRight, IsVersion, version, sealed_of, used_of}
use Rattle.bfs_device.specs.Steps.{calls_left}
use Rattle.bfs_device.specs.Seals.{sealed_with, calls_of_group, last_used}
use Rattle.bfs_device.proofs.Stepping.{Known, known_of}
use Rattle.bfs_device.proofs.Sealing.{sealed_right, still_version, version_low, older_version, newest_version, older_used, newest_used, sealed_calls, sealed_last, sealed_used}
use Rattle.bfs_device.specs.Books.{durable_of}
use Rattle.bfs_device.specs.Ahead.{IsGroupOf}
use Rattle.bfs_device.proofs.Forward.{sealed_only, sealed_groups, sealed_durable}
use Rattle.bfs_device.proofs.device.Device.seal.Goals as goal
use Rattle.bfs_device.proofs.device.Device.seal.Given.{Over}

-- what is known of the books
know : (g : Over) (c : goal.After-take g) → Known c.args.self.now.books
know g c = subst (λ (x : View g.row.D.Denot). Known x.books) c.self.view_is (known_of c.self.inside.journal c.self.invariant.0)

new_books : (g : Over) (c : goal.After-take g) → books_of c.take.new.journal ≡ sealed_with c.args.self.now.books c.args.group
new_books g c = c.take.ensures.books ∙ ap (λ (x : View g.row.D.Denot). sealed_with x.books c.args.group) c.self.view_is

pub returns-clause-right : goal.returns-clause-right
returns-clause-right g c = λ t s right. subst (λ (b : Books). IsRight b t s) (sym (new_books g c)) (sealed_right c.args.self.now.books c.args.group (know g c) c.requires.next t s right)

pub returns-clause-numbers : goal.returns-clause-numbers
returns-clause-numbers g c = λ n is. (subst (λ (b : Books). IsVersion b n) (sym (new_books g c)) (still_version c.args.self.now.books c.args.group (know g c) c.requires.next n is), version_low c.args.self.now.books c.args.group (know g c) c.requires.next n is)

pub returns-clause-older : goal.returns-clause-older
returns-clause-older g c = λ s n k is. subst (λ (b : Books). version b s n k ≡ version c.args.self.now.books s n k) (sym (new_books g c)) (older_version c.args.self.now.books c.args.group (know g c) c.requires.next s n k is)

pub returns-clause-newest : goal.returns-clause-newest
returns-clause-newest g c = λ s k. subst (λ (b : Books). version b s c.args.group.last k ≡ over (homes_in c.args.group.blocks) (version c.args.self.now.books s (sealed_of c.args.self.now.books)) k) (sym (new_books g c)) (newest_version c.args.self.now.books c.args.group (know g c) c.requires.next s k)

pub returns-clause-calls : goal.returns-clause-calls
returns-clause-calls g c = subst (λ (b : Books). calls_left b ≤ calls_left c.args.self.now.books + calls_of_group (length c.args.group.blocks)) (sym (new_books g c)) (sealed_calls c.args.self.now.books c.args.group (know g c) c.requires.next)

pub returns-clause-older_used : goal.returns-clause-older_used
returns-clause-older_used g c = λ n is. subst (λ (b : Books). used_of b n ≡ used_of c.args.self.now.books n) (sym (new_books g c)) (older_used c.args.self.now.books c.args.group (know g c) c.requires.next n is)

pub returns-clause-newest_used : goal.returns-clause-newest_used
returns-clause-newest_used g c = subst (λ (b : Books). used_of b c.args.group.last ≡ c.args.group.used) (sym (new_books g c)) (newest_used c.args.self.now.books c.args.group (know g c) c.requires.next)

pub returns-clause-sealed : goal.returns-clause-sealed
returns-clause-sealed g c = ap sealed_of (new_books g c) ∙ sealed_last c.args.self.now.books c.args.group

pub returns-clause-last_used : goal.returns-clause-last_used
returns-clause-last_used g c = ap last_used (new_books g c) ∙ sealed_used c.args.self.now.books c.args.group

pub returns-clause-only : goal.returns-clause-only
returns-clause-only g c = λ n is. sealed_only c.args.self.now.books c.args.group n (subst (λ (b : Books). IsVersion b n) (new_books g c) is)

pub returns-clause-groups : goal.returns-clause-groups
returns-clause-groups g c = λ x is. sealed_groups c.args.self.now.books x c.args.group (subst (λ (b : Books). IsGroupOf x b.groups) (new_books g c) is)

pub returns-clause-durable : goal.returns-clause-durable
returns-clause-durable g c = ap durable_of (new_books g c) ∙ sealed_durable c.args.self.now.books c.args.group
