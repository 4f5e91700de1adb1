use Rattle.std.proofs.Common.{◌≡◌, ◌<◌, inr, ℕ, length, refl, sym, ap, subst, ◌∙◌, Option, Some, None, arith, rules}
use Rattle.std.proofs.lemmas.Grind.{common_steps}
use Rattle.bfs_disk.specs.State.{State, Tells}
use Rattle.bfs_device.specs.Books.{Books, durable_of, books_of, IsRight, AreSame, IsVersion, used_of}
use Rattle.bfs_device.specs.Layouts.{IsSameVolume, layout_of}
use Rattle.bfs_device.specs.Steps.{stepped, halted, still_touched, progress_to, calls_left, told_front, FailedFront}
use Rattle.bfs_device.specs.Told.{HasCalled, HasMarked, HasCounted}
use Rattle.bfs_device.proofs.Telling.{step_called, step_marked, step_counted, step_volume, step_moment, step_used}
use Rattle.bfs_device.proofs.Keeping.{step_done, step_failed}
use Rattle.bfs_device.specs.Ahead.{GoesOn}
use Rattle.bfs_device.specs.Contents.{KeepsContents}
use Rattle.bfs_device.proofs.Contents.{done_contents, failed_contents}
use Rattle.bfs_device.proofs.Forward.{steady_of, step_ahead, other_ahead}
use Rattle.bfs_device.proofs.step.step_of.Given.{Over}
use Rattle.bfs_device.proofs.Stepping.{known_of, ok_right, err_right, step_moments}
use Rattle.bfs_device.proofs.step.step_of.Goals as goal

pub returns-in-Ok-clause-right : goal.returns-in-Ok-clause-right
returns-in-Ok-clause-right g c = λ t right.
    let j = c.args.journal.now in
    let disk = c.args.disk.now in
    let some : 0 < length j.groups.items = grind (arith, common_steps, c.is_empty.ensures, c.if-is_empty.false) in
    let none_yet : j.stop ≡ None = search rules in
    subst (λ (b : Books). Tells (g.D.Disk.state c.act.new.disk) (λ s. IsRight b (still_touched (books_of j) t) s × AreSame (books_of j) right.0 b s)) (sym (c.advance.ensures.books ∙ ap stepped c.act.ensures.books))
    (ok_right (books_of j) (known_of j c.requires.ready) some c.act.ensures.read none_yet (g.D.Disk.size disk) c.requires.on_disk t (g.D.Disk.state disk) (g.D.Disk.state c.act.new.disk) (g.met.D.Disk.sized disk) (g.met.D.Disk.filled c.act.new.disk) c.in-Ok.ensures.done right)

pub returns-in-Ok-clause-moments : goal.returns-in-Ok-clause-moments
returns-in-Ok-clause-moments g c = λ t right.
    let j = c.args.journal.now in
    let disk = c.args.disk.now in
    let some : 0 < length j.groups.items = grind (arith, common_steps, c.is_empty.ensures, c.if-is_empty.false) in
    let none_yet : j.stop ≡ None = search rules in
    step_moments (books_of j) (known_of j c.requires.ready) some c.act.ensures.read none_yet (g.D.Disk.size disk) c.requires.on_disk t (g.D.Disk.state disk) (g.met.D.Disk.sized disk) c.act.result _ _ _ _ c.act.ensures.time right

pub returns-in-Err-clause-still_right : goal.returns-in-Err-clause-still_right
returns-in-Err-clause-still_right g c = λ t right.
    let j = c.args.journal.now in
    let disk = c.args.disk.now in
    let none_yet : j.stop ≡ None = search rules in
    subst (λ (b : Books). Tells (g.D.Disk.state c.act.new.disk) (λ s. IsRight b t s × AreSame (books_of j) right.0 b s)) (sym (c.halt.ensures.books ∙ ap (λ (b : Books). halted b c.faults.result) c.act.ensures.books))
    (err_right (books_of j) c.faults.result (known_of j c.requires.ready) c.act.ensures.read none_yet (g.D.Disk.size disk) c.requires.on_disk t (g.D.Disk.state disk) (g.D.Disk.state c.act.new.disk) (g.met.D.Disk.sized disk) c.in-Err.ensures.failed right)

pub returns-in-Err-clause-moments : goal.returns-in-Err-clause-moments
returns-in-Err-clause-moments g c = λ t right.
    let j = c.args.journal.now in
    let disk = c.args.disk.now in
    let some : 0 < length j.groups.items = grind (arith, common_steps, c.is_empty.ensures, c.if-is_empty.false) in
    let none_yet : j.stop ≡ None = search rules in
    step_moments (books_of j) (known_of j c.requires.ready) some c.act.ensures.read none_yet (g.D.Disk.size disk) c.requires.on_disk t (g.D.Disk.state disk) (g.met.D.Disk.sized disk) c.act.result _ _ _ _ c.act.ensures.time right

-- the answer and the books in terms of those at the call
told : (g : Over) (c : goal.After-advance g) → c.advance.result ≡ progress_to c.args.journal.now.groups.items c.args.journal.now.phase
told g c = c.advance.ensures.progress ∙ ap (λ (b : Books). progress_to b.groups b.phase) c.act.ensures.books

new_books : (g : Over) (c : goal.After-advance g) → books_of c.advance.new.journal ≡ stepped (books_of c.args.journal.now)
new_books g c = c.advance.ensures.books ∙ ap stepped c.act.ensures.books

pub returns-in-Ok-clause-volume : goal.returns-in-Ok-clause-volume
returns-in-Ok-clause-volume g c =
    subst (λ (b : Books). IsSameVolume c.args.journal.now.sup b.sup) (sym (new_books g c)) (step_volume (books_of c.args.journal.now) (known_of c.args.journal.now c.requires.ready))

pub returns-in-Ok-clause-called : goal.returns-in-Ok-clause-called
returns-in-Ok-clause-called g c =
    subst (HasCalled (layout_of c.args.journal.now.sup) (g.D.Disk.state c.args.disk.now) (g.D.Disk.state c.act.new.disk)) (sym (told g c))
    (step_called (books_of c.args.journal.now) (known_of c.args.journal.now c.requires.ready) c.act.ensures.read (g.D.Disk.state c.args.disk.now) (g.D.Disk.state c.act.new.disk) c.in-Ok.ensures.done)

pub returns-in-Ok-clause-marked : goal.returns-in-Ok-clause-marked
returns-in-Ok-clause-marked g c =
    let j = c.args.journal.now in
    subst (λ (b : Books). HasMarked (books_of j) b c.advance.result) (sym (new_books g c))
    (subst (HasMarked (books_of j) (stepped (books_of j))) (sym (told g c)) (step_marked (books_of j) (known_of j c.requires.ready)))

pub returns-in-Ok-clause-counted : goal.returns-in-Ok-clause-counted
returns-in-Ok-clause-counted g c =
    let j = c.args.journal.now in
    subst (λ (b : Books). HasCounted (calls_left (books_of j)) (calls_left b) c.advance.result) (sym (new_books g c))
    (subst (HasCounted (calls_left (books_of j)) (calls_left (stepped (books_of j)))) (sym (told g c)) (step_counted (books_of j) (known_of j c.requires.ready)))

pub returns-in-Ok-clause-moved : goal.returns-in-Ok-clause-moved
returns-in-Ok-clause-moved g c =
    let j = c.args.journal.now in
    let some : 0 < length j.groups.items = grind (arith, common_steps, c.is_empty.ensures, c.if-is_empty.false) in
    inr (c.act.ensures.time.at_most_one, ap (λ (b : Books). b.moment) (new_books g c) ∙ step_moment (books_of j) (known_of j c.requires.ready) some)

pub returns-in-Ok-clause-used : goal.returns-in-Ok-clause-used
returns-in-Ok-clause-used g c =
    let j = c.args.journal.now in
    subst (λ (b : Books). (n : ℕ) → IsVersion b n → used_of b n ≡ used_of (books_of j) n) (sym (new_books g c)) (step_used (books_of j) (known_of j c.requires.ready))

pub returns-in-Ok-clause-agrees : goal.returns-in-Ok-clause-agrees
returns-in-Ok-clause-agrees g c = step_done c.write_keeps.ensures c.barrier_keeps.ensures (books_of c.args.journal.now) (known_of c.args.journal.now c.requires.ready) c.act.ensures.read (g.D.Disk.state c.args.disk.now) (g.D.Disk.state c.act.new.disk) c.in-Ok.ensures.done

pub returns-in-Err-clause-agrees : goal.returns-in-Err-clause-agrees
returns-in-Err-clause-agrees g c = step_failed c.failed_write_keeps.ensures (books_of c.args.journal.now) (known_of c.args.journal.now c.requires.ready) c.act.ensures.read (g.D.Disk.state c.args.disk.now) (g.D.Disk.state c.act.new.disk) c.in-Err.ensures.failed

pub returns-in-Ok-clause-ahead : goal.returns-in-Ok-clause-ahead
returns-in-Ok-clause-ahead g c =
    let j = c.args.journal.now in
    subst (λ (b : Books). GoesOn (books_of j) b) (sym (new_books g c)) (step_ahead (books_of j) (steady_of j c.requires.ready))

pub returns-in-Err-clause-ahead : goal.returns-in-Err-clause-ahead
returns-in-Err-clause-ahead g c =
    let j = c.args.journal.now in
    let is = c.halt.ensures.books ∙ ap (λ (b : Books). halted b c.faults.result) c.act.ensures.books in
    other_ahead (books_of j) (books_of c.halt.new.journal) (ap (λ (b : Books). b.sup) is) (ap (λ (b : Books). b.groups) is) (ap (λ (b : Books). b.phase) is) (ap (λ (b : Books). b.left) is)

pub returns-in-Ok-clause-contents : goal.returns-in-Ok-clause-contents
returns-in-Ok-clause-contents g c = λ st next is now.
    let j = c.args.journal.now in
    let steady = steady_of j c.requires.ready in
    let read = c.act.ensures.read in
    let called = step_called (books_of j) (known_of j c.requires.ready) read (Some st) (Some next) (sym now ∙ c.in-Ok.ensures.done ∙ ap (told_front j.sup j.groups.items j.phase) is) in
    subst (λ (b : Books). KeepsContents (books_of j) b st next) (sym (new_books g c))
    (done_contents (books_of j) (stepped (books_of j)) st next steady (progress_to j.groups.items j.phase) refl called (step_marked (books_of j) (known_of j c.requires.ready)) (step_ahead (books_of j) steady).durable)

pub returns-in-Err-clause-contents : goal.returns-in-Err-clause-contents
returns-in-Err-clause-contents g c = λ st next is now.
    let j = c.args.journal.now in
    let steady = steady_of j c.requires.ready in
    let same = c.halt.ensures.books ∙ ap (λ (b : Books). halted b c.faults.result) c.act.ensures.books in
    let failed = subst (λ (o : Option State). FailedFront j.sup j.groups.items j.phase (Some st) o) now (subst (λ (o : Option State). FailedFront j.sup j.groups.items j.phase o (g.D.Disk.state c.act.new.disk)) is c.in-Err.ensures.failed) in
    failed_contents (books_of j) (books_of c.halt.new.journal) st next steady (ap durable_of same) j.groups.items j.phase refl steady.phase c.act.ensures.read failed
