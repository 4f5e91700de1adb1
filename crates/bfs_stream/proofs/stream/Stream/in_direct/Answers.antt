use Rattle.std.proofs.Common.{◌∙◌, inl, inr, [], ap, sym, subst}
use Rattle.std.specs.Prelude.{All}
use Rattle.std.proofs.lemmas.List.{append-nil}
use Rattle.bfs_inode.specs.Inode.{runs_in}
use Rattle.bfs_stream.specs.Sizes.{IsInVolume}
use Rattle.bfs_stream.specs.Places.{used_runs}
use Rattle.bfs_stream.specs.Scans.{block_in}
use Rattle.bfs_stream.proofs.stream.Stream.in_direct.Goals as goal

pub returns-in-Found-clause-found : goal.returns-in-Found-clause-found
returns-in-Found-clause-found c = ap (λ l. block_in c.args.self.now.sizes l c.args.place) (sym (append-nil (runs_in 12 c.args.bytes.now 72))) ∙ c.in-Found.ensures.scan []

pub returns-in-Past-clause-none : goal.returns-in-Past-clause-none
returns-in-Past-clause-none c all = ap (λ l. block_in c.args.self.now.sizes l c.args.place) (sym (append-nil (runs_in 12 c.args.bytes.now 72))) ∙ (c.in-Past.ensures.scan []).1

pub returns-in-Broken-clause-none : goal.returns-in-Broken-clause-none
returns-in-Broken-clause-none c all =
    ap (λ l. block_in c.args.self.now.sizes l c.args.place) (sym (append-nil (runs_in 12 c.args.bytes.now 72)))
    ∙ c.in-Broken.ensures.scan [] (subst (λ l. All (IsInVolume c.args.self.now.sizes) (used_runs l)) (sym (append-nil (runs_in 12 c.args.bytes.now 72))) all)

pub returns-in-Past-clause-ended : goal.returns-in-Past-clause-ended
returns-in-Past-clause-ended c = inl (c.in-Past.field-0, c.in-Past.ensures.stopped)

pub returns-in-Broken-clause-ended : goal.returns-in-Broken-clause-ended
returns-in-Broken-clause-ended c = inr c.in-Broken.ensures.stopped
