use Rattle.std.proofs.Common.{◌≡◌, ◌∙◌, ap}
use Rattle.std.proofs.lemmas.Result.{IfOk-weaker}
use Rattle.bfs_bitmap.specs.declared.tally.Tally.{Tally}
use Rattle.bfs_bitmap.specs.Searches.{IsAnswer, IsAnswerFrom}
use Rattle.bfs_bitmap.proofs.Searches.{answer_low, below_low}
use Rattle.bfs_bitmap.proofs.bitmap.Bitmap.search.Goals as goal

pub returns-then-start-tally-clause-answer : goal.returns-then-start-tally-clause-answer
returns-then-start-tally-clause-answer g c m is fits shown =
    let low : c.tally-tally.result.low ≡ c.args.self.now.tally.low = ap (λ (t : Tally). t.low) c.tally-tally.ensures.tally in
    IfOk-weaker c.search_from.result (IsAnswerFrom c.args.self.now m c.tally-tally.result.low c.args.wanted c.args.longest) (IsAnswer c.args.self.now m c.args.wanted c.args.longest)
    (λ s a. answer_low c.args.self.now m c.tally-tally.result.low c.args.wanted c.args.longest s low fits a)
    (c.search_from.ensures.answer m is fits.has (below_low c.args.self.now m c.args.wanted c.tally-tally.result.low c.requires.some low fits) shown)

pub returns-in-Ok-Full-clause-answer : goal.returns-in-Ok-Full-clause-answer
returns-in-Ok-Full-clause-answer g c m is fits shown =
    let low : c.tally-tally.result.low ≡ c.args.self.now.tally.low = ap (λ (t : Tally). t.low) c.tally-tally.ensures.tally in
    IfOk-weaker c.search_from-in-Ok-Full.result (IsAnswerFrom c.args.self.now m c.tally-tally.result.low c.args.wanted c.args.longest) (IsAnswer c.args.self.now m c.args.wanted c.args.longest)
    (λ s a. answer_low c.args.self.now m c.tally-tally.result.low c.args.wanted c.args.longest s low fits a)
    (c.search_from-in-Ok-Full.ensures.answer m (c.in-Ok-Full.ensures.told ∙ is) fits.has (below_low c.args.self.now m c.args.wanted c.tally-tally.result.low c.requires.some low fits) (c.in-Ok-Full.ensures.shown m is fits.has shown))
