use Rattle.std.proofs.Common.{◌≡◌, ◌≤◌, ◌<◌, ◌+◌, ◌/◌, ◌++◌, ◌∷◌, [], ◌∙◌, suc, pos, List, length, take, drop, refl, sym, ap, subst, arith, append_assoc, append-nil}
use Rattle.std.proofs.lemmas.List.{take_more, take_all}
use Rattle.bfs_node.specs.Page.{Row, rows_of, row_in}
use Rattle.bfs_pages.proofs.Later.{later-twice}
use Rattle.bfs_value_walk.specs.Taken.{AreTaken}
use Rattle.bfs_value_walk.proofs.Rowing.{next_row}
use Rattle.bfs_value_walk.proofs.rows.take_rows.Goals as goal

pub take_row-requires-clause-inside : goal.take_row-requires-clause-inside
take_row-requires-clause-inside g c = let e = c.row_count-i-end.ensures in let t = c.loop-i-test.true in omega (arith, e, t)

pub take_row-requires-clause-small : goal.take_row-requires-clause-small
take_row-requires-clause-small g c = subst (λ n. n < 9223372036854775808) (sym c.loop-i.invariant.size) c.requires.small

pub take_row-requires-clause-length : goal.take_row-requires-clause-length
take_row-requires-clause-length g c = c.loop-i.invariant.long ∙ c.requires.length ∙ ap (λ n. n / 1024) (sym c.loop-i.invariant.size)

pub take_row-requires-clause-names : goal.take_row-requires-clause-names
take_row-requires-clause-names g c = c.loop-i.invariant.words ∙ c.requires.names ∙ ap (λ n. n / 1024) (sym c.loop-i.invariant.size)

pub returns-in-Err-clause-wrong : goal.returns-in-Err-clause-wrong
returns-in-Err-clause-wrong g c = λ kind b done rest begin told next start.
    let rows : List Row = rows_of c.args.page.now in
    let i = c.loop-i.i in
    let h : i < length rows = let e = c.row_count-i-end.ensures in let t = c.loop-i-test.true in omega (arith, e, t) in
    c.in-Err.ensures.wrong kind b (done ++ take i rows) (drop (suc i) rows ++ rest) begin (c.loop-i.invariant.told ∙ told) (next_row kind b c.args.leaf done rows rest i h next)
    (subst (λ s. AreTaken kind b (done ++ take i rows) s c.loop-i.marks c.loop-i.names (g.T.RowSink.took begin c.loop-i.taken)) (sym c.loop-i.invariant.size) (c.loop-i.invariant.taken kind b done begin told start))

pub loop-i-preserved : goal.loop-i-preserved
loop-i-preserved g c =
    let rows : List Row = rows_of c.args.page.now in
    let i = c.loop-i.i in
    let size = g.P.Pages.size c.args.pages.now in
    let h : i < length rows = let e = c.row_count-i-end.ensures in let t = c.loop-i-test.true in omega (arith, e, t) in
    record {
      told = c.in-Ok.ensures.told ∙ c.loop-i.invariant.told;
      size = c.in-Ok.ensures.size ∙ c.loop-i.invariant.size;
      later = later-twice c.loop-i.invariant.later c.in-Ok.ensures.counts;
      frame = c.in-Ok.ensures.frame ∙ c.loop-i.invariant.frame;
      goes_on = g.met.P.Pages.goes_on_twice _ _ _ c.loop-i.invariant.goes_on c.in-Ok.ensures.goes_on;
      is_read = g.met.P.Pages.is_read_twice _ _ _ c.loop-i.invariant.is_read c.in-Ok.ensures.is_read;
      long = c.in-Ok.ensures.length ∙ c.loop-i.invariant.long;
      words = c.in-Ok.ensures.names ∙ c.loop-i.invariant.words;
      taken = λ kind b done begin told start.
          let was = subst (λ s. AreTaken kind b (done ++ take i rows) s c.loop-i.marks c.loop-i.names (g.T.RowSink.took begin c.loop-i.taken)) (sym c.loop-i.invariant.size) (c.loop-i.invariant.taken kind b done begin told start) in
          let now = c.in-Ok.ensures.taken kind b (done ++ take i rows) begin (c.loop-i.invariant.told ∙ told) was in
          let more : (done ++ take i rows) ++ row_in rows i ∷ [] ≡ done ++ take (i + 1) rows = append_assoc done (take i rows) (row_in rows i ∷ []) ∙ ap (λ (l : List Row). done ++ l) (sym (take_more rows i ([], pos 0) h)) in
          subst (λ (rs : List Row). AreTaken kind b rs size c.take_row.new.marks c.take_row.new.names (g.T.RowSink.took begin c.take_row.new.taken)) more
          (subst (λ s. AreTaken kind b ((done ++ take i rows) ++ row_in rows i ∷ []) s c.take_row.new.marks c.take_row.new.names (g.T.RowSink.took begin c.take_row.new.taken)) c.loop-i.invariant.size now);
    }

pub loop-i-init : goal.loop-i-init
loop-i-init g c = record {
  told = refl;
  size = refl;
  later = record { faults = omega arith; stops = refl; stop = refl };
  frame = refl;
  goes_on = g.met.P.Pages.goes_on_same c.args.pages.now;
  is_read = g.met.P.Pages.is_read_same c.args.pages.now;
  long = refl;
  words = refl;
  taken = λ kind b done begin told start. subst (λ (rs : List Row). AreTaken kind b rs (g.P.Pages.size c.args.pages.now) c.args.marks.now c.args.names.now (g.T.RowSink.took begin c.args.taken.now)) (sym (append-nil done)) start;
}

pub returns-clause-taken : goal.returns-clause-taken
returns-clause-taken g c = λ kind b done begin told start.
    let rows : List Row = rows_of c.args.page.now in
    let size = g.P.Pages.size c.args.pages.now in
    let behind : length rows ≤ c.loop-i.i = let e = c.row_count-i-end.ensures in let t = c.loop-i-test.false in omega (arith, e, t) in
    subst (λ (rs : List Row). AreTaken kind b (done ++ rs) size c.loop-i.marks c.loop-i.names (g.T.RowSink.took begin c.loop-i.taken)) (take_all c.loop-i.i rows behind) (c.loop-i.invariant.taken kind b done begin told start)
