use Rattle.std.proofs.Common.{rules, ◌≡◌, ◌∙◌, get_or, sym, subst}
use Rattle.bfs_stream.specs.Told.{contents}
use Rattle.bfs_pages.proofs.Later.{later-twice}
use Rattle.bfs_sound.specs.Whole.{volume_of}
use Rattle.bfs_tour.specs.Tours.{toured_tree}
use Rattle.bfs_index_check.proofs.Prefixes.{next}
use Rattle.bfs_index_walk.specs.Indices.{kinds_of}
use Rattle.bfs_index_walk.specs.declared.found.FoundIndex.{FoundIndex}
use Rattle.bfs_indices_check.specs.Listed.{AllListed}
use Rattle.bfs_indices_check.proofs.Listing.{more_listed, in_at}
use Rattle.bfs_indices_check.proofs.pass.check_each.Goals as goal

pub check_index-requires-clause-known : goal.check_index-requires-clause-known
check_index-requires-clause-known g c m told =
    let x : FoundIndex = c.index-found-i.result in
    let item : x ≡ get_or c.args.found.now c.loop-i.i x = search rules in
    let k = c.requires.known m (sym c.loop-i.invariant.told ∙ told) in
    (c.args.found.now, k.0, k.1, k.2, in_at c.args.found.now c.loop-i.i x c.loop-i-test.true item)

pub returns-in-Err-clause-wrong : goal.returns-in-Err-clause-wrong
returns-in-Err-clause-wrong g c m top visits told w keys built =
    let x : FoundIndex = c.index-found-i.result in
    let item : x ≡ get_or c.args.found.now c.loop-i.i x = search rules in
    c.in-Err.ensures.wrong m c.args.found.now top visits (c.loop-i.invariant.told ∙ told) w (in_at c.args.found.now c.loop-i.i x c.loop-i-test.true item) keys built

pub loop-i-preserved : goal.loop-i-preserved
loop-i-preserved g c =
    let x : FoundIndex = c.index-found-i.result in
    let item : x ≡ get_or c.args.found.now c.loop-i.i x = search rules in record {
      told = c.in-Ok.ensures.told ∙ c.loop-i.invariant.told;
      changed = c.in-Ok.ensures.changed ∙ c.loop-i.invariant.changed;
      pairs = c.in-Ok.ensures.pairs ∙ c.loop-i.invariant.pairs;
      size = c.in-Ok.ensures.size ∙ c.loop-i.invariant.size;
      frame = c.in-Ok.ensures.frame ∙ c.loop-i.invariant.frame;
      later = later-twice c.loop-i.invariant.later c.in-Ok.ensures.later;
      listed = λ m top visits told w keys.
          let v = volume_of c.args.sup.now (contents m) in
          subst (AllListed v (toured_tree v top visits (kinds_of c.args.found.now))) (sym (next c.args.found.now c.loop-i.i x c.loop-i-test.true item))
          (more_listed v (toured_tree v top visits (kinds_of c.args.found.now)) _ x (c.loop-i.invariant.listed m top visits told w keys)
          (c.in-Ok.ensures.listed m c.args.found.now top visits (c.loop-i.invariant.told ∙ told) w (in_at c.args.found.now c.loop-i.i x c.loop-i-test.true item) keys));
    }
