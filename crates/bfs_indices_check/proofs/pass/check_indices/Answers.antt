use Rattle.std.proofs.Common.{rules, ◌≢◌, inr, length, refl}
use Rattle.bfs_stream.specs.Told.{contents}
use Rattle.bfs_sound.specs.Whole.{volume_of}
use Rattle.bfs_tour.specs.Tours.{toured_tree}
use Rattle.bfs_key_walk.specs.Gathered.{oldest_first}
use Rattle.bfs_key_walk.proofs.Filed.{facts_keys}
use Rattle.bfs_key_walk.proofs.Toured.{are_for}
use Rattle.bfs_index_walk.specs.Indices.{kinds_of}
use Rattle.bfs_indices_check.proofs.Finds.{some_indices}
use Rattle.bfs_indices_check.proofs.Listing.{all_indices}
use Rattle.bfs_indices_check.proofs.pass.check_indices.Goals as goal

pub returns-in-Err-clause-wrong : goal.returns-in-Err-clause-wrong
returns-in-Err-clause-wrong g c m top visits told w =
    let v = volume_of c.args.sup.now (contents m) in
    let some : length c.args.found.now ≢ 0 = search rules in
    c.not_built.ensures.missing v (toured_tree v top visits (kinds_of c.args.found.now)) c.args.found.now refl (some_indices c.args.found.now some) c.in-Err.ensures.wrong

pub returns-in-Err-clause-cause : goal.returns-in-Err-clause-cause
returns-in-Err-clause-cause g c = c.not_built.ensures.cause (g.B.Blocks.counts c.args.under.now) (g.B.Blocks.counts c.args.under.now)

pub returns-in-Ok-check_each-clause-sound : goal.returns-in-Ok-check_each-clause-sound
returns-in-Ok-check_each-clause-sound g c m top visits told w =
    let v = volume_of c.args.sup.now (contents m) in
    let keys = facts_keys v c.args.root c.args.leads.now (oldest_first visits) c.args.facts.now (are_for v c.args.root c.args.leads.now top visits w.nodes) (c.requires.facts m told) in record {
      plain = inr c.in-Ok.ensures.built;
      listed = all_indices v c.args.root c.args.leads.now c.args.found.now top visits w (c.in-Ok-check_each.ensures.listed m top visits told w keys);
    }

pub returns-in-Err-check_each-clause-wrong : goal.returns-in-Err-check_each-clause-wrong
returns-in-Err-check_each-clause-wrong g c m top visits told w =
    let v = volume_of c.args.sup.now (contents m) in
    let keys = facts_keys v c.args.root c.args.leads.now (oldest_first visits) c.args.facts.now (are_for v c.args.root c.args.leads.now top visits w.nodes) (c.requires.facts m told) in
    c.in-Err-check_each.ensures.wrong m top visits told w keys c.in-Ok.ensures.built
