use Rattle.std.proofs.Common.{◌∙◌, subst, sym}
use Rattle.bfs_stream.specs.Told.{contents}
use Rattle.bfs_sound.specs.Owners.{reach}
use Rattle.bfs_sound.specs.Whole.{volume_of}
use Rattle.bfs_bitmap_check.specs.Marks.{IsMarkFault}
use Rattle.bfs_passes.specs.Passed.{tree_of}
use Rattle.bfs_passes.proofs.Telling.{extra_told}
use Rattle.bfs_passes.proofs.Rounds.{listed_tour, reach_claimed, reach_is_claimed, nodes_number}
use Rattle.bfs_passes.proofs.holding.hold_bits.Goals as goal

pub returns-in-Err-Unset-clause-wrong : goal.returns-in-Err-Unset-clause-wrong
returns-in-Err-Unset-clause-wrong g c m told log =
    let v = volume_of c.args.sup.now (contents m) in
    let l = c.requires.listed m told in
    let tour = listed_tour c.walk_is_tour.ensures v c.args.claims.now c.args.leads.now c.args.found.now l in
    let claimed = reach_claimed v c.args.claims.now c.args.leads.now c.args.found.now l.gone c.tour_reaches.ensures tour in
    let tree = tree_of v c.args.claims.now c.args.leads.now c.args.found.now l.gone in
    let unset = subst (IsMarkFault v (reach v tree)) c.in-Err-Unset.field-0-is (c.in-Err-Unset.ensures.found m told (c.requires.all m told) (reach v tree) claimed) in
    c.unmarked.ensures.wrong m c.args.claims.now tree (c.in-Err-Unset.ensures.told ∙ told) log l.gone
    (reach_is_claimed v c.args.claims.now c.args.leads.now c.args.found.now l.gone c.tour_reaches.ensures tour c.in-Err-Unset.block unset.0) unset.1 l.standing l.indices

pub returns-in-Err-Extra-clause-wrong : goal.returns-in-Err-Extra-clause-wrong
returns-in-Err-Extra-clause-wrong g c m told log =
    let v = volume_of c.args.sup.now (contents m) in
    let l = c.requires.listed m told in
    let tour = listed_tour c.walk_is_tour.ensures v c.args.claims.now c.args.leads.now c.args.found.now l in
    let claimed = reach_claimed v c.args.claims.now c.args.leads.now c.args.found.now l.gone c.tour_reaches.ensures tour in
    let tree = tree_of v c.args.claims.now c.args.leads.now c.args.found.now l.gone in
    let extra = subst (IsMarkFault v (reach v tree)) c.in-Err-Extra.field-0-is (c.in-Err-Extra.ensures.found m told (c.requires.all m told) (reach v tree) claimed) in
    extra_told c.args.sup.now v tree log l.standing l.indices c.in-Err-Extra.block extra

pub returns-in-Ok-check_used-clause-sound : goal.returns-in-Ok-check_used-clause-sound
returns-in-Ok-check_used-clause-sound g c m told log =
    let v = volume_of c.args.sup.now (contents m) in
    let l = c.requires.listed m told in
    let tour = listed_tour c.walk_is_tour.ensures v c.args.claims.now c.args.leads.now c.args.found.now l in
    let claimed = reach_claimed v c.args.claims.now c.args.leads.now c.args.found.now l.gone c.tour_reaches.ensures tour in
    let xs = reach v (tree_of v c.args.claims.now c.args.leads.now c.args.found.now l.gone) in
    record {
      gone = l.gone;
      sound = record {
        nodes = l.standing.nodes;
        indices = l.indices;
        bits = c.in-Ok.ensures.marks m told (c.requires.all m told) xs claimed;
        used = c.in-Ok-check_used.ensures.counts (contents m) xs (sym claimed.number ∙ sym c.count.ensures.value);
      };
      nodes = nodes_number v c.args.claims.now c.args.leads.now c.args.found.now l.gone c.tour_reaches.ensures tour;
      used = claimed.number;
    }

pub returns-in-Err-clause-wrong : goal.returns-in-Err-clause-wrong
returns-in-Err-clause-wrong g c m told log =
    let v = volume_of c.args.sup.now (contents m) in
    let l = c.requires.listed m told in
    let tour = listed_tour c.walk_is_tour.ensures v c.args.claims.now c.args.leads.now c.args.found.now l in
    let claimed = reach_claimed v c.args.claims.now c.args.leads.now c.args.found.now l.gone c.tour_reaches.ensures tour in
    let tree = tree_of v c.args.claims.now c.args.leads.now c.args.found.now l.gone in
    c.in-Err.ensures.wrong v tree log l.standing l.indices (c.in-Ok.ensures.marks m told (c.requires.all m told) (reach v tree) claimed)
    (sym claimed.number ∙ sym c.count.ensures.value)

pub unmarked-requires-clause-whole : goal.unmarked-requires-clause-whole
unmarked-requires-clause-whole g c m told =
    let l = c.requires.listed m (sym c.in-Err-Unset.ensures.told ∙ told) in
    (_, l.gone.nodes, l.gone.whole)
