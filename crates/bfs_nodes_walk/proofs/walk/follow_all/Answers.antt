use Rattle.std.proofs.Common.{◌≡◌, ◌≤◌, ◌<◌, [], ◌∙◌, length, refl, sym, ap, subst, arith}
use Rattle.bfs_super.specs.Conditions.{natural}
use Rattle.bfs_stream.specs.Told.{contents}
use Rattle.bfs_pages.proofs.Later.{later-twice}
use Rattle.bfs_sound.specs.Whole.{volume_of}
use Rattle.bfs_nodes_walk.specs.Facts.{AreFactsOf}
use Rattle.bfs_nodes_walk.proofs.Kept.{facts_step, facts_all, many_next, within_next}
use Rattle.bfs_nodes_walk.proofs.Leading.{inside_all}
use Rattle.bfs_nodes_walk.proofs.Walking.{walked, untaken_first}
use Rattle.bfs_nodes_walk.proofs.walk.follow_all.Goals as goal

pub loop-at-init : goal.loop-at-init
loop-at-init g c = record {
  told = refl;
  changed = refl;
  pairs = refl;
  size = refl;
  frame = refl;
  later = record { faults = omega arith; stops = refl; stop = refl };
  blocks = refl;
  facts = λ m told. subst (AreFactsOf (volume_of c.args.sup.now (contents m)) []) (sym c.new-facts.ensures.items) tt;
  many = ap length c.new-facts.ensures.items;
  within = omega arith;
  inside = tt;
  walked = λ m xs told w. w;
}

pub loop-at-preserved : goal.loop-at-preserved
loop-at-preserved g c =
    let inside : c.loop-at.at < length c.loop-at.leads.items = omega arith in record {
      told = c.in-Ok.ensures.told ∙ c.loop-at.invariant.told;
      changed = c.in-Ok.ensures.changed ∙ c.loop-at.invariant.changed;
      pairs = c.in-Ok.ensures.pairs ∙ c.loop-at.invariant.pairs;
      size = c.in-Ok.ensures.size ∙ c.loop-at.invariant.size;
      frame = c.in-Ok.ensures.frame ∙ c.loop-at.invariant.frame;
      later = later-twice c.loop-at.invariant.later c.in-Ok.ensures.later;
      blocks = c.in-Ok.ensures.blocks ∙ c.loop-at.invariant.blocks;
      facts = λ m told.
          facts_step (volume_of c.args.sup.now (contents m)) c.loop-at.leads.items c.follow.new.leads.items c.loop-at.facts.items c.keep.new.facts.items c.loop-at.at c.in-Ok.one inside c.in-Ok.ensures.behind (λ l. c.in-Ok.ensures.facts m l (c.loop-at.invariant.told ∙ told))
          c.in-Ok-keep.ensures.kept (c.loop-at.invariant.facts m told);
      many = many_next c.loop-at.facts.items c.keep.new.facts.items c.in-Ok.one c.loop-at.at c.loop-at.invariant.many c.in-Ok-keep.ensures.kept;
      within = within_next c.loop-at.leads.items c.follow.new.leads.items c.loop-at.at inside c.in-Ok.ensures.behind;
      inside = c.in-Ok.ensures.inside;
      walked = λ m xs told w. c.in-Ok.ensures.on m xs (c.loop-at.invariant.told ∙ told) (c.loop-at.invariant.walked m xs told w);
    }

pub follow-requires-clause-all : goal.follow-requires-clause-all
follow-requires-clause-all g c m told = c.requires.all m (sym c.loop-at.invariant.told ∙ told)

pub returns-clause-inside : goal.returns-clause-inside
returns-clause-inside g c =
    let past : length c.loop-at.leads.items ≤ c.loop-at.at = omega arith in
    inside_all (natural c.args.sup.now.num_blocks) c.loop-at.leads.items c.loop-at.at past c.loop-at.invariant.inside

pub returns-clause-facts : goal.returns-clause-facts
returns-clause-facts g c m told =
    let past : length c.loop-at.leads.items ≤ c.loop-at.at = omega arith in
    facts_all (volume_of c.args.sup.now (contents m)) c.loop-at.leads.items c.loop-at.facts.items c.loop-at.at past (c.loop-at.invariant.facts m told)

pub returns-clause-many : goal.returns-clause-many
returns-clause-many g c =
    let past : length c.loop-at.leads.items ≤ c.loop-at.at = omega arith in
    let within : c.loop-at.at ≤ length c.loop-at.leads.items = c.loop-at.invariant.within in
    let many : length c.loop-at.facts.items ≡ c.loop-at.at = c.loop-at.invariant.many in
    omega (arith, past, within, many)

pub returns-clause-walked : goal.returns-clause-walked
returns-clause-walked g c m xs told w =
    let past : length c.loop-at.leads.items ≤ c.loop-at.at = omega arith in
    walked (volume_of c.args.sup.now (contents m)) xs c.loop-at.claims c.loop-at.leads.items c.loop-at.at past (c.loop-at.invariant.walked m xs told w)

pub returns-in-Err-clause-wrong : goal.returns-in-Err-clause-wrong
returns-in-Err-clause-wrong g c m xs told w = c.in-Err.ensures.wrong m xs (c.loop-at.invariant.told ∙ told) (c.loop-at.invariant.walked m xs told w)

pub returns-in-Err-clause-taken : goal.returns-in-Err-clause-taken
returns-in-Err-clause-taken g c m xs told w = c.in-Err.ensures.taken m xs (c.loop-at.invariant.told ∙ told) (c.loop-at.invariant.walked m xs told w)

pub returns-in-Err-keep-clause-wrong : goal.returns-in-Err-keep-clause-wrong
returns-in-Err-keep-clause-wrong g c m xs told w = c.in-Err-keep.ensures.wrong (volume_of c.args.sup.now (contents m))

pub returns-in-Err-keep-clause-taken : goal.returns-in-Err-keep-clause-taken
returns-in-Err-keep-clause-taken g c m xs told w = untaken_first (volume_of c.args.sup.now (contents m)) xs c.in-Err-keep.fault c.in-Err-keep.ensures.untaken

pub returns-in-Err-keep-clause-cause : goal.returns-in-Err-keep-clause-cause
returns-in-Err-keep-clause-cause g c = c.in-Err-keep.ensures.cause (g.B.Blocks.counts c.args.under.now) (g.B.Blocks.counts c.follow.new.under)
