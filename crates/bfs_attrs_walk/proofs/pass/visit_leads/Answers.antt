use Rattle.std.proofs.Common.{rules, ◌≡◌, ◌≤◌, ◌<◌, ◌∙◌, ◌++◌, ◌∷◌, ◌+◌, ℕ, List, length, take, drop, get_or, refl, sym, subst, arith, append-nil}
use Rattle.bfs_super.specs.Conditions.{natural}
use Rattle.bfs_txn.specs.Faults.{Counts}
use Rattle.bfs_stream.specs.Told.{contents}
use Rattle.bfs_pages.proofs.Later.{later-twice}
use Rattle.bfs_sound.specs.Volumes.{Volume}
use Rattle.bfs_sound.specs.Whole.{volume_of}
use Rattle.bfs_claims.specs.Claims.{AreClaimed}
use Rattle.bfs_attr_walk.proofs.Causing.{cause_earlier}
use Rattle.bfs_nodes_walk.specs.Walks.{blocks_of_visits}
use Rattle.bfs_nodes_walk.specs.declared.facts.NodeFacts.{NodeFacts}
use Rattle.bfs_nodes_walk.specs.declared.lead.NodeLead.{NodeLead}
use Rattle.bfs_nodes_walk.proofs.Kept.{fact_at}
use Rattle.bfs_attrs_walk.specs.Passes.{attribute_blocks, blocks_of_leads}
use Rattle.bfs_attrs_walk.proofs.Passing.{parts, there, names_block, have_next, claimed_next, have_all, claimed_all, inside_before, row_is_reached}
use Rattle.bfs_attrs_walk.proofs.Searched.{directories}
use Rattle.bfs_attrs_walk.proofs.pass.visit_leads.Goals as goal

pub loop-i-init : goal.loop-i-init
loop-i-init g c = record {
  told = refl;
  changed = refl;
  pairs = refl;
  size = refl;
  frame = refl;
  later = record { faults = omega arith; stops = refl; stop = refl };
  blocks = refl;
  right = λ m told. tt;
  claimed = λ m xs told a. subst (AreClaimed c.args.claims.now) (sym (append-nil xs)) a;
}

pub loop-i-preserved : goal.loop-i-preserved
loop-i-preserved g c =
    let r : NodeLead = c.index-leads-i.result in
    let leads : List NodeLead = c.args.leads.now in
    let item : r ≡ get_or leads c.loop-i.i r = search rules in
    let inside : c.loop-i.i < length leads = c.loop-i-test.true in record {
      told = c.in-Ok.ensures.told ∙ c.loop-i.invariant.told;
      changed = c.in-Ok.ensures.changed ∙ c.loop-i.invariant.changed;
      pairs = c.in-Ok.ensures.pairs ∙ c.loop-i.invariant.pairs;
      size = c.in-Ok.ensures.size ∙ c.loop-i.invariant.size;
      frame = c.in-Ok.ensures.frame ∙ c.loop-i.invariant.frame;
      later = later-twice c.loop-i.invariant.later c.in-Ok.ensures.later;
      blocks = c.in-Ok.ensures.blocks ∙ c.loop-i.invariant.blocks;
      right = λ m told. have_next leads c.loop-i.i r inside item (volume_of c.args.sup.now (contents m)) (c.loop-i.invariant.right m told) (c.in-Ok.ensures.right m (c.loop-i.invariant.told ∙ told));
      claimed = λ m xs told a.
          claimed_next leads c.loop-i.i r inside item (volume_of c.args.sup.now (contents m)) c.visit_lead.new.claims xs
          (c.in-Ok.ensures.claimed m (xs ++ blocks_of_leads (volume_of c.args.sup.now (contents m)) (take c.loop-i.i leads)) (c.loop-i.invariant.told ∙ told) (c.loop-i.invariant.claimed m xs told a));
    }

pub visit_lead-requires-clause-lead : goal.visit_lead-requires-clause-lead
visit_lead-requires-clause-lead g c =
    let r : NodeLead = c.index-leads-i.result in
    let item : r ≡ get_or c.args.leads.now c.loop-i.i r = search rules in
    names_block c.args.leads.now c.loop-i.i r c.loop-i-test.true item (natural c.args.sup.now.num_blocks) c.requires.inside

pub visit_lead-requires-clause-facts : goal.visit_lead-requires-clause-facts
visit_lead-requires-clause-facts g c m told =
    let r : NodeLead = c.index-leads-i.result in
    let item : r ≡ get_or c.args.leads.now c.loop-i.i r = search rules in
    let f : NodeFacts = c.facts_at-one.result in
    fact_at (volume_of c.args.sup.now (contents m)) c.args.leads.now c.args.facts.now c.loop-i.i r f c.loop-i-test.true item (c.facts_at-one.ensures f) (c.requires.facts m (sym c.loop-i.invariant.told ∙ told))

pub visit_lead-requires-clause-all : goal.visit_lead-requires-clause-all
visit_lead-requires-clause-all g c m told = c.requires.all m (sym c.loop-i.invariant.told ∙ told)

pub tell_owner-requires-clause-before : goal.tell_owner-requires-clause-before
tell_owner-requires-clause-before g c = inside_before (natural c.args.sup.now.num_blocks) c.args.leads.now c.loop-i.i c.requires.inside

pub tell_owner-requires-clause-all : goal.tell_owner-requires-clause-all
tell_owner-requires-clause-all g c m told = c.requires.all m (sym c.loop-i.invariant.told ∙ sym c.in-Err.ensures.told ∙ told)

pub tell_owner-requires-clause-have : goal.tell_owner-requires-clause-have
tell_owner-requires-clause-have g c m told = (c.requires.have m (sym c.loop-i.invariant.told ∙ sym c.in-Err.ensures.told ∙ told)).directory

pub tell_owner-requires-clause-those : goal.tell_owner-requires-clause-those
tell_owner-requires-clause-those g c m told =
    directories (volume_of c.args.sup.now (contents m)) (take c.loop-i.i c.args.leads.now) (c.loop-i.invariant.right m (sym c.loop-i.invariant.told ∙ sym c.in-Err.ensures.told ∙ told))

pub returns-in-Err-clause-wrong : goal.returns-in-Err-clause-wrong
returns-in-Err-clause-wrong g c m xs claims w told a =
    let v : Volume = volume_of c.args.sup.now (contents m) in
    let leads : List NodeLead = c.args.leads.now in
    let r : NodeLead = c.index-leads-i.result in
    let item : r ≡ get_or leads c.loop-i.i r = search rules in
    let inside : c.loop-i.i < length leads = c.loop-i-test.true in
    let on = c.loop-i.invariant.told ∙ told in
    let first : List ℕ = (xs ++ blocks_of_visits v (w.top ∷ w.visits)) ++ attribute_blocks v c.args.root in
    let before : List ℕ = first ++ blocks_of_leads v (take c.loop-i.i leads) in
    let claimed : AreClaimed c.loop-i.claims before = c.loop-i.invariant.claimed m first told a in
    c.tell_owner.ensures.wrong m xs claims w r (drop (c.loop-i.i + 1) leads) before (c.in-Err.ensures.told ∙ on) (parts leads c.loop-i.i r inside item) (c.in-Err.ensures.taken m before on claimed)
    (c.in-Err.ensures.wrong m on (row_is_reached v xs claims leads w c.args.root c.requires.root r (there leads c.loop-i.i r inside item)))

pub returns-in-Err-clause-taken : goal.returns-in-Err-clause-taken
returns-in-Err-clause-taken g c m xs claims w told a =
    let v : Volume = volume_of c.args.sup.now (contents m) in
    let leads : List NodeLead = c.args.leads.now in
    let r : NodeLead = c.index-leads-i.result in
    let item : r ≡ get_or leads c.loop-i.i r = search rules in
    let inside : c.loop-i.i < length leads = c.loop-i-test.true in
    let on = c.loop-i.invariant.told ∙ told in
    let first : List ℕ = (xs ++ blocks_of_visits v (w.top ∷ w.visits)) ++ attribute_blocks v c.args.root in
    let before : List ℕ = first ++ blocks_of_leads v (take c.loop-i.i leads) in
    c.tell_owner.ensures.taken m xs claims w r (drop (c.loop-i.i + 1) leads) (c.in-Err.ensures.told ∙ on) (parts leads c.loop-i.i r inside item)
    (c.in-Err.ensures.taken m before on (c.loop-i.invariant.claimed m first told a))

pub returns-in-Err-clause-cause : goal.returns-in-Err-clause-cause
returns-in-Err-clause-cause g c =
    let old : Counts = g.B.Blocks.counts c.args.under.now in
    c.tell_owner.ensures.cause old (later-twice c.loop-i.invariant.later c.in-Err.ensures.later)
    (cause_earlier old (g.B.Blocks.counts c.loop-i.under) (g.B.Blocks.counts c.visit_lead.new.under) c.in-Err.fault c.loop-i.invariant.later c.in-Err.ensures.cause)

pub returns-clause-right : goal.returns-clause-right
returns-clause-right g c m told =
    let past : length c.args.leads.now ≤ c.loop-i.i = omega arith in
    have_all (volume_of c.args.sup.now (contents m)) c.args.leads.now c.loop-i.i past (c.loop-i.invariant.right m told)

pub returns-clause-claimed : goal.returns-clause-claimed
returns-clause-claimed g c m xs told a =
    let past : length c.args.leads.now ≤ c.loop-i.i = omega arith in
    claimed_all (volume_of c.args.sup.now (contents m)) c.args.leads.now c.loop-i.i past c.loop-i.claims xs (c.loop-i.invariant.claimed m xs told a)
