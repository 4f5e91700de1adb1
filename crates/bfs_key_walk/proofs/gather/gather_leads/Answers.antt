use Rattle.std.proofs.Common.{rules, ◌≡◌, ◌≤◌, ◌∙◌, List, length, get_or, Option, None, refl, sym, ap, arith, append-nil}
use Rattle.bfs_stream.specs.Told.{contents}
use Rattle.bfs_pages.proofs.Later.{later-twice}
use Rattle.bfs_sound.specs.Volumes.{Volume}
use Rattle.bfs_sound.specs.Whole.{volume_of}
use Rattle.bfs_nodes_walk.specs.declared.lead.NodeLead.{NodeLead}
use Rattle.bfs_index_check.specs.Compared.{pairs_of}
use Rattle.bfs_nodes_walk.specs.declared.facts.FileKeys.{FileKeys}
use Rattle.bfs_key_walk.proofs.Filed.{keys_here}
use Rattle.bfs_key_walk.proofs.Gathers.{one_at, as_many, gathered_next, gathered_all}
use Rattle.bfs_key_walk.proofs.gather.gather_leads.Goals as goal

pub loop-i-init : goal.loop-i-init
loop-i-init g c = record {
  told = refl;
  changed = refl;
  pairs = refl;
  size = refl;
  frame = refl;
  later = record { faults = omega arith; stops = refl; stop = refl };
  gathered = λ m root es told are keys. sym (append-nil (pairs_of c.args.pairs.now.items));
}

pub loop-i-preserved : goal.loop-i-preserved
loop-i-preserved g c =
    let l : NodeLead = c.index-leads-i.result in
    let item : l ≡ get_or c.args.leads.now c.loop-i.i l = search rules in record {
      told = c.in-Ok.ensures.told ∙ c.loop-i.invariant.told;
      changed = c.in-Ok.ensures.changed ∙ c.loop-i.invariant.changed;
      pairs = c.in-Ok.ensures.pairs ∙ c.loop-i.invariant.pairs;
      size = c.in-Ok.ensures.size ∙ c.loop-i.invariant.size;
      frame = c.in-Ok.ensures.frame ∙ c.loop-i.invariant.frame;
      later = later-twice c.loop-i.invariant.later c.in-Ok.ensures.later;
      gathered = λ m root es told are keys.
          let v : Volume = volume_of c.args.sup.now (contents m) in
          let one = one_at v root c.args.leads.now es c.loop-i.i l are c.loop-i-test.true item in
          gathered_next root c.args.index.now c.args.kind v l es c.loop-i.i one (pairs_of c.args.pairs.now.items) (pairs_of c.loop-i.pairs.items) (pairs_of c.gather_lead.new.pairs.items) (c.loop-i.invariant.gathered m root es told are keys)
          (c.in-Ok.ensures.gathered m root one.visit (c.loop-i.invariant.told ∙ told) one.is
          (c.keys_at-one.ensures ∙ ap (λ (ks : List (Option FileKeys)). get_or ks c.loop-i.i None) keys ∙ keys_here es c.loop-i.i one.visit one.inside one.item));
    }

pub gather_lead-requires-clause-size : goal.gather_lead-requires-clause-size
gather_lead-requires-clause-size g c = c.loop-i.invariant.size ∙ c.requires.size

pub gather_lead-requires-clause-all : goal.gather_lead-requires-clause-all
gather_lead-requires-clause-all g c m told = c.requires.all m (sym c.loop-i.invariant.told ∙ told)

pub gather_lead-requires-clause-known : goal.gather_lead-requires-clause-known
gather_lead-requires-clause-known g c m told =
    let l : NodeLead = c.index-leads-i.result in
    let item : l ≡ get_or c.args.leads.now c.loop-i.i l = search rules in
    let k = c.requires.known m (sym c.loop-i.invariant.told ∙ told) in
    let one = one_at (volume_of c.args.sup.now (contents m)) k.0 c.args.leads.now k.1 c.loop-i.i l k.2 c.loop-i-test.true item in
    (k.0, one.visit, one.is)

pub returns-in-Err-clause-unread : goal.returns-in-Err-clause-unread
returns-in-Err-clause-unread g c m root es told are =
    let l : NodeLead = c.index-leads-i.result in
    let item : l ≡ get_or c.args.leads.now c.loop-i.i l = search rules in
    let one = one_at (volume_of c.args.sup.now (contents m)) root c.args.leads.now es c.loop-i.i l are c.loop-i-test.true item in
    c.in-Err.ensures.unread m root one.visit (c.loop-i.invariant.told ∙ told) one.is

pub returns-clause-gathered : goal.returns-clause-gathered
returns-clause-gathered g c m root es told are keys =
    let past : length c.args.leads.now ≤ c.loop-i.i = omega arith in
    let many = as_many (volume_of c.args.sup.now (contents m)) root c.args.leads.now es are in
    gathered_all root c.args.index.now c.args.kind es c.loop-i.i (pairs_of c.args.pairs.now.items) (pairs_of c.loop-i.pairs.items) (omega (arith, past, many)) (c.loop-i.invariant.gathered m root es told are keys)
