use Rattle.std.proofs.Common.{◌∙◌, ◌∷◌, ◌++◌, sym}
use Rattle.bfs_stream.specs.Told.{contents}
use Rattle.bfs_sound.specs.Volumes.{Volume}
use Rattle.bfs_sound.specs.Whole.{volume_of}
use Rattle.bfs_nodes_walk.specs.Walks.{blocks_of_visits}
use Rattle.bfs_attrs_walk.specs.Passes.{attribute_blocks}
use Rattle.bfs_attrs_walk.proofs.Passing.{whole, top_reached}
use Rattle.bfs_attrs_walk.proofs.pass.visit_all.Goals as goal

pub visit_leads-requires-clause-all : goal.visit_leads-requires-clause-all
visit_leads-requires-clause-all g c m told = c.requires.all m (sym c.in-Ok.ensures.told ∙ told)

pub visit_leads-requires-clause-have : goal.visit_leads-requires-clause-have
visit_leads-requires-clause-have g c m told = c.in-Ok.ensures.right m (sym c.in-Ok.ensures.told ∙ told)

pub visit_leads-requires-clause-facts : goal.visit_leads-requires-clause-facts
visit_leads-requires-clause-facts g c m told = c.requires.facts m (sym c.in-Ok.ensures.told ∙ told)

pub tell_root-requires-clause-all : goal.tell_root-requires-clause-all
tell_root-requires-clause-all g c m told = c.requires.all m (sym c.in-Err.ensures.told ∙ told)

pub returns-in-Err-clause-wrong : goal.returns-in-Err-clause-wrong
returns-in-Err-clause-wrong g c m xs told w =
    let v : Volume = volume_of c.args.sup.now (contents m) in
    let before = xs ++ blocks_of_visits v (w.top ∷ w.visits) in
    c.tell_root.ensures.wrong m xs c.args.claims.now w before (c.in-Err.ensures.told ∙ told) (c.in-Err.ensures.taken m before told w.claimed)
    (c.in-Err.ensures.wrong m told (top_reached v xs c.args.claims.now c.args.leads.now w c.args.root c.requires.root))

pub returns-in-Err-clause-taken : goal.returns-in-Err-clause-taken
returns-in-Err-clause-taken g c m xs told w =
    let v : Volume = volume_of c.args.sup.now (contents m) in
    c.tell_root.ensures.taken m xs c.args.claims.now w (c.in-Err.ensures.told ∙ told) (c.in-Err.ensures.taken m (xs ++ blocks_of_visits v (w.top ∷ w.visits)) told w.claimed)

pub returns-in-Err-clause-cause : goal.returns-in-Err-clause-cause
returns-in-Err-clause-cause g c = c.tell_root.ensures.cause (g.B.Blocks.counts c.args.under.now) c.in-Err.ensures.later c.in-Err.ensures.cause

pub returns-in-Ok-visit_leads-clause-whole : goal.returns-in-Ok-visit_leads-clause-whole
returns-in-Ok-visit_leads-clause-whole g c m xs told w =
    let v : Volume = volume_of c.args.sup.now (contents m) in
    let on = c.in-Ok.ensures.told ∙ told in
    whole v xs c.args.claims.now c.args.leads.now w c.args.root c.requires.root c.visit_leads.new.claims (c.in-Ok.ensures.right m told) (c.in-Ok-visit_leads.ensures.right m on)
    (c.in-Ok-visit_leads.ensures.claimed m ((xs ++ blocks_of_visits v (w.top ∷ w.visits)) ++ attribute_blocks v c.args.root) on (c.in-Ok.ensures.claimed m (xs ++ blocks_of_visits v (w.top ∷ w.visits)) told w.claimed))

pub returns-in-Err-visit_leads-clause-wrong : goal.returns-in-Err-visit_leads-clause-wrong
returns-in-Err-visit_leads-clause-wrong g c m xs told w =
    let v : Volume = volume_of c.args.sup.now (contents m) in
    c.in-Err-visit_leads.ensures.wrong m xs c.args.claims.now w (c.in-Ok.ensures.told ∙ told) (c.in-Ok.ensures.claimed m (xs ++ blocks_of_visits v (w.top ∷ w.visits)) told w.claimed)

pub returns-in-Err-visit_leads-clause-taken : goal.returns-in-Err-visit_leads-clause-taken
returns-in-Err-visit_leads-clause-taken g c m xs told w =
    let v : Volume = volume_of c.args.sup.now (contents m) in
    c.in-Err-visit_leads.ensures.taken m xs c.args.claims.now w (c.in-Ok.ensures.told ∙ told) (c.in-Ok.ensures.claimed m (xs ++ blocks_of_visits v (w.top ∷ w.visits)) told w.claimed)
