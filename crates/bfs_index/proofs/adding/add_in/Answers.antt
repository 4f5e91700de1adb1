use Rattle.std.proofs.Common.{rules, ◌≡◌, ◌∙◌, List, sym, ap, subst, w64, to_z, of_z}
use Rattle.bfs_insert.specs.Puts.{IsNotPut, IsHindered}
use Rattle.bfs_node.specs.Page.{Row}
use Rattle.bfs_pages.specs.Maps.{assoc}
use Rattle.bfs_values.specs.Links.{link_in}
use Rattle.bfs_values.proofs.Rows.{rows_those}
use Rattle.bfs_index.proofs.Pairing.{put_with}
use Rattle.bfs_index.proofs.Refusing.{unput_lacking, hindered_unpaired}
use Rattle.bfs_index.proofs.Told.{told_pages}
use Rattle.bfs_index.proofs.adding.add_in.Goals as goal

pub returns-in-Ok-clause-added : goal.returns-in-Ok-clause-added
returns-in-Ok-clause-added g c b told d =
    let signed : to_z w64 (of_z w64 c.number_value.result) ≡ c.number_value.result = search rules in
    let x = c.in-Ok.ensures.put b d.reached d.shape d.free told d.tree in
    let absent = c.in-Ok.ensures.absent b d.reached d.shape d.free told d.tree in (
      x.0,
      x.1,
      put_with c.args.kind b x.0 c.args.key.now c.args.id (to_z w64 (of_z w64 c.number_value.result)) (ap link_in signed ∙ c.number_value.ensures) d
          (told_pages (g.P.Pages.told c.insert.new.pages) (g.P.Pages.size c.insert.new.pages) x.0 (g.met.P.Pages.sized c.insert.new.pages) (g.met.P.Pages.whole c.insert.new.pages) x.1) x.2 x.3 absent,
    )

pub returns-in-Exists-clause-added : goal.returns-in-Exists-clause-added
returns-in-Exists-clause-added g c b told d =
    let there = subst (λ f. IsNotPut c.args.kind d.shape c.args.key.now (g.P.Pages.told c.insert.new.pages) f) c.in-Exists.is (c.in-Err.ensures.put b d.reached d.shape d.free told d.tree) in
    let same = subst (λ f. IsHindered c.args.kind (g.P.Pages.told c.args.pages.now) (g.P.Pages.told c.insert.new.pages) (g.P.Pages.is_cause c.args.pages.now c.insert.new.pages) f) c.in-Exists.is c.in-Err.ensures.refused in
    c.add_there.ensures.added b there.0 (same ∙ told) d (ap (λ (l : List Row). assoc c.args.kind l c.args.key.now) (sym (rows_those c.args.kind b d.reached d.shape d.free d.tree)) ∙ there.1)

pub returns-in_default : goal.returns-in_default
returns-in_default g c = record {
  added = λ b told d. unput_lacking c.args.kind d.shape c.args.key.now (g.P.Pages.told c.insert.new.pages) c.in-Err.fault c.in_default.not-Exists (c.in-Err.ensures.put b d.reached d.shape d.free told d.tree);
  refused = hindered_unpaired c.args.kind c.args.key.now (g.P.Pages.told c.args.pages.now) (g.P.Pages.told c.insert.new.pages) (g.P.Pages.is_cause c.args.pages.now c.insert.new.pages) c.in-Err.fault c.in_default.not-Exists c.in-Err.ensures.refused;
  kept = c.in-Err.ensures.kept;
}
