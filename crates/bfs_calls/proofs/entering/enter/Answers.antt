use Rattle.std.proofs.Common.{rules, ◌≡◌, [], ℤ, ℕ, List, Option, pos, ap, sym, subst}
use mir.Syntax.{w64}
use mir.Val.{to_z, of_z}
use Rattle.bfs_base.specs.declared.kind.KeyKind.TheVariants.{Text}
use Rattle.bfs_super.specs.Geometry.{geometry_of}
use Rattle.bfs_pages.specs.Maps.{put}
use Rattle.bfs_shift.specs.Lists.{with_rows}
use Rattle.bfs_shift.specs.Work.{IsStepped}
use Rattle.bfs_calls.specs.Made.{IsFor, IsNamed, with_new, with_touched}
use Rattle.bfs_calls.proofs.Newborn.{named_now, entered}
use Rattle.bfs_look.proofs.Telling.{told_back, one_map}
use Rattle.bfs_calls.proofs.entering.enter.Goals as goal

pub enter_name-requires-clause-born : goal.enter_name-requires-clause-born
enter_name-requires-clause-born g c m told =
    let h = c.requires.born m told in
    record { tree = h.tree; lists = h.lists; begun = h.begun; d = h.d; node = h.node; born = h.born; name_is = h.is_for.name_is }

pub returns-in-Err-clause-unanswered : goal.returns-in-Err-clause-unanswered
returns-in-Err-clause-unanswered g c m tree lists begun d node told born is_for built = c.in-Err.ensures.unanswered m tree lists begun d node told born is_for.name_is

pub enter_indices-requires-clause-named : goal.enter_indices-requires-clause-named
enter_indices-requires-clause-named g c n told =
    let before =
    told_back (g.E.Blocks.told c.args.edits.now) (g.E.Blocks.told c.enter_name.new.edits) (g.E.Blocks.frame c.args.edits.now).below (g.E.Blocks.frame c.enter_name.new.edits).below
    (g.met.E.Edits.tells c.args.edits.now) (g.met.E.Edits.tells c.enter_name.new.edits) (ap (λ f. f.below) c.in-Ok.ensures.frame) n told in
    let m = before.0 in
    let h = c.requires.born m before.1 in
    let s = geometry_of c.args.sup.now in
    let rows = with_rows h.begun c.args.dir (put Text (h.begun.rows c.args.dir) c.args.name.now (pos c.args.id)) in
    let since = with_touched (with_new h.tree c.args.id h.node) c.args.dir h.d c.args.stamp in
    let e : to_z w64 (of_z w64 c.args.stamp) ≡ c.args.stamp = search rules in
    let one : IsStepped s c.args.bitmap.now c.enter_name.new.bitmap m (with_new h.tree c.args.id h.node) (with_touched (with_new h.tree c.args.id h.node) c.args.dir h.d c.args.stamp) rows [] (g.E.Blocks.told c.enter_name.new.edits) (g.E.Blocks.changed c.args.edits.now) (g.E.Blocks.changed c.enter_name.new.edits) =
    subst (λ (z : ℤ). IsStepped s c.args.bitmap.now c.enter_name.new.bitmap m (with_new h.tree c.args.id h.node) (with_touched (with_new h.tree c.args.id h.node) c.args.dir h.d z) rows [] (g.E.Blocks.told c.enter_name.new.edits) (g.E.Blocks.changed c.args.edits.now) (g.E.Blocks.changed c.enter_name.new.edits)) e (c.in-Ok.ensures.named m h.tree h.lists h.begun h.d h.node before.1 h.born h.is_for.name_is) in
    let named =
    named_now s c.args.bitmap.now c.enter_name.new.bitmap c.enter_name.new.bitmap m h.tree h.lists h.begun c.args.dir h.d c.args.id h.node c.args.stamp c.args.name.now
    (g.E.Blocks.told c.enter_name.new.edits) (g.E.Blocks.told c.enter_name.new.edits) (g.E.Blocks.changed c.args.edits.now) (g.E.Blocks.changed c.enter_name.new.edits) (g.E.Blocks.changed c.enter_name.new.edits) h.born h.is_for.name_is one in
    record {
      tree = h.tree;
      since = since;
      lists = h.lists;
      begun = rows;
      node = h.node;
      named = subst (λ (k : ℕ → Option (List ℕ)). IsNamed s c.enter_name.new.bitmap k h.tree since h.lists rows c.args.id) (one_map (g.E.Blocks.told c.enter_name.new.edits) one.map n one.is told) named;
      is_for = subst (λ (z : ℤ). IsFor h.tree c.args.id h.node c.args.kind c.args.name.now z) (sym e) h.is_for;
      built_in = h.built_in;
    }

pub returns-in-Ok-enter_indices-clause-entered : goal.returns-in-Ok-enter_indices-clause-entered
returns-in-Ok-enter_indices-clause-entered g c m tree lists begun d node told born is_for built =
    let s = geometry_of c.args.sup.now in
    let rows = with_rows begun c.args.dir (put Text (begun.rows c.args.dir) c.args.name.now (pos c.args.id)) in
    let since = with_touched (with_new tree c.args.id node) c.args.dir d c.args.stamp in
    let e : to_z w64 (of_z w64 c.args.stamp) ≡ c.args.stamp = search rules in
    let one : IsStepped s c.args.bitmap.now c.enter_name.new.bitmap m (with_new tree c.args.id node) (with_touched (with_new tree c.args.id node) c.args.dir d c.args.stamp) rows [] (g.E.Blocks.told c.enter_name.new.edits) (g.E.Blocks.changed c.args.edits.now) (g.E.Blocks.changed c.enter_name.new.edits) =
    subst (λ (z : ℤ). IsStepped s c.args.bitmap.now c.enter_name.new.bitmap m (with_new tree c.args.id node) (with_touched (with_new tree c.args.id node) c.args.dir d z) rows [] (g.E.Blocks.told c.enter_name.new.edits) (g.E.Blocks.changed c.args.edits.now) (g.E.Blocks.changed c.enter_name.new.edits)) e (c.in-Ok.ensures.named m tree lists begun d node told born is_for.name_is) in
    let for_key = subst (λ (z : ℤ). IsFor tree c.args.id node c.args.kind c.args.name.now z) (sym e) is_for in
    let named =
    named_now s c.args.bitmap.now c.enter_name.new.bitmap c.enter_indices.new.bitmap m tree lists begun c.args.dir d c.args.id node c.args.stamp c.args.name.now
    (g.E.Blocks.told c.enter_name.new.edits) (g.E.Blocks.told c.enter_indices.new.edits) (g.E.Blocks.changed c.args.edits.now) (g.E.Blocks.changed c.enter_name.new.edits) (g.E.Blocks.changed c.enter_indices.new.edits) born is_for.name_is one in
    let two = c.in-Ok-enter_indices.ensures.listed one.map tree since lists rows node one.is named for_key built in
    entered s c.args.bitmap.now c.enter_name.new.bitmap c.enter_indices.new.bitmap m tree lists begun c.args.dir d c.args.id node c.args.stamp c.args.name.now
    (g.E.Blocks.told c.enter_name.new.edits) (g.E.Blocks.told c.enter_indices.new.edits) (g.E.Blocks.changed c.args.edits.now) (g.E.Blocks.changed c.enter_name.new.edits) (g.E.Blocks.changed c.enter_indices.new.edits) born is_for.name_is one two.last two.step two.lists_node

pub returns-in-Err-enter_indices-clause-unanswered : goal.returns-in-Err-enter_indices-clause-unanswered
returns-in-Err-enter_indices-clause-unanswered g c m tree lists begun d node told born is_for built =
    let s = geometry_of c.args.sup.now in
    let rows = with_rows begun c.args.dir (put Text (begun.rows c.args.dir) c.args.name.now (pos c.args.id)) in
    let since = with_touched (with_new tree c.args.id node) c.args.dir d c.args.stamp in
    let e : to_z w64 (of_z w64 c.args.stamp) ≡ c.args.stamp = search rules in
    let one : IsStepped s c.args.bitmap.now c.enter_name.new.bitmap m (with_new tree c.args.id node) (with_touched (with_new tree c.args.id node) c.args.dir d c.args.stamp) rows [] (g.E.Blocks.told c.enter_name.new.edits) (g.E.Blocks.changed c.args.edits.now) (g.E.Blocks.changed c.enter_name.new.edits) =
    subst (λ (z : ℤ). IsStepped s c.args.bitmap.now c.enter_name.new.bitmap m (with_new tree c.args.id node) (with_touched (with_new tree c.args.id node) c.args.dir d z) rows [] (g.E.Blocks.told c.enter_name.new.edits) (g.E.Blocks.changed c.args.edits.now) (g.E.Blocks.changed c.enter_name.new.edits)) e (c.in-Ok.ensures.named m tree lists begun d node told born is_for.name_is) in
    let for_key = subst (λ (z : ℤ). IsFor tree c.args.id node c.args.kind c.args.name.now z) (sym e) is_for in
    let named =
    named_now s c.args.bitmap.now c.enter_name.new.bitmap c.enter_indices.new.bitmap m tree lists begun c.args.dir d c.args.id node c.args.stamp c.args.name.now
    (g.E.Blocks.told c.enter_name.new.edits) (g.E.Blocks.told c.enter_indices.new.edits) (g.E.Blocks.changed c.args.edits.now) (g.E.Blocks.changed c.enter_name.new.edits) (g.E.Blocks.changed c.enter_indices.new.edits) born is_for.name_is one in
    c.in-Err-enter_indices.ensures.unanswered one.map tree since lists rows node one.is named for_key built
