use Rattle.std.proofs.Common.{◌∙◌, slice_index_or, subst}
use Rattle.bfs_stream.specs.Told.{contents}
use Rattle.bfs_pages.proofs.Later.{later-twice}
use Rattle.bfs_sound.specs.Whole.{volume_of}
use Rattle.bfs_node_check.specs.declared.role.Role.{Role}
use Rattle.bfs_inode_walk.specs.Visited.{IsHad}
use Rattle.bfs_owner.specs.Owned.{IsPlaced, blocks_at}
use Rattle.bfs_owner.specs.declared.place.Place.{Place}
use Rattle.bfs_owner.proofs.Finding.{in_places, of_all, none_next}
use Rattle.bfs_owner.proofs.search.find_owner.Goals as goal

abbrev no_place : Place
no_place = record { id = 0; role = Role.Root }

pub returns-in-Err-clause-wrong : goal.returns-in-Err-clause-wrong
returns-in-Err-clause-wrong g c m told placed =
    let v = volume_of c.args.sup.now (contents m) in
    let w = of_all c.args.places.now c.loop-i.i no_place c.loop-i-test.true (IsPlaced v) placed in
    c.in-Err.ensures.wrong m w.0 (c.loop-i.invariant.told ∙ told) w.1 w.2

pub returns-then-there-clause-found : goal.returns-then-there-clause-found
returns-then-there-clause-found g c m told =
    let v = volume_of c.args.sup.now (contents m) in
    let places = c.args.places.now in
    let i = c.loop-i.i in
    let p : Place = slice_index_or places i no_place in (
      in_places places i no_place c.loop-i-test.true,
      subst (IsHad (blocks_at v p) c.args.block) c.if-there.true (c.in-Ok.ensures.had m (c.loop-i.invariant.told ∙ told)),
    )

pub loop-i-preserved : goal.loop-i-preserved
loop-i-preserved g c = record {
  told = c.in-Ok.ensures.told ∙ c.loop-i.invariant.told;
  changed = c.in-Ok.ensures.changed ∙ c.loop-i.invariant.changed;
  pairs = c.in-Ok.ensures.pairs ∙ c.loop-i.invariant.pairs;
  size = c.in-Ok.ensures.size ∙ c.loop-i.invariant.size;
  frame = c.in-Ok.ensures.frame ∙ c.loop-i.invariant.frame;
  later = later-twice c.loop-i.invariant.later c.in-Ok.ensures.later;
  none = λ m told.
      let v = volume_of c.args.sup.now (contents m) in
      let places = c.args.places.now in
      let i = c.loop-i.i in
      let p : Place = slice_index_or places i no_place in
      none_next places i no_place c.loop-i-test.true v c.args.block (c.loop-i.invariant.none m told)
      (subst (IsHad (blocks_at v p) c.args.block) c.if-there.false (c.in-Ok.ensures.had m (c.loop-i.invariant.told ∙ told)));
}
