use Rattle.std.proofs.Common.{◌≡◌, ◌∙◌, ◌+◌, ◌∷◌, inl, refl, sym, ap, subst, drop}
use Rattle.std.proofs.lemmas.List.{drop_more, drop_all}
use Rattle.bfs_super.specs.Conditions.{natural}
use Rattle.bfs_super.specs.Geometry.{geometry_of}
use Rattle.bfs_bitmap.specs.Runs.{Room}
use Rattle.bfs_stream.specs.Grown.{IsOfVolume}
use Rattle.bfs_stream.specs.Sizes.{sizes_of}
use Rattle.bfs_stream.proofs.Arrays.{later_twice}
use Rattle.bfs_stream.proofs.Writes.{later_none}
use Rattle.bfs_attr.specs.declared.directory.InodeRow.{InodeRow}
use Rattle.bfs_unlist.proofs.Far.{far_none, far_unlisting, far_split, far_at, far_more, far_ends, changed_again}
use Rattle.bfs_make.proofs.Telling.{told_back}
use Rattle.bfs_unlist.proofs.unlisting.unlist_from_all.Goals as goal

pub loop-row-init : goal.loop-row-init
loop-row-init g c = record {
  size = refl;
  frame = refl;
  rest = refl;
  volume = c.requires.volume;
  later = later_none (g.E.Blocks.counts c.args.edits.now);
  stays = λ k t. t;
  changed = λ k t. inl t;
  far = λ m tree lists now told u. far_none (geometry_of c.args.site.sup) c.args.bitmap.now m tree lists now c.args.id c.args.info.now c.args.rows.now (g.E.Blocks.told c.args.edits.now) (g.E.Blocks.changed c.args.edits.now) told u;
}

pub unlist_from-requires-clause-node : goal.unlist_from-requires-clause-node
unlist_from-requires-clause-node g c n told =
    let i = c.loop-row.row-index in
    let rows = c.args.rows.now in
    let split : drop i rows ≡ c.row-item.result ∷ drop (i + 1) rows = drop_more rows i c.row-item.result c.loop-row-test.true ∙ ap (λ (x : InodeRow). x ∷ drop (i + 1) rows) (sym c.row-item.is) in
    let before =
    told_back (g.E.Blocks.told c.args.edits.now) (g.E.Blocks.told c.loop-row.edits) (g.E.Blocks.frame c.args.edits.now).below (g.E.Blocks.frame c.loop-row.edits).below
    (g.met.E.Edits.tells c.args.edits.now) (g.met.E.Edits.tells c.loop-row.edits) (ap (λ f. f.below) c.loop-row.invariant.frame) n told in
    let s = geometry_of c.args.site.sup in
    let v = c.args.bitmap.now in
    let now = c.loop-row.bitmap in
    let id = c.args.id in
    let info = c.args.info.now in
    let here = g.E.Blocks.told c.loop-row.edits in
    let old = g.E.Blocks.changed c.args.edits.now in
    let new = g.E.Blocks.changed c.loop-row.edits in
    let h = c.requires.node before.0 before.1 in
    let far = c.loop-row.invariant.far before.0 h.tree h.lists h.now before.1 h.unlisting in
    far_at s v now before.0 h.tree h.lists id info here old new c.row-item.result (drop (i + 1) rows)
    (far_split s v now before.0 h.tree h.lists id info here old new (drop i rows) c.row-item.result (drop (i + 1) rows) split far) n told

pub loop-row-preserved : goal.loop-row-preserved
loop-row-preserved g c =
    let i = c.loop-row.row-index in
    let rows = c.args.rows.now in
    let split : drop i rows ≡ c.row-item.result ∷ drop (i + 1) rows = drop_more rows i c.row-item.result c.loop-row-test.true ∙ ap (λ (x : InodeRow). x ∷ drop (i + 1) rows) (sym c.row-item.is) in
    let s = c.args.site.sup in
    let v = c.args.bitmap.now in
    let now = c.loop-row.bitmap in
    let later = c.unlist_from.new.bitmap in
    let old = g.E.Blocks.changed c.args.edits.now in
    let mid = g.E.Blocks.changed c.loop-row.edits in
    let new = g.E.Blocks.changed c.unlist_from.new.edits in
    let rest : later ≡ record v { tally = later.tally } = c.in-Ok.ensures.rest ∙ ap (λ (x : Room). record x { tally = later.tally }) c.loop-row.invariant.rest in
    record {
      size = c.in-Ok.ensures.size ∙ c.loop-row.invariant.size;
      frame = c.in-Ok.ensures.frame ∙ c.loop-row.invariant.frame;
      rest = rest;
      volume = subst (IsOfVolume (sizes_of s)) (sym rest) (record { block_size = c.requires.volume.block_size; blocks = c.requires.volume.blocks; group_blocks = c.requires.volume.group_blocks });
      later = later_twice (g.E.Blocks.counts c.args.edits.now) (g.E.Blocks.counts c.loop-row.edits) (g.E.Blocks.counts c.unlist_from.new.edits) c.loop-row.invariant.later c.in-Ok.ensures.later;
      stays = λ k t. c.in-Ok.ensures.stays k (c.loop-row.invariant.stays k t);
      changed = changed_again v now (natural s.num_blocks) old mid new c.loop-row.invariant.rest c.loop-row.invariant.changed c.in-Ok.ensures.changed;
      far = λ m tree lists begun told u.
          let room = geometry_of s in
          let id = c.args.id in
          let info = c.args.info.now in
          let here = g.E.Blocks.told c.loop-row.edits in
          let item = c.row-item.result in
          let more = drop (i + 1) rows in
          let far = far_split room v now m tree lists id info here old mid (drop i rows) item more split (c.loop-row.invariant.far m tree lists begun told u) in
          far_more room v now m tree lists id info here old mid later item more (g.E.Blocks.told c.unlist_from.new.edits) new far
          (c.in-Ok.ensures.unlisted far.step.map tree lists far.last more far.step.is (far_unlisting room v now m tree lists id info here old mid (item ∷ more) far));
    }

pub returns-in-Err-clause-refused : goal.returns-in-Err-clause-refused
returns-in-Err-clause-refused g c m tree lists begun told u =
    let i = c.loop-row.row-index in
    let rows = c.args.rows.now in
    let split : drop i rows ≡ c.row-item.result ∷ drop (i + 1) rows = drop_more rows i c.row-item.result c.loop-row-test.true ∙ ap (λ (x : InodeRow). x ∷ drop (i + 1) rows) (sym c.row-item.is) in
    let room = geometry_of c.args.site.sup in
    let v = c.args.bitmap.now in
    let now = c.loop-row.bitmap in
    let id = c.args.id in
    let info = c.args.info.now in
    let here = g.E.Blocks.told c.loop-row.edits in
    let old = g.E.Blocks.changed c.args.edits.now in
    let mid = g.E.Blocks.changed c.loop-row.edits in
    let item = c.row-item.result in
    let more = drop (i + 1) rows in
    let far = far_split room v now m tree lists id info here old mid (drop i rows) item more split (c.loop-row.invariant.far m tree lists begun told u) in
    c.in-Err.ensures.refused far.step.map tree lists far.last more far.step.is (far_unlisting room v now m tree lists id info here old mid (item ∷ more) far)

pub returns-clause-unlisted : goal.returns-clause-unlisted
returns-clause-unlisted g c m tree lists begun told u =
    far_ends (geometry_of c.args.site.sup) c.args.bitmap.now c.loop-row.bitmap m tree lists c.args.id c.args.info.now (g.E.Blocks.told c.loop-row.edits) (g.E.Blocks.changed c.args.edits.now) (g.E.Blocks.changed c.loop-row.edits)
    (drop c.loop-row.row-index c.args.rows.now) (drop_all c.loop-row.row-index c.args.rows.now c.loop-row-test.false) (c.loop-row.invariant.far m tree lists begun told u)
