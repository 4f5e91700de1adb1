use Rattle.std.proofs.Common.{◌≡◌, ◌∙◌, ◌≤◌, ◌*◌, [], ℕ, List, Bool, refl, sym, ap, subst, arith}
use Rattle.std.specs.Prelude.{OnOk}
use Rattle.bfs_super.specs.Conditions.{natural}
use Rattle.bfs_stream.specs.Grown.{Owns}
use Rattle.bfs_stream.specs.Places.{fields}
use Rattle.bfs_stream.specs.Sizes.{Origin}
use Rattle.bfs_stream.specs.Told.{contents}
use Rattle.bfs_make.specs.Given.{HasStripped}
use Rattle.bfs_make.specs.Sites.{stream_in}
use Rattle.bfs_make.proofs.Stripping.{stripped, on_ok}
use Rattle.bfs_make.proofs.giving.strip.Goals as goal

pub returns-clause-stripped : goal.returns-clause-stripped
returns-clause-stripped g c m is owns size =
    let o : Origin = stream_in c.args.site c.args.id in
    let at = c.at-stream.ensures in
    let x = c.at-stream.result in
    let own : Owns x c.args.bitmap.now [] m = subst (λ (y : Origin). Owns y c.args.bitmap.now [] m) (sym at) owns in
    let small : natural (fields x.sizes (contents m) x.id).size ≤ x.sizes.block_size * 0 = subst (λ (y : Origin). natural (fields y.sizes (contents m) y.id).size ≤ y.sizes.block_size * 0) (sym at) (let z : natural (fields o.sizes (contents m) o.id).size ≡ 0 = ap natural size in omega (arith, z)) in
    subst (λ (y : Origin). OnOk c.trim.result (HasStripped y c.args.bitmap.now c.trim.new.bitmap m (g.E.Blocks.told c.trim.new.edits) (g.E.Blocks.changed c.args.edits.now) (g.E.Blocks.changed c.trim.new.edits))) at
    (on_ok _ _ c.trim.result (c.trim.ensures.trimmed m is own small)
    (stripped x c.args.bitmap.now c.trim.new.bitmap m (g.E.Blocks.told c.trim.new.edits) (g.E.Blocks.changed c.args.edits.now) (g.E.Blocks.changed c.trim.new.edits) own
    (λ few. let s = c.trim.ensures.stays m is own few in (s.0 ∙ is, s.1, s.2))))

pub returns-clause-sound : goal.returns-clause-sound
returns-clause-sound g c m is owns size =
    let o : Origin = stream_in c.args.site c.args.id in
    let at = c.at-stream.ensures in
    let x = c.at-stream.result in
    let own : Owns x c.args.bitmap.now [] m = subst (λ (y : Origin). Owns y c.args.bitmap.now [] m) (sym at) owns in
    let small : natural (fields x.sizes (contents m) x.id).size ≤ x.sizes.block_size * 0 = subst (λ (y : Origin). natural (fields y.sizes (contents m) y.id).size ≤ y.sizes.block_size * 0) (sym at) (let z : natural (fields o.sizes (contents m) o.id).size ≡ 0 = ap natural size in omega (arith, z)) in
    c.trim.ensures.faults m is own small
