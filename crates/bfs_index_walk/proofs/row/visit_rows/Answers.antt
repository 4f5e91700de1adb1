use Rattle.std.proofs.Common.{rules, ◌≡◌, ◌≤◌, ◌<◌, ◌+◌, ◌∙◌, ◌++◌, ℕ, List, length, take, drop, get_or, refl, sym, subst, arith, append-nil}
use Rattle.bfs_super.specs.Conditions.{natural}
use Rattle.bfs_stream.specs.Told.{contents}
use Rattle.bfs_pages.proofs.Later.{later-twice}
use Rattle.bfs_sound.specs.Volumes.{Volume}
use Rattle.bfs_sound.specs.Inodes.{inode_blocks}
use Rattle.bfs_sound.specs.Listings.{index_rows}
use Rattle.bfs_sound.specs.Whole.{volume_of}
use Rattle.bfs_claims.specs.Claims.{AreClaimed}
use Rattle.bfs_inode_walk.specs.Visited.{IsVisitCause}
use Rattle.bfs_names_walk.specs.declared.row.NameRow.{NameRow}
use Rattle.bfs_node_walk.specs.Listed.{NamesBlock}
use Rattle.bfs_attrs_walk.specs.Attributed.{row_blocks, IsTakenIn}
use Rattle.bfs_attrs_walk.proofs.Attributing.{named_row, row_there, claimed_next, taken_next, claimed_all}
use Rattle.bfs_index_walk.specs.Indices.{AreRowsOf}
use Rattle.bfs_index_walk.proofs.Placed.{rows_there}
use Rattle.bfs_index_walk.proofs.Placing.{behind_rows}
use Rattle.bfs_index_walk.proofs.Rowing.{first_all, row_parts, none_inside, none_found, found_more, found_all}
use Rattle.bfs_index_walk.proofs.row.visit_rows.Goals as goal

pub loop-i-init : goal.loop-i-init
loop-i-init g c = record {
  told = refl;
  changed = refl;
  pairs = refl;
  size = refl;
  frame = refl;
  later = record { faults = omega arith; stops = refl; stop = refl };
  blocks = refl;
  inside = none_inside (natural c.args.sup.now.num_blocks) c.new-found.result.items c.new-found.ensures.items;
  found = λ m told. none_found (volume_of c.args.sup.now (contents m)) c.new-found.result.items c.new-found.ensures.items;
  claimed = λ m xs told a. subst (AreClaimed c.args.claims.now) (sym (append-nil xs)) a;
}

pub loop-i-preserved : goal.loop-i-preserved
loop-i-preserved g c =
    let r : NameRow = c.index-rows-i.result in
    let rows : List NameRow = c.args.rows.now in
    let item : r ≡ get_or rows c.loop-i.i r = search rules in
    let inside : c.loop-i.i < length rows = c.loop-i-test.true in record {
      told = c.in-Ok.ensures.told ∙ c.loop-i.invariant.told;
      changed = c.in-Ok.ensures.changed ∙ c.loop-i.invariant.changed;
      pairs = c.in-Ok.ensures.pairs ∙ c.loop-i.invariant.pairs;
      size = c.in-Ok.ensures.size ∙ c.loop-i.invariant.size;
      frame = c.in-Ok.ensures.frame ∙ c.loop-i.invariant.frame;
      later = later-twice c.loop-i.invariant.later c.in-Ok.ensures.later;
      blocks = c.in-Ok.ensures.blocks ∙ c.loop-i.invariant.blocks;
      inside = c.in-Ok.ensures.inside c.loop-i.invariant.inside;
      found = λ m told.
          found_more (volume_of c.args.sup.now (contents m)) rows c.loop-i.i r c.visit_row.new.found.items inside item
          (c.in-Ok.ensures.found m (take c.loop-i.i rows) (c.loop-i.invariant.told ∙ told) (c.loop-i.invariant.found m told));
      claimed = λ m xs told a.
          claimed_next (volume_of c.args.sup.now (contents m)) rows c.loop-i.i r inside item c.visit_row.new.claims xs
          (c.in-Ok.ensures.claimed m (xs ++ row_blocks (volume_of c.args.sup.now (contents m)) (take c.loop-i.i rows)) (c.loop-i.invariant.told ∙ told) (c.loop-i.invariant.claimed m xs told a));
    }

pub visit_row-requires-clause-row : goal.visit_row-requires-clause-row
visit_row-requires-clause-row g c p =
    let r : NameRow = c.index-rows-i.result in
    let item : r ≡ get_or c.args.rows.now c.loop-i.i r = search rules in
    named_row (natural c.args.sup.now.num_blocks) c.args.rows.now c.loop-i.i r c.loop-i-test.true item c.requires.rows p

pub visit_row-requires-clause-all : goal.visit_row-requires-clause-all
visit_row-requires-clause-all g c m told = c.requires.all m (sym c.loop-i.invariant.told ∙ told)

pub refusal-requires-clause-rows : goal.refusal-requires-clause-rows
refusal-requires-clause-rows g c = first_all (NamesBlock (natural c.args.sup.now.num_blocks)) c.args.rows.now c.loop-i.i c.requires.rows

pub returns-in-Err-clause-wrong : goal.returns-in-Err-clause-wrong
returns-in-Err-clause-wrong g c m xs told a arrives are =
    let v : Volume = volume_of c.args.sup.now (contents m) in
    let rows : List NameRow = c.args.rows.now in
    let r : NameRow = c.index-rows-i.result in
    let item : r ≡ get_or rows c.loop-i.i r = search rules in
    let on = c.loop-i.invariant.told ∙ told in
    let all : AreRowsOf v c.args.directory rows = record { there = arrives; names = are; inside = c.requires.rows } in
    c.refusal.ensures.wrong m (xs ++ row_blocks v (take c.loop-i.i rows)) r (drop (c.loop-i.i + 1) rows) (c.in-Err.ensures.told ∙ on)
    (subst (AreRowsOf v c.args.directory) (row_parts rows c.loop-i.i r c.loop-i-test.true item) all)
    (c.in-Err.ensures.wrong m on (λ p. row_there rows (index_rows v) c.loop-i.i r c.loop-i-test.true item (rows_there v c.args.directory arrives rows are rows refl) p))
    (c.in-Err.ensures.taken m (xs ++ row_blocks v (take c.loop-i.i rows)) on (c.loop-i.invariant.claimed m xs told a))

pub returns-in-Err-clause-taken : goal.returns-in-Err-clause-taken
returns-in-Err-clause-taken g c m xs told a =
    let v : Volume = volume_of c.args.sup.now (contents m) in
    let rows : List NameRow = c.args.rows.now in
    let r : NameRow = c.index-rows-i.result in
    let item : r ≡ get_or rows c.loop-i.i r = search rules in
    let on = c.loop-i.invariant.told ∙ told in
    let before : List ℕ = xs ++ inode_blocks v c.args.directory in
    taken_next v rows c.loop-i.i r c.loop-i-test.true item xs c.refusal.result
    (c.refusal.ensures.taken m xs r (c.in-Err.ensures.told ∙ on)
    (subst (λ (l : List ℕ). IsTakenIn v l r c.in-Err.fault) (behind_rows v xs c.args.directory (take c.loop-i.i rows))
    (c.in-Err.ensures.taken m (before ++ row_blocks v (take c.loop-i.i rows)) on (c.loop-i.invariant.claimed m before told a))))

pub returns-in-Err-clause-cause : goal.returns-in-Err-clause-cause
returns-in-Err-clause-cause g c =
    let cause : IsVisitCause (g.B.Blocks.counts c.args.under.now) (g.B.Blocks.counts c.visit_row.new.under) c.in-Err.fault = search rules in
    c.refusal.ensures.cause (g.B.Blocks.counts c.args.under.now) (later-twice c.loop-i.invariant.later c.in-Err.ensures.later) cause

pub returns-clause-found : goal.returns-clause-found
returns-clause-found g c m told =
    let past : length c.args.rows.now ≤ c.loop-i.i = omega arith in
    found_all (volume_of c.args.sup.now (contents m)) c.args.rows.now c.loop-i.i c.loop-i.found.items past (c.loop-i.invariant.found m told)

pub returns-clause-inside : goal.returns-clause-inside
returns-clause-inside g c = c.loop-i.invariant.inside

pub returns-clause-claimed : goal.returns-clause-claimed
returns-clause-claimed g c m xs told a =
    let past : length c.args.rows.now ≤ c.loop-i.i = omega arith in
    claimed_all (volume_of c.args.sup.now (contents m)) c.loop-i.claims xs c.args.rows.now c.loop-i.i past (c.loop-i.invariant.claimed m xs told a)
