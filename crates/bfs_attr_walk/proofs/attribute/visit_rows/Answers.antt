use Rattle.std.proofs.Common.{rules, ◌≡◌, ◌≤◌, ◌<◌, ◌∙◌, ◌++◌, ◌∷◌, ◌+◌, List, length, take, drop, get_or, refl, sym, subst, arith, append-nil}
use Rattle.std.specs.List.{AllByRecursion}
use Rattle.bfs_super.specs.Conditions.{natural}
use Rattle.bfs_txn.specs.Faults.{Counts}
use Rattle.bfs_stream.specs.Told.{contents}
use Rattle.bfs_pages.proofs.Later.{later-twice}
use Rattle.bfs_sound.specs.Volumes.{Volume}
use Rattle.bfs_sound.specs.Attributes.{attribute_directory}
use Rattle.bfs_sound.specs.Inodes.{rows_of, content, inode_blocks}
use Rattle.bfs_sound.specs.Whole.{volume_of}
use Rattle.bfs_claims.specs.Claims.{AreClaimed}
use Rattle.bfs_names_walk.specs.Rows.{as_rows, AreNames}
use Rattle.bfs_names_walk.specs.declared.row.NameRow.{NameRow}
use Rattle.bfs_node_walk.specs.Listed.{proper, NamesBlock}
use Rattle.bfs_attr_walk.specs.Attributed.{row_blocks}
use Rattle.bfs_attr_walk.proofs.Attributing.{named_row, row_there, row_parts, rows_at, all_before, sound_next, claimed_next, taken_next, sound_all, claimed_all}
use Rattle.bfs_attr_walk.proofs.Causing.{cause_earlier}
use Rattle.bfs_attr_walk.proofs.attribute.visit_rows.Goals as goal

pub loop-i-init : goal.loop-i-init
loop-i-init g c = record {
  told = refl;
  changed = refl;
  pairs = refl;
  size = refl;
  frame = refl;
  later = record { faults = omega arith; stops = refl; stop = refl };
  blocks = refl;
  sound = λ m told. tt;
  claimed = λ m xs told a. subst (AreClaimed c.args.claims.now) (sym (append-nil xs)) a;
}

pub loop-i-preserved : goal.loop-i-preserved
loop-i-preserved g c =
    let r : NameRow = c.index-rows-i.result in
    let rows : List NameRow = c.args.rows.now in
    let item : r ≡ get_or rows c.loop-i.i r = search rules in
    let inside : c.loop-i.i < length rows = c.loop-i-test.true in record {
      told = c.in-Ok.ensures.told ∙ c.loop-i.invariant.told;
      changed = c.in-Ok.ensures.changed ∙ c.loop-i.invariant.changed;
      pairs = c.in-Ok.ensures.pairs ∙ c.loop-i.invariant.pairs;
      size = c.in-Ok.ensures.size ∙ c.loop-i.invariant.size;
      frame = c.in-Ok.ensures.frame ∙ c.loop-i.invariant.frame;
      later = later-twice c.loop-i.invariant.later c.in-Ok.ensures.later;
      blocks = c.in-Ok.ensures.blocks ∙ c.loop-i.invariant.blocks;
      sound = λ m told. sound_next (volume_of c.args.sup.now (contents m)) rows c.loop-i.i r inside item (c.loop-i.invariant.sound m told) (c.in-Ok.ensures.sound m (c.loop-i.invariant.told ∙ told));
      claimed = λ m xs told a.
          claimed_next (volume_of c.args.sup.now (contents m)) rows c.loop-i.i r inside item c.visit_row.new.claims xs
          (c.in-Ok.ensures.claimed m (xs ++ row_blocks (volume_of c.args.sup.now (contents m)) (take c.loop-i.i rows)) (c.loop-i.invariant.told ∙ told) (c.loop-i.invariant.claimed m xs told a));
    }

pub visit_row-requires-clause-row : goal.visit_row-requires-clause-row
visit_row-requires-clause-row g c p =
    let r : NameRow = c.index-rows-i.result in
    let item : r ≡ get_or c.args.rows.now c.loop-i.i r = search rules in
    named_row (natural c.args.sup.now.num_blocks) c.args.rows.now c.loop-i.i r c.loop-i-test.true item c.requires.rows p

pub visit_row-requires-clause-all : goal.visit_row-requires-clause-all
visit_row-requires-clause-all g c m told = c.requires.all m (sym c.loop-i.invariant.told ∙ told)

pub tell_owner-requires-clause-rows : goal.tell_owner-requires-clause-rows
tell_owner-requires-clause-rows g c = all_before (natural c.args.sup.now.num_blocks) c.args.rows.now c.loop-i.i c.requires.rows

pub tell_owner-requires-clause-all : goal.tell_owner-requires-clause-all
tell_owner-requires-clause-all g c m told = c.requires.all m (sym c.loop-i.invariant.told ∙ sym c.in-Err.ensures.told ∙ told)

pub returns-in-Err-clause-wrong : goal.returns-in-Err-clause-wrong
returns-in-Err-clause-wrong g c m id xs told a reached dir names =
    let v : Volume = volume_of c.args.sup.now (contents m) in
    let rows : List NameRow = c.args.rows.now in
    let r : NameRow = c.index-rows-i.result in
    let item : r ≡ get_or rows c.loop-i.i r = search rules in
    let inside : c.loop-i.i < length rows = c.loop-i-test.true in
    let parts : rows ≡ take c.loop-i.i rows ++ (r ∷ drop (c.loop-i.i + 1) rows) = row_parts rows c.loop-i.i r inside item in
    let on = c.loop-i.invariant.told ∙ told in
    c.tell_owner.ensures.wrong m id (xs ++ row_blocks v (take c.loop-i.i rows)) r (drop (c.loop-i.i + 1) rows) (c.in-Err.ensures.told ∙ on) reached dir
    (subst (AreNames (content v c.args.directory)) parts names)
    (subst (λ (l : List NameRow). AllByRecursion (NamesBlock (natural c.args.sup.now.num_blocks)) (proper (as_rows l))) parts c.requires.rows)
    (c.in-Err.ensures.wrong m id on reached (λ p. row_there rows (rows_of v (attribute_directory v id)) c.loop-i.i r inside item (rows_at v id c.args.directory rows names dir) p))
    (c.in-Err.ensures.taken m (xs ++ row_blocks v (take c.loop-i.i rows)) on (c.loop-i.invariant.claimed m xs told a))

pub returns-in-Err-clause-taken : goal.returns-in-Err-clause-taken
returns-in-Err-clause-taken g c m xs told a =
    let v : Volume = volume_of c.args.sup.now (contents m) in
    let rows : List NameRow = c.args.rows.now in
    let r : NameRow = c.index-rows-i.result in
    let item : r ≡ get_or rows c.loop-i.i r = search rules in
    let on = c.loop-i.invariant.told ∙ told in
    taken_next v rows c.loop-i.i r c.loop-i-test.true item xs c.tell_owner.result
    (c.tell_owner.ensures.taken m xs r (c.in-Err.ensures.told ∙ on)
    (c.in-Err.ensures.taken m ((xs ++ inode_blocks v c.args.directory) ++ row_blocks v (take c.loop-i.i rows)) on (c.loop-i.invariant.claimed m (xs ++ inode_blocks v c.args.directory) told a)))

pub returns-in-Err-clause-cause : goal.returns-in-Err-clause-cause
returns-in-Err-clause-cause g c =
    let old : Counts = g.B.Blocks.counts c.args.under.now in
    c.tell_owner.ensures.cause old (later-twice c.loop-i.invariant.later c.in-Err.ensures.later)
    (cause_earlier old (g.B.Blocks.counts c.loop-i.under) (g.B.Blocks.counts c.visit_row.new.under) c.in-Err.fault c.loop-i.invariant.later c.in-Err.ensures.cause)

pub returns-clause-sound : goal.returns-clause-sound
returns-clause-sound g c m told =
    let past : length c.args.rows.now ≤ c.loop-i.i = omega arith in
    sound_all (volume_of c.args.sup.now (contents m)) c.args.rows.now c.loop-i.i past (c.loop-i.invariant.sound m told)

pub returns-clause-claimed : goal.returns-clause-claimed
returns-clause-claimed g c m xs told a =
    let past : length c.args.rows.now ≤ c.loop-i.i = omega arith in
    claimed_all (volume_of c.args.sup.now (contents m)) c.loop-i.claims xs c.args.rows.now c.loop-i.i past (c.loop-i.invariant.claimed m xs told a)
