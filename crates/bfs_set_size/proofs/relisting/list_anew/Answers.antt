use Rattle.std.proofs.Common.{rules, ◌≡◌, ◌∙◌, [], ℕ, List, Option, codes, sym, ap, subst}
use mir.Syntax.{w64}
use mir.Val.{to_z, of_z}
use Rattle.bfs_bytes.specs.Fields.{unsigned_bytes, signed64_bytes}
use Rattle.bfs_super.specs.Geometry.{geometry_of}
use Rattle.bfs_shift.specs.Work.{IsAtWork}
use Rattle.bfs_calls.proofs.Faulting.{cause_earlier}
use Rattle.bfs_make.proofs.Telling.{told_back, one_map}
use Rattle.bfs_moves.proofs.Stepping.{stepped_twice}
use Rattle.bfs_set_size.proofs.Rekeyed.{left_in, pairs_in, by_size, by_time, size_relists, time_relists, rekeyed}
use Rattle.bfs_set_size.proofs.relisting.list_anew.Goals as goal

pub relist-requires-clause-relists : goal.relist-requires-clause-relists
relist-requires-clause-relists g c m told =
    let h = c.requires.resized m told in
    let r = h.resized in
    record {
      tree = h.since;
      lists = h.lists;
      index = codes "size";
      left = left_in h.tree h.lists c.args.id h.n c.args.size c.args.stamp r.agrees r.plain r.there r.file (codes "size");
      pairs = pairs_in h.tree h.lists c.args.id h.n c.args.size c.args.stamp r.agrees r.plain r.there r.file (codes "size");
      work = r.work;
      relisting = size_relists h.tree h.lists c.args.id h.n c.args.size c.args.stamp r.agrees r.plain r.there r.file c.args.indices.size r.built_in.size c.size_key-old_size.result c.size_key-new_size.result
          (c.size_key-old_size.ensures.key ∙ ap (unsigned_bytes 8) (sym h.size_is)) c.size_key-new_size.ensures.key;
    }

pub relist-requires-2-clause-relists : goal.relist-requires-2-clause-relists
relist-requires-2-clause-relists g c n told =
    let before =
    told_back (g.E.Blocks.told c.args.edits.now) (g.E.Blocks.told c.relist.new.edits) (g.E.Blocks.frame c.args.edits.now).below (g.E.Blocks.frame c.relist.new.edits).below
    (g.met.E.Edits.tells c.args.edits.now) (g.met.E.Edits.tells c.relist.new.edits) (ap (λ f. f.below) c.in-Ok.ensures.frame) n told in
    let m = before.0 in
    let h = c.requires.resized m before.1 in
    let r = h.resized in
    let was : to_z w64 (of_z w64 c.args.modified) ≡ c.args.modified = search rules in
    let time : to_z w64 (of_z w64 c.args.stamp) ≡ c.args.stamp = search rules in
    let one = c.in-Ok.ensures.relisted m h.since h.lists (codes "size") (left_in h.tree h.lists c.args.id h.n c.args.size c.args.stamp r.agrees r.plain r.there r.file (codes "size")) (pairs_in h.tree h.lists c.args.id h.n c.args.size c.args.stamp r.agrees r.plain r.there r.file (codes "size"))
    before.1 r.work (size_relists h.tree h.lists c.args.id h.n c.args.size c.args.stamp r.agrees r.plain r.there r.file c.args.indices.size r.built_in.size c.size_key-old_size.result c.size_key-new_size.result
    (c.size_key-old_size.ensures.key ∙ ap (unsigned_bytes 8) (sym h.size_is)) c.size_key-new_size.ensures.key) in
    record {
      tree = h.since;
      lists = by_size h.tree h.lists c.args.id h.n c.args.size c.args.stamp r.agrees r.plain r.there r.file;
      index = codes "last_modified";
      left = left_in h.tree h.lists c.args.id h.n c.args.size c.args.stamp r.agrees r.plain r.there r.file (codes "last_modified");
      pairs = pairs_in h.tree h.lists c.args.id h.n c.args.size c.args.stamp r.agrees r.plain r.there r.file (codes "last_modified");
      work = subst (λ (k : ℕ → Option (List ℕ)). IsAtWork (geometry_of c.args.sup.now) c.relist.new.bitmap k h.since (by_size h.tree h.lists c.args.id h.n c.args.size c.args.stamp r.agrees r.plain r.there r.file) []) (one_map (g.E.Blocks.told c.relist.new.edits) one.map n one.is told) one.work;
      relisting = time_relists h.tree h.lists c.args.id h.n c.args.size c.args.stamp r.agrees r.plain r.there r.file c.args.indices.last_modified r.built_in.last_modified c.stamp_key-old_time.result c.stamp_key-new_time.result
          (c.stamp_key-old_time.ensures.key ∙ ap signed64_bytes (was ∙ sym h.modified_is)) (c.stamp_key-new_time.ensures.key ∙ ap signed64_bytes time);
    }

pub returns-in-Ok-relist-clause-listed : goal.returns-in-Ok-relist-clause-listed
returns-in-Ok-relist-clause-listed g c m tree since lists n told r size_is modified_is =
    let was : to_z w64 (of_z w64 c.args.modified) ≡ c.args.modified = search rules in
    let time : to_z w64 (of_z w64 c.args.stamp) ≡ c.args.stamp = search rules in
    let one = c.in-Ok.ensures.relisted m since lists (codes "size") (left_in tree lists c.args.id n c.args.size c.args.stamp r.agrees r.plain r.there r.file (codes "size")) (pairs_in tree lists c.args.id n c.args.size c.args.stamp r.agrees r.plain r.there r.file (codes "size"))
    told r.work (size_relists tree lists c.args.id n c.args.size c.args.stamp r.agrees r.plain r.there r.file c.args.indices.size r.built_in.size c.size_key-old_size.result c.size_key-new_size.result
    (c.size_key-old_size.ensures.key ∙ ap (unsigned_bytes 8) (sym size_is)) c.size_key-new_size.ensures.key) in
    let two = c.in-Ok-relist.ensures.relisted one.map since (by_size tree lists c.args.id n c.args.size c.args.stamp r.agrees r.plain r.there r.file) (codes "last_modified") (left_in tree lists c.args.id n c.args.size c.args.stamp r.agrees r.plain r.there r.file (codes "last_modified")) (pairs_in tree lists c.args.id n c.args.size c.args.stamp r.agrees r.plain r.there r.file (codes "last_modified"))
    one.is one.work (time_relists tree lists c.args.id n c.args.size c.args.stamp r.agrees r.plain r.there r.file c.args.indices.last_modified r.built_in.last_modified c.stamp_key-old_time.result c.stamp_key-new_time.result
    (c.stamp_key-old_time.ensures.key ∙ ap signed64_bytes (was ∙ sym modified_is)) (c.stamp_key-new_time.ensures.key ∙ ap signed64_bytes time)) in
    record {
      last = by_time tree lists c.args.id n c.args.size c.args.stamp r.agrees r.plain r.there r.file;
      step = stepped_twice (geometry_of c.args.sup.now) c.args.bitmap.now c.relist.new.bitmap c.relist-2.new.bitmap m since since since (by_size tree lists c.args.id n c.args.size c.args.stamp r.agrees r.plain r.there r.file) (by_time tree lists c.args.id n c.args.size c.args.stamp r.agrees r.plain r.there r.file) [] []
          (g.E.Blocks.told c.relist.new.edits) (g.E.Blocks.told c.relist-2.new.edits) (g.E.Blocks.changed c.args.edits.now) (g.E.Blocks.changed c.relist.new.edits) (g.E.Blocks.changed c.relist-2.new.edits) one two;
      rekeys = rekeyed tree lists c.args.id n c.args.size c.args.stamp r.agrees r.plain r.there r.file;
    }

pub returns-in-Err-clause-unanswered : goal.returns-in-Err-clause-unanswered
returns-in-Err-clause-unanswered g c m tree since lists n told r size_is modified_is =
    c.in-Err.ensures.unanswered m since lists (codes "size") (left_in tree lists c.args.id n c.args.size c.args.stamp r.agrees r.plain r.there r.file (codes "size")) (pairs_in tree lists c.args.id n c.args.size c.args.stamp r.agrees r.plain r.there r.file (codes "size"))
    told r.work (size_relists tree lists c.args.id n c.args.size c.args.stamp r.agrees r.plain r.there r.file c.args.indices.size r.built_in.size c.size_key-old_size.result c.size_key-new_size.result
    (c.size_key-old_size.ensures.key ∙ ap (unsigned_bytes 8) (sym size_is)) c.size_key-new_size.ensures.key)

pub returns-in-Err-relist-clause-unanswered : goal.returns-in-Err-relist-clause-unanswered
returns-in-Err-relist-clause-unanswered g c m tree since lists n told r size_is modified_is =
    let was : to_z w64 (of_z w64 c.args.modified) ≡ c.args.modified = search rules in
    let time : to_z w64 (of_z w64 c.args.stamp) ≡ c.args.stamp = search rules in
    let one = c.in-Ok.ensures.relisted m since lists (codes "size") (left_in tree lists c.args.id n c.args.size c.args.stamp r.agrees r.plain r.there r.file (codes "size")) (pairs_in tree lists c.args.id n c.args.size c.args.stamp r.agrees r.plain r.there r.file (codes "size"))
    told r.work (size_relists tree lists c.args.id n c.args.size c.args.stamp r.agrees r.plain r.there r.file c.args.indices.size r.built_in.size c.size_key-old_size.result c.size_key-new_size.result
    (c.size_key-old_size.ensures.key ∙ ap (unsigned_bytes 8) (sym size_is)) c.size_key-new_size.ensures.key) in
    c.in-Err-relist.ensures.unanswered one.map since (by_size tree lists c.args.id n c.args.size c.args.stamp r.agrees r.plain r.there r.file) (codes "last_modified") (left_in tree lists c.args.id n c.args.size c.args.stamp r.agrees r.plain r.there r.file (codes "last_modified")) (pairs_in tree lists c.args.id n c.args.size c.args.stamp r.agrees r.plain r.there r.file (codes "last_modified"))
    one.is one.work (time_relists tree lists c.args.id n c.args.size c.args.stamp r.agrees r.plain r.there r.file c.args.indices.last_modified r.built_in.last_modified c.stamp_key-old_time.result c.stamp_key-new_time.result
    (c.stamp_key-old_time.ensures.key ∙ ap signed64_bytes (was ∙ sym modified_is)) (c.stamp_key-new_time.ensures.key ∙ ap signed64_bytes time))

pub returns-in-Err-relist-clause-cause : goal.returns-in-Err-relist-clause-cause
returns-in-Err-relist-clause-cause g c =
    cause_earlier (g.E.Blocks.counts c.args.edits.now) (g.E.Blocks.counts c.relist.new.edits) (g.E.Blocks.counts c.relist-2.new.edits) c.in-Err-relist.fault c.in-Ok.ensures.later c.in-Err-relist.ensures.cause
