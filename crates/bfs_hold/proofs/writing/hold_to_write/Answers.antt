use Rattle.std.proofs.Common.{rules, ◌≡◌, ◌<◌, ◌≤◌, ◌^◌, ◌∙◌, [], ℕ, ℤ, List, Option, Bool, codes, arith, sym, ap, subst}
use mir.Syntax.{w64}
use mir.Val.{to_z, of_z}
use Rattle.bfs_bytes.specs.Fields.{signed64_bytes}
use Rattle.bfs_super.specs.Conditions.{natural}
use Rattle.bfs_super.specs.Geometry.{geometry_of}
use Rattle.bfs_bitmap.specs.Runs.{Room}
use Rattle.bfs_shift.specs.Work.{IsAtWork, IsStepped}
use Rattle.bfs_look.proofs.Known.{few_blocks}
use Rattle.bfs_calls.proofs.Faulting.{undone_unanswered, cause_earlier}
use Rattle.bfs_make.proofs.Telling.{told_back, one_map}
use Rattle.bfs_hold.specs.Held.{with_stamps}
use Rattle.bfs_hold.proofs.Refusing.{file_there}
use Rattle.bfs_hold.proofs.Restamped.{left, pairs, by_time, time_relists, held_so}
use Rattle.bfs_hold.proofs.writing.hold_to_write.Goals as goal

pub relist-requires-clause-id : goal.relist-requires-clause-id
relist-requires-clause-id g c =
    let low = c.requires.may in
    let few = few_blocks c.args.sup.now c.requires.valid in
    below c.args.id (natural c.args.sup.now.num_blocks) low few
  where
    below : (k n : ℕ) → k < n → n ≤ 2 ^ 62 → k < 2 ^ 62
    below k n low few = omega (arith, low, few)

pub relist-requires-clause-relists : goal.relist-requires-clause-relists
relist-requires-clause-relists g c n told =
    let was : to_z w64 (of_z w64 c.in-Ok.before.modified) ≡ c.in-Ok.before.modified = search rules in
    let time : to_z w64 (of_z w64 c.args.stamp) ≡ c.args.stamp = search rules in
    let s = geometry_of c.args.sup.now in
    let id = c.args.id in
    let back =
    told_back (g.E.Blocks.told c.listed_at.new.edits) (g.E.Blocks.told c.put_stamps.new.edits) (g.E.Blocks.frame c.listed_at.new.edits).below (g.E.Blocks.frame c.put_stamps.new.edits).below
    (g.met.E.Edits.tells c.listed_at.new.edits) (g.met.E.Edits.tells c.put_stamps.new.edits) (ap (λ f. f.below) c.in-Ok-put_stamps.ensures.frame) n told in
    let m = back.0 in
    let first = sym c.in-Ok.ensures.told ∙ back.1 in
    let h = c.requires.ready m first in
    let f = file_there h.tree id (c.requires.fine m h.tree h.lists first h.ready) in
    let b = c.in-Ok.ensures.found m h.tree h.lists f.0 first h.ready f.1 in
    let work : IsAtWork s c.listed_at.new.bitmap m h.tree h.lists [] = subst (λ (v : Room). IsAtWork s v m h.tree h.lists []) (sym c.in-Ok.ensures.bitmap) h.ready.work in
    let stamped = c.in-Ok-put_stamps.ensures.stamped c.listed_at.new.bitmap m h.tree h.lists [] f.0 back.1 work f.1 in
    record {
      tree = with_stamps h.tree id (to_z w64 (of_z w64 c.args.stamp));
      lists = h.lists;
      index = codes "last_modified";
      left = left h.tree h.lists id f.0 c.args.stamp h.ready.agrees h.ready.plain f.1 f.2;
      pairs = pairs h.tree h.lists id f.0 c.args.stamp h.ready.agrees h.ready.plain f.1 f.2;
      work = subst (λ (k : ℕ → Option (List ℕ)). IsAtWork s c.listed_at.new.bitmap k (with_stamps h.tree id (to_z w64 (of_z w64 c.args.stamp))) h.lists []) (one_map (g.E.Blocks.told c.put_stamps.new.edits) stamped.map n stamped.is told) stamped.work;
      relisting = time_relists h.tree h.lists id f.0 c.args.stamp h.ready.agrees h.ready.plain f.1 f.2 c.in-Ok.before.index b.row c.stamp_key-old.result c.stamp_key-new.result
          (c.stamp_key-old.ensures.key ∙ ap signed64_bytes (was ∙ sym b.modified_is)) (c.stamp_key-new.ensures.key ∙ ap signed64_bytes time);
    }

pub returns-in-Err-clause-unanswered : goal.returns-in-Err-clause-unanswered
returns-in-Err-clause-unanswered g c m tree lists told ready =
    let f = file_there tree c.args.id (c.requires.fine m tree lists told ready) in
    undone_unanswered c.in-Err.fault (c.in-Err.ensures.found m tree lists f.0 told ready f.1)

pub returns-in-Err-relist-clause-cause : goal.returns-in-Err-relist-clause-cause
returns-in-Err-relist-clause-cause g c =
    cause_earlier (g.E.Blocks.counts c.args.edits.now) (g.E.Blocks.counts c.listed_at.new.edits) (g.E.Blocks.counts c.relist.new.edits) c.in-Err-relist.fault c.in-Ok.ensures.later
    (cause_earlier (g.E.Blocks.counts c.listed_at.new.edits) (g.E.Blocks.counts c.put_stamps.new.edits) (g.E.Blocks.counts c.relist.new.edits) c.in-Err-relist.fault c.in-Ok-put_stamps.ensures.cause.later c.in-Err-relist.ensures.cause)

pub returns-in-Err-relist-clause-unanswered : goal.returns-in-Err-relist-clause-unanswered
returns-in-Err-relist-clause-unanswered g c m tree lists told ready =
    let was : to_z w64 (of_z w64 c.in-Ok.before.modified) ≡ c.in-Ok.before.modified = search rules in
    let time : to_z w64 (of_z w64 c.args.stamp) ≡ c.args.stamp = search rules in
    let s = geometry_of c.args.sup.now in
    let id = c.args.id in
    let f = file_there tree id (c.requires.fine m tree lists told ready) in
    let b = c.in-Ok.ensures.found m tree lists f.0 told ready f.1 in
    let work : IsAtWork s c.listed_at.new.bitmap m tree lists [] = subst (λ (v : Room). IsAtWork s v m tree lists []) (sym c.in-Ok.ensures.bitmap) ready.work in
    let stamped = c.in-Ok-put_stamps.ensures.stamped c.listed_at.new.bitmap m tree lists [] f.0 (c.in-Ok.ensures.told ∙ told) work f.1 in
    c.in-Err-relist.ensures.unanswered stamped.map (with_stamps tree id (to_z w64 (of_z w64 c.args.stamp))) lists (codes "last_modified") (left tree lists id f.0 c.args.stamp ready.agrees ready.plain f.1 f.2) (pairs tree lists id f.0 c.args.stamp ready.agrees ready.plain f.1 f.2)
    stamped.is stamped.work (time_relists tree lists id f.0 c.args.stamp ready.agrees ready.plain f.1 f.2 c.in-Ok.before.index b.row c.stamp_key-old.result c.stamp_key-new.result
    (c.stamp_key-old.ensures.key ∙ ap signed64_bytes (was ∙ sym b.modified_is)) (c.stamp_key-new.ensures.key ∙ ap signed64_bytes time))

pub returns-in-Ok-relist-clause-done : goal.returns-in-Ok-relist-clause-done
returns-in-Ok-relist-clause-done g c m tree lists told ready =
    let was : to_z w64 (of_z w64 c.in-Ok.before.modified) ≡ c.in-Ok.before.modified = search rules in
    let time : to_z w64 (of_z w64 c.args.stamp) ≡ c.args.stamp = search rules in
    let s = geometry_of c.args.sup.now in
    let v = c.args.bitmap.now in
    let id = c.args.id in
    let stamp = c.args.stamp in
    let old = g.E.Blocks.changed c.args.edits.now in
    let mid = g.E.Blocks.changed c.put_stamps.new.edits in
    let new = g.E.Blocks.changed c.relist.new.edits in
    let told1 = g.E.Blocks.told c.put_stamps.new.edits in
    let told2 = g.E.Blocks.told c.relist.new.edits in
    let f = file_there tree id (c.requires.fine m tree lists told ready) in
    let b = c.in-Ok.ensures.found m tree lists f.0 told ready f.1 in
    let first = c.in-Ok-put_stamps.ensures.stamped v m tree lists [] f.0 (c.in-Ok.ensures.told ∙ told) ready.work f.1 in
    let stamped : IsStepped s v v m tree (with_stamps tree id stamp) lists [] told1 old mid =
    subst (λ (z : ℤ). IsStepped s v v m tree (with_stamps tree id z) lists [] told1 old mid) time
    (subst (λ (x : ℕ → Bool). IsStepped s v v m tree (with_stamps tree id (to_z w64 (of_z w64 stamp))) lists [] told1 x mid) c.in-Ok.ensures.changed first) in
    let work : IsAtWork s c.listed_at.new.bitmap stamped.map (with_stamps tree id stamp) lists [] = subst (λ (r : Room). IsAtWork s r stamped.map (with_stamps tree id stamp) lists []) (sym c.in-Ok.ensures.bitmap) stamped.work in
    let next = c.in-Ok-relist.ensures.relisted stamped.map (with_stamps tree id stamp) lists (codes "last_modified") (left tree lists id f.0 stamp ready.agrees ready.plain f.1 f.2) (pairs tree lists id f.0 stamp ready.agrees ready.plain f.1 f.2)
    stamped.is work (time_relists tree lists id f.0 stamp ready.agrees ready.plain f.1 f.2 c.in-Ok.before.index b.row c.stamp_key-old.result c.stamp_key-new.result
    (c.stamp_key-old.ensures.key ∙ ap signed64_bytes (was ∙ sym b.modified_is)) (c.stamp_key-new.ensures.key ∙ ap signed64_bytes time)) in
    let listed : IsStepped s v c.relist.new.bitmap stamped.map (with_stamps tree id stamp) (with_stamps tree id stamp) (by_time tree lists id f.0 stamp ready.agrees ready.plain f.1 f.2) [] told2 mid new =
    subst (λ (r : Room). IsStepped s r c.relist.new.bitmap stamped.map (with_stamps tree id stamp) (with_stamps tree id stamp) (by_time tree lists id f.0 stamp ready.agrees ready.plain f.1 f.2) [] told2 mid new) c.in-Ok.ensures.bitmap next in
    held_so s v c.relist.new.bitmap m tree lists id stamp f.0 told1 told2 old mid new ready f.1 f.2 stamped listed
