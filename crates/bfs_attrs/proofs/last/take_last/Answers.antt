use Rattle.std.proofs.Common.{◌≡◌, ◌∙◌, ℕ, pos, Bool, Option, Some, None, ap, subst}
use Rattle.std.specs.FinMap.{remove}
use Rattle.bfs_base.specs.declared.kind.KeyKind.TheVariants.{Text}
use Rattle.bfs_bitmap.specs.Runs.{Room}
use Rattle.bfs_node.specs.declared.fault.TreeFault.TheVariants.{Absent}
use Rattle.bfs_pages.specs.Maps.{assoc}
use Rattle.bfs_super.specs.Geometry.{geometry_of}
use Rattle.bfs_stream.proofs.Arrays.{later_twice}
use Rattle.bfs_stream.proofs.Stops.{cause_later, caused_in}
use Rattle.bfs_maps.specs.Mapped.{rows_of}
use Rattle.bfs_maps.specs.NumberTrees.{IsNumberAt}
use Rattle.bfs_attr.specs.Bearers.{bearer_of, volume_at, origin, attributes_at}
use Rattle.bfs_attr.proofs.Tops.{cause_sound}
use Rattle.bfs_attr_write.proofs.Departs.{tree_there, not_taken, undone_kept}
use Rattle.std.specs.Prelude.{Err}
use Rattle.bfs_attrs.specs.Last.{HasLastTaken}
use Rattle.bfs_attrs.proofs.LastTaken.{first_held, first_low, still_held, bearer_told, last_clear, last_gone}
use Rattle.bfs_attrs.proofs.Stood.{read_taken, take_earlier, can_read}
use Rattle.bfs_attrs.proofs.last.take_last.Goals as goal

pub number_at-requires-clause-stream : goal.number_at-requires-clause-stream
number_at-requires-clause-stream g c m told =
    let s = c.args.site.sup in
    let t = tree_there s c.requires.valid c.args.inode c.args.bitmap.now m c.args.directory c.args.name.now (c.requires.alone m told).can in
    can_read (origin (geometry_of s) c.args.directory) c.args.bitmap.now m t.held

pub returns-in-Ok-None-clause-faults : goal.returns-in-Ok-None-clause-faults
returns-in-Ok-None-clause-faults g c m told =
    let s = c.args.site.sup in
    let d = c.args.directory in
    let name = c.args.name.now in
    let can = (c.requires.alone m told).can in
    let t = tree_there s c.requires.valid c.args.inode c.args.bitmap.now m d name can in
    let none : assoc Text (rows_of Text (origin (geometry_of s) d) m) name ≡ None =
    subst (λ (o : Option ℕ). IsNumberAt Text (rows_of Text (origin (geometry_of s) d) m) name o) c.in-Ok-None.field-0-is (c.in-Ok-None.ensures.found m told t.tree) in
    not_taken s c.requires.valid c.args.inode c.args.bitmap.now m d name can Absent none

pub returns-in-Err-clause-faults : goal.returns-in-Err-clause-faults
returns-in-Err-clause-faults g c m told =
    let s = c.args.site.sup in
    let d = c.args.directory in
    let name = c.args.name.now in
    let t = tree_there s c.requires.valid c.args.inode c.args.bitmap.now m d name (c.requires.alone m told).can in
    undone_kept {T = ℕ} (volume_at (geometry_of s) m) c.args.inode name (Err c.in-Err.fault) (c.in-Err.ensures.found m told t.tree)

pub returns-in-Err-clause-cause : goal.returns-in-Err-clause-cause
returns-in-Err-clause-cause g c = read_taken (g.E.Blocks.counts c.args.edits.now) (g.E.Blocks.counts c.number_at.new.under) c.in-Err.fault c.in-Err.ensures.cause

pub returns-in-Err-give_named-clause-faults : goal.returns-in-Err-give_named-clause-faults
returns-in-Err-give_named-clause-faults g c m told =
    let s = c.args.site.sup in
    let b = bearer_of c.args.inode s in
    let v = c.args.bitmap.now in
    let d = c.args.directory in
    let name = c.args.name.now in
    let alone = c.requires.alone m told in
    let t = tree_there s c.requires.valid c.args.inode v m d name alone.can in
    let there : assoc Text (rows_of Text (origin (geometry_of s) d) m) name ≡ Some (pos c.in-Ok-Some.id) =
    subst (λ (o : Option ℕ). IsNumberAt Text (rows_of Text (origin (geometry_of s) d) m) name o) c.in-Ok-Some.field-0-is (c.in-Ok-Some.ensures.found m told t.tree) in
    undone_kept {T = ℕ} (volume_at (geometry_of s) m) c.args.inode name (Err c.in-Err-give_named.fault)
    (c.in-Err-give_named.ensures.sound m (c.in-Ok-Some.ensures.told ∙ told) (first_held b v m d name alone c.in-Ok-Some.id there) (first_low b v m d name alone c.in-Ok-Some.id there))

pub returns-in-Err-give_named-clause-cause : goal.returns-in-Err-give_named-clause-cause
returns-in-Err-give_named-clause-cause g c =
    take_earlier (g.E.Blocks.counts c.args.edits.now) (g.E.Blocks.counts c.number_at.new.under) (g.E.Blocks.counts c.give_named.new.edits) c.in-Err-give_named.fault c.in-Ok-Some.ensures.later c.in-Err-give_named.ensures.cause

pub returns-in-Err-give_inode-clause-faults : goal.returns-in-Err-give_inode-clause-faults
returns-in-Err-give_inode-clause-faults g c m told =
    let s = c.args.site.sup in
    let b = bearer_of c.args.inode s in
    let v = c.args.bitmap.now in
    let d = c.args.directory in
    let name = c.args.name.now in
    let id = c.in-Ok-Some.id in
    let alone = c.requires.alone m told in
    let t = tree_there s c.requires.valid c.args.inode v m d name alone.can in
    let there : assoc Text (rows_of Text (origin (geometry_of s) d) m) name ≡ Some (pos id) =
    subst (λ (o : Option ℕ). IsNumberAt Text (rows_of Text (origin (geometry_of s) d) m) name o) c.in-Ok-Some.field-0-is (c.in-Ok-Some.ensures.found m told t.tree) in
    let gone = c.in-Ok.ensures.given m (c.in-Ok-Some.ensures.told ∙ told) (first_held b v m d name alone id there) in
    let held = still_held b v m d name alone id there c.give_named.new.bitmap (g.E.Blocks.told c.give_named.new.edits) (g.E.Blocks.changed c.number_at.new.under) (g.E.Blocks.changed c.give_named.new.edits) gone c.give_named.ensures.rest in
    c.in-Err-give_inode.ensures.sound gone.map gone.is held.1.owns

pub returns-in-Err-give_inode-clause-cause : goal.returns-in-Err-give_inode-clause-cause
returns-in-Err-give_inode-clause-cause g c = (
  tt,
  cause_later (g.E.Blocks.counts c.args.edits.now) (g.E.Blocks.counts c.give_named.new.edits) (g.E.Blocks.counts c.give_inode.new.edits) c.in-Err-give_inode.fault
      (later_twice (g.E.Blocks.counts c.args.edits.now) (g.E.Blocks.counts c.number_at.new.under) (g.E.Blocks.counts c.give_named.new.edits) c.in-Ok-Some.ensures.later c.in-Ok.ensures.later)
      c.in-Err-give_inode.ensures.cause,
)

pub returns-in-Ok-clear_address-clause-taken : goal.returns-in-Ok-clear_address-clause-taken
returns-in-Ok-clear_address-clause-taken g c m told =
    let s = c.args.site.sup in
    let b = bearer_of c.args.inode s in
    let v = c.args.bitmap.now in
    let d = c.args.directory in
    let name = c.args.name.now in
    let id = c.in-Ok-Some.id in
    let mid = c.give_named.new.bitmap in
    let later = c.give_inode.new.bitmap in
    let told1 = g.E.Blocks.told c.give_named.new.edits in
    let told2 = g.E.Blocks.told c.give_inode.new.edits in
    let told3 = g.E.Blocks.told c.clear_address.new.edits in
    let old = g.E.Blocks.changed c.number_at.new.under in
    let half = g.E.Blocks.changed c.give_named.new.edits in
    let third = g.E.Blocks.changed c.give_inode.new.edits in
    let new = g.E.Blocks.changed c.clear_address.new.edits in
    let alone = c.requires.alone m told in
    let t = tree_there s c.requires.valid c.args.inode v m d name alone.can in
    let there : assoc Text (rows_of Text (origin (geometry_of s) d) m) name ≡ Some (pos id) =
    subst (λ (o : Option ℕ). IsNumberAt Text (rows_of Text (origin (geometry_of s) d) m) name o) c.in-Ok-Some.field-0-is (c.in-Ok-Some.ensures.found m told t.tree) in
    let gone1 = c.in-Ok.ensures.given m (c.in-Ok-Some.ensures.told ∙ told) (first_held b v m d name alone id there) in
    let held = still_held b v m d name alone id there mid told1 old half gone1 c.give_named.ensures.rest in
    let gone2 = c.in-Ok-give_inode.ensures.given gone1.map gone1.is held.1.owns in
    let put = c.in-Ok-clear_address.ensures.written gone2.map gone2.is (bearer_told b v m d name alone id there mid told1 old half gone1 c.give_named.ensures.rest later told2 third gone2 c.give_inode.ensures.rest) in
    subst (λ (f : ℕ → Bool). HasLastTaken b v later m (remove (attributes_at (volume_at (geometry_of s) m) c.args.inode) name) told3 f new) c.in-Ok-Some.ensures.changed
    (last_gone b v m d name alone id there mid told1 old half gone1 c.give_named.ensures.rest later told2 third gone2 c.give_inode.ensures.rest told3 put new c.in-Ok-clear_address.ensures.changed)

pub returns-in-Err-clear_address-clause-faults : goal.returns-in-Err-clear_address-clause-faults
returns-in-Err-clear_address-clause-faults g c m told =
    cause_sound (g.E.Blocks.counts c.give_inode.new.edits) (g.E.Blocks.counts c.clear_address.new.edits) c.in-Err-clear_address.fault c.in-Err-clear_address.ensures.cause

pub returns-in-Err-clear_address-clause-cause : goal.returns-in-Err-clear_address-clause-cause
returns-in-Err-clear_address-clause-cause g c =
    let c0 = g.E.Blocks.counts c.args.edits.now in
    let c1 = g.E.Blocks.counts c.number_at.new.under in
    let c2 = g.E.Blocks.counts c.give_named.new.edits in
    let c3 = g.E.Blocks.counts c.give_inode.new.edits in
    let c4 = g.E.Blocks.counts c.clear_address.new.edits in (
      tt,
      cause_later c0 c3 c4 c.in-Err-clear_address.fault (later_twice c0 c2 c3 (later_twice c0 c1 c2 c.in-Ok-Some.ensures.later c.in-Ok.ensures.later) c.in-Ok-give_inode.ensures.later)
          (caused_in c3 c4 c.in-Err-clear_address.fault c.in-Err-clear_address.ensures.cause),
    )

pub returns-in-Err-give_inode-clause-rest : goal.returns-in-Err-give_inode-clause-rest
returns-in-Err-give_inode-clause-rest g c = c.give_inode.ensures.rest ∙ ap (λ (x : Room). record x { given = c.give_inode.new.bitmap.given; tally = c.give_inode.new.bitmap.tally }) c.give_named.ensures.rest

pub returns-in-Err-give_inode-clause-kept : goal.returns-in-Err-give_inode-clause-kept
returns-in-Err-give_inode-clause-kept g c = c.give_inode.ensures.kept ∙ c.give_named.ensures.kept

pub returns-in-Ok-clear_address-clause-rest : goal.returns-in-Ok-clear_address-clause-rest
returns-in-Ok-clear_address-clause-rest g c = c.give_inode.ensures.rest ∙ ap (λ (x : Room). record x { given = c.give_inode.new.bitmap.given; tally = c.give_inode.new.bitmap.tally }) c.give_named.ensures.rest

pub returns-in-Ok-clear_address-clause-kept : goal.returns-in-Ok-clear_address-clause-kept
returns-in-Ok-clear_address-clause-kept g c = c.give_inode.ensures.kept ∙ c.give_named.ensures.kept

pub returns-in-Err-clear_address-clause-rest : goal.returns-in-Err-clear_address-clause-rest
returns-in-Err-clear_address-clause-rest g c = c.give_inode.ensures.rest ∙ ap (λ (x : Room). record x { given = c.give_inode.new.bitmap.given; tally = c.give_inode.new.bitmap.tally }) c.give_named.ensures.rest

pub returns-in-Err-clear_address-clause-kept : goal.returns-in-Err-clear_address-clause-kept
returns-in-Err-clear_address-clause-kept g c = c.give_inode.ensures.kept ∙ c.give_named.ensures.kept

pub returns-in-Ok-clear_address-clause-clear : goal.returns-in-Ok-clear_address-clause-clear
returns-in-Ok-clear_address-clause-clear g c m told =
    let s = c.args.site.sup in
    let b = bearer_of c.args.inode s in
    let v = c.args.bitmap.now in
    let d = c.args.directory in
    let name = c.args.name.now in
    let id = c.in-Ok-Some.id in
    let mid = c.give_named.new.bitmap in
    let later = c.give_inode.new.bitmap in
    let told1 = g.E.Blocks.told c.give_named.new.edits in
    let told2 = g.E.Blocks.told c.give_inode.new.edits in
    let told3 = g.E.Blocks.told c.clear_address.new.edits in
    let old = g.E.Blocks.changed c.number_at.new.under in
    let half = g.E.Blocks.changed c.give_named.new.edits in
    let third = g.E.Blocks.changed c.give_inode.new.edits in
    let alone = c.requires.alone m told in
    let t = tree_there s c.requires.valid c.args.inode v m d name alone.can in
    let there : assoc Text (rows_of Text (origin (geometry_of s) d) m) name ≡ Some (pos id) =
    subst (λ (o : Option ℕ). IsNumberAt Text (rows_of Text (origin (geometry_of s) d) m) name o) c.in-Ok-Some.field-0-is (c.in-Ok-Some.ensures.found m told t.tree) in
    let gone1 = c.in-Ok.ensures.given m (c.in-Ok-Some.ensures.told ∙ told) (first_held b v m d name alone id there) in
    let held = still_held b v m d name alone id there mid told1 old half gone1 c.give_named.ensures.rest in
    let gone2 = c.in-Ok-give_inode.ensures.given gone1.map gone1.is held.1.owns in
    let put = c.in-Ok-clear_address.ensures.written gone2.map gone2.is (bearer_told b v m d name alone id there mid told1 old half gone1 c.give_named.ensures.rest later told2 third gone2 c.give_inode.ensures.rest) in
    last_clear b v m d name alone id there mid told1 old half gone1 c.give_named.ensures.rest later told2 third gone2 c.give_inode.ensures.rest told3 put

pub returns-in-Err-give_inode-clause-standing : goal.returns-in-Err-give_inode-clause-standing
returns-in-Err-give_inode-clause-standing g c = c.give_inode.ensures.standing ∙ c.give_named.ensures.standing

pub returns-in-Ok-clear_address-clause-standing : goal.returns-in-Ok-clear_address-clause-standing
returns-in-Ok-clear_address-clause-standing g c = c.give_inode.ensures.standing ∙ c.give_named.ensures.standing

pub returns-in-Err-clear_address-clause-standing : goal.returns-in-Err-clear_address-clause-standing
returns-in-Err-clear_address-clause-standing g c = c.give_inode.ensures.standing ∙ c.give_named.ensures.standing
