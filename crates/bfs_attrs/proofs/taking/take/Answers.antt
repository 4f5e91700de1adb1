use Rattle.std.proofs.Common.{◌≡◌, ◌<◌, ◌∙◌, ℕ, List, Bool, Option, None, refl, ap, sym, subst, drop}
use Rattle.std.specs.Prelude.{IfSome}
use Rattle.bfs_super.specs.Conditions.{natural}
use Rattle.bfs_super.specs.Geometry.{geometry_of}
use Rattle.bfs_maps.proofs.Over.{on_ok}
use Rattle.bfs_sound.specs.Attributes.{attribute_directory}
use Rattle.bfs_attr.specs.Bearers.{bearer_of, volume_at}
use Rattle.bfs_attr.specs.Changed.{Holds, IsInSmallData, IsTakenFromSmall}
use Rattle.bfs_stream.proofs.Arrays.{later_twice}
use Rattle.bfs_smalldata.specs.Items.{items_of}
use Rattle.bfs_stream.specs.Told.{contents}
use Rattle.bfs_attr.specs.Written.{items_left}
use Rattle.bfs_attrs.proofs.Alike.{same_fit_told, taken_fit}
use Rattle.bfs_attrs.proofs.Clears.{undone_untouched, untouched_older}
use Rattle.bfs_attrs.proofs.Loses.{taken_clear, loses_one, loses_none}
use Rattle.bfs_attrs.proofs.Older.{taken_older}
use Rattle.bfs_make.proofs.Telling.{told_back, one_map}
use Rattle.bfs_attrs.proofs.Stood.{read_taken, take_earlier, take_earlier_kept, undone_removed, none_beyond}
use Rattle.bfs_attrs.proofs.taking.take.Goals as goal

pub returns-in-Err-clause-faults : goal.returns-in-Err-clause-faults
returns-in-Err-clause-faults g c m told =
    undone_removed (volume_at (geometry_of c.args.site.sup) m) c.args.inode c.args.name.now c.in-Err.fault (c.in-Err.ensures.taken c.args.bitmap.now m told (c.requires.holds m told))

pub returns-in-Err-clause-cause : goal.returns-in-Err-clause-cause
returns-in-Err-clause-cause g c = read_taken (g.E.Blocks.counts c.args.edits.now) (g.E.Blocks.counts c.take_from_small.new.edits) c.in-Err.fault c.in-Err.ensures.cause

pub returns-then-taken-clause-taken : goal.returns-then-taken-clause-taken
returns-then-taken-clause-taken g c m told =
    let b = bearer_of c.args.inode c.args.site.sup in
    let v = c.args.bitmap.now in
    subst (λ (t : Bool). IsTakenFromSmall b v m c.args.name.now (g.E.Blocks.told c.take_from_small.new.edits) (g.E.Blocks.changed c.args.edits.now) (g.E.Blocks.changed c.take_from_small.new.edits) t) c.if-taken.true
    (c.in-Ok.ensures.taken v m told (c.requires.holds m told))

pub take_stored-requires-clause-inside : goal.take_stored-requires-clause-inside
take_stored-requires-clause-inside g c =
    subst (λ (o : Option ℕ). IfSome o (λ d. d < natural c.args.site.sup.num_blocks)) c.in-Ok-Some.field-0-is c.in-Ok-Some.ensures.below

pub take_stored-requires-clause-holds : goal.take_stored-requires-clause-holds
take_stored-requires-clause-holds g c m told =
    let s = c.args.site.sup in
    let b = bearer_of c.args.inode s in
    let v = c.args.bitmap.now in
    let name = c.args.name.now in
    let t = g.E.Blocks.told c.take_from_small.new.edits in
    let mid = sym c.directory_at.ensures.told ∙ told in
    let before =
    told_back (g.E.Blocks.told c.args.edits.now) t (g.E.Blocks.frame c.args.edits.now).below (g.E.Blocks.frame c.take_from_small.new.edits).below
    (g.met.E.Edits.tells c.args.edits.now) (g.met.E.Edits.tells c.take_from_small.new.edits) (ap (λ f. f.below) c.in-Ok.ensures.frame) m mid in
    let holds = c.requires.holds before.0 before.1 in
    let none =
    subst (λ (x : Bool). IsTakenFromSmall b v before.0 name t (g.E.Blocks.changed c.args.edits.now) (g.E.Blocks.changed c.take_from_small.new.edits) x) c.if-taken.false
    (c.in-Ok.ensures.taken v before.0 before.1 holds) in
    let same : before.0 ≡ m = one_map t before.0 m none.1 mid in
    let now : Holds b v m = subst (λ (x : ℕ → Option (List ℕ)). Holds b v x) same holds in
    record {
      holds = now;
      there = sym (c.in-Ok-Some.ensures.found m mid now.inode) ∙ c.in-Ok-Some.field-0-is;
      beyond = subst (λ (x : ℕ → Option (List ℕ)). IsInSmallData (volume_at (geometry_of s) x) c.args.inode name → ⊥) same none.0;
    }

pub returns-in-Ok-Some-clause-taken : goal.returns-in-Ok-Some-clause-taken
returns-in-Ok-Some-clause-taken g c m told =
    let b = bearer_of c.args.inode c.args.site.sup in
    let v = c.args.bitmap.now in
    let name = c.args.name.now in
    let t = g.E.Blocks.told c.take_from_small.new.edits in
    let old = g.E.Blocks.changed c.args.edits.now in
    let half = g.E.Blocks.changed c.take_from_small.new.edits in
    let none =
    subst (λ (x : Bool). IsTakenFromSmall b v m name t old half x) c.if-taken.false (c.in-Ok.ensures.taken v m told (c.requires.holds m told)) in
    let new = g.E.Blocks.changed c.take_stored.new.edits in
    let after = g.E.Blocks.changed c.directory_at.new.under in
    let same : after ≡ half = c.directory_at.ensures.changed in
    on_ok _ _ c.take_stored.result (c.take_stored.ensures.taken m (c.directory_at.ensures.told ∙ none.1))
    (taken_older b v m old after new (λ k e. c.in-Ok.ensures.changed k (sym (ap (λ (f : ℕ → Bool). f k) same) ∙ e)) c.take_stored.new.bitmap name (g.E.Blocks.told c.take_stored.new.edits))

pub returns-in-Ok-Some-clause-faults : goal.returns-in-Ok-Some-clause-faults
returns-in-Ok-Some-clause-faults g c m told =
    let b = bearer_of c.args.inode c.args.site.sup in
    let v = c.args.bitmap.now in
    let none =
    subst (λ (x : Bool). IsTakenFromSmall b v m c.args.name.now (g.E.Blocks.told c.take_from_small.new.edits) (g.E.Blocks.changed c.args.edits.now) (g.E.Blocks.changed c.take_from_small.new.edits) x) c.if-taken.false
    (c.in-Ok.ensures.taken v m told (c.requires.holds m told)) in
    c.take_stored.ensures.faults m (c.directory_at.ensures.told ∙ none.1)

pub returns-in-Ok-Some-clause-cause : goal.returns-in-Ok-Some-clause-cause
returns-in-Ok-Some-clause-cause g c =
    let c0 = g.E.Blocks.counts c.args.edits.now in
    let c1 = g.E.Blocks.counts c.take_from_small.new.edits in
    let c2 = g.E.Blocks.counts c.directory_at.new.under in
    take_earlier_kept c0 c2 (g.E.Blocks.counts c.take_stored.new.edits) c.take_stored.result (later_twice c0 c1 c2 c.in-Ok.ensures.later c.in-Ok-Some.ensures.later) c.take_stored.ensures.cause

pub returns-in-Ok-None-clause-faults : goal.returns-in-Ok-None-clause-faults
returns-in-Ok-None-clause-faults g c m told =
    let s = c.args.site.sup in
    let b = bearer_of c.args.inode s in
    let v = c.args.bitmap.now in
    let holds = c.requires.holds m told in
    let none =
    subst (λ (x : Bool). IsTakenFromSmall b v m c.args.name.now (g.E.Blocks.told c.take_from_small.new.edits) (g.E.Blocks.changed c.args.edits.now) (g.E.Blocks.changed c.take_from_small.new.edits) x) c.if-taken.false
    (c.in-Ok.ensures.taken v m told holds) in
    let missing : attribute_directory (volume_at (geometry_of s) m) c.args.inode ≡ None = sym (c.in-Ok-None.ensures.found m none.1 holds.inode) ∙ c.in-Ok-None.field-0-is in
    none_beyond b v m c.args.name.now holds none.0 missing

pub returns-in-Err-directory_at-clause-faults : goal.returns-in-Err-directory_at-clause-faults
returns-in-Err-directory_at-clause-faults g c m told =
    let s = c.args.site.sup in
    let b = bearer_of c.args.inode s in
    let v = c.args.bitmap.now in
    let holds = c.requires.holds m told in
    let none =
    subst (λ (x : Bool). IsTakenFromSmall b v m c.args.name.now (g.E.Blocks.told c.take_from_small.new.edits) (g.E.Blocks.changed c.args.edits.now) (g.E.Blocks.changed c.take_from_small.new.edits) x) c.if-taken.false
    (c.in-Ok.ensures.taken v m told holds) in
    undone_removed (volume_at (geometry_of s) m) c.args.inode c.args.name.now c.in-Err-directory_at.fault (c.in-Err-directory_at.ensures.sound m none.1 holds.inode holds.stands)

pub returns-in-Err-directory_at-clause-cause : goal.returns-in-Err-directory_at-clause-cause
returns-in-Err-directory_at-clause-cause g c =
    let c0 = g.E.Blocks.counts c.args.edits.now in
    let c1 = g.E.Blocks.counts c.take_from_small.new.edits in
    let c2 = g.E.Blocks.counts c.directory_at.new.under in
    take_earlier c0 c1 c2 c.in-Err-directory_at.fault c.in-Ok.ensures.later (read_taken c1 c2 c.in-Err-directory_at.fault c.in-Err-directory_at.ensures.cause)

pub returns-in-Err-clause-absent : goal.returns-in-Err-clause-absent
returns-in-Err-clause-absent g c m told =
    let b = bearer_of c.args.inode c.args.site.sup in
    let v = c.args.bitmap.now in
    undone_untouched b v v m (g.E.Blocks.told c.take_from_small.new.edits) (g.E.Blocks.changed c.args.edits.now) (g.E.Blocks.changed c.take_from_small.new.edits) c.in-Err.fault
    (c.in-Err.ensures.taken v m told (c.requires.holds m told))

pub returns-then-taken-clause-alike : goal.returns-then-taken-clause-alike
returns-then-taken-clause-alike g c m told =
    let b = bearer_of c.args.inode c.args.site.sup in
    let v = c.args.bitmap.now in
    let name = c.args.name.now in
    let t = g.E.Blocks.told c.take_from_small.new.edits in
    let holds = c.requires.holds m told in
    let taken =
    subst (λ (x : Bool). IsTakenFromSmall b v m name t (g.E.Blocks.changed c.args.edits.now) (g.E.Blocks.changed c.take_from_small.new.edits) x) c.if-taken.true (c.in-Ok.ensures.taken v m told holds) in
    let left =
    subst (λ (x : Bool). IfSome t (λ map. items_of (drop 232 (contents map c.args.inode)) ≡ items_left name (items_of (drop 232 (contents m c.args.inode))) x)) c.if-taken.true (c.in-Ok.ensures.items v m told holds) in
    taken_fit b v m taken.now_are.map name (g.E.Blocks.size c.args.edits.now) (g.E.Blocks.size c.take_from_small.new.edits) (g.E.Blocks.told c.args.edits.now) t (g.met.E.Blocks.sized c.args.edits.now) (g.met.E.Blocks.sized c.take_from_small.new.edits)
    c.in-Ok.ensures.size told taken.now_are.is holds taken.now_are.holds.inode left

pub returns-in-Ok-Some-clause-alike : goal.returns-in-Ok-Some-clause-alike
returns-in-Ok-Some-clause-alike g c m told =
    let b = bearer_of c.args.inode c.args.site.sup in
    let v = c.args.bitmap.now in
    let none =
    subst (λ (x : Bool). IsTakenFromSmall b v m c.args.name.now (g.E.Blocks.told c.take_from_small.new.edits) (g.E.Blocks.changed c.args.edits.now) (g.E.Blocks.changed c.take_from_small.new.edits) x) c.if-taken.false
    (c.in-Ok.ensures.taken v m told (c.requires.holds m told)) in
    on_ok _ _ c.take_stored.result (c.take_stored.ensures.small m (c.directory_at.ensures.told ∙ none.1))
    (same_fit_told c.args.name.now (drop 232 (contents m c.args.inode)) c.args.inode (g.E.Blocks.told c.take_stored.new.edits))

pub returns-in-Ok-Some-clause-absent : goal.returns-in-Ok-Some-clause-absent
returns-in-Ok-Some-clause-absent g c m told =
    let b = bearer_of c.args.inode c.args.site.sup in
    let v = c.args.bitmap.now in
    let none =
    subst (λ (x : Bool). IsTakenFromSmall b v m c.args.name.now (g.E.Blocks.told c.take_from_small.new.edits) (g.E.Blocks.changed c.args.edits.now) (g.E.Blocks.changed c.take_from_small.new.edits) x) c.if-taken.false
    (c.in-Ok.ensures.taken v m told (c.requires.holds m told)) in
    let old = g.E.Blocks.changed c.args.edits.now in
    let half = g.E.Blocks.changed c.take_from_small.new.edits in
    let after = g.E.Blocks.changed c.directory_at.new.under in
    let same : after ≡ half = c.directory_at.ensures.changed in
    untouched_older b v c.take_stored.new.bitmap m (g.E.Blocks.told c.take_stored.new.edits) old after (g.E.Blocks.changed c.take_stored.new.edits) (λ k e. c.in-Ok.ensures.changed k (sym (ap (λ (f : ℕ → Bool). f k) same) ∙ e)) c.take_stored.result
    (c.take_stored.ensures.absent m (c.directory_at.ensures.told ∙ none.1))

pub returns-in-Ok-None-clause-absent : goal.returns-in-Ok-None-clause-absent
returns-in-Ok-None-clause-absent g c m told =
    let b = bearer_of c.args.inode c.args.site.sup in
    let v = c.args.bitmap.now in
    let none =
    subst (λ (x : Bool). IsTakenFromSmall b v m c.args.name.now (g.E.Blocks.told c.take_from_small.new.edits) (g.E.Blocks.changed c.args.edits.now) (g.E.Blocks.changed c.take_from_small.new.edits) x) c.if-taken.false
    (c.in-Ok.ensures.taken v m told (c.requires.holds m told)) in
    let old = g.E.Blocks.changed c.args.edits.now in
    let half = g.E.Blocks.changed c.take_from_small.new.edits in
    let after = g.E.Blocks.changed c.directory_at.new.under in
    let same : after ≡ half = c.directory_at.ensures.changed in
    (refl, c.directory_at.ensures.told ∙ none.1, λ k e. c.in-Ok.ensures.changed k (sym (ap (λ (f : ℕ → Bool). f k) same) ∙ e))

pub returns-in-Err-directory_at-clause-absent : goal.returns-in-Err-directory_at-clause-absent
returns-in-Err-directory_at-clause-absent g c m told =
    let b = bearer_of c.args.inode c.args.site.sup in
    let v = c.args.bitmap.now in
    let none =
    subst (λ (x : Bool). IsTakenFromSmall b v m c.args.name.now (g.E.Blocks.told c.take_from_small.new.edits) (g.E.Blocks.changed c.args.edits.now) (g.E.Blocks.changed c.take_from_small.new.edits) x) c.if-taken.false
    (c.in-Ok.ensures.taken v m told (c.requires.holds m told)) in
    let holds = c.requires.holds m told in
    undone_untouched b v v m (g.E.Blocks.told c.directory_at.new.under) (g.E.Blocks.changed c.args.edits.now) (g.E.Blocks.changed c.directory_at.new.under) c.in-Err-directory_at.fault (c.in-Err-directory_at.ensures.sound m none.1 holds.inode holds.stands)

pub returns-then-taken-clause-clear : goal.returns-then-taken-clause-clear
returns-then-taken-clause-clear g c m told =
    let b = bearer_of c.args.inode c.args.site.sup in
    let v = c.args.bitmap.now in
    let name = c.args.name.now in
    let t = g.E.Blocks.told c.take_from_small.new.edits in
    let taken =
    subst (λ (x : Bool). IsTakenFromSmall b v m name t (g.E.Blocks.changed c.args.edits.now) (g.E.Blocks.changed c.take_from_small.new.edits) x) c.if-taken.true
    (c.in-Ok.ensures.taken v m told (c.requires.holds m told)) in
    taken_clear b v m name t (g.E.Blocks.changed c.args.edits.now) (g.E.Blocks.changed c.take_from_small.new.edits) taken

pub returns-in-Ok-Some-clause-clear : goal.returns-in-Ok-Some-clause-clear
returns-in-Ok-Some-clause-clear g c m told =
    let b = bearer_of c.args.inode c.args.site.sup in
    let v = c.args.bitmap.now in
    let none =
    subst (λ (x : Bool). IsTakenFromSmall b v m c.args.name.now (g.E.Blocks.told c.take_from_small.new.edits) (g.E.Blocks.changed c.args.edits.now) (g.E.Blocks.changed c.take_from_small.new.edits) x) c.if-taken.false
    (c.in-Ok.ensures.taken v m told (c.requires.holds m told)) in
    c.take_stored.ensures.clear m (c.directory_at.ensures.told ∙ none.1)

pub returns-then-taken-clause-items : goal.returns-then-taken-clause-items
returns-then-taken-clause-items g c m told =
    let v = c.args.bitmap.now in
    let name = c.args.name.now in
    let t = g.E.Blocks.told c.take_from_small.new.edits in
    let holds = c.requires.holds m told in
    let left =
    subst (λ (x : Bool). IfSome t (λ map. items_of (drop 232 (contents map c.args.inode)) ≡ items_left name (items_of (drop 232 (contents m c.args.inode))) x)) c.if-taken.true (c.in-Ok.ensures.items v m told holds) in
    loses_one name (drop 232 (contents m c.args.inode)) c.args.inode t (c.in-Ok.ensures.small v m told holds c.if-taken.true) left

pub returns-in-Ok-Some-clause-items : goal.returns-in-Ok-Some-clause-items
returns-in-Ok-Some-clause-items g c m told =
    let b = bearer_of c.args.inode c.args.site.sup in
    let v = c.args.bitmap.now in
    let none =
    subst (λ (x : Bool). IsTakenFromSmall b v m c.args.name.now (g.E.Blocks.told c.take_from_small.new.edits) (g.E.Blocks.changed c.args.edits.now) (g.E.Blocks.changed c.take_from_small.new.edits) x) c.if-taken.false
    (c.in-Ok.ensures.taken v m told (c.requires.holds m told)) in
    on_ok _ _ c.take_stored.result (c.take_stored.ensures.small m (c.directory_at.ensures.told ∙ none.1))
    (loses_none c.args.name.now (drop 232 (contents m c.args.inode)) c.args.inode (g.E.Blocks.told c.take_stored.new.edits))
