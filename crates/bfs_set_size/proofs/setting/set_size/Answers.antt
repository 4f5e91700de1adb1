use Rattle.std.proofs.Common.{rules, ◌≡◌, ◌<◌, ◌≤◌, ◌^◌, ◌∙◌, [], ℕ, ℤ, List, Option, Bool, arith, sym, ap, subst}
use mir.Syntax.{w64}
use mir.Val.{to_z, of_z}
use Rattle.bfs_super.specs.Conditions.{natural}
use Rattle.bfs_super.specs.Geometry.{geometry_of}
use Rattle.bfs_bitmap.specs.Runs.{Room, as_kept}
use Rattle.bfs_shift.specs.Work.{IsAtWork}
use Rattle.bfs_look.specs.Ready.{IsReady}
use Rattle.bfs_look.proofs.Known.{few_blocks}
use Rattle.bfs_calls.proofs.Faulting.{undone_unanswered, cause_earlier}
use Rattle.bfs_make.proofs.Telling.{told_back, one_map}
use Rattle.bfs_set_size.specs.Relisted.{HasListedAnew, resized_node}
use Rattle.bfs_set_size.specs.Sized.{with_size, HasResized}
use Rattle.bfs_set_size.proofs.Refusing.{may_be, file_there}
use Rattle.bfs_set_size.proofs.Whole.{sized_so}
use Rattle.bfs_set_size.proofs.setting.set_size.Goals as goal

pub list_anew-requires-clause-id : goal.list_anew-requires-clause-id
list_anew-requires-clause-id g c =
    let low = c.requires.may.inside in
    let few = few_blocks c.args.sup.now c.requires.valid in
    below c.args.id (natural c.args.sup.now.num_blocks) low few
  where
    below : (k n : ℕ) → k < n → n ≤ 2 ^ 62 → k < 2 ^ 62
    below k n low few = omega (arith, low, few)

pub list_anew-requires-clause-resized : goal.list_anew-requires-clause-resized
list_anew-requires-clause-resized g c n told =
    let was : to_z w64 (of_z w64 c.in-Ok.before.modified) ≡ c.in-Ok.before.modified = search rules in
    let s = geometry_of c.args.sup.now in
    let id = c.args.id in
    let size = c.args.size in
    let back =
    told_back (g.E.Blocks.told c.before_at.new.edits) (g.E.Blocks.told c.resize.new.edits) (g.E.Blocks.frame c.before_at.new.edits).below (g.E.Blocks.frame c.resize.new.edits).below
    (g.met.E.Edits.tells c.before_at.new.edits) (g.met.E.Edits.tells c.resize.new.edits) (ap (λ f. f.below) c.in-Ok-resize.ensures.frame) n told in
    let m = back.0 in
    let first = sym c.in-Ok.ensures.told ∙ back.1 in
    let h = c.requires.ready m first in
    let f = file_there h.tree id size (c.requires.fine m h.tree h.lists first h.ready) in
    let b = c.in-Ok.ensures.found m h.tree h.lists f.0 first h.ready f.1 in
    let ready = subst (λ (v : Room). IsReady s v m h.tree h.lists) (sym c.in-Ok.ensures.bitmap) h.ready in
    let resized = c.in-Ok-resize.ensures.resized m h.tree h.lists [] f.0 back.1 ready.work ready.reserved f.1 f.2 b.size_is in
    record {
      tree = h.tree;
      since = with_size h.tree id size (to_z w64 (of_z w64 c.args.stamp));
      lists = h.lists;
      n = f.0;
      resized = record {
        work = subst (λ (k : ℕ → Option (List ℕ)). IsAtWork s c.resize.new.bitmap k (with_size h.tree id size (to_z w64 (of_z w64 c.args.stamp))) h.lists []) (one_map (g.E.Blocks.told c.resize.new.edits) resized.step.map n resized.step.is told) resized.step.work;
        agrees = h.ready.agrees;
        plain = h.ready.plain;
        there = f.1;
        file = f.2;
        built_in = b.indices;
      };
      size_is = b.size_is;
      modified_is = b.modified_is ∙ sym was;
    }

pub returns-in-Ok-list_anew-clause-done : goal.returns-in-Ok-list_anew-clause-done
returns-in-Ok-list_anew-clause-done g c m tree lists holds told ready fine =
    let was : to_z w64 (of_z w64 c.in-Ok.before.modified) ≡ c.in-Ok.before.modified = search rules in
    let s = geometry_of c.args.sup.now in
    let v = c.args.bitmap.now in
    let id = c.args.id in
    let size = c.args.size in
    let old = g.E.Blocks.changed c.args.edits.now in
    let time : to_z w64 (of_z w64 c.args.stamp) ≡ c.args.stamp = search rules in
    let f = may_be tree holds id size fine in
    let b = c.in-Ok.ensures.found m tree lists f.0 told ready f.1 in
    let ready_then = subst (λ (r : Room). IsReady s r m tree lists) (sym c.in-Ok.ensures.bitmap) ready in
    let got = c.in-Ok-resize.ensures.resized m tree lists [] f.0 (c.in-Ok.ensures.told ∙ told) ready_then.work ready_then.reserved f.1 f.2 b.size_is in
    let resized : HasResized s v c.resize.new.bitmap m tree lists [] id f.0.size size c.args.stamp (g.E.Blocks.told c.resize.new.edits) old (g.E.Blocks.changed c.resize.new.edits) =
    subst (λ (z : ℤ). HasResized s v c.resize.new.bitmap m tree lists [] id f.0.size size z (g.E.Blocks.told c.resize.new.edits) old (g.E.Blocks.changed c.resize.new.edits)) time
    (subst (λ (r : Room). HasResized s r c.resize.new.bitmap m tree lists [] id f.0.size size (to_z w64 (of_z w64 c.args.stamp)) (g.E.Blocks.told c.resize.new.edits) old (g.E.Blocks.changed c.resize.new.edits)) c.in-Ok.ensures.bitmap
    (subst (λ (x : ℕ → Bool). HasResized s c.before_at.new.bitmap c.resize.new.bitmap m tree lists [] id f.0.size size (to_z w64 (of_z w64 c.args.stamp)) (g.E.Blocks.told c.resize.new.edits) x (g.E.Blocks.changed c.resize.new.edits)) c.in-Ok.ensures.changed got)) in
    let anew = c.in-Ok-list_anew.ensures.listed resized.step.map tree (with_size tree id size c.args.stamp) lists f.0 resized.step.is
    (record { work = resized.step.work; agrees = ready.agrees; plain = ready.plain; there = f.1; file = f.2; built_in = b.indices }) b.size_is (b.modified_is ∙ sym was) in
    let listed : HasListedAnew s c.resize.new.bitmap c.list_anew.new.bitmap resized.step.map tree (with_size tree id size c.args.stamp) lists id f.0 (resized_node f.0 size c.args.stamp) (g.E.Blocks.told c.list_anew.new.edits) (g.E.Blocks.changed c.resize.new.edits) (g.E.Blocks.changed c.list_anew.new.edits) =
    subst (λ (z : ℤ). HasListedAnew s c.resize.new.bitmap c.list_anew.new.bitmap resized.step.map tree (with_size tree id size c.args.stamp) lists id f.0 (resized_node f.0 size z) (g.E.Blocks.told c.list_anew.new.edits) (g.E.Blocks.changed c.resize.new.edits) (g.E.Blocks.changed c.list_anew.new.edits)) time anew in
    sized_so s v c.resize.new.bitmap c.list_anew.new.bitmap m tree lists id size c.args.stamp f.0 holds (g.E.Blocks.told c.resize.new.edits) (g.E.Blocks.told c.list_anew.new.edits) old (g.E.Blocks.changed c.resize.new.edits) (g.E.Blocks.changed c.list_anew.new.edits)
    ready f.1 f.2 fine resized listed

pub returns-in-Err-clause-unanswered : goal.returns-in-Err-clause-unanswered
returns-in-Err-clause-unanswered g c m tree lists told ready =
    let f = file_there tree c.args.id c.args.size (c.requires.fine m tree lists told ready) in
    undone_unanswered c.in-Err.fault (c.in-Err.ensures.found m tree lists f.0 told ready f.1)

pub returns-in-Err-resize-clause-unanswered : goal.returns-in-Err-resize-clause-unanswered
returns-in-Err-resize-clause-unanswered g c m tree lists told ready =
    let s = geometry_of c.args.sup.now in
    let f = file_there tree c.args.id c.args.size (c.requires.fine m tree lists told ready) in
    let b = c.in-Ok.ensures.found m tree lists f.0 told ready f.1 in
    let ready_then = subst (λ (r : Room). IsReady s r m tree lists) (sym c.in-Ok.ensures.bitmap) ready in
    c.in-Err-resize.ensures.unanswered m tree lists [] f.0 (c.in-Ok.ensures.told ∙ told) ready_then.work ready_then.reserved f.1 f.2 b.size_is

pub returns-in-Err-list_anew-clause-unanswered : goal.returns-in-Err-list_anew-clause-unanswered
returns-in-Err-list_anew-clause-unanswered g c m tree lists told ready =
    let was : to_z w64 (of_z w64 c.in-Ok.before.modified) ≡ c.in-Ok.before.modified = search rules in
    let s = geometry_of c.args.sup.now in
    let id = c.args.id in
    let size = c.args.size in
    let f = file_there tree id size (c.requires.fine m tree lists told ready) in
    let b = c.in-Ok.ensures.found m tree lists f.0 told ready f.1 in
    let ready_then = subst (λ (r : Room). IsReady s r m tree lists) (sym c.in-Ok.ensures.bitmap) ready in
    let got = c.in-Ok-resize.ensures.resized m tree lists [] f.0 (c.in-Ok.ensures.told ∙ told) ready_then.work ready_then.reserved f.1 f.2 b.size_is in
    c.in-Err-list_anew.ensures.unanswered got.step.map tree (with_size tree id size (to_z w64 (of_z w64 c.args.stamp))) lists f.0 got.step.is
    (record { work = got.step.work; agrees = ready.agrees; plain = ready.plain; there = f.1; file = f.2; built_in = b.indices }) b.size_is (b.modified_is ∙ sym was)

pub returns-in-Err-resize-clause-cause : goal.returns-in-Err-resize-clause-cause
returns-in-Err-resize-clause-cause g c =
    cause_earlier (g.E.Blocks.counts c.args.edits.now) (g.E.Blocks.counts c.before_at.new.edits) (g.E.Blocks.counts c.resize.new.edits) c.in-Err-resize.fault c.in-Ok.ensures.later c.in-Err-resize.ensures.cause

pub returns-in-Err-list_anew-clause-cause : goal.returns-in-Err-list_anew-clause-cause
returns-in-Err-list_anew-clause-cause g c =
    cause_earlier (g.E.Blocks.counts c.args.edits.now) (g.E.Blocks.counts c.before_at.new.edits) (g.E.Blocks.counts c.list_anew.new.edits) c.in-Err-list_anew.fault c.in-Ok.ensures.later
    (cause_earlier (g.E.Blocks.counts c.before_at.new.edits) (g.E.Blocks.counts c.resize.new.edits) (g.E.Blocks.counts c.list_anew.new.edits) c.in-Err-list_anew.fault c.in-Ok-resize.ensures.later c.in-Err-list_anew.ensures.cause)

pub returns-in-Err-clause-kept : goal.returns-in-Err-clause-kept
returns-in-Err-clause-kept g c = ap as_kept c.before_at.ensures.bitmap

pub returns-in-Err-resize-clause-kept : goal.returns-in-Err-resize-clause-kept
returns-in-Err-resize-clause-kept g c = c.resize.ensures.kept ∙ ap as_kept c.before_at.ensures.bitmap

pub returns-in-Err-list_anew-clause-kept : goal.returns-in-Err-list_anew-clause-kept
returns-in-Err-list_anew-clause-kept g c = ap as_kept c.list_anew.ensures.rest ∙ c.resize.ensures.kept ∙ ap as_kept c.before_at.ensures.bitmap

pub returns-in-Ok-list_anew-clause-kept : goal.returns-in-Ok-list_anew-clause-kept
returns-in-Ok-list_anew-clause-kept g c = ap as_kept c.list_anew.ensures.rest ∙ c.resize.ensures.kept ∙ ap as_kept c.before_at.ensures.bitmap
