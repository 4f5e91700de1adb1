use Rattle.std.proofs.Common.{◌≡◌, ◌∙◌, ℕ, List, drop, Some, sym, ap, subst}
use Rattle.bfs_bytes.specs.Fields.{run_in}
use Rattle.bfs_inode.specs.Refusals.{Names}
use Rattle.bfs_super.specs.Conditions.{natural}
use Rattle.bfs_super.specs.Geometry.{geometry_of}
use Rattle.bfs_sound.specs.Volumes.{Volume}
use Rattle.bfs_look.specs.Claims.{kind_in, own_name_in}
use Rattle.bfs_look.proofs.Claiming.{tail_is, says_kind, says_name, says_parent}
use Rattle.bfs_look.proofs.claim.claim_in.Goals as goal

pub returns-in_default-parent_in : goal.returns-in_default-parent_in
returns-in_default-parent_in c blocks n eq has apart =
    let v : Volume = record { geometry = geometry_of c.args.site.sup; blocks = blocks } in
    let parent = c.parent_in.ensures n.parent (subst (λ (b : List ℕ). Names (run_in b 44) n.parent (natural c.args.site.sup.ag_shift)) eq (says_parent v c.args.id n has apart)) in
    c.in_default-parent_in.not-Some n.parent parent

pub returns : goal.returns
returns c blocks n eq has apart =
    let v : Volume = record { geometry = geometry_of c.args.site.sup; blocks = blocks } in
    let kind : Some n.kind ≡ Some c.in-Some.kind = sym (says_kind v c.args.id n has) ∙ ap kind_in eq ∙ sym c.in-Some.ensures in
    let same_kind : n.kind ≡ c.in-Some.kind = cc in
    let parent : Some c.in-Some-parent_in.parent ≡ Some n.parent = c.in-Some-parent_in.ensures n.parent (subst (λ (b : List ℕ). Names (run_in b 44) n.parent (natural c.args.site.sup.ag_shift)) eq (says_parent v c.args.id n has apart)) in
    let same_parent : n.parent ≡ c.in-Some-parent_in.parent = cc in
    c.claim_with.ensures n same_kind same_parent (ap own_name_in (tail_is c.args.block.now 232) ∙ sym (ap (λ (b : List ℕ). own_name_in (drop 232 b)) eq) ∙ says_name v c.args.id n has apart)
