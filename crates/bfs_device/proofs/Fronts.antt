-- The first of a device's groups.
use Rattle.std.proofs.Common.{◌≡◌, ◌<◌, ℕ, List, [], ◌∷◌, length, drop, get_or, arith, sym, ◌∙◌, refl, ap, subst, false, cond, Bool}
use Rattle.std.specs.Vec.{vec_capacity}
use Rattle.bfs_super.specs.declared.sup.Super.{Super}
use Rattle.bfs_super.specs.Conditions.{natural, IsValid}
use Rattle.bfs_txn.specs.declared.group.Group.{Group}
use Rattle.bfs_device.specs.declared.journal.Journal.{Journal}
use Rattle.bfs_device.specs.declared.journal.Phase.{Phase}
use Rattle.bfs_device.specs.declared.journal.Phase.TheVariants.{TailSafe}
use Rattle.bfs_device.specs.Layouts.{Layout, layout_of, closed_of}
use Rattle.bfs_device.specs.Phases.{none}
use Rattle.bfs_device.specs.Orders.{AllAscend}
use Rattle.bfs_device.specs.Books.{IsNext, Follow, IsPhaseOf, IsPhaseFor, Ready, waiting, is_durable}
use Rattle.bfs_device.specs.Steps.{front_phase, first_phase}
use Rattle.bfs_device.proofs.Going.{closed_valid}

pub front_list : (groups : List Group) (g : Group) → 0 < length groups → g ≡ get_or groups 0 g → groups ≡ g ∷ drop 1 groups
front_list [] g some is = absurd (omega arith)
front_list (x ∷ gs) g some is = ap (λ (y : Group). y ∷ gs) (sym is)

pub front_next : (l : Layout) (size left used : ℕ) (groups : List Group) (g : Group) → Follow l size left used groups → 0 < length groups → g ≡ get_or groups 0 g → IsNext l size left used g
front_next l size left used [] g follow some is = absurd (omega arith)
front_next l size left used (x ∷ gs) g follow some is = subst (IsNext l size left used) (sym is) follow.0

pub front_for : (gs : List Group) → IsPhaseFor gs (front_phase gs)
front_for [] = refl
front_for (g ∷ gs) = by_blocks g.blocks
  where
    by_blocks : (ps : List (ℕ × List ℕ)) → IsPhaseOf ps (first_phase ps)
    by_blocks [] = refl
    by_blocks (p ∷ ps) = omega arith

not_durable : (ps : List (ℕ × List ℕ)) → is_durable (first_phase ps) ≡ false
not_durable [] = refl
not_durable (p ∷ ps) = refl

pub front_waiting : (gs : List Group) → waiting gs (front_phase gs) ≡ gs
front_waiting [] = refl
front_waiting (g ∷ gs) = ap (λ (b : Bool). cond b gs (g ∷ gs)) (not_durable g.blocks)

-- the first group has left the log
pub left_ready : (j new : Journal) (g : Group) (gs : List Group) → Ready j → j.groups.items ≡ g ∷ gs → j.phase ≡ TailSafe
    → new.sup ≡ closed_of j.sup g → new.ordered ≡ j.ordered → new.groups.items ≡ gs → new.phase ≡ front_phase gs → new.left ≡ g.last → vec_capacity new.groups ≡ vec_capacity j.groups → new.marks ≡ j.marks → new.spare ≡ j.spare → new.buffer ≡ j.buffer
    → Ready new
left_ready j new g gs ready groups phase sup ordered items next left room marks spare buffer =
    let follow : Follow (layout_of j.sup) j.sup.block_size j.left (natural j.sup.used_blocks) (g ∷ gs) = subst (Follow (layout_of j.sup) j.sup.block_size j.left (natural j.sup.used_blocks)) groups ready.follow in
    let same : j.sup.log_start ≡ j.sup.log_end = ready.empty in
    let valid : IsValid (closed_of j.sup g) = closed_valid j.sup g (λ _. []) none ready.valid follow.0.sealed (ap natural same) in
    record {
      valid = subst IsValid (sym sup) valid;
      empty = subst (λ (s : Super). s.log_start ≡ s.log_end) (sym sup) refl;
      follow = subst (λ (s : Super). Follow (layout_of s) s.block_size new.left (natural s.used_blocks) new.groups.items) (sym sup)
          (subst (λ (n : ℕ). Follow (layout_of j.sup) j.sup.block_size n g.used new.groups.items) (sym left)
          (subst (Follow (layout_of j.sup) j.sup.block_size g.last g.used) (sym items) follow.1));
      phase = subst (λ (xs : List Group). IsPhaseFor xs new.phase) (sym items) (subst (IsPhaseFor gs) (sym next) (front_for gs));
      ordered = λ is. subst AllAscend (sym items) (subst AllAscend groups (ready.ordered (sym ordered ∙ is))).1;
      few = let long = ap length groups in let now = ap length items in omega (arith, ready.few, long, now);
      room = omega (arith, ready.room, room);
      marks =
          let wait_new : length (waiting new.groups.items new.phase) ≡ length gs = ap (λ (xs : List Group). length (waiting xs new.phase)) items ∙ ap (λ (p : Phase). length (waiting gs p)) next ∙ ap length (front_waiting gs) in
          let wait_old : length (waiting j.groups.items j.phase) ≡ length gs = ap (λ (xs : List Group). length (waiting xs j.phase)) groups ∙ ap (λ (p : Phase). length (waiting (g ∷ gs) p)) phase in
          let stored : length new.marks.items ≡ length j.marks.items = ap (λ m. length m.items) marks in
          let has : vec_capacity new.marks ≡ vec_capacity j.marks = ap vec_capacity marks in
          omega (arith, ready.marks, wait_new, wait_old, stored, has, spare);
      buffer = ap (λ b. length b.items) buffer ∙ ready.buffer ∙ sym (ap (λ (s : Super). s.block_size) sup);
    }
