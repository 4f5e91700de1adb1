-- What a hold that is taken leaves of the state, and what its release does; bytes that are learnt.
use Rattle.std.proofs.Common.{◌≡◌, ◌≤◌, ◌<◌, ◌+◌, ◌⊎◌, ⊎_elim, inl, inr, ◌++◌, ℕ, zero, suc, ℤ, List, [], ◌∷◌, Bool, true, false, cond, Option, Some, None, refl, sym, ◌∙◌, ap, append_assoc, append-nil, subst, arith}
use Rattle.std.specs.Prelude.{not, nat_lt, ◌||◌, slice_get}
use Rattle.std.specs.List.{list_any}
use Rattle.std.specs.Cmp.{nat_cmp_total, IsTotalOrder}
use Rattle.std.specs.declared.cmp.Ordering.{Ordering}
use Rattle.std.specs.declared.cmp.Ordering.TheVariants.{Less, Equal, Greater}
use Rattle.std.specs.Ordering.{nat_cmp, ordering_then, is_eq, eq_by_cmp}
use Rattle.std.specs.FinMap.{get, insert, get-insert, get-retain_keys, nat_cmp-IsAntisymmetric}
use Rattle.std.proofs.lemmas.Bool.{true≢false}
use Rattle.std.proofs.lemmas.Cmp.{on_total, then_total}
use Rattle.bfs_tree.specs.declared.call.Call.TheVariants as calls
use Rattle.bfs_tree.specs.declared.reply.Reply.{Reply}
use Rattle.bfs_tree.specs.declared.reply.Reply.TheVariants as replies
use Rattle.bfs_tree.specs.declared.reply.Entry.{Entry}
use Rattle.bfs_tree.specs.declared.state.Hold.{Hold}
use Rattle.bfs_tree.specs.Changes.{changed_at, holding, released, with_node}
use Rattle.bfs_tree.specs.Histories.{Mounted, Follows, LegalFrom}
use Rattle.bfs_tree.specs.Refusals.{at_node, first, held, is_past, own_refusal}
use Rattle.bfs_tree.specs.States.{Known, State, conflict, forget_piece, is_hold_of, is_in, last_hold, learn, place_cmp}
use Rattle.bfs_tree.specs.Steps.{ByTree, Turn}
use Rattle.bfs_tree.specs.Trees.{Node, Nodes, is_file}
use Rattle.bfs_tree.proofs.Replies.{own-refuses}
use Rattle.bfs_pieces.specs.Pieces.{IsUnknown}

-- ---- the last entry of a legal history

legal_last : (t0 : Mounted) (front es : List Entry) (e : Entry) → LegalFrom t0 front (es ++ e ∷ []) → Follows t0 (front ++ es) e
legal_last t0 front [] e legal = subst (λ (h : List Entry). Follows t0 h e) (sym (append-nil front)) legal.0
legal_last t0 front (x ∷ es) e legal = subst (λ (h : List Entry). Follows t0 h e) (append_assoc front (x ∷ []) es) (legal_last t0 (front ++ x ∷ []) es e legal.1)

-- ---- a hold that has no refusal of its own

pub first_none : (b : Bool) (r : Reply) (rest : List (Bool × Reply)) → first ((b, r) ∷ rest) ≡ None → (b ≡ false) × (first rest ≡ None)
first_none true r rest e = absurd (let bad : Some r ≡ None = e in cc)
first_none false r rest e = (refl, e)

not_false : (b : Bool) → not b ≡ false → b ≡ true
not_false true e = refl
not_false false e = absurd (true≢false e)

not_past : (size at count : ℕ) → is_past size at count ≡ false → at + count ≤ size
not_past size at count e = grind (arith, e)

-- the file of which a piece is held
pub record IsHeldFile (nodes : Nodes) (id at count : ℕ) : Type 0 where
  pub node : Node
  pub there : get nodes id ≡ Some node
  pub file : is_file node.kind ≡ true
  pub within : at + count ≤ node.size

pub unrefused : (s : State) (id at count : ℕ) (w : Bool) → own_refusal (calls.Hold id at count w) s ≡ None → IsHeldFile s.tree.nodes id at count
unrefused s id at count w none = by_node (get s.tree.nodes id) refl none
  where
    by_node : (o : Option Node) → get s.tree.nodes id ≡ o
        → first (at_node o (λ (node : Node). (not (is_file node.kind), replies.NotFile) ∷ (nat_lt 65536 count, replies.TooBig) ∷ (is_past node.size at count, replies.PastEnd node.size) ∷ held (conflict s.holds id w))) ≡ None
        → IsHeldFile s.tree.nodes id at count
    by_node None is e = absurd (let bad : Some replies.NotFound ≡ None = e in cc)
    by_node (Some n) is e =
        let a = first_none (not (is_file n.kind)) replies.NotFile ((nat_lt 65536 count, replies.TooBig) ∷ (is_past n.size at count, replies.PastEnd n.size) ∷ held (conflict s.holds id w)) e in
        let b = first_none (nat_lt 65536 count) replies.TooBig ((is_past n.size at count, replies.PastEnd n.size) ∷ held (conflict s.holds id w)) a.1 in
        let c = first_none (is_past n.size at count) (replies.PastEnd n.size) (held (conflict s.holds id w)) b.1 in
        record { node = n; there = is; file = not_false (is_file n.kind) a.0; within = not_past n.size at count c.0 }

hold_unrefused : (session : ℕ) (stamp : ℤ) (id at count : ℕ) (w : Bool) (s t : State) → Turn session stamp (calls.Hold id at count w) replies.Done s t → own_refusal (calls.Hold id at count w) s ≡ None
hold_unrefused session stamp id at count w s t (Turn.by_tree (ByTree.refused refusal same)) = absurd (true≢false (own-refuses (calls.Hold id at count w) s replies.Done refusal))
hold_unrefused session stamp id at count w s t (Turn.by_tree (ByTree.answered none answer same)) = none
hold_unrefused session stamp id at count w s t (Turn.by_disk disk same) = absurd (true≢false (sym (let bad : false ≡ true = disk in bad)))
hold_unrefused session stamp id at count w s t (Turn.no_room none changes room same) = none

-- ---- the state that it leaves

same_id : (id : ℕ) → eq_by_cmp nat_cmp id id ≡ true
same_id id = grind arith

put_here : (nodes : Nodes) (id : ℕ) (f : Node → Node) (n : Node) → get nodes id ≡ Some n → get (with_node nodes id f) id ≡ Some (f n)
put_here nodes id f n is =
    ap (λ (o : Option Node). get (changed_at f o id nodes) id) is ∙ get-insert nat_cmp_total nodes id (f n) id ∙ ap (λ (b : Bool). cond b (Some (f n)) (get nodes id)) (same_id id)

abbrev pub hold_as : ℕ → ℕ → ℕ → ℕ → Bool → Hold
hold_as session id at count w = record { session = session; id = id; at = at; length = count; write = w }

pub held_file : (s : State) (session id at count : ℕ) (stamp : ℤ) (w : Bool) → IsHeldFile s.tree.nodes id at count → IsHeldFile (holding s (hold_as session id at count w) stamp).tree.nodes id at count
held_file s session id at count stamp true f = record {
  node = record f.node { modified = stamp; changed = stamp };
  there = put_here s.tree.nodes id (λ (n : Node). record n { modified = stamp; changed = stamp }) f.node f.there;
  file = f.file;
  within = f.within;
}
held_file s session id at count stamp false f = f

held_holds : (s : State) (session id at count : ℕ) (stamp : ℤ) (w : Bool) → (holding s (hold_as session id at count w) stamp).holds ≡ s.holds ++ hold_as session id at count w ∷ []
held_holds s session id at count stamp true = refl
held_holds s session id at count stamp false = refl

-- only equal places tie
same_place : (p q : ℕ × ℕ) → place_cmp p q ≡ Equal → p ≡ q
same_place p q e =
    elim (nat_cmp p.0 q.0) as (λ o. nat_cmp p.0 q.0 ≡ o → ordering_then o (nat_cmp p.1 q.1) ≡ Equal → p ≡ q) [
      | Less ↦ λ _ no_tie. cc
      | Equal ↦ λ first second i. (nat_cmp-IsAntisymmetric p.0 q.0 first i, nat_cmp-IsAntisymmetric p.1 q.1 second i)
      | Greater ↦ λ _ no_tie. cc
    ] refl e

inside : (id at count k : ℕ) → k < count → not (is_in id at count (id, at + k)) ≡ false
inside id at count k lt = grind (arith, lt)

forgotten : (known : Known) (id at count k : ℕ) → k < count → get (forget_piece known id at count) (id, at + k) ≡ None
forgotten known id at count k lt =
    get-retain_keys known (λ place. not (is_in id at count place)) (id, at + k) (λ x e. ap (λ place. not (is_in id at count place)) (sym (same_place (id, at + k) x e)))
    ∙ ap (λ (b : Bool). cond b (get known (id, at + k)) None) (inside id at count k lt)

pub held_unknown : (s : State) (session id at count : ℕ) (stamp : ℤ) (w : Bool) → w ≡ true → IsUnknown (holding s (hold_as session id at count w) stamp).known id at count
held_unknown s session id at count stamp true is k lt = forgotten s.known id at count k lt
held_unknown s session id at count stamp false is k lt = absurd (true≢false (sym is))

-- ---- a session's last hold on a node

pub any_last : (session id : ℕ) (holds : List Hold) (h : Hold) → is_hold_of session id h ≡ true → list_any (is_hold_of session id) (holds ++ h ∷ []) ≡ true
any_last session id [] h is = ap (λ (b : Bool). b || false) is
any_last session id (x ∷ xs) h is = by_first (is_hold_of session id x) (any_last session id xs h is)
  where
    by_first : (b : Bool) → list_any (is_hold_of session id) (xs ++ h ∷ []) ≡ true → (b || list_any (is_hold_of session id) (xs ++ h ∷ [])) ≡ true
    by_first true e = refl
    by_first false e = e

pub last_is : (session id : ℕ) (holds : List Hold) (h : Hold) → is_hold_of session id h ≡ true → last_hold (holds ++ h ∷ []) session id ≡ Some h
last_is session id [] h is = ap (λ (b : Bool). cond b (Some h) None) is
last_is session id (x ∷ xs) h is =
    ap (λ (b : Bool). cond b (last_hold (xs ++ h ∷ []) session id) (cond (is_hold_of session id x) (Some x) None)) (any_last session id xs h is) ∙ last_is session id xs h is

pub own_hold : (session id at count : ℕ) (w : Bool) → is_hold_of session id (hold_as session id at count w) ≡ true
own_hold session id at count w = grind arith

-- ---- bytes that are learnt

place_cmp_total : IsTotalOrder place_cmp
place_cmp_total = then_total (on_total (λ (p : ℕ × ℕ). p.0) nat_cmp_total) (on_total (λ (p : ℕ × ℕ). p.1) nat_cmp_total)

tied : (p q : ℕ × ℕ) → eq_by_cmp place_cmp p q ≡ true → p ≡ q
tied p q tie = by_order (place_cmp p q) refl tie
  where
    by_order : (o : Ordering) → place_cmp p q ≡ o → is_eq o ≡ true → p ≡ q
    by_order Less is e = absurd (true≢false (sym e))
    by_order Equal is e = same_place p q is
    by_order Greater is e = absurd (true≢false (sym e))

-- the byte at a place is one of these, from a place of the file on
pub record IsLearnt (id at : ℕ) (bytes : List ℕ) (q : ℕ × ℕ) (byte : ℕ) : Type 0 where
  pub k : ℕ
  pub is : slice_get bytes k ≡ Some byte
  pub place : q ≡ (id, at + k)

pub learnt : (known : Known) (id at : ℕ) (bytes : List ℕ) (q : ℕ × ℕ) (byte : ℕ) → get (learn known id at bytes) q ≡ Some byte
    → (get known q ≡ Some byte) ⊎ IsLearnt id at bytes q byte
learnt known id at [] q byte is = inl is
learnt known id at (b ∷ bs) q byte is = ⊎_elim
    (λ before. by_tie (eq_by_cmp place_cmp q (id, at)) refl (sym (get-insert place_cmp_total known (id, at) b q) ∙ before))
    (λ later. inr (record { k = suc later.k; is = later.is; place = later.place ∙ ap (λ (n : ℕ). (id, n)) (let e : at + 1 + later.k ≡ at + suc later.k = omega arith in e) }))
    (learnt (insert known (id, at) b) id (at + 1) bs q byte is)
  where
    by_tie : (tie : Bool) → eq_by_cmp place_cmp q (id, at) ≡ tie → cond tie (Some b) (get known q) ≡ Some byte → (get known q ≡ Some byte) ⊎ IsLearnt id at (b ∷ bs) q byte
    by_tie true tie e = inr (record { k = zero; is = e; place = tied q (id, at) tie ∙ ap (λ (n : ℕ). (id, n)) (let e : at ≡ at + 0 = omega arith in e) })
    by_tie false tie e = inl e

-- ---- the release

pub released_tree : (s : State) (session id : ℕ) (bytes : List ℕ) (whole : Bool) (o : Option Hold) → (released s session id bytes whole o).tree ≡ s.tree
released_tree s session id bytes whole None = refl
released_tree s session id bytes whole (Some h) = refl
