-- What stands of the holds after a legal history, and what an entry of another session leaves of them.
use Rattle.std.proofs.Common.{◌≡◌, ◌≢◌, ◌≤◌, ◌<◌, ◌+◌, ◌⊎◌, ⊎_elim, inl, inr, ◌++◌, ℕ, zero, suc, pred, ℤ, List, [], ◌∷◌, length, Bool, true, false, cond, Option, Some, None, refl, sym, ◌∙◌, ap, append_assoc, append-nil, subst, arith}
use Rattle.std.specs.Prelude.{◌==◌, ◌&&◌, ◌||◌, not, nat_lt, slice_get}
use Rattle.std.specs.List.{find, list_any}
use Rattle.std.specs.Ordering.{nat_cmp, eq_by_cmp}
use Rattle.std.specs.Cmp.{nat_cmp_total}
use Rattle.std.specs.FinMap.{get, insert, remove, get-insert, get-remove}
use Rattle.std.proofs.lemmas.Bool.{true≢false, or_left, or_right}
use Rattle.std.proofs.lemmas.Grind.{fold-append}
use Rattle.bfs_tree.specs.declared.call.Kind.{Kind}
use Rattle.bfs_tree.specs.declared.call.Call.{Call}
use Rattle.bfs_tree.specs.declared.call.Call.TheVariants as calls
use Rattle.bfs_tree.specs.declared.reply.Reply.{Reply}
use Rattle.bfs_tree.specs.declared.reply.Reply.TheVariants as replies
use Rattle.bfs_tree.specs.declared.reply.Entry.{Entry}
use Rattle.bfs_tree.specs.declared.state.Hold.{Hold}
use Rattle.bfs_tree.specs.Answers.{IsAnswer}
use Rattle.bfs_tree.specs.Changes.{changed, changed_at, holding, holding_to_write, id_made, kind_made, moved, moved_over, released, removed, renamed, touched, with_node, without_node}
use Rattle.bfs_tree.specs.Histories.{Mounted, Follows, Legal, LegalFrom, start, state_after}
use Rattle.bfs_tree.specs.Names.{is_bad_name, target_of}
use Rattle.bfs_tree.specs.Refusals.{at_child, at_node, at_replaced, first, held, is_full, is_inside, is_one_dir, is_past, own_refusal, replaced}
use Rattle.bfs_tree.specs.States.{Known, State, conflict, is_hold_of, last_hold, learn, without_last}
use Rattle.bfs_tree.specs.Steps.{ByTree, Turn, is_done, next}
use Rattle.bfs_tree.specs.Trees.{Node, Nodes, Tree, child, is_dir, is_file, new_node}
use Rattle.bfs_tree.proofs.Replies.{disk-refuses, own-refuses, room-refuses}
use Rattle.bfs_pieces.specs.Pieces.{IsUnknown}
use Rattle.bfs_space.specs.Files.{lets_go}
use Rattle.bfs_space.specs.Holds.{held_by, held_next, held_since, holds_after, without_hold}
use Rattle.bfs_space.proofs.Held.{entry_is_held, held_is_after}
use Rattle.bfs_space.proofs.Known.{known_stays}
use Rattle.bfs_commit.proofs.Taken.{IsHeldFile, first_none, held_file, held_unknown, hold_as, learnt, released_tree, unrefused}
use Rattle.bfs_commit.specs.Holding.{HeldKeepSize, HoldsAreOnFiles, IsOneOf, IsOnFile, OthersStayHeld, WritersAreAlone}

-- ---- tests

both : (a b : Bool) → (a && b) ≡ true → (a ≡ true) × (b ≡ true)
both true b e = (refl, e)
both false b e = absurd (true≢false (sym e))

same_number : (a b : ℕ) → (a == b) ≡ true → a ≡ b
same_number a b e = grind (arith, e)

equal_test : (a b : ℕ) → a ≡ b → (a == b) ≡ true
equal_test a b e = grind (arith, e)

some_same : (g h : Hold) → Some g ≡ Some h → g ≡ h
some_same g h e = cc

tied : (id at : ℕ) → eq_by_cmp nat_cmp id at ≡ true → id ≡ at
tied id at tie = grind (arith, tie)

put_get : (nodes : Nodes) (at : ℕ) (x : Node) (id : ℕ) (b : Bool) → eq_by_cmp nat_cmp id at ≡ b → get (insert nodes at x) id ≡ cond b (Some x) (get nodes id)
put_get nodes at x id b tie = get-insert nat_cmp_total nodes at x id ∙ ap (λ c. cond c (Some x) (get nodes id)) tie

taken_get : (nodes : Nodes) (at id : ℕ) (b : Bool) → eq_by_cmp nat_cmp id at ≡ b → get (remove nodes at) id ≡ cond b None (get nodes id)
taken_get nodes at id b tie = get-remove nat_cmp_total nodes at id ∙ ap (λ c. cond c None (get nodes id)) tie

-- ---- a session's last hold on a node, and the holds without it

-- the place among all of what comes at place i without the one at k
abbrev past : ℕ → ℕ → ℕ
past zero i = suc i
past (suc k) zero = zero
past (suc k) (suc i) = suc (past k i)

before_past : (k i : ℕ) → i ≢ k → (j : ℕ) × (past k j ≡ i)
before_past zero zero other = absurd (other refl)
before_past zero (suc i) other = (i, refl)
before_past (suc k) zero other = (zero, refl)
before_past (suc k) (suc i) other = let j = before_past k i (λ e. other (ap suc e)) in (suc j.0, ap suc j.1)

-- the hold's place among all; the others keep their order
record IsLast (holds : List Hold) (session id : ℕ) (hold : Hold) : Type 0 where
  pub place : ℕ
  pub is : slice_get holds place ≡ Some hold
  pub own : is_hold_of session id hold ≡ true
  pub rest : (i : ℕ) → slice_get (without_last holds session id) i ≡ slice_get holds (past place i)

last_of : (holds : List Hold) (session id : ℕ) (hold : Hold) → last_hold holds session id ≡ Some hold → IsLast holds session id hold
last_of [] session id hold is = absurd (let bad : None ≡ Some hold = is in cc)
last_of (h ∷ hs) session id hold is = by_later (list_any (is_hold_of session id) hs) refl is (λ e. last_of hs session id hold e)
  where
    by_own : (b : Bool) → is_hold_of session id h ≡ b → list_any (is_hold_of session id) hs ≡ false → cond {A = Option Hold} b (Some h) None ≡ Some hold → IsLast (h ∷ hs) session id hold
    by_own true own later e = record {
      place = zero;
      is = e;
      own = ap (is_hold_of session id) (sym (some_same h hold e)) ∙ own;
      rest = λ i. ap (λ (b : Bool). slice_get (cond {A = List Hold} b (h ∷ without_last hs session id) (cond {A = List Hold} (is_hold_of session id h) hs (h ∷ hs))) i) later
          ∙ ap (λ (b : Bool). slice_get (cond {A = List Hold} b hs (h ∷ hs)) i) own;
    }
    by_own false own later e = absurd (let bad : None ≡ Some hold = e in cc)

    rest_of : (l : IsLast hs session id hold) (i : ℕ) → slice_get (h ∷ without_last hs session id) i ≡ slice_get (h ∷ hs) (past (suc l.place) i)
    rest_of l zero = refl
    rest_of l (suc i) = l.rest i

    by_later : (b : Bool) → list_any (is_hold_of session id) hs ≡ b
        → cond {A = Option Hold} b (last_hold hs session id) (cond {A = Option Hold} (is_hold_of session id h) (Some h) None) ≡ Some hold
        → (last_hold hs session id ≡ Some hold → IsLast hs session id hold) → IsLast (h ∷ hs) session id hold
    by_later true later e in_rest = let l = in_rest e in record {
      place = suc l.place;
      is = l.is;
      own = l.own;
      rest = λ i. ap (λ (b : Bool). slice_get (cond {A = List Hold} b (h ∷ without_last hs session id) (cond {A = List Hold} (is_hold_of session id h) hs (h ∷ hs))) i) later ∙ rest_of l i;
    }
    by_later false later e in_rest = by_own (is_hold_of session id h) refl later e

-- ---- holds of other sessions

still_in : (holds more : List Hold) (i : ℕ) (h : Hold) → slice_get holds i ≡ Some h → slice_get (holds ++ more) i ≡ Some h
still_in [] more i h is = absurd (let bad : None ≡ Some h = is in cc)
still_in (x ∷ xs) more zero h is = is
still_in (x ∷ xs) more (suc i) h is = still_in xs more i h is

release_leaves : (session id : ℕ) (holds : List Hold) (h : Hold) → h.session ≢ session → IsOneOf h holds → IsOneOf h (without_hold holds session id (last_hold holds session id))
release_leaves session id holds h other here = by_last (last_hold holds session id) refl
  where
    apart : (hold : Hold) → is_hold_of session id hold ≡ true → h ≡ hold → ⊥
    apart hold own same = other (ap (λ (x : Hold). x.session) same ∙ same_number hold.session session (both (hold.session == session) (hold.id == id) own).0)

    by_last : (o : Option Hold) → last_hold holds session id ≡ o → IsOneOf h (without_hold holds session id o)
    by_last None is = here
    by_last (Some hold) is =
        let l = last_of holds session id hold is in
        let j = before_past l.place here.0 (λ same. apart hold l.own (some_same h hold (sym here.1 ∙ ap (slice_get holds) same ∙ l.is))) in
        (j.0, l.rest j.0 ∙ ap (slice_get holds) j.1 ∙ here.1)

since_leaves : (session : ℕ) (call : Call) (holds : List Hold) (h : Hold) → h.session ≢ session → IsOneOf h holds → IsOneOf h (held_since session call holds)
since_leaves session (calls.Hold id at count writes) holds h other here = (here.0, still_in holds _ here.0 h here.1)
since_leaves session (calls.Release id bytes whole before after) holds h other here = release_leaves session id holds h other here
since_leaves session _ holds h other here = here

next_leaves : (holds : List Hold) (e : Entry) (h : Hold) → h.session ≢ e.session → IsOneOf h holds → IsOneOf h (held_next holds e)
next_leaves holds e h other here = by_done (is_done e.reply)
  where
    by_done : (b : Bool) → IsOneOf h (cond {A = List Hold} b (held_since e.session e.call holds) holds)
    by_done true = since_leaves e.session e.call holds h other here
    by_done false = here

-- an entry of another session leaves a hold
pub others_stay_held : OthersStayHeld
others_stay_held history e h other here =
    let now = next_leaves (held_by history) e h other here in
    (now.0, ap (λ (holds : List Hold). slice_get holds now.0) (entry_is_held history e) ∙ now.1)

-- ---- calls that are done have no refusal of their own

done_turn : (session : ℕ) (stamp : ℤ) (call : Call) (reply : Reply) (s t : State) → Turn session stamp call reply s t → is_done reply ≡ true → (own_refusal call s ≡ None) × IsAnswer session call s reply
done_turn session stamp call reply s t (Turn.by_tree (ByTree.refused refusal same)) done = absurd (true≢false (sym done ∙ own-refuses call s reply refusal))
done_turn session stamp call reply s t (Turn.by_tree (ByTree.answered none answer is)) done = (none, answer)
done_turn session stamp call reply s t (Turn.by_disk fault same) done = absurd (true≢false (sym done ∙ disk-refuses reply fault))
done_turn session stamp call reply s t (Turn.no_room none changes want same) done = absurd (true≢false (sym done ∙ room-refuses reply want))

held_none : (o : Option Hold) → first (held o) ≡ None → o ≡ None
held_none None e = refl
held_none (Some h) e = absurd (let bad : Some (replies.Held h.session) ≡ None = e in cc)

node_none : (o : Option Node) (rest : Node → List (Bool × Reply)) → first (at_node o rest) ≡ None → (n : Node) × (o ≡ Some n) × (first (rest n) ≡ None)
node_none None rest e = absurd (let bad : Some replies.NotFound ≡ None = e in cc)
node_none (Some n) rest e = (n, refl, e)

find_none : {X : Type 0} (test : X → Bool) (xs : List X) (i : ℕ) (x : X) → find test xs ≡ None → slice_get xs i ≡ Some x → test x ≡ false
find_none test [] i x none is = absurd (let bad : None ≡ Some x = is in cc)
find_none {X} test (y ∷ ys) i x none is = by_first (test y) refl none i is (λ e k at_k. find_none test ys k x e at_k)
  where
    by_first : (b : Bool) → test y ≡ b → cond {A = Option X} b (Some y) (find test ys) ≡ None → (k : ℕ) → slice_get (y ∷ ys) k ≡ Some x
        → (find test ys ≡ None → (j : ℕ) → slice_get ys j ≡ Some x → test x ≡ false) → test x ≡ false
    by_first true here e k at_k in_rest = absurd (let bad : Some y ≡ None = e in cc)
    by_first false here e zero at_k in_rest = let same : y ≡ x = let is : Some y ≡ Some x = at_k in cc in ap test (sym same) ∙ here
    by_first false here e (suc k) at_k in_rest = in_rest e k at_k

-- where none is in conflict, each hold that would be is on another node
free : (holds : List Hold) (id : ℕ) (writes : Bool) (g : Hold) → conflict holds id writes ≡ None → IsOneOf g holds → (writes || g.write) ≡ true → g.id ≢ id
free holds id writes g none here one same =
    let test : ((g.id == id) && (writes || g.write)) ≡ false = find_none (λ (h : Hold). (h.id == id) && (writes || h.write)) holds here.0 g none here.1 in
    true≢false (sym (ap (λ (b : Bool). b && (writes || g.write)) (equal_test g.id id same) ∙ one) ∙ test)

unsized : (s : State) (id size : ℕ) → own_refusal (calls.SetSize id size) s ≡ None → conflict s.holds id true ≡ None
unsized s id size none =
    let n = node_none (get s.tree.nodes id) (λ (node : Node). (not (is_file node.kind), replies.NotFile) ∷ (nat_lt 1073741824 size, replies.TooBig) ∷ held (conflict s.holds id true)) none in
    let a = first_none (not (is_file n.0.kind)) replies.NotFile ((nat_lt 1073741824 size, replies.TooBig) ∷ held (conflict s.holds id true)) n.2 in
    let b = first_none (nat_lt 1073741824 size) replies.TooBig (held (conflict s.holds id true)) a.1 in
    held_none (conflict s.holds id true) b.1

-- no entry that is done gives a file a size while a piece of it is held
pub held_keep_size : HeldKeepSize
held_keep_size t0 history e h size follows here done is =
    let turn = done_turn e.session e.stamp e.call e.reply (state_after t0 history) (next (state_after t0 history) e) follows.step done in
    let none : own_refusal (calls.SetSize h.id size) (state_after t0 history) ≡ None = ap (λ (call : Call). own_refusal call (state_after t0 history)) (sym is) ∙ turn.0 in
    free (state_after t0 history).holds h.id true h (unsized (state_after t0 history) h.id size none) here refl refl

-- ---- the files of holds

module _ (s : State) (h : Hold) (here : IsOneOf h s.holds) where
  abbrev StaysIn : Nodes → Nodes → Type 0
  StaysIn old new = IsHeldFile old h.id h.at h.length → IsHeldFile new h.id h.at h.length

  -- a node is changed in what is neither its kind nor its size
  touched_file : (nodes : Nodes) (at : ℕ) (f : Node → Node) → ((n : Node) → (f n).kind ≡ n.kind) → ((n : Node) → (f n).size ≡ n.size) → StaysIn nodes (with_node nodes at f)
  touched_file nodes at f kinds sizes file = by_node (get nodes at) refl
    where
      changed_here : (x : Node) → get nodes at ≡ Some x → (b : Bool) → eq_by_cmp nat_cmp h.id at ≡ b → IsHeldFile (insert nodes at (f x)) h.id h.at h.length
      changed_here x is true tie =
          let node : x ≡ file.node = let e : Some x ≡ Some file.node = sym is ∙ ap (get nodes) (sym (tied h.id at tie)) ∙ file.there in cc in
          record {
            node = f file.node;
            there = put_get nodes at (f x) h.id true tie ∙ ap (λ (n : Node). Some (f n)) node;
            file = ap is_file (kinds file.node) ∙ file.file;
            within = subst (λ (n : ℕ). h.at + h.length ≤ n) (sym (sizes file.node)) file.within;
          }
      changed_here x is false tie = record { node = file.node; there = put_get nodes at (f x) h.id false tie ∙ file.there; file = file.file; within = file.within }

      by_node : (o : Option Node) → get nodes at ≡ o → IsHeldFile (changed_at f o at nodes) h.id h.at h.length
      by_node None is = file
      by_node (Some x) is = changed_here x is (eq_by_cmp nat_cmp h.id at) refl

  -- another node is changed
  other_file : (nodes : Nodes) (at : ℕ) (f : Node → Node) → h.id ≢ at → StaysIn nodes (with_node nodes at f)
  other_file nodes at f other file = by_node (get nodes at)
    where
      by_tie : (x : Node) (b : Bool) → eq_by_cmp nat_cmp h.id at ≡ b → IsHeldFile (insert nodes at (f x)) h.id h.at h.length
      by_tie x true tie = absurd (other (tied h.id at tie))
      by_tie x false tie = record { node = file.node; there = put_get nodes at (f x) h.id false tie ∙ file.there; file = file.file; within = file.within }

      by_node : (o : Option Node) → IsHeldFile (changed_at f o at nodes) h.id h.at h.length
      by_node None = file
      by_node (Some x) = by_tie x (eq_by_cmp nat_cmp h.id at) refl

  -- a node comes that was none
  new_file : (nodes : Nodes) (at : ℕ) (x : Node) → get nodes at ≡ None → StaysIn nodes (insert nodes at x)
  new_file nodes at x none file = by_tie (eq_by_cmp nat_cmp h.id at) refl
    where
      by_tie : (b : Bool) → eq_by_cmp nat_cmp h.id at ≡ b → IsHeldFile (insert nodes at x) h.id h.at h.length
      by_tie true tie = absurd (let bad : None ≡ Some file.node = sym none ∙ ap (get nodes) (sym (tied h.id at tie)) ∙ file.there in cc)
      by_tie false tie = record { node = file.node; there = put_get nodes at x h.id false tie ∙ file.there; file = file.file; within = file.within }

  -- another node goes
  left_file : (nodes : Nodes) (at : ℕ) → h.id ≢ at → StaysIn nodes (remove nodes at)
  left_file nodes at other file = by_tie (eq_by_cmp nat_cmp h.id at) refl
    where
      by_tie : (b : Bool) → eq_by_cmp nat_cmp h.id at ≡ b → IsHeldFile (remove nodes at) h.id h.at h.length
      by_tie true tie = absurd (other (tied h.id at tie))
      by_tie false tie = record { node = file.node; there = taken_get nodes at h.id false tie ∙ file.there; file = file.file; within = file.within }

  -- a hold keeps its node
  unfree : (id : ℕ) → conflict s.holds id true ≡ None → h.id ≢ id
  unfree id none = free s.holds id true h none here refl

  removed_file : (dir : ℕ) (stamp : ℤ) (o : Option (ℕ × Node)) → first (at_child o (λ id node. (is_full s.tree id node, replies.NotEmpty) ∷ held (conflict s.holds id true))) ≡ None
      → StaysIn s.tree.nodes (removed s dir stamp o).tree.nodes
  removed_file dir stamp None none file = file
  removed_file dir stamp (Some e) none file =
      let a = first_none (is_full s.tree e.0 e.1) replies.NotEmpty (held (conflict s.holds e.0 true)) none in
      touched_file (remove s.tree.nodes e.0) dir (touched stamp) (λ n. refl) (λ n. refl) (left_file s.tree.nodes e.0 (unfree e.0 (held_none (conflict s.holds e.0 true) a.1)) file)

  moved_file : (nodes : Nodes) (dir to_dir : ℕ) (to_name : List ℕ) (stamp : ℤ) (id : ℕ)
      → StaysIn nodes (with_node (with_node (with_node nodes dir (touched stamp)) to_dir (touched stamp)) id (λ n. record n { name = to_name; parent = to_dir; changed = stamp }))
  moved_file nodes dir to_dir to_name stamp id file =
      touched_file (with_node (with_node nodes dir (touched stamp)) to_dir (touched stamp)) id (λ n. record n { name = to_name; parent = to_dir; changed = stamp }) (λ n. refl) (λ n. refl)
      (touched_file (with_node nodes dir (touched stamp)) to_dir (touched stamp) (λ n. refl) (λ n. refl)
      (touched_file nodes dir (touched stamp) (λ n. refl) (λ n. refl) file))

  over_file : (dir to_dir : ℕ) (to_name : List ℕ) (stamp : ℤ) (id : ℕ) (kind : Kind) (o : Option (ℕ × Node))
      → first (at_replaced (replaced id o) (λ there other. (is_one_dir kind other.kind, replies.Exists) ∷ (is_full s.tree there other, replies.NotEmpty) ∷ held (conflict s.holds there true))) ≡ None
      → StaysIn s.tree.nodes (moved_over s dir to_dir to_name stamp id o).tree.nodes
  over_file dir to_dir to_name stamp id kind None none file = moved_file s.tree.nodes dir to_dir to_name stamp id file
  over_file dir to_dir to_name stamp id kind (Some there) none file = by_test (there.0 == id) none
    where
      by_test : (b : Bool)
          → first (at_replaced (cond {A = Option (ℕ × Node)} b None (Some there)) (λ there other. (is_one_dir kind other.kind, replies.Exists) ∷ (is_full s.tree there other, replies.NotEmpty) ∷ held (conflict s.holds there true))) ≡ None
          → IsHeldFile (cond {A = State} b s (moved (without_node s there.0) dir to_dir to_name stamp id)).tree.nodes h.id h.at h.length
      by_test true e = file
      by_test false e =
          let a = first_none (is_one_dir kind there.1.kind) replies.Exists ((is_full s.tree there.0 there.1, replies.NotEmpty) ∷ held (conflict s.holds there.0 true)) e in
          let b = first_none (is_full s.tree there.0 there.1) replies.NotEmpty (held (conflict s.holds there.0 true)) a.1 in
          moved_file (remove s.tree.nodes there.0) dir to_dir to_name stamp id (left_file s.tree.nodes there.0 (unfree there.0 (held_none (conflict s.holds there.0 true) b.1)) file)

  abbrev to_rows : ℕ → List ℕ → ℕ → Node → List (Bool × Reply)
  to_rows to_dir to_name id node = at_node (get s.tree.nodes to_dir) (λ t.
      (not (is_dir t.kind), replies.NotDir) ∷ (is_bad_name to_name, replies.NameBad) ∷ (is_inside s.tree id node to_dir, replies.Inside) ∷ at_replaced (replaced id (child s.tree to_dir to_name)) (λ there other.
      (is_one_dir node.kind other.kind, replies.Exists) ∷ (is_full s.tree there other, replies.NotEmpty) ∷ held (conflict s.holds there true)))

  renamed_file : (dir to_dir : ℕ) (to_name : List ℕ) (stamp : ℤ) (o : Option (ℕ × Node)) → first (at_child o (to_rows to_dir to_name)) ≡ None
      → StaysIn s.tree.nodes (renamed s dir to_dir to_name stamp o).tree.nodes
  renamed_file dir to_dir to_name stamp None none file = file
  renamed_file dir to_dir to_name stamp (Some e) none file =
      let at_end = at_replaced (replaced e.0 (child s.tree to_dir to_name)) (λ there other. (is_one_dir e.1.kind other.kind, replies.Exists) ∷ (is_full s.tree there other, replies.NotEmpty) ∷ held (conflict s.holds there true)) in
      let t = node_none (get s.tree.nodes to_dir) (λ (t : Node). (not (is_dir t.kind), replies.NotDir) ∷ (is_bad_name to_name, replies.NameBad) ∷ (is_inside s.tree e.0 e.1 to_dir, replies.Inside) ∷ at_end) none in
      let a = first_none (not (is_dir t.0.kind)) replies.NotDir ((is_bad_name to_name, replies.NameBad) ∷ (is_inside s.tree e.0 e.1 to_dir, replies.Inside) ∷ at_end) t.2 in
      let b = first_none (is_bad_name to_name) replies.NameBad ((is_inside s.tree e.0 e.1 to_dir, replies.Inside) ∷ at_end) a.1 in
      let c = first_none (is_inside s.tree e.0 e.1 to_dir) replies.Inside at_end b.1 in
      over_file dir to_dir to_name stamp e.0 e.1.kind (child s.tree to_dir to_name) c.1 file

  holding_file : (hold : Hold) (stamp : ℤ) → StaysIn s.tree.nodes (holding s hold stamp).tree.nodes
  holding_file hold stamp file = by_test hold.write
    where
      by_test : (b : Bool) → IsHeldFile (cond {A = State} b (holding_to_write s hold stamp) (record s { holds = s.holds ++ hold ∷ [] })).tree.nodes h.id h.at h.length
      by_test true = touched_file s.tree.nodes hold.id (λ n. record n { modified = stamp; changed = stamp }) (λ n. refl) (λ n. refl) file
      by_test false = file

  -- a call that is done leaves the file of a hold
  changed_file : (session : ℕ) (stamp : ℤ) (call : Call) (reply : Reply) → own_refusal call s ≡ None → IsAnswer session call s reply → StaysIn s.tree.nodes (changed session stamp call reply s).tree.nodes
  changed_file session stamp (calls.Make dir name kind mode) reply none answer file =
      let node : Node = new_node (kind_made kind) name dir mode (length (target_of kind)) (target_of kind) stamp in
      touched_file (insert s.tree.nodes (id_made reply) node) dir (touched stamp) (λ n. refl) (λ n. refl)
      (new_file s.tree.nodes (id_made reply) node (ap (λ (r : Reply). get s.tree.nodes (id_made r)) answer.1 ∙ answer.2) file)
  changed_file session stamp (calls.Remove dir name) reply none answer file =
      let rows = at_child (child s.tree dir name) (λ id node. (is_full s.tree id node, replies.NotEmpty) ∷ held (conflict s.holds id true)) in
      let d = node_none (get s.tree.nodes dir) (λ (d : Node). (not (is_dir d.kind), replies.NotDir) ∷ rows) none in
      removed_file dir stamp (child s.tree dir name) (first_none (not (is_dir d.0.kind)) replies.NotDir rows d.2).1 file
  changed_file session stamp (calls.Rename dir name to_dir to_name) reply none answer file =
      let rows = at_child (child s.tree dir name) (to_rows to_dir to_name) in
      let d = node_none (get s.tree.nodes dir) (λ (d : Node). (not (is_dir d.kind), replies.NotDir) ∷ rows) none in
      renamed_file dir to_dir to_name stamp (child s.tree dir name) (first_none (not (is_dir d.0.kind)) replies.NotDir rows d.2).1 file
  changed_file session stamp (calls.Lookup dir name) reply none answer file = file
  changed_file session stamp (calls.List dir) reply none answer file = file
  changed_file session stamp (calls.Stat id) reply none answer file = file
  changed_file session stamp (calls.SetMode id mode uid gid) reply none answer file = touched_file s.tree.nodes id (λ n. record n { mode = mode; uid = uid; gid = gid; changed = stamp }) (λ n. refl) (λ n. refl) file
  changed_file session stamp (calls.SetSize id size) reply none answer file =
      other_file s.tree.nodes id (λ n. record n { size = size; modified = stamp; changed = stamp }) (unfree id (unsized s id size none)) file
  changed_file session stamp (calls.ReadLink id) reply none answer file = file
  changed_file session stamp (calls.AttrWrite id name kind bytes) reply none answer file =
      touched_file s.tree.nodes id (λ n. record n { attributes = insert n.attributes name (record { code = kind; bytes = bytes }); changed = stamp }) (λ n. refl) (λ n. refl) file
  changed_file session stamp (calls.AttrRead id name) reply none answer file = file
  changed_file session stamp (calls.AttrRemove id name) reply none answer file = touched_file s.tree.nodes id (λ n. record n { attributes = remove n.attributes name; changed = stamp }) (λ n. refl) (λ n. refl) file
  changed_file session stamp (calls.AttrList id) reply none answer file = file
  changed_file session stamp (calls.IndexMake name kind) reply none answer file = file
  changed_file session stamp (calls.IndexRemove name) reply none answer file = file
  changed_file session stamp calls.IndexList reply none answer file = file
  changed_file session stamp (calls.IndexFind name low high) reply none answer file = file
  changed_file session stamp (calls.Hold id at count writes) reply none answer file = holding_file (hold_as session id at count writes) stamp file
  changed_file session stamp (calls.Release id bytes whole before now) reply none answer file =
      subst (λ (tree : Tree). IsHeldFile tree.nodes h.id h.at h.length) (sym (released_tree s session id bytes whole (last_hold s.holds session id))) file
  changed_file session stamp calls.Sync reply none answer file = file

-- ---- the holds of a state

-- each is on a regular file; and where one of two is for writing, they are on different nodes
record IsGood (s : State) : Type 0 where
  pub on_files : (h : Hold) → IsOneOf h s.holds → IsOnFile s h
  pub alone : (i j : ℕ) (h g : Hold) → slice_get s.holds i ≡ Some h → slice_get s.holds j ≡ Some g → i ≢ j → h.write ≡ true → g.id ≢ h.id

-- what is known since was known
abbrev Loses : State → State → Type 0
Loses s t = (id place byte : ℕ) → get t.known (id, place) ≡ Some byte → get s.known (id, place) ≡ Some byte

still_unknown : (s t : State) (id at count : ℕ) → ((k byte : ℕ) → k < count → get t.known (id, at + k) ≡ Some byte → get s.known (id, at + k) ≡ Some byte) → IsUnknown s.known id at count → IsUnknown t.known id at count
still_unknown s t id at count was unknown k lt = by_byte (get t.known (id, at + k)) refl
  where
    by_byte : (o : Option ℕ) → get t.known (id, at + k) ≡ o → o ≡ None
    by_byte None is = refl
    by_byte (Some byte) is = absurd (let bad : Some byte ≡ None = sym (was k byte lt is) ∙ unknown k lt in cc)

held_of : (s : State) (h : Hold) → IsOnFile s h → IsHeldFile s.tree.nodes h.id h.at h.length
held_of s h on = record { node = on.node; there = on.there; file = on.file; within = on.within }

on_file : (s : State) (h : Hold) → IsHeldFile s.tree.nodes h.id h.at h.length → (h.write ≡ true → IsUnknown s.known h.id h.at h.length) → IsOnFile s h
on_file s h file unknown = record { node = file.node; there = file.there; file = file.file; within = file.within; unknown = unknown }

-- the holds with one more at the end
at_end : (holds : List Hold) (h x : Hold) (i : ℕ) → slice_get (holds ++ h ∷ []) i ≡ Some x → (slice_get holds i ≡ Some x) ⊎ ((i ≡ length holds) × (x ≡ h))
at_end [] h x zero is = inr (refl, sym (some_same h x is))
at_end [] h x (suc i) is = absurd (let bad : None ≡ Some x = is in cc)
at_end (y ∷ ys) h x zero is = inl is
at_end (y ∷ ys) h x (suc i) is = ⊎_elim (λ e. inl e) (λ e. inr (ap suc e.0, e.1)) (at_end ys h x i is)

past_other : (k i : ℕ) → past k i ≢ k
past_other zero i e = absurd (let bad : suc i ≡ zero = e in omega (arith, bad))
past_other (suc k) zero e = absurd (let bad : zero ≡ suc k = e in omega (arith, bad))
past_other (suc k) (suc i) e = past_other k i (ap pred e)

past_same : (k i j : ℕ) → past k i ≡ past k j → i ≡ j
past_same zero i j e = ap pred e
past_same (suc k) zero zero e = refl
past_same (suc k) zero (suc j) e = absurd (let bad : zero ≡ suc (past k j) = e in omega (arith, bad))
past_same (suc k) (suc i) zero e = absurd (let bad : suc (past k i) ≡ zero = e in omega (arith, bad))
past_same (suc k) (suc i) (suc j) e = ap suc (past_same k i j (ap pred e))

conflict_none : (s : State) (id at count : ℕ) (w : Bool) → own_refusal (calls.Hold id at count w) s ≡ None → conflict s.holds id w ≡ None
conflict_none s id at count w none =
    let n = node_none (get s.tree.nodes id) (λ (node : Node). (not (is_file node.kind), replies.NotFile) ∷ (nat_lt 65536 count, replies.TooBig) ∷ (is_past node.size at count, replies.PastEnd node.size) ∷ held (conflict s.holds id w)) none in
    let a = first_none (not (is_file n.0.kind)) replies.NotFile ((nat_lt 65536 count, replies.TooBig) ∷ (is_past n.0.size at count, replies.PastEnd n.0.size) ∷ held (conflict s.holds id w)) n.2 in
    let b = first_none (nat_lt 65536 count) replies.TooBig ((is_past n.0.size at count, replies.PastEnd n.0.size) ∷ held (conflict s.holds id w)) a.1 in
    let c = first_none (is_past n.0.size at count) (replies.PastEnd n.0.size) (held (conflict s.holds id w)) b.1 in
    held_none (conflict s.holds id w) c.1

-- ---- one call that is done

module _ (session : ℕ) (stamp : ℤ) (reply : Reply) (s t : State) (good : IsGood s) where
  -- what was held and what is known stays so
  stays_good : (call : Call) → own_refusal call s ≡ None → IsAnswer session call s reply → t ≡ changed session stamp call reply s → Loses s t → (h : Hold) → IsOneOf h s.holds → IsOnFile t h
  stays_good call none answer is loses h here =
      let old = good.on_files h here in
      on_file t h
      (subst (λ (x : State). IsHeldFile x.tree.nodes h.id h.at h.length) (sym is) (changed_file s h here session stamp call reply none answer (held_of s h old)))
      (λ writes. still_unknown s t h.id h.at h.length (λ k byte lt e. loses h.id (h.at + k) byte e) (old.unknown writes))

  plain_good : (call : Call) → own_refusal call s ≡ None → IsAnswer session call s reply → t ≡ changed session stamp call reply s → Loses s t → t.holds ≡ s.holds → IsGood t
  plain_good call none answer is loses holds = record {
    on_files = λ h here. stays_good call none answer is loses h (here.0, ap (λ (hs : List Hold). slice_get hs here.0) (sym holds) ∙ here.1);
    alone = λ i j h g at_i at_j other writes. good.alone i j h g (ap (λ (hs : List Hold). slice_get hs i) (sym holds) ∙ at_i) (ap (λ (hs : List Hold). slice_get hs j) (sym holds) ∙ at_j) other writes;
  }

  hold_good : (id at count : ℕ) (w : Bool) → own_refusal (calls.Hold id at count w) s ≡ None → IsAnswer session (calls.Hold id at count w) s reply → t ≡ holding s (hold_as session id at count w) stamp → Loses s t
      → t.holds ≡ s.holds ++ hold_as session id at count w ∷ [] → IsGood t
  hold_good id at count w none answer is loses holds = record {
    on_files = λ h here. ⊎_elim
        (λ old. stays_good (calls.Hold id at count w) none answer is loses h (here.0, old))
        (λ new. subst (IsOnFile t) (sym new.1) on_new)
        (at_end s.holds hold h here.0 (in_all here.0 h here.1));
    alone = λ i j h g at_i at_j other writes. ⊎_elim
        (λ old_h. ⊎_elim
        (λ old_g. good.alone i j h g old_h old_g other writes)
        (λ new_g. λ same. free s.holds id w h unheld (i, old_h) (or_right w h.write writes) (sym same ∙ ap (λ (x : Hold). x.id) new_g.1))
        (at_end s.holds hold g j (in_all j g at_j)))
        (λ new_h. ⊎_elim
        (λ old_g. λ same. free s.holds id w g unheld (j, old_g) (or_left w g.write (sym (ap (λ (x : Hold). x.write) new_h.1) ∙ writes)) (same ∙ ap (λ (x : Hold). x.id) new_h.1))
        (λ new_g. absurd (other (new_h.0 ∙ sym new_g.0)))
        (at_end s.holds hold g j (in_all j g at_j)))
        (at_end s.holds hold h i (in_all i h at_i));
  }
    where
      hold : Hold
      hold = hold_as session id at count w

      unheld : conflict s.holds id w ≡ None
      unheld = conflict_none s id at count w none

      in_all : (i : ℕ) (h : Hold) → slice_get t.holds i ≡ Some h → slice_get (s.holds ++ hold_as session id at count w ∷ []) i ≡ Some h
      in_all i h at_i = ap (λ (hs : List Hold). slice_get hs i) (sym holds) ∙ at_i

      on_new : IsOnFile t (hold_as session id at count w)
      on_new = on_file t (hold_as session id at count w)
          (subst (λ (x : State). IsHeldFile x.tree.nodes id at count) (sym is) (held_file s session id at count stamp w (unrefused s id at count w none)))
          (λ writes. subst (λ (x : State). IsUnknown x.known id at count) (sym is) (held_unknown s session id at count stamp w writes))

  -- what a whole write makes known is of its own node
  release_good : (id : ℕ) (bytes : List ℕ) (whole : Bool) → (o : Option Hold) → last_hold s.holds session id ≡ o → t ≡ released s session id bytes whole o → IsGood t
  release_good id bytes whole None last is = subst IsGood (sym is) good
  release_good id bytes whole (Some hold) last is = subst IsGood (sym is) (record {
    on_files = λ h here. on_file (released s session id bytes whole (Some hold)) h
        (held_of s h (good.on_files h (past l.place here.0, was here.0 h here.1)))
        (λ writes. still_unknown s (released s session id bytes whole (Some hold)) h.id h.at h.length
        (λ k byte lt e. was_known h (past l.place here.0) (was here.0 h here.1) (past_other l.place here.0) writes (h.at + k) byte e)
        ((good.on_files h (past l.place here.0, was here.0 h here.1)).unknown writes));
    alone = λ i j h g at_i at_j other writes. good.alone (past l.place i) (past l.place j) h g (was i h at_i) (was j g at_j) (λ e. other (past_same l.place i j e)) writes;
  })
    where
      l : IsLast s.holds session id hold
      l = last_of s.holds session id hold last

      was : (i : ℕ) (h : Hold) → slice_get (without_last s.holds session id) i ≡ Some h → slice_get s.holds (past l.place i) ≡ Some h
      was i h at_i = sym (l.rest i) ∙ at_i

      was_known : (h : Hold) (i : ℕ) → slice_get s.holds i ≡ Some h → i ≢ l.place → h.write ≡ true → (place byte : ℕ) → get (released s session id bytes whole (Some hold)).known (h.id, place) ≡ Some byte → get s.known (h.id, place) ≡ Some byte
      was_known h i at_i other writes place byte e = by_both (whole && hold.write) e
        where
          by_both : (b : Bool) → get (cond {A = Known} b (learn s.known id hold.at bytes) s.known) (h.id, place) ≡ Some byte → get s.known (h.id, place) ≡ Some byte
          by_both true e = ⊎_elim
              (λ before. before)
              (λ now. absurd (good.alone i l.place h hold at_i l.is other writes (same_number hold.id id (both (hold.session == session) (hold.id == id) l.own).1 ∙ sym (ap (λ (p : ℕ × ℕ). p.0) now.place))))
              (learnt s.known id hold.at bytes (h.id, place) byte e)
          by_both false e = e

  done_good : (call : Call) → own_refusal call s ≡ None → IsAnswer session call s reply → t ≡ changed session stamp call reply s → (lets_go call ≡ false → Loses s t) → t.holds ≡ held_since session call s.holds → IsGood t
  done_good (calls.Hold id at count writes) none answer is loses holds = hold_good id at count writes none answer is (loses refl) holds
  done_good (calls.Release id bytes whole before now) none answer is loses holds = release_good id bytes whole (last_hold s.holds session id) refl is
  done_good (calls.Make dir name kind mode) none answer is loses holds = plain_good (calls.Make dir name kind mode) none answer is (loses refl) holds
  done_good (calls.Remove dir name) none answer is loses holds = plain_good (calls.Remove dir name) none answer is (loses refl) holds
  done_good (calls.Rename dir name to_dir to_name) none answer is loses holds = plain_good (calls.Rename dir name to_dir to_name) none answer is (loses refl) holds
  done_good (calls.Lookup dir name) none answer is loses holds = plain_good (calls.Lookup dir name) none answer is (loses refl) holds
  done_good (calls.List dir) none answer is loses holds = plain_good (calls.List dir) none answer is (loses refl) holds
  done_good (calls.Stat id) none answer is loses holds = plain_good (calls.Stat id) none answer is (loses refl) holds
  done_good (calls.SetMode id mode uid gid) none answer is loses holds = plain_good (calls.SetMode id mode uid gid) none answer is (loses refl) holds
  done_good (calls.SetSize id size) none answer is loses holds = plain_good (calls.SetSize id size) none answer is (loses refl) holds
  done_good (calls.ReadLink id) none answer is loses holds = plain_good (calls.ReadLink id) none answer is (loses refl) holds
  done_good (calls.AttrWrite id name kind bytes) none answer is loses holds = plain_good (calls.AttrWrite id name kind bytes) none answer is (loses refl) holds
  done_good (calls.AttrRead id name) none answer is loses holds = plain_good (calls.AttrRead id name) none answer is (loses refl) holds
  done_good (calls.AttrRemove id name) none answer is loses holds = plain_good (calls.AttrRemove id name) none answer is (loses refl) holds
  done_good (calls.AttrList id) none answer is loses holds = plain_good (calls.AttrList id) none answer is (loses refl) holds
  done_good (calls.IndexMake name kind) none answer is loses holds = plain_good (calls.IndexMake name kind) none answer is (loses refl) holds
  done_good (calls.IndexRemove name) none answer is loses holds = plain_good (calls.IndexRemove name) none answer is (loses refl) holds
  done_good calls.IndexList none answer is loses holds = plain_good calls.IndexList none answer is (loses refl) holds
  done_good (calls.IndexFind name low high) none answer is loses holds = plain_good (calls.IndexFind name low high) none answer is (loses refl) holds
  done_good calls.Sync none answer is loses holds = plain_good calls.Sync none answer is (loses refl) holds

-- ---- histories

next_good : (t0 : Mounted) (history : List Entry) (e : Entry) → Follows t0 history e → IsGood (state_after t0 history) → IsGood (state_after t0 (history ++ e ∷ []))
next_good t0 history e follows good = by_done (is_done e.reply) refl
  where
    was : State
    was = state_after t0 history

    is_next : state_after t0 (history ++ e ∷ []) ≡ next was e
    is_next = fold-append next (start t0) history (e ∷ [])

    holds_are : holds_after t0 (history ++ e ∷ []) ≡ held_next (holds_after t0 history) e
    holds_are = held_is_after t0 (history ++ e ∷ []) ∙ entry_is_held history e ∙ ap (λ (hs : List Hold). held_next hs e) (sym (held_is_after t0 history))

    by_done : (b : Bool) → is_done e.reply ≡ b → IsGood (state_after t0 (history ++ e ∷ []))
    by_done true done =
        let turn = done_turn e.session e.stamp e.call e.reply was (next was e) follows.step done in
        done_good e.session e.stamp e.reply was (state_after t0 (history ++ e ∷ [])) good e.call turn.0 turn.1
        (is_next ∙ ap (λ (b : Bool). cond {A = State} b (changed e.session e.stamp e.call e.reply was) was) done)
        (λ lets id place byte is. (known_stays t0 history e id place byte follows lets is).0)
        (holds_are ∙ ap (λ (b : Bool). cond {A = List Hold} b (held_since e.session e.call was.holds) was.holds) done)
    by_done false undone = subst IsGood (sym (is_next ∙ ap (λ (b : Bool). cond {A = State} b (changed e.session e.stamp e.call e.reply was) was) undone)) good

good_from : (t0 : Mounted) (front es : List Entry) → LegalFrom t0 front es → IsGood (state_after t0 front) → IsGood (state_after t0 (front ++ es))
good_from t0 front [] legal good = subst (λ (h : List Entry). IsGood (state_after t0 h)) (sym (append-nil front)) good
good_from t0 front (e ∷ es) legal good =
    subst (λ (h : List Entry). IsGood (state_after t0 h)) (append_assoc front (e ∷ []) es) (good_from t0 (front ++ e ∷ []) es legal.1 (next_good t0 front e legal.0 good))

start_good : (t0 : Mounted) → IsGood (start t0)
start_good t0 = record {
  on_files = λ h here. absurd (let bad : None ≡ Some h = here.1 in cc);
  alone = λ i j h g at_i at_j other writes. absurd (let bad : None ≡ Some h = at_i in cc);
}

legal_good : (t0 : Mounted) (history : List Entry) → Legal t0 history → IsGood (state_after t0 history)
legal_good t0 history legal = good_from t0 [] history legal (start_good t0)

-- each hold after a legal history is on a file, with its piece below the size
pub holds_are_on_files : HoldsAreOnFiles
holds_are_on_files t0 history h legal here = (legal_good t0 history legal).on_files h here

-- beside a hold for writing no other session has one on that file
pub writers_are_alone : WritersAreAlone
writers_are_alone t0 history h g legal at_h at_g other writes =
    (legal_good t0 history legal).alone at_h.0 at_g.0 h g at_h.1 at_g.1
    (λ same. other (ap (λ (x : Hold). x.session) (some_same g h (sym at_g.1 ∙ ap (slice_get (holds_after t0 history)) (sym same) ∙ at_h.1)))) writes
