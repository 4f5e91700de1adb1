-- What is known after an entry that lets no piece go, and the places of files at which it is.
use Rattle.std.proofs.Common.{◌≡◌, ◌<◌, ℕ, ℤ, List, [], ◌∷◌, ◌++◌, Option, Some, None, Bool, true, false, cond, length, refl, ap, sym, ◌∙◌, subst, arith}
use Rattle.std.specs.Prelude.{◌==◌, ◌&&◌, not, nat_le, IsTrue}
use Rattle.std.proofs.lemmas.Grind.{fold-append}
use Rattle.std.specs.declared.cmp.Ordering.TheVariants.{Less, Equal, Greater}
use Rattle.std.specs.Ordering.{nat_cmp, ordering_then, eq_by_cmp}
use Rattle.std.specs.Cmp.{nat_cmp_total}
use Rattle.std.specs.FinMap.{get, insert, remove, retain_keys, get-insert, get-remove, get-retain_keys, nat_cmp-IsAntisymmetric}
use Rattle.bfs_tree.specs.declared.call.MakeKind.{MakeKind}
use Rattle.bfs_tree.specs.declared.call.Call.{Call}
use Rattle.bfs_tree.specs.declared.call.Call.TheVariants as calls
use Rattle.bfs_tree.specs.declared.reply.Reply.{Reply}
use Rattle.bfs_tree.specs.declared.reply.Entry.{Entry}
use Rattle.bfs_tree.specs.declared.state.Hold.{Hold}
use Rattle.bfs_tree.specs.Answers.{IsAnswer}
use Rattle.bfs_tree.specs.Changes.{changed, changed_at, dropped, holding, holding_to_write, id_made, kind_made, made, moved, moved_over, removed, renamed, resized, touched, with_node, with_nodes, without_node}
use Rattle.bfs_tree.specs.Histories.{Mounted, Follows, IsFilePlace, after, start, state_after}
use Rattle.bfs_tree.specs.Names.{target_of}
use Rattle.bfs_tree.specs.States.{Known, State, place_cmp}
use Rattle.bfs_tree.specs.Steps.{ByTree, Turn, next}
use Rattle.bfs_tree.specs.Trees.{Node, Nodes, child, is_file, new_node}
use Rattle.bfs_replies.specs.Files.{lets_go}

-- only equal places tie
same_place : (p q : ℕ × ℕ) → place_cmp p q ≡ Equal → p ≡ q
same_place p q e =
    elim (nat_cmp p.0 q.0) as (λ o. nat_cmp p.0 q.0 ≡ o → ordering_then o (nat_cmp p.1 q.1) ≡ Equal → p ≡ q) [
      | Less ↦ λ _ no_tie. cc
      | Equal ↦ λ first second i. (nat_cmp-IsAntisymmetric p.0 q.0 first i, nat_cmp-IsAntisymmetric p.1 q.1 second i)
      | Greater ↦ λ _ no_tie. cc
    ] refl e

-- what is known of those places that are kept was known, and its place is kept
kept_at : (known : Known) (keeps : ℕ × ℕ → Bool) (q : ℕ × ℕ) (byte : ℕ) → get (retain_keys known keeps) q ≡ Some byte → (get known q ≡ Some byte) × (keeps q ≡ true)
kept_at known keeps q byte is = by_test (keeps q) refl (sym (get-retain_keys known keeps q (λ x e. ap keeps (sym (same_place q x e)))) ∙ is)
  where
    by_test : (b : Bool) → keeps q ≡ b → cond b (get known q) None ≡ Some byte → (get known q ≡ Some byte) × (keeps q ≡ true)
    by_test true test e = (e, test)
    by_test false test e = absurd (let bad : None ≡ Some byte = e in cc)

-- ---- places of files

abbrev AtPlace : Nodes → ℕ → ℕ → Type 0
AtPlace nodes id place = (node : Node) × (get nodes id ≡ Some node) × IsTrue (is_file node.kind) × (place < node.size)

put_get : (nodes : Nodes) (at : ℕ) (x : Node) (id : ℕ) (b : Bool) → eq_by_cmp nat_cmp id at ≡ b → get (insert nodes at x) id ≡ cond b (Some x) (get nodes id)
put_get nodes at x id b tie = get-insert nat_cmp_total nodes at x id ∙ ap (λ c. cond c (Some x) (get nodes id)) tie

taken_get : (nodes : Nodes) (at id : ℕ) (b : Bool) → eq_by_cmp nat_cmp id at ≡ b → get (remove nodes at) id ≡ cond b None (get nodes id)
taken_get nodes at id b tie = get-remove nat_cmp_total nodes at id ∙ ap (λ c. cond c None (get nodes id)) tie

tied : (id at : ℕ) → eq_by_cmp nat_cmp id at ≡ true → id ≡ at
tied id at tie = grind (arith, tie)

some_same : (x n : Node) → Some x ≡ Some n → x ≡ n
some_same x n e = cc

-- a node is changed, and is a file with that place still
with_place : (nodes : Nodes) (at : ℕ) (f : Node → Node) (id place : ℕ) → (id ≡ at → (n : Node) → place < n.size → ((f n).kind ≡ n.kind) × (place < (f n).size)) → AtPlace nodes id place → AtPlace (with_node nodes at f) id place
with_place nodes at f id place keeps here = by_node (get nodes at) refl
  where
    changed_here : (x : Node) → get nodes at ≡ Some x → (b : Bool) → eq_by_cmp nat_cmp id at ≡ b → AtPlace (insert nodes at (f x)) id place
    changed_here x is true tie =
        let same : id ≡ at = tied id at tie in
        let node : x ≡ here.0 = some_same x here.0 (sym is ∙ ap (get nodes) (sym same) ∙ here.1) in
        let kept = keeps same here.0 here.3 in
        (f here.0, put_get nodes at (f x) id true tie ∙ ap (λ (n : Node). Some (f n)) node, ap is_file kept.0 ∙ here.2, kept.1)
    changed_here x is false tie = (here.0, put_get nodes at (f x) id false tie ∙ here.1, here.2, here.3)

    by_node : (o : Option Node) → get nodes at ≡ o → AtPlace (changed_at f o at nodes) id place
    by_node None is = here
    by_node (Some x) is = changed_here x is (eq_by_cmp nat_cmp id at) refl

-- its kind and its size stay
same_place_of : (nodes : Nodes) (at : ℕ) (f : Node → Node) → ((n : Node) → (f n).kind ≡ n.kind) → ((n : Node) → (f n).size ≡ n.size) → (id place : ℕ) → AtPlace nodes id place → AtPlace (with_node nodes at f) id place
same_place_of nodes at f kinds sizes id place here = with_place nodes at f id place (λ same n inside. (kinds n, subst (λ (k : ℕ). place < k) (sym (sizes n)) inside)) here

-- a node comes that was none
new_place : (nodes : Nodes) (at : ℕ) (x : Node) (id place : ℕ) → get nodes at ≡ None → AtPlace nodes id place → AtPlace (insert nodes at x) id place
new_place nodes at x id place none here = by_tie (eq_by_cmp nat_cmp id at) refl
  where
    by_tie : (b : Bool) → eq_by_cmp nat_cmp id at ≡ b → AtPlace (insert nodes at x) id place
    by_tie true tie = absurd (let same : id ≡ at = tied id at tie in let bad : None ≡ Some here.0 = sym none ∙ ap (get nodes) (sym same) ∙ here.1 in cc)
    by_tie false tie = (here.0, put_get nodes at x id false tie ∙ here.1, here.2, here.3)

-- another node goes
other_place : (nodes : Nodes) (at id place : ℕ) → (id ≡ at → ⊥) → AtPlace nodes id place → AtPlace (remove nodes at) id place
other_place nodes at id place other here = by_tie (eq_by_cmp nat_cmp id at) refl
  where
    by_tie : (b : Bool) → eq_by_cmp nat_cmp id at ≡ b → AtPlace (remove nodes at) id place
    by_tie true tie = absurd (other (tied id at tie))
    by_tie false tie = (here.0, taken_get nodes at id false tie ∙ here.1, here.2, here.3)

-- ---- states

-- what is known since was known, and the place of a file at which it is known is one still
abbrev Keeps : State → State → Type 0
Keeps s t = (id place byte : ℕ) → get t.known (id, place) ≡ Some byte → (get s.known (id, place) ≡ Some byte) × (IsFilePlace s.tree id place → IsFilePlace t.tree id place)

stays : (s : State) → Keeps s s
stays s id place byte is = (is, λ here. here)

onward : (s t u : State) → Keeps s t → Keeps t u → Keeps s u
onward s t u one two id place byte is = let b = two id place byte is in let a = one id place byte b.0 in (a.0, λ here. b.1 (a.1 here))

same_known : (s : State) (nodes : Nodes) → ((id place : ℕ) → AtPlace s.tree.nodes id place → AtPlace nodes id place) → Keeps s (with_nodes s nodes)
same_known s nodes places id place byte is = (is, places id place)

-- a node is changed in what is neither its kind nor its size
retouched : (s : State) (at : ℕ) (f : Node → Node) → ((n : Node) → (f n).kind ≡ n.kind) → ((n : Node) → (f n).size ≡ n.size) → Keeps s (with_nodes s (with_node s.tree.nodes at f))
retouched s at f kinds sizes = same_known s (with_node s.tree.nodes at f) (same_place_of s.tree.nodes at f kinds sizes)

not_same : (a b : ℕ) → not (a == b) ≡ true → a ≡ b → ⊥
not_same a b test same = let e : a == b ≡ true = grind (arith, same) in let bad : false ≡ true = sym (ap not e) ∙ test in absurd cc

-- a node goes
gone : (s : State) (at : ℕ) → Keeps s (without_node s at)
gone s at id place byte is =
    let old = kept_at s.known (λ (p : ℕ × ℕ). not (p.0 == at)) (id, place) byte is in
    (old.0, other_place s.tree.nodes at id place (not_same id at old.1))

made_keeps : (s : State) (dir : ℕ) (name : List ℕ) (kind : MakeKind) (mode : ℕ) (stamp : ℤ) (id : ℕ) → get s.tree.nodes id ≡ None → Keeps s (made s dir name kind mode stamp id)
made_keeps s dir name kind mode stamp id none =
    let node : Node = new_node (kind_made kind) name dir mode (length (target_of kind)) (target_of kind) stamp in
    onward s (with_nodes s (insert s.tree.nodes id node)) (made s dir name kind mode stamp id)
    (same_known s (insert s.tree.nodes id node) (λ i place here. new_place s.tree.nodes id node i place none here))
    (retouched (with_nodes s (insert s.tree.nodes id node)) dir (touched stamp) (λ n. refl) (λ n. refl))

removed_keeps : (s : State) (dir : ℕ) (stamp : ℤ) (o : Option (ℕ × Node)) → Keeps s (removed s dir stamp o)
removed_keeps s dir stamp None = stays s
removed_keeps s dir stamp (Some e) = onward s (without_node s e.0) (dropped s dir stamp e.0) (gone s e.0) (retouched (without_node s e.0) dir (touched stamp) (λ n. refl) (λ n. refl))

moved_keeps : (s : State) (dir to_dir : ℕ) (to_name : List ℕ) (stamp : ℤ) (id : ℕ) → Keeps s (moved s dir to_dir to_name stamp id)
moved_keeps s dir to_dir to_name stamp id =
    let one = with_nodes s (with_node s.tree.nodes dir (touched stamp)) in
    let two = with_nodes s (with_node (with_node s.tree.nodes dir (touched stamp)) to_dir (touched stamp)) in
    onward s one (moved s dir to_dir to_name stamp id) (retouched s dir (touched stamp) (λ n. refl) (λ n. refl))
    (onward one two (moved s dir to_dir to_name stamp id) (retouched one to_dir (touched stamp) (λ n. refl) (λ n. refl))
    (retouched two id (λ n. record n { name = to_name; parent = to_dir; changed = stamp }) (λ n. refl) (λ n. refl)))

over_keeps : (s : State) (dir to_dir : ℕ) (to_name : List ℕ) (stamp : ℤ) (id : ℕ) (o : Option (ℕ × Node)) → Keeps s (moved_over s dir to_dir to_name stamp id o)
over_keeps s dir to_dir to_name stamp id None = moved_keeps s dir to_dir to_name stamp id
over_keeps s dir to_dir to_name stamp id (Some there) = by_test (there.0 == id)
  where
    by_test : (b : Bool) → Keeps s (cond {A = State} b s (moved (without_node s there.0) dir to_dir to_name stamp id))
    by_test true = stays s
    by_test false = onward s (without_node s there.0) (moved (without_node s there.0) dir to_dir to_name stamp id) (gone s there.0) (moved_keeps (without_node s there.0) dir to_dir to_name stamp id)

renamed_keeps : (s : State) (dir to_dir : ℕ) (to_name : List ℕ) (stamp : ℤ) (o : Option (ℕ × Node)) → Keeps s (renamed s dir to_dir to_name stamp o)
renamed_keeps s dir to_dir to_name stamp None = stays s
renamed_keeps s dir to_dir to_name stamp (Some e) = over_keeps s dir to_dir to_name stamp e.0 (child s.tree to_dir to_name)

below_size : (size place id at : ℕ) → not (nat_le size place && (id == at)) ≡ true → id ≡ at → place < size
below_size size place id at test same = by_test (nat_le size place) refl
  where
    here : (id == at) ≡ true
    here = grind (arith, same)

    by_test : (b : Bool) → nat_le size place ≡ b → place < size
    by_test true is = absurd (let bad : false ≡ true = sym (ap (λ (c : Bool). not (c && (id == at))) is ∙ ap not here) ∙ test in cc)
    by_test false is = grind (arith, is)

-- a file gets a size
resized_keeps : (s : State) (at size : ℕ) (stamp : ℤ) → Keeps s (resized s at size stamp)
resized_keeps s at size stamp id place byte is =
    let old = kept_at s.known (λ (p : ℕ × ℕ). not (nat_le size p.1 && (p.0 == at))) (id, place) byte is in
    (old.0, λ here. with_place s.tree.nodes at (λ n. record n { size = size; modified = stamp; changed = stamp }) id place (λ same n inside. (refl, below_size size place id at old.1 same)) here)

holding_keeps : (s : State) (hold : Hold) (stamp : ℤ) → Keeps s (holding s hold stamp)
holding_keeps s hold stamp = by_test hold.write
  where
    to_write : Keeps s (holding_to_write s hold stamp)
    to_write id place byte is = (
      (kept_at s.known _ (id, place) byte is).0,
      same_place_of s.tree.nodes hold.id (λ n. record n { modified = stamp; changed = stamp }) (λ n. refl) (λ n. refl) id place,
    )

    by_test : (b : Bool) → Keeps s (cond {A = State} b (holding_to_write s hold stamp) (record s { holds = s.holds ++ hold ∷ [] }))
    by_test true = to_write
    by_test false = λ id place byte is. (is, λ here. here)

-- a call that is done, and lets no piece go
changed_keeps : (session : ℕ) (stamp : ℤ) (call : Call) (reply : Reply) (s : State) → IsAnswer session call s reply → lets_go call ≡ false → Keeps s (changed session stamp call reply s)
changed_keeps session stamp (calls.Make dir name kind mode) reply s answer lets =
    made_keeps s dir name kind mode stamp (id_made reply) (ap (λ (r : Reply). get s.tree.nodes (id_made r)) answer.1 ∙ answer.2)
changed_keeps session stamp (calls.Remove dir name) reply s answer lets = removed_keeps s dir stamp (child s.tree dir name)
changed_keeps session stamp (calls.Rename dir name to_dir to_name) reply s answer lets = renamed_keeps s dir to_dir to_name stamp (child s.tree dir name)
changed_keeps session stamp (calls.Lookup dir name) reply s answer lets = stays s
changed_keeps session stamp (calls.List dir) reply s answer lets = stays s
changed_keeps session stamp (calls.Stat id) reply s answer lets = stays s
changed_keeps session stamp (calls.SetMode id mode uid gid) reply s answer lets = retouched s id (λ n. record n { mode = mode; uid = uid; gid = gid; changed = stamp }) (λ n. refl) (λ n. refl)
changed_keeps session stamp (calls.SetSize id size) reply s answer lets = resized_keeps s id size stamp
changed_keeps session stamp (calls.ReadLink id) reply s answer lets = stays s
changed_keeps session stamp (calls.AttrWrite id name kind bytes) reply s answer lets =
    retouched s id (λ n. record n { attributes = insert n.attributes name (record { code = kind; bytes = bytes }); changed = stamp }) (λ n. refl) (λ n. refl)
changed_keeps session stamp (calls.AttrRead id name) reply s answer lets = stays s
changed_keeps session stamp (calls.AttrRemove id name) reply s answer lets = retouched s id (λ n. record n { attributes = remove n.attributes name; changed = stamp }) (λ n. refl) (λ n. refl)
changed_keeps session stamp (calls.AttrList id) reply s answer lets = stays s
changed_keeps session stamp (calls.IndexMake name kind) reply s answer lets = λ id place byte is. (is, λ here. here)
changed_keeps session stamp (calls.IndexRemove name) reply s answer lets = λ id place byte is. (is, λ here. here)
changed_keeps session stamp calls.IndexList reply s answer lets = stays s
changed_keeps session stamp (calls.IndexFind name low high) reply s answer lets = stays s
changed_keeps session stamp (calls.Hold id at count writes) reply s answer lets = holding_keeps s (record { session = session; id = id; at = at; length = count; write = writes }) stamp
changed_keeps session stamp (calls.Release id bytes whole before now) reply s answer lets = absurd (let bad : true ≡ false = lets in cc)
changed_keeps session stamp calls.Sync reply s answer lets = stays s

turn_keeps : (session : ℕ) (stamp : ℤ) (call : Call) (reply : Reply) (s t : State) → Turn session stamp call reply s t → lets_go call ≡ false → Keeps s t
turn_keeps session stamp call reply s t (Turn.by_tree (ByTree.refused refusal same)) lets = subst (λ (x : State). Keeps s x) (sym same) (stays s)
turn_keeps session stamp call reply s t (Turn.by_tree (ByTree.answered none answer is)) lets = subst (λ (x : State). Keeps s x) (sym is) (changed_keeps session stamp call reply s answer lets)
turn_keeps session stamp call reply s t (Turn.by_disk fault same) lets = subst (λ (x : State). Keeps s x) (sym same) (stays s)
turn_keeps session stamp call reply s t (Turn.no_room none changes want same) lets = subst (λ (x : State). Keeps s x) (sym same) (stays s)

pub known_stays : (t0 : Mounted) (history : List Entry) (e : Entry) (id place byte : ℕ) → Follows t0 history e → lets_go e.call ≡ false → get (state_after t0 (history ++ e ∷ [])).known (id, place) ≡ Some byte
    → (get (state_after t0 history).known (id, place) ≡ Some byte) × (IsFilePlace (after t0 history) id place → IsFilePlace (after t0 (history ++ e ∷ [])) id place)
known_stays t0 history e id place byte follows lets =
    subst (λ (x : State). Keeps (state_after t0 history) x) (sym (fold-append next (start t0) history (e ∷ [])))
    (turn_keeps e.session e.stamp e.call e.reply (state_after t0 history) (next (state_after t0 history) e) follows.step lets) id place byte
