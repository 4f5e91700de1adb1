-- At most one tree stands on a volume.
use Rattle.std.proofs.Common.{◌≡◌, ◌≢◌, inr, ⊎_elim, ℕ, pos, List, Option, Some, None, Bool, true, false, cond, refl, sym, ap, ◌∙◌, subst, codes}
use Rattle.std.specs.Prelude.{◌==◌, ◌||◌, not, nat_lt, length}
use Rattle.std.specs.Str.{is_utf8}
use Rattle.std.specs.Cmp.{nat_cmp_total}
use Rattle.std.proofs.lemmas.Cmp.{nat_list_cmp_total}
use Rattle.std.specs.FinMap.{get, same_map, nat_cmp-IsAntisymmetric, slice_cmp-IsAntisymmetric}
use Rattle.std.proofs.lemmas.Bool.{true≢false}
use Rattle.bfs_base.specs.declared.kind.KeyKind.{KeyKind}
use Rattle.bfs_base.specs.declared.kind.KeyKind.TheVariants.{Text, I32, U32, I64, U64, F32, F64}
use Rattle.bfs_tree.specs.declared.call.Kind.TheVariants.{Dir}
use Rattle.bfs_super.specs.Conditions.{natural}
use Rattle.bfs_node.specs.Header.{code_of}
use Rattle.bfs_values.specs.Reached.{IsWholeTree}
use Rattle.bfs_tree.specs.Names.{is_bad_name, has_byte}
use Rattle.bfs_tree.specs.Trees.{Node, Tree, IsNode, LeadsTo, at_top, by_parent}
use Rattle.bfs_sound.specs.Volumes.{Volume}
use Rattle.bfs_sound.specs.Inodes.{content}
use Rattle.bfs_sound.specs.Listings.{IsRow, IsChild}
use Rattle.bfs_sound.specs.Whole.{HasSoundNodes, IsSound}
use Rattle.bfs_finding.proofs.OneNodes.{some_same, pos_same, same_or_not, one_node}

-- two options are the same where what one has the other has
same_options : {X : Type 0} (a b : Option X) → ((x : X) → a ≡ Some x → b ≡ Some x) → ((x : X) → b ≡ Some x → a ≡ Some x) → a ≡ b
same_options (Some x) b there back = sym (there x refl)
same_options None None there back = refl
same_options None (Some x) there back = back x refl

-- the kind of keys that a header's code says
abbrev kind_at : ℕ → KeyKind
kind_at code = cond (code == 0) Text (cond (code == 1) I32 (cond (code == 2) U32 (cond (code == 3) I64 (cond (code == 4) U64 (cond (code == 5) F32 F64)))))

kind_back : (k : KeyKind) → kind_at (code_of k) ≡ k
kind_back Text = refl
kind_back I32 = refl
kind_back U32 = refl
kind_back I64 = refl
kind_back U64 = refl
kind_back F32 = refl
kind_back F64 = refl

one_kind : (a b : KeyKind) (bytes : List ℕ) → IsWholeTree a bytes → IsWholeTree b bytes → a ≡ b
one_kind a b bytes one two = sym (kind_back a) ∙ ap kind_at (sym one.tree.header.kind_is ∙ two.tree.header.kind_is) ∙ kind_back b

-- `.` and `..` are bad, whatever the other tests say
or_true : (a : Bool) → (a || true) ≡ true
or_true true = refl
or_true false = refl

or_more : (a b : Bool) → a ≡ true → (a || b) ≡ true
or_more a b e = ap (λ c. c || b) e

abbrev other_tests : List ℕ → Bool
other_tests name = (length name == 0) || nat_lt 255 (length name) || not (is_utf8 name) || has_byte 47 name || has_byte 0 name

dot_bad : is_bad_name (codes ".") ≡ true
dot_bad = or_more (other_tests (codes ".") || true) false (or_true (other_tests (codes ".")))

dots_bad : is_bad_name (codes "..") ≡ true
dots_bad = or_true (other_tests (codes "..") || false)

-- a good name is neither `.` nor `..`
good_name : (name word : List ℕ) → is_bad_name name ≡ false → name ≡ word → is_bad_name word ≡ true → ⊥
good_name name word good same bad = true≢false (sym bad ∙ sym (ap is_bad_name same) ∙ good)

module _ (v : Volume) (one other : Tree) (a : HasSoundNodes v one) (b : HasSoundNodes v other) where
  roots : one.root ≡ other.root
  roots = a.stands.root ∙ sym b.stands.root

  -- a node at a block is one record
  same_record : (id : ℕ) (m n : Node) → IsNode one id m → IsNode other id n → IsNode other id m
  same_record id m n there here = here ∙ ap Some (sym (one_node v id m n (a.stands.nodes id m there) (b.stands.nodes id n here)))

  root_there : (m : Node) → IsNode one one.root m → IsNode other one.root m
  root_there m there = let r = b.plain.root in same_record one.root m r.0 there (subst (λ k. IsNode other k r.0) (sym roots) r.1)

  -- a child of a directory that both trees have
  child_there : (id : ℕ) (m p : Node) → id ≢ one.root → IsNode one id m → IsNode one m.parent p → p.kind ≡ Dir → IsNode other m.parent p → IsNode other id m
  child_there id m p inner there above dir below =
      ⊎_elim
      (λ dot. absurd (good_name m.name (codes ".") (a.plain.named id m there inner) dot.0 dot_bad))
      (λ rest. ⊎_elim
      (λ dots. absurd (good_name m.name (codes "..") (a.plain.named id m there inner) dots.0 dots_bad))
      (λ child. let same : id ≡ child.0 = pos_same id child.0 child.1 in same_record id m child.2.node there (subst (λ k. IsNode other k child.2.node) (sym same) child.2.there))
      rest)
      listed
    where
      own : IsChild one m.parent m.name id
      own = record { node = m; there = there; not_root = inner; parent = refl; named = refl }

      listed : IsRow other m.parent p m.name (pos id)
      listed = (b.stands.listings m.parent p below dir m.name (pos id)).0 ((a.stands.listings m.parent p above dir m.name (pos id)).1 (inr (inr (id, refl, own))))

  -- each node of the one is a node of the other, from the root down
  node_there : (id : ℕ) (m : Node) → IsNode one id m → LeadsTo one one.root id → IsNode other id m
  node_there _ m there at_top = root_there m there
  node_there id m there (by_parent _ node is up) =
      ⊎_elim (λ root. subst (λ k. IsNode other k m) (sym root) (root_there m (subst (λ k. IsNode one k m) root there)))
      (λ inner.
      let same : node ≡ m = some_same node m (sym is ∙ there) in
      let above = a.plain.parents id node is in
      subst (IsNode other id) same (child_there id node above.0 inner is above.1 above.2 (node_there node.parent above.0 above.1 up)))
      (same_or_not id one.root)

  -- each index of the one is an index of the other
  index_there : (name : List ℕ) (kind : KeyKind) → get one.indices name ≡ Some kind → get other.indices name ≡ Some kind
  index_there name kind there =
      let row = a.stands.no_more name kind there in
      let first = a.stands.indices name row.0 row.1 in
      let second = b.stands.indices name row.0 row.1 in
      let same : first.kind ≡ second.kind = one_kind first.kind second.kind (content v (natural row.0)) first.index.tree second.index.tree in
      let own : first.kind ≡ kind = some_same first.kind kind (sym first.there ∙ there) in
      second.there ∙ ap Some (sym same ∙ own)

pub one_stands : (v : Volume) (one other : Tree) → HasSoundNodes v one → HasSoundNodes v other → one ≡ other
one_stands v one other a b =
    let nodes : one.nodes ≡ other.nodes = same_map nat_cmp_total nat_cmp-IsAntisymmetric one.nodes other.nodes (λ id.
    same_options (get one.nodes id) (get other.nodes id) (λ m there. node_there v one other a b id m there (a.plain.lead id m there)) (λ m there. node_there v other one b a id m there (b.plain.lead id m there))) in
    let indices : one.indices ≡ other.indices = same_map nat_list_cmp_total (slice_cmp-IsAntisymmetric nat_cmp-IsAntisymmetric) one.indices other.indices (λ name.
    same_options (get one.indices name) (get other.indices name) (index_there v one other a b name) (index_there v other one b a name)) in
    let root : one.root ≡ other.root = a.stands.root ∙ sym b.stands.root in
    λ i. record { root = root i; nodes = nodes i; indices = indices i }

pub one_tree : (v : Volume) (one other : Tree) → IsSound v one → IsSound v other → one ≡ other
one_tree v one other a b = one_stands v one other a.nodes b.nodes
