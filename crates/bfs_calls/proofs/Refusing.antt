-- The refusals of a call that makes a node.
use Rattle.std.proofs.Common.{◌≡◌, ◌≤◌, ◌<◌, ⊎_elim, codes, ℕ, pos, List, [], ◌∷◌, length, Option, Some, None, Bool, true, false, refl, sym, ap, ◌∙◌}
use Rattle.std.proofs.lemmas.Bool.{cases_lt, lt-ltb}
use Rattle.std.specs.Str.{bytes_eq, is_utf8}
use Rattle.std.specs.Prelude.{not, ◌||◌, ◌==◌, nat_lt, is_some, IsSomeAnd}
use Rattle.std.specs.FinMap.{get}
use Rattle.bfs_tree.specs.declared.call.Call.TheVariants as calls
use Rattle.bfs_tree.specs.declared.call.MakeKind.{MakeKind}
use Rattle.bfs_tree.specs.declared.reply.Reply.{Reply}
use Rattle.bfs_tree.specs.declared.reply.Reply.TheVariants as replies
use Rattle.bfs_tree.specs.Names.{has_byte, is_bad_name, is_bad_target, target_of}
use Rattle.bfs_tree.specs.Refusals.{own_refusal, first, at_node, at_child}
use Rattle.bfs_tree.specs.States.{State}
use Rattle.bfs_tree.specs.Steps.{ByTree, Reads}
use Rattle.bfs_tree.specs.Trees.{Node, IsNode, is_dir, child}
use Rattle.bfs_calls.specs.Refusals.{taken_by}

-- the conditions of the directory that is there
abbrev rest : (dir : ℕ) (name : List ℕ) (kind : MakeKind) → Option (ℕ × Node) → Node → List (Bool × Reply)
rest dir name kind c d = (not (is_dir d.kind), replies.NotDir) ∷ (is_bad_name name || is_bad_target kind, replies.NameBad) ∷ (nat_lt 1024 (length (target_of kind)), replies.TooBig) ∷ (is_some c, replies.Exists) ∷ []

-- what a call that makes a node is refused by, by the tests that are made
abbrev tests : Bool → Bool → Bool → Bool → Option Reply
tests dir bad long there = first ((not dir, replies.NotDir) ∷ (bad, replies.NameBad) ∷ (long, replies.TooBig) ∷ (there, replies.Exists) ∷ [])

module _ (s : State) (dir : ℕ) (name : List ℕ) (kind : MakeKind) (mode : ℕ) where
  pub no_node : get s.tree.nodes dir ≡ None → own_refusal (calls.Make dir name kind mode) s ≡ Some replies.NotFound
  no_node e = ap (λ (o : Option Node). first (at_node o (rest dir name kind (child s.tree dir name)))) e

  module _ (d : Node) (is : IsNode s.tree dir d) where
    pub by_tests : own_refusal (calls.Make dir name kind mode) s ≡ tests (is_dir d.kind) (is_bad_name name || is_bad_target kind) (nat_lt 1024 (length (target_of kind))) (is_some (child s.tree dir name))
    by_tests = ap (λ (o : Option Node). first (at_node o (rest dir name kind (child s.tree dir name)))) is

    pub no_dir : is_dir d.kind ≡ false → own_refusal (calls.Make dir name kind mode) s ≡ Some replies.NotDir
    no_dir e = by_tests ∙ ap (λ (b : Bool). tests b (is_bad_name name || is_bad_target kind) (nat_lt 1024 (length (target_of kind))) (is_some (child s.tree dir name))) e

    module _ (dir_is : is_dir d.kind ≡ true) where
      here : own_refusal (calls.Make dir name kind mode) s ≡ tests true (is_bad_name name || is_bad_target kind) (nat_lt 1024 (length (target_of kind))) (is_some (child s.tree dir name))
      here = by_tests ∙ ap (λ (b : Bool). tests b (is_bad_name name || is_bad_target kind) (nat_lt 1024 (length (target_of kind))) (is_some (child s.tree dir name))) dir_is

      pub bad_name : (is_bad_name name || is_bad_target kind) ≡ true → own_refusal (calls.Make dir name kind mode) s ≡ Some replies.NameBad
      bad_name e = here ∙ ap (λ (b : Bool). tests true b (nat_lt 1024 (length (target_of kind))) (is_some (child s.tree dir name))) e

      module _ (good : (is_bad_name name || is_bad_target kind) ≡ false) where
        pub too_long : nat_lt 1024 (length (target_of kind)) ≡ true → own_refusal (calls.Make dir name kind mode) s ≡ Some replies.TooBig
        too_long e =
            here ∙ ap (λ (b : Bool). tests true b (nat_lt 1024 (length (target_of kind))) (is_some (child s.tree dir name))) good
            ∙ ap (λ (b : Bool). tests true false b (is_some (child s.tree dir name))) e

        pub by_child : nat_lt 1024 (length (target_of kind)) ≡ false → own_refusal (calls.Make dir name kind mode) s ≡ tests true false false (is_some (child s.tree dir name))
        by_child e =
            here ∙ ap (λ (b : Bool). tests true b (nat_lt 1024 (length (target_of kind))) (is_some (child s.tree dir name))) good
            ∙ ap (λ (b : Bool). tests true false b (is_some (child s.tree dir name))) e

  -- where a node may be made, its directory is there and has no child of the name
  pub may_be : own_refusal (calls.Make dir name kind mode) s ≡ None → (d : Node) × IsNode s.tree dir d × (is_dir d.kind ≡ true) × (child s.tree dir name ≡ None)
  may_be none = by_node (get s.tree.nodes dir) refl
    where
      by_dir : (d : Node) → get s.tree.nodes dir ≡ Some d → (b : Bool) → is_dir d.kind ≡ b → is_dir d.kind ≡ true
      by_dir d e true is = is
      by_dir d e false is = let bad : Some replies.NotDir ≡ None = sym (no_dir d e is) ∙ none in absurd cc

      last : (bad long : Bool) (c : Option (ℕ × Node)) → tests true bad long (is_some c) ≡ None → c ≡ None
      last true long c e = let bad : Some replies.NameBad ≡ None = e in absurd cc
      last false true c e = let bad : Some replies.TooBig ≡ None = e in absurd cc
      last false false (Some x) e = let bad : Some replies.Exists ≡ None = e in absurd cc
      last false false None e = refl

      by_node : (o : Option Node) → get s.tree.nodes dir ≡ o → (d : Node) × IsNode s.tree dir d × (is_dir d.kind ≡ true) × (child s.tree dir name ≡ None)
      by_node None e = let bad : Some replies.NotFound ≡ None = sym (no_node e) ∙ none in absurd cc
      by_node (Some d) e =
          let is = by_dir d e (is_dir d.kind) refl in
          (d, e, is, last (is_bad_name name || is_bad_target kind) (nat_lt 1024 (length (target_of kind))) (child s.tree dir name) (sym (here d e is) ∙ none))

  -- a look-up answers whether a name is taken
  pub looked_up : (d : Node) → IsNode s.tree dir d → is_dir d.kind ≡ true → (reply : Reply) → Reads (calls.Lookup dir name) s reply → taken_by reply ≡ tests true false false (is_some (child s.tree dir name))
  looked_up d is isdir reply reads = by_turn (reads 0 (pos 0))
    where
      refusal : own_refusal (calls.Lookup dir name) s ≡ first (at_child (child s.tree dir name) (λ id node. []))
      refusal =
          ap (λ (o : Option Node). first (at_node o (λ d. (not (is_dir d.kind), replies.NotDir) ∷ at_child (child s.tree dir name) (λ id node. [])))) is
          ∙ ap (λ (b : Bool). first ((not b, replies.NotDir) ∷ at_child (child s.tree dir name) (λ id node. []))) isdir

      refused : (c : Option (ℕ × Node)) → first (at_child c (λ id node. [])) ≡ Some reply → taken_by reply ≡ tests true false false (is_some c)
      refused None e = let same : replies.NotFound ≡ reply = (let both : Some replies.NotFound ≡ Some reply = e in cc) in ap taken_by (sym same)
      refused (Some x) e = let bad : None ≡ Some reply = e in absurd cc

      answered : (c : Option (ℕ × Node)) → first (at_child c (λ id node. [])) ≡ None → IsSomeAnd c (λ e. reply ≡ replies.Found e.0 e.1.kind) → taken_by reply ≡ tests true false false (is_some c)
      answered None e a = let bad : Some replies.NotFound ≡ None = e in absurd cc
      answered (Some x) e a = ap taken_by a

      by_turn : ByTree 0 (pos 0) (calls.Lookup dir name) reply s s → taken_by reply ≡ tests true false false (is_some (child s.tree dir name))
      by_turn (ByTree.refused e same) = refused (child s.tree dir name) (sym refusal ∙ e)
      by_turn (ByTree.answered e a same) = answered (child s.tree dir name) (sym refusal ∙ e) a

neither : (a b : Bool) → (a || b) ≡ false → (a ≡ false) × (b ≡ false)
neither true b h = let bad : true ≡ false = h in absurd cc
neither false b h = (refl, h)

-- a name that isn't bad has at most 255 bytes
pub good_short : (name : List ℕ) → is_bad_name name ≡ false → length name ≤ 255
good_short name good = ⊎_elim (λ lt. absurd (long lt)) (λ le. le) (cases_lt 255 (length name))
  where
    long : 255 < length name → ⊥
    long lt =
        let a = neither ((length name == 0) || nat_lt 255 (length name) || not (is_utf8 name) || has_byte 47 name || has_byte 0 name || bytes_eq name (codes ".")) (bytes_eq name (codes "..")) good in
        let b = neither ((length name == 0) || nat_lt 255 (length name) || not (is_utf8 name) || has_byte 47 name || has_byte 0 name) (bytes_eq name (codes ".")) a.0 in
        let c = neither ((length name == 0) || nat_lt 255 (length name) || not (is_utf8 name) || has_byte 47 name) (has_byte 0 name) b.0 in
        let d = neither ((length name == 0) || nat_lt 255 (length name) || not (is_utf8 name)) (has_byte 47 name) c.0 in
        let e = neither ((length name == 0) || nat_lt 255 (length name)) (not (is_utf8 name)) d.0 in
        let f = neither (length name == 0) (nat_lt 255 (length name)) e.0 in
        let bad : true ≡ false = sym (lt-ltb 255 (length name) lt) ∙ f.1 in
        cc
