-- The refusals of a call that makes an index.
use Rattle.std.proofs.Common.{◌≡◌, ◌≤◌, ◌<◌, ◌∙◌, inl, inr, ℕ, zero, suc, List, [], ◌∷◌, Bool, true, false, cond, Option, Some, None, refl, sym, ap, subst, arith}
use Rattle.std.specs.Prelude.{◌==◌, nat_le, is_some}
use Rattle.std.specs.FinMap.{get, len, empty, len-empty}
use Rattle.bfs_base.specs.Keys.{IsTreeKind, text_cmp}
use Rattle.bfs_base.specs.declared.kind.KeyKind.{KeyKind}
use Rattle.bfs_base.specs.declared.kind.KeyKind.TheVariants.{Text, I32, U32, I64, U64, F32, F64}
use Rattle.bfs_tree.specs.declared.call.Call.TheVariants.{IndexMake}
use Rattle.bfs_tree.specs.declared.reply.Reply.{Reply}
use Rattle.bfs_tree.specs.declared.reply.Reply.TheVariants as replies
use Rattle.bfs_tree.specs.Names.{is_bad_name}
use Rattle.bfs_tree.specs.Refusals.{own_refusal, first, is_float}
use Rattle.bfs_tree.specs.States.{State}
use Rattle.bfs_tree.specs.Trees.{Tree, HasPlainIndices}
use Rattle.bfs_index_make.specs.Made.{IsNewIndex}
use Rattle.bfs_stream.proofs.Taking.{some_test}
use Rattle.std.proofs.lemmas.Bool.{le-leb, lt-leb}

-- what such a call is refused by, by the tests that are made
abbrev tests : Bool → Bool → Bool → Bool → Bool → Option Reply
tests none there float bad many = first ((none, replies.NoIndex) ∷ (there, replies.Exists) ∷ (float, replies.FloatIndex) ∷ (bad, replies.NameBad) ∷ (many, replies.IndexCount) ∷ [])

module _ (s : State) (name : List ℕ) (kind : KeyKind) where
  abbrev of : Bool → Bool → Bool → Bool → Bool → Type 0
  of none there float bad many = own_refusal (IndexMake name kind) s ≡ tests none there float bad many

  abbrev many : Bool
  many = nat_le 32 (len s.tree.indices)

  pub no_index : (len s.tree.indices == 0) ≡ true → own_refusal (IndexMake name kind) s ≡ Some replies.NoIndex
  no_index e = ap (λ (b : Bool). tests b (is_some (get s.tree.indices name)) (is_float kind) (is_bad_name name) many) e

  module _ (some : (len s.tree.indices == 0) ≡ false) where
    some_there : of false (is_some (get s.tree.indices name)) (is_float kind) (is_bad_name name) many
    some_there = ap (λ (b : Bool). tests b (is_some (get s.tree.indices name)) (is_float kind) (is_bad_name name) many) some

    pub there_is : (other : KeyKind) → get s.tree.indices name ≡ Some other → own_refusal (IndexMake name kind) s ≡ Some replies.Exists
    there_is other e = some_there ∙ ap (λ (o : Option KeyKind). tests false (is_some o) (is_float kind) (is_bad_name name) many) e

    module _ (absent : get s.tree.indices name ≡ None) where
      is_new : of false false (is_float kind) (is_bad_name name) many
      is_new = some_there ∙ ap (λ (o : Option KeyKind). tests false (is_some o) (is_float kind) (is_bad_name name) many) absent

      pub float_kind : is_float kind ≡ true → own_refusal (IndexMake name kind) s ≡ Some replies.FloatIndex
      float_kind e = is_new ∙ ap (λ (b : Bool). tests false false b (is_bad_name name) many) e

      module _ (whole : is_float kind ≡ false) where
        is_whole : of false false false (is_bad_name name) many
        is_whole = is_new ∙ ap (λ (b : Bool). tests false false b (is_bad_name name) many) whole

        pub bad_name : is_bad_name name ≡ true → own_refusal (IndexMake name kind) s ≡ Some replies.NameBad
        bad_name e = is_whole ∙ ap (λ (b : Bool). tests false false false b many) e

        module _ (good : is_bad_name name ≡ false) where
          pub by_count : (b : Bool) → many ≡ b → own_refusal (IndexMake name kind) s ≡ cond b (Some replies.IndexCount) None
          by_count b e = is_whole ∙ ap (λ (t : Bool). tests false false false t many) good ∙ ap (λ (t : Bool). tests false false false false t) e

-- a kind that isn't a float's is that of a tree
pub of_tree : (kind : KeyKind) → is_float kind ≡ false → IsTreeKind kind
of_tree Text e = tt
of_tree I32 e = tt
of_tree U32 e = tt
of_tree I64 e = tt
of_tree U64 e = tt
of_tree F32 e = absurd (let bad : true ≡ false = e in cc)
of_tree F64 e = absurd (let bad : true ≡ false = e in cc)

-- what was counted, as tests
module _ (of at : Tree) (count : ℕ) (same : of ≡ at) (is : count ≡ len at.indices) where
  counted : count ≡ len of.indices
  counted = is ∙ ap (λ (t : Tree). len t.indices) (sym same)

  pub is_none : count ≡ 0 → (len of.indices == 0) ≡ true
  is_none e = subst (λ (n : ℕ). (n == 0) ≡ true) (sym e ∙ counted) refl

  pub not_none : (count ≡ 0 → ⊥) → (len of.indices == 0) ≡ false
  not_none e = subst (λ (n : ℕ). (n == 0) ≡ false) counted (by_number count e)
    where
      by_number : (n : ℕ) → (n ≡ 0 → ⊥) → (n == 0) ≡ false
      by_number zero f = absurd (f refl)
      by_number (suc n) f = some_test (suc n) (omega arith)

  pub too_many : 32 ≤ count → nat_le 32 (len of.indices) ≡ true
  too_many e = subst (λ (n : ℕ). nat_le 32 n ≡ true) counted (le-leb 32 count e)

  pub few : count < 32 → nat_le 32 (len of.indices) ≡ false
  few e = subst (λ (n : ℕ). nat_le 32 n ≡ false) counted (lt-leb 32 count e)

-- where no such call is refused, the tree has the built-in indices and none of the name
pub new_index : (s : State) (name : List ℕ) (kind : KeyKind) → HasPlainIndices s.tree.indices → own_refusal (IndexMake name kind) s ≡ None → IsNewIndex s.tree name
new_index s name kind plain fine = by_plain plain
  where
    no_indices : s.tree.indices ≡ empty → ⊥
    no_indices e =
        let none : len s.tree.indices ≡ 0 = ap len e ∙ len-empty text_cmp KeyKind in
        let bad : Some replies.NoIndex ≡ None = sym (no_index s name kind (subst (λ (n : ℕ). (n == 0) ≡ true) (sym none) refl)) ∙ fine in
        cc

    some : (len s.tree.indices == 0) ≡ false
    some = by_test (len s.tree.indices == 0) refl
      where
        by_test : (t : Bool) → (len s.tree.indices == 0) ≡ t → (len s.tree.indices == 0) ≡ false
        by_test false e = e
        by_test true e = absurd (let bad : Some replies.NoIndex ≡ None = sym (no_index s name kind e) ∙ fine in cc)

    by_kind : (o : Option KeyKind) → get s.tree.indices name ≡ o → get s.tree.indices name ≡ None
    by_kind None e = e
    by_kind (Some other) e = absurd (let bad : Some replies.Exists ≡ None = sym (there_is s name kind some other e) ∙ fine in cc)

    by_plain : HasPlainIndices s.tree.indices → IsNewIndex s.tree name
    by_plain (inl e) = absurd (no_indices e)
    by_plain (inr built) = record { built_in = built; absent = by_kind (get s.tree.indices name) refl }
