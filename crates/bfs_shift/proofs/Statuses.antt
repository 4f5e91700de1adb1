-- A node has another record where it stands; an index is made or removed.
use Rattle.std.proofs.Common.{◌≡◌, ◌≢◌, ◌⊎◌, inl, inr, ℕ, ℤ, pos, List, refl, sym, ap, ◌∙◌, true, false, cond, Option, Some, None}
use Rattle.std.specs.Option.{option_map, option_and_then}
use Rattle.std.proofs.lemmas.Cmp.{nat_list_cmp_total}
use Rattle.std.specs.Ordering.{eq_by_cmp}
use Rattle.std.specs.FinMap.{get, insert, remove, get-insert, get-remove}
use Rattle.bfs_base.specs.Keys.{text_cmp}
use Rattle.bfs_base.specs.declared.kind.KeyKind.{KeyKind}
use Rattle.bfs_base.specs.declared.kind.KeyKind.TheVariants.{Text}
use Rattle.bfs_super.specs.Conditions.{natural}
use Rattle.bfs_pages.specs.Maps.{assoc}
use Rattle.bfs_pages.proofs.KeyOrder.{same_itself}
use Rattle.bfs_tree.specs.Listings.{key_in, key_at, listed, relisted}
use Rattle.bfs_tree.specs.Trees.{Node, Tree, IsNode}
use Rattle.bfs_tree.proofs.ListMoves.{listed-put, listed-kept}
use Rattle.bfs_shift.specs.Lists.{Lists, IsIndexIn, Agrees}
use Rattle.bfs_shift.specs.Seats.{seat, seat_at}
use Rattle.bfs_shift.specs.TreeLaws.{Rekeys, GainsIndex, LosesIndex}
use Rattle.bfs_shift.proofs.Following.{same_or_not, named_or_not, agrees_stays, rows_stay}
use Rattle.bfs_shift.proofs.Made.{put_here, put_other, names_apart}

module _ (tree : Tree) (lists now : Lists) (id : ℕ) (n m : Node) (is : IsNode tree id n) (kind : m.kind ≡ n.kind) (name : m.name ≡ n.name) (parent : m.parent ≡ n.parent) (agrees : Agrees tree lists) (rekeys : Rekeys tree lists now id n m) where
  abbrev after : Tree
  after = record tree { nodes = insert tree.nodes id m }

  same_seat : seat m ≡ seat n
  same_seat = λ i. record { kind = kind i; name = name i; parent = parent i }

  seats : (q : ℕ) → seat_at after q ≡ seat_at tree q
  seats q = by_id (same_or_not q id)
    where
      by_id : (q ≡ id) ⊎ (q ≢ id) → seat_at after q ≡ seat_at tree q
      by_id (inl here) = ap (seat_at after) here ∙ ap (option_map seat) (put_here tree.nodes id m) ∙ ap Some same_seat ∙ ap (option_map seat) (sym is) ∙ ap (seat_at tree) (sym here)
      by_id (inr apart) = ap (option_map seat) (put_other tree.nodes id m q apart)

  keys : (q : ℕ) → q ≢ id → (index : List ℕ) (k : KeyKind) → key_at after index k q ≡ key_at tree index k q
  keys q apart index k = ap (option_and_then (key_in tree.root index k q)) (put_other tree.nodes id m q apart)

  key_now : (index : List ℕ) (k : KeyKind) → key_at after index k id ≡ key_in tree.root index k id m
  key_now index k = ap (option_and_then (key_in tree.root index k id)) (put_here tree.nodes id m)

  pairs_at : (index : List ℕ) (value : ℤ) → assoc Text lists.names index ≡ Some value → now.pairs index ≡ relisted (lists.kinds index) id (key_at after index (lists.kinds index) id) (lists.pairs index)
  pairs_at index value at = by_case (rekeys.pairs index value at)
    where
      by_case : (now.pairs index ≡ relisted (lists.kinds index) id (key_in tree.root index (lists.kinds index) id m) (lists.pairs index)) ⊎ ((key_in tree.root index (lists.kinds index) id m ≡ key_in tree.root index (lists.kinds index) id n) × (now.pairs index ≡ lists.pairs index))
          → now.pairs index ≡ relisted (lists.kinds index) id (key_at after index (lists.kinds index) id) (lists.pairs index)
      by_case (inl moved) = moved ∙ ap (λ (key : Option (List ℕ)). relisted (lists.kinds index) id key (lists.pairs index)) (sym (key_now index (lists.kinds index)))
      by_case (inr kept) =
          let i = agrees.indices index value at in
          let stays : listed after index (lists.kinds index) ≡ listed tree index (lists.kinds index) = listed-kept tree index (lists.kinds index) id n m is kept.0 in
          let put : listed after index (lists.kinds index) ≡ relisted (lists.kinds index) id (key_in tree.root index (lists.kinds index) id m) (listed tree index (lists.kinds index)) = listed-put tree index (lists.kinds index) id m in
          kept.1 ∙ i.pairs ∙ sym stays ∙ put ∙ ap (relisted (lists.kinds index) id (key_in tree.root index (lists.kinds index) id m)) (sym i.pairs) ∙ ap (λ (key : Option (List ℕ)). relisted (lists.kinds index) id key (lists.pairs index)) (sym (key_now index (lists.kinds index)))

  pub status_agrees : Agrees (record tree { nodes = insert tree.nodes id m }) now
  status_agrees = agrees_stays tree after lists now id refl refl seats keys agrees rekeys.rows (record { names = rekeys.names; kinds = rekeys.kinds; pairs = pairs_at })

name_tie : (name : List ℕ) → eq_by_cmp text_cmp name name ≡ true
name_tie name = same_itself Text name

name_apart : (other name : List ℕ) → other ≢ name → eq_by_cmp text_cmp other name ≡ false
name_apart other name apart = names_apart other name apart

module _ (tree : Tree) (lists now : Lists) (name : List ℕ) (id : ℕ) (kind : KeyKind) (agrees : Agrees tree lists) (gains : GainsIndex tree lists now name id kind) where
  abbrev made : Tree
  made = record tree { indices = insert tree.indices name kind }

  got : (other : List ℕ) → get made.indices other ≡ cond (eq_by_cmp text_cmp other name) (Some kind) (get tree.indices other)
  got other = get-insert nat_list_cmp_total tree.indices name kind other

  got_here : get made.indices name ≡ Some kind
  got_here = got name ∙ ap (λ t. cond t (Some kind) (get tree.indices name)) (name_tie name)

  got_other : (other : List ℕ) → other ≢ name → get made.indices other ≡ get tree.indices other
  got_other other apart = got other ∙ ap (λ t. cond t (Some kind) (get tree.indices other)) (name_apart other name apart)

  index_in : (other : List ℕ) (value : ℤ) → assoc Text now.names other ≡ Some value → (other ≡ name) ⊎ (other ≢ name) → IsIndexIn made now other value
  index_in other value at (inl same) =
      let number : value ≡ pos id = (let both : Some value ≡ Some (pos id) = sym at ∙ ap (assoc Text now.names) same ∙ gains.names.changed in cc) in
      record {
        kind = ap (get made.indices) same ∙ got_here ∙ ap Some (sym gains.kind_is) ∙ ap (λ (l : List ℕ). Some (now.kinds l)) (sym same);
        number = number ∙ ap (λ (z : ℤ). pos (natural z)) (sym number);
        pairs = ap now.pairs same ∙ gains.pairs ∙ ap (listed tree name) (sym gains.kind_is) ∙ ap (λ (l : List ℕ). listed tree l (now.kinds l)) (sym same);
      }
  index_in other value at (inr apart) =
      let i = agrees.indices other value (sym (gains.names.others other (names_apart other name apart)) ∙ at) in
      let o = gains.others other apart in
      record {
        kind = got_other other apart ∙ i.kind ∙ ap Some (sym o.0);
        number = i.number;
        pairs = o.1 ∙ i.pairs ∙ ap (listed tree other) (sym o.0);
      }

  no_more : (other : List ℕ) (k : KeyKind) → get made.indices other ≡ Some k → (other ≡ name) ⊎ (other ≢ name) → (value : ℤ) × (assoc Text now.names other ≡ Some value)
  no_more other k there (inl same) = (pos id, ap (assoc Text now.names) same ∙ gains.names.changed)
  no_more other k there (inr apart) = let r = agrees.no_more other k (sym (got_other other apart) ∙ there) in (r.0, gains.names.others other (names_apart other name apart) ∙ r.1)

  pub index_make_agrees : Agrees (record tree { indices = insert tree.indices name kind }) now
  index_make_agrees = record {
    rows = rows_stay tree made refl (λ q. refl) lists now gains.rows agrees.rows;
    indices = λ other value at. index_in other value at (named_or_not other name);
    no_more = λ other k there. no_more other k there (named_or_not other name);
  }

module _ (tree : Tree) (lists now : Lists) (name : List ℕ) (agrees : Agrees tree lists) (loses : LosesIndex lists now name) where
  abbrev without_index : Tree
  without_index = record tree { indices = remove tree.indices name }

  left : (other : List ℕ) → get without_index.indices other ≡ cond (eq_by_cmp text_cmp other name) None (get tree.indices other)
  left other = get-remove nat_list_cmp_total tree.indices name other

  left_here : get without_index.indices name ≡ None
  left_here = left name ∙ ap (λ t. cond t None (get tree.indices name)) (name_tie name)

  left_other : (other : List ℕ) → other ≢ name → get without_index.indices other ≡ get tree.indices other
  left_other other apart = left other ∙ ap (λ t. cond t None (get tree.indices other)) (name_apart other name apart)

  still_in : (other : List ℕ) (value : ℤ) → assoc Text now.names other ≡ Some value → (other ≡ name) ⊎ (other ≢ name) → IsIndexIn without_index now other value
  still_in other value at (inl same) = absurd (let bad : Some value ≡ None = sym at ∙ ap (assoc Text now.names) same ∙ loses.names.changed in cc)
  still_in other value at (inr apart) =
      let i = agrees.indices other value (sym (loses.names.others other (names_apart other name apart)) ∙ at) in
      let o = loses.others other apart in
      record {
        kind = left_other other apart ∙ i.kind ∙ ap Some (sym o.0);
        number = i.number;
        pairs = o.1 ∙ i.pairs ∙ ap (listed tree other) (sym o.0);
      }

  still_more : (other : List ℕ) (k : KeyKind) → get without_index.indices other ≡ Some k → (other ≡ name) ⊎ (other ≢ name) → (value : ℤ) × (assoc Text now.names other ≡ Some value)
  still_more other k there (inl same) = absurd (let bad : Some k ≡ None = sym there ∙ ap (get without_index.indices) same ∙ left_here in cc)
  still_more other k there (inr apart) = let r = agrees.no_more other k (sym (left_other other apart) ∙ there) in (r.0, loses.names.others other (names_apart other name apart) ∙ r.1)

  pub index_remove_agrees : Agrees (record tree { indices = remove tree.indices name }) now
  index_remove_agrees = record {
    rows = rows_stay tree without_index refl (λ q. refl) lists now loses.rows agrees.rows;
    indices = λ other value at. still_in other value at (named_or_not other name);
    no_more = λ other k there. still_more other k there (named_or_not other name);
  }
