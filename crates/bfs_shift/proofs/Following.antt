-- Lists that follow one node agree with the tree in which it came, went or moved.
use Rattle.std.proofs.Common.{◌≡◌, ◌≢◌, ◌⊎◌, ◌↔◌, inl, inr, ℕ, ℤ, zero, suc, pos, List, refl, sym, ap, ◌∙◌, subst, arith, Bool, true, false, Option, Some, None, codes}
use Rattle.std.specs.Prelude.{◌||◌, ◌==◌, not, nat_lt, length}
use Rattle.std.specs.Option.{option_map}
use Rattle.std.specs.Str.{bytes_eq, is_utf8}
use Rattle.std.proofs.lemmas.Slice.Eq.{bytes_eq-Decides}
use Rattle.std.specs.FinMap.{get}
use Rattle.bfs_base.specs.declared.kind.KeyKind.{KeyKind}
use Rattle.bfs_base.specs.declared.kind.KeyKind.TheVariants.{Text}
use Rattle.bfs_node.specs.Page.{Row}
use Rattle.bfs_pages.specs.Maps.{assoc}
use Rattle.bfs_tree.specs.declared.call.Kind.TheVariants.{Dir}
use Rattle.bfs_tree.specs.Listings.{listed, key_at, relisted}
use Rattle.bfs_tree.specs.Names.{is_bad_name, has_byte}
use Rattle.bfs_tree.specs.Trees.{Node, Tree, Indices, IsNode, LeadsTo, HasPlainNodes, at_top, by_parent}
use Rattle.bfs_tree.proofs.ListMoves.{listed-moves}
use Rattle.bfs_sound.specs.Listings.{IsChild, IsRow}
use Rattle.bfs_shift.specs.Lists.{Lists, RowsAgree, IsIndexIn, Agrees}
use Rattle.bfs_shift.specs.Seats.{Seat, seat, seat_at, had, ChangesSeat, StandsAt, RowsFollow, PairsFollow}

pub same_or_not : (a b : ℕ) → (a ≡ b) ⊎ (a ≢ b)
same_or_not zero zero = inl refl
same_or_not zero (suc b) = inr (λ e. omega (arith, e))
same_or_not (suc a) zero = inr (λ e. omega (arith, e))
same_or_not (suc a) (suc b) = further (same_or_not a b)
  where
    further : (a ≡ b) ⊎ (a ≢ b) → (suc a ≡ suc b) ⊎ (suc a ≢ suc b)
    further (inl e) = inl (ap suc e)
    further (inr other) = inr (λ e. other (omega (arith, e)))

pub named_or_not : (a b : List ℕ) → (a ≡ b) ⊎ (a ≢ b)
named_or_not a b = by_test (bytes_eq a b) refl
  where
    by_test : (t : Bool) → bytes_eq a b ≡ t → (a ≡ b) ⊎ (a ≢ b)
    by_test true e = inl ((bytes_eq-Decides a b).0 e)
    by_test false e = inr (λ same. let is : bytes_eq a b ≡ true = (bytes_eq-Decides a b).1 same in let bad : false ≡ true = sym e ∙ is in cc)

-- a node behind its seat
pub seated : (o : Option Node) (s : Seat) → option_map seat o ≡ Some s → (n : Node) × (o ≡ Some n) × (seat n ≡ s)
seated None s e = absurd (let bad : None ≡ Some s = e in cc)
seated (Some n) s e = let same : seat n ≡ s = cc in (n, refl, same)

-- a node of one tree stands in the other where it did
pub carried : (old new : Tree) (q : ℕ) (m : Node) → seat_at new q ≡ seat_at old q → IsNode new q m → (n : Node) × IsNode old q n × (seat n ≡ seat m)
carried old new q m same is = seated (get old.nodes q) (seat m) (sym same ∙ ap (option_map seat) is)

neither : (a b : Bool) → (a || b) ≡ false → (a ≡ false) × (b ≡ false)
neither true b h = let bad : true ≡ false = h in cc
neither false b h = (refl, h)

last_two : (x f g : Bool) → (x || f || g) ≡ false → (f ≡ false) × (g ≡ false)
last_two x f g h = let both = neither (x || f) g h in ((neither x f both.0).1, both.1)

-- names that aren't bad are neither `.` nor `..`
pub not_dot : (name : List ℕ) → is_bad_name name ≡ false → (name ≢ codes ".") × (name ≢ codes "..")
not_dot name good = (
  λ e. let is : bytes_eq name (codes ".") ≡ true = (bytes_eq-Decides name (codes ".")).1 e in one is,
  λ e. let is : bytes_eq name (codes "..") ≡ true = (bytes_eq-Decides name (codes "..")).1 e in two is,
)
  where
    one : bytes_eq name (codes ".") ≡ true → ⊥
    one is = let parts = last_two ((length name == 0) || nat_lt 255 (length name) || not (is_utf8 name) || has_byte 47 name || has_byte 0 name) (bytes_eq name (codes ".")) (bytes_eq name (codes "..")) good in let bad : true ≡ false = sym is ∙ parts.0 in cc

    two : bytes_eq name (codes "..") ≡ true → ⊥
    two is = let parts = last_two ((length name == 0) || nat_lt 255 (length name) || not (is_utf8 name) || has_byte 47 name || has_byte 0 name) (bytes_eq name (codes ".")) (bytes_eq name (codes "..")) good in let bad : true ≡ false = sym is ∙ parts.1 in cc

-- a node other than the root isn't its own parent
pub no_loop : (tree : Tree) (e : ℕ) → e ≢ tree.root → (m : Node) → IsNode tree e m → m.parent ≡ e → (q : ℕ) → LeadsTo tree tree.root q → q ≡ e → ⊥
no_loop tree e other m there own _ at_top same = other (sym same)
no_loop tree e other m there own _ (by_parent q n is up) same =
    let n_is : n ≡ m = (let both : Some n ≡ Some m = sym is ∙ ap (get tree.nodes) same ∙ there in cc) in
    no_loop tree e other m there own n.parent up (ap (λ (x : Node). x.parent) n_is ∙ own)

-- what the indices list follows the one node
with_indices : (old new : Tree) (e : ℕ) → new.indices ≡ old.indices → ((q : ℕ) → q ≢ e → (index : List ℕ) (kind : KeyKind) → key_at new index kind q ≡ key_at old index kind q)
    → (lists now : Lists) → Agrees old lists → PairsFollow new lists now e → RowsAgree new now → Agrees new now
with_indices old new e same keys lists now agrees pairs rows = record {
  rows = rows;
  indices = index_now;
  no_more = λ name kind there.
      let r = agrees.no_more name kind (subst (λ (m : Indices). get m name ≡ Some kind) same there) in
      (r.0, subst (λ (rows : List Row). assoc Text rows name ≡ Some r.0) (sym pairs.names) r.1);
}
  where
    index_now : (name : List ℕ) (value : ℤ) → assoc Text now.names name ≡ Some value → IsIndexIn new now name value
    index_now name value at =
        let before : assoc Text lists.names name ≡ Some value = subst (λ (rows : List Row). assoc Text rows name ≡ Some value) pairs.names at in
        let i = agrees.indices name value before in
        let listed_now : now.pairs name ≡ listed new name (lists.kinds name) =
        pairs.pairs name value before ∙ ap (relisted (lists.kinds name) e (key_at new name (lists.kinds name) e)) i.pairs
        ∙ sym (listed-moves old new name (lists.kinds name) e (λ q apart. keys q apart name (lists.kinds name))) in
        record {
          kind = subst (λ (m : Indices). get m name ≡ Some (now.kinds name)) (sym same) (i.kind ∙ ap Some (sym (pairs.kinds name)));
          number = i.number;
          pairs = listed_now ∙ ap (listed new name) (sym (pairs.kinds name));
        }

module _ (old new : Tree) (e : ℕ) (plain : HasPlainNodes old) (plain_now : HasPlainNodes new) (changes : ChangesSeat old new e) where
  -- where the one node stands, if it does
  stands_or_not : (tree : Tree) (d : ℕ) (name : List ℕ) → StandsAt tree e d name ⊎ (¬ StandsAt tree e d name)
  stands_or_not tree d name = by_node (get tree.nodes e) refl
    where
      by_names : (n : Node) → IsNode tree e n → (n.parent ≡ d) ⊎ (n.parent ≢ d) → (n.name ≡ name) ⊎ (n.name ≢ name) → StandsAt tree e d name ⊎ (¬ StandsAt tree e d name)
      by_names n is (inl p) (inl q) = inl (n, is, p, q)
      by_names n is (inr p) q = inr (λ s. let same : n ≡ s.0 = (let both : Some n ≡ Some s.0 = sym is ∙ s.1 in cc) in p (ap (λ (x : Node). x.parent) same ∙ s.2))
      by_names n is (inl p) (inr q) = inr (λ s. let same : n ≡ s.0 = (let both : Some n ≡ Some s.0 = sym is ∙ s.1 in cc) in q (ap (λ (x : Node). x.name) same ∙ s.3))

      by_node : (o : Option Node) → get tree.nodes e ≡ o → StandsAt tree e d name ⊎ (¬ StandsAt tree e d name)
      by_node None is = inr (λ s. let both : None ≡ Some s.0 = sym is ∙ s.1 in cc)
      by_node (Some n) is = by_names n is (same_or_not n.parent d) (named_or_not n.name name)

  -- a child other than the one node is one of the other tree too
  child_before : (d q : ℕ) (name : List ℕ) → q ≢ e → IsChild new d name q → IsChild old d name q
  child_before d q name apart c =
      let n = carried old new q c.node (changes.others q apart) c.there in
      record {
        node = n.0;
        there = n.1;
        not_root = λ is. c.not_root (is ∙ sym changes.root);
        parent = ap (λ (s : Seat). s.parent) n.2 ∙ c.parent;
        named = ap (λ (s : Seat). s.name) n.2 ∙ c.named;
      }

  child_now : (d q : ℕ) (name : List ℕ) → q ≢ e → IsChild old d name q → IsChild new d name q
  child_now d q name apart c =
      let n = carried new old q c.node (sym (changes.others q apart)) c.there in
      record {
        node = n.0;
        there = n.1;
        not_root = λ is. c.not_root (is ∙ changes.root);
        parent = ap (λ (s : Seat). s.parent) n.2 ∙ c.parent;
        named = ap (λ (s : Seat). s.name) n.2 ∙ c.named;
      }

  -- the one node's name is neither `.` nor `..`
  proper_now : (d : ℕ) (name : List ℕ) → StandsAt new e d name → (name ≢ codes ".") × (name ≢ codes "..")
  proper_now d name s = subst (λ (l : List ℕ). (l ≢ codes ".") × (l ≢ codes "..")) s.3 (not_dot s.0.name (plain_now.named e s.0 s.1 (λ is. changes.not_root (is ∙ changes.root))))

  proper_before : (d : ℕ) (name : List ℕ) → StandsAt old e d name → (name ≢ codes ".") × (name ≢ codes "..")
  proper_before d name s = subst (λ (l : List ℕ). (l ≢ codes ".") × (l ≢ codes "..")) s.3 (not_dot s.0.name (plain.named e s.0 s.1 changes.not_root))

  -- where it stands now, no other child does; and where it stood, none did
  alone_now : (d q : ℕ) (name : List ℕ) → StandsAt new e d name → IsChild new d name q → q ≡ e
  alone_now d q name s c = plain_now.apart q e c.node s.0 c.there s.1 (c.parent ∙ sym s.2) (c.named ∙ sym s.3)

  alone_before : (d q : ℕ) (name : List ℕ) → StandsAt old e d name → IsChild old d name q → q ≡ e
  alone_before d q name s c = plain.apart q e c.node s.0 c.there s.1 (c.parent ∙ sym s.2) (c.named ∙ sym s.3)

  is_child : (d : ℕ) (name : List ℕ) → StandsAt new e d name → IsChild new d name e
  is_child d name s = record { node = s.0; there = s.1; not_root = λ is. changes.not_root (is ∙ changes.root); parent = s.2; named = s.3 }

  stands_of : (tree : Tree) (d : ℕ) (name : List ℕ) (q : ℕ) → q ≡ e → IsChild tree d name q → StandsAt tree e d name
  stands_of tree d name q same c = (c.node, subst (λ (j : ℕ). IsNode tree j c.node) same c.there, c.parent, c.named)

  module _ (lists now : Lists) (agrees : RowsAgree old lists) (follow : RowsFollow old new lists now e) where
    -- a directory that is not the one node
    module _ (d : ℕ) (n : Node) (is : IsNode new d n) (dir : n.kind ≡ Dir) (apart : d ≢ e) where
      was : (o : Node) × IsNode old d o × (seat o ≡ seat n)
      was = carried old new d n (changes.others d apart) is

      was_dir : was.0.kind ≡ Dir
      was_dir = ap (λ (s : Seat). s.kind) was.2 ∙ dir

      parents : was.0.parent ≡ n.parent
      parents = ap (λ (s : Seat). s.parent) was.2

      before : (name : List ℕ) (value : ℤ) → (assoc Text (lists.rows d) name ≡ Some value) ↔ IsRow old d was.0 name value
      before name value = agrees d was.0 was.1 was_dir name value

      -- under its name now
      here_on : (name : List ℕ) (value : ℤ) → StandsAt new e d name → assoc Text (now.rows d) name ≡ Some value → IsRow new d n name value
      here_on name value s at = let number : pos e ≡ value = (let both : Some (pos e) ≡ Some value = sym (follow.came d name s) ∙ at in cc) in inr (inr (e, sym number, is_child d name s))

      here_back : (name : List ℕ) (value : ℤ) → StandsAt new e d name → IsRow new d n name value → assoc Text (now.rows d) name ≡ Some value
      here_back name value s (inl dot) = absurd ((proper_now d name s).0 dot.0)
      here_back name value s (inr (inl dots)) = absurd ((proper_now d name s).1 dots.0)
      here_back name value s (inr (inr c)) = follow.came d name s ∙ ap Some (ap pos (sym (alone_now d c.0 name s c.2)) ∙ sym c.1)

      -- under the name that it had
      left_back : (name : List ℕ) (value : ℤ) → StandsAt old e d name → ¬ StandsAt new e d name → IsRow new d n name value → ⊥
      left_back name value s nowhere (inl dot) = (proper_before d name s).0 dot.0
      left_back name value s nowhere (inr (inl dots)) = (proper_before d name s).1 dots.0
      left_back name value s nowhere (inr (inr c)) = by_id (same_or_not c.0 e)
        where
          by_id : (c.0 ≡ e) ⊎ (c.0 ≢ e) → ⊥
          by_id (inl same) = nowhere (stands_of new d name c.0 same c.2)
          by_id (inr other) = other (alone_before d c.0 name s (child_before d c.0 name other c.2))

      -- under any other name
      other_row : (name : List ℕ) (value : ℤ) → ¬ StandsAt old e d name → IsRow old d was.0 name value → IsRow new d n name value
      other_row name value nowhere (inl dot) = inl dot
      other_row name value nowhere (inr (inl dots)) = inr (inl (dots.0, dots.1 ∙ ap pos parents))
      other_row name value nowhere (inr (inr c)) = inr (inr (c.0, c.1, child_now d c.0 name (λ same. nowhere (stands_of old d name c.0 same c.2)) c.2))

      other_back : (name : List ℕ) (value : ℤ) → ¬ StandsAt new e d name → IsRow new d n name value → IsRow old d was.0 name value
      other_back name value nowhere (inl dot) = inl dot
      other_back name value nowhere (inr (inl dots)) = inr (inl (dots.0, dots.1 ∙ ap pos (sym parents)))
      other_back name value nowhere (inr (inr c)) = inr (inr (c.0, c.1, child_before d c.0 name (λ same. nowhere (stands_of new d name c.0 same c.2)) c.2))

      other_directory : (name : List ℕ) (value : ℤ) → (assoc Text (now.rows d) name ≡ Some value) ↔ IsRow new d n name value
      other_directory name value = by_cases (stands_or_not new d name) (stands_or_not old d name)
        where
          by_cases : StandsAt new e d name ⊎ (¬ StandsAt new e d name) → StandsAt old e d name ⊎ (¬ StandsAt old e d name) → (assoc Text (now.rows d) name ≡ Some value) ↔ IsRow new d n name value
          by_cases (inl s) o = (here_on name value s, here_back name value s)
          by_cases (inr s) (inl o) = (
            λ at. absurd (let none : None ≡ Some value = sym (follow.went d name o s apart) ∙ at in cc),
            λ row. absurd (left_back name value o s row),
          )
          by_cases (inr s) (inr o) =
              let same = follow.stayed d name o s apart in (
                λ at. other_row name value o ((before name value).0 (sym same ∙ at)),
                λ row. same ∙ (before name value).1 (other_back name value s row),
              )

    -- the one node itself, where it is a directory
    module _ (n : Node) (is : IsNode new e n) (dir : n.kind ≡ Dir) where
      -- a child of it is another node, in either tree
      child_other : (name : List ℕ) (q : ℕ) → IsChild new e name q → q ≢ e
      child_other name q c same = no_loop new e (λ r. changes.not_root (r ∙ changes.root)) c.node (subst (λ (j : ℕ). IsNode new j c.node) same c.there) c.parent e (plain_now.lead e c.node (subst (λ (j : ℕ). IsNode new j c.node) same c.there)) refl

      child_old : (name : List ℕ) (q : ℕ) → IsChild old e name q → q ≢ e
      child_old name q c same = no_loop old e changes.not_root c.node (subst (λ (j : ℕ). IsNode old j c.node) same c.there) c.parent e (plain.lead e c.node (subst (λ (j : ℕ). IsNode old j c.node) same c.there)) refl

      -- a name that is neither `.` nor `..`
      inner_on : (name : List ℕ) (value : ℤ) → name ≢ codes "." → name ≢ codes ".." → (o : Option Node) → get old.nodes e ≡ o → had lists e name (option_map seat o) ≡ Some value → IsRow new e n name value
      inner_on name value one two None none at = absurd (let bad : None ≡ Some value = at in cc)
      inner_on name value one two (Some o) there at = by_row ((agrees e o there (sym (changes.kind o n there is) ∙ dir) name value).0 at)
        where
          by_row : IsRow old e o name value → IsRow new e n name value
          by_row (inl dot) = absurd (one dot.0)
          by_row (inr (inl dots)) = absurd (two dots.0)
          by_row (inr (inr c)) = inr (inr (c.0, c.1, child_now e c.0 name (child_old name c.0 c.2) c.2))

      inner_back : (name : List ℕ) (value : ℤ) → (o : Option Node) → get old.nodes e ≡ o → (q : ℕ) × (value ≡ pos q) × IsChild new e name q → had lists e name (option_map seat o) ≡ Some value
      inner_back name value None none c =
          let before = child_before e c.0 name (child_other name c.0 c.2) c.2 in
          let up : (d : Node) × IsNode old before.node.parent d × (d.kind ≡ Dir) = plain.parents c.0 before.node before.there in
          let there : get old.nodes e ≡ Some up.0 = subst (λ (j : ℕ). IsNode old j up.0) before.parent up.1 in
          absurd (let both : None ≡ Some up.0 = sym none ∙ there in cc)
      inner_back name value (Some o) there c = (agrees e o there (sym (changes.kind o n there is) ∙ dir) name value).1 (inr (inr (c.0, c.1, child_before e c.0 name (child_other name c.0 c.2) c.2)))

      dot_on : (name : List ℕ) (value : ℤ) → name ≡ codes "." → assoc Text (now.rows e) name ≡ Some value → IsRow new e n name value
      dot_on name value dot at = inl (dot, (let both : Some value ≡ Some (pos e) = sym at ∙ ap (assoc Text (now.rows e)) dot ∙ follow.itself n is dir in let v : value ≡ pos e = cc in v))

      dots_on : (name : List ℕ) (value : ℤ) → name ≡ codes ".." → assoc Text (now.rows e) name ≡ Some value → IsRow new e n name value
      dots_on name value dots at = inr (inl (dots, (let both : Some value ≡ Some (pos n.parent) = sym at ∙ ap (assoc Text (now.rows e)) dots ∙ follow.up n is dir in let v : value ≡ pos n.parent = cc in v)))

      own_on : (name : List ℕ) (value : ℤ) → assoc Text (now.rows e) name ≡ Some value → IsRow new e n name value
      own_on name value at = by_name (named_or_not name (codes ".")) (named_or_not name (codes ".."))
        where
          by_name : (name ≡ codes ".") ⊎ (name ≢ codes ".") → (name ≡ codes "..") ⊎ (name ≢ codes "..") → IsRow new e n name value
          by_name (inl dot) o = dot_on name value dot at
          by_name (inr one) (inl dots) = dots_on name value dots at
          by_name (inr one) (inr two) = inner_on name value one two (get old.nodes e) refl (sym (follow.within n is dir name one two) ∙ at)

      own_back : (name : List ℕ) (value : ℤ) → IsRow new e n name value → assoc Text (now.rows e) name ≡ Some value
      own_back name value (inl dot) = ap (assoc Text (now.rows e)) dot.0 ∙ follow.itself n is dir ∙ ap Some (sym dot.1)
      own_back name value (inr (inl dots)) = ap (assoc Text (now.rows e)) dots.0 ∙ follow.up n is dir ∙ ap Some (sym dots.1)
      own_back name value (inr (inr c)) =
          let named = not_dot c.2.node.name (plain_now.named c.0 c.2.node c.2.there c.2.not_root) in
          follow.within n is dir name (λ dot. named.0 (c.2.named ∙ dot)) (λ dots. named.1 (c.2.named ∙ dots)) ∙ inner_back name value (get old.nodes e) refl c

    pub rows_follow : RowsAgree new now
    rows_follow d n is dir name value = by_id (same_or_not d e)
      where
        by_id : (d ≡ e) ⊎ (d ≢ e) → (assoc Text (now.rows d) name ≡ Some value) ↔ IsRow new d n name value
        by_id (inr apart) = other_directory d n is dir apart name value
        by_id (inl same) =
            let here : IsNode new e n = subst (λ (j : ℕ). IsNode new j n) same is in
            subst (λ (j : ℕ). (assoc Text (now.rows j) name ≡ Some value) ↔ IsRow new j n name value) (sym same) (own_on n here dir name value, own_back n here dir name value)

  pub agrees_follows : (lists now : Lists) → Agrees old lists → RowsFollow old new lists now e → PairsFollow new lists now e → Agrees new now
  agrees_follows lists now agrees follow pairs = with_indices old new e changes.indices changes.keys lists now agrees pairs (rows_follow lists now agrees.rows follow)

-- where all stand where they did
module _ (old new : Tree) (root : new.root ≡ old.root) (seats : (q : ℕ) → seat_at new q ≡ seat_at old q) (lists now : Lists) (rows : (d : ℕ) → now.rows d ≡ lists.rows d) where
  child_from : (a b : Tree) → b.root ≡ a.root → ((q : ℕ) → seat_at b q ≡ seat_at a q) → (d q : ℕ) (name : List ℕ) → IsChild b d name q → IsChild a d name q
  child_from a b at same d q name c =
      let n = carried a b q c.node (same q) c.there in
      record {
        node = n.0;
        there = n.1;
        not_root = λ is. c.not_root (is ∙ sym at);
        parent = ap (λ (s : Seat). s.parent) n.2 ∙ c.parent;
        named = ap (λ (s : Seat). s.name) n.2 ∙ c.named;
      }

  row_from : (a b : Tree) → b.root ≡ a.root → ((q : ℕ) → seat_at b q ≡ seat_at a q) → (d : ℕ) (m n : Node) → m.parent ≡ n.parent → (name : List ℕ) (value : ℤ) → IsRow b d n name value → IsRow a d m name value
  row_from a b at same d m n up name value (inl dot) = inl dot
  row_from a b at same d m n up name value (inr (inl dots)) = inr (inl (dots.0, dots.1 ∙ ap pos (sym up)))
  row_from a b at same d m n up name value (inr (inr c)) = inr (inr (c.0, c.1, child_from a b at same d c.0 name c.2))

  pub rows_stay : RowsAgree old lists → RowsAgree new now
  rows_stay agrees d n is dir name value =
      let was = carried old new d n (seats d) is in
      let up : was.0.parent ≡ n.parent = ap (λ (s : Seat). s.parent) was.2 in
      let before = agrees d was.0 was.1 (ap (λ (s : Seat). s.kind) was.2 ∙ dir) name value in
      let same : assoc Text (now.rows d) name ≡ assoc Text (lists.rows d) name = ap (λ (l : List Row). assoc Text l name) (rows d) in (
        λ at. row_from new old (sym root) (λ q. sym (seats q)) d n was.0 (sym up) name value (before.0 (sym same ∙ at)),
        λ row. same ∙ before.1 (row_from old new root seats d was.0 n up name value row),
      )

pub agrees_stays : (old new : Tree) (lists now : Lists) (e : ℕ) → new.root ≡ old.root → new.indices ≡ old.indices → ((q : ℕ) → seat_at new q ≡ seat_at old q)
    → ((q : ℕ) → q ≢ e → (index : List ℕ) (kind : KeyKind) → key_at new index kind q ≡ key_at old index kind q) → Agrees old lists → ((d : ℕ) → now.rows d ≡ lists.rows d) → PairsFollow new lists now e → Agrees new now
agrees_stays old new lists now e root indices seats keys agrees rows pairs = with_indices old new e indices keys lists now agrees pairs (rows_stay old new root seats lists now rows agrees.rows)
