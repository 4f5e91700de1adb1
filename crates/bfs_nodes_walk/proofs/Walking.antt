-- A walk begins with the root, goes on with what a row names, and is whole where no row leads on.
use Rattle.std.proofs.Common.{◌≡◌, ◌≢◌, ◌≤◌, ◌<◌, ◌+◌, ◌%◌, ◌/◌, ◌==◌, ◌⊎◌, inl, inr, ℕ, ℤ, pos, List, [], ◌∷◌, ◌++◌, length, take, drop, get_or, map, Some, Bool, true, false, cond, refl, sym, ap, ◌∙◌, subst, arith, append-nil}
use Rattle.std.proofs.lemmas.List.{take_more, drop_more, take_all, drop_all}
use Rattle.bfs_base.specs.Lists.{times, Has}
use Rattle.bfs_base.specs.declared.kind.KeyKind.TheVariants.{Text}
use Rattle.bfs_node.specs.Page.{Row}
use Rattle.bfs_super.specs.Conditions.{natural}
use Rattle.bfs_pages.specs.Ways.{KeysAscend}
use Rattle.bfs_smalldata.specs.Items.{Item}
use Rattle.bfs_smalldata.specs.Edits.{AreDistinct}
use Rattle.bfs_tree.specs.declared.call.Kind.{Kind}
use Rattle.bfs_tree.specs.declared.call.Kind.TheVariants.{File, Dir, Link}
use Rattle.bfs_tree.specs.Trees.{Node, is_dir}
use Rattle.bfs_sound.specs.Volumes.{Volume}
use Rattle.bfs_sound.specs.Inodes.{kind_bits, mode_bits, content, proper_rows}
use Rattle.bfs_sound.specs.Attributes.{attributes_in, attribute_directory, attributes_of}
use Rattle.bfs_sound.specs.Nodes.{IsCalled, AreApart, HasNode}
use Rattle.bfs_sound.specs.Owners.{In, own_blocks}
use Rattle.bfs_finding.specs.Ways.{Way, IsReached, root_reached, row_reached, says, Arrives, to_root, to_child, of_node}
use Rattle.bfs_finding.proofs.Rows.{tree_ascends}
use Rattle.bfs_finding.specs.Findings.{IsBroken}
use Rattle.bfs_finding.specs.declared.finding.Finding.TheVariants as finds
use Rattle.bfs_claims.specs.Claims.{Claimed, AreClaimed}
use Rattle.bfs_claims.proofs.Claiming.{times_append}
use Rattle.bfs_node_check.specs.Roles.{role_of}
use Rattle.bfs_node_check.specs.declared.role.Role.TheVariants as roles
use Rattle.bfs_node_check.specs.Inodes.{IsGoodNode}
use Rattle.bfs_inode_walk.specs.declared.fault.VisitFault.{VisitFault}
use Rattle.bfs_inode_walk.specs.declared.fault.VisitFault.TheVariants.{Wrong, Taken, Block}
use Rattle.bfs_inode_walk.specs.Visited.{role_blocks, IsSoundIn, IsTaken, IsTakenFirst, IsUntaken}
use Rattle.bfs_inode_walk.specs.Records.{record_in, HasParts}
use Rattle.bfs_inode_walk.proofs.Recorded.{record_is}
use Rattle.bfs_owner.specs.Owned.{blocks_of_places}
use Rattle.bfs_owner.specs.declared.place.Place.{Place}
use Rattle.bfs_node_walk.specs.Rows.{as_rows}
use Rattle.bfs_node_walk.specs.NameRow.{NameRow}
use Rattle.bfs_node_walk.specs.Listed.{proper, NamesBlock}
use Rattle.bfs_node_walk.specs.Nodes.{AreRowsOf, IsNamedBy}
use Rattle.bfs_tour.specs.Tours.{Visit}
use Rattle.bfs_tour.specs.Touring.{Lead, lead_by, leads_at, IsListed, IsTouring, IsStep}
use Rattle.bfs_tour.proofs.Going.{begins, goes_on}
use Rattle.bfs_nodes_walk.specs.declared.lead.NodeLead.{NodeLead}
use Rattle.bfs_nodes_walk.specs.Clashes.{ArePlacedApart, IsApart}
use Rattle.bfs_nodes_walk.specs.Leads.{as_lead, as_leads, leads_in, IsRowOf, IsOtherRow, AreOtherRows, IsTakenBy, place_of, places_of_nodes}
use Rattle.bfs_nodes_walk.specs.Walks.{HasAttributes, HaveAttributes, blocks_of_visits, IsNodeWay, IsOnWay, way_to, AreOnWays, IsWalking, IsWalkedTo, IsWalked}
use Rattle.bfs_nodes_walk.proofs.Leading.{drop_front, take_front, in_parts, of_all, leads_append, leads_of_rows, lead_is_row, rows_differ, both_differ, differs_at, visit_of_row}
use Rattle.bfs_nodes_walk.proofs.Placing.{place_met, visits_of_places}
use Rattle.bfs_nodes_walk.proofs.Blocks.{eq_itself, own_is, new_here, root_is_other, row_is_other, has_first, has_second, has_between, claimed_between}

abbrev test : Bool → ℕ
test c = cond c 1 0

some_items : (xs ys : List Item) → Some xs ≡ Some ys → xs ≡ ys
some_items xs ys e = cc

-- ways to nodes
root_way : IsNodeWay to_root
root_way = (roles.Root, refl, refl)

row_way : (d : ℕ) (name : List ℕ) → IsNodeWay (to_child d name)
row_way d name = (roles.Child, refl, refl)

one_is_met : (a b rest : ℕ) → a ≡ b → test (a == b) + rest ≡ 0 → ⊥
one_is_met a b rest e none =
    let c : test (a == b) ≡ 1 = ap test (subst (λ (n : ℕ). (n == b) ≡ true) (sym e) (eq_itself b)) in
    omega (arith, c, none)

-- ---- rows of a node

module _ (v : Volume) (id parent : ℕ) (rows : List NameRow) (are : AreRowsOf v id parent rows) (kind : Kind) (kind_is : mode_bits v id / 4096 % 16 ≡ kind_bits kind) where
  pub says_dir : kind ≡ Dir → says v id Dir ≡ true
  says_dir d = ap (λ (n : ℕ). n == 4) (kind_is ∙ ap kind_bits d)

  says_file : kind ≡ File → says v id Dir ≡ false
  says_file d = ap (λ (n : ℕ). n == 4) (kind_is ∙ ap kind_bits d)

  says_link : kind ≡ Link → says v id Dir ≡ false
  says_link d = ap (λ (n : ℕ). n == 4) (kind_is ∙ ap kind_bits d)

  -- those that lead on are those that a tour has
  leads_by : (k : Kind) → kind ≡ k → as_leads (leads_in id rows) ≡ cond (is_dir k) (map (lead_by id) (proper_rows v id)) []
  leads_by Dir e = leads_of_rows id rows ∙ ap (λ (r : List Row). map (lead_by id) (proper r)) (are.names (says_dir e)).are
  leads_by File e = ap (λ (r : List NameRow). as_leads (leads_in id r)) (are.none (says_file e))
  leads_by Link e = ap (λ (r : List NameRow). as_leads (leads_in id r)) (are.none (says_link e))

  number_of : (row : Row) → In row (proper_rows v id) → kind ≡ Dir → row.1 ≡ pos (natural row.1)
  number_of row i d =
      let b = of_all (NamesBlock v.geometry.blocks) (proper_rows v id) row (are.listing (says_dir d)).inside i in
      b.1 ∙ ap pos (sym (ap natural b.1))

  pub is_listed : (n : Node) → n.parent ≡ parent → kind ≡ Dir → IsListed v (id, n)
  is_listed n same d =
      let l = are.listing (says_dir d) in
      record { dot = l.dot; dots = l.dots ∙ ap (λ (k : ℕ). Some (pos k)) (sym same); numbers = λ row i. number_of row i d }

  -- no two of them have one name
  pub rows_other : AreOtherRows (leads_in id rows)
  rows_other = by_dir (says v id Dir) refl
    where
      by_dir : (c : Bool) → says v id Dir ≡ c → AreOtherRows (leads_in id rows)
      by_dir true d =
          let n = are.names d in
          rows_differ id rows (subst (KeysAscend Text) (sym n.are) (tree_ascends Text (content v id) n.tree))
      by_dir false d = subst (λ (r : List NameRow). AreOtherRows (leads_in id r)) (sym (are.none d)) tt

  -- a row that leads on from a node that is reached
  pub new_row : IsReached v id → (x : NodeLead) → In x (leads_in id rows) → IsRowOf v x
  new_row reached x i = by_dir (says v id Dir) refl (lead_is_row x id rows i)
    where
      by_dir : (c : Bool) → says v id Dir ≡ c → (x.dir ≡ id) × In (x.row.name, x.row.value) (proper (as_rows rows)) → IsRowOf v x
      by_dir true d p =
          let row : In (x.row.name, x.row.value) (proper_rows v id) = subst (λ (r : List Row). In (x.row.name, x.row.value) (proper r)) (are.names d).are p.1 in
          (subst (IsReached v) (sym p.0) reached, subst (λ (n : ℕ). says v n Dir ≡ true) (sym p.0) d, subst (λ (n : ℕ). In (x.row.name, x.row.value) (proper_rows v n)) (sym p.0) row)
      by_dir false d p = absurd (subst (λ (r : List NameRow). In x (leads_in id r)) (are.none d) i)

-- ---- what a row names

module _ (v : Volume) (l : NodeLead) (id : ℕ) (sound : IsSoundIn v roles.Child id) (named : IsNamedBy v id l.dir l.row.name) (rows : List NameRow) (are : AreRowsOf v id l.dir rows) where
  good : IsGoodNode v id
  good = sound.node refl

  abbrev node : Node
  node = record_in v id good.kind l.row.name l.dir named.items

  abbrev visit : Visit
  visit = (id, node)

  has_parts : HasAttributes v id → HasParts v id good.kind named.items
  has_parts a =
      let items : a.items ≡ named.items = some_items a.items named.items (sym a.area ∙ named.area) in
      record {
        kind_is = good.kind_is;
        area = named.area;
        distinct = subst AreDistinct items a.distinct;
        tree = λ d. (are.names (says_dir v id l.dir rows are good.kind good.kind_is d)).tree;
        directory = a.directory;
        apart = subst (λ (i : List Item). AreApart (attributes_in i ++ attributes_of v (attribute_directory v id))) items a.apart;
      }

  called : (id ≢ v.geometry.root) → IsCalled v id node named.items
  called other = record {
    root_name = λ e. absurd (other e);
    root_parent = λ e. absurd (other e);
    name = λ o. (named.own.item, named.own.there, named.own.own, named.own.bytes);
    parent = λ o. named.parent_is;
  }

  has_node : (id ≢ v.geometry.root) → HasAttributes v id → HasNode v id node
  has_node other a = record_is v id roles.Child good.kind l.row.name l.dir named.items refl sound (has_parts a) (called other)

  own_role : role_blocks v roles.Child id ≡ own_blocks v visit
  own_role = sym (own_is v id node good.kind_is)

  module _ (top : Visit) (es : List Visit) (todo : List NodeLead) (w : IsWalking v top es (l ∷ todo)) (value : l.row.value ≡ pos id) (new : times id (map (λ (e : Visit). e.0) (top ∷ es)) ≡ 0) where
    row : IsRowOf v l
    row = w.rows l (inl refl)

    there : In (l.row.name, pos id) (proper_rows v l.dir)
    there = subst (λ (z : ℤ). In (l.row.name, z) (proper_rows v l.dir)) value row.2

    arrives : Arrives v (to_child l.dir l.row.name) id
    arrives = (row.0, row.1, there)

    other : id ≢ v.geometry.root
    other e = one_is_met top.0 id (times id (map (λ (e : Visit). e.0) es)) (w.ways.root.0 ∙ sym e) new

    abbrev lead : Lead
    lead = record { dir = l.dir; name = l.row.name; id = id }

    older : (e : Visit) → In e (top ∷ es) → In e (top ∷ visit ∷ es)
    older e (inl same) = inl same
    older e (inr i) = inr (inr i)

    touring : HaveAttributes v (top ∷ visit ∷ es) → IsTouring v top (visit ∷ es) (as_leads (todo ++ leads_in id rows))
    touring h =
        let before : IsTouring v top es (as_lead l ∷ as_leads todo) = w.touring (λ e i. h e (older e i)) in
        let here : IsTouring v top es (lead ∷ as_leads todo) = subst (λ (n : ℕ). IsTouring v top es ((record { dir = l.dir; name = l.row.name; id = n }) ∷ as_leads todo)) (ap natural value) before in
        let step : IsStep v top es lead node = record {
          node = has_node other (h visit (inr (inl refl)));
          parent = refl;
          name = refl;
          good = named.good;
          new = new;
          listed = λ d. is_listed v id l.dir rows are good.kind good.kind_is node refl d;
        } in
        let on : IsTouring v top (visit ∷ es) (as_leads todo ++ leads_at v visit) = goes_on v top es lead (as_leads todo) node here step in
        let same : as_leads todo ++ leads_at v visit ≡ as_leads (todo ++ leads_in id rows) = ap (λ (x : List Lead). as_leads todo ++ x) (sym (leads_by v id l.dir rows are good.kind good.kind_is good.kind refl)) ∙ sym (leads_append todo (leads_in id rows)) in
        subst (λ (x : List Lead). IsTouring v top (visit ∷ es) x) same on

    rows_on : (x : NodeLead) → In x (todo ++ leads_in id rows) → IsRowOf v x
    rows_on x i = by_side (in_parts x todo (leads_in id rows) i)
      where
        by_side : In x todo ⊎ In x (leads_in id rows) → IsRowOf v x
        by_side (inl j) = w.rows x (inr j)
        by_side (inr j) = new_row v id l.dir rows are good.kind good.kind_is (row_reached l.dir l.row.name id row.0 row.1 there) x j

    visit_way : (e : Visit) → In e (visit ∷ es) → IsOnWay v (way_to e) e
    visit_way e (inl same) = subst (λ (x : Visit). IsOnWay v (way_to x) x) (sym same) (arrives, own_role)
    visit_way e (inr i) = w.ways.rows e i

    good_on : (e : Visit) → In e (top ∷ visit ∷ es) → IsGoodNode v e.0
    good_on e (inl same) = w.ways.good e (inl same)
    good_on e (inr (inl same)) = subst (λ (x : Visit). IsGoodNode v x.0) (sym same) good
    good_on e (inr (inr i)) = w.ways.good e (inr i)

    walks_on : IsWalking v top (visit ∷ es) (todo ++ leads_in id rows)
    walks_on = record { touring = touring; ways = record { root = w.ways.root; rows = visit_way; good = good_on }; rows = rows_on }

-- ---- one row more is followed

module _ (v : Volume) (first : List ℕ) (c d : Claimed) (leads : List NodeLead) (at : ℕ) (l : NodeLead) (inside : at < length leads) (item : l ≡ get_or leads at l) (w : IsWalkedTo v first c leads at) where
  abbrev todo : List NodeLead
  todo = drop (at + 1) leads

  ahead : IsWalking v w.top w.visits (l ∷ todo)
  ahead = subst (IsWalking v w.top w.visits) (drop_more leads at l inside ∙ ap (λ (x : NodeLead). x ∷ todo) (sym item)) w.walking

  pub its_row : IsRowOf v l
  its_row = ahead.rows l (inl refl)

  abbrev before : List ℕ
  before = blocks_of_visits v (w.top ∷ w.visits)

  -- another way than the one by this row leads to a place
  abbrev IsApartFrom : Place → Type 0
  IsApartFrom p = (other : Way) × (other ≢ to_child l.dir l.row.name) × (role_of other ≡ Some p.role) × Arrives v other p.id

  row_apart : (k : NodeLead) → In k (take at leads) → IsApartFrom (place_of k)
  row_apart k i =
      let e = visit_of_row w.visits (take at leads) w.followed k i in
      let differ : IsOtherRow k l = differs_at leads at l inside item w.others k i in
      let arrives : Arrives v (to_child k.dir k.row.name) (natural k.row.value) = subst (λ (x : Lead). Arrives v (to_child x.dir x.name) x.id) e.2 (ahead.ways.rows e.0 e.1).0 in
      (to_child k.dir k.row.name, row_is_other l.dir k.dir l.row.name k.row.name differ, refl, arrives)

  places_apart : (root : ℕ) → root ≡ v.geometry.root → ArePlacedApart v (to_child l.dir l.row.name) (places_of_nodes root (take at leads))
  places_apart root same p (inl e) = subst IsApartFrom (sym e) (to_root, root_is_other l.dir l.row.name, refl, same)
  places_apart root same p (inr i) = let k = place_met (take at leads) p i in subst IsApartFrom (sym k.2) (row_apart k.0 k.1)

  -- the blocks of these places are those of what was visited
  blocks_of_followed : (root k : ℕ) → root ≡ v.geometry.root → times k before ≡ times k (blocks_of_places v (places_of_nodes root (take at leads)))
  blocks_of_followed root k same =
      let others : List Place = map place_of (take at leads) in
      let top : own_blocks v w.top ≡ role_blocks v roles.Root root = sym ahead.ways.root.1 ∙ ap (role_blocks v roles.Root) (ahead.ways.root.0 ∙ sym same) in
      let rows : times k (blocks_of_visits v w.visits) ≡ times k (blocks_of_places v others) = visits_of_places v k w.visits (take at leads) w.followed (λ e i. (ahead.ways.rows e i).1) in
      let one : times k (own_blocks v w.top ++ blocks_of_visits v w.visits) ≡ times k (own_blocks v w.top) + times k (blocks_of_visits v w.visits) = times_append k (own_blocks v w.top) (blocks_of_visits v w.visits) in
      let two : times k (role_blocks v roles.Root root ++ blocks_of_places v others) ≡ times k (role_blocks v roles.Root root) + times k (blocks_of_places v others) = times_append k (role_blocks v roles.Root root) (blocks_of_places v others) in
      let first_one : times k (own_blocks v w.top) ≡ times k (role_blocks v roles.Root root) = ap (times k) top in
      let sum : times k (own_blocks v w.top ++ blocks_of_visits v w.visits) ≡ times k (role_blocks v roles.Root root ++ blocks_of_places v others) = omega (arith, rows, one, two, first_one) in
      sum

  abbrev ids : List ℕ
  ids = map (λ (e : Visit). e.0) w.visits

  dirs_on : (id : ℕ) (rows : List NameRow) (x : NodeLead) → In x (leads ++ leads_in id rows) → Has (w.top.0 ∷ (id ∷ ids)) x.dir
  dirs_on id rows x i = by_side (in_parts x leads (leads_in id rows) i)
    where
      by_side : In x leads ⊎ In x (leads_in id rows) → Has (w.top.0 ∷ (id ∷ ids)) x.dir
      by_side (inl j) = has_second x.dir w.top.0 id ids (w.dirs x j)
      by_side (inr j) = has_between x.dir w.top.0 id ids (sym (lead_is_row x id rows j).0)

  others_on : (id : ℕ) (rows : List NameRow) → AreOtherRows (leads_in id rows) → times id (map (λ (e : Visit). e.0) (w.top ∷ w.visits)) ≡ 0 → AreOtherRows (leads ++ leads_in id rows)
  others_on id rows differ new = both_differ leads (leads_in id rows) w.others differ (λ x i y j same name. absurd (none x i y j same))
    where
      none : (x : NodeLead) → In x leads → (y : NodeLead) → In y (leads_in id rows) → x.dir ≡ y.dir → ⊥
      none x i y j same =
          let at_id : x.dir ≡ id = same ∙ (lead_is_row y id rows j).0 in
          let there : 0 < times id (map (λ (e : Visit). e.0) (w.top ∷ w.visits)) = subst (λ (n : ℕ). 0 < times n (map (λ (e : Visit). e.0) (w.top ∷ w.visits))) at_id (w.dirs x i) in
          omega (arith, there, new)

  pub follows : (id : ℕ) → l.row.value ≡ pos id → IsSoundIn v roles.Child id → IsNamedBy v id l.dir l.row.name → (rows : List NameRow) → AreRowsOf v id l.dir rows
      → ((xs : List ℕ) → AreClaimed c xs → AreClaimed d (xs ++ role_blocks v roles.Child id)) → IsWalkedTo v first d (leads ++ leads_in id rows) (at + 1)
  follows id value sound named rows are claim =
      let e : Visit = visit v l id sound named rows are in
      let own : role_blocks v roles.Child id ≡ own_blocks v e = own_role v l id sound named rows are in
      let claimed : AreClaimed d ((first ++ before) ++ own_blocks v e) = subst (λ (x : List ℕ). AreClaimed d ((first ++ before) ++ x)) own (claim (first ++ before) w.claimed) in
      let new : times id (map (λ (e : Visit). e.0) (w.top ∷ w.visits)) ≡ 0 = new_here v d first (w.top ∷ w.visits) e claimed in
      let long : at + 1 ≤ length leads = omega (arith, inside) in
      let lead : natural l.row.value ≡ id = ap natural value in
      let taken : as_leads (take (at + 1) (leads ++ leads_in id rows)) ≡ as_leads (take at leads) ++ (record { dir = l.dir; name = l.row.name; id = id }) ∷ [] =
      ap as_leads (take_front (at + 1) leads (leads_in id rows) long ∙ take_more leads at l inside ∙ ap (λ (x : NodeLead). take at leads ++ x ∷ []) (sym item))
      ∙ leads_append (take at leads) (l ∷ [])
      ∙ ap (λ (n : ℕ). as_leads (take at leads) ++ (record { dir = l.dir; name = l.row.name; id = n }) ∷ []) lead in
      record {
        top = w.top;
        visits = e ∷ w.visits;
        walking = subst (IsWalking v w.top (e ∷ w.visits)) (sym (drop_front (at + 1) leads (leads_in id rows) long)) (walks_on v l id sound named rows are w.top w.visits todo ahead value new);
        others = others_on id rows (rows_other v id l.dir rows are (sound.node refl).kind (sound.node refl).kind_is) new;
        dirs = λ x i. dirs_on id rows x i;
        followed = ap (λ (x : List Lead). x ++ (record { dir = l.dir; name = l.row.name; id = id }) ∷ []) w.followed ∙ sym taken;
        claimed = claimed_between d first (own_blocks v w.top) (blocks_of_visits v w.visits) (own_blocks v e) claimed;
      }

  arrives_here : (id : ℕ) → l.row.value ≡ pos id → Arrives v (to_child l.dir l.row.name) id
  arrives_here id value = (its_row.0, its_row.1, subst (λ (z : ℤ). In (l.row.name, z) (proper_rows v l.dir)) value its_row.2)

  -- other ways lead to the places than to the node that has a block that is taken
  pub taken_apart : (root : ℕ) → root ≡ v.geometry.root → (fault : VisitFault) → IsTakenBy v (first ++ before) l fault → IsApart v (places_of_nodes root (take at leads)) fault
  taken_apart root same (Wrong finding) t = tt
  taken_apart root same (Taken block owner) t = (to_child l.dir l.row.name, arrives_here owner t.0, t.1, places_apart root same)
  taken_apart root same (Block fault) t = tt

  -- a block that is taken was claimed at first, or is one of a place
  pub taken_among : (root : ℕ) → root ≡ v.geometry.root → (fault : VisitFault) → IsTakenBy v (first ++ before) l fault
      → IsTakenFirst IsNodeWay v (first ++ blocks_of_places v (places_of_nodes root (take at leads))) fault
  taken_among root same (Wrong finding) t = tt
  taken_among root same (Taken block owner) t =
      let places : List ℕ = blocks_of_places v (places_of_nodes root (take at leads)) in
      let one : times block (first ++ before) ≡ times block first + times block before = times_append block first before in
      let two : times block (first ++ places) ≡ times block first + times block places = times_append block first places in
      let both : times block before ≡ times block places = blocks_of_followed root block same in
      let had : 0 < times block (first ++ before) = t.2 in
      let has : 0 < times block (first ++ places) = omega (arith, one, two, both, had) in
      record {
        way = to_child l.dir l.row.name;
        kind = row_way l.dir l.row.name;
        arrives = arrives_here owner t.0;
        here = t.1;
        claimed = has;
      }
  taken_among root same (Block fault) t = tt

-- ---- the root

module _ (v : Volume) (id : ℕ) (root : id ≡ v.geometry.root) (sound : IsSoundIn v roles.Root id) (rows : List NameRow) (are : AreRowsOf v id id rows) where
  top_good : IsGoodNode v id
  top_good = sound.node refl

  abbrev top_node : Node
  top_node = record_in v id Dir [] id top_good.items

  top_parts : HasAttributes v id → HasParts v id Dir top_good.items
  top_parts a =
      let items : a.items ≡ top_good.items = some_items a.items top_good.items (sym a.area ∙ top_good.area) in
      record {
        kind_is = sound.mode;
        area = top_good.area;
        distinct = subst AreDistinct items a.distinct;
        tree = λ d. (are.names (says_dir v id id rows are Dir sound.mode d)).tree;
        directory = a.directory;
        apart = subst (λ (i : List Item). AreApart (attributes_in i ++ attributes_of v (attribute_directory v id))) items a.apart;
      }

  top_called : IsCalled v id top_node top_good.items
  top_called = record { root_name = λ e. refl; root_parent = λ e. refl; name = λ o. absurd (o root); parent = λ o. absurd (o root) }

  top_has : HasAttributes v id → HasNode v id top_node
  top_has a = record_is v id roles.Root Dir [] id top_good.items refl sound (top_parts a) top_called

  abbrev top_visit : Visit
  top_visit = (id, top_node)

  top_own : role_blocks v roles.Root id ≡ own_blocks v top_visit
  top_own = sym (own_is v id top_node sound.mode)

  top_touring : HaveAttributes v (top_visit ∷ []) → IsTouring v top_visit [] (as_leads (leads_in id rows))
  top_touring h =
      let begun : IsTouring v top_visit [] (leads_at v top_visit) = begins v top_visit (record { id = root; node = top_has (h top_visit (inl refl)); kind = refl }) (is_listed v id id rows are Dir sound.mode top_node refl refl) in
      subst (λ (x : List Lead). IsTouring v top_visit [] x) (sym (leads_by v id id rows are Dir sound.mode Dir refl)) begun

  top_ways : AreOnWays v top_visit []
  top_ways = record { root = (root, top_own); rows = λ e i. absurd i; good = at_top }
    where
      at_top : (e : Visit) → In e (top_visit ∷ []) → IsGoodNode v e.0
      at_top e (inl same) = subst (λ (x : Visit). IsGoodNode v x.0) (sym same) top_good
      at_top e (inr i) = absurd i

  pub begun : (first : List ℕ) (c : Claimed) (leads : List NodeLead) → leads ≡ leads_in id rows → AreClaimed c (first ++ role_blocks v roles.Root id) → IsWalkedTo v first c leads 0
  begun first c leads same claimed =
      let reached : IsReached v id = subst (IsReached v) (sym root) root_reached in
      let own : role_blocks v roles.Root id ≡ own_blocks v top_visit ++ [] = top_own ∙ sym (append-nil (own_blocks v top_visit)) in
      subst (λ (x : List NodeLead). IsWalkedTo v first c x 0) (sym same)
      (record {
        top = top_visit;
        visits = [];
        walking = record { touring = top_touring; ways = top_ways; rows = λ x i. new_row v id id rows are Dir sound.mode reached x i };
        others = rows_other v id id rows are Dir sound.mode;
        dirs = λ x i. subst (λ (n : ℕ). Has (id ∷ []) n) (sym (lead_is_row x id rows i).0) (has_first id []);
        followed = refl;
        claimed = subst (λ (x : List ℕ). AreClaimed c (first ++ x)) own claimed;
      })

-- a block of the root that is taken
pub taken_first : (v : Volume) (first : List ℕ) (id : ℕ) → id ≡ v.geometry.root → (fault : VisitFault) → IsTaken first (role_blocks v roles.Root id) id fault → IsTakenFirst IsNodeWay v first fault
taken_first v first id root (Wrong finding) t = tt
taken_first v first id root (Taken block owner) t = record {
  way = to_root;
  kind = root_way;
  arrives = t.0 ∙ root;
  here = subst (λ (n : ℕ). Has (role_blocks v roles.Root n) block) (sym t.0) t.1;
  claimed = t.2;
}
taken_first v first id root (Block fault) t = tt

-- a block of what a row names that is taken
pub taken_named : (v : Volume) (xs : List ℕ) (l : NodeLead) (id : ℕ) → l.row.value ≡ pos id → (fault : VisitFault) → IsTaken xs (role_blocks v roles.Child id) id fault → IsTakenBy v xs l fault
taken_named v xs l id value (Wrong finding) t = tt
taken_named v xs l id value (Taken block owner) t = (value ∙ ap pos (sym t.0), subst (λ (n : ℕ). Has (role_blocks v roles.Child n) block) (sym t.0) t.1, t.2)
taken_named v xs l id value (Block fault) t = tt

-- no block is said to be taken
pub untaken_by : (v : Volume) (xs : List ℕ) (l : NodeLead) (fault : VisitFault) → IsUntaken fault → IsTakenBy v xs l fault
untaken_by v xs l (Wrong finding) u = tt
untaken_by v xs l (Taken block owner) u = absurd u
untaken_by v xs l (Block fault) u = tt

pub untaken_first : (v : Volume) (first : List ℕ) (fault : VisitFault) → IsUntaken fault → IsTakenFirst IsNodeWay v first fault
untaken_first v first (Wrong finding) u = tt
untaken_first v first (Taken block owner) u = absurd u
untaken_first v first (Block fault) u = tt

-- all rows were followed
pub walked : (v : Volume) (first : List ℕ) (c : Claimed) (leads : List NodeLead) (count : ℕ) → length leads ≤ count → IsWalkedTo v first c leads count → IsWalked v first c leads
walked v first c leads count all w = record {
  top = w.top;
  visits = w.visits;
  touring = λ h. subst (λ (x : List NodeLead). IsTouring v w.top w.visits (as_leads x)) (drop_all count leads all) (w.walking.touring h);
  ways = w.walking.ways;
  followed = w.followed ∙ ap as_leads (take_all count leads all);
  claimed = w.claimed;
}

-- a row that names no block of the volume
pub row_outside : (v : Volume) (l : NodeLead) (blocks : ℕ) (value : ℤ) → value ≡ l.row.value → v.geometry.blocks ≡ blocks → IsRowOf v l → ((k : ℕ) → l.row.value ≡ pos k → blocks ≤ k) → IsBroken v (finds.Row l.dir value)
row_outside v l blocks value same few row outside = record {
  there = of_node l.dir row.0 row.1;
  name = l.row.name;
  row = subst (λ (z : ℤ). In (l.row.name, z) (proper_rows v l.dir)) (sym same) row.2;
  outside = λ k e. subst (λ (n : ℕ). n ≤ k) (sym few) (outside k (sym same ∙ e));
}

-- the way by a row
pub arrives_by : (v : Volume) (l : NodeLead) (id : ℕ) → l.row.value ≡ pos id → IsRowOf v l → Arrives v (to_child l.dir l.row.name) id
arrives_by v l id value row = (row.0, row.1, subst (λ (z : ℤ). In (l.row.name, z) (proper_rows v l.dir)) value row.2)
