-- A sound volume is stocked with lists that agree with its tree, and back.
use Rattle.std.proofs.Common.{◌≡◌, ◌≤◌, ◌↔◌, ℕ, ℤ, List, [], ◌++◌, refl, sym, ap, ◌∙◌, subst, Option, Some, None, length, append-nil, cond}
use Rattle.std.specs.Prelude.{◌==◌, unwrap_or}
use Rattle.std.specs.FinMap.{get, empty, get-empty, same_map, nat_cmp-IsAntisymmetric, slice_cmp-IsAntisymmetric}
use Rattle.std.proofs.lemmas.Cmp.{nat_list_cmp_total}
use Rattle.bfs_base.specs.Keys.{text_cmp}
use Rattle.bfs_base.specs.Lists.{times, Has}
use Rattle.bfs_base.specs.declared.kind.KeyKind.{KeyKind}
use Rattle.bfs_base.specs.declared.kind.KeyKind.TheVariants.{Text}
use Rattle.bfs_super.specs.Conditions.{natural}
use Rattle.bfs_node.specs.Page.{Row}
use Rattle.bfs_pages.specs.Maps.{assoc}
use Rattle.bfs_tree.specs.declared.call.Kind.TheVariants.{Dir}
use Rattle.bfs_tree.specs.Listings.{listed}
use Rattle.bfs_tree.specs.Trees.{Node, Tree, IsNode, IsPlain}
use Rattle.bfs_values.specs.Rows.{rows_in}
use Rattle.bfs_values.specs.Reached.{AreWritten}
use Rattle.bfs_sound.specs.Volumes.{Volume, IsMarked}
use Rattle.bfs_sound.specs.Inodes.{content, rows_of}
use Rattle.bfs_sound.specs.Listings.{IsRow, Lists as Listing, IsIndex, IsIndexRow, IsIndexOf}
use Rattle.bfs_sound.specs.Owners.{reach}
use Rattle.bfs_sound.specs.Whole.{HasIndices, IsSound}
use Rattle.bfs_shift.specs.Lists.{Lists, IsIndexIn, Agrees}
use Rattle.bfs_shift.specs.Stocked.{IsListing, Stocked}
use Rattle.bfs_shift.specs.Laws.{lists_of}

module _ (v : Volume) (tree : Tree) (lists : Lists) (stocked : Stocked v tree lists []) (agrees : Agrees tree lists) (plain : IsPlain tree) (root : tree.root ≡ v.geometry.root)
    (indexed : tree.indices ≡ empty → v.geometry.indices ≡ 0) (used : v.geometry.used ≡ length (reach v tree)) where
  listing : (id : ℕ) (n : Node) → IsNode tree id n → n.kind ≡ Dir → Listing v tree id n
  listing id n is dir name value = subst (λ (rows : List Row). (assoc Text rows name ≡ Some value) ↔ IsRow tree id n name value) (sym (stocked.rows id n is dir)) (agrees.rows id n is dir name value)

  row_of : (name : List ℕ) (value : ℤ) → IsIndexRow v name value → assoc Text lists.names name ≡ Some value
  row_of name value row = subst (λ (rows : List Row). assoc Text rows name ≡ Some value) stocked.names row

  index_of : (name : List ℕ) (value : ℤ) → IsIndexRow v name value → IsIndexOf v tree name value
  index_of name value row =
      let here = row_of name value row in
      let says = agrees.indices name value here in
      record { kind = lists.kinds name; there = says.kind; number = says.number; index = (stocked.indices name value here).index }

  listed_now : HasIndices v tree
  listed_now name value kind row there =
      let here = row_of name value row in
      let says = agrees.indices name value here in
      let kind_is : lists.kinds name ≡ kind = (let both : Some (lists.kinds name) ≡ Some kind = sym says.kind ∙ there in cc) in
      let written : AreWritten (content v (natural value)) (rows_in (lists.kinds name) (content v (natural value))) (listed tree name (lists.kinds name)) =
      subst (AreWritten (content v (natural value)) (rows_in (lists.kinds name) (content v (natural value)))) says.pairs (stocked.indices name value here).written in
      subst (λ (k : KeyKind). AreWritten (content v (natural value)) (rows_in k (content v (natural value))) (listed tree name k)) kind_is written

  no_index : v.geometry.indices ≡ 0 → tree.indices ≡ empty
  no_index zero = same_map nat_list_cmp_total (slice_cmp-IsAntisymmetric nat_cmp-IsAntisymmetric) tree.indices empty (λ name. at name (get tree.indices name) refl ∙ sym (get-empty text_cmp name))
    where
      no_rows : lists.names ≡ []
      no_rows = sym stocked.names ∙ ap (λ (n : ℕ). rows_of v (cond (n == 0) None (Some v.geometry.indices))) zero

      at : (name : List ℕ) (o : Option KeyKind) → get tree.indices name ≡ o → get tree.indices name ≡ None
      at name None e = e
      at name (Some kind) e =
          let there = agrees.no_more name kind e in
          let none : None ≡ Some there.0 = subst (λ (rows : List Row). assoc Text rows name ≡ Some there.0) no_rows there.1 in
          absurd (cc)

  all_is : reach v tree ++ [] ≡ reach v tree
  all_is = append-nil (reach v tree)

  pub stocked_sound : IsSound v tree
  stocked_sound = record {
    nodes = record {
      plain = plain.nodes;
      stands = record {
        root = root;
        nodes = stocked.nodes;
        listings = listing;
        directory = stocked.directory;
        none = (no_index, indexed);
        indices = index_of;
        no_more = λ name kind there. let r = agrees.no_more name kind there in (r.0, subst (λ (rows : List Row). assoc Text rows name ≡ Some r.0) (sym stocked.names) r.1);
      };
      once = subst (λ (l : List ℕ). (k : ℕ) → times k l ≤ 1) all_is stocked.once;
    };
    indices = record { plain = plain.indices; listed = listed_now };
    bits = λ k. subst (λ (l : List ℕ). IsMarked v k ↔ Has l k) all_is (stocked.marks k);
    used = used;
  }

module _ (v : Volume) (tree : Tree) (sound : IsSound v tree) where
  kind_in : (name : List ℕ) (kind : KeyKind) → get tree.indices name ≡ Some kind → (lists_of v tree).kinds name ≡ kind
  kind_in name kind e = ap (λ (o : Option KeyKind). unwrap_or o Text) e

  listing_of : (name : List ℕ) (value : ℤ) → IsIndexRow v name value → IsListing v (natural value) ((lists_of v tree).kinds name) ((lists_of v tree).pairs name)
  listing_of name value row =
      let i = sound.nodes.stands.indices name value row in
      let index : IsIndex v (natural value) i.kind = i.index in
      let written : AreWritten (content v (natural value)) (rows_in i.kind (content v (natural value))) (listed tree name i.kind) = sound.indices.listed name value i.kind row i.there in
      subst (λ (k : KeyKind). IsListing v (natural value) k (listed tree name k)) (sym (kind_in name i.kind i.there)) (record { index = index; written = written })

  index_in : (name : List ℕ) (value : ℤ) → IsIndexRow v name value → IsIndexIn tree (lists_of v tree) name value
  index_in name value row =
      let i = sound.nodes.stands.indices name value row in
      record { kind = i.there ∙ ap Some (sym (kind_in name i.kind i.there)); number = i.number; pairs = refl }

  all_back : reach v tree ≡ reach v tree ++ []
  all_back = sym (append-nil (reach v tree))

  pub sound_stocked : Stocked v tree (lists_of v tree) []
  sound_stocked = record {
    nodes = sound.nodes.stands.nodes;
    rows = λ id n is dir. refl;
    directory = sound.nodes.stands.directory;
    names = refl;
    indices = listing_of;
    once = subst (λ (l : List ℕ). (k : ℕ) → times k l ≤ 1) all_back sound.nodes.once;
    marks = λ k. subst (λ (l : List ℕ). IsMarked v k ↔ Has l k) all_back (sound.bits k);
  }

  pub sound_agrees : Agrees tree (lists_of v tree)
  sound_agrees = record { rows = λ id n is dir name value. sound.nodes.stands.listings id n is dir name value; indices = index_in; no_more = sound.nodes.stands.no_more }
