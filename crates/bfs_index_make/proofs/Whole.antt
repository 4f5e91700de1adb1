-- An index is made, step by step.
use Rattle.std.proofs.Common.{◌≡◌, ◌≢◌, ◌∙◌, inl, inr, ℕ, ℤ, List, [], ◌∷◌, ◌++◌, Bool, true, false, cond, codes, Option, Some, None, refl, sym, ap, subst}
use Rattle.std.specs.Prelude.{◌==◌, Ok}
use Rattle.std.specs.List.{AllByRecursion}
use Rattle.std.specs.List.Sorted.{IsStrictlySortedBy}
use Rattle.std.specs.Option.{option_and_then}
use Rattle.std.specs.FinMap.{get}
use Rattle.bfs_base.specs.Keys.{IsKey}
use Rattle.bfs_base.specs.declared.kind.KeyKind.{KeyKind}
use Rattle.bfs_base.specs.declared.kind.KeyKind.TheVariants.{Text}
use Rattle.bfs_super.specs.Conditions.{IsValid}
use Rattle.bfs_super.specs.Geometry.{geometry_of}
use Rattle.bfs_super.specs.declared.geometry.Geometry.{Geometry}
use Rattle.bfs_super.specs.declared.sup.Super.{Super}
use Rattle.bfs_bitmap.specs.Runs.{Room}
use Rattle.bfs_pages.specs.Maps.{assoc}
use Rattle.bfs_tree.specs.Listings.{code_of, key_at, key_in, key_of_attribute, key_of_bytes, listed, pair_cmp}
use Rattle.bfs_tree.specs.Trees.{Attribute, Node, Tree}
use Rattle.bfs_tree.proofs.ListMoves.{listed-ascends, listed-has}
use Rattle.bfs_index.proofs.PairLists.{in_contains}
use Rattle.bfs_sound.specs.Inodes.{inode_blocks}
use Rattle.bfs_shift.specs.Lists.{Lists, with_names, with_index, with_pairs}
use Rattle.bfs_shift.specs.Shifts.{volume_in}
use Rattle.bfs_shift.specs.Work.{IsStepped}
use Rattle.bfs_shift.proofs.Files.{node_unfiled}
use Rattle.bfs_shift.proofs.Parts.{lists_at}
use Rattle.bfs_shift.proofs.Statuses.{index_make_agrees}
use Rattle.bfs_moves.proofs.Found.{none_found}
use Rattle.bfs_moves.proofs.Stepping.{stepped_twice}
use Rattle.bfs_look.specs.Ready.{IsReady}
use Rattle.bfs_calls.specs.Done.{IsDone}
use Rattle.bfs_attr_put.proofs.Good.{bytes_fit}
use Rattle.bfs_tree.proofs.Members.{In}
use Rattle.bfs_index_make.specs.Filled.{MayStand, IsToFill}
use Rattle.bfs_index_make.specs.Made.{IsNewIndex, HasLooseIndex, IsToJoin, HasIndexJoined, with_new_index}
use Rattle.bfs_index_make.proofs.Gathers.{key_of_node}
use Rattle.bfs_index_make.proofs.InOrder.{not_built_in}

abbrev Pair : Type 0
Pair = List ℕ × ℕ

all_of : (P : Pair → Type 0) (ps : List Pair) → ((p : Pair) → In p ps → P p) → AllByRecursion P ps
all_of P [] each = tt
all_of P (p ∷ ps) each = (each p (inl refl), all_of P ps (λ q i. each q (inr i)))

-- a key that an attribute gives is one of the kind
attribute_fits : (kind : KeyKind) (o : Option Attribute) (key : List ℕ) → option_and_then (key_of_attribute kind) o ≡ Some key → IsKey kind key
attribute_fits kind None key e = absurd (let bad : None ≡ Some key = e in cc)
attribute_fits kind (Some a) key e = by_code (a.code == code_of kind) e
  where
    by_code : (t : Bool) → cond t (key_of_bytes kind a.bytes) None ≡ Some key → IsKey kind key
    by_code true is = bytes_fit {F = Unit {0}} kind a.bytes (Ok (Some key)) (sym is)
    by_code false is = absurd (let bad : None ≡ Some key = is in cc)

module _ (s : Super) (v : Room) (m : ℕ → Option (List ℕ)) (tree : Tree) (lists : Lists) (name : List ℕ) (kind : KeyKind) (valid : IsValid s) (ready : IsReady (geometry_of s) v m tree lists) (new : IsNewIndex tree name) where
  abbrev g : Geometry
  g = geometry_of s

  -- no row has the name
  absent_row : assoc Text lists.names name ≡ None
  absent_row = by_row (assoc Text lists.names name) refl
    where
      by_row : (o : Option ℤ) → assoc Text lists.names name ≡ o → assoc Text lists.names name ≡ None
      by_row None e = e
      by_row (Some value) e = absurd (let bad : Some (lists.kinds name) ≡ None = sym (ready.agrees.indices name value e).kind ∙ new.absent in cc)

  -- and there is an index directory
  has_directory : g.indices ≢ 0
  has_directory none =
      let row = ready.agrees.no_more (codes "name") Text new.built_in.by_name in
      let bad : Some row.0 ≡ None = sym row.1 ∙ none_found s v m tree lists [] valid ready.work (codes "name") none in
      cc

  -- each pair of the list may stand
  may_stand : (p : Pair) → In p (listed tree name kind) → MayStand kind g.blocks p
  may_stand p i = by_node (get tree.nodes p.1) refl ((listed-has tree name kind p.0 p.1).0 (in_contains (listed tree name kind) p i))
    where
      by_node : (o : Option Node) → get tree.nodes p.1 ≡ o → key_at tree name kind p.1 ≡ Some p.0 → MayStand kind g.blocks p
      by_node None is e = absurd (let bad : None ≡ Some p.0 = sym (ap (λ (o : Option Node). option_and_then (key_in tree.root name kind p.1) o) is) ∙ e in cc)
      by_node (Some n) is e = (
        attribute_fits kind (get n.attributes name) p.0 (sym (key_of_node tree name kind p.1 n is (not_built_in tree name new)) ∙ e),
        (node_unfiled (volume_in g m) tree lists [] ready.work.stocked p.1 n is).0.0,
      )

  module _ (v1 : Room) (id : ℕ) (t1 : Option (ℕ → Option (List ℕ))) (c0 c1 : ℕ → Bool) (one : HasLooseIndex g v v1 m tree lists kind id t1 c0 c1) where
    pub to_join : IsToJoin g v1 one.map tree lists kind name id c1
    to_join = record { work = one.work; listing = one.listing; are_told = one.are_told; are_changed = one.are_changed; absent = absent_row; there = has_directory }

    first : IsStepped g v v1 m tree tree lists (inode_blocks (volume_in g one.map) id ++ []) t1 c0 c1
    first = record { map = one.map; is = one.is; work = one.work; goes_on = one.goes_on }

    module _ (v2 : Room) (t2 : Option (ℕ → Option (List ℕ))) (c2 : ℕ → Bool) (two : HasIndexJoined g v1 v2 one.map tree lists kind name id t2 c1 c2) (pairs : List Pair) (wanted : pairs ≡ listed tree name kind) where
      abbrev after : Tree
      after = with_new_index tree name kind

      abbrev begun : Lists
      begun = with_index (with_names lists two.names) name kind []

      pub to_fill : IsToFill g v2 two.step.map after begun name id kind pairs
      to_fill = record {
        work = two.step.work;
        row = two.differs.changed;
        kind_is = ((lists_at (with_names lists two.names)).index_here name kind []).0;
        none = ((lists_at (with_names lists two.names)).index_here name kind []).1;
        sorted = subst (IsStrictlySortedBy (pair_cmp kind)) (sym wanted) (listed-ascends tree name kind);
        may = subst (AllByRecursion (MayStand kind g.blocks)) (sym wanted) (all_of (MayStand kind g.blocks) (listed tree name kind) may_stand);
      }

      module _ (v3 : Room) (t3 : Option (ℕ → Option (List ℕ))) (c3 : ℕ → Bool) (three : IsStepped g v2 v3 two.step.map after after (with_pairs begun name pairs) [] t3 c2 c3) where
        abbrev last : Lists
        last = with_pairs begun name pairs

        later : IsStepped g v1 v3 one.map tree after last [] t3 c1 c3
        later = stepped_twice g v1 v2 v3 one.map tree after after begun last [] [] t2 t3 c1 c2 c3 two.step three

        pub index_done : IsDone g v v3 m tree after t3 c0 c3
        unfolding first
        index_done = record {
          lists = last;
          step = stepped_twice g v v1 v3 m tree tree after lists last (inode_blocks (volume_in g one.map) id ++ []) [] t1 t3 c0 c1 c3 first later;
          agrees = index_make_agrees tree lists last name id kind ready.agrees (record {
            rows = λ d. refl;
            names = two.differs;
            kind_is = ((lists_at (with_names lists two.names)).index_here name kind []).0;
            pairs = (lists_at begun).pairs_here name pairs ∙ wanted;
            others = λ index apart. (
              ((lists_at (with_names lists two.names)).index_elsewhere name index kind [] apart).0,
              (lists_at begun).pairs_elsewhere name index pairs apart ∙ ((lists_at (with_names lists two.names)).index_elsewhere name index kind [] apart).1,
            );
          });
          root = refl;
        }
