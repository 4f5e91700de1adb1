-- The index of stamps lists a file under another stamp, and so the whole call is done.
use Rattle.std.proofs.Common.{◌≡◌, ◌⊎◌, inl, inr, ℕ, ℤ, List, [], Option, Some, None, Bool, true, false, cond, codes, refl, sym, ap, ◌∙◌, subst}
use Rattle.std.specs.FinMap.{get}
use Rattle.std.specs.Option.{option_and_then}
use Rattle.std.specs.Str.{bytes_eq}
use Rattle.std.proofs.lemmas.Slice.Eq.{bytes_eq-Decides}
use Rattle.bfs_base.specs.declared.kind.KeyKind.{KeyKind}
use Rattle.bfs_base.specs.declared.kind.KeyKind.TheVariants.{Text, I64}
use Rattle.bfs_bytes.specs.Fields.{unsigned_bytes, signed64_bytes}
use Rattle.bfs_super.specs.declared.geometry.Geometry.{Geometry}
use Rattle.bfs_bitmap.specs.Runs.{Room}
use Rattle.bfs_pages.specs.Maps.{assoc}
use Rattle.bfs_tree.specs.Listings.{key_in, key_of_attribute, relisted}
use Rattle.bfs_tree.specs.Trees.{Node, Tree, IsNode, IsPlain, is_file}
use Rattle.bfs_maps.specs.NumberTrees.{IsNumberAt}
use Rattle.bfs_shift.specs.Lists.{Lists, Agrees, with_pairs}
use Rattle.bfs_shift.specs.TreeLaws.{Rekeys}
use Rattle.bfs_shift.specs.Work.{IsStepped}
use Rattle.bfs_shift.proofs.Statuses.{status_agrees}
use Rattle.bfs_moves.proofs.Stepping.{stepped_twice}
use Rattle.bfs_look.specs.Ready.{IsReady}
use Rattle.bfs_set_size.specs.Relisted.{IsRelisting}
use Rattle.bfs_set_size.proofs.Rekeyed.{left_of, pairs_of, relists, time_key, pairs_now}
use Rattle.bfs_hold.specs.Held.{with_stamps, IsHeldSo}
use Rattle.bfs_hold.proofs.Stamped.{stamped_node, stamped_tree}

-- the key by the test of the index's name
key_by : ℕ → List ℕ → KeyKind → ℕ → Node → Bool → Option (List ℕ)
key_by root index kind id n t =
    cond (bytes_eq index (codes "name")) (key_in root (codes "name") kind id n)
    (cond (bytes_eq index (codes "size")) (cond (is_file n.kind) (Some (unsigned_bytes 8 n.size)) None)
    (cond t (cond (is_file n.kind) (Some (signed64_bytes n.modified)) None) (option_and_then (key_of_attribute kind) (get n.attributes index))))

other_key : (root : ℕ) (index : List ℕ) (kind : KeyKind) (id : ℕ) (n : Node) (stamp : ℤ) → bytes_eq index (codes "last_modified") ≡ false
    → key_in root index kind id (stamped_node n stamp) ≡ key_in root index kind id n
unfolding key_by
other_key root index kind id n stamp t = ap (λ (b : Bool). key_by root index kind id (stamped_node n stamp) b) t ∙ sym (ap (λ (b : Bool). key_by root index kind id n b) t)

module _ (tree : Tree) (lists : Lists) (id : ℕ) (n : Node) (stamp : ℤ) (agrees : Agrees tree lists) (plain : IsPlain tree) (is : IsNode tree id n) (file : is_file n.kind ≡ true) where
  abbrev later : Node
  later = stamped_node n stamp

  abbrev name : List ℕ
  name = codes "last_modified"

  abbrev pub left : List (List ℕ × ℕ)
  left = left_of tree lists id n later agrees plain is name

  abbrev pub pairs : List (List ℕ × ℕ)
  pairs = pairs_of tree lists id n later agrees plain is name

  abbrev pub by_time : Lists
  by_time = with_pairs (with_pairs lists name left) name pairs

  pub time_relists : (inode : Option ℕ) → IsNumberAt Text lists.names name inode → (old new : List ℕ) → old ≡ signed64_bytes n.modified → new ≡ signed64_bytes stamp → IsRelisting lists name inode I64 old new id left pairs
  time_relists inode at old new was now = relists tree lists id n later agrees plain is name I64 inode old new (λ b. b.by_time) (λ kind. time_key tree.root kind id n file ∙ ap Some (sym was)) (λ kind. time_key tree.root kind id later file ∙ ap Some (sym now))
      lists refl refl refl at

  -- the pairs are moved by the new key, or the key is the same and so are they
  abbrev Is : List ℕ → List (List ℕ × ℕ) → Type 0
  Is index ps = (ps ≡ relisted (lists.kinds index) id (key_in tree.root index (lists.kinds index) id later) (lists.pairs index))
      ⊎ ((key_in tree.root index (lists.kinds index) id later ≡ key_in tree.root index (lists.kinds index) id n) × (ps ≡ lists.pairs index))

  rekeyed : Rekeys tree lists by_time id n later
  rekeyed = record { rows = λ d. refl; names = refl; kinds = λ index. refl; pairs = each }
    where
      here : (index : List ℕ) (value : ℤ) → assoc Text lists.names index ≡ Some value → bytes_eq index name ≡ true → Is index pairs
      here index value row test =
          let same : index ≡ name = (bytes_eq-Decides index name).0 test in
          inl (subst (λ (i : List ℕ). pairs ≡ relisted (lists.kinds i) id (key_in tree.root i (lists.kinds i) id later) (lists.pairs i)) (sym same)
          (pairs_now tree lists id n later agrees plain is name value (ap (assoc Text lists.names) (sym same) ∙ row) (signed64_bytes n.modified) (signed64_bytes stamp) (time_key tree.root (lists.kinds name) id n file) (time_key tree.root (lists.kinds name) id later file)))

      each : (index : List ℕ) (value : ℤ) → assoc Text lists.names index ≡ Some value → Is index (by_time.pairs index)
      each index value row = by_test (bytes_eq index name) refl
        where
          by_test : (t : Bool) → bytes_eq index name ≡ t → Is index (cond t pairs (cond t left (lists.pairs index)))
          by_test true e = here index value row e
          by_test false e = inr (other_key tree.root index (lists.kinds index) id n stamp e, refl)

  pub agrees_since : Agrees (with_stamps tree id stamp) by_time
  agrees_since = subst (λ (t : Tree). Agrees t by_time) (stamped_tree tree id n stamp is) (status_agrees tree lists by_time id n later is refl refl refl agrees rekeyed)

-- a file was stamped, and then listed anew
pub held_so : (g : Geometry) (v now : Room) (m : ℕ → Option (List ℕ)) (tree : Tree) (lists : Lists) (id : ℕ) (stamp : ℤ) (n : Node) (told1 told2 : Option (ℕ → Option (List ℕ))) (c0 c1 c2 : ℕ → Bool)
    (ready : IsReady g v m tree lists) (is : IsNode tree id n) (file : is_file n.kind ≡ true) (stamped : IsStepped g v v m tree (with_stamps tree id stamp) lists [] told1 c0 c1)
    → IsStepped g v now stamped.map (with_stamps tree id stamp) (with_stamps tree id stamp) (by_time tree lists id n stamp ready.agrees ready.plain is file) [] told2 c1 c2
    → IsHeldSo g v now m tree id stamp told2 c0 c2
held_so g v now m tree lists id stamp n told1 told2 c0 c1 c2 ready is file stamped listed =
    let since : Lists = by_time tree lists id n stamp ready.agrees ready.plain is file in
    record {
      after = with_stamps tree id stamp;
      after_is = refl;
      done = record {
        lists = since;
        step = stepped_twice g v v now m tree (with_stamps tree id stamp) (with_stamps tree id stamp) lists since [] [] told1 told2 c0 c1 c2 stamped listed;
        agrees = agrees_since tree lists id n stamp ready.agrees ready.plain is file;
        root = refl;
      };
    }
