-- The stream of a long link can be read, and the record of a node is what its inode says.
use Rattle.std.proofs.Common.{◌≡◌, ◌≤◌, ◌<◌, ◌+◌, ◌*◌, ℕ, List, [], ◌++◌, length, take, refl, sym, ap, ◌∙◌, subst, arith, Bool, true, false, cond, Option, Some}
use Rattle.std.specs.Prelude.{◌&&◌}
use Rattle.std.specs.List.{flat_map}
use Rattle.std.proofs.lemmas.List.{length-take-le}
use Rattle.bfs_base.specs.Lists.{times}
use Rattle.bfs_super.specs.Conditions.{IsValid, natural}
use Rattle.bfs_super.specs.Geometry.{geometry_of}
use Rattle.bfs_super.specs.declared.geometry.Geometry.{Geometry}
use Rattle.bfs_super.specs.declared.sup.Super.{Super}
use Rattle.bfs_bitmap.specs.Runs.{Room}
use Rattle.bfs_inode.specs.Inode.{stream_at}
use Rattle.bfs_txn.specs.Told.{AreSized}
use Rattle.bfs_stream.specs.Places.{places_at}
use Rattle.bfs_stream.specs.Sizes.{Origin, sizes_of}
use Rattle.bfs_stream.specs.Told.{contents, AreTold, Stands}
use Rattle.bfs_stream.proofs.Doubles.{times-append}
use Rattle.bfs_stream_pages.specs.GoesLaws.{readable, reads_stream, reads_fits, reads_all}
use Rattle.bfs_stream_pages.specs.Held.{IsReadable}
use Rattle.bfs_tree.specs.Answers.{info_of}
use Rattle.bfs_tree.specs.declared.call.Kind.{Kind}
use Rattle.bfs_tree.specs.declared.call.Kind.TheVariants.{File, Dir, Link}
use Rattle.bfs_tree.specs.Trees.{Node, Tree, IsNode, is_link}
use Rattle.bfs_make.specs.Mapped.{HasHeld}
use Rattle.bfs_sound.specs.Volumes.{Volume}
use Rattle.bfs_sound.specs.Inodes.{is_short, inode_blocks}
use Rattle.bfs_sound.specs.Nodes.{HasContent, HasTarget}
use Rattle.bfs_sound.specs.Owners.{Owner, has_no_stream, owners, reach, In}
use Rattle.bfs_sound.proofs.Nodes.{own_metadata, other_blocks, node_metadata}
use Rattle.bfs_shift.specs.Lists.{Lists}
use Rattle.bfs_shift.specs.Shifts.{volume_in}
use Rattle.bfs_shift.proofs.Held.{owner_held}
use Rattle.bfs_shift.proofs.Owners.{owners_are}
use Rattle.bfs_shift.proofs.Owning.{owner_owns}
use Rattle.bfs_shift.proofs.Basics.{some_bytes}
use Rattle.bfs_shift.proofs.Files.{all_split, metadata_in}
use Rattle.bfs_shift.proofs.AtWork.{own_few}
use Rattle.bfs_look.specs.Infos.{is_short_in, short_target, content_size, info_in}
use Rattle.bfs_look.specs.Ready.{IsReady}
use Rattle.bfs_look.proofs.Known.{node_has}

-- a long link's stream is metadata
link_metadata : (v : Volume) (d : ℕ) (n : Node) → n.kind ≡ Link → is_short v d ≡ false → (k : ℕ) → times k (inode_blocks v d) ≤ times k (node_metadata v (d, n))
unfolding node_metadata
link_metadata v d n link long k =
    let own : times k (own_metadata v d n.kind (is_short v d)) ≡ times k (inode_blocks v d) =
    ap (λ (x : Kind). times k (own_metadata v d x (is_short v d))) link ∙ ap (λ (t : Bool). times k (own_metadata v d Link t)) long in
    let p : times k (own_metadata v d n.kind (is_short v d) ++ other_blocks v d) ≡ times k (own_metadata v d n.kind (is_short v d)) + times k (other_blocks v d) = times-append k (own_metadata v d n.kind (is_short v d)) (other_blocks v d) in
    omega (arith, own, p)

module _ (s : Super) (v : Room) (m : ℕ → Option (List ℕ)) (tree : Tree) (lists : Lists) (ready : IsReady (geometry_of s) v m tree lists) (id : ℕ) (n : Node) (is : IsNode tree id n) where
  abbrev g : Geometry
  g = geometry_of s

  abbrev was : Volume
  was = volume_in g m

  abbrev o : Origin
  o = record { id = id; sizes = sizes_of s }

  module _ (valid : IsValid s) (link : n.kind ≡ Link) (long : is_short was id ≡ false) where
    link_told : AreTold m (inode_blocks was id)
    link_told k h =
        let has : 0 < times k (inode_blocks was id) = h in
        let i = link_metadata was id n link long k in
        let f = own_few s v m tree lists [] id n ready.work is k in
        let most : times k (reach was tree ++ []) ≤ 1 = ready.work.stocked.once k in
        let p = all_split was tree lists [] ready.work.stocked k in
        let a = times-append k (reach was tree) [] in
        let in_it = metadata_in was tree lists [] ready.work.stocked id n is k in
        let reached : 0 < times k (reach was tree) = omega (arith, has, i, p, a, in_it) in
        ready.work.told k (reached, omega (arith, has, i, f, most)) (omega (arith, has, i, f, most))

    link_owner : In (id, false) (owners was tree)
    link_owner =
        let none : has_no_stream was (id, n) ≡ false = ap (λ (x : Kind). is_link x && is_short was id) link ∙ long in
        subst (λ (t : Bool). In {X = Owner} (id, t) (owners was tree)) none ((owners_are was tree).node id n is)

    target_is : HasTarget was id n.target false
    target_is =
        let c : HasContent was id n Link = subst (λ (k : Kind). HasContent was id n k) link (node_has s v m tree lists ready id n is).content_is in
        subst (λ (t : Bool). HasTarget was id n.target t) long c.0

    pub link_held : HasHeld o v m
    link_held = owner_held g v m id (owner_owns g v m tree lists [] id ready.work.volume (some_bytes s valid) ready.work.fits ready.work.stocked link_owner target_is.0 link_told) link_told

    pub link_readable : IsReadable o link_held.0 m
    link_readable = readable o v link_held.0 m link_held.1

    pub link_stands : Stands o m
    link_stands = link_readable.stands

    pub link_places_told : AreTold m (places_at (sizes_of s) (contents m) id)
    link_places_told = link_readable.told

    size_is : natural (stream_at (contents m id)).size ≡ link_held.0
    size_is = ap natural link_readable.size

    pub link_fits : natural (stream_at (contents m id)).size ≤ s.block_size * length (places_at (sizes_of s) (contents m) id)
    link_fits = subst (λ (k : ℕ). k ≤ s.block_size * length (places_at (sizes_of s) (contents m) id)) (sym size_is) (reads_fits o link_held.0 m link_readable)

    pub long_target : n.target ≡ take (natural (stream_at (contents m id)).size) (flat_map (contents m) (places_at (sizes_of s) (contents m) id))
    long_target = target_is.1 ∙ reads_stream o link_held.0 m link_readable ∙ ap (λ (k : ℕ). take k (flat_map (contents m) (places_at (sizes_of s) (contents m) id))) (sym size_is)

    pub long_size : AreSized s.block_size (Some m) → length n.target ≡ natural (stream_at (contents m id)).size
    long_size sized =
        let all : length (flat_map (contents m) (places_at (sizes_of s) (contents m) id)) ≡ s.block_size * length (places_at (sizes_of s) (contents m) id) = reads_all o link_held.0 m link_readable sized in
        let fits = link_fits in
        ap length long_target ∙ length-take-le (natural (stream_at (contents m id)).size) (flat_map (contents m) (places_at (sizes_of s) (contents m) id)) (omega (arith, all, fits))

  pub short_is : n.kind ≡ Link → is_short_in (contents m id) ≡ true → short_target (contents m id) ≡ n.target
  short_is link short =
      let c : HasContent was id n Link = subst (λ (k : Kind). HasContent was id n k) link (node_has s v m tree lists ready id n is).content_is in
      let t : HasTarget was id n.target true = subst (λ (t : Bool). HasTarget was id n.target t) short c.0 in
      t.0

  -- ---- the record

  link_size : IsValid s → AreSized s.block_size (Some m) → n.kind ≡ Link → (t : Bool) → is_short_in (contents m id) ≡ t → n.size ≡ cond t (length (short_target (contents m id))) (natural (stream_at (contents m id)).size)
  link_size valid sized link true short =
      let c : HasContent was id n Link = subst (λ (k : Kind). HasContent was id n k) link (node_has s v m tree lists ready id n is).content_is in
      c.1 ∙ ap length (sym (short_is link short))
  link_size valid sized link false long =
      let c : HasContent was id n Link = subst (λ (k : Kind). HasContent was id n k) link (node_has s v m tree lists ready id n is).content_is in
      c.1 ∙ long_size valid link long sized

  pub size_said : IsValid s → AreSized s.block_size (Some m) → content_size (contents m id) n.kind ≡ n.size
  size_said valid sized = by_kind n.kind refl
    where
      by_kind : (k : Kind) → n.kind ≡ k → content_size (contents m id) n.kind ≡ n.size
      by_kind File e =
          let c : HasContent was id n File = subst (λ (k : Kind). HasContent was id n k) e (node_has s v m tree lists ready id n is).content_is in
          ap (content_size (contents m id)) e ∙ sym c.1
      by_kind Dir e =
          let c : HasContent was id n Dir = subst (λ (k : Kind). HasContent was id n k) e (node_has s v m tree lists ready id n is).content_is in
          ap (content_size (contents m id)) e ∙ sym c.2
      by_kind Link e = ap (content_size (contents m id)) e ∙ sym (link_size valid sized e (is_short_in (contents m id)) refl)

  pub info_said : IsValid s → AreSized s.block_size (Some m) → (block : List ℕ) (kind : Kind) (name : List ℕ) (parent : ℕ) → block ≡ contents m id → kind ≡ n.kind → name ≡ n.name → parent ≡ n.parent → info_in block kind name parent ≡ info_of n
  info_said valid sized block kind name parent read k nm p =
      let h = node_has s v m tree lists ready id n is in
      let here : info_in (contents m id) n.kind n.name n.parent ≡ info_of n = λ i. record {
        kind = n.kind;
        name = n.name;
        parent = n.parent;
        mode = sym h.mode i;
        uid = sym h.uid i;
        gid = sym h.gid i;
        created = sym h.created i;
        modified = sym h.modified i;
        changed = sym h.changed i;
        size = size_said valid sized i;
      } in
      (λ i. info_in (read i) (k i) (nm i) (p i)) ∙ here

  -- the root has no name and is its own parent
  pub root_said : IsValid s → AreSized s.block_size (Some m) → (block : List ℕ) (name : List ℕ) → id ≡ tree.root → block ≡ contents m id → name ≡ [] → info_in block Dir name id ≡ info_of n
  root_said valid sized block name at read none =
      let here : IsNode tree tree.root n = subst (λ (k : ℕ). IsNode tree k n) at is in
      let own = ready.plain.nodes.own n here in
      let dir : (x : Node) × IsNode tree tree.root x × (x.kind ≡ Dir) = ready.plain.nodes.root in
      let same : Some dir.0 ≡ Some n = sym dir.1 ∙ here in
      let one : dir.0 ≡ n = (let o : Some dir.0 ≡ Some n = same in cc) in
      info_said valid sized block Dir name id read (sym (sym (ap (λ (x : Node). x.kind) one) ∙ dir.2)) (none ∙ sym own.0) (at ∙ sym own.1)
