-- Pieces that are held, where a block of one of them is written or read: this one goes on, and the others stay as they are.
use Rattle.std.proofs.Common.{nat_lt, nat_eq, not, ◌&&◌, ◌≡◌, ◌≢◌, ◌⊎◌, ⊎_elim, inl, inr, ◌<◌, ◌≤◌, ◌+◌, ◌-◌, ◌*◌, ◌/◌, ◌%◌, ◌==◌, ◌∙◌, ◌++◌, ℕ, zero, suc, List, [], ◌∷◌, length, take, drop, min, Bool, true, false, cond, Option, Some, None, Result, Ok, Err, IfOk, IfErr, IsOk, OnOk, refl, sym, ap, subst, mod-lt, arith}
use Rattle.std.specs.Prelude.{slice_get, slice_index, unwrap_or}
use Rattle.std.specs.List.{All}
use Rattle.std.proofs.Math.Nat.{div-add-mod, div-lt_iff_lt-mul, mul_comm}
use Rattle.std.proofs.lemmas.Bool.{cases_lt}
use Rattle.std.proofs.lemmas.List.{length-take-le, take_at}
use Rattle.bfs_disk.specs.State.{State, Tells}
use Rattle.bfs_disk.specs.Disk.{MayLeave}
use Rattle.bfs_disk.specs.Blocks.{AreRead, contents_of}
use Rattle.bfs_super.specs.Conditions.{ceil}
use Rattle.bfs_txn.specs.Changed.{newest, or_else}
use Rattle.bfs_tree.specs.Histories.{Mounted, after, state_after}
use Rattle.bfs_tree.specs.Trees.{Node, IsNode, is_file}
use Rattle.bfs_tree.specs.declared.state.Hold.{Hold}
use Rattle.bfs_sound.specs.Inodes.{stream_blocks}
use Rattle.bfs_device.specs.declared.journal.DeviceFault.{DeviceFault}
use Rattle.bfs_device.specs.Ahead.{IsSteady}
use Rattle.bfs_device.specs.Books.{Books, IsRight, RecoversOne, sealed_of, version}
use Rattle.bfs_device.specs.Data.{IsRested, newest_in}
use Rattle.bfs_device.specs.Layouts.{IsData, layout_of}
use Rattle.bfs_device.proofs.Forward.{know_of}
use Rattle.bfs_device.proofs.Reading.{newest_read}
use Rattle.bfs_core.specs.Cores.{newest_map}
use Rattle.bfs_core.specs.Moments.{Adoption}
use Rattle.bfs_device_blocks.specs.Lent.{HasCore, IsBehindEntry}
use Rattle.bfs_stream.specs.Grown.{IsOfVolume}
use Rattle.bfs_stream.specs.Sizes.{sizes_of}
use Rattle.bfs_core.specs.Spaces.{SpaceView, IsFaceData, IsFaceMetadata, face, face_over}
use Rattle.bfs_core.proofs.Files.{stream_stays}
use Rattle.bfs_core.proofs.Knowing.{file_data_of}
use Rattle.bfs_core.proofs.Masks.{of_data}
use Rattle.bfs_commit.specs.Books.{SpaceBooks}
use Rattle.bfs_commit.specs.Holds.{holds_after}
use Rattle.bfs_commit.specs.Places.{piece_blocks}
use Rattle.bfs_commit.proofs.Held.{held_is_after}
use Rattle.bfs_pieces.specs.Parts.{IsPartOf, KeepsOthers}
use Rattle.bfs_pieces.specs.Pieces.{IsHeldPiece, IsPieceOf, IsUnknown}
use Rattle.bfs_pieces.proofs.Once.{same_file, same_place}
use Rattle.bfs_pieces.proofs.Parting.{part_length, parts_joined}
use Rattle.bfs_pieces.proofs.Spreading.{piece_more}
use Rattle.bfs_commit.specs.Held.{HasPlaces}
use Rattle.bfs_commit.specs.Holding.{IsInWriting, IsOnFile, IsOneOf}
use Rattle.bfs_commit.specs.Open.{IsEven, IsLoaded, IsOpen, OpenView, next_count, next_place, open_of, open_with, reads_next, told_block}
use Rattle.bfs_commit.proofs.Opens.{loaded_as}
use Rattle.bfs_commit.specs.Volumes.{AreJoined}
use Rattle.bfs_commit.proofs.Asked.{same_told}
use Rattle.bfs_commit.proofs.Holding.{holds_are_on_files, writers_are_alone}
use Rattle.bfs_file_io.proofs.Pieced.{block_low, in_block, place_in}
use Rattle.bfs_file_io.proofs.Written.{core_written, joined_written, map_same, none_more, there}

-- ---- what comes next of a piece

-- the block, where its bytes begin in it, and how many they are
pub record IsNext (size at len done index from n : ℕ) : Type 0 where
  pub index_is : index ≡ (at % size + done) / size
  pub from_is : from ≡ (at % size + done) % size
  pub count_is : n ≡ min (len - done) (size - from)
  pub more : done < len
  pub some : 0 < size

-- as a function reckons it
pub next_of : (size at len done begun long n : ℕ) → begun ≡ at % long → long ≡ size → 0 < size → done < len → n ≡ min (len - done) (long - (begun + done) % long) → IsNext size at len done ((begun + done) / long) ((begun + done) % long) n
next_of size at len done begun long n begun_is long_is some more count_is =
    let e : begun ≡ at % size = begun_is ∙ ap (λ (k : ℕ). at % k) long_is in
    record {
      index_is = λ i. (e i + done) / long_is i;
      from_is = λ i. (e i + done) % long_is i;
      count_is = count_is ∙ ap (λ (k : ℕ). min (len - done) (k - (begun + done) % long)) long_is;
      more = more;
      some = some;
    }

-- of a size and a place that are the same
pub next_at : (size size' at at' len done index from n : ℕ) → size ≡ size' → at' ≡ at → IsNext size at len done index from n → IsNext size' at' len done index from n
next_at size size' at at' len done index from n same there s = subst (λ (a : ℕ). IsNext size' a len done index from n) (sym there) (subst (λ (k : ℕ). IsNext k at len done index from n) same s)

module _ (size at len done index from n : ℕ) (s : IsNext size at len done index from n) where
  pub start_is : at % size + done ≡ size * index + from
  start_is =
      let e : size * ((at % size + done) / size) + (at % size + done) % size ≡ at % size + done = div-add-mod (at % size + done) size in
      sym e ∙ (λ i. size * sym s.index_is i + sym s.from_is i)

  pub from_low : from < size
  from_low = subst (λ (k : ℕ). k < size) (sym s.from_is) (mod-lt (at % size + done) s.some)

  pub some_bytes : 0 < n
  some_bytes = (let lt = from_low in let more = s.more in let is = s.count_is in grind (arith, lt, more, is))

  pub in_it : from + n ≤ size
  in_it = (let lt = from_low in let is = s.count_is in let le : n ≤ size - from = grind (arith, is) in omega (arith, lt, le))

  pub in_piece : done + n ≤ len
  in_piece = (let more = s.more in let is = s.count_is in let le : n ≤ len - done = grind (arith, is) in omega (arith, more, le))

  pub block_is : (at + done) / size ≡ at / size + index
  block_is = (in_block size at done s.some).0 ∙ ap (λ (k : ℕ). at / size + k) (sym s.index_is)

  pub begin_is : (at + done) % size ≡ from
  begin_is = (in_block size at done s.some).1 ∙ sym s.from_is

  pub begun_even : (done ≡ 0) ⊎ ((at + done) % size ≡ 0) → (done ≡ 0) ⊎ (from ≡ 0)
  begun_even even = ⊎_elim (λ none. inl none) (λ e. inr (sym begin_is ∙ e)) even

  -- one block has them
  pub one_block : 1 ≡ piece_blocks size (at + done) n
  one_block =
      let some = some_bytes in
      let z : (n == 0) ≡ false = grind (arith, some) in
      let b = begin_is in
      let lt = from_low in
      let le = in_it in
      let e : from + n + (size - 1) ≡ size * 1 + (from + n - 1) = omega (arith, some) in
      let one : (from + n + (size - 1)) / size ≡ 1 = (place_in size 1 (from + n - 1) (from + n + (size - 1)) (omega (arith, le, some)) e).0 in
      sym (ap (λ (t : Bool). cond t 0 (ceil ((at + done) % size + n) size)) z ∙ ap (λ (k : ℕ). ceil (k + n) size) b ∙ one)

  pub index_low : (places : List ℕ) → length places ≡ piece_blocks size at len → index < length places
  index_low places many = subst (λ (k : ℕ). k < length places) (sym s.index_is) (block_low size at len done (length places) s.some s.more many)

  -- the blocks before it have the bytes that were made
  pub before : (done ≡ 0) ⊎ (from ≡ 0) → (k : ℕ) → k < done → (at % size + k) / size < index
  before even k lt =
      let begun : from ≡ 0 = ⊎_elim (λ none. absurd (omega (arith, none, lt))) (λ e. e) even in
      let e = start_is in
      let m : index * size ≡ size * index = mul_comm index size in
      (div-lt_iff_lt-mul {k = size} {x = at % size + k} {y = index} s.some).1 (let h : at % size + k < index * size = omega (arith, e, begun, lt, m) in h)

taken_low : (n : ℕ) (xs : List ℕ) → length (take n xs) ≤ length xs
taken_low zero xs = omega arith
taken_low (suc n) [] = omega arith
taken_low (suc n) (x ∷ xs) = let le = taken_low n xs in omega (arith, le)

taken_most : (n : ℕ) (xs : List ℕ) → length (take n xs) ≤ n
taken_most zero xs = omega arith
taken_most (suc n) [] = omega arith
taken_most (suc n) (x ∷ xs) = let le = taken_most n xs in omega (arith, le)

-- ---- what a device tells of a block that no group has

pub told_contents : (b : Books) (st : State) (k : ℕ) → IsSteady b → IsData (layout_of b.sup) k → newest_in b.groups k ≡ None → told_block b st k ≡ contents_of st (layout_of b.sup).sectors k
told_contents b st k steady placed none =
    ap (λ (t : Bool). unwrap_or (cond t (Some (version b st (sealed_of b) k)) None) []) (of_data (layout_of b.sup) k placed)
    ∙ sym (newest_read b st k (know_of b steady) none)

-- ---- the files of pieces that are held

module _ (sp : SpaceBooks) (b : Books) (told : Option State) (joined : AreJoined sp b told) where
  is_held : (q : OpenView) → IsOpen q sp.view b told → (st : State) → (is : told ≡ Some st) → IsOneOf q.hold (holds_after (joined.stands st is).t0 sp.view.history)
  is_held q opened st is = subst (IsOneOf q.hold) (sym (held_is_after (joined.stands st is).t0 sp.view.history)) opened.held

  on_file : (q : OpenView) → IsOpen q sp.view b told → (st : State) → (is : told ≡ Some st) → IsOnFile (state_after (joined.stands st is).t0 sp.view.history) q.hold
  on_file q opened st is = let s = joined.stands st is in holds_are_on_files s.t0 sp.view.history q.hold s.core.space.legal (is_held q opened st is)

  -- each block of a piece is file data
  pub place_data : (q : OpenView) → IsOpen q sp.view b told → (st : State) → (is : told ≡ Some st) → (i : ℕ) → i < length q.places → IsFaceData (joined.stands st is).t0 sp.view (newest_map b st) (slice_index q.places i)
  place_data q opened st is i lt =
      let s = joined.stands st is in
      let f = on_file q opened st is in
      file_data_of s.t0 sp.view b s.touched st q.hold.id f.node (q.hold.at / sp.view.sup.block_size + i) (slice_index q.places i) s.core f.there f.file (opened.has.are st is i lt)

-- ---- a block of a piece was written

module _ (sp : SpaceBooks) (b new : Books) (told told' : Option State) (joined : AreJoined sp b told) (p : OpenView) (opened : IsOpen p sp.view b told) (some : 0 < sp.view.sup.block_size) (index : ℕ) (low : index < length p.places)
    (rest : new ≡ record b { moment = new.moment; stop = new.stop }) (steady : IsSteady b) (others : KeepsOthers (layout_of b.sup).sectors (slice_index p.places index ∷ []) told told') where
  map_else : (next : State) → (is : told' ≡ Some next) → (k : ℕ) → k ≢ slice_index p.places index → newest_map new next k ≡ newest_map b (others next is).0 k
  map_else next is k other =
      let o = others next is in
      let later : IsSteady (record b { moment = new.moment; stop = new.stop }) = record { valid = steady.valid; empty = steady.empty; follow = steady.follow; phase = steady.phase } in
      subst (λ (x : Books). newest_map x next k ≡ newest_map b o.0 k) (sym rest)
      (map_same b new.moment new.stop o.0 next steady later k (o.2 k (none_more (slice_index p.places index) k 0 refl (λ e. other (sym e)))))

  stream_else : (next : State) → (is : told' ≡ Some next) → (id : ℕ) (n : Node) → (let o = others next is in IsNode (after (joined.stands o.0 o.1).t0 sp.view.history) id n) → is_file n.kind ≡ true
      → stream_blocks (face sp.view (newest_map new next)) id ≡ stream_blocks (face sp.view (newest_map b (others next is).0)) id
  stream_else next is id n there regular =
      let o = others next is in
      let s = joined.stands o.0 o.1 in
      let file = place_data sp b told joined p opened o.0 o.1 index low in
      stream_stays (face sp.view (newest_map b o.0)) (face_over sp.view.group (newest_map new next)) (after s.t0 sp.view.history) s.core.space.sound
      (λ k meta fixed. ap (λ (m : Option (List ℕ)). unwrap_or (or_else (newest sp.view.group k) m) []) (map_else next is k (λ e. file.1 (subst (IsFaceMetadata s.t0 sp.view (newest_map b o.0)) e meta)))) id n there regular

  -- a piece whose made bytes are in other blocks stays
  open_else : (q : OpenView) → IsOpen q sp.view b told → ((st : State) → told ≡ Some st → (k : ℕ) → k < length (take q.done q.bytes) → slice_index q.places ((q.hold.at % sp.view.sup.block_size + k) / sp.view.sup.block_size) ≢ slice_index p.places index)
      → (q.loaded ≡ []) ⊎ IsLoaded sp.view.sup.block_size q new told' → IsOpen q sp.view new told'
  open_else q held apart kept = record {
    held = held.held;
    has = record {
      many = held.has.many;
      are = λ next is i lt.
          let o = others next is in
          let f = on_file sp b told joined q held o.0 o.1 in
          ap (λ (xs : List ℕ). slice_get xs (q.hold.at / sp.view.sup.block_size + i)) (stream_else next is q.hold.id f.node f.there f.file) ∙ held.has.are o.0 o.1 i lt;
    };
    blocks = subst (λ (x : Books). All (IsData (layout_of x.sup)) q.places) (sym rest) held.blocks;
    long = held.long;
    even = held.even;
    made = λ next is k lt.
        let o = others next is in
        ap (λ (m : Option (List ℕ)). slice_get (unwrap_or m []) ((q.hold.at % sp.view.sup.block_size + k) % sp.view.sup.block_size)) (map_else next is (slice_index q.places ((q.hold.at % sp.view.sup.block_size + k) / sp.view.sup.block_size)) (apart o.0 o.1 k lt))
        ∙ held.made o.0 o.1 k lt;
    kept = kept;
  }

  -- of one of another session no byte is in that block
  apart_other : p.hold.write ≡ true → (q : OpenView) → q.hold.session ≢ p.hold.session → IsOpen q sp.view b told → (st : State) → told ≡ Some st → (k : ℕ) → k < length q.bytes
      → slice_index q.places ((q.hold.at % sp.view.sup.block_size + k) / sp.view.sup.block_size) ≢ slice_index p.places index
  apart_other writes q other held st is k lt same =
      let s = joined.stands st is in
      let f = on_file sp b told joined p opened st is in
      let g = on_file sp b told joined q held st is in
      let here = opened.has.are st is index low in
      let long = held.long in
      let there = held.has.are st is ((q.hold.at % sp.view.sup.block_size + k) / sp.view.sup.block_size) (block_low sp.view.sup.block_size q.hold.at q.hold.length k (length q.places) some (omega (arith, lt, long)) held.has.many) in
      let one : q.hold.id ≡ p.hold.id = same_file (face sp.view (newest_map b st)) (after s.t0 sp.view.history) s.core.space.sound.nodes.once q.hold.id p.hold.id g.node f.node (q.hold.at / sp.view.sup.block_size + (q.hold.at % sp.view.sup.block_size + k) / sp.view.sup.block_size) (p.hold.at / sp.view.sup.block_size + index)
      (slice_index p.places index) g.there g.file f.there f.file (there ∙ ap (λ (i : ℕ). Some i) same) here in
      writers_are_alone s.t0 sp.view.history p.hold q.hold s.core.space.legal (is_held sp b told joined p opened st is) (is_held sp b told joined q held st is) other writes one

  -- so it stays
  pub open_other : p.hold.write ≡ true → (q : OpenView) → q.hold.session ≢ p.hold.session → IsOpen q sp.view b told → IsOpen q sp.view new told'
  open_other writes q other held = open_else q held
      (λ st is k lt. apart_other writes q other held st is k (let le = taken_low q.done q.bytes in omega (arith, lt, le)))
      (⊎_elim
      (λ none. inl none)
      (λ loaded. inr (record {
        more = loaded.more;
        same = λ next is.
            let o = others next is in
            loaded.same o.0 o.1
            ∙ sym (ap (λ (m : Option (List ℕ)). unwrap_or m []) (map_else next is (slice_index q.places ((q.hold.at % sp.view.sup.block_size + q.done) / sp.view.sup.block_size)) (apart_other writes q other held o.0 o.1 q.done loaded.more)));
      }))
      held.kept)

  -- and the piece itself, whose made bytes are in the blocks before
  pub open_own : p.loaded ≡ [] → ((k : ℕ) → k < p.done → (p.hold.at % sp.view.sup.block_size + k) / sp.view.sup.block_size < index) → IsOpen p sp.view new told'
  open_own none before = open_else p opened (λ st is k lt same.
      let s = joined.stands st is in
      let f = on_file sp b told joined p opened st is in
      let most = taken_most p.done p.bytes in
      let less = before k (omega (arith, lt, most)) in
      let here = opened.has.are st is index low in
      let there = opened.has.are st is ((p.hold.at % sp.view.sup.block_size + k) / sp.view.sup.block_size) (omega (arith, less, low)) in
      let one : p.hold.at / sp.view.sup.block_size + (p.hold.at % sp.view.sup.block_size + k) / sp.view.sup.block_size ≡ p.hold.at / sp.view.sup.block_size + index =
      same_place (face sp.view (newest_map b st)) (after s.t0 sp.view.history) s.core.space.sound.nodes.once p.hold.id f.node (p.hold.at / sp.view.sup.block_size + (p.hold.at % sp.view.sup.block_size + k) / sp.view.sup.block_size) (p.hold.at / sp.view.sup.block_size + index) (slice_index p.places index) f.there f.file (there ∙ ap (λ (i : ℕ). Some i) same) here in
      omega (arith, one, less)) (inl none)

-- ---- a read leaves each piece

pub open_rested : (sp : SpaceBooks) (b new : Books) (told told' : Option State) (q : OpenView) → IsRested b new → told' ≡ told → IsOpen q sp.view b told → IsOpen q sp.view new told'
open_rested sp b new told told' q rests same opened = record {
  held = opened.held;
  has = record {
    many = opened.has.many;
    are = λ st is. subst (λ (m : ℕ → Option (List ℕ)). (i : ℕ) → i < length q.places → slice_get (stream_blocks (face sp.view m) q.hold.id) (q.hold.at / sp.view.sup.block_size + i) ≡ Some (slice_index q.places i)) (sym (same_told b new st rests)) (opened.has.are st (sym same ∙ is));
  };
  blocks = subst (λ (x : Books). All (IsData (layout_of x.sup)) q.places) (sym rests) opened.blocks;
  long = opened.long;
  even = opened.even;
  made = λ st is. subst (λ (m : ℕ → Option (List ℕ)). IsPieceOf (λ k. unwrap_or (m k) []) sp.view.sup.block_size q.places (q.hold.at % sp.view.sup.block_size) (take q.done q.bytes)) (sym (same_told b new st rests)) (opened.made st (sym same ∙ is));
  kept = loaded_as q sp.view.sup.block_size b new told told' (λ st is. (st, sym same ∙ is, ap (λ (m : ℕ → Option (List ℕ)). unwrap_or (m (next_place sp.view.sup.block_size q)) []) (same_told b new st rests))) opened.kept;
}

-- what was read of its next block may be forgotten
pub open_unloaded : (sp : SpaceView) (b : Books) (told : Option State) (p : OpenView) → IsOpen p sp b told → IsOpen (record p { loaded = [] }) sp b told
open_unloaded sp b told p opened = record { held = opened.held; has = opened.has; blocks = opened.blocks; long = opened.long; even = opened.even; made = opened.made; kept = inl refl }

-- it was read
pub open_loaded : (sp : SpaceView) (b : Books) (told : Option State) (p : OpenView) (loaded : List ℕ) → p.done < length p.bytes → IsOpen p sp b told → ((st : State) → told ≡ Some st → loaded ≡ told_block b st (next_place sp.sup.block_size p))
    → IsOpen (record p { loaded = loaded }) sp b told
open_loaded sp b told p loaded more opened same = record { held = opened.held; has = opened.has; blocks = opened.blocks; long = opened.long; even = opened.even; made = opened.made; kept = inr (record { more = more; same = same }) }

-- ---- more of a piece is made

-- up to the end of the block, or of the piece
pub even_next : (size at len done n : ℕ) → 0 < size → done < len → n ≡ min (len - done) (size - (at + done) % size) → (done + n ≡ 0) ⊎ ((at + (done + n)) % size ≡ 0) ⊎ (done + n ≡ len)
even_next size at len done n some more is = ⊎_elim (λ lt. inr (inl (whole lt))) (λ le. inr (inr (last le))) (cases_lt (size - (at + done) % size) (len - done))
  where
    whole : size - (at + done) % size < len - done → (at + (done + n)) % size ≡ 0
    whole lt =
        let rest : n ≡ size - (at + done) % size = grind (arith, is, lt) in
        let low : (at + done) % size < size = mod-lt (at + done) some in
        let e : size * ((at + done) / size) + (at + done) % size ≡ at + done = div-add-mod (at + done) size in
        let m : size * ((at + done) / size + 1) ≡ size * ((at + done) / size) + size = omega arith in
        (place_in size ((at + done) / size + 1) 0 (at + (done + n)) some (omega (arith, rest, low, e, m))).1

    last : len - done ≤ size - (at + done) % size → done + n ≡ len
    last le = let rest : n ≡ len - done = grind (arith, is, le) in omega (arith, rest, more)

pub open_more : (sp : SpaceBooks) (b : Books) (told : Option State) (h : Hold) (places bytes more part : List ℕ) (done n index from : ℕ) (fault : Option DeviceFault) → IsOpen (open_of h places bytes done fault) sp.view b told
    → IsNext sp.view.sup.block_size h.at (length bytes) done index from n → length part ≡ n → length more ≡ length bytes → take (done + n) more ≡ take done bytes ++ part
    → ((st : State) → told ≡ Some st → IsPartOf (told_block b st (slice_index places index)) from part) → IsOpen (open_of h places more (done + n) fault) sp.view b told
open_more sp b told h places bytes more part done n index from fault opened s long same taken parts = record {
  held = opened.held;
  has = opened.has;
  blocks = opened.blocks;
  long = same ∙ opened.long;
  even = subst (λ (l : ℕ). (done + n ≡ 0) ⊎ ((h.at + (done + n)) % sp.view.sup.block_size ≡ 0) ⊎ (done + n ≡ l)) (sym same)
      (even_next sp.view.sup.block_size h.at (length bytes) done n s.some s.more (s.count_is ∙ ap (λ (f : ℕ). min (length bytes - done) (sp.view.sup.block_size - f)) (sym (begin_is sp.view.sup.block_size h.at (length bytes) done index from n s))));
  made = λ st is.
      let inside = in_piece sp.view.sup.block_size h.at (length bytes) done index from n s in
      let front : length (take done bytes) ≡ done = length-take-le done bytes (omega (arith, inside)) in
      let start = start_is sp.view.sup.block_size h.at (length bytes) done index from n s in
      let fits = in_it sp.view.sup.block_size h.at (length bytes) done index from n s in
      subst (IsPieceOf (told_block b st) sp.view.sup.block_size places (h.at % sp.view.sup.block_size)) (sym taken)
      (piece_more (told_block b st) sp.view.sup.block_size places (h.at % sp.view.sup.block_size) index from (take done bytes) part (opened.made st is) (omega (arith, start, front)) (omega (arith, fits, long)) (parts st is));
  kept = inl refl;
}

-- what comes behind the made bytes may be anything
pub open_again : (sp : SpaceBooks) (b : Books) (told : Option State) (h : Hold) (places bytes more : List ℕ) (done : ℕ) (fault : Option DeviceFault) → IsOpen (open_of h places bytes done fault) sp.view b told
    → length more ≡ length bytes → take done more ≡ take done bytes → IsOpen (open_of h places more done fault) sp.view b told
open_again sp b told h places bytes more done fault opened same taken = record {
  held = opened.held;
  has = opened.has;
  blocks = opened.blocks;
  long = same ∙ opened.long;
  even = subst (λ (n : ℕ). (done ≡ 0) ⊎ ((h.at + done) % sp.view.sup.block_size ≡ 0) ⊎ (done ≡ n)) (sym same) opened.even;
  made = λ st is. subst (IsPieceOf (told_block b st) sp.view.sup.block_size places (h.at % sp.view.sup.block_size)) (sym taken) (opened.made st is);
  kept = inl refl;
}

-- a fault is noted
pub open_fault : (sp : SpaceView) (b : Books) (told : Option State) (p : OpenView) (fault : Option DeviceFault) → IsOpen p sp b told → IsOpen (record p { fault = fault; loaded = [] }) sp b told
open_fault sp b told p fault opened = record { held = opened.held; has = opened.has; blocks = opened.blocks; long = opened.long; even = opened.even; made = opened.made; kept = inl refl }

-- ---- the one block as a piece

pub part_in_one : (contents : ℕ → List ℕ) (size place from : ℕ) (part : List ℕ) → from + length part ≤ size → IsPieceOf contents size (place ∷ []) from part → IsPartOf (contents place) from part
part_in_one contents size place from part fits piece k lt =
    let at = place_in size 0 (from + k) (from + k) (omega (arith, fits, lt)) (let e : from + k ≡ size * 0 + (from + k) = omega arith in e) in
    sym (ap (λ (i : ℕ). slice_get (contents (slice_index (place ∷ []) i)) ((from + k) % size)) at.0 ∙ ap (slice_get (contents place)) at.1) ∙ piece k lt

module _ (sp : SpaceBooks) (b : Books) (told : Option State) (h : Hold) (places bytes : List ℕ) (done n index from : ℕ) (fault : Option DeviceFault) (opened : IsOpen (open_of h places bytes done fault) sp.view b told)
    (s : IsNext sp.view.sup.block_size h.at (length bytes) done index from n) where
  pub one_place : HasPlaces sp.view b told h.id (h.at + done) n (slice_index places index ∷ [])
  one_place = record {
    many = one_block sp.view.sup.block_size h.at (length bytes) done index from n s;
    are = λ st is i lt.
        let none : i ≡ 0 = omega (arith, lt) in
        let block = block_is sp.view.sup.block_size h.at (length bytes) done index from n s in
        let e : (h.at + done) / sp.view.sup.block_size + i ≡ h.at / sp.view.sup.block_size + index = omega (arith, none, block) in
        ap (slice_get (stream_blocks (face sp.view (newest_map b st)) h.id)) e
        ∙ opened.has.are st is index (index_low sp.view.sup.block_size h.at (length bytes) done index from n s places (opened.has.many ∙ ap (λ (k : ℕ). piece_blocks sp.view.sup.block_size h.at k) (sym opened.long)))
        ∙ ap (λ (j : ℕ). Some (slice_index (slice_index places index ∷ []) j)) (sym none);
  }

  pub in_writing : h.write ≡ true → IsInWriting sp.view.history h.id (h.at + done) n
  in_writing writes = (let inside = in_piece sp.view.sup.block_size h.at (length bytes) done index from n s in let long = opened.long in
      record { hold = h; held = opened.held; writes = writes; id_is = refl; low = omega arith; high = omega (arith, inside, long) })

-- what a disk has is what is read of it
read_of : (told : Option State) (r block : ℕ) (bytes : List ℕ) → ((st : State) → told ≡ Some st → bytes ≡ contents_of st r block) → AreRead told r block bytes
read_of None r block bytes same = tt
read_of (Some st) r block bytes same = same st refl

-- the next block is written whole, or the buffer has what the disk has there
pub read_ready : (sp : SpaceBooks) (b : Books) (told : Option State) (h : Hold) (places bytes : List ℕ) (done : ℕ) (fault : Option DeviceFault) (loaded block : List ℕ) (index from n at size : ℕ) → size ≡ b.sup.block_size → b.sup.block_size ≡ sp.view.sup.block_size → h.at ≡ at
    → IsNext b.sup.block_size at (length bytes) done index from n → IsOpen (open_with h places bytes done fault loaded) sp.view b told → IsSteady b → IsData (layout_of b.sup) (slice_index places index) → newest_in b.groups (slice_index places index) ≡ None → length block ≡ size
    → (min (length bytes - done) (size - (at + done) % size) ≡ size) ⊎ (loaded ≡ block)
    → (length (take (done + n - done) (drop done bytes)) ≡ b.sup.block_size) ⊎ AreRead told (layout_of b.sup).sectors (slice_index places index) block
read_ready sp b told h places bytes done fault loaded block index from n at size same also at_is first opened steady placed apart long ready = ⊎_elim
    (λ whole.
    let count : n ≡ min (length bytes - done) (b.sup.block_size - (at + done) % b.sup.block_size) = first.count_is ∙ ap (λ (k : ℕ). min (length bytes - done) (b.sup.block_size - k)) (sym (begin_is b.sup.block_size at (length bytes) done index from n first)) in
    inl (part_length done n bytes (in_piece b.sup.block_size at (length bytes) done index from n first) ∙ count ∙ subst (λ (k : ℕ). min (length bytes - done) (k - (at + done) % k) ≡ k) same whole))
    (λ is. inr (⊎_elim
    (λ none. absurd (let some = first.some in let zero : length block ≡ 0 = ap length (sym is ∙ none) in omega (arith, some, zero, long, same)))
    (λ loads. read_of told (layout_of b.sup).sectors (slice_index places index) block (λ st there.
    let here : (h.at % sp.view.sup.block_size + done) / sp.view.sup.block_size ≡ index =
    (λ i. (at_is i % sym also i + done) / sym also i) ∙ sym first.index_is in
    sym is ∙ loads.same st there ∙ ap (λ (k : ℕ). told_block b st (slice_index places k)) here ∙ told_contents b st (slice_index places index) steady placed apart))
    opened.kept))
    ready

-- a block that was read into a buffer is what is told there
pub loaded_told : (b new : Books) (told told' : Option State) (place size : ℕ) (into block : List ℕ) (result : Result Unit DeviceFault) → IsRested b new → told' ≡ told → IsSteady b → IsData (layout_of b.sup) place → newest_in b.groups place ≡ None → length into ≡ size
    → OnOk result (AreRead told (layout_of b.sup).sectors place into) → (st : State) → told' ≡ Some st → OnOk result (take size (into ++ drop size block) ≡ told_block new st place)
loaded_told b new told told' place size into block (Err fault) rests same steady placed apart long read st is = tt
loaded_told b new told told' place size into block (Ok done) rests same steady placed apart long read st is =
    let there : told ≡ Some st = sym same ∙ is in
    let bytes : into ≡ contents_of st (layout_of b.sup).sectors place = subst (λ (o : Option State). AreRead o (layout_of b.sup).sectors place into) there read in
    take_at into (drop size block) size long
    ∙ bytes
    ∙ sym (told_contents b st place steady placed apart)
    ∙ sym (ap (λ (m : ℕ → Option (List ℕ)). unwrap_or (m place) []) (same_told b new st rests))

-- what is written next is a whole block, or it was read
ready_next : (size : ℕ) (p : OpenView) → p.hold.write ≡ true → reads_next size p ≡ false → (next_count size p ≡ size) ⊎ (length p.loaded ≡ size)
ready_next size p writes none = ⊎_elim
    (λ less. by_loaded less (nat_eq (length p.loaded) size) refl)
    (λ le. inl (let most : next_count size p ≤ size = grind arith in omega (arith, le, most)))
    (cases_lt (next_count size p) size)
  where
    by_loaded : next_count size p < size → (b : Bool) → nat_eq (length p.loaded) size ≡ b → (next_count size p ≡ size) ⊎ (length p.loaded ≡ size)
    by_loaded less true is = inr (grind (arith, is))
    by_loaded less false is = absurd (
        let one : nat_lt (next_count size p) size ≡ true = grind (arith, less) in
        let bad : reads_next size p ≡ true = (λ i. writes i && one i && not (is i)) in
        cc)

pub ready_of : (size : ℕ) (p : OpenView) (slice block items : List ℕ) (n : ℕ) → p.hold.write ≡ true → reads_next size p ≡ false → p.loaded ≡ take n items → n ≤ length items → block ≡ items → slice ≡ p.bytes
    → (min (length slice - p.done) (size - (p.hold.at + p.done) % size) ≡ size) ⊎ (p.loaded ≡ take size block)
ready_of size p slice block items n writes none loaded low same also = ⊎_elim
    (λ whole. inl (ap (λ (xs : List ℕ). min (length xs - p.done) (size - (p.hold.at + p.done) % size)) also ∙ whole))
    (λ long.
    let e : n ≡ size = sym (length-take-le n items low) ∙ ap length (sym loaded) ∙ long in
    inr (loaded ∙ (λ i. take (e i) (sym same i))))
    (ready_next size p writes none)

-- the place that is read is that of the next block
pub place_read : (size : ℕ) (hold : Hold) (items slice bytes : List ℕ) (done index : ℕ) (fault : Option DeviceFault) (loaded : List ℕ) (p : OpenView) → slice ≡ items → index ≡ (hold.at % size + done) / size → open_with hold items bytes done fault loaded ≡ p
    → slice_index slice index ≡ next_place size p
place_read size hold items slice bytes done index fault loaded p same there is = (λ i. slice_index (same i) (there i)) ∙ ap (next_place size) is

-- what is true of the one block
pub all_one : (P : ℕ → Type 0) (x : ℕ) → P x → All P (x ∷ [])
all_one P x at zero d lt = at
all_one P x at (suc k) d lt = absurd (omega (arith, lt))

-- ---- the next block of a piece was written

module _ {E : Type 0} (sp : SpaceBooks) (b new : Books) (told told' : Option State) (clock clock' : ℕ) (since since' : ℕ → List ℕ → Type 0) (h : Hold) (places bytes : List ℕ) (done n index from : ℕ) (fault : Option DeviceFault) (result : Result Unit E)
    (joined : AreJoined sp b told) (volume : IsOfVolume (sizes_of sp.view.sup) sp.room) (writes : h.write ≡ true) (opened : IsOpen (open_of h places bytes done fault) sp.view b told) (s : IsNext sp.view.sup.block_size h.at (length bytes) done index from n)
    (size : b.sup.block_size ≡ sp.view.sup.block_size) (begun : b.stop ≡ None) (steady : IsSteady b) (rest : new ≡ record b { moment = new.moment; stop = new.stop })
    (only : (c : List ℕ) → since clock c → MayLeave told c) (recovers : (t : ℕ → Bool) (right : Tells told (IsRight b t)) (image : List ℕ) → MayLeave told image → RecoversOne b t right.0 image)
    (others : KeepsOthers (layout_of b.sup).sectors (slice_index places index ∷ []) told told')
    (written : (t0 : Mounted) (adopted : Adoption) → HasCore t0 adopted sp.view b told clock since → IsBehindEntry adopted sp.view → ((st : State) → told ≡ Some st → IsHeldPiece t0 sp.view (newest_map b st) h.id (h.at + done) (length (take (done + n - done) (drop done bytes))) from (slice_index places index ∷ []))
    → IsUnknown (state_after t0 sp.view.history).known h.id (h.at + done) (length (take (done + n - done) (drop done bytes)))
    → HasCore t0 adopted sp.view new told' clock' since' × ((next : State) → told' ≡ Some next → IsHeldPiece t0 sp.view (newest_map new next) h.id (h.at + done) (length (take (done + n - done) (drop done bytes))) from (slice_index places index ∷ [])
    × OnOk result (IsPieceOf (contents_of next (layout_of b.sup).sectors) b.sup.block_size (slice_index places index ∷ []) from (take (done + n - done) (drop done bytes))))) where
  abbrev part : List ℕ
  part = take (done + n - done) (drop done bytes)

  abbrev one : List ℕ
  one = slice_index places index ∷ []

  part_long : length part ≡ n
  part_long = part_length done n bytes (in_piece sp.view.sup.block_size h.at (length bytes) done index from n s)

  some_part : 0 < length part
  some_part = subst (λ (k : ℕ). 0 < k) (sym part_long) (some_bytes sp.view.sup.block_size h.at (length bytes) done index from n s)

  writing : IsInWriting sp.view.history h.id (h.at + done) (length part)
  writing = subst (IsInWriting sp.view.history h.id (h.at + done)) (sym part_long) (in_writing sp b told h places bytes done n index from fault opened s writes)

  has : HasPlaces sp.view b told h.id (h.at + done) (length part) one
  has = subst (λ (k : ℕ). HasPlaces sp.view b told h.id (h.at + done) k one) (sym part_long) (one_place sp b told h places bytes done n index from fault opened s)

  skip_is : from ≡ (h.at + done) % sp.view.sup.block_size
  skip_is = sym (begin_is sp.view.sup.block_size h.at (length bytes) done index from n s)

  pub core_next : (t0 : Mounted) (adopted : Adoption) → HasCore t0 adopted sp.view b told clock since → HasCore t0 adopted sp.view new told' clock' since'
  core_next t0 adopted core = core_written sp b new told told' clock clock' since since' h.id (h.at + done) from one part result joined writing has volume s.some some_part skip_is size begun steady rest only recovers others written t0 adopted core

  pub open_next : (done ≡ 0) ⊎ (from ≡ 0) → IsData (layout_of b.sup) (slice_index places index) → newest_in b.groups (slice_index places index) ≡ None
      → AreJoined sp new told' × IsOpen (open_of h places bytes done fault) sp.view new told' × OnOk result (IsOpen (open_of h places bytes (done + n) fault) sp.view new told')
  open_next even placed apart = (joined_written sp b new told told' clock clock' since since' h.id (h.at + done) from one part result joined writing has volume s.some some_part skip_is size begun steady rest only recovers others written, own, by_result result (λ next is. (pieces next is).1))
    where
      low : index < length places
      low = index_low sp.view.sup.block_size h.at (length bytes) done index from n s places (opened.has.many ∙ ap (λ (k : ℕ). piece_blocks sp.view.sup.block_size h.at k) (sym opened.long))

      own : IsOpen (open_of h places bytes done fault) sp.view new told'
      own = open_own sp b new told told' joined (open_of h places bytes done fault) opened s.some index low rest steady others refl (before sp.view.sup.block_size h.at (length bytes) done index from n s even)

      pieces : (next : State) → (is : told' ≡ Some next) → IsHeldPiece (joined.stands (others next is).0 (others next is).1).t0 sp.view (newest_map new next) h.id (h.at + done) (length part) from one × OnOk result (IsPieceOf (contents_of next (layout_of b.sup).sectors) b.sup.block_size one from part)
      pieces next is = there sp b new told told' clock clock' since since' h.id (h.at + done) from one part result joined writing has volume s.some some_part skip_is size begun steady rest only recovers others written next is

      told_is : (next : State) → told_block new next (slice_index places index) ≡ contents_of next (layout_of b.sup).sectors (slice_index places index)
      told_is next =
          let later : IsSteady (record b { moment = new.moment; stop = new.stop }) = record { valid = steady.valid; empty = steady.empty; follow = steady.follow; phase = steady.phase } in
          subst (λ (x : Books). told_block x next (slice_index places index) ≡ contents_of next (layout_of b.sup).sectors (slice_index places index)) (sym rest)
          (told_contents (record b { moment = new.moment; stop = new.stop }) next (slice_index places index) later placed apart)

      inside : from + length part ≤ b.sup.block_size
      inside = (let fits = in_it sp.view.sup.block_size h.at (length bytes) done index from n s in let long = part_long in omega (arith, fits, long, size))

      by_result : (r : Result Unit E) → ((next : State) → told' ≡ Some next → OnOk r (IsPieceOf (contents_of next (layout_of b.sup).sectors) b.sup.block_size one from part)) → OnOk r (IsOpen (open_of h places bytes (done + n) fault) sp.view new told')
      by_result (Err e) given = tt
      by_result (Ok d) given = open_more sp new told' h places bytes bytes part done n index from fault own s part_long refl (parts_joined done n bytes)
          (λ next is. subst (λ (xs : List ℕ). IsPartOf xs from part) (sym (told_is next)) (part_in_one (contents_of next (layout_of b.sup).sectors) b.sup.block_size (slice_index places index) from part inside (given next is)))

-- ---- what is noted of the next block

module _ (p new : OpenView) (size : ℕ) (made : Result ℕ DeviceFault) (result : Result Unit DeviceFault) (noted : IfOk made (λ n. IsOk result × (new ≡ record p { done = p.done + n; loaded = [] }))) (failed : IfErr made (λ fault. (result ≡ Err fault) × (new ≡ record p { fault = Some fault; loaded = [] }))) where
  -- it stays even, and open
  pub noted_even : 0 < size → p.done < length p.bytes → IsEven size p → IfOk made (λ n. n ≡ min (length p.bytes - p.done) (size - (p.hold.at + p.done) % size)) → IsEven size new
  noted_even some more even count = by_made made noted failed count
    where
      by_made : (m : Result ℕ DeviceFault) → IfOk m (λ n. IsOk result × (new ≡ record p { done = p.done + n; loaded = [] })) → IfErr m (λ fault. (result ≡ Err fault) × (new ≡ record p { fault = Some fault; loaded = [] })) → IfOk m (λ n. n ≡ min (length p.bytes - p.done) (size - (p.hold.at + p.done) % size)) → IsEven size new
      by_made (Ok n) noted failed is = subst (IsEven size) (sym noted.1) (even_next size p.hold.at (length p.bytes) p.done n some more is)
      by_made (Err f) noted failed is = subst (IsEven size) (sym failed.1) even

  pub noted_open : (sp : SpaceView) (b : Books) (told : Option State) → IsOpen p sp b told → IfOk made (λ n. IsOpen (record p { done = p.done + n; loaded = [] }) sp b told) → IsOpen new sp b told
  noted_open sp b told still goes = by_made made noted failed goes
    where
      by_made : (m : Result ℕ DeviceFault) → IfOk m (λ n. IsOk result × (new ≡ record p { done = p.done + n; loaded = [] })) → IfErr m (λ fault. (result ≡ Err fault) × (new ≡ record p { fault = Some fault; loaded = [] })) → IfOk m (λ n. IsOpen (record p { done = p.done + n; loaded = [] }) sp b told) → IsOpen new sp b told
      by_made (Ok n) noted failed goes = subst (λ (v : OpenView). IsOpen v sp b told) (sym noted.1) goes
      by_made (Err f) noted failed goes = subst (λ (v : OpenView). IsOpen v sp b told) (sym failed.1) (open_fault sp b told p (Some f) still)
